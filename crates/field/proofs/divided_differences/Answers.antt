-- `field::divided_differences` meets its contract: rises are those between the values, and coefficients of residues are residues.
use Rattle.field.proofs.Primes.{positive}
use Rattle.field.proofs.Slopes.{by-rises, newton-residues}
use Rattle.field.proofs.divided_differences.Goals as goal
use Rattle.field.specs.Differences.{newton}
use Rattle.field.specs.Modulus.{prime_of}
use Rattle.std.proofs.Common.{◌≡◌, arith}

pub returns : goal.returns
returns c =
    let p = prime_of c.args.w in
    let k = by-rises p c.args.x c.args.y (omega arith) (omega arith) in
    let found : c.from_rises.result ≡ newton p c.args.x c.args.y = cc in
    (found, rw found (newton-residues p (positive c.args.w) c.args.x c.args.y c.requires.1))
