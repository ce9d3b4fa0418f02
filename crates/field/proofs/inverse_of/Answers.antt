-- `field::inverse_of` meets its contract: 0 and 1 are their own inverses, and a remainder of 1 gives one at once.
use Rattle.field.proofs.Inverse.{inv-own, inv-at-once, inv-lt}
use Rattle.field.proofs.Primes.{prime-of}
use Rattle.field.proofs.inverse_of.Goals as goal
use Rattle.field.specs.Modulus.{prime_of}
use Rattle.std.proofs.Common.{arith}

pub returns-then-a-le1 : goal.returns-then-a-le1
returns-then-a-le1 c = (inv-own _ _ (prime-of c.args.w).two c.if-a-le1.true, c.requires)

pub returns-then-p-a-eq1 : goal.returns-then-p-a-eq1
returns-then-p-a-eq1 c =
    let p = prime_of c.args.w in
    let P = prime-of c.args.w in
    grind (arith, inv-at-once p P c.args.a, inv-lt p P c.args.a)
