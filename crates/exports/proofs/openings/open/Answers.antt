use Rattle.std.proofs.Common.{map}
use Rattle.field.specs.Modulus.{prime_of}
use Rattle.field.proofs.Primes.{prime-of}
use Rattle.tables.specs.Tables.{one_to}
use Rattle.exports.proofs.Opened.{opened-below}
use Rattle.exports.proofs.openings.open.Goals as goal

pub put_opened-requires : goal.put_opened-requires
put_opened-requires g c =
    let a = c.args in
    let value = g.N.Number.value in
    let w = g.N.Number.WIDTH in
    rw c.fitted_plain.ensures
    (opened-below (prime_of w) a.n a.t (one_to a.n) (map value a.shares.now) _ (prime-of w) g.met.N.Number.holds_residues)
