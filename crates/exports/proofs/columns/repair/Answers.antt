use Rattle.std.proofs.Common.{map}
use Rattle.std.proofs.lemmas.List.{length-map}
use Rattle.field.specs.Modulus.{prime_of}
use Rattle.field.proofs.Primes.{prime-of}
use Rattle.exports.proofs.Answers.{column-below}
use Rattle.exports.proofs.columns.repair.Goals as goal

pub put_column-requires : goal.put_column-requires
put_column-requires g c =
    let a = c.args in
    let value = g.N.Number.value in
    let w = g.N.Number.WIDTH in
    rw (c.column_fitted.ensures, ← length-map a.column.now value)
    (column-below (prime_of w) (prime-of w) a.t (map value a.xs.now) (map value a.ys.now) (map value a.column.now) _
    g.met.N.Number.holds_residues)
