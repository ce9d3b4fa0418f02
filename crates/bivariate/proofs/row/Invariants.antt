-- What is written, and the row of the blocks that are left, make up the row.
use Rattle.bivariate.proofs.Loops.{RowLoop}
use Rattle.bivariate.proofs.row.Given as goal
use Rattle.field.specs.Modulus.{prime_of}
use Rattle.std.proofs.Common.{map}

abbrev pub invariant-loop-place : goal.invariant-loop-place
invariant-loop-place g l = RowLoop (prime_of l.w) l.f l.y l.n (map g.N.Number.value l.out) l.place-index l.rest
