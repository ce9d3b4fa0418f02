-- The numbers below place v are the column's.
use Rattle.bivariate.proofs.by_values.Given as goal
use Rattle.bivariate.specs.Bivariate.{column}
use Rattle.field.specs.Modulus.{prime_of}
use Rattle.std.proofs.Common.{◌≡◌, ℕ, ◌<◌, map, get_or}

abbrev pub invariant-loop-v : goal.invariant-loop-v
invariant-loop-v g l = (k : ℕ) → k < l.v → get_or (map g.N.Number.value l.out) k 0 ≡ get_or (column (prime_of l.w) l.n l.n l.f l.x) k 0
