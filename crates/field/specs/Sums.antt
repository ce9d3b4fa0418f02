-- How large Horner's sums get where they are not reduced.
--   sum_below w k   a sum into which k coefficients have come is below this
-- Laws: proofs/Sums.
use Rattle.std.specs.Prelude.{ℕ, zero, suc, ◌+◌, ◌*◌}
use Rattle.field.specs.declared.Width.{Width}
use Rattle.field.specs.declared.Width.TheVariants.{Narrow, Wide}

-- A coefficient more takes sixteen bits more, or, folded, 2³¹ more.
abbrev pub sum_below : Width → ℕ → ℕ
sum_below Narrow zero = 1
sum_below Narrow (suc k) = 65536 * sum_below Narrow k
sum_below Wide zero = 1
sum_below Wide (suc k) = 2147483648 + sum_below Wide k
