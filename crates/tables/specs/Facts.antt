-- That a list is a table holds in one way at most: so a type can carry it in a ghost field.
--   table-prop p n T
use native.Mathlib.Nat.{ℕ_set}
use mathlib.Core.HLevel.{¬_prop}
use Rattle.std.specs.Prelude.{List, ℕ}
use Rattle.lists.specs.Facts.{all-prop, below-prop, distinct-prop}
use Rattle.tables.specs.Tables.{IsTable}

pub table-prop : (p n : ℕ) (T : List ℕ) → IsProp (IsTable p n T)
table-prop p n T a b i = record {
  size = ℕ_set _ _ a.size b.size i;
  below = below-prop p T a.below b.below i;
  not_zero = all-prop (λ x. ¬_prop) T a.not_zero b.not_zero i;
  once = distinct-prop T a.once b.once i;
}
