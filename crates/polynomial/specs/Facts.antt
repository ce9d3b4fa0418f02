-- That points are distinct residues holds in one way at most: so a type can carry it in a ghost field.
--   points-prop p xs
use Rattle.std.specs.Prelude.{List, ℕ}
use Rattle.std.specs.Coded.{×_prop}
use Rattle.lists.specs.Facts.{below-prop, distinct-prop}
use Rattle.polynomial.specs.Polynomial.{Points}

pub points-prop : (p : ℕ) (xs : List ℕ) → IsProp (Points p xs)
points-prop p xs = ×_prop (below-prop p xs) (distinct-prop xs)
