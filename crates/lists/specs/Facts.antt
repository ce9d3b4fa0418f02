-- That what holds of every element holds in one way at most: so a type can carry it in a ghost field.
--   all-prop p xs     that P holds of each element of xs, where P holds of each in one way
--   below-prop n xs   that each number of xs is below n
--   distinct-prop xs  that no number stands twice in xs
use mathlib.Core.HLevel.{¬_prop}
use Rattle.std.specs.Prelude.{List, [], ◌∷◌, ℕ, ◌<◌}
use Rattle.std.specs.Coded.{×_prop, Unit-prop, le_prop}
use Rattle.lists.specs.All.{All, Distinct}

pub all-prop : {A : Type 0} {P : A → Type 0} → ((x : A) → IsProp (P x)) → (xs : List A) → IsProp (All P xs)
all-prop p [] = Unit-prop
all-prop p (x ∷ xs) = ×_prop (p x) (all-prop p xs)

pub below-prop : (n : ℕ) (xs : List ℕ) → IsProp (All (λ c. c < n) xs)
below-prop n xs = all-prop (λ c. le_prop) xs

pub distinct-prop : (xs : List ℕ) → IsProp (Distinct xs)
distinct-prop [] = Unit-prop
distinct-prop (x ∷ xs) = ×_prop (all-prop (λ y. ¬_prop) xs) (distinct-prop xs)
