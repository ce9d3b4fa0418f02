-- Tests asked one after the other.
--   in_order            what is found so is the lowest refusal
use mathlib.Core.Path.{◌≡◌, refl}
use mathlib.Core.Bool.{true, false}
use mathlib.Core.List.{List, [], ◌∷◌}
use Rattle.std.specs.Prelude.{Ok, Err}
use Rattle.answers.specs.declared.Refusal.{Refusal}
use Rattle.answers.specs.Refusals.{Test, asked_all, lowest}

all-failed : (why : Refusal) (tests : List Test) → asked_all (Err why) tests ≡ Err why
all-failed why [] = refl
all-failed why (test ∷ tests) = refl

pub in_order : (tests : List Test) → asked_all (Ok tt) tests ≡ lowest tests
in_order [] = refl
in_order ((true, why) ∷ tests) = in_order tests
in_order ((false, why) ∷ tests) = all-failed why tests
