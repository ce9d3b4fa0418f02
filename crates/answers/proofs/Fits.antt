-- What a fit answers, taken apart again.
--   found-is              where one is found it is the polynomial, and its constant stands first
--   nothing_is            where none is, there is none
use mathlib.Core.Path.{◌≡◌, refl}
use mathlib.Core.Option.{Option, none, some}
use mathlib.Core.List.{List, [], ◌∷◌}
use Prim.Native.Nat.{ℕ}
use lib.ListN.{get_or}
use Rattle.std.specs.Prelude.{Ok, Some, None}
use Rattle.lists.specs.Tabulate.{pad}
use Rattle.answers.specs.Fits.{decoded, constant}

-- The polynomial found, with the constant where the code reads it.
pub record Finds (o : Option (List ℕ)) (coefficients : List ℕ) : Type 0 where
  pub found : List ℕ
  pub is : o ≡ some found
  pub all : coefficients ≡ pad 4 found
  pub first : get_or coefficients 0 0 ≡ constant found

constant-padded : (f : List ℕ) → get_or (pad 4 f) 0 0 ≡ constant f
constant-padded [] = refl
constant-padded (a ∷ f) = refl

pub found-is : (o : Option (List ℕ)) (coefficients : List ℕ) → decoded o ≡ Ok (Some coefficients) → Finds o coefficients
found-is none c e = absurd (cc)
found-is (some f) c e =
    let same : pad 4 f ≡ c = cc in
    record { found = f; is = refl; all = cc; first = rw (← same) (constant-padded f) }

pub nothing_is : (o : Option (List ℕ)) → decoded o ≡ Ok None → o ≡ none
nothing_is none e = refl
nothing_is (some f) e = absurd (cc)
