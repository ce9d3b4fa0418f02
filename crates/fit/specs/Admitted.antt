-- What `fit` answers for every input.
--   Admitted t least xs ys   what is decoded; fit_tests t least xs ys are the tests for it, in the order of their numbers
--   decoded_if a o           what is answered where the tests gave a: the refusal, or else what was decoded
--   fit_in p t least xs ys   what `fit` answers
-- Laws: proofs/Admitted.
use Rattle.std.specs.Prelude.{List, [], ◌∷◌, ℕ, ◌+◌, ◌*◌, ◌≤◌, leb, eqb, length, Ok, Err}
use Rattle.std.proofs.Math.Option.{Option}
use Rattle.answers.specs.declared.Refusal.TheVariants.{WrongSize, WrongLength}
use Rattle.answers.specs.Refusals.{Test, lowest, Admission}
use Rattle.answers.specs.Fits.{decoded, Fitted}
use Rattle.trial.specs.Results.{Bounded}
use Rattle.fit.specs.Fit.{sent, fit}
use Rattle.fit.specs.Opening.{needed}

-- A degree of at most 3, a value for each of at most 16 points, and 2t + 1 points that must agree: where at most t of those sent may
-- differ besides, at most one polynomial fits.
pub record Admitted (t least : ℕ) (xs ys : List ℕ) : Type 0 where
  pub degree : t ≤ 3
  pub bounded : Bounded xs ys
  pub enough : 2 * t + 1 ≤ least

-- The tests, in the order of their numbers.
abbrev pub fit_tests : ℕ → ℕ → List ℕ → List ℕ → List Test
fit_tests t least xs ys =
    (leb t 3, WrongSize)
    ∷ (eqb (length xs) (length ys), WrongLength)
    ∷ (leb (length xs) 16, WrongLength)
    ∷ (leb (2 * t + 1) least, WrongLength)
    ∷ []

-- The refusal where there is one, and otherwise what was decoded.
abbrev pub decoded_if : Admission → Option (List ℕ) → Fitted
decoded_if (Ok tt) o = decoded o
decoded_if (Err why) o = Err why

-- Refused, or what fits with the need of those sent.
unfoldable pub fit_in : ℕ → ℕ → ℕ → List ℕ → List ℕ → Fitted
fit_in p t least xs ys = decoded_if (lowest (fit_tests t least xs ys)) (fit p t (needed t least (sent p ys)) xs ys)
