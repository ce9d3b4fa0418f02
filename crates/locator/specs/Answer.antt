-- What is answered for a solution.
--   if_enough p need xs ys o   what o gives, if it agrees with at least `need` of all points
--   quotient_of p t b q e      the numerator, in front of q, divided by the locator of degree b, in front of e, if nothing remains
--   located_by ..              that quotient, if b is at most `spare` and enough agree
-- Laws: proofs/Exact, proofs/Answer.
use Rattle.std.specs.Prelude.{cond, List, [], ◌∷◌, ℕ, ◌+◌, leb, get_or, take}
use Rattle.std.proofs.Math.Option.{Option, none, some}
use Rattle.field.specs.Arithmetic.{inv}
use Rattle.trial.specs.Trial.{first_fitting}
use Rattle.locator.specs.Quotient.{exact_quotient}

-- Remainder zero alone does not make enough points agree.
abbrev pub if_enough : ℕ → ℕ → List ℕ → List ℕ → Option (List ℕ) → Option (List ℕ)
if_enough p need xs ys none = none
if_enough p need xs ys (some f) = first_fitting p need xs ys (f ∷ [])

-- The quotient of the numerator by the locator.
abbrev pub quotient_of : ℕ → ℕ → ℕ → List ℕ → List ℕ → Option (List ℕ)
quotient_of p t b q e = exact_quotient p (inv p (get_or e b 0)) (take (b + 1) e) (t + 1) (take (b + t + 1) q)

-- The answer, where at most `spare` of the points sent may be wrong.
unfoldable pub located_by : ℕ → ℕ → ℕ → ℕ → List ℕ → List ℕ → ℕ → List ℕ → List ℕ → Option (List ℕ)
located_by p t need spare xs ys b q e = cond (leb b spare) (if_enough p need xs ys (quotient_of p t b q e)) none
