-- The rule for openings, where values may be missing. A column is repaired by the other rule, `Near` of specs/Fit: at most t of all
-- points differ.
--   wrong p f xs ys       how many of the points sent differ from f
--   Opening p t xs ys f   f has degree at most t, at least 2t + 1 points agree with it, and at most t of those sent differ
--   needed t least s      how many of s values sent must agree where `least` must, and all but t
--   opening_of p t xs ys  the polynomial that opens, if one does
-- Laws: proofs/Opening.
use Rattle.std.specs.Prelude.{not, List, ℕ, suc, ◌+◌, ◌*◌, ◌-◌, ◌≤◌, max}
use Rattle.std.proofs.Math.Option.{Option}
use Rattle.lists.specs.Choices.{count}
use Rattle.polynomial.specs.Polynomial.{Poly}
use Rattle.trial.specs.Trial.{meets, hits, points_sent}
use Rattle.fit.specs.Fit.{sent, fit}

-- How many of the points sent differ from f.
unfoldable pub wrong : ℕ → List ℕ → List ℕ → List ℕ → ℕ
wrong p f xs ys = count (λ q. not (meets p f q)) (points_sent p xs ys)

-- "an opening fits when at least 2t+1 published shares agree with the polynomial and at most t of those sent differ"
pub record Opening (p t : ℕ) (xs ys f : List ℕ) : Type 0 where
  pub poly : Poly p (suc t) f
  pub many : 2 * t + 1 ≤ hits p f xs ys
  pub few : wrong p f xs ys ≤ t

-- At least `least`, and all but t of those sent.
abbrev pub needed : ℕ → ℕ → ℕ → ℕ
needed t least s = max least (s - t)

-- What is decoded where 2t + 1 must agree, and all but t of those sent.
abbrev pub opening_of : ℕ → ℕ → List ℕ → List ℕ → Option (List ℕ)
opening_of p t xs ys = fit p t (needed t (2 * t + 1) (sent p ys)) xs ys
