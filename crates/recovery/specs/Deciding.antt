-- What an answer says of the points that were decoded.
--   Decides Fitting fitted   nothing exactly if no polynomial is fitting, and otherwise the one that is
-- What is fitting is `Near` (fit/specs/Fit) where a column is repaired, and `Opening` (fit/specs/Opening) where shares are opened. Laws:
-- proofs/Deciding.
use Rattle.std.specs.Prelude.{◌≡◌, ◌↔◌, List, ℕ, Some, None, Ok}
use Rattle.std.proofs.Math.Option.{some}
use Rattle.answers.specs.Fits.{decoded, Fitted}

-- Nothing exactly if none is fitting; where one is said to be found, one is; and whichever is fitting is the one answered.
pub record Decides (Fitting : List ℕ → Type 0) (fitted : Fitted) : Type 0 where
  pub nothing : (fitted ≡ Ok None) ↔ ((f : List ℕ) → Fitting f → ⊥)
  pub found : (c : List ℕ) → fitted ≡ Ok (Some c) → (f : List ℕ) × Fitting f
  pub fits : (f : List ℕ) → Fitting f → fitted ≡ decoded (some f)
