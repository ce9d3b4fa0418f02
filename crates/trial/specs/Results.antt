-- What the code asks for, and what it answers.
--   Bounded xs ys                points that can be tried: two lists of one length, at most 16
--   result_of o                  what the code answers for what was found, or for nothing
-- Laws: proofs/Results.
use Rattle.std.specs.Prelude.{◌≡◌, List, ℕ, ◌≤◌, length, Option, Some, None}
use Rattle.std.proofs.Math.Option as math
use Rattle.lists.specs.Tabulate.{pad}

-- A value for each point, and so few points that a search can go through them by calling itself once for each.
pub record Bounded (xs ys : List ℕ) : Type 0 where
  pub lengths : length xs ≡ length ys
  pub most : length xs ≤ 16

-- The coefficients with 0 behind them, or none.
abbrev pub result_of : math.Option (List ℕ) → Option (List ℕ)
result_of math.none = None
result_of (math.some f) = Some (pad 4 f)
