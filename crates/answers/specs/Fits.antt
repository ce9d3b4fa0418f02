-- What a fit answers.
--   Fitted       four coefficients, that none fit, or why nothing was decoded
--   decoded o    the answer for the polynomial that fits, or for none
--   constant f   the constant of a polynomial
use Rattle.std.proofs.Math.Option as math
use Rattle.std.specs.Prelude.{List, ℕ, get_or, Option, Some, None, Result, Ok}
use Rattle.lists.specs.Tabulate.{pad}
use Rattle.answers.specs.declared.Refusal.{Refusal}

-- The coefficients, the constant first; that none fit; or why there was nothing to decode.
abbrev pub Fitted : Type 0
Fitted = Result (Option (List ℕ)) Refusal

-- The coefficients with 0 behind them, or none.
abbrev pub decoded : math.Option (List ℕ) → Fitted
decoded math.none = Ok None
decoded (math.some f) = Ok (Some (pad 4 f))

-- The constant stands first.
abbrev pub constant : List ℕ → ℕ
constant f = get_or f 0 0
