-- Laws of the outcomes: each line is what the code puts in the case that applies.
--   refusal-small, answer-small   a refusal has at most two digits, and so what is printed in the place of a value
--   last-rejected, last_found, last-nothing   the last line, by the verdict and what the decoding answers
use mathlib.Core.Path.{◌≡◌, refl, sym, ap, ◌∙◌}
use mathlib.Core.Bool.{Bool, true, false, true≢false, false≢true}
use mathlib.Core.Option.{Option}
use mathlib.Core.List.{List}
use Prim.Native.Nat.{ℕ, ◌<◌}
use native.Mathlib.Omega.{arith}
use lib.ListN.{get_or}
use Rattle.field.specs.declared.Width.{Width}
use Rattle.field.specs.Modulus.{prime_of}
use Rattle.answers.specs.declared.Refusal.{Refusal}
use Rattle.answers.specs.declared.Refusal.TheVariants.{WrongSize, WrongNumber, WrongLength, WrongStage, NotResidue, WrongDirectory}
use Rattle.answers.specs.declared.Refusal.TheVariants.{AlteredReport, DealerRejected, NoColumn, NoOpening, WrongTable, WrongWidth}
use Rattle.answers.specs.Refusals.{refusal_number, number_of}
use Rattle.answers.specs.Answers.{Answered}
use Rattle.answers.specs.Fits.{decoded, Fitted}
use Rattle.answers.proofs.Fits.{found-is, nothing_is}
use Rattle.tables.specs.Tables.{one_to}
use Rattle.fit.specs.Opening.{opening_of}
use Rattle.lines.specs.Lines.{FewDigits, opened_line}
use Rattle.transcript.specs.Outcomes.{outcome, opening_line, last_line}
use Rattle.std.specs.Prelude.{Ok, Err, Some, None}

-- ---- a refusal has at most two digits
pub refusal-small : (why : Refusal) → refusal_number why < 100
refusal-small WrongSize = omega arith
refusal-small WrongNumber = omega arith
refusal-small WrongLength = omega arith
refusal-small WrongStage = omega arith
refusal-small NotResidue = omega arith
refusal-small WrongDirectory = omega arith
refusal-small AlteredReport = omega arith
refusal-small DealerRejected = omega arith
refusal-small NoColumn = omega arith
refusal-small NoOpening = omega arith
refusal-small WrongTable = omega arith
refusal-small WrongWidth = omega arith

pub answer-small : (a : Answered) (value : ℕ) → FewDigits (outcome (number_of a) value)
answer-small (Ok a) value = tt
answer-small (Err why) value = refusal-small why

-- ---- the opening
module _ (w : Width) (n t : ℕ) (shares : List ℕ) (b : Bool) where
  pub last-rejected : b ≡ false → (k : ℕ) → k ≡ refusal_number DealerRejected → opened_line (Err k) ≡ last_line b w n t shares
  unfolding last_line
  last-rejected e k is = ap (λ m. opened_line (Err m)) is ∙ by b e
    where
      by : (b : Bool) → b ≡ false → opened_line (Err (refusal_number DealerRejected)) ≡ last_line b w n t shares
      by true e = absurd (true≢false e)
      by false e = refl

  -- The dealer is accepted, and the decoding answers r.
  module _ (e : b ≡ true) (r : Fitted) (is : r ≡ decoded (opening_of (prime_of w) t (one_to n) shares)) where
    accepted-line : opening_line (opening_of (prime_of w) t (one_to n) shares) ≡ last_line b w n t shares
    unfolding last_line
    accepted-line = by b e
      where
        by : (b : Bool) → b ≡ true → opening_line (opening_of (prime_of w) t (one_to n) shares) ≡ last_line b w n t shares
        by true e = refl
        by false e = absurd (false≢true e)

    abbrev opened : Option (List ℕ)
    opened = opening_of (prime_of w) t (one_to n) shares

    pub last_found : (f : List ℕ) → r ≡ Ok (Some f) → opened_line (Ok (get_or f 0 0)) ≡ last_line b w n t shares
    last_found f h =
        let finds = found-is opened f (sym is ∙ h) in
        ap (λ v. opened_line (Ok v)) finds.first ∙ ap opening_line (sym finds.is) ∙ accepted-line

    pub last-nothing : r ≡ Ok None → (k : ℕ) → k ≡ refusal_number NoOpening → opened_line (Err k) ≡ last_line b w n t shares
    last-nothing h k e = ap (λ m. opened_line (Err m)) e ∙ ap opening_line (sym (nothing_is opened (sym is ∙ h))) ∙ accepted-line
