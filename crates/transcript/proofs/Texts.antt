-- Laws of the text: the pieces that the code puts are the text, and the buffer afterwards is what `rendering` says.
--   text-pieces, headed          the four pieces; the first two, as they are put
--   text-fine, text-refused      the text by what the reader answered
--   render-small, render-large   the buffer, refused or written
use mathlib.Core.Path.{◌≡◌, sym, ap, ap₂, ◌∙◌}
use mathlib.Core.Bool.{Bool}
use mathlib.Core.List.{List, ◌++◌}
use Prim.Native.Nat.{ℕ, ◌≤◌, ◌<◌}
use native.Mathlib.Omega.{arith}
use borrow.Author.Tests.{le-leb, lt-leb}
use lib.ListN.{length, drop, take-append-drop}
use Rattle.field.specs.declared.Width.{Width}
use Rattle.happy.specs.Happy.{happy_set}
use Rattle.answers.specs.declared.Refusal.{Refusal}
use Rattle.answers.specs.declared.Refusal.TheVariants.{WrongLength}
use Rattle.answers.specs.Refusals.{refusal_number}
use Rattle.record.specs.Record.{reading, numbers_of, Reading}
use Rattle.record.specs.declared.Head.{Head}
use Rattle.text.specs.Letters.{Added, puts}
use Rattle.text.proofs.Letters.{then, puts-within}
use Rattle.lines.specs.Lines.{size_words, size_line, verdict_words, verdict_lines, refused_line}
use Rattle.lines.proofs.Lines.{size-short, verdict-short}
use Rattle.transcript.specs.Outcomes.{is_accepted, last_line}
use Rattle.transcript.specs.Transcript.{lamp_lines, text_of, text_by, text, rendering}
use Rattle.std.specs.Prelude.{Ok, Err}

-- The four pieces of a record that is not refused.
pub text-pieces : (bytes : List ℕ) (w : Width) (n t set : ℕ) (good : Bool)
    → set ≡ happy_set (numbers_of bytes 2) → good ≡ is_accepted set n t
    → ((size_line n t ++ verdict_lines good set n) ++ lamp_lines bytes w n t n) ++ last_line good w n t (numbers_of bytes 3)
    ≡ text_of bytes w n t
unfolding text_of
text-pieces bytes w n t set good e g = rw (g, e)

-- The first two are put, and are short.
pub headed : {n t : ℕ} (set : ℕ) (good : Bool) {out mid new : List ℕ} {r s : ℕ} → n ≤ 16 → t ≤ 3 → 512 ≤ length out
    → (mid, r) ≡ puts out 0 (size_words n t) → length mid ≡ length out → (new, s) ≡ puts mid r (verdict_words good set n)
    → Added out 0 (size_line n t ++ verdict_lines good set n) new s × (s ≤ 80)
headed {n} {t} set good {out} {mid} {new} {r} {s} few small room sized same judged =
    let size = puts-within (size_words n t) out mid 0 r 10 sized (size-short n t (omega arith) (omega arith)) (omega arith) in
    let short : length (verdict_lines good set n) ≤ 70 = omega (arith, verdict-short good set n (omega arith)) in
    let verdict = puts-within (verdict_words good set n) mid new r s 70 judged short (omega (arith, size.1)) in
    (then _ _ _ _ _ _ _ _ size.0 verdict.0, omega (arith, size.1, verdict.1))

-- ---- by what the reader answered
module _ (a : Reading) (bytes : List ℕ) (e : a ≡ reading bytes) where
  pub text-fine : (head : Head) → a ≡ Ok head → text_of bytes head.width head.n head.t ≡ text bytes
  unfolding text text_by
  text-fine head f = rw (← e, f)

  pub text-refused : (why : Refusal) → a ≡ Err why → (k : ℕ) → k ≡ refusal_number why → refused_line k ≡ text bytes
  unfolding text text_by
  text-refused why f k is = rw (← e, f, is)

-- ---- the buffer
pub render-small : (bytes out : List ℕ) → length out < 512 → (out, Err WrongLength) ≡ rendering bytes out
unfolding rendering
render-small bytes out h = rw (lt-leb 512 (length out) h)

pub render-large : (bytes out after : List ℕ) (r : ℕ) → 512 ≤ length out → Added out 0 (text bytes) after r
    → (after, Ok r) ≡ rendering bytes out
unfolding rendering
render-large bytes out after r h d =
    let long : r ≡ length (text bytes) = omega (arith, d.next) in
    let whole : after ≡ text bytes ++ drop (length (text bytes)) out =
    sym (take-append-drop r after) ∙ ap₂ ◌++◌ d.text (d.rest ∙ ap (λ m. drop m out) long) in
    rw (le-leb 512 (length out) h) (ap₂ (λ (x : List ℕ) (y : ℕ). (x, Ok y)) whole long)
