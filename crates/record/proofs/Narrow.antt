-- Laws of the width: what byte 0 tells, and that a reader of records of two-byte numbers alone answers the same about these and refuses
-- every wide one with 1.
use mathlib.Core.Path.{◌≡◌, sym, ap, ap₂, ◌∙◌}
use mathlib.Core.Logic.{⊎_elim}
use mathlib.Core.Bool.{true, false}
use mathlib.Core.Option.{some}
use mathlib.Core.List.{List, ◌∷◌}
use Prim.Native.Nat.{ℕ, ◌+◌, ◌-◌, ◌≤◌, ◌<◌}
use native.Mathlib.Omega.{arith}
use lib.ListN.{length, get_or}
use borrow.Author.Tests.{lt-ltb, le-ltb}
use Rattle.lists.proofs.Cases.{le-or-lt}
use Rattle.std.proofs.lemmas.Bool.{cases_Bool}
use Rattle.field.specs.declared.Width.{Width}
use Rattle.field.specs.declared.Width.TheVariants.{Narrow, Wide}
use Rattle.answers.specs.declared.Refusal.TheVariants.{WrongSize}
use Rattle.parties.specs.Parties.{sizes}
use Rattle.parties.proofs.Parties.{sizes-facts}
use Rattle.record.specs.Record.{width_of, mark, n_of, t_of, IsRecord, reading_as, reading, reading_narrow}
use Rattle.record.proofs.Answers.{as-size}
use Rattle.std.specs.Prelude.{Err}
use Rattle.answers.specs.Refusals.{number_of}

-- ---- What byte 0 tells
module _ (bytes : List ℕ) where
  -- Below 128: a record of two-byte numbers, and it is n.
  module _ (h : get_or bytes 0 0 < 128) where
    pub width_narrow : width_of bytes ≡ Narrow
    unfolding width_of
    width_narrow = rw (lt-ltb (get_or bytes 0 0) 128 h)

    pub n-narrow : n_of bytes ≡ get_or bytes 0 0
    n-narrow = ap (λ w. get_or bytes 0 0 - mark w) width_narrow ∙ omega arith

  -- From 128 up: a wide one, and n is what is above.
  module _ (h : 128 ≤ get_or bytes 0 0) where
    pub width-wide : width_of bytes ≡ Wide
    unfolding width_of
    width-wide = rw (le-ltb (get_or bytes 0 0) 128 h)

    pub n-wide : n_of bytes ≡ get_or bytes 0 0 - 128
    n-wide = ap (λ w. get_or bytes 0 0 - mark w) width-wide

  -- The two together are byte 0.
  pub byte-0 : mark (width_of bytes) + n_of bytes ≡ get_or bytes 0 0
  byte-0 =
      ⊎_elim
      (λ h. ap (λ w. mark w + (get_or bytes 0 0 - mark w)) (width-wide h) ∙ omega arith)
      (λ h. ap (λ w. mark w + (get_or bytes 0 0 - mark w)) (width_narrow h) ∙ omega arith)
      (le-or-lt 128 (get_or bytes 0 0))

-- What is marked is told again.
pub mark-width : (w : Width) (n : ℕ) (rest : List ℕ) → n < 128 → width_of ((mark w + n) ∷ rest) ≡ w
mark-width Narrow n rest h = width_narrow ((0 + n) ∷ rest) (omega arith)
mark-width Wide n rest h = width-wide ((128 + n) ∷ rest) (omega arith)

pub mark-n : (w : Width) (n : ℕ) (rest : List ℕ) → n < 128 → n_of ((mark w + n) ∷ rest) ≡ n
mark-n w n rest h = ap (λ v. mark w + n - mark v) (mark-width w n rest h) ∙ omega arith

-- ---- As the code reads

pub read-as-narrow : (bytes : List ℕ) → get_or bytes 0 0 < 128 → reading_as bytes Narrow (get_or bytes 0 0) (t_of bytes) ≡ reading bytes
unfolding reading
read-as-narrow bytes h = ap₂ (λ w n. reading_as bytes w n (t_of bytes)) (sym (width_narrow bytes h)) (sym (n-narrow bytes h))

pub read-as-wide : (bytes : List ℕ) → 128 ≤ get_or bytes 0 0
    → reading_as bytes Wide (get_or bytes 0 0 - 128) (t_of bytes) ≡ reading bytes
unfolding reading
read-as-wide bytes h = ap₂ (λ w n. reading_as bytes w n (t_of bytes)) (sym (width-wide bytes h)) (sym (n-wide bytes h))

-- ---- "a reader of old ones alone meets one as size refusal 1"

-- On what is not wide it answers as the reader of both.
pub narrow-same : (bytes : List ℕ) → get_or bytes 0 0 < 128 → reading_narrow bytes ≡ reading bytes
unfolding reading_narrow
narrow-same bytes h = read-as-narrow bytes h

-- From 128 up no byte 0 is a legal n.
above-sizes : (n t : ℕ) → 128 ≤ n → sizes n t ≡ false
above-sizes n t h =
    ⊎_elim (λ (e : sizes n t ≡ true). let (low, high, four, most) = sizes-facts n t e in absurd (omega arith)) (λ e. e)
    (cases_Bool (sizes n t))

pub narrow-refuses : (bytes : List ℕ) → 2 ≤ length bytes → 128 ≤ get_or bytes 0 0 → reading_narrow bytes ≡ Err WrongSize
unfolding reading_narrow
narrow-refuses bytes two h = as-size bytes Narrow (get_or bytes 0 0) (t_of bytes) two (above-sizes _ _ h)

-- So does every wide record.
pub wide-refused : (bytes : List ℕ) → IsRecord bytes → width_of bytes ≡ Wide → number_of (reading_narrow bytes) ≡ some 1
wide-refused bytes r e =
    ⊎_elim
    (λ h. ap number_of (narrow-refuses bytes r.two h))
    (λ h. let e₂ = width_narrow bytes h in absurd (cc))
    (le-or-lt 128 (get_or bytes 0 0))
