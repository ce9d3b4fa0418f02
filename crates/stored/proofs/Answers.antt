-- Which answer is given when, as the code finds it, and in the protocol's numbers. The cases of a call exclude each other and are all there
-- are, so that each number is given exactly in its own.
--   share-residue, share-none                        whether a number is a share
--   write-length, write-residue, write_done          a writing; write-3, write-5, write-none: its numbers
--   six-written                                      a list of six, written over
--   width_back                                       the width that the first byte names
--   read_length, read-prime, read-zero, read_named   a reading; read-3, read-6, read-5, read_none: its numbers
--   old-length, old-named                            a reading of an old share; old-3, old-5, old-none: its numbers
use mathlib.Core.Path.{◌≡◌, refl, sym, ap, ap₂, ◌∙◌}
use mathlib.Core.Logic.{⊎_elim}
use mathlib.Core.Option.{none, some}
use mathlib.Core.List.{List, [], ◌∷◌}
use Prim.Native.Nat.{ℕ, ◌-◌, ◌<◌, ◌≤◌}
use native.Mathlib.Omega.{arith}
use borrow.Author.Tests.{eq-eqb, ne_eqb, lt-ltb, le-ltb, le-leb, lt-leb}
use lib.ListN.{length, get_or, set}
use borrow.Rule.Slice.PartMut.{put_mid}
use Rattle.lists.proofs.Cases.{le-or-lt}
use Rattle.lists.proofs.InPlace.{put_rest}
use Rattle.field.specs.declared.Width.{Width}
use Rattle.field.specs.declared.Width.TheVariants.{Narrow, Wide}
use Rattle.field.specs.Modulus.{prime_of, width_number}
use Rattle.answers.specs.declared.Refusal.TheVariants.{WrongLength, NotResidue, WrongDirectory}
use Rattle.stored.specs.Stored.{share_bytes, width_named, share_number, old_number, share}
use Rattle.stored.specs.Stored.{write_share, share_of, read_share, old_share}
use Rattle.std.specs.Prelude.{Ok, Err}
use Rattle.answers.specs.Refusals.{number_of}

-- ---- A number that was stored for a prime
module _ (w : Width) (v : ℕ) where
  pub share-residue : v < prime_of w → share_of w v ≡ share w v
  share-residue h = rw (lt-ltb v (prime_of w) h)

  pub share-none : prime_of w ≤ v → share_of w v ≡ Err NotResidue
  share-none h = rw (le-ltb v (prime_of w) h)

-- ---- Writing
module _ (w : Width) (v : ℕ) (out : List ℕ) where
  pub write-length : (length out ≡ 6 → ⊥) → write_share w v out ≡ (out, Err WrongLength)
  unfolding write_share
  write-length d = rw (ne_eqb (length out) 6 d)

  pub write-residue : length out ≡ 6 → prime_of w ≤ v → write_share w v out ≡ (out, Err NotResidue)
  unfolding write_share
  write-residue six h = rw (eq-eqb (length out) 6 six, le-ltb v (prime_of w) h)

  pub write_done : length out ≡ 6 → v < prime_of w → write_share w v out ≡ (share_bytes w v, Ok 6)
  unfolding write_share
  write_done six h = rw (eq-eqb (length out) 6 six, lt-ltb v (prime_of w) h)

  -- The numbers, in order; a refused buffer is as it was.
  pub write-3 : (length out ≡ 6 → ⊥) → (number_of (write_share w v out).1 ≡ some 3) × ((write_share w v out).0 ≡ out)
  write-3 d = (ap (λ r. number_of r.1) (write-length d), ap (λ r. r.0) (write-length d))

  pub write-5 : length out ≡ 6 → prime_of w ≤ v → (number_of (write_share w v out).1 ≡ some 5) × ((write_share w v out).0 ≡ out)
  write-5 six h = (ap (λ r. number_of r.1) (write-residue six h), ap (λ r. r.0) (write-residue six h))

  pub write-none : length out ≡ 6 → v < prime_of w → number_of (write_share w v out).1 ≡ none
  write-none six h = ap (λ r. number_of r.1) (write_done six h)

-- A list of six that is written over: two bytes, and the rest.
pub six-written : (out : List ℕ) (a b : ℕ) (part : List ℕ) → length out ≡ 6
    → put_mid 2 (length (set (set out 0 a) 1 b) - 2) (set (set out 0 a) 1 b) part ≡ a ∷ b ∷ part
six-written [] a b part l = absurd (omega arith)
six-written (x ∷ []) a b part l = absurd (omega arith)
six-written (x ∷ y ∷ out) a b part l = put_rest 2 (a ∷ b ∷ out) part

-- ---- The first byte's width

-- The width that a byte names is the one whose number it is, which is 0 or 1.
pub width_back : (w : Width) (b : ℕ) → b ≡ width_number w → (width_named b ≡ w) × (b ≤ 1)
width_back Narrow b e = (ap width_named e, omega arith)
width_back Wide b e = (ap width_named e, omega arith)

-- ---- Reading
module _ (bs : List ℕ) where
  pub read_length : (length bs ≡ 6 → ⊥) → read_share bs ≡ Err WrongLength
  unfolding read_share
  read_length d = rw (ne_eqb (length bs) 6 d)

  module _ (six : length bs ≡ 6) where
    pub read-prime : 1 < get_or bs 0 0 → read_share bs ≡ Err WrongDirectory
    unfolding read_share
    read-prime h = rw (eq-eqb (length bs) 6 six, lt-leb (get_or bs 0 0) 1 h)

    pub read-zero : get_or bs 0 0 ≤ 1 → (get_or bs 1 0 ≡ 0 → ⊥) → read_share bs ≡ Err WrongDirectory
    unfolding read_share
    read-zero h d = rw (eq-eqb (length bs) 6 six, le-leb (get_or bs 0 0) 1 h, ne_eqb (get_or bs 1 0) 0 d)

    pub read_named : get_or bs 0 0 ≤ 1 → get_or bs 1 0 ≡ 0 → (w : Width) (v : ℕ) → w ≡ width_named (get_or bs 0 0) → v ≡ share_number bs
        → read_share bs ≡ share_of w v
    unfolding read_share
    read_named h z w v e f =
        rw (eq-eqb (length bs) 6 six, le-leb (get_or bs 0 0) 1 h, eq-eqb (get_or bs 1 0) 0 z) (ap₂ share_of (sym e) (sym f))

  -- The numbers, in order: 3 for the length, 6 for the first two bytes, 5 for the number; none where they are a share.
  pub read-3 : (length bs ≡ 6 → ⊥) → number_of (read_share bs) ≡ some 3
  read-3 d = ap number_of (read_length d)

  module _ (six : length bs ≡ 6) where
    pub read-6 : ((get_or bs 0 0 ≤ 1) × (get_or bs 1 0 ≡ 0) → ⊥) → number_of (read_share bs) ≡ some 6
    read-6 d =
        ⊎_elim
        (λ h. ap number_of (read-zero six h (λ z. d (h, z))))
        (λ h. ap number_of (read-prime six h))
        (le-or-lt (get_or bs 0 0) 1)

    module _ (w : Width) (first : get_or bs 0 0 ≡ width_number w) (second : get_or bs 1 0 ≡ 0) where
      read_by : read_share bs ≡ share_of w (share_number bs)
      read_by = let (named, one) = width_back w (get_or bs 0 0) first in read_named six one second w (share_number bs) (sym named) refl

      pub read-5 : prime_of w ≤ share_number bs → number_of (read_share bs) ≡ some 5
      read-5 h = ap number_of (read_by ∙ share-none w (share_number bs) h)

      pub read_none : share_number bs < prime_of w
          → (number_of (read_share bs) ≡ none) × (read_share bs ≡ share w (share_number bs))
      read_none h =
          let share = read_by ∙ share-residue w (share_number bs) h in
          (ap number_of share, share)

-- ---- An old share
module _ (bs : List ℕ) where
  pub old-length : (length bs ≡ 2 → ⊥) → old_share bs ≡ Err WrongLength
  unfolding old_share
  old-length d = rw (ne_eqb (length bs) 2 d)

  pub old-named : length bs ≡ 2 → (v : ℕ) → v ≡ old_number bs → old_share bs ≡ share_of Narrow v
  unfolding old_share
  old-named two v e = rw (eq-eqb (length bs) 2 two) (ap (share_of Narrow) (sym e))

  -- The numbers, in order, by the prime 65,521.
  pub old-3 : (length bs ≡ 2 → ⊥) → number_of (old_share bs) ≡ some 3
  old-3 d = ap number_of (old-length d)

  pub old-5 : length bs ≡ 2 → 65521 ≤ old_number bs → number_of (old_share bs) ≡ some 5
  old-5 two h = ap number_of (old-named two (old_number bs) refl ∙ share-none Narrow (old_number bs) h)

  pub old-none : length bs ≡ 2 → old_number bs < 65521
      → (number_of (old_share bs) ≡ none) × (old_share bs ≡ share Narrow (old_number bs))
  old-none two h =
      let share = old-named two (old_number bs) refl ∙ share-residue Narrow (old_number bs) h in
      (ap number_of share, share)
