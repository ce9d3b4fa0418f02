-- Laws of the bytes of numbers: how many, of two lists, and that numbers of a width and their bytes give each other back.
use mathlib.Core.Path.{◌≡◌, refl, sym, ap, ap₂, ◌∙◌}
use mathlib.Core.List.{List, [], ◌∷◌, ◌++◌}
use Prim.Native.Nat.{ℕ, suc, ◌+◌, ◌*◌, ◌/◌, ◌%◌, ◌<◌}
use native.Mathlib.Nat.{mod-lt}
use native.Mathlib.Omega.{arith}
use lib.ListN.{length, get_or}
use Rattle.lists.specs.All.{All}
use Rattle.field.specs.declared.Width.{Width}
use Rattle.field.specs.declared.Width.TheVariants.{Narrow, Wide}
use Rattle.arrays.specs.Limits.{limit_of}
use Rattle.record.specs.Bytes.{paired, number_at, numbers, number_bytes, numbers_by}
use Rattle.record.proofs.Bytes.{length-paired, paired-below, number-place}
use Rattle.writer.specs.Writer.{parted, bytes_of, bytes_by}

-- ---- One as two, for any weight b of the first

module _ (b : ℕ) where
  length-parted : (xs : List ℕ) → length (parted b xs) ≡ 2 * length xs
  unfolding parted
  length-parted [] = refl
  length-parted (x ∷ xs) = ap (λ z. suc (suc z)) (length-parted xs) ∙ omega arith

  parted-append : (xs ys : List ℕ) → parted b (xs ++ ys) ≡ parted b xs ++ parted b ys
  unfolding parted
  parted-append [] ys = refl
  parted-append (x ∷ xs) ys = ap (λ z. x / b % b ∷ x % b ∷ z) (parted-append xs ys)

  parted-below : 0 < b → (xs : List ℕ) → All (λ x. x < b) (parted b xs)
  unfolding parted
  parted-below h [] = tt
  parted-below h (x ∷ xs) = (mod-lt (x / b) h, (mod-lt x h, parted-below h xs))

  paired-parted : ((x : ℕ) → x < b * b → x / b % b * b + x % b ≡ x) → (xs : List ℕ) → All (λ x. x < b * b) xs
      → paired b (parted b xs) ≡ xs
  unfolding paired parted
  paired-parted whole [] h = refl
  paired-parted whole (x ∷ xs) (small, h) = ap₂ ◌∷◌ (whole x small) (paired-parted whole xs h)

  parted-paired : ((high low : ℕ) → high < b → low < b → ((high * b + low) / b % b ≡ high) × ((high * b + low) % b ≡ low))
      → (xs : List ℕ) → All (λ x. x < b) xs → length xs % 2 ≡ 0 → parted b (paired b xs) ≡ xs
  unfolding paired parted
  parted-paired parts [] h even = refl
  parted-paired parts (high ∷ []) h even = absurd (omega arith)
  parted-paired parts (high ∷ low ∷ xs) (u, (v, h)) even =
      let (first, second) = parts high low u v in
      ap₂ ◌∷◌ first (ap₂ ◌∷◌ second (parted-paired parts xs h (omega arith)))

-- ---- The bytes of numbers, for either width

pub length-bytes : (w : Width) (xs : List ℕ) → length (bytes_by w xs) ≡ number_bytes w * length xs
length-bytes Narrow xs = length-parted 256 xs
length-bytes Wide xs = length-parted 256 (parted 65536 xs) ∙ omega (arith, length-parted 65536 xs)

pub bytes-append : (w : Width) (xs ys : List ℕ) → bytes_by w (xs ++ ys) ≡ bytes_by w xs ++ bytes_by w ys
bytes-append Narrow xs ys = parted-append 256 xs ys
bytes-append Wide xs ys = ap bytes_of (parted-append 65536 xs ys) ∙ parted-append 256 (parted 65536 xs) (parted 65536 ys)

pub bytes_below : (w : Width) (xs : List ℕ) → All (λ b. b < 256) (bytes_by w xs)
bytes_below Narrow xs = parted-below 256 (omega arith) xs
bytes_below Wide xs = parted-below 256 (omega arith) (parted 65536 xs)

-- ---- Each gives the other back

pub numbers-bytes : (w : Width) (xs : List ℕ) → All (λ x. x < limit_of w) xs → numbers_by w (bytes_by w xs) ≡ xs
numbers-bytes Narrow xs h = paired-parted 256 (λ x l. omega arith) xs h
numbers-bytes Wide xs h =
    ap (paired 65536) (paired-parted 256 (λ x l. omega arith) (parted 65536 xs) (parted-below 65536 (omega arith) xs))
    ∙ paired-parted 65536 (λ x l. omega arith) xs h

pub bytes-numbers : (w : Width) (bytes : List ℕ) → All (λ b. b < 256) bytes → length bytes % number_bytes w ≡ 0
    → bytes_by w (numbers_by w bytes) ≡ bytes
bytes-numbers Narrow bytes h even = parted-paired 256 (λ high low u v. (omega arith, omega arith)) bytes h even
bytes-numbers Wide bytes h four =
    let even : length (numbers bytes) % 2 ≡ 0 = omega (arith, length-paired 256 bytes) in
    ap bytes_of (parted-paired 65536 (λ high low u v. (omega arith, omega arith)) (numbers bytes) (paired-below 256 bytes h) even)
    ∙ parted-paired 256 (λ high low u v. (omega arith, omega arith)) bytes h (omega arith)

-- The k-th number of the bytes of xs is the k-th of xs.
pub bytes-place : (xs : List ℕ) → All (λ x. x < 65536) xs → (k : ℕ) → k < length xs → number_at (bytes_of xs) (2 * k) ≡ get_or xs k 0
bytes-place xs h k l =
    sym (number-place (bytes_of xs) k (omega (arith, length-bytes Narrow xs))) ∙ ap (λ z. get_or z k 0) (numbers-bytes Narrow xs h)
