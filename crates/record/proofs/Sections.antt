-- Laws of the sections' sizes and of the directory: all is small, section k lies before the record's end, and the directory has its offset
-- and length.
use mathlib.Core.Path.{◌≡◌, refl, sym, ap, ap₂, ◌∙◌}
use mathlib.Core.Bool.{true, false}
use mathlib.Core.List.{List, [], ◌∷◌}
use Prim.Native.Nat.{ℕ, zero, suc, ◌+◌, ◌*◌, ◌≤◌, ◌<◌}
use native.Mathlib.Nat.{mul-le-mul, mul_assoc}
use native.Mathlib.Omega.{arith}
use lib.ListN.{length, get_or, replicate}
use Rattle.lists.specs.All.{All}
use Rattle.field.specs.declared.Width.{Width}
use Rattle.field.specs.declared.Width.TheVariants.{Narrow, Wide}
use Rattle.parties.specs.Parties.{sizes}
use Rattle.parties.proofs.Parties.{sizes-facts}
use Rattle.record.specs.Bytes.{number_bytes}
use Rattle.record.specs.Record.{section_length, section_start, directory, directory_or_zeros}

-- ---- All is small: deals and round two are the only sections whose count is a product
module _ (n t : ℕ) (e : sizes n t ≡ true) where
  pub counts-small : (2 * n * (t + 1) ≤ 128) × (2 * n * n ≤ 512) × (n ≤ 16)
  counts-small =
      let (low, high, four, most) = sizes-facts n t e in (
        mul-le-mul {n₁ = 2 * n} {m₁ = t + 1} {n₂ = 32} {m₂ = 4} (omega arith) (omega arith),
        mul-le-mul {n₁ = 2 * n} {m₁ = n} {n₂ = 32} {m₂ = 16} (omega arith) (omega arith),
        most,
      )

  -- As the code multiplies: by 2 or by 4.
  pub lengths-small : (each : ℕ) → each ≤ 4 → (each * (2 * n * (t + 1)) ≤ 512) × (each * (2 * n * n) ≤ 2048) × (each * n ≤ 64)
  lengths-small each h =
      let (deals, pairs, most) = counts-small in (
        mul-le-mul {n₁ = each} {m₁ = 2 * n * (t + 1)} {n₂ = 4} {m₂ = 128} h deals,
        mul-le-mul {n₁ = each} {m₁ = 2 * n * n} {n₂ = 4} {m₂ = 512} h pairs,
        mul-le-mul {n₁ = each} {m₁ = n} {n₂ = 4} {m₂ = 16} h most,
      )

  -- The longest record is that of 16 parties, 3 of them faulty.
  pub record-small : (w : Width) → section_start w n t 4 ≤ 2674
  record-small Narrow = omega (arith, counts-small)
  record-small Wide = omega (arith, counts-small)

  pub narrow-small : section_start Narrow n t 4 ≤ 1362
  narrow-small = omega (arith, counts-small)

  pub directory-below : (w : Width) → All (λ x. x < 65536) (directory w n t)
  unfolding directory
  directory-below Narrow =
      let (deals, pairs, each) = counts-small in
      (omega arith, (omega arith, (omega arith, (omega arith, (omega arith, (omega arith, (omega arith, (omega arith, tt))))))))
  directory-below Wide =
      let (deals, pairs, each) = counts-small in
      (omega arith, (omega arith, (omega arith, (omega arith, (omega arith, (omega arith, (omega arith, (omega arith, tt))))))))

-- ---- The directory
module _ (w : Width) (n t : ℕ) where
  pub length-directory : length (directory w n t) ≡ 8
  unfolding directory
  length-directory = refl

  pub directory-offset : (k : ℕ) → k ≤ 3 → get_or (directory w n t) (2 * k) 0 ≡ section_start w n t k
  unfolding directory
  directory-offset zero h = refl
  directory-offset (suc zero) h = refl
  directory-offset (suc (suc zero)) h = refl
  directory-offset (suc (suc (suc zero))) h = refl
  directory-offset (suc (suc (suc (suc k)))) h = absurd (omega arith)

  pub directory-count : (k : ℕ) → k ≤ 3 → get_or (directory w n t) (2 * k + 1) 0 ≡ section_length w n t k
  unfolding directory
  directory-count zero h = refl
  directory-count (suc zero) h = refl
  directory-count (suc (suc zero)) h = refl
  directory-count (suc (suc (suc zero))) h = refl
  directory-count (suc (suc (suc (suc k)))) h = absurd (omega arith)

  -- As the code makes it: for legal sizes, and for any others.
  pub directory-legal : sizes n t ≡ true → directory_or_zeros w n t ≡ directory w n t
  unfolding directory_or_zeros
  directory-legal e = rw e

  pub directory-zeros : sizes n t ≡ false → replicate 8 0 ≡ directory_or_zeros w n t
  unfolding directory_or_zeros
  directory-zeros e = rw e

  -- By how many bytes a number has.
  abbrev made : ℕ → List ℕ
  made each =
      let deals : ℕ = each * (2 * n * (t + 1)) in
      let pairs : ℕ = each * (2 * n * n) in
      18 ∷ deals ∷ (18 + deals) ∷ pairs ∷ (18 + deals + pairs) ∷ (2 * n) ∷ (18 + deals + pairs + 2 * n) ∷ (each * n) ∷ []

  pub directory-made : (each : ℕ) → each ≡ number_bytes w → made each ≡ directory w n t
  unfolding directory
  directory-made each e = ap made e

  -- The last offset and the last length of legal sizes give the record's end.
  pub directory-end : sizes n t ≡ true → (list : List ℕ) (last long : ℕ) → list ≡ directory_or_zeros w n t
      → last ≡ get_or list 6 0 → long ≡ get_or list 7 0 → (list ≡ directory w n t) × (last + long ≡ section_start w n t 4)
  unfolding directory
  directory-end legal list last long e o c =
      let whole = e ∙ directory-legal legal in
      (whole, ap₂ ◌+◌ o c ∙ ap (λ z. get_or z 6 0 + get_or z 7 0) whole)

  pub record-head : 18 ≤ section_start w n t 4
  record-head = omega arith

  -- ---- Section k ends where the next one starts, and not behind the record
  pub section-before-end : (k : ℕ) → k ≤ 3 → section_start w n t k + section_length w n t k ≤ section_start w n t 4
  section-before-end zero h = omega arith
  section-before-end (suc zero) h = omega arith
  section-before-end (suc (suc zero)) h = omega arith
  section-before-end (suc (suc (suc zero))) h = omega arith
  section-before-end (suc (suc (suc (suc k)))) h = absurd (omega arith)

-- ---- The lengths in the protocol's words: with two bytes for a number 4n(t+1), 4n², 2n and 2n, with four 8n(t+1), 8n², 2n and 4n
module _ (n t : ℕ) where
  grouped : (a b c k : ℕ) → a * b ≡ c → a * (b * n * k) ≡ c * n * k
  grouped a b c k e = sym (mul_assoc a (b * n) k) ∙ ap (λ z. z * k) (sym (mul_assoc a b n) ∙ ap (λ z. z * n) e)

  pub narrow-lengths : (section_length Narrow n t 0 ≡ 4 * n * (t + 1)) × (section_length Narrow n t 1 ≡ 4 * n * n)
      × (section_length Narrow n t 2 ≡ 2 * n) × (section_length Narrow n t 3 ≡ 2 * n)
  narrow-lengths = (grouped 2 2 4 (t + 1) refl, grouped 2 2 4 n refl, refl, refl)

  pub wide-lengths : (section_length Wide n t 0 ≡ 8 * n * (t + 1)) × (section_length Wide n t 1 ≡ 8 * n * n)
      × (section_length Wide n t 2 ≡ 2 * n) × (section_length Wide n t 3 ≡ 4 * n)
  wide-lengths = (grouped 4 2 8 (t + 1) refl, grouped 4 2 8 n refl, refl, refl)

-- ---- Five parties, one of them faulty
pub directory-5-1 : directory Narrow 5 1 ≡ 18 ∷ 40 ∷ 58 ∷ 100 ∷ 158 ∷ 10 ∷ 168 ∷ 10 ∷ []
unfolding directory
directory-5-1 = refl

pub wide-directory-5-1 : directory Wide 5 1 ≡ 18 ∷ 80 ∷ 98 ∷ 200 ∷ 298 ∷ 10 ∷ 308 ∷ 20 ∷ []
unfolding directory
wide-directory-5-1 = refl
