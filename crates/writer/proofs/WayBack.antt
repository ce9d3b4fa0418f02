-- The way back: a record is the record of its own sizes and of the numbers of its own sections, which are legal contents.
use mathlib.Core.Path.{◌≡◌, refl, sym, ap, ap₂, subst, ◌∙◌}
use mathlib.Core.List.{List, [], ◌∷◌, ◌++◌, append_assoc, append-nil}
use Prim.Native.Nat.{ℕ, suc, ◌+◌, ◌*◌, ◌/◌, ◌%◌, ◌≤◌, ◌<◌}
use native.Mathlib.Nat.{mul-mod_right, mul-div_right}
use native.Mathlib.Omega.{arith}
use lib.ListN.{length, get_or, take, drop, length-drop, take-append-drop}
use lib.Seq.{ext_get_or, get_or-take, get_or-drop, drop-drop, length-take-le}
use Rattle.lists.specs.All.{All}
use Rattle.lists.proofs.All.{all_take, all_drop}
use Rattle.std.proofs.lemmas.List.{drop_all}
use Rattle.field.specs.declared.Width.{Width}
use Rattle.field.specs.declared.Width.TheVariants.{Narrow, Wide}
use Rattle.arrays.specs.Limits.{limit_of}
use Rattle.record.specs.Bytes.{number_at, numbers, number_bytes}
use Rattle.record.specs.Record.{section_width, section_count, section_length, section_start, directory, width_of, n_of, t_of}
use Rattle.record.specs.Record.{IsRecord, section_of, numbers_of}
use Rattle.writer.specs.Writer.{bytes_of, bytes_by, record_of, Contents}
use Rattle.record.proofs.Bytes.{length-numbers, number-place, numbers-below}
use Rattle.writer.proofs.Bytes.{bytes-numbers}
use Rattle.record.proofs.Sections.{length-directory, record-head}
use Rattle.record.proofs.Answers.{record-directory, section-at, length-section}
use Rattle.record.proofs.Narrow.{byte-0}

two-first : (bytes : List ℕ) → 2 ≤ length bytes → get_or bytes 0 0 ∷ t_of bytes ∷ drop 2 bytes ≡ bytes
two-first [] h = absurd (omega arith)
two-first (a ∷ []) h = absurd (omega arith)
two-first (a ∷ b ∷ bytes) h = refl

part-place : (bytes : List ℕ) (k : ℕ) → k < 8 → number_at (take 16 (drop 2 bytes)) (2 * k) ≡ number_at bytes (2 + 2 * k)
part-place bytes k h =
    let low : 2 + (2 * k + 1) ≡ 2 + 2 * k + 1 = omega arith in
    ap₂ (λ a b. a * 256 + b)
    (get_or-take 16 (drop 2 bytes) (2 * k) 0 (omega arith) ∙ get_or-drop 2 bytes (2 * k) 0)
    (get_or-take 16 (drop 2 bytes) (2 * k + 1) 0 (omega arith) ∙ get_or-drop 2 bytes (2 * k + 1) 0 ∙ ap (λ z. get_or bytes z 0) low)

-- A width's bytes, taken some times, are whole numbers.
whole_numbers : (v : Width) (m : ℕ) → (number_bytes v * m % number_bytes v ≡ 0) × (number_bytes v * m / number_bytes v ≡ m)
whole_numbers Narrow m = (mul-mod_right 2 m, mul-div_right m (omega arith))
whole_numbers Wide m = (mul-mod_right 4 m, mul-div_right m (omega arith))

module _ (bytes : List ℕ) (small : All (λ b. b < 256) bytes) (is : IsRecord bytes) where
  -- Its width and its sizes.
  abbrev w : Width
  w = width_of bytes

  abbrev n : ℕ
  n = n_of bytes

  abbrev t : ℕ
  t = t_of bytes

  -- The directory's bytes.
  directory-back : take 16 (drop 2 bytes) ≡ bytes_of (directory (width_of bytes) (n_of bytes) (t_of bytes))
  directory-back =
      let part : List ℕ = take 16 (drop 2 bytes) in
      let list : List ℕ = directory w n t in
      let head = record-head w n t in
      let long : length part ≡ 16 = length-take-le 16 (drop 2 bytes) (omega (arith, length-drop 2 bytes, is.end)) in
      let eight = length-directory w n t in
      let count = length-numbers Narrow part in
      let same : numbers part ≡ list =
      ext_get_or 0 (numbers part) list (count ∙ omega arith) (λ k h.
      let place : k < 8 = omega (arith, count) in
      number-place part k (omega arith) ∙ part-place bytes k place ∙ record-directory bytes is k (omega arith)) in
      let bits : All (λ b. b < 256) part = all_take (λ b. b < 256) 16 (drop 2 bytes) (all_drop (λ b. b < 256) 2 bytes small) in
      sym (bytes-numbers Narrow part bits (omega arith)) ∙ ap bytes_of same

  section-small : (k : ℕ) → k ≤ 3 → All (λ b. b < 256) (section_of bytes k)
  section-small k h =
      subst (All (λ b. b < 256)) (sym (section-at bytes k is h))
      (all_take (λ b. b < 256) (section_length w n t k) (drop (section_start w n t k) bytes)
      (all_drop (λ b. b < 256) (section_start w n t k) bytes small))

  -- A section's bytes are those of its numbers.
  section-back : (k : ℕ) → k ≤ 3 → section_of bytes k ≡ bytes_by (section_width (width_of bytes) k) (numbers_of bytes k)
  section-back k h =
      let v = section_width w k in
      sym (bytes-numbers v (section_of bytes k) (section-small k h)
      (ap (λ z. z % number_bytes v) (length-section bytes k is h) ∙ (whole_numbers v (section_count n t k)).0))

  -- As many numbers as the section has, and each of its width.
  part_length : (k : ℕ) → k ≤ 3 → length (numbers_of bytes k) ≡ section_count (n_of bytes) (t_of bytes) k
  part_length k h =
      let v = section_width w k in
      length-numbers v (section_of bytes k)
      ∙ ap (λ z. z / number_bytes v) (length-section bytes k is h)
      ∙ (whole_numbers v (section_count n t k)).1

  part_small : (k : ℕ) → k ≤ 3 → All (λ x. x < limit_of (section_width (width_of bytes) k)) (numbers_of bytes k)
  part_small k h = numbers-below (section_width w k) (section_of bytes k) (section-small k h)

  -- What is read can be written.
  pub record-contents : Contents (width_of bytes) (n_of bytes) (t_of bytes)
      (numbers_of bytes 0) (numbers_of bytes 1) (numbers_of bytes 2) (numbers_of bytes 3)
  record-contents = record {
    size = is.size;
    first = part_length 0 (omega arith);
    second = part_length 1 (omega arith);
    third = part_length 2 (omega arith);
    fourth = part_length 3 (omega arith);
    small = (part_small 0 (omega arith), part_small 1 (omega arith), part_small 2 (omega arith), part_small 3 (omega arith));
  }

  -- From a section's start on there is the section and what stands behind it.
  onward : (k : ℕ) → k ≤ 3 → (rest : List ℕ) → drop (section_start (width_of bytes) (n_of bytes) (t_of bytes) (suc k)) bytes ≡ rest
      → drop (section_start (width_of bytes) (n_of bytes) (t_of bytes) k) bytes
      ≡ bytes_by (section_width (width_of bytes) k) (numbers_of bytes k) ++ rest
  onward k h rest e =
      let start : ℕ = section_start w n t k in
      let size : ℕ = section_length w n t k in
      sym (take-append-drop size (drop start bytes))
      ∙ ap₂ ◌++◌ (sym (section-at bytes k is h) ∙ section-back k h) (drop-drop size start bytes ∙ e)

  pub way_back : record_of (width_of bytes) (n_of bytes) (t_of bytes)
      (numbers_of bytes 0) (numbers_of bytes 1) (numbers_of bytes 2) (numbers_of bytes 3) ≡ bytes
  unfolding record_of
  way_back =
      let none = drop_all (section_start w n t 4) bytes (omega (arith, is.end)) in
      let sections = onward 0 (omega arith) _ (onward 1 (omega arith) _ (onward 2 (omega arith) _ (onward 3 (omega arith) [] none))) in
      let all = sym (take-append-drop 16 (drop 2 bytes)) ∙ ap₂ ◌++◌ directory-back (drop-drop 16 2 bytes ∙ sections) in
      let flat : bytes_of (directory w n t) ++ bytes_by w (numbers_of bytes 0) ++ bytes_by w (numbers_of bytes 1)
      ++ bytes_of (numbers_of bytes 2) ++ bytes_by w (numbers_of bytes 3) ≡ drop 2 bytes =
      rw all (simp (append_assoc, append-nil)) in
      ap₂ (λ a z. a ∷ t_of bytes ∷ z) (byte-0 bytes) flat ∙ two-first bytes is.two
