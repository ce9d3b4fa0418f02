-- What is written is read: a record of legal contents is fine, its sections hold the lists that went in, and the code's buffer holds it.
use mathlib.Core.Path.{◌≡◌, sym, ap, ap₂, ◌∙◌}
use mathlib.Core.Bool.{true}
use mathlib.Core.List.{List, [], ◌∷◌, ◌++◌, append_assoc, append-nil}
use Prim.Native.Nat.{ℕ, zero, suc, ◌+◌, ◌*◌, ◌≤◌, ◌<◌}
use native.Mathlib.Omega.{arith}
use lib.ListN.{length, get_or, take, drop, length-append, get_or-append}
use lib.Seq.{take_at, drop_at}
use borrow.Author.Tests.{eq-eqb}
use Rattle.lists.specs.All.{All}
use Rattle.field.specs.declared.Width.{Width}
use Rattle.field.specs.declared.Width.TheVariants.{Narrow}
use Rattle.arrays.specs.Limits.{limit_of}
use Rattle.record.specs.Bytes.{number_at, number_bytes, numbers_by, stand_at, over}
use Rattle.record.specs.Record.{section_width, section_count, section_length, section_start, directory, directory_right, mark, fine}
use Rattle.record.specs.Record.{width_of, n_of, reading_as, reading, IsRecord, section_of, numbers_of}
use Rattle.writer.specs.Writer.{bytes_of, bytes_by, record_of, Small, Contents, writable, writing}
use Rattle.record.proofs.Bytes.{stand-true, over-front, over-rest}
use Rattle.writer.proofs.Bytes.{length-bytes, bytes-place, numbers-bytes}
use Rattle.parties.proofs.Parties.{sizes-facts}
use Rattle.record.proofs.Sections.{length-directory, directory-below, record-head}
use Rattle.record.proofs.Answers.{as-fine, fine-record, section-at}
use Rattle.record.proofs.Narrow.{mark-width, mark-n}
use Rattle.writer.proofs.Buffer.{Writable, head_of, writable-facts, length-record, writing-written, only-writable}
use Rattle.std.specs.Prelude.{Ok}
use Rattle.answers.specs.Answers.{Writing}

-- A number that stands in the front bytes.
front-place : (xs ys : List ℕ) (at : ℕ) → at + 1 < length xs → number_at (xs ++ ys) at ≡ number_at xs at
front-place xs ys at h =
    ap₂ (λ a b. a * 256 + b) (get_or-append xs ys 0 at (omega arith)) (get_or-append xs ys 0 (at + 1) h)

-- A number behind the sizes.
behind-sizes : (n t : ℕ) (bytes : List ℕ) (at : ℕ) → number_at (n ∷ t ∷ bytes) (2 + at) ≡ number_at bytes at
behind-sizes n t bytes at =
    let high : 2 + at ≡ suc (suc at) = omega arith in
    let low : 2 + at + 1 ≡ suc (suc (at + 1)) = omega arith in
    ap₂ (λ a b. get_or (n ∷ t ∷ bytes) a 0 * 256 + get_or (n ∷ t ∷ bytes) b 0) high low

-- The middle of three parts.
middle : (before part behind : List ℕ) (a m : ℕ) → length before ≡ a → length part ≡ m → take m (drop a (before ++ (part ++ behind))) ≡ part
middle before part behind a m e f = ap (take m) (drop_at before (part ++ behind) a e) ∙ take_at part behind m f

module _ (w : Width) (n t : ℕ) (deals pairs reports shares : List ℕ) (given : Contents w n t deals pairs reports shares) where
  -- The record.
  abbrev whole : List ℕ
  whole = record_of w n t deals pairs reports shares

  fit : Writable w n t deals pairs reports shares (section_start w n t 4)
  fit = record {
    size = given.size;
    first = given.first;
    second = given.second;
    third = given.third;
    fourth = given.fourth;
    whole = omega arith;
  }

  -- ---- The reader takes it

  -- Byte 0 tells the width and n.
  width-told : width_of (record_of w n t deals pairs reports shares) ≡ w
  unfolding record_of
  width-told = let (low, high, four, most) = sizes-facts n t given.size in mark-width w n _ (omega arith)

  n-told : n_of (record_of w n t deals pairs reports shares) ≡ n
  unfolding record_of
  n-told = let (low, high, four, most) = sizes-facts n t given.size in mark-n w n _ (omega arith)

  directory-told : directory_right (record_of w n t deals pairs reports shares) w n t ≡ true
  unfolding record_of directory_right
  directory-told =
      let list : List ℕ = directory w n t in
      let rest : List ℕ = bytes_by w deals ++ bytes_by w pairs ++ bytes_of reports ++ bytes_by w shares in
      let end = length-record w n t deals pairs reports shares fit in
      let split : bytes_of list ++ bytes_by w deals ++ bytes_by w pairs ++ bytes_of reports ++ bytes_by w shares ≡ bytes_of list ++ rest =
      simp append_assoc in
      let stand : stand_at whole 2 list ≡ true =
      stand-true whole 2 list (λ k h.
      behind-sizes (mark w + n) t (bytes_of list ++ bytes_by w deals ++ bytes_by w pairs ++ bytes_of reports ++ bytes_by w shares) (2 * k)
      ∙ ap (λ z. number_at z (2 * k)) split
      ∙ front-place (bytes_of list) rest (2 * k) (omega (arith, length-bytes Narrow list))
      ∙ bytes-place list (directory-below n t given.size w) k h) in
      simp (eq-eqb _ _ end, stand)

  pub reading-record : reading (record_of w n t deals pairs reports shares) ≡ fine w n t
  unfolding reading record_of
  reading-record =
      let end = length-record w n t deals pairs reports shares fit in
      ap₂ (λ v m. reading_as whole v m t) width-told n-told
      ∙ as-fine whole w n t (omega (arith, record-head w n t)) given.size directory-told

  is-record : IsRecord (record_of w n t deals pairs reports shares)
  is-record = fine-record (record_of w n t deals pairs reports shares) w n t reading-record

  -- ---- Each section is the bytes of its list
  cut : (k : ℕ) (before xs behind : List ℕ) → k ≤ 3 → whole ≡ before ++ (bytes_by (section_width w k) xs ++ behind)
      → length before ≡ section_start w n t k → length xs ≡ section_count n t k → section_of whole k ≡ bytes_by (section_width w k) xs
  unfolding record_of
  cut k before xs behind h e a m =
      let v = section_width w k in
      section-at whole k is-record h
      ∙ ap₂ (λ u i. take (section_length u i t k) (drop (section_start u i t k) whole)) width-told n-told
      ∙ ap (λ z. take (section_length w n t k) (drop (section_start w n t k) z)) e
      ∙ middle before (bytes_by v xs) behind (section_start w n t k) (section_length w n t k) a
      (length-bytes v xs ∙ ap (λ z. number_bytes v * z) m)

  -- How long the head and each section is.
  head-long : length (head_of w n t) ≡ 18
  head-long = ap (λ z. suc (suc z)) (length-bytes Narrow (directory w n t)) ∙ omega (arith, length-directory w n t)

  long : (v : Width) (k : ℕ) (xs : List ℕ) → length xs ≡ section_count n t k → length (bytes_by v xs) ≡ number_bytes v * section_count n t k
  long v k xs e = length-bytes v xs ∙ ap (λ z. number_bytes v * z) e

  pub record-section : (k : ℕ) → k ≤ 3
      → section_of (record_of w n t deals pairs reports shares) k
      ≡ bytes_by (section_width w k) (get_or (deals ∷ pairs ∷ reports ∷ shares ∷ []) k [])
  unfolding record_of
  record-section zero h =
      cut 0 (head_of w n t) deals (bytes_by w pairs ++ bytes_of reports ++ bytes_by w shares) h (simp append_assoc) head-long fit.first
  record-section (suc zero) h =
      cut 1 (head_of w n t ++ bytes_by w deals) pairs (bytes_of reports ++ bytes_by w shares) h (simp append_assoc)
      (simp length-append (omega (arith, head-long, long w 0 deals fit.first))) fit.second
  record-section (suc (suc zero)) h =
      cut 2 (head_of w n t ++ bytes_by w deals ++ bytes_by w pairs) reports (bytes_by w shares) h (simp append_assoc)
      (simp length-append (omega (arith, head-long, long w 0 deals fit.first, long w 1 pairs fit.second))) fit.third
  record-section (suc (suc (suc zero))) h =
      let before : List ℕ = head_of w n t ++ bytes_by w deals ++ bytes_by w pairs ++ bytes_of reports in
      cut 3 before shares [] h (ap (λ z. before ++ z) (sym (append-nil (bytes_by w shares))))
      (simp length-append
      (omega (arith, head-long, long w 0 deals fit.first, long w 1 pairs fit.second, long Narrow 2 reports fit.third)))
      fit.fourth
  record-section (suc (suc (suc (suc k)))) h = absurd (omega arith)

  -- ---- Its numbers are the list
  small : (k : ℕ) → k ≤ 3 → All (λ x. x < limit_of (section_width w k)) (get_or (deals ∷ pairs ∷ reports ∷ shares ∷ []) k [])
  small zero h = given.small.0
  small (suc zero) h = given.small.1
  small (suc (suc zero)) h = given.small.2
  small (suc (suc (suc zero))) h = given.small.3
  small (suc (suc (suc (suc k)))) h = absurd (omega arith)

  pub round_trip : (k : ℕ) → k ≤ 3
      → numbers_of (record_of w n t deals pairs reports shares) k ≡ get_or (deals ∷ pairs ∷ reports ∷ shares ∷ []) k []
  round_trip k h =
      let v = section_width w k in
      let xs : List ℕ = get_or (deals ∷ pairs ∷ reports ∷ shares ∷ []) k [] in
      ap₂ (λ u l. numbers_by (section_width u k) l) width-told (record-section k h) ∙ numbers-bytes v xs (small k h)

-- ---- What the code writes

-- What is writable is legal contents.
pub writable-contents : (w : Width) (n t : ℕ) (deals pairs reports shares : List ℕ) (room : ℕ)
    → writable w n t deals pairs reports shares room ≡ true
    → Small w deals pairs reports shares → Contents w n t deals pairs reports shares
writable-contents w n t deals pairs reports shares room e small =
    let f = writable-facts w n t deals pairs reports shares room e in
    record {
      size = f.size;
      first = f.first;
      second = f.second;
      third = f.third;
      fourth = f.fourth;
      small = small;
    }

-- The buffer `new` and the answer r, as the contract of `write` gives them.
module _ (w : Width) (n t : ℕ) (deals pairs reports shares out new : List ℕ) (r : ℕ)
    (done : ◌≡◌ {A = List ℕ × Writing} (new, Ok r) (writing w n t deals pairs reports shares out)) where
  abbrev all : List ℕ
  all = record_of w n t deals pairs reports shares

  -- All tests passed.
  tested : (writable w n t deals pairs reports shares (length out) ≡ true) × (r ≡ section_start w n t 4)
  tested = only-writable w n t deals pairs reports shares out r (sym (ap (λ z. z.1) done))

  fits : (length all ≡ r) × (length all ≤ length out) × (new ≡ over all out)
  fits =
      let f = writable-facts w n t deals pairs reports shares (length out) tested.0 in
      let size = length-record w n t deals pairs reports shares f in
      let buffer = done ∙ writing-written w n t deals pairs reports shares out tested.0 in
      (size ∙ sym tested.1, omega (arith, f.whole), ap (λ z. z.0) buffer)

  -- The buffer's front is the record, and behind it the buffer is as it was.
  pub written : take r new ≡ record_of w n t deals pairs reports shares
  written = ap₂ take (sym fits.0) fits.2 ∙ over-front all out fits.1

  pub rest-left : drop r new ≡ drop r out
  rest-left = ap₂ drop (sym fits.0) fits.2 ∙ over-rest all out fits.1 ∙ ap (λ z. drop z out) fits.0

  -- What is written is read: the sizes, and in section k the numbers of the k-th list.
  pub written_read : Small w deals pairs reports shares
      → (r ≡ section_start w n t 4) × (reading (take r new) ≡ fine w n t)
      × ((k : ℕ) → k ≤ 3 → numbers_of (take r new) k ≡ get_or (deals ∷ pairs ∷ reports ∷ shares ∷ []) k [])
  unfolding record_of
  written_read small =
      let given = writable-contents w n t deals pairs reports shares (length out) tested.0 small in (
        tested.1,
        ap reading written ∙ reading-record w n t deals pairs reports shares given,
        λ k h. ap (λ z. numbers_of z k) written ∙ round_trip w n t deals pairs reports shares given k h,
      )
