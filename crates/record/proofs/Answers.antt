-- Laws of reading: which answer when, that what is found fine is a record and the other way round, and what the sections of a record are.
use mathlib.Core.Path.{◌≡◌, refl, sym, ap, ap₂, ◌∙◌}
use mathlib.Core.Logic.{⊎_elim}
use mathlib.Core.Bool.{true, false, and-eq-true_iff}
use mathlib.Core.Option.{none, some}
use mathlib.Core.List.{List, []}
use Prim.Native.Nat.{ℕ, zero, suc, ◌+◌, ◌*◌, ◌-◌, ◌≤◌, ◌<◌, min}
use native.Mathlib.Omega.{arith}
use lib.Dec.{eqb}
use lib.ListN.{length, get_or, take, drop, length-drop}
use lib.Seq.{take_all, length-take-le}
use borrow.Author.Tests.{leb-true, le-leb, lt-leb, eqb-true, eq-eqb, ne_eqb}
use Rattle.lists.proofs.Cases.{le-or-lt}
use Rattle.std.proofs.lemmas.List.{drop_all}
use Rattle.answers.specs.declared.Refusal.TheVariants.{WrongSize, WrongDirectory}
use Rattle.answers.specs.Refusals.{refusal_number, lowest, Admission, number_of}
use Rattle.answers.proofs.Tests.{lowest-pass}
use Rattle.field.specs.declared.Width.{Width}
use Rattle.field.specs.declared.Width.TheVariants.{Narrow}
use Rattle.parties.specs.Parties.{sizes}
use Rattle.record.specs.Bytes.{number_at, stand_at}
use Rattle.record.specs.Record.{section_length, section_start, directory, directory_right, width_of, n_of, t_of, IsRecord, section_of, fine}
use Rattle.record.specs.Record.{reading_tests, read_by, reading_as, reading}
use Rattle.record.specs.declared.Head.{Head}
use Rattle.record.proofs.Bytes.{stand-facts, stand-true}
use Rattle.record.proofs.Sections.{record-small, narrow-small, length-directory, directory-offset, directory-count}
use Rattle.record.proofs.Sections.{section-before-end}
use Rattle.std.specs.Prelude.{Ok, Err}

-- ---- Which answer when, in the protocol's order, by the width and the sizes that a reader takes
module _ (bytes : List ℕ) (w : Width) (n t : ℕ) where
  pub as_short : length bytes < 2 → reading_as bytes w n t ≡ Err WrongDirectory
  unfolding reading_as
  as_short h = simp (lt-leb _ _ h)

  module _ (two : 2 ≤ length bytes) where
    pub as-size : sizes n t ≡ false → reading_as bytes w n t ≡ Err WrongSize
    unfolding reading_as
    as-size e = simp (le-leb _ _ two, e)

    pub as-wrong : sizes n t ≡ true → directory_right bytes w n t ≡ false → reading_as bytes w n t ≡ Err WrongDirectory
    unfolding reading_as
    as-wrong e d = simp (le-leb _ _ two, e, d)

    pub as-fine : sizes n t ≡ true → directory_right bytes w n t ≡ true → reading_as bytes w n t ≡ fine w n t
    unfolding reading_as
    as-fine e d = simp (le-leb _ _ two, e, d)

-- By what the bytes give.
module _ (bytes : List ℕ) where
  pub reading-short : length bytes < 2 → reading bytes ≡ Err WrongDirectory
  unfolding reading
  reading-short h = as_short bytes _ _ _ h

  module _ (two : 2 ≤ length bytes) where
    pub reading-size : sizes (n_of bytes) (t_of bytes) ≡ false → reading bytes ≡ Err WrongSize
    unfolding reading
    reading-size e = as-size bytes _ _ _ two e

    pub reading-wrong : sizes (n_of bytes) (t_of bytes) ≡ true → directory_right bytes (width_of bytes) (n_of bytes) (t_of bytes) ≡ false
        → reading bytes ≡ Err WrongDirectory
    unfolding reading
    reading-wrong e d = as-wrong bytes _ _ _ two e d

    pub reading-fine : sizes (n_of bytes) (t_of bytes) ≡ true → directory_right bytes (width_of bytes) (n_of bytes) (t_of bytes) ≡ true
        → reading bytes ≡ fine (width_of bytes) (n_of bytes) (t_of bytes)
    unfolding reading
    reading-fine e d = as-fine bytes _ _ _ two e d

-- The same in the protocol's numbers.
module _ (bytes : List ℕ) where
  pub number_short : length bytes < 2 → number_of (reading bytes) ≡ some (refusal_number WrongDirectory)
  number_short h = ap number_of (reading-short bytes h)

  pub number_size : 2 ≤ length bytes → sizes (n_of bytes) (t_of bytes) ≡ false
      → number_of (reading bytes) ≡ some (refusal_number WrongSize)
  number_size two e = ap number_of (reading-size bytes two e)

  pub number-directory : 2 ≤ length bytes → sizes (n_of bytes) (t_of bytes) ≡ true
      → directory_right bytes (width_of bytes) (n_of bytes) (t_of bytes) ≡ false
      → number_of (reading bytes) ≡ some (refusal_number WrongDirectory)
  number-directory two e d = ap number_of (reading-wrong bytes two e d)

-- As the code tests the directory: first where the record ends.
module _ (bytes : List ℕ) (w : Width) (n t : ℕ) where
  pub directory-no : (end : ℕ) → end ≡ section_start w n t 4 → (length bytes ≡ end → ⊥)
      → eqb (length bytes) end ≡ directory_right bytes w n t
  unfolding directory_right
  directory-no end e d = simp (← e, ne_eqb _ _ d)

  pub directory-by : (list : List ℕ) → list ≡ directory w n t → length bytes ≡ section_start w n t 4
      → stand_at bytes 2 list ≡ directory_right bytes w n t
  unfolding directory_right
  directory-by list e end = ap (stand_at bytes 2) e ∙ simp (eq-eqb _ _ end)

-- ---- A fine record is a record, and a record is fine

-- Nothing is found fine but where every test passes, and the width and the sizes are handed on.
passed : (a : Admission) (v : Width) (m s : ℕ) (w : Width) (n t : ℕ) → read_by a v m s ≡ fine w n t
    → (a ≡ Ok tt) × (w ≡ v) × (n ≡ m) × (t ≡ s)
passed (Ok u) v m s w n t e =
    let h : ◌≡◌ {A = Head} (record { width = w; n = n; t = t }) (record { width = v; n = m; t = s }) = cc in
    (refl, ap (λ (x : Head). x.width) h, ap (λ (x : Head). x.n) h, ap (λ (x : Head). x.t) h)
passed (Err why) v m s w n t e = absurd (cc)

module _ (bytes : List ℕ) where
  pub fine-sizes : (w : Width) (n t : ℕ) → reading bytes ≡ fine w n t → (w ≡ width_of bytes) × (n ≡ n_of bytes) × (t ≡ t_of bytes)
  unfolding reading reading_as
  fine-sizes w n t e =
      let v = width_of bytes in
      let tests = reading_tests bytes v (n_of bytes) (t_of bytes) in
      let q = passed (lowest tests) v (n_of bytes) (t_of bytes) w n t e in
      (q.1, q.2, q.3)

  pub fine-record : (w : Width) (n t : ℕ) → reading bytes ≡ fine w n t → IsRecord bytes
  unfolding reading reading_as directory_right
  fine-record v a b e =
      let w = width_of bytes in
      let n = n_of bytes in
      let t = t_of bytes in
      let (long, (size, (right, rest))) = lowest-pass (reading_tests bytes w n t)
      (passed (lowest (reading_tests bytes w n t)) w n t v a b e).0 in
      let (ends, stand) = (and-eq-true_iff (eqb (length bytes) (section_start w n t 4)) (stand_at bytes 2 (directory w n t))).0 right in
      let each : (k : ℕ) → k < 8 → number_at bytes (2 + 2 * k) ≡ get_or (directory w n t) k 0 = λ k h.
      stand-facts bytes 2 (directory w n t) stand k (omega (arith, length-directory w n t)) in
      record {
        two = leb-true _ _ long;
        size = size;
        offset = λ k h.
            let place : 2 + 4 * k ≡ 2 + 2 * (2 * k) = omega arith in
            ap (number_at bytes) place ∙ each (2 * k) (omega arith) ∙ directory-offset w n t k h;
        count = λ k h.
            let place : 4 + 4 * k ≡ 2 + 2 * (2 * k + 1) = omega arith in
            ap (number_at bytes) place ∙ each (2 * k + 1) (omega arith) ∙ directory-count w n t k h;
        end = eqb-true _ _ ends;
      }

module _ (bytes : List ℕ) (r : IsRecord bytes) where
  pub longest : length bytes ≤ 2674
  longest = omega (arith, r.end, record-small (n_of bytes) (t_of bytes) r.size (width_of bytes))

  pub longest-narrow : width_of bytes ≡ Narrow → length bytes ≤ 1362
  longest-narrow e =
      let short : length bytes ≡ section_start Narrow (n_of bytes) (t_of bytes) 4 =
      r.end ∙ ap (λ w. section_start w (n_of bytes) (t_of bytes) 4) e in
      omega (arith, narrow-small (n_of bytes) (t_of bytes) r.size)

  -- The directory of its width and sizes.
  abbrev its : List ℕ
  its = directory (width_of bytes) (n_of bytes) (t_of bytes)

  -- Each number of the directory is an offset or a length.
  pub record-directory : (k : ℕ) → k < length (directory (width_of bytes) (n_of bytes) (t_of bytes))
      → number_at bytes (2 + 2 * k) ≡ get_or (directory (width_of bytes) (n_of bytes) (t_of bytes)) k 0
  unfolding directory
  record-directory zero h = r.offset 0 (omega arith)
  record-directory (suc zero) h = r.count 0 (omega arith)
  record-directory (suc (suc zero)) h = r.offset 1 (omega arith)
  record-directory (suc (suc (suc zero))) h = r.count 1 (omega arith)
  record-directory (suc (suc (suc (suc zero)))) h = r.offset 2 (omega arith)
  record-directory (suc (suc (suc (suc (suc zero))))) h = r.count 2 (omega arith)
  record-directory (suc (suc (suc (suc (suc (suc zero)))))) h = r.offset 3 (omega arith)
  record-directory (suc (suc (suc (suc (suc (suc (suc zero))))))) h = r.count 3 (omega arith)
  record-directory (suc (suc (suc (suc (suc (suc (suc (suc k)))))))) h = absurd (omega arith)

  pub record-fine : reading bytes ≡ fine (width_of bytes) (n_of bytes) (t_of bytes)
  unfolding directory_right
  record-fine =
      let stand : stand_at bytes 2 its ≡ true = stand-true bytes 2 its record-directory in
      reading-fine bytes r.two r.size (simp (eq-eqb _ _ r.end, stand))

  pub number-none : number_of (reading bytes) ≡ none
  number-none = ap number_of record-fine

-- ---- A part from `offset` on of `count` bytes, as far as the bytes reach
module _ (bytes : List ℕ) (from end offset count : ℕ) (f : from ≡ min offset (length bytes))
    (e : end ≡ min (offset + count) (length bytes)) where
  -- The part is the same though it is cut.
  abbrev Reached : Type 0
  Reached = take (end - from) (drop from bytes) ≡ take count (drop offset bytes)

  -- The offset lies behind the bytes.
  none-reached : length bytes ≤ offset → Reached
  none-reached h =
      ap (take (end - from)) (drop_all from bytes (omega arith))
      ∙ take_all (end - from) [] (omega arith)
      ∙ sym (take_all count [] (omega arith))
      ∙ ap (take count) (sym (drop_all offset bytes h))

  -- The end does.
  some-reached : offset < length bytes → length bytes ≤ offset + count → Reached
  some-reached h l =
      let here : from ≡ offset = omega arith in
      let long = length-drop offset bytes in
      ap (λ z. take (end - from) (drop z bytes)) here
      ∙ take_all (end - from) (drop offset bytes) (omega arith)
      ∙ sym (take_all count (drop offset bytes) (omega arith))

  all-reached : offset + count < length bytes → Reached
  all-reached h =
      let here : from ≡ offset = omega arith in
      let long : end - from ≡ count = omega arith in
      ap₂ (λ a b. take a (drop b bytes)) long here

  part-reached : Reached
  part-reached =
      ⊎_elim none-reached (λ h. ⊎_elim (some-reached h) all-reached (le-or-lt (length bytes) (offset + count)))
      (le-or-lt (length bytes) offset)

-- ---- The sections
module _ (bytes : List ℕ) (k : ℕ) where
  pub section-above : 3 < k → section_of bytes k ≡ []
  unfolding section_of
  section-above h = simp (lt-leb _ _ h)

  module _ (h : k ≤ 3) where
    section-named : section_of bytes k ≡ take (number_at bytes (4 + 4 * k)) (drop (number_at bytes (2 + 4 * k)) bytes)
    unfolding section_of
    section-named = simp (le-leb _ _ h)

    -- As the code takes it: from the offset to the end, as far as the bytes reach.
    pub section-part : (from end offset count : ℕ) → from ≡ min offset (length bytes)
        → end ≡ min (offset + count) (length bytes) → offset ≡ number_at bytes (2 + 4 * k) → count ≡ number_at bytes (4 + 4 * k)
        → take (end - from) (drop from bytes) ≡ section_of bytes k
    section-part from end offset count f e o c =
        part-reached bytes from end offset count f e ∙ ap₂ (λ a b. take b (drop a bytes)) o c ∙ sym section-named

  -- Of a record each section has the protocol's place and length.
  module _ (r : IsRecord bytes) (h : k ≤ 3) where
    pub section-at : section_of bytes k
        ≡ take (section_length (width_of bytes) (n_of bytes) (t_of bytes) k)
        (drop (section_start (width_of bytes) (n_of bytes) (t_of bytes) k) bytes)
    section-at = section-named h ∙ ap₂ (λ a b. take b (drop a bytes)) (r.offset k h) (r.count k h)

    pub length-section : length (section_of bytes k) ≡ section_length (width_of bytes) (n_of bytes) (t_of bytes) k
    length-section =
        let start : ℕ = section_start (width_of bytes) (n_of bytes) (t_of bytes) k in
        let size : ℕ = section_length (width_of bytes) (n_of bytes) (t_of bytes) k in
        ap length section-at
        ∙ length-take-le size (drop start bytes)
        (omega (arith, length-drop start bytes, r.end, section-before-end (width_of bytes) (n_of bytes) (t_of bytes) k h))
