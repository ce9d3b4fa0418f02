-- The record: n, t, a directory of four sections, and the sections (docs/PROTOCOL.md, "The record"), with numbers of two bytes or of four:
-- "A wide record has 128 added to byte 0, four-byte numbers in every section but reports, and lengths to match".
--   section_width w k                              the width of the numbers in section k of a record of the width w
--   section_count n t k                            how many numbers section k has
--   section_length w n t k, section_start w n t k  how many bytes it has and where it starts; section 4 would start at the record's end
--   directory w n t                                the offset and the length of each section
--   directory_or_zeros w n t                       the same for legal sizes, eight zeros for any others
--   directory_right bytes w n t                    the record has this directory, and its last section ends it
--   width_of bytes, n_of bytes, t_of bytes         the width and the sizes that the bytes give
--   mark w                                         what is added to byte 0
--   IsRecord bytes                                 the bytes are a record
--   reading_tests, reading_as                      a reader's tests in order, and what it answers, by the width and the sizes that it takes
--   reading bytes, reading_narrow bytes            what the reader answers, and one that knows records of two-byte numbers alone
--   Reading, fine w n t                            the head of a record, or why the bytes are none; that of a record that is fine
--   section_of bytes k, numbers_of bytes k         the bytes that the directory's pair k names, of any bytes, and their numbers
-- Laws: proofs/Sections, proofs/Answers, proofs/Narrow.
use Rattle.std.specs.Prelude.{◌≡◌, Bool, true, cond, ◌&&◌, List, [], ◌∷◌, length, get_or, take, drop, replicate}
use Rattle.std.specs.Prelude.{ℕ, zero, suc, ◌+◌, ◌*◌, ◌-◌, ◌≤◌, eqb, leb, ltb, Result, Ok, Err}
use Rattle.field.specs.declared.Width.{Width}
use Rattle.field.specs.declared.Width.TheVariants.{Narrow, Wide}
use Rattle.answers.specs.declared.Refusal.{Refusal}
use Rattle.answers.specs.declared.Refusal.TheVariants.{WrongSize, WrongDirectory}
use Rattle.answers.specs.Refusals.{Test, lowest, Admission}
use Rattle.parties.specs.Parties.{sizes}
use Rattle.record.specs.Bytes.{number_at, number_bytes, numbers_by, stand_at}
use Rattle.record.specs.declared.Head.{Head}

-- ---- The sections: deals, round two, reports, published shares

-- Reports, section 2, are masks of 16 bits whatever the width.
abbrev pub section_width : Width → ℕ → Width
section_width w k = cond (eqb k 2) Narrow w

-- A deal has 2(t+1) numbers, round two 2n for each lamp.
abbrev pub section_count : ℕ → ℕ → ℕ → ℕ
section_count n t k = get_or (2 * n * (t + 1) ∷ 2 * n * n ∷ n ∷ n ∷ []) k 0

-- So with two bytes for a number deals have 4n(t+1) bytes, round two 4n², reports 2n, published shares 2n.
abbrev pub section_length : Width → ℕ → ℕ → ℕ → ℕ
section_length w n t k = number_bytes (section_width w k) * section_count n t k

-- The first section starts at 18, each next one where the one before it ends.
abbrev pub section_start : Width → ℕ → ℕ → ℕ → ℕ
section_start w n t zero = 18
section_start w n t (suc k) = section_start w n t k + section_length w n t k

-- Offset and length of each section, in order.
unfoldable pub directory : Width → ℕ → ℕ → List ℕ
directory w n t =
    section_start w n t 0 ∷ section_length w n t 0
    ∷ section_start w n t 1 ∷ section_length w n t 1
    ∷ section_start w n t 2 ∷ section_length w n t 2
    ∷ section_start w n t 3 ∷ section_length w n t 3
    ∷ []

-- The same as eight numbers whatever the sizes: zeros where these are not legal.
unfoldable pub directory_or_zeros : Width → ℕ → ℕ → List ℕ
directory_or_zeros w n t = cond (sizes n t) (directory w n t) (replicate 8 0)

-- Bytes 2 to 17 are the directory, and the last section ends the record; so one that is cut short is wrong.
unfoldable pub directory_right : List ℕ → Width → ℕ → ℕ → Bool
directory_right bytes w n t = eqb (length bytes) (section_start w n t 4) && stand_at bytes 2 (directory w n t)

-- ---- Width and sizes

-- "A wide record has 128 added to byte 0": from 128 up it is wide.
unfoldable pub width_of : List ℕ → Width
width_of bytes = cond (ltb (get_or bytes 0 0) 128) Narrow Wide

-- What is added to byte 0.
abbrev pub mark : Width → ℕ
mark Narrow = 0
mark Wide = 128

-- Byte 0 is n, but for what is added.
abbrev pub n_of : List ℕ → ℕ
n_of bytes = get_or bytes 0 0 - mark (width_of bytes)

-- Byte 1 is t.
abbrev pub t_of : List ℕ → ℕ
t_of bytes = get_or bytes 1 0

-- What a record is, in the protocol's words: legal sizes, each section's offset and length in the directory, and nothing behind the last
-- section.
pub record IsRecord (bytes : List ℕ) : Type 0 where
  pub two : 2 ≤ length bytes
  pub size : sizes (n_of bytes) (t_of bytes) ≡ true
  pub offset : (k : ℕ) → k ≤ 3 → number_at bytes (2 + 4 * k) ≡ section_start (width_of bytes) (n_of bytes) (t_of bytes) k
  pub count : (k : ℕ) → k ≤ 3 → number_at bytes (4 + 4 * k) ≡ section_length (width_of bytes) (n_of bytes) (t_of bytes) k
  pub end : length bytes ≡ section_start (width_of bytes) (n_of bytes) (t_of bytes) 4

-- ---- Reading

-- Under 2 bytes the directory is wrong; from 2 on the size is tested before it.
abbrev pub reading_tests : List ℕ → Width → ℕ → ℕ → List Test
reading_tests bytes w n t =
    (leb 2 (length bytes), WrongDirectory)
    ∷ (sizes n t, WrongSize)
    ∷ (directory_right bytes w n t, WrongDirectory)
    ∷ []

-- What a reader answers: the width and the sizes, or why the bytes are no record.
abbrev pub Reading : Type 0
Reading = Result Head Refusal

-- A record of this width and these sizes.
abbrev pub fine : Width → ℕ → ℕ → Reading
fine w n t = Ok (record { width = w; n = n; t = t })

-- The width and the sizes where every test passes.
abbrev pub read_by : Admission → Width → ℕ → ℕ → Reading
read_by (Ok tt) w n t = fine w n t
read_by (Err why) w n t = Err why

-- The same, or the first test that fails.
unfoldable pub reading_as : List ℕ → Width → ℕ → ℕ → Reading
reading_as bytes w n t = read_by (lowest (reading_tests bytes w n t)) w n t

-- By the width and the sizes that the bytes give.
unfoldable pub reading : List ℕ → Reading
reading bytes = reading_as bytes (width_of bytes) (n_of bytes) (t_of bytes)

-- "a reader of old ones alone": to it byte 0 is n, whatever it is.
unfoldable pub reading_narrow : List ℕ → Reading
reading_narrow bytes = reading_as bytes Narrow (get_or bytes 0 0) (t_of bytes)

-- ---- What stands in a section

-- The bytes between a section's offset and its end, which the directory's pair k gives, as far as the bytes reach; there are four sections.
unfoldable pub section_of : List ℕ → ℕ → List ℕ
section_of bytes k = cond (leb k 3) (take (number_at bytes (4 + 4 * k)) (drop (number_at bytes (2 + 4 * k)) bytes)) []

-- The numbers of section k, of the width that byte 0 tells; reports always have two bytes.
abbrev pub numbers_of : List ℕ → ℕ → List ℕ
numbers_of bytes k = numbers_by (section_width (width_of bytes) k) (section_of bytes k)
