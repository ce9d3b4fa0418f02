-- Writing a record (docs/PROTOCOL.md, "The record") with numbers of two bytes or of four: "A wide record has 128 added to byte 0, four-byte
-- numbers in every section but reports, and lengths to match".
--   parted b xs                                 each number as two, the first counting b times as much
--   bytes_of xs, wide_bytes_of xs, bytes_by w xs   the bytes of a list of numbers, two for each, four, or as many as the width has
--   record_of w n t deals pairs reports shares  the whole record
--   Small w deals .., Contents w n t deals ..   the lists' numbers have their widths; the lists can be a record's
--   lists_fit, writable                         the lengths that writing it takes, and these with the sizes
--   writing w n t deals .. out                  the buffer afterwards, and what the writer answers
-- Laws: proofs/Bytes, proofs/Buffer, proofs/RoundTrip, proofs/WayBack.
use Rattle.std.specs.Prelude.{◌≡◌, Bool, true, ◌&&◌, List, [], ◌∷◌, ◌++◌, ℕ, ◌+◌, ◌*◌, ◌/◌, ◌%◌, ◌<◌, eqb, leb, length, Ok, Err}
use Rattle.lists.specs.All.{All}
use Rattle.field.specs.declared.Width.{Width}
use Rattle.field.specs.declared.Width.TheVariants.{Narrow, Wide}
use Rattle.parties.specs.Parties.{sizes}
use Rattle.answers.specs.declared.Refusal.TheVariants.{WrongSize, WrongLength}
use Rattle.answers.specs.Refusals.{Test, lowest, Admission}
use Rattle.answers.specs.Answers.{Writing}
use Rattle.arrays.specs.Limits.{limit_of}
use Rattle.record.specs.Bytes.{over}
use Rattle.record.specs.Record.{section_start, directory, mark}

-- ---- Bytes

-- Each number as its high and its low part.
unfoldable pub parted : ℕ → List ℕ → List ℕ
parted b [] = []
parted b (x ∷ xs) = x / b % b ∷ x % b ∷ parted b xs

-- Two bytes for each number, the high one first.
abbrev pub bytes_of : List ℕ → List ℕ
bytes_of xs = parted 256 xs

-- Four: those of its high half, then those of its low half.
abbrev pub wide_bytes_of : List ℕ → List ℕ
wide_bytes_of xs = bytes_of (parted 65536 xs)

-- Either.
abbrev pub bytes_by : Width → List ℕ → List ℕ
bytes_by Narrow xs = bytes_of xs
bytes_by Wide xs = wide_bytes_of xs

-- ---- The record

-- The sizes, n with what is added for its width, the directory, and the sections; reports have two bytes for each number.
unfoldable pub record_of : Width → ℕ → ℕ → List ℕ → List ℕ → List ℕ → List ℕ → List ℕ
record_of w n t deals pairs reports shares =
    (mark w + n) ∷ t ∷ bytes_of (directory w n t) ++ bytes_by w deals ++ bytes_by w pairs ++ bytes_of reports ++ bytes_by w shares

-- The numbers have the record's width, the reports 16 bits.
abbrev pub Small : Width → List ℕ → List ℕ → List ℕ → List ℕ → Type 0
Small w deals pairs reports shares =
    All (λ x. x < limit_of w) deals
    × All (λ x. x < limit_of w) pairs
    × All (λ x. x < 65536) reports
    × All (λ x. x < limit_of w) shares

-- Lists that a record can hold: 2n(t+1), 2n², n and n numbers of its width.
pub record Contents (w : Width) (n t : ℕ) (deals pairs reports shares : List ℕ) : Type 0 where
  pub size : sizes n t ≡ true
  pub first : length deals ≡ 2 * n * (t + 1)
  pub second : length pairs ≡ 2 * n * n
  pub third : length reports ≡ n
  pub fourth : length shares ≡ n
  pub small : Small w deals pairs reports shares

-- ---- Writing

-- The four lists have a record's lengths, 2n(t+1), 2n², n and n numbers, and the buffer has room for it.
unfoldable pub lists_fit : Width → ℕ → ℕ → ℕ → ℕ → ℕ → ℕ → ℕ → Bool
lists_fit w n t deals pairs reports shares room =
    eqb deals (2 * n * (t + 1))
    && eqb pairs (2 * n * n)
    && eqb reports n
    && eqb shares n
    && leb (section_start w n t 4) room

-- A record is written: no test refuses.
unfoldable pub writable : Width → ℕ → ℕ → List ℕ → List ℕ → List ℕ → List ℕ → ℕ → Bool
writable w n t deals pairs reports shares room =
    sizes n t && lists_fit w n t (length deals) (length pairs) (length reports) (length shares) room

-- The size is tested before the lengths.
abbrev pub writing_tests : Width → ℕ → ℕ → List ℕ → List ℕ → List ℕ → List ℕ → ℕ → List Test
writing_tests w n t deals pairs reports shares room =
    (sizes n t, WrongSize)
    ∷ (lists_fit w n t (length deals) (length pairs) (length reports) (length shares) room, WrongLength)
    ∷ []

-- The buffer afterwards, and the answer: what is written and its length, or the buffer as it was.
abbrev pub written_by : Admission → List ℕ → ℕ → List ℕ → List ℕ × Writing
written_by (Ok tt) new count old = (new, Ok count)
written_by (Err why) new count old = (old, Err why)

-- The record over the buffer's front, or the first test that fails.
unfoldable pub writing : Width → ℕ → ℕ → List ℕ → List ℕ → List ℕ → List ℕ → List ℕ → List ℕ × Writing
writing w n t deals pairs reports shares out =
    written_by (lowest (writing_tests w n t deals pairs reports shares (length out)))
    (over (record_of w n t deals pairs reports shares) out) (section_start w n t 4) out
