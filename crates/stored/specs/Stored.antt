-- A share as it is stored between runs: six bytes, which carry the share's prime; those of an old share were two (docs/PROTOCOL.md, "Wider
-- numbers").
--   share_bytes w v            the six bytes of the share v modulo the prime of the width w
--   width_named b              the width that the first byte names
--   share_number bs            the number in the last four bytes; old_number bs: that in the two of an old share
--   residue_tests w v          the test that every share passes
--   write_tests w v room, read_tests bs, old_tests bs   the tests of a writing, of a reading, and of that of an old share, in order
--   write_share w v out        what a lent buffer has after the writing, and what the writing answers
--   Stored, share w v          what stored bytes say: a share with its prime, or why they are none; such a share
--   stored_by a w v            the share where every test passes; share_of w v: where its number is a residue
--   read_share bs, old_share bs what six bytes, and the two of an old share, say
-- Laws: proofs/Answers, proofs/Shares, proofs/Computed.
use Rattle.std.specs.Prelude.{List, [], ◌∷◌, ℕ, zero, suc, eqb, leb, ltb, length, get_or, drop, Result, Ok, Err}
use Rattle.field.specs.declared.Width.{Width}
use Rattle.field.specs.declared.Width.TheVariants.{Narrow, Wide}
use Rattle.field.specs.Modulus.{prime_of, width_number}
use Rattle.answers.specs.declared.Refusal.{Refusal}
use Rattle.answers.specs.declared.Refusal.TheVariants.{WrongLength, NotResidue, WrongDirectory}
use Rattle.answers.specs.Refusals.{Test, lowest, Admission}
use Rattle.answers.specs.Answers.{Writing}
use Rattle.record.specs.Bytes.{number_in, wide_number_in}
use Rattle.writer.specs.Writer.{wide_bytes_of, written_by}
use Rattle.stored.specs.declared.Share.{Share}

-- ---- The bytes

-- "the first is 0 for a narrow share and 1 for a wide one, the second 0, and the last four the number, high byte first"
abbrev pub share_bytes : Width → ℕ → List ℕ
share_bytes w v = width_number w ∷ 0 ∷ wide_bytes_of (v ∷ [])

-- The width that the first byte names: 0 is narrow, 1 is wide, and no other passes the tests.
abbrev pub width_named : ℕ → Width
width_named zero = Narrow
width_named (suc b) = Wide

-- The number behind the first two bytes.
abbrev pub share_number : List ℕ → ℕ
share_number bs = wide_number_in (drop 2 bs) 0

-- An old share is its number alone.
abbrev pub old_number : List ℕ → ℕ
old_number bs = number_in bs 0

-- ---- What is refused

-- A share is a residue of its prime.
abbrev pub residue_tests : Width → ℕ → List Test
residue_tests w v = (ltb v (prime_of w), NotResidue) ∷ []

-- A buffer of six bytes, and a residue.
abbrev pub write_tests : Width → ℕ → ℕ → List Test
write_tests w v room = (eqb room 6, WrongLength) ∷ residue_tests w v

-- 6 stands before 5: bytes that name no prime have none whose residue the number could be.
abbrev pub read_tests : List ℕ → List Test
read_tests bs =
    (eqb (length bs) 6, WrongLength)
    ∷ (leb (get_or bs 0 0) 1, WrongDirectory)
    ∷ (eqb (get_or bs 1 0) 0, WrongDirectory)
    ∷ residue_tests (width_named (get_or bs 0 0)) (share_number bs)

-- "An old share, two bytes, high byte first, keeps its number and its prime, which is 65,521."
abbrev pub old_tests : List ℕ → List Test
old_tests bs = (eqb (length bs) 2, WrongLength) ∷ residue_tests Narrow (old_number bs)

-- ---- Writing and reading

-- The share's bytes, or the first test that fails: the buffer is as it was then.
unfoldable pub write_share : Width → ℕ → List ℕ → List ℕ × Writing
write_share w v out = written_by (lowest (write_tests w v (length out))) (share_bytes w v) 6 out

-- What stored bytes say.
abbrev pub Stored : Type 0
Stored = Result Share Refusal

-- A share with its prime.
abbrev pub share : Width → ℕ → Stored
share w v = Ok (record { width = w; number = v })

-- The share where every test passes.
abbrev pub stored_by : Admission → Width → ℕ → Stored
stored_by (Ok tt) w v = share w v
stored_by (Err why) w v = Err why

-- A number that was stored for a prime.
abbrev pub share_of : Width → ℕ → Stored
share_of w v = stored_by (lowest (residue_tests w v)) w v

-- By the prime and the number that the six bytes give.
unfoldable pub read_share : List ℕ → Stored
read_share bs = stored_by (lowest (read_tests bs)) (width_named (get_or bs 0 0)) (share_number bs)

-- An old share is narrow.
unfoldable pub old_share : List ℕ → Stored
old_share bs = stored_by (lowest (old_tests bs)) Narrow (old_number bs)
