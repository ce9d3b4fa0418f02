-- Numbers in a list of bytes, the high byte first, two or four bytes for each.
--   paired b xs                each two of a list as one number, the first counting b times as much
--   number_at bytes at         the number of two bytes at a place; wide_number_at that of four
--   numbers bytes              all numbers of two bytes each; wide_numbers of four
--   number_in bytes k          the k-th of them, 0 behind the last; wide_number_in of four bytes
--   number_bytes w             how many bytes a number of a width has
--   number_at_by w bytes at    the number of a width at a place
--   numbers_by w bytes         all numbers of a width; number_by w bytes k the k-th of them, 0 behind the last
--   stand_at bytes at xs       the numbers xs stand in the bytes from a place on, two bytes for each
--   over xs ys                 ys with xs written over its front, as far as both reach
-- Laws: proofs/Bytes.
use Rattle.std.specs.Prelude.{Bool, true, ◌&&◌, List, [], ◌∷◌, ℕ, ◌+◌, ◌*◌, eqb, get_or}
use Rattle.field.specs.declared.Width.{Width}
use Rattle.field.specs.declared.Width.TheVariants.{Narrow, Wide}

-- Each two of a list as one number; an odd one at the end is none.
unfoldable pub paired : ℕ → List ℕ → List ℕ
paired b [] = []
paired b (high ∷ []) = []
paired b (high ∷ low ∷ rest) = (high * b + low) ∷ paired b rest

-- ---- Two bytes

-- The number at a place: its high byte stands there, its low byte behind it.
abbrev pub number_at : List ℕ → ℕ → ℕ
number_at bytes at = get_or bytes at 0 * 256 + get_or bytes (at + 1) 0

-- All numbers; an odd byte at the end is none.
abbrev pub numbers : List ℕ → List ℕ
numbers bytes = paired 256 bytes

-- The k-th number, 0 behind the last.
abbrev pub number_in : List ℕ → ℕ → ℕ
number_in bytes k = get_or (numbers bytes) k 0

-- ---- Four bytes: two numbers of two

-- The number at a place: its high half stands there, its low half behind it.
abbrev pub wide_number_at : List ℕ → ℕ → ℕ
wide_number_at bytes at = number_at bytes at * 65536 + number_at bytes (at + 2)

-- All numbers; up to three bytes that are left at the end are none.
abbrev pub wide_numbers : List ℕ → List ℕ
wide_numbers bytes = paired 65536 (numbers bytes)

-- The k-th number, 0 behind the last.
abbrev pub wide_number_in : List ℕ → ℕ → ℕ
wide_number_in bytes k = get_or (wide_numbers bytes) k 0

-- ---- Either

-- How many bytes a number has.
abbrev pub number_bytes : Width → ℕ
number_bytes Narrow = 2
number_bytes Wide = 4

-- The number at a place.
abbrev pub number_at_by : Width → List ℕ → ℕ → ℕ
number_at_by Narrow bytes at = number_at bytes at
number_at_by Wide bytes at = wide_number_at bytes at

-- All numbers.
abbrev pub numbers_by : Width → List ℕ → List ℕ
numbers_by Narrow bytes = numbers bytes
numbers_by Wide bytes = wide_numbers bytes

-- The k-th number, 0 behind the last.
abbrev pub number_by : Width → List ℕ → ℕ → ℕ
number_by w bytes k = get_or (numbers_by w bytes) k 0

-- ---- Places

-- The numbers xs stand one behind the other from a place on, two bytes for each.
unfoldable pub stand_at : List ℕ → ℕ → List ℕ → Bool
stand_at bytes at [] = true
stand_at bytes at (x ∷ xs) = eqb (number_at bytes at) x && stand_at bytes (at + 2) xs

-- xs over the front of ys, as far as both reach; the rest of ys is as it was.
unfoldable pub over : List ℕ → List ℕ → List ℕ
over [] ys = ys
over (x ∷ xs) [] = []
over (x ∷ xs) (y ∷ ys) = x ∷ over xs ys
