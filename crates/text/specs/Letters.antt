-- Text as a list of bytes.
--   letters s                 the bytes of a quoted text of ASCII letters
--   decimal x                 the decimal digits of a number of 32 bits
--   spell k x                 the same of a number of at most k digits
--   five x, ten x, zeros x    the last five digits, the last ten, and how many of the five are zeros in front
--   field word x, line word x   a word and a number behind it, without and with a line end
--   putting out at word       the buffer with the word put from a place on, and the place behind it
--   joined words              several words as one text
--   puts out at words         each of several words put behind the one before it
--   Added                     what it says that a piece was put into a buffer
-- Laws: proofs/Letters, proofs/Spelling.
use Rattle.std.specs.Prelude.{◌≡◌, cond, List, [], ◌∷◌, ◌++◌, ℕ, zero, suc, ◌+◌, ◌/◌, ◌%◌, ltb, leb, length, take, drop}
use Prim.Native.Char.{code}
use Prim.Native.String.{String, [] as end, ◌∷◌ as ◌then◌}

-- One byte for each letter.
abbrev pub letters : String → List ℕ
letters end = []
letters (c then s) = code c ∷ letters s

-- The digit of the ones, the tens and so on: 48 is the digit 0.
abbrev pub digit : ℕ → ℕ
digit x = 48 + x % 10

-- The last digit behind those of the tens; no zero stands in front, but 0 itself is one digit.
unfoldable pub spell : ℕ → ℕ → List ℕ
spell zero x = []
spell (suc k) x = cond (ltb x 10) (digit x ∷ []) (spell k (x / 10) ++ digit x ∷ [])

-- 4,294,967,295, the largest number of 32 bits, has ten digits. Not the library's `decimal`, which is the same below 10 to the 10
-- (`decimal-written`): no number has more than ten digits here, so that the lengths of lines (`refused-short`, `lamp-short`) need no bound.
abbrev pub decimal : ℕ → List ℕ
decimal x = spell 10 x

-- The way that the code takes: the last five digits.
abbrev pub five : ℕ → List ℕ
five x = digit (x / 10000) ∷ digit (x / 1000) ∷ digit (x / 100) ∷ digit (x / 10) ∷ digit x ∷ []

-- From 100,000 on: five more in front.
abbrev pub ten : ℕ → List ℕ
ten x = five (x / 100000) ++ five x

-- And how many of five stand in front of the first that counts.
unfoldable pub zeros : ℕ → ℕ
zeros x = cond (ltb x 10) 4 (cond (ltb x 100) 3 (cond (ltb x 1000) 2 (cond (ltb x 10000) 1 0)))

-- A word and a number.
abbrev pub field : List ℕ → ℕ → List ℕ
field word x = word ++ decimal x

-- The same with a line end.
abbrev pub line : List ℕ → ℕ → List ℕ
line word x = field word x ++ letters "\n"

-- Words one behind the other.
abbrev pub joined : List (List ℕ) → List ℕ
joined [] = []
joined (word ∷ words) = word ++ joined words

-- ---- in a buffer

-- The word over the buffer's bytes from the place `at` on, and the place behind it. Where it has no room the buffer is left alone, and the
-- place is `at`.
unfoldable pub putting : List ℕ → ℕ → List ℕ → List ℕ × ℕ
putting out at word =
    cond (leb (at + length word) (length out)) (take at out ++ word ++ drop (at + length word) out, at + length word) (out, at)

-- Each word at the place behind the one before it.
unfoldable pub puts : List ℕ → ℕ → List (List ℕ) → List ℕ × ℕ
puts out at [] = (out, at)
puts out at (word ∷ words) = puts (putting out at word).0 (putting out at word).1 words

-- The buffer after holds what the buffer before held up to the place `at`, then the word, and from the place r behind it on again what it
-- held.
pub record Added (before : List ℕ) (at : ℕ) (word after : List ℕ) (r : ℕ) : Type 0 where
  pub next : r ≡ at + length word
  pub text : take r after ≡ take at before ++ word
  pub rest : drop r after ≡ drop r before
