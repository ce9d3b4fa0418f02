-- The lines that are printed of a record (docs/PROTOCOL.md, "The text of a record"), from numbers alone. Each line is said once: the
-- words in the order in which they are put, and the text that they make.
--   size_words, happy_words, verdict_words, lamp_words, opened_words, refused_words   the words of a line
--   size_line, happy_line, verdict_lines, lamp_line, opened_line, refused_line        its text
--   outcome_words word outcome   a value behind the word, or the number of a refusal; FewDigits outcome: that number is below 100
-- Laws: proofs/Lines.
use Rattle.std.specs.Prelude.{Bool, cond, List, [], ◌∷◌, ◌++◌, ℕ, ◌<◌, zero, suc, Result, Ok, Err}
use Rattle.lists.specs.Masks.{bit}
use Rattle.text.specs.Letters.{letters, decimal, joined}

-- The words of "size n t".
abbrev pub size_words : ℕ → ℕ → List (List ℕ)
size_words n t = letters "size " ∷ decimal n ∷ letters " " ∷ decimal t ∷ letters "\n" ∷ []

-- Their text.
abbrev pub size_line : ℕ → ℕ → List ℕ
size_line n t = joined (size_words n t)

-- ---- the verdict

-- The lamp at place k, if it is in the set.
unfoldable pub name : ℕ → ℕ → List (List ℕ)
name set k = cond (bit set k) (letters " " ∷ decimal (suc k) ∷ []) []

-- The lamps of a set, among the first n.
unfoldable pub names : ℕ → ℕ → List (List ℕ)
names set zero = []
names set (suc k) = names set k ++ name set k

-- The words of "happy i j ..".
abbrev pub happy_words : ℕ → ℕ → List (List ℕ)
happy_words set n = (letters "happy" ∷ names set n) ++ letters "\n" ∷ []

-- Their text.
abbrev pub happy_line : ℕ → ℕ → List ℕ
happy_line set n = joined (happy_words set n)

-- The verdict; the happy line is left out where the dealer is rejected.
unfoldable pub verdict_words : Bool → ℕ → ℕ → List (List ℕ)
verdict_words accepted set n = cond accepted (letters "dealer accepted\n" ∷ happy_words set n) (letters "dealer rejected\n" ∷ [])

-- Their text.
abbrev pub verdict_lines : Bool → ℕ → ℕ → List ℕ
verdict_lines accepted set n = joined (verdict_words accepted set n)

-- ---- a value or a refusal

-- The word and the value, or " refused k".
abbrev pub outcome_words : List ℕ → Result ℕ ℕ → List (List ℕ)
outcome_words word (Ok value) = word ∷ decimal value ∷ letters "\n" ∷ []
outcome_words word (Err k) = letters " refused " ∷ decimal k ∷ letters "\n" ∷ []

-- A refusal's number has at most two digits, as all of the protocol's have.
abbrev pub FewDigits : Result ℕ ℕ → Type 0
FewDigits (Ok value) = Unit
FewDigits (Err k) = k < 100

-- "lamp i share v" or "lamp i refused k".
abbrev pub lamp_words : ℕ → Result ℕ ℕ → List (List ℕ)
lamp_words i outcome = letters "lamp " ∷ decimal i ∷ outcome_words (letters " share ") outcome

-- Their text.
abbrev pub lamp_line : ℕ → Result ℕ ℕ → List ℕ
lamp_line i outcome = joined (lamp_words i outcome)

-- "opened v" or "opened refused k".
abbrev pub opened_words : Result ℕ ℕ → List (List ℕ)
opened_words outcome = letters "opened" ∷ outcome_words (letters " ") outcome

-- Their text.
abbrev pub opened_line : Result ℕ ℕ → List ℕ
opened_line outcome = joined (opened_words outcome)

-- "record refused k".
abbrev pub refused_words : ℕ → List (List ℕ)
refused_words k = letters "record refused " ∷ decimal k ∷ letters "\n" ∷ []

-- Their text.
abbrev pub refused_line : ℕ → List ℕ
refused_line k = joined (refused_words k)
