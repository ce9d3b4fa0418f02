-- What the words of the text mean to a reader.
--   spelt ds     the number that decimal digits spell
--   listed xs    numbers in one line, a space before each
-- Laws: proofs/Meaning.
use Rattle.std.specs.Prelude.{List, [], ◌∷◌, ◌++◌, ℕ, ◌+◌, ◌*◌, ◌-◌}
use Rattle.text.specs.Letters.{letters, field}

-- Each digit counts ten times less than the one before it; 48 is the digit 0.
abbrev pub spelt : ℕ → List ℕ → ℕ
spelt high [] = high
spelt high (d ∷ ds) = spelt (10 * high + (d - 48)) ds

-- " i j .."
abbrev pub listed : List ℕ → List ℕ
listed [] = []
listed (x ∷ xs) = field (letters " ") x ++ listed xs
