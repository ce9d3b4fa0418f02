-- The parties' points (docs/PROTOCOL.md, "Station numbers"): a table has one for each party, in party order.
--   point_at T i        party i's point
--   one_to n            1 to n: the table where none is loaded
--   IsTable p n T       T is a table of n parties: n residues, none 0, none twice; is_table p n T is the test for it
--   table_tests p n T   what a table lent for n parties is looked at for, in the order of the refusals
--   absent, distinct_residues   parts of that test
--   in_array n T        the array that holds the table T loaded for n parties
-- Laws: proofs/Tables.
use Rattle.std.specs.Prelude.{◌≡◌, Bool, true, cond, not, ◌&&◌, List, [], ◌∷◌, ℕ, ltb, leb, eqb, length}
use Rattle.lists.specs.All.{All, Distinct}
use Rattle.lists.specs.Tabulate.{pad}
use Rattle.answers.specs.declared.Refusal.TheVariants.{WrongLength, WrongTable}
use Rattle.answers.specs.Refusals.{Test}
use Rattle.polynomial.specs.Polynomial.{Residues}
use Rattle.parties.specs.Parties.{parties, entry}

-- Party i's point is entry i of the table: the one place that says so.
unfoldable pub point_at : List ℕ → ℕ → ℕ
point_at T i = entry T i

-- "without one it is 1 to n"
abbrev pub one_to : ℕ → List ℕ
one_to n = parties n

-- "A table of n numbers", no entry "0, above 65,520 or there twice"; "14 refuse[s] from the prime up".
pub record IsTable (p n : ℕ) (T : List ℕ) : Type 0 where
  pub size : length T ≡ n
  pub below : Residues p T
  pub not_zero : All (λ x. x ≡ 0 → ⊥) T
  pub once : Distinct T

-- The test whether x is none of the numbers.
abbrev pub absent : ℕ → List ℕ → Bool
absent x [] = true
absent x (a ∷ xs) = not (eqb a x) && absent x xs

-- The test for distinct residues.
abbrev pub distinct_residues : ℕ → List ℕ → Bool
distinct_residues p [] = true
distinct_residues p (a ∷ xs) = (ltb a p && absent a xs) && distinct_residues p xs

-- The test for a table.
unfoldable pub is_table : ℕ → ℕ → List ℕ → Bool
is_table p n T = eqb (length T) n && distinct_residues p T && absent 0 T

-- 3 for its length, 14 right after that for its entries.
abbrev pub table_tests : ℕ → ℕ → List ℕ → List Test
table_tests p n T = (eqb (length T) n, WrongLength) ∷ (is_table p n T, WrongTable) ∷ []

-- The table with zeros behind it, sixteen numbers in all; zeros alone for one of another length, which no call takes for a table.
abbrev pub in_array : ℕ → List ℕ → List ℕ
in_array n T = pad 16 (cond (leb n 16 && eqb (length T) n) T [])
