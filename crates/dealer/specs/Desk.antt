-- The dealing desk: what it answers, and what the lent list holds afterwards.
--   deal p w T F i            party i's deal, with w = t + 1: row and column at its point in the table T, constants first
--   deals p w T F n           the deals of parties 1 to n, in order
--   stretch w out i           party i's own part of a list of deals
--   desk_tests p n t T F room   what the desk looks at, in the order of the refusals: size_tests, then length_tests, then content_tests
--   desk_with p n t T F out   the list afterwards, and the answer, with the table T; desk p n t F out: without one
-- Laws: proofs/Desk.
use Rattle.std.specs.Prelude.{List, [], ◌∷◌, ◌++◌, ℕ, zero, suc, ◌*◌, ◌-◌, eqb, length, take, drop}
use Rattle.polynomial.specs.Polynomial.{residues}
use Rattle.bivariate.specs.Bivariate.{row, column}
use Rattle.parties.specs.Parties.{sizes}
use Rattle.tables.specs.Tables.{point_at, one_to, is_table}
use Rattle.answers.specs.declared.Refusal.TheVariants.{WrongSize, WrongLength, NotResidue, WrongTable}
use Rattle.answers.specs.Refusals.{Test, lowest, Admission}
use Rattle.std.specs.Prelude.{Ok, Err}

-- Party i's deal.
unfoldable pub deal : ℕ → ℕ → List ℕ → List ℕ → ℕ → List ℕ
deal p w T F i = row p w w F (point_at T i) ++ column p w w F (point_at T i)

-- The deals of parties 1 to n.
unfoldable pub deals : ℕ → ℕ → List ℕ → List ℕ → ℕ → List ℕ
deals p w T F zero = []
deals p w T F (suc n) = deals p w T F n ++ deal p w T F (suc n)

-- Party i's own part of a list of deals (the protocol's stretch).
abbrev pub stretch : ℕ → List ℕ → ℕ → List ℕ
stretch w out i = take (2 * w) (drop ((i - 1) * (2 * w)) out)

-- 1 for the sizes; 3 for the length of the dealer's list and of the lent one.
abbrev pub size_tests : ℕ → ℕ → ℕ → ℕ → List Test
size_tests n t size room =
    (sizes n t, WrongSize) ∷ (eqb size (suc t * suc t), WrongLength) ∷ (eqb room (n * (2 * suc t)), WrongLength) ∷ []

-- Then 3 for the length of the table.
abbrev pub length_tests : ℕ → ℕ → ℕ → ℕ → ℕ → List Test
length_tests n t size room points = size_tests n t size room ++ (eqb points n, WrongLength) ∷ []

-- Then 14 for its entries, and 5 for a number that is no residue.
abbrev pub content_tests : ℕ → ℕ → List ℕ → List ℕ → List Test
content_tests p n T F = (is_table p n T, WrongTable) ∷ (residues p F, NotResidue) ∷ []

-- All of them, in order.
abbrev pub desk_tests : ℕ → ℕ → ℕ → List ℕ → List ℕ → ℕ → List Test
desk_tests p n t T F room = length_tests n t (length F) room (length T) ++ content_tests p n T F

-- The new list, unless the call is refused.
abbrev pub dealt_by : Admission → List ℕ → List ℕ → List ℕ × Admission
dealt_by (Ok tt) new out = (new, Ok tt)
dealt_by (Err why) new out = (out, Err why)

-- The lent list afterwards, and the answer.
unfoldable pub desk_with : ℕ → ℕ → ℕ → List ℕ → List ℕ → List ℕ → List ℕ × Admission
desk_with p n t T F out = let new = deals p (suc t) T F n in dealt_by (lowest (desk_tests p n t T F (length out))) new out

-- Without a table: the parties' points are 1 to n.
abbrev pub desk : ℕ → ℕ → ℕ → List ℕ → List ℕ → List ℕ × Admission
desk p n t F out = desk_with p n t (one_to n) F out
