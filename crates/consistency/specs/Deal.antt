-- What follows from a party's deal: whether it is sound, the pairs it says, the report it gives.
--   row_of t d, column_of t d           row and column in a deal of 2(t + 1) numbers
--   first_from hs j, second_from hs j   the two numbers heard from party j, in a list of n pairs
--   sound p T i row column              the deal is sound (docs/PROTOCOL.md, "A lamp"), by party i's point in the table T
--   pair_for p T i row column j         party i's pair for j
--   said q                              a pair as the code answers it
--   confirms_by p T i row column j a b  party i has a one for j, which said a and b; confirms p T i row column hs j: by the pairs heard
--   report_of p n T i row column hs     party i's report
--   report_by p n T i row column fs ss  the same by the first numbers heard and the second ones, two lists
--   report_in p n T i row column fs ss  the same for every input: no_report, which no party reports, where it cannot be made
-- Laws: proofs/Reports.
use Rattle.std.specs.Prelude.{Bool, cond, not, ◌&&◌, List, ℕ, suc, ◌+◌, ◌*◌, ◌-◌, eqb, leb, length, take, drop, get_or}
use Rattle.lists.specs.Masks.{mask}
use Rattle.polynomial.specs.Polynomial.{residues, value}
use Rattle.parties.specs.Parties.{is_party, not_sent}
use Rattle.tables.specs.Tables.{point_at}
use Rattle.consistency.specs.declared.Pair.{Pair}

-- The row comes first in a deal, the column behind it.
abbrev pub row_of : ℕ → List ℕ → List ℕ
row_of t d = take (suc t) d

abbrev pub column_of : ℕ → List ℕ → List ℕ
column_of t d = drop (suc t) d

-- The pair heard from party j stands at places 2(j − 1) and 2(j − 1) + 1.
abbrev pub first_from : List ℕ → ℕ → ℕ
first_from hs j = get_or hs (2 * (j - 1)) 0

abbrev pub second_from : List ℕ → ℕ → ℕ
second_from hs j = get_or hs (2 * (j - 1) + 1) 0

-- "every number is below 65,521 and the row at i equals the column at i", i standing for party i's point
unfoldable pub sound : ℕ → List ℕ → ℕ → List ℕ → List ℕ → Bool
sound p T i row column = residues p row && residues p column && eqb (value p row (point_at T i)) (value p column (point_at T i))

-- "row at j, column at j"; "for itself, or with an unsound deal, both numbers are 65,535"
unfoldable pub pair_for : ℕ → List ℕ → ℕ → List ℕ → List ℕ → ℕ → ℕ × ℕ
pair_for p T i row column j =
    cond (not (eqb i j) && sound p T i row column) (value p row (point_at T j), value p column (point_at T j)) (not_sent p, not_sent p)

-- A pair as the code answers it.
abbrev pub said : ℕ × ℕ → Pair
said q = record { first = q.0; second = q.1 }

-- "j is another lamp, its deal is sound, j's first number equals its column at j, and j's second equals its row at j"
abbrev pub confirms_by : ℕ → List ℕ → ℕ → List ℕ → List ℕ → ℕ → ℕ → ℕ → Bool
confirms_by p T i row column j a b =
    not (eqb i j) && sound p T i row column && eqb a (value p column (point_at T j)) && eqb b (value p row (point_at T j))

unfoldable pub confirms : ℕ → List ℕ → ℕ → List ℕ → List ℕ → List ℕ → ℕ → Bool
confirms p T i row column hs j = confirms_by p T i row column j (first_from hs j) (second_from hs j)

-- Bit j − 1 for party j.
unfoldable pub report_of : ℕ → ℕ → List ℕ → ℕ → List ℕ → List ℕ → List ℕ → ℕ
report_of p n T i row column hs = mask (λ k. confirms p T i row column hs (suc k)) n

-- The same where the first numbers heard and the second ones are two lists.
unfoldable pub report_by : ℕ → ℕ → List ℕ → ℕ → List ℕ → List ℕ → List ℕ → List ℕ → ℕ
report_by p n T i row column fs ss = mask (λ k. confirms_by p T i row column (suc k) (get_or fs k 0) (get_or ss k 0)) n

-- All sixteen ones, so one for the party itself: no report of a party.
abbrev pub no_report : ℕ
no_report = 65535

-- A report has sixteen bits, and its party is one of n; lists that do not hold n numbers each are not reported on.
unfoldable pub report_in : ℕ → ℕ → List ℕ → ℕ → List ℕ → List ℕ → List ℕ → List ℕ → ℕ
report_in p n T i row column fs ss =
    let given = report_by p n T i row column fs ss in
    cond (leb n 16 && is_party n i && eqb (length fs) n && eqb (length ss) n) given no_report
