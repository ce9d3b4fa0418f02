-- What a party says and reports, as functions that take every argument.
--   width_for k                       the width that a number stands for
--   admitted p T row column           a table of residues, and row and column of at most four numbers
--   pairing p T i row column j old    what the lent pair holds afterwards, and the answer: 0, or 1 where nothing is written
--   reporting p n T i row column fs ss   party i's report, or no_report
-- Laws: proofs/Lists.
use Rattle.std.specs.Prelude.{Bool, cond, ◌&&◌, List, [], ◌∷◌, ℕ, eqb, leb, length}
use Rattle.field.specs.declared.Width.{Width}
use Rattle.field.specs.declared.Width.TheVariants.{Narrow, Wide}
use Rattle.polynomial.specs.Polynomial.{residues}
use Rattle.consistency.specs.Deal.{pair_for, report_in, no_report}

-- 0 for the narrow one, any other number for the wide one.
abbrev pub width_for : ℕ → Width
width_for k = cond (eqb k 0) Narrow Wide

-- What `consistency` asks of its callers.
unfoldable pub admitted : ℕ → List ℕ → List ℕ → List ℕ → Bool
admitted p T row column = leb (length row) 4 && leb (length column) 4 && residues p T

-- A pair as a list of two numbers.
abbrev pub listed : ℕ × ℕ → List ℕ
listed q = q.0 ∷ q.1 ∷ []

-- The two numbers of the pair over a list of two; where the lists are others than asked for, 1 and the list as it was.
unfoldable pub pairing : ℕ → List ℕ → ℕ → List ℕ → List ℕ → ℕ → List ℕ → List ℕ × ℕ
pairing p T i row column j old =
    cond (eqb (length old) 2 && admitted p T row column) (listed (pair_for p T i row column j), 0) (old, 1)

-- The report, or none where the lists are others than asked for.
unfoldable pub reporting : ℕ → ℕ → List ℕ → ℕ → List ℕ → List ℕ → List ℕ → List ℕ → ℕ
reporting p n T i row column fs ss = cond (admitted p T row column) (report_in p n T i row column fs ss) no_report
