-- What dealing, repair and opening for other languages do: what the lent place holds afterwards, and the answer, 0 or the protocol's number
-- of the refusal.
--   dealing_at p n t T F out        dealing by the desk with the table T; dealing p n t F out: without one
--   repair_tests p t xs m room      what a repair is looked at for, with m values and room for `room` coefficients; repair_sizes: at first
--   repairing p t xs ys column      the repair of a column from the points with the coordinates xs and ys
--   opening_lengths n t m k         what an opening of m shares at k points is looked at for at first; opening_tests: all of it
--   opening_at p n t T shares old   the opening of a published list by itself with the table T; opening p n t shares old: without one
--   rendered bytes out              the text of a record, and its length, 0 where it has no room
-- Laws: proofs/Answers by the tests, proofs/Near for what a repair and an opening mean.
use Rattle.std.proofs.Math.Option.{Option, none, some}
use Rattle.std.specs.Prelude.{List, [], ◌∷◌, ◌++◌, ℕ, suc, ◌+◌, ◌*◌, ◌-◌, leb, eqb, length}
use Rattle.lists.specs.Options.{or_zero}
use Rattle.answers.specs.declared.Refusal.TheVariants.{WrongSize, WrongLength, NoColumn, NoOpening, WrongTable}
use Rattle.answers.specs.Refusals.{Test, refusal_number, lowest, Admission, number_of}
use Rattle.answers.specs.Fits.{constant}
use Rattle.fit.specs.Fit.{fit}
use Rattle.tables.specs.Tables.{one_to, is_table}
use Rattle.fit.specs.Opening.{opening_of}
use Rattle.recovery.specs.Recovery.{published_tests}
use Rattle.dealer.specs.Desk.{desk_with}
use Rattle.transcript.specs.Transcript.{rendering, bytes_written}
use Rattle.std.specs.Prelude.{Ok, Err}

-- The desk's list, and its answer as a number.
unfoldable pub dealing_at : ℕ → ℕ → ℕ → List ℕ → List ℕ → List ℕ → List ℕ × ℕ
dealing_at p n t T F out = let d = desk_with p n t T F out in (d.0, or_zero (number_of d.1))

-- Without a table.
abbrev pub dealing : ℕ → ℕ → ℕ → List ℕ → List ℕ → List ℕ × ℕ
dealing p n t F out = dealing_at p n t (one_to n) F out

-- 1 for t; 3 for the lists: a value for each of 3t+1 to 16 points, and room for t+1 coefficients.
abbrev pub repair_sizes : ℕ → ℕ → ℕ → ℕ → List Test
repair_sizes t k m room =
    (leb 1 t, WrongSize)
    ∷ (leb t 3, WrongSize)
    ∷ (eqb k m, WrongLength)
    ∷ (leb (3 * t + 1) k, WrongLength)
    ∷ (leb k 16, WrongLength)
    ∷ (eqb room (suc t), WrongLength)
    ∷ []

-- Then 14 for the points, which are entries of a table.
abbrev pub repair_tests : ℕ → ℕ → List ℕ → ℕ → ℕ → List Test
repair_tests p t xs m room = repair_sizes t (length xs) m room ++ (is_table p (length xs) xs, WrongTable) ∷ []

-- The coefficients found over the whole list; where none are, 9 and the list as it was.
abbrev pub repaired : List ℕ → Option (List ℕ) → List ℕ × ℕ
repaired old none = (old, refusal_number NoColumn)
repaired old (some f) = (f, 0)

-- The same, unless the call is refused.
abbrev pub repaired_if : Admission → List ℕ → Option (List ℕ) → List ℕ × ℕ
repaired_if (Ok tt) old o = repaired old o
repaired_if (Err why) old o = (old, refusal_number why)

-- At most t of the points differ from the column.
unfoldable pub repairing : ℕ → ℕ → List ℕ → List ℕ → List ℕ → List ℕ × ℕ
repairing p t xs ys column =
    repaired_if (lowest (repair_tests p t xs (length ys) (length column))) column (fit p t (length xs - t) xs ys)

-- The constant of what is found; where nothing is, 10 and the number as it was.
abbrev pub opened : ℕ → Option (List ℕ) → ℕ × ℕ
opened old none = (old, refusal_number NoOpening)
opened old (some f) = (constant f, 0)

-- The same, unless the call is refused.
abbrev pub opened_if : Admission → ℕ → Option (List ℕ) → ℕ × ℕ
opened_if (Ok tt) old o = opened old o
opened_if (Err why) old o = (old, refusal_number why)

-- 1 for the sizes, 3 for the number of shares and of points.
abbrev pub opening_lengths : ℕ → ℕ → ℕ → ℕ → List Test
opening_lengths n t m k = published_tests n t m ++ (eqb k n, WrongLength) ∷ []

-- Then 14 for the points.
abbrev pub opening_tests : ℕ → ℕ → ℕ → List ℕ → ℕ → List Test
opening_tests p n t T m = opening_lengths n t m (length T) ++ (is_table p n T, WrongTable) ∷ []

-- At least 2t + 1 of the n shares agree and at most t of those sent differ: 1 for the sizes, 3 for the number of shares, 3 and 14 for the
-- table, and 10 where nothing is found.
unfoldable pub opening_at : ℕ → ℕ → ℕ → List ℕ → List ℕ → ℕ → ℕ × ℕ
opening_at p n t T shares old = opened_if (lowest (opening_tests p n t T (length shares))) old (opening_of p t T shares)

-- Without a table.
abbrev pub opening : ℕ → ℕ → ℕ → List ℕ → ℕ → ℕ × ℕ
opening p n t shares old = opening_at p n t (one_to n) shares old

-- The buffer afterwards, and how many bytes are written: no text is empty, so 0 says that none are.
unfoldable pub rendered : List ℕ → List ℕ → List ℕ × ℕ
rendered bytes out = let r = rendering bytes out in (r.0, bytes_written r.1)
