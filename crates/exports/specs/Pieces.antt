-- What the code fits, and what it makes of the answer.
--   repair_fit p t xs ys room     what a repair with room for `room` coefficients fits, or why it is refused
--   opening_fit p n t T shares    what an opening fits, or why it is refused
--   column_by r old          the coefficients found over the whole list, and the number
--   opened_by r old          the constant found, and the number
--   Repairs t xs ys          the sizes of a repair are right; Openings p n t T shares: all of an opening is
-- Laws: proofs/Answers, proofs/Opened.
use Rattle.std.specs.Prelude.{◌≡◌, true, Some, None, Ok, Err, List, ℕ, ◌+◌, ◌*◌, ◌-◌, ◌≤◌, length, take}
use Rattle.answers.specs.declared.Refusal.TheVariants.{NoColumn, NoOpening}
use Rattle.answers.specs.Fits.{Fitted, constant}
use Rattle.answers.specs.Refusals.{refusal_number, lowest}
use Rattle.fit.specs.Admitted.{decoded_if}
use Rattle.fit.specs.Fit.{fit}
use Rattle.fit.specs.Opening.{opening_of}
use Rattle.exports.specs.Exports.{repair_tests, opening_tests}
use Rattle.parties.specs.Parties.{sizes}
use Rattle.tables.specs.Tables.{IsTable}

-- Refused by its tests, or what fits all but t of the points.
unfoldable pub repair_fit : ℕ → ℕ → List ℕ → List ℕ → ℕ → Fitted
repair_fit p t xs ys room = decoded_if (lowest (repair_tests p t xs (length ys) room)) (fit p t (length xs - t) xs ys)

-- Refused by its tests, or what the shares open.
unfoldable pub opening_fit : ℕ → ℕ → ℕ → List ℕ → List ℕ → Fitted
opening_fit p n t T shares = decoded_if (lowest (opening_tests p n t T (length shares))) (opening_of p t T shares)

-- The coefficients where they are found, the list as it was otherwise.
abbrev pub column_by : Fitted → List ℕ → List ℕ × ℕ
column_by (Ok (Some f)) old = (take (length old) f, 0)
column_by (Ok None) old = (old, refusal_number NoColumn)
column_by (Err why) old = (old, refusal_number why)

-- The constant where it is found, the number as it was otherwise.
abbrev pub opened_by : Fitted → ℕ → ℕ × ℕ
opened_by (Ok (Some f)) old = (constant f, 0)
opened_by (Ok None) old = (old, refusal_number NoOpening)
opened_by (Err why) old = (old, refusal_number why)

-- What the sizes of a repair ask for: t, and a value for each of 3t+1 to 16 points.
pub record Repairs (t : ℕ) (xs ys : List ℕ) : Type 0 where
  pub some_faulty : 1 ≤ t
  pub few_faulty : t ≤ 3
  pub lengths : length xs ≡ length ys
  pub enough : 3 * t + 1 ≤ length xs
  pub most : length xs ≤ 16

-- What all tests of an opening ask for: legal sizes, a share for each party, and a table.
pub record Openings (p n t : ℕ) (T shares : List ℕ) : Type 0 where
  pub size : sizes n t ≡ true
  pub lengths : length shares ≡ n
  pub table : IsTable p n T
