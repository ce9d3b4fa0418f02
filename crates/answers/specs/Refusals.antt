-- Why a call is refused (docs/PROTOCOL.md, "What is refused").
--   refusal_number       the number of a refusal
--   number_of r          the number of what is refused; none of what is not
--   Admission            whether a call is admitted, or why not
--   asked pass why       what one test finds; asked_all a tests: tests asked one behind the other, after what was found before
--   lowest tests         the refusal of the first test that fails, which is the lowest but for 14 and 18
-- Laws: proofs/Tests.
use Rattle.std.specs.Prelude.{Bool, cond, List, [], ◌∷◌, ℕ, Result, Ok, Err}
use Rattle.std.proofs.Math.Option.{Option, none, some}
use Rattle.answers.specs.declared.Refusal.{Refusal}
use Rattle.answers.specs.declared.Refusal.TheVariants.{WrongSize, WrongNumber, WrongLength, WrongStage, NotResidue, WrongDirectory}
use Rattle.answers.specs.declared.Refusal.TheVariants.{AlteredReport, DealerRejected, NoColumn, NoOpening, WrongTable, WrongWidth}

-- The one definition of a refusal's number.
abbrev pub refusal_number : Refusal → ℕ
refusal_number WrongSize = 1
refusal_number WrongNumber = 2
refusal_number WrongLength = 3
refusal_number WrongStage = 4
refusal_number NotResidue = 5
refusal_number WrongDirectory = 6
refusal_number AlteredReport = 7
refusal_number DealerRejected = 8
refusal_number NoColumn = 9
refusal_number NoOpening = 10
refusal_number WrongTable = 14
refusal_number WrongWidth = 18

-- The number of what is refused; none of what is not.
abbrev pub number_of : {A : Type 0} → Result A Refusal → Option ℕ
number_of (Ok a) = none
number_of (Err why) = some (refusal_number why)

-- Whether a call is admitted, or why it is refused.
abbrev pub Admission : Type 0
Admission = Result Unit Refusal

-- Whether a test passes, and the refusal where it does not.
abbrev pub Test : Type 0
Test = Bool × Refusal

-- What one test of a call finds.
abbrev pub asked : Bool → Refusal → Admission
asked pass why = cond pass (Ok tt) (Err why)

-- Tests asked as code asks them, one behind the other by `?`, after what was found before: a refusal ends the asking.
abbrev pub asked_all : Admission → List Test → Admission
asked_all a [] = a
asked_all (Ok u) ((pass, why) ∷ tests) = asked_all (asked pass why) tests
asked_all (Err first) (test ∷ tests) = Err first

-- "The lowest number that applies is given, and none otherwise": the first test that fails, the tests standing in the order of their
-- numbers, but for 18, right after 2, and 14, right after 3.
abbrev pub lowest : List Test → Admission
lowest [] = Ok tt
lowest ((pass, why) ∷ tests) = cond pass (lowest tests) (Err why)
