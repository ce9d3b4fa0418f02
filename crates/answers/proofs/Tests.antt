-- The lowest refusal that applies.
--   AllPass                     every test passes; lowest-pass: where none is refused they do
--   lowest-first, lowest-then   two lists of tests: the first list settles it, or passes
--   passed-more                 tests behind others that pass
--   number-not-0                no refusal has the number 0
use mathlib.Core.Path.{◌≡◌, refl, sym}
use mathlib.Core.Bool.{true, false}
use mathlib.Core.List.{List, [], ◌∷◌, ◌++◌}
use native.Mathlib.Omega.{arith}
use Rattle.answers.specs.declared.Refusal.{Refusal}
use Rattle.answers.specs.declared.Refusal.TheVariants.{WrongSize, WrongNumber, WrongLength, WrongStage, NotResidue, WrongDirectory}
use Rattle.answers.specs.declared.Refusal.TheVariants.{AlteredReport, DealerRejected, NoColumn, NoOpening, WrongTable, WrongWidth}
use Rattle.answers.specs.Refusals.{Test, refusal_number, lowest, Admission}
use Rattle.std.specs.Prelude.{Ok, Err}

-- Every test passes.
abbrev pub AllPass : List Test → Type 0
AllPass [] = Unit
AllPass ((pass, why) ∷ tests) = (pass ≡ true) × AllPass tests

pub fail-pass : {A : Type 0} {why : Refusal} → ◌≡◌ {A = Admission} (Err why) (Ok tt) → A
fail-pass e = absurd (cc)

pub lowest-pass : (tests : List Test) → lowest tests ≡ Ok tt → AllPass tests
lowest-pass [] e = tt
lowest-pass ((true, w) ∷ tests) e = (refl, lowest-pass tests e)
lowest-pass ((false, w) ∷ tests) e = fail-pass e

-- ---- one list of tests behind another
pub lowest-first : (first more : List Test) {why : Refusal} → lowest first ≡ Err why → lowest (first ++ more) ≡ Err why
lowest-first [] more e = fail-pass (sym e)
lowest-first ((true, w) ∷ first) more e = lowest-first first more e
lowest-first ((false, w) ∷ first) more e = e

pub lowest-then : (first more : List Test) → lowest first ≡ Ok tt → lowest (first ++ more) ≡ lowest more
lowest-then [] more e = refl
lowest-then ((true, w) ∷ first) more e = lowest-then first more e
lowest-then ((false, w) ∷ first) more e = fail-pass e

-- Tests that pass change nothing behind others.
pub passed-more : (first more : List Test) → lowest more ≡ Ok tt → lowest first ≡ lowest (first ++ more)
passed-more [] more e = sym e
passed-more ((true, w) ∷ first) more e = passed-more first more e
passed-more ((false, w) ∷ first) more e = refl

-- ---- no refusal has the number 0, by which the C functions say that there is none
pub number-not-0 : (why : Refusal) → refusal_number why ≡ 0 → ⊥
number-not-0 WrongSize e = omega arith
number-not-0 WrongNumber e = omega arith
number-not-0 WrongLength e = omega arith
number-not-0 WrongStage e = omega arith
number-not-0 NotResidue e = omega arith
number-not-0 WrongDirectory e = omega arith
number-not-0 AlteredReport e = omega arith
number-not-0 DealerRejected e = omega arith
number-not-0 NoColumn e = omega arith
number-not-0 NoOpening e = omega arith
number-not-0 WrongTable e = omega arith
number-not-0 WrongWidth e = omega arith
