-- The tests of a call, each with the refusal that it guards against, and a call behind any number of them.
--   size-test, party-test, width-test, same_test, table-test, stage-test, waiting-test   each test passes exactly where its refusal does
--              not apply
--   guarded    a call behind tests follows their rows, and then its own table; replying: a lamp's call
--   seven      a settling behind the look at the lamp's own report
use mathlib.Core.Path.{◌≡◌, refl, sym, ap, ◌∙◌}
use mathlib.Core.Logic.{inl, inr}
use mathlib.Core.Bool.{Bool, true, false, cond, not, true≢false}
use mathlib.Core.Option.{Option, some}
use mathlib.Core.List.{List, [], ◌∷◌}
use Prim.Native.Nat.{ℕ, ◌+◌, ◌*◌}
use lib.Dec.{eqb}
use borrow.Author.Tests.{eqb-true, eq-eqb, le-leb, not-true, not-false}
use Rattle.lists.proofs.Cases.{not-both}
use Rattle.field.specs.declared.Width.{Width}
use Rattle.field.specs.declared.Width.TheVariants.{Narrow, Wide}
use Rattle.field.specs.Modulus.{same_width}
use Rattle.parties.specs.Parties.{sizes, is_party}
use Rattle.parties.proofs.Parties.{sizes-facts, party-facts, party-true}
use Rattle.tables.specs.Tables.{IsTable, is_table}
use Rattle.tables.proofs.Tables.{table-facts, table-true}
use Rattle.answers.specs.declared.Stage.{Stage}
use Rattle.answers.specs.declared.Stage.TheVariants.{Waiting, Dealt, Reported, Holding, Closed}
use Rattle.answers.specs.declared.Refusal.{Refusal}
use Rattle.answers.specs.declared.Refusal.TheVariants.{AlteredReport}
use Rattle.answers.specs.Refusals.{Test, refusal_number, lowest, Admission, number_of}
use Rattle.answers.specs.Answers.{stage_number}
use Rattle.lamp.specs.declared.Lamp.{Lamp}
use Rattle.lamp.specs.declared.Reply.{Reply}
use Rattle.lamp.specs.Lamp.{refuse, guard, is_at}
use Rattle.agreement.specs.Demand1.{Rows, Follows, Replies, Sizes, Among}
use Rattle.agreement.proofs.Rows.{Tests, unless}
use Rattle.agreement.proofs.Steps.{width_same}
use Rattle.std.specs.Prelude.{Ok, Err}

-- ---- the tests
pub legal-sizes : (n t : ℕ) → sizes n t ≡ true → Sizes n t
legal-sizes n t e = let f = sizes-facts n t e in record { some_faulty = f.0; few_faulty = f.1; enough = f.2; few = f.3 }

pub size-test : (n t : ℕ) → Tests (sizes n t) (Sizes n t → ⊥)
unfolding sizes
size-test n t =
    unless (sizes n t) (legal-sizes n t)
    (λ s. simp (le-leb 1 t s.some_faulty, le-leb t 3 s.few_faulty, le-leb (4 * t + 1) n s.enough, le-leb n 16 s.few))

pub party-test : (n i : ℕ) → Tests (is_party n i) (Among n i → ⊥)
party-test n i =
    unless (is_party n i)
    (λ e. let f = party-facts n i e in record { from_one = f.0; to_n = f.1 })
    (λ a. party-true n i a.from_one a.to_n)

pub same_test : (a b : ℕ) → Tests (eqb a b) (a ≡ b → ⊥)
same_test a b = unless (eqb a b) (eqb-true a b) (eq-eqb a b)

pub table-test : (p n : ℕ) (T : List ℕ) → Tests (is_table p n T) (IsTable p n T → ⊥)
table-test p n T = unless (is_table p n T) (table-facts p n T) (table-true p n T)

-- Widths that pass the test are one.
pub same-width : (v w : Width) → same_width v w ≡ true → v ≡ w
same-width Narrow Narrow e = refl
same-width Narrow Wide e = absurd (true≢false (sym e))
same-width Wide Narrow e = absurd (true≢false (sym e))
same-width Wide Wide e = refl

pub width-test : (v w : Width) → Tests (same_width v w) (v ≡ w → ⊥)
width-test v w = unless (same_width v w) (same-width v w) (width_same v w)

-- The stage is told by its number.
stage_of : ℕ → Stage
stage_of k = cond (eqb k 0) Waiting (cond (eqb k 1) Dealt (cond (eqb k 2) Reported (cond (eqb k 3) Holding Closed)))

stage-back : (s : Stage) → stage_of (stage_number s) ≡ s
unfolding stage_of
stage-back Waiting = refl
stage-back Dealt = refl
stage-back Reported = refl
stage-back Holding = refl
stage-back Closed = refl

pub at_stage : (s : Stage) (l : Lamp) → is_at s l.sharing ≡ true → l.sharing.stage ≡ s
at_stage s l e = sym (stage-back l.sharing.stage) ∙ ap stage_of (eqb-true _ _ e) ∙ stage-back s

pub stage-test : (s : Stage) (l : Lamp) → Tests (is_at s l.sharing) (l.sharing.stage ≡ s → ⊥)
stage-test s l = unless (is_at s l.sharing) (at_stage s l) (λ e. eq-eqb _ _ (ap stage_number e))

pub waiting-test : (l : Lamp) → Tests (not (is_at Waiting l.sharing)) (l.sharing.stage ≡ Waiting)
waiting-test l = record {
  passes = λ e w. not-both (eq-eqb _ _ (ap stage_number w)) (not-true (is_at Waiting l.sharing) e);
  fails = λ e. at_stage Waiting l (not-false (is_at Waiting l.sharing) e);
}

-- ---- a call behind tests: any number of them, in any order, each with its refusal
pub record Guard : Type 1 where
  pub why : Refusal
  pub pass : Bool
  pub applies : Type 0
  pub right : Tests pass applies

abbrev pub against : Refusal → {b : Bool} {A : Type 0} → Tests b A → Guard
against w {b} {A} t = record { why = w; pass = b; applies = A; right = t }

-- The tests that they are, and the rows of a refusal that leaves x.
abbrev pub tests_of : List Guard → List Test
tests_of [] = []
tests_of (g ∷ gs) = (g.pass, g.why) ∷ tests_of gs

abbrev pub rows : {X : Type 0} → X → List Guard → Rows X → Rows X
rows x [] T = T
rows x (g ∷ gs) T = (refusal_number g.why, g.applies, x) ∷ rows x gs T

abbrev pub Passes : List Guard → Type 0
Passes [] = Unit
Passes (g ∷ gs) = (g.pass ≡ true) × Passes gs

-- What a call answers and leaves by what its tests find: a refusal has its number, and leaves x.
pub record Answering {X : Type 0} (x : X) (number : Admission → Option ℕ) (left : Admission → X) : Type 0 where
  pub numbered : (why : Refusal) → number (Err why) ≡ some (refusal_number why)
  pub unchanged : (why : Refusal) → left (Err why) ≡ x

module _ {X : Type 0} (x : X) (number : Admission → Option ℕ) (left : Admission → X) (done : Admission → Type 0)
    (a : Answering x number left) (T : Rows X) where
  -- The table is followed by what the tests find.
  abbrev pub By : Rows X → Admission → Type 0
  By T found = Follows T (done found) (number found) (left found)

  next : (g : Guard) (gs : List Guard) (b : Bool) → Tests b g.applies → (b ≡ true → By (rows x gs T) (lowest (tests_of gs)))
      → By ((refusal_number g.why, g.applies, x) ∷ rows x gs T) (cond b (lowest (tests_of gs)) (Err g.why))
  next g gs true t h = inr (t.passes refl, h refl)
  next g gs false t h = inl (t.fails refl, a.numbered g.why, a.unchanged g.why)

  pub guarded : (gs : List Guard) → (Passes gs → By T (Ok tt)) → By (rows x gs T) (lowest (tests_of gs))
  guarded [] h = h tt
  guarded (g ∷ gs) h = next g gs g.pass g.right (λ e. guarded gs (λ all. h (e, all)))

-- ---- a lamp's call
module _ (l : Lamp) (r : Reply) (Q : Reply → Type 0) (T : Rows Lamp) where
  pub replying : (gs : List Guard) → (Passes gs → Replies T Q r) → Replies (rows l gs T) Q (guard l (lowest (tests_of gs)) r)
  replying gs h =
      guarded l (λ a. number_of (guard l a r).answer) (λ a. (guard l a r).lamp) (λ a. Q (guard l a r))
      (record { numbered = λ why. refl; unchanged = λ why. refl }) T gs h

  pub seven : {A : Type 0} (b : Bool) → Tests b A → (b ≡ true → Replies T Q r)
      → Replies ((7, A, l) ∷ T) Q (cond b r (refuse l AlteredReport))
  seven false t h = inl (t.fails refl, refl, refl)
  seven true t h = inr (t.passes refl, h refl)
