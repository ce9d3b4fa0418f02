-- What the C functions make of the desk's answers and of a repair's fit is what their definitions say, for any prime. Openings:
-- proofs/Opened.
--   fit-below                         what is fitted are numbers that fit where residues do
--   repairs-passed, repairs-tests     the sizes of a repair and what they ask for
--   repairing-refused, repairing-sized, repairing-by   refused for the sizes, or by the points, or what fits
--   points-fit                        what fits points that are a table
--   column-repaired, column-below     what is written of it, and that it fits where residues do
--   repair-1, repair-3, repair-14, deal-number   which number is given, and that what was lent is left alone
use mathlib.Core.Path.{◌≡◌, refl, sym, ap, ◌∙◌}
use mathlib.Core.Logic.{◌⊎◌, inl, inr, ⊎_elim}
use mathlib.Core.Bool.{Bool, true, false}
use mathlib.Core.Option.{Option, none, some}
use mathlib.Core.List.{List, [], ◌∷◌}
use Prim.Native.Nat.{ℕ, suc, ◌+◌, ◌*◌, ◌-◌, ◌≤◌, ◌<◌}
use native.Mathlib.Omega.{arith}
use borrow.Author.Tests.{le-leb, eq-eqb, leb-true, eqb-true}
use lib.Dec.{eqb, leb}
use lib.ListN.{length, replicate}
use lib.Seq.{take_at}
use Rattle.lists.specs.All.{All}
use Rattle.lists.specs.Options.{or_zero}
use Rattle.lists.proofs.All.{all_append}
use Rattle.std.proofs.lemmas.Bool.{cases_Bool}
use Rattle.field.specs.Arithmetic.{Prime}
use Rattle.polynomial.specs.Polynomial.{Residues}
use Rattle.polynomial.proofs.Below.{zeros-residues}
use Rattle.answers.specs.declared.Refusal.{Refusal}
use Rattle.answers.specs.declared.Refusal.TheVariants.{WrongLength, WrongTable}
use Rattle.answers.specs.Fits.{Fitted}
use Rattle.answers.specs.Refusals.{Test, refusal_number, lowest, Admission, number_of}
use Rattle.answers.proofs.Tests.{lowest-pass, lowest-first, lowest-then}
use Rattle.fit.specs.Fit.{fit}
use Rattle.fit.specs.Admitted.{decoded_if, fit_in}
use Rattle.fit.proofs.Admitted.{fit-least}
use Rattle.fit.proofs.Rule.{sent-length}
use Rattle.fit.proofs.Decoding.{fit-sound}
use Rattle.tables.specs.Tables.{IsTable, is_table}
use Rattle.recovery.proofs.Fitting.{passed}
use Rattle.field.proofs.Primes.{prime-of}
use Rattle.tables.proofs.Tables.{table-facts, table-true, table-points}
use Rattle.dealer.specs.Desk.{desk_with}
use Rattle.exports.specs.Exports.{dealing_at, repair_sizes, repair_tests, repaired, repaired_if, repairing}
use Rattle.exports.specs.Pieces.{repair_fit, column_by, Repairs}
use Rattle.std.specs.Prelude.{Ok, Err, IfOk, IfSome}
use Rattle.std.proofs.lemmas.List.{length-map}

-- ---- a dealing: the desk's number, and 0 for none
module _ (p n t : ℕ) (T F out : List ℕ) where
  pub deal-number : (k : ℕ) → number_of (desk_with p n t T F out).1 ≡ some k → dealing_at p n t T F out ≡ ((desk_with p n t T F out).0, k)
  unfolding dealing_at
  deal-number k e = ap (λ o. ((desk_with p n t T F out).0, or_zero o)) e

  pub deal-written : number_of (desk_with p n t T F out).1 ≡ none → dealing_at p n t T F out ≡ ((desk_with p n t T F out).0, 0)
  unfolding dealing_at
  deal-written e = ap (λ o. ((desk_with p n t T F out).0, or_zero o)) e

-- ---- what is found is residues, and so are the zeros elsewhere: both fit where residues do
below : (p m : ℕ) (xs : List ℕ) → p ≤ m → Residues p xs → Residues m xs
below p m [] h r = tt
below p m (x ∷ xs) h r = (omega (arith, r.0), below p m xs h r.1)

decoded-below : (p m : ℕ) (a : Admission) (o : Option (List ℕ)) → 0 < m → p ≤ m → ((f : List ℕ) → o ≡ some f → Residues p f)
    → IfOk (decoded_if a o) (λ found. IfSome found (All (λ c. c < m)))
decoded-below p m (Err why) o h k r = tt
decoded-below p m (Ok u) none h k r = tt
decoded-below p m (Ok u) (some f) h k r =
    all_append (λ c. c < m) f (replicate (4 - length f) 0) (below p m f k (r f refl)) (zeros-residues m (4 - length f) h)

pub fit-below : (p m : ℕ) → Prime p → p ≤ m → (a : Admission) (t need : ℕ) (xs ys : List ℕ)
    → IfOk (decoded_if a (fit p t need xs ys)) (λ found. IfSome found (All (λ c. c < m)))
fit-below p m P h a t need xs ys =
    decoded-below p m a (fit p t need xs ys) (omega (arith, P.two)) h (λ f e. (fit-sound p P t need xs ys f e).poly.residues)

-- ---- the sizes of a repair
-- What is found of them.
abbrev sized : ℕ → List ℕ → List ℕ → ℕ → Admission
sized t xs ys room = lowest (repair_sizes t (length xs) (length ys) room)

module _ (t : ℕ) (xs ys : List ℕ) (room : ℕ) where
  pub repairs-passed : sized t xs ys room ≡ Ok tt → Repairs t xs ys × (room ≡ suc t)
  repairs-passed e =
      let sizes = lowest-pass (repair_sizes t (length xs) (length ys) room) e in
      let lists = sizes.1.1 in
      let rest = lists.1.1 in (
        record {
          some_faulty = leb-true 1 t sizes.0;
          few_faulty = leb-true t 3 sizes.1.0;
          lengths = eqb-true (length xs) (length ys) lists.0;
          enough = leb-true (3 * t + 1) (length xs) lists.1.0;
          most = leb-true (length xs) 16 rest.0;
        },
        eqb-true room (suc t) rest.1.0,
      )

  pub repairs-tests : Repairs t xs ys → room ≡ suc t → sized t xs ys room ≡ Ok tt
  repairs-tests r right =
      rw (
        le-leb 1 t r.some_faulty,
        le-leb t 3 r.few_faulty,
        eq-eqb (length xs) (length ys) r.lengths,
        le-leb (3 * t + 1) (length xs) r.enough,
        le-leb (length xs) 16 r.most,
        eq-eqb room (suc t) right,
      )

-- ---- a repair
-- The test behind them, of the points.
abbrev points : ℕ → List ℕ → List Test
points p xs = (is_table p (length xs) xs, WrongTable) ∷ []

module _ (p t : ℕ) (xs ys column : List ℕ) where
  pub repairing-refused : {why : Refusal} → sized t xs ys (length column) ≡ Err why
      → (column, refusal_number why) ≡ repairing p t xs ys column
  unfolding repairing
  repairing-refused e =
      ap (λ a. repaired_if a column (fit p t (length xs - t) xs ys))
      (sym (lowest-first (repair_sizes t (length xs) (length ys) (length column)) (points p xs) e))

  -- Where the sizes are right the points decide.
  pub repairing-sized : sized t xs ys (length column) ≡ Ok tt
      → repaired_if (lowest (points p xs)) column (fit p t (length xs - t) xs ys) ≡ repairing p t xs ys column
  unfolding repairing
  repairing-sized e =
      ap (λ a. repaired_if a column (fit p t (length xs - t) xs ys))
      (sym (lowest-then (repair_sizes t (length xs) (length ys) (length column)) (points p xs) e))

  pub repairing-by : Repairs t xs ys → length column ≡ suc t → IsTable p (length xs) xs
      → repairing p t xs ys column ≡ repaired column (fit p t (length xs - t) xs ys)
  repairing-by r room table =
      sym (repairing-sized (repairs-tests t xs ys (length column) r room))
      ∙ ap (λ b. repaired_if (lowest ((b, WrongTable) ∷ [])) column (fit p t (length xs - t) xs ys)) (table-true p (length xs) xs table)

-- The front of the four coefficients is the polynomial.
column-decoded : (a : Admission) (o : Option (List ℕ)) (column : List ℕ)
    → (a ≡ Ok tt → (f : List ℕ) → o ≡ some f → length f ≡ length column)
    → column_by (decoded_if a o) column ≡ repaired_if a column o
column-decoded (Err why) o column size = refl
column-decoded (Ok u) none column size = refl
column-decoded (Ok u) (some f) column size =
    ap (λ (l : List ℕ). (l, 0)) (take_at f (replicate (4 - length f) 0) (length column) (size refl f refl))

-- And the list has room for no more than four.
room-below : (m room : ℕ) (a : Admission) (o : Option (List ℕ)) → (a ≡ Ok tt → room ≤ 4)
    → IfOk (decoded_if a o) (λ found. IfSome found (All (λ c. c < m)))
    → IfOk (decoded_if a o) (λ found. IfSome found (λ f. (room ≤ 4) × All (λ c. c < m) f))
room-below m room (Err why) o short h = tt
room-below m room (Ok u) none short h = tt
room-below m room (Ok u) (some f) short h = (short refl, h)

-- What is fitted where the sizes are right: refused for the points, or what fits.
abbrev pub points_fit : ℕ → ℕ → List ℕ → List ℕ → Fitted
points_fit p t xs ys = decoded_if (lowest (points p xs)) (fit p t (length xs - t) xs ys)

pub points-fit : (p t : ℕ) (xs ys : List ℕ) → Repairs t xs ys → is_table p (length xs) xs ≡ true
    → fit_in p t (length xs - t) xs ys ≡ points_fit p t xs ys
points-fit p t xs ys r e =
    fit-least p t (length xs - t) xs ys (record {
      degree = r.few_faulty;
      bounded = record { lengths = r.lengths; most = r.most };
      enough = omega (arith, r.enough);
    }) (omega (arith, r.lengths, r.enough, sent-length p ys))
    ∙ ap (λ b. decoded_if (lowest ((b, WrongTable) ∷ [])) (fit p t (length xs - t) xs ys)) (sym e)

module _ (p : ℕ) (P : Prime p) (t : ℕ) (xs ys column : List ℕ) where
  -- Where no test refuses there is room for the coefficients.
  room-passed : lowest (repair_tests p t xs (length ys) (length column)) ≡ Ok tt → (length column ≡ suc t) × (t ≤ 3)
  room-passed e =
      let all = lowest-pass (repair_tests p t xs (length ys) (length column)) e in
      (eqb-true (length column) (suc t) all.1.1.1.1.1.0, leb-true t 3 all.1.0)

  pub column-repaired : column_by (repair_fit p t xs ys (length column)) column ≡ repairing p t xs ys column
  unfolding repair_fit repairing
  column-repaired =
      column-decoded (lowest (repair_tests p t xs (length ys) (length column))) (fit p t (length xs - t) xs ys) column
      (λ e f found. (fit-sound p P t (length xs - t) xs ys f found).poly.size ∙ sym (room-passed e).0)

  pub column-below : (m : ℕ) → p ≤ m
      → IfOk (repair_fit p t xs ys (length column)) (λ found. IfSome found (λ f. (length column ≤ 4) × All (λ c. c < m) f))
  unfolding repair_fit
  column-below m h =
      let tests = lowest (repair_tests p t xs (length ys) (length column)) in
      room-below m (length column) tests (fit p t (length xs - t) xs ys) (λ e. let r = room-passed e in omega arith)
      (fit-below p m P h tests t (length xs - t) xs ys)

-- ---- the numbers of a repair: 1 for t, 3 for the lists, 14 for the points
-- The tests of the lists.
abbrev lengths : Bool → Bool → Bool → Bool → List Test
lengths a b c d = (a, WrongLength) ∷ (b, WrongLength) ∷ (c, WrongLength) ∷ (d, WrongLength) ∷ []

lists-only : (a b c d : Bool) → (lowest (lengths a b c d) ≡ Ok tt) ⊎ (lowest (lengths a b c d) ≡ Err WrongLength)
lists-only false b c d = inr refl
lists-only true false c d = inr refl
lists-only true true false d = inr refl
lists-only true true true false = inr refl
lists-only true true true true = inl refl

module _ (p t : ℕ) (xs ys column : List ℕ) where
  pub repair-1 : ((1 ≤ t) × (t ≤ 3) → ⊥) → repairing p t xs ys column ≡ (column, 1)
  unfolding repairing
  repair-1 d =
      ⊎_elim
      (λ (low : leb 1 t ≡ true). ⊎_elim
      (λ (high : leb t 3 ≡ true). absurd (d (leb-true 1 t low, leb-true t 3 high)))
      (λ (high : leb t 3 ≡ false). rw (low, high))
      (cases_Bool (leb t 3)))
      (λ (low : leb 1 t ≡ false). rw low)
      (cases_Bool (leb 1 t))

  -- The first tests pass, or one of them says 3.
  listed : 1 ≤ t → t ≤ 3 → (sized t xs ys (length column) ≡ Ok tt) ⊎ (sized t xs ys (length column) ≡ Err WrongLength)
  listed a b =
      ⊎_elim
      (λ e. inl (rw (le-leb 1 t a, le-leb t 3 b) e))
      (λ e. inr (rw (le-leb 1 t a, le-leb t 3 b) e))
      (lists-only (eqb (length xs) (length ys)) (leb (3 * t + 1) (length xs)) (leb (length xs) 16) (eqb (length column) (suc t)))

  pub repair-3 : 1 ≤ t → t ≤ 3 → (Repairs t xs ys × (length column ≡ suc t) → ⊥) → repairing p t xs ys column ≡ (column, 3)
  repair-3 a b d =
      ⊎_elim
      (λ e. absurd (d (repairs-passed t xs ys (length column) e)))
      (λ e. sym (repairing-refused p t xs ys column {why = WrongLength} e))
      (listed a b)

  pub repair-14 : Repairs t xs ys → length column ≡ suc t → (IsTable p (length xs) xs → ⊥) → repairing p t xs ys column ≡ (column, 14)
  repair-14 r room d =
      ⊎_elim
      (λ e. absurd (d (table-facts p (length xs) xs e)))
      (λ (e : is_table p (length xs) xs ≡ false).
      sym (repairing-sized p t xs ys column (repairs-tests t xs ys (length column) r room))
      ∙ ap (λ b. repaired_if (lowest ((b, WrongTable) ∷ [])) column (fit p t (length xs - t) xs ys)) e)
      (cases_Bool (is_table p (length xs) xs))

-- What the code of a repair needs.
pub ruleset repairs = (length-map, prime-of, table-facts, table-points, passed, points-fit, column-repaired)
