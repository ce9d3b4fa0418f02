-- Settling is right, where nothing is wrong with the call.
--   rejects-right   8 exactly if no n − t parties all agree
--   keeps-right     otherwise the largest set is kept, and a happy party holds its column's constant
--   repairs-right   any other holds the constant of the column that fits what it heard, or is answered 9
use mathlib.Core.Path.{◌≡◌, refl, sym, ap, ap₂, subst, ◌∙◌}
use mathlib.Core.Logic.{◌↔◌, ⊎_elim}
use mathlib.Core.Bool.{Bool, true, false, ◌&&◌}
use mathlib.Core.Option.{Option, none, some}
use mathlib.Core.List.{List}
use Prim.Native.Nat.{ℕ, ◌+◌, ◌*◌, ◌-◌, ◌≤◌}
use native.Mathlib.Omega.{arith}
use lib.Count.{ones}
use lib.Dec.{eqb}
use lib.ListN.{length, take}
use lib.Seq.{length-take-le}
use borrow.Author.Tests.{eq-eqb}
use Rattle.lists.specs.Masks.{bit}
use Rattle.lists.specs.Tabulate.{tabulate}
use Rattle.lists.proofs.Masks.{ones-members}
use Rattle.lists.proofs.Tabulate.{length-tabulate}
use Rattle.lists.proofs.Cases.{le-or-lt}
use Rattle.std.proofs.lemmas.Bool.{cases_Bool}
use Rattle.field.specs.Arithmetic.{Prime}
use Rattle.polynomial.specs.Polynomial.{Points}
use Rattle.mutual.specs.Agreement.{agree}
use Rattle.happy.specs.Clique.{Largest}
use Rattle.happy.specs.Happy.{happy_set}
use Rattle.happy.proofs.Happy.{happy-is}
use Rattle.fit.specs.Fit.{fit}
use Rattle.fit.proofs.Selection.{points-select}
use Rattle.lists.proofs.Selections.{length-select}
use Rattle.fit.proofs.Rule.{near-found, near-only, near_none}
use Rattle.parties.specs.Parties.{member, entry}
use Rattle.parties.proofs.Parties.{sizes-facts}
use Rattle.tables.specs.Tables.{IsTable}
use Rattle.tables.proofs.Tables.{table-facts, table-points}
use Rattle.answers.specs.declared.Stage.TheVariants.{Holding, Closed}
use Rattle.answers.specs.declared.Refusal.TheVariants.{NoColumn}
use Rattle.answers.specs.declared.Answer.TheVariants.{Accepted}
use Rattle.lamp.specs.declared.Lamp.{Lamp}
use Rattle.lamp.specs.declared.Reply.{Reply}
use Rattle.answers.specs.Answers.{values_of, stage_number}
use Rattle.recovery.specs.Recovery.{repair}
use Rattle.recovery.proofs.Deciding.{marks-ones}
use Rattle.answers.specs.Fits.{constant}
use Rattle.lamp.specs.Lamp.{its_prime, table_of, reply, column_of_lamp, at_end, repaired, settled, settle, step}
use Rattle.agreement.specs.Demand2.{FewAgree, points_in, heard_in, FitsHeard, EndsHolding, Settles}
use Rattle.agreement.specs.Demand2.{KeepsRight, RepairsRight}
use Rattle.agreement.specs.Demand3.{Refuses}
use Rattle.agreement.proofs.Rows.{none-some, one_number}
use Rattle.agreement.proofs.Steps.{settles}
use Rattle.agreement.proofs.Outcomes.{settled-rejects, settled-happy, settled-mended, settled-repaired}
use Rattle.std.specs.Prelude.{Ok, Err}
use Rattle.answers.specs.Refusals.{number_of}

-- A reply that is known, and what it gives.
holds-end : (l : Lamp) (S v : ℕ) (r : Reply) → r ≡ reply (at_end l Holding S v) (Ok Accepted) → EndsHolding l S v r
unfolding at_end
holds-end l S v r e = record {
  answered = (ap (λ (z : Reply). number_of z.answer) e, ap (λ (z : Reply). values_of z.answer) e);
  left = ap (λ (z : Reply). z.lamp) e;
}

module _ (l : Lamp) (P : Prime (its_prime l.party)) (rs : List ℕ) (h : Settles l rs) where
  abbrev p : ℕ
  p = its_prime l.party

  abbrev n : ℕ
  n = l.party.n

  abbrev t : ℕ
  t = l.party.t

  abbrev i : ℕ
  i = l.party.number

  abbrev T : List ℕ
  T = table_of l.party

  table : IsTable p n T
  table = table-facts p n T h.valid.table

  abbrev S : ℕ
  S = happy_set rs

  pub small : length rs ≤ 16
  small = let s = sizes-facts n t h.valid.size in omega (arith, h.long)

  pub largest : Largest (agree rs) n S
  largest = subst (λ k. Largest (agree rs) k S) h.long (happy-is rs small)

  pub goes : step l (settle rs) ≡ settled l S
  goes =
      settles l h.valid rs
      (ap₂ (λ (a b : Bool). a && b)
      (ap₂ (λ (a b : Bool). a && b) (eq-eqb (length rs) n h.long) (ap (λ s. eqb (stage_number s) 2) h.stage))
      (eq-eqb (entry rs i) l.sharing.report h.own))

  repaired-number : (o : Option (List ℕ)) → Refuses (repaired l S o).answer 8 → ⊥
  repaired-number none e = one_number (some 9) 9 8 refl e (λ q. omega arith)
  repaired-number (some f) e = none-some none 8 refl e

  -- Where enough agree the answer is not 8.
  pub not-rejected : n - t ≤ ones S → Refuses (step l (settle rs)).answer 8 → ⊥
  unfolding settled
  not-rejected many e =
      ⊎_elim
      (λ (m : member S i ≡ true).
      none-some _ 8 (ap (λ (z : Reply). number_of z.answer) (goes ∙ settled-happy l S many m)) e)
      (λ (m : member S i ≡ false).
      repaired-number (repair p n t T S l.sharing.heard)
      (sym (ap (λ (z : Reply). number_of z.answer) (goes ∙ settled-mended l S many m)) ∙ e))
      (cases_Bool (member S i))

  pub rejects-right : Refuses (step l (settle rs)).answer 8 ↔ FewAgree n t rs
  rejects-right = (to, from)
    where
      to : Refuses (step l (settle rs)).answer 8 → FewAgree n t rs
      to e =
          ⊎_elim (λ many. absurd (not-rejected many e))
          (λ few s w c. omega (arith, largest.most s w c, ones-members n s w))
          (le-or-lt (n - t) (ones S))

      from : FewAgree n t rs → Refuses (step l (settle rs)).answer 8
      from few =
          let found = few S largest.within largest.clique in
          let counted = ones-members n S largest.within in
          ap (λ (z : Reply). number_of z.answer) (goes ∙ settled-rejects l S (omega (arith, found, counted)))

  module _ (many : n - t ≤ ones S) where
    pub keeps-right : KeepsRight l rs S
    unfolding at_end
    keeps-right = record {
      kept = kept;
      largest = largest;
      enough = many;
      counted = ones-members n S largest.within;
      happy_share = λ m. holds-end l S (constant (column_of_lamp l)) (step l (settle rs)) (goes ∙ settled-happy l S many m);
    }
      where
        mended : (o : Option (List ℕ)) → (repaired l S o).lamp.sharing.happy ≡ S
        mended none = refl
        mended (some f) = refl

        kept : (step l (settle rs)).lamp.sharing.happy ≡ S
        kept =
            ⊎_elim
            (λ (m : member S i ≡ true). ap (λ (z : Reply). z.lamp.sharing.happy) (goes ∙ settled-happy l S many m))
            (λ (m : member S i ≡ false).
            ap (λ (z : Reply). z.lamp.sharing.happy) (goes ∙ settled-mended l S many m)
            ∙ mended (repair p n t T S l.sharing.heard))
            (cases_Bool (member S i))

    -- ---- repair
    module _ (out : member S i ≡ false) where
      abbrev xs : List ℕ
      xs = points_in l S

      abbrev ys : List ℕ
      ys = heard_in l S

      abbrev mended : Option (List ℕ)
      mended = repair p n t T S l.sharing.heard

      size-xs : length xs ≡ ones S
      size-xs =
          length-select (tabulate (bit S) n) T (length-tabulate (bit S) n ∙ sym table.size)
          ∙ marks-ones S n largest.within

      size-ys : length ys ≡ ones S
      size-ys =
          let s = sizes-facts n t h.valid.size in
          let all : length (take n l.sharing.heard) ≡ n = length-take-le n l.sharing.heard (omega (arith, h.heard_all)) in
          length-select (tabulate (bit S) n) (take n l.sharing.heard) (length-tabulate (bit S) n ∙ sym all)
          ∙ marks-ones S n largest.within

      fine : Points p xs
      fine = points-select p (tabulate (bit S) n) T (table-points p n T table)

      enough : 3 * t + 1 ≤ length xs
      enough = let s = sizes-facts n t h.valid.size in omega (arith, size-xs)

      pub repair-is : mended ≡ fit p t (length xs - t) xs ys
      unfolding repair
      repair-is = ap (λ m. fit p t (m - t) xs ys) (sym size-xs)

      found : (f : List ℕ) → FitsHeard l S f → step l (settle rs) ≡ reply (at_end l Holding S (constant f)) (Ok Accepted)
      found f near =
          goes ∙ settled-repaired l S many f out (repair-is ∙ near-found p P t xs ys fine (size-xs ∙ sym size-ys) enough f near)

      pub closed : mended ≡ none → step l (settle rs) ≡ reply (at_end l Closed S 0) (Err NoColumn)
      closed e = goes ∙ settled-mended l S many out ∙ ap (repaired l S) e

      -- 9 says that nothing was found.
      nine : Refuses (step l (settle rs)).answer 9 → mended ≡ none
      nine e = by mended refl
        where
          by : (o : Option (List ℕ)) → mended ≡ o → mended ≡ none
          by none q = q
          by (some f) q =
              absurd (none-some _ 9 (ap (λ (z : Reply). number_of z.answer) (goes ∙ settled-repaired l S many f out q)) e)

      pub repairs-right : RepairsRight l rs S
      repairs-right =
          let iff = near_none p P t xs ys fine (size-xs ∙ sym size-ys) enough in
          record {
            none_fits = (
              λ e. iff.0 (sym repair-is ∙ nine e),
              λ e. ap (λ (z : Reply). number_of z.answer) (closed (repair-is ∙ iff.1 e)),
            );
            only = near-only p P t xs ys fine (size-xs ∙ sym size-ys) enough;
            fits = λ f near. holds-end l S (constant f) (step l (settle rs)) (found f near);
          }
