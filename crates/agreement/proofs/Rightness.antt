-- Demand 2 is met, for either width. Of a lamp's prime it is used only that it is one.
--   demand2       the demand
use mathlib.Core.Path.{◌≡◌, refl, sym, ap, ap₂, subst, ◌∙◌}
use mathlib.Core.Logic.{◌↔◌, ⊎_elim}
use mathlib.Core.Bool.{Bool, ◌&&◌}
use mathlib.Core.Option.{Option, none, some}
use mathlib.Core.List.{List, [], ◌∷◌}
use Prim.Native.Nat.{ℕ, suc, ◌+◌, ◌*◌, ◌-◌, ◌≤◌}
use native.Mathlib.Omega.{arith}
use lib.Count.{ones}
use lib.Dec.{eqb}
use lib.ListN.{length, set, replicate, length-set, length-drop}
use lib.Seq.{length-take-le, take_at}
use Rattle.lists.proofs.Masks.{ones-members}
use Rattle.lists.proofs.Cases.{le-or-lt}
use Rattle.field.specs.Arithmetic.{Prime}
use Rattle.field.specs.declared.Width.{Width}
use Rattle.field.proofs.Primes.{prime-of}
use Rattle.polynomial.specs.Polynomial.{Points}
use Rattle.bivariate.proofs.Terms.{row_at, column-at}
use Rattle.mutual.specs.Agreement.{agree}
use Rattle.happy.specs.Clique.{Largest}
use Rattle.happy.specs.Happy.{happy_set}
use Rattle.happy.proofs.Happy.{happy-only}
use Rattle.fit.proofs.Opening.{near-opening, opening-found, opening-only, opening-none}
use Rattle.parties.specs.Parties.{member, entry}
use Rattle.parties.proofs.Parties.{sizes-facts, party-facts}
use Rattle.tables.specs.Tables.{IsTable}
use Rattle.tables.proofs.Tables.{table-facts, table-points}
use Rattle.dealer.specs.Desk.{deal}
use Rattle.dealer.proofs.Desk.{length-deals, desk-written, desk-list, desk-stretch}
use Rattle.lamp.specs.declared.Lamp.{Lamp}
use Rattle.lamp.specs.declared.Reply.{Reply}
use Rattle.answers.specs.Answers.{values_of, stage_number}
use Rattle.answers.specs.Fits.{constant}
use Rattle.consistency.specs.Deal.{row_of, column_of}
use Rattle.lamp.specs.Lamp.{its_prime, table_of, with_deal, with_pairs, report_from, row_of_lamp, column_of_lamp, opening, opened, open_shares, step}
use Rattle.agreement.specs.Setting.{Setting, setting, prime, terms}
use Rattle.agreement.specs.Demand2.{Takes, Hears, TakesRight, HearsRight, FewAgree, FitsShares, Settles, Opens}
use Rattle.agreement.specs.Demand2.{KeepsRight, RepairsRight, OpensRight, DealsRight, Demand2}
use Rattle.agreement.specs.Demand3.{Gives, Refuses}
use Rattle.agreement.proofs.Rows.{none-some}
use Rattle.agreement.proofs.Steps.{fits, takes, hears, shares-opened, opened-same}
use Rattle.agreement.proofs.Outcomes.{heard-entry, opened_some}
use Rattle.agreement.proofs.Settling.{small, largest, rejects-right, keeps-right, repairs-right}
use Rattle.answers.specs.Refusals.{number_of}

-- ---- opening
module _ (l : Lamp) (P : Prime (its_prime l.party)) (w : Width) (shares : List ℕ) (h : Opens l w shares) where
  abbrev p : ℕ
  p = its_prime l.party

  abbrev n : ℕ
  n = l.party.n

  abbrev t : ℕ
  t = l.party.t

  abbrev i : ℕ
  i = l.party.number

  abbrev T : List ℕ
  T = table_of l.party

  abbrev own : List ℕ
  own = set shares (i - 1) l.sharing.share

  pub goes-open : step l (open_shares w shares) ≡ opened l (opening l shares)
  goes-open = shares-opened l h.valid w shares h.own_width h.long (ap (λ s. eqb (stage_number s) 3) h.stage)

  pub opens-right : OpensRight l w shares
  unfolding opening
  opens-right = record {
    none_fits = (λ e. iff.0 (ten e), λ e. ap (λ (z : Reply). number_of z.answer) (goes-open ∙ ap (opened l) (iff.1 e)));
    only = opening-only p P t T own sizes-own fine;
    fits = found;
    as_before = λ f near. found f (near-opening p P t T own sizes-own enough f near);
    unchanged = ap (λ (z : Reply). z.lamp) goes-open ∙ opened-same l (opening l shares);
  }
    where
      table : IsTable p n T
      table = table-facts p n T h.valid.table

      fine : Points p T
      fine = table-points p n T table

      sizes-own : length T ≡ length own
      sizes-own = table.size ∙ sym (length-set shares (i - 1) l.sharing.share ∙ h.long)

      enough : 3 * t + 1 ≤ length T
      enough = let s = sizes-facts n t h.valid.size in omega (arith, table.size)

      iff : (opening l shares ≡ none) ↔ ((f : List ℕ) → FitsShares l shares f → ⊥)
      iff = opening-none p P t T own sizes-own fine

      found : (f : List ℕ) → FitsShares l shares f → Gives (step l (open_shares w shares)).answer (constant f ∷ [])
      found f fits =
          let is = goes-open ∙ opened_some l (opening l shares) f (opening-found p P t T own sizes-own fine f fits) in
          (ap (λ (z : Reply). number_of z.answer) is, ap (λ (z : Reply). values_of z.answer) is)

      ten : Refuses (step l (open_shares w shares)).answer 10 → opening l shares ≡ none
      ten e = by (opening l shares) refl
        where
          by : (o : Option (List ℕ)) → opening l shares ≡ o → opening l shares ≡ none
          by none q = q
          by (some f) q =
              absurd (none-some _ 10 (ap (λ (z : Reply). number_of z.answer) (goes-open ∙ opened_some l (opening l shares) f q)) e)

-- ---- dealing
deals-right : (s : Setting) (F out : List ℕ) → DealsRight s F out
unfolding deal
deals-right s F out = record {
  stretches = λ w i q.
      let range = party-facts s.n i q in
      desk-stretch (prime s) s.n s.t s.table F out w i range.0 range.1;
  all_written = λ w.
      ap length (desk-list (prime s) s.n s.t s.table F out w)
      ∙ length-deals (prime s) (terms s) s.table F (desk-written (prime s) s.n s.t s.table F out w).square s.n;
  row_right = λ y x. row_at (prime s) (terms s) (terms s) F x y;
  column_right = λ e x y. column-at (prime s) (terms s) (terms s) F x y e;
}

-- ---- taking a deal and hearing pairs
takes-right : (l : Lamp) (w : Width) (d : List ℕ) → Takes l w d → TakesRight l w d
unfolding with_deal
takes-right l w d h =
    let is =
    takes l h.valid w d
    (ap₂ (λ (a b : Bool). a && b) (fits w l.party.width h.own_width (length d) (2 * suc l.party.t) h.long)
    (ap (λ s. eqb (stage_number s) 0) h.stage)) in
    let row-size : length (row_of l.party.t d) ≡ suc l.party.t = length-take-le (suc l.party.t) d (omega (arith, h.long)) in
    let column-size : length (column_of l.party.t d) ≡ suc l.party.t = length-drop (suc l.party.t) d ∙ omega (arith, h.long) in
    record {
      answered = (ap (λ (z : Reply). number_of z.answer) is, ap (λ (z : Reply). values_of z.answer) is);
      row_kept =
          ap (λ (z : Reply). row_of_lamp z.lamp) is
          ∙ take_at (row_of l.party.t d) (replicate (4 - length (row_of l.party.t d)) 0) (suc l.party.t) row-size;
      column_kept =
          ap (λ (z : Reply). column_of_lamp z.lamp) is
          ∙ take_at (column_of l.party.t d) (replicate (4 - length (column_of l.party.t d)) 0) (suc l.party.t) column-size;
    }

hears-right : (l : Lamp) (w : Width) (hs : List ℕ) → Hears l w hs → HearsRight l w hs
unfolding with_pairs report_from
hears-right l w hs h =
    let is =
    hears l h.valid w hs
    (ap₂ (λ (a b : Bool). a && b) (fits w l.party.width h.own_width (length hs) (2 * l.party.n) h.long)
    (ap (λ s. eqb (stage_number s) 1) h.stage)) in
    record {
      answered = (ap (λ (z : Reply). number_of z.answer) is, ap (λ (z : Reply). values_of z.answer) is);
      firsts_kept = λ j q. ap (λ (z : Reply). entry z.lamp.sharing.heard j) is ∙ heard-entry l.party.n hs j q;
      row_kept = ap (λ (z : Reply). row_of_lamp z.lamp) is;
      column_kept = ap (λ (z : Reply). column_of_lamp z.lamp) is;
    }

-- DEMAND 2.
pub demand2 : Demand2
demand2 = record {
  taking = takes-right;
  hearing = hears-right;
  rejecting = λ l. rejects-right l (prime-for l);
  keeping = λ l rs h some-agree. (happy_set rs, keeps-right l (prime-for l) rs h (many l rs h some-agree));
  repairing = λ l rs S h k out.
      let same : S ≡ happy_set rs = once l rs S h k in
      subst (RepairsRight l rs) (sym same)
      (repairs-right l (prime-for l) rs h (subst (λ z. l.party.n - l.party.t ≤ ones z) same k.enough)
      (ap (λ z. member z l.party.number) (sym same) ∙ out));
  opening = λ l. opens-right l (prime-for l);
  dealing = λ w n t T. deals-right (setting w n t T);
}
  where
    prime-for : (l : Lamp) → Prime (its_prime l.party)
    prime-for l = prime-of l.party.width

    many : (l : Lamp) (rs : List ℕ) (h : Settles l rs) → (FewAgree l.party.n l.party.t rs → ⊥)
        → l.party.n - l.party.t ≤ ones (happy_set rs)
    many l rs h some-agree =
        ⊎_elim (λ q. q)
        (λ few. absurd (some-agree (λ s w c. omega (arith, (largest l (prime-for l) rs h).most s w c, ones-members l.party.n s w))))
        (le-or-lt (l.party.n - l.party.t) (ones (happy_set rs)))

    once : (l : Lamp) (rs : List ℕ) (S : ℕ) (h : Settles l rs) → KeepsRight l rs S → S ≡ happy_set rs
    once l rs S h k = happy-only rs (small l (prime-for l) rs h) S (subst (λ z. Largest (agree rs) z S) (sym h.long) k.largest)
