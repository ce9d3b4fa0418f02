-- A lamp's share can be stored: whatever calls a lamp was given since its making, whatever it was made for, its share is a residue of its
-- prime. Until it settles the share is 0, and so it is of a lamp that closes; a repaired column has residues; and a happy lamp has a one
-- for another lamp in the report that it gave, so that its own deal was sound.
--   Storable l      its share is a residue; and so is its column, if its report, once given, has a one
--   share-residue   the law
use mathlib.Core.Path.{◌≡◌, refl, sym, ap, subst, ◌∙◌}
use mathlib.Core.Logic.{⊎_elim}
use mathlib.Core.Bool.{true, false}
use mathlib.Core.Option.{Option, none, some}
use mathlib.Core.List.{List, [], ◌∷◌}
use Prim.Native.Nat.{ℕ, ◌-◌, ◌≤◌, ◌<◌}
use native.Mathlib.Omega.{arith}
use lib.Count.{ones}
use borrow.Author.Tests.{eqb-true}
use Rattle.lists.specs.Masks.{bit}
use Rattle.lists.specs.Choices.{count}
use Rattle.lists.proofs.Cases.{le-or-lt}
use Rattle.std.proofs.lemmas.Bool.{cases_Bool}
use Rattle.field.specs.declared.Width.{Width}
use Rattle.field.specs.Modulus.{prime_of}
use Rattle.field.proofs.Primes.{prime-of, positive}
use Rattle.polynomial.specs.Polynomial.{Residues}
use Rattle.mutual.specs.Agreement.{agree}
use Rattle.mutual.proofs.Agreement.{agree-iff}
use Rattle.happy.specs.Clique.{Largest}
use Rattle.happy.specs.Happy.{happy_set}
use Rattle.happy.proofs.Happy.{happy-is}
use Rattle.fit.proofs.Decoding.{fit-sound}
use Rattle.parties.specs.Parties.{is_party, parties, member, entry}
use Rattle.parties.proofs.Parties.{sizes-facts, party-facts}
use Rattle.tables.proofs.Tables.{table-facts}
use Rattle.answers.specs.declared.Stage.{Stage}
use Rattle.answers.specs.declared.Stage.TheVariants.{Holding, Closed}
use Rattle.answers.specs.Answers.{stage_number}
use Rattle.answers.specs.Fits.{constant}
use Rattle.recovery.specs.Recovery.{repair}
use Rattle.lamp.specs.declared.Lamp.{Lamp}
use Rattle.lamp.specs.declared.Reply.{Reply}
use Rattle.lamp.specs.Lamp.{its_prime, table_of, row_of_lamp, column_of_lamp, made_with, with_deal, with_pairs, report_from, at_end, repaired, settled}
use Rattle.lamp.specs.Lamp.{Call, settle, step, after}
use Rattle.lamp.proofs.Checks.{Passed}
use Rattle.agreement.specs.Setting.{Setting, setting, Legal}
use Rattle.agreement.proofs.Deals.{sound-facts, confirmed, report-bit}
use Rattle.agreement.proofs.Geometry.{neighbour}
use Rattle.agreement.proofs.Outcomes.{settled-rejects, settled-happy, settled-mended}
use Rattle.agreement.proofs.Sentences.{step-makes, after-makes, same_party}

-- Once the lamp has reported, a one in its report says that its column has residues.
abbrev Backed : Lamp → Type 0
Backed l =
    stage_number l.sharing.stage ≡ 2 → (j : ℕ) → is_party l.party.n j ≡ true → member l.sharing.report j ≡ true
    → Residues (its_prime l.party) (column_of_lamp l)

-- The share is a residue, and the column is if it may become one.
abbrev Storable : Lamp → Type 0
Storable l = (l.sharing.share < its_prime l.party) × Backed l

-- At its end the lamp has what it was given.
end-storable : (l : Lamp) (s : Stage) (S v : ℕ) → 3 ≤ stage_number s → v < its_prime l.party → Storable (at_end l s S v)
unfolding at_end
end-storable l s S v late h = (h, λ e. absurd (omega arith))

-- A one is there only if the deal is sound.
pairs-backed : (l : Lamp) (hs : List ℕ) → Backed (with_pairs l hs)
unfolding with_pairs report_from
pairs-backed l hs e j party one =
    let a = l.party in
    let said = report-bit (its_prime a) (table_of a) a.number (row_of_lamp l) (column_of_lamp l) hs j a.n party in
    (sound-facts (its_prime a) (table_of a) a.number (row_of_lamp l) (column_of_lamp l)
    (confirmed (its_prime a) (table_of a) a.number (row_of_lamp l) (column_of_lamp l) hs j (sym said ∙ one)).soundly
    ).column_below

-- Nothing at all has the constant 0.
constant-below : (p : ℕ) (f : List ℕ) → 0 < p → Residues p f → constant f < p
constant-below p [] above h = above
constant-below p (c ∷ f) above h = h.0

-- All lamps may count as honest here: no other lamp is spoken of.
nobody : (xs : List ℕ) → count (λ i. false) xs ≡ 0
nobody [] = refl
nobody (x ∷ xs) = nobody xs

-- ---- settling
module _ (l : Lamp) (h : Storable l) (rs : List ℕ) (ok : Passed l (settle rs))
    (own : entry rs l.party.number ≡ l.sharing.report) where
  -- The lamp's own.
  abbrev p : ℕ
  p = its_prime l.party

  abbrev n : ℕ
  n = l.party.n

  abbrev t : ℕ
  t = l.party.t

  abbrev i : ℕ
  i = l.party.number

  abbrev S : ℕ
  S = happy_set rs

  above : 0 < p
  above = positive l.party.width

  -- As the lamp has it.
  abbrev here : Setting
  here = setting l.party.width n t (table_of l.party)

  -- The settling was not refused.
  legal : Legal here
  legal = record {
    size = ok.0.size;
    table = table-facts p n (table_of l.party) ok.0.table;
    prime = prime-of l.party.width;
  }

  -- The happy set agrees.
  largest : Largest (agree rs) n S
  largest =
      let z = sizes-facts n t ok.0.size in
      subst (λ k. Largest (agree rs) k S) ok.1 (happy-is rs (omega (arith, ok.1)))

  module _ (many : n - t ≤ ones S) where
    -- A happy lamp has a one for another one.
    happy-column : member S i ≡ true → Residues p (column_of_lamp l)
    happy-column m =
        let (j, there, apart) = neighbour here legal (λ k. true) (omega (arith, nobody (parties n))) S largest.within many i in
        let fi = party-facts n i ok.0.party in
        let fj = party-facts n j there.party in
        let places : i - 1 ≡ j - 1 → ⊥ = λ q. apart (omega arith) in
        let one = ((agree-iff rs (i - 1) (j - 1)).0 (largest.clique (i - 1) (j - 1) m there.happy places)).forth in
        h.1 (eqb-true (stage_number l.sharing.stage) 2 ok.2) j there.party (sym (ap (λ r. bit r (j - 1)) own) ∙ one)

    -- What is found fits, so it is a polynomial.
    repaired-storable : (o : Option (List ℕ)) → repair p n t (table_of l.party) S l.sharing.heard ≡ o
        → Storable (repaired l S o).lamp
    unfolding repair
    repaired-storable none e = end-storable l Closed S 0 (omega arith) above
    repaired-storable (some f) e =
        end-storable l Holding S (constant f) (omega arith)
        (constant-below p f above (fit-sound p (prime-of l.party.width) t _ _ _ f e).poly.residues)

  settled-storable : Storable (settled l S).lamp
  settled-storable =
      ⊎_elim
      (λ many.
      ⊎_elim
      (λ (m : member S i ≡ true).
      subst (λ (r : Reply). Storable r.lamp) (sym (settled-happy l S many m))
      (end-storable l Holding S (constant (column_of_lamp l)) (omega arith)
      (constant-below p (column_of_lamp l) above (happy-column many m))))
      (λ (m : member S i ≡ false).
      subst (λ (r : Reply). Storable r.lamp) (sym (settled-mended l S many m)) (repaired-storable many _ refl))
      (cases_Bool (member S i)))
      (λ few.
      subst (λ (r : Reply). Storable r.lamp) (sym (settled-rejects l S few)) (end-storable l Closed 0 0 (omega arith) above))
      (le-or-lt (n - t) (ones S))

-- ---- every call
step-storable : (l : Lamp) → Storable l → (c : Call) → Storable (step l c).lamp
unfolding with_deal with_pairs
step-storable l h =
    step-makes Storable l h (λ w d ok. (h.0, λ e. absurd (omega arith))) (λ w hs ok. (h.0, pairs-backed l hs)) (settled-storable l h)

-- For whatever width, sizes, number and table the lamp was made.
pub share-residue : (w : Width) (n t i : ℕ) (T : List ℕ) (cs : List Call) → (after (made_with w n t i T) cs).sharing.share < prime_of w
share-residue w n t i T cs =
    let l : Lamp = made_with w n t i T in
    subst (λ a. (after l cs).sharing.share < its_prime a) (same_party l refl cs).0
    (after-makes Storable step-storable l (positive w, λ e. absurd (omega arith)) cs).0
