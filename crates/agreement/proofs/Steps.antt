-- One call of a lamp with a valid party: a call that its stage does not await changes nothing, and one that it awaits is accepted.
--   awaited l c   a deal, pairs or reports that the lamp's stage takes, with all in order; deal_fits, pairs_fit: its width and length are
--   width_same    two widths that are one pass the test; fits: and so do width and length of a lent list
use mathlib.Core.Path.{◌≡◌, refl, sym, ap, ap₂, subst, ◌∙◌}
use mathlib.Core.Logic.{◌⊎◌, inl, inr, ⊎_elim}
use mathlib.Core.Bool.{Bool, true, false, cond, ◌&&◌, and-eq-true_iff, true≢false}
use mathlib.Core.Option.{Option, none, some}
use mathlib.Core.List.{List, [], ◌∷◌, ◌++◌}
use Prim.Native.Nat.{ℕ, suc, ◌*◌}
use lib.Dec.{eqb}
use lib.ListN.{length}
use borrow.Author.Tests.{eq-eqb}
use Rattle.std.proofs.lemmas.Bool.{cases_Bool}
use Rattle.field.specs.declared.Width.{Width}
use Rattle.field.specs.Modulus.{width_number, same_width}
use Rattle.happy.specs.Happy.{happy_set}
use Rattle.parties.specs.Parties.{is_party, entry}
use Rattle.answers.specs.declared.Stage.TheVariants.{Waiting, Dealt, Reported, Holding}
use Rattle.answers.specs.declared.Refusal.{Refusal}
use Rattle.answers.specs.declared.Refusal.TheVariants.{WrongLength, WrongStage, AlteredReport, WrongWidth}
use Rattle.answers.specs.declared.Answer.TheVariants.{Done, Pair, Report}
use Rattle.lamp.specs.declared.Lamp.{Lamp}
use Rattle.lamp.specs.declared.Reply.{Reply}
use Rattle.answers.specs.Refusals.{refusal_number, lowest, Admission}
use Rattle.lamp.specs.Lamp.{Valid, reply, refuse, guard, is_at, party_tests, lent_tests, with_deal, said_pair, with_pairs, report_from}
use Rattle.lamp.specs.Lamp.{settled, opening, opened}
use Rattle.lamp.specs.Lamp.{Call, take_deal, say_pair, hear_pairs, settle, open_shares, tests, step, after}
use Rattle.agreement.specs.Calls.{Never, moves}
use Rattle.std.specs.Prelude.{Ok, Err}

-- A deal, and pairs, of the lamp's own width and the right length.
abbrev pub deal_fits : Lamp → Width → List ℕ → Bool
deal_fits l w d = same_width w l.party.width && eqb (length d) (2 * suc l.party.t)

abbrev pub pairs_fit : Lamp → Width → List ℕ → Bool
pairs_fit l w hs = same_width w l.party.width && eqb (length hs) (2 * l.party.n)

-- What the lamp's stage takes.
abbrev pub awaited : Lamp → Call → Bool
awaited l (take_deal w d) = deal_fits l w d && is_at Waiting l.sharing
awaited l (say_pair j) = false
awaited l (hear_pairs w hs) = pairs_fit l w hs && is_at Dealt l.sharing
awaited l (settle rs) =
    (eqb (length rs) l.party.n && is_at Reported l.sharing) && eqb (entry rs l.party.number) l.sharing.report
awaited l (open_shares w xs) = false

-- ---- guards

-- The tests of a call with a lent list, of a lamp with a valid party. A settling is of no width: that test passes.
abbrev lent : Bool → Bool → Bool → Admission
lent width list stage = lowest ((width, WrongWidth) ∷ (list, WrongLength) ∷ (stage, WrongStage) ∷ [])

guard-open : (l : Lamp) (width list stage : Bool) (r : Reply) → ((width && list) && stage) ≡ true → guard l (lent width list stage) r ≡ r
guard-open l true true true r e = refl
guard-open l true true false r e = absurd (true≢false (sym e))
guard-open l true false stage r e = absurd (true≢false (sym e))
guard-open l false list stage r e = absurd (true≢false (sym e))

-- A refusal with 3, 4, 7 or 18 that changes nothing.
pub record Shut (l : Lamp) (r : Reply) : Type 0 where
  pub why : Refusal
  pub is : r ≡ refuse l why
  pub number : (refusal_number why ≡ 3) ⊎ (refusal_number why ≡ 4) ⊎ (refusal_number why ≡ 7) ⊎ (refusal_number why ≡ 18)

guard_shut : (l : Lamp) (width list stage : Bool) (r : Reply) → ((width && list) && stage) ≡ false
    → Shut l (guard l (lent width list stage) r)
guard_shut l true true true r e = absurd (true≢false e)
guard_shut l true true false r e = record { why = WrongStage; is = refl; number = inr (inl refl) }
guard_shut l true false stage r e = record { why = WrongLength; is = refl; number = inl refl }
guard_shut l false list stage r e = record { why = WrongWidth; is = refl; number = inr (inr (inr refl)) }

guard-same : (l : Lamp) (a : Admission) (r : Reply) → r.lamp ≡ l → (guard l a r).lamp ≡ l
guard-same l (Ok tt) r e = e
guard-same l (Err why) r e = refl

pub opened-same : (l : Lamp) (o : Option (List ℕ)) → (opened l o).lamp ≡ l
opened-same l none = refl
opened-same l (some f) = refl

-- Two widths that are one pass the test.
pub width_same : (v w : Width) → v ≡ w → same_width v w ≡ true
width_same v w e = eq-eqb (width_number v) (width_number w) (ap width_number e)

-- Width and length of a lent list are right.
pub fits : (v w : Width) → v ≡ w → (a b : ℕ) → a ≡ b → (same_width v w && eqb a b) ≡ true
fits v w own a b long = ap₂ (λ (x y : Bool). x && y) (width_same v w own) (eq-eqb a b long)

module _ (l : Lamp) (valid : Valid l.party) where
  abbrev found : Bool → Bool → Bool → Admission
  found width list stage = lowest (party_tests l.party ++ (width, WrongWidth) ∷ lent_tests l.party list stage)

  lent-valid : (width list stage : Bool) → found width list stage ≡ lent width list stage
  lent-valid width list stage = rw (valid.size, valid.party, valid.table)

  admitted : (width list stage : Bool) (r : Reply) → ((width && list) && stage) ≡ true → guard l (found width list stage) r ≡ r
  admitted width list stage r e = ap (λ a. guard l a r) (lent-valid width list stage) ∙ guard-open l width list stage r e

  shut_out : (width list stage : Bool) (r : Reply) → ((width && list) && stage) ≡ false → Shut l (guard l (found width list stage) r)
  shut_out width list stage r e = subst (λ a. Shut l (guard l a r)) (sym (lent-valid width list stage)) (guard_shut l width list stage r e)

  -- ---- what is awaited is accepted
  pub takes : (w : Width) (d : List ℕ) → awaited l (take_deal w d) ≡ true → step l (take_deal w d) ≡ reply (with_deal l d) (Ok Done)
  unfolding step
  takes w d e = admitted (same_width w l.party.width) (eqb (length d) (2 * suc l.party.t)) (is_at Waiting l.sharing) _ e

  pub hears : (w : Width) (hs : List ℕ) → awaited l (hear_pairs w hs) ≡ true
      → step l (hear_pairs w hs) ≡ reply (with_pairs l hs) (Ok (Report (report_from l hs)))
  unfolding step
  hears w hs e = admitted (same_width w l.party.width) (eqb (length hs) (2 * l.party.n)) (is_at Dealt l.sharing) _ e

  -- Reports of the right length, at the stage that takes them: the lamp looks at its own.
  pub looks : (rs : List ℕ) → (eqb (length rs) l.party.n && is_at Reported l.sharing) ≡ true
      → step l (settle rs)
      ≡ cond (eqb (entry rs l.party.number) l.sharing.report) (settled l (happy_set rs)) (refuse l AlteredReport)
  unfolding step
  looks rs e = admitted true (eqb (length rs) l.party.n) (is_at Reported l.sharing) _ e

  pub settles : (rs : List ℕ) → awaited l (settle rs) ≡ true → step l (settle rs) ≡ settled l (happy_set rs)
  settles rs e =
      let own : Bool = eqb (entry rs l.party.number) l.sharing.report in
      let both = (and-eq-true_iff (eqb (length rs) l.party.n && is_at Reported l.sharing) own).0 e in
      looks rs both.0 ∙ ap (λ b. cond b (settled l (happy_set rs)) (refuse l AlteredReport)) both.1

  -- A saying from the deal on, for any party.
  pub pair-said : (j : ℕ) → is_party l.party.n j ≡ true → is_at Waiting l.sharing ≡ false
      → step l (say_pair j) ≡ reply l (Ok (Pair (said_pair l j).0 (said_pair l j).1))
  unfolding step
  pair-said j party e = rw (valid.size, valid.party, valid.table, party, e)

  -- An opening while holding.
  pub shares-opened : (w : Width) (xs : List ℕ) → w ≡ l.party.width → length xs ≡ l.party.n → is_at Holding l.sharing ≡ true
      → step l (open_shares w xs) ≡ opened l (opening l xs)
  unfolding step
  shares-opened w xs own e h =
      let width : Bool = same_width w l.party.width in
      let list : Bool = eqb (length xs) l.party.n in
      admitted width list (is_at Holding l.sharing) _
      (ap₂ (λ (a b : Bool). a && b) (fits w l.party.width own (length xs) l.party.n e) h)

  -- ---- what is not awaited changes nothing, and is refused if it is to move the lamp
  settle-shut : (rs : List ℕ) → awaited l (settle rs) ≡ false → Shut l (step l (settle rs))
  unfolding step
  settle-shut rs e =
      let gate : Bool = eqb (length rs) l.party.n && is_at Reported l.sharing in
      let own : Bool = eqb (entry rs l.party.number) l.sharing.report in
      ⊎_elim
      (λ (g : gate ≡ true).
      let altered : own ≡ false = sym (ap (λ b. b && own) g) ∙ e in
      let is = admitted true (eqb (length rs) l.party.n) (is_at Reported l.sharing) _ g
      ∙ ap (λ b. cond b (settled l (happy_set rs)) (refuse l AlteredReport)) altered in
      record { why = AlteredReport; is = is; number = inr (inr (inl refl)) })
      (λ (g : gate ≡ false). shut_out true (eqb (length rs) l.party.n) (is_at Reported l.sharing) _ g)
      (cases_Bool gate)

  pub stray : (c : Call) → moves c ≡ true → awaited l c ≡ false → Shut l (step l c)
  unfolding step
  stray (take_deal w d) m e =
      shut_out (same_width w l.party.width) (eqb (length d) (2 * suc l.party.t)) (is_at Waiting l.sharing) _ e
  stray (say_pair j) m e = absurd (true≢false (sym m))
  stray (hear_pairs w hs) m e =
      shut_out (same_width w l.party.width) (eqb (length hs) (2 * l.party.n)) (is_at Dealt l.sharing) _ e
  stray (settle rs) m e = settle-shut rs e
  stray (open_shares w xs) m e = absurd (true≢false (sym m))

  pub quiet : (c : Call) → awaited l c ≡ false → (step l c).lamp ≡ l
  unfolding step
  quiet (take_deal w d) e = ap (λ r. r.lamp) (stray (take_deal w d) refl e).is
  quiet (say_pair j) e = guard-same l (lowest (tests l (say_pair j))) _ refl
  quiet (hear_pairs w hs) e = ap (λ r. r.lamp) (stray (hear_pairs w hs) refl e).is
  quiet (settle rs) e = ap (λ r. r.lamp) (stray (settle rs) refl e).is
  quiet (open_shares w xs) e = guard-same l (lowest (tests l (open_shares w xs))) _ (opened-same l (opening l xs))

  -- So a list of such calls changes nothing.
  pub all_quiet : (cs : List Call) → Never (awaited l) cs → after l cs ≡ l
  all_quiet [] h = refl
  all_quiet (c ∷ cs) h = ap (λ z. after z cs) (quiet c h.0) ∙ all_quiet cs h.1

pub after-append : (l : Lamp) (xs ys : List Call) → after l (xs ++ ys) ≡ after (after l xs) ys
after-append l [] ys = refl
after-append l (x ∷ xs) ys = after-append (step l x).lamp xs ys
