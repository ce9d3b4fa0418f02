-- Sentences of the protocol about the lamp, each a short theorem: at every state and every list of calls, unless said otherwise.
--   same_party          no call changes the lamp's sizes, number, width and table, nor how many places it has for what it hears
--   until-it-settles    "Until it settles its share is 0 and its happy set empty."
--   after-three-calls   "A lamp given these messages in turn is holding or closed after three accepted calls, a settling that gives 8 or 9
--                       counted among them."
--   nothing_hidden      a list of calls determines the deal, the pairs and the reports that it brings
--   report-kept         the report that is given out is the one that is kept
-- That a lamp's share is a residue of its prime is in Shares, by the same induction over calls (step-makes, after-makes).
-- "The number is the only result; lists and lamp are unchanged, but 8 and 9 close the lamp" is demand 1.
use mathlib.Core.Path.{◌≡◌, refl, sym, ap, ap₂, subst, ◌∙◌}
use mathlib.Core.Logic.{◌⊎◌, inl, inr}
use mathlib.Core.Bool.{Bool, true, ◌&&◌}
use mathlib.Core.Option.{Option, none, some}
use mathlib.Core.List.{List, [], ◌∷◌, ◌++◌, append_assoc, head-eq_of_cons-eq, tail-eq_of_cons-eq}
use Prim.Native.Nat.{ℕ, ◌*◌, ◌≤◌}
use native.Mathlib.Omega.{arith}
use lib.Dec.{eqb}
use lib.ListN.{length, drop}
use lib.Seq.{drop-append_seam}
use borrow.Author.Tests.{eq-eqb, eqb-true}
use Rattle.std.proofs.lemmas.Bool.{cond_both}
use Rattle.lists.proofs.Cases.{not-both}
use Rattle.field.specs.declared.Width.{Width}
use Rattle.happy.specs.Happy.{happy_set}
use Rattle.parties.specs.Parties.{entry}
use Rattle.answers.specs.declared.Stage.{Stage}
use Rattle.answers.specs.declared.Stage.TheVariants.{Holding, Closed}
use Rattle.answers.specs.declared.Refusal.TheVariants.{AlteredReport}
use Rattle.answers.specs.declared.Answer.TheVariants.{Report}
use Rattle.lamp.specs.declared.Party.{Party}
use Rattle.lamp.specs.declared.Lamp.{Lamp}
use Rattle.lamp.specs.declared.Reply.{Reply}
use Rattle.answers.specs.Refusals.{lowest, Admission}
use Rattle.answers.specs.Answers.{stage_number}
use Rattle.lamp.specs.Lamp.{reply, refuse, guard, with_deal, with_pairs, report_from, at_end}
use Rattle.lamp.specs.Lamp.{settled, opening, opened, Call, take_deal, say_pair, hear_pairs, settle, open_shares, step}
use Rattle.lamp.specs.Lamp.{tests, outcome, after}
use Rattle.lamp.proofs.Checks.{Passed, passed, valid-facts}
use Rattle.agreement.specs.Setting.{Setting, terms, report_by, made_for, lamp_at}
use Rattle.agreement.specs.Calls.{Run, whole, Never, is_deal, is_hearing, is_settling}
use Rattle.agreement.specs.Demand3.{Brings}
use Rattle.agreement.proofs.Steps.{fits}
use Rattle.agreement.proofs.Runs.{settled-ends}
use Rattle.agreement.proofs.Strays.{cuts, never-at}
use Rattle.agreement.proofs.Outcomes.{heard_all}
use Rattle.agreement.proofs.Collapse as one
use Rattle.std.specs.Prelude.{Ok, Err}

-- ---- what a call can make of a lamp
guard-makes : (Q : Lamp → Type 0) (l : Lamp) (a : Admission) (r : Reply) → Q l → (a ≡ Ok tt → Q r.lamp) → Q (guard l a r).lamp
guard-makes Q l (Ok tt) r h k = k refl
guard-makes Q l (Err why) r h k = h

opened-makes : (Q : Lamp → Type 0) (l : Lamp) (o : Option (List ℕ)) → Q l → Q (opened l o).lamp
opened-makes Q l none h = h
opened-makes Q l (some f) h = h

module _ (Q : Lamp → Type 0) (l : Lamp) where
  pub step-makes : Q l → ((w : Width) (d : List ℕ) → Passed l (take_deal w d) → Q (with_deal l d))
      → ((w : Width) (hs : List ℕ) → Passed l (hear_pairs w hs) → Q (with_pairs l hs))
      → ((rs : List ℕ) → Passed l (settle rs) → entry rs l.party.number ≡ l.sharing.report → Q (settled l (happy_set rs)).lamp)
      → (c : Call) → Q (step l c).lamp
  unfolding step
  step-makes same dealt heard ended c = guard-makes Q l (lowest (tests l c)) (outcome l c) same (makes c)
    where
      makes : (c : Call) → lowest (tests l c) ≡ Ok tt → Q (outcome l c).lamp
      makes (take_deal w d) e = dealt w d (passed l (take_deal w d) e)
      makes (say_pair j) e = same
      makes (hear_pairs w hs) e = heard w hs (passed l (hear_pairs w hs) e)
      makes (settle rs) e =
          cond_both (eqb (entry rs l.party.number) l.sharing.report)
          (settled l (happy_set rs)) (refuse l AlteredReport) (λ (r : Reply). Q r.lamp)
          (λ own. ended rs (passed l (settle rs) e) (eqb-true (entry rs l.party.number) l.sharing.report own)) (λ other. same)
      makes (open_shares w xs) e = opened-makes Q l (opening l xs) same

-- What every call keeps, every list of calls keeps.
pub after-makes : (Q : Lamp → Type 0) → ((l : Lamp) → Q l → (c : Call) → Q (step l c).lamp)
    → (l : Lamp) → Q l → (cs : List Call) → Q (after l cs)
after-makes Q keeps l h [] = h
after-makes Q keeps l h (c ∷ cs) = after-makes Q keeps (step l c).lamp (keeps l h c) cs

-- ---- the party is the same for ever
-- The party a, and sixteen places for what is heard.
abbrev Same : Party → Lamp → Type 0
Same a l = (l.party ≡ a) × (length l.sharing.heard ≡ 16)

step_same : (a : Party) (l : Lamp) → Same a l → (c : Call) → Same a (step l c).lamp
unfolding with_deal with_pairs at_end
step_same a l h =
    step-makes (Same a) l h (λ w d ok. h) (λ w hs ok. (h.0, heard_all l.party.n hs (valid-facts l.party ok.0).room))
    (λ rs ok own. settled-ends l (Same a) (λ S v. h) (λ S v. h) (happy_set rs))

pub same_party : (l : Lamp) → length l.sharing.heard ≡ 16 → (cs : List Call)
    → ((after l cs).party ≡ l.party) × (length (after l cs).sharing.heard ≡ 16)
same_party l long = after-makes (Same l.party) (step_same l.party) l (refl, long)

-- ---- until it settles
abbrev Unsettled : Lamp → Type 0
Unsettled l = stage_number l.sharing.stage ≤ 2 → (l.sharing.share ≡ 0) × (l.sharing.happy ≡ 0)

end-settled : (l : Lamp) (s : Stage) (S v : ℕ) → 3 ≤ stage_number s → Unsettled (at_end l s S v)
unfolding at_end
end-settled l s S v h k = absurd (omega arith)

step-unsettled : (l : Lamp) → Unsettled l → (c : Call) → Unsettled (step l c).lamp
unfolding with_deal with_pairs
step-unsettled l h c =
    step-makes Unsettled l h
    (λ w d ok k. h (omega (arith, eqb-true (stage_number l.sharing.stage) 0 ok.2)))
    (λ w hs ok k. h (omega (arith, eqb-true (stage_number l.sharing.stage) 1 ok.2)))
    (λ rs ok own.
    settled-ends l Unsettled (λ S v. end-settled l Holding S v (omega arith)) (λ S v. end-settled l Closed S v (omega arith)) (happy_set rs))
    c

pub until-it-settles : (s : Setting) (i : ℕ) (cs : List Call) → stage_number (lamp_at s i cs).sharing.stage ≤ 2
    → ((lamp_at s i cs).sharing.share ≡ 0) × ((lamp_at s i cs).sharing.happy ≡ 0)
until-it-settles s i = after-makes Unsettled step-unsettled (made_for s i) (λ k. (refl, refl))

-- ---- holding or closed after three accepted calls
end-last : (l : Lamp) (S : ℕ) → ((settled l S).lamp.sharing.stage ≡ Holding) ⊎ ((settled l S).lamp.sharing.stage ≡ Closed)
unfolding at_end
end-last l =
    settled-ends l (λ (m : Lamp). (m.sharing.stage ≡ Holding) ⊎ (m.sharing.stage ≡ Closed)) (λ S v. inl refl) (λ S v. inr refl)

-- A deal, then pairs, then reports, each of the right length, the lamp's own report in its place.
abbrev in_turn : Width → List ℕ → List ℕ → List ℕ → Run
in_turn w d hs rs = record {
  width = w;
  before_deal = [];
  its_deal = d;
  before_pairs = [];
  its_pairs = hs;
  before_reports = [];
  its_reports = rs;
  rest = [];
}

pub after-three-calls : (s : Setting) (i : ℕ) (d hs rs : List ℕ) → one.Ready s i
    → length d ≡ 2 * terms s → length hs ≡ 2 * s.n → length rs ≡ s.n → entry rs i ≡ report_by s i d hs
    → ((lamp_at s i (take_deal s.width d ∷ hear_pairs s.width hs ∷ settle rs ∷ [])).sharing.stage ≡ Holding)
    ⊎ ((lamp_at s i (take_deal s.width d ∷ hear_pairs s.width hs ∷ settle rs ∷ [])).sharing.stage ≡ Closed)
after-three-calls s i d hs rs ready ld lh lr own =
    let r : Run = in_turn s.width d hs rs in
    let b : Brings s i (whole r) r = record {
      list = refl;
      own_width = refl;
      deal_length = ld;
      deal_first = tt;
      pairs_length = lh;
      pairs_first = tt;
      reports_length = lr;
      reports_own = own;
      reports_first = tt;
    } in
    subst (λ (l : Lamp). (l.sharing.stage ≡ Holding) ⊎ (l.sharing.stage ≡ Closed))
    (sym (one.since-settling s i ready (whole r) r b []))
    (end-last (one.reported s i ready (whole r) r b) (happy_set rs))

-- ---- the report that is given out is kept
pub report-kept : (l : Lamp) (w : Width) (hs : List ℕ) (r : ℕ) → (step l (hear_pairs w hs)).answer ≡ Ok (Report r)
    → (step l (hear_pairs w hs)).lamp.sharing.report ≡ r
unfolding step with_pairs
report-kept l w hs r e = by (lowest (tests l (hear_pairs w hs))) e
  where
    heard : Reply
    heard = reply (with_pairs l hs) (Ok (Report (report_from l hs)))

    by : (a : Admission) → (guard l a heard).answer ≡ Ok (Report r) → (guard l a heard).lamp.sharing.report ≡ r
    by (Ok tt) e = cc
    by (Err why) e = absurd (let z : ◌≡◌ {A = ℕ} 0 1 = cc in omega arith)

-- ---- a list determines what it brings
first-once : (test : Call → Bool) (us : List Call) (c : Call) (ws vs : List Call) (b : Call) (zs : List Call)
    → Never test us → Never test vs → test c ≡ true → test b ≡ true → us ++ c ∷ ws ≡ vs ++ b ∷ zs → (us ≡ vs) × (c ≡ b) × (ws ≡ zs)
first-once test us c ws vs b zs nu nv tc tb e =
    elim (cuts us c ws vs b zs e) [
      | inl h ↦ absurd (not-both tc (never-at test us c h.0 (subst (Never test) h.1 nv)).1)
      | inr (inl h) ↦ (h, head-eq_of_cons-eq (rest h), tail-eq_of_cons-eq (rest h))
      | inr (inr h) ↦ absurd (not-both tb (never-at test vs b h.0 (subst (Never test) h.1 nu)).1)
    ]
  where
    rest : us ≡ vs → c ∷ ws ≡ b ∷ zs
    rest h =
        sym (drop-append_seam us (c ∷ ws))
        ∙ ap (drop (length us)) e
        ∙ ap (λ k. drop (length k) (vs ++ b ∷ zs)) h
        ∙ drop-append_seam vs (b ∷ zs)

-- The list of a run, from the front.
abbrev from_pairs : Run → List Call
from_pairs r = r.before_pairs ++ hear_pairs r.width r.its_pairs ∷ (r.before_reports ++ settle r.its_reports ∷ r.rest)

flat : (r : Run) → whole r ≡ r.before_deal ++ take_deal r.width r.its_deal ∷ from_pairs r
flat r = simp append_assoc

pub nothing_hidden : (s : Setting) (i : ℕ) (cs : List Call) (r q : Run) → Brings s i cs r → Brings s i cs q → r ≡ q
nothing_hidden s i cs r q br bq =
    let a =
    first-once (is_deal s) r.before_deal (take_deal r.width r.its_deal) _ q.before_deal (take_deal q.width q.its_deal) _
    br.deal_first bq.deal_first
    (fits r.width s.width br.own_width _ _ br.deal_length) (fits q.width s.width bq.own_width _ _ bq.deal_length)
    (sym (flat r) ∙ sym br.list ∙ bq.list ∙ flat q) in
    let b =
    first-once (is_hearing s) r.before_pairs (hear_pairs r.width r.its_pairs) _ q.before_pairs (hear_pairs q.width q.its_pairs) _
    br.pairs_first bq.pairs_first
    (fits r.width s.width br.own_width _ _ br.pairs_length) (fits q.width s.width bq.own_width _ _ bq.pairs_length)
    a.2 in
    let deals : r.its_deal ≡ q.its_deal = let e : take_deal r.width r.its_deal ≡ take_deal q.width q.its_deal = a.1 in cc in
    let pairs : r.its_pairs ≡ q.its_pairs = let e : hear_pairs r.width r.its_pairs ≡ hear_pairs q.width q.its_pairs = b.1 in cc in
    let its : Run → ℕ = λ z. report_by s i z.its_deal z.its_pairs in
    let same : its q ≡ its r = ap₂ (report_by s i) (sym deals) (sym pairs) in
    let c =
    first-once (is_settling s i (its r)) r.before_reports (settle r.its_reports) r.rest
    q.before_reports (settle q.its_reports) q.rest
    br.reports_first (subst (λ k. Never (is_settling s i k) q.before_reports) same bq.reports_first)
    (ap₂ (λ (x y : Bool). x && y) (eq-eqb (length r.its_reports) s.n br.reports_length)
    (eq-eqb (entry r.its_reports i) (its r) br.reports_own))
    (ap₂ (λ (x y : Bool). x && y) (eq-eqb (length q.its_reports) s.n bq.reports_length)
    (eq-eqb (entry q.its_reports i) (its r) (bq.reports_own ∙ same)))
    b.2 in
    let seen : r.its_reports ≡ q.its_reports = let e : settle r.its_reports ≡ settle q.its_reports = c.1 in cc in
    let widths : r.width ≡ q.width = br.own_width ∙ sym bq.own_width in
    λ j. record {
      width = widths j;
      before_deal = a.0 j;
      its_deal = deals j;
      before_pairs = b.0 j;
      its_pairs = pairs j;
      before_reports = c.0 j;
      its_reports = seen j;
      rest = c.2 j;
    }
