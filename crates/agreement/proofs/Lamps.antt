-- One honest lamp along its list, in the setting of all: what it answers, and what it stays with once its settling is known.
--   speaks     its pairs, its report, and that other calls are stray; ready: what its run is known from
--   settling, ended, at-end, stays   the answer to its settling, and the lamp from then on to the end
--   rejects    where too few agree it rejects the dealer
use mathlib.Core.Path.{◌≡◌, ap, ◌∙◌}
use mathlib.Core.List.{List}
use Prim.Native.Nat.{ℕ, ◌-◌, ◌<◌}
use lib.Count.{ones}
use Rattle.happy.specs.Happy.{happy_set}
use Rattle.lamp.specs.declared.Lamp.{Lamp}
use Rattle.lamp.specs.declared.Reply.{Reply}
use Rattle.answers.specs.Answers.{values_of}
use Rattle.lamp.specs.Lamp.{Call, take_deal, hear_pairs, settle, with_deal, with_pairs, at_end, settled, step}
use Rattle.agreement.specs.Setting.{Setting, Legal, lamp_at, reply_at}
use Rattle.agreement.specs.Calls.{to_reports, since_settling}
use Rattle.agreement.specs.Demand3.{Execution, Honest, Premises, Speaks, Stays, Rejects}
use Rattle.agreement.proofs.Collapse as one
use Rattle.agreement.proofs.Strays.{others}
use Rattle.agreement.proofs.Outcomes.{settled-rejects}
use Rattle.answers.specs.Refusals.{number_of}

module _ (s : Setting) (legal : Legal s) (e : Execution) (pr : Premises s e) (i : ℕ) (h : Honest s e i) where
  abbrev S : ℕ
  S = happy_set e.seen

  pub ready : one.Ready s i
  ready = record { size = legal.size; party = h.party; table = legal.table }

  pub speaks : Speaks s e s i
  speaks =
      let b = pr.brings i h in
      let cs = e.calls i in
      let r = e.run i in
      let taking = ap (λ l. step l (take_deal r.width r.its_deal)) (one.to-deal s i ready cs r b) ∙ one.deal-taken s i ready cs r b in
      let hearing =
      ap (λ l. step l (hear_pairs r.width r.its_pairs)) (one.to-pairs s i ready cs r b) ∙ one.pairs-heard s i ready cs r b in
      record {
        takes = (ap (λ (z : Reply). number_of z.answer) taking, ap (λ (z : Reply). values_of z.answer) taking);
        says = λ xs j other at. let said = one.says-pair s i ready cs r b xs j other in (ap number_of said, ap values_of said);
        reports = (ap (λ (z : Reply). number_of z.answer) hearing, ap (λ (z : Reply). values_of z.answer) hearing);
        others = others s i ready cs r b;
      }

  abbrev pub reported : Lamp
  reported = one.reported s i ready (e.calls i) (e.run i) (pr.brings i h)

  -- Settling, once its outcome is known.
  pub settling : (w : Reply) → settled reported S ≡ w → reply_at s i (to_reports (e.run i)) (settle (e.run i).its_reports) ≡ w
  settling w is =
      ap (λ l. step l (settle (e.run i).its_reports)) (one.to-reports s i ready (e.calls i) (e.run i) (pr.brings i h))
      ∙ one.settling s i ready (e.calls i) (e.run i) (pr.brings i h)
      ∙ ap (λ rs. settled reported (happy_set rs)) (pr.same i h)
      ∙ is

  pub ended : (w : Reply) → settled reported S ≡ w → (xs : List Call) → lamp_at s i (since_settling (e.run i) xs) ≡ w.lamp
  ended w is xs =
      one.since-settling s i ready (e.calls i) (e.run i) (pr.brings i h) xs
      ∙ ap (λ rs. (settled reported (happy_set rs)).lamp) (pr.same i h)
      ∙ ap (λ (z : Reply). z.lamp) is

  pub at-end : (w : Reply) → settled reported S ≡ w → lamp_at s i (e.calls i) ≡ w.lamp
  at-end w is = ap (lamp_at s i) (pr.brings i h).list ∙ ended w is (e.run i).rest

  pub stays : (w : Reply) → settled reported S ≡ w
      → Stays s e s i w.lamp.sharing.stage w.lamp.sharing.happy w.lamp.sharing.share
  stays w is = record {
    stages = λ xs _. ap (λ (l : Lamp). l.sharing.stage) (ended w is xs);
    sets = λ xs _. ap (λ (l : Lamp). l.sharing.happy) (ended w is xs);
    shares = λ xs _. ap (λ (l : Lamp). l.sharing.share) (ended w is xs);
  }

  -- ---- too few agree: the dealer is rejected
  pub rejects : ones S < s.n - s.t → Rejects s e s i
  unfolding with_pairs with_deal at_end
  rejects few =
      let is = settled-rejects reported S few in
      record { answered = ap (λ (z : Reply). number_of z.answer) (settling _ is); stays = stays _ is }
