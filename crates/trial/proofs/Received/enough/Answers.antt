-- `Received::enough` meets its contract.
use Rattle.std.proofs.Common.{ℕ, ◌≡◌, ◌+◌, ◌-◌, ◌<◌, length, refl, ◌∙◌, arith}
use Rattle.std.proofs.lemmas.List.{length_push}
use Rattle.trial.proofs.Arrays.{residue-at}
use Rattle.trial.proofs.Turns.{Point, back-turn}
use Rattle.trial.proofs.Counting.{cubic-agrees, too_few, slack-start, slack-hit, slack-miss, slack-few}
use Rattle.trial.proofs.Received.enough.Goals.{In-Some}
use Rattle.trial.proofs.Received.enough.Goals as goal

-- The point at hand.
here : (c : In-Some) (j : ℕ) → j ≡ length c.args.self.now.xs.now - (length c.loop-x.yielded + 1)
    → Point c.args.self.now.xs.now c.args.self.now.ys.now j c.in-Some.x.now c.in-Some.y.now
    × (length c.loop-x.yielded < length c.args.self.now.xs.now)
here c =
    let s = c.args.self.now in
    let k = c.loop-x in
    back-turn s.xs.now s.ys.now s.lengths k.yielded c.into_iter-x-iterator.result _ c.next.new.self _ (cc) (cc) k.yielded_by
    (c.in-Some.x, c.in-Some.y) c.in-Some.is c.next.ensures.steps

pub returns-then-self : goal.returns-then-self
returns-then-self c = too_few _ _ _ _ _ (omega arith)

pub loop-x-init : goal.loop-x-init
loop-x-init c = slack-start _ _ _ _ _ (omega arith) _ (omega arith)

pub is_cubic_value-requires : goal.is_cubic_value-requires
is_cubic_value-requires c =
    let s = c.args.self.now in
    let turn = here (goal.at.is_cubic_value-requires c).In-Some _ refl in
    (c.requires, rw turn.0.x_is (residue-at _ s.xs.now s.points _ turn.0.inside))

pub returns-then-slack-eq0 : goal.returns-then-slack-eq0
returns-then-slack-eq0 c =
    let s = c.args.self.now in
    let k = c.loop-x in
    let turn = here (goal.at.returns-then-slack-eq0 c).In-Some _ refl in
    slack-few _ c.args.f _ _ s.need _ _ k.slack _ _ s.lengths k.invariant turn.0 (omega (arith, turn.1))
    (cubic-agrees _ c.args.f (omega arith) _ _ _ c.is_cubic_value.ensures ∙ c.if-not-is_cubic_value.true) c.if-slack-eq0.true

pub loop-x-preserved-then-not-is_cubic_value : goal.loop-x-preserved-then-not-is_cubic_value
loop-x-preserved-then-not-is_cubic_value c =
    let s = c.args.self.now in
    let k = c.loop-x in
    let next = length_push k.yielded (c.in-Some.x, c.in-Some.y) in
    let turn = here (goal.at.loop-x-preserved-then-not-is_cubic_value c).In-Some _ (omega (arith, next)) in
    slack-miss _ c.args.f _ _ s.need _ _ k.slack _ _ s.lengths k.invariant turn.0 (omega (arith, turn.1))
    (cubic-agrees _ c.args.f (omega arith) _ _ _ c.is_cubic_value.ensures ∙ c.if-not-is_cubic_value.true) c.if-slack-eq0.false

pub loop-x-preserved : goal.loop-x-preserved
loop-x-preserved c =
    let s = c.args.self.now in
    let k = c.loop-x in
    let next = length_push k.yielded (c.in-Some.x, c.in-Some.y) in
    let turn = here (goal.at.loop-x-preserved c).In-Some _ (omega (arith, next)) in
    slack-hit _ c.args.f _ _ s.need _ _ k.slack _ _ s.lengths k.invariant turn.0 (omega (arith, turn.1))
    (cubic-agrees _ c.args.f (omega arith) _ _ _ c.is_cubic_value.ensures ∙ c.if-not-is_cubic_value.false)
