-- `fit::first_sent` meets its contract.
use Rattle.std.proofs.Common.{length, arith}
use Rattle.std.proofs.lemmas.List.{length_push}
use Rattle.trial.proofs.Turns.{Point, along-turn, along-end}
use Rattle.fit.proofs.Gathering.{gathering-end, gathering-done, gathering-sent, gathering-unsent}
use Rattle.fit.proofs.first_sent.Goals.{In-Some}
use Rattle.fit.proofs.first_sent.Goals as goal

-- The point at hand.
here : (c : In-Some) → Point c.args.xs.now c.args.ys.now (length c.loop-x.yielded) c.in-Some.x.now c.in-Some.y.now
here c =
    let s = c.args in
    let k = c.loop-x in
    along-turn s.xs.now s.ys.now c.requires.xs_len.0 k.yielded c.into_iter-x-iterator.result _ c.next.new.self _ (cc) (cc) k.yielded_by
    (c.in-Some.x, c.in-Some.y) c.in-Some.is c.next.ensures.steps

pub returns-then-d-px : goal.returns-then-d-px
returns-then-d-px c =
    let k = c.loop-x in
    (gathering-done _ _ _ _ _ _ k.d _ k.invariant (omega arith), k.invariant.width_x, k.invariant.width_y)

pub loop-x-preserved-then-y-p : goal.loop-x-preserved-then-y-p
loop-x-preserved-then-y-p c =
    let k = c.loop-x in
    let point = here (goal.at.loop-x-preserved-then-y-p c).In-Some in
    gathering-sent _ _ _ _ _ _ k.d _ k.invariant c.requires.xs_len.0 _ _ point _ (length_push k.yielded (c.in-Some.x, c.in-Some.y))
    (omega arith) (omega arith)

pub loop-x-preserved : goal.loop-x-preserved
loop-x-preserved c =
    let k = c.loop-x in
    let point = here (goal.at.loop-x-preserved c).In-Some in
    gathering-unsent _ _ _ _ _ _ k.d _ k.invariant c.requires.xs_len.0 _ _ point _ (length_push k.yielded (c.in-Some.x, c.in-Some.y))
    (omega arith)

pub returns : goal.returns
returns c =
    let s = c.args in
    let k = c.loop-x in
    let end = along-end s.xs.now s.ys.now (c.requires.xs_len.0) k.yielded c.into_iter-x-iterator.result _ c.next.new.self _ (cc) (cc)
    k.yielded_by
    c.in-None.is c.next.ensures.steps in (
      gathering-done _ _ _ _ _ _ k.d _ k.invariant (gathering-end _ _ _ _ _ _ k.d _ k.invariant c.requires.xs_len.1 (omega arith)),
      k.invariant.width_x,
      k.invariant.width_y,
    )
