-- `Received::straight` meets its contract: the loop goes through the points from place i on, until enough of them are taken.
use Rattle.std.proofs.Common.{◌+◌, ◌≤◌, length, ap, ◌∙◌, arith}
use Rattle.std.proofs.lemmas.List.{length_push}
use Rattle.trial.specs.Results.{result_of}
use Rattle.trial.proofs.Turns.{Point, from-turn, from-end}
use Rattle.trial.proofs.Arrays.{straight-sent, straight-unsent, straight-none, straight-all}
use Rattle.trial.proofs.Received.straight.Goals.{In-Some, in-None, in-Some+then-all-full}
use Rattle.trial.proofs.Received.straight.Goals as goal

-- The point at hand.
here : (c : In-Some)
    → Point c.args.self.now.xs.now c.args.self.now.ys.now (c.args.i + length c.loop-x.yielded) c.in-Some.x.now c.in-Some.y.now
here c =
    let s = c.args.self.now in
    let k = c.loop-x in
    from-turn s.xs.now s.ys.now s.lengths c.args.i k.yielded c.into_iter-x-iterator.result _ c.next.new.self _ (cc) (cc) (cc) k.yielded_by
    (c.in-Some.x, c.in-Some.y) c.in-Some.is c.next.ensures.steps

pub loop-x-preserved-then-y-p : goal.loop-x-preserved-then-y-p
loop-x-preserved-then-y-p c =
    let k = c.loop-x in
    let d = c.push.new.self in
    let point = here (goal.at.loop-x-preserved-then-y-p c).In-Some in
    let next = length_push k.yielded (c.in-Some.x, c.in-Some.y) in
    straight-sent _ _ _ _ _ _ _ k.all.count k.all.xs k.all.ys k.invariant _ _ point _ (omega arith) c.if-all-full.false (omega arith)
    d.count c.push.ensures.0 d.xs d.ys c.push.ensures.1 c.push.ensures.2

pub loop-x-preserved : goal.loop-x-preserved
loop-x-preserved c =
    let k = c.loop-x in
    let point = here (goal.at.loop-x-preserved c).In-Some in
    let next = length_push k.yielded (c.in-Some.x, c.in-Some.y) in
    straight-unsent _ _ _ _ _ _ _ k.all.count k.all.xs k.all.ys k.invariant _ _ point _ (omega arith) (omega arith)

pub returns-then-all-full-2 : goal.returns-then-all-full-2
returns-then-all-full-2 c =
    let s = c.args.self.now in
    let i = c.args.i in
    let k = c.loop-x in
    let end : length s.xs.now ≤ i + length k.yielded =
    elim c.match-next.branch [
      | in-None w ↦
          from-end s.xs.now s.ys.now s.lengths i k.yielded c.into_iter-x-iterator.result _ c.next.new.self _ (cc)
          (cc) (cc) k.yielded_by w.in-None.is c.next.ensures.steps
      | in-Some+then-all-full w ↦ absurd (omega (arith, w.if-all-full.true, c.if-all-full-2.true))
    ] in
    ap result_of (straight-none _ _ _ _ _ _ _ k.all.count k.all.xs k.all.ys k.invariant end c.if-all-full-2.true)

pub returns : goal.returns
returns c = c.then_some.ensures ∙ c.test.ensures ∙ ap result_of (straight-all _ _ _ _ _ _ _ _ _ _ c.loop-x.invariant (omega arith))
