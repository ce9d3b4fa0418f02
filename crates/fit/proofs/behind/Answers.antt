-- `fit::behind` meets its contract.
use Rattle.std.proofs.Common.{◌-◌, length, drop, arith}
use Rattle.std.proofs.lemmas.List.{get_or-drop, get_or-take}
use Rattle.fit.proofs.Grouping.{passing-end, passing-sent, passing-unsent}
use Rattle.fit.proofs.behind.Goals.{then-y-p, else-y-p}
use Rattle.fit.proofs.behind.Goals as goal

pub loop-j-preserved : goal.loop-j-preserved
loop-j-preserved c =
    let s = c.args in
    let k = c.loop-j in
    elim c.if-y-p.branch [
      | then-y-p w ↦ rw w.more-is (passing-sent s.p s.k s.ys.now s.i _ k.more k.invariant (omega arith) _ (omega arith) c.if-more-eq0.false
          (omega (
            arith,
            w.if-y-p.true,
            get_or-drop s.i s.ys.now k.j 0,
            get_or-take (length s.ys.now - s.i) (drop s.i s.ys.now) k.j 0
                (omega arith),
          )))
      | else-y-p w ↦ rw w.more-is (passing-unsent s.p s.k s.ys.now s.i _ k.more k.invariant (omega arith) _ (omega arith)
          (omega (
            arith,
            w.if-y-p.false,
            get_or-drop s.i s.ys.now k.j 0,
            get_or-take (length s.ys.now - s.i) (drop s.i s.ys.now) k.j 0
                (omega arith),
          )))
    ]

pub returns : goal.returns
returns c =
    let s = c.args in
    let k = c.loop-j in
    passing-end s.p s.k s.ys.now s.i _ k.more k.invariant (omega arith)
