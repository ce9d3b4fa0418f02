use Rattle.std.proofs.Common.{sym, ◌∙◌}
use Rattle.record.proofs.Loops.{stand-next, stand-no, stand-end}
use Rattle.record.proofs.stand_at.Goals as goal

pub returns-then-at-x : goal.returns-then-at-x
returns-then-at-x c =
    let a = c.args in
    sym (stand-no a.bytes.now a.at a.list.now c.loop-k.k c.loop-k-test.true (λ e. c.if-at-x.true (c.at.ensures ∙ e)))
    ∙ c.loop-k.invariant

pub loop-k-preserved : goal.loop-k-preserved
loop-k-preserved c =
    let a = c.args in
    stand-next a.bytes.now a.at a.list.now c.loop-k.k c.loop-k-test.true (sym c.at.ensures ∙ c.if-at-x.false)
    ∙ c.loop-k.invariant

pub returns : goal.returns
returns c =
    let a = c.args in
    sym (stand-end a.bytes.now a.at a.list.now c.loop-k.k c.loop-k-test.false) ∙ c.loop-k.invariant
