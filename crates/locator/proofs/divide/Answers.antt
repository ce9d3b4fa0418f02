-- `locator::divide` meets its contract.
use Rattle.std.proofs.Common.{arith}
use Rattle.locator.proofs.Dividing.{divided-next, divided-end}
use Rattle.locator.proofs.divide.Goals as goal

pub loop-s-preserved : goal.loop-s-preserved
loop-s-preserved c =
    let r = c.requires.n_bound in
    let h = c.next_coefficient.ensures in
    divided-next _ _ _ _ _ r.1 r.2 r.0 _ _ _ c.loop-s.invariant (omega arith) _ h.0 _ h.2 h.3

pub returns : goal.returns
returns c =
    let r = c.requires.n_bound in
    divided-end _ _ _ _ _ r.1 r.2 r.0 _ _ _ c.loop-s.invariant (omega arith)
