-- `locator::next_coefficient` meets its contract.
use Rattle.std.proofs.Common.{◌∙◌}
use Rattle.field.proofs.Ring.{add_nothing}
use Rattle.locator.proofs.next_coefficient.Goals as goal

pub returns : goal.returns
returns c =
    let h = c.mul_add-h.ensures in
    let e = c.less_times.ensures in
    (h.0 ∙ add_nothing _ _ _, h.1, e.0, e.1)
