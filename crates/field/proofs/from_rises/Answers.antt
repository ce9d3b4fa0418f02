-- `field::from_rises` meets its contract: slope by slope too gives Newton's coefficients.
use Rattle.field.proofs.Slopes.{by-slopes, listed}
use Rattle.field.proofs.from_rises.Goals as goal
use Rattle.std.proofs.Common.{arith, ◌∙◌}

pub returns : goal.returns
returns c =
    by-slopes _ _ _ _ _ _ _ _ _ _ _ _ _ _ _ c.slope-b.ensures.0 c.slope.ensures.0 c.slope-c.ensures.0
    c.slope-2.ensures.0 c.slope-3.ensures.0 c.slope-d.ensures.0
    ∙ listed _ _ c.args.x c.args.rises (omega arith) (omega arith)
