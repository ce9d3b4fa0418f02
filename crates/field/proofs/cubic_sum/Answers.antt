-- `field::cubic_sum` meets its contract: no step leaves 64 bits, and folding keeps the residue.
use Rattle.field.proofs.Horner.{cubic-by, narrow-fits}
use Rattle.field.proofs.cubic_sum.Goals as goal
use Rattle.std.proofs.Common.{refl, arith}

pub overflow_mul-result : goal.overflow_mul-result
overflow_mul-result c =
    let h = rw c.in-Narrow.is at c.requires in
    omega (arith, narrow-fits c.args.f c.args.x (omega arith) h.0 h.1)

pub overflow_add-result : goal.overflow_add-result
overflow_add-result c =
    let h = rw c.in-Narrow.is at c.requires in
    omega (arith, narrow-fits c.args.f c.args.x (omega arith) h.0 h.1)

pub returns-in-Narrow : goal.returns-in-Narrow
returns-in-Narrow c = cubic-by _ _ _ _ _ _ _ _ refl refl

pub returns-in-Wide : goal.returns-in-Wide
returns-in-Wide c = rw c.in-Wide.is (cubic-by _ _ _ _ _ _ _ _ c.folded.ensures.0 c.folded-in-Wide.ensures.0)
