-- `field::slope` meets its contract: the inverse of 1 is 1.
use Rattle.field.proofs.Primes.{prime-of}
use Rattle.field.proofs.Slopes.{over-one}
use Rattle.field.proofs.slope.Goals as goal
use Rattle.std.proofs.Common.{sym, ◌∙◌}

pub returns-then-run-eq1 : goal.returns-then-run-eq1
returns-then-run-eq1 c =
    let rise = c.difference-rise.ensures in
    (rise.0 ∙ over-one _ _ _ _ (prime-of c.args.w).two (sym c.difference-run.ensures.0 ∙ c.if-run-eq1.true), rise.1)
