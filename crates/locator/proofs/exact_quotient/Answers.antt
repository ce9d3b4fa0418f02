-- `locator::exact_quotient` meets its contract.
use Rattle.std.proofs.Common.{ap, ◌∙◌}
use Rattle.std.specs.Bool.{then_some}
use Rattle.locator.proofs.Judging.{exact-given}
use Rattle.locator.proofs.exact_quotient.Goals as goal

pub returns : goal.returns
returns c =
    let e = c.divide-f.ensures in
    c.then_some.ensures ∙ ap (λ b. then_some b c.divide-f.result) c.all_zero.ensures ∙ exact-given _ _ _ _ _ _ e.1 _ e.0
