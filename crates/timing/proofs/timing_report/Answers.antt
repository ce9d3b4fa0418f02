use Rattle.std.proofs.Common.{sym, ◌∙◌}
use Rattle.timing.proofs.Lists.{admitted-facts}
use Rattle.timing.proofs.timing_report.Goals as goal

pub report-requires : goal.report-requires
report-requires c = admitted-facts _ _ _ _ (sym c.admitted.ensures ∙ c.if-not-admitted.false)
