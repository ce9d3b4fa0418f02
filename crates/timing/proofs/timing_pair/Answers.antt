use Rattle.std.proofs.Common.{sym, ◌∙◌}
use Rattle.timing.proofs.Lists.{admitted-facts}
use Rattle.timing.proofs.timing_pair.Goals as goal

pub pair_for-said-requires : goal.pair_for-said-requires
pair_for-said-requires c = admitted-facts _ _ _ _ (sym c.admitted.ensures ∙ c.if-not-admitted.false)
