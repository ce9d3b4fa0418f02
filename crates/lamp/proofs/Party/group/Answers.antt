use Rattle.lamp.proofs.Checks.{valid-facts}
use Rattle.lamp.proofs.Party.group.Goals as goal

pub invariant_of-result : goal.invariant_of-result
invariant_of-result c = record { points = (valid-facts c.args.self.now c.requires).table }
