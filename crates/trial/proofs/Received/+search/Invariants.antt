-- The measure is the number of points from place i on.
use Rattle.std.proofs.Common.{length, ◌-◌}
use Rattle.trial.proofs.Received.+search.Given as goal

abbrev pub decreases-search : goal.decreases-search
decreases-search l = length l.self.now.xs.now - l.i
