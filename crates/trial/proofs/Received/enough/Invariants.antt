-- The loop goes from the end, and keeps `Slack` at the place that it has come to.
use Rattle.std.proofs.Common.{length, ◌-◌}
use Rattle.field.specs.Modulus.{prime_of}
use Rattle.trial.proofs.Counting.{Slack}
use Rattle.trial.proofs.Received.enough.Given as goal

abbrev pub invariant-loop-x : goal.invariant-loop-x
invariant-loop-x l =
    Slack (prime_of l.self.w) l.fn.f l.self.xs.now l.self.ys.now l.self.need (length l.self.xs.now - length l.yielded) l.slack
