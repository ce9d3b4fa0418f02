-- The loop keeps `Gathering`.
use Rattle.std.proofs.Common.{length}
use Rattle.fit.proofs.Gathering.{Gathering}
use Rattle.fit.proofs.first_sent.Given as goal

abbrev pub invariant-loop-x : goal.invariant-loop-x
invariant-loop-x l = Gathering l.p (length l.initial.px) l.xs l.ys l.px l.py l.d (length l.yielded)
