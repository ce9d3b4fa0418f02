-- The loop keeps `Passing`.
use Rattle.std.proofs.Common.{◌+◌}
use Rattle.fit.proofs.Grouping.{Passing}
use Rattle.fit.proofs.behind.Given as goal

abbrev pub invariant-loop-j : goal.invariant-loop-j
invariant-loop-j l = Passing l.p l.k l.ys l.i (l.i + l.j) l.more
