use Rattle.std.proofs.Common.{map, get_or, ◌+◌, ◌*◌}
use Rattle.lamp.proofs.Pairs.{Written}
use Rattle.lamp.proofs.reporting.every_second.Given as goal

-- The first k numbers are written.
abbrev pub invariant-loop-k : goal.invariant-loop-k
invariant-loop-k g l = Written (λ i. get_or (map g.N.Number.value l.pairs) (l.from + 2 * i) 0) l.initial.out l.out l.k
