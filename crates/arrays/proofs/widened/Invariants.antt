use Rattle.std.proofs.Common.{◌≡◌, map, take}
use Rattle.arrays.proofs.widened.Given as goal

abbrev pub invariant-loop-k : goal.invariant-loop-k
invariant-loop-k g l = take l.k l.out ≡ map g.N.Number.value (take l.k l.list)
