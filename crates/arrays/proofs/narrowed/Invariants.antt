use Rattle.std.proofs.Common.{◌≡◌, map, take}
use Rattle.arrays.proofs.narrowed.Given as goal

abbrev pub invariant-loop-k : goal.invariant-loop-k
invariant-loop-k g l = map g.N.Number.value (take l.k l.out) ≡ take l.k l.list
