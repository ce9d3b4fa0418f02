use Rattle.std.proofs.Common.{◌≡◌, map, take}
use Rattle.arrays.proofs.Number.lent.Given as goal

abbrev pub invariant-loop-k : goal.invariant-loop-k
invariant-loop-k g l = take l.k l.part ≡ map g.Self.Number.value (take l.k l.list)
