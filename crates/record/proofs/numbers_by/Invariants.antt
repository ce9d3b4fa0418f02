use Rattle.std.proofs.Common.{◌≡◌, map, take}
use Rattle.record.specs.Bytes.{numbers_by}
use Rattle.record.proofs.numbers_by.Given as goal

-- The first k numbers are written.
abbrev pub invariant-loop-k : goal.invariant-loop-k
invariant-loop-k g l = map g.N.Number.value (take l.k l.place-items) ≡ take l.k (numbers_by g.N.Number.WIDTH l.part)
