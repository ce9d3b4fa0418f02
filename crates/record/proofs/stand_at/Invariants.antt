use Rattle.std.proofs.Common.{◌≡◌, ◌+◌, ◌*◌, drop}
use Rattle.record.specs.Bytes.{stand_at}
use Rattle.record.proofs.stand_at.Given as goal

-- What is left to compare decides.
abbrev pub invariant-loop-k : goal.invariant-loop-k
invariant-loop-k l = stand_at l.bytes (l.at + 2 * l.k) (drop l.k l.list) ≡ stand_at l.bytes l.at l.list
