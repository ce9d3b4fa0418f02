-- The loop fills the array from the front.
use Rattle.std.proofs.Common.{◌≡◌}
use Rattle.lists.specs.Tabulate.{filled}
use Rattle.recovery.proofs.Arrays.{heard_at}
use Rattle.recovery.proofs.heard_from.Given as goal

abbrev pub invariant-loop-k : goal.invariant-loop-k
invariant-loop-k l = l.list ≡ filled (heard_at l.unsent l.set l.fn.heard) 0 16 l.k
