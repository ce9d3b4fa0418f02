-- After k turns the first k lamps are there.
use Rattle.std.proofs.Common.{◌≡◌}
use Rattle.text.specs.Letters.{puts}
use Rattle.lines.specs.Lines.{names}
use Rattle.lines.proofs.put_names.Given as goal

abbrev pub invariant-loop-k : goal.invariant-loop-k
invariant-loop-k l = (l.out, l.next) ≡ puts l.initial.out l.at (names l.set l.k)
