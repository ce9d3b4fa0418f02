use Rattle.tables.proofs.Entries.{Rising}
use Rattle.tables.proofs.good_entries.Given as goal

abbrev pub invariant-loop-i : goal.invariant-loop-i
invariant-loop-i l = Rising l.p l.table l.low (l.i)
