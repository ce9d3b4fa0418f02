use mathlib.Core.Path.{◌≡◌}
use lib.ListN.{length}
use Rattle.field.specs.Modulus.{prime_of}
use Rattle.consistency.proofs.Reports.{report_to}
use Rattle.consistency.proofs.Dealt.confirmed.Given as goal

abbrev pub invariant-loop-k : goal.invariant-loop-k
invariant-loop-k l =
    l.bits ≡ report_to (prime_of l.self.w) l.self.table.now l.self.i l.self.row l.self.column l.firsts l.seconds (length l.yielded)
