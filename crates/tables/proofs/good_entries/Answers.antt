use Rattle.std.proofs.Common.{arith}
use Rattle.tables.proofs.Entries.{lower}
use Rattle.tables.proofs.good_entries.Goals as goal

pub loop-i-preserved-then-x-low : goal.loop-i-preserved-then-x-low
loop-i-preserved-then-x-low c =
    let k = c.loop-i in
    lower c.args.p c.args.table.now k.low k.i k.invariant (omega arith) c.if-x-low.true
