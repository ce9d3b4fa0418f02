use Rattle.std.proofs.Common.{map}
use Rattle.writer.proofs.Loops.{Putting}
use Rattle.writer.proofs.put.Given as goal

abbrev pub invariant-loop-x : goal.invariant-loop-x
invariant-loop-x g l = Putting g.N.Number.WIDTH (map g.N.Number.value l.list) l.at l.fn.out l.out l.x-index l.place
