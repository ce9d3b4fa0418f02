-- The loop keeps `Grouping`: `wrong` more may be wrong.
use Rattle.field.specs.Modulus.{prime_of}
use Rattle.fit.specs.Grouping.{Grouping}
use Rattle.fit.proofs.groups.Given as goal

abbrev pub invariant-loop-wrong : goal.invariant-loop-wrong
invariant-loop-wrong l = Grouping (prime_of l.received.w) l.t l.received.need l.received.xs.now l.received.ys.now l.i l.left l.wrong
