-- The loop keeps `Trying`: the choices before have failed.
use Rattle.field.specs.Modulus.{prime_of}
use Rattle.fit.proofs.FivePairs.{Trying}
use Rattle.fit.proofs.pairs.by_pairs.Given as goal

abbrev pub invariant-loop-a : goal.invariant-loop-a
invariant-loop-a l = Trying (prime_of l.received.w) l.received.need l.received.xs.now l.received.ys.now l.pairs.xs l.pairs.ys l.a-index
