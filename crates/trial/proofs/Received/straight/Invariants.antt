-- The loop takes the points sent, one after the other.
use Rattle.std.proofs.Common.{length, take, ◌+◌}
use Rattle.field.specs.Modulus.{prime_of}
use Rattle.trial.specs.Search.{found}
use Rattle.trial.proofs.Arrays.{Straight}
use Rattle.trial.proofs.Received.straight.Given as goal

abbrev pub invariant-loop-x : goal.invariant-loop-x
invariant-loop-x l =
    let p = prime_of l.self.w in
    let xs = l.self.xs.now in
    let ys = l.self.ys.now in
    let t = l.fn.taken in
    Straight p l.self.need xs ys (found p l.self.need xs ys l.more 0 (take t.count t.xs) (take t.count t.ys) l.i) (l.i + length l.yielded)
    (t.count + l.more) l.all.count l.all.xs l.all.ys
