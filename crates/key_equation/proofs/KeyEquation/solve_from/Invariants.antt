use Prim.Native.Nat.{◌+◌}
use lib.ListN.{length}
use Rattle.field.specs.Modulus.{prime_of}
use Rattle.key_equation.specs.Partial.{Solving}
use Rattle.key_equation.proofs.KeyEquation.solve_from.Given as goal

abbrev pub invariant-loop-x : goal.invariant-loop-x
invariant-loop-x l = Solving (prime_of l.self.w) l.self.t l.self.xs.now l.self.ys.now (l.k + length l.yielded) l.first l.second
