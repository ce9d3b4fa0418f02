use Prim.Native.Nat.{◌+◌}
use lib.ListN.{length}
use Rattle.field.specs.Modulus.{prime_of}
use Rattle.key_equation.specs.Solving.{Through}
use Rattle.key_equation.proofs.KeyEquation.agreeing.Given as goal

abbrev pub invariant-loop-n : goal.invariant-loop-n
invariant-loop-n l = Through (prime_of l.self.w) l.self.xs.now l.self.ys.now (l.self.t + 1 + length l.yielded) l.self.f
