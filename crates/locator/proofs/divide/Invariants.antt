-- The loop keeps `Divided`.
use Rattle.field.specs.Modulus.{prime_of}
use Rattle.locator.proofs.Dividing.{Divided}
use Rattle.locator.proofs.divide.Given as goal

abbrev pub invariant-loop-s : goal.invariant-loop-s
invariant-loop-s l = Divided (prime_of l.w) l.inverse l.e l.n l.initial.q l.f l.q l.s
