use Rattle.field.specs.Modulus.{prime_of}
use Rattle.key_equation.proofs.Loops.{Raising}
use Rattle.key_equation.proofs.raise.Given as goal

abbrev pub invariant-loop-place : goal.invariant-loop-place
invariant-loop-place l = Raising (prime_of l.w) l.x l.initial.place-items l.place-items l.carried l.place-index
