use Rattle.field.specs.Modulus.{prime_of}
use Rattle.key_equation.proofs.Loops.{Mixing}
use Rattle.key_equation.proofs.mix.Given as goal

abbrev pub invariant-loop-i : goal.invariant-loop-i
invariant-loop-i l = Mixing (prime_of l.w) l.d l.initial.r l.g l.q l.r l.i
