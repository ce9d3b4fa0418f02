use Rattle.field.specs.Modulus.{prime_of}
use Rattle.key_equation.proofs.Rooting.{Rooting}
use Rattle.key_equation.proofs.roots.Given as goal

abbrev pub invariant-loop-k : goal.invariant-loop-k
invariant-loop-k l = Rooting (prime_of l.w) l.xs l.out l.k
