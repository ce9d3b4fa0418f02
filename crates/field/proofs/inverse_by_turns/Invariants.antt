-- Each turn keeps that a t is d, and makes d smaller.
use Rattle.field.proofs.Inverse.{Turn}
use Rattle.field.proofs.inverse_by_turns.Given as goal
use Rattle.field.specs.Modulus.{prime_of}

abbrev pub invariant-loop-d : goal.invariant-loop-d
invariant-loop-d l = Turn (prime_of l.w) l.a l.d l.t

abbrev pub decreases-loop-d : goal.decreases-loop-d
decreases-loop-d l = l.d
