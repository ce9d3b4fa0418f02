-- The loop goes from the end: `value` is that of the coefficients from i on, and the quotient is written from place i on.
use Rattle.field.specs.Modulus.{prime_of}
use Rattle.polynomial.proofs.Schemes.{Written}
use Rattle.polynomial.proofs.divided_by_turns.Given as goal
use Rattle.polynomial.specs.Polynomial.{value}
use Rattle.std.proofs.Common.{◌≡◌, ◌<◌, drop}

abbrev pub invariant-loop-i : goal.invariant-loop-i
invariant-loop-i l =
    (l.value ≡ value (prime_of l.w) (drop l.i l.f) l.x) × (l.value < prime_of l.w) × Written (prime_of l.w) l.x l.f l.quotient l.i
