-- The loop zips in place.
use Rattle.field.specs.Arithmetic.{sub, mul}
use Rattle.field.specs.Modulus.{prime_of}
use Rattle.polynomial.specs.Polynomial.{Residues}
use Rattle.lists.proofs.InPlace.{Zipping}
use Rattle.locator.proofs.less_times.Given as goal

abbrev pub invariant-loop-i : goal.invariant-loop-i
invariant-loop-i l =
    Zipping (λ d c. sub (prime_of l.w) c (mul (prime_of l.w) l.h d)) l.e l.initial.r l.r l.i × Residues (prime_of l.w) l.r
