-- What a key equation carries of the polynomial f through its first points.
use Prim.Native.Nat.{◌+◌}
use Rattle.field.specs.Modulus.{prime_of}
use Rattle.field.proofs.Primes.{prime-of}
use Rattle.polynomial.specs.Polynomial.{Residues}
use Rattle.key_equation.specs.Solving.{Through}
use Rattle.key_equation.specs.declared.KeyEquation.{KeyEquation}
use Rattle.key_equation.proofs.Starting.{start-residues, start-through}

module _ (e : KeyEquation) where
  pub f-residues : Residues (prime_of e.w) e.f
  f-residues = start-residues _ (prime-of e.w) e.t e.degree e.xs.now e.ys.now e.points e.values e.lengths e.enough e.f e.through

  pub f-through : Through (prime_of e.w) e.xs.now e.ys.now (e.t + 1) e.f
  f-through = start-through _ (prime-of e.w) e.t e.degree e.xs.now e.ys.now e.points e.values e.lengths e.enough e.f e.through
