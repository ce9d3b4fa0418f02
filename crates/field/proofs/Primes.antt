-- The two moduli are primes, each by one computed trial division.
--   prime, wide-prime   each of them; prime-of: that of a width
--   positive, within    it is above 0, and of 31 bits
use Prim.Native.Nat.{◌<◌, ◌≤◌}
use lib.Dec.{lit<, lit≤}
use Rattle.field.specs.Arithmetic.{Prime}
use Rattle.field.specs.declared.Width.{Width}
use Rattle.field.specs.declared.Width.TheVariants.{Narrow, Wide}
use Rattle.field.specs.Modulus.{modulus, wide_modulus, prime_of}
use Rattle.field.proofs.Primality.{undivided, prime-by}

pub prime : Prime modulus
unfolding undivided
prime = prime-by modulus 254 (lit≤ tt) (lit< tt) tt

pub wide-prime : Prime wide_modulus
unfolding undivided
wide-prime = prime-by wide_modulus 46339 (lit≤ tt) (lit< tt) tt

pub prime-of : (w : Width) → Prime (prime_of w)
prime-of Narrow = prime
prime-of Wide = wide-prime

pub positive : (w : Width) → 0 < prime_of w
positive Narrow = lit< tt
positive Wide = lit< tt

pub within : (w : Width) → prime_of w ≤ 2147483647
within Narrow = lit≤ tt
within Wide = lit≤ tt
