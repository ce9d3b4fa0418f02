-- The two primes, and which of them a number is for. No other definition writes them, and in the code the field alone does; `prime-of` of
-- proofs/Primes shows that they are primes.
--   modulus, wide_modulus   the two
--   prime_of w              that of the width w
--   width_number w          the widths as numbers; same_width v w: the test whether two are one
use Rattle.std.specs.Prelude.{Bool, ℕ, eqb}
use Rattle.field.specs.declared.Width.{Width}
use Rattle.field.specs.declared.Width.TheVariants.{Narrow, Wide}

-- "All arithmetic is modulo the prime 65,521."
abbrev pub modulus : ℕ
modulus = 65521

-- "the prime 2,147,483,647"
abbrev pub wide_modulus : ℕ
wide_modulus = 2147483647

-- The prime of a width.
abbrev pub prime_of : Width → ℕ
prime_of Narrow = modulus
prime_of Wide = wide_modulus

-- Narrow, wide.
abbrev pub width_number : Width → ℕ
width_number Narrow = 0
width_number Wide = 1

-- Two widths are one.
abbrev pub same_width : Width → Width → Bool
same_width v w = eqb (width_number v) (width_number w)
