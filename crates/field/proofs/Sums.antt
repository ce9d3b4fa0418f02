-- Horner's sums fit 64 bits while at most four coefficients come in.
--   residue-sum    a residue is a sum of one coefficient
--   before-fourth  a sum of at most three has room for one more
--   narrow_next, wide-next   a coefficient more
use Prim.Native.Nat.{ℕ, zero, suc, ◌+◌, ◌*◌, ◌/◌, ◌<◌, ◌≤◌}
use native.Mathlib.Nat.{mul-le-mul}
use native.Mathlib.Omega.{arith}
use Rattle.field.specs.declared.Width.{Width}
use Rattle.field.specs.declared.Width.TheVariants.{Narrow, Wide}
use Rattle.field.specs.Modulus.{prime_of}
use Rattle.field.specs.Sums.{sum_below}

pub residue-sum : (w : Width) (v : ℕ) → v < prime_of w → v < sum_below w 1
residue-sum Narrow v h = omega arith
residue-sum Wide v h = omega arith

pub before-fourth : (w : Width) (k v : ℕ) → k ≤ 3 → v < sum_below w k → v < sum_below w 3
before-fourth Narrow zero v h l = omega arith
before-fourth Wide zero v h l = omega arith
before-fourth Narrow (suc zero) v h l = omega arith
before-fourth Wide (suc zero) v h l = omega arith
before-fourth Narrow (suc (suc zero)) v h l = omega arith
before-fourth Wide (suc (suc zero)) v h l = omega arith
before-fourth Narrow (suc (suc (suc zero))) v h l = l
before-fourth Wide (suc (suc (suc zero))) v h l = l
before-fourth Narrow (suc (suc (suc (suc k)))) v h l = absurd (omega arith)
before-fourth Wide (suc (suc (suc (suc k)))) v h l = absurd (omega arith)

-- What comes in is at most 65,520, and is multiplied by no more.
pub narrow_next : (x v c k : ℕ) → x ≤ 65520 → c ≤ 65520 → v < sum_below Narrow k → x * v + c < sum_below Narrow (suc k)
narrow_next x v c k hx hc hv = omega (arith, mul-le-mul {n₁ = x} {m₁ = v} {n₂ = 65520} {m₂ = v} hx (omega arith))

pub wide-next : (x v c k r : ℕ) → x ≤ 2147483646 → c ≤ 2147483646 → v < sum_below Wide k
    → r ≤ (x * v + c) / 2147483648 + 2147483647 → r < sum_below Wide (suc k)
wide-next x v c k r hx hc hv hr = omega (arith, mul-le-mul {n₁ = x} {m₁ = v} {n₂ = 2147483646} {m₂ = v} hx (omega arith))
