-- Quotients modulo a prime: the inverse of a product and of its factors, a factor above and below, differences over one denominator.
use Prim.Native.Nat.{ℕ, ◌%◌, ◌<◌}
use mathlib.Core.Path.{◌≡◌, sym, ap, ap₂, ◌∙◌}
use mathlib.Core.Logic.{⊎_elim}
use native.Mathlib.Nat.{mod-eq_of_lt, eq-zero-or-pos}
use native.Mathlib.Omega.{arith}
use Rattle.field.specs.Arithmetic.{Prime, sub, mul, inv}
use Rattle.field.proofs.Remainders.{remainders}
use Rattle.field.proofs.Ring.{mul_comm, mul_assoc, mul-zero, mul-one, mul-mod, mul-lt, mul-residue, sub-mul}
use Rattle.field.proofs.Inverse.{inv-zero, inv-lt, inv_unique, mul-inv, mul-zero-cases}

-- ---- factors in another order
module _ (p a b c : ℕ) where
  last-two : mul p (mul p a b) c ≡ mul p (mul p a c) b
  unfolding mul
  last-two = simp remainders (ap (λ (n : ℕ). n % p) (omega arith))

  swap-middle : (d : ℕ) → mul p (mul p a b) (mul p c d) ≡ mul p (mul p a c) (mul p b d)
  unfolding mul
  swap-middle d = simp remainders (ap (λ (n : ℕ). n % p) (omega arith))

  sorted : (d : ℕ) → mul p (mul p a (mul p c d)) b ≡ mul p (mul p b c) (mul p a d)
  unfolding mul
  sorted d = simp remainders (ap (λ (n : ℕ). n % p) (omega arith))

-- A product with a factor 0.
zero-mul : (p a b : ℕ) → a % p ≡ 0 → mul p a b ≡ 0
zero-mul p a b e = mul_comm p a b ∙ sym (mul-mod p b a) ∙ ap (mul p b) e ∙ mul-zero p b

-- A product that is not 0 has no factor 0.
pub unit_left : (p a b : ℕ) → (mul p a b % p ≡ 0 → ⊥) → a % p ≡ 0 → ⊥
unit_left p a b h z = h (mul-residue p a b ∙ zero-mul p a b z)

pub unit-right : (p a b : ℕ) → (mul p a b % p ≡ 0 → ⊥) → b % p ≡ 0 → ⊥
unit-right p a b h z = h (mul-residue p a b ∙ mul_comm p a b ∙ zero-mul p b a z)

module _ (p : ℕ) (P : Prime p) where
  positive : 0 < p
  positive = omega (arith, P.two)

  inv-mul-units : (a b : ℕ) → 0 < a % p → 0 < b % p → inv p (mul p a b) ≡ mul p (inv p a) (inv p b)
  inv-mul-units a b ha hb =
      let unit : mul p a b % p ≡ 0 → ⊥ =
      λ z. ⊎_elim (λ e. omega arith) (λ e. omega arith) (mul-zero-cases p P a b (sym (mul-residue p a b) ∙ z)) in
      inv_unique p (mul p a b) _ _ (inv-lt p P _) (mul-lt p _ _ positive) (mul-inv p P _ unit)
      (swap-middle p a b (inv p a) (inv p b)
      ∙ ap₂ (mul p) (mul-inv p P a (λ z. omega arith)) (mul-inv p P b (λ z. omega arith))
      ∙ mul-one p 1
      ∙ mod-eq_of_lt (omega (arith, P.two)))

  -- The inverse of a product, also of one that is 0.
  pub inv-mul : (a b : ℕ) → inv p (mul p a b) ≡ mul p (inv p a) (inv p b)
  inv-mul a b =
      let second : b % p ≡ 0 → inv p (mul p a b) ≡ mul p (inv p a) (inv p b) =
      λ z. ap (inv p) (mul_comm p a b) ∙ none b a z ∙ mul_comm p (inv p b) (inv p a) in
      ⊎_elim (none a b) (λ ha. ⊎_elim second (inv-mul-units a b ha) (eq-zero-or-pos (b % p))) (eq-zero-or-pos (a % p))
    where
      none : (a b : ℕ) → a % p ≡ 0 → inv p (mul p a b) ≡ mul p (inv p a) (inv p b)
      none a b z =
          inv-zero p (mul p a b) (mul-residue p a b ∙ zero-mul p a b z)
          ∙ sym (ap (λ (i : ℕ). mul p i (inv p b)) (inv-zero p a z) ∙ mul_comm p 0 (inv p b) ∙ mul-zero p (inv p b))

  -- The inverse of one factor, by that of the product.
  pub inv-factor : (a b : ℕ) → (b % p ≡ 0 → ⊥) → mul p (inv p (mul p a b)) b ≡ inv p a
  inv-factor a b h =
      ap (λ (i : ℕ). mul p i b) (inv-mul a b)
      ∙ mul_assoc p (inv p a) (inv p b) b
      ∙ ap (mul p (inv p a)) (mul_comm p (inv p b) b ∙ mul-inv p P b h)
      ∙ mul-one p (inv p a)
      ∙ mod-eq_of_lt (inv-lt p P a)

  -- A factor above and below.
  pub over-factor : (a u k : ℕ) → (k % p ≡ 0 → ⊥) → mul p (mul p a k) (inv p (mul p u k)) ≡ mul p a (inv p u)
  over-factor a u k h =
      ap (mul p (mul p a k)) (inv-mul u k)
      ∙ swap-middle p a k (inv p u) (inv p k)
      ∙ ap (mul p (mul p a (inv p u))) (mul-inv p P k h)
      ∙ mul-one p _
      ∙ mul-residue p a (inv p u)

  -- A quotient divided once more.
  over-over : (a u w : ℕ) → mul p (mul p a (inv p u)) (inv p w) ≡ mul p a (inv p (mul p u w))
  over-over a u w = mul_assoc p a (inv p u) (inv p w) ∙ ap (mul p a) (sym (inv-mul u w))

  -- A difference of quotients, divided: one quotient.
  pub one-quotient : (a u b v w : ℕ) → (u % p ≡ 0 → ⊥) → (v % p ≡ 0 → ⊥)
      → mul p (sub p (mul p a (inv p u)) (mul p b (inv p v))) (inv p w)
      ≡ mul p (sub p (mul p a v) (mul p b u)) (inv p (mul p (mul p u w) v))
  one-quotient a u b v w hu hv =
      let left : mul p a (inv p u) ≡ mul p (mul p a v) (inv p (mul p u v)) = sym (over-factor a u v hv) in
      let right : mul p b (inv p v) ≡ mul p (mul p b u) (inv p (mul p u v)) =
      sym (ap (λ (n : ℕ). mul p (mul p b u) (inv p n)) (mul_comm p u v) ∙ over-factor b v u hu) in
      ap (λ (n : ℕ). mul p n (inv p w)) (ap₂ (sub p) left right ∙ sym (sub-mul p (mul p a v) (mul p b u) _ positive))
      ∙ over-over _ (mul p u v) w
      ∙ ap (λ (n : ℕ). mul p (sub p (mul p a v) (mul p b u)) (inv p n)) (last-two p u v w)

  -- The same where both denominators have a factor k.
  pub one-quotient-common : (a u b v k w : ℕ) → (u % p ≡ 0 → ⊥) → (v % p ≡ 0 → ⊥)
      → mul p (sub p (mul p a (inv p (mul p u k))) (mul p b (inv p (mul p v k)))) (inv p w)
      ≡ mul p (sub p (mul p a v) (mul p b u)) (inv p (mul p (mul p v k) (mul p u w)))
  one-quotient-common a u b v k w hu hv =
      ap (λ (n : ℕ). mul p n (inv p w))
      (ap₂ (sub p) (sym (over-over a u k)) (sym (over-over b v k)) ∙ sym (sub-mul p _ _ (inv p k) positive))
      ∙ over-over _ k w
      ∙ one-quotient a u b v (mul p k w) hu hv
      ∙ ap (λ (n : ℕ). mul p (sub p (mul p a v) (mul p b u)) (inv p n)) (sorted p u v k w)
