-- F(x, y), the sum of F's terms, is the value of F's row at x and of its column at y; F(0, 0) is place 0.
use mathlib.Core.Path.{◌≡◌, refl, sym, ap, ap₂, ◌∙◌}
use mathlib.Core.List.{List, [], ◌∷◌}
use Prim.Native.Nat.{ℕ, zero, suc, ◌+◌, ◌*◌, ◌%◌, ◌<◌}
use native.Mathlib.Nat.{zero-mod, mod-mod, mod-eq_of_lt}
use native.Mathlib.Omega.{arith}
use lib.ListN.{length, take, drop, get_or}
use lib.Seq.{get_or-drop}
use Rattle.field.specs.Arithmetic.{add, mul, pow}
use Rattle.field.proofs.Ring.{add-zero, mul-zero, mul-one, mul-add, mul_comm, mul-mod, mul_assoc, mul_left_comm, add-mod, add_comm}
use Rattle.field.proofs.Ring.{pow-zero, pow-suc}
use Rattle.polynomial.specs.Polynomial.{Residues, value}
use Rattle.bivariate.specs.Bivariate.{sum, at, row, column}
use Rattle.polynomial.proofs.Division.{value-zero}
use Rattle.bivariate.proofs.Crossing.{crossing}

module _ (p : ℕ) where
  -- ---- sums
  sum_same : (n : ℕ) (f g : ℕ → ℕ) → ((i : ℕ) → f i ≡ g i) → sum p f n ≡ sum p g n
  sum_same zero f g e = refl
  sum_same (suc n) f g e = ap₂ (add p) (e zero) (sum_same n (λ i. f (suc i)) (λ i. g (suc i)) (λ i. e (suc i)))

  sum-times : (n s : ℕ) (f : ℕ → ℕ) → sum p (λ i. mul p s (f i)) n ≡ mul p s (sum p f n)
  sum-times zero s f = sym (mul-zero p s)
  sum-times (suc n) s f = ap (add p (mul p s (f zero))) (sum-times n s (λ i. f (suc i)))
      ∙ sym (mul-add p s (f zero) (sum p (λ i. f (suc i)) n))

  sum_zeros : (n : ℕ) (f : ℕ → ℕ) → ((i : ℕ) → f i ≡ 0) → sum p f n ≡ 0
  sum_zeros zero f e = refl
  sum_zeros (suc n) f e = ap₂ (add p) (e zero) (sum_zeros n (λ i. f (suc i)) (λ i. e (suc i))) ∙ add-zero p 0 ∙ zero-mod p

  zero-mul : (a : ℕ) → mul p 0 a ≡ 0
  zero-mul a = mul_comm p 0 a ∙ mul-zero p a

  -- A factor that is a power to 0 counts for nothing.
  power_zero : (c x : ℕ) → mul p c (pow p x zero) ≡ c % p
  power_zero c x = ap (mul p c) (pow-zero p x) ∙ mul-mod p c 1 ∙ mul-one p c

  -- One power more is one factor more.
  power-suc : (c x i y : ℕ) → mul p c (mul p (pow p x (suc i)) y) ≡ mul p x (mul p c (mul p (pow p x i) y))
  power-suc c x i y =
      ap (λ z. mul p c (mul p z y)) (pow-suc p x i)
      ∙ ap (mul p c) (mul_assoc p x (pow p x i) y)
      ∙ mul_left_comm p c x (mul p (pow p x i) y)

  -- ---- a value is the sum of the terms
  value-terms : (n : ℕ) (f : List ℕ) (x : ℕ) → value p (take n f) x ≡ sum p (λ i. mul p (get_or f i 0) (pow p x i)) n
  value-terms zero f x = refl
  value-terms (suc n) [] x = sym (sum_zeros (suc n) (λ i. mul p 0 (pow p x i)) (λ i. zero-mul (pow p x i)))
  value-terms (suc n) (c ∷ f) x =
      ap (λ z. add p c (mul p x z)) (value-terms n f x)
      ∙ ap (add p c) (sym (sum-times n x (λ i. mul p (get_or f i 0) (pow p x i))) ∙ sum_same n _ _ further)
      ∙ sym (ap (λ z. add p z rest) (power_zero c x) ∙ add_comm p (c % p) rest ∙ add-mod p rest c ∙ add_comm p rest c)
    where
      rest : ℕ
      rest = sum p (λ i. mul p (get_or f i 0) (pow p x (suc i))) n

      further : (i : ℕ) → mul p x (mul p (get_or f i 0) (pow p x i)) ≡ mul p (get_or f i 0) (pow p x (suc i))
      further i = sym (ap (mul p (get_or f i 0)) (pow-suc p x i) ∙ mul_left_comm p (get_or f i 0) x (pow p x i))

  -- ---- F(x, y) by its row
  pub row_at : (k n : ℕ) (F : List ℕ) (x y : ℕ) → value p (row p k n F y) x ≡ at p k n F x y
  unfolding at
  row_at zero n F x y = refl
  row_at (suc k) n F x y =
      ap₂ (add p)
      (value-terms n F y ∙ sum_same n _ _ constant)
      (ap (mul p x) (row_at k n (drop n F) x y) ∙ sym (sum-times k x (λ u. sum p (term (drop n F) u) n)) ∙ sum_same k _ _ further)
    where
      term : List ℕ → ℕ → ℕ → ℕ
      term F u v = mul p (get_or F (u * n + v) 0) (mul p (pow p x u) (pow p y v))

      constant : (v : ℕ) → mul p (get_or F v 0) (pow p y v) ≡ term F zero v
      constant v =
          let place : v ≡ zero * n + v = omega arith in
          sym (ap (mul p (get_or F v 0)) (mul_comm p (pow p x zero) (pow p y v) ∙ power_zero (pow p y v) x)
          ∙ mul-mod p (get_or F v 0) (pow p y v))
          ∙ ap (λ z. mul p (get_or F z 0) (mul p (pow p x zero) (pow p y v))) place

      next : (u v : ℕ) → mul p x (term (drop n F) u v) ≡ term F (suc u) v
      next u v =
          let place : n + (u * n + v) ≡ suc u * n + v = omega arith in
          sym (power-suc (get_or (drop n F) (u * n + v) 0) x u (pow p y v))
          ∙ ap (λ z. mul p z (mul p (pow p x (suc u)) (pow p y v))) (get_or-drop n F (u * n + v) 0 ∙ ap (λ z. get_or F z 0) place)

      further : (u : ℕ) → mul p x (sum p (term (drop n F) u) n) ≡ sum p (term F (suc u)) n
      further u = sym (sum-times n x (term (drop n F) u)) ∙ sum_same n _ _ (next u)

  -- ---- and by its column
  pub column-at : (k n : ℕ) (F : List ℕ) (x y : ℕ) → length F ≡ k * n → value p (column p k n F x) y ≡ at p k n F x y
  column-at k n F x y e = sym (crossing p k n F x y e) ∙ row_at k n F x y

  -- ---- F(0, 0) is place 0
  pub at_zero : (k n : ℕ) (F : List ℕ) → at p (suc k) (suc n) F 0 0 ≡ get_or F 0 0 % p
  at_zero k n F =
      sym (row_at (suc k) (suc n) F 0 0)
      ∙ value-zero p (value p (take (suc n) F) 0) (row p k (suc n) (drop (suc n) F) 0)
      ∙ ap (λ z. z % p) (constant F)
      ∙ mod-mod (get_or F 0 0) p
    where
      constant : (F : List ℕ) → value p (take (suc n) F) 0 ≡ get_or F 0 0 % p
      constant [] = sym (zero-mod p)
      constant (c ∷ F) = value-zero p c (take n F)

  -- Where F's numbers are residues, that very number: the secret.
  pub at-secret : (k n : ℕ) (F : List ℕ) → 0 < p → Residues p F → at p (suc k) (suc n) F 0 0 ≡ get_or F 0 0
  at-secret k n [] positive r = at_zero k n [] ∙ zero-mod p
  at-secret k n (c ∷ F) positive r = at_zero k n (c ∷ F) ∙ mod-eq_of_lt r.0
