-- y + (X − a) q: its length, residues and values, and that it is divided by X − a into q and the remainder y, and by nothing else.
--   raise-value, raise-value-here   the value elsewhere, and at a
--   divided-again                   the quotient and the remainder of f give f: an identity of coefficients
--   raise-divided                   and those of y + (X − a) q are q and y
use mathlib.Core.Path.{◌≡◌, refl, ap, ap₂, subst, ◌∙◌}
use mathlib.Core.List.{List, [], ◌∷◌}
use Prim.Native.Nat.{ℕ, suc, ◌%◌, ◌<◌}
use native.Mathlib.Nat.{mod-eq_of_lt}
use lib.ListN.{length}
use Rattle.field.specs.Arithmetic.{add, sub, mul}
use Rattle.field.proofs.Ring.{add_comm, add-zero, mul-zero, mul_comm, add-mod, add-sub, sub-lt, sub-add}
use Rattle.polynomial.specs.Polynomial.{Residues, value, quotient, raise}
use Rattle.polynomial.proofs.Division.{horner-step}

module _ (p : ℕ) where
  pub length-raise : (x : ℕ) (q : List ℕ) → length (raise p x q) ≡ length q
  length-raise x [] = refl
  length-raise x (y ∷ []) = refl
  length-raise x (y ∷ c ∷ q) = ap suc (length-raise x (c ∷ q))

  pub raise-residues : (x : ℕ) (q : List ℕ) → 0 < p → Residues p q → Residues p (raise p x q)
  raise-residues x [] positive r = tt
  raise-residues x (y ∷ []) positive r = r
  raise-residues x (y ∷ c ∷ q) positive r = (sub-lt p y (mul p x c) positive, raise-residues x (c ∷ q) positive r.1)

  -- ---- values: at z = x + d, the value of y + (X − x) q is y + d q(z)
  raise-value-at : (x y : ℕ) (q : List ℕ) (d : ℕ) → 0 < p
      → value p (raise p x (y ∷ q)) (add p x d) ≡ add p y (mul p d (value p q (add p x d)))
  raise-value-at x y [] d positive = simp mul-zero
  raise-value-at x y (c ∷ q) d positive =
      let z : ℕ = add p x d in
      let v : ℕ = value p q z in
      let xc : ℕ = mul p x c in
      ap (λ w. add p (sub p y xc) (mul p z w)) (raise-value-at x c q d positive)
      ∙ horner-step p (sub p y xc) x d c v
      ∙ ap (λ w. add p w (mul p d (add p c (mul p z v)))) (add_comm p (sub p y xc) xc ∙ add-sub p y xc positive)
      ∙ add_comm p (y % p) _
      ∙ add-mod p (mul p d (add p c (mul p z v))) y
      ∙ add_comm p _ y

  pub raise-value : (x y : ℕ) (q : List ℕ) (z : ℕ) → 0 < p → z < p
      → value p (raise p x (y ∷ q)) z ≡ add p y (mul p (sub p z x) (value p q z))
  raise-value x y q z positive hz =
      subst (λ w. value p (raise p x (y ∷ q)) w ≡ add p y (mul p (sub p z x) (value p q w)))
      (add-sub p z x positive ∙ mod-eq_of_lt hz)
      (raise-value-at x y q (sub p z x) positive)

  pub raise-value-here : (x y : ℕ) (q : List ℕ) → 0 < p → x < p → y < p → value p (raise p x (y ∷ q)) x ≡ y
  raise-value-here x y q positive hx hy =
      subst (λ w. value p (raise p x (y ∷ q)) w ≡ y) (add-zero p x ∙ mod-eq_of_lt hx)
      (raise-value-at x y q 0 positive
      ∙ ap (add p y) (mul_comm p 0 (value p q (add p x 0)) ∙ mul-zero p (value p q (add p x 0)))
      ∙ add-zero p y
      ∙ mod-eq_of_lt hy)

  -- ---- division by X − a, coefficient by coefficient
  -- (X − a) quotient + value is f.
  pub divided-again : (c : ℕ) (f : List ℕ) (a : ℕ) → 0 < p → Residues p (c ∷ f)
      → raise p a (value p (c ∷ f) a ∷ quotient p (c ∷ f) a) ≡ c ∷ f
  divided-again c [] a positive r = ap (λ z. z ∷ []) (ap (add p c) (mul-zero p a) ∙ add-zero p c ∙ mod-eq_of_lt r.0)
  divided-again c (d ∷ f) a positive r =
      ap₂ ◌∷◌ (sub-add p c (mul p a (value p (d ∷ f) a)) positive r.0) (divided-again d f a positive r.1)

  -- And no other quotient with any other remainder gives it.
  pub raise-divided : (a y : ℕ) (q : List ℕ) → 0 < p → a < p → Residues p (y ∷ q)
      → (value p (raise p a (y ∷ q)) a ≡ y) × (quotient p (raise p a (y ∷ q)) a ≡ q)
  raise-divided a y q positive ha r = (raise-value-here a y q positive ha r.0, again y q r.1)
    where
      again : (y : ℕ) (q : List ℕ) → Residues p q → quotient p (raise p a (y ∷ q)) a ≡ q
      again y [] r = refl
      again y (c ∷ []) r = ap (λ z. z ∷ []) (raise-value-here a c [] positive ha r.0)
      again y (c ∷ d ∷ q) r = ap₂ ◌∷◌ (raise-value-here a c (d ∷ q) positive ha r.0) (again c (d ∷ q) r.1)
