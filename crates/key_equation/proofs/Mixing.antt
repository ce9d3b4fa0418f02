-- d R − g Q: length, residues, values, and its top, which is that of R times d where Q is shorter.
--   value-split, length-tail, get_or-tail                  a list by its constant and the rest
--   length-mixed, mixed-residues, value-mixed, mixed-top   of d R − g Q
use mathlib.Core.Path.{◌≡◌, refl, sym, ap, ap₂, ◌∙◌}
use mathlib.Core.List.{List, [], ◌∷◌, tail}
use Prim.Native.Nat.{ℕ, zero, suc, ◌-◌, ◌<◌, ◌≤◌}
use native.Mathlib.Nat.{zero-mod}
use native.Mathlib.Omega.{arith}
use lib.ListN.{length, get_or}
use Rattle.field.specs.Arithmetic.{add, sub, mul, neg}
use Rattle.field.proofs.Ring.{ring, add-zero, mul-zero, mul-residue, sub-lt, sub-none, add-mul-neg}
use Rattle.polynomial.specs.Polynomial.{Residues, value}
use Rattle.key_equation.specs.Solving.{mixed}

pub length-tail : (Q : List ℕ) → length (tail Q) ≡ length Q - 1
length-tail [] = refl
length-tail (c ∷ Q) = omega arith

pub get_or-tail : (Q : List ℕ) (j : ℕ) → get_or (tail Q) j 0 ≡ get_or Q (suc j) 0
get_or-tail [] j = refl
get_or-tail (c ∷ Q) j = refl

module _ (p : ℕ) where
  -- The value by the constant and the rest.
  pub value-split : (Q : List ℕ) (x : ℕ) → value p Q x ≡ add p (get_or Q 0 0) (mul p x (value p (tail Q) x))
  value-split [] x = sym (ap (add p 0) (mul-zero p x) ∙ add-zero p 0 ∙ zero-mod p)
  value-split (c ∷ Q) x = refl

  pub length-mixed : (d : ℕ) (R : List ℕ) (g : ℕ) (Q : List ℕ) → length (mixed p d R g Q) ≡ length R
  length-mixed d [] g Q = refl
  length-mixed d (r ∷ R) g Q = ap suc (length-mixed d R g (tail Q))

  pub mixed-residues : (d : ℕ) (R : List ℕ) (g : ℕ) (Q : List ℕ) → 0 < p → Residues p (mixed p d R g Q)
  mixed-residues d [] g Q positive = tt
  mixed-residues d (r ∷ R) g Q positive = (sub-lt p (mul p d r) (mul p g (get_or Q 0 0)) positive, mixed-residues d R g (tail Q) positive)

  by-sums : (d r n q x v u : ℕ)
      → add p (add p (mul p d r) (mul p n q)) (mul p x (add p (mul p d v) (mul p n u)))
      ≡ add p (mul p d (add p r (mul p x v))) (mul p n (add p q (mul p x u)))
  by-sums d r n q x v u = simp ring

  -- Differences are sums with the opposite of g.
  mixed-step : (d r g q x v u : ℕ) → 0 < p
      → add p (sub p (mul p d r) (mul p g q)) (mul p x (sub p (mul p d v) (mul p g u)))
      ≡ sub p (mul p d (add p r (mul p x v))) (mul p g (add p q (mul p x u)))
  mixed-step d r g q x v u positive =
      ap₂ (λ a b. add p a (mul p x b)) (sym (add-mul-neg p (mul p d r) g q positive)) (sym (add-mul-neg p (mul p d v) g u positive))
      ∙ by-sums d r (neg p g) q x v u
      ∙ add-mul-neg p (mul p d (add p r (mul p x v))) g (add p q (mul p x u)) positive

  pub value-mixed : (d : ℕ) (R : List ℕ) (g : ℕ) (Q : List ℕ) (x : ℕ) → 0 < p → length Q ≤ length R
      → value p (mixed p d R g Q) x ≡ sub p (mul p d (value p R x)) (mul p g (value p Q x))
  value-mixed d [] g [] x positive h =
      sym (ap₂ (sub p) (mul-zero p d) (mul-zero p g) ∙ sub-none p 0 ∙ zero-mod p)
  value-mixed d [] g (c ∷ Q) x positive h = absurd (omega arith)
  value-mixed d (r ∷ R) g Q x positive h =
      ap (λ z. add p (sub p (mul p d r) (mul p g (get_or Q 0 0))) (mul p x z))
      (value-mixed d R g (tail Q) x positive (omega (arith, length-tail Q)))
      ∙ mixed-step d r g (get_or Q 0 0) x (value p R x) (value p (tail Q) x) positive
      ∙ ap (λ z. sub p (mul p d (value p (r ∷ R) x)) (mul p g z)) (sym (value-split Q x))

  -- Where Q is shorter the top is that of R, d times.
  pub mixed-top : (d : ℕ) (R : List ℕ) (g : ℕ) (Q : List ℕ) (j : ℕ) → length Q ≤ j → j < length R
      → get_or (mixed p d R g Q) j 0 ≡ mul p d (get_or R j 0)
  mixed-top d [] g Q j h l = absurd (omega arith)
  mixed-top d (r ∷ R) g [] zero h l = ap (sub p (mul p d r)) (mul-zero p g) ∙ sub-none p (mul p d r) ∙ mul-residue p d r
  mixed-top d (r ∷ R) g (c ∷ Q) zero h l = absurd (omega arith)
  mixed-top d (r ∷ R) g Q (suc j) h l = mixed-top d R g (tail Q) j (omega (arith, length-tail Q)) (omega arith)
