-- Horner's scheme of few coefficients, as laws over plain lists.
--   scheme-few          at most four coefficients are a cubic's, with 0 behind them
--   scheme-pair         of two the value is one product and one sum, and the quotient the second
--   scheme-below        the value is a residue
--   coefficient-below   a coefficient, or the 0 behind the last, is one
use mathlib.Core.Path.{◌≡◌, refl, sym, ap, ap₂, subst, ◌∙◌}
use mathlib.Core.List.{List, [], ◌∷◌}
use Prim.Native.Nat.{ℕ, zero, suc, ◌≤◌, ◌<◌}
use native.Mathlib.Omega.{arith}
use lib.ListN.{length, get_or, replicate}
use Rattle.lists.specs.Tabulate.{pad}
use Rattle.field.proofs.Primes.{positive}
use Rattle.field.specs.Arithmetic.{add, mul, cubic_value, cubic_scheme}
use Rattle.polynomial.specs.declared.Scheme.{Scheme}
use Rattle.polynomial.specs.Polynomial.{Residues, value, quotient, scheme_of}
use Rattle.polynomial.proofs.Division.{value-lt, value-alone, value-cubic, value-zeros}
use Rattle.polynomial.proofs.Schemes.{scheme_from}

-- The four numbers of a cubic's scheme, as this one's.
abbrev pub from_four : List ℕ → Scheme
from_four g = record { value = get_or g 0 0; quotient = get_or g 1 0 ∷ get_or g 2 0 ∷ get_or g 3 0 ∷ replicate 8 0 }

module _ (p : ℕ) where
  pub scheme-below : (f : List ℕ) (x : ℕ) (r : Scheme) → 0 < p → r ≡ scheme_of p f x → r.value < p
  scheme-below f x r positive e = subst (λ (z : Scheme). z.value < p) (sym e) (value-lt p f x positive)

  pub coefficient-below : (f : List ℕ) (k : ℕ) → 0 < p → Residues p f → get_or f k 0 < p
  coefficient-below [] k h r = h
  coefficient-below (a ∷ f) zero h r = r.0
  coefficient-below (a ∷ f) (suc k) h r = coefficient-below f k h r.1

  -- ---- four coefficients, or as many with the zeros behind the last
  value-few : (f : List ℕ) (x : ℕ) → length f ≤ 4
      → cubic_value p (get_or f 0 0) (get_or f 1 0) (get_or f 2 0) (get_or f 3 0) x ≡ value p f x
  value-few [] x h = value-cubic p 0 0 0 0 x ∙ value-zeros p [] 4 x
  value-few (a ∷ []) x h = value-cubic p a 0 0 0 x ∙ value-zeros p (a ∷ []) 3 x
  value-few (a ∷ b ∷ []) x h = value-cubic p a b 0 0 x ∙ value-zeros p (a ∷ b ∷ []) 2 x
  value-few (a ∷ b ∷ c ∷ []) x h = value-cubic p a b c 0 x ∙ value-zeros p (a ∷ b ∷ c ∷ []) 1 x
  value-few (a ∷ b ∷ c ∷ d ∷ []) x h = value-cubic p a b c d x
  value-few (a ∷ b ∷ c ∷ d ∷ e ∷ f) x h = absurd (omega arith)

  -- The quotient of a cubic, in eleven places.
  abbrev three : ℕ → ℕ → ℕ → ℕ → List ℕ
  three b c d x = add p b (mul p x (add p c (mul p x d))) ∷ add p c (mul p x d) ∷ d ∷ replicate 8 0

  constant : (x : ℕ) → 0 < p → three 0 0 0 x ≡ replicate 11 0
  constant x positive =
      let none = value-alone p x 0 positive in
      ap (λ z. add p 0 (mul p x z) ∷ z ∷ replicate 9 0) none ∙ ap (λ z. z ∷ replicate 10 0) none

  quotient-few : (f : List ℕ) (x : ℕ) → 0 < p → Residues p f → length f ≤ 4
      → three (get_or f 1 0) (get_or f 2 0) (get_or f 3 0) x ≡ pad 11 (quotient p f x)
  quotient-few [] x positive r h = constant x positive
  quotient-few (a ∷ []) x positive r h = constant x positive
  quotient-few (a ∷ b ∷ []) x positive r h =
      let none = value-alone p x 0 positive in ap₂ (λ u v. add p b (mul p x u) ∷ v ∷ replicate 9 0) none none
  quotient-few (a ∷ b ∷ c ∷ []) x positive r h = refl
  quotient-few (a ∷ b ∷ c ∷ d ∷ []) x positive r h =
      ap (λ z. add p b (mul p x (add p c (mul p x z))) ∷ add p c (mul p x z) ∷ z ∷ replicate 8 0) (sym (value-alone p x d r.1.1.1.0))
  quotient-few (a ∷ b ∷ c ∷ d ∷ e ∷ f) x positive r h = absurd (omega arith)

  pub scheme-few : (f : List ℕ) (x : ℕ) (g : List ℕ) → 0 < p → Residues p f → length f ≤ 4
      → g ≡ cubic_scheme p (get_or f 0 0) (get_or f 1 0) (get_or f 2 0) (get_or f 3 0) x → from_four g ≡ scheme_of p f x
  scheme-few f x g positive r h e = ap from_four e ∙ ap₂ scheme_from (value-few f x h) (quotient-few f x positive r h)

  -- ---- two coefficients
  pub scheme-pair : (f : List ℕ) (x v : ℕ) → Residues p f → length f ≡ 2 → v ≡ add p (get_or f 0 0) (mul p x (get_or f 1 0))
      → scheme_from v (get_or f 1 0 ∷ replicate 10 0) ≡ scheme_of p f x
  scheme-pair [] x v r l e = absurd (omega arith)
  scheme-pair (a ∷ []) x v r l e = absurd (omega arith)
  scheme-pair (a ∷ b ∷ []) x v r l e =
      let top : b ≡ add p b (mul p x 0) = sym (value-alone p x b r.1.0) in
      ap₂ scheme_from (e ∙ ap (λ z. add p a (mul p x z)) top) (ap (λ z. z ∷ replicate 10 0) top)
  scheme-pair (a ∷ b ∷ c ∷ f) x v r l e = absurd (omega arith)

-- What dividing few coefficients needs.
pub ruleset few = (positive, scheme-few, scheme-pair, scheme-below)
