-- Rows and columns of F(X, Y): their sizes, and that they cross, F(X, y) at x being F(x, Y) at y.
use mathlib.Core.Path.{◌≡◌, refl, sym, ap, ◌∙◌}
use mathlib.Core.List.{List, [], ◌∷◌, zip_with}
use Prim.Native.Nat.{ℕ, zero, suc, ◌*◌, ◌<◌}
use native.Mathlib.Nat.{zero-mod}
use native.Mathlib.Omega.{arith}
use lib.ListN.{length, take, drop, length-take, length-drop, length-replicate}
use Rattle.lists.proofs.InPlace.{length-zip_with}
use Rattle.field.specs.Arithmetic.{add, mul}
use Rattle.field.proofs.Ring.{ring, add-lt, add-zero, mul-zero}
use Rattle.polynomial.specs.Polynomial.{Poly, Residues, value}
use Rattle.bivariate.specs.Bivariate.{row, plus_times, column}
use Rattle.polynomial.proofs.Below.{zeros-residues}
use Rattle.polynomial.proofs.Division.{value-lt, value-zeros}

module _ (p : ℕ) where
  -- ---- f + x g
  regroup : (c d x y u v : ℕ)
      → add p (add p c (mul p x d)) (mul p y (add p u (mul p x v))) ≡ add p (add p c (mul p y u)) (mul p x (add p d (mul p y v)))
  regroup c d x y u v = simp ring

  length-plus_times : (f : List ℕ) (x : ℕ) (g : List ℕ) → length f ≡ length g → length (plus_times p f x g) ≡ length f
  length-plus_times f x g e = length-zip_with (λ c d. add p c (mul p x d)) f g e ∙ sym e

  plus_times-residues : (f : List ℕ) (x : ℕ) (g : List ℕ) → 0 < p → Residues p (plus_times p f x g)
  unfolding zip_with
  plus_times-residues [] x g positive = tt
  plus_times-residues (c ∷ f) x [] positive = tt
  plus_times-residues (c ∷ f) x (d ∷ g) positive = (add-lt p c (mul p x d) positive, plus_times-residues f x g positive)

  plus_times-value : (f : List ℕ) (x : ℕ) (g : List ℕ) (y : ℕ) → length f ≡ length g
      → value p (plus_times p f x g) y ≡ add p (value p f y) (mul p x (value p g y))
  unfolding zip_with
  plus_times-value [] x [] y e = simp (mul-zero, add-zero, zero-mod)
  plus_times-value [] x (d ∷ g) y e = absurd (omega arith)
  plus_times-value (c ∷ f) x [] y e = absurd (omega arith)
  plus_times-value (c ∷ f) x (d ∷ g) y e =
      ap (λ z. add p (add p c (mul p x d)) (mul p y z)) (plus_times-value f x g y (omega arith))
      ∙ regroup c d x y (value p f y) (value p g y)

  -- ---- sizes and residues of rows and columns
  pub length-row : (k n : ℕ) (F : List ℕ) (y : ℕ) → length (row p k n F y) ≡ k
  length-row zero n F y = refl
  length-row (suc k) n F y = ap suc (length-row k n (drop n F) y)

  pub front : (k n : ℕ) (F : List ℕ) → length F ≡ suc k * n → length (take n F) ≡ n
  front k n F e = length-take n F ∙ omega arith

  pub back : (k n : ℕ) (F : List ℕ) → length F ≡ suc k * n → length (drop n F) ≡ k * n
  back k n F e = length-drop n F ∙ omega arith

  pub length-column : (k n : ℕ) (F : List ℕ) (x : ℕ) → length F ≡ k * n → length (column p k n F x) ≡ n
  length-column zero n F x e = length-replicate n 0
  length-column (suc k) n F x e =
      let rest : length (column p k n (drop n F) x) ≡ n = length-column k n (drop n F) x (back k n F e) in
      length-plus_times (take n F) x (column p k n (drop n F) x) (front k n F e ∙ sym rest) ∙ front k n F e

  pub row-poly : (k n : ℕ) (F : List ℕ) (y : ℕ) → 0 < p → Poly p k (row p k n F y)
  row-poly k n F y positive = record { residues = residues k F; size = length-row k n F y }
    where
      residues : (k : ℕ) (F : List ℕ) → Residues p (row p k n F y)
      residues zero F = tt
      residues (suc k) F = (value-lt p (take n F) y positive, residues k (drop n F))

  pub column-poly : (k n : ℕ) (F : List ℕ) (x : ℕ) → 0 < p → length F ≡ k * n → Poly p n (column p k n F x)
  column-poly k n F x positive e = record { residues = residues k F; size = length-column k n F x e }
    where
      residues : (k : ℕ) (F : List ℕ) → Residues p (column p k n F x)
      residues zero F = zeros-residues p n positive
      residues (suc k) F = plus_times-residues (take n F) x (column p k n (drop n F) x) positive

  -- ---- row and column cross: F(X, y) at x is F(x, Y) at y
  pub crossing : (k n : ℕ) (F : List ℕ) (x y : ℕ) → length F ≡ k * n → value p (row p k n F y) x ≡ value p (column p k n F x) y
  crossing zero n F x y e = sym (value-zeros p [] n y)
  crossing (suc k) n F x y e =
      let rest : List ℕ = column p k n (drop n F) x in
      ap (λ z. add p (value p (take n F) y) (mul p x z)) (crossing k n (drop n F) x y (back k n F e))
      ∙ sym (plus_times-value (take n F) x rest y (front k n F e ∙ sym (length-column k n (drop n F) x (back k n F e))))
