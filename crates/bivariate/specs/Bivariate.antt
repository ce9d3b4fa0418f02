-- Polynomials F(X, Y) with k powers of X and n of Y: the k n coefficients in one list, that of X^u Y^v at place u n + v.
--   at p k n F x y       F(x, y), the sum of its terms
--   row p k n F y        F(X, y), k coefficients
--   column p k n F x     F(x, Y), n coefficients
--   LieOn                given rows and columns are those of F at given points
-- Laws: proofs/Bivariate, proofs/Terms.
use Rattle.std.specs.Prelude.{◌≡◌, cond, ℕ, zero, suc, ◌+◌, ◌*◌, eqb, length, take, drop, get_or, replicate}
use mathlib.Core.List.{List, [], ◌∷◌, zip_with, Memᴰ}
use Rattle.field.specs.Arithmetic.{add, mul, pow}
use Rattle.polynomial.specs.Polynomial.{Residues, value}

-- f 0 + f 1 + .. + f (n − 1).
abbrev pub sum : ℕ → (ℕ → ℕ) → ℕ → ℕ
sum p f zero = 0
sum p f (suc n) = add p (f zero) (sum p (λ i. f (suc i)) n)

-- F(x, y).
unfoldable pub at : ℕ → ℕ → ℕ → List ℕ → ℕ → ℕ → ℕ
at p k n F x y = sum p (λ u. sum p (λ v. mul p (get_or F (u * n + v) 0) (mul p (pow p x u) (pow p y v))) n) k

-- F(X, y): each coefficient is the value at y of a polynomial in Y.
abbrev pub row : ℕ → ℕ → ℕ → List ℕ → ℕ → List ℕ
row p zero n F y = []
row p (suc k) n F y = value p (take n F) y ∷ row p k n (drop n F) y

-- f + x g, coefficient by coefficient.
abbrev pub plus_times : ℕ → List ℕ → ℕ → List ℕ → List ℕ
plus_times p f x g = zip_with (λ c d. add p c (mul p x d)) f g

-- F(x, Y), by Horner's rule in X.
abbrev pub column : ℕ → ℕ → ℕ → List ℕ → ℕ → List ℕ
column p zero n F x = replicate n 0
column p (suc k) n F x = plus_times p (take n F) x (column p k n (drop n F) x)

-- The parties of S, of which party i has the point pt i, the row f i and the column g i, all lie on F.
pub record LieOn (p k n : ℕ) (pt : ℕ → ℕ) (S : List ℕ) (f g : ℕ → List ℕ) (F : List ℕ) : Type 0 where
  pub residues : Residues p F
  pub size : length F ≡ k * n
  pub rows : (i : ℕ) → Memᴰ i S → row p k n F (pt i) ≡ f i
  pub columns : (i : ℕ) → Memᴰ i S → column p k n F (pt i) ≡ g i

-- What a lent list of n numbers holds after a row, or a column, of F is written into it: where F has not n by n coefficients, what it held.
unfoldable pub row_in : ℕ → List ℕ → ℕ → List ℕ → List ℕ
row_in p F y out = cond (eqb (length F) (length out * length out)) (row p (length out) (length out) F y) out

unfoldable pub column_in : ℕ → List ℕ → ℕ → List ℕ → List ℕ
column_in p F x out = cond (eqb (length F) (length out * length out)) (column p (length out) (length out) F x) out
