-- What a lent list holds after a polynomial is written into it: the polynomial where the sizes fit, and otherwise what it held.
use mathlib.Core.Path.{◌≡◌}
use mathlib.Core.List.{List}
use Prim.Native.Nat.{ℕ, ◌*◌}
use lib.ListN.{length}
use borrow.Author.Tests.{eq-eqb, ne_eqb}
use Rattle.bivariate.specs.Bivariate.{row, column, row_in, column_in}

module _ (p : ℕ) (F : List ℕ) (x : ℕ) (out : List ℕ) where
  pub row-in : length F ≡ length out * length out → row_in p F x out ≡ row p (length out) (length out) F x
  unfolding row_in
  row-in e = rw (eq-eqb (length F) (length out * length out) e)

  pub row_out : (length F ≡ length out * length out → ⊥) → row_in p F x out ≡ out
  unfolding row_in
  row_out d = rw (ne_eqb (length F) (length out * length out) d)

  pub column-in : length F ≡ length out * length out → column_in p F x out ≡ column p (length out) (length out) F x
  unfolding column_in
  column-in e = rw (eq-eqb (length F) (length out * length out) e)

  pub column-out : (length F ≡ length out * length out → ⊥) → column_in p F x out ≡ out
  unfolding column_in
  column-out d = rw (ne_eqb (length F) (length out * length out) d)
