-- What solving gives: the second solution for all points, beside a first one.
--   Solved p t xs ys r   r holds, in front of its arrays, the numerator and the locator of such a second solution, and the locator's degree
-- Laws: locator/proofs/Locating.
use Rattle.std.specs.Prelude.{List, ℕ, suc, ◌+◌, length, take}
use Rattle.key_equation.specs.declared.Located.{Located}
use Rattle.key_equation.specs.Solving.{Solutions}

-- The second solution of a pair for all points, in front of the arrays.
pub record Solved (p t : ℕ) (xs ys : List ℕ) (r : Located) : Type 0 where
  pub a : ℕ
  pub first_numerator : List ℕ
  pub first_locator : List ℕ
  pub pair :
      Solutions p t xs ys (length xs) a r.degree first_numerator first_locator (take (suc (r.degree + t)) r.numerator)
      (take (suc r.degree) r.locator)
