-- The numbers of a column one by one: each is the value of coefficients that stand n apart.
--   spaced n F at k   k coefficients of F that stand n apart, the first at place `at`
--   column-one, column-two, column-three, column-four   the numbers of a column of so many
use mathlib.Core.Path.{◌≡◌, refl, sym, ap, ap₂, ◌∙◌}
use mathlib.Core.List.{List, [], ◌∷◌, zip_with}
use Prim.Native.Nat.{ℕ, zero, suc, ◌+◌, ◌*◌, ◌<◌}
use native.Mathlib.Omega.{arith}
use lib.ListN.{length, take, drop, get_or}
use lib.Seq.{get_or-take, get_or-drop}
use Rattle.lists.proofs.Padded.{get_or-zeros}
use Rattle.field.specs.Arithmetic.{add, mul}
use Rattle.polynomial.specs.Polynomial.{value}
use Rattle.bivariate.specs.Bivariate.{column}
use Rattle.bivariate.proofs.Crossing.{front, back, length-column}

-- Two lists zipped, place by place.
get_or-zip : (f : ℕ → ℕ → ℕ) (xs ys : List ℕ) (v : ℕ) → v < length xs → v < length ys
    → get_or (zip_with f xs ys) v 0 ≡ f (get_or xs v 0) (get_or ys v 0)
unfolding zip_with
get_or-zip f [] ys v h l = absurd (omega arith)
get_or-zip f (x ∷ xs) [] v h l = absurd (omega arith)
get_or-zip f (x ∷ xs) (y ∷ ys) zero h l = refl
get_or-zip f (x ∷ xs) (y ∷ ys) (suc v) h l = get_or-zip f xs ys v (omega arith) (omega arith)

abbrev spaced : ℕ → List ℕ → ℕ → ℕ → List ℕ
spaced n F at zero = []
spaced n F at (suc k) = get_or F at 0 ∷ spaced n F (at + n) k

-- Of the parts behind the first: the same coefficients, n places further on.
spaced-drop : (n : ℕ) (F : List ℕ) (at k : ℕ) → spaced n (drop n F) at k ≡ spaced n F (at + n) k
spaced-drop n F at zero = refl
spaced-drop n F at (suc k) =
    ap₂ ◌∷◌ (get_or-drop n F at 0 ∙ ap (λ z. get_or F z 0) (omega arith)) (spaced-drop n F (at + n) k)

module _ (p : ℕ) (x : ℕ) where
  -- A number of the column.
  entry : (k n : ℕ) (F : List ℕ) (v : ℕ) → length F ≡ k * n → v < n → get_or (column p k n F x) v 0 ≡ value p (spaced n F v k) x
  entry zero n F v l h = get_or-zeros [] n v
  entry (suc k) n F v l h =
      get_or-zip (λ c d. add p c (mul p x d)) (take n F) (column p k n (drop n F) x) v
      (omega (arith, front p k n F l)) (omega (arith, length-column p k n (drop n F) x (back p k n F l)))
      ∙ ap₂ (λ c z. add p c (mul p x z)) (get_or-take n F v 0 h)
      (entry k n (drop n F) v (back p k n F l) h ∙ ap (λ f. value p f x) (spaced-drop n F v k))

  pub column-one : (F : List ℕ) (v : ℕ) → length F ≡ 1 → v < 1 → value p (get_or F v 0 ∷ []) x ≡ get_or (column p 1 1 F x) v 0
  column-one F v l h = sym (entry 1 1 F v l h)

  pub column-two : (F : List ℕ) (v : ℕ) → length F ≡ 4 → v < 2
      → value p (get_or F v 0 ∷ get_or F (v + 2) 0 ∷ []) x ≡ get_or (column p 2 2 F x) v 0
  column-two F v l h = sym (entry 2 2 F v l h)

  pub column-three : (F : List ℕ) (v : ℕ) → length F ≡ 9 → v < 3
      → value p (get_or F v 0 ∷ get_or F (v + 3) 0 ∷ get_or F (v + 6) 0 ∷ []) x ≡ get_or (column p 3 3 F x) v 0
  column-three F v l h =
      let there : v + 3 + 3 ≡ v + 6 = omega arith in
      sym (entry 3 3 F v l h ∙ ap (λ z. value p (get_or F v 0 ∷ get_or F (v + 3) 0 ∷ get_or F z 0 ∷ []) x) there)

  pub column-four : (F : List ℕ) (v : ℕ) → length F ≡ 16 → v < 4
      → value p (get_or F v 0 ∷ get_or F (v + 4) 0 ∷ get_or F (v + 8) 0 ∷ get_or F (v + 12) 0 ∷ []) x ≡ get_or (column p 4 4 F x) v 0
  column-four F v l h =
      let second : v + 4 + 4 ≡ v + 8 = omega arith in
      let third : v + 4 + 4 + 4 ≡ v + 12 = omega arith in
      sym (entry 4 4 F v l h
      ∙ ap₂ (λ a b. value p (get_or F v 0 ∷ get_or F (v + 4) 0 ∷ get_or F a 0 ∷ get_or F b 0 ∷ []) x) second third)

-- What the code needs of a number of a column.
pub ruleset columns = (column-one, column-two, column-three, column-four)
