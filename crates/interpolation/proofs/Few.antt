-- Interpolation through at most four points, each coefficient written out.
--   line-by, square-by, cubic-by        two, three and four points, from the numbers that the code finds one after the other
--   two                                 the numbers of a list of two
use mathlib.Core.Path.{◌≡◌, refl, ap, ap₂, ◌∙◌}
use mathlib.Core.List.{List, [], ◌∷◌, zip_with}
use Prim.Native.Nat.{ℕ}
use native.Mathlib.Omega.{arith}
use lib.ListN.{length, get_or}
use Rattle.lists.specs.Tabulate.{pad}
use Rattle.lists.proofs.Padded.{four}
use Rattle.lists.proofs.All.{all-get_or}
use Rattle.field.proofs.Primes.{positive}
use Rattle.field.proofs.Slopes.{three}
use Rattle.field.specs.Arithmetic.{sub, mul}
use Rattle.field.specs.Differences.{slope, newton}
use Rattle.interpolation.specs.Interpolation.{expand, interpolate}

pub two : (l : List ℕ) → length l ≡ 2 → get_or l 0 0 ∷ get_or l 1 0 ∷ [] ≡ l
two [] e = absurd (omega arith)
two (a ∷ []) e = absurd (omega arith)
two (a ∷ b ∷ []) e = refl
two (a ∷ b ∷ c ∷ l) e = absurd (omega arith)

module _ (p : ℕ) where
  -- ---- two points
  pub line-by : (x₀ x₁ y₀ y₁ b a : ℕ) → b ≡ slope p x₀ y₀ x₁ y₁ → a ≡ sub p y₀ (mul p x₀ b)
      → a ∷ b ∷ 0 ∷ 0 ∷ [] ≡ pad 4 (interpolate p (x₀ ∷ x₁ ∷ []) (y₀ ∷ y₁ ∷ []))
  unfolding interpolate zip_with
  line-by x₀ x₁ y₀ y₁ b a eb ea = ap (λ z. z ∷ b ∷ 0 ∷ 0 ∷ []) ea ∙ ap (λ z. sub p y₀ (mul p x₀ z) ∷ z ∷ 0 ∷ 0 ∷ []) eb

  -- ---- three points
  pub square-by : (x₀ x₁ x₂ y₀ y₁ y₂ b s c e k l : ℕ)
      → b ≡ slope p x₀ y₀ x₁ y₁ → s ≡ slope p x₀ y₀ x₂ y₂ → c ≡ slope p x₁ b x₂ s
      → e ≡ sub p b (mul p x₁ c) → k ≡ sub p y₀ (mul p x₀ e) → l ≡ sub p e (mul p x₀ c)
      → k ∷ l ∷ c ∷ 0 ∷ [] ≡ pad 4 (interpolate p (x₀ ∷ x₁ ∷ x₂ ∷ []) (y₀ ∷ y₁ ∷ y₂ ∷ []))
  unfolding interpolate zip_with
  square-by x₀ x₁ x₂ y₀ y₁ y₂ b s c e k l eb es ec ee ek el =
      ap₂ (λ u v. u ∷ v ∷ c ∷ 0 ∷ []) ek el
      ∙ ap (λ z. sub p y₀ (mul p x₀ z) ∷ sub p z (mul p x₀ c) ∷ c ∷ 0 ∷ []) ee
      ∙ ap₂ (λ (u v : ℕ). sub p y₀ (mul p x₀ (sub p u (mul p x₁ v))) ∷ sub p (sub p u (mul p x₁ v)) (mul p x₀ v) ∷ v ∷ 0 ∷ []) eb
      (ec ∙ ap₂ (λ u v. slope p x₁ u x₂ v) eb es)

  -- ---- four points: Newton's form f, multiplied out from the inside
  pub cubic-by : (xs ys f : List ℕ) → length xs ≡ 4 → length f ≡ 4 → f ≡ newton p xs ys → (b c e r s t : ℕ)
      → c ≡ sub p (get_or f 2 0) (mul p (get_or xs 2 0) (get_or f 3 0))
      → b ≡ sub p (get_or f 1 0) (mul p (get_or xs 1 0) c) → e ≡ sub p c (mul p (get_or xs 1 0) (get_or f 3 0))
      → r ≡ sub p (get_or f 0 0) (mul p (get_or xs 0 0) b) → s ≡ sub p b (mul p (get_or xs 0 0) e)
      → t ≡ sub p e (mul p (get_or xs 0 0) (get_or f 3 0))
      → r ∷ s ∷ t ∷ get_or f 3 0 ∷ [] ≡ interpolate p xs ys
  unfolding interpolate
  cubic-by xs ys f lx l n b c e r s t ec eb ee er es et =
      rw (er, es, et, eb, ee, ec) (ap₂ (expand p) (four xs lx) (four f l ∙ n))

-- What the functions for two, three and four points need.
pub ruleset few = (positive, all-get_or, two, three, line-by, square-by, cubic-by)
