-- A run of 1 divides nothing; Newton's coefficients are residues, and are found by rises, slope by slope or by one inverse.
use mathlib.Core.Path.{◌≡◌, refl, sym, ap, ap₂, ◌∙◌}
use mathlib.Core.List.{List, [], ◌∷◌, map, zip_with}
use Prim.Native.Nat.{ℕ, ◌%◌, ◌≤◌, ◌<◌}
use native.Mathlib.Nat.{mod-eq_of_lt}
use native.Mathlib.Omega.{arith}
use lib.ListN.{length, get_or, drop}
use Rattle.lists.specs.All.{All}
use Rattle.lists.proofs.Padded.{four}
use Rattle.field.specs.Arithmetic.{Prime, sub, mul, inv}
use Rattle.field.specs.Differences.{slope, slopes, newton, from_rises, runs}
use Rattle.field.proofs.Ring.{sub-none, sub-residue, sub-lt, mul-one, mul_comm, mul-lt, mul-residue}
use Rattle.field.proofs.Inverse.{inv-one}
use Rattle.field.proofs.Quotients.{unit_left, unit-right, inv-factor, over-factor, one-quotient, one-quotient-common}

module _ (p : ℕ) where
  pub over-one : (w y u : ℕ) → 2 ≤ p → u ≡ 1 → sub p w y ≡ mul p (sub p w y) (inv p u)
  over-one w y u h e =
      sym (ap (λ (z : ℕ). mul p (sub p w y) (inv p z)) e
      ∙ ap (mul p (sub p w y)) (inv-one p h)
      ∙ mul-one p (sub p w y)
      ∙ mod-eq_of_lt (sub-lt p w y (omega arith)))

  -- The first value may be taken from the others.
  slopes-rises : (x y : ℕ) (xs ys : List ℕ) → slopes p x 0 xs (map (λ w. sub p w y) ys) ≡ slopes p x y xs ys
  unfolding zip_with
  slopes-rises x y [] ys = refl
  slopes-rises x y (z ∷ xs) [] = refl
  slopes-rises x y (z ∷ xs) (w ∷ ys) =
      ap₂ ◌∷◌ (ap (λ (u : ℕ). mul p u (inv p (sub p z x))) (sub-none p (sub p w y) ∙ sub-residue p w y)) (slopes-rises x y xs ys)

  pub newton-rises : (x y : ℕ) (xs ys : List ℕ) → from_rises p y x xs (map (λ w. sub p w y) ys) ≡ newton p (x ∷ xs) (y ∷ ys)
  newton-rises x y xs ys = ap (λ l. y ∷ newton p xs l) (slopes-rises x y xs ys)

-- ---- Newton's coefficients of residues are residues
module _ (p : ℕ) (positive : 0 < p) where
  pub slopes-residues : (x y : ℕ) (xs ys : List ℕ) → All (λ c. c < p) (slopes p x y xs ys)
  unfolding zip_with
  slopes-residues x y [] ys = tt
  slopes-residues x y (z ∷ xs) [] = tt
  slopes-residues x y (z ∷ xs) (w ∷ ys) = (mul-lt p _ _ positive, slopes-residues x y xs ys)

  pub newton-residues : (xs ys : List ℕ) → All (λ c. c < p) ys → All (λ c. c < p) (newton p xs ys)
  newton-residues [] ys h = tt
  newton-residues (x ∷ xs) [] h = tt
  newton-residues (x ∷ xs) (y ∷ ys) h = (h.0, newton-residues xs (slopes p x y xs ys) (slopes-residues x y xs ys))

-- ---- four points
module _ (p y x₀ x₁ x₂ x₃ e₁ e₂ e₃ : ℕ) where
  abbrev coefficients : List ℕ
  coefficients = from_rises p y x₀ (x₁ ∷ x₂ ∷ x₃ ∷ []) (e₁ ∷ e₂ ∷ e₃ ∷ [])

  pub by-slopes : (b c₁ c d₁ d₂ d : ℕ) → b ≡ slope p x₀ 0 x₁ e₁
      → c₁ ≡ slope p x₀ 0 x₂ e₂ → c ≡ slope p x₁ b x₂ c₁
      → d₁ ≡ slope p x₀ 0 x₃ e₃ → d₂ ≡ slope p x₁ b x₃ d₁ → d ≡ slope p x₂ c x₃ d₂
      → y ∷ b ∷ c ∷ d ∷ [] ≡ coefficients
  unfolding zip_with
  by-slopes b c₁ c d₁ d₂ d eb ec₁ ec ed₁ ed₂ ed =
      let c' = ec ∙ ap₂ (λ u v. slope p x₁ u x₂ v) eb ec₁ in
      let d₂' = ed₂ ∙ ap₂ (λ u v. slope p x₁ u x₃ v) eb ed₁ in
      let d' = ed ∙ ap₂ (λ u v. slope p x₂ u x₃ v) c' d₂' in
      ap₂ (λ u v. y ∷ u ∷ v) eb (ap₂ (λ u v. u ∷ v ∷ []) c' d')

  -- ---- by one inverse: each coefficient as a quotient of products of runs and rises
  abbrev r₁ : ℕ
  r₁ = sub p x₁ x₀

  abbrev r₂ : ℕ
  r₂ = sub p x₂ x₀

  abbrev r₃ : ℕ
  r₃ = sub p x₃ x₀

  abbrev second : ℕ
  second = mul p r₂ (sub p x₂ x₁)

  abbrev third : ℕ
  third = mul p r₃ (sub p x₃ x₁)

  abbrev low : ℕ
  low = mul p second r₁

  abbrev high : ℕ
  high = mul p third (sub p x₃ x₂)

  abbrev over_all : ℕ
  over_all = inv p (runs p x₀ x₁ x₂ x₃)

  -- The difference between e / r and e₁ / r₁, times both runs.
  abbrev above : ℕ → ℕ → ℕ
  above e r = sub p (mul p e r₁) (mul p e₁ r)

  pub by-quotients : Prime p → e₁ < p → e₂ < p → e₃ < p → 0 < runs p x₀ x₁ x₂ x₃
      → y
      ∷ mul p (mul p e₁ second) (mul p over_all high)
      ∷ mul p (above e₂ r₂) (mul p over_all high)
      ∷ mul p (sub p (mul p (above e₃ r₃) second) (mul p (above e₂ r₂) third)) over_all
      ∷ []
      ≡ coefficients
  by-quotients P h₁ h₂ h₃ unequal =
      let rise : (e r : ℕ) → e < p → mul p e (inv p r) ≡ mul p (sub p e 0) (inv p r) =
      λ e r h. ap (λ (n : ℕ). mul p n (inv p r)) (sym (sub-none p e ∙ mod-eq_of_lt h)) in
      let all : mul p low high % p ≡ 0 → ⊥ = λ z. omega (arith, mul-residue p low high) in
      let u-low = unit_left p low high all in
      let u-high = unit-right p low high all in
      let u-second = unit_left p second r₁ u-low in
      let u-third = unit_left p third (sub p x₃ x₂) u-high in
      let u-first = unit-right p second r₁ u-low in
      let over-low : mul p over_all high ≡ inv p low = inv-factor p P low high u-high in
      let b : mul p (mul p e₁ second) (mul p over_all high) ≡ mul p e₁ (inv p r₁) =
      ap (mul p (mul p e₁ second)) (over-low ∙ ap (inv p) (mul_comm p second r₁)) ∙ over-factor p P e₁ r₁ second u-second in
      let c : mul p (above e₂ r₂) (mul p over_all high) ≡ mul p (above e₂ r₂) (inv p low) = ap (mul p (above e₂ r₂)) over-low in
      let slope-from : (e r x : ℕ) → (r % p ≡ 0 → ⊥)
      → slope p x₁ _ x (mul p e (inv p r)) ≡ mul p (above e r) (inv p (mul p (mul p r (sub p x x₁)) r₁)) =
      λ e r x h. ap (λ (n : ℕ). slope p x₁ n x (mul p e (inv p r))) b ∙ one-quotient p P e r e₁ r₁ (sub p x x₁) h u-first in
      let d₂ : ℕ = mul p (above e₃ r₃) (inv p (mul p third r₁)) in
      by-slopes _ _ _ _ d₂ _
      (b ∙ rise e₁ r₁ h₁)
      (rise e₂ r₂ h₂)
      (c ∙ sym (slope-from e₂ r₂ x₂ (unit_left p r₂ _ u-second)))
      (rise e₃ r₃ h₃)
      (sym (slope-from e₃ r₃ x₃ (unit_left p r₃ _ u-third)))
      (sym (ap (λ (n : ℕ). slope p x₂ n x₃ d₂) c ∙ one-quotient-common p P _ third _ second r₁ (sub p x₃ x₂) u-third u-second))

-- ---- the same of lists of four points and three rises
pub three : (e : List ℕ) → length e ≡ 3 → get_or e 0 0 ∷ get_or e 1 0 ∷ get_or e 2 0 ∷ [] ≡ e
three [] l = absurd (omega arith)
three (a ∷ []) l = absurd (omega arith)
three (a ∷ b ∷ []) l = absurd (omega arith)
three (a ∷ b ∷ c ∷ []) l = refl
three (a ∷ b ∷ c ∷ d ∷ e) l = absurd (omega arith)

pub listed : (p y : ℕ) (x e : List ℕ) → length x ≡ 4 → length e ≡ 3
    → from_rises p y (get_or x 0 0) (get_or x 1 0 ∷ get_or x 2 0 ∷ get_or x 3 0 ∷ []) (get_or e 0 0 ∷ get_or e 1 0 ∷ get_or e 2 0 ∷ [])
    ≡ from_rises p y (get_or x 0 0) (drop 1 x) e
listed p y x e lx le = ap₂ (from_rises p y (get_or x 0 0)) (ap (drop 1) (four x lx)) (three e le)

-- The rises between four values give their coefficients.
pub by-rises : (p : ℕ) (x y : List ℕ) → length x ≡ 4 → length y ≡ 4 → let y₀ = get_or y 0 0 in
    from_rises p y₀ (get_or x 0 0) (drop 1 x) (sub p (get_or y 1 0) y₀ ∷ sub p (get_or y 2 0) y₀ ∷ sub p (get_or y 3 0) y₀ ∷ [])
    ≡ newton p x y
by-rises p [] y lx ly = absurd (omega arith)
by-rises p (x₀ ∷ xs) y lx ly =
    newton-rises p x₀ (get_or y 0 0) xs (get_or y 1 0 ∷ get_or y 2 0 ∷ get_or y 3 0 ∷ []) ∙ ap (newton p (x₀ ∷ xs)) (four y ly)
