-- Laws of a table of refusals.
--   Tests b applies   the test b passes exactly where the refusal does not apply
--   none-some, one_number   an answer has one number
--   Left T k x        x is what k leaves
--   Given T k         k stands in T, it applies, and nothing before it does
--   exactly           a number is given exactly so, and the call is accepted exactly if none applies
--   Unused T k        no row with the number k applies where none before it does; not-given: then k is not given
--   skipped           a row that does not apply where none before it does may be left out
--   once              a table determines the number, and what a refusal leaves
use mathlib.Core.Path.{◌≡◌, refl, sym, ap, subst, ◌∙◌}
use mathlib.Core.Logic.{◌⊎◌, ◌↔◌, inl, inr}
use mathlib.Core.Bool.{Bool, true, false}
use mathlib.Core.Option.{Option, none, some}
use mathlib.Core.List.{[], ◌∷◌, ◌++◌}
use Prim.Native.Nat.{ℕ}
use native.Mathlib.Omega.{arith}
use lib.Dec.{eqb}
use borrow.Author.Tests.{eq-eqb}
use Rattle.lists.proofs.Cases.{not-both}
use Rattle.agreement.specs.Demand1.{Rows, Follows}

-- ---- tests and what they guard against
pub record Tests (b : Bool) (applies : Type 0) : Type 0 where
  pub passes : b ≡ true → applies → ⊥
  pub fails : b ≡ false → applies

-- A refusal that applies where A does not hold.
pub unless : (b : Bool) {A : Type 0} → (b ≡ true → A) → (A → b ≡ true) → Tests b (A → ⊥)
unless b f g = record { passes = λ e d. d (f e); fails = λ e a. not-both (g a) e }

-- ---- one row
pub row : {X : Type 0} {k : ℕ} {applies rest : Type 0} {left x : X} {o : Option ℕ} (b : Bool) → Tests b applies
    → (b ≡ false → (o ≡ some k) × (x ≡ left)) → (b ≡ true → rest) → (applies × (o ≡ some k) × (x ≡ left)) ⊎ ((applies → ⊥) × rest)
row true t f g = inr (t.passes refl, g refl)
row false t f g = inl (t.fails refl, (f refl).0, (f refl).1)

-- ---- an answer has one number
no_number : {A : Type 0} {k : ℕ} → none ≡ some k → A
no_number e = absurd (let z : ◌≡◌ {A = ℕ} 0 1 = cc in omega arith)

pub none-some : (o : Option ℕ) (k : ℕ) → o ≡ none → o ≡ some k → ⊥
none-some o k e f = no_number (sym e ∙ f)

pub one_number : (o : Option ℕ) (j k : ℕ) → o ≡ some j → o ≡ some k → (j ≡ k → ⊥) → ⊥
one_number o j k e f d = d (cc)

-- ---- the whole table

abbrev pub Given : {X : Type 0} → Rows X → ℕ → Type 0
Given [] k = ⊥
Given ((j, applies, left) ∷ more) k = (applies × (j ≡ k)) ⊎ ((applies → ⊥) × Given more k)

abbrev pub NoneApplies : {X : Type 0} → Rows X → Type 0
NoneApplies [] = Unit
NoneApplies ((j, applies, left) ∷ more) = (applies → ⊥) × NoneApplies more

-- No row with the number k applies where none before it does.
abbrev pub Barred : Bool → Type 0 → Type 0
Barred true applies = applies → ⊥
Barred false applies = Unit

abbrev pub Unused : {X : Type 0} → Rows X → ℕ → Type 0
Unused [] k = Unit
Unused ((j, applies, left) ∷ more) k = Barred (eqb j k) applies × ((applies → ⊥) → Unused more k)

unused-not : {X : Type 0} (T : Rows X) (k : ℕ) → Unused T k → Given T k → ⊥
unused-not [] k h g = g
unused-not ((j, applies, left) ∷ T) k h (inl g) = subst (λ b. Barred b applies) (eq-eqb j k g.1) h.0 g.0
unused-not ((j, applies, left) ∷ T) k h (inr g) = unused-not T k (h.1 g.0) g.1

abbrev pub Left : {X : Type 0} → Rows X → ℕ → X → Type 0
Left [] k x = ⊥
Left ((j, applies, left) ∷ more) k x = ((j ≡ k) × (x ≡ left)) ⊎ Left more k x

module _ {X : Type 0} (done : Type 0) (o : Option ℕ) (x : X) where
  given : (T : Rows X) → Follows T done o x → (k : ℕ) → o ≡ some k → Given T k
  given [] f k e = no_number (sym f.0 ∙ e)
  given ((j, applies, left) ∷ T) (inl f) k e = inl (f.0, (let same : some j ≡ some k = sym f.1 ∙ e in cc))
  given ((j, applies, left) ∷ T) (inr f) k e = inr (f.0, given T f.1 k e)

  gives : (T : Rows X) → Follows T done o x → (k : ℕ) → Given T k → o ≡ some k
  gives [] f k g = absurd g
  gives ((j, applies, left) ∷ T) (inl f) k (inl g) = f.1 ∙ ap some g.1
  gives ((j, applies, left) ∷ T) (inl f) k (inr g) = absurd (g.0 f.0)
  gives ((j, applies, left) ∷ T) (inr f) k (inl g) = absurd (f.0 g.0)
  gives ((j, applies, left) ∷ T) (inr f) k (inr g) = gives T f.1 k g.1

  free : (T : Rows X) → Follows T done o x → o ≡ none → NoneApplies T
  free [] f e = tt
  free ((j, applies, left) ∷ T) (inl f) e = no_number (sym e ∙ f.1)
  free ((j, applies, left) ∷ T) (inr f) e = (f.0, free T f.1 e)

  frees : (T : Rows X) → Follows T done o x → NoneApplies T → (o ≡ none) × done
  frees [] f h = f
  frees ((j, applies, left) ∷ T) (inl f) h = absurd (h.0 f.0)
  frees ((j, applies, left) ∷ T) (inr f) h = frees T f.1 h.1

  -- "Number k is answered exactly if k applies and nothing lower does; otherwise the call is accepted."
  pub exactly : (T : Rows X) → Follows T done o x → ((k : ℕ) → (o ≡ some k) ↔ Given T k) × ((o ≡ none) ↔ NoneApplies T)
  exactly T f = (λ k. (given T f k, gives T f k), (free T f, λ h. (frees T f h).0))

  pub not-given : (T : Rows X) → Follows T done o x → (k : ℕ) → Unused T k → o ≡ some k → ⊥
  not-given T f k h e = unused-not T k h (given T f k e)

  -- A row that does not apply where none before it does may be left out.
  pub skipped : (before : Rows X) (k : ℕ) (applies : Type 0) (left : X) (more : Rows X) → (NoneApplies before → applies → ⊥)
      → Follows (before ++ (k, applies, left) ∷ more) done o x → Follows (before ++ more) done o x
  skipped [] k applies left more h (inl f) = absurd (h tt f.0)
  skipped [] k applies left more h (inr f) = f.1
  skipped ((j, a, l) ∷ before) k applies left more h (inl f) = inl f
  skipped ((j, a, l) ∷ before) k applies left more h (inr f) =
      inr (f.0, skipped before k applies left more (λ none. h (f.0, none)) f.1)

  -- An accepted call says what it is to say; a refusal leaves what its row has.
  pub accepted : (T : Rows X) → Follows T done o x → NoneApplies T → done
  accepted T f h = (frees T f h).1

  pub left_by : (T : Rows X) → Follows T done o x → (k : ℕ) → o ≡ some k → Left T k x
  left_by [] f k e = no_number (sym f.0 ∙ e)
  left_by ((j, applies, left) ∷ T) (inl f) k e = inl ((let same : some j ≡ some k = sym f.1 ∙ e in cc), f.2)
  left_by ((j, applies, left) ∷ T) (inr f) k e = inr (left_by T f.1 k e)

  -- Whatever else follows the table gives the same number and, refused, leaves the same.
  pub once : (done₂ : Type 0) (o₂ : Option ℕ) (x₂ : X) (T : Rows X) → Follows T done o x → Follows T done₂ o₂ x₂
      → (o ≡ o₂) × ((k : ℕ) → o ≡ some k → x ≡ x₂)
  once done₂ o₂ x₂ [] f g = (f.0 ∙ sym g.0, λ k e. no_number (sym f.0 ∙ e))
  once done₂ o₂ x₂ ((j, applies, left) ∷ T) (inl f) (inl g) = (f.1 ∙ sym g.1, λ k e. f.2 ∙ sym g.2)
  once done₂ o₂ x₂ ((j, applies, left) ∷ T) (inl f) (inr g) = absurd (g.0 f.0)
  once done₂ o₂ x₂ ((j, applies, left) ∷ T) (inr f) (inl g) = absurd (f.0 g.0)
  once done₂ o₂ x₂ ((j, applies, left) ∷ T) (inr f) (inr g) = once done₂ o₂ x₂ T f.1 g.1
