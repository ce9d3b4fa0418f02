-- What is accepted leaves nothing.
--   none-not-some, test-passed     what is given, and what is given under a test
--   exact-sound                    what is given is the quotient
--   exact-product                  and times E it is what was divided
--   product-exact                  where F E was divided, F is given
--   inverse-top                    the top of a locator has its inverse
--   enough-sound, enough-found     what is given under the count of the points that agree
--   answered-exactly               of an answer: times the locator it is the numerator, the locator's degree is at most `spare`, and at
--                                  least `need` of all points agree
use mathlib.Core.Path.{◌≡◌, refl, sym, ap, ap₂, subst, ◌∙◌}
use mathlib.Core.Bool.{Bool, true, false, cond, ◌&&◌, and-eq-true_iff}
use Rattle.std.specs.List.{list_all}
use mathlib.Core.Option.{Option, none, some, none-ne-some}
use mathlib.Core.List.Memᴰ
use mathlib.Core.List.{List, [], ◌∷◌}
use Prim.Native.Nat.{ℕ, zero, suc, ◌+◌, ◌-◌, ◌≤◌, ◌<◌}
use native.Mathlib.Nat.{mod-eq_of_lt}
use native.Mathlib.Omega.{arith}
use borrow.Author.Tests.{le-leb, leb-true, eqb-true}
use lib.Dec.{leb, eqb}
use lib.ListN.{length, get_or, take, replicate, length-replicate}
use lib.Seq.{get_or-take, length-take-le}
use Rattle.lists.proofs.All.{all-get_or}
use Rattle.lists.proofs.Choices.{first_some}
use Rattle.field.specs.Arithmetic.{Prime, mul, inv}
use Rattle.field.proofs.Ring.{mul_comm}
use Rattle.field.proofs.Inverse.{mul-inv}
use Rattle.polynomial.specs.Polynomial.{Poly, Residues}
use Rattle.polynomial.proofs.Below.{zeros-residues}
use Rattle.trial.specs.Trial.{hits}
use Rattle.locator.specs.Quotient.{add_product, product, long_division, all_zero, exact_quotient}
use Rattle.locator.specs.Answer.{if_enough, quotient_of, located_by}
use Rattle.locator.proofs.Products.{division-back, division-forth, remainder-size}

-- ---- the quotient
pub none-not-some : {A : Type 0} (o : Option (List ℕ)) (f : List ℕ) → o ≡ none → o ≡ some f → A
none-not-some o f e i = absurd (none-ne-some f (sym e ∙ i))

all-zero-true : (n : ℕ) → all_zero (replicate n 0) ≡ true
all-zero-true zero = refl
all-zero-true (suc n) = all-zero-true n

all-zero-is : (r : List ℕ) → all_zero r ≡ true → r ≡ replicate (length r) 0
all-zero-is [] e = refl
all-zero-is (c ∷ r) e =
    let (first, rest) = (and-eq-true_iff (eqb c 0) (all_zero r)).0 e in
    ap₂ ◌∷◌ (eqb-true c 0 first) (all-zero-is r rest)

-- As a chain of iterators asks it.
pub all-zero-listed : (r : List ℕ) → list_all (λ c. eqb c 0) r ≡ all_zero r
all-zero-listed [] = refl
all-zero-listed (c ∷ r) = ap (λ b. eqb c 0 && b) (all-zero-listed r)

-- What is given under a test passed it.
pub test-passed : (c : Bool) (o : Option (List ℕ)) (f : List ℕ) → cond c o none ≡ some f → (c ≡ true) × (o ≡ some f)
test-passed true o f e = (refl, e)
test-passed false o f e = none-not-some none f refl e

module _ (p i : ℕ) (E : List ℕ) (n : ℕ) (Q f : List ℕ) (e : exact_quotient p i E n Q ≡ some f) where
  nothing-remains : all_zero (long_division p i E n Q).1 ≡ true
  unfolding exact_quotient
  nothing-remains = (test-passed (all_zero (long_division p i E n Q).1) (some (long_division p i E n Q).0) f e).0

  pub exact-sound : f ≡ (long_division p i E n Q).0
  unfolding exact_quotient
  exact-sound = let same = (test-passed (all_zero (long_division p i E n Q).1) (some (long_division p i E n Q).0) f e).1 in cc

module _ (p i : ℕ) (E : List ℕ) (b : ℕ) (size : length E ≡ suc b) (inverse : mul p i (get_or E b 0) ≡ 1) (positive : 0 < p) (n : ℕ)
    (Q F : List ℕ) where
  pub exact-product : Residues p Q → length Q ≡ n + b → exact_quotient p i E n Q ≡ some F → Q ≡ product p F E
  exact-product f l e =
      let left : length (long_division p i E n Q).1 ≡ length E - 1 = remainder-size p i E (omega arith) n Q (omega arith) in
      sym (division-forth p i E b size inverse positive n Q f l)
      ∙ ap₂ (λ r z. add_product p r z E)
      (all-zero-is (long_division p i E n Q).1 (nothing-remains p i E n Q F e) ∙ ap (λ m. replicate m 0) left)
      (sym (exact-sound p i E n Q F e))

  pub product-exact : Poly p n F → Q ≡ product p F E → exact_quotient p i E n Q ≡ some F
  unfolding exact_quotient
  product-exact poly e =
      let left : length E - 1 ≡ b = omega arith in
      let divided : long_division p i E n Q ≡ (F, replicate b 0) =
      ap₂ (λ (m : ℕ) (z : List ℕ). long_division p i E m z) (sym poly.size) (e ∙ ap (λ m. add_product p (replicate m 0) F E) left)
      ∙ division-back p i E b size inverse positive (replicate b 0) F (zeros-residues p b positive)
      poly.residues (length-replicate b 0) in
      ap (λ (o : List ℕ × List ℕ). cond (all_zero o.1) (some o.0) none) divided ∙ ap (λ c. cond c (some F) none) (all-zero-true b)

pub inverse-top : (p : ℕ) → Prime p → (b : ℕ) (e : List ℕ) → Residues p (take (suc b) e) → length (take (suc b) e) ≡ suc b
    → (get_or (take (suc b) e) b 0 ≡ 0 → ⊥) → mul p (inv p (get_or e b 0)) (get_or (take (suc b) e) b 0) ≡ 1
inverse-top p P b e f l top =
    let c = get_or e b 0 in
    let same : get_or (take (suc b) e) b 0 ≡ c = get_or-take (suc b) e b 0 (omega arith) in
    let small : c < p = subst (λ c. c < p) same (all-get_or (λ c. c < p) (take (suc b) e) b 0 (omega arith) f) in
    ap (mul p (inv p c)) same ∙ mul_comm p (inv p c) c ∙ mul-inv p P c (λ z. top (same ∙ sym (mod-eq_of_lt small) ∙ z))

-- ---- the answer
module _ (p need : ℕ) (xs ys : List ℕ) where
  pub enough-sound : (o : Option (List ℕ)) (f : List ℕ) → if_enough p need xs ys o ≡ some f → (o ≡ some f) × (need ≤ hits p f xs ys)
  enough-sound none f e = none-not-some none f refl e
  enough-sound (some g) f e =
      let (among, passed) = first_some (λ f. leb need (hits p f xs ys)) (g ∷ []) f e in
      (ap some (sym (Memᴰ.eq_of_singleton among)), leb-true need (hits p f xs ys) passed)

  pub enough-found : (f : List ℕ) → need ≤ hits p f xs ys → if_enough p need xs ys (some f) ≡ some f
  enough-found f h = rw (le-leb need (hits p f xs ys) h)

-- What an answer says of the numerator q and the locator e.
module _ (p : ℕ) (P : Prime p) (t need spare : ℕ) (xs ys : List ℕ) (b : ℕ) (q e : List ℕ) (size-q : b + t + 1 ≤ length q)
    (size-e : b + 1 ≤ length e) (fine-q : Residues p (take (b + t + 1) q)) (fine-e : Residues p (take (b + 1) e))
    (top : get_or e b 0 ≡ 0 → ⊥) (f : List ℕ) where
  pub answered-exactly : located_by p t need spare xs ys b q e ≡ some f
      → (take (b + t + 1) q ≡ product p f (take (b + 1) e)) × (b ≤ spare) × (need ≤ hits p f xs ys)
  unfolding located_by
  answered-exactly answer =
      let (low, given) = test-passed (leb b spare) (if_enough p need xs ys (quotient_of p t b q e)) f answer in
      let (found, enough) = enough-sound p need xs ys (quotient_of p t b q e) f given in
      let next : b + 1 ≡ suc b = omega arith in
      let i = inv p (get_or e b 0) in
      let inverse : mul p i (get_or (take (b + 1) e) b 0) ≡ 1 =
      ap (λ m. mul p i (get_or (take m e) b 0)) next
      ∙ inverse-top p P b e (subst (λ m. Residues p (take m e)) next fine-e) (length-take-le (suc b) e (omega arith))
      (λ z. top (sym (get_or-take (suc b) e b 0 (omega arith)) ∙ z)) in (
        exact-product p i (take (b + 1) e) b (length-take-le (b + 1) e size-e ∙ next) inverse (omega (arith, P.two)) (t + 1)
            (take (b + t + 1) q) f fine-q (length-take-le (b + t + 1) q size-q ∙ omega arith) found,
        leb-true b spare low,
        enough,
      )
