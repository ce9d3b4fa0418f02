-- The product of X − x for the first points.
--   roots_of p xs k, roots-of        the product for the first k points, and that it is
--   Rooting p xs out k, rooting-..   the loop of `roots`: out holds in front the product for the first k points
use mathlib.Core.Path.{◌≡◌, refl, sym, ap, subst, ◌∙◌}
use mathlib.Core.List.{List, [], ◌∷◌, ◌++◌}
use Prim.Native.Nat.{ℕ, zero, suc, ◌+◌, ◌<◌, ◌≤◌}
use native.Mathlib.Decide.{ℕ_discrete}
use native.Mathlib.Nat.{zero-mod}
use native.Mathlib.Omega.{arith}
use lib.ListN.{length, get_or, take, drop, set}
use Rattle.lists.proofs.All.{all-get_or}
use Rattle.field.specs.Arithmetic.{Prime, add, sub, mul}
use Rattle.field.proofs.Ring.{zero-add, mul-zero}
use Rattle.polynomial.specs.Polynomial.{Residues, value, raise}
use Rattle.polynomial.proofs.Raising.{length-raise, raise-residues, raise-value, raise-value-here}
use Rattle.key_equation.specs.Solving.{front, raised, Roots}
use Rattle.key_equation.proofs.Parts.{front-part, back-size, raised-front}
use Rattle.key_equation.proofs.Solving.{raise-top}

-- The first k + 1 places of out are the product of X − x for the first k points.
pub record Rooting (p : ℕ) (xs out : List ℕ) (k : ℕ) : Type 0 where
  pub within : k ≤ length xs
  pub size : length out ≡ length xs + 1
  pub roots : Roots p xs k (take (suc k) out)

-- The product of X − x for the first k points.
abbrev pub roots_of : ℕ → List ℕ → ℕ → List ℕ
roots_of p xs zero = 1 ∷ []
roots_of p xs (suc k) = raise p (get_or xs k 0) (0 ∷ roots_of p xs k)

module _ (p : ℕ) (P : Prime p) (xs : List ℕ) (points : Residues p xs) where
  positive : 0 < p
  positive = omega (arith, P.two)

  point : (j : ℕ) → j < length xs → get_or xs j 0 < p
  point j h = all-get_or (λ c. c < p) xs j 0 h points

  roots-none : Roots p xs 0 (1 ∷ [])
  roots-none = record {
    poly = record { residues = (omega (arith, P.two), tt); size = refl };
    vanishes = λ j h. absurd (omega arith);
    top = λ e. absurd (omega (arith, e));
  }

  -- The product with X − x more.
  roots-next : (f : List ℕ) (k : ℕ) → k < length xs → Roots p xs k f → Roots p xs (suc k) (raise p (get_or xs k 0) (0 ∷ f))
  roots-next f k more h =
      let x = get_or xs k 0 in
      record {
        poly = record {
          residues = raise-residues p x (0 ∷ f) positive (positive, h.poly.residues);
          size = length-raise p x (0 ∷ f) ∙ ap suc h.poly.size;
        };
        vanishes = λ j l.
            elim (ℕ_discrete j k) [
              | yes e ↦ ap (λ i. value p (raise p x (0 ∷ f)) (get_or xs i 0)) e ∙ raise-value-here p x 0 f positive (point k more) positive
              | no e ↦
                  let z = get_or xs j 0 in
                  raise-value p x 0 f z positive (point j (omega arith))
                  ∙ ap (λ v. add p 0 (mul p (sub p z x) v)) (h.vanishes j (omega arith))
                  ∙ ap (add p 0) (mul-zero p (sub p z x))
                  ∙ zero-add p 0
                  ∙ zero-mod p
            ];
        top = λ e.
            h.top (subst (λ i. get_or (0 ∷ f) i 0 ≡ 0) h.poly.size
            (sym (raise-top p x 0 f) ∙ subst (λ i. get_or (raise p x (0 ∷ f)) i 0 ≡ 0) (sym h.poly.size) e));
      }

  pub roots-of : (k : ℕ) → k ≤ length xs → Roots p xs k (roots_of p xs k)
  roots-of zero h = roots-none
  roots-of (suc k) h = roots-next (roots_of p xs k) k (omega arith) (roots-of k (omega arith))

  pub rooting-start : (out : List ℕ) → length out ≡ length xs + 1 → Rooting p xs (set out 0 1) 0
  rooting-start [] l = absurd (omega arith)
  rooting-start (c ∷ out) l = record { within = omega arith; size = l; roots = roots-none }

  module _ (out : List ℕ) (k : ℕ) (r : Rooting p xs out k) (more : k < length xs) where
    pub rooting-lent : Residues p (front (take (k + 2) out)) × (k + 2 ≤ length out)
    rooting-lent =
        let two : k + 2 ≡ suc (suc k) = omega arith in
        let inside : suc (suc k) ≤ length out = omega (arith, r.size) in (
          rw two (subst (Residues p) (sym (front-part (suc k) out inside)) r.roots.poly.residues),
          omega (arith, r.size),
        )

    pub rooting-next : (part : List ℕ) → part ≡ raised p (get_or xs k 0) (take (k + 2) out) → Rooting p xs (part ++ drop (k + 2) out) (k + 1)
    rooting-next part e =
        let two : k + 2 ≡ suc (suc k) = omega arith in
        let one : k + 1 ≡ suc k = omega arith in
        let inside : suc (suc k) ≤ length out = omega (arith, r.size) in
        let is : part ≡ raised p (get_or xs k 0) (take (suc (suc k)) out) = rw two at e in
        let (front-is, size) = raised-front p (get_or xs k 0) (suc k) out part r.roots.poly (front-part (suc k) out inside) is in
        rw (two, one) (record {
          within = omega arith;
          size = back-size (suc (suc k)) out part inside size ∙ r.size;
          roots = subst (Roots p xs (suc k)) (sym front-is) (roots-next (take (suc k) out) k more r.roots);
        })
