-- What the pair of solutions tells where a polynomial F of degree at most t agrees with all but e of t + 1 + 2e points: the locator has a
-- degree of at most e, and the numerator is F times the locator.
--   few-wrong      b ≤ e
--   numerator-is   Q = F E
--   locates        E is 0 at each of these points where F differs
use mathlib.Core.Path.{◌≡◌, refl, sym, ap, ap₂, subst, ◌∙◌}
use mathlib.Core.Bool.{true}
use mathlib.Core.Logic.{⊎_elim}
use mathlib.Core.List.{List, [], ◌∷◌, ◌++◌, map, Sublistᴰ}
use Prim.Native.Nat.{ℕ, zero, suc, ◌+◌, ◌*◌, ◌-◌, ◌<◌, ◌≤◌}
use native.Mathlib.Decide.{ℕ_discrete}
use native.Mathlib.Nat.{mod-eq_of_lt}
use native.Mathlib.Omega.{arith}
use borrow.Author.Tests.{eqb-true}
use lib.ListN.{length, get_or, replicate, length-append, length-replicate, length-map}
use Rattle.lists.specs.All.{All}
use Rattle.lists.specs.Choices.{count}
use Rattle.lists.proofs.All.{all_append}
use Rattle.lists.proofs.Cases.{le-or-lt}
use Rattle.lists.proofs.Choices.{choices-sublist, choices-passing}
use Rattle.lists.proofs.Sublists.{all-sublist, map-sublist}
use Rattle.field.specs.Arithmetic.{Prime, add, mul}
use Rattle.field.proofs.Ring.{zero-add, mul_comm, mul-residue}
use Rattle.field.proofs.Inverse.{mul-cancel}
use Rattle.polynomial.specs.Polynomial.{Poly, Points, value}
use Rattle.polynomial.proofs.Below.{zeros-residues}
use Rattle.polynomial.proofs.Division.{value-lt, value-zeros}
use Rattle.polynomial.proofs.Uniqueness.{unique}
use Rattle.trial.specs.Trial.{points_of, xs_of, ys_of, meets}
use Rattle.fit.proofs.Decoding.{points-sublist}
use Rattle.key_equation.specs.Solving.{Solves, Solutions}
use Rattle.locator.specs.Quotient.{product}
use Rattle.locator.proofs.Products.{length-add_product, add_product-residues, add_product-value}

-- The coordinates of points.
pub xs-of-points : (xs ys : List ℕ) → length xs ≡ length ys → xs_of (points_of xs ys) ≡ xs
xs-of-points [] ys l = refl
xs-of-points (x ∷ xs) [] l = absurd (omega arith)
xs-of-points (x ∷ xs) (y ∷ ys) l = ap (λ z. x ∷ z) (xs-of-points xs ys (omega arith))

pub ys-of-points : (xs ys : List ℕ) → length xs ≡ length ys → ys_of (points_of xs ys) ≡ ys
ys-of-points [] [] l = refl
ys-of-points [] (y ∷ ys) l = absurd (omega arith)
ys-of-points (x ∷ xs) [] l = absurd (omega arith)
ys-of-points (x ∷ xs) (y ∷ ys) l = ap (λ z. y ∷ z) (ys-of-points xs ys (omega arith))

module _ (p : ℕ) (P : Prime p) where
  positive : 0 < p
  positive = omega (arith, P.two)

  product-poly : (n m : ℕ) (F E : List ℕ) → Poly p n F → Poly p (suc m) E → Poly p (n + m) (product p F E)
  product-poly n m F E f e =
      let b : length E - 1 ≡ m = omega (arith, e.size) in
      let l : length (replicate {A = ℕ} (length E - 1) 0) ≡ m = length-replicate (length E - 1) 0 ∙ b in
      record {
        residues = add_product-residues p (replicate (length E - 1) 0) F E positive (zeros-residues p (length E - 1) positive);
        size = length-add_product p (replicate (length E - 1) 0) F E (omega (arith, e.size)) ∙ omega (arith, f.size);
      }

  product_value : (m : ℕ) (F E : List ℕ) (x : ℕ) → length E ≡ suc m → value p (product p F E) x ≡ mul p (value p F x) (value p E x)
  product_value m F E x e =
      add_product-value p (replicate (length E - 1) 0) F E x (omega (arith, length-replicate {A = ℕ} (length E - 1) 0))
      ∙ ap (λ z. add p z (mul p (value p F x) (value p E x))) (value-zeros p [] (length E - 1) x)
      ∙ zero-add p _
      ∙ mul-residue p (value p F x) (value p E x)

  -- ---- some of the points, at which F agrees
  module _ (xs ys : List ℕ) (k : ℕ) (points : Points p xs) (lengths : length xs ≡ length ys) (all : k ≡ length xs) where
    solves-all : (Q E : List ℕ) → Solves p xs ys k Q E
        → All (λ (q : ℕ × ℕ). value p Q q.0 ≡ mul p q.1 (value p E q.0)) (points_of xs ys)
    solves-all Q E s = go xs ys (λ j h. s j (omega arith))
      where
        go : (xs ys : List ℕ) → ((j : ℕ) → j < length xs → value p Q (get_or xs j 0) ≡ mul p (get_or ys j 0) (value p E (get_or xs j 0)))
            → All (λ (q : ℕ × ℕ). value p Q q.0 ≡ mul p q.1 (value p E q.0)) (points_of xs ys)
        go [] ys h = tt
        go (x ∷ xs) [] h = tt
        go (x ∷ xs) (y ∷ ys) h = (h 0 (omega arith), go xs ys (λ j l. h (suc j) (omega arith)))

    module _ (F : List ℕ) where
      -- At n points where F agrees, Q is a polynomial of n coefficients with the values of F E.
      same-there : (n m : ℕ) (Q E G : List ℕ) → Solves p xs ys k Q E → Poly p n Q → Poly p n G → length E ≡ suc m
          → ((x : ℕ) → value p G x ≡ mul p (value p F x) (value p E x)) → n ≤ count (meets p F) (points_of xs ys) → Q ≡ G
      same-there n m Q E G s h_q h_g e values enough =
          let (c, chosen, right) = choices-passing (meets p F) n (points_of xs ys) enough in
          let (part, size) = choices-sublist n (points_of xs ys) c chosen in
          let fine : Points p (xs_of c) =
          points-sublist p (subst (Sublistᴰ (xs_of c)) (xs-of-points xs ys lengths) (map-sublist (λ (q : ℕ × ℕ). q.0) part)) points in
          unique p P n (xs_of c) Q G fine (omega (arith, length-map c (λ (q : ℕ × ℕ). q.0))) h_q h_g
          (go c right (all-sublist (λ (q : ℕ × ℕ). value p Q q.0 ≡ mul p q.1 (value p E q.0)) part (solves-all Q E s)))
        where
          go : (c : List (ℕ × ℕ)) → All (λ q. meets p F q ≡ true) c
              → All (λ (q : ℕ × ℕ). value p Q q.0 ≡ mul p q.1 (value p E q.0)) c
              → map (value p Q) (xs_of c) ≡ map (value p G) (xs_of c)
          go [] right holds = refl
          go (q ∷ c) right holds =
              ap₂ ◌∷◌
              (holds.0
              ∙ ap (λ z. mul p z (value p E q.0)) (sym (eqb-true (value p F q.0) q.1 right.0))
              ∙ sym (values q.0))
              (go c right.1 holds.1)

      module _ (t a b : ℕ) (Q1 E1 Q2 E2 : List ℕ) (s : Solutions p t xs ys k a b Q1 E1 Q2 E2) (h_f : Poly p (suc t) F) where
        -- The first solution's degree is not below the count of those that agree: its top is not that of F E.
        not_first : suc a ≤ count (meets p F) (points_of xs ys) → ⊥
        not_first enough =
            let m : ℕ = a - t - 1 in
            let size : length E1 ≡ suc m = s.one.locator.size ∙ omega (arith, s.least) in
            let short : Poly p (suc t + m) (product p F E1) =
            product-poly (suc t) m F E1 h_f (record { residues = s.one.locator.residues; size = size }) in
            let G : List ℕ = product p F E1 ++ replicate 1 0 in
            let long : Poly p (suc a) G = record {
              residues = all_append (λ c. c < p) (product p F E1) (replicate 1 0) short.residues (zeros-residues p 1 positive);
              size = length-append (product p F E1) (replicate 1 0) ∙ omega (arith, short.size, s.least);
            } in
            let same : Q1 ≡ G =
            same-there (suc a) m Q1 E1 G s.one.solves s.one.numerator long size
            (λ x. value-zeros p (product p F E1) 1 x ∙ product_value m F E1 x size) enough in
            s.top_one (ap (λ l. get_or l a 0) same ∙ over (product p F E1) a (omega (arith, short.size, s.least)))
          where
            over : (l : List ℕ) (j : ℕ) → length l ≡ j → get_or (l ++ replicate 1 0) j 0 ≡ 0
            over [] zero h = refl
            over [] (suc j) h = absurd (omega arith)
            over (c ∷ l) zero h = absurd (omega arith)
            over (c ∷ l) (suc j) h = over l j (omega arith)

        module _ (e : ℕ) (window : k ≡ t + 1 + 2 * e) (right : k ≤ count (meets p F) (points_of xs ys) + e) where
          pub few-wrong : b ≤ e
          few-wrong =
              ⊎_elim (λ h. h) (λ h. absurd (not_first (omega (arith, s.sum)))) (le-or-lt b e)

          pub numerator-is : Q2 ≡ product p F E2
          numerator-is =
              same-there (suc (b + t)) b Q2 E2 (product p F E2) s.two.solves s.two.numerator
              (subst (λ n. Poly p n (product p F E2)) (omega arith) (product-poly (suc t) b F E2 h_f s.two.locator))
              s.two.locator.size
              (λ x. product_value b F E2 x s.two.locator.size)
              (omega (arith, few-wrong))

          -- The locator is 0 at each of the points that is wrong.
          pub locates : (j : ℕ) → j < k → get_or ys j 0 < p → (value p F (get_or xs j 0) ≡ get_or ys j 0 → ⊥) → value p E2 (get_or xs j 0) ≡ 0
          locates j h small wrong =
              let x = get_or xs j 0 in
              let y = get_or ys j 0 in
              let e = value p E2 x in
              let low : e < p = value-lt p E2 x positive in
              let same : mul p e (value p F x) ≡ mul p e y =
              mul_comm p e (value p F x)
              ∙ sym (product_value b F E2 x s.two.locator.size)
              ∙ ap (λ q. value p q x) (sym numerator-is)
              ∙ s.two.solves j h
              ∙ mul_comm p y e in
              elim (ℕ_discrete e 0) [
                | yes z ↦ z
                | no n ↦
                    absurd (wrong (sym (mod-eq_of_lt (value-lt p F x positive))
                    ∙ mul-cancel p P e (value p F x) y (λ z. n (sym (mod-eq_of_lt low) ∙ z)) same
                    ∙ mod-eq_of_lt small))
              ]
