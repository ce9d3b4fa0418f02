-- The locator answers what fits: what it accepts fits, and what fits it finds.
--   accepted-exactly   of what is answered: times the locator it is the numerator, the locator's degree is at most `spare`, and at least
--                      `need` of all points agree
--   located_fits       what is answered fits
--   located-found      what fits is answered
--   located-fit        so it is what decoding by trial answers
--   as-by-trial        and, where as many must agree as for an opening, the opening
use mathlib.Core.Path.{◌≡◌, refl, sym, ap, subst, ◌∙◌}
use mathlib.Core.Option.{some}
use mathlib.Core.List.{List}
use Prim.Native.Nat.{ℕ, suc, ◌+◌, ◌*◌, ◌≤◌, ◌<◌}
use native.Mathlib.Omega.{arith}
use borrow.Author.Tests.{le-leb}
use lib.Dec.{leb}
use lib.ListN.{length, get_or, take, length-take}
use lib.Seq.{get_or-take}
use Rattle.lists.specs.Choices.{count}
use Rattle.lists.proofs.Choices.{count-take}
use Rattle.field.specs.Arithmetic.{Prime, mul, inv}
use Rattle.polynomial.specs.Polynomial.{Poly, Points}
use Rattle.trial.specs.Trial.{points_of, points_sent, meets, hits}
use Rattle.fit.specs.Fit.{sent, Fits, fit}
use Rattle.fit.specs.Opening.{needed, opening_of}
use Rattle.fit.proofs.Decoding.{points-sent-all, hits-points-sent, fit-by}
use Rattle.key_equation.specs.declared.Located.{Located}
use Rattle.key_equation.specs.Solved.{Solved}
use Rattle.locator.specs.Quotient.{product, long_division, exact_quotient}
use Rattle.locator.specs.Answer.{if_enough, quotient_of, located_by}
use Rattle.locator.proofs.Products.{division-size, division-residues}
use Rattle.locator.proofs.Exact.{answered-exactly, none-not-some, test-passed, enough-sound, enough-found}
use Rattle.locator.proofs.Exact.{exact-sound, inverse-top, product-exact}
use Rattle.locator.proofs.Locating.{few-wrong, numerator-is}

-- The code's numbers, and those of the laws.
quotient_is : (p t b : ℕ) (q e : List ℕ)
    → quotient_of p t b q e ≡ exact_quotient p (inv p (get_or e b 0)) (take (suc b) e) (suc t) (take (suc (b + t)) q)
quotient_is p t b q e =
    let i : b + 1 ≡ suc b = omega arith in
    let j : t + 1 ≡ suc t = omega arith in
    let k : b + t + 1 ≡ suc (b + t) = omega arith in
    rw (i, j, k) refl

module _ (p : ℕ) (P : Prime p) (t need spare : ℕ) (xs ys : List ℕ) (lengths : length xs ≡ length ys) (points : Points p xs)
    (all : sent p ys ≡ need + spare) (least : 2 * t + 1 ≤ need) (few : spare ≤ t) (px py : List ℕ)
    (gathered : points_of px py ≡ take (t + 1 + 2 * spare) (points_sent p xs ys)) (size-x : length px ≡ t + 1 + 2 * spare)
    (size-y : length py ≡ length px) (fine : Points p px) (r : Located) (s : Solved p t px py r) where
  abbrev b : ℕ
  b = r.degree

  abbrev E : List ℕ
  E = take (suc b) r.locator

  abbrev Q : List ℕ
  Q = take (suc (b + t)) r.numerator

  i : ℕ
  i = inv p (get_or r.locator b 0)

  positive : 0 < p
  positive = omega (arith, P.two)

  size-E : length E ≡ suc b
  size-E = s.pair.two.locator.size

  some-E : 0 < length E
  some-E = omega (arith, size-E)

  -- What is answered fits.
  located_fits : (f : List ℕ) → located_by p t need spare xs ys b r.numerator r.locator ≡ some f → Fits p t need xs ys f
  unfolding located_by i
  located_fits f e =
      let (low, given) = test-passed (leb b spare) (if_enough p need xs ys (quotient_of p t b r.numerator r.locator)) f e in
      let (found, enough) = enough-sound p need xs ys (quotient_of p t b r.numerator r.locator) f given in
      let is : f ≡ (long_division p i E (suc t) Q).0 =
      exact-sound p i E (suc t) Q f (sym (quotient_is p t b r.numerator r.locator) ∙ found) in
      record {
        poly = subst (Poly p (suc t)) (sym is) (record {
          residues = division-residues p i E some-E (suc t) Q positive;
          size = division-size p i E some-E (suc t) Q (omega (arith, s.pair.two.numerator.size));
        });
        enough = enough;
      }

  -- What is answered leaves nothing: times the locator it is the numerator.
  pub accepted-exactly : (f : List ℕ) → located_by p t need spare xs ys b r.numerator r.locator ≡ some f
      → (Q ≡ product p f E) × (b ≤ spare) × (need ≤ hits p f xs ys)
  accepted-exactly f e =
      let j : b + t + 1 ≡ suc (b + t) = omega arith in
      let k : b + 1 ≡ suc b = omega arith in
      let all =
      answered-exactly p P t need spare xs ys b r.numerator r.locator
      (omega (arith, s.pair.two.numerator.size, length-take (suc (b + t)) r.numerator))
      (omega (arith, size-E, length-take (suc b) r.locator))
      (rw j s.pair.two.numerator.residues) (rw k s.pair.two.locator.residues)
      (λ z. s.pair.top_two (get_or-take (suc b) r.locator b 0 (omega arith) ∙ z)) f e in
      rw (j, k) at all

  -- Where F fits, it differs from at most as many of the points solved for as may be wrong.
  module _ (F : List ℕ) (fits : Fits p t need xs ys F) where
    window : t + 1 + 2 * spare ≤ count (meets p F) (points_of px py) + spare
    window =
        let qs = points_sent p xs ys in
        omega (
          arith,
          fits.enough,
          hits-points-sent p F xs ys positive,
          points-sent-all p xs ys lengths,
          count-take (meets p F) (t + 1 + 2 * spare) qs,
          ap (count (meets p F)) gathered,
        )

    low : b ≤ spare
    low = few-wrong p P px py (length px) fine (sym size-y) refl F t _ _ _ _ _ _ s.pair fits.poly spare size-x (omega (arith, window))

    is-product : Q ≡ product p F E
    is-product =
        numerator-is p P px py (length px) fine (sym size-y) refl F t _ _ _ _ _ _ s.pair fits.poly spare size-x
        (omega (arith, window))

    -- The top of the locator has an inverse.
    inverse : mul p i (get_or E b 0) ≡ 1
    unfolding i
    inverse = inverse-top p P b r.locator s.pair.two.locator.residues size-E s.pair.top_two

    -- What fits is answered.
    located-found : located_by p t need spare xs ys b r.numerator r.locator ≡ some F
    unfolding located_by i
    located-found =
        rw (le-leb b spare low)
        (ap (if_enough p need xs ys)
        (quotient_is p t b r.numerator r.locator
        ∙ product-exact p i E b size-E inverse positive (suc t) Q F fits.poly is-product)
        ∙ enough-found p need xs ys F fits.enough)

  pub located-fit : located_by p t need spare xs ys b r.numerator r.locator ≡ fit p t need xs ys
  located-fit =
      fit-by p P t need xs ys points (omega arith) (located_by p t need spare xs ys b r.numerator r.locator) located_fits
      (λ e F fits. none-not-some _ F e (located-found F fits))

-- "For each list, whole or with lamps dark, it must answer as the opening" does: where 2t + 1 must agree, and all but t of those sent, what
-- is made of any solution for the first t + 1 + 2 spare points sent is the opening.
pub as-by-trial : (p : ℕ) → Prime p → (t spare : ℕ) (xs ys : List ℕ) → length xs ≡ length ys → Points p xs → spare ≤ t
    → sent p ys ≡ needed t (2 * t + 1) (sent p ys) + spare → (px py : List ℕ)
    → points_of px py ≡ take (t + 1 + 2 * spare) (points_sent p xs ys) → length px ≡ t + 1 + 2 * spare → length py ≡ length px → Points p px
    → (r : Located) → Solved p t px py r
    → located_by p t (needed t (2 * t + 1) (sent p ys)) spare xs ys r.degree r.numerator r.locator ≡ opening_of p t xs ys
as-by-trial p P t spare xs ys lengths points few all px py gathered size-x size-y fine r s =
    located-fit p P t (needed t (2 * t + 1) (sent p ys)) spare xs ys lengths points all (omega arith) few px py gathered size-x size-y fine
    r
    s
