-- Two solutions brought up to one more point.
--   solving-next   what a turn of the loop of `solve_from` gives, the one with the shorter numerator being taken from the other
use mathlib.Core.Path.{◌≡◌, refl, sym, subst, ◌∙◌}
use mathlib.Core.Logic.{⊎_elim}
use mathlib.Core.List.{List}
use Prim.Native.Nat.{ℕ, suc, ◌+◌, ◌<◌, ◌≤◌}
use Rattle.lists.proofs.Cases.{le-or-lt}
use native.Mathlib.Omega.{arith}
use lib.ListN.{length, get_or}
use Rattle.field.specs.Arithmetic.{Prime}
use Rattle.polynomial.specs.Polynomial.{Residues}
use Rattle.key_equation.specs.declared.Partial.{Partial}
use Rattle.key_equation.specs.Solving.{Solutions}
use Rattle.key_equation.specs.Partial.{numerator_of, locator_of, Holds, Held, Mixed, Met, Solving}
use Rattle.key_equation.proofs.Solving.{first_holds, second_holds, first-mixed, second-mixed}

module _ (p : ℕ) (P : Prime p) (t : ℕ) (low : t ≤ 3) (xs ys : List ℕ) (points : Residues p xs) (k : ℕ) (inside : k < length xs)
    (few : k ≤ t + 6) (s r : Partial) (h : Solving p t xs ys k s r) where
  sum : h.a + h.b ≡ k
  sum = h.pair.sum

  least : t + 1 ≤ h.a
  least = h.pair.least

  module _ (s' r' : Partial) where
    build : (a b : ℕ) (Q1 E1 Q2 E2 : List ℕ) → Holds Q1 E1 s' → Holds Q2 E2 r' → Solutions p t xs ys (suc k) a b Q1 E1 Q2 E2
        → Solving p t xs ys (suc k) s' r'
    build a b Q1 E1 Q2 E2 i j pair = record {
      a = a;
      b = b;
      first_numerator = i.numerator_len ∙ pair.one.numerator.size;
      first_locator = i.locator_len ∙ pair.one.locator.size;
      second_numerator = j.numerator_len ∙ pair.two.numerator.size;
      second_locator = j.locator_len ∙ pair.two.locator.size;
      pair = rw (i.numerator, i.locator, j.numerator, j.locator) pair;
    }

    first-kept : s' ≡ s → Holds (numerator_of s) (locator_of s) s'
    first-kept e =
        subst (Holds (numerator_of s) (locator_of s)) (sym e) (record {
          numerator_len = h.first_numerator ∙ sym h.pair.one.numerator.size;
          locator_len = h.first_locator ∙ sym h.pair.one.locator.size;
          numerator = refl;
          locator = refl;
        })

    second-kept : r' ≡ r → Holds (numerator_of r) (locator_of r) r'
    second-kept e =
        subst (Holds (numerator_of r) (locator_of r)) (sym e) (record {
          numerator_len = h.second_numerator ∙ sym h.pair.two.numerator.size;
          locator_len = h.second_locator ∙ sym h.pair.two.locator.size;
          numerator = refl;
          locator = refl;
        })

    abbrev x : ℕ
    x = get_or xs k 0

    abbrev y : ℕ
    y = get_or ys k 0

    first-lower : h.a ≤ h.b + t → Met p x y s r s' r' → Solving p t xs ys (suc k) s' r'
    first-lower lower =
        ⊎_elim
        (λ (m : Held p x y s r s' r').
        build _ _ _ _ _ _ (first-kept m.first) m.second (first_holds p P xs ys points k inside t _ _ _ _ _ _ h.pair m.holds))
        (λ (m : Mixed p x y s r s' r').
        build _ _ _ _ _ _ m.first m.second (first-mixed p P xs ys points k inside t _ _ _ _ _ _ h.pair lower m.differs))

    second-lower : h.b + t < h.a → Met p x y r s r' s' → Solving p t xs ys (suc k) s' r'
    second-lower lower =
        ⊎_elim
        (λ (m : Held p x y r s r' s').
        build _ _ _ _ _ _ m.second (second-kept m.first) (second_holds p P xs ys points k inside t _ _ _ _ _ _ h.pair m.holds))
        (λ (m : Mixed p x y r s r' s').
        build _ _ _ _ _ _ m.second m.first (second-mixed p P xs ys points k inside t _ _ _ _ _ _ h.pair lower m.differs))

    -- The point at place k.
    pub solving-next : (u v : ℕ) → u ≡ x → v ≡ y → (s.numerator_len ≤ r.numerator_len → Met p u v s r s' r')
        → (r.numerator_len < s.numerator_len → Met p u v r s r' s') → Solving p t xs ys (suc k) s' r'
    solving-next u v at-x at-y shorter longer =
        ⊎_elim
        (λ (l : h.a ≤ h.b + t).
        first-lower l (rw (at-x, at-y) at (shorter (omega (arith, h.first_numerator, h.second_numerator)))))
        (λ (l : h.b + t < h.a).
        second-lower l (rw (at-x, at-y) at (longer (omega (arith, h.first_numerator, h.second_numerator)))))
        (le-or-lt h.a (h.b + t))
