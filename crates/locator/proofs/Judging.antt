-- What is answered for a solution, answer by answer.
--   exact-given  the quotient, if nothing remains
--   judged-..    a locator of too high a degree, something that remains, and the quotient, if enough points agree
use mathlib.Core.Path.{◌≡◌, refl, sym, ap, ap₂, subst, ◌∙◌}
use mathlib.Core.Bool.{Bool, true, false, cond}
use mathlib.Core.Option.{Option, none, some}
use mathlib.Core.List.{List}
use Prim.Native.Nat.{ℕ, ◌+◌, ◌-◌, ◌≤◌, ◌<◌}
use native.Mathlib.Omega.{arith}
use borrow.Author.Tests.{le-leb, lt-leb}
use lib.Dec.{leb}
use lib.ListN.{length, get_or, take, replicate}
use lib.Seq.{length-take-le}
use Rattle.lists.specs.Tabulate.{pad}
use Rattle.lists.proofs.All.{all_append}
use Rattle.field.specs.Arithmetic.{inv}
use Rattle.polynomial.specs.Polynomial.{Residues}
use Rattle.polynomial.proofs.Below.{zeros-residues}
use Rattle.std.specs.Prelude.{Some, None}
use Rattle.std.specs.Bool.{then_some}
use Rattle.trial.specs.Trial.{hits}
use Rattle.trial.specs.Results.{result_of}
use Rattle.trial.proofs.Counting.{hits-zeros}
use Rattle.locator.specs.Quotient.{long_division, all_zero, exact_quotient}
use Rattle.locator.specs.Answer.{if_enough, quotient_of, located_by}
use Rattle.locator.proofs.Products.{division-residues}
use Rattle.locator.proofs.Exact.{exact-sound}

-- What is answered under the test whether nothing remains.
pub exact-given : (p i : ℕ) (E : List ℕ) (n : ℕ) (Q l : List ℕ) → l ≡ (long_division p i E n Q).1 → (f : List ℕ)
    → f ≡ pad 4 (long_division p i E n Q).0 → then_some (all_zero l) f ≡ result_of (exact_quotient p i E n Q)
unfolding exact_quotient
exact-given p i E n Q l rest f is = ap₂ then_some (ap all_zero rest) is ∙ by (all_zero (long_division p i E n Q).1)
  where
    by : (c : Bool) → then_some c (pad 4 (long_division p i E n Q).0) ≡ result_of (cond c (some (long_division p i E n Q).0) none)
    by true = refl
    by false = refl

module _ (p t need spare : ℕ) (xs ys : List ℕ) (b : ℕ) (q e : List ℕ) where
  pub judged-high : spare < b → None ≡ result_of (located_by p t need spare xs ys b q e)
  unfolding located_by
  judged-high h = rw (lt-leb b spare h) refl

  module _ (low : b ≤ spare) where
    opened : (o : Option (List ℕ)) → quotient_of p t b q e ≡ o → located_by p t need spare xs ys b q e ≡ if_enough p need xs ys o
    unfolding located_by
    opened o same = rw (le-leb b spare low) (ap (if_enough p need xs ys) same)

    answered-none : (o : Option (List ℕ)) → None ≡ result_of o → o ≡ none
    answered-none none h = refl
    answered-none (some g) h = absurd (cc)

    answered-some : (o : Option (List ℕ)) (f : List ℕ) → Some f ≡ result_of o → (g : List ℕ) × (o ≡ some g) × (f ≡ pad 4 g)
    answered-some none f h = absurd (cc)
    answered-some (some g) f h = (g, refl, cc)

    pub judged-rest : None ≡ result_of (quotient_of p t b q e) → None ≡ result_of (located_by p t need spare xs ys b q e)
    judged-rest told = sym (ap result_of (opened none (answered-none (quotient_of p t b q e) told)))

    -- A quotient f was found: t + 1 residues, with 0 behind them.
    module _ (f : List ℕ) (found : Some f ≡ result_of (quotient_of p t b q e)) (degree : t ≤ 3) (few : b ≤ 3) (room-q : length q ≡ 12)
        (room-e : length e ≡ 8) (positive : 0 < p) where
      quotient : (g : List ℕ) × (quotient_of p t b q e ≡ some g) × (f ≡ pad 4 g)
      quotient = answered-some (quotient_of p t b q e) f found

      abbrev g : List ℕ
      g = quotient.0

      divided : g ≡ (long_division p (inv p (get_or e b 0)) (take (b + 1) e) (t + 1) (take (b + t + 1) q)).0
      divided = exact-sound p (inv p (get_or e b 0)) (take (b + 1) e) (t + 1) (take (b + t + 1) q) g quotient.1

      some-e : 0 < length (take (b + 1) e)
      some-e = omega (arith, length-take-le (b + 1) e (omega (arith, room-e)))

      pub quotient-fine : Residues p f
      quotient-fine =
          subst (Residues p) (sym quotient.2)
          (all_append (λ c. c < p) g (replicate (4 - length g) 0)
          (subst (Residues p) (sym divided)
          (division-residues p (inv p (get_or e b 0)) (take (b + 1) e) some-e (t + 1) (take (b + t + 1) q) positive))
          (zeros-residues p (4 - length g) positive))

      same-hits : hits p f xs ys ≡ hits p g xs ys
      same-hits = ap (λ h. hits p h xs ys) quotient.2 ∙ hits-zeros p g (4 - length g) xs ys

      -- It is the answer if enough points agree.
      pub judged-given : (passed : Bool) → passed ≡ leb need (hits p f xs ys)
          → then_some passed f ≡ result_of (located_by p t need spare xs ys b q e)
      judged-given passed told =
          by passed (told ∙ ap (leb need) same-hits) ∙ sym (ap result_of (opened (some g) quotient.1))
        where
          by : (passed : Bool) → passed ≡ leb need (hits p g xs ys) → then_some passed f ≡ result_of (if_enough p need xs ys (some g))
          by true h = rw (sym h) (ap Some quotient.2)
          by false h = rw (sym h) refl
