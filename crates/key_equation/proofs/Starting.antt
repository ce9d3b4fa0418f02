-- The start: how many points the polynomial through the first t + 1 goes through, and the pair of solutions for these.
--   start-residues, start-through   the polynomial, in an array of four, and the first t + 1 points
--   solving-start                   the pair that `solve_from` starts with
--   solved-at-once                  where that is for all points
--   solving-end                     what the loop of `solve_from` ends with
use mathlib.Core.Path.{◌≡◌, refl, sym, ap, subst, ◌∙◌}
use mathlib.Core.List.{List, [], ◌∷◌, ◌++◌, append_assoc}
use Prim.Native.Nat.{ℕ, suc, ◌+◌, ◌-◌, ◌<◌, ◌≤◌}
use native.Mathlib.Nat.{mod-eq_of_lt}
use native.Mathlib.Omega.{arith}
use lib.ListN.{length, get_or, take, drop, replicate, length-append, length-replicate}
use lib.Seq.{length-take-le, take_at, get_or-take}
use Rattle.std.proofs.lemmas.List.{take-replicate, get_or-map}
use Rattle.lists.specs.Tabulate.{pad}
use Rattle.lists.proofs.Padded.{four}
use Rattle.lists.proofs.All.{all-get_or, all_take, all_append, distinct-take}
use Rattle.field.specs.Arithmetic.{Prime, mul}
use Rattle.field.proofs.Ring.{mul-zero, mul-one}
use Rattle.polynomial.specs.Polynomial.{Poly, Points, Residues, value}
use Rattle.polynomial.proofs.Below.{zeros-residues}
use Rattle.polynomial.proofs.Division.{value-alone, value-zeros}
use Rattle.interpolation.specs.Interpolation.{interpolate}
use Rattle.interpolation.proofs.Interpolation.{interpolate-poly, interpolate-values}
use Rattle.key_equation.specs.Solving.{Through, Solution, Solutions, Roots}
use Rattle.key_equation.specs.Partial.{numerator_of, locator_of, Solving}
use Rattle.key_equation.specs.declared.Partial.{Partial}
use Rattle.key_equation.specs.Solved.{Solved}
use Rattle.key_equation.proofs.Rooting.{roots_of, roots-of}

-- ---- the polynomial through the first t + 1 points
module _ (p : ℕ) (P : Prime p) (t : ℕ) (low : t ≤ 3) (xs ys : List ℕ) (points : Points p xs) (values : Residues p ys)
    (l : length xs ≡ length ys) (enough : t + 1 ≤ length xs) where
  abbrev px : List ℕ
  px = take (suc t) xs

  abbrev py : List ℕ
  py = take (suc t) ys

  size-x : length px ≡ suc t
  size-x = length-take-le (suc t) xs (omega arith)

  size-y : length py ≡ suc t
  size-y = length-take-le (suc t) ys (omega arith)

  abbrev first : List ℕ
  first = interpolate p px py

  first-poly : Poly p (suc t) first
  first-poly =
      subst (λ n. Poly p n first) size-x
      (interpolate-poly p P px py (all_take (λ c. c < p) (suc t) ys values) (size-x ∙ sym size-y))

  -- It takes the values at the points, so that the locator 1 holds there.
  first-value : (j : ℕ) → j < suc t → value p first (get_or xs j 0) ≡ get_or ys j 0
  first-value j h =
      ap (value p first) (sym (get_or-take (suc t) xs j 0 h))
      ∙ sym (get_or-map (value p first) px j 0 0 (omega (arith, size-x)))
      ∙ ap (λ l. get_or l j 0)
      (interpolate-values p P px py (all_take (λ c. c < p) (suc t) xs points.0, distinct-take (suc t) xs points.1)
      (all_take (λ c. c < p) (suc t) ys values) (size-x ∙ sym size-y))
      ∙ get_or-take (suc t) ys j 0 h

  -- In an array of four.
  module _ (f : List ℕ) (is : f ≡ pad 4 (interpolate p (take (t + 1) xs) (take (t + 1) ys))) where
    padded : f ≡ first ++ replicate (4 - length first) 0
    padded = let i : t + 1 ≡ suc t = omega arith in rw i at is

    pub start-residues : Residues p f
    start-residues =
        subst (Residues p) (sym padded)
        (all_append (λ c. c < p) first (replicate (4 - length first) 0) first-poly.residues
        (zeros-residues p (4 - length first) (omega (arith, P.two))))

    pub start-size : length f ≡ 4
    start-size =
        ap length padded ∙ length-append first (replicate (4 - length first) 0)
        ∙ omega (arith, length-replicate {A = ℕ} (4 - length first) 0, first-poly.size)

    same-value : (x : ℕ) → value p f x ≡ value p first x
    same-value x = ap (λ z. value p z x) padded ∙ value-zeros p first (4 - length first) x

    pub start-through : Through p xs ys (t + 1) f
    start-through j h = same-value (get_or xs j 0) ∙ first-value j (omega arith)

    -- ---- the pair for the first k points, which it goes through
    module _ (k : ℕ) (least : t + 1 ≤ k) (within : k ≤ length xs) (through : Through p xs ys k f) where
      one-lt : 1 < p
      one-lt = omega (arith, P.two)

      two-start : Solution p (suc t) 1 xs ys k first (1 ∷ [])
      two-start = record {
        numerator = first-poly;
        locator = record { residues = (one-lt, tt); size = refl };
        solves = λ j h.
            let y = get_or ys j 0 in
            sym (same-value (get_or xs j 0))
            ∙ through j h
            ∙ sym (ap (mul p y) (value-alone p (get_or xs j 0) 1 one-lt)
            ∙ mul-one p y
            ∙ mod-eq_of_lt (all-get_or (λ c. c < p) ys j 0 (omega arith) values));
      }

      one-start : (Q : List ℕ) → Roots p xs k Q → Solution p (suc k) (k - t) xs ys k Q (replicate (k - t) 0)
      one-start Q r = record {
        numerator = r.poly;
        locator = record {
          residues = zeros-residues p (k - t) (omega (arith, P.two));
          size = length-replicate (k - t) 0;
        };
        solves = λ j h.
            r.vanishes j h
            ∙ sym (ap (mul p (get_or ys j 0)) (value-zeros p [] (k - t) (get_or xs j 0)) ∙ mul-zero p (get_or ys j 0));
      }

      pair-start : (Q : List ℕ) → Roots p xs k Q → Solutions p t xs ys k k 0 Q (replicate (k - t) 0) first (1 ∷ [])
      pair-start Q r =
          let none : suc (0 + t) ≡ suc t = omega arith in
          record {
            least = least;
            sum = omega arith;
            one = one-start Q r;
            two = subst (λ n. Solution p n 1 xs ys k first (1 ∷ [])) (sym none) two-start;
            top_one = r.top;
            top_two = λ e. absurd (omega (arith, e));
          }

      abbrev array : List ℕ
      array = get_or f 0 0 ∷ get_or f 1 0 ∷ get_or f 2 0 ∷ get_or f 3 0 ∷ replicate 8 0

      -- In front of an array of twelve.
      front-first : take (suc t) array ≡ first
      front-first =
          ap (λ z. take (suc t) (z ++ replicate 8 0)) (four f start-size ∙ padded)
          ∙ ap (take (suc t)) (append_assoc first (replicate (4 - length first) 0) (replicate 8 0))
          ∙ take_at first (replicate (4 - length first) 0 ++ replicate 8 0) (suc t) first-poly.size

      -- What is 0 at the points of a part is so at those of the whole.
      roots-within : (Q : List ℕ) → Roots p (take k xs) k Q → Roots p xs k Q
      roots-within Q r = record {
        poly = r.poly;
        vanishes = λ j h. ap (value p Q) (sym (get_or-take k xs j 0 h)) ∙ r.vanishes j h;
        top = r.top;
      }

      -- In front of their arrays.
      pub solving-start : (part : List ℕ) → length xs ≤ t + 7 → Roots p (take k xs) (length (take k xs)) part
          → Solving p t xs ys k (record {
            numerator = part ++ drop (k + 1) (replicate 12 0);
            locator = replicate 8 0;
            numerator_len = k + 1;
            locator_len = k - t;
          }) (record { numerator = array; locator = 1 ∷ replicate 7 0; numerator_len = t + 1; locator_len = 1 })
      solving-start part most r =
          let one : k + 1 ≡ suc k = omega arith in
          let two : t + 1 ≡ suc t = omega arith in
          let roots : Roots p xs k part = roots-within part (subst (λ n. Roots p (take k xs) n part) (length-take-le k xs within) r) in
          record {
            a = k;
            b = 0;
            first_numerator = one;
            first_locator = refl;
            second_numerator = omega arith;
            second_locator = refl;
            pair =
                rw (
                  one,
                  two,
                  take_at part (drop (suc k) (replicate 12 0)) (suc k) roots.poly.size,
                  take-replicate {X = ℕ} (k - t) 8 0 (omega arith),
                  front-first,
                )
                (pair-start part roots);
          }

      -- Where these are all points, there is nothing to solve.
      pub solved-at-once : k ≡ length xs → Solved p t xs ys (record {
        numerator = get_or f 0 0 ∷ get_or f 1 0 ∷ get_or f 2 0 ∷ get_or f 3 0 ∷ replicate 8 0;
        locator = 1 ∷ replicate 7 0;
        degree = 0;
      })
      solved-at-once all = record {
        a = k;
        first_numerator = roots_of p xs k;
        first_locator = replicate (k - t) 0;
        pair =
            subst (λ n. Solutions p t xs ys n k 0 (roots_of p xs k) (replicate (k - t) 0) (take (suc (0 + t)) array) (1 ∷ [])) all
            (let none : 0 + t ≡ t = omega arith in
            rw none
            (subst (λ z. Solutions p t xs ys k k 0 (roots_of p xs k) (replicate (k - t) 0) z (1 ∷ [])) (sym front-first)
            (pair-start (roots_of p xs k) (roots-of p P xs points.0 k within))));
      }

-- ---- the end
pub solving-end : (p t : ℕ) (xs ys : List ℕ) (n : ℕ) (s r : Partial) → n ≡ length xs → Solving p t xs ys n s r
    → Solved p t xs ys (record { numerator = r.numerator; locator = r.locator; degree = r.locator_len - 1 })
solving-end p t xs ys n s r all h =
    let b : r.locator_len - 1 ≡ h.b = omega (arith, h.second_locator) in
    record {
      a = h.a;
      first_numerator = numerator_of s;
      first_locator = locator_of s;
      pair = rw (b, ← all, ← h.second_numerator, ← h.second_locator) h.pair;
    }
