-- Openings by an error locator, to be computed for either prime: the marked lists, those with lamps dark, and others. Most values lie on
-- 7 + 3X (t = 1) or on 7 + 3X + 2X² + X³ (t = 3), those of M6 on 0; some are wrong, and for some that were not sent the prime stands.
--   Example                  a list of values, two solutions, and what opens; example .. makes one
--   points, need, window     of an example: 1 to n, how many must agree, and the points that are solved for
--   solves, tests            the tests for `Solves`, and for `Solution` and a number that is not 0
--   made p e, Computed p e   what is computed of an example; its numbers are solutions, and what is made of the second is what opens
--   Opened p e               the second meets what solving promises, and the opening, by trial, is what opens
--   examples w, too_few_sent w   lists that are solved, and lists of which fewer are sent than must agree
-- Shown true in proofs/Examples.
use Rattle.std.specs.Prelude.{◌≡◌, Bool, true, false, ◌&&◌, List, [], ◌∷◌, ℕ, suc, ◌+◌, ◌*◌, ◌-◌, ◌%◌, ltb, leb, eqb, length, get_or, take, replicate}
use Rattle.std.proofs.Math.Option.{Option, none, some}
use Rattle.lists.specs.Tabulate.{tabulate, pad}
use Rattle.field.specs.declared.Width.{Width}
use Rattle.field.specs.declared.Width.TheVariants.{Narrow, Wide}
use Rattle.field.specs.Modulus.{prime_of}
use Rattle.field.specs.Arithmetic.{neg, mul}
use Rattle.polynomial.specs.Polynomial.{residues, value}
use Rattle.trial.specs.Trial.{points_sent, xs_of, ys_of}
use Rattle.fit.specs.Fit.{sent}
use Rattle.fit.specs.Opening.{needed, opening_of}
use Rattle.key_equation.specs.declared.Located.{Located}
use Rattle.key_equation.specs.Solved.{Solved}
use Rattle.locator.specs.Answer.{located_by}

-- Values at the points 1 to n, of which `spare` may be wrong, both solutions, the first with its numerator's degree, and what opens.
pub record Example : Type 0 where
  pub t : ℕ
  pub spare : ℕ
  pub ys : List ℕ
  pub first : Located
  pub second : Located
  pub opens : Option (List ℕ)

-- A solution in front of its arrays.
abbrev in_arrays : ℕ → List ℕ → List ℕ → Located
in_arrays d Q E = record { numerator = pad 12 Q; locator = pad 8 E; degree = d }

-- An example of its numbers: t, spare, the values; a, Q and E of the first solution; b, Q and E of the second; what opens.
abbrev example : ℕ → ℕ → List ℕ → ℕ → List ℕ → List ℕ → ℕ → List ℕ → List ℕ → Option (List ℕ) → Example
example t s ys a Q1 E1 b Q2 E2 o = record { t = t; spare = s; ys = ys; first = in_arrays a Q1 E1; second = in_arrays b Q2 E2; opens = o }

-- The points.
abbrev pub points : Example → List ℕ
points e = tabulate suc (length e.ys)

module _ (p : ℕ) where
  -- Q(x) = y E(x) at each of the points.
  abbrev pub solves : List ℕ → List ℕ → List ℕ → List ℕ → Bool
  solves [] ys Q E = true
  solves (x ∷ xs) [] Q E = false
  solves (x ∷ xs) (y ∷ ys) Q E = eqb (value p Q x) (mul p y (value p E x)) && solves xs ys Q E

  -- A solution of n and m coefficients, residues, and a number c that is not 0.
  abbrev pub tests : List (ℕ × ℕ) → ℕ → ℕ → List ℕ → List ℕ → ℕ → List Bool
  tests qs n m Q E c =
      residues p Q ∷ eqb (length Q) n ∷ residues p E ∷ eqb (length E) m ∷ solves (xs_of qs) (ys_of qs) Q E ∷ ltb 0 c ∷ []

  -- How many must agree.
  abbrev pub need : Example → ℕ
  need e = needed e.t (2 * e.t + 1) (sent p e.ys)

  -- The first t + 1 + 2 spare of the points sent are solved for.
  abbrev pub window : Example → List (ℕ × ℕ)
  window e = take (e.t + 1 + 2 * e.spare) (points_sent p (points e) e.ys)

  -- Whether the numbers fit together, whether they are solutions, and what is made of the second.
  abbrev pub made : Example → List Bool × List Bool × List Bool × Option (List ℕ)
  made e =
      let t = e.t in
      let a = e.first.degree in
      let b = e.second.degree in
      let Q1 = take (suc a) e.first.numerator in
      let E2 = take (suc b) e.second.locator in (
        ltb (length e.ys) p ∷ eqb (sent p e.ys) (need e + e.spare) ∷ leb (t + 1) a ∷ eqb (a + b) (t + 1 + 2 * e.spare) ∷ [],
        tests (window e) (suc a) (a - t) Q1 (take (a - t) e.first.locator) (get_or Q1 a 0),
        tests (window e) (suc (b + t)) (suc b) (take (suc (b + t)) e.second.numerator) E2 (get_or E2 b 0),
        located_by p t (need e) e.spare (points e) e.ys b e.second.numerator e.second.locator,
      )

  -- They fit and are, and this is what opens.
  abbrev pub Computed : Example → Type 0
  Computed e = made e ≡ (replicate 4 true, replicate 6 true, replicate 6 true, e.opens)

  -- The second solution meets what solving promises (`Solved`), and the opening, which is defined by trial, is what opens.
  abbrev pub Opened : Example → Type 0
  Opened e =
      Solved p e.t (xs_of (window e)) (ys_of (window e)) e.second × (opening_of p e.t (points e) e.ys ≡ e.opens)

-- Sixteen values on the cubic, but for the first, the fifth and the ninth.
abbrev cubic : List ℕ
cubic = 999 ∷ 29 ∷ 61 ∷ 115 ∷ 999 ∷ 313 ∷ 469 ∷ 671 ∷ 999 ∷ 1237 ∷ 1613 ∷ 2059 ∷ 2581 ∷ 3185 ∷ 3877 ∷ 4663 ∷ []

-- These are located by c (X − 1)(X − 5)(X − 9), where c is 61292 for the narrow prime and 80176359 for the wide one.
abbrev three_wrong : Width → Example
three_wrong Narrow =
    example 3 3 cubic 7 (35291 ∷ 59120 ∷ 61412 ∷ 65509 ∷ 21658 ∷ 14517 ∷ 547 ∷ 14453 ∷ []) (42821 ∷ 22841 ∷ 49194 ∷ 54499 ∷ []) 3
    (21715 ∷ 3716 ∷ 10601 ∷ 48548 ∷ 61235 ∷ 54977 ∷ 61292 ∷ []) (59263 ∷ 12573 ∷ 63435 ∷ 61292 ∷ []) (some (7 ∷ 3 ∷ 2 ∷ 1 ∷ []))
three_wrong Wide =
    example 3 3 cubic 7 (1709629702 ∷ 377202832 ∷ 1317487386 ∷ 1767761325 ∷ 1214832671 ∷ 1433509261 ∷ 1507931285 ∷ 377730286 ∷ [])
    (1815608847 ∷ 2072632538 ∷ 1987346169 ∷ 1584757196 ∷ []) 3
    (514250679 ∷ 814191332 ∷ 704309185 ∷ 658688918 ∷ 418159841 ∷ 1105190980 ∷ 80176359 ∷ [])
    (687031139 ∷ 435437887 ∷ 944838262 ∷ 80176359 ∷ []) (some (7 ∷ 3 ∷ 2 ∷ 1 ∷ []))

module _ (w : Width) where
  -- The prime.
  abbrev p : ℕ
  p = prime_of w

  -- M3, M4 and another begin so, and have the same first solution.
  abbrev third_wrong : List ℕ → List ℕ → List ℕ → Option (List ℕ) → Example
  third_wrong ys = example 1 1 (10 ∷ 13 ∷ 999 ∷ ys) 3 (7920 ∷ neg p 13752 ∷ 6875 ∷ neg p 983 ∷ []) (8 ∷ neg p 2 ∷ []) 1

  -- M3, located by − 5898 (X − 3); the same, but the last is wrong too; M4; M6; two lamps dark; one dark and one wrong, located by
  -- − 11760 (X − 4); values on X², whose locator (X − 3)(X − 4) is of too high a degree; three wrong.
  abbrev pub examples : List Example
  examples =
      third_wrong (19 ∷ 22 ∷ []) (123858 % p ∷ 11796 ∷ neg p 17694 ∷ []) (17694 ∷ neg p 5898 ∷ []) (some (7 ∷ 3 ∷ []))
      ∷ third_wrong (19 ∷ 998 ∷ []) (123858 % p ∷ 11796 ∷ neg p 17694 ∷ []) (17694 ∷ neg p 5898 ∷ []) none
      ∷ third_wrong (998 ∷ 22 ∷ []) (neg p 1855680 ∷ 2889077 % p ∷ neg p 974177 ∷ []) (9862 ∷ neg p 3940 ∷ []) none
      ∷ example 1 1 (replicate 5 0) 4 (24 ∷ neg p 50 ∷ 35 ∷ neg p 10 ∷ 1 ∷ []) (replicate 3 0) 0 (0 ∷ 0 ∷ []) (1 ∷ []) (some (0 ∷ 0 ∷ []))
      ∷ example 1 0 (10 ∷ 13 ∷ p ∷ p ∷ 22 ∷ []) 2 (2 ∷ neg p 3 ∷ 1 ∷ []) (0 ∷ []) 0 (7 ∷ 3 ∷ []) (1 ∷ []) (some (7 ∷ 3 ∷ []))
      ∷ example 1 1 (10 ∷ 13 ∷ p ∷ 999 ∷ 22 ∷ []) 3 (10010 ∷ neg p 16612 ∷ 7822 ∷ neg p 980 ∷ []) (30 ∷ neg p 6 ∷ []) 1
      (329280 % p ∷ 58800 ∷ neg p 35280 ∷ []) (47040 ∷ neg p 11760 ∷ []) (some (7 ∷ 3 ∷ []))
      ∷ example 1 1 (1 ∷ 4 ∷ 9 ∷ 16 ∷ 25 ∷ []) 2 (0 ∷ 0 ∷ neg p 2 ∷ []) (neg p 2 ∷ []) 2 (neg p 24 ∷ 50 ∷ neg p 23 ∷ 3 ∷ [])
      (12 ∷ neg p 7 ∷ 1 ∷ []) none
      ∷ three_wrong w
      ∷ []

  -- M5, and three lamps dark.
  abbrev pub too_few_sent : List (List ℕ)
  too_few_sent = replicate 5 p ∷ (10 ∷ 13 ∷ p ∷ p ∷ p ∷ []) ∷ []
