-- The error locator E, which is 0 at every wrong point among those solved for, and the numerator Q = f E, after Berlekamp and Welch:
-- Q(x) = y E(x) at each of them.
-- Two solutions are brought up point by point: the first has a Q of degree a and an E of degree below a − t, the second an E of degree b
-- and a Q of degree at most b + t, and a + b is the count of the points.
--   off p x y Q E                  Q(x) − y E(x)
--   Solves p xs ys k Q E           that is 0 at the first k points
--   Through p xs ys k f            f takes the values at the first k points
--   front l, raised p x l          a list without its last place, which is room; X − x times what stands before the room
--   Short p l                      at most 11 residues
--   mixed p d R g Q                d R − g Q, coefficient by coefficient
--   Solution p n m xs ys k Q E     one solution: Q of n coefficients, E of m
--   Solutions p t xs ys k a b ..   both
--   Roots p xs k l                 l is a multiple of X − x for the first k points
-- What two solutions become with one point more: specs/Partial. Laws: proofs/Mixing, proofs/Solving, locator/proofs/Locating.
use Rattle.std.specs.Prelude.{◌≡◌, ℕ, suc, ◌+◌, ◌-◌, ◌<◌, ◌≤◌, length, get_or, take}
use mathlib.Core.List.{List, [], ◌∷◌, tail}
use Rattle.field.specs.Arithmetic.{sub, mul}
use Rattle.polynomial.specs.Polynomial.{Poly, Residues, value, raise}

-- The list without its last place.
abbrev pub front : List ℕ → List ℕ
front l = take (length l - 1) l

-- Residues, so few that they are evaluated.
pub record Short (p : ℕ) (l : List ℕ) : Type 0 where
  pub residues : Residues p l
  pub most : length l ≤ 11

module _ (p : ℕ) where
  -- Q(x) − y E(x).
  abbrev pub off : ℕ → ℕ → List ℕ → List ℕ → ℕ
  off x y Q E = sub p (value p Q x) (mul p y (value p E x))

  -- Q(x) = y E(x) at the first k points.
  abbrev pub Solves : List ℕ → List ℕ → ℕ → List ℕ → List ℕ → Type 0
  Solves xs ys k Q E = (j : ℕ) → j < k → value p Q (get_or xs j 0) ≡ mul p (get_or ys j 0) (value p E (get_or xs j 0))

  -- f(x) = y at the first k points.
  abbrev pub Through : List ℕ → List ℕ → ℕ → List ℕ → Type 0
  Through xs ys k f = (j : ℕ) → j < k → value p f (get_or xs j 0) ≡ get_or ys j 0

  -- X − x times what stands before the last place, in the whole of the list.
  abbrev pub raised : ℕ → List ℕ → List ℕ
  raised x l = raise p x (0 ∷ front l)

  -- d R − g Q, as long as R.
  abbrev pub mixed : ℕ → List ℕ → ℕ → List ℕ → List ℕ
  mixed d [] g Q = []
  mixed d (r ∷ R) g Q = sub p (mul p d r) (mul p g (get_or Q 0 0)) ∷ mixed d R g (tail Q)

  -- One solution at the first k points.
  pub record Solution (n m : ℕ) (xs ys : List ℕ) (k : ℕ) (Q E : List ℕ) : Type 0 where
    pub numerator : Poly p n Q
    pub locator : Poly p m E
    pub solves : Solves xs ys k Q E

  -- Both, with their degrees and the tops that are not 0.
  pub record Solutions (t : ℕ) (xs ys : List ℕ) (k a b : ℕ) (Q1 E1 Q2 E2 : List ℕ) : Type 0 where
    pub least : t + 1 ≤ a
    pub sum : a + b ≡ k
    pub one : Solution (suc a) (a - t) xs ys k Q1 E1
    pub two : Solution (suc (b + t)) (suc b) xs ys k Q2 E2
    pub top_one : get_or Q1 a 0 ≡ 0 → ⊥
    pub top_two : get_or E2 b 0 ≡ 0 → ⊥

  -- k + 1 coefficients, a top that is not 0, and 0 at each of the first k points.
  pub record Roots (xs : List ℕ) (k : ℕ) (l : List ℕ) : Type 0 where
    pub poly : Poly p (suc k) l
    pub vanishes : (j : ℕ) → j < k → value p l (get_or xs j 0) ≡ 0
    pub top : get_or l k 0 ≡ 0 → ⊥
