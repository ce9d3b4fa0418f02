-- Two solutions brought up to one more point, in the arrays that the code keeps them in.
--   numerator_of s, locator_of s   Q and E of s
--   Ready p s                      residues, so few that they are evaluated, with room for one more of each
--   Holds Q E s                    s has Q for its numerator and E for its locator
--   Raised p x s s'                s' is s times X − x
--   Taken p x y d o s s'           s' is s times d, less as much of o that it holds at the point, where o is off by d there
--   Met p x y s r s' r'            what two solutions become with one point more: the first holds there (Held), or is taken from the second
--                                  (Mixed)
--   Solving p t xs ys k s r        both solutions at the first k points
-- Laws: proofs/Stepping.
use Rattle.std.specs.Prelude.{◌≡◌, ◌⊎◌, List, ◌∷◌, ℕ, suc, ◌+◌, ◌-◌, ◌≤◌, length, take}
use Rattle.polynomial.specs.Polynomial.{Residues, raise}
use Rattle.key_equation.specs.Solving.{off, mixed, Solutions}
use Rattle.key_equation.specs.declared.Partial.{Partial}

abbrev pub numerator_of : Partial → List ℕ
numerator_of s = take s.numerator_len s.numerator

abbrev pub locator_of : Partial → List ℕ
locator_of s = take s.locator_len s.locator

-- What has these two polynomials.
pub record Holds (Q E : List ℕ) (s : Partial) : Type 0 where
  pub numerator_len : s.numerator_len ≡ length Q
  pub locator_len : s.locator_len ≡ length E
  pub numerator : numerator_of s ≡ Q
  pub locator : locator_of s ≡ E

module _ (p : ℕ) where
  pub record Ready (s : Partial) : Type 0 where
    pub numerator : Residues p (numerator_of s)
    pub locator : Residues p (locator_of s)
    pub numerator_room : s.numerator_len ≤ 11
    pub locator_room : s.locator_len ≤ 7

  -- X − x times both.
  abbrev pub Raised : ℕ → Partial → Partial → Type 0
  Raised x s s' = Holds (raise p x (0 ∷ numerator_of s)) (raise p x (0 ∷ locator_of s)) s'

  -- d times it, less as much of o that this holds at the point.
  abbrev pub Taken : ℕ → ℕ → ℕ → Partial → Partial → Partial → Type 0
  Taken x y d o s s' =
      let g = off p x y (numerator_of s) (locator_of s) in
      Holds (mixed p d (numerator_of s) g (numerator_of o)) (mixed p d (locator_of s) g (locator_of o)) s'

  -- Where the first holds at the point, it stays, and the second is raised.
  pub record Held (x y : ℕ) (s r s' r' : Partial) : Type 0 where
    pub holds : off p x y (numerator_of s) (locator_of s) ≡ 0
    pub first : s' ≡ s
    pub second : Raised x r r'

  -- Where it does not, as much of the first is taken from the second that this holds, and the first is raised.
  pub record Mixed (x y : ℕ) (s r s' r' : Partial) : Type 0 where
    pub differs : off p x y (numerator_of s) (locator_of s) ≡ 0 → ⊥
    pub first : Raised x s s'
    pub second : Taken x y (off p x y (numerator_of s) (locator_of s)) s r r'

  abbrev pub Met : ℕ → ℕ → (s r s' r' : Partial) → Type 0
  Met x y s r s' r' = Held x y s r s' r' ⊎ Mixed x y s r s' r'

  -- Both solutions at the first k points, the first with a numerator of degree a, the second with a locator of degree b.
  pub record Solving (t : ℕ) (xs ys : List ℕ) (k : ℕ) (s r : Partial) : Type 0 where
    pub a : ℕ
    pub b : ℕ
    pub first_numerator : s.numerator_len ≡ suc a
    pub first_locator : s.locator_len ≡ a - t
    pub second_numerator : r.numerator_len ≡ suc (b + t)
    pub second_locator : r.locator_len ≡ suc b
    pub pair : Solutions p t xs ys k a b (numerator_of s) (locator_of s) (numerator_of r) (locator_of r)
