-- With one point more: each solution is kept, raised or mixed, and the pair has one degree more.
--   kept, raised-one, mixed_one   one solution, where it holds at the point, times X − x, and less as much of the other that it holds
--   first_holds, first-mixed      the pair, the first being the lower; second_holds, second-mixed likewise
use mathlib.Core.Path.{◌≡◌, refl, sym, ap, ap₂, subst, ◌∙◌}
use mathlib.Core.Logic.{⊎_elim}
use mathlib.Core.List.{List, [], ◌∷◌}
use Prim.Native.Nat.{ℕ, suc, ◌+◌, ◌-◌, ◌<◌, ◌≤◌}
use native.Mathlib.Decide.{ℕ_discrete}
use native.Mathlib.Nat.{mod-eq_of_lt}
use native.Mathlib.Omega.{arith}
use lib.ListN.{length, get_or}
use Rattle.lists.proofs.All.{all-get_or}
use Rattle.field.specs.Arithmetic.{Prime, add, sub, mul, neg}
use Rattle.field.proofs.Ring.{ring, add-zero, zero-add, mul-zero, mul_left_comm, mul-residue, add-neg}
use Rattle.field.proofs.Ring.{sub-lt, sub-zero, add-sub, add-mul-neg}
use Rattle.field.proofs.Inverse.{mul-zero-cases}
use Rattle.polynomial.specs.Polynomial.{Poly, Residues, value, raise}
use Rattle.polynomial.proofs.Division.{value-residue}
use Rattle.polynomial.proofs.Raising.{length-raise, raise-residues, raise-value, raise-value-here}
use Rattle.key_equation.specs.Solving.{off, Solves, mixed, Solution, Solutions}
use Rattle.key_equation.proofs.Mixing.{length-mixed, mixed-residues, value-mixed, mixed-top}

module _ (p : ℕ) where
  -- The top of y + (X − x) q is that of q, or y.
  pub raise-top : (x y : ℕ) (q : List ℕ) → get_or (raise p x (y ∷ q)) (length q) 0 ≡ get_or (y ∷ q) (length q) 0
  raise-top x y [] = refl
  raise-top x y (c ∷ q) = raise-top x c q

  -- ---- sums that hold at a point, by the opposite n of g
  both_hold : (v d F n E : ℕ) → add p (mul p d (mul p v F)) (mul p n (mul p v E)) ≡ mul p v (add p (mul p d F) (mul p n E))
  both_hold v d F n E = simp ring

  made-hold : (y d g F n E : ℕ)
      → add p (mul p d (add p (mul p y F) g)) (mul p n (add p (mul p y E) d))
      ≡ add p (mul p y (add p (mul p d F) (mul p n E))) (mul p d (add p g n))
  made-hold y d g F n E = simp ring

module _ (p : ℕ) (P : Prime p) (xs ys : List ℕ) (points : Residues p xs) (k : ℕ) (inside : k < length xs) where
  abbrev x : ℕ
  x = get_or xs k 0

  abbrev y : ℕ
  y = get_or ys k 0

  positive : 0 < p
  positive = omega (arith, P.two)

  point : (j : ℕ) → j ≤ k → get_or xs j 0 < p
  point j h = all-get_or (λ c. c < p) xs j 0 (omega arith) points

  -- What holds before and here holds at one point more.
  more : (Q E : List ℕ) → Solves p xs ys k Q E → value p Q x ≡ mul p y (value p E x) → Solves p xs ys (suc k) Q E
  more Q E before here j h =
      elim (ℕ_discrete j k) [
        | yes e ↦ subst (λ i. value p Q (get_or xs i 0) ≡ mul p (get_or ys i 0) (value p E (get_or xs i 0))) (sym e) here
        | no e ↦ before j (omega arith)
      ]

  -- Q(x) is y E(x) and what it is off.
  off-is : (Q E : List ℕ) → value p Q x ≡ add p (mul p y (value p E x)) (off p x y Q E)
  off-is Q E = sym (add-sub p (value p Q x) (mul p y (value p E x)) positive ∙ value-residue p Q x)

  module _ (n m : ℕ) (Q E : List ℕ) (s : Solution p n m xs ys k Q E) where
    pub kept : off p x y Q E ≡ 0 → Solution p n m xs ys (suc k) Q E
    kept e = record {
      numerator = s.numerator;
      locator = s.locator;
      solves =
          more Q E s.solves
          (sym (value-residue p Q x) ∙ sub-zero p (value p Q x) (mul p y (value p E x)) positive e ∙ mul-residue p y (value p E x));
    }

    poly-raised : (i : ℕ) (f : List ℕ) → Poly p i f → Poly p (suc i) (raise p x (0 ∷ f))
    poly-raised i f h = record {
      residues = raise-residues p x (0 ∷ f) positive (positive, h.residues);
      size = length-raise p x (0 ∷ f) ∙ ap suc h.size;
    }

    raised-here : (f : List ℕ) → value p (raise p x (0 ∷ f)) x ≡ 0
    raised-here f = raise-value-here p x 0 f positive (point k (omega arith)) positive

    raised-there : (f : List ℕ) (z : ℕ) → z < p → value p (raise p x (0 ∷ f)) z ≡ mul p (sub p z x) (value p f z)
    raised-there f z h = raise-value p x 0 f z positive h ∙ zero-add p _ ∙ mul-residue p (sub p z x) (value p f z)

    pub raised-one : Solution p (suc n) (suc m) xs ys (suc k) (raise p x (0 ∷ Q)) (raise p x (0 ∷ E))
    raised-one = record {
      numerator = poly-raised n Q s.numerator;
      locator = poly-raised m E s.locator;
      solves =
          more (raise p x (0 ∷ Q)) (raise p x (0 ∷ E))
          (λ j h.
          let z = get_or xs j 0 in
          raised-there Q z (point j (omega arith))
          ∙ ap (mul p (sub p z x)) (s.solves j h)
          ∙ mul_left_comm p (sub p z x) (get_or ys j 0) (value p E z)
          ∙ ap (mul p (get_or ys j 0)) (sym (raised-there E z (point j (omega arith)))))
          (raised-here Q ∙ sym (ap (mul p y) (raised-here E) ∙ mul-zero p y));
    }

    -- The other solution, which is no longer, is taken from this one.
    module _ (n' m' : ℕ) (R F : List ℕ) (s' : Solution p n' m' xs ys k R F) (fits-q : n ≤ n') (fits-e : m ≤ m') where
      d : ℕ
      d = off p x y Q E

      g : ℕ
      g = off p x y R F

      poly-mixed : (i : ℕ) (f h : List ℕ) → Poly p i f → Poly p i (mixed p d f g h)
      poly-mixed i f h a = record { residues = mixed-residues p d f g h positive; size = length-mixed p d f g h ∙ a.size }

      at-q : (z : ℕ) → value p (mixed p d R g Q) z ≡ add p (mul p d (value p R z)) (mul p (neg p g) (value p Q z))
      at-q z =
          value-mixed p d R g Q z positive (omega (arith, s.numerator.size, s'.numerator.size))
          ∙ sym (add-mul-neg p (mul p d (value p R z)) g (value p Q z) positive)

      at-e : (z : ℕ) → value p (mixed p d F g E) z ≡ add p (mul p d (value p F z)) (mul p (neg p g) (value p E z))
      at-e z =
          value-mixed p d F g E z positive (omega (arith, s.locator.size, s'.locator.size))
          ∙ sym (add-mul-neg p (mul p d (value p F z)) g (value p E z) positive)

      there : (j : ℕ) → j < k → value p (mixed p d R g Q) (get_or xs j 0) ≡ mul p (get_or ys j 0) (value p (mixed p d F g E) (get_or xs j 0))
      there j h =
          let z = get_or xs j 0 in
          let v = get_or ys j 0 in
          at-q z
          ∙ ap₂ (λ a b. add p (mul p d a) (mul p (neg p g) b)) (s'.solves j h) (s.solves j h)
          ∙ both_hold p v d (value p F z) (neg p g) (value p E z)
          ∙ ap (mul p v) (sym (at-e z))

      here : value p (mixed p d R g Q) x ≡ mul p y (value p (mixed p d F g E) x)
      unfolding d g
      here =
          let a = value p F x in
          let b = value p E x in
          let n = neg p g in
          at-q x
          ∙ ap₂ (λ u v. add p (mul p d u) (mul p n v)) (off-is R F) (off-is Q E)
          ∙ made-hold p y d g a n b
          ∙ ap (λ z. add p (mul p y (add p (mul p d a) (mul p n b))) z) (ap (mul p d) (add-neg p g positive) ∙ mul-zero p d)
          ∙ add-zero p _
          ∙ mul-residue p y _
          ∙ ap (mul p y) (sym (at-e x))

      pub mixed_one : Solution p n' m' xs ys (suc k) (mixed p (off p x y Q E) R (off p x y R F) Q)
          (mixed p (off p x y Q E) F (off p x y R F) E)
      unfolding d g
      mixed_one = record {
        numerator = poly-mixed n' R Q s'.numerator;
        locator = poly-mixed m' F E s'.locator;
        solves = more (mixed p d R g Q) (mixed p d F g E) there here;
      }

  -- The top of a list that a shorter one is taken from.
  mixed-top-not : (i : ℕ) (R Q : List ℕ) (d g : ℕ) → Poly p (suc i) R → length Q ≤ i → d < p → (d ≡ 0 → ⊥) → (get_or R i 0 ≡ 0 → ⊥)
      → get_or (mixed p d R g Q) i 0 ≡ 0 → ⊥
  mixed-top-not i R Q d g a short hd nd top e =
      let small : get_or R i 0 < p = all-get_or (λ c. c < p) R i 0 (omega (arith, a.size)) a.residues in
      ⊎_elim (λ z. nd (sym (mod-eq_of_lt hd) ∙ z)) (λ z. top (sym (mod-eq_of_lt small) ∙ z))
      (mul-zero-cases p P d (get_or R i 0) (sym (mixed-top p d R g Q i short (omega (arith, a.size))) ∙ e))

  raised-top-not : (i : ℕ) (Q : List ℕ) → length Q ≡ suc i → (get_or Q i 0 ≡ 0 → ⊥) → get_or (raise p x (0 ∷ Q)) (suc i) 0 ≡ 0 → ⊥
  raised-top-not i Q l top e =
      top (subst (λ z. get_or (0 ∷ Q) z 0 ≡ 0) l (sym (raise-top p x 0 Q) ∙ subst (λ z. get_or (raise p x (0 ∷ Q)) z 0 ≡ 0) (sym l) e))

  -- ---- the pair
  module _ (t a b : ℕ) (Q1 E1 Q2 E2 : List ℕ) (s : Solutions p t xs ys k a b Q1 E1 Q2 E2) where
    abbrev d1 : ℕ
    d1 = off p x y Q1 E1

    abbrev d2 : ℕ
    d2 = off p x y Q2 E2

    small : (Q E : List ℕ) → off p x y Q E < p
    small Q E = sub-lt p (value p Q x) (mul p y (value p E x)) positive

    one-raised : Solution p (suc (suc a)) (suc a - t) xs ys (suc k) (raise p x (0 ∷ Q1)) (raise p x (0 ∷ E1))
    one-raised =
        let m : suc (a - t) ≡ suc a - t = omega (arith, s.least) in
        subst (λ i. Solution p (suc (suc a)) i xs ys (suc k) (raise p x (0 ∷ Q1)) (raise p x (0 ∷ E1))) m (raised-one _ _ Q1 E1 s.one)

    one-top : get_or (raise p x (0 ∷ Q1)) (suc a) 0 ≡ 0 → ⊥
    one-top = raised-top-not a Q1 s.one.numerator.size s.top_one

    two-raised : Solution p (suc (suc b + t)) (suc (suc b)) xs ys (suc k) (raise p x (0 ∷ Q2)) (raise p x (0 ∷ E2))
    two-raised =
        let n : suc (suc (b + t)) ≡ suc (suc b + t) = omega arith in
        subst (λ i. Solution p i (suc (suc b)) xs ys (suc k) (raise p x (0 ∷ Q2)) (raise p x (0 ∷ E2))) n (raised-one _ _ Q2 E2 s.two)

    two-top : get_or (raise p x (0 ∷ E2)) (suc b) 0 ≡ 0 → ⊥
    two-top = raised-top-not b E2 s.two.locator.size s.top_two

    -- Where the first holds the second is raised, and the other way round.
    pub first_holds : d1 ≡ 0 → Solutions p t xs ys (suc k) a (suc b) Q1 E1 (raise p x (0 ∷ Q2)) (raise p x (0 ∷ E2))
    first_holds e = record {
      least = s.least;
      sum = omega (arith, s.sum);
      one = kept _ _ Q1 E1 s.one e;
      two = two-raised;
      top_one = s.top_one;
      top_two = two-top;
    }

    pub second_holds : d2 ≡ 0 → Solutions p t xs ys (suc k) (suc a) b (raise p x (0 ∷ Q1)) (raise p x (0 ∷ E1)) Q2 E2
    second_holds e = record {
      least = omega (arith, s.least);
      sum = omega (arith, s.sum);
      one = one-raised;
      two = kept _ _ Q2 E2 s.two e;
      top_one = one-top;
      top_two = s.top_two;
    }

    -- The first, where it has the lower degree, is taken from the second, and raised.
    pub first-mixed : a ≤ b + t → (d1 ≡ 0 → ⊥)
        → Solutions p t xs ys (suc k) (suc a) b (raise p x (0 ∷ Q1)) (raise p x (0 ∷ E1)) (mixed p d1 Q2 d2 Q1) (mixed p d1 E2 d2 E1)
    first-mixed low differs = record {
      least = omega (arith, s.least);
      sum = omega (arith, s.sum);
      one = one-raised;
      two = mixed_one _ _ Q1 E1 s.one _ _ Q2 E2 s.two (omega arith) (omega arith);
      top_one = one-top;
      top_two = mixed-top-not b E2 E1 d1 d2 s.two.locator (omega (arith, s.one.locator.size)) (small Q1 E1) differs s.top_two;
    }

    -- The second likewise.
    pub second-mixed : b + t < a → (d2 ≡ 0 → ⊥)
        → Solutions p t xs ys (suc k) a (suc b) (mixed p d2 Q1 d1 Q2) (mixed p d2 E1 d1 E2) (raise p x (0 ∷ Q2)) (raise p x (0 ∷ E2))
    second-mixed low differs = record {
      least = s.least;
      sum = omega (arith, s.sum);
      one = mixed_one _ _ Q2 E2 s.two _ _ Q1 E1 s.one (omega arith) (omega arith);
      two = two-raised;
      top_one = mixed-top-not a Q1 Q2 d2 d1 s.one.numerator (omega (arith, s.two.numerator.size)) (small Q2 E2) differs s.top_one;
      top_two = two-top;
    }
