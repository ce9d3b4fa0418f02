-- R + F E: its length, residues and values; and that division by E takes it apart and that it puts together what was divided.
--   length-add_product, add_product-residues, add_product-value   of R + F E
--   raise-is                                                   y + (X − a) q is one
--   division-back                                              R + F E is divided into F and R
--   division-size, division-residues                           of the quotient, whatever is divided
--   remainder-size, remainder-residues                         of the remainder
--   division-forth                                             remainder + quotient · E is what was divided
use mathlib.Core.Path.{◌≡◌, refl, sym, ap, ap₂, ◌∙◌}
use mathlib.Core.List.{List, [], ◌∷◌, tail, zip_with}
use Prim.Native.Nat.{ℕ, zero, suc, ◌+◌, ◌-◌, ◌<◌, ◌≤◌}
use native.Mathlib.Nat.{zero-mod, mod-eq_of_lt}
use native.Mathlib.Omega.{arith}
use lib.ListN.{length, get_or, take}
use lib.Seq.{length-take-le}
use Rattle.lists.proofs.All.{all-get_or, all_take}
use Rattle.lists.proofs.InPlace.{length-zip_with}
use Rattle.field.specs.Arithmetic.{add, sub, mul, neg}
use Rattle.field.proofs.Ring.{ring, add_comm, add-zero, zero-add, add-lt, add-sub, sub-lt, sub-add, add-mul-neg}
use Rattle.field.proofs.Ring.{mul-lt, mul-zero, mul_comm, mul_assoc, mul-one, mul-residue}
use Rattle.polynomial.specs.Polynomial.{Residues, value, raise}
use Rattle.polynomial.proofs.Division.{value-residue}
use Rattle.locator.specs.Quotient.{add_times, add_product, less_times, leading, long_division}
use Rattle.key_equation.proofs.Mixing.{value-split, length-tail, get_or-tail}

module _ (p : ℕ) where
  -- ---- R + c E
  pub length-plus : (R : List ℕ) (c : ℕ) (E : List ℕ) → length (add_times p R c E) ≡ length E
  length-plus R c [] = refl
  length-plus R c (d ∷ E) = ap suc (length-plus (tail R) c E)

  plus-residues : (R : List ℕ) (c : ℕ) (E : List ℕ) → 0 < p → Residues p (add_times p R c E)
  plus-residues R c [] positive = tt
  plus-residues R c (d ∷ E) positive = (add-lt p (get_or R 0 0) (mul p c d) positive, plus-residues (tail R) c E positive)

  plus_step : (r c d x u v : ℕ)
      → add p (add p r (mul p c d)) (mul p x (add p u (mul p c v)))
      ≡ add p (add p r (mul p x u)) (mul p c (add p d (mul p x v)))
  plus_step r c d x u v = simp ring

  value-plus : (R : List ℕ) (c : ℕ) (E : List ℕ) (x : ℕ) → length R ≤ length E
      → value p (add_times p R c E) x ≡ add p (value p R x) (mul p c (value p E x))
  value-plus [] c [] x h = sym (ap (add p 0) (mul-zero p c) ∙ add-zero p 0 ∙ zero-mod p)
  value-plus (r ∷ R) c [] x h = absurd (omega arith)
  value-plus R c (d ∷ E) x h =
      ap (λ z. add p (add p (get_or R 0 0) (mul p c d)) (mul p x z)) (value-plus (tail R) c E x (omega (arith, length-tail R)))
      ∙ plus_step (get_or R 0 0) c d x (value p (tail R) x) (value p E x)
      ∙ ap (λ z. add p z (mul p c (value p (d ∷ E) x))) (sym (value-split p R x))

  get_or-plus : (R : List ℕ) (c : ℕ) (E : List ℕ) (j : ℕ) → j < length E
      → get_or (add_times p R c E) j 0 ≡ add p (get_or R j 0) (mul p c (get_or E j 0))
  get_or-plus R c [] j h = absurd (omega arith)
  get_or-plus R c (d ∷ E) zero h = refl
  get_or-plus R c (d ∷ E) (suc j) h = get_or-plus (tail R) c E j (omega arith) ∙ ap (λ z. add p z (mul p c (get_or E j 0))) (get_or-tail R j)

  -- ---- R + F E
  pub length-add_product : (R F E : List ℕ) → suc (length R) ≡ length E → length (add_product p R F E) ≡ length F + length R
  length-add_product R [] E h = omega arith
  length-add_product R (c ∷ F) E h =
      let s : length (tail (add_times p R c E)) ≡ length R = length-tail (add_times p R c E) ∙ omega (arith, length-plus R c E) in
      omega (arith, s, length-add_product (tail (add_times p R c E)) F E (omega arith))

  -- y + (X − a) q of the crate `polynomial` is such a sum.
  pub raise-is : (a y : ℕ) (q : List ℕ) → 0 < p → Residues p q → raise p a (y ∷ q) ≡ add_product p (y ∷ []) q (neg p a ∷ 1 ∷ [])
  raise-is a y [] positive r = refl
  raise-is a y (c ∷ q) positive r =
      let kept : add p 0 (mul p c 1) ≡ c = zero-add p (mul p c 1) ∙ mul-residue p c 1 ∙ mul-one p c ∙ mod-eq_of_lt r.0 in
      ap₂ ◌∷◌ (sym (ap (add p y) (mul_comm p c (neg p a)) ∙ add-mul-neg p y a c positive))
      (raise-is a c q positive r.1 ∙ ap (λ z. add_product p (z ∷ []) q (neg p a ∷ 1 ∷ [])) (sym kept))

  residues-apart : (f : List ℕ) → 0 < p → Residues p f → (get_or f 0 0 < p) × Residues p (tail f)
  residues-apart [] positive r = (positive, tt)
  residues-apart (c ∷ f) positive r = r

  pub add_product-residues : (R F E : List ℕ) → 0 < p → Residues p R → Residues p (add_product p R F E)
  add_product-residues R [] E positive r = r
  add_product-residues R (c ∷ F) E positive r =
      let (a, b) = residues-apart (add_times p R c E) positive (plus-residues R c E positive) in
      (a, add_product-residues (tail (add_times p R c E)) F E positive b)

  product-step : (u x v f E : ℕ) → add p u (mul p x (add p v (mul p f E))) ≡ add p (add p u (mul p x v)) (mul p (mul p x f) E)
  product-step u x v f E = simp ring

  product-sum : (R c E x f : ℕ) → add p (add p R (mul p c E)) (mul p (mul p x f) E) ≡ add p R (mul p (add p c (mul p x f)) E)
  product-sum R c E x f = simp ring

  pub add_product-value : (R F E : List ℕ) (x : ℕ) → length R ≤ length E
      → value p (add_product p R F E) x ≡ add p (value p R x) (mul p (value p F x) (value p E x))
  add_product-value R [] E x h =
      sym
      (ap (add p (value p R x)) (mul_comm p 0 (value p E x) ∙ mul-zero p (value p E x))
      ∙ add-zero p (value p R x)
      ∙ value-residue p R x)
  add_product-value R (c ∷ F) E x h =
      let S = add_times p R c E in
      ap (λ z. add p (get_or S 0 0) (mul p x z))
      (add_product-value (tail S) F E x (omega (arith, length-tail S, length-plus R c E)))
      ∙ product-step (get_or S 0 0) x (value p (tail S) x) (value p F x) (value p E x)
      ∙ ap (λ z. add p z (mul p (mul p x (value p F x)) (value p E x))) (sym (value-split p S x) ∙ value-plus R c E x h)
      ∙ product-sum (value p R x) c (value p E x) x (value p F x)

  -- ---- division
  taken : (b : ℕ) (R : List ℕ) (c : ℕ) (E : List ℕ) → 0 < p → Residues p R → length R ≡ b → length E ≡ suc b
      → take b (less_times p (add_times p R c E) c E) ≡ R
  unfolding zip_with
  taken zero [] c E positive r l m = refl
  taken zero (d ∷ R) c E positive r l m = absurd (omega arith)
  taken (suc b) [] c E positive r l m = absurd (omega arith)
  taken (suc b) (d ∷ R) c [] positive r l m = absurd (omega arith)
  taken (suc b) (d ∷ R) c (e ∷ E) positive r l m =
      ap₂ ◌∷◌ (sub-add p d (mul p c e) positive r.0) (taken b R c E positive r.1 (omega arith) (omega arith))

  cons-split : (S : List ℕ) → 0 < length S → get_or S 0 0 ∷ tail S ≡ S
  cons-split [] h = absurd (omega arith)
  cons-split (c ∷ S) h = refl

  get_or-over : (R : List ℕ) (j : ℕ) → length R ≤ j → get_or R j 0 ≡ 0
  get_or-over [] j h = refl
  get_or-over (c ∷ R) zero h = absurd (omega arith)
  get_or-over (c ∷ R) (suc j) h = get_or-over R j (omega arith)

  module _ (i : ℕ) (E : List ℕ) (b : ℕ) (size : length E ≡ suc b) (inverse : mul p i (get_or E b 0) ≡ 1) (positive : 0 < p) where
    found : (R : List ℕ) (c : ℕ) → length R ≡ b → c < p → leading p i E (add_times p R c E) ≡ c
    found R c l h =
        let top : length E - 1 ≡ b = omega arith in
        ap (λ j. mul p i (get_or (add_times p R c E) j 0)) top
        ∙ ap (mul p i)
        (get_or-plus R c E b (omega arith)
        ∙ ap (λ z. add p z (mul p c (get_or E b 0))) (get_or-over R b (omega arith))
        ∙ zero-add p _
        ∙ mul-residue p c (get_or E b 0))
        ∙ ap (mul p i) (mul_comm p c (get_or E b 0))
        ∙ sym (mul_assoc p i (get_or E b 0) c)
        ∙ ap (λ z. mul p z c) inverse
        ∙ mul_comm p 1 c
        ∙ mul-one p c
        ∙ mod-eq_of_lt h

    -- R + F E is divided into F and R.
    pub division-back : (R F : List ℕ) → Residues p R → Residues p F → length R ≡ b
        → long_division p i E (length F) (add_product p R F E) ≡ (F, R)
    division-back R [] r f l = refl
    division-back R (c ∷ F) r f l =
        let S = add_times p R c E in
        let (a, s) = residues-apart S positive (plus-residues R c E positive) in
        let short : length (tail S) ≡ b = length-tail S ∙ omega (arith, length-plus R c E) in
        let whole : get_or S 0 0 ∷ tail S ≡ S = cons-split S (omega (arith, length-plus R c E)) in
        let rest = division-back (tail S) F s f.1 short in
        let h : leading p i E (get_or S 0 0 ∷ tail S) ≡ c = ap (leading p i E) whole ∙ found R c l f.0 in
        let top : length E - 1 ≡ b = omega arith in
        ap (λ (o : List ℕ × List ℕ).
        let r : List ℕ = get_or S 0 0 ∷ o.1 in
        (leading p i E r ∷ o.0, take (length E - 1) (less_times p r (leading p i E r) E))) rest
        ∙ ap₂ (λ (u : ℕ) (v : List ℕ). (u ∷ F, v)) h
        (ap₂ (λ (u : ℕ) (v : List ℕ). take (length E - 1) (less_times p v u E)) h whole
        ∙ ap (λ j. take j (less_times p S c E)) top
        ∙ taken b R c E positive r l size)

  -- ---- what division gives, whatever is divided
  module _ (i : ℕ) (E : List ℕ) (nonempty : 0 < length E) where
    pub division-size : (n : ℕ) (Q : List ℕ) → n ≤ length Q → length (long_division p i E n Q).0 ≡ n
    division-size zero Q h = refl
    division-size (suc n) [] h = absurd (omega arith)
    division-size (suc n) (c ∷ Q) h = ap suc (division-size n Q (omega arith))

    pub division-residues : (n : ℕ) (Q : List ℕ) → 0 < p → Residues p (long_division p i E n Q).0
    division-residues zero Q positive = tt
    division-residues (suc n) [] positive = tt
    division-residues (suc n) (c ∷ Q) positive = (mul-lt p i _ positive, division-residues n Q positive)

    pub remainder-size : (n : ℕ) (Q : List ℕ) → length Q ≡ n + (length E - 1) → length (long_division p i E n Q).1 ≡ length E - 1
    remainder-size zero Q h = h ∙ omega arith
    remainder-size (suc n) [] h = absurd (omega arith)
    remainder-size (suc n) (c ∷ Q) h =
        let rest : length (long_division p i E n Q).1 ≡ length E - 1 = remainder-size n Q (omega arith) in
        let r : List ℕ = c ∷ (long_division p i E n Q).1 in
        let whole : length (less_times p r (leading p i E r) E) ≡ length r = length-zip_with _ E r (omega arith) in
        length-take-le (length E - 1) (less_times p r (leading p i E r) E) (omega arith)

    less-residues : (r : List ℕ) (h : ℕ) (F : List ℕ) → 0 < p → Residues p (less_times p r h F)
    unfolding zip_with
    less-residues r h [] positive = tt
    less-residues [] h (d ∷ F) positive = tt
    less-residues (c ∷ r) h (d ∷ F) positive = (sub-lt p c (mul p h d) positive, less-residues r h F positive)

    pub remainder-residues : (n : ℕ) (Q : List ℕ) → 0 < p → Residues p Q → Residues p (long_division p i E n Q).1
    remainder-residues zero Q positive f = f
    remainder-residues (suc n) [] positive f = tt
    remainder-residues (suc n) (c ∷ Q) positive f =
        let r : List ℕ = c ∷ (long_division p i E n Q).1 in
        all_take (λ c. c < p) (length E - 1) (less_times p r (leading p i E r) E) (less-residues r (leading p i E r) E positive)

  -- ---- quotient times E, and the remainder, is what was divided
  -- What was taken away is added again; the top, where nothing is kept, is h times that of E.
  restored : (b : ℕ) (r : List ℕ) (h : ℕ) (E : List ℕ) → 0 < p → Residues p r → length r ≡ suc b → length E ≡ suc b
      → mul p h (get_or E b 0) ≡ get_or r b 0 → add_times p (take b (less_times p r h E)) h E ≡ r
  unfolding zip_with
  restored b [] h E positive f l m top = absurd (omega arith)
  restored b (c ∷ r) h [] positive f l m top = absurd (omega arith)
  restored zero (c ∷ []) h (d ∷ []) positive f l m top = ap (λ z. z ∷ []) (zero-add p (mul p h d) ∙ mul-residue p h d ∙ top)
  restored zero (c ∷ []) h (d ∷ (d2 ∷ E)) positive f l m top = absurd (omega arith)
  restored zero (c ∷ (c2 ∷ r)) h (d ∷ E) positive f l m top = absurd (omega arith)
  restored (suc b) (c ∷ r) h (d ∷ E) positive f l m top =
      ap₂ ◌∷◌
      (add_comm p (sub p c (mul p h d)) (mul p h d) ∙ add-sub p c (mul p h d) positive ∙ mod-eq_of_lt f.0)
      (restored b r h E positive f.1 (omega arith) (omega arith) top)

  module _ (i : ℕ) (E : List ℕ) (b : ℕ) (size : length E ≡ suc b) (inverse : mul p i (get_or E b 0) ≡ 1) (positive : 0 < p) where
    -- The next coefficient times the top of E is the top of what is divided.
    leading_top : (r : List ℕ) → Residues p r → length r ≡ suc b → mul p (leading p i E r) (get_or E b 0) ≡ get_or r b 0
    leading_top r f l =
        let top : length E - 1 ≡ b = omega arith in
        ap (λ j. mul p (mul p i (get_or r j 0)) (get_or E b 0)) top
        ∙ ap (λ z. mul p z (get_or E b 0)) (mul_comm p i (get_or r b 0))
        ∙ mul_assoc p (get_or r b 0) i (get_or E b 0)
        ∙ ap (mul p (get_or r b 0)) inverse
        ∙ mul-one p (get_or r b 0)
        ∙ mod-eq_of_lt (all-get_or (λ c. c < p) r b 0 (omega arith) f)

    pub division-forth : (n : ℕ) (Q : List ℕ) → Residues p Q → length Q ≡ n + b
        → add_product p (long_division p i E n Q).1 (long_division p i E n Q).0 E ≡ Q
    division-forth zero Q f l = refl
    division-forth (suc n) [] f l = absurd (omega arith)
    division-forth (suc n) (c ∷ Q) f l =
        let o = long_division p i E n Q in
        let r : List ℕ = c ∷ o.1 in
        let h = leading p i E r in
        let top : length E - 1 ≡ b = omega arith in
        let nonempty : 0 < length E = omega arith in
        let fine : Residues p r = (f.0, remainder-residues i E nonempty n Q positive f.1) in
        let whole : length r ≡ suc b = ap suc (remainder-size i E nonempty n Q (omega arith) ∙ top) in
        let again : add_times p (take (length E - 1) (less_times p r h E)) h E ≡ r =
        ap (λ j. add_times p (take j (less_times p r h E)) h E) top
        ∙ restored b r h E positive fine whole size (leading_top r fine whole) in
        ap (λ (z : List ℕ). get_or z 0 0 ∷ add_product p (tail z) o.0 E) again
        ∙ ap (λ (z : List ℕ). c ∷ z) (division-forth n Q f.1 (omega arith))
