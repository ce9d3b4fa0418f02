-- Laws of the digits of a number: how many there are, that the code's five or ten without the zeros in front are they, and that the library
-- writes the same.
use mathlib.Core.Path.{◌≡◌, refl, sym, ap, ap₂, ◌∙◌}
use mathlib.Core.Bool.{Bool, true, false}
use mathlib.Core.List.{List, [], ◌∷◌, ◌++◌, append_assoc}
use Prim.Native.Nat.{ℕ, zero, suc, ◌+◌, ◌*◌, ◌-◌, ◌/◌, ◌^◌, ◌≤◌, ◌<◌}
use native.Mathlib.Nat.{div-div-eq-div-mul, mod-eq_of_lt}
use native.Mathlib.Omega.{arith}
use borrow.Author.Tests.{lt-ltb, le-ltb, ltb-true, ltb-false}
use lib.Dec.{ltb}
use lib.ListN.{length, take, drop, length-append}
use Rattle.std.specs.Prelude.{decimal as written}
use Rattle.std.proofs.lemmas.Fmt.{decimal_from_appends, length-decimal-le}
use Rattle.text.specs.Letters.{letters, digit, spell, decimal, five, ten, zeros}

-- A number is below another or not.
by_size : (x m : ℕ) (Q : Type 0) → (x < m → Q) → (m ≤ x → Q) → Q
by_size x m Q below from = split (ltb x m) refl
  where
    split : (b : Bool) → ltb x m ≡ b → Q
    split true e = below (ltb-true x m e)
    split false e = from (ltb-false x m e)

-- ---- the last digit, and those in front of it
module _ (k x : ℕ) where
  pub spell_last : x < 10 → spell (suc k) x ≡ digit x ∷ []
  unfolding spell
  spell_last h = rw (lt-ltb x 10 h)

  pub spell-more : 10 ≤ x → spell (suc k) x ≡ spell k (x / 10) ++ digit x ∷ []
  unfolding spell
  spell-more h = rw (le-ltb x 10 h)

-- ---- lengths: no more than k digits are spelt, and no more than m of a number below 10 to the m
pub spell-within : (k m x : ℕ) → x < 10 ^ suc m → length (spell k x) ≤ suc m
unfolding spell
spell-within zero m x h = omega arith
spell-within (suc k) zero x h = rw (spell_last k x h) (omega arith)
spell-within (suc k) (suc m) x h =
    by_size x 10 (length (spell (suc k) x) ≤ suc (suc m))
    (λ l. rw (spell_last k x l) (omega arith))
    (λ l. rw (spell-more k x l, length-append) (omega (arith, spell-within k m (x / 10) (omega arith))))

pub spell-short : (k x : ℕ) → length (spell k x) ≤ k
unfolding spell
spell-short zero x = omega arith
spell-short (suc k) x =
    by_size x 10 (length (spell (suc k) x) ≤ suc k)
    (λ l. rw (spell_last k x l) (omega arith))
    (λ l. rw (spell-more k x l, length-append) (omega (arith, spell-short k (x / 10))))

pub decimal-short : (x : ℕ) → length (decimal x) ≤ 10
decimal-short x = spell-short 10 x

-- A lamp's number has at most two digits.
pub decimal-two : (x : ℕ) → x < 100 → length (decimal x) ≤ 2
decimal-two x h = spell-within 10 1 x h

pub decimal-one : (x : ℕ) → x < 10 → digit x ∷ [] ≡ decimal x
decimal-one x h = sym (spell_last 9 x h)

-- ---- up to five digits
two-spelt : (k x : ℕ) → 10 ≤ x → x < 100 → spell (suc (suc k)) x ≡ digit (x / 10) ∷ digit x ∷ []
two-spelt k x l h = spell-more (suc k) x l ∙ ap (λ z. z ++ digit x ∷ []) (spell_last k (x / 10) (omega arith))

three-spelt : (k x : ℕ) → 100 ≤ x → x < 1000 → spell (suc (suc (suc k))) x ≡ digit (x / 100) ∷ digit (x / 10) ∷ digit x ∷ []
three-spelt k x l h =
    spell-more (suc (suc k)) x (omega arith)
    ∙ ap (λ z. z ++ digit x ∷ []) (two-spelt k (x / 10) (omega arith) (omega arith))
    ∙ ap (λ z. digit z ∷ digit (x / 10) ∷ digit x ∷ []) (div-div-eq-div-mul x 10 10)

four-spelt : (k x : ℕ) → 1000 ≤ x → x < 10000
    → spell (suc (suc (suc (suc k)))) x ≡ digit (x / 1000) ∷ digit (x / 100) ∷ digit (x / 10) ∷ digit x ∷ []
four-spelt k x l h =
    spell-more (suc (suc (suc k))) x (omega arith)
    ∙ ap (λ z. z ++ digit x ∷ []) (three-spelt k (x / 10) (omega arith) (omega arith))
    ∙ ap₂ (λ y z. digit y ∷ digit z ∷ digit (x / 10) ∷ digit x ∷ []) (div-div-eq-div-mul x 10 100) (div-div-eq-div-mul x 10 10)

five-spelt : (k x : ℕ) → 10000 ≤ x → x < 100000 → spell (suc (suc (suc (suc (suc k))))) x ≡ five x
five-spelt k x l h =
    spell-more (suc (suc (suc (suc k)))) x (omega arith)
    ∙ ap (λ z. z ++ digit x ∷ []) (four-spelt k (x / 10) (omega arith) (omega arith))
    ∙ ap₂ (λ y z. digit (x / 10 / 1000) ∷ digit y ∷ digit z ∷ digit (x / 10) ∷ digit x ∷ [])
    (div-div-eq-div-mul x 10 100) (div-div-eq-div-mul x 10 10)
    ∙ ap (λ y. digit y ∷ digit (x / 1000) ∷ digit (x / 100) ∷ digit (x / 10) ∷ digit x ∷ []) (div-div-eq-div-mul x 10 1000)

-- Five digits without the zeros in front.
abbrev counted : ℕ → List ℕ
counted x = take (5 - zeros x) (drop (zeros x) (five x))

below-spelt : (k x : ℕ) → x < 100000 → counted x ≡ spell (suc (suc (suc (suc (suc k))))) x
unfolding zeros
below-spelt k x h =
    let Q : Type 0 = counted x ≡ spell (suc (suc (suc (suc (suc k))))) x in
    by_size x 10 Q (λ a. rw (lt-ltb x 10 a) (sym (spell_last _ x a)))
    (λ a. by_size x 100 Q (λ b. rw (le-ltb x 10 a, lt-ltb x 100 b) (sym (two-spelt _ x a b)))
    (λ b. by_size x 1000 Q (λ d. rw (le-ltb x 10 a, le-ltb x 100 b, lt-ltb x 1000 d) (sym (three-spelt _ x b d)))
    (λ d. by_size x 10000 Q (λ e. rw (le-ltb x 10 a, le-ltb x 100 b, le-ltb x 1000 d, lt-ltb x 10000 e) (sym (four-spelt _ x d e)))
    (λ e. rw (le-ltb x 10 a, le-ltb x 100 b, le-ltb x 1000 d, le-ltb x 10000 e) (sym (five-spelt k x e h))))))

-- As the code takes them.
pub decimal-part : (digits : List ℕ) (from x : ℕ) → digits ≡ five x → from ≡ zeros x → x < 100000
    → take (5 - from) (drop from digits) ≡ decimal x
decimal-part digits from x e f h = ap₂ (λ m l. take (5 - m) (drop m l)) f e ∙ below-spelt 5 x h

-- ---- from 100,000 on: five digits behind those of the hundred thousands
more : (k x m : ℕ) → 10 ≤ x / m → spell (suc k) (x / m) ≡ spell k (x / (m * 10)) ++ digit (x / m) ∷ []
more k x m h = spell-more k (x / m) h ∙ ap (λ z. spell k z ++ digit (x / m) ∷ []) (div-div-eq-div-mul x m 10)

five-more : (k x : ℕ) → 100000 ≤ x → spell (suc (suc (suc (suc (suc k))))) x ≡ spell k (x / 100000) ++ five x
five-more k x h =
    spell-more (suc (suc (suc (suc k)))) x (omega arith)
    ∙ ap (λ z. z ++ digit x ∷ []) (more (suc (suc (suc k))) x 10 (omega arith)
    ∙ ap (λ z. z ++ digit (x / 10) ∷ []) (more (suc (suc k)) x 100 (omega arith)
    ∙ ap (λ z. z ++ digit (x / 100) ∷ []) (more (suc k) x 1000 (omega arith)
    ∙ ap (λ z. z ++ digit (x / 1000) ∷ []) (more k x 10000 (omega arith)))))
    ∙ simp append_assoc

-- Ten digits without up to four in front are five without them, and five more.
four-off : (from : ℕ) → from ≤ 4 → (a b c d e f g h i j : ℕ)
    → take (10 - from) (drop from (a ∷ b ∷ c ∷ d ∷ e ∷ f ∷ g ∷ h ∷ i ∷ j ∷ []))
    ≡ take (5 - from) (drop from (a ∷ b ∷ c ∷ d ∷ e ∷ [])) ++ f ∷ g ∷ h ∷ i ∷ j ∷ []
four-off zero l a b c d e f g h i j = refl
four-off (suc zero) l a b c d e f g h i j = refl
four-off (suc (suc zero)) l a b c d e f g h i j = refl
four-off (suc (suc (suc zero))) l a b c d e f g h i j = refl
four-off (suc (suc (suc (suc zero)))) l a b c d e f g h i j = refl
four-off (suc (suc (suc (suc (suc from))))) l a b c d e f g h i j = absurd (omega arith)

pub decimal-long : (digits : List ℕ) (from x : ℕ) → digits ≡ ten x → from ≡ zeros (x / 100000) → from ≤ 4 → 100000 ≤ x → x < 10000000000
    → take (10 - from) (drop from digits) ≡ decimal x
decimal-long digits from x e f l h u =
    ap (λ z. take (10 - from) (drop from z)) e
    ∙ four-off from l _ _ _ _ _ _ _ _ _ _
    ∙ ap (λ z. take (5 - z) (drop z (five (x / 100000))) ++ five x) f
    ∙ ap (λ z. z ++ five x) (below-spelt 0 (x / 100000) (omega arith))
    ∙ sym (five-more 5 x h)

-- ---- what the library writes of a number is the same, as long as ten digits are enough
pub decimal-written : (x : ℕ) → x < 10 ^ 10 → decimal x ≡ written x
decimal-written x h =
    decimal_from_appends spell (record {
      one = λ k n l. spell_last k n l ∙ ap (λ d. (48 + d) ∷ []) (mod-eq_of_lt l);
      more = λ k n l. spell-more k n l;
    }) 10 x (omega arith) (length-decimal-le 10 x (omega arith) h (omega arith))

-- ---- computed
pub decimal-zero : decimal 0 ≡ letters "0"
unfolding spell
decimal-zero = refl

pub decimal-six : decimal 100000 ≡ letters "100000"
unfolding spell
decimal-six = refl

pub decimal-largest : decimal 4294967295 ≡ letters "4294967295"
unfolding spell
decimal-largest = refl
