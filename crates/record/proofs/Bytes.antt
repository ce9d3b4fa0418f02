-- Laws of numbers in bytes: lengths, places, bounds, for two bytes and for four, and what `stand_at` and `over` say.
use mathlib.Core.Path.{◌≡◌, refl, sym, ap, ap₂, ◌∙◌}
use mathlib.Core.Bool.{true, and-eq-true_iff}
use mathlib.Core.List.{List, [], ◌∷◌, ◌++◌}
use Prim.Native.Nat.{ℕ, zero, suc, ◌+◌, ◌*◌, ◌/◌, ◌≤◌, ◌<◌}
use native.Mathlib.Nat.{mul-le-mul}
use native.Mathlib.Omega.{arith}
use lib.Dec.{eqb}
use lib.ListN.{length, get_or, get_or-eq_default, take, drop}
use lib.Seq.{take_at, drop_at}
use borrow.Author.Tests.{eqb-true, eq-eqb}
use Rattle.lists.specs.All.{All}
use Rattle.field.specs.declared.Width.{Width}
use Rattle.field.specs.declared.Width.TheVariants.{Narrow, Wide}
use Rattle.record.specs.Bytes.{paired, number_at, numbers, number_in, wide_number_at, wide_numbers, wide_number_in}
use Rattle.arrays.specs.Limits.{limit_of}
use Rattle.record.specs.Bytes.{number_bytes, number_at_by, numbers_by, number_by, stand_at, over}

-- ---- Two as one, for any weight b of the first
module _ (b : ℕ) where
  pub length-paired : (xs : List ℕ) → length (paired b xs) ≡ length xs / 2
  unfolding paired
  length-paired [] = refl
  length-paired (high ∷ []) = refl
  length-paired (high ∷ low ∷ xs) = ap suc (length-paired xs) ∙ omega arith

  paired-place : (xs : List ℕ) (k : ℕ) → k < length xs / 2 → get_or (paired b xs) k 0 ≡ get_or xs (2 * k) 0 * b + get_or xs (2 * k + 1) 0
  unfolding paired
  paired-place [] k h = absurd (omega arith)
  paired-place (high ∷ []) k h = absurd (omega arith)
  paired-place (high ∷ low ∷ xs) zero h = refl
  paired-place (high ∷ low ∷ xs) (suc k) h =
      let next : 2 * suc k ≡ suc (suc (2 * k)) = omega arith in
      let behind : suc (suc (2 * k)) + 1 ≡ suc (suc (2 * k + 1)) = omega arith in
      paired-place xs k (omega arith) ∙ rw (next, behind)

  -- A part of the numbers is that of the part.
  paired-drop : (k : ℕ) (xs : List ℕ) → paired b (drop (2 * k) xs) ≡ drop k (paired b xs)
  unfolding paired
  paired-drop zero xs = refl
  paired-drop (suc k) [] = let next : 2 * suc k ≡ suc (suc (2 * k)) = omega arith in rw next refl
  paired-drop (suc k) (high ∷ []) = let next : 2 * suc k ≡ suc (suc (2 * k)) = omega arith in rw next refl
  paired-drop (suc k) (high ∷ low ∷ xs) = let next : 2 * suc k ≡ suc (suc (2 * k)) = omega arith in rw next (paired-drop k xs)

  paired-take : (k : ℕ) (xs : List ℕ) → paired b (take (2 * k) xs) ≡ take k (paired b xs)
  unfolding paired
  paired-take zero xs = refl
  paired-take (suc k) [] = let next : 2 * suc k ≡ suc (suc (2 * k)) = omega arith in rw next refl
  paired-take (suc k) (high ∷ []) = let next : 2 * suc k ≡ suc (suc (2 * k)) = omega arith in rw next refl
  paired-take (suc k) (high ∷ low ∷ xs) =
      let next : 2 * suc k ≡ suc (suc (2 * k)) = omega arith in rw next (ap (λ z. (high * b + low) ∷ z) (paired-take k xs))

  paired-part : (from count : ℕ) (xs : List ℕ) → paired b (take (2 * count) (drop (2 * from) xs)) ≡ take count (drop from (paired b xs))
  paired-part from count xs = paired-take count (drop (2 * from) xs) ∙ ap (take count) (paired-drop from xs)

  pub paired-below : (xs : List ℕ) → All (λ x. x < b) xs → All (λ x. x < b * b) (paired b xs)
  unfolding paired
  paired-below [] h = tt
  paired-below (high ∷ []) h = tt
  paired-below (high ∷ low ∷ xs) (u, (v, h)) =
      let most = mul-le-mul {n₁ = suc high} {m₁ = b} {n₂ = b} {m₂ = b} (omega arith) (omega arith) in
      (omega (arith, most), paired-below xs h)

-- ---- The numbers of a list of bytes, for either width

pub length-numbers : (w : Width) (bytes : List ℕ) → length (numbers_by w bytes) ≡ length bytes / number_bytes w
length-numbers Narrow bytes = length-paired 256 bytes
length-numbers Wide bytes = length-paired 65536 (numbers bytes) ∙ ap (λ z. z / 2) (length-paired 256 bytes) ∙ omega arith

pub number-place : (bytes : List ℕ) (k : ℕ) → k < length bytes / 2 → number_in bytes k ≡ number_at bytes (2 * k)
number-place bytes k h = paired-place 256 bytes k h

pub wide-number-place : (bytes : List ℕ) (k : ℕ) → k < length bytes / 4 → wide_number_in bytes k ≡ wide_number_at bytes (4 * k)
wide-number-place bytes k h =
    let long = length-paired 256 bytes in
    let here : 2 * (2 * k) ≡ 4 * k = omega arith in
    let there : 2 * (2 * k + 1) ≡ 4 * k + 2 = omega arith in
    paired-place 65536 (numbers bytes) k (omega arith)
    ∙ ap₂ (λ x y. x * 65536 + y)
    (number-place bytes (2 * k) (omega arith) ∙ ap (number_at bytes) here)
    (number-place bytes (2 * k + 1) (omega arith) ∙ ap (number_at bytes) there)

-- As the code counts them and reads the k-th: where its bytes stand, or 0 behind the last.
module _ (w : Width) (bytes : List ℕ) (each : ℕ) (e : each ≡ number_bytes w) where
  pub length-by : length (numbers_by w bytes) ≡ length bytes / each
  length-by = rw e (length-numbers w bytes)

  pub place-by : (k : ℕ) → k < length bytes / each → number_at_by w bytes (each * k) ≡ number_by w bytes k
  place-by k h = rw e (place-at w k (rw e at h))
    where
      place-at : (w : Width) (k : ℕ) → k < length bytes / number_bytes w → number_at_by w bytes (number_bytes w * k) ≡ number_by w bytes k
      place-at Narrow k h = sym (number-place bytes k h)
      place-at Wide k h = sym (wide-number-place bytes k h)

  pub none-by : (k : ℕ) → length bytes / each ≤ k → 0 ≡ number_by w bytes k
  none-by k h = sym (get_or-eq_default (numbers_by w bytes) 0 (omega (arith, length-by)))

-- A part of the numbers is that of the part of the bytes.
pub numbers-part : (w : Width) (from count : ℕ) (bytes : List ℕ)
    → numbers_by w (take (number_bytes w * count) (drop (number_bytes w * from) bytes)) ≡ take count (drop from (numbers_by w bytes))
numbers-part Narrow from count bytes = paired-part 256 from count bytes
numbers-part Wide from count bytes =
    let c : 4 * count ≡ 2 * (2 * count) = omega arith in
    let d : 4 * from ≡ 2 * (2 * from) = omega arith in
    ap₂ (λ x y. wide_numbers (take x (drop y bytes))) c d
    ∙ ap (paired 65536) (paired-part 256 (2 * from) (2 * count) bytes)
    ∙ paired-part 65536 from count (numbers bytes)

pub numbers-below : (w : Width) (bytes : List ℕ) → All (λ b. b < 256) bytes → All (λ x. x < limit_of w) (numbers_by w bytes)
numbers-below Narrow bytes h = paired-below 256 bytes h
numbers-below Wide bytes h = paired-below 65536 (numbers bytes) (paired-below 256 bytes h)

-- ---- Numbers that stand from a place on

pub stand-first : (bytes : List ℕ) (at x : ℕ) (xs : List ℕ) → number_at bytes at ≡ x
    → stand_at bytes at (x ∷ xs) ≡ stand_at bytes (at + 2) xs
unfolding stand_at
stand-first bytes at x xs e = rw (eq-eqb (number_at bytes at) x e)

pub stand-facts : (bytes : List ℕ) (at : ℕ) (xs : List ℕ) → stand_at bytes at xs ≡ true
    → (k : ℕ) → k < length xs → number_at bytes (at + 2 * k) ≡ get_or xs k 0
unfolding stand_at
stand-facts bytes at [] e k h = absurd (omega arith)
stand-facts bytes at (x ∷ xs) e zero h =
    let here : at + 2 * 0 ≡ at = omega arith in
    ap (number_at bytes) here ∙ eqb-true _ _ ((and-eq-true_iff (eqb (number_at bytes at) x) (stand_at bytes (at + 2) xs)).0 e).0
stand-facts bytes at (x ∷ xs) e (suc k) h =
    let there : at + 2 * suc k ≡ at + 2 + 2 * k = omega arith in
    ap (number_at bytes) there
    ∙ stand-facts bytes (at + 2) xs ((and-eq-true_iff (eqb (number_at bytes at) x) (stand_at bytes (at + 2) xs)).0 e).1 k (omega arith)

pub stand-true : (bytes : List ℕ) (at : ℕ) (xs : List ℕ)
    → ((k : ℕ) → k < length xs → number_at bytes (at + 2 * k) ≡ get_or xs k 0) → stand_at bytes at xs ≡ true
unfolding stand_at
stand-true bytes at [] h = refl
stand-true bytes at (x ∷ xs) h =
    let here : at ≡ at + 2 * 0 = omega arith in
    stand-first bytes at x xs (ap (number_at bytes) here ∙ h 0 (omega arith))
    ∙ stand-true bytes (at + 2) xs (λ k l.
    let there : at + 2 + 2 * k ≡ at + 2 * suc k = omega arith in
    ap (number_at bytes) there ∙ h (suc k) (omega arith))

-- ---- A list over the front of another

pub over-room : (xs ys : List ℕ) → length xs ≤ length ys → over xs ys ≡ xs ++ drop (length xs) ys
unfolding over
over-room [] ys h = refl
over-room (x ∷ xs) [] h = absurd (omega arith)
over-room (x ∷ xs) (y ∷ ys) h = ap (λ z. x ∷ z) (over-room xs ys (omega arith))

pub over-full : (xs ys : List ℕ) → length ys ≤ length xs → over xs ys ≡ take (length ys) xs
unfolding over
over-full [] [] h = refl
over-full [] (y ∷ ys) h = absurd (omega arith)
over-full (x ∷ xs) [] h = refl
over-full (x ∷ xs) (y ∷ ys) h = ap (λ z. x ∷ z) (over-full xs ys (omega arith))

pub length_over : (xs ys : List ℕ) → length (over xs ys) ≡ length ys
unfolding over
length_over [] ys = refl
length_over (x ∷ xs) [] = refl
length_over (x ∷ xs) (y ∷ ys) = ap suc (length_over xs ys)

-- The front is xs, and the rest is as it was.
pub over-front : (xs ys : List ℕ) → length xs ≤ length ys → take (length xs) (over xs ys) ≡ xs
over-front xs ys h = ap (take (length xs)) (over-room xs ys h) ∙ take_at xs (drop (length xs) ys) (length xs) refl

pub over-rest : (xs ys : List ℕ) → length xs ≤ length ys → drop (length xs) (over xs ys) ≡ drop (length xs) ys
over-rest xs ys h = ap (drop (length xs)) (over-room xs ys h) ∙ drop_at xs (drop (length xs) ys) (length xs) refl

-- ---- Computed: the largest number of each width, and that a byte that is left over is none
pub numbers-computed : numbers (255 ∷ 255 ∷ 1 ∷ 2 ∷ 3 ∷ []) ≡ 65535 ∷ 258 ∷ []
unfolding paired
numbers-computed = refl

pub wide-numbers-computed : wide_numbers (255 ∷ 255 ∷ 255 ∷ 255 ∷ 0 ∷ 1 ∷ 0 ∷ 2 ∷ 3 ∷ []) ≡ 4294967295 ∷ 65538 ∷ []
unfolding paired
wide-numbers-computed = refl
