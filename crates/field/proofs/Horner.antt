-- Horner's rule without a reduction on the way.
--   cubic-by   the sum for four coefficients has the residue of a cubic's value, also where another number of the same residue stands for
--              what is found so far
--   narrow-fits   of numbers of 16 bits the sum fits 64
use mathlib.Core.Path.{◌≡◌, refl, sym, ap, ◌∙◌}
use Prim.Native.Nat.{ℕ, ◌+◌, ◌*◌, ◌%◌, ◌≤◌, ◌<◌}
use native.Mathlib.Nat.{mul-le-mul}
use native.Mathlib.Omega.{arith}
use mathlib.Core.List.{List}
use lib.Dec.{lit<}
use lib.ListN.{length, get_or}
use Rattle.lists.specs.All.{All}
use Rattle.lists.proofs.All.{all-get_or}
use Rattle.field.specs.Arithmetic.{add, mul, cubic_value}
use Rattle.field.proofs.Ring.{add-residue, mul-mod, one-reduction}

-- A step of Horner's rule whose value so far is not reduced.
step : (p x w v c : ℕ) → w % p ≡ v % p → (x * w + c) % p ≡ add p c (mul p x v)
step p x w v c e =
    one-reduction p x w c ∙ ap (add p c) (sym (mul-mod p x w) ∙ ap (mul p x) e ∙ mul-mod p x v)

pub cubic-by : (p a b c d x h m : ℕ) → h % p ≡ (x * d + c) % p → m % p ≡ (x * h + b) % p → (x * m + a) % p ≡ cubic_value p a b c d x
cubic-by p a b c d x h m eh em =
    let again : (w v : ℕ) (k : ℕ) → w % p ≡ v % p → (x * w + k) % p ≡ add p k (mul p x v) % p =
    λ w v k e. step p x w v k e ∙ sym (add-residue p k (mul p x v)) in
    step p x m _ a (em ∙ again h _ b (eh ∙ again d d c refl))

-- How large a step's number gets.
next_le : (x w c k l m : ℕ) → x ≤ k → c ≤ l → w ≤ m → x * w + c ≤ k * m + l
next_le x w c k l m hx hc hw = omega (arith, mul-le-mul {n₁ = x} {m₁ = w} {n₂ = k} {m₂ = m} hx hw)

-- Of numbers of 16 bits the whole sum fits 64.
pub narrow-fits : (f : List ℕ) (x : ℕ) → length f ≡ 4 → All (λ c. c < 65521) f → x < 65521
    → x * (x * (x * get_or f 3 0 + get_or f 2 0) + get_or f 1 0) + get_or f 0 0 ≤ 18429017544357703920
narrow-fits f x l h hx =
    let at : (k : ℕ) → k < 4 → get_or f k 0 ≤ 65520 = λ k q. omega (arith, all-get_or (λ c. c < 65521) f k 0 (omega arith) h) in
    let high = next_le x (get_or f 3 0) (get_or f 2 0) 65520 65520 65520 (omega arith) (at 2 (lit< tt)) (at 3 (lit< tt)) in
    let middle = next_le x _ (get_or f 1 0) 65520 65520 4292935920 (omega arith) (at 1 (lit< tt)) high in
    next_le x _ (get_or f 0 0) 65520 65520 281273161543920 (omega arith) (at 0 (lit< tt)) middle
