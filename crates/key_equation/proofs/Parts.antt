-- Parts of a list that are lent, with a last place that is room, and come back with something else.
--   front-part      what stands before the room
--   back-in-front, back-size   what stands in front of the whole list then, and its length
--   raised-front    where the part was multiplied by X − x
use mathlib.Core.Path.{◌≡◌, sym, ap, ◌∙◌}
use mathlib.Core.List.{List, [], ◌∷◌, ◌++◌, append_assoc, append-nil}
use Prim.Native.Nat.{ℕ, suc, ◌+◌, ◌-◌, ◌≤◌}
use native.Mathlib.Omega.{arith}
use lib.ListN.{length, take, drop, length-append, length-drop}
use lib.Seq.{length-take-le, take_at}
use Rattle.lists.proofs.Sublists.{take-take}
use Rattle.polynomial.specs.Polynomial.{Poly, raise}
use Rattle.polynomial.proofs.Raising.{length-raise}
use Rattle.key_equation.specs.Solving.{front, raised}

pub front-part : (n : ℕ) (l : List ℕ) → suc n ≤ length l → front (take (suc n) l) ≡ take n l
front-part n l h =
    let size : length (take (suc n) l) - 1 ≡ n = omega (arith, length-take-le (suc n) l h) in
    let one : n + 1 ≡ suc n = omega arith in
    ap (λ i. take i (take (suc n) l)) size ∙ ap (λ i. take n (take i l)) (sym one) ∙ take-take n 1 l

-- What stands in front of a part that comes back stands in front of the list.
pub back-in-front : (n k : ℕ) (l part first rest : List ℕ) → part ≡ first ++ rest → length first ≡ k → take k (part ++ drop n l) ≡ first
back-in-front n k l part first rest e size =
    ap (λ z. take k (z ++ drop n l)) e ∙ ap (take k) (append_assoc first rest (drop n l)) ∙ take_at first (rest ++ drop n l) k size

pub back-size : (n : ℕ) (l part : List ℕ) → n ≤ length l → length part ≡ n → length (part ++ drop n l) ≡ length l
back-size n l part h size = length-append part (drop n l) ∙ omega (arith, length-drop n l)

module _ (p x : ℕ) where
  -- X − x times what stood before the room.
  pub raised-front : (n : ℕ) (l part : List ℕ) → Poly p n (take n l) → front (take (suc n) l) ≡ take n l
      → part ≡ raised p x (take (suc n) l)
      → (take (suc n) (part ++ drop (suc n) l) ≡ raise p x (0 ∷ take n l)) × (length part ≡ suc n)
  raised-front n l part h f e =
      let is : part ≡ raise p x (0 ∷ take n l) = e ∙ ap (λ z. raise p x (0 ∷ z)) f in
      let size : length (raise p x (0 ∷ take n l)) ≡ suc n = length-raise p x (0 ∷ take n l) ∙ ap suc h.size in (
        back-in-front (suc n) (suc n) l part (raise p x (0 ∷ take n l)) []
            (is ∙ sym (append-nil (raise p x (0 ∷ take n l)))) size,
        ap length is ∙ size,
      )
