-- The loops that write in place, from the front: behind place i stands what was there.
--   Raising, raising-end   X − x times a list whose last place is room; `before` is the number that stood before place i
--   Mixing                 d r − g q in the place of r
use mathlib.Core.Path.{◌≡◌, sym, ap, ◌∙◌}
use mathlib.Core.List.{List, [], ◌∷◌, ◌++◌}
use Prim.Native.Nat.{ℕ, ◌+◌, ◌-◌, ◌<◌, ◌≤◌}
use native.Mathlib.Omega.{arith}
use lib.ListN.{length, get_or, take, drop, set}
use lib.Seq.{length-take-le, take_all}
use Rattle.std.proofs.lemmas.List.{set_at, drop_more, drop_all}
use Rattle.polynomial.specs.Polynomial.{Residues, raise}
use Rattle.key_equation.specs.Solving.{front, raised, mixed}

-- ---- X − x times
module _ (p x : ℕ) (f : List ℕ) where
  -- Before place i of g stands what is to stand there, and from there on raising goes on with `before`, the number that stood at i − 1.
  pub record Raising (g : List ℕ) (before i : ℕ) : Type 0 where
    pub size : length g ≡ length f
    pub small : before < p
    pub residues : Residues p g
    pub goal : take i g ++ raise p x (before ∷ drop i g) ≡ raise p x (0 ∷ f)

-- What was carried on comes last, into the room.
pub raising-end : (p x : ℕ) (f g : List ℕ) (before i : ℕ) → 0 < length f → Raising p x (front f) g before i → length (front f) ≤ i
    → set (g ++ drop (length f - 1) f) (length f - 1) before ≡ raised p x f
raising-end p x f g before i positive k done =
    let size : length g ≡ length f - 1 = k.size ∙ length-take-le (length f - 1) f (omega arith) in
    ap (λ z. set (g ++ z) (length f - 1) before)
    (drop_more f (length f - 1) 0 (omega arith) ∙ ap (λ z. get_or f (length f - 1) 0 ∷ z) (drop_all (length f - 1 + 1) f (omega arith)))
    ∙ set_at g (get_or f (length f - 1) 0) [] before (length f - 1) size
    ∙ ap (λ z. z ++ before ∷ []) (sym (take_all i g (omega (arith, k.size))))
    ∙ ap (λ z. take i g ++ raise p x (before ∷ z)) (sym (drop_all i g (omega (arith, k.size))))
    ∙ k.goal

-- ---- d r − g q
module _ (p d : ℕ) (r₀ : List ℕ) (g : ℕ) (q : List ℕ) where
  -- Before place i of r stands what is to stand there, and behind it r as it was.
  pub record Mixing (r : List ℕ) (i : ℕ) : Type 0 where
    pub residues : Residues p r
    pub goal : take i r ++ mixed p d (drop i r) g (drop i q) ≡ mixed p d r₀ g q
