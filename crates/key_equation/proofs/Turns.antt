-- Loops over the points behind the first k, xs and ys side by side.
--   rest k xs        what is gone over
--   turn-at, end-at  the point at a turn, and that all were gone over at the end
--   counted-at       the point at a turn, where the turns are counted
use mathlib.Core.Path.{◌≡◌, ap, ◌∙◌}
use mathlib.Core.List.{List}
use Prim.Native.Nat.{ℕ, ◌+◌, ◌<◌, ◌≤◌}
use native.Mathlib.Omega.{arith}
use lib.ListN.{length, get_or}
use denote.Ref.{Bor}
use Rattle.std.specs.Prelude.{Option, Some, None}
use Rattle.std.specs.Iterator.{Yields}
use Rattle.std.specs.Iterator.Adapters.{zip_first, zip_second, enumerate_source, enumerate_count, enumerate_steps}
use Rattle.std.specs.List.{between, zip, enumerate_from}
use Rattle.std.specs.Slice.Iter.{iter_rest}
use Rattle.std.specs.declared.iter.Enumerate.{Enumerate}
use Rattle.std.specs.declared.iter.Zip.{Zip}
use Rattle.std.specs.declared.slice.Iter.{Iter}
use Rattle.std.proofs.iter.Yields.{fronts}
use Rattle.std.proofs.lemmas.Iterator.{zips, YieldsList, YieldsList-from_slice, YieldsList-from_zip}
use Rattle.std.proofs.lemmas.Iterator.Consumers.{YieldsList-from_enumerate, YieldsList-turn}
use Rattle.std.proofs.lemmas.List.Edits.{length-between, get_or-between}
use Rattle.std.proofs.lemmas.List.FromFn.{length-enumerate_from, get_or-enumerate_from}
use Rattle.std.proofs.lemmas.List.{get_or_default}
use Rattle.std.proofs.lemmas.Slice.Zip.{zip_turn, zip_end, length-zip, get_or-zip}

abbrev pub rest : ℕ → List ℕ → List ℕ
rest k xs = between k (length xs) xs

at-rest : (k : ℕ) (xs : List ℕ) (i x : ℕ) → i < length (rest k xs) → x ≡ get_or (rest k xs) i 0
    → (k + i < length xs) × (x ≡ get_or xs (k + i) 0)
at-rest k xs i x h e =
    let n = length-between xs k (length xs) (omega arith) in
    (omega arith, e ∙ get_or-between xs k (length xs) i 0 (omega arith))

-- The point at place i of the rest.
abbrev pub PointAt : ℕ → List ℕ → List ℕ → ℕ → ℕ → ℕ → Type 0
PointAt k xs ys i x y = (k + i < length xs) × (x ≡ get_or xs (k + i) 0) × (y ≡ get_or ys (k + i) 0)

at-both : (k : ℕ) (xs ys : List ℕ) (i x y : ℕ) → i < length (rest k xs) → i < length (rest k ys) → x ≡ get_or (rest k xs) i 0
    → y ≡ get_or (rest k ys) i 0 → PointAt k xs ys i x y
at-both k xs ys i x y left right at-x at-y =
    let a = at-rest k xs i x left at-x in
    (a.0, a.1, (at-rest k ys i y right at-y).1)

module _ (k : ℕ) (xs ys : List ℕ) (seen : List (Bor ℕ × Bor ℕ)) (s t u : Zip (Iter ℕ) (Iter ℕ)) (r : Option (Bor ℕ × Bor ℕ))
    (first : iter_rest (zip_first s) ≡ rest k xs) (second : iter_rest (zip_second s) ≡ rest k ys) (y : Yields (zips fronts fronts) s seen t)
  where
    pub turn-at : (p : Bor ℕ × Bor ℕ) → r ≡ Some p → zips fronts fronts t r u → PointAt k xs ys (length seen) p.0.now p.1.now
    turn-at p is next =
        let h = zip_turn (rest k xs) (rest k ys) seen s t u r first second y p is next in
        at-both k xs ys (length seen) p.0.now p.1.now h.0 h.1 (h.2 0) (h.3 0)

    pub end-at : k ≤ length xs → length xs ≡ length ys → r ≡ None → zips fronts fronts t r u → k + length seen ≡ length xs
    end-at inside l is next =
        let e = zip_end (rest k xs) (rest k ys) seen s t u r first second y is next in
        omega (arith, length-between xs k (length xs) (omega arith), length-between ys k (length ys) (omega arith), e)

module _ (k : ℕ) (xs ys : List ℕ) (seen : List (ℕ × (Bor ℕ × Bor ℕ))) (s t u : Enumerate (Zip (Iter ℕ) (Iter ℕ)))
    (r : Option (ℕ × (Bor ℕ × Bor ℕ))) (first : iter_rest (zip_first (enumerate_source s)) ≡ rest k xs)
    (second : iter_rest (zip_second (enumerate_source s)) ≡ rest k ys) (none : enumerate_count s ≡ 0)
    (y : Yields (enumerate_steps (zips fronts fronts)) s seen t)
  where
    abbrev pairs : List (ℕ × ℕ)
    pairs = zip (rest k xs) (rest k ys)

    items : YieldsList (enumerate_steps (zips fronts fronts)) (λ (p : ℕ × (Bor ℕ × Bor ℕ)). (p.0, (p.1.0.now, p.1.1.now))) s
        (enumerate_from 0 pairs)
    items =
        YieldsList-from_enumerate (YieldsList-from_zip (YieldsList-from_slice (rest k xs) first) (YieldsList-from_slice (rest k ys) second))
        none

    pub counted-at : (n : ℕ) (a b : Bor ℕ) → r ≡ Some (n, (a, b)) → enumerate_steps (zips fronts fronts) t r u
        → PointAt k xs ys (length seen) a.now b.now
    counted-at n a b is next =
        let (h, e) = YieldsList-turn items seen t y r u (n, (a, b)) is next in
        let inside : length seen < length pairs = omega (arith, length-enumerate_from 0 pairs) in
        let left : length seen < length (rest k xs) = omega (arith, length-zip (rest k xs) (rest k ys)) in
        let right : length seen < length (rest k ys) = omega (arith, length-zip (rest k xs) (rest k ys)) in
        let at = rw (
          get_or-enumerate_from 0 pairs (length seen) (n, (a.now, b.now)) inside,
          get_or-zip (rest k xs) (rest k ys) (length seen) (a.now, b.now) left right,
        ) at e in
        at-both k xs ys (length seen) a.now b.now left right
        (ap (λ (q : ℕ × (ℕ × ℕ)). q.1.0) at ∙ get_or_default (rest k xs) (length seen) a.now 0 left)
        (ap (λ (q : ℕ × (ℕ × ℕ)). q.1.1) at ∙ get_or_default (rest k ys) (length seen) b.now 0 right)
