-- A loop over two lists side by side, whose turns are counted.
--   BothAt xs ys i k a b   turn i, counted as k, has a and b at hand
--   turn-at, turn-end      what a turn has at hand, and how many turns there were
use mathlib.Core.Path.{◌≡◌, ap, ◌∙◌}
use mathlib.Core.List.{List}
use Prim.Native.Nat.{ℕ, ◌<◌}
use native.Mathlib.Omega.{arith}
use lib.ListN.{length, get_or}
use denote.Ref.{Bor}
use Rattle.std.specs.Prelude.{Option, Some, None}
use Rattle.std.specs.Iterator.{Yields}
use Rattle.std.specs.Iterator.Adapters.{zip_first, zip_second, enumerate_source, enumerate_count, enumerate_steps}
use Rattle.std.specs.List.{zip, enumerate_from}
use Rattle.std.specs.Slice.Iter.{iter_rest}
use Rattle.std.specs.declared.iter.Enumerate.{Enumerate}
use Rattle.std.specs.declared.iter.Zip.{Zip}
use Rattle.std.specs.declared.slice.Iter.{Iter}
use Rattle.std.proofs.iter.Yields.{fronts}
use Rattle.std.proofs.lemmas.Iterator.{zips, YieldsList, YieldsList-from_slice, YieldsList-from_zip}
use Rattle.std.proofs.lemmas.Iterator.Consumers.{YieldsList-from_enumerate, YieldsList-turn, YieldsList-end}
use Rattle.std.proofs.lemmas.List.FromFn.{length-enumerate_from, get_or-enumerate_from}
use Rattle.std.proofs.lemmas.List.{get_or_default}
use Rattle.std.proofs.lemmas.Slice.Zip.{length-zip, get_or-zip}

-- Turn i, counted as k, has these two.
abbrev pub BothAt : List ℕ → List ℕ → ℕ → ℕ → ℕ → ℕ → Type 0
BothAt xs ys i k a b = (i < length xs) × (k ≡ i) × (a ≡ get_or xs i 0) × (b ≡ get_or ys i 0)

module _ (xs ys : List ℕ) (seen : List (ℕ × (Bor ℕ × Bor ℕ))) (s t u : Enumerate (Zip (Iter ℕ) (Iter ℕ)))
    (r : Option (ℕ × (Bor ℕ × Bor ℕ))) (first : iter_rest (zip_first (enumerate_source s)) ≡ xs)
    (second : iter_rest (zip_second (enumerate_source s)) ≡ ys) (none : enumerate_count s ≡ 0)
    (y : Yields (enumerate_steps (zips fronts fronts)) s seen t)
  where
    abbrev pairs : List (ℕ × ℕ)
    pairs = zip xs ys

    items : YieldsList (enumerate_steps (zips fronts fronts)) (λ (p : ℕ × (Bor ℕ × Bor ℕ)). (p.0, (p.1.0.now, p.1.1.now))) s
        (enumerate_from 0 pairs)
    items = YieldsList-from_enumerate (YieldsList-from_zip (YieldsList-from_slice xs first) (YieldsList-from_slice ys second)) none

    pub turn-at : (k : ℕ) (a b : Bor ℕ) → r ≡ Some (k, (a, b)) → enumerate_steps (zips fronts fronts) t r u
        → BothAt xs ys (length seen) k a.now b.now
    turn-at k a b is next =
        let (h, e) = YieldsList-turn items seen t y r u (k, (a, b)) is next in
        let inside : length seen < length pairs = omega (arith, length-enumerate_from 0 pairs) in
        let left : length seen < length xs = omega (arith, length-zip xs ys) in
        let right : length seen < length ys = omega (arith, length-zip xs ys) in
        let at = rw (
          get_or-enumerate_from 0 pairs (length seen) (k, (a.now, b.now)) inside,
          get_or-zip xs ys (length seen) (a.now, b.now) left right,
        ) at e in (
          left,
          omega (arith, ap (λ (q : ℕ × (ℕ × ℕ)). q.0) at),
          ap (λ (q : ℕ × (ℕ × ℕ)). q.1.0) at ∙ get_or_default xs (length seen) a.now 0 left,
          ap (λ (q : ℕ × (ℕ × ℕ)). q.1.1) at ∙ get_or_default ys (length seen) b.now 0 right,
        )

    pub turn-end : length ys ≡ length xs → r ≡ None → enumerate_steps (zips fronts fronts) t r u → length seen ≡ length xs
    turn-end l is next =
        let e = YieldsList-end items seen t y r u is next in
        omega (arith, e.1, length-enumerate_from 0 pairs, length-zip xs ys)
