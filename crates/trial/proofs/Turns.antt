-- What a turn of a loop sees that goes through points, whose coordinates stand in two lists of one length.
--   Point xs ys j x y      the point at place j is (x, y)
--   along-turn, along-end  a turn of a loop over all points, and its end; from-turn, from-end: of one from place i on
--   back-turn              a turn of a loop from the end
use Rattle.std.proofs.Common.{◌≡◌, ℕ, ◌+◌, ◌-◌, ◌<◌, List, length, get_or, drop}
use Rattle.std.proofs.Common.{reverse, Option, Some, None, ◌≤◌, Bor, Iter, ap, ◌∙◌, arith}
use Rattle.std.specs.List.{zip}
use Rattle.std.specs.Iterator.{Yields}
use Rattle.std.specs.Iterator.Adapters.{zip_first, zip_second, rev_source, rev_steps, skip_source, skip_count, skip_steps}
use Rattle.std.specs.Slice.Iter.{iter_rest, iter_steps_back}
use Rattle.std.specs.declared.iter.Zip.{Zip}
use Rattle.std.specs.declared.iter.Rev.{Rev}
use Rattle.std.specs.declared.iter.Skip.{Skip}
use Rattle.std.proofs.iter.Yields.{fronts}
use Rattle.std.proofs.lemmas.Iterator.{YieldsList, YieldsList-from_slice, YieldsList-from_zip, zips}
use Rattle.std.proofs.lemmas.Iterator.Adapters.{YieldsList-from_rev_slice, YieldsList-from_skip}
use Rattle.std.proofs.lemmas.Iterator.Consumers.{YieldsList-turn, YieldsList-end}
use Rattle.std.proofs.Math.ListN.{length-drop}
use Rattle.std.proofs.lemmas.List.{get_or-drop, get_or-reverse, length-reverse}
use Rattle.std.proofs.lemmas.Grind.{get_or_default_zero}
use Rattle.std.proofs.lemmas.Slice.Zip.{length-zip, get_or-zip, zip_turn, zip_end}

-- The point at place j.
pub record Point (xs ys : List ℕ) (j x y : ℕ) : Type 0 where
  pub inside : j < length xs
  pub x_is : x ≡ get_or xs j 0
  pub y_is : y ≡ get_or ys j 0

module _ (xs ys : List ℕ) (lengths : length xs ≡ length ys) where
  point-at : (i n x y : ℕ) → n < length (drop i (zip xs ys)) → (x, y) ≡ get_or (drop i (zip xs ys)) n (x, y) → Point xs ys (i + n) x y
  point-at i n x y h e =
      let inside : i + n < length xs = omega (arith, length-drop i (zip xs ys), length-zip xs ys) in
      let at : (x, y) ≡ (get_or xs (i + n) x, get_or ys (i + n) y) =
      e ∙ get_or-drop i (zip xs ys) n (x, y) ∙ get_or-zip xs ys (i + n) (x, y) inside (omega arith) in
      record {
        inside = inside;
        x_is = ap (λ (q : ℕ × ℕ). q.0) at ∙ get_or_default_zero xs (i + n) x inside;
        y_is = ap (λ (q : ℕ × ℕ). q.1) at ∙ get_or_default_zero ys (i + n) y (omega arith);
      }

  point-back : (j n x y : ℕ) → n < length (zip (reverse xs) (reverse ys)) → (x, y) ≡ get_or (zip (reverse xs) (reverse ys)) n (x, y)
      → j + n + 1 ≡ length xs → Point xs ys j x y
  point-back j n x y h e back =
      let last_x : length xs - 1 - n ≡ j = omega arith in
      let last_y : length ys - 1 - n ≡ j = omega arith in
      let at : (x, y) ≡ (get_or (reverse xs) n x, get_or (reverse ys) n y) =
      e ∙ get_or-zip (reverse xs) (reverse ys) n (x, y) (omega (arith, length-reverse xs)) (omega (arith, length-reverse ys)) in
      record {
        inside = omega arith;
        x_is =
            ap (λ (q : ℕ × ℕ). q.0) at ∙ get_or-reverse xs n x (omega arith) ∙ ap (λ k. get_or xs k x) last_x
            ∙ get_or_default_zero xs j x (omega arith);
        y_is =
            ap (λ (q : ℕ × ℕ). q.1) at ∙ get_or-reverse ys n y (omega arith) ∙ ap (λ k. get_or ys k y) last_y
            ∙ get_or_default_zero ys j y (omega arith);
      }

  -- ---- `for (x, y) in xs.iter().zip(ys)`, which has yielded qs
  module _ (qs : List (Bor ℕ × Bor ℕ)) (s t u : Zip (Iter ℕ) (Iter ℕ)) (r : Option (Bor ℕ × Bor ℕ))
      (first : iter_rest (zip_first s) ≡ xs) (second : iter_rest (zip_second s) ≡ ys) (yielded : Yields (zips fronts fronts) s qs t) where
    pub along-turn : (q : Bor ℕ × Bor ℕ) → r ≡ Some q → zips fronts fronts t r u → Point xs ys (length qs) q.0.now q.1.now
    along-turn q e n =
        let h = zip_turn xs ys qs s t u r first second yielded q e n in
        record { inside = h.0; x_is = h.2 0; y_is = h.3 0 }

    pub along-end : r ≡ None → zips fronts fronts t r u → length qs ≡ length xs
    along-end e n = omega (arith, zip_end xs ys qs s t u r first second yielded e n)

  -- ---- `for (x, y) in xs.iter().zip(ys).skip(i)`
  abbrev froms : Skip (Zip (Iter ℕ) (Iter ℕ)) → Option (Bor ℕ × Bor ℕ) → Skip (Zip (Iter ℕ) (Iter ℕ)) → Type 0
  froms = skip_steps (zips fronts fronts)

  module _ (i : ℕ) (qs : List (Bor ℕ × Bor ℕ)) (s t u : Skip (Zip (Iter ℕ) (Iter ℕ))) (r : Option (Bor ℕ × Bor ℕ))
      (first : iter_rest (zip_first (skip_source s)) ≡ xs) (second : iter_rest (zip_second (skip_source s)) ≡ ys) (count : skip_count s ≡ i)
      (yielded : Yields froms s qs t) where
    from-road : YieldsList froms (λ p. (p.0.now, p.1.now)) s (drop i (zip xs ys))
    from-road = YieldsList-from_skip i (YieldsList-from_zip (YieldsList-from_slice xs first) (YieldsList-from_slice ys second)) count

    pub from-turn : (q : Bor ℕ × Bor ℕ) → r ≡ Some q → froms t r u → Point xs ys (i + length qs) q.0.now q.1.now
    from-turn q e n =
        let h = YieldsList-turn from-road qs t yielded r u q e n in
        point-at i (length qs) q.0.now q.1.now h.0 h.1

    pub from-end : r ≡ None → froms t r u → length xs ≤ i + length qs
    from-end e n =
        let h = YieldsList-end from-road qs t yielded r u e n in
        omega (arith, h.1, length-drop i (zip xs ys), length-zip xs ys)

  -- ---- `for (x, y) in xs.iter().rev().zip(ys.iter().rev())`
  abbrev backs : Zip (Rev (Iter ℕ)) (Rev (Iter ℕ)) → Option (Bor ℕ × Bor ℕ) → Zip (Rev (Iter ℕ)) (Rev (Iter ℕ)) → Type 0
  backs = zips (rev_steps iter_steps_back) (rev_steps iter_steps_back)

  module _ (qs : List (Bor ℕ × Bor ℕ)) (s t u : Zip (Rev (Iter ℕ)) (Rev (Iter ℕ))) (r : Option (Bor ℕ × Bor ℕ))
      (first : iter_rest (rev_source (zip_first s)) ≡ xs) (second : iter_rest (rev_source (zip_second s)) ≡ ys)
      (yielded : Yields backs s qs t) where
    back-road : YieldsList backs (λ p. (p.0.now, p.1.now)) s (zip (reverse xs) (reverse ys))
    back-road = YieldsList-from_zip (YieldsList-from_rev_slice xs first) (YieldsList-from_rev_slice ys second)

    pub back-turn : (q : Bor ℕ × Bor ℕ) → r ≡ Some q → backs t r u → (j : ℕ) → j ≡ length xs - (length qs + 1)
        → Point xs ys j q.0.now q.1.now × (length qs < length xs)
    back-turn q e n j at =
        let h = YieldsList-turn back-road qs t yielded r u q e n in
        let inside : length qs < length xs =
        omega (arith, h.0, length-zip (reverse xs) (reverse ys), length-reverse xs, length-reverse ys) in
        (point-back j (length qs) q.0.now q.1.now h.0 h.1 (omega arith), inside)
