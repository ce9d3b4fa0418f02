-- One turn of each loop of the desk's code, as a law over plain lists, and a deal written through its two lent parts.
--   DealsLoop   the deals of the first i parties are written, and the next part begins at start
use mathlib.Core.Path.{◌≡◌, refl, sym, ap, ap₂, ◌∙◌}
use mathlib.Core.List.{List, ◌++◌, append_assoc}
use Prim.Native.Nat.{ℕ, suc, ◌+◌, ◌*◌, ◌-◌, ◌<◌, ◌≤◌}
use native.Mathlib.Nat.{mul-le-mul_right}
use native.Mathlib.Numerals.{add-one}
use native.Mathlib.Omega.{arith}
use lib.ListN.{length, take, drop, length-append, length-drop}
use lib.Seq.{take_at, drop_at, take_all, length-take-le}
use borrow.Rule.Slice.PartMut.{put_mid, same_len_mid, mid_len}
use Rattle.lists.proofs.InPlace.{put_rest}
use Rattle.std.proofs.lemmas.List.{take_rest, take-map, drop-map, map-append, length-map}
use Rattle.bivariate.specs.Bivariate.{row, column, row_in, column_in}
use Rattle.bivariate.proofs.Lent.{row-in, column-in}
use Rattle.bivariate.proofs.Crossing.{length-row}
use Rattle.tables.specs.Tables.{point_at}
use Rattle.std.proofs.Common.{map}
use Rattle.answers.specs.Refusals.{Admission, lowest}
use Rattle.dealer.specs.Desk.{deal, deals, size_tests, length_tests}
use Rattle.dealer.proofs.Desk.{length-deal}

-- The lengths of the lists as numbers are those of the lent ones.
module _ {X : Type 0} (f : X → ℕ) (n t : ℕ) (xs out : List X) {a : Admission} where
  pub lengths : (points : ℕ) → lowest (length_tests n t (length xs) (length out) points) ≡ a
      → lowest (length_tests n t (length (map f xs)) (length (map f out)) points) ≡ a
  lengths points e = rw (length-map xs f, length-map out f) e

  pub lengths-with : (T : List X) → lowest (length_tests n t (length xs) (length out) (length T)) ≡ a
      → lowest (length_tests n t (length (map f xs)) (length (map f out)) (length (map f T))) ≡ a
  lengths-with T e = rw (length-map T f) (lengths (length T) e)

  pub lengths-plain : lowest (size_tests n t (length xs) (length out)) ≡ a
      → lowest (size_tests n t (length (map f xs)) (length (map f out))) ≡ a
  lengths-plain e = rw (length-map xs f, length-map out f) e

module _ (p : ℕ) where
  module _ (w : ℕ) (T F : List ℕ) where
    -- ---- `write_deal`: f into the first w numbers, then g into those behind them
    module _ (x : ℕ) (out f : List ℕ) (square : length F ≡ w * w) (size : length out ≡ 2 * w) (ef : f ≡ row_in p F x (take w out)) where
      row_written : f ≡ row p w w F x
      row_written =
          let front : length (take w out) ≡ w = length-take-le w out (omega arith) in
          ef ∙ row-in p F x (take w out) (square ∙ ap₂ ◌*◌ (sym front) (sym front)) ∙ ap₂ (λ a b. row p a b F x) front front

      row-wide : length f ≡ w
      row-wide = ap length row_written ∙ length-row p w w F x

      -- What is lent for the column: what stood behind the row's part, w numbers.
      behind : take (length (f ++ drop w out) - w) (drop w (f ++ drop w out)) ≡ drop w out
      behind = take_rest (f ++ drop w out) w ∙ drop_at f (drop w out) w row-wide

      behind-wide : length (drop w out) ≡ w
      behind-wide = length-drop w out ∙ omega arith

      pub column-room : length (take (length (f ++ drop w out) - w) (drop w (f ++ drop w out))) ≡ w
      column-room = ap length behind ∙ behind-wide

      pub both-written : (i : ℕ) (g : List ℕ) → x ≡ point_at T i
          → g ≡ column_in p F x (take (length (f ++ drop w out) - w) (drop w (f ++ drop w out)))
          → put_mid w (length (f ++ drop w out) - w) (f ++ drop w out) g ≡ deal p w T F i
      unfolding deal
      both-written i g at eg =
          let second : g ≡ column p w w F x =
          eg ∙ ap (column_in p F x) behind
          ∙ column-in p F x (drop w out) (square ∙ ap₂ ◌*◌ (sym behind-wide) (sym behind-wide))
          ∙ ap₂ (λ a b. column p a b F x) behind-wide behind-wide in
          put_rest w (f ++ drop w out) g
          ∙ ap₂ ◌++◌ (take_at f (drop w out) w row-wide ∙ row_written) second
          ∙ ap (λ z. row p w w F z ++ column p w w F z) at

    -- ---- `write_deals`
    pub record DealsLoop (n : ℕ) (out : List ℕ) (i start : ℕ) : Type 0 where
      pub square : length F ≡ w * w
      pub within : i ≤ n
      pub size : length out ≡ n * (2 * w)
      pub place : start ≡ i * (2 * w)
      pub goal : take start out ≡ deals p w T F i

    module _ (n : ℕ) (out : List ℕ) where
      pub deals-start : length F ≡ w * w → length out ≡ n * (2 * w) → DealsLoop n out 0 0
      unfolding deals
      deals-start q e = record { square = q; within = omega arith; size = e; place = omega arith; goal = refl }

      module _ (i start : ℕ) (k : DealsLoop n out i start) where
        pub deals-room : i < n → start + 2 * w ≤ length out
        deals-room h = omega (arith, k.size, k.place, mul-le-mul_right {m = suc i} {n = n} (2 * w) h)

        -- The part that is lent has the length of a deal.
        pub deals-part : i < n → length (take (start + 2 * w - start) (drop start out)) ≡ 2 * w
        deals-part h = mid_len start (start + 2 * w) out (deals-room h) ∙ omega arith

        pub deals-next : (new : List ℕ) → i < n → new ≡ deal p w T F (i + 1)
            → DealsLoop n (put_mid start (start + 2 * w - start) out new) (i + 1) (start + 2 * w)
        unfolding deals
        deals-next new h e =
            let rest : List ℕ = drop (start + 2 * w - start) (drop start out) in
            let wide : length new ≡ 2 * w = ap length e ∙ length-deal p w T F k.square (i + 1) in
            let front : length (take start out) ≡ start = length-take-le start out (omega (arith, deals-room h)) in
            let both : length (take start out ++ new) ≡ start + 2 * w = length-append (take start out) new ∙ ap₂ ◌+◌ front wide in
            record {
              square = k.square;
              within = omega arith;
              size = same_len_mid start (start + 2 * w - start) out new (wide ∙ sym (deals-part h)) ∙ k.size;
              place = omega (arith, k.place);
              goal =
                  ap (take (start + 2 * w)) (sym (append_assoc (take start out) new rest))
                  ∙ take_at (take start out ++ new) rest (start + 2 * w) both
                  ∙ ap₂ ◌++◌ k.goal (e ∙ ap (deal p w T F) (add-one i))
                  ∙ ap (deals p w T F) (sym (add-one i));
            }

        pub deals-end : n ≤ i → out ≡ deals p w T F n
        deals-end h =
            let all : i ≡ n = omega (arith, k.within) in
            let last : length out ≡ start = k.size ∙ ap (λ z. z * (2 * w)) (sym all) ∙ sym k.place in
            sym (take_all start out (omega arith)) ∙ k.goal ∙ ap (deals p w T F) all

-- ---- A part of a list, as numbers
pub map-put_mid : {X : Type 0} (f : X → ℕ) (a k : ℕ) (xs ys : List X) → map f (put_mid a k xs ys) ≡ put_mid a k (map f xs) (map f ys)
map-put_mid f a k xs ys =
    map-append f (take a xs) (ys ++ drop k (drop a xs))
    ∙ ap₂ ◌++◌ (sym (take-map f a xs)) (map-append f ys (drop k (drop a xs))
    ∙ ap (λ l. map f ys ++ l) (sym (drop-map f k (drop a xs)) ∙ ap (drop k) (sym (drop-map f a xs))))

-- A list of numbers, M, of which all behind place w is lent.
module _ {X : Type 0} (f : X → ℕ) (w : ℕ) (xs : List X) (M : List ℕ) (e : map f xs ≡ M) where
  pub map-behind : map f (take (length xs - w) (drop w xs)) ≡ take (length M - w) (drop w M)
  map-behind =
      sym (take-map f (length xs - w) (drop w xs))
      ∙ ap₂ (λ k l. take (k - w) l) (sym (length-map xs f)) (sym (drop-map f w xs))
      ∙ ap (λ m. take (length m - w) (drop w m)) e

  pub map-back : (ys : List X) → map f (put_mid w (length xs - w) xs ys) ≡ put_mid w (length M - w) M (map f ys)
  map-back ys =
      map-put_mid f w (length xs - w) xs ys
      ∙ ap (λ k. put_mid w (k - w) (map f xs) (map f ys)) (sym (length-map xs f))
      ∙ ap (λ m. put_mid w (length m - w) m (map f ys)) e
