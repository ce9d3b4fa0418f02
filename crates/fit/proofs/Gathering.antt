-- The first m points sent, gathered in two lists.
--   Gathering p m xs ys px py d i   the loop of `first_sent`: the first d places hold the points sent before place i
use mathlib.Core.Path.{◌≡◌, refl, sym, ap, ap₂, ◌∙◌}
use mathlib.Core.List.{List, [], ◌∷◌, ◌++◌, append_assoc}
use Prim.Native.Nat.{ℕ, ◌+◌, ◌≤◌, ◌<◌}
use native.Mathlib.Numerals.{add-one}
use native.Mathlib.Omega.{arith}
use lib.ListN.{length, take, drop, get_or, set, length-set, length-append}
use lib.Seq.{length-take-le, take_all, take_at, take-suc-set}
use Rattle.std.proofs.lemmas.List.{drop_all}
use Rattle.trial.specs.Trial.{points_of, points_sent}
use Rattle.trial.proofs.Steps.{points-sent-next, points-sent-over}
use Rattle.trial.proofs.Turns.{Point}
use Rattle.fit.proofs.Rule.{length-points}

-- ---- points from their coordinates
points-next : (xs ys : List ℕ) (x y : ℕ) → length xs ≡ length ys → points_of (xs ++ x ∷ []) (ys ++ y ∷ []) ≡ points_of xs ys ++ (x, y) ∷ []
points-next [] [] x y l = refl
points-next [] (v ∷ ys) x y l = absurd (omega arith)
points-next (u ∷ xs) [] x y l = absurd (omega arith)
points-next (u ∷ xs) (v ∷ ys) x y l = ap (λ qs. (u, v) ∷ qs) (points-next xs ys x y (omega arith))

-- ---- the first m points sent
pub record Gathering (p m : ℕ) (xs ys px py : List ℕ) (d i : ℕ) : Type 0 where
  pub few : d ≤ m
  pub inside : i ≤ length xs
  pub width_x : length px ≡ m
  pub width_y : length py ≡ m
  pub split : points_of (take d px) (take d py) ++ points_sent p (drop i xs) (drop i ys) ≡ points_sent p xs ys

module _ (p m : ℕ) (xs ys px py : List ℕ) where
  module _ (d i : ℕ) (g : Gathering p m xs ys px py d i) where
    abbrev gathered : List (ℕ × ℕ)
    gathered = points_of (take d px) (take d py)

    same_size : length (take d px) ≡ length (take d py)
    same_size = length-take-le d px (omega (arith, g.few, g.width_x)) ∙ sym (length-take-le d py (omega (arith, g.few, g.width_y)))

    gathered-size : length gathered ≡ d
    gathered-size = length-points (take d px) (take d py) same_size ∙ length-take-le d px (omega (arith, g.few, g.width_x))

    -- With so many points among them they are gathered when the lists end.
    pub gathering-end : m ≤ length (points_sent p xs ys) → length xs ≤ i → m ≤ d
    unfolding points_sent
    gathering-end many e =
        let last : points_sent p (drop i xs) (drop i ys) ≡ [] = rw (drop_all i xs e) refl in
        omega (arith, ap length g.split, length-append gathered (points_sent p (drop i xs) (drop i ys)), ap length last, gathered-size)

    pub gathering-done : m ≤ d → points_of px py ≡ take m (points_sent p xs ys)
    gathering-done h =
        let full : d ≡ m = omega (arith, g.few) in
        sym (ap₂ points_of (take_all d px (omega (arith, g.width_x))) (take_all d py (omega (arith, g.width_y))))
        ∙ sym (take_at gathered (points_sent p (drop i xs) (drop i ys)) m (gathered-size ∙ full))
        ∙ ap (take m) g.split

    module _ (lengths : length xs ≡ length ys) (x y : ℕ) (point : Point xs ys i x y) (i' : ℕ) (next : i' ≡ i + 1) where
      pub gathering-unsent : p ≤ y → Gathering p m xs ys px py d i'
      gathering-unsent q = rw next record {
        few = g.few;
        inside = omega arith;
        width_x = g.width_x;
        width_y = g.width_y;
        split = ap (λ qs. gathered ++ qs) (sym (points-sent-over p xs ys lengths i point.inside (omega (arith, point.y_is)))) ∙ g.split;
      }

      pub gathering-sent : d < m → y < p → Gathering p m xs ys (set px d x) (set py d y) (d + 1) i'
      gathering-sent room q =
          let rest : List (ℕ × ℕ) = points_sent p (drop (i + 1) xs) (drop (i + 1) ys) in
          let one_more : (v : ℕ) (l : List ℕ) → length l ≡ m → take (d + 1) (set l d v) ≡ take d l ++ v ∷ [] =
          λ v l w. rw (add-one d) (take-suc-set l d v (omega arith)) in
          let at : (get_or xs i 0, get_or ys i 0) ∷ rest ≡ (x, y) ∷ rest = ap₂ (λ u v. (u, v) ∷ rest) (sym point.x_is) (sym point.y_is) in
          rw next record {
            few = omega arith;
            inside = omega arith;
            width_x = length-set px d x ∙ g.width_x;
            width_y = length-set py d y ∙ g.width_y;
            split =
                ap₂ (λ u v. points_of u v ++ rest) (one_more x px g.width_x) (one_more y py g.width_y)
                ∙ ap (λ qs. qs ++ rest) (points-next (take d px) (take d py) x y same_size)
                ∙ append_assoc gathered ((x, y) ∷ []) rest
                ∙ ap (λ qs. gathered ++ qs) (sym (points-sent-next p xs ys lengths i point.inside (omega (arith, point.y_is)) ∙ at))
                ∙ g.split;
          }
