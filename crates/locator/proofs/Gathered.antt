-- The first m points sent, in front of two arrays of ten.
--   gathered-points, gathered-values   they are distinct residues, and so are their values residues
--   front-some, front-all              what is lent of the arrays, to interpolation and to solving
--   tried-through                      interpolation, by a trial that nothing need pass
--   all-.., first-.., tried-first      of what `by_locator` gathers: all, the first k, and what goes through these
use mathlib.Core.Path.{◌≡◌, refl, sym, ap, ap₂, subst, ◌∙◌}
use mathlib.Core.Option.{some}
use mathlib.Core.List.{List, [], ◌∷◌, ◌++◌, map}
use Prim.Native.Nat.{ℕ, suc, ◌+◌, ◌≤◌, ◌<◌}
use native.Mathlib.Omega.{arith}
use lib.ListN.{length, take, drop, replicate, length-append, length-drop}
use borrow.Author.Tests.{lt-ltb, le-leb}
use lib.Seq.{take_at, take_all, take-append-le, length-take-le}
use Rattle.std.specs.Prelude.{Some}
use Rattle.lists.specs.Tabulate.{pad}
use Rattle.lists.proofs.All.{all_take}
use Rattle.trial.specs.Results.{result_of}
use Rattle.lists.specs.Choices.{choices}
use Rattle.lists.proofs.Choices.{choices-few}
use Rattle.lists.proofs.Sublists.{take-sublist}
use Rattle.polynomial.specs.Polynomial.{Points, Residues}
use Rattle.interpolation.specs.Interpolation.{interpolate}
use Rattle.trial.specs.Trial.{points_of, xs_of, ys_of, hits, points_sent, through, first_fitting, tried}
use Rattle.fit.proofs.Decoding.{residues, points-sent-fine}
use Rattle.fit.proofs.Rule.{length-points}
use Rattle.locator.proofs.Locating.{xs-of-points, ys-of-points}

module _ (p : ℕ) (xs ys : List ℕ) (points : Points p xs) (m : ℕ) (px py : List ℕ) (size-x : length px ≡ m) (size-y : length py ≡ m)
    (gathered : points_of px py ≡ take m (points_sent p xs ys)) where
  even : length px ≡ length py
  even = size-x ∙ sym size-y

  pub gathered-points : Points p px
  gathered-points =
      subst (Points p) (ap xs_of (sym gathered) ∙ xs-of-points px py even)
      (points-sent-fine p xs ys (take m (points_sent p xs ys)) points (take-sublist m (points_sent p xs ys)))

  pub gathered-values : Residues p py
  gathered-values =
      subst (Residues p) (ap ys_of (sym gathered) ∙ ys-of-points px py even)
      (residues p xs ys (take m (points_sent p xs ys)) (take-sublist m (points_sent p xs ys)))

-- ---- one of the arrays
module _ (m : ℕ) (l : List ℕ) (size : length l ≡ m) (few : m ≤ 10) where
  abbrev array : List ℕ
  array = l ++ drop m (replicate 10 0)

  pub array_size : length array ≡ 10
  array_size = length-append l (drop m (replicate 10 0)) ∙ omega (arith, length-drop m (replicate {A = ℕ} 10 0))

  pub front-all : take m array ≡ l
  front-all = take_at l (drop m (replicate 10 0)) m size

  pub front-some : (k : ℕ) → k ≤ m → take k array ≡ take k l
  front-some k low = take-append-le k l (drop m (replicate 10 0)) (omega arith)

-- ---- interpolation
choices-whole : {A : Type 0} (xs : List A) → choices (length xs) xs ≡ xs ∷ []
choices-whole [] = refl
choices-whole (x ∷ xs) =
    ap₂ (λ a b. map (λ c. x ∷ c) a ++ b) (choices-whole xs) (choices-few (suc (length xs)) xs (omega arith))

all-sent : (p : ℕ) (xs ys : List ℕ) → Residues p ys → points_sent p xs ys ≡ points_of xs ys
unfolding points_sent
all-sent p [] ys r = refl
all-sent p (x ∷ xs) [] r = refl
all-sent p (x ∷ xs) (y ∷ ys) r = rw (lt-ltb y p r.0) (ap (λ qs. (x, y) ∷ qs) (all-sent p xs ys r.1))

-- Where no point need agree, what goes through all of them is found.
pub tried-through : (p k : ℕ) (xs ys : List ℕ) → Residues p ys → length xs ≡ k → length ys ≡ k
    → tried p 0 xs ys 0 k 0 ≡ some (interpolate p xs ys)
unfolding tried through
tried-through p k xs ys r l m =
    let qs : List (ℕ × ℕ) = points_of xs ys in
    let size : length qs ≡ k = length-points xs ys (l ∙ sym m) ∙ l in
    let none : k + 0 ≡ length qs = omega arith in
    let whole : choices k (take (k + 0) (points_sent p xs ys)) ≡ qs ∷ [] =
    ap₂ (λ n z. choices k (take n z)) none (all-sent p xs ys r)
    ∙ ap₂ choices (sym size) (take_all (length qs) qs (omega arith))
    ∙ choices-whole qs in
    ap (λ cs. first_fitting p 0 xs ys (map (λ c. interpolate p (xs_of c) (ys_of c)) cs)) whole
    ∙ ap₂ (λ u v. first_fitting p 0 xs ys (interpolate p u v ∷ [])) (xs-of-points xs ys (l ∙ sym m)) (ys-of-points xs ys (l ∙ sym m))
    ∙ rw (le-leb 0 (hits p (interpolate p xs ys) xs ys) (omega arith)) refl

-- ---- what `by_locator` gathers: the first m of the points sent, in front of two arrays of ten, and of these the first k
pub record Gathers (p : ℕ) (xs ys : List ℕ) (m : ℕ) (px py : List ℕ) : Type 0 where
  pub size_x : length px ≡ m
  pub size_y : length py ≡ m
  pub gathered : points_of px py ≡ take m (points_sent p xs ys)

pub gathers-from : (q p : ℕ) → q ≡ p → (xs ys px py : List ℕ) (m : ℕ) → m ≤ 10
    → (points_of px py ≡ take (length (take m (replicate {A = ℕ} 10 0))) (points_sent q xs ys))
    × (length px ≡ length (take m (replicate {A = ℕ} 10 0))) × (length py ≡ length (take m (replicate {A = ℕ} 10 0)))
    → Gathers p xs ys m px py
gathers-from q p same xs ys px py m few e =
    let lent : length (take m (replicate {A = ℕ} 10 0)) ≡ m = length-take-le m (replicate 10 0) few in
    record {
      size_x = e.1 ∙ lent;
      size_y = e.2 ∙ lent;
      gathered = e.0 ∙ ap₂ (λ n r. take n (points_sent r xs ys)) lent same;
    }

module _ (p : ℕ) (xs ys : List ℕ) (points : Points p xs) (m k : ℕ) (few : m ≤ 10) (front : k ≤ m) (small : k ≤ 4) (px py : List ℕ)
    (g : Gathers p xs ys m px py) where
  abbrev ax : List ℕ
  ax = px ++ drop m (replicate 10 0)

  abbrev ay : List ℕ
  ay = py ++ drop m (replicate 10 0)

  pub all-points : Points p (take m ax)
  all-points = subst (Points p) (sym (front-all m px g.size_x few)) (gathered-points p xs ys points m px py g.size_x g.size_y g.gathered)

  pub all-values : Residues p (take m ay)
  all-values = subst (Residues p) (sym (front-all m py g.size_y few)) (gathered-values p xs ys points m px py g.size_x g.size_y g.gathered)

  pub all-sizes : (length (take m ax) ≡ m) × (length (take m ay) ≡ m)
  all-sizes = (ap length (front-all m px g.size_x few) ∙ g.size_x, ap length (front-all m py g.size_y few) ∙ g.size_y)

  pub first-sizes : (length (take k ax) ≡ k) × (length (take k ay) ≡ k)
  first-sizes = (
    length-take-le k ax (omega (arith, array_size m px g.size_x few)),
    length-take-le k ay (omega (arith, array_size m py g.size_y few)),
  )

  pub first-points : Residues p (take k ax)
  first-points =
      subst (Residues p) (sym (front-some m px g.size_x few k front))
      (all_take (λ c. c < p) k px (gathered-points p xs ys points m px py g.size_x g.size_y g.gathered).0)

  first-values : Residues p (take k ay)
  first-values =
      subst (Residues p) (sym (front-some m py g.size_y few k front))
      (all_take (λ c. c < p) k py (gathered-values p xs ys points m px py g.size_x g.size_y g.gathered))

  -- What the trial finds is the polynomial through the first k of those gathered.
  pub tried-first : result_of (tried p 0 (take k ax) (take k ay) 0 k 0)
      ≡ Some (pad 4 (interpolate p (take k (take m ax)) (take k (take m ay))))
  tried-first =
      ap result_of (tried-through p k (take k ax) (take k ay) first-values first-sizes.0 first-sizes.1)
      ∙ ap₂ (λ u v. Some (pad 4 (interpolate p u v)))
      (front-some m px g.size_x few k front ∙ ap (take k) (sym (front-all m px g.size_x few)))
      (front-some m py g.size_y few k front ∙ ap (take k) (sym (front-all m py g.size_y few)))
