-- The bivariate law: rows and columns that cross everywhere lie on exactly one F(X, Y).
--   join   the F whose rows at given points are given
use mathlib.Core.Path.{◌≡◌, refl, sym, ap, ap₂, subst, ◌∙◌}
use mathlib.Core.List.{List, [], ◌∷◌, ◌++◌, map, tail, Memᴰ, head-eq_of_cons-eq, tail-eq_of_cons-eq}
use Prim.Native.Nat.{ℕ, zero, suc, ◌*◌, ◌<◌, ◌≤◌}
use native.Mathlib.Omega.{arith}
use lib.ListN.{length, take, drop, get_or, length-take, length-append, length-map, take-append-drop}
use lib.Seq.{take_at, drop_at}
use Rattle.lists.proofs.All.{all_take, all_drop, all_append, all_map, map_same, map_at, mem-take, distinct-take}
use Rattle.std.proofs.lemmas.Simd.{map-map}
use Rattle.std.proofs.lemmas.List.{take-map}
use Rattle.field.specs.Arithmetic.{Prime}
use Rattle.polynomial.specs.Polynomial.{Poly, Points, Residues, value}
use Rattle.interpolation.specs.Interpolation.{interpolate}
use Rattle.bivariate.specs.Bivariate.{row, column, LieOn}
use Rattle.polynomial.proofs.Uniqueness.{length-nil, unique}
use Rattle.interpolation.proofs.Interpolation.{interpolate-poly, interpolate-values}
use Rattle.bivariate.proofs.Crossing.{front, back, row-poly, column-poly, crossing}

-- ---- lists that are not empty
constant : List ℕ → ℕ
constant f = get_or f 0 0

constant-tail : (k : ℕ) (f : List ℕ) → length f ≡ suc k → constant f ∷ tail f ≡ f
unfolding constant
constant-tail k [] e = absurd (omega arith)
constant-tail k (c ∷ f) e = refl

constant-lt : (p k : ℕ) (f : List ℕ) → Poly p (suc k) f → constant f < p
unfolding constant
constant-lt p k [] h = absurd (omega (arith, h.size))
constant-lt p k (c ∷ f) h = h.residues.0

tail-poly : (p k : ℕ) (f : List ℕ) → Poly p (suc k) f → Poly p k (tail f)
tail-poly p k [] h = absurd (omega (arith, h.size))
tail-poly p k (c ∷ f) h = record { residues = h.residues.1; size = omega (arith, h.size) }

-- The F with k powers of X whose row at the point of each party of T is f of it: interpolation in Y, power by power.
join : ℕ → (ℕ → ℕ) → List ℕ → ℕ → (ℕ → List ℕ) → List ℕ
join p pt T zero f = []
join p pt T (suc k) f = interpolate p (map pt T) (map (λ i. constant (f i)) T) ++ join p pt T k (λ i. tail (f i))

module _ (p : ℕ) (P : Prime p) (pt : ℕ → ℕ) where
  -- ---- what `join` gives
  module _ (T : List ℕ) (ps : Points p (map pt T)) where
    level : (f : ℕ → List ℕ) → List ℕ
    level f = interpolate p (map pt T) (map (λ i. constant (f i)) T)

    module _ (k : ℕ) (f : ℕ → List ℕ) (hf : (i : ℕ) → Memᴰ i T → Poly p (suc k) (f i)) where
      constants : Residues p (map (λ i. constant (f i)) T)
      constants = all_map (λ c. c < p) (λ i. constant (f i)) T (λ i m. constant-lt p k (f i) (hf i m))

      sizes : length (map pt T) ≡ length (map (λ i. constant (f i)) T)
      sizes = length-map T pt ∙ sym (length-map T (λ i. constant (f i)))

      level-poly : Poly p (length (map pt T)) (level f)
      unfolding level
      level-poly = interpolate-poly p P (map pt T) (map (λ i. constant (f i)) T) constants sizes

      level-size : length (level f) ≡ length T
      level-size = level-poly.size ∙ length-map T pt

      level-value : (i : ℕ) → Memᴰ i T → value p (level f) (pt i) ≡ constant (f i)
      unfolding level
      level-value i m =
          map_at (λ i. value p (level f) (pt i)) (λ i. constant (f i)) T
          (sym (map-map (value p (level f)) pt T) ∙ interpolate-values p P (map pt T) (map (λ i. constant (f i)) T) ps constants sizes) i m

    tails : (k : ℕ) (f : ℕ → List ℕ) → ((i : ℕ) → Memᴰ i T → Poly p (suc k) (f i))
        → (i : ℕ) → Memᴰ i T → Poly p k (tail (f i))
    tails k f hf i m = tail-poly p k (f i) (hf i m)

    join-poly : (k : ℕ) (f : ℕ → List ℕ) → ((i : ℕ) → Memᴰ i T → Poly p k (f i)) → Poly p (k * length T) (join p pt T k f)
    unfolding join level
    join-poly zero f hf = record { residues = tt; size = omega arith }
    join-poly (suc k) f hf =
        let rest : Poly p (k * length T) (join p pt T k (λ i. tail (f i))) = join-poly k (λ i. tail (f i)) (tails k f hf) in
        record {
          residues = all_append (λ c. c < p) (level f) (join p pt T k (λ i. tail (f i))) (level-poly k f hf).residues rest.residues;
          size = length-append (level f) (join p pt T k (λ i. tail (f i))) ∙ omega (arith, level-size k f hf, rest.size);
        }

    join-rows : (k : ℕ) (f : ℕ → List ℕ) → ((i : ℕ) → Memᴰ i T → Poly p k (f i))
        → (i : ℕ) → Memᴰ i T → row p k (length T) (join p pt T k f) (pt i) ≡ f i
    unfolding join level
    join-rows zero f hf i m = sym (length-nil (f i) (hf i m).size)
    join-rows (suc k) f hf i m =
        let rest : List ℕ = join p pt T k (λ i. tail (f i)) in
        let s : length (level f) ≡ length T = level-size k f hf in
        ap₂ (λ a b. value p a (pt i) ∷ row p k (length T) b (pt i)) (take_at (level f) rest (length T) s)
        (drop_at (level f) rest (length T) s)
        ∙ ap₂ ◌∷◌ (level-value k f hf i m) (join-rows k (λ i. tail (f i)) (tails k f hf) i m)
        ∙ constant-tail k (f i) (hf i m).size

  -- Agreement at the points of some parties, said of each.
  at-points : (n : ℕ) (S : List ℕ) → Points p (map pt S) → n ≤ length S → (f g : List ℕ) → Poly p n f → Poly p n g
      → ((i : ℕ) → Memᴰ i S → value p f (pt i) ≡ value p g (pt i)) → f ≡ g
  at-points n S ps enough f g hf hg e =
      unique p P n (map pt S) f g ps (omega (arith, length-map S pt)) hf hg
      (map-map (value p f) pt S ∙ map_same (λ i. value p f (pt i)) (λ i. value p g (pt i)) S e ∙ sym (map-map (value p g) pt S))

  module _ (S : List ℕ) (ps : Points p (map pt S)) (n : ℕ) (enough : n ≤ length S) where
    -- ---- F is known from its rows
    pub rows-only : (k : ℕ) (F G : List ℕ) → Poly p (k * n) F → Poly p (k * n) G
        → ((i : ℕ) → Memᴰ i S → row p k n F (pt i) ≡ row p k n G (pt i)) → F ≡ G
    rows-only zero F G h_f h_g e = length-nil F (omega (arith, h_f.size)) ∙ sym (length-nil G (omega (arith, h_g.size)))
    rows-only (suc k) F G h_f h_g e =
        let first : take n F ≡ take n G =
        at-points n S ps enough (take n F) (take n G) (taken F h_f) (taken G h_g) (λ i m. head-eq_of_cons-eq (e i m)) in
        let rest : drop n F ≡ drop n G =
        rows-only k (drop n F) (drop n G) (dropped F h_f) (dropped G h_g) (λ i m. tail-eq_of_cons-eq (e i m)) in
        sym (take-append-drop n F) ∙ ap₂ ◌++◌ first rest ∙ take-append-drop n G
      where
        taken : (F : List ℕ) → Poly p (suc k * n) F → Poly p n (take n F)
        taken F h = record { residues = all_take (λ c. c < p) n F h.residues; size = front p k n F h.size }

        dropped : (F : List ℕ) → Poly p (suc k * n) F → Poly p (k * n) (drop n F)
        dropped F h = record { residues = all_drop (λ c. c < p) n F h.residues; size = back p k n F h.size }

    module _ (k : ℕ) (f g : ℕ → List ℕ) where
      -- At most one F.
      pub lie-once : (F G : List ℕ) → LieOn p k n pt S f g F → LieOn p k n pt S f g G → F ≡ G
      lie-once F G h_f h_g =
          rows-only k F G (record { residues = h_f.residues; size = h_f.size }) (record { residues = h_g.residues; size = h_g.size })
          (λ i m. h_f.rows i m ∙ sym (h_g.rows i m))

      -- And one F.
      pub lie-on : k ≤ length S → ((i : ℕ) → Memᴰ i S → Poly p k (f i)) → ((i : ℕ) → Memᴰ i S → Poly p n (g i))
          → ((i j : ℕ) → Memᴰ i S → Memᴰ j S → value p (f i) (pt j) ≡ value p (g j) (pt i))
          → (F : List ℕ) × LieOn p k n pt S f g F
      lie-on many hf hg cross = (F, record { residues = h_f.residues; size = h_f.size; rows = rows; columns = columns })
        where
          T : List ℕ
          T = take n S

          size-T : length T ≡ n
          size-T = length-take n S ∙ omega arith

          within : (i : ℕ) → Memᴰ i T → Memᴰ i S
          within i = mem-take n S i

          points-T : Points p (map pt T)
          points-T =
              subst (Points p) (take-map pt n S) (all_take (λ x. x < p) n (map pt S) ps.0, distinct-take n (map pt S) ps.1)

          F : List ℕ
          F = join p pt T k f

          h_f : Poly p (k * n) F
          h_f = subst (λ z. Poly p (k * z) F) size-T (join-poly T points-T k f (λ i m. hf i (within i m)))

          rows-T : (i : ℕ) → Memᴰ i T → row p k n F (pt i) ≡ f i
          rows-T i m = subst (λ z. row p k z F (pt i) ≡ f i) size-T (join-rows T points-T k f (λ i m. hf i (within i m)) i m)

          columns : (j : ℕ) → Memᴰ j S → column p k n F (pt j) ≡ g j
          columns j m =
              at-points n T points-T (omega (arith, size-T)) (column p k n F (pt j)) (g j)
              (column-poly p k n F (pt j) (omega arith) h_f.size) (hg j m)
              (λ i mi. sym (crossing p k n F (pt j) (pt i) h_f.size) ∙ ap (λ z. value p z (pt j)) (rows-T i mi)
              ∙ cross i j (within i mi) m)

          rows : (i : ℕ) → Memᴰ i S → row p k n F (pt i) ≡ f i
          rows i m =
              at-points k S ps many (row p k n F (pt i)) (f i) (row-poly p k n F (pt i) (omega arith)) (hf i m)
              (λ j mj. crossing p k n F (pt j) (pt i) h_f.size ∙ ap (λ z. value p z (pt i)) (columns j mj) ∙ sym (cross i j m mj))
