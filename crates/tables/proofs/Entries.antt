-- The entries of a table, looked at from the end: those from i on are distinct residues, and `low` is the lowest of them, or p where there
-- are none.
--   fine p a rest       what is asked of one number, before the rest
--   Above low xs        every number is at least low
--   Rising p xs low i   what is known from place i on
use native.Mathlib.Omega.{arith}
use mathlib.Core.Path.{◌≡◌, refl, sym, ap, ap₂, subst, ◌∙◌}
use mathlib.Core.Bool.{Bool, true, false, not, ◌&&◌, and-false}
use mathlib.Core.List.{List, [], ◌∷◌}
use Prim.Native.Nat.{ℕ, zero, suc, ◌-◌, ◌≤◌, ◌<◌}
use lib.Dec.{ltb, eqb}
use lib.ListN.{length, get_or, drop}
use lib.Seq.{drop-length}
use borrow.Author.Tests.{lt-ltb, le-ltb, eq-eqb, ne_eqb}
use Rattle.std.proofs.lemmas.List.{take_rest}
use Rattle.lists.specs.All.{All}
use Rattle.lists.proofs.InPlace.{drop-back}
use Rattle.lists.proofs.FromEnd.{Passed, passed_start, passed-next, passed-not, passed-end}
use Rattle.tables.specs.Tables.{absent, distinct_residues, is_table}

-- What is asked of one number, before the rest.
abbrev fine : ℕ → ℕ → List ℕ → Bool
fine p a rest = ltb a p && absent a rest

module _ (p a : ℕ) (rest : List ℕ) where
  large : p ≤ a → fine p a rest ≡ false
  large h = ap (λ b. b && absent a rest) (le-ltb a p h)

  twice : absent a rest ≡ false → fine p a rest ≡ false
  twice e = ap (λ b. ltb a p && b) e ∙ and-false (ltb a p)

  fresh : a < p → absent a rest ≡ true → fine p a rest ≡ true
  fresh h e = ap₂ ◌&&◌ (lt-ltb a p h) e

-- Every number is at least low.
abbrev Above : ℕ → List ℕ → Type 0
Above low = All (λ a. low ≤ a)

below-absent : (x low : ℕ) (xs : List ℕ) → x < low → Above low xs → absent x xs ≡ true
below-absent x low [] h k = refl
below-absent x low (a ∷ xs) h (l, k) = ap₂ (λ u v. not u && v) (ne_eqb a x (λ e. omega arith)) (below-absent x low xs h k)

lowered : (x low : ℕ) (xs : List ℕ) → x ≤ low → Above low xs → Above x xs
lowered x low [] h k = k
lowered x low (a ∷ xs) h (l, k) = (omega arith, lowered x low xs h k)

not-absent : (x : ℕ) (xs : List ℕ) → absent x (x ∷ xs) ≡ false
not-absent x xs = ap (λ b. not b && absent x xs) (eq-eqb x x refl)

later-absent : (x a : ℕ) (xs : List ℕ) → absent x xs ≡ false → absent x (a ∷ xs) ≡ false
later-absent x a xs e = ap (λ b. not (eqb a x) && b) e ∙ and-false (not (eqb a x))

-- What is left to be said of a list: no number stands twice, or is no residue, and the lowest is not 0.
module _ (p : ℕ) (xs : List ℕ) where
  no_table : false ≡ distinct_residues p xs → false ≡ is_table p (length xs) xs
  unfolding is_table
  no_table e = rw (eq-eqb (length xs) (length xs) refl, sym e)

  a-table : (low : ℕ) → 0 < p → true ≡ distinct_residues p xs → Above low xs → (low < p → absent low xs ≡ false)
      → ltb 0 low ≡ is_table p (length xs) xs
  unfolding is_table
  a-table zero q e above there = rw (eq-eqb (length xs) (length xs) refl, sym e, there (omega arith))
  a-table (suc low) q e above there =
      rw (lt-ltb 0 (suc low) (omega arith), eq-eqb (length xs) (length xs) refl, sym e, below-absent 0 (suc low) xs (omega arith) above)

-- With the number before place i.
above-back : (low i : ℕ) (xs : List ℕ) → 0 < i → i ≤ length xs → low ≤ get_or xs (i - 1) 0 → Above low (drop i xs)
    → Above low (drop (i - 1) xs)
above-back low i xs h l e k = subst (Above low) (sym (drop-back xs i 0 h l)) (e, k)

pub record Rising (p : ℕ) (xs : List ℕ) (low i : ℕ) : Type 0 where
  pub passed : Passed (distinct_residues p) xs i
  pub residue : low ≤ p
  pub above : Above low (drop i xs)
  pub there : low < p → absent low (drop i xs) ≡ false

-- ---- one number more, at place i - 1
module _ (p : ℕ) (xs : List ℕ) (low i : ℕ) (r : Rising p xs low i) where
  module _ (h : 0 < i) where
    pub large-entry : p ≤ get_or xs (i - 1) 0 → false ≡ is_table p (length xs) xs
    large-entry l =
        no_table p xs (passed-not (fine p) (distinct_residues p) refl (λ a xs. refl) xs i h r.passed.within (large p _ (drop i xs) l))

    pub twice-there : absent (get_or xs (i - 1) 0) (drop i xs) ≡ false → false ≡ is_table p (length xs) xs
    twice-there e =
        no_table p xs (passed-not (fine p) (distinct_residues p) refl (λ a xs. refl) xs i h r.passed.within (twice p _ (drop i xs) e))

    pub lower : get_or xs (i - 1) 0 < low → Rising p xs (get_or xs (i - 1) 0) (i - 1)
    lower l =
        let x : ℕ = get_or xs (i - 1) 0 in
        let passed = r.passed in
        record {
          passed =
              passed-next (fine p) (distinct_residues p) refl (λ a xs. refl) xs i h passed.within passed.rest
              (fresh p x (drop i xs) (omega (arith, r.residue)) (below-absent x low (drop i xs) l r.above));
          residue = omega (arith, r.residue);
          above = above-back x i xs h passed.within (omega arith) (lowered x low (drop i xs) (omega arith) r.above);
          there = λ b. ap (absent x) (drop-back xs i 0 h passed.within) ∙ not-absent x (drop i xs);
        }

    pub higher : low ≤ get_or xs (i - 1) 0 → get_or xs (i - 1) 0 < p → absent (get_or xs (i - 1) 0) (drop i xs) ≡ true
        → Rising p xs low (i - 1)
    higher l b e =
        let passed = r.passed in
        record {
          passed =
              passed-next (fine p) (distinct_residues p) refl (λ a xs. refl) xs i h passed.within passed.rest
              (fresh p _ (drop i xs) b e);
          residue = r.residue;
          above = above-back low i xs h passed.within l r.above;
          there = λ b.
              ap (absent low) (drop-back xs i 0 h passed.within)
              ∙ later-absent low (get_or xs (i - 1) 0) (drop i xs) (r.there b);
        }

  pub all-looked-at : 0 < p → i ≡ 0 → ltb 0 low ≡ is_table p (length xs) xs
  all-looked-at q all =
      a-table p xs low q
      (passed-end (fine p) (distinct_residues p) refl (λ a xs. refl) xs i all r.passed)
      (subst (λ z. Above low (drop z xs)) all r.above)
      (λ h. ap (λ z. absent low (drop z xs)) (sym all) ∙ r.there h)

pub rising-start : (p : ℕ) (xs : List ℕ) → Rising p xs p (length xs)
rising-start p xs = record {
  passed = passed_start (fine p) (distinct_residues p) refl (λ a xs. refl) xs;
  residue = omega arith;
  above = subst (Above p) (sym (drop-length xs)) tt;
  there = λ h. absurd (omega arith);
}

-- What the loop needs at each turn and at its end.
pub ruleset entries = (take_rest, lower, higher, large-entry, twice-there, all-looked-at, rising-start)
