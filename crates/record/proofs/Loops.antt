-- One turn of each loop of the code, as a law over plain lists.
--   stand-next, stand-no, stand-end   the number at place i of a list is found, or not; the list ends
--   written-next, over-written        one more number of xs is written; all are that both lists reach, over the front of the old ones
use mathlib.Core.Path.{◌≡◌, sym, ap, ap₂, ◌∙◌}
use mathlib.Core.Logic.{⊎_elim}
use mathlib.Core.Bool.{true, false}
use mathlib.Core.List.{List, [], ◌∷◌, ◌++◌, map, append-nil}
use Prim.Native.Nat.{ℕ, ◌+◌, ◌*◌, ◌≤◌, ◌<◌, min}
use native.Mathlib.Numerals.{add-one}
use native.Mathlib.Omega.{arith}
use lib.ListN.{length, get_or, take, drop, set}
use lib.Seq.{take_all, take-suc, take-suc-set}
use borrow.Author.Tests.{ne_eqb}
use Rattle.std.proofs.lemmas.List.{map-append, drop-map, length-map, drop_more, drop_all}
use Rattle.lists.proofs.Cases.{le-or-lt}
use Rattle.record.specs.Bytes.{number_at, stand_at, over}
use Rattle.record.proofs.Bytes.{stand-first, over-room, over-full}

-- ---- `stand_at`
module _ (bytes : List ℕ) (at : ℕ) (list : List ℕ) (i : ℕ) where
  module _ (h : i < length list) where
    pub stand-next : number_at bytes (at + 2 * i) ≡ get_or list i 0
        → stand_at bytes (at + 2 * (i + 1)) (drop (i + 1) list) ≡ stand_at bytes (at + 2 * i) (drop i list)
    stand-next e =
        let there : at + 2 * (i + 1) ≡ at + 2 * i + 2 = omega arith in
        ap (λ p. stand_at bytes p (drop (i + 1) list)) there
        ∙ sym (stand-first bytes (at + 2 * i) (get_or list i 0) (drop (i + 1) list) e)
        ∙ ap (stand_at bytes (at + 2 * i)) (sym (drop_more list i 0 h))

    pub stand-no : (number_at bytes (at + 2 * i) ≡ get_or list i 0 → ⊥) → stand_at bytes (at + 2 * i) (drop i list) ≡ false
    unfolding stand_at
    stand-no d = ap (stand_at bytes (at + 2 * i)) (drop_more list i 0 h) ∙ rw (ne_eqb _ _ d)

  pub stand-end : length list ≤ i → stand_at bytes (at + 2 * i) (drop i list) ≡ true
  unfolding stand_at
  stand-end h = ap (stand_at bytes (at + 2 * i)) (drop_all i list h)

-- ---- `numbers_by`
module _ {A : Type 0} (f : A → ℕ) (xs : List ℕ) where
  pub written-next : (new : List A) (i : ℕ) (v : A) → map f (take i new) ≡ take i xs → i < length new → i < length xs → f v ≡ get_or xs i 0
      → map f (take (i + 1) (set new i v)) ≡ take (i + 1) xs
  written-next new i v e h l here =
      rw (add-one i, take-suc-set new i v h, map-append f (take i new) (v ∷ []), e, here, take-suc xs i 0 l)

  -- As many as both have.
  over-taken : (old : List ℕ) (count : ℕ) → count ≡ min (length old) (length xs) → take count xs ++ drop count old ≡ over xs old
  over-taken old count e =
      ⊎_elim
      (λ (h : length xs ≤ length old).
      let all : count ≡ length xs = omega arith in
      ap (λ k. take k xs ++ drop k old) all
      ∙ ap (λ l. l ++ drop (length xs) old) (take_all (length xs) xs (omega arith))
      ∙ sym (over-room xs old h))
      (λ (h : length old < length xs).
      let all : count ≡ length old = omega arith in
      ap (λ k. take k xs ++ drop k old) all
      ∙ ap (λ l. take (length old) xs ++ l) (drop_all (length old) old (omega arith))
      ∙ append-nil (take (length old) xs)
      ∙ sym (over-full xs old (omega arith)))
      (le-or-lt (length xs) (length old))

  pub over-written : (old new : List A) (count i : ℕ) → count ≡ min (length old) (length xs) → length new ≡ count → i ≡ count
      → map f (take i new) ≡ take i xs → map f (new ++ drop count old) ≡ over xs (map f old)
  over-written old new count i c n k e =
      map-append f new (drop count old)
      ∙ ap₂ ◌++◌ (ap (map f) (sym (take_all i new (omega arith))) ∙ e ∙ ap (λ j. take j xs) k) (sym (drop-map f count old))
      ∙ over-taken (map f old) count (omega (arith, length-map old f))
