-- Arrays that calls of a closure make: where each call leaves the closure as it was and answers what a rule says, the array is the
-- rule's list.
--   from_fn_made   a call for each place
--   map_made       a call for each element of another list
use mathlib.Core.Path.{◌≡◌, sym, ap, subst, ◌∙◌}
use mathlib.Core.Logic.{⊎_elim}
use mathlib.Core.List.{List}
use Prim.Native.Nat.{ℕ, zero, suc, ◌+◌, ◌≤◌, ◌<◌}
use native.Mathlib.Omega.{arith}
use denote.Param.Members.{Mut, Called}
use lib.ListN.{length, get_or}
use Rattle.std.specs.Array.{IsFromFnResult, IsFromFnResultFrom, IsMapOf, MapsFrom}
use Rattle.std.proofs.lemmas.List.{same_lists}
use Rattle.lists.specs.Tabulate.{tabulate}
use Rattle.lists.proofs.Cases.{le-or-lt}
use Rattle.lists.proofs.Tabulate.{length-tabulate, get_or-tabulate}

-- A list that has the rule's element at each place is the rule's list.
tabulated : {A : Type 0} (rule : ℕ → A) (xs : List A) (n : ℕ) → length xs ≡ n → ((i : ℕ) (d : A) → i < n → get_or xs i d ≡ rule i)
    → xs ≡ tabulate rule n
tabulated rule xs n long at =
    same_lists xs (tabulate rule n) (long ∙ sym (length-tabulate rule n))
    (λ i d h. let l : i < n = omega arith in at i d l ∙ sym (get_or-tabulate rule n i d l))

-- The first of the places from i on, or a later one.
first-or-later : (i k : ℕ) (P : ℕ → Type 0) → i ≤ k → P i → (i + 1 ≤ k → P k) → P k
first-or-later i k P h here later =
    ⊎_elim (λ (l : k ≤ i). let e : i ≡ k = omega arith in subst P e here) (λ (l : i < k). later (omega arith)) (le-or-lt k i)

module _ {F B : Type 0} {g : Mut F (ℕ × Unit {0}) B} {f : F} (ys : List B) (rule : ℕ → B)
    (calls : (i : ℕ) (y : B) (q : F) → Called g f (i, tt) y q → (q ≡ f) × (y ≡ rule i)) where
  each : (n i k : ℕ) (d : B) → IsFromFnResultFrom g f ys i n → i ≤ k → k < i + n → get_or ys k d ≡ rule k
  each zero i k d h a b = absurd (omega arith)
  each (suc n) i k d (q, y, at, call, rest) a b =
      let (same, is) = calls i y q call in
      first-or-later i k (λ j. get_or ys j d ≡ rule j) a (at.1 d ∙ is)
      (λ l. each n (i + 1) k d (subst (λ p. IsFromFnResultFrom g p ys (i + 1) n) same rest) l (omega arith))

  pub from_fn_made : {n : ℕ} → IsFromFnResult g f ys n → ys ≡ tabulate rule n
  from_fn_made {n} h = tabulated rule ys n h.long (λ i d l. each n 0 i d h.each (omega arith) (omega arith))

module _ {F A B : Type 0} {g : Mut F (A × Unit {0}) B} {f : F} (xs : List A) (ys : List B) (rule : A → B)
    (calls : (x : A) (y : B) (q : F) → Called g f (x, tt) y q → (q ≡ f) × (y ≡ rule x)) (z : A) where
  mapped : (n i k : ℕ) (d : B) → MapsFrom g f xs ys i n → i ≤ k → k < i + n → get_or ys k d ≡ rule (get_or xs k z)
  mapped zero i k d h a b = absurd (omega arith)
  mapped (suc n) i k d (q, x, y, of, at, call, rest) a b =
      let (same, is) = calls x y q call in
      first-or-later i k (λ j. get_or ys j d ≡ rule (get_or xs j z)) a (at.1 d ∙ is ∙ sym (ap rule (of.1 z)))
      (λ l. mapped n (i + 1) k d (subst (λ p. MapsFrom g p xs ys (i + 1) n) same rest) l (omega arith))

  pub map_made : {n : ℕ} → IsMapOf g f xs ys n → ys ≡ tabulate (λ i. rule (get_or xs i z)) n
  map_made {n} h = tabulated (λ i. rule (get_or xs i z)) ys n h.long (λ i d l. mapped n 0 i d h.each (omega arith) (omega arith))
