-- What the arrays of the code hold: the numbers heard, with those of parties outside a set hidden.
--   heard_at mark S heard k   the number heard from the party at place k, or `mark` where S has it not
use mathlib.Core.Path.{◌≡◌, refl, sym, ap₂, ◌∙◌}
use mathlib.Core.Bool.{Bool, false, cond}
use mathlib.Core.List.{List, [], ◌∷◌}
use Prim.Native.Nat.{ℕ, zero, suc, ◌/◌, ◌%◌, ◌^◌, ◌<◌, ◌≤◌}
use native.Mathlib.Omega.{arith}
use borrow.Author.Tests.{eq-eqb, ne_eqb}
use lib.ListN.{length, take, get_or}
use lib.Seq.{length-take-le, get_or-take}
use Rattle.lists.specs.Masks.{bit}
use Rattle.lists.specs.Tabulate.{tabulate}
use Rattle.lists.proofs.Tabulate.{length-tabulate, get_or-tabulate}
use Rattle.lists.specs.Choices.{hide}
use Rattle.lists.proofs.Selections.{length-hide}

abbrev pub heard_at : ℕ → ℕ → List ℕ → ℕ → ℕ
heard_at mark S heard k = cond (bit S k) (get_or heard k 0) mark

get_or-hide : (mark : ℕ) (ms : List Bool) (xs : List ℕ) (k : ℕ) → k < length ms → k < length xs
    → get_or (hide mark ms xs) k 0 ≡ cond (get_or ms k false) (get_or xs k 0) mark
get_or-hide mark [] xs k h l = absurd (omega arith)
get_or-hide mark (m ∷ ms) [] k h l = absurd (omega arith)
get_or-hide mark (m ∷ ms) (x ∷ xs) zero h l = refl
get_or-hide mark (m ∷ ms) (x ∷ xs) (suc k) h l = get_or-hide mark ms xs k (omega arith) (omega arith)

module _ (mark S n : ℕ) (heard : List ℕ) (inside : n ≤ length heard) where
  lengths : length (tabulate (bit S) n) ≡ length (take n heard)
  lengths = length-tabulate (bit S) n ∙ sym (length-take-le n heard inside)

  pub length-heard : length (hide mark (tabulate (bit S) n) (take n heard)) ≡ n
  length-heard = length-hide mark (tabulate (bit S) n) (take n heard) lengths ∙ length-take-le n heard inside

  pub get_or-heard : (k : ℕ) → k < n → get_or (hide mark (tabulate (bit S) n) (take n heard)) k 0 ≡ heard_at mark S heard k
  get_or-heard k h =
      get_or-hide mark (tabulate (bit S) n) (take n heard) k (omega (arith, length-tabulate (bit S) n))
      (omega (arith, length-take-le n heard inside))
      ∙ ap₂ (λ (b : Bool) (x : ℕ). cond b x mark) (get_or-tabulate (bit S) n k false h) (get_or-take n heard k 0 h)

-- ---- a turn of the loop
module _ (mark S : ℕ) (heard : List ℕ) (k : ℕ) where
  pub heard-member : S / 2 ^ k % 2 ≡ 1 → get_or heard k 0 ≡ heard_at mark S heard k
  heard-member e = rw (eq-eqb (S / 2 ^ k % 2) 1 e)

  pub heard-other : (S / 2 ^ k % 2 ≡ 1 → ⊥) → mark ≡ heard_at mark S heard k
  heard-other d = rw (ne_eqb (S / 2 ^ k % 2) 1 d)
