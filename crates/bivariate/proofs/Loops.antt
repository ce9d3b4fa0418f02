-- One turn of each loop, as a law over plain lists. F is n blocks of n numbers.
--   RowLoop       what is written, and the row of the blocks that are left, make up the row
--   column-next   one more number of a list is written
use mathlib.Core.Path.{◌≡◌, sym, ap, ap₂, ◌∙◌}
use mathlib.Core.Logic.{⊎_elim}
use mathlib.Core.List.{List, ◌∷◌, ◌++◌}
use Prim.Native.Nat.{ℕ, suc, ◌+◌, ◌*◌, ◌-◌, ◌<◌, ◌≤◌}
use native.Mathlib.Omega.{arith}
use lib.ListN.{length, get_or, take, drop, set, length-drop}
use Rattle.std.proofs.lemmas.List.{get_or-set_other}
use Rattle.std.proofs.lemmas.Grind.{get_or-set_at}
use Rattle.lists.proofs.All.{all_drop}
use Rattle.lists.proofs.Cases.{le-or-lt}
use Rattle.lists.proofs.InPlace.{write-next}
use Rattle.polynomial.specs.Polynomial.{Residues, value}
use Rattle.bivariate.specs.Bivariate.{row}

module _ (p : ℕ) where
  pub record RowLoop (f : List ℕ) (y n : ℕ) (out : List ℕ) (u : ℕ) (rest : List ℕ) : Type 0 where
    pub size : length rest ≡ (n - u) * n
    pub residues : Residues p rest
    pub goal : take u out ++ row p (n - u) n rest y ≡ row p n n f y

  pub row_next : (f : List ℕ) (y n : ℕ) (out : List ℕ) (u : ℕ) (rest behind : List ℕ) (v : ℕ) → RowLoop f y n out u rest
      → u < n → n ≡ length out → v ≡ value p (take n rest) y → behind ≡ drop n rest → RowLoop f y n (set out u v) (u + 1) behind
  row_next f y n out u rest behind v k h l e b =
      let left : n - u ≡ suc (n - (u + 1)) = omega arith in
      record {
        size = ap length b ∙ omega (arith, length-drop n rest, k.size, ap (λ z. z * n) left);
        residues = rw b (all_drop (λ c. c < p) n rest k.residues);
        goal =
            write-next out u v (row p (n - (u + 1)) n behind y) (omega arith)
            ∙ ap₂ (λ a c. take u out ++ a ∷ row p (n - (u + 1)) n c y) e b
            ∙ ap (λ z. take u out ++ row p z n rest y) (sym left)
            ∙ k.goal;
      }

pub column-next : (xs ys : List ℕ) (v x : ℕ) → ((k : ℕ) → k < v → get_or xs k 0 ≡ get_or ys k 0) → v < length xs → x ≡ get_or ys v 0
    → (k : ℕ) → k < v + 1 → get_or (set xs v x) k 0 ≡ get_or ys k 0
column-next xs ys v x before room e k h =
    ⊎_elim
    (λ (last : v ≤ k).
    let same : k ≡ v = omega arith in
    get_or-set_at xs v k x 0 same room ∙ e ∙ ap (λ z. get_or ys z 0) (sym same))
    (λ (first : k < v). get_or-set_other xs v k x 0 (λ same. omega arith) ∙ before k first)
    (le-or-lt v k)
