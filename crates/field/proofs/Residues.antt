-- The difference of two residues.
use mathlib.Core.Path.{◌≡◌, sym, ap, ◌∙◌}
use Prim.Native.Nat.{ℕ, ◌+◌, ◌-◌, ◌%◌, ◌<◌, ◌≤◌}
use native.Mathlib.Nat.{mod-eq_of_lt}
use native.Mathlib.Omega.{arith}
use Rattle.field.specs.Arithmetic.{sub}
use Rattle.field.proofs.Remainders.{congruent}

module _ (p a b : ℕ) (ha : a < p) (hb : b < p) where
  pub less : b ≤ a → (a - b ≡ sub p a b) × (a - b < p)
  unfolding sub
  less h =
      let own : b % p ≡ b = mod-eq_of_lt hb in
      let own-sum : (a + (p - b)) % p ≡ a - b = congruent p (a + (p - b)) (a - b) 0 1 (omega arith) ∙ mod-eq_of_lt (omega arith) in
      (sym (ap (λ (z : ℕ). (a + (p - z)) % p) own ∙ own-sum), omega arith)

  -- Where b is the larger, with p by another name.
  pub more : (r : ℕ) → r ≡ p → a < b → (a + (r - b) ≡ sub p a b) × (a + (r - b) < p)
  unfolding sub
  more r e h =
      let own : b % p ≡ b = mod-eq_of_lt hb in
      let own-sum : (a + (p - b)) % p ≡ a + (p - b) = mod-eq_of_lt (omega arith) in
      (sym (ap (λ (z : ℕ). (a + (p - z)) % p) own ∙ own-sum ∙ ap (λ (z : ℕ). a + (z - b)) (sym e)), omega arith)
