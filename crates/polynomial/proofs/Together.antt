-- One of two polynomials that are divided by X − x together: its sum and its quotient, from the last place on down, by laws for the start,
-- a turn and the end of the loop, which goes from place `top` on whatever the polynomial's own length is.
--   padded-value, padded-test   zeros behind the coefficients change no value, and are residues by the test
--   value-at        the coefficient at a place, 0 behind the last, and the value of those behind it
--   Summed          the sum has the residue of the value of the coefficients from i on, and room for those to come
--   summed-start, summed-room, summed-next, summed-end   the start, that one more fits, a turn and the end of the loop
use mathlib.Core.Path.{◌≡◌, refl, sym, ap, ap₂, ◌∙◌}
use mathlib.Core.Bool.{◌&&◌}
use mathlib.Core.List.{List, [], ◌∷◌, ◌++◌}
use Prim.Native.Nat.{ℕ, zero, suc, ◌-◌, ◌%◌, ◌<◌, ◌≤◌}
use native.Mathlib.Nat.{mod-eq_of_lt}
use native.Mathlib.Omega.{arith}
use lib.Dec.{ltb}
use lib.ListN.{length, get_or, drop, set, replicate}
use Rattle.lists.specs.Tabulate.{pad}
use Rattle.std.proofs.lemmas.List.{drop_all}
use Rattle.field.specs.Arithmetic.{add, mul}
use Rattle.field.specs.Modulus.{prime_of}
use Rattle.field.specs.Sums.{sum_below}
use Rattle.field.specs.declared.Width.{Width}
use Rattle.field.proofs.Primes.{positive}
use Rattle.field.proofs.Ring.{mul-mod}
use Rattle.field.proofs.Sums.{residue-sum, before-fourth}
use Rattle.polynomial.specs.Polynomial.{Residues, residues, value, scheme_of}
use Rattle.polynomial.proofs.Below.{zeros-residues, residues-true}
use Rattle.polynomial.proofs.Division.{value-alone, value-zeros}
use Rattle.polynomial.proofs.Few.{coefficient-below}
use Rattle.polynomial.proofs.Schemes.{scheme_from, Written, written_start, written_next, written-end}

module _ (p : ℕ) where
  pub padded-value : (n : ℕ) (f : List ℕ) (x : ℕ) → value p (pad n f) x ≡ value p f x
  padded-value n f x = value-zeros p f (n - length f) x

  pub padded-test : (n : ℕ) (f : List ℕ) → 0 < p → residues p (pad n f) ≡ residues p f
  padded-test n f h = rest f
    where
      rest : (g : List ℕ) → residues p (g ++ replicate (n - length f) 0) ≡ residues p g
      rest [] = residues-true p (replicate (n - length f) 0) (zeros-residues p (n - length f) h)
      rest (c ∷ g) = ap (λ b. ltb c p && b) (rest g)

  pub value-at : (f : List ℕ) (k x : ℕ) → 0 < p → add p (get_or f k 0) (mul p x (value p (drop (suc k) f) x)) ≡ value p (drop k f) x
  value-at [] k x h = nothing k
    where
      nothing : (k : ℕ) → add p (get_or [] k 0) (mul p x (value p (drop (suc k) []) x)) ≡ value p (drop k []) x
      nothing zero = value-alone p x 0 h
      nothing (suc k) = value-alone p x 0 h
  value-at (c ∷ f) zero x h = refl
  value-at (c ∷ f) (suc k) x h = value-at f k x h

module _ (w : Width) (x top : ℕ) where
  -- The loop stands at place i: `u` is what the coefficients from there on sum up to, and the quotient is written from there on.
  pub record Summed (f q : List ℕ) (i u : ℕ) : Type 0 where
    pub sum : u % prime_of w ≡ value (prime_of w) (drop i f) x
    pub room : u < sum_below w (suc top - i)
    pub written : Written (prime_of w) x f q i

  pub summed-start : (f : List ℕ) (u : ℕ) → Residues (prime_of w) f → length f ≤ suc top → u ≡ get_or f top 0
      → Summed f (replicate 11 0) top u
  summed-start f u r l e =
      let p : ℕ = prime_of w in
      let small : get_or f top 0 < p = coefficient-below p f top (positive w) r in
      let none : value p (drop (suc top) f) x ≡ 0 = ap (λ z. value p z x) (drop_all (suc top) f l) in
      let one : suc top - top ≡ 1 = omega arith in record {
        sum =
            ap (λ z. z % p) e
            ∙ mod-eq_of_lt small
            ∙ sym (value-alone p x (get_or f top 0) small)
            ∙ ap (λ z. add p (get_or f top 0) (mul p x z)) (sym none)
            ∙ value-at p f top x (positive w);
        room = rw (one, e) (residue-sum w (get_or f top 0) small);
        written = record {
          room = (written_start p x f).room;
          behind = λ k h. (written_start p x f).behind k (omega arith);
        };
      }

  -- There is room for one coefficient more.
  pub summed-room : (f q : List ℕ) (i u : ℕ) → top ≤ 3 → 0 < i → Summed f q i u → u < sum_below w 3
  summed-room f q i u h low s = before-fourth w (suc top - i) u (omega arith) s.room

  pub summed-next : (f q : List ℕ) (i u c v r : ℕ) → 0 < i → i ≤ top → top ≤ 3 → v ≡ u % prime_of w → c ≡ get_or f (i - 1) 0
      → r % prime_of w ≡ add (prime_of w) c (mul (prime_of w) x u) → ((k : ℕ) → u < sum_below w k → r < sum_below w (suc k))
      → Summed f q i u → Summed f (set q (i - 1) v) (i - 1) r
  summed-next f q i u c v r low h three ev ec er fits s =
      let p : ℕ = prime_of w in
      let next : suc (i - 1) ≡ i = omega arith in
      let more : suc (suc top - i) ≡ suc top - (i - 1) = omega arith in record {
        sum =
            er
            ∙ ap₂ (add p) ec (sym (mul-mod p x u) ∙ ap (mul p x) (s.sum ∙ ap (λ z. value p (drop z f) x) (sym next)))
            ∙ value-at p f (i - 1) x (positive w);
        room = rw (sym more) (fits (suc top - i) s.room);
        written = written_next p x f q i v low (omega arith) (ev ∙ s.sum) s.written;
      }

  pub summed-end : (f q : List ℕ) (i u v : ℕ) → length f ≤ 4 → i ≡ 0 → v ≡ u % prime_of w → Summed f q i u
      → scheme_from v q ≡ scheme_of (prime_of w) f x
  summed-end f q zero u v l e ev s = ap₂ scheme_from (ev ∙ s.sum) (written-end (prime_of w) x f q (omega arith) s.written)
  summed-end f q (suc i) u v l e ev s = absurd (omega arith)
