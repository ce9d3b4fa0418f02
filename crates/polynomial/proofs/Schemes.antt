-- Horner's scheme written place by place, from the end: place k of the quotient holds the value of the coefficients behind k.
--   scheme_from v q   a value and a quotient
--   place        the coefficient of X^k in the quotient
--   last-value, one_more   the value of the last coefficient, and of one more before those from i on
--   scheme-again   the answer's quotient times X − x, and its value, give f: an identity of coefficients
--   Written      from place i on the quotient is written, and 0 stands before it; with the start, a turn and the end of the loop
use mathlib.Core.Path.{◌≡◌, refl, sym, ap, ◌∙◌}
use mathlib.Core.List.{List, [], ◌∷◌}
use Prim.Native.Nat.{ℕ, zero, suc, ◌+◌, ◌-◌, ◌<◌, ◌≤◌}
use native.Mathlib.Decide.{ℕ_discrete}
use native.Mathlib.Omega.{arith}
use lib.ListN.{length, get_or, take, drop, set, replicate, length-append, length-replicate, length-set}
use lib.Seq.{ext_get_or, get_or-set_same, get_or-set_other, take_at}
use Rattle.lists.specs.Tabulate.{pad}
use Rattle.lists.proofs.All.{all-get_or}
use Rattle.lists.proofs.InPlace.{drop-back}
use Rattle.std.proofs.lemmas.List.{drop_all, drop_more}
use Rattle.lists.proofs.Padded.{get_or-zeros}
use Rattle.field.specs.Arithmetic.{add, mul}
use Rattle.polynomial.specs.declared.Scheme.{Scheme}
use Rattle.polynomial.specs.Polynomial.{Residues, value, quotient, scheme_of, raise}
use Rattle.polynomial.proofs.Division.{value-alone, length-quotient}
use Rattle.polynomial.proofs.Raising.{divided-again}

-- A value and a quotient.
abbrev pub scheme_from : ℕ → List ℕ → Scheme
scheme_from v q = record { value = v; quotient = q }

module _ (p : ℕ) (x : ℕ) where
  pub place : (f : List ℕ) (k : ℕ) → get_or (quotient p f x) k 0 ≡ value p (drop (suc k) f) x
  place [] k = refl
  place (c ∷ []) k = ap (λ z. value p z x) (sym (drop_all k [] (omega arith)))
  place (c ∷ d ∷ f) zero = refl
  place (c ∷ d ∷ f) (suc k) = place (d ∷ f) k

  pub last-value : (f : List ℕ) → Residues p f → 0 < length f → get_or f (length f - 1) 0 ≡ value p (drop (length f - 1) f) x
  last-value f r h =
      let i : ℕ = length f - 1 in
      sym (ap (λ z. value p z x) (drop_more f i 0 (omega arith) ∙ ap (λ z. get_or f i 0 ∷ z) (drop_all (i + 1) f (omega arith)))
      ∙ value-alone p x (get_or f i 0) (all-get_or (λ c. c < p) f i 0 (omega arith) r))

  pub one_more : (f : List ℕ) (i v : ℕ) → 0 < i → i ≤ length f → v ≡ value p (drop i f) x
      → add p (get_or f (i - 1) 0) (mul p x v) ≡ value p (drop (i - 1) f) x
  one_more f i v low h e =
      ap (λ z. add p (get_or f (i - 1) 0) (mul p x z)) e ∙ ap (λ z. value p z x) (sym (drop-back f i 0 low h))

  -- From place i on the quotient is written.
  pub record Written (f q : List ℕ) (i : ℕ) : Type 0 where
    pub room : length q ≡ 11
    pub behind : (k : ℕ) → i ≤ k → get_or q k 0 ≡ value p (drop (suc k) f) x

  pub written_start : (f : List ℕ) → Written f (replicate 11 0) (length f - 1)
  written_start f = record {
    room = refl;
    behind = λ k h. get_or-zeros [] 11 k ∙ ap (λ z. value p z x) (sym (drop_all (suc k) f (omega arith)));
  }

  pub written_next : (f q : List ℕ) (i v : ℕ) → 0 < i → i ≤ 11 → v ≡ value p (drop i f) x → Written f q i
      → Written f (set q (i - 1) v) (i - 1)
  written_next f q i v low h e w = record {
    room = length-set q (i - 1) v ∙ w.room;
    behind = λ k m.
        elim (ℕ_discrete k (i - 1)) [
          | yes s ↦
              let next : i ≡ suc k = omega arith in
              ap (λ z. get_or (set q (i - 1) v) z 0) s
              ∙ get_or-set_same q (i - 1) v 0 (omega (arith, w.room))
              ∙ e
              ∙ ap (λ z. value p (drop z f) x) next
          | no d ↦ get_or-set_other q (i - 1) k v 0 d ∙ w.behind k (omega arith)
        ];
  }

  pub written-end : (f q : List ℕ) → length f ≤ 11 → Written f q 0 → q ≡ pad 11 (quotient p f x)
  written-end f q h w =
      ext_get_or 0 q (pad 11 (quotient p f x))
      (w.room ∙ sym (length-append (quotient p f x) (replicate (11 - length (quotient p f x)) 0) ∙ full))
      (λ k l. w.behind k (omega arith) ∙ sym (place f k) ∙ sym (get_or-zeros (quotient p f x) (11 - length (quotient p f x)) k))
    where
      full : length (quotient p f x) + length (replicate {A = ℕ} (11 - length (quotient p f x)) 0) ≡ 11
      full = omega (arith, length-replicate {A = ℕ} (11 - length (quotient p f x)) 0, length-quotient p f x)

-- (X − x) quotient + value is f, of the answer itself.
pub scheme-again : (p c : ℕ) (f : List ℕ) (x : ℕ) → 0 < p → Residues p (c ∷ f)
    → raise p x ((scheme_of p (c ∷ f) x).value ∷ take (length f) (scheme_of p (c ∷ f) x).quotient) ≡ c ∷ f
scheme-again p c f x positive r =
    let size : length (quotient p (c ∷ f) x) ≡ length f = length-quotient p (c ∷ f) x ∙ omega arith in
    ap (λ q. raise p x (value p (c ∷ f) x ∷ q)) (take_at (quotient p (c ∷ f) x) _ (length f) size) ∙ divided-again p c f x positive r
