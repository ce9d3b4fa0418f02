-- Division by a polynomial E of degree b, whose top coefficient has the inverse i.
--   add_times p R c E          R + c E, as long as E
--   add_product p R F E        R + F E, coefficient by coefficient, for R with b coefficients
--   product p F E              F E
--   less_times p r h E         r − h E
--   leading p i E r            the coefficient h with which r − h E has no top
--   long_division p i E n Q    n coefficients of the quotient, and the remainder, of b
--   all_zero r                 whether r is nothing but zeros
--   exact_quotient p i E n Q   the quotient where nothing remains
-- Laws: proofs/Products, proofs/Exact.
use Rattle.std.specs.Prelude.{Bool, true, ◌&&◌, cond, ℕ, zero, suc, ◌-◌, eqb, length, get_or, take, replicate}
use Rattle.std.proofs.Math.Option.{Option, none, some}
use mathlib.Core.List.{List, [], ◌∷◌, tail, zip_with}
use Rattle.field.specs.Arithmetic.{add, sub, mul}

module _ (p : ℕ) where
  -- R + c E, as long as E.
  abbrev pub add_times : List ℕ → ℕ → List ℕ → List ℕ
  add_times R c [] = []
  add_times R c (d ∷ E) = add p (get_or R 0 0) (mul p c d) ∷ add_times (tail R) c E

  -- R + F E: the constant of F with all of E, and the rest of F one place on.
  abbrev pub add_product : List ℕ → List ℕ → List ℕ → List ℕ
  add_product R [] E = R
  add_product R (c ∷ F) E = get_or (add_times R c E) 0 0 ∷ add_product (tail (add_times R c E)) F E

  -- F E, of as many coefficients as both have together but one.
  abbrev pub product : List ℕ → List ℕ → List ℕ
  product F E = add_product (replicate (length E - 1) 0) F E

  -- r − h E, coefficient by coefficient.
  abbrev pub less_times : List ℕ → ℕ → List ℕ → List ℕ
  less_times r h E = zip_with (λ d c. sub p c (mul p h d)) E r

  -- The next coefficient of the quotient is that by which E takes the top away.
  abbrev pub leading : ℕ → List ℕ → List ℕ → ℕ
  leading i E r = mul p i (get_or r (length E - 1) 0)

  -- Quotient and remainder.
  abbrev pub long_division : ℕ → List ℕ → ℕ → List ℕ → List ℕ × List ℕ
  long_division i E zero Q = ([], Q)
  long_division i E (suc n) [] = ([], [])
  long_division i E (suc n) (c ∷ Q) =
      let o = long_division i E n Q in
      let h = leading i E (c ∷ o.1) in
      (h ∷ o.0, take (length E - 1) (less_times (c ∷ o.1) h E))

-- Nothing but zeros.
abbrev pub all_zero : List ℕ → Bool
all_zero [] = true
all_zero (c ∷ r) = eqb c 0 && all_zero r

-- The quotient, if nothing remains.
unfoldable pub exact_quotient : ℕ → ℕ → List ℕ → ℕ → List ℕ → Option (List ℕ)
exact_quotient p i E n Q = cond (all_zero (long_division p i E n Q).1) (some (long_division p i E n Q).0) none
