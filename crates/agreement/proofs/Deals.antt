-- What a sound deal, a pair and a one in a report say, as facts.
--   sound-facts, sound-true, report-bit   from the tests to the facts, and back
--   Confirmed   what a one says
use mathlib.Core.Path.{◌≡◌, sym, ap, ◌∙◌}
use mathlib.Core.Logic.{◌≢◌}
use mathlib.Core.Bool.{Bool, true, not, ◌&&◌, and-eq-true_iff}
use mathlib.Core.List.{List}
use Prim.Native.Nat.{ℕ, suc, ◌-◌}
use native.Mathlib.Omega.{arith}
use lib.Dec.{eqb}
use borrow.Author.Tests.{eqb-true, eqb-false, eq-eqb, ne_eqb, not-true}
use Rattle.lists.proofs.Masks.{bit_mask}
use Rattle.polynomial.specs.Polynomial.{residues, value}
use Rattle.polynomial.proofs.Below.{residues-true, residues-facts}
use Rattle.parties.specs.Parties.{is_party, member}
use Rattle.parties.proofs.Parties.{party-facts}
use Rattle.tables.specs.Tables.{point_at}
use Rattle.consistency.proofs.Reports.{pair-sound}
use Rattle.agreement.specs.Demand1.{Sound}
use Rattle.consistency.specs.Deal.{first_from, second_from, sound, pair_for, confirms, report_of}

module _ (p : ℕ) (T : List ℕ) (i : ℕ) (row column : List ℕ) where
  pub sound-facts : sound p T i row column ≡ true → Sound p T i row column
  unfolding sound
  sound-facts e =
      let a = (and-eq-true_iff (residues p row && residues p column) (eqb (value p row (point_at T i)) (value p column (point_at T i)))).0 e in
      let b = (and-eq-true_iff (residues p row) (residues p column)).0 a.0 in
      record { row_below = residues-facts p row b.0; column_below = residues-facts p column b.1; crossing = eqb-true _ _ a.1 }

  pub sound-true : Sound p T i row column → sound p T i row column ≡ true
  unfolding sound
  sound-true h =
      (and-eq-true_iff (residues p row && residues p column) (eqb (value p row (point_at T i)) (value p column (point_at T i)))).1 (
        (and-eq-true_iff (residues p row) (residues p column)).1
            (residues-true p row h.row_below, residues-true p column h.column_below),
        eq-eqb _ _ h.crossing,
      )

  -- The pair for another party, from a sound deal.
  module _ (j : ℕ) (other : i ≢ j) (h : sound p T i row column ≡ true) where
    pub pair-first : (pair_for p T i row column j).0 ≡ value p row (point_at T j)
    pair-first = ap (λ q. q.0) (sym (pair-sound p T i row column j other h))

    pub pair-second : (pair_for p T i row column j).1 ≡ value p column (point_at T j)
    pair-second = ap (λ q. q.1) (sym (pair-sound p T i row column j other h))

  module _ (hs : List ℕ) (j : ℕ) where
    pub record Confirmed : Type 0 where
      pub other : i ≢ j
      pub soundly : sound p T i row column ≡ true
      pub first : first_from hs j ≡ value p column (point_at T j)
      pub second : second_from hs j ≡ value p row (point_at T j)

    pub confirmed : confirms p T i row column hs j ≡ true → Confirmed
    unfolding confirms
    confirmed e =
        let one : Bool = eqb (first_from hs j) (value p column (point_at T j)) in
        let two : Bool = eqb (second_from hs j) (value p row (point_at T j)) in
        let a = (and-eq-true_iff (not (eqb i j) && sound p T i row column && one) two).0 e in
        let b = (and-eq-true_iff (not (eqb i j) && sound p T i row column) one).0 a.0 in
        let d = (and-eq-true_iff (not (eqb i j)) (sound p T i row column)).0 b.0 in
        record {
          other = eqb-false i j (not-true (eqb i j) d.0);
          soundly = d.1;
          first = eqb-true _ _ b.1;
          second = eqb-true _ _ a.1;
        }

    pub confirms-true : Confirmed → confirms p T i row column hs j ≡ true
    unfolding confirms
    confirms-true h =
        let one : Bool = eqb (first_from hs j) (value p column (point_at T j)) in
        let two : Bool = eqb (second_from hs j) (value p row (point_at T j)) in
        (and-eq-true_iff (not (eqb i j) && sound p T i row column && one) two).1 (
          (and-eq-true_iff (not (eqb i j) && sound p T i row column) one).1 (
            (and-eq-true_iff (not (eqb i j)) (sound p T i row column)).1 (ap not (ne_eqb i j h.other), h.soundly),
            eq-eqb _ _ h.first,
          ),
          eq-eqb _ _ h.second,
        )

    -- The report's bit for party j.
    pub report-bit : (n : ℕ) → is_party n j ≡ true → member (report_of p n T i row column hs) j ≡ confirms p T i row column hs j
    unfolding report_of
    report-bit n party =
        let h = party-facts n j party in
        let place : suc (j - 1) ≡ j = omega arith in
        bit_mask (λ k. confirms p T i row column hs (suc k)) n (j - 1) (omega arith) ∙ ap (confirms p T i row column hs) place
