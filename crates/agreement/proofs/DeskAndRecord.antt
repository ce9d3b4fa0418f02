-- What the desk, the record's readers and its writer answer and leave: each follows its table.
use mathlib.Core.Path.{◌≡◌, refl, sym, ap, subst, ◌∙◌}
use mathlib.Core.Bool.{Bool, true, ◌&&◌, and-eq-true_iff}
use mathlib.Core.List.{List, [], ◌∷◌}
use Prim.Native.Nat.{ℕ, ◌+◌, ◌*◌, ◌-◌, ◌≤◌, ◌<◌}
use native.Mathlib.Omega.{arith}
use lib.Dec.{eqb, leb}
use lib.ListN.{length, get_or}
use borrow.Author.Tests.{eqb-true, eq-eqb, leb-true, le-leb, leb-false}
use Rattle.field.specs.declared.Width.{Width}
use Rattle.field.specs.declared.Width.TheVariants.{Narrow, Wide}
use Rattle.polynomial.specs.Polynomial.{residues}
use Rattle.polynomial.proofs.Below.{residues-facts, residues-true}
use Rattle.parties.specs.Parties.{sizes}
use Rattle.record.specs.Bytes.{number_at, stand_at, over}
use Rattle.record.specs.Record as records
use Rattle.record.proofs.Bytes.{stand-facts}
use Rattle.record.proofs.Sections.{narrow-lengths, wide-lengths}
use Rattle.record.proofs.Narrow.{read-as-narrow, read-as-wide}
use Rattle.record.proofs.Answers.{as_short, as-size, as-wrong, as-fine}
use Rattle.writer.specs.Writer as writers
use Rattle.dealer.specs.Desk as desks
use Rattle.dealer.proofs.Desk.{length-deals}
use Rattle.answers.specs.declared.Refusal.TheVariants.{WrongSize, WrongLength, NotResidue, WrongTable}
use Rattle.agreement.specs.Setting.{Setting, prime, terms, desk_for}
use Rattle.agreement.specs.Demand1.{Follows, desk_refusals, Reads, Lengths, writer_refusals}
use Rattle.agreement.specs.Records.{Directory, lengths_of, IsLaid, whole_length}
use Rattle.agreement.proofs.Rows.{Tests, unless, row}
use Rattle.agreement.proofs.Guards.{legal-sizes, size-test, same_test, table-test, against, guarded}
use Rattle.std.specs.Prelude.{Ok}
use Rattle.answers.specs.Refusals.{number_of}

-- ---- the desk
pub deals : (s : Setting) (F out : List ℕ)
    → Follows (desk_refusals s F out) (length (desk_for s F out).0 ≡ length out) (number_of (desk_for s F out).1)
    (desk_for s F out).0
unfolding desks.desk_with
deals s F out =
    guarded out (λ a. number_of (desks.dealt_by a new out).1) (λ a. (desks.dealt_by a new out).0)
    (λ a. length (desks.dealt_by a new out).0 ≡ length out) (record { numbered = λ why. refl; unchanged = λ why. refl }) []
    (against WrongSize (size-test s.n s.t)
    ∷ against WrongLength (same_test (length F) (terms s * terms s))
    ∷ against WrongLength (same_test (length out) (s.n * (2 * terms s)))
    ∷ against WrongLength (same_test (length s.table) s.n)
    ∷ against WrongTable (table-test (prime s) s.n s.table)
    ∷ against NotResidue (unless (residues (prime s) F) (residues-facts (prime s) F) (residues-true (prime s) F))
    ∷ [])
    (λ (a, (square, (long, u))).
    (refl, length-deals (prime s) (terms s) s.table F (eqb-true _ _ square) s.n ∙ sym (eqb-true _ _ long)))
  where
    new : List ℕ
    new = desks.deals (prime s) (terms s) s.table F s.n

-- ---- the record in digits

-- How many bytes each section has by the definitions, and that this is what the protocol says.
abbrev defined : Width → ℕ → ℕ → ℕ × ℕ × ℕ × ℕ
defined w n t = (records.section_length w n t 0, records.section_length w n t 1, records.section_length w n t 2, records.section_length w n t 3)

digits : (w : Width) (n t : ℕ) → defined w n t ≡ lengths_of w n t
digits Narrow n t = let q = narrow-lengths n t in λ j. (q.0 j, q.1 j, q.2 j, q.3 j)
digits Wide n t = let q = wide-lengths n t in λ j. (q.0 j, q.1 j, q.2 j, q.3 j)

module _ (bytes : List ℕ) (w : Width) (n t : ℕ) where
  -- A directory of these lengths.
  abbrev Has : ℕ × ℕ × ℕ × ℕ → Type 0
  Has q = Directory bytes q.0 q.1 q.2 q.3

  right-has : records.directory_right bytes w n t ≡ true → Has (defined w n t)
  unfolding records.directory_right records.directory
  right-has e =
      let list : List ℕ = records.directory w n t in
      let q = (and-eq-true_iff (eqb (length bytes) (records.section_start w n t 4)) (stand_at bytes 2 list)).0 e in
      let each : (k : ℕ) → k < 8 → number_at bytes (2 + 2 * k) ≡ get_or list k 0 = stand-facts bytes 2 list q.1 in
      record {
        deals_from = each 0 (omega arith);
        deals_long = each 1 (omega arith);
        pairs_from = each 2 (omega arith);
        pairs_long = each 3 (omega arith);
        reports_from = each 4 (omega arith);
        reports_long = each 5 (omega arith);
        shares_from = each 6 (omega arith);
        shares_long = each 7 (omega arith);
        end = eqb-true _ _ q.0;
      }

  has_right : Has (defined w n t) → records.directory_right bytes w n t ≡ true
  unfolding records.directory_right records.directory stand_at
  has_right d =
      simp (
        eq-eqb _ _ d.end,
        eq-eqb _ _ d.deals_from,
        eq-eqb _ _ d.deals_long,
        eq-eqb _ _ d.pairs_from,
        eq-eqb _ _ d.pairs_long,
        eq-eqb _ _ d.reports_from,
        eq-eqb _ _ d.reports_long,
        eq-eqb _ _ d.shares_from,
        eq-eqb _ _ d.shares_long,
      )

  -- What is tested for is what the protocol says.
  right-laid : records.directory_right bytes w n t ≡ true → IsLaid w n t bytes
  right-laid e = subst Has (digits w n t) (right-has e)

  directory-test : Tests (records.directory_right bytes w n t) (IsLaid w n t bytes → ⊥)
  directory-test =
      unless (records.directory_right bytes w n t) right-laid (λ d. has_right (subst Has (sym (digits w n t)) d))

-- ---- the readers
module _ (bytes : List ℕ) where
  abbrev byte0 : ℕ
  byte0 = get_or bytes 0 0

  -- By the width and the n that a reader takes.
  reads_as : (w : Width) (n : ℕ) → Reads bytes w n (records.reading_as bytes w n (records.t_of bytes))
  reads_as w n =
      let t : ℕ = records.t_of bytes in
      row (leb 2 (length bytes)) (unless (leb 2 (length bytes)) (leb-true _ _) (le-leb _ _))
      (λ e. (ap number_of (as_short bytes w n t (leb-false _ _ e)), refl)) (λ two.
      row (sizes n t) (size-test n t) (λ e. (ap number_of (as-size bytes w n t (leb-true _ _ two) e), refl)) (λ size.
      row (records.directory_right bytes w n t) (directory-test bytes w n t)
      (λ e. (ap number_of (as-wrong bytes w n t (leb-true _ _ two) size e), refl)) (λ d.
      let fine = as-fine bytes w n t (leb-true _ _ two) size d in
      (ap number_of fine, (legal-sizes n t size, right-laid bytes w n t d, fine)))))

  pub reads : byte0 < 128 → Reads bytes Narrow byte0 (records.reading bytes)
  reads low = subst (Reads bytes Narrow byte0) (read-as-narrow bytes low) (reads_as Narrow byte0)

  pub reads_wide : 128 ≤ byte0 → Reads bytes Wide (byte0 - 128) (records.reading bytes)
  reads_wide high = subst (Reads bytes Wide (byte0 - 128)) (read-as-wide bytes high) (reads_as Wide (byte0 - 128))

  -- The reader of old records alone.
  pub reads_old : Reads bytes Narrow byte0 (records.reading_narrow bytes)
  unfolding records.reading_narrow
  reads_old = reads_as Narrow byte0

-- ---- the writer
-- A record's end, by the definitions and by the protocol.
whole : (w : Width) (n t : ℕ) → records.section_start w n t 4 ≡ whole_length w n t
whole w n t = ap (λ (q : ℕ × ℕ × ℕ × ℕ). 18 + q.0 + q.1 + q.2 + q.3) (digits w n t)

lengths-test : (w : Width) (n t : ℕ) (deals pairs reports shares out : List ℕ)
    → Tests (writers.lists_fit w n t (length deals) (length pairs) (length reports) (length shares) (length out))
    (Lengths w n t deals pairs reports shares out → ⊥)
unfolding writers.lists_fit
lengths-test w n t deals pairs reports shares out =
    let b : Bool = eqb (length deals) (2 * n * (t + 1)) in
    let c : Bool = eqb (length pairs) (2 * n * n) in
    let d : Bool = eqb (length reports) n in
    let f : Bool = eqb (length shares) n in
    unless (writers.lists_fit w n t (length deals) (length pairs) (length reports) (length shares) (length out))
    (λ e.
    let q = (and-eq-true_iff (b && c && d && f) (leb (records.section_start w n t 4) (length out))).0 e in
    let q3 = (and-eq-true_iff (b && c && d) f).0 q.0 in
    let q2 = (and-eq-true_iff (b && c) d).0 q3.0 in
    let q1 = (and-eq-true_iff b c).0 q2.0 in
    record {
      first = eqb-true _ _ q1.0;
      second = eqb-true _ _ q1.1;
      third = eqb-true _ _ q2.1;
      fourth = eqb-true _ _ q3.1;
      room = subst (λ z. z ≤ length out) (whole w n t) (leb-true _ _ q.1);
    })
    (λ s.
    let room : records.section_start w n t 4 ≤ length out = subst (λ z. z ≤ length out) (sym (whole w n t)) s.room in
    simp (eq-eqb _ _ s.first, eq-eqb _ _ s.second, eq-eqb _ _ s.third, eq-eqb _ _ s.fourth, le-leb _ _ room))

pub writes : (w : Width) (n t : ℕ) (deals pairs reports shares out : List ℕ)
    → Follows (writer_refusals w n t deals pairs reports shares out)
    (((writers.writing w n t deals pairs reports shares out).1 ≡ Ok (whole_length w n t))
    × ((writers.writing w n t deals pairs reports shares out).0 ≡ over (writers.record_of w n t deals pairs reports shares) out))
    (number_of (writers.writing w n t deals pairs reports shares out).1)
    (writers.writing w n t deals pairs reports shares out).0
unfolding writers.writing
writes w n t deals pairs reports shares out =
    guarded out (λ a. number_of (writers.written_by a new end out).1) (λ a. (writers.written_by a new end out).0)
    (λ a. ((writers.written_by a new end out).1 ≡ Ok (whole_length w n t)) × ((writers.written_by a new end out).0 ≡ new))
    (record { numbered = λ why. refl; unchanged = λ why. refl }) []
    (against WrongSize (size-test n t) ∷ against WrongLength (lengths-test w n t deals pairs reports shares out) ∷ [])
    (λ all. (refl, (ap Ok (whole w n t), refl)))
  where
    new : List ℕ
    new = over (writers.record_of w n t deals pairs reports shares) out

    end : ℕ
    end = records.section_start w n t 4
