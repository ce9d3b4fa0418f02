-- "A table .. is loaded and checked before use": a lamp whose making was refused is refused at every call, whatever calls came before.
--   bad-at-every-call
use mathlib.Core.Path.{◌≡◌, refl, sym, ap, subst, ◌∙◌}
use mathlib.Core.Logic.{⊎_elim}
use mathlib.Core.Option.{some}
use mathlib.Core.List.{List}
use Prim.Native.Nat.{ℕ, ◌≤◌}
use native.Mathlib.Omega.{arith}
use lib.Dec.{eqb}
use lib.ListN.{length, get_or, replicate}
use lib.Seq.{get_or-take}
use borrow.Author.Tests.{eqb-true, eqb-false, eq-eqb}
use Rattle.std.proofs.lemmas.Bool.{cases_Bool}
use Rattle.field.specs.declared.Width.{Width}
use Rattle.field.specs.Modulus.{prime_of}
use Rattle.parties.proofs.Parties.{sizes-facts, party-true}
use Rattle.tables.specs.Tables.{point_at, is_table}
use Rattle.tables.proofs.Tables.{table-facts, point-not-zero, kept-front, kept-not}
use Rattle.answers.specs.Refusals.{refusal_number, lowest, Admission, number_of}
use Rattle.lamp.specs.declared.Party.{Party}
use Rattle.lamp.specs.declared.Lamp.{Lamp}
use Rattle.lamp.specs.declared.Reply.{Reply}
use Rattle.lamp.specs.Lamp.{Valid, made_with, making_tests, make_with, table_of, Call, take_deal, say_pair, hear_pairs, settle, open_shares, tests}
use Rattle.lamp.specs.Lamp.{step, after}
use Rattle.lamp.proofs.Checks.{Passed, passed}
use Rattle.lamp.proofs.Calls.{step-refused, make-admitted}
use Rattle.agreement.proofs.Rows.{none-some}
use Rattle.agreement.proofs.Sentences.{same_party}
use Rattle.std.specs.Prelude.{Ok, Err}

-- A call that no test refuses has a valid party.
passed-valid : (l : Lamp) (c : Call) → Passed l c → Valid l.party
passed-valid l (take_deal w d) h = h.0
passed-valid l (say_pair j) h = h.0
passed-valid l (hear_pairs w hs) h = h.0
passed-valid l (settle rs) h = h.0
passed-valid l (open_shares w xs) h = h.0

module _ (w : Width) (n t i : ℕ) (T : List ℕ) where
  abbrev a : Party
  a = (made_with w n t i T).party

  abbrev p : ℕ
  p = prime_of w

  first-zero : 1 ≤ n → a.table ≡ replicate 16 0 → point_at (table_of a) 1 ≡ 0
  unfolding point_at
  first-zero h zeros = get_or-take n a.table 0 0 (omega arith) ∙ ap (λ l. get_or l 0 0) zeros

  -- A party that is valid was lent n numbers: otherwise its points are zeros.
  right-length : Valid a → length T ≡ n
  right-length v =
      let size = sizes-facts n t v.size in
      ⊎_elim
      (λ e. eqb-true (length T) n e)
      (λ e.
      let zeros : a.table ≡ replicate 16 0 = sym (kept-not n T size.3 (eqb-false (length T) n e)) in
      absurd (point-not-zero p n (table_of a) (table-facts p n (table_of a) v.table) 1 (party-true n 1 (omega arith) (omega arith))
      (first-zero (omega arith) zeros)))
      (cases_Bool (eqb (length T) n))

  -- So its making was not refused.
  made-passes : Valid a → lowest (making_tests a T) ≡ Ok tt
  made-passes v =
      let size = sizes-facts n t v.size in
      let same = right-length v in
      rw (
        v.size,
        v.party,
        eq-eqb (length T) n same,
        ap (is_table p n) (sym (kept-front n T size.3 same)) ∙ v.table,
      )

  -- Whatever calls come after a making that was refused, every one of them is refused.
  pub bad-at-every-call : (k : ℕ) → number_of (make_with w n t i T).answer ≡ some k → (cs : List Call) (c : Call)
      → (j : ℕ) × (number_of (step (after (made_with w n t i T) cs) c).answer ≡ some j)
  bad-at-every-call k bad cs c = go (lowest (tests l c)) refl
    where
      l : Lamp
      l = after (made_with w n t i T) cs

      go : (found : Admission) → lowest (tests l c) ≡ found → (j : ℕ) × (number_of (step l c).answer ≡ some j)
      go (Err why) e = (refusal_number why, ap (λ (r : Reply). number_of r.answer) (sym (step-refused l c e)))
      go (Ok tt) e =
          let v : Valid a = subst Valid (same_party (made_with w n t i T) refl cs).0 (passed-valid l c (passed l c e)) in
          absurd (none-some _ k (ap (λ (r : Reply). number_of r.answer) (sym (make-admitted w n t i T (made-passes v)))) bad)
