-- One lamp and the list that brings it its deal, its pairs and its reports: the lamp at each point of the list, and its replies.
--   Ready s i         what is asked of lamp i: sizes, its number, and a table; made_table: then it has the setting's table
--   dealt, reported   the lamp after its deal and after its pairs; since-settling: after its reports
use mathlib.Core.Path.{◌≡◌, refl, sym, ap, ap₂, ◌∙◌}
use mathlib.Core.Bool.{true, false, ◌&&◌, and-false, and-true}
use mathlib.Core.List.{List, ◌∷◌, ◌++◌}
use Prim.Native.Nat.{ℕ, suc, ◌*◌, ◌-◌}
use native.Mathlib.Omega.{arith}
use lib.Dec.{eqb}
use lib.ListN.{length, take, replicate, length-drop}
use lib.Seq.{take_at, length-take-le}
use borrow.Author.Tests.{eq-eqb}
use Rattle.happy.specs.Happy.{happy_set}
use Rattle.parties.specs.Parties.{sizes, is_party, entry}
use Rattle.parties.proofs.Parties.{sizes-facts}
use Rattle.tables.specs.Tables.{IsTable, is_table}
use Rattle.tables.proofs.Tables.{table-true, kept-front}
use Rattle.answers.specs.declared.Stage.TheVariants.{Waiting}
use Rattle.answers.specs.declared.Answer.TheVariants.{Done, Pair, Report}
use Rattle.lamp.specs.declared.Party.{Party}
use Rattle.lamp.specs.declared.Lamp.{Lamp}
use Rattle.lamp.specs.declared.Reply.{Reply}
use Rattle.consistency.specs.Deal.{pair_for, report_of}
use Rattle.lamp.specs.Lamp.{Valid, its_prime, table_of, reply, is_at, row_of_lamp, column_of_lamp, with_deal, said_pair, with_pairs, report_from}
use Rattle.lamp.specs.Lamp.{settled, Call, take_deal, say_pair, hear_pairs, settle, open_shares, step, after}
use Rattle.agreement.specs.Setting.{Setting, prime, terms, dealt_row, dealt_column, pair_by, report_by, made_for, lamp_at, answer_at}
use Rattle.agreement.specs.Calls.{Run, to_deal, to_pairs, to_reports, since_deal, since_settling, Never, is_deal, is_hearing, is_settling}
use Rattle.agreement.specs.Demand3.{Brings}
use Rattle.agreement.proofs.Steps.{deal_fits, pairs_fit, awaited, fits, takes, hears, settles, pair-said, all_quiet, after-append}
use Rattle.agreement.proofs.Runs.{Kept, Late, kept-valid, after_kept, settled-kept, settled-late, late-awaits, never-all, never-map}
use Rattle.std.specs.Prelude.{Ok}

-- What is asked of the lamp: sizes, its number, and a table.
pub record Ready (s : Setting) (i : ℕ) : Type 0 where
  pub size : sizes s.n s.t ≡ true
  pub party : is_party s.n i ≡ true
  pub table : IsTable (prime s) s.n s.table

-- The lamp as made has the setting's table.
pub made_table : (s : Setting) (i : ℕ) → Ready s i → table_of (made_for s i).party ≡ s.table
made_table s i ready = kept-front s.n s.table (sizes-facts s.n s.t ready.size).3 ready.table.size

pub made-valid : (s : Setting) (i : ℕ) → Ready s i → Valid (made_for s i).party
made-valid s i ready = record {
  size = ready.size;
  party = ready.party;
  table = ap (is_table (prime s) s.n) (made_table s i ready) ∙ table-true (prime s) s.n s.table ready.table;
}

module _ (s : Setting) (i : ℕ) (ready : Ready s i) (cs : List Call) (r : Run) (b : Brings s i cs r) where
  abbrev d : List ℕ
  d = r.its_deal

  -- Its report.
  abbrev its : ℕ
  its = report_by s i d r.its_pairs

  -- ---- the lamp as made, until its deal
  abbrev pub start : Lamp
  start = made_for s i

  start-awaits : (c : Call) → is_deal s c ≡ false → awaited start c ≡ false
  start-awaits (take_deal w d) e = ap (λ z. z && true) e
  start-awaits (say_pair j) e = refl
  start-awaits (hear_pairs w hs) e = and-false (pairs_fit start w hs)
  start-awaits (settle rs) e = ap (λ z. z && eqb (entry rs i) 0) (and-false (eqb (length rs) s.n))
  start-awaits (open_shares w xs) e = refl

  pub start-never : Never (awaited start) (to_deal r)
  start-never = never-map (is_deal s) (awaited start) start-awaits (to_deal r) b.deal_first

  pub to-deal : lamp_at s i (to_deal r) ≡ start
  to-deal = all_quiet start (made-valid s i ready) (to_deal r) start-never

  -- ---- from its deal until its pairs
  abbrev pub dealt : Lamp
  dealt = with_deal start d

  pub deal-taken : step start (take_deal r.width d) ≡ reply dealt (Ok Done)
  deal-taken =
      takes start (made-valid s i ready) r.width d
      (ap (λ z. z && true) (fits r.width s.width b.own_width (length d) (2 * terms s) b.deal_length))

  pub dealt-valid : Valid dealt.party
  unfolding with_deal
  dealt-valid = made-valid s i ready

  dealt-started : is_at Waiting dealt.sharing ≡ false
  unfolding with_deal
  dealt-started = refl

  pub row-length : length (dealt_row s d) ≡ terms s
  row-length = length-take-le (terms s) d (omega (arith, b.deal_length))

  pub column-length : length (dealt_column s d) ≡ terms s
  column-length = length-drop (terms s) d ∙ omega (arith, b.deal_length)

  dealt-row : row_of_lamp dealt ≡ dealt_row s d
  unfolding with_deal
  dealt-row = take_at (dealt_row s d) (replicate (4 - length (dealt_row s d)) 0) (terms s) row-length

  pub dealt-column : column_of_lamp dealt ≡ dealt_column s d
  unfolding with_deal
  dealt-column = take_at (dealt_column s d) (replicate (4 - length (dealt_column s d)) 0) (terms s) column-length

  pub since-deal : (xs : List Call) → lamp_at s i (since_deal r xs) ≡ after dealt xs
  since-deal xs =
      after-append start (to_deal r) (take_deal r.width d ∷ xs)
      ∙ ap (λ l. after l (take_deal r.width d ∷ xs)) to-deal
      ∙ ap (λ (q : Reply). after q.lamp xs) deal-taken

  -- The pair at every saying from the deal on.
  pub kept_pair : (l : Lamp) → Kept dealt l → (j : ℕ) → said_pair l j ≡ pair_by s i d j
  unfolding said_pair with_deal
  kept_pair l k j =
      let rows : row_of_lamp l ≡ dealt_row s d = ap₂ (λ (a : Party) b. take (suc a.t) b) k.same_party k.same_row ∙ dealt-row in
      let columns : column_of_lamp l ≡ dealt_column s d =
      ap₂ (λ (a : Party) b. take (suc a.t) b) k.same_party k.same_column ∙ dealt-column in
      ap (λ (a : Party). pair_for (its_prime a) (table_of a) a.number (row_of_lamp l) (column_of_lamp l) j) k.same_party
      ∙ ap (λ T. pair_for (prime s) T i (row_of_lamp l) (column_of_lamp l) j) (made_table s i ready)
      ∙ ap₂ (λ a c. pair_for (prime s) s.table i a c j) rows columns

  pub says-pair : (xs : List Call) (j : ℕ) → is_party s.n j ≡ true
      → answer_at s i (since_deal r xs) (say_pair j) ≡ Ok (Pair (pair_by s i d j).0 (pair_by s i d j).1)
  unfolding with_deal
  says-pair xs j other =
      let l : Lamp = after dealt xs in
      let k : Kept dealt l = after_kept dealt xs dealt-valid dealt-started in
      ap (λ z. (step z (say_pair j)).answer) (since-deal xs)
      ∙ ap (λ (q : Reply). q.answer)
      (pair-said l (kept-valid dealt l k dealt-valid) j
      (ap (λ (a : Party). is_party a.n j) k.same_party ∙ other) k.started)
      ∙ ap (λ (q : ℕ × ℕ). (Ok (Pair q.0 q.1))) (kept_pair l k j)

  dealt-awaits : (c : Call) → is_hearing s c ≡ false → awaited dealt c ≡ false
  unfolding with_deal
  dealt-awaits (take_deal w e) h = and-false (deal_fits dealt w e)
  dealt-awaits (say_pair j) h = refl
  dealt-awaits (hear_pairs w hs) h = ap (λ z. z && true) h
  dealt-awaits (settle rs) h = ap (λ z. z && eqb (entry rs i) 0) (and-false (eqb (length rs) s.n))
  dealt-awaits (open_shares w xs) h = refl

  pub dealt-never : Never (awaited dealt) r.before_pairs
  dealt-never = never-map (is_hearing s) (awaited dealt) dealt-awaits r.before_pairs b.pairs_first

  pub to-pairs : lamp_at s i (to_pairs r) ≡ dealt
  to-pairs = since-deal r.before_pairs ∙ all_quiet dealt dealt-valid r.before_pairs dealt-never

  -- ---- from its pairs until its reports
  abbrev pub reported : Lamp
  reported = with_pairs dealt r.its_pairs

  hears-awaited : awaited dealt (hear_pairs r.width r.its_pairs) ≡ true
  unfolding with_deal
  hears-awaited =
      ap (λ z. z && true) (fits r.width s.width b.own_width (length r.its_pairs) (2 * s.n) b.pairs_length)

  pub report-is : report_from dealt r.its_pairs ≡ its
  unfolding report_from with_deal
  report-is =
      ap (λ T. report_of (prime s) s.n T i (row_of_lamp dealt) (column_of_lamp dealt) r.its_pairs) (made_table s i ready)
      ∙ ap₂ (λ a c. report_of (prime s) s.n s.table i a c r.its_pairs) dealt-row dealt-column

  pub pairs-heard : step dealt (hear_pairs r.width r.its_pairs) ≡ reply reported (Ok (Report its))
  pairs-heard = hears dealt dealt-valid r.width r.its_pairs hears-awaited ∙ ap (λ z. reply reported (Ok (Report z))) report-is

  pub reported-valid : Valid reported.party
  unfolding with_pairs with_deal
  reported-valid = made-valid s i ready

  reported-awaits : (c : Call) → is_settling s i its c ≡ false → awaited reported c ≡ false
  unfolding with_pairs with_deal
  reported-awaits (take_deal w e) h = and-false (deal_fits reported w e)
  reported-awaits (say_pair j) h = refl
  reported-awaits (hear_pairs w hs) h = and-false (pairs_fit reported w hs)
  reported-awaits (settle rs) h = ap₂ (λ a c. a && eqb (entry rs i) c) (and-true (eqb (length rs) s.n)) report-is ∙ h
  reported-awaits (open_shares w xs) h = refl

  pub since-pairs : (xs : List Call) → lamp_at s i (to_pairs r ++ hear_pairs r.width r.its_pairs ∷ xs) ≡ after reported xs
  since-pairs xs =
      after-append start (to_pairs r) (hear_pairs r.width r.its_pairs ∷ xs)
      ∙ ap (λ l. after l (hear_pairs r.width r.its_pairs ∷ xs)) to-pairs
      ∙ ap (λ (q : Reply). after q.lamp xs) pairs-heard

  pub reported-never : Never (awaited reported) r.before_reports
  reported-never = never-map (is_settling s i its) (awaited reported) reported-awaits r.before_reports b.reports_first

  pub to-reports : lamp_at s i (to_reports r) ≡ reported
  to-reports = since-pairs r.before_reports ∙ all_quiet reported reported-valid r.before_reports reported-never

  -- ---- from its reports on
  abbrev pub outcome : Reply
  outcome = settled reported (happy_set r.its_reports)

  settles-awaited : awaited reported (settle r.its_reports) ≡ true
  unfolding with_pairs with_deal
  settles-awaited =
      ap₂ (λ a c. (a && true) && c) (eq-eqb (length r.its_reports) s.n b.reports_length)
      (eq-eqb (entry r.its_reports i) (report_from dealt r.its_pairs) (b.reports_own ∙ sym report-is))

  pub settling : step reported (settle r.its_reports) ≡ outcome
  settling = settles reported reported-valid r.its_reports settles-awaited

  pub ended-valid : Valid outcome.lamp.party
  ended-valid = kept-valid reported outcome.lamp (settled-kept reported (happy_set r.its_reports)) reported-valid

  ended-late : Late outcome.lamp
  ended-late = settled-late reported (happy_set r.its_reports)

  pub ended-never : (cs : List Call) → Never (awaited outcome.lamp) cs
  ended-never = never-all (awaited outcome.lamp) (late-awaits outcome.lamp ended-late)

  -- The lamp that settled stays as it is.
  pub since-settling : (xs : List Call) → lamp_at s i (since_settling r xs) ≡ outcome.lamp
  since-settling xs =
      after-append start (to_reports r) (settle r.its_reports ∷ xs)
      ∙ ap (λ l. after l (settle r.its_reports ∷ xs)) to-reports
      ∙ ap (λ (q : Reply). after q.lamp xs) settling
      ∙ all_quiet outcome.lamp ended-valid xs (ended-never xs)
