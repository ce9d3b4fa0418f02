-- The lamp (docs/PROTOCOL.md, "A lamp"): one party's state and its calls, refused or not, at every state.
--   made_with w n t i T  the lamp as made with the table T, for numbers of the width w; made w n t i: without one
--   waiting w n t i a    a lamp that nothing was done with, with its table in the array a
--   its_prime a          the prime that the party a computes with; table_of a: the points of the parties, as it has them
--   Valid a              the party's size, number and table are the protocol's
--   Call, tests l c      a call, and what it is looked at for, in the order of the refusals; party_tests, width_tests, state_tests, lent_tests:
--                        parts of that
--   making_tests a T     what a making is looked at for; kept_tests: the same by the table that is kept
--   settled l S          what settling with the happy set S gives
--   outcome l c          the reply to a call that no test refuses; step l c: the reply to any call
--   after l cs           the lamp after a list of calls
--   make_with, make      the reply to a making, with a table and without
-- Laws: proofs/Calls, proofs/Checks, proofs/Outcomes.
use Rattle.std.specs.Prelude.{◌≡◌, Bool, true, cond, not, List, [], ◌∷◌, ◌++◌, ℕ, suc, ◌*◌, ◌-◌, eqb, leb, length, take, replicate}
use Rattle.std.proofs.Math.Option.{Option, none, some}
use Rattle.std.specs.Int.Count.{ones}
use Rattle.lists.specs.Tabulate.{tabulate, pad}
use Rattle.field.specs.declared.Width.{Width}
use Rattle.field.specs.Modulus.{prime_of, same_width}
use Rattle.happy.specs.Happy.{happy_set}
use Rattle.parties.specs.Parties.{sizes, is_party, member, entry}
use Rattle.tables.specs.Tables.{one_to, is_table, table_tests, in_array}
use Rattle.consistency.specs.Deal.{row_of, column_of, first_from, pair_for, report_of}
use Rattle.recovery.specs.Recovery.{repair, opening_with}
use Rattle.answers.specs.declared.Stage.{Stage}
use Rattle.answers.specs.declared.Stage.TheVariants.{Waiting, Dealt, Reported, Holding, Closed}
use Rattle.answers.specs.declared.Refusal.{Refusal}
use Rattle.answers.specs.declared.Refusal.TheVariants.{WrongSize, WrongNumber, WrongLength, WrongStage, AlteredReport, DealerRejected}
use Rattle.answers.specs.declared.Refusal.TheVariants.{NoColumn, NoOpening, WrongTable, WrongWidth}
use Rattle.answers.specs.declared.Answer.TheVariants.{Done, Pair, Report, Accepted, Opened}
use Rattle.answers.specs.Refusals.{Test, lowest, Admission}
use Rattle.answers.specs.Answers.{stage_number, Answered}
use Rattle.answers.specs.Fits.{constant, Fitted}
use Rattle.lamp.specs.declared.Party.{Party}
use Rattle.lamp.specs.declared.Sharing.{Sharing}
use Rattle.lamp.specs.declared.Lamp.{Lamp}
use Rattle.lamp.specs.declared.Reply.{Reply}
use Rattle.std.specs.Prelude.{Some, None, Ok, Err}

-- A lamp that nothing was done with, with its table in an array.
abbrev pub waiting : Width → ℕ → ℕ → ℕ → List ℕ → Lamp
waiting w n t i array = record {
  party = record { n = n; t = t; number = i; width = w; table = array };
  sharing = record {
    stage = Waiting;
    row = replicate 4 0;
    column = replicate 4 0;
    heard = replicate 16 0;
    report = 0;
    happy = 0;
    share = 0;
  };
}

-- The lamp as made for a width, n, t and its number, with the table T.
abbrev pub made_with : Width → ℕ → ℕ → ℕ → List ℕ → Lamp
made_with w n t i T = waiting w n t i (in_array n T)

-- Without a table the points are 1 to n.
abbrev pub made : Width → ℕ → ℕ → ℕ → Lamp
made w n t i = made_with w n t i (one_to n)

-- A party computes with the prime of its width.
abbrev pub its_prime : Party → ℕ
its_prime a = prime_of a.width

-- The first n numbers of the array count.
abbrev pub table_of : Party → List ℕ
table_of a = take a.n a.table

-- The party's size, number and table are the protocol's.
pub record Valid (a : Party) : Type 0 where
  pub size : sizes a.n a.t ≡ true
  pub party : is_party a.n a.number ≡ true
  pub table : is_table (its_prime a) a.n (table_of a) ≡ true

-- ---- replies

abbrev pub reply : Lamp → Answered → Reply
reply l a = record { lamp = l; answer = a }

-- A refusal that leaves the lamp as it is.
abbrev pub refuse : Lamp → Refusal → Reply
refuse l why = reply l (Err why)

-- The reply r, unless the call is refused.
abbrev pub guard : Lamp → Admission → Reply → Reply
guard l (Ok tt) r = r
guard l (Err why) r = refuse l why

-- ---- the tests

-- 1 and 2, asked of the party alone.
abbrev pub party_tests : Party → List Test
party_tests a = (sizes a.n a.t, WrongSize) ∷ (is_party a.n a.number, WrongNumber) ∷ []

-- 18, right after 2: whether the call is of the party's own width.
abbrev pub width_tests : Width → Party → List Test
width_tests w a = (same_width w a.width, WrongWidth) ∷ []

-- 14, whether the points are a table; and 4, whether the stage takes the call.
abbrev pub state_tests : Party → Bool → List Test
state_tests a takes = (is_table (its_prime a) a.n (table_of a), WrongTable) ∷ (takes, WrongStage) ∷ []

-- Before these, of a call that is lent a list: 3, whether it fits.
abbrev pub lent_tests : Party → Bool → Bool → List Test
lent_tests a fits takes = (fits, WrongLength) ∷ state_tests a takes

-- A making is lent the table.
abbrev pub making_tests : Party → List ℕ → List Test
making_tests a T = party_tests a ++ table_tests (its_prime a) a.n T

-- The same, asked of the table that the party keeps, which was lent in the right length or not.
abbrev pub kept_tests : Party → Bool → List Test
kept_tests a fits = party_tests a ++ (fits, WrongLength) ∷ (is_table (its_prime a) a.n (table_of a), WrongTable) ∷ []

-- The sharing is at this stage.
abbrev pub is_at : Stage → Sharing → Bool
is_at s x = eqb (stage_number x.stage) (stage_number s)

-- ---- the dealt row and column, which stay as dealt after a repair and when closed

abbrev pub row_of_lamp : Lamp → List ℕ
row_of_lamp l = take (suc l.party.t) l.sharing.row

abbrev pub column_of_lamp : Lamp → List ℕ
column_of_lamp l = take (suc l.party.t) l.sharing.column

-- ---- 1. taking a deal

-- The lamp with this row and column, each in an array.
abbrev pub with_row_and_column : Lamp → List ℕ → List ℕ → Lamp
with_row_and_column l row column = record {
  party = l.party;
  sharing = record {
    stage = Dealt;
    row = row;
    column = column;
    heard = l.sharing.heard;
    report = l.sharing.report;
    happy = l.sharing.happy;
    share = l.sharing.share;
  };
}

unfoldable pub with_deal : Lamp → List ℕ → Lamp
with_deal l d = with_row_and_column l (pad 4 (row_of l.party.t d)) (pad 4 (column_of l.party.t d))

-- ---- 2. saying the pair for party j

unfoldable pub said_pair : Lamp → ℕ → ℕ × ℕ
said_pair l j = pair_for (its_prime l.party) (table_of l.party) l.party.number (row_of_lamp l) (column_of_lamp l) j

-- ---- 3. hearing n pairs

-- The first numbers of n pairs.
abbrev pub firsts : ℕ → List ℕ → List ℕ
firsts n hs = tabulate (λ k. first_from hs (suc k)) n

unfoldable pub report_from : Lamp → List ℕ → ℕ
report_from l hs =
    report_of (its_prime l.party) l.party.n (table_of l.party) l.party.number (row_of_lamp l) (column_of_lamp l) hs

-- The lamp with the first numbers heard, in an array, and its report.
abbrev pub with_report : Lamp → List ℕ → ℕ → Lamp
with_report l heard bits = record {
  party = l.party;
  sharing = record {
    stage = Reported;
    row = l.sharing.row;
    column = l.sharing.column;
    heard = heard;
    report = bits;
    happy = l.sharing.happy;
    share = l.sharing.share;
  };
}

unfoldable pub with_pairs : Lamp → List ℕ → Lamp
with_pairs l hs = with_report l (pad 16 (firsts l.party.n hs)) (report_from l hs)

-- ---- 4. settling

-- The lamp at its last stage, with its happy set and its share.
unfoldable pub at_end : Lamp → Stage → ℕ → ℕ → Lamp
at_end l s S v = record {
  party = l.party;
  sharing = record {
    stage = s;
    row = l.sharing.row;
    column = l.sharing.column;
    heard = l.sharing.heard;
    report = l.sharing.report;
    happy = S;
    share = v;
  };
}

-- A party outside the happy set holds the constant of its repaired column; where none fits it is closed with 9.
abbrev pub repaired : Lamp → ℕ → Option (List ℕ) → Reply
repaired l S none = reply (at_end l Closed S 0) (Err NoColumn)
repaired l S (some f) = reply (at_end l Holding S (constant f)) (Ok Accepted)

-- The same by what the repair answers; of legal sizes and a happy set it is not refused.
abbrev pub repaired_by : Lamp → ℕ → Fitted → Reply
repaired_by l S (Ok (Some f)) = reply (at_end l Holding S (constant f)) (Ok Accepted)
repaired_by l S (Ok None) = reply (at_end l Closed S 0) (Err NoColumn)
repaired_by l S (Err why) = refuse l why

-- Below n − t ones the dealer is rejected; a happy party's share is its column's constant.
unfoldable pub settled : Lamp → ℕ → Reply
settled l S =
    let column = repair (its_prime l.party) l.party.n l.party.t (table_of l.party) S l.sharing.heard in
    let mended = repaired l S column in
    cond (leb (l.party.n - l.party.t) (ones S))
    (cond (member S l.party.number) (reply (at_end l Holding S (constant (column_of_lamp l))) (Ok Accepted)) mended)
    (reply (at_end l Closed 0 0) (Err DealerRejected))

-- ---- 5. opening

-- The polynomial that the published shares open, the lamp's own share in its own place.
unfoldable pub opening : Lamp → List ℕ → Option (List ℕ)
opening l xs =
    let a = l.party in
    opening_with (its_prime a) a.t (table_of a) a.number l.sharing.share xs

abbrev pub opened : Lamp → Option (List ℕ) → Reply
opened l none = refuse l NoOpening
opened l (some f) = reply l (Ok (Opened (constant f)))

-- The same by what the opening answers.
abbrev pub opened_by : Lamp → Fitted → Reply
opened_by l (Ok (Some f)) = reply l (Ok (Opened (constant f)))
opened_by l (Ok None) = refuse l NoOpening
opened_by l (Err why) = refuse l why

-- ---- the calls

-- A call, with the list that is lent or the party that a pair is asked for. One that is lent numbers of the field is of a width: 16-bit
-- numbers, or 32-bit ones.
pub data Call : Type 0 where
  take_deal : Width → List ℕ → Call
  say_pair : ℕ → Call
  hear_pairs : Width → List ℕ → Call
  settle : List ℕ → Call
  open_shares : Width → List ℕ → Call

-- What a call is looked at for.
abbrev pub tests : Lamp → Call → List Test
tests l (take_deal w d) =
    let a = l.party in
    party_tests a ++ width_tests w a ++ lent_tests a (eqb (length d) (2 * suc a.t)) (is_at Waiting l.sharing)
tests l (say_pair j) =
    let a = l.party in
    party_tests a ++ (is_party a.n j, WrongNumber) ∷ state_tests a (not (is_at Waiting l.sharing))
tests l (hear_pairs w hs) =
    let a = l.party in
    party_tests a ++ width_tests w a ++ lent_tests a (eqb (length hs) (2 * a.n)) (is_at Dealt l.sharing)
tests l (settle rs) =
    let a = l.party in
    party_tests a ++ lent_tests a (eqb (length rs) a.n) (is_at Reported l.sharing)
tests l (open_shares w xs) =
    let a = l.party in
    party_tests a ++ width_tests w a ++ lent_tests a (eqb (length xs) a.n) (is_at Holding l.sharing)

-- The reply where every test passes.
abbrev pub outcome : Lamp → Call → Reply
outcome l (take_deal w d) = reply (with_deal l d) (Ok Done)
outcome l (say_pair j) = reply l (Ok (Pair (said_pair l j).0 (said_pair l j).1))
outcome l (hear_pairs w hs) = reply (with_pairs l hs) (Ok (Report (report_from l hs)))
outcome l (settle rs) =
    let done = settled l (happy_set rs) in
    cond (eqb (entry rs l.party.number) l.sharing.report) done (refuse l AlteredReport)
outcome l (open_shares w xs) = opened l (opening l xs)

-- One call.
unfoldable pub step : Lamp → Call → Reply
step l c = let r = outcome l c in guard l (lowest (tests l c)) r

-- The lamp as made, unless it is refused, with a state all the same.
abbrev pub made_by : Lamp → Admission → Reply
made_by l a = guard l a (reply l (Ok Done))

-- Making: 1 or 2 for a bad size or number, 3 or 14 for a bad table, with a state all the same.
unfoldable pub make_with : Width → ℕ → ℕ → ℕ → List ℕ → Reply
make_with w n t i T = let l = made_with w n t i T in made_by l (lowest (making_tests l.party T))

-- Without a table.
abbrev pub make : Width → ℕ → ℕ → ℕ → Reply
make w n t i = make_with w n t i (one_to n)

-- The lamp after a list of calls.
abbrev pub after : Lamp → List Call → Lamp
after l [] = l
after l (c ∷ cs) = after (step l c).lamp cs
