-- Demand 1, one type: every call, at every state and with every argument, gives the first number that applies, and none otherwise; and
-- what it leaves is said whole. The rows below stand for lines of the protocol's "What is refused", with the state's and the call's own
-- numbers, in the protocol's order: the lowest first, but for 18, right after 2, and 14, right after 3.
--   Rows X                     rows of a number, when it applies, and what it leaves; in the order in which they are looked at
--   Follows R done o x         the answer o is the first number of R that applies, and x is what that leaves; else none, and `done` holds
--   Replies R done r           the same of a lamp's reply
--   Sizes, Among, Lengths      the protocol's sizes and numbers, and the lengths of a record's lists
--   dealt, reported, Fresh     the lamp that a deal or a hearing leaves, and one as made; that of a settling is demand 2's `standing`
--   refusals l c               the rows of a lamp's call; NoTable, NoColumnFits, NoOpeningFits: when 14, 9 and 10 apply
--   Sound p T i row column     party i's deal is sound, by its point in the table T; IsSound l: the lamp's is
--   point_in l j               party j's point, as the lamp l has it; row_at, column_at: its row and its column there
--   Says l j a                 the answer a is the lamp's pair for j; SaysNothing l a: both its numbers are "not sent", which a sender of
--                              the width w writes as `unsent w`
--   Confirms, Reports          what a one in a report says, and which report is given
--   AcceptedSays l c r         what the reply r to an accepted call says, beside demand 2
--   making_refusals, desk_refusals, reader_refusals, writer_refusals   the rows of the other calls
--   Reads bytes w n r          the answer r of a record's reader that takes the width w and n; what a record is: Records
--   Demand1                    the demand, for every lamp and desk of either width, with any table
use Rattle.std.specs.Prelude.{◌≡◌, ◌⊎◌, ◌↔◌, true, false, List, [], ◌∷◌, ℕ, suc, ◌+◌, ◌*◌, ◌-◌, ◌^◌, ◌≤◌, ◌<◌, length, get_or, replicate}
use Rattle.std.specs.Prelude.{Ok}
use Rattle.std.proofs.Math.Option.{Option, none, some}
use Rattle.lists.specs.Tabulate.{pad}
use Rattle.field.specs.declared.Width.{Width}
use Rattle.field.specs.declared.Width.TheVariants.{Narrow, Wide}
use Rattle.field.specs.Modulus.{prime_of}
use Rattle.polynomial.specs.Polynomial.{Residues, value}
use Rattle.happy.specs.Happy.{happy_set}
use Rattle.parties.specs.Parties.{member, entry}
use Rattle.tables.specs.Tables.{point_at, IsTable}
use Rattle.record.specs.Bytes.{over}
use Rattle.record.specs.Record as records
use Rattle.record.specs.Record.{Reading, fine}
use Rattle.writer.specs.Writer as writers
use Rattle.answers.specs.declared.Stage.TheVariants.{Waiting, Dealt, Reported, Holding, Closed}
use Rattle.consistency.specs.Deal.{first_from, second_from}
use Rattle.lamp.specs.declared.Lamp.{Lamp}
use Rattle.lamp.specs.declared.Reply.{Reply}
use Rattle.answers.specs.Refusals.{number_of}
use Rattle.answers.specs.Answers.{Answered}
use Rattle.lamp.specs.Lamp.{made_with, its_prime, row_of_lamp, column_of_lamp, Call, take_deal, say_pair, hear_pairs, settle, open_shares}
use Rattle.lamp.specs.Lamp.{step, make_with}
use Rattle.agreement.specs.Setting.{Setting, setting, prime, terms, desk_for}
use Rattle.agreement.specs.Demand2.{FewAgree, its_points, FitsHeard, FitsShares, standing}
use Rattle.agreement.specs.Demand3.{Gives}
use Rattle.agreement.specs.Records.{IsLaid, whole_length}

-- ---- "The lowest number that applies is given, and none otherwise", 18 "right after 2", 14 "right after 3"

-- A number, when it applies, and what it leaves.
abbrev pub Rows : Type 0 → Type 1
Rows X = List (ℕ × Type 0 × X)

abbrev pub Follows : {X : Type 0} → Rows X → Type 0 → Option ℕ → X → Type 0
Follows [] done o x = (o ≡ none) × done
Follows ((k, applies, left) ∷ more) done o x = (applies × (o ≡ some k) × (x ≡ left)) ⊎ ((applies → ⊥) × Follows more done o x)

-- The same of a lamp's reply.
abbrev pub Replies : Rows Lamp → (Reply → Type 0) → Reply → Type 0
Replies R done r = Follows R (done r) (number_of r.answer) r.lamp

-- ---- the caller's part: sizes, numbers

-- "t is 1 to 3; n is 4t+1 to 16"
pub record Sizes (n t : ℕ) : Type 0 where
  pub some_faulty : 1 ≤ t
  pub few_faulty : t ≤ 3
  pub enough : 4 * t + 1 ≤ n
  pub few : n ≤ 16

-- "1 to n"
pub record Among (n i : ℕ) : Type 0 where
  pub from_one : 1 ≤ i
  pub to_n : i ≤ n

-- ---- what is left

-- The very lamp, dealt a row and a column, and having heard first numbers and reported; every other field as it was.
abbrev pub dealt : Lamp → List ℕ → List ℕ → Lamp
dealt l row column = record {
  party = l.party;
  sharing = record {
    stage = Dealt;
    row = row;
    column = column;
    heard = l.sharing.heard;
    report = l.sharing.report;
    happy = l.sharing.happy;
    share = l.sharing.share;
  };
}

abbrev pub reported : Lamp → List ℕ → ℕ → Lamp
reported l heard report = record {
  party = l.party;
  sharing = record {
    stage = Reported;
    row = l.sharing.row;
    column = l.sharing.column;
    heard = heard;
    report = report;
    happy = l.sharing.happy;
    share = l.sharing.share;
  };
}

-- A lamp as made: of the width asked for, waiting, share 0, no happy set, and the table with zeros behind it, or zeros alone, which are
-- none, for one of another length.
pub record Fresh (w : Width) (n t i : ℕ) (T : List ℕ) (l : Lamp) : Type 0 where
  pub same-width : l.party.width ≡ w
  pub same_n : l.party.n ≡ n
  pub same_t : l.party.t ≡ t
  pub same_number : l.party.number ≡ i
  pub waiting : l.sharing.stage ≡ Waiting
  pub no_share : l.sharing.share ≡ 0
  pub no_set : l.sharing.happy ≡ 0
  pub same_table : n ≤ 16 → length T ≡ n → its_points l ≡ T
  pub zeros_behind : n ≤ 16 → length T ≡ n → l.party.table ≡ pad 16 T
  pub no_table : ((n ≤ 16) × (length T ≡ n) → ⊥) → l.party.table ≡ replicate 16 0

-- "every number is below 65,521 and the row at i equals the column at i", i standing for party i's point and 65,521 for the prime
pub record Sound (p : ℕ) (T : List ℕ) (i : ℕ) (row column : List ℕ) : Type 0 where
  pub row_below : Residues p row
  pub column_below : Residues p column
  pub crossing : value p row (point_at T i) ≡ value p column (point_at T i)

-- Party j's point, as the lamp l has it.
abbrev pub point_in : Lamp → ℕ → ℕ
point_in l j = point_at (its_points l) j

-- Its row and its column there.
abbrev pub row_at : Lamp → ℕ → ℕ
row_at l j = value (its_prime l.party) (row_of_lamp l) (point_in l j)

abbrev pub column_at : Lamp → ℕ → ℕ
column_at l j = value (its_prime l.party) (column_of_lamp l) (point_in l j)

-- ---- a lamp's calls

-- No column fits what an unhappy lamp heard from the happy ones; no opening fits, the lamp's own share in its own place.
abbrev pub NoColumnFits : Lamp → ℕ → Type 0
NoColumnFits l S = (member S l.party.number ≡ false) × ((f : List ℕ) → FitsHeard l S f → ⊥)

abbrev pub NoOpeningFits : Lamp → List ℕ → Type 0
NoOpeningFits l xs = (f : List ℕ) → FitsShares l xs f → ⊥

-- 14, right after 3: the lamp's points are no table.
abbrev pub NoTable : Lamp → Type 0
NoTable l = IsTable (its_prime l.party) l.party.n (its_points l) → ⊥

abbrev pub refusals : Lamp → Call → Rows Lamp
refusals l (take_deal w d) =
    (1, Sizes l.party.n l.party.t → ⊥, l)
    ∷ (2, Among l.party.n l.party.number → ⊥, l)
    ∷ (18, w ≡ l.party.width → ⊥, l)
    ∷ (3, length d ≡ 2 * suc l.party.t → ⊥, l)
    ∷ (14, NoTable l, l)
    ∷ (4, l.sharing.stage ≡ Waiting → ⊥, l)
    ∷ []
refusals l (say_pair j) =
    (1, Sizes l.party.n l.party.t → ⊥, l)
    ∷ (2, Among l.party.n l.party.number → ⊥, l)
    ∷ (2, Among l.party.n j → ⊥, l)
    ∷ (14, NoTable l, l)
    ∷ (4, l.sharing.stage ≡ Waiting, l)
    ∷ []
refusals l (hear_pairs w hs) =
    (1, Sizes l.party.n l.party.t → ⊥, l)
    ∷ (2, Among l.party.n l.party.number → ⊥, l)
    ∷ (18, w ≡ l.party.width → ⊥, l)
    ∷ (3, length hs ≡ 2 * l.party.n → ⊥, l)
    ∷ (14, NoTable l, l)
    ∷ (4, l.sharing.stage ≡ Dealt → ⊥, l)
    ∷ []
refusals l (settle rs) =
    (1, Sizes l.party.n l.party.t → ⊥, l)
    ∷ (2, Among l.party.n l.party.number → ⊥, l)
    ∷ (3, length rs ≡ l.party.n → ⊥, l)
    ∷ (14, NoTable l, l)
    ∷ (4, l.sharing.stage ≡ Reported → ⊥, l)
    ∷ (7, entry rs l.party.number ≡ l.sharing.report → ⊥, l)
    ∷ (8, FewAgree l.party.n l.party.t rs, standing l Closed 0 0)
    ∷ (9, NoColumnFits l (happy_set rs), standing l Closed (happy_set rs) 0)
    ∷ []
refusals l (open_shares w xs) =
    (1, Sizes l.party.n l.party.t → ⊥, l)
    ∷ (2, Among l.party.n l.party.number → ⊥, l)
    ∷ (18, w ≡ l.party.width → ⊥, l)
    ∷ (3, length xs ≡ l.party.n → ⊥, l)
    ∷ (14, NoTable l, l)
    ∷ (4, l.sharing.stage ≡ Holding → ⊥, l)
    ∷ (10, NoOpeningFits l xs, l)
    ∷ []

-- The lamp's deal is sound.
abbrev pub IsSound : Lamp → Type 0
IsSound l = Sound (its_prime l.party) (its_points l) l.party.number (row_of_lamp l) (column_of_lamp l)

-- "a sender writes 65,535", and of wider numbers "a sender writes 4,294,967,295".
abbrev pub unsent : Width → ℕ
unsent Narrow = 65535
unsent Wide = 4294967295

-- "Both numbers are" that.
abbrev pub SaysNothing : Lamp → Answered → Type 0
SaysNothing l a = Gives a (unsent l.party.width ∷ unsent l.party.width ∷ [])

-- The pair for lamp j: nothing for itself or with an unsound deal, else row at j, column at j.
pub record Says (l : Lamp) (j : ℕ) (a : Answered) : Type 0 where
  pub itself : l.party.number ≡ j → SaysNothing l a
  pub unsound : (IsSound l → ⊥) → SaysNothing l a
  pub sound : (l.party.number ≡ j → ⊥) → IsSound l → Gives a (row_at l j ∷ column_at l j ∷ [])

-- "j is another lamp, its deal is sound, j's first number equals its column at j, and j's second equals its row at j"
pub record Confirms (l : Lamp) (hs : List ℕ) (j : ℕ) : Type 0 where
  pub other : l.party.number ≡ j → ⊥
  pub soundly : IsSound l
  pub first_right : first_from hs j ≡ column_at l j
  pub second_right : second_from hs j ≡ row_at l j

-- The report on the pairs hs: bit j−1 is one exactly so, and no bit stands behind the last lamp's.
pub record Reports (l : Lamp) (hs : List ℕ) (report : ℕ) : Type 0 where
  pub within : report < 2 ^ l.party.n
  pub bits : (j : ℕ) → Among l.party.n j → (member report j ≡ true) ↔ Confirms l hs j

-- What an accepted call answers, and that it changes no field but those that demand 2 speaks of.
abbrev pub AcceptedSays : Lamp → Call → Reply → Type 0
AcceptedSays l (take_deal w d) r = let x = r.lamp.sharing in Gives r.answer [] × (r.lamp ≡ dealt l x.row x.column)
AcceptedSays l (say_pair j) r = Says l j r.answer × (r.lamp ≡ l)
AcceptedSays l (hear_pairs w hs) r = let x = r.lamp.sharing in
    Gives r.answer (x.report ∷ []) × (r.lamp ≡ reported l x.heard x.report) × Reports l hs x.report
AcceptedSays l (settle rs) r = let x = r.lamp.sharing in Gives r.answer [] × (r.lamp ≡ standing l Holding x.happy x.share)
AcceptedSays l (open_shares w xs) r = r.lamp ≡ l

-- ---- the other calls
-- A making and the desk are of a width by themselves, so that there is no 18.
abbrev pub making_refusals : Width → ℕ → ℕ → ℕ → List ℕ → Rows Lamp
making_refusals w n t i T =
    (1, Sizes n t → ⊥, made_with w n t i T)
    ∷ (2, Among n i → ⊥, made_with w n t i T)
    ∷ (3, length T ≡ n → ⊥, made_with w n t i T)
    ∷ (14, IsTable (prime_of w) n T → ⊥, made_with w n t i T)
    ∷ []

abbrev pub desk_refusals : Setting → List ℕ → List ℕ → Rows (List ℕ)
desk_refusals s F out =
    (1, Sizes s.n s.t → ⊥, out)
    ∷ (3, length F ≡ terms s * terms s → ⊥, out)
    ∷ (3, length out ≡ s.n * (2 * terms s) → ⊥, out)
    ∷ (3, length s.table ≡ s.n → ⊥, out)
    ∷ (14, IsTable (prime s) s.n s.table → ⊥, out)
    ∷ (5, Residues (prime s) F → ⊥, out)
    ∷ []

-- "Under 2 bytes the refusal is 6; from 2 on, size (1) is tested before 6." By the width and the sizes that the reader takes.
abbrev pub reader_refusals : Width → ℕ → ℕ → List ℕ → Rows (List ℕ)
reader_refusals w n t bytes =
    (6, 2 ≤ length bytes → ⊥, bytes)
    ∷ (1, Sizes n t → ⊥, bytes)
    ∷ (6, IsLaid w n t bytes → ⊥, bytes)
    ∷ []

-- A reader that takes the width w, n and byte 1 for t answers r about these bytes.
abbrev pub Reads : List ℕ → Width → ℕ → Reading → Type 0
Reads bytes w n r = let t = get_or bytes 1 0 in
    Follows (reader_refusals w n t bytes) (Sizes n t × IsLaid w n t bytes × (r ≡ fine w n t)) (number_of r) bytes

-- The four lists of a record of the width w, and room for it.
pub record Lengths (w : Width) (n t : ℕ) (deals pairs reports shares out : List ℕ) : Type 0 where
  pub first : length deals ≡ 2 * n * (t + 1)
  pub second : length pairs ≡ 2 * n * n
  pub third : length reports ≡ n
  pub fourth : length shares ≡ n
  pub room : whole_length w n t ≤ length out

abbrev pub writer_refusals : Width → ℕ → ℕ → List ℕ → List ℕ → List ℕ → List ℕ → List ℕ → Rows (List ℕ)
writer_refusals w n t deals pairs reports shares out =
    (1, Sizes n t → ⊥, out)
    ∷ (3, Lengths w n t deals pairs reports shares out → ⊥, out)
    ∷ []

-- DEMAND 1, for either width, at every state (its array of numbers heard has sixteen) and with every argument.
pub record Demand1 : Type 0 where
  pub makes : (w : Width) (n t i : ℕ) (T : List ℕ)
      → Replies (making_refusals w n t i T) (λ r. Gives r.answer [] × (r.lamp ≡ made_with w n t i T)) (make_with w n t i T)
  pub fresh : (w : Width) (n t i : ℕ) (T : List ℕ) → Fresh w n t i T (made_with w n t i T)
  pub calls : (l : Lamp) → length l.sharing.heard ≡ 16 → (c : Call) → Replies (refusals l c) (AcceptedSays l c) (step l c)
  pub deals : (w : Width) (n t : ℕ) (T F out : List ℕ) → let s = setting w n t T in let r = desk_for s F out in
      Follows (desk_refusals s F out) (length r.0 ≡ length out) (number_of r.1) r.0
  -- Below 128 byte 0 is n; "A wide record has 128 added to byte 0".
  pub reads : (bytes : List ℕ) → get_or bytes 0 0 < 128 → Reads bytes Narrow (get_or bytes 0 0) (records.reading bytes)
  pub reads_wide : (bytes : List ℕ) → 128 ≤ get_or bytes 0 0 → Reads bytes Wide (get_or bytes 0 0 - 128) (records.reading bytes)
  -- "A reader that knows narrow records alone takes byte 0 for n, so a wide record is a wrong size (1) to it."
  pub reads_old : (bytes : List ℕ) → Reads bytes Narrow (get_or bytes 0 0) (records.reading_narrow bytes)
  pub writes : (w : Width) (n t : ℕ) (deals pairs reports shares out : List ℕ)
      → let r = writers.writing w n t deals pairs reports shares out in
      Follows (writer_refusals w n t deals pairs reports shares out)
      ((r.1 ≡ Ok (whole_length w n t)) × (r.0 ≡ over (writers.record_of w n t deals pairs reports shares) out))
      (number_of r.1) r.0
