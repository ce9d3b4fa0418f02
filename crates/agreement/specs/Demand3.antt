-- Demand 3, one type: the agreement of all honest lamps. Each record is a bullet of the protocol's "The lamps of demand 3", or a part of
-- one.
--   Execution          who is honest, the width that each lamp was made for and the table that it loaded, the calls of each, and the
--                      reports that all see
--   own s e i          the setting as lamp i has it, with its own width and table
--   Honest s e i       lamp i is one of the honest ones
--   Brings s i cs r    the list cs brings lamp i a deal, pairs and reports, as r has them
--   Premises s e       what demand 3 supposes; OneTable s e: and of tables; OneWidth s e: and of primes; HonestDealer s e F: and of an
--                      honest dealer
--   HearEachOther, SameReports   two of these: honest pairs are unaltered, and all see the same reports
--   Gives, Refuses     an answer's values, or its number
--   Speaks, Rejects, Accepts   what it concludes of each lamp; Stray: of a call that changes nothing; Stays: from settling to the end
--   OnF s e F, share_of s e j   the honest happy rows and columns lie on F; lamp j's share
--   ShareOrUnsent s e i ys   in ys each other honest lamp's place holds that lamp's share or a number that was not sent
--   honest_there s e i ys   how many honest shares are there where lamp i opens ys, its own among them
--   Called, opening_answer   after settling and some calls the list has a call to open; its answer
--   AllReject, AllAccept   what it concludes of all together; Conclusions: all of it
--   Demand3 w          the demand, for numbers of the width w and any table
use Rattle.std.specs.Prelude.{◌≡◌, ◌⊎◌, Bool, true, not, ◌&&◌, ◌||◌, List, [], ◌∷◌, ℕ, ◌+◌, ◌*◌, ◌≤◌, ◌<◌, ltb, eqb, length, get_or}
use Rattle.std.proofs.Math.Option.{none, some}
use Rattle.field.specs.declared.Width.{Width}
use Rattle.polynomial.specs.Polynomial.{Poly}
use Rattle.mutual.specs.Agreement.{agree}
use Rattle.happy.specs.Clique.{Largest}
use Rattle.happy.specs.Happy.{happy_set}
use Rattle.lists.specs.Choices.{count}
use Rattle.parties.specs.Parties.{sizes, is_party, parties, member, entry}
use Rattle.tables.specs.Tables.{IsTable}
use Rattle.dealer.specs.Desk as desks
use Rattle.answers.specs.declared.Stage.{Stage}
use Rattle.answers.specs.declared.Stage.TheVariants.{Holding, Closed}
use Rattle.answers.specs.Refusals.{number_of}
use Rattle.answers.specs.Answers.{values_of, Answered}
use Rattle.consistency.specs.Deal.{first_from, second_from}
use Rattle.lamp.specs.Lamp.{Call, take_deal, say_pair, hear_pairs, settle, open_shares}
use Rattle.agreement.specs.Setting.{Setting, setting, with_table, prime, terms, point, value_of, row_for, column_for, desk_for}
use Rattle.agreement.specs.Setting.{dealt_row, dealt_column, pair_by, report_by, lamp_at, reply_at, answer_at}
use Rattle.agreement.specs.Calls.{Run, to_deal, to_pairs, to_reports, whole, since_deal, since_settling, At, Begins, Never}
use Rattle.agreement.specs.Calls.{is_deal, is_hearing, is_settling, moves}

-- The call is accepted and answers these values; the call is refused with this number.
abbrev pub Gives : Answered → List ℕ → Type 0
Gives a vs = (number_of a ≡ none) × (values_of a ≡ vs)

abbrev pub Refuses : Answered → ℕ → Type 0
Refuses a k = number_of a ≡ some k

-- Which lamps are honest, the width and the table that each was made with (1 to n where it loaded none), the calls of each, the same
-- taken apart, and the reports that all see.
pub record Execution : Type 0 where
  pub honest : ℕ → Bool
  pub widths : ℕ → Width
  pub tables : ℕ → List ℕ
  pub calls : ℕ → List Call
  pub run : ℕ → Run
  pub seen : List ℕ

-- (For the conclusions.) The call c of lamp i, after the calls xs, is refused with 3, 4, 7 or 18, and nothing is changed.
pub record Stray (s : Setting) (i : ℕ) (xs : List Call) (c : Call) : Type 0 where
  pub unchanged : (reply_at s i xs c).lamp ≡ lamp_at s i xs
  pub refused : Refuses (answer_at s i xs c) 3 ⊎ Refuses (answer_at s i xs c) 4 ⊎ Refuses (answer_at s i xs c) 7
      ⊎ Refuses (answer_at s i xs c) 18

module _ (s : Setting) where
  -- ---- PREMISES

  -- "the first of the right length", "the first hearing of the right length after that", "the first settling after that with n
  -- reports and its own report in its place": the list cs brings lamp i these three, deal and pairs by calls of its own width.
  pub record Brings (i : ℕ) (cs : List Call) (r : Run) : Type 0 where
    pub list : cs ≡ whole r
    pub own_width : r.width ≡ s.width
    pub deal_length : length r.its_deal ≡ 2 * terms s
    pub deal_first : Never (is_deal s) r.before_deal
    pub pairs_length : length r.its_pairs ≡ 2 * s.n
    pub pairs_first : Never (is_hearing s) r.before_pairs
    pub reports_length : length r.its_reports ≡ s.n
    pub reports_own : entry r.its_reports i ≡ report_by s i r.its_deal r.its_pairs
    pub reports_first : Never (is_settling s i (report_by s i r.its_deal r.its_pairs)) r.before_reports

  module _ (e : Execution) where
    -- Lamp i is one of the honest ones.
    pub record Honest (i : ℕ) : Type 0 where
      pub party : is_party s.n i ≡ true
      pub good : e.honest i ≡ true

    -- "in lamp i's pairs the place of every other honest lamp j holds j's pair for i"
    abbrev pub HearEachOther : Type 0
    HearEachOther =
        (i j : ℕ) → Honest i → Honest j → (i ≡ j → ⊥)
        → (first_from (e.run i).its_pairs j ≡ (pair_by s j (e.run j).its_deal i).0)
        × (second_from (e.run i).its_pairs j ≡ (pair_by s j (e.run j).its_deal i).1)

    -- "one list of n is the reports of every honest lamp"
    abbrev pub SameReports : Type 0
    SameReports = (i : ℕ) → Honest i → (e.run i).its_reports ≡ e.seen

    -- The protocol's premises: at most t lamps are faulty, and the lists of the others are as above.
    pub record Premises : Type 0 where
      pub size : sizes s.n s.t ≡ true
      pub few : count (λ i. not (e.honest i)) (parties s.n) ≤ s.t
      pub brings : (i : ℕ) → Honest i → Brings i (e.calls i) (e.run i)
      pub hear : HearEachOther
      pub same : SameReports

    -- "agreement of honest lamps has the further premise that all of them .. loaded the same one": the setting's, which is a table.
    pub record OneTable : Type 0 where
      pub table : IsTable (prime s) s.n s.table
      pub loaded : (i : ℕ) → Honest i → e.tables i ≡ s.table

    -- "What honest lamps agree on holds within one prime": all honest lamps were made for the setting's width.
    abbrev pub OneWidth : Type 0
    OneWidth = (i : ℕ) → Honest i → e.widths i ≡ s.width

    -- "each honest lamp's deal is its stretch as the desk writes it for a list that the desk does not refuse"; "and a dealer counted as
    -- honest, loaded the same" table.
    pub record HonestDealer (F : List ℕ) : Type 0 where
      pub table : List ℕ
      pub loaded : table ≡ s.table
      pub lent : List ℕ
      pub written : number_of (desk_for (with_table s table) F lent).1 ≡ none
      pub deals : (i : ℕ) → Honest i → (e.run i).its_deal ≡ desks.stretch (terms s) (desk_for (with_table s table) F lent).0 i

    -- ---- CONCLUSIONS

    -- The setting as lamp i has it, with the width that it was made for and the table that it loaded.
    abbrev pub own : ℕ → Setting
    own i = setting (e.widths i) s.n s.t (e.tables i)

    -- Lamp j's share, at the end of its list.
    abbrev pub share_of : ℕ → ℕ
    share_of j = (lamp_at (own j) j (e.calls j)).sharing.share

    -- Each other honest lamp's place holds that lamp's share, if anything was sent.
    abbrev pub ShareOrUnsent : ℕ → List ℕ → Type 0
    ShareOrUnsent i ys = (j : ℕ) → Honest j → (j ≡ i → ⊥) → entry ys j < prime s → entry ys j ≡ share_of j

    -- Lamp i's own share is always there, another's if it was sent.
    abbrev pub honest_there : ℕ → List ℕ → ℕ
    honest_there i ys = count (λ j. e.honest j && (eqb j i || ltb (entry ys j) (prime s))) (parties s.n)

    -- What is concluded of lamp i, o being the setting as it has it.
    module _ (o : Setting) (i : ℕ) where
      -- Its list of calls, taken apart.
      abbrev r : Run
      r = e.run i

      -- The pair is answered at every saying from the deal on, the report is given out, and all other calls to deal, hear or settle are
      -- stray.
      pub record Speaks : Type 0 where
        pub takes : Gives (answer_at o i (to_deal r) (take_deal r.width r.its_deal)) []
        pub says : (xs : List Call) (j : ℕ) → is_party s.n j ≡ true → At (e.calls i) (since_deal r xs) (say_pair j)
            → Gives (answer_at o i (since_deal r xs) (say_pair j)) ((pair_by s i r.its_deal j).0 ∷ (pair_by s i r.its_deal j).1 ∷ [])
        pub reports : Gives (answer_at o i (to_pairs r) (hear_pairs r.width r.its_pairs)) (report_by s i r.its_deal r.its_pairs ∷ [])
        pub others : (xs : List Call) (c : Call) → At (e.calls i) xs c → moves c ≡ true
            → (xs ≡ to_deal r → ⊥) → (xs ≡ to_pairs r → ⊥) → (xs ≡ to_reports r → ⊥) → Stray o i xs c

      -- From settling to the end of the list the lamp has this stage, happy set and share.
      pub record Stays (stage : Stage) (S v : ℕ) : Type 0 where
        pub stages : (xs : List Call) → Begins (e.calls i) (since_settling r xs) → (lamp_at o i (since_settling r xs)).sharing.stage ≡ stage
        pub sets : (xs : List Call) → Begins (e.calls i) (since_settling r xs) → (lamp_at o i (since_settling r xs)).sharing.happy ≡ S
        pub shares : (xs : List Call) → Begins (e.calls i) (since_settling r xs) → (lamp_at o i (since_settling r xs)).sharing.share ≡ v

      -- Settling gives 8, and the lamp stays closed, with the empty set and share 0.
      pub record Rejects : Type 0 where
        pub answered : Refuses (answer_at o i (to_reports r) (settle r.its_reports)) 8
        pub stays : Stays Closed 0 0

      -- After settling and the calls xs the list has a call to open ys; its answer.
      abbrev Called : List Call → List ℕ → Type 0
      Called xs ys = At (e.calls i) (since_settling r xs) (open_shares r.width ys)

      abbrev opening_answer : List Call → List ℕ → Answered
      opening_answer xs ys = answer_at o i (since_settling r xs) (open_shares r.width ys)

      -- Settling accepts; the lamp stays holding, with the happy set and F(i, 0); and every opening of n numbers of its own width in
      -- which each other honest lamp's place holds that lamp's share answers F(0, 0). Where some were not sent it does so all the same if
      -- 2t + 1 honest shares are there, its own among them; and however few are, it answers F(0, 0) or 10, never another number.
      pub record Accepts (F : List ℕ) : Type 0 where
        pub answered : Gives (answer_at o i (to_reports r) (settle r.its_reports)) []
        pub stays : Stays Holding (happy_set e.seen) (value_of s F (point s i) 0)
        pub opens : (xs : List Call) (ys : List ℕ) → Called xs ys → length ys ≡ s.n
            → ((j : ℕ) → Honest j → (j ≡ i → ⊥) → entry ys j ≡ share_of j)
            → Gives (opening_answer xs ys) (value_of s F 0 0 ∷ [])
        pub opens_enough : (xs : List Call) (ys : List ℕ) → Called xs ys → length ys ≡ s.n
            → ShareOrUnsent i ys → 2 * s.t + 1 ≤ honest_there i ys
            → Gives (opening_answer xs ys) (value_of s F 0 0 ∷ [])
        pub opens_no_other : (xs : List Call) (ys : List ℕ) → Called xs ys → length ys ≡ s.n
            → ShareOrUnsent i ys
            → Gives (opening_answer xs ys) (value_of s F 0 0 ∷ []) ⊎ Refuses (opening_answer xs ys) 10

    -- F has (t + 1)² coefficients below the prime, and every honest happy lamp's row and column, as dealt, lie on it.
    pub record OnF (F : List ℕ) : Type 0 where
      pub poly : Poly (prime s) (terms s * terms s) F
      pub rows : (i : ℕ) → Honest i → member (happy_set e.seen) i ≡ true → row_for s F i ≡ dealt_row s (e.run i).its_deal
      pub columns : (i : ℕ) → Honest i → member (happy_set e.seen) i ≡ true → column_for s F i ≡ dealt_column s (e.run i).its_deal

    -- Every honest lamp rejects the dealer.
    abbrev pub AllReject : Type 0
    AllReject = (i : ℕ) → Honest i → Rejects (own i) i

    -- Exactly this F, and every honest lamp accepts with it; the happy set is the one of step 4.
    pub record AllAccept (F : List ℕ) : Type 0 where
      pub set_right : Largest (agree e.seen) s.n (happy_set e.seen)
      pub on : OnF F
      pub only : (G : List ℕ) → OnF G → G ≡ F
      pub hold : (i : ℕ) → Honest i → Accepts (own i) i F

    -- One verdict; an honest dealer is accepted, with F its own, and F(0, 0) is its secret, the number at place 0.
    pub record Conclusions : Type 0 where
      pub speak : (i : ℕ) → Honest i → Speaks (own i) i
      pub one_verdict : AllReject ⊎ ((F : List ℕ) × AllAccept F)
      pub dealer : (F : List ℕ) → HonestDealer F → AllAccept F × (value_of s F 0 0 ≡ get_or F 0 0)

-- DEMAND 3, for numbers of either width, with any table.
unfoldable pub Demand3 : Width → Type 0
Demand3 w =
    (n t : ℕ) (T : List ℕ) (e : Execution)
    → Premises (setting w n t T) e → OneTable (setting w n t T) e → OneWidth (setting w n t T) e → Conclusions (setting w n t T) e
