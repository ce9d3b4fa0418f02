-- Executions made to order, for any choice of faulty lamps and of what they send: demand 3 is not about nothing.
--   Plot              who is honest, each lamp's deal, what a faulty lamp says to each listener and reports, and the calls around the three
--   execution s q     the execution: each honest lamp is given its deal, hears and settles, with other calls before, between and after
--   five_with w T, five w   n = 5 and t = 1 with the table T, and without one
--   other w           the other width, of calls that go astray
--   one_lie, two_missing, lie_alone   lists of published shares, at any table: lamp 3 lies, lamps 4 and 5 are dark besides, all others are
--   honest_dealer     a plot at any table; liar, two_dealers: two without one
-- A plot within the sizes, with at most t faulty lamps, deals of the right length and no earlier right call, meets the premises:
-- proofs/Stories.
use Rattle.std.specs.Prelude.{Bool, true, cond, not, List, [], ◌∷◌, ℕ, suc, ◌*◌, ◌/◌, ◌%◌, eqb, leb, replicate}
use Rattle.lists.specs.Tabulate.{tabulate}
use Rattle.field.specs.declared.Width.{Width}
use Rattle.field.specs.declared.Width.TheVariants.{Narrow, Wide}
use Rattle.field.specs.Modulus.{prime_of}
use Rattle.tables.specs.Tables.{one_to}
use Rattle.dealer.specs.Desk as desks
use Rattle.lamp.specs.Lamp.{Call, take_deal, say_pair, hear_pairs, settle, open_shares}
use Rattle.agreement.specs.Setting.{Setting, setting, point, value_of, pair_by, report_by}
use Rattle.agreement.specs.Calls.{Run, whole}
use Rattle.agreement.specs.Demand1.{unsent}
use Rattle.agreement.specs.Demand3.{Execution}

-- Who is honest; each honest lamp's deal; what the faulty lamp j says to i; what it reports; the calls before the deal, between deal and
-- pairs, between pairs and reports, and after.
pub record Plot : Type 0 where
  pub good : ℕ → Bool
  pub deal_to : ℕ → List ℕ
  pub lies_to : ℕ → ℕ → ℕ × ℕ
  pub claims : ℕ → ℕ
  pub early : List Call
  pub between : List Call
  pub late : List Call
  pub behind : List Call

module _ (s : Setting) (q : Plot) where
  -- The pair that i hears from j.
  unfoldable pub pair_heard : ℕ → ℕ → ℕ × ℕ
  pair_heard i j = cond (q.good j) (pair_by s j (q.deal_to j) i) (q.lies_to i j)

  -- All n pairs that i hears, in one list.
  unfoldable pub pairs_heard : ℕ → List ℕ
  pairs_heard i = tabulate (λ m. cond (eqb (m % 2) 0) (pair_heard i (suc (m / 2))).0 (pair_heard i (suc (m / 2))).1) (2 * s.n)

  -- The reports that all see.
  unfoldable pub reports_seen : List ℕ
  reports_seen =
      tabulate (λ k. cond (q.good (suc k))
      (report_by s (suc k) (q.deal_to (suc k)) (pairs_heard (suc k)))
      (q.claims (suc k))) s.n

  abbrev pub run_of : ℕ → Run
  run_of i = record {
    width = s.width;
    before_deal = q.early;
    its_deal = q.deal_to i;
    before_pairs = q.between;
    its_pairs = pairs_heard i;
    before_reports = q.late;
    its_reports = reports_seen;
    rest = q.behind;
  }

  abbrev pub execution : Execution
  execution = record {
    honest = q.good;
    widths = λ i. s.width;
    tables = λ i. s.table;
    calls = λ i. whole (run_of i);
    run = run_of;
    seen = reports_seen;
  }

-- F = 7 + 3X + 2Y + 4XY.
abbrev pub an_f : List ℕ
an_f = 7 ∷ 2 ∷ 3 ∷ 4 ∷ []

-- The other width.
abbrev pub other : Width → Width
other Narrow = Wide
other Wide = Narrow

-- All lamps but 3 are honest.
abbrev pub but_three : ℕ → Bool
but_three i = not (eqb i 3)

module _ (w : Width) (T : List ℕ) where
  -- Five lamps, of which one may be faulty, at the points of the table T.
  abbrev pub five_with : Setting
  five_with = setting w 5 1 T

  -- Lamp k + 1's share of that F.
  abbrev share_at : ℕ → ℕ
  share_at k = value_of five_with an_f (point five_with (suc k)) 0

  -- What is published: lamp 3 says 999, the others their shares; and the same with lamps 4 and 5 dark.
  abbrev pub one_lie : List ℕ
  one_lie = tabulate (λ k. cond (but_three (suc k)) (share_at k) 999) 5

  abbrev pub two_missing : List ℕ
  two_missing = tabulate (λ k. cond (leb k 1) (share_at k) (cond (leb k 2) 999 (unsent w))) 5

  -- The lie alone is published.
  abbrev pub lie_alone : List ℕ
  lie_alone = tabulate (λ k. cond (eqb k 2) 999 (unsent w)) 5

  -- The dealer is honest; lamp 3 sends and reports nonsense. Three openings follow.
  abbrev pub honest_dealer : Plot
  honest_dealer = record {
    good = but_three;
    deal_to = λ i. desks.deal (prime_of w) 2 T an_f i;
    lies_to = λ i j. (i, 65535);
    claims = λ j. 65535;
    early = [];
    between = [];
    late = [];
    behind = open_shares w one_lie ∷ open_shares w two_missing ∷ open_shares w lie_alone ∷ [];
  }

module _ (w : Width) where
  -- The same lamps without a table: at the points 1 to 5.
  abbrev pub five : Setting
  five = five_with w (one_to 5)

  -- That F at the points of lamps i and j.
  abbrev an_f_at : ℕ → ℕ → ℕ
  an_f_at i j = value_of five an_f (point five i) (point five j)

  -- The dealer gives lamp 5 an unsound deal, row 17 + 24 X; lamp 3 tells lamps 1, 2 and 4 what is right and lamp 5 a lie. Everyone gets
  -- stray calls besides: a short deal and a settling too early, a second deal, a second hearing, short lists, and a deal, pairs and an
  -- opening of the other width.
  abbrev pub liar : Plot
  liar = record {
    good = but_three;
    deal_to = λ i. cond (eqb i 5) (17 ∷ 24 ∷ 22 ∷ 22 ∷ []) (desks.deal (prime_of w) 2 (one_to 5) an_f i);
    lies_to = λ i j. cond (eqb i 5) (999, 1) (an_f_at i 3, an_f_at 3 i);
    claims = λ j. 11;
    early =
        say_pair 2 ∷ take_deal w (1 ∷ 2 ∷ 3 ∷ []) ∷ take_deal (other w) (9 ∷ 9 ∷ 9 ∷ 9 ∷ []) ∷ settle (0 ∷ 0 ∷ 0 ∷ 0 ∷ 0 ∷ []) ∷ [];
    between =
        take_deal w (9 ∷ 9 ∷ 9 ∷ 9 ∷ []) ∷ say_pair 2 ∷ open_shares w (1 ∷ 2 ∷ 3 ∷ 4 ∷ 5 ∷ []) ∷ hear_pairs (other w) (replicate 10 0) ∷ [];
    late = hear_pairs w (replicate 10 0) ∷ settle (1 ∷ 2 ∷ 3 ∷ []) ∷ [];
    behind =
        open_shares w (1 ∷ 2 ∷ 3 ∷ [])
        ∷ settle (0 ∷ 0 ∷ 0 ∷ 0 ∷ 0 ∷ [])
        ∷ open_shares (other w) (0 ∷ 13 ∷ 999 ∷ 19 ∷ 22 ∷ [])
        ∷ open_shares w (0 ∷ 13 ∷ 999 ∷ 19 ∷ 22 ∷ [])
        ∷ [];
  }

  -- The dealer deals one polynomial to lamps 1 and 2 and another to the rest.
  abbrev pub two_dealers : Plot
  two_dealers = record {
    good = λ i. true;
    deal_to = λ i. cond (leb i 2) (desks.deal (prime_of w) 2 (one_to 5) an_f i) (desks.deal (prime_of w) 2 (one_to 5) (8 ∷ 9 ∷ 3 ∷ 1 ∷ []) i);
    lies_to = λ i j. (0, 0);
    claims = λ j. 0;
    early = [];
    between = [];
    late = [];
    behind = [];
  }
