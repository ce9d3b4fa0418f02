-- Every plot meets the premises of demand 3; and three plots, played by the definitions themselves: one with an honest dealer, at any
-- table, one accepted with a liar and a repair, one rejected.
use mathlib.Core.Path.{◌≡◌, refl, sym, ap, ap₂, ◌∙◌}
use mathlib.Core.Logic.{⊎_elim}
use mathlib.Core.Bool.{Bool, true, false, cond, not}
use mathlib.Core.Option.{Option, none, some}
use mathlib.Core.List.{List, [], ◌∷◌, zip_with}
use Prim.Native.Nat.{ℕ, suc, ◌+◌, ◌*◌, ◌-◌, ◌/◌, ◌%◌, ◌≤◌}
use native.Mathlib.Omega.{arith}
use lib.Count.{ones}
use lib.Dec.{eqb, leb, lit≤, lit<}
use lib.ListN.{length, replicate}
use Rattle.lists.specs.Masks.{mask}
use Rattle.lists.specs.Tabulate.{tabulate}
use Rattle.lists.specs.Choices.{count}
use Rattle.lists.proofs.Tabulate.{length-tabulate, get_or-tabulate}
use Rattle.field.specs.declared.Width.{Width}
use Rattle.field.specs.declared.Width.TheVariants.{Narrow, Wide}
use Rattle.field.specs.Modulus.{prime_of}
use Rattle.polynomial.specs.Polynomial.{Residues}
use Rattle.polynomial.proofs.Below.{residues-facts}
use Rattle.mutual.specs.Agreement.{agree, agreements}
use Rattle.happy.specs.Happy.{joins, better, best, largest, largest_in, happy_set}
use Rattle.trial.specs.Trial.{hits, points_sent, through}
use Rattle.fit.specs.Fit.{sent, fit}
use Rattle.interpolation.specs.Interpolation.{interpolate}
use Rattle.bivariate.specs.Bivariate.{at}
use Rattle.field.specs.Arithmetic.{add, sub, mul, pow, inv, inv_within}
use Rattle.parties.specs.Parties.{sizes, is_party, parties, not_sent, entry}
use Rattle.parties.proofs.Parties.{party-facts}
use Rattle.tables.specs.Tables.{point_at, one_to, IsTable, is_table}
use Rattle.tables.proofs.Tables.{table-facts, one-to-table}
use Rattle.dealer.specs.Desk.{deal, desk_with}
use Rattle.dealer.proofs.Desk.{length-deal, desk-writes, desk-stretch}
use Rattle.lamp.specs.declared.Reply.{Reply}
use Rattle.answers.specs.Answers.{values_of}
use Rattle.recovery.specs.Recovery.{repair}
use Rattle.lamp.specs.Lamp.{Call, settle, open_shares, step, with_deal, with_pairs, report_from, settled, opening, at_end}
use Rattle.consistency.specs.Deal.{first_from, second_from, sound, pair_for, confirms, report_of}
use Rattle.agreement.specs.Setting.{Setting, prime, terms, pair_by, report_by, reply_at, answer_at}
use Rattle.agreement.specs.Calls.{to_reports, since_settling, Never, is_deal, is_hearing, is_settling}
use Rattle.agreement.specs.Demand3.{Honest, Premises, OneTable, OneWidth, AllReject, AllAccept, Demand3}
use Rattle.agreement.specs.Stories.{Plot, pair_heard, pairs_heard, reports_seen, run_of, execution, an_f, five_with, five}
use Rattle.agreement.specs.Stories.{honest_dealer, liar, two_dealers}
use Rattle.agreement.specs.Harbour.{stations}
use Rattle.agreement.proofs.Agreement.{demand3}
use Rattle.answers.specs.Refusals.{Admission, number_of}

module _ (s : Setting) (q : Plot) where
  first-heard : (i j : ℕ) → is_party s.n j ≡ true → first_from (pairs_heard s q i) j ≡ (pair_heard s q i j).0
  unfolding pairs_heard
  first-heard i j party =
      let f = party-facts s.n j party in
      let even : 2 * (j - 1) % 2 ≡ 0 = omega arith in
      let half : suc (2 * (j - 1) / 2) ≡ j = omega arith in
      get_or-tabulate (λ m. cond (eqb (m % 2) 0) (pair_heard s q i (suc (m / 2))).0 (pair_heard s q i (suc (m / 2))).1) (2 * s.n)
      (2 * (j - 1)) 0 (omega arith)
      ∙ ap₂ (λ a b. cond (eqb a 0) (pair_heard s q i b).0 (pair_heard s q i b).1) even half

  second-heard : (i j : ℕ) → is_party s.n j ≡ true → second_from (pairs_heard s q i) j ≡ (pair_heard s q i j).1
  unfolding pairs_heard
  second-heard i j party =
      let f = party-facts s.n j party in
      let odd : (2 * (j - 1) + 1) % 2 ≡ 1 = omega arith in
      let half : suc ((2 * (j - 1) + 1) / 2) ≡ j = omega arith in
      get_or-tabulate (λ m. cond (eqb (m % 2) 0) (pair_heard s q i (suc (m / 2))).0 (pair_heard s q i (suc (m / 2))).1) (2 * s.n)
      (2 * (j - 1) + 1) 0 (omega arith)
      ∙ ap₂ (λ a b. cond (eqb a 0) (pair_heard s q i b).0 (pair_heard s q i b).1) odd half

  honest-pair : (i j : ℕ) → q.good j ≡ true → pair_heard s q i j ≡ pair_by s j (q.deal_to j) i
  unfolding pair_heard
  honest-pair i j e = rw e

  own-report : (i : ℕ) → is_party s.n i ≡ true → q.good i ≡ true
      → entry (reports_seen s q) i ≡ report_by s i (q.deal_to i) (pairs_heard s q i)
  unfolding reports_seen
  own-report i party e =
      let f = party-facts s.n i party in
      let place : suc (i - 1) ≡ i = omega arith in
      let its : ℕ → ℕ = λ m. report_by s m (q.deal_to m) (pairs_heard s q m) in
      get_or-tabulate (λ k. cond (q.good (suc k)) (its (suc k)) (q.claims (suc k))) s.n (i - 1) 0 (omega arith)
      ∙ ap (λ m. cond (q.good m) (its m) (q.claims m)) place
      ∙ ap (λ b. cond b (its i) (q.claims i)) e

  -- The premises are met.
  pub premises : sizes s.n s.t ≡ true → count (λ i. not (q.good i)) (parties s.n) ≤ s.t
      → ((i : ℕ) → is_party s.n i ≡ true → q.good i ≡ true → length (q.deal_to i) ≡ 2 * terms s)
      → Never (is_deal s) q.early → Never (is_hearing s) q.between → ((i r : ℕ) → Never (is_settling s i r) q.late)
      → Premises s (execution s q)
  unfolding pairs_heard reports_seen
  premises size few long no-deal no_pairs no-reports = record {
    size = size;
    few = few;
    brings = λ i h. record {
      list = refl;
      own_width = refl;
      deal_length = long i h.party h.good;
      deal_first = no-deal;
      pairs_length = length-tabulate _ (2 * s.n);
      pairs_first = no_pairs;
      reports_length = length-tabulate _ s.n;
      reports_own = own-report i h.party h.good;
      reports_first = no-reports i _;
    };
    hear = λ i j hi hj d. (
      first-heard i j hj.party ∙ ap (λ (z : ℕ × ℕ). z.0) (honest-pair i j hj.good),
      second-heard i j hj.party ∙ ap (λ (z : ℕ × ℕ). z.1) (honest-pair i j hj.good),
    );
    same = λ i h. refl;
  }

  -- All lamps have the setting's table.
  pub one_table : IsTable (prime s) s.n s.table → OneTable s (execution s q)
  one_table points = record { table = points; loaded = λ i h. refl }

  -- And its width.
  pub one_width : OneWidth s (execution s q)
  one_width i h = refl

-- ---- three plots for five lamps, one of them faulty, in numbers of either width

-- What lamp i answers to its settling, with its set and share then; and what it answers to the list that is opened in the end.
abbrev ended : Width → Plot → ℕ → Reply
ended w q i = reply_at (five w) i (to_reports (run_of (five w) q i)) (settle (reports_seen (five w) q))

abbrev outcome : Width → Plot → ℕ → Option ℕ × ℕ × ℕ
outcome w q i = (number_of (ended w q i).answer, (ended w q i).lamp.sharing.happy, (ended w q i).lamp.sharing.share)

-- Of all honest lamps but lamp 3.
abbrev outcomes : Width → Plot → List (Option ℕ × ℕ × ℕ)
outcomes w q = outcome w q 1 ∷ outcome w q 2 ∷ outcome w q 4 ∷ outcome w q 5 ∷ []

deal-long : (w : Width) (T : List ℕ) (i : ℕ) → length (deal (prime_of w) 2 T an_f i) ≡ 4
deal-long w T i = length-deal (prime_of w) 2 T an_f refl i

-- Its numbers are residues.
small : (w : Width) → Residues (prime_of w) an_f
small Narrow = residues-facts (prime_of Narrow) an_f refl
small Wide = residues-facts (prime_of Wide) an_f refl

-- The dealer is honest, and lamp 3 is not: accepted, with the dealer's own F, whatever table they all loaded.
module _ (w : Width) (T : List ℕ) (table : IsTable (prime_of w) 5 T) where
  pub honest-dealer-meets : Premises (five_with w T) (execution (five_with w T) (honest_dealer w T))
  unfolding sizes tabulate
  honest-dealer-meets = premises (five_with w T) (honest_dealer w T) refl (lit≤ tt) (λ i q g. deal-long w T i) tt tt (λ i r. tt)

  pub honest-dealer-accepted : AllAccept (five_with w T) (execution (five_with w T) (honest_dealer w T)) an_f
  unfolding Demand3
  honest-dealer-accepted =
      ((demand3 w 5 1 T (execution (five_with w T) (honest_dealer w T)) honest-dealer-meets
      (one_table (five_with w T) (honest_dealer w T) table) (one_width (five_with w T) (honest_dealer w T))).dealer an_f (record {
        table = T;
        loaded = refl;
        lent = replicate 20 0;
        written = written;
        deals = λ i h.
            let range = party-facts 5 i h.party in
            sym (desk-stretch (prime_of w) 5 1 T an_f (replicate 20 0) written i range.0 range.1);
      })).0
    where
      written : number_of (desk_with (prime_of w) 5 1 T an_f (replicate 20 0)).1 ≡ none
      written =
          ap (λ (q : List ℕ × Admission). number_of q.1) (desk-writes (prime_of w) 5 1 T an_f (replicate 20 0) (record {
            size = unfold sizes in refl;
            square = refl;
            long = refl;
            table = table;
            below = small w;
          }))

-- So without a table, and with the harbour's station numbers.
five-points : (w : Width) → IsTable (prime_of w) 5 (one_to 5)
five-points Narrow = one-to-table (prime_of Narrow) 5 (lit< tt)
five-points Wide = one-to-table (prime_of Wide) 5 (lit< tt)

pub plain-accepted : (w : Width) → AllAccept (five w) (execution (five w) (honest_dealer w (one_to 5))) an_f
plain-accepted w = honest-dealer-accepted w (one_to 5) (five-points w)

stations-fine : (w : Width) → is_table (prime_of w) 5 stations ≡ true
unfolding is_table
stations-fine Narrow = refl
stations-fine Wide = refl

pub harbour-accepted : (w : Width) → AllAccept (five_with w stations) (execution (five_with w stations) (honest_dealer w stations)) an_f
harbour-accepted w = honest-dealer-accepted w stations (table-facts (prime_of w) 5 stations (stations-fine w))

-- Lamp 5's deal is unsound and lamp 3 lies to it: accepted with the set of lamps 1 to 4, and lamp 5 repairs its share.
pub liar-meets : (w : Width) → Premises (five w) (execution (five w) (liar w))
unfolding sizes tabulate
liar-meets w = premises (five w) (liar w) refl (lit≤ tt) (λ i q g. long (eqb i 5) i) (early w) (between w) (λ i r. (refl, (refl, tt)))
  where
    early : (w : Width) → Never (is_deal (five w)) (liar w).early
    early Narrow = (refl, (refl, (refl, (refl, tt))))
    early Wide = (refl, (refl, (refl, (refl, tt))))

    between : (w : Width) → Never (is_hearing (five w)) (liar w).between
    between Narrow = (refl, (refl, (refl, (refl, tt))))
    between Wide = (refl, (refl, (refl, (refl, tt))))

    long : (b : Bool) (i : ℕ) → length (cond b (17 ∷ 24 ∷ 22 ∷ 22 ∷ []) (deal (prime_of w) 2 (one_to 5) an_f i)) ≡ 4
    long true i = refl
    long false i = deal-long w (one_to 5) i

pub liar-outcome : (w : Width) → outcomes w (liar w) ≡ (none, 15, 10) ∷ (none, 15, 13) ∷ (none, 15, 19) ∷ (none, 15, 22) ∷ []
unfolding
    pair_heard pairs_heard reports_seen step with_deal with_pairs report_from settled repair opening at_end report_of confirms pair_for
    sound sizes is_party is_table point_at not_sent deal fit points_sent hits sent through interpolate zip_with happy_set largest_in largest
    best better joins agreements agree mask tabulate at pow add sub mul inv inv_within ones
liar-outcome Narrow = refl
liar-outcome Wide = refl

-- Lamp 1's opening, which ignores the 0 in its own place and lamp 3's 999.
abbrev settled_one : Width → List Call
settled_one w = since_settling (run_of (five w) (liar w) 1) []

pub liar-opened : (w : Width) → values_of (answer_at (five w) 1 (settled_one w) (open_shares w (0 ∷ 13 ∷ 999 ∷ 19 ∷ 22 ∷ []))) ≡ 7 ∷ []
unfolding
    pair_heard pairs_heard reports_seen step with_deal with_pairs report_from settled repair opening at_end report_of confirms pair_for
    sound sizes is_party is_table point_at not_sent deal fit points_sent hits sent through interpolate zip_with happy_set largest_in largest
    best better joins agreements agree mask tabulate at pow add sub mul inv inv_within ones
liar-opened Narrow = refl
liar-opened Wide = refl

-- Two polynomials were dealt: rejected by everyone.
pub two-dealers-meet : (w : Width) → Premises (five w) (execution (five w) (two_dealers w))
unfolding sizes tabulate
two-dealers-meet w = premises (five w) (two_dealers w) refl (lit≤ tt) (λ i q g. long (leb i 2) i) tt tt (λ i r. tt)
  where
    long : (b : Bool) (i : ℕ)
        → length (cond b (deal (prime_of w) 2 (one_to 5) an_f i) (deal (prime_of w) 2 (one_to 5) (8 ∷ 9 ∷ 3 ∷ 1 ∷ []) i)) ≡ 4
    long true i = deal-long w (one_to 5) i
    long false i = length-deal (prime_of w) 2 (one_to 5) (8 ∷ 9 ∷ 3 ∷ 1 ∷ []) refl i

pub two-dealers-outcome : (w : Width)
    → outcomes w (two_dealers w) ≡ (some 8, 0, 0) ∷ (some 8, 0, 0) ∷ (some 8, 0, 0) ∷ (some 8, 0, 0) ∷ []
unfolding
    pair_heard pairs_heard reports_seen step with_deal with_pairs report_from settled repair opening at_end report_of confirms pair_for
    sound sizes is_party is_table point_at not_sent deal fit points_sent hits sent through interpolate zip_with happy_set largest_in largest
    best better joins agreements agree mask tabulate at pow add sub mul inv inv_within ones
two-dealers-outcome Narrow = refl
two-dealers-outcome Wide = refl

pub two-dealers-rejected : (w : Width) → AllReject (five w) (execution (five w) (two_dealers w))
unfolding Demand3
two-dealers-rejected w =
    ⊎_elim (λ all. all)
    (λ one. absurd (none-eight (sym (one.1.hold 1 first).answered.0 ∙ ap (λ os. head os) (two-dealers-outcome w))))
    (demand3 w 5 1 (one_to 5) (execution (five w) (two_dealers w)) (two-dealers-meet w)
    (one_table (five w) (two_dealers w) (five-points w)) (one_width (five w) (two_dealers w))).one_verdict
  where
    first : Honest (five w) (execution (five w) (two_dealers w)) 1
    first = record { party = unfold is_party in refl; good = refl }

    head : List (Option ℕ × ℕ × ℕ) → Option ℕ
    head [] = none
    head (o ∷ os) = o.0

    none-eight : ◌≡◌ {A = Option ℕ} none (some 8) → ⊥
    none-eight e = let z : ◌≡◌ {A = ℕ} 0 1 = cc in omega arith
