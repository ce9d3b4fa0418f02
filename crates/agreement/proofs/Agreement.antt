-- Demand 3 is met, for either width: geometry, reports and run put together. Of the prime it is used only that it is one.
--   demand3       the demand
use mathlib.Core.Path.{◌≡◌, refl, sym, ap, ap₂, subst, ◌∙◌}
use mathlib.Core.Logic.{◌≢◌, ◌⊎◌, inl, inr, ⊎_elim}
use mathlib.Core.Bool.{true, false}
use mathlib.Core.Option.{Option, none, some}
use mathlib.Core.List.{List, [], ◌∷◌}
use Prim.Native.Nat.{ℕ, ◌+◌, ◌*◌, ◌-◌, ◌^◌, ◌≤◌, ◌<◌}
use native.Mathlib.Omega.{arith}
use lib.Count.{ones}
use lib.ListN.{length, get_or, set, take, drop}
use Rattle.lists.specs.Tabulate.{pad}
use Rattle.lists.proofs.Cases.{not-both, le-or-lt}
use Rattle.std.proofs.lemmas.Bool.{cases_Bool}
use Rattle.field.specs.declared.Width.{Width}
use Rattle.field.proofs.Primes.{prime-of}
use Rattle.polynomial.specs.Polynomial.{Poly, value}
use Rattle.polynomial.proofs.Division.{value-lt}
use Rattle.bivariate.proofs.Crossing.{row-poly, column-poly, crossing}
use Rattle.bivariate.proofs.Terms.{row_at, at-secret}
use Rattle.happy.specs.Happy.{happy_set}
use Rattle.fit.specs.Opening.{opening_of}
use Rattle.parties.specs.Parties.{is_party, parties, member, entry}
use Rattle.parties.proofs.Parties.{sizes-facts, party-facts, party-true, mem-parties}
use Rattle.dealer.specs.Desk as desks
use Rattle.dealer.proofs.Desk.{take-deal, drop-deal, desk-written, desk-stretch}
use Rattle.answers.specs.declared.Stage.TheVariants.{Holding}
use Rattle.answers.specs.declared.Answer.TheVariants.{Accepted, Opened}
use Rattle.lamp.specs.declared.Lamp.{Lamp}
use Rattle.lamp.specs.declared.Reply.{Reply}
use Rattle.answers.specs.Answers.{values_of}
use Rattle.recovery.specs.Recovery.{repair, opening_with}
use Rattle.answers.specs.Fits.{constant}
use Rattle.lamp.specs.Lamp.{Call, table_of, open_shares, reply, firsts, with_deal, with_pairs, at_end, settled, opening, opened, step}
use Rattle.agreement.specs.Setting.{Setting, setting, with_table, Legal, prime, terms, point, value_of, row_for, column_for, zero_row}
use Rattle.agreement.specs.Setting.{desk_for, dealt_row, dealt_column, made_for, lamp_at, reply_at, answer_at}
use Rattle.agreement.specs.Calls.{since_settling}
use Rattle.agreement.specs.Demand3.{Execution, Honest, Premises, OneTable, OneWidth, HonestDealer, own, share_of, Speaks, Rejects}
use Rattle.agreement.specs.Demand3.{Gives, Refuses, ShareOrUnsent, honest_there}
use Rattle.agreement.specs.Demand3.{Accepts, OnF, AllReject, AllAccept, Conclusions, Demand3}
use Rattle.agreement.proofs.Counting.{passing, honest-parties}
use Rattle.agreement.proofs.Geometry.{Inside, Lies, repairs, lies, lies-once, column-constant, row-constant}
use Rattle.agreement.proofs.Openings.{own-opens-enough, own-opens-no-other, honest-there}
use Rattle.agreement.proofs.Reports.{Heard, happy-right, happy-within, crossed, heard-first, honest-many}
use Rattle.agreement.proofs.Steps.{shares-opened}
use Rattle.agreement.proofs.Collapse as one
use Rattle.agreement.proofs.Lamps as lamps
use Rattle.agreement.proofs.Outcomes.{settled-happy, settled-repaired, heard-entry, heard_all, opened_some}
use Rattle.std.specs.Prelude.{Ok}
use Rattle.answers.specs.Refusals.{number_of}

-- There is an honest lamp.
module _ (s : Setting) (legal : Legal s) (e : Execution) (pr : Premises s e) where
  pub one-honest : (i : ℕ) × Honest s e i
  one-honest =
      let z = sizes-facts s.n s.t legal.size in
      let w = passing e.honest (parties s.n) (omega (arith, honest-parties e.honest s.n s.t pr.few)) in
      let range = (mem-parties s.n w.0).0 w.1 in
      (w.0, record { party = party-true s.n w.0 range.0 range.1; good = w.2 })

module _ (s : Setting) (legal : Legal s) (e : Execution) (pr : Premises s e) (tables : OneTable s e) (widths : OneWidth s e) where
  abbrev S : ℕ
  S = happy_set e.seen

  abbrev rows : ℕ → List ℕ
  rows i = dealt_row s (e.run i).its_deal

  abbrev columns : ℕ → List ℕ
  columns i = dealt_column s (e.run i).its_deal

  abbrev pairs : ℕ → List ℕ
  pairs i = (e.run i).its_pairs

  -- An honest lamp has the setting of all, so what is shown in that holds in its own.
  own_same : (i : ℕ) → Honest s e i → own s e i ≡ s
  own_same i h = ap₂ (λ w T. setting w s.n s.t T) (widths i h) (tables.loaded i h)

  in-own : (Q : Setting → Type 0) (i : ℕ) → Honest s e i → Q s → Q (own s e i)
  in-own Q i h q = subst Q (sym (own_same i h)) q

  -- One honest lamp after its pairs, and the table that it has.
  abbrev reported : (i : ℕ) → Honest s e i → Lamp
  reported i h = lamps.reported s legal e pr i h

  its-table : (i : ℕ) → Honest s e i → table_of (made_for s i).party ≡ s.table
  its-table i h = one.made_table s i (lamps.ready s legal e pr i h)

  -- ---- what the honest hold, hear and report
  seen-long : length e.seen ≡ s.n
  seen-long = let w = one-honest s legal e pr in ap length (sym (pr.same w.0 w.1)) ∙ (pr.brings w.0 w.1).reports_length

  heard : Heard s e.honest rows columns pairs e.seen
  heard = record {
    few = pr.few;
    row_sizes = λ i q g.
        let h : Honest s e i = record { party = q; good = g } in
        one.row-length s i (lamps.ready s legal e pr i h) (e.calls i) (e.run i) (pr.brings i h);
    column_sizes = λ i q g.
        let h : Honest s e i = record { party = q; good = g } in
        one.column-length s i (lamps.ready s legal e pr i h) (e.calls i) (e.run i) (pr.brings i h);
    long = seen-long;
    own = λ i q g.
        let h : Honest s e i = record { party = q; good = g } in
        ap (λ rs. entry rs i) (sym (pr.same i h)) ∙ (pr.brings i h).reports_own;
    firsts = λ i j qi gi qj gj d. (pr.hear i j (record { party = qi; good = gi }) (record { party = qj; good = gj }) d).0;
    seconds = λ i j qi gi qj gj d. (pr.hear i j (record { party = qi; good = gi }) (record { party = qj; good = gj }) d).1;
  }

  abbrev within : S < 2 ^ s.n
  within = happy-within s legal e.honest rows columns pairs e.seen heard

  -- ---- enough agree: everyone holds its share of the one F
  module _ (many : s.n - s.t ≤ ones S) where
    abbrev In : ℕ → Type 0
    In = Inside s e.honest S

    abbrev On : List ℕ → Type 0
    On = Lies s e.honest S rows columns

    inside : (i : ℕ) → Honest s e i → member S i ≡ true → In i
    inside i h m = record { party = h.party; good = h.good; happy = m }

    module _ (F : List ℕ) (on : On F) where
      share : ℕ → ℕ
      share i = value_of s F (point s i) 0

      -- What an honest party outside the happy set heard lies on F's column.
      repair-found : (i : ℕ) → Honest s e i → member S i ≡ false
          → repair (prime s) s.n s.t (table_of (made_for s i).party) S (pad 16 (firsts s.n (pairs i))) ≡ some (column_for s F i)
      repair-found i h out =
          let few-parties = (sizes-facts s.n s.t legal.size).3 in
          ap (λ T. repair (prime s) s.n s.t T S (pad 16 (firsts s.n (pairs i)))) (its-table i h)
          ∙ repairs s legal e.honest pr.few S within many (column_for s F i) (pad 16 (firsts s.n (pairs i)))
          (column-poly (prime s) (terms s) (terms s) F (point s i) (omega (arith, legal.prime.two)) on.poly.size)
          (omega (arith, heard_all s.n (pairs i) few-parties, few-parties))
          (λ j qj gj mj.
          let jn : In j = inside j (record { party = qj; good = gj }) mj in
          let apart : i ≢ j = λ q. not-both mj (ap (member S) (sym q) ∙ out) in
          sym (crossing (prime s) (terms s) (terms s) F (point s i) (point s j) on.poly.size)
          ∙ ap (λ f. value (prime s) f (point s i)) (on.on_rows j jn)
          ∙ sym (heard-first s legal e.honest rows columns pairs e.seen heard many i j h.party h.good jn apart)
          ∙ sym (heard-entry s.n (pairs i) j qj))

      -- The outcome of settling, happy or repaired.
      holds : (i : ℕ) (h : Honest s e i)
          → settled (reported i h) S ≡ reply (at_end (reported i h) Holding S (share i)) (Ok Accepted)
      unfolding with_pairs with_deal share
      holds i h =
          let held : ℕ → Reply = λ v. reply (at_end (reported i h) Holding S v) (Ok Accepted) in
          let constants = column-constant s legal F on.poly.size i in
          ⊎_elim
          (λ (m : member S i ≡ true).
          settled-happy (reported i h) S many m
          ∙ ap (λ f. held (constant f))
          (one.dealt-column s i (lamps.ready s legal e pr i h) (e.calls i) (e.run i) (pr.brings i h)
          ∙ sym (on.on_columns i (inside i h m)))
          ∙ ap held constants)
          (λ (m : member S i ≡ false).
          settled-repaired (reported i h) S many (column_for s F i) m (repair-found i h m)
          ∙ ap held constants)
          (cases_Bool (member S i))

      -- Every honest share is F's, to the end of the list.
      share-is : (j : ℕ) → Honest s e j → share_of s e j ≡ share j
      unfolding at_end
      share-is j h =
          ap (λ o. (lamp_at o j (e.calls j)).sharing.share) (own_same j h)
          ∙ ap (λ (l : Lamp). l.sharing.share) (lamps.at-end s legal e pr j h _ (holds j h))

      -- What lamp i opens of ys: its share is the value at its point of F's row at 0, on which all honest shares lie.
      module _ (i : ℕ) (h : Honest s e i) (xs : List Call) (ys : List ℕ) (long : length ys ≡ s.n) where
        abbrev f : List ℕ
        f = zero_row s F

        on_row : (j : ℕ) → value (prime s) f (point s j) ≡ share j
        unfolding share
        on_row j = row_at (prime s) (terms s) (terms s) F (point s j) 0

        row_fine : Poly (prime s) (terms s) f
        row_fine = row-poly (prime s) (terms s) (terms s) F 0 (omega (arith, legal.prime.two))

        abbrev holding : Lamp
        holding = at_end (reported i h) Holding S (share i)

        opening-by : opening holding ys ≡ opening_of (prime s) s.t s.table (set ys (i - 1) (value (prime s) f (point s i)))
        unfolding opening at_end with_pairs with_deal
        opening-by = ap₂ (λ T v. opening_with (prime s) s.t T i v ys) (its-table i h) (sym (on_row i))

        replied : reply_at s i (since_settling (e.run i) xs) (open_shares (e.run i).width ys) ≡ opened holding (opening holding ys)
        unfolding at_end with_pairs with_deal
        replied =
            ap (λ z. step z (open_shares (e.run i).width ys)) (lamps.ended s legal e pr i h _ (holds i h) xs)
            ∙ shares-opened holding (one.made-valid s i (lamps.ready s legal e pr i h)) (e.run i).width ys
            (pr.brings i h).own_width long refl

        abbrev Secret : Type 0
        Secret = Gives (answer_at s i (since_settling (e.run i) xs) (open_shares (e.run i).width ys)) (value_of s F 0 0 ∷ [])

        found : opening holding ys ≡ some f → Secret
        found is =
            let answered =
            replied
            ∙ opened_some holding (opening holding ys) f is
            ∙ ap (λ v. reply holding (Ok (Opened v))) (row-constant s legal F on.poly.size) in
            (ap (λ (z : Reply). number_of z.answer) answered, ap (λ (z : Reply). values_of z.answer) answered)

        module _ (places : ShareOrUnsent s e i ys) where
          in_place : (j : ℕ) → is_party s.n j ≡ true → e.honest j ≡ true → (j ≡ i → ⊥) → entry ys j < prime s
              → entry ys j ≡ value (prime s) f (point s j)
          in_place j qj gj d was-sent =
              let hj : Honest s e j = record { party = qj; good = gj } in
              places j hj d was-sent ∙ share-is j hj ∙ sym (on_row j)

          opens_enough : 2 * s.t + 1 ≤ honest_there s e i ys → Secret
          opens_enough many =
              found (opening-by ∙ own-opens-enough s legal e.honest pr.few f row_fine i h.party ys long in_place many)

          opens_no_other : Secret ⊎ Refuses (answer_at s i (since_settling (e.run i) xs) (open_shares (e.run i).width ys)) 10
          opens_no_other = go (opening holding ys) refl
            where
              go : (o : Option (List ℕ)) → opening holding ys ≡ o
                  → Secret ⊎ Refuses (answer_at s i (since_settling (e.run i) xs) (open_shares (e.run i).width ys)) 10
              go none is = inr (ap (λ (z : Reply). number_of z.answer) (replied ∙ ap (opened holding) is))
              go (some g) is =
                  let only = own-opens-no-other s legal e.honest pr.few f row_fine i h.party ys long in_place g
                  (sym opening-by ∙ is) in
                  inl (found (is ∙ ap some only))

        -- With all honest shares in place all but t are there.
        opens-all : ((j : ℕ) → Honest s e j → (j ≡ i → ⊥) → entry ys j ≡ share_of s e j) → Secret
        opens-all places =
            let z = sizes-facts s.n s.t legal.size in
            let sent : (j : ℕ) → Honest s e j → (j ≡ i → ⊥) → entry ys j < prime s = λ j hj d.
            subst (λ v. v < prime s) (sym (places j hj d ∙ share-is j hj ∙ sym (on_row j)))
            (value-lt (prime s) f (point s j) (omega (arith, legal.prime.two))) in
            opens_enough (λ j hj d was-sent. places j hj d) (omega (arith, honest-there s e pr.few i ys sent))

      accepts : (i : ℕ) → Honest s e i → Accepts s e s i F
      unfolding at_end with_pairs with_deal share
      accepts i h =
          let is = holds i h in
          record {
            answered =
                let known = lamps.settling s legal e pr i h _ is in
                (ap (λ (z : Reply). number_of z.answer) known, ap (λ (z : Reply). values_of z.answer) known);
            stays = lamps.stays s legal e pr i h _ is;
            opens = λ xs ys at long places. opens-all i h xs ys long places;
            opens_enough = λ xs ys at long places many. opens_enough i h xs ys long places many;
            opens_no_other = λ xs ys at long places. opens_no_other i h xs ys long places;
          }

      to-lies : (G : List ℕ) → OnF s e G → On G
      to-lies G g = record {
        poly = g.poly;
        on_rows = λ i m. g.rows i (record { party = m.party; good = m.good }) m.happy;
        on_columns = λ i m. g.columns i (record { party = m.party; good = m.good }) m.happy;
      }

      accepted : AllAccept s e F
      accepted = record {
        set_right = happy-right s legal e.honest rows columns pairs e.seen heard;
        on = record { poly = on.poly; rows = λ i h m. on.on_rows i (inside i h m); columns = λ i h m. on.on_columns i (inside i h m) };
        only = λ G g. lies-once s legal e.honest pr.few S within many rows columns G F (to-lies G g) on;
        hold = λ i h. in-own (λ o. Accepts s e o i F) i h (accepts i h);
      }

  -- ---- one verdict
  verdict : AllReject s e ⊎ ((F : List ℕ) × AllAccept s e F)
  verdict =
      ⊎_elim
      (λ many.
      let f = lies s legal e.honest pr.few S within many rows columns
      (crossed s legal e.honest rows columns pairs e.seen heard many) in
      inr (f.0, accepted many f.0 f.1))
      (λ few. inl (λ i h. in-own (λ o. Rejects s e o i) i h (lamps.rejects s legal e pr i h few)))
      (le-or-lt (s.n - s.t) (ones S))

  -- ---- an honest dealer
  dealer : (F : List ℕ) → HonestDealer s e F → AllAccept s e F × (value_of s F 0 0 ≡ get_or F 0 0)
  dealer F hd =
      let written : number_of (desk_for s F hd.lent).1 ≡ none =
      subst (λ T. number_of (desk_for (with_table s T) F hd.lent).1 ≡ none) hd.loaded hd.written in
      let w = desk-written (prime s) s.n s.t s.table F hd.lent written in
      let its : (i : ℕ) → Honest s e i → (e.run i).its_deal ≡ desks.deal (prime s) (terms s) s.table F i =
      λ i h.
      let range = party-facts s.n i h.party in
      hd.deals i h
      ∙ ap (λ T. desks.stretch (terms s) (desk_for (with_table s T) F hd.lent).0 i) hd.loaded
      ∙ desk-stretch (prime s) s.n s.t s.table F hd.lent written i range.0 range.1 in
      let row_of : (i : ℕ) → Honest s e i → row_for s F i ≡ rows i =
      λ i h. sym (take-deal (prime s) (terms s) s.table F i) ∙ ap (take (terms s)) (sym (its i h)) in
      let column-of : (i : ℕ) → Honest s e i → column_for s F i ≡ columns i =
      λ i h. sym (drop-deal (prime s) (terms s) s.table F i) ∙ ap (drop (terms s)) (sym (its i h)) in
      let many = honest-many s legal e.honest rows columns pairs e.seen heard F w.square
      (λ i q g. row_of i (record { party = q; good = g })) (λ i q g. column-of i (record { party = q; good = g })) in (
        accepted many F (record {
          poly = record { residues = w.below; size = w.square };
          on_rows = λ i m. row_of i (record { party = m.party; good = m.good });
          on_columns = λ i m. column-of i (record { party = m.party; good = m.good });
        }),
        at-secret (prime s) s.t s.t F (omega (arith, legal.prime.two)) w.below,
      )

  conclusions : Conclusions s e
  conclusions = record {
    speak = λ i h. in-own (λ o. Speaks s e o i) i h (lamps.speaks s legal e pr i h);
    one_verdict = verdict;
    dealer = dealer;
  }

-- DEMAND 3.
pub demand3 : (w : Width) → Demand3 w
unfolding Demand3
demand3 w n t T e pr tables widths =
    conclusions (setting w n t T) (record { size = pr.size; table = tables.table; prime = prime-of w }) e pr tables widths
