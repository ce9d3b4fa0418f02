-- Demand 1 is met, for either width. Of a lamp's prime it is used only that it is one.
--   demand1           the demand
--   pinned            whatever answers calls so gives the same numbers and, refused, leaves the same lamp
use mathlib.Core.Path.{◌≡◌, refl, sym, ap, subst, ◌∙◌}
use mathlib.Core.Logic.{inl, inr, ⊎_elim}
use mathlib.Core.Bool.{Bool, true, false}
use mathlib.Core.Option.{Option, none, some}
use mathlib.Core.List.{List, [], ◌∷◌}
use Prim.Native.Nat.{ℕ, suc, ◌*◌, ◌-◌, ◌≤◌, ◌<◌}
use lib.Count.{ones}
use lib.Dec.{eqb}
use lib.ListN.{length}
use borrow.Author.Tests.{eqb-true}
use Rattle.lists.proofs.Cases.{not-both, le-or-lt}
use Rattle.std.proofs.lemmas.Bool.{cases_Bool}
use Rattle.field.specs.Arithmetic.{Prime}
use Rattle.field.specs.declared.Width.{Width}
use Rattle.field.specs.Modulus.{prime_of}
use Rattle.field.proofs.Primes.{prime-of}
use Rattle.happy.specs.Happy.{happy_set}
use Rattle.parties.specs.Parties.{member, entry}
use Rattle.tables.proofs.Tables.{kept-front, kept_whole, kept-many, kept-not}
use Rattle.recovery.specs.Recovery.{repair}
use Rattle.answers.specs.declared.Stage.{Stage}
use Rattle.answers.specs.declared.Stage.TheVariants.{Waiting, Dealt, Reported, Holding, Closed}
use Rattle.answers.specs.declared.Refusal.TheVariants.{WrongSize, WrongNumber, WrongLength, WrongStage, WrongTable, WrongWidth}
use Rattle.answers.specs.declared.Answer.TheVariants.{Done}
use Rattle.lamp.specs.declared.Lamp.{Lamp}
use Rattle.lamp.specs.declared.Reply.{Reply}
use Rattle.lamp.specs.Lamp.{made_with, its_prime, table_of, reply, with_deal, with_pairs, at_end, repaired, settled, opening, opened, Call}
use Rattle.lamp.specs.Lamp.{take_deal, say_pair, hear_pairs, settle, open_shares, outcome, step, make_with}
use Rattle.agreement.specs.Setting.{setting}
use Rattle.agreement.specs.Demand1.{Rows, Replies, NoColumnFits, NoOpeningFits, refusals, AcceptedSays, making_refusals, Fresh, Demand1}
use Rattle.agreement.specs.Demand3.{Gives}
use Rattle.agreement.specs.Demand2.{Settles, Opens, FewAgree, standing}
use Rattle.agreement.proofs.Rows.{once, none-some}
use Rattle.agreement.proofs.Outcomes.{settled-rejects, settled-happy, settled-mended, settled-repaired}
use Rattle.agreement.proofs.Settling.{goes, not-rejected, rejects-right, repairs-right}
use Rattle.agreement.proofs.Rightness.{goes-open, opens-right}
use Rattle.agreement.proofs.Guards.{size-test, party-test, same-width, width-test, same_test, table-test, at_stage}
use Rattle.agreement.proofs.Guards.{stage-test, waiting-test, Guard, against, replying, seven}
use Rattle.agreement.proofs.Sayings.{says, reports}
use Rattle.agreement.proofs.DeskAndRecord.{deals, reads, reads_wide, reads_old, writes}
use Rattle.std.specs.Prelude.{Ok}
use Rattle.answers.specs.Refusals.{number_of}

-- ---- what settling and opening answer, where nothing is wrong with the call
abbrev ending : Lamp → List ℕ → Rows Lamp
ending l rs =
    (8, FewAgree l.party.n l.party.t rs, standing l Closed 0 0)
    ∷ (9, NoColumnFits l (happy_set rs), standing l Closed (happy_set rs) 0)
    ∷ []

module _ (l : Lamp) (P : Prime (its_prime l.party)) where
  abbrev p : ℕ
  p = its_prime l.party

  module _ (rs : List ℕ) (h : Settles l rs) where
    abbrev S : ℕ
    S = happy_set rs

    abbrev Ends : Reply → Type 0
    Ends = Replies (ending l rs) (AcceptedSays l (settle rs))

    number : {r : Reply} → settled l S ≡ r → number_of (step l (settle rs)).answer ≡ number_of r.answer
    number e = ap (λ (z : Reply). number_of z.answer) (goes l P rs h ∙ e)

    ends : Ends (settled l S)
    unfolding at_end
    ends =
        ⊎_elim (λ many. ⊎_elim (happy many) (mended many) (cases_Bool (member S l.party.number))) rejected
        (le-or-lt (l.party.n - l.party.t) (ones S))
      where
        rejected : ones S < l.party.n - l.party.t → Ends (settled l S)
        rejected few =
            let e = settled-rejects l S few in
            subst Ends (sym e) (inl ((rejects-right l P rs h).0 (number e), refl, refl))

        enough : l.party.n - l.party.t ≤ ones S → FewAgree l.party.n l.party.t rs → ⊥
        enough many few = not-rejected l P rs h many ((rejects-right l P rs h).1 few)

        happy : l.party.n - l.party.t ≤ ones S → member S l.party.number ≡ true → Ends (settled l S)
        happy many m =
            subst Ends (sym (settled-happy l S many m)) (inr (enough many, inr (λ w. not-both m w.0, (refl, ((refl, refl), refl)))))

        mended : l.party.n - l.party.t ≤ ones S → member S l.party.number ≡ false → Ends (settled l S)
        mended many m = by found refl
          where
            found : Option (List ℕ)
            found = repair p l.party.n l.party.t (table_of l.party) S l.sharing.heard

            by : (o : Option (List ℕ)) → found ≡ o → Ends (settled l S)
            by none q =
                let e = settled-mended l S many m ∙ ap (repaired l S) q in
                subst Ends (sym e) (inr (enough many, inl ((m, (repairs-right l P rs h many m).none_fits.0 (number e)), refl, refl)))
            by (some f) q =
                let e = settled-repaired l S many f m q in
                subst Ends (sym e) (inr (
                  enough many,
                  inr (
                    λ w. none-some _ 9 (number e) ((repairs-right l P rs h many m).none_fits.1 w.1),
                    (refl, ((refl, refl), refl)),
                  ),
                ))

  module _ (w : Width) (xs : List ℕ) (h : Opens l w xs) where
    opening-number : {o : Option (List ℕ)} → opening l xs ≡ o
        → number_of (step l (open_shares w xs)).answer ≡ number_of (opened l o).answer
    opening-number q = ap (λ (z : Reply). number_of z.answer) (goes-open l P w xs h ∙ ap (opened l) q)

    opens : (o : Option (List ℕ)) → opening l xs ≡ o
        → Replies ((10, NoOpeningFits l xs, l) ∷ []) (AcceptedSays l (open_shares w xs)) (opened l o)
    opens none q = inl ((opens-right l P w xs h).none_fits.0 (opening-number q), refl, refl)
    opens (some f) q =
        inr (
          λ fits-none. none-some _ 10 (opening-number q) ((opens-right l P w xs h).none_fits.1 fits-none),
          (refl, refl),
        )

  -- ---- the calls
  module _ (long : length l.sharing.heard ≡ 16) where
    -- Behind the tests of the party: one of the width, of a call that is lent numbers of the field; those of a lent list; a saying's.
    abbrev party_guards : List Guard → List Guard
    party_guards more =
        against WrongSize (size-test l.party.n l.party.t)
        ∷ against WrongNumber (party-test l.party.n l.party.number)
        ∷ more

    abbrev width_guards : Width → List Guard → List Guard
    width_guards w more = party_guards (against WrongWidth (width-test w l.party.width) ∷ more)

    abbrev lent_guards : ℕ → ℕ → Stage → List Guard
    lent_guards have want stage =
        against WrongLength (same_test have want)
        ∷ against WrongTable (table-test p l.party.n (table_of l.party))
        ∷ against WrongStage (stage-test stage l)
        ∷ []

    abbrev saying_guards : ℕ → List Guard
    saying_guards j =
        against WrongNumber (party-test l.party.n j)
        ∷ against WrongTable (table-test p l.party.n (table_of l.party))
        ∷ against WrongStage (waiting-test l)
        ∷ []

    calls : (c : Call) → Replies (refusals l c) (AcceptedSays l c) (step l c)
    unfolding step with_deal with_pairs
    calls (take_deal w d) =
        replying l (outcome l (take_deal w d)) (AcceptedSays l (take_deal w d)) []
        (width_guards w (lent_guards (length d) (2 * suc l.party.t) Waiting))
        (λ all. (refl, ((refl, refl), refl)))
    calls (say_pair j) =
        replying l (outcome l (say_pair j)) (AcceptedSays l (say_pair j)) [] (party_guards (saying_guards j)) (λ all. (refl, (says l j, refl)))
    calls (hear_pairs w hs) =
        replying l (outcome l (hear_pairs w hs)) (AcceptedSays l (hear_pairs w hs)) []
        (width_guards w (lent_guards (length hs) (2 * l.party.n) Dealt))
        (λ all. (refl, ((refl, refl), refl, reports l hs)))
    calls (settle rs) =
        let alike : Bool = eqb (entry rs l.party.number) l.sharing.report in
        replying l (outcome l (settle rs)) (AcceptedSays l (settle rs))
        ((7, entry rs l.party.number ≡ l.sharing.report → ⊥, l) ∷ ending l rs)
        (party_guards (lent_guards (length rs) l.party.n Reported))
        (λ (a, (b, (c, (k, (d, u))))).
        seven l (settled l (happy_set rs)) (AcceptedSays l (settle rs)) (ending l rs) alike
        (same_test (entry rs l.party.number) l.sharing.report) (λ e.
        ends rs (record {
          valid = record { size = a; party = b; table = k };
          stage = at_stage Reported l d;
          heard_all = long;
          long = eqb-true _ _ c;
          own = eqb-true _ _ e;
        })))
    calls (open_shares w xs) =
        replying l (outcome l (open_shares w xs)) (AcceptedSays l (open_shares w xs)) ((10, NoOpeningFits l xs, l) ∷ [])
        (width_guards w (lent_guards (length xs) l.party.n Holding))
        (λ (a, (b, (v, (c, (k, (d, u)))))).
        opens w xs (record {
          valid = record { size = a; party = b; table = k };
          own_width = same-width w l.party.width v;
          stage = at_stage Holding l d;
          long = eqb-true _ _ c;
        })
        (opening l xs) refl)

-- ---- making
makes : (w : Width) (n t i : ℕ) (T : List ℕ)
    → Replies (making_refusals w n t i T) (λ r. Gives r.answer [] × (r.lamp ≡ made_with w n t i T)) (make_with w n t i T)
unfolding make_with
makes w n t i T =
    let l : Lamp = made_with w n t i T in
    replying l (reply l (Ok Done)) (λ r. Gives r.answer [] × (r.lamp ≡ l)) []
    (against WrongSize (size-test n t)
    ∷ against WrongNumber (party-test n i)
    ∷ against WrongLength (same_test (length T) n)
    ∷ against WrongTable (table-test (prime_of w) n T)
    ∷ [])
    (λ all. (refl, ((refl, refl), refl)))

fresh : (w : Width) (n t i : ℕ) (T : List ℕ) → Fresh w n t i T (made_with w n t i T)
fresh w n t i T = record {
  same-width = refl;
  same_n = refl;
  same_t = refl;
  same_number = refl;
  waiting = refl;
  no_share = refl;
  no_set = refl;
  same_table = kept-front n T;
  zeros_behind = λ few same. sym (kept_whole n T few same);
  no_table = λ d. ⊎_elim (λ few. sym (kept-not n T few (λ e. d (few, e)))) (λ many. sym (kept-many n T many)) (le-or-lt n 16);
}

-- DEMAND 1.
pub demand1 : Demand1
demand1 = record {
  makes = makes;
  fresh = fresh;
  calls = λ l long c. calls l (prime-of l.party.width) long c;
  deals = λ w n t T. deals (setting w n t T);
  reads = reads;
  reads_wide = reads_wide;
  reads_old = reads_old;
  writes = writes;
}

-- ---- nothing else meets it

-- Whatever answers calls so gives the numbers that `step` gives and, refused, leaves the lamp that `step` leaves.
pub pinned : (f : Lamp → Call → Reply)
    → ((l : Lamp) → length l.sharing.heard ≡ 16 → (c : Call) → Replies (refusals l c) (AcceptedSays l c) (f l c))
    → (l : Lamp) → length l.sharing.heard ≡ 16 → (c : Call)
    → (number_of (f l c).answer ≡ number_of (step l c).answer)
    × ((k : ℕ) → number_of (f l c).answer ≡ some k → (f l c).lamp ≡ (step l c).lamp)
pinned f h l long c = once _ _ _ _ _ _ (refusals l c) (h l long c) (demand1.calls l long c)
