-- A lamp along its list of calls: the list collapses to its deal, its pairs and its reports.
--   settled-ends   what holds of the lamp at its end, holding or closed, holds after settling
--   Kept l m     m has the party, the row and the column of l
--   after_kept   no call after the deal changes them; late-awaits: nothing is awaited once the lamp has settled
use mathlib.Core.Path.{◌≡◌, refl, sym, ap, subst, ◌∙◌}
use mathlib.Core.Logic.{⊎_elim}
use mathlib.Core.Bool.{Bool, true, false, ◌&&◌, and-eq-true_iff, true≢false}
use mathlib.Core.Option.{Option, none, some}
use mathlib.Core.List.{List, [], ◌∷◌}
use Prim.Native.Nat.{ℕ, ◌-◌}
use lib.Count.{ones}
use lib.Dec.{eqb, leb}
use lib.ListN.{length}
use Rattle.lists.proofs.Cases.{not-both}
use Rattle.std.proofs.lemmas.Bool.{cases_Bool, cond_both, and_right}
use Rattle.happy.specs.Happy.{happy_set}
use Rattle.parties.specs.Parties.{member, entry}
use Rattle.answers.specs.declared.Stage.TheVariants.{Waiting, Dealt, Reported, Holding, Closed}
use Rattle.lamp.specs.declared.Lamp.{Lamp}
use Rattle.lamp.specs.declared.Reply.{Reply}
use Rattle.recovery.specs.Recovery.{repair}
use Rattle.answers.specs.Fits.{constant}
use Rattle.lamp.specs.Lamp.{Valid, its_prime, table_of, is_at, column_of_lamp, with_pairs, at_end, repaired, settled, Call, take_deal}
use Rattle.lamp.specs.Lamp.{say_pair, hear_pairs, settle, open_shares, step, after}
use Rattle.agreement.specs.Calls.{Never}
use Rattle.agreement.proofs.Steps.{deal_fits, pairs_fit, awaited, hears, settles, quiet}

-- Settling leaves the lamp at its end, holding or closed.
pub settled-ends : (l : Lamp) (Q : Lamp → Type 0) → ((S v : ℕ) → Q (at_end l Holding S v)) → ((S v : ℕ) → Q (at_end l Closed S v))
    → (S : ℕ) → Q (settled l S).lamp
unfolding settled
settled-ends l Q held closed S =
    cond_both (leb (l.party.n - l.party.t) (ones S)) _ _ (λ (r : Reply). Q r.lamp)
    (λ many. cond_both (member S l.party.number) _ _ (λ (r : Reply). Q r.lamp)
    (λ in_it. held S (constant (column_of_lamp l)))
    (λ out. mended (repair (its_prime l.party) l.party.n l.party.t (table_of l.party) S l.sharing.heard)))
    (λ few. closed 0 0)
  where
    mended : (o : Option (List ℕ)) → Q (repaired l S o).lamp
    mended none = closed S 0
    mended (some f) = held S (constant f)

-- ---- what no call changes after the deal
pub record Kept (l m : Lamp) : Type 0 where
  pub same_party : m.party ≡ l.party
  pub same_row : m.sharing.row ≡ l.sharing.row
  pub same_column : m.sharing.column ≡ l.sharing.column
  pub started : is_at Waiting m.sharing ≡ false

pub kept-valid : (l m : Lamp) → Kept l m → Valid l.party → Valid m.party
kept-valid l m k v = subst Valid (sym k.same_party) v

kept_trans : (l m k : Lamp) → Kept l m → Kept m k → Kept l k
kept_trans l m k a b = record {
  same_party = b.same_party ∙ a.same_party;
  same_row = b.same_row ∙ a.same_row;
  same_column = b.same_column ∙ a.same_column;
  started = b.started;
}

pub settled-kept : (l : Lamp) (S : ℕ) → Kept l (settled l S).lamp
unfolding at_end
settled-kept l =
    settled-ends l (Kept l)
    (λ S v. record { same_party = refl; same_row = refl; same_column = refl; started = refl })
    (λ S v. record { same_party = refl; same_row = refl; same_column = refl; started = refl })

pairs-kept : (l : Lamp) (hs : List ℕ) → Kept l (with_pairs l hs)
unfolding with_pairs
pairs-kept l hs = record { same_party = refl; same_row = refl; same_column = refl; started = refl }

self-kept : (l m : Lamp) → is_at Waiting l.sharing ≡ false → m ≡ l → Kept l m
self-kept l m h e =
    subst (Kept l) (sym e) (record { same_party = refl; same_row = refl; same_column = refl; started = h })

step_kept : (l : Lamp) (c : Call) → Valid l.party → is_at Waiting l.sharing ≡ false → Kept l (step l c).lamp
step_kept l c valid h = ⊎_elim (moved c) (λ e. self-kept l (step l c).lamp h (quiet l valid c e)) (cases_Bool (awaited l c))
  where
    moved : (c : Call) → awaited l c ≡ true → Kept l (step l c).lamp
    moved (take_deal w d) e = absurd (not-both ((and-eq-true_iff (deal_fits l w d) (is_at Waiting l.sharing)).0 e).1 h)
    moved (say_pair j) e = absurd (true≢false (sym e))
    moved (hear_pairs w hs) e = subst (λ r. Kept l r.lamp) (sym (hears l valid w hs e)) (pairs-kept l hs)
    moved (settle rs) e = subst (λ r. Kept l r.lamp) (sym (settles l valid rs e)) (settled-kept l (happy_set rs))
    moved (open_shares w xs) e = absurd (true≢false (sym e))

pub after_kept : (l : Lamp) (cs : List Call) → Valid l.party → is_at Waiting l.sharing ≡ false → Kept l (after l cs)
after_kept l [] valid h = self-kept l l h refl
after_kept l (c ∷ cs) valid h =
    let k = step_kept l c valid h in
    kept_trans l (step l c).lamp (after l (c ∷ cs)) k
    (after_kept (step l c).lamp cs (kept-valid l (step l c).lamp k valid) k.started)

-- ---- a lamp that settled awaits nothing
pub record Late (l : Lamp) : Type 0 where
  pub waits : is_at Waiting l.sharing ≡ false
  pub hears_not : is_at Dealt l.sharing ≡ false
  pub settles_not : is_at Reported l.sharing ≡ false

pub settled-late : (l : Lamp) (S : ℕ) → Late (settled l S).lamp
unfolding at_end
settled-late l =
    settled-ends l Late
    (λ S v. record { waits = refl; hears_not = refl; settles_not = refl })
    (λ S v. record { waits = refl; hears_not = refl; settles_not = refl })

pub late-awaits : (l : Lamp) → Late l → (c : Call) → awaited l c ≡ false
late-awaits l h (take_deal w d) = and_right (deal_fits l w d) (is_at Waiting l.sharing) h.waits
late-awaits l h (say_pair j) = refl
late-awaits l h (hear_pairs w hs) = and_right (pairs_fit l w hs) (is_at Dealt l.sharing) h.hears_not
late-awaits l h (settle rs) =
    ap (λ b. b && eqb (entry rs l.party.number) l.sharing.report)
    (and_right (eqb (length rs) l.party.n) (is_at Reported l.sharing) h.settles_not)
late-awaits l h (open_shares w xs) = refl

pub never-all : (test : Call → Bool) → ((c : Call) → test c ≡ false) → (cs : List Call) → Never test cs
never-all test h [] = tt
never-all test h (c ∷ cs) = (h c, never-all test h cs)

pub never-map : (f g : Call → Bool) → ((c : Call) → f c ≡ false → g c ≡ false) → (cs : List Call) → Never f cs → Never g cs
never-map f g h [] k = tt
never-map f g h (c ∷ cs) k = (h c k.0, never-map f g h cs k.1)
