-- What a lamp says and reports, where its call is accepted.
--   reports     its report has ones exactly for those whose two numbers are right
--   says        its pair is nothing for itself or with an unsound deal, else its row and its column at the other's point
--   says-once   that determines the values
use mathlib.Core.Path.{◌≡◌, refl, sym, ap, ◌∙◌}
use mathlib.Core.Logic.{⊎_elim}
use mathlib.Core.Bool.{Bool, true, false}
use mathlib.Core.List.{List, [], ◌∷◌}
use Prim.Native.Nat.{ℕ, suc}
use native.Mathlib.Decide.{ℕ_discrete}
use Rattle.lists.proofs.Cases.{not-both}
use Rattle.std.proofs.lemmas.Bool.{cases_Bool}
use Rattle.lists.proofs.Masks.{mask_lt}
use Rattle.field.specs.declared.Width.{Width}
use Rattle.field.specs.declared.Width.TheVariants.{Narrow, Wide}
use Rattle.field.specs.Modulus.{prime_of}
use Rattle.parties.specs.Parties.{not_sent, member}
use Rattle.parties.proofs.Parties.{party-true}
use Rattle.consistency.specs.Deal.{sound, confirms, report_of}
use Rattle.consistency.proofs.Reports.{pair-self, pair-unsound, pair-sound}
use Rattle.answers.specs.declared.Answer.TheVariants.{Pair}
use Rattle.answers.specs.Answers.{values_of, Answered}
use Rattle.lamp.specs.declared.Lamp.{Lamp}
use Rattle.lamp.specs.Lamp.{its_prime, table_of, row_of_lamp, column_of_lamp, said_pair, report_from}
use Rattle.agreement.specs.Demand1.{Among, IsSound, unsent, SaysNothing, Says, Reports}
use Rattle.agreement.proofs.Deals.{sound-facts, sound-true, confirmed, confirms-true, report-bit}
use Rattle.std.specs.Prelude.{Ok}

-- ---- a lamp's deal is sound
module _ (l : Lamp) where
  -- Its prime.
  abbrev p : ℕ
  p = its_prime l.party

  abbrev is_sound : Bool
  is_sound = sound p (table_of l.party) l.party.number (row_of_lamp l) (column_of_lamp l)

  soundly : is_sound ≡ true → IsSound l
  soundly = sound-facts p (table_of l.party) l.party.number (row_of_lamp l) (column_of_lamp l)

  sounds : IsSound l → is_sound ≡ true
  sounds = sound-true p (table_of l.party) l.party.number (row_of_lamp l) (column_of_lamp l)

  unsound : (IsSound l → ⊥) → is_sound ≡ false
  unsound d = ⊎_elim (λ e. absurd (d (soundly e))) (λ e. e) (cases_Bool is_sound)

-- ---- what a saying answers

-- What is written for a number that is not sent, of either width.
not-sent : (w : Width) → not_sent (prime_of w) ≡ unsent w
unfolding not_sent
not-sent Narrow = refl
not-sent Wide = refl

module _ (l : Lamp) (j : ℕ) where
  abbrev T : List ℕ
  T = table_of l.party

  abbrev said : ℕ × ℕ
  said = said_pair l j

  nothing : (not_sent (p l), not_sent (p l)) ≡ said → SaysNothing l (Ok (Pair said.0 said.1))
  nothing e = (refl, ap (λ z. z.0 ∷ z.1 ∷ []) (sym e) ∙ ap (λ v. v ∷ v ∷ []) (not-sent l.party.width))

  pub says : Says l j (Ok (Pair said.0 said.1))
  unfolding said_pair
  says = record {
    itself = λ e. nothing (pair-self (p l) T l.party.number (row_of_lamp l) (column_of_lamp l) j e);
    unsound = λ d. elim (ℕ_discrete l.party.number j) [
      | yes e ↦ nothing (pair-self (p l) T l.party.number (row_of_lamp l) (column_of_lamp l) j e)
      | no away ↦ nothing (pair-unsound (p l) T l.party.number (row_of_lamp l) (column_of_lamp l) j away (unsound l d))
    ];
    sound = λ away s.
        let is = pair-sound (p l) T l.party.number (row_of_lamp l) (column_of_lamp l) j away (sounds l s) in
        (refl, ap (λ z. z.0 ∷ z.1 ∷ []) (sym is));
  }

-- Whatever says so says the same values.
pub says-once : (l : Lamp) (j : ℕ) (a b : Answered) → Says l j a → Says l j b → values_of a ≡ values_of b
says-once l j a b f g =
    elim (ℕ_discrete l.party.number j) [
      | yes e ↦ silent (f.itself e) (g.itself e)
      | no d ↦ ⊎_elim
          (λ (e : is_sound l ≡ true). let s = soundly l e in (f.sound d s).1 ∙ sym (g.sound d s).1)
          (λ (e : is_sound l ≡ false). let u : IsSound l → ⊥ = λ s. not-both (sounds l s) e in silent (f.unsound u) (g.unsound u))
          (cases_Bool (is_sound l))
    ]
  where
    silent : SaysNothing l a → SaysNothing l b → values_of a ≡ values_of b
    silent x y = x.1 ∙ sym y.1

-- ---- what a hearing reports
pub reports : (l : Lamp) (hs : List ℕ) → Reports l hs (report_from l hs)
unfolding report_from report_of
reports l hs = record {
  within = mask_lt (λ k. confirms (p l) T i (row_of_lamp l) (column_of_lamp l) hs (suc k)) l.party.n;
  bits = λ j a. (
    λ e.
        let c = confirmed (p l) T i (row_of_lamp l) (column_of_lamp l) hs j (sym (bit-of j a) ∙ e) in
        record { other = c.other; soundly = soundly l c.soundly; first_right = c.first; second_right = c.second },
    λ c.
        bit-of j a ∙ confirms-true (p l) T i (row_of_lamp l) (column_of_lamp l) hs j (record {
          other = c.other;
          soundly = sounds l c.soundly;
          first = c.first_right;
          second = c.second_right;
        }),
  );
}
  where
    i : ℕ
    i = l.party.number

    T : List ℕ
    T = table_of l.party

    bit-of : (j : ℕ) → Among l.party.n j
        → member (report_of (p l) l.party.n T i (row_of_lamp l) (column_of_lamp l) hs) j
        ≡ confirms (p l) T i (row_of_lamp l) (column_of_lamp l) hs j
    bit-of j a =
        report-bit (p l) T i (row_of_lamp l) (column_of_lamp l) hs j l.party.n (party-true l.party.n j a.from_one a.to_n)
