-- Every call to deal, hear or settle, but for the three that bring the lamp something, is refused with 3, 4, 7 or 18 and changes nothing.
use mathlib.Core.Path.{◌≡◌, refl, sym, ap, ap₂, subst, ◌∙◌}
use mathlib.Core.Logic.{◌⊎◌, inl, inr, ⊎_elim}
use mathlib.Core.Bool.{Bool, true, false}
use mathlib.Core.Option.{some}
use mathlib.Core.List.{List, [], ◌∷◌, ◌++◌, head-eq_of_cons-eq, tail-eq_of_cons-eq}
use Prim.Native.Nat.{ℕ}
use Rattle.lamp.specs.declared.Lamp.{Lamp}
use Rattle.lamp.specs.declared.Reply.{Reply}
use Rattle.answers.specs.Refusals.{refusal_number, number_of}
use Rattle.lamp.specs.Lamp.{Valid, refuse, Call, take_deal, hear_pairs, settle, step, after}
use Rattle.agreement.specs.Setting.{Setting, lamp_at, reply_at, answer_at}
use Rattle.agreement.specs.Calls.{Run, to_deal, to_pairs, to_reports, At, Never, moves}
use Rattle.agreement.specs.Demand3.{Brings, Stray, Refuses}
use Rattle.agreement.proofs.Steps.{awaited, Shut, stray, all_quiet}
use Rattle.agreement.proofs.Collapse as one

-- Where two cuts of one list lie: the first before the second, at it, or behind it.
pub cuts : {A : Type 0} (xs : List A) (c : A) (ys us : List A) (b : A) (bs : List A) → xs ++ c ∷ ys ≡ us ++ b ∷ bs
    → ((zs : List A) × (us ≡ xs ++ c ∷ zs)) ⊎ ((xs ≡ us) ⊎ ((zs : List A) × (xs ≡ us ++ b ∷ zs) × (zs ++ c ∷ ys ≡ bs)))
cuts [] c ys [] b bs e = inr (inl refl)
cuts [] c ys (a ∷ us) b bs e = inl (us, ap (λ z. z ∷ us) (sym (head-eq_of_cons-eq e)))
cuts (x ∷ xs) c ys [] b bs e = inr (inr (xs, ap (λ z. z ∷ xs) (head-eq_of_cons-eq e), tail-eq_of_cons-eq e))
cuts (x ∷ xs) c ys (a ∷ us) b bs e =
    let q = head-eq_of_cons-eq e in
    elim (cuts xs c ys us b bs (tail-eq_of_cons-eq e)) [
      | inl h ↦ inl (h.0, ap₂ ◌∷◌ (sym q) h.1)
      | inr (inl h) ↦ inr (inl (ap₂ ◌∷◌ q h))
      | inr (inr h) ↦ inr (inr (h.0, ap₂ ◌∷◌ q h.1, h.2))
    ]

pub never-at : (test : Call → Bool) (xs : List Call) (c : Call) (ys : List Call) → Never test (xs ++ c ∷ ys)
    → Never test xs × (test c ≡ false)
never-at test [] c ys h = (tt, h.0)
never-at test (x ∷ xs) c ys h = let k = never-at test xs c ys h.1 in ((h.0, k.0), k.1)

module _ (s : Setting) (i : ℕ) where
  -- The lamp is l there, and l refuses the call.
  shut-stray : (xs : List Call) (c : Call) (l : Lamp) → lamp_at s i xs ≡ l → Shut l (step l c) → Stray s i xs c
  shut-stray xs c l here shut =
      let is : reply_at s i xs c ≡ refuse l shut.why = ap (λ z. step z c) here ∙ shut.is in
      record {
        unchanged = ap (λ (r : Reply). r.lamp) is ∙ sym here;
        refused =
            ⊎_elim (λ k. inl (number is k))
            (⊎_elim (λ k. inr (inl (number is k)))
            (⊎_elim (λ k. inr (inr (inl (number is k)))) (λ k. inr (inr (inr (number is k))))))
            shut.number;
      }
    where
      number : {k : ℕ} → reply_at s i xs c ≡ refuse l shut.why → refusal_number shut.why ≡ k → Refuses (answer_at s i xs c) k
      number is k = ap (λ (r : Reply). number_of r.answer) is ∙ ap some k

  module _ (ready : one.Ready s i) (cs : List Call) (r : Run) (b : Brings s i cs r) where
    -- A call within a stretch of calls that the lamp l does not await.
    within : (xs ws : List Call) (c : Call) (zs stretch : List Call) (l : Lamp) → Valid l.party → Never (awaited l) stretch
        → ws ++ c ∷ zs ≡ stretch
        → lamp_at s i xs ≡ after l ws → moves c ≡ true → Stray s i xs c
    within xs ws c zs stretch l good never cut here m =
        let k = never-at (awaited l) ws c zs (subst (Never (awaited l)) (sym cut) never) in
        shut-stray xs c l (here ∙ all_quiet l good ws k.0) (stray l good c m k.1)

    -- Before the deal, between deal and pairs, between pairs and reports, and behind the reports.
    before-deal : (xs : List Call) (c : Call) (zs : List Call) → to_deal r ≡ xs ++ c ∷ zs → moves c ≡ true → Stray s i xs c
    before-deal xs c zs cut m =
        within xs xs c zs (to_deal r) (one.start s i ready cs r b) (one.made-valid s i ready)
        (one.start-never s i ready cs r b) (sym cut) refl m

    before-pairs : (xs : List Call) (c : Call) (zs : List Call) → to_pairs r ≡ xs ++ c ∷ zs → moves c ≡ true
        → (xs ≡ to_deal r → ⊥) → Stray s i xs c
    before-pairs xs c zs cut m not-deal =
        elim (cuts xs c zs (to_deal r) (take_deal r.width r.its_deal) r.before_pairs (sym cut)) [
          | inl h ↦ before-deal xs c h.0 h.1 m
          | inr (inl h) ↦ absurd (not-deal h)
          | inr (inr h) ↦
              within xs h.0 c zs r.before_pairs (one.dealt s i ready cs r b) (one.dealt-valid s i ready cs r b)
              (one.dealt-never s i ready cs r b) h.2
              (ap (lamp_at s i) h.1 ∙ one.since-deal s i ready cs r b h.0) m
        ]

    before-reports : (xs : List Call) (c : Call) (zs : List Call) → to_reports r ≡ xs ++ c ∷ zs → moves c ≡ true
        → (xs ≡ to_deal r → ⊥) → (xs ≡ to_pairs r → ⊥) → Stray s i xs c
    before-reports xs c zs cut m not-deal not-pairs =
        elim (cuts xs c zs (to_pairs r) (hear_pairs r.width r.its_pairs) r.before_reports (sym cut)) [
          | inl h ↦ before-pairs xs c h.0 h.1 m not-deal
          | inr (inl h) ↦ absurd (not-pairs h)
          | inr (inr h) ↦
              within xs h.0 c zs r.before_reports (one.reported s i ready cs r b) (one.reported-valid s i ready cs r b)
              (one.reported-never s i ready cs r b) h.2
              (ap (lamp_at s i) h.1 ∙ one.since-pairs s i ready cs r b h.0) m
        ]

    pub others : (xs : List Call) (c : Call) → At cs xs c → moves c ≡ true
        → (xs ≡ to_deal r → ⊥) → (xs ≡ to_pairs r → ⊥) → (xs ≡ to_reports r → ⊥) → Stray s i xs c
    others xs c (ys, at) m not-deal not-pairs not-reports =
        elim (cuts xs c ys (to_reports r) (settle r.its_reports) r.rest (sym at ∙ b.list)) [
          | inl h ↦ before-reports xs c h.0 h.1 m not-deal not-pairs
          | inr (inl h) ↦ absurd (not-reports h)
          | inr (inr h) ↦
              within xs [] c [] (c ∷ []) (one.outcome s i ready cs r b).lamp (one.ended-valid s i ready cs r b)
              (one.ended-never s i ready cs r b (c ∷ [])) refl
              (ap (lamp_at s i) h.1 ∙ one.since-settling s i ready cs r b h.0) m
        ]
