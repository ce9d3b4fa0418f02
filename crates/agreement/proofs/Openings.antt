-- What shares open, where those of the honest that were sent lie on one f: f with 2t + 1 of them there, and nothing else with fewer.
--   opens_enough, opens_no_other           of a list by itself
--   own-opens-enough, own-opens-no-other   with one party's own share in its own place
--   honest-there                           where every honest lamp sent, all but t of the n are there
use mathlib.Core.Path.{◌≡◌, sym, ap, subst, ◌∙◌}
use mathlib.Core.Bool.{Bool, true, not, ◌&&◌, ◌||◌, and-eq-true_iff}
use mathlib.Core.Option.{some}
use mathlib.Core.List.{List, map}
use Prim.Native.Nat.{ℕ, suc, ◌+◌, ◌*◌, ◌-◌, ◌≤◌, ◌<◌}
use native.Mathlib.Decide.{ℕ_discrete}
use native.Mathlib.Omega.{arith}
use borrow.Author.Tests.{eq-eqb, ne_eqb, lt-ltb, ltb-true}
use lib.Dec.{ltb, eqb}
use lib.ListN.{length, get_or, set, length-set}
use lib.Seq.{get_or-set_same, get_or-set_other}
use Rattle.lists.specs.Choices.{count}
use Rattle.lists.proofs.Choices.{count_map}
use Rattle.polynomial.specs.Polynomial.{Poly, value}
use Rattle.polynomial.proofs.Division.{value-lt}
use Rattle.fit.specs.Opening.{wrong, opening_of}
use Rattle.fit.proofs.Opening.{opening-found, opening-other, wrong-marked}
use Rattle.parties.specs.Parties.{is_party, parties, entry}
use Rattle.parties.proofs.Parties.{party-facts, party-true}
use Rattle.agreement.specs.Setting.{Setting, Legal, prime, terms, point}
use Rattle.agreement.specs.Demand3.{Execution, Honest, honest_there}
use Rattle.agreement.proofs.Counting.{count-parties, honest-all}
use Rattle.agreement.proofs.Geometry.{marks, points-fine, at_place, marks-long, agreeing}

module _ (s : Setting) (legal : Legal s) (honest : ℕ → Bool) (few : count (λ i. not (honest i)) (parties s.n) ≤ s.t) where
  -- A value is a residue.
  below : (f : List ℕ) (j : ℕ) → value (prime s) f (point s j) < prime s
  below f j = value-lt (prime s) f (point s j) (omega (arith, legal.prime.two))

  -- ---- n values, and those of the honest that were sent lie on f
  module _ (f ys : List ℕ) (hf : Poly (prime s) (terms s) f) (l : length ys ≡ s.n) where
    same : length s.table ≡ length ys
    same = legal.table.size ∙ sym l

    module _
        (agrees : (i : ℕ) → is_party s.n i ≡ true → honest i ≡ true → entry ys i < prime s → value (prime s) f (point s i) ≡ entry ys i)
      where
        -- Only the faulty differ.
        few-wrong : wrong (prime s) f s.table ys ≤ s.t
        few-wrong =
            omega (
              arith,
              few,
              count_map not honest (parties s.n),
              wrong-marked (prime s) f (map honest (parties s.n)) s.table ys (marks-long s legal honest) same
                  (λ k e was-sent. let m = marks s.n honest k e in
                  let place : k ≡ suc k - 1 = omega arith in
                  at_place s legal ys f k (agrees (suc k) (party-true s.n (suc k) (omega arith) (omega arith)) m.1
                  (subst (λ z. get_or ys z 0 < prime s) place was-sent))),
            )

        pub opens_no_other : (g : List ℕ) → opening_of (prime s) s.t s.table ys ≡ some g → g ≡ f
        opens_no_other = opening-other (prime s) legal.prime s.t s.table ys same (points-fine s legal) f hf few-wrong

        pub opens_enough : 2 * s.t + 1 ≤ count (λ i. honest i && ltb (entry ys i) (prime s)) (parties s.n)
            → opening_of (prime s) s.t s.table ys ≡ some f
        opens_enough many =
            opening-found (prime s) legal.prime s.t s.table ys same (points-fine s legal) f (record {
              poly = hf;
              many = omega (
                arith,
                many,
                agreeing s legal (λ i. honest i && ltb (entry ys i) (prime s)) ys f l
                    (λ i party e. let both = (and-eq-true_iff (honest i) (ltb (entry ys i) (prime s))).0 e in
                    agrees i party both.0 (ltb-true (entry ys i) (prime s) both.1)),
              );
              few = few-wrong;
            })

  -- ---- the same as party i opens them, whose own share is f's value at its point
  module _ (f : List ℕ) (hf : Poly (prime s) (terms s) f) (i : ℕ) (party : is_party s.n i ≡ true) (ys : List ℕ)
      (long : length ys ≡ s.n) where
    -- f's value for party j, and the list with lamp i's own in its own place.
    abbrev on : ℕ → ℕ
    on j = value (prime s) f (point s j)

    abbrev own : List ℕ
    own = set ys (i - 1) (on i)

    own-place : (j : ℕ) → j ≡ i → entry own j ≡ on j
    own-place j q =
        let range = party-facts s.n i party in
        subst (λ k. entry own k ≡ on k) (sym q) (get_or-set_same ys (i - 1) (on i) 0 (omega arith))

    other_place : (j : ℕ) → is_party s.n j ≡ true → (j ≡ i → ⊥) → entry own j ≡ entry ys j
    other_place j pj d =
        let range-i = party-facts s.n i party in
        let range-j = party-facts s.n j pj in
        get_or-set_other ys (i - 1) (j - 1) (on i) 0 (λ q. d (omega arith))

    -- Which shares are there for lamp i.
    abbrev there : ℕ → Bool
    there j = eqb j i || ltb (entry ys j) (prime s)

    module _ (places : (j : ℕ) → is_party s.n j ≡ true → honest j ≡ true → (j ≡ i → ⊥) → entry ys j < prime s → entry ys j ≡ on j) where
      on-f : (j : ℕ) → is_party s.n j ≡ true → honest j ≡ true → entry own j < prime s → on j ≡ entry own j
      on-f j pj gj was-sent =
          elim (ℕ_discrete j i) [
            | yes q ↦ sym (own-place j q)
            | no d ↦
                let same = other_place j pj d in
                sym (same ∙ places j pj gj d (subst (λ z. z < prime s) same was-sent))
          ]

      pub own-opens-no-other : (g : List ℕ) → opening_of (prime s) s.t s.table own ≡ some g → g ≡ f
      own-opens-no-other = opens_no_other f own hf (length-set ys (i - 1) (on i) ∙ long) on-f

      pub own-opens-enough : 2 * s.t + 1 ≤ count (λ j. honest j && there j) (parties s.n)
          → opening_of (prime s) s.t s.table own ≡ some f
      own-opens-enough many =
          opens_enough f own hf (length-set ys (i - 1) (on i) ∙ long) on-f
          (omega (arith, many, count-parties s.n (λ j. honest j && there j) (λ j. honest j && ltb (entry own j) (prime s)) sent-too))
        where
          sent-too : (j : ℕ) → is_party s.n j ≡ true → honest j && there j ≡ true → honest j && ltb (entry own j) (prime s) ≡ true
          sent-too j pj e =
              let both = (and-eq-true_iff (honest j) (there j)).0 e in
              let by : ltb (entry own j) (prime s) ≡ true = elim (ℕ_discrete j i) [
                | yes q ↦ lt-ltb (entry own j) (prime s) (subst (λ z. z < prime s) (sym (own-place j q)) (below f j))
                | no d ↦
                    ap (λ z. ltb z (prime s)) (other_place j pj d)
                    ∙ sym (ap (λ b. b || ltb (entry ys j) (prime s)) (ne_eqb j i d)) ∙ both.1
              ] in
              (and-eq-true_iff (honest j) (ltb (entry own j) (prime s))).1 (both.0, by)

-- ---- where every honest lamp sent, all but t of the n are there
-- Lamp i's own share needs no sending.
pub honest-there : (s : Setting) (e : Execution) → count (λ j. not (e.honest j)) (parties s.n) ≤ s.t → (i : ℕ) (ys : List ℕ)
    → ((j : ℕ) → Honest s e j → (j ≡ i → ⊥) → entry ys j < prime s) → s.n ≤ honest_there s e i ys + s.t
honest-there s e few i ys sent =
    honest-all e.honest (λ j. eqb j i || ltb (entry ys j) (prime s)) s.n s.t few (λ j party good.
    elim (ℕ_discrete j i) [
      | yes q ↦ ap (λ b. b || ltb (entry ys j) (prime s)) (eq-eqb j i q)
      | no d ↦
          ap (λ b. b || ltb (entry ys j) (prime s)) (ne_eqb j i d)
          ∙ lt-ltb (entry ys j) (prime s) (sent j (record { party = party; good = good }) d)
    ])
