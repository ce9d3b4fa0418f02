-- From reports to crossing: honest parties in the happy set have ones for each other, so their rows and columns cross.
-- And with an honest dealer all honest parties agree, so the happy set is large enough.
use mathlib.Core.Path.{◌≡◌, refl, sym, ap, ap₂, subst, ◌∙◌}
use mathlib.Core.Logic.{◌≢◌}
use mathlib.Core.Bool.{Bool, true, not}
use mathlib.Core.List.{List, [], ◌∷◌, Memᴰ}
use Prim.Native.Nat.{ℕ, suc, ◌-◌, ◌*◌, ◌^◌, ◌≤◌, ◌<◌}
use native.Mathlib.Nat.{le_trans}
use native.Mathlib.Decide.{dec_lt, ℕ_discrete}
use native.Mathlib.Omega.{arith}
use lib.Count.{ones}
use lib.ListN.{length, get_or}
use lib.Pow.{pow_mono}
use Rattle.lists.specs.Masks.{bit, mask}
use Rattle.lists.proofs.Masks.{mask_lt, bit_mask, bit-none}
use Rattle.lists.proofs.Cases.{not-both}
use Rattle.polynomial.specs.Polynomial.{Poly, value}
use Rattle.bivariate.proofs.Crossing.{row-poly, column-poly, crossing}
use Rattle.mutual.specs.Agreement.{agree}
use Rattle.happy.specs.Clique.{Clique, Largest}
use Rattle.happy.specs.Happy.{happy_set}
use Rattle.mutual.proofs.Agreement.{agree-iff}
use Rattle.happy.proofs.Happy.{happy-is, happy-enough}
use Rattle.lists.specs.Choices.{count}
use Rattle.parties.specs.Parties.{is_party, parties, member, entry}
use Rattle.parties.proofs.Parties.{sizes-facts, party-facts, party-true, mem-parties}
use Rattle.consistency.specs.Deal.{first_from, second_from, sound, pair_for, report_of}
use Rattle.agreement.specs.Setting.{Setting, Legal, prime, terms, point, row_for, column_for}
use Rattle.agreement.specs.Demand1.{Sound}
use Rattle.agreement.proofs.Counting.{ones-parties, honest-parties}
use Rattle.agreement.proofs.Deals.{sound-facts, sound-true, pair-first, pair-second, Confirmed, confirmed, confirms-true, report-bit}
use Rattle.agreement.proofs.Geometry.{Inside, Crossed, neighbour}

count_same : (a b : ℕ → Bool) (xs : List ℕ) → ((x : ℕ) → Memᴰ x xs → a x ≡ b x) → count a xs ≡ count b xs
count_same a b [] e = refl
count_same a b (x ∷ xs) e =
    rw (e x (Memᴰ.head refl), count_same a b xs (λ y m. e y (Memᴰ.tail m)))

-- What the honest parties hold, hear and report.
pub record Heard (s : Setting) (honest : ℕ → Bool) (rows columns pairs : ℕ → List ℕ) (rs : List ℕ) : Type 0 where
  pub few : count (λ i. not (honest i)) (parties s.n) ≤ s.t
  pub row_sizes : (i : ℕ) → is_party s.n i ≡ true → honest i ≡ true → length (rows i) ≡ terms s
  pub column_sizes : (i : ℕ) → is_party s.n i ≡ true → honest i ≡ true → length (columns i) ≡ terms s
  pub long : length rs ≡ s.n
  pub own : (i : ℕ) → is_party s.n i ≡ true → honest i ≡ true
      → entry rs i ≡ report_of (prime s) s.n s.table i (rows i) (columns i) (pairs i)
  pub firsts : (i j : ℕ) → is_party s.n i ≡ true → honest i ≡ true → is_party s.n j ≡ true → honest j ≡ true → i ≢ j
      → first_from (pairs i) j ≡ (pair_for (prime s) s.table j (rows j) (columns j) i).0
  pub seconds : (i j : ℕ) → is_party s.n i ≡ true → honest i ≡ true → is_party s.n j ≡ true → honest j ≡ true → i ≢ j
      → second_from (pairs i) j ≡ (pair_for (prime s) s.table j (rows j) (columns j) i).1

module _ (s : Setting) (legal : Legal s) (honest : ℕ → Bool) (rows columns pairs : ℕ → List ℕ) (rs : List ℕ)
    (h : Heard s honest rows columns pairs rs) where
  small : length rs ≤ 16
  small = let z = sizes-facts s.n s.t legal.size in omega (arith, h.long)

  pub happy-right : Largest (agree rs) s.n (happy_set rs)
  happy-right = subst (λ k. Largest (agree rs) k (happy_set rs)) h.long (happy-is rs small)

  pub happy-within : happy_set rs < 2 ^ s.n
  happy-within = happy-right.within

  -- ---- an honest party's one for j
  one-for : (i j : ℕ) → is_party s.n i ≡ true → honest i ≡ true → is_party s.n j ≡ true → bit (get_or rs (i - 1) 0) (j - 1) ≡ true
      → Confirmed (prime s) s.table i (rows i) (columns i) (pairs i) j
  one-for i j party good other e =
      confirmed (prime s) s.table i (rows i) (columns i) (pairs i) j
      (sym (report-bit (prime s) s.table i (rows i) (columns i) (pairs i) j s.n other)
      ∙ sym (ap (λ m. bit m (j - 1)) (h.own i party good))
      ∙ e)

  module _ (many : s.n - s.t ≤ ones (happy_set rs)) where
    abbrev In : ℕ → Type 0
    In = Inside s honest (happy_set rs)

    happy-ones : (i j : ℕ) → In i → In j → i ≢ j → Confirmed (prime s) s.table i (rows i) (columns i) (pairs i) j
    happy-ones i j a b d =
        let fi = party-facts s.n i a.party in
        let fj = party-facts s.n j b.party in
        let apart : i - 1 ≢ j - 1 = λ q. d (omega arith) in
        one-for i j a.party a.good b.party
        ((agree-iff rs (i - 1) (j - 1)).0 (happy-right.clique (i - 1) (j - 1) a.happy b.happy apart)).forth

    -- Everyone inside has a sound deal, since it has a one for a neighbour inside.
    pub soundly : (i : ℕ) → In i → sound (prime s) s.table i (rows i) (columns i) ≡ true
    soundly i a =
        let q = neighbour s legal honest h.few (happy_set rs) happy-within many i in (happy-ones i q.0 a q.1 q.2).soundly

    -- What an honest party hears first from another one inside.
    pub heard-first : (i j : ℕ) → is_party s.n i ≡ true → honest i ≡ true → In j → i ≢ j
        → first_from (pairs i) j ≡ value (prime s) (rows j) (point s i)
    heard-first i j party good b d =
        h.firsts i j party good b.party b.good d
        ∙ pair-first (prime s) s.table j (rows j) (columns j) i (λ q. d (sym q)) (soundly j b)

    pub crossed : Crossed s honest (happy_set rs) rows columns
    crossed = record {
      row_polys = λ i a. record { residues = (facts i a).row_below; size = h.row_sizes i a.party a.good };
      column_polys = λ i a. record { residues = (facts i a).column_below; size = h.column_sizes i a.party a.good };
      cross = λ i j a b. elim (ℕ_discrete i j) [
        | yes e ↦ subst (λ k. value (prime s) (rows i) (point s k) ≡ value (prime s) (columns k) (point s i)) e (facts i a).crossing
        | no d ↦ sym (heard-first j i b.party b.good a (λ q. d (sym q))) ∙ (happy-ones j i b a (λ q. d (sym q))).first
      ];
    }
      where
        facts : (i : ℕ) → In i → Sound (prime s) s.table i (rows i) (columns i)
        facts i a = sound-facts (prime s) s.table i (rows i) (columns i) (soundly i a)

  -- ---- an honest dealer: every honest party has F's row and column
  module _ (F : List ℕ) (square : length F ≡ terms s * terms s)
      (its-row : (i : ℕ) → is_party s.n i ≡ true → honest i ≡ true → row_for s F i ≡ rows i)
      (its-column : (i : ℕ) → is_party s.n i ≡ true → honest i ≡ true → column_for s F i ≡ columns i) where
    abbrev Good : ℕ → Type 0
    Good i = (is_party s.n i ≡ true) × (honest i ≡ true)

    cross : (i j : ℕ) → Good i → Good j → value (prime s) (rows i) (point s j) ≡ value (prime s) (columns j) (point s i)
    cross i j a b =
        ap (λ f. value (prime s) f (point s j)) (sym (its-row i a.0 a.1))
        ∙ crossing (prime s) (terms s) (terms s) F (point s j) (point s i) square
        ∙ ap (λ f. value (prime s) f (point s i)) (its-column j b.0 b.1)

    dealt-sound : (i : ℕ) → Good i → sound (prime s) s.table i (rows i) (columns i) ≡ true
    dealt-sound i a = sound-true (prime s) s.table i (rows i) (columns i) (record {
      row_below =
          (subst (Poly (prime s) (terms s)) (its-row i a.0 a.1)
          (row-poly (prime s) (terms s) (terms s) F (point s i) (omega (arith, legal.prime.two)))).residues;
      column_below =
          (subst (Poly (prime s) (terms s)) (its-column i a.0 a.1)
          (column-poly (prime s) (terms s) (terms s) F (point s i) (omega (arith, legal.prime.two)) square)).residues;
      crossing = cross i i a a;
    })

    -- Each honest party has a one for each other.
    honest-one : (i j : ℕ) → Good i → Good j → i ≢ j → bit (entry rs i) (j - 1) ≡ true
    honest-one i j a b d =
        ap (λ m. bit m (j - 1)) (h.own i a.0 a.1)
        ∙ report-bit (prime s) s.table i (rows i) (columns i) (pairs i) j s.n b.0
        ∙ confirms-true (prime s) s.table i (rows i) (columns i) (pairs i) j (record {
          other = d;
          soundly = dealt-sound i a;
          first =
              h.firsts i j a.0 a.1 b.0 b.1 d
              ∙ pair-first (prime s) s.table j (rows j) (columns j) i (λ q. d (sym q)) (dealt-sound j b)
              ∙ cross j i b a;
          second =
              h.seconds i j a.0 a.1 b.0 b.1 d
              ∙ pair-second (prime s) s.table j (rows j) (columns j) i (λ q. d (sym q)) (dealt-sound j b)
              ∙ sym (cross i j a b);
        })

    -- The honest parties as a set.
    honests : ℕ
    honests = mask (λ k. honest (suc k)) s.n

    honest-place : (k : ℕ) → bit honests k ≡ true → (k < s.n) × Good (suc k)
    unfolding honests
    honest-place k e =
        elim (dec_lt k s.n) [
          | yes l ↦ (l, (party-true s.n (suc k) (omega arith) (omega arith), sym (bit_mask (λ k. honest (suc k)) s.n k l) ∙ e))
          | no l ↦
              let far : s.n ≤ k = omega arith in
              absurd (not-both e (bit-none honests k (le_trans (mask_lt (λ k. honest (suc k)) s.n) (pow_mono far))))
        ]

    honest-clique : Clique (agree rs) honests
    honest-clique i j ei ej d =
        let a = honest-place i ei in
        let b = honest-place j ej in
        (agree-iff rs i j).1 (record {
          two = d;
          here = omega (arith, h.long);
          there = omega (arith, h.long);
          forth = placed i j (honest-one (suc i) (suc j) a.1 b.1 (λ q. d (omega arith)));
          back = placed j i (honest-one (suc j) (suc i) b.1 a.1 (λ q. d (omega arith)));
        })
      where
        placed : (i j : ℕ) → bit (entry rs (suc i)) (suc j - 1) ≡ true → bit (get_or rs i 0) j ≡ true
        placed i j e =
            let pi : suc i - 1 ≡ i = omega arith in
            let pj : suc j - 1 ≡ j = omega arith in
            sym (ap₂ (λ a b. bit (get_or rs a 0) b) pi pj) ∙ e

    honest-count : s.n - s.t ≤ ones honests
    unfolding honests
    honest-count =
        let same = count_same (member honests) honest (parties s.n)
        (λ i m. let f = (mem-parties s.n i).0 m in
        let place : suc (i - 1) ≡ i = omega arith in
        bit_mask (λ k. honest (suc k)) s.n (i - 1) (omega arith) ∙ ap honest place) in
        omega (arith, ones-parties honests s.n (mask_lt (λ k. honest (suc k)) s.n), honest-parties honest s.n s.t h.few)

    -- So the happy set is large enough.
    pub honest-many : s.n - s.t ≤ ones (happy_set rs)
    unfolding honests
    honest-many =
        happy-enough rs small (s.n - s.t) honests
        (subst (λ k. honests < 2 ^ k) (sym h.long) (mask_lt (λ k. honest (suc k)) s.n)) honest-clique honest-count
