-- What a repair and an opening mean, for any prime. What is repaired is near the points: "a polynomial of degree at most t fits a list of
-- points if at most t differ" (fit's `Near`); what is opened is the constant of what opens (fit's `Opening`). Each is the only one, and 9
-- and 10 say that there is none.
--   written-near, near-written, none-near    of a repair
--   opened-opens, opens-opened, none-opens   of an opening; near-opened: what is near opens still, to the same number
--   opened-no-other                          nothing but f's constant is opened where at most t of those sent differ from f
--   honest-no-other, honest-enough           the same where all but t are honest, and that it is opened where 2t + 1 of them sent
--   plain-opens-opened, plain-near-opened, plain-opened-no-other, plain-honest-no-other, plain-honest-enough, plain-none-opens,
--   plain-dealt                              the same of an opening, and of a dealing, without a table
use mathlib.Core.Path.{◌≡◌, refl, sym, ap, ◌∙◌}
use mathlib.Core.Logic.{◌↔◌, ◌⊎◌, inl, inr}
use mathlib.Core.Bool.{Bool, true, false, not, false≢true}
use mathlib.Core.Option.{Option, none, some}
use mathlib.Core.List.{List, ◌++◌}
use Prim.Native.Nat.{ℕ, suc, ◌+◌, ◌*◌, ◌-◌, ◌≤◌, ◌<◌}
use native.Mathlib.Decide.{dec_lt}
use native.Mathlib.Omega.{arith}
use lib.ListN.{length, get_or, get_or-eq_default}
use Rattle.lists.specs.Choices.{count, marked}
use Rattle.lists.proofs.Tabulate.{get_or-tabulate}
use Rattle.lists.specs.Options.{or_zero}
use Rattle.field.specs.Arithmetic.{Prime}
use Rattle.fit.specs.Fit.{Near, fit}
use Rattle.fit.specs.Opening.{Opening, wrong, opening_of}
use Rattle.fit.proofs.Decoding.{fit-sound}
use Rattle.fit.proofs.Opening.{opening-sound, opening-found, opening-none, opening-other, near-opening, wrong-marked}
use Rattle.fit.proofs.Rule.{fits_iff, near-found, near_none}
use Rattle.fit.proofs.Selection.{hits-marked}
use Rattle.polynomial.specs.Polynomial.{Points, Poly, value}
use Rattle.bivariate.specs.Bivariate.{row, column}
use Rattle.parties.specs.Parties.{sizes, is_party}
use Rattle.parties.proofs.Parties.{sizes-facts, party-facts}
use Rattle.tables.specs.Tables.{one_to, IsTable}
use Rattle.tables.proofs.Tables.{table-points, one-to-table, one-to-point}
use Rattle.dealer.specs.Desk.{deal, stretch, desk_with}
use Rattle.dealer.proofs.Desk.{desk-stretch}
use Rattle.answers.specs.Fits.{constant}
use Rattle.answers.proofs.Tests.{number-not-0}
use Rattle.exports.specs.Exports.{dealing_at, dealing, repaired, repairing, opened, opening_at, opening}
use Rattle.exports.specs.Pieces.{Repairs, Openings}
use Rattle.exports.proofs.Answers.{repairing-by}
use Rattle.exports.proofs.Opened.{opening-by}
use Rattle.std.specs.Prelude.{Ok, Err}
use Rattle.answers.specs.Refusals.{Admission, number_of}

-- A dealing whose number is 0 is no refusal.
no-refusal : (d : Admission) → or_zero (number_of d) ≡ 0 → number_of d ≡ none
no-refusal (Ok tt) e = refl
no-refusal (Err why) e = absurd (number-not-0 why e)

module _ (p : ℕ) (P : Prime p) (t : ℕ) (xs ys column : List ℕ) (r : Repairs t xs ys) (room : length column ≡ suc t)
    (table : IsTable p (length xs) xs) where
  pub written-near : (repairing p t xs ys column).1 ≡ 0 → Near p t xs ys (repairing p t xs ys column).0
  written-near h =
      let by = repairing-by p t xs ys column r room table in
      rw by (go (fit p t (length xs - t) xs ys) refl (rw by at h))
    where
      go : (o : Option (List ℕ)) → fit p t (length xs - t) xs ys ≡ o → (repaired column o).1 ≡ 0
          → Near p t xs ys (repaired column o).0
      go none e h = absurd (omega arith)
      go (some f) e h = (fits_iff p t xs ys r.lengths (omega (arith, r.enough)) f).0
          (fit-sound p P t (length xs - t) xs ys f e)

  pub near-written : (f : List ℕ) → Near p t xs ys f → repairing p t xs ys column ≡ (f, 0)
  near-written f h =
      repairing-by p t xs ys column r room table ∙ ap (repaired column)
      (near-found p P t xs ys (table-points p (length xs) xs table) r.lengths r.enough f h)

  -- 9 is the truth, and the list is left alone.
  pub none-near : (repairing p t xs ys column ≡ (column, 9)) ↔ ((f : List ℕ) → Near p t xs ys f → ⊥)
  none-near = (
    λ h f n. let e = ap (λ (q : List ℕ × ℕ). q.1) (sym h ∙ near-written f n) in omega arith,
    λ h.
        repairing-by p t xs ys column r room table
        ∙ ap (repaired column)
        ((near_none p P t xs ys (table-points p (length xs) xs table) r.lengths r.enough).1 h),
  )

module _ (p : ℕ) (P : Prime p) (n t : ℕ) (T shares : List ℕ) (old : ℕ) (right : Openings p n t T shares) where
  same : length T ≡ length shares
  same = right.table.size ∙ sym right.lengths

  places : Points p T
  places = table-points p n T right.table

  -- What is opened is the constant of a polynomial that opens.
  pub opened-opens : (opening_at p n t T shares old).1 ≡ 0
      → (f : List ℕ) × Opening p t T shares f × ((opening_at p n t T shares old).0 ≡ constant f)
  opened-opens h =
      let by = opening-by p n t T shares old right in
      let r = go (opening_of p t T shares) refl (rw by at h) in (r.0, r.1, ap (λ (q : ℕ × ℕ). q.0) by ∙ r.2)
    where
      go : (o : Option (List ℕ)) → opening_of p t T shares ≡ o → (opened old o).1 ≡ 0
          → (f : List ℕ) × Opening p t T shares f × ((opened old o).0 ≡ constant f)
      go none e h = absurd (omega arith)
      go (some f) e h = (f, opening-sound p P t T shares same f e, refl)

  pub opens-opened : (f : List ℕ) → Opening p t T shares f → opening_at p n t T shares old ≡ (constant f, 0)
  opens-opened f h = opening-by p n t T shares old right ∙ ap (opened old) (opening-found p P t T shares same places f h)

  -- Where at most t of all n differ, sent or not, it opens still.
  pub near-opened : (f : List ℕ) → Near p t T shares f → opening_at p n t T shares old ≡ (constant f, 0)
  near-opened f h =
      let size = sizes-facts n t right.size in
      opens-opened f (near-opening p P t T shares same (omega (arith, right.table.size)) f h)

  -- Where at most t of those sent differ from f, however few were sent, its constant is opened or nothing is.
  pub opened-no-other : (f : List ℕ) → Poly p (suc t) f → wrong p f T shares ≤ t
      → (opening_at p n t T shares old ≡ (constant f, 0)) ⊎ (opening_at p n t T shares old ≡ (old, 10))
  opened-no-other f F few = go (opening_of p t T shares) refl
    where
      by : opening_at p n t T shares old ≡ opened old (opening_of p t T shares)
      by = opening-by p n t T shares old right

      go : (o : Option (List ℕ)) → opening_of p t T shares ≡ o
          → (opening_at p n t T shares old ≡ (constant f, 0)) ⊎ (opening_at p n t T shares old ≡ (old, 10))
      go none e = inr (by ∙ ap (opened old) e)
      go (some g) e = inl (by ∙ ap (opened old) (e ∙ ap some (opening-other p P t T shares same places f F few g e)))

  -- All but t are honest: what one of these sent, if anything, is f's value at its point.
  module _ (honest : List Bool) (size : length honest ≡ n) (few : count not honest ≤ t) (f : List ℕ) (F : Poly p (suc t) f)
      (right-shares : (k : ℕ) → get_or honest k false ≡ true → get_or shares k 0 < p → value p f (get_or T k 0) ≡ get_or shares k 0) where
    few-wrong : wrong p f T shares ≤ t
    few-wrong = omega (arith, few, wrong-marked p f honest T shares (size ∙ sym right.table.size) same right-shares)

    pub honest-no-other : (opening_at p n t T shares old ≡ (constant f, 0)) ⊎ (opening_at p n t T shares old ≡ (old, 10))
    honest-no-other = opened-no-other f F few-wrong

    -- With 2t + 1 of them that sent.
    pub honest-enough : (there : List Bool) → length there ≡ n
        → ((k : ℕ) → get_or there k false ≡ true → (get_or honest k false ≡ true) × (get_or shares k 0 < p)) → 2 * t + 1 ≤ marked there
        → opening_at p n t T shares old ≡ (constant f, 0)
    honest-enough there long among many =
        opens-opened f (record {
          poly = F;
          many = omega (
            arith,
            many,
            hits-marked p f there T shares (long ∙ sym right.table.size) same
                (λ k e. let both = among k e in right-shares k both.0 both.1),
          );
          few = few-wrong;
        })

  -- 10 is the truth, and the number is left alone.
  pub none-opens : (opening_at p n t T shares old ≡ (old, 10)) ↔ ((f : List ℕ) → Opening p t T shares f → ⊥)
  none-opens = (
    λ h f d. let e = ap (λ (r : ℕ × ℕ). r.1) (sym h ∙ opens-opened f d) in omega arith,
    λ h. opening-by p n t T shares old right ∙ ap (opened old) ((opening-none p P t T shares same places).1 h),
  )

-- ---- without a table: the points are 1 to n
module _ (p : ℕ) (P : Prime p) (n t : ℕ) (shares : List ℕ) (old : ℕ) (s : sizes n t ≡ true) (l : length shares ≡ n) (above : 16 < p) where
  plainly : Openings p n t (one_to n) shares
  plainly = record { size = s; lengths = l; table = one-to-table p n (let size = sizes-facts n t s in omega arith) }

  pub plain-opens-opened : (f : List ℕ) → Opening p t (one_to n) shares f → opening p n t shares old ≡ (constant f, 0)
  plain-opens-opened = opens-opened p P n t (one_to n) shares old plainly

  pub plain-near-opened : (f : List ℕ) → Near p t (one_to n) shares f → opening p n t shares old ≡ (constant f, 0)
  plain-near-opened = near-opened p P n t (one_to n) shares old plainly

  pub plain-opened-no-other : (f : List ℕ) → Poly p (suc t) f → wrong p f (one_to n) shares ≤ t
      → (opening p n t shares old ≡ (constant f, 0)) ⊎ (opening p n t shares old ≡ (old, 10))
  plain-opened-no-other = opened-no-other p P n t (one_to n) shares old plainly

  module _ (honest : List Bool) (size : length honest ≡ n) (few : count not honest ≤ t) (f : List ℕ) (F : Poly p (suc t) f)
      (right-shares : (k : ℕ) → get_or honest k false ≡ true → get_or shares k 0 < p → value p f (suc k) ≡ get_or shares k 0) where
    -- The point of the party at place k is k + 1.
    at-points : (k : ℕ) → get_or honest k false ≡ true → get_or shares k 0 < p → value p f (get_or (one_to n) k 0) ≡ get_or shares k 0
    at-points k good sent =
        elim (dec_lt k n) [
          | yes h ↦ ap (value p f) (get_or-tabulate suc n k 0 h) ∙ right-shares k good sent
          | no h ↦
              let far : length honest ≤ k = omega arith in
              absurd (false≢true (sym (get_or-eq_default honest false {n = k} far) ∙ good))
        ]

    pub plain-honest-no-other : (opening p n t shares old ≡ (constant f, 0)) ⊎ (opening p n t shares old ≡ (old, 10))
    plain-honest-no-other = honest-no-other p P n t (one_to n) shares old plainly honest size few f F at-points

    pub plain-honest-enough : (there : List Bool) → length there ≡ n
        → ((k : ℕ) → get_or there k false ≡ true → (get_or honest k false ≡ true) × (get_or shares k 0 < p)) → 2 * t + 1 ≤ marked there
        → opening p n t shares old ≡ (constant f, 0)
    plain-honest-enough = honest-enough p P n t (one_to n) shares old plainly honest size few f F at-points

  pub plain-none-opens : (opening p n t shares old ≡ (old, 10)) ↔ ((f : List ℕ) → Opening p t (one_to n) shares f → ⊥)
  plain-none-opens = none-opens p P n t (one_to n) shares old plainly

-- And the desk deals F(X, i) and F(i, Y), each in its own stretch.
pub plain-dealt : (p n t : ℕ) (F out : List ℕ) → (dealing p n t F out).1 ≡ 0 → (i : ℕ) → is_party n i ≡ true
    → stretch (suc t) (dealing p n t F out).0 i ≡ row p (suc t) (suc t) F i ++ column p (suc t) (suc t) F i
unfolding dealing_at deal
plain-dealt p n t F out written i party =
    let range = party-facts n i party in
    desk-stretch p n t (one_to n) F out (no-refusal (desk_with p n t (one_to n) F out).1 written) i range.0 range.1
    ∙ ap (λ x. row p (suc t) (suc t) F x ++ column p (suc t) (suc t) F x) (one-to-point n i party)
