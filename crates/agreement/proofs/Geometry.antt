-- The geometry of a sharing: no lamp in sight. Honest parties hold rows and columns, and those in a set S of at least n − t parties
-- cross each other and themselves. Then they lie on one F, and repair finds F's columns.
--   Inside            a party that is honest and in S
--   Crossed           what is supposed
--   Lies F            every party inside has F's row and column
use mathlib.Core.Path.{◌≡◌, refl, sym, ap, subst, ◌∙◌}
use mathlib.Core.Bool.{Bool, true, false, not, ◌&&◌, and-eq-true_iff, false≢true}
use mathlib.Core.Option.{some}
use mathlib.Core.List.{List, [], ◌∷◌, map, Memᴰ}
use Prim.Native.Nat.{ℕ, suc, ◌+◌, ◌*◌, ◌-◌, ◌^◌, ◌≤◌, ◌<◌}
use native.Mathlib.Nat.{mod-eq_of_lt}
use native.Mathlib.Omega.{arith}
use native.Mathlib.Decide.{dec_lt, ℕ_discrete}
use lib.Count.{ones}
use lib.ListN.{length, get_or, take, length-map, get_or-eq_default}
use lib.Seq.{get_or-take, length-take-le}
use Rattle.lists.specs.All.{Distinct}
use Rattle.lists.specs.Masks.{bit}
use Rattle.lists.specs.Tabulate.{tabulate}
use Rattle.lists.proofs.Tabulate.{length-tabulate, get_or-tabulate, map-tabulate}
use Rattle.polynomial.specs.Polynomial.{Poly, Points, value}
use Rattle.bivariate.specs.Bivariate.{LieOn}
use Rattle.polynomial.proofs.Division.{value-zero}
use Rattle.bivariate.proofs.Crossing.{row-poly, column-poly}
use Rattle.bivariate.proofs.Bivariate.{lie-on, lie-once}
use Rattle.bivariate.proofs.Terms.{row_at, column-at}
use Rattle.lists.specs.Choices.{count, keep, hide}
use Rattle.trial.specs.Trial.{hits}
use Rattle.fit.specs.Fit.{sent}
use Rattle.lists.proofs.Choices.{count_map, length-keep, keep-sublist}
use Rattle.lists.proofs.Selections.{length-hide, hide-at}
use Rattle.lists.proofs.Sublists.{map-sublist}
use Rattle.fit.proofs.Decoding.{points-sublist, fit_found}
use Rattle.fit.proofs.Selection.{hits-marked, fit-hide, sent-marked}
use Rattle.parties.specs.Parties.{is_party, parties, member, entry, not_sent}
use Rattle.parties.proofs.Parties.{sizes-facts, party-facts, party-true, mem-parties, length-parties, not-sent-above}
use Rattle.tables.specs.Tables.{point_at}
use Rattle.tables.proofs.Tables.{table-points, points-of, point_at_lem}
use Rattle.recovery.specs.Recovery.{repair}
use Rattle.recovery.proofs.Deciding.{marks-ones}
use Rattle.answers.specs.Fits.{constant}
use Rattle.agreement.specs.Setting.{Setting, Legal, prime, terms, point, value_of, row_for, column_for, zero_row}
use Rattle.agreement.proofs.Counting.{honest-members, mem-keep, keep-mem}

-- Of two distinct points one is not a given party's.
another : (T xs : List ℕ) → 2 ≤ length xs → Distinct (map (point_at T) xs) → (i : ℕ) → (j : ℕ) × Memᴰ j xs × (i ≡ j → ⊥)
another T [] l d i = absurd (omega arith)
another T (a ∷ []) l d i = absurd (omega arith)
another T (a ∷ b ∷ xs) l d i =
    elim (ℕ_discrete i a) [
      | yes e ↦ (b, Memᴰ.tail (Memᴰ.head refl), λ q. d.0.0 (ap (point_at T) (sym q ∙ e)))
      | no e ↦ (a, Memᴰ.head refl, e)
    ]

-- A marked place is that of a party that passes.
pub marks : (n : ℕ) (test : ℕ → Bool) (k : ℕ) → get_or (map test (parties n)) k false ≡ true → (k < n) × (test (suc k) ≡ true)
marks n test k e =
    let table : map test (parties n) ≡ tabulate (λ k. test (suc k)) n = map-tabulate test suc n in
    elim (dec_lt k n) [
      | yes h ↦ (h, sym (ap (λ l. get_or l k false) table ∙ get_or-tabulate (λ k. test (suc k)) n k false h) ∙ e)
      | no h ↦
          let far : length (map test (parties n)) ≤ k = omega (arith, length-map (parties n) test, length-parties n) in
          absurd (false≢true (sym (get_or-eq_default (map test (parties n)) false {n = k} far) ∙ e))
    ]

-- ---- the constants of F's columns and of its rows
module _ (p : ℕ) where
  constant-value : (k : ℕ) (f : List ℕ) → Poly p (suc k) f → constant f ≡ value p f 0
  constant-value k [] h = absurd (omega (arith, h.size))
  constant-value k (c ∷ f) h = sym (value-zero p c f ∙ mod-eq_of_lt h.residues.0)

module _ (s : Setting) (legal : Legal s) (F : List ℕ) (square : length F ≡ terms s * terms s) where
  -- The constant of a party's column is its share, that of the row at 0 the secret.
  pub column-constant : (i : ℕ) → constant (column_for s F i) ≡ value_of s F (point s i) 0
  column-constant i =
      constant-value (prime s) s.t (column_for s F i)
      (column-poly (prime s) (terms s) (terms s) F (point s i) (omega (arith, legal.prime.two)) square)
      ∙ column-at (prime s) (terms s) (terms s) F (point s i) 0 square

  pub row-constant : constant (zero_row s F) ≡ value_of s F 0 0
  row-constant =
      constant-value (prime s) s.t (zero_row s F)
      (row-poly (prime s) (terms s) (terms s) F 0 (omega (arith, legal.prime.two)))
      ∙ row_at (prime s) (terms s) (terms s) F 0 0

-- ---- what is supposed, and what follows
module _ (s : Setting) (honest : ℕ → Bool) (S : ℕ) where
  pub record Inside (i : ℕ) : Type 0 where
    pub party : is_party s.n i ≡ true
    pub good : honest i ≡ true
    pub happy : member S i ≡ true

  module _ (rows columns : ℕ → List ℕ) where
    -- The parties inside have rows and columns of t + 1 residues, which cross, each one's own included.
    pub record Crossed : Type 0 where
      pub row_polys : (i : ℕ) → Inside i → Poly (prime s) (terms s) (rows i)
      pub column_polys : (i : ℕ) → Inside i → Poly (prime s) (terms s) (columns i)
      pub cross : (i j : ℕ) → Inside i → Inside j → value (prime s) (rows i) (point s j) ≡ value (prime s) (columns j) (point s i)

    -- F has (t + 1)² coefficients, residues, and every party inside has F's row and column.
    pub record Lies (F : List ℕ) : Type 0 where
      pub poly : Poly (prime s) (terms s * terms s) F
      pub on_rows : (i : ℕ) → Inside i → row_for s F i ≡ rows i
      pub on_columns : (i : ℕ) → Inside i → column_for s F i ≡ columns i

module _ (s : Setting) (legal : Legal s) where
  pub points-fine : Points (prime s) s.table
  points-fine = table-points (prime s) s.n s.table legal.table

  -- ---- decoding: who takes the values of some parties agrees with as many points
  pub at_place : (ys f : List ℕ) (k : ℕ) → value (prime s) f (point s (suc k)) ≡ entry ys (suc k)
      → value (prime s) f (get_or s.table k 0) ≡ get_or ys k 0
  at_place ys f k e =
      let place : suc k - 1 ≡ k = omega arith in
      ap (value (prime s) f) (point_at_lem s.table k) ∙ e ∙ ap (λ z. get_or ys z 0) place

  pub marks-long : (test : ℕ → Bool) → length (map test (parties s.n)) ≡ length s.table
  marks-long test = length-map (parties s.n) test ∙ length-parties s.n ∙ sym legal.table.size

  pub agreeing : (test : ℕ → Bool) (ys f : List ℕ) → length ys ≡ s.n
      → ((i : ℕ) → is_party s.n i ≡ true → test i ≡ true → value (prime s) f (point s i) ≡ entry ys i)
      → count test (parties s.n) ≤ hits (prime s) f s.table ys
  agreeing test ys f l agrees =
      omega (
        arith,
        count_map (λ b. b) test (parties s.n),
        hits-marked (prime s) f (map test (parties s.n)) s.table ys (marks-long test) (legal.table.size ∙ sym l)
            (λ k e. let m = marks s.n test k e in
            at_place ys f k (agrees (suc k) (party-true s.n (suc k) (omega arith) (omega arith)) m.1)),
      )

  module _ (honest : ℕ → Bool) (few : count (λ i. not (honest i)) (parties s.n) ≤ s.t) where
    module _ (S : ℕ) (within : S < 2 ^ s.n) (many : s.n - s.t ≤ ones S) where
      -- ---- repair: the values of S, and those of the honest lie on f
      pub repairs : (f heard : List ℕ) → Poly (prime s) (terms s) f → s.n ≤ length heard
          → ((i : ℕ) → is_party s.n i ≡ true → honest i ≡ true → member S i ≡ true → value (prime s) f (point s i) ≡ entry heard i)
          → repair (prime s) s.n s.t s.table S heard ≡ some f
      unfolding repair
      repairs f heard hf l agrees =
          let z = sizes-facts s.n s.t legal.size in
          let ms : List Bool = tabulate (bit S) s.n in
          let ys : List ℕ = take s.n heard in
          let size-ys : length ys ≡ s.n = length-take-le s.n heard l in
          let size-ms : length ms ≡ length ys = length-tabulate (bit S) s.n ∙ sym size-ys in
          let unsent = not-sent-above (prime s) in
          let fewer : sent (prime s) (hide (not_sent (prime s)) ms ys) ≤ ones S =
          omega (arith, sent-marked (prime s) (not_sent (prime s)) unsent ms ys, marks-ones S s.n within) in
          sym (fit-hide (prime s) (not_sent (prime s)) unsent (omega (arith, legal.prime.two)) ms s.table ys s.t (ones S - s.t))
          ∙ fit_found (prime s) legal.prime s.t (ones S - s.t) s.table (hide (not_sent (prime s)) ms ys) points-fine (omega arith)
          f (record {
            poly = hf;
            enough = omega (
              arith,
              honest-members honest S s.n s.t within few,
              agreeing (λ i. honest i && member S i) (hide (not_sent (prime s)) ms ys) f
                  (length-hide (not_sent (prime s)) ms ys size-ms ∙ size-ys)
                  (λ i party e. let both = (and-eq-true_iff (honest i) (member S i)).0 e in
                  agrees i party both.0 both.1 ∙ sym (kept i party both.1)),
            );
          })
        where
          kept : (i : ℕ) → is_party s.n i ≡ true → member S i ≡ true
              → entry (hide (not_sent (prime s)) (tabulate (bit S) s.n) (take s.n heard)) i ≡ entry heard i
          kept i party e =
              let h = party-facts s.n i party in
              hide-at (not_sent (prime s)) (tabulate (bit S) s.n) (take s.n heard) (i - 1) 0
              (get_or-tabulate (bit S) s.n (i - 1) false (omega arith) ∙ e)
              ∙ get_or-take s.n heard (i - 1) 0 (omega arith)

      -- ---- the one F
      abbrev In : ℕ → Type 0
      In = Inside s honest S

      -- The parties inside, in order.
      inside : List ℕ
      inside = keep (λ i. honest i && member S i) (parties s.n)

      inside-mem : (i : ℕ) → In i → Memᴰ i inside
      unfolding inside
      inside-mem i h =
          mem-keep (λ i. honest i && member S i) (parties s.n) i ((mem-parties s.n i).1 (party-facts s.n i h.party))
          ((and-eq-true_iff (honest i) (member S i)).1 (h.good, h.happy))

      mem-inside : (i : ℕ) → Memᴰ i inside → In i
      unfolding inside
      mem-inside i m =
          let k = keep-mem (λ i. honest i && member S i) (parties s.n) i m in
          let range = (mem-parties s.n i).0 k.0 in
          let both = (and-eq-true_iff (honest i) (member S i)).0 k.1 in
          record { party = party-true s.n i range.0 range.1; good = both.0; happy = both.1 }

      -- There are at least 2t + 1 of them.
      inside-many : 2 * s.t + 1 ≤ length inside
      unfolding inside
      inside-many =
          let z = sizes-facts s.n s.t legal.size in
          omega (arith, honest-members honest S s.n s.t within few, length-keep (λ i. honest i && member S i) (parties s.n))

      inside-points : Points (prime s) (map (point s) inside)
      unfolding inside
      inside-points =
          points-sublist (prime s) (map-sublist (point s) (keep-sublist (λ i. honest i && member S i) (parties s.n)))
          (subst (Points (prime s)) (sym (points-of s.n s.table legal.table.size)) points-fine)

      -- Another party inside, beside any.
      pub neighbour : (i : ℕ) → (j : ℕ) × In j × (i ≡ j → ⊥)
      neighbour i =
          let z = sizes-facts s.n s.t legal.size in
          let other = another s.table inside (omega (arith, inside-many)) inside-points.1 i in
          (other.0, mem-inside other.0 other.1, other.2)

      module _ (rows columns : ℕ → List ℕ) where
        abbrev On : List ℕ → Type 0
        On = Lies s honest S rows columns

        all-on : (F : List ℕ) → On F → LieOn (prime s) (terms s) (terms s) (point s) inside rows columns F
        all-on F h = record {
          residues = h.poly.residues;
          size = h.poly.size;
          rows = λ i m. h.on_rows i (mem-inside i m);
          columns = λ i m. h.on_columns i (mem-inside i m);
        }

        pub lies-once : (F G : List ℕ) → On F → On G → F ≡ G
        lies-once F G h_f h_g =
            lie-once (prime s) legal.prime (point s) inside inside-points (terms s) (omega (arith, inside-many)) (terms s) rows columns
            F G (all-on F h_f) (all-on G h_g)

        pub lies : Crossed s honest S rows columns → (F : List ℕ) × On F
        lies c =
            let r =
            lie-on (prime s) legal.prime (point s) inside inside-points (terms s) (omega (arith, inside-many)) (terms s) rows columns
            (omega (arith, inside-many))
            (λ i m. c.row_polys i (mem-inside i m)) (λ i m. c.column_polys i (mem-inside i m))
            (λ i j mi mj. c.cross i j (mem-inside i mi) (mem-inside j mj)) in (
              r.0,
              record {
                poly = record { residues = r.1.residues; size = r.1.size };
                on_rows = λ i h. r.1.rows i (inside-mem i h);
                on_columns = λ i h. r.1.columns i (inside-mem i h);
              },
            )
