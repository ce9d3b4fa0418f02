-- What the code finds of a deal and of the pairs heard, test by test.
use mathlib.Core.Path.{◌≡◌, refl, sym, ap, ap₂, ◌∙◌}
use mathlib.Core.Bool.{Bool, true, false, not, ◌&&◌, and-eq-true_iff}
use mathlib.Core.List.{List}
use Prim.Native.Nat.{ℕ, zero, suc, ◌+◌, ◌*◌, ◌-◌, ◌%◌, ◌^◌, ◌<◌, ◌≤◌}
use native.Mathlib.Nat.{le_trans}
use native.Mathlib.Numerals.{add-one}
use native.Mathlib.Omega.{arith}
use borrow.Author.Tests.{eq-eqb, ne_eqb, le-leb, lt-leb}
use lib.Dec.{eqb}
use lib.ListN.{length, get_or}
use lib.Pow.{pow_mono}
use Rattle.std.proofs.lemmas.Nat.{one_shl}
use Rattle.std.proofs.lemmas.List.{length_push}
use Rattle.lists.proofs.Turns.{turn-at, turn-end}
use Rattle.lists.specs.Masks.{bit, mask}
use Rattle.lists.proofs.Cases.{not-both}
use Rattle.lists.proofs.Masks.{mask-in, mask-out, mask_lt, bit_mask, add-lt}
use Rattle.polynomial.specs.Polynomial.{Residues, residues, value}
use Rattle.polynomial.proofs.Below.{residues-facts}
use Rattle.parties.specs.Parties.{is_party, not_sent}
use Rattle.tables.specs.Tables.{point_at}
use Rattle.consistency.specs.Deal.{first_from, second_from, sound, pair_for, confirms_by, confirms, report_of, report_by}
use Rattle.consistency.specs.Deal.{no_report, report_in}

-- A test that no place passes gives the empty set.
mask-none : (f : ℕ → Bool) (n : ℕ) → ((k : ℕ) → f k ≡ false) → 0 ≡ mask f n
unfolding mask
mask-none f zero h = refl
mask-none f (suc n) h = mask-none f n h ∙ sym (mask-out f n (h n))

-- Two tests that say the same of the first n places give one set.
pub mask-same : (f g : ℕ → Bool) (n : ℕ) → ((k : ℕ) → k < n → f k ≡ g k) → mask f n ≡ mask g n
unfolding mask
mask-same f g zero h = refl
mask-same f g (suc n) h = rw (mask-same f g n (λ k l. h k (omega arith)), h n (omega arith))

-- Every one of sixteen bits is set.
full : no_report ≡ mask (λ j. true) 16
unfolding mask
full = refl

full-bit : (k : ℕ) → k < 16 → bit no_report k ≡ true
full-bit k h = ap (λ m. bit m k) full ∙ bit_mask (λ j. true) 16 k h

module _ (p : ℕ) (T : List ℕ) (i : ℕ) (row column : List ℕ) where
  -- What is sound has residues alone.
  pub sound-residues : sound p T i row column ≡ true → Residues p row × Residues p column
  unfolding sound
  sound-residues e =
      let crossing = eqb (value p row (point_at T i)) (value p column (point_at T i)) in
      let (both, meet) = (and-eq-true_iff (residues p row && residues p column) crossing).0 e in
      let (one, other) = (and-eq-true_iff (residues p row) (residues p column)).0 both in
      (residues-facts p row one, residues-facts p column other)

  -- ---- the pair for party j
  pub pair-self : (j : ℕ) → i ≡ j → (not_sent p, not_sent p) ≡ pair_for p T i row column j
  unfolding pair_for
  pair-self j e = rw (eq-eqb i j e)

  pub pair-unsound : (j : ℕ) → (i ≡ j → ⊥) → sound p T i row column ≡ false → (not_sent p, not_sent p) ≡ pair_for p T i row column j
  unfolding pair_for
  pair-unsound j d s = rw (ne_eqb i j d, s)

  pub pair-sound : (j : ℕ) → (i ≡ j → ⊥) → sound p T i row column ≡ true
      → (value p row (point_at T j), value p column (point_at T j)) ≡ pair_for p T i row column j
  unfolding pair_for
  pair-sound j d s = rw (ne_eqb i j d, s)

  -- ---- party i's bit for party j, which said a and b
  module _ (j a b : ℕ) where
    pub confirms-self : i ≡ j → false ≡ confirms_by p T i row column j a b
    confirms-self e = rw (eq-eqb i j e)

    none-by : (x y z u : Bool) → y ≡ false → (x && y && z && u) ≡ false
    none-by true y z u e = rw e
    none-by false y z u e = refl

    unsound-none : sound p T i row column ≡ false → confirms_by p T i row column j a b ≡ false
    unsound-none s = none-by (not (eqb i j)) (sound p T i row column) _ _ s

  -- ---- the report on the first numbers fs and the second ones ss
  module _ (fs ss : List ℕ) where
    -- Whether place k, party k + 1, is confirmed; the report is the set of these places.
    abbrev says : ℕ → Bool
    says k = confirms_by p T i row column (suc k) (get_or fs k 0) (get_or ss k 0)

    -- Where these are the numbers of the pairs hs, it is the report on hs.
    pub report-paired : (n : ℕ) (hs : List ℕ) → ((k : ℕ) → k < n → get_or fs k 0 ≡ first_from hs (suc k))
        → ((k : ℕ) → k < n → get_or ss k 0 ≡ second_from hs (suc k)) → report_by p n T i row column fs ss ≡ report_of p n T i row column hs
    unfolding report_by report_of confirms
    report-paired n hs first second =
        mask-same says (λ k. confirms_by p T i row column (suc k) (first_from hs (suc k)) (second_from hs (suc k))) n
        (λ k h. ap₂ (confirms_by p T i row column (suc k)) (first k h) (second k h))

    pub report-unsound : (n : ℕ) → sound p T i row column ≡ false → 0 ≡ report_by p n T i row column fs ss
    unfolding report_by
    report-unsound n s = mask-none says n (λ k. unsound-none (suc k) (get_or fs k 0) (get_or ss k 0) s)

    -- ---- the report for every input
    pub report-many : (n : ℕ) → 16 < n → no_report ≡ report_in p n T i row column fs ss
    unfolding report_in
    report-many n h = rw (lt-leb n 16 h)

    pub report-nobody : (n : ℕ) → n ≤ 16 → is_party n i ≡ false → no_report ≡ report_in p n T i row column fs ss
    unfolding report_in
    report-nobody n h d = rw (le-leb n 16 h, d)

    module _ (n : ℕ) (h : n ≤ 16) (one : is_party n i ≡ true) where
      pub report-firsts : (length fs ≡ n → ⊥) → no_report ≡ report_in p n T i row column fs ss
      unfolding report_in
      report-firsts d = rw (le-leb n 16 h, one, ne_eqb (length fs) n d)

      pub report-seconds : length fs ≡ n → (length ss ≡ n → ⊥) → no_report ≡ report_in p n T i row column fs ss
      unfolding report_in
      report-seconds e d = rw (le-leb n 16 h, one, eq-eqb (length fs) n e, ne_eqb (length ss) n d)

      pub report-within : length fs ≡ n → length ss ≡ n → report_by p n T i row column fs ss ≡ report_in p n T i row column fs ss
      unfolding report_in
      report-within e d = rw (le-leb n 16 h, one, eq-eqb (length fs) n e, eq-eqb (length ss) n d)

    -- A report has no one for its own party, so it is never `no_report`.
    pub report-own : (n : ℕ) → 1 ≤ i → i ≤ n → bit (report_by p n T i row column fs ss) (i - 1) ≡ false
    unfolding report_by
    report-own n a b =
        let same : i ≡ suc (i - 1) = omega arith in
        bit_mask says n (i - 1) (omega arith) ∙ sym (confirms-self (suc (i - 1)) (get_or fs (i - 1) 0) (get_or ss (i - 1) 0) same)

    pub report-legal : (n : ℕ) → 1 ≤ i → i ≤ n → n ≤ 16 → report_by p n T i row column fs ss ≡ no_report → ⊥
    report-legal n a b h e = not-both (full-bit (i - 1) (omega arith)) (ap (λ m. bit m (i - 1)) (sym e) ∙ report-own n a b)

    -- ---- a turn of the loop: bit k is set where party k + 1 is confirmed
    abbrev pub report_to : ℕ → ℕ
    report_to k = mask says k

    pub report-start : 0 ≡ report_to 0
    unfolding mask
    report-start = refl

    pub report-room : (bits k : ℕ) → bits ≡ report_to k → k < 16 → bits + 1 * 2 ^ k % 65536 < 65536
    report-room bits k e h = rw (one_shl k 16 h, e) (le_trans (add-lt (report_to k) k (mask_lt says k)) (pow_mono {j = 16} h))

    module _ (bits k : ℕ) (e : bits ≡ report_to k) where
      place : (b : Bool) → b ≡ confirms_by p T i row column (k + 1) (get_or fs k 0) (get_or ss k 0) → says k ≡ b
      place b same = sym (same ∙ ap (λ j. confirms_by p T i row column j (get_or fs k 0) (get_or ss k 0)) (add-one k))

      pub report-one : k < 16 → true ≡ confirms_by p T i row column (k + 1) (get_or fs k 0) (get_or ss k 0)
          → bits + 1 * 2 ^ k % 65536 ≡ report_to (k + 1)
      report-one h set = rw (one_shl k 16 h, e, add-one k) (sym (mask-in says k (place true set)))

      pub report-zero : false ≡ confirms_by p T i row column (k + 1) (get_or fs k 0) (get_or ss k 0) → bits ≡ report_to (k + 1)
      report-zero unset = rw (e, add-one k) (sym (mask-out says k (place false unset)))

-- What the loop over the pairs needs at each turn and at its end.
pub ruleset report_turns = (turn-at, turn-end, length_push, report-start, report-room, report-one, report-zero)
