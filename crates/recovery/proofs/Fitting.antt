-- Repair and opening by the lists that the code lends, and what the code answers.
--   fit-lent, repair-hidden   what is lent to the fit
--   repair-size, repair-number, repair-few; published-size, published-length; opening-size, opening-number, opening-length   refusals
--   repair-admitted, published-admitted, opening-admitted   otherwise what is decoded
use mathlib.Core.Path.{◌≡◌, sym, ap, ◌∙◌}
use mathlib.Core.Bool.{Bool, true, false, cond}
use mathlib.Core.List.{List}
use Prim.Native.Nat.{ℕ, ◌+◌, ◌*◌, ◌-◌, ◌^◌, ◌≤◌, ◌<◌}
use native.Mathlib.Omega.{arith}
use borrow.Author.Tests.{eq-eqb, ne_eqb, lt-ltb, le-leb, lt-leb}
use lib.Count.{ones}
use lib.Dec.{ltb}
use lib.ListN.{length, take}
use Rattle.lists.specs.Choices.{hide}
use Rattle.lists.specs.Masks.{bit}
use Rattle.lists.specs.Tabulate.{tabulate}
use Rattle.answers.specs.declared.Refusal.TheVariants.{WrongSize, WrongNumber, WrongLength}
use Rattle.answers.specs.Fits.{Fitted, decoded}
use Rattle.std.specs.Prelude.{Ok, Err}
use Rattle.answers.specs.declared.Refusal.{Refusal}
use Rattle.answers.specs.Refusals.{Admission}
use Rattle.answers.proofs.Tests.{fail-pass}
use Rattle.fit.specs.Admitted.{fit_in}
use Rattle.fit.specs.Fit.{sent, fit}
use Rattle.fit.proofs.Admitted.{fit-admitted}
use Rattle.fit.proofs.Selection.{fit-hide}
use Rattle.parties.specs.Parties.{sizes, is_party, not_sent}
use Rattle.parties.proofs.Parties.{not-sent-above}
use Rattle.fit.specs.Opening.{needed, opening_of}
use Rattle.recovery.specs.Recovery.{repair, opening_with, repair_in, published_in, opening_in}

-- ---- the points and values that the code lends
pub fit-lent : (p n t least : ℕ) (T xs values : List ℕ) → n ≤ 16 → t ≤ 3 → 2 * t + 1 ≤ least → length values ≡ n → length T ≡ n → xs ≡ T
    → fit_in p t least xs values ≡ decoded (fit p t (needed t least (sent p values)) T values)
fit-lent p n t least T xs values small degree enough l same e =
    ap (λ ps. fit_in p t least ps values) e
    ∙ fit-admitted p t least T values
    (record { degree = degree; bounded = record { lengths = same ∙ sym l; most = omega arith }; enough = enough })

-- To hide what parties outside the set said is to leave their points out.
pub repair-hidden : (p n t : ℕ) (T : List ℕ) (S : ℕ) (heard : List ℕ) → 0 < p
    → fit p t (ones S - t) T (hide (not_sent p) (tabulate (bit S) n) (take n heard)) ≡ repair p n t T S heard
unfolding repair
repair-hidden p n t T S heard positive =
    fit-hide p (not_sent p) (not-sent-above p) positive (tabulate (bit S) n) T (take n heard) t (ones S - t)

-- ---- what the code answers
-- A test that is not refused has passed, as it was counted.
pub passed : (why : Refusal) {pass asked : Bool} {r : Admission} → pass ≡ asked → r ≡ cond pass (Ok tt) (Err why) → r ≡ Ok tt → asked ≡ true
passed why {pass = true} e h same = sym e
passed why {pass = false} e h same = sym e ∙ fail-pass {why = why} (sym h ∙ same)

module _ (p n t : ℕ) (T : List ℕ) where
  module _ (S : ℕ) (heard : List ℕ) where
    pub repair-size : sizes n t ≡ false → ◌≡◌ {A = Fitted} (Err WrongSize) (repair_in p n t T S heard)
    unfolding repair_in
    repair-size h = rw h

    module _ (sized : sizes n t ≡ true) where
      pub repair-number : ltb S (2 ^ n) ≡ false → ◌≡◌ {A = Fitted} (Err WrongNumber) (repair_in p n t T S heard)
      unfolding repair_in
      repair-number h = rw (sized, h)

      pub repair-few : ltb S (2 ^ n) ≡ true → ones S < 3 * t + 1 → ◌≡◌ {A = Fitted} (Err WrongLength) (repair_in p n t T S heard)
      unfolding repair_in
      repair-few h few = rw (sized, h, lt-leb (3 * t + 1) (ones S) few)

      pub repair-admitted : S < 2 ^ n → 3 * t + 1 ≤ ones S → repair_in p n t T S heard ≡ decoded (repair p n t T S heard)
      unfolding repair_in
      repair-admitted inside many = rw (sized, lt-ltb S (2 ^ n) inside, le-leb (3 * t + 1) (ones S) many)

  module _ (xs : List ℕ) where
    pub published-size : sizes n t ≡ false → ◌≡◌ {A = Fitted} (Err WrongSize) (published_in p n t T xs)
    unfolding published_in
    published-size h = rw h

    module _ (sized : sizes n t ≡ true) where
      pub published-length : (length xs ≡ n → ⊥) → ◌≡◌ {A = Fitted} (Err WrongLength) (published_in p n t T xs)
      unfolding published_in
      published-length d = rw (sized, ne_eqb (length xs) n d)

      pub published-admitted : length xs ≡ n → published_in p n t T xs ≡ decoded (opening_of p t T xs)
      unfolding published_in
      published-admitted e = rw (sized, eq-eqb (length xs) n e)

  module _ (i v : ℕ) (xs : List ℕ) where
    pub opening-size : sizes n t ≡ false → ◌≡◌ {A = Fitted} (Err WrongSize) (opening_in p n t T i v xs)
    unfolding opening_in
    opening-size h = rw h

    module _ (sized : sizes n t ≡ true) where
      pub opening-number : is_party n i ≡ false → ◌≡◌ {A = Fitted} (Err WrongNumber) (opening_in p n t T i v xs)
      unfolding opening_in
      opening-number k = rw (sized, k)

      pub opening-length : is_party n i ≡ true → (length xs ≡ n → ⊥) → ◌≡◌ {A = Fitted} (Err WrongLength) (opening_in p n t T i v xs)
      unfolding opening_in
      opening-length k d = rw (sized, k, ne_eqb (length xs) n d)

      pub opening-admitted : is_party n i ≡ true → length xs ≡ n → opening_in p n t T i v xs ≡ decoded (opening_with p t T i v xs)
      unfolding opening_in
      opening-admitted k e = rw (sized, k, eq-eqb (length xs) n e)
