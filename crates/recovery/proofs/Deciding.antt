-- An admitted call answers nothing exactly if no polynomial fits, and otherwise the one that does: a column that is near the points, or
-- what opens.
--   marks-ones   the marks of a set are its ones; repair-needed: how many of them must agree
--   repair-decides, published-decides, opening-decides
use mathlib.Core.Path.{◌≡◌, refl, sym, ap, ◌∙◌}
use mathlib.Core.Logic.{◌↔◌}
use mathlib.Core.Bool.{Bool, true}
use mathlib.Core.Option.{Option, none, some}
use mathlib.Core.List.{List, [], ◌∷◌}
use Prim.Native.Nat.{ℕ, zero, suc, ◌+◌, ◌*◌, ◌-◌, ◌^◌, ◌≤◌, ◌<◌}
use native.Mathlib.Omega.{arith}
use lib.Count.{ones}
use lib.ListN.{length, take, set, length-set}
use lib.Seq.{length-take-le}
use Rattle.lists.specs.Choices.{count, marked, select, hide}
use Rattle.lists.specs.Masks.{bit, members}
use Rattle.lists.specs.Tabulate.{tabulate}
use Rattle.lists.proofs.Choices.{count-append}
use Rattle.lists.proofs.Masks.{ones-members}
use Rattle.lists.proofs.Selections.{length-select}
use Rattle.lists.proofs.Tabulate.{length-tabulate}
use Rattle.field.specs.Arithmetic.{Prime}
use Rattle.polynomial.specs.Polynomial.{Points}
use Rattle.answers.specs.Fits.{decoded, Fitted}
use Rattle.answers.proofs.Fits.{found-is, nothing_is}
use Rattle.fit.specs.Fit.{sent, Near, fit}
use Rattle.fit.specs.Opening.{Opening, needed, opening_of}
use Rattle.fit.proofs.Opening.{opening-sound, opening-found, opening-none}
use Rattle.fit.proofs.Rule.{near-sound, near-found, near_none}
use Rattle.fit.proofs.Selection.{points-select, sent-marked}
use Rattle.parties.specs.Parties.{sizes, is_party, not_sent}
use Rattle.parties.proofs.Parties.{not-sent-above}
use Rattle.tables.specs.Tables.{IsTable}
use Rattle.tables.proofs.Tables.{table-points}
use Rattle.recovery.specs.Recovery.{repair, repair_in, published_in, opening_in}
use Rattle.recovery.specs.Deciding.{Decides}
use Rattle.recovery.proofs.Fitting.{repair-hidden, repair-admitted, published-admitted, opening-admitted}

-- What is decoded decides, where it is sound, complete, and nothing only where there is nothing.
decides : (Fitting : List ℕ → Type 0) (o : Option (List ℕ)) → ((o ≡ none) ↔ ((f : List ℕ) → Fitting f → ⊥))
    → ((f : List ℕ) → o ≡ some f → Fitting f) → ((f : List ℕ) → Fitting f → o ≡ some f)
    → (fitted : Fitted) → fitted ≡ decoded o → Decides Fitting fitted
decides Fitting o iff sound complete fitted is =
    record {
      nothing = (λ e. iff.0 (nothing_is _ (sym is ∙ e)), λ h. is ∙ ap decoded (iff.1 h));
      found = λ c e. let f = found-is o c (sym is ∙ e) in (f.found, sound f.found f.is);
      fits = λ f h. is ∙ ap decoded (complete f h);
    }

-- The marks of a set are its ones.
marked-members : (S n : ℕ) → marked (tabulate (bit S) n) ≡ members S n
unfolding members tabulate
marked-members S zero = refl
marked-members S (suc n) =
    count-append (λ b. b) (tabulate (bit S) n) (bit S n ∷ []) ∙ ap (λ m. m + count (λ (b : Bool). b) (bit S n ∷ [])) (marked-members S n)

pub marks-ones : (S n : ℕ) → S < 2 ^ n → marked (tabulate (bit S) n) ≡ ones S
marks-ones S n h = marked-members S n ∙ sym (ones-members n S h)

-- Of what the parties of a set said no more was sent than the set has members: so all but t of these must agree.
pub repair-needed : (p n t : ℕ) (T : List ℕ) (S : ℕ) (heard : List ℕ) → 0 < p → S < 2 ^ n
    → let hidden = hide (not_sent p) (tabulate (bit S) n) (take n heard) in
    fit p t (needed t (ones S - t) (sent p hidden)) T hidden ≡ repair p n t T S heard
repair-needed p n t T S heard positive inside =
    let happy : List Bool = tabulate (bit S) n in
    let hidden : List ℕ = hide (not_sent p) happy (take n heard) in
    let most = sent-marked p (not_sent p) (not-sent-above p) happy (take n heard) in
    let same : needed t (ones S - t) (sent p hidden) ≡ ones S - t = omega (arith, most, marks-ones S n inside) in
    ap (λ need. fit p t need T hidden) same ∙ repair-hidden p n t T S heard positive

module _ (p : ℕ) (P : Prime p) (n t : ℕ) (T : List ℕ) (sized : sizes n t ≡ true) (table : IsTable p n T) where
  fine : Points p T
  fine = table-points p n T table

  -- A column is repaired exactly if one is near the points of the set.
  pub repair-decides : (S : ℕ) (heard : List ℕ) → S < 2 ^ n → 3 * t + 1 ≤ ones S → n ≤ length heard
      → let happy = tabulate (bit S) n in
      Decides (Near p t (select happy T) (select happy (take n heard))) (repair_in p n t T S heard)
  unfolding repair
  repair-decides S heard inside many long =
      let happy : List Bool = tabulate (bit S) n in
      let xs : List ℕ = select happy T in
      let ys : List ℕ = select happy (take n heard) in
      let marks : marked happy ≡ ones S = marks-ones S n inside in
      let width : length happy ≡ n = length-tabulate (bit S) n in
      let size-x : length xs ≡ marked happy = length-select happy T (width ∙ sym table.size) in
      let size-y : length ys ≡ marked happy = length-select happy (take n heard) (width ∙ sym (length-take-le n heard long)) in
      let same : length xs ≡ length ys = size-x ∙ sym size-y in
      let points : Points p xs = points-select p happy T fine in
      let need : ones S - t ≡ length xs - t = ap (λ m. m - t) (sym (size-x ∙ marks)) in
      let enough : 3 * t + 1 ≤ length xs = omega arith in
      decides (Near p t xs ys) (fit p t (length xs - t) xs ys) (near_none p P t xs ys points same enough)
      (near-sound p P t xs ys points same enough) (near-found p P t xs ys points same enough) (repair_in p n t T S heard)
      (repair-admitted p n t T S heard sized inside many ∙ ap (λ m. decoded (fit p t m xs ys)) need)

  -- Shares of the n parties open exactly if a polynomial does.
  opens : (xs : List ℕ) → length xs ≡ n → (fitted : Fitted) → fitted ≡ decoded (opening_of p t T xs) → Decides (Opening p t T xs) fitted
  opens xs l =
      let same : length T ≡ length xs = table.size ∙ sym l in
      decides (Opening p t T xs) (opening_of p t T xs) (opening-none p P t T xs same fine) (opening-sound p P t T xs same)
      (opening-found p P t T xs same fine)

  pub published-decides : (xs : List ℕ) → length xs ≡ n → Decides (Opening p t T xs) (published_in p n t T xs)
  published-decides xs l = opens xs l (published_in p n t T xs) (published-admitted p n t T xs sized l)

  -- The same with a party's own share in its own place.
  pub opening-decides : (i v : ℕ) (xs : List ℕ) → is_party n i ≡ true → length xs ≡ n
      → Decides (Opening p t T (set xs (i - 1) v)) (opening_in p n t T i v xs)
  opening-decides i v xs party l =
      opens (set xs (i - 1) v) (length-set xs (i - 1) v ∙ l) (opening_in p n t T i v xs) (opening-admitted p n t T i v xs sized party l)
