-- What `fit` answers: why it refuses, and what an admitted call says of the points.
--   answered        what is answered for what was found, or for nothing
--   fit_refused     a refusal is answered; fit-degree, fit-lengths, fit-many, fit-few   the four refusals
--   tests-..        the same of the tests by themselves; tests-pass: what is admitted passes them, and what passes them is admitted
--   fit-admitted    an admitted call answers what fits with the need of those sent; fit-least: that need is `least` where few were sent
--   fit-nothing-iff, fit-found-fits   nothing exactly if nothing fits; what is found fits
use mathlib.Core.Path.{◌≡◌, refl, sym, ap, ◌∙◌}
use mathlib.Core.Logic.{◌↔◌}
use mathlib.Core.Option.{Option, none, some}
use mathlib.Core.List.{List}
use Prim.Native.Nat.{ℕ, ◌+◌, ◌*◌, ◌≤◌, ◌<◌}
use native.Mathlib.Omega.{arith}
use borrow.Author.Tests.{le-leb, lt-leb, eq-eqb, ne_eqb, leb-true, eqb-true}
use lib.ListN.{length}
use Rattle.lists.specs.Tabulate.{pad}
use Rattle.answers.specs.declared.Refusal.{Refusal}
use Rattle.answers.specs.declared.Refusal.TheVariants.{WrongSize, WrongLength}
use Rattle.answers.specs.Fits.{Fitted, decoded}
use Rattle.answers.specs.Refusals.{Admission, lowest}
use Rattle.answers.proofs.Tests.{lowest-pass}
use Rattle.answers.proofs.Fits.{found-is, nothing_is}
use Rattle.field.specs.Arithmetic.{Prime}
use Rattle.polynomial.specs.Polynomial.{Points}
use Rattle.trial.specs.Results.{result_of}
use Rattle.fit.specs.Fit.{sent, Fits, fit}
use Rattle.fit.specs.Opening.{needed}
use Rattle.fit.specs.Admitted.{Admitted, fit_tests, decoded_if, fit_in}
use Rattle.fit.proofs.Decoding.{fit-sound, fit-none-iff}
use Rattle.std.specs.Prelude.{Ok, Err, Some, None}

pub answered : (o : Option (List ℕ)) → Ok (result_of o) ≡ decoded o
answered none = refl
answered (some f) = refl

-- ---- the tests
module _ (t least : ℕ) (xs ys : List ℕ) where
  pub tests-degree : 3 < t → lowest (fit_tests t least xs ys) ≡ Err WrongSize
  tests-degree h = rw (lt-leb t 3 h)

  module _ (degree : t ≤ 3) where
    pub tests-lengths : (length xs ≡ length ys → ⊥) → lowest (fit_tests t least xs ys) ≡ Err WrongLength
    tests-lengths l = rw (le-leb t 3 degree, ne_eqb (length xs) (length ys) l)

    pub tests-many : length xs ≡ length ys → 16 < length xs → lowest (fit_tests t least xs ys) ≡ Err WrongLength
    tests-many l m = rw (le-leb t 3 degree, eq-eqb (length xs) (length ys) l, lt-leb (length xs) 16 m)

    pub tests-few : length xs ≡ length ys → length xs ≤ 16 → least < 2 * t + 1 → lowest (fit_tests t least xs ys) ≡ Err WrongLength
    tests-few l m n =
        rw (le-leb t 3 degree, eq-eqb (length xs) (length ys) l, le-leb (length xs) 16 m, lt-leb (2 * t + 1) least n)

  pub tests-pass : Admitted t least xs ys ↔ (◌≡◌ {A = Admission} (lowest (fit_tests t least xs ys)) (Ok tt))
  tests-pass = (
    λ a.
        let lengths = eq-eqb (length xs) (length ys) a.bounded.lengths in
        let most = le-leb (length xs) 16 a.bounded.most in
        rw (le-leb t 3 a.degree, lengths, most, le-leb (2 * t + 1) least a.enough),
    λ e.
        let all = lowest-pass (fit_tests t least xs ys) e in
        record {
          degree = leb-true t 3 all.0;
          bounded = record { lengths = eqb-true (length xs) (length ys) all.1.0; most = leb-true (length xs) 16 all.1.1.0 };
          enough = leb-true (2 * t + 1) least all.1.1.1.0;
        },
  )

module _ (p t least : ℕ) (xs ys : List ℕ) where
  -- ---- refused
  pub fit_refused : (why : Refusal) → lowest (fit_tests t least xs ys) ≡ Err why → ◌≡◌ {A = Fitted} (Err why) (fit_in p t least xs ys)
  unfolding fit_in
  fit_refused why e = ap (λ a. decoded_if a (fit p t (needed t least (sent p ys)) xs ys)) (sym e)

  pub fit-degree : 3 < t → ◌≡◌ {A = Fitted} (Err WrongSize) (fit_in p t least xs ys)
  fit-degree h = fit_refused WrongSize (tests-degree t least xs ys h)

  module _ (degree : t ≤ 3) where
    pub fit-lengths : (length xs ≡ length ys → ⊥) → ◌≡◌ {A = Fitted} (Err WrongLength) (fit_in p t least xs ys)
    fit-lengths l = fit_refused WrongLength (tests-lengths t least xs ys degree l)

    pub fit-many : length xs ≡ length ys → 16 < length xs → ◌≡◌ {A = Fitted} (Err WrongLength) (fit_in p t least xs ys)
    fit-many l m = fit_refused WrongLength (tests-many t least xs ys degree l m)

    pub fit-few : length xs ≡ length ys → length xs ≤ 16 → least < 2 * t + 1 → ◌≡◌ {A = Fitted} (Err WrongLength) (fit_in p t least xs ys)
    fit-few l m n = fit_refused WrongLength (tests-few t least xs ys degree l m n)

  -- ---- admitted
  module _ (a : Admitted t least xs ys) where
    abbrev need : ℕ
    need = needed t least (sent p ys)

    pub fit-admitted : fit_in p t least xs ys ≡ decoded (fit p t need xs ys)
    unfolding fit_in
    fit-admitted = rw ((tests-pass t least xs ys).0 a)

    -- Where at most t more than `least` were sent, `least` is what must agree.
    pub fit-least : sent p ys ≤ least + t → fit_in p t least xs ys ≡ decoded (fit p t least xs ys)
    fit-least few =
        let same : need ≡ least = omega arith in
        fit-admitted ∙ ap (λ m. decoded (fit p t m xs ys)) same

    -- Nothing exactly if nothing fits.
    pub fit-nothing-iff : Prime p → Points p xs
        → (fit_in p t least xs ys ≡ Ok None) ↔ ((f : List ℕ) → Fits p t need xs ys f → ⊥)
    fit-nothing-iff P ps =
        let iff = fit-none-iff p P t need xs ys ps (omega (arith, a.enough)) in (
          λ e. iff.0 (nothing_is (fit p t need xs ys) (sym fit-admitted ∙ e)),
          λ h. fit-admitted ∙ ap decoded (iff.1 h),
        )

    -- What is found fits.
    pub fit-found-fits : Prime p → (c : List ℕ) → fit_in p t least xs ys ≡ Ok (Some c)
        → (f : List ℕ) × Fits p t need xs ys f × (c ≡ pad 4 f)
    fit-found-fits P c e =
        let found = found-is (fit p t need xs ys) c (sym fit-admitted ∙ e) in
        (found.found, fit-sound p P t need xs ys found.found found.is, found.all)
