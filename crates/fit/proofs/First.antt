-- What the first points sent give: where they give something, that is found, since they are tried first in any case.
--   fit-first, fit-first-none   where they give something, and where nothing and none may be wrong
--   narrowed-first              what they give with the need of all points is what fits with the need of those sent
--   first-too-few               where fewer were sent than must agree they give nothing
use mathlib.Core.Path.{◌≡◌, refl, sym, ap, ◌∙◌}
use mathlib.Core.Bool.{Bool, true}
use mathlib.Core.Option.{Option, none, some, or_else, none-ne-some}
use mathlib.Core.List.{List, ◌++◌, map, map-append}
use Prim.Native.Nat.{ℕ, ◌+◌, ◌*◌, ◌-◌, ◌≤◌, ◌<◌}
use native.Mathlib.Numerals.{add-one}
use native.Mathlib.Omega.{arith}
use lib.Dec.{leb}
use Rattle.std.specs.Prelude.{Option as Answer, None, is_some}
use lib.ListN.{length, take, drop}
use Rattle.lists.specs.Choices.{choices}
use Rattle.field.specs.Arithmetic.{Prime}
use Rattle.polynomial.specs.Polynomial.{Points}
use Rattle.lists.proofs.Choices.{first-append, choices-front}
use Rattle.lists.proofs.Sublists.{take-take}
use Rattle.trial.specs.Trial.{hits, points_sent, through, first_fitting, tried}
use Rattle.trial.specs.Results.{result_of}
use Rattle.trial.proofs.Results.{result-found}
use Rattle.fit.specs.Fit.{sent, fit}
use Rattle.fit.specs.Opening.{needed}
use Rattle.fit.proofs.Decoding.{fit-too-few}
use Rattle.fit.proofs.Opening.{narrowed}

-- What is found where no point may be passed over is found first in any case.
tried-front : (p need : ℕ) (xs ys : List ℕ) (i k s : ℕ) (f : List ℕ) → tried p need xs ys i k 0 ≡ some f → tried p need xs ys i k s ≡ some f
unfolding tried or_else
tried-front p need xs ys i k s f e =
    let qs : List (ℕ × ℕ) = points_sent p (drop i xs) (drop i ys) in
    let test : List ℕ → Bool = λ f. leb need (hits p f xs ys) in
    let polynomials : List (List (ℕ × ℕ)) → List (List ℕ) = map (through p) in
    let (others, split) = choices-front k (take (k + s) qs) in
    let none : k ≡ k + 0 = omega arith in
    let front : take k (take (k + s) qs) ≡ take (k + 0) qs = take-take k s qs ∙ ap (λ n. take n qs) none in
    ap (λ cs. first_fitting p need xs ys (polynomials cs)) (split ∙ ap (λ l. choices k l ++ others) front)
    ∙ ap (first_fitting p need xs ys) (map-append (through p) (choices k (take (k + 0) qs)) others)
    ∙ first-append test (polynomials (choices k (take (k + 0) qs))) (polynomials others)
    ∙ ap (λ o. or_else o (first_fitting p need xs ys (polynomials others))) e

module _ (p t need : ℕ) (xs ys : List ℕ) where
  -- All choices are tried from the first point on.
  all-choices : (n e : ℕ) → n ≡ sent p ys → e ≡ n - need → tried p need xs ys 0 (t + 1) e ≡ fit p t need xs ys
  unfolding fit tried
  all-choices n e counted spare = rw (add-one t, spare, counted) refl

  abbrev spare : ℕ
  spare = sent p ys - need

  whole : tried p need xs ys 0 (t + 1) spare ≡ fit p t need xs ys
  whole = all-choices (sent p ys) spare refl refl

  first_fits : (f : List ℕ) → tried p need xs ys 0 (t + 1) 0 ≡ some f → fit p t need xs ys ≡ some f
  first_fits f some-f = sym whole ∙ tried-front p need xs ys 0 (t + 1) spare f some-f

  -- What the first points sent give is what fits.
  pub fit-first : (r : Answer (List ℕ)) → r ≡ result_of (tried p need xs ys 0 (t + 1) 0) → is_some r ≡ true
      → r ≡ result_of (fit p t need xs ys)
  fit-first r e told =
      let (f, some-f) = result-found _ r e told in
      e ∙ ap result_of (some-f ∙ sym (first_fits f some-f))

  -- Where they give nothing, and none may be wrong, nothing does.
  pub fit-first-none : (n : ℕ) → n ≡ sent p ys → n ≤ need → tried p need xs ys 0 (t + 1) 0 ≡ none
      → None ≡ result_of (fit p t need xs ys)
  fit-first-none n counted few lost =
      let none-spare : 0 ≡ spare = omega arith in
      ap result_of (sym lost ∙ ap (tried p need xs ys 0 (t + 1)) none-spare ∙ whole)

module _ (p : ℕ) (P : Prime p) (t : ℕ) (xs ys : List ℕ) where
  -- What the first points give with the need of all is what fits with the need of those sent.
  pub narrowed-first : (least : ℕ) → length xs ≡ length ys → Points p xs → 2 * t + 1 ≤ least → (r : Answer (List ℕ))
      → r ≡ result_of (tried p (needed t least (length xs)) xs ys 0 (t + 1) 0) → is_some r ≡ true
      → r ≡ result_of (fit p t (needed t least (sent p ys)) xs ys)
  narrowed-first least l ps enough r e told =
      let all = needed t least (length xs) in
      let (f, some-f) = result-found _ r e told in
      e ∙ ap result_of (some-f ∙ sym (narrowed p P t least xs ys l ps enough f (first_fits p t all xs ys f some-f)))

  -- Where fewer were sent than must agree they give nothing.
  pub first-too-few : (need : ℕ) → sent p ys < need → tried p need xs ys 0 (t + 1) 0 ≡ none
  first-too-few need few = by (tried p need xs ys 0 (t + 1) 0) refl
    where
      by : (o : Option (List ℕ)) → tried p need xs ys 0 (t + 1) 0 ≡ o → tried p need xs ys 0 (t + 1) 0 ≡ none
      by none e = e
      by (some f) e =
          absurd (none-ne-some f (sym (fit-too-few p P t need xs ys few) ∙ first_fits p t need xs ys f e))
