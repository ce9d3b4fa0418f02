-- The rule for openings is the need max (2t + 1) (sent − t), at which at most one polynomial fits, however few values were sent.
--   hits-wrong, needed-once, opening-iff          the rule as a need
--   narrowed                                      what is found with the need of all points is found with that of those sent
--   opening-found, opening-only, opening-none     what opens is found, it is the only one, and nothing is found exactly if nothing opens
--   near-opening                                  where at most t of all points differ from a polynomial, it opens
--   wrong-marked, opening-other                   where all marked points that were sent agree with f, nothing else opens
use mathlib.Core.Path.{◌≡◌, refl}
use mathlib.Core.Logic.{◌↔◌, ⊎_elim}
use mathlib.Core.Bool.{Bool, true, false, not}
use mathlib.Core.Option.{none, some}
use mathlib.Core.List.{List, [], ◌∷◌}
use Prim.Native.Nat.{ℕ, suc, ◌+◌, ◌*◌, ◌≤◌, ◌<◌}
use native.Mathlib.Omega.{arith}
use borrow.Author.Tests.{eq-eqb, ltb-true}
use lib.Dec.{ltb}
use lib.ListN.{length, get_or}
use Rattle.lists.specs.Choices.{count}
use Rattle.std.proofs.lemmas.Bool.{cases_Bool}
use Rattle.lists.proofs.Choices.{count-not, count-cons}
use Rattle.field.specs.Arithmetic.{Prime}
use Rattle.polynomial.specs.Polynomial.{Points, Poly, value}
use Rattle.trial.specs.Trial.{meets, hits, points_sent}
use Rattle.fit.specs.Fit.{sent, Fits, Near, fit}
use Rattle.fit.specs.Opening.{wrong, Opening, needed, opening_of}
use Rattle.fit.proofs.Decoding.{points-sent-all, hits-points-sent, once, fit-sound, fit_found, fit-unique, fit-none-iff, fit-less}
use Rattle.fit.proofs.Rule.{hits-misses, sent-length}

-- Of the points sent each agrees or differs.
pub hits-wrong : (p : ℕ) (f xs ys : List ℕ) → 0 < p → length xs ≡ length ys → hits p f xs ys + wrong p f xs ys ≡ sent p ys
unfolding wrong
hits-wrong p f xs ys positive l =
    omega (arith, hits-points-sent p f xs ys positive, count-not (meets p f) (points_sent p xs ys), points-sent-all p xs ys l)

-- At most one polynomial can fit, however many were sent.
pub needed-once : (t least s : ℕ) → 2 * t + 1 ≤ least → s + t + 1 ≤ 2 * needed t least s
needed-once t least s enough = omega arith

-- What is found with the need of all points is found with that of those sent.
pub narrowed : (p : ℕ) → Prime p → (t least : ℕ) (xs ys : List ℕ) → length xs ≡ length ys → Points p xs → 2 * t + 1 ≤ least
    → (f : List ℕ) → fit p t (needed t least (length xs)) xs ys ≡ some f → fit p t (needed t least (sent p ys)) xs ys ≡ some f
narrowed p P t least xs ys l ps enough =
    fit-less p P t (needed t least (sent p ys)) (needed t least (length xs)) xs ys ps (needed-once t least (sent p ys) enough)
    (omega (arith, sent-length p ys))

module _ (p : ℕ) (P : Prime p) (t : ℕ) (xs ys : List ℕ) (l : length xs ≡ length ys) where
  positive : 0 < p
  positive = omega (arith, P.two)

  abbrev need : ℕ
  need = needed t (2 * t + 1) (sent p ys)

  at_most_one : sent p ys + t + 1 ≤ 2 * need
  at_most_one = needed-once t (2 * t + 1) (sent p ys) (omega arith)

  pub opening-iff : (f : List ℕ) → Fits p t need xs ys f ↔ Opening p t xs ys f
  opening-iff f = (
    λ F. record { poly = F.poly; many = omega (arith, F.enough); few = omega (arith, F.enough, hits-wrong p f xs ys positive l) },
    λ o. record { poly = o.poly; enough = omega (arith, o.many, o.few, hits-wrong p f xs ys positive l) },
  )

  -- What is found opens.
  pub opening-sound : (f : List ℕ) → opening_of p t xs ys ≡ some f → Opening p t xs ys f
  opening-sound f e = (opening-iff f).0 (fit-sound p P t need xs ys f e)

  -- Where at most t of all points differ, whatever was sent.
  pub near-opening : 3 * t + 1 ≤ length xs → (f : List ℕ) → Near p t xs ys f → Opening p t xs ys f
  near-opening many f h = record {
    poly = h.0;
    many = omega (arith, h.1, hits-misses p f xs ys l);
    few = omega (arith, h.1, hits-misses p f xs ys l, hits-wrong p f xs ys positive l, sent-length p ys);
  }

  module _ (ps : Points p xs) where
    pub opening-found : (f : List ℕ) → Opening p t xs ys f → opening_of p t xs ys ≡ some f
    opening-found f o = fit_found p P t need xs ys ps at_most_one f ((opening-iff f).1 o)

    pub opening-only : (f g : List ℕ) → Opening p t xs ys f → Opening p t xs ys g → f ≡ g
    opening-only f g F G =
        fit-unique p P t need xs ys ps at_most_one f g ((opening-iff f).1 F) ((opening-iff g).1 G)

    pub opening-none : (opening_of p t xs ys ≡ none) ↔ ((f : List ℕ) → Opening p t xs ys f → ⊥)
    opening-none =
        let iff = fit-none-iff p P t need xs ys ps (omega arith) in
        (λ e f o. iff.0 e f ((opening-iff f).1 o), λ h. iff.1 (λ f F. h f ((opening-iff f).0 F)))

    -- Where at most t of those sent differ from f, nothing else opens: with what opens f shares t + 1 points.
    pub opening-other : (f : List ℕ) → Poly p (suc t) f → wrong p f xs ys ≤ t → (g : List ℕ) → opening_of p t xs ys ≡ some g → g ≡ f
    opening-other f F few g e =
        let G = opening-sound g e in
        once p P t xs ys ps g f G.poly F (omega (arith, G.many, few, hits-wrong p f xs ys positive l))

-- ---- who is right
-- Where every marked point agrees with f or was not sent, no more of those sent differ than are not marked.
module _ (p : ℕ) (f : List ℕ) where
  pub wrong-marked : (ms : List Bool) (xs ys : List ℕ) → length ms ≡ length xs → length xs ≡ length ys
      → ((k : ℕ) → get_or ms k false ≡ true → get_or ys k 0 < p → value p f (get_or xs k 0) ≡ get_or ys k 0)
      → wrong p f xs ys ≤ count not ms
  unfolding wrong points_sent
  wrong-marked [] [] ys l m right = omega arith
  wrong-marked [] (x ∷ xs) ys l m right = absurd (omega arith)
  wrong-marked (b ∷ ms) [] ys l m right = absurd (omega arith)
  wrong-marked (b ∷ ms) (x ∷ xs) [] l m right = absurd (omega arith)
  wrong-marked (b ∷ ms) (x ∷ xs) (y ∷ ys) l m right =
      let rest = wrong-marked ms xs ys (omega arith) (omega arith) (λ k. right (suc k)) in
      ⊎_elim
      (λ s. rw s (sent-one b s (right 0) rest))
      (λ s. rw s (omega (arith, rest, more b)))
      (cases_Bool (ltb y p))
    where
      more : (b : Bool) → count not ms ≤ count not (b ∷ ms)
      more true = omega arith
      more false = omega arith

      sent-one : (b : Bool) → ltb y p ≡ true → (b ≡ true → y < p → value p f x ≡ y)
          → count (λ q. not (meets p f q)) (points_sent p xs ys) ≤ count not ms
          → count (λ q. not (meets p f q)) ((x, y) ∷ points_sent p xs ys) ≤ count not (b ∷ ms)
      sent-one true s agrees h = rw (eq-eqb (value p f x) y (agrees refl (ltb-true y p s))) h
      sent-one false s agrees h = omega (arith, count-cons (λ q. not (meets p f q)) (x, y) (points_sent p xs ys))
