-- The examples of specs/Examples hold for either prime, by computation, and so by trial.
--   computed    the numbers given are solutions, and what is made of the second is what opens
--   opened-is   of any such example: its second solution meets what solving promises, and the opening is what opens; opened: so of each
--   quotients   what each division gives: of M4 something remains; of the list before it nothing, but not enough agree; of the values on
--               X² nothing, but the locator's degree is too high; none of the three opens
--   too_few     where fewer are sent than must agree, nothing is solved and nothing opens
use mathlib.Core.Path.{◌≡◌, refl, sym, ap, ◌∙◌}
use mathlib.Core.Bool.{true, false, and-eq-true_iff, false≢true}
use mathlib.Core.Option.{Option, none, some}
use mathlib.Core.List.{List, [], ◌∷◌, map, zip_with}
use Prim.Native.Nat.{ℕ, zero, suc, ◌+◌, ◌*◌, ◌-◌, ◌≤◌, ◌<◌}
use native.Mathlib.Omega.{arith}
use borrow.Author.Tests.{ltb-true, leb-true, eqb-true}
use lib.Dec.{eqb, lit≤}
use lib.ListN.{length, get_or, take, replicate, length-map}
use lib.Seq.{length-take-le}
use Rattle.lists.specs.All.{All}
use Rattle.lists.specs.Tabulate.{tabulate}
use Rattle.lists.proofs.All.{all_of, all-at}
use Rattle.lists.proofs.Tabulate.{length-tabulate, all-tabulate, distinct-tabulate}
use Rattle.field.specs.declared.Width.{Width}
use Rattle.field.specs.declared.Width.TheVariants.{Narrow, Wide}
use Rattle.field.specs.Modulus.{prime_of}
use Rattle.field.specs.Arithmetic.{Prime, add, sub, neg, mul, inv, inv_within}
use Rattle.field.proofs.Primes.{prime-of}
use Rattle.polynomial.specs.Polynomial.{Points, value}
use Rattle.polynomial.proofs.Below.{residues-facts}
use Rattle.interpolation.specs.Interpolation.{interpolate}
use Rattle.trial.specs.Trial.{points_of, xs_of, ys_of, hits, points_sent, through}
use Rattle.fit.specs.Fit.{sent, fit}
use Rattle.fit.specs.Opening.{needed, opening_of}
use Rattle.fit.proofs.Decoding.{points-sent-all}
use Rattle.key_equation.specs.Solving.{Solves, Solution}
use Rattle.key_equation.specs.Solved.{Solved}
use Rattle.locator.specs.Quotient.{exact_quotient}
use Rattle.locator.specs.Answer.{quotient_of, located_by}
use Rattle.locator.specs.Examples.{Example, points, solves, tests, need, window, made, Computed, Opened, examples, too_few_sent}
use Rattle.locator.proofs.Gathered.{gathered-points}
use Rattle.locator.proofs.Answer.{as-by-trial}

solves-sound : (p : ℕ) (xs ys Q E : List ℕ) → solves p xs ys Q E ≡ true → Solves p xs ys (length xs) Q E
solves-sound p [] ys Q E e j h = absurd (omega arith)
solves-sound p (x ∷ xs) [] Q E e j h = absurd (false≢true e)
solves-sound p (x ∷ xs) (y ∷ ys) Q E e zero h =
    eqb-true _ _ ((and-eq-true_iff (eqb (value p Q x) (mul p y (value p E x))) (solves p xs ys Q E)).0 e).0
solves-sound p (x ∷ xs) (y ∷ ys) Q E e (suc j) h =
    solves-sound p xs ys Q E ((and-eq-true_iff (eqb (value p Q x) (mul p y (value p E x))) (solves p xs ys Q E)).0 e).1 j (omega arith)

tests-sound : (p : ℕ) (qs : List (ℕ × ℕ)) (n m : ℕ) (Q E : List ℕ) (c : ℕ) → tests p qs n m Q E c ≡ replicate 6 true
    → Solution p n m (xs_of qs) (ys_of qs) (length (xs_of qs)) Q E × (c ≡ 0 → ⊥)
tests-sound p qs n m Q E c all =
    let ok : (k : ℕ) → get_or (tests p qs n m Q E c) k false ≡ get_or (replicate 6 true) k false = λ k. ap (λ l. get_or l k false) all in (
      record {
        numerator = record { residues = residues-facts p Q (ok 0); size = eqb-true (length Q) n (ok 1) };
        locator = record { residues = residues-facts p E (ok 2); size = eqb-true (length E) m (ok 3) };
        solves = solves-sound p (xs_of qs) (ys_of qs) Q E (ok 4);
      },
      λ z. omega (arith, ltb-true 0 c (ok 5)),
    )

-- Points are made of their coordinates.
points-of : (qs : List (ℕ × ℕ)) → points_of (xs_of qs) (ys_of qs) ≡ qs
points-of [] = refl
points-of (q ∷ qs) = ap (λ z. q ∷ z) (points-of qs)

pub opened-is : (p : ℕ) → Prime p → (e : Example) → Computed p e → Opened p e
opened-is p P e c =
    let xs = points e in
    let ys = e.ys in
    let m = e.t + 1 + 2 * e.spare in
    let qs = window p e in
    let ok : (k : ℕ) → get_or (made p e).0 k false ≡ get_or (replicate 4 true) k false = λ k. ap (λ l. get_or l.0 k false) c in
    let small : length ys < p = ltb-true (length ys) p (ok 0) in
    let fine : Points p xs =
    (all-tabulate suc (λ x. x < p) (length ys) (λ i l. omega arith), distinct-tabulate suc (λ i j z. omega arith) (length ys)) in
    let all : sent p ys ≡ need p e + e.spare = eqb-true (sent p ys) (need p e + e.spare) (ok 1) in
    let lengths : length xs ≡ length ys = length-tabulate suc (length ys) in
    let size : length qs ≡ m = length-take-le m (points_sent p xs ys) (omega (arith, all, points-sent-all p xs ys lengths)) in
    let size-x : length (xs_of qs) ≡ m = length-map qs (λ (q : ℕ × ℕ). q.0) ∙ size in
    let size-y : length (ys_of qs) ≡ m = length-map qs (λ (q : ℕ × ℕ). q.1) ∙ size in
    let (one, top_one) = tests-sound p qs _ _ _ _ _ (ap (λ l. l.1) c) in
    let (two, top_two) = tests-sound p qs _ _ _ _ _ (ap (λ l. l.2) c) in
    let least : e.t + 1 ≤ e.first.degree = leb-true (e.t + 1) e.first.degree (ok 2) in
    let sum : e.first.degree + e.second.degree ≡ length (xs_of qs) = eqb-true _ m (ok 3) ∙ sym size-x in
    let solved : Solved p e.t (xs_of qs) (ys_of qs) e.second = record {
      a = e.first.degree;
      first_numerator = take (suc e.first.degree) e.first.numerator;
      first_locator = take (e.first.degree - e.t) e.first.locator;
      pair = record { least = least; sum = sum; one = one; two = two; top_one = top_one; top_two = top_two };
    } in (
      solved,
      sym (as-by-trial p P e.t e.spare xs ys lengths fine (omega (arith, all)) all (xs_of qs) (ys_of qs) (points-of qs) size-x
          (size-y ∙ sym size-x) (gathered-points p xs ys fine m (xs_of qs) (ys_of qs) size-x size-y (points-of qs)) e.second solved)
          ∙ ap (λ l. l.3) c,
    )

-- ---- computed
pub computed : (w : Width) → All (Computed (prime_of w)) (examples w)
unfolding tabulate sent points_sent hits located_by exact_quotient zip_with add sub neg mul inv inv_within
computed Narrow = (refl, (refl, (refl, (refl, (refl, (refl, (refl, (refl, tt))))))))
computed Wide = (refl, (refl, (refl, (refl, (refl, (refl, (refl, (refl, tt))))))))

pub opened : (w : Width) → All (Opened (prime_of w)) (examples w)
opened w = all_of (examples w) (λ e m. opened-is (prime_of w) (prime-of w) e (all-at (Computed (prime_of w)) (examples w) (computed w) e m))

pub quotients : (w : Width) → let line : Option (List ℕ) = some (7 ∷ 3 ∷ []) in
    map (λ e. let r = e.second in quotient_of (prime_of w) e.t r.degree r.numerator r.locator) (examples w)
    ≡ line ∷ line ∷ none ∷ some (0 ∷ 0 ∷ []) ∷ line ∷ line ∷ some (neg (prime_of w) 2 ∷ 3 ∷ []) ∷ some (7 ∷ 3 ∷ 2 ∷ 1 ∷ []) ∷ []
unfolding exact_quotient zip_with add sub neg mul inv inv_within
quotients Narrow = refl
quotients Wide = refl

pub too_few : (w : Width) → let p = prime_of w in
    All (λ ys. (sent p ys < needed 1 3 (sent p ys)) × (opening_of p 1 (tabulate suc 5) ys ≡ none)) (too_few_sent w)
unfolding tabulate sent fit points_sent hits through interpolate zip_with add sub mul inv inv_within
too_few Narrow = ((lit≤ tt, refl), ((lit≤ tt, refl), tt))
too_few Wide = ((lit≤ tt, refl), ((lit≤ tt, refl), tt))
