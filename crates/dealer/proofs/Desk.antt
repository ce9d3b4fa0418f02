-- Laws of the dealing desk: the sizes of the deals, each party's own part, when the desk writes and what the list holds afterwards.
use mathlib.Core.Path.{◌≡◌, refl, sym, ap, ap₂, ◌∙◌}
use mathlib.Core.Logic.{⊎_elim}
use mathlib.Core.Bool.{true, false}
use mathlib.Core.Option.{none}
use mathlib.Core.List.{List, [], ◌∷◌}
use Prim.Native.Nat.{ℕ, zero, suc, ◌+◌, ◌*◌, ◌-◌, ◌<◌, ◌≤◌}
use native.Mathlib.Nat.{mul-le-mul, mul-le-mul_right, eq-or-lt_of_le, le_of_suc-le-suc}
use native.Mathlib.Numerals.{add-one}
use native.Mathlib.Omega.{arith}
use lib.Dec.{eqb}
use lib.ListN.{length, take, drop, length-append}
use lib.Seq.{take_at, drop_at, take_all}
use borrow.Author.Tests.{eqb-true, eq-eqb}
use Rattle.std.proofs.lemmas.Bool.{cases_Bool}
use Rattle.lists.proofs.InPlace.{part-in-front}
use Rattle.polynomial.specs.Polynomial.{Residues}
use Rattle.polynomial.proofs.Below.{residues-facts, residues-true}
use Rattle.bivariate.specs.Bivariate.{row, column}
use Rattle.bivariate.proofs.Crossing.{length-row, length-column}
use Rattle.parties.specs.Parties.{sizes}
use Rattle.parties.proofs.Parties.{sizes-facts}
use Rattle.tables.specs.Tables.{point_at, one_to, IsTable}
use Rattle.tables.proofs.Tables.{table-facts, table-true, sixteen-front, length-one-to}
use Rattle.answers.specs.declared.Refusal.{Refusal}
use Rattle.answers.specs.declared.Refusal.TheVariants.{WrongSize, WrongLength}
use Rattle.answers.specs.Refusals.{lowest, Admission, number_of}
use Rattle.answers.proofs.Tests.{lowest-pass, lowest-first, lowest-then}
use Rattle.dealer.specs.Desk.{deal, deals, stretch, dealt_by, desk_with}
use Rattle.dealer.specs.Desk.{size_tests, length_tests, content_tests, desk_tests}
use Rattle.std.specs.Prelude.{Ok, Err}

-- ---- The deals

module _ (p w : ℕ) (T F : List ℕ) where
  -- A deal taken apart.
  pub take-deal : (i : ℕ) → take w (deal p w T F i) ≡ row p w w F (point_at T i)
  unfolding deal
  take-deal i = take_at (row p w w F (point_at T i)) (column p w w F (point_at T i)) w (length-row p w w F (point_at T i))

  pub drop-deal : (i : ℕ) → drop w (deal p w T F i) ≡ column p w w F (point_at T i)
  unfolding deal
  drop-deal i = drop_at (row p w w F (point_at T i)) (column p w w F (point_at T i)) w (length-row p w w F (point_at T i))

  module _ (square : length F ≡ w * w) where
    pub length-deal : (i : ℕ) → length (deal p w T F i) ≡ 2 * w
    unfolding deal
    length-deal i =
        length-append (row p w w F (point_at T i)) (column p w w F (point_at T i))
        ∙ ap₂ ◌+◌ (length-row p w w F (point_at T i)) (length-column p w w F (point_at T i) square)
        ∙ omega arith

    pub length-deals : (n : ℕ) → length (deals p w T F n) ≡ n * (2 * w)
    unfolding deals
    length-deals zero = omega arith
    length-deals (suc n) =
        length-append (deals p w T F n) _ ∙ ap₂ ◌+◌ (length-deals n) (length-deal _) ∙ omega arith

    place : (n k : ℕ) → k < n → take (2 * w) (drop (k * (2 * w)) (deals p w T F n)) ≡ deal p w T F (suc k)
    unfolding deals
    place zero k h = absurd (omega arith)
    place (suc n) k h =
        let new : List ℕ = deal p w T F (suc n) in
        ⊎_elim
        (λ (e : k ≡ n).
        ap (λ z. take (2 * w) z) (drop_at (deals p w T F n) new (k * (2 * w)) (length-deals n ∙ ap (λ z. z * (2 * w)) (sym e)))
        ∙ take_all (2 * w) new (omega (arith, length-deal (suc n)))
        ∙ ap (λ z. deal p w T F (suc z)) (sym e))
        (λ (l : k < n).
        part-in-front (k * (2 * w)) (2 * w) (deals p w T F n) new
        (omega (arith, length-deals n, mul-le-mul_right {m = suc k} {n = n} (2 * w) l))
        ∙ place n k l)
        (eq-or-lt_of_le (le_of_suc-le-suc h))

    -- Each party's own part is its deal.
    pub deals-at : (n i : ℕ) → 1 ≤ i → i ≤ n → stretch w (deals p w T F n) i ≡ deal p w T F i
    deals-at n i a b =
        let same : suc (i - 1) ≡ i = omega arith in
        place n (i - 1) (omega arith) ∙ ap (deal p w T F) same

-- ---- The answer, and the list after it

module _ (new out : List ℕ) where
  dealt-none : (a : Admission) → number_of (dealt_by a new out).1 ≡ none → a ≡ Ok tt
  dealt-none (Ok tt) e = refl
  dealt-none (Err why) e = absurd (let z : ◌≡◌ {A = ℕ} 0 1 = cc in omega arith)

  dealt-written : {a : Admission} → a ≡ Ok tt → (new, Ok tt) ≡ dealt_by a new out
  dealt-written e = rw e

  dealt-refused : {a : Admission} {why : Refusal} → a ≡ Err why → (out, Err why) ≡ dealt_by a new out
  dealt-refused e = rw e

-- All tests pass: what that says.
pub record Deals (p n t : ℕ) (T F : List ℕ) (room : ℕ) : Type 0 where
  pub size : sizes n t ≡ true
  pub square : length F ≡ suc t * suc t
  pub long : room ≡ n * (2 * suc t)
  pub table : IsTable p n T
  pub below : Residues p F

pub desk-passed : (p n t : ℕ) (T F : List ℕ) (room : ℕ) → lowest (desk_tests p n t T F room) ≡ Ok tt → Deals p n t T F room
desk-passed p n t T F room e =
    let all = lowest-pass (desk_tests p n t T F room) e in
    record {
      size = all.0;
      square = eqb-true _ _ all.1.0;
      long = eqb-true _ _ all.1.1.0;
      table = table-facts p n T all.1.1.1.1.0;
      below = residues-facts p F all.1.1.1.1.1.0;
    }

-- ---- The tests, list by list
module _ (p n t : ℕ) (T F : List ℕ) (room : ℕ) where
  -- The lengths pass, and what the table and the list hold settles it.
  pub lengths-pass : lowest (length_tests n t (length F) room (length T)) ≡ Ok tt
      → lowest (desk_tests p n t T F room) ≡ lowest (content_tests p n T F)
  lengths-pass e = lowest-then (length_tests n t (length F) room (length T)) (content_tests p n T F) e

-- ---- The points 1 to n
-- They are long enough.
pub plain-lengths : (n t size room points : ℕ) → lowest (size_tests n t size room) ≡ Ok tt → points ≡ n
    → lowest (length_tests n t size room points) ≡ Ok tt
plain-lengths n t size room points e l =
    lowest-then (size_tests n t size room) ((eqb points n, WrongLength) ∷ []) e ∙ rw (eq-eqb points n l)

pub plain-fits : (n t size room : ℕ) → lowest (size_tests n t size room) ≡ Ok tt → n ≤ 16
plain-fits n t size room e = let s = sizes-facts n t (lowest-pass (size_tests n t size room) e).0 in s.3

-- The first n of 1 to 16.
pub plain-points : (n : ℕ) (points : List ℕ) → n ≤ 16 → points ≡ one_to 16 → take n points ≡ one_to n
plain-points n points h e = ap (take n) e ∙ sixteen-front n h

pub few-of-sixteen : (n : ℕ) (points : List ℕ) → n ≤ 16 → points ≡ one_to 16 → n ≤ length points
few-of-sixteen n points h e = omega (arith, ap length e, length-one-to 16)

-- The lengths where they are right: all that is dealt fits sixteen places.
pub lengths-fit : (n t size room points : ℕ) → lowest (length_tests n t size room points) ≡ Ok tt
    → (n ≤ 16) × (t + 1 ≤ 4) × (size ≤ 16) × (points ≡ n)
lengths-fit n t size room points e =
    let all = lowest-pass (length_tests n t size room points) e in
    let s = sizes-facts n t all.0 in
    let square : size ≡ suc t * suc t = eqb-true _ _ all.1.0 in (
      s.3,
      omega arith,
      omega (arith, mul-le-mul {n₁ = suc t} {m₁ = suc t} {n₂ = 4} {m₂ = 4} (omega arith) (omega arith)),
      eqb-true _ _ all.1.1.1.0,
    )

-- And there is room for n deals.
pub lengths-room : (n t size room points : ℕ) → lowest (length_tests n t size room points) ≡ Ok tt → room ≡ n * (2 * (t + 1))
lengths-room n t size room points e =
    let all = lowest-pass (length_tests n t size room points) e in
    rw add-one (eqb-true _ _ all.1.1.0)

-- What the code that writes the deals asks for, where all tests pass.
pub to_write : (p n t : ℕ) (T F : List ℕ) (room : ℕ) → lowest (length_tests n t (length F) room (length T)) ≡ Ok tt
    → lowest (content_tests p n T F) ≡ Ok tt
    → ((n ≤ 16) × (t + 1 ≤ 4) × (length F ≡ (t + 1) * (t + 1)) × (room ≡ n * (2 * (t + 1)))) × (Residues p T × Residues p F)
to_write p n t T F room e h =
    let fit = lengths-fit n t (length F) room (length T) e in
    let d = desk-passed p n t T F room (lengths-pass p n t T F room e ∙ h) in
    ((fit.0, fit.1, rw add-one d.square, rw add-one d.long), (d.table.below, d.below))

-- ---- The desk

module _ (p n t : ℕ) (T F out : List ℕ) where
  -- It writes exactly if all tests pass.
  pub desk-written : number_of (desk_with p n t T F out).1 ≡ none → Deals p n t T F (length out)
  unfolding desk_with
  desk-written e = desk-passed p n t T F (length out) (dealt-none (deals p (suc t) T F n) out _ e)

  pub desk-writes : Deals p n t T F (length out) → desk_with p n t T F out ≡ (deals p (suc t) T F n, Ok tt)
  unfolding desk_with
  desk-writes d =
      rw (
        d.size,
        eq-eqb (length F) (suc t * suc t) d.square,
        eq-eqb (length out) (n * (2 * suc t)) d.long,
        eq-eqb (length T) n d.table.size,
        table-true p n T d.table,
        residues-true p F d.below,
      )

  -- Then the list is the deals, each party's in its own part.
  pub desk-list : number_of (desk_with p n t T F out).1 ≡ none → (desk_with p n t T F out).0 ≡ deals p (suc t) T F n
  desk-list e = ap (λ (q : List ℕ × Admission). q.0) (desk-writes (desk-written e))

  pub desk-stretch : number_of (desk_with p n t T F out).1 ≡ none → (i : ℕ) → 1 ≤ i → i ≤ n
      → stretch (suc t) (desk_with p n t T F out).0 i ≡ deal p (suc t) T F i
  desk-stretch e i a b = ap (λ l. stretch (suc t) l i) (desk-list e) ∙ deals-at p (suc t) T F (desk-written e).square n i a b

  -- The desk by what its tests find.
  pub desk-by-pass : lowest (desk_tests p n t T F (length out)) ≡ Ok tt → (deals p (suc t) T F n, Ok tt) ≡ desk_with p n t T F out
  unfolding desk_with
  desk-by-pass e = dealt-written (deals p (suc t) T F n) out e

  pub desk-by-fail : (why : Refusal) → lowest (desk_tests p n t T F (length out)) ≡ Err why → (out, Err why) ≡ desk_with p n t T F out
  unfolding desk_with
  desk-by-fail why e = dealt-refused (deals p (suc t) T F n) out e

  -- The lengths settle it, and of those the first three alone; more than sixteen parties are refused first.
  pub desk-by-lengths : (why : Refusal) → lowest (length_tests n t (length F) (length out) (length T)) ≡ Err why
      → (out, Err why) ≡ desk_with p n t T F out
  desk-by-lengths why e =
      desk-by-fail why (lowest-first (length_tests n t (length F) (length out) (length T)) (content_tests p n T F) e)

  pub desk-by-sizes : (why : Refusal) → lowest (size_tests n t (length F) (length out)) ≡ Err why
      → (out, Err why) ≡ desk_with p n t T F out
  desk-by-sizes why e =
      desk-by-fail why
      (lowest-first (size_tests n t (length F) (length out)) ((eqb (length T) n, WrongLength) ∷ content_tests p n T F) e)

  pub desk-by-many : 16 < n → (out, Err WrongSize) ≡ desk_with p n t T F out
  desk-by-many h =
      let wrong : sizes n t ≡ false =
      ⊎_elim (λ e. let s = sizes-facts n t e in absurd (omega arith)) (λ e. e) (cases_Bool (sizes n t)) in
      desk-by-fail WrongSize (rw wrong)

  -- The lengths are right: what the code that deals then answers.
  module _ (fit : lowest (length_tests n t (length F) (length out) (length T)) ≡ Ok tt) where
    pub desk-by-content : (new : List ℕ) → lowest (content_tests p n T F) ≡ Ok tt → new ≡ deals p (t + 1) T F n
        → (new, Ok tt) ≡ desk_with p n t T F out
    desk-by-content new h e =
        ap (λ l. (l, Ok tt)) (e ∙ ap (λ w. deals p w T F n) (add-one t))
        ∙ desk-by-pass (lengths-pass p n t T F (length out) fit ∙ h)

    pub desk-by-bad-content : (why : Refusal) → lowest (content_tests p n T F) ≡ Err why → (out, Err why) ≡ desk_with p n t T F out
    desk-by-bad-content why h = desk-by-fail why (lengths-pass p n t T F (length out) fit ∙ h)
