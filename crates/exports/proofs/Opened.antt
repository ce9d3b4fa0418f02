-- What the C functions make of an opening is what its definition says, for any prime.
--   opened-at, opened-below       what is written of what fits, and that it fits where residues do
--   opening-refused, opening-admitted, opening-passed   by the tests: refused, or what fits, and what they ask for
--   lengths-passed                what the tests of sizes and lengths ask for
--   tests-kept, tests-plain       the tests with the table in an array, and without one
--   front-kept, front-sixteen     the table in front of the array
--   asked-with, asked-plain       the tests of the lists that the code is lent
--   fits-lent, shares-room        what fits them, and that an array of sixteen has room for them
--   passed-with, fits-with, passed-plain, fits-plain   where these pass: the group that is made, and what fits its points
--   opening-by                    what is opened where all is right
--   open-1, open-3, open-14       which number is given, and that the number lent is left alone
use mathlib.Core.Path.{◌≡◌, refl, sym, ap, ap₂, ◌∙◌}
use mathlib.Core.Logic.{⊎_elim}
use mathlib.Core.Bool.{true, false}
use mathlib.Core.Option.{Option, none, some}
use mathlib.Core.List.{List, [], ◌∷◌, ◌++◌}
use Prim.Native.Nat.{ℕ, ◌+◌, ◌*◌, ◌-◌, ◌≤◌, ◌<◌}
use native.Mathlib.Omega.{arith}
use borrow.Author.Tests.{eq-eqb, ne_eqb, eqb-true}
use lib.Dec.{eqb}
use lib.ListN.{length, take}
use Rattle.std.proofs.lemmas.Bool.{cases_Bool}
use Rattle.lists.proofs.Padded.{get_or-zeros}
use Rattle.field.specs.Arithmetic.{Prime}
use Rattle.answers.specs.declared.Refusal.TheVariants.{WrongTable}
use Rattle.answers.specs.Refusals.{Test, lowest, Admission}
use Rattle.answers.proofs.Tests.{lowest-pass, lowest-first, passed-more}
use Rattle.fit.specs.Admitted.{decoded_if}
use Rattle.parties.specs.Parties.{sizes}
use Rattle.parties.proofs.Parties.{sizes-facts}
use Rattle.tables.specs.Tables.{one_to, IsTable, is_table, in_array}
use Rattle.tables.proofs.Tables.{table-facts, table-true, length-one-to, one-to-table, sixteen-front, kept-front, above-sixteen}
use Rattle.fit.specs.Fit.{sent}
use Rattle.fit.specs.Opening.{needed, opening_of}
use Rattle.exports.specs.Exports.{opened, opened_if, opening_lengths, opening_tests, opening_at}
use Rattle.exports.specs.Pieces.{opening_fit, opened_by, Openings}
use Rattle.exports.proofs.Answers.{fit-below}
use Rattle.std.specs.Prelude.{Ok, Err, IfOk, IfSome}
use Rattle.std.proofs.Common.{map}
use Rattle.std.proofs.lemmas.List.{length-map}
use Rattle.std.proofs.lemmas.Result.{err_from_is_err_and}
use Rattle.answers.specs.Fits.{Fitted, decoded}
use Rattle.recovery.specs.Recovery.{published_in}
use Rattle.recovery.proofs.Fitting.{published-admitted}
use Rattle.answers.specs.declared.Refusal.{Refusal}
use Rattle.lists.specs.All.{All}
use Rattle.field.specs.declared.Width.{Width}
use Rattle.field.specs.Modulus.{prime_of}

-- ---- what is written
opened-decoded : (a : Admission) (o : Option (List ℕ)) (old : ℕ) → opened_by (decoded_if a o) old ≡ opened_if a old o
opened-decoded (Err why) o old = refl
opened-decoded (Ok u) none old = refl
opened-decoded (Ok u) (some f) old = ap (λ (v : ℕ). (v, 0)) (get_or-zeros f (4 - length f) 0)

module _ (p n t : ℕ) (T shares : List ℕ) where
  pub opened-at : (old : ℕ) → opened_by (opening_fit p n t T shares) old ≡ opening_at p n t T shares old
  unfolding opening_fit opening_at
  opened-at old = opened-decoded (lowest (opening_tests p n t T (length shares))) (opening_of p t T shares) old

  -- It fits where residues do.
  pub opened-below : (m : ℕ) → Prime p → p ≤ m → IfOk (opening_fit p n t T shares) (λ found. IfSome found (All (λ c. c < m)))
  unfolding opening_fit
  opened-below m P h =
      fit-below p m P h (lowest (opening_tests p n t T (length shares))) t (needed t (2 * t + 1) (sent p shares)) T shares

  -- ---- refused, or what fits
  pub opening-refused : {why : Refusal} → lowest (opening_tests p n t T (length shares)) ≡ Err why
      → Err why ≡ opening_fit p n t T shares
  unfolding opening_fit
  opening-refused e = ap (λ a. decoded_if a (opening_of p t T shares)) (sym e)

  pub opening-admitted : lowest (opening_tests p n t T (length shares)) ≡ Ok tt
      → decoded (opening_of p t T shares) ≡ opening_fit p n t T shares
  unfolding opening_fit
  opening-admitted e = ap (λ a. decoded_if a (opening_of p t T shares)) (sym e)

  pub opening-passed : lowest (opening_tests p n t T (length shares)) ≡ Ok tt → Openings p n t T shares
  opening-passed e =
      let all = lowest-pass (opening_tests p n t T (length shares)) e in
      record { size = all.0; lengths = eqb-true (length shares) n all.1.0; table = table-facts p n T all.1.1.1.0 }

-- ---- the tests that the code asks, with the table in an array
-- The test behind the lengths, of the table.
abbrev kept : ℕ → ℕ → List ℕ → List Test
kept p n T = (is_table p n T, WrongTable) ∷ []

-- The sizes and lengths, by themselves.
pub lengths-passed : (n t m k : ℕ) → lowest (opening_lengths n t m k) ≡ Ok tt → (sizes n t ≡ true) × (m ≡ n) × (k ≡ n) × (n ≤ 16)
lengths-passed n t m k e =
    let all = lowest-pass (opening_lengths n t m k) e in
    (all.0, eqb-true m n all.1.0, eqb-true k n all.1.1.0, (sizes-facts n t all.0).3)

module _ (p n t m : ℕ) where
  -- A table of another length is refused before it is looked at.
  pub tests-kept : (T : List ℕ)
      → lowest (opening_lengths n t m (length T) ++ kept p n (take n (in_array n T))) ≡ lowest (opening_tests p n t T m)
  tests-kept T = go (lowest tests) refl
    where
      tests : List Test
      tests = opening_lengths n t m (length T)

      go : (b : Admission) → lowest tests ≡ b → lowest (tests ++ kept p n (take n (in_array n T))) ≡ lowest (tests ++ kept p n T)
      go (Ok u) e =
          let l = lengths-passed n t m (length T) e in
          ap (λ B. lowest (tests ++ kept p n B)) (kept-front n T l.3 l.2)
      go (Err why) e = lowest-first tests (kept p n (take n (in_array n T))) e ∙ sym (lowest-first tests (kept p n T) e)

  -- 1 to n is a table, and no test is needed.
  pub tests-plain : 16 < p → lowest (opening_lengths n t m n) ≡ lowest (opening_tests p n t (one_to n) m)
  tests-plain above =
      go (lowest tests) refl
      ∙ ap (λ k. lowest (opening_lengths n t m k ++ kept p n (one_to n))) (sym (length-one-to n))
    where
      tests : List Test
      tests = opening_lengths n t m n

      go : (b : Admission) → lowest tests ≡ b → lowest tests ≡ lowest (tests ++ kept p n (one_to n))
      go (Ok u) e =
          let few = (lengths-passed n t m n e).3 in
          let table = table-true p n (one_to n) (one-to-table p n (omega arith)) in
          passed-more tests (kept p n (one_to n)) (ap (λ b. lowest ((b, WrongTable) ∷ [])) table)
      go (Err why) e = e ∙ sym (lowest-first tests (kept p n (one_to n)) e)

-- ---- what the code makes of lists of numbers of either width
-- The table in an array, and 1 to n in that of 1 to 16.
module _ (p n t : ℕ) (T shares A : List ℕ) (right : Openings p n t T shares) where
  pub front-kept : A ≡ in_array n T → take n A ≡ T
  front-kept array = ap (take n) array ∙ kept-front n T (sizes-facts n t right.size).3 right.table.size

  pub front-sixteen : A ≡ one_to 16 → take n A ≡ one_to n
  front-sixteen array = ap (take n) array ∙ sixteen-front n (sizes-facts n t right.size).3

module _ {X : Type 0} (value : X → ℕ) (w : Width) (n t : ℕ) (shares : List X) where
  abbrev shares_of : List ℕ
  shares_of = map value shares

  module _ {a : Admission} where
    -- The tests with a table that stands in an array.
    pub asked-with : {v : Width} (T : List X) (A : List ℕ) → v ≡ w → A ≡ in_array n (map value T)
        → a ≡ lowest (opening_lengths n t (length shares) (length T) ++ kept (prime_of v) n (take n A))
        → lowest (opening_tests (prime_of w) n t (map value T) (length shares_of)) ≡ a
    asked-with T A width array e =
        sym (e
        ∙ ap₂ (λ v B. lowest (opening_lengths n t (length shares) (length T) ++ kept (prime_of v) n (take n B))) width array
        ∙ ap₂ (λ m k. lowest (opening_lengths n t m k ++ kept (prime_of w) n (take n (in_array n (map value T)))))
        (sym (length-map shares value)) (sym (length-map T value))
        ∙ tests-kept (prime_of w) n t (length shares_of) (map value T))

    -- And those without one.
    pub asked-plain : a ≡ lowest (opening_lengths n t (length shares) n)
        → lowest (opening_tests (prime_of w) n t (one_to n) (length shares_of)) ≡ a
    asked-plain e =
        sym (e ∙ ap (λ m. lowest (opening_lengths n t m n)) (sym (length-map shares value))
        ∙ tests-plain (prime_of w) n t (length shares_of) (above-sixteen w))

    -- Where they pass, the group that the code makes is right, and what fits its points is what is answered.
    pub passed-with : {v : Width} (T : List X) (A : List ℕ) → v ≡ w → A ≡ in_array n (map value T)
        → a ≡ lowest (opening_lengths n t (length shares) (length T) ++ kept (prime_of v) n (take n A)) → a ≡ Ok tt
        → Openings (prime_of v) n t (take n A) shares_of
    passed-with T A width array e fine =
        let right = opening-passed (prime_of w) n t (map value T) shares_of (asked-with T A width array e ∙ fine) in
        rw (width, front-kept _ _ _ _ _ _ right array) right

    pub fits-with : {v : Width} {r : Fitted} (T : List X) (A : List ℕ) → v ≡ w → A ≡ in_array n (map value T)
        → a ≡ lowest (opening_lengths n t (length shares) (length T) ++ kept (prime_of v) n (take n A)) → a ≡ Ok tt
        → r ≡ decoded (opening_of (prime_of v) t (take n A) shares_of) → r ≡ opening_fit (prime_of w) n t (map value T) shares_of
    fits-with T A width array e fine h =
        let asked = asked-with T A width array e ∙ fine in
        let right = opening-passed (prime_of w) n t (map value T) shares_of asked in
        h ∙ ap₂ (λ u B. decoded (opening_of (prime_of u) t B shares_of)) width (front-kept _ _ _ _ _ _ right array)
        ∙ opening-admitted (prime_of w) n t (map value T) shares_of asked

    pub passed-plain : {v : Width} (A : List ℕ) → v ≡ w → A ≡ one_to 16 → a ≡ lowest (opening_lengths n t (length shares) n) → a ≡ Ok tt
        → Openings (prime_of v) n t (take n A) shares_of
    passed-plain A width array e fine =
        let right = opening-passed (prime_of w) n t (one_to n) shares_of (asked-plain e ∙ fine) in
        rw (width, front-sixteen _ _ _ _ _ _ right array) right

    pub fits-plain : {v : Width} {r : Fitted} (A : List ℕ) → v ≡ w → A ≡ one_to 16
        → a ≡ lowest (opening_lengths n t (length shares) n) → a ≡ Ok tt
        → r ≡ decoded (opening_of (prime_of v) t (take n A) shares_of) → r ≡ opening_fit (prime_of w) n t (one_to n) shares_of
    fits-plain A width array e fine h =
        let asked = asked-plain e ∙ fine in
        let right = opening-passed (prime_of w) n t (one_to n) shares_of asked in
        h ∙ ap₂ (λ u B. decoded (opening_of (prime_of u) t B shares_of)) width (front-sixteen _ _ _ _ _ _ right array)
        ∙ opening-admitted (prime_of w) n t (one_to n) shares_of asked

  -- What fits them, lent as they are or copied.
  pub fits-lent : {r : Fitted} (T list : List ℕ) → Openings (prime_of w) n t T shares_of → list ≡ shares_of
      → r ≡ published_in (prime_of w) n t T list → r ≡ decoded (opening_of (prime_of w) t T shares_of)
  fits-lent T list right e h =
      h ∙ ap (published_in (prime_of w) n t T) e ∙ published-admitted (prime_of w) n t T shares_of right.size right.lengths

-- An array of sixteen has room for them.
pub shares-room : {X : Type 0} (value : X → ℕ) (p n t : ℕ) (T : List ℕ) (shares : List X) → Openings p n t T (map value shares)
    → length shares ≤ 16
shares-room value p n t T shares right = omega (arith, (sizes-facts n t right.size).3, right.lengths, length-map shares value)

-- ---- where all is right, and the numbers: 1 for the sizes, 3 for the shares and for the table's length, 14 for its entries
module _ (p n t : ℕ) (T shares : List ℕ) (old : ℕ) where
  pub opening-by : Openings p n t T shares → opening_at p n t T shares old ≡ opened old (opening_of p t T shares)
  unfolding opening_at
  opening-by o =
      rw (o.size, eq-eqb (length shares) n o.lengths, eq-eqb (length T) n o.table.size, table-true p n T o.table)

  pub open-1 : sizes n t ≡ false → opening_at p n t T shares old ≡ (old, 1)
  unfolding opening_at
  open-1 s = rw s

  pub open-3 : sizes n t ≡ true → ((length shares ≡ n) × (length T ≡ n) → ⊥) → opening_at p n t T shares old ≡ (old, 3)
  unfolding opening_at
  open-3 s d =
      ⊎_elim
      (λ (e : eqb (length shares) n ≡ true).
      rw (s, e, ne_eqb (length T) n (λ l. d (eqb-true (length shares) n e, l))))
      (λ (e : eqb (length shares) n ≡ false). rw (s, e))
      (cases_Bool (eqb (length shares) n))

  pub open-14 : sizes n t ≡ true → length shares ≡ n → length T ≡ n → (IsTable p n T → ⊥) → opening_at p n t T shares old ≡ (old, 14)
  unfolding opening_at
  open-14 s l k d =
      ⊎_elim
      (λ e. absurd (d (table-facts p n T e)))
      (λ (e : is_table p n T ≡ false). rw (s, eq-eqb (length shares) n l, eq-eqb (length T) n k, e))
      (cases_Bool (is_table p n T))

-- What the code of an opening needs.
pub ruleset openings = (
  err_from_is_err_and,
  opening-refused,
  opening-admitted,
  opening-passed,
  front-sixteen,
  front-kept,
  asked-plain,
  asked-with,
  fits-lent,
  shares-room,
  opened-at,
  lengths-passed,
)
