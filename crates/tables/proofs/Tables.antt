-- Laws of the tables of points: the test is right, 1 to n is a table, and what a lamp keeps of one.
--   table-facts, table-true, short-not, table-points   what the test says of a list
--   tests-pass, tests-length                what the tests of a lent one say
--   points-of, point_at_lem                 the table is the list of its parties' points
--   point-not-zero, point-once              no party's point is 0, and no two parties have one
--   point-below                             a point is a residue, also that of none
--   length-one-to, one-to-table, one-to-point   1 to n has n numbers, is a table, and i is party i's point in it; above-sixteen: so many
--                                           are residues
--   sixteen-front, one-to-padded            1 to n as the front of 1 to 16, and with zeros behind it
--   kept-front, kept_whole                  the array that holds a table
--   kept-many, kept-not                     zeros, where there are more than sixteen parties or the length is another
--   absent-any                              none of a list, by the library's test
use mathlib.Core.Path.{◌≡◌, refl, sym, ap, ap₂, subst, ◌∙◌}
use mathlib.Core.Bool.{Bool, true, false, cond, not, ◌&&◌, ◌||◌, and-eq-true_iff}
use mathlib.Core.List.{List, [], ◌∷◌, map}
use Prim.Native.Nat.{ℕ, suc, ◌+◌, ◌-◌, ◌<◌, ◌≤◌}
use native.Mathlib.Decide.{dec_lt}
use native.Mathlib.Omega.{arith}
use lib.Dec.{ltb, eqb, lit<}
use Rattle.std.specs.List.{list_any}
use lib.ListN.{length, get_or, take, replicate, length-append, length-replicate, get_or-eq_default}
use lib.Seq.{ext_get_or, take_at, take_all, get_or-take, length-take-le}
use borrow.Author.Tests.{lt-ltb, le-ltb, ltb-true, ne_eqb, eqb-false, eqb-true, eq-eqb, le-leb, lt-leb, not-true}
use Rattle.lists.specs.All.{All}
use Rattle.lists.specs.Tabulate.{tabulate, pad}
use Rattle.lists.proofs.All.{all-get_or, distinct-get_or}
use Rattle.lists.proofs.Padded.{get_or-zeros}
use Rattle.lists.proofs.Tabulate.{length-tabulate, get_or-tabulate, all-tabulate, map-tabulate, distinct-tabulate}
use Rattle.answers.specs.declared.Refusal.TheVariants.{WrongLength}
use Rattle.field.specs.declared.Width.{Width}
use Rattle.field.specs.declared.Width.TheVariants.{Narrow, Wide}
use Rattle.field.specs.Modulus.{prime_of}
use Rattle.answers.specs.Refusals.{lowest}
use Rattle.polynomial.specs.Polynomial.{Residues, Points}
use Rattle.parties.specs.Parties.{is_party, parties}
use Rattle.parties.proofs.Parties.{party-facts}
use Rattle.tables.specs.Tables.{point_at, one_to, IsTable, absent, distinct_residues, is_table, table_tests, in_array}
use Rattle.std.specs.Prelude.{Ok, Err}

-- ---- a number that is none of a list
not-or : (a b : Bool) → not (a || b) ≡ not a && not b
not-or true b = refl
not-or false b = refl

pub absent-true : (x : ℕ) (xs : List ℕ) → All (λ z. z ≡ x → ⊥) xs → absent x xs ≡ true
absent-true x [] h = refl
absent-true x (z ∷ xs) h = ap₂ ◌&&◌ (ap not (ne_eqb z x h.0)) (absent-true x xs h.1)

absent-facts : (x : ℕ) (xs : List ℕ) → absent x xs ≡ true → All (λ z. z ≡ x → ⊥) xs
absent-facts x [] e = tt
absent-facts x (z ∷ xs) e =
    let (here, rest) = (and-eq-true_iff (not (eqb z x)) (absent x xs)).0 e in
    (eqb-false z x (not-true (eqb z x) here), absent-facts x xs rest)

-- The same by the library's test whether one of them is x.
pub absent-any : (x : ℕ) (xs : List ℕ) → not (list_any (λ y. eqb y x) xs) ≡ absent x xs
absent-any x [] = refl
absent-any x (a ∷ xs) = not-or (eqb a x) (list_any (λ y. eqb y x) xs) ∙ ap (λ b. not (eqb a x) && b) (absent-any x xs)

-- ---- distinct residues
module _ (p : ℕ) where
  distinct-residues-true : (xs : List ℕ) → Points p xs → distinct_residues p xs ≡ true
  distinct-residues-true [] h = refl
  distinct-residues-true (a ∷ xs) h =
      ap₂ ◌&&◌ (ap₂ ◌&&◌ (lt-ltb a p h.0.0) (absent-true a xs h.1.0)) (distinct-residues-true xs (h.0.1, h.1.1))

  distinct-residues-facts : (xs : List ℕ) → distinct_residues p xs ≡ true → Points p xs
  distinct-residues-facts [] e = (tt, tt)
  distinct-residues-facts (a ∷ xs) e =
      let (here, rest) = (and-eq-true_iff (ltb a p && absent a xs) (distinct_residues p xs)).0 e in
      let (below, fresh) = (and-eq-true_iff (ltb a p) (absent a xs)).0 here in
      let (residues, distinct) = distinct-residues-facts xs rest in
      ((ltb-true a p below, residues), (absent-facts a xs fresh, distinct))

-- ---- the test for a table
module _ (p n : ℕ) (T : List ℕ) where
  pub table-facts : is_table p n T ≡ true → IsTable p n T
  unfolding is_table
  table-facts e =
      let (fine, zero) = (and-eq-true_iff (eqb (length T) n && distinct_residues p T) (absent 0 T)).0 e in
      let (size, numbers) = (and-eq-true_iff (eqb (length T) n) (distinct_residues p T)).0 fine in
      let points = distinct-residues-facts p T numbers in
      record { size = eqb-true (length T) n size; below = points.0; not_zero = absent-facts 0 T zero; once = points.1 }

  pub table-true : IsTable p n T → is_table p n T ≡ true
  unfolding is_table
  table-true h =
      rw (eq-eqb (length T) n h.size, distinct-residues-true p T (h.below, h.once), absent-true 0 T h.not_zero)

  -- A shorter list has no front that is one.
  pub short-not : length T < n → false ≡ is_table p n (take n T)
  unfolding is_table
  short-not h = rw (take_all n T (omega arith), ne_eqb (length T) n (λ e. omega arith))

  pub table-points : IsTable p n T → Points p T
  table-points h = (h.below, h.once)

  -- All tests of a table that is lent pass.
  pub tests-pass : IsTable p n T → lowest (table_tests p n T) ≡ Ok tt
  tests-pass h = rw (eq-eqb (length T) n h.size, table-true h)

  -- One of another length is 3, whatever its entries are.
  pub tests-length : (length T ≡ n → ⊥) → lowest (table_tests p n T) ≡ Err WrongLength
  tests-length h = rw (ne_eqb (length T) n h)

-- ---- the points
pub point_at_lem : (T : List ℕ) (k : ℕ) → get_or T k 0 ≡ point_at T (suc k)
unfolding point_at
point_at_lem T k = let place : k ≡ suc k - 1 = omega arith in ap (λ z. get_or T z 0) place

-- The points of parties 1 to n are the table.
pub points-of : (n : ℕ) (T : List ℕ) → length T ≡ n → map (point_at T) (parties n) ≡ T
points-of n T l =
    let long : length (tabulate (λ k. point_at T (suc k)) n) ≡ n = length-tabulate (λ k. point_at T (suc k)) n in
    map-tabulate (point_at T) suc n
    ∙ ext_get_or 0 (tabulate (λ k. point_at T (suc k)) n) T (long ∙ sym l) (λ k h.
    get_or-tabulate (λ k. point_at T (suc k)) n k 0 (omega arith) ∙ sym (point_at_lem T k))

-- Where the entries are residues, so is the point of anyone: behind the last it is 0.
pub point-below : (p : ℕ) (T : List ℕ) (i : ℕ) → 0 < p → Residues p T → point_at T i < p
unfolding point_at
point-below p T i h below = elim (dec_lt (i - 1) (length T)) [
  | yes l ↦ all-get_or (λ x. x < p) T (i - 1) 0 l below
  | no l ↦ let far : length T ≤ i - 1 = omega arith in subst (λ x. x < p) (sym (get_or-eq_default T 0 {n = i - 1} far)) h
]

-- Two parties have two points, and none has 0.
module _ (p n : ℕ) (T : List ℕ) (h : IsTable p n T) where
  pub point-not-zero : (i : ℕ) → is_party n i ≡ true → point_at T i ≡ 0 → ⊥
  unfolding point_at
  point-not-zero i party =
      let f = party-facts n i party in
      all-get_or (λ x. x ≡ 0 → ⊥) T (i - 1) 0 (omega (arith, h.size)) h.not_zero

  pub point-once : (i j : ℕ) → is_party n i ≡ true → is_party n j ≡ true → point_at T i ≡ point_at T j → i ≡ j
  unfolding point_at
  point-once i j one other e =
      let f = party-facts n i one in
      let g = party-facts n j other in
      let same = distinct-get_or T (i - 1) (j - 1) (omega (arith, h.size)) (omega (arith, h.size)) h.once e in
      omega arith

-- ---- 1 to n
pub length-one-to : (n : ℕ) → length (one_to n) ≡ n
length-one-to n = length-tabulate suc n

pub one-to-table : (p n : ℕ) → n < p → IsTable p n (one_to n)
one-to-table p n h = record {
  size = length-one-to n;
  below = all-tabulate suc (λ x. x < p) n (λ k b. omega arith);
  not_zero = all-tabulate suc (λ x. x ≡ 0 → ⊥) n (λ k b e. omega arith);
  once = distinct-tabulate suc (λ i j e. omega arith) n;
}

-- The prime leaves room for sixteen parties.
pub above-sixteen : (w : Width) → 16 < prime_of w
above-sixteen Narrow = lit< tt
above-sixteen Wide = lit< tt

pub one-to-point : (n i : ℕ) → is_party n i ≡ true → point_at (one_to n) i ≡ i
unfolding point_at
one-to-point n i party =
    let f = party-facts n i party in
    let same : suc (i - 1) ≡ i = omega arith in
    get_or-tabulate suc n (i - 1) 0 (omega arith) ∙ same

-- The first n of 1 to 16.
pub sixteen-front : (n : ℕ) → n ≤ 16 → take n (one_to 16) ≡ one_to n
sixteen-front n h =
    let long : length (take n (one_to 16)) ≡ n = length-take-le n (one_to 16) (omega (arith, length-one-to 16)) in
    ext_get_or 0 (take n (one_to 16)) (one_to n) (long ∙ sym (length-one-to n)) (λ k b.
    get_or-take n (one_to 16) k 0 (omega arith)
    ∙ get_or-tabulate suc 16 k 0 (omega arith)
    ∙ sym (get_or-tabulate suc n k 0 (omega arith)))

-- ---- a table in an array
-- 1 to n with zeros behind it, place by place.
abbrev pub one_to_at : ℕ → ℕ → ℕ
one_to_at n k = cond (ltb k n) (suc k) 0

pub one-to-padded : (n : ℕ) → n ≤ 16 → tabulate (one_to_at n) 16 ≡ pad 16 (one_to n)
one-to-padded n h =
    let long : length (tabulate (one_to_at n) 16) ≡ 16 = length-tabulate (one_to_at n) 16 in
    let wide : length (pad 16 (one_to n)) ≡ 16 =
    length-append (one_to n) (replicate (16 - length (one_to n)) 0)
    ∙ ap (λ m. length (one_to n) + m) (length-replicate (16 - length (one_to n)) 0) ∙ omega (arith, length-one-to n) in
    ext_get_or 0 (tabulate (one_to_at n) 16) (pad 16 (one_to n)) (long ∙ sym wide) (λ k b.
    get_or-tabulate (one_to_at n) 16 k 0 (omega arith)
    ∙ elim (dec_lt k n) [
      | yes l ↦ rw (lt-ltb k n l) (sym (get_or-tabulate suc n k 0 l))
      | no l ↦
          let far : length (one_to n) ≤ k = omega (arith, length-one-to n) in
          rw (le-ltb k n (omega arith)) (sym (get_or-eq_default (one_to n) 0 {n = k} far))
    ]
    ∙ sym (get_or-zeros (one_to n) (16 - length (one_to n)) k))

pub kept-front : (n : ℕ) (T : List ℕ) → n ≤ 16 → length T ≡ n → take n (in_array n T) ≡ T
kept-front n T h l = rw (le-leb n 16 h, eq-eqb (length T) n l) (take_at T (replicate (16 - length T) 0) n l)

pub kept_whole : (n : ℕ) (T : List ℕ) → n ≤ 16 → length T ≡ n → pad 16 T ≡ in_array n T
kept_whole n T h l = rw (le-leb n 16 h, eq-eqb (length T) n l)

pub kept-many : (n : ℕ) (T : List ℕ) → 16 < n → replicate 16 0 ≡ in_array n T
kept-many n T h = rw (lt-leb n 16 h)

pub kept-not : (n : ℕ) (T : List ℕ) → n ≤ 16 → (length T ≡ n → ⊥) → replicate 16 0 ≡ in_array n T
kept-not n T h d = rw (le-leb n 16 h, ne_eqb (length T) n d)
