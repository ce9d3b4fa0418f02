-- Laws of the lines: the names of the happy lamps as the code puts them; and how long each line is at most.
use mathlib.Core.Path.{◌≡◌}
use mathlib.Core.Bool.{Bool, true, false, cond}
use mathlib.Core.List.{List, [], ◌∷◌, ◌++◌}
use Prim.Native.Nat.{ℕ, zero, suc, ◌+◌, ◌*◌, ◌/◌, ◌%◌, ◌^◌, ◌≤◌, ◌<◌}
use native.Mathlib.Nat.{pow-le-pow_right}
use native.Mathlib.Numerals.{add-one}
use native.Mathlib.Omega.{arith}
use borrow.Author.Tests.{eq-eqb, ne_eqb}
use lib.Dec.{lit≤}
use lib.ListN.{length, length-append}
use Rattle.lists.specs.Masks.{bit}
use Rattle.lists.proofs.Masks.{bit-none}
use Rattle.text.specs.Letters.{letters, decimal, joined}
use Rattle.text.proofs.Letters.{joined-append}
use Rattle.text.proofs.Spelling.{spell-within, decimal-short, decimal-two}
use Rattle.std.specs.Prelude.{Result, Ok, Err}
use Rattle.lines.specs.Lines.{name, names, verdict_words, FewDigits, outcome_words}
use Rattle.lines.specs.Lines.{size_line, verdict_lines, lamp_line, opened_line, refused_line}

-- ---- the happy lamps
module _ (set k : ℕ) where
  pub name_in : set / 2 ^ k % 2 ≡ 1 → letters " " ∷ decimal (k + 1) ∷ [] ≡ name set k
  unfolding name
  name_in h = rw (eq-eqb (set / 2 ^ k % 2) 1 h, add-one)

  pub name_out : (set / 2 ^ k % 2 ≡ 1 → ⊥) → [] ≡ name set k
  unfolding name
  name_out h = rw (ne_eqb (set / 2 ^ k % 2) 1 h)

  -- A set of sixteen bits has no place from sixteen up.
  pub name-behind : set < 2 ^ 16 → 16 ≤ k → [] ≡ name set k
  unfolding name
  name-behind h l = rw (bit-none set k (omega (arith, pow-le-pow_right {n = 2} (omega arith) l)))

  pub names_more : names set k ++ name set k ≡ names set (k + 1)
  unfolding names
  names_more = rw (add-one k)

-- ---- lengths; a number below ten has one digit, a lamp's number or a refusal at most two, any other at most ten

number_short : (x : ℕ) (rest : List ℕ) → length (decimal x ++ rest) ≤ 10 + length rest
number_short x rest = rw length-append (omega (arith, decimal-short x))

place_short : (x : ℕ) (rest : List ℕ) → x < 100 → length (decimal x ++ rest) ≤ 2 + length rest
place_short x rest h = rw length-append (omega (arith, decimal-two x h))

digit-short : (x : ℕ) (rest : List ℕ) → x < 10 → length (decimal x ++ rest) ≤ 1 + length rest
digit-short x rest h = rw length-append (omega (arith, spell-within 10 0 x h))

pub size-short : (n t : ℕ) → n < 100 → t < 10 → length (size_line n t) ≤ 10
size-short n t h k =
    omega (arith, place_short n (joined (letters " " ∷ decimal t ∷ letters "\n" ∷ [])) h, digit-short t (letters "\n") k)

pub refused-short : (k : ℕ) → length (refused_line k) ≤ 26
refused-short k = omega (arith, number_short k (letters "\n"))

either-short : (b : Bool) (vs ws : List (List ℕ)) (m : ℕ) → length (joined vs) ≤ m → length (joined ws) ≤ m
    → length (joined (cond b vs ws)) ≤ m
either-short true vs ws m h k = h
either-short false vs ws m h k = k

-- A value behind a word w, or a refusal.
outcome-short : (w : List ℕ) (r : Result ℕ ℕ) → FewDigits r → 1 ≤ length w → length (joined (outcome_words w r)) ≤ length w + 11
outcome-short w (Ok v) h l = rw length-append (omega (arith, number_short v (letters "\n")))
outcome-short w (Err k) h l = omega (arith, place_short k (letters "\n") h)

-- So sixteen lamps have at most 400 bytes.
pub lamp-short : (i : ℕ) (r : Result ℕ ℕ) → i < 100 → FewDigits r → length (lamp_line i r) ≤ 25
lamp-short i r h l =
    omega (arith, place_short i (joined (outcome_words (letters " share ") r)) h, outcome-short (letters " share ") r l (lit≤ tt))

pub opened-short : (r : Result ℕ ℕ) → FewDigits r → length (opened_line r) ≤ 18
opened-short r h = omega (arith, outcome-short (letters " ") r h (lit≤ tt))

name-short : (set k : ℕ) → k < 99 → length (joined (name set k)) ≤ 3
unfolding name
name-short set k h =
    either-short (bit set k) (letters " " ∷ decimal (suc k) ∷ []) [] 3 (omega (arith, place_short (suc k) [] (omega arith))) (lit≤ tt)

names-short : (set n : ℕ) → n ≤ 99 → length (joined (names set n)) ≤ 3 * n
unfolding names
names-short set zero h = omega arith
names-short set (suc n) h =
    rw (joined-append, length-append) (omega (arith, names-short set n (omega arith), name-short set n (omega arith)))

pub verdict-short : (b : Bool) (set n : ℕ) → n ≤ 99 → length (verdict_lines b set n) ≤ 22 + 3 * n
unfolding verdict_words
verdict-short true set n h =
    let long : length (joined (names set n ++ letters "\n" ∷ [])) ≡ length (joined (names set n)) + 1 = rw (joined-append, length-append) in
    omega (arith, names-short set n h)
verdict-short false set n h = omega arith
