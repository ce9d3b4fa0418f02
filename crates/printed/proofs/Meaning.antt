-- What the words of the text mean: numbers are decimal, the happy line names the members of the set, and the published list opens
-- the constant of the one polynomial that fits it; a refused record gives one line with the number.
use mathlib.Core.Path.{◌≡◌, refl, sym, ap, ap₂, subst, ◌∙◌}
use mathlib.Core.Logic.{⊎_elim}
use mathlib.Core.Bool.{Bool, true}
use mathlib.Core.Option.{some}
use mathlib.Core.List.{List, [], ◌∷◌, ◌++◌, append_assoc}
use Prim.Native.Nat.{ℕ, zero, suc, ◌+◌, ◌*◌, ◌-◌, ◌/◌, ◌^◌, ◌≤◌, ◌<◌}
use native.Mathlib.Omega.{arith}
use lib.ListN.{length, get_or}
use Rattle.std.specs.Prelude.{Ok, Err}
use Rattle.lists.specs.All.{All}
use Rattle.lists.specs.Masks.{bit}
use Rattle.lists.specs.Tabulate.{tabulate}
use Rattle.lists.specs.Choices.{keep}
use Rattle.lists.proofs.All.{all_append}
use Rattle.lists.proofs.Cases.{le-or-lt}
use Rattle.std.proofs.lemmas.Bool.{cases_Bool}
use Rattle.field.specs.declared.Width.{Width}
use Rattle.field.specs.Modulus.{prime_of}
use Rattle.field.proofs.Primes.{prime-of}
use Rattle.polynomial.specs.Polynomial.{Points}
use Rattle.fit.specs.Fit.{Near}
use Rattle.fit.specs.Opening.{Opening}
use Rattle.text.specs.Letters.{letters, digit, spell, decimal, field, line, joined}
use Rattle.text.proofs.Letters.{joined-append}
use Rattle.text.proofs.Spelling.{spell_last, spell-more}
use Rattle.answers.specs.declared.Refusal.TheVariants.{NoOpening}
use Rattle.answers.specs.Refusals.{refusal_number, number_of}
use Rattle.answers.specs.Fits.{constant}
use Rattle.record.specs.Record.{Reading, reading}
use Rattle.lines.specs.Lines.{name, names, refused_line}
use Rattle.transcript.specs.Outcomes.{opening_line, last_line}
use Rattle.transcript.specs.Transcript.{text_of, text_by, text}
use Rattle.parties.specs.Parties.{sizes, parties, member}
use Rattle.parties.proofs.Parties.{sizes-facts}
use Rattle.tables.specs.Tables.{one_to}
use Rattle.tables.proofs.Tables.{table-points, length-one-to}
use Rattle.transcript.proofs.Runs.{plain-table}
use Rattle.fit.proofs.Opening.{near-opening, opening-found, opening-none}
use Rattle.printed.specs.Meaning.{spelt, listed}

-- ---- numbers

-- Digits behind others.
spelt-append : (high : ℕ) (xs ys : List ℕ) → spelt high (xs ++ ys) ≡ spelt (spelt high xs) ys
spelt-append high [] ys = refl
spelt-append high (x ∷ xs) ys = spelt-append (10 * high + (x - 48)) xs ys

-- The digits of a number of at most k digits spell it.
spell-spells : (k x : ℕ) → x < 10 ^ k → spelt 0 (spell k x) ≡ x
unfolding spell
spell-spells zero x h = omega arith
spell-spells (suc k) x h =
    let tens : x / 10 < 10 ^ k = omega arith in
    let last : spelt (x / 10) (digit x ∷ []) ≡ x = omega arith in
    let one : x < 10 → spelt 0 (digit x ∷ []) ≡ x = λ l. omega arith in
    ⊎_elim
    (λ l. ap (spelt 0) (spell-more k x l) ∙ spelt-append 0 (spell k (x / 10)) (digit x ∷ [])
    ∙ ap (λ high. spelt high (digit x ∷ [])) (spell-spells k (x / 10) tens) ∙ last)
    (λ l. ap (spelt 0) (spell_last k x l) ∙ one l)
    (le-or-lt 10 x)

-- What is printed spells the number; one of 32 bits has at most ten digits.
pub decimal-spells : (x : ℕ) → x < 10000000000 → spelt 0 (decimal x) ≡ x
decimal-spells x h = spell-spells 10 x h

-- A decimal digit, as a byte.
abbrev pub IsDigit : ℕ → Type 0
IsDigit d = (48 ≤ d) × (d ≤ 57)

-- They are digits.
spell-digits : (k x : ℕ) → All IsDigit (spell k x)
unfolding spell
spell-digits zero x = tt
spell-digits (suc k) x =
    let one : IsDigit (digit x) = (omega arith, omega arith) in
    ⊎_elim
    (λ l. subst (All IsDigit) (sym (spell-more k x l))
    (all_append IsDigit (spell k (x / 10)) (digit x ∷ []) (spell-digits k (x / 10)) (one, tt)))
    (λ l. subst (All IsDigit) (sym (spell_last k x l)) (one, tt))
    (le-or-lt 10 x)

pub decimal-digits : (x : ℕ) → All IsDigit (decimal x)
decimal-digits x = spell-digits 10 x

-- And the first is 0 only in 0 itself.
first-kept : (xs ys : List ℕ) → 49 ≤ get_or xs 0 0 → 49 ≤ get_or (xs ++ ys) 0 0
first-kept [] ys h = absurd (omega arith)
first-kept (x ∷ xs) ys h = h

spell-first : (k x : ℕ) → 1 ≤ x → x < 10 ^ k → 49 ≤ get_or (spell k x) 0 0
unfolding spell
spell-first zero x above h = absurd (omega arith)
spell-first (suc k) x above h =
    let tens : x / 10 < 10 ^ k = omega arith in
    ⊎_elim
    (λ l. rw (spell-more k x l) (first-kept (spell k (x / 10)) (digit x ∷ []) (spell-first k (x / 10) (omega arith) tens)))
    (λ l. rw (spell_last k x l) (omega arith))
    (le-or-lt 10 x)

pub decimal-first : (x : ℕ) → 1 ≤ x → x < 10000000000 → 49 ≤ get_or (decimal x) 0 0
decimal-first x above h = spell-first 10 x above h

-- ---- the happy lamps
listed-append : (xs ys : List ℕ) → listed (xs ++ ys) ≡ listed xs ++ listed ys
listed-append [] ys = refl
listed-append (x ∷ xs) ys =
    ap (λ z. field (letters " ") x ++ z) (listed-append xs ys) ∙ sym (append_assoc (field (letters " ") x) (listed xs) (listed ys))

keep_append : (test : ℕ → Bool) (xs ys : List ℕ) → keep test (xs ++ ys) ≡ keep test xs ++ keep test ys
keep_append test [] ys = refl
keep_append test (x ∷ xs) ys =
    ⊎_elim (λ e. rw e (ap (λ z. x ∷ z) (keep_append test xs ys))) (λ e. rw e (keep_append test xs ys)) (cases_Bool (test x))

-- The happy line names the members of the set, in order.
pub names-members : (set n : ℕ) → joined (names set n) ≡ listed (keep (member set) (parties n))
unfolding names name tabulate
names-members set zero = refl
names-members set (suc n) =
    let place : suc n - 1 ≡ n = omega arith in
    let last : joined (name set n) ≡ listed (keep (member set) (suc n ∷ [])) =
    rw place (⊎_elim (λ e. rw e refl) (λ e. rw e refl) (cases_Bool (bit set n))) in
    joined-append (names set n) (name set n)
    ∙ ap₂ (λ xs ys. xs ++ ys) (names-members set n) last
    ∙ sym (listed-append (keep (member set) (parties n)) (keep (member set) (suc n ∷ [])))
    ∙ ap listed (sym (keep_append (member set) (parties n) (suc n ∷ [])))

-- ---- the opening
module _ (w : Width) (n t : ℕ) (size : sizes n t ≡ true) (shares : List ℕ) (long : length shares ≡ n) where
  abbrev p : ℕ
  p = prime_of w

  fine : Points p (one_to n)
  fine = table-points p n (one_to n) (plain-table w n (sizes-facts n t size).3)

  same : length (one_to n) ≡ length shares
  same = length-one-to n ∙ sym long

  enough : 3 * t + 1 ≤ length (one_to n)
  enough = let f = sizes-facts n t size in omega (arith, length-one-to n)

  -- The published list opens the constant of the polynomial that fits it.
  pub opened-fits : (f : List ℕ) → Opening p t (one_to n) shares f → last_line true w n t shares ≡ line (letters "opened ") (constant f)
  unfolding last_line
  opened-fits f fits = ap opening_line (opening-found p (prime-of w) t (one_to n) shares same fine f fits)

  -- Where at most t of all shares differ, that opens as before.
  pub opened-near : (f : List ℕ) → Near p t (one_to n) shares f → last_line true w n t shares ≡ line (letters "opened ") (constant f)
  opened-near f near = opened-fits f (near-opening p (prime-of w) t (one_to n) shares same enough f near)

  -- It is refused only where there is none.
  pub opened-none : ((f : List ℕ) → Opening p t (one_to n) shares f → ⊥)
      → last_line true w n t shares ≡ line (letters "opened refused ") (refusal_number NoOpening)
  unfolding last_line
  opened-none never = ap opening_line ((opening-none p (prime-of w) t (one_to n) shares same fine).1 never)

-- ---- No text is empty.
some-text : (r : Reading) (bytes : List ℕ) → 1 ≤ length (text_by r bytes)
unfolding text_by text_of
some-text (Ok head) bytes = omega arith
some-text (Err why) bytes = omega arith

pub text-some : (bytes : List ℕ) → 1 ≤ length (text bytes)
unfolding text
text-some bytes = some-text (reading bytes) bytes

-- ---- a refused record
-- One line alone, with the number of the refusal.
pub text-refused : (bytes : List ℕ) (k : ℕ) → number_of (reading bytes) ≡ some k → text bytes ≡ refused_line k
unfolding text text_by
text-refused bytes k e = by (reading bytes) e
  where
    by : (r : Reading) → number_of r ≡ some k → text_by r bytes ≡ refused_line k
    by (Ok head) e = absurd (let z : ◌≡◌ {A = ℕ} 0 1 = cc in omega arith)
    by (Err why) e = ap refused_line (let same : some (refusal_number why) ≡ some k = e in cc)
