-- Laws of text in a buffer: a byte more of a word, and several words one behind the other.
use mathlib.Core.Path.{◌≡◌, refl, sym, ap, ap₂, subst, ◌∙◌}
use mathlib.Core.List.{List, [], ◌∷◌, ◌++◌, append_assoc, append-nil}
use Prim.Native.Nat.{ℕ, suc, ◌+◌, ◌≤◌, ◌<◌}
use native.Mathlib.Numerals.{add-one}
use native.Mathlib.Omega.{arith}
use borrow.Author.Tests.{le-leb, lt-leb}
use lib.ListN.{length, take, drop, get_or, set, length-append, take-append-drop, length-drop}
use lib.Seq.{take-suc, take-suc-set, drop-set-lt, drop-drop, take_at, drop_at, length-take-le}
use Rattle.text.specs.Letters.{Added, joined, putting, puts}

-- ---- putting

-- The i-th byte of the word w is stored behind the i before it.
pub put-more : (o o₀ w : List ℕ) (at i : ℕ) → at + i < length o → i < length w → take (at + i) o ≡ take at o₀ ++ take i w
    → take (at + (i + 1)) (set o (at + i) (get_or w i 0)) ≡ take at o₀ ++ take (i + 1) w
put-more o o₀ w at i h k e =
    let n : at + (i + 1) ≡ suc (at + i) = omega arith in
    rw (n, take-suc-set o (at + i) (get_or w i 0), e, add-one, take-suc w i 0, append_assoc)

-- What stands behind it is left alone.
pub put_rest : (o o₀ : List ℕ) (n m v : ℕ) → m ≡ n + 1 → drop n o ≡ drop n o₀ → drop m (set o n v) ≡ drop m o₀
put_rest o o₀ n m v s e =
    drop-set-lt m o n v (omega arith) ∙ rw s (rw (← drop-drop 1 n o, ← drop-drop 1 n o₀) (ap (drop 1) e))

-- Two pieces put one behind the other.
pub then : (o p q v w : List ℕ) (at r s : ℕ) → Added o at v p r → Added p r w q s → Added o at (v ++ w) q s
then o p q v w at r s a b = record {
  next = b.next ∙ rw (a.next, length-append) (omega arith);
  text = b.text ∙ rw (a.text, append_assoc);
  rest = b.rest ∙ rw (b.next, ← drop-drop (length w) r p, ← drop-drop (length w) r o) (ap (drop (length w)) a.rest);
}

-- Nothing put.
pub nothing : (o : List ℕ) (at : ℕ) → Added o at [] o at
nothing o at = record { next = omega arith; text = rw append-nil; rest = refl }

-- ---- the buffer, as the code leaves it

-- Too little room.
pub putting-none : (o w : List ℕ) (at : ℕ) → length o < at + length w → (o, at) ≡ putting o at w
unfolding putting
putting-none o w at h = rw (lt-leb (at + length w) (length o) h)

-- Room, and the word is put.
pub putting-all : (o q w : List ℕ) (at r : ℕ) → at + length w ≤ length o → Added o at w q r → (q, r) ≡ putting o at w
unfolding putting
putting-all o q w at r h a =
    let whole : q ≡ take at o ++ w ++ drop (at + length w) o =
    sym (take-append-drop r q) ∙ ap₂ ◌++◌ a.text (a.rest ∙ ap (λ m. drop m o) a.next) in
    rw (le-leb (at + length w) (length o) h) (ap₂ (λ (x : List ℕ) (y : ℕ). (x, y)) whole a.next)

-- One letter.
pub letter-put : (o : List ℕ) (v at : ℕ) → at < length o → (set o at v, at + 1) ≡ putting o at (v ∷ [])
letter-put o v at h = putting-all o (set o at v) (v ∷ []) at (at + 1) (omega arith) record {
  next = refl;
  text = rw (add-one, take-suc-set o at v);
  rest = drop-set-lt (at + 1) o at v (omega arith);
}

-- So it is put where there is room.
pub putting-added : (o q w : List ℕ) (at r : ℕ) → (q, r) ≡ putting o at w → at + length w ≤ length o → Added o at w q r
unfolding putting
putting-added o q w at r e h =
    let both : ◌≡◌ {A = List ℕ × ℕ} (q, r) (take at o ++ w ++ drop (at + length w) o, at + length w) =
    e ∙ rw (le-leb (at + length w) (length o) h) in
    let next : r ≡ at + length w = ap (λ z. z.1) both in
    let front : length (take at o ++ w) ≡ r =
    length-append (take at o) w ∙ ap (λ z. z + length w) (length-take-le at o (omega arith)) ∙ sym next in
    let whole : q ≡ (take at o ++ w) ++ drop (at + length w) o = ap (λ z. z.0) both in
    record {
      next = next;
      text = ap (take r) whole ∙ take_at (take at o ++ w) (drop (at + length w) o) r front;
      rest = ap (drop r) whole ∙ drop_at (take at o ++ w) (drop (at + length w) o) r front ∙ ap (λ z. drop z o) (sym next);
    }

pub putting-length : (o w : List ℕ) (at : ℕ) → at + length w ≤ length o → length (putting o at w).0 ≡ length o
unfolding putting
putting-length o w at h =
    let end : ℕ = at + length w in
    rw (le-leb end (length o) h)
    (length-append (take at o ++ w) (drop end o)
    ∙ ap₂ ◌+◌ (length-append (take at o) w ∙ ap (λ z. z + length w) (length-take-le at o (omega arith))) (length-drop end o)
    ∙ omega arith)

-- ---- several words

pub puts_none : (o : List ℕ) (at : ℕ) → (o, at) ≡ puts o at []
unfolding puts
puts_none o at = refl

pub puts_one : (o p v : List ℕ) (at r : ℕ) → (p, r) ≡ putting o at v → (p, r) ≡ puts o at (v ∷ [])
unfolding puts
puts_one o p v at r e = e

-- Several are put as those in front, then the others.
puts-append : (vs ws : List (List ℕ)) (o : List ℕ) (at : ℕ) → puts o at (vs ++ ws) ≡ puts (puts o at vs).0 (puts o at vs).1 ws
unfolding puts
puts-append [] ws o at = refl
puts-append (v ∷ vs) ws o at = puts-append vs ws (putting o at v).0 (putting o at v).1

pub puts_then : (o p q : List ℕ) (vs ws : List (List ℕ)) (at r s : ℕ) → (p, r) ≡ puts o at vs → (q, s) ≡ puts p r ws
    → (q, s) ≡ puts o at (vs ++ ws)
puts_then o p q vs ws at r s a b = b ∙ ap (λ (z : List ℕ × ℕ). puts z.0 z.1 ws) a ∙ sym (puts-append vs ws o at)

-- Where there is room for all of them the text that they make is put.
puts-added : (words : List (List ℕ)) (o q : List ℕ) (at r : ℕ) → (q, r) ≡ puts o at words → at + length (joined words) ≤ length o
    → Added o at (joined words) q r
unfolding puts
puts-added [] o q at r e h = subst (λ (z : List ℕ × ℕ). Added o at [] z.0 z.1) (sym e) (nothing o at)
puts-added (word ∷ words) o q at r e h =
    let p : List ℕ × ℕ = putting o at word in
    let long : length (word ++ joined words) ≡ length word + length (joined words) = length-append word (joined words) in
    let first : Added o at word p.0 p.1 = putting-added o p.0 word at p.1 refl (omega arith) in
    then o p.0 q word (joined words) at p.1 r first
    (puts-added words p.0 q p.1 r e (omega (arith, first.next, putting-length o word at (omega arith))))

-- The same by a bound m of its length, and where it ends.
pub puts-within : (words : List (List ℕ)) (o q : List ℕ) (at r m : ℕ) → (q, r) ≡ puts o at words → length (joined words) ≤ m
    → at + m ≤ length o → Added o at (joined words) q r × (r ≤ at + m)
puts-within words o q at r m e h k =
    let added : Added o at (joined words) q r = puts-added words o q at r e (omega arith) in
    (added, omega (arith, added.next))

pub joined-append : (vs ws : List (List ℕ)) → joined (vs ++ ws) ≡ joined vs ++ joined ws
joined-append [] ws = refl
joined-append (v ∷ vs) ws = ap (λ z. v ++ z) (joined-append vs ws) ∙ sym (append_assoc v (joined vs) (joined ws))
