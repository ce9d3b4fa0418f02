-- Laws of stored shares.
--   read-written    what was written is read: the same number, and the same prime
--   read-facts      what is read as a share are six bytes, those of its prime and its number, which is a residue
--   written_read    writing what was read gives the bytes back
--   old-facts       what is read as an old share are two bytes, of a residue of the narrow prime
--   old-kept        an old share keeps its number, and is narrow; old-read: every residue of the narrow prime was one
--   old-moved       an old share that is written anew is read as it was
use mathlib.Core.Path.{◌≡◌, refl, sym, ap, ap₂, subst, ◌∙◌}
use mathlib.Core.List.{List, [], ◌∷◌}
use Prim.Native.Nat.{ℕ, zero, suc, ◌≤◌, ◌<◌}
use native.Mathlib.Omega.{arith}
use borrow.Author.Tests.{ltb-true, leb-true, eqb-true}
use lib.ListN.{length, get_or}
use Rattle.lists.specs.All.{All}
use Rattle.field.specs.declared.Width.{Width}
use Rattle.field.specs.declared.Width.TheVariants.{Narrow, Wide}
use Rattle.field.specs.Modulus.{prime_of, width_number}
use Rattle.answers.specs.Refusals.{lowest, Admission}
use Rattle.answers.proofs.Tests.{lowest-pass}
use Rattle.arrays.specs.Limits.{limit_of}
use Rattle.record.specs.Bytes.{wide_numbers}
use Rattle.record.proofs.Bytes.{length-numbers}
use Rattle.writer.specs.Writer.{bytes_of, wide_bytes_of}
use Rattle.writer.proofs.Bytes.{length-bytes, numbers-bytes, bytes-numbers}
use Rattle.stored.specs.declared.Share.{Share}
use Rattle.stored.specs.Stored.{share_bytes, width_named, share_number, old_number, read_tests, old_tests, share}
use Rattle.stored.specs.Stored.{write_share, stored_by, read_share, old_share}
use Rattle.stored.proofs.Answers.{write_done, read_none, old-none}
use Rattle.std.specs.Prelude.{Ok, Err}

-- ---- What was written

-- A residue has four bytes.
below-limit : (w : Width) (v : ℕ) → v < prime_of w → v < limit_of Wide
below-limit Narrow v h = omega arith
below-limit Wide v h = omega arith

number-back : (w : Width) (v : ℕ) → v < prime_of w → share_number (share_bytes w v) ≡ v
number-back w v h = ap (λ xs. get_or xs 0 0) (numbers-bytes Wide (v ∷ []) (below-limit w v h, tt))

-- The bytes of a share are read as the share.
bytes_read : (w : Width) (v : ℕ) → v < prime_of w → read_share (share_bytes w v) ≡ share w v
bytes_read w v h =
    let same = number-back w v h in
    let six : length (share_bytes w v) ≡ 6 = ap (λ k. suc (suc k)) (length-bytes Wide (v ∷ [])) in
    (read_none (share_bytes w v) six w refl refl (subst (λ x. x < prime_of w) (sym same) h)).1 ∙ ap (share w) same

pub read-written : (w : Width) (v : ℕ) (out : List ℕ) → length out ≡ 6 → v < prime_of w
    → read_share (write_share w v out).0 ≡ share w v
read-written w v out six h = ap (λ r. read_share r.0) (write_done w v out six h) ∙ bytes_read w v h

-- ---- What was read

-- Nothing is a share but where every test passes, and the prime and the number are handed on.
passed : (a : Admission) (u : Width) (x : ℕ) (w : Width) (v : ℕ) → stored_by a u x ≡ share w v → (a ≡ Ok tt) × (u ≡ w) × (x ≡ v)
passed (Ok t) u x w v e =
    let h : ◌≡◌ {A = Share} (record { width = u; number = x }) (record { width = w; number = v }) = cc in
    (refl, ap (λ (s : Share). s.width) h, ap (λ (s : Share). s.number) h)
passed (Err why) u x w v e = absurd (cc)

-- A first byte that passes is the number of the width that it names.
named : (x : ℕ) → x ≤ 1 → x ≡ width_number (width_named x)
named zero h = refl
named (suc zero) h = refl
named (suc (suc x)) h = absurd (omega arith)

-- The number of a share is a residue of its prime.
residue : (u w : Width) (x v : ℕ) → u ≡ w → x ≡ v → x < prime_of u → v < prime_of w
residue u w x v e f h = subst (λ q. v < prime_of q) e (subst (λ y. y < prime_of u) f h)

pub read-facts : (bs : List ℕ) (w : Width) (v : ℕ) → read_share bs ≡ share w v
    → (length bs ≡ 6) × (get_or bs 0 0 ≡ width_number w) × (get_or bs 1 0 ≡ 0) × (share_number bs ≡ v) × (v < prime_of w)
unfolding read_share
read-facts bs w v e =
    let u = width_named (get_or bs 0 0) in
    let (pass, prime, number) = passed (lowest (read_tests bs)) u (share_number bs) w v e in
    let (six, (one, (null, (below, rest)))) = lowest-pass (read_tests bs) pass in (
      eqb-true (length bs) 6 six,
      named (get_or bs 0 0) (leb-true (get_or bs 0 0) 1 one) ∙ ap width_number prime,
      eqb-true (get_or bs 1 0) 0 null,
      number,
      residue u w (share_number bs) v prime number (ltb-true (share_number bs) (prime_of u) below),
    )

-- A list of one number is its first.
only : (xs : List ℕ) → length xs ≡ 1 → xs ≡ get_or xs 0 0 ∷ []
only [] l = absurd (omega arith)
only (x ∷ []) l = refl
only (x ∷ y ∷ xs) l = absurd (omega arith)

-- Every list of six bytes is the bytes of what it gives.
six-back : (bs : List ℕ) → All (λ b. b < 256) bs → length bs ≡ 6 → (w : Width) (v : ℕ) → get_or bs 0 0 ≡ width_number w → get_or bs 1 0 ≡ 0
    → share_number bs ≡ v → share_bytes w v ≡ bs
six-back [] h l w v first second number = absurd (omega arith)
six-back (x ∷ []) h l w v first second number = absurd (omega arith)
six-back (x ∷ z ∷ rest) (hx, (hz, h)) l w v first second number =
    let four : length rest ≡ 4 = omega arith in
    let one : length (wide_numbers rest) ≡ 1 = omega (arith, length-numbers Wide rest) in
    let alone : v ∷ [] ≡ wide_numbers rest = ap (λ y. y ∷ []) (sym number) ∙ sym (only (wide_numbers rest) one) in
    let last : wide_bytes_of (v ∷ []) ≡ rest = ap wide_bytes_of alone ∙ bytes-numbers Wide rest h (omega arith) in
    ap₂ ◌∷◌ (sym first) (ap₂ ◌∷◌ (sym second) last)

pub written_read : (bs : List ℕ) → All (λ b. b < 256) bs → (w : Width) (v : ℕ) → read_share bs ≡ share w v
    → (out : List ℕ) → length out ≡ 6 → write_share w v out ≡ (bs, Ok 6)
written_read bs h w v e out six =
    let (l, first, second, number, below) = read-facts bs w v e in
    write_done w v out six below ∙ ap (λ b. (b, Ok 6)) (six-back bs h l w v first second number)

-- ---- An old share
pub old-facts : (bs : List ℕ) (w : Width) (v : ℕ) → old_share bs ≡ share w v
    → (length bs ≡ 2) × (w ≡ Narrow) × (v ≡ old_number bs) × (v < prime_of w)
unfolding old_share
old-facts bs w v e =
    let (pass, prime, number) = passed (lowest (old_tests bs)) Narrow (old_number bs) w v e in
    let (two, (below, rest)) = lowest-pass (old_tests bs) pass in (
      eqb-true (length bs) 2 two,
      sym prime,
      sym number,
      residue Narrow w (old_number bs) v prime number (ltb-true (old_number bs) (prime_of Narrow) below),
    )

pub old-kept : (bs : List ℕ) (w : Width) (v : ℕ) → old_share bs ≡ share w v → (w ≡ Narrow) × (v ≡ old_number bs)
old-kept bs w v e = let (two, prime, number, below) = old-facts bs w v e in (prime, number)

-- Every residue of the narrow prime was stored in two bytes, and is read from them.
pub old-read : (v : ℕ) → v < prime_of Narrow → old_share (bytes_of (v ∷ [])) ≡ share Narrow v
old-read v h =
    let same : old_number (bytes_of (v ∷ [])) ≡ v = ap (λ xs. get_or xs 0 0) (numbers-bytes Narrow (v ∷ []) (omega arith, tt)) in
    let two : length (bytes_of (v ∷ [])) ≡ 2 = length-bytes Narrow (v ∷ []) in
    (old-none (bytes_of (v ∷ [])) two (subst (λ x. x < 65521) (sym same) h)).1 ∙ ap (share Narrow) same

-- Written anew in six bytes it is read as it was.
pub old-moved : (bs : List ℕ) (w : Width) (v : ℕ) → old_share bs ≡ share w v → (out : List ℕ) → length out ≡ 6
    → read_share (write_share w v out).0 ≡ old_share bs
old-moved bs w v e out six = let (two, prime, number, below) = old-facts bs w v e in read-written w v out six below ∙ sym e
