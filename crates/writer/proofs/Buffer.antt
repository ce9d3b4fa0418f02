-- Laws of writing: what is writable, the buffer after each section, and which answer when.
--   Writable   what the tests of `writable` say
--   Stage      everything before section k is written, and from its start on the buffer is as it was
use mathlib.Core.Path.{◌≡◌, refl, sym, ap, ap₂, ◌∙◌}
use mathlib.Core.Bool.{Bool, true, false, ◌&&◌, and-eq-true_iff}
use mathlib.Core.Option.{none, some, none-ne-some}
use mathlib.Core.List.{List, [], ◌∷◌, ◌++◌, map}
use Prim.Native.Nat.{ℕ, suc, ◌+◌, ◌*◌, ◌≤◌}
use native.Mathlib.Omega.{arith}
use lib.Dec.{eqb, leb}
use lib.ListN.{length, take, drop, set, length-append}
use borrow.Author.Tests.{eqb-true, leb-true}
use Rattle.std.proofs.lemmas.List.{length-map, map-id}
use Rattle.std.specs.Cmp.Lexicographic.{pointwise}
use Rattle.parties.specs.Parties.{sizes}
use Rattle.answers.specs.declared.Refusal.TheVariants.{WrongSize, WrongLength}
use Rattle.answers.specs.Refusals.{refusal_number, lowest, Admission, number_of}
use Rattle.answers.specs.Answers.{Writing}
use Rattle.answers.proofs.Tests.{lowest-pass}
use Rattle.field.specs.declared.Width.{Width}
use Rattle.field.specs.declared.Width.TheVariants.{Narrow, Wide}
use Rattle.record.specs.Bytes.{number_bytes, over}
use Rattle.record.specs.Record.{section_width, section_count, section_length, section_start, directory, mark}
use Rattle.writer.specs.Writer.{bytes_of, bytes_by, record_of, lists_fit, writable, writing_tests, written_by, writing}
use Rattle.record.proofs.Bytes.{over-room}
use Rattle.writer.proofs.Bytes.{length-bytes}
use Rattle.record.proofs.Sections.{length-directory, record-head, section-before-end}
use Rattle.writer.proofs.Loops.{Begun, begun-start, begun-byte, begun-put, begun-length}
use Rattle.std.specs.Prelude.{Ok, Err}

-- ---- What is writable

pub record Writable (w : Width) (n t : ℕ) (deals pairs reports shares : List ℕ) (room : ℕ) : Type 0 where
  pub size : sizes n t ≡ true
  pub first : length deals ≡ section_count n t 0
  pub second : length pairs ≡ section_count n t 1
  pub third : length reports ≡ section_count n t 2
  pub fourth : length shares ≡ section_count n t 3
  pub whole : section_start w n t 4 ≤ room

pub writable-facts : (w : Width) (n t : ℕ) (deals pairs reports shares : List ℕ) (room : ℕ)
    → writable w n t deals pairs reports shares room ≡ true → Writable w n t deals pairs reports shares room
unfolding writable lists_fit
writable-facts w n t deals pairs reports shares room e =
    let b = eqb (length deals) (2 * n * (t + 1)) in
    let c = eqb (length pairs) (2 * n * n) in
    let d = eqb (length reports) n in
    let f = eqb (length shares) n in
    let (size, lengths) = (and-eq-true_iff (sizes n t) (b && c && d && f && leb (section_start w n t 4) room)).0 e in
    let (e4, whole) = (and-eq-true_iff (b && c && d && f) (leb (section_start w n t 4) room)).0 lengths in
    let (e3, fourth) = (and-eq-true_iff (b && c && d) f).0 e4 in
    let (e2, third) = (and-eq-true_iff (b && c) d).0 e3 in
    let (first, second) = (and-eq-true_iff b c).0 e2 in
    record {
      size = size;
      first = eqb-true _ _ first;
      second = eqb-true _ _ second;
      third = eqb-true _ _ third;
      fourth = eqb-true _ _ fourth;
      whole = leb-true _ _ whole;
    }

-- The same of reports as `put` takes them: a number of 16 bits is what it counts.
pub writable-lent : (w : Width) (n t : ℕ) (deals pairs reports shares : List ℕ) (room : ℕ)
    → writable w n t deals pairs reports shares room ≡ true → Writable w n t deals pairs (map (λ x. x) reports) shares room
writable-lent w n t deals pairs reports shares room e =
    writable-facts w n t deals pairs (map (λ x. x) reports) shares room (rw (map-id reports) e)

-- As the code adds up the room: the numbers of the record's width, and two bytes for each report.
room-sum : (w : Width) (n t deals pairs each : ℕ) → deals ≡ 2 * n * (t + 1) → pairs ≡ 2 * n * n → each ≡ number_bytes w
    → 18 + each * (deals + pairs + n) + 2 * n ≡ section_start w n t 4
room-sum Narrow n t deals pairs each e f g = ap (λ z. 18 + z * (deals + pairs + n) + 2 * n) g ∙ omega (arith, e, f)
room-sum Wide n t deals pairs each e f g = ap (λ z. 18 + z * (deals + pairs + n) + 2 * n) g ∙ omega (arith, e, f)

-- As the code compares the lengths: all at once, and then the room.
module _ (w : Width) (n t deals pairs reports shares room : ℕ) where
  abbrev lengths : Bool
  lengths = pointwise eqb (deals ∷ pairs ∷ reports ∷ shares ∷ []) (2 * n * (t + 1) ∷ 2 * n * n ∷ n ∷ n ∷ [])

  grouped : (a b c d e : Bool) → (((a && b) && c) && d) && e ≡ (a && (b && (c && (d && true)))) && e
  grouped false b c d e = refl
  grouped true false c d e = refl
  grouped true true false d e = refl
  grouped true true true false e = refl
  grouped true true true true e = refl

  fit-is : lists_fit w n t deals pairs reports shares room ≡ lengths && leb (section_start w n t 4) room
  unfolding lists_fit
  fit-is =
      grouped (eqb deals (2 * n * (t + 1))) (eqb pairs (2 * n * n)) (eqb reports n) (eqb shares n) (leb (section_start w n t 4) room)

  pub fit-no : lengths ≡ false → false ≡ lists_fit w n t deals pairs reports shares room
  fit-no l = sym (fit-is ∙ ap (λ z. z && leb (section_start w n t 4) room) l)

  pub fit-room : (each : ℕ) → each ≡ number_bytes w → lengths ≡ true
      → leb (18 + each * (deals + pairs + n) + 2 * n) room ≡ lists_fit w n t deals pairs reports shares room
  fit-room each e l =
      let rest = eqb reports n && (eqb shares n && true) in
      let (first, more) = (and-eq-true_iff (eqb deals (2 * n * (t + 1))) (eqb pairs (2 * n * n) && rest)).0 l in
      let (second, others) = (and-eq-true_iff (eqb pairs (2 * n * n)) rest).0 more in
      ap (λ z. leb z room) (room-sum w n t deals pairs each (eqb-true _ _ first) (eqb-true _ _ second) e)
      ∙ sym (fit-is ∙ ap (λ z. z && leb (section_start w n t 4) room) l)

-- ---- The buffer after the head

-- The sizes and the directory.
abbrev pub head_of : Width → ℕ → ℕ → List ℕ
head_of w n t = (mark w + n) ∷ t ∷ bytes_of (directory w n t)

-- They are written, and what stands behind them is as it was.
abbrev pub Headed : Width → ℕ → ℕ → List ℕ → ℕ → List ℕ → Type 0
Headed w n t out r new = (length new ≡ length out) × ((r ≡ 18) × (new ≡ head_of w n t ++ drop 18 out))

-- As `put` leaves it behind two stores.
pub head-put : (w : Width) (n t : ℕ) (out : List ℕ) → 18 ≤ length out → (first : ℕ) (list : List ℕ) (r : ℕ) (new : List ℕ)
    → first ≡ mark w + n → list ≡ directory w n t
    → r ≡ 2 + 2 * length list → new ≡ take 2 (set (set out 0 first) 1 t) ++ (bytes_of list ++ drop r (set (set out 0 first) 1 t))
    → Headed w n t out r new
head-put w n t out h first list r new f e p q =
    let start = begun-start out 0 (omega arith) in
    let one = begun-byte (take 0 out) 0 out out start first (omega arith) in
    let two = begun-byte (first ∷ []) 1 out (set out 0 first) one t (omega arith) in
    let eight : length list ≡ 8 = ap length e ∙ length-directory w n t in
    let end : r ≡ 18 = omega arith in
    let all = begun-put (first ∷ t ∷ []) 2 out (set (set out 0 first) 1 t) two (bytes_of list) r new (omega arith)
    (p ∙ omega (arith, length-bytes Narrow list)) q in (
      begun-length (first ∷ t ∷ bytes_of list) r out new all,
      (
        end,
        all.holds ∙ ap₂ (λ z m. (first ∷ t ∷ bytes_of z) ++ drop m out) e end
            ∙ ap (λ z. (z ∷ t ∷ bytes_of (directory w n t)) ++ drop 18 out) f,
      ),
    )

-- ---- The buffer after each section

pub record Stage (w : Width) (n t : ℕ) (out front : List ℕ) (k r : ℕ) (new : List ℕ) : Type 0 where
  pub place : r ≡ section_start w n t k
  pub begun : Begun front r out new

module _ {w : Width} {n t : ℕ} {out : List ℕ} (whole : section_start w n t 4 ≤ length out) where
  -- The sizes and the directory.
  pub stage-head : {r : ℕ} {new : List ℕ} → r ≡ 18 → new ≡ head_of w n t ++ drop 18 out → Stage w n t out (head_of w n t) 0 r new
  stage-head {r} {new} e q = record {
    place = e;
    begun = record {
      place = ap (λ z. suc (suc z)) (length-bytes Narrow (directory w n t)) ∙ omega (arith, length-directory w n t);
      room = omega (arith, record-head w n t);
      holds = q ∙ ap (λ m. head_of w n t ++ drop m out) (sym e);
    };
  }

  -- One list more, as `put` leaves it.
  module _ {front : List ℕ} {k r : ℕ} {new : List ℕ} (s : Stage w n t out front k r new) (h : k ≤ 3) {A : Type 0} (f : A → ℕ) (xs : List A)
      (l : length (map f xs) ≡ section_count n t k) where
    long : number_bytes (section_width w k) * length xs ≡ section_length w n t k
    long = ap (λ z. number_bytes (section_width w k) * z) (sym (length-map xs f) ∙ l)

    pub stage-room : r + number_bytes (section_width w k) * length xs ≤ length new
    stage-room = omega (arith, begun-length front r out new s.begun, s.place, section-before-end w n t k h, long)

    pub stage-next : {r₂ : ℕ} {new₂ : List ℕ} → r₂ ≡ r + number_bytes (section_width w k) * length xs
        → new₂ ≡ take r new ++ (bytes_by (section_width w k) (map f xs) ++ drop r₂ new)
        → Stage w n t out (front ++ bytes_by (section_width w k) (map f xs)) (suc k) r₂ new₂
    stage-next {r₂} {new₂} p q =
        let part : List ℕ = bytes_by (section_width w k) (map f xs) in
        let size : length part ≡ section_length w n t k =
        length-bytes (section_width w k) (map f xs) ∙ ap (λ z. number_bytes (section_width w k) * z) l in
        record {
          place = p ∙ ap₂ ◌+◌ s.place long;
          begun = begun-put front r out new s.begun part r₂ new₂ (omega (arith, stage-room, begun-length front r out new s.begun))
              (omega (arith, size, long)) q;
        }

-- ---- The whole record

module _ (w : Width) (n t : ℕ) (deals pairs reports shares : List ℕ) where
  pub length-record : {room : ℕ} → Writable w n t deals pairs reports shares room
      → length (record_of w n t deals pairs reports shares) ≡ section_start w n t 4
  unfolding record_of
  length-record fit =
      let each : (v : Width) (k : ℕ) (xs : List ℕ) → length xs ≡ section_count n t k
      → length (bytes_by v xs) ≡ number_bytes v * section_count n t k = λ v k xs e. length-bytes v xs ∙ ap (λ z. number_bytes v * z) e in
      let head = length-bytes Narrow (directory w n t) in
      simp length-append
      (omega (
        arith,
        head,
        length-directory w n t,
        each w 0 deals fit.first,
        each w 1 pairs fit.second,
        each Narrow 2 reports fit.third,
        each w 3 shares fit.fourth,
      ))

  -- After the last section.
  pub stage-end : {out : List ℕ} → Writable w n t deals pairs reports shares (length out) → {r : ℕ} {new : List ℕ}
      → Stage w n t out ((((head_of w n t ++ bytes_by w deals) ++ bytes_by w pairs) ++ bytes_of reports) ++ bytes_by w shares) 4 r new
      → (r ≡ section_start w n t 4) × (new ≡ over (record_of w n t deals pairs reports shares) out)
  unfolding record_of
  stage-end {out} fit {r} {new} s =
      let size = length-record fit in (
        s.place,
        s.begun.holds
            ∙ ap (λ b. record_of w n t deals pairs reports shares ++ drop b out) (s.place ∙ sym size)
            ∙ sym (over-room (record_of w n t deals pairs reports shares) out (omega (arith, fit.whole))),
      )

-- ---- Which answer when, in the protocol's order

-- The length that an answer tells, plus one; 0 where it tells none.
abbrev told : Writing → ℕ
told (Ok count) = suc count
told (Err why) = 0

-- What is written tells its length; a refusal, whichever, leaves the buffer alone.
module _ (new : List ℕ) (whole : ℕ) (out : List ℕ) where
  passed : (a : Admission) (r : ℕ) → (written_by a new whole out).1 ≡ Ok r → (a ≡ Ok tt) × (r ≡ whole)
  passed (Ok tt) r e = let same : suc whole ≡ suc r = ap told e in (refl, omega arith)
  passed (Err why) r e = let none : 0 ≡ suc r = ap told e in absurd (omega arith)

  left_alone : (a : Admission) (k : ℕ) → number_of (written_by a new whole out).1 ≡ some k → (written_by a new whole out).0 ≡ out
  left_alone (Ok tt) k e = absurd (none-ne-some _ e)
  left_alone (Err why) k e = refl

module _ (w : Width) (n t : ℕ) (deals pairs reports shares out : List ℕ) where
  -- The test of the lengths.
  abbrev fitting : Bool
  fitting = lists_fit w n t (length deals) (length pairs) (length reports) (length shares) (length out)

  pub writing-size : sizes n t ≡ false → writing w n t deals pairs reports shares out ≡ (out, Err WrongSize)
  unfolding writing
  writing-size e = simp e

  pub writing-length : sizes n t ≡ true
      → lists_fit w n t (length deals) (length pairs) (length reports) (length shares) (length out) ≡ false
      → writing w n t deals pairs reports shares out ≡ (out, Err WrongLength)
  unfolding writing
  writing-length e d = simp (e, d)

  pub writing-written : writable w n t deals pairs reports shares (length out) ≡ true
      → writing w n t deals pairs reports shares out
      ≡ (over (record_of w n t deals pairs reports shares) out, Ok (section_start w n t 4))
  unfolding writing writable
  writing-written e = let (size, lengths) = (and-eq-true_iff (sizes n t) fitting).0 e in simp (size, lengths)

  -- The same in the protocol's numbers.
  pub number-writing-size : sizes n t ≡ false
      → number_of (writing w n t deals pairs reports shares out).1 ≡ some (refusal_number WrongSize)
  number-writing-size e = ap (λ z. number_of z.1) (writing-size e)

  pub number-writing-length : sizes n t ≡ true
      → lists_fit w n t (length deals) (length pairs) (length reports) (length shares) (length out) ≡ false
      → number_of (writing w n t deals pairs reports shares out).1 ≡ some (refusal_number WrongLength)
  number-writing-length e d = ap (λ z. number_of z.1) (writing-length e d)

  pub number-written : writable w n t deals pairs reports shares (length out) ≡ true
      → number_of (writing w n t deals pairs reports shares out).1 ≡ none
  number-written e = ap (λ z. number_of z.1) (writing-written e)

  -- The tests, as `writing` looks at them.
  abbrev tested : Admission
  tested = lowest (writing_tests w n t deals pairs reports shares (length out))

  -- A refusal, whichever, leaves the buffer alone.
  pub writing-refused : (k : ℕ) → number_of (writing w n t deals pairs reports shares out).1 ≡ some k
      → (writing w n t deals pairs reports shares out).0 ≡ out
  unfolding writing
  writing-refused k e = left_alone (over (record_of w n t deals pairs reports shares) out) (section_start w n t 4) out tested k e

  -- Only what is writable is written, and the answer is the record's length.
  pub only-writable : (r : ℕ) → (writing w n t deals pairs reports shares out).1 ≡ Ok r
      → (writable w n t deals pairs reports shares (length out) ≡ true) × (r ≡ section_start w n t 4)
  unfolding writing writable
  only-writable r e =
      let (pass, same) = passed (over (record_of w n t deals pairs reports shares) out) (section_start w n t 4) out tested r e in
      let (size, (lengths, rest)) = lowest-pass (writing_tests w n t deals pairs reports shares (length out)) pass in
      (simp (size, lengths), same)
