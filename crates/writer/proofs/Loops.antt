-- The buffer as its front is written.
--   Begun front at old new             the front is written, and from `at` on all is as it was
--   Putting w list at old new i place  the bytes of the first i numbers are written
--   one-put                            the bytes of one
use mathlib.Core.Path.{◌≡◌, refl, sym, ap, ap₂, subst, ◌∙◌}
use mathlib.Core.List.{List, [], ◌∷◌, ◌++◌, append_assoc, append-nil}
use Prim.Native.Nat.{ℕ, ◌+◌, ◌*◌, ◌-◌, ◌/◌, ◌%◌, ◌≤◌, ◌<◌}
use native.Mathlib.Nat.{mul-zero, mul-one, mul-add, mul-le-mul}
use native.Mathlib.Numerals.{add-one}
use native.Mathlib.Omega.{arith}
use lib.ListN.{length, get_or, take, drop, set, length-append, length-drop, take-append-drop}
use lib.Seq.{take-suc, take_at, drop_at, drop-drop, set_at, length-take-le}
use Rattle.std.specs.Int.{w32, to_be_bytes}
use borrow.Rule.Slice.PartMut.{put_mid}
use Rattle.std.proofs.lemmas.List.{drop_more}
use Rattle.field.specs.declared.Width.{Width}
use Rattle.field.specs.declared.Width.TheVariants.{Narrow, Wide}
use Rattle.record.specs.Bytes.{number_bytes}
use Rattle.writer.specs.Writer.{parted, bytes_by}
use Rattle.writer.proofs.Bytes.{length-bytes, bytes-append}

-- ---- A list whose front is written
pub record Begun (front : List ℕ) (at : ℕ) (old new : List ℕ) : Type 0 where
  pub place : length front ≡ at
  pub room : at ≤ length old
  pub holds : new ≡ front ++ drop at old

pub begun-start : (old : List ℕ) (at : ℕ) → at ≤ length old → Begun (take at old) at old old
begun-start old at h = record { place = length-take-le at old h; room = h; holds = sym (take-append-drop at old) }

module _ (front : List ℕ) (at : ℕ) (old new : List ℕ) (b : Begun front at old new) where
  pub begun-length : length new ≡ length old
  begun-length = ap length b.holds ∙ length-append front (drop at old) ∙ omega (arith, length-drop at old, b.place, b.room)

  -- One byte more.
  pub begun-byte : (v : ℕ) → at < length old → Begun (front ++ v ∷ []) (at + 1) old (set new at v)
  begun-byte v h = record {
    place = length-append front (v ∷ []) ∙ ap (λ z. z + 1) b.place;
    room = omega arith;
    holds =
        ap (λ z. set z at v) (b.holds ∙ ap (λ z. front ++ z) (drop_more old at 0 h))
        ∙ set_at front (get_or old at 0) (drop (at + 1) old) v at b.place
        ∙ sym (append_assoc front (v ∷ []) (drop (at + 1) old));
  }

  -- Bytes more, as `put` leaves them.
  pub begun-put : (part : List ℕ) (r : ℕ) (end : List ℕ) → r ≤ length old → r ≡ at + length part
      → end ≡ take at new ++ (part ++ drop r new) → Begun (front ++ part) r old end
  begun-put part r end h e w =
      let before : take at new ≡ front = ap (take at) b.holds ∙ take_at front (drop at old) at b.place in
      let behind : drop at new ≡ drop at old = ap (drop at) b.holds ∙ drop_at front (drop at old) at b.place in
      let m : ℕ = length part in
      let later : drop r new ≡ drop r old =
      ap (λ z. drop z new) e ∙ sym (drop-drop m at new) ∙ ap (drop m) behind ∙ drop-drop m at old ∙ ap (λ z. drop z old) (sym e) in
      record {
        place = length-append front part ∙ ap (λ z. z + length part) b.place ∙ sym e;
        room = h;
        holds = w ∙ ap₂ (λ a z. a ++ (part ++ z)) before later ∙ sym (append_assoc front part (drop r old));
      }

-- ---- `put`
pub record Putting (w : Width) (list : List ℕ) (at : ℕ) (old new : List ℕ) (i place : ℕ) : Type 0 where
  pub here : place ≡ at + number_bytes w * i
  pub begun : Begun (take at old ++ bytes_by w (take i list)) place old new

none-put : (w : Width) → bytes_by w [] ≡ []
unfolding parted
none-put Narrow = refl
none-put Wide = refl

-- The last bytes of four are those of one number.
pub one-put : (w : Width) (each x : ℕ) → each ≡ number_bytes w
    → take (4 - (4 - each)) (drop (4 - each) (to_be_bytes w32 x)) ≡ bytes_by w (x ∷ [])
unfolding parted
one-put Narrow each x e = rw e refl
one-put Wide each x e =
    let first : x / 16777216 % 256 ≡ x / 65536 % 65536 / 256 % 256 = omega arith in
    let second : x / 65536 % 256 ≡ x / 65536 % 65536 % 256 = omega arith in
    let third : x / 256 % 256 ≡ x % 65536 / 256 % 256 = omega arith in
    let fourth : x % 256 ≡ x % 65536 % 256 = omega arith in
    rw e (cc (first, second, third, fourth))

module _ (w : Width) (list : List ℕ) (at : ℕ) (old : List ℕ) where
  pub put-start : at ≤ length old → Putting w list at old old 0 at
  put-start h = record {
    here = omega (arith, mul-zero (number_bytes w));
    begun =
        let front : take at old ++ bytes_by w [] ≡ take at old = ap (λ z. take at old ++ z) (none-put w) ∙ append-nil (take at old) in
        subst (λ z. Begun z at old old) (sym front) (begun-start old at h);
  }

  module _ (new : List ℕ) (i place each : ℕ) (k : Putting w list at old new i place) (e : each ≡ number_bytes w) where
    -- There is room for one more.
    pub put-room : i < length list → at + number_bytes w * length list ≤ length old → place + each ≤ length new
    put-room h r =
        let upto = mul-le-mul {n₁ = number_bytes w} {m₁ = i + 1} {n₂ = number_bytes w} {m₂ = length list} (omega arith) (omega arith) in
        omega (arith, k.here, mul-add (number_bytes w) i 1, begun-length _ place old new k.begun)

    -- The bytes of the i-th number are written, too.
    pub put-next : (x : ℕ) (part : List ℕ) → i < length list → at + number_bytes w * length list ≤ length old → x ≡ get_or list i 0
        → part ≡ bytes_by w (x ∷ [])
        → Putting w list at old (put_mid place (place + each - place) new part) (i + 1) (place + each)
    put-next x part h r is q =
        let front : List ℕ = take at old ++ bytes_by w (take i list) in
        let one : part ≡ bytes_by w (get_or list i 0 ∷ []) = q ∙ ap (λ z. bytes_by w (z ∷ [])) is in
        let both : front ++ part ≡ take at old ++ bytes_by w (take (i + 1) list) =
        ap (λ z. front ++ z) one
        ∙ append_assoc (take at old) (bytes_by w (take i list)) (bytes_by w (get_or list i 0 ∷ []))
        ∙ ap (λ z. take at old ++ z) (sym (bytes-append w (take i list) (get_or list i 0 ∷ [])))
        ∙ ap (λ z. take at old ++ bytes_by w z) (sym (take-suc list i 0 h) ∙ ap (λ z. take z list) (sym (add-one i))) in
        let room = put-room h r in
        let size : length part ≡ each = ap length one ∙ length-bytes w (get_or list i 0 ∷ []) ∙ mul-one (number_bytes w) ∙ sym e in
        record {
          here = omega (arith, k.here, mul-add (number_bytes w) i 1);
          begun =
              let gap : place + (place + each - place) ≡ place + each = omega arith in
              let kept = begun-length _ place old new k.begun in
              subst (λ z. Begun z (place + each) old (put_mid place (place + each - place) new part)) both
              (begun-put front place old new k.begun part (place + each) _ (omega arith) (omega arith)
              (ap (λ z. take place new ++ (part ++ z)) (drop-drop (place + each - place) place new ∙ ap (λ z. drop z new) gap)));
        }
