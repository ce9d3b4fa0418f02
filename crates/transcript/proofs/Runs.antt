-- Laws of running a record: its sections are as long as they must be, so that what the code lends is what the definitions say.
--   fine-legal, fine-facts                                the sizes of a record
--   read_as                                               the numbers of a section, by the width that the code reads them with
--   deals-count, pairs-count                              how many there are: deals and round two
--   reports-count, shares-count                           reports and published shares
--   plain-table                                           1 to n are points of either width
--   part-own, part-whole, part-all                        a party's own part of them, or all, as it stands in a lent list
--   part-inside, part-read                                as the code reads it from the bytes of a section
--   deal-room, pairs-room, deal-taken, pairs-heard        a lamp's own part of the deals and of round two, and the lamp that takes it
--   lamps-more                                            one lamp's line more
use mathlib.Core.Path.{◌≡◌, refl, sym, ap, ap₂, ◌∙◌}
use mathlib.Core.Bool.{true}
use mathlib.Core.List.{List, [], ◌∷◌, ◌++◌}
use Prim.Native.Nat.{ℕ, suc, ◌+◌, ◌*◌, ◌-◌, ◌/◌, ◌≤◌, ◌<◌}
use native.Mathlib.Nat.{mul-le-mul, mul-le-mul_right, suc-mul, mul-div_right, add-sub_cancel_left}
use native.Mathlib.Numerals.{add-one}
use native.Mathlib.Omega.{arith}
use lib.ListN.{length, take, drop, length-drop}
use lib.Seq.{take_all, length-take-le}
use Rattle.std.specs.Prelude.{Ok}
use Rattle.field.specs.declared.Width.{Width}
use Rattle.field.specs.declared.Width.TheVariants.{Narrow, Wide}
use Rattle.field.specs.Modulus.{prime_of}
use Rattle.parties.specs.Parties.{sizes}
use Rattle.parties.proofs.Parties.{sizes-facts}
use Rattle.tables.specs.Tables.{one_to, IsTable}
use Rattle.tables.proofs.Tables.{one-to-table}
use Rattle.dealer.specs.Desk.{stretch}
use Rattle.lamp.specs.declared.Lamp.{Lamp}
use Rattle.lamp.specs.declared.Reply.{Reply}
use Rattle.lamp.specs.Lamp.{make, made, take_deal, hear_pairs, step, after}
use Rattle.lamp.proofs.Calls.{make-lamp}
use Rattle.record.specs.declared.Head.{Head}
use Rattle.record.specs.Record.{width_of, n_of, t_of, section_width, section_count, reading, IsRecord, section_of, numbers_of}
use Rattle.record.specs.Bytes.{number_bytes, numbers_by, over}
use Rattle.record.proofs.Bytes.{length-numbers, numbers-part, over-full}
use Rattle.record.proofs.Answers.{fine-sizes, fine-record, length-section}
use Rattle.transcript.specs.Outcomes.{reply_line}
use Rattle.transcript.specs.Transcript.{received, deal_call, pairs_call, lamp_lines, run}

-- ---- the sections of a record

-- As many numbers as their bytes.
counted : (v : Width) (m : ℕ) → number_bytes v * m / number_bytes v ≡ m
counted Narrow m = mul-div_right m (omega arith)
counted Wide m = mul-div_right m (omega arith)

module _ (bytes : List ℕ) (head : Head) (read : reading bytes ≡ Ok head) where
  is-record : IsRecord bytes
  is-record = fine-record bytes head.width head.n head.t read

  pub fine-legal : sizes head.n head.t ≡ true
  fine-legal = let (_, a, b) = fine-sizes bytes head.width head.n head.t read in ap₂ sizes a b ∙ is-record.size

  pub fine-facts : (1 ≤ head.t) × (head.t ≤ 3) × (4 * head.t + 1 ≤ head.n) × (head.n ≤ 16)
  fine-facts = sizes-facts head.n head.t fine-legal

  -- The code reads section k with the width v: the record's own, but the narrow one where it reads reports.
  pub read_as : (k : ℕ) (v : Width) → section_width head.width k ≡ v → numbers_by v (section_of bytes k) ≡ numbers_of bytes k
  read_as k v e =
      let own = (fine-sizes bytes head.width head.n head.t read).0 in
      ap (λ u. numbers_by u (section_of bytes k)) (sym e ∙ ap (λ u. section_width u k) own)

  section-count : (k m : ℕ) → k ≤ 3 → section_count head.n head.t k ≡ m → length (numbers_of bytes k) ≡ m
  section-count k m h e =
      let (_, a, b) = fine-sizes bytes head.width head.n head.t read in
      let v : Width = section_width (width_of bytes) k in
      length-numbers v (section_of bytes k)
      ∙ ap (λ z. z / number_bytes v) (length-section bytes k is-record h)
      ∙ counted v (section_count (n_of bytes) (t_of bytes) k)
      ∙ ap₂ (λ a b. section_count a b k) (sym a) (sym b)
      ∙ e

  pub deals-count : length (numbers_of bytes 0) ≡ head.n * (2 * (head.t + 1))
  deals-count = section-count 0 (head.n * (2 * (head.t + 1))) (omega arith) (omega arith)

  pub pairs-count : length (numbers_of bytes 1) ≡ head.n * (2 * head.n)
  pairs-count = section-count 1 (head.n * (2 * head.n)) (omega arith) (omega arith)

  pub reports-count : length (numbers_of bytes 2) ≡ head.n
  reports-count = section-count 2 head.n (omega arith) refl

  pub shares-count : length (numbers_of bytes 3) ≡ head.n
  shares-count = section-count 3 head.n (omega arith) refl

-- ---- the points 1 to n, for a record has no table
pub plain-table : (w : Width) (n : ℕ) → n ≤ 16 → IsTable (prime_of w) n (one_to n)
plain-table Narrow n h = one-to-table (prime_of Narrow) n (omega arith)
plain-table Wide n h = one-to-table (prime_of Wide) n (omega arith)

-- ---- a party's own part of a list of n parts of 2m numbers

-- It lies within the list, and an array of 32 numbers holds it.
pub part_room : (n m i : ℕ) → n ≤ 16 → m ≤ 16 → 1 ≤ i → i ≤ n
    → ((i - 1) * (2 * m) + 2 * m ≤ n * (2 * m)) × (n * (2 * m) ≤ 512)
part_room n m (suc j) a b c d =
    let place : suc j - 1 ≡ j = omega arith in
    let most = mul-le-mul {n₁ = n} {m₁ = 2 * m} {n₂ = 16} {m₂ = 32} a (omega arith) in
    (rw place (omega (arith, suc-mul j (2 * m), mul-le-mul_right {m = suc j} {n = n} (2 * m) d)), most)
part_room n m Prim.Native.Nat.zero a b c d = elim c [ ]

-- The same of the list ys that the code reads, into the front of a lent list of 32 numbers.
module _ {X : Type 0} (list : List X) (lent : length list ≡ 32) where
  part-fits : (n m i : ℕ) (xs ys : List ℕ) → n ≤ 16 → m ≤ 16 → 1 ≤ i → i ≤ n → length xs ≡ n * (2 * m) → ys ≡ xs
      → ((i - 1) * (2 * m) + length (take (2 * m) list) ≤ length ys) × ((i - 1) * (2 * m) ≤ 512) × (length (take (2 * m) list) ≤ 32)
  part-fits n m i xs ys a b c d e same =
      let r = part_room n m i a b c d in
      let long = ap length same in
      let size : length (take (2 * m) list) ≡ 2 * m = length-take-le (2 * m) list (omega arith) in
      (omega arith, omega arith, omega arith)

  -- As many numbers as were asked for.
  pub part-own : (from m : ℕ) (xs ys : List ℕ) → m ≤ 32 → xs ≡ take (length (take m list)) (drop from ys) → xs ≡ take m (drop from ys)
  part-own from m xs ys h e = e ∙ ap (λ k. take k (drop from ys)) (length-take-le m list (omega arith))

  -- The whole list.
  pub part-whole : (n : ℕ) (ys zs : List ℕ) → n ≤ 32 → ys ≡ zs → length zs ≡ n
      → (0 + length (take n list) ≤ length ys) × (0 ≤ 512) × (length (take n list) ≤ 32)
  part-whole n ys zs h same size =
      let long = ap length same in
      let all : length (take n list) ≡ n = length-take-le n list (omega arith) in
      (omega arith, omega arith, omega arith)

  pub part-all : (n : ℕ) (xs ys zs : List ℕ) → n ≤ 32 → xs ≡ take (length (take n list)) (drop 0 ys) → ys ≡ zs → length zs ≡ n → xs ≡ zs
  part-all n xs ys zs h e same size = part-own 0 n xs ys h e ∙ ap (take n) same ∙ take_all n zs (omega arith)

-- As the code reads it from the bytes of a section: these lie within it, and the numbers go over a list of as many.
module _ (v : Width) (section whole : List ℕ) (each from count : ℕ) (size : each ≡ number_bytes v) (is : whole ≡ section)
    (room : from + count ≤ length (numbers_by v section)) where
  pub part-inside : each * from + each * count ≤ length whole
  part-inside = rw (size, is) (inside v section (by v section room))
    where
      by : (v : Width) (section : List ℕ) → from + count ≤ length (numbers_by v section) → from + count ≤ length section / number_bytes v
      by v section h = omega (arith, length-numbers v section)

      inside : (v : Width) (section : List ℕ) → from + count ≤ length section / number_bytes v
          → number_bytes v * from + number_bytes v * count ≤ length section
      inside Narrow section h = omega arith
      inside Wide section h = omega arith

  pub part-read : (olds : List ℕ) → length olds ≡ count
      → over (numbers_by v (take (each * from + each * count - each * from) (drop (each * from) whole))) olds
      ≡ take count (drop from (numbers_by v section))
  part-read olds k =
      let all : List ℕ = numbers_by v section in
      let xs : List ℕ = take count (drop from all) in
      let long : length xs ≡ count = length-take-le count (drop from all) (omega (arith, length-drop from all)) in
      rw (size, is, add-sub_cancel_left (number_bytes v * from) (number_bytes v * count), numbers-part v from count section)
      (over-full xs olds (omega arith) ∙ take_all (length olds) xs (omega arith))

-- ---- a lamp's own part of the deals and of round two, by the width v that the code reads them with
module _ (bytes : List ℕ) (head : Head) (read : reading bytes ≡ Ok head) (v : Width) (same : head.width ≡ v) (i : ℕ) where
  pub deal-room : {X : Type 0} (list : List X) → length list ≡ 32 → 1 ≤ i → i ≤ head.n → let m = 2 * (head.t + 1) in
      ((i - 1) * m + length (take m list) ≤ length (numbers_by v (section_of bytes 0))) × ((i - 1) * m ≤ 512) × (length (take m list) ≤ 32)
  deal-room list lent a b =
      let f = fine-facts bytes head read in
      part-fits list lent head.n (head.t + 1) i _ _ f.3 (omega arith) a b (deals-count bytes head read) (read_as bytes head read 0 v same)

  pub pairs-room : {X : Type 0} (list : List X) → length list ≡ 32 → 1 ≤ i → i ≤ head.n → let m = 2 * head.n in
      ((i - 1) * m + length (take m list) ≤ length (numbers_by v (section_of bytes 1))) × ((i - 1) * m ≤ 512) × (length (take m list) ≤ 32)
  pairs-room list lent a b =
      let f = fine-facts bytes head read in
      part-fits list lent head.n head.n i _ _ f.3 (omega arith) a b (pairs-count bytes head read) (read_as bytes head read 1 v same)

  abbrev deal : List ℕ
  deal = stretch (head.t + 1) (numbers_of bytes 0) i

  -- The lamp that takes its deal is the one that the definition says.
  pub deal-taken : (r : Reply) (d : List ℕ) → r ≡ make v head.n head.t i → d ≡ stretch (head.t + 1) (numbers_by v (section_of bytes 0)) i
      → (step r.lamp (take_deal v d)).lamp ≡ after (made head.width head.n head.t i) (deal_call bytes head.width head.t i ∷ [])
  deal-taken r d fresh is =
      ap₂ (λ (r : Reply) (d : List ℕ). (step r.lamp (take_deal v d)).lamp) fresh
      (is ∙ ap (λ ys. stretch (head.t + 1) ys i) (read_as bytes head read 0 v same))
      ∙ ap (λ l. (step l (take_deal v deal)).lamp) (make-lamp v head.n head.t i (one_to head.n))
      ∙ ap (λ u. (step (made u head.n head.t i) (take_deal u deal)).lamp) (sym same)

  -- And so is the one that then hears its pairs.
  pub pairs-heard : (l : Lamp) (d : List ℕ) → l ≡ after (made head.width head.n head.t i) (deal_call bytes head.width head.t i ∷ [])
      → d ≡ received head.n (numbers_by v (section_of bytes 1)) i
      → (step l (hear_pairs v d)).lamp
      ≡ after (made head.width head.n head.t i) (deal_call bytes head.width head.t i ∷ pairs_call bytes head.width head.n i ∷ [])
  pairs-heard l d fresh is =
      let dealt : Lamp = after (made head.width head.n head.t i) (deal_call bytes head.width head.t i ∷ []) in
      ap₂ (λ l d. (step l (hear_pairs v d)).lamp) fresh (is ∙ ap (λ ys. received head.n ys i) (read_as bytes head read 1 v same))
      ∙ ap (λ u. (step dealt (hear_pairs u (received head.n (numbers_of bytes 1) i))).lamp) (sym same)

-- ---- the lamps' lines
pub lamps-more : (bytes : List ℕ) (w : Width) (n t k : ℕ)
    → lamp_lines bytes w n t k ++ reply_line (k + 1) (run bytes w n t (k + 1)) ≡ lamp_lines bytes w n t (k + 1)
unfolding lamp_lines
lamps-more bytes w n t k = rw (add-one k)
