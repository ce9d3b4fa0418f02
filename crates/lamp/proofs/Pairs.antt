-- Pairs taken apart into two lists, each of which a loop writes in place, as laws over plain lists.
--   Written f out₀ out k               out₀ has become out, and its first k numbers are those of f
--   written-start, -next, -end         the start, a turn and the end of the loop
--   apart-padded, -within, -lent       what is written over the front of sixteen zeros is padded, and its front is lent on
--   heard-parted                       the outcome of hearing by the two arrays
use mathlib.Core.Path.{◌≡◌, refl, sym, ap, ap₂, ◌∙◌}
use mathlib.Core.List.{List, [], ◌∷◌, ◌++◌}
use Prim.Native.Nat.{ℕ, zero, suc, ◌+◌, ◌*◌, ◌-◌, ◌<◌, ◌≤◌}
use native.Mathlib.Numerals.{add-one}
use native.Mathlib.Omega.{arith}
use lib.ListN.{length, get_or, take, drop, set, replicate, length-set, length-append}
use lib.Seq.{take-suc-set, take_all, length-take-le}
use Rattle.lists.specs.Tabulate.{tabulate, pad}
use Rattle.lists.proofs.Tabulate.{length-tabulate}
use Rattle.answers.specs.declared.Answer.TheVariants.{Report}
use Rattle.lamp.specs.declared.Lamp.{Lamp}
use Rattle.lamp.specs.declared.Reply.{Reply}
use Rattle.lamp.specs.Lamp.{report_from, with_report, with_pairs, reply}
use Rattle.lamp.proofs.Outcomes.{every_second, bits, heard-apart}
use Rattle.std.specs.Prelude.{Ok}

pub record Written (f : ℕ → ℕ) (out₀ out : List ℕ) (k : ℕ) : Type 0 where
  pub kept : length out ≡ length out₀
  pub front : take k out ≡ tabulate f k

module _ (f : ℕ → ℕ) (out₀ : List ℕ) where
  pub written-start : Written f out₀ out₀ 0
  unfolding tabulate
  written-start = record { kept = refl; front = refl }

  pub written-next : (out : List ℕ) (k v : ℕ) → Written f out₀ out k → k < length out₀ → v ≡ f k → Written f out₀ (set out k v) (k + 1)
  unfolding tabulate
  written-next out k v z h e = record {
    kept = length-set out k v ∙ z.kept;
    front = rw (add-one k, take-suc-set out k v (omega (arith, z.kept))) (ap₂ (λ xs a. xs ++ a ∷ []) z.front e);
  }

  pub written-end : (out : List ℕ) (k : ℕ) → Written f out₀ out k → length out₀ ≤ k → k ≤ length out₀ → out ≡ tabulate f (length out₀)
  written-end out k z h l =
      let all : k ≡ length out₀ = omega arith in
      sym (take_all k out (omega (arith, z.kept))) ∙ z.front ∙ ap (tabulate f) all

-- ---- over the front of an array
abbrev zeros : ℕ → List ℕ
zeros w = replicate w 0

drop-zeros : (n w : ℕ) → drop n (zeros w) ≡ zeros (w - n)
drop-zeros zero w = let e : w ≡ w - 0 = omega arith in ap zeros e
drop-zeros (suc n) zero = let e : 0 ≡ 0 - suc n = omega arith in ap zeros e
drop-zeros (suc n) (suc w) = let e : w - n ≡ suc w - suc n = omega arith in drop-zeros n w ∙ ap zeros e

pub lent-zeros : (n : ℕ) → n ≤ 16 → length (take n (zeros 16)) ≡ n
lent-zeros n h = length-take-le n (zeros 16) h

-- What n pairs leave of sixteen zeros, whose first n were lent.
module _ (n from : ℕ) (hs part : List ℕ) (h : n ≤ 16) (e : part ≡ every_second (length (take n (zeros 16))) from hs) where
  abbrev whole : List ℕ
  whole = part ++ drop n (zeros 16)

  pub apart-padded : whole ≡ pad 16 (every_second n from hs)
  apart-padded =
      ap₂ (λ xs ys. xs ++ ys) (e ∙ ap (λ m. every_second m from hs) (lent-zeros n h))
      (drop-zeros n 16 ∙ ap (λ m. zeros (16 - m)) (sym (length-tabulate (λ k. get_or hs (from + 2 * k) 0) n)))

  length_part : length part ≡ n
  length_part = ap length e ∙ length-tabulate (λ k. get_or hs (from + 2 * k) 0) (length (take n (zeros 16))) ∙ lent-zeros n h

  pub apart-within : n ≤ length whole
  apart-within = omega (arith, length_part, length-append part (drop n (zeros 16)))

  pub apart-lent : length (take n whole) ≡ n
  apart-lent = length-take-le n whole apart-within

-- The outcome of hearing pairs, by the two arrays.
module _ (l : Lamp) (hs p q : List ℕ) (h : l.party.n ≤ 16) where
  abbrev lent : ℕ
  lent = length (take l.party.n (zeros 16))

  abbrev over : List ℕ → List ℕ
  over part = part ++ drop l.party.n (zeros 16)

  pub heard-parted : (p ≡ every_second lent 0 hs) × (q ≡ every_second lent 1 hs) → (r : Reply) (b : ℕ)
      → r ≡ reply (with_report l (over p) b) (Ok (Report b)) → b ≡ bits l hs (over p) (over q)
      → r ≡ reply (with_pairs l hs) (Ok (Report (report_from l hs)))
  heard-parted e r b told same =
      told ∙ ap (λ x. reply (with_report l (over p) x) (Ok (Report x))) same
      ∙ heard-apart l hs (over p) (over q) (apart-padded l.party.n 0 hs p h e.0) (apart-padded l.party.n 1 hs q h e.1)
