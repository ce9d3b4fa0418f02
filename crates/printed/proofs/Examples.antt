-- Texts computed from the definitions: the protocol's example (F = 7 + 3X + 2Y + 4XY, n = 5, t = 1, all honest, except that lamp 3
-- publishes 999), narrow and wide, and its relatives, a wide record of large numbers, and each refusal; and that the example meets the
-- premises of what is printed.
use mathlib.Core.Path.{◌≡◌, refl, subst}
use mathlib.Core.Bool.{Bool, true, not}
use mathlib.Core.List.{List, [], ◌∷◌, ◌++◌, map, zip_with}
use Prim.Native.Nat.{ℕ, zero, suc, ◌+◌, ◌*◌, ◌-◌, ◌≤◌}
use native.Mathlib.Omega.{arith}
use lib.Count.{ones}
use lib.Dec.{lit≤}
use lib.ListN.{set}
use Rattle.lists.specs.All.{All}
use Rattle.lists.specs.Masks.{mask}
use Rattle.lists.specs.Choices.{count}
use Rattle.lists.specs.Tabulate.{tabulate}
use Rattle.field.specs.declared.Width.TheVariants.{Narrow, Wide}
use Rattle.field.specs.Arithmetic.{add, sub, mul, inv, inv_within}
use Rattle.interpolation.specs.Interpolation.{interpolate}
use Rattle.mutual.specs.Agreement.{agree, agreements}
use Rattle.happy.specs.Happy.{joins, better, best, largest, largest_in, happy_set}
use Rattle.trial.specs.Trial.{hits, points_sent, through}
use Rattle.fit.specs.Fit.{sent, fit}
use Rattle.parties.specs.Parties.{sizes, is_party, parties, entry, not_sent}
use Rattle.parties.proofs.Parties.{party-facts}
use Rattle.tables.specs.Tables.{point_at, is_table}
use Rattle.consistency.specs.Deal.{first_from, second_from, sound, pair_for, confirms, report_of}
use Rattle.recovery.specs.Recovery.{repair}
use Rattle.lamp.specs.Lamp.{with_deal, report_from, with_pairs, at_end, settled, step}
use Rattle.record.specs.Bytes.{paired, stand_at}
use Rattle.record.specs.Record.{directory, directory_right, width_of, n_of, t_of, reading_as, reading, IsRecord, section_of, numbers_of}
use Rattle.record.proofs.Answers.{fine-record}
use Rattle.writer.specs.Writer.{parted, record_of}
use Rattle.text.specs.Letters.{letters, spell}
use Rattle.lines.specs.Lines.{name, names, verdict_words}
use Rattle.transcript.specs.Outcomes.{reply_line, last_line}
use Rattle.transcript.specs.Transcript.{run, lamp_lines, text_of, text_by, text}
use Rattle.printed.specs.Direct.{its_pairs, its_report}
use Rattle.printed.specs.Printed.{its_pair, Faithful}

-- What the lamps are dealt, what they say in round two, by receiver, then sender, with u for what is not sent, and what they report.
abbrev pub dealt : List ℕ
dealt = 9 ∷ 7 ∷ 10 ∷ 6 ∷ 11 ∷ 11 ∷ 13 ∷ 10 ∷ 13 ∷ 15 ∷ 16 ∷ 14 ∷ 15 ∷ 19 ∷ 19 ∷ 18 ∷ 17 ∷ 23 ∷ 22 ∷ 22 ∷ []

abbrev heard_with : ℕ → List ℕ
heard_with u =
    u ∷ u ∷ 22 ∷ 23 ∷ 28 ∷ 30 ∷ 34 ∷ 37 ∷ 40 ∷ 44
    ∷ 23 ∷ 22 ∷ u ∷ u ∷ 43 ∷ 44 ∷ 53 ∷ 55 ∷ 63 ∷ 66
    ∷ 30 ∷ 28 ∷ 44 ∷ 43 ∷ u ∷ u ∷ 72 ∷ 73 ∷ 86 ∷ 88
    ∷ 37 ∷ 34 ∷ 55 ∷ 53 ∷ 73 ∷ 72 ∷ u ∷ u ∷ 109 ∷ 110
    ∷ 44 ∷ 40 ∷ 66 ∷ 63 ∷ 88 ∷ 86 ∷ 110 ∷ 109 ∷ u ∷ u
    ∷ []

abbrev pub heard : List ℕ
heard = heard_with 65535

abbrev pub reported : List ℕ
reported = 30 ∷ 29 ∷ 27 ∷ 23 ∷ 15 ∷ []

abbrev published : List ℕ
published = 10 ∷ 13 ∷ 999 ∷ 19 ∷ 22 ∷ []

-- Second numbers that lamp i hears from j replaced by 0, for each (i, j), so that i has no one for j.
abbrev unheard : List (ℕ × ℕ) → List ℕ → List ℕ
unheard [] hs = hs
unheard (q ∷ qs) hs = set (unheard qs hs) (10 * (q.0 - 1) + 2 * (q.1 - 1) + 1) 0

-- Numbers just below the wide prime, each by what it lacks: F = -(1 + X)(1 + Y), so that the secret is 2,147,483,646.
abbrev high : List ℕ → List ℕ
high ks = map (λ k. 2147483647 - k) ks

abbrev dealt_high : List ℕ
dealt_high = high (2 ∷ 2 ∷ 2 ∷ 2 ∷ 3 ∷ 3 ∷ 3 ∷ 3 ∷ 4 ∷ 4 ∷ 4 ∷ 4 ∷ 5 ∷ 5 ∷ 5 ∷ 5 ∷ 6 ∷ 6 ∷ 6 ∷ 6 ∷ [])

abbrev heard_high : List ℕ
heard_high =
    high
    (0 ∷ 0 ∷ 6 ∷ 6 ∷ 8 ∷ 8 ∷ 10 ∷ 10 ∷ 12 ∷ 12
    ∷ 6 ∷ 6 ∷ 0 ∷ 0 ∷ 12 ∷ 12 ∷ 15 ∷ 15 ∷ 18 ∷ 18
    ∷ 8 ∷ 8 ∷ 12 ∷ 12 ∷ 0 ∷ 0 ∷ 20 ∷ 20 ∷ 24 ∷ 24
    ∷ 10 ∷ 10 ∷ 15 ∷ 15 ∷ 20 ∷ 20 ∷ 0 ∷ 0 ∷ 30 ∷ 30
    ∷ 12 ∷ 12 ∷ 18 ∷ 18 ∷ 24 ∷ 24 ∷ 30 ∷ 30 ∷ 0 ∷ 0
    ∷ [])

abbrev example : List ℕ
example = record_of Narrow 5 1 dealt heard reported published

-- The same with wide numbers.
abbrev wide : List ℕ
wide = record_of Wide 5 1 dealt (heard_with 4294967295) reported published

-- Records, and the text of each. The nine lines of the protocol, of the narrow record and of the wide one. Large shares. Two wrong
-- shares, and a report for lamp 2 that is not its own. Only 4 and 5 disagree: lamp 5 is repaired. 1 and 2, and 3 and 4, disagree:
-- rejected. No byte, one, a wrong size, a directory cut short; the last two also of wide records.
abbrev table : List (List ℕ × List ℕ)
table = (
  example,
  letters "size 5 1\ndealer accepted\nhappy 1 2 3 4 5\n"
      ++ letters "lamp 1 share 10\nlamp 2 share 13\nlamp 3 share 16\nlamp 4 share 19\nlamp 5 share 22\nopened 7\n",
)
    ∷ (
      wide,
      letters "size 5 1\ndealer accepted\nhappy 1 2 3 4 5\n"
          ++ letters "lamp 1 share 10\nlamp 2 share 13\nlamp 3 share 16\nlamp 4 share 19\nlamp 5 share 22\nopened 7\n",
    )
    ∷ (
      record_of Wide 5 1 dealt_high heard_high reported (high (2 ∷ 3 ∷ 999 ∷ 5 ∷ 6 ∷ [])),
      letters "size 5 1\ndealer accepted\nhappy 1 2 3 4 5\n"
          ++ letters "lamp 1 share 2147483645\nlamp 2 share 2147483644\nlamp 3 share 2147483643\nlamp 4 share 2147483642\n"
          ++ letters "lamp 5 share 2147483641\nopened 2147483646\n",
    )
    ∷ (
      record_of Narrow 5 1 dealt heard (30 ∷ 13 ∷ 27 ∷ 23 ∷ 15 ∷ []) (10 ∷ 13 ∷ 999 ∷ 998 ∷ 22 ∷ []),
      letters "size 5 1\ndealer accepted\nhappy 1 2 3 4\n"
          ++ letters "lamp 1 share 10\nlamp 2 refused 7\nlamp 3 share 16\nlamp 4 share 19\nlamp 5 share 22\nopened refused 10\n",
    )
    ∷ (
      record_of Narrow 5 1 dealt heard reported (10 ∷ 13 ∷ 65535 ∷ 65535 ∷ 22 ∷ []),
      letters "size 5 1\ndealer accepted\nhappy 1 2 3 4 5\n"
          ++ letters "lamp 1 share 10\nlamp 2 share 13\nlamp 3 share 16\nlamp 4 share 19\nlamp 5 share 22\nopened 7\n",
    )
    ∷ (
      record_of Narrow 5 1 dealt heard reported (10 ∷ 13 ∷ 65535 ∷ 999 ∷ 22 ∷ []),
      letters "size 5 1\ndealer accepted\nhappy 1 2 3 4 5\n"
          ++ letters "lamp 1 share 10\nlamp 2 share 13\nlamp 3 share 16\nlamp 4 share 19\nlamp 5 share 22\nopened 7\n",
    )
    ∷ (
      record_of Narrow 5 1 dealt heard reported (10 ∷ 13 ∷ 65535 ∷ 65535 ∷ 65535 ∷ []),
      letters "size 5 1\ndealer accepted\nhappy 1 2 3 4 5\n"
          ++ letters "lamp 1 share 10\nlamp 2 share 13\nlamp 3 share 16\nlamp 4 share 19\nlamp 5 share 22\nopened refused 10\n",
    )
    ∷ (
      record_of Narrow 5 1 dealt (unheard ((4, 5) ∷ (5, 4) ∷ []) heard) (30 ∷ 29 ∷ 27 ∷ 7 ∷ 7 ∷ []) published,
      letters "size 5 1\ndealer accepted\nhappy 1 2 3 4\n"
          ++ letters "lamp 1 share 10\nlamp 2 share 13\nlamp 3 share 16\nlamp 4 share 19\nlamp 5 share 22\nopened 7\n",
    )
    ∷ (
      record_of Narrow 5 1 dealt (unheard ((1, 2) ∷ (2, 1) ∷ (3, 4) ∷ (4, 3) ∷ []) heard) (28 ∷ 28 ∷ 19 ∷ 19 ∷ 15 ∷ []) published,
      letters "size 5 1\ndealer rejected\n"
          ++ letters "lamp 1 refused 8\nlamp 2 refused 8\nlamp 3 refused 8\nlamp 4 refused 8\nlamp 5 refused 8\nopened refused 8\n",
    )
    ∷ ([], letters "record refused 6\n")
    ∷ (5 ∷ [], letters "record refused 6\n")
    ∷ (4 ∷ 1 ∷ [], letters "record refused 1\n")
    ∷ (5 ∷ 1 ∷ [], letters "record refused 6\n")
    ∷ (132 ∷ 1 ∷ [], letters "record refused 1\n")
    ∷ (133 ∷ 1 ∷ [], letters "record refused 6\n")
    ∷ []

pub texts : All (λ q. text q.0 ≡ q.1) table
unfolding text text_by text_of lamp_lines run reply_line last_line verdict_words names name spell record_of section_of reading reading_as width_of
    directory_right directory stand_at parted paired step with_deal with_pairs report_from settled repair at_end report_of confirms sound sizes
    is_party point_at is_table not_sent fit points_sent hits sent through interpolate zip_with happy_set largest_in largest best better joins
    agreements agree mask tabulate add sub mul inv inv_within ones
texts = (refl, (refl, (refl, (refl, (refl, (refl, (refl, (refl, (refl, (refl, (refl, (refl, (refl, (refl, (refl, tt)))))))))))))))

-- ---- the example, narrow and wide, meets the premises, all lamps being honest
pub five : (Q : ℕ → Type 0) → Q 1 → Q 2 → Q 3 → Q 4 → Q 5 → (i : ℕ) → is_party 5 i ≡ true → Q i
five Q a b c d e zero h = absurd (omega (arith, (party-facts 5 zero h).0))
five Q a b c d e (suc zero) h = a
five Q a b c d e (suc (suc zero)) h = b
five Q a b c d e (suc (suc (suc zero))) h = c
five Q a b c d e (suc (suc (suc (suc zero)))) h = d
five Q a b c d e (suc (suc (suc (suc (suc zero))))) h = e
five Q a b c d e (suc (suc (suc (suc (suc (suc i)))))) h = absurd (omega (arith, (party-facts 5 (suc (suc (suc (suc (suc (suc i)))))) h).1))

abbrev pub everyone : ℕ → Bool
everyone i = true

module _ (bytes : List ℕ) where
  -- Lamp i's report stands in the record.
  Reports : ℕ → Type 0
  Reports i = entry (numbers_of bytes 2) i ≡ its_report bytes i

  -- Lamp i hears j's pair.
  Hears : ℕ → ℕ → Type 0
  Hears i j =
      (first_from (its_pairs bytes i) j ≡ (its_pair everyone bytes j i).0) × (second_from (its_pairs bytes i) j ≡ (its_pair everyone bytes j i).1)

  -- Of five lamps each report is its own, and each hears the four others.
  faithful-by : n_of bytes ≡ 5 → count (λ i. not (everyone i)) (parties (n_of bytes)) ≤ t_of bytes
      → Reports 1 × Reports 2 × Reports 3 × Reports 4 × Reports 5
      → Hears 1 2 × Hears 1 3 × Hears 1 4 × Hears 1 5 → Hears 2 1 × Hears 2 3 × Hears 2 4 × Hears 2 5
      → Hears 3 1 × Hears 3 2 × Hears 3 4 × Hears 3 5 → Hears 4 1 × Hears 4 2 × Hears 4 3 × Hears 4 5
      → Hears 5 1 × Hears 5 2 × Hears 5 3 × Hears 5 4 → Faithful everyone bytes
  unfolding Reports Hears
  faithful-by size few r a b c d e = record {
    few = few;
    own = λ i h. five Reports r.0 r.1 r.2 r.3 r.4 i (among i h.party);
    hear = λ i j hi hj.
        five (λ i. (i ≡ j → ⊥) → Hears i j)
        (five (λ j. (1 ≡ j → ⊥) → Hears 1 j) same (λ z. a.0) (λ z. a.1) (λ z. a.2) (λ z. a.3) j (among j hj.party))
        (five (λ j. (2 ≡ j → ⊥) → Hears 2 j) (λ z. b.0) same (λ z. b.1) (λ z. b.2) (λ z. b.3) j (among j hj.party))
        (five (λ j. (3 ≡ j → ⊥) → Hears 3 j) (λ z. c.0) (λ z. c.1) same (λ z. c.2) (λ z. c.3) j (among j hj.party))
        (five (λ j. (4 ≡ j → ⊥) → Hears 4 j) (λ z. d.0) (λ z. d.1) (λ z. d.2) same (λ z. d.3) j (among j hj.party))
        (five (λ j. (5 ≡ j → ⊥) → Hears 5 j) (λ z. e.0) (λ z. e.1) (λ z. e.2) (λ z. e.3) same j (among j hj.party))
        i (among i hi.party);
  }
    where
      among : (i : ℕ) → is_party (n_of bytes) i ≡ true → is_party 5 i ≡ true
      among i h = subst (λ n. is_party n i ≡ true) size h

      same : {A : Type 0} {i : ℕ} → (i ≡ i → ⊥) → A
      same z = absurd (z refl)

pub example-record : IsRecord example
unfolding record_of reading reading_as width_of directory_right directory stand_at parted sizes
example-record = fine-record example Narrow 5 1 refl

pub wide-record : IsRecord wide
unfolding record_of reading reading_as width_of directory_right directory stand_at parted sizes
wide-record = fine-record wide Wide 5 1 refl

-- Whatever is published.
pub faithful-with : (shares : List ℕ) → Faithful everyone (record_of Narrow 5 1 dealt heard reported shares)
unfolding Reports Hears record_of section_of width_of directory parted paired report_of confirms sound pair_for point_at not_sent tabulate mask
    add mul
faithful-with shares =
    faithful-by (record_of Narrow 5 1 dealt heard reported shares) refl (lit≤ tt) (refl, refl, refl, refl, refl)
    ((refl, refl), (refl, refl), (refl, refl), (refl, refl)) ((refl, refl), (refl, refl), (refl, refl), (refl, refl))
    ((refl, refl), (refl, refl), (refl, refl), (refl, refl)) ((refl, refl), (refl, refl), (refl, refl), (refl, refl))
    ((refl, refl), (refl, refl), (refl, refl), (refl, refl))

pub example-faithful : Faithful everyone example
example-faithful = faithful-with published

pub wide-faithful : Faithful everyone wide
unfolding Reports Hears record_of section_of width_of directory parted paired report_of confirms sound pair_for point_at not_sent tabulate mask
    add mul
wide-faithful =
    faithful-by wide refl (lit≤ tt) (refl, refl, refl, refl, refl)
    ((refl, refl), (refl, refl), (refl, refl), (refl, refl)) ((refl, refl), (refl, refl), (refl, refl), (refl, refl))
    ((refl, refl), (refl, refl), (refl, refl), (refl, refl)) ((refl, refl), (refl, refl), (refl, refl), (refl, refl))
    ((refl, refl), (refl, refl), (refl, refl), (refl, refl))
