-- Computed: a record of five parties with all numbers 7 but the last published share, and what the readers answer about it.
use mathlib.Core.Path.{◌≡◌, refl}
use mathlib.Core.Option.{some}
use mathlib.Core.List.{List, [], ◌∷◌, ◌++◌}
use Prim.Native.Nat.{ℕ}
use lib.ListN.{length, take, replicate}
use Rattle.field.specs.declared.Width.{Width}
use Rattle.field.specs.declared.Width.TheVariants.{Narrow, Wide}
use Rattle.parties.specs.Parties.{sizes}
use Rattle.record.specs.Bytes.{paired, stand_at}
use Rattle.record.specs.Record.{directory, directory_right, width_of, reading_as, reading, reading_narrow, section_of, numbers_of, fine}
use Rattle.writer.specs.Writer.{parted, record_of}
use Rattle.answers.specs.Refusals.{number_of}

-- The record.
abbrev sample : Width → ℕ → List ℕ
sample w last = record_of w 5 1 (replicate 20 7) (replicate 50 7) (replicate 5 7) (replicate 4 7 ++ last ∷ [])

pub narrow-sample : (reading (sample Narrow 65535) ≡ fine Narrow 5 1) × (reading_narrow (sample Narrow 65535) ≡ fine Narrow 5 1)
    × (length (sample Narrow 65535) ≡ 178) × (take 4 (sample Narrow 65535) ≡ 5 ∷ 1 ∷ 0 ∷ 18 ∷ [])
    × (numbers_of (sample Narrow 65535) 3 ≡ 7 ∷ 7 ∷ 7 ∷ 7 ∷ 65535 ∷ [])
unfolding sizes record_of parted paired directory directory_right stand_at width_of reading_as reading reading_narrow section_of
narrow-sample = (refl, refl, refl, refl, refl)

-- "a reader of old ones alone meets one as size refusal 1"
pub wide-sample : (reading (sample Wide 4294967295) ≡ fine Wide 5 1) × (number_of (reading_narrow (sample Wide 4294967295)) ≡ some 1)
    × (length (sample Wide 4294967295) ≡ 328) × (take 4 (sample Wide 4294967295) ≡ 133 ∷ 1 ∷ 0 ∷ 18 ∷ [])
    × (numbers_of (sample Wide 4294967295) 3 ≡ 7 ∷ 7 ∷ 7 ∷ 7 ∷ 4294967295 ∷ [])
    × (numbers_of (sample Wide 4294967295) 2 ≡ replicate 5 7)
unfolding sizes record_of parted paired directory directory_right stand_at width_of reading_as reading reading_narrow section_of
wide-sample = (refl, refl, refl, refl, refl, refl)
