-- Computed: the largest share of each prime, the first number that is none, an old share, and bytes that are refused.
use mathlib.Core.Path.{◌≡◌, refl}
use mathlib.Core.Option.{some}
use mathlib.Core.List.{[], ◌∷◌}
use lib.ListN.{replicate}
use Rattle.field.specs.declared.Width.TheVariants.{Narrow, Wide}
use Rattle.record.specs.Bytes.{paired}
use Rattle.writer.specs.Writer.{parted}
use Rattle.stored.specs.Stored.{write_share, read_share, old_share, share}
use Rattle.std.specs.Prelude.{Ok}
use Rattle.answers.specs.Refusals.{number_of}

-- Written, read back, and the next number refused.
pub narrow-sample : (write_share Narrow 65520 (replicate 6 9) ≡ (0 ∷ 0 ∷ 0 ∷ 0 ∷ 255 ∷ 240 ∷ [], Ok 6))
    × (read_share (0 ∷ 0 ∷ 0 ∷ 0 ∷ 255 ∷ 240 ∷ []) ≡ share Narrow 65520)
    × (number_of (write_share Narrow 65521 (replicate 6 9)).1 ≡ some 5)
    × (number_of (read_share (0 ∷ 0 ∷ 0 ∷ 0 ∷ 255 ∷ 241 ∷ [])) ≡ some 5)
unfolding parted paired write_share read_share
narrow-sample = (refl, refl, refl, refl)

pub wide-sample : (write_share Wide 2147483646 (replicate 6 9) ≡ (1 ∷ 0 ∷ 127 ∷ 255 ∷ 255 ∷ 254 ∷ [], Ok 6))
    × (read_share (1 ∷ 0 ∷ 127 ∷ 255 ∷ 255 ∷ 254 ∷ []) ≡ share Wide 2147483646)
    × (number_of (write_share Wide 2147483647 (replicate 6 9)).1 ≡ some 5)
    × (number_of (read_share (1 ∷ 0 ∷ 127 ∷ 255 ∷ 255 ∷ 255 ∷ [])) ≡ some 5)
unfolding parted paired write_share read_share
wide-sample = (refl, refl, refl, refl)

-- An old share is narrow; the same number in six bytes can be wide.
pub old-sample : (old_share (255 ∷ 240 ∷ []) ≡ share Narrow 65520)
    × (number_of (old_share (255 ∷ 241 ∷ [])) ≡ some 5)
    × (read_share (1 ∷ 0 ∷ 0 ∷ 0 ∷ 255 ∷ 241 ∷ []) ≡ share Wide 65521)
unfolding paired read_share old_share
old-sample = (refl, refl, refl)

-- 3 for a length, whatever stands there; 6 for a first byte 2 and for a second byte 1, though the number is no residue of either prime.
pub refused-sample : (number_of (read_share (2 ∷ 0 ∷ 255 ∷ 255 ∷ 255 ∷ [])) ≡ some 3)
    × (number_of (read_share (2 ∷ 0 ∷ 255 ∷ 255 ∷ 255 ∷ 255 ∷ [])) ≡ some 6)
    × (number_of (read_share (0 ∷ 1 ∷ 255 ∷ 255 ∷ 255 ∷ 255 ∷ [])) ≡ some 6)
    × (number_of (old_share (0 ∷ 255 ∷ 255 ∷ [])) ≡ some 3)
    × (number_of (write_share Wide 4294967295 (replicate 5 9)).1 ≡ some 3)
unfolding paired write_share read_share old_share
refused-sample = (refl, refl, refl, refl, refl)
