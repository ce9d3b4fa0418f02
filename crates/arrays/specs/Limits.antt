-- What a number of each width stays below; the residues of its prime do.
--   limit_of w       16 bits, or 32
--   residues_held w  a residue of the width's prime is a number of that width
use Rattle.std.specs.Prelude.{◌≤◌, ℕ}
use mathlib.Core.Path.{refl}
use borrow.Author.Tests.{leb-true}
use Rattle.field.specs.declared.Width.{Width}
use Rattle.field.specs.declared.Width.TheVariants.{Narrow, Wide}
use Rattle.field.specs.Modulus.{prime_of}

-- 2¹⁶, or 2³².
abbrev pub limit_of : Width → ℕ
limit_of Narrow = 65536
limit_of Wide = 4294967296

-- 65,521 is below the one, 2,147,483,647 below the other.
pub residues_held : (w : Width) → prime_of w ≤ limit_of w
residues_held Narrow = leb-true (prime_of Narrow) (limit_of Narrow) refl
residues_held Wide = leb-true (prime_of Wide) (limit_of Wide) refl
