-- The protocol's record ("The record") in its own digits, so that what a reader must answer leans on no definition of the code's.
--   two_bytes bytes at        "16 bits, high byte first": the number at a place
--   Directory bytes d p r s   bytes 2 to 17 and the end, for sections of d, p, r and s bytes
--   lengths_of w n t          the lengths of the four sections of a record of the width w
--   IsLaid w n t bytes        the bytes have its directory and its end
--   whole_length w n t        how many bytes that record has
use Rattle.std.specs.Prelude.{◌≡◌, List, ℕ, ◌+◌, ◌*◌, length, get_or}
use Rattle.field.specs.declared.Width.{Width}
use Rattle.field.specs.declared.Width.TheVariants.{Narrow, Wide}

-- "16 bits, high byte first"
abbrev pub two_bytes : List ℕ → ℕ → ℕ
two_bytes bytes at = get_or bytes at 0 * 256 + get_or bytes (at + 1) 0

-- "The first offset is 18; each section begins where the one before it ends, and the last ends the record."
pub record Directory (bytes : List ℕ) (deals pairs reports shares : ℕ) : Type 0 where
  pub deals_from : two_bytes bytes 2 ≡ 18
  pub deals_long : two_bytes bytes 4 ≡ deals
  pub pairs_from : two_bytes bytes 6 ≡ 18 + deals
  pub pairs_long : two_bytes bytes 8 ≡ pairs
  pub reports_from : two_bytes bytes 10 ≡ 18 + deals + pairs
  pub reports_long : two_bytes bytes 12 ≡ reports
  pub shares_from : two_bytes bytes 14 ≡ 18 + deals + pairs + reports
  pub shares_long : two_bytes bytes 16 ≡ shares
  pub end : length bytes ≡ 18 + deals + pairs + reports + shares

-- With two bytes for a number 4n(t+1), 4n², 2n and 2n; "deals have 8n(t+1) bytes, round two 8n², reports 2n, published shares 4n".
abbrev pub lengths_of : Width → ℕ → ℕ → ℕ × ℕ × ℕ × ℕ
lengths_of Narrow n t = (4 * n * (t + 1), 4 * n * n, 2 * n, 2 * n)
lengths_of Wide n t = (8 * n * (t + 1), 8 * n * n, 2 * n, 4 * n)

-- So "each size has exactly one right directory".
abbrev pub IsLaid : Width → ℕ → ℕ → List ℕ → Type 0
IsLaid w n t bytes = let q = lengths_of w n t in Directory bytes q.0 q.1 q.2 q.3

-- For n = 5, t = 1 "a record has 178 bytes", a wide one 328.
abbrev pub whole_length : Width → ℕ → ℕ → ℕ
whole_length w n t = let q = lengths_of w n t in 18 + q.0 + q.1 + q.2 + q.3
