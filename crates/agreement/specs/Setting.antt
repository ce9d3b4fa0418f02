-- What stays fixed throughout one sharing, as one record, and the protocol's notions in it.
--   Setting                          the width of the numbers, the number n of parties, t, how many of them may be faulty, and the table of
--                                   their points
--   setting w n t T                  the four together
--   with_table s T                   the same with another table
--   prime s                          the prime of its width
--   Legal s                          that is a prime, n and t are within the sizes, and the table is one
--   terms s                          t + 1: how many coefficients a row or a column has
--   point s i                        party i's point
--   value_of s F x y                 F(x, y)
--   row_for s F i, column_for s F i  party i's row F(X, x) and column F(x, Y), x being its point
--   zero_row s F                     F(X, 0): its value at party i's point is i's share, its constant the secret
--   dealt_row s d, dealt_column s d  row and column in the deal d
--   pair_by s i d j                  party i's pair for j, by its deal d
--   report_by s i d hs               party i's report, by its deal d and the pairs hs that it heard
--   desk_for s F out                 what the desk makes of the lent list out, and its answer
--   made_for s i                     lamp i as made
--   lamp_at s i xs                   lamp i after the calls xs; reply_at, answer_at: its reply and its answer to one more
use Rattle.std.specs.Prelude.{◌≡◌, true, List, ℕ, suc}
use Rattle.field.specs.Arithmetic.{Prime}
use Rattle.field.specs.declared.Width.{Width}
use Rattle.field.specs.Modulus.{prime_of}
use Rattle.bivariate.specs.Bivariate.{at, row, column}
use Rattle.parties.specs.Parties.{sizes}
use Rattle.tables.specs.Tables.{point_at, IsTable}
use Rattle.dealer.specs.Desk.{desk_with}
use Rattle.answers.specs.Refusals.{Admission}
use Rattle.answers.specs.Answers.{Answered}
use Rattle.consistency.specs.Deal.{row_of, column_of, pair_for, report_of}
use Rattle.lamp.specs.declared.Lamp.{Lamp}
use Rattle.lamp.specs.declared.Reply.{Reply}
use Rattle.lamp.specs.Lamp.{Call, made_with, step, after}

-- The fixed surroundings of a sharing.
pub record Setting : Type 0 where
  pub width : Width
  pub n : ℕ
  pub t : ℕ
  pub table : List ℕ

-- The four together.
abbrev pub setting : Width → ℕ → ℕ → List ℕ → Setting
setting w n t T = record { width = w; n = n; t = t; table = T }

-- The same with another table.
abbrev pub with_table : Setting → List ℕ → Setting
with_table s T = setting s.width s.n s.t T

-- The prime that all compute with.
abbrev pub prime : Setting → ℕ
prime s = prime_of s.width

-- What the laws ask of a setting.
pub record Legal (s : Setting) : Type 0 where
  pub size : sizes s.n s.t ≡ true
  pub table : IsTable (prime s) s.n s.table
  pub prime : Prime (prime s)

module _ (s : Setting) where
  -- t + 1.
  abbrev pub terms : ℕ
  terms = suc s.t

  -- Party i's point.
  abbrev pub point : ℕ → ℕ
  point i = point_at s.table i

  -- ---- the dealer's polynomial

  -- F(x, y).
  abbrev pub value_of : List ℕ → ℕ → ℕ → ℕ
  value_of F x y = at (prime s) terms terms F x y

  -- F(X, x) and F(x, Y), at its point x.
  abbrev pub row_for : List ℕ → ℕ → List ℕ
  row_for F i = row (prime s) terms terms F (point i)

  abbrev pub column_for : List ℕ → ℕ → List ℕ
  column_for F i = column (prime s) terms terms F (point i)

  -- F(X, 0).
  abbrev pub zero_row : List ℕ → List ℕ
  zero_row F = row (prime s) terms terms F 0

  -- The lent list afterwards, and the desk's answer.
  abbrev pub desk_for : List ℕ → List ℕ → List ℕ × Admission
  desk_for F out = desk_with (prime s) s.n s.t s.table F out

  -- ---- what follows from a deal

  -- The row and the column in it.
  abbrev pub dealt_row : List ℕ → List ℕ
  dealt_row d = row_of s.t d

  abbrev pub dealt_column : List ℕ → List ℕ
  dealt_column d = column_of s.t d

  -- Step 2: the pair of party i, whose deal is d, for j.
  abbrev pub pair_by : ℕ → List ℕ → ℕ → ℕ × ℕ
  pair_by i d j = pair_for (prime s) s.table i (dealt_row d) (dealt_column d) j

  -- Step 3: the report of party i, whose deal is d and which heard the pairs hs.
  abbrev pub report_by : ℕ → List ℕ → List ℕ → ℕ
  report_by i d hs = report_of (prime s) s.n s.table i (dealt_row d) (dealt_column d) hs

  -- ---- lamp i along its calls

  -- As made.
  abbrev pub made_for : ℕ → Lamp
  made_for i = made_with s.width s.n s.t i s.table

  -- After the calls xs.
  abbrev pub lamp_at : ℕ → List Call → Lamp
  lamp_at i xs = after (made_for i) xs

  -- What it then replies, and answers, to the call c.
  abbrev pub reply_at : ℕ → List Call → Call → Reply
  reply_at i xs c = step (lamp_at i xs) c

  abbrev pub answer_at : ℕ → List Call → Call → Answered
  answer_at i xs c = (reply_at i xs c).answer
