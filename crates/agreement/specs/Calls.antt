-- Lists of calls of one lamp.
--   Run                        a list taken apart at the three calls that bring the lamp its deal, its pairs and its reports, with the
--                              width of those that lend field numbers
--   to_deal, to_pairs, to_reports   the calls before each of the three; whole: all of them
--   since_deal r xs            the calls up to the deal, the deal, and the calls xs after it; since_settling likewise
--   At cs xs c                 in the list cs the call c comes right after the calls xs
--   Begins cs xs               the list cs begins with the calls xs
--   Never test cs              no call of cs passes the test
--   is_deal s, is_hearing s, is_settling s i r   the tests for the three; moves: for any call to deal, hear or settle
use Rattle.std.specs.Prelude.{◌≡◌, Bool, true, false, ◌&&◌, List, ◌∷◌, ◌++◌, ℕ, ◌*◌, eqb, length}
use Rattle.lists.specs.All.{All}
use Rattle.field.specs.declared.Width.{Width}
use Rattle.field.specs.Modulus.{same_width}
use Rattle.parties.specs.Parties.{entry}
use Rattle.lamp.specs.Lamp.{Call, take_deal, say_pair, hear_pairs, settle, open_shares}
use Rattle.agreement.specs.Setting.{Setting, terms}

-- A list of calls, taken apart. The deal and the pairs are lent by calls of this width.
pub record Run : Type 0 where
  pub width : Width
  pub before_deal : List Call
  pub its_deal : List ℕ
  pub before_pairs : List Call
  pub its_pairs : List ℕ
  pub before_reports : List Call
  pub its_reports : List ℕ
  pub rest : List Call

-- The calls before each of the three.
abbrev pub to_deal : Run → List Call
to_deal r = r.before_deal

abbrev pub to_pairs : Run → List Call
to_pairs r = to_deal r ++ take_deal r.width r.its_deal ∷ r.before_pairs

abbrev pub to_reports : Run → List Call
to_reports r = to_pairs r ++ hear_pairs r.width r.its_pairs ∷ r.before_reports

-- All calls.
abbrev pub whole : Run → List Call
whole r = to_reports r ++ settle r.its_reports ∷ r.rest

-- The calls up to some after the deal, and up to some after the settling.
abbrev pub since_deal : Run → List Call → List Call
since_deal r xs = to_deal r ++ take_deal r.width r.its_deal ∷ xs

abbrev pub since_settling : Run → List Call → List Call
since_settling r xs = to_reports r ++ settle r.its_reports ∷ xs

-- In cs the call c comes right after the calls xs.
abbrev pub At : List Call → List Call → Call → Type 0
At cs xs c = (ys : List Call) × (cs ≡ xs ++ c ∷ ys)

-- cs begins with the calls xs.
abbrev pub Begins : List Call → List Call → Type 0
Begins cs xs = (ys : List Call) × (cs ≡ xs ++ ys)

-- No call passes the test.
abbrev pub Never : (Call → Bool) → List Call → Type 0
Never test = All (λ c. test c ≡ false)

-- A deal of the right length is given, by a call of the setting's width.
abbrev pub is_deal : Setting → Call → Bool
is_deal s (take_deal w d) = same_width w s.width && eqb (length d) (2 * terms s)
is_deal s (say_pair j) = false
is_deal s (hear_pairs w hs) = false
is_deal s (settle rs) = false
is_deal s (open_shares w xs) = false

-- Pairs of the right length are heard, by a call of the setting's width.
abbrev pub is_hearing : Setting → Call → Bool
is_hearing s (take_deal w d) = false
is_hearing s (say_pair j) = false
is_hearing s (hear_pairs w hs) = same_width w s.width && eqb (length hs) (2 * s.n)
is_hearing s (settle rs) = false
is_hearing s (open_shares w xs) = false

-- A settling with n reports and the report r in party i's place.
abbrev pub is_settling : Setting → ℕ → ℕ → Call → Bool
is_settling s i r (take_deal w d) = false
is_settling s i r (say_pair j) = false
is_settling s i r (hear_pairs w hs) = false
is_settling s i r (settle rs) = eqb (length rs) s.n && eqb (entry rs i) r
is_settling s i r (open_shares w xs) = false

-- A call to deal, hear or settle.
abbrev pub moves : Call → Bool
moves (take_deal w d) = true
moves (say_pair j) = false
moves (hear_pairs w hs) = true
moves (settle rs) = true
moves (open_shares w xs) = false
