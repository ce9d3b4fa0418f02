-- A harbour with station numbers, and tables that are none, as one table of cases: five lamps of 16-bit numbers, of which one may be
-- faulty, and F = 7 + 3X + 2Y + 4XY. For 32 bits: Wider.
--   stations, shuffled   the station numbers, and the same in another order
--   Case                 what is asked, and what must come of it; holds w c: the definitions give that, for numbers of the width w
--   harbour              it deals, settles with a liar, repairs and opens; refused: bad tables, and a lamp that holds one
-- Shown true all together in proofs/Marked, beside the protocol's marked cases.
use Rattle.std.specs.Prelude.{Bool, List, [], ◌∷◌, ◌++◌, ℕ, replicate}
use Rattle.std.proofs.Math.Option.{Option, none, some}
use Rattle.field.specs.declared.Width.{Width}
use Rattle.field.specs.declared.Width.TheVariants.{Narrow}
use Rattle.field.specs.Modulus.{prime_of}
use Rattle.dealer.specs.Desk as desks
use Rattle.answers.specs.Refusals.{number_of}
use Rattle.lamp.specs.Lamp.{Call, take_deal, say_pair, hear_pairs, settle, open_shares, waiting, made_with, make_with}
use Rattle.lamp.specs.Lamp.{step, after}
use Rattle.agreement.specs.Marked.{same, same_number_or_none, answers, leaves}
use Rattle.agreement.specs.Stories.{an_f}

-- The station numbers of lamps 1 to 5, and the same numbers in another order.
abbrev pub stations : List ℕ
stations = 40961 ∷ 7 ∷ 65520 ∷ 3 ∷ 21000 ∷ []

abbrev pub shuffled : List ℕ
shuffled = 3 ∷ 21000 ∷ 7 ∷ 40961 ∷ 65520 ∷ []

-- What is asked, and what must come of it.
--   dealing T i row column               the desk's deal of F for lamp i, with the table T
--   refusing T F number                  the desk's answer to the list F with the table T
--   making T number                      making lamp 1 with the table T
--   answering T i cs c number values     lamp i, made with T, after the calls cs: its answer to the call c
--   ending T i cs c number set share s   the same, and what it leaves: the happy set, the share and the stage
--   keeping array c number values        the answer of lamp 1, waiting, whose state has these sixteen numbers for its table
pub data Case : Type 0 where
  dealing : List ℕ → ℕ → List ℕ → List ℕ → Case
  refusing : List ℕ → List ℕ → Option ℕ → Case
  making : List ℕ → Option ℕ → Case
  answering : List ℕ → ℕ → List Call → Call → Option ℕ → List ℕ → Case
  ending : List ℕ → ℕ → List Call → Call → Option ℕ → ℕ → ℕ → ℕ → Case
  keeping : List ℕ → Call → Option ℕ → List ℕ → Case

-- The definitions give what the case says.
unfoldable pub holds : Width → Case → Bool
holds w (dealing T i row column) = same (desks.stretch 2 (desks.desk_with (prime_of w) 5 1 T an_f (replicate 20 0)).0 i) (row ++ column)
holds w (refusing T F number) = same_number_or_none (number_of (desks.desk_with (prime_of w) 5 1 T F (replicate 20 0)).1) number
holds w (making T number) = same_number_or_none (number_of (make_with w 5 1 1 T).answer) number
holds w (answering T i cs c number values) = answers (step (after (made_with w 5 1 i T) cs) c).answer number values
holds w (ending T i cs c number set share stage) = leaves (step (after (made_with w 5 1 i T) cs) c) number set share stage
holds w (keeping array c number values) = answers (step (waiting w 5 1 1 array) c).answer number values

-- What lamp 1 hears: lamp 3 tells it the truth, lamp 5, whose deal is unsound, nothing. And what lamp 5 hears: lamp 3 lies.
abbrev pub to_lamp_1 : List ℕ
to_lamp_1 = 0 ∷ 0 ∷ 24913 ∷ 49480 ∷ 24565 ∷ 49124 ∷ 24739 ∷ 49302 ∷ 65535 ∷ 65535 ∷ []

abbrev pub to_lamp_5 : List ℕ
to_lamp_5 = 33614 ∷ 53575 ∷ 61332 ∷ 40339 ∷ 999 ∷ 1 ∷ 52929 ∷ 31932 ∷ 0 ∷ 0 ∷ []

-- The reports: lamps 1 to 4 agree, lamp 5 has a one for nobody.
abbrev pub reports : List ℕ
reports = 14 ∷ 13 ∷ 11 ∷ 7 ∷ 0 ∷ []

-- Lamp 1's calls up to settling. Lamp 5's, whose row is dealing as 42007 + 18483 X instead of 42007 + 18482 X.
abbrev pub calls_of_1 : List Call
calls_of_1 = take_deal Narrow (16408 ∷ 32805 ∷ 57369 ∷ 32804 ∷ []) ∷ hear_pairs Narrow to_lamp_1 ∷ []

abbrev pub calls_of_5 : List Call
calls_of_5 = take_deal Narrow (42007 ∷ 18483 ∷ 63007 ∷ 18481 ∷ []) ∷ hear_pairs Narrow to_lamp_5 ∷ []

-- Lamp 1's calls with the shuffled table, where nobody lies before the opening, and the reports then.
abbrev pub calls_shuffled : List Call
calls_shuffled =
    take_deal Narrow (13 ∷ 15 ∷ 16 ∷ 14 ∷ [])
    ∷ hear_pairs Narrow (0 ∷ 0 ∷ 31932 ∷ 52929 ∷ 114 ∷ 118 ∷ 49302 ∷ 24739 ∷ 2 ∷ 65519 ∷ [])
    ∷ []

abbrev pub all_agree : List ℕ
all_agree = 30 ∷ 29 ∷ 27 ∷ 23 ∷ 15 ∷ []

-- It deals, settles with lamp 3 lying, repairs lamp 5's share and opens 7, also with lamps dark; the same numbers in another order:
-- another deal, the same 7.
abbrev pub harbour : List Case
harbour =
    dealing stations 1 (16408 ∷ 32805 ∷ []) (57369 ∷ 32804 ∷ [])
    ∷ dealing stations 2 (21 ∷ 31 ∷ []) (28 ∷ 30 ∷ [])
    ∷ dealing stations 3 (5 ∷ 65520 ∷ []) (4 ∷ 65519 ∷ [])
    ∷ dealing stations 4 (13 ∷ 15 ∷ []) (16 ∷ 14 ∷ [])
    ∷ dealing stations 5 (42007 ∷ 18482 ∷ []) (63007 ∷ 18481 ∷ [])
    ∷ answering stations 1 (take_deal Narrow (16408 ∷ 32805 ∷ 57369 ∷ 32804 ∷ []) ∷ []) (say_pair 2) none (49480 ∷ 24913 ∷ [])
    ∷ answering stations 1 (take_deal Narrow (16408 ∷ 32805 ∷ 57369 ∷ 32804 ∷ []) ∷ []) (hear_pairs Narrow to_lamp_1) none (14 ∷ [])
    ∷ answering stations 5 (take_deal Narrow (42007 ∷ 18483 ∷ 63007 ∷ 18481 ∷ []) ∷ []) (say_pair 1) none (65535 ∷ 65535 ∷ [])
    ∷ ending stations 1 calls_of_1 (settle reports) none 15 57369 3
    ∷ ending stations 5 calls_of_5 (settle reports) none 15 63007 3
    ∷ answering stations 1 (calls_of_1 ++ settle reports ∷ []) (open_shares Narrow (0 ∷ 28 ∷ 999 ∷ 16 ∷ 63007 ∷ [])) none (7 ∷ [])
    ∷ answering stations 5 (calls_of_5 ++ settle reports ∷ []) (open_shares Narrow (57369 ∷ 28 ∷ 999 ∷ 16 ∷ 0 ∷ [])) none (7 ∷ [])
    ∷ answering stations 1 (calls_of_1 ++ settle reports ∷ []) (open_shares Narrow (57369 ∷ 28 ∷ 999 ∷ 998 ∷ 63007 ∷ [])) (some 10) []
    ∷ answering stations 1 (calls_of_1 ++ settle reports ∷ []) (open_shares Narrow (57369 ∷ 28 ∷ 999 ∷ 65535 ∷ 63007 ∷ [])) none (7 ∷ [])
    ∷ answering stations 5 (calls_of_5 ++ settle reports ∷ []) (open_shares Narrow (57369 ∷ 28 ∷ 65535 ∷ 65535 ∷ 65535 ∷ [])) none (7 ∷ [])
    ∷ answering stations 1 (calls_of_1 ++ settle reports ∷ []) (open_shares Narrow (57369 ∷ 28 ∷ 65535 ∷ 65535 ∷ 65535 ∷ [])) (some 10) []
    ∷ dealing shuffled 1 (13 ∷ 15 ∷ []) (16 ∷ 14 ∷ [])
    ∷ dealing shuffled 5 (5 ∷ 65520 ∷ []) (4 ∷ 65519 ∷ [])
    ∷ ending shuffled 1 calls_shuffled (settle all_agree) none 31 16 3
    ∷ answering shuffled 1 (calls_shuffled ++ settle all_agree ∷ []) (open_shares Narrow (16 ∷ 63007 ∷ 28 ∷ 999 ∷ 4 ∷ [])) none (7 ∷ [])
    ∷ []

-- A table with 0 for lamp 5.
abbrev pub with_zero : List ℕ
with_zero = 40961 ∷ 7 ∷ 65520 ∷ 3 ∷ 0 ∷ []

-- 0, 65,521, a repeat, a short table and a long one, at a making and at the desk, where 14 comes before 5. What a lamp with a bad table
-- answers at every call: 3 before 14, and 14 before 4; 2 before 14 where a lamp is named. Of a state the first five numbers count, and no
-- more.
abbrev pub refused : List Case
refused =
    making with_zero (some 14)
    ∷ making (40961 ∷ 7 ∷ 65521 ∷ 3 ∷ 21000 ∷ []) (some 14)
    ∷ making (40961 ∷ 7 ∷ 65520 ∷ 3 ∷ 40961 ∷ []) (some 14)
    ∷ making (40961 ∷ 7 ∷ 65520 ∷ 3 ∷ []) (some 3)
    ∷ making (40961 ∷ 7 ∷ 65520 ∷ 3 ∷ 21000 ∷ 1 ∷ []) (some 3)
    ∷ making stations none
    ∷ refusing with_zero an_f (some 14)
    ∷ refusing (40961 ∷ 7 ∷ 65520 ∷ 65520 ∷ 21000 ∷ []) an_f (some 14)
    ∷ refusing (40961 ∷ 7 ∷ 65520 ∷ 3 ∷ 65521 ∷ []) (7 ∷ 2 ∷ 65521 ∷ 4 ∷ []) (some 14)
    ∷ refusing (0 ∷ 7 ∷ 65520 ∷ 3 ∷ []) an_f (some 3)
    ∷ refusing (40961 ∷ 7 ∷ 65520 ∷ 3 ∷ 21000 ∷ 0 ∷ []) an_f (some 3)
    ∷ refusing stations (7 ∷ 2 ∷ 65521 ∷ 4 ∷ []) (some 5)
    ∷ answering with_zero 1 [] (take_deal Narrow (9 ∷ 7 ∷ 10 ∷ [])) (some 3) []
    ∷ answering with_zero 1 [] (take_deal Narrow (9 ∷ 7 ∷ 10 ∷ 6 ∷ [])) (some 14) []
    ∷ answering with_zero 1 [] (say_pair 6) (some 2) []
    ∷ answering with_zero 1 [] (say_pair 2) (some 14) []
    ∷ answering with_zero 1 [] (hear_pairs Narrow (replicate 9 0)) (some 3) []
    ∷ answering with_zero 1 [] (hear_pairs Narrow (replicate 10 0)) (some 14) []
    ∷ answering with_zero 1 [] (settle (replicate 4 0)) (some 3) []
    ∷ answering with_zero 1 [] (settle (replicate 5 0)) (some 14) []
    ∷ answering with_zero 1 [] (open_shares Narrow (replicate 6 0)) (some 3) []
    ∷ answering with_zero 1 [] (open_shares Narrow (replicate 5 0)) (some 14) []
    ∷ answering (40961 ∷ 7 ∷ []) 1 [] (take_deal Narrow (9 ∷ 7 ∷ 10 ∷ 6 ∷ [])) (some 14) []
    ∷ keeping (stations ++ 7 ∷ 7 ∷ 65535 ∷ replicate 8 0) (take_deal Narrow (9 ∷ 7 ∷ 10 ∷ 6 ∷ [])) none []
    ∷ keeping (with_zero ++ 1 ∷ 2 ∷ 3 ∷ replicate 8 4) (take_deal Narrow (9 ∷ 7 ∷ 10 ∷ 6 ∷ [])) (some 14) []
    ∷ []
