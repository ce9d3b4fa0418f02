-- Wider numbers, as tables of cases: five lamps, of which one may be faulty, and F = 7 + 3X + 2Y + 4XY.
--   far, harbour        station numbers above 65,520, and a harbour that has them: it deals, settles with a liar, repairs and opens
--   refused w           every refusal of a lamp and of the desk, at the width w; bad_tables w: those of tables
--   order w             18 comes right after 2 and before 3
--   edges w             numbers just below the prime of the width w, the prime, and what a sender writes for a number not sent
--   only_narrow, only_wide   numbers that are no residues of the one width, and residues of the other
-- Shown true all together in proofs/Marked.
use Rattle.std.specs.Prelude.{true, false, List, [], ◌∷◌, ◌++◌, ℕ, suc, replicate}
use Rattle.std.proofs.Math.Option.{none, some}
use Rattle.field.specs.declared.Width.{Width}
use Rattle.field.specs.declared.Width.TheVariants.{Wide}
use Rattle.lamp.specs.Lamp.{Call, take_deal, say_pair, hear_pairs, settle, open_shares}
use Rattle.agreement.specs.Demand1.{unsent}
use Rattle.agreement.specs.Stories.{an_f, other}
use Rattle.agreement.specs.Marked as marked
use Rattle.agreement.specs.Marked.{asking, opening, settling, playing, refusing, crossing, greatest, sound_deal}
use Rattle.agreement.specs.Harbour as harbours
use Rattle.agreement.specs.Harbour.{dealing, making, answering, ending, reports, all_agree}

-- ---- a harbour in 32-bit numbers

-- The station numbers of lamps 1 to 5.
abbrev pub far : List ℕ
far = 2147483646 ∷ 65521 ∷ 70000 ∷ 3 ∷ 2000000000 ∷ []

-- What lamp 1 hears: lamp 3 tells it the truth, lamp 5, whose deal is unsound, nothing. And what lamp 5 hears: lamp 3 lies.
abbrev pub to_lamp_1 : List ℕ
to_lamp_1 = 0 ∷ 0 ∷ 2147352609 ∷ 2147418131 ∷ 2147343651 ∷ 2147413652 ∷ 2147483645 ∷ 2 ∷ 4294967295 ∷ 4294967295 ∷ []

abbrev pub to_lamp_5 : List ℕ
to_lamp_5 = 147483652 ∷ 294967298 ∷ 1159185760 ∷ 1306734928 ∷ 999 ∷ 1 ∷ 2082712602 ∷ 82712605 ∷ 0 ∷ 0 ∷ []

-- The calls of lamps 1 and 5 up to settling. Lamp 5's row is 1852516360 + 1557549063 X instead of 1852516360 + 1557549062 X.
abbrev pub calls_of_1 : List Call
calls_of_1 = take_deal Wide (5 ∷ 2147483646 ∷ 4 ∷ 2147483645 ∷ []) ∷ hear_pairs Wide to_lamp_1 ∷ []

abbrev pub unsound_deal : List ℕ
unsound_deal = 1852516360 ∷ 1557549063 ∷ 1705032713 ∷ 1557549061 ∷ []

abbrev pub calls_of_5 : List Call
calls_of_5 = take_deal Wide unsound_deal ∷ hear_pairs Wide to_lamp_5 ∷ []

-- The published shares, lamp 3's a lie; those with lamp 4 dark besides, and with a second lie.
abbrev pub published : List ℕ
published = 4 ∷ 196570 ∷ 999 ∷ 16 ∷ 1705032713 ∷ []

abbrev pub two_lies : List ℕ
two_lies = 4 ∷ 196570 ∷ 999 ∷ 998 ∷ 1705032713 ∷ []

abbrev pub lie_and_missing : List ℕ
lie_and_missing = 4 ∷ 196570 ∷ 999 ∷ 2147483647 ∷ 1705032713 ∷ []

-- It deals, settles with lamp 3 lying, repairs lamp 5's share and opens 7.
abbrev pub harbour : List harbours.Case
harbour =
    dealing far 1 (5 ∷ 2147483646 ∷ []) (4 ∷ 2147483645 ∷ [])
    ∷ dealing far 2 (131049 ∷ 262087 ∷ []) (196570 ∷ 262086 ∷ [])
    ∷ dealing far 5 (1852516360 ∷ 1557549062 ∷ []) (1705032713 ∷ 1557549061 ∷ [])
    ∷ answering far 1 (take_deal Wide (5 ∷ 2147483646 ∷ 4 ∷ 2147483645 ∷ []) ∷ []) (say_pair 2) none (2147418131 ∷ 2147352609 ∷ [])
    ∷ answering far 1 (take_deal Wide (5 ∷ 2147483646 ∷ 4 ∷ 2147483645 ∷ []) ∷ []) (hear_pairs Wide to_lamp_1) none (14 ∷ [])
    ∷ answering far 5 (take_deal Wide unsound_deal ∷ []) (say_pair 1) none (4294967295 ∷ 4294967295 ∷ [])
    ∷ ending far 1 calls_of_1 (settle reports) none 15 4 3
    ∷ ending far 5 calls_of_5 (settle reports) none 15 1705032713 3
    ∷ answering far 1 (calls_of_1 ++ settle reports ∷ []) (open_shares Wide published) none (7 ∷ [])
    ∷ answering far 5 (calls_of_5 ++ settle reports ∷ []) (open_shares Wide published) none (7 ∷ [])
    ∷ answering far 1 (calls_of_1 ++ settle reports ∷ []) (open_shares Wide lie_and_missing) none (7 ∷ [])
    ∷ answering far 1 (calls_of_1 ++ settle reports ∷ []) (open_shares Wide two_lies) (some 10) []
    ∷ []

-- ---- what is refused, at either width
module _ (w : Width) where
  -- Lamp 1 of five from its making on: dealt, reported on nothing right, and holding, all having been right.
  abbrev dealt : List Call
  dealt = take_deal w sound_deal ∷ []

  abbrev reported : List Call
  reported = take_deal w sound_deal ∷ hear_pairs w (replicate 10 0) ∷ []

  abbrev holding : List Call
  holding =
      take_deal w sound_deal
      ∷ hear_pairs w (0 ∷ 0 ∷ 22 ∷ 23 ∷ 28 ∷ 30 ∷ 34 ∷ 37 ∷ 40 ∷ 44 ∷ [])
      ∷ settle all_agree
      ∷ []

  -- 1, 2, 18, 3, 4, 5, 7, 8, 9 and 10.
  abbrev pub refused : List marked.Case
  refused =
      asking 4 1 1 [] (take_deal w sound_deal) (some 1)
      ∷ asking 5 1 6 [] (take_deal w sound_deal) (some 2)
      ∷ asking 5 1 1 dealt (say_pair 6) (some 2)
      ∷ asking 5 1 1 [] (take_deal (other w) sound_deal) (some 18)
      ∷ asking 5 1 1 dealt (hear_pairs (other w) (replicate 10 0)) (some 18)
      ∷ asking 5 1 1 holding (open_shares (other w) (10 ∷ 13 ∷ 16 ∷ 19 ∷ 22 ∷ [])) (some 18)
      ∷ asking 5 1 1 holding (open_shares w (10 ∷ 13 ∷ 16 ∷ 19 ∷ 22 ∷ [])) none
      ∷ asking 5 1 1 [] (take_deal w (9 ∷ 7 ∷ 10 ∷ [])) (some 3)
      ∷ asking 5 1 1 [] (hear_pairs w (replicate 10 0)) (some 4)
      ∷ refusing (suc (greatest w) ∷ 2 ∷ 3 ∷ 4 ∷ []) (some 5)
      ∷ asking 5 1 1 reported (settle (1 ∷ 0 ∷ 0 ∷ 0 ∷ 0 ∷ [])) (some 7)
      ∷ playing 1 sound_deal (replicate 10 0) (replicate 5 0) (some 8) 0 0 4
      ∷ settling 5 (1 ∷ 1 ∷ []) (44 ∷ 66 ∷ 0 ∷ 0 ∷ 0 ∷ []) (30 ∷ 29 ∷ 27 ∷ 7 ∷ 7 ∷ []) (some 9) 15 0 4
      ∷ opening 5 1 (10 ∷ 13 ∷ 999 ∷ 998 ∷ 22 ∷ []) (some 10) []
      ∷ []

  -- 14, and 18 before it. The greatest residue may stand in a table.
  abbrev pub bad_tables : List harbours.Case
  bad_tables =
      making (greatest w ∷ 2 ∷ 3 ∷ 4 ∷ 5 ∷ []) none
      ∷ making (suc (greatest w) ∷ 2 ∷ 3 ∷ 4 ∷ 5 ∷ []) (some 14)
      ∷ making (0 ∷ 2 ∷ 3 ∷ 4 ∷ 5 ∷ []) (some 14)
      ∷ harbours.refusing (suc (greatest w) ∷ 2 ∷ 3 ∷ 4 ∷ 5 ∷ []) an_f (some 14)
      ∷ harbours.refusing (greatest w ∷ 2 ∷ 3 ∷ 4 ∷ 5 ∷ []) an_f none
      ∷ answering (suc (greatest w) ∷ 2 ∷ 3 ∷ 4 ∷ 5 ∷ []) 1 [] (take_deal w sound_deal) (some 14) []
      ∷ answering (suc (greatest w) ∷ 2 ∷ 3 ∷ 4 ∷ 5 ∷ []) 1 [] (take_deal (other w) sound_deal) (some 18) []
      ∷ []

  -- Beside a wrong width: a bad size is 1, a bad number 2; a wrong length or a wrong stage is 18, at each of the three calls.
  abbrev pub order : List marked.Case
  order =
      asking 4 1 1 [] (take_deal (other w) sound_deal) (some 1)
      ∷ asking 4 1 1 [] (hear_pairs (other w) (replicate 10 0)) (some 1)
      ∷ asking 4 1 1 [] (open_shares (other w) (replicate 5 0)) (some 1)
      ∷ asking 5 1 6 [] (take_deal (other w) sound_deal) (some 2)
      ∷ asking 5 1 6 [] (hear_pairs (other w) (replicate 10 0)) (some 2)
      ∷ asking 5 1 6 [] (open_shares (other w) (replicate 5 0)) (some 2)
      ∷ asking 5 1 1 [] (take_deal (other w) (9 ∷ 7 ∷ 10 ∷ [])) (some 18)
      ∷ asking 5 1 1 [] (hear_pairs (other w) (replicate 9 0)) (some 18)
      ∷ asking 5 1 1 [] (open_shares (other w) (replicate 6 0)) (some 18)
      ∷ asking 5 1 1 dealt (take_deal (other w) sound_deal) (some 18)
      ∷ asking 5 1 1 [] (hear_pairs (other w) (replicate 10 0)) (some 18)
      ∷ asking 5 1 1 [] (open_shares (other w) (replicate 5 0)) (some 18)
      ∷ []

  -- ---- numbers at the edges

  -- A secret just below the prime is dealt and opened, the prime is refused; a deal is sound with the one and unsound with the other; of
  -- the published shares the prime and "not sent" are there for nothing.
  abbrev pub edges : List marked.Case
  edges =
      marked.dealing (greatest w ∷ 2 ∷ 3 ∷ 4 ∷ []) 1 (1 ∷ 7 ∷ []) (2 ∷ 6 ∷ [])
      ∷ marked.dealing (greatest w ∷ 2 ∷ 3 ∷ 4 ∷ []) 5 (9 ∷ 23 ∷ []) (14 ∷ 22 ∷ [])
      ∷ opening 5 1 (2 ∷ 5 ∷ 999 ∷ 11 ∷ 14 ∷ []) none (greatest w ∷ [])
      ∷ crossing 1 (greatest w ∷ 0 ∷ []) (greatest w ∷ 0 ∷ []) true
      ∷ crossing 1 (suc (greatest w) ∷ 0 ∷ []) (suc (greatest w) ∷ 0 ∷ []) false
      ∷ opening 5 1 (greatest w ∷ greatest w ∷ greatest w ∷ greatest w ∷ suc (greatest w) ∷ []) none (greatest w ∷ [])
      ∷ opening 5 1 (greatest w ∷ greatest w ∷ greatest w ∷ unsent w ∷ greatest w ∷ []) none (greatest w ∷ [])
      ∷ opening 5 1 (greatest w ∷ greatest w ∷ greatest w ∷ unsent w ∷ suc (greatest w) ∷ []) none (greatest w ∷ [])
      ∷ opening 5 1 (greatest w ∷ greatest w ∷ suc (greatest w) ∷ unsent w ∷ suc (greatest w) ∷ []) (some 10) []
      ∷ opening 5 1 (replicate 5 (suc (greatest w))) (some 10) []
      ∷ []

-- 65,521 and 65,535 are no residues to a narrow lamp; they are to a wide one, to which 2,147,483,647 and 4,294,967,295 are none.
abbrev pub only_narrow : List marked.Case
only_narrow =
    opening 5 1 (replicate 5 65521) (some 10) []
    ∷ opening 5 1 (replicate 5 65535) (some 10) []
    ∷ refusing (65521 ∷ 2 ∷ 3 ∷ 4 ∷ []) (some 5)
    ∷ []

abbrev pub only_wide : List marked.Case
only_wide =
    opening 5 1 (replicate 5 65521) none (65521 ∷ [])
    ∷ opening 5 1 (replicate 5 65535) none (65535 ∷ [])
    ∷ refusing (65521 ∷ 65535 ∷ 65536 ∷ 2147483646 ∷ []) none
    ∷ refusing (7 ∷ 2147483647 ∷ 3 ∷ 4 ∷ []) (some 5)
    ∷ opening 5 1 (replicate 5 2147483647) (some 10) []
    ∷ opening 5 1 (replicate 5 4294967295) (some 10) []
    ∷ []
