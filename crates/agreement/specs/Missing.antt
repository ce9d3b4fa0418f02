-- Openings with lamps dark, whose shares are missing, as a table of cases for either width. The shares lie on 7 + 3X (t = 1),
-- 7 + 3X + X² (t = 2) and 7 + X + X² + X³ (t = 3).
--   missing_shares w   five lamps, the request's lists among them
--   unaffected w       M3 to M6 again
--   missing_pairs w    a repair where happy lamps said nothing
--   most_missing w     nine and thirteen lamps: the most missing that still open, and one more; the most that lie, and one more
-- Shown true in proofs/Marked.
use Rattle.std.proofs.Math.Option.{none, some}
use Rattle.std.specs.Prelude.{List, [], ◌∷◌, ℕ, suc, replicate}
use Rattle.field.specs.declared.Width.{Width}
use Rattle.agreement.specs.Demand1.{unsent}
use Rattle.agreement.specs.Marked.{Case, opening, opening_by, alone, repairing, greatest}

module _ (w : Width) where
  -- A lamp that sent nothing.
  abbrev missing : ℕ
  missing = unsent w

  -- The request's three lists, by themselves and as each lamp opens them, whose own share is there: the third is opened by lamps 3 to 5
  -- and by nobody else. A lie and a number that is no residue; three agree and one lies; two agree; what stands in a lamp's own place
  -- is not looked at; one list that lamp 5 opens and lamp 1 does not. Last two liars, of whom nothing is promised: with lamp 4's share on
  -- their line 3 + 4X they open 3 where lamp 5 is missing.
  abbrev pub missing_shares : List Case
  missing_shares =
      alone 5 1 (10 ∷ 13 ∷ missing ∷ missing ∷ 22 ∷ []) (some 7)
      ∷ alone 5 1 (10 ∷ 13 ∷ missing ∷ 999 ∷ 22 ∷ []) (some 7)
      ∷ alone 5 1 (10 ∷ 13 ∷ missing ∷ missing ∷ missing ∷ []) none
      ∷ opening_by 5 1 1 10 (10 ∷ 13 ∷ missing ∷ missing ∷ 22 ∷ []) none (7 ∷ [])
      ∷ opening_by 5 1 2 13 (10 ∷ 13 ∷ missing ∷ missing ∷ 22 ∷ []) none (7 ∷ [])
      ∷ opening_by 5 1 3 16 (10 ∷ 13 ∷ missing ∷ missing ∷ 22 ∷ []) none (7 ∷ [])
      ∷ opening_by 5 1 4 19 (10 ∷ 13 ∷ missing ∷ missing ∷ 22 ∷ []) none (7 ∷ [])
      ∷ opening_by 5 1 5 22 (10 ∷ 13 ∷ missing ∷ missing ∷ 22 ∷ []) none (7 ∷ [])
      ∷ opening_by 5 1 1 10 (10 ∷ 13 ∷ missing ∷ 999 ∷ 22 ∷ []) none (7 ∷ [])
      ∷ opening_by 5 1 2 13 (10 ∷ 13 ∷ missing ∷ 999 ∷ 22 ∷ []) none (7 ∷ [])
      ∷ opening_by 5 1 3 16 (10 ∷ 13 ∷ missing ∷ 999 ∷ 22 ∷ []) none (7 ∷ [])
      ∷ opening_by 5 1 4 19 (10 ∷ 13 ∷ missing ∷ 999 ∷ 22 ∷ []) none (7 ∷ [])
      ∷ opening_by 5 1 5 22 (10 ∷ 13 ∷ missing ∷ 999 ∷ 22 ∷ []) none (7 ∷ [])
      ∷ opening_by 5 1 1 10 (10 ∷ 13 ∷ missing ∷ missing ∷ missing ∷ []) (some 10) []
      ∷ opening_by 5 1 2 13 (10 ∷ 13 ∷ missing ∷ missing ∷ missing ∷ []) (some 10) []
      ∷ opening_by 5 1 3 16 (10 ∷ 13 ∷ missing ∷ missing ∷ missing ∷ []) none (7 ∷ [])
      ∷ opening_by 5 1 4 19 (10 ∷ 13 ∷ missing ∷ missing ∷ missing ∷ []) none (7 ∷ [])
      ∷ opening_by 5 1 5 22 (10 ∷ 13 ∷ missing ∷ missing ∷ missing ∷ []) none (7 ∷ [])
      ∷ opening 5 1 (10 ∷ 999 ∷ missing ∷ missing ∷ 22 ∷ []) (some 10) []
      ∷ opening 5 1 (10 ∷ 13 ∷ suc (greatest w) ∷ missing ∷ 22 ∷ []) none (7 ∷ [])
      ∷ opening 5 1 (10 ∷ 13 ∷ 16 ∷ missing ∷ 999 ∷ []) none (7 ∷ [])
      ∷ opening 5 1 (10 ∷ 13 ∷ 998 ∷ missing ∷ 999 ∷ []) (some 10) []
      ∷ opening_by 5 1 1 10 (999 ∷ 13 ∷ 16 ∷ missing ∷ missing ∷ []) none (7 ∷ [])
      ∷ opening_by 5 1 1 10 (missing ∷ 13 ∷ 16 ∷ missing ∷ missing ∷ []) none (7 ∷ [])
      ∷ opening_by 5 1 5 22 (10 ∷ 13 ∷ 999 ∷ missing ∷ missing ∷ []) none (7 ∷ [])
      ∷ opening 5 1 (10 ∷ 13 ∷ 999 ∷ missing ∷ missing ∷ []) (some 10) []
      ∷ alone 5 1 (7 ∷ 11 ∷ 16 ∷ 19 ∷ missing ∷ []) (some 3)
      ∷ alone 5 1 (7 ∷ 11 ∷ 16 ∷ 19 ∷ 22 ∷ []) none
      ∷ []

  -- M3 to M6, of the lists by themselves; and M5 by a lamp that holds a share.
  abbrev pub unaffected : List Case
  unaffected =
      alone 5 1 (10 ∷ 13 ∷ 999 ∷ 19 ∷ 22 ∷ []) (some 7)
      ∷ alone 5 1 (10 ∷ 13 ∷ 999 ∷ 998 ∷ 22 ∷ []) none
      ∷ alone 5 1 (replicate 5 missing) none
      ∷ opening_by 5 1 1 10 (replicate 5 missing) (some 10) []
      ∷ alone 5 1 (replicate 5 0) (some 0)
      ∷ []

  -- Repair keeps its rule: of five happy lamps one may be silent, not two, though the other three agree.
  abbrev pub missing_pairs : List Case
  missing_pairs =
      repairing 6 1 31 (44 ∷ 66 ∷ 88 ∷ 110 ∷ missing ∷ 0 ∷ []) (some 22)
      ∷ repairing 6 1 31 (44 ∷ 66 ∷ 88 ∷ missing ∷ missing ∷ 0 ∷ []) none
      ∷ alone 5 1 (44 ∷ 66 ∷ 88 ∷ missing ∷ missing ∷ []) (some 22)
      ∷ []

  -- 2t + 1 lit and true, and one fewer; with t lies besides, and one more lie.
  abbrev pub most_missing : List Case
  most_missing =
      alone 9 2 (11 ∷ missing ∷ 25 ∷ missing ∷ 47 ∷ 61 ∷ missing ∷ missing ∷ 115 ∷ []) (some 7)
      ∷ alone 9 2 (11 ∷ missing ∷ 25 ∷ missing ∷ 47 ∷ 61 ∷ missing ∷ missing ∷ missing ∷ []) none
      ∷ opening_by 9 2 7 77 (11 ∷ missing ∷ 25 ∷ missing ∷ 47 ∷ 61 ∷ missing ∷ missing ∷ missing ∷ []) none (7 ∷ [])
      ∷ opening 9 2 (11 ∷ 1 ∷ 25 ∷ missing ∷ 47 ∷ 61 ∷ missing ∷ 1 ∷ 115 ∷ []) none (7 ∷ [])
      ∷ opening 9 2 (11 ∷ 1 ∷ 25 ∷ 1 ∷ 47 ∷ 61 ∷ missing ∷ 1 ∷ 115 ∷ []) (some 10) []
      ∷ alone 13 3
      (missing ∷ 21 ∷ 46 ∷ missing ∷ 162 ∷ missing ∷ 406 ∷ missing ∷ 826 ∷ missing ∷ 1470 ∷ missing ∷ 2386 ∷ []) (some 7)
      ∷ alone 13 3
      (missing ∷ 21 ∷ 46 ∷ missing ∷ 162 ∷ missing ∷ 406 ∷ missing ∷ 826 ∷ missing ∷ 1470 ∷ missing ∷ missing ∷ []) none
      ∷ alone 13 3
      (missing ∷ 1 ∷ 46 ∷ 1 ∷ 162 ∷ 1 ∷ 406 ∷ missing ∷ 826 ∷ 1117 ∷ 1470 ∷ missing ∷ 2386 ∷ []) (some 7)
      ∷ alone 13 3
      (1 ∷ 1 ∷ 46 ∷ 1 ∷ 162 ∷ 1 ∷ 406 ∷ missing ∷ 826 ∷ 1117 ∷ 1470 ∷ missing ∷ 2386 ∷ []) none
      ∷ []
