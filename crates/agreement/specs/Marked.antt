-- The protocol's marked cases, M1 to M12, and its traps, as one table of cases for either width; F = 7 + 3X + 2Y + 4XY, n = 5 and t = 1
-- unless a case says otherwise.
--   Case          what is asked, and what must come of it
--   holds w c     the definitions give that, for numbers of the width w
--   greatest w    the greatest residue of that width
--   table w       the marked cases; traps w: the protocol's traps; sayings w: what a lamp says, and what a closed one still does
-- Shown true all together, for both widths, in proofs/Marked.
use Rattle.std.specs.Prelude.{Bool, true, false, ◌&&◌, List, [], ◌∷◌, ◌++◌, ℕ, suc, ◌*◌, ◌-◌, eqb, replicate}
use Rattle.std.specs.Bool.{beq}
use Rattle.std.proofs.Math.Option.{Option, none, some}
use Rattle.lists.specs.Tabulate.{pad}
use Rattle.field.specs.declared.Width.{Width}
use Rattle.field.specs.declared.Width.TheVariants.{Narrow, Wide}
use Rattle.field.specs.Modulus.{prime_of}
use Rattle.polynomial.specs.Polynomial.{value}
use Rattle.fit.specs.Opening.{opening_of}
use Rattle.recovery.specs.Recovery.{repair}
use Rattle.parties.specs.Parties.{entry}
use Rattle.tables.specs.Tables.{point_at, one_to, in_array}
use Rattle.dealer.specs.Desk as desks
use Rattle.answers.specs.declared.Stage.TheVariants.{Reported, Holding}
use Rattle.lamp.specs.declared.Lamp.{Lamp}
use Rattle.lamp.specs.declared.Reply.{Reply}
use Rattle.answers.specs.Refusals.{number_of}
use Rattle.answers.specs.Answers.{values_of, stage_number, Answered}
use Rattle.answers.specs.Fits.{constant}
use Rattle.consistency.specs.Deal.{sound}
use Rattle.lamp.specs.Lamp.{Call, take_deal, say_pair, hear_pairs, settle, open_shares, made, make, step, after}
use Rattle.agreement.specs.Demand1.{unsent}

-- Equality of lists, and of what may be missing.
abbrev pub same : List ℕ → List ℕ → Bool
same [] [] = true
same [] (y ∷ ys) = false
same (x ∷ xs) [] = false
same (x ∷ xs) (y ∷ ys) = eqb x y && same xs ys

abbrev pub same_number_or_none : Option ℕ → Option ℕ → Bool
same_number_or_none none none = true
same_number_or_none none (some k) = false
same_number_or_none (some j) none = false
same_number_or_none (some j) (some k) = eqb j k

-- What is asked, and what must come of it.
--   dealing F i row column              the desk's deal of F for lamp i
--   opening n t xs number values        an opening of the published shares xs by lamp 1, which holds what it published
--   opening_by n t i v xs number values  the same by lamp i, which holds v
--   alone n t xs number                 what the published shares open by themselves, if anything
--   repairing n t S heard number        the constant of the column repaired from what the lamps in S said first, if there is one
--   settling i column heard rs k S v s  lamp i, dealt this column, heard these first numbers and settles on rs: number, set, share, stage
--   playing i d hs rs k S v s           lamp i from its making on: takes the deal d, hears hs, settles on rs
--   sizing n t k                        making a lamp, and a desk's dealing, for n and t
--   refusing F k                        the desk's answer to the list F
--   crossing i row column ok            whether lamp i's deal is sound
--   meeting i row j column              lamp i's row at j's point is lamp j's column at i's point
--   answering i cs c number values      lamp i from its making on, after the calls cs: its answer to the call c
--   asking n t i cs c number            the same for n and t: the number of its answer
pub data Case : Type 0 where
  dealing : List ℕ → ℕ → List ℕ → List ℕ → Case
  opening : ℕ → ℕ → List ℕ → Option ℕ → List ℕ → Case
  opening_by : ℕ → ℕ → ℕ → ℕ → List ℕ → Option ℕ → List ℕ → Case
  alone : ℕ → ℕ → List ℕ → Option ℕ → Case
  repairing : ℕ → ℕ → ℕ → List ℕ → Option ℕ → Case
  settling : ℕ → List ℕ → List ℕ → List ℕ → Option ℕ → ℕ → ℕ → ℕ → Case
  playing : ℕ → List ℕ → List ℕ → List ℕ → Option ℕ → ℕ → ℕ → ℕ → Case
  sizing : ℕ → ℕ → Option ℕ → Case
  refusing : List ℕ → Option ℕ → Case
  crossing : ℕ → List ℕ → List ℕ → Bool → Case
  meeting : ℕ → List ℕ → ℕ → List ℕ → Case
  answering : ℕ → List Call → Call → Option ℕ → List ℕ → Case
  asking : ℕ → ℕ → ℕ → List Call → Call → Option ℕ → Case

-- A lamp that holds the share v, and one that was dealt a column, heard these first numbers and reported r.
abbrev pub holder : Width → ℕ → ℕ → ℕ → ℕ → Lamp
holder w n t i v = record {
  party = record { n = n; t = t; number = i; width = w; table = in_array n (one_to n) };
  sharing = record {
    stage = Holding;
    row = replicate 4 0;
    column = replicate 4 0;
    heard = replicate 16 0;
    report = 0;
    happy = 0;
    share = v;
  };
}

abbrev pub reporter : Width → ℕ → List ℕ → List ℕ → ℕ → Lamp
reporter w i column heard r = record {
  party = record { n = 5; t = 1; number = i; width = w; table = in_array 5 (one_to 5) };
  sharing = record {
    stage = Reported;
    row = replicate 4 0;
    column = pad 4 column;
    heard = pad 16 heard;
    report = r;
    happy = 0;
    share = 0;
  };
}

-- A reply has this answer, and leaves this set, share and stage.
abbrev pub leaves : Reply → Option ℕ → ℕ → ℕ → ℕ → Bool
leaves r number set share stage =
    same_number_or_none (number_of r.answer) number && eqb r.lamp.sharing.happy set && eqb r.lamp.sharing.share share
    && eqb (stage_number r.lamp.sharing.stage) stage

-- An answer has this number and these values.
abbrev pub answers : Answered → Option ℕ → List ℕ → Bool
answers a number values = same_number_or_none (number_of a) number && same (values_of a) values

-- The constant of what was found.
abbrev pub constant_of : Option (List ℕ) → Option ℕ
constant_of none = none
constant_of (some f) = some (constant f)

-- The definitions give what the case says.
unfoldable pub holds : Width → Case → Bool
holds w (dealing F i row column) = same (desks.stretch 2 (desks.desk (prime_of w) 5 1 F (replicate 20 0)).0 i) (row ++ column)
holds w (opening n t xs number values) = answers (step (holder w n t 1 (entry xs 1)) (open_shares w xs)).answer number values
holds w (opening_by n t i v xs number values) = answers (step (holder w n t i v) (open_shares w xs)).answer number values
holds w (alone n t xs number) = same_number_or_none (constant_of (opening_of (prime_of w) t (one_to n) xs)) number
holds w (repairing n t S heard number) = same_number_or_none (constant_of (repair (prime_of w) n t (one_to n) S heard)) number
holds w (settling i column heard rs number set share stage) =
    leaves (step (reporter w i column heard (entry rs i)) (settle rs)) number set share stage
holds w (playing i d hs rs number set share stage) =
    leaves (step (after (made w 5 1 i) (take_deal w d ∷ hear_pairs w hs ∷ [])) (settle rs)) number set share stage
holds w (sizing n t number) =
    same_number_or_none (number_of (make w n t 1).answer) number
    && same_number_or_none (number_of (desks.desk (prime_of w) n t (replicate (suc t * suc t) 0) (replicate (n * (2 * suc t)) 0)).1) number
holds w (refusing F number) = same_number_or_none (number_of (desks.desk (prime_of w) 5 1 F (replicate 20 0)).1) number
holds w (crossing i row column ok) = beq (sound (prime_of w) (one_to 5) i row column) ok
holds w (meeting i row j column) = eqb (value (prime_of w) row (point_at (one_to 5) j)) (value (prime_of w) column (point_at (one_to 5) i))
holds w (answering i cs c number values) = answers (step (after (made w 5 1 i) cs) c).answer number values
holds w (asking n t i cs c number) = same_number_or_none (number_of (step (after (made w n t i) cs) c).answer) number

-- All cases of a list hold.
abbrev pub every : {A : Type 0} → (A → Bool) → List A → Bool
every test [] = true
every test (c ∷ cs) = test c && every test cs

-- The greatest residue: 5 refuses what is above it.
abbrev pub greatest : Width → ℕ
greatest Narrow = 65520
greatest Wide = 2147483646

-- M1 to M12. In M7 and M8 lamp 5's dealt column is 1 + Y, which it sets aside.
abbrev pub table : Width → List Case
table w =
    dealing (7 ∷ 2 ∷ 3 ∷ 4 ∷ []) 1 (9 ∷ 7 ∷ []) (10 ∷ 6 ∷ [])
    ∷ dealing (7 ∷ 2 ∷ 3 ∷ 4 ∷ []) 5 (17 ∷ 23 ∷ []) (22 ∷ 22 ∷ [])
    ∷ opening 5 1 (10 ∷ 13 ∷ 999 ∷ 19 ∷ 22 ∷ []) none (7 ∷ [])
    ∷ opening 5 1 (10 ∷ 13 ∷ 999 ∷ 998 ∷ 22 ∷ []) (some 10) []
    ∷ opening 5 1 (replicate 5 (unsent w)) (some 10) []
    ∷ opening 5 1 (0 ∷ 0 ∷ 0 ∷ 0 ∷ 0 ∷ []) none (0 ∷ [])
    ∷ settling 5 (1 ∷ 1 ∷ []) (44 ∷ 66 ∷ 88 ∷ 110 ∷ 0 ∷ []) (30 ∷ 29 ∷ 27 ∷ 7 ∷ 7 ∷ []) none 15 22 3
    ∷ settling 5 (1 ∷ 1 ∷ []) (44 ∷ 66 ∷ 0 ∷ 110 ∷ 0 ∷ []) (30 ∷ 29 ∷ 27 ∷ 7 ∷ 7 ∷ []) none 15 22 3
    ∷ settling 5 (22 ∷ 22 ∷ []) (44 ∷ 66 ∷ 88 ∷ 110 ∷ 0 ∷ []) (28 ∷ 28 ∷ 19 ∷ 19 ∷ 15 ∷ []) (some 8) 0 0 4
    ∷ settling 5 (22 ∷ 22 ∷ []) (44 ∷ 66 ∷ 88 ∷ 110 ∷ 0 ∷ []) (24 ∷ 28 ∷ 26 ∷ 23 ∷ 15 ∷ []) none 30 22 3
    ∷ sizing 5 1 none ∷ sizing 9 2 none ∷ sizing 13 3 none ∷ sizing 16 3 none
    ∷ sizing 4 1 (some 1) ∷ sizing 8 2 (some 1) ∷ sizing 12 3 (some 1)
    ∷ sizing 17 3 (some 1) ∷ sizing 17 4 (some 1) ∷ sizing 5 0 (some 1)
    ∷ refusing (greatest w ∷ 2 ∷ 3 ∷ 4 ∷ []) none
    ∷ refusing (suc (greatest w) ∷ 2 ∷ 3 ∷ 4 ∷ []) (some 5)
    ∷ []

-- Lamp 5's deal with row 17 + 24 X for 17 + 23 X.
abbrev pub unsound_deal : List ℕ
unsound_deal = 17 ∷ 24 ∷ 22 ∷ 22 ∷ []

-- The traps: own crossing (the six cross values of lamps 1, 2 and 3 agree, and yet lamps 2 and 3 find their deals unsound, lamp 1 does
-- not); a one-sided agreement counts for nothing; a greedy set is not the largest, nor is the first with n − t lamps; a repair from second
-- numbers, or from all lamps, would find another share (lamp 5, whose deal is unsound, hears 22 + 22 j first and other numbers second, and
-- the lamp outside the set says 999); nine lamps with t = 1 and two wrong are 10.
abbrev pub traps : Width → List Case
traps w =
    meeting 1 (0 ∷ 0 ∷ []) 2 (greatest w ∷ 1 ∷ [])
    ∷ meeting 1 (0 ∷ 0 ∷ []) 3 (0 ∷ 0 ∷ [])
    ∷ meeting 2 (0 ∷ 0 ∷ []) 1 (0 ∷ 0 ∷ [])
    ∷ meeting 2 (0 ∷ 0 ∷ []) 3 (0 ∷ 0 ∷ [])
    ∷ meeting 3 ((greatest w - 1) ∷ 2 ∷ []) 1 (0 ∷ 0 ∷ [])
    ∷ meeting 3 ((greatest w - 1) ∷ 2 ∷ []) 2 (greatest w ∷ 1 ∷ [])
    ∷ crossing 1 (0 ∷ 0 ∷ []) (0 ∷ 0 ∷ []) true
    ∷ crossing 2 (0 ∷ 0 ∷ []) (greatest w ∷ 1 ∷ []) false
    ∷ crossing 3 ((greatest w - 1) ∷ 2 ∷ []) (0 ∷ 0 ∷ []) false
    ∷ settling 5 (1 ∷ 1 ∷ []) (44 ∷ 66 ∷ 88 ∷ 110 ∷ 0 ∷ []) (30 ∷ 29 ∷ 27 ∷ 23 ∷ 7 ∷ []) none 15 22 3
    ∷ settling 5 (22 ∷ 22 ∷ []) (44 ∷ 66 ∷ 88 ∷ 110 ∷ 0 ∷ []) (16 ∷ 28 ∷ 26 ∷ 22 ∷ 15 ∷ []) none 30 22 3
    ∷ settling 5 (22 ∷ 22 ∷ []) (44 ∷ 66 ∷ 88 ∷ 110 ∷ 0 ∷ []) (30 ∷ 29 ∷ 27 ∷ 23 ∷ 15 ∷ []) none 31 22 3
    ∷ playing 5 unsound_deal (44 ∷ 5 ∷ 66 ∷ 6 ∷ 88 ∷ 7 ∷ 110 ∷ 8 ∷ 0 ∷ 0 ∷ []) (14 ∷ 13 ∷ 11 ∷ 7 ∷ 0 ∷ []) none 15 22 3
    ∷ playing 5 unsound_deal (44 ∷ 5 ∷ 66 ∷ 6 ∷ 88 ∷ 7 ∷ 999 ∷ 8 ∷ 999 ∷ 0 ∷ []) (14 ∷ 13 ∷ 11 ∷ 7 ∷ 0 ∷ []) none 15 22 3
    ∷ opening 9 1 (10 ∷ 13 ∷ 999 ∷ 998 ∷ 22 ∷ 25 ∷ 28 ∷ 31 ∷ 34 ∷ []) (some 10) []
    ∷ []

-- Lamp 1's deal of F, and the calls after which it is closed: nobody's numbers are right, nobody agrees.
abbrev pub sound_deal : List ℕ
sound_deal = 9 ∷ 7 ∷ 10 ∷ 6 ∷ []

abbrev pub to_closed : Width → List Call
to_closed w = take_deal w sound_deal ∷ hear_pairs w (replicate 10 0) ∷ settle (replicate 5 0) ∷ []

-- From its deal on a lamp says its row and its column at the other's point, closed too; for itself, or with an unsound deal, nothing;
-- waiting, it is 4. A report has no one for a wrong second number, nor for the lamp itself. A closed lamp opens nothing.
abbrev pub sayings : Width → List Case
sayings w =
    answering 1 (take_deal w sound_deal ∷ []) (say_pair 2) none (23 ∷ 22 ∷ [])
    ∷ answering 1 (take_deal w sound_deal ∷ []) (say_pair 1) none (unsent w ∷ unsent w ∷ [])
    ∷ answering 5 (take_deal w unsound_deal ∷ []) (say_pair 2) none (unsent w ∷ unsent w ∷ [])
    ∷ answering 1 [] (say_pair 2) (some 4) []
    ∷ answering 1 (take_deal w sound_deal ∷ []) (hear_pairs w (16 ∷ 16 ∷ 22 ∷ 23 ∷ 28 ∷ 31 ∷ 34 ∷ 37 ∷ 40 ∷ 44 ∷ [])) none (26 ∷ [])
    ∷ playing 1 sound_deal (replicate 10 0) (replicate 5 0) (some 8) 0 0 4
    ∷ answering 1 (to_closed w) (say_pair 2) none (23 ∷ 22 ∷ [])
    ∷ answering 1 (to_closed w) (open_shares w (10 ∷ 13 ∷ 999 ∷ 19 ∷ 22 ∷ [])) (some 4) []
    ∷ []
