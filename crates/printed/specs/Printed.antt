-- What is printed of a record in which the honest lamps' entries meet demand 3's premises.
--   Faithful honest bytes     those premises: few are faulty, and the honest lamps' pairs and reports stand in the record
--   setting_of bytes          the record's width and sizes, with the points 1 to n
--   told bytes i              lamp i's calls, as the record tells them: its deal, its pairs, the reports, an opening of what is published
--   story honest bytes        the execution of all lamps
--   PublishedOrNot F          each honest lamp has published its share or nothing; honest_published: how many have published it
--   Rejected, Accepted        what the text says; PrintedRight: one of the two
--   Printed                   the claim, for every record and every choice of honest lamps
use Rattle.std.specs.Prelude.{◌≡◌, ◌⊎◌, Bool, true, not, ◌&&◌, List, [], ◌∷◌, ◌++◌, ℕ, ◌+◌, ◌*◌, ◌≤◌, ◌<◌, ltb, get_or}
use Rattle.lists.specs.Choices.{count}
use Rattle.parties.specs.Parties.{parties, entry}
use Rattle.tables.specs.Tables.{one_to}
use Rattle.consistency.specs.Deal.{first_from, second_from}
use Rattle.answers.specs.declared.Refusal.TheVariants.{DealerRejected, NoOpening}
use Rattle.answers.specs.Refusals.{refusal_number}
use Rattle.lamp.specs.Lamp.{open_shares}
use Rattle.record.specs.Record.{width_of, n_of, t_of, IsRecord, numbers_of}
use Rattle.text.specs.Letters.{letters, field, line}
use Rattle.lines.specs.Lines.{size_line, happy_line}
use Rattle.transcript.specs.Outcomes.{reply_line, last_line}
use Rattle.transcript.specs.Transcript.{run, lamp_lines, text}
use Rattle.agreement.specs.Setting.{Setting, prime, value_of, pair_by}
use Rattle.agreement.specs.Calls.{Run, whole}
use Rattle.agreement.specs.Demand3.{Execution, Honest, AllReject, AllAccept, HonestDealer}
use Rattle.agreement.specs.Plain.{plain}
use Rattle.printed.specs.Direct.{its_deal, its_pairs, its_report, happy}

-- The surroundings that the record gives: a record has no table.
abbrev pub setting_of : List ℕ → Setting
setting_of bytes = plain (width_of bytes) (n_of bytes) (t_of bytes)

-- Lamp i's own parts of the record, by calls of its width, with no other call.
abbrev pub told : List ℕ → ℕ → Run
told bytes i = record {
  width = width_of bytes;
  before_deal = [];
  its_deal = its_deal bytes i;
  before_pairs = [];
  its_pairs = its_pairs bytes i;
  before_reports = [];
  its_reports = numbers_of bytes 2;
  rest = open_shares (width_of bytes) (numbers_of bytes 3) ∷ [];
}

-- All lamps, made for the record's width without a table, with the reports that stand in the record.
abbrev pub story : (ℕ → Bool) → List ℕ → Execution
story honest bytes = record {
  honest = honest;
  widths = λ i. width_of bytes;
  tables = λ i. one_to (n_of bytes);
  calls = λ i. whole (told bytes i);
  run = told bytes;
  seen = numbers_of bytes 2;
}

module _ (honest : ℕ → Bool) (bytes : List ℕ) where
  -- Lamp i is one of the honest ones.
  abbrev pub IsHonest : ℕ → Type 0
  IsHonest = Honest (setting_of bytes) (story honest bytes)

  -- Lamp j's pair for i by its deal in the record.
  abbrev pub its_pair : ℕ → ℕ → ℕ × ℕ
  its_pair j i = pair_by (setting_of bytes) j (its_deal bytes j) i

  -- At most t lamps are faulty, each honest lamp's report stands in its place, and the honest lamps' pairs reach each other unaltered.
  pub record Faithful : Type 0 where
    pub few : count (λ i. not (honest i)) (parties (n_of bytes)) ≤ t_of bytes
    pub own : (i : ℕ) → IsHonest i → entry (numbers_of bytes 2) i ≡ its_report bytes i
    pub hear : (i j : ℕ) → IsHonest i → IsHonest j → (i ≡ j → ⊥)
        → (first_from (its_pairs bytes i) j ≡ (its_pair j i).0) × (second_from (its_pairs bytes i) j ≡ (its_pair j i).1)

  -- The line that is printed of lamp i, and the last line after an accepted dealer.
  abbrev pub printed_line : ℕ → List ℕ
  printed_line i = reply_line i (run bytes (width_of bytes) (n_of bytes) (t_of bytes) i)

  abbrev pub opens_line : List ℕ
  opens_line = last_line true (width_of bytes) (n_of bytes) (t_of bytes) (numbers_of bytes 3)

  -- The text with this verdict and this last line.
  abbrev pub text_with : List ℕ → List ℕ → List ℕ
  text_with verdict last =
      ((size_line (n_of bytes) (t_of bytes) ++ verdict) ++ lamp_lines bytes (width_of bytes) (n_of bytes) (t_of bytes) (n_of bytes)) ++ last

  -- "dealer rejected" is printed, "opened refused 8", and "lamp i refused 8" of every honest lamp.
  pub record Rejected : Type 0 where
    pub all : AllReject (setting_of bytes) (story honest bytes)
    pub prints : text bytes ≡ text_with (letters "dealer rejected\n") (line (letters "opened refused ") (refusal_number DealerRejected))
    pub lines : (i : ℕ) → IsHonest i
        → printed_line i ≡ field (letters "lamp ") i ++ line (letters " refused ") (refusal_number DealerRejected)

  -- In the published list each honest lamp's place holds F(j, 0), if anything was sent.
  abbrev pub PublishedOrNot : List ℕ → Type 0
  PublishedOrNot F = (j : ℕ) → IsHonest j → entry (numbers_of bytes 3) j < prime (setting_of bytes)
      → entry (numbers_of bytes 3) j ≡ value_of (setting_of bytes) F j 0

  -- How many honest lamps have published: the list is opened by itself, with no lamp's own share.
  abbrev pub honest_published : ℕ
  honest_published = count (λ j. honest j && ltb (entry (numbers_of bytes 3) j) (prime (setting_of bytes))) (parties (n_of bytes))

  -- "dealer accepted" is printed and the happy lamps; "lamp i share v" with v = F(i, 0), of every honest lamp; and where those shares are
  -- published, "opened v" with v = F(0, 0). Where some are not, so it is all the same if 2t + 1 are there; and however few are, that or
  -- "opened refused 10".
  pub record Accepted (F : List ℕ) : Type 0 where
    pub all : AllAccept (setting_of bytes) (story honest bytes) F
    pub prints : text bytes ≡ text_with (letters "dealer accepted\n" ++ happy_line (happy bytes) (n_of bytes)) opens_line
    pub lines : (i : ℕ) → IsHonest i
        → printed_line i ≡ field (letters "lamp ") i ++ line (letters " share ") (value_of (setting_of bytes) F i 0)
    pub opens : ((j : ℕ) → IsHonest j → entry (numbers_of bytes 3) j ≡ value_of (setting_of bytes) F j 0)
        → opens_line ≡ line (letters "opened ") (value_of (setting_of bytes) F 0 0)
    pub opens_enough : PublishedOrNot F → 2 * t_of bytes + 1 ≤ honest_published
        → opens_line ≡ line (letters "opened ") (value_of (setting_of bytes) F 0 0)
    pub opens_no_other : PublishedOrNot F
        → (opens_line ≡ line (letters "opened ") (value_of (setting_of bytes) F 0 0))
        ⊎ (opens_line ≡ line (letters "opened refused ") (refusal_number NoOpening))

  -- One verdict; an honest dealer, who has no table either, is accepted, its F is its own, and F(0, 0) its secret.
  pub record PrintedRight : Type 0 where
    pub one_verdict : Rejected ⊎ ((F : List ℕ) × Accepted F)
    pub dealer : (F : List ℕ) → HonestDealer (setting_of bytes) (story honest bytes) F
        → Accepted F × (value_of (setting_of bytes) F 0 0 ≡ get_or F 0 0)

-- DEMAND 3, OF WHAT IS PRINTED.
unfoldable pub Printed : Type 0
Printed = (honest : ℕ → Bool) (bytes : List ℕ) → IsRecord bytes → Faithful honest bytes → PrintedRight honest bytes
