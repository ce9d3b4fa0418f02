-- The text of a record straight from its numbers, by the protocol's steps 1 to 4, with no lamp and no call. A record has no table: the
-- points are 1 to n.
--   the_prime                       the prime of its width
--   its_deal, its_pairs, its_report   lamp i's own deal and pairs in the record, and its report by step 3
--   happy, is_accepted_in           the happy set and whether the dealer is accepted, by the reports alone
--   lamp_says bytes i               what is printed behind "lamp i"
--   direct bytes                    the whole text
-- Law: proofs/Direct.
use Rattle.std.specs.Prelude.{Bool, cond, List, [], ◌++◌, ℕ, zero, suc, ◌+◌, eqb}
use Rattle.std.proofs.Math.Option.{Option, none, some}
use Rattle.field.specs.Modulus.{prime_of}
use Rattle.happy.specs.Happy.{happy_set}
use Rattle.parties.specs.Parties.{member, entry}
use Rattle.tables.specs.Tables.{one_to}
use Rattle.dealer.specs.Desk.{stretch}
use Rattle.consistency.specs.Deal.{row_of, column_of, report_of}
use Rattle.recovery.specs.Recovery.{repair}
use Rattle.answers.specs.declared.Refusal.{Refusal}
use Rattle.answers.specs.declared.Refusal.TheVariants.{AlteredReport, DealerRejected, NoColumn}
use Rattle.answers.specs.Refusals.{refusal_number}
use Rattle.answers.specs.Fits.{constant}
use Rattle.lamp.specs.Lamp.{firsts}
use Rattle.record.specs.Record.{width_of, n_of, t_of, numbers_of}
use Rattle.text.specs.Letters.{letters, field, line}
use Rattle.lines.specs.Lines.{size_line, verdict_lines}
use Rattle.transcript.specs.Outcomes.{is_accepted, last_line}
use Rattle.transcript.specs.Transcript.{received}

-- " refused k"
abbrev pub refuses : Refusal → List ℕ
refuses why = line (letters " refused ") (refusal_number why)

-- An unhappy lamp's share is the constant of the column that fits what it heard; where none fits it refuses.
abbrev pub mended : Option (List ℕ) → List ℕ
mended none = refuses NoColumn
mended (some f) = line (letters " share ") (constant f)

module _ (bytes : List ℕ) where
  -- All is computed modulo the prime of the record's width.
  abbrev pub the_prime : ℕ
  the_prime = prime_of (width_of bytes)

  -- Lamp i's own part of the deals, and of round two.
  abbrev pub its_deal : ℕ → List ℕ
  its_deal i = stretch (t_of bytes + 1) (numbers_of bytes 0) i

  abbrev pub its_pairs : ℕ → List ℕ
  its_pairs i = received (n_of bytes) (numbers_of bytes 1) i

  -- Its report, which step 3 gives from both.
  abbrev pub its_report : ℕ → ℕ
  its_report i =
      report_of the_prime (n_of bytes) (one_to (n_of bytes)) i (row_of (t_of bytes) (its_deal i)) (column_of (t_of bytes) (its_deal i)) (its_pairs i)

  -- The happy set, and whether the dealer is accepted: by the reports alone.
  abbrev pub happy : ℕ
  happy = happy_set (numbers_of bytes 2)

  abbrev pub is_accepted_in : Bool
  is_accepted_in = is_accepted happy (n_of bytes) (t_of bytes)

  -- Refused where its own report is not in the record, and where the dealer is rejected; else a share, or no column fits.
  unfoldable pub lamp_says : ℕ → List ℕ
  lamp_says i =
      let own = line (letters " share ") (constant (column_of (t_of bytes) (its_deal i))) in
      let repaired = mended (repair the_prime (n_of bytes) (t_of bytes) (one_to (n_of bytes)) happy (firsts (n_of bytes) (its_pairs i))) in
      let settled = cond is_accepted_in (cond (member happy i) own repaired) (refuses DealerRejected) in
      cond (eqb (entry (numbers_of bytes 2) i) (its_report i)) settled (refuses AlteredReport)

  -- "lamp i ..", of lamps 1 to i.
  unfoldable pub lamps_say : ℕ → List ℕ
  lamps_say zero = []
  lamps_say (suc i) = lamps_say i ++ (field (letters "lamp ") (suc i) ++ lamp_says (suc i))

  -- The text of a record that is not refused.
  unfoldable pub direct : List ℕ
  direct =
      ((size_line (n_of bytes) (t_of bytes) ++ verdict_lines is_accepted_in happy (n_of bytes)) ++ lamps_say (n_of bytes))
      ++ last_line is_accepted_in (width_of bytes) (n_of bytes) (t_of bytes) (numbers_of bytes 3)
