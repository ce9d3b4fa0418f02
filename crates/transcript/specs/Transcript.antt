-- What is printed of a record (docs/PROTOCOL.md, "The text of a record"), to the byte.
--   run bytes w n t i       what lamp i answers to settling, run on the record, of the width w, as an honest one
--   lamp_lines bytes w n t i   the lines of lamps 1 to i
--   text_of bytes w n t, text bytes   the text of a record that is not refused, and of any bytes
--   rendering bytes out     the buffer afterwards, and the answer
--   bytes_written answer    how many bytes an answer says are written
-- Laws: proofs/Texts, proofs/Runs.
use Rattle.std.specs.Prelude.{cond, List, [], ◌∷◌, ◌++◌, ℕ, zero, suc, ◌+◌, ◌*◌, ◌-◌, leb, length, take, drop}
use Rattle.field.specs.declared.Width.{Width}
use Rattle.happy.specs.Happy.{happy_set}
use Rattle.dealer.specs.Desk.{stretch}
use Rattle.answers.specs.declared.Refusal.TheVariants.{WrongLength}
use Rattle.answers.specs.Refusals.{refusal_number}
use Rattle.lamp.specs.declared.Reply.{Reply}
use Rattle.lamp.specs.Lamp.{made, Call, take_deal, hear_pairs, settle, step, after}
use Rattle.record.specs.Record.{reading, numbers_of, Reading}
use Rattle.lines.specs.Lines.{size_line, verdict_lines, refused_line}
use Rattle.transcript.specs.Outcomes.{is_accepted, reply_line, last_line}
use Rattle.std.specs.Prelude.{Ok, Err}
use Rattle.answers.specs.Answers.{Writing}

-- ---- the lamps

-- The n pairs of receiver i, of those of all receivers.
abbrev pub received : ℕ → List ℕ → ℕ → List ℕ
received n pairs i = take (2 * n) (drop ((i - 1) * (2 * n)) pairs)

-- Lamp i takes its own part of the deals.
abbrev pub deal_call : List ℕ → Width → ℕ → ℕ → Call
deal_call bytes w t i = take_deal w (stretch (t + 1) (numbers_of bytes 0) i)

-- Then it hears its own part of round two, which stands by receiver, then sender: n pairs.
abbrev pub pairs_call : List ℕ → Width → ℕ → ℕ → Call
pairs_call bytes w n i = hear_pairs w (received n (numbers_of bytes 1) i)

-- And it settles on the reports: this is what it answers.
unfoldable pub run : List ℕ → Width → ℕ → ℕ → ℕ → Reply
run bytes w n t i = step (after (made w n t i) (deal_call bytes w t i ∷ pairs_call bytes w n i ∷ [])) (settle (numbers_of bytes 2))

-- The lines of lamps 1 to i.
unfoldable pub lamp_lines : List ℕ → Width → ℕ → ℕ → ℕ → List ℕ
lamp_lines bytes w n t zero = []
lamp_lines bytes w n t (suc i) = lamp_lines bytes w n t i ++ reply_line (suc i) (run bytes w n t (suc i))

-- ---- the text

-- The text of a record that is not refused: verdict and happy set by the reports alone, the opening by the published list alone.
unfoldable pub text_of : List ℕ → Width → ℕ → ℕ → List ℕ
text_of bytes w n t =
    let set = happy_set (numbers_of bytes 2) in
    let accepted = is_accepted set n t in
    ((size_line n t ++ verdict_lines accepted set n) ++ lamp_lines bytes w n t n) ++ last_line accepted w n t (numbers_of bytes 3)

-- By the reader's answer: a refused record gives one line alone.
unfoldable pub text_by : Reading → List ℕ → List ℕ
text_by (Ok head) bytes = text_of bytes head.width head.n head.t
text_by (Err why) bytes = refused_line (refusal_number why)

-- The whole text.
unfoldable pub text : List ℕ → List ℕ
text bytes = text_by (reading bytes) bytes

-- The text over the front of the buffer, and its length. No text has more than 512 bytes: a buffer of less is refused and left alone.
unfoldable pub rendering : List ℕ → List ℕ → List ℕ × Writing
rendering bytes out =
    cond (leb 512 (length out))
    (text bytes ++ drop (length (text bytes)) out, Ok (length (text bytes)))
    (out, Err WrongLength)

-- How many bytes are written; none by a refusal.
abbrev pub bytes_written : Writing → ℕ
bytes_written (Ok count) = count
bytes_written (Err why) = 0
