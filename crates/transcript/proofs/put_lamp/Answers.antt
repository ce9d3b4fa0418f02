use Rattle.std.proofs.Common.{arith}
use Rattle.answers.specs.Refusals.{number_of}
use Rattle.text.proofs.Letters.{puts-within}
use Rattle.lines.specs.Lines.{lamp_words}
use Rattle.lines.proofs.Lines.{lamp-short}
use Rattle.transcript.specs.Outcomes.{outcome, reply_line}
use Rattle.transcript.proofs.Outcomes.{answer-small}
use Rattle.transcript.proofs.put_lamp.Goals as goal

pub returns : goal.returns
unfolding reply_line
returns c =
    let a = c.args in
    let share = outcome (number_of a.reply.answer) a.reply.lamp.sharing.share in
    let short = lamp-short a.i share (omega arith) (answer-small a.reply.answer a.reply.lamp.sharing.share) in
    let put = puts-within (lamp_words a.i share) _ _ _ _ 25 (rw (← c.share_of.ensures) c.put_lamp.ensures) short (omega arith) in
    record { added = put.0; short = put.1 }
