use Rattle.std.proofs.Common.{sym}
use Rattle.record.proofs.Answers.{section-above, section-part}
use Rattle.record.proofs.section.Goals as goal

pub returns-then-k-gt3 : goal.returns-then-k-gt3
returns-then-k-gt3 c = sym (section-above _ _ c.if-k-gt3.true)

pub returns : goal.returns
returns c =
    section-part _ _ c.if-k-gt3.false _ _ _ _ c.min-from.ensures c.min-end.ensures c.head_number-offset.ensures.0
    c.head_number-count.ensures.0
