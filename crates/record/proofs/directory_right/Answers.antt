use Rattle.std.proofs.Common.{ap, ◌∙◌, arith, length}
use Rattle.record.proofs.Answers.{directory-no, directory-by}
use Rattle.record.proofs.Sections.{directory-end, record-head, length-directory}
use Rattle.record.proofs.directory_right.Goals as goal

pub stand_at-requires : goal.stand_at-requires
stand_at-requires c =
    let a = c.args in
    let (whole, ends) = directory-end _ _ _ c.requires _ _ _ c.directory-numbers.ensures c.from.ensures c.from-2.ensures in
    omega (arith, ends, record-head a.w a.n a.t, ap length whole, length-directory a.w a.n a.t)

pub returns-then-bytes-end : goal.returns-then-bytes-end
returns-then-bytes-end c =
    let (whole, ends) = directory-end _ _ _ c.requires _ _ _ c.directory-numbers.ensures c.from.ensures c.from-2.ensures in
    c.stand_at.ensures ∙ directory-by _ _ _ _ _ whole (c.if-bytes-end.true ∙ ends)

pub returns-else-bytes-end : goal.returns-else-bytes-end
returns-else-bytes-end c =
    let (whole, ends) = directory-end _ _ _ c.requires _ _ _ c.directory-numbers.ensures c.from.ensures c.from-2.ensures in
    directory-no _ _ _ _ _ ends c.if-bytes-end.false
