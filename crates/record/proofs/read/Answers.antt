use Rattle.std.proofs.Common.{◌∙◌}
use Rattle.record.proofs.Narrow.{read-as-narrow, read-as-wide}
use Rattle.record.proofs.read.Goals as goal

pub returns-then-first-lt128 : goal.returns-then-first-lt128
returns-then-first-lt128 c = c.read_as.ensures ∙ read-as-narrow c.args.bytes.now c.if-first-lt128.true

pub returns : goal.returns
returns c = c.read_as-2.ensures ∙ read-as-wide c.args.bytes.now c.if-first-lt128.false
