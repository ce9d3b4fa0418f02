use Rattle.std.proofs.Common.{ap, ◌∙◌, not}
use Rattle.tables.proofs.Tables.{absent-any}
use Rattle.tables.proofs.absent.Goals as goal

pub returns : goal.returns
returns c = ap not c.contains.ensures.value ∙ absent-any c.args.x c.args.list.now
