use Rattle.text.proofs.Letters.{puts_one, puts_then}
use Rattle.lines.proofs.put_opened.Goals as goal

pub returns : goal.returns
returns c = puts_then _ _ _ _ _ _ _ _ (puts_one _ _ _ _ _ c.put-next.ensures) c.put_outcome.ensures
