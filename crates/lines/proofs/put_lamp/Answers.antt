use Rattle.text.proofs.Letters.{puts_then}
use Rattle.lines.proofs.put_lamp.Goals as goal

pub returns : goal.returns
returns c = puts_then _ _ _ _ _ _ _ _ c.put_field-next.ensures c.put_outcome.ensures
