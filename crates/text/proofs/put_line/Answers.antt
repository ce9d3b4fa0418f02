use Rattle.text.proofs.Letters.{puts_one, puts_then}
use Rattle.text.proofs.put_line.Goals as goal

pub returns : goal.returns
returns c = puts_then _ _ _ _ _ _ _ _ c.put_field-next.ensures (puts_one _ _ _ _ _ c.put_letter.ensures)
