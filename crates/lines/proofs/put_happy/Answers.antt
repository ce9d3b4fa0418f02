-- Three pieces one behind the other.
use Rattle.text.proofs.Letters.{puts_one, puts_then}
use Rattle.lines.proofs.put_happy.Goals as goal

pub returns : goal.returns
returns c =
    let front = puts_then _ _ _ _ _ _ _ _ (puts_one _ _ _ _ _ c.put-word.ensures) c.put_names-listed.ensures in
    puts_then _ _ _ _ _ _ _ _ front (puts_one _ _ _ _ _ c.put.ensures)
