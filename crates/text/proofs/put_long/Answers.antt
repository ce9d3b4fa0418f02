use Rattle.std.proofs.Common.{ap, ◌∙◌, arith}
use Rattle.text.specs.Letters.{putting}
use Rattle.text.proofs.Spelling.{decimal-long}
use Rattle.text.proofs.put_long.Goals as goal

pub returns : goal.returns
returns c =
    let a = c.args in
    let zeros = c.zeros-from.ensures in
    c.put.ensures
    ∙ ap (putting a.out.now a.at) (decimal-long _ _ a.x c.ten_digits-all.ensures zeros.value zeros.some c.requires (omega arith))
