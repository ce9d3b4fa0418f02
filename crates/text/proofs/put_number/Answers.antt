use Rattle.std.proofs.Common.{ap, ◌∙◌}
use Rattle.text.specs.Letters.{putting}
use Rattle.text.proofs.Spelling.{decimal-one, decimal-part}
use Rattle.text.proofs.put_number.Goals as goal

pub returns-then-x-lt10 : goal.returns-then-x-lt10
returns-then-x-lt10 c =
    let a = c.args in
    c.put_letter.ensures ∙ ap (putting a.out.now a.at) (decimal-one a.x c.if-x-lt10.true)

pub returns : goal.returns
returns c =
    let a = c.args in
    c.put.ensures
    ∙ ap (putting a.out.now a.at) (decimal-part _ _ a.x c.digits-five.ensures c.zeros-from.ensures.value c.if-x-ge100000.false)
