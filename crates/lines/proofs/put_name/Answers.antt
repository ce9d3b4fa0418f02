-- The lamp is in the set or not.
use Rattle.std.proofs.Common.{ap, ◌∙◌, arith}
use Rattle.text.specs.Letters.{puts}
use Rattle.text.proofs.Letters.{puts_none}
use Rattle.lines.proofs.Lines.{name_in, name_out, name-behind}
use Rattle.lines.proofs.put_name.Goals as goal

pub returns-then-k-ge16 : goal.returns-then-k-ge16
returns-then-k-ge16 c =
    let a = c.args in
    puts_none a.out.now a.at ∙ ap (puts a.out.now a.at) (name-behind a.set a.k (omega arith) c.if-k-ge16.true)

pub returns-then-set-k-eq1 : goal.returns-then-set-k-eq1
returns-then-set-k-eq1 c =
    let a = c.args in
    c.put_field.ensures ∙ ap (puts a.out.now a.at) (name_in a.set a.k c.if-set-k-eq1.true)

pub returns : goal.returns
returns c =
    let a = c.args in
    puts_none a.out.now a.at ∙ ap (puts a.out.now a.at) (name_out a.set a.k c.if-set-k-eq1.false)
