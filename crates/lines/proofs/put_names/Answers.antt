use Rattle.std.proofs.Common.{◌≡◌, ap, ◌∙◌, arith}
use Rattle.text.specs.Letters.{puts}
use Rattle.text.proofs.Letters.{puts_none, puts_then}
use Rattle.lines.specs.Lines.{names}
use Rattle.lines.proofs.Lines.{names_more}
use Rattle.lines.proofs.put_names.Goals as goal

pub loop-k-init : goal.loop-k-init
unfolding names
loop-k-init c = puts_none _ _

pub loop-k-preserved : goal.loop-k-preserved
loop-k-preserved c =
    let a = c.args in
    puts_then _ _ _ _ _ _ _ _ c.loop-k.invariant c.put_name-next.ensures ∙ ap (puts a.out.now a.at) (names_more a.set c.loop-k.k)

pub returns : goal.returns
returns c =
    let e : c.loop-k.k ≡ c.args.n = omega arith in
    rw (← e) c.loop-k.invariant
