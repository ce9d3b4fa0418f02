use Rattle.std.proofs.Common.{sym, ap, ◌∙◌, ◌+◌, ◌*◌}
use Rattle.std.proofs.lemmas.List.{get_or-map}
use native.Mathlib.Omega.{arith}
use Rattle.lamp.proofs.Pairs.{written-start, written-next, written-end}
use Rattle.lamp.proofs.reporting.every_second.Goals as goal

pub loop-k-init : goal.loop-k-init
loop-k-init g c = written-start _ c.args.out.now

pub loop-k-preserved : goal.loop-k-preserved
loop-k-preserved g c =
    let a = c.args in
    let k = c.loop-k in
    let value = g.N.Number.value in
    written-next _ a.out.now k.out k.k c.wide.result k.invariant (omega arith)
    (c.wide.ensures ∙ ap value c.index-pairs-from.is
    ∙ sym (get_or-map value a.pairs.now (a.from + 2 * k.k) _ 0 (omega (arith, c.requires.0, c.requires.1))))

pub returns : goal.returns
returns g c = let k = c.loop-k in written-end _ c.args.out.now k.out k.k k.invariant (omega arith) (omega arith)
