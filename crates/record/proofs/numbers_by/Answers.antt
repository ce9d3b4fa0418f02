use Rattle.std.proofs.Common.{ℕ, ◌∙◌, arith}
use Rattle.std.proofs.lemmas.List.{length-take}
use Rattle.record.specs.Bytes.{numbers_by}
use Rattle.record.proofs.Bytes.{length-by, place-by}
use Rattle.record.proofs.Loops.{written-next, over-written}
use Rattle.record.proofs.numbers_by.Goals as goal

pub loop-k-preserved : goal.loop-k-preserved
loop-k-preserved g c =
    let w = g.N.Number.WIDTH in
    let part = c.args.part.now in
    let k : ℕ = c.loop-k.k in
    let all = length-by w part c.from-each.result (cc) in
    let reach = length-take c.min-count.result c.args.out.now in
    written-next g.N.Number.value (numbers_by w part) c.loop-k.place-items k c.at.result c.loop-k.invariant (omega arith)
    (omega arith)
    (c.at.ensures ∙ place-by w part c.from-each.result (cc) k (omega arith))

pub returns : goal.returns
returns g c =
    let w = g.N.Number.WIDTH in
    let part = c.args.part.now in
    let all = length-by w part c.from-each.result (cc) in
    let reach = length-take c.min-count.result c.args.out.now in
    over-written g.N.Number.value (numbers_by w part) c.args.out.now c.loop-k.place-items c.min-count.result c.loop-k.k (omega arith)
    (omega arith)
    (omega arith)
    c.loop-k.invariant
