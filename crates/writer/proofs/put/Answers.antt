use Rattle.std.proofs.Common.{ℕ, ◌∙◌, ◌*◌, ◌-◌, sym, ap, arith, map, take, drop}
use Rattle.std.proofs.lemmas.List.{length-map, get_or-map}
use Rattle.record.specs.Bytes.{number_bytes}
use Rattle.writer.proofs.Loops.{put-start, put-next, one-put}
use Rattle.writer.proofs.put.Goals as goal

pub loop-x-init : goal.loop-x-init
loop-x-init g c = put-start g.N.Number.WIDTH (map g.N.Number.value c.args.list.now) c.args.at c.args.out.now (omega arith)

pub loop-x-preserved : goal.loop-x-preserved
loop-x-preserved g c =
    let w = g.N.Number.WIDTH in
    let list = c.args.list.now in
    let long = length-map list g.N.Number.value in
    let each : ℕ = c.from-each.result in
    put-next w (map g.N.Number.value list) c.args.at c.args.out.now c.loop-x.out c.loop-x.x-index c.loop-x.place each
    c.loop-x.invariant (cc) c.wide.result _ (omega arith)
    (omega (arith, ap (λ z. number_bytes w * z) long))
    (c.wide.ensures ∙ ap g.N.Number.value c.x-item.is ∙ sym (get_or-map g.N.Number.value list c.loop-x.x-index _ 0 c.loop-x-test.true))
    (c.copy_from_slice.ensures.after ∙ ap (λ z. take (4 - (4 - each)) (drop (4 - each) z)) c.to_be_bytes.ensures
    ∙ one-put w each c.wide.result (cc))
