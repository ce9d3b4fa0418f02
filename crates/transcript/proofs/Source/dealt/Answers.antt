use Rattle.std.proofs.Common.{ap, sym, ◌∙◌, arith, map, ◌+◌, ◌*◌, ◌-◌}
use lib.Seq.{length-take-le}
use Rattle.lamp.specs.declared.Reply.{Reply}
use Rattle.transcript.proofs.Runs.{fine-facts, part-own, deal-room, deal-taken}
use Rattle.transcript.proofs.Source.dealt.Goals as goal

pub slice_bounds-deal-end : goal.slice_bounds-deal-end
slice_bounds-deal-end g c = let f = fine-facts c.args.self.now.bytes.now c.args.self.now.head c.args.self.now.fine in omega arith

pub slice_bounds-deal-end-2 : goal.slice_bounds-deal-end-2
slice_bounds-deal-end-2 g c =
    let f = fine-facts c.args.self.now.bytes.now c.args.self.now.head c.args.self.now.fine in
    sym (length-take-le _ c.args.list.now (omega arith))

pub part-requires : goal.part-requires
part-requires g c =
    let a = c.args in
    deal-room a.self.now.bytes.now a.self.now.head c.args.self.now.fine g.N.Number.WIDTH c.requires.0 a.i a.list.now c.requires.3 c.requires.1 c.requires.2

pub returns : goal.returns
returns g c =
    let a = c.args in
    let f = fine-facts a.self.now.bytes.now a.self.now.head c.args.self.now.fine in
    let m = 2 * (a.self.now.head.t + 1) in
    ap (λ (r : Reply). r.lamp) c.take_deal_in.ensures
    ∙ deal-taken a.self.now.bytes.now a.self.now.head c.args.self.now.fine g.N.Number.WIDTH c.requires.0 a.i c.make_in-made.result
    (map g.N.Number.value c.part.new.list) c.make_in-made.ensures
    (part-own a.list.now c.requires.3 ((a.i - 1) * m) m _ _ (omega arith) c.part.ensures)
