use Rattle.std.proofs.Common.{ap, sym, ◌∙◌, arith, map, ◌*◌, ◌-◌}
use lib.Seq.{length-take-le}
use Rattle.lamp.specs.declared.Reply.{Reply}
use Rattle.transcript.proofs.Runs.{fine-facts, part-own, pairs-room, pairs-heard}
use Rattle.transcript.proofs.Source.reported.Goals as goal

pub slice_bounds-pairs-end : goal.slice_bounds-pairs-end
slice_bounds-pairs-end g c = let f = fine-facts c.args.self.now.bytes.now c.args.self.now.head c.args.self.now.fine in omega (arith, c.dealt-lamp.auto.list)

pub slice_bounds-pairs-end-2 : goal.slice_bounds-pairs-end-2
slice_bounds-pairs-end-2 g c =
    let f = fine-facts c.args.self.now.bytes.now c.args.self.now.head c.args.self.now.fine in
    sym (length-take-le _ c.dealt-lamp.new.list (omega (arith, c.dealt-lamp.auto.list)))

pub part-requires : goal.part-requires
part-requires g c =
    let a = c.args in
    let lent = c.dealt-lamp.auto.list ∙ c.requires.3 in
    pairs-room a.self.now.bytes.now a.self.now.head c.args.self.now.fine g.N.Number.WIDTH c.requires.0 a.i c.dealt-lamp.new.list lent c.requires.1 c.requires.2

pub returns : goal.returns
returns g c =
    let a = c.args in
    let f = fine-facts a.self.now.bytes.now a.self.now.head c.args.self.now.fine in
    let m = 2 * a.self.now.head.n in
    ap (λ (r : Reply). r.lamp) c.hear_pairs_in.ensures
    ∙ pairs-heard a.self.now.bytes.now a.self.now.head c.args.self.now.fine g.N.Number.WIDTH c.requires.0 a.i c.dealt-lamp.result
    (map g.N.Number.value c.part.new.list) c.dealt-lamp.ensures
    (part-own c.dealt-lamp.new.list (c.dealt-lamp.auto.list ∙ c.requires.3) ((a.i - 1) * m) m _ _ (omega arith) c.part.ensures)
