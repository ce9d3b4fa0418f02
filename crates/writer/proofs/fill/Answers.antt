use Rattle.std.proofs.Common.{arith}
use Rattle.std.proofs.lemmas.List.{map-id}
use Rattle.record.proofs.Sections.{record-head}
use Rattle.writer.proofs.Buffer.{writable-lent, stage-head, stage-room, stage-next, stage-end}
use Rattle.writer.proofs.fill.Goals as goal

pub put_head-first-requires : goal.put_head-first-requires
put_head-first-requires g c =
    let f = writable-lent _ _ _ _ _ _ _ _ c.requires in
    (f.size, omega (arith, f.whole, record-head g.N.Number.WIDTH c.args.n c.args.t))

pub put-second-requires : goal.put-second-requires
put-second-requires g c =
    let l = c.args.lists.now in
    let v = g.N.Number.value in
    let f = writable-lent _ _ _ _ _ _ _ _ c.requires in
    let one = stage-head f.whole c.put_head-first.ensures.end (rw c.WIDTH.ensures at c.put_head-first.ensures.written) in
    stage-room f.whole one (omega arith) v l.deals.now f.first

pub put-third-requires : goal.put-third-requires
put-third-requires g c =
    let l = c.args.lists.now in
    let v = g.N.Number.value in
    let f = writable-lent _ _ _ _ _ _ _ _ c.requires in
    let one = stage-head f.whole c.put_head-first.ensures.end (rw c.WIDTH.ensures at c.put_head-first.ensures.written) in
    let two = stage-next f.whole one (omega arith) v l.deals.now f.first c.put-second.ensures.place c.put-second.ensures.written in
    stage-room f.whole two (omega arith) v l.pairs.now f.second

pub put-fourth-requires : goal.put-fourth-requires
put-fourth-requires g c =
    let l = c.args.lists.now in
    let v = g.N.Number.value in
    let f = writable-lent _ _ _ _ _ _ _ _ c.requires in
    let one = stage-head f.whole c.put_head-first.ensures.end (rw c.WIDTH.ensures at c.put_head-first.ensures.written) in
    let two = stage-next f.whole one (omega arith) v l.deals.now f.first c.put-second.ensures.place c.put-second.ensures.written in
    let three = stage-next f.whole two (omega arith) v l.pairs.now f.second c.put-third.ensures.place c.put-third.ensures.written in
    stage-room f.whole three (omega arith) (λ x. x) l.reports.now f.third

pub put-requires : goal.put-requires
put-requires g c =
    let l = c.args.lists.now in
    let v = g.N.Number.value in
    let f = writable-lent _ _ _ _ _ _ _ _ c.requires in
    let one = stage-head f.whole c.put_head-first.ensures.end (rw c.WIDTH.ensures at c.put_head-first.ensures.written) in
    let two = stage-next f.whole one (omega arith) v l.deals.now f.first c.put-second.ensures.place c.put-second.ensures.written in
    let three = stage-next f.whole two (omega arith) v l.pairs.now f.second c.put-third.ensures.place c.put-third.ensures.written in
    let put = c.put-fourth.ensures in
    let four = stage-next f.whole three (omega arith) (λ x. x) l.reports.now f.third put.place put.written in
    stage-room f.whole four (omega arith) v l.shares.now f.fourth

pub returns : goal.returns
returns g c =
    let l = c.args.lists.now in
    let v = g.N.Number.value in
    let f = writable-lent _ _ _ _ _ _ _ _ c.requires in
    let one = stage-head f.whole c.put_head-first.ensures.end (rw c.WIDTH.ensures at c.put_head-first.ensures.written) in
    let two = stage-next f.whole one (omega arith) v l.deals.now f.first c.put-second.ensures.place c.put-second.ensures.written in
    let three = stage-next f.whole two (omega arith) v l.pairs.now f.second c.put-third.ensures.place c.put-third.ensures.written in
    let put = c.put-fourth.ensures in
    let four = stage-next f.whole three (omega arith) (λ x. x) l.reports.now f.third put.place put.written in
    let five = stage-next f.whole four (omega arith) v l.shares.now f.fourth c.put.ensures.place c.put.ensures.written in
    let end = stage-end _ _ _ _ _ _ _ f five in
    record { end = end.0; written = rw (map-id l.reports.now) at end.1 }
