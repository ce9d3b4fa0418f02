use Rattle.std.proofs.Common.{sym, ap, ◌∙◌, ◌*◌, map, arith}
use Rattle.lamp.proofs.Checks.{valid-facts}
use Rattle.lamp.proofs.Pairs.{lent-zeros, apart-within, apart-lent, heard-parted}
use Rattle.lamp.proofs.reporting.heard.Goals as goal

pub slice_bounds-firsts-end : goal.slice_bounds-firsts-end
slice_bounds-firsts-end g c = let f = valid-facts c.args.lamp.party c.requires.0 in f.room

pub slice_bounds-every_second-end : goal.slice_bounds-every_second-end
slice_bounds-every_second-end g c = let f = valid-facts c.args.lamp.party c.requires.0 in sym (lent-zeros c.args.lamp.party.n f.room)

pub slice_bounds-seconds-end : goal.slice_bounds-seconds-end
slice_bounds-seconds-end g c = let f = valid-facts c.args.lamp.party c.requires.0 in f.room

pub slice_bounds-every_second-end-2 : goal.slice_bounds-every_second-end-2
slice_bounds-every_second-end-2 g c = let f = valid-facts c.args.lamp.party c.requires.0 in sym (lent-zeros c.args.lamp.party.n f.room)

pub every_second-requires : goal.every_second-requires
every_second-requires g c =
    let f = valid-facts c.args.lamp.party c.requires.0 in
    (c.requires.1 ∙ ap (λ m. 2 * m) (sym (lent-zeros c.args.lamp.party.n f.room)), omega arith)

pub every_second-requires-2 : goal.every_second-requires-2
every_second-requires-2 g c =
    let f = valid-facts c.args.lamp.party c.requires.0 in
    (c.requires.1 ∙ ap (λ m. 2 * m) (sym (lent-zeros c.args.lamp.party.n f.room)), omega arith)

pub slice_bounds-firsts-end-2 : goal.slice_bounds-firsts-end-2
slice_bounds-firsts-end-2 g c =
    let f = valid-facts c.args.lamp.party c.requires.0 in
    apart-within c.args.lamp.party.n 0 (map g.N.Number.value c.args.pairs.now) _ f.room c.every_second.ensures

pub slice_bounds-own_report-end : goal.slice_bounds-own_report-end
slice_bounds-own_report-end g c =
    let f = valid-facts c.args.lamp.party c.requires.0 in
    sym (apart-lent c.args.lamp.party.n 0 (map g.N.Number.value c.args.pairs.now) _ f.room c.every_second.ensures)

pub slice_bounds-seconds-end-2 : goal.slice_bounds-seconds-end-2
slice_bounds-seconds-end-2 g c =
    let f = valid-facts c.args.lamp.party c.requires.0 in
    apart-within c.args.lamp.party.n 1 (map g.N.Number.value c.args.pairs.now) _ f.room c.every_second-2.ensures

pub slice_bounds-own_report-end-2 : goal.slice_bounds-own_report-end-2
slice_bounds-own_report-end-2 g c =
    let f = valid-facts c.args.lamp.party c.requires.0 in
    sym (apart-lent c.args.lamp.party.n 1 (map g.N.Number.value c.args.pairs.now) _ f.room c.every_second-2.ensures)

pub own_report-bits-requires : goal.own_report-bits-requires
own_report-bits-requires g c =
    let n = c.args.lamp.party.n in
    let hs = map g.N.Number.value c.args.pairs.now in
    let f = valid-facts c.args.lamp.party c.requires.0 in
    (c.requires.0, apart-lent n 0 hs _ f.room c.every_second.ensures, apart-lent n 1 hs _ f.room c.every_second-2.ensures)

pub returns : goal.returns
returns g c =
    let f = valid-facts c.args.lamp.party c.requires.0 in
    heard-parted c.args.lamp (map g.N.Number.value c.args.pairs.now) _ _ f.room (c.every_second.ensures, c.every_second-2.ensures) _ _ c.reported.ensures c.own_report-bits.ensures
