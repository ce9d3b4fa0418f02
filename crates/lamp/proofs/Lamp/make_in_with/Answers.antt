use Rattle.std.proofs.Common.{ap, sym, ◌∙◌, map}
use Rattle.std.proofs.lemmas.List.{length-map}
use lib.Dec.{eqb}
use Rattle.answers.specs.Refusals.{lowest}
use Rattle.lamp.specs.Lamp.{waiting, made_by, kept_tests, make_with}
use Rattle.lamp.proofs.Calls.{made_kept}
use Rattle.lamp.proofs.Lamp.make_in_with.Goals as goal

pub returns : goal.returns
returns g c =
    let a = c.args in
    let value = g.N.Number.value in
    let l = waiting c.WIDTH.result a.n a.t a.number c.in_array.result in
    c.made_by.ensures
    ∙ ap (made_by l) c.making.ensures
    ∙ ap (λ m. made_by l (lowest (kept_tests l.party (eqb m a.n)))) (sym (length-map a.table.now value))
    ∙ made_kept c.WIDTH.result a.n a.t a.number (map value a.table.now) _ c.in_array.ensures
    ∙ ap (λ w. make_with w a.n a.t a.number (map value a.table.now)) c.WIDTH.ensures
