use Rattle.std.proofs.Common.{ap, ◌∙◌}
use Rattle.lamp.specs.Lamp.{waiting, made_by, make}
use Rattle.lamp.proofs.Calls.{made_plain}
use Rattle.lamp.proofs.Lamp.make_in.Goals as goal

pub returns : goal.returns
returns g c =
    let a = c.args in
    c.made_by.ensures
    ∙ ap (made_by (waiting c.WIDTH.result a.n a.t a.number c.one_to.result)) c.legal.ensures
    ∙ made_plain c.WIDTH.result a.n a.t a.number _ c.one_to.ensures
    ∙ ap (λ w. make w a.n a.t a.number) c.WIDTH.ensures
