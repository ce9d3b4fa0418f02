use Rattle.std.proofs.Common.{sym, ap, ◌∙◌, ◌*◌, map, add-one}
use Rattle.std.proofs.lemmas.List.{length-map}
use Rattle.lamp.specs.Lamp.{take_deal}
use Rattle.lamp.proofs.Calls.{asked-in, refused-by, admitted-by}
use Rattle.lamp.proofs.Lamp.take_deal_in.Goals as goal

pub returns-in-Err : goal.returns-in-Err
returns-in-Err g c =
    let d = c.args.deal.now in
    let value = g.N.Number.value in
    let asked = asked-in c.args.self.party c.WIDTH.ensures c.lent_in.ensures (sym (length-map d value)) (ap (λ m. 2 * m) (add-one c.args.self.party.t))
    c.is_at-takes.ensures in
    c.refuse.ensures ∙ refused-by c.args.self (take_deal g.N.Number.WIDTH (map value d)) asked c.in-Err.is

pub returns-in-Ok : goal.returns-in-Ok
returns-in-Ok g c =
    let d = c.args.deal.now in
    let value = g.N.Number.value in
    let asked = asked-in c.args.self.party c.WIDTH.ensures c.lent_in.ensures (sym (length-map d value)) (ap (λ m. 2 * m) (add-one c.args.self.party.t))
    c.is_at-takes.ensures in
    c.dealt.ensures ∙ admitted-by c.args.self (take_deal g.N.Number.WIDTH (map value d)) asked c.in-Ok.is
