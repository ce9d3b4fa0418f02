use Rattle.std.proofs.Common.{refl, sym, ◌∙◌, map}
use Rattle.std.proofs.lemmas.List.{length-map}
use Rattle.lamp.specs.Lamp.{hear_pairs}
use Rattle.lamp.proofs.Calls.{asked-in, refused-by, admitted-by}
use Rattle.lamp.proofs.Lamp.hear_pairs_in.Goals as goal

pub returns-in-Err : goal.returns-in-Err
returns-in-Err g c =
    let d = c.args.pairs.now in
    let value = g.N.Number.value in
    let asked = asked-in c.args.self.party c.WIDTH.ensures c.lent_in.ensures (sym (length-map d value)) refl c.is_at-takes.ensures in
    c.refuse.ensures ∙ refused-by c.args.self (hear_pairs g.N.Number.WIDTH (map value d)) asked c.in-Err.is

pub returns-in-Ok : goal.returns-in-Ok
returns-in-Ok g c =
    let d = c.args.pairs.now in
    let value = g.N.Number.value in
    let asked = asked-in c.args.self.party c.WIDTH.ensures c.lent_in.ensures (sym (length-map d value)) refl c.is_at-takes.ensures in
    c.heard.ensures ∙ admitted-by c.args.self (hear_pairs g.N.Number.WIDTH (map value d)) asked c.in-Ok.is
