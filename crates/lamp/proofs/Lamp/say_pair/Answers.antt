use Rattle.std.proofs.Common.{◌∙◌}
use Rattle.lamp.specs.Lamp.{say_pair}
use Rattle.lamp.proofs.Calls.{asked-pair, refused-by, admitted-by}
use Rattle.lamp.proofs.Lamp.say_pair.Goals as goal

pub returns-in-Err : goal.returns-in-Err
returns-in-Err c =
    let l = c.args.self in
    c.refuse.ensures
    ∙ refused-by l (say_pair c.args.j) (asked-pair l c.args.j c.saying.ensures c.is_party-named.ensures c.is_at-takes.ensures) c.in-Err.is

pub returns-in-Ok : goal.returns-in-Ok
returns-in-Ok c =
    let l = c.args.self in
    c.said.ensures
    ∙ admitted-by l (say_pair c.args.j) (asked-pair l c.args.j c.saying.ensures c.is_party-named.ensures c.is_at-takes.ensures) c.in-Ok.is
