use Rattle.std.proofs.Common.{◌∙◌}
use Rattle.record.proofs.Bytes.{place-by, none-by}
use Rattle.record.proofs.number_by.Goals as goal

pub returns-then-part-each : goal.returns-then-part-each
returns-then-part-each g c =
    c.narrow.ensures ∙ none-by g.N.Number.WIDTH c.args.part.now c.from-each.result (cc) c.args.k c.if-part-each.true

pub returns : goal.returns
returns g c = c.at.ensures ∙ place-by g.N.Number.WIDTH c.args.part.now c.from-each.result (cc) c.args.k c.if-part-each.false
