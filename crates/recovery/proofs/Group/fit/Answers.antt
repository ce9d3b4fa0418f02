-- `recovery::Group::fit` meets its contract: the n points of the table are lent with the n values.
use Rattle.std.proofs.Common.{refl, ◌∙◌}
use Rattle.recovery.proofs.Fitting.{fit-lent}
use Rattle.recovery.proofs.Group.fit.Goals as goal

pub returns-in-Trial : goal.returns-in-Trial
returns-in-Trial c =
    let r = c.requires in
    c.fit.ensures ∙ fit-lent _ c.args.self.now.n _ c.args.least _ _ c.args.values.now r.0 r.1 r.2 r.3 c.args.self.now.points.size refl

pub returns-in-Locator : goal.returns-in-Locator
returns-in-Locator c =
    let r = c.requires in
    c.located.ensures ∙ fit-lent _ c.args.self.now.n _ c.args.least _ _ c.args.values.now r.0 r.1 r.2 r.3 c.args.self.now.points.size refl
