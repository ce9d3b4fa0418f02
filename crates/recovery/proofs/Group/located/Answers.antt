-- `recovery::Group::located` meets its contract: nothing is refused.
use Rattle.std.proofs.Common.{sym, ◌∙◌, arith}
use Rattle.parties.proofs.Parties.{sizes-facts}
use Rattle.recovery.proofs.Fitting.{published-admitted}
use Rattle.recovery.proofs.Group.located.Goals as goal

pub fit-requires : goal.fit-requires
fit-requires c = let f = sizes-facts _ _ c.requires.0 in (f.3, f.1, omega arith, c.requires.1)

pub returns : goal.returns
returns c = c.fit.ensures ∙ sym (published-admitted _ _ _ _ _ c.requires.0 c.requires.1)
