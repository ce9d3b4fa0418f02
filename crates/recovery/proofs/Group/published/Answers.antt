-- `recovery::Group::published` meets its contract: what has passed the tests is lent to the fit.
use Rattle.std.proofs.Common.{refl, arith}
use borrow.Author.Tests.{eqb-true}
use Rattle.parties.proofs.Parties.{sizes-facts}
use Rattle.recovery.proofs.Fitting.{passed}
use Rattle.recovery.proofs.Group.published.Goals as goal

pub fit-requires : goal.fit-requires
fit-requires c =
    let f = sizes-facts _ _ (passed _ c.sizes.ensures c.refuse_unless.ensures c.in_ok-refuse_unless.was) in
    let all = eqb-true _ _ (passed _ refl c.refuse_unless-2.ensures c.in_ok-refuse_unless-2.was) in
    (f.3, f.1, omega arith, all)
