-- `recovery::Group::opening` meets its contract: what has passed the tests is lent to the fit, with the party's own share in its own place.
use Rattle.std.proofs.Common.{refl, arith}
use Rattle.std.proofs.Math.Seq.{length-take-le}
use borrow.Author.Tests.{eqb-true}
use Rattle.parties.proofs.Parties.{sizes-facts, party-facts}
use Rattle.recovery.proofs.Fitting.{passed}
use Rattle.recovery.proofs.Group.opening.Goals as goal

pub with_own-values-requires : goal.with_own-values-requires
with_own-values-requires c =
    let f = sizes-facts _ _ (passed _ c.sizes.ensures c.refuse_unless.ensures c.in_ok-refuse_unless.was) in
    let i = party-facts _ _ (passed _ c.is_party.ensures c.refuse_unless-2.ensures c.in_ok-refuse_unless-2.was) in
    let all = eqb-true _ _ (passed _ refl c.refuse_unless-3.ensures c.in_ok-refuse_unless-3.was) in
    (i.0, omega (arith, i.1), omega (arith, f.3))

pub fit-requires : goal.fit-requires
fit-requires c =
    let f = sizes-facts _ _ (passed _ c.sizes.ensures c.refuse_unless.ensures c.in_ok-refuse_unless.was) in
    (f.3, f.1, omega arith, length-take-le _ c.with_own-values.result (omega (arith, f.3)))
