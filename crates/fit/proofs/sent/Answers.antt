-- `fit::sent` meets its contract.
use Rattle.std.proofs.Common.{refl, arith, rules}
use Rattle.fit.specs.Fit.{sent}
use Rattle.fit.proofs.Counting.{sent-next}
use Rattle.fit.proofs.sent.Goals as goal

pub loop-y-init : goal.loop-y-init
unfolding sent
loop-y-init c = (omega arith, refl)

pub loop-y-preserved : goal.loop-y-preserved
loop-y-preserved c =
    let k = c.loop-y in
    (search rules, sent-next _ _ k.y-index k.n (omega arith) k.invariant.1 _ (search rules))
