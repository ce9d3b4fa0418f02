-- `locator::less_times` meets its contract.
use Rattle.std.proofs.Common.{arith}
use Rattle.lists.proofs.InPlace.{zip-next, zip_end}
use Rattle.polynomial.proofs.Below.{set-residues}
use Rattle.locator.proofs.less_times.Goals as goal

pub loop-i-preserved : goal.loop-i-preserved
loop-i-preserved c =
    let k = c.loop-i in
    let e = c.mul_sub.ensures in
    (zip-next _ _ _ k.r k.i _ 0 0 k.invariant.0 (omega arith) e.0, set-residues _ k.r k.i _ e.1 k.invariant.1)

pub returns : goal.returns
returns c = let k = c.loop-i in (zip_end _ _ _ k.r k.i k.invariant.0 (omega arith), k.invariant.1)
