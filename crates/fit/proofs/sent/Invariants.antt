-- The loop counts the values sent before its place.
use Rattle.std.proofs.Common.{◌≡◌, ◌≤◌, take}
use Rattle.fit.specs.Fit.{sent}
use Rattle.fit.proofs.sent.Given as goal

abbrev pub invariant-loop-y : goal.invariant-loop-y
invariant-loop-y l = (l.n ≤ l.y-index) × (l.n ≡ sent l.p (take l.y-index l.ys))
