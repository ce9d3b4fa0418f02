use native.Mathlib.Omega.{arith}
use Rattle.key_equation.proofs.Loops.{raising-end}
use Rattle.key_equation.proofs.raise.Goals as goal

pub returns : goal.returns
returns c = let k = c.loop-place in raising-end _ _ c.args.f.now _ _ k.place-index (omega (arith, c.requires)) k.invariant (omega arith)
