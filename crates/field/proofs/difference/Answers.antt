-- `field::difference` meets its contract: what is borrowed is the prime.
use Rattle.field.proofs.Residues.{less, more}
use Rattle.field.proofs.difference.Goals as goal
use Rattle.std.proofs.Common.{arith}

pub returns-then-b-a : goal.returns-then-b-a
returns-then-b-a c = less _ _ _ (omega arith) (omega arith) c.if-b-a.true

pub returns : goal.returns
returns c = more _ _ _ (omega arith) (omega arith) _ c.modulus.ensures c.if-b-a.false
