-- `fit::by_pairs` meets its contract: each answer is one law of proofs/FivePairs.
use Rattle.std.proofs.Common.{arith}
use Rattle.field.proofs.Primes.{prime-of}
use Rattle.fit.proofs.FivePairs.{apart, four-residues, pairs-found, trying-next, trying-end}
use Rattle.fit.proofs.pairs.by_pairs.Goals as goal

pub test_pairs-tested-requires-clause-residues : goal.test_pairs-tested-requires-clause-residues
test_pairs-tested-requires-clause-residues c =
    let s = c.args in
    let k = c.loop-a in
    let far = apart k.a-index (omega arith) in
    four-residues _ (prime-of s.received.now.w) _ _ _ _ _ s.sent c.requires.0 c.requires.1 (omega arith) (omega arith) k.invariant.ten _ _
    far.0 far.1

pub returns-then-is_some : goal.returns-then-is_some
returns-then-is_some c =
    let s = c.args in
    let k = c.loop-a in
    let far = apart k.a-index (omega arith) in
    pairs-found _ (prime-of s.received.now.w) _ _ _ _ _ s.sent c.requires.0 c.requires.1 (omega arith) (omega arith) k.invariant.ten _ _
    far.0 far.1 _ c.test_pairs-tested.ensures (cc)

pub loop-a-preserved : goal.loop-a-preserved
loop-a-preserved c =
    let s = c.args in
    let k = c.loop-a in
    trying-next _ (prime-of s.received.now.w) _ _ _ _ _ s.sent c.requires.0 c.requires.1 (omega arith) (omega arith) k.a-index k.invariant
    (omega arith) _ c.test_pairs-tested.ensures (cc)

pub returns : goal.returns
returns c =
    let s = c.args in
    let k = c.loop-a in
    trying-end _ (prime-of s.received.now.w) _ _ _ _ _ s.sent c.requires.0 c.requires.1 (omega arith) (omega arith) k.a-index k.invariant
    (omega arith)
