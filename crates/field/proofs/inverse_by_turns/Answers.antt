-- `field::inverse_by_turns` meets its contract: at the end a t is 1.
use Rattle.field.proofs.Inverse.{turn-start, turn_step, turn_below, turn_end}
use Rattle.field.proofs.Primes.{prime-of}
use Rattle.field.proofs.inverse_by_turns.Goals as goal

pub loop-d-init : goal.loop-d-init
loop-d-init c = turn-start _ (prime-of c.args.w) _ c.requires.0 c.requires.1

pub loop-d-preserved-then-below-above : goal.loop-d-preserved-then-below-above
loop-d-preserved-then-below-above c =
    rw (c.product-t.ensures.0, c.modulus-p.ensures) (turn_below _ (prime-of c.args.w) _ _ _ c.loop-d.invariant)

pub loop-d-preserved : goal.loop-d-preserved
loop-d-preserved c =
    rw (c.product-t-else-below-above.ensures.0, c.modulus-p.ensures)
    (turn_step _ (prime-of c.args.w) _ _ _ c.loop-d-test.true c.loop-d.invariant)

pub returns : goal.returns
returns c =
    let turn = c.loop-d.invariant in
    (turn_end _ (prime-of c.args.w) _ _ _ c.loop-d-test.false c.requires.0 c.requires.1 turn, turn.residue)
