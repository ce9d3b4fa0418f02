-- The dealer is accepted or rejected.
use Rattle.text.proofs.Letters.{puts_one, puts_then}
use Rattle.lines.specs.Lines.{verdict_words}
use Rattle.lines.proofs.put_verdict.Goals as goal

pub returns-then-not-accepted : goal.returns-then-not-accepted
unfolding verdict_words
returns-then-not-accepted c = rw c.if-not-accepted.true (puts_one _ _ _ _ _ c.put.ensures)

pub returns : goal.returns
unfolding verdict_words
returns c =
    rw c.if-not-accepted.false (puts_then _ _ _ _ _ _ _ _ (puts_one _ _ _ _ _ c.put-verdict.ensures) c.put_happy.ensures)
