-- `Received::test` meets its contract.
use Rattle.trial.proofs.Arrays.{test-given}
use Rattle.trial.proofs.Received.test.Goals as goal

pub returns : goal.returns
returns c = test-given _ _ _ _ _ _ _ c.through-f.ensures.0 _ c.enough.ensures
