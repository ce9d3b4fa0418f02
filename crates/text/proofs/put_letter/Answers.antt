use Rattle.std.proofs.Common.{arith}
use Rattle.text.proofs.Letters.{putting-none, letter-put}
use Rattle.text.proofs.put_letter.Goals as goal

pub returns-then-out-at : goal.returns-then-out-at
returns-then-out-at c = putting-none _ _ _ (omega arith)

pub returns : goal.returns
returns c = letter-put _ _ _ (omega arith)
