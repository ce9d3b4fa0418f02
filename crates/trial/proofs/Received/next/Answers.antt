-- `Received::next` meets its contract: what the search finds with no point taken yet.
use Rattle.std.proofs.Common.{refl, ap, ◌∙◌}
use Rattle.trial.specs.Results.{result_of}
use Rattle.trial.proofs.Arrays.{found-tried}
use Rattle.trial.proofs.Received.next.Goals as goal

pub returns : goal.returns
returns c =
    let a = c.args in
    let s = a.self.now in
    c.straight.ensures ∙ ap result_of (rw c.none.ensures.0 refl ∙ found-tried _ s.need s.xs.now s.ys.now a.i a.k 0)
