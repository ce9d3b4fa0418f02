-- `fit::among_sent` meets its contract: at most one polynomial fits with the need of those sent, by the first points or later.
use Rattle.std.proofs.Common.{ap, ◌∙◌}
use Rattle.field.specs.Modulus.{prime_of}
use Rattle.trial.specs.Results.{result_of}
use Rattle.fit.specs.Fit.{sent, fit}
use Rattle.fit.specs.Opening.{needed}
use Rattle.fit.proofs.First.{fit-first}
use Rattle.fit.proofs.among_sent.Goals as goal

pub returns-then-is_some : goal.returns-then-is_some
returns-then-is_some c =
    let a = c.args in
    let s = a.all.now in
    fit-first _ _ _ _ _ _ c.again-first.ensures (cc)
    ∙ ap (λ need. result_of (fit (prime_of s.w) a.t need s.xs.now s.ys.now))
    (c.needed-need.ensures ∙ ap (needed a.t a.least) (c.sent-s.ensures ∙ ap (λ q. sent q s.ys.now) c.modulus.ensures))
