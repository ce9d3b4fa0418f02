-- `locator::admitted` meets its contract: too few were sent, or what fits is located.
use Rattle.std.proofs.Common.{sym, ap, arith, ◌∙◌}
use Rattle.field.specs.Modulus.{prime_of}
use Rattle.field.proofs.Primes.{prime-of}
use Rattle.trial.specs.Results.{result_of}
use Rattle.fit.specs.Fit.{sent}
use Rattle.fit.specs.Opening.{needed}
use Rattle.fit.proofs.Decoding.{fit-too-few}
use Rattle.locator.proofs.admitted.Goals as goal

pub returns-then-s-need : goal.returns-then-s-need
returns-then-s-need c =
    let s = c.args in
    let counted = c.sent-s.ensures ∙ ap (λ q. sent q s.ys.now) c.modulus.ensures in
    let must = c.needed-need.ensures ∙ ap (needed s.t s.least) counted in
    ap result_of (sym (fit-too-few (prime_of s.w) (prime-of s.w) s.t _ s.xs.now s.ys.now (omega (arith, counted, must, c.if-s-need.true))))
