-- `fit::again` meets its contract: where all were sent the first points have failed, and with fewer sent than must agree they fail too.
use Rattle.std.proofs.Common.{sym, ap, arith}
use Rattle.field.proofs.Primes.{prime-of}
use Rattle.trial.specs.Results.{result_of}
use Rattle.fit.proofs.First.{first-too-few}
use Rattle.fit.proofs.again.Goals.{then-s-received-via-then-s-received, then-s-received-via-else-s-received+then-s-received-2}
use Rattle.fit.proofs.again.Goals as goal

pub returns-then-s-received : goal.returns-then-s-received
returns-then-s-received c =
    let s = c.args.received.now in
    elim c.then-s-received.branch [
      | then-s-received-via-then-s-received w ↦ ap result_of (sym (c.requires.failed w.if-s-received.true))
      | then-s-received-via-else-s-received+then-s-received-2 w ↦
          ap result_of (sym (first-too-few _ (prime-of s.w) _ s.xs.now _ _ (omega (arith, c.requires.few.2, w.if-s-received-2.true))))
    ]
