-- `fit::fit` meets its contract: what the first points give with the need of all points fits with that of those sent; else these are
-- searched.
use Rattle.std.proofs.Common.{◌+◌, Ok, sym, ap, ◌∙◌, rules}
use Rattle.field.specs.Modulus.{prime_of}
use Rattle.field.proofs.Primes.{prime-of}
use Rattle.trial.specs.Trial.{tried}
use Rattle.trial.specs.Results.{result_of}
use Rattle.fit.proofs.Admitted.{answered, tests-pass, fit_refused, fit-admitted}
use Rattle.fit.proofs.First.{narrowed-first}
use Rattle.fit.proofs.fit.Goals as goal

pub returns-in_err-admission : goal.returns-in_err-admission
returns-in_err-admission c =
    let a = c.args in
    let refused = fit_refused (prime_of a.w) a.t a.least a.xs.now a.ys.now _ (sym c.admission.ensures ∙ c.in_err-admission.was) in
    search rules

pub returns-then-is_some : goal.returns-then-is_some
returns-then-is_some c =
    let a = c.args in
    let admitted = (tests-pass a.t a.least a.xs.now a.ys.now).1 (sym c.admission.ensures ∙ c.in_ok-admission.was) in
    let first = c.next-first.ensures
    ∙ ap (λ need. result_of (tried (prime_of a.w) need a.xs.now a.ys.now 0 (a.t + 1) 0)) c.needed-need.ensures in
    ap Ok (narrowed-first _ (prime-of a.w) _ _ _ _ admitted.bounded.lengths c.requires admitted.enough _ first (cc))
    ∙ answered _ ∙ sym (fit-admitted _ _ _ _ _ admitted)

pub returns : goal.returns
returns c =
    let a = c.args in
    let admitted = (tests-pass a.t a.least a.xs.now a.ys.now).1 (sym c.admission.ensures ∙ c.in_ok-admission.was) in
    ap Ok c.among_sent.ensures ∙ answered _ ∙ sym (fit-admitted _ _ _ _ _ admitted)
