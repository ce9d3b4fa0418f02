-- `locator::located` meets its contract, that of `fit::fit`.
use Rattle.std.proofs.Common.{Ok, sym, ap, ◌∙◌, rules}
use Rattle.field.specs.Modulus.{prime_of}
use Rattle.fit.proofs.Admitted.{answered, tests-pass, fit_refused, fit-admitted}
use Rattle.locator.proofs.located.Goals as goal

pub returns-in_err-admission : goal.returns-in_err-admission
returns-in_err-admission c =
    let a = c.args in
    let refused = fit_refused (prime_of a.w) a.t a.least a.xs.now a.ys.now _ (sym c.admission.ensures ∙ c.in_err-admission.was) in
    search rules

pub returns : goal.returns
returns c =
    let a = c.args in
    let admitted = (tests-pass a.t a.least a.xs.now a.ys.now).1 (sym c.admission.ensures ∙ c.in_ok-admission.was) in
    ap Ok c.admitted.ensures ∙ answered _ ∙ sym (fit-admitted _ _ _ _ _ admitted)
