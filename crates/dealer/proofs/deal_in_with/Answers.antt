use Rattle.std.proofs.Common.{sym, ap, ◌∙◌, length, map}
use Rattle.std.proofs.lemmas.Result.{err_from_is_err_and}
use native.Mathlib.Omega.{arith}
use Rattle.std.proofs.lemmas.List.{length-map}
use Rattle.answers.specs.Refusals.{lowest}
use Rattle.field.specs.Modulus.{prime_of}
use Rattle.dealer.specs.Desk.{length_tests, desk_with}
use Rattle.dealer.proofs.Desk.{lengths-fit, desk-by-lengths}
use Rattle.dealer.proofs.Writing.{lengths-with}
use Rattle.dealer.proofs.deal_in_with.Goals as goal

pub returns-in_err-length_admission : goal.returns-in_err-length_admission
returns-in_err-length_admission g c =
    let a = c.args in
    let exit = err_from_is_err_and c.from_residual.result c.from_residual.ensures.1 in
    rw (exit.1, exit.2)
    (desk-by-lengths _ a.n a.t _ _ _ _ (lengths-with g.N.Number.value a.n a.t a.list.now a.out.now a.table.now
    (sym c.length_admission.ensures ∙ c.in_err-length_admission.was)))

pub lent-requires : goal.lent-requires
lent-requires g c =
    let fit = lengths-fit _ _ _ _ _ (sym c.length_admission.ensures ∙ c.in_ok-length_admission.was) in
    omega arith

pub dealt-requires : goal.dealt-requires
dealt-requires g c =
    let a = c.args in
    ap (λ m. lowest (length_tests a.n a.t (length a.list.now) (length a.out.now) m))
    (ap length c.lent.ensures ∙ length-map a.table.now g.N.Number.value)
    ∙ sym c.length_admission.ensures ∙ c.in_ok-length_admission.was

pub returns : goal.returns
returns g c =
    let a = c.args in
    c.dealt.ensures
    ∙ ap (λ T. desk_with (prime_of g.N.Number.WIDTH) a.n a.t T (map g.N.Number.value a.list.now) (map g.N.Number.value a.out.now))
    c.lent.ensures
