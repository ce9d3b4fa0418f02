use Rattle.std.proofs.Common.{sym, ap, ◌∙◌, length, map}
use Rattle.std.proofs.lemmas.Result.{err_from_is_err_and}
use Rattle.field.specs.Modulus.{prime_of}
use Rattle.tables.proofs.Tables.{length-one-to}
use Rattle.dealer.specs.Desk.{desk_with}
use Rattle.dealer.proofs.Desk.{plain-fits, plain-lengths, plain-points, few-of-sixteen, desk-by-sizes}
use Rattle.dealer.proofs.Writing.{lengths-plain}
use Rattle.dealer.proofs.deal_in.Goals as goal

pub returns-in_err-size_admission : goal.returns-in_err-size_admission
returns-in_err-size_admission g c =
    let a = c.args in
    let exit = err_from_is_err_and c.from_residual.result c.from_residual.ensures.1 in
    rw (exit.1, exit.2)
    (desk-by-sizes _ a.n a.t _ _ _ _ (lengths-plain g.N.Number.value a.n a.t a.list.now a.out.now
    (sym c.size_admission.ensures ∙ c.in_err-size_admission.was)))

pub slice_bounds-points-end : goal.slice_bounds-points-end
slice_bounds-points-end g c =
    let few = plain-fits _ _ _ _ (sym c.size_admission.ensures ∙ c.in_ok-size_admission.was) in
    few-of-sixteen c.args.n _ few c.sixteen-points.ensures

pub slice_bounds-dealt-end : goal.slice_bounds-dealt-end
slice_bounds-dealt-end g c =
    let few = plain-fits _ _ _ _ (sym c.size_admission.ensures ∙ c.in_ok-size_admission.was) in
    sym (ap length (plain-points c.args.n _ few c.sixteen-points.ensures) ∙ length-one-to c.args.n)

pub dealt-requires : goal.dealt-requires
dealt-requires g c =
    let a = c.args in
    let passed = sym c.size_admission.ensures ∙ c.in_ok-size_admission.was in
    let few = plain-fits _ _ _ _ passed in
    plain-lengths a.n a.t _ _ _ passed (ap length (plain-points a.n _ few c.sixteen-points.ensures) ∙ length-one-to a.n)

pub returns : goal.returns
returns g c =
    let a = c.args in
    let few = plain-fits _ _ _ _ (sym c.size_admission.ensures ∙ c.in_ok-size_admission.was) in
    c.dealt.ensures
    ∙ ap (λ T. desk_with (prime_of g.N.Number.WIDTH) a.n a.t T (map g.N.Number.value a.list.now) (map g.N.Number.value a.out.now))
    (plain-points a.n _ few c.sixteen-points.ensures)
