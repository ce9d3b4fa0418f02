use Rattle.std.proofs.Common.{sym, ◌∙◌, subst, ◌<◌, ◌^◌}
use native.Mathlib.Omega.{arith}
use Rattle.happy.specs.Happy.{happy_set}
use Rattle.happy.proofs.Happy.{happy-is}
use Rattle.lamp.specs.Lamp.{settle}
use Rattle.lamp.proofs.Checks.{valid-facts}
use Rattle.lamp.proofs.Calls.{asked-reports, refused-by, admitted-by, passed-by, settle-altered, settle-found}
use Rattle.lamp.proofs.Lamp.settle.Goals as goal

pub overflow_sub-place : goal.overflow_sub-place
overflow_sub-place c =
    let l = c.args.self in
    let rs = c.args.reports.now in
    let p = passed-by l (settle rs) (asked-reports l rs c.lent.ensures c.is_at-takes.ensures) c.in-Ok.is in
    (valid-facts l.party p.0).first

pub bounds-reports-place : goal.bounds-reports-place
bounds-reports-place c =
    let l = c.args.self in
    let rs = c.args.reports.now in
    let p = passed-by l (settle rs) (asked-reports l rs c.lent.ensures c.is_at-takes.ensures) c.in-Ok.is in
    let f = valid-facts l.party p.0 in
    omega (arith, f.first, f.last, p.1)

pub returns-then-reports-place : goal.returns-then-reports-place
returns-then-reports-place c =
    let l = c.args.self in
    let rs = c.args.reports.now in
    c.refuse-then-reports-place.ensures ∙ settle-altered l rs c.if-reports-place.true
    ∙ admitted-by l (settle rs) (asked-reports l rs c.lent.ensures c.is_at-takes.ensures) c.in-Ok.is

pub settled-requires : goal.settled-requires
settled-requires c =
    let l = c.args.self in
    let rs = c.args.reports.now in
    let p = passed-by l (settle rs) (asked-reports l rs c.lent.ensures c.is_at-takes.ensures) c.in-Ok.is in
    let f = valid-facts l.party p.0 in
    let within = (happy-is rs (omega (arith, p.1, f.room))).within in (
      p.0,
      subst (λ m. m < 2 ^ l.party.n) (sym c.happy_set.ensures) (subst (λ k. happy_set rs < 2 ^ k) p.1 within),
    )

pub returns-in-Err : goal.returns-in-Err
returns-in-Err c =
    let l = c.args.self in
    let rs = c.args.reports.now in
    c.refuse.ensures ∙ refused-by l (settle rs) (asked-reports l rs c.lent.ensures c.is_at-takes.ensures) c.in-Err.is

pub returns-else-reports-place : goal.returns-else-reports-place
returns-else-reports-place c =
    let l = c.args.self in
    let rs = c.args.reports.now in
    c.settled.ensures ∙ settle-found l rs _ c.if-reports-place.false c.happy_set.ensures
    ∙ admitted-by l (settle rs) (asked-reports l rs c.lent.ensures c.is_at-takes.ensures) c.in-Ok.is
