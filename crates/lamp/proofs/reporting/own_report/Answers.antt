use Rattle.std.proofs.Common.{sym, ◌∙◌, add-one}
use native.Mathlib.Omega.{arith}
use Rattle.consistency.proofs.Reports.{report-within}
use Rattle.lamp.specs.Lamp.{its_prime, table_of, row_of_lamp, column_of_lamp}
use Rattle.lamp.proofs.Checks.{valid-facts}
use Rattle.lamp.proofs.Outcomes.{few}
use Rattle.lamp.proofs.reporting.own_report.Goals as goal

pub shared_ref_as_front-report : goal.shared_ref_as_front-report
shared_ref_as_front-report c = let f = valid-facts c.args.lamp.party c.requires.0 in f.room

pub shared_ref_as_front-report-2 : goal.shared_ref_as_front-report-2
shared_ref_as_front-report-2 c = let f = valid-facts c.args.lamp.party c.requires.0 in omega (arith, f.degree)

pub report-requires : goal.report-requires
report-requires c =
    let l = c.args.lamp in
    let f = valid-facts l.party c.requires.0 in
    (f.table.below, few l.party.t l.sharing.row f.degree (omega arith), few l.party.t l.sharing.column f.degree (omega arith))

pub returns : goal.returns
returns c =
    let a = c.args in
    let l = a.lamp in
    let f = valid-facts l.party c.requires.0 in
    rw (add-one l.party.t) at c.report.ensures
    ∙ sym (report-within (its_prime l.party) (table_of l.party) l.party.number (row_of_lamp l) (column_of_lamp l)
    a.firsts.now a.seconds.now l.party.n f.room c.requires.0.party c.requires.1 c.requires.2)
