use Rattle.std.proofs.Common.{sym, ap, ◌∙◌, ◌+◌, ◌*◌, ◌-◌, ◌≤◌, Ok, Err}
use native.Mathlib.Omega.{arith}
use lib.Count.{ones}
use Rattle.parties.proofs.Parties.{sizes-facts}
use Rattle.recovery.specs.Recovery.{repair}
use Rattle.recovery.proofs.Fitting.{repair-admitted}
use Rattle.answers.specs.declared.Refusal.TheVariants.{DealerRejected}
use Rattle.answers.specs.declared.Answer.TheVariants.{Accepted}
use Rattle.lamp.specs.Lamp.{its_prime, table_of, reply, repaired_by}
use Rattle.lamp.proofs.Checks.{valid-facts}
use Rattle.lamp.proofs.Outcomes.{repaired-decoded, settled-rejected, settled-happy, settled-mended}
use Rattle.lamp.proofs.settling.settled.Goals as goal

pub overflow_sub-enough : goal.overflow_sub-enough
overflow_sub-enough c = let f = valid-facts c.args.lamp.party c.requires.0 in f.fewer

pub returns-then-count-enough : goal.returns-then-count-enough
returns-then-count-enough c =
    let a = c.args in
    ap (λ l. reply l (Err DealerRejected)) c.at_end.ensures
    ∙ settled-rejected a.lamp a.set (omega (arith, c.count.ensures))

pub member-requires : goal.member-requires
member-requires c =
    let f = valid-facts c.args.lamp.party c.requires.0 in
    (f.first, omega (arith, f.last, f.room))

pub returns-then-member : goal.returns-then-member
returns-then-member c =
    let a = c.args in
    ap (λ l. reply l (Ok Accepted)) c.at_end-then-member.ensures
    ∙ settled-happy a.lamp a.set (omega (arith, c.count.ensures)) (sym c.member.ensures ∙ c.if-member.true)

pub returns : goal.returns
returns c =
    let l = c.args.lamp in
    let set = c.args.set in
    let size = sizes-facts l.party.n l.party.t c.requires.0.size in
    let many : l.party.n - l.party.t ≤ ones set = omega (arith, c.count.ensures) in
    let enough : 3 * l.party.t + 1 ≤ ones set = omega (arith, many) in
    let e = c.group.ensures in
    c.repaired_by.ensures
    ∙ ap (repaired_by l set) ((rw (e.0, e.1, e.2, e.3) at c.repair-fitted.ensures)
    ∙ repair-admitted _ _ _ _ _ _ c.requires.0.size c.requires.1 enough)
    ∙ repaired-decoded l set (repair (its_prime l.party) l.party.n l.party.t (table_of l.party) set l.sharing.heard)
    ∙ settled-mended l set many (sym c.member.ensures ∙ c.if-member.false)
