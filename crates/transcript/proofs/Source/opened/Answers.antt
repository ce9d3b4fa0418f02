use Rattle.std.proofs.Common.{ap, ◌∙◌, Ok, arith}
use Rattle.record.specs.Record.{numbers_of}
use Rattle.transcript.proofs.Outcomes.{last-rejected, last_found, last-nothing}
use Rattle.transcript.proofs.Source.opened.Goals as goal

pub returns-then-not-accepted : goal.returns-then-not-accepted
returns-then-not-accepted c =
    let h = c.args.self.now.head in
    record {
      line =
          last-rejected h.width h.n h.t (numbers_of c.args.self.now.bytes.now 3) c.args.accepted c.if-not-accepted.true c.from.result c.from.ensures;
      short = omega (arith, c.from.ensures);
    }

pub returns-in-Ok-Some-clause-line : goal.returns-in-Ok-Some-clause-line
returns-in-Ok-Some-clause-line c =
    let h = c.args.self.now.head in
    last_found h.width h.n h.t (numbers_of c.args.self.now.bytes.now 3) c.args.accepted c.if-not-accepted.false c.fitted_by.result
    c.fitted_by.ensures c.in-Ok-Some.f (c.in-Ok-Some.is ∙ ap Ok c.in-Ok-Some.field-0-is)

pub returns-in-Ok-None : goal.returns-in-Ok-None
returns-in-Ok-None c =
    let h = c.args.self.now.head in
    let from = c.from-in-Ok-None in
    record {
      line =
          last-nothing h.width h.n h.t (numbers_of c.args.self.now.bytes.now 3) c.args.accepted c.if-not-accepted.false c.fitted_by.result
          c.fitted_by.ensures (c.in-Ok-None.is ∙ ap Ok c.in-Ok-None.field-0-is) from.result from.ensures;
      short = omega (arith, from.ensures);
    }
