use Rattle.transcript.proofs.Texts.{render-small, render-large}
use Rattle.transcript.proofs.render.Goals as goal

pub returns-then-out-lt512-clause-result_after : goal.returns-then-out-lt512-clause-result_after
returns-then-out-lt512-clause-result_after c = render-small c.args.bytes.now c.args.out.now c.if-out-lt512.true

pub returns-clause-result_after : goal.returns-clause-result_after
returns-clause-result_after c =
    let p = c.put_text in
    render-large c.args.bytes.now c.args.out.now p.new.out p.result c.if-out-lt512.false p.ensures.added
