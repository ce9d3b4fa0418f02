use Rattle.std.proofs.Common.{subst, arith}
use Rattle.text.specs.Letters.{Added}
use Rattle.text.proofs.Letters.{puts-within}
use Rattle.lines.specs.Lines.{refused_words}
use Rattle.lines.proofs.Lines.{refused-short}
use Rattle.transcript.proofs.Texts.{text-fine, text-refused}
use Rattle.transcript.proofs.put_text.Goals as goal

pub returns-in-Ok-clause-added : goal.returns-in-Ok-clause-added
returns-in-Ok-clause-added c =
    let a = c.args in
    subst (λ w. Added a.out.now 0 w c.put_record.new.out c.put_record.result)
    (text-fine c.read.result a.bytes.now c.read.ensures c.in-Ok.head c.in-Ok.is) c.put_record.ensures.added

pub returns-in-Err : goal.returns-in-Err
returns-in-Err c =
    let a = c.args in
    let p = c.put_refused in
    let k = c.from.result in
    let put = puts-within (refused_words k) _ _ _ _ 26 p.ensures (refused-short k) (omega arith) in
    record {
      added = subst (λ w. Added a.out.now 0 w p.new.out p.result)
          (text-refused c.read.result a.bytes.now c.read.ensures c.in-Err.why c.in-Err.is k c.from.ensures) put.0;
      short = omega (arith, put.1);
    }
