use Rattle.std.proofs.Common.{subst, arith}
use Rattle.text.specs.Letters.{Added}
use Rattle.text.proofs.Letters.{puts-within}
use Rattle.lines.specs.Lines.{opened_words}
use Rattle.lines.proofs.Lines.{opened-short}
use Rattle.transcript.proofs.Source.put_last.Goals as goal

pub returns : goal.returns
returns c =
    let a = c.args in
    let p = c.put_opened in
    let o = c.opened in
    let put = puts-within (opened_words o.result) _ _ _ _ 18 p.ensures (opened-short o.result o.ensures.short) (omega arith) in
    record { added = subst (λ w. Added a.out.now a.at w p.new.out p.result) o.ensures.line put.0; short = put.1 }
