use Rattle.std.proofs.Common.{refl, ap, subst, ◌∙◌, arith, ◌+◌, ◌++◌}
use Rattle.text.specs.Letters.{Added}
use Rattle.text.proofs.Letters.{then, nothing}
use Rattle.transcript.specs.Outcomes.{reply_line}
use Rattle.transcript.specs.Transcript.{lamp_lines}
use Rattle.transcript.proofs.Runs.{fine-facts, lamps-more}
use Rattle.transcript.proofs.Source.put_lamps.Goals as goal

pub loop-k-init : goal.loop-k-init
unfolding lamp_lines
loop-k-init c = (omega arith, refl, nothing _ _)

pub put_lamp-next-requires : goal.put_lamp-next-requires
put_lamp-next-requires c =
    let s = c.args.self.now in
    let f = fine-facts s.bytes.now s.head s.fine in
    (omega arith, omega (arith, c.loop-k.invariant.0, c.loop-k.auto.out))

pub loop-k-preserved : goal.loop-k-preserved
loop-k-preserved c =
    let p = c.put_lamp-next in
    let a = c.args in
    let h = a.self.now.head in
    let k = c.loop-k.k in
    let bytes = a.self.now.bytes.now in (
      omega (arith, p.ensures.short, c.loop-k.invariant.0),
      p.auto.out ∙ c.loop-k.invariant.1,
      subst (λ w. Added a.out.now a.at w p.new.out p.result)
          (ap (λ z. lamp_lines bytes h.width h.n h.t k ++ reply_line (k + 1) z) c.run-reply.ensures ∙ lamps-more bytes h.width h.n h.t k)
          (then _ _ _ _ _ _ _ _ c.loop-k.invariant.2 p.ensures.added),
    )

pub returns-clause-short : goal.returns-clause-short
returns-clause-short c =
    let s = c.args.self.now in
    let f = fine-facts s.bytes.now s.head s.fine in
    omega (arith, c.loop-k.invariant.0)
