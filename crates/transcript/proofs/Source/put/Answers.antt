use Rattle.std.proofs.Common.{subst, ap, ◌∙◌, arith}
use Rattle.happy.specs.Happy.{happy_set}
use Rattle.text.specs.Letters.{Added}
use Rattle.text.proofs.Letters.{then}
use Rattle.transcript.proofs.Runs.{fine-facts}
use Rattle.transcript.proofs.Texts.{text-pieces, headed}
use Rattle.transcript.proofs.Source.put.Goals as goal

pub accepted-good-requires : goal.accepted-good-requires
accepted-good-requires c = let f = fine-facts c.args.self.now.bytes.now c.args.self.now.head c.args.self.now.fine in omega arith

pub put_lamps-lamps-requires : goal.put_lamps-lamps-requires
put_lamps-lamps-requires c =
    let f = fine-facts c.args.self.now.bytes.now c.args.self.now.head c.args.self.now.fine in
    let h = headed _ _ f.3 f.1 c.requires c.put_size-size.ensures c.put_size-size.auto.out c.put_verdict-verdict.ensures in
    omega (arith, h.1, c.put_size-size.auto.out, c.put_verdict-verdict.auto.out)

pub put_last-requires : goal.put_last-requires
put_last-requires c =
    let f = fine-facts c.args.self.now.bytes.now c.args.self.now.head c.args.self.now.fine in
    let h = headed _ _ f.3 f.1 c.requires c.put_size-size.ensures c.put_size-size.auto.out c.put_verdict-verdict.ensures in
    let l = c.put_lamps-lamps in
    omega (arith, h.1, c.put_size-size.auto.out, c.put_verdict-verdict.auto.out, l.auto.out, l.ensures.short)

pub returns : goal.returns
returns c =
    let a = c.args in
    let f = fine-facts a.self.now.bytes.now a.self.now.head c.args.self.now.fine in
    let h = headed _ _ f.3 f.1 c.requires c.put_size-size.ensures c.put_size-size.auto.out c.put_verdict-verdict.ensures in
    let l = c.put_lamps-lamps in
    let p = c.put_last in
    let set = c.happy_set-set.ensures ∙ ap happy_set c.args.self.now.its_reports in
    let whole = text-pieces a.self.now.bytes.now a.self.now.head.width a.self.now.head.n a.self.now.head.t _ _ set c.accepted-good.ensures in
    let pieces = then _ _ _ _ _ _ _ _ (then _ _ _ _ _ _ _ _ h.0 l.ensures.added) p.ensures.added in
    record {
      added = subst (λ w. Added a.out.now 0 w p.new.out p.result) whole pieces;
      short = omega (arith, h.1, l.ensures.short, p.ensures.short);
    }
