-- What is written is the text of the bytes that were read.
use Rattle.std.proofs.Common.{rules, le_refl}
use Rattle.replies.proofs.Rendered.{rendered, written}
use Rattle.replies.proofs.texts.put_text.Goals as goal

pub returns : goal.returns
returns g c =
    let shown = rendered _ _ _ _ _ (le_refl 512) c.render-answer.ensures.result_after c.text_in.ensures in
    written _ _ _ _ _ _ _ (search rules) c.read_full-n.ensures.bytes shown c.write_all.ensures.bytes
