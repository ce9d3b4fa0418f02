use Rattle.std.proofs.Common.{◌≡◌, refl, ℕ, List, ◌<◌, Ok, ap, sym, ◌∙◌, rules, length}
use Rattle.field.specs.declared.Width.TheVariants.{Wide}
use Rattle.field.specs.Modulus.{prime_of}
use Rattle.answers.specs.Answers.{Writing}
use Rattle.writer.proofs.Loops.{one-put}
use Rattle.stored.proofs.Answers.{write_done, six-written}
use Rattle.stored.proofs.write_share.Goals as goal

pub returns : goal.returns
returns c =
    let a = c.args in
    let six : length a.out.now ≡ 6 = search rules in
    let below : a.share < prime_of a.w = search rules in
    let four = c.copy_from_slice.ensures.after ∙ c.to_be_bytes.ensures ∙ one-put Wide 4 a.share refl in
    ap {B = List ℕ × Writing} (λ b. (b, Ok 6))
    (six-written a.out.now c.from.result 0 c.copy_from_slice.new.self six ∙ cc (c.from.ensures, four))
    ∙ sym (write_done a.w a.share a.out.now six below)
