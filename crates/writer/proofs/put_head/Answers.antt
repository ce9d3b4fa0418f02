use Rattle.std.proofs.Common.{◌∙◌}
use Rattle.std.proofs.lemmas.List.{map-id}
use Rattle.parties.proofs.Parties.{sizes-facts}
use Rattle.record.proofs.Sections.{directory-legal}
use Rattle.writer.proofs.Buffer.{head-put}
use Rattle.writer.proofs.put_head.Goals as goal

pub first_byte-requires : goal.first_byte-requires
first_byte-requires c = let (low, high, four, most) = sizes-facts c.args.n c.args.t c.requires.0 in most

pub returns-clause-written : goal.returns-clause-written
returns-clause-written c =
    let a = c.args in
    let e = c.put.ensures in
    let plain = map-id c.directory.result in
    (head-put a.w a.n a.t a.out.now c.requires.1 c.first_byte.result c.directory.result _ _ c.first_byte.ensures
    (c.directory.ensures ∙ directory-legal _ _ _ c.requires.0) e.place (rw plain at e.written)).1.1
