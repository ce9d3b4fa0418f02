use Rattle.std.proofs.Common.{refl, sym, ◌∙◌, arith, map, replicate}
use Rattle.std.proofs.lemmas.List.{map-id}
use lib.Seq.{length-take-le}
use Rattle.field.specs.declared.Width.TheVariants.{Narrow}
use Rattle.record.specs.Record.{numbers_of}
use Rattle.transcript.proofs.Runs.{fine-facts, read_as, reports-count, part-whole, part-all}
use Rattle.transcript.proofs.put_record.Goals as goal

pub slice_bounds-list-end : goal.slice_bounds-list-end
slice_bounds-list-end c = let f = fine-facts c.args.bytes.now c.args.head c.requires.0 in omega arith

pub slice_bounds-reports-end : goal.slice_bounds-reports-end
slice_bounds-reports-end c =
    let f = fine-facts c.args.bytes.now c.args.head c.requires.0 in
    sym (length-take-le c.args.head.n (replicate 32 0) (omega arith))

pub part-requires : goal.part-requires
part-requires c =
    let a = c.args in
    let f = fine-facts a.bytes.now a.head c.requires.0 in
    part-whole (replicate 32 0) refl a.head.n _ (numbers_of a.bytes.now 2) (omega arith)
    (read_as a.bytes.now a.head c.requires.0 2 Narrow refl) (reports-count a.bytes.now a.head c.requires.0)

pub invariant_of-source-clause-its_reports : goal.invariant_of-source-clause-its_reports
invariant_of-source-clause-its_reports c =
    let a = c.args in
    let f = fine-facts a.bytes.now a.head c.requires.0 in
    let all =
    part-all (replicate 32 0) refl a.head.n (map (λ x. x) c.part.new.list) _ (numbers_of a.bytes.now 2) (omega arith) c.part.ensures
    (read_as a.bytes.now a.head c.requires.0 2 Narrow refl) (reports-count a.bytes.now a.head c.requires.0) in
    sym (map-id c.part.new.list) ∙ all
