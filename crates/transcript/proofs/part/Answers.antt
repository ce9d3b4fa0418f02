use Rattle.std.proofs.Common.{ap, ◌∙◌, map, length}
use Rattle.std.proofs.lemmas.List.{length-map}
use Rattle.record.specs.Bytes.{number_bytes}
use Rattle.record.specs.Record.{section_of}
use Rattle.transcript.proofs.Runs.{part-inside, part-read}
use Rattle.transcript.proofs.part.Goals as goal

pub slice_bounds-numbers_by-end : goal.slice_bounds-numbers_by-end
slice_bounds-numbers_by-end g c =
    let a = c.args in
    part-inside g.N.Number.WIDTH (section_of a.bytes.now a.k) c.section-whole.result.now c.number_bytes-each.result a.from
    (length a.list.now) (c.number_bytes-each.ensures.0 ∙ ap number_bytes c.WIDTH.ensures) c.section-whole.ensures c.requires.0

pub returns : goal.returns
returns g c =
    let a = c.args in
    let value = g.N.Number.value in
    c.numbers_by.ensures
    ∙ part-read g.N.Number.WIDTH (section_of a.bytes.now a.k) c.section-whole.result.now c.number_bytes-each.result a.from
    (length a.list.now) (c.number_bytes-each.ensures.0 ∙ ap number_bytes c.WIDTH.ensures) c.section-whole.ensures c.requires.0
    (map value a.list.now) (length-map a.list.now value)
