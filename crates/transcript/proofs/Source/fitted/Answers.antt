use Rattle.std.proofs.Common.{sym, ap, ap₂, subst, ◌∙◌, arith, map, take}
use lib.Seq.{length-take-le}
use Rattle.field.specs.Modulus.{prime_of}
use Rattle.tables.specs.Tables.{one_to, IsTable}
use Rattle.tables.proofs.Tables.{sixteen-front}
use Rattle.recovery.specs.Recovery.{published_in}
use Rattle.recovery.proofs.Fitting.{published-admitted}
use Rattle.record.specs.Record.{numbers_of}
use Rattle.transcript.proofs.Runs.{fine-facts, fine-legal, read_as, shares-count, plain-table, part-whole, part-all}
use Rattle.transcript.proofs.Source.fitted.Goals as goal

pub slice_bounds-published-end : goal.slice_bounds-published-end
slice_bounds-published-end g c = let f = fine-facts c.args.self.now.bytes.now c.args.self.now.head c.args.self.now.fine in omega arith

pub slice_bounds-published-end-2 : goal.slice_bounds-published-end-2
slice_bounds-published-end-2 g c =
    let f = fine-facts c.args.self.now.bytes.now c.args.self.now.head c.args.self.now.fine in
    sym (length-take-le _ c.args.list.now (omega arith))

pub part-requires : goal.part-requires
part-requires g c =
    let a = c.args in
    let f = fine-facts a.self.now.bytes.now a.self.now.head c.args.self.now.fine in
    part-whole a.list.now c.requires.1 a.self.now.head.n _ (numbers_of a.self.now.bytes.now 3) (omega arith)
    (read_as a.self.now.bytes.now a.self.now.head c.args.self.now.fine 3 g.N.Number.WIDTH c.requires.0) (shares-count a.self.now.bytes.now a.self.now.head c.args.self.now.fine)

pub lent-shares-requires : goal.lent-shares-requires
lent-shares-requires g c =
    let a = c.args in
    let f = fine-facts a.self.now.bytes.now a.self.now.head c.args.self.now.fine in
    omega (arith, c.part.auto.list, length-take-le a.self.now.head.n a.list.now (omega arith))

pub invariant_of-group : goal.invariant_of-group
invariant_of-group g c =
    let a = c.args in
    let few = (fine-facts a.self.now.bytes.now a.self.now.head c.args.self.now.fine).3 in
    record {
      points = subst (IsTable (prime_of a.self.now.head.width) a.self.now.head.n) (sym (ap (take a.self.now.head.n) c.sixteen.ensures ∙ sixteen-front a.self.now.head.n few))
          (plain-table a.self.now.head.width a.self.now.head.n few);
    }

pub returns : goal.returns
returns g c =
    let a = c.args in
    let n = a.self.now.head.n in
    let few = (fine-facts a.self.now.bytes.now a.self.now.head c.args.self.now.fine).3 in
    let count = shares-count a.self.now.bytes.now a.self.now.head c.args.self.now.fine in
    let shares = numbers_of a.self.now.bytes.now 3 in
    let all = part-all a.list.now c.requires.1 n (map g.N.Number.value c.part.new.list) _ shares (omega arith) c.part.ensures
    (read_as a.self.now.bytes.now a.self.now.head c.args.self.now.fine 3 g.N.Number.WIDTH c.requires.0) count in
    c.published.ensures
    ∙ ap₂ (published_in (prime_of a.self.now.head.width) n a.self.now.head.t) (ap (take n) c.sixteen.ensures ∙ sixteen-front n few)
    (c.lent-shares.ensures ∙ all)
    ∙ published-admitted (prime_of a.self.now.head.width) n a.self.now.head.t (one_to n) shares (fine-legal a.self.now.bytes.now a.self.now.head c.args.self.now.fine) count
