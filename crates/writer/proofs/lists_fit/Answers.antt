use Rattle.std.proofs.Common.{length}
use Rattle.writer.proofs.Buffer.{fit-no, fit-room}
use Rattle.writer.proofs.lists_fit.Goals as goal

pub returns-then-eq : goal.returns-then-eq
returns-then-eq g c =
    let a = c.args in
    let l = a.lists.now in
    cc (fit-room g.N.Number.WIDTH a.n a.t (length l.deals.now) (length l.pairs.now) (length l.reports.now) (length l.shares.now) a.room
    c.from-each.result (cc) (cc))

pub returns-else-eq : goal.returns-else-eq
returns-else-eq g c =
    let a = c.args in
    let l = a.lists.now in
    cc (fit-no g.N.Number.WIDTH a.n a.t (length l.deals.now) (length l.pairs.now) (length l.reports.now) (length l.shares.now) a.room (cc))
