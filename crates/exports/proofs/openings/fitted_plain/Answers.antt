use Rattle.exports.proofs.Opened.{passed-plain}
use Rattle.exports.proofs.openings.fitted_plain.Goals as goal

pub invariant_of-group : goal.invariant_of-group
invariant_of-group g c =
    let a = c.args in
    record {
      points = (passed-plain g.N.Number.value g.N.Number.WIDTH a.n a.t a.shares.now _ c.WIDTH.ensures c.sixteen.ensures
          c.open_lengths.ensures c.in_ok-open_lengths.was).table;
    }
