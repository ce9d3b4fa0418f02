use Rattle.exports.proofs.Opened.{passed-with}
use Rattle.exports.proofs.openings.fitted_with.Goals as goal

pub invariant_of-group : goal.invariant_of-group
invariant_of-group g c =
    let a = c.args in
    record {
      points = (passed-with g.N.Number.value g.N.Number.WIDTH a.n a.t a.shares.now a.table.now _ c.WIDTH-width.ensures
          c.in_array-points.ensures c.open_admission.ensures c.in_ok-open_admission.was).table;
    }
