use Rattle.std.proofs.Common.{sym, ◌∙◌}
use native.Mathlib.Omega.{arith}
use lib.Seq.{length-take-le}
use Rattle.exports.proofs.Opened.{lengths-passed}
use Rattle.exports.proofs.openings.open_admission.Goals as goal

pub slice_bounds-is_table-end : goal.slice_bounds-is_table-end
slice_bounds-is_table-end c =
    let fit = lengths-passed _ _ _ _ (sym c.open_lengths.ensures ∙ c.in_ok-open_lengths.was) in
    sym (length-take-le _ _ (omega arith))
