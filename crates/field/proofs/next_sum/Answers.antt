-- `field::next_sum` meets its contract: with one coefficient more a sum of three still fits, and folding keeps the residue.
use Rattle.field.proofs.Ring.{one-reduction}
use Rattle.field.proofs.Sums.{narrow_next, wide-next}
use Rattle.field.proofs.next_sum.Goals as goal
use Rattle.field.specs.Modulus.{prime_of}
use Rattle.field.specs.Sums.{sum_below}
use Rattle.std.proofs.Common.{◌≡◌, ℕ, ◌<◌, ap, ◌∙◌, arith}

pub returns-in-Narrow : goal.returns-in-Narrow
returns-in-Narrow c =
    let q : prime_of c.args.w ≡ 65521 = ap prime_of c.in-Narrow.is in (
      one-reduction _ _ _ _,
      λ (k : ℕ) (h : c.args.v < sum_below c.args.w k). rw c.in-Narrow.is
          (narrow_next _ _ _ k (omega arith) (omega arith) (rw c.in-Narrow.is at h)),
    )

pub returns-in-Wide : goal.returns-in-Wide
returns-in-Wide c =
    let q : prime_of c.args.w ≡ 2147483647 = ap prime_of c.in-Wide.is in (
      rw q c.folded.ensures.0 ∙ one-reduction _ _ _ _,
      λ (k : ℕ) (h : c.args.v < sum_below c.args.w k). rw c.in-Wide.is
          (wide-next _ _ _ k _ (omega arith) (omega arith) (rw c.in-Wide.is at h) c.folded.ensures.1),
    )
