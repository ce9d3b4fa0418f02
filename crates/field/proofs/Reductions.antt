-- What is known of sums, products and differences by one reduction, for `grind`.
use Rattle.field.proofs.Primes.{positive}
use Rattle.field.proofs.Ring.{one-reduction, add_nothing, add-mul-rest, one-difference}

pub ruleset reductions = (positive, one-reduction, add_nothing, add-mul-rest, one-difference)
