-- `recovery::within` meets its contract: a number below 2 ^ n has no bit from place n up, and none other has none.
use Rattle.std.proofs.Common.{◌≡◌, ℕ, ◌/◌, ◌<◌, eqb, ltb, arith}
use native.Mathlib.Nat.{div-lt_iff_lt-mul}
use borrow.Author.Tests.{eqb-true, eq-eqb, ltb-true, lt-ltb}
use lib.Pow.{pow_pos}
use Rattle.lists.proofs.Cases.{both_ways}
use Rattle.recovery.proofs.within.Goals as goal

none_above : (S d : ℕ) → 0 < d → eqb (S / d) 0 ≡ ltb S d
none_above S d positive =
    let iff = div-lt_iff_lt-mul {x = S} {y = 1} positive in
    both_ways (eqb (S / d) 0) (ltb S d)
    (λ e. lt-ltb S d (omega (arith, iff.0 (omega (arith, eqb-true (S / d) 0 e)))))
    (λ e. eq-eqb (S / d) 0 (omega (arith, iff.1 (omega (arith, ltb-true S d e)))))

pub returns : goal.returns
returns c = none_above c.args.set _ (pow_pos c.args.n)
