use native.Mathlib.Omega.{arith}
use Prim.Native.Nat.{◌<◌}
use lib.Seq.{length-take-le}
use Rattle.lists.proofs.All.{all-get_or}
use Rattle.field.specs.Modulus.{prime_of}
use Rattle.field.proofs.Primes.{prime-of}
use Rattle.key_equation.proofs.Rooting.{rooting-start, rooting-lent, rooting-next}
use Rattle.key_equation.proofs.roots.Goals as goal

pub loop-k-init : goal.loop-k-init
loop-k-init c = rooting-start _ (prime-of c.args.w) _ c.requires.0 _ c.requires.1

pub raise-requires : goal.raise-requires
raise-requires c =
    let k = c.loop-k in
    let r = rooting-lent _ (prime-of c.args.w) _ c.requires.0 k.out k.k k.invariant (omega arith) in (
      r.0,
      all-get_or (λ x. x < prime_of c.args.w) c.args.xs.now k.k 0 (omega arith) c.requires.0,
      omega (arith, r.1, length-take-le _ k.out r.1),
    )

pub loop-k-preserved : goal.loop-k-preserved
loop-k-preserved c =
    let k = c.loop-k in
    rooting-next _ (prime-of c.args.w) _ c.requires.0 k.out k.k k.invariant (omega arith) _ c.raise.ensures
