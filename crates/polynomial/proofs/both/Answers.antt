-- `polynomial::both` meets its contract: the start, a turn and the end of the loop, for either polynomial.
use Rattle.field.proofs.Primes.{positive}
use Rattle.field.specs.Modulus.{prime_of}
use Rattle.polynomial.proofs.Few.{coefficient-below}
use Rattle.polynomial.proofs.Together.{summed-start, summed-room, summed-next, summed-end}
use Rattle.polynomial.proofs.both.Goals as goal
use Rattle.std.proofs.Common.{ap₂, arith}

pub loop-i-init : goal.loop-i-init
loop-i-init c =
    let a = c.args in (
      summed-start a.w a.x _ a.f.now _ c.requires.residues.0 (omega arith) c.coefficient-u.ensures,
      summed-start a.w a.x _ a.g.now _ c.requires.residues.1 (omega arith) c.coefficient-v.ensures,
    )

pub next_sum-v-requires : goal.next_sum-v-requires
next_sum-v-requires c =
    let a = c.args in
    let k = c.loop-i in (
      c.requires.residues.2,
      rw c.coefficient-in-loop-i.ensures (coefficient-below (prime_of a.w) a.g.now _ (positive a.w) c.requires.residues.1),
      summed-room a.w a.x _ a.g.now k.g_quotient k.i k.v (omega arith) (omega arith) k.invariant.1,
    )

pub loop-i-preserved : goal.loop-i-preserved
loop-i-preserved c =
    let a = c.args in
    let k = c.loop-i in (
      summed-next a.w a.x _ a.f.now k.f_quotient k.i k.u _ _ _ (omega arith) (omega arith) (omega arith)
          c.reduced.ensures.0 c.coefficient.ensures c.next_sum-u.ensures.0 c.next_sum-u.ensures.1 k.invariant.0,
      summed-next a.w a.x _ a.g.now k.g_quotient k.i k.v _ _ _ (omega arith) (omega arith) (omega arith)
          c.reduced-in-loop-i.ensures.0 c.coefficient-in-loop-i.ensures c.next_sum-v.ensures.0 c.next_sum-v.ensures.1 k.invariant.1,
    )

pub returns : goal.returns
returns c =
    let a = c.args in
    let k = c.loop-i in
    ap₂ (λ f g. record { first = f; second = g })
    (summed-end a.w a.x _ a.f.now k.f_quotient k.i k.u _ c.requires.f_len_bound.0 (omega arith) c.reduced-2.ensures.0 k.invariant.0)
    (summed-end a.w a.x _ a.g.now k.g_quotient k.i k.v _ c.requires.f_len_bound.1 (omega arith) c.reduced-3.ensures.0 k.invariant.1)
