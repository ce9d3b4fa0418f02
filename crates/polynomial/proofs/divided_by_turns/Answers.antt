-- `polynomial::divided_by_turns` meets its contract: the start, a turn and the end of the loop.
use Rattle.field.specs.Modulus.{prime_of}
use Rattle.lists.proofs.All.{all-get_or}
use Rattle.polynomial.proofs.Schemes.{scheme_from, last-value, one_more, written_start, written_next, written-end}
use Rattle.polynomial.proofs.divided_by_turns.Goals as goal
use Rattle.std.proofs.Common.{◌≡◌, ◌-◌, ◌<◌, ap₂, ◌∙◌, length, arith}

pub loop-i-init : goal.loop-i-init
loop-i-init c =
    let p = prime_of c.args.w in
    let f = c.args.f.now in (
      last-value p c.args.x f c.requires.0 c.requires.2,
      all-get_or (λ a. a < p) f (length f - 1) 0 (omega arith) c.requires.0,
      written_start p c.args.x f,
    )

pub loop-i-preserved : goal.loop-i-preserved
loop-i-preserved c =
    let p = prime_of c.args.w in
    let f = c.args.f.now in
    let k = c.loop-i in (
      c.mul_add-value.ensures.0 ∙ one_more p c.args.x f k.i k.value (omega arith) (omega arith) k.invariant.0,
      c.mul_add-value.ensures.1,
      written_next p c.args.x f k.quotient k.i k.value (omega arith) (omega arith) k.invariant.0 k.invariant.2,
    )

pub returns : goal.returns
returns c =
    let p = prime_of c.args.w in
    let f = c.args.f.now in
    let k = c.loop-i in
    let done : k.i ≡ 0 = omega arith in (
      ap₂ scheme_from (rw done at k.invariant.0) (written-end p c.args.x f k.quotient c.requires.3 (rw done at k.invariant.2)),
      k.invariant.1,
    )
