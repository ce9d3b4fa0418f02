-- `locator::judged` meets its contract: each test that fails settles the answer.
use Rattle.std.proofs.Common.{refl, sym, ◌∙◌, arith, rules}
use Rattle.field.specs.Modulus.{prime_of}
use Rattle.field.proofs.Primes.{positive}
use Rattle.locator.proofs.Judging.{judged-high, judged-rest, quotient-fine, judged-given}
use Rattle.locator.proofs.judged.Goals as goal

pub returns-then-spare-solved : goal.returns-then-spare-solved
returns-then-spare-solved c = judged-high _ _ _ _ _ _ _ _ _ c.if-spare-solved.true

pub returns-in_err-f : goal.returns-in_err-f
returns-in_err-f c =
    let a = c.args in
    let s = a.received.now in
    let rest = judged-rest (prime_of s.w) a.t s.need a.spare s.xs.now s.ys.now a.solved.degree a.solved.numerator a.solved.locator
    c.if-spare-solved.false
    (sym c.in_err-f.was ∙ c.quotient.ensures) in
    search rules

pub if_enough-requires : goal.if_enough-requires
if_enough-requires c =
    let s = c.args.received.now in
    let few = c.if-spare-solved.false in
    quotient-fine _ _ s.need _ s.xs.now s.ys.now _ _ _ few _ (sym c.in_ok-f.was ∙ c.quotient.ensures) c.requires.t_bound.0
    (omega (arith, few)) (omega arith) (omega arith) (positive s.w)

pub returns : goal.returns
returns c =
    let few = c.if-spare-solved.false in
    c.if_enough.ensures
    ∙ judged-given _ _ _ _ _ _ _ _ _ few _ (sym c.in_ok-f.was ∙ c.quotient.ensures) c.requires.t_bound.0 (omega (arith, few)) (omega arith)
    (omega arith) (positive c.args.received.now.w) _ refl
