-- `fit::groups` meets its contract: each answer is one law of proofs/Grouping.
use Rattle.std.proofs.Common.{◌≡◌, ◌+◌, ◌-◌, ap, subst, ◌∙◌, arith}
use Rattle.field.specs.Modulus.{prime_of}
use Rattle.field.proofs.Primes.{prime-of}
use Rattle.trial.specs.Trial.{tried}
use Rattle.trial.specs.Results.{result_of}
use Rattle.fit.specs.Grouping.{Behind}
use Rattle.fit.proofs.Grouping.{groups-found, groups_none, groups-next, groups-last}
use Rattle.fit.proofs.groups.Goals as goal

pub returns-then-left-t : goal.returns-then-left-t
returns-then-left-t c =
    let t = c.args.t in
    let s = c.args.received.now in
    let k = c.loop-wrong in
    let all : k.wrong - 1 + 1 ≡ k.wrong = omega arith in
    groups-last _ (prime-of s.w) _ _ _ _ k.i k.left k.wrong k.invariant _
    (c.choices.ensures ∙ ap (λ n. result_of (tried (prime_of s.w) s.need s.xs.now s.ys.now k.i (t + 1) n)) all)

pub returns-then-is_some : goal.returns-then-is_some
returns-then-is_some c =
    let k = c.loop-wrong in
    groups-found _ (prime-of c.args.received.now.w) _ _ _ _ k.i k.left k.wrong k.invariant 0 _ _ c.next-group.ensures (cc)

pub loop-wrong-preserved : goal.loop-wrong-preserved
loop-wrong-preserved c =
    let s = c.args.received.now in
    let k = c.loop-wrong in
    let passed = subst (λ q. Behind q (c.args.t + 1) s.ys.now k.i c.behind-i.result) c.modulus-p.ensures c.behind-i.ensures in
    groups-next _ (prime-of s.w) _ _ _ _ k.i k.left k.wrong k.invariant _ _ (λ z. omega arith) (omega arith) passed c.next-group.ensures
    (cc)

pub returns : goal.returns
returns c =
    let k = c.loop-wrong in
    groups_none _ (prime-of c.args.received.now.w) _ _ _ _ k.i k.left k.wrong k.invariant (omega arith)
