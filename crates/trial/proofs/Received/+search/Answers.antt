-- `Received::search` meets its contract: each return is one law of proofs/Arrays.
use Rattle.std.proofs.Common.{ℕ, ap, ◌∙◌, arith, pos_of_ne-zero}
use Rattle.field.specs.Modulus.{prime_of}
use Rattle.trial.specs.Results.{result_of}
use Rattle.trial.proofs.Arrays.{found-one, found_none, found-unsent, Branches, branches}
use Rattle.trial.proofs.Received.+search.Goals.{After-search-found}
use Rattle.trial.proofs.Received.+search.Goals as goal

pub returns-then-more-eq0 : goal.returns-then-more-eq0
returns-then-more-eq0 t c = c.then_some.ensures ∙ c.test.ensures ∙ ap result_of (found-one _ _ _ _ _ _ _ _ c.args.i c.if-more-eq0.true)

pub returns-then-self-i : goal.returns-then-self-i
returns-then-self-i t c = ap result_of (found_none _ _ _ _ _ _ _ _ c.args.i c.if-more-eq0.false c.if-self-i.true)

pub returns-then-modulus-y : goal.returns-then-modulus-y
returns-then-modulus-y t c =
    c.search.ensures ∙ ap result_of (found-unsent _ _ _ _ (omega arith) c.args.i (omega arith) _ _ _ _ (omega arith))

-- What the call that takes the point answers, and what follows for either outcome.
both : (t : ℕ) (c : After-search-found t)
    → Branches (prime_of c.args.self.now.w) c.args.self.now.need c.args.self.now.xs.now c.args.self.now.ys.now c.args.i c.args.taken.count
    c.args.taken.xs c.args.taken.ys c.args.more c.args.spare c.search-found.result
both t c =
    let a = c.args in
    let s = a.self.now in
    let k = a.taken in
    let d = c.push.new.self in
    branches (prime_of s.w) s.need s.xs.now s.ys.now a.i k.count d.count k.xs k.ys d.xs d.ys a.more a.spare _ s.lengths c.if-self-i.false
    (omega (arith, c.requires.room, pos_of_ne-zero c.if-more-eq0.false)) (omega arith) (omega arith) c.if-more-eq0.false
    c.if-spare-eq0.false (omega arith) c.push.ensures c.search-found.ensures

pub returns-then-is_some : goal.returns-then-is_some
returns-then-is_some t c = (both t (goal.at.returns-then-is_some t c).After-search-found).with_it (cc)

pub returns : goal.returns
returns t c = c.search-2.ensures ∙ (both t (goal.at.returns t c).After-search-found).without_it (cc)
