-- `locator::by_locator` meets its contract: what is gathered is solved for, and what is found is what fits.
use Rattle.std.proofs.Common.{ℕ, ◌+◌, ◌*◌, ◌++◌, length, take, drop, replicate, ◌≤◌, sym, ap, subst, ◌∙◌, arith}
use Rattle.std.proofs.Math.Seq.{length-take-le}
use Rattle.field.specs.Modulus.{prime_of}
use Rattle.field.proofs.Primes.{prime-of}
use Rattle.polynomial.specs.Polynomial.{Points}
use Rattle.trial.specs.Trial.{points_sent}
use Rattle.trial.specs.Results.{result_of}
use Rattle.fit.proofs.Decoding.{points-sent-all}
use Rattle.key_equation.specs.Solved.{Solved}
use Rattle.locator.proofs.Gathered.{Gathers, gathers-from, all-points, all-values, all-sizes, first-sizes, first-points, tried-first, front-all, gathered-points}
use Rattle.locator.proofs.Answer.{located-fit}
use Rattle.locator.proofs.by_locator.Goals.{After-first_sent}
use Rattle.locator.proofs.by_locator.Goals as goal

-- The points gathered, in front of the arrays.
gathered : (c : After-first_sent)
    → Gathers (prime_of c.args.received.now.w) c.args.received.now.xs.now c.args.received.now.ys.now (c.args.t + 1 + 2 * c.args.spare)
    c.first_sent.new.px c.first_sent.new.py
gathered c =
    let s = c.args.received.now in
    gathers-from _ (prime_of s.w) c.modulus.ensures s.xs.now s.ys.now _ _ (c.args.t + 1 + 2 * c.args.spare)
    (omega (arith, c.requires.t_bound.0, c.requires.ys_value.2)) c.first_sent.ensures

pub first_sent-requires-clause-xs_len : goal.first_sent-requires-clause-xs_len
first_sent-requires-clause-xs_len c =
    let a = c.args in
    let s = a.received.now in
    let r = c.requires in
    let m = a.t + 1 + 2 * a.spare in
    let lent = length-take-le m (replicate {A = ℕ} 10 0) (omega (arith, r.t_bound.0, r.ys_value.2)) in
    let all = points-sent-all (prime_of s.w) s.xs.now s.ys.now s.lengths in
    let same = ap (λ q. length (points_sent q s.xs.now s.ys.now)) c.modulus.ensures in
    (s.lengths, omega (arith, lent, all, same, r.t_bound.0, r.ys_value.0, r.ys_value.1, r.ys_value.2))

pub invariant_of-first : goal.invariant_of-first
invariant_of-first c =
    let a = c.args in
    let s = a.received.now in
    let r = c.requires in
    let g = gathered (goal.at.invariant_of-first c).After-first_sent in
    let few : a.t + 1 + 2 * a.spare ≤ 10 = omega (arith, r.t_bound.0, r.ys_value.2) in
    let sizes = first-sizes _ _ _ (s.points, r.t_bound.1) _ (a.t + 1) few (omega arith) (omega (arith, r.t_bound.0)) _ _ g in
    record {
      lengths = sizes.0 ∙ sym sizes.1;
      points = first-points _ _ _ (s.points, r.t_bound.1) _ (a.t + 1) few (omega arith) (omega (arith, r.t_bound.0)) _ _ g;
    }

pub returns-in_err-f : goal.returns-in_err-f
returns-in_err-f c =
    let a = c.args in
    let s = a.received.now in
    let r = c.requires in
    let g = gathered (goal.at.returns-in_err-f c).After-first_sent in
    let found = sym c.in_err-f.was ∙ c.next.ensures
    ∙ tried-first _ _ _ (s.points, r.t_bound.1) _ (a.t + 1) (omega (arith, r.t_bound.0, r.ys_value.2)) (omega arith)
    (omega (arith, r.t_bound.0)) _ _ g in
    absurd (cc)

pub invariant_of-equation : goal.invariant_of-equation
invariant_of-equation c =
    let a = c.args in
    let s = a.received.now in
    let r = c.requires in
    let g = gathered (goal.at.invariant_of-equation c).After-first_sent in
    let points : Points (prime_of s.w) s.xs.now = (s.points, r.t_bound.1) in
    let few : a.t + 1 + 2 * a.spare ≤ 10 = omega (arith, r.t_bound.0, r.ys_value.2) in
    let n = all-sizes _ _ _ points _ (a.t + 1) few (omega arith) (omega (arith, r.t_bound.0)) _ _ g in
    let found = sym c.in_ok-f.was ∙ c.next.ensures
    ∙ tried-first _ _ _ points _ (a.t + 1) few (omega arith) (omega (arith, r.t_bound.0)) _ _ g in
    record {
      degree = r.t_bound.0;
      points = all-points _ _ _ points _ (a.t + 1) few (omega arith) (omega (arith, r.t_bound.0)) _ _ g;
      values = all-values _ _ _ points _ (a.t + 1) few (omega arith) (omega (arith, r.t_bound.0)) _ _ g;
      lengths = n.0 ∙ sym n.1;
      enough = omega (arith, n.0);
      most = omega (arith, n.0, r.ys_value.2, r.t_bound.0);
      through = cc;
    }

pub returns : goal.returns
returns c =
    let a = c.args in
    let s = a.received.now in
    let r = c.requires in
    let p = prime_of s.w in
    let m = a.t + 1 + 2 * a.spare in
    let px = c.first_sent.new.px in
    let py = c.first_sent.new.py in
    let v = c.solve in
    let few : m ≤ 10 = omega (arith, r.t_bound.0, r.ys_value.2) in
    let points : Points (prime_of s.w) s.xs.now = (s.points, r.t_bound.1) in
    let g = gathered (goal.at.returns c).After-first_sent in
    let solved : Solved p a.t px py v.result =
    subst (λ z. Solved p a.t z py v.result) (front-all m px g.size_x few)
    (subst (λ z. Solved p a.t (take m (px ++ drop m (replicate 10 0))) z v.result) (front-all m py g.size_y few) v.ensures) in
    c.judged.ensures
    ∙ ap result_of
    (located-fit p (prime-of s.w) a.t s.need a.spare s.xs.now s.ys.now s.lengths points r.ys_value.0 r.ys_value.1 r.ys_value.2 px py
    g.gathered g.size_x (g.size_y ∙ sym g.size_x) (gathered-points p s.xs.now s.ys.now points m px py g.size_x g.size_y g.gathered) _
    solved)
