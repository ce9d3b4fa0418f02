use mathlib.Core.List.{[], ◌∷◌, ◌++◌}
use mathlib.Core.Path.{◌≡◌, sym, subst}
use Prim.Native.Nat.{ℕ, suc, ◌+◌, ◌<◌}
use native.Mathlib.Omega.{arith}
use lib.ListN.{length}
use Rattle.std.proofs.Common.{add-zero}
use Rattle.std.proofs.lemmas.List.{length_push}
use Rattle.lists.proofs.All.{all-get_or}
use Rattle.field.specs.Modulus.{prime_of}
use Rattle.field.proofs.Primes.{prime-of}
use Rattle.key_equation.proofs.Starting.{solving-start, solving-end}
use Rattle.key_equation.proofs.Stepping.{solving-next}
use Rattle.key_equation.proofs.Turns.{PointAt, turn-at, end-at}
use Rattle.key_equation.proofs.KeyEquation.solve_from.Goals.{In-Some}
use Rattle.key_equation.proofs.KeyEquation.solve_from.Goals as goal

-- The point at hand.
here : (c : In-Some)
    → PointAt c.args.k c.args.self.now.xs.now c.args.self.now.ys.now (length c.loop-x.yielded) c.in-Some.x.now c.in-Some.y.now
here c =
    let s = c.args.self.now in
    turn-at c.args.k s.xs.now s.ys.now c.loop-x.yielded c.into_iter-x-iterator.result c.loop-x.x-iterator c.next.new.self c.next.result (cc)
    (cc) c.loop-x.yielded_by (c.in-Some.x, c.in-Some.y) c.in-Some.is c.next.ensures.steps

pub loop-x-init : goal.loop-x-init
loop-x-init c =
    let s = c.args.self.now in
    let r = c.requires.k_bound in
    rw add-zero
    (solving-start _ (prime-of s.w) _ s.degree _ _ s.points s.values s.lengths s.enough s.f s.through _ r.0 r.1 c.requires.through _ s.most
    c.roots.ensures)

pub invariant_of-at : goal.invariant_of-at
invariant_of-at c =
    let s = c.args.self.now in
    let t = here (goal.at.invariant_of-at c).In-Some in
    let P = λ (x : ℕ). x < prime_of s.w in
    record {
      residues = (
        subst P (sym t.1) (all-get_or P s.xs.now _ 0 t.0 s.points.0),
        subst P (sym t.2) (all-get_or P s.ys.now _ 0 (omega (arith, t.0, s.lengths)) s.values),
      );
    }

pub loop-x-preserved : goal.loop-x-preserved
loop-x-preserved c =
    let s = c.args.self.now in
    let t = here (goal.at.loop-x-preserved c).In-Some in
    let one : c.args.k + length (c.loop-x.yielded ++ (c.in-Some.x, c.in-Some.y) ∷ []) ≡ suc (c.args.k + length c.loop-x.yielded) =
    omega (arith, length_push c.loop-x.yielded (c.in-Some.x, c.in-Some.y)) in
    rw one
    (solving-next _ (prime-of s.w) _ s.degree _ _ s.points.0 _ t.0 (omega (arith, t.0, s.most)) _ _ c.loop-x.invariant _ _ _ _ t.1 t.2
    c.step.ensures.shorter c.step.ensures.longer)

pub returns : goal.returns
returns c =
    let s = c.args.self.now in
    let e = end-at c.args.k s.xs.now s.ys.now c.loop-x.yielded c.into_iter-x-iterator.result c.loop-x.x-iterator c.next.new.self
    c.next.result (cc) (cc) c.loop-x.yielded_by c.requires.k_bound.1 s.lengths c.in-None.is c.next.ensures.steps in
    solving-end _ _ _ _ _ _ _ e c.loop-x.invariant
