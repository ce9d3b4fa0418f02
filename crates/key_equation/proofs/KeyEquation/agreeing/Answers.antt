use borrow.Author.Count.{below_more}
use borrow.Author.Tests.{eqb-true}
use mathlib.Core.Path.{◌≡◌, sym, ap, subst, ◌∙◌}
use Rattle.std.proofs.Common.{add-zero}
use mathlib.Core.List.{[], ◌∷◌, ◌++◌}
use Prim.Native.Nat.{ℕ, ◌+◌, ◌<◌}
use native.Mathlib.Omega.{arith}
use lib.ListN.{length}
use Rattle.std.proofs.lemmas.List.{length_push}
use Rattle.lists.proofs.All.{all-get_or}
use Rattle.lists.proofs.Padded.{four}
use Rattle.field.specs.Modulus.{prime_of}
use Rattle.polynomial.specs.Polynomial.{value}
use Rattle.polynomial.proofs.Division.{value-cubic}
use Rattle.key_equation.proofs.Given.{f-residues, f-through}
use Rattle.key_equation.proofs.Turns.{PointAt, counted-at}
use Rattle.key_equation.proofs.KeyEquation.agreeing.Goals.{In-Some}
use Rattle.key_equation.proofs.KeyEquation.agreeing.Goals as goal

-- The point at hand.
here : (c : In-Some)
    → PointAt (c.args.self.now.t + 1) c.args.self.now.xs.now c.args.self.now.ys.now (length c.loop-n.yielded) c.in-Some.x.now
    c.in-Some.y.now
here c =
    let s = c.args.self.now in
    counted-at (s.t + 1) s.xs.now s.ys.now c.loop-n.yielded c.into_iter-n-iterator.result c.loop-n.n-iterator c.next.new.self c.next.result
    (cc) (cc) (cc) c.loop-n.yielded_by c.in-Some.n c.in-Some.x c.in-Some.y c.in-Some.is c.next.ensures.steps

pub loop-n-init : goal.loop-n-init
loop-n-init c = rw add-zero (f-through c.args.self.now)

pub is_cubic_value-requires : goal.is_cubic_value-requires
is_cubic_value-requires c =
    let s = c.args.self.now in
    let t = here (goal.at.is_cubic_value-requires c).In-Some in
    let P = λ (x : ℕ). x < prime_of s.w in
    (f-residues s, subst P (sym t.1) (all-get_or P s.xs.now _ 0 t.0 s.points.0))

pub loop-n-preserved : goal.loop-n-preserved
loop-n-preserved c =
    let s = c.args.self.now in
    let t = here (goal.at.loop-n-preserved c).In-Some in
    let one : s.t + 1 + length (c.loop-n.yielded ++ (c.in-Some.n, (c.in-Some.x, c.in-Some.y)) ∷ [])
    ≡ s.t + 1 + length c.loop-n.yielded + 1 = omega (arith, length_push c.loop-n.yielded (c.in-Some.n, (c.in-Some.x, c.in-Some.y))) in
    let p = prime_of s.w in
    let x = c.in-Some.x.now in
    let hit : value p s.f x ≡ c.in-Some.y.now =
    ap (λ f. value p f x) (sym (four s.f (omega arith)))
    ∙ sym (value-cubic p _ _ _ _ x)
    ∙ eqb-true _ _ (sym c.is_cubic_value.ensures ∙ c.if-not-is_cubic_value.false) in
    rw one (below_more _ _ c.loop-n.invariant (ap (value p s.f) (sym t.1) ∙ hit ∙ t.2))
