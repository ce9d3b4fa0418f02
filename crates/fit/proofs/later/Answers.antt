-- `fit::later` meets its contract: nothing where none may be wrong, and else, since at most one polynomial fits, what the pairs or the
-- groups give.
use Rattle.std.proofs.Common.{◌≡◌, ℕ, true, ◌&&◌, eqb, ltb, sym, subst, ◌∙◌, arith, ◌-◌}
use mathlib.Core.Bool.{and-eq-true_iff}
use borrow.Author.Tests.{eqb-true}
use Rattle.field.specs.Modulus.{prime_of}
use Rattle.field.proofs.Primes.{prime-of}
use Rattle.fit.specs.Grouping.{Grouping}
use Rattle.fit.proofs.First.{fit-first-none}
use Rattle.fit.proofs.Grouping.{groups-start}
use Rattle.fit.proofs.later.Goals.{Else-s-received}
use Rattle.fit.proofs.later.Goals as goal

-- Cubics, with three wrong points.
cubics : (t wrong n : ℕ) → eqb t 3 && eqb wrong 3 && ltb n 16 ≡ true → (t ≡ 3) × (wrong ≡ 3)
cubics t wrong n h =
    let both = (and-eq-true_iff (eqb t 3) (eqb wrong 3)).0 ((and-eq-true_iff (eqb t 3 && eqb wrong 3) (ltb n 16)).0 h).0 in
    (eqb-true t 3 both.0, eqb-true wrong 3 both.1)

pub returns-then-s-received : goal.returns-then-s-received
returns-then-s-received c = fit-first-none _ _ _ _ _ _ c.requires.few.2 c.if-s-received.true c.requires.failed

-- The points are grouped, where some may be wrong.
grouped : (c : Else-s-received)
    → Grouping (prime_of c.args.received.now.w) c.args.t c.args.received.now.need c.args.received.now.xs.now c.args.received.now.ys.now 0
    c.args.s (c.args.s - c.args.received.now.need)
grouped c =
    let s = c.args.received.now in
    let r = c.requires in
    groups-start _ (omega (arith, (prime-of s.w).two)) _ _ _ _ _ (record { lengths = s.lengths; most = r.few.1 }) r.few.0 r.few.2
    c.if-s-received.false (omega (arith, r.few.3, c.if-s-received.false)) (s.points, r.distinct) r.failed

pub groups-requires : goal.groups-requires
groups-requires c = (grouped (goal.at.groups-requires c).Else-s-received, omega arith)

pub by_pairs-requires : goal.by_pairs-requires
by_pairs-requires c =
    let s = c.args.received.now in
    let a = c.args in
    let three = cubics a.t (a.s - s.need) a.s (sym c.short_of_groups.ensures ∙ c.if-short_of_groups.true) in (
      subst (λ t. Grouping (prime_of s.w) t s.need s.xs.now s.ys.now 0 a.s 3) three.0
          (subst (λ e. Grouping (prime_of s.w) a.t s.need s.xs.now s.ys.now 0 a.s e) three.1 (grouped (goal.at.by_pairs-requires c).Else-s-received)),
      omega (arith, three.0, three.1, c.requires.few.3, c.if-s-received.false),
    )
