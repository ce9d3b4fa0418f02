use mathlib.Core.Path.{◌≡◌, sym, ◌∙◌}
use mathlib.Core.List.{[], ◌∷◌, ◌++◌}
use Prim.Native.Nat.{◌+◌}
use native.Mathlib.Omega.{arith}
use lib.ListN.{length}
use Rattle.std.proofs.lemmas.List.{length_push}
use Rattle.field.specs.Modulus.{prime_of}
use Rattle.consistency.proofs.Reports.{report-one}
use Rattle.lists.proofs.Turns.{BothAt, turn-at}
use Rattle.consistency.proofs.Dealt.confirmed.Goals.{In-Some}
use Rattle.consistency.proofs.Dealt.confirmed.Goals as goal

-- The numbers at hand.
here : (c : In-Some)
    → BothAt c.args.firsts.now c.args.seconds.now (length c.loop-k.yielded) c.in-Some.k c.in-Some.first.now c.in-Some.second.now
here c =
    turn-at c.args.firsts.now c.args.seconds.now c.loop-k.yielded c.into_iter-k-iterator.result c.loop-k.k-iterator c.next.new.self
    c.next.result (cc) (cc) (cc) c.loop-k.yielded_by c.in-Some.k c.in-Some.first c.in-Some.second c.in-Some.is c.next.ensures.steps

pub loop-k-preserved-then-confirms : goal.loop-k-preserved-then-confirms
loop-k-preserved-then-confirms c =
    let s = c.args.self.now in
    let t = here (goal.at.loop-k-preserved-then-confirms c).In-Some in
    let one : length (c.loop-k.yielded ++ (c.in-Some.k, (c.in-Some.first, c.in-Some.second)) ∷ []) ≡ length c.loop-k.yielded + 1 =
    length_push c.loop-k.yielded (c.in-Some.k, (c.in-Some.first, c.in-Some.second)) in
    rw (one, t.1)
    (report-one (prime_of s.w) s.table.now s.i s.row s.column c.args.firsts.now c.args.seconds.now c.loop-k.bits _ c.loop-k.invariant
    (omega (arith, t.0, c.requires.few.0)) (rw (t.1, t.2, t.3) at (sym c.if-confirms.true ∙ c.confirms.ensures)))
