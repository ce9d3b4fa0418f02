-- `recovery::heard_from` meets its contract: the first k numbers are written, and zeros stand behind them.
use Rattle.std.proofs.Common.{◌≡◌, ℕ, ◌+◌, ◌≤◌, length, take, set, ap, ◌∙◌, arith}
use Rattle.std.proofs.Math.Seq.{length-take-le, get_or-take}
use Rattle.lists.specs.Masks.{bit}
use Rattle.lists.specs.Tabulate.{tabulate, filled}
use Rattle.lists.proofs.Padded.{fill_start, fill-next, fill-front}
use Rattle.lists.specs.Choices.{hide}
use Rattle.recovery.proofs.Arrays.{heard_at, length-heard, get_or-heard, heard-member, heard-other}
use Rattle.recovery.proofs.heard_from.Goals.{then-set-k-eq1, else-set-k-eq1}
use Rattle.recovery.proofs.heard_from.Goals as goal

pub loop-k-init : goal.loop-k-init
loop-k-init c = fill_start (heard_at c.not_sent-unsent.result c.args.set c.args.heard) 16

pub loop-k-preserved : goal.loop-k-preserved
loop-k-preserved c =
    let a = c.args in
    let k = c.loop-k in
    let mark = c.not_sent-unsent.result in
    let told : ℕ → ℕ = heard_at mark a.set a.heard in
    let turn : (v : ℕ) → v ≡ told k.k → set k.list k.k v ≡ filled told 0 16 (k.k + 1) =
    λ v e. fill-next told 16 k.list k.k v k.invariant (omega (arith, length-take-le a.n a.heard (omega arith))) e in
    elim c.if-set-k-eq1.branch [
      | then-set-k-eq1 w ↦ turn _ (w.list-is ∙ get_or-take a.n a.heard k.k 0 (omega (arith, length-take-le a.n a.heard (omega arith))) ∙
          heard-member mark a.set a.heard k.k w.if-set-k-eq1.true)
      | else-set-k-eq1 w ↦ turn _ (w.list-is ∙ heard-other mark a.set a.heard k.k w.if-set-k-eq1.false)
    ]

pub returns : goal.returns
returns c =
    let a = c.args in
    let k = c.loop-k in
    let mark = c.not_sent-unsent.result in
    let inside : a.n ≤ length a.heard = omega arith in
    fill-front (heard_at mark a.set a.heard) 16 k.list k.k a.n (hide mark (tabulate (bit a.set) a.n) (take a.n a.heard)) k.invariant
    (omega (arith, length-take-le a.n a.heard inside))
    (length-heard mark a.set a.n a.heard inside) (get_or-heard mark a.set a.n a.heard inside)
    ∙ ap (λ m. hide m (tabulate (bit a.set) a.n) (take a.n a.heard)) c.not_sent-unsent.ensures
