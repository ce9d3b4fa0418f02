use Rattle.std.proofs.Common.{◌≡◌, ◌+◌, length, refl, append-nil, arith}
use native.Mathlib.Nat.{add-zero}
use lib.Seq.{take-length}
use Rattle.text.proofs.Letters.{put-more, put_rest, putting-none, putting-all}
use Rattle.text.proofs.put.Goals as goal

pub returns-then-out-at : goal.returns-then-out-at
returns-then-out-at c = putting-none _ _ _ (omega arith)

pub returns-then-out-at-2 : goal.returns-then-out-at-2
returns-then-out-at-2 c = putting-none _ _ _ (omega arith)

pub loop-i-preserved : goal.loop-i-preserved
loop-i-preserved c =
    let k = c.loop-i in
    let a = c.args in
    record {
      text = put-more k.out a.out.now a.word.now a.at k.i (omega arith) (omega arith) k.invariant.text;
      rest = put_rest k.out a.out.now (a.at + k.i) (a.at + (k.i + 1)) _ (omega arith) k.invariant.rest;
    }

pub returns : goal.returns
returns c =
    let a = c.args in
    let e : c.loop-i.i ≡ length a.word.now = omega arith in
    putting-all a.out.now _ a.word.now a.at _ (omega arith)
    (record { next = refl; text = rw take-length at (rw e at c.loop-i.invariant.text); rest = rw e at c.loop-i.invariant.rest })
