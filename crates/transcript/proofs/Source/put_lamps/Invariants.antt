-- After k turns the lines of lamps 1 to k are there.
use Rattle.std.proofs.Common.{◌≡◌, ◌≤◌, ◌+◌, ◌*◌, length}
use Rattle.text.specs.Letters.{Added}
use Rattle.transcript.specs.Transcript.{lamp_lines}
use Rattle.transcript.proofs.Source.put_lamps.Given as goal

abbrev pub invariant-loop-k : goal.invariant-loop-k
invariant-loop-k l =
    (l.next ≤ l.at + 25 * l.k) × (length l.out ≡ length l.initial.out)
    × Added l.initial.out l.at (lamp_lines l.self.bytes.now l.self.head.width l.self.head.n l.self.head.t l.k) l.out l.next
