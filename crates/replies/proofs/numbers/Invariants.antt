-- `replies::numbers` has written the numbers in front of the place where it stands.
use Rattle.std.proofs.Common.{map, take}
use Rattle.std.specs.Io.KnownBytes.{Appends}
use Rattle.replies.specs.Words.{number_words}
use Rattle.replies.proofs.numbers.Given as goal

abbrev pub invariant-loop-x : goal.invariant-loop-x
invariant-loop-x g l =
    Appends (g.W.Write.contents l.initial.out) (g.W.Write.contents l.out) (number_words (map g.N.Number.value (take l.x-index l.list)))
