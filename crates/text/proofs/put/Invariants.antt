-- After i turns the first i bytes of the word stand behind what was there.
use Rattle.std.proofs.Common.{◌≡◌, ◌+◌, ◌++◌, take, drop}
use Rattle.text.proofs.put.Given as goal

abbrev pub invariant-loop-i : goal.invariant-loop-i
invariant-loop-i l = record {
  text : take (l.at + l.i) l.out ≡ take l.at l.initial.out ++ take l.i l.word;
  rest : drop (l.at + l.i) l.out ≡ drop (l.at + l.i) l.initial.out;
}
