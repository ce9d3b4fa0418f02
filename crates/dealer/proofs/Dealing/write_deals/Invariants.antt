use Rattle.std.proofs.Common.{map, ◌*◌}
use Rattle.field.specs.Modulus.{prime_of}
use Rattle.dealer.proofs.Writing.{DealsLoop}
use Rattle.dealer.proofs.Dealing.write_deals.Given as goal

-- The deals of the first k parties are written.
abbrev pub invariant-loop-k : goal.invariant-loop-k
invariant-loop-k g l =
    DealsLoop (prime_of l.self.w) l.self.terms l.self.table.now l.self.list.now l.n (map g.N.Number.value l.out) l.k (l.k * (2 * l.self.terms))
