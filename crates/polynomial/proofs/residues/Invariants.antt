-- What is left of the list decides.
use Rattle.polynomial.proofs.residues.Given as goal
use Rattle.polynomial.specs.Polynomial.{residues}
use Rattle.std.proofs.Common.{◌≡◌, drop}

abbrev pub invariant-loop-c : goal.invariant-loop-c
invariant-loop-c l = residues l.p (drop l.c-index l.list) ≡ residues l.p l.list
