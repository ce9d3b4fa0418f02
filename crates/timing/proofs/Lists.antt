-- What follows from the tests of the lent lists.
--   admitted-facts   they are what `consistency` asks for
use mathlib.Core.Path.{◌≡◌}
use mathlib.Core.Bool.{true, ◌&&◌, and-eq-true_iff}
use mathlib.Core.List.{List}
use Prim.Native.Nat.{ℕ, ◌≤◌}
use borrow.Author.Tests.{leb-true}
use lib.Dec.{leb}
use lib.ListN.{length}
use Rattle.polynomial.specs.Polynomial.{Residues, residues}
use Rattle.polynomial.proofs.Below.{residues-facts}
use Rattle.timing.specs.Timing.{admitted}

pub admitted-facts : (p : ℕ) (T row column : List ℕ) → admitted p T row column ≡ true
    → Residues p T × (length row ≤ 4) × (length column ≤ 4)
unfolding admitted
admitted-facts p T row column e =
    let short = leb (length row) 4 in
    let all = (and-eq-true_iff (short && leb (length column) 4) (residues p T)).0 e in
    let both = (and-eq-true_iff short (leb (length column) 4)).0 all.0 in
    (residues-facts p T all.1, leb-true (length row) 4 both.0, leb-true (length column) 4 both.1)
