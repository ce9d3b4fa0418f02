-- `field::by_one_inverse` meets its contract: each coefficient is a quotient of products.
use Rattle.lists.proofs.All.{all-get_or}
use Rattle.field.proofs.Primes.{prime-of}
use Rattle.field.proofs.Slopes.{by-quotients, listed}
use Rattle.field.proofs.by_one_inverse.Goals as goal
use Rattle.field.specs.Modulus.{prime_of}
use Rattle.std.proofs.Common.{ℕ, ◌<◌, get_or, lit<, arith}

pub returns : goal.returns
returns c =
    let p : ℕ = prime_of c.args.w in
    let x = c.args.x in
    let e = c.args.rises in
    let below : (k : ℕ) → k < 3 → get_or e k 0 < p = λ k h. all-get_or (λ v. v < p) e k 0 (omega arith) c.requires.residues.1 in
    let found = by-quotients p c.args.first
    (get_or x 0 0) (get_or x 1 0) (get_or x 2 0) (get_or x 3 0) (get_or e 0 0) (get_or e 1 0) (get_or e 2 0)
    (prime-of c.args.w) (below 0 (lit< tt)) (below 1 (lit< tt)) (below 2 (lit< tt)) (rw c.requires.all_value at c.requires.all_bound.0) in
    let whole = listed p c.args.first x e (omega arith) (omega arith) in
    cc
