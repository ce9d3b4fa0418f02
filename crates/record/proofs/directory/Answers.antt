use Rattle.std.proofs.Common.{◌≡◌, ℕ, ◌+◌, ◌*◌, ◌≤◌, sym, ◌∙◌, true, arith}
use Rattle.parties.specs.Parties.{sizes}
use Rattle.record.proofs.Sections.{counts-small, lengths-small, directory-legal, directory-zeros, directory-made}
use Rattle.record.proofs.directory.Goals as goal

-- Legal sizes are small, so the counts and the lengths are.
legal : (c : goal.After-from) → sizes c.from-n.result c.from.result ≡ true
legal c = rw (c.from-n.ensures, c.from.ensures) (sym c.if-not-sizes.ensures)

long : (c : goal.After-from) → let n : ℕ = c.from-n.result in
    let t : ℕ = c.from.result in let each : ℕ = c.number_bytes-each.result in
    (each * (2 * n * (t + 1)) ≤ 512) × (each * (2 * n * n) ≤ 2048) × (each * n ≤ 64)
long c = lengths-small _ _ (legal c) _ c.number_bytes-each.ensures.1

pub returns-then-not-sizes : goal.returns-then-not-sizes
returns-then-not-sizes c = directory-zeros c.args.w c.args.n c.args.t (sym c.sizes.ensures ∙ c.if-not-sizes.true)

pub overflow_mul-deals-2 : goal.overflow_mul-deals-2
overflow_mul-deals-2 c = omega (arith, counts-small _ _ (legal c))

pub overflow_mul-deals-3 : goal.overflow_mul-deals-3
overflow_mul-deals-3 c = omega (arith, long c)

pub overflow_mul-pairs-2 : goal.overflow_mul-pairs-2
overflow_mul-pairs-2 c = omega (arith, counts-small _ _ (legal c))

pub overflow_mul-pairs-3 : goal.overflow_mul-pairs-3
overflow_mul-pairs-3 c = omega (arith, long c)

pub overflow_add-second : goal.overflow_add-second
overflow_add-second c = omega (arith, long c)

pub overflow_add-third : goal.overflow_add-third
overflow_add-third c = omega (arith, long c)

pub overflow_add-fourth : goal.overflow_add-fourth
overflow_add-fourth c = omega (arith, long c, counts-small _ _ (legal c))

pub returns : goal.returns
returns c =
    let w = c.args.w in
    let n : ℕ = c.from-n.result in
    let t : ℕ = c.from.result in
    rw (← c.from-n.ensures, ← c.from.ensures)
    (directory-made w n t c.number_bytes-each.result c.number_bytes-each.ensures.0 ∙ sym (directory-legal w n t (legal c)))
