-- `bivariate::row` meets its contract: a turn of the loop.
use Rattle.bivariate.proofs.Loops.{row_next}
use Rattle.bivariate.proofs.row.Goals as goal
use Rattle.field.specs.Modulus.{prime_of}
use Rattle.polynomial.specs.Polynomial as polynomial
use Rattle.polynomial.specs.declared.Scheme.{Scheme}
use Rattle.std.proofs.Common.{◌∙◌, ap, arith, map}
use Rattle.std.proofs.lemmas.List.{map-set, length-map}

pub loop-place-preserved : goal.loop-place-preserved
loop-place-preserved g c =
    let p = prime_of c.args.w in
    let k = c.loop-place in
    let value = g.N.Number.value in
    rw (map-set value k.out k.place-index c.narrow.result)
    (row_next p c.args.f.now c.args.y _ (map value k.out) k.place-index k.rest.now _ _ k.invariant (omega arith) (omega (arith, length-map k.out value))
    (c.narrow.ensures ∙ ap (λ (r : Scheme). r.value) c.divided_at_once.ensures.0 ∙ ap (λ z. polynomial.value p z c.args.y) c.split_at.ensures.front)
    c.split_at.ensures.back)
