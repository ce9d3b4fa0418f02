-- `bivariate::by_values` meets its contract: the numbers of the column are written one after another.
use Rattle.bivariate.proofs.Crossing.{length-column}
use Rattle.bivariate.proofs.Loops.{column-next}
use Rattle.bivariate.proofs.by_values.Goals as goal
use Rattle.field.specs.Modulus.{prime_of}
use Rattle.std.proofs.Common.{◌∙◌, length, map, arith}
use Rattle.std.proofs.lemmas.List.{map-set, length-map}
use lib.Seq.{ext_get_or}

pub loop-v-preserved : goal.loop-v-preserved
loop-v-preserved g c =
    let value = g.N.Number.value in
    let v = c.loop-v in
    rw (map-set value v.out v.v c.narrow.result)
    (column-next (map value v.out) _ v.v _ v.invariant (omega (arith, length-map v.out value)) (c.narrow.ensures ∙ c.column_value.ensures.0))

pub returns : goal.returns
returns g c =
    let n = length c.args.out.now in
    let written = length-map c.loop-v.out g.N.Number.value in
    let size = length-column (prime_of c.args.w) n n c.args.f.now c.args.x c.requires.out_len_bound.1 in
    ext_get_or 0 _ _ (omega arith) (λ k h. c.loop-v.invariant k (omega arith))
