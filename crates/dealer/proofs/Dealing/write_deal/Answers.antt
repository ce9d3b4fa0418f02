use Rattle.std.proofs.Common.{◌≡◌, sym, subst, ap, ◌∙◌, ◌++◌, ◌<◌, ◌≤◌, ◌-◌, ℕ, List, length, map, take, drop}
use Rattle.std.proofs.lemmas.List.{take-map, drop-map, map-append, length-map}
use native.Mathlib.Omega.{arith}
use lib.Seq.{length-take-le}
use Rattle.arrays.specs.Limits.{limit_of}
use Rattle.field.specs.Modulus.{prime_of}
use Rattle.field.proofs.Primes.{positive}
use Rattle.bivariate.specs.Bivariate.{row_in, column_in}
use Rattle.tables.proofs.Tables.{point-below}
use Rattle.dealer.proofs.Writing.{column-room, both-written, map-behind, map-back}
use Rattle.dealer.proofs.Dealing.write_deal.Goals as goal

-- What is lent for the row, and what stands once the row is written, as numbers.
front : {X : Type 0} (f : X → ℕ) (w : ℕ) (out : List X) (p x : ℕ) (F row : List ℕ) → row ≡ row_in p F x (map f (take w out))
    → row ≡ row_in p F x (take w (map f out))
front f w out p x F row e = e ∙ ap (row_in p F x) (sym (take-map f w out))

whole : {X : Type 0} (f : X → ℕ) (w : ℕ) (row out : List X) → map f (row ++ drop w out) ≡ map f row ++ drop w (map f out)
whole f w row out = map-append f row (drop w out) ∙ ap (λ l. map f row ++ l) (sym (drop-map f w out))

-- The point is a residue, as the coefficients are, and residues are numbers of the lent list.
pub row-requires : goal.row-requires
row-requires g c =
    let a = c.args.self.now in
    let out = c.args.out.now in
    let p = prime_of a.w in (
      a.coefficients,
      subst (λ x. x < p) (sym c.point_at-point.ensures) (point-below p a.table.now c.args.i (positive a.w) a.points),
      omega (arith, a.few, length-take-le a.terms out (omega (arith, c.requires.1))),
      subst (λ w. prime_of w ≤ limit_of g.N.Number.WIDTH) (sym c.requires.0) g.met.N.Number.holds_residues,
    )

pub column-requires : goal.column-requires
column-requires g c =
    let a = c.args.self.now in
    let f = g.N.Number.value in
    let out = c.args.out.now in
    let p = prime_of a.w in
    let behind = map-behind f a.terms _ _ (whole f a.terms c.row.new.out out) in
    let room = column-room p a.terms a.table.now a.list.now _ (map f out) _ a.square (length-map out f ∙ c.requires.1)
    (front f a.terms out p _ a.list.now _ c.row.ensures) in (
      a.coefficients,
      subst (λ x. x < p) (sym c.point_at-point.ensures) (point-below p a.table.now c.args.i (positive a.w) a.points),
      omega (arith, a.few, room, ap length behind, length-map (take (length (c.row.new.out ++ drop a.terms out) - a.terms) (drop a.terms (c.row.new.out ++ drop a.terms out))) f),
      subst (λ w. prime_of w ≤ limit_of g.N.Number.WIDTH) (sym c.requires.0) g.met.N.Number.holds_residues,
    )

pub returns : goal.returns
returns g c =
    let a = c.args.self.now in
    let f = g.N.Number.value in
    let out = c.args.out.now in
    let p = prime_of a.w in
    let lent = whole f a.terms c.row.new.out out in
    map-back f a.terms _ _ lent _
    ∙ both-written p a.terms a.table.now a.list.now _ (map f out) _ a.square (length-map out f ∙ c.requires.1) (front f a.terms out p _ a.list.now _ c.row.ensures)
    c.args.i _ c.point_at-point.ensures
    (c.column.ensures ∙ ap (column_in p a.list.now _) (map-behind f a.terms _ _ lent))
