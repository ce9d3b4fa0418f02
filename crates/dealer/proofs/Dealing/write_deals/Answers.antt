use Rattle.std.proofs.Common.{◌≡◌, ◌∙◌, ◌*◌, ◌+◌, ◌-◌, map}
use Rattle.std.proofs.lemmas.List.{length-map}
use native.Mathlib.Omega.{arith}
use Rattle.dealer.proofs.Writing.{deals-start, deals-next, deals-end, map-put_mid}
use Rattle.dealer.proofs.Dealing.write_deals.Goals as goal

pub loop-k-init : goal.loop-k-init
loop-k-init g c =
    let none : 0 * (2 * c.args.self.now.terms) ≡ 0 = omega arith in
    rw none (deals-start _ _ _ _ c.args.n _ c.args.self.now.square (length-map _ _ ∙ c.requires.2))

pub loop-k-preserved : goal.loop-k-preserved
loop-k-preserved g c =
    let k = c.loop-k in
    let w = c.args.self.now.terms in
    let value = g.N.Number.value in
    let start = k.k * (2 * w) in
    let next = deals-next _ w _ _ c.args.n (map value k.out) k.k start k.invariant (map value c.write_deal.new.out) (omega arith)
    c.write_deal.ensures in
    let place : (k.k + 1) * (2 * w) ≡ start + 2 * w = omega arith in
    rw (c.from.ensures, place, map-put_mid value start (start + 2 * w - start) k.out c.write_deal.new.out) next

pub returns : goal.returns
returns g c = let k = c.loop-k in deals-end _ _ _ _ c.args.n _ k.k _ k.invariant (omega arith)
