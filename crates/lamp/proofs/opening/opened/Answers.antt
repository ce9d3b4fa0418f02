use Rattle.std.proofs.Common.{ap, take, ◌∙◌, map}
use native.Mathlib.Omega.{arith}
use Rattle.std.proofs.lemmas.List.{length-map}
use Rattle.recovery.specs.Recovery.{opening_in}
use Rattle.recovery.proofs.Fitting.{opening-admitted}
use Rattle.lamp.specs.Lamp.{opening, opened_by}
use Rattle.field.specs.Modulus.{prime_of}
use Rattle.lamp.proofs.Checks.{valid-facts}
use Rattle.lamp.proofs.Outcomes.{opened-decoded}
use Rattle.lamp.proofs.opening.opened.Goals as goal

pub lent-list-requires : goal.lent-list-requires
lent-list-requires g c = let f = valid-facts c.args.lamp.party c.requires.0 in omega (arith, f.room, c.requires.1)

pub returns : goal.returns
unfolding opening
returns g c =
    let l = c.args.lamp in
    let a = l.party in
    let value = g.N.Number.value in
    let xs = map value c.args.shares.now in
    let e = c.group-group.ensures in
    c.opened_by.ensures
    ∙ ap (opened_by l) ((rw (e.0, e.1, e.2, e.3) at c.opening-opening.ensures)
    ∙ ap (λ ys. opening_in (prime_of a.width) a.n a.t (take a.n a.table) a.number l.sharing.share ys) c.lent-list.ensures
    ∙ opening-admitted _ _ _ _ _ _ _ c.requires.0.size c.requires.0.party (length-map c.args.shares.now value ∙ c.requires.1))
    ∙ opened-decoded l (opening l xs)
