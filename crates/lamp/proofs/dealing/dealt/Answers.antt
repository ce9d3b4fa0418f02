use Rattle.std.proofs.Common.{suc, ◌≤◌, length, drop, map, add-one}
use Rattle.std.proofs.lemmas.List.{length-map}
use native.Mathlib.Omega.{arith}
use lib.ListN.{length-drop}
use lib.Seq.{take_all}
use Rattle.lamp.specs.Lamp.{with_deal}
use Rattle.lamp.proofs.Checks.{valid-facts}
use Rattle.lamp.proofs.dealing.dealt.Goals as goal

pub copied-requires : goal.copied-requires
copied-requires g c =
    let f = valid-facts c.args.lamp.party c.requires.0 in
    (omega (arith, f.degree, c.requires.1), omega (arith, f.degree))

pub returns : goal.returns
unfolding with_deal
returns g c =
    let t = c.args.lamp.party.t in
    let d = map g.N.Number.value c.args.deal.now in
    let all : length (drop (suc t) d) ≤ suc t = omega (arith, length-drop (suc t) d, length-map c.args.deal.now g.N.Number.value, c.requires.1) in
    simp (c.copied.ensures, c.copied-2.ensures, add-one t, take_all (suc t) (drop (suc t) d) all)
