use Rattle.std.proofs.Common.{ap, add-one, Ok}
use native.Mathlib.Omega.{arith}
use Rattle.consistency.specs.declared.Pair.{Pair as Said}
use Rattle.answers.specs.declared.Answer.TheVariants.{Pair}
use Rattle.lamp.specs.Lamp.{reply, said_pair}
use Rattle.lamp.proofs.Checks.{valid-facts}
use Rattle.lamp.proofs.Outcomes.{few}
use Rattle.lamp.proofs.dealing.said.Goals as goal

pub shared_ref_as_front-pair_for : goal.shared_ref_as_front-pair_for
shared_ref_as_front-pair_for c = let f = valid-facts c.args.lamp.party c.requires in f.room

pub shared_ref_as_front-pair_for-2 : goal.shared_ref_as_front-pair_for-2
shared_ref_as_front-pair_for-2 c = let f = valid-facts c.args.lamp.party c.requires in omega (arith, f.degree)

pub pair_for-pair-requires : goal.pair_for-pair-requires
pair_for-pair-requires c =
    let l = c.args.lamp in
    let f = valid-facts l.party c.requires in
    (f.table.below, few l.party.t l.sharing.row f.degree (omega arith), few l.party.t l.sharing.column f.degree (omega arith))

pub returns : goal.returns
unfolding said_pair
returns c = ap (λ (q : Said). reply c.args.lamp (Ok (Pair q.first q.second))) (rw (add-one c.args.lamp.party.t) at c.pair_for-pair.ensures)
