-- A story with shares missing, by demand 3 itself: five lamps, an honest dealer, lamp 3 faulty. Lamp 5 opens a list with two honest shares
-- and a lie; its own is the third, and 2t + 1 are enough (`missing-opened`). Then it opens the lie alone: no other honest share is there,
-- and it answers the secret or 10 (`alone-answered`).
use mathlib.Core.Path.{◌≡◌, refl, sym}
use mathlib.Core.Logic.{◌⊎◌}
use mathlib.Core.Bool.{false≢true}
use mathlib.Core.List.{List, [], ◌∷◌}
use Prim.Native.Nat.{ℕ, zero, suc, ◌≤◌, ◌<◌}
use native.Mathlib.Omega.{arith}
use lib.Dec.{lit≤}
use Rattle.lists.specs.Tabulate.{tabulate}
use Rattle.field.specs.declared.Width.{Width}
use Rattle.field.specs.declared.Width.TheVariants.{Narrow, Wide}
use Rattle.field.specs.Modulus.{prime_of}
use Rattle.field.specs.Arithmetic.{add, mul, pow}
use Rattle.bivariate.specs.Bivariate.{at}
use Rattle.parties.specs.Parties.{is_party}
use Rattle.parties.proofs.Parties.{party-facts}
use Rattle.tables.specs.Tables.{one_to, point_at}
use Rattle.lamp.specs.Lamp.{Call, open_shares}
use Rattle.agreement.specs.Setting.{point, value_of, answer_at}
use Rattle.agreement.specs.Calls.{since_settling}
use Rattle.agreement.specs.Demand1.{unsent}
use Rattle.agreement.specs.Demand3.{Execution, Honest, Gives, Refuses, ShareOrUnsent, honest_there, share_of}
use Rattle.agreement.specs.Stories.{run_of, execution, an_f, five, honest_dealer, one_lie, two_missing, lie_alone}
use Rattle.agreement.proofs.Stories.{plain-accepted}
use Rattle.answers.specs.Answers.{Answered}

module _ (w : Width) where
  abbrev story : Execution
  story = execution (five w) (honest_dealer w (one_to 5))

  -- Its openings, as calls.
  abbrev first : Call
  first = open_shares w (one_lie w (one_to 5))

  abbrev second : Call
  second = open_shares w (two_missing w (one_to 5))

  -- An honest lamp's share, by demand 3.
  holds : (j : ℕ) → Honest (five w) story j → share_of (five w) story j ≡ value_of (five w) an_f (point (five w) j) 0
  holds j h = ((plain-accepted w).hold j h).stays.shares (first ∷ second ∷ open_shares w (lie_alone w (one_to 5)) ∷ []) ([], refl)

-- What a sender writes for "not sent" is no residue.
no-residue : (w : Width) → unsent w < prime_of w → ⊥
no-residue Narrow h = omega arith
no-residue Wide h = omega arith

places : (w : Width) → ShareOrUnsent (five w) (story w) 5 (two_missing w (one_to 5))
unfolding tabulate
places w zero h d was-sent = absurd (omega (arith, party-facts 5 zero h.party))
places w (suc zero) h d was-sent = sym (holds w 1 h)
places w (suc (suc zero)) h d was-sent = sym (holds w 2 h)
places w (suc (suc (suc zero))) h d was-sent = absurd (false≢true h.good)
places w (suc (suc (suc (suc zero)))) h d was-sent = absurd (no-residue w was-sent)
places w (suc (suc (suc (suc (suc zero))))) h d was-sent = absurd (d refl)
places w (suc (suc (suc (suc (suc (suc j)))))) h d was-sent =
    absurd (omega (arith, party-facts 5 (suc (suc (suc (suc (suc (suc j)))))) h.party))

-- Lamps 1 and 2, and lamp 5 itself.
three-there : (w : Width) → 3 ≤ honest_there (five w) (story w) 5 (two_missing w (one_to 5))
unfolding tabulate at pow add mul point_at
three-there Narrow = lit≤ tt
three-there Wide = lit≤ tt

-- What lamp 5 answers to an opening, after settling and the calls xs.
abbrev answer : (w : Width) → List Call → List ℕ → Answered
answer w xs ys = answer_at (five w) 5 (since_settling (run_of (five w) (honest_dealer w (one_to 5)) 5) xs) (open_shares w ys)

pub missing-opened : (w : Width) → Gives (answer w (first w ∷ []) (two_missing w (one_to 5))) (value_of (five w) an_f 0 0 ∷ [])
unfolding tabulate is_party
missing-opened w =
    ((plain-accepted w).hold 5 (record { party = refl; good = refl })
    ).opens_enough (first w ∷ []) (two_missing w (one_to 5)) (open_shares w (lie_alone w (one_to 5)) ∷ [], refl) refl (places w) (three-there w)

-- Of the others' places at lie_alone only the liar's holds a number.
alone-places : (w : Width) → ShareOrUnsent (five w) (story w) 5 (lie_alone w (one_to 5))
unfolding tabulate
alone-places w zero h d was-sent = absurd (omega (arith, party-facts 5 zero h.party))
alone-places w (suc zero) h d was-sent = absurd (no-residue w was-sent)
alone-places w (suc (suc zero)) h d was-sent = absurd (no-residue w was-sent)
alone-places w (suc (suc (suc zero))) h d was-sent = absurd (false≢true h.good)
alone-places w (suc (suc (suc (suc zero)))) h d was-sent = absurd (no-residue w was-sent)
alone-places w (suc (suc (suc (suc (suc zero))))) h d was-sent = absurd (d refl)
alone-places w (suc (suc (suc (suc (suc (suc j)))))) h d was-sent =
    absurd (omega (arith, party-facts 5 (suc (suc (suc (suc (suc (suc j)))))) h.party))

pub alone-answered : (w : Width) → let a = answer w (first w ∷ second w ∷ []) (lie_alone w (one_to 5)) in
    Gives a (value_of (five w) an_f 0 0 ∷ []) ⊎ Refuses a 10
unfolding tabulate is_party
alone-answered w =
    ((plain-accepted w).hold 5 (record { party = refl; good = refl })
    ).opens_no_other (first w ∷ second w ∷ []) (lie_alone w (one_to 5)) ([], refl) refl (alone-places w)
