-- M1 to M12, the traps and the sayings hold of the definitions, all together, by computation, for either width; and so do the cases of
-- dark lamps, of station numbers and of wider numbers.
use mathlib.Core.Path.{◌≡◌, refl}
use mathlib.Core.Bool.{true}
use mathlib.Core.List.{List, ◌++◌, zip_with}
use lib.Count.{ones}
use Rattle.lists.specs.Masks.{mask}
use Rattle.lists.specs.Tabulate.{tabulate}
use Rattle.field.specs.Arithmetic.{add, sub, mul, inv, inv_within}
use Rattle.field.specs.declared.Width.{Width}
use Rattle.field.specs.declared.Width.TheVariants.{Narrow, Wide}
use Rattle.interpolation.specs.Interpolation.{interpolate}
use Rattle.mutual.specs.Agreement.{agree, agreements}
use Rattle.happy.specs.Happy.{joins, better, best, largest, largest_in, happy_set}
use Rattle.trial.specs.Trial.{hits, points_sent, through}
use Rattle.fit.specs.Fit.{sent, fit}
use Rattle.parties.specs.Parties.{sizes, is_party, not_sent}
use Rattle.tables.specs.Tables.{point_at, is_table}
use Rattle.dealer.specs.Desk.{deal, deals, desk_with}
use Rattle.consistency.specs.Deal.{sound, pair_for, confirms, report_of}
use Rattle.recovery.specs.Recovery.{repair}
use Rattle.lamp.specs.Lamp.{make_with, with_deal, with_pairs, said_pair, report_from, at_end, settled, opening, step}
use Rattle.agreement.specs.Marked.{Case, holds, every, table, traps, sayings}
use Rattle.agreement.specs.Harbour as harbours
use Rattle.agreement.specs.Wider as wider
use Rattle.agreement.specs.Missing.{missing_shares, unaffected, missing_pairs, most_missing}

-- All cases of a list hold, for numbers of the width w: marked ones, and such with tables.
abbrev Hold : Width → List Case → Type 0
Hold w cases = every (holds w) cases ≡ true

abbrev HoldAt : Width → List harbours.Case → Type 0
HoldAt w cases = every (harbours.holds w) cases ≡ true

-- What is said of either width, and what of each.
abbrev either : Width → List Case
either w =
    table w ++ traps w ++ sayings w ++ missing_shares w ++ unaffected w ++ missing_pairs w ++ most_missing w
    ++ wider.refused w ++ wider.order w ++ wider.edges w

abbrev Computed : Width → Type 0
Computed Narrow =
    Hold Narrow (either Narrow ++ wider.only_narrow) × HoldAt Narrow (harbours.harbour ++ harbours.refused ++ wider.bad_tables Narrow)
Computed Wide = Hold Wide (either Wide ++ wider.only_wide) × HoldAt Wide (wider.harbour ++ wider.bad_tables Wide)

computed : (w : Width) → Computed w
unfolding
    holds harbours.holds step make_with settled repair opening at_end with_deal with_pairs said_pair pair_for report_from report_of confirms mask
    sound sizes is_party is_table point_at not_sent desk_with deals deal fit points_sent hits sent through interpolate zip_with
    happy_set largest_in largest best better joins agreements agree tabulate add sub mul inv inv_within ones
computed Narrow = (refl, refl)
computed Wide = (refl, refl)

pub marked-hold : every (holds Narrow) (either Narrow ++ wider.only_narrow) ≡ true
marked-hold = (computed Narrow).0

pub harbour-hold : every (harbours.holds Narrow) (harbours.harbour ++ harbours.refused ++ wider.bad_tables Narrow) ≡ true
harbour-hold = (computed Narrow).1

pub wide-hold : every (holds Wide) (either Wide ++ wider.only_wide) ≡ true
wide-hold = (computed Wide).0

pub wide-harbour-hold : every (harbours.holds Wide) (wider.harbour ++ wider.bad_tables Wide) ≡ true
wide-harbour-hold = (computed Wide).1
