-- Records with shares missing, by the theorem of what is printed itself. Lamp 4 is faulty and publishes 999. With three honest shares
-- published the secret is printed as opened (`missing-printed`); with one, the secret or that it is refused with 10 (`alone-printed`).
--   partly ys                 the record in which ys are published
--   few-faithful, few-dealt   it meets the premises, whatever is published
--   missing-published, three-published, alone-published   the two lists are such as the theorem asks for
use mathlib.Core.Path.{◌≡◌, refl}
use mathlib.Core.Logic.{◌⊎◌}
use mathlib.Core.Bool.{Bool, true, not, false≢true}
use mathlib.Core.List.{List, [], ◌∷◌, zip_with}
use Prim.Native.Nat.{ℕ, ◌+◌, ◌*◌, ◌≤◌, ◌<◌}
use native.Mathlib.Omega.{arith}
use lib.Dec.{lit≤, eqb}
use lib.ListN.{replicate}
use Rattle.lists.specs.Tabulate.{tabulate}
use Rattle.field.specs.declared.Width.TheVariants.{Narrow}
use Rattle.field.specs.Arithmetic.{add, mul, pow}
use Rattle.bivariate.specs.Bivariate.{at}
use Rattle.parties.specs.Parties.{sizes, entry}
use Rattle.tables.specs.Tables.{one_to, point_at, is_table}
use Rattle.dealer.specs.Desk as desks
use Rattle.answers.specs.declared.Refusal.TheVariants.{NoOpening}
use Rattle.answers.specs.Refusals.{refusal_number}
use Rattle.record.specs.Bytes.{paired, stand_at}
use Rattle.record.specs.Record.{directory, directory_right, width_of, t_of, reading_as, reading, IsRecord, section_of, numbers_of}
use Rattle.record.proofs.Answers.{fine-record}
use Rattle.writer.specs.Writer.{parted, record_of}
use Rattle.text.specs.Letters.{letters, line}
use Rattle.agreement.specs.Setting.{with_table, desk_for, value_of}
use Rattle.agreement.specs.Demand3.{HonestDealer}
use Rattle.printed.specs.Direct.{its_deal}
use Rattle.printed.specs.Printed.{setting_of, story, Faithful, PublishedOrNot, honest_published, opens_line, Accepted, Printed}
use Rattle.printed.proofs.Examples.{dealt, heard, reported, five, faithful-with}
use Rattle.printed.proofs.Printed.{printed}

-- What is dealt, who is honest, and the record.
abbrev F : List ℕ
F = 7 ∷ 2 ∷ 3 ∷ 4 ∷ []

abbrev all_but_4 : ℕ → Bool
all_but_4 i = not (eqb i 4)

abbrev pub partly : List ℕ → List ℕ
partly ys = record_of Narrow 5 1 dealt heard reported ys

module _ (ys : List ℕ) where
  pub few-faithful : Faithful all_but_4 (partly ys)
  unfolding record_of width_of tabulate
  few-faithful =
      let all = faithful-with ys in
      record {
        few = lit≤ tt;
        own = λ i h. all.own i (record { party = h.party; good = refl });
        hear = λ i j hi hj. all.hear i j (record { party = hi.party; good = refl }) (record { party = hj.party; good = refl });
      }

  pub few-dealt : HonestDealer (setting_of (partly ys)) (story all_but_4 (partly ys)) F
  unfolding record_of section_of width_of directory parted paired desks.desk_with desks.deals desks.deal sizes is_table point_at tabulate
      zip_with add mul
  few-dealt = record {
    table = one_to 5;
    loaded = refl;
    lent = replicate 20 0;
    written = refl;
    deals = λ i h.
        five
        (λ i. its_deal (partly ys) i ≡ desks.stretch 2 (desk_for (with_table (setting_of (partly ys)) (one_to 5)) F (replicate 20 0)).0 i)
        refl refl refl refl refl i h.party;
  }

  few-accepted : IsRecord (partly ys) → Accepted all_but_4 (partly ys) F
  unfolding Printed
  few-accepted is = ((printed all_but_4 (partly ys) is few-faithful).dealer F few-dealt).0

-- The request's second list: lamps 1, 2 and 5 have published their shares, 3 nothing, 4 a lie.
abbrev enough : List ℕ
enough = partly (10 ∷ 13 ∷ 65535 ∷ 999 ∷ 22 ∷ [])

enough-record : IsRecord enough
unfolding record_of reading reading_as width_of directory_right directory stand_at parted sizes
enough-record = fine-record enough Narrow 5 1 refl

pub missing-published : PublishedOrNot all_but_4 enough F
unfolding record_of section_of width_of directory parted paired at pow point_at tabulate add mul
missing-published j h =
    five
    (λ j. all_but_4 j ≡ true → entry (numbers_of enough 3) j < 65521 → entry (numbers_of enough 3) j ≡ value_of (setting_of enough) F j 0)
    (λ good s. refl) (λ good s. refl) (λ good s. absurd (omega arith)) (λ good s. absurd (false≢true good)) (λ good s. refl) j
    h.party h.good

pub three-published : 2 * t_of enough + 1 ≤ honest_published all_but_4 enough
unfolding record_of section_of width_of directory parted paired tabulate
three-published = lit≤ tt

pub missing-printed : opens_line all_but_4 enough ≡ line (letters "opened ") (value_of (setting_of enough) F 0 0)
missing-printed = (few-accepted _ enough-record).opens_enough missing-published three-published

-- Lamp 2 alone has published its share, beside the lie.
abbrev alone : List ℕ
alone = partly (65535 ∷ 13 ∷ 65535 ∷ 999 ∷ 65535 ∷ [])

alone-record : IsRecord alone
unfolding record_of reading reading_as width_of directory_right directory stand_at parted sizes
alone-record = fine-record alone Narrow 5 1 refl

pub alone-published : PublishedOrNot all_but_4 alone F
unfolding record_of section_of width_of directory parted paired at pow point_at tabulate add mul
alone-published j h =
    five
    (λ j. all_but_4 j ≡ true → entry (numbers_of alone 3) j < 65521 → entry (numbers_of alone 3) j ≡ value_of (setting_of alone) F j 0)
    (λ good s. absurd (omega arith)) (λ good s. refl) (λ good s. absurd (omega arith)) (λ good s. absurd (false≢true good))
    (λ good s. absurd (omega arith)) j h.party h.good

pub alone-printed : (opens_line all_but_4 alone ≡ line (letters "opened ") (value_of (setting_of alone) F 0 0))
    ⊎ (opens_line all_but_4 alone ≡ line (letters "opened refused ") (refusal_number NoOpening))
alone-printed = (few-accepted _ alone-record).opens_no_other alone-published
