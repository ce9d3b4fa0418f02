-- Demand 2, one type: dealing, the happy set, repair and opening are right, for any lamp and any list that the caller's refusals do not
-- meet. Which number a refusal has, when it is given and what it leaves is demand 1.
--   Takes, Hears, Settles, Opens   nothing is wrong with the call: none of 1, 2, 18, 3, 14, 4 and 7 applies
--   FewAgree n t rs                no n − t parties all agree with each other
--   its_points l                   the points of all parties: the first n numbers of the lamp's table
--   points_in l S, heard_in l S    the points of the parties in S, and what the lamp l heard first from them
--   FitsHeard l S f                f fits that (the protocol's "fits", of a repair, is fit's `Near`)
--   with_own l xs                  the published shares xs with the lamp's own in its own place
--   FitsShares l xs f              f fits these by the rule for openings, fit's `Opening`; NearShares l xs f: at most t of all differ
--   standing l stage S v           the very lamp l, at this stage, with the set S and the share v
--   EndsHolding l S v r            the reply r accepts and leaves the lamp l holding, with the set S and the share v
--   TakesRight, HearsRight, KeepsRight, RepairsRight, OpensRight, DealsRight   what the demand says of each
--   Demand2                        the demand, for every lamp and desk of either width, with any table
use Rattle.std.specs.Prelude.{◌≡◌, ◌↔◌, true, false, List, [], ◌∷◌, ◌++◌, ℕ, suc, ◌*◌, ◌-◌, ◌^◌, ◌≤◌, ◌<◌, length, take, set}
use Rattle.std.proofs.Math.Option.{none}
use Rattle.std.specs.Int.Count.{ones}
use Rattle.lists.specs.Masks.{bit, members}
use Rattle.lists.specs.Tabulate.{tabulate}
use Rattle.field.specs.declared.Width.{Width}
use Rattle.bivariate.specs.Bivariate.{row, column}
use Rattle.polynomial.specs.Polynomial.{value}
use Rattle.mutual.specs.Agreement.{agree}
use Rattle.happy.specs.Clique.{Clique, Largest}
use Rattle.lists.specs.Choices.{select}
use Rattle.fit.specs.Fit.{Near}
use Rattle.fit.specs.Opening.{Opening}
use Rattle.parties.specs.Parties.{is_party, member, entry}
use Rattle.dealer.specs.Desk as desks
use Rattle.answers.specs.declared.Stage.{Stage}
use Rattle.answers.specs.declared.Stage.TheVariants.{Waiting, Dealt, Reported, Holding}
use Rattle.lamp.specs.declared.Lamp.{Lamp}
use Rattle.lamp.specs.declared.Reply.{Reply}
use Rattle.consistency.specs.Deal.{row_of, column_of, first_from, report_of}
use Rattle.answers.specs.Refusals.{number_of}
use Rattle.answers.specs.Fits.{constant}
use Rattle.lamp.specs.Lamp.{Valid, its_prime, row_of_lamp, column_of_lamp, take_deal, hear_pairs, settle, open_shares, step}
use Rattle.agreement.specs.Setting.{Setting, setting, prime, terms, value_of, row_for, column_for, desk_for}
use Rattle.agreement.specs.Demand3.{Gives, Refuses}

-- No n − t parties all agree with each other.
abbrev pub FewAgree : ℕ → ℕ → List ℕ → Type 0
FewAgree n t rs = (S : ℕ) → S < 2 ^ n → Clique (agree rs) S → members S n < n - t

-- The first n numbers of the table that the lamp holds.
abbrev pub its_points : Lamp → List ℕ
its_points l = take l.party.n l.party.table

-- The points and the first numbers heard, of the parties in S.
abbrev pub points_in : Lamp → ℕ → List ℕ
points_in l S = select (tabulate (bit S) l.party.n) (its_points l)

abbrev pub heard_in : Lamp → ℕ → List ℕ
heard_in l S = select (tabulate (bit S) l.party.n) (take l.party.n l.sharing.heard)

-- "the points (j, first number heard from j) for happy j", each j standing for its point
abbrev pub FitsHeard : Lamp → ℕ → List ℕ → Type 0
FitsHeard l S f = Near (its_prime l.party) l.party.t (points_in l S) (heard_in l S) f

-- "n published shares", "its own place in favour of its own share"
abbrev pub with_own : Lamp → List ℕ → List ℕ
with_own l xs = set xs (l.party.number - 1) l.sharing.share

-- "at least 2t+1 published shares agree with the polynomial and at most t of those sent differ"
abbrev pub FitsShares : Lamp → List ℕ → List ℕ → Type 0
FitsShares l xs f = Opening (its_prime l.party) l.party.t (its_points l) (with_own l xs) f

-- What an opening was before lamps could be dark: at most t of all n differ.
abbrev pub NearShares : Lamp → List ℕ → List ℕ → Type 0
NearShares l xs f = Near (its_prime l.party) l.party.t (its_points l) (with_own l xs) f

-- The very lamp, at this stage with this set and share; every other field as it was.
abbrev pub standing : Lamp → Stage → ℕ → ℕ → Lamp
standing l stage S v = record {
  party = l.party;
  sharing = record {
    stage = stage;
    row = l.sharing.row;
    column = l.sharing.column;
    heard = l.sharing.heard;
    report = l.sharing.report;
    happy = S;
    share = v;
  };
}

-- The reply accepts, and leaves the lamp l holding, with the set S and the share v.
pub record EndsHolding (l : Lamp) (S v : ℕ) (r : Reply) : Type 0 where
  pub answered : Gives r.answer []
  pub left : r.lamp ≡ standing l Holding S v

-- Nothing is wrong with giving the lamp l the deal d, in numbers of the width w.
pub record Takes (l : Lamp) (w : Width) (d : List ℕ) : Type 0 where
  pub valid : Valid l.party
  pub own_width : w ≡ l.party.width
  pub stage : l.sharing.stage ≡ Waiting
  pub long : length d ≡ 2 * suc l.party.t

-- Nothing is wrong with telling the lamp l the pairs hs.
pub record Hears (l : Lamp) (w : Width) (hs : List ℕ) : Type 0 where
  pub valid : Valid l.party
  pub own_width : w ≡ l.party.width
  pub stage : l.sharing.stage ≡ Dealt
  pub long : length hs ≡ 2 * l.party.n

-- Nothing is wrong with settling the lamp l on the reports rs.
pub record Settles (l : Lamp) (rs : List ℕ) : Type 0 where
  pub valid : Valid l.party
  pub stage : l.sharing.stage ≡ Reported
  pub heard_all : length l.sharing.heard ≡ 16
  pub long : length rs ≡ l.party.n
  pub own : entry rs l.party.number ≡ l.sharing.report

-- Nothing is wrong with opening the shares xs by the lamp l.
pub record Opens (l : Lamp) (w : Width) (xs : List ℕ) : Type 0 where
  pub valid : Valid l.party
  pub own_width : w ≡ l.party.width
  pub stage : l.sharing.stage ≡ Holding
  pub long : length xs ≡ l.party.n

-- The lamp keeps the row and the column that it was dealt, and the first number that it heard from each party.
pub record TakesRight (l : Lamp) (w : Width) (d : List ℕ) : Type 0 where
  pub answered : Gives (step l (take_deal w d)).answer []
  pub row_kept : row_of_lamp (step l (take_deal w d)).lamp ≡ row_of l.party.t d
  pub column_kept : column_of_lamp (step l (take_deal w d)).lamp ≡ column_of l.party.t d

pub record HearsRight (l : Lamp) (w : Width) (hs : List ℕ) : Type 0 where
  pub answered : Gives (step l (hear_pairs w hs)).answer
      (report_of (its_prime l.party) l.party.n (its_points l) l.party.number (row_of_lamp l) (column_of_lamp l) hs ∷ [])
  pub firsts_kept : (j : ℕ) → is_party l.party.n j ≡ true → entry (step l (hear_pairs w hs)).lamp.sharing.heard j ≡ first_from hs j
  pub row_kept : row_of_lamp (step l (hear_pairs w hs)).lamp ≡ row_of_lamp l
  pub column_kept : column_of_lamp (step l (hear_pairs w hs)).lamp ≡ column_of_lamp l

-- "and otherwise accepted with the largest such set under the tie rule", whose ones are its members; a happy party's share is its
-- column's constant.
pub record KeepsRight (l : Lamp) (rs : List ℕ) (S : ℕ) : Type 0 where
  pub kept : (step l (settle rs)).lamp.sharing.happy ≡ S
  pub largest : Largest (agree rs) l.party.n S
  pub enough : l.party.n - l.party.t ≤ ones S
  pub counted : ones S ≡ members S l.party.n
  pub happy_share : member S l.party.number ≡ true → EndsHolding l S (constant (column_of_lamp l)) (step l (settle rs))

-- "Repair": 9 exactly if nothing fits; what fits is the only one, and its constant is the share.
pub record RepairsRight (l : Lamp) (rs : List ℕ) (S : ℕ) : Type 0 where
  pub none_fits : Refuses (step l (settle rs)).answer 9 ↔ ((f : List ℕ) → FitsHeard l S f → ⊥)
  pub only : (f g : List ℕ) → FitsHeard l S f → FitsHeard l S g → f ≡ g
  pub fits : (f : List ℕ) → FitsHeard l S f → EndsHolding l S (constant f) (step l (settle rs))

-- "opening": 10 exactly if nothing fits the list with the lamp's own share in its own place; what fits is the only one, and its
-- constant is answered. "Every list that opened before opens to the same number." The lamp is unchanged.
pub record OpensRight (l : Lamp) (w : Width) (xs : List ℕ) : Type 0 where
  pub none_fits : Refuses (step l (open_shares w xs)).answer 10 ↔ ((f : List ℕ) → FitsShares l xs f → ⊥)
  pub only : (f g : List ℕ) → FitsShares l xs f → FitsShares l xs g → f ≡ g
  pub fits : (f : List ℕ) → FitsShares l xs f → Gives (step l (open_shares w xs)).answer (constant f ∷ [])
  pub as_before : (f : List ℕ) → NearShares l xs f → Gives (step l (open_shares w xs)).answer (constant f ∷ [])
  pub unchanged : (step l (open_shares w xs)).lamp ≡ l

-- "Dealing gives exactly the rows and columns of the dealer's polynomial", each party's in its own stretch: F(X, x), then F(x, Y), x being
-- its point.
pub record DealsRight (s : Setting) (F out : List ℕ) : Type 0 where
  pub stretches : number_of (desk_for s F out).1 ≡ none → (i : ℕ) → is_party s.n i ≡ true
      → desks.stretch (terms s) (desk_for s F out).0 i ≡ row_for s F i ++ column_for s F i
  pub all_written : number_of (desk_for s F out).1 ≡ none → length (desk_for s F out).0 ≡ s.n * (2 * terms s)
  pub row_right : (y x : ℕ) → value (prime s) (row (prime s) (terms s) (terms s) F y) x ≡ value_of s F x y
  pub column_right : length F ≡ terms s * terms s → (x y : ℕ)
      → value (prime s) (column (prime s) (terms s) (terms s) F x) y ≡ value_of s F x y

-- DEMAND 2, over every lamp and every desk, whatever its width.
pub record Demand2 : Type 0 where
  pub taking : (l : Lamp) (w : Width) (d : List ℕ) → Takes l w d → TakesRight l w d
  pub hearing : (l : Lamp) (w : Width) (hs : List ℕ) → Hears l w hs → HearsRight l w hs
  -- "The dealer is rejected if no n-t lamps all agree with each other", and exactly then.
  pub rejecting : (l : Lamp) (rs : List ℕ) → Settles l rs
      → Refuses (step l (settle rs)).answer 8 ↔ FewAgree l.party.n l.party.t rs
  pub keeping : (l : Lamp) (rs : List ℕ) → Settles l rs → (FewAgree l.party.n l.party.t rs → ⊥)
      → (S : ℕ) × KeepsRight l rs S
  pub repairing : (l : Lamp) (rs : List ℕ) (S : ℕ) → Settles l rs → KeepsRight l rs S → member S l.party.number ≡ false
      → RepairsRight l rs S
  pub opening : (l : Lamp) (w : Width) (xs : List ℕ) → Opens l w xs → OpensRight l w xs
  pub dealing : (w : Width) (n t : ℕ) (T F out : List ℕ) → DealsRight (setting w n t T) F out
