-- The demands as the protocol states them without station numbers: the case of the table 1 to n, in which lamp i's point is i. A lamp
-- made without a table is one made with 1 to n (lamp/specs/Lamp, `made`), and so is the desk (dealer/specs/Desk, `desk`).
--   plain w n t     the setting without a table
--   plain_making, plain_dealing   what a making and the desk refuse: nothing of a table is among it
--   Plain w         all of it, for numbers of the width w
use Rattle.std.specs.Prelude.{◌≡◌, true, List, [], ◌∷◌, ◌++◌, ℕ, suc, ◌*◌, ◌≤◌, length}
use Rattle.std.proofs.Math.Option.{none}
use Rattle.field.specs.declared.Width.{Width}
use Rattle.field.specs.Modulus.{prime_of}
use Rattle.polynomial.specs.Polynomial.{Residues}
use Rattle.bivariate.specs.Bivariate.{row, column}
use Rattle.parties.specs.Parties.{is_party}
use Rattle.tables.specs.Tables.{one_to}
use Rattle.dealer.specs.Desk.{stretch, desk}
use Rattle.answers.specs.Refusals.{number_of}
use Rattle.lamp.specs.declared.Lamp.{Lamp}
use Rattle.lamp.specs.Lamp.{made, make, Call, step, after}
use Rattle.agreement.specs.Setting.{Setting, setting, point}
use Rattle.agreement.specs.Demand1.{Rows, Follows, Replies, Sizes, Among, Fresh}
use Rattle.agreement.specs.Demand2.{its_points}
use Rattle.agreement.specs.Demand3.{Gives, Refuses, Execution, Honest, Premises, OneWidth, Conclusions}

-- The setting without a table.
abbrev pub plain : Width → ℕ → ℕ → Setting
plain w n t = setting w n t (one_to n)

abbrev pub plain_making : Width → ℕ → ℕ → ℕ → Rows Lamp
plain_making w n t i =
    (1, Sizes n t → ⊥, made w n t i)
    ∷ (2, Among n i → ⊥, made w n t i)
    ∷ []

abbrev pub plain_dealing : Width → ℕ → ℕ → List ℕ → List ℕ → Rows (List ℕ)
plain_dealing w n t F out =
    (1, Sizes n t → ⊥, out)
    ∷ (3, length F ≡ suc t * suc t → ⊥, out)
    ∷ (3, length out ≡ n * (2 * suc t) → ⊥, out)
    ∷ (5, Residues (prime_of w) F → ⊥, out)
    ∷ []

-- Lamp i's point is i, to the desk and to every lamp made without a table, whatever calls it gets; a making and the desk refuse what the
-- protocol says, and the desk deals F(X, i) and F(i, Y); no call of a lamp made so is ever refused with 14; and honest lamps of one
-- width that loaded no table agree, under the protocol's premises alone.
pub record Plain (w : Width) : Type 0 where
  pub points : (n t i : ℕ) → is_party n i ≡ true → point (plain w n t) i ≡ i
  pub fresh : (n t i : ℕ) → Fresh w n t i (one_to n) (made w n t i)
  pub its-points : (n t i : ℕ) (cs : List Call) → n ≤ 16 → its_points (after (made w n t i) cs) ≡ one_to n
  pub makes : (n t i : ℕ) → Replies (plain_making w n t i) (λ r. Gives r.answer [] × (r.lamp ≡ made w n t i)) (make w n t i)
  pub deals : (n t : ℕ) (F out : List ℕ) → let r = desk (prime_of w) n t F out in
      Follows (plain_dealing w n t F out) (length r.0 ≡ length out) (number_of r.1) r.0
  pub dealt : (n t : ℕ) (F out : List ℕ) → number_of (desk (prime_of w) n t F out).1 ≡ none → (i : ℕ) → is_party n i ≡ true
      → stretch (suc t) (desk (prime_of w) n t F out).0 i ≡ row (prime_of w) (suc t) (suc t) F i ++ column (prime_of w) (suc t) (suc t) F i
  pub never_14 : (n t i : ℕ) (cs : List Call) (c : Call) → Refuses (step (after (made w n t i) cs) c).answer 14 → ⊥
  pub agreement : (n t : ℕ) (e : Execution) → ((i : ℕ) → Honest (plain w n t) e i → e.tables i ≡ one_to n) → OneWidth (plain w n t) e
      → Premises (plain w n t) e → Conclusions (plain w n t) e
