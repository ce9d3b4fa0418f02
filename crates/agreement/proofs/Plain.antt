-- What the protocol says without station numbers, from the demands at the table 1 to n.
--   without-tables   all of it, for either width; of the prime it is used only that it is above 16
use mathlib.Core.Path.{◌≡◌, refl, sym, ap, subst, ◌∙◌}
use mathlib.Core.Bool.{true}
use mathlib.Core.Option.{none}
use mathlib.Core.List.{List, [], ◌∷◌, ◌++◌}
use Prim.Native.Nat.{ℕ, suc, ◌*◌, ◌≤◌}
use native.Mathlib.Omega.{arith}
use lib.ListN.{length, take}
use Rattle.field.specs.declared.Width.{Width}
use Rattle.field.specs.Modulus.{prime_of}
use Rattle.polynomial.specs.Polynomial.{Residues}
use Rattle.bivariate.specs.Bivariate.{row, column}
use Rattle.parties.specs.Parties.{is_party}
use Rattle.parties.proofs.Parties.{sizes-facts}
use Rattle.tables.specs.Tables.{IsTable, one_to}
use Rattle.tables.proofs.Tables.{length-one-to, one-to-table, one-to-point, kept-front, above-sixteen}
use Rattle.dealer.specs.Desk.{stretch, desk}
use Rattle.lamp.specs.declared.Party.{Party}
use Rattle.lamp.specs.declared.Lamp.{Lamp}
use Rattle.lamp.specs.Lamp.{made, make, its_prime, table_of, Call, take_deal, say_pair, hear_pairs, settle, open_shares, step, after}
use Rattle.agreement.specs.Demand1.{Rows, Follows, Replies, Sizes, NoTable, refusals}
use Rattle.agreement.specs.Demand2.{its_points}
use Rattle.agreement.specs.Demand3.{Gives, Refuses, Demand3}
use Rattle.agreement.specs.Plain.{plain_making, plain_dealing, Plain}
use Rattle.agreement.proofs.Rows.{Unused, not-given, skipped}
use Rattle.agreement.proofs.Sentences.{same_party}
use Rattle.agreement.proofs.Refusals.{demand1}
use Rattle.agreement.proofs.Rightness.{demand2}
use Rattle.agreement.proofs.Agreement.{demand3}
use Rattle.answers.specs.Refusals.{number_of}

module _ (w : Width) where
  abbrev p : ℕ
  p = prime_of w

  -- 1 to n is a table wherever the sizes are right.
  points : (n t : ℕ) → Sizes n t → IsTable p n (one_to n)
  points n t s = one-to-table p n (omega (arith, s.few, above-sixteen w))

  -- ---- making and dealing: the rows of the table never apply
  makes : (n t i : ℕ) → Replies (plain_making w n t i) (λ r. Gives r.answer [] × (r.lamp ≡ made w n t i)) (make w n t i)
  makes n t i =
      let l : Lamp = made w n t i in
      skipped _ _ _ (plain_making w n t i) 14 (IsTable p n (one_to n) → ⊥) l [] (λ none bad. none.0 (λ s. bad (points n t s)))
      (skipped _ _ _ (plain_making w n t i) 3 (length (one_to n) ≡ n → ⊥) l ((14, IsTable p n (one_to n) → ⊥, l) ∷ [])
      (λ none bad. bad (length-one-to n)) (demand1.makes w n t i (one_to n)))

  deals : (n t : ℕ) (F out : List ℕ) → let r = desk p n t F out in
      Follows (plain_dealing w n t F out) (length r.0 ≡ length out) (number_of r.1) r.0
  deals n t F out =
      skipped _ _ _ lengths 14 (IsTable p n (one_to n) → ⊥) out last (λ none bad. none.0 (λ s. bad (points n t s)))
      (skipped _ _ _ lengths 3 (length (one_to n) ≡ n → ⊥) out ((14, IsTable p n (one_to n) → ⊥, out) ∷ last)
      (λ none bad. bad (length-one-to n)) (demand1.deals w n t (one_to n) F out))
    where
      lengths : Rows (List ℕ)
      lengths =
          (1, Sizes n t → ⊥, out)
          ∷ (3, length F ≡ suc t * suc t → ⊥, out)
          ∷ (3, length out ≡ n * (2 * suc t) → ⊥, out)
          ∷ []

      last : Rows (List ℕ)
      last = (5, Residues p F → ⊥, out) ∷ []

  -- ---- no call is refused with 14
  module _ (n t i : ℕ) (cs : List Call) where
    abbrev l : Lamp
    l = after (made w n t i) cs

    its : (l.party ≡ (made w n t i).party) × (length l.sharing.heard ≡ 16)
    its = same_party (made w n t i) refl cs

    its-points : n ≤ 16 → its_points l ≡ one_to n
    its-points few =
        ap (λ (a : Party). take a.n a.table) its.0 ∙ kept-front n (one_to n) few (length-one-to n)

    -- Within the sizes they are a table, so the row of 14 does not apply.
    its-table : Sizes l.party.n l.party.t → IsTable (its_prime l.party) l.party.n (table_of l.party)
    its-table =
        subst (λ (a : Party). Sizes a.n a.t → IsTable (its_prime a) a.n (table_of a)) (sym its.0)
        (λ s. subst (IsTable p n) (sym (kept-front n (one_to n) s.few (length-one-to n))) (points n t s))

    fine : ((Sizes l.party.n l.party.t → ⊥) → ⊥) → NoTable l → ⊥
    fine sized bad = sized (λ s. bad (its-table s))

    -- And no other row has that number.
    unused : (c : Call) → Unused (refusals l c) 14
    unused (take_deal v d) = (tt, λ a. (tt, λ b. (tt, λ c. (tt, λ d. (fine a, λ e. (tt, λ f. tt))))))
    unused (say_pair j) = (tt, λ a. (tt, λ b. (tt, λ c. (fine a, λ d. (tt, λ e. tt)))))
    unused (hear_pairs v hs) = (tt, λ a. (tt, λ b. (tt, λ c. (tt, λ d. (fine a, λ e. (tt, λ f. tt))))))
    unused (settle rs) = (tt, λ a. (tt, λ b. (tt, λ c. (fine a, λ d. (tt, λ e. (tt, λ f. (tt, λ g. (tt, λ h. tt))))))))
    unused (open_shares v xs) = (tt, λ a. (tt, λ b. (tt, λ c. (tt, λ d. (fine a, λ e. (tt, λ f. (tt, λ g. tt)))))))

    never_14 : (c : Call) → Refuses (step l c).answer 14 → ⊥
    never_14 c e = not-given _ _ _ (refusals l c) (demand1.calls l its.1 c) 14 (unused c) e

  -- ---- what the desk deals
  dealt : (n t : ℕ) (F out : List ℕ) → number_of (desk p n t F out).1 ≡ none → (i : ℕ) → is_party n i ≡ true
      → stretch (suc t) (desk p n t F out).0 i ≡ row p (suc t) (suc t) F i ++ column p (suc t) (suc t) F i
  dealt n t F out written i party =
      (demand2.dealing w n t (one_to n) F out).stretches written i party
      ∙ ap (λ x. row p (suc t) (suc t) F x ++ column p (suc t) (suc t) F x) (one-to-point n i party)

  -- All of it.
  pub without-tables : Plain w
  unfolding Demand3
  without-tables = record {
    points = λ n t i party. one-to-point n i party;
    fresh = λ n t i. demand1.fresh w n t i (one_to n);
    its-points = its-points;
    makes = makes;
    deals = deals;
    dealt = dealt;
    never_14 = never_14;
    agreement = λ n t e loaded widths pr. demand3 w n t (one_to n) e pr (record {
      table = one-to-table p n (omega (arith, sizes-facts n t pr.size, above-sixteen w));
      loaded = loaded;
    }) widths;
  }
