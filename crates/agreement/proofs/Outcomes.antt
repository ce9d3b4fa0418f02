-- What settling and opening give, for one lamp whose set and values are known.
use mathlib.Core.Path.{◌≡◌, ap, ◌∙◌}
use mathlib.Core.Bool.{true, false}
use mathlib.Core.Option.{Option, some}
use mathlib.Core.List.{List}
use Prim.Native.Nat.{ℕ, suc, ◌-◌, ◌≤◌, ◌<◌}
use native.Mathlib.Omega.{arith}
use lib.Count.{ones}
use lib.ListN.{length, replicate, length-append, length-replicate, get_or-append}
use borrow.Author.Tests.{le-leb, lt-leb}
use Rattle.lists.specs.Tabulate.{pad}
use Rattle.lists.proofs.Tabulate.{length-tabulate, get_or-tabulate}
use Rattle.parties.specs.Parties.{is_party, member, entry}
use Rattle.parties.proofs.Parties.{party-facts}
use Rattle.answers.specs.declared.Stage.TheVariants.{Holding, Closed}
use Rattle.answers.specs.declared.Refusal.TheVariants.{DealerRejected}
use Rattle.answers.specs.declared.Answer.TheVariants.{Accepted, Opened}
use Rattle.lamp.specs.declared.Lamp.{Lamp}
use Rattle.consistency.specs.Deal.{first_from}
use Rattle.recovery.specs.Recovery.{repair}
use Rattle.answers.specs.Fits.{constant}
use Rattle.lamp.specs.Lamp.{its_prime, table_of, reply, column_of_lamp, firsts, at_end, repaired, settled, opened}
use Rattle.std.specs.Prelude.{Ok, Err}

module _ (l : Lamp) (S : ℕ) where
  pub settled-rejects : ones S < l.party.n - l.party.t → settled l S ≡ reply (at_end l Closed 0 0) (Err DealerRejected)
  unfolding settled
  settled-rejects h = rw (lt-leb (l.party.n - l.party.t) (ones S) h)

  module _ (many : l.party.n - l.party.t ≤ ones S) where
    pub settled-happy : member S l.party.number ≡ true
        → settled l S ≡ reply (at_end l Holding S (constant (column_of_lamp l))) (Ok Accepted)
    unfolding settled
    settled-happy e = rw (le-leb (l.party.n - l.party.t) (ones S) many, e)

    pub settled-mended : member S l.party.number ≡ false
        → settled l S ≡ repaired l S (repair (its_prime l.party) l.party.n l.party.t (table_of l.party) S l.sharing.heard)
    unfolding settled
    settled-mended e = rw (le-leb (l.party.n - l.party.t) (ones S) many, e)

    pub settled-repaired : (f : List ℕ) → member S l.party.number ≡ false
        → repair (its_prime l.party) l.party.n l.party.t (table_of l.party) S l.sharing.heard ≡ some f
        → settled l S ≡ reply (at_end l Holding S (constant f)) (Ok Accepted)
    settled-repaired f e found = settled-mended e ∙ ap (repaired l S) found

-- The first number heard from each party is kept.
pub heard-entry : (n : ℕ) (hs : List ℕ) (j : ℕ) → is_party n j ≡ true → entry (pad 16 (firsts n hs)) j ≡ first_from hs j
heard-entry n hs j party =
    let f = party-facts n j party in
    let place : suc (j - 1) ≡ j = omega arith in
    get_or-append (firsts n hs) (replicate (16 - length (firsts n hs)) 0) 0 (j - 1)
    (omega (arith, length-tabulate (λ k. first_from hs (suc k)) n))
    ∙ get_or-tabulate (λ k. first_from hs (suc k)) n (j - 1) 0 (omega arith)
    ∙ ap (first_from hs) place

pub heard_all : (n : ℕ) (hs : List ℕ) → n ≤ 16 → length (pad 16 (firsts n hs)) ≡ 16
heard_all n hs few =
    let long : length (firsts n hs) ≡ n = length-tabulate (λ k. first_from hs (suc k)) n in
    length-append (firsts n hs) (replicate (16 - length (firsts n hs)) 0)
    ∙ omega (arith, long, length-replicate {A = ℕ} (16 - length (firsts n hs)) 0)

pub opened_some : (l : Lamp) (o : Option (List ℕ)) (f : List ℕ) → o ≡ some f → opened l o ≡ reply l (Ok (Opened (constant f)))
opened_some l o f e = rw e
