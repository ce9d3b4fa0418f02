-- What is fitted to the parties' points: a column by the protocol's fit, at most t of them differ; an opening by the rule for openings
-- (fit/specs/Opening).
--   repair p n t T S heard           the column repaired from j's point in the table T and the first number heard from j, for j in S
--   opening_with p t T i v xs        the opening of the shares xs with party i's own share v in its own place; by themselves: `opening_of`
--   published_tests n t m            what an opening of m published shares is looked at for
--   repair_in, published_in, opening_in   what the code answers for every input: a refusal, or what is decoded
-- Laws: proofs/Fitting, what is answered; proofs/Deciding, what that says of the points.
use Rattle.std.proofs.Math.Option.{Option}
use Rattle.std.specs.Prelude.{List, [], ◌∷◌, ℕ, ◌+◌, ◌*◌, ◌-◌, ◌^◌, leb, ltb, eqb, length, take, set}
use Rattle.std.specs.Int.Count.{ones}
use Rattle.lists.specs.Choices.{select}
use Rattle.lists.specs.Masks.{bit}
use Rattle.lists.specs.Tabulate.{tabulate}
use Rattle.answers.specs.declared.Refusal.TheVariants.{WrongSize, WrongNumber, WrongLength}
use Rattle.answers.specs.Refusals.{Test, lowest}
use Rattle.fit.specs.Fit.{fit}
use Rattle.fit.specs.Opening.{opening_of}
use Rattle.fit.specs.Admitted.{decoded_if}
use Rattle.parties.specs.Parties.{sizes, is_party}
use Rattle.answers.specs.Fits.{Fitted}

-- The column that fits the points (j, first number heard from j) for j in S, a set of the n parties: at most t of them differ. The j in
-- a point is j's entry of the table.
unfoldable pub repair : ℕ → ℕ → ℕ → List ℕ → ℕ → List ℕ → Option (List ℕ)
repair p n t T S heard =
    let happy = tabulate (bit S) n in
    fit p t (ones S - t) (select happy T) (select happy (take n heard))

-- The polynomial that the published shares open with a party's own share in its own place.
abbrev pub opening_with : ℕ → ℕ → List ℕ → ℕ → ℕ → List ℕ → Option (List ℕ)
opening_with p t T i v xs = opening_of p t T (set xs (i - 1) v)

-- What is answered with a table, which the caller has looked at. The tests, in the order of their numbers: the sizes; that the set names
-- none but the n parties; that they are enough.
unfoldable pub repair_in : ℕ → ℕ → ℕ → List ℕ → ℕ → List ℕ → Fitted
repair_in p n t T S heard =
    decoded_if
    (lowest ((sizes n t, WrongSize) ∷ (ltb S (2 ^ n), WrongNumber) ∷ (leb (3 * t + 1) (ones S), WrongLength) ∷ []))
    (repair p n t T S heard)

-- The sizes; a share for each party.
abbrev pub published_tests : ℕ → ℕ → ℕ → List Test
published_tests n t m = (sizes n t, WrongSize) ∷ (eqb m n, WrongLength) ∷ []

-- A published list by itself, behind these tests.
unfoldable pub published_in : ℕ → ℕ → ℕ → List ℕ → List ℕ → Fitted
published_in p n t T xs =
    decoded_if (lowest (published_tests n t (length xs))) (opening_of p t T xs)

-- The sizes; the party's own number; a share for each party.
unfoldable pub opening_in : ℕ → ℕ → ℕ → List ℕ → ℕ → ℕ → List ℕ → Fitted
opening_in p n t T i v xs =
    decoded_if
    (lowest ((sizes n t, WrongSize) ∷ (is_party n i, WrongNumber) ∷ (eqb (length xs) n, WrongLength) ∷ []))
    (opening_with p t T i v xs)
