-- A row and a column as four coefficients each, zeros behind them: what follows from a deal stays as it is.
--   four-said                            their pair at a point is that of the row and the column
--   four-sound, four-pair                and so are soundness and the pair for a party
--   four-confirms, four-report           and each bit of a report, and the report
--   deals                                what the functions of a deal need
use mathlib.Core.Path.{◌≡◌, ap, ap₂, ◌∙◌}
use mathlib.Core.List.{List}
use Prim.Native.Nat.{ℕ, suc, ◌<◌}
use lib.ListN.{get_or}
use Rattle.lists.specs.Tabulate.{pad}
use Rattle.polynomial.specs.Polynomial.{value}
use Rattle.polynomial.proofs.Together.{padded-test, padded-value}
use Rattle.tables.specs.Tables.{point_at}
use Rattle.consistency.specs.Deal.{sound, pair_for, said, confirms_by, report_by}
use Rattle.consistency.proofs.Reports.{mask-same, sound-residues, report-unsound, report-within}
use Rattle.field.proofs.Primes.{positive}
use Rattle.polynomial.proofs.Below.{residues-facts}
use Rattle.tables.proofs.Tables.{point-below}

module _ (p : ℕ) (row column a b : List ℕ) (ea : a ≡ pad 4 row) (eb : b ≡ pad 4 column) where
  pub four-said : (x : ℕ) → said (value p a x, value p b x) ≡ said (value p row x, value p column x)
  four-said x =
      ap₂ (λ (u v : ℕ). said (u, v)) (ap (λ f. value p f x) ea ∙ padded-value p 4 row x)
      (ap (λ f. value p f x) eb ∙ padded-value p 4 column x)

module _ (p : ℕ) (h : 0 < p) (T : List ℕ) (i : ℕ) (row column : List ℕ) where
  padded-sound : sound p T i (pad 4 row) (pad 4 column) ≡ sound p T i row column
  unfolding sound
  padded-sound =
      rw (padded-test p 4 row h, padded-test p 4 column h, padded-value p 4 row (point_at T i), padded-value p 4 column (point_at T i))

  padded-pair : (j : ℕ) → pair_for p T i (pad 4 row) (pad 4 column) j ≡ pair_for p T i row column j
  unfolding pair_for
  padded-pair j = rw (padded-sound, padded-value p 4 row (point_at T j), padded-value p 4 column (point_at T j))

  padded-confirms : (j u v : ℕ) → confirms_by p T i (pad 4 row) (pad 4 column) j u v ≡ confirms_by p T i row column j u v
  padded-confirms j u v = rw (padded-sound, padded-value p 4 row (point_at T j), padded-value p 4 column (point_at T j))

  padded-report : (n : ℕ) (fs ss : List ℕ) → report_by p n T i (pad 4 row) (pad 4 column) fs ss ≡ report_by p n T i row column fs ss
  unfolding report_by
  padded-report n fs ss = mask-same _ _ n (λ k l. padded-confirms (suc k) (get_or fs k 0) (get_or ss k 0))

  module _ (a b : List ℕ) (ea : a ≡ pad 4 row) (eb : b ≡ pad 4 column) where
    pub four-sound : sound p T i a b ≡ sound p T i row column
    four-sound = ap₂ (sound p T i) ea eb ∙ padded-sound

    pub four-pair : (j : ℕ) → pair_for p T i a b j ≡ pair_for p T i row column j
    four-pair j = ap₂ (λ (r c : List ℕ). pair_for p T i r c j) ea eb ∙ padded-pair j

    pub four-confirms : (j u v : ℕ) → confirms_by p T i a b j u v ≡ confirms_by p T i row column j u v
    four-confirms j u v = ap₂ (λ (r c : List ℕ). confirms_by p T i r c j u v) ea eb ∙ padded-confirms j u v

    pub four-report : (n : ℕ) (fs ss : List ℕ) → report_by p n T i a b fs ss ≡ report_by p n T i row column fs ss
    four-report n fs ss = ap₂ (λ (r c : List ℕ). report_by p n T i r c fs ss) ea eb ∙ padded-report n fs ss

-- What the functions of a deal need.
pub ruleset deals =
    (positive, point-below, residues-facts, sound-residues, report-unsound, report-within, four-sound, four-pair, four-report)
