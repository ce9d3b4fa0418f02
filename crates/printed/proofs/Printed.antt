-- What is printed of a record is what demand 3 says of its lamps.
--   honest-published   where every honest lamp published, all but t of the n did
--   printed            the claim
use mathlib.Core.Path.{◌≡◌, refl, sym, ap, subst, ◌∙◌}
use mathlib.Core.Logic.{◌⊎◌, inl, inr, ⊎_elim}
use mathlib.Core.Bool.{Bool, true, false}
use mathlib.Core.Option.{Option, none, some, none-ne-some}
use mathlib.Core.List.{List, [], ◌++◌}
use Prim.Native.Nat.{ℕ, suc, ◌+◌, ◌*◌, ◌≤◌, ◌<◌}
use native.Mathlib.Omega.{arith}
use borrow.Author.Tests.{lt-ltb}
use lib.Dec.{ltb}
use Rattle.std.specs.Prelude.{Ok}
use Rattle.std.proofs.lemmas.Bool.{cases_Bool}
use Rattle.field.specs.declared.Width.{Width}
use Rattle.field.specs.Modulus.{prime_of}
use Rattle.field.proofs.Primes.{prime-of, positive}
use Rattle.bivariate.proofs.Crossing.{row-poly}
use Rattle.bivariate.proofs.Terms.{row_at}
use Rattle.polynomial.specs.Polynomial.{Poly, value}
use Rattle.polynomial.proofs.Division.{value-lt}
use Rattle.fit.specs.Opening.{opening_of}
use Rattle.parties.specs.Parties.{is_party, entry}
use Rattle.parties.proofs.Parties.{party-facts, sizes-facts}
use Rattle.tables.specs.Tables.{one_to}
use Rattle.tables.proofs.Tables.{one-to-point}
use Rattle.answers.specs.declared.Refusal.TheVariants.{DealerRejected, NoOpening}
use Rattle.answers.specs.Refusals.{refusal_number, number_of}
use Rattle.record.specs.declared.Head.{Head}
use Rattle.record.specs.Record.{width_of, n_of, t_of, reading, IsRecord, numbers_of}
use Rattle.record.proofs.Answers.{record-fine}
use Rattle.text.specs.Letters.{letters, field, line}
use Rattle.lines.specs.Lines.{verdict_words, verdict_lines, lamp_line, opened_line}
use Rattle.transcript.specs.Outcomes.{outcome, reply_line, opening_line, last_line}
use Rattle.transcript.specs.Transcript.{run, text_of, text_by, text}
use Rattle.transcript.proofs.Runs.{reports-count, shares-count, plain-table}
use Rattle.agreement.specs.Setting.{Setting, Legal, prime, point, value_of, zero_row}
use Rattle.agreement.specs.Demand3.{Premises, Accepts, Rejects, AllReject, AllAccept, Conclusions}
use Rattle.agreement.proofs.Geometry.{row-constant}
use Rattle.agreement.proofs.Counting.{honest-all}
use Rattle.agreement.proofs.Openings.{opens_enough, opens_no_other}
use Rattle.agreement.proofs.Agreement.{one-honest}
use Rattle.agreement.proofs.Plain.{without-tables}
use Rattle.printed.specs.Direct.{happy, is_accepted_in}
use Rattle.printed.specs.Printed.{setting_of, told, story, IsHonest, Faithful, printed_line, text_with}
use Rattle.printed.specs.Printed.{PublishedOrNot, honest_published, Rejected, Accepted, PrintedRight, Printed}
use Rattle.printed.proofs.Direct.{deal-long, pairs_long, says-rejected, says-accepted}

module _ (honest : ℕ → Bool) (bytes : List ℕ) (is : IsRecord bytes) (f : Faithful honest bytes) where
  abbrev w : Width
  w = width_of bytes

  abbrev n : ℕ
  n = n_of bytes

  abbrev t : ℕ
  t = t_of bytes

  abbrev s : Setting
  s = setting_of bytes

  -- What the reader finds.
  abbrev head : Head
  head = record { width = w; n = n; t = t }

  read : reading bytes ≡ Ok head
  read = record-fine bytes is

  legal : Legal s
  legal = record {
    prime = prime-of w;
    size = is.size;
    table = plain-table w n (sizes-facts n t is.size).3;
  }

  -- Lamp i's share, at its point and at i itself.
  share-at : (F : List ℕ) (i : ℕ) → is_party n i ≡ true → value_of s F (point s i) 0 ≡ value_of s F i 0
  share-at F i party = ap (λ x. value_of s F x 0) (one-to-point n i party)

  -- All else that demand 3 supposes holds of every record.
  premises : Premises s (story honest bytes)
  premises = record {
    size = is.size;
    few = f.few;
    brings = λ i h.
        let range = party-facts n i h.party in
        record {
          list = refl;
          own_width = refl;
          deal_length = deal-long bytes is i range.0 range.1;
          deal_first = tt;
          pairs_length = pairs_long bytes is i range.0 range.1;
          pairs_first = tt;
          reports_length = reports-count bytes head read;
          reports_own = f.own i h;
          reports_first = tt;
        };
    hear = f.hear;
    same = λ i h. refl;
  }

  all_right : Conclusions s (story honest bytes)
  all_right = (without-tables w).agreement n t (story honest bytes) (λ i h. refl) (λ i h. refl) premises

  -- ---- one lamp
  refused-line : (i : ℕ) → Rejects s (story honest bytes) s i
      → printed_line honest bytes i ≡ field (letters "lamp ") i ++ line (letters " refused ") (refusal_number DealerRejected)
  unfolding reply_line run
  refused-line i r = ap (λ a. lamp_line i (outcome a (run bytes w n t i).lamp.sharing.share)) r.answered

  share-line : (F : List ℕ) (i : ℕ) → is_party n i ≡ true → Accepts s (story honest bytes) s i F
      → printed_line honest bytes i ≡ field (letters "lamp ") i ++ line (letters " share ") (value_of s F i 0)
  unfolding reply_line run
  share-line F i party a =
      ap (λ z. lamp_line i (outcome z (run bytes w n t i).lamp.sharing.share)) a.answered.0
      ∙ ap (λ v. lamp_line i (Ok v)) (a.stays.shares [] ((told bytes i).rest, refl) ∙ share-at F i party)

  -- ---- the verdict: what an honest lamp says is what is printed
  module _ (i : ℕ) (h : IsHonest honest bytes i) where
    verdict-no : number_of (run bytes w n t i).answer ≡ some (refusal_number DealerRejected) → is_accepted_in bytes ≡ false
    verdict-no said =
        let range = party-facts n i h.party in
        ⊎_elim (λ yes. absurd (says-accepted bytes is i range.0 range.1 (f.own i h) yes said)) (λ no. no)
        (cases_Bool (is_accepted_in bytes))

    verdict-yes : number_of (run bytes w n t i).answer ≡ none → is_accepted_in bytes ≡ true
    verdict-yes said =
        let range = party-facts n i h.party in
        let never : is_accepted_in bytes ≡ false → ⊥ = λ no.
        none-ne-some _ (sym said ∙ says-rejected bytes is i range.0 range.1 (f.own i h) no) in
        ⊎_elim (λ yes. yes) (λ no. absurd (never no)) (cases_Bool (is_accepted_in bytes))

  -- ---- all of them
  someone : (i : ℕ) × IsHonest honest bytes i
  someone = one-honest s legal (story honest bytes) premises

  -- The text by the verdict.
  printed-by : (v : Bool) → is_accepted_in bytes ≡ v
      → text bytes ≡ text_with honest bytes (verdict_lines v (happy bytes) n) (last_line v w n t (numbers_of bytes 3))
  unfolding text text_by text_of
  printed-by v e =
      rw read (ap (λ b. text_with honest bytes (verdict_lines b (happy bytes) n) (last_line b w n t (numbers_of bytes 3))) e)

  rejected : AllReject s (story honest bytes) → Rejected honest bytes
  unfolding run last_line verdict_words
  rejected r = record {
    all = r;
    prints = printed-by false (verdict-no someone.0 someone.1 (r someone.0 someone.1).answered);
    lines = λ i h. refused-line i (r i h);
  }

  -- Where every honest lamp published, all but t of the n did.
  pub honest-published : ((j : ℕ) → IsHonest honest bytes j → entry (numbers_of bytes 3) j < prime (setting_of bytes))
      → n_of bytes ≤ honest_published honest bytes + t_of bytes
  honest-published sent =
      honest-all honest (λ j. ltb (entry (numbers_of bytes 3) j) (prime_of w)) n t f.few (λ j party good.
      lt-ltb (entry (numbers_of bytes 3) j) (prime_of w) (sent j (record { party = party; good = good })))

  -- ---- the opening of what is published, F being the polynomial of all
  module _ (F : List ℕ) (a : AllAccept s (story honest bytes) F) where
    abbrev shares : List ℕ
    shares = numbers_of bytes 3

    row_fine : Poly (prime_of w) (suc t) (zero_row s F)
    row_fine = row-poly (prime_of w) (suc t) (suc t) F 0 (positive w)

    on_row : (j : ℕ) → is_party n j ≡ true → value (prime_of w) (zero_row s F) (point s j) ≡ value_of s F j 0
    on_row j q = row_at (prime_of w) (suc t) (suc t) F (point s j) 0 ∙ share-at F j q

    abbrev secret_line : List ℕ
    secret_line = line (letters "opened ") (value_of s F 0 0)

    found : opening_of (prime_of w) t (one_to n) shares ≡ some (zero_row s F) → last_line true w n t shares ≡ secret_line
    unfolding last_line
    found is = ap opening_line is ∙ ap (λ v. opened_line (Ok v)) (row-constant s legal F a.on.poly.size)

    module _ (published : PublishedOrNot honest bytes F) where
      on-f : (j : ℕ) → is_party n j ≡ true → honest j ≡ true → entry shares j < prime_of w
          → value (prime_of w) (zero_row s F) (point s j) ≡ entry shares j
      on-f j q g was-sent = on_row j q ∙ sym (published j (record { party = q; good = g }) was-sent)

      prints-enough : 2 * t + 1 ≤ honest_published honest bytes → last_line true w n t shares ≡ secret_line
      prints-enough many =
          found (opens_enough s legal honest f.few (zero_row s F) shares row_fine (shares-count bytes head read) on-f many)

      prints-no-other : (last_line true w n t shares ≡ secret_line)
          ⊎ (last_line true w n t shares ≡ line (letters "opened refused ") (refusal_number NoOpening))
      unfolding last_line
      prints-no-other = go (opening_of (prime_of w) t (one_to n) shares) refl
        where
          go : (o : Option (List ℕ)) → opening_of (prime_of w) t (one_to n) shares ≡ o
              → (last_line true w n t shares ≡ secret_line)
              ⊎ (last_line true w n t shares ≡ line (letters "opened refused ") (refusal_number NoOpening))
          go none e = inr (ap opening_line e)
          go (some g) e =
              let only = opens_no_other s legal honest f.few (zero_row s F) shares row_fine (shares-count bytes head read) on-f g e in
              inl (found (e ∙ ap some only))

    -- With all honest shares published all but t are there.
    prints-all : ((j : ℕ) → IsHonest honest bytes j → entry shares j ≡ value_of s F j 0) → last_line true w n t shares ≡ secret_line
    prints-all published =
        let z = sizes-facts n t legal.size in
        let sent : (j : ℕ) → IsHonest honest bytes j → entry shares j < prime_of w = λ j h.
        subst (λ v. v < prime_of w) (on_row j h.party ∙ sym (published j h))
        (value-lt (prime_of w) (zero_row s F) (point s j) (positive w)) in
        prints-enough (λ j h was-sent. published j h) (omega (arith, honest-published sent))

  accepted : (F : List ℕ) → AllAccept s (story honest bytes) F → Accepted honest bytes F
  unfolding last_line verdict_words run
  accepted F a = record {
    all = a;
    prints = printed-by true (verdict-yes someone.0 someone.1 (a.hold someone.0 someone.1).answered.0);
    lines = λ i h. share-line F i h.party (a.hold i h);
    opens = prints-all F a;
    opens_enough = prints-enough F a;
    opens_no_other = prints-no-other F a;
  }

  right : PrintedRight honest bytes
  right = record {
    one_verdict = ⊎_elim (λ r. inl (rejected r)) (λ a. inr (a.0, accepted a.0 a.1)) all_right.one_verdict;
    dealer = λ F d. (accepted F (all_right.dealer F d).0, (all_right.dealer F d).1);
  }

-- WHAT IS PRINTED IS WHAT DEMAND 3 SAYS.
pub printed : Printed
unfolding Printed
printed = right
