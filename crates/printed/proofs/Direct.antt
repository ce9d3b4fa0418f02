-- The text of a record that is not refused is the one straight from its numbers: each lamp takes its deal and its pairs, and
-- answers to settling as step 4 says. So no lamp of a record says 1, 2, 3 or 4, and all lamps that settle say the printed verdict.
use mathlib.Core.Path.{◌≡◌, refl, sym, ap, ap₂, ◌∙◌}
use mathlib.Core.Bool.{Bool, true, false, cond, ◌&&◌}
use mathlib.Core.Option.{Option, none, some, none-ne-some, some-injective}
use mathlib.Core.List.{List, ◌++◌}
use Prim.Native.Nat.{ℕ, zero, suc, ◌+◌, ◌*◌, ◌-◌, ◌≤◌}
use native.Mathlib.Omega.{arith}
use lib.Count.{ones}
use lib.Dec.{eqb, leb}
use lib.ListN.{length, drop, replicate, length-drop}
use lib.Seq.{take_at, take_all, length-take-le}
use borrow.Author.Tests.{eq-eqb}
use Rattle.std.specs.Prelude.{Ok}
use Rattle.lists.specs.Masks.{bit}
use Rattle.lists.specs.Tabulate.{tabulate, pad}
use Rattle.lists.specs.Choices.{select}
use Rattle.lists.proofs.Tabulate.{length-tabulate}
use Rattle.field.specs.declared.Width.{Width}
use Rattle.fit.specs.Fit.{fit}
use Rattle.parties.specs.Parties.{member, entry}
use Rattle.parties.proofs.Parties.{party-true}
use Rattle.tables.specs.Tables.{one_to}
use Rattle.dealer.specs.Desk.{stretch}
use Rattle.answers.specs.declared.Refusal.TheVariants.{AlteredReport, DealerRejected, NoColumn}
use Rattle.answers.specs.declared.Answer.TheVariants.{Done}
use Rattle.lamp.specs.declared.Lamp.{Lamp}
use Rattle.lamp.specs.declared.Reply.{Reply}
use Rattle.answers.specs.Refusals.{refusal_number, number_of}
use Rattle.answers.specs.Fits.{constant}
use Rattle.consistency.specs.Deal.{row_of, column_of, first_from, report_of}
use Rattle.recovery.specs.Recovery.{repair}
use Rattle.lamp.specs.Lamp.{Valid, made, its_prime, table_of, reply, row_of_lamp, column_of_lamp, with_deal, firsts, with_pairs, report_from}
use Rattle.lamp.specs.Lamp.{repaired, refuse, at_end, settled, take_deal, hear_pairs, settle, step}
use Rattle.record.specs.declared.Head.{Head}
use Rattle.record.specs.Record.{width_of, n_of, t_of, reading, IsRecord, numbers_of}
use Rattle.record.proofs.Answers.{record-fine}
use Rattle.text.specs.Letters.{letters, field, line, joined}
use Rattle.lines.specs.Lines.{size_line, verdict_lines, outcome_words}
use Rattle.transcript.specs.Outcomes.{outcome, reply_line, last_line}
use Rattle.transcript.specs.Transcript.{run, lamp_lines, text_of, text_by, text}
use Rattle.transcript.proofs.Runs.{fine-legal, fine-facts, deals-count, pairs-count, reports-count, plain-table, part_room}
use Rattle.agreement.specs.Plain.{plain}
use Rattle.std.proofs.lemmas.Bool.{cond_both}
use Rattle.agreement.proofs.Steps.{fits, takes, hears, looks}
use Rattle.agreement.proofs.Collapse.{Ready, made_table, made-valid}
use Rattle.printed.specs.Direct.{the_prime, its_deal, its_pairs, its_report, happy, is_accepted_in, refuses, mended}
use Rattle.printed.specs.Direct.{lamp_says, lamps_say, direct}

-- What a reply prints behind "lamp i".
abbrev shown : Reply → List ℕ
shown r = joined (outcome_words (letters " share ") (outcome (number_of r.answer) r.lamp.sharing.share))

-- The heard numbers behind the n-th are not looked at.
repair-padded : (p n t : ℕ) (T : List ℕ) (S : ℕ) (xs : List ℕ) → length xs ≡ n → repair p n t T S (pad 16 xs) ≡ repair p n t T S xs
unfolding repair
repair-padded p n t T S xs e =
    ap (λ heard. fit p t (ones S - t) (select (tabulate (bit S) n) T) (select (tabulate (bit S) n) heard))
    (take_at xs (replicate (16 - length xs) 0) n e ∙ sym (take_all n xs (omega arith)))

-- A lamp's own part is as long as it must be.
own-part : (xs : List ℕ) (n m i : ℕ) → length xs ≡ n * (2 * m) → n ≤ 16 → m ≤ 16 → 1 ≤ i → i ≤ n → length (stretch m xs i) ≡ 2 * m
own-part xs n m i e a b c d =
    let room = part_room n m i a b c d in
    length-take-le (2 * m) (drop ((i - 1) * (2 * m)) xs) (omega (arith, length-drop ((i - 1) * (2 * m)) xs))

shown-cond : (b : Bool) (x y : Reply) → shown (cond b x y) ≡ cond b (shown x) (shown y)
shown-cond true x y = refl
shown-cond false x y = refl

-- The dealer is rejected.
abbrev Rejecting : Reply → Type 0
Rejecting r = number_of r.answer ≡ some (refusal_number DealerRejected)

-- With enough happy lamps nobody says so.
not-rejecting : (l : Lamp) (S : ℕ) → leb (l.party.n - l.party.t) (ones S) ≡ true → Rejecting (settled l S) → ⊥
unfolding settled
not-rejecting l S e =
    rw e (cond_both (member S l.party.number) _ _ (λ r. Rejecting r → ⊥) (λ in_it. none-ne-some _)
    (λ out. mended-not (repair (its_prime l.party) l.party.n l.party.t (table_of l.party) S l.sharing.heard)))
  where
    mended-not : (o : Option (List ℕ)) → Rejecting (repaired l S o) → ⊥
    mended-not none q = let z = some-injective (refusal_number NoColumn) (refusal_number DealerRejected) q in omega arith
    mended-not (some f) q = none-ne-some _ q

module _ (bytes : List ℕ) (is : IsRecord bytes) where
  abbrev w : Width
  w = width_of bytes

  abbrev p : ℕ
  p = the_prime bytes

  abbrev n : ℕ
  n = n_of bytes

  abbrev t : ℕ
  t = t_of bytes

  -- What the reader finds.
  abbrev head : Head
  head = record { width = w; n = n; t = t }

  read : reading bytes ≡ Ok head
  read = record-fine bytes is

  -- ---- one lamp
  module _ (i : ℕ) (first : 1 ≤ i) (last : i ≤ n) where
    abbrev d : List ℕ
    d = its_deal bytes i

    abbrev hs : List ℕ
    hs = its_pairs bytes i

    abbrev rs : List ℕ
    rs = numbers_of bytes 2

    abbrev start : Lamp
    start = made w n t i

    abbrev dealt : Lamp
    dealt = with_deal start d

    abbrev reported : Lamp
    reported = with_pairs dealt hs

    -- It is made with the points 1 to n.
    ready : Ready (plain w n t) i
    ready = record {
      size = fine-legal bytes head read;
      party = party-true n i first last;
      table = plain-table w n (fine-facts bytes head read).3;
    }

    start-valid : Valid start.party
    start-valid = made-valid (plain w n t) i ready

    pub deal-long : length d ≡ 2 * suc t
    deal-long =
        let f = fine-facts bytes head read in
        own-part (numbers_of bytes 0) n (t + 1) i (deals-count bytes head read) f.3 (omega arith) first last ∙ omega arith

    pub pairs_long : length hs ≡ 2 * n
    pairs_long =
        let f = fine-facts bytes head read in
        own-part (numbers_of bytes 1) n n i (pairs-count bytes head read) f.3 f.3 first last

    dealt-valid : Valid dealt.party
    unfolding with_deal
    dealt-valid = start-valid

    reported-valid : Valid reported.party
    unfolding with_pairs with_deal
    reported-valid = start-valid

    table_is : table_of reported.party ≡ one_to n
    unfolding with_pairs with_deal
    table_is = made_table (plain w n t) i ready

    taken : step start (take_deal w d) ≡ reply dealt (Ok Done)
    taken = takes start start-valid w d (ap (λ z. z && true) (fits w w refl (length d) (2 * suc t) deal-long))

    heard : (step dealt (hear_pairs w hs)).lamp ≡ reported
    unfolding with_deal
    heard = ap (λ (r : Reply). r.lamp) (hears dealt dealt-valid w hs (ap (λ z. z && true) (fits w w refl (length hs) (2 * n) pairs_long)))

    column-is : column_of_lamp reported ≡ column_of t d
    unfolding with_pairs with_deal
    column-is = take_at (column_of t d) (replicate (4 - length (column_of t d)) 0) (suc t) (length-drop (suc t) d ∙ omega (arith, deal-long))

    report-is : reported.sharing.report ≡ its_report bytes i
    unfolding with_pairs with_deal report_from
    report-is =
        ap (λ T. report_of p n T i (row_of_lamp reported) (column_of_lamp reported) hs) table_is
        ∙ ap₂ (λ row column. report_of p n (one_to n) i row column hs)
        (take_at (row_of t d) (replicate (4 - length (row_of t d)) 0) (suc t) (length-take-le (suc t) d (omega (arith, deal-long))))
        (take_at (column_of t d) (replicate (4 - length (column_of t d)) 0) (suc t) (length-drop (suc t) d ∙ omega (arith, deal-long)))

    answered : run bytes w n t i
        ≡ cond (eqb (entry rs i) (its_report bytes i)) (settled reported (happy bytes)) (refuse reported AlteredReport)
    unfolding run with_pairs with_deal
    answered =
        ap (λ (r : Reply). step (step r.lamp (hear_pairs w hs)).lamp (settle rs)) taken
        ∙ ap (λ l. step l (settle rs)) heard
        ∙ looks reported reported-valid rs (ap (λ z. z && true) (eq-eqb (length rs) n (reports-count bytes head read)))
        ∙ ap (λ r. cond (eqb (entry rs i) r) (settled reported (happy bytes)) (refuse reported AlteredReport)) report-is

    -- The lamp says so exactly if the printed verdict is against the dealer, its own report being in the record.
    module _ (own : entry rs i ≡ its_report bytes i) where
      settling : run bytes w n t i ≡ settled reported (happy bytes)
      settling =
          answered
          ∙ ap (λ b. cond b (settled reported (happy bytes)) (refuse reported AlteredReport))
          (eq-eqb (entry rs i) (its_report bytes i) own)

      pub says-rejected : is_accepted_in bytes ≡ false → Rejecting (run bytes w n t i)
      unfolding settled with_pairs with_deal
      says-rejected e = ap (λ (r : Reply). number_of r.answer) settling ∙ rw e

      pub says-accepted : is_accepted_in bytes ≡ true → Rejecting (run bytes w n t i) → ⊥
      unfolding with_pairs with_deal
      says-accepted e said = not-rejecting reported (happy bytes) e (sym (ap (λ (r : Reply). number_of r.answer) settling) ∙ said)

    mended-shown : (o : Option (List ℕ)) → shown (repaired reported (happy bytes) o) ≡ mended o
    unfolding at_end
    mended-shown none = refl
    mended-shown (some f) = refl

    pub lamp-said : reply_line i (run bytes w n t i) ≡ field (letters "lamp ") i ++ lamp_says bytes i
    unfolding reply_line lamp_says settled at_end with_pairs with_deal
    lamp-said =
        ap (λ z. field (letters "lamp ") i ++ z)
        (ap shown answered
        ∙ shown-cond (eqb (entry rs i) (its_report bytes i)) _ _
        ∙ ap (λ z. cond (eqb (entry rs i) (its_report bytes i)) z (refuses AlteredReport))
        (shown-cond (is_accepted_in bytes) _ _
        ∙ ap (λ z. cond (is_accepted_in bytes) z (refuses DealerRejected))
        (shown-cond (member (happy bytes) i) _ _
        ∙ ap₂ (cond (member (happy bytes) i))
        (ap (λ f. line (letters " share ") (constant f)) column-is)
        (mended-shown (repair p n t (table_of reported.party) (happy bytes) (pad 16 (firsts n hs)))
        ∙ ap (λ T. mended (repair p n t T (happy bytes) (pad 16 (firsts n hs)))) table_is
        ∙ ap mended
        (repair-padded p n t (one_to n) (happy bytes) (firsts n hs) (length-tabulate (λ k. first_from hs (suc k)) n))))))

  -- ---- all of them
  lines-said : (k : ℕ) → k ≤ n → lamp_lines bytes w n t k ≡ lamps_say bytes k
  unfolding lamp_lines lamps_say
  lines-said zero h = refl
  lines-said (suc k) h = ap₂ (λ xs ys. xs ++ ys) (lines-said k (omega arith)) (lamp-said (suc k) (omega arith) h)

  -- WHAT IS PRINTED IS WHAT THE PROTOCOL'S STEPS SAY OF THE RECORD'S NUMBERS.
  pub text-direct : text bytes ≡ direct bytes
  unfolding text text_by text_of direct
  text-direct =
      let last : List ℕ = last_line (is_accepted_in bytes) w n t (numbers_of bytes 3) in
      rw read
      (ap (λ ls. ((size_line n t ++ verdict_lines (is_accepted_in bytes) (happy bytes) n) ++ ls) ++ last) (lines-said n (omega arith)))
