-- What a record's lamps and its published shares come to, and the lines that say it (docs/PROTOCOL.md, "The text of a record").
--   is_accepted set n t                              the verdict, by the happy set
--   outcome number value                             a value, or the number of a refusal in its place
--   reply_line i r                                   what lamp i holds, or why it refused, by its reply
--   opening_line o, last_line accepted w n t shares  what the published shares open
-- Laws: proofs/Outcomes.
use Rattle.std.specs.Prelude.{Bool, cond, List, ℕ, ◌-◌, leb, Result, Ok, Err}
use Rattle.std.proofs.Math.Option.{Option, none, some}
use Rattle.std.specs.Int.Count.{ones}
use Rattle.field.specs.declared.Width.{Width}
use Rattle.field.specs.Modulus.{prime_of}
use Rattle.answers.specs.declared.Refusal.TheVariants.{DealerRejected, NoOpening}
use Rattle.answers.specs.Refusals.{refusal_number, number_of}
use Rattle.answers.specs.Fits.{constant}
use Rattle.tables.specs.Tables.{one_to}
use Rattle.fit.specs.Opening.{opening_of}
use Rattle.lamp.specs.declared.Reply.{Reply}
use Rattle.lines.specs.Lines.{lamp_line, opened_line}

-- The dealer is accepted: the happy set has at least n − t members.
abbrev pub is_accepted : ℕ → ℕ → ℕ → Bool
is_accepted set n t = leb (n - t) (ones set)

-- The value where there is no refusal, and the refusal's number where there is one.
abbrev pub outcome : Option ℕ → ℕ → Result ℕ ℕ
outcome none value = Ok value
outcome (some k) value = Err k

-- "lamp i share v", or "lamp i refused k" where the answer has a refusal's number.
unfoldable pub reply_line : ℕ → Reply → List ℕ
reply_line i r = lamp_line i (outcome (number_of r.answer) r.lamp.sharing.share)

-- "opened v", v being the constant of the polynomial that fits, or a refusal where none does.
abbrev pub opening_line : Option (List ℕ) → List ℕ
opening_line none = opened_line (Err (refusal_number NoOpening))
opening_line (some f) = opened_line (Ok (constant f))

-- What the published shares open by themselves, at the points 1 to n, since a record has no table. After a rejected dealer they are not
-- opened.
unfoldable pub last_line : Bool → Width → ℕ → ℕ → List ℕ → List ℕ
last_line accepted w n t shares =
    let opened = opening_line (opening_of (prime_of w) t (one_to n) shares) in
    cond accepted opened (opened_line (Err (refusal_number DealerRejected)))
