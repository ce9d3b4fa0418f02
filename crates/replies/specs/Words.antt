-- What a call answers and what a lamp holds, as letters.
--   number_word x, number_words xs   a number, and each of a list, behind a space
--   result_words refusal values      what came of a call: the number of the refusal, or the values where there is none
--   answer_words a, dealing_words a  what a lamp answered, and what the desk did
--   state_words lamp                 what a lamp holds
use Rattle.std.proofs.Math.Option.{Option, none, some}
use Rattle.std.specs.Prelude.{List, [], ◌∷◌, ◌++◌, ℕ, codes, decimal, flat_map}
use Rattle.answers.specs.Answers.{values_of, stage_number, Answered}
use Rattle.answers.specs.Refusals.{refusal_number, Admission, number_of}
use Rattle.lamp.specs.declared.Lamp.{Lamp}
use Rattle.std.specs.Prelude.{Ok, Err}

-- A space, and the number in decimal.
abbrev pub number_word : ℕ → List ℕ
number_word x = codes " " ++ decimal x

-- One behind the other.
abbrev pub number_words : List ℕ → List ℕ
number_words xs = flat_map number_word xs

-- "ok" and the values, or "refused" and the number.
abbrev pub result_words : Option ℕ → List ℕ → List ℕ
result_words none values = codes "ok" ++ number_words values
result_words (some k) values = codes "refused" ++ number_word k

-- Its refusal's number, or its values.
abbrev pub answer_words : Answered → List ℕ
answer_words a = result_words (number_of a) (values_of a)

-- No values: what is dealt stands in the list.
abbrev pub dealing_words : Admission → List ℕ
dealing_words (Ok tt) = result_words none []
dealing_words (Err why) = result_words (some (refusal_number why)) []

-- Its stage, share, happy set and report.
abbrev pub state_words : Lamp → List ℕ
state_words lamp =
    let sharing = lamp.sharing in
    number_words (stage_number sharing.stage ∷ sharing.share ∷ sharing.happy ∷ sharing.report ∷ [])
