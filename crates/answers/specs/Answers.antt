-- What a lamp's call answers, and its stages, in the protocol's numbers.
--   Answered         an answer, or why the call is refused
--   values_of        the values of an answer: a pair's two numbers, the report, the opened number; none otherwise
--   stage_number     the stages in order, from 0
--   Writing          what a call answers that writes into a buffer: how many bytes it wrote, or why none
use Rattle.std.specs.Prelude.{List, [], ◌∷◌, ℕ, Result, Ok, Err}
use Rattle.answers.specs.declared.Refusal.{Refusal}
use Rattle.answers.specs.declared.Stage.{Stage}
use Rattle.answers.specs.declared.Stage.TheVariants.{Waiting, Dealt, Reported, Holding, Closed}
use Rattle.answers.specs.declared.Answer.{Answer}
use Rattle.answers.specs.declared.Answer.TheVariants.{Done, Pair, Report, Accepted, Opened}

-- An answer, or why the call is refused.
abbrev pub Answered : Type 0
Answered = Result Answer Refusal

-- The values of an answer.
abbrev pub values_of : Answered → List ℕ
values_of (Ok Done) = []
values_of (Ok (Pair a b)) = a ∷ b ∷ []
values_of (Ok (Report r)) = r ∷ []
values_of (Ok Accepted) = []
values_of (Ok (Opened v)) = v ∷ []
values_of (Err why) = []

-- waiting, dealt, reported, holding, closed.
abbrev pub stage_number : Stage → ℕ
stage_number Waiting = 0
stage_number Dealt = 1
stage_number Reported = 2
stage_number Holding = 3
stage_number Closed = 4

-- How many bytes are written, or why none are.
abbrev pub Writing : Type 0
Writing = Result ℕ Refusal
