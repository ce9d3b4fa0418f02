-- What is written of a call, and what comes after it.
--   called_if b lamp   the lamp after a call, if there was one
--   line_end lamp      the end of a line: what the lamp holds
--   call_line reply    the line of a call on a lamp
--   desk_words dealt   what the desk answered, in front of the end of its line
use Rattle.std.specs.Prelude.{Bool, cond, List, ◌++◌, ℕ, codes, Option, Some, None}
use Rattle.lamp.specs.declared.Lamp.{Lamp}
use Rattle.lamp.specs.declared.Reply.{Reply}
use Rattle.replies.specs.Words.{answer_words, dealing_words, number_words, state_words}
use Rattle.answers.specs.Refusals.{Admission}

-- None where there was no call.
abbrev pub called_if : Bool → Lamp → Option Lamp
called_if called lamp = cond called (Some lamp) None

-- Behind a semicolon.
abbrev pub line_end : Lamp → List ℕ
line_end lamp = codes " ;" ++ (state_words lamp ++ codes "\n")

-- What the lamp answered, and what it holds.
abbrev pub call_line : Reply → List ℕ
call_line reply = answer_words reply.answer ++ line_end reply.lamp

-- Its answer, and what the list of deals holds then.
abbrev pub desk_words : List ℕ × Admission → List ℕ
desk_words dealt = dealing_words dealt.1 ++ number_words dealt.0
