-- What the top call answers, and why (this project's own). The input shows i before the call and i' after it, and the output
-- shows o and o'.
use Rattle.std.specs.Prelude.{◌≡◌, ℕ, ◌<◌, ◌≤◌, ◌⊎◌, List, length, Option, None, Some}
use Rattle.ps_base.specs.Numbers.{Rose}
use Rattle.ps_base.specs.SinkStates.{SinkState}
use Rattle.ps_base.specs.Sinks.{Appended, Cut}
use Rattle.ps_base.specs.declared.faults.Fault.TheVariants as faults
use Rattle.ps_base.specs.declared.faults.Place.{Place}
use Rattle.ps_base.specs.declared.faults.SyntaxKind.{SyntaxKind}
use Rattle.ps_edge.specs.SourceStates.{SourceState}
use Rattle.ps_edge.specs.Sources.{Taking, IsSpent}
use Rattle.ps_command.specs.Headline.{Compiles, BreaksSyntax, IsNoProgram}
use Rattle.ps_command.specs.Words.{words_fault}
use Rattle.ps_command.specs.declared.answer.Answer.{Answer}
use Rattle.ps_command.specs.declared.answer.Answer.TheVariants as answers

-- how many bytes a text may have
abbrev pub limit : ℕ
limit = 4194304

-- the input was read to its end, and the text is all that it had left
pub record ReadsAll (i i' : SourceState) (text : List ℕ) : Type 0 where
  pub taken : Taking i i' text
  pub spent : IsSpent i'
  pub within : length text ≤ limit

-- the input was read, and no more than a text may have was taken
pub record ReadsSome (i i' : SourceState) : Type 0 where
  pub bytes : List ℕ
  pub taken : Taking i i' bytes
  pub within : length bytes ≤ limit

-- Done: the whole translation of the text was appended to the output, which holds nothing back
pub record IsDone (i i' : SourceState) (o o' : SinkState) : Type 0 where
  pub text : List ℕ
  pub written : List ℕ
  pub read : ReadsAll i i' text
  pub compiles : Compiles text written
  pub appended : Appended o o' written
  pub handed_on : o'.held ≡ 0

-- the output failed: its count of faults rose, and a front of the translation was appended
pub record IsSinkFault (i i' : SourceState) (o o' : SinkState) : Type 0 where
  pub text : List ℕ
  pub written : List ℕ
  pub read : ReadsAll i i' text
  pub compiles : Compiles text written
  pub cut : Cut o o' written

-- the input failed: its count of faults rose, and the output is unchanged
pub record IsSourceFault (i i' : SourceState) (o o' : SinkState) : Type 0 where
  pub read : ReadsSome i i'
  pub rose : Rose i.faults i'.faults
  pub unchanged : o' ≡ o

-- more was taken from the input than a text may have, and the output is unchanged
pub record IsTooLong (file : ℕ) (i i' : SourceState) (o o' : SinkState) : Type 0 where
  pub is_input : file ≡ 0
  pub bytes : List ℕ
  pub taken : Taking i i' bytes
  pub above : limit < length bytes
  pub unchanged : o' ≡ o

-- the text has a first breach of this kind, and the output is unchanged
pub record IsSyntaxFault (kind : SyntaxKind) (place : Place) (i i' : SourceState) (o o' : SinkState) : Type 0 where
  pub text : List ℕ
  pub read : ReadsAll i i' text
  pub breaks : BreaksSyntax text kind place
  pub unchanged : o' ≡ o

-- the text is that of data that are no program, and the output is unchanged
pub record IsNotBuilt (place : Place) (i i' : SourceState) (o o' : SinkState) : Type 0 where
  pub text : List ℕ
  pub read : ReadsAll i i' text
  pub none : IsNoProgram text place
  pub unchanged : o' ≡ o

-- memory ran out before the output was touched
pub record IsNoMemory (i i' : SourceState) (o o' : SinkState) : Type 0 where
  pub read : ReadsSome i i'
  pub unchanged : o' ≡ o

-- The table of answers to right words. No other fault comes.
abbrev pub Says : Answer → SourceState → SourceState → SinkState → SinkState → Type 0
Says answers.Done i i' o o' = IsDone i i' o o'
Says (answers.Refused faults.Source) i i' o o' = IsSourceFault i i' o o'
Says (answers.Refused faults.Sink) i i' o o' = IsSinkFault i i' o o'
Says (answers.Refused (faults.TooLong file)) i i' o o' = IsTooLong file i i' o o'
Says (answers.Refused (faults.Syntax kind place)) i i' o o' = IsSyntaxFault kind place i i' o o'
Says (answers.Refused (faults.NotBuilt place)) i i' o o' = IsNotBuilt place i i' o o'
Says answers.NoMemory i i' o o' = IsNoMemory i i' o o'
Says (answers.Refused _) i i' o o' = ⊥

-- Words that break the rules are told at once, and then nothing was read or written.
abbrev pub AnswersBy : Option ℕ → Answer → SourceState → SourceState → SinkState → SinkState → Type 0
AnswersBy (Some word) answer i i' o o' = (answer ≡ answers.Refused (faults.Usage word)) × (i' ≡ i) × (o' ≡ o)
AnswersBy None answer i i' o o' = Says answer i i' o o'

-- what the top call answers to these words
abbrev pub Answers : Answer → List (List ℕ) → SourceState → SourceState → SinkState → SinkState → Type 0
Answers answer words i i' o o' = AnswersBy (words_fault words) answer i i' o o'

-- the line was appended, or a front of it where the count of faults rose
abbrev pub LineWritten : SinkState → SinkState → List ℕ → Type 0
LineWritten e e' line = Appended e e' line ⊎ Cut e e' line

-- nothing is held back, or the count of faults rose
abbrev pub IsHandedOn : SinkState → SinkState → Type 0
IsHandedOn e e' = (e'.held ≡ 0) ⊎ Rose e.faults e'.faults
