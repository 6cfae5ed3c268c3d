use Rattle.std.proofs.Common.{◌≡◌, Ok, sym, ◌∙◌}
use Rattle.ps_read.proofs.AnswersMeetClauses.{is_answer}
use Rattle.ps_read.proofs.laws.text_has_one_reading.Goals as goal

pub returns : goal.returns
returns c = λ names file text ds es n m a b.
    let e : Ok ds ≡ Ok es = sym (is_answer names file text ds a.data_are) ∙ is_answer names file text es b.data_are in
    cc
