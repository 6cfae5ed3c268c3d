use Rattle.ps_pattern.proofs.Turns.{turns_are_shaped, forms_stay, variables_have_forms}
use Rattle.ps_pattern.proofs.laws.turns_shaped.Goals as goal

pub returns : goal.returns
returns c = record { turns = turns_are_shaped; forms = forms_stay; variables = variables_have_forms }
