use Rattle.std.proofs.Common.{refl, subst}
use Rattle.ps_types.specs.declared.types.Ty.TheVariants.{Var}
use Rattle.ps_unify.specs.InsideSteps.{Becomes, Comes, weight}
use Rattle.ps_unify.proofs.StepsComeToTheirEnd.{left_becomes, right_becomes}
use Rattle.ps_unify.proofs.equalizing.tie.Goals as goal

pub returns-then-is_heavier : goal.returns-then-is_heavier
returns-then-is_heavier c = right_becomes c.args.s.now (Var c.args.x) (Var c.args.y) c.args.y refl c.args.room c.bind_within.new.s c.bind_within.result
    (subst (λ z. Comes z (Becomes c.args.y (Var c.args.x)) (weight (Var c.args.x)) 1 c.args.room c.bind_within.new.s c.bind_within.result) c.note.ensures c.bind_within.ensures)

pub returns-else-is_heavier : goal.returns-else-is_heavier
returns-else-is_heavier c = left_becomes c.args.s.now (Var c.args.x) (Var c.args.y) c.args.x refl c.args.room c.bind_within-else-is_heavier.new.s c.bind_within-else-is_heavier.result
    (subst (λ z. Comes z (Becomes c.args.x (Var c.args.y)) (weight (Var c.args.y)) 1 c.args.room c.bind_within-else-is_heavier.new.s c.bind_within-else-is_heavier.result) c.note-else-is_heavier.ensures c.bind_within-else-is_heavier.ensures)
