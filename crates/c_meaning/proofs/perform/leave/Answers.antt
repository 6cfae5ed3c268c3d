-- The frame that waits has the variable to which the value goes, and goes on as in the machine.
use Rattle.std.proofs.Common.{rules, ◌≡◌, [], ◌∷◌, ◌++◌, sym, ap, ◌∙◌, subst}
use Rattle.std.specs.List.{AllByRecursion}
use Rattle.c_meaning.specs.Stack.{Stack}
use Rattle.c_meaning.specs.InsideSteps.{HasTarget}
use Rattle.c_meaning.proofs.FramesFollow.{all-last, leave-goes}
use Rattle.c_meaning.proofs.perform.leave.Goals as goal

pub resume-requires : goal.resume-requires
resume-requires c =
    let last : c.args.state.now.callers ≡ c.pop.new.self.items ++ c.in-Some.waiting ∷ [] = sym (ap (λ (s : Stack). s.callers) c.state.view_is) ∙ c.in-Some.ensures.items in
    all-last HasTarget c.pop.new.self.items c.in-Some.waiting (subst (AllByRecursion HasTarget) last c.requires)

pub returns-in-Some : goal.returns-in-Some
returns-in-Some c = λ u.
    let last : c.args.state.now.callers ≡ c.pop.new.self.items ++ c.in-Some.waiting ∷ [] = sym (ap (λ (s : Stack). s.callers) c.state.view_is) ∙ c.in-Some.ensures.items in
    leave-goes u c.args.state.now c.resume.new.state c.args.value c.pop.new.self.items c.in-Some.waiting last (search rules)
