-- The plans of loops, from what their parts are.
-- For: named_lets, dos, commands_row
use Rattle.std.proofs.Common.{◌≡◌, ◌∙◌, ℕ, ◌≤◌, List, [], ◌∷◌, ◌++◌, length, ap, sym, arith}
use Rattle.ps_base.specs.declared.faults.Place.{Place}
use Rattle.ps_pattern.specs.declared.syntax.Ident.{Ident}
use Rattle.ps_pattern.specs.declared.syntax.Syntax.{Syntax}
use Rattle.ps_hygiene.specs.Runs.{Step, Goes, and_then, pure}
use Rattle.ps_expansion.specs.Levels.{down, inner, passed}
use Rattle.ps_expansion.specs.States.{State, Task, node}
use Rattle.ps_expansion.specs.declared.level.Level.{Level}
use Rattle.ps_plans.specs.Nodes.{Plan, Of, Staged, InsideOf, Begin, staged, staged_forms}
use Rattle.ps_plans.specs.Parts.{Operand, Part, Body, Row, Again}
use Rattle.ps_binders.specs.Binders.{body_inside, commands_row, loop_at, where_named}

pub named_plan : (l inside : Level) (at : Place) (x n : ℕ) (ps : List ℕ) (fs : List Syntax) (names want : List Ident) (locals : List ℕ)
    (body : Staged) (given wanted : List Operand) (p : Plan)
    → inside ≡ inner l → names ≡ want → locals ≡ x ∷ ps → body ≡ where_named inside names locals (Body at fs) → given ≡ wanted
    → p ≡ loop_at l at x (record { number = n; place = at; parameters = ps; body = body }) given
    → loop_at l at x (record { number = n; place = at; parameters = ps; body = where_named (inner l) want (x ∷ ps) (Body at fs) }) wanted
    ≡ p
named_plan l inside at x n ps fs names want locals body given wanted p a b c d e f = cc

pub do_plan : (l inside : Level) (at : Place) (x n : ℕ) (ls : List ℕ) (names want : List Ident) (part round : Part)
    (i : InsideOf) (given wanted : List Operand) (p : Plan)
    → inside ≡ inner l → names ≡ want → part ≡ round → i ≡ body_inside inside n at names ls part → given ≡ wanted
    → p ≡ loop_at l at x i given
    → loop_at l at x (body_inside (inner l) n at want ls round) wanted ≡ p
do_plan l inside at x n ls names want part round i given wanted p a b c d e f = cc

pub commands_plan : (task : Task) (l : Level) (at : Place) (fs : List Syntax) (x : ℕ) (ps : List Operand) (s t : State)
    (parts : List Staged)
    → 1 ≤ length fs → node task.limits l.left at s ≡ Goes tt t
    → parts ≡ staged_forms (down l) fs ++ staged (passed l) (Row (Again at x ps)) ∷ []
    → commands_row task l at fs x ps s ≡ Goes (Of at (Begin parts)) t
commands_plan task l at [] x ps s t parts some made is = absurd (omega arith)
commands_plan task l at (f ∷ fs) x ps s t parts some made is =
    ap (λ (r : Step State (Unit {0})). and_then r
    (λ _. pure (Of at (Begin (staged_forms (down l) (f ∷ fs) ++ staged (passed l) (Row (Again at x ps)) ∷ []))))) made
    ∙ ap (λ (z : List Staged). Goes (Of at (Begin z)) t) (sym is)
