-- What is numbered before a plan is made.
-- For: letrecs, named_lets, dos
use Rattle.std.proofs.Common.{◌≡◌, ◌∙◌, ℕ, List, ap}
use Rattle.ps_base.specs.declared.faults.Place.{Place}
use Rattle.ps_base.specs.declared.limits.Limits.{Limits}
use Rattle.ps_hygiene.specs.Runs.{Step, Goes, ◌>>=◌, ◌>>◌, and_then, pure}
use Rattle.ps_expansion.specs.States.{State, node, next_local, next_locals, next_lambda}
use Rattle.ps_plans.specs.Nodes.{Plan}

-- a node, and locals
pub locals_numbered : (limits : Limits) (left : ℕ) (at : Place) (m k : ℕ) (plan : List ℕ → Plan) (s t u : State) (ls : List ℕ)
    → m ≡ k → node limits left at s ≡ Goes tt t → next_locals k t ≡ Goes ls u
    → (node limits left at >> (next_locals m >>= (λ xs. pure (plan xs)))) s ≡ Goes (plan ls) u
locals_numbered limits left at m k plan s t u ls count made numbered =
    ap (λ (r : Step State (Unit {0})). and_then r (λ _. next_locals m >>= (λ xs. pure (plan xs)))) made
    ∙ ap (λ (j : ℕ). and_then (next_locals j t) (λ xs. pure (plan xs))) count
    ∙ ap (λ (r : Step State (List ℕ)). and_then r (λ xs. pure (plan xs))) numbered

-- a node, the local and the lambda of a loop, and the locals of its variables
pub loop_numbered : (limits : Limits) (left : ℕ) (at : Place) (m k : ℕ) (plan : ℕ → ℕ → List ℕ → Plan) (s t u v w : State)
    (x n : ℕ) (ls : List ℕ)
    → m ≡ k → node limits left at s ≡ Goes tt t → next_local t ≡ Goes x u → next_lambda at u ≡ Goes n v → next_locals k v ≡ Goes ls w
    → (node limits left at >> (next_local >>= (λ y. next_lambda at >>= (λ i. next_locals m >>= (λ xs. pure (plan y i xs)))))) s
    ≡ Goes (plan x n ls) w
loop_numbered limits left at m k plan s t u v w x n ls count made first second numbered =
    ap (λ (r : Step State (Unit {0})). and_then r
    (λ _. next_local >>= (λ y. next_lambda at >>= (λ i. next_locals m >>= (λ xs. pure (plan y i xs)))))) made
    ∙ ap (λ (r : Step State ℕ). and_then r (λ y. next_lambda at >>= (λ i. next_locals m >>= (λ xs. pure (plan y i xs))))) first
    ∙ ap (λ (r : Step State ℕ). and_then r (λ i. next_locals m >>= (λ xs. pure (plan x i xs)))) second
    ∙ ap (λ (j : ℕ). and_then (next_locals j v) (λ xs. pure (plan x n xs))) count
    ∙ ap (λ (r : Step State (List ℕ)). and_then r (λ xs. pure (plan x n xs))) numbered
