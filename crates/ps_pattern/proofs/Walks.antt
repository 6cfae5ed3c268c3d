-- What variables stand for in turns of ellipses.
-- For: Environment.get, Environment.step
use Rattle.std.proofs.Common.{◌≡◌, ℕ, List, [], ◌∷◌, ◌++◌, map, refl, ap, ◌∙◌}
use Rattle.ps_pattern.specs.declared.bound.Bound.{Bound}
use Rattle.ps_pattern.specs.Filling.{turned, walked, at_step}

walked_more : (path : List ℕ) (i : ℕ) (x : Bound) → walked (path ++ i ∷ []) x ≡ turned i (walked path x)
walked_more [] i x = refl
walked_more (j ∷ path) i x = walked_more path i (turned j x)

pub step_is : (path : List ℕ) (i : ℕ) (binds : List Bound) → map (walked (path ++ i ∷ [])) binds ≡ at_step (map (walked path) binds) i
step_is path i [] = refl
step_is path i (x ∷ xs) = ap (λ z. z ∷ map (walked (path ++ i ∷ [])) xs) (walked_more path i x) ∙ ap (λ zs. turned i (walked path x) ∷ zs) (step_is path i xs)

unwalked_all : (binds : List Bound) → map (walked []) binds ≡ binds
unwalked_all [] = refl
unwalked_all (x ∷ xs) = ap (λ zs. x ∷ zs) (unwalked_all xs)

-- outside all ellipses
pub unwalked : (path : List ℕ) (binds : List Bound) → path ≡ [] → map (walked path) binds ≡ binds
unwalked path binds e = ap (λ p. map (walked p) binds) e ∙ unwalked_all binds
