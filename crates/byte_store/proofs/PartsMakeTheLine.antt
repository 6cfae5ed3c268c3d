-- The parts of a line, one after another, are the line.
-- For: put_line
use Rattle.std.proofs.Common.{◌≡◌, ℕ, suc, List, [], ◌∷◌, map, refl, sym, ap, ◌∙◌}
use Rattle.std.specs.Prelude.{codes}
use Rattle.ps_base.specs.Texts.{◌&◌, each}
use Rattle.ps_base.proofs.Writing.{join_assoc}
use Rattle.byte_store.specs.Lines.{spaced, line}

pub spaced_each : {A : Type 0} (f : A → List ℕ) (k : ℕ) (xs : List A) → each (λ i x. codes " " & f x) k xs & codes "\n" ≡ spaced (map f xs)
unfolding each spaced ◌&◌
spaced_each f k [] = refl
spaced_each f k (x ∷ xs) = join_assoc (codes " " & f x) (each (λ i y. codes " " & f y) (suc k) xs) (codes "\n") ∙ join_assoc (codes " ") (f x) _ ∙ ap (λ (rest : List ℕ). codes " " & f x & rest) (spaced_each f (suc k) xs)

pub line_parts : {A : Type 0} (f : A → List ℕ) (word : List ℕ) (xs : List A) → line word (map f xs) ≡ word & each (λ i x. codes " " & f x) 0 xs & codes "\n"
unfolding line
line_parts f word xs = ap (λ (rest : List ℕ). word & rest) (sym (spaced_each f 0 xs))
