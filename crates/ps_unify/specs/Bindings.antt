-- Bindings of variables to types, what they mean, and which substitutions extend them (this project's own, after Robinson).
-- Each binding is an equation between a variable and a type, which may have variables that are bound as well. A substitution
-- extends the bindings where it keeps all equations. Read `means s` aloud as 'what s means': the substitution that resolves
-- every bound variable whole and leaves each other one. Where s is `Solved` this is the most general one that extends s.
use Rattle.std.specs.Prelude.{◌≡◌, ◌≢◌, ℕ, ◌==◌, if◌then◌else◌, List, [], ◌∷◌}
use Rattle.ps_types.specs.declared.types.Ty.{Ty}
use Rattle.ps_types.specs.declared.types.Ty.TheVariants.{Var}
use Rattle.ps_types.specs.Substitutions.{Substitution, apply}

-- variables and what they are bound to, in the order in which they were bound
abbrev pub Bindings : Type 0
Bindings = List (ℕ × Ty)

-- u for x, and each other variable as it is
abbrev pub single : ℕ → Ty → Substitution
single x u = λ y. if x == y then u else Var y

-- σ, and then x stands for t
abbrev pub added : Substitution → ℕ → Ty → Substitution
added σ x t = λ y. apply (single x (apply σ t)) (σ y)

abbrev pub means_from : Substitution → Bindings → Substitution
means_from σ [] = σ
means_from σ (b ∷ s) = means_from (added σ b.0 b.1) s

abbrev pub means : Bindings → Substitution
means = means_from Var

abbrev pub keeps : Substitution → Bindings → Type 0
keeps θ [] = Unit {0}
keeps θ (b ∷ s) = (θ b.0 ≡ apply θ b.1) × keeps θ s

-- θ keeps the equation of each binding
pub record Extends (θ : Substitution) (s : Bindings) : Type 0 where
  pub all : keeps θ s

abbrev pub free : ℕ → Bindings → Type 0
free x [] = Unit {0}
free x (b ∷ s) = (b.0 ≢ x) × free x s

-- x is not bound
pub record Free (x : ℕ) (s : Bindings) : Type 0 where
  pub all : free x s

abbrev pub apart : ℕ → Bindings → Type 0
apart x [] = Unit {0}
apart x (c ∷ s) = (c.1 ≢ Var x) × apart x s

-- a variable that is bound to a variable was bound before that one
abbrev pub chained : Bindings → Type 0
chained [] = Unit {0}
chained (b ∷ s) = (b.1 ≢ Var b.0) × apart b.0 s × chained s

-- what the bindings mean keeps them, and leaves each variable that is not bound
pub record Solved (s : Bindings) : Type 0 where
  pub solved : keeps (means s) s
  pub unbound : (x : ℕ) → Free x s → means s x ≡ Var x
  pub order : chained s
