-- The texts of definitions that survive (this project's own): which lambdas stand there, which locals they bind, and which
-- definitions they mention or assign. All of it is read off the marks of the kernel.
use Rattle.std.specs.Prelude.{ℕ, Bool, ◌||◌, ◌==◌, if◌then◌else◌, List, [], ◌∷◌, Option, Some, None, is_some}
use Rattle.std.specs.List.{flat_map}
use Rattle.ps_kernel.specs.declared.kernel.Kernel.{Kernel}
use Rattle.ps_kernel.specs.declared.survivors.Kept.{Kept}
use Rattle.ps_kernel.specs.declared.survivors.KeptGlobal.{KeptGlobal}
use Rattle.ps_kernel.specs.declared.survivors.KeptProcedure.{KeptProcedure}
use Rattle.ps_kernel.specs.declared.survivors.Survivors.{Survivors}
use Rattle.ps_kernel.specs.Lists.{stands_in}
use Rattle.ps_kernel.specs.Marks.{Mark, Reads, Assigns}
use Rattle.ps_kernel.specs.Texts.{standing, bound, lambda_text}
use Rattle.ps_typing.specs.Order.{Graph}
use Rattle.ps_typing.specs.Rules.{Text}

-- the lambda of a procedure definition that survives
abbrev pub lambda_at : ℕ → List KeptProcedure → Option ℕ
lambda_at d [] = None
lambda_at d (p ∷ ps) = if d == p.definition then Some p.lambda else lambda_at d ps

-- the value of any other definition that survives
abbrev pub value_at : ℕ → List KeptGlobal → Option Kept
value_at d [] = None
value_at d (g ∷ gs) = if d == g.number then Some g.value else value_at d gs

-- the definitions that are mentioned or assigned
abbrev pub definitions_in : List Mark → List ℕ
definitions_in [] = []
definitions_in (Reads at g ∷ ms) = g ∷ definitions_in ms
definitions_in (Assigns at g ∷ ms) = g ∷ definitions_in ms
definitions_in (m ∷ ms) = definitions_in ms

module _ (k : Kernel) where
  -- a lambda, and those that stand in its text, in order
  abbrev pub lambdas_in : ℕ → List ℕ
  lambdas_in l = l ∷ standing (lambda_text k l)

  -- the locals that its text binds
  abbrev pub locals_in : ℕ → List ℕ
  locals_in l = bound (lambda_text k l)

  abbrev pub of_lambda : (ℕ → List ℕ) → Option ℕ → List ℕ
  of_lambda f None = []
  of_lambda f (Some l) = f l

  module _ (s : Survivors) where
    -- the lambdas in the text of a definition, and its locals
    abbrev pub lambdas_of : ℕ → List ℕ
    lambdas_of d = of_lambda lambdas_in (lambda_at d s.procedures)

    abbrev pub locals_of : ℕ → List ℕ
    locals_of d = of_lambda locals_in (lambda_at d s.procedures)

    -- the text of a group of definitions
    abbrev pub text_of : List ℕ → Text
    text_of ds = record {
      definitions = λ d. stands_in d ds;
      locals = λ x. stands_in x (flat_map locals_of ds);
      lambdas = λ l. stands_in l (flat_map lambdas_of ds);
    }

    -- The nodes are the definitions that survive. A procedure definition mentions those that the text of its lambda mentions or
    -- assigns, and any other none.
    abbrev pub survives : ℕ → Bool
    survives d = is_some (lambda_at d s.procedures) || is_some (value_at d s.globals)

    abbrev pub graph_of : Graph
    graph_of = record { is_node = survives; mentioned = λ d. of_lambda (λ l. definitions_in (lambda_text k l)) (lambda_at d s.procedures) }
