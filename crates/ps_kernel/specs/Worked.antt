-- A small kernel, whose sizes and whose lambdas' locals are told by hand, as an example of the definitions.
--
--     (define (main)                            lambda 0
--       (let ((k 7))                            local 0
--         (letrec ((f (lambda (x) (g x)))       local 1, lambda 1 with parameter 3
--                  (g (lambda (y)               local 2, lambda 2 with parameter 4
--                       (lambda () (if y k f))))) lambda 3
--           (f k))))
use Rattle.std.specs.Prelude.{ℕ, List, [], ◌∷◌, pos}
use Rattle.ps_base.specs.declared.faults.Place.{Place}
use Rattle.ps_kernel.specs.declared.expr.CaseKind.TheVariants as cases
use Rattle.ps_kernel.specs.declared.expr.Constant.TheVariants as constants
use Rattle.ps_kernel.specs.declared.expr.Expr.{Expr}
use Rattle.ps_kernel.specs.declared.expr.ExprKind.{ExprKind}
use Rattle.ps_kernel.specs.declared.expr.ExprKind.TheVariants.{Constant, Local, Lambda as Stands, If, Let, Letrec, Case, Call}
use Rattle.ps_kernel.specs.declared.expr.GroupEntry.{GroupEntry}
use Rattle.ps_kernel.specs.declared.expr.Labelled.{Labelled, roll-Labelled}
use Rattle.ps_kernel.specs.declared.kernel.Form.TheVariants.{Define, Do}
use Rattle.ps_kernel.specs.declared.kernel.Kernel.{Kernel}
use Rattle.ps_kernel.specs.declared.kernel.Lambda.{Lambda}
use Rattle.ps_kernel.specs.Captured.{IsCaptured}
use Rattle.ps_kernel.specs.Sizes.{HasDepth, HasNodes}
use Rattle.ps_kernel.specs.Texts.{expr_at}

abbrev pub here : Place
here = record { file = 0; line = 1; column = 1 }

abbrev pub node : ExprKind → Expr
node kind = expr_at here kind

abbrev pub local : ℕ → Expr
local x = node (Local x)

abbrev pub call : ℕ → ℕ → Expr
call f x = node (Call (local f) (local x ∷ []))

abbrev pub lambda_with : List ℕ → List ℕ → Expr → Lambda
lambda_with parameters captured body = record { place = here; parameters = parameters; captured = captured; body = body }

abbrev pub group : List GroupEntry
group = record { local = 1; lambda = 1 } ∷ record { local = 2; lambda = 2 } ∷ []

abbrev pub seven : Expr
seven = node (Constant (constants.Integer (pos 7)))

abbrev pub main_body : Expr
main_body = node (Let 0 seven (node (Letrec group (call 1 0))))

abbrev pub inner_body : Expr
inner_body = node (If (local 4) (local 0) (local 1))

abbrev pub lambdas : List Lambda
lambdas =
    lambda_with [] [] main_body
    ∷ lambda_with (3 ∷ []) (0 ∷ []) (call 2 3)
    ∷ lambda_with (4 ∷ []) (0 ∷ []) (node (Stands 3))
    ∷ lambda_with [] (0 ∷ 1 ∷ 4 ∷ []) inner_body
    ∷ []

abbrev pub example : Kernel
example = record {
  definitions = record { structure = record { 0 = 0 }; name = record { 0 = 1 }; place = here } ∷ [];
  lambdas = lambdas;
  literals = [];
  kinds = [];
  forms = Define 0 (node (Stands 0)) ∷ [];
  main = 0;
}

-- What the procedures of its lambdas keep. f reaches g, in whose text k is mentioned. The innermost lambda is of no group, and
-- keeps f itself.
pub record ExampleKeeps : Type 0 where
  pub of_f : IsCaptured example 1 (0 ∷ [])
  pub of_g : IsCaptured example 2 (0 ∷ [])
  pub of_inner : IsCaptured example 3 (0 ∷ 1 ∷ 4 ∷ [])

abbrev pub branch : Labelled
branch = roll-Labelled (record { labels = pos 1 ∷ pos 2 ∷ []; body = seven })

-- (case 7 ((1 2) 7) (else 7))
abbrev pub chosen : Expr
chosen = node (Case cases.Integer seven (branch ∷ []) seven)

-- (define (main) 7) and then the case. The body stands one level below its lambda, and is counted where the lambda stands. The
-- case counts as (let ((h 7)) (if (if (= h 1) #t (= h 2)) 7 7)): the operands of = stand on the fifth level.
abbrev pub sized : Kernel
sized = record example { lambdas = lambda_with [] [] seven ∷ []; forms = Define 0 (node (Stands 0)) ∷ Do chosen ∷ [] }

pub record ExampleSizes : Type 0 where
  pub depth : HasDepth sized 5
  pub count : HasNodes sized 15
