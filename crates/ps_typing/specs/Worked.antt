-- Small sources whose types are told by hand, as examples of the definitions.
--
--     (define (identity x) x)                                         lambda 0 with parameter 0
--     (define (main)                                                  lambda 1
--       (let ((p (identity null-address)))                            local 1
--         (if (null-address? p) (identity 7) 0)))
--
-- `identity` is mentioned at two types, since its group is typed before that of `main`.
--
--     (define (main)                                                  lambda 0
--       (let ((i (lambda (x) x)))                                     local 0, lambda 1 with parameter 1
--         (if (i #t) (i 1) 0)))
--
-- A local has one type, so this `main` has none.
use Rattle.std.specs.Prelude.{◌≡◌, ℕ, ◌==◌, if◌then◌else◌, true, List, [], ◌∷◌, pos, codes}
use Rattle.ps_base.specs.declared.faults.Place.{Place}
use Rattle.ps_base.specs.declared.language.PrimName.TheVariants.{IsNullAddress}
use Rattle.ps_types.specs.declared.types.Ty.{Ty}
use Rattle.ps_types.specs.declared.types.Ty.TheVariants as ty
use Rattle.ps_types.specs.Writing.{Text}
use Rattle.ps_kernel.specs.declared.expr.Constant.TheVariants as constants
use Rattle.ps_kernel.specs.declared.expr.Expr.{Expr}
use Rattle.ps_kernel.specs.declared.expr.ExprKind.{ExprKind}
use Rattle.ps_kernel.specs.declared.expr.ExprKind.TheVariants as v
use Rattle.ps_kernel.specs.declared.kernel.Definition.{Definition}
use Rattle.ps_kernel.specs.declared.kernel.Form.TheVariants.{Define}
use Rattle.ps_kernel.specs.declared.kernel.Kernel.{Kernel}
use Rattle.ps_kernel.specs.declared.kernel.Lambda.{Lambda}
use Rattle.ps_kernel.specs.declared.survivors.Survivors.{Survivors}
use Rattle.ps_kernel.specs.Texts.{expr_at}
use Rattle.ps_typing.specs.Lines.{types_text}
use Rattle.ps_typing.specs.Rules.{Typing}
use Rattle.ps_typing.specs.Typings.{IsTyping, FailsAt}

abbrev pub here : Place
here = record { file = 0; line = 1; column = 1 }

abbrev pub node : ExprKind → Expr
node kind = expr_at here kind

abbrev pub number : ℕ → Expr
number n = node (v.Constant (constants.Integer (pos n)))

abbrev pub lambda_with : List ℕ → Expr → Lambda
lambda_with parameters body = record { place = here; parameters = parameters; captured = []; body = body }

-- a definition of the structure of name 0
abbrev pub definition : ℕ → Definition
definition name = record { structure = record { 0 = 0 }; name = record { 0 = name }; place = here }

-- ---- identity

abbrev pub null_address : Expr
null_address = node (v.Constant constants.NullAddress)

abbrev pub identity : Expr
identity = node (v.Global 0)

abbrev pub bound_value : Expr
bound_value = node (v.Call identity (null_address ∷ []))

abbrev pub test : Expr
test = node (v.Primitive IsNullAddress (node (v.Local 1) ∷ []))

abbrev pub last_call : Expr
last_call = node (v.ProperCall identity (number 7 ∷ []))

abbrev pub choice : Expr
choice = node (v.If test last_call (number 0))

abbrev pub main_body : Expr
main_body = node (v.Let 1 bound_value choice)

abbrev pub generic : Kernel
generic = record {
  definitions = definition 1 ∷ definition 2 ∷ [];
  lambdas = lambda_with (0 ∷ []) (node (v.Local 0)) ∷ lambda_with [] main_body ∷ [];
  literals = [];
  kinds = [];
  forms = Define 0 (node (v.Lambda 0)) ∷ Define 1 (node (v.Lambda 1)) ∷ [];
  main = 1;
}

abbrev pub generic_survivors : Survivors
generic_survivors = record {
  procedures = record { definition = 1; lambda = 1 } ∷ record { definition = 0; lambda = 0 } ∷ [];
  blocks = [];
  globals = [];
  main = 1;
}

-- a procedure of one parameter to the same type
abbrev pub same : Ty → Ty
same t = ty.Proc (t ∷ []) t

abbrev pub main_nodes : List Ty
main_nodes =
    ty.Integer
    ∷ ty.Address ∷ same ty.Address ∷ ty.Address
    ∷ ty.Integer ∷ ty.Boolean ∷ ty.Address
    ∷ ty.Integer ∷ same ty.Integer ∷ ty.Integer
    ∷ ty.Integer
    ∷ []

abbrev pub generic_typing : Typing
generic_typing = record {
  local = λ x. if x == 0 then ty.Var 0 else ty.Address;
  result = λ l. if l == 0 then ty.Var 0 else ty.Integer;
  definition = λ d. if d == 0 then same (ty.Var 0) else ty.Proc [] ty.Integer;
  nodes = λ l. if l == 0 then ty.Var 0 ∷ [] else main_nodes;
}

abbrev pub names : List Text
names = codes "user" ∷ codes "identity" ∷ codes "main" ∷ []

pub record IdentityHasTwoTypes : Type 0 where
  pub typing : IsTyping generic generic_survivors ((0 ∷ []) ∷ (1 ∷ []) ∷ []) generic_typing
  pub text : types_text generic generic_survivors names generic_typing
      ≡ codes "user/identity : (proc (t0) t0)\nuser/main : (proc () integer)\n"

-- ---- a local

abbrev pub local_call : Expr → Expr
local_call e = node (v.Call (node (v.Local 0)) (e ∷ []))

abbrev pub local_choice : Expr
local_choice = node (v.If (local_call (node (v.Constant (constants.Boolean true)))) (local_call (number 1)) (number 0))

abbrev pub local_body : Expr
local_body = node (v.Let 0 (node (v.Lambda 1)) local_choice)

abbrev pub local_kernel : Kernel
local_kernel = record {
  definitions = definition 2 ∷ [];
  lambdas = lambda_with [] local_body ∷ lambda_with (1 ∷ []) (node (v.Local 1)) ∷ [];
  literals = [];
  kinds = [];
  forms = Define 0 (node (v.Lambda 0)) ∷ [];
  main = 0;
}

abbrev pub local_survivors : Survivors
local_survivors = record { procedures = record { definition = 0; lambda = 0 } ∷ []; blocks = []; globals = []; main = 0 }

abbrev pub LocalHasOneType : Type 0
LocalHasOneType = FailsAt local_kernel local_survivors 0
