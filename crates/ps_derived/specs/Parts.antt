-- Which forms are special forms, and their parts (R5RS 4.1, 4.2 and 5.2 to 5.3, in this project's profile; `goto` and record types are this
-- project's own, after Pre-Scheme). Read `parts_of is_else is_arrow core f` as: the parts that the form f has as the special form core, and
-- nothing where f has not its shape, where is_else and is_arrow tell which identifiers count as `else` and `=>`.
use Rattle.std.specs.Prelude.{◌≡◌, ⊤, Bool, List, [], ◌∷◌, Option, Some, None, Result, Ok, Err}
use Rattle.std.specs.Option.{option_map, option_and_then}
use Rattle.ps_base.specs.declared.faults.Place.{Place}
use Rattle.ps_base.specs.declared.faults.Fault.TheVariants as f
use Rattle.ps_base.specs.declared.faults.FormKind.TheVariants.{BadForm}
use Rattle.ps_base.specs.declared.faults.Refusal.{Refusal}
use Rattle.ps_base.specs.declared.faults.Refusal.TheVariants as r
use Rattle.ps_base.specs.declared.language.Core.{Core}
use Rattle.ps_base.specs.declared.language.Core.TheVariants as c
use Rattle.ps_pattern.specs.declared.syntax.Ident.{Ident}
use Rattle.ps_pattern.specs.declared.syntax.Syntax.{Syntax}
use Rattle.ps_pattern.specs.Compiling.{ident_at}
use Rattle.ps_derived.specs.Forms.{forms_of, idents_in, operands_of, some}
use Rattle.ps_derived.specs.Bindings.{BoundOf, bound_in, AroundOf, around_in, different_idents, different_loop_bindings, macro_in}
use Rattle.ps_derived.specs.Clauses.{ClausesOf, cond_clauses, case_clauses}
use Rattle.ps_derived.specs.Records.{record_in}
use Rattle.ps_derived.specs.PartsOf.{PartsOf, DefinedOf, BindingOf, LoopBindingOf, MacroOf, ClauseOf, CaseClauseOf}
use Rattle.ps_derived.specs.PartsOf as p

-- x e
abbrev pub variable_in : Ident → List Syntax → Option DefinedOf
variable_in x (e ∷ []) = Some (p.Variable x e)
variable_in x fs = None

abbrev pub procedure_for : Ident → List Syntax → List Ident → DefinedOf
procedure_for name body ids = p.Procedure name ids body

-- f x ..., and a body
abbrev pub procedure_in : List Syntax → List Syntax → Option DefinedOf
procedure_in body [] = None
procedure_in body (g ∷ xs) = option_and_then (λ name. option_map (procedure_for name body) (idents_in xs)) (ident_at g)

abbrev pub defined_by : Option Ident → Syntax → List Syntax → Option DefinedOf
defined_by (Some x) head rest = variable_in x rest
defined_by None head rest = option_and_then (λ body. option_and_then (procedure_in body) (forms_of head)) (some rest)

-- x e, or (f x ...) body
abbrev pub defined_in : List Syntax → Option DefinedOf
defined_in [] = None
defined_in (head ∷ rest) = defined_by (ident_at head) head rest

abbrev pub lambda_for : List Syntax → List Ident → PartsOf
lambda_for body ids = p.Lambda ids body

-- (x ...) body
abbrev pub lambda_in : List Syntax → Option PartsOf
lambda_in [] = None
lambda_in (xs ∷ body) = option_and_then (λ es. option_map (lambda_for es) (different_idents xs)) (some body)

-- t a b, or t a
abbrev pub if_in : List Syntax → Option PartsOf
if_in (t ∷ a ∷ []) = Some (p.If t a None)
if_in (t ∷ a ∷ b ∷ []) = Some (p.If t a (Some b))
if_in fs = None

abbrev pub let_for : BoundOf → PartsOf
let_for x = p.Let x.bindings x.body

abbrev pub named_let_for : Ident → BoundOf → PartsOf
named_let_for f x = p.NamedLet f x.bindings x.body

abbrev pub let_star_for : BoundOf → PartsOf
let_star_for x = p.LetStar x.bindings x.body

abbrev pub letrec_for : BoundOf → PartsOf
letrec_for x = p.Letrec x.bindings x.body

abbrev pub let_by : Option Ident → Syntax → List Syntax → Option PartsOf
let_by (Some f) first rest = option_map (named_let_for f) (bound_in rest)
let_by None first rest = option_map let_for (bound_in (first ∷ rest))

-- ((x e) ...) body, or f ((x e) ...) body
abbrev pub let_in : List Syntax → Option PartsOf
let_in [] = None
let_in (first ∷ rest) = let_by (ident_at first) first rest

abbrev pub set_for : Syntax → Ident → PartsOf
set_for e x = p.Set x e

-- x e
abbrev pub set_in : List Syntax → Option PartsOf
set_in (x ∷ e ∷ []) = option_map (set_for e) (ident_at x)
set_in fs = None

-- d
abbrev pub quote_in : List Syntax → Option PartsOf
quote_in (d ∷ []) = Some (p.Quote d)
quote_in fs = None

abbrev pub cond_for : ClausesOf ClauseOf → PartsOf
cond_for x = p.Cond x.clauses x.last

abbrev pub case_for : Syntax → ClausesOf CaseClauseOf → PartsOf
case_for k x = p.Case k x.clauses x.last

-- k ((d ...) e ...) ... (else e ...)
abbrev pub case_in : (Ident → Bool) → List Syntax → Option PartsOf
case_in is_else [] = None
case_in is_else (k ∷ fs) = option_map (case_for k) (case_clauses is_else fs)

abbrev pub do_for : Syntax → List Syntax → List Syntax → List LoopBindingOf → PartsOf
do_for t es commands bs = p.Do bs t es commands

-- (t e ...)
abbrev pub do_by : Syntax → List Syntax → List Syntax → Option PartsOf
do_by bs commands [] = None
do_by bs commands (t ∷ es) = option_map (do_for t es commands) (different_loop_bindings bs)

-- ((x i s) ...) (t e ...) c ...
abbrev pub do_in : List Syntax → Option PartsOf
do_in (bs ∷ end ∷ commands) = option_and_then (do_by bs commands) (forms_of end)
do_in fs = None

-- f a ...
abbrev pub goto_in : List Syntax → Option PartsOf
goto_in [] = None
goto_in (f ∷ es) = Some (p.Goto f es)

abbrev pub let_syntax_for : AroundOf → PartsOf
let_syntax_for x = p.LetSyntax x.macros x.body

abbrev pub letrec_syntax_for : AroundOf → PartsOf
letrec_syntax_for x = p.LetrecSyntax x.macros x.body

abbrev pub row : (Ident → Bool) → (Ident → Bool) → Core → List Syntax → Option PartsOf
row is_else is_arrow c.Define fs = option_map p.Define (defined_in fs)
row is_else is_arrow c.DefineSyntax fs = option_map p.DefineSyntax (macro_in fs)
row is_else is_arrow c.DefineRecordType fs = option_map p.RecordType (record_in fs)
row is_else is_arrow c.Lambda fs = lambda_in fs
row is_else is_arrow c.If fs = if_in fs
row is_else is_arrow c.Let fs = let_in fs
row is_else is_arrow c.LetStar fs = option_map let_star_for (bound_in fs)
row is_else is_arrow c.Letrec fs = option_map letrec_for (bound_in fs)
row is_else is_arrow c.Begin fs = option_map p.Begin (some fs)
row is_else is_arrow c.Set fs = set_in fs
row is_else is_arrow c.Quote fs = quote_in fs
row is_else is_arrow c.Cond fs = option_map cond_for (cond_clauses is_else is_arrow fs)
row is_else is_arrow c.Case fs = case_in is_else fs
row is_else is_arrow c.And fs = Some (p.And fs)
row is_else is_arrow c.Or fs = Some (p.Or fs)
row is_else is_arrow c.Do fs = do_in fs
row is_else is_arrow c.Goto fs = goto_in fs
row is_else is_arrow c.LetSyntax fs = option_map let_syntax_for (around_in fs)
row is_else is_arrow c.LetrecSyntax fs = option_map letrec_syntax_for (around_in fs)

abbrev pub parts_of : (Ident → Bool) → (Ident → Bool) → Core → Syntax → Option PartsOf
parts_of is_else is_arrow core f = option_and_then (row is_else is_arrow core) (operands_of f)

-- what a call answers where this is wanted: it, or BadForm at the place exactly where there is nothing; memory may always run out
abbrev pub Answers : {A B : Type 0} → (A → B) → Place → Option B → Result A Refusal → Type 0
Answers see place want (Ok x) = want ≡ Some (see x)
Answers see place want (Err (r.Fault e)) = (want ≡ None) × (e ≡ f.Form BadForm place)
Answers see place want (Err r.NoMemory) = ⊤
