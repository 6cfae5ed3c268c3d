-- Clauses of `cond` and `case` (R5RS 4.2.1). Read `clauses_by one is_else fs` as: the clauses that the forms fs are, each by one, and
-- the expressions of the `else` clause where the last form is one, and nothing where a form has another shape or an `else` clause stands
-- before another form.
use Rattle.std.specs.Prelude.{Bool, false, if◌then◌else◌, List, [], ◌∷◌, ◌++◌, map, Option, Some, None}
use Rattle.std.specs.Option.{option_map, option_and_then}
use Rattle.ps_pattern.specs.declared.syntax.Ident.{Ident}
use Rattle.ps_pattern.specs.declared.syntax.Syntax.{Syntax}
use Rattle.ps_pattern.specs.declared.syntax.SyntaxNode.{out-SyntaxNode}
use Rattle.ps_pattern.specs.declared.syntax.SyntaxNode.TheOpen as o
use Rattle.ps_pattern.specs.Matching.{collect}
use Rattle.ps_pattern.specs.Compiling.{Node, ident_at}
use Rattle.ps_derived.specs.declared.types.Label.{Label}
use Rattle.ps_derived.specs.declared.types.Label.TheVariants as l
use Rattle.ps_derived.specs.Forms.{forms_of, operands_of, some}
use Rattle.ps_derived.specs.PartsOf.{ClauseOf, CaseClauseOf}
use Rattle.ps_derived.specs.PartsOf as p

-- whether a form is a word that counts
abbrev pub is_word : (Ident → Bool) → Option Ident → Bool
is_word is None = false
is_word is (Some id) = is id

abbrev pub begins : (Ident → Bool) → Option (List Syntax) → Bool
begins is None = false
begins is (Some []) = false
begins is (Some (f ∷ fs)) = is_word is (ident_at f)

-- whether a form is a list that begins with a word that counts
abbrev pub begins_with : (Ident → Bool) → Syntax → Bool
begins_with is f = begins is (forms_of f)

pub record ClausesOf (A : Type 0) : Type 0 where
  pub clauses : List A
  pub last : Option (List Syntax)

abbrev pub ended_by : {A : Type 0} → List Syntax → ClausesOf A
ended_by es = record { clauses = []; last = Some es }

abbrev pub in_front : {A : Type 0} → List A → ClausesOf A → ClausesOf A
in_front cs x = record { clauses = cs ++ x.clauses; last = x.last }

-- the expressions of (else e ...), at the end
abbrev pub else_body : Syntax → List Syntax → Option (List Syntax)
else_body f [] = option_and_then some (operands_of f)
else_body f (g ∷ fs) = None

abbrev pub else_last : {A : Type 0} → Syntax → List Syntax → Option (ClausesOf A)
else_last f fs = option_map ended_by (else_body f fs)

abbrev pub put_first : {A : Type 0} → Option (ClausesOf A) → A → Option (ClausesOf A)
put_first rest c = option_map (in_front (c ∷ [])) rest

abbrev pub clauses_by : {A : Type 0} → (Syntax → Option A) → (Syntax → Bool) → List Syntax → Option (ClausesOf A)
clauses_by one is_else [] = Some (record { clauses = []; last = None })
clauses_by one is_else (f ∷ fs) =
    if is_else f then else_last f fs else option_and_then (put_first (clauses_by one is_else fs)) (one f)

-- (t => f), and no other form where `=>` counts
abbrev pub arrow_in : Syntax → List Syntax → Option ClauseOf
arrow_in t (f ∷ []) = Some (p.Arrow t f)
arrow_in t fs = None

abbrev pub clause_with : (Ident → Bool) → Syntax → List Syntax → Option ClauseOf
clause_with is_arrow t [] = Some (p.Alone t)
clause_with is_arrow t (e ∷ es) = if is_word is_arrow (ident_at e) then arrow_in t es else Some (p.Then t (e ∷ es))

-- (t), (t => f) or (t e ...)
abbrev pub clause_in : (Ident → Bool) → List Syntax → Option ClauseOf
clause_in is_arrow [] = None
clause_in is_arrow (t ∷ es) = clause_with is_arrow t es

abbrev pub clause_at : (Ident → Bool) → Syntax → Option ClauseOf
clause_at is_arrow f = option_and_then (clause_in is_arrow) (forms_of f)

abbrev pub cond_clauses : (Ident → Bool) → (Ident → Bool) → List Syntax → Option (ClausesOf ClauseOf)
cond_clauses is_else is_arrow fs = clauses_by (clause_at is_arrow) (begins_with is_else) fs

-- a datum that `case` compares with
abbrev pub label_in : Node → Option Label
label_in (o.Integer x) = Some (l.Integer x)
label_in (o.Char x) = Some (l.Char x)
label_in (o.Boolean x) = Some (l.Boolean x)
label_in (o.Text x) = None
label_in (o.Ident x) = None
label_in (o.List fs) = None
label_in (o.Dotted fs f) = None
label_in (o.Vector fs) = None

abbrev pub label_at : Syntax → Option Label
label_at f = label_in (out-SyntaxNode f.node)

abbrev pub labels_in : List Syntax → Option (List Label)
labels_in fs = collect (map label_at fs)

abbrev pub case_clause_for : List Syntax → List Label → CaseClauseOf
case_clause_for es ls = record { labels = ls; body = es }

-- ((d ...) e ...), with an expression
abbrev pub case_clause_in : List Syntax → Option CaseClauseOf
case_clause_in [] = None
case_clause_in (d ∷ body) = option_and_then (λ es. option_map (case_clause_for es) (option_and_then labels_in (forms_of d))) (some body)

abbrev pub case_clause_at : Syntax → Option CaseClauseOf
case_clause_at f = option_and_then case_clause_in (forms_of f)

abbrev pub case_clauses : (Ident → Bool) → List Syntax → Option (ClausesOf CaseClauseOf)
case_clauses is_else fs = clauses_by case_clause_at (begins_with is_else) fs
