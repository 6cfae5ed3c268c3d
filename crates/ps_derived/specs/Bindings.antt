-- Lists of bindings and of parameters (R5RS 4.1.4, 4.2.2, 4.2.4 and 4.3.1). Read `different_bindings f` as: the bindings that the list f
-- has, each `(x e)`, and nothing where one has another shape or binds the name of another one.
use Rattle.std.specs.Prelude.{List, [], ◌∷◌, map, Option, Some, None}
use Rattle.std.specs.Option.{option_map, option_and_then}
use Rattle.ps_pattern.specs.declared.syntax.Ident.{Ident}
use Rattle.ps_pattern.specs.declared.syntax.Syntax.{Syntax}
use Rattle.ps_pattern.specs.Matching.{collect}
use Rattle.ps_pattern.specs.Compiling.{ident_at}
use Rattle.ps_derived.specs.Forms.{forms_of, idents_in, some, when}
use Rattle.ps_derived.specs.Distinct.{are_distinct}
use Rattle.ps_derived.specs.PartsOf.{BindingOf, LoopBindingOf, MacroOf}

abbrev pub binding_for : Syntax → Ident → BindingOf
binding_for e id = record { name = id; value = e }

-- (x e)
abbrev pub binding_in : List Syntax → Option BindingOf
binding_in (x ∷ e ∷ []) = option_map (binding_for e) (ident_at x)
binding_in fs = None

abbrev pub binding_at : Syntax → Option BindingOf
binding_at f = option_and_then binding_in (forms_of f)

abbrev pub bindings_in : List Syntax → Option (List BindingOf)
bindings_in fs = collect (map binding_at fs)

abbrev pub names_of : List BindingOf → List Ident
names_of bs = map (λ b. b.name) bs

abbrev pub if_different : List BindingOf → Option (List BindingOf)
if_different bs = when (are_distinct (names_of bs)) bs

abbrev pub different_bindings : Syntax → Option (List BindingOf)
different_bindings f = option_and_then if_different (option_and_then bindings_in (forms_of f))

pub record BoundOf : Type 0 where
  pub bindings : List BindingOf
  pub body : List Syntax

abbrev pub bound_for : List Syntax → List BindingOf → BoundOf
bound_for es bs = record { bindings = bs; body = es }

-- ((x e) ...) body
abbrev pub bound_in : List Syntax → Option BoundOf
bound_in [] = None
bound_in (bs ∷ body) = option_and_then (λ es. option_map (bound_for es) (different_bindings bs)) (some body)

abbrev pub loop_binding_for : Syntax → Option Syntax → Ident → LoopBindingOf
loop_binding_for i s id = record { name = id; first = i; step = s }

-- (x i) or (x i s)
abbrev pub loop_binding_in : List Syntax → Option LoopBindingOf
loop_binding_in (x ∷ i ∷ []) = option_map (loop_binding_for i None) (ident_at x)
loop_binding_in (x ∷ i ∷ s ∷ []) = option_map (loop_binding_for i (Some s)) (ident_at x)
loop_binding_in fs = None

abbrev pub loop_binding_at : Syntax → Option LoopBindingOf
loop_binding_at f = option_and_then loop_binding_in (forms_of f)

abbrev pub loop_bindings_in : List Syntax → Option (List LoopBindingOf)
loop_bindings_in fs = collect (map loop_binding_at fs)

abbrev pub loop_names_of : List LoopBindingOf → List Ident
loop_names_of bs = map (λ b. b.name) bs

abbrev pub if_loop_different : List LoopBindingOf → Option (List LoopBindingOf)
if_loop_different bs = when (are_distinct (loop_names_of bs)) bs

abbrev pub different_loop_bindings : Syntax → Option (List LoopBindingOf)
different_loop_bindings f = option_and_then if_loop_different (option_and_then loop_bindings_in (forms_of f))

abbrev pub macro_for : Syntax → Ident → MacroOf
macro_for r id = record { keyword = id; rules = r }

-- (k rules)
abbrev pub macro_in : List Syntax → Option MacroOf
macro_in (k ∷ r ∷ []) = option_map (macro_for r) (ident_at k)
macro_in fs = None

abbrev pub macro_at : Syntax → Option MacroOf
macro_at f = option_and_then macro_in (forms_of f)

abbrev pub macros_in : List Syntax → Option (List MacroOf)
macros_in fs = collect (map macro_at fs)

abbrev pub keywords_of : List MacroOf → List Ident
keywords_of ms = map (λ m. m.keyword) ms

abbrev pub if_macros_different : List MacroOf → Option (List MacroOf)
if_macros_different ms = when (are_distinct (keywords_of ms)) ms

abbrev pub different_macros : Syntax → Option (List MacroOf)
different_macros f = option_and_then if_macros_different (option_and_then macros_in (forms_of f))

pub record AroundOf : Type 0 where
  pub macros : List MacroOf
  pub body : List Syntax

abbrev pub around_for : List Syntax → List MacroOf → AroundOf
around_for es ms = record { macros = ms; body = es }

-- ((k rules) ...) body
abbrev pub around_in : List Syntax → Option AroundOf
around_in [] = None
around_in (ms ∷ body) = option_and_then (λ es. option_map (around_for es) (different_macros ms)) (some body)

abbrev pub if_idents_different : List Ident → Option (List Ident)
if_idents_different ids = when (are_distinct ids) ids

-- (x ...), with no name twice
abbrev pub different_idents : Syntax → Option (List Ident)
different_idents f = option_and_then if_idents_different (option_and_then idents_in (forms_of f))
