-- A text has at most one unit: its lines are read again, and a unit is read off its lines.
-- For: text_has_one_unit
use Rattle.std.proofs.Common.{◌≡◌, ℕ, zero, suc, List, [], ◌∷◌, ◌++◌, refl, sym, ap, ◌∙◌, append_assoc}
use Rattle.std.proofs.lemmas.List.{append_cancel_left, append-nil}
use Rattle.ps_base.specs.Texts.{◌&◌}
use Rattle.c_ast.specs.declared.unit.Statement.{Statement}
use Rattle.c_ast.specs.declared.unit.CFunction.{CFunction}
use Rattle.c_ast.specs.declared.unit.CUnit.{CUnit}
use Rattle.c_ast.specs.declared.prelude.TheConstants.{PRELUDE}
use Rattle.c_ast.specs.Text.{Line, Announces, Opens, Declares, Does, Closes, Main, lines_text, variable_lines, statement_lines, declaration_lines, function_lines, definition_lines, unit_lines, text_of}
use Rattle.c_ast.specs.Laws.{TextHasOneUnit}
use Rattle.c_ast.proofs.LinesReadBack.{lines_same}
use Rattle.c_ast.proofs.NumbersFit.{unit_fits}

-- ---- the functions that lines define

abbrev with_parameters : ℕ → List CFunction → List CFunction
with_parameters k [] = []
with_parameters k (f ∷ fs) = record f { parameters = k } ∷ fs

abbrev with_variable : List CFunction → List CFunction
with_variable [] = []
with_variable (f ∷ fs) = record f { locals = suc f.locals } ∷ fs

abbrev with_statement : Statement → List CFunction → List CFunction
with_statement s [] = []
with_statement s (f ∷ fs) = record f { statements = s ∷ f.statements } ∷ fs

abbrev functions_in : List Line → List CFunction
functions_in [] = []
functions_in (Announces n k ∷ ls) = functions_in ls
functions_in (Opens n k ∷ ls) = with_parameters k (functions_in ls)
functions_in (Declares k ∷ ls) = with_variable (functions_in ls)
functions_in (Does s ∷ ls) = with_statement s (functions_in ls)
functions_in (Closes ∷ ls) = record { parameters = 0; locals = 0; statements = [] } ∷ functions_in ls
functions_in (Main ∷ ls) = functions_in ls

statements_in : (ss : List Statement) (ls : List Line) → functions_in (statement_lines ss ++ Closes ∷ ls) ≡ record { parameters = 0; locals = 0; statements = ss } ∷ functions_in ls
unfolding statement_lines
statements_in [] ls = refl
statements_in (s ∷ ss) ls = ap (with_statement s) (statements_in ss ls)

variables_in : (k n : ℕ) (ss : List Statement) (ls : List Line) → functions_in (variable_lines k n ++ (statement_lines ss ++ Closes ∷ ls)) ≡ record { parameters = 0; locals = n; statements = ss } ∷ functions_in ls
unfolding variable_lines
variables_in k zero ss ls = statements_in ss ls
variables_in k (suc n) ss ls = ap with_variable (variables_in (suc k) n ss ls)

function_in : (n : ℕ) (f : CFunction) (ls : List Line) → functions_in (function_lines n f ++ ls) ≡ f ∷ functions_in ls
unfolding function_lines
function_in n f ls = rw (append_assoc (variable_lines f.parameters f.locals), append_assoc (statement_lines f.statements)) (ap (with_parameters f.parameters) (variables_in f.parameters f.locals f.statements ls))

definitions_in : (n : ℕ) (fs : List CFunction) (ls : List Line) → functions_in (definition_lines n fs ++ ls) ≡ fs ++ functions_in ls
unfolding definition_lines
definitions_in n [] ls = refl
definitions_in n (f ∷ fs) ls = rw (append_assoc (function_lines n f)) (function_in n f (definition_lines (suc n) fs ++ ls) ∙ ap (λ (gs : List CFunction). f ∷ gs) (definitions_in (suc n) fs ls))

declarations_in : (n : ℕ) (fs : List CFunction) (ls : List Line) → functions_in (declaration_lines n fs ++ ls) ≡ functions_in ls
unfolding declaration_lines
declarations_in n [] ls = refl
declarations_in n (f ∷ fs) ls = declarations_in (suc n) fs ls

unit_in : (u : CUnit) → functions_in (unit_lines u) ≡ u.functions
unfolding unit_lines
unit_in u = declarations_in 0 u.functions (definition_lines 0 u.functions ++ (Main ∷ [])) ∙ definitions_in 0 u.functions (Main ∷ []) ∙ append-nil u.functions

-- ---- the law

one_lines : (u v : CUnit) → text_of u ≡ text_of v → lines_text (unit_lines u) ≡ lines_text (unit_lines v)
unfolding text_of ◌&◌
one_lines u v e = append_cancel_left PRELUDE.now (lines_text (unit_lines u)) (lines_text (unit_lines v)) e

pub one_unit : TextHasOneUnit
one_unit bytes u v a b =
    let same = lines_same (unit_lines u) (unit_lines v) (unit_fits u a.well_formed) (unit_fits v b.well_formed) (one_lines u v (sym a.text ∙ b.text)) in
    ap (λ (fs : List CFunction). record { functions = fs }) (sym (unit_in u) ∙ ap functions_in same ∙ unit_in v)
