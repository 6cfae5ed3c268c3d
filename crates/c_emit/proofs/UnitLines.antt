-- The text of lines is the lines' texts, one after another.
-- For: emit
use Rattle.std.proofs.Common.{◌≡◌, ℕ, suc, ◌+◌, ◌-◌, ◌<◌, List, [], ◌∷◌, ◌++◌, refl, sym, ap, ◌∙◌, append_assoc, arith}
use Rattle.std.specs.Prelude.{codes}
use Rattle.ps_base.specs.Texts.{◌&◌, each}
use Rattle.ps_base.proofs.Writing.{join_assoc}
use Rattle.c_ast.specs.declared.unit.CFunction.{CFunction}
use Rattle.c_ast.specs.declared.unit.CUnit.{CUnit}
use Rattle.c_ast.specs.declared.unit.Statement.{Statement}
use Rattle.c_ast.specs.declared.prelude.TheConstants.{PRELUDE}
use Rattle.c_ast.specs.Text.{Line, Announces, Declares, Does, head_text, line_text, lines_text, variable_lines, statement_lines, declaration_lines, function_lines, definition_lines, unit_lines, text_of}

-- the text of lines and more lines
lines_text-append : (xs ys : List Line) → lines_text (xs ++ ys) ≡ lines_text xs & lines_text ys
unfolding lines_text ◌&◌
lines_text-append [] ys = refl
lines_text-append (x ∷ xs) ys = ap (λ (t : List ℕ). line_text x ++ (codes "\n" ++ t)) (lines_text-append xs ys) ∙ sym (append_assoc (line_text x) (codes "\n" ++ lines_text xs) (lines_text ys))

-- a line and its end, and the other lines
lines_cons : (l : Line) (ls : List Line) → lines_text (l ∷ ls) ≡ (line_text l & codes "\n") & lines_text ls
unfolding lines_text ◌&◌
lines_cons l ls = sym (append_assoc (line_text l) (codes "\n") (lines_text ls))

lines_none : lines_text [] ≡ []
unfolding lines_text
lines_none = refl

lines_last : (l : Line) → lines_text (l ∷ []) ≡ (line_text l & codes "\n") & []
lines_last l = lines_cons l [] ∙ ap (λ (t : List ℕ). (line_text l & codes "\n") & t) lines_none

-- the statements' lines, one after another
statements_each : (k : ℕ) (ss : List Statement) → lines_text (statement_lines ss) ≡ each (λ k s. lines_text (Does s ∷ [])) k ss
unfolding statement_lines each lines_text
statements_each k [] = refl
statements_each k (s ∷ ss) = lines_text-append (Does s ∷ []) (statement_lines ss) ∙ ap (λ (t : List ℕ). lines_text (Does s ∷ []) & t) (statements_each (suc k) ss)

-- one variable, and the others
variables_more : (k n m : ℕ) → n ≡ suc m → lines_text (variable_lines k n) ≡ (line_text (Declares k) & codes "\n") & lines_text (variable_lines (suc k) m)
unfolding variable_lines
variables_more k n m e = ap (λ i. lines_text (variable_lines k i)) e ∙ lines_cons (Declares k) (variable_lines (suc k) m)

-- the first of the variables that are left, and the others
pub variables_at : (k n : ℕ) → k < n → lines_text (variable_lines k (n - k)) ≡ (line_text (Declares k) & codes "\n") & lines_text (variable_lines (k + 1) (n - (k + 1)))
variables_at k n lt =
    let one : n - k ≡ suc (n - (k + 1)) = omega arith in
    let next : suc k ≡ k + 1 = omega arith in
    variables_more k (n - k) (n - (k + 1)) one ∙ ap (λ i. (line_text (Declares k) & codes "\n") & lines_text (variable_lines i (n - (k + 1)))) next

pub variables_none : (k n : ℕ) → n ≡ 0 → lines_text (variable_lines k n) ≡ []
unfolding variable_lines lines_text
variables_none k n e = rw e refl

-- a function's declaration by its parts
pub declaration_parts : (n k : ℕ) → lines_text (Announces n k ∷ []) ≡ head_text n k & ((codes ";" & codes "\n") & [])
unfolding line_text
declaration_parts n k = rw lines_last (simp join_assoc)

-- a function's definition by its parts
pub definition_parts : (n : ℕ) (f : CFunction) → lines_text (function_lines n f) ≡ head_text n f.parameters & ((codes " {" & codes "\n") & (lines_text (variable_lines f.parameters f.locals) & (each (λ k s. lines_text (Does s ∷ [])) 0 f.statements & ((codes "}" & codes "\n") & []))))
unfolding function_lines line_text
definition_parts n f = rw (lines_cons, lines_text-append, lines_text-append, statements_each 0 f.statements, lines_last) (simp join_assoc)

-- the declarations, one after another
declarations_each : (k : ℕ) (fs : List CFunction) → lines_text (declaration_lines k fs) ≡ each (λ n f. lines_text (Announces n f.parameters ∷ [])) k fs
unfolding declaration_lines each lines_text
declarations_each k [] = refl
declarations_each k (f ∷ fs) = lines_text-append (Announces k f.parameters ∷ []) (declaration_lines (suc k) fs) ∙ ap (λ (t : List ℕ). lines_text (Announces k f.parameters ∷ []) & t) (declarations_each (suc k) fs)

-- the definitions, one after another
definitions_each : (k : ℕ) (fs : List CFunction) → lines_text (definition_lines k fs) ≡ each (λ n f. lines_text (function_lines n f)) k fs
unfolding definition_lines each lines_text
definitions_each k [] = refl
definitions_each k (f ∷ fs) = lines_text-append (function_lines k f) (definition_lines (suc k) fs) ∙ ap (λ (t : List ℕ). lines_text (function_lines k f) & t) (definitions_each (suc k) fs)

-- the text of a unit by its parts
pub text_parts : (u : CUnit) → text_of u ≡ PRELUDE.now & (each (λ n f. lines_text (Announces n f.parameters ∷ [])) 0 u.functions & (each (λ n f. lines_text (function_lines n f)) 0 u.functions & ((codes "int main(void) { return (int)(ps_f0() & 255); }" & codes "\n") & [])))
unfolding text_of unit_lines line_text
text_parts u = rw (lines_text-append, lines_text-append, declarations_each 0 u.functions, definitions_each 0 u.functions, lines_last) refl
