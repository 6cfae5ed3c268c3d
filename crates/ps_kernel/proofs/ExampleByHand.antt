-- The small example: its texts and its group, read node by node.
-- For: `example_keeps` and `example_sizes`
use Rattle.std.proofs.Common.{◌≡◌, ◌↔◌, ℕ, zero, suc, ◌<◌, Bool, true, false, List, [], ◌∷◌, ◌++◌, refl, sym, ap, subst, ◌∙◌, arith}
use Rattle.std.specs.Prelude.{pos, ◌&&◌, ◌||◌, ◌==◌}
use Rattle.std.specs.List.{list_all}
use Rattle.std.proofs.lemmas.Bool.{eqb-true}
use Rattle.ps_kernel.specs.declared.expr.CaseKind.TheVariants as cases
use Rattle.ps_kernel.specs.declared.expr.Constant.TheVariants as constants
use Rattle.ps_kernel.specs.declared.expr.GroupEntry.{GroupEntry}
use Rattle.ps_kernel.specs.declared.expr.Expr.{Expr, out-roll-Expr}
use Rattle.ps_kernel.specs.declared.expr.ExprKind.{ExprKind, out-ExprKind}
use Rattle.ps_kernel.specs.declared.expr.ExprKind.TheOpen.{ExprKind-F, Expr-F, Labelled-F}
use Rattle.ps_kernel.specs.declared.expr.ExprKind.TheVariants as v
use Rattle.ps_kernel.specs.declared.expr.Labelled.{Labelled, out-roll-Labelled}
use Rattle.ps_kernel.specs.declared.kernel.Kernel.{Kernel}
use Rattle.ps_kernel.specs.Lists.{stands_in}
use Rattle.ps_kernel.specs.Marks.{Mark, Node, TooDeep, Stands, BindsParameter, BindsLet, BindsEntry, Mentions, Chooses, Piece, Whole, Choice, AnyOf, test_of, locals_of, kind_marks, group_marks, marks}
use Rattle.ps_kernel.specs.Texts.{named, bound, text, lambda_text, form_marks, group_in, group_of}
use Rattle.ps_kernel.specs.Captured.{IsFree, Reaches, itself, through, Keeps, IsCaptured}
use Rattle.ps_kernel.specs.Rules.{has_level, nodes}
use Rattle.ps_kernel.specs.Sizes.{HasDepth, HasNodes, is_within}
use Rattle.ps_kernel.specs.Worked.{node, local, seven, call, group, main_body, inner_body, example, branch, chosen, sized, here}

-- ---- texts

abbrev n_ : Mark
n_ = Node here

abbrev layered : Kernel → ℕ → Bool → List ℕ → ExprKind-F ExprKind Expr Labelled → List Mark
layered q n tail scope y = n_ ∷ kind_marks q (marks q n) tail scope here y

marks_at : (q : Kernel) (n : ℕ) (tail : Bool) (scope : List ℕ) (x : ExprKind) (y : ExprKind-F ExprKind Expr Labelled) → out-ExprKind x ≡ y → marks q (suc n) tail scope (Whole (node x)) ≡ layered q n tail scope y
unfolding marks
marks_at q n tail scope x y is =
    ap (λ (z : Expr-F ExprKind Expr Labelled). Node z.place ∷ kind_marks q (marks q n) tail scope z.place (out-ExprKind z.kind)) (out-roll-Expr (record { place = here; kind = x }))
    ∙ ap (λ (z : ExprKind-F ExprKind Expr Labelled). layered q n tail scope z) is

at_local : (n : ℕ) (tail : Bool) (scope : List ℕ) (x : ℕ) → marks example (suc n) tail scope (Whole (local x)) ≡ n_ ∷ Mentions x scope ∷ []
at_local n tail scope x = marks_at example n tail scope (v.Local x) (ExprKind-F.Local x) (v.outs-Local x)

at_seven : (q : Kernel) (n : ℕ) (tail : Bool) (scope : List ℕ) → marks q (suc n) tail scope (Whole seven) ≡ n_ ∷ []
at_seven q n tail scope = marks_at q n tail scope (v.Constant (constants.Integer (pos 7))) (ExprKind-F.Constant (constants.Integer (pos 7))) (v.outs-Constant (constants.Integer (pos 7)))

at_lambda : (q : Kernel) (n : ℕ) (tail : Bool) (scope : List ℕ) (l : ℕ) → marks q (suc n) tail scope (Whole (node (v.Lambda l))) ≡ layered q n tail scope (ExprKind-F.Lambda l)
at_lambda q n tail scope l = marks_at q n tail scope (v.Lambda l) (ExprKind-F.Lambda l) (v.outs-Lambda l)

abbrev call_text : List ℕ → ℕ → ℕ → List Mark
call_text scope f x = n_ ∷ n_ ∷ Mentions f scope ∷ n_ ∷ Mentions x scope ∷ []

at_call : (n : ℕ) (tail : Bool) (scope : List ℕ) (f x : ℕ) → marks example (suc (suc n)) tail scope (Whole (call f x)) ≡ call_text scope f x
at_call n tail scope f x =
    marks_at example (suc n) tail scope (v.Call (local f) (local x ∷ [])) (ExprKind-F.Call (local f) (local x ∷ [])) (v.outs-Call (local f) (local x ∷ []))
    ∙ ap (λ ms. n_ ∷ (ms ++ (marks example (suc n) false scope (Whole (local x)) ++ []))) (at_local n false scope f)
    ∙ ap (λ ms. n_ ∷ n_ ∷ Mentions f scope ∷ (ms ++ [])) (at_local n false scope x)

abbrev inner_text : List ℕ → List Mark
inner_text scope = n_ ∷ n_ ∷ Mentions 4 scope ∷ n_ ∷ Mentions 0 scope ∷ n_ ∷ Mentions 1 scope ∷ []

at_inner : (n : ℕ) (scope : List ℕ) → marks example (suc (suc n)) true scope (Whole inner_body) ≡ inner_text scope
at_inner n scope =
    marks_at example (suc n) true scope (v.If (local 4) (local 0) (local 1)) (ExprKind-F.If (local 4) (local 0) (local 1)) (v.outs-If (local 4) (local 0) (local 1))
    ∙ ap (λ ms. n_ ∷ (ms ++ (marks example (suc n) true scope (Whole (local 0)) ++ marks example (suc n) true scope (Whole (local 1))))) (at_local n false scope 4)
    ∙ ap (λ ms. n_ ∷ n_ ∷ Mentions 4 scope ∷ (ms ++ marks example (suc n) true scope (Whole (local 1)))) (at_local n true scope 0)
    ∙ ap (λ ms. n_ ∷ n_ ∷ Mentions 4 scope ∷ n_ ∷ Mentions 0 scope ∷ ms) (at_local n true scope 1)

text_f : lambda_text example 1 ≡ BindsParameter 3 ∷ call_text (3 ∷ []) 2 3
unfolding lambda_text
text_f = ap (λ ms. BindsParameter 3 ∷ ms) (at_call 998 true (3 ∷ []) 2 3)

text_g : lambda_text example 2 ≡ BindsParameter 4 ∷ n_ ∷ Stands 3 [] ∷ inner_text (4 ∷ [])
unfolding lambda_text
text_g = ap (λ ms. BindsParameter 4 ∷ ms) (at_lambda example 999 true (4 ∷ []) 3 ∙ ap (λ ms. n_ ∷ Stands 3 [] ∷ ms) (at_inner 997 (4 ∷ [])))

text_inner : lambda_text example 3 ≡ inner_text []
unfolding lambda_text
text_inner = at_inner 998 []

-- ---- the one group

abbrev scope : List ℕ
scope = 1 ∷ 2 ∷ 0 ∷ []

abbrev grouped : Expr
grouped = node (v.Letrec group (call 1 0))

abbrev until_group : List Mark → List Mark
until_group ms = n_ ∷ Stands 0 [] ∷ n_ ∷ n_ ∷ BindsLet 0 ∷ n_ ∷ BindsEntry (record { local = 1; lambda = 1 }) ∷ BindsEntry (record { local = 2; lambda = 2 }) ∷ ms

at_main : marks example 999 true [] (Whole main_body) ≡ layered example 998 true [] (ExprKind-F.Let 0 seven grouped)
at_main = marks_at example 998 true [] (v.Let 0 seven grouped) (ExprKind-F.Let 0 seven grouped) (v.outs-Let 0 seven grouped)

at_group : marks example 998 true (0 ∷ []) (Whole grouped) ≡ layered example 997 true (0 ∷ []) (ExprKind-F.Letrec group (call 1 0))
at_group = marks_at example 997 true (0 ∷ []) (v.Letrec group (call 1 0)) (ExprKind-F.Letrec group (call 1 0)) (v.outs-Letrec group (call 1 0))

abbrev last : List Mark
last = marks example 997 true scope (Whole (call 1 0))

abbrev members : List Mark
members = group_marks example (marks example 997) scope group group

text_is : text example ≡ until_group (members ++ last) ++ []
unfolding text
text_is =
    ap (λ ms. ms ++ []) (at_lambda example 999 false [] 0)
    ∙ ap (λ ms. (n_ ∷ Stands 0 [] ∷ ms) ++ []) at_main
    ∙ ap (λ ms. (n_ ∷ Stands 0 [] ∷ n_ ∷ (ms ++ (BindsLet 0 ∷ marks example 998 true (0 ∷ []) (Whole grouped)))) ++ []) (at_seven example 997 false [])
    ∙ ap (λ ms. (n_ ∷ Stands 0 [] ∷ n_ ∷ n_ ∷ BindsLet 0 ∷ ms) ++ []) at_group

abbrev until_inner : List Mark → List Mark
until_inner ms = Stands 1 group ∷ BindsParameter 3 ∷ (call_text (3 ∷ scope) 2 3 ++ (Stands 2 group ∷ BindsParameter 4 ∷ n_ ∷ Stands 3 [] ∷ ms))

members_are : members ≡ until_inner (marks example 996 true (4 ∷ scope) (Whole inner_body) ++ [])
members_are =
    ap (λ ms. Stands 1 group ∷ BindsParameter 3 ∷ (ms ++ ((Stands 2 group ∷ BindsParameter 4 ∷ marks example 997 true (4 ∷ scope) (Whole (node (v.Lambda 3)))) ++ []))) (at_call 995 true (3 ∷ scope) 2 3)
    ∙ ap (λ ms. Stands 1 group ∷ BindsParameter 3 ∷ (call_text (3 ∷ scope) 2 3 ++ ((Stands 2 group ∷ BindsParameter 4 ∷ ms) ++ []))) (at_lambda example 996 true (4 ∷ scope) 3)

group_by : (l : ℕ) → group_of example l ≡ group_in l (until_group (until_inner (marks example 996 true (4 ∷ scope) (Whole inner_body) ++ []) ++ last) ++ [])
unfolding group_of
group_by l = ap (group_in l) (text_is ∙ ap (λ ms. until_group (ms ++ last) ++ []) members_are)

-- ---- what is reached

entered : (a b c d : Bool) → ((a && b) || ((c && d) || false)) ≡ true → (b || (d || false)) ≡ true
entered a true c d h = refl
entered a false c true h = refl
entered true false true false h = absurd cc
entered true false false false h = absurd cc
entered false false true false h = absurd cc
entered false false false false h = absurd cc

reached : (l n : ℕ) → stands_in l (1 ∷ 2 ∷ []) ≡ true → Reaches example group l n → stands_in n (1 ∷ 2 ∷ []) ≡ true
reached l n h (itself) = h
reached l n h (through m z x r s e) = entered (x == 1) (n == 1) (x == 2) (n == 2) e

alone : (l n : ℕ) → Reaches example [] l n → n ≡ l
alone l n (itself) = refl
alone l n (through m z x r s e) = absurd cc

-- ---- what is kept

abbrev k : List ℕ
k = 0 ∷ []

by_f : (p q r z : Bool) → (p || (q || false)) ≡ true → (q || false) ≡ false → (r || (p || false)) ≡ false → z ≡ true
by_f true q true z h i j = absurd cc
by_f true q false z h i j = absurd cc
by_f false true r z h i j = absurd cc
by_f false false r z h i j = absurd cc

in_f : (x : ℕ) → IsFree example 1 x → stands_in x (locals_of group) ≡ false → stands_in x k ≡ true
in_f x free out =
    by_f (x == 2) (x == 3) (x == 1) (stands_in x k) (sym (ap (λ (t : List Mark). stands_in x (named t)) text_f) ∙ free.names) (sym (ap (λ (t : List Mark). stands_in x (bound t)) text_f) ∙ free.binds_not) out

by_g : (a z u w : Bool) → (a || (z || (u || false))) ≡ true → (a || false) ≡ false → (u || (w || false)) ≡ false → (z || false) ≡ true
by_g true z u w h i j = absurd cc
by_g false true u w h i j = refl
by_g false false true w h i j = absurd cc
by_g false false false w h i j = absurd cc

in_g : (x : ℕ) → IsFree example 2 x → stands_in x (locals_of group) ≡ false → stands_in x k ≡ true
in_g x free out =
    by_g (x == 4) (x == 0) (x == 1) (x == 2) (sym (ap (λ (t : List Mark). stands_in x (named t)) text_g) ∙ free.names) (sym (ap (λ (t : List Mark). stands_in x (bound t)) text_g) ∙ free.binds_not) out

only_k : (l : ℕ) → stands_in l (1 ∷ 2 ∷ []) ≡ true → (x : ℕ) → Keeps example group l x → stands_in x k ≡ true
only_k l h x it = by (it.lambda == 1) (it.lambda == 2) refl refl (reached l it.lambda h it.reached)
  where
    by : (b d : Bool) → (it.lambda == 1) ≡ b → (it.lambda == 2) ≡ d → (b || (d || false)) ≡ true → stands_in x k ≡ true
    by true d e f i = in_f x (subst (λ (n : ℕ). IsFree example n x) (eqb-true it.lambda 1 e) it.free) it.outside
    by false true e f i = in_g x (subst (λ (n : ℕ). IsFree example n x) (eqb-true it.lambda 2 f) it.free) it.outside
    by false false e f i = absurd cc

k_is_free : IsFree example 2 0
k_is_free = record { names = ap (λ (t : List Mark). stands_in 0 (named t)) text_g; binds_not = ap (λ (t : List Mark). stands_in 0 (bound t)) text_g }

keeps_k : (l : ℕ) → Reaches example group l 2 → (x : ℕ) → stands_in x k ≡ true → Keeps example group l x
keeps_k l r x h = by (x == 0) refl h
  where
    by : (b : Bool) → (x == 0) ≡ b → (b || false) ≡ true → Keeps example group l x
    by true e i = subst (λ (y : ℕ). Keeps example group l y) (sym (eqb-true x 0 e)) (record { lambda = 2; reached = r; free = k_is_free; outside = refl })
    by false e i = absurd cc

f_reaches_g : Reaches example group 1 2
f_reaches_g = through 1 2 2 itself (ap (λ (t : List Mark). stands_in 2 (named t)) text_f) refl

pub of_f : IsCaptured example 1 k
of_f = record {
  keeps = λ x. subst (λ (g : List GroupEntry). (stands_in x k ≡ true) ↔ Keeps example g 1 x) (sym (group_by 1)) (keeps_k 1 f_reaches_g x, only_k 1 refl x);
  ascends = tt;
}

pub of_g : IsCaptured example 2 k
of_g = record {
  keeps = λ x. subst (λ (g : List GroupEntry). (stands_in x k ≡ true) ↔ Keeps example g 2 x) (sym (group_by 2)) (keeps_k 2 itself x, only_k 2 refl x);
  ascends = tt;
}

turned : (z u a : Bool) → (z || (u || (a || false))) ≡ true → (a || (z || (u || false))) ≡ true
turned z u true h = refl
turned true u false h = refl
turned false true false h = refl
turned false false false h = absurd cc

turned_back : (z u a : Bool) → (a || (z || (u || false))) ≡ true → (z || (u || (a || false))) ≡ true
turned_back true u a h = refl
turned_back false true a h = refl
turned_back false false true h = refl
turned_back false false false h = absurd cc

pub of_inner : IsCaptured example 3 (0 ∷ 1 ∷ 4 ∷ [])
of_inner = record {
  keeps = λ x. subst (λ (g : List GroupEntry). (stands_in x (0 ∷ 1 ∷ 4 ∷ []) ≡ true) ↔ Keeps example g 3 x) (sym (group_by 3)) (there x, back x);
  ascends = (omega arith, (omega arith, tt));
}
  where
    there : (x : ℕ) → stands_in x (0 ∷ 1 ∷ 4 ∷ []) ≡ true → Keeps example [] 3 x
    there x h = record {
      lambda = 3;
      reached = itself;
      free = record { names = ap (λ (t : List Mark). stands_in x (named t)) text_inner ∙ turned (x == 0) (x == 1) (x == 4) h; binds_not = ap (λ (t : List Mark). stands_in x (bound t)) text_inner };
      outside = refl;
    }

    back : (x : ℕ) → Keeps example [] 3 x → stands_in x (0 ∷ 1 ∷ 4 ∷ []) ≡ true
    back x it =
        let free : IsFree example 3 x = subst (λ (n : ℕ). IsFree example n x) (alone 3 it.lambda it.reached) it.free in
        turned_back (x == 0) (x == 1) (x == 4) (sym (ap (λ (t : List Mark). stands_in x (named t)) text_inner) ∙ free.names)

-- ---- sizes

abbrev test : Piece
test = AnyOf here (pos 2 ∷ [])

abbrev choice : Piece
choice = Choice here branch [] seven

at_chosen : (n : ℕ) → marks sized (suc n) false [] (Whole chosen) ≡ n_ ∷ Chooses cases.Integer (branch ∷ []) ∷ (marks sized n false [] (Whole seven) ++ marks sized n false [] choice)
at_chosen n = marks_at sized n false [] (v.Case cases.Integer seven (branch ∷ []) seven) (ExprKind-F.Case cases.Integer seven (branch ∷ []) seven) (v.outs-Case cases.Integer seven (branch ∷ []) seven)

at_choice : (n : ℕ) → marks sized (suc n) false [] choice ≡ n_ ∷ (marks sized n false [] test ++ (marks sized n false [] (Whole seven) ++ marks sized n false [] (Whole seven)))
unfolding marks
at_choice n =
    ap (λ (z : Labelled-F ExprKind Expr Labelled). n_ ∷ (marks sized n false [] (test_of here z.labels) ++ (marks sized n false [] (Whole z.body) ++ marks sized n false [] (Whole seven))))
    (out-roll-Labelled (record { labels = pos 1 ∷ pos 2 ∷ []; body = seven }))

abbrev until_choice : List Mark → List Mark
until_choice ms = n_ ∷ Stands 0 [] ∷ n_ ∷ n_ ∷ Chooses cases.Integer (branch ∷ []) ∷ n_ ∷ ms

sized_text : (n : ℕ) → form_marks sized (suc (suc n)) sized.forms ≡ until_choice ((n_ ∷ (marks sized n false [] test ++ (marks sized n false [] (Whole seven) ++ marks sized n false [] (Whole seven)))) ++ [])
sized_text n =
    ap (λ ms. ms ++ (marks sized (suc (suc n)) false [] (Whole chosen) ++ [])) (at_lambda sized (suc n) false [] 0 ∙ ap (λ ms. n_ ∷ Stands 0 [] ∷ ms) (at_seven sized n true []))
    ∙ ap (λ ms. n_ ∷ Stands 0 [] ∷ n_ ∷ (ms ++ [])) (at_chosen (suc n) ∙ ap (λ ms. n_ ∷ Chooses cases.Integer (branch ∷ []) ∷ (ms ++ marks sized (suc n) false [] choice)) (at_seven sized n false []))
    ∙ ap (λ ms. until_choice (ms ++ [])) (at_choice n)

at_test : (n : ℕ) → marks sized (suc (suc (suc n))) false [] test ≡ n_ ∷ n_ ∷ n_ ∷ n_ ∷ n_ ∷ n_ ∷ n_ ∷ n_ ∷ []
unfolding marks
at_test n = refl

whole_text : form_marks sized 5 sized.forms ≡ until_choice (n_ ∷ n_ ∷ n_ ∷ n_ ∷ n_ ∷ n_ ∷ n_ ∷ n_ ∷ n_ ∷ n_ ∷ n_ ∷ [])
whole_text =
    sized_text 3
    ∙ ap (λ ms. until_choice ((n_ ∷ (ms ++ (marks sized 3 false [] (Whole seven) ++ marks sized 3 false [] (Whole seven)))) ++ [])) (at_test 0)
    ∙ ap (λ ms. until_choice (n_ ∷ n_ ∷ n_ ∷ n_ ∷ n_ ∷ n_ ∷ n_ ∷ n_ ∷ n_ ∷ ((ms ++ ms) ++ []))) (at_seven sized 2 false [])

no_levels : is_within 0 sized ≡ false
unfolding marks
no_levels = refl

no_body : marks sized 0 true [] (Whole seven) ≡ TooDeep ∷ []
unfolding marks
no_body = refl

one_level : is_within 1 sized ≡ false
one_level =
    ap (λ ms. list_all has_level (ms ++ (marks sized 1 false [] (Whole chosen) ++ []))) (at_lambda sized 0 false [] 0 ∙ ap (λ ms. n_ ∷ Stands 0 [] ∷ ms) no_body)

-- a test needs three levels
tests_too_deep : (n : ℕ) → n < 3 → (ms : List Mark) → list_all has_level ((marks sized n false [] test ++ ms) ++ []) ≡ false
unfolding marks
tests_too_deep zero h ms = refl
tests_too_deep (suc zero) h ms = refl
tests_too_deep (suc (suc zero)) h ms = refl
tests_too_deep (suc (suc (suc n))) h ms = absurd (omega (arith, h))

pub depth : HasDepth sized 5
depth = record { within = ap (list_all has_level) whole_text; least = least }
  where
    least : (n : ℕ) → n < 5 → is_within n sized ≡ false
    least zero h = no_levels
    least (suc zero) h = one_level
    least (suc (suc n)) h = ap (list_all has_level) (sized_text n) ∙ tests_too_deep n (omega (arith, h)) (marks sized n false [] (Whole seven) ++ marks sized n false [] (Whole seven))

pub count : HasNodes sized 15
count = record { levels = 5; within = ap (list_all has_level) whole_text; count = ap nodes whole_text }
