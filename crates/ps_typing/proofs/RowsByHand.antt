-- The worked sources: their texts, a typing of the first, and why the second has none.
-- For: `identity_has_two_types` and `local_has_one_type`
use Rattle.std.proofs.Common.{◌≡◌, ℕ, suc, ◌+◌, Bool, true, false, List, [], ◌∷◌, ◌++◌, map, Some, None, refl, sym, ap, ◌∙◌, subst, arith}
use Rattle.std.specs.Prelude.{◌↔◌, ◌==◌, ◌||◌, if◌then◌else◌, is_some, pos, slice_get, codes, decimal}
use Rattle.std.proofs.lemmas.Bool.{eqb-true}
use Rattle.std.proofs.lemmas.Fmt.{decimal_digit}
use Rattle.ps_base.specs.Texts.{◌&◌}
use Rattle.ps_base.specs.declared.language.PrimName.TheVariants.{IsNullAddress}
use Rattle.ps_types.specs.declared.types.Ty.{Ty, Ty-F, out-Ty, fold-Ty, fold-roll-Ty}
use Rattle.ps_types.specs.declared.types.Ty.TheVariants as ty
use Rattle.ps_types.specs.Substitutions.{size, total}
use Rattle.ps_types.specs.Writing.{Text as Bytes, variables, variables_node, text_node, text_in, type_text, spaced}
use Rattle.ps_types.proofs.TypesAreTerms.{apply_var, size_at}
use Rattle.ps_types.proofs.SubstitutionsCompose.{unchanged}
use Rattle.ps_types.proofs.TextsComeByParts.{of_proc}
use Rattle.ps_kernel.specs.declared.expr.Constant.TheVariants as constants
use Rattle.ps_kernel.specs.declared.expr.Expr.{Expr, out-roll-Expr}
use Rattle.ps_kernel.specs.declared.expr.ExprKind.{ExprKind, out-ExprKind}
use Rattle.ps_kernel.specs.declared.expr.ExprKind.TheOpen.{ExprKind-F, Expr-F}
use Rattle.ps_kernel.specs.declared.expr.ExprKind.TheVariants as v
use Rattle.ps_kernel.specs.declared.expr.Labelled.{Labelled}
use Rattle.ps_kernel.specs.declared.kernel.Kernel.{Kernel}
use Rattle.ps_kernel.specs.declared.kernel.Lambda.{Lambda}
use Rattle.ps_kernel.specs.Lists.{stands_in, Each}
use Rattle.ps_kernel.specs.Marks.{Mark, Node, Stands, BindsParameter, BindsLet, Mentions as Names, Reads, Replaces, Performs, Whole, kind_marks, marks}
use Rattle.ps_kernel.specs.Texts.{standing, bound, lambda_text}
use Rattle.ps_typing.specs.Data.{IsSmall}
use Rattle.ps_typing.specs.Lines.{types_text}
use Rattle.ps_typing.specs.Order.{Graph, Mentions, Reaches, itself, through, Together, IsOrder}
use Rattle.ps_typing.specs.Rules.{Typing, Text, Rule, each_typed, types}
use Rattle.ps_typing.specs.Texts.{definitions_in, of_lambda, text_of, graph_of}
use Rattle.ps_typing.specs.Typings.{MentionsFrom, IsBody, IsGroup, earlier_than, IsTyping}
use Rattle.ps_typing.specs.Worked.{here, node, number, null_address, identity, bound_value, test, last_call, choice, main_body, generic, generic_survivors, same, main_nodes, generic_typing, names, IdentityHasTwoTypes, local_call, local_choice, local_body, local_kernel, local_survivors, LocalHasOneType}
use Rattle.ps_typing.proofs.TypesAtConstructors.{at_proc}
use Rattle.ps_typing.proofs.TypingsByNode.{opened_at, made_at}

-- ---- texts

abbrev n_ : Mark
n_ = Node here

module _ (q : Kernel) where
  abbrev layered : ℕ → Bool → List ℕ → ExprKind-F ExprKind Expr Labelled → List Mark
  layered n tail scope y = n_ ∷ kind_marks q (marks q n) tail scope here y

  marks_at : (n : ℕ) (tail : Bool) (scope : List ℕ) (x : ExprKind) (y : ExprKind-F ExprKind Expr Labelled) → out-ExprKind x ≡ y → marks q (suc n) tail scope (Whole (node x)) ≡ layered n tail scope y
  unfolding marks
  marks_at n tail scope x y is =
      ap (λ (z : Expr-F ExprKind Expr Labelled). Node z.place ∷ kind_marks q (marks q n) tail scope z.place (out-ExprKind z.kind)) (out-roll-Expr (record { place = here; kind = x }))
      ∙ ap (λ (z : ExprKind-F ExprKind Expr Labelled). layered n tail scope z) is

  at_number : (n : ℕ) (tail : Bool) (scope : List ℕ) (i : ℕ) → marks q (suc n) tail scope (Whole (number i)) ≡ n_ ∷ []
  at_number n tail scope i = marks_at n tail scope (v.Constant (constants.Integer (pos i))) (ExprKind-F.Constant (constants.Integer (pos i))) (v.outs-Constant (constants.Integer (pos i)))

  at_local : (n : ℕ) (tail : Bool) (scope : List ℕ) (x : ℕ) → marks q (suc n) tail scope (Whole (node (v.Local x))) ≡ n_ ∷ Names x scope ∷ []
  at_local n tail scope x = marks_at n tail scope (v.Local x) (ExprKind-F.Local x) (v.outs-Local x)

abbrev m : ℕ → Bool → List ℕ → Expr → List Mark
m n tail scope e = marks generic n tail scope (Whole e)

text_identity : lambda_text generic 0 ≡ BindsParameter 0 ∷ n_ ∷ Names 0 (0 ∷ []) ∷ []
unfolding lambda_text
text_identity = ap (λ ms. BindsParameter 0 ∷ ms) (at_local generic 999 true (0 ∷ []) 0)

at_identity : (n : ℕ) (scope : List ℕ) → m (suc n) false scope identity ≡ n_ ∷ Reads here 0 ∷ []
at_identity n scope = marks_at generic n false scope (v.Global 0) (ExprKind-F.Global 0) (v.outs-Global 0)

at_value : (n : ℕ) → m (suc (suc n)) false [] bound_value ≡ n_ ∷ n_ ∷ Reads here 0 ∷ n_ ∷ []
at_value n =
    marks_at generic (suc n) false [] (v.Call identity (null_address ∷ [])) (ExprKind-F.Call identity (null_address ∷ [])) (v.outs-Call identity (null_address ∷ []))
    ∙ ap (λ ms. n_ ∷ (ms ++ (m (suc n) false [] null_address ++ []))) (at_identity n [])
    ∙ ap (λ ms. n_ ∷ n_ ∷ Reads here 0 ∷ (ms ++ [])) (marks_at generic n false [] (v.Constant constants.NullAddress) (ExprKind-F.Constant constants.NullAddress) (v.outs-Constant constants.NullAddress))

abbrev inside : List ℕ
inside = 1 ∷ []

at_test : (n : ℕ) → m (suc (suc n)) false inside test ≡ n_ ∷ Performs here IsNullAddress 1 ∷ n_ ∷ Names 1 inside ∷ []
at_test n =
    marks_at generic (suc n) false inside (v.Primitive IsNullAddress (node (v.Local 1) ∷ [])) (ExprKind-F.Primitive IsNullAddress (node (v.Local 1) ∷ [])) (v.outs-Primitive IsNullAddress (node (v.Local 1) ∷ []))
    ∙ ap (λ ms. n_ ∷ Performs here IsNullAddress 1 ∷ (ms ++ [])) (at_local generic n false inside 1)

at_last : (n : ℕ) → m (suc (suc n)) true inside last_call ≡ n_ ∷ Replaces true ∷ n_ ∷ Reads here 0 ∷ n_ ∷ []
at_last n =
    marks_at generic (suc n) true inside (v.ProperCall identity (number 7 ∷ [])) (ExprKind-F.ProperCall identity (number 7 ∷ [])) (v.outs-ProperCall identity (number 7 ∷ []))
    ∙ ap (λ ms. n_ ∷ Replaces true ∷ (ms ++ (m (suc n) false inside (number 7) ++ []))) (at_identity n inside)
    ∙ ap (λ ms. n_ ∷ Replaces true ∷ n_ ∷ Reads here 0 ∷ (ms ++ [])) (at_number generic n false inside 7)

abbrev choice_text : List Mark
choice_text = n_ ∷ n_ ∷ Performs here IsNullAddress 1 ∷ n_ ∷ Names 1 inside ∷ n_ ∷ Replaces true ∷ n_ ∷ Reads here 0 ∷ n_ ∷ n_ ∷ []

at_choice : (n : ℕ) → m (suc (suc (suc n))) true inside choice ≡ choice_text
at_choice n =
    marks_at generic (suc (suc n)) true inside (v.If test last_call (number 0)) (ExprKind-F.If test last_call (number 0)) (v.outs-If test last_call (number 0))
    ∙ ap (λ ms. n_ ∷ (ms ++ (m (suc (suc n)) true inside last_call ++ m (suc (suc n)) true inside (number 0)))) (at_test n)
    ∙ ap (λ ms. n_ ∷ n_ ∷ Performs here IsNullAddress 1 ∷ n_ ∷ Names 1 inside ∷ (ms ++ m (suc (suc n)) true inside (number 0))) (at_last n)
    ∙ ap (λ ms. n_ ∷ n_ ∷ Performs here IsNullAddress 1 ∷ n_ ∷ Names 1 inside ∷ n_ ∷ Replaces true ∷ n_ ∷ Reads here 0 ∷ n_ ∷ ms) (at_number generic (suc n) true inside 0)

abbrev main_text : List Mark
main_text = n_ ∷ n_ ∷ n_ ∷ Reads here 0 ∷ n_ ∷ BindsLet 1 ∷ choice_text

text_main : lambda_text generic 1 ≡ main_text
unfolding lambda_text
text_main =
    marks_at generic 999 true [] (v.Let 1 bound_value choice) (ExprKind-F.Let 1 bound_value choice) (v.outs-Let 1 bound_value choice)
    ∙ ap (λ ms. n_ ∷ (ms ++ (BindsLet 1 ∷ m 999 true inside choice))) (at_value 997)
    ∙ ap (λ ms. n_ ∷ n_ ∷ n_ ∷ Reads here 0 ∷ n_ ∷ BindsLet 1 ∷ ms) (at_choice 996)

-- ---- the typing of the first

abbrev T : Typing
T = generic_typing

abbrev text_0 : Text
text_0 = text_of generic generic_survivors (0 ∷ [])

abbrev text_1 : Text
text_1 = text_of generic generic_survivors (1 ∷ [])

abbrev none : ℕ → Bool
none = earlier_than []

abbrev first : ℕ → Bool
first = earlier_than (0 ∷ [])

abbrev M_0 : ℕ → Ty → Type 0
M_0 = MentionsFrom none text_0 T

abbrev M_1 : ℕ → Ty → Type 0
M_1 = MentionsFrom first text_1 T

bound_0 : text_0.locals 0 ≡ true
bound_0 = ap (λ ms. stands_in 0 (bound ms ++ [])) text_identity

bound_1 : text_1.locals 1 ≡ true
bound_1 = ap (λ ms. stands_in 1 (bound ms ++ [])) text_main

small_var : IsSmall (ty.Var 0)
small_var = record { small = omega (arith, ap size (sym (ty.rolls-Var 0)) ∙ size_at (Ty-F.Var 0)) }

size_integer : size ty.Integer ≡ 1
size_integer = ap size (sym ty.rolls-Integer) ∙ size_at Ty-F.Integer

size_address : size ty.Address ≡ 1
size_address = ap size (sym ty.rolls-Address) ∙ size_at Ty-F.Address

size_proc : (ts : List Ty) (r : Ty) → size (ty.Proc ts r) ≡ suc (total (map size ts)) + size r
size_proc ts r = ap size (sym (ty.rolls-Proc ts r)) ∙ size_at (Ty-F.Proc ts r) ∙ omega arith

small_integer : IsSmall ty.Integer
small_integer = record { small = omega (arith, size_integer) }

small_address : IsSmall ty.Address
small_address = record { small = omega (arith, size_address) }

small_boolean : IsSmall ty.Boolean
small_boolean = record { small = omega (arith, ap size (sym ty.rolls-Boolean) ∙ size_at Ty-F.Boolean) }

small_same : (t : Ty) → size t ≡ 1 → IsSmall (same t)
small_same t e = record { small = omega (arith, size_proc (t ∷ []) t, e) }

small_main : IsSmall (ty.Proc [] ty.Integer)
small_main = record { small = omega (arith, size_proc [] ty.Integer, size_integer) }

identity_body : IsBody generic generic_survivors text_0 none T 0
identity_body = record {
  lambda = record { place = here; parameters = 0 ∷ []; captured = []; body = node (v.Local 0) };
  there = refl;
  body = record { typing = made_at generic [] text_0 T M_0 here (v.Local 0) (ExprKind-F.Local 0) (v.rolls-Local 0) (ty.Var 0) (ty.Var 0 ∷ []) ([], (record { bound = bound_0; type = refl }, refl), refl) };
  small = (small_var, tt);
}

group_0 : IsGroup generic generic_survivors none (0 ∷ []) T
group_0 = record {
  each = (
    record {
      is = record {
        type = record { lambda = record { place = here; parameters = 0 ∷ []; captured = []; body = node (v.Local 0) }; there = refl; stands = refl; bound = (bound_0, tt); type = refl };
        bodies = (identity_body, subst (λ ms. Each (IsBody generic generic_survivors text_0 none T) (standing ms)) (sym text_identity) tt);
      };
      small = small_same (ty.Var 0) (ap size (sym (ty.rolls-Var 0)) ∙ size_at (Ty-F.Var 0));
      main = λ e. absurd cc;
    },
    tt,
  );
}

-- a mention of `identity` at a type
mention : (t : Ty) → M_1 0 (same t)
mention t = record {
  is = record {
    by = λ x. t;
    instance = sym (at_proc (λ x. t) (ty.Var 0 ∷ []) (ty.Var 0) ∙ ap (λ u. ty.Proc (u ∷ []) u) (apply_var (λ x. t) 0));
  };
}

abbrev all : Expr → Rule
all = types generic [] text_1 T M_1

mention_has : (t : Ty) → all identity (same t) (same t ∷ [])
mention_has t = made_at generic [] text_1 T M_1 here (v.Global 0) (ExprKind-F.Global 0) (v.rolls-Global 0) (same t) (same t ∷ []) ([], (mention t, refl), refl)

number_has : (n : ℕ) → all (number n) ty.Integer (ty.Integer ∷ [])
number_has n = made_at generic [] text_1 T M_1 here (v.Constant (constants.Integer (pos n))) (ExprKind-F.Constant (constants.Integer (pos n))) (v.rolls-Constant (constants.Integer (pos n))) ty.Integer (ty.Integer ∷ []) ([], (refl, refl), refl)

null_has : all null_address ty.Address (ty.Address ∷ [])
null_has = made_at generic [] text_1 T M_1 here (v.Constant constants.NullAddress) (ExprKind-F.Constant constants.NullAddress) (v.rolls-Constant constants.NullAddress) ty.Address (ty.Address ∷ []) ([], (refl, refl), refl)

abbrev value_types : List Ty
value_types = ty.Address ∷ same ty.Address ∷ ty.Address ∷ []

value_has : all bound_value ty.Address value_types
value_has = made_at generic [] text_1 T M_1 here (v.Call identity (null_address ∷ [])) (ExprKind-F.Call identity (null_address ∷ [])) (v.rolls-Call identity (null_address ∷ [])) ty.Address value_types
    (same ty.Address ∷ ty.Address ∷ [], (ty.Address ∷ [], (same ty.Address ∷ [], ty.Address ∷ [], mention_has ty.Address, (ty.Address ∷ [], [], null_has, refl, refl), refl)), refl)

abbrev last_types : List Ty
last_types = ty.Integer ∷ same ty.Integer ∷ ty.Integer ∷ []

last_has : all last_call ty.Integer last_types
last_has = made_at generic [] text_1 T M_1 here (v.ProperCall identity (number 7 ∷ [])) (ExprKind-F.ProperCall identity (number 7 ∷ [])) (v.rolls-ProperCall identity (number 7 ∷ [])) ty.Integer last_types
    (same ty.Integer ∷ ty.Integer ∷ [], (ty.Integer ∷ [], (same ty.Integer ∷ [], ty.Integer ∷ [], mention_has ty.Integer, (ty.Integer ∷ [], [], number_has 7, refl, refl), refl)), refl)

local_has : all (node (v.Local 1)) ty.Address (ty.Address ∷ [])
local_has = made_at generic [] text_1 T M_1 here (v.Local 1) (ExprKind-F.Local 1) (v.rolls-Local 1) ty.Address (ty.Address ∷ []) ([], (record { bound = bound_1; type = refl }, refl), refl)

abbrev test_types : List Ty
test_types = ty.Boolean ∷ ty.Address ∷ []

test_has : all test ty.Boolean test_types
test_has = made_at generic [] text_1 T M_1 here (v.Primitive IsNullAddress (node (v.Local 1) ∷ [])) (ExprKind-F.Primitive IsNullAddress (node (v.Local 1) ∷ [])) (v.rolls-Primitive IsNullAddress (node (v.Local 1) ∷ [])) ty.Boolean test_types
    (ty.Address ∷ [], (ty.Address ∷ [], record { by = ty.Var; instance = sym (unchanged (ty.Proc (ty.Address ∷ []) ty.Boolean)) }, (ty.Address ∷ [], [], local_has, refl, refl)), refl)

abbrev choice_types : List Ty
choice_types = ty.Integer ∷ (test_types ++ (last_types ++ ty.Integer ∷ []))

choice_has : all choice ty.Integer choice_types
choice_has = made_at generic [] text_1 T M_1 here (v.If test last_call (number 0)) (ExprKind-F.If test last_call (number 0)) (v.rolls-If test last_call (number 0)) ty.Integer choice_types
    (test_types ++ (last_types ++ ty.Integer ∷ []), (test_types, last_types ++ ty.Integer ∷ [], test_has, (last_types, ty.Integer ∷ [], last_has, number_has 0, refl), refl), refl)

main_has : all main_body ty.Integer main_nodes
main_has = made_at generic [] text_1 T M_1 here (v.Let 1 bound_value choice) (ExprKind-F.Let 1 bound_value choice) (v.rolls-Let 1 bound_value choice) ty.Integer main_nodes
    (value_types ++ choice_types, (record { bound = bound_1; type = refl }, (value_types, choice_types, value_has, choice_has, refl)), refl)

small_nodes : Each IsSmall main_nodes
small_nodes =
    (small_integer, (small_address, (small_same ty.Address size_address, (small_address, (small_integer, (small_boolean, (small_address, (small_integer, (small_same ty.Integer size_integer, (small_integer, (small_integer, tt)))))))))))

group_1 : IsGroup generic generic_survivors first (1 ∷ []) T
group_1 = record {
  each = (
    record {
      is = record {
        type = record { lambda = record { place = here; parameters = []; captured = []; body = main_body }; there = refl; stands = refl; bound = tt; type = refl };
        bodies = (
          record { lambda = record { place = here; parameters = []; captured = []; body = main_body }; there = refl; body = record { typing = main_has }; small = small_nodes },
          subst (λ ms. Each (IsBody generic generic_survivors text_1 first T) (standing ms)) (sym text_main) tt,
        );
      };
      small = small_main;
      main = λ e. refl;
    },
    tt,
  );
}

-- ---- its lines

variables_proc : (ts : List Ty) (r : Ty) → variables (ty.Proc ts r) ≡ variables_node (Ty-F.Proc (map variables ts) (variables r))
variables_proc ts r = ap variables (sym (ty.rolls-Proc ts r)) ∙ fold-roll-Ty (List ℕ) variables_node (Ty-F.Proc ts r)

variables_var : variables (ty.Var 0) ≡ 0 ∷ []
variables_var = ap variables (sym (ty.rolls-Var 0)) ∙ fold-roll-Ty (List ℕ) variables_node (Ty-F.Var 0)

variables_same : variables (same (ty.Var 0)) ≡ 0 ∷ 0 ∷ []
variables_same = variables_proc (ty.Var 0 ∷ []) (ty.Var 0) ∙ ap (λ vs. variables_node (Ty-F.Proc (vs ∷ []) vs)) variables_var

text_var : text_in [] names (0 ∷ 0 ∷ []) (ty.Var 0) ≡ codes "t" & decimal 0
unfolding text_in
text_var = ap (fold-Ty Bytes (text_node [] names (0 ∷ 0 ∷ []))) (sym (ty.rolls-Var 0)) ∙ fold-roll-Ty Bytes (text_node [] names (0 ∷ 0 ∷ [])) (Ty-F.Var 0)

text_integer : (vs : List ℕ) → text_in [] names vs ty.Integer ≡ codes "integer"
unfolding text_in
text_integer vs = ap (fold-Ty Bytes (text_node [] names vs)) (sym ty.rolls-Integer) ∙ fold-roll-Ty Bytes (text_node [] names vs) Ty-F.Integer

text_same : type_text [] names (same (ty.Var 0)) ≡ codes "(proc (t0) t0)"
unfolding ◌&◌
text_same =
    ap (λ vs. text_in [] names vs (same (ty.Var 0))) variables_same
    ∙ of_proc [] names (0 ∷ 0 ∷ []) (ty.Var 0 ∷ []) (ty.Var 0)
    ∙ ap (λ t. codes "(proc (" & spaced (t ∷ []) & codes ") " & t & codes ")") (text_var ∙ ap (λ t. codes "t" & t) (decimal_digit 0 (omega arith)))

text_of_main : type_text [] names (ty.Proc [] ty.Integer) ≡ codes "(proc () integer)"
unfolding ◌&◌
text_of_main = of_proc [] names (variables (ty.Proc [] ty.Integer)) [] ty.Integer
    ∙ ap (λ t. codes "(proc (" & spaced [] & codes ") " & t & codes ")") (text_integer (variables (ty.Proc [] ty.Integer)))

lines_are : types_text generic generic_survivors names T ≡ codes "user/identity : (proc (t0) t0)\nuser/main : (proc () integer)\n"
unfolding ◌&◌
lines_are =
    ap (λ (t : Bytes). (codes "user" & codes "/" & codes "identity" & codes " : " & t & codes "\n") & (codes "user" & codes "/" & codes "main" & codes " : " & type_text [] names (ty.Proc [] ty.Integer) & codes "\n") & []) text_same
    ∙ ap (λ (t : Bytes). (codes "user" & codes "/" & codes "identity" & codes " : " & codes "(proc (t0) t0)" & codes "\n") & (codes "user" & codes "/" & codes "main" & codes " : " & t & codes "\n") & []) text_of_main

pub identity_has_two_types : IdentityHasTwoTypes
identity_has_two_types = record { typing = record { each = (group_0, (group_1, tt)) }; text = lines_are }

-- ---- the second

abbrev q : Kernel
q = local_kernel

abbrev w : ℕ → Bool → List ℕ → Expr → List Mark
w n tail scope e = marks q n tail scope (Whole e)

abbrev truth : Expr
truth = node (v.Constant (constants.Boolean true))

at_truth : (n : ℕ) (tail : Bool) (scope : List ℕ) → w (suc n) tail scope truth ≡ n_ ∷ []
at_truth n tail scope = marks_at q n tail scope (v.Constant (constants.Boolean true)) (ExprKind-F.Constant (constants.Boolean true)) (v.outs-Constant (constants.Boolean true))

abbrev scope_0 : List ℕ
scope_0 = 0 ∷ []

at_call : (n : ℕ) (tail : Bool) (e : Expr) → w (suc n) false scope_0 e ≡ n_ ∷ [] → w (suc (suc n)) tail scope_0 (local_call e) ≡ n_ ∷ n_ ∷ Names 0 scope_0 ∷ n_ ∷ []
at_call n tail e h =
    marks_at q (suc n) tail scope_0 (v.Call (node (v.Local 0)) (e ∷ [])) (ExprKind-F.Call (node (v.Local 0)) (e ∷ [])) (v.outs-Call (node (v.Local 0)) (e ∷ []))
    ∙ ap (λ ms. n_ ∷ (ms ++ (w (suc n) false scope_0 e ++ []))) (at_local q n false scope_0 0)
    ∙ ap (λ ms. n_ ∷ n_ ∷ Names 0 scope_0 ∷ (ms ++ [])) h

abbrev call_text : List Mark
call_text = n_ ∷ n_ ∷ Names 0 scope_0 ∷ n_ ∷ []

at_local_choice : (n : ℕ) → w (suc (suc (suc n))) true scope_0 local_choice ≡ n_ ∷ (call_text ++ (call_text ++ n_ ∷ []))
at_local_choice n =
    marks_at q (suc (suc n)) true scope_0 (v.If (local_call truth) (local_call (number 1)) (number 0)) (ExprKind-F.If (local_call truth) (local_call (number 1)) (number 0)) (v.outs-If (local_call truth) (local_call (number 1)) (number 0))
    ∙ ap (λ ms. n_ ∷ (ms ++ (w (suc (suc n)) true scope_0 (local_call (number 1)) ++ w (suc (suc n)) true scope_0 (number 0)))) (at_call n false truth (at_truth n false scope_0))
    ∙ ap (λ ms. n_ ∷ (call_text ++ (ms ++ w (suc (suc n)) true scope_0 (number 0)))) (at_call n true (number 1) (at_number q n false scope_0 1))
    ∙ ap (λ ms. n_ ∷ (call_text ++ (call_text ++ ms))) (at_number q (suc n) true scope_0 0)

at_inner : (n : ℕ) → w (suc (suc n)) false [] (node (v.Lambda 1)) ≡ n_ ∷ Stands 1 [] ∷ BindsParameter 1 ∷ n_ ∷ Names 1 (1 ∷ []) ∷ []
at_inner n = marks_at q (suc n) false [] (v.Lambda 1) (ExprKind-F.Lambda 1) (v.outs-Lambda 1)
    ∙ ap (λ ms. n_ ∷ Stands 1 [] ∷ BindsParameter 1 ∷ ms) (at_local q n true (1 ∷ []) 1)

text_local : lambda_text q 0 ≡ n_ ∷ n_ ∷ Stands 1 [] ∷ BindsParameter 1 ∷ n_ ∷ Names 1 (1 ∷ []) ∷ BindsLet 0 ∷ n_ ∷ (call_text ++ (call_text ++ n_ ∷ []))
unfolding lambda_text
text_local =
    marks_at q 999 true [] (v.Let 0 (node (v.Lambda 1)) local_choice) (ExprKind-F.Let 0 (node (v.Lambda 1)) local_choice) (v.outs-Let 0 (node (v.Lambda 1)) local_choice)
    ∙ ap (λ ms. n_ ∷ (ms ++ (BindsLet 0 ∷ w 999 true scope_0 local_choice))) (at_inner 997)
    ∙ ap (λ ms. n_ ∷ n_ ∷ Stands 1 [] ∷ BindsParameter 1 ∷ n_ ∷ Names 1 (1 ∷ []) ∷ BindsLet 0 ∷ ms) (at_local_choice 996)

-- ---- its order

abbrev g : Graph
g = graph_of q local_survivors

nothing : (d e : ℕ) → Mentions g d e → ⊥
nothing d e h = go (d == 0) h.names
  where
    go : (b : Bool) → stands_in e (of_lambda q (λ l. definitions_in (lambda_text q l)) (if b then Some 0 else None)) ≡ true → ⊥
    go true on = let clash : false ≡ true = ap (λ ms. stands_in e (definitions_in ms)) (sym text_local) ∙ on in cc
    go false on = cc

only_itself : (e : ℕ) → Reaches g 0 e → e ≡ 0
only_itself e itself = refl
only_itself e (through f x s n) = absurd (nothing f x n)

alone : (e : ℕ) → Together g 0 e ↔ (e ≡ 0)
alone e = (λ t. only_itself e t.there, λ is. subst (λ z. Together g 0 z) (sym is) (record { there = itself; back = itself }))

zero_stands : (e : ℕ) → e ≡ 0 → stands_in e (0 ∷ []) ≡ true
zero_stands e is = ap (λ z. stands_in z (0 ∷ [])) is

stands_zero : (e : ℕ) → stands_in e (0 ∷ []) ≡ true → e ≡ 0
stands_zero e on = go (e == 0) refl on
  where
    go : (b : Bool) → (e == 0) ≡ b → (b || false) ≡ true → e ≡ 0
    go true is h = eqb-true e 0 is
    go false is h = absurd cc

all_listed : (d : ℕ) → g.is_node d ≡ true → stands_in d (0 ∷ []) ≡ true
all_listed d on = go (d == 0) on
  where
    go : (b : Bool) → (is_some {T = ℕ} (if b then Some 0 else None) || false) ≡ true → (b || false) ≡ true
    go true h = refl
    go false h = h

local_order : IsOrder g ((0 ∷ []) ∷ [])
local_order = record {
  order = (
    record {
      lowest = 0;
      ready = record { node = refl; unlisted = refl; others = λ e f t n. absurd (nothing e f n) };
      least = λ d r. omega arith;
      members = λ e. (λ on. (alone e).1 (stands_zero e on), λ t. zero_stands e ((alone e).0 t));
      ascending = tt;
    },
    all_listed,
  );
}

-- ---- it has no typing

module _ (P : Typing) (M : ℕ → Ty → Type 0) where
  abbrev text_q : Text
  text_q = text_of q local_survivors (0 ∷ [])

  abbrev has : Expr → Rule
  has = types q [] text_q P M

  -- what one operand tells of the local
  pub record OneOperand (e : Expr) (u : Ty) : Type 0 where
    pub type : Ty
    pub operator : ty.Proc (type ∷ []) u ≡ P.local 0
    pub types : List Ty
    pub operand : has e type types

  one_operand : (e : Expr) (u : Ty) (is : List Ty) → has (local_call e) u is → OneOperand e u
  one_operand e u is h =
      let o = opened_at q [] text_q P M here (v.Call (node (v.Local 0)) (e ∷ [])) (ExprKind-F.Call (node (v.Local 0)) (e ∷ [])) (v.rolls-Call (node (v.Local 0)) (e ∷ [])) u is h in
      let j = o.1.1 in
      let f = opened_at q [] text_q P M here (v.Local 0) (ExprKind-F.Local 0) (v.rolls-Local 0) (ty.Proc o.1.0 u) j.0 j.2 in
      go o.1.0 f.1.0.type j.1 j.3
    where
      go : (ts : List Ty) → ty.Proc ts u ≡ P.local 0 → (js : List Ty) → each_typed has (e ∷ []) ts js → OneOperand e u
      go [] is js t = absurd t
      go (t ∷ []) is js h = record { type = t; operator = is; types = h.0; operand = h.2 }
      go (t ∷ r ∷ ts) is js h = absurd h.3

  truth_type : (u : Ty) (is : List Ty) → has truth u is → u ≡ ty.Boolean
  truth_type u is h = (opened_at q [] text_q P M here (v.Constant (constants.Boolean true)) (ExprKind-F.Constant (constants.Boolean true)) (v.rolls-Constant (constants.Boolean true)) u is h).1.0

  number_type : (n : ℕ) (u : Ty) (is : List Ty) → has (number n) u is → u ≡ ty.Integer
  number_type n u is h = (opened_at q [] text_q P M here (v.Constant (constants.Integer (pos n))) (ExprKind-F.Constant (constants.Integer (pos n))) (v.rolls-Constant (constants.Integer (pos n))) u is h).1.0

  first_parameter : (t r u p : Ty) → ty.Proc (t ∷ []) u ≡ ty.Proc (r ∷ []) p → t ≡ r
  first_parameter t r u p e =
      let layer : Ty-F.Proc (t ∷ []) u ≡ Ty-F.Proc (r ∷ []) p = sym (ty.outs-Proc (t ∷ []) u) ∙ ap out-Ty e ∙ ty.outs-Proc (r ∷ []) p in cc

  two_types : ty.Boolean ≡ ty.Integer → ⊥
  two_types e = let layer : Ty-F.Boolean ≡ Ty-F.Integer = sym ty.outs-Boolean ∙ ap out-Ty e ∙ ty.outs-Integer in cc

  no_body : (u : Ty) (is : List Ty) → has local_body u is → ⊥
  no_body u is h =
      let o = opened_at q [] text_q P M here (v.Let 0 (node (v.Lambda 1)) local_choice) (ExprKind-F.Let 0 (node (v.Lambda 1)) local_choice) (v.rolls-Let 0 (node (v.Lambda 1)) local_choice) u is h in
      let j = o.1.1 in
      let c = opened_at q [] text_q P M here (v.If (local_call truth) (local_call (number 1)) (number 0)) (ExprKind-F.If (local_call truth) (local_call (number 1)) (number 0)) (v.rolls-If (local_call truth) (local_call (number 1)) (number 0)) u j.1 j.3 in
      let p = c.1 in
      let a = one_operand truth ty.Boolean p.0 p.2 in
      let r = p.3 in
      let b = one_operand (number 1) u r.0 r.2 in
      two_types (sym (truth_type a.type a.types a.operand) ∙ first_parameter a.type b.type ty.Boolean u (a.operator ∙ sym b.operator) ∙ number_type 1 b.type b.types b.operand)

lambda_is : (l : Lambda) → slice_get q.lambdas 0 ≡ Some l → l.body ≡ local_body
lambda_is l e = let inner : record { place = here; parameters = []; captured = []; body = local_body } ≡ l = cc in ap (λ (z : Lambda). z.body) (sym inner)

no_typing : (P : Typing) → IsTyping q local_survivors ((0 ∷ []) ∷ []) P → ⊥
no_typing P h =
    let b = h.each.0.each.0.is.bodies.0 in
    no_body P (MentionsFrom none (text_of q local_survivors (0 ∷ [])) P) (P.result 0) (P.nodes 0)
    (subst (λ e. types q [] (text_of q local_survivors (0 ∷ [])) P (MentionsFrom none (text_of q local_survivors (0 ∷ [])) P) e (P.result 0) (P.nodes 0)) (lambda_is b.lambda b.there) b.body.typing)

pub local_has_one_type : LocalHasOneType
local_has_one_type = record {
  before = [];
  others = [];
  after = [];
  order = local_order;
  typing = generic_typing;
  typed = record { each = tt };
  none = no_typing;
}
