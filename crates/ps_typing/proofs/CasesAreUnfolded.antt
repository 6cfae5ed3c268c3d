-- A case has the types of what it unfolds to.
-- For: `cases_are_unfolded`
use Rattle.std.proofs.Common.{ℕ, Bool, true, false, List, [], ◌∷◌, ◌++◌, refl, sym, subst}
use Rattle.std.specs.Prelude.{ℤ}
use Rattle.ps_base.specs.declared.faults.Place.{Place}
use Rattle.ps_types.specs.declared.types.Ty.{Ty}
use Rattle.ps_types.specs.declared.types.Ty.TheVariants as ty
use Rattle.ps_types.proofs.SubstitutionsCompose.{unchanged}
use Rattle.ps_kernel.specs.declared.expr.CaseKind.{CaseKind}
use Rattle.ps_kernel.specs.declared.expr.CaseKind.TheVariants as cases
use Rattle.ps_kernel.specs.declared.expr.Constant.TheVariants as constants
use Rattle.ps_kernel.specs.declared.expr.Expr.{Expr}
use Rattle.ps_kernel.specs.declared.expr.ExprKind.TheOpen.{ExprKind-F}
use Rattle.ps_kernel.specs.declared.expr.ExprKind.TheVariants as v
use Rattle.ps_kernel.specs.declared.expr.Labelled.{Labelled}
use Rattle.ps_kernel.specs.declared.kernel.Kernel.{Kernel}
use Rattle.ps_kernel.specs.declared.survivors.NumberedBlock.{NumberedBlock}
use Rattle.ps_kernel.specs.Marks.{labels_of, body_of}
use Rattle.ps_kernel.specs.Texts.{expr_at}
use Rattle.ps_kernel.specs.Unfold.{comparison, constant_of, equals, is_one, ifs, unfolded}
use Rattle.ps_typing.specs.Rules.{Typing, Text, Rule, all_typed, IsLocal, constant_has, key_type, IsOperation, types}
use Rattle.ps_typing.specs.Typings.{MentionsFrom}
use Rattle.ps_typing.specs.Laws.{CasesAreUnfolded}
use Rattle.ps_typing.proofs.TypingsByNode.{opened_at, made_at}

module _ (k : Kernel) (blocks : List NumberedBlock) (text : Text) (T : Typing) (M : ℕ → Ty → Type 0) (at : Place) (kind : CaseKind) (hidden : ℕ) where
  abbrev all : Expr → Rule
  all = types k blocks text T M

  -- an expression may have a type
  abbrev Has : Expr → Ty → Type 0
  Has e u = (is : List Ty) × all e u is

  abbrev branch : Labelled → Rule
  branch b = all (body_of b)

  abbrev Branches : List Labelled → Ty → Type 0
  Branches bs u = (is : List Ty) × all_typed branch bs u is

  if_has : (a b c : Expr) (u : Ty) → Has a ty.Boolean → Has b u → Has c u → Has (expr_at at (v.If a b c)) u
  if_has a b c u p q r = (
    u ∷ (p.0 ++ (q.0 ++ r.0)),
    made_at k blocks text T M at (v.If a b c) (ExprKind-F.If a b c) (v.rolls-If a b c) u (u ∷ (p.0 ++ (q.0 ++ r.0)))
        (p.0 ++ (q.0 ++ r.0), (p.0, q.0 ++ r.0, p.1, (q.0, r.0, q.1, r.1, refl), refl), refl),
  )

  constant_of_kind : (q : CaseKind) (l : ℤ) → constant_has k blocks (constant_of q l) (key_type q)
  constant_of_kind cases.Integer l = refl
  constant_of_kind cases.Char l = refl

  operation_of_kind : (q : CaseKind) → IsOperation k.kinds (comparison q) (key_type q ∷ key_type q ∷ []) ty.Boolean
  operation_of_kind cases.Integer = record { by = ty.Var; instance = sym (unchanged (ty.Proc (ty.Integer ∷ ty.Integer ∷ []) ty.Boolean)) }
  operation_of_kind cases.Char = record { by = ty.Var; instance = sym (unchanged (ty.Proc (ty.Char ∷ ty.Char ∷ []) ty.Boolean)) }

  module _ (local : IsLocal text T hidden (key_type kind)) where
    abbrev key : Ty
    key = key_type kind

    abbrev hidden_local : Expr
    hidden_local = expr_at at (v.Local hidden)

    abbrev label : ℤ → Expr
    label l = expr_at at (v.Constant (constant_of kind l))

    local_has : all hidden_local key (key ∷ [])
    local_has = made_at k blocks text T M at (v.Local hidden) (ExprKind-F.Local hidden) (v.rolls-Local hidden) key (key ∷ []) ([], (local, refl), refl)

    label_has : (l : ℤ) → all (label l) key (key ∷ [])
    label_has l = made_at k blocks text T M at (v.Constant (constant_of kind l)) (ExprKind-F.Constant (constant_of kind l)) (v.rolls-Constant (constant_of kind l)) key (key ∷ []) ([], (constant_of_kind kind l, refl), refl)

    equals_has : (l : ℤ) → Has (equals at kind hidden l) ty.Boolean
    equals_has l = (
      ty.Boolean ∷ key ∷ key ∷ [],
      made_at k blocks text T M at (v.Primitive (comparison kind) (hidden_local ∷ label l ∷ [])) (ExprKind-F.Primitive (comparison kind) (hidden_local ∷ label l ∷ [])) (v.rolls-Primitive (comparison kind) (hidden_local ∷ label l ∷ []))
          ty.Boolean (ty.Boolean ∷ key ∷ key ∷ [])
          (key ∷ key ∷ [], (key ∷ key ∷ [], operation_of_kind kind, (key ∷ [], key ∷ [], local_has, (key ∷ [], [], label_has l, refl, refl), refl)), refl),
    )

    boolean_has : (b : Bool) → Has (expr_at at (v.Constant (constants.Boolean b))) ty.Boolean
    boolean_has b = (ty.Boolean ∷ [], made_at k blocks text T M at (v.Constant (constants.Boolean b)) (ExprKind-F.Constant (constants.Boolean b)) (v.rolls-Constant (constants.Boolean b)) ty.Boolean (ty.Boolean ∷ []) ([], (refl, refl), refl))

    one_has : (ls : List ℤ) → Has (is_one at kind hidden ls) ty.Boolean
    one_has [] = boolean_has false
    one_has (l ∷ []) = equals_has l
    one_has (l ∷ m ∷ ls) = if_has (equals at kind hidden l) (expr_at at (v.Constant (constants.Boolean true))) (is_one at kind hidden (m ∷ ls)) ty.Boolean (equals_has l) (boolean_has true) (one_has (m ∷ ls))

    -- ---- the ifs of the branches

    ifs_have : (bs : List Labelled) (e : Expr) (u : Ty) → Branches bs u → Has e u → Has (ifs at kind hidden bs e) u
    ifs_have [] e u bs has = has
    ifs_have (b ∷ bs) e u h has =
        if_has (is_one at kind hidden (labels_of b)) (body_of b) (ifs at kind hidden bs e) u (one_has (labels_of b)) (h.1.0, h.1.2) (ifs_have bs e u (h.1.1, h.1.3) has)

    of_ifs : (bs : List Labelled) (e : Expr) (u : Ty) → Has (ifs at kind hidden bs e) u → Branches bs u × Has e u
    of_ifs [] e u h = (([], refl), h)
    of_ifs (b ∷ bs) e u h =
        let a = is_one at kind hidden (labels_of b) in
        let c = ifs at kind hidden bs e in
        let o = opened_at k blocks text T M at (v.If a (body_of b) c) (ExprKind-F.If a (body_of b) c) (v.rolls-If a (body_of b) c) u h.0 h.1 in
        let rest = o.1.3 in
        let more = of_ifs bs e u (rest.1, rest.3) in
        ((rest.0 ++ more.0.0, (rest.0, more.0.0, rest.2, more.0.1, refl)), more.1)

    -- ---- the case

    to_case : (a : Expr) (bs : List Labelled) (e : Expr) (u : Ty) → Has (unfolded at kind hidden a bs e) u → Has (expr_at at (v.Case kind a bs e)) u
    to_case a bs e u h =
        let o = opened_at k blocks text T M at (v.Let hidden a (ifs at kind hidden bs e)) (ExprKind-F.Let hidden a (ifs at kind hidden bs e)) (v.rolls-Let hidden a (ifs at kind hidden bs e)) u h.0 h.1 in
        let j = o.1.1 in
        let more = of_ifs bs e u (j.1, j.3) in
        let whole : List Ty = j.0 ++ (more.0.0 ++ more.1.0) in (
          u ∷ whole,
          made_at k blocks text T M at (v.Case kind a bs e) (ExprKind-F.Case kind a bs e) (v.rolls-Case kind a bs e) u (u ∷ whole)
              (whole, (j.0, more.0.0 ++ more.1.0, subst (λ t. all a t j.0) (sym local.type) j.2, (more.0.0, more.1.0, more.0.1, more.1.1, refl), refl), refl),
        )

    of_case : (a : Expr) (bs : List Labelled) (e : Expr) (u : Ty) → Has (expr_at at (v.Case kind a bs e)) u → Has (unfolded at kind hidden a bs e) u
    of_case a bs e u h =
        let o = opened_at k blocks text T M at (v.Case kind a bs e) (ExprKind-F.Case kind a bs e) (v.rolls-Case kind a bs e) u h.0 h.1 in
        let j = o.1 in
        let rest = j.3 in
        let inner = ifs_have bs e u (rest.0, rest.2) (rest.1, rest.3) in (
          u ∷ (j.0 ++ inner.0),
          made_at k blocks text T M at (v.Let hidden a (ifs at kind hidden bs e)) (ExprKind-F.Let hidden a (ifs at kind hidden bs e)) (v.rolls-Let hidden a (ifs at kind hidden bs e)) u (u ∷ (j.0 ++ inner.0))
              (j.0 ++ inner.0, (record { bound = local.bound; type = refl }, (j.0, inner.0, subst (λ t. all a t j.0) local.type j.2, inner.1, refl)), refl),
        )

pub cases_are_unfolded : CasesAreUnfolded
cases_are_unfolded k blocks text earlier T at kind hidden a bs e u local =
    let M : ℕ → Ty → Type 0 = MentionsFrom earlier text T in (
      λ h. (let r = to_case k blocks text T M at kind hidden local a bs e u (h.types, h.has.typing) in record { types = r.0; has = record { typing = r.1 } }),
      λ h. (let r = of_case k blocks text T M at kind hidden local a bs e u (h.types, h.has.typing) in record { types = r.0; has = record { typing = r.1 } }),
    )
