-- What has a type in a typing has it at σ in each typing that is the first one at σ there.
-- For: `rules_are_kept` and `groups_are_kept`
use Rattle.std.proofs.Common.{◌≡◌, ℕ, Bool, true, false, List, [], ◌∷◌, map, refl, sym, ap, ◌∙◌, subst}
use Rattle.std.proofs.lemmas.List.{map-append}
use Rattle.ps_base.specs.declared.faults.Place.{Place}
use Rattle.ps_base.specs.declared.language.PrimName.{PrimName}
use Rattle.ps_types.specs.declared.types.Ty.{Ty}
use Rattle.ps_types.specs.declared.types.Ty.TheVariants as ty
use Rattle.ps_types.specs.Substitutions.{Substitution, apply, IsInstance}
use Rattle.ps_types.proofs.TypesAreTerms.{every}
use Rattle.ps_types.proofs.InstancesAreNoSmaller.{instances_compose}
use Rattle.ps_prims.specs.Schemes.{scheme}
use Rattle.ps_kernel.specs.declared.expr.CaseKind.{CaseKind}
use Rattle.ps_kernel.specs.declared.expr.CaseKind.TheVariants as cases
use Rattle.ps_kernel.specs.declared.expr.Constant.{Constant}
use Rattle.ps_kernel.specs.declared.expr.Constant.TheVariants as constants
use Rattle.ps_kernel.specs.declared.expr.GroupEntry.{GroupEntry}
use Rattle.ps_kernel.specs.declared.expr.Expr.{Expr}
use Rattle.ps_kernel.specs.declared.expr.ExprKind.{ExprKind}
use Rattle.ps_kernel.specs.declared.expr.ExprKind.TheOpen.{ExprKind-F}
use Rattle.ps_kernel.specs.declared.expr.Labelled.{Labelled}
use Rattle.ps_kernel.specs.declared.kernel.Kernel.{Kernel}
use Rattle.ps_kernel.specs.declared.survivors.NumberedBlock.{NumberedBlock}
use Rattle.ps_kernel.specs.Lists.{Each}
use Rattle.ps_kernel.specs.Marks.{body_of}
use Rattle.ps_survive.specs.Kept.{kept_value}
use Rattle.ps_typing.specs.Rules.{Typing, Text, Rule, joined, noted, each_typed, all_typed, sequence_typed, IsLocal, IsLambda, IsLiteral, constant_has, key_type, IsOperation, group_typed, types}
use Rattle.ps_typing.specs.Typings.{mention_of, MentionsFrom}
use Rattle.ps_typing.specs.Laws.{RulesAreKept}
use Rattle.ps_typing.proofs.DataHasOneType.{data_stays}
use Rattle.ps_typing.proofs.TreesByParts.{parts, by_parts}
use Rattle.ps_typing.proofs.TypesAtConstructors.{at_integer, at_boolean, at_char, at_unit, at_address, at_proc}
use Rattle.ps_typing.proofs.TypingsByNode.{Layer, opened, made}

-- lists of types at σ, part by part
module _ (σ : Substitution) where
  abbrev pub at : List Ty → List Ty
  at is = map (apply σ) is

  pub joined_at : (P Q P' Q' : List Ty → Type 0) → ((i : List Ty) → P i → P' (at i)) → ((j : List Ty) → Q j → Q' (at j)) → (is : List Ty) → joined P Q is → joined P' Q' (at is)
  joined_at P Q P' Q' f g is h = (at h.0, at h.1, f h.0 h.2, g h.1 h.3, ap at h.4 ∙ map-append (apply σ) h.0 h.1)

  pub noted_at : (u : Ty) (P P' : List Ty → Type 0) → ((j : List Ty) → P j → P' (at j)) → (is : List Ty) → noted u P is → noted (apply σ u) P' (at is)
  noted_at u P P' f is h = (at h.0, f h.0 h.1, ap at h.2)

module _ (k : Kernel) (blocks : List NumberedBlock) (text : Text) (σ : Substitution) (P T : Typing)
    (locals : (x : ℕ) → text.locals x ≡ true → T.local x ≡ apply σ (P.local x)) (results : (l : ℕ) → text.lambdas l ≡ true → T.result l ≡ apply σ (P.result l))
    (M N : ℕ → Ty → Type 0) (mentions : (d : ℕ) (u : Ty) → M d u → N d (apply σ u)) where
  parameters_at : (xs : List ℕ) → Each (λ x. text.locals x ≡ true) xs → map (apply σ) (map P.local xs) ≡ map T.local xs
  parameters_at [] h = refl
  parameters_at (x ∷ xs) h = ap (λ t. t ∷ map (apply σ) (map P.local xs)) (sym (locals x h.0)) ∙ ap (λ ts. T.local x ∷ ts) (parameters_at xs h.1)

  local_at : (x : ℕ) (u : Ty) → IsLocal text P x u → IsLocal text T x (apply σ u)
  local_at x u h = record { bound = h.bound; type = ap (apply σ) h.type ∙ sym (locals x h.bound) }

  pub lambda_at : (l : ℕ) (u : Ty) → IsLambda k text P l u → IsLambda k text T l (apply σ u)
  lambda_at l u h = record {
    lambda = h.lambda;
    there = h.there;
    stands = h.stands;
    bound = h.bound;
    type = ap (apply σ) h.type ∙ at_proc σ (map P.local h.lambda.parameters) (P.result l)
        ∙ ap (λ ts. ty.Proc ts (apply σ (P.result l))) (parameters_at h.lambda.parameters h.bound)
        ∙ ap (λ r. ty.Proc (map T.local h.lambda.parameters) r) (sym (results l h.stands));
  }

  constant_at : (c : Constant) (u : Ty) → constant_has k blocks c u → constant_has k blocks c (apply σ u)
  constant_at (constants.Integer i) u h = ap (apply σ) h ∙ at_integer σ
  constant_at (constants.Boolean b) u h = ap (apply σ) h ∙ at_boolean σ
  constant_at (constants.Char c) u h = ap (apply σ) h ∙ at_char σ
  constant_at constants.Unit u h = ap (apply σ) h ∙ at_unit σ
  constant_at constants.NullAddress u h = ap (apply σ) h ∙ at_address σ
  constant_at (constants.Quoted q) u h = subst (IsLiteral k blocks q) (sym (data_stays k.kinds blocks (kept_value h.value) u h.has σ)) h

  key_at : (kind : CaseKind) → apply σ (key_type kind) ≡ key_type kind
  key_at cases.Integer = at_integer σ
  key_at cases.Char = at_char σ

  operation_at : (p : PrimName) (ts : List Ty) (u : Ty) → IsOperation k.kinds p ts u → IsOperation k.kinds p (map (apply σ) ts) (apply σ u)
  operation_at p ts u h = subst (IsInstance (scheme k.kinds p).body) (at_proc σ ts u)
      (instances_compose (scheme k.kinds p).body (ty.Proc ts u) (apply σ (ty.Proc ts u)) h (record { by = σ; instance = refl }))

  abbrev Before : Expr → Rule
  Before = types k blocks text P M

  abbrev After : Expr → Rule
  After = types k blocks text T N

  abbrev Kept : Expr → Type 0
  Kept e = (u : Ty) (is : List Ty) → Before e u is → After e (apply σ u) (map (apply σ) is)

  -- at the types of locals, of keys and of tests, and of operators
  at_local : (e : Expr) → Kept e → (x : ℕ) → text.locals x ≡ true → (is : List Ty) → Before e (P.local x) is → After e (T.local x) (map (apply σ) is)
  at_local e h x b is t = subst (λ u. After e u (map (apply σ) is)) (sym (locals x b)) (h (P.local x) is t)

  at_type : (e : Expr) → Kept e → (u v : Ty) → apply σ u ≡ v → (is : List Ty) → Before e u is → After e v (map (apply σ) is)
  at_type e h u v is' is t = subst (λ w. After e w (map (apply σ) is)) is' (h u is t)

  each_at : (es : List Expr) → every Kept es → (ts is : List Ty) → each_typed Before es ts is → each_typed After es (map (apply σ) ts) (map (apply σ) is)
  each_at [] h [] is t = ap (map (apply σ)) t
  each_at [] h (u ∷ ts) is t = t
  each_at (e ∷ es) h [] is t = t
  each_at (e ∷ es) h (u ∷ ts) is t = joined_at σ (Before e u) (each_typed Before es ts) (After e (apply σ u)) (each_typed After es (map (apply σ) ts)) (h.0 u) (each_at es h.1 ts) is t

  sequence_at : (es : List Expr) → every Kept es → (u : Ty) (is : List Ty) → sequence_typed Before es u is → sequence_typed After es (apply σ u) (map (apply σ) is)
  sequence_at [] h u is t = t
  sequence_at (e ∷ []) h u is t = h.0 u is t
  sequence_at (e ∷ f ∷ es) h u is t =
      (apply σ t.0, joined_at σ (Before e t.0) (sequence_typed Before (f ∷ es) u) (After e (apply σ t.0)) (sequence_typed After (f ∷ es) (apply σ u)) (h.0 t.0) (sequence_at (f ∷ es) h.1 u) is t.1)

  abbrev branch_before : Labelled → Rule
  branch_before b = Before (body_of b)

  abbrev branch_after : Labelled → Rule
  branch_after b = After (body_of b)

  branches_at : (bs : List Labelled) → every (λ b. Kept (body_of b)) bs → (u : Ty) (is : List Ty) → all_typed branch_before bs u is → all_typed branch_after bs (apply σ u) (map (apply σ) is)
  branches_at [] h u is t = ap (map (apply σ)) t
  branches_at (b ∷ bs) h u is t = joined_at σ (branch_before b u) (all_typed branch_before bs u) (branch_after b (apply σ u)) (all_typed branch_after bs (apply σ u)) (h.0 u) (branches_at bs h.1 u) is t

  group_at : (es : List GroupEntry) (is : List Ty) → group_typed k blocks text P M es is → group_typed k blocks text T N es (map (apply σ) is)
  group_at [] is t = ap (map (apply σ)) t
  group_at (e ∷ es) is t =
      let same = sym (locals e.local t.0.bound) in (
        record { bound = t.0.bound; type = refl },
        subst (IsLambda k text T e.lambda) same (lambda_at e.lambda (P.local e.local) t.1),
        subst (λ u. noted u (group_typed k blocks text T N es) (map (apply σ) is)) same (noted_at σ (P.local e.local) (group_typed k blocks text P M es) (group_typed k blocks text T N es) (group_at es) is t.2),
      )

  call_at : (f : Expr) (es : List Expr) → Kept f → every Kept es → (u : Ty) (is : List Ty) → ((ts : List Ty) × joined (Before f (ty.Proc ts u)) (each_typed Before es ts) is)
      → (ts : List Ty) × joined (After f (ty.Proc ts (apply σ u))) (each_typed After es ts) (map (apply σ) is)
  call_at f es h hs u is t = (
    map (apply σ) t.0,
    joined_at σ (Before f (ty.Proc t.0 u)) (each_typed Before es t.0) (After f (ty.Proc (map (apply σ) t.0) (apply σ u))) (each_typed After es (map (apply σ) t.0))
        (at_type f h (ty.Proc t.0 u) (ty.Proc (map (apply σ) t.0) (apply σ u)) (at_proc σ t.0 u)) (each_at es hs t.0) is t.1,
  )

  layer_at : (x : ExprKind-F ExprKind Expr Labelled) → parts Kept x → (u : Ty) (is : List Ty) → Layer k blocks text P M x u is → Layer k blocks text T N x (apply σ u) (map (apply σ) is)
  layer_at (ExprKind-F.Constant c) h u is t = (constant_at c u t.0, ap (map (apply σ)) t.1)
  layer_at (ExprKind-F.Local x) h u is t = (local_at x u t.0, ap (map (apply σ)) t.1)
  layer_at (ExprKind-F.Global d) h u is t = (mentions d u t.0, ap (map (apply σ)) t.1)
  layer_at (ExprKind-F.Lambda l) h u is t = (lambda_at l u t.0, ap (map (apply σ)) t.1)
  layer_at (ExprKind-F.If a b c) h u is t =
      joined_at σ (Before a ty.Boolean) (joined (Before b u) (Before c u)) (After a ty.Boolean) (joined (After b (apply σ u)) (After c (apply σ u)))
      (at_type a h.0 ty.Boolean ty.Boolean (at_boolean σ)) (joined_at σ (Before b u) (Before c u) (After b (apply σ u)) (After c (apply σ u)) (h.1 u) (h.2 u)) is t
  layer_at (ExprKind-F.Let x a b) h u is t =
      (record { bound = t.0.bound; type = refl }, joined_at σ (Before a (P.local x)) (Before b u) (After a (T.local x)) (After b (apply σ u)) (at_local a h.0 x t.0.bound) (h.1 u) is t.1)
  layer_at (ExprKind-F.Letrec es b) h u is t =
      joined_at σ (group_typed k blocks text P M es) (Before b u) (group_typed k blocks text T N es) (After b (apply σ u)) (group_at es) (h u) is t
  layer_at (ExprKind-F.Begin es) h u is t = sequence_at es h u is t
  layer_at (ExprKind-F.SetGlobal d a) h u is t = (ap (apply σ) t.0 ∙ at_unit σ, (apply σ t.1.0, mentions d t.1.0 t.1.1, h t.1.0 is t.1.2))
  layer_at (ExprKind-F.SetLocal x a) h u is t = (ap (apply σ) t.0 ∙ at_unit σ, record { bound = t.1.bound; type = refl }, at_local a h x t.1.bound is t.2)
  layer_at (ExprKind-F.Case kind a bs e) h u is t =
      joined_at σ (Before a (key_type kind)) (joined (all_typed branch_before bs u) (Before e u)) (After a (key_type kind)) (joined (all_typed branch_after bs (apply σ u)) (After e (apply σ u)))
      (at_type a h.0 (key_type kind) (key_type kind) (key_at kind))
      (joined_at σ (all_typed branch_before bs u) (Before e u) (all_typed branch_after bs (apply σ u)) (After e (apply σ u)) (branches_at bs h.1 u) (h.2 u)) is t
  layer_at (ExprKind-F.Call f es) h u is t = call_at f es h.0 h.1 u is t
  layer_at (ExprKind-F.ProperCall f es) h u is t = call_at f es h.0 h.1 u is t
  layer_at (ExprKind-F.Primitive p es) h u is t = (map (apply σ) t.0, operation_at p t.0 u t.1, each_at es h t.0 is t.2)

  pub kept : (e : Expr) → Kept e
  kept = by_parts Kept (λ (p : Place) x h u is t. made k blocks text T N p x (apply σ u) (map (apply σ) is)
      (noted_at σ u (Layer k blocks text P M x u) (Layer k blocks text T N x (apply σ u)) (layer_at x h u) is (opened k blocks text P M p x u is t)))

-- ---- mentions of groups

pub mentions_at : (own early : Bool) (σ : Substitution) (p t u : Ty) → (early ≡ true → IsInstance t p) → (own ≡ true → t ≡ apply σ p) → mention_of early own p u → mention_of early own t (apply σ u)
mentions_at own true σ p t u general same h = instances_compose t u (apply σ u) (instances_compose t p u (general refl) h) (record { by = σ; instance = refl })
mentions_at true false σ p t u general same h = ap (apply σ) h ∙ sym (same refl)
mentions_at false false σ p t u general same h = h

pub rules_are_kept : RulesAreKept
rules_are_kept k blocks text earlier σ P T same general e u is h = record {
  typing = kept k blocks text σ P T same.locals same.results (MentionsFrom earlier text P) (MentionsFrom earlier text T)
      (λ d v m. record { is = mentions_at (text.definitions d) (earlier d) σ (P.definition d) (T.definition d) v (general.each d) (same.definitions d) m.is }) e u is h.typing;
}
