-- The rules list one type for each expression, and its own stands in front.
-- For: `types_are_listed`
use Rattle.std.proofs.Common.{◌≡◌, ℕ, suc, ◌+◌, List, [], ◌∷◌, length, map, sym, ap, ◌∙◌, arith, length-append}
use Rattle.ps_base.specs.declared.faults.Place.{Place}
use Rattle.ps_types.specs.declared.types.Ty.{Ty}
use Rattle.ps_types.specs.declared.types.Ty.TheVariants as ty
use Rattle.ps_types.specs.Substitutions.{total}
use Rattle.ps_types.proofs.TypesAreTerms.{every}
use Rattle.ps_kernel.specs.declared.expr.Expr.{Expr, fold-roll-Expr}
use Rattle.ps_kernel.specs.declared.expr.ExprKind.{ExprKind, map-ExprKind, fold-ExprKind, fold-roll-ExprKind, roll-ExprKind}
use Rattle.ps_kernel.specs.declared.expr.ExprKind.TheOpen.{ExprKind-F}
use Rattle.ps_kernel.specs.declared.expr.GroupEntry.{GroupEntry}
use Rattle.ps_kernel.specs.declared.expr.Labelled.{Labelled, fold-Labelled, fold_out-Labelled}
use Rattle.ps_kernel.specs.declared.kernel.Kernel.{Kernel}
use Rattle.ps_kernel.specs.declared.survivors.NumberedBlock.{NumberedBlock}
use Rattle.ps_kernel.specs.Marks.{body_of}
use Rattle.ps_typing.specs.Rules.{Typing, Text, Rule, joined, each_typed, all_typed, sequence_typed, key_type, group_typed, types, listed_node, listed}
use Rattle.ps_typing.specs.Typings.{MentionsFrom}
use Rattle.ps_typing.specs.Laws.{TypesAreListed}
use Rattle.ps_typing.proofs.TreesByParts.{node, parts, by_parts}
use Rattle.ps_typing.proofs.TypingsByNode.{Layer, opened}

-- ---- how many, node by node

abbrev listed_kind : ExprKind → ℕ
listed_kind = fold-ExprKind ℕ ℕ ℕ listed_node (λ e. suc e.kind) (λ b. b.body)

abbrev listed_branch : Labelled → ℕ
listed_branch = fold-Labelled ℕ ℕ ℕ listed_node (λ e. suc e.kind) (λ b. b.body)

at_branch : (b : Labelled) → listed_branch b ≡ listed (body_of b)
at_branch b = fold_out-Labelled ℕ ℕ ℕ listed_node (λ e. suc e.kind) (λ b. b.body) b

at_listed : (at : Place) (x : ExprKind-F ExprKind Expr Labelled) → listed (node at x) ≡ suc (listed_node (map-ExprKind ExprKind Expr Labelled ℕ ℕ ℕ listed_kind listed listed_branch x))
at_listed at x = fold-roll-Expr ℕ ℕ ℕ listed_node (λ e. suc e.kind) (λ b. b.body) (record { place = at; kind = roll-ExprKind x })
    ∙ ap suc (fold-roll-ExprKind ℕ ℕ ℕ listed_node (λ e. suc e.kind) (λ b. b.body) x)

-- ---- lists of types

joined_long : (P Q : List Ty → Type 0) (n m : ℕ) → ((i : List Ty) → P i → length i ≡ n) → ((j : List Ty) → Q j → length j ≡ m) → (is : List Ty) → joined P Q is → length is ≡ n + m
joined_long P Q n m f g is h =
    let a = f h.0 h.2 in
    let b = g h.1 h.3 in
    ap length h.4 ∙ length-append h.0 h.1 ∙ omega arith

module _ (k : Kernel) (blocks : List NumberedBlock) (text : Text) (T : Typing) (M : ℕ → Ty → Type 0) where
  abbrev all : Expr → Rule
  all = types k blocks text T M

  abbrev Long : Expr → Type 0
  Long e = (u : Ty) (is : List Ty) → all e u is → length is ≡ listed e

  each_long : (es : List Expr) → every Long es → (ts is : List Ty) → each_typed all es ts is → length is ≡ total (map listed es)
  each_long [] h [] is t = ap length t
  each_long [] h (u ∷ ts) is t = absurd t
  each_long (e ∷ es) h [] is t = absurd t
  each_long (e ∷ es) h (u ∷ ts) is t = joined_long (all e u) (each_typed all es ts) (listed e) (total (map listed es)) (h.0 u) (each_long es h.1 ts) is t

  sequence_long : (es : List Expr) → every Long es → (u : Ty) (is : List Ty) → sequence_typed all es u is → length is ≡ total (map listed es)
  sequence_long [] h u is t = absurd t
  sequence_long (e ∷ []) h u is t = let n = h.0 u is t in omega arith
  sequence_long (e ∷ f ∷ es) h u is t = joined_long (all e t.0) (sequence_typed all (f ∷ es) u) (listed e) (total (map listed (f ∷ es))) (h.0 t.0) (sequence_long (f ∷ es) h.1 u) is t.1

  branches_long : (bs : List Labelled) → every (λ b. Long (body_of b)) bs → (u : Ty) (is : List Ty) → all_typed (λ b. all (body_of b)) bs u is → length is ≡ total (map listed_branch bs)
  branches_long [] h u is t = ap length t
  branches_long (b ∷ bs) h u is t =
      joined_long (all (body_of b) u) (all_typed (λ b. all (body_of b)) bs u) (listed_branch b) (total (map listed_branch bs))
      (λ i q. h.0 u i q ∙ sym (at_branch b)) (branches_long bs h.1 u) is t

  group_long : (es : List GroupEntry) (is : List Ty) → group_typed k blocks text T M es is → length is ≡ length es
  group_long [] is t = ap length t
  group_long (e ∷ es) is t = ap length t.2.2 ∙ ap suc (group_long es t.2.0 t.2.1)

  layer_long : (x : ExprKind-F ExprKind Expr Labelled) → parts Long x → (u : Ty) (is : List Ty) → Layer k blocks text T M x u is → length is ≡ listed_node (map-ExprKind ExprKind Expr Labelled ℕ ℕ ℕ listed_kind listed listed_branch x)
  layer_long (ExprKind-F.Constant c) h u is t = ap length t.1
  layer_long (ExprKind-F.Local x) h u is t = ap length t.1
  layer_long (ExprKind-F.Global d) h u is t = ap length t.1
  layer_long (ExprKind-F.Lambda l) h u is t = ap length t.1
  layer_long (ExprKind-F.If a b c) h u is t =
      joined_long (all a ty.Boolean) (joined (all b u) (all c u)) (listed a) (listed b + listed c) (h.0 ty.Boolean) (joined_long (all b u) (all c u) (listed b) (listed c) (h.1 u) (h.2 u)) is t
  layer_long (ExprKind-F.Let x a b) h u is t = joined_long (all a (T.local x)) (all b u) (listed a) (listed b) (h.0 (T.local x)) (h.1 u) is t.1
  layer_long (ExprKind-F.Letrec es b) h u is t = joined_long (group_typed k blocks text T M es) (all b u) (length es) (listed b) (group_long es) (h u) is t
  layer_long (ExprKind-F.Begin es) h u is t = sequence_long es h u is t
  layer_long (ExprKind-F.SetGlobal d a) h u is t = h t.1.0 is t.1.2
  layer_long (ExprKind-F.SetLocal x a) h u is t = h (T.local x) is t.2
  layer_long (ExprKind-F.Case kind a bs e) h u is t =
      joined_long (all a (key_type kind)) (joined (all_typed (λ b. all (body_of b)) bs u) (all e u)) (listed a) (total (map listed_branch bs) + listed e) (h.0 (key_type kind))
      (joined_long (all_typed (λ b. all (body_of b)) bs u) (all e u) (total (map listed_branch bs)) (listed e) (branches_long bs h.1 u) (h.2 u)) is t
  layer_long (ExprKind-F.Call f es) h u is t = joined_long (all f (ty.Proc t.0 u)) (each_typed all es t.0) (listed f) (total (map listed es)) (h.0 (ty.Proc t.0 u)) (each_long es h.1 t.0) is t.1
  layer_long (ExprKind-F.ProperCall f es) h u is t = joined_long (all f (ty.Proc t.0 u)) (each_typed all es t.0) (listed f) (total (map listed es)) (h.0 (ty.Proc t.0 u)) (each_long es h.1 t.0) is t.1
  layer_long (ExprKind-F.Primitive p es) h u is t = each_long es h t.0 is t.2

  long : (e : Expr) → Long e
  long = by_parts Long (λ (p : Place) x h u is t.
      (let o = opened k blocks text T M p x u is t in
      ap length o.2 ∙ ap suc (layer_long x h u o.0 o.1) ∙ sym (at_listed p x)))

  abbrev First : Expr → Type 0
  First e = (u : Ty) (is : List Ty) → all e u is → (j : List Ty) × (is ≡ u ∷ j)

  first : (e : Expr) → First e
  first = by_parts First (λ (p : Place) x h u is t. (let o = opened k blocks text T M p x u is t in (o.0, o.2)))

pub types_are_listed : TypesAreListed
types_are_listed k blocks text earlier T e u is h =
    let M : ℕ → Ty → Type 0 = MentionsFrom earlier text T in
    let f = first k blocks text T M e u is h.typing in
    record { long = long k blocks text T M e u is h.typing; others = f.0; first = f.1 }
