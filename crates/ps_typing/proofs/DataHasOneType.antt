-- Data has types without variables, and one type at most.
-- For: `data_has_no_variables` and `data_has_one_type`
use Rattle.std.proofs.Common.{◌≡◌, ℕ, false, List, [], ◌∷◌, Option, Some, None, sym, ap, ◌∙◌, subst}
use Rattle.ps_types.specs.declared.types.Ty.{Ty, Ty-F, roll-Ty}
use Rattle.ps_types.specs.declared.types.Ty.TheVariants as ty
use Rattle.ps_types.specs.declared.types.RecordKind.{RecordKind}
use Rattle.ps_types.specs.Substitutions.{Substitution, apply, mentions}
use Rattle.ps_types.proofs.TypesAreTerms.{parts, by_parts, mentions_at}
use Rattle.ps_types.proofs.SubstitutionsCompose.{same_on, unchanged}
use Rattle.ps_kernel.specs.declared.survivors.Kept.{Kept}
use Rattle.ps_kernel.specs.declared.survivors.Kept.TheVariants as kept
use Rattle.ps_kernel.specs.declared.survivors.KeptBlock.{KeptBlock}
use Rattle.ps_kernel.specs.declared.survivors.KeptBlock.TheVariants.{Bytes, Cells}
use Rattle.ps_kernel.specs.declared.survivors.NumberedBlock.{NumberedBlock}
use Rattle.ps_typing.specs.Data.{Members, Layouts, has_type, members_have, block_has, block_at, AreLaid, IsData}
use Rattle.ps_typing.specs.Laws.{DataHasNoVariables, DataHasOneType}
use Rattle.ps_typing.proofs.TypesAtConstructors.{layer_is}

-- a cell of a vector, which has the type of its members in two ways
pub record SharedCell (a b : Layouts) (t u : Ty) : Type 0 where
  pub cell : Kept
  pub one : has_type a cell t
  pub other : has_type b cell u

module _ (a b : Layouts) (t u : Ty) where
  shared_member : (vs : List Kept) → members_have a vs t → members_have b vs u → SharedCell a b t u
  shared_member [] h g = absurd h
  shared_member (v ∷ []) h g = record { cell = v; one = h.has; other = g.has }
  shared_member (v ∷ w ∷ vs) h g = record { cell = v; one = h.0.has; other = g.0.has }

  pub shared_cell : (kinds : List RecordKind) (o : Option KeptBlock) → block_has a kinds o (Members t) → block_has b kinds o (Members u) → SharedCell a b t u
  shared_cell kinds None h g = absurd h
  shared_cell kinds (Some (Bytes bytes)) h g = absurd h
  shared_cell kinds (Some (Cells vs)) h g = shared_member vs h g

-- ---- one type

module _ (kinds : List RecordKind) (blocks : List NumberedBlock) (a b : Layouts) (fa : AreLaid kinds blocks a) (fb : AreLaid kinds blocks b) where
  abbrev One : Ty → Type 0
  One t = (v : Kept) (u : Ty) → has_type a v t → has_type b v u → t ≡ u

  one_at : (x : Ty-F Ty) → parts One x → One (roll-Ty x)
  one_at x h (kept.Integer i) u p q = p ∙ sym q
  one_at x h (kept.Boolean c) u p q = p ∙ sym q
  one_at x h (kept.Char c) u p q = p ∙ sym q
  one_at x h kept.Unit u p q = p ∙ sym q
  one_at x h kept.NullAddress u p q = p ∙ sym q
  one_at x h (kept.Text n) u p q = p ∙ sym q
  one_at x h (kept.Vector n) u p q =
      let cell = shared_cell a b p.0 q.0 kinds (block_at n blocks) (fa.each n (Members p.0) p.2) (fb.each n (Members q.0) q.2) in
      let whole : One p.0 = subst (parts One) (layer_is x (Ty-F.Vector p.0) (ty.Vector p.0) p.1 (ty.outs-Vector p.0)) h in
      p.1 ∙ ap ty.Vector (whole cell.cell q.0 cell.one cell.other) ∙ sym q.1
  one_at x h (kept.Tuple k n) u p q = p.0 ∙ sym q.0

  one : (t : Ty) → One t
  one = by_parts One one_at

pub one_type : DataHasOneType
one_type kinds blocks v t u p q = one kinds blocks p.layouts q.layouts p.laid q.laid t v u p.has q.has

-- ---- no variables

module _ (kinds : List RecordKind) (blocks : List NumberedBlock) (a : Layouts) (fa : AreLaid kinds blocks a) where
  abbrev Closed : Ty → Type 0
  Closed t = (v : Kept) → has_type a v t → (x : ℕ) → mentions x t ≡ false

  closed_at : (y : Ty-F Ty) → parts Closed y → Closed (roll-Ty y)
  closed_at y h (kept.Integer i) p x = ap (mentions x) (p ∙ sym ty.rolls-Integer) ∙ mentions_at x Ty-F.Integer
  closed_at y h (kept.Boolean c) p x = ap (mentions x) (p ∙ sym ty.rolls-Boolean) ∙ mentions_at x Ty-F.Boolean
  closed_at y h (kept.Char c) p x = ap (mentions x) (p ∙ sym ty.rolls-Char) ∙ mentions_at x Ty-F.Char
  closed_at y h kept.Unit p x = ap (mentions x) (p ∙ sym ty.rolls-Unit) ∙ mentions_at x Ty-F.Unit
  closed_at y h kept.NullAddress p x = ap (mentions x) (p ∙ sym ty.rolls-Address) ∙ mentions_at x Ty-F.Address
  closed_at y h (kept.Text n) p x = ap (mentions x) (p ∙ sym ty.rolls-Text) ∙ mentions_at x Ty-F.Text
  closed_at y h (kept.Vector n) p x =
      let cell = shared_cell a a p.0 p.0 kinds (block_at n blocks) (fa.each n (Members p.0) p.2) (fa.each n (Members p.0) p.2) in
      let whole : Closed p.0 = subst (parts Closed) (layer_is y (Ty-F.Vector p.0) (ty.Vector p.0) p.1 (ty.outs-Vector p.0)) h in
      ap (mentions x) (p.1 ∙ sym (ty.rolls-Vector p.0)) ∙ mentions_at x (Ty-F.Vector p.0) ∙ whole cell.cell cell.one x
  closed_at y h (kept.Tuple k n) p x = ap (mentions x) (p.0 ∙ sym (ty.rolls-Tuple k)) ∙ mentions_at x (Ty-F.Tuple k)

  closed : (t : Ty) → Closed t
  closed = by_parts Closed closed_at

pub no_variables : DataHasNoVariables
no_variables kinds blocks v t p = closed kinds blocks p.layouts p.laid t v p.has

-- so no substitution changes it
pub data_stays : (kinds : List RecordKind) (blocks : List NumberedBlock) (v : Kept) (t : Ty) → IsData kinds blocks v t → (σ : Substitution) → apply σ t ≡ t
data_stays kinds blocks v t p σ = same_on σ ty.Var t (λ x m. (let clash = sym m ∙ no_variables kinds blocks v t p x in absurd cc)) ∙ unchanged t
