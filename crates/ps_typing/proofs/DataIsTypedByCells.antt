-- Data has the types that its cells give it.
-- For: `data_is_typed_by_cells`
use Rattle.std.proofs.Common.{◌≡◌, ℕ, ◌<◌, List, [], ◌∷◌, ◌++◌, length, Option, Some, None, refl, sym, subst, inl, inr, ⊎_elim, arith}
use Rattle.std.specs.Prelude.{◌⊎◌}
use Rattle.ps_types.specs.declared.types.Ty.{Ty}
use Rattle.ps_types.specs.declared.types.Ty.TheVariants as ty
use Rattle.ps_types.specs.declared.types.RecordKind.{RecordKind}
use Rattle.ps_prims.specs.Records.{fields}
use Rattle.ps_kernel.specs.declared.survivors.Kept.{Kept}
use Rattle.ps_kernel.specs.declared.survivors.Kept.TheVariants as kept
use Rattle.ps_kernel.specs.declared.survivors.KeptBlock.{KeptBlock}
use Rattle.ps_kernel.specs.declared.survivors.KeptBlock.TheVariants.{Bytes, Cells}
use Rattle.ps_kernel.specs.declared.survivors.NumberedBlock.{NumberedBlock}
use Rattle.ps_kernel.specs.Lists.{Each, Among}
use Rattle.ps_typing.specs.Data.{Layout, Members, Fields, Layouts, has_type, IsCell, members_have, fields_have, block_has, block_at, AreLaid, IsData}
use Rattle.ps_typing.specs.Laws.{IsTypedCell, typed_each, IsVector, IsTuple, DataIsTypedByCells}

among_left : {A : Type 0} (xs ys : List A) (x : A) → Among x xs → Among x (xs ++ ys)
among_left [] ys x h = absurd h
among_left (y ∷ xs) ys x h = ⊎_elim (λ (e : x ≡ y). inl e) (λ (k : Among x xs). inr (among_left xs ys x k)) h

among_right : {A : Type 0} (xs ys : List A) (x : A) → Among x ys → Among x (xs ++ ys)
among_right [] ys x h = h
among_right (y ∷ xs) ys x h = inr (among_right xs ys x h)

among_either : {A : Type 0} (xs ys : List A) (x : A) → Among x (xs ++ ys) → Among x xs ⊎ Among x ys
among_either [] ys x h = inr h
among_either (y ∷ xs) ys x h = ⊎_elim
    (λ (e : x ≡ y). inl (inl e))
    (λ (k : Among x (xs ++ ys)). ⊎_elim (λ (q : Among x xs). inl (inr q)) (λ (q : Among x ys). inr q) (among_either xs ys x k))
    h

-- ---- more layouts

-- what stands in one stands in the other
pub record Within (a b : Layouts) : Type 0 where
  pub all : (b' : ℕ) (y : Layout) → Among (b', y) a → Among (b', y) b

module _ (a b : Layouts) (w : Within a b) where
  has_more : (v : Kept) (t : Ty) → has_type a v t → has_type b v t
  has_more (kept.Integer i) t h = h
  has_more (kept.Boolean c) t h = h
  has_more (kept.Char c) t h = h
  has_more kept.Unit t h = h
  has_more kept.NullAddress t h = h
  has_more (kept.Text n) t h = h
  has_more (kept.Vector n) t h = (h.0, h.1, w.all n (Members h.0) h.2)
  has_more (kept.Tuple k n) t h = (h.0, w.all n (Fields k) h.1)

  cell_more : (v : Kept) (t : Ty) → IsCell a v t → IsCell b v t
  cell_more v t h = record { has = has_more v t h.has; small = h.small }

  members_more : (vs : List Kept) (t : Ty) → members_have a vs t → members_have b vs t
  members_more [] t h = h
  members_more (v ∷ []) t h = cell_more v t h
  members_more (v ∷ u ∷ vs) t h = (cell_more v t h.0, members_more (u ∷ vs) t h.1)

  fields_more : (vs : List Kept) (ts : List Ty) → fields_have a vs ts → fields_have b vs ts
  fields_more [] [] h = h
  fields_more [] (t ∷ ts) h = h
  fields_more (v ∷ vs) [] h = h
  fields_more (v ∷ vs) (t ∷ ts) h = (cell_more v t h.0, fields_more vs ts h.1)

  block_more : (kinds : List RecordKind) (o : Option KeptBlock) (y : Layout) → block_has a kinds o y → block_has b kinds o y
  block_more kinds None y h = h
  block_more kinds (Some (Bytes bytes)) y h = h
  block_more kinds (Some (Cells vs)) (Members t) h = members_more vs t h
  block_more kinds (Some (Cells vs)) (Fields k) h = fields_more vs (fields kinds k) h

in_first : (a b : Layouts) → Within a (a ++ b)
in_first a b = record { all = λ n y h. among_left a b (n, y) h }

in_second : (a b : Layouts) → Within b (a ++ b)
in_second a b = record { all = λ n y h. among_right a b (n, y) h }

in_longer : (a : Layouts) (n : ℕ) (y : Layout) → Within a ((n, y) ∷ a)
in_longer a n y = record { all = λ m z h. inr h }

module _ (kinds : List RecordKind) (blocks : List NumberedBlock) where
  abbrev here : ℕ → Option KeptBlock
  here n = block_at n blocks

  both_laid : (a b : Layouts) → AreLaid kinds blocks a → AreLaid kinds blocks b → AreLaid kinds blocks (a ++ b)
  both_laid a b p q = record {
    each = λ n y h. ⊎_elim
        (λ (i : Among (n, y) a). block_more a (a ++ b) (in_first a b) kinds (here n) y (p.each n y i))
        (λ (i : Among (n, y) b). block_more b (a ++ b) (in_second a b) kinds (here n) y (q.each n y i))
        (among_either a b (n, y) h);
  }

  -- one more block
  longer_laid : (a : Layouts) (n : ℕ) (y : Layout) → AreLaid kinds blocks a → block_has ((n, y) ∷ a) kinds (here n) y → AreLaid kinds blocks ((n, y) ∷ a)
  longer_laid a n y p h = record {
    each = λ m z i. ⊎_elim
        (λ (e : (m, z) ≡ (n, y)). subst (λ (x : ℕ × Layout). block_has ((n, y) ∷ a) kinds (here x.0) x.1) (sym e) h)
        (λ (j : Among (m, z) a). block_more a ((n, y) ∷ a) (in_longer a n y) kinds (here m) z (p.each m z j))
        i;
  }

  -- ---- vectors

  -- one layout for all cells
  pub record Together (P : Layouts → Type 0) : Type 0 where
    pub layouts : Layouts
    pub laid : AreLaid kinds blocks layouts
    pub holds : P layouts

  members_together : (t : Ty) (vs : List Kept) → 0 < length vs → Each (IsTypedCell kinds blocks t) vs → Together (λ l. members_have l vs t)
  members_together t [] some h = absurd (omega arith)
  members_together t (v ∷ []) some h = record { layouts = h.0.is.layouts; laid = h.0.is.laid; holds = record { has = h.0.is.has; small = h.0.small } }
  members_together t (v ∷ w ∷ vs) some h =
      let rest = members_together t (w ∷ vs) (omega arith) h.1 in
      let a = h.0.is.layouts in
      let b = rest.layouts in
      record {
        layouts = a ++ b;
        laid = both_laid a b h.0.is.laid rest.laid;
        holds = (record { has = has_more a (a ++ b) (in_first a b) v t h.0.is.has; small = h.0.small }, members_more b (a ++ b) (in_second a b) (w ∷ vs) t rest.holds);
      }

  make_vector : (n : ℕ) (t : Ty) → IsVector kinds blocks n t → IsData kinds blocks (kept.Vector n) t
  make_vector n t h =
      let all = members_together h.members h.cells h.some h.each in
      let a = all.layouts in
      let b : Layouts = (n, Members h.members) ∷ a in
      record {
        layouts = b;
        laid = longer_laid a n (Members h.members) all.laid
            (subst (λ o. block_has b kinds o (Members h.members)) (sym h.there) (members_more a b (in_longer a n (Members h.members)) h.cells h.members all.holds));
        has = (h.members, h.type, inl refl);
      }

  module _ (a : Layouts) (p : AreLaid kinds blocks a) where
    cell_data : (t : Ty) (v : Kept) → IsCell a v t → IsTypedCell kinds blocks t v
    cell_data t v h = record { is = record { layouts = a; laid = p; has = h.has }; small = h.small }

    members_data : (t : Ty) (vs : List Kept) → members_have a vs t → (0 < length vs) × Each (IsTypedCell kinds blocks t) vs
    members_data t [] h = absurd h
    members_data t (v ∷ []) h = (omega arith, (cell_data t v h, tt))
    members_data t (v ∷ w ∷ vs) h = (omega arith, (cell_data t v h.0, (members_data t (w ∷ vs) h.1).1))

    fields_data : (ts : List Ty) (vs : List Kept) → fields_have a vs ts → typed_each kinds blocks vs ts
    fields_data [] [] h = h
    fields_data [] (v ∷ vs) h = h
    fields_data (t ∷ ts) [] h = h
    fields_data (t ∷ ts) (v ∷ vs) h = (cell_data t v h.0, fields_data ts vs h.1)

    take_vector : (n : ℕ) (t u : Ty) → t ≡ ty.Vector u → (o : Option KeptBlock) → here n ≡ o → block_has a kinds o (Members u) → IsVector kinds blocks n t
    take_vector n t u e None is h = absurd h
    take_vector n t u e (Some (Bytes bytes)) is h = absurd h
    take_vector n t u e (Some (Cells vs)) is h =
        let d = members_data u vs h in record { members = u; type = e; cells = vs; there = is; some = d.0; each = d.1 }

    take_tuple : (k n : ℕ) (t : Ty) → t ≡ ty.Tuple k → (o : Option KeptBlock) → here n ≡ o → block_has a kinds o (Fields k) → IsTuple kinds blocks k n t
    take_tuple k n t e None is h = absurd h
    take_tuple k n t e (Some (Bytes bytes)) is h = absurd h
    take_tuple k n t e (Some (Cells vs)) is h = record { type = e; cells = vs; there = is; each = fields_data (fields kinds k) vs h }

  of_vector : (n : ℕ) (t : Ty) → IsData kinds blocks (kept.Vector n) t → IsVector kinds blocks n t
  of_vector n t h = take_vector h.layouts h.laid n t h.has.0 h.has.1 (here n) refl (h.laid.each n (Members h.has.0) h.has.2)

  -- ---- records

  none_laid : AreLaid kinds blocks []
  none_laid = record { each = λ n y h. absurd h }

  fields_together : (ts : List Ty) (vs : List Kept) → typed_each kinds blocks vs ts → Together (λ l. fields_have l vs ts)
  fields_together [] [] h = record { layouts = []; laid = none_laid; holds = tt }
  fields_together [] (v ∷ vs) h = absurd h
  fields_together (t ∷ ts) [] h = absurd h
  fields_together (t ∷ ts) (v ∷ vs) h =
      let rest = fields_together ts vs h.1 in
      let a = h.0.is.layouts in
      let b = rest.layouts in
      record {
        layouts = a ++ b;
        laid = both_laid a b h.0.is.laid rest.laid;
        holds = (record { has = has_more a (a ++ b) (in_first a b) v t h.0.is.has; small = h.0.small }, fields_more b (a ++ b) (in_second a b) vs ts rest.holds);
      }

  make_tuple : (k n : ℕ) (t : Ty) → IsTuple kinds blocks k n t → IsData kinds blocks (kept.Tuple k n) t
  make_tuple k n t h =
      let all = fields_together (fields kinds k) h.cells h.each in
      let a = all.layouts in
      let b : Layouts = (n, Fields k) ∷ a in
      record {
        layouts = b;
        laid = longer_laid a n (Fields k) all.laid
            (subst (λ o. block_has b kinds o (Fields k)) (sym h.there) (fields_more a b (in_longer a n (Fields k)) h.cells (fields kinds k) all.holds));
        has = (h.type, inl refl);
      }

  of_tuple : (k n : ℕ) (t : Ty) → IsData kinds blocks (kept.Tuple k n) t → IsTuple kinds blocks k n t
  of_tuple k n t h = take_tuple h.layouts h.laid k n t h.has.0 (here n) refl (h.laid.each n (Fields k) h.has.1)

pub by_cells : DataIsTypedByCells
by_cells kinds blocks = (λ n t. (of_vector kinds blocks n t, make_vector kinds blocks n t), λ k n t. (of_tuple kinds blocks k n t, make_tuple kinds blocks k n t))
