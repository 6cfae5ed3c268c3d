-- Forms that have their shape, one after another, and the fault of all.
-- For: `names_fault`, `has_main` and `fault`
use Rattle.std.proofs.Common.{◌≡◌, ℕ, zero, suc, ◌+◌, ◌<◌, ◌≤◌, List, [], ◌∷◌, ◌++◌, map, length, take, drop, get_or, Bool, true, false, Some, None, refl, sym, ap, ◌∙◌, arith, subst, ◌||◌}
use Rattle.std.specs.Prelude.{Option, if◌then◌else◌, ◌==◌, codes, ◌&&◌, nat_eq}
use Rattle.std.specs.List.{list_any}
use Rattle.std.specs.Str.{bytes_eq}
use Rattle.std.proofs.lemmas.List.{take_more, drop_more, nil_from_length, length-drop, map-append}
use Rattle.std.proofs.Math.Dec.{eqb-suc-zero}
use Rattle.ps_base.specs.declared.faults.Place.{Place}
use Rattle.ps_datum.specs.declared.datum.Datum.{Datum}
use Rattle.ps_datum.specs.declared.datum.DatumKind.{DatumKind, fold-DatumKind}
use Rattle.ps_datum.specs.declared.datum.DatumKind.TheOpen.{Datum-F}
use Rattle.ps_datum.specs.Weight.{weight, weights, weight_node}
use Rattle.ps_datum.proofs.Trees.{induction, fold-datum, fold-boolean, fold-integer, fold-char, fold-text, fold-symbol, fold-list, fold-dotted, fold-vector}
use Rattle.ps_plain.specs.Meaning.{start_place}
use Rattle.ps_plain.specs.Forms.{Head, part, and_also, heads_of, scope_in}
use Rattle.ps_plain.specs.Faults.{flaws, or_else, body_names, shapes_fault, names_from, names_fault, no_parameters, is_main, main_fault, text_fault, fault_of}
use Rattle.ps_resolve.specs.declared.faults.DefinitionParts.{DefinitionParts}
use Rattle.ps_resolve.specs.InsideHeads.{HasParts, HaveHeads, IsHeadOf, head_at, head_fault, names_walk}
use Rattle.ps_resolve.proofs.FaultHeads.{or_none, or_none-last}
use Rattle.ps_resolve.proofs.FaultProcedures.{length-parameters}

-- ---- at least as many tokens as forms

abbrev IsHeavy : Datum → Type 0
IsHeavy d = 1 ≤ weight d

abbrev wt : Datum-F ℕ ℕ → ℕ
wt d = d.kind

abbrev IsHeavyKind : DatumKind → Type 0
IsHeavyKind x = 1 ≤ fold-DatumKind ℕ ℕ weight_node wt x

heavy : (d : Datum) → IsHeavy d
heavy = induction IsHeavyKind IsHeavy
    (λ b. omega (arith, fold-boolean weight_node wt b))
    (λ n. omega (arith, fold-integer weight_node wt n))
    (λ c. omega (arith, fold-char weight_node wt c))
    (λ t. omega (arith, fold-text weight_node wt t))
    (λ n. omega (arith, fold-symbol weight_node wt n))
    (λ ds all. omega (arith, fold-list weight_node wt ds))
    (λ ds d all last. omega (arith, fold-dotted weight_node wt ds d))
    (λ ds all. omega (arith, fold-vector weight_node wt ds))
    (λ p x h. omega (arith, h, fold-datum weight_node wt p x))

pub length-weights : (ds : List Datum) → length ds ≤ weights ds
length-weights [] = omega arith
length-weights (d ∷ ds) = omega (arith, heavy d, length-weights ds)

-- ---- one form more

-- a head of which the parts are known
pub head_of_parts : (names : List (List ℕ)) (d : Datum) (x : DefinitionParts) → HasParts names d x → IsHeadOf names (head_at names d) x
head_of_parts names d x has = record { name = has.name; parameters = has.parameters }

module _ (names : List (List ℕ)) (ds : List Datum) (i : ℕ) (d : Datum) (within : i < length ds) (is : d ≡ get_or ds i d) where
  left : drop i ds ≡ d ∷ drop (i + 1) ds
  left = drop_more ds i d within ∙ ap (λ z. z ∷ drop (i + 1) ds) (sym is)

  -- each has its shape
  pub shape_at : shapes_fault names ds ≡ None → (flaws names d).definition_shape ≡ None
  shape_at none = or_none (flaws names d).definition_shape (shapes_fault names (drop (i + 1) ds)) (sym (ap (shapes_fault names) left) ∙ behind i ds none)
    where
      behind : (j : ℕ) (es : List Datum) → shapes_fault names es ≡ None → shapes_fault names (drop j es) ≡ None
      behind zero es h = h
      behind (suc j) [] h = refl
      behind (suc j) (e ∷ es) h = behind j es (or_none-last (flaws names e).definition_shape (shapes_fault names es) h)

  -- those that are left have heads where those behind this one have them
  pub reads_more : (part names d).head ≡ Some (head_at names d) → HaveHeads names (drop (i + 1) ds) → HaveHeads names (drop i ds)
  reads_more reads rest = record { are = ap (heads_of names) left ∙ (λ j. and_also (reads j) (rest.are j)) ∙ ap (λ z. Some (map (head_at names) z)) (sym left) }

  -- the heads so far, and one more
  pub heads_more : map (head_at names) (take i ds) ++ head_at names d ∷ [] ≡ map (head_at names) (take (i + 1) ds)
  heads_more =
      sym (map-append (head_at names) (take i ds) (d ∷ []))
      ∙ ap (map (head_at names)) (ap (λ z. take i ds ++ z ∷ []) is ∙ sym (take_more ds i d within))

  -- a search for `main`
  pub main_found : is_main (head_at names d) ≡ true → (r : Bool) → list_any is_main (map (head_at names) (drop i ds)) ≡ r → true ≡ r
  main_found e r so_far = sym (sym so_far ∙ ap (λ z. list_any is_main (map (head_at names) z)) left ∙ ap (λ b. b || list_any is_main (map (head_at names) (drop (i + 1) ds))) e)

  pub main_passed : is_main (head_at names d) ≡ false → (r : Bool) → list_any is_main (map (head_at names) (drop i ds)) ≡ r → list_any is_main (map (head_at names) (drop (i + 1) ds)) ≡ r
  main_passed e r so_far = sym (sym so_far ∙ ap (λ z. list_any is_main (map (head_at names) z)) left ∙ ap (λ b. b || list_any is_main (map (head_at names) (drop (i + 1) ds))) e)

  module _ (heads : List Head) (old : List (List ℕ)) (x : DefinitionParts) (has : HasParts names d x) (at : Option Place) (fault : at ≡ or_else (head_fault names old x) (body_names (scope_in heads (head_at names d)) (map (flaws names) x.body.now))) (r : Option Place) (so_far : names_walk names heads old (drop i ds) ≡ r) where
    walk : r ≡ or_else at (names_walk names heads (old ++ (head_at names d).name ∷ []) (drop (i + 1) ds))
    walk =
        sym so_far
        ∙ ap (names_walk names heads old) left
        ∙ ap (λ z. or_else z (names_walk names heads (old ++ (head_at names d).name ∷ []) (drop (i + 1) ds))) (has.fault_is heads old ∙ sym fault)

    pub walk_found : (p : Place) → at ≡ Some p → Some p ≡ r
    walk_found p e = sym (walk ∙ ap (λ z. or_else z (names_walk names heads (old ++ (head_at names d).name ∷ []) (drop (i + 1) ds))) e)

    pub walk_passed : (new : List (List ℕ)) → at ≡ None → new ≡ old ++ x.name.now ∷ [] → names_walk names heads new (drop (i + 1) ds) ≡ r
    walk_passed new e more =
        ap (λ z. names_walk names heads z (drop (i + 1) ds)) (more ∙ ap (λ z. old ++ z ∷ []) (sym has.name))
        ∙ sym (walk ∙ ap (λ z. or_else z (names_walk names heads (old ++ (head_at names d).name ∷ []) (drop (i + 1) ds))) e)

pub walk_ended : (names : List (List ℕ)) (ds : List Datum) (i : ℕ) (heads : List Head) (defined : List (List ℕ)) (r : Option Place) → length ds ≤ i → names_walk names heads defined (drop i ds) ≡ r → None ≡ r
walk_ended names ds i heads defined r behind so_far = ap (names_walk names heads defined) (sym (nil_from_length (drop i ds) (omega (arith, length-drop i ds)))) ∙ so_far

pub no_heads : (names : List (List ℕ)) (ds : List Datum) (i : ℕ) → length ds ≤ i → HaveHeads names (drop i ds)
no_heads names ds i behind = subst (HaveHeads names) (sym (nil_from_length (drop i ds) (omega (arith, length-drop i ds)))) (record { are = refl })

-- ---- main

no_parameters-length : (ps : List (List ℕ)) → nat_eq (length ps) 0 ≡ no_parameters ps
no_parameters-length [] = refl
no_parameters-length (p ∷ ps) = eqb-suc-zero (length ps)

pub main_is : (names : List (List ℕ)) (h : Head) (x : DefinitionParts) → IsHeadOf names h x → (bytes_eq x.name.now (codes "main") && nat_eq (length x.parameters.now) 0) ≡ is_main h
main_is names h x is = (λ i. bytes_eq (sym is.name i) (codes "main") && nat_eq (length-parameters names h x is i) 0) ∙ ap (λ b. bytes_eq h.name (codes "main") && b) (no_parameters-length h.parameters)

-- ---- all forms

walk_is : (names : List (List ℕ)) (heads : List Head) (defined : List (List ℕ)) (ds : List Datum) → names_from names heads defined (map (head_at names) ds) ds ≡ names_walk names heads defined ds
walk_is names heads defined [] = refl
walk_is names heads defined (d ∷ ds) = ap (or_else ((flaws names d).definition_names heads defined)) (walk_is names heads (defined ++ (head_at names d).name ∷ []) ds)

abbrev checked : List (List ℕ) → List Datum → Option Place
checked names ds = or_else (names_walk names (map (head_at names) ds) [] ds) (if list_any is_main (map (head_at names) ds) then None else Some start_place)

no_text_fault : (ds : List Datum) → (length ds == 0) ≡ false → text_fault ds ≡ None
no_text_fault [] some = absurd cc
no_text_fault (d ∷ ds) some = refl

module _ (names : List (List ℕ)) (ds : List Datum) (some : (length ds == 0) ≡ false) where
  after_text : fault_of names ds ≡ or_else (shapes_fault names ds) (or_else (names_fault names (heads_of names ds) ds) (main_fault (heads_of names ds)))
  after_text = ap (λ z. or_else z (or_else (shapes_fault names ds) (or_else (names_fault names (heads_of names ds) ds) (main_fault (heads_of names ds))))) (no_text_fault ds some)

  pub shape_fault : (p : Place) → Some p ≡ shapes_fault names ds → Some p ≡ fault_of names ds
  shape_fault p e = sym (after_text ∙ ap (λ z. or_else z (or_else (names_fault names (heads_of names ds) ds) (main_fault (heads_of names ds)))) (sym e))

  after_shapes : shapes_fault names ds ≡ None → HaveHeads names ds → fault_of names ds ≡ checked names ds
  after_shapes none heads =
      after_text
      ∙ ap (λ z. or_else z (or_else (names_fault names (heads_of names ds) ds) (main_fault (heads_of names ds)))) none
      ∙ ap (λ z. or_else (names_fault names z ds) (main_fault z)) heads.are
      ∙ ap (λ z. or_else z (main_fault (Some (map (head_at names) ds)))) (walk_is names (map (head_at names) ds) [] ds)

  pub name_fault : shapes_fault names ds ≡ None → HaveHeads names ds → (p : Place) → Some p ≡ names_walk names (map (head_at names) ds) [] ds → Some p ≡ fault_of names ds
  name_fault none heads p e = sym (after_shapes none heads ∙ ap (λ z. or_else z (if list_any is_main (map (head_at names) ds) then None else Some start_place)) (sym e))

  pub last_fault : shapes_fault names ds ≡ None → HaveHeads names ds → None ≡ names_walk names (map (head_at names) ds) [] ds → (b : Bool) → b ≡ list_any is_main (map (head_at names) ds) → (if b then None else Some start_place) ≡ fault_of names ds
  last_fault none heads e b main =
      ap (λ z. if z then None else Some start_place) main
      ∙ sym (after_shapes none heads ∙ ap (λ z. or_else z (if list_any is_main (map (head_at names) ds) then None else Some start_place)) (sym e))
