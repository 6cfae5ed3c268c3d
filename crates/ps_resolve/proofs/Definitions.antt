-- Definitions, their heads and their procedures.
-- For: `read_definitions`, `in_order`, `defined` and `procedures`
use Rattle.std.proofs.Common.{◌≡◌, ℕ, suc, ◌+◌, ◌<◌, ◌≤◌, List, [], ◌∷◌, ◌++◌, map, length, take, drop, get_or, Some, zero, refl, ap, ◌∙◌, arith, subst}
use Rattle.std.specs.List.{AllByRecursion}
use Rattle.std.proofs.lemmas.List.{map-append}
use Rattle.ps_base.specs.Names.{AreDistinct, IsNew}
use Rattle.ps_datum.specs.declared.datum.Datum.{Datum}
use Rattle.ps_datum.specs.Weight.{weight, weights}
use Rattle.ps_plain.specs.Forms.{Head, IsHead, part, heads_of, all_some, and_also, procedures_in, scope_in, names_in, arities_in}
use Rattle.ps_plain.proofs.Fine.{fine}
use Rattle.ps_plain.proofs.Lists.{joined}
use Rattle.ps_resolve.specs.declared.definition.Definition.{Definition}
use Rattle.ps_resolve.specs.InsideDefinitions.{AreDefinitions, AreDefinitionsByRecursion, IsDefinition, head_in, heads_in, procedure_at, procedure_among}
use Rattle.ps_resolve.proofs.Options.{around_place}
use Rattle.ps_resolve.proofs.Parameters.{new-in_distinct}

push : (names : List (List ℕ)) (ds : List Datum) (xs : List Definition) (d : Datum) (x : Definition) → AreDefinitionsByRecursion names ds xs → IsDefinition names d x → AreDefinitionsByRecursion names (ds ++ d ∷ []) (xs ++ x ∷ [])
push names [] [] d x all is = (is, tt)
push names [] (y ∷ xs) d x all is = absurd all
push names (e ∷ ds) [] d x all is = absurd all
push names (e ∷ ds) (y ∷ xs) d x all is = (all.0, push names ds xs d x all.1 is)

-- one definition more
pub one_definition : (names : List (List ℕ)) (ds : List Datum) (xs : List Definition) (d : Datum) (x : Definition) → AreDefinitions names ds xs → IsDefinition names d x → AreDefinitions names (ds ++ d ∷ []) (xs ++ x ∷ [])
one_definition names ds xs d x all is = record { each = push names ds xs d x all.each is }

heads_by : (names : List (List ℕ)) (ds : List Datum) (xs : List Definition) → AreDefinitionsByRecursion names ds xs → heads_of names ds ≡ Some (heads_in xs)
heads_by names [] [] all = refl
heads_by names [] (x ∷ xs) all = absurd all
heads_by names (d ∷ ds) [] all = absurd all
heads_by names (d ∷ ds) (x ∷ xs) all = λ i. and_also (all.0.head i) (heads_by names ds xs all.1 i)

are_heads_by : (names : List (List ℕ)) (ds : List Datum) (xs : List Definition) → AreDefinitionsByRecursion names ds xs → AllByRecursion IsHead (heads_in xs)
are_heads_by names [] [] all = tt
are_heads_by names [] (x ∷ xs) all = absurd all
are_heads_by names (d ∷ ds) [] all = absurd all
are_heads_by names (d ∷ ds) (x ∷ xs) all = (all.0.is_head, are_heads_by names ds xs all.1)

procedures_by : (names : List (List ℕ)) (heads : List Head) (ds : List Datum) (xs : List Definition) → AreDefinitionsByRecursion names ds xs → procedures_in names heads (heads_in xs) ds ≡ all_some (map (procedure_among names heads) xs)
procedures_by names heads [] [] all = refl
procedures_by names heads [] (x ∷ xs) all = absurd all
procedures_by names heads (d ∷ ds) [] all = absurd all
procedures_by names heads (d ∷ ds) (x ∷ xs) all = λ i. and_also (all.0.procedure (scope_in heads (head_in x)) i) (procedures_by names heads ds xs all.1 i)

length_by : (names : List (List ℕ)) (ds : List Datum) (xs : List Definition) → AreDefinitionsByRecursion names ds xs → length xs ≡ length ds
length_by names [] [] all = refl
length_by names [] (x ∷ xs) all = absurd all
length_by names (d ∷ ds) [] all = absurd all
length_by names (d ∷ ds) (x ∷ xs) all = ap suc (length_by names ds xs all.1)

module _ (names : List (List ℕ)) (ds : List Datum) (xs : List Definition) (all : AreDefinitions names ds xs) where
  pub heads-of_definitions : heads_of names ds ≡ Some (heads_in xs)
  heads-of_definitions = heads_by names ds xs all.each

  pub are_heads : AllByRecursion IsHead (heads_in xs)
  are_heads = are_heads_by names ds xs all.each

  pub procedures-of_definitions : procedures_in names (heads_in xs) (heads_in xs) ds ≡ all_some (map (procedure_among names (heads_in xs)) xs)
  procedures-of_definitions = procedures_by names (heads_in xs) ds xs all.each

  pub length-definitions : length xs ≡ length ds
  length-definitions = length_by names ds xs all.each

-- a datum has a token
weight_pos : (d : Datum) → 1 ≤ weight d
weight_pos d = (fine [] d).written

pub length-weights : (ds : List Datum) → length ds ≤ weights ds
length-weights [] = omega arith
length-weights (d ∷ ds) = omega (arith, weight_pos d, length-weights ds)

-- heads that are good ones
pub record GoodHeads (names : List (List ℕ)) (ds : List Datum) : Type 0 where
  pub heads : List Head
  pub are : heads_of names ds ≡ Some heads
  pub good : AllByRecursion IsHead heads

first_good : (names : List (List ℕ)) (d : Datum) (ds : List Datum) → GoodHeads names (d ∷ ds) → (h : Head) × ((part names d).head ≡ Some h) × IsHead h × GoodHeads names ds
first_good names d ds all =
    let p = joined (part names d).head (heads_of names ds) all.heads all.are in
    let good = subst (AllByRecursion IsHead) p.is all.good in
    (p.first, p.is_first, good.0, record { heads = p.rest; are = p.is_rest; good = good.1 })

-- one of the data has a good head
pub good-at : (names : List (List ℕ)) (ds : List Datum) (i : ℕ) (d : Datum) → i < length ds → d ≡ get_or ds i d → GoodHeads names ds → (h : Head) × ((part names d).head ≡ Some h) × IsHead h
good-at names [] i d within is all = absurd (omega arith)
good-at names (e ∷ ds) zero d within is all =
    let f = first_good names e ds all in
    (f.0, ap (λ z. (part names z).head) is ∙ f.1, f.2)
good-at names (e ∷ ds) (suc i) d within is all = good-at names ds i d (omega arith) is (first_good names e ds all).3

pub good-parts : (names : List (List ℕ)) (ds es : List Datum) → GoodHeads names (ds ++ es) → GoodHeads names ds × GoodHeads names es
good-parts names [] es all = (record { heads = []; are = refl; good = tt }, all)
good-parts names (d ∷ ds) es all =
    let f = first_good names d (ds ++ es) all in
    let r = good-parts names ds es f.3 in
    (record { heads = f.0 ∷ r.0.heads; are = λ i. and_also (f.1 i) (r.0.are i); good = (f.2, r.0.good) }, r.1)

-- the name of a definition among others is none of those before it
pub new_name : (xs : List Definition) (i : ℕ) (x : Definition) → i < length xs → x ≡ get_or xs i x → AreDistinct (names_in (heads_in xs)) → IsNew (names_in (heads_in (take i xs))) x.name.now
new_name xs i x within is distinct =
    let parts =
    ap names_in (around_place head_in xs i x within is)
    ∙ map-append (λ (h : Head). h.name) (heads_in (take i xs)) (head_in x ∷ heads_in (drop (i + 1) xs)) in
    new-in_distinct (names_in (heads_in (take i xs))) (names_in (heads_in (drop (i + 1) xs))) x.name.now (subst AreDistinct parts distinct)

-- what names stand for in the body of a definition
pub among : (names : List (List ℕ)) (heads : List Head) (x : Definition) (defined : List (List ℕ)) (arities : List ℕ) → defined ≡ names_in heads → arities ≡ arities_in heads → procedure_at names x.place (Some x.number) (record { parameters = x.parameters; procedures = defined; arities = arities }) x.body.now ≡ procedure_among names heads x
among names heads x defined arities e f = λ i. procedure_at names x.place (Some x.number) (record { parameters = x.parameters; procedures = e i; arities = f i }) x.body.now
