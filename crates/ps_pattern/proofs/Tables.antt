-- Tables of keys over an index set.
-- For: Keys
use Rattle.std.proofs.Common.{◌≡◌, ℕ, ◌+◌, List, [], ◌∷◌, ◌++◌, map, drop, refl, ap, sym, ◌∙◌, Bool, true, false, not, cond, ◌||◌, Option, Some, None}
use Rattle.std.proofs.Common.{Vec, Global}
use Rattle.std.specs.Prelude.{if◌then◌else◌, slice_get}
use Rattle.std.specs.List.{list_any, position_or_len, position}
use Rattle.std.specs.Str.{bytes_eq}
use Rattle.std.proofs.lemmas.List.{length-map, map-append}
use Rattle.ps_pattern.specs.declared.syntax.Ident.{Ident}
use Rattle.ps_pattern.specs.declared.variables.Var.{Var}
use Rattle.ps_pattern.specs.Compiling.{table_of}
use Rattle.ps_pattern.proofs.Rests.{drop_at}
use Rattle.ps_pattern.specs.Identifiers.{Keys, stands, place_of, with_key, key, all_keys}

abbrev pub items_of : List (Vec ℕ Global) → Keys
items_of keys = map (λ k. k.items) keys

pub stands_is : (keys : List (Vec ℕ Global)) (w : List ℕ) → list_any (λ k. bytes_eq w k.items) keys ≡ stands (items_of keys) w
stands_is [] w = refl
stands_is (k ∷ keys) w = ap (λ b. bytes_eq w k.items || b) (stands_is keys w)

steps_are : (keys : List (Vec ℕ Global)) (w : List ℕ) → position_or_len (λ k. bytes_eq w k.items) keys ≡ position_or_len (λ k. bytes_eq w k) (items_of keys)
steps_are [] w = refl
steps_are (k ∷ keys) w = ap (λ n. cond (not (bytes_eq w k.items)) (1 + n) 0) (steps_are keys w)

pub place_is : (keys : List (Vec ℕ Global)) (w : List ℕ) → position (λ k. bytes_eq w k.items) keys ≡ place_of (items_of keys) w
place_is keys w = search (steps_are keys w, length-map keys (λ k. k.items))

pub added_is : (keys : List (Vec ℕ Global)) (k : Vec ℕ Global) (there : Bool) → list_any (λ x. bytes_eq k.items x.items) keys ≡ there → items_of (if there then keys else keys ++ k ∷ []) ≡ with_key (items_of keys) k.items
added_is keys k true e = ap (λ b. if b then items_of keys else items_of keys ++ k.items ∷ []) (sym e ∙ stands_is keys k.items)
added_is keys k false e = map-append (λ x. x.items) keys (k ∷ []) ∙ ap (λ b. if b then items_of keys else items_of keys ++ k.items ∷ []) (sym e ∙ stands_is keys k.items)

-- one identifier more
pub keys_next : (keys new all : Keys) (ids : List Ident) (i : ℕ) (id : Ident) → slice_get ids i ≡ Some id → all ≡ all_keys keys (drop i ids) → new ≡ with_key keys (key id) → all ≡ all_keys new (drop (i + 1) ids)
keys_next keys new all ids i id e inv is = inv ∙ ap (all_keys keys) (drop_at ids i id e) ∙ ap (λ z. all_keys z (drop (i + 1) ids)) (sym is)

abbrev chosen : Bool → Keys → Var → List Var → Option Keys
chosen there keys v vs = if there then None else table_of (keys ++ key v.id ∷ []) vs

not_there : (there new : Bool) → new ≡ not there → new ≡ true → there ≡ false
not_there true new e h = absurd cc
not_there false new e h = refl

there_is : (there new : Bool) → new ≡ not there → new ≡ false → there ≡ true
there_is true new e h = refl
there_is false new e h = absurd cc

-- one variable more
pub table_next : (keys new : Keys) (all : Option Keys) (vars : List Var) (i : ℕ) (v : Var) (told : Bool) → slice_get vars i ≡ Some v → all ≡ table_of keys (drop i vars) → told ≡ not (stands keys (key v.id)) → told ≡ true → new ≡ with_key keys (key v.id) → all ≡ table_of new (drop (i + 1) vars)
table_next keys new all vars i v told e inv is so added =
    let absent : stands keys (key v.id) ≡ false = not_there (stands keys (key v.id)) told is so in
    inv ∙ ap (table_of keys) (drop_at vars i v e) ∙ ap (λ b. chosen b keys v (drop (i + 1) vars)) absent ∙ ap (λ z. table_of z (drop (i + 1) vars)) (sym (added ∙ ap (λ b. if b then keys else keys ++ key v.id ∷ []) absent))

pub table_none : (keys : Keys) (all : Option Keys) (vars : List Var) (i : ℕ) (v : Var) (told : Bool) → slice_get vars i ≡ Some v → all ≡ table_of keys (drop i vars) → told ≡ not (stands keys (key v.id)) → told ≡ false → all ≡ None
table_none keys all vars i v told e inv is lacks =
    inv ∙ ap (table_of keys) (drop_at vars i v e) ∙ ap (λ b. chosen b keys v (drop (i + 1) vars)) (there_is (stands keys (key v.id)) told is lacks)
