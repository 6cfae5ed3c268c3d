-- Identifiers that are all different, found one by one.
-- For: are_distinct, table_of, indices_in, operands_in, record_behind
use Rattle.std.proofs.Common.{◌≡◌, ℕ, suc, ◌+◌, List, [], ◌∷◌, ◌++◌, map, drop, refl, ap, sym, ◌∙◌, Bool, true, false, not, ◌&&◌, Option, Some, None, zero, append_assoc, append-nil}
use Rattle.std.specs.Prelude.{if◌then◌else◌, slice_get}
use Rattle.ps_pattern.specs.declared.syntax.Ident.{Ident}
use Rattle.ps_pattern.specs.Identifiers.{Keys, key, stands, with_key, all_keys}
use Rattle.std.specs.Option.{option_and_then}
use Rattle.ps_pattern.proofs.Rests.{drop_at, some_is}
use Rattle.ps_derived.specs.Distinct.{none_twice, are_distinct}
use Rattle.ps_derived.specs.Forms.{when}
use Rattle.ps_derived.specs.PartsOf.{FieldOf}
use Rattle.ps_derived.specs.Records.{field_names, if_fields_different, indices_in, is_whole, operands_in}

not_there : (there new : Bool) → new ≡ not there → new ≡ true → there ≡ false
not_there true new e h = absurd cc
not_there false new e h = refl

there_is : (there new : Bool) → new ≡ not there → new ≡ false → there ≡ true
there_is true new e h = refl
there_is false new e h = absurd cc

abbrev after : Bool → Keys → Ident → List Ident → Bool
after there keys id ids = not there && none_twice (keys ++ key id ∷ []) ids

-- one identifier more
pub next : (keys new : Keys) (all : Bool) (ids : List Ident) (i : ℕ) (id : Ident) (told : Bool) → slice_get ids i ≡ Some id → all ≡ none_twice keys (drop i ids) → told ≡ not (stands keys (key id)) → told ≡ true → new ≡ with_key keys (key id) → all ≡ none_twice new (drop (i + 1) ids)
next keys new all ids i id told e inv is so added =
    let absent : stands keys (key id) ≡ false = not_there (stands keys (key id)) told is so in
    inv ∙ ap (none_twice keys) (drop_at ids i id e) ∙ ap (λ b. after b keys id (drop (i + 1) ids)) absent ∙ ap (λ z. none_twice z (drop (i + 1) ids)) (sym (added ∙ ap (λ b. if b then keys else keys ++ key id ∷ []) absent))

pub twice : (keys : Keys) (all : Bool) (ids : List Ident) (i : ℕ) (id : Ident) (told : Bool) → slice_get ids i ≡ Some id → all ≡ none_twice keys (drop i ids) → told ≡ not (stands keys (key id)) → told ≡ false → all ≡ false
twice keys all ids i id told e inv is lacks =
    inv ∙ ap (none_twice keys) (drop_at ids i id e) ∙ ap (λ b. after b keys id (drop (i + 1) ids)) (there_is (stands keys (key id)) told is lacks)

first : (a b : Bool) → (not a && b) ≡ true → a ≡ false
first true b e = absurd cc
first false b e = refl

second : (a b : Bool) → (not a && b) ≡ true → b ≡ true
second true b e = absurd cc
second false b e = e

-- the table of different identifiers has the key of each
pub keys_are : (keys : Keys) (ids : List Ident) → none_twice keys ids ≡ true → all_keys keys ids ≡ keys ++ map key ids
keys_are keys [] e = sym (append-nil keys)
keys_are keys (id ∷ ids) e =
    let absent : stands keys (key id) ≡ false = first (stands keys (key id)) (none_twice (keys ++ key id ∷ []) ids) e in
    ap (λ b. all_keys (if b then keys else keys ++ key id ∷ []) ids) absent ∙ keys_are (keys ++ key id ∷ []) ids (second (stands keys (key id)) (none_twice (keys ++ key id ∷ []) ids) e) ∙ append_assoc keys (key id ∷ []) (map key ids)

-- what stands at a place, seen
pub mapped : {A B : Type 0} (f : A → B) (xs : List A) (i : ℕ) (x : A) → slice_get xs i ≡ Some x → slice_get (map f xs) i ≡ Some (f x)
mapped f [] i x e = absurd cc
mapped f (y ∷ xs) zero x e = ap (λ z. Some (f z)) (some_is e)
mapped f (y ∷ xs) (suc i) x e = mapped f xs i x e

pub operands_are : (names ids : List Ident) (keys : Keys) (whole : Bool) → are_distinct names ≡ true → keys ≡ all_keys [] names → whole ≡ is_whole names ids → whole ≡ true → indices_in keys ids ≡ operands_in names ids
operands_are names ids keys whole distinct is told so =
    ap (λ k. indices_in k ids) (is ∙ keys_are [] names distinct) ∙ sym (ap (λ b. option_and_then (indices_in (map key names)) (when b ids)) (sym told ∙ so))

kept : (b : Bool) (xs ys : List FieldOf) → b ≡ are_distinct (field_names xs) → when b xs ≡ Some ys → are_distinct (field_names ys) ≡ true
kept true xs ys is e = ap (λ z. are_distinct (field_names z)) (sym (some_is e)) ∙ sym is
kept false xs ys is e = absurd cc

-- fields that are taken have different names
pub fields_differ : (x : Option (List FieldOf)) (fs : List FieldOf) → option_and_then if_fields_different x ≡ Some fs → are_distinct (field_names fs) ≡ true
fields_differ None fs e = absurd cc
fields_differ (Some []) fs e = absurd cc
fields_differ (Some (f ∷ gs)) fs e = kept (are_distinct (field_names (f ∷ gs))) (f ∷ gs) fs refl e
