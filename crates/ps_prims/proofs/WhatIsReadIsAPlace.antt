-- A place where something is read is a place of its block.
-- For: found_string_ref, found_vector_ref, change_cell
use Rattle.std.proofs.Common.{◌≡◌, ℕ, ℤ, pos, negsuc, ◌≤◌, List, drop, length, Bool, true, false, Option, Some, None, Result, Ok, Err, refl, sym, ap, ◌∙◌, arith}
use Rattle.std.specs.Prelude.{if◌then◌else◌}
use Rattle.std.proofs.lemmas.Bool.{le-leb}
use Rattle.std.proofs.lemmas.Option.{slice_get_within}
use Rattle.ps_base.specs.declared.faults.Op.{Op}
use Rattle.ps_base.specs.declared.faults.Op.TheVariants as ops
use Rattle.byte_store.specs.declared.pointer.Pointer.{Pointer}
use Rattle.byte_store.specs.Blocks.{Block, Bytes, Cells, Freed, Memory, member, rest, located}
use Rattle.byte_store.specs.Operations.{and_then, inside, set, byte_at, cell_at, place_at, look, plus, moved, load, get, text_at, text_length, is_index}
use Rattle.ps_prims.specs.Rows.{char_of}
use Rattle.ps_base.proofs.Choices.{err_ok, none_some}

-- a member has a place
rest_of_member : {A : Type 0} (xs : List A) (at : ℤ) (x : A) → member xs at ≡ Some x → (ys : List A) × (rest xs at ≡ Some ys)
rest_of_member xs (pos k) x is =
    let within : k ≤ length xs = omega (arith, slice_get_within xs k x is) in
    (drop k xs, ap (λ b. if b then Some (drop k xs) else None) (le-leb _ _ within))
rest_of_member xs (negsuc k) x is = none_some is

abbrev placed : {A : Type 0} → Option (List A) → ℤ → Result ℤ Op
placed r at = and_then (inside r) (λ ys. Ok at)

set_place : {A B : Type 0} (xs : List (Option A)) (at : ℤ) (f : A → Result B Op) (b : B) → and_then (inside (member xs at)) (λ o. and_then (set o) f) ≡ Ok b → placed (rest xs at) at ≡ Ok at
set_place {A} {B} xs at f b is = go (member xs at) refl is
  where
    go : (o : Option (Option A)) → member xs at ≡ o → and_then (inside o) (λ o. and_then (set o) f) ≡ Ok b → placed (rest xs at) at ≡ Ok at
    go None e h = err_ok h
    go (Some x) e h = let r = rest_of_member xs at x e in ap (λ t. placed t at) r.1

-- the same of what is read without more
set_place_only : {A : Type 0} (xs : List (Option A)) (at : ℤ) (b : A) → and_then (inside (member xs at)) (λ o. set o) ≡ Ok b → placed (rest xs at) at ≡ Ok at
set_place_only {A} xs at b is = go (member xs at) refl is
  where
    go : (o : Option (Option A)) → member xs at ≡ o → and_then (inside o) (λ o. set o) ≡ Ok b → placed (rest xs at) at ≡ Ok at
    go None e h = err_ok h
    go (Some x) e h = let r = rest_of_member xs at x e in ap (λ t. placed t at) r.1

and_then_ok : {A B : Type 0} (r : Result A Op) (f : A → Result B Op) (b : B) → and_then r f ≡ Ok b → (a : A) × (r ≡ Ok a) × (f a ≡ Ok b)
and_then_ok (Ok a) f b is = (a, refl, is)
and_then_ok (Err op) f b is = err_ok is

abbrev IsSame : Pointer → Pointer → Type 0
IsSame a b = ◌≡◌ {A = Result Pointer Op} (Ok a) (Ok b)

module _ {C : Type 0} where
  byte_place : (b : Block C) (at n : ℤ) → byte_at b at ≡ Ok n → place_at b at ≡ Ok at
  byte_place (Bytes bytes) at n is = set_place bytes at (λ n. Ok (pos n)) n is
  byte_place (Cells cells) at n is = err_ok is
  byte_place (Freed k) at n is = err_ok is

  cell_place : (b : Block C) (at : ℤ) (c : C) → cell_at b at ≡ Ok c → place_at b at ≡ Ok at
  cell_place (Bytes bytes) at c is = err_ok is
  cell_place (Cells cells) at c is = set_place_only cells at c is
  cell_place (Freed k) at c is = err_ok is

  -- so that a pointer may be moved to it
  moved_ok : {X : Type 0} (f : Block C → ℤ → Result X Op) → ((b : Block C) (at : ℤ) (x : X) → f b at ≡ Ok x → place_at b at ≡ Ok at) → (m : Memory C) (p : Pointer) (k : ℤ) (x : X) → look m (plus p k) f ≡ Ok x → moved m p k ≡ Ok (plus p k)
  moved_ok {X} f place m p k x is = go (located m (plus p k)) is
    where
      go : (l : Option (Block C × ℤ)) → and_then (inside l) (λ at. f at.0 at.1) ≡ Ok x → and_then (and_then (inside l) (λ at. place_at at.0 at.1)) (λ at. Ok (plus p k)) ≡ Ok (plus p k)
      go None h = err_ok h
      go (Some at) h = ap (λ r. and_then r (λ at. Ok (plus p k))) (place at.0 at.1 x h)

  -- where it is moved, it is so much further on
  pub moved_is_plus : (m : Memory C) (p : Pointer) (k : ℤ) (q : Pointer) → moved m p k ≡ Ok q → q ≡ plus p k
  moved_is_plus m p k q is = let a = and_then_ok (look m (plus p k) place_at) (λ at. Ok (plus p k)) q is in same_ok a.2
    where
      same_ok : {a b : Pointer} → IsSame a b → b ≡ a
      same_ok {a} {b} e = let same : IsSame a b = e in cc

  pub get_is_further : (m : Memory C) (p : Pointer) (k : ℤ) (c : C) (op : Op) → get m p k ≡ Ok c → moved m p k ≡ Err op → get m p k ≡ Err op
  get_is_further m p k c op is not = err_ok (sym not ∙ moved_ok cell_at cell_place m p k c is)

  text_place : (m : Memory C) (p : Pointer) (k n : ℤ) → text_at m p k ≡ Ok n → moved m p k ≡ Ok (plus p k)
  text_place m p k n is = let l = and_then_ok (text_length m p) (λ l. if is_index k l then load m (plus p k) else Err ops.Bounds) n is in go (is_index k l.0) l.2
    where
      go : (b : Bool) → (if b then load m (plus p k) else Err ops.Bounds) ≡ Ok n → moved m p k ≡ Ok (plus p k)
      go true h = moved_ok byte_at byte_place m p k n h
      go false h = err_ok h

  pub text_is_further : (m : Memory C) (p : Pointer) (k : ℤ) (c : ℕ) (op : Op) → and_then (text_at m p k) char_of ≡ Ok c → moved m p k ≡ Err op → and_then (text_at m p k) char_of ≡ Err op
  text_is_further m p k c op is not = let t = and_then_ok (text_at m p k) char_of c is in err_ok (sym not ∙ text_place m p k t.0 t.1)
