-- Blocks are found, replaced and added by their numbers as the code keeps them.
-- For: Store::block, Store::fix, edit_fixed
use Rattle.std.proofs.Common.{◌≡◌, ℕ, suc, ◌+◌, ◌≤◌, ◌<◌, List, [], ◌∷◌, ◌++◌, map, Bool, true, false, cond, Some, refl, sym, ap, ◌∙◌, arith}
use Rattle.std.specs.Prelude.{nat_eq, max, if◌then◌else◌}
use Rattle.std.specs.Option.{option_map}
use Rattle.std.specs.Ordering.{is_eq, nat_cmp}
use Rattle.std.specs.declared.cmp.Ordering.TheVariants.{Greater}
use Rattle.std.specs.Cmp.{unsigned_tied, nat_cmp_is}
use Rattle.std.specs.BTreeMap.{is_at, insert_entry}
use Rattle.std.specs.Map.{lookup, set_value}
use Rattle.std.specs.Ordering.{match_ordering}
use Rattle.std.proofs.Math.Nat.{le-max_left, le-max_right, max-le, le_antisymm}
use Rattle.byte_store.specs.Blocks.{find, replaced, next_number}

-- a number is found where the map finds it
pub find_is : {A B : Type 0} (f : A → B) (n : ℕ) (es : List (ℕ × A)) → option_map f (lookup (is_at (nat_cmp n)) es) ≡ find n (map (λ e. (e.0, f e.1)) es)
find_is f n [] = refl
find_is {A} {B} f n (e ∷ es) = go (nat_eq n e.0) (unsigned_tied n e.0) (find_is f n es)
  where
    go : (b : Bool) → is_eq (nat_cmp n e.0) ≡ b → option_map f (lookup (is_at (nat_cmp n)) es) ≡ find n (map (λ e. (e.0, f e.1)) es) → option_map f (cond (is_eq (nat_cmp n e.0)) (Some e.1) (lookup (is_at (nat_cmp n)) es)) ≡ if b then Some (f e.1) else find n (map (λ e. (e.0, f e.1)) es)
    go true is ih = ap (λ b. option_map f (cond b (Some e.1) (lookup (is_at (nat_cmp n)) es))) is
    go false is ih = ap (λ b. option_map f (cond b (Some e.1) (lookup (is_at (nat_cmp n)) es))) is ∙ ih

-- and is written where the map writes it
pub replaced_is : {A B : Type 0} (f : A → B) (n : ℕ) (w : A) (es : List (ℕ × A)) → map (λ e. (e.0, f e.1)) (set_value (is_at (nat_cmp n)) es w) ≡ replaced n (f w) (map (λ e. (e.0, f e.1)) es)
replaced_is f n w [] = refl
replaced_is {A} {B} f n w (e ∷ es) = go (nat_eq n e.0) (unsigned_tied n e.0) (replaced_is f n w es)
  where
    show : ℕ × A → ℕ × B
    show e = (e.0, f e.1)

    go : (b : Bool) → is_eq (nat_cmp n e.0) ≡ b → map show (set_value (is_at (nat_cmp n)) es w) ≡ replaced n (f w) (map show es) → map show (cond (is_eq (nat_cmp n e.0)) ((e.0, w) ∷ es) (e ∷ set_value (is_at (nat_cmp n)) es w)) ≡ if b then (e.0, f w) ∷ map show es else show e ∷ replaced n (f w) (map show es)
    go true is ih = ap (λ b. map show (cond b ((e.0, w) ∷ es) (e ∷ set_value (is_at (nat_cmp n)) es w))) is
    go false is ih = ap (λ b. map show (cond b ((e.0, w) ∷ es) (e ∷ set_value (is_at (nat_cmp n)) es w))) is ∙ ap (λ l. show e ∷ l) ih

-- no number changes
pub next_stays : {A : Type 0} (n : ℕ) (a : A) (es : List (ℕ × A)) → next_number (replaced n a es) ≡ next_number es
next_stays n a [] = refl
next_stays n a (e ∷ es) = go (nat_eq n e.0) (next_stays n a es)
  where
    go : (b : Bool) → next_number (replaced n a es) ≡ next_number es → next_number (if b then (e.0, a) ∷ es else e ∷ replaced n a es) ≡ next_number (e ∷ es)
    go true ih = refl
    go false ih = ap (λ k. max (suc e.0) k) ih

pub next_shown : {A B : Type 0} (f : A → B) (es : List (ℕ × A)) → next_number (map (λ e. (e.0, f e.1)) es) ≡ next_number es
next_shown f [] = refl
next_shown f (e ∷ es) = ap (λ k. max (suc e.0) k) (next_shown f es)

-- a number above the others comes last
pub inserted_last : {A : Type 0} (n : ℕ) (a : A) (es : List (ℕ × A)) → next_number es ≤ n → insert_entry nat_cmp es n a ≡ es ++ (n, a) ∷ []
inserted_last n a [] above = refl
inserted_last n a (e ∷ es) above =
    let over : e.0 < n = omega (arith, le-max_left (suc e.0) (next_number es), above) in
    let others : next_number es ≤ n = omega (arith, le-max_right (suc e.0) (next_number es), above) in
    ap (λ o. match_ordering o ((n, a) ∷ e ∷ es) ((e.0, a) ∷ es) (e ∷ insert_entry nat_cmp es n a)) (sym (nat_cmp_is n e.0 Greater over)) ∙ ap (λ l. e ∷ l) (inserted_last n a es others)

pub next_after : {A : Type 0} (n : ℕ) (a : A) (es : List (ℕ × A)) → next_number es ≤ n → next_number (es ++ (n, a) ∷ []) ≡ n + 1
next_after n a [] above = max_least n
  where
    max_least : (n : ℕ) → max (suc n) 0 ≡ n + 1
    max_least n = le_antisymm (max-le (omega arith) (omega arith)) (omega (arith, le-max_left (suc n) 0))
next_after n a (e ∷ es) above =
    let others : next_number es ≤ n = omega (arith, le-max_right (suc e.0) (next_number es), above) in
    let head : suc e.0 ≤ n + 1 = omega (arith, le-max_left (suc e.0) (next_number es), above) in
    ap (λ k. max (suc e.0) k) (next_after n a es others) ∙ le_antisymm (max-le head (omega arith)) (le-max_right (suc e.0) (n + 1))
