-- The table of a walk tells which locals have been met, and which of them are in scope.
-- For: `is_right`
use Rattle.std.proofs.Common.{◌≡◌, length, get_or, drop, drop-cons, ℕ, suc, ◌+◌, ◌<◌, ◌≤◌, Bool, true, false, List, [], ◌∷◌, Option, Some, None, refl, sym, ap, ◌∙◌, arith}
use Rattle.std.specs.Prelude.{◌==◌, ◌&&◌, ◌||◌, if◌then◌else◌, nat_lt}
use Rattle.std.specs.Ordering.{nat_cmp, is_eq, match_ordering}
use Rattle.std.specs.BTreeMap.{insert_entry, is_at}
use Rattle.std.specs.declared.cmp.Ordering.TheVariants.{Less, Equal, Greater}
use Rattle.std.proofs.lemmas.Bool.{and_parts, and_from, eqb-true, eqb-false, ltb-true}
use Rattle.ps_prims.specs.Once.{times}
use Rattle.ps_kernel.specs.Lists.{stands_in}
use Rattle.ps_kernel.specs.Texts.{bound}
use Rattle.ps_kernel.specs.Marks.{BindsParameter, BindsLet, BindsEntry, Mentions, Sets}
use Rattle.ps_kernel.specs.InsideSteps.{Step, Passes, Closes, passed, without, is_scoped}
use Rattle.ps_kernel.specs.InsideWalks.{has_none, entry_of, is_none, is_some_true, closed}
use Rattle.ps_kernel.proofs.FlagsTellOnce.{times_same}

abbrev pub Table : Type 0
Table = List (ℕ × Bool)

-- ---- entries

at_key : (y z : ℕ) → is_at (nat_cmp y) z ≡ (y == z)
at_key y z = by (nat_lt y z) (y == z) refl refl
  where
    by : (a b : Bool) → nat_lt y z ≡ a → (y == z) ≡ b → is_eq (if a then Less else (if b then Equal else Greater)) ≡ b
    by true true l e = let lt : y < z = ltb-true y z l in let is : y ≡ z = eqb-true y z e in absurd (omega arith)
    by true false l e = refl
    by false true l e = refl
    by false false l e = refl

first_entry : (y z : ℕ) (v : Bool) (es : Table) → entry_of ((z, v) ∷ es) y ≡ (if y == z then Some v else entry_of es y)
first_entry y z v es = ap (λ (b : Bool). if b then Some v else entry_of es y) (at_key y z)

-- what an entry that was put changes
pub found : (es : Table) (x : ℕ) (v : Bool) (y : ℕ) → entry_of (insert_entry nat_cmp es x v) y ≡ (if y == x then Some v else entry_of es y)
found [] x v y = first_entry y x v []
found (e ∷ es) x v y = by (nat_lt x e.0) (x == e.0) refl (found es x v y)
  where
    swap : (c d : Bool) → (y == e.0) ≡ c → (y == x) ≡ d → (x == e.0) ≡ false → (if c then Some e.1 else (if d then Some v else entry_of es y)) ≡ (if d then Some v else (if c then Some e.1 else entry_of es y))
    swap true true p q n = let is : x ≡ e.0 = sym (eqb-true y x q) ∙ eqb-true y e.0 p in absurd (eqb-false x e.0 n is)
    swap true false p q n = refl
    swap false true p q n = refl
    swap false false p q n = refl

    over : (c : Bool) → (if c then Some v else entry_of es y) ≡ (if c then Some v else (if c then Some e.1 else entry_of es y))
    over true = refl
    over false = refl

    by : (a b : Bool) → (x == e.0) ≡ b → entry_of (insert_entry nat_cmp es x v) y ≡ (if y == x then Some v else entry_of es y)
        → entry_of (match_ordering (if a then Less else (if b then Equal else Greater)) ((x, v) ∷ e ∷ es) ((e.0, v) ∷ es) (e ∷ insert_entry nat_cmp es x v)) y ≡ (if y == x then Some v else entry_of (e ∷ es) y)
    by true b q h = first_entry y x v (e ∷ es)
    by false true q h =
        first_entry y e.0 v es ∙ over (y == e.0) ∙ ap (λ (z : ℕ). if y == z then Some v else (if y == e.0 then Some e.1 else entry_of es y)) (sym (eqb-true x e.0 q)) ∙ ap (λ (o : Option Bool). if y == x then Some v else o) (sym (first_entry y e.0 e.1 es))
    by false false q h =
        first_entry y e.0 e.1 (insert_entry nat_cmp es x v) ∙ ap (λ (o : Option Bool). if y == e.0 then Some e.1 else o) h ∙ swap (y == e.0) (y == x) refl refl q ∙ ap (λ (o : Option Bool). if y == x then Some v else o) (sym (first_entry y e.0 e.1 es))

-- ---- membership

pub in_times : (x : ℕ) (xs : List ℕ) → stands_in x xs ≡ true → 1 ≤ times x xs
in_times x [] h = absurd cc
in_times x (y ∷ ys) h = by (x == y) refl h (in_times x ys)
  where
    by : (b : Bool) → (x == y) ≡ b → (b || stands_in x ys) ≡ true → (stands_in x ys ≡ true → 1 ≤ times x ys) → 1 ≤ (if b then suc (times x ys) else times x ys)
    by true e h rest = omega arith
    by false e h rest = rest h

pub out_times : (x : ℕ) (xs : List ℕ) → stands_in x xs ≡ false → times x xs ≡ 0
out_times x [] h = refl
out_times x (y ∷ ys) h = by (x == y) h (out_times x ys)
  where
    by : (b : Bool) → (b || stands_in x ys) ≡ false → (stands_in x ys ≡ false → times x ys ≡ 0) → (if b then suc (times x ys) else times x ys) ≡ 0
    by true h rest = absurd cc
    by false h rest = rest h

pub without_same : (x y : ℕ) (xs : List ℕ) → (y == x) ≡ true → stands_in y (without x xs) ≡ false
without_same x y [] e = refl
without_same x y (z ∷ zs) e = by (x == z) (y == z) refl refl (without_same x y zs e)
  where
    by : (b d : Bool) → (x == z) ≡ b → (y == z) ≡ d → stands_in y (without x zs) ≡ false → stands_in y (if b then without x zs else z ∷ without x zs) ≡ false
    by true d p q h = h
    by false true p q h = absurd (eqb-false x z p (sym (eqb-true y x e) ∙ eqb-true y z q))
    by false false p q h = ap (λ (b : Bool). b || stands_in y (without x zs)) q ∙ h

pub without_other : (x y : ℕ) (xs : List ℕ) → (y == x) ≡ false → stands_in y (without x xs) ≡ stands_in y xs
without_other x y [] e = refl
without_other x y (z ∷ zs) e = by (x == z) refl (without_other x y zs e)
  where
    by : (b : Bool) → (x == z) ≡ b → stands_in y (without x zs) ≡ stands_in y zs → stands_in y (if b then without x zs else z ∷ without x zs) ≡ (y == z || stands_in y zs)
    by true p h = h ∙ sym (ap (λ (b : Bool). b || stands_in y zs) (ap (λ (w : ℕ). y == w) (sym (eqb-true x z p)) ∙ e))
    by false p h = ap (λ (b : Bool). y == z || b) h

-- ---- what a table tells

abbrev pub told : Bool → Bool → Option Bool
told true seen = Some true
told false true = Some false
told false false = None

pub record Tells (t : Table) (seen scope : List ℕ) : Type 0 where
  pub entry : (x : ℕ) → entry_of t x ≡ told (stands_in x scope) (stands_in x seen)
  pub known : (x : ℕ) → stands_in x scope ≡ true → stands_in x seen ≡ true

pub tells_nothing : Tells [] [] []
tells_nothing = record { entry = λ x. refl; known = λ x h. h }

opens_tells : (t : Table) (seen scope : List ℕ) (x : ℕ) → Tells t seen scope → Tells (insert_entry nat_cmp t x true) (x ∷ seen) (x ∷ scope)
opens_tells t seen scope x h = record {
  entry = λ y. found t x true y ∙ entry y (y == x) (h.entry y);
  known = λ y. known y (y == x) (h.known y);
}
  where
    entry : (y : ℕ) (b : Bool) → entry_of t y ≡ told (stands_in y scope) (stands_in y seen) → (if b then Some true else entry_of t y) ≡ told (b || stands_in y scope) (b || stands_in y seen)
    entry y true e = refl
    entry y false e = e

    known : (y : ℕ) (b : Bool) → (stands_in y scope ≡ true → stands_in y seen ≡ true) → (b || stands_in y scope) ≡ true → (b || stands_in y seen) ≡ true
    known y true f e = refl
    known y false f e = f e

told_none : (a b : Bool) → None ≡ told a b → a ≡ false
told_none true b h = absurd cc
told_none false b h = refl

told_some : (a b v : Bool) → Some v ≡ told a b → (a ≡ true → b ≡ true) → b ≡ true
told_some true b v h k = k refl
told_some false true v h k = refl
told_some false false v h k = absurd cc

closes_tells : (t : Table) (seen scope : List ℕ) (x : ℕ) → Tells t seen scope → Tells (closed t x (entry_of t x)) seen (without x scope)
closes_tells t seen scope x h = record {
  entry = λ y. by y (entry_of t x) (y == x) refl refl;
  known = λ y e. kept y (y == x) refl e;
}
  where
    kept : (y : ℕ) (d : Bool) → (y == x) ≡ d → stands_in y (without x scope) ≡ true → stands_in y seen ≡ true
    kept y true q e = absurd (let z : stands_in y (without x scope) ≡ false = without_same x y scope q in cc)
    kept y false q e = h.known y (sym (without_other x y scope q) ∙ e)

    by : (y : ℕ) (o : Option Bool) (d : Bool) → entry_of t x ≡ o → (y == x) ≡ d → entry_of (closed t x o) y ≡ told (stands_in y (without x scope)) (stands_in y seen)
    by y None true p q =
        let is : y ≡ x = eqb-true y x q in
        let out : stands_in y scope ≡ false = told_none (stands_in y scope) (stands_in y seen) (sym p ∙ ap (entry_of t) (sym is) ∙ h.entry y) in
        h.entry y ∙ ap (λ (b : Bool). told b (stands_in y seen)) (out ∙ sym (without_same x y scope q))
    by y None false p q = h.entry y ∙ ap (λ (b : Bool). told b (stands_in y seen)) (sym (without_other x y scope q))
    by y (Some v) true p q =
        let is : y ≡ x = eqb-true y x q in
        let on : stands_in y seen ≡ true = told_some (stands_in y scope) (stands_in y seen) v (sym p ∙ ap (entry_of t) (sym is) ∙ h.entry y) (h.known y) in
        found t x false y ∙ ap (λ (b : Bool). if b then Some false else entry_of t y) q ∙ sym (ap (λ (b : Bool). told b (stands_in y seen)) (without_same x y scope q) ∙ ap (told false) on)
    by y (Some v) false p q =
        found t x false y ∙ ap (λ (b : Bool). if b then Some false else entry_of t y) q ∙ h.entry y ∙ ap (λ (b : Bool). told b (stands_in y seen)) (sym (without_other x y scope q))

-- ---- a walk over locals

abbrev pub can : Table → Step → Bool
can t (Passes (BindsParameter x)) = is_none (entry_of t x)
can t (Passes (BindsLet x)) = is_none (entry_of t x)
can t (Passes (BindsEntry j)) = is_none (entry_of t j.local)
can t (Passes (Mentions x none)) = is_some_true (entry_of t x)
can t (Passes (Sets x none)) = is_some_true (entry_of t x)
can t m = true

abbrev pub after : Table → Step → Table
after t (Passes (BindsParameter x)) = insert_entry nat_cmp t x true
after t (Passes (BindsLet x)) = insert_entry nat_cmp t x true
after t (Passes (BindsEntry j)) = insert_entry nat_cmp t j.local true
after t (Closes x) = closed t x (entry_of t x)
after t m = t

abbrev pub goes_locals : Table → List Step → Bool
goes_locals t [] = true
goes_locals t (m ∷ ms) = can t m && goes_locals (after t m) ms

told_is_none : (a b : Bool) → is_none (told a b) ≡ true → b ≡ false
told_is_none true b h = absurd cc
told_is_none false true h = absurd cc
told_is_none false false h = refl

told_absent : (a b : Bool) → (a ≡ true → b ≡ true) → b ≡ false → is_none (told a b) ≡ true
told_absent true b k h = absurd (let on : b ≡ true = k refl in cc)
told_absent false true k h = absurd cc
told_absent false false k h = refl

told_is_true : (a b : Bool) → is_some_true (told a b) ≡ a
told_is_true true b = refl
told_is_true false true = refl
told_is_true false false = refl

abbrev pub Fresh : List ℕ → List ℕ → Type 0
Fresh xs seen = (y : ℕ) → times y xs + times y seen ≤ 1

-- one more local that was met
fresh_next : (x : ℕ) (xs seen : List ℕ) → Fresh (x ∷ xs) seen → Fresh xs (x ∷ seen)
fresh_next x xs seen h y = by (y == x) (h y)
  where
    by : (b : Bool) → (if b then suc (times y xs) else times y xs) + times y seen ≤ 1 → times y xs + (if b then suc (times y seen) else times y seen) ≤ 1
    by true e = omega arith
    by false e = e

fresh_back : (x : ℕ) (xs seen : List ℕ) → Fresh xs (x ∷ seen) → Fresh (x ∷ xs) seen
fresh_back x xs seen h y = by (y == x) (h y)
  where
    by : (b : Bool) → times y xs + (if b then suc (times y seen) else times y seen) ≤ 1 → (if b then suc (times y xs) else times y xs) + times y seen ≤ 1
    by true e = omega arith
    by false e = e

-- a walk that may go over all marks finds each local in its region, and no local twice
pub goes_scoped : (t : Table) (seen scope : List ℕ) (ms : List Step) → Tells t seen scope → goes_locals t ms ≡ true → is_scoped scope ms ≡ true
goes_scoped t seen scope [] h g = refl
goes_scoped t seen scope (Passes (BindsParameter x) ∷ ms) h g = goes_scoped (insert_entry nat_cmp t x true) (x ∷ seen) (x ∷ scope) ms (opens_tells t seen scope x h) (and_parts (is_none (entry_of t x)) (goes_locals (insert_entry nat_cmp t x true) ms) g).1
goes_scoped t seen scope (Passes (BindsLet x) ∷ ms) h g = goes_scoped (insert_entry nat_cmp t x true) (x ∷ seen) (x ∷ scope) ms (opens_tells t seen scope x h) (and_parts (is_none (entry_of t x)) (goes_locals (insert_entry nat_cmp t x true) ms) g).1
goes_scoped t seen scope (Passes (BindsEntry j) ∷ ms) h g = goes_scoped (insert_entry nat_cmp t j.local true) (j.local ∷ seen) (j.local ∷ scope) ms (opens_tells t seen scope j.local h) (and_parts (is_none (entry_of t j.local)) (goes_locals (insert_entry nat_cmp t j.local true) ms) g).1
goes_scoped t seen scope (Closes x ∷ ms) h g = goes_scoped (closed t x (entry_of t x)) seen (without x scope) ms (closes_tells t seen scope x h) g
goes_scoped t seen scope (Passes (Mentions x none) ∷ ms) h g =
    let p = and_parts (is_some_true (entry_of t x)) (goes_locals t ms) g in
    and_from (stands_in x scope) (is_scoped scope ms) (sym (told_is_true (stands_in x scope) (stands_in x seen)) ∙ ap is_some_true (sym (h.entry x)) ∙ p.0) (goes_scoped t seen scope ms h p.1)
goes_scoped t seen scope (Passes (Sets x none) ∷ ms) h g =
    let p = and_parts (is_some_true (entry_of t x)) (goes_locals t ms) g in
    and_from (stands_in x scope) (is_scoped scope ms) (sym (told_is_true (stands_in x scope) (stands_in x seen)) ∙ ap is_some_true (sym (h.entry x)) ∙ p.0) (goes_scoped t seen scope ms h p.1)
goes_scoped t seen scope (Passes m ∷ ms) h g = goes_scoped t seen scope ms h g

pub goes_fresh : (t : Table) (seen scope : List ℕ) (ms : List Step) → Tells t seen scope → Fresh [] seen → goes_locals t ms ≡ true → Fresh (bound (passed ms)) seen
goes_fresh t seen scope [] h f g = f
goes_fresh t seen scope (Passes (BindsParameter x) ∷ ms) h f g =
    let p = and_parts (is_none (entry_of t x)) (goes_locals (insert_entry nat_cmp t x true) ms) g in
    let out : stands_in x seen ≡ false = told_is_none (stands_in x scope) (stands_in x seen) (ap is_none (sym (h.entry x)) ∙ p.0) in
    let start : Fresh [] (x ∷ seen) = λ y. by y (y == x) refl (out_times x seen out) (f y) in
    fresh_back x (bound (passed ms)) seen (goes_fresh (insert_entry nat_cmp t x true) (x ∷ seen) (x ∷ scope) ms (opens_tells t seen scope x h) start p.1)
  where
    by : (y : ℕ) (b : Bool) → (y == x) ≡ b → times x seen ≡ 0 → 0 + times y seen ≤ 1 → 0 + (if b then suc (times y seen) else times y seen) ≤ 1
    by y true e z low = let same : times y seen ≡ times x seen = ap (λ (w : ℕ). times w seen) (eqb-true y x e) in omega arith
    by y false e z low = low
goes_fresh t seen scope (Passes (BindsLet x) ∷ ms) h f g =
    let p = and_parts (is_none (entry_of t x)) (goes_locals (insert_entry nat_cmp t x true) ms) g in
    let out : stands_in x seen ≡ false = told_is_none (stands_in x scope) (stands_in x seen) (ap is_none (sym (h.entry x)) ∙ p.0) in
    let start : Fresh [] (x ∷ seen) = λ y. by y (y == x) refl (out_times x seen out) (f y) in
    fresh_back x (bound (passed ms)) seen (goes_fresh (insert_entry nat_cmp t x true) (x ∷ seen) (x ∷ scope) ms (opens_tells t seen scope x h) start p.1)
  where
    by : (y : ℕ) (b : Bool) → (y == x) ≡ b → times x seen ≡ 0 → 0 + times y seen ≤ 1 → 0 + (if b then suc (times y seen) else times y seen) ≤ 1
    by y true e z low = let same : times y seen ≡ times x seen = ap (λ (w : ℕ). times w seen) (eqb-true y x e) in omega arith
    by y false e z low = low
goes_fresh t seen scope (Passes (BindsEntry j) ∷ ms) h f g =
    let p = and_parts (is_none (entry_of t j.local)) (goes_locals (insert_entry nat_cmp t j.local true) ms) g in
    let out : stands_in j.local seen ≡ false = told_is_none (stands_in j.local scope) (stands_in j.local seen) (ap is_none (sym (h.entry j.local)) ∙ p.0) in
    let start : Fresh [] (j.local ∷ seen) = λ y. by y (y == j.local) refl (out_times j.local seen out) (f y) in
    fresh_back j.local (bound (passed ms)) seen (goes_fresh (insert_entry nat_cmp t j.local true) (j.local ∷ seen) (j.local ∷ scope) ms (opens_tells t seen scope j.local h) start p.1)
  where
    by : (y : ℕ) (b : Bool) → (y == j.local) ≡ b → times j.local seen ≡ 0 → 0 + times y seen ≤ 1 → 0 + (if b then suc (times y seen) else times y seen) ≤ 1
    by y true e z low = let same : times y seen ≡ times j.local seen = ap (λ (w : ℕ). times w seen) (eqb-true y j.local e) in omega arith
    by y false e z low = low
goes_fresh t seen scope (Closes x ∷ ms) h f g = goes_fresh (closed t x (entry_of t x)) seen (without x scope) ms (closes_tells t seen scope x h) f g
goes_fresh t seen scope (Passes (Mentions x none) ∷ ms) h f g = goes_fresh t seen scope ms h f (and_parts (is_some_true (entry_of t x)) (goes_locals t ms) g).1
goes_fresh t seen scope (Passes (Sets x none) ∷ ms) h f g = goes_fresh t seen scope ms h f (and_parts (is_some_true (entry_of t x)) (goes_locals t ms) g).1
goes_fresh t seen scope (Passes m ∷ ms) h f g = goes_fresh t seen scope ms h f g

pub goes_from : (t : Table) (seen scope : List ℕ) (ms : List Step) → Tells t seen scope → is_scoped scope ms ≡ true → Fresh (bound (passed ms)) seen → goes_locals t ms ≡ true
goes_from t seen scope [] h s f = refl
goes_from t seen scope (Passes (BindsParameter x) ∷ ms) h s f =
    let low : times x (x ∷ bound (passed ms)) + times x seen ≤ 1 = f x in
    let one : times x (x ∷ bound (passed ms)) ≡ suc (times x (bound (passed ms))) = times_same x x (bound (passed ms)) refl in
    let out : stands_in x seen ≡ false = gone (stands_in x seen) refl low one in
    and_from (is_none (entry_of t x)) (goes_locals (insert_entry nat_cmp t x true) ms) (ap is_none (h.entry x) ∙ told_absent (stands_in x scope) (stands_in x seen) (h.known x) out)
    (goes_from (insert_entry nat_cmp t x true) (x ∷ seen) (x ∷ scope) ms (opens_tells t seen scope x h) s (fresh_next x (bound (passed ms)) seen f))
  where
    gone : (b : Bool) → stands_in x seen ≡ b → times x (x ∷ bound (passed ms)) + times x seen ≤ 1 → times x (x ∷ bound (passed ms)) ≡ suc (times x (bound (passed ms))) → b ≡ false
    gone true e low one = let more : 1 ≤ times x seen = in_times x seen e in absurd (omega arith)
    gone false e low one = refl
goes_from t seen scope (Passes (BindsLet x) ∷ ms) h s f =
    let low : times x (x ∷ bound (passed ms)) + times x seen ≤ 1 = f x in
    let one : times x (x ∷ bound (passed ms)) ≡ suc (times x (bound (passed ms))) = times_same x x (bound (passed ms)) refl in
    let out : stands_in x seen ≡ false = gone (stands_in x seen) refl low one in
    and_from (is_none (entry_of t x)) (goes_locals (insert_entry nat_cmp t x true) ms) (ap is_none (h.entry x) ∙ told_absent (stands_in x scope) (stands_in x seen) (h.known x) out)
    (goes_from (insert_entry nat_cmp t x true) (x ∷ seen) (x ∷ scope) ms (opens_tells t seen scope x h) s (fresh_next x (bound (passed ms)) seen f))
  where
    gone : (b : Bool) → stands_in x seen ≡ b → times x (x ∷ bound (passed ms)) + times x seen ≤ 1 → times x (x ∷ bound (passed ms)) ≡ suc (times x (bound (passed ms))) → b ≡ false
    gone true e low one = let more : 1 ≤ times x seen = in_times x seen e in absurd (omega arith)
    gone false e low one = refl
goes_from t seen scope (Passes (BindsEntry j) ∷ ms) h s f =
    let low : times j.local (j.local ∷ bound (passed ms)) + times j.local seen ≤ 1 = f j.local in
    let one : times j.local (j.local ∷ bound (passed ms)) ≡ suc (times j.local (bound (passed ms))) = times_same j.local j.local (bound (passed ms)) refl in
    let out : stands_in j.local seen ≡ false = gone (stands_in j.local seen) refl low one in
    and_from (is_none (entry_of t j.local)) (goes_locals (insert_entry nat_cmp t j.local true) ms) (ap is_none (h.entry j.local) ∙ told_absent (stands_in j.local scope) (stands_in j.local seen) (h.known j.local) out)
    (goes_from (insert_entry nat_cmp t j.local true) (j.local ∷ seen) (j.local ∷ scope) ms (opens_tells t seen scope j.local h) s (fresh_next j.local (bound (passed ms)) seen f))
  where
    gone : (b : Bool) → stands_in j.local seen ≡ b → times j.local (j.local ∷ bound (passed ms)) + times j.local seen ≤ 1 → times j.local (j.local ∷ bound (passed ms)) ≡ suc (times j.local (bound (passed ms))) → b ≡ false
    gone true e low one = let more : 1 ≤ times j.local seen = in_times j.local seen e in absurd (omega arith)
    gone false e low one = refl
goes_from t seen scope (Closes x ∷ ms) h s f = goes_from (closed t x (entry_of t x)) seen (without x scope) ms (closes_tells t seen scope x h) s f
goes_from t seen scope (Passes (Mentions x none) ∷ ms) h s f =
    let p = and_parts (stands_in x scope) (is_scoped scope ms) s in
    and_from (is_some_true (entry_of t x)) (goes_locals t ms) (ap is_some_true (h.entry x) ∙ told_is_true (stands_in x scope) (stands_in x seen) ∙ p.0) (goes_from t seen scope ms h p.1 f)
goes_from t seen scope (Passes (Sets x none) ∷ ms) h s f =
    let p = and_parts (stands_in x scope) (is_scoped scope ms) s in
    and_from (is_some_true (entry_of t x)) (goes_locals t ms) (ap is_some_true (h.entry x) ∙ told_is_true (stands_in x scope) (stands_in x seen) ∙ p.0) (goes_from t seen scope ms h p.1 f)
goes_from t seen scope (Passes m ∷ ms) h s f = goes_from t seen scope ms h s f

-- ---- a table that has none of some numbers

none_first : (t : Table) (xs : List ℕ) (i : ℕ) → i < length xs → has_none t (drop i xs) ≡ (is_none (entry_of t (get_or xs i 0)) && has_none t (drop (i + 1) xs))
none_first t xs i lt = let e = drop-cons xs i 0 lt in ap (has_none t) e ∙ ap (λ (j : ℕ). is_none (entry_of t (get_or xs i 0)) && has_none t (drop j xs)) (let f : suc i ≡ i + 1 = omega arith in f)

pub has_one : (t : Table) (xs : List ℕ) (i : ℕ) (o : Option Bool) (b : Bool) → i < length xs → o ≡ entry_of t (get_or xs i 0) → o ≡ Some b → has_none t (drop i xs) ≡ has_none t xs → false ≡ has_none t xs
has_one t xs i o b lt e s h = sym (ap (λ (d : Bool). d && has_none t (drop (i + 1) xs)) (ap is_none (sym e ∙ s))) ∙ sym (none_first t xs i lt) ∙ h

pub has_none_yet : (t : Table) (xs : List ℕ) (i : ℕ) (o : Option Bool) → i < length xs → o ≡ entry_of t (get_or xs i 0) → o ≡ None → has_none t (drop i xs) ≡ has_none t xs → has_none t (drop (i + 1) xs) ≡ has_none t xs
has_none_yet t xs i o lt e n h = sym (ap (λ (d : Bool). d && has_none t (drop (i + 1) xs)) (ap is_none (sym e ∙ n))) ∙ sym (none_first t xs i lt) ∙ h
