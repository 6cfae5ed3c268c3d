-- What the tables of groups and of places tell.
-- For: `Members`, `Places`, `reached` and `all_kept`
use Rattle.std.proofs.Common.{◌≡◌, ℕ, suc, ◌+◌, Bool, true, false, cond, List, [], ◌∷◌, ◌++◌, length, Option, Some, None, refl, sym, ap, ◌∙◌, arith}
use Rattle.std.specs.Prelude.{◌==◌, ◌||◌, ◌&&◌, if◌then◌else◌, is_some}
use Rattle.std.specs.Borrow.{Bor}
use Rattle.std.specs.List.{fold}
use Rattle.std.specs.Map.{lookup}
use Rattle.std.specs.BTreeMap.{is_at}
use Rattle.std.specs.Option.{option_copied}
use Rattle.std.specs.Ordering.{nat_cmp}
use Rattle.std.proofs.lemmas.Bool.{eqb-true, eqb-false}
use Rattle.ps_base.specs.declared.faults.Place.{Place}
use Rattle.ps_kernel.specs.declared.expr.GroupEntry.{GroupEntry}
use Rattle.ps_kernel.specs.Captured.{is_entry}
use Rattle.ps_kernel.specs.Lists.{stands_in}
use Rattle.ps_kernel.specs.Marks.{Mark, Node, TooDeep, Stands, BindsParameter, BindsLet, BindsEntry, Mentions, Sets, Reads, Assigns, Quotes, Sequence, Replaces, Performs, Chooses}
use Rattle.ps_kernel.specs.Texts.{group_in}
use Rattle.ps_captured.specs.InsideReading.{Sight, Stood, Bound, Entered, Mentioned, Assigned, seen_in}
use Rattle.ps_captured.specs.InsideTables.{with_local}
use Rattle.ps_captured.specs.InsideKeeping.{Lookup, with_entry, no_entry, at_key, numbers_or, without, GroupOf, group_at, kept_place, with_place, with_sight, no_place, or_none, unmet}
use Rattle.ps_captured.proofs.SetsHold.{at_key as key, holds}

pub same_way : (x y : ℕ) → (x == y) ≡ (y == x)
same_way x y = by (x == y) (y == x) refl refl
  where
    by : (a b : Bool) → (x == y) ≡ a → (y == x) ≡ b → a ≡ b
    by true true p q = refl
    by true false p q = absurd (eqb-false y x q (sym (eqb-true x y p)))
    by false true p q = absurd (eqb-false x y p (sym (eqb-true y x q)))
    by false false p q = refl

-- ---- the table of a group

abbrev Table : Type 0
Table = List (ℕ × List ℕ)

abbrev get : Table → ℕ → Option (List ℕ)
get es x = lookup (is_at (nat_cmp x)) es

pub taken : (x : ℕ) (old new : Table) → ((y : ℕ) → get new y ≡ cond (is_at (nat_cmp x) y) None (get old y)) → at_key new ≡ without (at_key old) x
taken x old new h = λ i y. one y i
  where
    one : (y : ℕ) → at_key new y ≡ without (at_key old) x y
    one y = ap numbers_or (h y) ∙ ap (λ (b : Bool). numbers_or (cond b None (get old y))) (key x y ∙ same_way x y) ∙ by (y == x)
      where
        by : (b : Bool) → numbers_or (cond b None (get old y)) ≡ (if b then [] else at_key old y)
        by true = refl
        by false = refl

pub put_back : (e : GroupEntry) (old mid new : Table) (ns ms : List ℕ) → ns ≡ at_key old e.local → at_key mid ≡ without (at_key old) e.local → ms ≡ ns ++ e.lambda ∷ []
    → ((y : ℕ) → get new y ≡ cond (is_at (nat_cmp e.local) y) (Some ms) (get mid y)) → at_key new ≡ with_entry (at_key old) e
put_back e old mid new ns ms p q r h = λ i y. one y i
  where
    one : (y : ℕ) → at_key new y ≡ with_entry (at_key old) e y
    one y = ap numbers_or (h y) ∙ ap (λ (b : Bool). numbers_or (cond b (Some ms) (get mid y))) (key e.local y ∙ same_way e.local y) ∙ by (y == e.local) refl
      where
        by : (b : Bool) → (y == e.local) ≡ b → numbers_or (cond b (Some ms) (get mid y)) ≡ (if b then at_key old y ++ e.lambda ∷ [] else at_key old y)
        by true is = r ∙ ap (λ (zs : List ℕ). zs ++ e.lambda ∷ []) (p ∙ ap (at_key old) (sym (eqb-true y e.local is)))
        by false is = ap (λ (f : Lookup). f y) q ∙ ap (λ (b : Bool). if b then [] else at_key old y) is

pub in_both : (n : ℕ) (xs ys : List ℕ) → stands_in n (xs ++ ys) ≡ (stands_in n xs || stands_in n ys)
in_both n [] ys = refl
in_both n (x ∷ xs) ys = ap (λ (b : Bool). (n == x) || b) (in_both n xs ys) ∙ three (n == x) (stands_in n xs) (stands_in n ys)
  where
    three : (a b c : Bool) → (a || (b || c)) ≡ ((a || b) || c)
    three true b c = refl
    three false b c = refl

-- the lambdas of a local are those of its entries
pub has_entries : (f : Lookup) (g : List GroupEntry) (x n : ℕ) → stands_in n (fold with_entry f g x) ≡ (stands_in n (f x) || is_entry x n g)
has_entries f [] x n = or_false (stands_in n (f x))
  where
    or_false : (b : Bool) → b ≡ (b || false)
    or_false true = refl
    or_false false = refl
has_entries f (e ∷ g) x n = has_entries (with_entry f e) g x n ∙ ap (λ (b : Bool). b || is_entry x n g) (by (x == e.local)) ∙ three (stands_in n (f x)) ((x == e.local) && (n == e.lambda)) (is_entry x n g)
  where
    three : (a b c : Bool) → ((a || b) || c) ≡ (a || (b || c))
    three true b c = refl
    three false b c = refl

    last : (a : Bool) → (a || false) ≡ a
    last true = refl
    last false = refl

    plain : (a : Bool) → a ≡ (a || false)
    plain true = refl
    plain false = refl

    by : (b : Bool) → stands_in n (if b then f x ++ e.lambda ∷ [] else f x) ≡ (stands_in n (f x) || (b && (n == e.lambda)))
    by true = in_both n (f x) (e.lambda ∷ []) ∙ ap (λ (b : Bool). stands_in n (f x) || b) (last (n == e.lambda))
    by false = plain (stands_in n (f x))

-- how many entries have a local
abbrev count : ℕ → List GroupEntry → ℕ
count x [] = 0
count x (e ∷ g) = if x == e.local then suc (count x g) else count x g

length_two : (xs ys : List ℕ) → length (xs ++ ys) ≡ length xs + length ys
length_two [] ys = omega arith
length_two (x ∷ xs) ys = let h : length (xs ++ ys) ≡ length xs + length ys = length_two xs ys in omega (arith, h)

counts : (f : Lookup) (g : List GroupEntry) (x : ℕ) → length (fold with_entry f g x) ≡ length (f x) + count x g
counts f [] x = omega arith
counts f (e ∷ g) x = counts (with_entry f e) g x ∙ by (x == e.local)
  where
    by : (b : Bool) → length (if b then f x ++ e.lambda ∷ [] else f x) + count x g ≡ length (f x) + (if b then suc (count x g) else count x g)
    by true = let h : length (f x ++ e.lambda ∷ []) ≡ length (f x) + 1 = length_two (f x) (e.lambda ∷ []) in omega (arith, h)
    by false = refl

fewer : (x : ℕ) (xs : List ℕ) (g : List GroupEntry) → stands_in x xs ≡ false → unmet g (with_local xs x) + count x g ≡ unmet g xs
fewer x xs [] h = refl
fewer x xs (e ∷ g) h = by (x == e.local) (stands_in e.local xs) refl refl (fewer x xs g h)
  where
    put : stands_in e.local (with_local xs x) ≡ ((x == e.local) || stands_in e.local xs)
    put = holds e.local x xs ∙ ap (λ (b : Bool). b || stands_in e.local xs) (same_way e.local x)

    by : (a b : Bool) → (x == e.local) ≡ a → stands_in e.local xs ≡ b → unmet g (with_local xs x) + count x g ≡ unmet g xs
        → (if stands_in e.local (with_local xs x) then unmet g (with_local xs x) else suc (unmet g (with_local xs x))) + (if a then suc (count x g) else count x g) ≡ (if b then unmet g xs else suc (unmet g xs))
    by true true p q i = absurd (true_false (sym q ∙ ap (λ (z : ℕ). stands_in z xs) (sym (eqb-true x e.local p)) ∙ h))
      where
        true_false : true ≡ false → ⊥
        true_false r = absurd cc
    by true false p q i = rw (put, p) (let j : unmet g (with_local xs x) + count x g ≡ unmet g xs = i in omega (arith, j))
    by false true p q i = rw (put, p, q) i
    by false false p q i = rw (put, p, q) (let j : unmet g (with_local xs x) + count x g ≡ unmet g xs = i in omega (arith, j))

-- a local that is met leaves so many entries less as it has lambdas
pub leaves : (x : ℕ) (xs : List ℕ) (g : List GroupEntry) → stands_in x xs ≡ false → unmet g (with_local xs x) + length (fold with_entry no_entry g x) ≡ unmet g xs
leaves x xs g h =
    let c : length (fold with_entry no_entry g x) ≡ 0 + count x g = counts no_entry g x in
    let f : unmet g (with_local xs x) + count x g ≡ unmet g xs = fewer x xs g h in
    omega (arith, c, f)

-- ---- the table of places

abbrev Sites : Type 0
Sites = List (ℕ × Bor (List GroupEntry))

abbrev site : Sites → ℕ → Option (Bor (List GroupEntry))
site es l = lookup (is_at (nat_cmp l)) es

pub stays : (l : ℕ) (g : List GroupEntry) (es : Sites) → is_some (site es l) ≡ true → group_at es ≡ with_place (group_at es) l g
stays l g es h = λ i n. one n i
  where
    one : (n : ℕ) → group_at es n ≡ with_place (group_at es) l g n
    one n = by (n == l) refl
      where
        kept : (o : Option (Bor (List GroupEntry))) → is_some o ≡ true → option_copied o ≡ kept_place (option_copied o) g
        kept None q = absurd cc
        kept (Some h) q = refl

        by : (b : Bool) → (n == l) ≡ b → group_at es n ≡ (if b then kept_place (group_at es n) g else group_at es n)
        by true is = kept (site es n) (ap (λ (z : ℕ). is_some (site es z)) (eqb-true n l is) ∙ h)
        by false is = refl

pub comes : (l : ℕ) (g : Bor (List GroupEntry)) (old new : Sites) → is_some (site old l) ≡ false → ((n : ℕ) → site new n ≡ cond (is_at (nat_cmp l) n) (Some g) (site old n)) → group_at new ≡ with_place (group_at old) l g.now
comes l g old new h q = λ i n. one n i
  where
    one : (n : ℕ) → group_at new n ≡ with_place (group_at old) l g.now n
    one n = ap option_copied (q n) ∙ ap (λ (b : Bool). option_copied (cond b (Some g) (site old n))) (key l n ∙ same_way l n) ∙ by (n == l) refl
      where
        new_one : (o : Option (Bor (List GroupEntry))) → is_some o ≡ false → Some g.now ≡ kept_place (option_copied o) g.now
        new_one None r = refl
        new_one (Some z) r = absurd cc

        by : (b : Bool) → (n == l) ≡ b → option_copied (cond b (Some g) (site old n)) ≡ (if b then kept_place (group_at old n) g.now else group_at old n)
        by true is = new_one (site old n) (ap (λ (z : ℕ). is_some (site old z)) (eqb-true n l is) ∙ h)
        by false is = refl

-- the group in which a lambda stands first
abbrev group_there : ℕ → List Sight → List GroupEntry
group_there l [] = []
group_there l (Stood n g ∷ ss) = if l == n then g else group_there l ss
group_there l (s ∷ ss) = group_there l ss

abbrev or_there : Option (List GroupEntry) → List GroupEntry → List GroupEntry
or_there None g = g
or_there (Some h) g = h

first_place : (t : GroupOf) (ss : List Sight) (l : ℕ) → or_none (fold with_sight t ss l) ≡ or_there (t l) (group_there l ss)
first_place t [] l = by (t l)
  where
    by : (o : Option (List GroupEntry)) → or_none o ≡ or_there o []
    by None = refl
    by (Some g) = refl
first_place t (Stood n g ∷ ss) l = first_place (with_place t n g) ss l ∙ by (l == n) (t l)
  where
    by : (b : Bool) (o : Option (List GroupEntry)) → or_there (if b then kept_place o g else o) (group_there l ss) ≡ or_there o (if b then g else group_there l ss)
    by true None = refl
    by true (Some h) = refl
    by false o = refl
first_place t (Bound x ∷ ss) l = first_place t ss l
first_place t (Entered x ∷ ss) l = first_place t ss l
first_place t (Mentioned x ∷ ss) l = first_place t ss l
first_place t (Assigned at x ∷ ss) l = first_place t ss l

groups : (l : ℕ) (here : Place) (ms : List Mark) → group_there l (seen_in here ms) ≡ group_in l ms
groups l here [] = refl
groups l here (Node there ∷ ms) = groups l there ms
groups l here (TooDeep ∷ ms) = groups l here ms
groups l here (Stands n g ∷ ms) = ap (λ (h : List GroupEntry). if l == n then g else h) (groups l here ms)
groups l here (BindsParameter x ∷ ms) = groups l here ms
groups l here (BindsLet x ∷ ms) = groups l here ms
groups l here (BindsEntry e ∷ ms) = groups l here ms
groups l here (Mentions x scope ∷ ms) = groups l here ms
groups l here (Sets x scope ∷ ms) = groups l here ms
groups l here (Reads at g ∷ ms) = groups l here ms
groups l here (Assigns at g ∷ ms) = groups l here ms
groups l here (Quotes at q ∷ ms) = groups l here ms
groups l here (Sequence n ∷ ms) = groups l here ms
groups l here (Replaces tail ∷ ms) = groups l here ms
groups l here (Performs at p n ∷ ms) = groups l here ms
groups l here (Chooses kind bs ∷ ms) = groups l here ms

pub finds_group : (here : Place) (ms : List Mark) (l : ℕ) → or_none (fold with_sight no_place (seen_in here ms) l) ≡ group_in l ms
finds_group here ms l = first_place no_place (seen_in here ms) l ∙ groups l here ms
