-- What is put in the set of a lambda is what its procedure keeps.
-- For: `kept` and `all_kept`
use Rattle.std.proofs.Common.{◌≡◌, ℕ, ◌<◌, zero, suc, Bool, true, false, List, [], ◌∷◌, ◌++◌, length, Some, slice_get, inl, inr, refl, sym, ap, subst, ◌∙◌, arith}
use Rattle.std.specs.Prelude.{◌⊎◌, ◌+◌, ◌==◌, ◌||◌, ◌&&◌, not, if◌then◌else◌, nat_lt}
use Rattle.std.specs.List.{fold, list_any}
use Rattle.std.specs.Ordering.{match_ordering}
use Rattle.std.specs.declared.cmp.Ordering.TheVariants.{Less, Equal, Greater}
use Rattle.std.proofs.lemmas.Bool.{eqb-true, eqb-false, ltb-true}
use Rattle.ps_kernel.specs.declared.expr.GroupEntry.{GroupEntry}
use Rattle.ps_kernel.specs.declared.kernel.Kernel.{Kernel}
use Rattle.ps_kernel.specs.Captured.{Keeps, Ascends, IsCaptured}
use Rattle.ps_kernel.specs.InsideSteps.{nowhere}
use Rattle.ps_kernel.specs.Lists.{stands_in}
use Rattle.ps_kernel.specs.Marks.{locals_of}
use Rattle.ps_kernel.specs.Most.{most_depth}
use Rattle.ps_kernel.specs.Texts.{named, bound, lambda_text, group_of, text}
use Rattle.ps_captured.specs.declared.named.Named.{Named}
use Rattle.ps_captured.specs.InsideReading.{read_forms}
use Rattle.ps_captured.specs.InsideTables.{with_local, with_other}
use Rattle.ps_captured.specs.InsideKeeping.{all_named, named_at, AreReached, with_each, with_member, with_sight, no_place, or_none as or_no_group, IsKept, AreCaptured, GroupOf}
use Rattle.ps_captured.proofs.MarksAreSeen.{put_first, put_other, or_none}
use Rattle.ps_captured.proofs.ReadingsSeeMarks.{sees_forms}
use Rattle.ps_captured.proofs.TablesTell.{finds_group}
use Rattle.ps_captured.proofs.ChasesReachAll.{has_free}

-- ---- sets

holds_all : (y : ℕ) (xs ys : List ℕ) → stands_in y (fold with_local xs ys) ≡ (stands_in y xs || stands_in y ys)
holds_all y xs [] = or_none (stands_in y xs)
holds_all y xs (x ∷ ys) = holds_all y (with_local xs x) ys ∙ put_first y x xs (stands_in y ys)

holds_each : (y : ℕ) (own xs ys : List ℕ) → stands_in y (with_each own xs ys) ≡ (stands_in y xs || (stands_in y ys && not (stands_in y own)))
holds_each y own xs [] = or_none (stands_in y xs)
holds_each y own xs (x ∷ ys) = holds_each y own (with_other own xs x) ys ∙ put_other y x own xs (stands_in y ys)

-- a lambda has a local free
abbrev has : List Named → ℕ → ℕ → Bool
has ds y l = stands_in y (named_at ds l).free

holds_members : (y : ℕ) (own : List ℕ) (ds : List Named) (xs ls : List ℕ) → stands_in y (fold (with_member own ds) xs ls) ≡ (stands_in y xs || (list_any (has ds y) ls && not (stands_in y own)))
holds_members y own ds xs [] = or_none (stands_in y xs)
holds_members y own ds xs (l ∷ ls) =
    holds_members y own ds (with_member own ds xs l) ls
    ∙ ap (λ (b : Bool). b || (list_any (has ds y) ls && not (stands_in y own))) (holds_each y own xs (named_at ds l).free)
    ∙ four (stands_in y xs) (has ds y l) (list_any (has ds y) ls) (not (stands_in y own))
  where
    four : (a b c d : Bool) → ((a || (b && d)) || (c && d)) ≡ (a || ((b || c) && d))
    four true b c d = refl
    four false true true true = refl
    four false true true false = refl
    four false true false true = refl
    four false true false false = refl
    four false false c d = refl

-- ---- sets ascend

-- each is below the first of the others
abbrev Below : ℕ → List ℕ → Type 0
Below x [] = Unit {0}
Below x (y ∷ ys) = x < y

tail : (x : ℕ) (xs : List ℕ) → Ascends (x ∷ xs) → Ascends xs
tail x [] h = tt
tail x (y ∷ ys) h = h.1

head : (x : ℕ) (xs : List ℕ) → Ascends (x ∷ xs) → Below x xs
head x [] h = tt
head x (y ∷ ys) h = h.0

join : (x : ℕ) (xs : List ℕ) → Below x xs → Ascends xs → Ascends (x ∷ xs)
join x [] h a = tt
join x (y ∷ ys) h a = (h, a)

below : (z y : ℕ) (xs : List ℕ) → z < y → Below z xs → Below z (with_local xs y)
below z y [] h b = h
below z y (x ∷ xs) h b = by (nat_lt y x) (y == x)
  where
    by : (c d : Bool) → Below z (match_ordering (if c then Less else (if d then Equal else Greater)) (y ∷ x ∷ xs) (x ∷ xs) (x ∷ with_local xs y))
    by true d = h
    by false true = b
    by false false = b

ascends_with : (xs : List ℕ) (y : ℕ) → Ascends xs → Ascends (with_local xs y)
ascends_with [] y a = tt
ascends_with (x ∷ xs) y a = by (nat_lt y x) (y == x) refl refl (ascends_with xs y (tail x xs a))
  where
    by : (c d : Bool) → nat_lt y x ≡ c → (y == x) ≡ d → Ascends (with_local xs y) → Ascends (match_ordering (if c then Less else (if d then Equal else Greater)) (y ∷ x ∷ xs) (x ∷ xs) (x ∷ with_local xs y))
    by true d p q h = (ltb-true y x p, a)
    by false true p q h = a
    by false false p q h = join x (with_local xs y) (below x y xs (above p q) (head x xs a)) h
      where
        above : nat_lt y x ≡ false → (y == x) ≡ false → x < y
        above p q = grind (arith, p, q)

ascends_other : (own xs : List ℕ) (y : ℕ) → Ascends xs → Ascends (with_other own xs y)
ascends_other own xs y a = by (stands_in y own)
  where
    by : (b : Bool) → Ascends (if b then xs else with_local xs y)
    by true = a
    by false = ascends_with xs y a

ascends_each : (own xs ys : List ℕ) → Ascends xs → Ascends (with_each own xs ys)
ascends_each own xs [] a = a
ascends_each own xs (y ∷ ys) a = ascends_each own (with_other own xs y) ys (ascends_other own xs y a)

ascends_members : (own : List ℕ) (ds : List Named) (xs ls : List ℕ) → Ascends xs → Ascends (fold (with_member own ds) xs ls)
ascends_members own ds xs [] a = a
ascends_members own ds xs (l ∷ ls) a = ascends_members own ds (with_member own ds xs l) ls (ascends_each own xs (named_at ds l).free a)

-- ---- what is kept

or_cases : {P : Type 0} → (a b : Bool) → (a || b) ≡ true → (a ≡ true → P) → (b ≡ true → P) → P
or_cases true b h f g = f refl
or_cases false b h f g = g h

or_right : (a b : Bool) → b ≡ true → (a || b) ≡ true
or_right true b h = refl
or_right false b h = h

both : (a b : Bool) → (a && b) ≡ true → (a ≡ true) × (b ≡ true)
both true b h = (refl, h)
both false b h = absurd cc

not_false : (b : Bool) → not b ≡ true → b ≡ false
not_false true h = absurd cc
not_false false h = refl

eq_self : (x : ℕ) → (x == x) ≡ true
eq_self x = by (x == x) refl
  where
    by : (b : Bool) → (x == x) ≡ b → b ≡ true
    by true p = refl
    by false p = absurd (eqb-false x x p refl)

one_of : (f : ℕ → Bool) (ls : List ℕ) → list_any f ls ≡ true → (l : ℕ) × (stands_in l ls ≡ true) × (f l ≡ true)
one_of f [] h = absurd cc
one_of f (l ∷ ls) h = by (f l) refl h (one_of f ls)
  where
    by : (b : Bool) → f l ≡ b → (b || list_any f ls) ≡ true → (list_any f ls ≡ true → (n : ℕ) × (stands_in n ls ≡ true) × (f n ≡ true)) → (n : ℕ) × (stands_in n (l ∷ ls) ≡ true) × (f n ≡ true)
    by true p q rest = (l, ap (λ (b : Bool). b || stands_in l ls) (eq_self l), p)
    by false p q rest = let r = rest q in (r.0, or_right (r.0 == l) (stands_in r.0 ls) r.1, r.2)

any_of : (f : ℕ → Bool) (l : ℕ) (ls : List ℕ) → stands_in l ls ≡ true → f l ≡ true → list_any f ls ≡ true
any_of f l [] h p = absurd cc
any_of f l (n ∷ ls) h p = or_cases (l == n) (stands_in l ls) h (λ is. ap (λ (b : Bool). b || list_any f ls) (ap f (sym (eqb-true l n is)) ∙ p)) (λ q. or_right (f n) (list_any f ls) (any_of f l ls q p))

module _ (k : Kernel) (g : List GroupEntry) (l : ℕ) (order : List ℕ) (reached : AreReached k g l order) where
  abbrev own : List ℕ
  own = fold with_local [] (locals_of g)

  abbrev ds : List Named
  ds = all_named k.lambdas

  abbrev list : List ℕ
  list = fold (with_member own ds) [] order

  keeps_them : (x : ℕ) → stands_in x list ≡ true → Keeps k g l x
  keeps_them x p =
      let q = both (list_any (has ds x) order) (not (stands_in x own)) (sym (holds_members x own ds [] order) ∙ p) in
      let m = one_of (has ds x) order q.0 in
      let f = both (stands_in x (named (lambda_text k m.0))) (not (stands_in x (bound (lambda_text k m.0)))) (sym (has_free k m.0 x) ∙ m.2) in
      record {
        lambda = m.0;
        reached = (reached m.0).0 m.1;
        free = record { names = f.0; binds_not = not_false (stands_in x (bound (lambda_text k m.0))) f.1 };
        outside = sym (holds_all x [] (locals_of g)) ∙ not_false (stands_in x own) q.1;
      }

  are_kept : (x : ℕ) → Keeps k g l x → stands_in x list ≡ true
  are_kept x h =
      let free : has ds x h.lambda ≡ true = has_free k h.lambda x ∙ ap (λ (b : Bool). b && not (stands_in x (bound (lambda_text k h.lambda)))) h.free.names ∙ ap not h.free.binds_not in
      let some : list_any (has ds x) order ≡ true = any_of (has ds x) h.lambda order ((reached h.lambda).1 h.reached) free in
      let out : not (stands_in x own) ≡ true = ap not (holds_all x [] (locals_of g) ∙ h.outside) in
      holds_members x own ds [] order ∙ ap (λ (b : Bool). b && not (stands_in x own)) some ∙ out

  is_kept_list : IsKept k g l list
  is_kept_list = record { keeps = λ x. (keeps_them x, are_kept x); ascends = ascends_members own ds [] order tt }

-- the list of a lambda is what its procedure keeps
pub is_kept : (ds : List Named) (g : List GroupEntry) (l : ℕ) (order mine kept : List ℕ) → ((k : Kernel) → ds ≡ all_named k.lambdas → AreReached k g l order) → mine ≡ fold with_local [] (locals_of g) → kept ≡ fold (with_member mine ds) [] order
    → (k : Kernel) → ds ≡ all_named k.lambdas → IsKept k g l kept
is_kept ds g l order mine kept h o q k d =
    subst (IsKept k g l) (sym (q ∙ ap (λ (w : List ℕ). fold (with_member w ds) [] order) o ∙ ap (λ (es : List Named). fold (with_member (fold with_local [] (locals_of g)) es) [] order) d)) (is_kept_list k g l order (h k d))

-- ---- all lists

-- the group that a table of places has is the group of a lambda
pub group_found : (k : Kernel) (t : GroupOf) (l : ℕ) → t ≡ fold with_sight no_place (read_forms k.lambdas most_depth [] k.forms) → or_no_group (t l) ≡ group_of k l
unfolding group_of text
group_found k t l is =
    ap (λ (f : GroupOf). or_no_group (f l)) (is ∙ ap (fold with_sight no_place) (sees_forms k most_depth nowhere k.forms [] nowhere)) ∙ finds_group nowhere (text k) l

captured_by : (k : Kernel) (g : List GroupEntry) (l : ℕ) (xs : List ℕ) → g ≡ group_of k l → IsKept k g l xs → IsCaptured k l xs
captured_by k g l xs is h = let m = subst (λ (g : List GroupEntry). IsKept k g l xs) is h in record { keeps = m.keeps; ascends = m.ascends }

last_of : (xss : List (List ℕ)) (xs ys : List ℕ) (i : ℕ) → slice_get (xss ++ xs ∷ []) i ≡ Some ys → (slice_get xss i ≡ Some ys) ⊎ ((i ≡ length xss) × (xs ≡ ys))
last_of [] xs ys zero p = inr (refl, some_same p)
  where
    some_same : Some xs ≡ Some ys → xs ≡ ys
    some_same q = cc
last_of [] xs ys (suc i) p = absurd cc
last_of (zs ∷ xss) xs ys zero p = inl p
last_of (zs ∷ xss) xs ys (suc i) p = more (last_of xss xs ys i p)
  where
    more : (slice_get xss i ≡ Some ys) ⊎ ((i ≡ length xss) × (xs ≡ ys)) → (slice_get xss i ≡ Some ys) ⊎ ((suc i ≡ length (zs ∷ xss)) × (xs ≡ ys))
    more (inl q) = inl q
    more (inr q) = inr (ap suc q.0, q.1)

-- one more list
pub one_more : (k : Kernel) (xss : List (List ℕ)) (g : List GroupEntry) (l : ℕ) (xs : List ℕ) → AreCaptured k xss → length xss ≡ l → g ≡ group_of k l → IsKept k g l xs → AreCaptured k (xss ++ xs ∷ [])
one_more k xss g l xs h n is kept i ys p = by (last_of xss xs ys i p)
  where
    by : (slice_get xss i ≡ Some ys) ⊎ ((i ≡ length xss) × (xs ≡ ys)) → IsCaptured k i ys
    by (inl q) = h i ys q
    by (inr q) = subst (IsCaptured k i) q.1 (subst (λ (j : ℕ). IsCaptured k j xs) (sym (q.0 ∙ n)) (captured_by k g l xs is kept))

length_one : (xss : List (List ℕ)) (xs : List ℕ) → length (xss ++ xs ∷ []) ≡ length xss + 1
length_one [] xs = refl
length_one (ys ∷ xss) xs = let h : length (xss ++ xs ∷ []) ≡ length xss + 1 = length_one xss xs in omega (arith, h)

pub lists_go_on : (k : Kernel) (xss : List (List ℕ)) (g : List GroupEntry) (l : ℕ) (xs : List ℕ) (yss : List (List ℕ)) → AreCaptured k xss × (length xss ≡ l) → g ≡ group_of k l → IsKept k g l xs → yss ≡ xss ++ xs ∷ [] → AreCaptured k yss × (length yss ≡ l + 1)
lists_go_on k xss g l xs yss h is kept q = (subst (AreCaptured k) (sym q) (one_more k xss g l xs h.0 h.1 is kept), ap length q ∙ length_one xss xs ∙ ap (λ (n : ℕ). n + 1) h.1)
