-- The bodies of lambdas name what they may.
-- For: `lambdas_have_places` and `bodies_are_scoped`
use Rattle.std.proofs.Common.{◌≡◌, ℕ, zero, suc, ◌-◌, ◌<◌, ◌≤◌, Bool, true, false, List, [], ◌∷◌, ◌++◌, length, map, Option, Some, None, slice_get, inl, inr, refl, sym, ap, ◌∙◌, subst, arith}
use Rattle.std.specs.Prelude.{◌==◌, ◌||◌, ◌&&◌, filter, if◌then◌else◌}
use Rattle.std.specs.List.{list_all}
use Rattle.std.proofs.lemmas.Bool.{and_parts, and_from, eqb-true, eq-eqb}
use Rattle.ps_base.specs.declared.faults.Place.{Place}
use Rattle.ps_kernel.specs.declared.expr.GroupEntry.{GroupEntry}
use Rattle.ps_kernel.specs.declared.expr.Expr.{Expr, out-Expr, fold_out-Expr}
use Rattle.ps_kernel.specs.declared.expr.ExprKind.{ExprKind, out-ExprKind, fold-ExprKind, fold_out-ExprKind, map-ExprKind}
use Rattle.ps_kernel.specs.declared.expr.ExprKind.TheOpen.{ExprKind-F}
use Rattle.ps_kernel.specs.declared.expr.Labelled.{Labelled, fold-Labelled, fold_out-Labelled}
use Rattle.ps_kernel.specs.declared.kernel.Form.{Form}
use Rattle.ps_kernel.specs.declared.kernel.Kernel.{Kernel}
use Rattle.ps_kernel.specs.declared.kernel.Lambda.{Lambda}
use Rattle.ps_kernel.specs.Most.{most_depth}
use Rattle.ps_kernel.specs.Lists.{stands_in, Each, Among}
use Rattle.ps_kernel.specs.Marks.{Mark, Node, Stands, BindsParameter, BindsLet, BindsEntry, Mentions, Sets, Assigns, Sequence, Replaces, Performs, Chooses, Piece, Whole, Choice, AnyOf, Same, Atom, place_of, choice_of, test_of, labels_of, body_of, locals_of, sequence_marks, part_marks, body_marks, lambda_marks, group_marks, kind_marks, layer, marks}
use Rattle.ps_kernel.specs.Texts.{standing, bound, named, text, expr_of, form_marks, lambda_text, group_of}
use Rattle.ps_kernel.specs.Captured.{lambdas_of, IsFree, is_entry, Reaches, itself, through, Keeps, HasCaptured}
use Rattle.ps_kernel.specs.Valid.{IsValid}
use Rattle.ps_kernel.specs.IsKernel.{IsKernel}
use Rattle.ps_kernel.specs.Laws.{HasPlace, unscoped}
use Rattle.ps_kernel.specs.Scoped.{Scoping, is_seen, each_scoped, captured_in, can_make, same_group, stands_right, scoped_node, scoped, mentioned, IsScopedForm, AreScoped}
use Rattle.ps_kernel.proofs.NumbersStandInLists.{or_cases, or_left, or_right, in_append, in_left, in_right, times_in, is_false, either, each_left}
use Rattle.ps_kernel.proofs.ReadingsKeepRelations.{reads_body, reads_forms}
use Rattle.ps_kernel.proofs.PartsAreSound.{same_named, same_bound, named_append, binds_parameters, binds_entries, binds_let, named_behind, is_assigned, IsGroup, IsFine, Sound, sound_left, sound_right, sound_behind, not_bound, entries_stay, Deepens, deepens, Leads, leads, Occurs, Finds, finds}
use Rattle.ps_kernel.proofs.EachNumberHasOneAnswer.{whole}

-- ---- lists

all_in : (p : ℕ → Bool) (xs : List ℕ) → ((x : ℕ) → stands_in x xs ≡ true → p x ≡ true) → list_all p xs ≡ true
all_in p [] h = refl
all_in p (x ∷ xs) h = and_from (p x) (list_all p xs) (h x (or_left (x == x) (stands_in x xs) (eq-eqb x x refl))) (all_in p xs (λ y i. h y (or_right (y == x) (stands_in y xs) i)))

entry_lambda : (x l : ℕ) (g : List GroupEntry) → is_entry x l g ≡ true → stands_in l (lambdas_of g) ≡ true
entry_lambda x l [] h = absurd cc
entry_lambda x l (e ∷ g) h = elim (or_cases (x == e.local && l == e.lambda) (is_entry x l g) h) [
  | inl is ↦ or_left (l == e.lambda) (stands_in l (lambdas_of g)) (and_parts (x == e.local) (l == e.lambda) is).1
  | inr rest ↦ or_right (l == e.lambda) (stands_in l (lambdas_of g)) (entry_lambda x l g rest)
]

-- a local of a group that passes a test
filtered : (p : ℕ → Bool) (x : ℕ) (g : List GroupEntry) → stands_in x (locals_of g) ≡ true → p x ≡ true → stands_in x (locals_of (filter (λ (e : GroupEntry). p e.local) g)) ≡ true
filtered p x [] i h = absurd cc
filtered p x (e ∷ g) i h = by (x == e.local) (p e.local) refl refl i (filtered p x g)
  where
    by : (a b : Bool) → (x == e.local) ≡ a → p e.local ≡ b → (a || stands_in x (locals_of g)) ≡ true → (stands_in x (locals_of g) ≡ true → p x ≡ true → stands_in x (locals_of (filter (λ (e : GroupEntry). p e.local) g)) ≡ true)
        → stands_in x (locals_of (if b then e ∷ filter (λ (d : GroupEntry). p d.local) g else filter (λ (d : GroupEntry). p d.local) g)) ≡ true
    by true true q r i rest = or_left (x == e.local) (stands_in x (locals_of (filter (λ (d : GroupEntry). p d.local) g))) q
    by true false q r i rest = let same = ap p (eqb-true x e.local q) in absurd cc
    by false true q r i rest = or_right (x == e.local) (stands_in x (locals_of (filter (λ (d : GroupEntry). p d.local) g))) (rest i h)
    by false false q r i rest = rest i h

filtered_from : (p : ℕ → Bool) (x : ℕ) (g : List GroupEntry) → stands_in x (locals_of (filter (λ (e : GroupEntry). p e.local) g)) ≡ true → stands_in x (locals_of g) ≡ true
filtered_from p x [] i = absurd cc
filtered_from p x (e ∷ g) i = by (p e.local) i (filtered_from p x g)
  where
    by : (b : Bool) → stands_in x (locals_of (if b then e ∷ filter (λ (d : GroupEntry). p d.local) g else filter (λ (d : GroupEntry). p d.local) g)) ≡ true → (stands_in x (locals_of (filter (λ (d : GroupEntry). p d.local) g)) ≡ true → stands_in x (locals_of g) ≡ true) → stands_in x (locals_of (e ∷ g)) ≡ true
    by true i later = elim (or_cases (x == e.local) (stands_in x (locals_of (filter (λ (d : GroupEntry). p d.local) g))) i) [
      | inl is ↦ or_left (x == e.local) (stands_in x (locals_of g)) is
      | inr rest ↦ or_right (x == e.local) (stands_in x (locals_of g)) (later rest)
    ]
    by false i later = or_right (x == e.local) (stands_in x (locals_of g)) (later i)

there_below : (xs : List Lambda) (l : ℕ) (m : Lambda) → slice_get xs l ≡ Some m → l < length xs
there_below [] l m e = absurd cc
there_below (x ∷ xs) zero m e = omega arith
there_below (x ∷ xs) (suc l) m e = let lt = there_below xs l m e in omega (arith, lt)

-- groups that are told the same are the same
pub same_groups : (a b : List GroupEntry) → same_group a b ≡ true → a ≡ b
same_groups [] [] h = refl
same_groups [] (e ∷ b) h = absurd cc
same_groups (d ∷ a) [] h = absurd cc
same_groups (d ∷ a) (e ∷ b) h =
    let p = and_parts (d.local == e.local && d.lambda == e.lambda) (same_group a b) h in
    let q = and_parts (d.local == e.local) (d.lambda == e.lambda) p.0 in
    let x : d.local ≡ e.local = eqb-true d.local e.local q.0 in
    let y : d.lambda ≡ e.lambda = eqb-true d.lambda e.lambda q.1 in
    (λ i. record { local = x i; lambda = y i } ∷ same_groups a b p.1 i)

same_self : (a : List GroupEntry) → same_group a a ≡ true
same_self [] = refl
same_self (e ∷ a) = and_from (e.local == e.local && e.lambda == e.lambda) (same_group a a) (and_from (e.local == e.local) (e.lambda == e.lambda) (eq-eqb e.local e.local refl) (eq-eqb e.lambda e.lambda refl)) (same_self a)

module _ (k : Kernel) where
  -- ---- one layer of what an expression may name

  abbrev scoped_kind : ExprKind → Scoping
  scoped_kind = fold-ExprKind Scoping Scoping Scoping (scoped_node k) (λ e. e.kind) (λ b. b.body)

  abbrev scoped_branch : Labelled → Scoping
  scoped_branch = fold-Labelled Scoping Scoping Scoping (scoped_node k) (λ e. e.kind) (λ b. b.body)

  abbrev scoped_open : ExprKind-F ExprKind Expr Labelled → Scoping
  scoped_open y = scoped_node k (map-ExprKind ExprKind Expr Labelled Scoping Scoping Scoping scoped_kind (scoped k) scoped_branch y)

  pub at_scoped : (e : Expr) → scoped k e ≡ scoped_open (out-ExprKind (out-Expr e).kind)
  at_scoped e = fold_out-Expr Scoping Scoping Scoping (scoped_node k) (λ e. e.kind) (λ b. b.body) e ∙ fold_out-ExprKind Scoping Scoping Scoping (scoped_node k) (λ e. e.kind) (λ b. b.body) (out-Expr e).kind

  pub at_branch : (b : Labelled) → scoped_branch b ≡ scoped k (body_of b)
  at_branch b = fold_out-Labelled Scoping Scoping Scoping (scoped_node k) (λ e. e.kind) (λ b. b.body) b

  -- the same of what a case unfolds to
  abbrev piece_scoped : Piece → Scoping
  piece_scoped (Whole e) own kept = scoped k e own kept
  piece_scoped (Choice at b bs e) own kept = scoped_branch b own kept && (each_scoped (map scoped_branch bs) own kept && scoped k e own kept)
  piece_scoped p own kept = true

  choice_scoped : (at : Place) (bs : List Labelled) (e : Expr) (own kept : List ℕ) → piece_scoped (choice_of at bs e) own kept ≡ true → (each_scoped (map scoped_branch bs) own kept && scoped k e own kept) ≡ true
  choice_scoped at [] e own kept h = h
  choice_scoped at (b ∷ bs) e own kept h = by (scoped_branch b own kept) h
    where
      by : (d : Bool) → (d && (each_scoped (map scoped_branch bs) own kept && scoped k e own kept)) ≡ true → ((d && each_scoped (map scoped_branch bs) own kept) && scoped k e own kept) ≡ true
      by true h = h
      by false h = absurd cc

  -- ---- where the procedure of a lambda is made

  -- what is read where a lambda stands is its text, but for scopes
  same_text : (n : ℕ) → n ≤ most_depth → (s : List ℕ) (g : List GroupEntry) (l : ℕ) → Sound k s (lambda_marks k (marks k n) s g l) → unscoped (lambda_text k l) ≡ unscoped (body_marks (marks k n) s (slice_get k.lambdas l))
  unfolding lambda_text
  same_text n small s g l h = (reads_body k (most_depth - n) (λ (g : List GroupEntry). Unit {0}) (Deepens k) (deepens k (most_depth - n)) n most_depth (omega (arith, small)) small s [] (slice_get k.lambdas l)).same h.fine.1

  -- what is free in a lambda is in scope where it stands
  free_seen : (n : ℕ) → n ≤ most_depth → (s : List ℕ) (g : List GroupEntry) (l : ℕ) → Sound k s (lambda_marks k (marks k n) s g l) → (x : ℕ) → IsFree k l x
      → (stands_in x (named (lambda_marks k (marks k n) s g l)) ≡ true) × (stands_in x s ≡ true)
  unfolding lambda_text
  free_seen n small s g l h x f =
      let b = slice_get k.lambdas l in
      let deeper = same_text n small s g l h in
      let names : stands_in x (named (body_marks (marks k n) s b)) ≡ true = sym (ap (stands_in x) (same_named (lambda_text k l) (body_marks (marks k n) s b) deeper)) ∙ f.names in
      let binds : stands_in x (bound (body_marks (marks k n) s b)) ≡ false = sym (ap (stands_in x) (same_bound (lambda_text k l) (body_marks (marks k n) s b) deeper)) ∙ f.binds_not in
      (names, (reads_body k 0 (λ (g : List GroupEntry). Unit {0}) (Leads k) (leads k) n n (omega arith) small s s b).lead h.fine.1 x names binds)

  -- what a lambda's body names and is in scope where the lambda stands is free in it
  free_in : (n : ℕ) → n ≤ most_depth → (s : List ℕ) (g : List GroupEntry) (l : ℕ) → Sound k s (lambda_marks k (marks k n) s g l) → (x : ℕ)
      → stands_in x (named (lambda_marks k (marks k n) s g l)) ≡ true → stands_in x s ≡ true → IsFree k l x
  unfolding lambda_text
  free_in n small s g l h x i o =
      let b = slice_get k.lambdas l in
      let deeper = same_text n small s g l h in
      record { names = ap (stands_in x) (same_named (lambda_text k l) (body_marks (marks k n) s b) deeper) ∙ i; binds_not = ap (stands_in x) (same_bound (lambda_text k l) (body_marks (marks k n) s b) deeper) ∙ not_bound k s (lambda_marks k (marks k n) s g l) h x o }

  -- the marks of a lambda among those of its group
  in_group : (n : ℕ) (s : List ℕ) (g : List GroupEntry) (l : ℕ) (es : List GroupEntry) → stands_in l (lambdas_of es) ≡ true → Sound k s (group_marks k (marks k n) s g es)
      → Sound k s (lambda_marks k (marks k n) s g l) × ((x : ℕ) → stands_in x (named (lambda_marks k (marks k n) s g l)) ≡ true → stands_in x (named (group_marks k (marks k n) s g es)) ≡ true)
  in_group n s g l [] i h = absurd cc
  in_group n s g l (e ∷ es) i h =
      let a = lambda_marks k (marks k n) s g e.lambda in
      let b = group_marks k (marks k n) s g es in
      let joins : named (a ++ b) ≡ named a ++ named b = named_append a b in
      elim (or_cases (l == e.lambda) (stands_in l (lambdas_of es)) i) [
        | inl is ↦
            let q : e.lambda ≡ l = sym (eqb-true l e.lambda is) in (
              subst (λ (z : ℕ). Sound k s (lambda_marks k (marks k n) s g z)) q (sound_left k s a b h),
              λ x y. ap (stands_in x) joins ∙ in_left x (named a) (named b) (subst (λ (z : ℕ). stands_in x (named (lambda_marks k (marks k n) s g z)) ≡ true) (sym q) y),
            )
        | inr rest ↦
            let r = in_group n s g l es rest (sound_right k s a b h) in
            (r.0, λ x y. ap (stands_in x) joins ∙ in_right x (named a) (named b) (r.1 x y))
      ]

  -- what is reached in a group stands in it
  reached_in : (g : List GroupEntry) (l m : ℕ) → stands_in l (lambdas_of g) ≡ true → Reaches k g l m → stands_in m (lambdas_of g) ≡ true
  reached_in g l m i itself = i
  reached_in g l o i (through m n x r names e) = entry_lambda x n g e

  reached_alone : (l m : ℕ) → Reaches k [] l m → l ≡ m
  reached_alone l m itself = refl
  reached_alone l o (through m n x r names e) = absurd cc

  -- ---- where lambdas stand

  occurs : IsValid k → (l : ℕ) → l < length k.lambdas → Occurs k l
  unfolding text
  occurs right l lt =
      let one = right.rules.lambdas.once l lt in
      (reads_forms k 0 (IsGroup k) (Finds k l) (finds k l) refl most_depth (omega arith) k.forms).find (whole k right) (times_in l (standing (text k)) (omega (arith, one)))

  pub has_place : IsValid k → (l : ℕ) → l < length k.lambdas → HasPlace k l
  has_place right l lt =
      let o = occurs right l lt in
      record {
        stands = subst (λ (g : List GroupEntry). Among (Stands l g) (text k)) (sym o.sound.fine.0.meaning) o.sound.fine.0.there;
        entries = λ e i. o.known.entries e (subst (Among e) o.sound.fine.0.meaning i);
        levels = o.levels;
        scope = o.scope;
        reads = each_there (body_marks (marks k o.levels) o.scope (slice_get k.lambdas l)) o.sound.fine.1;
        same = same_text o.levels o.small o.scope o.group l o.sound;
      }
    where
      each_there : (ms : List Mark) → Each (IsFine k) ms → (m : Mark) → Among m ms → Among m (text k)
      each_there [] h m i = absurd i
      each_there (n ∷ ms) h m i = elim i [ inl is ↦ subst (λ (z : Mark). Among z (text k)) (sym is) h.0.there | inr rest ↦ each_there ms h.1 m rest ]

  module _ (captured : HasCaptured k) where
    -- the procedure of a lambda can be made where what it keeps is seen
    can_from : (own kept : List ℕ) (l : ℕ) → ((x : ℕ) → Keeps k (group_of k l) l x → is_seen x own kept ≡ true) → can_make k l own kept ≡ true
    can_from own kept l h = by (slice_get k.lambdas l) refl
      where
        by : (o : Option Lambda) → slice_get k.lambdas l ≡ o → list_all (λ x. is_seen x own kept) (captured_in o) ≡ true
        by None e = refl
        by (Some m) e = all_in (λ x. is_seen x own kept) m.captured (λ x i. h x (((captured.captured l m e).keeps x).0 i))

    -- ---- an expression, in a lambda that binds some locals and keeps others

    record Fits (own kept s : List ℕ) (ms : List Mark) : Type 0 where
      sound : Sound k s ms
      covers : (x : ℕ) → stands_in x (named ms) ≡ true → stands_in x s ≡ true → is_seen x own kept ≡ true
      stays : (x : ℕ) → stands_in x kept ≡ true → is_assigned k x ≡ false

    fits_left : (own kept s : List ℕ) (a b : List Mark) → Fits own kept s (a ++ b) → Fits own kept s a
    fits_left own kept s a b h = record { sound = sound_left k s a b h.sound; covers = λ x i. h.covers x (ap (stands_in x) (named_append a b) ∙ in_left x (named a) (named b) i); stays = h.stays }

    fits_right : (own kept s : List ℕ) (a b : List Mark) → Fits own kept s (a ++ b) → Fits own kept s b
    fits_right own kept s a b h = record { sound = sound_right k s a b h.sound; covers = λ x i. h.covers x (ap (stands_in x) (named_append a b) ∙ in_right x (named a) (named b) i); stays = h.stays }

    fits_let : (own kept s : List ℕ) (x : ℕ) (ms : List Mark) → Fits own kept s (BindsLet x ∷ ms) → Fits (x ∷ own) kept (x ∷ s) ms
    fits_let own kept s x ms h = record {
      sound = sound_behind k s (x ∷ []) (BindsLet x ∷ []) ms (binds_let x) h.sound;
      covers = λ y i o. by y (y == x) o (h.covers y i);
      stays = h.stays;
    }
      where
        by : (y : ℕ) (d : Bool) → (d || stands_in y s) ≡ true → (stands_in y s ≡ true → is_seen y own kept ≡ true) → ((d || stands_in y own) || stands_in y kept) ≡ true
        by y true o f = refl
        by y false o f = f o

    fits_letrec : (own kept s : List ℕ) (g : List GroupEntry) (ms : List Mark) → Fits own kept s (map BindsEntry g ++ ms) → Fits own (locals_of g ++ kept) (locals_of g ++ s) ms
    fits_letrec own kept s g ms h = record {
      sound = sound_behind k s (locals_of g) (map BindsEntry g) ms (binds_entries g) h.sound;
      covers = λ y i o. elim (in_append y (locals_of g) s o) [
        | inl here ↦ or_right (stands_in y own) (stands_in y (locals_of g ++ kept)) (in_left y (locals_of g) kept here)
        | inr there ↦ elim (or_cases (stands_in y own) (stands_in y kept) (h.covers y (ap (stands_in y) (named_behind (map BindsEntry g) ms (locals_of g) (binds_entries g)) ∙ i) there)) [
          | inl a ↦ or_left (stands_in y own) (stands_in y (locals_of g ++ kept)) a
          | inr b ↦ or_right (stands_in y own) (stands_in y (locals_of g ++ kept)) (in_right y (locals_of g) kept b)
        ]
      ];
      stays = λ y i. elim (in_append y (locals_of g) kept i) [ inl a ↦ entries_stay k g (each_left (IsFine k) (map BindsEntry g) ms h.sound.fine) y a | inr b ↦ h.stays y b ];
    }

    fits_mention : (own kept s : List ℕ) (x : ℕ) → Fits own kept s (Mentions x s ∷ []) → is_seen x own kept ≡ true
    fits_mention own kept s x h = h.covers x (or_left (x == x) false (eq-eqb x x refl)) h.sound.fine.0.in_scope

    fits_set : (own kept s : List ℕ) (x : ℕ) → Fits own kept s (Sets x s ∷ []) → stands_in x own ≡ true
    fits_set own kept s x h =
        elim (or_cases (stands_in x own) (stands_in x kept) (h.covers x (or_left (x == x) false (eq-eqb x x refl)) h.sound.fine.0.in_scope)) [
          | inl a ↦ a
          | inr b ↦ let out = h.stays x b in let there = h.sound.fine.0.meaning in absurd cc
        ]

    -- a lambda that stands alone
    fits_lambda : (n : ℕ) → n ≤ most_depth → (own kept s : List ℕ) (l : ℕ) → Fits own kept s (lambda_marks k (marks k n) s [] l) → stands_right k l [] own kept ≡ true
    fits_lambda n small own kept s l h = and_from (same_group (group_of k l) []) (can_make k l own kept) (ap (λ (g : List GroupEntry). same_group g []) h.sound.fine.0.meaning) (can_from own kept l (λ x keeps. by x (subst (λ (g : List GroupEntry). Keeps k g l x) h.sound.fine.0.meaning keeps)))
      where
        by : (x : ℕ) → Keeps k [] l x → is_seen x own kept ≡ true
        by x keeps =
            let free = subst (λ (m : ℕ). IsFree k m x) (sym (reached_alone l keeps.lambda keeps.reached)) keeps.free in
            let r = free_seen n small s [] l h.sound x free in
            h.covers x r.0 r.1

    -- the lambdas of a group
    fits_group : (n : ℕ) → n ≤ most_depth → (own kept s : List ℕ) (g : List GroupEntry) (ms : List Mark) → Fits own kept s (map BindsEntry g ++ (group_marks k (marks k n) (locals_of g ++ s) g g ++ ms)) → (l : ℕ) → stands_in l (lambdas_of g) ≡ true → stands_right k l g own kept ≡ true
    fits_group n small own kept s g ms h l i =
        let piece = in_group n u g l g i inside in
        and_from (same_group (group_of k l) g) (can_make k l own kept) (ap (λ (d : List GroupEntry). same_group d g) piece.0.fine.0.meaning ∙ same_self g)
        (can_from own kept l (λ x keeps. by x (subst (λ (g : List GroupEntry). Keeps k g l x) piece.0.fine.0.meaning keeps)))
      where
        u : List ℕ
        u = locals_of g ++ s

        inside : Sound k (locals_of g ++ s) (group_marks k (marks k n) (locals_of g ++ s) g g)
        inside = sound_left k (locals_of g ++ s) (group_marks k (marks k n) (locals_of g ++ s) g g) ms (sound_behind k s (locals_of g) (map BindsEntry g) (group_marks k (marks k n) (locals_of g ++ s) g g ++ ms) (binds_entries g) h.sound)

        by : (x : ℕ) → Keeps k g l x → is_seen x own kept ≡ true
        by x keeps =
            let ns = group_marks k (marks k n) (locals_of g ++ s) g g in
            let piece = in_group n (locals_of g ++ s) g keeps.lambda g (reached_in g l keeps.lambda i keeps.reached) inside in
            let r = free_seen n small (locals_of g ++ s) g keeps.lambda piece.0 x keeps.free in
            let names : stands_in x (named (map BindsEntry g ++ (ns ++ ms))) ≡ true = ap (stands_in x) (named_behind (map BindsEntry g) (ns ++ ms) (locals_of g) (binds_entries g) ∙ named_append ns ms) ∙ in_left x (named ns) (named ms) (piece.1 x r.0) in
            elim (in_append x (locals_of g) s r.1) [ inl a ↦ let out = keeps.outside in absurd cc | inr b ↦ h.covers x names b ]

    -- ---- the induction on levels

    module _ (n : ℕ) (small : n ≤ most_depth) (inner : (tail : Bool) (s : List ℕ) (p : Piece) (own kept : List ℕ) → Fits own kept s (marks k n tail s p) → piece_scoped p own kept ≡ true) where
      of_parts : (s : List ℕ) (es : List Expr) (own kept : List ℕ) → Fits own kept s (part_marks (marks k n) s es) → each_scoped (map (scoped k) es) own kept ≡ true
      of_parts s [] own kept h = refl
      of_parts s (e ∷ es) own kept h =
          and_from (scoped k e own kept) (each_scoped (map (scoped k) es) own kept)
          (inner false s (Whole e) own kept (fits_left own kept s (marks k n false s (Whole e)) (part_marks (marks k n) s es) h))
          (of_parts s es own kept (fits_right own kept s (marks k n false s (Whole e)) (part_marks (marks k n) s es) h))

      of_sequence : (tail : Bool) (s : List ℕ) (es : List Expr) (own kept : List ℕ) → Fits own kept s (sequence_marks (marks k n) tail s es) → each_scoped (map (scoped k) es) own kept ≡ true
      of_sequence tail s [] own kept h = refl
      of_sequence tail s (e ∷ []) own kept h = and_from (scoped k e own kept) true (inner tail s (Whole e) own kept h) refl
      of_sequence tail s (e ∷ d ∷ es) own kept h =
          and_from (scoped k e own kept) (each_scoped (map (scoped k) (d ∷ es)) own kept)
          (inner false s (Whole e) own kept (fits_left own kept s (marks k n false s (Whole e)) (sequence_marks (marks k n) tail s (d ∷ es)) h))
          (of_sequence tail s (d ∷ es) own kept (fits_right own kept s (marks k n false s (Whole e)) (sequence_marks (marks k n) tail s (d ∷ es)) h))

      of_call : (s : List ℕ) (f : Expr) (es : List Expr) (own kept : List ℕ) → Fits own kept s (marks k n false s (Whole f) ++ part_marks (marks k n) s es) → (scoped k f own kept && each_scoped (map (scoped k) es) own kept) ≡ true
      of_call s f es own kept h =
          and_from (scoped k f own kept) (each_scoped (map (scoped k) es) own kept)
          (inner false s (Whole f) own kept (fits_left own kept s (marks k n false s (Whole f)) (part_marks (marks k n) s es) h))
          (of_parts s es own kept (fits_right own kept s (marks k n false s (Whole f)) (part_marks (marks k n) s es) h))

      -- two and three pieces, one behind the other
      of_two : (a b : Bool) (s : List ℕ) (p q : Piece) (own kept : List ℕ) → Fits own kept s (marks k n a s p ++ marks k n b s q) → (piece_scoped p own kept ≡ true) × (piece_scoped q own kept ≡ true)
      of_two a b s p q own kept h = (inner a s p own kept (fits_left own kept s (marks k n a s p) (marks k n b s q) h), inner b s q own kept (fits_right own kept s (marks k n a s p) (marks k n b s q) h))

      of_group : (s : List ℕ) (g : List GroupEntry) (ms : List Mark) (own kept : List ℕ) → Fits own kept s (map BindsEntry g ++ (group_marks k (marks k n) (locals_of g ++ s) g g ++ ms)) → list_all (λ (e : GroupEntry). stands_right k e.lambda g own kept) g ≡ true
      of_group s g ms own kept h = each g (λ l i. fits_group n small own kept s g ms h l i)
        where
          each : (es : List GroupEntry) → ((l : ℕ) → stands_in l (lambdas_of es) ≡ true → stands_right k l g own kept ≡ true) → list_all (λ (e : GroupEntry). stands_right k e.lambda g own kept) es ≡ true
          each [] f = refl
          each (e ∷ es) f =
              and_from (stands_right k e.lambda g own kept) (list_all (λ (e : GroupEntry). stands_right k e.lambda g own kept) es)
              (f e.lambda (or_left (e.lambda == e.lambda) (stands_in e.lambda (lambdas_of es)) (eq-eqb e.lambda e.lambda refl)))
              (each es (λ l i. f l (or_right (l == e.lambda) (stands_in l (lambdas_of es)) i)))

      of_kind : (tail : Bool) (s : List ℕ) (at : Place) (y : ExprKind-F ExprKind Expr Labelled) (own kept : List ℕ) → Fits own kept s (kind_marks k (marks k n) tail s at y) → scoped_open y own kept ≡ true
      of_kind tail s at (ExprKind-F.Constant q) own kept h = refl
      of_kind tail s at (ExprKind-F.Local x) own kept h = fits_mention own kept s x h
      of_kind tail s at (ExprKind-F.Global g) own kept h = refl
      of_kind tail s at (ExprKind-F.Lambda l) own kept h = fits_lambda n small own kept s l h
      of_kind tail s at (ExprKind-F.If a b d) own kept h =
          let r = of_two tail tail s (Whole b) (Whole d) own kept (fits_right own kept s (marks k n false s (Whole a)) (marks k n tail s (Whole b) ++ marks k n tail s (Whole d)) h) in
          and_from (scoped k a own kept) (scoped k b own kept && scoped k d own kept)
          (inner false s (Whole a) own kept (fits_left own kept s (marks k n false s (Whole a)) (marks k n tail s (Whole b) ++ marks k n tail s (Whole d)) h))
          (and_from (scoped k b own kept) (scoped k d own kept) r.0 r.1)
      of_kind tail s at (ExprKind-F.Let x a b) own kept h =
          let ms = BindsLet x ∷ marks k n tail (x ∷ s) (Whole b) in
          and_from (scoped k a own kept) (scoped k b (x ∷ own) kept)
          (inner false s (Whole a) own kept (fits_left own kept s (marks k n false s (Whole a)) ms h))
          (inner tail (x ∷ s) (Whole b) (x ∷ own) kept (fits_let own kept s x (marks k n tail (x ∷ s) (Whole b)) (fits_right own kept s (marks k n false s (Whole a)) ms h)))
      of_kind tail s at (ExprKind-F.Letrec g b) own kept h =
          let u = locals_of g ++ s in
          let gs = group_marks k (marks k n) u g g in
          let ms = marks k n tail u (Whole b) in
          and_from (list_all (λ (e : GroupEntry). stands_right k e.lambda g own kept) g) (scoped k b own (locals_of g ++ kept))
          (of_group s g ms own kept h)
          (inner tail u (Whole b) own (locals_of g ++ kept) (fits_right own (locals_of g ++ kept) u gs ms (fits_letrec own kept s g (gs ++ ms) h)))
      of_kind tail s at (ExprKind-F.Begin es) own kept h = of_sequence tail s es own kept (fits_right own kept s (Sequence (length es) ∷ []) (sequence_marks (marks k n) tail s es) h)
      of_kind tail s at (ExprKind-F.SetGlobal g a) own kept h = inner false s (Whole a) own kept (fits_right own kept s (Assigns at g ∷ []) (marks k n false s (Whole a)) h)
      of_kind tail s at (ExprKind-F.SetLocal x a) own kept h =
          and_from (stands_in x own) (scoped k a own kept)
          (fits_set own kept s x (fits_left own kept s (Sets x s ∷ []) (marks k n false s (Whole a)) h))
          (inner false s (Whole a) own kept (fits_right own kept s (Sets x s ∷ []) (marks k n false s (Whole a)) h))
      of_kind tail s at (ExprKind-F.Case q a bs e) own kept h =
          let r = of_two false tail s (Whole a) (choice_of at bs e) own kept (fits_right own kept s (Chooses q bs ∷ []) (marks k n false s (Whole a) ++ marks k n tail s (choice_of at bs e)) h) in
          and_from (scoped k a own kept) (each_scoped (map (scoped_branch) bs) own kept && scoped k e own kept) r.0 (choice_scoped at bs e own kept r.1)
      of_kind tail s at (ExprKind-F.Call f es) own kept h = of_call s f es own kept h
      of_kind tail s at (ExprKind-F.ProperCall f es) own kept h = of_call s f es own kept (fits_right own kept s (Replaces tail ∷ []) (marks k n false s (Whole f) ++ part_marks (marks k n) s es) h)
      of_kind tail s at (ExprKind-F.Primitive p es) own kept h = of_parts s es own kept (fits_right own kept s (Performs at p (length es) ∷ []) (part_marks (marks k n) s es) h)

      of_layer : (tail : Bool) (s : List ℕ) (p : Piece) (own kept : List ℕ) → Fits own kept s (layer k (marks k n) tail s p) → piece_scoped p own kept ≡ true
      of_layer tail s (Whole e) own kept h = ap (λ (f : Scoping). f own kept) (at_scoped e) ∙ of_kind tail s (out-Expr e).place (out-ExprKind (out-Expr e).kind) own kept h
      of_layer tail s (Choice at b bs e) own kept h =
          let r = of_two tail tail s (Whole (body_of b)) (choice_of at bs e) own kept (fits_right own kept s (marks k n false s (test_of at (labels_of b))) (marks k n tail s (Whole (body_of b)) ++ marks k n tail s (choice_of at bs e)) h) in
          and_from (scoped_branch b own kept) (each_scoped (map (scoped_branch) bs) own kept && scoped k e own kept) (ap (λ (f : Scoping). f own kept) (at_branch b) ∙ r.0) (choice_scoped at bs e own kept r.1)
      of_layer tail s (AnyOf at ls) own kept h = refl
      of_layer tail s (Same at) own kept h = refl
      of_layer tail s (Atom at) own kept h = refl

    of_marks : (n : ℕ) → n ≤ most_depth → (tail : Bool) (s : List ℕ) (p : Piece) (own kept : List ℕ) → Fits own kept s (marks k n tail s p) → piece_scoped p own kept ≡ true
    unfolding marks
    of_marks zero small tail s p own kept h = let bad = h.sound.fine.0.level in absurd cc
    of_marks (suc n) small tail s p own kept h = of_layer n (omega arith) (of_marks n (omega arith)) tail s p own kept (fits_right own kept s (Node (place_of p) ∷ []) (layer k (marks k n) tail s p) h)

    -- ---- bodies and forms

    module _ (right : IsValid k) where
      body_fits : (l : ℕ) (m : Lambda) → slice_get k.lambdas l ≡ Some m → (o : Occurs k l) → Fits m.parameters (locals_of (mentioned k l) ++ m.captured) (m.parameters ++ o.scope) (marks k o.levels true (m.parameters ++ o.scope) (Whole m.body))
      body_fits l m e o = record {
        sound = sound_behind k o.scope m.parameters (map BindsParameter m.parameters) body (binds_parameters m.parameters) inside;
        covers = λ x i y. elim (in_append x m.parameters o.scope y) [
          | inl here ↦ or_left (stands_in x m.parameters) (stands_in x (locals_of (mentioned k l) ++ m.captured)) here
          | inr there ↦ or_right (stands_in x m.parameters) (stands_in x (locals_of (mentioned k l) ++ m.captured)) (outer x (free_in o.levels o.small o.scope o.group l o.sound x (names x i) there))
        ];
        stays = λ x i. elim (in_append x (locals_of (mentioned k l)) m.captured i) [
          | inl a ↦ o.known.stays x (subst (λ (g : List GroupEntry). stands_in x (locals_of g) ≡ true) o.sound.fine.0.meaning (filtered_from (λ y. stands_in y (named (lambda_text k l))) x (group_of k l) a))
          | inr b ↦ is_false (is_assigned k x) (λ a. let out = (right.captured_stay l m e).apart x a in absurd cc)
        ];
      }
        where
          body : List Mark
          body = marks k o.levels true (m.parameters ++ o.scope) (Whole m.body)

          inside : Sound k o.scope (map BindsParameter m.parameters ++ body)
          inside = subst (λ (b : Option Lambda). Sound k o.scope (body_marks (marks k o.levels) o.scope b)) e (sound_right k o.scope (Stands l o.group ∷ []) (body_marks (marks k o.levels) o.scope (slice_get k.lambdas l)) o.sound)

          names : (x : ℕ) → stands_in x (named body) ≡ true → stands_in x (named (lambda_marks k (marks k o.levels) o.scope o.group l)) ≡ true
          names x i = ap (λ (b : Option Lambda). stands_in x (named (body_marks (marks k o.levels) o.scope b))) e ∙ ap (stands_in x) (named_behind (map BindsParameter m.parameters) body m.parameters (binds_parameters m.parameters)) ∙ i

          outer : (x : ℕ) → IsFree k l x → stands_in x (locals_of (mentioned k l) ++ m.captured) ≡ true
          outer x free = elim (either (stands_in x (locals_of (group_of k l)))) [
            | inl a ↦ in_left x (locals_of (mentioned k l)) m.captured (filtered (λ y. stands_in y (named (lambda_text k l))) x (group_of k l) a free.names)
            | inr b ↦ in_right x (locals_of (mentioned k l)) m.captured (((captured.captured l m e).keeps x).1 (record { lambda = l; reached = itself; free = free; outside = b }))
          ]

      of_forms : (fs : List Form) → Sound k [] (form_marks k most_depth fs) → Each (IsScopedForm k) fs
      of_forms [] h = tt
      of_forms (f ∷ fs) h = (
        of_marks most_depth (omega arith) false [] (Whole (expr_of f)) [] [] (record { sound = sound_left k [] (marks k most_depth false [] (Whole (expr_of f))) (form_marks k most_depth fs) h; covers = λ x i o. absurd cc; stays = λ x i. absurd cc }),
        of_forms fs (sound_right k [] (marks k most_depth false [] (Whole (expr_of f))) (form_marks k most_depth fs) h),
      )

      -- what a lambda of a group reaches, another reaches that mentions its local
      further : (g : List GroupEntry) (l n x y : ℕ) → stands_in x (named (lambda_text k l)) ≡ true → is_entry x n g ≡ true → Reaches k g n y → Reaches k g l y
      further g l n x y i e itself = through l n x itself i e
      further g l n x z i e (through m p y r names d) = through m p y (further g l n x m i e r) names d

      body_makes : (l : ℕ) (m : Lambda) → slice_get k.lambdas l ≡ Some m → (o : Occurs k l) → list_all (λ (e : GroupEntry). can_make k e.lambda [] m.captured) (mentioned k l) ≡ true
      body_makes l m e o = subst (λ (g : List GroupEntry). list_all (λ (e : GroupEntry). can_make k e.lambda [] m.captured) (filter (λ (e : GroupEntry). stands_in e.local (named (lambda_text k l))) g) ≡ true) (sym o.sound.fine.0.meaning) (each o.group (λ x n i. i))
        where
          one : (x n : ℕ) → is_entry x n o.group ≡ true → stands_in x (named (lambda_text k l)) ≡ true → can_make k n [] m.captured ≡ true
          one x n i names =
              let here : group_of k n ≡ o.group = o.known.stands n (entry_lambda x n o.group i) in
              can_from [] m.captured n (λ y keeps.
              let it : Keeps k o.group n y = subst (λ (g : List GroupEntry). Keeps k g n y) here keeps in
              let mine : Keeps k o.group l y = record { lambda = it.lambda; reached = further o.group l n x it.lambda names i it.reached; free = it.free; outside = it.outside } in
              ((captured.captured l m e).keeps y).1 (subst (λ (g : List GroupEntry). Keeps k g l y) (sym o.sound.fine.0.meaning) mine))

          by_test : (b : Bool) (n : ℕ) (rest : List GroupEntry) (d : GroupEntry) → (b ≡ true → can_make k d.lambda [] m.captured ≡ true) → list_all (λ (e : GroupEntry). can_make k e.lambda [] m.captured) rest ≡ true
              → list_all (λ (e : GroupEntry). can_make k e.lambda [] m.captured) (if b then d ∷ rest else rest) ≡ true
          by_test true n rest d h r = and_from (can_make k d.lambda [] m.captured) (list_all (λ (e : GroupEntry). can_make k e.lambda [] m.captured) rest) (h refl) r
          by_test false n rest d h r = r

          each : (es : List GroupEntry) → ((x n : ℕ) → is_entry x n es ≡ true → is_entry x n o.group ≡ true) → list_all (λ (e : GroupEntry). can_make k e.lambda [] m.captured) (filter (λ (e : GroupEntry). stands_in e.local (named (lambda_text k l))) es) ≡ true
          each [] f = refl
          each (d ∷ es) f =
              by_test (stands_in d.local (named (lambda_text k l))) d.lambda (filter (λ (e : GroupEntry). stands_in e.local (named (lambda_text k l))) es) d
              (λ names. one d.local d.lambda (f d.local d.lambda (or_left (d.local == d.local && d.lambda == d.lambda) (is_entry d.local d.lambda es) (and_from (d.local == d.local) (d.lambda == d.lambda) (eq-eqb d.local d.local refl) (eq-eqb d.lambda d.lambda refl)))) names)
              (each es (λ x n i. f x n (or_right (x == d.local && n == d.lambda) (is_entry x n es) i)))

      pub are_scoped : AreScoped k
      unfolding text
      are_scoped = record {
        bodies = λ l m e.
            let o = occurs right l (there_below k.lambdas l m e) in
            record { scopes = of_marks o.levels o.small true (m.parameters ++ o.scope) (Whole m.body) m.parameters (locals_of (mentioned k l) ++ m.captured) (body_fits l m e o); makes = body_makes l m e o };
        forms = of_forms k.forms (whole k right);
      }

-- of a kernel that comes with names
pub kernel_is_scoped : (k : Kernel) (names : ℕ) → IsKernel k names → AreScoped k
kernel_is_scoped k names it = are_scoped k it.captured it.valid
