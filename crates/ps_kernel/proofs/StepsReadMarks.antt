-- The steps of a walk over a text, beside the marks of the text.
-- For: `is_right`
use Rattle.std.proofs.Common.{◌≡◌, ℕ, ℤ, zero, suc, ◌+◌, ◌≤◌, Bool, true, false, List, [], ◌∷◌, ◌++◌, length, map, Option, Some, None, slice_get, refl, sym, ap, subst, ◌∙◌, append_assoc, arith}
use Rattle.std.specs.Prelude.{◌==◌, ◌&&◌, ◌||◌, not}
use Rattle.std.specs.List.{list_all}
use Rattle.ps_base.specs.declared.faults.Place.{Place}
use Rattle.ps_kernel.specs.declared.expr.Constant.{Constant}
use Rattle.ps_kernel.specs.declared.expr.Constant.TheVariants as c
use Rattle.ps_kernel.specs.declared.expr.GroupEntry.{GroupEntry}
use Rattle.ps_kernel.specs.declared.expr.Expr.{Expr, out-Expr}
use Rattle.ps_kernel.specs.declared.expr.ExprKind.{ExprKind, out-ExprKind}
use Rattle.ps_kernel.specs.declared.expr.ExprKind.TheOpen.{ExprKind-F}
use Rattle.ps_kernel.specs.declared.expr.Labelled.{Labelled}
use Rattle.ps_kernel.specs.declared.kernel.Form.{Form}
use Rattle.ps_kernel.specs.declared.kernel.Kernel.{Kernel}
use Rattle.ps_kernel.specs.declared.kernel.Lambda.{Lambda}
use Rattle.ps_kernel.specs.Lists.{stands_in}
use Rattle.ps_kernel.specs.Marks.{Mark, Node, Stands, BindsParameter, BindsLet, BindsEntry, Mentions, Sets, Reads, Assigns, Quotes, Sequence, Replaces, Performs, Chooses, Piece, Whole, Choice, AnyOf, Same, Atom, place_of, choice_of, test_of, labels_of, body_of, locals_of, Reading, constant_marks, sequence_marks, part_marks, body_marks, lambda_marks, group_marks, kind_marks, layer, marks}
use Rattle.ps_prims.specs.Once.{times, AtMostOnce}
use Rattle.ps_kernel.specs.Rules.{nodes, is_in_scope}
use Rattle.ps_kernel.specs.Texts.{standing, bound, assigned, entries, expr_of, form_marks}
use Rattle.ps_kernel.specs.InsideSteps.{Step, Passes, Closes, Walking, nowhere, Part, Entire, Branch, SomeLabel, OneLabel, Leaf, branch_of, label_of, opens, opens_parameter, opens_entry, closes_entry, constant_steps, sequence_steps, part_steps, body_steps, lambda_steps, group_steps, layer_steps, walked, steps, form_steps, passed, without, is_scoped}
use Rattle.ps_kernel.specs.InsideWalks.{is_right_alone}
use Rattle.ps_kernel.proofs.NumbersStandInLists.{stands_append, times_append, in_times}
use Rattle.ps_kernel.proofs.PartsAreSound.{bound_append, binds_parameters, binds_entries}
use Rattle.ps_kernel.proofs.TableTellsScopes.{without_same, without_other}

-- ---- marks without places, groups and what is in scope

abbrev pub blind : Mark → Mark
blind (Node at) = Node nowhere
blind (Stands l g) = Stands l []
blind (Mentions x scope) = Mentions x []
blind (Sets x scope) = Sets x []
blind (Reads at g) = Reads nowhere g
blind (Assigns at g) = Assigns nowhere g
blind (Quotes at q) = Quotes nowhere q
blind (Performs at p n) = Performs nowhere p n
blind m = m

-- pieces without places
abbrev pub part_of : Piece → Part
part_of (Whole e) = Entire e
part_of (Choice at b bs e) = Branch b bs e
part_of (AnyOf at ls) = SomeLabel ls
part_of (Same at) = OneLabel
part_of (Atom at) = Leaf

pub nodes_blind : (ms : List Mark) → nodes (map blind ms) ≡ nodes ms
nodes_blind [] = refl
nodes_blind (Node at ∷ ms) = ap suc (nodes_blind ms)
nodes_blind (m ∷ ms) = nodes_blind ms

pub standing_blind : (ms : List Mark) → standing (map blind ms) ≡ standing ms
standing_blind [] = refl
standing_blind (Stands l g ∷ ms) = ap (λ (ls : List ℕ). l ∷ ls) (standing_blind ms)
standing_blind (m ∷ ms) = standing_blind ms

pub bound_blind : (ms : List Mark) → bound (map blind ms) ≡ bound ms
bound_blind [] = refl
bound_blind (BindsParameter x ∷ ms) = ap (λ (xs : List ℕ). x ∷ xs) (bound_blind ms)
bound_blind (BindsLet x ∷ ms) = ap (λ (xs : List ℕ). x ∷ xs) (bound_blind ms)
bound_blind (BindsEntry e ∷ ms) = ap (λ (xs : List ℕ). e.local ∷ xs) (bound_blind ms)
bound_blind (m ∷ ms) = bound_blind ms

pub assigned_blind : (ms : List Mark) → assigned (map blind ms) ≡ assigned ms
assigned_blind [] = refl
assigned_blind (Sets x s ∷ ms) = ap (λ (xs : List ℕ). x ∷ xs) (assigned_blind ms)
assigned_blind (m ∷ ms) = assigned_blind ms

pub entries_blind : (ms : List Mark) → entries (map blind ms) ≡ entries ms
entries_blind [] = refl
entries_blind (BindsEntry e ∷ ms) = ap (λ (xs : List ℕ). e.local ∷ xs) (entries_blind ms)
entries_blind (m ∷ ms) = entries_blind ms

one_alone : (k : Kernel) (m : Mark) → is_right_alone k (blind m) ≡ is_right_alone k m
one_alone k m = by m
  where
    by : (m : Mark) → is_right_alone k (blind m) ≡ is_right_alone k m
    by (Node at) = refl
    by m = refl

pub alone_blind : (k : Kernel) (ms : List Mark) → list_all (is_right_alone k) (map blind ms) ≡ list_all (is_right_alone k) ms
alone_blind k [] = refl
alone_blind k (m ∷ ms) = ap (λ (b : Bool). b && list_all (is_right_alone k) (map blind ms)) (one_alone k m) ∙ ap (λ (b : Bool). is_right_alone k m && b) (alone_blind k ms)

-- ---- lists

passed_append : (a b : List Step) → passed (a ++ b) ≡ passed a ++ passed b
passed_append [] b = refl
passed_append (Passes m ∷ a) b = ap (λ ms. m ∷ ms) (passed_append a b)
passed_append (Closes x ∷ a) b = passed_append a b

blind_append : (a b : List Mark) → map blind (a ++ b) ≡ map blind a ++ map blind b
blind_append [] b = refl
blind_append (m ∷ a) b = ap (λ ms. blind m ∷ ms) (blind_append a b)

in_scope_append : (a b : List Mark) → list_all is_in_scope (a ++ b) ≡ (list_all is_in_scope a && list_all is_in_scope b)
in_scope_append [] b = refl
in_scope_append (m ∷ a) b = by (is_in_scope m) (in_scope_append a b)
  where
    by : (d : Bool) → list_all is_in_scope (a ++ b) ≡ (list_all is_in_scope a && list_all is_in_scope b) → (d && list_all is_in_scope (a ++ b)) ≡ ((d && list_all is_in_scope a) && list_all is_in_scope b)
    by true h = h
    by false h = refl

-- ---- scopes

abbrev Alike : List ℕ → List ℕ → Type 0
Alike s t = (x : ℕ) → stands_in x s ≡ stands_in x t

-- what is in scope behind steps
abbrev behind_steps : List ℕ → List Step → List ℕ
behind_steps scope [] = scope
behind_steps scope (Closes x ∷ ss) = behind_steps (without x scope) ss
behind_steps scope (Passes (BindsParameter x) ∷ ss) = behind_steps (x ∷ scope) ss
behind_steps scope (Passes (BindsLet x) ∷ ss) = behind_steps (x ∷ scope) ss
behind_steps scope (Passes (BindsEntry e) ∷ ss) = behind_steps (e.local ∷ scope) ss
behind_steps scope (Passes m ∷ ss) = behind_steps scope ss

same_binds : (x : ℕ) (s t : List ℕ) → Alike s t → Alike (x ∷ s) (x ∷ t)
same_binds x s t h y = ap (λ (b : Bool). y == x || b) (h y)

same_closes : (x : ℕ) (s t : List ℕ) → Alike s t → Alike (without x s) (without x t)
same_closes x s t h y = by (y == x) refl
  where
    by : (b : Bool) → (y == x) ≡ b → stands_in y (without x s) ≡ stands_in y (without x t)
    by true e = without_same x y s e ∙ sym (without_same x y t e)
    by false e = without_other x y s e ∙ h y ∙ sym (without_other x y t e)

scoped_same : (s t : List ℕ) (ss : List Step) → Alike s t → is_scoped s ss ≡ is_scoped t ss
scoped_same s t [] h = refl
scoped_same s t (Closes x ∷ ss) h = scoped_same (without x s) (without x t) ss (same_closes x s t h)
scoped_same s t (Passes (BindsParameter x) ∷ ss) h = scoped_same (x ∷ s) (x ∷ t) ss (same_binds x s t h)
scoped_same s t (Passes (BindsLet x) ∷ ss) h = scoped_same (x ∷ s) (x ∷ t) ss (same_binds x s t h)
scoped_same s t (Passes (BindsEntry j) ∷ ss) h = scoped_same (j.local ∷ s) (j.local ∷ t) ss (same_binds j.local s t h)
scoped_same s t (Passes (Mentions x none) ∷ ss) h = ap (λ (b : Bool). b && is_scoped s ss) (h x) ∙ ap (λ (b : Bool). stands_in x t && b) (scoped_same s t ss h)
scoped_same s t (Passes (Sets x none) ∷ ss) h = ap (λ (b : Bool). b && is_scoped s ss) (h x) ∙ ap (λ (b : Bool). stands_in x t && b) (scoped_same s t ss h)
scoped_same s t (Passes m ∷ ss) h = scoped_same s t ss h

behind_same : (s t : List ℕ) (ss : List Step) → Alike s t → Alike (behind_steps s ss) (behind_steps t ss)
behind_same s t [] h = h
behind_same s t (Closes x ∷ ss) h = behind_same (without x s) (without x t) ss (same_closes x s t h)
behind_same s t (Passes (BindsParameter x) ∷ ss) h = behind_same (x ∷ s) (x ∷ t) ss (same_binds x s t h)
behind_same s t (Passes (BindsLet x) ∷ ss) h = behind_same (x ∷ s) (x ∷ t) ss (same_binds x s t h)
behind_same s t (Passes (BindsEntry j) ∷ ss) h = behind_same (j.local ∷ s) (j.local ∷ t) ss (same_binds j.local s t h)
behind_same s t (Passes m ∷ ss) h = behind_same s t ss h

and_assoc : (a b d : Bool) → (a && (b && d)) ≡ ((a && b) && d)
and_assoc true b d = refl
and_assoc false b d = refl

scoped_append : (s : List ℕ) (a b : List Step) → is_scoped s (a ++ b) ≡ (is_scoped s a && is_scoped (behind_steps s a) b)
scoped_append s [] b = refl
scoped_append s (Closes x ∷ a) b = scoped_append (without x s) a b
scoped_append s (Passes (BindsParameter x) ∷ a) b = scoped_append (x ∷ s) a b
scoped_append s (Passes (BindsLet x) ∷ a) b = scoped_append (x ∷ s) a b
scoped_append s (Passes (BindsEntry j) ∷ a) b = scoped_append (j.local ∷ s) a b
scoped_append s (Passes (Mentions x none) ∷ a) b = ap (λ (d : Bool). stands_in x s && d) (scoped_append s a b) ∙ and_assoc (stands_in x s) (is_scoped s a) (is_scoped (behind_steps s a) b)
scoped_append s (Passes (Sets x none) ∷ a) b = ap (λ (d : Bool). stands_in x s && d) (scoped_append s a b) ∙ and_assoc (stands_in x s) (is_scoped s a) (is_scoped (behind_steps s a) b)
scoped_append s (Passes m ∷ a) b = scoped_append s a b

behind_append : (s : List ℕ) (a b : List Step) → behind_steps s (a ++ b) ≡ behind_steps (behind_steps s a) b
behind_append s [] b = refl
behind_append s (Closes x ∷ a) b = behind_append (without x s) a b
behind_append s (Passes (BindsParameter x) ∷ a) b = behind_append (x ∷ s) a b
behind_append s (Passes (BindsLet x) ∷ a) b = behind_append (x ∷ s) a b
behind_append s (Passes (BindsEntry j) ∷ a) b = behind_append (j.local ∷ s) a b
behind_append s (Passes m ∷ a) b = behind_append s a b

-- ---- steps that fit marks

-- each local is bound once at most, and not if it is in scope
abbrev Free : List ℕ → List Step → Type 0
Free scope ss = (x : ℕ) → times x (bound (passed ss)) + times x scope ≤ 1

pub record Fits (scope : List ℕ) (ss : List Step) (ms : List Mark) : Type 0 where
  pub same : passed ss ≡ map blind ms
  pub tests : Free scope ss → is_scoped scope ss ≡ list_all is_in_scope ms
  pub leaves : Free scope ss → Alike (behind_steps scope ss) scope

times_both : (a b : List Step) (x : ℕ) → times x (bound (passed (a ++ b))) ≡ times x (bound (passed a)) + times x (bound (passed b))
times_both a b x = ap (times x) (ap bound (passed_append a b) ∙ bound_append (passed a) (passed b)) ∙ times_append x (bound (passed a)) (bound (passed b))

free_left : (scope : List ℕ) (a b : List Step) → Free scope (a ++ b) → Free scope a
free_left scope a b h x = let e = times_both a b x in let low : times x (bound (passed (a ++ b))) + times x scope ≤ 1 = h x in omega (arith, e)

free_right : (scope : List ℕ) (a b : List Step) → Free scope (a ++ b) → Free scope b
free_right scope a b h x = let e = times_both a b x in let low : times x (bound (passed (a ++ b))) + times x scope ≤ 1 = h x in omega (arith, e)

fits_nothing : (scope : List ℕ) → Fits scope [] []
fits_nothing scope = record { same = refl; tests = λ h. refl; leaves = λ h x. refl }

fits_append : (scope : List ℕ) (a b : List Step) (ms ns : List Mark) → Fits scope a ms → Fits scope b ns → Fits scope (a ++ b) (ms ++ ns)
fits_append scope a b ms ns p q = record {
  same = passed_append a b ∙ ap (λ (x : List Mark). x ++ passed b) p.same ∙ ap (λ (x : List Mark). map blind ms ++ x) q.same ∙ sym (blind_append ms ns);
  tests = λ h.
      scoped_append scope a b ∙ ap (λ (d : Bool). d && is_scoped (behind_steps scope a) b) (p.tests (free_left scope a b h)) ∙ ap (λ (d : Bool). list_all is_in_scope ms && d) (scoped_same (behind_steps scope a) scope b (p.leaves (free_left scope a b h)) ∙ q.tests (free_right scope a b h)) ∙ sym (in_scope_append ms ns);
  leaves = λ h x.
      ap (stands_in x) (behind_append scope a b) ∙ behind_same (behind_steps scope a) scope b (p.leaves (free_left scope a b h)) x ∙ q.leaves (free_right scope a b h) x;
}

-- ---- regions

-- marks that bind locals
abbrev pub is_binder : Mark → Bool
is_binder (BindsParameter x) = true
is_binder (BindsLet x) = true
is_binder (BindsEntry e) = true
is_binder m = false

abbrev pub AreBinders : List Mark → Type 0
AreBinders b = list_all is_binder b ≡ true

passed_all : (b : List Mark) → passed (map Passes b) ≡ b
passed_all [] = refl
passed_all (m ∷ b) = ap (λ (ms : List Mark). m ∷ ms) (passed_all b)

blind_binders : (b : List Mark) → AreBinders b → map blind b ≡ b
blind_binders [] h = refl
blind_binders (BindsParameter x ∷ b) h = ap (λ (ms : List Mark). BindsParameter x ∷ ms) (blind_binders b h)
blind_binders (BindsLet x ∷ b) h = ap (λ (ms : List Mark). BindsLet x ∷ ms) (blind_binders b h)
blind_binders (BindsEntry e ∷ b) h = ap (λ (ms : List Mark). BindsEntry e ∷ ms) (blind_binders b h)
blind_binders (m ∷ b) h = absurd cc

passed_closes : (a : List Step) (xs : List ℕ) → passed (a ++ map Closes xs) ≡ passed a
passed_closes [] [] = refl
passed_closes [] (x ∷ xs) = passed_closes [] xs
passed_closes (Passes m ∷ a) xs = ap (λ ms. m ∷ ms) (passed_closes a xs)
passed_closes (Closes y ∷ a) xs = passed_closes a xs

scoped_binders : (scope : List ℕ) (b : List Mark) → AreBinders b → is_scoped scope (map Passes b) ≡ true
scoped_binders scope [] h = refl
scoped_binders scope (BindsParameter x ∷ b) h = scoped_binders (x ∷ scope) b h
scoped_binders scope (BindsLet x ∷ b) h = scoped_binders (x ∷ scope) b h
scoped_binders scope (BindsEntry e ∷ b) h = scoped_binders (e.local ∷ scope) b h
scoped_binders scope (m ∷ b) h = absurd cc

scoped_closes : (scope xs : List ℕ) → is_scoped scope (map Closes xs) ≡ true
scoped_closes scope [] = refl
scoped_closes scope (x ∷ xs) = scoped_closes (without x scope) xs

in_scope_binders : (b : List Mark) → AreBinders b → list_all is_in_scope b ≡ true
in_scope_binders [] h = refl
in_scope_binders (BindsParameter x ∷ b) h = in_scope_binders b h
in_scope_binders (BindsLet x ∷ b) h = in_scope_binders b h
in_scope_binders (BindsEntry e ∷ b) h = in_scope_binders b h
in_scope_binders (m ∷ b) h = absurd cc

next_opens : (scope xs : List ℕ) (x y : ℕ) → stands_in y (xs ++ (x ∷ scope)) ≡ stands_in y (x ∷ (xs ++ scope))
next_opens scope xs x y = stands_append y xs (x ∷ scope) ∙ swap (stands_in y xs) (y == x) (stands_in y scope) ∙ ap (λ (d : Bool). y == x || d) (sym (stands_append y xs scope))
  where
    swap : (a b d : Bool) → (a || (b || d)) ≡ (b || (a || d))
    swap true true d = refl
    swap true false d = refl
    swap false b d = refl

behind_binders : (scope : List ℕ) (b : List Mark) → AreBinders b → Alike (behind_steps scope (map Passes b)) (bound b ++ scope)
behind_binders scope [] h y = refl
behind_binders scope (BindsParameter x ∷ b) h y = behind_binders (x ∷ scope) b h y ∙ next_opens scope (bound b) x y
behind_binders scope (BindsLet x ∷ b) h y = behind_binders (x ∷ scope) b h y ∙ next_opens scope (bound b) x y
behind_binders scope (BindsEntry e ∷ b) h y = behind_binders (e.local ∷ scope) b h y ∙ next_opens scope (bound b) e.local y
behind_binders scope (m ∷ b) h y = absurd cc

behind_closes : (scope xs : List ℕ) (y : ℕ) → stands_in y (behind_steps scope (map Closes xs)) ≡ (stands_in y scope && not (stands_in y xs))
behind_closes scope [] y = by (stands_in y scope)
  where
    by : (a : Bool) → a ≡ (a && true)
    by true = refl
    by false = refl
behind_closes scope (x ∷ xs) y = behind_closes (without x scope) xs y ∙ by (y == x) refl
  where
    neither : (a : Bool) → false ≡ (a && false)
    neither true = refl
    neither false = refl

    by : (b : Bool) → (y == x) ≡ b → (stands_in y (without x scope) && not (stands_in y xs)) ≡ (stands_in y scope && not (b || stands_in y xs))
    by true e = ap (λ (d : Bool). d && not (stands_in y xs)) (without_same x y scope e) ∙ neither (stands_in y scope)
    by false e = ap (λ (d : Bool). d && not (stands_in y xs)) (without_other x y scope e)

-- locals that are opened around steps, and closed behind them
fits_region : (scope : List ℕ) (b : List Mark) → AreBinders b → (ss : List Step) (ms : List Mark) → Fits (bound b ++ scope) ss ms → Fits scope (map Passes b ++ (ss ++ map Closes (bound b))) (b ++ ms)
fits_region scope b are ss ms p = record {
  same = passed_append (map Passes b) (ss ++ map Closes (bound b)) ∙ ap (λ (a : List Mark). a ++ passed (ss ++ map Closes (bound b))) (passed_all b ∙ sym (blind_binders b are)) ∙ ap (λ (a : List Mark). map blind b ++ a) (passed_closes ss (bound b) ∙ p.same) ∙ sym (blind_append b ms);
  tests = λ h.
      scoped_append scope (map Passes b) (ss ++ map Closes (bound b)) ∙ ap (λ (d : Bool). d && is_scoped (behind_steps scope (map Passes b)) (ss ++ map Closes (bound b))) (scoped_binders scope b are)
      ∙ scoped_same (behind_steps scope (map Passes b)) (bound b ++ scope) (ss ++ map Closes (bound b)) (behind_binders scope b are)
      ∙ scoped_append (bound b ++ scope) ss (map Closes (bound b)) ∙ ap (λ (d : Bool). is_scoped (bound b ++ scope) ss && d) (scoped_closes (behind_steps (bound b ++ scope) ss) (bound b)) ∙ last (is_scoped (bound b ++ scope) ss)
      ∙ p.tests (inside h) ∙ sym (in_scope_append b ms ∙ ap (λ (d : Bool). d && list_all is_in_scope ms) (in_scope_binders b are));
  leaves = λ h y.
      ap (stands_in y) (behind_append scope (map Passes b) (ss ++ map Closes (bound b))) ∙ behind_same (behind_steps scope (map Passes b)) (bound b ++ scope) (ss ++ map Closes (bound b)) (behind_binders scope b are) y
      ∙ ap (stands_in y) (behind_append (bound b ++ scope) ss (map Closes (bound b))) ∙ behind_same (behind_steps (bound b ++ scope) ss) (bound b ++ scope) (map Closes (bound b)) (p.leaves (inside h)) y
      ∙ behind_closes (bound b ++ scope) (bound b) y ∙ ap (λ (d : Bool). d && not (stands_in y (bound b))) (stands_append y (bound b) scope) ∙ only y (stands_in y (bound b)) (stands_in y scope) refl refl (h y);
}
  where
    last : (a : Bool) → (a && true) ≡ a
    last true = refl
    last false = refl

    counts : (x : ℕ) → times x (bound (passed (map Passes b ++ (ss ++ map Closes (bound b))))) ≡ times x (bound b) + times x (bound (passed ss))
    counts x = times_both (map Passes b) (ss ++ map Closes (bound b)) x ∙ ap (λ (n : ℕ). n + times x (bound (passed (ss ++ map Closes (bound b))))) (ap (λ (a : List Mark). times x (bound a)) (passed_all b)) ∙ ap (λ (n : ℕ). times x (bound b) + n) (ap (λ (a : List Mark). times x (bound a)) (passed_closes ss (bound b)))

    inside : Free scope (map Passes b ++ (ss ++ map Closes (bound b))) → Free (bound b ++ scope) ss
    inside h x = let e = counts x in let f = times_append x (bound b) scope in let low : times x (bound (passed (map Passes b ++ (ss ++ map Closes (bound b))))) + times x scope ≤ 1 = h x in omega (arith, e, f)

    only : (y : ℕ) (a d : Bool) → stands_in y (bound b) ≡ a → stands_in y scope ≡ d → times y (bound (passed (map Passes b ++ (ss ++ map Closes (bound b))))) + times y scope ≤ 1 → ((a || d) && not a) ≡ d
    only y true true p q low =
        let one : 1 ≤ times y (bound b) = in_times y (bound b) p in let two : 1 ≤ times y scope = in_times y scope q in
        let e = counts y in absurd (omega (arith, e))
    only y true false p q low = refl
    only y false true p q low = refl
    only y false false p q low = refl

-- ---- expressions

fits_constant : (scope : List ℕ) (at : Place) (q : Constant) → Fits scope (constant_steps q) (constant_marks at q)
fits_constant scope at (c.Integer i) = fits_nothing scope
fits_constant scope at (c.Boolean b) = fits_nothing scope
fits_constant scope at (c.Char b) = fits_nothing scope
fits_constant scope at c.Unit = fits_nothing scope
fits_constant scope at c.NullAddress = fits_nothing scope
fits_constant scope at (c.Quoted q) = record { same = refl; tests = λ h. refl; leaves = λ h x. refl }

-- a mark that opens no region and names no local, before others
fits_before : (scope : List ℕ) (m n : Mark) (ss : List Step) (ms : List Mark) → Fits scope (Passes m ∷ []) (n ∷ []) → Fits scope ss ms → Fits scope (Passes m ∷ ss) (n ∷ ms)
fits_before scope m n ss ms p q = fits_append scope (Passes m ∷ []) ss (n ∷ []) ms p q

opens_parameters : (xs : List ℕ) → map opens_parameter xs ≡ map Passes (map BindsParameter xs)
opens_parameters [] = refl
opens_parameters (x ∷ xs) = ap (λ (ss : List Step). Passes (BindsParameter x) ∷ ss) (opens_parameters xs)

binders_parameters : (xs : List ℕ) → AreBinders (map BindsParameter xs)
binders_parameters [] = refl
binders_parameters (x ∷ xs) = binders_parameters xs

opens_entries : (g : List GroupEntry) → map opens_entry g ≡ map Passes (map BindsEntry g)
opens_entries [] = refl
opens_entries (e ∷ g) = ap (λ (ss : List Step). opens_entry e ∷ ss) (opens_entries g)

binders_entries : (g : List GroupEntry) → AreBinders (map BindsEntry g)
binders_entries [] = refl
binders_entries (e ∷ g) = binders_entries g

closes_entries : (g : List GroupEntry) → map closes_entry g ≡ map Closes (locals_of g)
closes_entries [] = refl
closes_entries (e ∷ g) = ap (λ (ss : List Step). Closes e.local ∷ ss) (closes_entries g)

part_choice : (at : Place) (bs : List Labelled) (e : Expr) → part_of (choice_of at bs e) ≡ branch_of bs e
part_choice at [] e = refl
part_choice at (b ∷ bs) e = refl

part_test : (at : Place) (ls : List ℤ) → part_of (test_of at ls) ≡ label_of ls
part_test at [] = refl
part_test at (l ∷ []) = refl
part_test at (l ∷ m ∷ ls) = refl

module _ (k : Kernel) (f : Walking) (g : Reading) (fits : (tail : Bool) (scope : List ℕ) (p : Piece) → Fits scope (f tail (part_of p)) (g tail scope p)) where
  fits_choice : (tail : Bool) (scope : List ℕ) (at : Place) (bs : List Labelled) (e : Expr) → Fits scope (f tail (branch_of bs e)) (g tail scope (choice_of at bs e))
  fits_choice tail scope at bs e = subst (λ (p : Part). Fits scope (f tail p) (g tail scope (choice_of at bs e))) (part_choice at bs e) (fits tail scope (choice_of at bs e))

  fits_test : (tail : Bool) (scope : List ℕ) (at : Place) (ls : List ℤ) → Fits scope (f tail (label_of ls)) (g tail scope (test_of at ls))
  fits_test tail scope at ls = subst (λ (p : Part). Fits scope (f tail p) (g tail scope (test_of at ls))) (part_test at ls) (fits tail scope (test_of at ls))

  fits_parts : (scope : List ℕ) (es : List Expr) → Fits scope (part_steps f es) (part_marks g scope es)
  fits_parts scope [] = fits_nothing scope
  fits_parts scope (e ∷ es) = fits_append scope (f false (Entire e)) (part_steps f es) (g false scope (Whole e)) (part_marks g scope es) (fits false scope (Whole e)) (fits_parts scope es)

  fits_sequence : (tail : Bool) (scope : List ℕ) (es : List Expr) → Fits scope (sequence_steps f tail es) (sequence_marks g tail scope es)
  fits_sequence tail scope [] = fits_nothing scope
  fits_sequence tail scope (e ∷ []) = fits tail scope (Whole e)
  fits_sequence tail scope (e ∷ d ∷ es) = fits_append scope (f false (Entire e)) (sequence_steps f tail (d ∷ es)) (g false scope (Whole e)) (sequence_marks g tail scope (d ∷ es)) (fits false scope (Whole e)) (fits_sequence tail scope (d ∷ es))

  fits_body : (scope : List ℕ) (m : Option Lambda) → Fits scope (body_steps f m) (body_marks g scope m)
  fits_body scope None = fits_nothing scope
  fits_body scope (Some m) =
      let b = map BindsParameter m.parameters in
      let ms = g true (m.parameters ++ scope) (Whole m.body) in
      let bs : bound b ≡ m.parameters = (binds_parameters m.parameters).binds in
      subst (λ (ss : List Step). Fits scope (ss ++ (f true (Entire m.body) ++ map Closes m.parameters)) (b ++ ms)) (sym (opens_parameters m.parameters))
      (subst (λ (xs : List ℕ). Fits scope (map Passes b ++ (f true (Entire m.body) ++ map Closes xs)) (b ++ ms)) bs
      (fits_region scope b (binders_parameters m.parameters) (f true (Entire m.body)) ms
      (subst (λ (xs : List ℕ). Fits (xs ++ scope) (f true (Entire m.body)) ms) (sym bs) (fits true (m.parameters ++ scope) (Whole m.body)))))

  fits_lambda : (scope : List ℕ) (gs : List GroupEntry) (l : ℕ) → Fits scope (lambda_steps k f l) (lambda_marks k g scope gs l)
  fits_lambda scope gs l = fits_before scope (Stands l []) (Stands l gs) (body_steps f (slice_get k.lambdas l)) (body_marks g scope (slice_get k.lambdas l)) (record { same = refl; tests = λ h. refl; leaves = λ h x. refl }) (fits_body scope (slice_get k.lambdas l))

  fits_group : (scope : List ℕ) (gs es : List GroupEntry) → Fits scope (group_steps k f es) (group_marks k g scope gs es)
  fits_group scope gs [] = fits_nothing scope
  fits_group scope gs (e ∷ es) = fits_append scope (lambda_steps k f e.lambda) (group_steps k f es) (lambda_marks k g scope gs e.lambda) (group_marks k g scope gs es) (fits_lambda scope gs e.lambda) (fits_group scope gs es)

  fits_letrec : (tail : Bool) (scope : List ℕ) (es : List GroupEntry) (b : Expr) → Fits scope (map opens_entry es ++ (group_steps k f es ++ (f tail (Entire b) ++ map closes_entry es))) (map BindsEntry es ++ (group_marks k g (locals_of es ++ scope) es es ++ g tail (locals_of es ++ scope) (Whole b)))
  fits_letrec tail scope es b =
      let d = map BindsEntry es in
      let u = locals_of es ++ scope in
      let ms = group_marks k g u es es ++ g tail u (Whole b) in
      let ss = group_steps k f es ++ f tail (Entire b) in
      let bs : bound d ≡ locals_of es = (binds_entries es).binds in
      subst (λ (s : List Step). Fits scope s (d ++ ms)) (shape es (f tail (Entire b)) (group_steps k f es) (locals_of es))
      (subst (λ (xs : List ℕ). Fits scope (map Passes d ++ (ss ++ map Closes xs)) (d ++ ms)) bs
      (fits_region scope d (binders_entries es) ss ms
      (subst (λ (xs : List ℕ). Fits (xs ++ scope) ss ms) (sym bs)
      (fits_append u (group_steps k f es) (f tail (Entire b)) (group_marks k g u es es) (g tail u (Whole b)) (fits_group u es es) (fits tail u (Whole b))))))
    where
      shape : (es : List GroupEntry) (b gs : List Step) (xs : List ℕ) → map Passes (map BindsEntry es) ++ ((gs ++ b) ++ map Closes (locals_of es)) ≡ map opens_entry es ++ (gs ++ (b ++ map closes_entry es))
      shape es b gs xs =
          ap (λ (a : List Step). a ++ ((gs ++ b) ++ map Closes (locals_of es))) (sym (opens_entries es))
          ∙ ap (λ (a : List Step). map opens_entry es ++ a) (append_assoc gs b (map Closes (locals_of es)) ∙ ap (λ (a : List Step). gs ++ (b ++ a)) (sym (closes_entries es)))

  fits_call : (scope : List ℕ) (a : Expr) (es : List Expr) → Fits scope (f false (Entire a) ++ part_steps f es) (g false scope (Whole a) ++ part_marks g scope es)
  fits_call scope a es = fits_append scope (f false (Entire a)) (part_steps f es) (g false scope (Whole a)) (part_marks g scope es) (fits false scope (Whole a)) (fits_parts scope es)

  fits_kind : (tail : Bool) (scope : List ℕ) (at : Place) (y : ExprKind-F ExprKind Expr Labelled) → Fits scope (layer_steps k f tail y) (kind_marks k g tail scope at y)
  fits_kind tail scope at (ExprKind-F.Constant q) = fits_constant scope at q
  fits_kind tail scope at (ExprKind-F.Local x) = record { same = refl; tests = λ h. refl; leaves = λ h y. refl }
  fits_kind tail scope at (ExprKind-F.Global n) = record { same = refl; tests = λ h. refl; leaves = λ h y. refl }
  fits_kind tail scope at (ExprKind-F.Lambda l) = fits_lambda scope [] l
  fits_kind tail scope at (ExprKind-F.If a b d) =
      fits_append scope (f false (Entire a)) (f tail (Entire b) ++ f tail (Entire d)) (g false scope (Whole a)) (g tail scope (Whole b) ++ g tail scope (Whole d)) (fits false scope (Whole a))
      (fits_append scope (f tail (Entire b)) (f tail (Entire d)) (g tail scope (Whole b)) (g tail scope (Whole d)) (fits tail scope (Whole b)) (fits tail scope (Whole d)))
  fits_kind tail scope at (ExprKind-F.Let x a b) =
      fits_append scope (f false (Entire a)) (opens x ∷ (f tail (Entire b) ++ Closes x ∷ [])) (g false scope (Whole a)) (BindsLet x ∷ g tail (x ∷ scope) (Whole b)) (fits false scope (Whole a))
      (fits_region scope (BindsLet x ∷ []) refl (f tail (Entire b)) (g tail (x ∷ scope) (Whole b)) (fits tail (x ∷ scope) (Whole b)))
  fits_kind tail scope at (ExprKind-F.Letrec es b) = fits_letrec tail scope es b
  fits_kind tail scope at (ExprKind-F.Begin es) = fits_before scope (Sequence (length es)) (Sequence (length es)) (sequence_steps f tail es) (sequence_marks g tail scope es) (record { same = refl; tests = λ h. refl; leaves = λ h y. refl }) (fits_sequence tail scope es)
  fits_kind tail scope at (ExprKind-F.SetGlobal n a) = fits_before scope (Assigns nowhere n) (Assigns at n) (f false (Entire a)) (g false scope (Whole a)) (record { same = refl; tests = λ h. refl; leaves = λ h y. refl }) (fits false scope (Whole a))
  fits_kind tail scope at (ExprKind-F.SetLocal x a) = fits_before scope (Sets x []) (Sets x scope) (f false (Entire a)) (g false scope (Whole a)) (record { same = refl; tests = λ h. refl; leaves = λ h y. refl }) (fits false scope (Whole a))
  fits_kind tail scope at (ExprKind-F.Case q a bs e) =
      fits_before scope (Chooses q bs) (Chooses q bs) (f false (Entire a) ++ f tail (branch_of bs e)) (g false scope (Whole a) ++ g tail scope (choice_of at bs e)) (record { same = refl; tests = λ h. refl; leaves = λ h y. refl })
      (fits_append scope (f false (Entire a)) (f tail (branch_of bs e)) (g false scope (Whole a)) (g tail scope (choice_of at bs e)) (fits false scope (Whole a)) (fits_choice tail scope at bs e))
  fits_kind tail scope at (ExprKind-F.Call a es) = fits_call scope a es
  fits_kind tail scope at (ExprKind-F.ProperCall a es) = fits_before scope (Replaces tail) (Replaces tail) (f false (Entire a) ++ part_steps f es) (g false scope (Whole a) ++ part_marks g scope es) (record { same = refl; tests = λ h. refl; leaves = λ h y. refl }) (fits_call scope a es)
  fits_kind tail scope at (ExprKind-F.Primitive p es) = fits_before scope (Performs nowhere p (length es)) (Performs at p (length es)) (part_steps f es) (part_marks g scope es) (record { same = refl; tests = λ h. refl; leaves = λ h y. refl }) (fits_parts scope es)

  fits_layer : (tail : Bool) (scope : List ℕ) (p : Piece) → Fits scope (walked k f tail (part_of p)) (layer k g tail scope p)
  fits_layer tail scope (Whole e) = fits_kind tail scope (out-Expr e).place (out-ExprKind (out-Expr e).kind)
  fits_layer tail scope (Choice at b bs e) =
      fits_append scope (f false (label_of (labels_of b))) (f tail (Entire (body_of b)) ++ f tail (branch_of bs e)) (g false scope (test_of at (labels_of b))) (g tail scope (Whole (body_of b)) ++ g tail scope (choice_of at bs e)) (fits_test false scope at (labels_of b))
      (fits_append scope (f tail (Entire (body_of b))) (f tail (branch_of bs e)) (g tail scope (Whole (body_of b))) (g tail scope (choice_of at bs e)) (fits tail scope (Whole (body_of b))) (fits_choice tail scope at bs e))
  fits_layer tail scope (AnyOf at ls) =
      fits_append scope (f false OneLabel) (f tail Leaf ++ f tail (label_of ls)) (g false scope (Same at)) (g tail scope (Atom at) ++ g tail scope (test_of at ls)) (fits false scope (Same at))
      (fits_append scope (f tail Leaf) (f tail (label_of ls)) (g tail scope (Atom at)) (g tail scope (test_of at ls)) (fits tail scope (Atom at)) (fits_test tail scope at ls))
  fits_layer tail scope (Same at) = fits_append scope (f false Leaf) (f false Leaf) (g false scope (Atom at)) (g false scope (Atom at)) (fits false scope (Atom at)) (fits false scope (Atom at))
  fits_layer tail scope (Atom at) = fits_nothing scope

module _ (k : Kernel) where
  fits_marks : (n : ℕ) (tail : Bool) (scope : List ℕ) (p : Piece) → Fits scope (steps k n tail (part_of p)) (marks k n tail scope p)
  unfolding steps marks
  fits_marks zero tail scope p = record { same = refl; tests = λ h. refl; leaves = λ h x. refl }
  fits_marks (suc n) tail scope p = fits_before scope (Node nowhere) (Node (place_of p)) (walked k (steps k n) tail (part_of p)) (layer k (marks k n) tail scope p) (record { same = refl; tests = λ h. refl; leaves = λ h x. refl }) (fits_layer k (steps k n) (marks k n) (fits_marks n) tail scope p)

  fits_forms : (n : ℕ) (fs : List Form) → Fits [] (form_steps k n fs) (form_marks k n fs)
  fits_forms n [] = fits_nothing []
  fits_forms n (d ∷ fs) = fits_append [] (steps k n false (Entire (expr_of d))) (form_steps k n fs) (marks k n false [] (Whole (expr_of d))) (form_marks k n fs) (fits_marks n false [] (Whole (expr_of d))) (fits_forms n fs)

  pub form_same : (n : ℕ) (fs : List Form) → passed (form_steps k n fs) ≡ map blind (form_marks k n fs)
  form_same n fs = (fits_forms n fs).same

  pub form_scoped : (n : ℕ) (fs : List Form) → AtMostOnce (bound (passed (form_steps k n fs))) → is_scoped [] (form_steps k n fs) ≡ list_all is_in_scope (form_marks k n fs)
  form_scoped n fs once = (fits_forms n fs).tests (λ x. let low : times x (bound (passed (form_steps k n fs))) ≤ 1 = once.once x in omega arith)
