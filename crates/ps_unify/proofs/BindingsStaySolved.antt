-- Bindings stay solved where a variable is bound that is not bound, to a type that does not mean one with the variable in it;
-- and chains of variables end.
-- For: Subst::bound, Subst::head, Subst::bind, replaced_all
use Rattle.std.proofs.Common.{◌≡◌, ℕ, zero, suc, ◌+◌, ◌≤◌, ◌<◌, Bool, true, false, List, [], ◌∷◌, ◌++◌, map, Option, Some, None, refl, sym, ap, ◌∙◌, subst, arith, nat_eq, cond}
use Rattle.std.proofs.lemmas.List.{take_more, map-append}
use Rattle.std.proofs.lemmas.Option.{slice_get_within}
use Rattle.std.specs.Prelude.{slice_get, length, get_or, take, ◌≢◌, ◌==◌, if◌then◌else◌}
use Rattle.std.specs.Map.{lookup, lookup_key}
use Rattle.ps_types.specs.declared.types.Ty.{Ty, Ty-F, out-Ty}
use Rattle.ps_types.specs.declared.types.Ty.TheVariants.{Var, outs-Var}
use Rattle.ps_types.specs.Substitutions.{Substitution, apply, mentions, size, total}
use Rattle.ps_types.proofs.TypesAreTerms.{apply_var, mentions_var}
use Rattle.ps_types.proofs.SubstitutionsCompose.{composes, same_on, unchanged}
use Rattle.ps_unify.specs.Bindings.{Bindings, single, added, means, keeps, free, Free, apart, chained, Solved}
use Rattle.ps_unify.specs.InsideBindings.{At, Headed, meant, meant_all}
use Rattle.ps_unify.proofs.BindingsAreMostGeneral.{means_push, keeps_push, keeps_after}

some_of : {A : Type 0} (a b : A) → Some a ≡ Some b → a ≡ b
some_of a b e = search e

abbrev IsGone : {A : Type 0} → Option A → Type 0
IsGone None = Unit {0}
IsGone (Some m) = ⊥

gone : {A : Type 0} (b : A) → None ≡ Some b → ⊥
gone b e = subst IsGone e tt

keeps_at : (σ : Substitution) (s : Bindings) (i : ℕ) (b : ℕ × Ty) → keeps σ s → slice_get s i ≡ Some b → σ b.0 ≡ apply σ b.1
keeps_at σ [] i b h is = absurd (gone b is)
keeps_at σ (c ∷ s) zero b h is = subst (λ z. σ z.0 ≡ apply σ z.1) (some_of c b is) h.0
keeps_at σ (c ∷ s) (suc i) b h is = keeps_at σ s i b h.1 is

apart_at : (x : ℕ) (s : Bindings) (i : ℕ) (b : ℕ × Ty) → apart x s → slice_get s i ≡ Some b → b.1 ≢ Var x
apart_at x [] i b h is = absurd (gone b is)
apart_at x (c ∷ s) zero b h is = subst (λ z. z.1 ≢ Var x) (some_of c b is) h.0
apart_at x (c ∷ s) (suc i) b h is = apart_at x s i b h.1 is

later : (s : Bindings) (i j : ℕ) (b c : ℕ × Ty) → chained s → slice_get s i ≡ Some b → slice_get s j ≡ Some c → b.1 ≡ Var c.0 → i < j
later [] i j b c h is js e = absurd (gone b is)
later (d ∷ s) zero zero b c h is js e = absurd (h.0 (ap (λ z. z.1) (some_of d b is) ∙ e ∙ sym (ap (λ z. Var z.0) (some_of d c js))))
later (d ∷ s) zero (suc j) b c h is js e = omega arith
later (d ∷ s) (suc i) zero b c h is js e = absurd (apart_at d.0 s i b h.1 is (e ∙ sym (ap (λ z. Var z.0) (some_of d c js))))
later (d ∷ s) (suc i) (suc j) b c h is js e = omega (arith, later s i j b c h.2 is js e)

-- ---- one binding more

apart_push : (x : ℕ) (s : Bindings) (b : ℕ × Ty) → apart x s → b.1 ≢ Var x → apart x (s ++ b ∷ [])
apart_push x [] b h off = (off, tt)
apart_push x (c ∷ s) b h off = (h.0, apart_push x s b h.1 off)

chained_push : (s : Bindings) (b : ℕ × Ty) → chained s → ((x : ℕ) → b.1 ≡ Var x → free x s) → b.1 ≢ Var b.0 → chained (s ++ b ∷ [])
chained_push [] b h f off = (off, tt, tt)
chained_push (c ∷ s) b h f off = (h.0, apart_push c.0 s b h.1 (λ e. (f c.0 e).0 refl), chained_push s b h.2 (λ x e. (f x e).1) off)

free_start : (x : ℕ) (s : Bindings) (b : ℕ × Ty) → free x (s ++ b ∷ []) → free x s
free_start x [] b h = tt
free_start x (c ∷ s) b h = (h.0, free_start x s b h.1)

free_last : (x : ℕ) (s : Bindings) (b : ℕ × Ty) → free x (s ++ b ∷ []) → b.0 ≢ x
free_last x [] b h = h.0
free_last x (c ∷ s) b h = free_last x s b h.1

same_self : (x : ℕ) → (x == x) ≡ true
same_self x = grind arith

other_number : (x y : ℕ) → (x ≡ y → ⊥) → (x == y) ≡ false
other_number x y h = grind (arith, h)

single_here : (x : ℕ) (u : Ty) → single x u x ≡ u
single_here x u = ap (λ b. if b then u else Var x) (same_self x)

single_other : (x y : ℕ) (u : Ty) → (x ≡ y → ⊥) → single x u y ≡ Var y
single_other x y u h = ap (λ b. if b then u else Var y) (other_number x y h)

-- a type that does not hold x stays as it is where x is replaced
away : (x : ℕ) (u t : Ty) → mentions x t ≡ false → apply (single x u) t ≡ t
away x u t off = same_on (single x u) Var t (λ y on. single_other x y u (λ is. true_false (sym on ∙ sym (ap (λ z. mentions z t) is) ∙ off))) ∙ unchanged t
  where
    true_false : true ≡ false → ⊥
    true_false e = absurd (grind (arith, e))

module _ (s : Bindings) (x : ℕ) (t : Ty) (h : Solved s) (f : Free x s) (headed : Headed s t) (off : mentions x (apply (means s) t) ≡ false) where
  abbrev u : Ty
  u = apply (means s) t

  abbrev after : Substitution
  after = added (means s) x t

  last : after x ≡ apply after t
  last = ap (apply (single x u)) (h.unbound x f) ∙ apply_var (single x u) x ∙ single_here x u
      ∙ sym (away x u u off) ∙ composes (single x u) (means s) t

  distinct : (y : ℕ) → t ≡ Var y → x ≡ y → ⊥
  distinct y e is =
      let m : mentions x (apply (means s) t) ≡ (y == x) =
      ap (λ z. mentions x (apply (means s) z)) e ∙ ap (mentions x) (apply_var (means s) y ∙ h.unbound y (headed.unbound y e)) ∙ mentions_var x y in
      grind (arith, m, off, is)

  unbound_after : (y : ℕ) → free y (s ++ (x, t) ∷ []) → after y ≡ Var y
  unbound_after y fr = ap (apply (single x u)) (h.unbound y (record { all = free_start y s (x, t) fr })) ∙ apply_var (single x u) y ∙ single_other x y u (free_last y s (x, t) fr)

  pub solved_push : Solved (s ++ (x, t) ∷ [])
  solved_push = record {
    solved = subst (λ σ. keeps σ (s ++ (x, t) ∷ [])) (sym (means_push s (x, t))) (keeps_push after s (x, t) (keeps_after (single x u) (means s) s h.solved) last);
    unbound = λ y fr. ap (λ σ. σ y) (means_push s (x, t)) ∙ unbound_after y fr.all;
    order = chained_push s (x, t) h.order (λ y e. (headed.unbound y e).all) (λ e. distinct x e refl);
  }

-- ---- looking up

pub at_entry : (s : Bindings) (i x k : ℕ) (t : Ty) → lookup_key (nat_eq x) s ≡ Some k → slice_get s i ≡ Some (k, t) → At s i x t
at_entry s i x k t key is = record {
  there = is ∙ ap (λ z. Some (z, t)) (found s key);
  below = slice_get_within s i (k, t) is;
}
  where
    by : (es : Bindings) (b : Bool) (j : ℕ) (rest : Option ℕ) → nat_eq x j ≡ b → (rest ≡ Some k → k ≡ x) → (if b then Some j else rest) ≡ Some k → k ≡ x
    by es true j rest e h on = sym (some_of j k on) ∙ grind (arith, e)
    by es false j rest e h on = h on

    found : (es : Bindings) → lookup_key (nat_eq x) es ≡ Some k → k ≡ x
    found [] on = absurd (gone k on)
    found (e ∷ es) on = by es (nat_eq x e.0) e.0 (lookup_key (nat_eq x) es) refl (found es) on

unequal : (x : ℕ) (e : ℕ × Ty) (b : Bool) → nat_eq x e.0 ≡ b → (rest : Option Ty) → cond b (Some e.1) rest ≡ None → e.0 ≢ x
unequal x e true is rest on = absurd (gone e.1 (sym on))
unequal x e false is rest on = λ same. grind (arith, is, same)

absent_after : (e : Ty) (b : Bool) (rest : Option Ty) → cond b (Some e) rest ≡ None → rest ≡ None
absent_after e true rest on = absurd (gone e (sym on))
absent_after e false rest on = on

pub free_of : (x : ℕ) (es : Bindings) → lookup (nat_eq x) es ≡ None → free x es
free_of x [] h = tt
free_of x (e ∷ es) h =
    (unequal x e (nat_eq x e.0) refl (lookup (nat_eq x) es) h, free_of x es (absent_after e.1 (nat_eq x e.0) (lookup (nat_eq x) es) h))

skipped : (x : ℕ) (e : ℕ × Ty) (b : Bool) → nat_eq x e.0 ≡ b → e.0 ≢ x → (rest : Option Ty) → rest ≡ None → cond b (Some e.1) rest ≡ None
skipped x e true is off rest on = absurd (off (grind (arith, is)))
skipped x e false is off rest on = on

pub not_found : (x : ℕ) (es : Bindings) → free x es → lookup (nat_eq x) es ≡ None
not_found x [] h = refl
not_found x (e ∷ es) h = skipped x e (nat_eq x e.0) refl h.0 (lookup (nat_eq x) es) (not_found x es h.1)

-- ---- the end of a chain

pub next_same : (s : Bindings) (t : Ty) (i x : ℕ) (u : Ty) → Solved s → t ≡ Var x → At s i x u → apply (means s) u ≡ apply (means s) t
next_same s t i x u h e at = sym (keeps_at (means s) s i (x, u) h.solved at.there) ∙ sym (apply_var (means s) x) ∙ ap (apply (means s)) (sym e)

pub next_later : (s : Bindings) (i j x y : ℕ) (u v : Ty) → Solved s → At s i x u → u ≡ Var y → At s j y v → i + 1 ≤ j
next_later s i j x y u v h at e on = omega (arith, later s i j (x, u) (y, v) h.order at.there on.there e)

abbrev variable_number : Ty-F Ty → ℕ
variable_number (Ty-F.Var x) = x
variable_number k = 0

pub var_injective : (x y : ℕ) → Var x ≡ Var y → x ≡ y
var_injective x y e = ap variable_number (sym (outs-Var x) ∙ ap out-Ty e ∙ outs-Var y)

pub headed_var : (s : Bindings) (t : Ty) (x : ℕ) → t ≡ Var x → Free x s → Headed s t
headed_var s t x e f = record { unbound = λ y is. subst (λ z. Free z s) (var_injective x y (sym e ∙ is)) f }

-- ---- lists

pub map_take_more : {A B : Type 0} (f : A → B) (ts : List A) (i : ℕ) (t : A) (r : B) (all new : List B) → i < length ts → t ≡ get_or ts i t → r ≡ f t → all ≡ map f (take i ts) → new ≡ all ++ r ∷ [] → new ≡ map f (take (i + 1) ts)
map_take_more f ts i t r all new lt is e h n =
    n ∙ ap (λ z. z ++ r ∷ []) h ∙ ap (λ z. map f (take i ts) ++ z ∷ []) (e ∙ ap f is)
    ∙ sym (ap (map f) (take_more ts i t lt) ∙ map-append f (take i ts) (get_or ts i t ∷ []))

item_size : (σ : Substitution) (ts : List Ty) (i : ℕ) (d : Ty) → i < length ts → size (apply σ (get_or ts i d)) ≤ total (map size (map (apply σ) ts))
item_size σ [] i d lt = absurd (omega (arith, lt))
item_size σ (t ∷ ts) zero d lt = omega arith
item_size σ (t ∷ ts) (suc i) d lt = omega (arith, item_size σ ts i d (omega (arith, lt)))

pub item_meant : (s : Bindings) (ts : List Ty) (i : ℕ) (t : Ty) → i < length ts → t ≡ get_or ts i t → meant s t ≤ meant_all s ts
item_meant s ts i t lt is = omega (arith, item_size (means s) ts i t lt, ap (meant s) is)
