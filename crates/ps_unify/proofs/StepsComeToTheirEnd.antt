-- What steps of unification come to, one after another and said in other words.
-- For: equalize, compare, tie, compare_parts, equalize_all, bind_within
use Rattle.std.proofs.Common.{◌≡◌, ℕ, ◌+◌, ◌≤◌, ◌<◌, true, false, List, [], ◌∷◌, ◌++◌, map, Result, Ok, Err, refl, sym, ap, ◌∙◌, subst, append_assoc, arith}
use Rattle.std.specs.Prelude.{◌≢◌, ◌==◌}
use Rattle.std.proofs.lemmas.List.{append-nil}
use Rattle.ps_types.specs.declared.types.Ty.{Ty, Ty-F, map-Ty, roll-Ty, out-Ty, roll-out-Ty}
use Rattle.ps_types.specs.declared.types.Ty.TheVariants.{Var, rolls-Var}
use Rattle.ps_types.specs.Substitutions.{Substitution, applied, apply, mentions, size}
use Rattle.ps_types.proofs.TypesAreTerms.{apply_at, apply_var, mentions_var, some_size}
use Rattle.ps_types.proofs.InstancesAreNoSmaller.{IsMore, fits_more}
use Rattle.ps_unify.specs.declared.faults.WithinFault.{WithinFault}
use Rattle.ps_unify.specs.declared.faults.WithinFault.TheVariants.{Unequal, TooLarge, NoMemory}
use Rattle.ps_unify.specs.Bindings.{Bindings, means, Extends, Free, Solved}
use Rattle.ps_unify.specs.InsideBindings.{Headed, Longer, meant}
use Rattle.ps_unify.specs.InsideShapes.{NoVariable, shape_of, parameters_of, last_of}
use Rattle.ps_unify.specs.InsideSteps.{Equal, EqualAll, Becomes, weight, weights, Reached, outcome, Comes}
use Rattle.ps_unify.specs.Unification.{Unifies, Never, Outgrows}
use Rattle.ps_unify.proofs.BindingsAreMostGeneral.{general, meant_no_larger, means_extends, keeps_push, keeps_start, keeps_last}
use Rattle.ps_unify.proofs.BindingsStaySolved.{solved_push}
use Rattle.ps_unify.proofs.TypesHaveParts.{same_shapes, parts_equal, equal_of_parts, weight_of_parts}

pub longer_self : (s : Bindings) → Longer s s
longer_self s = record { more = []; whole = sym (append-nil s) }

longer_both : (s s' s'' : Bindings) → Longer s s' → Longer s' s'' → Longer s s''
longer_both s s' s'' h g = record { more = h.more ++ g.more; whole = g.whole ∙ ap (λ z. z ++ g.more) h.whole ∙ append_assoc s h.more g.more }

-- ---- ends

module _ (s : Bindings) (p : Substitution → Type 0) (m : Substitution → ℕ) (least room : ℕ) where
  pub wants_memory : (s' : Bindings) → Longer s s' → Comes s p m least room s' (Err NoMemory)
  wants_memory s' l = record { longer = l; outcome = tt }

  pub stops_unequal : ((θ : Substitution) → Extends θ s → p θ → ⊥) → Comes s p m least room s (Err Unequal)
  stops_unequal h = record { longer = longer_self s; outcome = record { never = h } }

  pub stops_large : ((θ : Substitution) → Extends θ s → p θ → room < m θ) → Comes s p m least room s (Err TooLarge)
  stops_large h = record { longer = longer_self s; outcome = record { outgrows = h } }

  pub holds_already : Solved s → ((θ : Substitution) → Extends θ s → p θ) → (left : ℕ) → left + least ≤ room → ((θ : Substitution) → room ≤ left + m θ) → Comes s p m least room s (Ok left)
  holds_already h holds left falls used = record {
    longer = longer_self s;
    outcome = record { solved = h; extends = λ θ e. e; holds = holds; most_general = λ θ e i. e; used = λ θ e. used θ; falls = falls };
  }

-- ---- the same in other words

module _ (s : Bindings) (p q : Substitution → Type 0) (m n : Substitution → ℕ) (k : ℕ)
    (down : (θ : Substitution) → Extends θ s → q θ → p θ) (up : (θ : Substitution) → Extends θ s → p θ → q θ)
    (sizes : (θ : Substitution) → Extends θ s → p θ → n θ ≡ m θ + k)
    (least least' room room' : ℕ) (rooms : room' ≡ room + k) (falls : least' ≤ least + k) (s' : Bindings) where
  restated_outcome : (r : Result ℕ WithinFault) → outcome s p m least room s' r → outcome s q n least' room' s' r
  restated_outcome (Ok left) h = record {
    solved = h.solved;
    extends = h.extends;
    holds = λ θ e. up θ (h.extends θ e) (h.holds θ e);
    most_general = λ θ e i. h.most_general θ e (down θ e i);
    used = λ θ e. omega (arith, rooms, h.used θ e, sizes θ (h.extends θ e) (h.holds θ e));
    falls = omega (arith, rooms, falls, h.falls);
  }
  restated_outcome (Err Unequal) h = record { never = λ θ e i. h.never θ e (down θ e i) }
  restated_outcome (Err TooLarge) h = record { outgrows = λ θ e i. omega (arith, rooms, h.outgrows θ e (down θ e i), sizes θ e (down θ e i)) }
  restated_outcome (Err NoMemory) h = tt

  pub restated : (r : Result ℕ WithinFault) → Comes s p m least room s' r → Comes s q n least' room' s' r
  restated r h = record { longer = h.longer; outcome = restated_outcome r h.outcome }

-- ---- one after another

module _ (s : Bindings) (p q : Substitution → Type 0) (m n : Substitution → ℕ) (least then room : ℕ) (s' : Bindings) where
  abbrev pub Both : Substitution → Type 0
  Both θ = p θ × q θ

  abbrev pub sum : Substitution → ℕ
  sum θ = m θ + n θ

  module _ (left : ℕ) (s'' : Bindings) where
    both_outcome : Reached s p m least room s' left → (r : Result ℕ WithinFault) → outcome s' q n then left s'' r → outcome s Both sum (least + then) room s'' r
    both_outcome h (Ok rest) g = record {
      solved = g.solved;
      extends = λ θ e. h.extends θ (g.extends θ e);
      holds = λ θ e. (h.holds θ (g.extends θ e), g.holds θ e);
      most_general = λ θ e i. g.most_general θ (h.most_general θ e i.0) i.1;
      used = λ θ e. omega (arith, h.used θ (g.extends θ e), g.used θ e);
      falls = omega (arith, h.falls, g.falls);
    }
    both_outcome h (Err Unequal) g = record { never = λ θ e i. g.never θ (h.most_general θ e i.0) i.1 }
    both_outcome h (Err TooLarge) g = record { outgrows = λ θ e i. omega (arith, h.used θ (h.most_general θ e i.0), g.outgrows θ (h.most_general θ e i.0) i.1) }
    both_outcome h (Err NoMemory) g = tt

    pub both : Comes s p m least room s' (Ok left) → (r : Result ℕ WithinFault) → Comes s' q n then left s'' r → Comes s Both sum (least + then) room s'' r
    both h r g = record { longer = longer_both s s' s'' h.longer g.longer; outcome = both_outcome h.outcome r g.outcome }

  first_outcome : (e : WithinFault) → outcome s p m least room s' (Err e) → outcome s Both sum (least + then) room s' (Err e)
  first_outcome Unequal h = record { never = λ θ e i. h.never θ e i.0 }
  first_outcome TooLarge h = record { outgrows = λ θ e i. omega (arith, h.outgrows θ e i.0) }
  first_outcome NoMemory h = tt

  pub first_stops : (e : WithinFault) → Comes s p m least room s' (Err e) → Comes s Both sum (least + then) room s' (Err e)
  first_stops e h = record { longer = h.longer; outcome = first_outcome e h.outcome }

-- ---- the ends of chains

pub same_extended : (s : Bindings) (c a : Ty) → apply (means s) c ≡ apply (means s) a → (θ : Substitution) → Extends θ s → apply θ c ≡ apply θ a
same_extended s c a is θ e = sym (general θ s e c) ∙ ap (apply θ) is ∙ general θ s e a

pub from_left : (s : Bindings) (c a b : Ty) → apply (means s) c ≡ apply (means s) a → (room : ℕ) (s' : Bindings) (r : Result ℕ WithinFault)
    → Comes s (Equal c b) (weight c) 1 room s' r → Comes s (Equal a b) (weight a) 1 room s' r
from_left s c a b is room s' = restated s (Equal c b) (Equal a b) (weight c) (weight a) 0
    (λ θ e i. same_extended s c a is θ e ∙ i) (λ θ e i. sym (same_extended s c a is θ e) ∙ i)
    (λ θ e i. omega (arith, ap size (same_extended s c a is θ e))) 1 1 room room (omega arith) (omega arith) s'

pub from_right : (s : Bindings) (a c b : Ty) → apply (means s) c ≡ apply (means s) b → (room : ℕ) (s' : Bindings) (r : Result ℕ WithinFault)
    → Comes s (Equal a c) (weight a) 1 room s' r → Comes s (Equal a b) (weight a) 1 room s' r
from_right s a c b is room s' = restated s (Equal a c) (Equal a b) (weight a) (weight a) 0
    (λ θ e i. i ∙ sym (same_extended s c b is θ e)) (λ θ e i. i ∙ same_extended s c b is θ e)
    (λ θ e i. omega arith) 1 1 room room (omega arith) (omega arith) s'

-- ---- variables

pub left_becomes : (s : Bindings) (a b : Ty) (x : ℕ) → a ≡ Var x → (room : ℕ) (s' : Bindings) (r : Result ℕ WithinFault)
    → Comes s (Becomes x b) (weight b) 1 room s' r → Comes s (Equal a b) (weight a) 1 room s' r
left_becomes s a b x is room s' = restated s (Becomes x b) (Equal a b) (weight b) (weight a) 0
    (λ θ e i. sym (at θ) ∙ i) (λ θ e i. at θ ∙ i)
    (λ θ e i. omega (arith, ap size (at θ ∙ i))) 1 1 room room (omega arith) (omega arith) s'
  where
    at : (θ : Substitution) → apply θ a ≡ θ x
    at θ = ap (apply θ) is ∙ apply_var θ x

pub right_becomes : (s : Bindings) (a b : Ty) (y : ℕ) → b ≡ Var y → (room : ℕ) (s' : Bindings) (r : Result ℕ WithinFault)
    → Comes s (Becomes y a) (weight a) 1 room s' r → Comes s (Equal a b) (weight a) 1 room s' r
right_becomes s a b y is room s' = restated s (Becomes y a) (Equal a b) (weight a) (weight a) 0
    (λ θ e i. sym (at θ) ∙ sym i) (λ θ e i. sym (at θ ∙ i))
    (λ θ e i. omega arith) 1 1 room room (omega arith) (omega arith) s'
  where
    at : (θ : Substitution) → apply θ b ≡ θ y
    at θ = ap (apply θ) is ∙ apply_var θ y

pub from_variables : (s : Bindings) (a b : Ty) (x y : ℕ) → a ≡ Var x → b ≡ Var y → (room : ℕ) (s' : Bindings) (r : Result ℕ WithinFault)
    → Comes s (Equal (Var x) (Var y)) (weight (Var x)) 1 room s' r → Comes s (Equal a b) (weight a) 1 room s' r
from_variables s a b x y is js room s' r h = subst (λ z. Comes s (Equal z b) (weight z) 1 room s' r) (sym is) (subst (λ z. Comes s (Equal (Var x) z) (weight (Var x)) 1 room s' r) (sym js) h)

-- ---- one binding

module _ (s : Bindings) (x : ℕ) (t : Ty) where
  -- a variable in a larger type
  module _ (off : t ≢ Var x) (on : mentions x (apply (means s) t) ≡ true) (θ : Substitution) (e : Extends θ s) (is : Becomes x t θ) where
    larger : (k : Ty-F Ty) → apply (means s) t ≡ roll-Ty k → IsMore k → ⊥
    larger k at m = absurd (omega (arith, fits_more θ x k m (ap (mentions x) (sym at) ∙ on), ap size (is ∙ sym (general θ s e t) ∙ ap (apply θ) at)))

    equal_numbers : (y : ℕ) → (y == x) ≡ true → y ≡ x
    equal_numbers y h = grind (arith, h)

    meets : (k : Ty-F Ty) → roll-Ty k ≡ t → apply (means s) t ≡ applied (means s) (map-Ty Ty Ty (apply (means s)) k)
    meets k at = ap (apply (means s)) (sym at) ∙ apply_at (means s) k

    endless_at : Solved s → Headed s t → (k : Ty-F Ty) → roll-Ty k ≡ t → ⊥
    endless_at h g Ty-F.Integer at = larger Ty-F.Integer (meets Ty-F.Integer at) tt
    endless_at h g Ty-F.Boolean at = larger Ty-F.Boolean (meets Ty-F.Boolean at) tt
    endless_at h g Ty-F.Char at = larger Ty-F.Char (meets Ty-F.Char at) tt
    endless_at h g Ty-F.Unit at = larger Ty-F.Unit (meets Ty-F.Unit at) tt
    endless_at h g Ty-F.Address at = larger Ty-F.Address (meets Ty-F.Address at) tt
    endless_at h g Ty-F.Text at = larger Ty-F.Text (meets Ty-F.Text at) tt
    endless_at h g (Ty-F.Vector a) at = larger (Ty-F.Vector (apply (means s) a)) (meets (Ty-F.Vector a) at) tt
    endless_at h g (Ty-F.Tuple k) at = larger (Ty-F.Tuple k) (meets (Ty-F.Tuple k) at) tt
    endless_at h g (Ty-F.Proc ts r) at = larger (Ty-F.Proc (map (apply (means s)) ts) (apply (means s) r)) (meets (Ty-F.Proc ts r) at) tt
    endless_at h g (Ty-F.Var y) at =
        let ty : t ≡ Var y = sym at ∙ rolls-Var y in
        let m : mentions x (apply (means s) t) ≡ (y == x) = ap (mentions x) (ap (apply (means s)) ty ∙ apply_var (means s) y ∙ h.unbound y (g.unbound y ty)) ∙ mentions_var x y in
        off (ty ∙ ap Var (equal_numbers y (sym m ∙ on)))

    endless : Solved s → Headed s t → ⊥
    endless h g = endless_at h g (out-Ty t) (roll-out-Ty t)

  module _ (room : ℕ) where
    pub occurs : Solved s → Headed s t → t ≢ Var x → mentions x (apply (means s) t) ≡ true → Comes s (Becomes x t) (weight t) 1 room s (Err Unequal)
    occurs h g off on = stops_unequal s (Becomes x t) (weight t) 1 room (λ θ e is. endless off on θ e is h g)

    pub outgrows : room < meant s t → Comes s (Becomes x t) (weight t) 1 room s (Err TooLarge)
    outgrows lt = stops_large s (Becomes x t) (weight t) 1 room (λ θ e is. omega (arith, lt, meant_no_larger θ s e t))

    pub binds : Solved s → Free x s → Headed s t → mentions x (apply (means s) t) ≡ false → (left : ℕ) → left + meant s t ≡ room
        → (s' : Bindings) → s' ≡ s ++ (x, t) ∷ [] → Comes s (Becomes x t) (weight t) 1 room s' (Ok left)
    binds h f g off left is s' new = subst (λ z. Comes s (Becomes x t) (weight t) 1 room z (Ok left)) (sym new) (record {
      longer = record { more = (x, t) ∷ []; whole = refl };
      outcome = record {
        solved = solved_push s x t h f g off;
        extends = starts;
        holds = λ θ e. keeps_last θ s (x, t) e.all;
        most_general = λ θ e i. record { all = keeps_push θ s (x, t) e.all i };
        used = λ θ e. omega (arith, is, meant_no_larger θ s (starts θ e) t);
        falls = omega (arith, is, some_size (apply (means s) t));
      };
    })
      where
        starts : (θ : Substitution) → Extends θ (s ++ (x, t) ∷ []) → Extends θ s
        starts θ e = record { all = keeps_start θ s ((x, t) ∷ []) e.all }

-- ---- parts

module _ (s : Bindings) (a b : Ty) (h : NoVariable a) (g : NoVariable b) where
  pub shapes_differ : (shape_of a ≢ shape_of b) → (room : ℕ) → Comes s (Equal a b) (weight a) 1 room s (Err Unequal)
  shapes_differ off room = stops_unequal s (Equal a b) (weight a) 1 room (λ θ e is. off (same_shapes θ a b h g is))

  pub from_parts : shape_of a ≡ shape_of b → (room room' : ℕ) → room' ≡ room + 1 → (s' : Bindings) (r : Result ℕ WithinFault)
      → Comes s (λ θ. EqualAll (parameters_of a) (parameters_of b) θ × EqualAll (last_of a) (last_of b) θ) (λ θ. weights (parameters_of a) θ + weights (last_of a) θ) 0 room s' r
      → Comes s (Equal a b) (weight a) 1 room' s' r
  from_parts e room room' rooms s' = restated s (λ θ. EqualAll (parameters_of a) (parameters_of b) θ × EqualAll (last_of a) (last_of b) θ) (Equal a b)
      (λ θ. weights (parameters_of a) θ + weights (last_of a) θ) (weight a) 1
      (λ θ ext is. parts_equal θ a b h g is) (λ θ ext is. equal_of_parts θ a b h g e is)
      (λ θ ext is. weight_of_parts θ a h) 0 1 room room' rooms (omega arith) s'

module _ (s : Bindings) (a b : Ty) (h : NoVariable a) (g : NoVariable b) (pa pb : List Ty) (is : pa ≡ parameters_of a) (js : pb ≡ parameters_of b)
    (e : shape_of a ≡ shape_of b) (room room' : ℕ) (rooms : room' ≡ room + 1) (s' : Bindings) where
  abbrev InParameters : Result ℕ WithinFault → Type 0
  InParameters = Comes s (EqualAll pa pb) (weights pa) 0 room s'

  parameters_come : (r : Result ℕ WithinFault) → InParameters r → Comes s (EqualAll (parameters_of a) (parameters_of b)) (weights (parameters_of a)) 0 room s' r
  parameters_come r c = subst (λ z. Comes s (EqualAll (parameters_of a) z) (weights (parameters_of a)) 0 room s' r) js (subst (λ z. Comes s (EqualAll z pb) (weights z) 0 room s' r) is c)

  pub parts_stop : (f : WithinFault) → InParameters (Err f) → Comes s (Equal a b) (weight a) 1 room' s' (Err f)
  parts_stop f c = from_parts s a b h g e room room' rooms s' (Err f)
      (first_stops s (EqualAll (parameters_of a) (parameters_of b)) (EqualAll (last_of a) (last_of b)) (weights (parameters_of a)) (weights (last_of a)) 0 0 room s' f (parameters_come (Err f) c))

  pub parts_come : (la lb : List Ty) → la ≡ last_of a → lb ≡ last_of b → (left : ℕ) (s'' : Bindings) (r : Result ℕ WithinFault)
      → InParameters (Ok left) → Comes s' (EqualAll la lb) (weights la) 0 left s'' r → Comes s (Equal a b) (weight a) 1 room' s'' r
  parts_come la lb ks ls left s'' r c d = from_parts s a b h g e room room' rooms s'' r
      (both s (EqualAll (parameters_of a) (parameters_of b)) (EqualAll (last_of a) (last_of b)) (weights (parameters_of a)) (weights (last_of a)) 0 0 room s' left s'' (parameters_come (Ok left) c) r
      (subst (λ z. Comes s' (EqualAll (last_of a) z) (weights (last_of a)) 0 left s'' r) ls (subst (λ z. Comes s' (EqualAll z lb) (weights z) 0 left s'' r) ks d)))

abbrev first : Ty → List Ty → Ty
first z [] = z
first z (t ∷ ts) = t

abbrev rest : List Ty → List Ty
rest [] = []
rest (t ∷ ts) = ts

abbrev is_empty : List Ty → Type 0
is_empty [] = Unit {0}
is_empty (t ∷ ts) = ⊥

module _ (s : Bindings) (ts us : List Ty) where
  pub longer_left : (c : Ty) (cs : List Ty) → ts ≡ c ∷ cs → us ≡ [] → (room : ℕ) → Comes s (EqualAll ts us) (weights ts) 0 room s (Err Unequal)
  longer_left c cs tc ud room = stops_unequal s (EqualAll ts us) (weights ts) 0 room (λ θ e is. subst is_empty (sym (ap (map (apply θ)) (sym tc) ∙ is ∙ ap (map (apply θ)) ud)) tt)

  pub longer_right : (d : Ty) (ds : List Ty) → ts ≡ [] → us ≡ d ∷ ds → (room : ℕ) → Comes s (EqualAll ts us) (weights ts) 0 room s (Err Unequal)
  longer_right d ds tc ud room = stops_unequal s (EqualAll ts us) (weights ts) 0 room (λ θ e is. subst is_empty (ap (map (apply θ)) (sym tc) ∙ is ∙ ap (map (apply θ)) ud) tt)

  pub none_left : Solved s → ts ≡ [] → us ≡ [] → (room : ℕ) → Comes s (EqualAll ts us) (weights ts) 0 room s (Ok room)
  none_left h tc ud room = holds_already s (EqualAll ts us) (weights ts) 0 room h (λ θ e. ap (map (apply θ)) (tc ∙ sym ud)) room (omega arith) (λ θ. omega arith)

  module _ (c d : Ty) (cs ds : List Ty) (tc : ts ≡ c ∷ cs) (ud : us ≡ d ∷ ds) (room : ℕ) (s' : Bindings) (r : Result ℕ WithinFault) (least : ℕ) where
    conses : (θ : Substitution) → EqualAll ts us θ → apply θ c ∷ map (apply θ) cs ≡ apply θ d ∷ map (apply θ) ds
    conses θ is = ap (map (apply θ)) (sym tc) ∙ is ∙ ap (map (apply θ)) ud

    pub from_first : Comes s (λ θ. Equal c d θ × EqualAll cs ds θ) (λ θ. weight c θ + weights cs θ) least room s' r → Comes s (EqualAll ts us) (weights ts) 0 room s' r
    from_first = restated s (λ θ. Equal c d θ × EqualAll cs ds θ) (EqualAll ts us) (λ θ. weight c θ + weights cs θ) (weights ts) 0
        (λ θ e is. (ap (first (apply θ c)) (conses θ is), ap rest (conses θ is)))
        (λ θ e is. ap (map (apply θ)) tc ∙ (λ i. is.0 i ∷ is.1 i) ∙ ap (map (apply θ)) (sym ud))
        (λ θ e is. ap (λ z. weights z θ) tc ∙ adds_nothing (weight c θ + weights cs θ)) least 0 room room (omega arith) (omega arith) s' r
      where
        adds_nothing : (n : ℕ) → n ≡ n + 0
        adds_nothing n = omega arith

-- ---- the whole

pub unified : (s : Bindings) (a b : Ty) (least room : ℕ) (s' : Bindings) (left : ℕ) → Comes s (Equal a b) (weight a) least room s' (Ok left) → Unifies s a b s'
unified s a b least room s' left h = record {
  solved = h.outcome.solved;
  equal = h.outcome.holds (means s') (means_extends s' h.outcome.solved);
  extends = h.outcome.extends;
  most_general = h.outcome.most_general;
}

pub outgrown : (s : Bindings) (a b : Ty) (least room : ℕ) (s' : Bindings) (left limit : ℕ) → Comes s (Equal a b) (weight a) least room s' (Ok left) → limit < meant s' a → Outgrows s a b limit
outgrown s a b least room s' left limit h lt = record { outgrows = λ θ e is. omega (arith, lt, meant_no_larger θ s' (h.outcome.most_general θ e is) a) }

pub never_equal : (s : Bindings) (a b : Ty) (least room : ℕ) (s' : Bindings) (e : WithinFault) → Comes s (Equal a b) (weight a) least room s' (Err e) → e ≡ Unequal → Never s a b
never_equal s a b least room s' e h is = record { never = (subst (λ z. outcome s (Equal a b) (weight a) least room s' (Err z)) is h.outcome).never }
