-- The faults of names in a body depend on the definitions only through the number of parameters that each name is defined
-- with, so that the order of definitions with different names makes no difference.
-- For: `faults_tell_programs`
use Rattle.std.proofs.Common.{◌≡◌, ℕ, suc, List, [], ◌∷◌, ◌++◌, length, map, Option, Some, None, refl, sym, ap, ◌∙◌, subst}
use Rattle.std.specs.Prelude.{Bool, true, false, if◌then◌else◌, is_some, slice_get}
use Rattle.std.specs.Option.{option_map}
use Rattle.std.specs.List.{AllByRecursion}
use Rattle.std.specs.Str.{bytes_eq}
use Rattle.std.proofs.lemmas.Slice.Eq.{bytes_eq-Decides}
use Rattle.ps_base.specs.Names.{IsNew, number_of}
use Rattle.ps_base.specs.declared.faults.Place.{Place}
use Rattle.ps_datum.specs.declared.datum.Datum.{Datum}
use Rattle.ps_datum.specs.declared.datum.DatumKind.{DatumKind, fold-DatumKind}
use Rattle.ps_datum.proofs.Trees.{induction, fold-datum, fold-boolean, fold-integer, fold-char, fold-text, fold-symbol, fold-list, fold-dotted, fold-vector}
use Rattle.ps_plain.specs.declared.program.Keyword.{Keyword}
use Rattle.ps_plain.specs.declared.program.Keyword.TheVariants as keywords
use Rattle.ps_plain.specs.Forms.{Scope, Head, has_arity, is_name, keyword_of, head_by, names_in, arities_in, scope_in}
use Rattle.ps_plain.specs.Faults.{or_else, Flaws, exprs_names, called_names, call_names, conditional_names, form_names, headed_names, list_names, behind_names, body_names, body_in, definition_list_names, shapeless, name_flaws, word_flaws, list_flaws, flaws_node, flaws}

-- ---- how many parameters a name is defined with

abbrev arity_among : List (List ℕ) → List ℕ → List ℕ → Option (Option ℕ)
arity_among procedures arities w = option_map (λ f. slice_get arities f) (number_of procedures w)

-- two scopes with the same parameters, in which each name is defined with as many
record SameScope (s t : Scope) : Type 0 where
  parameters : s.parameters ≡ t.parameters
  arities : (w : List ℕ) → arity_among s.procedures s.arities w ≡ arity_among t.procedures t.arities w

-- each name is defined with as many parameters by these heads as by those
pub record SameHeads (hs gs : List Head) : Type 0 where
  pub arities : (w : List ℕ) → arity_among (names_in hs) (arities_in hs) w ≡ arity_among (names_in gs) (arities_in gs) w

arity_step : (a : ℕ) (later : List ℕ) (b : Bool) (o : Option ℕ) → option_map (λ f. slice_get (a ∷ later) f) (if b then Some 0 else option_map suc o) ≡ (if b then Some (Some a) else option_map (λ f. slice_get later f) o)
arity_step a later true o = refl
arity_step a later false None = refl
arity_step a later false (Some n) = refl

-- of two tests of which not both hold, the order makes no difference
either_first : {A : Type 0} (x y z : A) (a b : Bool) → (a ≡ true → b ≡ true → ⊥) → (if a then x else (if b then y else z)) ≡ (if b then y else (if a then x else z))
either_first x y z true true other = absurd (other refl refl)
either_first x y z true false other = refl
either_first x y z false b other = refl

abbrev arity_in : List Head → List ℕ → Option (Option ℕ)
arity_in hs w = arity_among (names_in hs) (arities_in hs) w

-- the first head with a name tells its number of parameters
arity_of_first : (h : Head) (hs : List Head) (w : List ℕ) → arity_in (h ∷ hs) w ≡ (if bytes_eq w h.name then Some (Some (length h.parameters)) else arity_in hs w)
arity_of_first h hs w = arity_step (length h.parameters) (arities_in hs) (bytes_eq w h.name) (number_of (names_in hs) w)

-- a head may come first, where none before it has its name: each name keeps its number of parameters
arity_moved : (before after : List Head) (m : Head) (w : List ℕ) → IsNew (names_in before) m.name → arity_in (before ++ m ∷ after) w ≡ arity_in (m ∷ (before ++ after)) w
arity_moved [] after m w new = refl
arity_moved (h ∷ before) after m w new =
    let first = Some (Some (length h.parameters)) in
    let main = Some (Some (length m.parameters)) in
    arity_of_first h (before ++ m ∷ after) w
    ∙ ap (λ (o : Option (Option ℕ)). if bytes_eq w h.name then first else o) (arity_moved before after m w (λ i at. new (suc i) at) ∙ arity_of_first m (before ++ after) w)
    ∙ either_first first main (arity_in (before ++ after) w) (bytes_eq w h.name) (bytes_eq w m.name) (λ is also. new 0 (ap (λ x. Some x) (sym ((bytes_eq-Decides w h.name).0 is) ∙ (bytes_eq-Decides w m.name).0 also)))
    ∙ ap (λ (o : Option (Option ℕ)). if bytes_eq w m.name then main else o) (sym (arity_of_first h (before ++ after) w))
    ∙ sym (arity_of_first m (h ∷ (before ++ after)) w)

-- a head may come first, where none before it has its name
pub moved_heads : (before after : List Head) (m : Head) → IsNew (names_in before) m.name → SameHeads (before ++ m ∷ after) (m ∷ (before ++ after))
moved_heads before after m new = record { arities = λ w. arity_moved before after m w new }

-- ---- faults

-- the faults of names are the same in such scopes
record IsSteady (f : Flaws) : Type 0 where
  expr : (s t : Scope) → SameScope s t → f.expr_names s ≡ f.expr_names t
  test : (s t : Scope) → SameScope s t → f.test_names s ≡ f.test_names t
  write : (s t : Scope) → SameScope s t → f.write_names s ≡ f.write_names t
  definition : (hs gs : List Head) (defined : List (List ℕ)) → SameHeads hs gs → f.definition_names hs defined ≡ f.definition_names gs defined

shapeless_steady : (p : Place) → IsSteady (shapeless p)
shapeless_steady p = record {
  expr = λ s t same. refl;
  test = λ s t same. refl;
  write = λ s t same. refl;
  definition = λ hs gs defined same. refl;
}

integer_steady : (p : Place) (o : Option Place) → IsSteady (record (shapeless p) { expr_shape = o })
integer_steady p o = record {
  expr = λ s t same. refl;
  test = λ s t same. refl;
  write = λ s t same. refl;
  definition = λ hs gs defined same. refl;
}

name_steady : (p : Place) (w : List ℕ) (b : Bool) → IsSteady (name_flaws p w b)
name_steady p w true = record {
  expr = λ s t same. ap (λ (ps : List (List ℕ)). if is_some (number_of ps w) then None else Some p) same.parameters;
  test = λ s t same. refl;
  write = λ s t same. refl;
  definition = λ hs gs defined same. refl;
}
name_steady p w false = record {
  expr = λ s t same. refl;
  test = λ s t same. refl;
  write = λ s t same. refl;
  definition = λ hs gs defined same. refl;
}

word_steady : (p : Place) (o : Option (List ℕ)) → IsSteady (word_flaws p o)
word_steady p None = shapeless_steady p
word_steady p (Some w) = name_steady p w (is_name w)

abbrev AreSteady : List Flaws → Type 0
AreSteady = AllByRecursion IsSteady

either_same : {a b c d : Option Place} → a ≡ b → c ≡ d → or_else a c ≡ or_else b d
either_same {a = a} {b = b} {c = c} {d = d} e f = ap (λ (o : Option Place). or_else o c) e ∙ ap (λ (o : Option Place). or_else b o) f

exprs_steady : (s t : Scope) → SameScope s t → (fs : List Flaws) → AreSteady fs → exprs_names s fs ≡ exprs_names t fs
exprs_steady s t same [] all = refl
exprs_steady s t same (f ∷ fs) all = either_same (all.0.expr s t same) (exprs_steady s t same fs all.1)

-- a name may have different numbers in the two scopes, but not different numbers of parameters
called_steady : (s t : Scope) → SameScope s t → (p at : Place) (o q : Option ℕ) (fs : List Flaws) → AreSteady fs → option_map (λ f. slice_get s.arities f) o ≡ option_map (λ f. slice_get t.arities f) q → called_names s p at o fs ≡ called_names t p at q fs
called_steady s t same p at None None fs all e = refl
called_steady s t same p at None (Some g) fs all e = cc
called_steady s t same p at (Some f) None fs all e = cc
called_steady s t same p at (Some f) (Some g) fs all e =
    let arity : slice_get s.arities f ≡ slice_get t.arities g = cc in
    ap (λ (o : Option ℕ). if has_arity (length fs) o then exprs_names s fs else Some p) arity ∙ ap (λ (o : Option Place). if has_arity (length fs) (slice_get t.arities g) then o else Some p) (exprs_steady s t same fs all)

call_steady : (s t : Scope) → SameScope s t → (p at : Place) (w : List ℕ) (fs : List Flaws) → AreSteady fs → call_names s p at w fs ≡ call_names t p at w fs
call_steady s t same p at w fs all =
    ap (λ (ps : List (List ℕ)). if is_some (number_of ps w) then Some at else called_names s p at (number_of s.procedures w) fs) same.parameters
    ∙ ap (λ (o : Option Place). if is_some (number_of t.parameters w) then Some at else o) (called_steady s t same p at (number_of s.procedures w) (number_of t.procedures w) fs all (same.arities w))

conditional_steady : (s t : Scope) → SameScope s t → (fs : List Flaws) → AreSteady fs → conditional_names s fs ≡ conditional_names t fs
conditional_steady s t same [] all = refl
conditional_steady s t same (f ∷ []) all = refl
conditional_steady s t same (f ∷ g ∷ []) all = refl
conditional_steady s t same (f ∷ g ∷ h ∷ []) all = either_same (all.0.test s t same) (either_same (all.1.0.expr s t same) (all.1.1.0.expr s t same))
conditional_steady s t same (f ∷ g ∷ h ∷ i ∷ fs) all = refl

form_steady : (s t : Scope) → SameScope s t → (p at : Place) (w : List ℕ) (k : Option Keyword) (fs : List Flaws) → AreSteady fs → form_names s p at w k fs ≡ form_names t p at w k fs
form_steady s t same p at w None fs all = call_steady s t same p at w fs all
form_steady s t same p at w (Some (keywords.Arithmetic o)) fs all = exprs_steady s t same fs all
form_steady s t same p at w (Some keywords.If) fs all = conditional_steady s t same fs all
form_steady s t same p at w (Some keywords.ReadByte) fs all = refl
form_steady s t same p at w (Some keywords.Define) fs all = refl
form_steady s t same p at w (Some keywords.WriteByte) fs all = refl
form_steady s t same p at w (Some (keywords.Compare c)) fs all = refl

headed_steady : (s t : Scope) → SameScope s t → (p at : Place) (o : Option (List ℕ)) (fs : List Flaws) → AreSteady fs → headed_names s p at o fs ≡ headed_names t p at o fs
headed_steady s t same p at None fs all = refl
headed_steady s t same p at (Some w) fs all = form_steady s t same p at w (keyword_of w) fs all

list_steady : (s t : Scope) → SameScope s t → (p : Place) (fs : List Flaws) → AreSteady fs → list_names s p fs ≡ list_names t p fs
list_steady s t same p [] all = refl
list_steady s t same p (f ∷ fs) all = headed_steady s t same p f.place f.word fs all.1

behind_steady : (s t : Scope) → SameScope s t → (fs : List Flaws) → AreSteady fs → behind_names s fs ≡ behind_names t fs
behind_steady s t same [] all = refl
behind_steady s t same (f ∷ fs) all = exprs_steady s t same fs all.1

body_steady : (s t : Scope) → SameScope s t → (fs : List Flaws) → AreSteady fs → body_names s fs ≡ body_names t fs
body_steady s t same [] all = refl
body_steady s t same (f ∷ []) all = all.0.expr s t same
body_steady s t same (f ∷ g ∷ fs) all = either_same (all.0.write s t same) (body_steady s t same (g ∷ fs) all.1)

body_in_steady : (hs gs : List Head) → SameHeads hs gs → (o : Option Head) (fs : List Flaws) → AreSteady fs → body_in hs o fs ≡ body_in gs o fs
body_in_steady hs gs same None fs all = refl
body_in_steady hs gs same (Some h) fs all = body_steady (scope_in hs h) (scope_in gs h) (record { parameters = refl; arities = same.arities }) fs all

definition_steady : (hs gs : List Head) (defined : List (List ℕ)) → SameHeads hs gs → (fs : List Flaws) → AreSteady fs → definition_list_names hs defined fs ≡ definition_list_names gs defined fs
definition_steady hs gs defined same [] all = refl
definition_steady hs gs defined same (f ∷ []) all = refl
definition_steady hs gs defined same (f ∷ h ∷ body) all = either_same refl (body_in_steady hs gs same (head_by h.words) body all.1.1)

list_flaws_steady : (p : Place) (fs : List Flaws) → AreSteady fs → IsSteady (list_flaws p fs)
list_flaws_steady p fs all = record {
  expr = λ s t same. list_steady s t same p fs all;
  test = λ s t same. behind_steady s t same fs all;
  write = λ s t same. behind_steady s t same fs all;
  definition = λ hs gs defined same. definition_steady hs gs defined same fs all;
}

-- ---- all data

module _ (names : List (List ℕ)) where
  abbrev fault_step : DatumKind → Place → Flaws
  fault_step = fold-DatumKind (Place → Flaws) Flaws (flaws_node names) (λ d. d.kind d.place)

  abbrev IsSteadyKind : DatumKind → Type 0
  IsSteadyKind x = (p : Place) → IsSteady (fault_step x p)

  abbrev IsSteadyDatum : Datum → Type 0
  IsSteadyDatum d = IsSteady (flaws names d)

  members : (ds : List Datum) → AllByRecursion IsSteadyDatum ds → AreSteady (map (flaws names) ds)
  members [] all = tt
  members (d ∷ ds) all = (all.0, members ds all.1)

  steady : (d : Datum) → IsSteadyDatum d
  steady = induction IsSteadyKind IsSteadyDatum
      (λ b p. by p (fold-boolean (flaws_node names) (λ d. d.kind d.place) b) (shapeless_steady p))
      (λ i p. by p (fold-integer (flaws_node names) (λ d. d.kind d.place) i) (integer_steady p _))
      (λ c p. by p (fold-char (flaws_node names) (λ d. d.kind d.place) c) (shapeless_steady p))
      (λ bytes p. by p (fold-text (flaws_node names) (λ d. d.kind d.place) bytes) (shapeless_steady p))
      (λ n p. by p (fold-symbol (flaws_node names) (λ d. d.kind d.place) n) (word_steady p (slice_get names n.0)))
      (λ ds all p. by p (fold-list (flaws_node names) (λ d. d.kind d.place) ds) (list_flaws_steady p (map (flaws names) ds) (members ds all)))
      (λ ds d all one p. by p (fold-dotted (flaws_node names) (λ d. d.kind d.place) ds d) (shapeless_steady p))
      (λ ds all p. by p (fold-vector (flaws_node names) (λ d. d.kind d.place) ds) (shapeless_steady p))
      (λ p x is. subst IsSteady (sym (fold-datum (flaws_node names) (λ d. d.kind d.place) p x)) (is p))
    where
      by : (p : Place) {f g : Place → Flaws} → f ≡ g → IsSteady (g p) → IsSteady (f p)
      by p {f = f} {g = g} e is = subst (λ (h : Place → Flaws). IsSteady (h p)) (sym e) is

  -- the faults of names in a definition are the same among heads that define each name with as many parameters
  pub definition_names_steady : (d : Datum) (hs gs : List Head) (defined : List (List ℕ)) → SameHeads hs gs → (flaws names d).definition_names hs defined ≡ (flaws names d).definition_names gs defined
  definition_names_steady d = (steady d).definition
