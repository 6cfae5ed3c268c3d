-- Definitions that have their shape, and their heads.
-- For: `head_and_body`, `definition` and `procedures_of`
use Rattle.std.proofs.Common.{◌≡◌, ℕ, ◌<◌, List, [], ◌∷◌, map, length, Bool, true, false, Some, None, refl, sym, ap, ◌∙◌, arith, subst}
use Rattle.std.specs.Prelude.{Option, slice_get, if◌then◌else◌, is_some}
use Rattle.std.specs.List.{AllByRecursion, list_all}
use Rattle.std.specs.Cmp.Derive.{both_true}
use Rattle.ps_base.specs.declared.faults.Place.{Place}
use Rattle.ps_base.specs.declared.names.Name.{Name}
use Rattle.ps_datum.specs.declared.datum.Datum.{Datum, out-Datum}
use Rattle.ps_datum.specs.declared.datum.DatumKind.{DatumKind, fold-DatumKind}
use Rattle.ps_datum.specs.declared.datum.DatumKind.TheOpen.{DatumKind-F, Datum-F}
use Rattle.ps_datum.specs.declared.datum.DatumKind.TheVariants as k
use Rattle.ps_datum.proofs.Trees.{induction, datum_at, fold-datum, fold-boolean, fold-integer, fold-char, fold-text, fold-symbol, fold-list, fold-dotted, fold-vector}
use Rattle.ps_plain.specs.declared.program.Keyword.{Keyword}
use Rattle.ps_plain.specs.declared.program.Keyword.TheVariants as keywords
use Rattle.ps_plain.specs.Forms.{Part, part, part_node, no_part, word_part, list_part, Head, keyword_in, defined_by, head_by, is_name, all_some, and_also, scope_in}
use Rattle.ps_plain.specs.Faults.{Flaws, flaws, flaws_node, shapeless, name_flaws, word_flaws, list_flaws, or_else, is_among, parameters_names, body_in, body_names, defined_shape, definition_list_shape, definition_list_names, head_list_shape, head_list_names}
use Rattle.ps_resolve.specs.declared.faults.DefinitionParts.{DefinitionParts}
use Rattle.ps_resolve.specs.InsideKinds.{IsList, IsNoList, name_shapes}
use Rattle.ps_resolve.specs.InsideHeads.{IsDefine, HasParts, head_or, head_at, head_fault, words_of}
use Rattle.ps_base.specs.Names.{number_of}
use Rattle.std.proofs.lemmas.List.{length-map}

-- ---- what data read as, and what is wrong with them

-- a text that is a name
pub record IsNamed (word : Option (List ℕ)) : Type 0 where
  pub text : List ℕ
  pub is : word ≡ Some text
  pub is_one : is_name text ≡ true

-- A datum at a place has the same words in both. Where it has the shape of a name it is one.
pub record Alike (q : Part) (f : Flaws) (p : Place) : Type 0 where
  pub word : q.word ≡ f.word
  pub words : q.words ≡ f.words
  pub place : f.place ≡ p
  pub named : f.name_shape ≡ None → IsNamed f.word

alike_none : (q : Part) (p : Place) → q.word ≡ None → q.words ≡ None → Alike q (shapeless p) p
alike_none q p word words = record { word = word; words = words; place = refl; named = λ h. absurd cc }

alike_name : (n : Name) (w : List ℕ) (p : Place) (b : Bool) → is_name w ≡ b → Alike (word_part p n (Some w)) (name_flaws p w b) p
alike_name n w p true e = record { word = refl; words = refl; place = refl; named = λ h. record { text = w; is = refl; is_one = e } }
alike_name n w p false e = record { word = refl; words = refl; place = refl; named = λ h. absurd cc }

alike_word : (n : Name) (m : Option (List ℕ)) (p : Place) → Alike (word_part p n m) (word_flaws p m) p
alike_word n None p = alike_none (no_part p) p refl refl
alike_word n (Some w) p = alike_name n w p (is_name w) refl

none : (p : Place) → Alike (no_part p) (shapeless p) p
none p = alike_none (no_part p) p refl refl

abbrev pt : Datum-F (Place → Part) Part → Part
pt d = d.kind d.place

abbrev ft : Datum-F (Place → Flaws) Flaws → Flaws
ft d = d.kind d.place

module _ (names : List (List ℕ)) where
  abbrev ps : DatumKind-F (Place → Part) Part → Place → Part
  ps = part_node names

  abbrev fs : DatumKind-F (Place → Flaws) Flaws → Place → Flaws
  fs = flaws_node names

  abbrev AreAlike : Datum → Type 0
  AreAlike d = Alike (part names d) (flaws names d) (out-Datum d).place

  -- the same of a kind, at each place
  abbrev AreAlikeAt : DatumKind → Type 0
  AreAlikeAt x = (p : Place) → Alike (fold-DatumKind (Place → Part) Part ps pt x p) (fold-DatumKind (Place → Flaws) Flaws fs ft x p) p

  same_words : (ds : List Datum) → AllByRecursion AreAlike ds → map (λ (q : Part). q.word) (map (part names) ds) ≡ map (λ (f : Flaws). f.word) (map (flaws names) ds)
  same_words [] all = refl
  same_words (d ∷ ds) all = (λ i. all.0.word i ∷ same_words ds all.1 i)

  alike_list : (ds : List Datum) (p : Place) → AllByRecursion AreAlike ds → Alike (list_part p (map (part names) ds)) (list_flaws p (map (flaws names) ds)) p
  alike_list ds p all = record { word = refl; words = ap all_some (same_words ds all); place = refl; named = λ h. absurd cc }

  by : (x : DatumKind) (q : Place → Part) (f : Place → Flaws) → fold-DatumKind (Place → Part) Part ps pt x ≡ q → fold-DatumKind (Place → Flaws) Flaws fs ft x ≡ f → ((p : Place) → Alike (q p) (f p) p) → AreAlikeAt x
  by x q f is_q is_f h p = subst (λ z. Alike (z p) (fold-DatumKind (Place → Flaws) Flaws fs ft x p) p) (sym is_q) (subst (λ z. Alike (q p) (z p) p) (sym is_f) (h p))

  pub alike : (d : Datum) → AreAlike d
  alike = induction AreAlikeAt AreAlike
      (λ b. by (k.Boolean b) no_part shapeless (fold-boolean ps pt b) (fold-boolean fs ft b) none)
      (λ n. by (k.Integer n) (part_node names (DatumKind-F.Integer n)) (flaws_node names (DatumKind-F.Integer n)) (fold-integer ps pt n) (fold-integer fs ft n) (λ p. record { word = refl; words = refl; place = refl; named = λ h. absurd cc }))
      (λ c. by (k.Char c) no_part shapeless (fold-char ps pt c) (fold-char fs ft c) none)
      (λ t. by (k.Text t) no_part shapeless (fold-text ps pt t) (fold-text fs ft t) none)
      (λ n. by (k.Symbol n) (λ p. word_part p n (slice_get names n.0)) (λ p. word_flaws p (slice_get names n.0)) (fold-symbol ps pt n) (fold-symbol fs ft n) (alike_word n (slice_get names n.0)))
      (λ ds all. by (k.List ds) (λ p. list_part p (map (part names) ds)) (λ p. list_flaws p (map (flaws names) ds)) (fold-list ps pt ds) (fold-list fs ft ds) (λ p. alike_list ds p all))
      (λ ds d all last. by (k.Dotted ds d) no_part shapeless (fold-dotted ps pt ds d) (fold-dotted fs ft ds d) none)
      (λ ds all. by (k.Vector ds) no_part shapeless (fold-vector ps pt ds) (fold-vector fs ft ds) none)
      (λ p x h. subst (λ z. Alike z (flaws names (datum_at p x)) p) (sym (fold-datum ps pt p x)) (subst (λ z. Alike (fold-DatumKind (Place → Part) Part ps pt x p) z p) (sym (fold-datum fs ft p x)) (h p)))

-- ---- definitions

-- the first of two faults is none
pub or_none : (a b : Option Place) → or_else a b ≡ None → a ≡ None
or_none None b h = refl
or_none (Some p) b h = absurd cc

pub or_none-last : (a b : Option Place) → or_else a b ≡ None → b ≡ None
or_none-last None b h = h
or_none-last (Some p) b h = absurd cc

-- a definition begins with the word for it
by_define : (p : Place) (m : Option Keyword) (h : Flaws) (body : List Flaws) → defined_shape p m h body ≡ None → (m ≡ Some keywords.Define) × (h.head_shape ≡ None)
by_define p None h body none = absurd cc
by_define p (Some keywords.Define) h body none = (refl, or_none _ _ none)
by_define p (Some keywords.If) h body none = absurd cc
by_define p (Some keywords.WriteByte) h body none = absurd cc
by_define p (Some keywords.ReadByte) h body none = absurd cc
by_define p (Some (keywords.Arithmetic o)) h body none = absurd cc
by_define p (Some (keywords.Compare o)) h body none = absurd cc

define_parts : (p : Place) (f h : Flaws) (body : List Flaws) → definition_list_shape p (f ∷ h ∷ body) ≡ None → (keyword_in f.word ≡ Some keywords.Define) × (h.head_shape ≡ None)
define_parts p f h [] none = absurd cc
define_parts p f h (b ∷ body) none = by_define p (keyword_in f.word) h (b ∷ body) none

too_few : (p : Place) (fs : List Flaws) → length fs < 2 → definition_list_shape p fs ≡ None → ⊥
too_few p [] few none = cc
too_few p (f ∷ []) few none = cc
too_few p (f ∷ h ∷ fs) few none = omega arith

-- what is no list is no definition and no head
pub no_definition : (names : List (List ℕ)) (d : Datum) → IsNoList d → (flaws names d).definition_shape ≡ None → ⊥
no_definition names d other none = let clash : Some (out-Datum d).place ≡ None = sym (other.definition names) ∙ none in cc

pub no_head : (names : List (List ℕ)) (d : Datum) → IsNoList d → (flaws names d).head_shape ≡ None → ⊥
no_head names d other none = let clash : Some (out-Datum d).place ≡ None = sym (other.head names) ∙ none in cc

module _ (names : List (List ℕ)) (form : Datum) (parts : List Datum) (is : IsList form parts) (shape : (flaws names form).definition_shape ≡ None) where
  list_shape_none : definition_list_shape (out-Datum form).place (map (flaws names) parts) ≡ None
  list_shape_none = sym (ap (λ (f : Flaws). f.definition_shape) (is.is names)) ∙ shape

  pub not_short : length parts < 2 → ⊥
  not_short few = too_few (out-Datum form).place (map (flaws names) parts) (omega (arith, length-map parts (flaws names))) list_shape_none

  pub is_define : (first head : Datum) (body : List Datum) → parts ≡ first ∷ head ∷ body → IsDefine names form head body
  is_define first head body e =
      let d = define_parts (out-Datum form).place (flaws names first) (flaws names head) (map (flaws names) body) (sym (ap (λ z. definition_list_shape (out-Datum form).place (map (flaws names) z)) e) ∙ list_shape_none) in
      record {
        shape = d.1;
        reads =
            ap (λ (q : Part). q.head) (is.reads names)
            ∙ ap (λ z. (list_part (out-Datum form).place (map (part names) z)).head) e
            ∙ (λ i. defined_by (keyword_in ((alike names first).word i)) (head_by ((alike names head).words i)))
            ∙ ap (λ z. defined_by z (head_by (flaws names head).words)) d.0;
        fault_is = λ heads defined. ap (λ (f : Flaws). f.definition_names heads defined) (is.is names) ∙ ap (λ z. definition_list_names heads defined (map (flaws names) z)) e;
      }

-- ---- heads

-- the first part of a head is a name, and so are the others
head_parts : (p : Place) (f : Flaws) (fs : List Flaws) → head_list_shape p (f ∷ fs) ≡ None → (f.name_shape ≡ None) × (name_shapes fs ≡ None)
head_parts p f fs none = by f.name_shape none
  where
    by : (x : Option Place) → (if is_some x then Some p else name_shapes fs) ≡ None → (x ≡ None) × (name_shapes fs ≡ None)
    by None h = (refl, h)
    by (Some q) h = absurd cc

-- the texts of names
pub record AreNames (words : Option (List (List ℕ))) : Type 0 where
  pub texts : List (List ℕ)
  pub are : words ≡ Some texts
  pub all : list_all is_name texts ≡ true

are_names : (names : List (List ℕ)) (ds : List Datum) → name_shapes (map (flaws names) ds) ≡ None → AreNames (words_of names ds)
are_names names [] none = record { texts = []; are = refl; all = refl }
are_names names (d ∷ ds) none =
    let one = (alike names d).named (or_none (flaws names d).name_shape (name_shapes (map (flaws names) ds)) none) in
    let rest = are_names names ds (or_none-last (flaws names d).name_shape (name_shapes (map (flaws names) ds)) none) in
    record {
      texts = one.text ∷ rest.texts;
      are = (λ i. and_also (one.is i) (rest.are i));
      all = both_true one.is_one rest.all;
    }

module _ (names : List (List ℕ)) (head : Datum) (parts : List Datum) (is : IsList head parts) (shape : (flaws names head).head_shape ≡ None) where
  head_shape_none : head_list_shape (out-Datum head).place (map (flaws names) parts) ≡ None
  head_shape_none = sym (ap (λ (f : Flaws). f.head_shape) (is.is names)) ∙ shape

  pub not_empty : length parts < 1 → ⊥
  not_empty few = empty parts few head_shape_none
    where
      empty : (ds : List Datum) → length ds < 1 → head_list_shape (out-Datum head).place (map (flaws names) ds) ≡ None → ⊥
      empty [] few none = cc
      empty (d ∷ ds) few none = omega arith

  module _ (first : Datum) (parameters : List Datum) (e : parts ≡ first ∷ parameters) where
    split : ((flaws names first).name_shape ≡ None) × (name_shapes (map (flaws names) parameters) ≡ None)
    split = head_parts (out-Datum head).place (flaws names first) (map (flaws names) parameters) (sym (ap (λ z. head_list_shape (out-Datum head).place (map (flaws names) z)) e) ∙ head_shape_none)

    pub not_nameless : (flaws names first).word ≡ None → ⊥
    not_nameless none = let n = (alike names first).named split.0 in let clash : None ≡ Some n.text = sym none ∙ n.is in cc

    rest : AreNames (words_of names parameters)
    rest = are_names names parameters split.1

    module _ (form : Datum) (x : DefinitionParts) (define : IsDefine names form head x.body.now) (word : (flaws names first).word ≡ Some x.name.now) (place : x.place ≡ (out-Datum first).place) (parameters_are : x.parameters.now ≡ parameters) where
      first_named : is_name x.name.now ≡ true
      first_named =
          let n = (alike names first).named split.0 in
          let same : Some n.text ≡ Some x.name.now = sym n.is ∙ word in
          let equal : n.text ≡ x.name.now = cc in
          subst (λ w. is_name w ≡ true) equal n.is_one

      words : (flaws names head).words ≡ Some (x.name.now ∷ rest.texts)
      words =
          ap (λ (f : Flaws). f.words) (is.is names)
          ∙ ap (λ z. words_of names z) e
          ∙ (λ i. and_also (word i) (rest.are i))

      head_is : head_by (flaws names head).words ≡ Some (record { name = x.name.now; parameters = rest.texts })
      head_is = ap head_by words ∙ ap (λ b. if b then Some (record { name = x.name.now; parameters = rest.texts }) else None) (both_true first_named rest.all)

      at_form : head_at names form ≡ record { name = x.name.now; parameters = rest.texts }
      at_form = ap head_or (define.reads ∙ head_is)

      names_fault : (defined : List (List ℕ)) → (flaws names head).head_names defined ≡ head_fault names defined x
      names_fault defined =
          ap (λ (f : Flaws). f.head_names defined) (is.is names)
          ∙ ap (λ z. head_list_names defined (map (flaws names) z)) e
          ∙ (λ i. if is_among defined (word i) then Some ((alike names first).place i) else parameters_names 0 [] (map (flaws names) parameters))
          ∙ sym (λ i. if is_some (number_of defined x.name.now) then Some (place i) else parameters_names 0 [] (map (flaws names) (parameters_are i)))

      pub has_parts : HasParts names form x
      has_parts = record {
        reads = define.reads ∙ head_is ∙ ap Some (sym at_form);
        name = ap (λ (h : Head). h.name) at_form;
        parameters = ap (λ z. words_of names z) parameters_are ∙ rest.are ∙ ap (λ (h : Head). Some h.parameters) (sym at_form);
        fault_is = λ heads defined.
            define.fault_is heads defined
            ∙ (λ i. or_else (names_fault defined i) (body_in heads (head_is i) (map (flaws names) x.body.now)))
            ∙ ap (λ (h : Head). or_else (head_fault names defined x) (body_names (scope_in heads h) (map (flaws names) x.body.now))) (sym at_form);
      }
