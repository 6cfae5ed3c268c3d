-- In each position a datum reads as something exactly where it has no fault there.
-- For: `faults_tell_programs`
use Rattle.std.proofs.Common.{◌≡◌, ℕ, ℤ, suc, List, [], ◌∷◌, ◌++◌, length, map, Option, Some, None, refl, sym, ap, ◌∙◌, subst, arith}
use Rattle.std.specs.Prelude.{Bool, true, false, ◌&&◌, if◌then◌else◌, nat_lt, is_some, slice_get}
use Rattle.std.specs.Option.{option_map}
use Rattle.std.specs.List.{AllByRecursion, list_all}
use Rattle.std.specs.Str.{bytes_eq}
use Rattle.std.proofs.lemmas.Bool.{and_parts, ne_eqb}
use Rattle.std.proofs.lemmas.Slice.Eq.{bytes_eq-Decides}
use Rattle.ps_base.specs.Names.{number_of}
use Rattle.ps_base.specs.Numbers.{is_word, fit}
use Rattle.ps_base.specs.declared.faults.Place.{Place}
use Rattle.ps_base.specs.declared.names.Name.{Name}
use Rattle.ps_datum.specs.declared.datum.Datum.{Datum}
use Rattle.ps_datum.specs.declared.datum.DatumKind.{DatumKind, fold-DatumKind}
use Rattle.ps_datum.proofs.Trees.{induction, fold-datum, fold-boolean, fold-integer, fold-char, fold-text, fold-symbol, fold-list, fold-dotted, fold-vector}
use Rattle.ps_plain.specs.declared.program.Operator.{Operator}
use Rattle.ps_plain.specs.declared.program.Comparison.{Comparison}
use Rattle.ps_plain.specs.declared.program.Keyword.{Keyword}
use Rattle.ps_plain.specs.declared.program.Keyword.TheVariants as keywords
use Rattle.ps_plain.specs.declared.program.Expr.{Expr}
use Rattle.ps_plain.specs.declared.program.Expr.TheVariants as exprs
use Rattle.ps_plain.specs.declared.program.Write.{Write}
use Rattle.ps_plain.specs.Forms.{Scope, Test, Head, Body, Part, is_name, keyword_of, keyword_in, has_arity, with_arity, called, and_also, all_some, operation_by, operation_of, test_by, test_of, conditional_by, conditional_of, read_of, call_by, call_of, form_by, form_headed, form_of, write_at, write_by, write_of, body_by, value_by, body_of, head_by, defined_by, head_of, first_symbol, procedure_by, procedure_of, no_part, word_part, list_part, part_node, part, scope_in}
use Rattle.ps_plain.specs.Faults.{or_else, first_of, Flaws, expr_shapes, operands_shape, conditional_shape, form_shape, headed_shape, list_shape, compared_shape, test_list_shape, written_shape, write_list_shape, head_list_shape, body_shape, defined_shape, definition_list_shape, exprs_names, called_names, call_names, conditional_names, form_names, headed_names, list_names, behind_names, is_among, with_word, parameters_names, head_list_names, body_names, body_in, definition_list_names, shapeless, name_flaws, word_flaws, list_flaws, flaws_node, flaws}
use Rattle.ps_plain.proofs.Lists.{joined}
use Rattle.ps_plain.proofs.Clear.{is_clear, clear_both, clear_unless, clear_where, both_hold, some_where, and_by, and_false, across, inward, last_inward}
use Rattle.ps_plain.proofs.Distinct.{are_parameters, is_fine_head}

-- the parameters of a scope are names
pub record IsClean (s : Scope) : Type 0 where
  pub names : list_all is_name s.parameters ≡ true

-- a word is a name
abbrev is_named : Option (List ℕ) → Bool
is_named None = false
is_named (Some w) = is_name w

abbrev are_named : Option (List (List ℕ)) → Bool
are_named None = false
are_named (Some ws) = list_all is_name ws

-- a datum reads as something in each position where there is no fault
pub record Fits (p : Part) (f : Flaws) : Type 0 where
  pub place : p.place ≡ f.place
  pub symbol : is_some p.symbol ≡ is_some p.word
  pub word : p.word ≡ f.word
  -- the words of a head have a first one
  pub first : (h : Head) → head_by p.words ≡ Some h → is_some p.first ≡ true
  pub words : p.words ≡ f.words
  pub name : is_clear f.name_shape ≡ is_named p.word
  pub expr : (s : Scope) → IsClean s → is_some (p.expr s) ≡ (is_clear f.expr_shape && is_clear (f.expr_names s))
  pub test : (s : Scope) → IsClean s → is_some (p.test s) ≡ (is_clear f.test_shape && is_clear (f.test_names s))
  pub write : (s : Scope) → IsClean s → is_some (p.write s) ≡ (is_clear f.write_shape && is_clear (f.write_names s))
  pub head : is_clear f.head_shape ≡ is_some (head_by p.words)
  -- the names of a head
  pub heading : (defined : List (List ℕ)) (h : Head) → head_by p.words ≡ Some h → is_clear (f.head_names defined) ≡ is_fine_head defined h
  pub definition : is_clear f.definition_shape ≡ true → is_some p.head ≡ true
  pub procedure : (heads : List Head) (defined : List (List ℕ)) (h : Head) → p.head ≡ Some h → (is_some (p.procedure (scope_in heads h)) && is_fine_head defined h) ≡ (is_clear f.definition_shape && is_clear (f.definition_names heads defined))

shapeless_fits : (p : Place) → Fits (no_part p) (shapeless p)
shapeless_fits p = record {
  place = refl;
  symbol = refl;
  word = refl;
  first = λ h is. cc;
  words = refl;
  name = refl;
  expr = λ s clean. refl;
  test = λ s clean. refl;
  write = λ s clean. refl;
  head = refl;
  heading = λ defined h is. cc;
  definition = λ is. cc;
  procedure = λ heads defined h is. cc;
}

integer_by : (i : ℤ) (p : Place) (b : Bool) → is_some (option_map (λ j. exprs.Integer p j) (if b then Some i else None)) ≡ (is_clear (if b then None else Some p) && true)
integer_by i p true = refl
integer_by i p false = refl

integer_fits : (i : ℤ) (p : Place) → Fits (record (no_part p) { expr = λ s. option_map (λ j. exprs.Integer p j) (fit i) }) (record (shapeless p) { expr_shape = if is_word i then None else Some p })
integer_fits i p = record {
  place = refl;
  symbol = refl;
  word = refl;
  first = λ h is. cc;
  words = refl;
  name = refl;
  expr = λ s clean. integer_by i p (is_word i);
  test = λ s clean. refl;
  write = λ s clean. refl;
  head = refl;
  heading = λ defined h is. cc;
  definition = λ is. cc;
  procedure = λ heads defined h is. cc;
}

-- ---- a word

no_parameter_by : (t : List ℕ) (o : Option ℕ) (w : List ℕ) (b : Bool) → bytes_eq w t ≡ b → is_name t ≡ true → is_name w ≡ false → o ≡ None → (if b then Some 0 else option_map suc o) ≡ None
no_parameter_by t o w true e is_one is none = let same : w ≡ t = (bytes_eq-Decides w t).0 e in let clash : is_name w ≡ is_name t = ap is_name same in cc
no_parameter_by t o w false e is_one is none = ap (λ (x : Option ℕ). option_map suc x) none

-- a keyword is no parameter of a clean scope
no_parameter : (ts : List (List ℕ)) (w : List ℕ) → list_all is_name ts ≡ true → is_name w ≡ false → number_of ts w ≡ None
no_parameter [] w all is = refl
no_parameter (t ∷ ts) w all is =
    let parts = and_parts (is_name t) (list_all is_name ts) all in
    no_parameter_by t (number_of ts w) w (bytes_eq w t) refl parts.0 is (no_parameter ts w parts.1 is)

variable_by : (p : Place) (o : Option ℕ) → is_some (option_map (λ k. exprs.Parameter p k) o) ≡ is_clear (if is_some o then None else Some p)
variable_by p None = refl
variable_by p (Some n) = refl

name_fits : (p : Place) (n : Name) (w : List ℕ) (b : Bool) → is_name w ≡ b → Fits (word_part p n (Some w)) (name_flaws p w b)
name_fits p n w true is = record {
  place = refl;
  symbol = refl;
  word = refl;
  first = λ h at. cc;
  words = refl;
  name = sym is;
  expr = λ s clean. variable_by p (number_of s.parameters w);
  test = λ s clean. refl;
  write = λ s clean. refl;
  head = refl;
  heading = λ defined h at. cc;
  definition = λ at. cc;
  procedure = λ heads defined h at. cc;
}
name_fits p n w false is = record {
  place = refl;
  symbol = refl;
  word = refl;
  first = λ h at. cc;
  words = refl;
  name = sym is;
  expr = λ s clean. ap (λ (o : Option ℕ). is_some (option_map (λ k. exprs.Parameter p k) o)) (no_parameter s.parameters w clean.names is);
  test = λ s clean. refl;
  write = λ s clean. refl;
  head = refl;
  heading = λ defined h at. cc;
  definition = λ at. cc;
  procedure = λ heads defined h at. cc;
}

word_fits : (p : Place) (n : Name) (o : Option (List ℕ)) → Fits (word_part p n o) (word_flaws p o)
word_fits p n None = shapeless_fits p
word_fits p n (Some w) = name_fits p n w (is_name w) refl

-- ---- a list

-- another number of operands is a fault
wrong_number : (p : Place) (n : ℕ) (fs : List Flaws) → (length fs ≡ n → ⊥) → is_clear (operands_shape p n fs) ≡ false
wrong_number p n fs other = ap (λ (b : Bool). is_clear (if b then expr_shapes fs else Some p)) (ne_eqb (length fs) n other)

clear_three : (a b c : Option Place) → is_clear (or_else a (or_else b c)) ≡ (is_clear a && (is_clear b && is_clear c))
clear_three a b c = clear_both a (or_else b c) ∙ and_by refl (clear_both b c)

-- what a head is read from
record Headed (o : Option (List (List ℕ))) (h : Head) : Type 0 where
  is : o ≡ Some (h.name ∷ h.parameters)
  named : list_all is_name (h.name ∷ h.parameters) ≡ true

headed_by : (f : List ℕ) (xs : List (List ℕ)) (h : Head) (b : Bool) → list_all is_name (f ∷ xs) ≡ b → (if b then Some (record { name = f; parameters = xs }) else None) ≡ Some h → Headed (Some (f ∷ xs)) h
headed_by f xs h true named is =
    let same : record { name = f; parameters = xs } ≡ h = cc in
    subst (λ (x : Head). Headed (Some (f ∷ xs)) x) same (record { is = refl; named = named })
headed_by f xs h false named is = cc

headed : (o : Option (List (List ℕ))) (h : Head) → head_by o ≡ Some h → Headed o h
headed None h is = cc
headed (Some []) h is = cc
headed (Some (f ∷ xs)) h is = headed_by f xs h (list_all is_name (f ∷ xs)) refl is

defined_head : (k : Option Keyword) (o : Option Head) (h : Head) → defined_by k o ≡ Some h → (k ≡ Some keywords.Define) × (o ≡ Some h)
defined_head None o h is = cc
defined_head (Some (keywords.Arithmetic q)) o h is = cc
defined_head (Some keywords.If) o h is = cc
defined_head (Some keywords.ReadByte) o h is = cc
defined_head (Some keywords.Define) o h is = (refl, is)
defined_head (Some keywords.WriteByte) o h is = cc
defined_head (Some (keywords.Compare c)) o h is = cc

-- ---- when what is put together holds something: when each part does

operation_all : (p : Place) (o : Operator) (x y : Option Expr) → is_some (operation_by p o x y) ≡ is_some (and_also x (and_also y (Some [])))
operation_all p o None y = refl
operation_all p o (Some a) None = refl
operation_all p o (Some a) (Some b) = refl

conditional_all : (p : Place) (t : Option Test) (x y : Option Expr) → is_some (conditional_by p t x y) ≡ (is_some t && (is_some x && is_some y))
conditional_all p None x y = refl
conditional_all p (Some t) None y = refl
conditional_all p (Some t) (Some c) None = refl
conditional_all p (Some t) (Some c) (Some d) = refl

call_all : (p at : Place) (f : Option ℕ) (es : Option (List Expr)) → is_some (call_by p at f es) ≡ (is_some f && is_some es)
call_all p at None es = refl
call_all p at (Some f) None = refl
call_all p at (Some f) (Some es) = refl

-- a called name with the right number of operands
called_fits : (s : Scope) (p at : Place) (n : ℕ) (o : Option ℕ) (fs : List Flaws) → n ≡ length fs → is_clear (called_names s p at o fs) ≡ (is_some (with_arity s.arities n o) && is_clear (exprs_names s fs))
called_fits s p at n None fs long = refl
called_fits s p at n (Some f) fs long =
    clear_where (has_arity (length fs) (slice_get s.arities f)) p (exprs_names s fs)
    ∙ and_by (ap (λ (m : ℕ). has_arity m (slice_get s.arities f)) (sym long) ∙ sym (some_where f (has_arity n (slice_get s.arities f)))) refl

-- the same, where a test says whether the name is a parameter
call_names_fit : (s : Scope) (p at : Place) (n : ℕ) (b : Bool) (o : Option ℕ) (fs : List Flaws) → n ≡ length fs → is_clear (if b then Some at else called_names s p at o fs) ≡ (is_some (if b then None else with_arity s.arities n o) && is_clear (exprs_names s fs))
call_names_fit s p at n true o fs long = refl
call_names_fit s p at n false o fs long = called_fits s p at n o fs long

compared_fails : (p : Place) (k : Option Keyword) (fs : List Flaws) → (length fs ≡ 2 → ⊥) → is_clear (compared_shape p k fs) ≡ false
compared_fails p None fs long = refl
compared_fails p (Some (keywords.Arithmetic o)) fs long = refl
compared_fails p (Some keywords.If) fs long = refl
compared_fails p (Some keywords.ReadByte) fs long = refl
compared_fails p (Some keywords.Define) fs long = refl
compared_fails p (Some keywords.WriteByte) fs long = refl
compared_fails p (Some (keywords.Compare c)) fs long = wrong_number p 2 fs long

written_fails : (p : Place) (k : Option Keyword) (fs : List Flaws) → (length fs ≡ 1 → ⊥) → is_clear (written_shape p k fs) ≡ false
written_fails p None fs long = refl
written_fails p (Some (keywords.Arithmetic o)) fs long = refl
written_fails p (Some keywords.If) fs long = refl
written_fails p (Some keywords.ReadByte) fs long = refl
written_fails p (Some keywords.Define) fs long = refl
written_fails p (Some keywords.WriteByte) fs long = wrong_number p 1 fs long
written_fails p (Some (keywords.Compare c)) fs long = refl

value_all : (x : Option Expr) → is_some (value_by x) ≡ is_some x
value_all None = refl
value_all (Some e) = refl

body_all : (x : Option Write) (b : Option Body) → is_some (body_by x b) ≡ (is_some x && is_some b)
body_all None b = refl
body_all (Some e) None = refl
body_all (Some e) (Some b) = refl

procedure_all : (p : Place) (s : Scope) (b : Option Body) (f : Option Name) → is_some f ≡ true → is_some (procedure_by p s b f) ≡ is_some b
procedure_all p s None f there = refl
procedure_all p s (Some b) None there = cc
procedure_all p s (Some b) (Some f) there = refl

named_all : (x : Option (List ℕ)) (xs : Option (List (List ℕ))) → are_named (and_also x xs) ≡ (is_named x && are_named xs)
named_all None xs = refl
named_all (Some w) None = sym (and_false (is_name w))
named_all (Some w) (Some ws) = refl

head_all : (x : Option (List ℕ)) (xs : Option (List (List ℕ))) → is_some (head_by (and_also x xs)) ≡ (is_named x && are_named xs)
head_all None xs = refl
head_all (Some w) None = sym (and_false (is_name w))
head_all (Some w) (Some ws) = some_where (record { name = w; parameters = ws }) (is_name w && list_all is_name ws)

clear_first : (p : Place) (o x : Option Place) → is_clear (if is_some o then Some p else x) ≡ (is_clear o && is_clear x)
clear_first p None x = refl
clear_first p (Some q) x = refl

-- ---- a list of data

module _ (names : List (List ℕ)) where
  abbrev IsFit : Datum → Type 0
  IsFit d = Fits (part names d) (flaws names d)

  abbrev AreFit : List Datum → Type 0
  AreFit = AllByRecursion IsFit

  abbrev parts : List Datum → List Part
  parts ds = map (part names) ds

  abbrev faults : List Datum → List Flaws
  faults ds = map (flaws names) ds

  abbrev exprs_in : Scope → List Datum → Option (List Expr)
  exprs_in s ds = all_some (map (λ (p : Part). p.expr s) (parts ds))

  -- expressions one after another
  exprs_fit : (s : Scope) → IsClean s → (ds : List Datum) → AreFit ds → is_some (exprs_in s ds) ≡ (is_clear (expr_shapes (faults ds)) && is_clear (exprs_names s (faults ds)))
  exprs_fit s clean [] all = refl
  exprs_fit s clean (d ∷ ds) all =
      let first = all.0.expr s clean in
      let rest = exprs_fit s clean ds all.1 in
      let f = flaws names d in
      both_hold ((part names d).expr s) (exprs_in s ds)
      ∙ and_by first rest
      ∙ across (is_clear f.expr_shape) (is_clear (f.expr_names s)) (is_clear (expr_shapes (faults ds))) (is_clear (exprs_names s (faults ds)))
      ∙ sym (and_by (clear_both f.expr_shape (expr_shapes (faults ds))) (clear_both (f.expr_names s) (exprs_names s (faults ds))))

  same_length : (ds : List Datum) → length (parts ds) ≡ length (faults ds)
  same_length [] = refl
  same_length (d ∷ ds) = ap suc (same_length ds)

  -- (o a b)
  operation_fits : (s : Scope) → IsClean s → (o : Operator) (p : Place) (ds : List Datum) → AreFit ds → is_some (operation_of s p o (parts ds)) ≡ (is_clear (operands_shape p 2 (faults ds)) && is_clear (exprs_names s (faults ds)))
  operation_fits s clean o p [] all = refl
  operation_fits s clean o p (a ∷ []) all = refl
  operation_fits s clean o p (a ∷ b ∷ []) all = operation_all p o ((part names a).expr s) ((part names b).expr s) ∙ exprs_fit s clean (a ∷ b ∷ []) all
  operation_fits s clean o p (a ∷ b ∷ c ∷ ds) all = sym (and_by (wrong_number p 2 (faults (a ∷ b ∷ c ∷ ds)) (λ e. omega arith)) refl)

  -- (if t c d)
  conditional_fits : (s : Scope) → IsClean s → (p : Place) (ds : List Datum) → AreFit ds → is_some (conditional_of s p (parts ds)) ≡ (is_clear (conditional_shape p (faults ds)) && is_clear (conditional_names s (faults ds)))
  conditional_fits s clean p [] all = refl
  conditional_fits s clean p (t ∷ []) all = refl
  conditional_fits s clean p (t ∷ c ∷ []) all = refl
  conditional_fits s clean p (t ∷ c ∷ d ∷ []) all =
      let f = flaws names t in
      let g = flaws names c in
      let h = flaws names d in
      conditional_all p ((part names t).test s) ((part names c).expr s) ((part names d).expr s)
      ∙ and_by (all.0.test s clean) (and_by (all.1.0.expr s clean) (all.1.1.0.expr s clean) ∙ across (is_clear g.expr_shape) (is_clear (g.expr_names s)) (is_clear h.expr_shape) (is_clear (h.expr_names s)))
      ∙ across (is_clear f.test_shape) (is_clear (f.test_names s)) (is_clear g.expr_shape && is_clear h.expr_shape) (is_clear (g.expr_names s) && is_clear (h.expr_names s))
      ∙ sym (and_by (clear_three f.test_shape g.expr_shape h.expr_shape) (clear_three (f.test_names s) (g.expr_names s) (h.expr_names s)))
  conditional_fits s clean p (t ∷ c ∷ d ∷ e ∷ ds) all = refl

  -- (read-byte)
  read_fits : (p : Place) (ds : List Datum) → is_some (read_of p (parts ds)) ≡ (is_clear (operands_shape p 0 (faults ds)) && true)
  read_fits p [] = refl
  read_fits p (d ∷ ds) = sym (and_by (wrong_number p 0 (faults (d ∷ ds)) (λ e. omega arith)) refl)

  -- (f a ...)
  call_fits : (s : Scope) → IsClean s → (p at : Place) (w : List ℕ) (ds : List Datum) → AreFit ds → is_some (call_of s p at w (parts ds)) ≡ (is_clear (expr_shapes (faults ds)) && is_clear (call_names s p at w (faults ds)))
  call_fits s clean p at w ds all =
      call_all p at (called s w (length (parts ds))) (exprs_in s ds)
      ∙ and_by refl (exprs_fit s clean ds all)
      ∙ inward (is_some (called s w (length (parts ds)))) (is_clear (expr_shapes (faults ds))) (is_clear (exprs_names s (faults ds)))
      ∙ sym (and_by refl (call_names_fit s p at (length (parts ds)) (is_some (number_of s.parameters w)) (number_of s.procedures w) (faults ds) (same_length ds)))

  form_by_fits : (s : Scope) → IsClean s → (p at : Place) (w : List ℕ) (k : Option Keyword) (ds : List Datum) → AreFit ds → is_some (form_by s p at w (parts ds) k) ≡ (is_clear (form_shape p k (faults ds)) && is_clear (form_names s p at w k (faults ds)))
  form_by_fits s clean p at w None ds all = call_fits s clean p at w ds all
  form_by_fits s clean p at w (Some (keywords.Arithmetic o)) ds all = operation_fits s clean o p ds all
  form_by_fits s clean p at w (Some keywords.If) ds all = conditional_fits s clean p ds all
  form_by_fits s clean p at w (Some keywords.ReadByte) ds all = read_fits p ds
  form_by_fits s clean p at w (Some keywords.Define) ds all = refl
  form_by_fits s clean p at w (Some keywords.WriteByte) ds all = refl
  form_by_fits s clean p at w (Some (keywords.Compare c)) ds all = refl

  form_headed_fits : (s : Scope) → IsClean s → (p at : Place) (o : Option (List ℕ)) (ds : List Datum) → AreFit ds → is_some (form_headed s p at o (parts ds)) ≡ (is_clear (headed_shape p o (faults ds)) && is_clear (headed_names s p at o (faults ds)))
  form_headed_fits s clean p at None ds all = refl
  form_headed_fits s clean p at (Some w) ds all = form_by_fits s clean p at w (keyword_of w) ds all

  form_fits : (s : Scope) → IsClean s → (p : Place) (ds : List Datum) → AreFit ds → is_some (form_of s p (parts ds)) ≡ (is_clear (list_shape p (faults ds)) && is_clear (list_names s p (faults ds)))
  form_fits s clean p [] all = refl
  form_fits s clean p (d ∷ ds) all =
      let f = flaws names d in
      ap (λ (at : Place). is_some (form_headed s p at (part names d).word (parts ds))) all.0.place ∙ ap (λ (o : Option (List ℕ)). is_some (form_headed s p f.place o (parts ds))) all.0.word ∙ form_headed_fits s clean p f.place f.word ds all.1

  -- (< a b) or (= a b)
  test_by_fits : (s : Scope) → IsClean s → (p : Place) (k : Option Keyword) (a b : Datum) → IsFit a → IsFit b → is_some (test_by p k ((part names a).expr s) ((part names b).expr s)) ≡ (is_clear (compared_shape p k (faults (a ∷ b ∷ []))) && is_clear (exprs_names s (faults (a ∷ b ∷ []))))
  test_by_fits s clean p None a b fit also = refl
  test_by_fits s clean p (Some (keywords.Arithmetic o)) a b fit also = refl
  test_by_fits s clean p (Some keywords.If) a b fit also = refl
  test_by_fits s clean p (Some keywords.ReadByte) a b fit also = refl
  test_by_fits s clean p (Some keywords.Define) a b fit also = refl
  test_by_fits s clean p (Some keywords.WriteByte) a b fit also = refl
  test_by_fits s clean p (Some (keywords.Compare c)) a b fit also = compare_all p c ((part names a).expr s) ((part names b).expr s) ∙ exprs_fit s clean (a ∷ b ∷ []) (fit, (also, tt))
    where
      compare_all : (p : Place) (c : Comparison) (x y : Option Expr) → is_some (test_by p (Some (keywords.Compare c)) x y) ≡ is_some (and_also x (and_also y (Some [])))
      compare_all p c None y = refl
      compare_all p c (Some a) None = refl
      compare_all p c (Some a) (Some b) = refl

  test_fits : (s : Scope) → IsClean s → (p : Place) (ds : List Datum) → AreFit ds → is_some (test_of s p (parts ds)) ≡ (is_clear (test_list_shape p (faults ds)) && is_clear (behind_names s (faults ds)))
  test_fits s clean p [] all = refl
  test_fits s clean p (d ∷ []) all = sym (and_by (compared_fails p (keyword_in (flaws names d).word) [] (λ e. omega arith)) refl)
  test_fits s clean p (d ∷ a ∷ []) all = sym (and_by (compared_fails p (keyword_in (flaws names d).word) (faults (a ∷ [])) (λ e. omega arith)) refl)
  test_fits s clean p (d ∷ a ∷ b ∷ []) all =
      ap (λ (o : Option (List ℕ)). is_some (test_by p (keyword_in o) ((part names a).expr s) ((part names b).expr s))) all.0.word ∙ test_by_fits s clean p (keyword_in (flaws names d).word) a b all.1.0 all.1.1.0
  test_fits s clean p (d ∷ a ∷ b ∷ c ∷ ds) all = sym (and_by (compared_fails p (keyword_in (flaws names d).word) (faults (a ∷ b ∷ c ∷ ds)) (λ e. omega arith)) refl)

  -- (write-byte e)
  write_by_fits : (s : Scope) → IsClean s → (p : Place) (k : Option Keyword) (e : Datum) → IsFit e → is_some (write_by p k ((part names e).expr s)) ≡ (is_clear (written_shape p k (faults (e ∷ []))) && is_clear (exprs_names s (faults (e ∷ []))))
  write_by_fits s clean p None e fit = refl
  write_by_fits s clean p (Some (keywords.Arithmetic o)) e fit = refl
  write_by_fits s clean p (Some keywords.If) e fit = refl
  write_by_fits s clean p (Some keywords.ReadByte) e fit = refl
  write_by_fits s clean p (Some keywords.Define) e fit = refl
  write_by_fits s clean p (Some keywords.WriteByte) e fit = alone p ((part names e).expr s) ∙ exprs_fit s clean (e ∷ []) (fit, tt)
    where
      alone : (p : Place) (x : Option Expr) → is_some (option_map (write_at p) x) ≡ is_some (and_also x (Some []))
      alone p None = refl
      alone p (Some a) = refl
  write_by_fits s clean p (Some (keywords.Compare c)) e fit = refl

  write_fits : (s : Scope) → IsClean s → (p : Place) (ds : List Datum) → AreFit ds → is_some (write_of s p (parts ds)) ≡ (is_clear (write_list_shape p (faults ds)) && is_clear (behind_names s (faults ds)))
  write_fits s clean p [] all = refl
  write_fits s clean p (d ∷ []) all = sym (and_by (written_fails p (keyword_in (flaws names d).word) [] (λ e. omega arith)) refl)
  write_fits s clean p (d ∷ e ∷ []) all =
      ap (λ (o : Option (List ℕ)). is_some (write_by p (keyword_in o) ((part names e).expr s))) all.0.word ∙ write_by_fits s clean p (keyword_in (flaws names d).word) e all.1.0
  write_fits s clean p (d ∷ e ∷ c ∷ ds) all = sym (and_by (written_fails p (keyword_in (flaws names d).word) (faults (e ∷ c ∷ ds)) (λ e. omega arith)) refl)

  -- ---- a definition

  body_fits : (s : Scope) → IsClean s → (d : Datum) (ds : List Datum) → AreFit (d ∷ ds) → is_some (body_of s (parts (d ∷ ds))) ≡ (is_clear (body_shape (faults (d ∷ ds))) && is_clear (body_names s (faults (d ∷ ds))))
  body_fits s clean d [] all = value_all ((part names d).expr s) ∙ all.0.expr s clean
  body_fits s clean d (e ∷ ds) all =
      let f = flaws names d in
      body_all ((part names d).write s) (body_of s (parts (e ∷ ds)))
      ∙ and_by (all.0.write s clean) (body_fits s clean e ds all.1)
      ∙ across (is_clear f.write_shape) (is_clear (f.write_names s)) (is_clear (body_shape (faults (e ∷ ds)))) (is_clear (body_names s (faults (e ∷ ds))))
      ∙ sym (and_by (clear_both f.write_shape (body_shape (faults (e ∷ ds)))) (clear_both (f.write_names s) (body_names s (faults (e ∷ ds)))))

  -- the names in a head
  abbrev words_in : List Datum → Option (List (List ℕ))
  words_in ds = all_some (map (λ (p : Part). p.word) (parts ds))

  same_words : (ds : List Datum) → AreFit ds → words_in ds ≡ all_some (map (λ (f : Flaws). f.word) (faults ds))
  same_words [] all = refl
  same_words (d ∷ ds) all = ap (λ (o : Option (List ℕ)). and_also o (words_in ds)) all.0.word ∙ ap (λ (o : Option (List (List ℕ))). and_also (flaws names d).word o) (same_words ds all.1)

  names_fit : (ds : List Datum) → AreFit ds → is_clear (first_of (map (λ (f : Flaws). f.name_shape) (faults ds))) ≡ are_named (words_in ds)
  names_fit [] all = refl
  names_fit (d ∷ ds) all =
      let f = flaws names d in
      clear_both f.name_shape (first_of (map (λ (f : Flaws). f.name_shape) (faults ds))) ∙ and_by all.0.name (names_fit ds all.1) ∙ sym (named_all ((part names d).word) (words_in ds))

  head_fits : (p : Place) (ds : List Datum) → AreFit ds → is_clear (head_list_shape p (faults ds)) ≡ is_some (head_by (words_in ds))
  head_fits p [] all = refl
  head_fits p (d ∷ ds) all =
      let f = flaws names d in
      clear_first p f.name_shape (first_of (map (λ (f : Flaws). f.name_shape) (faults ds))) ∙ and_by all.0.name (names_fit ds all.1) ∙ sym (head_all ((part names d).word) (words_in ds))

  -- the names of parameters, taken one by one
  parameters_fit : (n : ℕ) (before : List (List ℕ)) (ds : List Datum) (xs : List (List ℕ)) → AreFit ds → words_in ds ≡ Some xs → is_clear (parameters_names n before (faults ds)) ≡ are_parameters n before xs
  parameters_fit n before [] xs all is = let none : [] ≡ xs = cc in subst (λ (ys : List (List ℕ)). true ≡ are_parameters n before ys) none refl
  parameters_fit n before (d ∷ ds) xs all is =
      let f = flaws names d in
      let js = joined ((part names d).word) (words_in ds) xs is in
      let rest = parameters_fit (suc n) (before ++ js.first ∷ []) ds js.rest all.1 js.is_rest in
      let word : f.word ≡ Some js.first = sym all.0.word ∙ js.is_first in
      ap (λ (o : Option (List ℕ)). is_clear (if is_among before o then Some f.place else (if nat_lt n 127 then parameters_names (suc n) (with_word before o) (faults ds) else Some f.place))) word
      ∙ clear_unless (is_some (number_of before js.first)) f.place (if nat_lt n 127 then parameters_names (suc n) (before ++ js.first ∷ []) (faults ds) else Some f.place)
      ∙ and_by refl (clear_where (nat_lt n 127) f.place (parameters_names (suc n) (before ++ js.first ∷ []) (faults ds)) ∙ and_by refl rest)
      ∙ ap (λ (ys : List (List ℕ)). are_parameters n before ys) (sym js.is)

  -- the names of a head
  heading_fits : (ds : List Datum) → AreFit ds → (defined : List (List ℕ)) (h : Head) → head_by (words_in ds) ≡ Some h → is_clear (head_list_names defined (faults ds)) ≡ is_fine_head defined h
  heading_fits [] all defined h is = cc
  heading_fits (d ∷ ds) all defined h is =
      let f = flaws names d in
      let js = joined ((part names d).word) (words_in ds) (h.name ∷ h.parameters) (headed (words_in (d ∷ ds)) h is).is in
      let first : js.first ≡ h.name = let e = js.is in cc in
      let rest : js.rest ≡ h.parameters = let e = js.is in cc in
      let word : f.word ≡ Some h.name = sym all.0.word ∙ js.is_first ∙ ap (λ x. Some x) first in
      ap (λ (o : Option (List ℕ)). is_clear (if is_among defined o then Some f.place else parameters_names 0 [] (faults ds))) word
      ∙ clear_unless (is_some (number_of defined h.name)) f.place (parameters_names 0 [] (faults ds))
      ∙ and_by refl (parameters_fit 0 [] ds h.parameters all.1 (js.is_rest ∙ ap (λ x. Some x) rest))

  first_fits : (ds : List Datum) → AreFit ds → (h : Head) → head_by (words_in ds) ≡ Some h → is_some (first_symbol (parts ds)) ≡ true
  first_fits [] all h is = cc
  first_fits (d ∷ ds) all h is =
      let js = joined ((part names d).word) (words_in ds) (h.name ∷ h.parameters) (headed (words_in (d ∷ ds)) h is).is in
      all.0.symbol ∙ ap is_some js.is_first

  -- (define (f x ...) ...)
  defined_fits : (p : Place) (k : Option Keyword) (h : Datum) (fs : List Flaws) → IsFit h → is_clear (defined_shape p k (flaws names h) fs) ≡ true → is_some (defined_by k (head_by (part names h).words)) ≡ true
  defined_fits p None h fs fit is = cc
  defined_fits p (Some (keywords.Arithmetic o)) h fs fit is = cc
  defined_fits p (Some keywords.If) h fs fit is = cc
  defined_fits p (Some keywords.ReadByte) h fs fit is = cc
  defined_fits p (Some keywords.Define) h fs fit is =
      let f = flaws names h in
      sym fit.head ∙ (and_parts (is_clear f.head_shape) (is_clear (body_shape fs)) (sym (clear_both f.head_shape (body_shape fs)) ∙ is)).0
  defined_fits p (Some keywords.WriteByte) h fs fit is = cc
  defined_fits p (Some (keywords.Compare c)) h fs fit is = cc

  definition_fits : (p : Place) (ds : List Datum) → AreFit ds → is_clear (definition_list_shape p (faults ds)) ≡ true → is_some (head_of (parts ds)) ≡ true
  definition_fits p [] all is = cc
  definition_fits p (d ∷ []) all is = cc
  definition_fits p (d ∷ h ∷ []) all is = cc
  definition_fits p (d ∷ h ∷ b ∷ ds) all is =
      ap (λ (o : Option (List ℕ)). is_some (defined_by (keyword_in o) (head_by (part names h).words))) all.0.word ∙ defined_fits p (keyword_in (flaws names d).word) h (faults (b ∷ ds)) all.1.0 is

  -- the body of a definition, among definitions with these heads
  procedure_fits : (p : Place) (ds : List Datum) → AreFit ds → (heads : List Head) (defined : List (List ℕ)) (x : Head) → head_of (parts ds) ≡ Some x
      → (is_some (procedure_of (scope_in heads x) p (parts ds)) && is_fine_head defined x) ≡ (is_clear (definition_list_shape p (faults ds)) && is_clear (definition_list_names heads defined (faults ds)))
  procedure_fits p [] all heads defined x is = cc
  procedure_fits p (d ∷ []) all heads defined x is = cc
  procedure_fits p (d ∷ h ∷ []) all heads defined x is = refl
  procedure_fits p (d ∷ h ∷ b ∷ ds) all heads defined x is =
      let s = scope_in heads x in
      let f = flaws names d in
      let g = flaws names h in
      let fs = faults (b ∷ ds) in
      let is_definition = defined_head (keyword_in (part names d).word) (head_by (part names h).words) x is in
      let named = (headed (part names h).words x is_definition.1).named in
      let clean : IsClean s = record { names = (and_parts (is_name x.name) (list_all is_name x.parameters) named).1 } in
      let keyword : keyword_in f.word ≡ Some keywords.Define = sym (ap keyword_in all.0.word) ∙ is_definition.0 in
      let head : head_by g.words ≡ Some x = sym (ap head_by all.1.0.words) ∙ is_definition.1 in
      let shaped : is_clear g.head_shape ≡ true = all.1.0.head ∙ ap is_some is_definition.1 in
      and_by (procedure_all p s (body_of s (parts (b ∷ ds))) (part names h).first (all.1.0.first x is_definition.1) ∙ body_fits s clean b ds all.1.1) refl
      ∙ last_inward (is_clear (body_shape fs)) (is_clear (body_names s fs)) (is_fine_head defined x)
      ∙ sym (and_by (ap (λ (k : Option Keyword). is_clear (defined_shape p k g fs)) keyword ∙ clear_both g.head_shape (body_shape fs) ∙ and_by shaped refl) (clear_both (g.head_names defined) (body_in heads (head_by g.words) fs) ∙ and_by (all.1.0.heading defined x is_definition.1) (ap (λ (o : Option Head). is_clear (body_in heads o fs)) head)))

  list_fits : (p : Place) (ds : List Datum) → AreFit ds → Fits (list_part p (parts ds)) (list_flaws p (faults ds))
  list_fits p ds all = record {
    place = refl;
    symbol = refl;
    word = refl;
    first = first_fits ds all;
    words = same_words ds all;
    name = refl;
    expr = λ s clean. form_fits s clean p ds all;
    test = λ s clean. test_fits s clean p ds all;
    write = λ s clean. write_fits s clean p ds all;
    head = head_fits p ds all;
    heading = heading_fits ds all;
    definition = definition_fits p ds all;
    procedure = procedure_fits p ds all;
  }

  -- ---- all data

  abbrev part_step : DatumKind → Place → Part
  part_step = fold-DatumKind (Place → Part) Part (part_node names) (λ d. d.kind d.place)

  abbrev fault_step : DatumKind → Place → Flaws
  fault_step = fold-DatumKind (Place → Flaws) Flaws (flaws_node names) (λ d. d.kind d.place)

  abbrev IsFitKind : DatumKind → Type 0
  IsFitKind x = (p : Place) → Fits (part_step x p) (fault_step x p)

  pub fits : (d : Datum) → IsFit d
  fits = induction IsFitKind IsFit
      (λ b p. by p (fold-boolean (part_node names) (λ d. d.kind d.place) b) (fold-boolean (flaws_node names) (λ d. d.kind d.place) b) (shapeless_fits p))
      (λ i p. by p (fold-integer (part_node names) (λ d. d.kind d.place) i) (fold-integer (flaws_node names) (λ d. d.kind d.place) i) (integer_fits i p))
      (λ c p. by p (fold-char (part_node names) (λ d. d.kind d.place) c) (fold-char (flaws_node names) (λ d. d.kind d.place) c) (shapeless_fits p))
      (λ bytes p. by p (fold-text (part_node names) (λ d. d.kind d.place) bytes) (fold-text (flaws_node names) (λ d. d.kind d.place) bytes) (shapeless_fits p))
      (λ n p. by p (fold-symbol (part_node names) (λ d. d.kind d.place) n) (fold-symbol (flaws_node names) (λ d. d.kind d.place) n) (word_fits p n (slice_get names n.0)))
      (λ ds all p. by p (fold-list (part_node names) (λ d. d.kind d.place) ds) (fold-list (flaws_node names) (λ d. d.kind d.place) ds) (list_fits p ds all))
      (λ ds d all one p. by p (fold-dotted (part_node names) (λ d. d.kind d.place) ds d) (fold-dotted (flaws_node names) (λ d. d.kind d.place) ds d) (shapeless_fits p))
      (λ ds all p. by p (fold-vector (part_node names) (λ d. d.kind d.place) ds) (fold-vector (flaws_node names) (λ d. d.kind d.place) ds) (shapeless_fits p))
      (λ p x fit. both (fold-datum (part_node names) (λ d. d.kind d.place) p x) (fold-datum (flaws_node names) (λ d. d.kind d.place) p x) (fit p))
    where
      -- a fact on what two folds come to
      both : {a b : Part} {f g : Flaws} → a ≡ b → f ≡ g → Fits b g → Fits a f
      both {a = a} {b = b} {f = f} {g = g} e also fit = subst (λ (x : Part). Fits x f) (sym e) (subst (λ (x : Flaws). Fits b x) (sym also) fit)

      by : (p : Place) {a b : Place → Part} {f g : Place → Flaws} → a ≡ b → f ≡ g → Fits (b p) (g p) → Fits (a p) (f p)
      by p e also fit = both (ap (λ (h : Place → Part). h p) e) (ap (λ (h : Place → Flaws). h p) also) fit
