-- What a datum reads as is valid in its scope, and no larger than the datum's weight.
-- For: `program_is_valid`
use Rattle.std.proofs.Common.{◌≡◌, ℕ, ℤ, suc, ◌+◌, ◌<◌, ◌≤◌, List, [], ◌∷◌, length, map, Option, Some, None, refl, sym, ap, ◌∙◌, subst, arith}
use Rattle.std.specs.Prelude.{Bool, true, false, if◌then◌else◌, slice_get, is_some}
use Rattle.std.specs.Option.{option_map}
use Rattle.std.specs.List.{AllByRecursion, list_all}
use Rattle.std.specs.Str.{bytes_eq}
use Rattle.std.specs.Cmp.Derive.{both_true}
use Rattle.std.proofs.lemmas.Bool.{lt-ltb}
use Rattle.std.proofs.lemmas.List.{length-map}
use Rattle.ps_base.specs.Names.{number_of}
use Rattle.ps_base.specs.declared.faults.Place.{Place}
use Rattle.ps_base.specs.declared.names.Name.{Name}
use Rattle.ps_base.specs.Numbers.{is_word}
use Rattle.ps_base.specs.Numbers.{sum_of}
use Rattle.ps_datum.specs.Weight.{weight, weights, weight_node}
use Rattle.ps_datum.specs.declared.datum.Datum.{Datum}
use Rattle.ps_datum.specs.declared.datum.DatumKind.{DatumKind, fold-DatumKind}
use Rattle.ps_datum.specs.declared.datum.DatumKind.TheOpen.{DatumKind-F}
use Rattle.ps_datum.specs.declared.datum.DatumKind.TheVariants as k
use Rattle.ps_datum.proofs.Trees as trees
use Rattle.ps_plain.specs.declared.program.Operator.{Operator}
use Rattle.ps_plain.specs.declared.program.Keyword.{Keyword}
use Rattle.ps_plain.specs.declared.program.Keyword.TheVariants as keywords
use Rattle.ps_plain.specs.declared.program.Expr.{Expr}
use Rattle.ps_plain.specs.declared.program.Expr.TheVariants as exprs
use Rattle.ps_plain.specs.declared.program.Write.{Write}
use Rattle.ps_plain.specs.declared.program.Procedure.{Procedure}
use Rattle.ps_plain.specs.Forms.{Scope, Test, Head, Body, Part, no_part, word_part, list_part, has_arity, with_arity, and_also, all_some, keyword_of, operation_by, operation_of, test_by, test_of, conditional_by, conditional_of, read_of, call_by, call_of, form_by, form_headed, form_of, write_at, write_by, write_of, body_by, value_by, body_of, is_name, head_by, defined_by, procedure_by, part_node, part}
use Rattle.ps_plain.specs.Size.{size_node, size, write_size}
use Rattle.ps_plain.specs.Valid.{Named, all_true, valid, valid_node}
use Rattle.ps_plain.proofs.Trees.{fold-integer, fold-parameter, fold-operation, fold-if, fold-call, fold-read}

-- what an expression in a scope may name
abbrev pub named : Scope → Named
named s = record { parameters = length s.parameters; procedures = s.arities }

-- ---- what is fine in each position, within a number of tokens; nothing is

abbrev pub FineExpr : Scope → Option Expr → ℕ → Type 0
FineExpr s None w = Unit {0}
FineExpr s (Some e) w = (valid (named s) e ≡ true) × (size e ≤ w)

abbrev FineWrite : Scope → Option Write → ℕ → Type 0
FineWrite s None n = Unit {0}
FineWrite s (Some w) n = (valid (named s) w.value ≡ true) × (size w.value ≤ n)

abbrev FineTest : Scope → Option Test → ℕ → Type 0
FineTest s None w = Unit {0}
FineTest s (Some t) w = (valid (named s) t.left ≡ true) × (valid (named s) t.right ≡ true) × (size t.left + size t.right + 2 ≤ w)

abbrev FineList : Scope → Option (List Expr) → ℕ → ℕ → Type 0
FineList s None n w = Unit {0}
FineList s (Some es) n w = (all_true (map (valid (named s)) es) ≡ true) × (length es ≡ n) × (sum_of (map size es) ≤ w)

abbrev FineBody : Scope → Option Body → ℕ → Type 0
FineBody s None w = Unit {0}
FineBody s (Some b) n = AllByRecursion (λ (w : Write). valid (named s) w.value ≡ true) b.writes × (valid (named s) b.value ≡ true) × (sum_of (map write_size b.writes) + size b.value ≤ n)

abbrev FineWords : Option (List (List ℕ)) → ℕ → Type 0
FineWords None w = Unit {0}
FineWords (Some ws) w = length ws ≤ w

abbrev pub FineHead : Option Head → ℕ → Type 0
FineHead None w = Unit {0}
FineHead (Some h) w = length h.parameters ≤ w

-- a procedure whose body has this scope
pub record IsFineProcedure (s : Scope) (q : Procedure) (w : ℕ) : Type 0 where
  pub parameters : q.parameters ≡ length s.parameters
  pub writes : AllByRecursion (λ (x : Write). valid (named s) x.value ≡ true) q.writes
  pub value : valid (named s) q.value ≡ true
  pub small : sum_of (map write_size q.writes) + size q.value ≤ w

abbrev pub FineProcedure : Scope → Option Procedure → ℕ → Type 0
FineProcedure s None w = Unit {0}
FineProcedure s (Some q) w = IsFineProcedure s q w

-- the tokens of a definition's head, and those of its body
pub record FineDefinition (p : Part) (w : ℕ) : Type 0 where
  pub above : ℕ
  pub within : ℕ
  pub head : FineHead p.head above
  pub procedure : (s : Scope) → FineProcedure s (p.procedure s) within
  pub all : 1 + above + within ≤ w

pub record Fine (p : Part) (w : ℕ) : Type 0 where
  pub written : 1 ≤ w
  pub words : FineWords p.words w
  pub expr : (s : Scope) → FineExpr s (p.expr s) w
  pub test : (s : Scope) → FineTest s (p.test s) w
  pub write : (s : Scope) → FineWrite s (p.write s) w
  pub definition : FineDefinition p w

-- ---- what is put together of fine parts is fine

abbrev IsWordOrNone : Option ℤ → Type 0
IsWordOrNone None = Unit {0}
IsWordOrNone (Some i) = is_word i ≡ true

fit_by : (i : ℤ) (b : Bool) → is_word i ≡ b → IsWordOrNone (if b then Some i else None)
fit_by i true is = is
fit_by i false is = tt

abbrev IsWithinOrNone : Option ℕ → ℕ → Type 0
IsWithinOrNone None n = Unit {0}
IsWithinOrNone (Some k) n = k < n

next_within : (o : Option ℕ) (n : ℕ) → IsWithinOrNone o n → IsWithinOrNone (option_map suc o) (suc n)
next_within None n h = tt
next_within (Some k) n h = omega arith

place_within : (b : Bool) (o : Option ℕ) (n : ℕ) → IsWithinOrNone o n → IsWithinOrNone (if b then Some 0 else option_map suc o) (suc n)
place_within true o n h = omega arith
place_within false o n h = next_within o n h

number_within : (texts : List (List ℕ)) (text : List ℕ) → IsWithinOrNone (number_of texts text) (length texts)
number_within [] text = tt
number_within (t ∷ texts) text = place_within (bytes_eq text t) (number_of texts text) (length texts) (number_within texts text)

parameter_fine : (s : Scope) (p : Place) (o : Option ℕ) → IsWithinOrNone o (length s.parameters) → FineExpr s (option_map (λ k. exprs.Parameter p k) o) 1
parameter_fine s p None h = tt
parameter_fine s p (Some k) h = (fold-parameter (valid_node (named s)) p k ∙ lt-ltb k (length s.parameters) h, (let e = fold-parameter size_node p k in omega arith))

integer_fine : (s : Scope) (p : Place) (o : Option ℤ) → IsWordOrNone o → FineExpr s (option_map (λ i. exprs.Integer p i) o) 1
integer_fine s p None h = tt
integer_fine s p (Some i) h = (fold-integer (valid_node (named s)) p i ∙ h, (let e = fold-integer size_node p i in omega arith))

nothing_fine : (p : Place) (w : ℕ) → 1 ≤ w → Fine (no_part p) w
nothing_fine p w le = record {
  written = le;
  words = tt;
  expr = λ s. tt;
  test = λ s. tt;
  write = λ s. tt;
  definition = record { above = 0; within = 0; head = tt; procedure = λ s. tt; all = omega arith };
}

integer_part_fine : (names : List (List ℕ)) (i : ℤ) (p : Place) → Fine (part_node names (DatumKind-F.Integer i) p) 1
integer_part_fine names i p = record {
  written = omega arith;
  words = tt;
  expr = λ s. integer_fine s p _ (fit_by i _ refl);
  test = λ s. tt;
  write = λ s. tt;
  definition = record { above = 0; within = 0; head = tt; procedure = λ s. tt; all = omega arith };
}

word_fine : (p : Place) (n : Name) (o : Option (List ℕ)) → Fine (word_part p n o) 1
word_fine p n None = nothing_fine p 1 (omega arith)
word_fine p n (Some w) = record {
  written = omega arith;
  words = tt;
  expr = λ s. parameter_fine s p _ (number_within s.parameters w);
  test = λ s. tt;
  write = λ s. tt;
  definition = record { above = 0; within = 0; head = tt; procedure = λ s. tt; all = omega arith };
}

operation_by_fine : (s : Scope) (p : Place) (o : Operator) (x y : Option Expr) (m n w : ℕ) → 1 + m + n ≤ w → FineExpr s x m → FineExpr s y n → FineExpr s (operation_by p o x y) w
operation_by_fine s p o None None m n w le h k = tt
operation_by_fine s p o None (Some b) m n w le h k = tt
operation_by_fine s p o (Some a) None m n w le h k = tt
operation_by_fine s p o (Some a) (Some b) m n w le h k = (fold-operation (valid_node (named s)) p o a b ∙ both_true h.0 k.0, (let e = fold-operation size_node p o a b in omega (arith, h.1, k.1)))

conditional_by_fine : (s : Scope) (p : Place) (t : Option Test) (x y : Option Expr) (l m n w : ℕ) → l + m + n ≤ w → FineTest s t l → FineExpr s x m → FineExpr s y n → FineExpr s (conditional_by p t x y) w
conditional_by_fine s p None x y l m n w le h i j = tt
conditional_by_fine s p (Some t) None y l m n w le h i j = tt
conditional_by_fine s p (Some t) (Some c) None l m n w le h i j = tt
conditional_by_fine s p (Some t) (Some c) (Some d) l m n w le h i j =
    (fold-if (valid_node (named s)) p t.place t.comparison t.left t.right c d ∙ both_true (both_true (both_true h.0 h.1) i.0) j.0, (let e = fold-if size_node p t.place t.comparison t.left t.right c d in omega (arith, h.2, i.1, j.1)))

one_more : (s : Scope) (x : Option Expr) (xs : Option (List Expr)) (k m n : ℕ) → FineExpr s x m → FineList s xs k n → FineList s (and_also x xs) (suc k) (m + n)
one_more s None xs k m n h i = tt
one_more s (Some e) None k m n h i = tt
one_more s (Some e) (Some es) k m n h i = (both_true h.0 i.0, ap suc i.1, omega (arith, h.1, i.2))

abbrev IsCalledOrNone : List ℕ → ℕ → Option ℕ → Type 0
IsCalledOrNone arities n None = Unit {0}
IsCalledOrNone arities n (Some f) = has_arity n (slice_get arities f) ≡ true

arity_by : (arities : List ℕ) (n f : ℕ) (b : Bool) → has_arity n (slice_get arities f) ≡ b → IsCalledOrNone arities n (if b then Some f else None)
arity_by arities n f true is = is
arity_by arities n f false is = tt

with_arity_called : (arities : List ℕ) (n : ℕ) (o : Option ℕ) → IsCalledOrNone arities n (with_arity arities n o)
with_arity_called arities n None = tt
with_arity_called arities n (Some f) = arity_by arities n f _ refl

called_by : (arities : List ℕ) (n : ℕ) (b : Bool) (o : Option ℕ) → IsCalledOrNone arities n o → IsCalledOrNone arities n (if b then None else o)
called_by arities n true o h = tt
called_by arities n false o h = h

call_by_fine : (s : Scope) (p at : Place) (f : Option ℕ) (es : Option (List Expr)) (n v w : ℕ) → 2 + v ≤ w → IsCalledOrNone s.arities n f → FineList s es n v → FineExpr s (call_by p at f es) w
call_by_fine s p at None es n v w le h i = tt
call_by_fine s p at (Some f) None n v w le h i = tt
call_by_fine s p at (Some f) (Some es) n v w le h i =
    let long : length (map (valid (named s)) es) ≡ n = length-map es (valid (named s)) ∙ i.1 in
    (fold-call (valid_node (named s)) p at f es ∙ both_true (ap (λ (m : ℕ). has_arity m (slice_get s.arities f)) long ∙ h) i.0, (let e = fold-call size_node p at f es in omega (arith, i.2)))

test_by_fine : (s : Scope) (p : Place) (k : Option Keyword) (x y : Option Expr) (m n w : ℕ) → 2 + m + n ≤ w → FineExpr s x m → FineExpr s y n → FineTest s (test_by p k x y) w
test_by_fine s p None x y m n w le h i = tt
test_by_fine s p (Some (keywords.Arithmetic o)) x y m n w le h i = tt
test_by_fine s p (Some keywords.If) x y m n w le h i = tt
test_by_fine s p (Some keywords.ReadByte) x y m n w le h i = tt
test_by_fine s p (Some keywords.Define) x y m n w le h i = tt
test_by_fine s p (Some keywords.WriteByte) x y m n w le h i = tt
test_by_fine s p (Some (keywords.Compare c)) None y m n w le h i = tt
test_by_fine s p (Some (keywords.Compare c)) (Some a) None m n w le h i = tt
test_by_fine s p (Some (keywords.Compare c)) (Some a) (Some b) m n w le h i = (h.0, i.0, omega (arith, h.1, i.1))

written_fine : (s : Scope) (p : Place) (x : Option Expr) (m n : ℕ) → m ≤ n → FineExpr s x m → FineWrite s (option_map (write_at p) x) n
written_fine s p None m n le h = tt
written_fine s p (Some e) m n le h = (h.0, omega (arith, h.1))

write_by_fine : (s : Scope) (p : Place) (k : Option Keyword) (x : Option Expr) (m n : ℕ) → m ≤ n → FineExpr s x m → FineWrite s (write_by p k x) n
write_by_fine s p None x m n le h = tt
write_by_fine s p (Some (keywords.Arithmetic o)) x m n le h = tt
write_by_fine s p (Some keywords.If) x m n le h = tt
write_by_fine s p (Some keywords.ReadByte) x m n le h = tt
write_by_fine s p (Some keywords.Define) x m n le h = tt
write_by_fine s p (Some keywords.WriteByte) x m n le h = written_fine s p x m n le h
write_by_fine s p (Some (keywords.Compare c)) x m n le h = tt

value_by_fine : (s : Scope) (x : Option Expr) (m w : ℕ) → m ≤ w → FineExpr s x m → FineBody s (value_by x) w
value_by_fine s None m w le h = tt
value_by_fine s (Some e) m w le h = (tt, h.0, omega (arith, h.1))

body_by_fine : (s : Scope) (x : Option Write) (b : Option Body) (m n w : ℕ) → m + n ≤ w → FineWrite s x m → FineBody s b n → FineBody s (body_by x b) w
body_by_fine s None b m n w le h i = tt
body_by_fine s (Some e) None m n w le h i = tt
body_by_fine s (Some e) (Some b) m n w le h i = ((h.0, i.0), i.1, omega (arith, h.1, i.2))

procedure_by_fine : (p : Place) (s : Scope) (b : Option Body) (f : Option Name) (w : ℕ) → FineBody s b w → FineProcedure s (procedure_by p s b f) w
procedure_by_fine p s None f w h = tt
procedure_by_fine p s (Some b) None w h = tt
procedure_by_fine p s (Some b) (Some f) w h = record { parameters = refl; writes = h.0; value = h.1; small = h.2 }

named_fine : (b : Bool) (f : List ℕ) (xs : List (List ℕ)) (w : ℕ) → length (f ∷ xs) ≤ w → FineHead (if b then Some (record { name = f; parameters = xs }) else None) w
named_fine true f xs w le = omega arith
named_fine false f xs w le = tt

head_by_fine : (o : Option (List (List ℕ))) (w : ℕ) → FineWords o w → FineHead (head_by o) w
head_by_fine None w h = tt
head_by_fine (Some []) w h = tt
head_by_fine (Some (f ∷ xs)) w h = named_fine (list_all is_name (f ∷ xs)) f xs w h

defined_by_fine : (k : Option Keyword) (o : Option Head) (w : ℕ) → FineHead o w → FineHead (defined_by k o) w
defined_by_fine None x w h = tt
defined_by_fine (Some (keywords.Arithmetic o)) x w h = tt
defined_by_fine (Some keywords.If) x w h = tt
defined_by_fine (Some keywords.ReadByte) x w h = tt
defined_by_fine (Some keywords.Define) x w h = h
defined_by_fine (Some keywords.WriteByte) x w h = tt
defined_by_fine (Some (keywords.Compare c)) x w h = tt

next_word : (x : Option (List ℕ)) (xs : Option (List (List ℕ))) (m n : ℕ) → 1 ≤ m → FineWords xs n → FineWords (and_also x xs) (m + n)
next_word None xs m n one h = tt
next_word (Some w) None m n one h = tt
next_word (Some w) (Some ws) m n one h = omega arith

more_words : (o : Option (List (List ℕ))) (n : ℕ) → FineWords o n → FineWords o (2 + n)
more_words None n h = tt
more_words (Some ws) n h = omega arith

-- ---- data, where a table lists the names

module _ (names : List (List ℕ)) where
  abbrev pub IsFine : Datum → Type 0
  IsFine d = Fine (part names d) (weight d)

  -- the parts of a list's members
  abbrev parts : List Datum → List Part
  parts ds = map (part names) ds

  abbrev IsEachFine : List Datum → Type 0
  IsEachFine = AllByRecursion IsFine

  operation_fine : (s : Scope) (p : Place) (o : Operator) (ds : List Datum) (w : ℕ) → IsEachFine ds → 3 + weights ds ≤ w → FineExpr s (operation_of s p o (parts ds)) w
  operation_fine s p o [] w all le = tt
  operation_fine s p o (a ∷ []) w all le = tt
  operation_fine s p o (a ∷ b ∷ []) w all le = operation_by_fine s p o _ _ (weight a) (weight b) w (omega arith) (all.0.expr s) (all.1.0.expr s)
  operation_fine s p o (a ∷ b ∷ c ∷ ds) w all le = tt

  conditional_fine : (s : Scope) (p : Place) (ds : List Datum) (w : ℕ) → IsEachFine ds → 3 + weights ds ≤ w → FineExpr s (conditional_of s p (parts ds)) w
  conditional_fine s p [] w all le = tt
  conditional_fine s p (t ∷ []) w all le = tt
  conditional_fine s p (t ∷ c ∷ []) w all le = tt
  conditional_fine s p (t ∷ c ∷ d ∷ []) w all le = conditional_by_fine s p _ _ _ (weight t) (weight c) (weight d) w (omega arith) (all.0.test s) (all.1.0.expr s) (all.1.1.0.expr s)
  conditional_fine s p (t ∷ c ∷ d ∷ e ∷ ds) w all le = tt

  read_fine : (s : Scope) (p : Place) (ds : List Datum) (w : ℕ) → 3 + weights ds ≤ w → FineExpr s (read_of p (parts ds)) w
  read_fine s p [] w le = (fold-read (valid_node (named s)) p, (let e = fold-read size_node p in omega arith))
  read_fine s p (d ∷ ds) w le = tt

  operands_fine : (s : Scope) (ds : List Datum) → IsEachFine ds → FineList s (all_some (map (λ (p : Part). p.expr s) (parts ds))) (length (parts ds)) (weights ds)
  operands_fine s [] all = (refl, refl, omega arith)
  operands_fine s (d ∷ ds) all = one_more s _ _ (length (parts ds)) (weight d) (weights ds) (all.0.expr s) (operands_fine s ds all.1)

  call_fine : (s : Scope) (p at : Place) (name : List ℕ) (ds : List Datum) (w : ℕ) → IsEachFine ds → 3 + weights ds ≤ w → FineExpr s (call_of s p at name (parts ds)) w
  call_fine s p at name ds w all le =
      call_by_fine s p at _ _ (length (parts ds)) (weights ds) w (omega arith)
      (called_by s.arities (length (parts ds)) (is_some (number_of s.parameters name)) _ (with_arity_called s.arities (length (parts ds)) (number_of s.procedures name)))
      (operands_fine s ds all)

  form_by_fine : (s : Scope) (p at : Place) (name : List ℕ) (ds : List Datum) (k : Option Keyword) (w : ℕ) → IsEachFine ds → 3 + weights ds ≤ w → FineExpr s (form_by s p at name (parts ds) k) w
  form_by_fine s p at name ds None w all le = call_fine s p at name ds w all le
  form_by_fine s p at name ds (Some (keywords.Arithmetic o)) w all le = operation_fine s p o ds w all le
  form_by_fine s p at name ds (Some keywords.If) w all le = conditional_fine s p ds w all le
  form_by_fine s p at name ds (Some keywords.ReadByte) w all le = read_fine s p ds w le
  form_by_fine s p at name ds (Some keywords.Define) w all le = tt
  form_by_fine s p at name ds (Some keywords.WriteByte) w all le = tt
  form_by_fine s p at name ds (Some (keywords.Compare c)) w all le = tt

  form_headed_fine : (s : Scope) (p at : Place) (o : Option (List ℕ)) (ds : List Datum) (w : ℕ) → IsEachFine ds → 3 + weights ds ≤ w → FineExpr s (form_headed s p at o (parts ds)) w
  form_headed_fine s p at None ds w all le = tt
  form_headed_fine s p at (Some name) ds w all le = form_by_fine s p at name ds (keyword_of name) w all le

  form_fine : (s : Scope) (p : Place) (ds : List Datum) → IsEachFine ds → FineExpr s (form_of s p (parts ds)) (2 + weights ds)
  form_fine s p [] all = tt
  form_fine s p (d ∷ ds) all = form_headed_fine s p ((part names d).place) ((part names d).word) ds (2 + weights (d ∷ ds)) all.1 (omega (arith, all.0.written))

  test_fine : (s : Scope) (p : Place) (ds : List Datum) → IsEachFine ds → FineTest s (test_of s p (parts ds)) (2 + weights ds)
  test_fine s p [] all = tt
  test_fine s p (f ∷ []) all = tt
  test_fine s p (f ∷ a ∷ []) all = tt
  test_fine s p (f ∷ a ∷ b ∷ []) all = test_by_fine s p _ _ _ (weight a) (weight b) (2 + weights (f ∷ a ∷ b ∷ [])) (omega arith) (all.1.0.expr s) (all.1.1.0.expr s)
  test_fine s p (f ∷ a ∷ b ∷ c ∷ ds) all = tt

  write_fine : (s : Scope) (p : Place) (ds : List Datum) → IsEachFine ds → FineWrite s (write_of s p (parts ds)) (2 + weights ds)
  write_fine s p [] all = tt
  write_fine s p (f ∷ []) all = tt
  write_fine s p (f ∷ e ∷ []) all = write_by_fine s p _ _ (weight e) (2 + weights (f ∷ e ∷ [])) (omega arith) (all.1.0.expr s)
  write_fine s p (f ∷ e ∷ c ∷ ds) all = tt

  body_fine : (s : Scope) (ds : List Datum) → IsEachFine ds → FineBody s (body_of s (parts ds)) (weights ds)
  body_fine s [] all = tt
  body_fine s (d ∷ []) all = value_by_fine s _ (weight d) (weights (d ∷ [])) (omega arith) (all.0.expr s)
  body_fine s (d ∷ e ∷ ds) all = body_by_fine s _ _ (weight d) (weights (e ∷ ds)) (weights (d ∷ e ∷ ds)) (omega arith) (all.0.write s) (body_fine s (e ∷ ds) all.1)

  definition_fine : (p : Place) (ds : List Datum) → IsEachFine ds → FineDefinition (list_part p (parts ds)) (2 + weights ds)
  definition_fine p [] all = record { above = 0; within = 0; head = tt; procedure = λ s. tt; all = omega arith }
  definition_fine p (d ∷ []) all = record { above = 0; within = 0; head = tt; procedure = λ s. tt; all = omega arith }
  definition_fine p (d ∷ h ∷ ds) all = record {
    above = weight h;
    within = weights ds;
    head = defined_by_fine _ _ (weight h) (head_by_fine _ (weight h) all.1.0.words);
    procedure = λ s. procedure_by_fine p s _ _ (weights ds) (body_fine s ds all.1.1);
    all = omega arith;
  }

  words_fine : (ds : List Datum) → IsEachFine ds → FineWords (all_some (map (λ (p : Part). p.word) (parts ds))) (weights ds)
  words_fine [] all = omega arith
  words_fine (d ∷ ds) all = next_word _ _ (weight d) (weights ds) all.0.written (words_fine ds all.1)

  list_fine : (p : Place) (ds : List Datum) → IsEachFine ds → Fine (list_part p (parts ds)) (2 + weights ds)
  list_fine p ds all = record {
    written = omega arith;
    words = more_words _ (weights ds) (words_fine ds all);
    expr = λ s. form_fine s p ds all;
    test = λ s. test_fine s p ds all;
    write = λ s. write_fine s p ds all;
    definition = definition_fine p ds all;
  }

  -- what a kind is at a place, and how large
  abbrev kind_part : DatumKind → Place → Part
  kind_part = fold-DatumKind (Place → Part) Part (part_node names) (λ d. d.kind d.place)

  abbrev kind_weight : DatumKind → ℕ
  kind_weight = fold-DatumKind ℕ ℕ weight_node (λ d. d.kind)

  abbrev IsFineKind : DatumKind → Type 0
  IsFineKind x = (p : Place) → Fine (kind_part x p) (kind_weight x)

  fine_by : (x : DatumKind) (f : Place → Part) (w : ℕ) → kind_part x ≡ f → kind_weight x ≡ w → ((p : Place) → Fine (f p) w) → IsFineKind x
  fine_by x f w is_part is_weight is p = subst (λ (g : Place → Part). Fine (g p) (kind_weight x)) (sym is_part) (subst (λ (n : ℕ). Fine (f p) n) (sym is_weight) (is p))

  datum_fine : (p : Place) (x : DatumKind) → IsFineKind x → IsFine (trees.datum_at p x)
  datum_fine p x is =
      subst (λ (q : Part). Fine q (weight (trees.datum_at p x))) (sym (trees.fold-datum (part_node names) (λ d. d.kind d.place) p x)) (subst (λ (n : ℕ). Fine (kind_part x p) n) (sym (trees.fold-datum weight_node (λ d. d.kind) p x)) (is p))

  pub fine : (d : Datum) → IsFine d
  fine =
      trees.induction
      IsFineKind
      IsFine
      (λ b. fine_by (k.Boolean b) no_part 1 (trees.fold-boolean (part_node names) (λ d. d.kind d.place) b) (trees.fold-boolean weight_node (λ d. d.kind) b) (λ p. nothing_fine p 1 (omega arith)))
      (λ i. fine_by (k.Integer i) (part_node names (DatumKind-F.Integer i)) 1 (trees.fold-integer (part_node names) (λ d. d.kind d.place) i) (trees.fold-integer weight_node (λ d. d.kind) i) (integer_part_fine names i))
      (λ c. fine_by (k.Char c) no_part 1 (trees.fold-char (part_node names) (λ d. d.kind d.place) c) (trees.fold-char weight_node (λ d. d.kind) c) (λ p. nothing_fine p 1 (omega arith)))
      (λ bytes. fine_by (k.Text bytes) no_part 1 (trees.fold-text (part_node names) (λ d. d.kind d.place) bytes) (trees.fold-text weight_node (λ d. d.kind) bytes) (λ p. nothing_fine p 1 (omega arith)))
      (λ n. fine_by (k.Symbol n) (λ p. word_part p n (slice_get names n.0)) 1 (trees.fold-symbol (part_node names) (λ d. d.kind d.place) n) (trees.fold-symbol weight_node (λ d. d.kind) n) (λ p. word_fine p n (slice_get names n.0)))
      (λ ds all. fine_by (k.List ds) (λ p. list_part p (parts ds)) (2 + weights ds) (trees.fold-list (part_node names) (λ d. d.kind d.place) ds) (trees.fold-list weight_node (λ d. d.kind) ds) (λ p. list_fine p ds all))
      (λ ds d all h. fine_by (k.Dotted ds d) no_part (3 + weights ds + weight d) (trees.fold-dotted (part_node names) (λ d. d.kind d.place) ds d) (trees.fold-dotted weight_node (λ d. d.kind) ds d) (λ p. nothing_fine p (3 + weights ds + weight d) (omega arith)))
      (λ ds all. fine_by (k.Vector ds) no_part (2 + weights ds) (trees.fold-vector (part_node names) (λ d. d.kind d.place) ds) (trees.fold-vector weight_node (λ d. d.kind) ds) (λ p. nothing_fine p (2 + weights ds) (omega arith)))
      datum_fine
