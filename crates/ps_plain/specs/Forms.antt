-- Which data are a program (R5RS 4.1 and 5.2, in this project's profile): how a datum reads in each position that it
-- may stand in, and the conditions on names.
use Rattle.std.specs.Prelude.{◌≡◌, ℕ, ◌≤◌, List, [], ◌∷◌, ◌++◌, length, map, Bool, false, not, if◌then◌else◌, nat_eq, Option, Some, None}
use Rattle.std.specs.Prelude.{is_some, codes, slice_get}
use Rattle.std.specs.Option.{option_map}
use Rattle.std.specs.List.{AllByRecursion, list_all}
use Rattle.std.specs.Str.{bytes_eq}
use Rattle.ps_base.specs.Names.{AreDistinct, number_of}
use Rattle.ps_base.specs.Numbers.{fit}
use Rattle.ps_base.specs.declared.faults.Place.{Place}
use Rattle.ps_base.specs.declared.names.Name.{Name}
use Rattle.ps_datum.specs.declared.datum.Datum.{Datum, fold-Datum}
use Rattle.ps_datum.specs.declared.datum.DatumKind.TheOpen.{DatumKind-F}
use Rattle.ps_plain.specs.Most.{most_parameters}
use Rattle.ps_plain.specs.declared.program.Operator.{Operator}
use Rattle.ps_plain.specs.declared.program.Operator.TheVariants as operators
use Rattle.ps_plain.specs.declared.program.Comparison.{Comparison}
use Rattle.ps_plain.specs.declared.program.Comparison.TheVariants as comparisons
use Rattle.ps_plain.specs.declared.program.Keyword.{Keyword}
use Rattle.ps_plain.specs.declared.program.Keyword.TheVariants as keywords
use Rattle.ps_plain.specs.declared.program.Expr.{Expr}
use Rattle.ps_plain.specs.declared.program.Expr.TheVariants as exprs
use Rattle.ps_plain.specs.declared.program.Write.{Write}
use Rattle.ps_plain.specs.declared.program.Procedure.{Procedure}
use Rattle.ps_plain.specs.declared.program.Program.{Program}

-- ---- words

-- the meaning of its own that a word has
abbrev pub keyword_of : List ℕ → Option Keyword
keyword_of w =
    if bytes_eq w (codes "define") then Some keywords.Define
    else (if bytes_eq w (codes "if") then Some keywords.If
    else (if bytes_eq w (codes "write-byte") then Some keywords.WriteByte
    else (if bytes_eq w (codes "read-byte") then Some keywords.ReadByte
    else (if bytes_eq w (codes "+") then Some (keywords.Arithmetic operators.Add)
    else (if bytes_eq w (codes "-") then Some (keywords.Arithmetic operators.Subtract)
    else (if bytes_eq w (codes "*") then Some (keywords.Arithmetic operators.Multiply)
    else (if bytes_eq w (codes "<") then Some (keywords.Compare comparisons.Less)
    else (if bytes_eq w (codes "=") then Some (keywords.Compare comparisons.Equal)
    else None))))))))

-- a name is an identifier without a meaning of its own
abbrev pub is_name : List ℕ → Bool
is_name w = not (is_some (keyword_of w))

-- ---- what names stand for

-- where an expression stands: the parameters of the procedure around it, and the program's procedures with their numbers of
-- parameters
pub record Scope : Type 0 where
  pub parameters : List (List ℕ)
  pub procedures : List (List ℕ)
  pub arities : List ℕ

-- an identifier that stands alone, at a place, is a parameter
abbrev pub parameter_of : Scope → Place → List ℕ → Option Expr
parameter_of s p w = option_map (λ k. exprs.Parameter p k) (number_of s.parameters w)

abbrev pub has_arity : ℕ → Option ℕ → Bool
has_arity n None = false
has_arity n (Some m) = nat_eq m n

abbrev pub with_arity : List ℕ → ℕ → Option ℕ → Option ℕ
with_arity arities n None = None
with_arity arities n (Some f) = if has_arity n (slice_get arities f) then Some f else None

-- the procedure that is called by a name with n operands: the name is no parameter's, and the procedure has n parameters
abbrev pub called : Scope → List ℕ → ℕ → Option ℕ
called s w n = if is_some (number_of s.parameters w) then None else with_arity s.arities n (number_of s.procedures w)

-- ---- how a datum reads

pub record Test : Type 0 where
  pub place : Place
  pub comparison : Comparison
  pub left : Expr
  pub right : Expr

pub record Head : Type 0 where
  pub name : List ℕ
  pub parameters : List (List ℕ)

pub record Body : Type 0 where
  pub writes : List Write
  pub value : Expr

-- Where a datum stands, a list at its opening bracket, and what it is: as a word, by the word's number in the table of names
-- and its text; as words between brackets, by the number of the first and the texts of all; as an expression, as the test of a
-- conditional, as a byte to write, and as a definition: its head, and the procedure. It is nothing in most of these positions.
pub record Part : Type 0 where
  pub place : Place
  pub symbol : Option Name
  pub word : Option (List ℕ)
  pub first : Option Name
  pub words : Option (List (List ℕ))
  pub expr : Scope → Option Expr
  pub test : Scope → Option Test
  pub write : Scope → Option Write
  pub head : Option Head
  pub procedure : Scope → Option Procedure

abbrev pub and_also : {A : Type 0} → Option A → Option (List A) → Option (List A)
and_also None xs = None
and_also (Some x) None = None
and_also (Some x) (Some xs) = Some (x ∷ xs)

-- what each option holds, where each holds something
abbrev pub all_some : {A : Type 0} → List (Option A) → Option (List A)
all_some [] = Some []
all_some (x ∷ xs) = and_also x (all_some xs)

-- the keyword that a part is
abbrev pub keyword_in : Option (List ℕ) → Option Keyword
keyword_in None = None
keyword_in (Some w) = keyword_of w

abbrev pub operation_by : Place → Operator → Option Expr → Option Expr → Option Expr
operation_by p o (Some a) (Some b) = Some (exprs.Operation p o a b)
operation_by p o _ _ = None

-- (o a b)
abbrev pub operation_of : Scope → Place → Operator → List Part → Option Expr
operation_of s p o (a ∷ b ∷ []) = operation_by p o (a.expr s) (b.expr s)
operation_of s p o _ = None

abbrev pub test_by : Place → Option Keyword → Option Expr → Option Expr → Option Test
test_by p (Some (keywords.Compare c)) (Some a) (Some b) = Some (record { place = p; comparison = c; left = a; right = b })
test_by p _ _ _ = None

-- (< a b) or (= a b)
abbrev pub test_of : Scope → Place → List Part → Option Test
test_of s p (f ∷ a ∷ b ∷ []) = test_by p (keyword_in f.word) (a.expr s) (b.expr s)
test_of s p _ = None

abbrev pub conditional_by : Place → Option Test → Option Expr → Option Expr → Option Expr
conditional_by p (Some t) (Some c) (Some d) = Some (exprs.If p t.place t.comparison t.left t.right c d)
conditional_by p _ _ _ = None

-- (if t c d)
abbrev pub conditional_of : Scope → Place → List Part → Option Expr
conditional_of s p (t ∷ c ∷ d ∷ []) = conditional_by p (t.test s) (c.expr s) (d.expr s)
conditional_of s p _ = None

-- (read-byte)
abbrev pub read_of : Place → List Part → Option Expr
read_of p [] = Some (exprs.ReadByte p)
read_of p (q ∷ ps) = None

abbrev pub call_by : Place → Place → Option ℕ → Option (List Expr) → Option Expr
call_by p at (Some f) (Some es) = Some (exprs.Call p at f es)
call_by p at _ _ = None

-- (f a ...), where f stands at a place of its own
abbrev pub call_of : Scope → Place → Place → List ℕ → List Part → Option Expr
call_of s p at w ps = call_by p at (called s w (length ps)) (all_some (map (λ (q : Part). q.expr s) ps))

-- what stands behind a word in brackets: the places of the opening bracket and of the word, the word, and what follows it
abbrev pub form_by : Scope → Place → Place → List ℕ → List Part → Option Keyword → Option Expr
form_by s p at w ps None = call_of s p at w ps
form_by s p at w ps (Some (keywords.Arithmetic o)) = operation_of s p o ps
form_by s p at w ps (Some keywords.If) = conditional_of s p ps
form_by s p at w ps (Some keywords.ReadByte) = read_of p ps
form_by s p at w ps (Some keywords.Define) = None
form_by s p at w ps (Some keywords.WriteByte) = None
form_by s p at w ps (Some (keywords.Compare c)) = None

abbrev pub form_headed : Scope → Place → Place → Option (List ℕ) → List Part → Option Expr
form_headed s p at None ps = None
form_headed s p at (Some w) ps = form_by s p at w ps (keyword_of w)

abbrev pub form_of : Scope → Place → List Part → Option Expr
form_of s p [] = None
form_of s p (f ∷ ps) = form_headed s p f.place f.word ps

abbrev pub write_at : Place → Expr → Write
write_at p e = record { place = p; value = e }

abbrev pub write_by : Place → Option Keyword → Option Expr → Option Write
write_by p (Some keywords.WriteByte) e = option_map (write_at p) e
write_by p _ e = None

-- (write-byte e)
abbrev pub write_of : Scope → Place → List Part → Option Write
write_of s p (f ∷ e ∷ []) = write_by p (keyword_in f.word) (e.expr s)
write_of s p _ = None

abbrev pub body_by : Option Write → Option Body → Option Body
body_by (Some w) (Some b) = Some (record { writes = w ∷ b.writes; value = b.value })
body_by _ _ = None

abbrev pub value_by : Option Expr → Option Body
value_by None = None
value_by (Some e) = Some (record { writes = []; value = e })

-- the writes, and then the value
abbrev pub body_of : Scope → List Part → Option Body
body_of s [] = None
body_of s (p ∷ []) = value_by (p.expr s)
body_of s (p ∷ q ∷ ps) = body_by (p.write s) (body_of s (q ∷ ps))

abbrev pub head_by : Option (List (List ℕ)) → Option Head
head_by (Some (f ∷ xs)) = if list_all is_name (f ∷ xs) then Some (record { name = f; parameters = xs }) else None
head_by _ = None

abbrev pub defined_by : Option Keyword → Option Head → Option Head
defined_by (Some keywords.Define) h = h
defined_by _ h = None

-- (define (f x ...) ...)
abbrev pub head_of : List Part → Option Head
head_of (p ∷ h ∷ body) = defined_by (keyword_in p.word) (head_by h.words)
head_of _ = None

-- the number of the word that stands first
abbrev pub first_symbol : List Part → Option Name
first_symbol [] = None
first_symbol (p ∷ ps) = p.symbol

abbrev pub procedure_by : Place → Scope → Option Body → Option Name → Option Procedure
procedure_by p s None f = None
procedure_by p s (Some b) None = None
procedure_by p s (Some b) (Some f) =
    Some (record { place = p; name = f; parameters = length s.parameters; writes = b.writes; value = b.value })

abbrev pub procedure_of : Scope → Place → List Part → Option Procedure
procedure_of s p (d ∷ h ∷ body) = procedure_by p s (body_of s body) h.first
procedure_of s p _ = None

-- what stands in none of these positions
abbrev pub no_part : Place → Part
no_part p = record {
  place = p;
  symbol = None;
  word = None;
  first = None;
  words = None;
  expr = λ s. None;
  test = λ s. None;
  write = λ s. None;
  head = None;
  procedure = λ s. None;
}

-- an identifier, by its number and its text
abbrev pub word_part : Place → Name → Option (List ℕ) → Part
word_part p n None = no_part p
word_part p n (Some w) = record (no_part p) { symbol = Some n; word = Some w; expr = λ s. parameter_of s p w }

abbrev pub list_part : Place → List Part → Part
list_part p ps = record {
  place = p;
  symbol = None;
  word = None;
  first = first_symbol ps;
  words = all_some (map (λ (q : Part). q.word) ps);
  expr = λ s. form_of s p ps;
  test = λ s. test_of s p ps;
  write = λ s. write_of s p ps;
  head = head_of ps;
  procedure = λ s. procedure_of s p ps;
}

-- what a datum is, where a table lists the names
abbrev pub part_node : List (List ℕ) → DatumKind-F (Place → Part) Part → Place → Part
part_node names (DatumKind-F.Boolean b) p = no_part p
part_node names (DatumKind-F.Integer i) p = record (no_part p) { expr = λ s. option_map (λ j. exprs.Integer p j) (fit i) }
part_node names (DatumKind-F.Char c) p = no_part p
part_node names (DatumKind-F.Text bytes) p = no_part p
part_node names (DatumKind-F.Symbol n) p = word_part p n (slice_get names n.0)
part_node names (DatumKind-F.List ps) p = list_part p ps
part_node names (DatumKind-F.Dotted ps q) p = no_part p
part_node names (DatumKind-F.Vector ps) p = no_part p

abbrev pub part : List (List ℕ) → Datum → Part
part names = fold-Datum (Place → Part) Part (part_node names) (λ d. d.kind d.place)

-- ---- programs

-- the heads of definitions
abbrev pub heads_of : List (List ℕ) → List Datum → Option (List Head)
heads_of names ds = all_some (map (λ d. (part names d).head) ds)

abbrev pub names_in : List Head → List (List ℕ)
names_in hs = map (λ h. h.name) hs

abbrev pub arities_in : List Head → List ℕ
arities_in hs = map (λ h. length h.parameters) hs

-- where the body of a definition stands, among definitions with these heads
abbrev pub scope_in : List Head → Head → Scope
scope_in heads h = record { parameters = h.parameters; procedures = names_in heads; arities = arities_in heads }

-- the procedures of definitions, whose heads are among these
abbrev pub procedures_in : List (List ℕ) → List Head → List Head → List Datum → Option (List Procedure)
procedures_in names heads [] [] = Some []
procedures_in names heads (h ∷ hs) (d ∷ ds) = and_also ((part names d).procedure (scope_in heads h)) (procedures_in names heads hs ds)
procedures_in names heads _ _ = None

abbrev pub main_head : Head
main_head = record { name = codes "main"; parameters = [] }

-- the parameters have different names, and are not too many
pub record IsHead (h : Head) : Type 0 where
  pub distinct : AreDistinct h.parameters
  pub few : length h.parameters ≤ most_parameters

-- Definitions, where a table lists the names, are a program where there is one of `main`, without parameters, no name is defined
-- twice, and the names in them stand for something. `main` is the first procedure, and the others follow in their order.
pub record IsProgram (names : List (List ℕ)) (definitions : List Datum) (p : Program) : Type 0 where
  pub before : List Datum
  pub main : Datum
  pub after : List Datum
  pub form : definitions ≡ before ++ main ∷ after
  pub heads : List Head
  pub are_heads : heads_of names (main ∷ (before ++ after)) ≡ Some heads
  pub is_main : (part names main).head ≡ Some main_head
  pub distinct : AreDistinct (names_in heads)
  pub parameters : AllByRecursion IsHead heads
  pub procedures : procedures_in names heads heads (main ∷ (before ++ after)) ≡ Some p.procedures
