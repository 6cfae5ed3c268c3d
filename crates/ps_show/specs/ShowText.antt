-- The text of a kernel: Scheme without modules and macros (R5RS 7.1 for the forms; the layout and the names are this project's
-- own).
--
-- Read `node_text` and `inside` first: a line for each form, without its brackets. Then `kernel_text`: the kinds of records and
-- the forms, each on a line of its own. A text has at most 200 levels of brackets; the first bracket below them decides, and
-- its place is that of the node to which it belongs.
use Rattle.std.specs.Prelude.{ℕ, zero, suc, ℤ, Bool, true, false, ◌&&◌, List, [], ◌∷◌, codes, Option, Some, None, slice_get, if◌then◌else◌}
use Rattle.std.specs.List.{list_all}
use Rattle.std.specs.Fmt.{signed_decimal}
use Rattle.ps_base.specs.declared.faults.Place.{Place}
use Rattle.ps_datum.specs.declared.datum.Datum.{Datum, fold-Datum, out-Datum}
use Rattle.ps_datum.specs.declared.datum.DatumKind.{DatumKind, out-DatumKind}
use Rattle.ps_datum.specs.declared.datum.DatumKind.TheOpen.{DatumKind-F}
use Rattle.ps_datum.specs.Writing.{char_text, is_known, written}
use Rattle.ps_types.specs.declared.types.Ty.{Ty, Ty-F, fold-Ty}
use Rattle.ps_types.specs.declared.types.RecordKind.{RecordKind}
use Rattle.ps_kernel.specs.declared.expr.CaseKind.{CaseKind}
use Rattle.ps_kernel.specs.declared.expr.Constant.{Constant}
use Rattle.ps_kernel.specs.declared.expr.Constant.TheVariants as constants
use Rattle.ps_kernel.specs.declared.expr.GroupEntry.{GroupEntry}
use Rattle.ps_kernel.specs.declared.expr.Expr.{Expr, out-Expr}
use Rattle.ps_kernel.specs.declared.expr.ExprKind.{ExprKind, out-ExprKind}
use Rattle.ps_kernel.specs.declared.expr.ExprKind.TheOpen.{ExprKind-F}
use Rattle.ps_kernel.specs.declared.expr.Labelled.{Labelled}
use Rattle.ps_kernel.specs.declared.kernel.Kernel.{Kernel}
use Rattle.ps_kernel.specs.declared.kernel.Form.{Form}
use Rattle.ps_kernel.specs.declared.kernel.Form.TheVariants as forms
use Rattle.ps_kernel.specs.declared.kernel.Lambda.{Lambda}
use Rattle.ps_kernel.specs.Marks.{labels_of, body_of}
use Rattle.ps_show.specs.Shown.{Shown, Text, Deep, ◌⋄◌, behind, spaced, bracket}
use Rattle.ps_show.specs.Words.{kind_type, maker_word, predicate_word, field_word, accessor_word, modifier_word, global_word, local_word, prim_word, is_null, boolean_word, label_word, numbered}
use Rattle.ps_show.specs.Bindings.{order_of}

-- where brackets are told to stand that belong to no node: at the beginning of the input
abbrev pub beginning : Place
beginning = record { file = 0; line = 1; column = 1 }

-- ---- quoted data

-- whether brackets fit into so many levels, where this is known of what stands in them
abbrev pub member_fits : (ℕ → Bool) → ℕ → Bool
member_fits f zero = false
member_fits f (suc n) = f n

abbrev pub members_fit : List (ℕ → Bool) → ℕ → Bool
members_fit fs zero = false
members_fit fs (suc n) = list_all (λ (f : ℕ → Bool). f n) fs

-- whether the brackets of a datum do
abbrev pub fits_node : DatumKind-F (ℕ → Bool) (ℕ → Bool) → ℕ → Bool
fits_node (DatumKind-F.Boolean b) n = true
fits_node (DatumKind-F.Integer i) n = true
fits_node (DatumKind-F.Char c) n = true
fits_node (DatumKind-F.Text bytes) n = true
fits_node (DatumKind-F.Symbol name) n = true
fits_node (DatumKind-F.List fs) n = members_fit fs n
fits_node (DatumKind-F.Dotted fs f) n = members_fit fs n && member_fits f n
fits_node (DatumKind-F.Vector fs) n = members_fit fs n

abbrev pub fits : Datum → ℕ → Bool
fits = fold-Datum (ℕ → Bool) (ℕ → Bool) fits_node (λ d. d.kind)

-- a datum that stands in so many levels, in the form of a place; one with a name that the table does not have has no text
unfoldable pub datum_text : List (List ℕ) → Place → ℕ → Datum → Shown
datum_text names at n d = if is_known names d then (if fits d n then Text (written names d) else Deep at) else Text []

-- a string stands for itself
abbrev pub is_string_kind : DatumKind-F DatumKind Datum → Bool
is_string_kind (DatumKind-F.Text bytes) = true
is_string_kind k = false

abbrev pub is_string : Option Datum → Bool
is_string None = false
is_string (Some d) = is_string_kind (out-DatumKind (out-Datum d).kind)

-- the literal of a number; one that is not there has no text
abbrev pub literal_text : List (List ℕ) → Place → ℕ → Option Datum → Shown
literal_text names at n None = Text []
literal_text names at n (Some d) = datum_text names at n d

-- ---- expressions

-- what stands in brackets of its own, and the place of the form to which they belong
pub data Part : Type 0 where
  Whole : Expr → Part
  -- a literal behind `quote`
  Quoted : Place → ℕ → Part
  -- a lambda, and its parameters
  Procedure : Place → ℕ → Part
  Parameters : Place → List ℕ → Part
  -- what a `let` binds, around one binding
  Bindings : Place → ℕ → Expr → Part
  Binding : Place → ℕ → Expr → Part
  -- what a `letrec` binds, around each binding
  Group : Place → List GroupEntry → Part
  Entry : Place → GroupEntry → Part
  -- a branch of a `case`, its labels, and the last expression
  Branch : Place → CaseKind → Labelled → Part
  LabelList : Place → CaseKind → List ℤ → Part
  Else : Place → Expr → Part

-- the text of a part
abbrev pub Writing : Type 0
Writing = Part → Shown

abbrev pub is_unit_kind : ExprKind-F ExprKind Expr Labelled → Bool
is_unit_kind (ExprKind-F.Constant constants.Unit) = true
is_unit_kind x = false

-- the constant unit
abbrev pub is_unit : Expr → Bool
is_unit e = is_unit_kind (out-ExprKind (out-Expr e).kind)

-- the place of a lambda; that of the form around it, where it is not there
abbrev pub place_of : Place → Option Lambda → Place
place_of at None = at
place_of at (Some m) = m.place

-- ---- expressions without brackets

module _ (k : Kernel) where
  abbrev pub is_bare_constant : Constant → Bool
  is_bare_constant (constants.Integer i) = true
  is_bare_constant (constants.Boolean b) = true
  is_bare_constant (constants.Char c) = true
  is_bare_constant constants.Unit = false
  is_bare_constant constants.NullAddress = true
  is_bare_constant (constants.Quoted q) = is_string (slice_get k.literals q)

  -- constants but unit and a quoted vector, locals, definitions, and the null address
  abbrev pub is_bare : ExprKind-F ExprKind Expr Labelled → Bool
  is_bare (ExprKind-F.Constant c) = is_bare_constant c
  is_bare (ExprKind-F.Local x) = true
  is_bare (ExprKind-F.Global g) = true
  is_bare (ExprKind-F.Primitive p es) = is_null p
  is_bare x = false

-- ---- what stands in brackets

-- parts behind a word or an operator
unfoldable pub operands_text : Writing → List Expr → Shown
operands_text inner es = behind (λ e. inner (Whole e)) es

-- the last expression of an `if`: unit is left out
unfoldable pub other_text : Writing → Expr → Shown
other_text inner e = if is_unit e then Text [] else (Text (codes " ") ⋄ inner (Whole e))

-- the branches of a `case`, and its last expression: unit is left out
unfoldable pub branches_text : Writing → Place → CaseKind → List Labelled → Shown
branches_text inner at kind bs = behind (λ b. inner (Branch at kind b)) bs

unfoldable pub last_text : Writing → Place → Expr → Shown
last_text inner at e = if is_unit e then Text [] else (Text (codes " ") ⋄ inner (Else at e))

-- the bindings of a `letrec`
unfoldable pub entries_text : Writing → Place → List GroupEntry → Shown
entries_text inner at g = spaced (λ e. inner (Entry at e)) g

-- a lambda; one that is not there is its word
unfoldable pub procedure_text : Writing → Place → Option Lambda → Shown
procedure_text inner at None = Text (codes "lambda")
procedure_text inner at (Some m) = Text (codes "lambda ") ⋄ (inner (Parameters at m.parameters) ⋄ (Text (codes " ") ⋄ inner (Whole m.body)))

-- unit, and what is quoted
unfoldable pub constant_text : Writing → Place → Constant → Shown
constant_text inner at (constants.Quoted q) = Text (codes "quote ") ⋄ inner (Quoted at q)
constant_text inner at c = Text (codes "unspecific")

-- the place of a part's brackets
abbrev pub place_in : Part → Place
place_in (Whole e) = (out-Expr e).place
place_in (Quoted at q) = at
place_in (Procedure at l) = at
place_in (Parameters at xs) = at
place_in (Bindings at x a) = at
place_in (Binding at x a) = at
place_in (Group at g) = at
place_in (Entry at e) = at
place_in (Branch at kind b) = at
place_in (LabelList at kind ls) = at
place_in (Else at e) = at

-- the parts of a sequence
abbrev pub sequence_of : ExprKind-F ExprKind Expr Labelled → Option (List Expr)
sequence_of (ExprKind-F.Begin es) = Some es
sequence_of x = None

module _ (k : Kernel) (names : List (List ℕ)) (order : List ℕ) where
  unfoldable pub bare_constant : Constant → Shown
  bare_constant (constants.Integer i) = Text (signed_decimal i)
  bare_constant (constants.Boolean b) = Text (boolean_word b)
  bare_constant (constants.Char c) = Text (char_text c)
  bare_constant constants.Unit = Text []
  bare_constant constants.NullAddress = Text (codes "null-address")
  bare_constant (constants.Quoted q) = literal_text names beginning 0 (slice_get k.literals q)

  -- expressions without brackets
  abbrev pub bare_text : ExprKind-F ExprKind Expr Labelled → Shown
  bare_text (ExprKind-F.Constant c) = bare_constant c
  bare_text (ExprKind-F.Local x) = local_word order x
  bare_text (ExprKind-F.Global g) = global_word k.main g
  bare_text (ExprKind-F.Primitive p es) = Text (codes "null-address")
  bare_text x = Text []

  -- expressions in brackets
  abbrev pub node_text : Writing → Place → ExprKind-F ExprKind Expr Labelled → Shown
  node_text inner at (ExprKind-F.Constant c) = constant_text inner at c
  node_text inner at (ExprKind-F.Local x) = Text []
  node_text inner at (ExprKind-F.Global g) = Text []
  node_text inner at (ExprKind-F.Lambda l) = procedure_text inner at (slice_get k.lambdas l)
  node_text inner at (ExprKind-F.If a b c) = Text (codes "if ") ⋄ (inner (Whole a) ⋄ (Text (codes " ") ⋄ (inner (Whole b) ⋄ other_text inner c)))
  node_text inner at (ExprKind-F.Let x a b) = Text (codes "let ") ⋄ (inner (Bindings at x a) ⋄ (Text (codes " ") ⋄ inner (Whole b)))
  node_text inner at (ExprKind-F.Letrec g b) = Text (codes "letrec ") ⋄ (inner (Group at g) ⋄ (Text (codes " ") ⋄ inner (Whole b)))
  node_text inner at (ExprKind-F.Begin es) = Text (codes "begin") ⋄ operands_text inner es
  node_text inner at (ExprKind-F.SetGlobal g a) = Text (codes "set! ") ⋄ (global_word k.main g ⋄ (Text (codes " ") ⋄ inner (Whole a)))
  node_text inner at (ExprKind-F.SetLocal x a) = Text (codes "set! ") ⋄ (local_word order x ⋄ (Text (codes " ") ⋄ inner (Whole a)))
  node_text inner at (ExprKind-F.Case kind a bs e) = Text (codes "case ") ⋄ (inner (Whole a) ⋄ (branches_text inner at kind bs ⋄ last_text inner at e))
  node_text inner at (ExprKind-F.Call f es) = inner (Whole f) ⋄ operands_text inner es
  node_text inner at (ExprKind-F.ProperCall f es) = Text (codes "goto ") ⋄ (inner (Whole f) ⋄ operands_text inner es)
  node_text inner at (ExprKind-F.Primitive p es) = prim_word p ⋄ operands_text inner es

  -- parts in brackets
  abbrev pub inside : Writing → Part → Shown
  inside inner (Whole e) = node_text inner (out-Expr e).place (out-ExprKind (out-Expr e).kind)
  inside inner (Quoted at q) = Text []
  inside inner (Procedure at l) = procedure_text inner at (slice_get k.lambdas l)
  inside inner (Parameters at xs) = spaced (local_word order) xs
  inside inner (Bindings at x a) = inner (Binding at x a)
  inside inner (Binding at x a) = local_word order x ⋄ (Text (codes " ") ⋄ inner (Whole a))
  inside inner (Group at g) = entries_text inner at g
  inside inner (Entry at e) = local_word order e.local ⋄ (Text (codes " ") ⋄ inner (Procedure (place_of at (slice_get k.lambdas e.lambda)) e.lambda))
  inside inner (Branch at kind b) = inner (LabelList at kind (labels_of b)) ⋄ (Text (codes " ") ⋄ inner (Whole (body_of b)))
  inside inner (LabelList at kind ls) = spaced (label_word kind) ls
  inside inner (Else at e) = Text (codes "else ") ⋄ inner (Whole e)

  -- a part that stands in so many levels: with brackets, but for an expression without brackets and a quoted literal
  abbrev pub part_text : ℕ → Option Writing → Part → Shown
  part_text n room (Whole e) =
      if is_bare k (out-ExprKind (out-Expr e).kind) then bare_text (out-ExprKind (out-Expr e).kind) else bracket (out-Expr e).place room (λ inner. inside inner (Whole e))
  part_text n room (Quoted at q) = literal_text names at n (slice_get k.literals q)
  part_text n room p = bracket (place_in p) room (λ inner. inside inner p)

  -- a part, where so many levels of brackets may still be opened
  unfoldable pub shown : ℕ → Part → Shown
  shown zero p = part_text zero None p
  shown (suc n) p = part_text (suc n) (Some (shown n)) p

  -- what may be written where so many levels may be opened: nothing in brackets, or parts one level deeper
  unfoldable pub room_of : ℕ → Option Writing
  room_of zero = None
  room_of (suc n) = Some (shown n)

  -- ---- forms

  -- a sequence at top level is the body of a `let`, since a `begin` there would be taken apart (R5RS 5.1)
  abbrev pub do_text : Expr → Option (List Expr) → Shown
  do_text e (Some es) = Text (codes "(let ()") ⋄ (operands_text (shown 199) es ⋄ Text (codes ")"))
  do_text e None = shown 200 (Whole e)

  -- a form, of whose 200 levels the first bracket opens one
  unfoldable pub form_text : Form → Shown
  form_text (forms.Define g e) = Text (codes "(define ") ⋄ (global_word k.main g ⋄ (Text (codes " ") ⋄ (shown 199 (Whole e) ⋄ Text (codes ")"))))
  form_text (forms.Do e) = do_text e (sequence_of (out-ExprKind (out-Expr e).kind))

-- ---- kinds of records

-- a type that stands in so many levels; those of a field have no procedures and no variables
abbrev pub type_node : Ty-F (ℕ → Shown) → ℕ → Shown
type_node Ty-F.Integer n = Text (codes "integer")
type_node Ty-F.Boolean n = Text (codes "boolean")
type_node Ty-F.Char n = Text (codes "char")
type_node Ty-F.Unit n = Text (codes "unit")
type_node Ty-F.Address n = Text (codes "address")
type_node Ty-F.Text n = Text (codes "string")
type_node (Ty-F.Vector t) zero = Deep beginning
type_node (Ty-F.Vector t) (suc n) = Text (codes "(vector ") ⋄ (t n ⋄ Text (codes ")"))
type_node (Ty-F.Tuple kind) n = kind_type kind
type_node (Ty-F.Proc ts t) n = Text (codes "proc")
type_node (Ty-F.Var x) n = numbered (codes "t") x

unfoldable pub type_text : ℕ → Ty → Shown
type_text n t = fold-Ty (ℕ → Shown) type_node t n

-- field f of kind k: its name, its type, and the names of its accessor and of its modifier
unfoldable pub field_text : ℕ → ℕ → Ty → Shown
field_text k f t =
    Text (codes " (") ⋄ (field_word k f ⋄ (Text (codes " ") ⋄ (type_text 198 t ⋄ (Text (codes " ") ⋄ (accessor_word k f ⋄ (Text (codes " ") ⋄ (modifier_word k f ⋄ Text (codes ")"))))))))

-- the fields of kind k from field f on
unfoldable pub fields_text : ℕ → ℕ → List Ty → Shown
fields_text k f [] = Text []
fields_text k f (t ∷ ts) = field_text k f t ⋄ fields_text k (suc f) ts

-- kind k: its name and its type, its maker with the fields that it takes, its predicate, and its fields
unfoldable pub kind_text : ℕ → RecordKind → Shown
kind_text k kind =
    Text (codes "(define-record-type ") ⋄ (numbered (codes "%r") k ⋄ (Text (codes " ") ⋄ (kind_type k
    ⋄ (Text (codes " (") ⋄ (maker_word k ⋄ (behind (field_word k) kind.maker ⋄ (Text (codes ") ") ⋄ (predicate_word k
    ⋄ (fields_text k 0 kind.fields ⋄ Text (codes ")"))))))))))

-- ---- lines

-- the kinds from number k on
unfoldable pub kind_lines : ℕ → List RecordKind → Shown
kind_lines k [] = Text []
kind_lines k (kind ∷ kinds) = kind_text k kind ⋄ (Text (codes "\n") ⋄ kind_lines (suc k) kinds)

unfoldable pub form_lines : Kernel → List (List ℕ) → List ℕ → List Form → Shown
form_lines k names order [] = Text []
form_lines k names order (f ∷ fs) = form_text k names order f ⋄ (Text (codes "\n") ⋄ form_lines k names order fs)

unfoldable pub kernel_text : Kernel → List (List ℕ) → Shown
kernel_text k names = kind_lines 0 k.kinds ⋄ form_lines k names (order_of k) k.forms
