-- The line that a refused run writes, and the status of each answer (this project's own).
use Rattle.std.specs.Prelude.{ℕ, List, [], Option, None, Some, slice_get, codes, decimal}
use Rattle.ps_base.specs.Texts.{◌&◌}
use Rattle.ps_base.specs.Faults.{number_of}
use Rattle.ps_base.specs.Wording.{op_word, place_text}
use Rattle.ps_base.specs.declared.faults.Fault.{Fault}
use Rattle.ps_base.specs.declared.faults.Fault.TheVariants as faults
use Rattle.ps_base.specs.declared.faults.Place.{Place}
use Rattle.ps_base.specs.declared.names.Name.{Name}
use Rattle.ps_command.specs.declared.answer.Answer.{Answer}
use Rattle.ps_command.specs.declared.answer.Answer.TheVariants as answers
use Rattle.ps_base.specs.declared.faults.SyntaxKind.{SyntaxKind}
use Rattle.ps_base.specs.declared.faults.SyntaxKind.TheVariants as syntaxes
use Rattle.ps_base.specs.declared.faults.ModuleKind.{ModuleKind}
use Rattle.ps_base.specs.declared.faults.ModuleKind.TheVariants as modules
use Rattle.ps_base.specs.declared.faults.FormKind.{FormKind}
use Rattle.ps_base.specs.declared.faults.FormKind.TheVariants as forms
use Rattle.ps_base.specs.declared.faults.SurviveKind.{SurviveKind}
use Rattle.ps_base.specs.declared.faults.SurviveKind.TheVariants as survives
use Rattle.ps_base.specs.declared.faults.Position.{Position}
use Rattle.ps_base.specs.declared.faults.Position.TheVariants as positions

-- ---- the words of kinds: a variant's words in small letters, joined by `-`

unfoldable pub syntax_word : SyntaxKind → List ℕ
syntax_word syntaxes.BadToken = codes "bad-token"
syntax_word syntaxes.Unclosed = codes "unclosed"
syntax_word syntaxes.StrayClose = codes "stray-close"
syntax_word syntaxes.FloatLiteral = codes "float-literal"
syntax_word syntaxes.WideLiteral = codes "wide-literal"
syntax_word syntaxes.BadCharacter = codes "bad-character"
syntax_word syntaxes.BadEscape = codes "bad-escape"
syntax_word syntaxes.BadDot = codes "bad-dot"
syntax_word syntaxes.TooDeep = codes "too-deep"

unfoldable pub module_word : ModuleKind → List ℕ
module_word modules.UnknownStructure = codes "unknown-structure"
module_word modules.UnknownInterface = codes "unknown-interface"
module_word modules.DefinedTwice = codes "defined-twice"
module_word modules.Circle = codes "circle"
module_word modules.MissingFile = codes "missing-file"
module_word modules.NoMain = codes "no-main"
module_word modules.TwoOpened = codes "two-opened"
module_word modules.BadClause = codes "bad-clause"

unfoldable pub form_word : FormKind → List ℕ
form_word forms.BadForm = codes "bad-form"
form_word forms.Unbound = codes "unbound"
form_word forms.Arity = codes "arity"
form_word forms.LetrecValue = codes "letrec-value"
form_word forms.LocalSet = codes "local-set"
form_word forms.NoRule = codes "no-rule"
form_word forms.BadRules = codes "bad-rules"
form_word forms.Uneven = codes "uneven"
form_word forms.NameTwice = codes "name-twice"
form_word forms.ExportUndefined = codes "export-undefined"
form_word forms.TooDeep = codes "too-deep"

unfoldable pub survive_word : SurviveKind → List ℕ
survive_word survives.CompileOnly = codes "compile-only"
survive_word survives.ProcedureAssigned = codes "procedure-assigned"
survive_word survives.MainMissing = codes "main-missing"

unfoldable pub position_word : Position → List ℕ
position_word positions.Branch = codes "branch"
position_word positions.Primitive = codes "primitive"
position_word positions.Assigned = codes "assigned"
position_word positions.Ignored = codes "ignored"

-- ---- lines

unfoldable pub at_place : List ℕ → Place → List ℕ
at_place words p = words & place_text p

unfoldable pub of_kind : List ℕ → List ℕ → Place → List ℕ
of_kind words kind p = words & kind & codes " " & place_text p

unfoldable pub with_number : List ℕ → ℕ → List ℕ
with_number words n = words & decimal n

abbrev pub text_or_none : Option (List ℕ) → List ℕ
text_or_none None = []
text_or_none (Some text) = text

-- the text of a name by the table of names; one that is not there has none
unfoldable pub name_text : List (List ℕ) → Name → List ℕ
name_text names name = text_or_none (slice_get names name.0)

unfoldable pub definition_text : List (List ℕ) → Name → Name → Place → List ℕ
definition_text names structure name p =
    codes "13 type " & name_text names structure & codes "/" & name_text names name & codes " " & place_text p

unfoldable pub width_text : ℕ → Place → List ℕ
width_text n p = codes "15 too-wide " & decimal n & codes " " & place_text p

-- the number and the words of a fault
unfoldable pub fault_text : List (List ℕ) → Fault → List ℕ
fault_text names (faults.Usage word) = with_number (codes "1 usage ") word
fault_text names faults.Source = codes "2 source"
fault_text names faults.Sink = codes "3 sink"
fault_text names (faults.Library k) = with_number (codes "4 library ") k
fault_text names (faults.TooLong file) = with_number (codes "5 too-long ") file
fault_text names (faults.Syntax kind p) = of_kind (codes "6 syntax ") (syntax_word kind) p
fault_text names (faults.Module kind p) = of_kind (codes "7 module ") (module_word kind) p
fault_text names (faults.Form kind p) = of_kind (codes "8 form ") (form_word kind) p
fault_text names (faults.ExpansionSpent n) = with_number (codes "9 expansion-spent ") n
fault_text names (faults.CoreSpent n) = with_number (codes "9 core-spent ") n
fault_text names (faults.StaticWrong p) = at_place (codes "10 static wrong ") p
fault_text names (faults.StaticUndefined op p) = of_kind (codes "10 static undefined ") (op_word op) p
fault_text names (faults.StaticRunOnly p) = at_place (codes "10 static run-only ") p
fault_text names (faults.BudgetSpent n) = with_number (codes "11 budget-spent ") n
fault_text names (faults.CellsSpent n) = with_number (codes "11 cells-spent ") n
fault_text names (faults.Survives kind p) = of_kind (codes "12 survives ") (survive_word kind) p
fault_text names (faults.TypeFault structure name p) = definition_text names structure name p
fault_text names (faults.Unresolved position p) = of_kind (codes "14 unresolved ") (position_word position) p
fault_text names (faults.KeysSpent n) = with_number (codes "15 keys-spent ") n
fault_text names (faults.InlineSpent p) = at_place (codes "15 inline-spent ") p
fault_text names (faults.TooWide n p) = width_text n p
fault_text names (faults.CodeSpent n) = with_number (codes "16 code-spent ") n
fault_text names (faults.NotBuilt p) = at_place (codes "17 not-built ") p
fault_text names (faults.CText p) = at_place (codes "18 c-text ") p
fault_text names (faults.ShowDeep p) = at_place (codes "19 show-deep ") p
fault_text names (faults.ShowLong n) = with_number (codes "19 show-long ") n

-- the line of an answer; Done has none
unfoldable pub answer_line : List (List ℕ) → Answer → List ℕ
answer_line names answers.Done = []
answer_line names (answers.Refused fault) = codes "psc: " & fault_text names fault & codes "\n"
answer_line names answers.NoMemory = codes "psc: 20 no-memory\n"

-- the status that the program ends with
abbrev pub status : Answer → ℕ
status answers.Done = 0
status (answers.Refused fault) = number_of fault
status answers.NoMemory = 20
