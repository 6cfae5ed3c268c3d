-- Laws of typings and of the order of groups.
use Rattle.std.specs.Prelude.{◌≡◌, ◌↔◌, ℕ, ◌<◌, Bool, true, false, List, [], ◌∷◌, length, map, Some}
use Rattle.ps_base.specs.declared.faults.Place.{Place}
use Rattle.ps_types.specs.declared.types.RecordKind.{RecordKind}
use Rattle.ps_types.specs.declared.types.Ty.{Ty}
use Rattle.ps_types.specs.declared.types.Ty.TheVariants as ty
use Rattle.ps_types.specs.Substitutions.{Substitution, apply, mentions, IsInstance}
use Rattle.ps_types.specs.Writing.{Text as Bytes}
use Rattle.ps_prims.specs.Records.{fields}
use Rattle.ps_kernel.specs.declared.expr.CaseKind.{CaseKind}
use Rattle.ps_kernel.specs.declared.expr.Expr.{Expr}
use Rattle.ps_kernel.specs.declared.expr.ExprKind.TheVariants as forms
use Rattle.ps_kernel.specs.declared.expr.Labelled.{Labelled}
use Rattle.ps_kernel.specs.declared.kernel.Kernel.{Kernel}
use Rattle.ps_kernel.specs.declared.survivors.Kept.{Kept}
use Rattle.ps_kernel.specs.declared.survivors.Kept.TheVariants as kept
use Rattle.ps_kernel.specs.declared.survivors.KeptBlock.TheVariants.{Cells}
use Rattle.ps_kernel.specs.declared.survivors.NumberedBlock.{NumberedBlock}
use Rattle.ps_kernel.specs.declared.survivors.Survivors.{Survivors}
use Rattle.ps_kernel.specs.Lists.{stands_in, Each}
use Rattle.ps_kernel.specs.Texts.{expr_at}
use Rattle.ps_kernel.specs.Unfold.{unfolded}
use Rattle.ps_typing.specs.Data.{IsSmall, block_at, IsData}
use Rattle.ps_typing.specs.Order.{Graph, Together, IsReady, IsOrder, IsClosed, AreParts}
use Rattle.ps_typing.specs.Rules.{Typing, Text, IsLocal, key_type, Types, listed}
use Rattle.ps_typing.specs.Texts.{text_of}
use Rattle.ps_typing.specs.Typings.{MentionsFrom, IsGroup, IsAt, IsTyping, IsSettled, IsTyped, FailsAt}
use Rattle.ps_typing.specs.Lines.{types_text}

-- ---- data

-- data has types without variables
abbrev pub DataHasNoVariables : Type 0
DataHasNoVariables = (kinds : List RecordKind) (blocks : List NumberedBlock) (v : Kept) (t : Ty) → IsData kinds blocks v t
    → (x : ℕ) → mentions x t ≡ false

-- and one type at most
abbrev pub DataHasOneType : Type 0
DataHasOneType = (kinds : List RecordKind) (blocks : List NumberedBlock) (v : Kept) (t u : Ty) → IsData kinds blocks v t
    → IsData kinds blocks v u → t ≡ u

-- a cell has a type, which is not too large
pub record IsTypedCell (kinds : List RecordKind) (blocks : List NumberedBlock) (t : Ty) (v : Kept) : Type 0 where
  pub is : IsData kinds blocks v t
  pub small : IsSmall t

abbrev pub typed_each : List RecordKind → List NumberedBlock → List Kept → List Ty → Type 0
typed_each kinds blocks [] [] = Unit {0}
typed_each kinds blocks [] (t ∷ ts) = ⊥
typed_each kinds blocks (v ∷ vs) [] = ⊥
typed_each kinds blocks (v ∷ vs) (t ∷ ts) = IsTypedCell kinds blocks t v × typed_each kinds blocks vs ts

-- a vector leads to a block of cells, of which there is one, and which all have one type
pub record IsVector (kinds : List RecordKind) (blocks : List NumberedBlock) (b : ℕ) (t : Ty) : Type 0 where
  pub members : Ty
  pub type : t ≡ ty.Vector members
  pub cells : List Kept
  pub there : block_at b blocks ≡ Some (Cells cells)
  pub some : 0 < length cells
  pub each : Each (IsTypedCell kinds blocks members) cells

-- a record leads to a block with a cell for each field, of the type of the field
pub record IsTuple (kinds : List RecordKind) (blocks : List NumberedBlock) (k b : ℕ) (t : Ty) : Type 0 where
  pub type : t ≡ ty.Tuple k
  pub cells : List Kept
  pub there : block_at b blocks ≡ Some (Cells cells)
  pub each : typed_each kinds blocks cells (fields kinds k)

-- data has the types that its cells give it
abbrev pub DataIsTypedByCells : Type 0
DataIsTypedByCells = (kinds : List RecordKind) (blocks : List NumberedBlock)
    → ((b : ℕ) (t : Ty) → IsData kinds blocks (kept.Vector b) t ↔ IsVector kinds blocks b t)
    × ((k b : ℕ) (t : Ty) → IsData kinds blocks (kept.Tuple k b) t ↔ IsTuple kinds blocks k b t)

-- ---- rules

-- in T the definitions of earlier groups are as general as in P, or more
pub record AreGeneral (earlier : ℕ → Bool) (P T : Typing) : Type 0 where
  pub each : (d : ℕ) → earlier d ≡ true → IsInstance (T.definition d) (P.definition d)

-- the rules are kept by substitution, and where definitions of earlier groups become more general
abbrev pub RulesAreKept : Type 0
RulesAreKept = (k : Kernel) (blocks : List NumberedBlock) (text : Text) (earlier : ℕ → Bool) (σ : Substitution) (P T : Typing)
    → IsAt text σ P T → AreGeneral earlier P T → (e : Expr) (u : Ty) (is : List Ty)
    → Types k blocks text P (MentionsFrom earlier text P) e u is
    → Types k blocks text T (MentionsFrom earlier text T) e (apply σ u) (map (apply σ) is)

-- the types of an expression and of those in it, in order of the text, its own first
pub record ListsTypes (e : Expr) (u : Ty) (is : List Ty) : Type 0 where
  pub long : length is ≡ listed e
  pub others : List Ty
  pub first : is ≡ u ∷ others

abbrev pub TypesAreListed : Type 0
TypesAreListed = (k : Kernel) (blocks : List NumberedBlock) (text : Text) (earlier : ℕ → Bool) (T : Typing) (e : Expr) (u : Ty)
    (is : List Ty) → Types k blocks text T (MentionsFrom earlier text T) e u is → ListsTypes e u is

-- an expression may have a type
pub record MayHave (k : Kernel) (blocks : List NumberedBlock) (text : Text) (earlier : ℕ → Bool) (T : Typing)
    (e : Expr) (u : Ty) : Type 0 where
  pub types : List Ty
  pub has : Types k blocks text T (MentionsFrom earlier text T) e u types

-- a case has the types of what it unfolds to, where the hidden local has the type of the labels
abbrev pub CasesAreUnfolded : Type 0
CasesAreUnfolded = (k : Kernel) (blocks : List NumberedBlock) (text : Text) (earlier : ℕ → Bool) (T : Typing) (at : Place)
    (kind : CaseKind) (hidden : ℕ) (a : Expr) (bs : List Labelled) (e : Expr) (u : Ty)
    → IsLocal text T hidden (key_type kind)
    → MayHave k blocks text earlier T (unfolded at kind hidden a bs e) u
    ↔ MayHave k blocks text earlier T (expr_at at (forms.Case kind a bs e)) u

-- no type of a group is too large
pub record IsSmallIn (text : Text) (T : Typing) : Type 0 where
  pub nodes : (l : ℕ) → text.lambdas l ≡ true → Each IsSmall (T.nodes l)
  pub definitions : (d : ℕ) → text.definitions d ≡ true → IsSmall (T.definition d)

-- so a group that has a typing has each instance that is not too large
abbrev pub GroupsAreKept : Type 0
GroupsAreKept = (k : Kernel) (s : Survivors) (earlier : ℕ → Bool) (ds : List ℕ) (σ : Substitution) (P T : Typing)
    → IsAt (text_of k s ds) σ P T → AreGeneral earlier P T → IsSmallIn (text_of k s ds) T
    → IsGroup k s earlier ds P → IsGroup k s earlier ds T

-- with integer for what nothing fixes a typing is one
abbrev pub SettledIsTyping : Type 0
SettledIsTyping = (k : Kernel) (s : Survivors) (groups : List (List ℕ)) (P T : Typing)
    → IsTyping k s groups P → IsSettled k s groups P T → IsTyping k s groups T

-- ---- order

abbrev pub OneOrder : Type 0
OneOrder = (g : Graph) (a b : List (List ℕ)) → IsOrder g a → IsOrder g b → a ≡ b

-- numbered parts are the groups
abbrev pub PartsAreTogether : Type 0
PartsAreTogether = (g : Graph) (part : ℕ → ℕ) → IsClosed g → AreParts g part
    → (d e : ℕ) → g.is_node d ≡ true → g.is_node e ≡ true → (part d ≡ part e) ↔ Together g d e

-- a node of the lowest part that is not listed is ready
abbrev pub SomeIsReady : Type 0
SomeIsReady = (g : Graph) (part : ℕ → ℕ) → IsClosed g → AreParts g part → (listed : List ℕ) (d : ℕ) → g.is_node d ≡ true
    → stands_in d listed ≡ false → ((e : ℕ) → g.is_node e ≡ true → part e < part d → stands_in e listed ≡ true) → IsReady g listed d

-- ---- answers

-- what survives has a typing, or fails at one definition
abbrev pub OneFault : Type 0
OneFault = (k : Kernel) (s : Survivors) (d e : ℕ) → FailsAt k s d → FailsAt k s e → d ≡ e

abbrev pub TypedIsNoFault : Type 0
TypedIsNoFault = (k : Kernel) (s : Survivors) (T : Typing) (d : ℕ) → IsTyped k s T → FailsAt k s d → ⊥

-- however inference names its variables, the lines that tell the types are the same
abbrev pub OneText : Type 0
OneText = (k : Kernel) (s : Survivors) (names : List Bytes) (T P : Typing) → IsTyped k s T → IsTyped k s P
    → types_text k s names T ≡ types_text k s names P
