-- The law of the cells: what a primitive asks for, said before it takes effect, is what the memory gains.
use Rattle.std.specs.Prelude.{◌≡◌, List}
use Rattle.ps_base.specs.declared.faults.Op.{Op}
use Rattle.ps_base.specs.declared.language.PrimName.{PrimName}
use Rattle.ps_types.specs.declared.types.RecordKind.{RecordKind}
use Rattle.ps_prims.specs.declared.stages.Stage.{Stage}
use Rattle.ps_prims.specs.Sorts.{Values}
use Rattle.ps_prims.specs.Kinds.{AreKinds}
use Rattle.ps_prims.specs.Rows.{Scene, Done, Answers, Undefined, Wrong, perform, row}
use Rattle.ps_prims.specs.Cells.{asked_at, cells_between}
use Rattle.ps_prims.specs.Performing.{Belongs}

-- where it is performed, at a stage to which it belongs
abbrev pub AskedIsGained : Type 0 → Type 0
AskedIsGained V =
    (values : Values V) (kinds : List RecordKind) (p : PrimName) (vs : List V) (stage : Stage) (s : Scene V) (d : Done V V) →
    AreKinds kinds → Belongs (row values kinds p).stages stage → perform values kinds p vs stage s ≡ Answers d →
    asked_at values kinds p vs stage s ≡ cells_between s.memory d.memory

-- what is undefined asks for none
abbrev pub UndefinedAsksNone : Type 0 → Type 0
UndefinedAsksNone V =
    (values : Values V) (kinds : List RecordKind) (p : PrimName) (vs : List V) (stage : Stage) (s : Scene V) (op : Op) →
    AreKinds kinds → perform values kinds p vs stage s ≡ Undefined op → asked_at values kinds p vs stage s ≡ 0

-- and neither does what is wrong
abbrev pub WrongAsksNone : Type 0 → Type 0
WrongAsksNone V =
    (values : Values V) (kinds : List RecordKind) (p : PrimName) (vs : List V) (stage : Stage) (s : Scene V) →
    perform values kinds p vs stage s ≡ Wrong → asked_at values kinds p vs stage s ≡ 0
