-- Primitives on values that stand for others (this project's own).
--
-- Read `RowsAreNatural` as: where f takes values to others that are seen alike, a primitive does on f of its operands, in the
-- memory whose cells hold f of theirs, what it does on the operands themselves. It answers f of the answer, leaves f of the
-- memory and the same world, and is seen the same from outside; or it is undefined by the same cause; or both are wrong. It
-- asks for as many cells.
use Rattle.std.specs.Prelude.{◌≡◌, List, map}
use Rattle.ps_base.specs.declared.language.PrimName.{PrimName}
use Rattle.byte_store.specs.declared.pointer.Value.{Value}
use Rattle.byte_store.specs.Mapping.{map_memory}
use Rattle.ps_types.specs.declared.types.RecordKind.{RecordKind}
use Rattle.ps_prims.specs.declared.stages.Stage.{Stage}
use Rattle.ps_prims.specs.Sorts.{Values}
use Rattle.ps_prims.specs.Rows.{Scene, Done, Performed, Answers, Undefined, Wrong, perform}
use Rattle.ps_prims.specs.Cells.{asked_at}

module _ {A B : Type 0} (f : A → B) where
  -- f of a value is seen as the value is
  pub record SeenAlike (values : Values A) (others : Values B) : Type 0 where
    pub seen : (v : A) → others.seen (f v) ≡ values.seen v
    pub of : (u : Value) → others.of u ≡ f (values.of u)
    pub word : (v : A) → others.word (f v) ≡ values.word v

  abbrev pub map_scene : Scene A → Scene B
  map_scene s = record { memory = map_memory f s.memory; world = s.world }

  -- what was done: h of its answer, f of its memory, the same world, and what was seen from outside
  abbrev pub map_done : {X Y : Type 0} → (X → Y) → Done A X → Done B Y
  map_done h d = record { answer = h d.answer; memory = map_memory f d.memory; world = d.world; events = d.events }

  abbrev pub map_performed : Performed A → Performed B
  map_performed (Answers d) = Answers (map_done f d)
  map_performed (Undefined op) = Undefined op
  map_performed Wrong = Wrong

  pub record RowsAreNatural (values : Values A) (others : Values B) : Type 0 where
    pub performs : (kinds : List RecordKind) (p : PrimName) (vs : List A) (stage : Stage) (s : Scene A) →
        perform others kinds p (map f vs) stage (map_scene s) ≡ map_performed (perform values kinds p vs stage s)
    pub asks : (kinds : List RecordKind) (p : PrimName) (vs : List A) (stage : Stage) (s : Scene A) →
        asked_at others kinds p (map f vs) stage (map_scene s) ≡ asked_at values kinds p vs stage s
