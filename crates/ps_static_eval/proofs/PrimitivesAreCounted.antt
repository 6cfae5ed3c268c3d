-- A primitive at compile time: its cells are counted, and then it takes effect.
-- For: `perform_row` and `operate`
use Rattle.std.proofs.Common.{◌≡◌, ℕ, ◌-◌, ◌<◌, ◌≤◌, nat_le, List, [], Bool, true, false, sym, ap, ◌∙◌, arith}
use Rattle.std.specs.Prelude.{if◌then◌else◌, IsTrue, Some}
use Rattle.byte_store.specs.Blocks.{Memory}
use Rattle.byte_store.specs.Worlds.{Surroundings}
use Rattle.byte_store.specs.Outcome as ends
use Rattle.byte_store.specs.declared.event.Event.{Event}
use Rattle.byte_store.specs.declared.pointer.Value.{Value}
use Rattle.ps_base.specs.declared.faults.Op.{Op}
use Rattle.ps_base.specs.declared.faults.Place.{Place}
use Rattle.ps_base.specs.declared.language.PrimName.{PrimName}
use Rattle.ps_prims.specs.declared.outcome.PrimOut.{PrimOut}
use Rattle.ps_prims.specs.declared.outcome.PrimOut.TheVariants as out
use Rattle.ps_prims.specs.declared.stages.Stage.TheVariants.{Compile}
use Rattle.ps_prims.specs.Sorts.{first_order}
use Rattle.ps_prims.specs.Rows.{Scene, row, perform}
use Rattle.ps_prims.specs.Performing.{Comes, State as Scenes, state}
use Rattle.ps_prims.specs.Cells.{asked_at}
use Rattle.ps_kernel.specs.declared.kernel.Kernel.{Kernel}
use Rattle.ps_runs.specs.Runs.{Env, State, Run, Goes, Stops, Ends, and_then, stop}
use Rattle.ps_runs.specs.Effects.{came, performing}
use Rattle.ps_meaning.specs.Eval.{belongs, misplaced, operation}
use Rattle.ps_static_eval.specs.declared.machine.Ending.TheVariants as ending
use Rattle.ps_static_eval.specs.declared.machine.Halt.TheVariants.{Cells, Undefined, Wrong, RunOnly}
use Rattle.ps_static_eval.specs.InsideMachine.{Left, at, Becomes}

pub small : (a b : ℕ) → a ≤ b → nat_le a b ≡ true
small a b le = grind (arith, le)

pub great : (a b : ℕ) → b < a → nat_le a b ≡ false
great a b lt = grind (arith, lt)

module _ (k : Kernel) (place : Place) (p : PrimName) (vs : List Value) (m : Left) where
  abbrev pub scene : Scene Value
  scene = record { memory = m.store; world = m.world }

  abbrev pub asked : ℕ
  asked = asked_at first_order k.kinds p vs Compile scene

  -- a primitive that does not belong to compile time
  pub misfit : belongs (row first_order k.kinds p).stages Compile ≡ false → Becomes (operation k Compile first_order place p vs) m (ending.Halted (RunOnly place)) m
  misfit is = λ env.
      let q : Run Value Value = performing place (asked_at first_order k.kinds p vs Compile) (perform first_order k.kinds p vs Compile) in
      ap (λ (b : Bool). (if b then q else stop (misplaced Compile place)) (at m env)) is

  module _ (belonging : IsTrue (belongs (row first_order k.kinds p).stages Compile)) where
    by_row : (s : State Value) → operation k Compile first_order place p vs s ≡ performing place (asked_at first_order k.kinds p vs Compile) (perform first_order k.kinds p vs Compile) s
    by_row s =
        let q : Run Value Value = performing place (asked_at first_order k.kinds p vs Compile) (perform first_order k.kinds p vs Compile) in
        ap (λ (b : Bool). (if b then q else stop (misplaced Compile place)) s) belonging

    -- what is paid for its cells, or not
    abbrev paying : Bool → Run Value (Unit {0})
    paying b = if b then (λ s. Goes tt (record s { cells = Some (m.cells - asked) })) else stop (Ends ends.StoppedAtCells)

    -- there are too few cells
    pub spent : m.cells < asked → Becomes (operation k Compile first_order place p vs) m (ending.Halted Cells) m
    spent lt = λ env.
        by_row (at m env)
        ∙ ap (λ b. and_then (paying b (at m env)) (λ u. came place (perform first_order k.kinds p vs Compile scene))) (great asked m.cells lt)

    module _ (enough : asked ≤ m.cells) (store : Memory Value) (world : Surroundings) (events : List Event) where
      abbrev paid : Left
      paid = record m { cells = m.cells - asked }

      abbrev pub after : Left
      after = record m { cells = m.cells - asked; store = store; world = world; events = events }

      pays : (env : Env Value) → operation k Compile first_order place p vs (at m env) ≡ came place (perform first_order k.kinds p vs Compile scene) (at paid env)
      pays env =
          by_row (at m env)
          ∙ ap (λ b. and_then (paying b (at m env)) (λ u. came place (perform first_order k.kinds p vs Compile scene))) (small asked m.cells enough)

      abbrev comes : PrimOut → Type 0
      comes o = Comes o (state m.store m.world m.events) (state store world events) (perform first_order k.kinds p vs Compile scene)

      pub answers : (v : Value) → comes (out.Value v) → Becomes (operation k Compile first_order place p vs) m (ending.Gave v) after
      answers v h = λ env.
          pays env
          ∙ ap (λ z. came place z (at paid env)) h.1
          ∙ ap (λ (z : List Event). Goes v (at (record m { cells = m.cells - asked; store = store; world = world; events = z }) env)) (sym h.2)

      pub undefined : (op : Op) → comes (out.Undefined op) → Becomes (operation k Compile first_order place p vs) m (ending.Halted (Undefined op place)) after
      undefined op h = λ env.
          pays env
          ∙ ap (λ z. came place z (at paid env)) h.0
          ∙ ap (λ (z : Scenes). Stops (Ends (ends.Undefined op place)) (at (record m { cells = m.cells - asked; store = z.memory; world = z.world; events = z.events }) [])) (sym h.1)

      pub wrong : comes out.Wrong → Becomes (operation k Compile first_order place p vs) m (ending.Halted (Wrong place)) after
      wrong h = λ env.
          pays env
          ∙ ap (λ z. came place z (at paid env)) h.0
          ∙ ap (λ (z : Scenes). Stops (Ends (ends.Wrong place)) (at (record m { cells = m.cells - asked; store = z.memory; world = z.world; events = z.events }) [])) (sym h.1)
