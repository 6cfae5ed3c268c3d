-- What looks at the memory changes nothing but the events.
-- For: the functions of looks.rt and glances.rt
use Rattle.std.proofs.Common.{◌≡◌, List, [], ◌++◌, false, Some, Result, Ok, Err, refl, sym, ap, ◌∙◌}
use Rattle.std.proofs.lemmas.List.{append-nil}
use Rattle.ps_base.specs.declared.faults.Op.{Op}
use Rattle.byte_store.specs.declared.event.Event.{Event}
use Rattle.byte_store.specs.declared.pointer.Value.{Value}
use Rattle.byte_store.specs.Blocks.{Memory}
use Rattle.byte_store.specs.Operations.{and_then}
use Rattle.ps_prims.specs.declared.outcome.PrimOut.{PrimOut}
use Rattle.ps_prims.specs.declared.outcome.PrimOut.TheVariants as out
use Rattle.ps_prims.specs.declared.stages.Stage.{Stage}
use Rattle.ps_prims.specs.declared.stages.Stage.TheVariants.{Compile, Run}
use Rattle.ps_prims.specs.Sorts.{Meant, answered, applied, first_order, fits}
use Rattle.ps_prims.specs.Rows.{Row, Scene, Answers, finds, unseen, perform_row, performed, at_scene, seen_at}
use Rattle.byte_store.specs.Worlds.{Surroundings}
use Rattle.ps_prims.specs.Needs.{Events, Takes, Wanting}
use Rattle.ps_prims.specs.Performing.{Comes}
use Rattle.ps_prims.specs.InsidePerforming.{Looks, LooksQuietly}
use Rattle.ps_prims.specs.Inside.{Tells, Found, FoundQuietly}
use Rattle.ps_prims.proofs.OtherNumbersFitNoRow.{applied_none}

-- what was told of what was found
pub found_told : {X : Type 0} (o : PrimOut) (a : Result X Op) (of : X → Value) (tell : X → List Event) (stage : Stage) (old new : List Event) (x : X) → a ≡ Ok x → Tells o (of x) (tell x) stage old new → Found o a of tell stage old new
found_told (out.Value v) a of tell stage old new x is told = (x, is, told.0, told.1)
found_told (out.Undefined op) a of tell stage old new x is told = absurd told
found_told out.Wrong a of tell stage old new x is told = absurd told
found_told out.NoMemory a of tell stage old new x is told = told

-- what is found without being seen from outside
pub nothing_added : (stage : Stage) (es : List Event) → es ++ seen_at stage [] ≡ es
nothing_added Compile es = append-nil es
nothing_added Run es = append-nil es

pub found_quietly : {X : Type 0} (o : PrimOut) (a : Result X Op) (of : X → Value) (stage : Stage) (events : List Event) → FoundQuietly o a of → Found o a of (λ y. unseen y) stage events events
found_quietly (out.Value v) a of stage events f = (f.0, f.1, f.2, sym (nothing_added stage events))
found_quietly (out.Undefined op) a of stage events f = (f, refl)
found_quietly out.Wrong a of stage events f = absurd f
found_quietly out.NoMemory a of stage events f = absurd f

module _ (r : Row Value) (vs : List Value) (m : Memory Value) (stage : Stage) (old new : List Event) where
  pub looks_wrong : fits first_order r.operands vs ≡ false → Looks out.Wrong stage m old old (perform_row first_order r vs)
  looks_wrong other = (tt, λ w. (ap (λ f. performed (answered first_order r.answer) stage (at_scene stage (record { memory = m; world = w }) f)) (applied_none first_order r.operands r.does vs other), refl))

  -- memory is wanting for events alone
  wanting : {X : Type 0} (o : PrimOut) (a : Result X Op) (of : X → Value) (tell : X → List Event) → Found o a of tell stage old new → Wanting o (Takes Events stage)
  wanting (out.Value v) a of tell f = tt
  wanting (out.Undefined op) a of tell f = tt
  wanting out.Wrong a of tell f = tt
  wanting out.NoMemory a of tell f = f.0

  looks_in : (w : Surroundings) (look : Memory Value → Result (Meant Value r.answer) Op) (tell : Meant Value r.answer → List Event) (o : PrimOut) →
      applied first_order r.operands r.does vs ≡ Some (finds look tell) → Found o (look m) (answered first_order r.answer) tell stage old new →
      Comes o (record { memory = m; world = w; events = old }) (record { memory = m; world = w; events = new }) (perform_row first_order r vs stage (record { memory = m; world = w }))
  looks_in w look tell o is found = go o found
    where
      scene : Scene Value
      scene = record { memory = m; world = w }

      at : perform_row first_order r vs stage scene ≡ performed (answered first_order r.answer) stage (Some (finds look tell stage scene))
      at = ap (λ f. performed (answered first_order r.answer) stage (at_scene stage scene f)) is

      then : (a : Result (Meant Value r.answer) Op) → look m ≡ a → perform_row first_order r vs stage scene ≡
          performed (answered first_order r.answer) stage (Some (and_then a (λ x. Ok (record { answer = x; memory = m; world = w; events = tell x }))))
      then a e = at ∙ ap (λ b. performed (answered first_order r.answer) stage (Some (and_then b (λ x. Ok (record { answer = x; memory = m; world = w; events = tell x }))))) e

      go : (o : PrimOut) → Found o (look m) (answered first_order r.answer) tell stage old new → Comes o (record { memory = m; world = w; events = old }) (record { memory = m; world = w; events = new }) (perform_row first_order r vs stage scene)
      go (out.Value v) f = (seen_at stage (tell f.0), then (Ok f.0) f.1 ∙ ap (λ u. Answers (record { answer = u; memory = m; world = w; events = seen_at stage (tell f.0) })) (sym f.2), f.3)
      go (out.Undefined op) f = (then (Err op) f.0, ap (λ (es : List Event). record { memory = m; world = w; events = es }) f.1)
      go out.Wrong f = absurd f
      go out.NoMemory f = ap (λ (es : List Event). record { memory = m; world = w; events = es }) f.1

  pub looks : (look : Memory Value → Result (Meant Value r.answer) Op) (tell : Meant Value r.answer → List Event) (o : PrimOut) →
      applied first_order r.operands r.does vs ≡ Some (finds look tell) → Found o (look m) (answered first_order r.answer) tell stage old new → Looks o stage m old new (perform_row first_order r vs)
  looks look tell o is found = (wanting o (look m) (answered first_order r.answer) tell found, λ w. looks_in w look tell o is found)

  pub looks_of : (args : List Value) (look : Memory Value → Result (Meant Value r.answer) Op) (tell : Meant Value r.answer → List Event) (o : PrimOut) →
      vs ≡ args → applied first_order r.operands r.does args ≡ Some (finds look tell) → Found o (look m) (answered first_order r.answer) tell stage old new → Looks o stage m old new (perform_row first_order r vs)
  looks_of args look tell o is at found = looks look tell o (ap (applied first_order r.operands r.does) is ∙ at) found

module _ (r : Row Value) (vs : List Value) (m : Memory Value) where
  pub looks_quietly_wrong : fits first_order r.operands vs ≡ false → LooksQuietly out.Wrong m (perform_row first_order r vs)
  looks_quietly_wrong other stage events = looks_wrong r vs m stage events events other

  pub looks_quietly : (args : List Value) (look : Memory Value → Result (Meant Value r.answer) Op) (o : PrimOut) →
      vs ≡ args → applied first_order r.operands r.does args ≡ Some (finds look (λ x. unseen x)) → FoundQuietly o (look m) (answered first_order r.answer) → LooksQuietly o m (perform_row first_order r vs)
  looks_quietly args look o is at found stage events = looks_of r vs m stage events events args look (λ x. unseen x) o is at (found_quietly o (look m) (answered first_order r.answer) stage events found)
