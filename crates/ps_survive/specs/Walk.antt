-- What `main` reaches, and the walk that finds it (this project's own).
--
-- Read `Reaches p n` as: `main` reaches node n of program p. Read `Walks p seen todo e` as: a walk that has seen these nodes, in
-- this order, and has these steps still to do, ends so. The first step is always the next: at a fault the walk ends; a step that
-- leads nowhere, or to a node that was seen, is left behind; a step to another node is done by seeing it, and what there is to
-- do there comes at once, before all else. So the nodes are seen in the order in which a reader of the texts meets them, and the
-- fault at which the walk ends is the first that such a reader meets.
use Rattle.std.specs.Prelude.{◌≡◌, ℕ, nat_eq, Bool, true, false, List, [], ◌∷◌, ◌++◌, length, Option, Some, None, slice_get}
use Rattle.ps_base.specs.declared.faults.SurviveKind.TheVariants as kinds
use Rattle.ps_kernel.specs.declared.kernel.Lambda.{Lambda}
use Rattle.ps_kernel.specs.Lists.{Among}
use Rattle.ps_kernel.specs.Texts.{procedure_of}
use Rattle.ps_meaning.specs.Source.{Program, definition_place}
use Rattle.ps_survive.specs.declared.steps.Node.{Node}
use Rattle.ps_survive.specs.declared.steps.Node.TheVariants as nodes
use Rattle.ps_survive.specs.declared.steps.Step.{Step}
use Rattle.ps_survive.specs.Steps.{Fault, has, steps_of, names, fault}

module _ (p : Program) where
  abbrev pub main_node : Node
  main_node = nodes.Global p.kernel.main

  pub data Reaches : Node → Type 0 where
    main : Reaches main_node
    onward : (n : Node) (s : Step) (k : Node) → Reaches n → Among s (steps_of p n) → names p s ≡ Some k → Reaches k

-- how a walk ends
pub data End : Type 0 where
  -- with nothing to do, where these nodes were seen, in this order
  Ended : List Node → End
  Fails : Fault → End

module _ (p : Program) where
  pub data Walks : List Node → List Step → End → Type 0 where
    done : (seen : List Node) → Walks seen [] (Ended seen)
    fails : (seen : List Node) (s : Step) (todo : List Step) (f : Fault) → fault p s ≡ Some f → Walks seen (s ∷ todo) (Fails f)
    passes : (seen : List Node) (s : Step) (todo : List Step) (e : End) → fault p s ≡ None → names p s ≡ None → Walks seen todo e → Walks seen (s ∷ todo) e
    knows : (seen : List Node) (s : Step) (todo : List Step) (e : End) (n : Node) → fault p s ≡ None → names p s ≡ Some n → has seen n ≡ true → Walks seen todo e → Walks seen (s ∷ todo) e
    visits : (seen : List Node) (s : Step) (todo : List Step) (e : End) (n : Node) → fault p s ≡ None → names p s ≡ Some n → has seen n ≡ false → Walks (seen ++ n ∷ []) (steps_of p n ++ todo) e → Walks seen (s ∷ todo) e

  -- `main` is a procedure definition whose lambda has no parameters
  abbrev pub begins_lambda : Option Lambda → Bool
  begins_lambda None = false
  begins_lambda (Some l) = nat_eq (length l.parameters) 0

  abbrev pub begins_by : Option ℕ → Bool
  begins_by None = false
  begins_by (Some l) = begins_lambda (slice_get p.kernel.lambdas l)

  abbrev pub begins : Bool
  begins = begins_by (procedure_of p.kernel p.kernel.main)

  -- where that is missed: at the definition of `main`
  abbrev pub missing_main : Fault
  missing_main = record { kind = kinds.MainMissing; at = definition_place (slice_get p.kernel.definitions p.kernel.main) }

  -- how the walk from `main` ends
  pub data Survives : End → Type 0 where
    missing : begins ≡ false → Survives (Fails missing_main)
    walks : (e : End) → begins ≡ true → Walks (main_node p ∷ []) (steps_of p (main_node p)) e → Survives e
