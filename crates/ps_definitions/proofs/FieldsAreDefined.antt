-- The accessors and modifiers of fields are defined field by field.
-- For: define_fields
use Rattle.std.proofs.Common.{◌≡◌, ◌∙◌, ℕ, ◌+◌, ap, sym, Err, List, ◌∷◌, drop, map}
use Rattle.ps_base.specs.declared.faults.Place.{Place}
use Rattle.ps_definitions.specs.Definitions.{defines_field, defines_fields}
use Rattle.ps_derived.specs.Seen.{seen_field}
use Rattle.ps_derived.specs.declared.types.Field.{Field}
use Rattle.ps_scope.specs.Environments.{Env}
use Rattle.ps_hygiene.specs.Runs.{Step, Goes, and_then}
use Rattle.ps_expansion.specs.Does.{Gives}
use Rattle.ps_expansion.specs.States.{State}
use Rattle.ps_expansion.specs.declared.expansion.Expansion.{Expansion}
use Rattle.ps_expansion.specs.declared.stop.Stop.{Stop}
use Rattle.ps_expansion.specs.declared.stop.Stop.TheVariants as stops

module _ (at : Place) (kind n i : ℕ) (fields : List Field) (x : Field) (s : State) (is : drop i fields ≡ x ∷ drop (i + 1) fields) where
  abbrev then_others : Step State (Unit {0}) → Step State (Unit {0})
  then_others w = and_then w (λ _. defines_fields at kind (n + 1) (map seen_field (drop (i + 1) fields)))

  one_first : defines_fields at kind n (map seen_field (drop i fields)) s ≡ then_others (defines_field at kind n (seen_field x) s)
  one_first = ap (λ xs. defines_fields at kind n (map seen_field xs) s) is

  -- those of one field were defined
  pub others_follow : (t : State) → defines_field at kind n (seen_field x) s ≡ Goes tt t → defines_fields at kind (n + 1) (map seen_field (drop (i + 1) fields)) t ≡ defines_fields at kind n (map seen_field (drop i fields)) s
  others_follow t h = sym (one_first ∙ ap then_others h)

  -- one has a fault
  pub one_stops : (e : Stop) (want : Step State (Unit {0})) (env env' : Env) (now now' : Expansion) → defines_fields at kind n (map seen_field (drop i fields)) s ≡ want → Gives {A = Unit {0}} (Err e) (defines_field at kind n (seen_field x) s) env now → Gives {A = Unit {0}} (Err e) want env' now'
  one_stops (stops.Fault fault) want env env' now now' w h = record { wanted = sym w ∙ one_first ∙ ap then_others h.wanted }
  one_stops stops.NoMemory want env env' now now' w h = tt
