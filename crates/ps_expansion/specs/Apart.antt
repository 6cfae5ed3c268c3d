-- The parts of a special form at a place: `else` and `=>` count where they are unbound (R5RS 4.2.1).
use Rattle.std.specs.Prelude.{Option, codes}
use Rattle.ps_base.specs.Names.{number_of}
use Rattle.ps_base.specs.declared.faults.FormKind.TheVariants.{BadForm}
use Rattle.ps_base.specs.declared.language.Core.{Core}
use Rattle.ps_derived.specs.Forms.{counts}
use Rattle.ps_derived.specs.Parts.{parts_of}
use Rattle.ps_derived.specs.PartsOf.{PartsOf, DefinedOf}
use Rattle.ps_derived.specs.PartsOf as d
use Rattle.ps_pattern.specs.declared.syntax.Ident.{Ident}
use Rattle.ps_pattern.specs.declared.syntax.Syntax.{Syntax}
use Rattle.ps_scope.specs.Environments.{Env}
use Rattle.ps_hygiene.specs.Meanings.{binding_of}
use Rattle.ps_hygiene.specs.Runs.{Run, known}
use Rattle.ps_hygiene.specs.Worlds.{World}
use Rattle.ps_expansion.specs.States.{Task, State}

abbrev pub taken_apart : Task → World → Env → Core → Syntax → Option PartsOf
taken_apart task w env c f = parts_of (counts (binding_of w env) (number_of task.names (codes "else"))) (counts (binding_of w env) (number_of task.names (codes "=>"))) c f

abbrev pub parts_at : Task → Env → Core → Syntax → Run State PartsOf
parts_at task env c f = λ s. known BadForm f.place (taken_apart task s.world env c f) s

-- the name that a definition defines
abbrev pub name_of : DefinedOf → Ident
name_of (d.Variable x e) = x
name_of (d.Procedure x ps fs) = x
