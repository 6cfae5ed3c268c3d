-- Where an identifier is looked up (private to the calls that do).
use Rattle.std.specs.Prelude.{ℕ}
use Rattle.ps_scope.specs.Environments.{Env}
use Rattle.ps_hygiene.specs.declared.meaning.Where.{Where}
use Rattle.ps_hygiene.specs.declared.meaning.Where.TheVariants as at
use Rattle.ps_hygiene.specs.Answers.{Seen}
use Rattle.ps_hygiene.specs.Worlds.{home_of, structure_of}

abbrev pub structure_at : Seen → Where → ℕ
structure_at h at.Here = h.world.structure
structure_at h (at.Home m) = structure_of h.world m

abbrev pub environment_at : Seen → Where → Env
environment_at h at.Here = h.here
environment_at h (at.Home m) = home_of h.world m
