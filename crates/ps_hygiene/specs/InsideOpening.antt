-- Names that a structure opens, as the calls that enter it take them (private to them).
use Rattle.std.specs.Borrow.{Bor}
use Rattle.std.specs.Prelude.{ℕ, List}
use Rattle.ps_pattern.specs.declared.binding.Binding.{Binding}
use Rattle.ps_scope.specs.Environments.{Entry}
use Rattle.ps_hygiene.specs.Language.{Word}
use Rattle.ps_hygiene.specs.Worlds.{World}

abbrev pub word_of : Bor (List ℕ) × Binding → Word
word_of w = record { text = w.0.now; binding = w.1 }

-- more names are opened
abbrev pub opened_by : (List Entry → List Entry) → World → World
opened_by more w = record w { opened = more w.opened }
