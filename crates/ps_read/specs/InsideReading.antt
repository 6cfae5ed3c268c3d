-- What the reader's parts promise each other (this project's own): answers in words of the reader's machine, and fronts of a
-- text. No public clause cites this file.
use Rattle.std.specs.Prelude.{◌≡◌, ℕ, ◌<◌, ◌≤◌, List, [], Result, Ok, Err}
use Rattle.ps_base.specs.declared.faults.Refusal.{Refusal}
use Rattle.ps_base.specs.declared.faults.Refusal.TheVariants as r
use Rattle.ps_datum.specs.declared.datum.Datum.{Datum}
use Rattle.ps_read.specs.declared.token.Breach.{Breach}
use Rattle.ps_read.specs.declared.token.Front.{Front}
use Rattle.ps_read.specs.declared.token.Front.TheVariants.{Gap, Whole, Named, Quoted, Stop}
use Rattle.ps_read.specs.Lexical.{Table, tokens_of}
use Rattle.ps_read.specs.InsideMachine.{Answer, run}
use Rattle.ps_read.specs.Reading.{IsSyntax}

-- a refusal of the machine's run
abbrev pub Fails : Refusal → Answer → Type 0
Fails r.NoMemory a = Unit {0}
Fails (r.Fault f) a = (b : Breach) × IsSyntax f b × (a ≡ Err b)

abbrev pub Gives : Result (List Datum) Refusal → Answer → Type 0
Gives (Ok ds) a = a ≡ Ok ds
Gives (Err e) a = Fails e a

unfoldable pub answer : Table → ℕ → List ℕ → Answer
answer names file text = run ([], []) (tokens_of names file text)

-- what the front takes of n bytes
abbrev pub Within : ℕ → Front → Type 0
Within n (Gap m) = (0 < m) × (m ≤ n)
Within n (Whole m x) = (0 < m) × (m ≤ n)
Within n (Named m x) = (0 < m) × (m ≤ n)
Within n Quoted = 1 ≤ n
Within n (Stop m kind) = m < n

-- names have their numbers
abbrev pub IsResolved : Front → Type 0
IsResolved (Named n x) = ⊥
IsResolved Quoted = ⊥
IsResolved (Gap n) = Unit {0}
IsResolved (Whole n x) = Unit {0}
IsResolved (Stop n kind) = Unit {0}
