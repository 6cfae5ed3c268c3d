-- What reading a text answers (this project's own): `Reads`, that a text is some data, by the tokens of `Lexical` and the
-- grammar of `Grammar`; `Refuses`, that it is refused for its first breach, by `Breaches`; and what is said of the table of names.
use Rattle.std.specs.Prelude.{◌≡◌, ℕ, List, ◌++◌, true, Result, Ok, Err}
use Rattle.std.specs.List.{AllByRecursion}
use Rattle.ps_base.specs.declared.faults.Fault.{Fault}
use Rattle.ps_base.specs.declared.faults.Fault.TheVariants as faults
use Rattle.ps_base.specs.declared.faults.Refusal.{Refusal}
use Rattle.ps_base.specs.declared.faults.Refusal.TheVariants as r
use Rattle.ps_datum.specs.declared.datum.Datum.{Datum}
use Rattle.ps_datum.specs.Writing.{is_known}
use Rattle.ps_read.specs.declared.token.Breach.{Breach}
use Rattle.ps_read.specs.declared.token.Token.{Token}
use Rattle.ps_read.specs.Grammar.{AreData}
use Rattle.ps_read.specs.Breaches.{FirstBreach}
use Rattle.ps_read.specs.Lexical.{Table, is_identifier, small, tokens_of, listed}

-- the text is these data and nothing else, where the first of these tables lists the names that are known before, and the
-- second those that are known behind it
pub record Reads (names : Table) (file : ℕ) (text : List ℕ) (ds : List Datum) (behind : Table) : Type 0 where
  pub data_are : AreData (tokens_of names file text) ds
  pub names_are : behind ≡ listed names 0 text

-- the refusal is Syntax, of this kind and at this place
abbrev pub IsSyntax : Fault → Breach → Type 0
IsSyntax (faults.Syntax kind place) b = b ≡ record { kind = kind; place = place }
IsSyntax _ b = ⊥

-- what a refusal tells: it is for the first breach of the text, or memory ran out
abbrev pub Refuses : Refusal → List Token → Type 0
Refuses r.NoMemory ts = Unit {0}
Refuses (r.Fault f) ts = (b : Breach) × IsSyntax f b × FirstBreach ts b

-- memory ran out
abbrev pub IsMemory : Refusal → Type 0
IsMemory r.NoMemory = Unit {0}
IsMemory (r.Fault f) = ⊥

-- the text was read, or memory ran out
abbrev pub IsReadUnlessMemory : Result (List Datum) Refusal → List Datum → Type 0
IsReadUnlessMemory (Ok es) ds = es ≡ ds
IsReadUnlessMemory (Err e) ds = IsMemory e

-- the text was refused for this breach, or memory ran out
abbrev pub IsRefusedUnlessMemory : Refusal → Breach → Type 0
IsRefusedUnlessMemory r.NoMemory b = Unit {0}
IsRefusedUnlessMemory (r.Fault f) b = IsSyntax f b

abbrev pub IsBreachUnlessMemory : Result (List Datum) Refusal → Breach → Type 0
IsBreachUnlessMemory (Ok es) b = ⊥
IsBreachUnlessMemory (Err e) b = IsRefusedUnlessMemory e b

-- each name in the data is a number of the table
abbrev pub AllKnown : Table → List Datum → Type 0
AllKnown names ds = AllByRecursion (λ d. is_known names d ≡ true) ds

-- an identifier in small letters
pub record IsName (text : List ℕ) : Type 0 where
  pub identifier : is_identifier text ≡ true
  pub in_small : small text ≡ text

-- a table of identifiers in small letters
pub record AreNames (names : Table) : Type 0 where
  pub all : AllByRecursion IsName names

-- a table of names that was only added to: each name that it had keeps its number
pub record Grown (before behind : Table) : Type 0 where
  pub more : Table
  pub is : behind ≡ before ++ more
