-- How it is found what lambdas keep: what the functions promise each other.
use Rattle.std.specs.Prelude.{◌≡◌, ◌↔◌, ℕ, suc, ◌||◌, ◌==◌, Bool, true, if◌then◌else◌, List, [], ◌∷◌, ◌++◌, map, Option, Some, None, slice_get}
use Rattle.std.specs.List.{fold}
use Rattle.std.specs.Borrow.{Bor}
use Rattle.std.specs.Option.{option_copied}
use Rattle.std.specs.Map.{lookup}
use Rattle.std.specs.BTreeMap.{is_at}
use Rattle.std.specs.Ordering.{nat_cmp}
use Rattle.ps_kernel.specs.declared.expr.GroupEntry.{GroupEntry}
use Rattle.ps_kernel.specs.declared.kernel.Kernel.{Kernel}
use Rattle.ps_kernel.specs.declared.kernel.Lambda.{Lambda}
use Rattle.ps_kernel.specs.Captured.{Reaches, Keeps, Ascends, IsCaptured, is_entry}
use Rattle.ps_kernel.specs.Lists.{stands_in}
use Rattle.ps_kernel.specs.Most.{most_depth}
use Rattle.ps_kernel.specs.Texts.{named, lambda_text}
use Rattle.ps_captured.specs.declared.chase.Chase.{Chase}
use Rattle.ps_captured.specs.declared.members.Members.{Members}
use Rattle.ps_captured.specs.declared.named.Named.{Named}
use Rattle.ps_captured.specs.declared.places.Places.{Places}
use Rattle.ps_captured.specs.InsideReading.{Sight, Stood, read, read_body}
use Rattle.ps_captured.specs.InsideTables.{with_local, with_free, with_all_free, with_other}

-- ---- what texts name

-- what is seen in the text of a lambda, where these are all lambdas
abbrev pub sights_in : List Lambda → Option Lambda → List Sight
sights_in ms m = read_body (read ms most_depth) [] m

abbrev pub named_of : List Sight → Named
named_of ss = record { names = fold (with_free []) [] ss; free = with_all_free [] ss }

abbrev pub named_in : List Lambda → Lambda → Named
named_in ms m = named_of (sights_in ms (Some m))

abbrev pub all_named : List Lambda → List Named
all_named ms = map (named_in ms) ms

abbrev pub or_nothing : Option Named → Named
or_nothing None = record { names = []; free = [] }
or_nothing (Some d) = d

abbrev pub named_at : List Named → ℕ → Named
named_at ds l = or_nothing (slice_get ds l)

-- ---- groups

-- the lambdas of each local of a group
abbrev pub Lookup : Type 0
Lookup = ℕ → List ℕ

abbrev pub with_entry : Lookup → GroupEntry → Lookup
with_entry f e = λ x. if x == e.local then f x ++ e.lambda ∷ [] else f x

abbrev pub no_entry : Lookup
no_entry x = []

-- as a table has them
abbrev pub numbers_or : Option (List ℕ) → List ℕ
numbers_or None = []
numbers_or (Some ns) = ns

abbrev pub at_key : List (ℕ × List ℕ) → Lookup
at_key es x = numbers_or (lookup (is_at (nat_cmp x)) es)

abbrev pub looked : Members → Lookup
looked s = at_key s.table.entries

abbrev pub without : Lookup → ℕ → Lookup
without f x = λ y. if y == x then [] else f y

-- the group in which each lambda stands
abbrev pub GroupOf : Type 0
GroupOf = ℕ → Option (List GroupEntry)

abbrev pub group_at : List (ℕ × Bor (List GroupEntry)) → GroupOf
group_at es l = option_copied (lookup (is_at (nat_cmp l)) es)

abbrev pub placed : Places → GroupOf
placed s = group_at s.table.entries

abbrev pub kept_place : Option (List GroupEntry) → List GroupEntry → Option (List GroupEntry)
kept_place None g = Some g
kept_place (Some h) g = Some h

abbrev pub with_place : GroupOf → ℕ → List GroupEntry → GroupOf
with_place t l g = λ n. if n == l then kept_place (t n) g else t n

abbrev pub with_sight : GroupOf → Sight → GroupOf
with_sight t (Stood l g) = with_place t l g
with_sight t s = t

abbrev pub no_place : GroupOf
no_place l = None

abbrev pub or_none : Option (List GroupEntry) → List GroupEntry
or_none None = []
or_none (Some g) = g

-- ---- what is reached

abbrev pub met : Lookup → Chase → ℕ → Chase
met at c x = if stands_in x c.met then c else record c { todo = c.todo ++ at x; met = with_local c.met x }

abbrev pub all_met : Lookup → Chase → List ℕ → Chase
all_met at c xs = fold (met at) c xs

-- how many entries of a group have locals that were not met
abbrev pub unmet : List GroupEntry → List ℕ → ℕ
unmet [] xs = 0
unmet (e ∷ g) xs = if stands_in e.local xs then unmet g xs else suc (unmet g xs)

abbrev pub knows : Chase → ℕ → Bool
knows c n = stands_in n c.done || stands_in n c.todo

-- what holds of a chase from a lambda within a group
pub record Chases (k : Kernel) (g : List GroupEntry) (l : ℕ) (c : Chase) : Type 0 where
  pub begins : knows c l ≡ true
  pub sound : (n : ℕ) → knows c n ≡ true → Reaches k g l n
  pub follows : (x n : ℕ) → stands_in x c.met ≡ true → is_entry x n g ≡ true → knows c n ≡ true
  pub finished : (m x : ℕ) → stands_in m c.done ≡ true → stands_in x (named (lambda_text k m)) ≡ true → stands_in x c.met ≡ true

-- a list has the lambdas that are reached from one within a group
abbrev pub AreReached : Kernel → List GroupEntry → ℕ → List ℕ → Type 0
AreReached k g l ns = (n : ℕ) → (stands_in n ns ≡ true) ↔ Reaches k g l n

-- ---- what is kept

abbrev pub with_each : List ℕ → List ℕ → List ℕ → List ℕ
with_each own xs ys = fold (with_other own) xs ys

abbrev pub with_member : List ℕ → List Named → List ℕ → ℕ → List ℕ
with_member own ds xs l = with_each own xs (named_at ds l).free

-- a list is what the procedure of a lambda keeps that stands in a group or in none
pub record IsKept (k : Kernel) (g : List GroupEntry) (l : ℕ) (xs : List ℕ) : Type 0 where
  pub keeps : (x : ℕ) → (stands_in x xs ≡ true) ↔ Keeps k g l x
  pub ascends : Ascends xs

-- lists of the first lambdas, in order
abbrev pub AreCaptured : Kernel → List (List ℕ) → Type 0
AreCaptured k xss = (i : ℕ) (xs : List ℕ) → slice_get xss i ≡ Some xs → IsCaptured k i xs

-- ---- the kernel

abbrev pub with_list : Lambda → List ℕ → Lambda
with_list m xs = record m { captured = xs }

-- lambdas with the lists in their order
abbrev pub with_lists : List Lambda → List (List ℕ) → List Lambda
with_lists [] xss = []
with_lists (m ∷ ms) [] = []
with_lists (m ∷ ms) (xs ∷ xss) = with_list m xs ∷ with_lists ms xss
