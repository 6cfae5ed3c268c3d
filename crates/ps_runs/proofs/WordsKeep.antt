-- A relation of parts of runs that the first words of runs keep is kept by the words that are made of them.
-- For: the laws of bounds, budgets and cells of each meaning that is said in these words
use Rattle.std.proofs.Common.{ℕ, List, [], ◌∷◌, ◌++◌, length, drop, Option, Some, None}
use Rattle.ps_base.specs.declared.faults.Place.{Place}
use Rattle.byte_store.specs.Outcome.{Wrong}
use Rattle.ps_prims.specs.Rows.{Scene, Performed}
use Rattle.ps_runs.specs.Runs.{Env, Run, Halt, Ends, ◌>>=◌, ◌>>◌, pure, stop, or_wrong}
use Rattle.ps_runs.specs.Locals.{found, put_in, get_locals, put_locals, local, set_local, with_pairs, within}
use Rattle.ps_runs.specs.Effects.{get_globals, put_globals, defined_in, assigned, global, set_global, performing}

-- a relation of parts of runs
abbrev pub Relation : Type 0 → Type 1
Relation V = (A : Type 0) → Run V A → Run V A → Type 0

-- the words of runs keep it that leave the locals alone
pub record Keeps (V : Type 0) (R : Relation V) : Type 1 where
  pub pures : {A : Type 0} (a : A) → R A (pure a) (pure a)
  pub stops : {A : Type 0} (h : Halt) → R A (stop h) (stop h)
  pub globals : R (List (Option V)) get_globals get_globals
  pub puts_globals : (globals : List (Option V)) → R (Unit {0}) (put_globals globals) (put_globals globals)
  pub performs : (at : Place) (asks : Scene V → ℕ) (act : Scene V → Performed V) → R V (performing at asks act) (performing at asks act)
  pub thens : {A B : Type 0} {p q : Run V A} {f g : A → Run V B} → R A p q → ((a : A) → R B (f a) (g a)) → R B (p >>= f) (q >>= g)

-- and the words about locals too
pub record KeepsLocals (V : Type 0) (R : Relation V) : Type 1 where
  pub words : Keeps V R
  pub locals : R (Env V) get_locals get_locals
  pub puts_locals : (env : Env V) → R (Unit {0}) (put_locals env) (put_locals env)

module _ {V : Type 0} (R : Relation V) (keeps : Keeps V R) where
  pub wrongs : {A : Type 0} (at : Place) (o : Option A) → R A (or_wrong at o) (or_wrong at o)
  wrongs at None = keeps.stops (Ends (Wrong at))
  wrongs at (Some a) = keeps.pures a

  pub global_related : (at : Place) (g : ℕ) → R V (global at g) (global at g)
  global_related at g = keeps.thens keeps.globals (λ globals. wrongs at (defined_in g globals))

  pub set_global_related : (g : ℕ) (v : V) → R (Unit {0}) (set_global g v) (set_global g v)
  set_global_related g v = keeps.thens keeps.globals (λ globals. keeps.puts_globals (assigned g v globals))

module _ {V : Type 0} (R : Relation V) (keeps : KeepsLocals V R) where
  pub local_related : (at : Place) (x : ℕ) → R V (local at x) (local at x)
  local_related at x = keeps.words.thens keeps.locals (λ env. wrongs R keeps.words at (found x env))

  pub set_local_related : (at : Place) (x : ℕ) (v : V) → R (Unit {0}) (set_local at x v) (set_local at x v)
  set_local_related at x v = keeps.words.thens (local_related at x) (λ u. keeps.words.thens keeps.locals (λ env. keeps.puts_locals (put_in x v env)))

  pub pairs_related : {A : Type 0} (pairs : Env V) (p q : Run V A) → R A p q → R A (with_pairs pairs p) (with_pairs pairs q)
  pairs_related pairs p q h =
      keeps.words.thens keeps.locals (λ env. keeps.words.thens (keeps.puts_locals (pairs ++ env)) (λ u. keeps.words.thens h (λ a. keeps.words.thens keeps.locals (λ later. keeps.words.thens (keeps.puts_locals (drop (length pairs) later)) (λ w. keeps.words.pures a)))))

  pub within_related : {A : Type 0} (env : Env V) (p q : Run V A) → R A p q → R A (within env p) (within env q)
  within_related env p q h =
      keeps.words.thens keeps.locals (λ before. keeps.words.thens (keeps.puts_locals env) (λ u. keeps.words.thens h (λ a. keeps.words.thens (keeps.puts_locals before) (λ w. keeps.words.pures a))))
