-- Parts of a run of a program of integers, and the same parts of the run of its kernel. The memory stays empty, the
-- definitions and the locals keep their values, and cells are not counted.
-- For: `kernels_do_the_same` and `forms_do_nothing`
use Rattle.std.proofs.Common.{◌≡◌, ℕ, ℤ, zero, suc, List, [], ◌∷◌, ◌++◌, map, Option, Some, None, Ok, Err, refl, ap, ◌∙◌, append-nil}
use Rattle.std.specs.Prelude.{pos, negsuc, nat_lt, ◌+ℤ◌, ◌-ℤ◌, ◌*ℤ◌, Bool, true, false, if◌then◌else◌, int_lt}
use Rattle.std.specs.Option.{option_map}
use Rattle.std.specs.Ordering.{int_eq}
use Rattle.ps_base.specs.Numbers.{is_word, fit, byte_of}
use Rattle.ps_base.specs.declared.faults.Place.{Place}
use Rattle.ps_base.specs.declared.faults.Op.TheVariants.{Overflow, Byte}
use Rattle.ps_base.specs.declared.language.PrimName.{PrimName}
use Rattle.ps_base.specs.declared.language.PrimName.TheVariants as prims
use Rattle.byte_store.specs.declared.event.Event.TheVariants.{Output}
use Rattle.byte_store.specs.declared.pointer.Value.{Value}
use Rattle.byte_store.specs.declared.pointer.Value.TheVariants as value
use Rattle.byte_store.specs.Operations.{and_then}
use Rattle.byte_store.specs.Outcome.{End, Wrong, Undefined}
use Rattle.ps_prims.specs.declared.stages.Stage.TheVariants.{Run as AtRun}
use Rattle.ps_prims.specs.declared.sorts.Sort.{Sort}
use Rattle.ps_prims.specs.declared.sorts.Sort.TheVariants.{Integer, Boolean, Unit as Unit'}
use Rattle.ps_prims.specs.Sorts.{Meant, and_seen, as_integer, as_boolean, and_takes, answered, applied}
use Rattle.ps_prims.specs.Acts.{Scene, Act, answers, gives, writes}
use Rattle.ps_prims.specs.Rows.{fitting, performed, at_scene}
use Rattle.ps_runs.specs.Runs as kernel
use Rattle.ps_runs.specs.Runs.{Env, State, Step, Goes, Stops, Run, Ends, ◌>>◌, or_wrong}
use Rattle.ps_runs.specs.Locals.{put_locals, within}
use Rattle.ps_runs.specs.Effects.{take_one, take_call, at_depth, came}
use Rattle.ps_kernel.specs.declared.kernel.Kernel.{Kernel}
use Rattle.ps_meaning.specs.declared.values.RunValue.{RunValue}
use Rattle.ps_meaning.specs.declared.values.RunValue.TheVariants.{Plain, outs-Plain}
use Rattle.ps_meaning.specs.Values.{run_values, seen_of}
use Rattle.ps_meaning.specs.Eval.{operation, either}
use Rattle.ps_plain.specs.Run as plain
use Rattle.ps_plain.specs.declared.program.Operator.{Operator}
use Rattle.ps_plain.specs.declared.program.Operator.TheVariants as operators
use Rattle.ps_plain.specs.declared.program.Comparison.{Comparison}
use Rattle.ps_plain.specs.declared.program.Comparison.TheVariants as comparisons
use Rattle.ps_plain.specs.Meaning.{result_of, holds}
use Rattle.ps_convert.specs.Kernels.{operator, comparison}

-- an integer as a value of the kernel
abbrev pub int : ℤ → RunValue
int i = Plain (value.Integer i)

-- the value of what answers nothing
abbrev pub nothing : Unit {0} → RunValue
nothing u = Plain value.Unit

abbrev pub ints : List ℤ → List RunValue
ints vs = map int vs

-- what a plain value is of first order
pub seen_run : (v : Value) → run_values.seen (Plain v) ≡ Some v
seen_run v = ap seen_of (outs-Plain v)

-- ---- what rows see of integers

one_integer : {R : Type 0} (f : ℤ → R) (x : ℤ) → applied run_values (Integer ∷ []) f (int x ∷ []) ≡ Some (f x)
one_integer f x = ap (λ o. and_takes run_values (and_seen run_values o as_integer) (λ a. applied run_values [] (f a) [])) (seen_run (value.Integer x))

two_integers : {R : Type 0} (f : ℤ → ℤ → R) (x y : ℤ) → applied run_values (Integer ∷ Integer ∷ []) f (int x ∷ int y ∷ []) ≡ Some (f x y)
two_integers f x y =
    ap (λ o. and_takes run_values (and_seen run_values o as_integer) (λ a. applied run_values (Integer ∷ []) (f a) (int y ∷ []))) (seen_run (value.Integer x)) ∙ one_integer (f x) y

module _ (globals : List (Option RunValue)) (env : Env RunValue) where
  -- the state of the kernel's run, and the same without locals
  abbrev pub up : plain.State → State RunValue
  up s = record {
    calls = s.calls;
    cells = None;
    memory = record { fixed = []; made = [] };
    globals = globals;
    locals = env;
    world = s.world;
    events = s.events;
    deepest = s.deepest;
  }

  abbrev pub up_step : {A B : Type 0} → (A → B) → plain.Step A → Step RunValue B
  up_step f (plain.Goes a s) = Goes (f a) (up s)
  up_step f (plain.Stops e s) = Stops (Ends e) (kernel.stopped (up s))

  -- q does in the kernel's run what p does
  pub record Does {A B : Type 0} (f : A → B) (p : plain.Run A) (q : Run RunValue B) : Type 0 where
    pub is : (s : plain.State) → q (up s) ≡ up_step f (p s)

  pub pure_does : {A B : Type 0} (f : A → B) (a : A) → Does f (plain.pure a) (kernel.pure (f a))
  pure_does f a = record { is = λ s. refl }

  pub stop_does : {A B : Type 0} (f : A → B) (e : End) → Does f (plain.stop e) (kernel.stop (Ends e))
  stop_does f e = record { is = λ s. refl }

  pub known_does : {A B : Type 0} (f : A → B) (at : Place) (o : Option A) → Does f (plain.known (Wrong at) o) (or_wrong at (option_map f o))
  known_does f at None = record { is = λ s. refl }
  known_does f at (Some a) = record { is = λ s. refl }

  module _ {A B A' B' : Type 0} (f : A → A') (g : B → B') (h : A → plain.Run B) (h' : A' → Run RunValue B') (next : (a : A) → Does g (h a) (h' (f a))) where
    then_step : (r : plain.Step A) → kernel.and_then (up_step f r) h' ≡ up_step g (plain.and_then r h)
    then_step (plain.Goes a s) = (next a).is s
    then_step (plain.Stops e s) = refl

  pub then_does : {A B A' B' : Type 0} (f : A → A') (g : B → B') {p : plain.Run A} {q : Run RunValue A'} (h : A → plain.Run B) (h' : A' → Run RunValue B') → Does f p q → ((a : A) → Does g (h a) (h' (f a))) → Does g (λ s. plain.and_then (p s) h) (λ s. kernel.and_then (q s) h')
  then_does f g {p} {q} h h' first next = record { is = λ s. ap (λ r. kernel.and_then r h') (first.is s) ∙ then_step f g h h' next (p s) }

  pub take_does : Does {A = Unit {0}} (λ u. u) plain.take_call take_call
  take_does = record { is = λ s. one s.calls s }
    where
      one : (n : ℕ) (s : plain.State) → take_one n (up s) ≡ up_step (λ u. u) (plain.take_one n s)
      one zero s = refl
      one (suc n) s = refl

  pub depth_does : (d : ℕ) → Does {A = Unit {0}} (λ u. u) (plain.at_depth d) (at_depth d)
  depth_does d = record { is = λ s. refl }

  -- ---- primitives

  abbrev scene : plain.State → Scene RunValue
  scene s = record { memory = record { fixed = []; made = [] }; world = s.world }

  -- what comes at a place of what a row does, and answers by a value of a sort
  abbrev comes : (sort : Sort) → Place → Option (Act RunValue (Meant RunValue sort)) → plain.State → Step RunValue RunValue
  comes sort at act s = came at (performed (answered run_values sort) AtRun (at_scene AtRun (scene s) act)) (up s)

  -- what is answered without an effect
  left : (v : RunValue) (s : plain.State) → Goes v (record (up s) { events = s.events ++ [] }) ≡ Goes v (up s)
  left v s = ap (λ es. Goes v (record (up s) { events = es })) (append-nil s.events)

  module _ (k : Kernel) where
    abbrev at_run : Place → PrimName → List RunValue → Run RunValue RunValue
    at_run at name vs = operation k AtRun run_values at name vs

    of_two : (sort : Sort) (f : ℤ → ℤ → Act RunValue (Meant RunValue sort)) (at : Place) (x y : ℤ) (s : plain.State)
        → comes sort at (applied run_values (Integer ∷ Integer ∷ []) f (int x ∷ int y ∷ [])) s ≡ comes sort at (Some (f x y)) s
    of_two sort f at x y s = ap (λ o. comes sort at o s) (two_integers f x y)

    fitted : (at : Place) (i : ℤ) (b : Bool) (s : plain.State) → comes Integer at (Some (answers (if b then Ok i else Err Overflow))) s ≡ up_step int (plain.known (Undefined Overflow at) (if b then Some i else None) s)
    fitted at i true s = left (int i) s
    fitted at i false s = refl

    pub operator_does : (o : Operator) (at : Place) (x y : ℤ) → Does int (plain.known (Undefined Overflow at) (fit (result_of o x y))) (at_run at (operator o) (int x ∷ int y ∷ []))
    operator_does operators.Add at x y = record { is = λ s. of_two Integer (λ i j. answers (fitting Overflow (i +ℤ j))) at x y s ∙ fitted at (x +ℤ y) (is_word (x +ℤ y)) s }
    operator_does operators.Subtract at x y = record { is = λ s. of_two Integer (λ i j. answers (fitting Overflow (i -ℤ j))) at x y s ∙ fitted at (x -ℤ y) (is_word (x -ℤ y)) s }
    operator_does operators.Multiply at x y = record { is = λ s. of_two Integer (λ i j. answers (fitting Overflow (i *ℤ j))) at x y s ∙ fitted at (x *ℤ y) (is_word (x *ℤ y)) s }

    abbrev truth : Bool → RunValue
    truth b = Plain (value.Boolean b)

    comparison_steps : (q : Comparison) (at : Place) (x y : ℤ) (s : plain.State) → at_run at (comparison q) (int x ∷ int y ∷ []) (up s) ≡ Goes (truth (holds q x y)) (up s)
    comparison_steps comparisons.Less at x y s = of_two Boolean (λ i j. gives (int_lt i j)) at x y s ∙ left (truth (int_lt x y)) s
    comparison_steps comparisons.Equal at x y s = of_two Boolean (λ i j. gives (int_eq i j)) at x y s ∙ left (truth (int_eq x y)) s

    either_does : (b : Bool) (p q : plain.Run ℤ) (p' q' : Run RunValue RunValue) → Does int p p' → Does int q q' → Does int (if b then p else q) (either k AtRun run_values b p' q')
    either_does true p q p' q' h i = h
    either_does false p q p' q' h i = i

    -- a comparison, and then the branch that it chooses
    abbrev pub chosen : Place → Run RunValue RunValue → Run RunValue RunValue → RunValue → Run RunValue RunValue
    chosen at p' q' v = λ s. kernel.and_then (or_wrong at (and_seen run_values (run_values.seen v) as_boolean) s) (λ t. either k AtRun run_values t p' q')

    pub choice_does : (c : Comparison) (at place : Place) (x y : ℤ) (p q : plain.Run ℤ) (p' q' : Run RunValue RunValue) → Does int p p' → Does int q q' → Does int (if holds c x y then p else q) (λ s. kernel.and_then (at_run at (comparison c) (int x ∷ int y ∷ []) s) (chosen place p' q'))
    choice_does c at place x y p q p' q' h i = record {
      is = λ s.
          ap (λ r. kernel.and_then r (chosen place p' q')) (comparison_steps c at x y s)
          ∙ ap (λ o. kernel.and_then (or_wrong place (and_seen run_values o as_boolean) (up s)) (λ t. either k AtRun run_values t p' q')) (seen_run (value.Boolean (holds c x y)))
          ∙ (either_does (holds c x y) p q p' q' h i).is s;
    }

    pub read_does : (at : Place) → Does int plain.read_byte (at_run at prims.ReadByte [])
    read_does at = record { is = λ s. refl }

    abbrev written : Place → Option ℤ → plain.State → plain.Step (Unit {0})
    written at o s = plain.and_then (plain.known (Undefined Byte at) o s) (λ b. plain.note (Output b))

    wrote : (at : Place) (n : ℕ) (b : Bool) (s : plain.State)
        → comes Unit' at (Some (λ stage c. and_then (if b then Ok (pos n) else Err Byte) (λ i. Ok (record { answer = tt; memory = c.memory; world = c.world; events = Output i ∷ [] })))) s ≡ up_step nothing (written at (if b then Some (pos n) else None) s)
    wrote at n true s = refl
    wrote at n false s = refl

    write_steps : (at : Place) (x : ℤ) (s : plain.State) → at_run at prims.WriteByte (int x ∷ []) (up s) ≡ up_step nothing (written at (byte_of x) s)
    write_steps at (pos n) s = ap (λ o. comes Unit' at o s) (one_integer (λ i. writes i) (pos n)) ∙ wrote at n (nat_lt n 256) s
    write_steps at (negsuc n) s = ap (λ o. comes Unit' at o s) (one_integer (λ i. writes i) (negsuc n))

    pub write_does : (at : Place) (x : ℤ) → Does nothing (written at (byte_of x)) (at_run at prims.WriteByte (int x ∷ []))
    write_does at x = record { is = write_steps at x }

-- ---- a body that is entered

module _ (globals : List (Option RunValue)) (env inner : Env RunValue) where
  restored : {A B : Type 0} (f : A → B) (r : plain.Step A) → kernel.and_then (up_step globals inner f r) (λ a. put_locals env >> kernel.pure a) ≡ up_step globals env f r
  restored f (plain.Goes a s) = refl
  restored f (plain.Stops e s) = refl

  -- what is done where these are the locals is the same where others stand again behind it
  pub within_does : {A B : Type 0} (f : A → B) (p : plain.Run A) (q : Run RunValue B) → Does globals inner f p q → Does globals env f p (within inner q)
  within_does f p q does = record { is = λ s. ap (λ r. kernel.and_then r (λ a. put_locals env >> kernel.pure a)) (does.is s) ∙ restored f (p s) }
