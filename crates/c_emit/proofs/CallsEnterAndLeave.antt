-- The machine follows the source into a procedure, and back.
-- For: build
use Rattle.std.proofs.Common.{◌≡◌, ◌≢◌, ℕ, ℤ, zero, suc, ◌+◌, ◌<◌, ◌≤◌, List, [], ◌∷◌, ◌++◌, length, map, true, Option, Some, None, refl, sym, ap, ◌∙◌, subst, arith, get_or, length-append}
use Rattle.std.specs.Prelude.{slice_get, slice_set, nat_eq, max, if◌then◌else◌}
use Rattle.std.specs.Option.{option_map}
use Rattle.std.specs.List.{AllByRecursion}
use Rattle.std.proofs.lemmas.Option.{slice_get-map}
use Rattle.std.proofs.lemmas.List.{length-set, length-replicate, get_or-set_same, get_or-set_other}
use Rattle.std.proofs.Math.Nat.{le-max_left, le-max_right}
use Rattle.ps_base.specs.declared.faults.Place.{Place}
use Rattle.ps_base.specs.declared.faults.Op.TheVariants.{Unset}
use Rattle.byte_store.specs.Outcome.{Running, Wrong}
use Rattle.byte_store.specs.Machine.{Goes as Moves}
use Rattle.ps_plain.specs.declared.program.Procedure.{Procedure}
use Rattle.ps_plain.specs.declared.program.Program.{Program}
use Rattle.ps_plain.specs.Run as source
use Rattle.ps_plain.specs.Run.{Step, Goes, Stops, and_then, known, take_one, at_depth}
use Rattle.ps_plain.specs.Meaning.{Enter, Context, body, taking, entering, enters}
use Rattle.ps_plain.specs.Valid.{arities_of, named_in, IsProcedure, IsValid}
use Rattle.c_ast.specs.declared.unit.Atom.TheVariants as atoms
use Rattle.c_ast.specs.declared.unit.Statement.{Statement}
use Rattle.c_ast.specs.declared.unit.Statement.TheVariants as statements
use Rattle.c_meaning.specs.Machine.{Locals, Caller, State, values_of, with_value, unset, enter, leave, body_of, statements_of as body_in, step_at, machine}
use Rattle.c_emit.specs.InsideCode.{coded, writes_size, statements_of, function_of, unit_of}
use Rattle.c_emit.proofs.MachineFollows.{Meets, Leads, leads-step, leads-silent, Does, Comes, does-after, does-running, does-then}
use Rattle.c_emit.proofs.SimpleExpressionsAreCorrect.{Valued, EnterOk, At}
use Rattle.c_emit.proofs.BodiesAreCorrect.{value_at, return_left, body-does}

-- ---- what stands at a number

all-at : {A : Type 0} (P : A → Type 0) (xs : List A) (i : ℕ) (x : A) → AllByRecursion P xs → slice_get xs i ≡ Some x → P x
all-at P [] i x hs e = absurd (let clash : None ≡ Some x = e in cc)
all-at P (y ∷ xs) zero x hs e = let same : y ≡ x = cc in subst P same hs.0
all-at P (y ∷ xs) (suc i) x hs e = all-at P xs i x hs.1 e

mapped-at : (o : Option Procedure) (m : ℕ) → option_map (λ (q : Procedure). q.parameters) o ≡ Some m → (q : Procedure) × (o ≡ Some q) × (q.parameters ≡ m)
mapped-at None m e = absurd (let clash : None ≡ Some m = e in cc)
mapped-at (Some q) m e = (q, refl, (let h : Some q.parameters ≡ Some m = e in cc))

-- the procedure of a number for which there is a number of parameters
pub procedure-at : (p : Program) (f m : ℕ) → slice_get (arities_of p) f ≡ Some m → (q : Procedure) × (slice_get p.procedures f ≡ Some q) × (q.parameters ≡ m)
procedure-at p f m e = mapped-at (slice_get p.procedures f) m (sym (slice_get-map (λ (q : Procedure). q.parameters) p.procedures f) ∙ e)

-- its function
pub function-at : (p : Program) (f : ℕ) (q : Procedure) → slice_get p.procedures f ≡ Some q → slice_get (unit_of p).functions f ≡ Some (function_of q)
function-at p f q e = slice_get-map function_of p.procedures f ∙ ap (option_map function_of) e

pub body-at : (p : Program) (f : ℕ) (q : Procedure) → slice_get p.procedures f ≡ Some q → body_of (unit_of p) f ≡ statements_of q
body-at p f q e = ap body_in (function-at p f q e)

pub valid-at : (p : Program) (f : ℕ) (q : Procedure) → IsValid p → slice_get p.procedures f ≡ Some q → IsProcedure (arities_of p) q
valid-at p f q v e = all-at (IsProcedure (arities_of p)) p.procedures f q v.procedures e

taking-is : (q : Procedure) (m : ℕ) → q.parameters ≡ m → taking m (Some q) ≡ Some q
taking-is q m e = let same : nat_eq q.parameters m ≡ true = grind (arith, e) in ap (λ b. if b then Some q else None) same

-- the procedure takes so many operands
pub taken : (p : Program) (f m : ℕ) (q : Procedure) → slice_get p.procedures f ≡ Some q → q.parameters ≡ m → taking m (slice_get p.procedures f) ≡ Some q
taken p f m q e count = ap (taking m) e ∙ taking-is q m count

-- ---- the variables of a frame

length-mapped : {A B : Type 0} (g : A → B) (xs : List A) → length (map g xs) ≡ length xs
length-mapped g [] = refl
length-mapped g (x ∷ xs) = ap suc (length-mapped g xs)

arguments-given : (vs : List ℤ) (others : Locals) (i : ℕ) (v : ℤ) → slice_get vs i ≡ Some v → get_or (map Some vs ++ others) i None ≡ Some v
arguments-given [] others i v e = absurd (let clash : None ≡ Some v = e in cc)
arguments-given (w ∷ vs) others zero v e = e
arguments-given (w ∷ vs) others (suc i) v e = arguments-given vs others i v e

-- ---- a call

module _ (p : Program) (is_valid : IsValid p) (fuel : ℕ) (go : Enter) (place : Place) (f : ℕ) (vs : List ℤ) (s : State) (σ : source.State) (k target : ℕ) (ks : List ℕ) (rest : List Statement)
    (q : Procedure) (is : slice_get p.procedures f ≡ Some q) (count : q.parameters ≡ length vs)
    (left : s.left ≡ statements.Call target f ks ∷ rest) (values : values_of s.locals ks ≡ Some vs) (lt : target < length s.locals) (le : k ≤ target) (meets : Meets s σ) where
  -- the frame that is left, and the state behind the step of the call
  abbrev waiting : Caller
  waiting = record { function = s.function; locals = s.locals; left = rest; target = target }

  abbrev called : State
  called = record s { function = f; locals = map Some vs ++ unset (function_of q).locals; left = statements_of q; callers = waiting ∷ s.callers }

  call-step : (machine (unit_of p)).step s ≡ Moves called
  call-step =
      ap (step_at (unit_of p) s) left
      ∙ ap (λ o. with_value Unset o (λ ws. enter s rest target f ws (slice_get (unit_of p).functions f))) values
      ∙ ap (enter s rest target f vs) (function-at p f q is)

  -- the source's state behind the entering
  abbrev entered : ℕ → source.State
  entered c = record σ { calls = c; deepest = max σ.deepest (length s.callers + 1) }

  deep : length s.callers + 1 ≤ max σ.deepest (length s.callers + 1)
  deep = le-max_right σ.deepest (length s.callers + 1)

  higher : σ.deepest ≤ max σ.deepest (length s.callers + 1)
  higher = le-max_left σ.deepest (length s.callers + 1)

  leads-in : (c : ℕ) → σ.calls ≡ suc c → Leads (unit_of p) s σ called (entered c)
  leads-in c e = leads-step (unit_of p) s called σ (entered c) call-step meets.low higher (omega arith) (omega arith)

  abbrev inner : Context
  inner = record { enter = go; depth = length s.callers + 1; arguments = vs }

  at-body : (c : ℕ) → EnterOk (unit_of p) (arities_of p) fuel go → c ≤ fuel → At (unit_of p) (named_in (arities_of p) q) fuel inner called (entered c)
  at-body c ok enough = record {
    enters = ok;
    enough = enough;
    meets = record { world = meets.world; events = meets.events; low = let d = deep in omega arith };
    depth = omega arith;
    count = sym count;
    given = λ i v e. arguments-given vs (unset (function_of q).locals) i v e;
  }

  -- the step back
  module _ (v : ℤ) (τ : source.State) (t : State) (g : Valued called q.parameters ((coded q.value).atom (value_at q)) (return_left q) v τ t) where
    abbrev back : State
    back = record t { function = s.function; locals = slice_set s.locals target (Some v); left = rest; callers = s.callers }

    back-step : (machine (unit_of p)).step t ≡ Moves back
    back-step =
        ap (step_at (unit_of p) t) g.left
        ∙ ap (λ o. with_value Unset o (λ i. leave t t.callers i)) g.value
        ∙ ap (λ cs. leave t cs v) g.keeps.callers

    low-back : length s.callers + 1 ≤ τ.deepest
    low-back = let l = g.meets.low in let c = ap length g.keeps.callers in omega arith

    returns : Comes (unit_of p) t τ (Valued s k (atoms.Variable target) rest) v τ
    returns = record {
      after = back;
      leads = leads-silent (unit_of p) t back τ back-step g.meets.low;
      there = record {
        meets = record { world = g.meets.world; events = g.meets.events; low = let l = low-back in omega arith };
        keeps = record {
          function = refl;
          callers = refl;
          size = length-set s.locals target (Some v);
          same = record { at = λ i il. (let other : i ≢ target = omega arith in get_or-set_other s.locals target i (Some v) None other) };
        };
        left = refl;
        value = get_or-set_same s.locals target (Some v) None lt;
      };
    }

  room : q.parameters + (writes_size q.writes + (coded q.value).size) ≤ length called.locals
  room =
      let whole = length-append (map Some vs) (unset (function_of q).locals) in
      let front = length-mapped Some vs in
      let others = length-replicate {A = Option ℤ} (function_of q).locals None in
      omega arith

  -- the body, and back
  through : (c : ℕ) → EnterOk (unit_of p) (arities_of p) fuel go → c ≤ fuel → Does (unit_of p) called (entered c) (Valued s k (atoms.Variable target) rest) (body q inner (entered c))
  through c ok enough =
      let v = valid-at p f q is_valid is in
      does-then (unit_of p) (Valued called q.parameters ((coded q.value).atom (value_at q)) (return_left q)) (Valued s k (atoms.Variable target) rest) called (entered c) (body q inner (entered c))
      (body-does (named_in (arities_of p) q) q refl v.writes v.value (unit_of p) fuel inner called (entered c) (at-body c ok enough) (body-at p f q is) refl room)
      (λ w τ t leads g. returns w τ t g)

  abbrev T : ℤ → source.State → State → Type 0
  T = Valued s k (atoms.Variable target) rest

  -- a call is left, or none is
  by-calls : (calls : ℕ) → σ.calls ≡ calls → ((c : ℕ) → σ.calls ≡ suc c → EnterOk (unit_of p) (arities_of p) fuel go × (c ≤ fuel))
      → Does (unit_of p) s σ T (and_then (take_one calls σ) (λ d τ. and_then (at_depth (length s.callers + 1) τ) (λ d. body q inner)))
  by-calls zero e ok = does-running (unit_of p) T s σ e meets
  by-calls (suc c) e ok = does-after (unit_of p) T s called σ (entered c) (body q inner (entered c)) (leads-in c e) (through c (ok c e).0 (ok c e).1)

  pub call-does : ((c : ℕ) → σ.calls ≡ suc c → EnterOk (unit_of p) (arities_of p) fuel go × (c ≤ fuel)) → Does (unit_of p) s σ T (entering p go place (length s.callers + 1) f vs σ)
  call-does ok =
      subst (λ o. Does (unit_of p) s σ T (and_then (known (Wrong place) o σ) (λ x τ. and_then (take_one τ.calls τ) (λ d υ. and_then (at_depth (length s.callers + 1) υ) (λ d. body x inner)))))
      (sym (taken p f (length vs) q is count)) (by-calls σ.calls refl ok)

-- to enter a procedure of the source does what the machine does, as long as the recursion of the definition has turns for
-- all calls that are left
pub enters-ok : (p : Program) → IsValid p → (n : ℕ) → EnterOk (unit_of p) (arities_of p) n (enters p n)
enters-ok p is_valid zero = record {
  by = λ place f vs s σ k target ks rest enough arity left values lt le meets.
      let q = procedure-at p f (length vs) arity in
      call-does p is_valid 0 (λ at d g ws. source.stop Running) place f vs s σ k target ks rest q.0 q.1 q.2 left values lt le meets (λ c e. absurd (omega arith));
}
enters-ok p is_valid (suc n) = record {
  by = λ place f vs s σ k target ks rest enough arity left values lt le meets.
      let q = procedure-at p f (length vs) arity in
      call-does p is_valid n (enters p n) place f vs s σ k target ks rest q.0 q.1 q.2 left values lt le meets (λ c e. (enters-ok p is_valid n, omega arith));
}
