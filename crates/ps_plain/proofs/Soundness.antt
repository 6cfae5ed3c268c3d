-- Evaluating the parts of a valid program ends neither Wrong nor out of cells.
-- For: `program_is_sound`
use Rattle.std.proofs.Common.{◌≡◌, ℕ, ℤ, zero, suc, ◌+◌, ◌<◌, List, [], ◌∷◌, length, map, Option, Some, None, refl, sym, ap, ◌∙◌, subst}
use Rattle.std.specs.Prelude.{true, if◌then◌else◌, ◌&&◌, nat_lt, slice_get}
use Rattle.std.specs.List.{AllByRecursion}
use Rattle.std.specs.Option.{option_map}
use Rattle.std.proofs.lemmas.List.{length-map}
use Rattle.std.proofs.lemmas.Option.{slice_get-map}
use Rattle.std.proofs.lemmas.Bool.{eq-eqb, ltb-true}
use Rattle.byte_store.specs.Outcome.{Undefined, Wrong}
use Rattle.ps_base.specs.declared.faults.Place.{Place}
use Rattle.ps_base.specs.declared.faults.Op.TheVariants.{Byte}
use Rattle.byte_store.specs.declared.event.Event.TheVariants.{Output}
use Rattle.ps_base.specs.Numbers.{byte_of}
use Rattle.ps_plain.specs.declared.program.Expr.{Expr}
use Rattle.ps_plain.specs.declared.program.Expr.TheOpen.{Expr-F}
use Rattle.ps_plain.specs.declared.program.Operator.{Operator}
use Rattle.ps_plain.specs.declared.program.Comparison.{Comparison}
use Rattle.ps_plain.specs.declared.program.Write.{Write}
use Rattle.ps_plain.specs.declared.program.Procedure.{Procedure}
use Rattle.ps_plain.specs.declared.program.Program.{Program}
use Rattle.ps_plain.specs.Forms.{has_arity}
use Rattle.ps_plain.specs.Valid.{Named, IsProcedure, IsValid, all_true, valid, valid_node, arities_of, named_in}
use Rattle.ps_plain.specs.Run.{known}
use Rattle.ps_plain.specs.Meaning.{Enter, Context, meaning_of, eval, each, write, write_all, body, taking, entering, enters}
use Rattle.ps_plain.proofs.Trees.{induction, fold-integer, fold-parameter, fold-operation, fold-if, fold-call, fold-read}
use Rattle.ps_plain.proofs.Tests.{and_true, all_at, held, arity_known}
use Rattle.ps_plain.proofs.Sound.{Sound, Any, pure_sound, known_sound, note_sound, read_sound, if_sound, at_depth_sound, take_call_sound, then_sound}

-- entering a procedure that is there, with as many operands as it has parameters, ends soundly
pub record SoundEnter (arities : List ℕ) (enter : Enter) : Type 0 where
  pub by : (at : Place) (depth f : ℕ) (vs : List ℤ) → slice_get arities f ≡ Some (length vs) → Sound Any (enter at depth f vs)

module _ (n : Named) (c : Context) (enter : SoundEnter n.procedures c.enter) (same : n.parameters ≡ length c.arguments) where
  abbrev IsSoundHere : Expr → Type 0
  IsSoundHere e = valid n e ≡ true → Sound Any (eval e c)

  -- the values are as many as the parts
  each_sound : (es : List Expr) → AllByRecursion IsSoundHere es → all_true (map (valid n) es) ≡ true → Sound (λ vs. length vs ≡ length es) (each (map eval es) c)
  each_sound [] all h = pure_sound [] refl
  each_sound (e ∷ es) all h =
      let parts = and_true (valid n e) (all_true (map (valid n) es)) h in
      then_sound (all.0 parts.0) (λ v u. then_sound (each_sound es all.1 parts.1) (λ vs l. pure_sound (v ∷ vs) (ap suc l)))

  parameter_sound : (p : Place) (k : ℕ) → nat_lt k n.parameters ≡ true → Sound Any (meaning_of (Expr-F.Parameter p k) c)
  parameter_sound p k h =
      let there = held c.arguments k (subst (λ m. k < m) same (ltb-true k n.parameters h)) in
      subst (λ o. Sound Any (known (Wrong p) o)) (sym there.1) (pure_sound there.0 tt)

  call_sound : (p at : Place) (f : ℕ) (es : List Expr) → AllByRecursion IsSoundHere es → valid_node n (Expr-F.Call p at f (map (valid n) es)) ≡ true → Sound Any (meaning_of (Expr-F.Call p at f (map eval es)) c)
  call_sound p at f es all h =
      let parts = and_true (has_arity (length (map (valid n) es)) (slice_get n.procedures f)) (all_true (map (valid n) es)) h in
      let arity = arity_known (length (map (valid n) es)) (slice_get n.procedures f) parts.0 in
      then_sound (each_sound es all parts.1) (λ vs l. enter.by p (c.depth + 1) f vs (arity ∙ ap (λ m. Some m) (length-map es (valid n) ∙ sym l)))

  operation_sound : (p : Place) (o : Operator) (a b : Expr) → IsSoundHere a → IsSoundHere b → (valid n a && valid n b) ≡ true → Sound Any (meaning_of (Expr-F.Operation p o (eval a) (eval b)) c)
  operation_sound p o a b ha hb h =
      let parts = and_true (valid n a) (valid n b) h in
      then_sound (ha parts.0) (λ x u. then_sound (hb parts.1) (λ y v. known_sound _ _ tt))

  if_node_sound : (p at : Place) (q : Comparison) (a b t e : Expr) → IsSoundHere a → IsSoundHere b → IsSoundHere t → IsSoundHere e → (valid n a && valid n b && valid n t && valid n e) ≡ true → Sound Any (meaning_of (Expr-F.If p at q (eval a) (eval b) (eval t) (eval e)) c)
  if_node_sound p at q a b t e ha hb ht he h =
      let last = and_true (valid n a && valid n b && valid n t) (valid n e) h in
      let third = and_true (valid n a && valid n b) (valid n t) last.0 in
      let first = and_true (valid n a) (valid n b) third.0 in
      then_sound (ha first.0) (λ x u. then_sound (hb first.1) (λ y v. if_sound _ (ht third.1) (he last.1)))

  eval_sound : (e : Expr) → IsSoundHere e
  eval_sound = induction IsSoundHere
      (λ p i h. subst (λ m. Sound Any (m c)) (sym (fold-integer meaning_of p i)) (pure_sound i tt))
      (λ p k h. subst (λ m. Sound Any (m c)) (sym (fold-parameter meaning_of p k)) (parameter_sound p k (sym (fold-parameter (valid_node n) p k) ∙ h)))
      (λ p o a b ha hb h. subst (λ m. Sound Any (m c)) (sym (fold-operation meaning_of p o a b)) (operation_sound p o a b ha hb (sym (fold-operation (valid_node n) p o a b) ∙ h)))
      (λ p at q a b t e ha hb ht he h. subst (λ m. Sound Any (m c)) (sym (fold-if meaning_of p at q a b t e)) (if_node_sound p at q a b t e ha hb ht he (sym (fold-if (valid_node n) p at q a b t e) ∙ h)))
      (λ p at f es all h. subst (λ m. Sound Any (m c)) (sym (fold-call meaning_of p at f es)) (call_sound p at f es all (sym (fold-call (valid_node n) p at f es) ∙ h)))
      (λ p h. subst (λ m. Sound Any (m c)) (sym (fold-read meaning_of p)) read_sound)

  write_sound : (w : Write) → valid n w.value ≡ true → Sound Any (write w c)
  write_sound w h = then_sound (eval_sound w.value h) (λ x u. then_sound (known_sound (Undefined Byte w.place) (byte_of x) tt) (λ b v. note_sound (Output b)))

  writes_sound : (ws : List Write) → AllByRecursion (λ (w : Write). valid n w.value ≡ true) ws → Sound Any (write_all ws c)
  writes_sound [] all = pure_sound tt tt
  writes_sound (w ∷ ws) all = then_sound (write_sound w all.0) (λ u v. writes_sound ws all.1)

  body_sound : (q : Procedure) → AllByRecursion (λ (w : Write). valid n w.value ≡ true) q.writes → valid n q.value ≡ true → Sound Any (body q c)
  body_sound q writes value = then_sound (writes_sound q.writes writes) (λ u v. eval_sound q.value value)

module _ (p : Program) (is_valid : IsValid p) where
  -- the procedure that a number and a number of operands stand for
  record Found (f n : ℕ) : Type 0 where
    procedure : Procedure
    is : taking n (slice_get p.procedures f) ≡ Some procedure
    takes : procedure.parameters ≡ n
    whole : IsProcedure (arities_of p) procedure

  found_by : (f n : ℕ) (o : Option Procedure) → slice_get p.procedures f ≡ o → option_map (λ q. q.parameters) o ≡ Some n → Found f n
  found_by f n None at h = cc
  found_by f n (Some q) at h =
      let takes : q.parameters ≡ n = cc in
      record {
        procedure = q;
        is = ap (taking n) at ∙ ap (λ t. if t then Some q else None) (eq-eqb q.parameters n takes);
        takes = takes;
        whole = all_at (IsProcedure (arities_of p)) p.procedures f q is_valid.procedures at;
      }

  found : (f n : ℕ) → slice_get (arities_of p) f ≡ Some n → Found f n
  found f n h = found_by f n (slice_get p.procedures f) refl (sym (slice_get-map (λ q. q.parameters) p.procedures f) ∙ h)

  known_found : (at : Place) (f n : ℕ) (q : Found f n) → Sound (λ z. z ≡ q.procedure) (known (Wrong at) (taking n (slice_get p.procedures f)))
  known_found at f n q = subst (λ o. Sound (λ z. z ≡ q.procedure) (known (Wrong at) o)) (sym q.is) (pure_sound q.procedure refl)

  found_sound : (enter : Enter) → SoundEnter (arities_of p) enter → (depth f : ℕ) (vs : List ℤ) (q : Found f (length vs)) → Sound Any (body q.procedure (record { enter = enter; depth = depth; arguments = vs }))
  found_sound enter sound depth f vs q = body_sound (named_in (arities_of p) q.procedure) (record { enter = enter; depth = depth; arguments = vs }) sound q.takes q.procedure q.whole.writes q.whole.value

  entering_sound : (enter : Enter) → SoundEnter (arities_of p) enter → SoundEnter (arities_of p) (entering p enter)
  entering_sound enter sound = record { by = one }
    where
      one : (at : Place) (depth f : ℕ) (vs : List ℤ) → slice_get (arities_of p) f ≡ Some (length vs) → Sound Any (entering p enter at depth f vs)
      one at depth f vs h =
          let q = found f (length vs) h in
          then_sound (known_found at f (length vs) q) (λ z same. then_sound take_call_sound (λ u t. then_sound (at_depth_sound depth) (λ v t'. subst (λ z'. Sound Any (body z' (record { enter = enter; depth = depth; arguments = vs }))) (sym same) (found_sound enter sound depth f vs q))))

  pub enters_sound : (n : ℕ) → SoundEnter (arities_of p) (enters p n)
  enters_sound zero = entering_sound _ (record { by = λ at depth f vs h. record { ends = λ s. tt } })
  enters_sound (suc n) = entering_sound (enters p n) (enters_sound n)
