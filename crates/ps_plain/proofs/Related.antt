-- A relation of runs that the parts of a run keep is kept by the bodies of procedures, where entering one keeps it.
-- For: `larger_bound_keeps` and `calls_enter_procedures`
use Rattle.std.proofs.Common.{ℕ, ℤ, ◌+◌, List, [], ◌∷◌, map, Option, sym, subst}
use Rattle.std.specs.Prelude.{Bool, if◌then◌else◌}
use Rattle.std.specs.List.{AllByRecursion}
use Rattle.ps_base.specs.declared.faults.Place.{Place}
use Rattle.byte_store.specs.declared.event.Event.{Event}
use Rattle.byte_store.specs.Outcome.{End}
use Rattle.ps_plain.specs.declared.program.Expr.{Expr}
use Rattle.ps_plain.specs.declared.program.Write.{Write}
use Rattle.ps_plain.specs.declared.program.Procedure.{Procedure}
use Rattle.ps_plain.specs.Run.{Run, ◌>>=◌, pure, known, note, read_byte}
use Rattle.ps_plain.specs.Meaning.{Enter, Context, meaning_of, eval, each, write, write_all, body}
use Rattle.ps_plain.proofs.Trees.{induction, fold-integer, fold-parameter, fold-operation, fold-if, fold-call, fold-read}

-- the parts of a run keep a relation
pub record Keeps (R : (A : Type 0) → Run A → Run A → Type 0) : Type 1 where
  pub pures : {A : Type 0} (a : A) → R A (pure a) (pure a)
  pub knows : {A : Type 0} (e : End) (o : Option A) → R A (known e o) (known e o)
  pub notes : (e : Event) → R (Unit {0}) (note e) (note e)
  pub reads : R ℤ read_byte read_byte
  pub ifs : {A : Type 0} (b : Bool) {p q p' q' : Run A} → R A p p' → R A q q' → R A (if b then p else q) (if b then p' else q')
  pub thens : {A B : Type 0} {p q : Run A} {f g : A → Run B} → R A p q → ((a : A) → R B (f a) (g a)) → R B (p >>= f) (q >>= g)

-- entering a procedure by g is related to entering it by f
pub record Enters (R : (A : Type 0) → Run A → Run A → Type 0) (f g : Enter) : Type 0 where
  pub by : (at : Place) (depth n : ℕ) (vs : List ℤ) → R ℤ (f at depth n vs) (g at depth n vs)

module _ (R : (A : Type 0) → Run A → Run A → Type 0) (keeps : Keeps R) (f g : Enter) (enter : Enters R f g) (depth : ℕ) (vs : List ℤ) where
  abbrev with : Enter → Context
  with h = record { enter = h; depth = depth; arguments = vs }

  abbrev IsRelated : Expr → Type 0
  IsRelated e = R ℤ (eval e (with f)) (eval e (with g))

  each_related : (es : List Expr) → AllByRecursion IsRelated es → R (List ℤ) (each (map eval es) (with f)) (each (map eval es) (with g))
  each_related [] all = keeps.pures []
  each_related (e ∷ es) all = keeps.thens all.0 (λ v. keeps.thens (each_related es all.1) (λ us. keeps.pures (v ∷ us)))

  eval_related : (e : Expr) → IsRelated e
  eval_related = induction IsRelated
      (λ p i. subst (λ m. R ℤ (m (with f)) (m (with g))) (sym (fold-integer meaning_of p i)) (keeps.pures i))
      (λ p k. subst (λ m. R ℤ (m (with f)) (m (with g))) (sym (fold-parameter meaning_of p k)) (keeps.knows _ _))
      (λ p o a b ha hb. subst (λ m. R ℤ (m (with f)) (m (with g))) (sym (fold-operation meaning_of p o a b)) (keeps.thens ha (λ x. keeps.thens hb (λ y. keeps.knows _ _))))
      (λ p at q a b t e ha hb ht he. subst (λ m. R ℤ (m (with f)) (m (with g))) (sym (fold-if meaning_of p at q a b t e)) (keeps.thens ha (λ x. keeps.thens hb (λ y. keeps.ifs _ ht he))))
      (λ p at n es all. subst (λ m. R ℤ (m (with f)) (m (with g))) (sym (fold-call meaning_of p at n es)) (keeps.thens (each_related es all) (λ us. enter.by p (depth + 1) n us)))
      (λ p. subst (λ m. R ℤ (m (with f)) (m (with g))) (sym (fold-read meaning_of p)) keeps.reads)

  write_related : (w : Write) → R (Unit {0}) (write w (with f)) (write w (with g))
  write_related w = keeps.thens (eval_related w.value) (λ x. keeps.thens (keeps.knows _ _) (λ b. keeps.notes _))

  writes_related : (ws : List Write) → R (Unit {0}) (write_all ws (with f)) (write_all ws (with g))
  writes_related [] = keeps.pures tt
  writes_related (w ∷ ws) = keeps.thens (write_related w) (λ u. writes_related ws)

  pub body_related : (q : Procedure) → R ℤ (body q (with f)) (body q (with g))
  body_related q = keeps.thens (writes_related q.writes) (λ u. eval_related q.value)
