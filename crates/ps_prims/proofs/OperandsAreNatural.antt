-- Operands and answers of values that stand for others, and rows that do the same on them.
-- For: the law that rows are natural
use Rattle.std.proofs.Common.{◌≡◌, List, [], ◌∷◌, map, Option, Some, None, Result, Ok, Err, refl, sym, ap, ◌∙◌, subst}
use Rattle.std.specs.Option.{option_map}
use Rattle.ps_base.specs.declared.faults.Op.{Op}
use Rattle.byte_store.specs.declared.pointer.Value.{Value}
use Rattle.byte_store.specs.declared.pointer.Value.TheVariants as value
use Rattle.byte_store.specs.Mapping.{map_answer}
use Rattle.ps_prims.specs.declared.stages.Stage.{Stage}
use Rattle.ps_prims.specs.declared.sorts.Sort.{Sort}
use Rattle.ps_prims.specs.declared.sorts.Sort.TheVariants.{Integer, Boolean, Char, Unit as Unit', Address, Text, Vector, Record, Any}
use Rattle.ps_prims.specs.Sorts.{Values, Meant, Taking, as_integer, as_boolean, as_char, as_unit, as_address, as_text, as_vector, as_record, and_seen, and_takes, read, answered, applied, collecting}
use Rattle.ps_prims.specs.Rows.{Act, Done, Scene, Row, performed, at_scene, perform_row, seen_at}
use Rattle.ps_prims.specs.Rows as rows
use Rattle.ps_prims.specs.Mapping.{SeenAlike, map_scene, map_done, map_performed}

module _ {A B : Type 0} (f : A → B) (values : Values A) (others : Values B) (alike : SeenAlike f values others) where
  -- what a row sees of an operand of a sort
  abbrev pub meant : (s : Sort) → Meant A s → Meant B s
  meant Integer i = i
  meant Boolean b = b
  meant Char c = c
  meant Unit' u = u
  meant Address p = p
  meant Text p = p
  meant Vector p = p
  meant (Record k) p = p
  meant Any v = f v

  option_self : {X : Type 0} (o : Option X) → o ≡ option_map (λ a. a) o
  option_self None = refl
  option_self (Some a) = refl

  -- what is read of a value
  read_alike : {X : Type 0} (v : A) (g : Value → Option X) → and_seen others (others.seen (f v)) g ≡ option_map (λ a. a) (and_seen values (values.seen v) g)
  read_alike v g = ap (λ o. and_seen others o g) (alike.seen v) ∙ one (values.seen v)
    where
      one : (o : Option Value) → and_seen others o g ≡ option_map (λ a. a) (and_seen values o g)
      one None = refl
      one (Some u) = option_self (g u)

  read_map : (s : Sort) (v : A) → read others s (f v) ≡ option_map (meant s) (read values s v)
  read_map Integer v = read_alike v as_integer
  read_map Boolean v = read_alike v as_boolean
  read_map Char v = read_alike v as_char
  read_map Unit' v = read_alike v as_unit
  read_map Address v = read_alike v as_address
  read_map Text v = read_alike v as_text
  read_map Vector v = read_alike v as_vector
  read_map (Record k) v = read_alike v (as_record k)
  read_map Any v = refl

  pub answered_map : (s : Sort) (x : Meant A s) → answered others s (meant s x) ≡ f (answered values s x)
  answered_map Integer i = alike.of (value.Integer i)
  answered_map Boolean b = alike.of (value.Boolean b)
  answered_map Char c = alike.of (value.Char c)
  answered_map Unit' u = alike.of value.Unit
  answered_map Address p = alike.of (value.Address p)
  answered_map Text p = alike.of (value.Text p)
  answered_map Vector p = alike.of (value.Vector p)
  answered_map (Record k) p = alike.of (value.Tuple k p)
  answered_map Any v = refl

  -- ---- what takes operands

  -- the second of two results stands for the first, for all operands
  abbrev pub Takes : {R S : Type 0} → (R → S → Type 0) → (ss : List Sort) → Taking A ss R → Taking B ss S → Type 0
  Takes Q [] r t = Q r t
  Takes Q (s ∷ ss) r t = (x : Meant A s) → Takes Q ss (r x) (t (meant s x))

  -- the same where there is a result
  abbrev pub Both : {R S : Type 0} → (R → S → Type 0) → Option R → Option S → Type 0
  Both Q None None = Unit {0}
  Both Q None (Some t) = ⊥
  Both Q (Some r) None = ⊥
  Both Q (Some r) (Some t) = Q r t

  pub applied_map : {R S : Type 0} (Q : R → S → Type 0) (ss : List Sort) (r : Taking A ss R) (t : Taking B ss S) → Takes Q ss r t → (vs : List A) → Both Q (applied values ss r vs) (applied others ss t (map f vs))
  applied_map Q [] r t h [] = h
  applied_map Q [] r t h (v ∷ vs) = tt
  applied_map Q (s ∷ ss) r t h [] = tt
  applied_map Q (s ∷ ss) r t h (v ∷ vs) =
      subst (λ o. Both Q (and_takes values (read values s v) (λ x. applied values ss (r x) vs)) (and_takes others o (λ x. applied others ss (t x) (map f vs)))) (sym (read_map s v))
      (go (read values s v) (λ x. applied_map Q ss (r x) (t (meant s x)) (h x) vs))
    where
      go : (o : Option (Meant A s)) → ((x : Meant A s) → Both Q (applied values ss (r x) vs) (applied others ss (t (meant s x)) (map f vs)))
          → Both Q (and_takes values o (λ x. applied values ss (r x) vs)) (and_takes others (option_map (meant s) o) (λ x. applied others ss (t x) (map f vs)))
      go None ih = tt
      go (Some x) ih = ih x

  -- what collects its operands takes f of each
  pub collecting_map : {R S : Type 0} (Q : R → S → Type 0) (ss : List Sort) (r : List A → R) (t : List B → S) → ((vs : List A) → Q (r vs) (t (map f vs))) → Takes Q ss (collecting values ss r) (collecting others ss t)
  collecting_map Q [] r t h = h []
  collecting_map Q (s ∷ ss) r t h = λ x. collecting_map Q ss (λ vs. r (answered values s x ∷ vs)) (λ vs. t (answered others s (meant s x) ∷ vs))
      (λ vs. subst (λ y. Q (r (answered values s x ∷ vs)) (t (y ∷ map f vs))) (sym (answered_map s x)) (h (answered values s x ∷ vs)))

  -- ---- acts

  -- the second act does what the first does, where answers go to these
  pub record Acts {X Y : Type 0} (h : X → Y) (a : Act A X) (b : Act B Y) : Type 0 where
    pub same : (stage : Stage) (s : Scene A) → b stage (map_scene f s) ≡ map_answer (map_done f h) (a stage s)

  module _ {X Y : Type 0} (h : X → Y) (stage : Stage) (s : Scene A) (of : X → A) (of' : Y → B) (e : (x : X) → of' (h x) ≡ f (of x)) where
    done_map : (r : Result (Done A X) Op) → performed of' stage (Some (map_answer (map_done f h) r)) ≡ map_performed f (performed of stage (Some r))
    done_map (Err op) = refl
    done_map (Ok d) = ap (λ v. rows.Answers (record { answer = v; memory = (map_done f h d).memory; world = d.world; events = seen_at stage d.events })) (e d.answer)

    performed_map : (o : Option (Act A X)) (p : Option (Act B Y)) → Both (Acts h) o p → performed of' stage (at_scene stage (map_scene f s) p) ≡ map_performed f (performed of stage (at_scene stage s o))
    performed_map None None both = refl
    performed_map None (Some b) both = absurd both
    performed_map (Some a) None both = absurd both
    performed_map (Some a) (Some b) both = ap (λ r. performed of' stage (Some r)) (both.same stage s) ∙ done_map (a stage s)

  -- a row that does on f of values what it does on the values
  pub row_map : (r : Row A) (does' : Taking B r.operands (Act B (Meant B r.answer))) → Takes (Acts (meant r.answer)) r.operands r.does does' → (vs : List A) (stage : Stage) (s : Scene A)
      → perform_row others (record { operands = r.operands; answer = r.answer; stages = r.stages; does = does' }) (map f vs) stage (map_scene f s) ≡ map_performed f (perform_row values r vs stage s)
  row_map r does' e vs stage s =
      performed_map (meant r.answer) stage s (answered values r.answer) (answered others r.answer) (answered_map r.answer) (applied values r.operands r.does vs) (applied others r.operands does' (map f vs)) (applied_map (Acts (meant r.answer)) r.operands r.does does' e vs)
