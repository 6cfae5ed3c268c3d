-- Parts of a run that do the same wherever few enough procedures may still be entered.
-- For: `calls_enter_procedures`
use Rattle.std.proofs.Common.{◌≡◌, ℕ, ℤ, zero, suc, ◌<◌, ◌≤◌, Option, Some, None, refl, ap, ◌∙◌, arith}
use Rattle.std.specs.Prelude.{Bool, true, false, if◌then◌else◌}
use Rattle.byte_store.specs.declared.event.Event.{Event}
use Rattle.byte_store.specs.Outcome.{End}
use Rattle.ps_plain.specs.Run.{State, Step, Goes, Stops, Run, and_then, ◌>>=◌, pure, known, take_one, take_call, at_depth, note, read_byte}
use Rattle.ps_plain.proofs.Related.{Keeps}

-- where a part goes on, fewer than k procedures may still be entered
abbrev Leaves : {A : Type 0} → ℕ → Step A → Type 0
Leaves k (Goes a s) = s.calls < k
Leaves k (Stops e s) = Unit {0}

-- the two do the same where fewer than j procedures may still be entered, and fewer than k may be after them
pub record Same (j k : ℕ) (A : Type 0) (p q : Run A) : Type 0 where
  pub is : (s : State) → s.calls < j → p s ≡ q s
  pub leaves : (s : State) → s.calls < j → Leaves k (q s)

pure_same : {A : Type 0} (k : ℕ) (a : A) → Same k k A (pure a) (pure a)
pure_same k a = record { is = λ s h. refl; leaves = λ s h. h }

pub known_same : {A : Type 0} (k : ℕ) (e : End) (o : Option A) → Same k k A (known e o) (known e o)
known_same k e None = record { is = λ s h. refl; leaves = λ s h. tt }
known_same k e (Some a) = pure_same k a

pub at_depth_same : (k n : ℕ) → Same k k (Unit {0}) (at_depth n) (at_depth n)
at_depth_same k n = record { is = λ s h. refl; leaves = λ s h. h }

note_same : (k : ℕ) (e : Event) → Same k k (Unit {0}) (note e) (note e)
note_same k e = record { is = λ s h. refl; leaves = λ s h. h }

read_same : (k : ℕ) → Same k k ℤ read_byte read_byte
read_same k = record { is = λ s h. refl; leaves = λ s h. h }

if_same : {A : Type 0} (j k : ℕ) (b : Bool) {p q p' q' : Run A} → Same j k A p p' → Same j k A q q' → Same j k A (if b then p else q) (if b then p' else q')
if_same j k true h i = h
if_same j k false h i = i

take_one_leaves : (k n : ℕ) (s : State) → n < suc k → Leaves k (take_one n s)
take_one_leaves k zero s h = tt
take_one_leaves k (suc n) s h = omega arith

-- one procedure fewer may be entered after one was
pub take_call_same : (k : ℕ) → Same (suc k) k (Unit {0}) take_call take_call
take_call_same k = record { is = λ s h. refl; leaves = λ s h. take_one_leaves k s.calls s h }

module _ {A B : Type 0} (j k : ℕ) (f g : A → Run B) (h : (a : A) → Same j k B (f a) (g a)) where
  then_is : (r : Step A) → Leaves j r → and_then r f ≡ and_then r g
  then_is (Goes a s) l = (h a).is s l
  then_is (Stops e s) l = refl

  then_leaves : (r : Step A) → Leaves j r → Leaves k (and_then r g)
  then_leaves (Goes a s) l = (h a).leaves s l
  then_leaves (Stops e s) l = tt

pub then_same : {A B : Type 0} (i j k : ℕ) {p q : Run A} {f g : A → Run B} → Same i j A p q → ((a : A) → Same j k B (f a) (g a)) → Same i k B (p >>= f) (q >>= g)
then_same i j k {p} {q} {f} {g} l h = record {
  is = λ s few. ap (λ r. and_then r f) (l.is s few) ∙ then_is j k f g h (q s) (l.leaves s few);
  leaves = λ s few. then_leaves j k f g h (q s) (l.leaves s few);
}

fewer : {A : Type 0} (j k : ℕ) → j ≤ k → (r : Step A) → Leaves j r → Leaves k r
fewer j k le (Goes a s) l = omega arith
fewer j k le (Stops e s) l = tt

pub looser : {A : Type 0} (i j k : ℕ) {p q : Run A} → j ≤ k → Same i j A p q → Same i k A p q
looser i j k {p} {q} le l = record { is = l.is; leaves = λ s few. fewer j k le (q s) (l.leaves s few) }

pub same_keeps : (k : ℕ) → Keeps (Same k k)
same_keeps k = record {
  pures = λ a. pure_same k a;
  knows = λ e o. known_same k e o;
  notes = λ e. note_same k e;
  reads = read_same k;
  ifs = λ b h i. if_same k k b h i;
  thens = λ l h. then_same k k k l h;
}
