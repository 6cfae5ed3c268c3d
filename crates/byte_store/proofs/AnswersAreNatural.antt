-- What goes on with an answer goes on with what the answer becomes.
-- For: operations_are_natural, and the rows of the primitives
use Rattle.std.proofs.Common.{◌≡◌, Bool, true, false, Option, Some, None, Result, Ok, Err, refl}
use Rattle.std.specs.Prelude.{if◌then◌else◌}
use Rattle.std.specs.Option.{option_map}
use Rattle.ps_base.specs.declared.faults.Op.{Op}
use Rattle.byte_store.specs.Operations.{and_then, inside, set}
use Rattle.byte_store.specs.Mapping.{map_answer}

pub answer_stays : {X : Type 0} (r : Result X Op) → map_answer (λ x. x) r ≡ r
answer_stays (Ok x) = refl
answer_stays (Err op) = refl

pub goes_on_map : {A B X Y : Type 0} (h : A → B) (k : X → Y) (f : A → Result X Op) (g : B → Result Y Op) → ((a : A) → g (h a) ≡ map_answer k (f a)) → (r : Result A Op) → and_then (map_answer h r) g ≡ map_answer k (and_then r f)
goes_on_map h k f g e (Ok a) = e a
goes_on_map h k f g e (Err op) = refl

-- the same of an answer that is the same
pub goes_on_same : {A X Y : Type 0} (k : X → Y) (f : A → Result X Op) (g : A → Result Y Op) → ((a : A) → g a ≡ map_answer k (f a)) → (r : Result A Op) → and_then r g ≡ map_answer k (and_then r f)
goes_on_same k f g e (Ok a) = e a
goes_on_same k f g e (Err op) = refl

pub inside_map : {A B : Type 0} (h : A → B) (o : Option A) → inside (option_map h o) ≡ map_answer h (inside o)
inside_map h None = refl
inside_map h (Some a) = refl

pub set_map : {A B : Type 0} (h : A → B) (o : Option A) → set (option_map h o) ≡ map_answer h (set o)
set_map h None = refl
set_map h (Some a) = refl

pub either_option_map : {A B : Type 0} (h : A → B) (b : Bool) (o p : Option A) → (if b then option_map h o else option_map h p) ≡ option_map h (if b then o else p)
either_option_map h true o p = refl
either_option_map h false o p = refl

pub either_map : {A B : Type 0} (h : A → B) (b : Bool) (r q : Result A Op) → (if b then map_answer h r else map_answer h q) ≡ map_answer h (if b then r else q)
either_map h true r q = refl
either_map h false r q = refl
