-- Where options hold something, and where there is no fault, as tests; and conjunctions in another order.
-- For: `faults_tell_programs`
use Rattle.std.proofs.Common.{◌≡◌, List, Option, Some, None, refl, ap, ◌∙◌}
use Rattle.std.specs.Prelude.{Bool, true, false, not, ◌&&◌, if◌then◌else◌, is_some}
use Rattle.ps_base.specs.declared.faults.Place.{Place}
use Rattle.ps_plain.specs.Forms.{and_also}
use Rattle.ps_plain.specs.Faults.{or_else}

-- there is no fault
abbrev pub is_clear : Option Place → Bool
is_clear None = true
is_clear (Some p) = false

pub clear_none : (o : Option Place) → is_clear o ≡ true → o ≡ None
clear_none None h = refl
clear_none (Some p) h = cc

pub clear_both : (a b : Option Place) → is_clear (or_else a b) ≡ (is_clear a && is_clear b)
clear_both None b = refl
clear_both (Some p) b = refl

pub clear_unless : (b : Bool) (p : Place) (o : Option Place) → is_clear (if b then Some p else o) ≡ (not b && is_clear o)
clear_unless true p o = refl
clear_unless false p o = refl

pub clear_where : (b : Bool) (p : Place) (o : Option Place) → is_clear (if b then o else Some p) ≡ (b && is_clear o)
clear_where true p o = refl
clear_where false p o = refl

pub both_hold : {A : Type 0} (x : Option A) (xs : Option (List A)) → is_some (and_also x xs) ≡ (is_some x && is_some xs)
both_hold None xs = refl
both_hold (Some x) None = refl
both_hold (Some x) (Some xs) = refl

-- what an option holds
pub held : {A : Type 0} (o : Option A) → is_some o ≡ true → (x : A) × (o ≡ Some x)
held None h = cc
held (Some x) h = (x, refl)

pub some_where : {A : Type 0} (x : A) (b : Bool) → is_some (if b then Some x else None) ≡ b
some_where x true = refl
some_where x false = refl

-- ---- conjunctions

pub and_by : {a b c d : Bool} → a ≡ b → c ≡ d → (a && c) ≡ (b && d)
and_by {a = a} {b = b} {c = c} {d = d} e f = ap (λ (x : Bool). x && c) e ∙ ap (λ (x : Bool). b && x) f

pub and_false : (a : Bool) → (a && false) ≡ false
and_false true = refl
and_false false = refl

pub across : (a b c d : Bool) → ((a && b) && (c && d)) ≡ ((a && c) && (b && d))
across false b c d = refl
across true true c d = refl
across true false true d = refl
across true false false d = refl

pub inward : (a b c : Bool) → (a && (b && c)) ≡ (b && (a && c))
inward true b c = refl
inward false true c = refl
inward false false c = refl

pub last_inward : (a b c : Bool) → ((a && b) && c) ≡ (a && (c && b))
last_inward false b c = refl
last_inward true true true = refl
last_inward true true false = refl
last_inward true false true = refl
last_inward true false false = refl
