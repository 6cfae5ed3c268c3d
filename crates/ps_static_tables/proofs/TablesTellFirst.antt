-- A table that is made from the last to the first says what the first says.
-- For: the functions of `tables`
use Rattle.std.proofs.Common.{◌≡◌, ℕ, zero, suc, ◌+◌, ◌<◌, ◌≤◌, ◌==◌, Bool, true, false, List, [], ◌∷◌, ◌++◌, length, take, get_or, Option, Some, None, refl, sym, ap, ◌∙◌, arith}
use Rattle.std.specs.Prelude.{slice_get, slice_set, if◌then◌else◌}
use Rattle.std.specs.Option.{option_map}
use Rattle.ps_kernel.specs.declared.expr.Expr.{Expr}
use Rattle.ps_kernel.specs.declared.expr.GroupEntry.{GroupEntry}
use Rattle.ps_kernel.specs.declared.kernel.Form.{Form}
use Rattle.ps_kernel.specs.declared.kernel.Form.TheVariants.{Define, Do}
use Rattle.ps_kernel.specs.declared.kernel.Kernel.{Kernel}
use Rattle.ps_kernel.specs.Texts.{defined_by, lambda_in, text}
use Rattle.ps_runs.specs.Effects.{value_in}
use Rattle.ps_meaning.specs.Eval.{letrec_lambda}
use Rattle.ps_static_tables.specs.InsideTexts.{entry_among, told}
use Rattle.ps_static_tables.specs.InsideTables.{lambda_among, defined_among, lambda_for}
use Rattle.ps_static_tables.proofs.Lists.{get_any, take_more}
use Rattle.ps_static_tables.proofs.TextsAreTold.{entry_is_told}

-- ---- one number more

room_more : (xs : List (Option ℕ)) (m : ℕ) → value_in (slice_get (xs ++ None ∷ []) m) ≡ value_in (slice_get xs m)
room_more [] zero = refl
room_more [] (suc m) = refl
room_more (x ∷ xs) zero = refl
room_more (x ∷ xs) (suc m) = room_more xs m

pub more_room : (xs new : List (Option ℕ)) (m : ℕ) → new ≡ xs ++ None ∷ [] → value_in (slice_get new m) ≡ value_in (slice_get xs m)
more_room xs new m is = ap (λ z. value_in (slice_get z m)) is ∙ room_more xs m

same_eq : (n : ℕ) → (n == n) ≡ true
same_eq n = grind arith

put_in : (xs : List (Option ℕ)) (n m : ℕ) (l : Option ℕ) → n < length xs → value_in (slice_get (slice_set xs n l) m) ≡ lambda_for n l m (value_in (slice_get xs m))
put_in [] n m l lt = absurd (omega (arith, lt))
put_in (x ∷ xs) zero zero (Some l) lt = refl
put_in (x ∷ xs) zero zero None lt = refl
put_in (x ∷ xs) zero (suc m) l lt = ap (λ z. if z then l else value_in (slice_get xs m)) (apart m)
  where
    apart : (m : ℕ) → false ≡ (suc m == 0)
    apart m = grind arith
put_in (x ∷ xs) (suc n) zero l lt = ap (λ z. if z then l else x) (apart n)
  where
    apart : (n : ℕ) → false ≡ (0 == suc n)
    apart n = grind arith
put_in (x ∷ xs) (suc n) (suc m) l lt = put_in xs n m l (omega (arith, lt)) ∙ ap (λ z. if z then l else value_in (slice_get xs m)) (less m n)
  where
    less : (m n : ℕ) → (m == n) ≡ (suc m == suc n)
    less m n = grind arith

pub puts : (old mid new : List (Option ℕ)) (n m : ℕ) (l : Option ℕ) → ((m : ℕ) → value_in (slice_get mid m) ≡ value_in (slice_get old m)) → n < length mid → new ≡ slice_set mid n l
    → value_in (slice_get new m) ≡ lambda_for n l m (value_in (slice_get old m))
puts old mid new n m l same lt is = ap (λ z. value_in (slice_get z m)) is ∙ put_in mid n m l lt ∙ ap (lambda_for n l m) (same m)

-- ---- from the last to the first

among_last : (x : ℕ) (es : List GroupEntry) (e : GroupEntry) (o : Option ℕ) → lambda_among x (es ++ e ∷ []) o ≡ lambda_among x es (lambda_for e.local (Some e.lambda) x o)
among_last x [] e o = refl
among_last x (d ∷ es) e o = ap (λ z. if x == d.local then Some d.lambda else z) (among_last x es e o)

entry_less : (x : ℕ) (es : List GroupEntry) (i j : ℕ) (e : GroupEntry) (o new : Option ℕ) → i ≡ j + 1 → i ≤ length es → e ≡ get_or es j e → new ≡ lambda_for e.local (Some e.lambda) x o
    → lambda_among x (take j es) new ≡ lambda_among x (take i es) o
entry_less x es i j e o new is le here now =
    ap (lambda_among x (take j es)) now
    ∙ sym (among_last x (take j es) e o)
    ∙ ap (λ z. lambda_among x (take j es ++ z ∷ []) o) here
    ∙ ap (λ z. lambda_among x z o) (sym (take_more es j e (omega (arith, is, le))))
    ∙ ap (λ z. lambda_among x (take z es) o) (sym is)

pub entry_more : (x : ℕ) (es : List GroupEntry) (i j : ℕ) (d : GroupEntry) (o new : Option ℕ) → i ≡ j + 1 → i ≤ length es → new ≡ lambda_for (get_or es j d).local (Some (get_or es j d).lambda) x o
    → lambda_among x (take j es) new ≡ lambda_among x (take i es) o
entry_more x es i j d o new is le now = entry_less x es i j (get_or es j d) o new is le (get_any es j d (get_or es j d) (omega (arith, is, le))) now

defined_last : (g : ℕ) (fs : List Form) (d : ℕ) (e : Expr) (o : Option ℕ) → defined_among g (fs ++ Define d e ∷ []) o ≡ defined_among g fs (lambda_for d (lambda_in e) g o)
defined_last g [] d e o = refl
defined_last g (Define c a ∷ fs) d e o = ap (λ z. if g == c then lambda_in a else z) (defined_last g fs d e o)
defined_last g (Do a ∷ fs) d e o = defined_last g fs d e o

done_last : (g : ℕ) (fs : List Form) (e : Expr) (o : Option ℕ) → defined_among g (fs ++ Do e ∷ []) o ≡ defined_among g fs o
done_last g [] e o = refl
done_last g (Define c a ∷ fs) e o = ap (λ z. if g == c then lambda_in a else z) (done_last g fs e o)
done_last g (Do a ∷ fs) e o = done_last g fs e o

form_taken : (fs : List Form) (i j : ℕ) (f : Form) → i ≡ j + 1 → i ≤ length fs → f ≡ get_or fs j f → take i fs ≡ take j fs ++ f ∷ []
form_taken fs i j f is le here = ap (λ z. take z fs) is ∙ take_more fs j f (omega (arith, is, le)) ∙ ap (λ z. take j fs ++ z ∷ []) (sym here)

pub define_more : (g : ℕ) (fs : List Form) (i j : ℕ) (f : Form) (d : ℕ) (e : Expr) (l o new : Option ℕ) → i ≡ j + 1 → i ≤ length fs → f ≡ get_or fs j f → f ≡ Define d e → l ≡ lambda_in e → new ≡ lambda_for d l g o
    → defined_among g (take j fs) new ≡ defined_among g (take i fs) o
define_more g fs i j f d e l o new is le here defines by now =
    ap (defined_among g (take j fs)) (now ∙ ap (λ z. lambda_for d z g o) by)
    ∙ sym (defined_last g (take j fs) d e o)
    ∙ ap (λ z. defined_among g (take j fs ++ z ∷ []) o) (sym defines)
    ∙ ap (λ z. defined_among g z o) (sym (form_taken fs i j f is le here))

pub do_more : (g : ℕ) (fs : List Form) (i j : ℕ) (f : Form) (e : Expr) (o : Option ℕ) → i ≡ j + 1 → i ≤ length fs → f ≡ get_or fs j f → f ≡ Do e
    → defined_among g (take j fs) o ≡ defined_among g (take i fs) o
do_more g fs i j f e o is le here does =
    sym (done_last g (take j fs) e o)
    ∙ ap (λ z. defined_among g (take j fs ++ z ∷ []) o) (sym does)
    ∙ ap (λ z. defined_among g z o) (sym (form_taken fs i j f is le here))

-- ---- what the tables of a kernel say

pick : (b : Bool) (e : GroupEntry) (o : Option GroupEntry) (l : Option ℕ) → l ≡ option_map (λ (e : GroupEntry). e.lambda) o
    → (if b then Some e.lambda else l) ≡ option_map (λ (e : GroupEntry). e.lambda) (if b then Some e else o)
pick true e o l is = refl
pick false e o l is = is

among_is : (x : ℕ) (es : List GroupEntry) → lambda_among x es None ≡ option_map (λ (e : GroupEntry). e.lambda) (entry_among x es)
among_is x [] = refl
among_is x (e ∷ es) = pick (x == e.local) e (entry_among x es) (lambda_among x es None) (among_is x es)

pub locals_are : (k : Kernel) (es : List GroupEntry) (x : ℕ) → es ≡ told (text k) → lambda_among x es None ≡ letrec_lambda k x
locals_are k es x is = ap (λ z. lambda_among x z None) is ∙ among_is x (told (text k)) ∙ ap (option_map (λ (e : GroupEntry). e.lambda)) (entry_is_told k x)

pub procedures_are : (g : ℕ) (fs : List Form) → defined_among g fs None ≡ defined_by g fs
procedures_are g [] = refl
procedures_are g (Define d e ∷ fs) = ap (λ z. if g == d then lambda_in e else z) (procedures_are g fs)
procedures_are g (Do e ∷ fs) = procedures_are g fs
