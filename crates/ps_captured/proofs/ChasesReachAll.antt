-- A chase that has followed all has reached what is reached.
-- For: `reached`
use Rattle.std.proofs.Common.{◌≡◌, ℕ, ◌+◌, ◌<◌, Bool, true, false, List, [], ◌∷◌, ◌++◌, length, Option, Some, None, slice_get, refl, sym, ap, subst, ◌∙◌, arith}
use Rattle.std.specs.Prelude.{◌==◌, ◌||◌, ◌&&◌, not, if◌then◌else◌}
use Rattle.std.specs.List.{fold}
use Rattle.std.specs.Option.{option_map}
use Rattle.std.proofs.lemmas.Bool.{eqb-true, eqb-false}
use Rattle.std.proofs.lemmas.Option.{slice_get-map}
use Rattle.ps_kernel.specs.declared.expr.GroupEntry.{GroupEntry}
use Rattle.ps_kernel.specs.declared.kernel.Kernel.{Kernel}
use Rattle.ps_kernel.specs.declared.kernel.Lambda.{Lambda}
use Rattle.ps_kernel.specs.Captured.{Reaches, itself, through, is_entry}
use Rattle.ps_kernel.specs.InsideSteps.{nowhere}
use Rattle.ps_kernel.specs.Lists.{stands_in}
use Rattle.ps_kernel.specs.Texts.{named, bound, lambda_text}
use Rattle.ps_captured.specs.declared.chase.Chase.{Chase}
use Rattle.ps_captured.specs.declared.named.Named.{Named}
use Rattle.ps_captured.specs.InsideReading.{Sight, seen_in, named_there, sights_of}
use Rattle.ps_captured.specs.InsideTables.{with_local, with_free, with_all_free}
use Rattle.ps_captured.specs.InsideKeeping.{Lookup, with_entry, no_entry, named_of, named_in, all_named, or_nothing, named_at, sights_in, met, all_met, knows, Chases, AreReached, unmet}
use Rattle.ps_captured.proofs.SetsHold.{holds}
use Rattle.ps_captured.proofs.MarksAreSeen.{names, holds_free}
use Rattle.ps_captured.proofs.SetsTell.{holds_all_free}
use Rattle.ps_captured.proofs.ReadingsSeeMarks.{sees_lambda}
use Rattle.ps_captured.proofs.TablesTell.{in_both, has_entries, leaves}

-- ---- what lambdas name

named_here : (ms : List Lambda) (l : ℕ) → named_at (all_named ms) l ≡ named_of (sights_of ms l)
named_here ms l = ap or_nothing (slice_get-map (named_in ms) ms l) ∙ by (slice_get ms l)
  where
    by : (o : Option Lambda) → or_nothing (option_map (named_in ms) o) ≡ named_of (sights_in ms o)
    by None = refl
    by (Some m) = refl

and_true : (b : Bool) → (b && true) ≡ b
and_true true = refl
and_true false = refl

pub has_names : (k : Kernel) (l x : ℕ) → stands_in x (named_at (all_named k.lambdas) l).names ≡ stands_in x (named (lambda_text k l))
has_names k l x =
    ap (λ (d : Named). stands_in x d.names) (named_here k.lambdas l)
    ∙ ap (λ (ss : List Sight). stands_in x (fold (with_free []) [] ss)) (sees_lambda k nowhere l)
    ∙ holds_free x [] [] (seen_in nowhere (lambda_text k l))
    ∙ and_true (stands_in x (named_there (seen_in nowhere (lambda_text k l))))
    ∙ ap (stands_in x) (names nowhere (lambda_text k l))

pub has_free : (k : Kernel) (l x : ℕ) → stands_in x (named_at (all_named k.lambdas) l).free ≡ (stands_in x (named (lambda_text k l)) && not (stands_in x (bound (lambda_text k l))))
has_free k l x =
    ap (λ (d : Named). stands_in x d.free) (named_here k.lambdas l)
    ∙ ap (λ (ss : List Sight). stands_in x (with_all_free [] ss)) (sees_lambda k nowhere l)
    ∙ holds_all_free x [] nowhere (lambda_text k l)

-- ---- a local is met

or_left : (a b : Bool) → a ≡ true → (a || b) ≡ true
or_left true b h = refl
or_left false b h = absurd cc

or_right : (a b : Bool) → b ≡ true → (a || b) ≡ true
or_right true b h = refl
or_right false b h = h

or_cases : {P : Type 0} → (a b : Bool) → (a || b) ≡ true → (a ≡ true → P) → (b ≡ true → P) → P
or_cases true b h f g = f refl
or_cases false b h f g = g h

module _ (k : Kernel) (g : List GroupEntry) (l : ℕ) where
  abbrev at : Lookup
  at = fold with_entry no_entry g

  record Goes (c : Chase) : Type 0 where
    begins : knows c l ≡ true
    sound : (n : ℕ) → knows c n ≡ true → Reaches k g l n
    follows : (x n : ℕ) → stands_in x c.met ≡ true → is_entry x n g ≡ true → knows c n ≡ true

  abbrev Named_by : ℕ → Type 0
  Named_by x = (m : ℕ) × Reaches k g l m × (stands_in x (named (lambda_text k m)) ≡ true)

  abbrev grown : Chase → ℕ → Chase
  grown c x = record c { todo = c.todo ++ at x; met = with_local c.met x }

  three : (a b c : Bool) → (a || (b || c)) ≡ ((a || b) || c)
  three true b c = refl
  three false b c = refl

  knows_grown : (c : Chase) (x n : ℕ) → knows (grown c x) n ≡ (knows c n || is_entry x n g)
  knows_grown c x n =
      ap (λ (b : Bool). stands_in n c.done || b) (in_both n c.todo (at x) ∙ ap (λ (b : Bool). stands_in n c.todo || b) (has_entries no_entry g x n)) ∙ three (stands_in n c.done) (stands_in n c.todo) (is_entry x n g)

  goes_grown : (c : Chase) (x : ℕ) → Goes c → Named_by x → Goes (grown c x)
  goes_grown c x h by = record {
    begins = knows_grown c x l ∙ or_left (knows c l) (is_entry x l g) h.begins;
    sound = λ n p. or_cases (knows c n) (is_entry x n g) (sym (knows_grown c x n) ∙ p) (h.sound n) (λ q. through by.0 n x by.1 by.2 q);
    follows = λ y n p q. knows_grown c x n ∙ or_cases (y == x) (stands_in y c.met) (sym (holds y x c.met) ∙ p)
        (λ is. or_right (knows c n) (is_entry x n g) (ap (λ (z : ℕ). is_entry z n g) (sym (eqb-true y x is)) ∙ q))
        (λ r. or_left (knows c n) (is_entry x n g) (h.follows y n r q));
  }

  record Steps (c d : Chase) (xs : List ℕ) : Type 0 where
    goes : Goes d
    done : d.done ≡ c.done
    mets : (x : ℕ) → stands_in x xs ≡ true → stands_in x d.met ≡ true
    keeps : (x : ℕ) → stands_in x c.met ≡ true → stands_in x d.met ≡ true

  eq_self : (x : ℕ) → (x == x) ≡ true
  eq_self x = by (x == x) refl
    where
      by : (b : Bool) → (x == x) ≡ b → b ≡ true
      by true p = refl
      by false p = absurd (eqb-false x x p refl)

  -- a local that was met does no more
  one_step : (c : Chase) (x : ℕ) → Goes c → Named_by x → Steps c (met at c x) (x ∷ [])
  one_step c x h by = of (stands_in x c.met) refl
    where
      only : (d : Chase) → stands_in x d.met ≡ true → (y : ℕ) → ((y == x) || false) ≡ true → stands_in y d.met ≡ true
      only d p y q = or_cases (y == x) false q (λ is. ap (λ (z : ℕ). stands_in z d.met) (eqb-true y x is) ∙ p) (λ r. absurd cc)

      of : (b : Bool) → stands_in x c.met ≡ b → Steps c (if b then c else grown c x) (x ∷ [])
      of true p = record { goes = h; done = refl; mets = only c p; keeps = λ y q. q }
      of false p = record {
        goes = goes_grown c x h by;
        done = refl;
        mets = only (grown c x) (holds x x c.met ∙ or_left (x == x) (stands_in x c.met) (eq_self x));
        keeps = λ y q. holds y x c.met ∙ or_right (y == x) (stands_in y c.met) q;
      }

  all_steps : (c : Chase) (xs : List ℕ) → Goes c → ((x : ℕ) → stands_in x xs ≡ true → Named_by x) → Steps c (all_met at c xs) xs
  all_steps c [] h by = record { goes = h; done = refl; mets = λ y q. absurd cc; keeps = λ y q. q }
  all_steps c (x ∷ xs) h by =
      let one = one_step c x h (by x (or_left (x == x) (stands_in x xs) (eq_self x))) in
      let rest = all_steps (met at c x) xs one.goes (λ y q. by y (or_right (y == x) (stands_in y xs) q)) in
      record {
        goes = rest.goes;
        done = rest.done ∙ one.done;
        mets = λ y q. or_cases (y == x) (stands_in y xs) q (λ is. rest.keeps y (one.mets y (or_left (y == x) false is))) (rest.mets y);
        keeps = λ y q. rest.keeps y (one.keeps y q);
      }

  -- ---- a lambda is followed

  abbrev moved : Chase → List ℕ → ℕ → Chase
  moved c todo m = record c { todo = todo; done = c.done ++ m ∷ [] }

  knows_moved : (c : Chase) (todo : List ℕ) (m n : ℕ) → c.todo ≡ todo ++ m ∷ [] → knows (moved c todo m) n ≡ knows c n
  knows_moved c todo m n is =
      ap (λ (b : Bool). b || stands_in n todo) (in_both n c.done (m ∷ []))
      ∙ swap (stands_in n c.done) (stands_in n todo) ((n == m) || false)
      ∙ ap (λ (b : Bool). stands_in n c.done || b) (sym (in_both n todo (m ∷ [])) ∙ ap (stands_in n) (sym is))
    where
      swap : (a b c : Bool) → ((a || c) || b) ≡ (a || (b || c))
      swap true b c = refl
      swap false true true = refl
      swap false true false = refl
      swap false false true = refl
      swap false false false = refl

  goes_moved : (c : Chase) (todo : List ℕ) (m : ℕ) → c.todo ≡ todo ++ m ∷ [] → Goes c → Goes (moved c todo m)
  goes_moved c todo m is h = record {
    begins = knows_moved c todo m l is ∙ h.begins;
    sound = λ n p. h.sound n (sym (knows_moved c todo m n is) ∙ p);
    follows = λ x n p q. knows_moved c todo m n is ∙ h.follows x n p q;
  }

  abbrev followed : Chase → List ℕ → ℕ → Chase
  followed c todo m = all_met at (moved c todo m) (named_at (all_named k.lambdas) m).names

  in_todo : (c : Chase) (todo : List ℕ) (m : ℕ) → c.todo ≡ todo ++ m ∷ [] → knows c m ≡ true
  in_todo c todo m is = or_right (stands_in m c.done) (stands_in m c.todo) (ap (stands_in m) is ∙ in_both m todo (m ∷ []) ∙ or_right (stands_in m todo) (stands_in m (m ∷ [])) (or_left (m == m) false (eq_self m)))

  steps_of : (c : Chase) (todo : List ℕ) (m : ℕ) → c.todo ≡ todo ++ m ∷ [] → Chases k g l c → Steps (moved c todo m) (followed c todo m) (named_at (all_named k.lambdas) m).names
  steps_of c todo m is h =
      let goes : Goes c = record { begins = h.begins; sound = h.sound; follows = h.follows } in
      all_steps (moved c todo m) (named_at (all_named k.lambdas) m).names (goes_moved c todo m is goes) (λ x p. (m, h.sound m (in_todo c todo m is), sym (has_names k m x) ∙ p))

  pub goes_on : (c : Chase) (todo : List ℕ) (m : ℕ) → c.todo ≡ todo ++ m ∷ [] → Chases k g l c → Chases k g l (followed c todo m)
  goes_on c todo m is h =
      let s = steps_of c todo m is h in
      record {
        begins = s.goes.begins;
        sound = s.goes.sound;
        follows = s.goes.follows;
        finished = λ n x p q. or_cases (stands_in n c.done) (stands_in n (m ∷ [])) (sym (in_both n c.done (m ∷ [])) ∙ ap (stands_in n) (sym s.done) ∙ p)
            (λ r. s.keeps x (h.finished n x r q))
            (λ r. or_cases (n == m) false r (λ same. s.mets x (has_names k m x ∙ ap (λ (z : ℕ). stands_in x (named (lambda_text k z))) (sym (eqb-true n m same)) ∙ q)) (λ no. absurd cc));
      }

  pub goes_further : (f : Lookup) (ds : List Named) (c : Chase) (todo done : List ℕ) (d : Chase) (m : ℕ) → f ≡ at → ds ≡ all_named k.lambdas → c.todo ≡ todo ++ m ∷ [] → done ≡ c.done ++ m ∷ []
      → d ≡ all_met f (record { todo = todo; done = done; met = c.met }) (named_at ds m).names → Chases k g l c → Chases k g l d
  goes_further f ds c todo done d m p q r t u h = subst (Chases k g l) (sym is) (goes_on c todo m r h)
    where
      is : d ≡ followed c todo m
      is =
          u ∙ ap (λ (f : Lookup). all_met f (record { todo = todo; done = done; met = c.met }) (named_at ds m).names) p
          ∙ ap (λ (ds : List Named). all_met at (record { todo = todo; done = done; met = c.met }) (named_at ds m).names) q
          ∙ ap (λ (done : List ℕ). all_met at (record { todo = todo; done = done; met = c.met }) (named_at (all_named k.lambdas) m).names) t

  pub begins_so : (c : Chase) → c.todo ≡ l ∷ [] → c.done ≡ [] → c.met ≡ [] → Chases k g l c
  begins_so c t d m = record {
    begins = or_right (stands_in l c.done) (stands_in l c.todo) (ap (stands_in l) t ∙ or_left (l == l) false (eq_self l));
    sound = λ n p. or_cases (stands_in n c.done) (stands_in n c.todo) p (λ q. absurd (no (sym (ap (stands_in n) d) ∙ q)))
        (λ q. or_cases (n == l) false (sym (ap (stands_in n) t) ∙ q) (λ is. subst (Reaches k g l) (sym (eqb-true n l is)) itself) (λ no. absurd cc));
    follows = λ x n p q. absurd (no (sym (ap (stands_in x) m) ∙ p));
    finished = λ n x p q. absurd (no (sym (ap (stands_in n) d) ∙ p));
  }
    where
      no : false ≡ true → ⊥
      no p = absurd cc

  pub ends_so : (c : Chase) → c.todo ≡ [] → Chases k g l c → AreReached k g l c.done
  ends_so c t h = λ n. ((λ p. h.sound n (or_left (stands_in n c.done) (stands_in n c.todo) p)), there n)
    where
      only : (n : ℕ) → knows c n ≡ true → stands_in n c.done ≡ true
      only n p = or_cases (stands_in n c.done) (stands_in n c.todo) p (λ q. q) (λ q. absurd (no (sym (ap (stands_in n) t) ∙ q)))
        where
          no : false ≡ true → ⊥
          no p = absurd cc

      there : (n : ℕ) → Reaches k g l n → stands_in n c.done ≡ true
      there n itself = only l h.begins
      there n (through m _ x r p q) = only n (h.follows x n (h.finished m x (there m r) p) q)

-- ---- the measure of a chase

length_two : (xs ys : List ℕ) → length (xs ++ ys) ≡ length xs + length ys
length_two [] ys = omega arith
length_two (x ∷ xs) ys = let h : length (xs ++ ys) ≡ length xs + length ys = length_two xs ys in omega (arith, h)

abbrev pub size : List GroupEntry → Chase → ℕ
size g c = unmet g c.met + length c.todo

size_met : (g : List GroupEntry) (c : Chase) (x : ℕ) → size g (met (fold with_entry no_entry g) c x) ≡ size g c
size_met g c x = of (stands_in x c.met) refl
  where
    of : (b : Bool) → stands_in x c.met ≡ b → size g (if b then c else record c { todo = c.todo ++ fold with_entry no_entry g x; met = with_local c.met x }) ≡ size g c
    of true p = refl
    of false p =
        let a : length (c.todo ++ fold with_entry no_entry g x) ≡ length c.todo + length (fold with_entry no_entry g x) = length_two c.todo (fold with_entry no_entry g x) in
        let b : unmet g (with_local c.met x) + length (fold with_entry no_entry g x) ≡ unmet g c.met = leaves x c.met g p in
        omega (arith, a, b)

size_all : (g : List GroupEntry) (c : Chase) (xs : List ℕ) → size g (all_met (fold with_entry no_entry g) c xs) ≡ size g c
size_all g c [] = refl
size_all g c (x ∷ xs) = size_all g (met (fold with_entry no_entry g) c x) xs ∙ size_met g c x

-- where a lambda is followed, less is left
pub shrinks : (g : List GroupEntry) (at : Lookup) (c c1 c2 : Chase) (m : ℕ) (xs : List ℕ) → at ≡ fold with_entry no_entry g → c.todo ≡ c1.todo ++ m ∷ [] → c1.met ≡ c.met → c2 ≡ all_met at c1 xs → size g c2 < size g c
shrinks g at c c1 c2 m xs is p q r =
    let a : size g c2 ≡ size g c1 = ap (size g) r ∙ ap (λ (f : Lookup). size g (all_met f c1 xs)) is ∙ size_all g c1 xs in
    let b : length c.todo ≡ length c1.todo + 1 = ap length p ∙ length_two c1.todo (m ∷ []) in
    let d : unmet g c1.met ≡ unmet g c.met = ap (unmet g) q in
    omega (arith, a, b, d)
