-- What the machine reads is in the grammar, and its breach is the first.
-- For: read_all (read, refused, first)
use Rattle.std.proofs.Common.{◌≡◌, ◌≢◌, ℕ, suc, ◌<◌, ltb, Bool, true, false, cond, List, [], ◌∷◌, ◌++◌, length, Option, Some, None, Ok, Err, refl, sym, ap, subst, ◌∙◌, inl, inr}
use Rattle.ps_base.specs.declared.faults.Place.{Place}
use Rattle.ps_datum.specs.declared.datum.Datum.{Datum}
use Rattle.ps_datum.specs.declared.datum.DatumKind.TheVariants as k
use Rattle.ps_read.specs.declared.token.Token.{Token}
use Rattle.ps_read.specs.declared.token.Word.{Word}
use Rattle.ps_read.specs.declared.token.Word.TheVariants as w
use Rattle.ps_read.specs.declared.token.Shape.{Shape}
use Rattle.ps_read.specs.declared.token.Shape.TheVariants as s
use Rattle.ps_read.specs.declared.token.Frame.{Frame}
use Rattle.ps_read.specs.declared.token.Breach.{Breach}
use Rattle.ps_read.specs.Grammar.{token, datum, quoted, joined, levels, IsDatum, atom, list, vector, quote, dotted, IsData, none, more}
use Rattle.ps_read.specs.Breaches.{opener, Behind, Leaves, datum_breach, open_breach, close_breach, dot_breach, breach_at, FirstBreach}
use Rattle.ps_read.specs.InsideMachine.{State, frame, put, closed, close, dot, moved, Answer, unless, finish, run}
use Rattle.std.proofs.lemmas.Bool.{ltb-true}
use Rattle.ps_read.specs.Grammar.{AreData}
use Rattle.ps_read.proofs.MachineReadsData.{Takes, many_behind, put_all_behind, put_all_top, goes_on, data_runs, datum_runs}

-- ---- what a token without a breach says

open_cases : (b : Bool) (x y : Option Breach) → cond b x y ≡ None → y ≢ None → (b ≡ true) × (x ≡ None)
open_cases true x y h some = (refl, h)
open_cases false x y h some = absurd (some h)

pub open_takes : (fs : List Frame) (p : Place) → open_breach fs p ≡ None → (length fs < levels) × Takes fs
open_takes fs p h =
    let c = open_cases (ltb (length fs) levels) (datum_breach fs) _ h (λ e. cc) in
    (ltb-true (length fs) levels c.0, c.1)

dot_fits : (p q : Place) (items : List Datum) (fs : List Frame) → items ≢ [] → dot_breach (frame p s.List items ∷ fs) q ≡ None
dot_fits p q [] fs h = absurd (h refl)
dot_fits p q (d ∷ ds) fs h = refl

-- ---- the machine's state is what is left open

fill : (done : List Datum) (p : Place) (x : Shape) (items : List Datum) (fs : List Frame) (us rest : List Token) → many_behind x ≡ true → IsData (suc (length fs)) us items rest → run (done, frame p x [] ∷ fs) us ≡ run (done, frame p x items ∷ fs) rest
fill done p x items fs us rest h items_are =
    data_runs items_are done (frame p x [] ∷ fs) refl h ∙ ap (λ (y : State). run y rest) (put_all_behind done p x [] fs items h)

behind_runs : (done : List Datum) (p : Place) (x : Shape) (items : List Datum) (fs : List Frame) (us rest : List Token) → breach_at fs p (opener x) ≡ None → Behind (suc (length fs)) x items us rest → run (done, fs) (token p (opener x) ∷ us) ≡ run (done, frame p x items ∷ fs) rest
unfolding moved put
behind_runs done p s.List items fs us rest h b = goes_on done fs p w.Open us h ∙ fill done p s.List items fs us rest refl b
behind_runs done p s.Vector items fs us rest h b = goes_on done fs p w.VectorOpen us h ∙ fill done p s.Vector items fs us rest refl b
behind_runs done p (s.Quote nq) items fs us rest h b = goes_on done fs p (w.Quote nq) us h ∙ ap (λ (ds : List Datum). run (done, frame p (s.Quote nq) ds ∷ fs) us) (sym b.0) ∙ ap (run (done, frame p (s.Quote nq) items ∷ fs)) b.1
behind_runs done p (s.Dotted q) items fs us rest h b =
    goes_on done fs p w.Open us h ∙ fill done p s.List items fs us (token q w.Dot ∷ rest) refl b.1
    ∙ goes_on done (frame p s.List items ∷ fs) q w.Dot rest (dot_fits p q items fs b.0)
behind_runs done p (s.Ended q tail) items fs us rest h b =
    goes_on done fs p w.Open us h ∙ fill done p s.List items fs us (token q w.Dot ∷ b.0) refl b.2
    ∙ goes_on done (frame p s.List items ∷ fs) q w.Dot b.0 (dot_fits p q items fs b.1)
    ∙ datum_runs b.3 done (frame p (s.Dotted q) items ∷ fs) refl refl

pub leaves_runs : (ts : List Token) (done : List Datum) (fs : List Frame) (rest : List Token) → Leaves ts done fs rest → run ([], []) ts ≡ run (done, fs) rest
leaves_runs ts done [] rest l = data_runs l [] [] refl refl ∙ ap (λ (y : State). run y rest) (put_all_top [] done)
leaves_runs ts done (f ∷ fs) rest l =
    leaves_runs ts done fs (token f.place (opener f.shape) ∷ l.0) l.2 ∙ behind_runs done f.place f.shape f.items fs l.0 rest l.1 l.3

-- ---- one more datum

pub one_more : {n : ℕ} {ts us rest : List Token} {ds : List Datum} {d : Datum} → IsData n ts ds us → IsDatum n us d rest → IsData n ts (ds ++ d ∷ []) rest
one_more none x = more x none
one_more (more first others) x = more first (one_more others x)

push_some : (items : List Datum) (d : Datum) → items ++ d ∷ [] ≢ []
push_some [] d e = cc
push_some (x ∷ xs) d e = cc

-- at the brackets fs one more datum may come
pub Puts : List Token → List Datum → List Frame → Type 0
Puts ts done fs = (us : List Token) (d : Datum) (rest : List Token) → Leaves ts done fs us → Takes fs → IsDatum (length fs) us d rest → Leaves ts (put done fs d).0 (put done fs d).1 rest

put_behind_leaves : (ts : List Token) (done : List Datum) (p : Place) (x : Shape) (items : List Datum) (fs : List Frame) → Puts ts done fs → Puts ts done (frame p x items ∷ fs)
unfolding put Puts
put_behind_leaves ts done p s.List items fs outer us d rest l h x = (l.0, l.1, l.2, one_more l.3 x)
put_behind_leaves ts done p s.Vector items fs outer us d rest l h x = (l.0, l.1, l.2, one_more l.3 x)
put_behind_leaves ts done p (s.Quote nq) items fs outer us d rest l h x =
    let o = open_takes fs p l.1 in
    outer (token p (w.Quote nq) ∷ l.0) (quoted nq p d) rest l.2 o.1 (quote nq p o.0 (subst (λ (vs : List Token). IsDatum (suc (length fs)) vs d rest) (sym l.3.1) x))
put_behind_leaves ts done p (s.Dotted q) items fs outer us d rest l h x = (l.0, l.1, l.2, (us, l.3.0, l.3.1, x))
put_behind_leaves ts done p (s.Ended q tail) items fs outer us d rest l h x = absurd cc

puts_top : (ts : List Token) (done : List Datum) (us : List Token) (d : Datum) (rest : List Token) → Leaves ts done [] us → IsDatum 0 us d rest → Leaves ts (put done [] d).0 (put done [] d).1 rest
unfolding put
puts_top ts done us d rest l x = one_more l x

pub puts : (ts : List Token) (done : List Datum) (fs : List Frame) → Puts ts done fs
unfolding Puts
puts ts done [] = λ us d rest l h x. puts_top ts done us d rest l x
puts ts done (f ∷ fs) = put_behind_leaves ts done f.place f.shape f.items fs (puts ts done fs)

-- ---- one more token

dot_leaves : (ts : List Token) (done : List Datum) (p : Place) (x : Shape) (items : List Datum) (fs : List Frame) (q : Place) (rest : List Token) → Leaves ts done (frame p x items ∷ fs) (token q w.Dot ∷ rest) → dot_breach (frame p x items ∷ fs) q ≡ None → Leaves ts done (frame p (s.Dotted q) items ∷ fs) rest
dot_leaves ts done p s.List [] fs q rest l h = absurd cc
dot_leaves ts done p s.List (d ∷ ds) fs q rest l h = (l.0, l.1, l.2, ((λ e. cc), l.3))
dot_leaves ts done p s.Vector items fs q rest l h = absurd cc
dot_leaves ts done p (s.Quote nq) items fs q rest l h = absurd cc
dot_leaves ts done p (s.Dotted z) items fs q rest l h = absurd cc
dot_leaves ts done p (s.Ended z tail) items fs q rest l h = absurd cc

-- a list after its dot
ended : (n : ℕ) (p q z : Place) (items : List Datum) (us vs rest : List Token) (tail : Datum) → n < levels → items ≢ [] → IsData (suc n) us items (token q w.Dot ∷ vs) → IsDatum (suc n) vs tail (token z w.Close ∷ rest)
    → IsDatum n (token p w.Open ∷ us) (datum p (joined items tail)) rest
ended n p q z [] us vs rest tail lt some items last = absurd (some refl)
ended n p q z (d ∷ ds) us vs rest tail lt some items last = dotted p q z lt items last

close_leaves : (ts : List Token) (done : List Datum) (p : Place) (x : Shape) (items : List Datum) (fs : List Frame) (q : Place) (rest : List Token) → Leaves ts done (frame p x items ∷ fs) (token q w.Close ∷ rest) → close_breach (frame p x items ∷ fs) q ≡ None
    → Leaves ts (put done fs (closed p x items)).0 (put done fs (closed p x items)).1 rest
unfolding Puts
close_leaves ts done p s.List items fs q rest l h = let o = open_takes fs p l.1 in puts ts done fs (token p w.Open ∷ l.0) (datum p (k.List items)) rest l.2 o.1 (list p q o.0 l.3)
close_leaves ts done p s.Vector items fs q rest l h = let o = open_takes fs p l.1 in puts ts done fs (token p w.VectorOpen ∷ l.0) (datum p (k.Vector items)) rest l.2 o.1 (vector p q o.0 l.3)
close_leaves ts done p (s.Quote nq) items fs q rest l h = absurd cc
close_leaves ts done p (s.Dotted z) items fs q rest l h = absurd cc
close_leaves ts done p (s.Ended z tail) items fs q rest l h =
    let o = open_takes fs p l.1 in
    puts ts done fs (token p w.Open ∷ l.0) (datum p (joined items tail)) rest l.2 o.1 (ended (length fs) p z q items l.0 l.3.0 rest tail o.0 l.3.1 l.3.2 l.3.3)

close_any : (ts : List Token) (done : List Datum) (fs : List Frame) (q : Place) (rest : List Token) → Leaves ts done fs (token q w.Close ∷ rest) → close_breach fs q ≡ None → Leaves ts (close done fs).0 (close done fs).1 rest
close_any ts done [] q rest l h = absurd cc
close_any ts done (f ∷ fs) q rest l h = close_leaves ts done f.place f.shape f.items fs q rest l h

dot_any : (ts : List Token) (done : List Datum) (fs : List Frame) (q : Place) (rest : List Token) → Leaves ts done fs (token q w.Dot ∷ rest) → dot_breach fs q ≡ None → Leaves ts (dot done fs q).0 (dot done fs q).1 rest
dot_any ts done [] q rest l h = absurd cc
dot_any ts done (f ∷ fs) q rest l h = dot_leaves ts done f.place f.shape f.items fs q rest l h

pub moved_leaves : (ts : List Token) (x : State) (p : Place) (word : Word) (rest : List Token) → Leaves ts x.0 x.1 (token p word ∷ rest) → breach_at x.1 p word ≡ None → Leaves ts (moved x p word).0 (moved x p word).1 rest
unfolding moved Puts
moved_leaves ts x p w.Open rest l h = (rest, h, l, none)
moved_leaves ts x p w.VectorOpen rest l h = (rest, h, l, none)
moved_leaves ts x p w.Close rest l h = close_any ts x.0 x.1 p rest l h
moved_leaves ts x p (w.Quote nq) rest l h = (rest, h, l, (refl, refl))
moved_leaves ts x p w.Dot rest l h = dot_any ts x.0 x.1 p rest l h
moved_leaves ts x p (w.Atom a) rest l h = puts ts x.0 x.1 (token p (w.Atom a) ∷ rest) (datum p a) rest l h (atom p a)
moved_leaves ts x p (w.Broken kind) rest l h = absurd cc

-- ---- the whole run

-- what an answer says of the tokens
abbrev pub Says : List Token → Answer → Type 0
Says ts (Ok ds) = AreData ts ds
Says ts (Err b) = FirstBreach ts b

finish_says : (ts : List Token) (done : List Datum) (fs : List Frame) → Leaves ts done fs [] → Says ts (finish done fs)
finish_says ts done [] l = l
finish_says ts done (f ∷ fs) l = inr (done, f, fs, l, refl)

unless_says : (ts : List Token) (x : State) (t : Token) (rest : List Token) (b : Option Breach) → Leaves ts x.0 x.1 (t ∷ rest) → breach_at x.1 t.place t.word ≡ b → (b ≡ None → Says ts (run (moved x t.place t.word) rest)) → Says ts (unless b (run (moved x t.place t.word) rest))
unless_says ts x t rest (Some b) l e h = inl (x.0, x.1, t, rest, l, e)
unless_says ts x t rest None l e h = h refl

pub run_says : (ts : List Token) (x : State) (rest : List Token) → Leaves ts x.0 x.1 rest → Says ts (run x rest)
unfolding run
run_says ts x [] l = finish_says ts x.0 x.1 l
run_says ts x (t ∷ rest) l = unless_says ts x t rest (breach_at x.1 t.place t.word) l refl (λ h. run_says ts (moved x t.place t.word) rest (moved_leaves ts x t.place t.word rest l h))

-- what the machine answers
pub answered : (ts : List Token) → Says ts (run ([], []) ts)
answered ts = run_says ts ([], []) ts none

pub is_read : (ts : List Token) (ds : List Datum) → AreData ts ds → run ([], []) ts ≡ Ok ds
unfolding run
is_read ts ds h = leaves_runs ts ds [] [] h

pub is_refused : (ts : List Token) (b : Breach) → FirstBreach ts b → run ([], []) ts ≡ Err b
unfolding run
is_refused ts b (inl x) = leaves_runs ts x.0 x.1 (x.2 ∷ x.3) x.4 ∙ ap (λ (o : Option Breach). unless o (run (moved (x.0, x.1) x.2.place x.2.word) x.3)) x.5
is_refused ts b (inr x) = leaves_runs ts x.0 (x.1 ∷ x.2) [] x.3 ∙ ap (λ (y : Breach). Err y) (sym x.4)
