-- A front of tokens in which no token shows a breach begins some list of data, and no other front does.
-- For: first_breach_is_first
use Rattle.std.proofs.Common.{◌≡◌, true, List, [], ◌∷◌, ◌++◌, Option, Some, None, Ok, Err, refl, sym, ap, subst, ◌∙◌, append_assoc, inl, inr}
use Rattle.std.proofs.lemmas.List.{append-nil}
use Rattle.ps_base.specs.declared.faults.Place.{Place}
use Rattle.ps_datum.specs.declared.datum.Datum.{Datum}
use Rattle.ps_datum.specs.declared.datum.DatumKind.TheVariants as k
use Rattle.ps_read.specs.declared.token.Token.{Token}
use Rattle.ps_read.specs.declared.token.Word.TheVariants as w
use Rattle.ps_read.specs.declared.token.Shape.{Shape}
use Rattle.ps_read.specs.declared.token.Shape.TheVariants as s
use Rattle.ps_read.specs.declared.token.Frame.{Frame}
use Rattle.ps_read.specs.declared.token.Breach.{Breach}
use Rattle.ps_read.specs.Grammar.{token, datum, quoted, joined, none}
use Rattle.ps_read.specs.Breaches.{AtEnd, FirstBreach, Leaves, breach_at, opener}
use Rattle.ps_read.specs.InsideMachine.{Answer, State, finish, frame, moved, put, run, unless}
use Rattle.ps_datum.specs.declared.datum.DatumKind.TheVariants.{Boolean}
use Rattle.ps_read.specs.Grammar.{AreData}
use Rattle.ps_read.specs.First.{Begins, IsCut, BreaksOff}
use Rattle.ps_read.proofs.MachineReadsData.{Takes, goes_on}
use Rattle.ps_read.proofs.MachineReadsOnlyData.{open_takes, moved_leaves, Says, answered, is_read, is_refused}

-- ---- whatever is open can be closed

-- behind each bracket but the innermost one more datum may come
Valid : List Frame → Type 0
Valid [] = Unit {0}
Valid (f ∷ fs) = Takes fs × Valid fs

valid_takes : (p : Place) (x : Shape) (fs : List Frame) → breach_at fs p (opener x) ≡ None → Takes fs
valid_takes p s.List fs h = (open_takes fs p h).1
valid_takes p s.Vector fs h = (open_takes fs p h).1
valid_takes p (s.Quote nq) fs h = (open_takes fs p h).1
valid_takes p (s.Dotted q) fs h = (open_takes fs p h).1
valid_takes p (s.Ended q tail) fs h = (open_takes fs p h).1

leaves_valid : (ts : List Token) (done : List Datum) (fs : List Frame) (rest : List Token) → Leaves ts done fs rest → Valid fs
unfolding Valid
leaves_valid ts done [] rest l = tt
leaves_valid ts done (f ∷ fs) rest l = (valid_takes f.place f.shape fs l.1, leaves_valid ts done fs _ l.2)

start : Place
start = record { file = 0; line = 1; column = 1 }

shut : Token
shut = token start w.Close

truth : Token
truth = token start (w.Atom (Boolean true))

fill_behind : Shape → List Token → List Token
fill_behind s.List rest = shut ∷ rest
fill_behind s.Vector rest = shut ∷ rest
fill_behind (s.Quote nq) rest = rest
fill_behind (s.Dotted q) rest = shut ∷ rest
fill_behind (s.Ended q tail) rest = shut ∷ rest

-- what closes the brackets, once a datum came
fill : List Frame → List Token
fill [] = []
fill (f ∷ fs) = fill_behind f.shape (fill fs)

Fills : List Datum → List Frame → Type 0
Fills done fs = (d : Datum) → Takes fs → (ds : List Datum) × (run (put done fs d) (fill fs) ≡ Ok ds)

fills_behind : (done : List Datum) (p : Place) (x : Shape) (items : List Datum) (fs : List Frame) → Takes fs → Fills done fs → Fills done (frame p x items ∷ fs)
unfolding put moved fill fill_behind Fills shut
fills_behind done p s.List items fs outer ih d h =
    let r = ih (datum p (k.List (items ++ d ∷ []))) outer in
    (r.0, goes_on done (frame p s.List (items ++ d ∷ []) ∷ fs) start w.Close (fill fs) refl ∙ r.1)
fills_behind done p s.Vector items fs outer ih d h =
    let r = ih (datum p (k.Vector (items ++ d ∷ []))) outer in
    (r.0, goes_on done (frame p s.Vector (items ++ d ∷ []) ∷ fs) start w.Close (fill fs) refl ∙ r.1)
fills_behind done p (s.Quote nq) items fs outer ih d h = ih (quoted nq p d) outer
fills_behind done p (s.Dotted q) items fs outer ih d h =
    let r = ih (datum p (joined items d)) outer in
    (r.0, goes_on done (frame p (s.Ended q d) items ∷ fs) start w.Close (fill fs) refl ∙ r.1)
fills_behind done p (s.Ended q tail) items fs outer ih d h = absurd cc

fills_top : (done : List Datum) → Fills done []
unfolding put run fill Fills
fills_top done d h = (done ++ d ∷ [], refl)

fills : (done : List Datum) (fs : List Frame) → Valid fs → Fills done fs
unfolding Valid
fills done [] v = fills_top done
fills done (f ∷ fs) v = fills_behind done f.place f.shape f.items fs v.0 (fills done fs v.1)

Closes : List Datum → List Frame → Type 0
Closes done fs = (more : List Token) × (ds : List Datum) × (run (done, fs) more ≡ Ok ds)

closes_behind : (done : List Datum) (p : Place) (x : Shape) (items : List Datum) (fs : List Frame) → Valid (frame p x items ∷ fs) → Closes done (frame p x items ∷ fs)
unfolding put moved fill fill_behind Fills Closes Valid shut
closes_behind done p s.List items fs v =
    let r = fills done fs v.1 (datum p (k.List items)) v.0 in (shut ∷ fill fs, r.0, goes_on done (frame p s.List items ∷ fs) start w.Close (fill fs) refl ∙ r.1)
closes_behind done p s.Vector items fs v =
    let r = fills done fs v.1 (datum p (k.Vector items)) v.0 in (shut ∷ fill fs, r.0, goes_on done (frame p s.Vector items ∷ fs) start w.Close (fill fs) refl ∙ r.1)
closes_behind done p (s.Quote nq) items fs v =
    let all = frame p (s.Quote nq) items ∷ fs in
    let r = fills done (frame p (s.Quote nq) items ∷ fs) v (datum start (Boolean true)) refl in
    (token start (w.Atom (Boolean true)) ∷ fill (frame p (s.Quote nq) items ∷ fs), r.0, goes_on done (frame p (s.Quote nq) items ∷ fs) start (w.Atom (Boolean true)) (fill (frame p (s.Quote nq) items ∷ fs)) refl ∙ r.1)
closes_behind done p (s.Dotted q) items fs v =
    let r = fills done (frame p (s.Dotted q) items ∷ fs) v (datum start (Boolean true)) refl in
    (token start (w.Atom (Boolean true)) ∷ fill (frame p (s.Dotted q) items ∷ fs), r.0, goes_on done (frame p (s.Dotted q) items ∷ fs) start (w.Atom (Boolean true)) (fill (frame p (s.Dotted q) items ∷ fs)) refl ∙ r.1)
closes_behind done p (s.Ended q tail) items fs v =
    let r = fills done fs v.1 (datum p (joined items tail)) v.0 in (shut ∷ fill fs, r.0, goes_on done (frame p (s.Ended q tail) items ∷ fs) start w.Close (fill fs) refl ∙ r.1)

closes_top : (done : List Datum) → Closes done []
unfolding Closes run
closes_top done = ([], done, refl)

closes : (done : List Datum) (fs : List Frame) → Valid fs → Closes done fs
closes done [] v = closes_top done
closes done (f ∷ fs) v = closes_behind done f.place f.shape f.items fs v

-- ---- the first breach

-- the machine is at x after the tokens
Reaches : List Token → State → Type 0
Reaches front x = (more : List Token) → run ([], []) (front ++ more) ≡ run x more

ok_err : (r : Answer) (ds : List Datum) (b : Breach) → r ≡ Ok ds → r ≡ Err b → ⊥
ok_err r ds b e f = cc

data_of : (ts : List Token) (ds : List Datum) (a : Answer) → Says ts a → a ≡ Ok ds → AreData ts ds
data_of ts ds (Ok es) h e = let same : es ≡ ds = cc in subst (λ (y : List Datum). AreData ts y) same h
data_of ts ds (Err b) h e = absurd cc

begins : (front : List Token) (x : State) → Reaches front x → Valid x.1 → Begins front
unfolding Reaches Closes
begins front x r v =
    let c = closes x.0 x.1 v in
    (c.0, c.1, data_of (front ++ c.0) c.1 (run ([], []) (front ++ c.0)) (answered (front ++ c.0)) (r c.0 ∙ c.2))

ends : (front : List Token) (x : State) (t : Token) (b : Breach) → Reaches front x → breach_at x.1 t.place t.word ≡ Some b → ¬ Begins (front ++ t ∷ [])
unfolding Reaches run
ends front x t b r h more_is =
    let ts = front ++ t ∷ [] in
    let read = is_read ((front ++ t ∷ []) ++ more_is.0) more_is.1 more_is.2 in
    let same : run ([], []) ((front ++ t ∷ []) ++ more_is.0) ≡ run x (t ∷ more_is.0) = ap (run ([], [])) (append_assoc front (t ∷ []) more_is.0) ∙ r (t ∷ more_is.0) in
    let fails : run x (t ∷ more_is.0) ≡ Err b = ap (λ (o : Option Breach). unless o (run (moved x t.place t.word) more_is.0)) h in
    ok_err (run ([], []) ((front ++ t ∷ []) ++ more_is.0)) more_is.1 b read (same ∙ fails)

reaches : (front : List Token) (x : State) (t : Token) → Reaches front x → breach_at x.1 t.place t.word ≡ None → Reaches (front ++ t ∷ []) (moved x t.place t.word)
unfolding Reaches
reaches front x t r h us = ap (run ([], [])) (append_assoc front (t ∷ []) us) ∙ r (t ∷ us) ∙ goes_on x.0 x.1 t.place t.word us h

cut : (ts : List Token) (x : State) (b : Breach) → Reaches ts x → Valid x.1 → run x [] ≡ Err b → IsCut ts
unfolding Reaches
cut ts x b r v e =
    (begins ts x r v, λ ds are. ok_err (run ([], []) ts) ds b (is_read ts ds are) (ap (run ([], [])) (sym (append-nil ts)) ∙ r [] ∙ e))

-- the breach of a token or of the end
shown : (x : State) (t : Token) (rest : List Token) (y b : Breach) → breach_at x.1 t.place t.word ≡ Some y → run x (t ∷ rest) ≡ Err b → y ≡ b
unfolding run
shown x t rest y b found h =
    let e : unless (Some y) (run (moved x t.place t.word) rest) ≡ Err b = ap (λ (o : Option Breach). unless o (run (moved x t.place t.word) rest)) (sym found) ∙ h in
    cc

at_end_is : (ts : List Token) (done : List Datum) (fs : List Frame) (b : Breach) → Leaves ts done fs [] → finish done fs ≡ Err b → AtEnd ts b
at_end_is ts done [] b l h = absurd cc
at_end_is ts done (f ∷ fs) b l h = (done, f, fs, l, cc)

ended_run : (x : State) (b : Breach) → run x [] ≡ Err b → finish x.0 x.1 ≡ Err b
unfolding run
ended_run x b h = h

breaks : (ts front : List Token) (x : State) (rest : List Token) (b : Breach) → ts ≡ front ++ rest → Reaches front x → Leaves ts x.0 x.1 rest → run x rest ≡ Err b → BreaksOff ts b
breaks ts front x [] b e r l h =
    let whole : front ≡ ts = sym (e ∙ append-nil front) in
    inr (subst (λ (us : List Token). IsCut us) whole (cut front x b r (leaves_valid ts x.0 x.1 [] l) h), at_end_is ts x.0 x.1 b l (ended_run x b h))
breaks ts front x (t ∷ rest) b e r l h = at_token ts front x t rest b e r l h (breach_at x.1 t.place t.word) refl (λ none_is. breaks ts (front ++ t ∷ []) (moved x t.place t.word) rest b (e ∙ sym (append_assoc front (t ∷ []) rest)) (reaches front x t r none_is) (moved_leaves ts x t.place t.word rest l none_is) (sym (goes_on x.0 x.1 t.place t.word rest none_is) ∙ h))
  where
    at_token : (ts front : List Token) (x : State) (t : Token) (rest : List Token) (b : Breach) → ts ≡ front ++ t ∷ rest → Reaches front x → Leaves ts x.0 x.1 (t ∷ rest) → run x (t ∷ rest) ≡ Err b → (o : Option Breach) → breach_at x.1 t.place t.word ≡ o → (breach_at x.1 t.place t.word ≡ None → BreaksOff ts b) → BreaksOff ts b
    at_token ts front x t rest b e r l h (Some y) found later =
        inl (
          front,
          t,
          rest,
          record { parts = e; begins = begins front x r (leaves_valid ts x.0 x.1 (t ∷ rest) l); ends = ends front x t y r found },
          (x.0, x.1, l, found ∙ ap (λ (z : Breach). Some z) (shown x t rest y b found h)),
        )
    at_token ts front x t rest b e r l h None found later = later found

-- the first breach is shown by the first token such that no list of data begins with the tokens up to it, or by the end
pub breaks_off : (ts : List Token) (b : Breach) → FirstBreach ts b → BreaksOff ts b
unfolding Reaches
breaks_off ts b h = breaks ts [] ([], []) ts b refl (λ more. refl) none (is_refused ts b h)
