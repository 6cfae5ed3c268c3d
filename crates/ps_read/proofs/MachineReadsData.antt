-- The machine reads the data of the grammar.
-- For: read_all (only), text_has_one_reading
use Rattle.std.proofs.Common.{◌≡◌, ℕ, suc, ◌<◌, Bool, true, false, List, [], ◌∷◌, ◌++◌, length, Option, None, refl, sym, ap, ◌∙◌, append_assoc, arith}
use Rattle.std.proofs.lemmas.Bool.{lt-ltb}
use Rattle.std.proofs.lemmas.List.{append-nil}
use Rattle.ps_base.specs.declared.faults.Place.{Place}
use Rattle.ps_datum.specs.declared.datum.Datum.{Datum}
use Rattle.ps_read.specs.declared.token.Token.{Token}
use Rattle.ps_read.specs.declared.token.Word.{Word}
use Rattle.ps_read.specs.declared.token.Word.TheVariants as w
use Rattle.ps_read.specs.declared.token.Shape.{Shape}
use Rattle.ps_read.specs.declared.token.Shape.TheVariants as s
use Rattle.ps_read.specs.declared.token.Frame.{Frame}
use Rattle.ps_read.specs.declared.token.Breach.{Breach}
use Rattle.ps_read.specs.Grammar.{token, levels, IsDatum, atom, list, vector, quote, dotted, IsData, none, more}
use Rattle.ps_read.specs.Breaches.{datum_breach, open_breach, breach_at}
use Rattle.ps_read.specs.InsideMachine.{State, frame, put, moved, unless, run}

-- ---- what may come behind a bracket

-- one datum
abbrev pub Takes : List Frame → Type 0
Takes fs = datum_breach fs ≡ None

-- any number of data
abbrev pub many_behind : Shape → Bool
many_behind s.List = true
many_behind s.Vector = true
many_behind (s.Quote nq) = false
many_behind (s.Dotted q) = false
many_behind (s.Ended q tail) = false

abbrev pub takes_many : List Frame → Bool
takes_many [] = true
takes_many (f ∷ fs) = many_behind f.shape

many_takes_behind : (p : Place) (x : Shape) (items : List Datum) (fs : List Frame) → many_behind x ≡ true → Takes (frame p x items ∷ fs)
many_takes_behind p s.List items fs h = refl
many_takes_behind p s.Vector items fs h = refl
many_takes_behind p (s.Quote nq) items fs h = absurd cc
many_takes_behind p (s.Dotted q) items fs h = absurd cc
many_takes_behind p (s.Ended q tail) items fs h = absurd cc

many_takes : (fs : List Frame) → takes_many fs ≡ true → Takes fs
many_takes [] h = refl
many_takes (f ∷ fs) h = many_takes_behind f.place f.shape f.items fs h

-- ---- more than one datum

pub put_all : State → List Datum → State
put_all x [] = x
put_all x (d ∷ ds) = put_all (put x.0 x.1 d) ds

put_many_behind : (done : List Datum) (p : Place) (x : Shape) (items : List Datum) (fs : List Frame) (d : Datum) → many_behind x ≡ true → put done (frame p x items ∷ fs) d ≡ (done, frame p x (items ++ d ∷ []) ∷ fs)
unfolding put
put_many_behind done p s.List items fs d h = refl
put_many_behind done p s.Vector items fs d h = refl
put_many_behind done p (s.Quote nq) items fs d h = absurd cc
put_many_behind done p (s.Dotted q) items fs d h = absurd cc
put_many_behind done p (s.Ended q tail) items fs d h = absurd cc

put_length_behind : (done : List Datum) (p : Place) (x : Shape) (items : List Datum) (fs : List Frame) (d : Datum) → many_behind x ≡ true → length (put done (frame p x items ∷ fs) d).1 ≡ suc (length fs)
put_length_behind done p x items fs d h = ap (λ (y : State). length y.1) (put_many_behind done p x items fs d h)

put_length : (done : List Datum) (fs : List Frame) (d : Datum) → takes_many fs ≡ true → length (put done fs d).1 ≡ length fs
unfolding put
put_length done [] d h = refl
put_length done (f ∷ fs) d h = put_length_behind done f.place f.shape f.items fs d h

put_takes : (done : List Datum) (fs : List Frame) (d : Datum) → takes_many fs ≡ true → takes_many (put done fs d).1 ≡ true
unfolding put
put_takes done [] d h = refl
put_takes done (f ∷ fs) d h = ap (λ (y : State). takes_many y.1) (put_many_behind done f.place f.shape f.items fs d h) ∙ h

pub put_all_top : (done ds : List Datum) → put_all (done, []) ds ≡ (done ++ ds, [])
unfolding put put_all
put_all_top done [] = ap (λ (xs : List Datum). (xs, [])) (sym (append-nil done))
put_all_top done (d ∷ ds) = put_all_top (done ++ d ∷ []) ds ∙ ap (λ (xs : List Datum). (xs, [])) (append_assoc done (d ∷ []) ds)

pub put_all_behind : (done : List Datum) (p : Place) (x : Shape) (items : List Datum) (fs : List Frame) (ds : List Datum) → many_behind x ≡ true → put_all (done, frame p x items ∷ fs) ds ≡ (done, frame p x (items ++ ds) ∷ fs)
unfolding put_all
put_all_behind done p x items fs [] h = ap (λ (xs : List Datum). (done, frame p x xs ∷ fs)) (sym (append-nil items))
put_all_behind done p x items fs (d ∷ ds) h =
    ap (λ (y : State). put_all y ds) (put_many_behind done p x items fs d h) ∙ put_all_behind done p x (items ++ d ∷ []) fs ds h ∙ ap (λ (xs : List Datum). (done, frame p x xs ∷ fs)) (append_assoc items (d ∷ []) ds)

-- ---- a token that shows no breach

pub goes_on : (done : List Datum) (fs : List Frame) (p : Place) (x : Word) (ts : List Token) → breach_at fs p x ≡ None → run (done, fs) (token p x ∷ ts) ≡ run (moved (done, fs) p x) ts
unfolding run
goes_on done fs p x ts h = ap (λ (b : Option Breach). unless b (run (moved (done, fs) p x) ts)) h

pub open_fits : (fs : List Frame) (p : Place) → length fs < levels → Takes fs → open_breach fs p ≡ None
open_fits fs p lt h = rw (lt-ltb (length fs) levels lt) h

-- ---- what the grammar has, the machine reads

mutual
  unfolding put moved put_all

  pub datum_runs : {n : ℕ} {ts rest : List Token} {d : Datum} → IsDatum n ts d rest → (done : List Datum) (fs : List Frame) → length fs ≡ n → Takes fs → run (done, fs) ts ≡ run (put done fs d) rest
  datum_runs (atom {rest = rest} p x) done fs e h = goes_on done fs p (w.Atom x) rest h
  datum_runs (list {ts = ts} {rest = rest} {ds = ds} p q lt items) done fs e h =
      goes_on done fs p w.Open ts (open_fits fs p (omega arith) h)
      ∙ data_runs items done (frame p s.List [] ∷ fs) (ap suc e) refl
      ∙ ap (λ (y : State). run y (token q w.Close ∷ rest)) (put_all_behind done p s.List [] fs ds refl)
      ∙ goes_on done (frame p s.List ds ∷ fs) q w.Close rest refl
  datum_runs (vector {ts = ts} {rest = rest} {ds = ds} p q lt items) done fs e h =
      goes_on done fs p w.VectorOpen ts (open_fits fs p (omega arith) h)
      ∙ data_runs items done (frame p s.Vector [] ∷ fs) (ap suc e) refl
      ∙ ap (λ (y : State). run y (token q w.Close ∷ rest)) (put_all_behind done p s.Vector [] fs ds refl)
      ∙ goes_on done (frame p s.Vector ds ∷ fs) q w.Close rest refl
  datum_runs (quote {ts = ts} {rest = rest} {d = d} nq p lt inner) done fs e h =
      goes_on done fs p (w.Quote nq) ts (open_fits fs p (omega arith) h)
      ∙ datum_runs inner done (frame p (s.Quote nq) [] ∷ fs) (ap suc e) refl
  datum_runs (dotted {ts = ts} {us = us} {rest = rest} {d = d} {tail = tail} {ds = ds} p q z lt items last) done fs e h =
      goes_on done fs p w.Open ts (open_fits fs p (omega arith) h)
      ∙ data_runs items done (frame p s.List [] ∷ fs) (ap suc e) refl
      ∙ ap (λ (y : State). run y (token q w.Dot ∷ us)) (put_all_behind done p s.List [] fs (d ∷ ds) refl)
      ∙ goes_on done (frame p s.List (d ∷ ds) ∷ fs) q w.Dot us refl
      ∙ datum_runs last done (frame p (s.Dotted q) (d ∷ ds) ∷ fs) (ap suc e) refl
      ∙ goes_on done (frame p (s.Ended q tail) (d ∷ ds) ∷ fs) z w.Close rest refl

  pub data_runs : {n : ℕ} {ts rest : List Token} {ds : List Datum} → IsData n ts ds rest → (done : List Datum) (fs : List Frame) → length fs ≡ n → takes_many fs ≡ true → run (done, fs) ts ≡ run (put_all (done, fs) ds) rest
  data_runs none done fs e h = refl
  data_runs (more {us = us} {rest = rest} {d = d} {ds = ds} first others) done fs e h =
      datum_runs first done fs e (many_takes fs h) ∙ data_runs others (put done fs d).0 (put done fs d).1 (put_length done fs d h ∙ e) (put_takes done fs d h)
