-- Reading with a stack, the innermost bracket first (this project's own): the machine that the reader's code runs, as its
-- parts promise it to each other. No public clause cites this file.
use Rattle.std.specs.Prelude.{List, [], ◌∷◌, ◌++◌, Option, Some, None, Result, Ok, Err}
use Rattle.ps_base.specs.declared.faults.Place.{Place}
use Rattle.ps_base.specs.declared.names.Name.{Name}
use Rattle.ps_datum.specs.declared.datum.Datum.{Datum}
use Rattle.ps_datum.specs.declared.datum.DatumKind.TheVariants as k
use Rattle.ps_read.specs.declared.token.Token.{Token}
use Rattle.ps_read.specs.declared.token.Word.{Word}
use Rattle.ps_read.specs.declared.token.Word.TheVariants as w
use Rattle.ps_read.specs.declared.token.Shape.{Shape}
use Rattle.ps_read.specs.declared.token.Shape.TheVariants as s
use Rattle.ps_read.specs.declared.token.Frame.{Frame}
use Rattle.ps_read.specs.declared.token.Breach.{Breach}
use Rattle.ps_base.specs.declared.faults.SyntaxKind.TheVariants as b
use Rattle.ps_read.specs.Grammar.{datum, quoted, joined}
use Rattle.ps_read.specs.Breaches.{breach_at}

-- the data so far, and what is open
abbrev pub State : Type 0
State = List Datum × List Frame

abbrev pub frame : Place → Shape → List Datum → Frame
frame p x items = record { place = p; shape = x; items = items }

-- a datum behind the bracket f, where q is the state in which the datum 'd comes behind fs
abbrev pub put_behind : List Datum → Frame → List Frame → Datum → (Name → State) → Shape → State
put_behind done f fs d q s.List = (done, frame f.place s.List (f.items ++ d ∷ []) ∷ fs)
put_behind done f fs d q s.Vector = (done, frame f.place s.Vector (f.items ++ d ∷ []) ∷ fs)
put_behind done f fs d q (s.Quote nq) = q nq
put_behind done f fs d q (s.Dotted p) = (done, frame f.place (s.Ended p d) f.items ∷ fs)
put_behind done f fs d q (s.Ended p tail) = (done, f ∷ fs)

-- one more datum
unfoldable pub put : List Datum → List Frame → Datum → State
put done [] d = (done ++ d ∷ [], [])
put done (f ∷ fs) d = put_behind done f fs d (λ nq. put done fs (quoted nq f.place d)) f.shape

-- the datum that a closing bracket ends
abbrev pub closed : Place → Shape → List Datum → Datum
closed p s.List items = datum p (k.List items)
closed p s.Vector items = datum p (k.Vector items)
closed p (s.Quote nq) items = datum p (k.List items)
closed p (s.Dotted q) items = datum p (k.List items)
closed p (s.Ended q tail) items = datum p (joined items tail)

abbrev pub close : List Datum → List Frame → State
close done [] = (done, [])
close done (f ∷ fs) = put done fs (closed f.place f.shape f.items)

abbrev pub dot : List Datum → List Frame → Place → State
dot done [] q = (done, [])
dot done (f ∷ fs) q = (done, frame f.place (s.Dotted q) f.items ∷ fs)

-- a token that shows no breach
unfoldable pub moved : State → Place → Word → State
moved x p w.Open = (x.0, frame p s.List [] ∷ x.1)
moved x p w.VectorOpen = (x.0, frame p s.Vector [] ∷ x.1)
moved x p w.Close = close x.0 x.1
moved x p (w.Quote nq) = (x.0, frame p (s.Quote nq) [] ∷ x.1)
moved x p w.Dot = dot x.0 x.1 p
moved x p (w.Atom a) = put x.0 x.1 (datum p a)
moved x p (w.Broken kind) = x

abbrev pub Answer : Type 0
Answer = Result (List Datum) Breach

abbrev pub unless : Option Breach → Answer → Answer
unless (Some x) r = Err x
unless None r = r

abbrev pub finish : List Datum → List Frame → Answer
finish done [] = Ok done
finish done (f ∷ fs) = Err (record { kind = b.Unclosed; place = f.place })

unfoldable pub run : State → List Token → Answer
run x [] = finish x.0 x.1
run x (t ∷ ts) = unless (breach_at x.1 t.place t.word) (run (moved x t.place t.word) ts)
