-- What a front of a list of data leaves open, and the first breach.
use Rattle.std.specs.Prelude.{◌≡◌, ◌≢◌, ◌⊎◌, ℕ, suc, nat_lt, if◌then◌else◌, List, [], ◌∷◌, length, Option, Some, None}
use Rattle.ps_base.specs.declared.faults.Place.{Place}
use Rattle.ps_datum.specs.declared.datum.Datum.{Datum}
use Rattle.ps_read.specs.declared.token.Token.{Token}
use Rattle.ps_read.specs.declared.token.Word.{Word}
use Rattle.ps_read.specs.declared.token.Word.TheVariants as w
use Rattle.ps_read.specs.declared.token.Shape.{Shape}
use Rattle.ps_read.specs.declared.token.Shape.TheVariants as s
use Rattle.ps_read.specs.declared.token.Frame.{Frame}
use Rattle.ps_read.specs.declared.token.Breach.{Breach}
use Rattle.ps_base.specs.declared.faults.SyntaxKind.{SyntaxKind}
use Rattle.ps_base.specs.declared.faults.SyntaxKind.TheVariants as b
use Rattle.ps_read.specs.Grammar.{token, levels, IsDatum, IsData}

abbrev pub opener : Shape → Word
opener s.List = w.Open
opener s.Vector = w.VectorOpen
opener (s.Quote nq) = (w.Quote nq)
opener (s.Dotted q) = w.Open
opener (s.Ended q tail) = w.Open

-- ---- the breach that a token shows

abbrev pub breach : SyntaxKind → Place → Option Breach
breach kind place = Some (record { kind = kind; place = place })

-- a second datum behind a dot
abbrev pub datum_breach : List Frame → Option Breach
datum_breach [] = None
datum_breach (f ∷ fs) = second f.shape
  where
    second : Shape → Option Breach
    second (s.Ended q tail) = breach b.BadDot q
    second _ = None

abbrev pub close_breach : List Frame → Place → Option Breach
close_breach [] p = breach b.StrayClose p
close_breach (f ∷ fs) p = behind f.shape
  where
    behind : Shape → Option Breach
    behind (s.Quote nq) = breach b.StrayClose p
    behind (s.Dotted q) = breach b.BadDot q
    behind _ = None

abbrev pub dot_breach : List Frame → Place → Option Breach
dot_breach [] p = breach b.BadDot p
dot_breach (f ∷ fs) p = behind f.shape f.items
  where
    behind : Shape → List Datum → Option Breach
    behind s.List [] = breach b.BadDot p
    behind s.List (d ∷ ds) = None
    behind s.Vector ds = breach b.BadDot p
    behind (s.Quote nq) ds = breach b.BadDot p
    behind (s.Dotted q) ds = breach b.BadDot q
    behind (s.Ended q tail) ds = breach b.BadDot q

abbrev pub open_breach : List Frame → Place → Option Breach
open_breach fs p = if nat_lt (length fs) levels then datum_breach fs else breach b.TooDeep p

-- the breach that a token shows where these brackets are open
abbrev pub breach_at : List Frame → Place → Word → Option Breach
breach_at fs p w.Open = open_breach fs p
breach_at fs p w.VectorOpen = open_breach fs p
breach_at fs p w.Close = close_breach fs p
breach_at fs p (w.Quote nq) = open_breach fs p
breach_at fs p w.Dot = dot_breach fs p
breach_at fs p (w.Atom x) = datum_breach fs
breach_at fs p (w.Broken kind) = breach kind p

-- ---- what is left open

-- what stands behind an open bracket: at level n the tokens ts begin with the items, and rest follows
abbrev pub Behind : ℕ → Shape → List Datum → List Token → List Token → Type 0
Behind n s.List items ts rest = IsData n ts items rest
Behind n s.Vector items ts rest = IsData n ts items rest
Behind n (s.Quote nq) items ts rest = (items ≡ []) × (ts ≡ rest)
Behind n (s.Dotted q) items ts rest = (items ≢ []) × IsData n ts items (token q w.Dot ∷ rest)
Behind n (s.Ended q tail) items ts rest = (us : List Token) × (items ≢ []) × IsData n ts items (token q w.Dot ∷ us) × IsDatum n us tail rest

-- The tokens ts begin with the data done and then these brackets, the innermost first, each with what stands behind it; rest follows.
abbrev pub Leaves : List Token → List Datum → List Frame → List Token → Type 0
Leaves ts done [] rest = IsData 0 ts done rest
Leaves ts done (f ∷ fs) rest = (us : List Token) × (breach_at fs f.place (opener f.shape) ≡ None) × Leaves ts done fs (token f.place (opener f.shape) ∷ us) × Behind (suc (length fs)) f.shape f.items us rest

-- The first breach of the tokens: at the first token that no list of data goes on with, or at the end, at the innermost open bracket.
abbrev pub AtToken : List Token → Breach → Type 0
AtToken ts x = (done : List Datum) × (fs : List Frame) × (t : Token) × (rest : List Token) × Leaves ts done fs (t ∷ rest) × (breach_at fs t.place t.word ≡ Some x)

abbrev pub AtEnd : List Token → Breach → Type 0
AtEnd ts x = (done : List Datum) × (f : Frame) × (fs : List Frame) × Leaves ts done (f ∷ fs) [] × (x ≡ record { kind = b.Unclosed; place = f.place })

abbrev pub FirstBreach : List Token → Breach → Type 0
FirstBreach ts x = AtToken ts x ⊎ AtEnd ts x
