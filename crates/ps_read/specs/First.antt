-- Where the first breach is, in words of lists of data alone.
use Rattle.std.specs.Prelude.{◌≡◌, ◌⊎◌, List, [], ◌∷◌, ◌++◌, Some}
use Rattle.ps_datum.specs.declared.datum.Datum.{Datum}
use Rattle.ps_read.specs.declared.token.Token.{Token}
use Rattle.ps_read.specs.Grammar.{AreData}
use Rattle.ps_read.specs.declared.token.Frame.{Frame}
use Rattle.ps_read.specs.declared.token.Breach.{Breach}
use Rattle.ps_read.specs.Breaches.{Leaves, breach_at, AtEnd}

-- some list of data begins with the tokens
abbrev pub Begins : List Token → Type 0
Begins ts = (more : List Token) × (ds : List Datum) × AreData (ts ++ more) ds

-- ts are the front, the token t and the rest, and t is the first token such that no list of data begins with the tokens up to it
pub record IsFirst (ts front : List Token) (t : Token) (rest : List Token) : Type 0 where
  pub parts : ts ≡ front ++ t ∷ rest
  pub begins : Begins front
  pub ends : ¬ Begins (front ++ t ∷ [])

-- a list of data begins with the tokens, and they are none
abbrev pub IsCut : List Token → Type 0
IsCut ts = Begins ts × ((ds : List Datum) → ¬ AreData ts ds)

-- The breach is shown by the first token such that no list of data begins with the tokens up to it, or the tokens are cut off by the end.
abbrev pub BreaksOff : List Token → Breach → Type 0
BreaksOff ts b =
    ((front : List Token) × (t : Token) × (rest : List Token) × IsFirst ts front t rest × ((done : List Datum) × (fs : List Frame) × Leaves ts done fs (t ∷ rest) × (breach_at fs t.place t.word ≡ Some b)))
    ⊎ (IsCut ts × AtEnd ts b)
