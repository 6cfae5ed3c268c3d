-- The names of the one structure of a text without structures.
-- For: user_of
use Rattle.std.proofs.Common.{◌≡◌, ℕ, List, [], ◌∷◌, ap, ◌∙◌}
use Rattle.std.specs.Prelude.{codes}
use Rattle.ps_base.specs.Names.{AreDistinct, Adds}
use Rattle.ps_base.specs.declared.names.Name.{Name}
use Rattle.ps_datum.specs.declared.datum.Datum.{Datum}
use Rattle.ps_datum.specs.declared.datum.DatumKind.TheVariants as k
use Rattle.ps_read.specs.declared.token.Front.TheVariants.{Whole}
use Rattle.ps_read.specs.declared.token.Word.TheVariants as w
use Rattle.ps_read.specs.Lexical.{Table, added, name_in, resolved, noted}
use Rattle.ps_read.proofs.AddedNamesAreNumbered.{named}
use Rattle.ps_modules.specs.declared.types.Structure.{Structure}
use Rattle.ps_modules.specs.InsideWalking.{IsUser}
use Rattle.ps_modules.specs.Walking.{user}

symbol_same : (a b : Name) → Whole 0 (w.Atom (k.Symbol a)) ≡ Whole 0 (w.Atom (k.Symbol b)) → a ≡ b
symbol_same a b e = cc

name_is : (names new : Table) (name : Name) (text : List ℕ) → Adds names new text name.0 → AreDistinct new → name ≡ name_in names text
unfolding resolved noted
name_is names new name text adds distinct = symbol_same name (name_in names text) (named names new name 0 text adds distinct).0

table_is : (names new : Table) (name : Name) (text : List ℕ) → Adds names new text name.0 → AreDistinct new → new ≡ added names text
unfolding resolved noted
table_is names new name text adds distinct = (named names new name 0 text adds distinct).1

pub user_is : (names mid later : Table) (name main : Name) (ds : List Datum) (structure : Structure) (structures : List Structure) → Adds names mid (codes "user") name.0 → AreDistinct mid
    → Adds mid later (codes "main") main.0 → AreDistinct later → structure ≡ user name main ds → structures ≡ structure ∷ [] → IsUser names ds structures later
user_is names mid later name main ds structure structures first one second two is all =
    let table = table_is names mid name (codes "user") first one in
    record {
      is = all ∙ ap (λ s. s ∷ []) (is ∙ ap (λ n. user n main ds) (name_is names mid name (codes "user") first one)
          ∙ ap (λ m. user (name_in names (codes "user")) m ds) (name_is mid later main (codes "main") second two ∙ ap (λ (t : Table). name_in t (codes "main")) table));
      table = table_is mid later main (codes "main") second two ∙ ap (λ (t : Table). added t (codes "main")) table;
    }
