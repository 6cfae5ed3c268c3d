-- The literals of a kernel: quoted strings and vectors, laid out in fixed blocks (this project's own).
--
-- Read `laid d n` as: the datum d, where the next fixed block is number n, is this value, and these are its blocks, from
-- number n on: its own, and then those of its parts in order. A string of L bytes is a block of L + 1 bytes that ends with 0.
use Rattle.std.specs.Prelude.{ℕ, suc, ◌+◌, pos, List, [], ◌∷◌, ◌++◌, length, map, Some}
use Rattle.byte_store.specs.declared.pointer.Pointer.{Pointer}
use Rattle.byte_store.specs.declared.pointer.Pointer.TheVariants.{At}
use Rattle.byte_store.specs.declared.pointer.Base.TheVariants.{Fixed}
use Rattle.byte_store.specs.declared.pointer.Value.{Value}
use Rattle.byte_store.specs.declared.pointer.Value.TheVariants as value
use Rattle.byte_store.specs.Blocks.{Block, Bytes, Cells}
use Rattle.ps_datum.specs.declared.datum.Datum.{Datum, fold-Datum}
use Rattle.ps_datum.specs.declared.datum.DatumKind.TheOpen.{DatumKind-F}

pub record Laid : Type 0 where
  pub value : Value
  pub blocks : List (Block Value)

abbrev pub start_of : ℕ → Pointer
start_of n = At (Fixed n) (pos 0)

abbrev pub atom : Value → Laid
atom v = record { value = v; blocks = [] }

-- parts, one after another
pub record LaidParts : Type 0 where
  pub values : List Value
  pub blocks : List (Block Value)

abbrev pub with_part : Laid → LaidParts → LaidParts
with_part x xs = record { values = x.value ∷ xs.values; blocks = x.blocks ++ xs.blocks }

abbrev pub lay_parts : List (ℕ → Laid) → ℕ → LaidParts
lay_parts [] n = record { values = []; blocks = [] }
lay_parts (x ∷ xs) n = with_part (x n) (lay_parts xs (n + length (x n).blocks))

abbrev pub lay_vector : ℕ → LaidParts → Laid
lay_vector n xs = record { value = value.Vector (start_of n); blocks = Cells (map Some xs.values) ∷ xs.blocks }

-- a symbol or a list is no part of a literal
abbrev pub lay_node : DatumKind-F (ℕ → Laid) (ℕ → Laid) → ℕ → Laid
lay_node (DatumKind-F.Boolean b) n = atom (value.Boolean b)
lay_node (DatumKind-F.Integer i) n = atom (value.Integer i)
lay_node (DatumKind-F.Char c) n = atom (value.Char c)
lay_node (DatumKind-F.Text bytes) n = record { value = value.Text (start_of n); blocks = Bytes (map Some (bytes ++ 0 ∷ [])) ∷ [] }
lay_node (DatumKind-F.Symbol name) n = atom value.Unit
lay_node (DatumKind-F.List ds) n = atom value.Unit
lay_node (DatumKind-F.Dotted ds d) n = atom value.Unit
lay_node (DatumKind-F.Vector ds) n = lay_vector n (lay_parts ds (suc n))

abbrev pub laid : Datum → ℕ → Laid
laid = fold-Datum (ℕ → Laid) (ℕ → Laid) lay_node (λ d. d.kind)

-- all literals, one after another from block 0 on
abbrev pub lay_all : List Datum → LaidParts
lay_all ds = lay_parts (map laid ds) 0

-- blocks with their numbers
abbrev pub numbered : {A : Type 0} → ℕ → List A → List (ℕ × A)
numbered n [] = []
numbered n (x ∷ xs) = (n, x) ∷ numbered (suc n) xs
