-- The line of an event (this project's own).
--
-- A line is a word for the operation, what it was given and what it answered, with one space before each, and byte 10. The
-- definition is a table: `event_line` has a case for each event, and `a & b` is a text and then another. Numbers are
-- decimal, behind `-` where they are negative.
use Rattle.std.specs.Prelude.{ℕ, ℤ, pos, negsuc, List, [], ◌∷◌, if◌then◌else◌, codes, decimal}
use Rattle.std.specs.Ordering.{int_eq}
use Rattle.std.specs.Fmt.{signed_decimal}
use Rattle.ps_base.specs.Texts.{◌&◌}
use Rattle.byte_store.specs.declared.pointer.Base.{Base}
use Rattle.byte_store.specs.declared.pointer.Base.TheVariants.{Fixed, Made}
use Rattle.byte_store.specs.declared.pointer.Pointer.{Pointer}
use Rattle.byte_store.specs.declared.pointer.Pointer.TheVariants.{Null, At}
use Rattle.byte_store.specs.declared.pointer.Word.{Word}
use Rattle.byte_store.specs.declared.pointer.Word.TheVariants as words
use Rattle.byte_store.specs.declared.event.Event.{Event}
use Rattle.byte_store.specs.declared.event.Event.TheVariants as events

-- a block: `s` for a fixed one or `d` for a made one, and its number
unfoldable pub base_text : Base → List ℕ
base_text (Fixed k) = codes "s" & decimal k
base_text (Made k) = codes "d" & decimal k

-- a place: its block, and how far from the block's start it is
unfoldable pub place_text : Base → ℤ → List ℕ
place_text base offset = base_text base & codes "+" & signed_decimal offset

-- a place that stands for a block: the block alone where the place is its start
unfoldable pub block_text : Base → ℤ → List ℕ
block_text base offset = if int_eq offset (pos 0) then base_text base else place_text base offset

-- a pointer into a block
unfoldable pub pointer_text : Pointer → List ℕ
pointer_text Null = codes "null"
pointer_text (At base offset) = place_text base offset

-- a pointer that stands for a block that was made
unfoldable pub made_text : Pointer → List ℕ
made_text Null = codes "refused"
made_text (At base offset) = block_text base offset

-- a pointer that stands for a block that was there
unfoldable pub known_text : Pointer → List ℕ
known_text Null = codes "null"
known_text (At base offset) = block_text base offset

-- what a cell shows
unfoldable pub word_text : Word → List ℕ
word_text (words.Number i) = signed_decimal i
word_text (words.Pointer p) = pointer_text p

-- a byte that was read, where -1 stands for the end of the input
unfoldable pub input_text : ℤ → List ℕ
input_text i = if int_eq i (negsuc 0) then codes "end" else signed_decimal i

-- a word and the texts behind it, with one space before each, and byte 10
unfoldable pub spaced : List (List ℕ) → List ℕ
spaced [] = codes "\n"
spaced (text ∷ texts) = codes " " & text & spaced texts

unfoldable pub line : List ℕ → List (List ℕ) → List ℕ
line word texts = word & spaced texts

-- the line of an event
unfoldable pub event_line : Event → List ℕ
event_line (events.Input i) = line (codes "in") (input_text i ∷ [])
event_line (events.Output i) = line (codes "out") (signed_decimal i ∷ [])
event_line (events.Allocate n p) = line (codes "alloc") (signed_decimal n ∷ made_text p ∷ [])
event_line (events.Fill n w p) = line (codes "vector") (signed_decimal n ∷ word_text w ∷ made_text p ∷ [])
event_line (events.Tuple n p) = line (codes "tuple") (signed_decimal n ∷ made_text p ∷ [])
event_line (events.Free p) = line (codes "free") (known_text p ∷ [])
event_line (events.Load p i) = line (codes "load") (pointer_text p ∷ signed_decimal i ∷ [])
event_line (events.Keep p i) = line (codes "store") (pointer_text p ∷ signed_decimal i ∷ [])
event_line (events.LoadWord p i) = line (codes "loadw") (pointer_text p ∷ signed_decimal i ∷ [])
event_line (events.KeepWord p i) = line (codes "storew") (pointer_text p ∷ signed_decimal i ∷ [])
event_line (events.Get p w) = line (codes "get") (pointer_text p ∷ word_text w ∷ [])
event_line (events.Put p w) = line (codes "put") (pointer_text p ∷ word_text w ∷ [])
event_line (events.Length p n) = line (codes "length") (known_text p ∷ signed_decimal n ∷ [])
