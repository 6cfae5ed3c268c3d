-- The word that is shown of a value (this project's own).
use Rattle.std.specs.Prelude.{pos, true, false}
use Rattle.byte_store.specs.declared.pointer.Value.{Value}
use Rattle.byte_store.specs.declared.pointer.Value.TheVariants as values
use Rattle.byte_store.specs.declared.pointer.Word.{Word}
use Rattle.byte_store.specs.declared.pointer.Word.TheVariants.{Number, Pointer}

-- an integer or a pointer itself, 0 or 1 for a boolean, the code of a character, and 0 for the unit
abbrev pub word_of : Value → Word
word_of (values.Integer i) = Number i
word_of (values.Boolean true) = Number (pos 1)
word_of (values.Boolean false) = Number (pos 0)
word_of (values.Char code) = Number (pos code)
word_of values.Unit = Number (pos 0)
word_of (values.Address p) = Pointer p
word_of (values.Text p) = Pointer p
word_of (values.Vector p) = Pointer p
word_of (values.Tuple kind p) = Pointer p
