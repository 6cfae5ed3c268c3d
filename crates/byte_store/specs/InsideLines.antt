-- How the code takes a line apart. No public clause cites this file.
use Rattle.std.specs.Prelude.{ℕ, List}
use Rattle.std.specs.Fmt.{signed_decimal}
use Rattle.byte_store.specs.declared.lines.Part.{Part}
use Rattle.byte_store.specs.declared.lines.Part.TheVariants as parts
use Rattle.byte_store.specs.Lines.{input_text, word_text, pointer_text, made_text, known_text}

-- the text of a part
abbrev pub part_text : Part → List ℕ
part_text (parts.Integer i) = signed_decimal i
part_text (parts.Input i) = input_text i
part_text (parts.Word w) = word_text w
part_text (parts.Place p) = pointer_text p
part_text (parts.Made p) = made_text p
part_text (parts.Known p) = known_text p
