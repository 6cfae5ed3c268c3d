-- Primitives do on values that stand for others what they do on those: a case for each.
-- For: `rows_are_natural`, and the law that primitives at run time do on values of first order what they do on them as such
use Rattle.std.proofs.Common.{◌≡◌, ℕ, pos, List, [], ◌∷◌, map, not, Option, Some, None, Ok, refl, ap, ◌∙◌, length}
use Rattle.std.specs.Prelude.{◌+ℤ◌, ◌-ℤ◌, ◌*ℤ◌, nat_eq, nat_lt, int_lt, int_div, int_rem, if◌then◌else◌}
use Rattle.std.specs.Ordering.{int_eq}
use Rattle.std.specs.Int.{w64, int_bit_and, int_bit_or, int_bit_xor, int_bit_not, int_shl, int_shr}
use Rattle.ps_base.specs.declared.faults.Op.TheVariants as ops
use Rattle.ps_base.specs.declared.language.PrimName.{PrimName}
use Rattle.ps_base.specs.declared.language.PrimName.TheVariants as prims
use Rattle.byte_store.specs.declared.event.Event.TheVariants as events
use Rattle.byte_store.specs.declared.pointer.Pointer.TheVariants.{Null}
use Rattle.byte_store.specs.Blocks.{Memory}
use Rattle.byte_store.specs.Mapping.{map_memory}
use Rattle.byte_store.specs.Operations as store
use Rattle.byte_store.specs.Operations.{and_then, plus}
use Rattle.byte_store.specs.Worlds.{next_grant}
use Rattle.byte_store.proofs.OperationsAreNatural.{load_map, load_word_map, text_length_map, text_map, cell_count_map, get_map, moved_map, text_at_map, difference_map, before_map, same_map, is_null_map, put_map, set_byte_map, set_word_map, release_map, allocate_map}
use Rattle.ps_types.specs.declared.types.RecordKind.{RecordKind}
use Rattle.ps_prims.specs.declared.stages.Stage.{Stage}
use Rattle.ps_prims.specs.declared.stages.Stage.TheVariants.{Compile, Run}
use Rattle.ps_prims.specs.declared.sorts.Sort.{Sort}
use Rattle.ps_prims.specs.Sorts.{Values, Taking, applied, collecting}
use Rattle.ps_prims.specs.Rows.{Scene, row, perform, fitting, dividing, modulo, shifting, logical_shr, is_zero, is_negative, is_same, char_of, unseen, equal_texts}
use Rattle.ps_prims.specs.Records.{fields}
use Rattle.ps_prims.specs.Cells.{for_cells, for_texts, asks, counted, asked, asked_at}
use Rattle.ps_prims.specs.Mapping.{SeenAlike, map_scene, map_performed, RowsAreNatural}
use Rattle.ps_prims.proofs.OperandsAreNatural.{Takes, Both, applied_map, collecting_map, row_map}
use Rattle.ps_prims.proofs.ActsAreNatural.{answers_map, gives_map, finds_in, finds_map, changes_map, makes_map, reads_map, writes_map, vector_of_map, appended_map, equal_texts_map}
use Rattle.ps_prims.proofs.RecordsAreNatural.{maker_map, predicate_map, accessor_map, modifier_map}

module _ {A B : Type 0} (f : A → B) (values : Values A) (others : Values B) (alike : SeenAlike f values others) (kinds : List RecordKind) where
  performs : (p : PrimName) (vs : List A) (stage : Stage) (s : Scene A) → perform others kinds p (map f vs) stage (map_scene f s) ≡ map_performed f (perform values kinds p vs stage s)
  performs prims.Add = row_map f values others alike (row values kinds prims.Add) (row others kinds prims.Add).does ((λ i j. answers_map f values others alike (fitting ops.Overflow (i +ℤ j))))
  performs prims.Subtract = row_map f values others alike (row values kinds prims.Subtract) (row others kinds prims.Subtract).does ((λ i j. answers_map f values others alike (fitting ops.Overflow (i -ℤ j))))
  performs prims.Multiply = row_map f values others alike (row values kinds prims.Multiply) (row others kinds prims.Multiply).does ((λ i j. answers_map f values others alike (fitting ops.Overflow (i *ℤ j))))
  performs prims.Quotient = row_map f values others alike (row values kinds prims.Quotient) (row others kinds prims.Quotient).does ((λ i j. answers_map f values others alike (dividing int_div i j)))
  performs prims.Remainder = row_map f values others alike (row values kinds prims.Remainder) (row others kinds prims.Remainder).does ((λ i j. answers_map f values others alike (dividing int_rem i j)))
  performs prims.Modulo = row_map f values others alike (row values kinds prims.Modulo) (row others kinds prims.Modulo).does ((λ i j. answers_map f values others alike (dividing modulo i j)))
  performs prims.Equal = row_map f values others alike (row values kinds prims.Equal) (row others kinds prims.Equal).does ((λ i j. gives_map f values others alike (int_eq i j)))
  performs prims.Less = row_map f values others alike (row values kinds prims.Less) (row others kinds prims.Less).does ((λ i j. gives_map f values others alike (int_lt i j)))
  performs prims.Greater = row_map f values others alike (row values kinds prims.Greater) (row others kinds prims.Greater).does ((λ i j. gives_map f values others alike (int_lt j i)))
  performs prims.LessOrEqual = row_map f values others alike (row values kinds prims.LessOrEqual) (row others kinds prims.LessOrEqual).does ((λ i j. gives_map f values others alike (not (int_lt j i))))
  performs prims.GreaterOrEqual = row_map f values others alike (row values kinds prims.GreaterOrEqual) (row others kinds prims.GreaterOrEqual).does ((λ i j. gives_map f values others alike (not (int_lt i j))))
  performs prims.IsZero = row_map f values others alike (row values kinds prims.IsZero) (row others kinds prims.IsZero).does ((λ i. gives_map f values others alike (is_zero i)))
  performs prims.IsPositive = row_map f values others alike (row values kinds prims.IsPositive) (row others kinds prims.IsPositive).does ((λ i. gives_map f values others alike (int_lt (pos 0) i)))
  performs prims.IsNegative = row_map f values others alike (row values kinds prims.IsNegative) (row others kinds prims.IsNegative).does ((λ i. gives_map f values others alike (is_negative i)))
  performs prims.BitwiseAnd = row_map f values others alike (row values kinds prims.BitwiseAnd) (row others kinds prims.BitwiseAnd).does ((λ i j. answers_map f values others alike (Ok (int_bit_and w64 i j))))
  performs prims.BitwiseOr = row_map f values others alike (row values kinds prims.BitwiseOr) (row others kinds prims.BitwiseOr).does ((λ i j. answers_map f values others alike (Ok (int_bit_or w64 i j))))
  performs prims.BitwiseXor = row_map f values others alike (row values kinds prims.BitwiseXor) (row others kinds prims.BitwiseXor).does ((λ i j. answers_map f values others alike (Ok (int_bit_xor w64 i j))))
  performs prims.BitwiseNot = row_map f values others alike (row values kinds prims.BitwiseNot) (row others kinds prims.BitwiseNot).does ((λ i. gives_map f values others alike (int_bit_not w64 i)))
  performs prims.ShiftLeft = row_map f values others alike (row values kinds prims.ShiftLeft) (row others kinds prims.ShiftLeft).does ((λ i j. answers_map f values others alike (shifting (λ i k. int_shl w64 i k) i j)))
  performs prims.ArithmeticShiftRight = row_map f values others alike (row values kinds prims.ArithmeticShiftRight) (row others kinds prims.ArithmeticShiftRight).does ((λ i j. answers_map f values others alike (shifting int_shr i j)))
  performs prims.LogicalShiftRight = row_map f values others alike (row values kinds prims.LogicalShiftRight) (row others kinds prims.LogicalShiftRight).does ((λ i j. answers_map f values others alike (shifting logical_shr i j)))
  performs prims.Not = row_map f values others alike (row values kinds prims.Not) (row others kinds prims.Not).does ((λ b. gives_map f values others alike (not b)))
  performs prims.BooleanEqual = row_map f values others alike (row values kinds prims.BooleanEqual) (row others kinds prims.BooleanEqual).does ((λ a b. gives_map f values others alike (is_same a b)))
  performs prims.CharEqual = row_map f values others alike (row values kinds prims.CharEqual) (row others kinds prims.CharEqual).does ((λ c d. gives_map f values others alike (nat_eq c d)))
  performs prims.CharLess = row_map f values others alike (row values kinds prims.CharLess) (row others kinds prims.CharLess).does ((λ c d. gives_map f values others alike (nat_lt c d)))
  performs prims.CharToAscii = row_map f values others alike (row values kinds prims.CharToAscii) (row others kinds prims.CharToAscii).does ((λ c. gives_map f values others alike (pos c)))
  performs prims.AsciiToChar = row_map f values others alike (row values kinds prims.AsciiToChar) (row others kinds prims.AsciiToChar).does ((λ i. answers_map f values others alike (char_of i)))
  performs prims.Unspecific = row_map f values others alike (row values kinds prims.Unspecific) (row others kinds prims.Unspecific).does ((gives_map f values others alike tt))
  performs prims.StringLength = row_map f values others alike (row values kinds prims.StringLength) (row others kinds prims.StringLength).does ((λ p. finds_map f values others alike (λ m. store.text_length m p) (λ m. store.text_length m p) (λ n. events.Length p n ∷ []) (λ m. text_length_map f m p)))
  performs prims.StringRef = row_map f values others alike (row values kinds prims.StringRef) (row others kinds prims.StringRef).does ((λ p k. finds_map f values others alike (λ m. and_then (store.text_at m p k) char_of) (λ m. and_then (store.text_at m p k) char_of) (λ c. events.Load (plus p k) (pos c) ∷ []) (λ m. ap (λ r. and_then r char_of) (text_at_map f m p k))))
  performs prims.MakeVector = row_map f values others alike (row values kinds prims.MakeVector) (row others kinds prims.MakeVector).does ((λ n x. vector_of_map f values others alike n x))
  performs prims.VectorRef = row_map f values others alike (row values kinds prims.VectorRef) (row others kinds prims.VectorRef).does ((λ p k. finds_in f values others alike f (λ m. store.get m p k) (λ m. store.get m p k) (λ x. events.Get (plus p k) (values.word x) ∷ []) (λ x. events.Get (plus p k) (others.word x) ∷ []) (λ m. get_map f m p k) (λ x. ap (λ y. events.Get (plus p k) y ∷ []) (alike.word x))))
  performs prims.VectorSet = row_map f values others alike (row values kinds prims.VectorSet) (row others kinds prims.VectorSet).does ((λ p k x. changes_map f values others alike (λ m. store.put m p k x) (λ m. store.put m p k (f x)) (events.Put (plus p k) (values.word x)) (events.Put (plus p k) (others.word (f x))) (λ m. put_map f m p k x) (ap (λ y. events.Put (plus p k) y) (alike.word x))))
  performs prims.IsNullVector = row_map f values others alike (row values kinds prims.IsNullVector) (row others kinds prims.IsNullVector).does ((λ p. finds_map f values others alike (λ m. store.is_null m p) (λ m. store.is_null m p) unseen (λ m. is_null_map f m p)))
  performs prims.DeallocateVector = row_map f values others alike (row values kinds prims.DeallocateVector) (row others kinds prims.DeallocateVector).does ((λ p. changes_map f values others alike (λ m. store.release m p) (λ m. store.release m p) (events.Free p) (events.Free p) (λ m. release_map f m p) refl))
  performs prims.ReadByte = row_map f values others alike (row values kinds prims.ReadByte) (row others kinds prims.ReadByte).does (reads_map f values others alike)
  performs prims.WriteByte = row_map f values others alike (row values kinds prims.WriteByte) (row others kinds prims.WriteByte).does ((λ i. writes_map f values others alike i))
  performs prims.NullAddress = row_map f values others alike (row values kinds prims.NullAddress) (row others kinds prims.NullAddress).does ((gives_map f values others alike Null))
  performs prims.IsNullAddress = row_map f values others alike (row values kinds prims.IsNullAddress) (row others kinds prims.IsNullAddress).does ((λ p. finds_map f values others alike (λ m. store.is_null m p) (λ m. store.is_null m p) unseen (λ m. is_null_map f m p)))
  performs prims.AllocateMemory = row_map f values others alike (row values kinds prims.AllocateMemory) (row others kinds prims.AllocateMemory).does ((λ n. makes_map f values others alike (λ m w. store.allocate m w n) (λ m w. store.allocate m w n) (λ p. events.Allocate n p) (λ p. events.Allocate n p) (λ m w. allocate_map f m w n) (λ p. refl)))
  performs prims.DeallocateMemory = row_map f values others alike (row values kinds prims.DeallocateMemory) (row others kinds prims.DeallocateMemory).does ((λ p. changes_map f values others alike (λ m. store.release m p) (λ m. store.release m p) (events.Free p) (events.Free p) (λ m. release_map f m p) refl))
  performs prims.UnsignedByteRef = row_map f values others alike (row values kinds prims.UnsignedByteRef) (row others kinds prims.UnsignedByteRef).does ((λ p. finds_map f values others alike (λ m. store.load m p) (λ m. store.load m p) (λ n. events.Load p n ∷ []) (λ m. load_map f m p)))
  performs prims.UnsignedByteSet = row_map f values others alike (row values kinds prims.UnsignedByteSet) (row others kinds prims.UnsignedByteSet).does ((λ p n. changes_map f values others alike (λ m. store.set_byte m p n) (λ m. store.set_byte m p n) (events.Keep p n) (events.Keep p n) (λ m. set_byte_map f m p n) refl))
  performs prims.WordRef = row_map f values others alike (row values kinds prims.WordRef) (row others kinds prims.WordRef).does ((λ p. finds_map f values others alike (λ m. store.load_word m p) (λ m. store.load_word m p) (λ n. events.LoadWord p n ∷ []) (λ m. load_word_map f m p)))
  performs prims.WordSet = row_map f values others alike (row values kinds prims.WordSet) (row others kinds prims.WordSet).does ((λ p n. changes_map f values others alike (λ m. store.set_word m p n) (λ m. store.set_word m p n) (events.KeepWord p n) (events.KeepWord p n) (λ m. set_word_map f m p n) refl))
  performs prims.AddressAdd = row_map f values others alike (row values kinds prims.AddressAdd) (row others kinds prims.AddressAdd).does ((λ p k. finds_map f values others alike (λ m. store.moved m p k) (λ m. store.moved m p k) unseen (λ m. moved_map f m p k)))
  performs prims.AddressDifference = row_map f values others alike (row values kinds prims.AddressDifference) (row others kinds prims.AddressDifference).does ((λ p q. finds_map f values others alike (λ m. store.difference m p q) (λ m. store.difference m p q) unseen (λ m. difference_map f m p q)))
  performs prims.AddressEqual = row_map f values others alike (row values kinds prims.AddressEqual) (row others kinds prims.AddressEqual).does ((λ p q. finds_map f values others alike (λ m. store.same m p q) (λ m. store.same m p q) unseen (λ m. same_map f m p q)))
  performs prims.AddressLess = row_map f values others alike (row values kinds prims.AddressLess) (row others kinds prims.AddressLess).does ((λ p q. finds_map f values others alike (λ m. store.before m p q) (λ m. store.before m p q) unseen (λ m. before_map f m p q)))
  performs prims.StringAppend = row_map f values others alike (row values kinds prims.StringAppend) (row others kinds prims.StringAppend).does ((λ p q. appended_map f values others alike p q))
  performs prims.StringEqual = row_map f values others alike (row values kinds prims.StringEqual) (row others kinds prims.StringEqual).does ((λ p q. finds_map f values others alike (λ m. equal_texts m p q) (λ m. equal_texts m p q) unseen (λ m. equal_texts_map f values others alike p q m)))
  performs prims.VectorLength = row_map f values others alike (row values kinds prims.VectorLength) (row others kinds prims.VectorLength).does ((λ p. finds_map f values others alike (λ m. store.cell_count m p) (λ m. store.cell_count m p) unseen (λ m. cell_count_map f m p)))
  performs (prims.Maker k) = row_map f values others alike (row values kinds (prims.Maker k)) (row others kinds (prims.Maker k)).does (maker_map f values others alike kinds k)
  performs (prims.Predicate k) = row_map f values others alike (row values kinds (prims.Predicate k)) (row others kinds (prims.Predicate k)).does (predicate_map f values others alike)
  performs (prims.Accessor k field) = row_map f values others alike (row values kinds (prims.Accessor k field)) (row others kinds (prims.Accessor k field)).does (accessor_map f values others alike field)
  performs (prims.Modifier k field) = row_map f values others alike (row values kinds (prims.Modifier k field)) (row others kinds (prims.Modifier k field)).does (modifier_map f values others alike kinds k field)

  -- ---- cells

  -- what is asked for in a memory
  abbrev Asks : (Memory A → ℕ) → (Memory B → ℕ) → Type 0
  Asks r t = (m : Memory A) → t (map_memory f m) ≡ r m

  none_asked : (ss : List Sort) → Takes f values others alike Asks ss (collecting values ss (λ vs m. 0)) (collecting others ss (λ vs m. 0))
  none_asked ss = collecting_map f values others alike Asks ss (λ vs m. 0) (λ vs m. 0) (λ vs m. refl)

  counted_map : (o : Option (Memory A → ℕ)) (p : Option (Memory B → ℕ)) → Both f values others alike Asks o p → (m : Memory A) → counted p (map_memory f m) ≡ counted o m
  counted_map None None h m = refl
  counted_map None (Some t) h m = absurd h
  counted_map (Some r) None h m = absurd h
  counted_map (Some r) (Some t) h m = h m

  asked_by : (ss : List Sort) (r : Taking A ss (Memory A → ℕ)) (t : Taking B ss (Memory B → ℕ)) → Takes f values others alike Asks ss r t → (vs : List A) (m : Memory A)
      → counted (applied others ss t (map f vs)) (map_memory f m) ≡ counted (applied values ss r vs) m
  asked_by ss r t h vs m = counted_map (applied values ss r vs) (applied others ss t (map f vs)) (applied_map f values others alike Asks ss r t h vs) m

  asked_map : (p : PrimName) (vs : List A) (m : Memory A) → asked others kinds p (map f vs) (map_memory f m) ≡ asked values kinds p vs m
  asked_map prims.Add vs m = asked_by (row values kinds prims.Add).operands (asks values kinds prims.Add) (asks others kinds prims.Add) (none_asked (row values kinds prims.Add).operands) vs m
  asked_map prims.Subtract vs m = asked_by (row values kinds prims.Subtract).operands (asks values kinds prims.Subtract) (asks others kinds prims.Subtract) (none_asked (row values kinds prims.Subtract).operands) vs m
  asked_map prims.Multiply vs m = asked_by (row values kinds prims.Multiply).operands (asks values kinds prims.Multiply) (asks others kinds prims.Multiply) (none_asked (row values kinds prims.Multiply).operands) vs m
  asked_map prims.Quotient vs m = asked_by (row values kinds prims.Quotient).operands (asks values kinds prims.Quotient) (asks others kinds prims.Quotient) (none_asked (row values kinds prims.Quotient).operands) vs m
  asked_map prims.Remainder vs m = asked_by (row values kinds prims.Remainder).operands (asks values kinds prims.Remainder) (asks others kinds prims.Remainder) (none_asked (row values kinds prims.Remainder).operands) vs m
  asked_map prims.Modulo vs m = asked_by (row values kinds prims.Modulo).operands (asks values kinds prims.Modulo) (asks others kinds prims.Modulo) (none_asked (row values kinds prims.Modulo).operands) vs m
  asked_map prims.Equal vs m = asked_by (row values kinds prims.Equal).operands (asks values kinds prims.Equal) (asks others kinds prims.Equal) (none_asked (row values kinds prims.Equal).operands) vs m
  asked_map prims.Less vs m = asked_by (row values kinds prims.Less).operands (asks values kinds prims.Less) (asks others kinds prims.Less) (none_asked (row values kinds prims.Less).operands) vs m
  asked_map prims.Greater vs m = asked_by (row values kinds prims.Greater).operands (asks values kinds prims.Greater) (asks others kinds prims.Greater) (none_asked (row values kinds prims.Greater).operands) vs m
  asked_map prims.LessOrEqual vs m = asked_by (row values kinds prims.LessOrEqual).operands (asks values kinds prims.LessOrEqual) (asks others kinds prims.LessOrEqual) (none_asked (row values kinds prims.LessOrEqual).operands) vs m
  asked_map prims.GreaterOrEqual vs m = asked_by (row values kinds prims.GreaterOrEqual).operands (asks values kinds prims.GreaterOrEqual) (asks others kinds prims.GreaterOrEqual) (none_asked (row values kinds prims.GreaterOrEqual).operands) vs m
  asked_map prims.IsZero vs m = asked_by (row values kinds prims.IsZero).operands (asks values kinds prims.IsZero) (asks others kinds prims.IsZero) (none_asked (row values kinds prims.IsZero).operands) vs m
  asked_map prims.IsPositive vs m = asked_by (row values kinds prims.IsPositive).operands (asks values kinds prims.IsPositive) (asks others kinds prims.IsPositive) (none_asked (row values kinds prims.IsPositive).operands) vs m
  asked_map prims.IsNegative vs m = asked_by (row values kinds prims.IsNegative).operands (asks values kinds prims.IsNegative) (asks others kinds prims.IsNegative) (none_asked (row values kinds prims.IsNegative).operands) vs m
  asked_map prims.BitwiseAnd vs m = asked_by (row values kinds prims.BitwiseAnd).operands (asks values kinds prims.BitwiseAnd) (asks others kinds prims.BitwiseAnd) (none_asked (row values kinds prims.BitwiseAnd).operands) vs m
  asked_map prims.BitwiseOr vs m = asked_by (row values kinds prims.BitwiseOr).operands (asks values kinds prims.BitwiseOr) (asks others kinds prims.BitwiseOr) (none_asked (row values kinds prims.BitwiseOr).operands) vs m
  asked_map prims.BitwiseXor vs m = asked_by (row values kinds prims.BitwiseXor).operands (asks values kinds prims.BitwiseXor) (asks others kinds prims.BitwiseXor) (none_asked (row values kinds prims.BitwiseXor).operands) vs m
  asked_map prims.BitwiseNot vs m = asked_by (row values kinds prims.BitwiseNot).operands (asks values kinds prims.BitwiseNot) (asks others kinds prims.BitwiseNot) (none_asked (row values kinds prims.BitwiseNot).operands) vs m
  asked_map prims.ShiftLeft vs m = asked_by (row values kinds prims.ShiftLeft).operands (asks values kinds prims.ShiftLeft) (asks others kinds prims.ShiftLeft) (none_asked (row values kinds prims.ShiftLeft).operands) vs m
  asked_map prims.ArithmeticShiftRight vs m = asked_by (row values kinds prims.ArithmeticShiftRight).operands (asks values kinds prims.ArithmeticShiftRight) (asks others kinds prims.ArithmeticShiftRight) (none_asked (row values kinds prims.ArithmeticShiftRight).operands) vs m
  asked_map prims.LogicalShiftRight vs m = asked_by (row values kinds prims.LogicalShiftRight).operands (asks values kinds prims.LogicalShiftRight) (asks others kinds prims.LogicalShiftRight) (none_asked (row values kinds prims.LogicalShiftRight).operands) vs m
  asked_map prims.Not vs m = asked_by (row values kinds prims.Not).operands (asks values kinds prims.Not) (asks others kinds prims.Not) (none_asked (row values kinds prims.Not).operands) vs m
  asked_map prims.BooleanEqual vs m = asked_by (row values kinds prims.BooleanEqual).operands (asks values kinds prims.BooleanEqual) (asks others kinds prims.BooleanEqual) (none_asked (row values kinds prims.BooleanEqual).operands) vs m
  asked_map prims.CharEqual vs m = asked_by (row values kinds prims.CharEqual).operands (asks values kinds prims.CharEqual) (asks others kinds prims.CharEqual) (none_asked (row values kinds prims.CharEqual).operands) vs m
  asked_map prims.CharLess vs m = asked_by (row values kinds prims.CharLess).operands (asks values kinds prims.CharLess) (asks others kinds prims.CharLess) (none_asked (row values kinds prims.CharLess).operands) vs m
  asked_map prims.CharToAscii vs m = asked_by (row values kinds prims.CharToAscii).operands (asks values kinds prims.CharToAscii) (asks others kinds prims.CharToAscii) (none_asked (row values kinds prims.CharToAscii).operands) vs m
  asked_map prims.AsciiToChar vs m = asked_by (row values kinds prims.AsciiToChar).operands (asks values kinds prims.AsciiToChar) (asks others kinds prims.AsciiToChar) (none_asked (row values kinds prims.AsciiToChar).operands) vs m
  asked_map prims.Unspecific vs m = asked_by (row values kinds prims.Unspecific).operands (asks values kinds prims.Unspecific) (asks others kinds prims.Unspecific) (none_asked (row values kinds prims.Unspecific).operands) vs m
  asked_map prims.StringLength vs m = asked_by (row values kinds prims.StringLength).operands (asks values kinds prims.StringLength) (asks others kinds prims.StringLength) (none_asked (row values kinds prims.StringLength).operands) vs m
  asked_map prims.StringRef vs m = asked_by (row values kinds prims.StringRef).operands (asks values kinds prims.StringRef) (asks others kinds prims.StringRef) (none_asked (row values kinds prims.StringRef).operands) vs m
  asked_map prims.MakeVector vs m = asked_by (row values kinds prims.MakeVector).operands (asks values kinds prims.MakeVector) (asks others kinds prims.MakeVector) (λ n x m. refl) vs m
  asked_map prims.VectorRef vs m = asked_by (row values kinds prims.VectorRef).operands (asks values kinds prims.VectorRef) (asks others kinds prims.VectorRef) (none_asked (row values kinds prims.VectorRef).operands) vs m
  asked_map prims.VectorSet vs m = asked_by (row values kinds prims.VectorSet).operands (asks values kinds prims.VectorSet) (asks others kinds prims.VectorSet) (none_asked (row values kinds prims.VectorSet).operands) vs m
  asked_map prims.IsNullVector vs m = asked_by (row values kinds prims.IsNullVector).operands (asks values kinds prims.IsNullVector) (asks others kinds prims.IsNullVector) (none_asked (row values kinds prims.IsNullVector).operands) vs m
  asked_map prims.DeallocateVector vs m = asked_by (row values kinds prims.DeallocateVector).operands (asks values kinds prims.DeallocateVector) (asks others kinds prims.DeallocateVector) (none_asked (row values kinds prims.DeallocateVector).operands) vs m
  asked_map prims.ReadByte vs m = asked_by (row values kinds prims.ReadByte).operands (asks values kinds prims.ReadByte) (asks others kinds prims.ReadByte) (none_asked (row values kinds prims.ReadByte).operands) vs m
  asked_map prims.WriteByte vs m = asked_by (row values kinds prims.WriteByte).operands (asks values kinds prims.WriteByte) (asks others kinds prims.WriteByte) (none_asked (row values kinds prims.WriteByte).operands) vs m
  asked_map prims.NullAddress vs m = asked_by (row values kinds prims.NullAddress).operands (asks values kinds prims.NullAddress) (asks others kinds prims.NullAddress) (none_asked (row values kinds prims.NullAddress).operands) vs m
  asked_map prims.IsNullAddress vs m = asked_by (row values kinds prims.IsNullAddress).operands (asks values kinds prims.IsNullAddress) (asks others kinds prims.IsNullAddress) (none_asked (row values kinds prims.IsNullAddress).operands) vs m
  asked_map prims.AllocateMemory vs m = asked_by (row values kinds prims.AllocateMemory).operands (asks values kinds prims.AllocateMemory) (asks others kinds prims.AllocateMemory) (λ n m. refl) vs m
  asked_map prims.DeallocateMemory vs m = asked_by (row values kinds prims.DeallocateMemory).operands (asks values kinds prims.DeallocateMemory) (asks others kinds prims.DeallocateMemory) (none_asked (row values kinds prims.DeallocateMemory).operands) vs m
  asked_map prims.UnsignedByteRef vs m = asked_by (row values kinds prims.UnsignedByteRef).operands (asks values kinds prims.UnsignedByteRef) (asks others kinds prims.UnsignedByteRef) (none_asked (row values kinds prims.UnsignedByteRef).operands) vs m
  asked_map prims.UnsignedByteSet vs m = asked_by (row values kinds prims.UnsignedByteSet).operands (asks values kinds prims.UnsignedByteSet) (asks others kinds prims.UnsignedByteSet) (none_asked (row values kinds prims.UnsignedByteSet).operands) vs m
  asked_map prims.WordRef vs m = asked_by (row values kinds prims.WordRef).operands (asks values kinds prims.WordRef) (asks others kinds prims.WordRef) (none_asked (row values kinds prims.WordRef).operands) vs m
  asked_map prims.WordSet vs m = asked_by (row values kinds prims.WordSet).operands (asks values kinds prims.WordSet) (asks others kinds prims.WordSet) (none_asked (row values kinds prims.WordSet).operands) vs m
  asked_map prims.AddressAdd vs m = asked_by (row values kinds prims.AddressAdd).operands (asks values kinds prims.AddressAdd) (asks others kinds prims.AddressAdd) (none_asked (row values kinds prims.AddressAdd).operands) vs m
  asked_map prims.AddressDifference vs m = asked_by (row values kinds prims.AddressDifference).operands (asks values kinds prims.AddressDifference) (asks others kinds prims.AddressDifference) (none_asked (row values kinds prims.AddressDifference).operands) vs m
  asked_map prims.AddressEqual vs m = asked_by (row values kinds prims.AddressEqual).operands (asks values kinds prims.AddressEqual) (asks others kinds prims.AddressEqual) (none_asked (row values kinds prims.AddressEqual).operands) vs m
  asked_map prims.AddressLess vs m = asked_by (row values kinds prims.AddressLess).operands (asks values kinds prims.AddressLess) (asks others kinds prims.AddressLess) (none_asked (row values kinds prims.AddressLess).operands) vs m
  asked_map prims.StringAppend vs m = asked_by (row values kinds prims.StringAppend).operands (asks values kinds prims.StringAppend) (asks others kinds prims.StringAppend) (λ p q m. ap (λ r. for_texts r (store.text (map_memory f m) q)) (text_map f m p) ∙ ap (λ r. for_texts (store.text m p) r) (text_map f m q)) vs m
  asked_map prims.StringEqual vs m = asked_by (row values kinds prims.StringEqual).operands (asks values kinds prims.StringEqual) (asks others kinds prims.StringEqual) (none_asked (row values kinds prims.StringEqual).operands) vs m
  asked_map prims.VectorLength vs m = asked_by (row values kinds prims.VectorLength).operands (asks values kinds prims.VectorLength) (asks others kinds prims.VectorLength) (none_asked (row values kinds prims.VectorLength).operands) vs m
  asked_map (prims.Maker k) vs m = asked_by (row values kinds (prims.Maker k)).operands (asks values kinds (prims.Maker k)) (asks others kinds (prims.Maker k)) (collecting_map f values others alike Asks (row values kinds (prims.Maker k)).operands (λ vs m. for_cells (pos (length (fields kinds k)))) (λ vs m. for_cells (pos (length (fields kinds k)))) (λ vs m. refl)) vs m
  asked_map (prims.Predicate k) vs m = asked_by (row values kinds (prims.Predicate k)).operands (asks values kinds (prims.Predicate k)) (asks others kinds (prims.Predicate k)) (none_asked (row values kinds (prims.Predicate k)).operands) vs m
  asked_map (prims.Accessor k field) vs m = asked_by (row values kinds (prims.Accessor k field)).operands (asks values kinds (prims.Accessor k field)) (asks others kinds (prims.Accessor k field)) (none_asked (row values kinds (prims.Accessor k field)).operands) vs m
  asked_map (prims.Modifier k field) vs m = asked_by (row values kinds (prims.Modifier k field)).operands (asks values kinds (prims.Modifier k field)) (asks others kinds (prims.Modifier k field)) (none_asked (row values kinds (prims.Modifier k field)).operands) vs m

  asked_at_map : (p : PrimName) (vs : List A) (stage : Stage) (s : Scene A) → asked_at others kinds p (map f vs) stage (map_scene f s) ≡ asked_at values kinds p vs stage s
  asked_at_map p vs Compile s = asked_map p vs s.memory
  asked_at_map p vs Run s = ap (λ n. if next_grant s.world.grants then n else 0) (asked_map p vs s.memory)

module _ {A B : Type 0} (f : A → B) (values : Values A) (others : Values B) (alike : SeenAlike f values others) where
  pub rows_natural : RowsAreNatural f values others
  rows_natural = record { performs = λ kinds p vs stage s. performs f values others alike kinds p vs stage s; asks = λ kinds p vs stage s. asked_at_map f values others alike kinds p vs stage s }
