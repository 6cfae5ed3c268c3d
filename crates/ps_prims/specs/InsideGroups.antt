-- The rows of the groups that are performed alike. No public clause cites this file.
use Rattle.std.specs.Prelude.{List, []}
use Rattle.ps_base.specs.declared.language.PrimName.TheVariants as prims
use Rattle.ps_types.specs.declared.types.RecordKind.{RecordKind}
use Rattle.byte_store.specs.declared.pointer.Value.{Value}
use Rattle.ps_prims.specs.declared.groups.Group.{Group}
use Rattle.ps_prims.specs.declared.groups.Group.TheVariants as groups
use Rattle.ps_prims.specs.declared.groups.Plain.{Plain}
use Rattle.ps_prims.specs.declared.groups.Plain.TheVariants as plain
use Rattle.ps_prims.specs.declared.groups.Look.{Look}
use Rattle.ps_prims.specs.declared.groups.Look.TheVariants as look
use Rattle.ps_prims.specs.declared.groups.Glance.{Glance}
use Rattle.ps_prims.specs.declared.groups.Glance.TheVariants as glance
use Rattle.ps_prims.specs.declared.groups.Change.{Change}
use Rattle.ps_prims.specs.declared.groups.Change.TheVariants as change
use Rattle.ps_prims.specs.declared.groups.Make.{Make}
use Rattle.ps_prims.specs.declared.groups.Make.TheVariants as make
use Rattle.ps_prims.specs.declared.groups.OnRecord.{OnRecord}
use Rattle.ps_prims.specs.declared.groups.OnRecord.TheVariants as on
use Rattle.ps_prims.specs.Sorts.{first_order}
use Rattle.ps_prims.specs.Rows.{Row, row, arithmetic, comparison, test}
use Rattle.ps_prims.specs.Needs.{Need, Nothing, Events, Blocks}
use Rattle.ps_prims.specs.Inside.{calculated, divided, shifted, compared, tested}

abbrev pub plain_row : Plain → Row Value
plain_row plain.BitwiseNot = row first_order [] prims.BitwiseNot
plain_row plain.Not = row first_order [] prims.Not
plain_row plain.BooleanEqual = row first_order [] prims.BooleanEqual
plain_row plain.CharEqual = row first_order [] prims.CharEqual
plain_row plain.CharLess = row first_order [] prims.CharLess
plain_row plain.CharToAscii = row first_order [] prims.CharToAscii
plain_row plain.AsciiToChar = row first_order [] prims.AsciiToChar
plain_row plain.Unspecific = row first_order [] prims.Unspecific
plain_row plain.NullAddress = row first_order [] prims.NullAddress

abbrev pub look_row : Look → Row Value
look_row look.StringLength = row first_order [] prims.StringLength
look_row look.StringRef = row first_order [] prims.StringRef
look_row look.VectorRef = row first_order [] prims.VectorRef
look_row look.ByteRef = row first_order [] prims.UnsignedByteRef
look_row look.WordRef = row first_order [] prims.WordRef

abbrev pub glance_row : Glance → Row Value
glance_row glance.IsNullVector = row first_order [] prims.IsNullVector
glance_row glance.IsNullAddress = row first_order [] prims.IsNullAddress
glance_row glance.AddressAdd = row first_order [] prims.AddressAdd
glance_row glance.AddressDifference = row first_order [] prims.AddressDifference
glance_row glance.AddressEqual = row first_order [] prims.AddressEqual
glance_row glance.AddressLess = row first_order [] prims.AddressLess
glance_row glance.VectorLength = row first_order [] prims.VectorLength

abbrev pub change_row : Change → Row Value
change_row change.VectorSet = row first_order [] prims.VectorSet
change_row change.DeallocateVector = row first_order [] prims.DeallocateVector
change_row change.DeallocateMemory = row first_order [] prims.DeallocateMemory
change_row change.ByteSet = row first_order [] prims.UnsignedByteSet
change_row change.WordSet = row first_order [] prims.WordSet

abbrev pub make_row : Make → Row Value
make_row make.Vector = row first_order [] prims.MakeVector
make_row make.Memory = row first_order [] prims.AllocateMemory
make_row make.String = row first_order [] prims.StringAppend
make_row make.StringEqual = row first_order [] prims.StringEqual

abbrev pub record_row : List RecordKind → OnRecord → Row Value
record_row kinds (on.Maker k) = row first_order kinds (prims.Maker k)
record_row kinds (on.Predicate k) = row first_order kinds (prims.Predicate k)
record_row kinds (on.Accessor k f) = row first_order kinds (prims.Accessor k f)
record_row kinds (on.Modifier k f) = row first_order kinds (prims.Modifier k f)

abbrev pub record_need : OnRecord → Need
record_need (on.Maker k) = Blocks
record_need (on.Predicate k) = Nothing
record_need (on.Accessor k f) = Events
record_need (on.Modifier k f) = Events

abbrev pub group_row : List RecordKind → Group → Row Value
group_row kinds (groups.Arithmetic o) = arithmetic first_order (calculated o)
group_row kinds (groups.Division o) = arithmetic first_order (divided o)
group_row kinds (groups.Shift o) = arithmetic first_order (shifted o)
group_row kinds (groups.Comparison o) = comparison first_order (compared o)
group_row kinds (groups.Sign o) = test first_order (tested o)
group_row kinds (groups.Plain o) = plain_row o
group_row kinds (groups.Look o) = look_row o
group_row kinds (groups.Glance o) = glance_row o
group_row kinds (groups.Change o) = change_row o
group_row kinds (groups.Make o) = make_row o
group_row kinds (groups.OnRecord o) = record_row kinds o
group_row kinds groups.ReadByte = row first_order [] prims.ReadByte
group_row kinds groups.WriteByte = row first_order [] prims.WriteByte

abbrev pub group_need : Group → Need
group_need (groups.Arithmetic o) = Nothing
group_need (groups.Division o) = Nothing
group_need (groups.Shift o) = Nothing
group_need (groups.Comparison o) = Nothing
group_need (groups.Sign o) = Nothing
group_need (groups.Plain o) = Nothing
group_need (groups.Look o) = Events
group_need (groups.Glance o) = Nothing
group_need (groups.Change o) = Events
group_need (groups.Make o) = Blocks
group_need (groups.OnRecord o) = record_need o
group_need groups.ReadByte = Events
group_need groups.WriteByte = Events
