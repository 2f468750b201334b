-- The wire form of Protocol Buffers (https://protobuf.dev/programming-guides/encoding): which bytes are which fields, and
-- what is wrong with bytes that are none.
use Rattle.std.specs.Prelude.{◌≡◌, ℕ, ◌+◌, ◌-◌, ◌*◌, ◌/◌, ◌%◌, ◌^◌, ◌<◌, ◌≤◌, ◌⊎◌, List, [], ◌∷◌, ◌++◌, length}
use Rattle.std.specs.Int.{w32, w64, from_le_bytes}
use Rattle.std.specs.List.{AllByRecursion}
use Rattle.proto_wire.specs.declared.fault.WireFault.{WireFault}
use Rattle.proto_wire.specs.declared.fault.WireFault.TheVariants.{Cut, LongVarint, WireType, FieldNumber}

-- The value of a field: a varint, eight bytes as a number, bytes, or four bytes as a number.
pub data WireValue : Type 0 where
  VarintValue : ℕ → WireValue
  Fixed64Value : ℕ → WireValue
  BytesValue : List ℕ → WireValue
  Fixed32Value : ℕ → WireValue

-- A field: its number and its value.
pub record WireField : Type 0 where
  pub number : ℕ
  pub value : WireValue

-- a field whose value is a number, and one whose value is bytes
abbrev pub number_field : ℕ → ℕ → WireField
number_field field number = record { number = field; value = VarintValue number }

abbrev pub bytes_field : ℕ → List ℕ → WireField
bytes_field field bytes = record { number = field; value = BytesValue bytes }

-- the wire type of a value
abbrev pub wire_type : WireValue → ℕ
wire_type (VarintValue number) = 0
wire_type (Fixed64Value number) = 1
wire_type (BytesValue bytes) = 2
wire_type (Fixed32Value number) = 5

-- fields are numbered from 1 to 536,870,911
abbrev pub IsFieldNumber : ℕ → Type 0
IsFieldNumber number = (1 ≤ number) × (number < 2 ^ 29)

-- the number of bytes that have seven bits each, the lowest first
abbrev pub number_of_sevens : List ℕ → ℕ
number_of_sevens [] = 0
number_of_sevens (byte ∷ bytes) = byte % 128 + 128 * number_of_sevens bytes

-- bytes after each of which the varint goes on
abbrev pub AllGoOn : List ℕ → Type 0
AllGoOn bytes = AllByRecursion (λ byte. 128 ≤ byte) bytes

-- A spelling of a varint: at most ten bytes, of which the last alone is below 128, and the number is below 2 ^ 64.
pub record IsVarintOf (spelling : List ℕ) (number : ℕ) : Type 0 where
  pub front : List ℕ
  pub last : ℕ
  pub bytes : spelling ≡ front ++ last ∷ []
  pub goes_on : AllGoOn front
  pub ends : last < 128
  pub short : length spelling ≤ 10
  pub value : number ≡ number_of_sevens spelling
  pub fits : number < 2 ^ 64

-- a text begins with a varint of a number, and so much is left
abbrev pub HasVarint : List ℕ → ℕ → List ℕ → Type 0
HasVarint text number rest = (spelling : List ℕ) × (text ≡ spelling ++ rest) × IsVarintOf spelling number

-- a spelling of a value; the bytes of a value stand behind a varint of their length
abbrev pub IsValueOf : List ℕ → WireValue → Type 0
IsValueOf spelling (VarintValue number) = IsVarintOf spelling number
IsValueOf spelling (Fixed64Value number) = (length spelling ≡ 8) × (number ≡ from_le_bytes w64 spelling)
IsValueOf spelling (BytesValue bytes) = (opening : List ℕ) × (spelling ≡ opening ++ bytes) × IsVarintOf opening (length bytes)
IsValueOf spelling (Fixed32Value number) = (length spelling ≡ 4) × (number ≡ from_le_bytes w32 spelling)

-- A spelling of a field: a varint of eight times its number and the wire type, and then the value.
pub record IsFieldOf (spelling : List ℕ) (field : WireField) : Type 0 where
  pub numbered : IsFieldNumber field.number
  pub key : List ℕ
  pub value : List ℕ
  pub bytes : spelling ≡ key ++ value
  pub is_key : IsVarintOf key (8 * field.number + wire_type field.value)
  pub is_value : IsValueOf value field.value

-- a text begins with spellings of these items, one after the other, and so much is left
abbrev pub BeginsWithItems : {A : Type 0} → (List ℕ → A → Type 0) → List ℕ → List A → List ℕ → Type 0
BeginsWithItems IsSpelling text [] rest = text ≡ rest
BeginsWithItems IsSpelling text (item ∷ items) rest =
    (spelling : List ℕ) × (more : List ℕ) × (text ≡ spelling ++ more)
    × IsSpelling spelling item × BeginsWithItems IsSpelling more items rest

-- a text is these fields, one after the other
abbrev pub ReadsFields : List ℕ → List WireField → Type 0
ReadsFields text fields = BeginsWithItems IsFieldOf text fields []

-- a text is varints of these numbers, one after the other, as a packed field has them
abbrev pub ReadsVarints : List ℕ → List ℕ → Type 0
ReadsVarints text numbers = BeginsWithItems IsVarintOf text numbers []

-- What is wrong with a text that begins with no varint. It is cut if it ends before a tenth byte and each byte goes on. The
-- varint is too long if nine bytes go on and the tenth is above 1. The place is that of the field.
abbrev pub IsVarintFault : ℕ → List ℕ → WireFault → Type 0
IsVarintFault place text (Cut at) = (at ≡ place) × AllGoOn text × (length text < 10)
IsVarintFault place text (LongVarint at) =
    (at ≡ place) × (front : List ℕ) × (byte : ℕ) × (rest : List ℕ)
    × (text ≡ front ++ byte ∷ rest) × (length front ≡ 9) × AllGoOn front × (1 < byte)
IsVarintFault place text (WireType at) = ⊥
IsVarintFault place text (FieldNumber at) = ⊥

-- there are fewer bytes than the varint before them says
abbrev pub IsShortOfBytes : List ℕ → Type 0
IsShortOfBytes text = (count : ℕ) × (rest : List ℕ) × HasVarint text count rest × (length rest < count)

-- what is wrong with a text that begins with no value of a wire type
abbrev pub IsValueFault : ℕ → ℕ → List ℕ → WireFault → Type 0
IsValueFault place type text fault =
    (((type ≡ 0) ⊎ (type ≡ 2)) × IsVarintFault place text fault)
    ⊎ ((fault ≡ Cut place)
    × (((type ≡ 1) × (length text < 8)) ⊎ ((type ≡ 5) × (length text < 4)) ⊎ ((type ≡ 2) × IsShortOfBytes text)))
    ⊎ ((fault ≡ WireType place) × ((type ≡ 3) ⊎ (type ≡ 4) ⊎ (type ≡ 6) ⊎ (type ≡ 7)))

-- what is wrong behind a key: its number first, and then its value
abbrev pub IsFaultAfterKey : ℕ → ℕ → List ℕ → WireFault → Type 0
IsFaultAfterKey place key rest fault =
    ((fault ≡ FieldNumber place) × (IsFieldNumber (key / 8) → ⊥))
    ⊎ (IsFieldNumber (key / 8) × IsValueFault place (key % 8) rest fault)

-- what is wrong with a text that begins with no field
abbrev pub IsFieldFault : ℕ → List ℕ → WireFault → Type 0
IsFieldFault place text fault =
    IsVarintFault place text fault
    ⊎ ((key : ℕ) × (rest : List ℕ) × HasVarint text key rest × IsFaultAfterKey place key rest fault)

-- After these items something is left that begins with no further one. Its place is how many bytes stand before it.
abbrev pub IsFaultAfterItems : {A : Type 0} → (List ℕ → A → Type 0) → (ℕ → List ℕ → WireFault → Type 0) → List ℕ → List A → WireFault → Type 0
IsFaultAfterItems IsSpelling IsFault text items fault =
    (rest : List ℕ) × BeginsWithItems IsSpelling text items rest × (0 < length rest)
    × IsFault (length text - length rest) rest fault

-- the first fault of a text, which comes after these fields
abbrev pub IsFaultAfterFields : List ℕ → List WireField → WireFault → Type 0
IsFaultAfterFields text fields fault = IsFaultAfterItems IsFieldOf IsFieldFault text fields fault

-- the first fault of a packed field, which comes after these numbers
abbrev pub IsFaultAfterVarints : List ℕ → List ℕ → WireFault → Type 0
IsFaultAfterVarints text numbers fault = IsFaultAfterItems IsVarintOf IsVarintFault text numbers fault
