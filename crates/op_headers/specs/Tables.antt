-- Messages by their tables: which fields a message of a type has, and the rules by which any table is read and written.
use Rattle.std.specs.Prelude.{◌≡◌, ℕ, ◌%◌, ◌^◌, ◌<◌, ◌==◌, nat_lt, if◌then◌else◌, ◌⊎◌, List, [], ◌∷◌, ◌++◌, map, Option, Some, None, option_map, unwrap_or, Result, Ok, Err, IfSome}
use Rattle.std.specs.List.{flat_map}
use Rattle.hd_base.specs.Results.{◌>>=◌, with_cause, with_value}
use Rattle.proto_fields.specs.Fields.{Spells, FirstFault, fields_at}
use Rattle.proto_fields.specs.Values.{varint_of, last_of, last_part, parts, part_bytes}
use Rattle.proto_fields.specs.Inner.{joined, FindsInner, IsFaultyInner, inner}
use Rattle.proto_fields.specs.Writing.{varint_field, bytes_field}
use Rattle.proto_fields.specs.declared.reading.Wire.{Wire}
use Rattle.proto_fields.specs.declared.reading.Wire.TheVariants as wire
use Rattle.proto_fields.specs.declared.reading.WireFault.{WireFault}
use Rattle.op_headers.specs.Paths.{Path, only, below, both}

-- ---- tables

-- How a number is decoded by a varint: uint64 by all of it, bool by whether it isn't 0. Of uint32 and of enums the low 32 bits count,
-- and a number from the bound on counts as a field that isn't there.
pub data NumberKind : Type 0 where
  Uint64 : NumberKind
  Bool32 : NumberKind
  Below : (bound : ℕ) → NumberKind

abbrev pub uint32 : NumberKind
uint32 = Below (2 ^ 32)

-- Whether a field must be there, what it is where it isn't, or that it may be left out.
pub data Presence (X : Type 0) : Type 0 where
  Required : Presence X
  Default : (value : X) → Presence X
  Optional : Presence X

-- How a type of message is read and written: what a message says, a value or the first field that it misses; the first fault
-- that it has; both as a function of the bytes; and the written text of a value, and which values have one.
pub record Format (X : Type 0) : Type 1 where
  pub says : List ℕ → Result X Path → Type 0
  pub faulty : List ℕ → WireFault → Type 0
  pub read : List ℕ → Result (Result X Path) WireFault
  pub text : X → List ℕ
  pub fits : X → Type 0

-- The fields of a message in ascending number. A field holds a number, a text, a message, or each time that it is given a message more.
pub data Table : Type 1 where
  End : Table
  Number : (number : ℕ) (kind : NumberKind) (presence : Presence ℕ) (rest : Table) → Table
  Text : (number : ℕ) (presence : Presence (List ℕ)) (rest : Table) → Table
  Message : {X : Type 0} (number : ℕ) (format : Format X) (presence : Presence X) (rest : Table) → Table
  Messages : {X : Type 0} (number : ℕ) (format : Format X) (rest : Table) → Table

-- ---- what a message tells

-- what a field is once it is read
abbrev pub DecodedField : {X : Type 0} → Presence X → Type 0
DecodedField {X} Required = X
DecodedField {X} (Default d) = X
DecodedField {X} Optional = Option X

abbrev pub DecodedFields : Table → Type 0
DecodedFields End = Unit {0}
DecodedFields (Number number kind presence rest) = DecodedField presence × DecodedFields rest
DecodedFields (Text number presence rest) = DecodedField presence × DecodedFields rest
DecodedFields (Message {X} number format presence rest) = DecodedField presence × DecodedFields rest
DecodedFields (Messages {X} number format rest) = List X × DecodedFields rest

-- the number that a varint tells
abbrev pub decoded_number : NumberKind → ℕ → Option ℕ
decoded_number Uint64 n = Some n
decoded_number Bool32 n = Some (if n == 0 then 0 else 1)
decoded_number (Below bound) n = if nat_lt (n % 2 ^ 32) bound then Some (n % 2 ^ 32) else None

abbrev pub number_of : NumberKind → Wire → Option ℕ
number_of Uint64 value = varint_of value
number_of kind (wire.Varint n) = decoded_number kind n
number_of kind _ = None

-- the text of a singular field: its last part
abbrev pub text_under : ℕ → List ℕ → List (ℕ × Wire) → Option (List ℕ)
text_under number bytes fs = option_map (part_bytes bytes) (last_part number fs)

-- the bytes of each part of a repeated field, in order
abbrev pub texts_under : ℕ → List ℕ → List (ℕ × Wire) → List (List ℕ)
texts_under number bytes fs = map (part_bytes bytes) (parts number fs)

-- what a field is, where it was found or not
abbrev pub decoded_field : {X : Type 0} (presence : Presence X) → ℕ → Option X → Result (DecodedField presence) Path
decoded_field Required number None = Err (only number)
decoded_field Required number (Some x) = Ok x
decoded_field (Default d) number o = Ok (unwrap_or o d)
decoded_field Optional number o = Ok o

-- the same of a message, which may itself miss a field
abbrev pub decoded_message : {X : Type 0} (presence : Presence X) → ℕ → Option (Result X Path) →
    Result (DecodedField presence) Path
decoded_message presence number None = decoded_field presence number None
decoded_message presence number (Some (Ok x)) = decoded_field presence number (Some x)
decoded_message presence number (Some (Err p)) = Err (below number p)

-- one message more in front
abbrev pub more : {X : Type 0} → Result X Path → Result (List X) Path → Result (List X) Path
more x xs = with_value (λ p. p.0 ∷ p.1) (both x xs)

-- one message more behind
abbrev pub then_one : {X : Type 0} → Result (List X) Path → Result X Path → Result (List X) Path
then_one decoded x = with_value (λ p. p.0 ++ p.1 ∷ []) (both decoded x)

-- What each of several messages says.
abbrev pub EachSays : {X : Type 0} → (List ℕ → Result X Path → Type 0) → List (List ℕ) → Result (List X) Path → Type 0
EachSays {X} says [] decoded = decoded ≡ Ok []
EachSays {X} says (b ∷ bs) decoded = (x : Result X Path) × says b x × (later : Result (List X) Path) ×
    EachSays says bs later × (decoded ≡ more x later)

-- What the rows of a table make of these fields of the bytes: of a singular number the last value, of a singular message all parts joined.
abbrev pub RowsSay : (t : Table) → List ℕ → List (ℕ × Wire) → Result (DecodedFields t) Path → Type 0
RowsSay End bytes fs decoded = decoded ≡ Ok tt
RowsSay (Number number kind presence rest) bytes fs decoded =
    (later : Result (DecodedFields rest) Path) × RowsSay rest bytes fs later ×
    (decoded ≡ both (decoded_field presence number (last_of (number_of kind) number fs)) later)
RowsSay (Text number presence rest) bytes fs decoded =
    (later : Result (DecodedFields rest) Path) × RowsSay rest bytes fs later ×
    (decoded ≡ both (decoded_field presence number (text_under number bytes fs)) later)
RowsSay (Message {X} number format presence rest) bytes fs decoded =
    (x : Option (Result X Path)) × FindsInner format.says (joined number bytes fs) x
    × (later : Result (DecodedFields rest) Path) × RowsSay rest bytes fs later ×
    (decoded ≡ both (decoded_message presence number x) later)
RowsSay (Messages {X} number format rest) bytes fs decoded =
    (xs : Result (List X) Path) × EachSays format.says (texts_under number bytes fs) xs
    × (later : Result (DecodedFields rest) Path) × RowsSay rest bytes fs later ×
    (decoded ≡ both (with_cause (below number) xs) later)

-- The message says this by its table.
pub record Says (t : Table) (bytes : List ℕ) (decoded : Result (DecodedFields t) Path) : Type 0 where
  pub fields : List (ℕ × Wire)
  pub spelled : Spells fields bytes
  pub rows : RowsSay t bytes fields decoded

-- ---- the first fault within

-- The messages up to one are whole, and this one has the fault.
abbrev pub EachFaulty : {X : Type 0} → Format X → List (List ℕ) → WireFault → Type 0
EachFaulty {X} format [] e = ⊥
EachFaulty {X} format (b ∷ bs) e = format.faulty b e ⊎ ((x : Result X Path) × format.says b x × EachFaulty format bs e)

-- Of the messages within, the first that isn't whole has this fault.
abbrev pub RowsFaulty : Table → List ℕ → List (ℕ × Wire) → WireFault → Type 0
RowsFaulty End bytes fs e = ⊥
RowsFaulty (Number number kind presence rest) bytes fs e = RowsFaulty rest bytes fs e
RowsFaulty (Text number presence rest) bytes fs e = RowsFaulty rest bytes fs e
RowsFaulty (Message {X} number format presence rest) bytes fs e =
    IsFaultyInner format.faulty (joined number bytes fs) e
    ⊎ ((x : Option (Result X Path)) × FindsInner format.says (joined number bytes fs) x × RowsFaulty rest bytes fs e)
RowsFaulty (Messages {X} number format rest) bytes fs e =
    EachFaulty format (texts_under number bytes fs) e
    ⊎ ((xs : Result (List X) Path) × EachSays format.says (texts_under number bytes fs) xs × RowsFaulty rest bytes fs e)

-- The fields of the message are whole, and one of the messages within has the fault.
pub record HasFaultWithin (t : Table) (bytes : List ℕ) (e : WireFault) : Type 0 where
  pub fields : List (ℕ × Wire)
  pub spelled : Spells fields bytes
  pub found : RowsFaulty t bytes fields e

-- The message's own fault comes before one of a message within, and a lower field number before a higher one.
abbrev pub IsFaulty : Table → List ℕ → WireFault → Type 0
IsFaulty t bytes e = FirstFault bytes e ⊎ HasFaultWithin t bytes e

-- ---- reading

abbrev pub each_at : {X : Type 0} → (List ℕ → Result (Result X Path) WireFault) → List (List ℕ) →
    Result (Result (List X) Path) WireFault
each_at read [] = Ok (Ok [])
each_at read (b ∷ bs) = do
  x ← read b
  with_value (more x) (each_at read bs)

abbrev pub rows_at : (t : Table) → List ℕ → List (ℕ × Wire) → Result (Result (DecodedFields t) Path) WireFault
rows_at End bytes fs = Ok (Ok tt)
rows_at (Number number kind presence rest) bytes fs =
    with_value (both (decoded_field presence number (last_of (number_of kind) number fs))) (rows_at rest bytes fs)
rows_at (Text number presence rest) bytes fs =
    with_value (both (decoded_field presence number (text_under number bytes fs))) (rows_at rest bytes fs)
rows_at (Message number format presence rest) bytes fs = do
  x ← inner format.read (joined number bytes fs)
  with_value (both (decoded_message presence number x)) (rows_at rest bytes fs)
rows_at (Messages number format rest) bytes fs = do
  xs ← each_at format.read (texts_under number bytes fs)
  with_value (both (with_cause (below number) xs)) (rows_at rest bytes fs)

-- What the message says by its table, or its first fault.
abbrev pub message_at : (t : Table) → List ℕ → Result (Result (DecodedFields t) Path) WireFault
message_at t bytes = do
  fs ← fields_at bytes
  rows_at t bytes fs

-- ---- writing

-- what a field is given as: a field that may be left out is written where it is given
abbrev pub FieldToEncode : {X : Type 0} → Presence X → Type 0
FieldToEncode {X} Required = X
FieldToEncode {X} (Default d) = Option X
FieldToEncode {X} Optional = Option X

abbrev pub FieldsToEncode : Table → Type 0
FieldsToEncode End = Unit {0}
FieldsToEncode (Number number kind presence rest) = FieldToEncode presence × FieldsToEncode rest
FieldsToEncode (Text number presence rest) = FieldToEncode presence × FieldsToEncode rest
FieldsToEncode (Message {X} number format presence rest) = FieldToEncode presence × FieldsToEncode rest
FieldsToEncode (Messages {X} number format rest) = List X × FieldsToEncode rest

abbrev pub field_to_encode : {X : Type 0} (presence : Presence X) → FieldToEncode presence → Option X
field_to_encode Required x = Some x
field_to_encode (Default d) o = o
field_to_encode Optional o = o

-- what is read of a field that is given so
abbrev pub decoded_again : {X : Type 0} (presence : Presence X) → FieldToEncode presence → DecodedField presence
decoded_again Required x = x
decoded_again (Default d) o = unwrap_or o d
decoded_again Optional o = o

abbrev pub decoded_fields : (t : Table) → FieldsToEncode t → DecodedFields t
decoded_fields End given = tt
decoded_fields (Number number kind presence rest) given = (decoded_again presence given.0, decoded_fields rest given.1)
decoded_fields (Text number presence rest) given = (decoded_again presence given.0, decoded_fields rest given.1)
decoded_fields (Message number format presence rest) given =
    (decoded_again presence given.0, decoded_fields rest given.1)
decoded_fields (Messages number format rest) given = (given.0, decoded_fields rest given.1)

-- the text of a field, where it is given
abbrev pub if_there : {X : Type 0} → (X → List ℕ) → Option X → List ℕ
if_there text None = []
if_there text (Some x) = text x

-- a message as a field
unfoldable pub message_field : {X : Type 0} → ℕ → Format X → X → List ℕ
message_field number format x = bytes_field number (format.text x)

-- The fields in ascending number, each varint in its least spelling.
abbrev pub rows_text : (t : Table) → FieldsToEncode t → List ℕ
rows_text End given = []
rows_text (Number number kind presence rest) given =
    if_there (varint_field number) (field_to_encode presence given.0) ++ rows_text rest given.1
rows_text (Text number presence rest) given = if_there (bytes_field number) (field_to_encode presence given.0) ++
    rows_text rest given.1
rows_text (Message number format presence rest) given =
    if_there (message_field number format) (field_to_encode presence given.0) ++ rows_text rest given.1
rows_text (Messages number format rest) given = flat_map (message_field number format) given.0 ++ rows_text rest given.1

-- The number is one that its varint tells again.
pub record FitsKind (kind : NumberKind) (n : ℕ) : Type 0 where
  pub small : n < 2 ^ 64
  pub decoded : decoded_number kind n ≡ Some n

abbrev pub EachFits : {X : Type 0} → (X → Type 0) → List X → Type 0
EachFits fits [] = Unit {0}
EachFits fits (x ∷ xs) = fits x × EachFits fits xs

abbrev pub RowsFit : (t : Table) → FieldsToEncode t → Type 0
RowsFit End given = Unit {0}
RowsFit (Number number kind presence rest) given = IfSome (field_to_encode presence given.0) (FitsKind kind) ×
    RowsFit rest given.1
RowsFit (Text number presence rest) given = RowsFit rest given.1
RowsFit (Message number format presence rest) given = IfSome (field_to_encode presence given.0) format.fits ×
    RowsFit rest given.1
RowsFit (Messages number format rest) given = EachFits format.fits given.0 × RowsFit rest given.1

-- ---- a type of message, by its table

-- The message says a value, decoded by what its table tells, or misses a field.
pub record SaysBy {X : Type 0} (t : Table) (from : DecodedFields t →
    X) (bytes : List ℕ) (r : Result X Path) : Type 0 where
  pub decoded : Result (DecodedFields t) Path
  pub says : Says t bytes decoded
  pub value_is : r ≡ with_value from decoded

-- The value is what is read of the fields that it is given as.
pub record FitsBy {X : Type 0} (t : Table) (from : DecodedFields t → X) (given : X →
    FieldsToEncode t) (x : X) : Type 0 where
  pub rows : RowsFit t (given x)
  pub same : from (decoded_fields t (given x)) ≡ x

-- The format of values that a table tells, and that are given to it.
abbrev pub by_table : {X : Type 0} (t : Table) → (DecodedFields t → X) → (X → FieldsToEncode t) → Format X
by_table t from given = record {
  says = SaysBy t from;
  faulty = IsFaulty t;
  read = λ bytes. with_value (with_value from) (message_at t bytes);
  text = λ x. rows_text t (given x);
  fits = FitsBy t from given;
}
