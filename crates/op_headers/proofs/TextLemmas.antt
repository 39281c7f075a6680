-- Writing by a table: the written text of a value says the value again.
use Rattle.std.proofs.Common.{◌≡◌, ℕ, ◌+◌, ◌^◌, ◌<◌, ◌≤◌, List, [], ◌∷◌, ◌++◌, length, map, Option, Some, None, option_map, Ok, subst, refl, sym, ap, ◌∙◌, arith, append_assoc, append-nil, length-append}
use Rattle.std.specs.Prelude.{IfSome}
use Rattle.std.specs.List.{flat_map}
use Rattle.std.proofs.lemmas.Bool.{eq-eqb}
use Rattle.proto_fields.specs.declared.reading.Wire.{Wire}
use Rattle.proto_fields.specs.declared.reading.Wire.TheVariants as wire
use Rattle.proto_fields.specs.Fields.{SpellsFrom}
use Rattle.proto_fields.specs.Values.{part_of, last_of, last_part, parts, part_bytes}
use Rattle.proto_fields.specs.Inner.{joined_of, joined, FindsInner}
use Rattle.proto_fields.specs.Writing.{varint_field, bytes_field}
use Rattle.proto_fields.proofs.WrittenLemmas.{varint_field_spells, bytes_field_spells, SpellsFrom-cons, SpellsFrom-append}
use Rattle.proto_fields.proofs.InnerLemmas.{part_at, part_field, bytes_field_more, placed_part}
use Rattle.op_headers.specs.Paths.{both}
use Rattle.op_headers.specs.Tables.{NumberKind, Uint64, Bool32, Below, Presence, Required, Default, Optional, Format, Table, End, Number, Text, Message, Messages, DecodedFields, decoded_number, number_of, text_under, texts_under, decoded_field, decoded_message, EachSays, RowsSay, FieldsToEncode, FieldToEncode, field_to_encode, decoded_again, decoded_fields, if_there, message_field, rows_text, FitsKind, EachFits, RowsFit, FitsBy, by_table}
use Rattle.op_headers.proofs.NumberLemmas.{EachNumber, EachNumber-append, EachNumber-weaker, others_before, others_behind, last_of-between, parts-between}

-- What is written of a value says it.
pub record IsWritten {X : Type 0} (format : Format X) : Type 0 where
  pub says : (x : X) → format.fits x → length (format.text x) < 2 ^ 64 → format.says (format.text x) (Ok x)

-- the messages within are written so
abbrev pub AllWritten : Table → Type 0
AllWritten End = Unit {0}
AllWritten (Number number kind presence rest) = AllWritten rest
AllWritten (Text number presence rest) = AllWritten rest
AllWritten (Message number format presence rest) = IsWritten format × AllWritten rest
AllWritten (Messages number format rest) = IsWritten format × AllWritten rest

-- The field numbers rise, and have at most 29 bits.
abbrev pub IsRising : ℕ → Table → Type 0
IsRising low End = Unit {0}
IsRising low (Number number kind presence rest) = (low < number) × (number < 2 ^ 29) × IsRising number rest
IsRising low (Text number presence rest) = (low < number) × (number < 2 ^ 29) × IsRising number rest
IsRising low (Message number format presence rest) = (low < number) × (number < 2 ^ 29) × IsRising number rest
IsRising low (Messages number format rest) = (low < number) × (number < 2 ^ 29) × IsRising number rest

kept-held : {X : Type 0} (presence : Presence X) (number : ℕ) (h : FieldToEncode presence) → decoded_field presence number (field_to_encode presence h) ≡ Ok (decoded_again presence h)
kept-held Required number h = refl
kept-held (Default d) number h = refl
kept-held Optional number h = refl

-- ---- the fields of one row

-- a number as a field, where it is given
abbrev number_fields : ℕ → Option ℕ → List (ℕ × Wire)
number_fields number None = []
number_fields number (Some n) = (number, wire.Varint n) ∷ []

single : (at : ℕ) (f : ℕ × Wire) (text : List ℕ) → SpellsFrom at (f ∷ []) (text ++ []) → SpellsFrom at (f ∷ []) text
single at f text s = subst (SpellsFrom at (f ∷ [])) (append-nil text) s

number_spelled : (at number : ℕ) (kind : NumberKind) (o : Option ℕ) → 1 ≤ number → number < 2 ^ 29 → IfSome o (FitsKind kind) → SpellsFrom at (number_fields number o) (if_there (varint_field number) o)
number_spelled at number kind None least most fits = refl
number_spelled at number kind (Some n) least most fits =
    single at (number, wire.Varint n) (varint_field number n) (SpellsFrom-cons at (number, wire.Varint n) [] (varint_field number n) [] (varint_field_spells at number n least most fits.small) refl)

number_of-varint : (kind : NumberKind) (n : ℕ) → number_of kind (wire.Varint n) ≡ decoded_number kind n
number_of-varint Uint64 n = refl
number_of-varint Bool32 n = refl
number_of-varint (Below bound) n = refl

number_found : (number : ℕ) (kind : NumberKind) (o : Option ℕ) → IfSome o (FitsKind kind) → last_of (number_of kind) number (number_fields number o) ≡ o
number_found number kind None fits = refl
number_found number kind (Some n) fits = rw (eq-eqb number number refl) (number_of-varint kind n ∙ fits.decoded)

number_numbered : (number : ℕ) (o : Option ℕ) → EachNumber (λ m. m ≡ number) (number_fields number o)
number_numbered number None = tt
number_numbered number (Some n) = (refl, tt)

-- texts as fields, one behind the other
abbrev text_fields : ℕ → ℕ → List (List ℕ) → List (ℕ × Wire)
text_fields at number [] = []
text_fields at number (b ∷ bs) = part_field at number b ∷ text_fields (at + length (bytes_field number b)) number bs

abbrev fields_text : ℕ → List (List ℕ) → List ℕ
fields_text number bs = flat_map (bytes_field number) bs

texts_spelled : (at number : ℕ) (bs : List (List ℕ)) → 1 ≤ number → number < 2 ^ 29 → length (fields_text number bs) < 2 ^ 64 → SpellsFrom at (text_fields at number bs) (fields_text number bs)
unfolding part_field
texts_spelled at number [] least most few = refl
texts_spelled at number (b ∷ bs) least most few =
    let sizes = length-append (bytes_field number b) (fields_text number bs) in
    SpellsFrom-cons at (part_field at number b) (text_fields (at + length (bytes_field number b)) number bs) (bytes_field number b) (fields_text number bs)
    (bytes_field_spells at number b least most (omega (arith, sizes, bytes_field_more number b)))
    (texts_spelled (at + length (bytes_field number b)) number bs least most (omega (arith, sizes)))

texts_numbered : (at number : ℕ) (bs : List (List ℕ)) → EachNumber (λ m. m ≡ number) (text_fields at number bs)
unfolding part_field
texts_numbered at number [] = tt
texts_numbered at number (b ∷ bs) = (refl, texts_numbered (at + length (bytes_field number b)) number bs)

-- what a text as a field is, among parts
parts-cons : (at number : ℕ) (b : List ℕ) (fs : List (ℕ × Wire)) → parts number (part_field at number b ∷ fs) ≡ part_at at number b ∷ parts number fs
unfolding part_field part_at
parts-cons at number b fs = rw (eq-eqb number number refl) refl

last_part-single : (at number : ℕ) (b : List ℕ) → last_part number (part_field at number b ∷ []) ≡ Some (part_at at number b)
unfolding part_field part_at
last_part-single at number b = rw (eq-eqb number number refl) refl

texts_found : (at number : ℕ) (bs : List (List ℕ)) (whole front back : List ℕ) → at ≡ length front → whole ≡ front ++ (fields_text number bs ++ back) → texts_under number whole (text_fields at number bs) ≡ bs
texts_found at number [] whole front back place e = refl
texts_found at number (b ∷ bs) whole front back place e =
    let text : List ℕ = bytes_field number b in
    let regrouped : whole ≡ front ++ (text ++ (fields_text number bs ++ back)) = e ∙ ap (λ l. front ++ l) (append_assoc text (fields_text number bs) back) in
    let here : part_bytes whole (part_at at number b) ≡ b = placed_part at number whole front b (fields_text number bs ++ back) place regrouped in
    let later : texts_under number whole (text_fields (at + length text) number bs) ≡ bs =
    texts_found (at + length text) number bs whole (front ++ text) back (omega (arith, length-append front text)) (regrouped ∙ sym (append_assoc front text (fields_text number bs ++ back))) in
    ap (map (part_bytes whole)) (parts-cons at number b (text_fields (at + length text) number bs))
    ∙ (ap (λ x. x ∷ texts_under number whole (text_fields (at + length text) number bs)) here ∙ ap (λ l. b ∷ l) later)

-- ---- a text or a message that is given or isn't

abbrev as_list : {X : Type 0} → Option X → List X
as_list None = []
as_list (Some x) = x ∷ []

text_is : (number : ℕ) (o : Option (List ℕ)) → fields_text number (as_list o) ≡ if_there (bytes_field number) o
text_is number None = refl
text_is number (Some b) = append-nil (bytes_field number b)

message_is : {X : Type 0} (number : ℕ) (format : Format X) (o : Option X) → if_there (message_field number format) o ≡ if_there (bytes_field number) (option_map format.text o)
unfolding message_field
message_is number format None = refl
message_is number format (Some x) = refl

messages_are : {X : Type 0} (number : ℕ) (format : Format X) (xs : List X) → flat_map (message_field number format) xs ≡ fields_text number (map format.text xs)
unfolding message_field
messages_are number format [] = refl
messages_are number format (x ∷ xs) = ap (λ l. bytes_field number (format.text x) ++ l) (messages_are number format xs)

-- the one text of a row, among all fields
last_found : (at number : ℕ) (o : Option (List ℕ)) (whole front back : List ℕ) → at ≡ length front → whole ≡ front ++ (fields_text number (as_list o) ++ back) → text_under number whole (text_fields at number (as_list o)) ≡ o
last_found at number None whole front back place e = refl
last_found at number (Some b) whole front back place e =
    let regrouped : whole ≡ front ++ (bytes_field number b ++ back) = e ∙ ap (λ l. front ++ (l ++ back)) (append-nil (bytes_field number b)) in
    ap (option_map (part_bytes whole)) (last_part-single at number b) ∙ ap Some (placed_part at number whole front b back place regrouped)

joined_found : (at number : ℕ) (o : Option (List ℕ)) (whole front back : List ℕ) → at ≡ length front → whole ≡ front ++ (fields_text number (as_list o) ++ back) → joined number whole (text_fields at number (as_list o)) ≡ o
joined_found at number None whole front back place e = refl
joined_found at number (Some b) whole front back place e =
    let regrouped : whole ≡ front ++ (bytes_field number b ++ back) = e ∙ ap (λ l. front ++ (l ++ back)) (append-nil (bytes_field number b)) in
    ap (λ ps. joined_of ps (flat_map (part_bytes whole) ps)) (parts-cons at number b [])
    ∙ ap Some (append-nil (part_bytes whole (part_at at number b)) ∙ placed_part at number whole front b back place regrouped)

-- ---- messages within that are written

finds_given : {X : Type 0} (format : Format X) (o : Option X) → IsWritten format → IfSome o format.fits → IfSome o (λ x. length (format.text x) < 2 ^ 64) → FindsInner format.says (option_map format.text o) (option_map Ok o)
finds_given format None w fits few = refl
finds_given format (Some x) w fits few = (Ok x, refl, w.says x fits few)

kept_message-given : {X : Type 0} (presence : Presence X) (number : ℕ) (o : Option X) → decoded_message presence number (option_map Ok o) ≡ decoded_field presence number o
kept_message-given presence number None = refl
kept_message-given presence number (Some x) = refl

each_given : {X : Type 0} (number : ℕ) (format : Format X) (xs : List X) → IsWritten format → EachFits format.fits xs → length (fields_text number (map format.text xs)) < 2 ^ 64 → EachSays format.says (map format.text xs) (Ok xs)
each_given number format [] w fits few = refl
each_given number format (x ∷ xs) w fits few =
    let sizes = length-append (bytes_field number (format.text x)) (fields_text number (map format.text xs)) in
    (Ok x, w.says x fits.0 (omega (arith, sizes, bytes_field_more number (format.text x))), Ok xs, each_given number format xs w fits.1 (omega (arith, sizes)), refl)

few_given : {X : Type 0} (number : ℕ) (format : Format X) (o : Option X) → length (fields_text number (as_list (option_map format.text o))) < 2 ^ 64 → IfSome o (λ x. length (format.text x) < 2 ^ 64)
few_given number format None few = tt
few_given number format (Some x) few =
    omega (arith, length-append (bytes_field number (format.text x)) [], bytes_field_more number (format.text x), few)

-- ---- the rows

-- The fields of one row: they spell its text, and have its number.
record Row (number at : ℕ) (text : List ℕ) : Type 0 where
  fields : List (ℕ × Wire)
  spelled : SpellsFrom at fields text
  numbered : EachNumber (λ m. m ≡ number) fields

-- The fields of the rows: they spell their text, have numbers above `low`, and say the values, also behind fields with lower numbers.
record Rows (t : Table) (given : FieldsToEncode t) (low at : ℕ) (whole : List ℕ) : Type 0 where
  fields : List (ℕ × Wire)
  spelled : SpellsFrom at fields (rows_text t given)
  above : EachNumber (λ m. low < m) fields
  say : (before : List (ℕ × Wire)) → EachNumber (λ m. m ≤ low) before → RowsSay t whole (before ++ fields) (Ok (decoded_fields t given))

-- What the rows behind one say once its fields are in front of theirs.
module _ (t : Table) (given : FieldsToEncode t) (low number at : ℕ) (text whole : List ℕ) (row : Row number at text) (rows : Rows t given number (at + length text) whole) (less : low < number) where
  all_fields : List (ℕ × Wire)
  all_fields = row.fields ++ rows.fields

  all_spelled : SpellsFrom at all_fields (text ++ rows_text t given)
  unfolding all_fields
  all_spelled = SpellsFrom-append at row.fields rows.fields text (rows_text t given) row.spelled rows.spelled

  all_above : EachNumber (λ m. low < m) all_fields
  unfolding all_fields
  all_above = EachNumber-append _ row.fields rows.fields
      (EachNumber-weaker _ _ (λ m h. omega (arith, h)) row.fields row.numbered)
      (EachNumber-weaker _ _ (λ m h. omega (arith, h)) rows.fields rows.above)

  say_behind : (before : List (ℕ × Wire)) → EachNumber (λ m. m ≤ low) before → RowsSay t whole (before ++ all_fields) (Ok (decoded_fields t given))
  unfolding all_fields
  say_behind before a =
      subst (λ (fs : List (ℕ × Wire)). RowsSay t whole fs (Ok (decoded_fields t given))) (append_assoc before row.fields rows.fields)
      (rows.say (before ++ row.fields) (EachNumber-append _ before row.fields
      (EachNumber-weaker _ _ (λ m h. omega (arith, h)) before a)
      (EachNumber-weaker _ _ (λ m h. omega (arith, h)) row.fields row.numbered)))

  last_here : {X : Type 0} (pick : Wire → Option X) (before : List (ℕ × Wire)) → EachNumber (λ m. m ≤ low) before → last_of pick number (before ++ all_fields) ≡ last_of pick number row.fields
  unfolding all_fields
  last_here pick before a = last_of-between pick number before row.fields rows.fields (others_before low number before less a) (others_behind number rows.fields rows.above)

  parts_here : (before : List (ℕ × Wire)) → EachNumber (λ m. m ≤ low) before → parts number (before ++ all_fields) ≡ parts number row.fields
  unfolding all_fields
  parts_here before a = parts-between number before row.fields rows.fields (others_before low number before less a) (others_behind number rows.fields rows.above)

number_row : (number at : ℕ) (kind : NumberKind) (o : Option ℕ) → 1 ≤ number → number < 2 ^ 29 → IfSome o (FitsKind kind) → Row number at (if_there (varint_field number) o)
number_row number at kind o least most fits = record {
  fields = number_fields number o;
  spelled = number_spelled at number kind o least most fits;
  numbered = number_numbered number o;
}

texts_row : (number at : ℕ) (bs : List (List ℕ)) → 1 ≤ number → number < 2 ^ 29 → length (fields_text number bs) < 2 ^ 64 → Row number at (fields_text number bs)
texts_row number at bs least most few = record {
  fields = text_fields at number bs;
  spelled = texts_spelled at number bs least most few;
  numbered = texts_numbered at number bs;
}

-- What is written of the rows behind other bytes says the values.
rows_written : (t : Table) (low : ℕ) → IsRising low t → AllWritten t → (given : FieldsToEncode t) → RowsFit t given → (at : ℕ) (whole front : List ℕ) → at ≡ length front → whole ≡ front ++ rows_text t given → length whole < 2 ^ 64 → Rows t given low at whole
unfolding number_row texts_row
rows_written End low rising w given fits at whole front place e few = record { fields = []; spelled = refl; above = tt; say = λ before a. refl }
rows_written (Number number kind presence rest) low rising w given fits at whole front place e few =
    let o : Option ℕ = field_to_encode presence given.0 in
    let text : List ℕ = if_there (varint_field number) o in
    let behind : List ℕ = rows_text rest given.1 in
    let row = number_row number at kind o (omega (arith, rising.0)) rising.1 fits.0 in
    let rows = rows_written rest number rising.2 w given.1 fits.1 (at + length text) whole (front ++ text) (omega (arith, length-append front text)) (e ∙ sym (append_assoc front text behind)) few in
    record {
      fields = all_fields rest given.1 low number at text whole row rows rising.0;
      spelled = all_spelled rest given.1 low number at text whole row rows rising.0;
      above = all_above rest given.1 low number at text whole row rows rising.0;
      say = λ before a. (
        Ok (decoded_fields rest given.1),
        say_behind rest given.1 low number at text whole row rows rising.0 before a,
        sym (ap (λ l. both (decoded_field presence number l) (Ok (decoded_fields rest given.1))) (last_here rest given.1 low number at text whole row rows rising.0 (number_of kind) before a ∙ number_found number kind o fits.0)
            ∙ ap (λ k. both k (Ok (decoded_fields rest given.1))) (kept-held presence number given.0)),
      );
    }
rows_written (Text number presence rest) low rising w given fits at whole front place e few =
    let o : Option (List ℕ) = field_to_encode presence given.0 in
    let bs : List (List ℕ) = as_list o in
    let text : List ℕ = fields_text number bs in
    let behind : List ℕ = rows_text rest given.1 in
    let parts_are : whole ≡ front ++ (text ++ behind) = e ∙ ap (λ l. front ++ (l ++ behind)) (sym (text_is number o)) in
    let sizes : length whole ≡ length front + (length text + length behind) = ap length parts_are ∙ (length-append front (text ++ behind) ∙ ap (λ n. length front + n) (length-append text behind)) in
    let row = texts_row number at bs (omega (arith, rising.0)) rising.1 (omega (arith, sizes, few)) in
    let rows = rows_written rest number rising.2 w given.1 fits (at + length text) whole (front ++ text) (omega (arith, length-append front text)) (parts_are ∙ sym (append_assoc front text behind)) few in
    record {
      fields = all_fields rest given.1 low number at text whole row rows rising.0;
      spelled = subst (λ (l : List ℕ). SpellsFrom at (all_fields rest given.1 low number at text whole row rows rising.0) (l ++ behind)) (text_is number o) (all_spelled rest given.1 low number at text whole row rows rising.0);
      above = all_above rest given.1 low number at text whole row rows rising.0;
      say = λ before a. (
        Ok (decoded_fields rest given.1),
        say_behind rest given.1 low number at text whole row rows rising.0 before a,
        sym (ap (λ p. both (decoded_field presence number (option_map (part_bytes whole) p)) (Ok (decoded_fields rest given.1))) (last_here rest given.1 low number at text whole row rows rising.0 part_of before a)
            ∙ (ap (λ l. both (decoded_field presence number l) (Ok (decoded_fields rest given.1))) (last_found at number o whole front behind place parts_are)
            ∙ ap (λ k. both k (Ok (decoded_fields rest given.1))) (kept-held presence number given.0))),
      );
    }
rows_written (Message {X} number format presence rest) low rising w given fits at whole front place e few =
    let o : Option X = field_to_encode presence given.0 in
    let bs : List (List ℕ) = as_list (option_map format.text o) in
    let text : List ℕ = fields_text number bs in
    let behind : List ℕ = rows_text rest given.1 in
    let same : text ≡ if_there (message_field number format) o = text_is number (option_map format.text o) ∙ sym (message_is number format o) in
    let parts_are : whole ≡ front ++ (text ++ behind) = e ∙ ap (λ l. front ++ (l ++ behind)) (sym same) in
    let sizes : length whole ≡ length front + (length text + length behind) = ap length parts_are ∙ (length-append front (text ++ behind) ∙ ap (λ n. length front + n) (length-append text behind)) in
    let row = texts_row number at bs (omega (arith, rising.0)) rising.1 (omega (arith, sizes, few)) in
    let rows = rows_written rest number rising.2 w.1 given.1 fits.1 (at + length text) whole (front ++ text) (omega (arith, length-append front text)) (parts_are ∙ sym (append_assoc front text behind)) few in
    record {
      fields = all_fields rest given.1 low number at text whole row rows rising.0;
      spelled = subst (λ (l : List ℕ). SpellsFrom at (all_fields rest given.1 low number at text whole row rows rising.0) (l ++ behind)) same (all_spelled rest given.1 low number at text whole row rows rising.0);
      above = all_above rest given.1 low number at text whole row rows rising.0;
      say = λ before a. (
        option_map Ok o,
        subst (λ (j : Option (List ℕ)). FindsInner format.says j (option_map Ok o))
            (sym (ap (λ ps. joined_of ps (flat_map (part_bytes whole) ps)) (parts_here rest given.1 low number at text whole row rows rising.0 before a)
            ∙ joined_found at number (option_map format.text o) whole front behind place parts_are))
            (finds_given format o w.0 fits.0 (few_given number format o (omega (arith, sizes, few)))),
        Ok (decoded_fields rest given.1),
        say_behind rest given.1 low number at text whole row rows rising.0 before a,
        sym (ap (λ k. both k (Ok (decoded_fields rest given.1))) (kept_message-given presence number o ∙ kept-held presence number given.0)),
      );
    }
rows_written (Messages {X} number format rest) low rising w given fits at whole front place e few =
    let bs : List (List ℕ) = map format.text given.0 in
    let text : List ℕ = fields_text number bs in
    let behind : List ℕ = rows_text rest given.1 in
    let same : text ≡ flat_map (message_field number format) given.0 = sym (messages_are number format given.0) in
    let parts_are : whole ≡ front ++ (text ++ behind) = e ∙ ap (λ l. front ++ (l ++ behind)) (sym same) in
    let sizes : length whole ≡ length front + (length text + length behind) = ap length parts_are ∙ (length-append front (text ++ behind) ∙ ap (λ n. length front + n) (length-append text behind)) in
    let row = texts_row number at bs (omega (arith, rising.0)) rising.1 (omega (arith, sizes, few)) in
    let rows = rows_written rest number rising.2 w.1 given.1 fits.1 (at + length text) whole (front ++ text) (omega (arith, length-append front text)) (parts_are ∙ sym (append_assoc front text behind)) few in
    record {
      fields = all_fields rest given.1 low number at text whole row rows rising.0;
      spelled = subst (λ (l : List ℕ). SpellsFrom at (all_fields rest given.1 low number at text whole row rows rising.0) (l ++ behind)) same (all_spelled rest given.1 low number at text whole row rows rising.0);
      above = all_above rest given.1 low number at text whole row rows rising.0;
      say = λ before a. (
        Ok given.0,
        subst (λ (ts : List (List ℕ)). EachSays format.says ts (Ok given.0))
            (sym (ap (map (part_bytes whole)) (parts_here rest given.1 low number at text whole row rows rising.0 before a) ∙ texts_found at number bs whole front behind place parts_are))
            (each_given number format given.0 w.0 fits.0 (omega (arith, sizes, few))),
        Ok (decoded_fields rest given.1),
        say_behind rest given.1 low number at text whole row rows rising.0 before a,
        refl,
      );
    }

-- A message whose messages within are written so is written so.
pub written_by_table : {X : Type 0} (t : Table) (from : DecodedFields t → X) (given : X → FieldsToEncode t) → IsRising 0 t → AllWritten t → IsWritten (by_table t from given)
written_by_table {X} t from given rising w = record { says = says } where
  says : (x : X) → FitsBy t from given x → length (rows_text t (given x)) < 2 ^ 64 → (by_table t from given).says (rows_text t (given x)) (Ok x)
  says x f few =
      let rows = rows_written t 0 rising w (given x) f.rows 0 (rows_text t (given x)) [] refl refl few in
      record {
        decoded = Ok (decoded_fields t (given x));
        says = record { fields = rows.fields; spelled = rows.spelled; rows = rows.say [] tt };
        value_is = ap Ok (sym f.same);
      }
