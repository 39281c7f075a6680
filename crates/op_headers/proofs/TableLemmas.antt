-- Reading by a table: what is read is what the message says, what it says is read, and each fault is the first that stands in it.
use Rattle.std.proofs.Common.{◌≡◌, ℕ, ◌-◌, inl, inr, List, [], ◌∷◌, map, Result, Ok, Err, sym, ap, ◌∙◌, drop}
use Rattle.proto_fields.specs.declared.reading.Wire.{Wire}
use Rattle.proto_fields.specs.declared.reading.WireFault.{WireFault}
use Rattle.hd_base.specs.Results.{with_cause, with_value}
use Rattle.hd_base.specs.Bytes.{IsBytes}
use Rattle.proto_fields.specs.Fields.{fields_at}
use Rattle.proto_fields.specs.Values.{parts, part_bytes}
use Rattle.proto_fields.specs.Inner.{joined, inner}
use Rattle.hd_base.proofs.ByteLaws.{IsBytes-take, IsBytes-drop}
use Rattle.hd_base.proofs.ResultLaws.{bind_ok, bind_err, bind-Ok, bind-Err, with_value_ok, with_value_err, ok_value}
use Rattle.proto_fields.proofs.PlaceLemmas.{fields_at_spell, spelled_fields_at, fields_at_fail, faulty_fields_at}
use Rattle.proto_fields.proofs.InnerLemmas.{joined_bytes, inner_finds, finds_inner, inner_fails, fails_inner}
use Rattle.op_headers.specs.Paths.{Path, below, both}
use Rattle.op_headers.specs.Tables.{Format, Table, End, Number, Text, Message, Messages, DecodedFields, decoded_message, more, texts_under, EachSays, RowsSay, EachFaulty, RowsFaulty, IsFaulty, SaysBy, each_at, rows_at, message_at, FieldsToEncode, by_table}

-- Reading gives what the message says and nothing else, and the first fault where it isn't whole.
pub record IsExact {X : Type 0} (format : Format X) : Type 0 where
  pub read_says : (bytes : List ℕ) (r : Result X Path) → IsBytes bytes → format.read bytes ≡ Ok r → format.says bytes r
  pub says_read : (bytes : List ℕ) (r : Result X Path) → format.says bytes r → format.read bytes ≡ Ok r
  pub read_faulty : (bytes : List ℕ) (e : WireFault) → IsBytes bytes → format.read bytes ≡ Err e → format.faulty bytes e
  pub faulty_read : (bytes : List ℕ) (e : WireFault) → format.faulty bytes e → format.read bytes ≡ Err e

-- the messages within are read so
abbrev pub AllExact : Table → Type 0
AllExact End = Unit {0}
AllExact (Number number kind presence rest) = AllExact rest
AllExact (Text number presence rest) = AllExact rest
AllExact (Message number format presence rest) = IsExact format × AllExact rest
AllExact (Messages number format rest) = IsExact format × AllExact rest

-- ---- several messages

abbrev AllBytes : List (List ℕ) → Type 0
AllBytes [] = Unit {0}
AllBytes (b ∷ bs) = IsBytes b × AllBytes bs

texts_bytes : (bytes : List ℕ) (ps : List (ℕ × ℕ)) → IsBytes bytes → AllBytes (map (part_bytes bytes) ps)
texts_bytes bytes [] fits = tt
texts_bytes bytes (p ∷ ps) fits = (IsBytes-take (p.1 - p.0) (drop p.0 bytes) (IsBytes-drop p.0 bytes fits), texts_bytes bytes ps fits)

each_say : {X : Type 0} (format : Format X) → IsExact format → (bs : List (List ℕ)) (decoded : Result (List X) Path) → AllBytes bs → each_at format.read bs ≡ Ok decoded → EachSays format.says bs decoded
each_say format x [] decoded fits e = sym (ok_value _ decoded e)
each_say format x (b ∷ bs) decoded fits e =
    let one = bind_ok (format.read b) _ decoded e in
    let two = with_value_ok (more one.0) (each_at format.read bs) decoded one.1.1 in
    (one.0, x.read_says b one.0 fits.0 one.1.0, two.0, each_say format x bs two.0 fits.1 two.1.0, sym two.1.1)

say_each : {X : Type 0} (format : Format X) → IsExact format → (bs : List (List ℕ)) (decoded : Result (List X) Path) → EachSays format.says bs decoded → each_at format.read bs ≡ Ok decoded
say_each format x [] decoded s = ap Ok (sym s)
say_each format x (b ∷ bs) decoded s =
    bind-Ok (format.read b) _ s.0 (x.says_read b s.0 s.1)
    ∙ (ap (with_value (more s.0)) (say_each format x bs s.2 s.3) ∙ ap Ok (sym s.4))

each_faulty : {X : Type 0} (format : Format X) → IsExact format → (bs : List (List ℕ)) (e : WireFault) → AllBytes bs → each_at format.read bs ≡ Err e → EachFaulty format bs e
each_faulty format x [] e fits h = cc
each_faulty format x (b ∷ bs) e fits h =
    elim (bind_err (format.read b) _ e h) [
      | inl one ↦ inl (x.read_faulty b e fits.0 one)
      | inr later ↦ inr (later.0, x.read_says b later.0 fits.0 later.1.0, each_faulty format x bs e fits.1 (with_value_err (more later.0) _ e later.1.1))
    ]

faulty_each : {X : Type 0} (format : Format X) → IsExact format → (bs : List (List ℕ)) (e : WireFault) → EachFaulty format bs e → each_at format.read bs ≡ Err e
faulty_each format x [] e f = absurd f
faulty_each format x (b ∷ bs) e (inl f) = bind-Err (format.read b) _ e (x.faulty_read b e f)
faulty_each format x (b ∷ bs) e (inr f) =
    bind-Ok (format.read b) _ f.0 (x.says_read b f.0 f.1) ∙ ap (with_value (more f.0)) (faulty_each format x bs e f.2)

-- ---- the rows

rows_say : (t : Table) → AllExact t → (bytes : List ℕ) (fs : List (ℕ × Wire)) (decoded : Result (DecodedFields t) Path) → IsBytes bytes → rows_at t bytes fs ≡ Ok decoded → RowsSay t bytes fs decoded
rows_say End x bytes fs decoded fits e = sym (ok_value _ decoded e)
rows_say (Number number kind presence rest) x bytes fs decoded fits e =
    let one = with_value_ok _ (rows_at rest bytes fs) decoded e in
    (one.0, rows_say rest x bytes fs one.0 fits one.1.0, sym one.1.1)
rows_say (Text number presence rest) x bytes fs decoded fits e =
    let one = with_value_ok _ (rows_at rest bytes fs) decoded e in
    (one.0, rows_say rest x bytes fs one.0 fits one.1.0, sym one.1.1)
rows_say (Message number format presence rest) x bytes fs decoded fits e =
    let one = bind_ok (inner format.read (joined number bytes fs)) _ decoded e in
    let two = with_value_ok _ (rows_at rest bytes fs) decoded one.1.1 in
    (one.0, inner_finds format.read format.says x.0.read_says (joined number bytes fs) one.0 (joined_bytes number bytes fs fits) one.1.0, two.0, rows_say rest x.1 bytes fs two.0 fits two.1.0, sym two.1.1)
rows_say (Messages number format rest) x bytes fs decoded fits e =
    let one = bind_ok (each_at format.read (texts_under number bytes fs)) _ decoded e in
    let two = with_value_ok _ (rows_at rest bytes fs) decoded one.1.1 in
    (one.0, each_say format x.0 (texts_under number bytes fs) one.0 (texts_bytes bytes (parts number fs) fits) one.1.0, two.0, rows_say rest x.1 bytes fs two.0 fits two.1.0, sym two.1.1)

say_rows : (t : Table) → AllExact t → (bytes : List ℕ) (fs : List (ℕ × Wire)) (decoded : Result (DecodedFields t) Path) → RowsSay t bytes fs decoded → rows_at t bytes fs ≡ Ok decoded
say_rows End x bytes fs decoded s = ap Ok (sym s)
say_rows (Number number kind presence rest) x bytes fs decoded s = ap (with_value _) (say_rows rest x bytes fs s.0 s.1) ∙ ap Ok (sym s.2)
say_rows (Text number presence rest) x bytes fs decoded s = ap (with_value _) (say_rows rest x bytes fs s.0 s.1) ∙ ap Ok (sym s.2)
say_rows (Message number format presence rest) x bytes fs decoded s =
    bind-Ok (inner format.read (joined number bytes fs)) _ s.0 (finds_inner format.read format.says x.0.says_read (joined number bytes fs) s.0 s.1)
    ∙ (ap (with_value (both (decoded_message presence number s.0))) (say_rows rest x.1 bytes fs s.2 s.3) ∙ ap Ok (sym s.4))
say_rows (Messages number format rest) x bytes fs decoded s =
    bind-Ok (each_at format.read (texts_under number bytes fs)) _ s.0 (say_each format x.0 (texts_under number bytes fs) s.0 s.1)
    ∙ (ap (with_value (both (with_cause (below number) s.0))) (say_rows rest x.1 bytes fs s.2 s.3) ∙ ap Ok (sym s.4))

rows_faulty : (t : Table) → AllExact t → (bytes : List ℕ) (fs : List (ℕ × Wire)) (e : WireFault) → IsBytes bytes → rows_at t bytes fs ≡ Err e → RowsFaulty t bytes fs e
rows_faulty End x bytes fs e fits h = cc
rows_faulty (Number number kind presence rest) x bytes fs e fits h = rows_faulty rest x bytes fs e fits (with_value_err _ _ e h)
rows_faulty (Text number presence rest) x bytes fs e fits h = rows_faulty rest x bytes fs e fits (with_value_err _ _ e h)
rows_faulty (Message number format presence rest) x bytes fs e fits h =
    elim (bind_err (inner format.read (joined number bytes fs)) _ e h) [
      | inl one ↦ inl (inner_fails format.read format.faulty e (λ b. x.0.read_faulty b e) (joined number bytes fs) (joined_bytes number bytes fs fits) one)
      | inr later ↦
          inr (later.0, inner_finds format.read format.says x.0.read_says (joined number bytes fs) later.0 (joined_bytes number bytes fs fits) later.1.0, rows_faulty rest x.1 bytes fs e fits (with_value_err _ _ e later.1.1))
    ]
rows_faulty (Messages number format rest) x bytes fs e fits h =
    elim (bind_err (each_at format.read (texts_under number bytes fs)) _ e h) [
      | inl one ↦ inl (each_faulty format x.0 (texts_under number bytes fs) e (texts_bytes bytes (parts number fs) fits) one)
      | inr later ↦
          inr (later.0, each_say format x.0 (texts_under number bytes fs) later.0 (texts_bytes bytes (parts number fs) fits) later.1.0, rows_faulty rest x.1 bytes fs e fits (with_value_err _ _ e later.1.1))
    ]

faulty_rows : (t : Table) → AllExact t → (bytes : List ℕ) (fs : List (ℕ × Wire)) (e : WireFault) → RowsFaulty t bytes fs e → rows_at t bytes fs ≡ Err e
faulty_rows End x bytes fs e f = absurd f
faulty_rows (Number number kind presence rest) x bytes fs e f = ap (with_value _) (faulty_rows rest x bytes fs e f)
faulty_rows (Text number presence rest) x bytes fs e f = ap (with_value _) (faulty_rows rest x bytes fs e f)
faulty_rows (Message number format presence rest) x bytes fs e (inl f) =
    bind-Err (inner format.read (joined number bytes fs)) _ e (fails_inner format.read format.faulty e (λ b. x.0.faulty_read b e) (joined number bytes fs) f)
faulty_rows (Message number format presence rest) x bytes fs e (inr f) =
    bind-Ok (inner format.read (joined number bytes fs)) _ f.0 (finds_inner format.read format.says x.0.says_read (joined number bytes fs) f.0 f.1)
    ∙ ap (with_value (both (decoded_message presence number f.0))) (faulty_rows rest x.1 bytes fs e f.2)
faulty_rows (Messages number format rest) x bytes fs e (inl f) =
    bind-Err (each_at format.read (texts_under number bytes fs)) _ e (faulty_each format x.0 (texts_under number bytes fs) e f)
faulty_rows (Messages number format rest) x bytes fs e (inr f) =
    bind-Ok (each_at format.read (texts_under number bytes fs)) _ f.0 (say_each format x.0 (texts_under number bytes fs) f.0 f.1)
    ∙ ap (with_value (both (with_cause (below number) f.0))) (faulty_rows rest x.1 bytes fs e f.2)

-- ---- a type of message

-- A message whose messages within are read so is read so.
pub exact_by_table : {X : Type 0} (t : Table) (from : DecodedFields t → X) (given : X → FieldsToEncode t) → AllExact t → IsExact (by_table t from given)
exact_by_table {X} t from given x = record {
  read_says = read_says;
  says_read = λ bytes r s.
      ap (with_value (with_value from)) (bind-Ok (fields_at bytes) (rows_at t bytes) s.says.fields (spelled_fields_at bytes s.says.fields s.says.spelled) ∙ say_rows t x bytes s.says.fields s.decoded s.says.rows)
      ∙ ap Ok (sym s.value_is);
  read_faulty = read_faulty;
  faulty_read = faulty_read;
} where
  read_says : (bytes : List ℕ) (r : Result X Path) → IsBytes bytes → with_value (with_value from) (message_at t bytes) ≡ Ok r → SaysBy t from bytes r
  read_says bytes r fits e =
      let one = with_value_ok (with_value from) (message_at t bytes) r e in
      let two = bind_ok (fields_at bytes) (rows_at t bytes) one.0 one.1.0 in
      record {
        decoded = one.0;
        says = record { fields = two.0; spelled = fields_at_spell bytes two.0 fits two.1.0; rows = rows_say t x bytes two.0 one.0 fits two.1.1 };
        value_is = sym one.1.1;
      }

  read_faulty : (bytes : List ℕ) (e : WireFault) → IsBytes bytes → with_value (with_value from) (message_at t bytes) ≡ Err e → IsFaulty t bytes e
  read_faulty bytes e fits h =
      elim (bind_err (fields_at bytes) (rows_at t bytes) e (with_value_err (with_value from) (message_at t bytes) e h)) [
        | inl one ↦ inl (fields_at_fail bytes e fits one)
        | inr later ↦ inr (record { fields = later.0; spelled = fields_at_spell bytes later.0 fits later.1.0; found = rows_faulty t x bytes later.0 e fits later.1.1 })
      ]

  faulty_read : (bytes : List ℕ) (e : WireFault) → IsFaulty t bytes e → with_value (with_value from) (message_at t bytes) ≡ Err e
  faulty_read bytes e (inl f) = ap (with_value (with_value from)) (bind-Err (fields_at bytes) (rows_at t bytes) e (faulty_fields_at bytes e f))
  faulty_read bytes e (inr f) =
      ap (with_value (with_value from)) (bind-Ok (fields_at bytes) (rows_at t bytes) f.fields (spelled_fields_at bytes f.fields f.spelled) ∙ faulty_rows t x bytes f.fields e f.found)
