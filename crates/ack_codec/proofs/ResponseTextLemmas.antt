-- The written spelling of a response, and that it spells the response.
use Rattle.std.proofs.Common.{◌≡◌, ℕ, ◌+◌, ◌^◌, ◌<◌, ◌≤◌, List, [], ◌∷◌, ◌++◌, length, drop, Option, Some, None, Result, Ok, Err, subst, refl, sym, ap, ◌∙◌, arith, append_assoc, append-nil, length-append}
use Rattle.std.specs.Prelude.{IsSome, OnOk, nat_lt, true, ◌%◌}
use Rattle.std.proofs.lemmas.Bool.{lt-ltb}
use Rattle.std.specs.Option.{option_or}
use Rattle.std.proofs.lemmas.List.{drop_at}
use Rattle.hd_base.specs.declared.states.Status.{Status}
use Rattle.hd_base.specs.Wire.{IsStatus, status_number}
use Rattle.proto_fields.specs.declared.reading.Wire.{Wire}
use Rattle.proto_fields.specs.declared.reading.Wire.TheVariants as wire
use Rattle.proto_fields.specs.Varint.{least_varint}
use Rattle.proto_fields.specs.Fields.{SpellsFrom}
use Rattle.proto_fields.specs.Values.{last_varint, last_part, parts, part_bytes}
use Rattle.proto_fields.specs.Writing.{varint_field, bytes_field}
use Rattle.proto_fields.proofs.VarintLemmas.{least_varint_spells}
use Rattle.proto_fields.proofs.WrittenLemmas.{varint_field_spells, bytes_field_spells, SpellsFrom-cons, varint_field_within, bytes_field_within}
use Rattle.ack_codec.specs.declared.responses.Response.{Response}
use Rattle.ack_codec.specs.declared.response_reading.FoundInfo.{FoundInfo}
use Rattle.ack_codec.specs.declared.response_reading.FoundResponse.{FoundResponse}
use Rattle.hd_base.specs.Wire.{decoded_status}
use Rattle.proto_fields.specs.Frames.{limit}
use Rattle.proto_fields.specs.Inner.{text_of}
use Rattle.proto_fields.proofs.InnerLemmas.{part_at, part_field, bytes_field_more, placed_part}
use Rattle.ack_codec.specs.Responses.{FindsChecksum, FindsInfo, decoded_checksum, decoded_info, decoded_parts, SaysResponse, SpellsResponse, response_at}
use Rattle.ack_codec.specs.ResponseTexts.{checksum_text, info_text, body_text, reason_text, response_message, response_text, HasListedKind, HasWidths, IsEncodable, ReadsResponse}
use Rattle.ack_codec.proofs.ResponseDecodingLemmas.{response_again}
use Rattle.proto_fields.proofs.StatusLemmas.{decoded_status_number}

-- ---- what is appended

pub reason_empty : (m : List ℕ) → length m ≡ 0 → reason_text m ≡ []
unfolding reason_text
reason_empty [] none = refl
reason_empty (b ∷ bs) none = absurd (omega arith)

pub reason_there : (m : List ℕ) → 0 < length m → reason_text m ≡ bytes_field 5 m
unfolding reason_text
reason_there [] some = absurd (omega arith)
reason_there (b ∷ bs) some = refl

-- ---- the messages within

checksum_finds : (kind chunk : ℕ) → kind ≤ 2 → chunk < 2 ^ 32 → FindsChecksum (checksum_text kind chunk) (record { kind = Some kind; chunk = Some chunk })
unfolding checksum_text
checksum_finds kind chunk listed fits =
    let low : nat_lt (kind % 2 ^ 32) 3 ≡ true = lt-ltb (kind % 2 ^ 32) 3 (omega arith) in
    record {
      fields = (1, wire.Varint kind) ∷ (2, wire.Varint chunk) ∷ [];
      spelled =
          SpellsFrom-cons 0 (1, wire.Varint kind) ((2, wire.Varint chunk) ∷ []) (varint_field 1 kind) (varint_field 2 chunk) (varint_field_spells 0 1 kind (omega arith) (omega arith) (omega arith))
          (subst (SpellsFrom (0 + length (varint_field 1 kind)) ((2, wire.Varint chunk) ∷ [])) (append-nil (varint_field 2 chunk))
          (SpellsFrom-cons (0 + length (varint_field 1 kind)) (2, wire.Varint chunk) [] (varint_field 2 chunk) [] (varint_field_spells (0 + length (varint_field 1 kind)) 2 chunk (omega arith) (omega arith) (omega arith)) refl));
      decoded = rw low refl;
    }

checksum_short : (kind chunk : ℕ) → length (checksum_text kind chunk) < 2 ^ 64
unfolding checksum_text
checksum_short kind chunk = omega (arith, length-append (varint_field 1 kind) (varint_field 2 chunk), varint_field_within 1 kind, varint_field_within 2 chunk)

-- what is found of kind, chunk and offset
abbrev info_of : ℕ → ℕ → ℕ → FoundInfo
info_of kind chunk offset = record { checksum = Some (record { kind = Some kind; chunk = Some chunk }); offset = Some offset }

info_finds : (kind chunk offset : ℕ) → kind ≤ 2 → chunk < 2 ^ 32 → offset < 2 ^ 64 → FindsInfo (info_text (kind, chunk, offset)) (info_of kind chunk offset)
unfolding info_text part_at
info_finds kind chunk offset listed small fits =
    let inner : List ℕ = checksum_text kind chunk in
    let place = part_at 0 1 inner in
    let inside : part_bytes (bytes_field 1 inner ++ varint_field 2 offset) place ++ [] ≡ inner =
    append-nil _ ∙ placed_part 0 1 (bytes_field 1 inner ++ varint_field 2 offset) [] inner (varint_field 2 offset) refl refl in
    record {
      fields = (1, wire.Part place.0 place.1) ∷ (2, wire.Varint offset) ∷ [];
      spelled =
          SpellsFrom-cons 0 (1, wire.Part place.0 place.1) ((2, wire.Varint offset) ∷ []) (bytes_field 1 inner) (varint_field 2 offset) (bytes_field_spells 0 1 inner (omega arith) (omega arith) (checksum_short kind chunk))
          (subst (SpellsFrom (0 + length (bytes_field 1 inner)) ((2, wire.Varint offset) ∷ [])) (append-nil (varint_field 2 offset))
          (SpellsFrom-cons (0 + length (bytes_field 1 inner)) (2, wire.Varint offset) [] (varint_field 2 offset) [] (varint_field_spells (0 + length (bytes_field 1 inner)) 2 offset (omega arith) (omega arith) fits) refl));
      checksum = (record { kind = Some kind; chunk = Some chunk }, refl, subst (λ (b : List ℕ). FindsChecksum b (record { kind = Some kind; chunk = Some chunk })) (sym inside) (checksum_finds kind chunk listed small));
      offset_is = refl;
    }

-- ---- the fields of a written response

reason_fields : ℕ → List ℕ → List (ℕ × Wire)
reason_fields at [] = []
reason_fields at (b ∷ bs) = part_field at 5 (b ∷ bs) ∷ []

reason_spelled : (at : ℕ) (m : List ℕ) → length m < 2 ^ 64 → SpellsFrom at (reason_fields at m) (reason_text m)
unfolding reason_text reason_fields part_field
reason_spelled at [] few = refl
reason_spelled at (b ∷ bs) few =
    subst (SpellsFrom at (part_field at 5 (b ∷ bs) ∷ [])) (append-nil (bytes_field 5 (b ∷ bs)))
    (SpellsFrom-cons at (part_field at 5 (b ∷ bs)) [] (bytes_field 5 (b ∷ bs)) [] (bytes_field_spells at 5 (b ∷ bs) (omega arith) (omega arith) few) refl)

-- a reason has no other field's value
no_status : (at : ℕ) (m : List ℕ) → last_varint 1 (reason_fields at m) ≡ None
unfolding reason_fields part_field
no_status at [] = refl
no_status at (b ∷ bs) = refl

no_link : (at : ℕ) (m : List ℕ) → last_part 2 (reason_fields at m) ≡ None
unfolding reason_fields part_field
no_link at [] = refl
no_link at (b ∷ bs) = refl

no_sums : (at : ℕ) (m : List ℕ) → parts 3 (reason_fields at m) ≡ []
unfolding reason_fields part_field
no_sums at [] = refl
no_sums at (b ∷ bs) = refl

no_info : (at : ℕ) (m : List ℕ) → parts 4 (reason_fields at m) ≡ []
unfolding reason_fields part_field
no_info at [] = refl
no_info at (b ∷ bs) = refl

reason_lies : (at : ℕ) (whole front m : List ℕ) → at ≡ length front → whole ≡ front ++ reason_text m → text_of whole (last_part 5 (reason_fields at m)) ≡ m
unfolding reason_fields part_field reason_text part_at
reason_lies at whole front [] place parts = refl
reason_lies at whole front (b ∷ bs) place parts =
    placed_part at 5 whole front (b ∷ bs) [] place (parts ∙ ap (λ l. front ++ l) (sym (append-nil (bytes_field 5 (b ∷ bs)))))

or_none : {X : Type 0} (o : Option X) → option_or o None ≡ o
or_none None = refl
or_none (Some x) = refl

same_response : (r : Response) (status : Status) (fb : List ℕ) (o : Option (ℕ × ℕ × ℕ)) (m : List ℕ) → status ≡ r.status → fb ≡ r.first_bad → o ≡ r.sums_from → m ≡ r.message → record { status = status; first_bad = fb; sums_from = o; message = m } ≡ r
same_response r status fb o m a b c d = rw (a, b, c, d) refl

-- a response without sums
says_link : (status : Status) (fb m : List ℕ) → IsStatus status → status_number status < 2 ^ 32 → length fb < 2 ^ 64 → length m < 2 ^ 64 → SaysResponse (record { status = status; first_bad = fb; sums_from = None; message = m }) (varint_field 1 (status_number status) ++ (bytes_field 2 fb ++ reason_text m))
unfolding part_field part_at decoded_parts
says_link status fb m listed low few_fb few_m =
    let n : ℕ = status_number status in
    let S : List ℕ = varint_field 1 n in
    let B : List ℕ = bytes_field 2 fb in
    let whole : List ℕ = S ++ (B ++ reason_text m) in
    let one : ℕ = 0 + length S in
    let two : ℕ = one + length B in
    let later : List (ℕ × Wire) = reason_fields two m in
    let found : FoundResponse = record { status = Some n; first_bad = Some (part_at one 2 fb); sums = None; info = None; message = last_part 5 later } in
    record {
      found = found;
      finds = record {
        fields = (1, wire.Varint n) ∷ part_field one 2 fb ∷ later;
        spelled =
            SpellsFrom-cons 0 (1, wire.Varint n) (part_field one 2 fb ∷ later) S (B ++ reason_text m) (varint_field_spells 0 1 n (omega arith) (omega arith) (omega arith))
            (SpellsFrom-cons one (part_field one 2 fb) later B (reason_text m) (bytes_field_spells one 2 fb (omega arith) (omega arith) few_fb) (reason_spelled two m few_m));
        status_is = rw (no_status two m) refl;
        first_bad_is = rw (no_link two m) refl;
        sums = rw (no_sums two m) refl;
        info = rw (no_info two m) refl;
        message_is = sym (or_none (option_or (last_part 5 later) None) ∙ or_none (last_part 5 later));
      };
      decoded = (decoded_status n, None);
      decoded_is = refl;
      response_is = same_response _ _ _ _ _ (sym (decoded_status_number status listed low))
          (sym (placed_part one 2 whole S fb (reason_text m) (omega arith) refl)) refl
          (sym (reason_lies two whole (S ++ B) m (omega (arith, length-append S B)) (sym (append_assoc S B (reason_text m)))));
    }

-- a response with sums
says_sums : (status : Status) (kind chunk offset : ℕ) (m : List ℕ) → IsStatus status → status_number status < 2 ^ 32 → kind ≤ 2 → chunk < 2 ^ 32 → offset < 2 ^ 64 → length (info_text (kind, chunk, offset)) < 2 ^ 64 → length m < 2 ^ 64 → SaysResponse (record { status = status; first_bad = []; sums_from = Some (kind, chunk, offset); message = m }) (varint_field 1 (status_number status) ++ (bytes_field 4 (info_text (kind, chunk, offset)) ++ reason_text m))
unfolding part_field part_at decoded_parts decoded_info decoded_checksum
says_sums status kind chunk offset m listed low listed_kind small fits few_info few_m =
    let n : ℕ = status_number status in
    let S : List ℕ = varint_field 1 n in
    let B : List ℕ = bytes_field 4 (info_text (kind, chunk, offset)) in
    let whole : List ℕ = S ++ (B ++ reason_text m) in
    let one : ℕ = 0 + length S in
    let two : ℕ = one + length B in
    let later : List (ℕ × Wire) = reason_fields two m in
    let info : FoundInfo = info_of kind chunk offset in
    let kind_low : kind % 2 ^ 32 ≡ kind = omega arith in
    let chunk_low : chunk % 2 ^ 32 ≡ chunk = omega arith in
    let found : FoundResponse = record { status = Some n; first_bad = None; sums = None; info = Some info; message = last_part 5 later } in
    let inside : part_bytes whole (part_at one 4 (info_text (kind, chunk, offset))) ++ [] ≡ info_text (kind, chunk, offset) =
    append-nil _ ∙ placed_part one 4 whole S (info_text (kind, chunk, offset)) (reason_text m) (omega arith) refl in
    record {
      found = found;
      finds = record {
        fields = (1, wire.Varint n) ∷ part_field one 4 (info_text (kind, chunk, offset)) ∷ later;
        spelled =
            SpellsFrom-cons 0 (1, wire.Varint n) (part_field one 4 (info_text (kind, chunk, offset)) ∷ later) S (B ++ reason_text m) (varint_field_spells 0 1 n (omega arith) (omega arith) (omega arith))
            (SpellsFrom-cons one (part_field one 4 (info_text (kind, chunk, offset))) later B (reason_text m) (bytes_field_spells one 4 (info_text (kind, chunk, offset)) (omega arith) (omega arith) few_info) (reason_spelled two m few_m));
        status_is = rw (no_status two m) refl;
        first_bad_is = rw (no_link two m) refl;
        sums = rw (no_sums two m) refl;
        info = rw (no_info two m) (info, refl, subst (λ (b : List ℕ). FindsInfo b info) (sym inside) (info_finds kind chunk offset listed_kind small fits));
        message_is = sym (or_none (option_or (last_part 5 later) None) ∙ or_none (last_part 5 later));
      };
      decoded = (decoded_status n, Some (kind, chunk, offset));
      decoded_is = rw (kind_low, chunk_low) refl;
      response_is = same_response _ _ _ _ _ (sym (decoded_status_number status listed low)) refl refl
          (sym (reason_lies two whole (S ++ B) m (omega (arith, length-append S B)) (sym (append_assoc S B (reason_text m)))));
    }

-- ---- the whole

reason_more : (m : List ℕ) → length m ≤ length (reason_text m)
unfolding reason_text
reason_more [] = omega arith
reason_more (b ∷ bs) = bytes_field_more 5 (b ∷ bs)

says_by : (status : Status) (fb : List ℕ) (o : Option (ℕ × ℕ × ℕ)) (m : List ℕ) → IsStatus status → status_number status < 2 ^ 32 → (IsSome o → fb ≡ []) → HasListedKind o → HasWidths o → length (varint_field 1 (status_number status) ++ (body_text o fb ++ reason_text m)) ≤ limit → SaysResponse (record { status = status; first_bad = fb; sums_from = o; message = m }) (varint_field 1 (status_number status) ++ (body_text o fb ++ reason_text m))
unfolding body_text
says_by status fb None m listed low link kind fits few =
    let sizes = length-append (varint_field 1 (status_number status)) (bytes_field 2 fb ++ reason_text m) ∙ ap (λ n. length (varint_field 1 (status_number status)) + n) (length-append (bytes_field 2 fb) (reason_text m)) in
    says_link status fb m listed low (omega (arith, sizes, bytes_field_more 2 fb)) (omega (arith, sizes, reason_more m))
says_by status fb (Some (kind, chunk, offset)) m listed low link listed_kind fits few =
    let sizes = length-append (varint_field 1 (status_number status)) (bytes_field 4 (info_text (kind, chunk, offset)) ++ reason_text m) ∙ ap (λ n. length (varint_field 1 (status_number status)) + n) (length-append (bytes_field 4 (info_text (kind, chunk, offset))) (reason_text m)) in
    let none : fb ≡ [] = link refl in
    subst (λ (l : List ℕ). SaysResponse (record { status = status; first_bad = l; sums_from = Some (kind, chunk, offset); message = m }) (varint_field 1 (status_number status) ++ (bytes_field 4 (info_text (kind, chunk, offset)) ++ reason_text m))) (sym none)
    (says_sums status kind chunk offset m listed low listed_kind fits.0 fits.1 (omega (arith, sizes, bytes_field_more 4 (info_text (kind, chunk, offset)))) (omega (arith, sizes, reason_more m)))

pub response_text_spells : (r : Response) → IsEncodable r → status_number r.status < 2 ^ 32 → HasWidths r.sums_from → SpellsResponse r (response_text r)
unfolding response_message
response_text_spells r may low fits = record {
  prefix = least_varint (length (response_message r));
  message = response_message r;
  parts = refl;
  spelled = least_varint_spells (length (response_message r)) (omega (arith, may.within_limit));
  few = may.within_limit;
  holds = says_by r.status r.first_bad r.sums_from r.message may.listed low may.no_link may.listed_kind fits may.within_limit;
}

-- What was written spells the response.
pub response_spelled : {A E : Type 0} (q : Result A E) (r : Response) → OnOk q (status_number r.status < 2 ^ 32) → OnOk q (HasWidths r.sums_from) → IsEncodable r → OnOk q (SpellsResponse r (response_text r))
response_spelled (Ok x) r low fits may = response_text_spells r may low fits
response_spelled (Err e) r low fits may = tt

-- What was written behind other bytes is read there, whatever follows.
pub response_written : {A E : Type 0} (q : Result A E) (r : Response) (old new : List ℕ) → OnOk q (new ≡ old ++ response_text r) → OnOk q (SpellsResponse r (response_text r)) → OnOk q (ReadsResponse old new r)
response_written (Ok x) r old new ok spelled = λ rest.
    let regrouped : new ++ rest ≡ old ++ (response_text r ++ rest) = ap (λ l. l ++ rest) ok ∙ append_assoc old (response_text r) rest in
    ap response_at (ap (drop (length old)) regrouped ∙ drop_at old (response_text r ++ rest) (length old) refl)
    ∙ response_again r (response_text r) rest spelled
response_written (Err e) r old new ok spelled = tt

-- ---- lengths

body_within : (o : Option (ℕ × ℕ × ℕ)) (fb : List ℕ) → length (body_text o fb) ≤ 100 + length fb
unfolding body_text info_text checksum_text
body_within None fb = omega (arith, bytes_field_within 2 fb)
body_within (Some (kind, chunk, offset)) fb =
    let inner : List ℕ = varint_field 1 kind ++ varint_field 2 chunk in
    omega (arith, bytes_field_within 4 (bytes_field 1 inner ++ varint_field 2 offset), length-append (bytes_field 1 inner) (varint_field 2 offset), bytes_field_within 1 inner, length-append (varint_field 1 kind) (varint_field 2 chunk), varint_field_within 1 kind, varint_field_within 2 chunk, varint_field_within 2 offset)

reason_within : (m : List ℕ) → length (reason_text m) ≤ 20 + length m
unfolding reason_text
reason_within [] = omega arith
reason_within (b ∷ bs) = bytes_field_within 5 (b ∷ bs)

-- A response whose texts are well within the limit is within it.
pub response_message_few : (r : Response) → length r.first_bad + length r.message ≤ 65000 → length (response_message r) ≤ limit
unfolding response_message
response_message_few r few =
    omega (arith, length-append (varint_field 1 (status_number r.status)) (body_text r.sums_from r.first_bad ++ reason_text r.message), length-append (body_text r.sums_from r.first_bad) (reason_text r.message), varint_field_within 1 (status_number r.status), body_within r.sums_from r.first_bad, reason_within r.message)
