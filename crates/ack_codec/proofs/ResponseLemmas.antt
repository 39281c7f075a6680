-- Responses: what a message says is read, what is read it says, and each fault is the one that stands in it.
use Rattle.std.proofs.Common.{◌≡◌, ℕ, inl, inr, List, [], ◌∷◌, Option, Result, Ok, Err, subst, refl, sym, ap, ◌∙◌}
use Rattle.std.specs.Prelude.{fold}
use Rattle.proto_fields.specs.declared.reading.Wire.{Wire}
use Rattle.proto_fields.specs.declared.reading.WireFault.{WireFault}
use Rattle.hd_base.specs.Results.{with_cause, with_value}
use Rattle.hd_base.specs.Bytes.{IsBytes}
use Rattle.proto_fields.specs.Fields.{Spells, FirstFault, fields_at, walked}
use Rattle.proto_fields.specs.Values.{newer, varint_of}
use Rattle.hd_base.proofs.ResultLaws.{bind_ok, bind_err, bind-Ok, bind-Err, with_cause_ok, with_cause_err, with_value_ok, with_value_err, with_value-same}
use Rattle.proto_fields.proofs.PlaceLemmas.{fields_at_spell, spelled_fields_at, fields_at_fail, faulty_fields_at}
use Rattle.proto_fields.proofs.ValueLemmas.{fold_newer_last}
use Rattle.ack_codec.specs.declared.faults.ResponseFault.{ResponseFault}
use Rattle.ack_codec.specs.declared.faults.ResponseFault.TheVariants as fault
use Rattle.ack_codec.specs.declared.responses.Response.{Response}
use Rattle.ack_codec.specs.declared.response_reading.FoundSums.{FoundSums}
use Rattle.ack_codec.specs.declared.response_reading.FoundChecksum.{FoundChecksum}
use Rattle.ack_codec.specs.declared.response_reading.FoundInfo.{FoundInfo}
use Rattle.ack_codec.specs.declared.response_reading.FoundResponse.{FoundResponse}
use Rattle.proto_fields.specs.Inner.{joined, inner}
use Rattle.proto_fields.proofs.InnerLemmas.{joined_bytes, inner_finds, finds_inner, inner_fails, fails_inner}
use Rattle.ack_codec.specs.Responses.{listed_kind, sums_in, checksum_in, no_checksum, newer_checksum, FindsSums, FindsChecksum, FindsInfo, FindsResponse, decoded_parts, response_with, SaysResponse, found_sums_at, found_checksum_at, info_with, info_from, found_info_at, found_with, found_behind_sums, found_from, found_response_at, decoded_response, response_of}
use Rattle.ack_codec.specs.ResponseRefusals.{IsFaultyInfo, IsFaultyResponse, LacksField}

-- ---- a walk over a ChecksumProto

fold-newer_checksum : (found : FoundChecksum) (fs : List (ℕ × Wire)) → fold newer_checksum found fs ≡ record {
  kind = fold (newer listed_kind 1) found.kind fs;
  chunk = fold (newer varint_of 2) found.chunk fs;
}
fold-newer_checksum found [] = refl
fold-newer_checksum found (f ∷ fs) = fold-newer_checksum (newer_checksum found f) fs

fold_checksum : (fs : List (ℕ × Wire)) → fold newer_checksum no_checksum fs ≡ checksum_in fs
fold_checksum fs = fold-newer_checksum no_checksum fs ∙ rw (fold_newer_last listed_kind 1 fs, fold_newer_last varint_of 2 fs) refl

pub walked_checksum : (bytes : List ℕ) → walked newer_checksum no_checksum bytes 0 ≡ with_value checksum_in (fields_at bytes)
walked_checksum bytes = with_value-same _ _ fold_checksum (fields_at bytes)

-- ---- checksumResponse, and a kind of sums

sums_found : (bytes : List ℕ) (x : FoundSums) → IsBytes bytes → found_sums_at bytes ≡ Ok x → FindsSums bytes x
sums_found bytes x fits e =
    let one = with_value_ok sums_in (fields_at bytes) x e in
    record { fields = one.0; spelled = fields_at_spell bytes one.0 fits one.1.0; decoded = sym one.1.1 }

sums_read : (bytes : List ℕ) (x : FoundSums) → FindsSums bytes x → found_sums_at bytes ≡ Ok x
sums_read bytes x s = ap (with_value sums_in) (spelled_fields_at bytes s.fields s.spelled) ∙ ap Ok (sym s.decoded)

checksum_found : (bytes : List ℕ) (x : FoundChecksum) → IsBytes bytes → found_checksum_at bytes ≡ Ok x → FindsChecksum bytes x
checksum_found bytes x fits e =
    let one = with_value_ok checksum_in (fields_at bytes) x e in
    record { fields = one.0; spelled = fields_at_spell bytes one.0 fits one.1.0; decoded = sym one.1.1 }

checksum_read : (bytes : List ℕ) (x : FoundChecksum) → FindsChecksum bytes x → found_checksum_at bytes ≡ Ok x
checksum_read bytes x s = ap (with_value checksum_in) (spelled_fields_at bytes s.fields s.spelled) ∙ ap Ok (sym s.decoded)

-- the fault of fields from which a value is made
fields_fault : {X : Type 0} (f : List (ℕ × Wire) → X) (e : WireFault) (bytes : List ℕ) → IsBytes bytes → with_value f (fields_at bytes) ≡ Err e → FirstFault bytes e
fields_fault f e bytes fits h = fields_at_fail bytes e fits (with_value_err f (fields_at bytes) e h)

faulty_fields : {X : Type 0} (f : List (ℕ × Wire) → X) (e : WireFault) (bytes : List ℕ) → FirstFault bytes e → with_value f (fields_at bytes) ≡ Err e
faulty_fields f e bytes s = ap (with_value f) (faulty_fields_at bytes e s)

-- ---- readOpChecksumInfo

info_found : (bytes : List ℕ) (x : FoundInfo) → IsBytes bytes → found_info_at bytes ≡ Ok x → FindsInfo bytes x
info_found bytes x fits e =
    let one = bind_ok (fields_at bytes) (info_from bytes) x e in
    let two = with_value_ok (info_with one.0) (inner found_checksum_at (joined 1 bytes one.0)) x one.1.1 in
    subst (FindsInfo bytes) two.1.1 (record {
      fields = one.0;
      spelled = fields_at_spell bytes one.0 fits one.1.0;
      checksum = inner_finds found_checksum_at FindsChecksum checksum_found (joined 1 bytes one.0) two.0 (joined_bytes 1 bytes one.0 fits) two.1.0;
      offset_is = refl;
    })

info_read : (bytes : List ℕ) (x : FoundInfo) → FindsInfo bytes x → found_info_at bytes ≡ Ok x
info_read bytes x s =
    bind-Ok (fields_at bytes) (info_from bytes) s.fields (spelled_fields_at bytes s.fields s.spelled)
    ∙ (ap (with_value (info_with s.fields)) (finds_inner found_checksum_at FindsChecksum checksum_read (joined 1 bytes s.fields) x.checksum s.checksum)
    ∙ ap (λ (o : Option ℕ). Ok (with_offset x o)) (sym s.offset_is))
  where
    with_offset : FoundInfo → Option ℕ → FoundInfo
    with_offset x o = record x { offset = o }

info_fault : (e : WireFault) (bytes : List ℕ) → IsBytes bytes → found_info_at bytes ≡ Err e → IsFaultyInfo bytes e
info_fault e bytes fits h =
    elim (bind_err (fields_at bytes) (info_from bytes) e h) [
      | inl one ↦ inl (fields_at_fail bytes e fits one)
      | inr later ↦
          inr (record {
            fields = later.0;
            spelled = fields_at_spell bytes later.0 fits later.1.0;
            found = inner_fails found_checksum_at FirstFault e (λ b. fields_fault checksum_in e b) (joined 1 bytes later.0) (joined_bytes 1 bytes later.0 fits) (with_value_err (info_with later.0) _ e later.1.1);
          })
    ]

faulty_info : (e : WireFault) (bytes : List ℕ) → IsFaultyInfo bytes e → found_info_at bytes ≡ Err e
faulty_info e bytes (inl s) = bind-Err (fields_at bytes) (info_from bytes) e (faulty_fields_at bytes e s)
faulty_info e bytes (inr s) =
    bind-Ok (fields_at bytes) (info_from bytes) s.fields (spelled_fields_at bytes s.fields s.spelled)
    ∙ ap (with_value (info_with s.fields)) (fails_inner found_checksum_at FirstFault e (λ b. faulty_fields checksum_in e b) (joined 1 bytes s.fields) s.found)

-- ---- the whole response

found_finds : (message : List ℕ) (x : FoundResponse) → IsBytes message → found_response_at message ≡ Ok x → FindsResponse message x
found_finds message x fits e =
    let one = bind_ok (fields_at message) (found_from message) x e in
    let two = bind_ok (inner found_sums_at (joined 3 message one.0)) (found_behind_sums message one.0) x one.1.1 in
    let three = with_value_ok (found_with one.0 two.0) (inner found_info_at (joined 4 message one.0)) x two.1.1 in
    subst (FindsResponse message) three.1.1 (record {
      fields = one.0;
      spelled = fields_at_spell message one.0 fits one.1.0;
      status_is = refl;
      first_bad_is = refl;
      sums = inner_finds found_sums_at FindsSums sums_found (joined 3 message one.0) two.0 (joined_bytes 3 message one.0 fits) two.1.0;
      info = inner_finds found_info_at FindsInfo info_found (joined 4 message one.0) three.0 (joined_bytes 4 message one.0 fits) three.1.0;
      message_is = refl;
    })

finds_found : (message : List ℕ) (x : FoundResponse) → FindsResponse message x → found_response_at message ≡ Ok x
finds_found message x s =
    bind-Ok (fields_at message) (found_from message) s.fields (spelled_fields_at message s.fields s.spelled)
    ∙ (bind-Ok (inner found_sums_at (joined 3 message s.fields)) (found_behind_sums message s.fields) x.sums (finds_inner found_sums_at FindsSums sums_read (joined 3 message s.fields) x.sums s.sums)
    ∙ (ap (with_value (found_with s.fields x.sums)) (finds_inner found_info_at FindsInfo info_read (joined 4 message s.fields) x.info s.info)
    ∙ same s.status_is s.first_bad_is s.message_is))
  where
    same : {a : Option ℕ} {b c : Option (ℕ × ℕ)} → x.status ≡ a → x.first_bad ≡ b → x.message ≡ c → ◌≡◌ {A = Result FoundResponse WireFault} (Ok (record x { status = a; first_bad = b; message = c })) (Ok x)
    same p q r = rw (← p, ← q, ← r) refl

found_fault : (message : List ℕ) (e : WireFault) → IsBytes message → found_response_at message ≡ Err e → IsFaultyResponse e message
found_fault message e fits h =
    elim (bind_err (fields_at message) (found_from message) e h) [
      | inl one ↦ inl (fields_at_fail message e fits one)
      | inr later ↦
          let fs = later.0 in
          let spelled : Spells fs message = fields_at_spell message fs fits later.1.0 in
          elim (bind_err (inner found_sums_at (joined 3 message fs)) (found_behind_sums message fs) e later.1.1) [
            | inl two ↦
                inr (inl (record {
                  fields = fs;
                  spelled = spelled;
                  found = inner_fails found_sums_at FirstFault e (λ b. fields_fault sums_in e b) (joined 3 message fs) (joined_bytes 3 message fs fits) two;
                }))
            | inr third ↦
                inr (inr (record {
                  fields = fs;
                  spelled = spelled;
                  sums = third.0;
                  whole = inner_finds found_sums_at FindsSums sums_found (joined 3 message fs) third.0 (joined_bytes 3 message fs fits) third.1.0;
                  found = inner_fails found_info_at IsFaultyInfo e (info_fault e) (joined 4 message fs) (joined_bytes 4 message fs fits) (with_value_err (found_with fs third.0) _ e third.1.1);
                }))
          ]
    ]

faulty_found : (message : List ℕ) (e : WireFault) → IsFaultyResponse e message → found_response_at message ≡ Err e
faulty_found message e (inl s) = bind-Err (fields_at message) (found_from message) e (faulty_fields_at message e s)
faulty_found message e (inr (inl s)) =
    bind-Ok (fields_at message) (found_from message) s.fields (spelled_fields_at message s.fields s.spelled)
    ∙ bind-Err (inner found_sums_at (joined 3 message s.fields)) (found_behind_sums message s.fields) e (fails_inner found_sums_at FirstFault e (λ b. faulty_fields sums_in e b) (joined 3 message s.fields) s.found)
faulty_found message e (inr (inr s)) =
    bind-Ok (fields_at message) (found_from message) s.fields (spelled_fields_at message s.fields s.spelled)
    ∙ (bind-Ok (inner found_sums_at (joined 3 message s.fields)) (found_behind_sums message s.fields) s.sums (finds_inner found_sums_at FindsSums sums_read (joined 3 message s.fields) s.sums s.whole)
    ∙ ap (with_value (found_with s.fields s.sums)) (fails_inner found_info_at IsFaultyInfo e (faulty_info e) (joined 4 message s.fields) s.found))

-- ---- responses

pub response_says : (message : List ℕ) (r : Response) → IsBytes message → response_of message ≡ Ok r → SaysResponse r message
unfolding response_of
response_says message r fits e =
    let one = bind_ok (with_cause fault.Wire (found_response_at message)) (decoded_response message) r e in
    let two = with_value_ok (response_with message one.0) (with_cause fault.Missing (decoded_parts one.0)) r one.1.1 in
    record {
      found = one.0;
      finds = found_finds message one.0 fits (with_cause_ok fault.Wire (found_response_at message) one.0 one.1.0);
      decoded = two.0;
      decoded_is = with_cause_ok fault.Missing (decoded_parts one.0) two.0 two.1.0;
      response_is = sym two.1.1;
    }

pub says_response : (message : List ℕ) (r : Response) → SaysResponse r message → response_of message ≡ Ok r
unfolding response_of
says_response message r s =
    bind-Ok (with_cause fault.Wire (found_response_at message)) (decoded_response message) s.found (ap (with_cause fault.Wire) (finds_found message s.found s.finds))
    ∙ (ap (λ t. with_value (response_with message s.found) (with_cause fault.Missing t)) s.decoded_is
    ∙ ap Ok (sym s.response_is))

-- what a message that is refused so has
abbrev pub ResponseFails : ResponseFault → List ℕ → Type 0
ResponseFails fault.Short message = ⊥
ResponseFails (fault.TooLong n) message = ⊥
ResponseFails (fault.Wire e) message = IsFaultyResponse e message
ResponseFails (fault.Missing field) message = LacksField field message
ResponseFails fault.Memory message = ⊥

pub response_fails : (message : List ℕ) (e : ResponseFault) → IsBytes message → response_of message ≡ Err e → ResponseFails e message
unfolding response_of
response_fails message e fits h =
    elim (bind_err (with_cause fault.Wire (found_response_at message)) (decoded_response message) e h) [
      | inl one ↦
          let d = with_cause_err fault.Wire (found_response_at message) e one in
          subst (λ (f : ResponseFault). ResponseFails f message) d.1.1 (found_fault message d.0 fits d.1.0)
      | inr later ↦
          let d = with_cause_err fault.Missing (decoded_parts later.0) e (with_value_err (response_with message later.0) _ e later.1.1) in
          subst (λ (f : ResponseFault). ResponseFails f message) d.1.1 (record {
            found = later.0;
            finds = found_finds message later.0 fits (with_cause_ok fault.Wire (found_response_at message) later.0 later.1.0);
            decoded = d.1.0;
          })
    ]

pub fails_response : (message : List ℕ) (e : ResponseFault) → ResponseFails e message → response_of message ≡ Err e
unfolding response_of
fails_response message fault.Short f = absurd f
fails_response message (fault.TooLong n) f = absurd f
fails_response message (fault.Wire e) f = bind-Err _ (decoded_response message) (fault.Wire e) (ap (with_cause fault.Wire) (faulty_found message e f))
fails_response message (fault.Missing field) f =
    bind-Ok (with_cause fault.Wire (found_response_at message)) (decoded_response message) f.found (ap (with_cause fault.Wire) (finds_found message f.found f.finds))
    ∙ ap (λ t. with_value (response_with message f.found) (with_cause fault.Missing t)) f.decoded
fails_response message fault.Memory f = absurd f
