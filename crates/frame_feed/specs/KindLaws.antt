-- Each kind is sound, by what its decoder promises.
use Rattle.std.proofs.Common.{◌≡◌, ℕ, ◌+◌, ◌*◌, ◌<◌, ◌≤◌, ◌==◌, List, [], ◌∷◌, Some, None, ◌++◌, length, take, drop, option_map, append_assoc, append-nil, length-append, length-drop, arith, Result, Ok, Err, inl, inr, refl, sym, ap, ◌∙◌, subst}
use Rattle.hd_base.specs.Results.{with_cause, Gives}
use Rattle.hd_base.specs.Bytes.{IsBytes}
use Rattle.hd_base.proofs.ResultLaws.{bind_ok, bind_err, with_cause_ok, with_cause_err, with_value_err, err_value, ok_pair, chosen}
use Rattle.proto_fields.specs.declared.frames.FrameFault.{FrameFault}
use Rattle.proto_fields.specs.declared.frames.FrameFault.TheVariants as frame
use Rattle.proto_fields.specs.Frames.{frame_at}
use Rattle.proto_fields.specs.Framed.{FramesSome, framed_at}
use Rattle.packet_codec.proofs.PacketLemmas.{packet_again, read_steps}
use Rattle.packet_codec.proofs.FrameLemmas.{frame_passes}
use Rattle.packet_codec.specs.Frames.{Frame, payload_of, header_len_of, frame_len}
use Rattle.packet_codec.specs.Refusals.{AreLawful, IsWholeFrame as IsWholePacket, IsCutFrame as IsCutPacket}
use Rattle.std.specs.Int.{w16, w32, from_be_bytes}
use Rattle.std.specs.Prelude.{IsSome}
use Rattle.std.proofs.lemmas.List.{take-append-le, drop-append-le}
use Rattle.std.proofs.Math.Seq.{take-append_seam}
use Rattle.proto_fields.specs.Frames.{IsCutFrame}
use Rattle.proto_fields.specs.Varint.{BeginsWithVarint}
use Rattle.op_headers.specs.Requests.{IsCutRequest}
use Rattle.proto_fields.specs.Varint.{varint_at}
use Rattle.proto_fields.proofs.VarintLemmas.{read_varint_again, read_varint_begins}
use Rattle.std.proofs.lemmas.Bool.{le-ltb}
use Rattle.frame_feed.specs.Framings.{behind_varint, prefixed_size, packet_size, request_size}
use Rattle.packet_codec.specs.declared.packets.Packet.{Packet}
use Rattle.packet_codec.specs.declared.faults.PacketFault.{PacketFault}
use Rattle.packet_codec.specs.declared.faults.PacketFault.TheVariants as packet
use Rattle.packet_codec.specs.Packets.{SpellsPacket, packet_at}
use Rattle.packet_codec.specs.Refusals.{IsRefused}
use Rattle.packet_codec.proofs.RefusalLemmas as packet_laws
use Rattle.ack_codec.specs.declared.faults.AckFault.{AckFault}
use Rattle.ack_codec.specs.declared.faults.AckFault.TheVariants as ack
use Rattle.ack_codec.specs.declared.faults.ResponseFault.{ResponseFault}
use Rattle.ack_codec.specs.declared.faults.ResponseFault.TheVariants as response
use Rattle.ack_codec.specs.Acks.{SaysAck, SaysReadStatus, ack_at, read_status_at}
use Rattle.ack_codec.specs.AckRefusals.{IsRefusedAck, IsRefusedReadStatus}
use Rattle.ack_codec.specs.Responses.{SaysResponse, response_at, response_of, response_frame_cause, found_response_at, decoded_response, decoded_parts, response_with}
use Rattle.ack_codec.specs.ResponseRefusals.{IsRefusedResponse}
use Rattle.ack_codec.proofs.DecodingLemmas as ack_laws
use Rattle.ack_codec.proofs.ResponseDecodingLemmas as response_laws
use Rattle.op_headers.specs.declared.ops.Op.{Op}
use Rattle.op_headers.specs.declared.faults.OpFault.{OpFault}
use Rattle.op_headers.specs.declared.faults.OpFault.TheVariants as op
use Rattle.op_headers.specs.declared.faults.AnswerFault.{AnswerFault}
use Rattle.op_headers.specs.declared.faults.AnswerFault.TheVariants as answer
use Rattle.op_headers.specs.Requests.{SpellsOp, IsRefusedOp, request_at, head_at, op_at, op_read, op_frame_cause, opcode_step, sized}
use Rattle.proto_fields.specs.declared.reading.WireFault.{WireFault}
use Rattle.op_headers.specs.Opcodes.{opcode_number, opcode_with}
use Rattle.op_headers.specs.Paths.{Path}
use Rattle.op_headers.specs.Answers.{IsRefusedAnswer, answer_at, answer_of, answer_format, answer_frame_cause, missing_field}
use Rattle.op_headers.proofs.RequestLemmas as request_laws
use Rattle.op_headers.proofs.AnswerLemmas as answer_laws
use Rattle.frame_feed.specs.declared.faults.FeedFault.{FeedFault}
use Rattle.frame_feed.specs.declared.faults.FeedFault.TheVariants as feed
use Rattle.frame_feed.specs.declared.faults.NoMessage.{NoMessage}
use Rattle.frame_feed.specs.declared.packet_frames.PacketFrame.{PacketFrame}
use Rattle.frame_feed.specs.declared.faults.NoMessage.TheVariants.{Short, Memory, Refused}
use Rattle.frame_feed.specs.Faults.{no_op, no_packet, no_ack, no_response, no_answer, StandsThere, IsOfStream}
use Rattle.frame_feed.specs.Kinds.{IsSound, requests, packets, packet_frames, with_text, SpellsFrame, acks, responses, answers, read_statuses}

-- ---- a decoder's result

gives_itself : {A E : Type 0} (memory : E) (r : Result A E) → Gives memory r r
gives_itself memory (Ok x) = refl
gives_itself memory (Err e) = inr refl

-- What is given by a reading that never wants memory is what it gives.
exactly : {A E : Type 0} (memory : E) (r s : Result A E) → (r ≡ Err memory → ⊥) → Gives memory r s → r ≡ s
exactly memory (Ok x) s never g = g
exactly memory (Err e) s never (inl is) = absurd (never (ap Err is))
exactly memory (Err e) s never (inr is) = is

-- ---- reading wants no memory

framed_never : {X E : Type 0} (cause : FrameFault → E) (read : List ℕ → Result X E) (memory : E) (bytes : List ℕ) →
    ((f : FrameFault) → cause f ≡ memory → ⊥) → ((m : List ℕ) → read m ≡ Err memory → ⊥) →
    framed_at cause read bytes ≡ Err memory → ⊥
unfolding framed_at
framed_never {X = X} {E = E} cause read memory bytes outside inside e =
    elim (bind_err (with_cause cause (frame_at bytes)) _ memory e) [
      | inl one ↦ let d = with_cause_err cause (frame_at bytes) memory one in outside d.0 d.1.1
      | inr later ↦
          elim (bind_err (read later.0.0) (λ x. Ok (x, later.0.1)) memory later.1.1) [
            | inl two ↦ inside later.0.0 two
            | inr none ↦ no_value (none.0, later.0.1) memory none.1.1
          ]
    ]
  where
    no_value : {A D : Type 0} (x : A) (d : D) → ◌≡◌ {A = Result A D} (Ok x) (Err d) → ⊥
    no_value x d e = cc

answer_cause_never : (f : FrameFault) → answer_frame_cause f ≡ answer.Memory → ⊥
answer_cause_never frame.Short e = cc
answer_cause_never (frame.TooLong n) e = cc
answer_cause_never frame.LongPrefix e = cc

missing_never : (path : Path) → missing_field path ≡ answer.Memory → ⊥
missing_never path e = cc

answer_of_never : (message : List ℕ) → answer_of message ≡ Err answer.Memory → ⊥
unfolding answer_of
answer_of_never message e =
    elim (bind_err (with_cause answer.Wire (answer_format.read message)) (with_cause missing_field) answer.Memory e) [
      | inl one ↦ let d = with_cause_err answer.Wire (answer_format.read message) answer.Memory one in
          let is : answer.Wire d.0 ≡ answer.Memory = d.1.1 in cc
      | inr later ↦ let d = with_cause_err missing_field later.0 answer.Memory later.1.1 in missing_never d.0 d.1.1
    ]

answer_never : (bytes : List ℕ) → answer_at bytes ≡ Err answer.Memory → ⊥
answer_never bytes e = framed_never answer_frame_cause answer_of answer.Memory bytes answer_cause_never answer_of_never
    e

response_cause_never : (f : FrameFault) → response_frame_cause f ≡ response.Memory → ⊥
response_cause_never frame.Short e = cc
response_cause_never (frame.TooLong n) e = cc
response_cause_never frame.LongPrefix e = cc

response_of_never : (message : List ℕ) → response_of message ≡ Err response.Memory → ⊥
unfolding response_of
response_of_never message e =
    elim (bind_err (with_cause response.Wire (found_response_at message)) (decoded_response message) response.Memory
    e) [
      | inl one ↦ let d = with_cause_err response.Wire (found_response_at message) response.Memory one in
          let is : response.Wire d.0 ≡ response.Memory = d.1.1 in cc
      | inr later ↦
          let d = with_cause_err response.Missing (decoded_parts later.0) response.Memory
          (with_value_err (response_with message later.0) (with_cause response.Missing (decoded_parts later.0))
          response.Memory later.1.1) in
          let is : response.Missing d.0 ≡ response.Memory = d.1.1 in cc
    ]

response_never : (bytes : List ℕ) → response_at bytes ≡ Err response.Memory → ⊥
response_never bytes e = framed_never response_frame_cause response_of response.Memory bytes response_cause_never
    response_of_never e

op_cause_never : (f : FrameFault) → op_frame_cause f ≡ op.Memory → ⊥
op_cause_never frame.Short e = cc
op_cause_never (frame.TooLong n) e = cc
op_cause_never frame.LongPrefix e = cc

opcode_never : (number : ℕ) (rest : List ℕ) (o : _) → opcode_step number rest o ≡ Err op.Memory → ⊥
opcode_never number rest None e = cc
opcode_never number rest (Some code) e = cc

wire_never : (fault : WireFault) → op.Wire fault ≡ op.Memory → ⊥
wire_never fault e = cc

missing_op_never : (path : Path) → op.Missing path ≡ op.Memory → ⊥
missing_op_never path e = cc

head_never : (bytes : List ℕ) → head_at bytes ≡ Err op.Memory → ⊥
unfolding head_at
head_never [] e = cc
head_never (high ∷ []) e = cc
head_never (high ∷ low ∷ []) e =
    elim (chosen (256 * high + low == 28) _ _ _ e) [
      | inl t ↦ let is : op.Short ≡ op.Memory = err_value op.Short op.Memory t.1 in cc
      | inr t ↦ let is : op.Version (256 * high + low) ≡ op.Memory =
          err_value (op.Version (256 * high + low)) op.Memory t.1 in cc
    ]
head_never (high ∷ low ∷ number ∷ rest) e =
    elim (chosen (256 * high + low == 28) _ _ _ e) [
      | inl t ↦ opcode_never number rest (opcode_with number) t.1
      | inr t ↦ let is : op.Version (256 * high + low) ≡ op.Memory =
          err_value (op.Version (256 * high + low)) op.Memory t.1 in cc
    ]

op_never : (bytes : List ℕ) → request_at bytes ≡ Err op.Memory → ⊥
unfolding request_at op_at
op_never bytes e =
    elim (bind_err (head_at bytes) _ op.Memory e) [
      | inl one ↦ head_never bytes one
      | inr later ↦
          framed_never op_frame_cause (op_at later.0.0) op.Memory later.0.1 op_cause_never
          (λ m h.
          elim (bind_err (with_cause op.Wire (op_read later.0.0 m)) (with_cause op.Missing) op.Memory h) [
            | inl two ↦ let d = with_cause_err op.Wire (op_read later.0.0 m) op.Memory two in wire_never d.0 d.1.1
            | inr three ↦ let d = with_cause_err op.Missing three.0 op.Memory three.1.1 in missing_op_never d.0 d.1.1
          ])
          (with_value_err sized (framed_at op_frame_cause (op_at later.0.0) later.0.1) op.Memory later.1.1)
    ]

packet_never : (bytes : List ℕ) → IsBytes bytes → packet_at bytes ≡ Err packet.Memory → ⊥
packet_never bytes fits e = packet_laws.packet_refused bytes packet.Memory fits e

-- ---- a message's own size

prefixed_sized : (P : List ℕ → Type 0) (text : List ℕ) → FramesSome P text → prefixed_size text ≡ Some (length text)
prefixed_sized P text f =
    let read : varint_at text ≡ Ok (length f.message, f.message) = ap varint_at f.parts ∙
    read_varint_again f.prefix (length f.message) f.message f.spelled in
    ap (behind_varint (length text)) read ∙ ap Some (omega (arith, ap length f.parts, length-append f.prefix f.message))

request_sized : (request : Op) (text : List ℕ) → SpellsOp request text → request_size text ≡ Some (length text)
request_sized request text s =
    let size : length text ≡ 3 + length s.rest = omega (arith, ap length s.parts) in
    let told : prefixed_size (drop 3 text) ≡ Some (length s.rest) = ap prefixed_size (ap (drop 3) s.parts) ∙
    prefixed_sized _ s.rest s.holds in
    rw (le-ltb (length text) 3 (omega arith)) (ap (option_map (λ k. 3 + k)) told ∙ ap Some (sym size))

packet_sized : (m : Packet) (text : List ℕ) → SpellsPacket m text → packet_size text ≡ Some (length text)
packet_sized m text s =
    let read = read_steps text m (length text) (ap packet_at (sym (append-nil text)) ∙ packet_again m text [] s) in
    let passes = frame_passes text read.frame read.framed in
    rw (le-ltb (length text) 6 passes.0.six) (ap Some (ap Frame.size passes.1 ∙ read.size))

-- ---- the front of a message

prefixed_front : (P : List ℕ → Type 0) (text bytes more : List ℕ) → FramesSome P text → bytes ++ more ≡ text →
    0 < length more → IsCutFrame bytes
prefixed_front P text bytes more f parts some = record {
  missing = more;
  some = some;
  whole = record { prefix = f.prefix; message = f.message; parts = parts ∙ f.parts; spelled = f.spelled };
  lawful = λ n rest b. few n rest b;
}
  where
    few : (n : ℕ) (rest : List ℕ) → BeginsWithVarint bytes n rest → n ≤ 65536
    few n rest b =
        let whole : text ≡ b.text ++ (rest ++ more) = sym parts ∙
        (ap (λ l. l ++ more) b.parts ∙ append_assoc b.text rest more) in
        let one = read_varint_begins text n (rest ++
        more) (record { text = b.text; parts = whole; spelled = b.spelled }) in
        let two = read_varint_begins text (length f.message) f.message (record {
          text = f.prefix;
          parts = f.parts;
          spelled = f.spelled;
        }) in
        let same = ok_pair n (length f.message) (rest ++ more) f.message (sym one ∙ two) in
        omega (arith, same.0, f.few)

opcode_some : (number : ℕ) (rest : List ℕ) (o : _) (x : _) → opcode_step number rest o ≡ Ok x → IsSome o
opcode_some number rest None x e = cc
opcode_some number rest (Some code) x e = refl

head_some : (number : ℕ) (rest : List ℕ) (x : _) → head_at (0 ∷ 28 ∷ number ∷ rest) ≡ Ok x → IsSome (opcode_with number)
unfolding head_at
head_some number rest x e = opcode_some number rest (opcode_with number) x e

request_listed : (request : Op) (text : List ℕ) (s : SpellsOp request text) →
    IsSome (opcode_with (opcode_number s.code))
unfolding request_at
request_listed request text s =
    let read : request_at text ≡ Ok (request, length text) =
    exactly op.Memory (request_at text) (Ok (request, length text)) (op_never text)
    (request_laws.request_only text (request_at text) request text [] (gives_itself op.Memory (request_at text)) s
    (sym (append-nil text))) in
    let head = bind_ok (head_at text) _ (request, length text) read in
    head_some (opcode_number s.code) s.rest head.0 (ap head_at (sym s.parts) ∙ head.1.0)

request_front : (request : Op) (text bytes more : List ℕ) → SpellsOp request text → bytes ++ more ≡ text →
    0 < length more → IsCutRequest bytes
request_front request text bytes more s parts some = record {
  missing = more;
  some = some;
  whole = record {
    head = 0 ∷ 28 ∷ opcode_number s.code ∷ [];
    rest = s.rest;
    parts = parts ∙ s.parts;
    three = refl;
    framed = record {
      prefix = s.holds.prefix;
      message = s.holds.message;
      parts = s.holds.parts;
      spelled = s.holds.spelled;
    };
  };
  version = λ high low rest e.
      let same : high ∷ low ∷ (rest ++ more) ≡ 0 ∷ 28 ∷ opcode_number s.code ∷ s.rest = ap (λ l. l ++ more) (sym e) ∙
      (parts ∙ s.parts) in
      let a : high ≡ 0 = cc in let b : low ≡ 28 = cc in omega arith;
  code = λ high low number rest e.
      let same : high ∷ low ∷ number ∷ (rest ++ more) ≡ 0 ∷ 28 ∷ opcode_number s.code ∷ s.rest =
      ap (λ l. l ++ more) (sym e) ∙ (parts ∙ s.parts) in
      let a : opcode_number s.code ≡ number = cc in
      subst (λ (k : ℕ). IsSome (opcode_with k)) a (request_listed request text s);
  lawful = λ high low number rest e n behind begins.
      let same : high ∷ low ∷ number ∷ (rest ++ more) ≡ 0 ∷ 28 ∷ opcode_number s.code ∷ s.rest =
      ap (λ l. l ++ more) (sym e) ∙ (parts ∙ s.parts) in
      let a : rest ++ more ≡ s.rest = cc in (prefixed_front _ s.rest rest more s.holds a some).lawful n behind begins;
}

packet_front : (m : Packet) (text bytes more : List ℕ) → SpellsPacket m text → bytes ++ more ≡ text → 0 < length more →
    IsCutPacket bytes
packet_front m text bytes more s parts some =
    let read = read_steps text m (length text) (ap packet_at (sym (append-nil text)) ∙ packet_again m text [] s) in
    let passes = frame_passes text read.frame read.framed in
    let size : length text ≡ frame_len (payload_of text) (header_len_of text) =
    sym (ap Frame.size passes.1 ∙ read.size) in
    record {
      missing = more;
      some = some;
      whole = subst IsWholePacket (sym parts) (record { lengths = passes.0.six; size = size });
      lawful = λ six. lengths six passes.0.low passes.0.high;
    }
  where
    lengths : 6 ≤ length bytes → 4 ≤ payload_of text → payload_of text + header_len_of text ≤ 16777216 →
        AreLawful (payload_of bytes) (header_len_of bytes)
    lengths six low high =
        let payload : payload_of text ≡ payload_of bytes = ap payload_of (sym parts) ∙
        ap (from_be_bytes w32) (take-append-le 4 bytes more (omega arith)) in
        let header : header_len_of text ≡ header_len_of bytes = ap header_len_of (sym parts) ∙
        ap (from_be_bytes w16) (ap (take 2) (drop-append-le 4 bytes more (omega arith)) ∙
        take-append-le 2 (drop 4 bytes) more (omega (arith, length-drop 4 bytes))) in
        record { low = omega (arith, payload, low); high = omega (arith, payload, header, high) }

-- ---- requests

op_short : (fault : OpFault) → no_op fault ≡ Short → fault ≡ op.Short
op_short op.Short h = refl
op_short (op.Version n) h = cc
op_short (op.Opcode n) h = cc
op_short (op.TooLong n) h = cc
op_short (op.Wire e) h = cc
op_short (op.Missing p) h = cc
op_short op.Memory h = cc

op_memory : (fault : OpFault) → no_op fault ≡ Memory → fault ≡ op.Memory
op_memory op.Short h = cc
op_memory (op.Version n) h = cc
op_memory (op.Opcode n) h = cc
op_memory (op.TooLong n) h = cc
op_memory (op.Wire e) h = cc
op_memory (op.Missing p) h = cc
op_memory op.Memory h = refl

op_refused : (fault : OpFault) (e : FeedFault) → no_op fault ≡ Refused e → IsOfStream e
op_refused op.Short f is = cc
op_refused (op.Version n) f is = let same : feed.Op (op.Version n) ≡ f = cc in subst IsOfStream same (λ h. cc, λ h. cc)
op_refused (op.Opcode n) f is = let same : feed.Op (op.Opcode n) ≡ f = cc in subst IsOfStream same (λ h. cc, λ h. cc)
op_refused (op.TooLong n) f is = let same : feed.Op (op.TooLong n) ≡ f = cc in subst IsOfStream same (λ h. cc, λ h. cc)
op_refused (op.Wire e) f is = let same : feed.Op (op.Wire e) ≡ f = cc in subst IsOfStream same (λ h. cc, λ h. cc)
op_refused (op.Missing p) f is = let same : feed.Op (op.Missing p) ≡ f = cc in subst IsOfStream same (λ h. cc, λ h. cc)
op_refused op.Memory f is = cc

pub requests_sound : IsSound requests
requests_sound = record {
  found = λ m k bytes fits e. request_laws.request_found bytes (Ok (m, k)) fits
      (sym (with_cause_ok no_op (request_at bytes) (m, k) e));
  within = λ m k bytes fits e. request_laws.request_within bytes (Ok (m, k)) fits
      (sym (with_cause_ok no_op (request_at bytes) (m, k) e));
  listed = λ m k bytes fits e. tt;
  only = λ m text rest s. ap (with_cause no_op) (exactly op.Memory (request_at (text ++ rest)) (Ok (m, length text))
      (op_never (text ++ rest)) (request_laws.request_only (text ++
      rest) (request_at (text ++ rest)) m text rest (gives_itself op.Memory (request_at (text ++ rest))) s refl));
  fails = λ why bytes fits e. requests_fails why bytes fits (with_cause_err no_op (request_at bytes) why e);
  stopped = λ why bytes fits s. ap (with_cause no_op) (request_laws.request_refuses bytes s.0 fits s.2) ∙ ap Err s.1;
  is_cut = λ bytes s. subst (λ (e : OpFault). IsRefusedOp e bytes) (op_short s.0 s.1) s.2;
  cut = λ bytes c. (op.Short, refl, c);
  front = λ m text bytes more s parts some. request_front m text bytes more s parts some;
  no_memory = λ bytes s. subst (λ (e : OpFault). IsRefusedOp e bytes) (op_memory s.0 s.1) s.2;
  sized = λ m text s. request_sized m text s;
  of_stream = λ e bytes s. op_refused s.0 e s.1;
}
  where
    requests_fails : (why : NoMessage) (bytes : List ℕ) → IsBytes bytes → (d : OpFault) ×
        ((request_at bytes ≡ Err d) × (no_op d ≡ why)) → StandsThere no_op IsRefusedOp why bytes
    requests_fails why bytes fits d =
        elim (request_laws.request_refused bytes (Err d.0) fits (inr (sym d.1.0))) [
          | inl is ↦ absurd (op_never bytes (d.1.0 ∙ ap Err is))
          | inr there ↦ (d.0, d.1.1, there)
        ]

-- ---- packets

packet_short : (fault : PacketFault) → no_packet fault ≡ Short → fault ≡ packet.Short
packet_short packet.Short h = refl
packet_short (packet.Length a b) h = cc
packet_short (packet.Header c) h = cc
packet_short (packet.SumCount z) h = cc
packet_short packet.Memory h = cc

packet_memory : (fault : PacketFault) → no_packet fault ≡ Memory → fault ≡ packet.Memory
packet_memory packet.Short h = cc
packet_memory (packet.Length a b) h = cc
packet_memory (packet.Header c) h = cc
packet_memory (packet.SumCount z) h = cc
packet_memory packet.Memory h = refl

packet_refused : (fault : PacketFault) (e : FeedFault) → no_packet fault ≡ Refused e → IsOfStream e
packet_refused packet.Short f is = cc
packet_refused (packet.Length a b) f is = let same : feed.Packet (packet.Length a b) ≡ f = cc in
    subst IsOfStream same (λ h. cc, λ h. cc)
packet_refused (packet.Header c) f is = let same : feed.Packet (packet.Header c) ≡ f = cc in
    subst IsOfStream same (λ h. cc, λ h. cc)
packet_refused (packet.SumCount z) f is = let same : feed.Packet (packet.SumCount z) ≡ f = cc in
    subst IsOfStream same (λ h. cc, λ h. cc)
packet_refused packet.Memory f is = cc

pub packets_sound : IsSound packets
packets_sound = record {
  found = λ m k bytes fits e. packet_laws.read_found bytes (Ok (m, k)) fits
      (sym (with_cause_ok no_packet (packet_at bytes) (m, k) e));
  within = λ m k bytes fits e. packet_laws.read_within bytes (Ok (m, k)) fits
      (sym (with_cause_ok no_packet (packet_at bytes) (m, k) e));
  listed = λ m k bytes fits e. tt;
  only = λ m text rest s. ap (with_cause no_packet) (packet_again m text rest s);
  fails = λ why bytes fits e. packets_fails why bytes fits (with_cause_err no_packet (packet_at bytes) why e);
  stopped = λ why bytes fits s. ap (with_cause no_packet) (packet_laws.refused_packet bytes s.0 s.2) ∙ ap Err s.1;
  is_cut = λ bytes s. subst (λ (e : PacketFault). IsRefused e bytes) (packet_short s.0 s.1) s.2;
  cut = λ bytes c. (packet.Short, refl, c);
  front = λ m text bytes more s parts some. packet_front m text bytes more s parts some;
  no_memory = λ bytes s. subst (λ (e : PacketFault). IsRefused e bytes) (packet_memory s.0 s.1) s.2;
  sized = λ m text s. packet_sized m text s;
  of_stream = λ e bytes s. packet_refused s.0 e s.1;
}
  where
    packets_fails : (why : NoMessage) (bytes : List ℕ) → IsBytes bytes → (d : PacketFault) ×
        ((packet_at bytes ≡ Err d) × (no_packet d ≡ why)) → StandsThere no_packet IsRefused why bytes
    packets_fails why bytes fits d = (d.0, d.1.1, packet_laws.packet_refused bytes d.0 fits d.1.0)

-- ---- packets with their bytes

ok_parts : (x : Packet × ℕ) (p : Packet) (k : ℕ) → x.0 ≡ p → x.1 ≡ k → x ≡ (p, k)
ok_parts x p k one two = ap (λ (q : Packet). (q, x.1)) one ∙ ap (λ (n : ℕ). (p, n)) two

-- a packet with these bytes
abbrev framed : Packet → List ℕ → PacketFrame
framed p text = record { packet = p; text = text }

text_read : (bytes : List ℕ) (r : Result (Packet × ℕ) NoMessage) (m : PacketFrame) (k : ℕ) →
    with_text bytes r ≡ Ok (m, k) → (r ≡ Ok (m.packet, k)) × (m.text ≡ take k bytes)
text_read bytes (Ok x) m k e =
    let same : ◌≡◌ {A = PacketFrame × ℕ} (framed x.0 (take x.1 bytes), x.1) (m, k) = cc in
    let size : x.1 ≡ k = ap (λ p. p.1) same in (
      ap Ok (ok_parts x m.packet k (ap (λ p. p.0.packet) same) size),
      sym (ap (λ p. p.0.text) same) ∙
          ap (λ n. take n bytes) size,
    )
text_read bytes (Err why) m k e = cc

text_unread : (bytes : List ℕ) (r : Result (Packet × ℕ) NoMessage) (why : NoMessage) → with_text bytes r ≡ Err why →
    r ≡ Err why
text_unread bytes (Ok x) why e = cc
text_unread bytes (Err other) why e = cc

pub packet_frames_sound : IsSound packet_frames
packet_frames_sound = record {
  found = λ m k bytes fits e. let d = text_read bytes (packets.reads bytes) m k e in
      (packets_sound.found m.packet k bytes fits d.0, d.1);
  within = λ m k bytes fits e. packets_sound.within m.packet k bytes fits
      (text_read bytes (packets.reads bytes) m k e).0;
  listed = λ m k bytes fits e. tt;
  only = λ m text rest s. frame_only m text rest s;
  fails = λ why bytes fits e. packets_sound.fails why bytes fits (text_unread bytes (packets.reads bytes) why e);
  stopped = λ why bytes fits s. ap (with_text bytes) (packets_sound.stopped why bytes fits s);
  is_cut = packets_sound.is_cut;
  cut = packets_sound.cut;
  front = λ m text bytes more s parts some. packets_sound.front m.packet text bytes more s.0 parts some;
  no_memory = packets_sound.no_memory;
  sized = λ m text s. packets_sound.sized m.packet text s.0;
  of_stream = packets_sound.of_stream;
}
  where
    frame_only : (m : PacketFrame) (text rest : List ℕ) → SpellsFrame m text →
        with_text (text ++ rest) (packets.reads (text ++ rest)) ≡ Ok (m, length text)
    frame_only m text rest s =
        let kept : m.text ≡ take (length text) (text ++ rest) = s.1 ∙ sym (take-append_seam text rest) in
        ap (with_text (text ++ rest)) (packets_sound.only m.packet text rest s.0) ∙
        ap (λ (t : List ℕ). Ok (framed m.packet t, length text)) (sym kept)

-- ---- responses

response_short : (fault : ResponseFault) → no_response fault ≡ Short → fault ≡ response.Short
response_short response.Short h = refl
response_short (response.TooLong n) h = cc
response_short (response.Wire e) h = cc
response_short (response.Missing n) h = cc
response_short response.Memory h = cc

response_memory : (fault : ResponseFault) → no_response fault ≡ Memory → fault ≡ response.Memory
response_memory response.Short h = cc
response_memory (response.TooLong n) h = cc
response_memory (response.Wire e) h = cc
response_memory (response.Missing n) h = cc
response_memory response.Memory h = refl

response_refused : (fault : ResponseFault) (e : FeedFault) → no_response fault ≡ Refused e → IsOfStream e
response_refused response.Short f is = cc
response_refused (response.TooLong n) f is = let same : feed.Response (response.TooLong n) ≡ f = cc in
    subst IsOfStream same (λ h. cc, λ h. cc)
response_refused (response.Wire e) f is = let same : feed.Response (response.Wire e) ≡ f = cc in
    subst IsOfStream same (λ h. cc, λ h. cc)
response_refused (response.Missing n) f is = let same : feed.Response (response.Missing n) ≡ f = cc in
    subst IsOfStream same (λ h. cc, λ h. cc)
response_refused response.Memory f is = cc

pub responses_sound : IsSound responses
responses_sound = record {
  found = λ m k bytes fits e. response_laws.read_found bytes (Ok (m, k)) fits
      (sym (with_cause_ok no_response (response_at bytes) (m, k) e));
  within = λ m k bytes fits e. response_laws.read_within bytes (Ok (m, k)) fits
      (sym (with_cause_ok no_response (response_at bytes) (m, k) e));
  listed = λ m k bytes fits e. response_laws.read_listed bytes (Ok (m, k)) fits
      (sym (with_cause_ok no_response (response_at bytes) (m, k) e));
  only = λ m text rest s. ap (with_cause no_response)
      (exactly response.Memory (response_at (text ++ rest)) (Ok (m, length text)) (response_never (text ++ rest))
      (response_laws.read_only (text ++
      rest) (response_at (text ++ rest)) m text rest (gives_itself response.Memory (response_at (text ++ rest))) s
      refl));
  fails = λ why bytes fits e. responses_fails why bytes fits (with_cause_err no_response (response_at bytes) why e);
  stopped = λ why bytes fits s. ap (with_cause no_response)
      (exactly response.Memory (response_at bytes) (Err s.0) (response_never bytes)
      (response_laws.read_refuses bytes (response_at bytes) s.0 fits (gives_itself response.Memory (response_at bytes))
      s.2)) ∙ ap Err s.1;
  is_cut = λ bytes s. subst (λ (e : ResponseFault). IsRefusedResponse e bytes) (response_short s.0 s.1) s.2;
  cut = λ bytes c. (response.Short, refl, c);
  front = λ m text bytes more s parts some. prefixed_front (SaysResponse m) text bytes more s parts some;
  no_memory = λ bytes s. subst (λ (e : ResponseFault). IsRefusedResponse e bytes) (response_memory s.0 s.1) s.2;
  sized = λ m text s. prefixed_sized (SaysResponse m) text s;
  of_stream = λ e bytes s. response_refused s.0 e s.1;
}
  where
    responses_fails : (why : NoMessage) (bytes : List ℕ) → IsBytes bytes → (d : ResponseFault) ×
        ((response_at bytes ≡ Err d) × (no_response d ≡ why)) → StandsThere no_response IsRefusedResponse why bytes
    responses_fails why bytes fits d =
        elim (response_laws.read_refused bytes (Err d.0) fits (inr (sym d.1.0))) [
          | inl is ↦ absurd (response_never bytes (d.1.0 ∙ ap Err is))
          | inr there ↦ (d.0, d.1.1, there)
        ]

-- ---- answers

answer_short : (fault : AnswerFault) → no_answer fault ≡ Short → fault ≡ answer.Short
answer_short answer.Short h = refl
answer_short (answer.TooLong n) h = cc
answer_short (answer.Wire e) h = cc
answer_short (answer.Missing n) h = cc
answer_short answer.Memory h = cc

answer_memory : (fault : AnswerFault) → no_answer fault ≡ Memory → fault ≡ answer.Memory
answer_memory answer.Short h = cc
answer_memory (answer.TooLong n) h = cc
answer_memory (answer.Wire e) h = cc
answer_memory (answer.Missing n) h = cc
answer_memory answer.Memory h = refl

answer_refused : (fault : AnswerFault) (e : FeedFault) → no_answer fault ≡ Refused e → IsOfStream e
answer_refused answer.Short f is = cc
answer_refused (answer.TooLong n) f is = let same : feed.Recovery (answer.TooLong n) ≡ f = cc in
    subst IsOfStream same (λ h. cc, λ h. cc)
answer_refused (answer.Wire e) f is = let same : feed.Recovery (answer.Wire e) ≡ f = cc in
    subst IsOfStream same (λ h. cc, λ h. cc)
answer_refused (answer.Missing n) f is = let same : feed.Recovery (answer.Missing n) ≡ f = cc in
    subst IsOfStream same (λ h. cc, λ h. cc)
answer_refused answer.Memory f is = cc

pub answers_sound : IsSound answers
answers_sound = record {
  found = λ m k bytes fits e. answer_laws.answer_found bytes (Ok (m, k)) fits
      (sym (with_cause_ok no_answer (answer_at bytes) (m, k) e));
  within = λ m k bytes fits e. answer_laws.answer_within bytes (Ok (m, k)) fits
      (sym (with_cause_ok no_answer (answer_at bytes) (m, k) e));
  listed = λ m k bytes fits e. answer_laws.answer_listed bytes (Ok (m, k)) fits
      (sym (with_cause_ok no_answer (answer_at bytes) (m, k) e));
  only = λ m text rest s. ap (with_cause no_answer)
      (exactly answer.Memory (answer_at (text ++ rest)) (Ok (m, length text)) (answer_never (text ++ rest))
      (answer_laws.answer_only (text ++
      rest) (answer_at (text ++ rest)) m text rest (gives_itself answer.Memory (answer_at (text ++ rest))) s refl));
  fails = λ why bytes fits e. answers_fails why bytes fits (with_cause_err no_answer (answer_at bytes) why e);
  stopped = λ why bytes fits s. ap (with_cause no_answer) (answer_laws.answer_refuses bytes s.0 fits s.2) ∙ ap Err s.1;
  is_cut = λ bytes s. subst (λ (e : AnswerFault). IsRefusedAnswer e bytes) (answer_short s.0 s.1) s.2;
  cut = λ bytes c. (answer.Short, refl, c);
  front = λ m text bytes more s parts some. prefixed_front (λ message. answer_format.says message (Ok m)) text bytes
      more s parts some;
  no_memory = λ bytes s. subst (λ (e : AnswerFault). IsRefusedAnswer e bytes) (answer_memory s.0 s.1) s.2;
  sized = λ m text s. prefixed_sized (λ message. answer_format.says message (Ok m)) text s;
  of_stream = λ e bytes s. answer_refused s.0 e s.1;
}
  where
    answers_fails : (why : NoMessage) (bytes : List ℕ) → IsBytes bytes → (d : AnswerFault) ×
        ((answer_at bytes ≡ Err d) × (no_answer d ≡ why)) → StandsThere no_answer IsRefusedAnswer why bytes
    answers_fails why bytes fits d =
        elim (answer_laws.answer_refused bytes (Err d.0) fits (inr (sym d.1.0))) [
          | inl is ↦ absurd (answer_never bytes (d.1.0 ∙ ap Err is))
          | inr there ↦ (d.0, d.1.1, there)
        ]

-- ---- acks and read statuses

ack_short : (fault : AckFault) → no_ack fault ≡ Short → fault ≡ ack.Short
ack_short ack.Short h = refl
ack_short (ack.TooLong n) h = cc
ack_short (ack.Wire e) h = cc
ack_short (ack.Missing n) h = cc
ack_short (ack.Replies n) h = cc

ack_memory : (fault : AckFault) → no_ack fault ≡ Memory → ⊥
ack_memory ack.Short h = cc
ack_memory (ack.TooLong n) h = cc
ack_memory (ack.Wire e) h = cc
ack_memory (ack.Missing n) h = cc
ack_memory (ack.Replies n) h = cc

ack_refused : (fault : AckFault) (e : FeedFault) → no_ack fault ≡ Refused e → IsOfStream e
ack_refused ack.Short f is = cc
ack_refused (ack.TooLong n) f is = let same : feed.Ack (ack.TooLong n) ≡ f = cc in subst IsOfStream same (λ h. cc)
ack_refused (ack.Wire e) f is = let same : feed.Ack (ack.Wire e) ≡ f = cc in subst IsOfStream same (λ h. cc)
ack_refused (ack.Missing n) f is = let same : feed.Ack (ack.Missing n) ≡ f = cc in subst IsOfStream same (λ h. cc)
ack_refused (ack.Replies n) f is = let same : feed.Ack (ack.Replies n) ≡ f = cc in subst IsOfStream same (λ h. cc)

pub acks_sound : IsSound acks
acks_sound = record {
  found = λ m k bytes fits e. ack_laws.ack_found bytes (Ok (m, k)) fits
      (sym (with_cause_ok no_ack (ack_at bytes) (m, k) e));
  within = λ m k bytes fits e. ack_laws.ack_within bytes (Ok (m, k)) fits
      (sym (with_cause_ok no_ack (ack_at bytes) (m, k) e));
  listed = λ m k bytes fits e. ack_laws.ack_listed bytes (Ok (m, k)) fits
      (sym (with_cause_ok no_ack (ack_at bytes) (m, k) e));
  only = λ m text rest s. ap (with_cause no_ack) (ack_laws.ack_again m text rest s);
  fails = λ why bytes fits e. acks_fails why bytes fits (with_cause_err no_ack (ack_at bytes) why e);
  stopped = λ why bytes fits s. ap (with_cause no_ack) (ack_laws.refuses_ack bytes s.0 fits s.2) ∙ ap Err s.1;
  is_cut = λ bytes s. subst (λ (e : AckFault). IsRefusedAck e bytes) (ack_short s.0 s.1) s.2;
  cut = λ bytes c. (ack.Short, refl, c);
  front = λ m text bytes more s parts some. prefixed_front (SaysAck m) text bytes more s parts some;
  no_memory = λ bytes s. ack_memory s.0 s.1;
  sized = λ m text s. prefixed_sized (SaysAck m) text s;
  of_stream = λ e bytes s. ack_refused s.0 e s.1;
}
  where
    acks_fails : (why : NoMessage) (bytes : List ℕ) → IsBytes bytes → (d : AckFault) ×
        ((ack_at bytes ≡ Err d) × (no_ack d ≡ why)) → StandsThere no_ack IsRefusedAck why bytes
    acks_fails why bytes fits d = (d.0, d.1.1, ack_laws.ack_refused bytes (Err d.0) fits (sym d.1.0))

pub read_statuses_sound : IsSound read_statuses
read_statuses_sound = record {
  found = λ m k bytes fits e. ack_laws.read_status_found bytes (Ok (m, k)) fits
      (sym (with_cause_ok no_ack (read_status_at bytes) (m, k) e));
  within = λ m k bytes fits e. ack_laws.read_status_within bytes (Ok (m, k)) fits
      (sym (with_cause_ok no_ack (read_status_at bytes) (m, k) e));
  listed = λ m k bytes fits e. ack_laws.read_status_listed bytes (Ok (m, k)) fits
      (sym (with_cause_ok no_ack (read_status_at bytes) (m, k) e));
  only = λ m text rest s. ap (with_cause no_ack) (ack_laws.read_status_again m text rest s);
  fails = λ why bytes fits e. read_statuses_fails why bytes fits (with_cause_err no_ack (read_status_at bytes) why e);
  stopped = λ why bytes fits s. ap (with_cause no_ack) (ack_laws.refuses_read_status bytes s.0 fits s.2) ∙ ap Err s.1;
  is_cut = λ bytes s. subst (λ (e : AckFault). IsRefusedReadStatus e bytes) (ack_short s.0 s.1) s.2;
  cut = λ bytes c. (ack.Short, refl, c);
  front = λ m text bytes more s parts some. prefixed_front (SaysReadStatus m) text bytes more s parts some;
  no_memory = λ bytes s. ack_memory s.0 s.1;
  sized = λ m text s. prefixed_sized (SaysReadStatus m) text s;
  of_stream = λ e bytes s. ack_refused s.0 e s.1;
}
  where
    read_statuses_fails : (why : NoMessage) (bytes : List ℕ) → IsBytes bytes → (d : AckFault) ×
        ((read_status_at bytes ≡ Err d) × (no_ack d ≡ why)) → StandsThere no_ack IsRefusedReadStatus why bytes
    read_statuses_fails why bytes fits d = (d.0, d.1.1, ack_laws.read_status_refused bytes (Err d.0) fits (sym d.1.0))
