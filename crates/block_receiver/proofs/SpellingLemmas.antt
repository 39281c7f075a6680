-- A packet whose header is spelled as it is written is in its written spelling.
use Rattle.std.proofs.Common.{◌≡◌, ◌+◌, ◌≤◌, ℕ, suc, [], Bool, true, false, List, ◌++◌, length, take, drop, refl, sym, ap, ◌∙◌, arith, length-append, append_assoc}
use Rattle.std.proofs.Math.Seq.{take-append_seam}
use Rattle.std.specs.Int.{w16, w32, w64, cast_unsigned, to_be_bytes}
use Rattle.proto_fields.specs.Varint.{least_within}
use Rattle.proto_fields.specs.Writing.{tag_text, varint_field, fixed64_field, fixed32_field}
use Rattle.packet_codec.specs.Frames.{limit}
use Rattle.packet_codec.specs.declared.headers.Header.{Header}
use Rattle.packet_codec.specs.declared.packets.Packet.{Packet}
use Rattle.packet_codec.specs.Headers.{header_size, header_text, places_text, marks_text}
use Rattle.packet_codec.specs.Packets.{SpellsPacket, header_for, payload_for, front_text, lengths_text, packet_text}

-- how many bytes a written header has
parts_length : (offset seqno : ℕ) (last : Bool) (data_len : ℕ) (sync : Bool) → length (places_text offset seqno ++ marks_text last data_len sync) ≡ header_size sync
unfolding places_text marks_text fixed64_field varint_field fixed32_field tag_text least_within
parts_length offset seqno true data_len true = refl
parts_length offset seqno true data_len false = refl
parts_length offset seqno false data_len true = refl
parts_length offset seqno false data_len false = refl

header_length : (h : Header) → length (header_text h) ≡ header_size h.sync
unfolding header_text
header_length h = parts_length (cast_unsigned w64 h.offset) (cast_unsigned w64 h.seqno) h.last (cast_unsigned w32 h.data_len) h.sync

-- the lengths, a header and the data, one behind the other
abbrev spelled_with : Packet → List ℕ → List ℕ
spelled_with p header = to_be_bytes w32 (payload_for p) ++ (to_be_bytes w16 (length header) ++ (header ++ (p.sums ++ p.body)))

written_parts : (p : Packet) → packet_text p ≡ spelled_with p (header_text (header_for p))
unfolding front_text lengths_text
written_parts p =
    let a : List ℕ = to_be_bytes w32 (payload_for p) in
    let b : List ℕ = to_be_bytes w16 (header_size p.sync) in
    let h : List ℕ = header_text (header_for p) in
    append_assoc (a ++ b) h (p.sums ++ p.body)
    ∙ (append_assoc a b (h ++ (p.sums ++ p.body))
    ∙ ap (λ k. a ++ (to_be_bytes w16 k ++ (h ++ (p.sums ++ p.body)))) (sym (header_length (header_for p))))

behind_lengths : (n k : ℕ) (rest : List ℕ) → drop 6 (to_be_bytes w32 n ++ (to_be_bytes w16 k ++ rest)) ≡ rest
behind_lengths n k rest = refl

six : (n : ℕ) → suc (suc (suc (suc (suc (suc n))))) ≡ 6 + n
six n = omega arith

spelled_length : (p : Packet) (header : List ℕ) → length (spelled_with p header) ≡ 6 + length header + (length p.sums + length p.body)
spelled_length p header =
    six (length (header ++ (p.sums ++ p.body))) ∙ (ap (λ n. 6 + n) (length-append header (p.sums ++ p.body) ∙ ap (λ n. length header + n) (length-append p.sums p.body)) ∙ regroup (length header) (length p.sums + length p.body))
  where
    regroup : (a b : ℕ) → 6 + (a + b) ≡ 6 + a + b
    regroup a b = omega arith

same_length : (n a b d : ℕ) → n ≡ 6 + a + d → n ≡ 6 + b + d → a ≡ b
same_length n a b d h k = omega arith

pub written_by : (p : Packet) (text rest : List ℕ) → SpellsPacket p text → length text ≡ 6 + length (header_text (header_for p)) + (length p.sums + length p.body)
    → drop 6 text ≡ header_text (header_for p) ++ rest → text ≡ packet_text p
written_by p text rest s size front =
    let w : List ℕ = header_text (header_for p) in
    let data_of : List ℕ = p.sums ++ p.body in
    let is : text ≡ spelled_with p s.header = s.parts in
    let lengths : length s.header ≡ length w = same_length (length text) (length s.header) (length w) (length p.sums + length p.body) (ap length is ∙ spelled_length p s.header) size in
    let behind : s.header ++ data_of ≡ w ++ rest = sym (ap (drop 6) is ∙ behind_lengths (payload_for p) (length s.header) (s.header ++ data_of)) ∙ front in
    let same : s.header ≡ w = sym (take-append_seam s.header data_of) ∙ (ap (take (length s.header)) behind ∙ (ap (λ n. take n (w ++ rest)) lengths ∙ take-append_seam w rest)) in
    is ∙ (ap (spelled_with p) same ∙ sym (written_parts p))

-- a body of a packet that bytes spell is within the limit
pub body_within : (p : Packet) (text : List ℕ) → SpellsPacket p text → length p.body ≤ limit
body_within p text s = let all : payload_for p + length s.header ≤ limit = s.writable.within in omega arith

pub header_of_parts : (p : Packet) (none places all : List ℕ) (d : ℕ) → none ≡ [] → places ≡ none ++ places_text (cast_unsigned w64 p.offset) (cast_unsigned w64 p.seqno)
    → d ≡ length p.body → all ≡ places ++ marks_text p.last d p.sync → all ≡ header_text (header_for p)
unfolding header_text
header_of_parts p none places all d empty front size rest = rest ∙ (ap (λ l. l ++ marks_text p.last d p.sync) (front ∙ ap (λ l. l ++ places_text (cast_unsigned w64 p.offset) (cast_unsigned w64 p.seqno)) empty)
    ∙ ap (λ n. places_text (cast_unsigned w64 p.offset) (cast_unsigned w64 p.seqno) ++ marks_text p.last n p.sync) size)

-- the two lengths stand in front
pub lengths_first : (n a b : ℕ) → n ≡ 6 + a + b → 6 ≤ n
lengths_first n a b h = omega arith
