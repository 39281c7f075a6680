-- What is written is spelled, and so is read again.
use Rattle.std.proofs.Common.{◌≡◌, ℕ, ◌+◌, ◌%◌, ◌^◌, ◌<◌, ◌≤◌, true, false, Bool, List, [], ◌∷◌, ◌++◌, length, drop, Result, Ok, Err, subst, rules, arith, refl, sym, ◌∙◌, ap, append_assoc, append-nil, ℤ, pos}
use Rattle.std.specs.Result.{OnOk}
use Rattle.std.specs.Int.{Width, w16, w32, w64, cast_signed, cast_unsigned, to_be_bytes}
use mir.Val.{bits, Fits, SFits}
use Rattle.std.proofs.Math.Facts.{Fits-of_z}
use Rattle.proto_fields.specs.Varint.{least_within}
use Rattle.std.proofs.lemmas.Int.{to_z-of_z, ints}
use Rattle.std.proofs.lemmas.List.{drop_at}
use Rattle.proto_fields.specs.declared.reading.Wire.{Wire}
use Rattle.proto_fields.specs.declared.reading.Wire.TheVariants as wire
use Rattle.proto_fields.specs.Fields.{Spells, SpellsFrom}
use Rattle.proto_fields.specs.Writing.{tag_text, varint_field, fixed64_field, fixed32_field}
use Rattle.proto_fields.proofs.WrittenLemmas.{varint_field_spells, fixed64_field_spells, fixed32_field_spells, SpellsFrom-cons}
use Rattle.packet_codec.specs.declared.headers.Header.{Header}
use Rattle.packet_codec.specs.declared.packets.Packet.{Packet}
use Rattle.packet_codec.specs.Headers.{flag, header_from, header_of, header_size, places_text, marks_text, sync_text, header_text}
use Rattle.packet_codec.specs.Frames.{limit}
use Rattle.packet_codec.specs.Packets.{ReadsPacket, header_for, payload_for, SpellsPacket, lengths_text, front_text, packet_text, packet_at}
use Rattle.packet_codec.proofs.PacketLemmas.{packet_again}

-- ---- writing

-- a number that was read and written again stays
unsigned_stays : (w : Width) (z : ℤ) → SFits w z → cast_unsigned w (cast_signed w (cast_unsigned w z)) ≡ cast_unsigned w z
unsigned_stays w z fits = ap (cast_unsigned w) (to_z-of_z w z fits)

-- A header whose parts were appended was appended.
pub header_written : {A E : Type 0} (r : Result A E) (old mid new : List ℕ) (h : Header) (o s d : ℕ) → SFits w64 h.offset → SFits w64 h.seqno → SFits w32 h.data_len → o ≡ cast_unsigned w64 (cast_signed w64 (cast_unsigned w64 h.offset)) → s ≡ cast_unsigned w64 (cast_signed w64 (cast_unsigned w64 h.seqno)) → d ≡ cast_unsigned w32 (cast_signed w32 (cast_unsigned w32 h.data_len)) → mid ≡ old ++ places_text o s → OnOk r (new ≡ mid ++ marks_text h.last d h.sync) → OnOk r (new ≡ old ++ header_text h)
unfolding header_text
header_written (Ok x) old mid new h o s d fo fs fd eo es ed front rest =
    let places : places_text o s ≡ places_text (cast_unsigned w64 h.offset) (cast_unsigned w64 h.seqno) =
    ap (λ k. places_text k s) (eo ∙ unsigned_stays w64 h.offset fo) ∙ ap (λ k. places_text (cast_unsigned w64 h.offset) k) (es ∙ unsigned_stays w64 h.seqno fs) in
    let marks : marks_text h.last d h.sync ≡ marks_text h.last (cast_unsigned w32 h.data_len) h.sync =
    ap (λ k. marks_text h.last k h.sync) (ed ∙ unsigned_stays w32 h.data_len fd) in
    rest ∙ (ap (λ l. l ++ marks_text h.last d h.sync) (front ∙ ap (λ l. old ++ l) places)
    ∙ (ap (λ l. (old ++ places_text (cast_unsigned w64 h.offset) (cast_unsigned w64 h.seqno)) ++ l) marks
    ∙ append_assoc old (places_text (cast_unsigned w64 h.offset) (cast_unsigned w64 h.seqno)) (marks_text h.last (cast_unsigned w32 h.data_len) h.sync)))
header_written (Err e) old mid new h o s d fo fs fd eo es ed front rest = tt

-- a signed number in two's complement is below its width's power
below : (w : Width) (z : ℤ) → SFits w z → cast_unsigned w z < 2 ^ bits w
below w z fits = let f : Fits w (cast_unsigned w z) = Fits-of_z fits in f.fits

-- a body within the limit has a length of 32 bits
body_fits : (n : ℕ) → n ≤ 16777216 → SFits w32 (pos n)
body_fits n few = search (rules, ints)

-- ---- the fields of a written header

-- syncBlock's field, where it is true
abbrev sync_fields : Bool → List (ℕ × Wire)
sync_fields true = (5, wire.Varint 1) ∷ []
sync_fields false = []

-- all fields of a written header
abbrev written_fields : ℕ → ℕ → Bool → ℕ → Bool → List (ℕ × Wire)
written_fields offset seqno last data_len sync =
    (1, wire.Eight offset) ∷ (2, wire.Eight seqno) ∷ (3, wire.Varint (flag last)) ∷ (4, wire.Four data_len) ∷ sync_fields sync

flag-small : (b : Bool) → flag b < 2 ^ 64
flag-small true = omega arith
flag-small false = omega arith

sync_spelled : (at : ℕ) (sync : Bool) → SpellsFrom at (sync_fields sync) (sync_text sync)
sync_spelled at true =
    subst (SpellsFrom at ((5, wire.Varint 1) ∷ [])) (append-nil (varint_field 5 1))
    (SpellsFrom-cons at (5, wire.Varint 1) [] (varint_field 5 1) [] (varint_field_spells at 5 1 (omega arith) (omega arith) (omega arith)) refl)
sync_spelled at false = refl

marks_spelled : (at : ℕ) (last : Bool) (data_len : ℕ) (sync : Bool) → data_len < 2 ^ 32 → SpellsFrom at ((3, wire.Varint (flag last)) ∷ (4, wire.Four data_len) ∷ sync_fields sync) (marks_text last data_len sync)
unfolding marks_text
marks_spelled at last data_len sync small =
    SpellsFrom-cons at (3, wire.Varint (flag last)) ((4, wire.Four data_len) ∷ sync_fields sync) (varint_field 3 (flag last)) (fixed32_field 4 data_len ++ sync_text sync)
    (varint_field_spells at 3 (flag last) (omega arith) (omega arith) (flag-small last))
    (SpellsFrom-cons (at + length (varint_field 3 (flag last))) (4, wire.Four data_len) (sync_fields sync) (fixed32_field 4 data_len) (sync_text sync)
    (fixed32_field_spells (at + length (varint_field 3 (flag last))) 4 data_len (omega arith) (omega arith) small)
    (sync_spelled (at + length (varint_field 3 (flag last)) + length (fixed32_field 4 data_len)) sync))

header_spelled : (h : Header) → cast_unsigned w64 h.offset < 2 ^ 64 → cast_unsigned w64 h.seqno < 2 ^ 64 → cast_unsigned w32 h.data_len < 2 ^ 32 → Spells (written_fields (cast_unsigned w64 h.offset) (cast_unsigned w64 h.seqno) h.last (cast_unsigned w32 h.data_len) h.sync) (header_text h)
unfolding header_text places_text
header_spelled h fo fs fd =
    let o : ℕ = cast_unsigned w64 h.offset in
    let s : ℕ = cast_unsigned w64 h.seqno in
    let d : ℕ = cast_unsigned w32 h.data_len in
    let behind : List (ℕ × Wire) = (3, wire.Varint (flag h.last)) ∷ (4, wire.Four d) ∷ sync_fields h.sync in
    subst (Spells ((1, wire.Eight o) ∷ (2, wire.Eight s) ∷ behind)) (sym (append_assoc (fixed64_field 1 o) (fixed64_field 2 s) (marks_text h.last d h.sync)))
    (SpellsFrom-cons 0 (1, wire.Eight o) ((2, wire.Eight s) ∷ behind) (fixed64_field 1 o) (fixed64_field 2 s ++ marks_text h.last d h.sync)
    (fixed64_field_spells 0 1 o (omega arith) (omega arith) fo)
    (SpellsFrom-cons (0 + length (fixed64_field 1 o)) (2, wire.Eight s) behind (fixed64_field 2 s) (marks_text h.last d h.sync)
    (fixed64_field_spells (0 + length (fixed64_field 1 o)) 2 s (omega arith) (omega arith) fs)
    (marks_spelled (0 + length (fixed64_field 1 o) + length (fixed64_field 2 s)) h.last d h.sync fd)))

-- what these fields tell
decoded_fields : (offset seqno : ℕ) (last : Bool) (data_len : ℕ) (sync : Bool) → header_of (written_fields offset seqno last data_len sync) ≡ Ok (record { offset = cast_signed w64 offset; seqno = cast_signed w64 seqno; last = last; sync = sync; data_len = cast_signed w32 data_len })
unfolding header_from
decoded_fields offset seqno true data_len true = refl
decoded_fields offset seqno true data_len false = refl
decoded_fields offset seqno false data_len true = refl
decoded_fields offset seqno false data_len false = refl

decoded_header : (h : Header) → SFits w64 h.offset → SFits w64 h.seqno → SFits w32 h.data_len → header_of (written_fields (cast_unsigned w64 h.offset) (cast_unsigned w64 h.seqno) h.last (cast_unsigned w32 h.data_len) h.sync) ≡ Ok h
decoded_header h fo fs fd =
    decoded_fields (cast_unsigned w64 h.offset) (cast_unsigned w64 h.seqno) h.last (cast_unsigned w32 h.data_len) h.sync
    ∙ rw (to_z-of_z w64 h.offset fo, to_z-of_z w64 h.seqno fs, to_z-of_z w32 h.data_len fd) refl

-- how many bytes a written header has
parts_length : (offset seqno : ℕ) (last : Bool) (data_len : ℕ) (sync : Bool) → length (places_text offset seqno ++ marks_text last data_len sync) ≡ header_size sync
unfolding places_text marks_text fixed64_field varint_field fixed32_field tag_text least_within
parts_length offset seqno true data_len true = refl
parts_length offset seqno true data_len false = refl
parts_length offset seqno false data_len true = refl
parts_length offset seqno false data_len false = refl

header_length : (h : Header) → length (header_text h) ≡ header_size h.sync
unfolding header_text
header_length h = parts_length (cast_unsigned w64 h.offset) (cast_unsigned w64 h.seqno) h.last (cast_unsigned w32 h.data_len) h.sync

size-small : (sync : Bool) → header_size sync < 2 ^ 16
size-small true = omega arith
size-small false = omega arith

-- ---- packets

-- the written spelling, frame part by frame part
packet_parts : (m : Packet) → packet_text m ≡ to_be_bytes w32 (payload_for m) ++ (to_be_bytes w16 (length (header_text (header_for m))) ++ (header_text (header_for m) ++ (m.sums ++ m.body)))
unfolding front_text lengths_text
packet_parts m =
    let a : List ℕ = to_be_bytes w32 (payload_for m) in
    let b : List ℕ = to_be_bytes w16 (header_size m.sync) in
    let h : List ℕ = header_text (header_for m) in
    append_assoc (a ++ b) h (m.sums ++ m.body)
    ∙ (append_assoc a b (h ++ (m.sums ++ m.body))
    ∙ ap (λ k. a ++ (to_be_bytes w16 k ++ (h ++ (m.sums ++ m.body)))) (sym (header_length (header_for m))))

-- What is written is spelled.
pub packet_text_spells : (m : Packet) → SFits w64 m.offset → SFits w64 m.seqno → length m.sums % 4 ≡ 0 → payload_for m + header_size m.sync ≤ limit → SpellsPacket m (packet_text m)
packet_text_spells m fo fs whole within =
    let h : Header = header_for m in
    let fd : SFits w32 h.data_len = body_fits (length m.body) (omega (arith, within)) in
    let size : length (header_text h) ≡ header_size m.sync = header_length h in
    record {
      header = header_text h;
      fields = written_fields (cast_unsigned w64 h.offset) (cast_unsigned w64 h.seqno) h.last (cast_unsigned w32 h.data_len) h.sync;
      spelled = header_spelled h (below w64 h.offset fo) (below w64 h.seqno fs) (below w32 h.data_len fd);
      decoded = decoded_header h fo fs fd;
      writable = record {
        whole = whole;
        short = subst (λ k. k < 2 ^ 16) (sym size) (size-small m.sync);
        within = subst (λ k. payload_for m + k ≤ limit) (sym size) within;
      };
      parts = packet_parts m;
    }

-- What was appended is read again, whatever follows.
pub written_again : {A E : Type 0} (r : Result A E) (old new : List ℕ) (m : Packet) → OnOk r (SpellsPacket m (packet_text m)) → OnOk r (new ≡ old ++ packet_text m) → OnOk r (ReadsPacket old new m)
written_again (Ok x) old new m spelled e = λ rest.
    let behind : drop (length old) (new ++ rest) ≡ packet_text m ++ rest =
    ap (λ l. drop (length old) (l ++ rest)) e ∙ (ap (drop (length old)) (append_assoc old (packet_text m) rest) ∙ drop_at old (packet_text m ++ rest) (length old) refl) in
    ap packet_at behind ∙ packet_again m (packet_text m) rest spelled
written_again (Err e) old new m spelled d = tt

-- what holds anyway holds on success
pub held : {A E : Type 0} (r : Result A E) {P : Type 0} → P → OnOk r P
held (Ok x) p = p
held (Err e) p = tt
