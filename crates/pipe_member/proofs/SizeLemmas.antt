-- A packet that bytes spell can be written: a header has no more bytes as it is written than in any other spelling.
use Rattle.std.proofs.Common.{◌≡◌, ◌==◌, ◌%◌, ◌≤◌, ◌+◌, ℕ, Bool, true, false, if◌then◌else◌, List, [], ◌∷◌, length, Option, Some, None, Result, Ok, refl, ap, sym, ◌∙◌, arith, length-append}
use Rattle.std.proofs.lemmas.Bool.Decides.{nat_tests}
use Rattle.std.specs.Option.{option_or}
use Rattle.std.specs.Int.{w32, w64, to_le_bytes}
use Rattle.proto_fields.specs.declared.reading.Wire.{Wire}
use Rattle.proto_fields.specs.declared.reading.Wire.TheVariants as wire
use Rattle.proto_fields.specs.Varint.{SpellsVarint}
use Rattle.proto_fields.specs.Fields.{SpellsValue, SpellsField, SpellsFrom, Spells}
use Rattle.proto_fields.specs.Values.{picked, last_of, last_varint, last_fixed64, last_fixed32, varint_of, fixed64_of, fixed32_of}
use Rattle.packet_codec.specs.declared.headers.Header.{Header}
use Rattle.packet_codec.specs.declared.packets.Packet.{Packet}
use Rattle.packet_codec.specs.declared.faults.HeaderCause.{HeaderCause}
use Rattle.packet_codec.specs.Headers.{header_from, header_of, header_size, is_set_if_there}
use Rattle.packet_codec.specs.Packets.{SpellsPacket, IsEncodable, header_for}
use Rattle.pipe_member.proofs.FieldSizes.{least_of, all_sizes, there, picks_varint, picks_fixed64, picks_fixed32, trans_le}

more : (n a b : ℕ) → a ≤ b → n + a ≤ n + b
more n a b h = omega arith

-- what a header is told by
pub record Told (a b c d e : Option ℕ) (h : Header) : Type 0 where
  pub offset : (x : ℕ) × (a ≡ Some x)
  pub seqno : (x : ℕ) × (b ≡ Some x)
  pub last : (x : ℕ) × (c ≡ Some x)
  pub data_len : (x : ℕ) × (d ≡ Some x)
  pub sync : h.sync ≡ is_set_if_there e

same_sync : (g h : Header) (e : Bool) (x : Result Header HeaderCause) → x ≡ Ok g → g.sync ≡ e → x ≡ Ok h → h.sync ≡ e
same_sync g h e x first s is = let same : g ≡ h = cc in sym (ap Header.sync same) ∙ s

told_by : (a b c d e : Option ℕ) (h : Header) → header_from (record { offset = a; seqno = b; last = c; data_len = d; sync = e }) ≡ Ok h → Told a b c d e h
unfolding header_from
told_by None b c d e h is = cc
told_by (Some w) None c d e h is = cc
told_by (Some w) (Some x) None d e h is = cc
told_by (Some w) (Some x) (Some y) None e h is = cc
told_by (Some w) (Some x) (Some y) (Some z) e h is = record { offset = (w, refl); seqno = (x, refl); last = (y, refl); data_len = (z, refl); sync = same_sync _ h (is_set_if_there e) _ refl refl is }

sync_size : (sync : Bool) (e : Option ℕ) (n : ℕ) → sync ≡ is_set_if_there e → ((x : ℕ) → e ≡ Some x → 2 ≤ n) → header_size sync ≤ 25 + n
sync_size false e n is h = omega arith
sync_size true None n is h = cc
sync_size true (Some x) n is h = let two : 2 ≤ n = h x refl in omega arith

header_fits : (fs : List (ℕ × Wire)) (text : List ℕ) (h : Header) → Spells fs text → header_of fs ≡ Ok h → header_size h.sync ≤ length text
header_fits fs text h spelled is =
    let told : Told (last_fixed64 1 fs) (last_fixed64 2 fs) (last_varint 3 fs) (last_fixed32 4 fs) (last_varint 5 fs) h = told_by _ _ _ _ _ h is in
    let a : 9 ≤ least_of 1 fs = there fixed64_of (λ x. 9) 1 fs told.offset.0 picks_fixed64 told.offset.1 in
    let b : 9 ≤ least_of 2 fs = there fixed64_of (λ x. 9) 2 fs told.seqno.0 picks_fixed64 told.seqno.1 in
    let c : 2 ≤ least_of 3 fs = there varint_of (λ x. 2) 3 fs told.last.0 picks_varint told.last.1 in
    let d : 5 ≤ least_of 4 fs = there fixed32_of (λ x. 5) 4 fs told.data_len.0 picks_fixed32 told.data_len.1 in
    let e : header_size h.sync ≤ 25 + least_of 5 fs = sync_size h.sync (last_varint 5 fs) (least_of 5 fs) told.sync (λ x s. there varint_of (λ x. 2) 5 fs x picks_varint s) in
    let all : least_of 1 fs + least_of 2 fs + least_of 3 fs + least_of 4 fs + least_of 5 fs + least_of 6 fs ≤ length text = all_sizes 0 fs text spelled in
    let f : 25 + least_of 5 fs ≤ length text = omega arith in
    trans_le _ _ _ e f

-- A packet that bytes spell can be written.
pub encodable : (p : Packet) (text : List ℕ) → SpellsPacket p text → IsEncodable p
encodable p text s =
    let size : header_size p.sync ≤ length s.header = header_fits s.fields s.header (header_for p) s.spelled s.decoded in
    let whole : length p.sums % 4 ≡ 0 = s.writable.whole in
    record { whole = whole; within = trans_le _ _ _ (more _ _ _ size) s.writable.within }
