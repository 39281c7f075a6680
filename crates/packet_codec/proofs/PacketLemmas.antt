-- Packets: what bytes spell is read, and what is read is spelled.
use Rattle.std.proofs.Common.{◌≡◌, ◌==◌, ℕ, ◌+◌, ◌-◌, ◌%◌, ◌^◌, ◌<◌, ◌≤◌, nat_lt, true, false, Bool, cond, List, [], ◌++◌, length, take, drop, Result, Ok, Err, subst, arith, refl, sym, ◌∙◌, ap, length-append, length-drop, take-append-drop, append_assoc, append-nil, ℤ, pos, negsuc}
use Rattle.std.specs.Int.{w16, w32, to_be_bytes}
use Rattle.std.proofs.lemmas.Grind.{common_steps}
use Rattle.std.proofs.lemmas.Bool.Decides.{nat_tests}
use Rattle.std.proofs.lemmas.Bool.{ltb-false}
use Rattle.std.proofs.lemmas.List.{take_at, drop_at, length-take}
use Rattle.proto_fields.specs.declared.reading.Wire.{Wire}
use Rattle.hd_base.specs.Results.{◌>>=◌, with_cause}
use Rattle.hd_base.specs.Bytes.{IsBytes}
use Rattle.proto_fields.specs.Fields.{Spells, fields_at}
use Rattle.proto_fields.proofs.NumberLemmas.{wide_16, wide_32}
use Rattle.proto_fields.proofs.PlaceLemmas.{fields_at_spell, spelled_fields_at}
use Rattle.hd_base.proofs.ResultLaws.{err_ok, bind_ok, with_cause_ok, ok_value, ok_pair}
use Rattle.packet_codec.specs.declared.headers.Header.{Header}
use Rattle.packet_codec.specs.declared.packets.Packet.{Packet}
use Rattle.packet_codec.specs.declared.faults.PacketFault.{PacketFault}
use Rattle.packet_codec.specs.declared.faults.PacketFault.TheVariants as fault
use Rattle.packet_codec.specs.declared.faults.HeaderCause.TheVariants as cause
use Rattle.packet_codec.specs.Headers.{header_of, header_at}
use Rattle.packet_codec.specs.Frames.{Frame, frame_len, frame_at}
use Rattle.packet_codec.specs.Packets.{header_for, payload_for, SpellsPacket, sums_within, packet_of, packet_at}
use Rattle.packet_codec.proofs.FrameLemmas.{frame_again, TakesFrame, frame_takes}

-- ---- the sums' length

-- sums of so many bytes before a body of so many are found
sums_again : (sums body : ℕ) → sums % 4 ≡ 0 → sums_within (sums + body) (pos body) ≡ Ok sums
unfolding sums_within
sums_again sums body whole =
    let enough : nat_lt (sums + body) body ≡ false = grind (arith, nat_tests) in
    let rest : sums + body - body ≡ sums = omega arith in
    let fits : (sums % 4 == 0) ≡ true = grind (arith, nat_tests) in
    rw (enough, rest, fits) refl

-- what was found of the sums
record TakesSums (available : ℕ) (z : ℤ) (n : ℕ) : Type 0 where
  within : n ≤ available
  whole : n % 4 ≡ 0
  body : z ≡ pos (available - n)

sums_of_body : (available body n : ℕ) (one two : Bool) (x y : PacketFault) → nat_lt available body ≡ one → ((available - body) % 4 == 0) ≡ two → cond one (Err x) (cond two (Ok (available - body)) (Err y)) ≡ Ok n → TakesSums available (pos body) n
sums_of_body available body n true two x y enough fits e = absurd (err_ok x n e)
sums_of_body available body n false false x y enough fits e = absurd (err_ok y n e)
sums_of_body available body n false true x y enough fits e =
    let value : available - body ≡ n = ok_value (available - body) n e in
    let low : body ≤ available = ltb-false available body enough in
    let rest : body ≡ available - n = omega arith in
    let mult : (available - body) % 4 ≡ 0 = grind (arith, nat_tests) in
    record { within = omega arith; whole = subst (λ k. k % 4 ≡ 0) value mult; body = ap pos rest }

sums_takes : (available : ℕ) (z : ℤ) (n : ℕ) → sums_within available z ≡ Ok n → TakesSums available z n
unfolding sums_within
sums_takes available (pos body) n e = sums_of_body available body n _ _ _ _ refl refl e
sums_takes available (negsuc body) n e = absurd (err_ok _ n e)

-- ---- what is spelled is read

-- the bytes of a packet and what follows, frame part by frame part
spelled_parts : (m : Packet) (header rest text : List ℕ) → text ≡ to_be_bytes w32 (payload_for m) ++ (to_be_bytes w16 (length header) ++ (header ++ (m.sums ++ m.body))) → text ++ rest ≡ to_be_bytes w32 (payload_for m) ++ (to_be_bytes w16 (length header) ++ (header ++ ((m.sums ++ m.body) ++ rest)))
spelled_parts m header rest text parts =
    let a : List ℕ = to_be_bytes w32 (payload_for m) in
    let b : List ℕ = to_be_bytes w16 (length header) in
    ap (λ t. t ++ rest) parts
    ∙ (append_assoc a (b ++ (header ++ (m.sums ++ m.body))) rest
    ∙ ap (λ l. a ++ l) (append_assoc b (header ++ (m.sums ++ m.body)) rest
    ∙ ap (λ l. b ++ l) (append_assoc header (m.sums ++ m.body) rest)))

-- the header of a packet that is spelled
spelled_header : (m : Packet) (header : List ℕ) (fields : List (ℕ × Wire)) → Spells fields header → header_of fields ≡ Ok (header_for m) → with_cause fault.Header (header_at header) ≡ Ok (header_for m)
spelled_header m header fields spelled decoded = rw (spelled_fields_at header fields spelled) (rw decoded refl)

-- a packet cut out of its data
cut_packet : (m : Packet) → packet_of (header_for m) (m.sums ++ m.body) (length m.sums) ≡ m
cut_packet m = rw (take_at m.sums m.body (length m.sums) refl, drop_at m.sums m.body (length m.sums) refl) refl

-- the steps of reading, put together
pub steps : (bytes : List ℕ) (f : Frame) (h : Header) (n : ℕ) → frame_at bytes ≡ Ok f → with_cause fault.Header (header_at f.header) ≡ Ok h → sums_within (length f.rest) h.data_len ≡ Ok n → packet_at bytes ≡ Ok (packet_of h f.rest n, f.size)
unfolding packet_at
steps bytes f h n frame header sums = rw frame (rw header (rw sums refl))

-- What bytes spell is read, whatever follows.
pub packet_again : (m : Packet) (text rest : List ℕ) → SpellsPacket m text → packet_at (text ++ rest) ≡ Ok (m, length text)
packet_again m text rest sp =
    let payload : ℕ = payload_for m in
    let header : ℕ = length sp.header in
    let f : Frame = record { header = sp.header; rest = m.sums ++ m.body; size = frame_len payload header } in
    let data_len : length (m.sums ++ m.body) ≡ length m.sums + length m.body = length-append m.sums m.body in
    let frame : frame_at (text ++ rest) ≡ Ok f =
    ap frame_at (spelled_parts m sp.header rest text sp.parts)
    ∙ frame_again payload header (to_be_bytes w32 payload) (to_be_bytes w16 header) sp.header (m.sums ++ m.body) rest
    refl (wide_32.be_there payload (omega (arith, sp.writable.within))) refl (wide_16.be_there header sp.writable.short) refl (omega (arith, data_len)) (omega arith) sp.writable.within in
    let sums : sums_within (length f.rest) (header_for m).data_len ≡ Ok (length m.sums) =
    ap (λ k. sums_within k (pos (length m.body))) data_len ∙ sums_again (length m.sums) (length m.body) sp.writable.whole in
    let size : frame_len payload header ≡ length text =
    omega (arith, data_len, ap length sp.parts, length-append sp.header (m.sums ++ m.body)) in
    steps (text ++ rest) f (header_for m) (length m.sums) frame (spelled_header m sp.header sp.fields sp.spelled sp.decoded) sums
    ∙ ap (λ k. Ok (packet_of (header_for m) (m.sums ++ m.body) (length m.sums), k)) size
    ∙ ap (λ p. Ok (p, length text)) (cut_packet m)

-- No spelling is a proper prefix of another.
pub packet_prefix : (m n : Packet) (text more : List ℕ) → SpellsPacket m text → SpellsPacket n (text ++ more) → more ≡ []
packet_prefix m n text more sp sq =
    let one : packet_at (text ++ more) ≡ Ok (m, length text) = packet_again m text more sp in
    let two : packet_at ((text ++ more) ++ []) ≡ Ok (n, length (text ++ more)) = packet_again n (text ++ more) [] sq in
    let same : (m ≡ n) × (length text ≡ length (text ++ more)) = ok_pair m n (length text) (length (text ++ more)) (sym one ∙ (ap packet_at (sym (append-nil (text ++ more))) ∙ two)) in
    none_more text more same.1
  where
    none_more : (xs ys : List ℕ) → length xs ≡ length (xs ++ ys) → ys ≡ []
    none_more xs [] e = refl
    none_more xs ys e = grind (arith, common_steps, length-append xs ys)

-- ---- what is read is spelled

-- the fields of a header that was read
record TakesHeader (bytes : List ℕ) (h : Header) : Type 0 where
  fields : List (ℕ × Wire)
  spelled : Spells fields bytes
  decoded : header_of fields ≡ Ok h

header_takes : (bytes : List ℕ) (h : Header) → IsBytes bytes → header_at bytes ≡ Ok h → TakesHeader bytes h
header_takes bytes h fits e =
    let read = bind_ok (with_cause cause.Wire (fields_at bytes)) header_of h e in
    let listed : fields_at bytes ≡ Ok read.0 = with_cause_ok cause.Wire (fields_at bytes) read.0 read.1.0 in
    record { fields = read.0; spelled = fields_at_spell bytes read.0 fits listed; decoded = read.1.1 }

-- A packet that was read, with what stands behind it.
pub record TakesPacket (bytes : List ℕ) (m : Packet) (k : ℕ) : Type 0 where
  pub text : List ℕ
  pub rest : List ℕ
  pub parts : bytes ≡ text ++ rest
  pub spelled : SpellsPacket m text
  pub size : k ≡ length text

-- the steps of reading, taken apart
pub record Read (bytes : List ℕ) (m : Packet) (k : ℕ) : Type 0 where
  pub frame : Frame
  pub header : Header
  pub sums : ℕ
  pub framed : frame_at bytes ≡ Ok frame
  pub headed : header_at frame.header ≡ Ok header
  pub summed : sums_within (length frame.rest) header.data_len ≡ Ok sums
  pub packet : packet_of header frame.rest sums ≡ m
  pub size : frame.size ≡ k

-- the last two steps, as a function of what the frame gave
abbrev pub of_sums : Frame → Header → ℕ → Result (Packet × ℕ) PacketFault
of_sums f h n = Ok (packet_of h f.rest n, f.size)

abbrev pub of_header : Frame → Header → Result (Packet × ℕ) PacketFault
of_header f h = sums_within (length f.rest) h.data_len >>= of_sums f h

abbrev pub of_frame : Frame → Result (Packet × ℕ) PacketFault
of_frame f = with_cause fault.Header (header_at f.header) >>= of_header f

-- reading is these steps
pub packet_at-steps : (bytes : List ℕ) → packet_at bytes ≡ frame_at bytes >>= of_frame
unfolding packet_at
packet_at-steps bytes = refl

pub read_steps : (bytes : List ℕ) (m : Packet) (k : ℕ) → packet_at bytes ≡ Ok (m, k) → Read bytes m k
read_steps bytes m k e =
    let one = bind_ok (frame_at bytes) of_frame (m, k) (sym (packet_at-steps bytes) ∙ e) in
    let two = bind_ok (with_cause fault.Header (header_at one.0.header)) (of_header one.0) (m, k) one.1.1 in
    let three = bind_ok (sums_within (length one.0.rest) two.0.data_len) (of_sums one.0 two.0) (m, k) two.1.1 in
    let same : (packet_of two.0 one.0.rest three.0 ≡ m) × (one.0.size ≡ k) = ok_pair (packet_of two.0 one.0.rest three.0) m one.0.size k three.1.1 in
    record {
      frame = one.0;
      header = two.0;
      sums = three.0;
      framed = one.1.0;
      headed = with_cause_ok fault.Header (header_at one.0.header) two.0 two.1.0;
      summed = three.1.0;
      packet = same.0;
      size = same.1;
    }

-- a header with another length of the body
abbrev with_len : Header → ℤ → Header
with_len h z = record h { data_len = z }

-- The packet that a header and its data make is spelled by the frame's bytes.
spelled_packet : (f : Frame) (bytes : List ℕ) (h : Header) (n : ℕ) → TakesFrame bytes f → TakesHeader f.header h → TakesSums (length f.rest) h.data_len n → TakesPacket bytes (packet_of h f.rest n) f.size
spelled_packet f bytes h n tf th ts =
    let m : Packet = packet_of h f.rest n in
    let sums_len : length (take n f.rest) ≡ n = omega (arith, length-take n f.rest, ts.within) in
    let body_len : length (drop n f.rest) ≡ length f.rest - n = length-drop n f.rest in
    let payload_is : payload_for m ≡ tf.payload = omega (arith, sums_len, body_len, ts.within, tf.data_length, tf.low) in
    let header_is : length f.header ≡ tf.header_len = tf.header_length in
    let text : List ℕ = to_be_bytes w32 (payload_for m) ++ (to_be_bytes w16 (length f.header) ++ (f.header ++ (m.sums ++ m.body))) in
    let joined : m.sums ++ m.body ≡ f.rest = take-append-drop n f.rest in
    let decoded : header_of th.fields ≡ Ok (header_for m) = th.decoded ∙ ap (λ z. Ok (with_len h z)) (ts.body ∙ ap pos (sym body_len)) in
    record {
      text = text;
      rest = tf.behind;
      parts = sym (spelled_parts m f.header tf.behind text refl ∙ (rw (payload_is, header_is, joined) (sym tf.parts)));
      spelled = record {
        header = f.header;
        fields = th.fields;
        spelled = th.spelled;
        decoded = decoded;
        writable = record {
          whole = subst (λ k. k % 4 ≡ 0) (sym sums_len) ts.whole;
          short = subst (λ k. k < 2 ^ 16) (sym header_is) tf.short;
          within = omega (arith, payload_is, header_is, tf.high);
        };
        parts = refl;
      };
      size = omega (arith, tf.size_is, payload_is, header_is, length-append f.header (m.sums ++ m.body), ap length joined, tf.data_length);
    }

-- What was read is spelled at the front of the bytes.
pub packet_takes : (bytes : List ℕ) (m : Packet) (k : ℕ) → IsBytes bytes → packet_at bytes ≡ Ok (m, k) → TakesPacket bytes m k
packet_takes bytes m k fits e =
    let r = read_steps bytes m k e in
    let tf = frame_takes bytes r.frame fits r.framed in
    let taken = spelled_packet r.frame bytes r.header r.sums tf (header_takes r.frame.header r.header tf.header_bytes r.headed) (sums_takes (length r.frame.rest) r.header.data_len r.sums r.summed) in
    subst (λ (p : Packet). TakesPacket bytes p k) r.packet (subst (λ (j : ℕ). TakesPacket bytes (packet_of r.header r.frame.rest r.sums) j) r.size taken)
