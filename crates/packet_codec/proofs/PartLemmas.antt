-- The parts of a packet lie where it is read.
use Rattle.std.proofs.Common.{◌≡◌, ℕ, ◌+◌, ◌-◌, ◌≤◌, List, length, take, drop, Ok, sym, ap, ◌∙◌, subst, arith, length-take, length-drop}
use Rattle.std.proofs.lemmas.List.{drop-take, drop-drop}
use Rattle.packet_codec.specs.declared.headers.Header.{Header}
use Rattle.packet_codec.specs.Frames.{payload_of, header_len_of, frame_len, Frame, frame_with, frame_at}
use Rattle.packet_codec.specs.Headers.{header_at}
use Rattle.packet_codec.specs.Packets.{sums_within, packet_of, packet_at}
use Rattle.packet_codec.specs.Parts.{packet_in}
use Rattle.hd_base.specs.Results.{with_cause}
use Rattle.packet_codec.specs.declared.faults.PacketFault.TheVariants as fault
use Rattle.packet_codec.proofs.FrameLemmas.{Passed, frame_passes}
use Rattle.packet_codec.proofs.PacketLemmas.{steps}

-- Where a frame lies: its data ends where it does.
pub record Lies (bytes : List ℕ) (f : Frame) : Type 0 where
  pub within : f.size ≤ length bytes
  pub behind : length f.rest ≤ f.size
  pub data_is : drop (f.size - length f.rest) (take f.size bytes) ≡ f.rest

front_lies : (bytes : List ℕ) (payload header : ℕ) → Passed bytes payload header → Lies bytes (frame_with payload header bytes)
front_lies bytes payload header t =
    let long : length (take (payload - 4) (drop header (drop 6 bytes))) ≡ payload - 4 = omega (arith, t.many, length-take (payload - 4) (drop header (drop 6 bytes)), length-drop header (drop 6 bytes), length-drop 6 bytes) in
    let begins : frame_len payload header - length (take (payload - 4) (drop header (drop 6 bytes))) ≡ 6 + header = omega (arith, long) in
    record {
      within = t.many;
      behind = omega (arith, long);
      data_is = ap (λ n. drop n (take (frame_len payload header) bytes)) begins
          ∙ (drop-take (6 + header) (payload - 4) bytes
          ∙ ap (take (payload - 4)) (sym (drop-drop header 6 bytes)));
    }

-- A frame that was read lies in the bytes.
pub frame_lies : (bytes : List ℕ) (f : Frame) → frame_at bytes ≡ Ok f → Lies bytes f
frame_lies bytes f e =
    let known = frame_passes bytes f e in
    subst (Lies bytes) known.1 (front_lies bytes (payload_of bytes) (header_len_of bytes) known.0)

-- What the parts make is the packet that is read.
pub parts_read : (bytes : List ℕ) (f : Frame) (h : Header) (n : ℕ) → frame_at bytes ≡ Ok f → header_at f.header ≡ Ok h → sums_within (length f.rest) h.data_len ≡ Ok n → Ok (packet_in bytes (record { header = h; data_at = f.size - length f.rest; sums = n; size = f.size })) ≡ packet_at bytes
parts_read bytes f h n frame header sums =
    ap (λ (l : List ℕ). Ok (packet_of h l n, f.size)) (frame_lies bytes f frame).data_is
    ∙ sym (steps bytes f h n frame (ap (with_cause fault.Header) header) sums)
