-- The packets of a read: what is booked, what is sent, and what follows.
use Rattle.std.specs.Prelude.{◌≡◌, ◌==◌, ◌+◌, ℕ, Bool, true, false, List, length, nat_abs, Option, Some, None, Result, Ok, Err}
use Rattle.hd_base.specs.FileMaps.{FileMap}
use Rattle.hd_base.specs.declared.files.Files as files
use Rattle.hd_base.specs.declared.links.LinkOut as link_out
use Rattle.hd_base.specs.declared.numbers.Receipt.{Receipt}
use Rattle.packet_codec.specs.declared.packets.Packet.{Packet}
use Rattle.packet_codec.specs.Packets.{packet_text}
use Rattle.read_core.specs.ReplicaModel.Rows.{FullReplica}
use Rattle.read_core.specs.ReplicaModel.ReplicaEvent.TheVariants as replica_event
use Rattle.pipe_turns.specs.ReplicaFiles.BookState.{BookState}
use Rattle.pipe_turns.specs.ReplicaFiles.BookFault.{BookFault}
use Rattle.pipe_turns.specs.ReplicaFiles.BookFault.TheVariants as fault
use Rattle.pipe_turns.specs.ReplicaFiles.Books.{replica_of}
use Rattle.pipe_turns.specs.ReplicaFiles.Endings.{BookEnds}
use Rattle.pipe_turns.specs.ReplicaFiles.Reads.{ReadsBytes}
use Rattle.read_core.specs.Servings.{ServingState, piece_len, piece_event, packet_of, sent}
use Rattle.link_pieces.specs.Pieces.{SendsNothing}
use Rattle.visible_read.specs.Sendings.{SendsText}
use Rattle.visible_read.specs.declared.sending.Sending.{Sending}
use Rattle.visible_read.specs.declared.sending.Sending.TheVariants as sending
use Rattle.visible_read.specs.declared.answering.Course.TheVariants as course
use Rattle.frame_feed.specs.declared.notes.Message.TheVariants as reply
use Rattle.visible_read.specs.declared.answering.Served.TheVariants as served
use Rattle.visible_read.specs.declared.answering.Took.{Took}
use Rattle.visible_read.specs.Answers.{wanting, ended}

-- what follows where the book doesn't give the bytes
abbrev pub faulted : ServingState → BookFault → Took
faulted s (fault.Refused refusal receipt) = ended (Some receipt) None (served.Refused refusal)
faulted s (fault.File receipt) = ended (Some receipt) None served.File
faulted s fault.Memory = wanting (course.Sending s)

-- what follows where there are fewer bytes than the replica has
abbrev pub lacking : ServingState → Result Receipt BookFault → Took
lacking s (Ok receipt) = ended (Some receipt) None served.File
lacking s (Err why) = faulted s why

-- a packet was sent: the next one follows, or it was the last one
abbrev pub passed_by : Bool → ServingState → Packet → Receipt → Took
passed_by true s p receipt =
    ended (Some receipt) (Some (reply.Packet p)) (served.Sent (nat_abs p.seqno + 1))
passed_by false s p receipt = record {
  receipt = Some receipt;
  reply = Some (reply.Packet p);
  course = course.Sending (sent s);
  served = None;
}

abbrev pub passed_on : ServingState → Packet → Receipt → Took
passed_on s p receipt = passed_by p.last s p receipt

-- what follows of a packet, by how it was sent
abbrev pub passed : ServingState → Packet → Receipt → Sending → Took
passed s p receipt sending.Sent = passed_on s p receipt
passed s p receipt sending.LinkFailed = ended (Some receipt) None served.LinkFailed

-- A packet is sent as one piece.
pub record Passes {O : Type 0} (o : link_out.Ghosts O) (s : ServingState) (p : Packet) (receipt : Receipt) (out out' : O)
    (took : Took) : Type 0 where
  pub sending : Sending
  pub sent : SendsText o (Some (packet_text p)) sending out out'
  pub follows : took ≡ passed s p receipt sending

-- The next packet is sent, where there are all its bytes; else the read has ended.
abbrev pub PassesAll : {O : Type 0} → link_out.Ghosts O → Bool → ServingState → Receipt → List ℕ → O → O → Took → Type 0
PassesAll o true s receipt body out out' took = Passes o s (packet_of s body) receipt out out' took
PassesAll o false s receipt body out out' took = (took ≡ ended (Some receipt) None served.File) × (out' ≡ out)

abbrev pub PassesBody : {O : Type 0} → link_out.Ghosts O → ServingState → Receipt → List ℕ → O → O → Took → Type 0
PassesBody o s receipt body out out' took = PassesAll o (length body == piece_len s) s receipt body out out' took

-- What is sent with these bytes, by what the book answered.
abbrev pub SendsWith : {O : Type 0} → link_out.Ghosts O → ServingState → List ℕ → Result Receipt BookFault → O → O →
    Took → Type 0
SendsWith o s body (Ok receipt) out out' took = PassesBody o s receipt body out out' took
SendsWith o s body (Err why) out out' took = (took ≡ faulted s why) × SendsNothing o out out'

-- The next packet of a read is booked, and sent with these bytes.
pub record SendsBody {F O : Type 0} (f : files.Ghosts F) (o : link_out.Ghosts O) (s : ServingState) (body : List ℕ)
    (book book' : BookState F) (out out' : O) (took : Took) : Type 0 where
  pub booked : Result Receipt BookFault
  pub ends : BookEnds f book book' (replica_event.Other (piece_event s)) booked
  pub sends : SendsWith o s body booked out out' took

-- The bytes are the replica's, where files are observable, and go into the packet.
pub record Reads {O : Type 0} (o : link_out.Ghosts O) (files : Option FileMap) (r : FullReplica) (s : ServingState)
    (receipt : Receipt) (out out' : O) (took : Took) : Type 0 where
  pub body : List ℕ
  pub bytes : ReadsBytes files r s.at (piece_len s) body
  pub passes : PassesBody o s receipt body out out' took

-- What is sent, by what the book answered.
abbrev pub SendsBooked : {O : Type 0} → link_out.Ghosts O → Option FileMap → FullReplica → ServingState →
    Result Receipt BookFault → O → O → Took → Type 0
SendsBooked o files r s (Ok receipt) out out' took = Reads o files r s receipt out out' took
SendsBooked o files r s (Err why) out out' took = (took ≡ faulted s why) × SendsNothing o out out'

-- The next packet of a read is booked, and sent. Memory for it was taken before.
pub record SendsNext {F O : Type 0} (f : files.Ghosts F) (o : link_out.Ghosts O) (s : ServingState)
    (book book' : BookState F) (out out' : O) (took : Took) : Type 0 where
  pub booked : Result Receipt BookFault
  pub ends : BookEnds f book book' (replica_event.Other (piece_event s)) booked
  pub sends : SendsBooked o (f.files book.drawer) (replica_of book) s booked out out' took
