-- What a reading client does on its connection.
use Rattle.std.specs.Prelude.{◌≡◌, ◌≤◌, ◌⊎◌, ℕ, ℤ, pos, false, true, is_some, List, [], ◌∷◌, length, Option, Some, None, option_map, Ok, Err}
use Rattle.hd_base.specs.declared.ends.Conn.{Conn}
use Rattle.hd_base.specs.declared.links.LinkIn as link_in
use Rattle.hd_base.specs.declared.links.LinkOut as link_out
use Rattle.ack_codec.specs.declared.faults.ResponseFault.TheVariants as response
use Rattle.packet_codec.specs.declared.faults.PacketFault.TheVariants as packet
use Rattle.frame_feed.specs.declared.faults.FeedFault.{FeedFault}
use Rattle.frame_feed.specs.declared.faults.FeedFault.TheVariants as feed
use Rattle.link_messages.specs.Incomings.{IncomingState, nothing_received}
use Rattle.op_headers.specs.declared.ops.Op.TheVariants as op
use Rattle.op_headers.specs.declared.ops.ReadOp.{ReadOp}
use Rattle.op_headers.specs.Requests.{op_message, op_text}
use Rattle.proto_fields.specs.Frames.{limit}
use Rattle.read_core.specs.declared.reading.FromNode.{FromNode}
use Rattle.read_core.specs.declared.reading.FromNode.TheVariants as taken
use Rattle.read_core.specs.declared.reading.ReadFault as core_fault
use Rattle.read_core.specs.declared.reading.ReadFault.TheVariants as core
use Rattle.read_core.specs.declared.reading.ReadTurn.{ReadTurn}
use Rattle.read_core.specs.declared.reading.ReadTurn.TheVariants as turn
use Rattle.read_core.specs.Readings.{ReadingState, asked, take_from}
use Rattle.pipe_turns.specs.Acting.{ShutsBy, with_half}
use Rattle.pipe_turns.specs.Turning.{SendsAlone}
use Rattle.pipe_turns.specs.declared.turning.Done.{Done}
use Rattle.pipe_turns.specs.declared.turning.Done.TheVariants as done
use Rattle.visible_read.specs.declared.hearing.Came.{Came}
use Rattle.visible_read.specs.declared.hearing.Came.TheVariants as came
use Rattle.visible_read.specs.declared.talking.ReadFault.{ReadFault}
use Rattle.visible_read.specs.declared.talking.ReadFault.TheVariants as fault
use Rattle.visible_read.specs.declared.talking.ReadStep.{ReadStep}
use Rattle.visible_read.specs.declared.talking.ReadStep.TheVariants as step
use Rattle.visible_read.specs.declared.talking.Talk.{Talk}
use Rattle.visible_read.specs.Hearing.{Hears}

-- The message of a read's request isn't too long to be sent.
abbrev pub FitsRequest : ReadOp → Type 0
FitsRequest r = length (op_message (op.Read r)) ≤ limit

-- CHECKSUM_OK as it is written
abbrev pub checksum_ok : List ℕ
checksum_ok = 2 ∷ 8 ∷ 6 ∷ []

-- the request that is still to be sent
abbrev pub request_of : Talk → Option (List ℕ)
request_of t = option_map (λ text. text.items) t.request

-- A read of which nothing was done.
pub record Begins (r : ReadOp) (t : Talk) : Type 0 where
  pub request : request_of t ≡ Some (op_text (op.Read r))
  pub nothing : t.incoming ≡ nothing_received
  pub unanswered : t.answered ≡ false
  pub core : t.core ≡ Some (asked r)

-- All but the read is as it was, which has its result.
pub record Closes (old new : Talk) : Type 0 where
  pub over : new.core ≡ None
  pub request : new.request ≡ old.request
  pub incoming : new.incoming ≡ old.incoming
  pub answered : new.answered ≡ old.answered

-- The read fails, and the connection is shut.
pub record Fails {I O : Type 0} (o : link_out.Ghosts O) (why : ReadFault) (old new : Talk) (end end' : Conn I O)
    (result : ReadStep) : Type 0 where
  pub closes : Closes old new
  pub shuts : ShutsBy o end end'
  pub ends : result ≡ step.Ended (Err why)

-- A read that goes on has no result, and one that has ended doesn't go on.
abbrev pub StaysOpen : ReadStep → Option ReadingState → Type 0
StaysOpen (step.Ended result) core = core ≡ None
StaysOpen other core = is_some core ≡ true

-- the bytes that were read
abbrev pub GivesBytes : ReadingState → ReadStep → Type 0
GivesBytes s (step.Ended (Ok bytes)) = bytes.items ≡ s.bytes
GivesBytes s other = ⊥

-- The read has all bytes, and the connection is shut.
pub record Finishes {I O : Type 0} (o : link_out.Ghosts O) (s : ReadingState) (old new : Talk) (end end' : Conn I O)
    (result : ReadStep) : Type 0 where
  pub closes : Closes old new
  pub shuts : ShutsBy o end end'
  pub gives : GivesBytes s result

-- CHECKSUM_OK is sent.
abbrev pub SendsStatus : {O : Type 0} → link_out.Ghosts O → Done → O → O → Type 0
SendsStatus o d out out' = SendsAlone o (Some checksum_ok) d out out'

-- what follows of CHECKSUM_OK, by how it was sent
abbrev pub VerifiesAs : {I O : Type 0} → link_out.Ghosts O → Done → ReadingState → Talk → Talk → Conn I O → Conn I O →
    ReadStep → Type 0
VerifiesAs o done.Memory s old new end end' result = Fails o fault.Memory old new end end' result
VerifiesAs o (done.LinkFailed booked) s old new end end' result = Fails o fault.LinkFailed old new end end' result
VerifiesAs o other s old new end end' result = Finishes o s old new end end' result

-- All bytes are there: CHECKSUM_OK is sent.
pub record Verifies {I O : Type 0} (o : link_out.Ghosts O) (s : ReadingState) (old new : Talk) (end end' : Conn I O)
    (result : ReadStep) : Type 0 where
  pub done : Done
  pub sent : O
  pub sends : SendsStatus o done end.outward sent
  pub follows : VerifiesAs o done s old new (with_half end sent) end' result

-- how many bytes of sums a packet has, 0 of anything else
abbrev pub sums_len : FromNode → ℤ
sums_len (taken.Packet p) = pos (length p.sums)
sums_len other = pos 0

-- Why a message is malformed that can't be read: the feed's fault. Without one it is a packet in place of the answer, or
-- an answer behind the first, which counts as an answer without its status.
abbrev pub unreadable_as : Option FeedFault → FeedFault
unreadable_as (Some e) = e
unreadable_as None = feed.Response (response.Missing 1)

-- The read's fault as it is told, by the fault of the feed, and how many bytes of sums the last packet had.
abbrev pub TellsFault : Option FeedFault → ℤ → core_fault.ReadFault → ReadFault → Type 0
TellsFault refused sums (core.Refused m) (fault.Refused text) = text.items ≡ m
TellsFault refused sums (core.Refused m) told = ⊥
TellsFault refused sums (core.BadSum chunk) told = told ≡ fault.BadSum chunk
TellsFault refused sums core.SumCount told = told ≡ fault.Malformed (feed.Packet (packet.SumCount sums))
TellsFault refused sums core.Unreadable told = told ≡ fault.Malformed (unreadable_as refused)
TellsFault refused sums (core.OutOfPlace want got) told = told ≡ fault.OutOfPlace want got
TellsFault refused sums (core.Rule kind chunk) told = told ≡ fault.Rule kind chunk
TellsFault refused sums core.Ended told = told ≡ fault.Ended

-- The read fails with this fault, as it is told.
pub record FailsAs {I O : Type 0} (o : link_out.Ghosts O) (sums : ℤ) (why : core_fault.ReadFault) (old new : Talk)
    (end end' : Conn I O) (result : ReadStep) : Type 0 where
  pub told : ReadFault
  pub tells : TellsFault old.incoming.refused sums why told
  pub fails : Fails o told old new end end' result

-- The read does what it says.
abbrev pub TakesAs : {I O : Type 0} → link_out.Ghosts O → ℤ → ReadTurn → ReadingState → Talk → Talk → Conn I O →
    Conn I O → ReadStep → Type 0
TakesAs o sums turn.Goes s old new end end' result =
    (new ≡ record old { core = Some s; answered = true }) × (end' ≡ end) × (result ≡ step.Moved)
TakesAs o sums turn.Verified s old new end end' result = Verifies o s old new end end' result
TakesAs o sums (turn.Fails why) s old new end end' result = FailsAs o sums why old new end end' result

abbrev pub out_of : Talk → Talk
out_of t = record t { core = None }

-- The read takes this from the node, or memory ran out.
abbrev pub Takes : {I O : Type 0} → link_out.Ghosts O → FromNode → Option ReadingState → Talk → Talk → Conn I O →
    Conn I O → ReadStep → Type 0
Takes o x None old new end end' result = ⊥
Takes o x (Some s) old new end end' result =
    TakesAs o (sums_len x) (take_from s x).does (take_from s x).reading (out_of old) new end end' result ⊎
    Fails o fault.Memory (out_of old) new end end' result

-- What came is followed.
abbrev pub Follows : {I O : Type 0} → link_out.Ghosts O → Came → Talk → Talk → Conn I O → Conn I O → ReadStep → Type 0
Follows o (came.Taken x) old new end end' result = Takes o x old.core old new end end' result
Follows o came.NotYet old new end end' result = (new ≡ old) × (end' ≡ end) × (result ≡ step.Waiting)
Follows o came.LinkFailed old new end end' result = Fails o fault.LinkFailed old new end end' result
Follows o came.Memory old new end end' result = Fails o fault.Memory old new end end' result

abbrev pub with_received : Talk → IncomingState → Talk
with_received t s = record { request = t.request; incoming = s; answered = t.answered; core = t.core }

abbrev pub with_inward : {I O : Type 0} → Conn I O → I → Conn I O
with_inward end half = record { id = end.id; lower = end.lower; inward = half; outward = end.outward }

-- What comes next from the node is received, and followed.
pub record Listens {I O : Type 0} (i : link_in.Ghosts I) (o : link_out.Ghosts O) (old new : Talk) (end end' : Conn I O)
    (result : ReadStep) : Type 0 where
  pub found : Came
  pub received : IncomingState
  pub half : I
  pub hears : Hears i old.answered old.incoming received end.inward half found
  pub follows : Follows o found (with_received old received) new (with_inward end half) end' result

-- what follows of the request, by how it was sent
abbrev pub AsksAs : {I O : Type 0} → link_out.Ghosts O → Done → Talk → Talk → Conn I O → Conn I O → ReadStep → Type 0
AsksAs o done.Memory old new end end' result = Fails o fault.Memory old new end end' result
AsksAs o (done.LinkFailed booked) old new end end' result = Fails o fault.LinkFailed old new end end' result
AsksAs o other old new end end' result = (new ≡ old) × (end' ≡ end) × (result ≡ step.Moved)

abbrev pub without_request : Talk → Talk
without_request t = record t { request = None }

-- The request is sent.
pub record Asks {I O : Type 0} (o : link_out.Ghosts O) (old new : Talk) (end end' : Conn I O) (result : ReadStep) :
    Type 0 where
  pub done : Done
  pub sent : O
  pub sends : SendsAlone o (request_of old) done end.outward sent
  pub follows : AsksAs o done (without_request old) new (with_half end sent) end' result

-- A step sends the request, or takes what comes next.
abbrev pub StepsAs : {I O : Type 0} → link_in.Ghosts I → link_out.Ghosts O → Option (List ℕ) → Talk → Talk → Conn I O →
    Conn I O → ReadStep → Type 0
StepsAs i o None old new end end' result = Listens i o old new end end' result
StepsAs i o (Some text) old new end end' result = Asks o old new end end' result

abbrev pub Steps : {I O : Type 0} → link_in.Ghosts I → link_out.Ghosts O → Talk → Talk → Conn I O → Conn I O →
    ReadStep → Type 0
Steps i o old new end end' result = StepsAs i o (request_of old) old new end end' result
