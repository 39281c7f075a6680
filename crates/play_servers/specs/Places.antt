-- The books of reads among those of a node, and what is left of a read.
use Rattle.std.specs.Prelude.{◌≡◌, ◌⊎◌, ◌==◌, ℕ, List, position, slice_get, slice_set, Option, Some, None, IfErr, Result, Ok, Err}
use Rattle.hd_base.specs.declared.files.Files as files
use Rattle.hd_base.specs.declared.links.LinkIn as link_in
use Rattle.hd_base.specs.declared.links.LinkOut as link_out
use Rattle.hd_base.specs.declared.numbers.BlockId.{BlockId}
use Rattle.hd_base.specs.declared.roads.Roads as roads
use Rattle.op_headers.specs.declared.ops.Op.TheVariants as op
use Rattle.op_headers.specs.declared.ops.ReadOp.{ReadOp}
use Rattle.recovery_events.specs.ReplicaFiles.BookState.{BookState}
use Rattle.recovery_events.specs.MemberEvents.FirstRequest.{FirstRequest}
use Rattle.recovery_events.specs.MemberEvents.MemberFault.{MemberFault}
use Rattle.recovery_events.specs.MemberEvents.MemberFault.TheVariants as member_fault
use Rattle.serving_events.specs.declared.faults.ServeFault.{ServeFault}
use Rattle.serving_events.specs.declared.faults.ServeFault.TheVariants as fault
use Rattle.serving_events.specs.declared.steps.Outcome.{Outcome}
use Rattle.serving_events.specs.declared.steps.Outcome.TheVariants as outcome
use Rattle.serving_events.specs.declared.steps.ServedRead.{ServedRead}
use Rattle.serving_events.specs.Drawn.{block_of}
use Rattle.serving_events.specs.Packets.{PacketShows}
use Rattle.serving_events.specs.Requests.{RequestShows}
use Rattle.play_servers.specs.declared.servers.Left.{Left}
use Rattle.play_servers.specs.declared.servers.ReadEnd.{ReadEnd}
use Rattle.play_servers.specs.declared.servers.ReadEnd.TheVariants as read_end
use Rattle.play_servers.specs.declared.servers.ReadServer.{ReadServer}
use Rattle.play_servers.specs.declared.servers.ServerEvent.{ServerEvent}
use Rattle.play_servers.specs.declared.servers.ServerEvent.TheVariants as event

-- where the block of a request stands among these
abbrev pub place_of : List BlockId → ReadOp → Option ℕ
place_of blocks read = position (λ b. b.0 == block_of read) blocks

-- WHAT IS LEFT

-- the connection has ended in an event that was done
abbrev pub ended_left : {I O : Type 0} → Left I O
ended_left = record { end = read_end.Ended; event = event.Done }

-- what is left of a read that is served with the book at a place
abbrev pub left_of : {I O : Type 0} → ℕ → Outcome I O → Left I O
left_of place (outcome.Serves read) = record { end = read_end.Serving read place; event = event.Done }
left_of place outcome.Ended = ended_left
left_of place outcome.Faulted = record { end = read_end.Ended; event = event.Broke }

abbrev pub left_by : {I O : Type 0} → ℕ → Result (Outcome I O) ServeFault → Result (Left I O) ServeFault
left_by place (Ok x) = Ok (left_of place x)
left_by place (Err why) = Err why

-- why an end takes no first message; no call on files is made there
abbrev pub read_fault : MemberFault → ServeFault
read_fault member_fault.LinkFailed = fault.LinkFailed
read_fault member_fault.RoadsFailed = fault.RoadsFailed
read_fault member_fault.FilesFailed = fault.BytesMissing
read_fault member_fault.Memory = fault.Memory

-- What is left of an event is in its place.
abbrev pub IsFollowed : {I O : Type 0} → ReadServer I O → ReadServer I O → Result (Left I O) ServeFault →
    Result ServerEvent ServeFault → Type 0
IsFollowed old new (Ok left) result = (new ≡ record old { end = left.end }) × (result ≡ Ok left.event)
IsFollowed old new (Err why) result = (new ≡ old) × (result ≡ Err why)

-- After a fault there are no further events.
abbrev pub HasEnded : {I O : Type 0} → ReadServer I O → ReadServer I O → Result ServerEvent ServeFault → Type 0
HasEnded old new result = IfErr result (λ why. new ≡ record old { end = read_end.Ended })

-- Nothing is done.
pub record Rests {F R I O : Type 0} (old new : ReadServer I O) (books books' : List (BookState F)) (road road' : R)
    (result : Result ServerEvent ServeFault) : Type 0 where
  pub server_same : new ≡ old
  pub books_same : books' ≡ books
  pub roads_same : road' ≡ road
  pub is_done : result ≡ Ok event.Done

-- So it is where no read is served, and a message is waited for.
abbrev pub RestsUnlessServing : {F R I O : Type 0} → ReadEnd I O → ReadServer I O → ReadServer I O →
    List (BookState F) → List (BookState F) → R → R → Result ServerEvent ServeFault → Type 0
RestsUnlessServing (read_end.Serving read place) old new books books' road road' result = Unit {0}
RestsUnlessServing other old new books books' road road' result = Rests old new books books' road road' result

-- REQUESTS

-- A request to read was booked and answered, with the book of its block.
pub record IsServed {F R I O : Type 0} (f : files.Ghosts F) (r : roads.Ghosts R I O) (i : link_in.Ghosts I)
    (o : link_out.Ghosts O) (blocks : List BlockId) (first : FirstRequest I O) (books books' : List (BookState F))
    (road road' : R) (result : Result (Left I O) ServeFault) : Type 0 where
  pub read : ReadOp
  pub is_read : first.op ≡ op.Read read
  pub place : ℕ
  pub at_place : place_of blocks read ≡ Some place
  pub book : BookState F
  pub book' : BookState F
  pub at_book : slice_get books place ≡ Some book
  pub set : books' ≡ slice_set books place book'
  pub made : Result (Outcome I O) ServeFault
  pub shows : RequestShows f r i o read first.end book book' road road' made
  pub follows : result ≡ left_by place made

-- Or it is no request to read, or there is no such book.
pub record HasNoBook {F I O : Type 0} (blocks : List BlockId) (first : FirstRequest I O)
    (books : List (BookState F)) : Type 0 where
  pub none : (read : ReadOp) (place : ℕ) → first.op ≡ op.Read read → place_of blocks read ≡ Some place
      → slice_get books place ≡ None

abbrev pub Serves : {F R I O : Type 0} → files.Ghosts F → roads.Ghosts R I O → link_in.Ghosts I → link_out.Ghosts O →
    List BlockId → FirstRequest I O → List (BookState F) → List (BookState F) → R → R →
    Result (Left I O) ServeFault → Type 0
Serves f r i o blocks first books books' road road' result =
    IsServed f r i o blocks first books books' road road' result ⊎ HasNoBook blocks first books

-- PACKETS

-- A packet was sent, with the book at a place.
pub record IsSent {F R I O : Type 0} (f : files.Ghosts F) (r : roads.Ghosts R I O) (i : link_in.Ghosts I)
    (o : link_out.Ghosts O) (place : ℕ) (read : ServedRead I O) (books books' : List (BookState F)) (road road' : R)
    (result : Result (Left I O) ServeFault) : Type 0 where
  pub book : BookState F
  pub book' : BookState F
  pub at_book : slice_get books place ≡ Some book
  pub set : books' ≡ slice_set books place book'
  pub made : Result (Outcome I O) ServeFault
  pub shows : PacketShows f r i o read book book' road road' made
  pub follows : result ≡ left_by place made

-- Or there is no such book.
abbrev pub Sends : {F R I O : Type 0} → files.Ghosts F → roads.Ghosts R I O → link_in.Ghosts I → link_out.Ghosts O →
    ℕ → ServedRead I O → List (BookState F) → List (BookState F) → R → R → Result (Left I O) ServeFault → Type 0
Sends f r i o place read books books' road road' result =
    IsSent f r i o place read books books' road road' result ⊎ (slice_get books place ≡ None)
