-- In which order messages come on each connection, and how far each end has come with them.
use Rattle.std.specs.Prelude.{ℕ, zero, suc, ◌≡◌, ◌<◌, Bool, true, false, List, [], ◌∷◌, length, slice_get, Some, IfSome}
use Rattle.hd_base.specs.declared.numbers.NodeId.{NodeId}
use Rattle.op_headers.specs.declared.ops.Op.TheVariants as op
use Rattle.world_laws.specs.MemberCore.Mirror.{Mirror}
use Rattle.world_laws.specs.MemberCore.Mirror.TheVariants as mirror
use Rattle.world_laws.specs.MemberCore.Members.{MemberState, is_waiting, hears}
use Rattle.world_laws.specs.WriterCore.Phase.{Phase}
use Rattle.world_laws.specs.WriterCore.Phase.TheVariants as phase
use Rattle.world_laws.specs.WriterCore.WriterRecord.{WriterRecord}
use Rattle.world_laws.specs.World.Event.{Event}
use Rattle.world_laws.specs.World.Parts.{Message, request, packet, ack, response, read_status, recovery_answer, Upper, by_writer, by_member, by_reader, by_primary, Dialled, Marks, Lower, idle, writes, serves, recovers, ended_below, Writing, Reader, reads, Primary, leads}
use Rattle.world_laws.specs.World.Worlds.{World, Past, start}
use Rattle.world_laws.specs.World.Events.{run}

-- KINDS OF MESSAGES

abbrev pub is_write : Message → Bool
is_write (request (op.Write f)) = true
is_write other = false

abbrev pub is_read : Message → Bool
is_read (request (op.Read r)) = true
is_read other = false

abbrev pub is_recovery : Message → Bool
is_recovery (request (op.Recovery r)) = true
is_recovery other = false

abbrev pub is_packet : Message → Bool
is_packet (packet p) = true
is_packet other = false

abbrev pub is_ack : Message → Bool
is_ack (ack a) = true
is_ack other = false

abbrev pub is_response : Message → Bool
is_response (response r) = true
is_response other = false

abbrev pub is_read_status : Message → Bool
is_read_status (read_status s) = true
is_read_status other = false

abbrev pub is_recovery_answer : Message → Bool
is_recovery_answer (recovery_answer a) = true
is_recovery_answer other = false

-- THE ORDER

-- what a connection is for
pub data Purpose : Type 0 where
  pipeline : Purpose
  reading : Purpose
  recovering : Purpose

abbrev pub purpose_of : Upper → Purpose
purpose_of (by_writer b) = pipeline
purpose_of (by_member d) = pipeline
purpose_of (by_reader i) = reading
purpose_of (by_primary i place) = recovering

-- What comes down, first or later: a request to write, and then packets; a request to read, and then statuses; or
-- requests of a recovery.
abbrev pub comes_down : Purpose → Bool → Message → Bool
comes_down pipeline true m = is_write m
comes_down pipeline false m = is_packet m
comes_down reading true m = is_read m
comes_down reading false m = is_read_status m
comes_down recovering first m = is_recovery m

-- What comes up: the answer to the request, and then acks; the answer, and then packets; or answers of a recovery.
abbrev pub comes_up : Purpose → Bool → Message → Bool
comes_up pipeline true m = is_response m
comes_up pipeline false m = is_ack m
comes_up reading true m = is_response m
comes_up reading false m = is_packet m
comes_up recovering first m = is_recovery_answer m

abbrev pub is_first : ℕ → Bool
is_first zero = true
is_first (suc n) = false

-- THE ENDS

abbrev pub is_empty : List Message → Bool
is_empty [] = true
is_empty (m ∷ ms) = false

-- A member has taken its request, and has answered it just where it no longer waits for its mirror.
pub record IsMember (u : Upper) (taken : ℕ) (ups : List Message) (m : Mirror) : Type 0 where
  pub writes : purpose_of u ≡ pipeline
  pub asked : 0 < taken
  pub answered : is_empty ups ≡ is_waiting m

-- A lower end, of whose connection so many messages were taken, and which has sent these.
abbrev pub IsBelow : Upper → ℕ → List Message → Lower → Type 0
IsBelow u taken ups idle = (taken ≡ 0) × (ups ≡ [])
IsBelow u taken ups (writes m) = IsMember u taken ups m.state.mirror
IsBelow u taken ups (serves b s) = (purpose_of u ≡ reading) × (is_empty ups ≡ false)
IsBelow u taken ups recovers = purpose_of u ≡ recovering
IsBelow u taken ups ended_below = Unit {0}

-- A member that hears its mirror has taken something from it just where it has the mirror's answer.
abbrev pub HasHeard : Mirror → ℕ → Type 0
HasHeard mirror.Asked taken = taken ≡ 0
HasHeard mirror.Open taken = 0 < taken
HasHeard other taken = Unit {0}

-- The member whose request came on a connection dialled the one to its mirror, later.
pub record IsMirror (d : Dialled) (taken conn mirror_conn : ℕ) (m : MemberState) : Type 0 where
  pub upper : d.upper ≡ by_member conn
  pub later : conn < mirror_conn
  pub heard : hears m ≡ true → HasHeard m.mirror taken

abbrev pub MirrorIs : (ℕ → Dialled) → (ℕ → Marks) → ℕ → Lower → Type 0
MirrorIs dialled marks conn (writes m) = IfSome m.mirror (λ c. IsMirror (dialled c) (marks c).taken conn c m.state)
MirrorIs dialled marks conn other = Unit {0}

-- A connection that a member dialled is the one to its mirror.
abbrev pub HasDialled : ℕ → Lower → Type 0
HasDialled c (writes m) = m.mirror ≡ Some c
HasDialled c ended_below = Unit {0}
HasDialled c other = ⊥

abbrev pub has_members : List NodeId → Bool
has_members [] = false
has_members (n ∷ ns) = true

-- the answer to a writer's request is awaited
abbrev pub is_requested : Phase → Bool
is_requested (phase.Requested s stamp) = true
is_requested other = false

-- A writer that is connected has taken something just where its request isn't awaited to be answered.
abbrev pub HasTaken : Phase → List NodeId → ℕ → Type 0
HasTaken (phase.Requested s stamp) members taken = (taken ≡ 0) × (has_members members ≡ true)
HasTaken other members taken = 0 < taken

-- The writer of a block dialled the connection that it has.
pub record IsWriterConn (d : Dialled) (taken b : ℕ) (x : WriterRecord) : Type 0 where
  pub upper : d.upper ≡ by_writer b
  pub heard : HasTaken x.phase x.members taken

abbrev pub WriterIs : (ℕ → Dialled) → (ℕ → Marks) → ℕ → Writing → Type 0
WriterIs dialled marks b x = IfSome x.conn (λ c. IsWriterConn (dialled c) (marks c).taken b x.known)

abbrev pub ReaderIs : (ℕ → Dialled) → ℕ → Reader → Type 0
ReaderIs dialled i (reads c s) = (dialled c).upper ≡ by_reader i
ReaderIs dialled i other = Unit {0}

abbrev pub PrimaryIs : (ℕ → Dialled) → ℕ → Primary → Type 0
PrimaryIs dialled i (leads l) = (place c : ℕ) → slice_get l.conns place ≡ Some (Some c) →
    (dialled c).upper ≡ by_primary i place
PrimaryIs dialled i other = Unit {0}

-- Each connection's messages come in its order, and each end has come so far with them.
pub record InOrder (p : Past) (lowers : ℕ → Lower) (writers : ℕ → Writing) (readers : ℕ → Reader)
    (primaries : ℕ → Primary) (down_marks up_marks : ℕ → Marks) : Type 0 where
  pub downs : (c k : ℕ) (m : Message) → slice_get (p.downs c) k ≡ Some m →
      comes_down (purpose_of (p.dialled c).upper) (is_first k) m ≡ true
  pub ups : (c k : ℕ) (m : Message) → slice_get (p.ups c) k ≡ Some m →
      comes_up (purpose_of (p.dialled c).upper) (is_first k) m ≡ true
  pub begun : (c : ℕ) → c < p.next_conn → 0 < length (p.downs c)
  pub below : (c : ℕ) → IsBelow (p.dialled c).upper (down_marks c).taken (p.ups c) (lowers c)
  pub mirrors : (c : ℕ) → MirrorIs p.dialled up_marks c (lowers c)
  pub dialled_by : (c d : ℕ) → c < p.next_conn → (p.dialled c).upper ≡ by_member d → HasDialled c (lowers d)
  pub writers_are : (b : ℕ) → WriterIs p.dialled up_marks b (writers b)
  pub readers_are : (i : ℕ) → ReaderIs p.dialled i (readers i)
  pub primaries_are : (i : ℕ) → PrimaryIs p.dialled i (primaries i)

abbrev pub Ordered : World → Type 0
Ordered w = InOrder w.past w.lowers w.writers w.readers w.primaries w.down_marks w.up_marks

-- AFTER EVERY LIST OF EVENTS

abbrev pub AllOrdered : Type 0
AllOrdered = (nodes : ℕ) (events : List Event) → Ordered (run (start nodes) events)
