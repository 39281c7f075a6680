-- How much is still to be delivered: a weight of what is on its way and of what connections' ends have still to do.
-- Each thing weighs more than
-- all that its delivery can make.
use Rattle.std.specs.Prelude.{ℕ, zero, suc, ◌≡◌, ◌≤◌, ◌<◌, ◌+◌, ◌-◌, ◌*◌, if◌then◌else◌, Bool, true, false, List, length, take, drop, slice_get, sum_by, is_some, Option, Some, None}
use Rattle.op_headers.specs.declared.ops.Op.{Op}
use Rattle.op_headers.specs.declared.ops.Op.TheVariants as op
use Rattle.replica_core.specs.declared.records.ReplicaRecord.{ReplicaRecord}
use Rattle.replica_core.specs.Transitions.{is_written_by}
use Rattle.member_core.specs.Members.{MemberState, is_waiting}
use Rattle.world.specs.ReadCore.ServePhase.{ServePhase}
use Rattle.world.specs.ReadCore.ServePhase.TheVariants as phase
use Rattle.world.specs.ReadCore.Servings.{ServingState}
use Rattle.world.specs.declared.events.Event.{Event}
use Rattle.world.specs.declared.events.Event.TheVariants as event
use Rattle.world.specs.Parts.{Message, request, packet, Marks, Lower, writes, serves}
use Rattle.world.specs.Worlds.{World, start}
use Rattle.world.specs.Nodes.{replica_at, block_of}
use Rattle.world.specs.Events.{is_enabled, happens, run}

-- the sum of a function over the numbers below one
abbrev pub sum_to : (ℕ → ℕ) → ℕ → ℕ
sum_to f zero = 0
sum_to f (suc n) = sum_to f n + f n

-- MESSAGES

-- How many members stand at or below the lower end of a connection with this first message: the one that takes a
-- write request, and its targets.
abbrev pub hops_of : Option Message → ℕ
hops_of (Some (request (op.Write f))) = length f.targets + 1
hops_of _ = 1

abbrev pub hops : World → ℕ → ℕ
hops w c = hops_of (slice_get (w.downs c) 0)

-- A write request makes at each member an answer, or a member that owes one, and a connection to the next. A read
-- makes an answer and a packet for
-- each byte, at most; it is rounded to whole chunks, of which each has at most 65536 bytes.
abbrev pub request_weight : Op → ℕ
request_weight (op.Write f) = 6 * (length f.targets + 1)
request_weight (op.Read r) = 3 * (r.len + 131072) + 6
request_weight _ = 3

-- A packet is taken at each member that it may reach, and makes an entry there, or has a wrong sum, which the member
-- tells of.
abbrev pub down_weight : ℕ → Message → ℕ
down_weight h (request o) = request_weight o
down_weight h (packet p) = 6 * h
down_weight h _ = 1

-- what goes up is taken, and may be answered by a message down
abbrev pub up_weight : Message → ℕ
up_weight m = 2

-- what was sent up to the end, where it stands
abbrev pub before_end : Option ℕ → List Message → List Message
before_end None sent = sent
before_end (Some e) sent = take e sent

-- what was sent in a direction and may still be taken
abbrev pub on_way : Marks → List Message → List Message
on_way k sent = drop k.taken (before_end k.end sent)

abbrev pub down_way : World → ℕ → ℕ
down_way w c = sum_by (down_weight (hops w c)) (on_way (w.down_marks c) (w.downs c))

abbrev pub up_way : World → ℕ → ℕ
up_way w c = sum_by up_weight (on_way (w.up_marks c) (w.ups c))

-- ENDS OF CONNECTIONS

-- the end of a direction may still be taken
abbrev pub open_weight : Marks → ℕ
open_weight k = if k.over then 0 else 1

abbrev pub sides : World → ℕ → ℕ
sides w c = open_weight (w.down_marks c) + open_weight (w.up_marks c)

abbrev pub owed : Bool → ℕ
owed b = if b then 2 else 0

-- a member that still answers may shut; it owes the answer to its request, and what it says of a packet with a wrong
-- sum
abbrev pub member_weight : MemberState → ℕ
member_weight m = if m.responds then 1 + owed (is_waiting m.mirror) + owed (is_some m.bad) else 0

-- a read sends a packet for each byte at most, and the last one
abbrev pub serving_weight : ServePhase → ServingState → ℕ
serving_weight phase.Sending s = 3 * (s.end - s.at) + 3
serving_weight _ s = 0

abbrev pub lower_weight : Lower → ℕ
lower_weight (writes m) = member_weight m.state
lower_weight (serves b s) = serving_weight s.phase s
lower_weight _ = 0

-- ENTRIES

-- The packets that are pending at a replica which this connection writes: each is answered by an ack.
abbrev pub entries_by : ℕ → ReplicaRecord → ℕ
entries_by c r = if is_written_by r.stream (record { 0 = c }) then 3 * length r.pending else 0

abbrev pub entries_of : Lower → World → ℕ → ℕ
entries_of (writes m) w c = entries_by c (replica_at w c (block_of m.fields)).known
entries_of _ w c = 0

abbrev pub entries : World → ℕ → ℕ
entries w c = entries_of (w.lowers c) w c

-- THE WHOLE

-- over all connections
unfoldable pub traffic : World → ℕ
traffic w = sum_to (down_way w) w.next_conn + sum_to (up_way w) w.next_conn + sum_to (sides w) w.next_conn
    + sum_to (λ c. lower_weight (w.lowers c)) w.next_conn + sum_to (entries w) w.next_conn

-- AFTER EVERY LIST OF EVENTS

-- one end of a connection takes what stands next, or acts without a message; its book call may fail
abbrev pub is_delivery : Event → Bool
is_delivery (event.Down c answered) = true
is_delivery (event.Ready c) = true
is_delivery (event.Up c) = true
is_delivery (event.Fault d) = true
is_delivery _ = false

-- neither a delivery nor an own step: an answer of the office, a loss, a stop, a restart
abbrev pub is_outer : Event → Bool
is_outer (event.Office c) = true
is_outer (event.Lost c way more) = true
is_outer (event.Stop n) = true
is_outer (event.Restart n list) = true
is_outer _ = false

-- Each delivery lowers it, whatever has ended, broken or stopped.
abbrev pub DeliveriesLower : Type 0
DeliveriesLower = (nodes : ℕ) (events : List Event) (e : Event) → is_delivery e ≡ true →
    is_enabled (run (start nodes) events) e ≡ true →
    traffic (happens (run (start nodes) events) e) < traffic (run (start nodes) events)

-- In no world does an outer event raise it.
abbrev pub OuterKeep : Type 0
OuterKeep = (w : World) (e : Event) → is_outer e ≡ true → traffic (happens w e) ≤ traffic w
