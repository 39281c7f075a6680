-- Changes that leave the office and all writers as they are.
use Rattle.std.proofs.Common.{◌≡◌}
use Rattle.world.specs.Nodes.{member_change}
use Rattle.std.proofs.Common.{ℕ, Bool, true, false, List, [], Option, Some, None, IfSome, Result, Ok, Err, refl}
use Rattle.world.specs.OpHeaders.Op.{Op}
use Rattle.world.specs.OpHeaders.Op.TheVariants as op
use Rattle.world.specs.OpHeaders.ReadOp.{ReadOp}
use Rattle.world.specs.OpHeaders.RecoveryOp.{RecoveryOp}
use Rattle.world.specs.PacketCodec.Packet.{Packet}
use Rattle.replica_core.specs.declared.events.Event.{Event}
use Rattle.world.specs.ReplicaModel.ReplicaEvent.{ReplicaEvent}
use Rattle.world.specs.ReplicaModel.ReplicaEvent.TheVariants as replica_event
use Rattle.world.specs.RequestRefusals.RequestRefusal.{RequestRefusal}
use Rattle.world.specs.MemberCore.Turn.{Turn}
use Rattle.world.specs.MemberCore.Members.{down_turn, up_turn, hears}
use Rattle.world.specs.MemberCore.Steps.{step, faulted_step, oldest_at, ready_turn_at}
use Rattle.world.specs.ReplicaModel.Rows.{FullReplica}
use Rattle.world.specs.ReadCore.Servings.{faulted_read, faulted_piece, ServingState, read_at, read_event, next_call, piece_at}
use Rattle.world.specs.RecoveryCore.RecoveryReply.{RecoveryReply}
use Rattle.world.specs.RecoveryCore.Members.{Served, recovery_event, serve, serve_faulted}
use Rattle.world.specs.Parts.{Message, request, packet, ack, response, read_status, recovery_answer, FullMember, Lower, idle, writes, serves, recovers, ended_below, Break}
use Rattle.world.specs.Worlds.{World, still}
use Rattle.world.specs.Connections.{Next, message, the_end, sent_on, is_alive}
use Rattle.world.specs.Nodes.{replica_at, block_of, closing, unless_failing, above_of, below_of, failing_turn, turn_change, takes_next, pending_at, member_down, member_up, ready_change, breaking, read_change, failing_read, read_request, piece_as, serve_change, recovery_change, failing_recovery, recovery_request, first_message, next_recovery, lower_down, lower_ready, mirror_up}
use Rattle.world.specs.OpHeaders.Values.{WriteFields}
use Rattle.world.specs.MemberCore.Requests.{request_event}
use Rattle.world.specs.MemberCore.Steps.{Step, Setup, request_step, faulted_request}
use Rattle.std.specs.Prelude.{◌==◌, ◌&&◌, is_none, slice_get}
use Rattle.world.specs.Connections.{place_of}
use Rattle.world.specs.Worlds.{Change}
use Rattle.replica_core.specs.Views.{rule_in}
use Rattle.name_core.specs.declared.calls.OfficeAnswer.TheVariants as office
use Rattle.hd_base.specs.declared.numbers.BlockId.{BlockId}
use Rattle.hd_base.specs.declared.numbers.NodeId.{NodeId}
use Rattle.world.specs.ReadCore.ReadTurn.{ReadTurn}
use Rattle.world.specs.ReadCore.ReadTurn.TheVariants as turn
use Rattle.world.specs.ReadCore.Readings.{ReadTaken, take_from}
use Rattle.world.specs.RecoveryCore.OwnStep.{OwnStep}
use Rattle.world.specs.RecoveryCore.OwnStep.TheVariants as own
use Rattle.world.specs.RecoveryCore.Standing.{Standing}
use Rattle.world.specs.RecoveryCore.Primaries.{PrimaryState, own_step}
use Rattle.world.specs.Parts.{Place, Told, Reader, no_reader, reads, has_read, Leading, Primary, no_primary, was_told, leads, has_led}
use Rattle.world.specs.Clients.{are_members, reader_dials, own_reader_as, own_reader, from_node_of, reader_turn, reader_up_as, reader_up}
use Rattle.world.specs.Primaries.{begins_as, begins_at, own_recover, leads_step, commits_step, leads_told, own_primary_as, own_primary, listens, hears_change, primary_up_as, primary_up}
use Rattle.world.specs.Nodes.{block_of, setup_change, failing_write, write_request, is_asked}
use Rattle.world_laws.proofs.FactTables.{when-each}

-- the office stays, no stamp is given, no writer comes into another state, no session gets bytes, and no length is answered
pub record Aside (w : World) (k : Change) : Type 0 where
  pub office : k.office ≡ w.office
  pub stamped : k.stamped ≡ None
  pub writer : k.writer ≡ w.writers k.writer_at
  pub bytes : k.bytes ≡ []
  pub answered : k.answered ≡ None

closes-aside : (w : World) (c : ℕ) → Aside w (closing w c)
closes-aside w c = record { office = refl; stamped = refl; writer = refl; bytes = refl; answered = refl }

member-aside : (w : World) (c : ℕ) (m : FullMember) (x : Next) (s : Step) (b : Option Break) → Aside w (member_change w c m x s b)
member-aside w c m x s b = record { office = refl; stamped = refl; writer = refl; bytes = refl; answered = refl }

setup-aside : (w : World) (c : ℕ) (fields : WriteFields) (s : Setup) (b : Option Break) → Aside w (setup_change w c fields s b)
setup-aside w c fields s b = record { office = refl; stamped = refl; writer = refl; bytes = refl; answered = refl }

breaks-aside : (w : World) (c b : ℕ) (r : FullReplica) (e : ReplicaEvent) (answers : List Message) → Aside w (breaking w c b r e answers)
breaks-aside w c b r e answers = record { office = refl; stamped = refl; writer = refl; bytes = refl; answered = refl }

answers-aside : (w : World) (c : ℕ) (answers : List Message) → Aside w (record (closing w c) { ups = sent_on (Some c) answers })
answers-aside w c answers = record { office = refl; stamped = refl; writer = refl; bytes = refl; answered = refl }

serving-aside : (w : World) (c b : ℕ) (s : ServingState) (answers : List Message)
    → Aside w (record (still w) { lower_at = c; lower = serves b s; ups = sent_on (Some c) answers })
serving-aside w c b s answers = record { office = refl; stamped = refl; writer = refl; bytes = refl; answered = refl }

recovery-aside : (w : World) (c : ℕ) (r : RecoveryOp) (s : Served) (b : Option Break) → Aside w (recovery_change w c r s b)
recovery-aside w c r s b = record { office = refl; stamped = refl; writer = refl; bytes = refl; answered = refl }

-- WRITE REQUESTS

failing-write-aside : (w : World) (c : ℕ) (fields : WriteFields) (e : Result Event RequestRefusal) → IfSome (failing_write w c fields e) (Aside w)
failing-write-aside w c fields (Err refused) = tt
failing-write-aside w c fields (Ok e) = setup-aside w c fields (faulted_request (replica_at w c (block_of fields))) _

write-aside : (w : World) (c : ℕ) (fields : WriteFields) (answered fails : Bool) → IfSome (write_request w c fields answered fails) (Aside w)
write-aside w c fields answered true = failing-write-aside w c fields (request_event (record { 0 = c }) fields (rule_in (replica_at w c (block_of fields)).known))
write-aside w c fields answered false =
    setup-aside w c fields (request_step (record { 0 = c }) fields (is_asked w c fields answered) (replica_at w c (block_of fields))) _

-- MEMBERS

failing-turn-aside : (w : World) (c : ℕ) (m : FullMember) (x : Next) (t : Turn) (o : Option ReplicaEvent)
    → IfSome (failing_turn w c m x t o) (Aside w)
failing-turn-aside w c m x t None = tt
failing-turn-aside w c m x t (Some e) = member-aside w c m x (faulted_step m.state (replica_at w c (block_of m.fields)) t) _

turn-aside : (w : World) (c : ℕ) (m : FullMember) (x : Next) (t : Turn) (fails : Bool)
    → IfSome (turn_change w c m x t fails) (Aside w)
turn-aside w c m x t true = failing-turn-aside w c m x t t.call
turn-aside w c m x t false = member-aside w c m x (step m.state (replica_at w c (block_of m.fields)) t) _

down-aside : (w : World) (c : ℕ) (m : FullMember) (x : Next) (fails : Bool)
    → IfSome (member_down w c m x fails) (Aside w)
down-aside w c m x fails =
    when-each (Aside w) (takes_next m.state (pending_at w c m) x) _ (λ _. turn-aside w c m x (down_turn m.state (above_of x)) fails)

up-aside : (w : World) (c : ℕ) (m : FullMember) (x : Next) (fails : Bool)
    → IfSome (member_up w c m x fails) (Aside w)
up-aside w c m x fails =
    when-each (Aside w) (hears m.state) _
    (λ _. turn-aside w c m x (up_turn m.state (oldest_at (replica_at w c (block_of m.fields))) (below_of x)) fails)

ready-aside : (w : World) (c : ℕ) (m : FullMember) (o : Option Turn) (fails : Bool)
    → IfSome (ready_change w c m o fails) (Aside w)
ready-aside w c m None fails = tt
ready-aside w c m (Some t) fails = turn-aside w c m the_end t fails

-- READS

read-aside : (w : World) (c b : ℕ) (s : Result ServingState RequestRefusal) → Aside w (read_change w c b s)
read-aside w c b (Ok s) = serving-aside w c b s _
read-aside w c b (Err r) = answers-aside w c _

failing-read-aside : (w : World) (c b : ℕ) (e : Result Event RequestRefusal) → IfSome (failing_read w c b e) (Aside w)
failing-read-aside w c b (Err r) = tt
failing-read-aside w c b (Ok e) = breaks-aside w c b (faulted_read (replica_at w c b)).0 (replica_event.Other e) _

read-request-aside : (w : World) (c : ℕ) (r : ReadOp) (fails : Bool) → IfSome (read_request w c r fails) (Aside w)
read-request-aside w c r true = failing-read-aside w c r.block.block.0 (read_event r)
read-request-aside w c r false = read-aside w c r.block.block.0 (read_at r (replica_at w c r.block.block.0))

piece-aside : (w : World) (c b : ℕ) (s : ServingState) (o : Option Packet) → Aside w (piece_as w c b s o)
piece-aside w c b s None = closes-aside w c
piece-aside w c b s (Some p) = serving-aside w c b s _

serve-aside : (w : World) (c b : ℕ) (s : ServingState) (o : Option Event) (fails : Bool) → IfSome (serve_change w c b s o fails) (Aside w)
serve-aside w c b s None fails = tt
serve-aside w c b s (Some e) true = breaks-aside w c b (faulted_piece s (replica_at w c b)).0 (replica_event.Other e) []
serve-aside w c b s (Some e) false =
    piece-aside w c b (piece_at s (replica_at w c b)).serving (piece_at s (replica_at w c b)).packet

-- BLOCK RECOVERIES

failing-recovery-aside : (w : World) (c : ℕ) (r : RecoveryOp) (e : Result Event RecoveryReply) → IfSome (failing_recovery w c r e) (Aside w)
failing-recovery-aside w c r (Err said) = tt
failing-recovery-aside w c r (Ok e) = recovery-aside w c r (serve_faulted (replica_at w c r.block.block.0)) _

recovery-request-aside : (w : World) (c : ℕ) (r : RecoveryOp) (fails : Bool) → IfSome (recovery_request w c r fails) (Aside w)
recovery-request-aside w c r true = failing-recovery-aside w c r (recovery_event r)
recovery-request-aside w c r false = recovery-aside w c r (serve (replica_at w c r.block.block.0) r) _

-- THE LOWER END

unless-aside : (w : World) (fails : Bool) (c : ℕ) → IfSome (unless_failing fails (closing w c)) (Aside w)
unless-aside w true c = tt
unless-aside w false c = closes-aside w c

request-aside : (w : World) (c : ℕ) (o : Op) (answered fails : Bool) → IfSome (first_message w c (request o) answered fails) (Aside w)
request-aside w c (op.Write fields) answered fails = write-aside w c fields answered fails
request-aside w c (op.Read r) answered fails = read-request-aside w c r fails
request-aside w c (op.Recovery r) answered fails = recovery-request-aside w c r fails
request-aside w c (op.Transfer r) answered fails = unless-aside w fails c
request-aside w c (op.Checksum r) answered fails = unless-aside w fails c

first-aside : (w : World) (c : ℕ) (m : Message) (answered fails : Bool) → IfSome (first_message w c m answered fails) (Aside w)
first-aside w c (request o) answered fails = request-aside w c o answered fails
first-aside w c (packet p) answered fails = unless-aside w fails c
first-aside w c (ack a) answered fails = unless-aside w fails c
first-aside w c (response r) answered fails = unless-aside w fails c
first-aside w c (read_status s) answered fails = unless-aside w fails c
first-aside w c (recovery_answer a) answered fails = unless-aside w fails c

next-request-aside : (w : World) (c : ℕ) (o : Op) (fails : Bool) → IfSome (next_recovery w c (message (request o)) fails) (Aside w)
next-request-aside w c (op.Write fields) fails = unless-aside w fails c
next-request-aside w c (op.Read r) fails = unless-aside w fails c
next-request-aside w c (op.Recovery r) fails = recovery-request-aside w c r fails
next-request-aside w c (op.Transfer r) fails = unless-aside w fails c
next-request-aside w c (op.Checksum r) fails = unless-aside w fails c

next-message-aside : (w : World) (c : ℕ) (m : Message) (fails : Bool) → IfSome (next_recovery w c (message m) fails) (Aside w)
next-message-aside w c (request o) fails = next-request-aside w c o fails
next-message-aside w c (packet p) fails = unless-aside w fails c
next-message-aside w c (ack a) fails = unless-aside w fails c
next-message-aside w c (response r) fails = unless-aside w fails c
next-message-aside w c (read_status s) fails = unless-aside w fails c
next-message-aside w c (recovery_answer a) fails = unless-aside w fails c

next-aside : (w : World) (c : ℕ) (x : Next) (fails : Bool) → IfSome (next_recovery w c x fails) (Aside w)
next-aside w c (message m) fails = next-message-aside w c m fails
next-aside w c the_end fails = unless-aside w fails c

-- the lower end of a connection that was dialled takes something
pub lower-down-aside : (l : Lower) (w : World) (c : ℕ) (x : Next) (answered fails : Bool)
    → IfSome (lower_down l w c x answered fails) (Aside w)
lower-down-aside idle w c (message m) answered fails = first-aside w c m answered fails
lower-down-aside idle w c the_end answered fails = unless-aside w fails c
lower-down-aside (writes m) w c x answered fails = down-aside w c m x fails
lower-down-aside (serves b s) w c x answered fails = unless-aside w fails c
lower-down-aside recovers w c x answered fails = next-aside w c x fails
lower-down-aside ended_below w c x answered fails = tt

-- it acts without a message
pub lower-ready-aside : (l : Lower) (w : World) (c : ℕ) (fails : Bool)
    → IfSome (lower_ready l w c fails) (Aside w)
lower-ready-aside idle w c fails = tt
lower-ready-aside (writes m) w c fails = ready-aside w c m (ready_turn_at m.state (replica_at w c (block_of m.fields))) fails
lower-ready-aside (serves b s) w c fails = serve-aside w c b s (next_call s) fails
lower-ready-aside recovers w c fails = tt
lower-ready-aside ended_below w c fails = tt

-- a member takes something from its mirror
pub mirror-up-aside : (l : Lower) (w : World) (d : ℕ) (x : Next) (fails : Bool)
    → IfSome (mirror_up l w d x fails) (Aside w)
mirror-up-aside idle w d x fails = tt
mirror-up-aside (writes m) w d x fails = when-each (Aside w) (is_alive w (w.dialled d).to) _ (λ _. up-aside w d m x fails)
mirror-up-aside (serves b s) w d x fails = tt
mirror-up-aside recovers w d x fails = tt
mirror-up-aside ended_below w d x fails = tt

-- READERS

dials-aside : (w : World) (i n : ℕ) (r : ReadOp) (answered : Bool) → Aside w (reader_dials w i n r answered)
dials-aside w i n r true = record { office = refl; stamped = refl; writer = refl; bytes = refl; answered = refl }
dials-aside w i n r false = record { office = refl; stamped = refl; writer = refl; bytes = refl; answered = refl }

own-reader-as : (x : Reader) (w : World) (i n : ℕ) (r : ReadOp) (answered : Bool) → IfSome (own_reader_as x w i n r answered) (Aside w)
own-reader-as no_reader w i n r answered = dials-aside w i n r _
own-reader-as (reads c s) w i n r answered = tt
own-reader-as (has_read b) w i n r answered = tt

pub own-reader-aside : (w : World) (i n : ℕ) (r : ReadOp) (answered : Bool) → IfSome (own_reader w i n r answered) (Aside w)
own-reader-aside w i n r answered = own-reader-as (w.readers i) w i n r answered

reader-turn-aside : (w : World) (i c : ℕ) (t : ReadTaken) (d : ReadTurn) → Aside w (reader_turn w i c t d)
reader-turn-aside w i c t turn.Goes = record { office = refl; stamped = refl; writer = refl; bytes = refl; answered = refl }
reader-turn-aside w i c t turn.Verified = record { office = refl; stamped = refl; writer = refl; bytes = refl; answered = refl }
reader-turn-aside w i c t (turn.Fails f) = record { office = refl; stamped = refl; writer = refl; bytes = refl; answered = refl }

reader-up-as : (r : Reader) (w : World) (i c : ℕ) (x : Next) → IfSome (reader_up_as r w i c x) (Aside w)
reader-up-as no_reader w i c x = tt
reader-up-as (reads d s) w i c x =
    when-each (Aside w) (d == c) _ (λ _. reader-turn-aside w i c (take_from s (from_node_of x)) (take_from s (from_node_of x)).does)
reader-up-as (has_read b) w i c x = tt

pub reader-up-aside : (w : World) (i c : ℕ) (x : Next) → IfSome (reader_up w i c x) (Aside w)
reader-up-aside w i c x = reader-up-as (w.readers i) w i c x

-- PRIMARIES

begins-as : (t : Told) (w : World) (i : ℕ) (at : Place) (b : BlockId) (members : List NodeId) (answers : List Bool) → IfSome (begins_as t w i at b members answers) (Aside w)
begins-as (Ok (office.Stamp s)) w i at b members answers = tt
begins-as (Ok (office.Reopened r)) w i at b members answers = tt
begins-as (Ok (office.Begun begun)) w i at b members answers = record { office = refl; stamped = refl; writer = refl; bytes = refl; answered = refl }
begins-as (Ok office.Nothing) w i at b members answers = tt
begins-as (Err fault) w i at b members answers = record { office = refl; stamped = refl; writer = refl; bytes = refl; answered = refl }

begins-at : (p : Primary) (w : World) (i n : ℕ) (b : BlockId) (members : List NodeId) (answers : List Bool) → IfSome (begins_at p w i n b members answers) (Aside w)
begins-at no_primary w i n b members answers = tt
begins-at (was_told asked told) w i n b members answers =
    when-each (Aside w) (asked.0 == b.0 && w.running n && are_members members) (begins_as told w i (place_of w n) b members answers)
    (λ e. begins-as told w i (place_of w n) b members answers)
begins-at (leads l) w i n b members answers = tt
begins-at (has_led r) w i n b members answers = tt

pub own-recover-aside : (w : World) (i n : ℕ) (b : BlockId) (members : List NodeId) (answers : List Bool) → IfSome (own_recover w i n b members answers) (Aside w)
own-recover-aside w i n b members answers = begins-at (w.primaries i) w i n b members answers

leads-step-aside : (s : OwnStep) (w : World) (i : ℕ) (l : Leading) (p : PrimaryState) → IfSome (leads_step s w i l p) (Aside w)
leads-step-aside own.Waits w i l p = tt
leads-step-aside (own.Updates c) w i l p = record { office = refl; stamped = refl; writer = refl; bytes = refl; answered = refl }
leads-step-aside (own.Commits c) w i l p = tt
leads-step-aside (own.Ends r) w i l p = record { office = refl; stamped = refl; writer = refl; bytes = refl; answered = refl }

commits-aside : (s : OwnStep) (w : World) (i : ℕ) (l : Leading) (t : Told) → IfSome (commits_step s w i l t) (Aside w)
commits-aside own.Waits w i l t = tt
commits-aside (own.Updates c) w i l t = tt
commits-aside (own.Commits c) w i l t = record { office = refl; stamped = refl; writer = refl; bytes = refl; answered = refl }
commits-aside (own.Ends r) w i l t = tt

leads-told-aside : (t : Option Told) (w : World) (i : ℕ) (l : Leading) → IfSome (leads_told t w i l) (Aside w)
leads-told-aside None w i l = leads-step-aside (own_step l.state).does w i l (own_step l.state).primary
leads-told-aside (Some told) w i l = commits-aside (own_step l.state).does w i l told

own-primary-as : (p : Primary) (w : World) (i : ℕ) → IfSome (own_primary_as p w i) (Aside w)
own-primary-as no_primary w i = tt
own-primary-as (was_told b t) w i = tt
own-primary-as (leads l) w i = when-each (Aside w) (is_alive w l.at) _ (λ _. leads-told-aside l.told w i l)
own-primary-as (has_led r) w i = tt

pub own-primary-aside : (w : World) (i : ℕ) → IfSome (own_primary w i) (Aside w)
own-primary-aside w i = own-primary-as (w.primaries i) w i

hears-aside : (w : World) (i : ℕ) (l : Leading) (place c : ℕ) (x : Next) (o : Option Standing) → IfSome (hears_change w i l place c x o) (Aside w)
hears-aside w i l place c x None = tt
hears-aside w i l place c x (Some s) = when-each (Aside w) (listens l.state.phase s) _ (λ _. record { office = refl; stamped = refl; writer = refl; bytes = refl; answered = refl })

primary-up-as : (p : Primary) (w : World) (i place c : ℕ) (x : Next) → IfSome (primary_up_as p w i place c x) (Aside w)
primary-up-as no_primary w i place c x = tt
primary-up-as (was_told b t) w i place c x = tt
primary-up-as (leads l) w i place c x =
    when-each (Aside w) (is_alive w l.at && is_none l.told) (hears_change w i l place c x (slice_get l.state.standings place))
    (λ _. hears-aside w i l place c x (slice_get l.state.standings place))
primary-up-as (has_led r) w i place c x = tt

pub primary-up-aside : (w : World) (i place c : ℕ) (x : Next) → IfSome (primary_up w i place c x) (Aside w)
primary-up-aside w i place c x = primary-up-as (w.primaries i) w i place c x
