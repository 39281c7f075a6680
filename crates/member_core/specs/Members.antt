-- The states of a member of a pipeline, and its turns: what it books and what it sends for each thing that it takes.
use Rattle.std.specs.Prelude.{ℕ, ℤ, ◌==◌, ◌&&◌, not, nat_lt, if◌then◌else◌, Bool, true, false, List, [], ◌∷◌, length, slice_get, Option, Some, None}
use Rattle.hd_base.specs.declared.numbers.ConnId.{ConnId}
use Rattle.hd_base.specs.declared.states.Status.{Status}
use Rattle.hd_base.specs.declared.states.Status.TheVariants as status
use Rattle.ack_codec.specs.declared.responses.Response.{Response}
use Rattle.replica_core.specs.declared.records.ReplicaRecord.{ReplicaRecord}
use Rattle.replica_core.specs.declared.ack_queue.PendingPacket.{PendingPacket}
use Rattle.replica_core.specs.declared.ack_queue.TheConstants.{MAX_PENDING}
use Rattle.replica_core.specs.declared.refusals.Refusal.{Refusal}
use Rattle.replica_core.specs.declared.refusals.Refusal.TheVariants as refusal
use Rattle.replica_core.specs.declared.events.Event.TheVariants as event
use Rattle.replica_core.specs.Transitions.{is_written_by}
use Rattle.replica_model.specs.declared.events.ReplicaEvent.{ReplicaEvent}
use Rattle.replica_model.specs.declared.events.ReplicaEvent.TheVariants as replica_event
use Rattle.op_headers.specs.Values.{WriteFields}
use Rattle.request_refusals.specs.declared.refusals.RequestRefusal.{RequestRefusal}
use Rattle.member_core.specs.declared.inputs.FromAbove.{FromAbove}
use Rattle.member_core.specs.declared.inputs.FromAbove.TheVariants as above
use Rattle.member_core.specs.declared.inputs.FromBelow.{FromBelow}
use Rattle.member_core.specs.declared.inputs.FromBelow.TheVariants as below
use Rattle.member_core.specs.declared.effects.Effect.{Effect}
use Rattle.member_core.specs.declared.effects.SetupAnswer.{SetupAnswer}
use Rattle.member_core.specs.declared.effects.SetupAnswer.TheVariants as answer
use Rattle.member_core.specs.declared.effects.Shuts.{Shuts}
use Rattle.member_core.specs.declared.effects.Shuts.TheVariants as shuts
use Rattle.member_core.specs.declared.effects.Upward.{Upward}
use Rattle.member_core.specs.declared.effects.Upward.TheVariants as upward
use Rattle.member_core.specs.declared.member.Mirror.{Mirror}
use Rattle.member_core.specs.declared.member.Mirror.TheVariants as mirror
use Rattle.member_core.specs.declared.turns.Booked.{Booked}
use Rattle.member_core.specs.declared.turns.Booked.TheVariants as booked
use Rattle.member_core.specs.declared.turns.Side.{Side}
use Rattle.member_core.specs.declared.turns.Side.TheVariants as side
use Rattle.member_core.specs.declared.turns.Turn.{Turn}
use Rattle.member_core.specs.Acks.{is_success, failures, begins_with_bad_sum, is_read, with_own, ack_of}
use Rattle.member_core.specs.Requests.{closes}

-- A member of a pipeline past its request: the connection from above, how many members are below, whether it shuts once it has answered, its mirror, the
-- seqno of a packet with a wrong sum, and which of its two sides still act: the one that takes from above, and the one that takes from the mirror.
pub record MemberState : Type 0 where
  pub conn : ConnId
  pub below : ℕ
  pub closes : Bool
  pub mirror : Mirror
  pub bad : Option ℤ
  pub receives : Bool
  pub responds : Bool

-- EFFECTS

-- nothing is sent, and nothing shut
abbrev pub no_effect : Effect
no_effect = record { forwards = false; sends = None; shuts = shuts.Nothing }

-- nothing is sent, and both connections are shut
abbrev pub shut_both : Effect
shut_both = record { forwards = false; sends = None; shuts = shuts.Both }

-- this is sent up, and both connections are shut where the test holds
abbrev pub sending : Upward → Bool → Effect
sending message over = record {
  forwards = false;
  sends = Some message;
  shuts = if over then shuts.Both
      else shuts.Nothing;
}

-- SETUP

-- what stands below a member with so many below: nobody, or a mirror that was asked or can't be
abbrev pub mirror_for : ℕ → Bool → Mirror
mirror_for n asked = if n == 0 then mirror.Nobody else (if asked then mirror.Asked else mirror.Unreachable)

-- a member whose request the replica took; it goes on acting but after a close, where it has answered
abbrev pub new_member : ConnId → WriteFields → Mirror → Bool → MemberState
new_member conn op m acts = record {
  conn = conn;
  below = length op.targets;
  closes = closes op;
  mirror = m;
  bad = None;
  receives = acts;
  responds = acts;
}

-- the last member answers at once, any other once its mirror did
abbrev pub set_up_at : Mirror → WriteFields → ConnId → MemberState × Effect
set_up_at mirror.Nobody op conn =
    (new_member conn op mirror.Nobody (not (closes op)), sending (upward.Answer answer.Success) (closes op))
set_up_at m op conn = (new_member conn op m true, no_effect)

-- a member whose request the replica took, by whether the request to its mirror could be sent
unfoldable pub set_up : ConnId → WriteFields → Bool → MemberState × Effect
set_up conn op asked = set_up_at (mirror_for (length op.targets) asked) op conn

-- a member whose request was refused: it says why, and shuts
abbrev pub refused_setup : RequestRefusal → Effect
refused_setup r = sending (upward.Answer (answer.Refused r)) true

-- TURNS

-- a turn of this side with this book call, after which the mirror stands so, and this effect
abbrev pub turn_of : Side → Option ReplicaEvent → Mirror → Effect → Turn
turn_of at call m effect = record { side = at; call = call; mirror = m; effect = effect }

-- the end of the connection is booked
abbrev pub ended_call : MemberState → Option ReplicaEvent
ended_call m = Some (replica_event.Other (event.Ended m.conn))

-- the ack of a packet is booked
abbrev pub ack_call : MemberState → PendingPacket → Bool → Option ReplicaEvent
ack_call m e good = Some (replica_event.Other (event.Ack m.conn e.seqno good))

abbrev pub has_mirror : Mirror → Bool
has_mirror mirror.Nobody = false
has_mirror _ = true

-- What is taken from above: a packet is booked and sent to the mirror; what can't be read shuts; the end is booked and the mirror shut.
abbrev pub down_turn : MemberState → FromAbove → Turn
down_turn m (above.Packet p) =
    turn_of side.Receiver (Some (replica_event.Packet m.conn p)) m.mirror
    (record no_effect { forwards = has_mirror m.mirror })
down_turn m above.Unreadable = turn_of side.Receiver None m.mirror shut_both
down_turn m above.End = turn_of side.Receiver (ended_call m) m.mirror (record no_effect { shuts = shuts.Mirror })

-- the setup has failed below: it is answered, the end booked, and both connections are shut
abbrev pub fail_turn : MemberState → SetupAnswer → Turn
fail_turn m a = turn_of side.Responder (ended_call m) mirror.Ended (sending (upward.Answer a) true)

-- the first bad member that the mirror named, else the mirror itself
abbrev pub named_bad : List ℕ → SetupAnswer
named_bad [] = answer.Unreached
named_bad (c ∷ cs) = answer.Below (c ∷ cs)

-- the mirror has accepted: so does the member
abbrev pub accept_turn : MemberState → Turn
accept_turn m = turn_of side.Responder None mirror.Open (sending (upward.Answer answer.Success) m.closes)

-- the mirror's answer to the request
abbrev pub answered_turn : MemberState → Response → Turn
answered_turn m r = if is_success r.status then accept_turn m else fail_turn m (named_bad r.first_bad)

abbrev pub setup_turn : MemberState → FromBelow → Turn
setup_turn m (below.Response r) = answered_turn m r
setup_turn m _ = fail_turn m answer.Unreached

-- the ack of a packet is booked as good, and these replies go up; after the last packet's both connections are shut
abbrev pub good_turn : MemberState → PendingPacket → List Status → Turn
good_turn m e replies = turn_of side.Responder (ack_call m e true) m.mirror
    (sending (upward.Ack (ack_of e.seqno replies)) e.last)

-- the mirror is given up: its packet is answered with an error of the mirror, and both connections are shut
abbrev pub give_up_turn : MemberState → PendingPacket → Turn
give_up_turn m e =
    turn_of side.Responder (ack_call m e false) mirror.Ended
    (sending (upward.Ack (ack_of e.seqno (status.Success ∷ status.Error ∷ []))) true)

-- the mirror has found a wrong sum: no ack goes up, the end is booked, and both connections are shut
abbrev pub spoiled_turn : MemberState → Turn
spoiled_turn m = turn_of side.Responder (ended_call m) m.mirror shut_both

-- the ack of a packet is booked as not good, and these replies go up
abbrev pub partial_turn : MemberState → PendingPacket → List Status → Turn
partial_turn m e replies = turn_of side.Responder (ack_call m e false) m.mirror
    (sending (upward.Ack (ack_of e.seqno replies)) false)

-- an ack that was read, of which a reply isn't SUCCESS
abbrev pub failed_turn : MemberState → PendingPacket → List Status → Turn
failed_turn m e replies = if begins_with_bad_sum replies then spoiled_turn m else partial_turn m e (with_own replies)

-- an ack that was read
abbrev pub pass_turn : MemberState → PendingPacket → List Status → Turn
pass_turn m e replies = if failures replies == 0 then good_turn m e (with_own replies) else failed_turn m e replies

abbrev pub ack_turn : MemberState → PendingPacket → FromBelow → Turn
ack_turn m e (below.Ack a) = if is_read m.below e.seqno a then pass_turn m e a.replies else give_up_turn m e
ack_turn m e _ = give_up_turn m e

-- what comes from the mirror in the stream; where nothing is pending, it makes the mirror count as ended
abbrev pub stream_turn : MemberState → Option PendingPacket → FromBelow → Turn
stream_turn m None taken = turn_of side.Responder None mirror.Ended no_effect
stream_turn m (Some e) taken = ack_turn m e taken

-- What is taken from the mirror, by the oldest pending packet. A mirror that counts as ended isn't heard.
abbrev pub up_at : Mirror → MemberState → Option PendingPacket → FromBelow → Turn
up_at mirror.Asked m oldest taken = setup_turn m taken
up_at mirror.Open m oldest taken = stream_turn m oldest taken
up_at _ m oldest taken = turn_of side.Responder None m.mirror no_effect

abbrev pub up_turn : MemberState → Option PendingPacket → FromBelow → Turn
up_turn m oldest taken = up_at m.mirror m oldest taken

-- the packet with the wrong sum is told of, the end booked, and both connections are shut
abbrev pub bad_turn : MemberState → ℤ → Turn
bad_turn m seqno = turn_of side.Responder (ended_call m) m.mirror
    (sending (upward.Ack (ack_of seqno (status.ErrorChecksum ∷ []))) true)

-- a member without a mirror that could still answer, and with nothing pending, shuts where its connection no longer writes
abbrev pub idle_turn : MemberState → Bool → Option Turn
idle_turn m true = None
idle_turn m false = Some (turn_of side.Responder None m.mirror shut_both)

-- nothing is pending: a wrong sum that is kept is told of, and else the connection may no longer write
abbrev pub quiet_turn : MemberState → Option ℤ → Bool → Option Turn
quiet_turn m (Some seqno) writes = Some (bad_turn m seqno)
quiet_turn m None writes = idle_turn m writes

-- the same of a member whose mirror may still answer
abbrev pub patient_turn : MemberState → Option ℤ → Option Turn
patient_turn m (Some seqno) = Some (bad_turn m seqno)
patient_turn m None = None

-- What a member does without a message from below, if there is something: by its mirror, the oldest pending packet, and whether its connection writes.
abbrev pub ready_at : Mirror → MemberState → Option PendingPacket → Bool → Option Turn
ready_at mirror.Asked m oldest writes = None
ready_at mirror.Unreachable m oldest writes = Some (fail_turn m answer.Unreached)
ready_at mirror.Nobody m (Some e) writes = Some (good_turn m e (status.Success ∷ []))
ready_at mirror.Nobody m None writes = quiet_turn m m.bad writes
ready_at mirror.Open m (Some e) writes = None
ready_at mirror.Open m None writes = patient_turn m m.bad
ready_at mirror.Ended m (Some e) writes = Some (give_up_turn m e)
ready_at mirror.Ended m None writes = quiet_turn m m.bad writes

abbrev pub ready_turn : MemberState → Option PendingPacket → Bool → Option Turn
ready_turn m oldest writes = if m.responds then ready_at m.mirror m oldest writes else None

-- the same at a replica
abbrev pub ready_turn_by : MemberState → ReplicaRecord → Option Turn
ready_turn_by m r = ready_turn m (slice_get r.pending 0) (is_written_by r.stream m.conn)

-- WHICH TURNS ARE OPEN

-- the mirror's answer to the request is awaited, or that none comes is to be told
abbrev pub is_waiting : Mirror → Bool
is_waiting mirror.Asked = true
is_waiting mirror.Unreachable = true
is_waiting _ = false

-- the mirror may still say something
abbrev pub is_heard : Mirror → Bool
is_heard mirror.Asked = true
is_heard mirror.Open = true
is_heard _ = false

-- a message from above may be taken, where so many packets are pending
abbrev pub takes_messages : MemberState → ℕ → Bool
takes_messages m pending = m.receives && not (is_waiting m.mirror) && nat_lt pending MAX_PENDING

-- a message from the mirror, or its end, may be taken
abbrev pub hears : MemberState → Bool
hears m = m.responds && is_heard m.mirror

-- WHAT FOLLOWS THE BOOK CALL

-- this side no longer acts
abbrev pub closed : Side → MemberState → MemberState
closed side.Receiver m = record m { receives = false }
closed side.Responder m = record m { responds = false }

-- this side no longer acts, where something is shut
abbrev pub closed_by : Shuts → Side → MemberState → MemberState
closed_by shuts.Nothing at m = m
closed_by _ at m = closed at m

-- the first wrong sum stays
abbrev pub kept_bad : Option ℤ → ℤ → Option ℤ
kept_bad None seqno = Some seqno
kept_bad (Some first) seqno = Some first

-- the turn is done
abbrev pub done : MemberState → Turn → MemberState × Effect
done m t = (closed_by t.effect.shuts t.side (record m { mirror = t.mirror }), t.effect)

-- both connections are shut, and nothing is sent
abbrev pub cut_off : MemberState → Turn → MemberState × Effect
cut_off m t = (closed t.side m, shut_both)

-- a packet with a wrong sum isn't sent on, and its seqno is kept
abbrev pub bad_sum : MemberState → Option ReplicaEvent → Turn → MemberState × Effect
bad_sum m (Some (replica_event.Packet conn p)) t = (record m { bad = kept_bad m.bad p.seqno }, no_effect)
bad_sum m _ t = cut_off m t

abbrev pub refused_turn : MemberState → Turn → Refusal → MemberState × Effect
refused_turn m t (refusal.BadSum chunk) = bad_sum m t.call t
refused_turn m t _ = cut_off m t

-- What follows the book call of a turn: it is done where the book took it, or where there is no call. A wrong sum is kept; any other refusal, and a
-- failed call on files, shuts both connections and sends nothing.
abbrev pub settled : MemberState → Turn → Booked → MemberState × Effect
settled m t booked.Taken = done m t
settled m t (booked.Refused r) = refused_turn m t r
settled m t booked.Failed = cut_off m t
