-- What a change makes of the requests that wait and of the setups that were accepted.
use Rattle.std.proofs.Common.{◌≤◌, ◌≡◌, ℕ, zero, suc, ◌<◌, Bool, true, false, List, [], ◌∷◌, ◌++◌, take, slice_get, Option, Some, None, IfSome, Result, Ok, Err, IfOk, refl, sym, ◌∙◌, ap, subst}
use Rattle.std.specs.Prelude.{map, option_map}
use Rattle.std.proofs.lemmas.Option.{none-some, same_Some}
use Rattle.hd_base.specs.declared.numbers.Stamp.{Stamp}
use Rattle.op_headers.specs.declared.nodes.NodeRef.{NodeRef}
use Rattle.op_headers.specs.declared.ops.Op.{Op}
use Rattle.op_headers.specs.declared.ops.Op.TheVariants as op
use Rattle.op_headers.specs.declared.ops.ReadOp.{ReadOp}
use Rattle.op_headers.specs.declared.ops.RecoveryOp.{RecoveryOp}
use Rattle.op_headers.specs.Values.{WriteFields}
use Rattle.node_refs.specs.NodeRefs.{ref_of}
use Rattle.packet_codec.specs.declared.packets.Packet.{Packet}
use Rattle.replica_core.specs.declared.events.Event.{Event}
use Rattle.replica_core.specs.declared.info.ReplicaInfo.{ReplicaInfo}
use Rattle.replica_core.specs.Transitions.{Outcome, transition, record_after}
use Rattle.replica_core.specs.Transitions as core
use Rattle.replica_core.specs.Views.{rule_in, stamp_in, written_in}
use Rattle.replica_model.specs.declared.events.ReplicaEvent.{ReplicaEvent}
use Rattle.replica_model.specs.declared.events.ReplicaEvent.TheVariants as replica_event
use Rattle.replica_model.specs.Rows.{FullReplica}
use Rattle.request_refusals.specs.declared.refusals.RequestRefusal.{RequestRefusal}
use Rattle.request_refusals.specs.declared.refusals.RequestRefusal.TheVariants as refusal
use Rattle.member_core.specs.declared.member.Mirror.{Mirror}
use Rattle.member_core.specs.declared.member.Mirror.TheVariants as mirror
use Rattle.member_core.specs.declared.requests.SetupKind.{SetupKind}
use Rattle.member_core.specs.declared.turns.Turn.{Turn}
use Rattle.member_core.specs.Members.{set_up, down_turn, up_turn, hears}
use Rattle.member_core.specs.Requests.{request_from, mirror_request, request_event}
use Rattle.member_core.specs.Steps.{Step, step, faulted_step, request_at, booked_request, refused_request, faulted_request, refused_by, oldest_at, ready_turn_at}
use Rattle.world.specs.ReadCore.Servings.{ServingState, read_at, read_event, next_call, piece_at}
use Rattle.recovery_core.specs.declared.members.RecoveryReply.{RecoveryReply}
use Rattle.recovery_core.specs.Members.{recovery_event}
use Rattle.world.specs.Parts.{Message, request, packet, ack, response, read_status, recovery_answer, by_member, FullMember, Lower, idle, writes, serves, recovers, ended_below, Break, Joined}
use Rattle.world.specs.Worlds.{World, Dial, Change}
use Rattle.world.specs.Connections.{Next, message, the_end, is_alive}
use Rattle.world.specs.Nodes.{node_of, node_on, replica_at, block_of, broke_at, closing, unless_failing, member_change, failing_turn, turn_change, pending_at, takes_next, above_of, below_of, member_down, member_up, ready_change, mirror_node, is_asked, mirror_dial, dials_of, setup_change, failing_write, write_request, joined_at, read_change, failing_read, read_request, piece_as, serve_change, failing_recovery, recovery_request, first_message, next_recovery, lower_down, lower_ready, mirror_up}
use Rattle.world.specs.Safe.{Has}
use Rattle.world_laws.proofs.FactTables.{when-each}
use Rattle.world_laws.specs.Carrying.{new_stamp}
use Rattle.world_laws.specs.Joining.{joined_as}
use Rattle.world_acks.specs.Acking.{Asked, promised}
use Rattle.world_acks.proofs.Setups.{Set, SetOr, IsRequest, request-is, request-set, DialsMirror, member-dial}
use Rattle.hd_base.specs.declared.numbers.NodeId.{NodeId}
use Rattle.writer_core.specs.declared.phases.Phase.TheVariants as phase
use Rattle.writer_core.specs.declared.phases.Setup.{Setup as WriterSetup}
use Rattle.world.specs.Clients.{are_distinct}
use Rattle.world_laws.specs.Stamping.{heard}
use Rattle.world_writers.specs.Taking.{Waits}
use Rattle.world_writers.proofs.Trailing.{is_stamped}

-- REQUESTS THAT ARE TAKEN

-- a member's request to its mirror: of the same stamp, and the rest of its own chain
pub record PassesOn (w : World) (k : Change) (d : Dial) (f : WriteFields) : Type 0 where
  pub own : WriteFields
  pub waited : Waits w.past w.lowers k.lower_at own
  pub busy : k.lower ≡ idle → ⊥
  pub stamp : new_stamp f ≡ new_stamp own
  pub upper : d.dialled.upper ≡ by_member k.lower_at
  pub block : block_of f ≡ block_of own
  pub least : promised f ≡ promised own
  pub rest : Some d.dialled.to.node ∷ map (λ (t : NodeRef). node_on t.xfer) f.targets ≡ map (λ (t : NodeRef). node_on t.xfer) own.targets

-- a writer's request: under the stamp that its setup had, to members that stand once
pub record Begins (w : World) (k : Change) (d : Dial) (f : WriteFields) : Type 0 where
  pub setup_is : WriterSetup
  pub stamp : Stamp
  pub phase_is : (heard (w.writers k.writer_at)).phase ≡ phase.Stamped setup_is stamp
  pub is : new_stamp f ≡ stamp
  pub block : block_of f ≡ k.writer_at
  pub covers : (heard (w.writers k.writer_at)).stream.acked ≤ promised f
  pub members : List NodeId
  pub distinct : are_distinct members ≡ true
  pub reaches : (i n : ℕ) → n < w.nodes → slice_get (Some d.dialled.to.node ∷ map (λ (t : NodeRef). node_on t.xfer) f.targets) i ≡ Some (Some n) → (m : NodeId) × (slice_get members i ≡ Some m) × (m.0 ≡ n)
  pub dialled_now : is_stamped (heard k.writer).phase ≡ false

pub data NewRequest (w : World) (k : Change) (d : Dial) (f : WriteFields) : Type 0 where
  of_member : PassesOn w k d f → NewRequest w k d f
  of_writer : Begins w k d f → NewRequest w k d f

-- a node has accepted the setup of the request that waited for it
pub record Accepts (w : World) (k : Change) (x : Joined) : Type 0 where
  pub own : WriteFields
  pub waited : Waits w.past w.lowers k.lower_at own
  pub busy : k.lower ≡ idle → ⊥
  pub is : x ≡ joined_as (new_stamp own).0 (w.dialled k.lower_at).to.node (w.dialled k.lower_at).to.life

-- What a change takes and sends on: a lower end that acts doesn't wait, at most one write request is dialled, and only who took one has accepted a setup.
pub record Takes (w : World) (k : Change) : Type 0 where
  pub lower : k.lower ≡ idle → w.lowers k.lower_at ≡ idle
  pub dials : (j : ℕ) (d : Dial) (f : WriteFields) → slice_get k.dials j ≡ Some d → d.request ≡ request (op.Write f) → (j ≡ 0) × NewRequest w k d f
  pub alone : (j : ℕ) (d : Dial) → slice_get k.dials j ≡ Some d → (c : ℕ) → k.downs c ≡ []
  pub joined : (x : Joined) → Has k.joined x → Accepts w k x

-- a change that dials nothing, and in which nobody accepts a setup
pub quiet-takes : (w : World) (k : Change) → k.dials ≡ [] → k.joined ≡ [] → (k.lower ≡ idle → w.lowers k.lower_at ≡ idle) → Takes w k
quiet-takes w k d j l = record {
  lower = l;
  dials = λ i x f e q. absurd (none-some x (sym (ap (λ (xs : List Dial). slice_get xs i) d) ∙ e));
  alone = λ i x e c. absurd (none-some x (sym (ap (λ (xs : List Dial). slice_get xs i) d) ∙ e));
  joined = λ x h. absurd (none-some x (sym (ap (λ (xs : List Joined). slice_get xs h.place) j) ∙ h.there));
}

ended-busy : ended_below ≡ idle → ⊥
ended-busy e = cc

writes-busy : (m : FullMember) → writes m ≡ idle → ⊥
writes-busy m e = cc

serves-busy : (b : ℕ) (s : ServingState) → serves b s ≡ idle → ⊥
serves-busy b s e = cc

recovers-busy : recovers ≡ idle → ⊥
recovers-busy e = cc

closing-takes : (w : World) (c : ℕ) → Takes w (closing w c)
closing-takes w c = quiet-takes w (closing w c) refl refl (λ e. absurd (ended-busy e))

unless-takes : (w : World) (fails : Bool) (c : ℕ) → IfSome (unless_failing fails (closing w c)) (Takes w)
unless-takes w true c = tt
unless-takes w false c = closing-takes w c

-- MEMBERS

member-takes : (w : World) (c : ℕ) (m : FullMember) (x : Next) (s : Step) (b : Option Break) → Takes w (member_change w c m x s b)
member-takes w c m x s b = quiet-takes w (member_change w c m x s b) refl refl (λ e. absurd (writes-busy (record m { state = s.member }) e))

failing-takes : (w : World) (c : ℕ) (m : FullMember) (x : Next) (t : Turn) (o : Option ReplicaEvent) → IfSome (failing_turn w c m x t o) (Takes w)
failing-takes w c m x t None = tt
failing-takes w c m x t (Some e) = member-takes w c m x (faulted_step m.state (replica_at w c (block_of m.fields)) t) (broke_at w c (block_of m.fields) e)

turn-takes : (w : World) (c : ℕ) (m : FullMember) (x : Next) (t : Turn) (fails : Bool) → IfSome (turn_change w c m x t fails) (Takes w)
turn-takes w c m x t true = failing-takes w c m x t t.call
turn-takes w c m x t false = member-takes w c m x (step m.state (replica_at w c (block_of m.fields)) t) (w.breaks (node_of w c) (block_of m.fields))

down-takes : (w : World) (c : ℕ) (m : FullMember) (x : Next) (fails : Bool) → IfSome (member_down w c m x fails) (Takes w)
down-takes w c m x fails = when-each (Takes w) (takes_next m.state (pending_at w c m) x) _ (λ _. turn-takes w c m x (down_turn m.state (above_of x)) fails)

up-takes : (w : World) (c : ℕ) (m : FullMember) (x : Next) (fails : Bool) → IfSome (member_up w c m x fails) (Takes w)
up-takes w c m x fails = when-each (Takes w) (hears m.state) _ (λ _. turn-takes w c m x (up_turn m.state (oldest_at (replica_at w c (block_of m.fields))) (below_of x)) fails)

ready-takes : (w : World) (c : ℕ) (m : FullMember) (o : Option Turn) (fails : Bool) → IfSome (ready_change w c m o fails) (Takes w)
ready-takes w c m None fails = tt
ready-takes w c m (Some t) fails = turn-takes w c m the_end t fails

-- WRITE REQUESTS

refused-takes : (w : World) (c : ℕ) (f : WriteFields) (r : FullReplica) (q : RequestRefusal) (b : Option Break) → Takes w (setup_change w c f (refused_request r q) b)
refused-takes w c f r q b = quiet-takes w (setup_change w c f (refused_request r q) b) refl refl (λ e. absurd (ended-busy e))

failing-write-takes : (w : World) (c : ℕ) (f : WriteFields) (e : Result Event RequestRefusal) → IfSome (failing_write w c f e) (Takes w)
failing-write-takes w c f (Err x) = tt
failing-write-takes w c f (Ok e) =
    quiet-takes w (setup_change w c f (faulted_request (replica_at w c (block_of f))) (broke_at w c (block_of f) (replica_event.Other e))) refl refl (λ q. absurd (ended-busy q))

-- the one dial of a member
one-dial : (w : World) (c : ℕ) (o : Option WriteFields) (n : Option ℕ) (i : ℕ) (d : Dial) → slice_get (mirror_dial w c o n) i ≡ Some d → i ≡ 0
one-dial w c None n i d e = absurd (none-some d e)
one-dial w c (Some f) None i d e = absurd (none-some d e)
one-dial w c (Some f) (Some n) zero d e = refl
one-dial w c (Some f) (Some n) (suc i) d e = absurd (none-some d e)

first-one : (w : World) (c : ℕ) (f : WriteFields) (m : Mirror) (i : ℕ) (d : Dial) → slice_get (dials_of m w c f) i ≡ Some d → i ≡ 0
first-one w c f mirror.Asked i d e = one-dial w c (mirror_request (ref_of (record { 0 = node_of w c })) f) (mirror_node f.targets) i d e
first-one w c f mirror.Nobody i d e = absurd (none-some d e)
first-one w c f mirror.Unreachable i d e = absurd (none-some d e)
first-one w c f mirror.Open i d e = absurd (none-some d e)
first-one w c f mirror.Ended i d e = absurd (none-some d e)

same-write : (a b : WriteFields) → request (op.Write a) ≡ request (op.Write b) → a ≡ b
same-write a b e = cc

-- the request of a new member goes on
passes-on : (w : World) (k : Change) (f q : WriteFields) (d : Dial) → Waits w.past w.lowers k.lower_at f → (k.lower ≡ idle → ⊥) → DialsMirror w k.lower_at f d → d.request ≡ request (op.Write q) → PassesOn w k d q
passes-on w k f q d h busy x e =
    let same : request_from x.source f x.rest ≡ q = same-write (request_from x.source f x.rest) q (sym x.request_is ∙ e) in
    record {
      own = f;
      waited = h;
      busy = busy;
      stamp = ap new_stamp (sym same);
      upper = x.upper;
      block = ap block_of (sym same);
      least = ap promised (sym same);
      rest = ap (λ (o : Option ℕ). o ∷ map (λ (t : NodeRef). node_on t.xfer) q.targets) (sym x.node)
          ∙ ap (λ (ts : List NodeRef). node_on x.first.xfer ∷ map (λ (t : NodeRef). node_on t.xfer) ts) (sym (ap (λ (y : WriteFields). y.targets) same))
          ∙ ap (λ (ts : List NodeRef). map (λ (t : NodeRef). node_on t.xfer) ts) (sym x.targets);
    }

taken-takes : (w : World) (c : ℕ) (f : WriteFields) (asked : Bool) (s : SetupKind) (r : FullReplica) → Waits w.past w.lowers c f → Set s r.known (new_stamp f) (promised f) → Takes w (setup_change w c f (booked_request (record { 0 = c }) f asked r None) (w.breaks (node_of w c) (block_of f)))
taken-takes w c f asked way r h x = record {
  lower = λ e. absurd (writes-busy _ e);
  dials = λ j d q e s. (first-one w c f (set_up (record { 0 = c }) f asked).0.mirror j d e, of_member (passes-on w k f q d h (λ z. writes-busy _ z) (member-dial w c f (set_up (record { 0 = c }) f asked).0.mirror j d e) s));
  alone = λ j d e y. refl;
  joined = λ y j. record {
    own = f;
    waited = h;
    busy = λ z. writes-busy _ z;
    is = only (joined_as (new_stamp f).0 (node_of w c) (w.dialled c).to.life) y (subst (λ (xs : List Joined). Has xs y) joined j);
  };
}
  where
    k : Change
    k = setup_change w c f (booked_request (record { 0 = c }) f asked r None) (w.breaks (node_of w c) (block_of f))

    joined : joined_at (w.dialled c).to (stamp_in r.known) ≡ joined_as (new_stamp f).0 (node_of w c) (w.dialled c).to.life ∷ []
    joined =
        ap (λ (o : Option ReplicaInfo). joined_at (w.dialled c).to (option_map (λ (i : ReplicaInfo). i.stamp) o)) x.is
        ∙ ap (λ (s : Stamp). joined_as s.0 (node_of w c) (w.dialled c).to.life ∷ []) x.under

    only : (a y : Joined) → Has (a ∷ []) y → y ≡ a
    only a y q = at q.place q.there
      where
        at : (i : ℕ) → slice_get (a ∷ []) i ≡ Some y → y ≡ a
        at zero e = sym (same_Some a y e)
        at (suc i) e = absurd (none-some y e)

abbrev after : FullReplica → Outcome → FullReplica
after r o = record { known = record_after r.known o; bytes = take (written_in (record_after r.known o)) (r.bytes ++ []) }

outcome-takes : (w : World) (c : ℕ) (f : WriteFields) (asked : Bool) (way : SetupKind) (broken : Bool) (o : Outcome) → Waits w.past w.lowers c f → SetOr way (new_stamp f) (promised f) broken o
    → Takes w (setup_change w c f (booked_request (record { 0 = c }) f asked (after (replica_at w c (block_of f)) o) (refused_by (core.answer_of (core.reply o)))) (w.breaks (node_of w c) (block_of f)))
outcome-takes w c f asked way broken (Err x) h s = refused-takes w c f (after (replica_at w c (block_of f)) (Err x)) (refusal.Core x) (w.breaks (node_of w c) (block_of f))
outcome-takes w c f asked way broken (Ok q) h s =
    let r = after (replica_at w c (block_of f)) (Ok q) in
    subst (λ (a : Option RequestRefusal). Takes w (setup_change w c f (booked_request (record { 0 = c }) f asked r a) (w.breaks (node_of w c) (block_of f)))) (sym (ap refused_by s.done)) (taken-takes w c f asked way r h s.set)

requested-takes : (w : World) (c : ℕ) (f : WriteFields) (asked : Bool) (e : Result Event RequestRefusal) → Waits w.past w.lowers c f → IfOk e (IsRequest (record { 0 = c }) f)
    → Takes w (setup_change w c f (request_at (record { 0 = c }) f asked (replica_at w c (block_of f)) e) (w.breaks (node_of w c) (block_of f)))
requested-takes w c f asked (Err x) h q = refused-takes w c f (replica_at w c (block_of f)) x (w.breaks (node_of w c) (block_of f))
requested-takes w c f asked (Ok e) h q =
    let r = replica_at w c (block_of f) in
    outcome-takes w c f asked q.kind_of r.known.is_broken (transition r.known e) h (request-set r.known (record { 0 = c }) f e q)

write-takes : (w : World) (c : ℕ) (f : WriteFields) (answered fails : Bool) → Waits w.past w.lowers c f → IfSome (write_request w c f answered fails) (Takes w)
write-takes w c f answered true h = failing-write-takes w c f (request_event (record { 0 = c }) f (rule_in (replica_at w c (block_of f)).known))
write-takes w c f answered false h =
    let r = replica_at w c (block_of f) in
    requested-takes w c f (is_asked w c f answered) (request_event (record { 0 = c }) f (rule_in r.known)) h (request-is (record { 0 = c }) f (rule_in r.known))

-- READS AND RECOVERIES

read-change-takes : (w : World) (c b : ℕ) (s : Result ServingState RequestRefusal) → Takes w (read_change w c b s)
read-change-takes w c b (Ok s) = quiet-takes w (read_change w c b (Ok s)) refl refl (λ e. absurd (serves-busy b s e))
read-change-takes w c b (Err r) = quiet-takes w (read_change w c b (Err r)) refl refl (λ e. absurd (ended-busy e))

failing-read-takes : (w : World) (c b : ℕ) (e : Result Event RequestRefusal) → IfSome (failing_read w c b e) (Takes w)
failing-read-takes w c b (Err r) = tt
failing-read-takes w c b (Ok e) = quiet-takes w _ refl refl (λ q. absurd (ended-busy q))

read-takes : (w : World) (c : ℕ) (r : ReadOp) (fails : Bool) → IfSome (read_request w c r fails) (Takes w)
read-takes w c r true = failing-read-takes w c r.block.block.0 (read_event r)
read-takes w c r false = read-change-takes w c r.block.block.0 (read_at r (replica_at w c r.block.block.0))

piece-takes : (w : World) (c b : ℕ) (s : ServingState) (o : Option Packet) → Takes w (piece_as w c b s o)
piece-takes w c b s None = closing-takes w c
piece-takes w c b s (Some p) = quiet-takes w (piece_as w c b s (Some p)) refl refl (λ e. absurd (serves-busy b s e))

serve-takes : (w : World) (c b : ℕ) (s : ServingState) (o : Option Event) (fails : Bool) → IfSome (serve_change w c b s o fails) (Takes w)
serve-takes w c b s None fails = tt
serve-takes w c b s (Some e) true = quiet-takes w _ refl refl (λ q. absurd (ended-busy q))
serve-takes w c b s (Some e) false = piece-takes w c b (piece_at s (replica_at w c b)).serving (piece_at s (replica_at w c b)).packet

failing-recovery-takes : (w : World) (c : ℕ) (r : RecoveryOp) (e : Result Event RecoveryReply) → IfSome (failing_recovery w c r e) (Takes w)
failing-recovery-takes w c r (Err said) = tt
failing-recovery-takes w c r (Ok e) = quiet-takes w _ refl refl (λ q. absurd (recovers-busy q))

recovery-takes : (w : World) (c : ℕ) (r : RecoveryOp) (fails : Bool) → IfSome (recovery_request w c r fails) (Takes w)
recovery-takes w c r true = failing-recovery-takes w c r (recovery_event r)
recovery-takes w c r false = quiet-takes w _ refl refl (λ q. absurd (recovers-busy q))

-- LOWER ENDS

-- what stands next for a lower end that waits, where it is a write request, came first
abbrev pub FirstOf : World → ℕ → Next → Type 0
FirstOf w c (message (request (op.Write f))) = Asked w.past c f
FirstOf w c x = Unit {0}

request-takes : (w : World) (c : ℕ) (o : Op) (answered fails : Bool) → w.lowers c ≡ idle → FirstOf w c (message (request o)) → IfSome (first_message w c (request o) answered fails) (Takes w)
request-takes w c (op.Write f) answered fails i h = write-takes w c f answered fails (record { asked = h; waits = i })
request-takes w c (op.Read r) answered fails i h = read-takes w c r fails
request-takes w c (op.Recovery r) answered fails i h = recovery-takes w c r fails
request-takes w c (op.Transfer r) answered fails i h = unless-takes w fails c
request-takes w c (op.Checksum r) answered fails i h = unless-takes w fails c

first-takes : (w : World) (c : ℕ) (m : Message) (answered fails : Bool) → w.lowers c ≡ idle → FirstOf w c (message m) → IfSome (first_message w c m answered fails) (Takes w)
first-takes w c (request o) answered fails i h = request-takes w c o answered fails i h
first-takes w c (packet p) answered fails i h = unless-takes w fails c
first-takes w c (ack a) answered fails i h = unless-takes w fails c
first-takes w c (response r) answered fails i h = unless-takes w fails c
first-takes w c (read_status s) answered fails i h = unless-takes w fails c
first-takes w c (recovery_answer a) answered fails i h = unless-takes w fails c

next-op-takes : (w : World) (c : ℕ) (o : Op) (fails : Bool) → IfSome (next_recovery w c (message (request o)) fails) (Takes w)
next-op-takes w c (op.Write f) fails = unless-takes w fails c
next-op-takes w c (op.Read r) fails = unless-takes w fails c
next-op-takes w c (op.Recovery r) fails = recovery-takes w c r fails
next-op-takes w c (op.Transfer r) fails = unless-takes w fails c
next-op-takes w c (op.Checksum r) fails = unless-takes w fails c

next-takes : (w : World) (c : ℕ) (x : Next) (fails : Bool) → IfSome (next_recovery w c x fails) (Takes w)
next-takes w c (message (request o)) fails = next-op-takes w c o fails
next-takes w c (message (packet p)) fails = unless-takes w fails c
next-takes w c (message (ack a)) fails = unless-takes w fails c
next-takes w c (message (response r)) fails = unless-takes w fails c
next-takes w c (message (read_status s)) fails = unless-takes w fails c
next-takes w c (message (recovery_answer a)) fails = unless-takes w fails c
next-takes w c the_end fails = unless-takes w fails c

pub lower-down-takes : (l : Lower) (w : World) (c : ℕ) (x : Next) (answered fails : Bool) → w.lowers c ≡ l → FirstOf w c x → IfSome (lower_down l w c x answered fails) (Takes w)
lower-down-takes idle w c (message m) answered fails i h = first-takes w c m answered fails i h
lower-down-takes idle w c the_end answered fails i h = unless-takes w fails c
lower-down-takes (writes m) w c x answered fails i h = down-takes w c m x fails
lower-down-takes (serves b s) w c x answered fails i h = unless-takes w fails c
lower-down-takes recovers w c x answered fails i h = next-takes w c x fails
lower-down-takes ended_below w c x answered fails i h = tt

pub lower-ready-takes : (l : Lower) (w : World) (c : ℕ) (fails : Bool) → IfSome (lower_ready l w c fails) (Takes w)
lower-ready-takes idle w c fails = tt
lower-ready-takes (writes m) w c fails = ready-takes w c m (ready_turn_at m.state (replica_at w c (block_of m.fields))) fails
lower-ready-takes (serves b s) w c fails = serve-takes w c b s (next_call s) fails
lower-ready-takes recovers w c fails = tt
lower-ready-takes ended_below w c fails = tt

pub mirror-up-takes : (l : Lower) (w : World) (d : ℕ) (x : Next) (fails : Bool) → IfSome (mirror_up l w d x fails) (Takes w)
mirror-up-takes idle w d x fails = tt
mirror-up-takes (writes m) w d x fails = when-each (Takes w) (is_alive w (w.dialled d).to) _ (λ _. up-takes w d m x fails)
mirror-up-takes (serves b s) w d x fails = tt
mirror-up-takes recovers w d x fails = tt
mirror-up-takes ended_below w d x fails = tt
