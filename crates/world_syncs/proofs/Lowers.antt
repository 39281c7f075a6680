-- What lower ends send, bring and accept.
use Rattle.std.proofs.Common.{◌≡◌, ℕ, ℤ, zero, suc, ◌≤◌, ◌⊎◌, inl, inr, Bool, true, false, List, [], ◌∷◌, slice_get, Option, Some, None, IfSome, Result, Ok, Err, refl, sym, ap, subst, ◌∙◌, arith}
use Rattle.std.specs.Prelude.{◌==◌, pos, negsuc, option_map, length, if◌then◌else◌}
use Rattle.std.specs.Result.{IfOk}
use Rattle.std.specs.Ordering.{int_eq}
use Rattle.std.proofs.lemmas.Bool.{false≢true}
use Rattle.std.proofs.lemmas.Bool.Decides.{nat_tests}
use Rattle.std.proofs.lemmas.Option.{none-some, same_Some}
use Rattle.hd_base.specs.SumRules.{Rule}
use Rattle.hd_base.specs.declared.numbers.ConnId.{ConnId}
use Rattle.hd_base.specs.declared.numbers.Stamp.{Stamp}
use Rattle.hd_base.specs.declared.states.ReplicaState.{ReplicaState}
use Rattle.hd_base.specs.declared.states.ReplicaState.TheVariants as state
use Rattle.op_headers.specs.declared.ops.Op.{Op}
use Rattle.op_headers.specs.declared.ops.Op.TheVariants as op
use Rattle.op_headers.specs.declared.ops.ReadOp.{ReadOp}
use Rattle.op_headers.specs.declared.ops.RecoveryKind.{RecoveryKind}
use Rattle.op_headers.specs.declared.ops.RecoveryKind.TheVariants as recovery_kind
use Rattle.op_headers.specs.declared.ops.RecoveryOp.{RecoveryOp}
use Rattle.op_headers.specs.Values.{WriteFields}
use Rattle.packet_codec.specs.declared.packets.Packet.{Packet}
use Rattle.replica_core.specs.declared.events.Event.{Event}
use Rattle.replica_core.specs.declared.events.Event.TheVariants as event
use Rattle.replica_core.specs.declared.info.ReplicaInfo.{ReplicaInfo}
use Rattle.replica_core.specs.declared.records.ReplicaRecord.{ReplicaRecord}
use Rattle.replica_core.specs.declared.refusals.Refusal.{Refusal}
use Rattle.replica_core.specs.declared.refusals.Refusal.TheVariants as refusal
use Rattle.replica_core.specs.Info.{is_rbw, state_of, state_under, recover_stream}
use Rattle.replica_core.specs.Transitions.{Outcome, Taken, transition, present, with_writer, record_after, stream_recovery_transition, done, set_writer}
use Rattle.replica_core.specs.Transitions as core
use Rattle.replica_core.specs.Views.{rule_in}
use Rattle.replica_core.proofs.InfoLemmas.{present_is}
use Rattle.replica_core.proofs.StepLemmas.{if_step}
use Rattle.replica_model.specs.declared.events.ReplicaEvent.{ReplicaEvent}
use Rattle.replica_model.specs.declared.events.ReplicaEvent.TheVariants as replica_event
use Rattle.replica_model.specs.Rows.{FullReplica, IsFull, row}
use Rattle.request_refusals.specs.declared.refusals.RequestRefusal.{RequestRefusal}
use Rattle.request_refusals.specs.declared.refusals.RequestRefusal.TheVariants as request_refusal
use Rattle.request_refusals.specs.Pools.{is_in_pool}
use Rattle.member_core.specs.declared.effects.Effect.{Effect}
use Rattle.member_core.specs.declared.effects.SetupAnswer.TheVariants as setup_answer
use Rattle.member_core.specs.declared.effects.Upward.{Upward}
use Rattle.member_core.specs.declared.effects.Upward.TheVariants as upward
use Rattle.member_core.specs.declared.inputs.FromAbove.TheVariants as above
use Rattle.member_core.specs.declared.requests.SetupKind.{SetupKind}
use Rattle.member_core.specs.declared.requests.SetupKind.TheVariants as kind
use Rattle.member_core.specs.declared.turns.Booked.{Booked}
use Rattle.member_core.specs.declared.turns.Booked.TheVariants as booked
use Rattle.member_core.specs.declared.turns.Turn.{Turn}
use Rattle.member_core.specs.Members.{MemberState, down_turn, up_turn, hears, settled, bad_sum, mirror_for, set_up, set_up_at}
use Rattle.member_core.specs.declared.member.Mirror.{Mirror}
use Rattle.member_core.specs.declared.member.Mirror.TheVariants as mirror
use Rattle.op_headers.specs.declared.nodes.NodeRef.{NodeRef}
use Rattle.member_core.specs.Requests.{request_from, request_event, setup_event, setup_with}
use Rattle.member_core.specs.Steps.{Setup, Step, step, faulted_step, replica_after, outcome_of, oldest_at, ready_turn_at, request_at, booked_request, refused_request, refused_by}
use Rattle.replica_core.specs.Transitions.{is_written_by}
use Rattle.read_core.specs.declared.serving.ServePhase.{ServePhase}
use Rattle.read_core.specs.declared.serving.ServePhase.TheVariants as serving
use Rattle.read_core.specs.Servings.{ServingState, read_event, read_at, next_call, call_at, piece_at}
use Rattle.recovery_core.specs.declared.members.RecoveryReply.{RecoveryReply}
use Rattle.recovery_core.specs.Members.{Served, no_recovery, step_event, recovery_event}
use Rattle.world.specs.Parts.{Message, request, packet, ack, response, read_status, recovery_answer, Joined, FullMember, Lower, idle, writes, serves, recovers, ended_below, Break}
use Rattle.world.specs.Worlds.{Dial, Past, no_past, World, Change, apply}
use Rattle.world.specs.Connections.{Next, message, the_end, is_alive, sent_on}
use Rattle.world.specs.Nodes.{node_of, replica_at, block_of, above_of, below_of, upward_message, sent_up, passed, member_change, broke_at, closing, unless_failing, turn_change, failing_turn, takes_next, pending_at, ready_change, is_asked, failing_write, write_request, setup_change, joined_at, breaking, read_change, failing_read, read_request, piece_as, serve_change, recovery_change, failing_recovery, recovery_request, first_message, next_recovery, lower_down, lower_ready, mirror_up}
use Rattle.world.specs.Safe.{Has}
use Rattle.world_laws.proofs.FactTables.{if-each, when-each, some-weaker}
use Rattle.world_laws.proofs.ByteFrame.{Each, each-nil, each-one}
use Rattle.world_laws.proofs.ByteLeaves.{sent-each, sent-if}
use Rattle.world_laws.proofs.ByteRows.{Allows}
use Rattle.world_laws.proofs.ByteTurns.{Idles, up-idles, ready-idles, follows}
use Rattle.world_laws.specs.Stamping.{Givens, none_given}
use Rattle.world_laws.specs.Carrying.{stamp_set, new_stamp, Sets, LowerSays}
use Rattle.world_laws.specs.Joining.{joined_as}
use Rattle.world_acks.specs.Acking.{Asked, Ends, promised, LowerTells, Mirrors}
use Rattle.world_acks.proofs.ClosedMoves.{put-self}
use Rattle.world_acks.proofs.Setups.{IsRequest, request-is, request-set, SetOr, DialsMirror, member-dial}
use Rattle.world_acks.proofs.Lowers.{after-at, after-lives}
use Rattle.world_acks.proofs.Turning.{Known, FromMirror, written-stamp, from-mirror}
use Rattle.world_syncs.specs.Histories.{TakenEvent, Histories, more_events, with_event, call_of, call_in, taken_at, turn_event, first_event, recovery_next, lower_event, turn_event_in, acting_event, mirror_event}
use Rattle.world_syncs.proofs.Pending.{Comes, BringsIn, NotPacket, AllAwait}
use Rattle.world_syncs.proofs.Seats.{Replays}
use Rattle.world_syncs.proofs.Turning.{UpSyncs, Later, Knows, At, history_after, HeardSyncs, TurnSyncs, up-syncs, ready-syncs, down-syncs}

-- WHAT A CHANGE BRINGS

-- a packet that was sent on another connection under the same stamp
pub record Forwards (h : Past) (d : ℕ) (p : Packet) : Type 0 where
  pub stamp : Stamp
  pub here : Sets h d stamp
  pub conn : ℕ
  pub from : Sets h conn stamp
  pub place : ℕ
  pub there : slice_get (h.downs conn) place ≡ Some (packet p)

abbrev pub DownForwards : Past → ℕ → Message → Type 0
DownForwards h d (packet p) = Forwards h d p
DownForwards h d (request (op.Write f)) = ⊥
DownForwards h d _ = Unit {0}

-- an RBW replica under a stamp from the one that a request names to its own
pub record FindsOpen (r : FullReplica) (f : WriteFields) : Type 0 where
  pub info : ReplicaInfo
  pub is : r.known.info ≡ Some info
  pub rbw : info.original ≡ state.Rbw
  pub free : info.recovery ≡ None
  pub low : f.block.stamp.0 ≤ info.stamp.0
  pub high : info.stamp.0 ≤ (new_stamp f).0
  pub sound : r.known.is_broken ≡ false

-- A setup that is accepted is that of a request, at the node that the change is of; the recovery of a stream found an
-- RBW replica.
pub record JoinsBy (w : World) (k : Change) (t n l : ℕ) : Type 0 where
  pub conn : ℕ
  pub fields : WriteFields
  pub asked : Asked w.past conn fields
  pub is : (new_stamp fields).0 ≡ t
  pub node : n ≡ k.node
  pub block : block_of fields ≡ k.block
  pub life : l ≡ w.lives n
  pub runs : w.running n ≡ true
  pub opens : setup_with fields.stage ≡ Some kind.StreamRecovery → FindsOpen (w.replicas k.node k.block) fields
  pub updates : k.updated ≡ []

-- no packet, and a write request that goes on to a mirror
pub record Copies (h : Past) (f : WriteFields) : Type 0 where
  pub conn : ℕ
  pub fields : WriteFields
  pub asked : Asked h conn fields
  pub source : NodeRef
  pub rest : List NodeRef
  pub is : f ≡ request_from source fields rest

abbrev pub DialCopies : Past → Message → Type 0
DialCopies h (packet p) = ⊥
DialCopies h (request (op.Write f)) = Copies h f
DialCopies h _ = Unit {0}

-- what a change sends, brings and accepts
pub record LeafSyncs (h : Histories) (w : World) (o : Option TakenEvent) (k : Change) : Type 0 where
  pub ups : Later h (with_event h o) w (apply w k) → ((n b : ℕ) → IsFull ((apply w k).replicas n b)) → (c : ℕ) → Each (UpSyncs (with_event h o) (apply w k) c) (k.ups c)
  pub downs : (c : ℕ) → Each (DownForwards w.past c) (k.downs c)
  pub dials : (i : ℕ) (d : Dial) → slice_get k.dials i ≡ Some d → DialCopies w.past d.request
  pub brings : IfSome o (BringsIn w)
  pub joins : (t n l : ℕ) → Has k.joined (joined_as t n l) → JoinsBy w k t n l

-- no ack
abbrev pub NoAck : Message → Type 0
NoAck (ack a) = ⊥
NoAck _ = Unit {0}

no-ack : (l : Histories) (v : World) (c : ℕ) (m : Message) → NoAck m → UpSyncs l v c m
no-ack l v c (ack a) x = absurd x
no-ack l v c (response r) x = tt
no-ack l v c (request r) x = tt
no-ack l v c (packet p) x = tt
no-ack l v c (read_status s) x = tt
no-ack l v c (recovery_answer a) x = tt

-- a change that sends no ack and nothing down, and accepts no setup
quiet-leaf : (h : Histories) (w : World) (o : Option TakenEvent) (k : Change) → ((d : ℕ) → Each NoAck (k.ups d)) → ((d : ℕ) → k.downs d ≡ []) → k.joined ≡ [] → k.dials ≡ [] → IfSome o (BringsIn w) → LeafSyncs h w o k
quiet-leaf h w o k ups downs joined dials brings = record {
  dials = λ i d e. absurd (none-some d (sym (ap (λ xs. slice_get xs i) dials) ∙ e));
  ups = λ _ _ c. record { at = λ i m e. no-ack (with_event h o) (apply w k) c m ((ups c).at i m e) };
  downs = λ d. subst (λ (ms : List Message). Each (DownForwards w.past d) ms) (sym (downs d)) (each-nil (DownForwards w.past d));
  brings = brings;
  joins = λ t n l j. absurd (none-some _ (sym (ap (λ xs. slice_get xs j.place) joined) ∙ j.there));
}

sent-quiet : (c : ℕ) (ms : List Message) → Each NoAck ms → (d : ℕ) → Each NoAck (sent_on (Some c) ms d)
sent-quiet c ms h d = sent-each (λ _ m. NoAck m) c ms h d

one-quiet : (c : ℕ) (m : Message) → NoAck m → (d : ℕ) → Each NoAck (sent_on (Some c) (m ∷ []) d)
one-quiet c m h d = sent-quiet c (m ∷ []) (each-one NoAck m h) d

-- a book call that fails brings no packet
failing-brings : (w : World) (c b : ℕ) (o : Option ReplicaEvent) → IfSome (taken_at w c b true o) (BringsIn w)
failing-brings w c b None = tt
failing-brings w c b (Some e) = tt

-- MEMBERS

-- what was taken was sent down
abbrev pub IsSent : Past → ℕ → Next → Type 0
IsSent h c (message m) = (i : ℕ) × (slice_get (h.downs c) i ≡ Some m)
IsSent h c the_end = Unit {0}

-- what a turn passes on was taken from above
abbrev Passes : World → ℕ → FullMember → Next → Turn → Type 0
Passes w c m x t = (d : ℕ) → Sets w.past d (new_stamp m.fields) → (f : Bool) → (f ≡ true → t.effect.forwards ≡ true) → Each (DownForwards w.past d) (passed f x)

sent-syncs : (l : Histories) (v : World) (c : ℕ) (f : WriteFields) (o : Option Upward) → IfSome o (λ u. UpSyncs l v c (upward_message f u)) → Each (UpSyncs l v c) (sent_up f o)
sent-syncs l v c f None h = each-nil (UpSyncs l v c)
sent-syncs l v c f (Some u) h = each-one (UpSyncs l v c) (upward_message f u) h

-- what follows a book call: what the turn sends goes up where it was taken, and nothing else
abbrev Settles : MemberState → Turn → Booked → Type 0
Settles m t b = ((settled m t b).1.sends ≡ None) ⊎ ((b ≡ booked.Taken) × ((settled m t b).1.sends ≡ t.effect.sends))

settles : (m : MemberState) (t : Turn) (b : Booked) → Settles m t b
settles m t booked.Taken = inr (refl, refl)
settles m t booked.Failed = inl refl
settles m t (booked.Refused r) = refused r
  where
    summed : (o : Option ReplicaEvent) → (bad_sum m o t).1.sends ≡ None
    summed (Some (replica_event.Packet conn p)) = refl
    summed (Some (replica_event.Other e)) = refl
    summed None = refl

    refused : (r : Refusal) → Settles m t (booked.Refused r)
    refused (refusal.BadSum chunk) = inl (summed t.call)
    refused _ = inl refl

-- the turn's call was taken: the replica and its history are those after it
record TookCall (h : Histories) (w : World) (c : ℕ) (m : FullMember) (turn : Turn) (o : Option TakenEvent) (s : Step) : Type 0 where
  pub replica : s.replica ≡ replica_after (At w c m) turn.call
  pub taken : outcome_of (At w c m) turn.call ≡ booked.Taken
  pub history : with_event h o (node_of w c) (block_of m.fields) ≡ history_after (h (node_of w c) (block_of m.fields)) turn.call

member-leaf : (g : Givens) (t : Ends) (h : Histories) (w : World) (c : ℕ) (m : FullMember) (x : Next) (turn : Turn) (o : Option TakenEvent) (s : Step) (b : Option Break) (out : Booked) → Knows g t h w c m → LowerSays w.past c (writes m) → TurnSyncs h w c m turn
    → s.effect ≡ (settled m.state turn out).1 → (out ≡ booked.Taken → TookCall h w c m turn o s) → Passes w c m x turn → IfSome o (BringsIn w) → LeafSyncs h w o (member_change w c m x s b)
member-leaf g t h w c m x turn o s b out a low tells ef took passes brings =
    let k = member_change w c m x s b in
    let v = apply w k in
    let z = settles m.state turn out in
    record {
      ups = λ on full. sent-each (UpSyncs (with_event h o) v) c (sent_up m.fields s.effect.sends) (sent-syncs (with_event h o) v c m.fields s.effect.sends
          (subst (λ (y : Effect). IfSome y.sends (λ u. UpSyncs (with_event h o) v c (upward_message m.fields u))) (sym ef)
          (up on (full (node_of w c) (block_of m.fields)) (after-at w k) (after-lives w k (node_of w c)) z)));
      downs = sent-if (DownForwards w.past) m.mirror (passed s.effect.forwards x) (some-weaker (λ d. Sets w.past d (new_stamp m.fields)) (λ d. Each (DownForwards w.past d) (passed s.effect.forwards x)) m.mirror
          (λ d q. passes d q s.effect.forwards (λ e. (follows m.state turn out).forwards (ap (λ (y : Effect). y.forwards) (sym ef) ∙ e))) low.mirror);
      dials = λ i d e. absurd (none-some d e);
      brings = brings;
      joins = λ p n l j. absurd (none-some _ j.there);
    }
  where
    l : Histories
    l = with_event h o

    v : World
    v = apply w (member_change w c m x s b)

    up : Later h l w v → IsFull (v.replicas (node_of w c) (block_of m.fields)) → v.replicas (node_of w c) (block_of m.fields) ≡ s.replica → v.lives (node_of w c) ≡ w.lives (node_of w c)
        → ((settled m.state turn out).1.sends ≡ None) ⊎ ((out ≡ booked.Taken) × ((settled m.state turn out).1.sends ≡ turn.effect.sends)) → IfSome (settled m.state turn out).1.sends (λ u. UpSyncs l v c (upward_message m.fields u))
    up on full at live (inl e) = subst (λ (y : Option Upward). IfSome y (λ u. UpSyncs l v c (upward_message m.fields u))) (sym e) tt
    up on full at live (inr y) =
        let q = took y.0 in
        subst (λ (z : Option Upward). IfSome z (λ u. UpSyncs l v c (upward_message m.fields u))) (sym y.1) (tells.sends l v (record { on = on; full = full; at = at ∙ q.replica; history = q.history; lives = live }) q.taken)

failed-not : booked.Failed ≡ booked.Taken → ⊥
failed-not e = cc

history-at : (h : Histories) (w : World) (c b : ℕ) (o : Option ReplicaEvent) → with_event h (taken_at w c b false o) (node_of w c) b ≡ history_after (h (node_of w c) b) o
history-at h w c b None = refl
history-at h w c b (Some e) = put-self h (node_of w c) b (more_events (h (node_of w c) b) e)

failing-leaf : (g : Givens) (t : Ends) (h : Histories) (w : World) (c : ℕ) (m : FullMember) (x : Next) (turn : Turn) (o : Option ReplicaEvent) → Knows g t h w c m → LowerSays w.past c (writes m) → TurnSyncs h w c m turn → Passes w c m x turn
    → IfSome (failing_turn w c m x turn o) (LeafSyncs h w (taken_at w c (block_of m.fields) true o))
failing-leaf g t h w c m x turn None a low tells passes = tt
failing-leaf g t h w c m x turn (Some e) a low tells passes =
    member-leaf g t h w c m x turn _ (faulted_step m.state (At w c m) turn) (broke_at w c (block_of m.fields) e) booked.Failed a low tells refl (λ q. absurd (failed-not q)) passes tt

turn-leaf : (g : Givens) (t : Ends) (h : Histories) (w : World) (c : ℕ) (m : FullMember) (x : Next) (turn : Turn) (fails : Bool) → Knows g t h w c m → LowerSays w.past c (writes m) → TurnSyncs h w c m turn → Passes w c m x turn
    → IfSome (taken_at w c (block_of m.fields) false turn.call) (BringsIn w) → IfSome (turn_change w c m x turn fails) (LeafSyncs h w (turn_event w c m turn fails))
turn-leaf g t h w c m x turn true a low tells passes brings = failing-leaf g t h w c m x turn turn.call a low tells passes
turn-leaf g t h w c m x turn false a low tells passes brings =
    member-leaf g t h w c m x turn (taken_at w c (block_of m.fields) false turn.call) (step m.state (At w c m) turn) (w.breaks (node_of w c) (block_of m.fields)) (outcome_of (At w c m) turn.call) a low tells refl
    (λ q. record { replica = refl; taken = q; history = history-at h w c (block_of m.fields) turn.call }) passes brings

-- turns that pass nothing on
quiet-passes : (w : World) (c : ℕ) (m : FullMember) (x : Next) (turn : Turn) → turn.effect.forwards ≡ false → Passes w c m x turn
quiet-passes w c m x turn q = λ d sets f e. go d f e
  where
    go : (d : ℕ) (f : Bool) → (f ≡ true → turn.effect.forwards ≡ true) → Each (DownForwards w.past d) (passed f x)
    go d false e = each-nil (DownForwards w.past d)
    go d true e = absurd (false≢true (sym q ∙ e refl))

-- an idle turn's call isn't a packet: that of a session that no stamp has
idle-brings : (w : World) (c b : ℕ) (t : Turn) → Idles t → IfSome (taken_at w c b false t.call) (BringsIn w)
idle-brings w c b t i = go t.call (i.call none_given no_past 0)
  where
    go : (o : Option ReplicaEvent) → IfSome o (Allows none_given no_past 0) → IfSome (taken_at w c b false o) (BringsIn w)
    go None x = tt
    go (Some (replica_event.Packet conn p)) x = absurd (none-some _ x.sets.first)
    go (Some (replica_event.Other (event.Create conn s q))) x = tt
    go (Some (replica_event.Other (event.Temporary conn s q))) x = tt
    go (Some (replica_event.Other (event.Append conn named new n))) x = tt
    go (Some (replica_event.Other (event.AppendRecovery conn named new n))) x = tt
    go (Some (replica_event.Other (event.StreamRecovery conn named new low high))) x = tt
    go (Some (replica_event.Other (event.CloseRecovery named new n))) x = tt
    go (Some (replica_event.Other (event.Packet conn seqno offset n sums last sync bad))) x = absurd x
    go (Some (replica_event.Other (event.Ack conn seqno good))) x = tt
    go (Some (replica_event.Other (event.Ended conn))) x = tt
    go (Some (replica_event.Other (event.Init named id))) x = tt
    go (Some (replica_event.Other (event.Update id n))) x = tt
    go (Some (replica_event.Other (event.Read named offset n))) x = tt
    go (Some (replica_event.Other (event.Give named offset n))) x = tt
    go (Some (replica_event.Other event.FileFault)) x = tt

not-heartbeat : (z : ℤ) (n : ℕ) → z ≡ pos n → int_eq z (negsuc 0) ≡ false
not-heartbeat z n e = subst (λ (y : ℤ). int_eq y (negsuc 0) ≡ false) (sym e) refl

packet-brings : (g : Givens) (t : Ends) (h : Histories) (w : World) (c : ℕ) (m : FullMember) (p : Packet) (n : ℕ) → Knows g t h w c m → p.seqno ≡ pos n → IsSent w.past c (message (packet p)) → Comes w.past (block_of m.fields) (At w c m) m.state.conn p
packet-brings g t h w c m p n a q sent = record {
  numbered = not-heartbeat p.seqno n q;
  came = λ i s is writes by. record {
    conn = c;
    fields = m.fields;
    asked = a.acts.tells.pipe.asked;
    block_is = refl;
    stamp_is = sym (written-stamp g t w c m i s a.acts is writes (by ∙ a.acts.conn));
    place = sent.0;
    there = sent.1;
  };
}

-- what is taken from above: a packet with a number
abbrev pub TakenNumber : Next → Type 0
TakenNumber (message (packet p)) = (n : ℕ) × (p.seqno ≡ pos n)
TakenNumber _ = Unit {0}

above-leaf : (g : Givens) (t : Ends) (h : Histories) (w : World) (c : ℕ) (m : FullMember) (x : Next) (fails : Bool) → Knows g t h w c m → LowerSays w.past c (writes m) → IsSent w.past c x → TakenNumber x
    → IfSome (turn_change w c m x (down_turn m.state (above_of x)) fails) (LeafSyncs h w (turn_event w c m (down_turn m.state (above_of x)) fails))
above-leaf g t h w c m (message (packet p)) fails a low sent n =
    turn-leaf g t h w c m (message (packet p)) (down_turn m.state (above.Packet p)) fails a low (down-syncs h w c m (above.Packet p)) (λ d sets f q. go d sets f) (packet-brings g t h w c m p n.0 a n.1 sent)
  where
    go : (d : ℕ) → Sets w.past d (new_stamp m.fields) → (f : Bool) → Each (DownForwards w.past d) (passed f (message (packet p)))
    go d sets false = each-nil (DownForwards w.past d)
    go d sets true = each-one (DownForwards w.past d) (packet p) (record { stamp = new_stamp m.fields; here = sets; conn = c; from = low.sets; place = sent.0; there = sent.1 })
above-leaf g t h w c m (message (request r)) fails a low sent n = turn-leaf g t h w c m (message (request r)) (down_turn m.state above.Unreadable) fails a low (down-syncs h w c m above.Unreadable) (quiet-passes w c m (message (request r)) (down_turn m.state above.Unreadable) refl) tt
above-leaf g t h w c m (message (ack r)) fails a low sent n = turn-leaf g t h w c m (message (ack r)) (down_turn m.state above.Unreadable) fails a low (down-syncs h w c m above.Unreadable) (quiet-passes w c m (message (ack r)) (down_turn m.state above.Unreadable) refl) tt
above-leaf g t h w c m (message (response r)) fails a low sent n = turn-leaf g t h w c m (message (response r)) (down_turn m.state above.Unreadable) fails a low (down-syncs h w c m above.Unreadable) (quiet-passes w c m (message (response r)) (down_turn m.state above.Unreadable) refl) tt
above-leaf g t h w c m (message (read_status r)) fails a low sent n = turn-leaf g t h w c m (message (read_status r)) (down_turn m.state above.Unreadable) fails a low (down-syncs h w c m above.Unreadable) (quiet-passes w c m (message (read_status r)) (down_turn m.state above.Unreadable) refl) tt
above-leaf g t h w c m (message (recovery_answer r)) fails a low sent n = turn-leaf g t h w c m (message (recovery_answer r)) (down_turn m.state above.Unreadable) fails a low (down-syncs h w c m above.Unreadable) (quiet-passes w c m (message (recovery_answer r)) (down_turn m.state above.Unreadable) refl) tt
above-leaf g t h w c m the_end fails a low sent n = turn-leaf g t h w c m the_end (down_turn m.state above.End) fails a low (down-syncs h w c m above.End) (quiet-passes w c m the_end (down_turn m.state above.End) refl) tt

up-leaf : (g : Givens) (t : Ends) (h : Histories) (w : World) (c d : ℕ) (m : FullMember) (x : Next) (fails : Bool) → Knows g t h w c m → LowerSays w.past c (writes m) → FromMirror w d m → HeardSyncs h w d x
    → IfSome (turn_change w c m x (up_turn m.state (oldest_at (At w c m)) (below_of x)) fails) (LeafSyncs h w (turn_event w c m (up_turn m.state (oldest_at (At w c m)) (below_of x)) fails))
up-leaf g t h w c d m x fails a low y u =
    let o = oldest_at (At w c m) in
    let i = up-idles m.state o (below_of x) in
    turn-leaf g t h w c m x (up_turn m.state o (below_of x)) fails a low (up-syncs g t h w c d m x a y u) (quiet-passes w c m x (up_turn m.state o (below_of x)) i.quiet) (idle-brings w c (block_of m.fields) (up_turn m.state o (below_of x)) i)

ready-as : (g : Givens) (t : Ends) (h : Histories) (w : World) (c : ℕ) (m : FullMember) (o : Option Turn) (fails : Bool) → Knows g t h w c m → LowerSays w.past c (writes m) → IfSome o Idles → IfSome o (TurnSyncs h w c m)
    → IfSome (ready_change w c m o fails) (LeafSyncs h w (turn_event_in w c m o fails))
ready-as g t h w c m None fails a low i tells = tt
ready-as g t h w c m (Some x) fails a low i tells = turn-leaf g t h w c m the_end x fails a low tells (quiet-passes w c m the_end x i.quiet) (idle-brings w c (block_of m.fields) x i)

ready-leaf : (g : Givens) (t : Ends) (h : Histories) (w : World) (c : ℕ) (m : FullMember) (fails : Bool) → Knows g t h w c m → LowerSays w.past c (writes m)
    → IfSome (ready_change w c m (ready_turn_at m.state (At w c m)) fails) (LeafSyncs h w (turn_event_in w c m (ready_turn_at m.state (At w c m)) fails))
ready-leaf g t h w c m fails a low =
    let r = At w c m in
    ready-as g t h w c m (ready_turn_at m.state r) fails a low (ready-idles m.state (oldest_at r) (is_written_by r.known.stream m.state.conn)) (ready-syncs g t h w c m (is_written_by r.known.stream m.state.conn) a)

-- WRITE REQUESTS

setup-plain : (conn : ConnId) (f : WriteFields) (r : Rule) (s : SetupKind) → NotPacket (setup_event conn f r s)
setup-plain conn f r kind.Create = tt
setup-plain conn f r kind.Append = tt
setup-plain conn f r kind.AppendRecovery = tt
setup-plain conn f r kind.StreamRecovery = tt
setup-plain conn f r kind.CloseRecovery = tt

request-plain : (conn : ConnId) (f : WriteFields) (e : Event) → IsRequest conn f e → NotPacket e
request-plain conn f e q = subst (λ (x : Event). NotPacket x) (sym q.is) (setup-plain conn f q.sums q.kind_of)

write-brings : (w : World) (c : ℕ) (f : WriteFields) (o : Result Event RequestRefusal) → IfOk o (IsRequest (record { 0 = c }) f) → IfSome (taken_at w c (block_of f) false (call_of o)) (BringsIn w)
write-brings w c f (Err x) q = tt
write-brings w c f (Ok e) q = request-plain (record { 0 = c }) f e q

sent-plain : (f : WriteFields) (o : Option Upward) → IfSome o (λ u. NoAck (upward_message f u)) → Each NoAck (sent_up f o)
sent-plain f None h = each-nil NoAck
sent-plain f (Some u) h = each-one NoAck (upward_message f u) h

set-up-plain : (conn : ConnId) (f : WriteFields) (asked : Bool) → IfSome (set_up conn f asked).1.sends (λ u. NoAck (upward_message f u))
unfolding set_up
set-up-plain conn f asked = at (mirror_for (length f.targets) asked)
  where
    at : (m : Mirror) → IfSome (set_up_at m f conn).1.sends (λ u. NoAck (upward_message f u))
    at mirror.Nobody = tt
    at mirror.Asked = tt
    at mirror.Unreachable = tt
    at mirror.Open = tt
    at mirror.Ended = tt

-- the recovery of a stream finds an RBW replica
record Opens (c : ReplicaRecord) (named new : Stamp) : Type 0 where
  pub info : ReplicaInfo
  pub is : c.info ≡ Some info
  pub rbw : is_rbw (state_of info) ≡ true
  pub low : named.0 ≤ info.stamp.0
  pub high : info.stamp.0 ≤ new.0
  pub sound : c.is_broken ≡ false

stream-finds : (i k : ReplicaInfo) (named new : Stamp) (low high : ℕ) → recover_stream i named new low high ≡ Ok k → (is_rbw (state_of i) ≡ true) × (named.0 ≤ i.stamp.0) × (i.stamp.0 ≤ new.0)
unfolding recover_stream
stream-finds i k named new low high e = grind (arith, nat_tests)

stream-opens : (c : ReplicaRecord) (conn : ConnId) (named new : Stamp) (low high : ℕ) → IfOk (stream_recovery_transition c conn named new low high) (λ _. Opens c named new)
stream-opens c conn named new low high =
    if_step (λ _. Opens c named new) (present c) _ (λ i there.
    if_step (λ _. Opens c named new) (recover_stream i named new low high) _ (λ j e.
    let p = present_is c i there in
    let x = stream-finds i j named new low high e in
    record { info = i; is = p.1; rbw = x.0; low = x.1; high = x.2; sound = p.0 }))

rbw-is : (o : Option Stamp) (s : ReplicaState) → is_rbw (state_under o s) ≡ true → (s ≡ state.Rbw) × (o ≡ None)
rbw-is (Some id) s e = absurd (false≢true e)
rbw-is None state.Rbw e = (refl, refl)
rbw-is None state.Temporary e = absurd (false≢true e)
rbw-is None state.Finalized e = absurd (false≢true e)
rbw-is None state.Rwr e = absurd (false≢true e)
rbw-is None state.Rur e = absurd (false≢true e)

-- of a request that was taken
request-opens : (r : FullReplica) (conn : ConnId) (f : WriteFields) (e : Event) (t : Taken) → (q : IsRequest conn f e) → transition r.known e ≡ Ok t → setup_with f.stage ≡ Some kind.StreamRecovery → FindsOpen r f
unfolding transition
request-opens r conn f e t q ok stage = go (subst (λ (o : Outcome). IfOk o (λ _. Opens r.known f.block.stamp f.latest)) is (stream-opens r.known conn f.block.stamp f.latest f.min f.max))
  where
    kind_is : q.kind_of ≡ kind.StreamRecovery
    kind_is = same_Some q.kind_of kind.StreamRecovery (sym q.stage ∙ stage)

    is : stream_recovery_transition r.known conn f.block.stamp f.latest f.min f.max ≡ Ok t
    is = sym (ap (λ (x : Event). transition r.known x) (q.is ∙ ap (λ (s : SetupKind). setup_event conn f q.sums s) kind_is)) ∙ ok

    go : Opens r.known f.block.stamp f.latest → FindsOpen r f
    go o =
        let z = rbw-is o.info.recovery o.info.original o.rbw in
        record { info = o.info; is = o.is; rbw = z.0; free = z.1; low = o.low; high = omega (arith, o.high, ap (λ (s : Option SetupKind). (stamp_set s f.block.stamp f.latest).0) stage); sound = o.sound }

refused-leaf : (h : Histories) (w : World) (c : ℕ) (f : WriteFields) (r : FullReplica) (q : RequestRefusal) (b : Option Break) (o : Option TakenEvent) → IfSome o (BringsIn w) → LeafSyncs h w o (setup_change w c f (refused_request r q) b)
refused-leaf h w c f r q b o brings = quiet-leaf h w o (setup_change w c f (refused_request r q) b) (sent-quiet c _ (sent-plain f (Some (upward.Answer (setup_answer.Refused q))) tt)) (λ _. refl) refl refl brings

failing-write-leaf : (h : Histories) (w : World) (c : ℕ) (f : WriteFields) (o : Result Event RequestRefusal) → IfSome (failing_write w c f o) (LeafSyncs h w (taken_at w c (block_of f) true (call_of o)))
failing-write-leaf h w c f (Err x) = tt
failing-write-leaf h w c f (Ok e) = refused-leaf h w c f _ request_refusal.File (broke_at w c (block_of f) (replica_event.Other e)) _ tt

abbrev Asks : World → ℕ → WriteFields → Setup → Change
Asks w c f s = setup_change w c f s (w.breaks (node_of w c) (block_of f))

-- a setup that was taken
taken-leaf : (h : Histories) (w : World) (c : ℕ) (f : WriteFields) (asked : Bool) (r : FullReplica) (o : Option TakenEvent) → Asked w.past c f → w.running (node_of w c) ≡ true → w.lives (node_of w c) ≡ (w.dialled c).to.life → option_map (λ (i : ReplicaInfo). i.stamp) r.known.info ≡ Some (new_stamp f)
    → (setup_with f.stage ≡ Some kind.StreamRecovery → FindsOpen (replica_at w c (block_of f)) f) → IfSome o (BringsIn w) → LeafSyncs h w o (Asks w c f (booked_request (record { 0 = c }) f asked r None))
taken-leaf h w c f asked r o first runs alive stamp opens brings =
    let k = Asks w c f (booked_request (record { 0 = c }) f asked r None) in
    record {
      ups = λ _ _ d. record { at = λ i m e. no-ack (with_event h o) (apply w k) d m ((sent-quiet c (sent_up f (set_up (record { 0 = c }) f asked).1.sends) (sent-plain f (set_up (record { 0 = c }) f asked).1.sends (set-up-plain (record { 0 = c }) f asked)) d).at i m e) };
      downs = λ d. each-nil (DownForwards w.past d);
      dials = λ i d e. dialled d (member-dial w c f (set_up (record { 0 = c }) f asked).0.mirror i d e);
      brings = brings;
      joins = λ t n l j. joined t n l (subst (λ xs. Has xs (joined_as t n l)) (ap (λ (s : Option Stamp). joined_at (w.dialled c).to s) stamp) j);
    }
  where
    dialled : (d : Dial) → DialsMirror w c f d → DialCopies w.past d.request
    dialled d x = subst (λ (m : Message). DialCopies w.past m) (sym x.request_is) (record { conn = c; fields = f; asked = first; source = x.source; rest = x.rest; is = refl })

    joined : (t n l : ℕ) → Has (joined_as (new_stamp f).0 (node_of w c) (w.dialled c).to.life ∷ []) (joined_as t n l) → JoinsBy w (Asks w c f (booked_request (record { 0 = c }) f asked r None)) t n l
    joined t n l j = at j.place j.there
      where
        at : (i : ℕ) → slice_get (joined_as (new_stamp f).0 (node_of w c) (w.dialled c).to.life ∷ []) i ≡ Some (joined_as t n l) → JoinsBy w (Asks w c f (booked_request (record { 0 = c }) f asked r None)) t n l
        at zero e =
            let y = same_Some (joined_as (new_stamp f).0 (node_of w c) (w.dialled c).to.life) (joined_as t n l) e in
            record {
              conn = c;
              fields = f;
              asked = first;
              is = ap (λ (z : Joined). z.stamp) y;
              node = sym (ap (λ (z : Joined). z.node) y);
              block = refl;
              life = sym (ap (λ (z : Joined). z.life) y) ∙ sym alive ∙ ap (λ (z : Joined). w.lives z.node) y;
              runs = subst (λ (z : ℕ). w.running z ≡ true) (ap (λ (z : Joined). z.node) y) runs;
              opens = opens;
              updates = refl;
            }
        at (suc i) e = absurd (none-some _ e)

outcome-leaf : (h : Histories) (w : World) (c : ℕ) (f : WriteFields) (asked : Bool) (e : Event) (o : Outcome) → transition (replica_at w c (block_of f)).known e ≡ o → Asked w.past c f → w.running (node_of w c) ≡ true → w.lives (node_of w c) ≡ (w.dialled c).to.life → (q : IsRequest (record { 0 = c }) f e)
    → SetOr q.kind_of (new_stamp f) (promised f) (replica_at w c (block_of f)).known.is_broken o → (r : FullReplica) → r.known ≡ record_after (replica_at w c (block_of f)).known o
    → LeafSyncs h w (Some (record { node = node_of w c; block = block_of f; event = replica_event.Other e })) (Asks w c f (booked_request (record { 0 = c }) f asked r (refused_by (core.answer_of (core.reply o)))))
outcome-leaf h w c f asked e (Err x) is first runs alive q z r k = refused-leaf h w c f r (request_refusal.Core x) _ _ (request-plain (record { 0 = c }) f e q)
outcome-leaf h w c f asked e (Ok t) is first runs alive q z r k =
    subst (λ (a : Option RequestRefusal). LeafSyncs h w (Some (record { node = node_of w c; block = block_of f; event = replica_event.Other e })) (Asks w c f (booked_request (record { 0 = c }) f asked r a))) (sym (ap refused_by z.done))
    (taken-leaf h w c f asked r _ first runs alive (ap (λ (d : ReplicaRecord). option_map (λ (i : ReplicaInfo). i.stamp) d.info) k ∙ ap (λ (y : Option ReplicaInfo). option_map (λ (i : ReplicaInfo). i.stamp) y) z.set.is ∙ ap (λ (s : Stamp). Some s) z.set.under)
    (λ stage. request-opens (replica_at w c (block_of f)) (record { 0 = c }) f e t q is stage) (request-plain (record { 0 = c }) f e q))

requested-leaf : (h : Histories) (w : World) (c : ℕ) (f : WriteFields) (asked : Bool) (o : Result Event RequestRefusal) → Asked w.past c f → w.running (node_of w c) ≡ true → w.lives (node_of w c) ≡ (w.dialled c).to.life → IfOk o (IsRequest (record { 0 = c }) f)
    → LeafSyncs h w (taken_at w c (block_of f) false (call_of o)) (Asks w c f (request_at (record { 0 = c }) f asked (replica_at w c (block_of f)) o))
requested-leaf h w c f asked (Err x) first runs alive q = refused-leaf h w c f (replica_at w c (block_of f)) x _ None tt
requested-leaf h w c f asked (Ok e) first runs alive q =
    outcome-leaf h w c f asked e (transition (replica_at w c (block_of f)).known e) refl first runs alive q (request-set (replica_at w c (block_of f)).known (record { 0 = c }) f e q) (row (replica_at w c (block_of f)) (replica_event.Other e)) refl

write-leaf : (h : Histories) (w : World) (c : ℕ) (f : WriteFields) (answered fails : Bool) → Asked w.past c f → w.running (node_of w c) ≡ true → w.lives (node_of w c) ≡ (w.dialled c).to.life → IfSome (write_request w c f answered fails) (LeafSyncs h w (first_event w c (request (op.Write f)) fails))
write-leaf h w c f answered true first runs alive = failing-write-leaf h w c f (request_event (record { 0 = c }) f (rule_in (replica_at w c (block_of f)).known))
write-leaf h w c f answered false first runs alive =
    requested-leaf h w c f (is_asked w c f answered) (request_event (record { 0 = c }) f (rule_in (replica_at w c (block_of f)).known)) first runs alive (request-is (record { 0 = c }) f (rule_in (replica_at w c (block_of f)).known))

-- READS

-- an event that is no packet
plain-brings : {E : Type 0} (w : World) (c b : ℕ) (o : Result Event E) → IfOk o NotPacket → IfSome (taken_at w c b false (call_of o)) (BringsIn w)
plain-brings w c b (Err x) q = tt
plain-brings w c b (Ok e) q = q

read-plain : (q : ReadOp) → IfOk (read_event q) NotPacket
unfolding read_event
read-plain q = if-each (λ (o : Result Event RequestRefusal). IfOk o NotPacket) (is_in_pool q.block) _ _ (λ _. tt) (λ _. tt)

call-plain : (w : World) (c b : ℕ) (s : ServingState) (p : ServePhase) → IfSome (taken_at w c b false (call_in (call_at p s))) (BringsIn w)
call-plain w c b s serving.Sending = tt
call-plain w c b s serving.Awaiting = tt
call-plain w c b s serving.Over = tt

closing-leaf : (h : Histories) (w : World) (c : ℕ) (o : Option TakenEvent) → IfSome o (BringsIn w) → LeafSyncs h w o (closing w c)
closing-leaf h w c o brings = quiet-leaf h w o (closing w c) (λ d. each-nil NoAck) (λ _. refl) refl refl brings

unless-leaf : (h : Histories) (w : World) (fails : Bool) (c : ℕ) → IfSome (unless_failing fails (closing w c)) (LeafSyncs h w None)
unless-leaf h w true c = tt
unless-leaf h w false c = closing-leaf h w c None tt

breaking-leaf : (h : Histories) (w : World) (c b : ℕ) (r : FullReplica) (e : ReplicaEvent) (ms : List Message) (o : Option TakenEvent) → Each NoAck ms → IfSome o (BringsIn w) → LeafSyncs h w o (breaking w c b r e ms)
breaking-leaf h w c b r e ms o acks brings = quiet-leaf h w o (breaking w c b r e ms) (sent-quiet c ms acks) (λ _. refl) refl refl brings

failing-read-leaf : (h : Histories) (w : World) (c b : ℕ) (o : Result Event RequestRefusal) → IfSome (failing_read w c b o) (LeafSyncs h w (taken_at w c b true (call_of o)))
failing-read-leaf h w c b (Err r) = tt
failing-read-leaf h w c b (Ok e) = breaking-leaf h w c b _ (replica_event.Other e) _ _ (each-one NoAck _ tt) tt

read-change-leaf : (h : Histories) (w : World) (c b : ℕ) (o : Option TakenEvent) (s : Result ServingState RequestRefusal) → IfSome o (BringsIn w) → LeafSyncs h w o (read_change w c b s)
read-change-leaf h w c b o (Ok s) brings = quiet-leaf h w o (read_change w c b (Ok s)) (one-quiet c _ tt) (λ _. refl) refl refl brings
read-change-leaf h w c b o (Err r) brings = quiet-leaf h w o (read_change w c b (Err r)) (one-quiet c _ tt) (λ _. refl) refl refl brings

read-leaf : (h : Histories) (w : World) (c : ℕ) (r : ReadOp) (fails : Bool) → IfSome (read_request w c r fails) (LeafSyncs h w (first_event w c (request (op.Read r)) fails))
read-leaf h w c r true = failing-read-leaf h w c r.block.block.0 (read_event r)
read-leaf h w c r false = read-change-leaf h w c r.block.block.0 _ (read_at r (replica_at w c r.block.block.0)) (plain-brings w c r.block.block.0 (read_event r) (read-plain r))

piece-leaf : (h : Histories) (w : World) (c b : ℕ) (s : ServingState) (p : Option Packet) (o : Option TakenEvent) → IfSome o (BringsIn w) → LeafSyncs h w o (piece_as w c b s p)
piece-leaf h w c b s None o brings = closing-leaf h w c o brings
piece-leaf h w c b s (Some p) o brings = quiet-leaf h w o (piece_as w c b s (Some p)) (one-quiet c _ tt) (λ _. refl) refl refl brings

serve-leaf : (h : Histories) (w : World) (c b : ℕ) (s : ServingState) (o : Option Event) (fails : Bool) → IfSome (taken_at w c b false (call_in o)) (BringsIn w) → IfSome (serve_change w c b s o fails) (LeafSyncs h w (taken_at w c b fails (call_in o)))
serve-leaf h w c b s None fails brings = tt
serve-leaf h w c b s (Some e) true brings = breaking-leaf h w c b _ (replica_event.Other e) [] _ (each-nil NoAck) tt
serve-leaf h w c b s (Some e) false brings = piece-leaf h w c b (piece_at s (replica_at w c b)).serving (piece_at s (replica_at w c b)).packet _ brings

-- RECOVERIES

init-plain : (b : Bool) (named id : Stamp) → IfOk (if b then Err no_recovery else Ok (event.Init named id)) NotPacket
init-plain true named id = tt
init-plain false named id = tt

step-plain : (k : RecoveryKind) (q : RecoveryOp) → IfOk (step_event k q) NotPacket
step-plain recovery_kind.Begin q = tt
step-plain recovery_kind.Init q = init-plain (q.recovery.0 == 0) q.block.stamp q.recovery
step-plain recovery_kind.Update q = tt

recovery-plain : (q : RecoveryOp) → IfOk (recovery_event q) NotPacket
unfolding recovery_event
recovery-plain q = if-each (λ (e : Result Event RecoveryReply). IfOk e NotPacket) (is_in_pool q.block) (step_event q.kind q) _ (λ _. step-plain q.kind q) (λ _. tt)

recovered-leaf : (h : Histories) (w : World) (c : ℕ) (q : RecoveryOp) (s : Served) (b : Option Break) (o : Option TakenEvent) → IfSome o (BringsIn w) → LeafSyncs h w o (recovery_change w c q s b)
recovered-leaf h w c q s b o brings = quiet-leaf h w o (recovery_change w c q s b) (one-quiet c _ tt) (λ _. refl) refl refl brings

failing-recovery-leaf : (h : Histories) (w : World) (c : ℕ) (q : RecoveryOp) (e : Result Event RecoveryReply) → IfSome (failing_recovery w c q e) (LeafSyncs h w (taken_at w c q.block.block.0 true (call_of e)))
failing-recovery-leaf h w c q (Err said) = tt
failing-recovery-leaf h w c q (Ok e) = recovered-leaf h w c q _ _ _ tt

recovery-leaf : (h : Histories) (w : World) (c : ℕ) (q : RecoveryOp) (fails : Bool) → IfSome (recovery_request w c q fails) (LeafSyncs h w (taken_at w c q.block.block.0 fails (call_of (recovery_event q))))
recovery-leaf h w c q true = failing-recovery-leaf h w c q (recovery_event q)
recovery-leaf h w c q false = recovered-leaf h w c q _ _ _ (plain-brings w c q.block.block.0 (recovery_event q) (recovery-plain q))

-- LOWER ENDS

request-leaf : (h : Histories) (w : World) (c : ℕ) (o : Op) (answered fails : Bool) → ((f : WriteFields) → o ≡ op.Write f → Asked w.past c f) → w.running (node_of w c) ≡ true → w.lives (node_of w c) ≡ (w.dialled c).to.life → IfSome (first_message w c (request o) answered fails) (LeafSyncs h w (first_event w c (request o) fails))
request-leaf h w c (op.Write f) answered fails first runs alive = write-leaf h w c f answered fails (first f refl) runs alive
request-leaf h w c (op.Read r) answered fails first runs alive = read-leaf h w c r fails
request-leaf h w c (op.Recovery q) answered fails first runs alive = recovery-leaf h w c q fails
request-leaf h w c (op.Transfer r) answered fails first runs alive = unless-leaf h w fails c
request-leaf h w c (op.Checksum r) answered fails first runs alive = unless-leaf h w fails c

first-leaf : (h : Histories) (w : World) (c : ℕ) (m : Message) (answered fails : Bool) → ((f : WriteFields) → m ≡ request (op.Write f) → Asked w.past c f) → w.running (node_of w c) ≡ true → w.lives (node_of w c) ≡ (w.dialled c).to.life → IfSome (first_message w c m answered fails) (LeafSyncs h w (first_event w c m fails))
first-leaf h w c (request o) answered fails first runs alive = request-leaf h w c o answered fails (λ f e. first f (ap (λ (x : Op). request x) e)) runs alive
first-leaf h w c (packet p) answered fails first runs alive = unless-leaf h w fails c
first-leaf h w c (ack a) answered fails first runs alive = unless-leaf h w fails c
first-leaf h w c (response r) answered fails first runs alive = unless-leaf h w fails c
first-leaf h w c (read_status s) answered fails first runs alive = unless-leaf h w fails c
first-leaf h w c (recovery_answer a) answered fails first runs alive = unless-leaf h w fails c

next-op-leaf : (h : Histories) (w : World) (c : ℕ) (o : Op) (fails : Bool) → IfSome (next_recovery w c (message (request o)) fails) (LeafSyncs h w (recovery_next w c (message (request o)) fails))
next-op-leaf h w c (op.Write f) fails = unless-leaf h w fails c
next-op-leaf h w c (op.Read r) fails = unless-leaf h w fails c
next-op-leaf h w c (op.Recovery q) fails = recovery-leaf h w c q fails
next-op-leaf h w c (op.Transfer r) fails = unless-leaf h w fails c
next-op-leaf h w c (op.Checksum r) fails = unless-leaf h w fails c

next-leaf : (h : Histories) (w : World) (c : ℕ) (x : Next) (fails : Bool) → IfSome (next_recovery w c x fails) (LeafSyncs h w (recovery_next w c x fails))
next-leaf h w c (message (request o)) fails = next-op-leaf h w c o fails
next-leaf h w c (message (packet p)) fails = unless-leaf h w fails c
next-leaf h w c (message (ack a)) fails = unless-leaf h w fails c
next-leaf h w c (message (response r)) fails = unless-leaf h w fails c
next-leaf h w c (message (read_status s)) fails = unless-leaf h w fails c
next-leaf h w c (message (recovery_answer a)) fails = unless-leaf h w fails c
next-leaf h w c the_end fails = unless-leaf h w fails c

-- what is known of the world before
pub record Syncing (g : Givens) (t : Ends) (h : Histories) (w : World) : Type 0 where
  pub known : Known g t w
  pub awaits : AllAwait h w
  pub replays : (n b : ℕ) → Replays (h n b) (w.replicas n b)

knows-of : (g : Givens) (t : Ends) (h : Histories) (w : World) (c : ℕ) (m : FullMember) → Syncing g t h w → w.lowers c ≡ writes m → w.lives (node_of w c) ≡ (w.dialled c).to.life → Knows g t h w c m × LowerSays w.past c (writes m)
knows-of g t h w c m s e alive =
    let low : LowerSays w.past c (writes m) = subst (λ (x : Lower). LowerSays w.past c x) e (s.known.facts.carried.lowers c) in
    (record { acts = record { known = s.known; tells = subst (λ (x : Lower). LowerTells g w c x) e (s.known.acked.lowers c); conn = low.conn; alive = alive }; awaits = s.awaits; replays = s.replays }, low)

pub lower-down-leaf : (l : Lower) (g : Givens) (t : Ends) (h : Histories) (w : World) (c : ℕ) (x : Next) (answered fails : Bool) → Syncing g t h w → w.lowers c ≡ l → w.running (node_of w c) ≡ true → w.lives (node_of w c) ≡ (w.dialled c).to.life → IsSent w.past c x → TakenNumber x
    → ((f : WriteFields) → x ≡ message (request (op.Write f)) → Asked w.past c f) → IfSome (lower_down l w c x answered fails) (LeafSyncs h w (lower_event l w c x fails))
lower-down-leaf idle g t h w c (message m) answered fails s e runs alive sent n first = first-leaf h w c m answered fails (λ f q. first f (ap (λ (y : Message). message y) q)) runs alive
lower-down-leaf idle g t h w c the_end answered fails s e runs alive sent n first = unless-leaf h w fails c
lower-down-leaf (writes m) g t h w c x answered fails s e runs alive sent n first =
    let a = knows-of g t h w c m s e alive in when-each (LeafSyncs h w _) (takes_next m.state (pending_at w c m) x) _ (λ _. above-leaf g t h w c m x fails a.0 a.1 sent n)
lower-down-leaf (serves b y) g t h w c x answered fails s e runs alive sent n first = unless-leaf h w fails c
lower-down-leaf recovers g t h w c x answered fails s e runs alive sent n first = next-leaf h w c x fails
lower-down-leaf ended_below g t h w c x answered fails s e runs alive sent n first = tt

pub lower-ready-leaf : (l : Lower) (g : Givens) (t : Ends) (h : Histories) (w : World) (c : ℕ) (fails : Bool) → Syncing g t h w → w.lowers c ≡ l → w.lives (node_of w c) ≡ (w.dialled c).to.life → IfSome (lower_ready l w c fails) (LeafSyncs h w (acting_event l w c fails))
lower-ready-leaf idle g t h w c fails s e alive = tt
lower-ready-leaf (writes m) g t h w c fails s e alive = let a = knows-of g t h w c m s e alive in ready-leaf g t h w c m fails a.0 a.1
lower-ready-leaf (serves b y) g t h w c fails s e alive = serve-leaf h w c b y (next_call y) fails (call-plain w c b y y.phase)
lower-ready-leaf recovers g t h w c fails s e alive = tt
lower-ready-leaf ended_below g t h w c fails s e alive = tt

pub mirror-leaf : (l : Lower) (g : Givens) (t : Ends) (h : Histories) (w : World) (d c : ℕ) (x : Next) (fails : Bool) → Syncing g t h w → w.lowers d ≡ l → (is_alive w (w.dialled d).to ≡ true → w.lives (node_of w d) ≡ (w.dialled d).to.life) → Mirrors w.past d c → HeardSyncs h w c x
    → IfSome (mirror_up l w d x fails) (LeafSyncs h w (mirror_event l w d x fails))
mirror-leaf idle g t h w d c x fails s e alive m n = tt
mirror-leaf (writes y) g t h w d c x fails s e alive m n =
    when-each (LeafSyncs h w _) (is_alive w (w.dialled d).to) _ (λ z.
    let a = knows-of g t h w d y s e (alive z) in
    when-each (LeafSyncs h w _) (hears y.state) _ (λ _. up-leaf g t h w d c y x fails a.0 a.1 (from-mirror w d c y a.0.acts.tells.pipe.asked m) n))
mirror-leaf (serves b q) g t h w d c x fails s e alive m n = tt
mirror-leaf recovers g t h w d c x fails s e alive m n = tt
mirror-leaf ended_below g t h w d c x fails s e alive m n = tt
