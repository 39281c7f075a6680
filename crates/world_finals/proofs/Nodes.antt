-- What lower ends make of FINALIZED replicas.
use Rattle.std.proofs.Common.{◌≡◌, ℕ, zero, suc, ◌<◌, ◌+◌, ◌⊎◌, inl, inr, Bool, true, false, List, [], length, slice_get, Option, Some, None, IfSome, Result, Ok, Err, IfOk, refl, sym, ◌∙◌, ap, subst}
use Rattle.std.specs.Prelude.{◌==◌, nat_le, if◌then◌else◌}
use Rattle.std.proofs.lemmas.Bool.{false≢true}
use Rattle.std.proofs.lemmas.Option.{none-some, same_Some}
use Rattle.hd_base.specs.Results.{◌>>=◌}
use Rattle.hd_base.specs.SumRules.{Rule}
use Rattle.hd_base.specs.declared.numbers.ConnId.{ConnId}
use Rattle.hd_base.specs.declared.numbers.Stamp.{Stamp}
use Rattle.op_headers.specs.declared.ops.Op.{Op}
use Rattle.op_headers.specs.declared.ops.Op.TheVariants as op
use Rattle.op_headers.specs.declared.ops.ReadOp.{ReadOp}
use Rattle.op_headers.specs.declared.ops.RecoveryKind.{RecoveryKind}
use Rattle.op_headers.specs.declared.ops.RecoveryKind.TheVariants as recovery_kind
use Rattle.op_headers.specs.declared.ops.RecoveryOp.{RecoveryOp}
use Rattle.op_headers.specs.Values.{WriteFields}
use Rattle.node_refs.specs.NodeRefs.{ref_of}
use Rattle.packet_codec.specs.declared.packets.Packet.{Packet}
use Rattle.packet_stream.specs.Streams.{packet_end}
use Rattle.replica_core.specs.declared.events.Event.{Event}
use Rattle.replica_core.specs.declared.events.Event.TheVariants as event
use Rattle.replica_core.specs.declared.info.ReplicaInfo.{ReplicaInfo}
use Rattle.replica_core.specs.declared.records.ReplicaRecord.{ReplicaRecord}
use Rattle.replica_core.specs.declared.streams.Stream.{Stream}
use Rattle.name_core.specs.Offices.{OfficeState}
use Rattle.replica_core.specs.Transitions.{is_written_by}
use Rattle.replica_core.proofs.InfoLemmas.{stream_by_is}
use Rattle.replica_core.specs.Views.{rule_in}
use Rattle.replica_model.specs.declared.events.ReplicaEvent.{ReplicaEvent}
use Rattle.replica_model.specs.declared.events.ReplicaEvent.TheVariants as replica_event
use Rattle.replica_model.specs.Rows.{FullReplica, event_at, row, broken}
use Rattle.request_refusals.specs.declared.refusals.RequestRefusal.{RequestRefusal}
use Rattle.request_refusals.specs.declared.refusals.RequestRefusal.TheVariants as refusal
use Rattle.request_refusals.specs.Pools.{is_in_pool}
use Rattle.member_core.specs.declared.member.Mirror.{Mirror}
use Rattle.member_core.specs.declared.member.Mirror.TheVariants as mirror
use Rattle.member_core.specs.declared.requests.SetupKind.{SetupKind}
use Rattle.member_core.specs.declared.requests.SetupKind.TheVariants as kind
use Rattle.member_core.specs.declared.requests.TheConstants.{MAX_BELOW}
use Rattle.member_core.specs.declared.turns.Turn.{Turn}
use Rattle.member_core.specs.Members.{MemberState, down_turn, up_turn, hears}
use Rattle.member_core.specs.Requests.{setup_with, rule_for, named_setup, named_rule, setup_event, mirror_request, request_event}
use Rattle.member_core.specs.Steps.{Step, Setup, step, faulted_step, replica_after, outcome_of, request_at, request_step, booked_request, faulted_request, oldest_at, ready_turn_at}
use Rattle.world.specs.ReadCore.Servings.{ServingState, read_at, read_event, next_call, call_at, piece_at}
use Rattle.world.specs.ReadCore.ServePhase.{ServePhase}
use Rattle.world.specs.ReadCore.ServePhase.TheVariants as serve_phase
use Rattle.recovery_core.specs.declared.members.RecoveryReply.{RecoveryReply}
use Rattle.recovery_core.specs.Members.{no_recovery, step_event, recovery_event, served_as, serve_faulted}
use Rattle.world.specs.Parts.{Message, request, packet, ack, response, read_status, recovery_answer, FullMember, Lower, idle, writes, serves, recovers, ended_below, Writing, Primary, Break}
use Rattle.world.specs.Worlds.{World, Dial, Change, apply}
use Rattle.world.specs.Connections.{Next, message, the_end, is_alive}
use Rattle.world.specs.Nodes.{node_of, replica_at, block_of, first_break, broke_at, closing, unless_failing, above_of, below_of, passed, member_change, failing_turn, turn_change, pending_at, takes_next, member_down, member_up, ready_change, mirror_node, is_asked, mirror_dial, dials_of, member_dials, setup_change, failing_write, write_request, breaking, read_change, failing_read, read_request, piece_as, serve_change, recovery_change, failing_recovery, recovery_request, first_message, next_recovery, lower_down, lower_ready, mirror_up}
use Rattle.world_laws.proofs.FactTables.{if-each, when-each, some-weaker}
use Rattle.world_laws.specs.Stamping.{Givens, heard}
use Rattle.world_laws.specs.Carrying.{new_stamp, stamp_set, Sets, Holds, SetFor, MemberSays, LowerSays}
use Rattle.world_laws.proofs.ByteFrame.{Each, each-nil, each-one}
use Rattle.world_laws.proofs.ByteLeaves.{Facts, Beside, sent-if}
use Rattle.world_laws.proofs.ByteRows.{sets-once}
use Rattle.world_laws.proofs.ByteTurns.{up-idles, follows}
use Rattle.world_laws.proofs.ByteAsking.{IsOn, mirror-on}
use Rattle.world_recoveries.specs.Recovering.{Updates, HasId, Recovering}
use Rattle.world_recoveries.proofs.Laws.{keep-finalized}
use Rattle.world_recoveries.proofs.Lowers.{SentDown}
use Rattle.world_finals.specs.Finishing.{Ids, writes_no_more, EndsAt, AcksFrom, WriteEnds, LastEnds, DownEnds, ReplicaEnds, BreakEnds, SetsNoId, WriterEnds, Finals}
use Rattle.world_finals.proofs.Rows.{Ended, EventEnds, Before, Leaves, event-leaves}
use Rattle.world_finals.proofs.Frame.{Ends, StampBelow, replica-stays, break-stays, leaves, acks-kept, latest-stays, down-stays, down-below, News, stays-so}
use Rattle.world_finals.proofs.Idle.{IsIdle, Idle, up-idle, ready-idle}

-- WHAT A NODE'S CHANGE MAKES

pub record NodeEnds (f : Ids) (g : Givens) (w : World) (k : Change) : Type 0 where
  pub replica : ReplicaEnds f g w k.block k.replica
  pub broke : IfSome k.broke (BreakEnds f g w k.block)
  pub downs : (c : ℕ) → Each (λ m. StampBelow w m × DownEnds f g w c m) (k.downs c)
  pub dials : (j : ℕ) (d : Dial) → slice_get k.dials j ≡ Some d → (c : ℕ) → StampBelow w d.request × DownEnds f g w c d.request

pub record Makes (f : Ids) (g : Givens) (w : World) (k : Change) : Type 0 where
  pub beside : Beside w k
  pub ends : NodeEnds f g w k

pub beside-ends : (w : World) (k : Change) → Beside w k → Ends w k
beside-ends w k b = record { stamped = b.stamped; shuts = λ e. ap (λ (x : Writing). writes_no_more (heard x).phase) b.writer ∙ e; bytes = inl b.bytes }

pub makes-news : (f : Ids) (g : Givens) (w : World) (k : Change) → Finals f g w → Facts g w → Makes f g w k → News f g w k
makes-news f g w k h a n =
    let s = stays-so f g w k h a (beside-ends w k n.beside) in
    let v = apply w k in
    let o = leaves f g w k h s n.beside.office n.beside.primary in
    record {
      replica = replica-stays f g w f g v k.block k.replica s n.ends.replica;
      broke = some-weaker (BreakEnds f g w k.block) (BreakEnds f g v k.block) k.broke (λ x z. break-stays f g w f g v k.block x s z) n.ends.broke;
      downs = λ c j m e. let x = (n.ends.downs c).at j m e in down-stays f g w f g v c m s x.0 x.1;
      dials = λ j d e. let x = n.ends.dials j d e (w.next_conn + j) in down-stays f g w f g v (w.next_conn + j) d.request s x.0 x.1;
      writer = subst (λ (x : Writing). WriterEnds (heard x)) (sym n.beside.writer) (h.writers k.writer_at);
      stamp = subst (λ (x : Writing). SetsNoId f (heard x).phase) (sym n.beside.writer) (h.stamps k.writer_at);
      primary = λ id x. h.primaries k.primary_at id (subst (λ (y : Primary). HasId y id) n.beside.primary x);
      below = λ t e. subst (λ (o : OfficeState). t < o.next.0) (sym n.beside.office) (h.below t e);
      earlier = h.earlier;
      sends = o.sends;
      entries = o.entries;
      sessions = o.sessions;
      acks = acks-kept f g w f g k h s (latest-stays w k n.beside.stamped) (subst (λ (x : Writing). AcksFrom f g w k.writer_at (w.latest k.writer_at) (heard x)) (sym n.beside.writer) (h.acks k.writer_at));
    }

-- what is known where a lower end takes something
pub record Known (f : Ids) (g : Givens) (w : World) : Type 0 where
  pub finals : Finals f g w
  pub facts : Facts g w

-- REPLICAS

ended-of : (f : Ids) (g : Givens) (w : World) (b : ℕ) (r : FullReplica) → ReplicaEnds f g w b r → Ended f g w b r.known
ended-of f g w b r h = record { final = h.final; last = h.last }

replica-of : (f : Ids) (g : Givens) (w : World) (b : ℕ) (r : FullReplica) → Ended f g w b r.known → ReplicaEnds f g w b r
replica-of f g w b r h = record { final = h.final; last = h.last }

before-at : (f : Ids) (g : Givens) (w : World) (n b : ℕ) → Known f g w → Before f g w b (w.replicas n b).known
before-at f g w n b h = record {
  ended = ended-of f g w b (w.replicas n b) (h.finals.replicas n b);
  sound = (h.facts.full n b).sound;
  no_id = λ i s e q.
      let x : Sets w.past s.conn.0 i.stamp = subst (λ (o : Option ReplicaInfo). IfSome o (λ j. Sets w.past s.conn.0 j.stamp)) e
      (subst (λ (o : Option Stream). IfSome o (SetFor w.past (w.replicas n b).known.info)) q (h.facts.carried.replicas n b).stream) in
      let y : WriteEnds f g w x.fields = h.finals.downs s.conn.0 0 (request (op.Write x.fields)) x.first in
      ap (λ (t : Stamp). f t.0) (sym x.is) ∙ y.no_id;
}

-- what an event needs at a replica
abbrev pub Books : Ids → Givens → World → ℕ → FullReplica → ReplicaEvent → Type 0
Books f g w b r e = EventEnds f g w b r.known (event_at r e)

row-leaves : (f : Ids) (g : Givens) (w : World) (n b : ℕ) (e : ReplicaEvent) → Known f g w → Books f g w b (w.replicas n b) e → Leaves f g w b (w.replicas n b).known (row (w.replicas n b) e).known
row-leaves f g w n b e h k = event-leaves f g w b (w.replicas n b).known (event_at (w.replicas n b) e) (before-at f g w n b h) k

row-ends : (f : Ids) (g : Givens) (w : World) (n b : ℕ) (e : ReplicaEvent) → Known f g w → Books f g w b (w.replicas n b) e → ReplicaEnds f g w b (row (w.replicas n b) e)
row-ends f g w n b e h k = replica-of f g w b (row (w.replicas n b) e) (row-leaves f g w n b e h k).ended

broken-ends : (f : Ids) (g : Givens) (w : World) (n b : ℕ) → Known f g w → ReplicaEnds f g w b (broken (w.replicas n b))
broken-ends f g w n b h = row-ends f g w n b (replica_event.Other event.FileFault) h tt

broke-ends : (f : Ids) (g : Givens) (w : World) (c b : ℕ) (e : ReplicaEvent) → Known f g w → Books f g w b (replica_at w c b) e → IfSome (broke_at w c b e) (BreakEnds f g w b)
broke-ends f g w c b e h k = go (w.breaks (node_of w c) b) (h.finals.breaks (node_of w c) b)
  where
    go : (o : Option Break) → IfSome o (BreakEnds f g w b) → IfSome (first_break o (replica_at w c b) e) (BreakEnds f g w b)
    go None x = let l = row-leaves f g w (node_of w c) b e h k in record { before = (h.finals.replicas (node_of w c) b).final; after = l.ended.final; keeps = l.keeps }
    go (Some y) x = x

-- A change that sends and dials nothing down.
plain : (f : Ids) (g : Givens) (w : World) (k : Change) → Beside w k → ReplicaEnds f g w k.block k.replica → IfSome k.broke (BreakEnds f g w k.block) → ((c : ℕ) → k.downs c ≡ []) → k.dials ≡ [] → Makes f g w k
plain f g w k b r x d s = record {
  beside = b;
  ends = record {
    replica = r;
    broke = x;
    downs = λ c. subst (λ (ms : List Message). Each (λ m. StampBelow w m × DownEnds f g w c m) ms) (sym (d c)) (each-nil (λ m. StampBelow w m × DownEnds f g w c m));
    dials = λ j y e. absurd (none-some y (sym (ap (λ (ds : List Dial). slice_get ds j) s) ∙ e));
  };
}

-- MEMBERS

-- a message that goes on to the mirror
passes-on : (f : Ids) (g : Givens) (w : World) (c d : ℕ) (t : Stamp) (m : Message) → Sets w.past c t → Sets w.past d t → DownEnds f g w c m → DownEnds f g w d m
passes-on f g w c d t (packet p) s u h = λ l. let x = h l in record { stamp = x.stamp; sets = subst (λ (y : Stamp). Sets w.past d y) (sets-once w.past c t x.stamp s x.sets) u; block = x.block; ends = x.ends }
passes-on f g w c d t (request (op.Write q)) s u h = h
passes-on f g w c d t (request (op.Recovery q)) s u h = h
passes-on f g w c d t (request (op.Read r)) s u h = tt
passes-on f g w c d t (request (op.Transfer r)) s u h = tt
passes-on f g w c d t (request (op.Checksum r)) s u h = tt
passes-on f g w c d t (ack a) s u h = tt
passes-on f g w c d t (response r) s u h = tt
passes-on f g w c d t (read_status r) s u h = tt
passes-on f g w c d t (recovery_answer a) s u h = tt

-- what is taken from above
abbrev pub NextEnds : Ids → Givens → World → ℕ → Next → Type 0
NextEnds f g w c (message m) = StampBelow w m × DownEnds f g w c m
NextEnds f g w c the_end = Unit {0}

-- what is passed on is of the connection that it came on, or nothing
abbrev Passes : Ids → Givens → World → ℕ → List Message → Type 0
Passes f g w c ms = Each (λ m. StampBelow w m × DownEnds f g w c m) ms

passed-from : (f : Ids) (g : Givens) (w : World) (c : ℕ) (b : Bool) (x : Next) → NextEnds f g w c x → Passes f g w c (passed b x)
passed-from f g w c true (message m) h = each-one (λ m. StampBelow w m × DownEnds f g w c m) m h
passed-from f g w c true the_end h = each-nil (λ m. StampBelow w m × DownEnds f g w c m)
passed-from f g w c false x h = each-nil (λ m. StampBelow w m × DownEnds f g w c m)

passed-none : (f : Ids) (g : Givens) (w : World) (c : ℕ) (b : Bool) (x : Next) → (b ≡ true → ⊥) → Passes f g w c (passed b x)
passed-none f g w c true x h = absurd (h refl)
passed-none f g w c false x h = each-nil (λ m. StampBelow w m × DownEnds f g w c m)

each-on : (f : Ids) (g : Givens) (w : World) (c d : ℕ) (t : Stamp) (ms : List Message) → Sets w.past c t → Sets w.past d t → Passes f g w c ms → Passes f g w d ms
each-on f g w c d t ms s u h = record { at = λ i m e. let x = h.at i m e in (x.0, passes-on f g w c d t m s u x.1) }

member-makes : (f : Ids) (g : Givens) (w : World) (c : ℕ) (m : FullMember) (x : Next) (s : Step) (b : Option Break) → MemberSays w.past c m → Passes f g w c (passed s.effect.forwards x) → ReplicaEnds f g w (block_of m.fields) s.replica
    → IfSome b (BreakEnds f g w (block_of m.fields)) → Makes f g w (member_change w c m x s b)
member-makes f g w c m x s b h p r k = record {
  beside = record { office = refl; stamped = refl; writer = refl; bytes = refl; primary = refl };
  ends = record {
    replica = r;
    broke = k;
    downs = sent-if (λ d y. StampBelow w y × DownEnds f g w d y) m.mirror (passed s.effect.forwards x)
        (some-weaker (λ d. Sets w.past d (new_stamp m.fields)) (λ d. Passes f g w d (passed s.effect.forwards x)) m.mirror (λ d t. each-on f g w c d (new_stamp m.fields) (passed s.effect.forwards x) h.sets t p) h.mirror);
    dials = λ j d e. absurd (none-some d e);
  };
}

-- what a turn books
abbrev Turns : Ids → Givens → World → ℕ → FullMember → Option ReplicaEvent → Type 0
Turns f g w c m o = IfSome o (Books f g w (block_of m.fields) (replica_at w c (block_of m.fields)))

failing-makes : (f : Ids) (g : Givens) (w : World) (c : ℕ) (m : FullMember) (x : Next) (t : Turn) (o : Option ReplicaEvent) → Known f g w → MemberSays w.past c m → ((b : Bool) → Passes f g w c (passed b x) ⊎ ((faulted_step m.state (replica_at w c (block_of m.fields)) t).effect.forwards ≡ true → ⊥))
    → Turns f g w c m o → IfSome (failing_turn w c m x t o) (Makes f g w)
failing-makes f g w c m x t None h k p n = tt
failing-makes f g w c m x t (Some e) h k p n =
    let b = block_of m.fields in
    let s = faulted_step m.state (replica_at w c b) t in
    member-makes f g w c m x s (broke_at w c b e) k (pick (p s.effect.forwards)) (broken-ends f g w (node_of w c) b h) (broke-ends f g w c b e h n)
  where
    pick : Passes f g w c (passed (faulted_step m.state (replica_at w c (block_of m.fields)) t).effect.forwards x) ⊎ ((faulted_step m.state (replica_at w c (block_of m.fields)) t).effect.forwards ≡ true → ⊥)
        → Passes f g w c (passed (faulted_step m.state (replica_at w c (block_of m.fields)) t).effect.forwards x)
    pick (inl y) = y
    pick (inr y) = passed-none f g w c _ x y

after-ends : (f : Ids) (g : Givens) (w : World) (n b : ℕ) (o : Option ReplicaEvent) → Known f g w → IfSome o (Books f g w b (w.replicas n b)) → ReplicaEnds f g w b (replica_after (w.replicas n b) o)
after-ends f g w n b None h k = h.finals.replicas n b
after-ends f g w n b (Some e) h k = row-ends f g w n b e h k

turn-makes : (f : Ids) (g : Givens) (w : World) (c : ℕ) (m : FullMember) (x : Next) (t : Turn) (fails : Bool) → Known f g w → MemberSays w.past c m → ((b : Bool) → (b ≡ true → t.effect.forwards ≡ true) → Passes f g w c (passed b x))
    → Turns f g w c m t.call → IfSome (turn_change w c m x t fails) (Makes f g w)
turn-makes f g w c m x t true h k p n =
    failing-makes f g w c m x t t.call h k (λ b. inr (λ e. false≢true e)) n
turn-makes f g w c m x t false h k p n =
    let b = block_of m.fields in
    let r = replica_at w c b in
    member-makes f g w c m x (step m.state r t) (w.breaks (node_of w c) b) k (p (step m.state r t).effect.forwards (follows m.state t (outcome_of r t.call)).forwards)
    (after-ends f g w (node_of w c) b t.call h n) (h.finals.breaks (node_of w c) b)

idle-books : (f : Ids) (g : Givens) (w : World) (b : ℕ) (r : FullReplica) (e : ReplicaEvent) → IsIdle e → Books f g w b r e
idle-books f g w b r (replica_event.Other (event.Ack conn seqno good)) i = tt
idle-books f g w b r (replica_event.Other (event.Ended conn)) i = tt
idle-books f g w b r (replica_event.Packet conn p) i = absurd i
idle-books f g w b r (replica_event.Other (event.Create conn t q)) i = absurd i
idle-books f g w b r (replica_event.Other (event.Temporary conn t q)) i = absurd i
idle-books f g w b r (replica_event.Other (event.Append conn named new n)) i = absurd i
idle-books f g w b r (replica_event.Other (event.AppendRecovery conn named new n)) i = absurd i
idle-books f g w b r (replica_event.Other (event.StreamRecovery conn named new low high)) i = absurd i
idle-books f g w b r (replica_event.Other (event.CloseRecovery named new n)) i = absurd i
idle-books f g w b r (replica_event.Other (event.Packet conn seqno offset n sums last sync bad)) i = absurd i
idle-books f g w b r (replica_event.Other (event.Init named id)) i = absurd i
idle-books f g w b r (replica_event.Other (event.Update id n)) i = absurd i
idle-books f g w b r (replica_event.Other (event.Read named offset n)) i = absurd i
idle-books f g w b r (replica_event.Other (event.Give named offset n)) i = absurd i
idle-books f g w b r (replica_event.Other event.FileFault) i = absurd i

idle-turns : (f : Ids) (g : Givens) (w : World) (c : ℕ) (m : FullMember) (t : Turn) → Idle t → Turns f g w c m t.call
idle-turns f g w c m t i = some-weaker IsIdle (Books f g w (block_of m.fields) (replica_at w c (block_of m.fields))) t.call (λ e x. idle-books f g w (block_of m.fields) (replica_at w c (block_of m.fields)) e x) i

-- the last packet, at the replica that its connection writes
packet-books : (f : Ids) (g : Givens) (w : World) (c : ℕ) (m : FullMember) (p : Packet) → Known f g w → MemberSays w.past c m → (p.last ≡ true → LastEnds g w c p) → Books f g w (block_of m.fields) (replica_at w c (block_of m.fields)) (replica_event.Packet m.state.conn p)
packet-books f g w c m p h k n = λ l i s is st.
    let b = block_of m.fields in
    let x = n l in
    let at = stream_by_is (replica_at w c b).known.stream m.state.conn s st in
    let own : Sets w.past s.conn.0 i.stamp = subst (λ (o : Option ReplicaInfo). IfSome o (λ j. Sets w.past s.conn.0 j.stamp)) is
    (subst (λ (o : Option Stream). IfSome o (SetFor w.past (replica_at w c b).known.info)) at.0 (h.facts.carried.replicas (node_of w c) b).stream) in
    let stamp : x.stamp ≡ i.stamp = sets-once w.past c x.stamp i.stamp x.sets (subst (λ (d : ℕ). Sets w.past d i.stamp) (at.1 ∙ k.conn) own) in
    let y : Holds g w.past b (replica_at w c b).bytes i = subst (λ (o : Option ReplicaInfo). IfSome o (Holds g w.past b (replica_at w c b).bytes)) is (h.facts.carried.replicas (node_of w c) b).info in
    let ends : EndsAt g w x.block i.stamp.0 (packet_end p) = subst (λ (t : Stamp). EndsAt g w x.block t.0 (packet_end p)) stamp x.ends in
    let same : x.block ≡ b = h.facts.recorded.one x.block b i.stamp.0 ends.session y.under.session ends.given y.under.given in
    subst (λ (d : ℕ). EndsAt g w d i.stamp.0 (packet_end p)) same ends

taken-books : (f : Ids) (g : Givens) (w : World) (c : ℕ) (m : FullMember) (x : Next) → Known f g w → MemberSays w.past c m → NextEnds f g w c x → Turns f g w c m (down_turn m.state (above_of x)).call
taken-books f g w c m (message (packet p)) h k n = packet-books f g w c m p h k n.1
taken-books f g w c m (message (request o)) h k n = tt
taken-books f g w c m (message (ack a)) h k n = tt
taken-books f g w c m (message (response r)) h k n = tt
taken-books f g w c m (message (read_status r)) h k n = tt
taken-books f g w c m (message (recovery_answer a)) h k n = tt
taken-books f g w c m the_end h k n = tt

down-makes : (f : Ids) (g : Givens) (w : World) (c : ℕ) (m : FullMember) (x : Next) (fails : Bool) → Known f g w → MemberSays w.past c m → NextEnds f g w c x → IfSome (member_down w c m x fails) (Makes f g w)
down-makes f g w c m x fails h k n =
    when-each (Makes f g w) (takes_next m.state (pending_at w c m) x) _ (λ _. turn-makes f g w c m x (down_turn m.state (above_of x)) fails h k (λ b _. passed-from f g w c b x n) (taken-books f g w c m x h k n))

up-makes : (f : Ids) (g : Givens) (w : World) (c : ℕ) (m : FullMember) (x : Next) (fails : Bool) → Known f g w → MemberSays w.past c m → IfSome (member_up w c m x fails) (Makes f g w)
up-makes f g w c m x fails h k =
    let o = oldest_at (replica_at w c (block_of m.fields)) in
    let t = up_turn m.state o (below_of x) in
    when-each (Makes f g w) (hears m.state) _ (λ _. turn-makes f g w c m x t fails h k
    (λ b e. passed-none f g w c b x (λ q. false≢true (sym (up-idles m.state o (below_of x)).quiet ∙ e q))) (idle-turns f g w c m t (up-idle m.state o (below_of x))))

ready-as : (f : Ids) (g : Givens) (w : World) (c : ℕ) (m : FullMember) (o : Option Turn) (fails : Bool) → Known f g w → MemberSays w.past c m → IfSome o Idle → IfSome (ready_change w c m o fails) (Makes f g w)
ready-as f g w c m None fails h k i = tt
ready-as f g w c m (Some t) fails h k i = turn-makes f g w c m the_end t fails h k (λ b _. passed-from f g w c b the_end tt) (idle-turns f g w c m t i)

-- WRITE REQUESTS

abbrev SetBooks : Ids → Givens → World → ℕ → FullReplica → Result Event RequestRefusal → Type 0
SetBooks f g w b r e = IfOk e (λ x. EventEnds f g w b r.known x)

kind-books : (f : Ids) (g : Givens) (w : World) (r : FullReplica) (conn : ConnId) (q : WriteFields) (sums : Rule) (s : SetupKind) → WriteEnds f g w q → setup_with q.stage ≡ Some s → EventEnds f g w q.block.block.0 r.known (setup_event conn q sums s)
kind-books f g w r conn q sums kind.Create h e = tt
kind-books f g w r conn q sums kind.Append h e = tt
kind-books f g w r conn q sums kind.AppendRecovery h e = tt
kind-books f g w r conn q sums kind.StreamRecovery h e = tt
kind-books f g w r conn q sums kind.CloseRecovery h e =
    let at : new_stamp q ≡ q.latest = ap (λ (o : Option SetupKind). stamp_set o q.block.stamp q.latest) e in
    (sym (ap (λ (t : Stamp). f t.0) at) ∙ h.no_id, subst (λ (t : Stamp). EndsAt g w q.block.block.0 t.0 q.min) at (h.closes e))

checked-books : (f : Ids) (g : Givens) (w : World) (b : ℕ) (r : FullReplica) (t : Bool) (x : RequestRefusal) (e : Result Event RequestRefusal) → SetBooks f g w b r e → SetBooks f g w b r (if t then e else Err x)
checked-books f g w b r true x e h = h
checked-books f g w b r false x e h = tt

few-books : (f : Ids) (g : Givens) (w : World) (r : FullReplica) (conn : ConnId) (q : WriteFields) (s : SetupKind) (o : Option Rule) → WriteEnds f g w q → setup_with q.stage ≡ Some s
    → SetBooks f g w q.block.block.0 r (named_rule q o >>= (λ sums. if nat_le (length q.targets) MAX_BELOW then Ok (setup_event conn q sums s) else Err (refusal.TooMany (length q.targets))))
few-books f g w r conn q s None h e = tt
few-books f g w r conn q s (Some u) h e = checked-books f g w q.block.block.0 r (nat_le (length q.targets) MAX_BELOW) _ (Ok (setup_event conn q u s)) (kind-books f g w r conn q u s h e)

named-books : (f : Ids) (g : Givens) (w : World) (r : FullReplica) (conn : ConnId) (q : WriteFields) (held : Option Rule) (o : Option SetupKind) → WriteEnds f g w q → setup_with q.stage ≡ o
    → SetBooks f g w q.block.block.0 r (named_setup q.stage o >>= (λ kind. named_rule q (rule_for q held) >>= (λ sums. if nat_le (length q.targets) MAX_BELOW then Ok (setup_event conn q sums kind) else Err (refusal.TooMany (length q.targets)))))
named-books f g w r conn q held None h e = tt
named-books f g w r conn q held (Some s) h e = few-books f g w r conn q s (rule_for q held) h e

request-books : (f : Ids) (g : Givens) (w : World) (r : FullReplica) (conn : ConnId) (q : WriteFields) (held : Option Rule) → WriteEnds f g w q → SetBooks f g w q.block.block.0 r (request_event conn q held)
unfolding request_event
request-books f g w r conn q held h = checked-books f g w q.block.block.0 r (is_in_pool q.block) refusal.Pool _ (named-books f g w r conn q held (setup_with q.stage) h refl)

-- the request that goes on to the mirror
abbrev DialEnds : Ids → Givens → World → List Dial → Type 0
DialEnds f g w ds = (j : ℕ) (d : Dial) → slice_get ds j ≡ Some d → (c : ℕ) → StampBelow w d.request × DownEnds f g w c d.request

no-dials : (f : Ids) (g : Givens) (w : World) → DialEnds f g w []
no-dials f g w j d e = absurd (none-some d e)

mirror-ends : (f : Ids) (g : Givens) (w : World) (c : ℕ) (q : WriteFields) (o : Option WriteFields) (n : Option ℕ) → WriteEnds f g w q → (new_stamp q).0 < w.office.next.0 → ((d : WriteFields) → o ≡ Some d → IsOn q d) → DialEnds f g w (mirror_dial w c o n)
mirror-ends f g w c q None n h lt on = no-dials f g w
mirror-ends f g w c q (Some d) None h lt on = no-dials f g w
mirror-ends f g w c q (Some d) (Some n) h lt on = one
  where
    same : ((new_stamp d).0 < w.office.next.0) × WriteEnds f g w d
    same = subst (λ (x : WriteFields). ((new_stamp x).0 < w.office.next.0) × WriteEnds f g w x) (sym (on d refl).is) (lt, record { no_id = h.no_id; session = h.session; given = h.given; past = h.past; closes = h.closes; own = h.own; opens = h.opens })

    one : DialEnds f g w (mirror_dial w c (Some d) (Some n))
    one zero y e x = subst (λ (z : Dial). StampBelow w z.request × DownEnds f g w x z.request) (same_Some _ y e) same
    one (suc j) y e x = absurd (none-some y e)

dials-ends : (f : Ids) (g : Givens) (w : World) (c : ℕ) (q : WriteFields) (m : Mirror) → WriteEnds f g w q → (new_stamp q).0 < w.office.next.0 → DialEnds f g w (dials_of m w c q)
dials-ends f g w c q mirror.Asked h lt = let source = ref_of (record { 0 = node_of w c }) in mirror-ends f g w c q (mirror_request source q) (mirror_node q.targets) h lt (λ d e. mirror-on source q d e)
dials-ends f g w c q mirror.Nobody h lt = no-dials f g w
dials-ends f g w c q mirror.Unreachable h lt = no-dials f g w
dials-ends f g w c q mirror.Open h lt = no-dials f g w
dials-ends f g w c q mirror.Ended h lt = no-dials f g w

member-dials-ends : (f : Ids) (g : Givens) (w : World) (c : ℕ) (q : WriteFields) (o : Option MemberState) → WriteEnds f g w q → (new_stamp q).0 < w.office.next.0 → DialEnds f g w (member_dials o w c q)
member-dials-ends f g w c q None h lt = no-dials f g w
member-dials-ends f g w c q (Some m) h lt = dials-ends f g w c q m.mirror h lt

setup-makes : (f : Ids) (g : Givens) (w : World) (c : ℕ) (q : WriteFields) (s : Setup) (b : Option Break) → WriteEnds f g w q → (new_stamp q).0 < w.office.next.0 → ReplicaEnds f g w (block_of q) s.replica → IfSome b (BreakEnds f g w (block_of q)) → Makes f g w (setup_change w c q s b)
setup-makes f g w c q s b h lt r k = record {
  beside = record { office = refl; stamped = refl; writer = refl; bytes = refl; primary = refl };
  ends = record { replica = r; broke = k; downs = λ d. each-nil (λ m. StampBelow w m × DownEnds f g w d m); dials = member-dials-ends f g w c q s.member h lt };
}

booked-ends : (f : Ids) (g : Givens) (w : World) (b : ℕ) (conn : ConnId) (q : WriteFields) (asked : Bool) (r : FullReplica) (o : Option RequestRefusal) → ReplicaEnds f g w b r → ReplicaEnds f g w b (booked_request conn q asked r o).replica
booked-ends f g w b conn q asked r None h = h
booked-ends f g w b conn q asked r (Some x) h = h

requested-ends : (f : Ids) (g : Givens) (w : World) (n b : ℕ) (conn : ConnId) (q : WriteFields) (asked : Bool) (e : Result Event RequestRefusal) → Known f g w → SetBooks f g w b (w.replicas n b) e → ReplicaEnds f g w b (request_at conn q asked (w.replicas n b) e).replica
requested-ends f g w n b conn q asked (Err x) h k = h.finals.replicas n b
requested-ends f g w n b conn q asked (Ok e) h k = booked-ends f g w b conn q asked (row (w.replicas n b) (replica_event.Other e)) _ (row-ends f g w n b (replica_event.Other e) h k)

failing-write-makes : (f : Ids) (g : Givens) (w : World) (c : ℕ) (q : WriteFields) (e : Result Event RequestRefusal) → Known f g w → WriteEnds f g w q → (new_stamp q).0 < w.office.next.0 → SetBooks f g w (block_of q) (replica_at w c (block_of q)) e → IfSome (failing_write w c q e) (Makes f g w)
failing-write-makes f g w c q (Err x) h n lt k = tt
failing-write-makes f g w c q (Ok e) h n lt k =
    setup-makes f g w c q (faulted_request (replica_at w c (block_of q))) (broke_at w c (block_of q) (replica_event.Other e)) n lt (broken-ends f g w (node_of w c) (block_of q) h) (broke-ends f g w c (block_of q) (replica_event.Other e) h k)

write-makes : (f : Ids) (g : Givens) (w : World) (c : ℕ) (q : WriteFields) (answered fails : Bool) → Known f g w → WriteEnds f g w q → (new_stamp q).0 < w.office.next.0 → IfSome (write_request w c q answered fails) (Makes f g w)
write-makes f g w c q answered true h n lt =
    let r = replica_at w c (block_of q) in
    failing-write-makes f g w c q (request_event (record { 0 = c }) q (rule_in r.known)) h n lt (request-books f g w r (record { 0 = c }) q (rule_in r.known) n)
write-makes f g w c q answered false h n lt =
    let r = replica_at w c (block_of q) in
    let e = request_event (record { 0 = c }) q (rule_in r.known) in
    setup-makes f g w c q (request_step (record { 0 = c }) q (is_asked w c q answered) r) (w.breaks (node_of w c) (block_of q)) n lt
    (requested-ends f g w (node_of w c) (block_of q) (record { 0 = c }) q (is_asked w c q answered) e h (request-books f g w r (record { 0 = c }) q (rule_in r.known) n)) (h.finals.breaks (node_of w c) (block_of q))

-- READS

closing-makes : (f : Ids) (g : Givens) (w : World) (c : ℕ) → Known f g w → Makes f g w (closing w c)
closing-makes f g w c h = plain f g w (closing w c) (record { office = refl; stamped = refl; writer = refl; bytes = refl; primary = refl }) (h.finals.replicas 0 0) (h.finals.breaks 0 0) (λ _. refl) refl

unless-makes : (f : Ids) (g : Givens) (w : World) (fails : Bool) (c : ℕ) → Known f g w → IfSome (unless_failing fails (closing w c)) (Makes f g w)
unless-makes f g w true c h = tt
unless-makes f g w false c h = closing-makes f g w c h

read-change-makes : (f : Ids) (g : Givens) (w : World) (c b : ℕ) (s : Result ServingState RequestRefusal) → Known f g w → Makes f g w (read_change w c b s)
read-change-makes f g w c b (Ok s) h = plain f g w (read_change w c b (Ok s)) (record { office = refl; stamped = refl; writer = refl; bytes = refl; primary = refl }) (h.finals.replicas 0 0) (h.finals.breaks 0 0) (λ _. refl) refl
read-change-makes f g w c b (Err r) h = plain f g w (read_change w c b (Err r)) (record { office = refl; stamped = refl; writer = refl; bytes = refl; primary = refl }) (h.finals.replicas 0 0) (h.finals.breaks 0 0) (λ _. refl) refl

-- an event of a read
abbrev IsRead : Event → Type 0
IsRead (event.Read named offset n) = Unit {0}
IsRead _ = ⊥

read-is : (f : Ids) (g : Givens) (w : World) (b : ℕ) (c : ReplicaRecord) (e : Event) → IsRead e → EventEnds f g w b c e
read-is f g w b c (event.Read named offset n) i = tt
read-is f g w b c (event.Create conn t q) i = absurd i
read-is f g w b c (event.Temporary conn t q) i = absurd i
read-is f g w b c (event.Append conn named new n) i = absurd i
read-is f g w b c (event.AppendRecovery conn named new n) i = absurd i
read-is f g w b c (event.StreamRecovery conn named new low high) i = absurd i
read-is f g w b c (event.CloseRecovery named new n) i = absurd i
read-is f g w b c (event.Packet conn seqno offset n sums last sync bad) i = absurd i
read-is f g w b c (event.Ack conn seqno good) i = absurd i
read-is f g w b c (event.Ended conn) i = absurd i
read-is f g w b c (event.Init named id) i = absurd i
read-is f g w b c (event.Update id n) i = absurd i
read-is f g w b c (event.Give named offset n) i = absurd i
read-is f g w b c event.FileFault i = absurd i

breaking-makes : (f : Ids) (g : Givens) (w : World) (c b : ℕ) (e : Event) (ms : List Message) → Known f g w → EventEnds f g w b (replica_at w c b).known e → Makes f g w (breaking w c b (broken (replica_at w c b)) (replica_event.Other e) ms)
breaking-makes f g w c b e ms h k =
    plain f g w (breaking w c b (broken (replica_at w c b)) (replica_event.Other e) ms) (record { office = refl; stamped = refl; writer = refl; bytes = refl; primary = refl }) (broken-ends f g w (node_of w c) b h) (broke-ends f g w c b (replica_event.Other e) h k) (λ _. refl) refl

failing-read-makes : (f : Ids) (g : Givens) (w : World) (c b : ℕ) (e : Result Event RequestRefusal) → Known f g w → IfOk e IsRead → IfSome (failing_read w c b e) (Makes f g w)
failing-read-makes f g w c b (Err r) h k = tt
failing-read-makes f g w c b (Ok e) h k = breaking-makes f g w c b e _ h (read-is f g w b (replica_at w c b).known e k)

read-reads : (r : ReadOp) → IfOk (read_event r) IsRead
unfolding read_event
read-reads r = if-each (λ (e : Result Event RequestRefusal). IfOk e IsRead) (is_in_pool r.block) (Ok (event.Read r.block.stamp r.offset r.len)) (Err refusal.Pool) (λ _. tt) (λ _. tt)

read-makes : (f : Ids) (g : Givens) (w : World) (c : ℕ) (r : ReadOp) (fails : Bool) → Known f g w → IfSome (read_request w c r fails) (Makes f g w)
read-makes f g w c r true h = failing-read-makes f g w c r.block.block.0 (read_event r) h (read-reads r)
read-makes f g w c r false h = read-change-makes f g w c r.block.block.0 (read_at r (replica_at w c r.block.block.0)) h

piece-makes : (f : Ids) (g : Givens) (w : World) (c b : ℕ) (s : ServingState) (o : Option Packet) → Known f g w → Makes f g w (piece_as w c b s o)
piece-makes f g w c b s None h = closing-makes f g w c h
piece-makes f g w c b s (Some p) h = plain f g w (piece_as w c b s (Some p)) (record { office = refl; stamped = refl; writer = refl; bytes = refl; primary = refl }) (h.finals.replicas 0 0) (h.finals.breaks 0 0) (λ _. refl) refl

serve-makes : (f : Ids) (g : Givens) (w : World) (c b : ℕ) (s : ServingState) (o : Option Event) (fails : Bool) → Known f g w → IfSome o IsRead → IfSome (serve_change w c b s o fails) (Makes f g w)
serve-makes f g w c b s None fails h k = tt
serve-makes f g w c b s (Some e) true h k = breaking-makes f g w c b e [] h (read-is f g w b (replica_at w c b).known e k)
serve-makes f g w c b s (Some e) false h k = piece-makes f g w c b (piece_at s (replica_at w c b)).serving (piece_at s (replica_at w c b)).packet h

serving-reads : (q : ServePhase) (s : ServingState) → IfSome (call_at q s) IsRead
serving-reads serve_phase.Sending s = tt
serving-reads serve_phase.Awaiting s = tt
serving-reads serve_phase.Over s = tt

-- RECOVERIES

-- a request that was sent to a node in the life that it is in
pub record Taking (f : Ids) (g : Givens) (w : World) (c : ℕ) : Type 0 where
  pub known : Known f g w
  pub recovering : Recovering g w
  pub life : w.lives (node_of w c) ≡ (w.dialled c).to.life

abbrev StepEnds : Ids → Givens → World → ℕ → RecoveryOp → Result Event RecoveryReply → Type 0
StepEnds f g w c q e = IfOk e (λ x. EventEnds f g w q.block.block.0 (replica_at w c q.block.block.0).known x)

init-ends : (f : Ids) (g : Givens) (w : World) (c : ℕ) (q : RecoveryOp) (b : Bool) → StepEnds f g w c q (if b then Err no_recovery else Ok (event.Init q.block.stamp q.recovery))
init-ends f g w c q true = tt
init-ends f g w c q false = tt

kind-ends : (f : Ids) (g : Givens) (w : World) (c j : ℕ) (q : RecoveryOp) (k : RecoveryKind) → Taking f g w c → slice_get (w.downs c) j ≡ Some (request (op.Recovery q)) → f q.recovery.0 ≡ true → q.kind ≡ k → StepEnds f g w c q (step_event k q)
kind-ends f g w c j q recovery_kind.Begin h e i k = tt
kind-ends f g w c j q recovery_kind.Init h e i k = init-ends f g w c q (q.recovery.0 == 0)
kind-ends f g w c j q recovery_kind.Update h e i k =
    let u : Updates w.past c q.block.block.0 q.recovery q.new_length = record { asked = q; place = j; there = e; is_update = k; block = refl; recovery = refl; length = refl } in
    (i, (c, q.block.block.0, u), λ y is held a. (keep-finalized g w h.recovering c q.block.block.0 q.recovery q.new_length y u (sym h.life) is held).1 a)

pool-ends : (f : Ids) (g : Givens) (w : World) (c : ℕ) (q : RecoveryOp) (b : Bool) (x : RecoveryReply) (e : Result Event RecoveryReply) → StepEnds f g w c q e → StepEnds f g w c q (if b then e else Err x)
pool-ends f g w c q true x e h = h
pool-ends f g w c q false x e h = tt

event-ends : (f : Ids) (g : Givens) (w : World) (c j : ℕ) (q : RecoveryOp) → Taking f g w c → slice_get (w.downs c) j ≡ Some (request (op.Recovery q)) → f q.recovery.0 ≡ true → StepEnds f g w c q (recovery_event q)
unfolding recovery_event
event-ends f g w c j q h e i = pool-ends f g w c q (is_in_pool q.block) _ (step_event q.kind q) (kind-ends f g w c j q q.kind h e i refl)

served-makes : (f : Ids) (g : Givens) (w : World) (c : ℕ) (q : RecoveryOp) (e : Result Event RecoveryReply) → Known f g w → StepEnds f g w c q e → Makes f g w (recovery_change w c q (served_as (replica_at w c q.block.block.0) e) (w.breaks (node_of w c) q.block.block.0))
served-makes f g w c q (Err said) h k =
    plain f g w _ (record { office = refl; stamped = refl; writer = refl; bytes = refl; primary = refl }) (h.finals.replicas (node_of w c) q.block.block.0) (h.finals.breaks (node_of w c) q.block.block.0) (λ _. refl) refl
served-makes f g w c q (Ok e) h k =
    plain f g w _ (record { office = refl; stamped = refl; writer = refl; bytes = refl; primary = refl }) (row-ends f g w (node_of w c) q.block.block.0 (replica_event.Other e) h k) (h.finals.breaks (node_of w c) q.block.block.0) (λ _. refl) refl

failing-recovery-makes : (f : Ids) (g : Givens) (w : World) (c : ℕ) (q : RecoveryOp) (e : Result Event RecoveryReply) → Known f g w → StepEnds f g w c q e → IfSome (failing_recovery w c q e) (Makes f g w)
failing-recovery-makes f g w c q (Err said) h k = tt
failing-recovery-makes f g w c q (Ok e) h k =
    let b = q.block.block.0 in
    plain f g w (recovery_change w c q (serve_faulted (replica_at w c b)) (broke_at w c b (replica_event.Other e))) (record { office = refl; stamped = refl; writer = refl; bytes = refl; primary = refl }) (broken-ends f g w (node_of w c) b h) (broke-ends f g w c b (replica_event.Other e) h k) (λ _. refl) refl

recovery-makes : (f : Ids) (g : Givens) (w : World) (c : ℕ) (q : RecoveryOp) (fails : Bool) → Taking f g w c → SentDown w.past c (message (request (op.Recovery q))) → IfSome (recovery_request w c q fails) (Makes f g w)
recovery-makes f g w c q fails h s = go fails
  where
    ends : StepEnds f g w c q (recovery_event q)
    ends = event-ends f g w c s.0 q h s.1 (h.known.finals.downs c s.0 (request (op.Recovery q)) s.1)

    go : (b : Bool) → IfSome (recovery_request w c q b) (Makes f g w)
    go true = failing-recovery-makes f g w c q (recovery_event q) h.known ends
    go false = served-makes f g w c q (recovery_event q) h.known ends

-- THE LOWER END

next-ends : (f : Ids) (g : Givens) (w : World) (c : ℕ) (x : Next) → Known f g w → SentDown w.past c x → NextEnds f g w c x
next-ends f g w c (message m) h s = (down-below g w c m h.facts.recorded (h.facts.carried.downs c s.0 m s.1), h.finals.downs c s.0 m s.1)
next-ends f g w c the_end h s = tt

request-makes : (f : Ids) (g : Givens) (w : World) (c : ℕ) (o : Op) (answered fails : Bool) → Taking f g w c → SentDown w.past c (message (request o)) → IfSome (first_message w c (request o) answered fails) (Makes f g w)
request-makes f g w c (op.Write q) answered fails h s = let n = next-ends f g w c (message (request (op.Write q))) h.known s in write-makes f g w c q answered fails h.known n.1 n.0
request-makes f g w c (op.Read r) answered fails h s = read-makes f g w c r fails h.known
request-makes f g w c (op.Recovery q) answered fails h s = recovery-makes f g w c q fails h s
request-makes f g w c (op.Transfer r) answered fails h s = unless-makes f g w fails c h.known
request-makes f g w c (op.Checksum r) answered fails h s = unless-makes f g w fails c h.known

first-makes : (f : Ids) (g : Givens) (w : World) (c : ℕ) (m : Message) (answered fails : Bool) → Taking f g w c → SentDown w.past c (message m) → IfSome (first_message w c m answered fails) (Makes f g w)
first-makes f g w c (request o) answered fails h s = request-makes f g w c o answered fails h s
first-makes f g w c (packet p) answered fails h s = unless-makes f g w fails c h.known
first-makes f g w c (ack a) answered fails h s = unless-makes f g w fails c h.known
first-makes f g w c (response r) answered fails h s = unless-makes f g w fails c h.known
first-makes f g w c (read_status t) answered fails h s = unless-makes f g w fails c h.known
first-makes f g w c (recovery_answer a) answered fails h s = unless-makes f g w fails c h.known

next-op-makes : (f : Ids) (g : Givens) (w : World) (c : ℕ) (o : Op) (fails : Bool) → Taking f g w c → SentDown w.past c (message (request o)) → IfSome (next_recovery w c (message (request o)) fails) (Makes f g w)
next-op-makes f g w c (op.Write q) fails h s = unless-makes f g w fails c h.known
next-op-makes f g w c (op.Read r) fails h s = unless-makes f g w fails c h.known
next-op-makes f g w c (op.Recovery q) fails h s = recovery-makes f g w c q fails h s
next-op-makes f g w c (op.Transfer r) fails h s = unless-makes f g w fails c h.known
next-op-makes f g w c (op.Checksum r) fails h s = unless-makes f g w fails c h.known

next-makes : (f : Ids) (g : Givens) (w : World) (c : ℕ) (x : Next) (fails : Bool) → Taking f g w c → SentDown w.past c x → IfSome (next_recovery w c x fails) (Makes f g w)
next-makes f g w c (message (request o)) fails h s = next-op-makes f g w c o fails h s
next-makes f g w c (message (packet p)) fails h s = unless-makes f g w fails c h.known
next-makes f g w c (message (ack a)) fails h s = unless-makes f g w fails c h.known
next-makes f g w c (message (response r)) fails h s = unless-makes f g w fails c h.known
next-makes f g w c (message (read_status t)) fails h s = unless-makes f g w fails c h.known
next-makes f g w c (message (recovery_answer a)) fails h s = unless-makes f g w fails c h.known
next-makes f g w c the_end fails h s = unless-makes f g w fails c h.known

pub lower-down-makes : (l : Lower) (f : Ids) (g : Givens) (w : World) (c : ℕ) (x : Next) (answered fails : Bool) → Taking f g w c → LowerSays w.past c l → SentDown w.past c x → IfSome (lower_down l w c x answered fails) (Makes f g w)
lower-down-makes idle f g w c (message m) answered fails h k s = first-makes f g w c m answered fails h s
lower-down-makes idle f g w c the_end answered fails h k s = unless-makes f g w fails c h.known
lower-down-makes (writes m) f g w c x answered fails h k s = down-makes f g w c m x fails h.known k (next-ends f g w c x h.known s)
lower-down-makes (serves b t) f g w c x answered fails h k s = unless-makes f g w fails c h.known
lower-down-makes recovers f g w c x answered fails h k s = next-makes f g w c x fails h s
lower-down-makes ended_below f g w c x answered fails h k s = tt

pub lower-ready-makes : (l : Lower) (f : Ids) (g : Givens) (w : World) (c : ℕ) (fails : Bool) → Known f g w → LowerSays w.past c l → IfSome (lower_ready l w c fails) (Makes f g w)
lower-ready-makes idle f g w c fails h k = tt
lower-ready-makes (writes m) f g w c fails h k =
    let r = replica_at w c (block_of m.fields) in
    ready-as f g w c m (ready_turn_at m.state r) fails h k (ready-idle m.state (oldest_at r) (is_written_by r.known.stream m.state.conn))
lower-ready-makes (serves b t) f g w c fails h k = serve-makes f g w c b t (next_call t) fails h (serving-reads t.phase t)
lower-ready-makes recovers f g w c fails h k = tt
lower-ready-makes ended_below f g w c fails h k = tt

pub mirror-up-makes : (l : Lower) (f : Ids) (g : Givens) (w : World) (d : ℕ) (x : Next) (fails : Bool) → Known f g w → LowerSays w.past d l → IfSome (mirror_up l w d x fails) (Makes f g w)
mirror-up-makes idle f g w d x fails h k = tt
mirror-up-makes (writes m) f g w d x fails h k = when-each (Makes f g w) (is_alive w (w.dialled d).to) _ (λ _. up-makes f g w d m x fails h k)
mirror-up-makes (serves b t) f g w d x fails h k = tt
mirror-up-makes recovers f g w d x fails h k = tt
mirror-up-makes ended_below f g w d x fails h k = tt
