-- What lower ends make of what answers and acks say.
use Rattle.std.proofs.Common.{◌≡◌, ℕ, ℤ, ◌<◌, ◌≤◌, ◌⊎◌, inl, inr, Bool, true, false, List, slice_get, Option, Some, None, IfSome, refl, sym, ◌∙◌, ap, subst, arith}
use Rattle.std.specs.Prelude.{nat_le, negsuc, pos}
use Rattle.std.specs.Ordering.{int_eq}
use Rattle.std.proofs.lemmas.Bool.{false≢true}
use Rattle.std.proofs.lemmas.Bool.Decides.{nat_tests}
use Rattle.std.proofs.lemmas.Option.{none-some}
use Rattle.hd_base.specs.declared.numbers.Stamp.{Stamp}
use Rattle.op_headers.specs.declared.ops.Op.TheVariants as op
use Rattle.op_headers.specs.Values.{WriteFields}
use Rattle.packet_codec.specs.declared.packets.Packet.{Packet}
use Rattle.replica_core.specs.declared.ack_queue.PendingPacket.{PendingPacket}
use Rattle.replica_core.specs.declared.events.Event.TheVariants as event
use Rattle.replica_core.specs.declared.records.ReplicaRecord.{ReplicaRecord}
use Rattle.replica_core.specs.declared.refusals.Refusal.{Refusal}
use Rattle.replica_core.specs.declared.refusals.Refusal.TheVariants as refusal
use Rattle.replica_core.specs.Transitions.{is_written_by}
use Rattle.replica_model.specs.declared.events.ReplicaEvent.{ReplicaEvent}
use Rattle.replica_model.specs.declared.events.ReplicaEvent.TheVariants as replica_event
use Rattle.replica_model.specs.Rows.{FullReplica, row, event_at}
use Rattle.member_core.specs.declared.effects.Effect.{Effect}
use Rattle.member_core.specs.declared.effects.Shuts.{Shuts}
use Rattle.member_core.specs.declared.effects.Shuts.TheVariants as shuts
use Rattle.member_core.specs.declared.effects.Upward.{Upward}
use Rattle.member_core.specs.declared.inputs.FromAbove.TheVariants as above
use Rattle.member_core.specs.declared.member.Mirror.TheVariants as mirror
use Rattle.member_core.specs.declared.turns.Booked.{Booked}
use Rattle.member_core.specs.declared.turns.Booked.TheVariants as booked
use Rattle.member_core.specs.declared.turns.Side.{Side}
use Rattle.member_core.specs.declared.turns.Side.TheVariants as side
use Rattle.member_core.specs.declared.turns.Turn.{Turn}
use Rattle.member_core.specs.Members.{MemberState, down_turn, up_turn, hears, settled, closed, closed_by, bad_sum}
use Rattle.member_core.specs.Steps.{Step, step, faulted_step, replica_after, outcome_of, oldest_at, ready_turn_at}
use Rattle.world_recoveries.specs.World.Parts.{Message, request, packet, ack, response, read_status, recovery_answer, FullMember, idle, writes, Writing, Break}
use Rattle.world_recoveries.specs.World.Worlds.{no_past, World, Change, Stamped, put, latest_with, apply}
use Rattle.world_recoveries.specs.World.Connections.{Next, message, the_end}
use Rattle.world_recoveries.specs.World.Nodes.{node_of, replica_at, block_of, above_of, below_of, upward_message, sent_up, passed, member_change, failing_turn, turn_change, pending_at, takes_next, member_down, member_up, ready_change, member_ready, broke_at}
use Rattle.world_recoveries.proofs.WorldLaws.FactTables.{when-each, put-each, some-weaker}
use Rattle.world_recoveries.specs.WorldLaws.Stamping.{Givens, none_given, heard}
use Rattle.world_recoveries.specs.WorldLaws.Carrying.{new_stamp, Sets, LowerSays, WriteSays}
use Rattle.world_recoveries.proofs.WorldLaws.ByteFrame.{Each, each-nil, each-one}
use Rattle.world_recoveries.proofs.WorldLaws.ByteLeaves.{Facts, one-session, sent-each, sent-if}
use Rattle.world_recoveries.proofs.WorldLaws.ByteRows.{Allows}
use Rattle.world_recoveries.proofs.WorldLaws.ByteTurns.{Idles, up-idles, ready-idles, follows}
use Rattle.world_recoveries.proofs.WorldLaws.SetupRising.{IsNoSetup, event-goes, lasting-of, event-broken}
use Rattle.world_recoveries.specs.Recovering.{Recovering}
use Rattle.world_acks.specs.Acking.{PacketEnd, Ends, UpTells, PacketTells, DownTells, IsPipe, MemberTells, PendingTells, Pends, Numbers, Acked}
use Rattle.world_acks.proofs.Shows.{IsNoUpdate}
use Rattle.world_acks.proofs.Passing.{stamps-row}
use Rattle.world_acks.proofs.Seats.{Steps, steps-same, steps-row, Lasting, member-on, numbered-on, pipe-on}
use Rattle.world_acks.proofs.Frame.{News}
use Rattle.world_acks.proofs.ClosedMoves.{put-self}
use Rattle.world_acks.proofs.Requests.{Requesting, still-requests}
use Rattle.world_acks.proofs.Pending.{Pend, Brought, event-pend}
use Rattle.world_acks.proofs.Turning.{Known, Acts, HeardTells, FromMirror, same-asked, written-stamp, IsStreamCall, TurnTells, up-tells, ready-tells, down-tells}

-- LEAVES

-- a lower end that acts doesn't wait
pub writes-busy : (m : FullMember) → writes m ≡ idle → ⊥
writes-busy m e = cc

-- what is needed of a change
pub record Leaf (g : Givens) (t : Ends) (w : World) (k : Change) : Type 0 where
  pub steps : Steps w k
  pub requests : Requesting w k
  pub news : Lasting g g t t w (apply w k) → Facts g (apply w k) → Recovering g (apply w k) → News g t w k

-- the office and the writers stay
pub record Aside (w : World) (k : Change) : Type 0 where
  pub office : k.office ≡ w.office
  pub stamped : k.stamped ≡ None
  pub writer : k.writer ≡ w.writers k.writer_at

pub still-numbers : (g : Givens) (t : Ends) (w : World) (k : Change) → Acked g t w → k.stamped ≡ None → k.writer ≡ w.writers k.writer_at → (b : ℕ) → Numbers (g b) t (latest_with w.latest k.stamped b) (heard (put w.writers k.writer_at k.writer b))
still-numbers g t w k h s q b =
    subst (λ (o : Option Stamped). Numbers (g b) t (latest_with w.latest o b) (heard (put w.writers k.writer_at k.writer b))) (sym s)
    (put-each (λ (d : ℕ) (x : Writing). Numbers (g d) t (w.latest d) (heard x)) w.writers k.writer_at k.writer (subst (λ (x : Writing). Numbers (g k.writer_at) t (w.latest k.writer_at) (heard x)) (sym q) (h.writers k.writer_at)) h.writers b)

pub aside-begun : (g : Givens) (t : Ends) (w : World) (k : Change) → Acked g t w → k.office ≡ w.office → (e : ℕ) (x : PacketEnd) (q : ℤ) → t e q ≡ Some x → e < k.office.next.0
aside-begun g t w k h o e x q n = subst (λ z. e < z.next.0) (sym o) (h.begun e x q n)

pub after-at : (w : World) (k : Change) → (apply w k).replicas k.node k.block ≡ k.replica
unfolding apply
after-at w k = put-self w.replicas k.node k.block k.replica

pub after-breaks : (w : World) (k : Change) → (apply w k).breaks k.node k.block ≡ k.broke
unfolding apply
after-breaks w k = put-self w.breaks k.node k.block k.broke

pub after-lives : (w : World) (k : Change) (n : ℕ) → (apply w k).lives n ≡ w.lives n
unfolding apply
after-lives w k n = refl

-- REPLICAS

-- a row that sets nothing up and isn't an update
pub row-steps : (g : Givens) (t : Ends) (w : World) (k : Change) (e : ReplicaEvent) → Known g t w → k.replica ≡ row (w.replicas k.node k.block) e → IsNoUpdate (event_at (w.replicas k.node k.block) e)
    → IsNoSetup (event_at (w.replicas k.node k.block) e) → Steps w k
row-steps g t w k e h q u n =
    let r = w.replicas k.node k.block in
    steps-row w k e (λ b. ap (λ (x : FullReplica). x.known.is_broken) q ∙ event-broken r.known (event_at r e) b) q u (event-goes r.known (event_at r e) (lasting-of (event_at r e) n) (h.sets.plain k.node k.block)) (stamps-row w k e q u n)

-- pending packets of a replica that stays
pub same-pends : (g : Givens) (t : Ends) (w : World) (k : Change) → Known g t w → k.replica.known ≡ (w.replicas k.node k.block).known → IfSome k.replica.known.info (Pends g t k.block k.replica.known)
same-pends g t w k h e = subst (λ (c : ReplicaRecord). IfSome c.info (Pends g t k.block c)) (sym e) (h.acked.replicas k.node k.block)

pub row-pends : (g : Givens) (t : Ends) (w : World) (k : Change) (e : ReplicaEvent) → Known g t w → k.replica ≡ row (w.replicas k.node k.block) e → Brought (PendingTells g t k.block) (w.replicas k.node k.block).known (event_at (w.replicas k.node k.block) e)
    → IfSome k.replica.known.info (Pends g t k.block k.replica.known)
row-pends g t w k e h q x =
    let r = w.replicas k.node k.block in
    subst (λ (y : FullReplica). IfSome y.known.info (Pends g t k.block y.known)) (sym q) (wrap (row r e).known (event-pend (PendingTells g t k.block) r.known (event_at r e) x (unwrap r.known (h.acked.replicas k.node k.block))))
  where
    wrap : (c : ReplicaRecord) → Pend (PendingTells g t k.block) c → IfSome c.info (Pends g t k.block c)
    wrap c y = some-weaker (λ i. (j : ℕ) (d : PendingPacket) → slice_get c.pending j ≡ Some d → PendingTells g t k.block i.stamp d) (Pends g t k.block c) c.info (λ i z. record { each = z }) y

    unwrap : (c : ReplicaRecord) → IfSome c.info (Pends g t k.block c) → Pend (PendingTells g t k.block) c
    unwrap c y = some-weaker (Pends g t k.block c) (λ i. (j : ℕ) (d : PendingPacket) → slice_get c.pending j ≡ Some d → PendingTells g t k.block i.stamp d) c.info (λ i z. z.each) y

-- MEMBERS

-- what follows a book call: what the turn sends goes up where it was taken, and nothing else
record Settles (m : MemberState) (t : Turn) (b : Booked) : Type 0 where
  pub sends : ((settled m t b).1.sends ≡ None) ⊎ ((b ≡ booked.Taken) × ((settled m t b).1.sends ≡ t.effect.sends))
  pub mirror : (settled m t b).0.mirror ≡ mirror.Nobody → (t.mirror ≡ mirror.Nobody) ⊎ (m.mirror ≡ mirror.Nobody)

closed-mirror : (at : Side) (m : MemberState) → (closed at m).mirror ≡ m.mirror
closed-mirror side.Receiver m = refl
closed-mirror side.Responder m = refl

closed-by-mirror : (s : Shuts) (at : Side) (m : MemberState) → (closed_by s at m).mirror ≡ m.mirror
closed-by-mirror shuts.Nothing at m = refl
closed-by-mirror shuts.Mirror at m = closed-mirror at m
closed-by-mirror shuts.Both at m = closed-mirror at m

settles : (m : MemberState) (t : Turn) (b : Booked) → Settles m t b
settles m t booked.Taken = record { sends = inr (refl, refl); mirror = λ e. inl (sym (closed-by-mirror t.effect.shuts t.side (record m { mirror = t.mirror })) ∙ e) }
settles m t booked.Failed = record { sends = inl refl; mirror = λ e. inr (sym (closed-mirror t.side m) ∙ e) }
settles m t (booked.Refused r) = refused r
  where
    summed : (o : Option ReplicaEvent) → ((bad_sum m o t).1.sends ≡ None) × ((bad_sum m o t).0.mirror ≡ m.mirror)
    summed (Some (replica_event.Packet conn p)) = (refl, refl)
    summed (Some (replica_event.Other e)) = (refl, closed-mirror t.side m)
    summed None = (refl, closed-mirror t.side m)

    refused : (r : Refusal) → Settles m t (booked.Refused r)
    refused (refusal.BadSum chunk) = let s = summed t.call in record { sends = inl s.0; mirror = λ e. inr (sym s.1 ∙ e) }
    refused _ = record { sends = inl refl; mirror = λ e. inr (sym (closed-mirror t.side m) ∙ e) }

-- what goes up, where it is this
sent-tells : (g : Givens) (t : Ends) (v : World) (c : ℕ) (f : WriteFields) (o : Option Upward) → IfSome o (λ u. UpTells g t v c (upward_message f u)) → Each (UpTells g t v c) (sent_up f o)
sent-tells g t v c f None h = each-nil (UpTells g t v c)
sent-tells g t v c f (Some u) h = each-one (UpTells g t v c) (upward_message f u) h

-- a member's change
abbrev Passes : Givens → Ends → World → FullMember → Next → Turn → Type 0
Passes g t w m x s = (v : World) → Lasting g g t t w v → Facts g v → (d : ℕ) → Sets w.past d (new_stamp m.fields) → (f : Bool) → (f ≡ true → s.effect.forwards ≡ true) → Each (DownTells g t v d) (passed f x)

-- the turn's call was taken: the replica is that after it, and its break stays
record TookCall (w : World) (c : ℕ) (m : FullMember) (turn : Turn) (s : Step) (b : Option Break) : Type 0 where
  pub replica : s.replica ≡ replica_after (replica_at w c (block_of m.fields)) turn.call
  pub taken : outcome_of (replica_at w c (block_of m.fields)) turn.call ≡ booked.Taken
  pub broke : b ≡ w.breaks (node_of w c) (block_of m.fields)

member-leaf : (g : Givens) (t : Ends) (w : World) (c : ℕ) (m : FullMember) (x : Next) (turn : Turn) (s : Step) (b : Option Break) (out : Booked) → Acts g t w c m → LowerSays w.past c (writes m) → TurnTells g t w c m turn
    → s.member ≡ (settled m.state turn out).0 → s.effect ≡ (settled m.state turn out).1 → (out ≡ booked.Taken → TookCall w c m turn s b)
    → Passes g t w m x turn → Steps w (member_change w c m x s b) → IfSome s.replica.known.info (Pends g t (block_of m.fields) s.replica.known) → Leaf g t w (member_change w c m x s b)
member-leaf g t w c m x turn s b out a low tells em ef took passes steps pends =
    let k = member_change w c m x s b in
    let v = apply w k in
    let z = settles m.state turn out in
    record {
      steps = steps;
      requests = still-requests w k a.known.requests refl refl (λ e. absurd (writes-busy (record m { state = s.member }) e));
      news = λ on facts recovers.
          let old : MemberTells g v c m = member-on g g t t w v c m on a.tells in
          record {
            ups = sent-each (UpTells g t v) c (sent_up m.fields s.effect.sends) (sent-tells g t v c m.fields s.effect.sends
                (subst (λ (y : Effect). IfSome y.sends (λ u. UpTells g t v c (upward_message m.fields u))) (sym ef) (up v on facts recovers (after-at w k) (after-breaks w k) (after-lives w k (node_of w c)) z.sends)));
            downs = sent-if (DownTells g t v) m.mirror (passed s.effect.forwards x) (some-weaker (λ d. Sets w.past d (new_stamp m.fields)) (λ d. Each (DownTells g t v d) (passed s.effect.forwards x)) m.mirror
                (λ d q. passes v on facts d q s.effect.forwards (λ e. (follows m.state turn out).forwards (ap (λ (y : Effect). y.forwards) (sym ef) ∙ e))) low.mirror);
            dials = λ i d e. absurd (none-some d e);
            uppers = λ i d e. absurd (none-some d e);
            lower = record {
              session = old.session;
              pipe = old.pipe;
              joins = old.joins;
              seat = old.seat;
              alone = λ e. a.tells.alone (alone (z.mirror (ap (λ (y : MemberState). y.mirror) (sym em) ∙ e)));
              quiet = λ e. on.quiet (new_stamp m.fields).0 (a.tells.quiet (alone (z.mirror (ap (λ (y : MemberState). y.mirror) (sym em) ∙ e))));
              closes = old.closes;
            };
            replica = pends;
            joined = λ p n l j. absurd (none-some _ j.there);
            writers = still-numbers g t w k a.known.acked refl refl;
            begun = aside-begun g t w k a.known.acked refl;
          };
    }
  where
    alone : (turn.mirror ≡ mirror.Nobody) ⊎ (m.state.mirror ≡ mirror.Nobody) → m.state.mirror ≡ mirror.Nobody
    alone (inl e) = tells.mirror e
    alone (inr e) = e

    up : (v : World) → Lasting g g t t w v → Facts g v → Recovering g v → v.replicas (node_of w c) (block_of m.fields) ≡ s.replica → v.breaks (node_of w c) (block_of m.fields) ≡ b → v.lives (node_of w c) ≡ w.lives (node_of w c)
        → ((settled m.state turn out).1.sends ≡ None) ⊎ ((out ≡ booked.Taken) × ((settled m.state turn out).1.sends ≡ turn.effect.sends)) → IfSome (settled m.state turn out).1.sends (λ u. UpTells g t v c (upward_message m.fields u))
    up v on facts recovers at broke live (inl e) = subst (λ (o : Option Upward). IfSome o (λ u. UpTells g t v c (upward_message m.fields u))) (sym e) tt
    up v on facts recovers at broke live (inr y) =
        let q = took y.0 in
        subst (λ (o : Option Upward). IfSome o (λ u. UpTells g t v c (upward_message m.fields u))) (sym y.1) (tells.sends v (record { on = on; facts = facts; recovering = recovers; at = at ∙ q.replica; breaks = broke ∙ q.broke; lives = live }) q.taken)

-- what a turn books brings nothing that isn't known
abbrev Brings : Givens → Ends → World → ℕ → FullMember → Option ReplicaEvent → Type 0
Brings g t w c m o = IfSome o (λ e. Brought (PendingTells g t (block_of m.fields)) (replica_at w c (block_of m.fields)).known (event_at (replica_at w c (block_of m.fields)) e))

no-update : (r : FullReplica) (e : ReplicaEvent) → IsStreamCall e → IsNoUpdate (event_at r e)
no-update r (replica_event.Packet conn p) h = tt
no-update r (replica_event.Other (event.Create conn s q)) h = tt
no-update r (replica_event.Other (event.Temporary conn s q)) h = tt
no-update r (replica_event.Other (event.Append conn named new n)) h = tt
no-update r (replica_event.Other (event.AppendRecovery conn named new n)) h = tt
no-update r (replica_event.Other (event.StreamRecovery conn named new low high)) h = tt
no-update r (replica_event.Other (event.CloseRecovery named new n)) h = tt
no-update r (replica_event.Other (event.Packet conn seqno offset n sums last sync bad)) h = tt
no-update r (replica_event.Other (event.Ack conn seqno good)) h = tt
no-update r (replica_event.Other (event.Ended conn)) h = tt
no-update r (replica_event.Other (event.Init named id)) h = tt
no-update r (replica_event.Other (event.Update id n)) h = absurd h
no-update r (replica_event.Other (event.Read named offset n)) h = tt
no-update r (replica_event.Other (event.Give named offset n)) h = tt
no-update r (replica_event.Other event.FileFault) h = tt

no-setup : (r : FullReplica) (e : ReplicaEvent) → IsStreamCall e → IsNoSetup (event_at r e)
no-setup r (replica_event.Packet conn p) h = tt
no-setup r (replica_event.Other (event.Create conn s q)) h = absurd h
no-setup r (replica_event.Other (event.Temporary conn s q)) h = absurd h
no-setup r (replica_event.Other (event.Append conn named new n)) h = absurd h
no-setup r (replica_event.Other (event.AppendRecovery conn named new n)) h = absurd h
no-setup r (replica_event.Other (event.StreamRecovery conn named new low high)) h = absurd h
no-setup r (replica_event.Other (event.CloseRecovery named new n)) h = absurd h
no-setup r (replica_event.Other (event.Packet conn seqno offset n sums last sync bad)) h = tt
no-setup r (replica_event.Other (event.Ack conn seqno good)) h = tt
no-setup r (replica_event.Other (event.Ended conn)) h = tt
no-setup r (replica_event.Other (event.Init named id)) h = tt
no-setup r (replica_event.Other (event.Update id n)) h = tt
no-setup r (replica_event.Other (event.Read named offset n)) h = tt
no-setup r (replica_event.Other (event.Give named offset n)) h = tt
no-setup r (replica_event.Other event.FileFault) h = tt

-- a step that books this, or nothing
booked-steps : (g : Givens) (t : Ends) (w : World) (c : ℕ) (m : FullMember) (x : Next) (s : Step) (b : Option Break) (o : Option ReplicaEvent) → Known g t w → IfSome o IsStreamCall → s.replica ≡ replica_after (replica_at w c (block_of m.fields)) o
    → Steps w (member_change w c m x s b)
booked-steps g t w c m x s b None h n q = steps-same w (member_change w c m x s b) q
booked-steps g t w c m x s b (Some e) h n q = let r = replica_at w c (block_of m.fields) in row-steps g t w (member_change w c m x s b) e h q (no-update r e n) (no-setup r e n)

booked-pends : (g : Givens) (t : Ends) (w : World) (c : ℕ) (m : FullMember) (x : Next) (s : Step) (b : Option Break) (o : Option ReplicaEvent) → Known g t w → Brings g t w c m o → s.replica ≡ replica_after (replica_at w c (block_of m.fields)) o
    → IfSome s.replica.known.info (Pends g t (block_of m.fields) s.replica.known)
booked-pends g t w c m x s b None h n q = same-pends g t w (member_change w c m x s b) h (ap (λ (r : FullReplica). r.known) q)
booked-pends g t w c m x s b (Some e) h n q = row-pends g t w (member_change w c m x s b) e h q n

failed-not : booked.Failed ≡ booked.Taken → ⊥
failed-not e = cc

failing-leaf : (g : Givens) (t : Ends) (w : World) (c : ℕ) (m : FullMember) (x : Next) (turn : Turn) (o : Option ReplicaEvent) → Acts g t w c m → LowerSays w.past c (writes m) → TurnTells g t w c m turn → Passes g t w m x turn
    → IfSome (failing_turn w c m x turn o) (Leaf g t w)
failing-leaf g t w c m x turn None a low tells passes = tt
failing-leaf g t w c m x turn (Some e) a low tells passes =
    let r = replica_at w c (block_of m.fields) in
    let s = faulted_step m.state r turn in
    let k = member_change w c m x s (broke_at w c (block_of m.fields) e) in
    member-leaf g t w c m x turn s (broke_at w c (block_of m.fields) e) booked.Failed a low tells refl refl (λ q. absurd (failed-not q)) passes
    (row-steps g t w k (replica_event.Other event.FileFault) a.known refl tt tt) (row-pends g t w k (replica_event.Other event.FileFault) a.known refl tt)

turn-leaf : (g : Givens) (t : Ends) (w : World) (c : ℕ) (m : FullMember) (x : Next) (turn : Turn) (fails : Bool) → Acts g t w c m → LowerSays w.past c (writes m) → TurnTells g t w c m turn → Passes g t w m x turn
    → Brings g t w c m turn.call → IfSome (turn_change w c m x turn fails) (Leaf g t w)
turn-leaf g t w c m x turn true a low tells passes brings = failing-leaf g t w c m x turn turn.call a low tells passes
turn-leaf g t w c m x turn false a low tells passes brings =
    let r = replica_at w c (block_of m.fields) in
    let s = step m.state r turn in
    let b = w.breaks (node_of w c) (block_of m.fields) in
    member-leaf g t w c m x turn s b (outcome_of r turn.call) a low tells refl refl (λ q. record { replica = refl; taken = q; broke = refl }) passes (booked-steps g t w c m x s b turn.call a.known tells.call refl) (booked-pends g t w c m x s b turn.call a.known brings refl)

-- turns that pass nothing on
quiet-passes : (g : Givens) (t : Ends) (w : World) (m : FullMember) (x : Next) (turn : Turn) → turn.effect.forwards ≡ false → Passes g t w m x turn
quiet-passes g t w m x turn q = λ v on facts d sets f h. go v d f h
  where
    go : (v : World) (d : ℕ) (f : Bool) → (f ≡ true → turn.effect.forwards ≡ true) → Each (DownTells g t v d) (passed f x)
    go v d false h = each-nil (DownTells g t v d)
    go v d true h = absurd (false≢true (sym q ∙ h refl))

-- a call that brings no packet
abbrev IsAnswering : ReplicaEvent → Type 0
IsAnswering (replica_event.Packet conn p) = ⊥
IsAnswering (replica_event.Other (event.Packet conn seqno offset n sums last sync bad)) = ⊥
IsAnswering (replica_event.Other e) = Unit {0}

-- an end or an ack brings no packet
idle-brings : (g : Givens) (t : Ends) (w : World) (c : ℕ) (m : FullMember) (o : Option ReplicaEvent) → IfSome o IsAnswering → Brings g t w c m o
idle-brings g t w c m None h = tt
idle-brings g t w c m (Some (replica_event.Packet conn p)) h = absurd h
idle-brings g t w c m (Some (replica_event.Other (event.Create conn s q))) h = tt
idle-brings g t w c m (Some (replica_event.Other (event.Temporary conn s q))) h = tt
idle-brings g t w c m (Some (replica_event.Other (event.Append conn named new n))) h = tt
idle-brings g t w c m (Some (replica_event.Other (event.AppendRecovery conn named new n))) h = tt
idle-brings g t w c m (Some (replica_event.Other (event.StreamRecovery conn named new low high))) h = tt
idle-brings g t w c m (Some (replica_event.Other (event.CloseRecovery named new n))) h = tt
idle-brings g t w c m (Some (replica_event.Other (event.Packet conn seqno offset n sums last sync bad))) h = absurd h
idle-brings g t w c m (Some (replica_event.Other (event.Ack conn seqno good))) h = tt
idle-brings g t w c m (Some (replica_event.Other (event.Ended conn))) h = tt
idle-brings g t w c m (Some (replica_event.Other (event.Init named id))) h = tt
idle-brings g t w c m (Some (replica_event.Other (event.Update id n))) h = tt
idle-brings g t w c m (Some (replica_event.Other (event.Read named offset n))) h = tt
idle-brings g t w c m (Some (replica_event.Other (event.Give named offset n))) h = tt
idle-brings g t w c m (Some (replica_event.Other event.FileFault)) h = tt

-- an idle turn's call isn't a packet: that of a session that no stamp has
idle-answers : (t : Turn) → Idles t → IfSome t.call IsAnswering
idle-answers t i = go t.call (i.call none_given no_past 0)
  where
    go : (o : Option ReplicaEvent) → IfSome o (Allows none_given no_past 0) → IfSome o IsAnswering
    go None h = tt
    go (Some (replica_event.Packet conn p)) h = absurd (none-some _ h.sets.first)
    go (Some (replica_event.Other (event.Packet conn seqno offset n sums last sync bad))) h = absurd h
    go (Some (replica_event.Other e)) h = tt

-- what a member takes from above
abbrev pub TakenTells : Givens → Ends → World → ℕ → Next → Type 0
TakenTells g t w c (message m) = DownTells g t w c m
TakenTells g t w c the_end = Unit {0}

pub dialled-there : (g : Givens) (w : World) (d : ℕ) (m : Message) → Facts g w → slice_get (w.downs d) 0 ≡ Some m → d < w.next_conn
dialled-there g w d m h e = go (nat_le w.next_conn d) refl
  where
    go : (b : Bool) → nat_le w.next_conn d ≡ b → d < w.next_conn
    go false q = grind (arith, nat_tests, q)
    go true q = absurd (none-some m (subst (λ (xs : List Message). slice_get xs 0 ≡ Some m) (h.fresh d low) e))
      where
        low : w.next_conn ≤ d
        low = grind (arith, nat_tests, q)

-- a packet that goes on to the mirror
forwarded : (g : Givens) (t : Ends) (w v : World) (c d : ℕ) (m : FullMember) (p : Packet) → Acts g t w c m → Lasting g g t t w v → Sets w.past d (new_stamp m.fields) → PacketTells g t w c p → PacketTells g t v d p
forwarded g t w v c d m p a on sets x =
    let says : WriteSays g w.past d sets.fields = a.known.facts.carried.downs d 0 (request (op.Write sets.fields)) sets.first in
    let same : says.session ≡ x.session =
    one-session g w a.known.facts.recorded (block_of sets.fields) (block_of x.fields) (new_stamp m.fields).0 says.session x.session (ap (λ (y : Stamp). g (block_of sets.fields) y.0) (sym sets.is) ∙ says.given)
    (ap (λ (f : WriteFields). g (block_of x.fields) (new_stamp f).0) (sym (same-asked w c x.fields m.fields x.pipe.asked a.tells.pipe.asked)) ∙ x.pipe.given) in
    let pipe : IsPipe g w d sets.fields x.session = record {
      known = dialled-there g w d (request (op.Write sets.fields)) a.known.facts sets.first;
      asked = record { first = sets.first };
      given = says.given ∙ ap (λ (n : ℕ). Some n) same;
    } in
    record { fields = sets.fields; session = x.session; pipe = pipe-on g g t t w v d sets.fields x.session on.on pipe; numbered = numbered-on g g t t w v x.session p on.on x.numbered }

packet-brings : (g : Givens) (t : Ends) (w : World) (c : ℕ) (m : FullMember) (p : Packet) → Acts g t w c m → PacketTells g t w c p → Brings g t w c m (Some (replica_event.Packet m.state.conn p))
packet-brings g t w c m p a x = (
  number p.seqno x.numbered.number x.numbered.is,
  λ i s e is writes by seqno end last.
      let stamp : i.stamp ≡ new_stamp m.fields = written-stamp g t w c m i s a is writes (by ∙ a.conn) in
      let same : x.fields ≡ m.fields = same-asked w c x.fields m.fields x.pipe.asked a.tells.pipe.asked in
      record {
        session = x.session;
        given = ap (λ (y : Stamp). g (block_of m.fields) y.0) stamp ∙ ap (λ (f : WriteFields). g (block_of f) (new_stamp f).0) (sym same) ∙ x.pipe.given;
        named = ap (λ (z : ℤ). t x.session z) seqno ∙ x.numbered.named ∙ ap (λ (n : ℕ). Some (record { at = n; last = p.last })) (sym end) ∙ ap (λ (l : Bool). Some (record { at = e.end; last = l })) (sym last);
      },
)
  where
    number : (z : ℤ) (n : ℕ) → z ≡ pos n → int_eq z (negsuc 0) ≡ false
    number z n e = subst (λ (y : ℤ). int_eq y (negsuc 0) ≡ false) (sym e) refl

above-leaf : (g : Givens) (t : Ends) (w : World) (c : ℕ) (m : FullMember) (x : Next) (fails : Bool) → Acts g t w c m → LowerSays w.past c (writes m) → TakenTells g t w c x → IfSome (turn_change w c m x (down_turn m.state (above_of x)) fails) (Leaf g t w)
above-leaf g t w c m (message (packet p)) fails a low h =
    turn-leaf g t w c m (message (packet p)) (down_turn m.state (above.Packet p)) fails a low (down-tells g t w c m (above.Packet p)) (λ v on facts d sets f q. go v on d sets f) (packet-brings g t w c m p a h)
  where
    go : (v : World) → Lasting g g t t w v → (d : ℕ) → Sets w.past d (new_stamp m.fields) → (f : Bool) → Each (DownTells g t v d) (passed f (message (packet p)))
    go v on d sets false = each-nil (DownTells g t v d)
    go v on d sets true = each-one (DownTells g t v d) (packet p) (forwarded g t w v c d m p a on sets h)
above-leaf g t w c m (message (request r)) fails a low h = turn-leaf g t w c m (message (request r)) (down_turn m.state above.Unreadable) fails a low (down-tells g t w c m above.Unreadable) (quiet-passes g t w m (message (request r)) (down_turn m.state above.Unreadable) refl) tt
above-leaf g t w c m (message (ack r)) fails a low h = turn-leaf g t w c m (message (ack r)) (down_turn m.state above.Unreadable) fails a low (down-tells g t w c m above.Unreadable) (quiet-passes g t w m (message (ack r)) (down_turn m.state above.Unreadable) refl) tt
above-leaf g t w c m (message (response r)) fails a low h = turn-leaf g t w c m (message (response r)) (down_turn m.state above.Unreadable) fails a low (down-tells g t w c m above.Unreadable) (quiet-passes g t w m (message (response r)) (down_turn m.state above.Unreadable) refl) tt
above-leaf g t w c m (message (read_status r)) fails a low h = turn-leaf g t w c m (message (read_status r)) (down_turn m.state above.Unreadable) fails a low (down-tells g t w c m above.Unreadable) (quiet-passes g t w m (message (read_status r)) (down_turn m.state above.Unreadable) refl) tt
above-leaf g t w c m (message (recovery_answer r)) fails a low h = turn-leaf g t w c m (message (recovery_answer r)) (down_turn m.state above.Unreadable) fails a low (down-tells g t w c m above.Unreadable) (quiet-passes g t w m (message (recovery_answer r)) (down_turn m.state above.Unreadable) refl) tt
above-leaf g t w c m the_end fails a low h = turn-leaf g t w c m the_end (down_turn m.state above.End) fails a low (down-tells g t w c m above.End) (quiet-passes g t w m the_end (down_turn m.state above.End) refl) tt

pub down-leaf : (g : Givens) (t : Ends) (w : World) (c : ℕ) (m : FullMember) (x : Next) (fails : Bool) → Acts g t w c m → LowerSays w.past c (writes m) → TakenTells g t w c x → IfSome (member_down w c m x fails) (Leaf g t w)
down-leaf g t w c m x fails a low h = when-each (Leaf g t w) (takes_next m.state (pending_at w c m) x) _ (λ _. above-leaf g t w c m x fails a low h)

pub up-leaf : (g : Givens) (t : Ends) (w : World) (c d : ℕ) (m : FullMember) (x : Next) (fails : Bool) → Acts g t w c m → LowerSays w.past c (writes m) → FromMirror w d m → HeardTells g t w d x → IfSome (member_up w c m x fails) (Leaf g t w)
up-leaf g t w c d m x fails a low y h =
    let o = oldest_at (replica_at w c (block_of m.fields)) in
    let i = up-idles m.state o (below_of x) in
    when-each (Leaf g t w) (hears m.state) _ (λ _. turn-leaf g t w c m x (up_turn m.state o (below_of x)) fails a low (up-tells g t w c d m x a y h)
    (quiet-passes g t w m x (up_turn m.state o (below_of x)) i.quiet) (idle-brings g t w c m (up_turn m.state o (below_of x)).call (idle-answers (up_turn m.state o (below_of x)) i)))

ready-as : (g : Givens) (t : Ends) (w : World) (c : ℕ) (m : FullMember) (o : Option Turn) (fails : Bool) → Acts g t w c m → LowerSays w.past c (writes m) → IfSome o Idles → IfSome o (TurnTells g t w c m) → IfSome (ready_change w c m o fails) (Leaf g t w)
ready-as g t w c m None fails a low i tells = tt
ready-as g t w c m (Some x) fails a low i tells = turn-leaf g t w c m the_end x fails a low tells (quiet-passes g t w m the_end x i.quiet) (idle-brings g t w c m x.call (idle-answers x i))

pub ready-leaf : (g : Givens) (t : Ends) (w : World) (c : ℕ) (m : FullMember) (fails : Bool) → Acts g t w c m → LowerSays w.past c (writes m) → IfSome (member_ready w c m fails) (Leaf g t w)
ready-leaf g t w c m fails a low =
    let r = replica_at w c (block_of m.fields) in
    ready-as g t w c m (ready_turn_at m.state r) fails a low (ready-idles m.state (oldest_at r) (is_written_by r.known.stream m.state.conn)) (ready-tells g t w c m (is_written_by r.known.stream m.state.conn) a)
