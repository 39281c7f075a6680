-- The ack of an hsync's packet: all members of the pipeline took it so.
use Rattle.std.proofs.Common.{◌≡◌, ℕ, ℤ, zero, suc, ◌<◌, ◌≤◌, ◌+◌, ◌⊎◌, inl, inr, true, List, [], ◌∷◌, length, drop, slice_get, Option, Some, None, IfSome, refl, sym, ap, subst, ◌∙◌, arith}
use Rattle.std.specs.Prelude.{◌-◌, ◌^◌, map, min, is_some, option_map}
use Rattle.std.proofs.lemmas.Bool.{false≢true}
use Rattle.std.proofs.lemmas.Bool.Decides.{nat_tests}
use Rattle.std.proofs.lemmas.Option.{none-some, same_Some}
use Rattle.hd_base.specs.declared.numbers.NodeId.{NodeId}
use Rattle.hd_base.specs.declared.numbers.Stamp.{Stamp}
use Rattle.hd_base.specs.declared.roads.TheConstants.{FIRST_PORT, MAX_NODES}
use Rattle.node_refs.specs.NodeRefs.{ref_of}
use Rattle.ack_codec.specs.declared.acks.Ack.{Ack}
use Rattle.op_headers.specs.declared.nodes.NodeRef.{NodeRef}
use Rattle.op_headers.specs.Values.{WriteFields}
use Rattle.packet_codec.specs.declared.packets.Packet.{Packet}
use Rattle.packet_stream.specs.Streams.{packet_end, StreamState, acked_packet}
use Rattle.member_core.specs.Acks.{failures}
use Rattle.writer_core.specs.declared.phases.Phase.{Phase}
use Rattle.writer_core.specs.declared.phases.Phase.TheVariants as phase
use Rattle.writer_core.specs.declared.phases.Verdict.TheVariants as verdict
use Rattle.writer_core.specs.declared.phases.Waiting.TheVariants as waiting
use Rattle.writer_core.specs.declared.records.WriterRecord.{WriterRecord}
use Rattle.writer_core.specs.Phases.{remedy_at_ack, ack_verdict}
use Rattle.writer_core.specs.Transitions.{is_connected, acked_oldest}
use Rattle.world.specs.Parts.{ack}
use Rattle.world.specs.Worlds.{World}
use Rattle.world.specs.Nodes.{node_of, node_on, block_of}
use Rattle.world.specs.Safe.{Has}
use Rattle.world_laws.proofs.ByteRows.{sets-once}
use Rattle.world_laws.specs.Stamping.{Givens, Fits, InPhase, heard}
use Rattle.world_laws.specs.Carrying.{new_stamp, ConnSays}
use Rattle.world_acks.specs.Acking.{Asked, Ends, JoinSeat, reach_of}
use Rattle.world_acks.proofs.Turning.{same-asked}
use Rattle.world_writers.specs.Piping.{IsPipeline, Piped, PipedOf, setup_stamp}
use Rattle.world_writers.specs.Taking.{Joins}
use Rattle.world_writers.proofs.Standing.{verdict-good}
use Rattle.world_syncs.specs.Histories.{Histories}
use Rattle.world_syncs.proofs.Seats.{SyncSeat, seat-less}
use Rattle.world_syncs.proofs.Turning.{TookAt, AckSyncs, UpSyncs}
use Rattle.world_syncs.proofs.Writers.{Formed, AcksWait, WaitedOf, PhaseOpens, asked_stamp}
use Rattle.world_syncs.proofs.Waiting.{SyncReached, FormedOk, WriterWaits, NoneSent, Frame, reached-on, synced-on}
use Rattle.world_syncs.proofs.Stepping.{Around, NoPacket, NoFields}

-- MEMBERS

-- the port of a node of few names it
few-node : (n bound : ℕ) → bound ≤ MAX_NODES → n < bound → node_on (min (FIRST_PORT + n) (2 ^ 32 - 1)) ≡ Some n
few-node n bound le lt =
    let small : min (FIRST_PORT + n) (2 ^ 32 - 1) ≡ FIRST_PORT + n = omega (arith, le, lt) in
    subst (λ (p : ℕ). node_on p ≡ Some n) (sym small) (listens n)
  where
    listens : (n : ℕ) → node_on (FIRST_PORT + n) ≡ Some n
    listens n = grind (arith, nat_tests)

map-at : (ms : List NodeId) (i : ℕ) (m : NodeId) → slice_get ms i ≡ Some m → slice_get (map ref_of ms) i ≡ Some (ref_of m)
map-at [] i m e = absurd (none-some m e)
map-at (x ∷ ms) zero m e = ap (λ (o : Option NodeId). Some (ref_of x)) e ∙ ap (λ (y : NodeId). Some (ref_of y)) (same_Some x m e)
map-at (x ∷ ms) (suc i) m e = map-at ms i m e

-- of each member of a pipeline holds what does of the node at its lower end and of each target
pub of-member : (w : World) (b c bound : ℕ) (stamp : Stamp) (ms : List NodeId) (m : NodeId) (F : ℕ → Type 0) → bound ≤ MAX_NODES → m.0 < bound → (p : IsPipeline w.past b stamp ms c) → F (node_of w c) → ((i n : ℕ) (t : NodeRef) → slice_get p.fields.targets i ≡ Some t → node_on t.xfer ≡ Some n → F n) → Has ms m → F m.0
of-member w b c bound stamp ms m F le lt p here below h = go h.place (subst (λ (xs : List NodeId). slice_get xs h.place ≡ Some m) p.are h.there)
  where
    go : (i : ℕ) → slice_get (p.first ∷ p.others) i ≡ Some m → F m.0
    go zero e = subst F (p.node ∙ ap (λ (x : NodeId). x.0) (same_Some p.first m e)) here
    go (suc i) e =
        let there : slice_get p.fields.targets i ≡ Some (ref_of m) = subst (λ (ts : List NodeRef). slice_get ts i ≡ Some (ref_of m)) (sym p.targets) (map-at p.others i m e) in
        below i m.0 (ref_of m) there (few-node m.0 bound le lt)

-- a member of the pipeline took the packet of the number that was acked
member-took : (h : Histories) (w : World) (b c : ℕ) (stamp : Stamp) (ms : List NodeId) (m : NodeId) (q : ℤ) → Joins w → m.0 < w.nodes → IsPipeline w.past b stamp ms c → AckSyncs h w c q → Has ms m → TookAt h w b stamp m.0 q
member-took h w b c stamp ms m q j lt p a has =
    of-member w b c w.nodes stamp ms m (λ (n : ℕ). TookAt h w b stamp n q) j.few lt p (named (node_of w c) a.here) (λ i n t x y. named n (a.below i n t (subst (λ (f : WriteFields). slice_get f.targets i ≡ Some t) same x) y)) has
  where
    same : p.fields ≡ a.fields
    same = same-asked w c p.fields a.fields (record { first = p.asked }) a.asked

    named : (n : ℕ) → TookAt h w (block_of a.fields) (new_stamp a.fields) n q → TookAt h w b stamp n q
    named n x = subst (λ (i : ℕ). TookAt h w i stamp n q) (ap block_of (sym same) ∙ p.block_is) (subst (λ (s : Stamp). TookAt h w (block_of a.fields) s n q) (ap new_stamp (sym same) ∙ p.stamp_is) x)

-- THE PHASE

opening-apart : (n : ℕ) (q : ℤ) → Some waiting.Opening ≡ Formed n q → ⊥
opening-apart n q e = cc

ack-connected : (p : Phase) → is_some (remedy_at_ack p) ≡ true → is_connected p ≡ true
ack-connected phase.Closed e = e
ack-connected (phase.Wanted s) e = e
ack-connected (phase.Stamped s t) e = e
ack-connected (phase.Requested s t) e = absurd (false≢true e)
ack-connected (phase.Accepted s t) e = e
ack-connected phase.Opened e = e
ack-connected (phase.Streaming n) e = e
ack-connected phase.Closing e = e
ack-connected phase.Finished e = e
ack-connected phase.Completed e = e
ack-connected (phase.Failed f) e = e

-- a writer that hears the ack of an hsync's packet streams
streams-at : (x : WriterRecord) (p : Phase) (n : ℕ) (q : ℤ) → x.phase ≡ p → is_some (remedy_at_ack p) ≡ true → 2 ≤ reach_of p → x.waiting ≡ Formed n q → PhaseOpens p x.waiting → ((t : Stamp) → asked_stamp p ≡ Some t → setup_stamp p x.committed ≡ t → ⊥) → (sent : ℕ) × (x.phase ≡ phase.Streaming sent)
streams-at x phase.Closed n q e a r w o u = absurd (false≢true a)
streams-at x (phase.Wanted s) n q e a r w o u = absurd (false≢true a)
streams-at x (phase.Stamped s t) n q e a r w o u = absurd (false≢true a)
streams-at x (phase.Requested s t) n q e a r w o u = absurd (false≢true a)
streams-at x (phase.Accepted s t) n q e a r w o u = absurd (u t refl refl)
streams-at x phase.Opened n q e a r w o u = absurd (opening-apart n q (sym o ∙ w))
streams-at x (phase.Streaming sent) n q e a r w o u = (sent, e)
streams-at x phase.Closing n q e a r w o u = absurd (omega (arith, r))
streams-at x phase.Finished n q e a r w o u = absurd (false≢true a)
streams-at x phase.Completed n q e a r w o u = absurd (false≢true a)
streams-at x (phase.Failed f) n q e a r w o u = absurd (false≢true a)

-- a good ack is of the oldest packet, and has no bad reply
good-of : (o : Option Packet) (n : ℕ) (a : Ack) → ack_verdict (option_map (λ (p : Packet). p.seqno) o) n a ≡ verdict.Good → (p : Packet) × (o ≡ Some p) × (p.seqno ≡ a.seqno) × (failures a.replies ≡ 0)
good-of None n a e = absurd (bad-apart e)
  where
    bad-apart : verdict.Bad 0 ≡ verdict.Good → ⊥
    bad-apart e = cc
good-of (Some p) n a e = let z = verdict-good p n a e in (p, refl, z.0, z.1)

-- ITS PACKET IS ACKED

-- a writer that streams, and its connection
pub record Streams (g : Givens) (w : World) (b c : ℕ) (x : WriterRecord) : Type 0 where
  pub is : heard (w.writers b) ≡ x
  pub conn : (w.writers b).conn ≡ Some c
  pub sent : ℕ
  pub at : x.phase ≡ phase.Streaming sent

pub pipe-of : (w : World) (b c : ℕ) (x : WriterRecord) → heard (w.writers b) ≡ x → (w.writers b).conn ≡ Some c → is_connected x.phase ≡ true → PipedOf w b → IsPipeline w.past b (setup_stamp x.phase x.committed) x.members c
pipe-of w b c x e conn k piped =
    let p = (subst (λ (z : WriterRecord). is_connected z.phase ≡ true → Piped w.past b z (w.writers b).conn) e piped) k in
    subst (λ (d : ℕ). IsPipeline w.past b (setup_stamp x.phase x.committed) x.members d) (same_Some p.at c (sym p.is ∙ conn)) p.pipeline

-- the committed stamp of a writer that streams is of its session, and none later was asked under
pub record Committed (g : Givens) (w : World) (b c : ℕ) (x : WriterRecord) : Type 0 where
  pub pipeline : IsPipeline w.past b x.committed x.members c
  pub given : g b x.committed.0 ≡ Some (w.latest b)
  pub newest : (i : ℕ) (f : WriteFields) → Asked w.past i f → block_of f ≡ b → (new_stamp f).0 ≤ x.committed.0

pub committed-of : (g : Givens) (t : Ends) (h : Histories) (w : World) (b c : ℕ) (x : WriterRecord) → Around g t h w → Streams g w b c x → Committed g w b c x
committed-of g t h w b c x a s = record {
  pipeline = pipe;
  given = subst (λ (z : Stamp). g b z.0 ≡ Some (w.latest b)) stamp says.given;
  newest = newest;
}
  where
    pipe : IsPipeline w.past b x.committed x.members c
    pipe = subst (λ (p : Phase). IsPipeline w.past b (setup_stamp p x.committed) x.members c) s.at (pipe-of w b c x s.is s.conn (ap is_connected s.at) (a.piped b))

    says : ConnSays g w.past b (w.latest b) c
    says = subst (λ (o : Option ℕ). IfSome o (ConnSays g w.past b (w.latest b))) s.conn (a.known.facts.carried.writers b).conn

    stamp : says.stamp ≡ x.committed
    stamp = sets-once w.past c says.stamp x.committed says.sets (record { fields = pipe.fields; first = pipe.asked; is = pipe.stamp_is })

    newest : (i : ℕ) (f : WriteFields) → Asked w.past i f → block_of f ≡ b → (new_stamp f).0 ≤ x.committed.0
    newest i f q block =
        let y = a.joins.given i f q in
        let fits : Fits (a.joins.setups b) (w.latest b) None x = subst (λ (z : WriterRecord). Fits (a.joins.setups b) (w.latest b) None z) s.is (a.joins.fits b) in
        let at = subst (λ (p : Phase). InPhase (a.joins.setups b) (w.latest b) None x.committed x.waiting x.stream.unacked p) s.at fits in
        at.0.newest.last refl (new_stamp f).0 y.0 (subst (λ (d : ℕ). a.joins.setups d (new_stamp f).0 ≡ Some y.0) block y.1)

acked-reached : (g : Givens) (t : Ends) (h : Histories) (w : World) (b c n : ℕ) (x : WriterRecord) (q : ℤ) → Around g t h w → Streams g w b c x → FormedOk g h w b (w.latest b) x n q → AckSyncs h w c q → SyncReached g h w b (w.latest b) x.committed x.members n
acked-reached g t h w b c n x q a s f told = record {
  from = x.committed.0;
  conn = c;
  fields = k.pipeline.fields;
  asked = record { first = k.pipeline.asked };
  block_is = k.pipeline.block_is;
  stamp_is = ap (λ (z : Stamp). z.0) k.pipeline.stamp_is;
  given = k.given;
  least = omega arith;
  requests = λ i r y block given lt. absurd (omega (arith, lt, k.newest i r y block));
  first = first;
  seats = λ u i m has lt le given j. seat u i m has lt le given (a.known.acked.joins u m.0 i j);
}
  where
    k : Committed g w b c x
    k = committed-of g t h w b c x a s

    first : (m : NodeId) → Has x.members m → m.0 < w.nodes → SyncSeat h w b x.committed.0 m.0 n
    first m has lt =
        let y = member-took h w b c x.committed x.members m q a.joins lt k.pipeline told has in
        let z = f.downs y.came.conn y.came.place y.sent x.committed y.came.there (record { fields = y.came.fields; first = y.came.asked.first; is = y.came.stamp_is }) k.given y.number in
        seat-less h w b x.committed.0 m.0 n (packet_end y.sent) z.1 (y.seat z.0)

    seat : (u i : ℕ) (m : NodeId) → Has x.members m → m.0 < w.nodes → x.committed.0 ≤ u → g b u ≡ Some (w.latest b) → JoinSeat g w u m.0 i → SyncSeat h w b u m.0 n
    seat u i m has lt le given o =
        let block : block_of o.fields ≡ b = a.known.facts.recorded.one (block_of o.fields) b u o.session (w.latest b) (ap (λ (z : ℕ). g (block_of o.fields) z) (sym o.is) ∙ o.pipe.given) given in
        subst (λ (z : ℕ). SyncSeat h w b z m.0 n) (same x.committed.0 u le (omega (arith, k.newest o.conn o.fields o.pipe.asked block, o.is))) (first m has lt)
      where
        same : (i j : ℕ) → i ≤ j → j ≤ i → i ≡ j
        same i j c d = omega arith

get-drop : (xs : List Packet) (j : ℕ) (p : Packet) → slice_get (drop 1 xs) j ≡ Some p → slice_get xs (suc j) ≡ Some p
get-drop [] j p q = absurd (none-some p q)
get-drop (x ∷ xs) j p q = q

drop-get : (xs : List Packet) (j : ℕ) (p : Packet) → slice_get xs (suc j) ≡ Some p → slice_get (drop 1 xs) j ≡ Some p
drop-get [] j p q = absurd (none-some p q)
drop-get (x ∷ xs) j p q = q

-- an ack of the oldest packet leaves what waits
pub acks-own : (g : Givens) (t : Ends) (h j : Histories) (w v : World) (b c : ℕ) (x y : WriterRecord) (k : Ack) → Around g t h w → Frame g g t h j w v NoPacket NoFields → heard (w.writers b) ≡ x → (w.writers b).conn ≡ Some c → UpSyncs h w c (ack k) → AcksWait x y k → reach_of y.phase ≤ reach_of x.phase
    → WriterWaits g h w b (w.latest b) x → WriterWaits g j v b (w.latest b) y
acks-own g t h j w v b c x y k a fr e conn up acks reach old = subst (λ (z : WriterRecord). WriterWaits g j v b (w.latest b) z) (sym acks.is) (go (good-of (slice_get x.stream.unacked 0) (length x.members) k acks.good))
  where
    go : (p : Packet) × (slice_get x.stream.unacked 0 ≡ Some p) × (p.seqno ≡ k.seqno) × (failures k.replies ≡ 0) → WriterWaits g j v b (w.latest b) (acked_oldest x)
    go (p, first, number, clean) n q waits r = record {
      number = f.number;
      is = f.is;
      below = subst (λ (s : StreamState). f.number < s.seqno) (sym stream) f.below;
      downs = synced-on g g t h j w v NoPacket NoFields b (w.latest b) n q fr f.downs (λ d s new. absurd new);
      unacked = λ i d there same. f.unacked (suc i) d (get-drop x.stream.unacked i d (subst (λ (s : StreamState). slice_get s.unacked i ≡ Some d) stream there)) same;
      stands = stands f.stands;
    }
      where
        f : FormedOk g h w b (w.latest b) x n q
        f = old n q waits (omega (arith, r, reach, ap (λ (z : WriterRecord). reach_of z.phase) acks.is))

        stream : (acked_oldest x).stream ≡ acked_packet x.stream (Some p)
        stream = ap (λ (o : Option Packet). acked_packet x.stream o) first

        pipe : IsPipeline w.past b (setup_stamp x.phase x.committed) x.members c
        pipe = pipe-of w b c x e conn (ack-connected x.phase acks.hears) (a.piped b)

        ack-of : p.seqno ≡ q → AckSyncs h w c q
        ack-of s = subst (λ (z : ℤ). AckSyncs h w c z) (sym number ∙ s) (up clean)

        none : (s : AckSyncs h w c q) (u : Stamp) → asked_stamp x.phase ≡ Some u → setup_stamp x.phase x.committed ≡ u → ⊥
        none s u asked is =
            let same : s.fields ≡ pipe.fields = same-asked w c s.fields pipe.fields s.asked (record { first = pipe.asked }) in
            let sets : new_stamp s.fields ≡ u = ap new_stamp same ∙ pipe.stamp_is ∙ is in
            (subst (λ (z : WriterRecord). NoneSent w z) e (a.waits.unsent b)) u asked s.here.came.conn s.here.came.place s.here.sent s.here.came.there (record { fields = s.here.came.fields; first = s.here.came.asked.first; is = s.here.came.stamp_is ∙ sets })

        streams : p.seqno ≡ q → Streams g w b c x
        streams s =
            let z = streams-at x x.phase n q refl acks.hears (omega (arith, r, reach, ap (λ (z : WriterRecord). reach_of z.phase) acks.is)) waits (subst (λ (z : WriterRecord). WaitedOf z) e (a.waited b)).opens (none (ack-of s)) in
            record { is = e; conn = conn; sent = z.0; at = z.1 }

        stands : ((i : ℕ) × (d : Packet) × (slice_get x.stream.unacked i ≡ Some d) × (d.seqno ≡ q)) ⊎ SyncReached g h w b (w.latest b) x.committed x.members n
            → ((i : ℕ) × (d : Packet) × (slice_get (acked_oldest x).stream.unacked i ≡ Some d) × (d.seqno ≡ q)) ⊎ SyncReached g j v b (w.latest b) x.committed x.members n
        stands (inr z) = inr (reached-on g g t h j w v NoPacket NoFields b (w.latest b) n x.committed x.committed x.members x.members fr z (λ m has. has) z.least (λ o new. absurd new))
        stands (inl (zero, d, there, same)) =
            let s : p.seqno ≡ q = ap (λ (o : Packet). o.seqno) (same_Some p d (sym first ∙ there)) ∙ same in
            let z = acked-reached g t h w b c n x q a (streams s) f (ack-of s) in
            inr (reached-on g g t h j w v NoPacket NoFields b (w.latest b) n x.committed x.committed x.members x.members fr z (λ m has. has) z.least (λ o new. absurd new))
        stands (inl (suc i, d, there, same)) = inl (i, d, subst (λ (s : StreamState). slice_get s.unacked i ≡ Some d) (sym stream) (drop-get x.stream.unacked i d there), same)
