-- What a change leaves of the lengths of FINALIZED replicas, and what is needed of what is new in it.
use Rattle.std.proofs.Common.{◌≡◌, ℕ, ◌<◌, ◌+◌, ◌⊎◌, inl, inr, true, List, [], length, length-append, slice_get, Option, Some, None, IfSome, refl, sym, ◌∙◌, ap, subst, arith, eqb-true, ◌≤◌}
use Rattle.std.specs.Prelude.{◌==◌}
use Rattle.hd_base.specs.declared.numbers.Stamp.{Stamp}
use Rattle.name_core.specs.Offices.{OfficeState, record_of}
use Rattle.op_headers.specs.declared.ops.Op.{Op}
use Rattle.op_headers.specs.declared.ops.Op.TheVariants as op
use Rattle.member_core.specs.Requests.{setup_with}
use Rattle.replica_core.specs.declared.info.ReplicaInfo.{ReplicaInfo}
use Rattle.replica_model.specs.Rows.{FullReplica, row}
use Rattle.packet_stream.specs.Streams.{StreamState, packet_end}
use Rattle.recovery_core.specs.declared.primary.Phase.{Phase as LeadPhase}
use Rattle.recovery_core.specs.declared.primary.Phase.TheVariants as lead_phase
use Rattle.recovery_core.specs.declared.standings.Standing.{Standing}
use Rattle.writer_core.specs.declared.phases.Phase.{Phase}
use Rattle.writer_core.specs.declared.phases.Phase.TheVariants as phase
use Rattle.writer_core.specs.declared.records.WriterRecord.{WriterRecord}
use Rattle.world.specs.Parts.{Message, request, packet, ack, response, read_status, recovery_answer, Writing, Primary, no_primary, was_told, leads, has_led, Break}
use Rattle.world.specs.Worlds.{Past, World, Dial, Stamped, Change, put, past_after, latest_with, apply}
use Rattle.world_laws.specs.Growing.{Grows}
use Rattle.world_laws.proofs.FactTables.{if-each, put-each, some-weaker}
use Rattle.world_laws.specs.Stamping.{Givens, heard, Recorded}
use Rattle.world_laws.specs.Carrying.{new_stamp, Sets, DownSays, Asks}
use Rattle.world_laws.proofs.ByteLeaves.{Facts}
use Rattle.world_laws.proofs.ByteFrame.{past-grows, unwritten}
use Rattle.world_laws.proofs.ByteWriting.{only-own}
use Rattle.world_laws.proofs.SetupNodes.{put-at-split}
use Rattle.world_recoveries.specs.Recovering.{Updates, HasId}
use Rattle.world_recoveries.proofs.Histories.{begins-get, NewDown, was_sent, is_sent, is_dialled, new-down}
use Rattle.world_finals.specs.Finishing.{Ids, writes_no_more, EndsAt, FinalLength, of_recovery, of_session, ClosedLength, by_recovery, by_writer, EntryEnds, SessionBegins, first_session, begins_behind, least_asked, has_packets, AcksFrom, PhaseSent, LeadSent, DownEnds, IsFinalOf, LastPending, ReplicaEnds, BreakEnds, SetsNoId, WriterEnds, Finals, Earlier}
use Rattle.std.proofs.lemmas.Bool.{cases_lt}
use Rattle.std.proofs.lemmas.Option.{same_Some}
use Rattle.world_recoveries.specs.Naming.{IsBefore, NamesPast}

-- WHAT STAYS

-- From one world to another: ids and stamps stay, the past grows, and what is at its end stays there.
pub record Stays (f : Ids) (g : Givens) (w : World) (e : Ids) (l : Givens) (v : World) : Type 0 where
  pub ids : (t : ℕ) → t < w.office.next.0 → e t ≡ f t
  pub below : (t : ℕ) → f t ≡ true → t < w.office.next.0
  pub given_below : (b t s : ℕ) → g b t ≡ Some s → t < w.office.next.0
  pub past : Grows w.past v.past
  pub same : (b t s : ℕ) → g b t ≡ Some s → l b t ≡ Some s
  pub back : (b t u s d : ℕ) → l b t ≡ Some s → g b u ≡ Some d → t ≤ u → g b t ≡ Some s
  pub ends : (b t n : ℕ) → EndsAt g w b t n → EndsAt l v b t n

updates-later : (h p : Past) (c b : ℕ) (id : Stamp) (n : ℕ) → Grows h p → Updates h c b id n → Updates p c b id n
updates-later h p c b id n d u = record {
  asked = u.asked;
  place = u.place;
  there = begins-get (h.downs c) (p.downs c) u.place (request (op.Recovery u.asked)) (d.downs c) u.there;
  is_update = u.is_update;
  block = u.block;
  recovery = u.recovery;
  length = u.length;
}

pub sets-grow : (h p : Past) (c : ℕ) (t : Stamp) → Grows h p → Sets h c t → Sets p c t
sets-grow h p c t d s = record { fields = s.fields; first = begins-get (h.downs c) (p.downs c) 0 (request (op.Write s.fields)) (d.downs c) s.first; is = s.is }

pub final-stays : (f : Ids) (g : Givens) (w : World) (e : Ids) (l : Givens) (v : World) (b t n : ℕ) → Stays f g w e l v → FinalLength f g w b t n → FinalLength e l v b t n
final-stays f g w e l v b t n s (of_recovery q c d u) = of_recovery (s.ids t (s.below t q) ∙ q) c d (updates-later w.past v.past c d (record { 0 = t }) n s.past u)
final-stays f g w e l v b t n s (of_session q x) = of_session (s.ids t (s.given_below b t x.session x.given) ∙ q) (s.ends b t n x)

is-final-stays : (f : Ids) (g : Givens) (w : World) (e : Ids) (l : Givens) (v : World) (b : ℕ) (i : ReplicaInfo) → Stays f g w e l v → IsFinalOf f g w b i → IsFinalOf e l v b i
is-final-stays f g w e l v b i s h = λ q. final-stays f g w e l v b i.stamp.0 i.written s (h q)

pub replica-stays : (f : Ids) (g : Givens) (w : World) (e : Ids) (l : Givens) (v : World) (b : ℕ) (r : FullReplica) → Stays f g w e l v → ReplicaEnds f g w b r → ReplicaEnds e l v b r
replica-stays f g w e l v b r s h = record {
  final = some-weaker (IsFinalOf f g w b) (IsFinalOf e l v b) r.known.info (λ i x. is-final-stays f g w e l v b i s x) h.final;
  last = some-weaker (LastPending g w b r.known.pending) (LastPending l v b r.known.pending) r.known.info (λ i x. record { ends = λ j p q z. s.ends b i.stamp.0 i.written (x.ends j p q z) }) h.last;
}

pub break-stays : (f : Ids) (g : Givens) (w : World) (e : Ids) (l : Givens) (v : World) (b : ℕ) (x : Break) → Stays f g w e l v → BreakEnds f g w b x → BreakEnds e l v b x
break-stays f g w e l v b x s h = record {
  before = some-weaker (IsFinalOf f g w b) (IsFinalOf e l v b) x.before.known.info (λ i y. is-final-stays f g w e l v b i s y) h.before;
  after = some-weaker (IsFinalOf f g w b) (IsFinalOf e l v b) (row x.before x.event).known.info (λ i y. is-final-stays f g w e l v b i s y) h.after;
  keeps = h.keeps;
}

-- CLOSED BLOCKS

pub closed-stays : (f : Ids) (g : Givens) (w : World) (e : Ids) (l : Givens) (v : World) (b t n : ℕ) → Stays f g w e l v → ClosedLength f g w b t n → ClosedLength e l v b t n
closed-stays f g w e l v b t n s (by_recovery q c d u) = by_recovery (s.ids t (s.below t q) ∙ q) c d (updates-later w.past v.past c d (record { 0 = t }) n s.past u)
closed-stays f g w e l v b t n s (by_writer x) = by_writer (record { ends = ends; last = last })
  where
    ends : EndsAt l v b t n
    ends = s.ends b t n x.ends

    last : (u d : ℕ) → l b u ≡ Some d → u ≤ t → d ≤ ends.session
    last u d q le =
        let same : x.ends.session ≡ ends.session = same_Some x.ends.session ends.session (sym (s.same b t x.ends.session x.ends.given) ∙ ends.given) in
        omega (arith, x.last u d (s.back b u t d x.ends.session q x.ends.given le) le, same)

-- records of blocks that stay
pub entries-stay : (f : Ids) (g : Givens) (w : World) (e : Ids) (l : Givens) (v : World) (o : OfficeState) → Stays f g w e l v → o ≡ w.office → ((b : ℕ) → IfSome (record_of w.office (record { 0 = b })) (EntryEnds f g w b)) → (b : ℕ) → IfSome (record_of o (record { 0 = b })) (EntryEnds e l v b)
entries-stay f g w e l v o s same h b =
    subst (λ (q : OfficeState). IfSome (record_of q (record { 0 = b })) (EntryEnds e l v b)) (sym same)
    (some-weaker (EntryEnds f g w b) (EntryEnds e l v b) (record_of w.office (record { 0 = b })) (λ r x. record { closed = λ q. closed-stays f g w e l v b r.committed.0 r.length s (x.closed q) }) (h b))

-- HOW SESSIONS BEGIN

pub begins-stays : (f : Ids) (g : Givens) (w : World) (e : Ids) (l : Givens) (v : World) (b i n : ℕ) → Stays f g w e l v → g b i ≡ Some i → SessionBegins f g w b i n → SessionBegins e l v b i n
begins-stays f g w e l v b i n s own (first_session h) = first_session (λ t d q. go t d q (cases_lt t i))
  where
    go : (t d : ℕ) → l b t ≡ Some d → (t < i) ⊎ (i ≤ t) → i ≤ t
    go t d q (inl z) = h t d (s.back b t i d i q own (omega (arith, z)))
    go t d q (inr z) = z
begins-stays f g w e l v b i n s own (begins_behind c m x k le) =
    begins_behind c m (record { base = x.base; is = s.same b c x.base x.is; less = x.less; last = λ t d q z. x.last t d (s.back b t i d i q own (omega (arith, z))) z }) (closed-stays f g w e l v b c m s k) le

pub begins-more : (f : Ids) (g : Givens) (w : World) (b i n m : ℕ) → n ≤ m → SessionBegins f g w b i n → SessionBegins f g w b i m
begins-more f g w b i n m le (first_session h) = first_session h
begins-more f g w b i n m le (begins_behind c k x y z) = begins_behind c k x y (omega (arith, le, z))

-- a session that had begun
pub session-stays : (f : Ids) (g : Givens) (w : World) (e : Ids) (l : Givens) (v : World) (b i : ℕ) → Stays f g w e l v → Finals f g w → g b i ≡ Some i → SessionBegins e l v b i (length (v.written i))
session-stays f g w e l v b i s h q =
    let x = s.past.written i in
    let more : length (w.written i) ≤ length (v.written i) = omega (arith, ap (λ (xs : List ℕ). length xs) x.joins, length-append (w.written i) x.rest) in
    begins-more e l v b i (length (w.written i)) (length (v.written i)) more (begins-stays f g w e l v b i (length (w.written i)) s q (h.sessions b i q))

-- what a writer has acked
pub acks-stays : (f : Ids) (g : Givens) (w : World) (e : Ids) (l : Givens) (v : World) (b n : ℕ) (x : WriterRecord) → Stays f g w e l v → AcksFrom f g w b n x → AcksFrom e l v b n x
acks-stays f g w e l v b n x s h = record {
  begins = λ q. let y = h.begins q in (s.same b n n y.0, begins-stays f g w e l v b n x.stream.acked s y.0 y.1);
  first = λ t q. begins-stays f g w e l v b n 0 s (h.begins (ap has_packets q)).0 (h.first t q);
}

-- what was sent of a recovery stays sent
phase-sent : (h p : Past) (id : Stamp) (q : LeadPhase) (ss : List Standing) → Grows h p → PhaseSent h id q ss → PhaseSent p id q ss
phase-sent h p id (lead_phase.Updating n) ss d x = λ i s e u. let y = x i s e u in record { conn = y.conn; block = y.block; sent = updates-later h p y.conn y.block id n d y.sent }
phase-sent h p id lead_phase.Informing ss d x = tt
phase-sent h p id lead_phase.Over ss d x = tt

pub lead-sent : (h p : Past) (x : Primary) → Grows h p → LeadSent h x → LeadSent p x
lead-sent h p no_primary d x = tt
lead-sent h p (was_told b t) d x = tt
lead-sent h p (leads l) d x = phase-sent h p l.state.begun.id l.state.phase l.state.standings d x
lead-sent h p (has_led r) d x = tt

-- the stamp of a write request was given
abbrev pub StampBelow : World → Message → Type 0
StampBelow w (request (op.Write q)) = (new_stamp q).0 < w.office.next.0
StampBelow w _ = Unit {0}

op-below : (g : Givens) (w : World) (c : ℕ) (o : Op) → Recorded g w → DownSays g w.past c (request o) → StampBelow w (request o)
op-below g w c (op.Write q) r y = r.below q.block.block.0 (new_stamp q).0 y.session y.given
op-below g w c (op.Recovery q) r y = tt
op-below g w c (op.Read q) r y = tt
op-below g w c (op.Transfer q) r y = tt
op-below g w c (op.Checksum q) r y = tt

pub down-below : (g : Givens) (w : World) (c : ℕ) (m : Message) → Recorded g w → DownSays g w.past c m → StampBelow w m
down-below g w c (request o) r y = op-below g w c o r y
down-below g w c (packet p) r y = tt
down-below g w c (ack a) r y = tt
down-below g w c (response q) r y = tt
down-below g w c (read_status q) r y = tt
down-below g w c (recovery_answer a) r y = tt

-- what names no stamp before the last one before a session does so still
past-stays : (f : Ids) (g : Givens) (w : World) (e : Ids) (l : Givens) (v : World) (b named own session : ℕ) → Stays f g w e l v → g b own ≡ Some session → NamesPast (g b) named own → NamesPast (l b) named own
past-stays f g w e l v b named own session s given h = record { each = λ c i x q lt. go c i x q lt (cases_lt own i) }
  where
    go : (c i : ℕ) → l b i ≡ Some i → IsBefore (l b) c i → c < own → (own < i) ⊎ (i ≤ own) → c ≤ named
    go c i x q lt (inl z) = absurd (omega (arith, lt, q.last own session (s.same b own session given) z))
    go c i x q lt (inr z) =
        let old : g b i ≡ Some i = s.back b i own i session x given z in
        h.each c i old (record { base = q.base; is = s.back b c i q.base i q.is old (omega (arith, q.less)); less = q.less; last = λ t d y le. q.last t d (s.same b t d y) le }) lt

op-stays : (f : Ids) (g : Givens) (w : World) (e : Ids) (l : Givens) (v : World) (c : ℕ) (o : Op) → Stays f g w e l v → StampBelow w (request o) → DownEnds f g w c (request o) → DownEnds e l v c (request o)
op-stays f g w e l v c (op.Write q) s y h = record {
  no_id = s.ids (new_stamp q).0 y ∙ h.no_id;
  session = h.session;
  given = s.same q.block.block.0 (new_stamp q).0 h.session h.given;
  past = past-stays f g w e l v q.block.block.0 q.block.stamp.0 (new_stamp q).0 h.session s h.given h.past;
  closes = λ k. s.ends q.block.block.0 (new_stamp q).0 q.min (h.closes k);
  own = s.same q.block.block.0 h.session h.session h.own;
  opens = begins-stays f g w e l v q.block.block.0 h.session (least_asked (setup_with q.stage) q.min) s h.own h.opens;
}
op-stays f g w e l v c (op.Recovery q) s y h = s.ids q.recovery.0 (s.below q.recovery.0 h) ∙ h
op-stays f g w e l v c (op.Read r) s y h = tt
op-stays f g w e l v c (op.Transfer r) s y h = tt
op-stays f g w e l v c (op.Checksum r) s y h = tt

pub down-stays : (f : Ids) (g : Givens) (w : World) (e : Ids) (l : Givens) (v : World) (c : ℕ) (m : Message) → Stays f g w e l v → StampBelow w m → DownEnds f g w c m → DownEnds e l v c m
down-stays f g w e l v c (request o) s y h = op-stays f g w e l v c o s y h
down-stays f g w e l v c (packet p) s y h = λ q. let x = h q in record { stamp = x.stamp; sets = sets-grow w.past v.past c x.stamp s.past x.sets; block = x.block; ends = s.ends x.block x.stamp.0 (packet_end p) x.ends }
down-stays f g w e l v c (ack a) s y h = tt
down-stays f g w e l v c (response r) s y h = tt
down-stays f g w e l v c (read_status r) s y h = tt
down-stays f g w e l v c (recovery_answer a) s y h = tt

-- WHAT IS NEW

pub record News (f : Ids) (g : Givens) (w : World) (k : Change) : Type 0 where
  pub replica : ReplicaEnds f g (apply w k) k.block k.replica
  pub broke : IfSome k.broke (BreakEnds f g (apply w k) k.block)
  pub downs : (c j : ℕ) (m : Message) → slice_get (k.downs c) j ≡ Some m → DownEnds f g (apply w k) c m
  pub dials : (j : ℕ) (d : Dial) → slice_get k.dials j ≡ Some d → DownEnds f g (apply w k) (w.next_conn + j) d.request
  pub writer : WriterEnds (heard k.writer)
  pub stamp : SetsNoId f (heard k.writer).phase
  pub primary : (id : Stamp) → HasId k.primary id → f id.0 ≡ true
  pub below : (t : ℕ) → f t ≡ true → t < k.office.next.0
  pub earlier : Earlier f g
  pub sends : LeadSent (past_after w k) k.primary
  pub entries : (b : ℕ) → IfSome (record_of k.office (record { 0 = b })) (EntryEnds f g (apply w k) b)
  pub sessions : (b i : ℕ) → g b i ≡ Some i → SessionBegins f g (apply w k) b i (length ((apply w k).written i))
  pub acks : (b : ℕ) → AcksFrom f g (apply w k) b (latest_with w.latest k.stamped b) (heard (put w.writers k.writer_at k.writer b))

pub sets-stays : (f : Ids) (g : Givens) (w : World) (e : Ids) (l : Givens) (v : World) (b n : ℕ) (c : Stamp) (x : StreamState) (p : Phase) → Stays f g w e l v → Asks (g b) w.past n c x p → SetsNoId f p → SetsNoId e p
sets-stays f g w e l v b n c x (phase.Stamped way t) s a h = s.ids t.0 (s.given_below b t.0 n a.given) ∙ h
sets-stays f g w e l v b n c x phase.Closed s a h = tt
sets-stays f g w e l v b n c x (phase.Wanted way) s a h = tt
sets-stays f g w e l v b n c x (phase.Requested way t) s a h = tt
sets-stays f g w e l v b n c x (phase.Accepted way t) s a h = tt
sets-stays f g w e l v b n c x phase.Opened s a h = tt
sets-stays f g w e l v b n c x (phase.Streaming sent) s a h = tt
sets-stays f g w e l v b n c x phase.Closing s a h = tt
sets-stays f g w e l v b n c x phase.Finished s a h = tt
sets-stays f g w e l v b n c x phase.Completed s a h = tt
sets-stays f g w e l v b n c x (phase.Failed d) s a h = tt

keeps-downs : (f : Ids) (g : Givens) (w : World) (e : Ids) (l : Givens) (k : Change) → Finals f g w → Facts g w → Stays f g w e l (apply w k) → News e l w k → (c i : ℕ) (m : Message) → slice_get ((past_after w k).downs c) i ≡ Some m → DownEnds e l (apply w k) c m
keeps-downs f g w e l k h a s n c i m q = go (new-down w k c i m q)
  where
    go : NewDown w k c m → DownEnds e l (apply w k) c m
    go (was_sent j r) = down-stays f g w e l (apply w k) c m s (down-below g w c m a.recorded (a.carried.downs c j m r)) (h.downs c j m r)
    go (is_sent j r) = n.downs c j m r
    go (is_dialled j d r t u) = subst (λ (x : ℕ). DownEnds e l (apply w k) x m) u (subst (λ (x : Message). DownEnds e l (apply w k) (w.next_conn + j) x) t (n.dials j d r))

pub keeps : (f : Ids) (g : Givens) (w : World) (e : Ids) (l : Givens) (k : Change) → Finals f g w → Facts g w → Stays f g w e l (apply w k) → News e l w k → Finals e l (apply w k)
unfolding apply
keeps f g w e l k h a s n = record {
  below = n.below;
  earlier = n.earlier;
  entries = n.entries;
  sessions = n.sessions;
  acks = n.acks;
  sends = put-each (λ (i : ℕ) (x : Primary). LeadSent (past_after w k) x) w.primaries k.primary_at k.primary n.sends (λ i. lead-sent w.past (past_after w k) (w.primaries i) (past-grows w k) (h.sends i));
  downs = keeps-downs f g w e l k h a s n;
  replicas = put-at-split (λ (m b : ℕ) (r : FullReplica). ReplicaEnds e l (apply w k) b r) w.replicas k.node k.block k.replica n.replica (λ m b _. replica-stays f g w e l (apply w k) b (w.replicas m b) s (h.replicas m b));
  breaks = put-at-split (λ (m b : ℕ) (o : Option Break). IfSome o (BreakEnds e l (apply w k) b)) w.breaks k.node k.block k.broke n.broke
      (λ m b _. some-weaker (BreakEnds f g w b) (BreakEnds e l (apply w k) b) (w.breaks m b) (λ x z. break-stays f g w e l (apply w k) b x s z) (h.breaks m b));
  writers = put-each (λ (b : ℕ) (x : Writing). WriterEnds (heard x)) w.writers k.writer_at k.writer n.writer h.writers;
  stamps = put-each (λ (b : ℕ) (x : Writing). SetsNoId e (heard x).phase) w.writers k.writer_at k.writer n.stamp (λ b.
      let x = heard (w.writers b) in sets-stays f g w e l (apply w k) b (w.latest b) x.committed x.stream x.phase s (a.carried.writers b).asks (h.stamps b));
  primaries = put-each (λ (i : ℕ) (x : Primary). (id : Stamp) → HasId x id → e id.0 ≡ true) w.primaries k.primary_at k.primary n.primary (λ i id x.
      let y = h.primaries i id x in s.ids id.0 (s.below id.0 y) ∙ y);
}

-- WHAT IS AT ITS END STAYS THERE

-- A change that gives no stamp: its writer, where it wrote no more, writes no more, and bytes go nowhere, or to the latest session of a writer that
-- writes more.
pub record Ends (w : World) (k : Change) : Type 0 where
  pub stamped : k.stamped ≡ None
  pub shuts : writes_no_more (heard (w.writers k.writer_at)).phase ≡ true → writes_no_more (heard k.writer).phase ≡ true
  pub bytes : (k.bytes ≡ []) ⊎ ((k.session ≡ w.latest k.writer_at) × (writes_no_more (heard (w.writers k.writer_at)).phase ≡ true → k.bytes ≡ []))

latest-same : (f : ℕ → ℕ) (o : Option Stamped) (b : ℕ) → o ≡ None → latest_with f o b ≡ f b
latest-same f o b e = ap (λ (x : Option Stamped). latest_with f x b) e

-- a session at its end gets no bytes
shut-written : (g : Givens) (w : World) (k : Change) (b t n : ℕ) → Recorded g w → Ends w k → (x : EndsAt g w b t n) → (past_after w k).written x.session ≡ w.written x.session
shut-written g w k b t n r h x = unwritten w k x.session (λ e. go e h.bytes)
  where
    none : x.session ≡ k.session → k.session ≡ w.latest k.writer_at → (writes_no_more (heard (w.writers k.writer_at)).phase ≡ true → k.bytes ≡ []) → (x.session < w.latest b) ⊎ (writes_no_more (heard (w.writers b)).phase ≡ true) → k.bytes ≡ []
    none e s m y =
        let at : b ≡ k.writer_at = only-own g w r k.writer_at b t (subst (λ (d : ℕ). g b t ≡ Some d) (e ∙ s) x.given) in
        by at y
      where
        by : b ≡ k.writer_at → (x.session < w.latest b) ⊎ (writes_no_more (heard (w.writers b)).phase ≡ true) → k.bytes ≡ []
        by at (inl lt) = absurd (omega (arith, lt, e, s, ap w.latest at))
        by at (inr z) = m (subst (λ (d : ℕ). writes_no_more (heard (w.writers d)).phase ≡ true) at z)

    go : x.session ≡ k.session → (k.bytes ≡ []) ⊎ ((k.session ≡ w.latest k.writer_at) × (writes_no_more (heard (w.writers k.writer_at)).phase ≡ true → k.bytes ≡ [])) → k.bytes ≡ []
    go e (inl q) = q
    go e (inr q) = none e q.0 q.1 x.shut.is

pub ends-stay : (g : Givens) (w : World) (k : Change) → Recorded g w → Ends w k → (b t n : ℕ) → EndsAt g w b t n → EndsAt g (apply w k) b t n
unfolding apply
ends-stay g w k r h b t n x = record {
  session = x.session;
  given = x.given;
  shut = record { is = subst (λ (l : ℕ). (x.session < l) ⊎ (writes_no_more (heard (put w.writers k.writer_at k.writer b)).phase ≡ true)) (sym (latest-same w.latest k.stamped b h.stamped)) (go x.shut.is) };
  length = x.length ∙ ap (λ (v : List ℕ). length v) (sym (shut-written g w k b t n r h x));
}
  where
    go : (x.session < w.latest b) ⊎ (writes_no_more (heard (w.writers b)).phase ≡ true) → (x.session < w.latest b) ⊎ (writes_no_more (heard (put w.writers k.writer_at k.writer b)).phase ≡ true)
    go (inl lt) = inl lt
    go (inr z) = inr (if-each (λ (y : Writing). writes_no_more (heard y).phase ≡ true) (b == k.writer_at) k.writer (w.writers b)
        (λ e. h.shuts (subst (λ (d : ℕ). writes_no_more (heard (w.writers d)).phase ≡ true) (eqb-true b k.writer_at e) z)) (λ _. z))

pub grown : (w : World) (k : Change) → Grows w.past (apply w k).past
unfolding apply
grown w k = past-grows w k

pub stays-so : (f : Ids) (g : Givens) (w : World) (k : Change) → Finals f g w → Facts g w → Ends w k → Stays f g w f g (apply w k)
stays-so f g w k h a e = record { same = λ b t s x. x; back = λ b t u s d x _ _. x; ids = λ t _. refl; below = h.below; given_below = a.recorded.below; past = grown w k; ends = ends-stay g w k a.recorded e }

-- the records, the primaries and the sessions that a change leaves
pub record Leaves (f : Ids) (g : Givens) (w : World) (k : Change) : Type 0 where
  pub sends : LeadSent (past_after w k) k.primary
  pub entries : (b : ℕ) → IfSome (record_of k.office (record { 0 = b })) (EntryEnds f g (apply w k) b)
  pub sessions : (b i : ℕ) → g b i ≡ Some i → SessionBegins f g (apply w k) b i (length ((apply w k).written i))

pub leaves : (f : Ids) (g : Givens) (w : World) (k : Change) → Finals f g w → Stays f g w f g (apply w k) → k.office ≡ w.office → k.primary ≡ w.primaries k.primary_at → Leaves f g w k
leaves f g w k h s office primary = record {
  sends = subst (λ (x : Primary). LeadSent (past_after w k) x) (sym primary) (lead-sent w.past (past_after w k) (w.primaries k.primary_at) (past-grows w k) (h.sends k.primary_at));
  entries = entries-stay f g w f g (apply w k) k.office s office h.entries;
  sessions = λ b i q. session-stays f g w f g (apply w k) b i s h q;
}

-- what writers have acked where a change keeps the latest sessions
pub acks-kept : (f : Ids) (g : Givens) (w : World) (e : Ids) (l : Givens) (k : Change) → Finals f g w → Stays f g w e l (apply w k) → ((b : ℕ) → latest_with w.latest k.stamped b ≡ w.latest b) → AcksFrom f g w k.writer_at (w.latest k.writer_at) (heard k.writer)
    → (b : ℕ) → AcksFrom e l (apply w k) b (latest_with w.latest k.stamped b) (heard (put w.writers k.writer_at k.writer b))
acks-kept f g w e l k h s same new b =
    subst (λ (n : ℕ). AcksFrom e l (apply w k) b n (heard (put w.writers k.writer_at k.writer b))) (sym (same b))
    (put-each (λ (d : ℕ) (x : Writing). AcksFrom e l (apply w k) d (w.latest d) (heard x)) w.writers k.writer_at k.writer (acks-stays f g w e l (apply w k) k.writer_at (w.latest k.writer_at) (heard k.writer) s new)
    (λ d. acks-stays f g w e l (apply w k) d (w.latest d) (heard (w.writers d)) s (h.acks d)) b)

pub latest-stays : (w : World) (k : Change) → k.stamped ≡ None → (b : ℕ) → latest_with w.latest k.stamped b ≡ w.latest b
latest-stays w k e b = latest-same w.latest k.stamped b e
