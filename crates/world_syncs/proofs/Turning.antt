-- An ack without a bad reply goes up only where each member below took the packet of its number, with its sync.
use Rattle.std.proofs.Common.{◌≡◌, ℕ, ℤ, zero, suc, ◌<◌, ◌≤◌, Bool, true, false, List, [], ◌∷◌, slice_get, Option, Some, None, IfSome, refl, sym, ap, subst, ◌∙◌, arith, eqb-true}
use Rattle.std.specs.Prelude.{◌==◌}
use Rattle.std.specs.Ordering.{int_eq}
use Rattle.std.proofs.lemmas.Bool.{eqb-false}
use Rattle.std.proofs.lemmas.Bool.Decides.{nat_tests}
use Rattle.std.proofs.lemmas.Option.{none-some, same_Some}
use Rattle.hd_base.specs.declared.numbers.Stamp.{Stamp}
use Rattle.hd_base.specs.declared.states.Status.{Status}
use Rattle.hd_base.specs.declared.states.Status.TheVariants as status
use Rattle.ack_codec.specs.declared.acks.Ack.{Ack}
use Rattle.ack_codec.specs.declared.responses.Response.{Response}
use Rattle.op_headers.specs.declared.nodes.NodeRef.{NodeRef}
use Rattle.op_headers.specs.Values.{WriteFields}
use Rattle.packet_codec.specs.declared.packets.Packet.{Packet}
use Rattle.packet_stream.specs.Streams.{packet_end}
use Rattle.replica_core.specs.declared.ack_queue.PendingPacket.{PendingPacket}
use Rattle.replica_core.specs.declared.events.Event.TheVariants as event
use Rattle.replica_core.specs.declared.info.ReplicaInfo.{ReplicaInfo}
use Rattle.replica_model.specs.declared.events.ReplicaEvent.{ReplicaEvent}
use Rattle.replica_model.specs.declared.events.ReplicaEvent.TheVariants as replica_event
use Rattle.replica_model.specs.Rows.{FullReplica, IsFull, row}
use Rattle.member_core.specs.declared.inputs.FromAbove.{FromAbove}
use Rattle.member_core.specs.declared.inputs.FromAbove.TheVariants as above
use Rattle.member_core.specs.declared.member.Mirror.{Mirror}
use Rattle.member_core.specs.declared.member.Mirror.TheVariants as mirror
use Rattle.member_core.specs.declared.turns.Booked.TheVariants as booked
use Rattle.member_core.specs.declared.turns.Turn.{Turn}
use Rattle.member_core.specs.Acks.{is_success, failures, begins_with_bad_sum, is_read, are_replies, with_own}
use Rattle.member_core.specs.Members.{down_turn, up_turn, up_at, setup_turn, answered_turn, accept_turn, fail_turn, stream_turn, ack_turn, pass_turn, failed_turn, good_turn, partial_turn, spoiled_turn, give_up_turn, named_bad, ready_turn, ready_at, quiet_turn, idle_turn, patient_turn, bad_turn}
use Rattle.member_core.specs.declared.effects.SetupAnswer.{SetupAnswer}
use Rattle.member_core.specs.declared.effects.SetupAnswer.TheVariants as answer
use Rattle.member_core.specs.Requests.{request_from}
use Rattle.member_core.specs.Steps.{outcome_of, replica_after, oldest_at}
use Rattle.world.specs.Connections.{Next, message, the_end}
use Rattle.world.specs.Parts.{Message, request, packet, ack, response, read_status, recovery_answer, FullMember, Joined}
use Rattle.world.specs.Worlds.{World}
use Rattle.world.specs.Nodes.{below_of, node_of, node_on, replica_at, block_of, upward_message}
use Rattle.world.specs.Safe.{Has}
use Rattle.world_laws.proofs.FactTables.{if-each, and-left}
use Rattle.world_laws.specs.Stamping.{Givens}
use Rattle.world_laws.specs.Carrying.{new_stamp}
use Rattle.world_laws.specs.Joining.{joined_as}
use Rattle.world_acks.specs.Acking.{Shown, Asked, Ends}
use Rattle.world_acks.proofs.Seats.{shown-less}
use Rattle.world_syncs.proofs.Synced.{synced-less}
use Rattle.world_acks.proofs.Turning.{Acts, FromMirror, written-stamp, same-asked}
use Rattle.world_syncs.specs.Histories.{History, Histories, more_events}
use Rattle.world_syncs.specs.Syncing.{SyncedSince}
use Rattle.world_syncs.proofs.Rows.{AckShows, good-shown}
use Rattle.world_syncs.proofs.Seats.{takes, Replays, goes-synced, shown-written, SyncSeat}
use Rattle.world_syncs.proofs.Pending.{Came, KeepsSent, came-on, Awaits, AllAwait}

-- WHAT ACKS SAY

-- A packet of this number was sent to set up members of a block under a stamp; where it has sync, the node took it so.
pub record TookAt (h : Histories) (w : World) (b : ℕ) (stamp : Stamp) (n : ℕ) (seqno : ℤ) : Type 0 where
  pub sent : Packet
  pub came : Came w.past b stamp sent
  pub number : sent.seqno ≡ seqno
  pub seat : sent.sync ≡ true → SyncSeat h w b stamp.0 n (packet_end sent)

-- so did all members from a connection's lower end on
pub record AckSyncs (h : Histories) (w : World) (c : ℕ) (seqno : ℤ) : Type 0 where
  pub known : c < w.next_conn
  pub fields : WriteFields
  pub asked : Asked w.past c fields
  pub here : TookAt h w (block_of fields) (new_stamp fields) (node_of w c) seqno
  pub below : (i m : ℕ) (t : NodeRef) → slice_get fields.targets i ≡ Some t → node_on t.xfer ≡ Some m → TookAt h w (block_of fields) (new_stamp fields) m seqno

abbrev pub UpSyncs : Histories → World → ℕ → Message → Type 0
UpSyncs h w c (ack a) = failures a.replies ≡ 0 → AckSyncs h w c a.seqno
UpSyncs h w c _ = Unit {0}

-- what holds on
pub record Later (h l : Histories) (w v : World) : Type 0 where
  pub seats : (b s n j : ℕ) → SyncSeat h w b s n j → SyncSeat l v b s n j
  pub sent : KeepsSent w.past v.past
  pub conns : w.next_conn ≤ v.next_conn
  pub nodes : (c : ℕ) → c < w.next_conn → node_of v c ≡ node_of w c
  pub joined : (x : Joined) → Has w.joined x → Has v.joined x

pub took-on : (h l : Histories) (w v : World) (b : ℕ) (stamp : Stamp) (n : ℕ) (q : ℤ) → Later h l w v → TookAt h w b stamp n q → TookAt l v b stamp n q
took-on h l w v b stamp n q o x = record { sent = x.sent; came = came-on w.past v.past b stamp x.sent o.sent x.came; number = x.number; seat = λ s. o.seats b stamp.0 n (packet_end x.sent) (x.seat s) }

pub asked-on : (h l : Histories) (w v : World) (c : ℕ) (f : WriteFields) → Later h l w v → Asked w.past c f → Asked v.past c f
asked-on h l w v c f o x = record { first = o.sent.downs c 0 _ x.first }

pub ack-on : (h l : Histories) (w v : World) (c : ℕ) (q : ℤ) → Later h l w v → AckSyncs h w c q → AckSyncs l v c q
ack-on h l w v c q o x = record {
  known = omega (arith, x.known, o.conns);
  fields = x.fields;
  asked = asked-on h l w v c x.fields o x.asked;
  here = subst (λ (n : ℕ). TookAt l v (block_of x.fields) (new_stamp x.fields) n q) (sym (o.nodes c x.known)) (took-on h l w v (block_of x.fields) (new_stamp x.fields) (node_of w c) q o x.here);
  below = λ i m t a b. took-on h l w v (block_of x.fields) (new_stamp x.fields) m q o (x.below i m t a b);
}

pub up-on : (h l : Histories) (w v : World) (c : ℕ) (m : Message) → Later h l w v → UpSyncs h w c m → UpSyncs l v c m
up-on h l w v c (ack a) o x = λ e. ack-on h l w v c a.seqno o (x e)
up-on h l w v c (response r) o x = tt
up-on h l w v c (request r) o x = tt
up-on h l w v c (packet p) o x = tt
up-on h l w v c (read_status s) o x = tt
up-on h l w v c (recovery_answer a) o x = tt

-- A GOOD ACK

abbrev pub At : World → ℕ → FullMember → FullReplica
At w c m = replica_at w c (block_of m.fields)

abbrev Good : FullMember → PendingPacket → ReplicaEvent
Good m e = replica_event.Other (event.Ack m.state.conn e.seqno true)

-- what a call leaves of a history
abbrev pub history_after : History → Option ReplicaEvent → History
history_after x None = x
history_after x (Some e) = more_events x e

-- a later world in which a node's replica of a block and its history are these
pub record Then (h l : Histories) (w v : World) (n b : ℕ) (r : FullReplica) (x : History) : Type 0 where
  pub on : Later h l w v
  pub full : IsFull (v.replicas n b)
  pub at : v.replicas n b ≡ r
  pub history : l n b ≡ x
  pub lives : v.lives n ≡ w.lives n

-- what is needed of the world before
pub record Knows (g : Givens) (t : Ends) (h : Histories) (w : World) (c : ℕ) (m : FullMember) : Type 0 where
  pub acts : Acts g t w c m
  pub awaits : AllAwait h w
  pub replays : (n b : ℕ) → Replays (h n b) (w.replicas n b)

good-took : (g : Givens) (t : Ends) (h l : Histories) (w v : World) (c : ℕ) (m : FullMember) (e : PendingPacket) → Knows g t h w c m → slice_get (At w c m).known.pending 0 ≡ Some e
    → Then h l w v (node_of w c) (block_of m.fields) (row (At w c m) (Good m e)) (more_events (h (node_of w c) (block_of m.fields)) (Good m e)) → outcome_of (At w c m) (Some (Good m e)) ≡ booked.Taken
    → TookAt l v (block_of m.fields) (new_stamp m.fields) (node_of w c) e.seqno
good-took g t h l w v c m e k old y taken = go (good-shown r m.state.conn e.seqno (a.known.facts.full n b) (a.known.sets.plain n b) full taken)
  where
    a : Acts g t w c m
    a = k.acts

    n : ℕ
    n = node_of w c

    b : ℕ
    b = block_of m.fields

    r : FullReplica
    r = At w c m

    q : FullReplica
    q = row r (Good m e)

    full : IsFull q
    full = subst (λ (z : FullReplica). IsFull z) y.at y.full

    go : (x : AckShows r.known m.state.conn e.seqno q.known) × Shown q x.info.stamp.0 x.entry.end q.bytes → TookAt l v b (new_stamp m.fields) n e.seqno
    go (x, shown) =
        record {
          sent = o.sent;
          came = subst (λ (s : Stamp). Came v.past b s o.sent) stamp (came-on w.past v.past b x.info.stamp o.sent y.on.sent o.came);
          number = o.number;
          seat = λ s. record {
            life = (w.dialled c).to.life;
            joins = y.on.joined (joined_as (new_stamp m.fields).0 n (w.dialled c).to.life) a.tells.joins;
            born = omega (arith, y.lives, a.alive);
            holds = λ _ _ _ j le _. record { bytes = q.bytes; shown = shown-less (v.replicas n b) (new_stamp m.fields).0 j (packet_end o.sent) q.bytes le (subst (λ (z : FullReplica). Shown z (new_stamp m.fields).0 (packet_end o.sent) q.bytes) (sym y.at) shows); synced = synced-less j (packet_end o.sent) _ _ le (synced s) };
          };
        }
      where
        same : x.entry ≡ e
        same = same_Some x.entry e (sym x.oldest ∙ old)

        stamp : x.info.stamp ≡ new_stamp m.fields
        stamp = written-stamp g t w c m x.info x.stream a x.was x.writes (x.by ∙ a.conn)

        o : Awaits w.past (h n b) b x.info.stamp e
        o = (subst (λ (z : Option ReplicaInfo). IfSome z (λ i. (j : ℕ) (d : PendingPacket) → slice_get r.known.pending j ≡ Some d → Awaits w.past (h n b) b i.stamp d)) x.was (k.awaits.each n b)) 0 e old

        shows : Shown q (new_stamp m.fields).0 (packet_end o.sent) q.bytes
        shows = subst (λ (z : ℕ). Shown q (new_stamp m.fields).0 z q.bytes) (ap (λ (z : PendingPacket). z.end) same ∙ sym o.end) (subst (λ (z : Stamp). Shown q z.0 x.entry.end q.bytes) stamp shown)

        synced : o.sent.sync ≡ true → SyncedSince (l n b).first (l n b).events (packet_end o.sent)
        synced s =
            goes-synced (h n b) (l n b) r q (packet_end o.sent) (takes (Good m e) y.history refl) (k.replays n b) (shown-written q (new_stamp m.fields).0 (packet_end o.sent) q.bytes full shows)
            (subst (λ (z : ℕ). SyncedSince (h n b).first (h n b).events z) (sym o.end) (o.synced s))

-- the ack of a member that has no mirror
lone-syncs : (g : Givens) (t : Ends) (h l : Histories) (w v : World) (c : ℕ) (m : FullMember) (q : ℤ) → Knows g t h w c m → m.state.mirror ≡ mirror.Nobody → Later h l w v → TookAt l v (block_of m.fields) (new_stamp m.fields) (node_of w c) q → AckSyncs l v c q
lone-syncs g t h l w v c m q k none o x =
    let a = k.acts in
    record {
      known = omega (arith, a.tells.pipe.known, o.conns);
      fields = m.fields;
      asked = asked-on h l w v c m.fields o a.tells.pipe.asked;
      here = subst (λ (n : ℕ). TookAt l v (block_of m.fields) (new_stamp m.fields) n q) (sym (o.nodes c a.tells.pipe.known)) x;
      below = λ i d s y z. absurd (none-some s (subst (λ (xs : List NodeRef). slice_get xs i ≡ Some s) (a.tells.alone none) y));
    }

-- the ack of a member whose mirror has acked
passed-syncs : (g : Givens) (t : Ends) (h l : Histories) (w v : World) (c d : ℕ) (m : FullMember) (q : ℤ) → Knows g t h w c m → FromMirror w d m → Later h l w v → AckSyncs h w d q → TookAt l v (block_of m.fields) (new_stamp m.fields) (node_of w c) q → AckSyncs l v c q
passed-syncs g t h l w v c d m q k x o low own =
    let a = k.acts in
    record {
      known = omega (arith, a.tells.pipe.known, o.conns);
      fields = m.fields;
      asked = asked-on h l w v c m.fields o a.tells.pipe.asked;
      here = subst (λ (n : ℕ). TookAt l v (block_of m.fields) (new_stamp m.fields) n q) (sym (o.nodes c a.tells.pipe.known)) own;
      below = λ i n s y z. go i n s (subst (λ (xs : List NodeRef). slice_get xs i ≡ Some s) x.targets y) z;
    }
  where
    f : WriteFields
    f = request_from x.source m.fields x.rest

    same : low.fields ≡ f
    same = same-asked w d low.fields f low.asked x.asked

    here : TookAt h w (block_of m.fields) (new_stamp m.fields) (node_of w d) q
    here = subst (λ (y : WriteFields). TookAt h w (block_of y) (new_stamp y) (node_of w d) q) same low.here

    below : (i n : ℕ) (s : NodeRef) → slice_get x.rest i ≡ Some s → node_on s.xfer ≡ Some n → TookAt h w (block_of m.fields) (new_stamp m.fields) n q
    below = subst (λ (y : WriteFields). (i n : ℕ) (s : NodeRef) → slice_get y.targets i ≡ Some s → node_on s.xfer ≡ Some n → TookAt h w (block_of y) (new_stamp y) n q) same low.below

    go : (i n : ℕ) (s : NodeRef) → slice_get (x.first ∷ x.rest) i ≡ Some s → node_on s.xfer ≡ Some n → TookAt l v (block_of m.fields) (new_stamp m.fields) n q
    go zero n s y z =
        took-on h l w v (block_of m.fields) (new_stamp m.fields) n q o
        (subst (λ (j : ℕ). TookAt h w (block_of m.fields) (new_stamp m.fields) j q) (same_Some (node_of w d) n (sym x.node ∙ ap (λ (r : NodeRef). node_on r.xfer) (same_Some x.first s y) ∙ z)) here)
    go (suc i) n s y z = took-on h l w v (block_of m.fields) (new_stamp m.fields) n q o (below i n s y z)

-- TURNS

-- what was taken from below
abbrev pub HeardSyncs : Histories → World → ℕ → Next → Type 0
HeardSyncs h w d (message m) = UpSyncs h w d m
HeardSyncs h w d the_end = Unit {0}

-- what a turn sends, once its call was taken
pub record TurnSyncs (h : Histories) (w : World) (c : ℕ) (m : FullMember) (x : Turn) : Type 0 where
  pub sends : (l : Histories) (v : World) → Then h l w v (node_of w c) (block_of m.fields) (replica_after (At w c m) x.call) (history_after (h (node_of w c) (block_of m.fields)) x.call) → outcome_of (At w c m) x.call ≡ booked.Taken
      → IfSome x.effect.sends (λ u. UpSyncs l v c (upward_message m.fields u))

fail-syncs : (h : Histories) (w : World) (c : ℕ) (m : FullMember) (a : SetupAnswer) → TurnSyncs h w c m (fail_turn m.state a)
fail-syncs h w c m a = record { sends = λ l v _ _. tt }

one-bad : failures (status.Success ∷ status.Error ∷ []) ≡ 0 → ⊥
one-bad e = absurd (omega (arith, e))

sum-bad : failures (status.ErrorChecksum ∷ []) ≡ 0 → ⊥
sum-bad e = absurd (omega (arith, e))

give-up-syncs : (h : Histories) (w : World) (c : ℕ) (m : FullMember) (e : PendingPacket) → TurnSyncs h w c m (give_up_turn m.state e)
give-up-syncs h w c m e = record { sends = λ l v _ _ q. absurd (one-bad q) }

bad-syncs : (h : Histories) (w : World) (c : ℕ) (m : FullMember) (q : ℤ) → TurnSyncs h w c m (bad_turn m.state q)
bad-syncs h w c m q = record { sends = λ l v _ _ e. absurd (sum-bad e) }

own-good : (rs : List Status) → failures (with_own rs) ≡ failures rs
own-good rs = refl

partial-syncs : (h : Histories) (w : World) (c : ℕ) (m : FullMember) (e : PendingPacket) (rs : List Status) → (failures rs == 0) ≡ false → TurnSyncs h w c m (partial_turn m.state e (with_own rs))
partial-syncs h w c m e rs s = record { sends = λ l v _ _ q. absurd (eqb-false (failures rs) 0 s (sym (own-good rs) ∙ q)) }

failed-syncs : (h : Histories) (w : World) (c : ℕ) (m : FullMember) (e : PendingPacket) (rs : List Status) → (failures rs == 0) ≡ false → TurnSyncs h w c m (failed_turn m.state e rs)
failed-syncs h w c m e rs s =
    if-each (TurnSyncs h w c m) (begins_with_bad_sum rs) (spoiled_turn m.state) (partial_turn m.state e (with_own rs)) (λ _. record { sends = λ l v _ _. tt }) (λ _. partial-syncs h w c m e rs s)

pass-syncs : (g : Givens) (t : Ends) (h : Histories) (w : World) (c d : ℕ) (m : FullMember) (e : PendingPacket) (k : Ack) → Knows g t h w c m → FromMirror w d m → slice_get (At w c m).known.pending 0 ≡ Some e → k.seqno ≡ e.seqno → UpSyncs h w d (ack k)
    → TurnSyncs h w c m (pass_turn m.state e k.replies)
pass-syncs g t h w c d m e k a x old same u =
    if-each (TurnSyncs h w c m) (failures k.replies == 0) (good_turn m.state e (with_own k.replies)) (failed_turn m.state e k.replies)
    (λ q. record {
      sends = λ l v y taken _. passed-syncs g t h l w v c d m e.seqno a x y.on (subst (λ (z : ℤ). AckSyncs h w d z) same (u (eqb-true (failures k.replies) 0 q))) (good-took g t h l w v c m e a old y taken);
    })
    (λ q. failed-syncs h w c m e k.replies q)

int-same : (a b : ℤ) → int_eq a b ≡ true → a ≡ b
int-same a b e = grind (arith, nat_tests, e)

ack-syncs : (g : Givens) (t : Ends) (h : Histories) (w : World) (c d : ℕ) (m : FullMember) (e : PendingPacket) (x : Next) → Knows g t h w c m → FromMirror w d m → slice_get (At w c m).known.pending 0 ≡ Some e → HeardSyncs h w d x
    → TurnSyncs h w c m (ack_turn m.state e (below_of x))
ack-syncs g t h w c d m e (message (ack k)) a x old u =
    if-each (TurnSyncs h w c m) (is_read m.state.below e.seqno k) (pass_turn m.state e k.replies) (give_up_turn m.state e)
    (λ q. pass-syncs g t h w c d m e k a x old (int-same k.seqno e.seqno (and-left (int_eq k.seqno e.seqno) (are_replies m.state.below k.replies) q)) u) (λ _. give-up-syncs h w c m e)
ack-syncs g t h w c d m e (message (response r)) a x old u = give-up-syncs h w c m e
ack-syncs g t h w c d m e (message (request r)) a x old u = give-up-syncs h w c m e
ack-syncs g t h w c d m e (message (packet r)) a x old u = give-up-syncs h w c m e
ack-syncs g t h w c d m e (message (read_status r)) a x old u = give-up-syncs h w c m e
ack-syncs g t h w c d m e (message (recovery_answer r)) a x old u = give-up-syncs h w c m e
ack-syncs g t h w c d m e the_end a x old u = give-up-syncs h w c m e

answered-syncs : (h : Histories) (w : World) (c : ℕ) (m : FullMember) (r : Response) → TurnSyncs h w c m (answered_turn m.state r)
answered-syncs h w c m r =
    if-each (TurnSyncs h w c m) (is_success r.status) (accept_turn m.state) (fail_turn m.state (named_bad r.first_bad)) (λ _. record { sends = λ l v _ _. tt }) (λ _. fail-syncs h w c m (named_bad r.first_bad))

setup-syncs : (h : Histories) (w : World) (c : ℕ) (m : FullMember) (x : Next) → TurnSyncs h w c m (setup_turn m.state (below_of x))
setup-syncs h w c m (message (response r)) = answered-syncs h w c m r
setup-syncs h w c m (message (ack k)) = fail-syncs h w c m answer.Unreached
setup-syncs h w c m (message (request r)) = fail-syncs h w c m answer.Unreached
setup-syncs h w c m (message (packet r)) = fail-syncs h w c m answer.Unreached
setup-syncs h w c m (message (read_status r)) = fail-syncs h w c m answer.Unreached
setup-syncs h w c m (message (recovery_answer r)) = fail-syncs h w c m answer.Unreached
setup-syncs h w c m the_end = fail-syncs h w c m answer.Unreached

stream-syncs : (g : Givens) (t : Ends) (h : Histories) (w : World) (c d : ℕ) (m : FullMember) (o : Option PendingPacket) (x : Next) → Knows g t h w c m → FromMirror w d m → oldest_at (At w c m) ≡ o → HeardSyncs h w d x → TurnSyncs h w c m (stream_turn m.state o (below_of x))
stream-syncs g t h w c d m None x a y old u = record { sends = λ l v _ _. tt }
stream-syncs g t h w c d m (Some e) x a y old u = ack-syncs g t h w c d m e x a y old u

up-at-syncs : (q : Mirror) (g : Givens) (t : Ends) (h : Histories) (w : World) (c d : ℕ) (m : FullMember) (o : Option PendingPacket) (x : Next) → Knows g t h w c m → FromMirror w d m → oldest_at (At w c m) ≡ o → HeardSyncs h w d x
    → TurnSyncs h w c m (up_at q m.state o (below_of x))
up-at-syncs mirror.Asked g t h w c d m o x a y old u = setup-syncs h w c m x
up-at-syncs mirror.Open g t h w c d m o x a y old u = stream-syncs g t h w c d m o x a y old u
up-at-syncs mirror.Nobody g t h w c d m o x a y old u = record { sends = λ l v _ _. tt }
up-at-syncs mirror.Unreachable g t h w c d m o x a y old u = record { sends = λ l v _ _. tt }
up-at-syncs mirror.Ended g t h w c d m o x a y old u = record { sends = λ l v _ _. tt }

pub up-syncs : (g : Givens) (t : Ends) (h : Histories) (w : World) (c d : ℕ) (m : FullMember) (x : Next) → Knows g t h w c m → FromMirror w d m → HeardSyncs h w d x → TurnSyncs h w c m (up_turn m.state (oldest_at (At w c m)) (below_of x))
up-syncs g t h w c d m x a y u = up-at-syncs m.state.mirror g t h w c d m (oldest_at (At w c m)) x a y refl u

-- READY

idle-syncs : (h : Histories) (w : World) (c : ℕ) (m : FullMember) (writes : Bool) → IfSome (idle_turn m.state writes) (TurnSyncs h w c m)
idle-syncs h w c m true = tt
idle-syncs h w c m false = record { sends = λ l v _ _. tt }

quiet-syncs : (h : Histories) (w : World) (c : ℕ) (m : FullMember) (bad : Option ℤ) (writes : Bool) → IfSome (quiet_turn m.state bad writes) (TurnSyncs h w c m)
quiet-syncs h w c m (Some q) writes = bad-syncs h w c m q
quiet-syncs h w c m None writes = idle-syncs h w c m writes

patient-syncs : (h : Histories) (w : World) (c : ℕ) (m : FullMember) (bad : Option ℤ) → IfSome (patient_turn m.state bad) (TurnSyncs h w c m)
patient-syncs h w c m (Some q) = bad-syncs h w c m q
patient-syncs h w c m None = tt

ready-at-syncs : (q : Mirror) (g : Givens) (t : Ends) (h : Histories) (w : World) (c : ℕ) (m : FullMember) (o : Option PendingPacket) (writes : Bool) → m.state.mirror ≡ q → Knows g t h w c m → oldest_at (At w c m) ≡ o → IfSome (ready_at q m.state o writes) (TurnSyncs h w c m)
ready-at-syncs mirror.Asked g t h w c m o writes e a old = tt
ready-at-syncs mirror.Unreachable g t h w c m o writes e a old = fail-syncs h w c m answer.Unreached
ready-at-syncs mirror.Nobody g t h w c m (Some p) writes e a old = record { sends = λ l v y taken _. lone-syncs g t h l w v c m p.seqno a e y.on (good-took g t h l w v c m p a old y taken) }
ready-at-syncs mirror.Nobody g t h w c m None writes e a old = quiet-syncs h w c m m.state.bad writes
ready-at-syncs mirror.Open g t h w c m (Some p) writes e a old = tt
ready-at-syncs mirror.Open g t h w c m None writes e a old = patient-syncs h w c m m.state.bad
ready-at-syncs mirror.Ended g t h w c m (Some p) writes e a old = give-up-syncs h w c m p
ready-at-syncs mirror.Ended g t h w c m None writes e a old = quiet-syncs h w c m m.state.bad writes

pub ready-syncs : (g : Givens) (t : Ends) (h : Histories) (w : World) (c : ℕ) (m : FullMember) (writes : Bool) → Knows g t h w c m → IfSome (ready_turn m.state (oldest_at (At w c m)) writes) (TurnSyncs h w c m)
ready-syncs g t h w c m writes a =
    if-each (λ (o : Option Turn). IfSome o (TurnSyncs h w c m)) m.state.responds (ready_at m.state.mirror m.state (oldest_at (At w c m)) writes) None
    (λ _. ready-at-syncs m.state.mirror g t h w c m (oldest_at (At w c m)) writes refl a refl) (λ _. tt)

pub down-syncs : (h : Histories) (w : World) (c : ℕ) (m : FullMember) (x : FromAbove) → TurnSyncs h w c m (down_turn m.state x)
down-syncs h w c m (above.Packet p) = record { sends = λ l v _ _. tt }
down-syncs h w c m above.Unreadable = record { sends = λ l v _ _. tt }
down-syncs h w c m above.End = record { sends = λ l v _ _. tt }
