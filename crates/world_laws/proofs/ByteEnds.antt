-- What lower ends take and do: members, reads, and a member's part of a block recovery.
use Rattle.std.proofs.Common.{◌≡◌, ℕ, Bool, true, false, List, [], slice_get, Option, Some, None, IfSome, Result, Ok, Err, IfOk, IfErr, refl, sym, ◌∙◌, ap, subst, arith}
use Rattle.std.specs.Prelude.{◌==◌, if◌then◌else◌}
use Rattle.std.proofs.lemmas.Bool.{false≢true}
use Rattle.std.proofs.lemmas.Option.{none-some}
use Rattle.hd_base.specs.Results.{◌>>=◌}
use Rattle.hd_base.specs.declared.numbers.ConnId.{ConnId}
use Rattle.hd_base.specs.declared.numbers.Stamp.{Stamp}
use Rattle.world.specs.OpHeaders.Op.{Op}
use Rattle.world.specs.OpHeaders.Op.TheVariants as op
use Rattle.world.specs.OpHeaders.ReadOp.{ReadOp}
use Rattle.world.specs.OpHeaders.RecoveryKind.{RecoveryKind}
use Rattle.world.specs.OpHeaders.RecoveryKind.TheVariants as recovery_kind
use Rattle.world.specs.OpHeaders.RecoveryOp.{RecoveryOp}
use Rattle.world.specs.PacketCodec.Packet.{Packet}
use Rattle.world.specs.PacketStream.Carried.{IsPiece}
use Rattle.replica_core.specs.declared.events.Answer.{Answer}
use Rattle.replica_core.specs.declared.events.Answer.TheVariants as answer
use Rattle.replica_core.specs.declared.events.Event.{Event}
use Rattle.replica_core.specs.declared.events.Event.TheVariants as event
use Rattle.replica_core.specs.declared.info.ReplicaInfo.{ReplicaInfo}
use Rattle.replica_core.specs.declared.refusals.Refusal.{Refusal}
use Rattle.replica_core.specs.Info.{begin_recovery, end_recovery}
use Rattle.replica_core.specs.Transitions.{Outcome, transition, present, set_writer, is_written_by, answer_to}
use Rattle.replica_core.specs.Transitions as core
use Rattle.replica_core.specs.Views.{written_at}
use Rattle.replica_core.proofs.InfoLemmas.{present_is}
use Rattle.world.specs.ReplicaModel.ReplicaEvent.{ReplicaEvent}
use Rattle.world.specs.ReplicaModel.ReplicaEvent.TheVariants as replica_event
use Rattle.world.specs.ReplicaModel.Rows.{FullReplica, row_answer, broken}
use Rattle.world.specs.RequestRefusals.RequestRefusal.{RequestRefusal}
use Rattle.world.specs.RequestRefusals.RequestRefusal.TheVariants as refusal
use Rattle.world.specs.RequestRefusals.Pools.{is_in_pool}
use Rattle.world.specs.MemberCore.FromAbove.TheVariants as above
use Rattle.world.specs.MemberCore.Turn.{Turn}
use Rattle.world.specs.MemberCore.Booked.TheVariants as booked
use Rattle.world.specs.MemberCore.Members.{down_turn, up_turn, hears}
use Rattle.world.specs.MemberCore.Steps.{Step, step, faulted_step, replica_after, outcome_of, oldest_at, ready_turn_at}
use Rattle.world.specs.ReadCore.ServePhase.{ServePhase}
use Rattle.world.specs.ReadCore.ServePhase.TheVariants as serve_phase
use Rattle.world.specs.ReadCore.Servings.{ServingState, read_at, read_event, next_call, call_at, piece_at}
use Rattle.world.specs.RecoveryCore.RecoveryReply.{RecoveryReply}
use Rattle.world.specs.RecoveryCore.RecoveryReply.TheVariants as reply
use Rattle.world.specs.RecoveryCore.Members.{Served, no_recovery, step_event, recovery_event, reply_to, answer_of, served_as, serve, serve_faulted}
use Rattle.world.specs.Parts.{Message, request, packet, ack, response, read_status, recovery_answer, FullMember, Lower, idle, writes, serves, recovers, ended_below, Break}
use Rattle.world.specs.Worlds.{Past, World, Change, past_after, apply}
use Rattle.world.specs.Connections.{Next, message, the_end, is_alive}
use Rattle.world.specs.Nodes.{node_of, replica_at, block_of, broke_at, closing, unless_failing, above_of, below_of, sent_up, passed, member_change, failing_turn, turn_change, pending_at, takes_next, member_down, member_up, ready_change, member_ready, breaking, read_change, failing_read, read_request, piece_as, serve_change, recovery_change, failing_recovery, recovery_request, first_message, next_recovery, lower_down, lower_ready, mirror_up}
use Rattle.world_laws.proofs.FactTables.{if-each, when-each, some-weaker}
use Rattle.world_laws.specs.Stamping.{Givens}
use Rattle.world_laws.specs.Carrying.{new_stamp, Sets, Recovers, IsRecovery, RecoverySays, LiesIn, PacketSays, DownSays, UpSays, Holds, ReplicaSays, BreakSays, MemberSays, LowerSays, Carried}
use Rattle.world_laws.proofs.Fronts.{front-length}
use Rattle.world_laws.proofs.ByteLater.{Later, sets-later, down-later, lower-later}
use Rattle.world_laws.proofs.ByteRows.{Brings, Ready, Allows, begin-stamp, sets-once, row-says, broken-says}
use Rattle.world_laws.proofs.ByteFrame.{Each, each-nil, each-one}
use Rattle.world_laws.proofs.ByteLeaves.{Facts, one-session, Beside, node-keeps, sent-each, sent-if, ready-at, break-at, broke-says}
use Rattle.world_laws.proofs.ByteAsking.{Keeps, Allowed, sent-up, write-keeps}
use Rattle.world_laws.proofs.ByteTurns.{Idles, unreadable-idles, end-idles, up-idles, ready-idles, follows}

-- ENDS THAT CLOSE, AND READS

-- a change that leaves the replicas, where the lower end needs nothing and what is sent up needs nothing
aside-keeps : (g : Givens) (w : World) (k : Change) → Facts g w → Beside w k → k.replica ≡ w.replicas k.node k.block → k.broke ≡ w.breaks k.node k.block
    → ((p : Past) → LowerSays p k.lower_at k.lower) → ((c : ℕ) → k.downs c ≡ []) → ((p : Past) (c : ℕ) → Each (UpSays g p c) (k.ups c)) → k.dials ≡ [] → Carried g (apply w k)
aside-keeps g w k h a r b l d u s =
    let p = past_after w k in
    node-keeps g w k h a (λ y. record {
      replica = subst (λ (x : FullReplica). ReplicaSays g p k.block x) (sym r) (ready-at g w p k.node k.block h y).says;
      broke = subst (λ (o : Option Break). IfSome o (BreakSays g p k.block)) (sym b) (break-at g w p k.node k.block h y);
      lower = l p;
      downs = λ c. subst (λ (ms : List Message). Each (DownSays g p c) ms) (sym (d c)) (each-nil (DownSays g p c));
      ups = u p;
      dials = λ i x e. absurd (none-some x (sym (ap (λ xs. slice_get xs i) s) ∙ e));
      unled = λ i x e. absurd (none-some x (sym (ap (λ xs. slice_get xs i) s) ∙ e));
    })

closing-keeps : (g : Givens) (w : World) (c : ℕ) → Facts g w → Keeps g w (closing w c)
closing-keeps g w c h =
    aside-keeps g w (closing w c) h (record { office = refl; stamped = refl; writer = refl; bytes = refl; primary = refl }) refl refl (λ p. tt) (λ _. refl) (λ p d. each-nil (UpSays g p d)) refl

unless-keeps : (g : Givens) (w : World) (fails : Bool) (c : ℕ) → Facts g w → IfSome (unless_failing fails (closing w c)) (Keeps g w)
unless-keeps g w true c h = tt
unless-keeps g w false c h = closing-keeps g w c h

read-change-keeps : (g : Givens) (w : World) (c b : ℕ) (s : Result ServingState RequestRefusal) → Facts g w → Keeps g w (read_change w c b s)
read-change-keeps g w c b (Ok s) h =
    aside-keeps g w (read_change w c b (Ok s)) h (record { office = refl; stamped = refl; writer = refl; bytes = refl; primary = refl }) refl refl (λ p. tt) (λ _. refl)
    (λ p. sent-each (UpSays g p) c _ (each-one (UpSays g p c) _ tt)) refl
read-change-keeps g w c b (Err r) h =
    aside-keeps g w (read_change w c b (Err r)) h (record { office = refl; stamped = refl; writer = refl; bytes = refl; primary = refl }) refl refl (λ p. tt) (λ _. refl)
    (λ p. sent-each (UpSays g p) c _ (each-one (UpSays g p c) _ tt)) refl

piece-keeps : (g : Givens) (w : World) (c b : ℕ) (s : ServingState) (o : Option Packet) → Facts g w → Keeps g w (piece_as w c b s o)
piece-keeps g w c b s None h = closing-keeps g w c h
piece-keeps g w c b s (Some q) h =
    aside-keeps g w (piece_as w c b s (Some q)) h (record { office = refl; stamped = refl; writer = refl; bytes = refl; primary = refl }) refl refl (λ p. tt) (λ _. refl)
    (λ p. sent-each (UpSays g p) c _ (each-one (UpSays g p c) (packet q) tt)) refl

-- a replica that breaks in a read
breaking-keeps : (g : Givens) (w : World) (c b : ℕ) (e : ReplicaEvent) (ms : List Message) → Facts g w → ((p : Past) → Allows g p b e) → ((p : Past) → Each (UpSays g p c) ms)
    → Keeps g w (breaking w c b (broken (replica_at w c b)) e ms)
breaking-keeps g w c b e ms h a u =
    let k = breaking w c b (broken (replica_at w c b)) e ms in
    let p = past_after w k in
    node-keeps g w k h (record { office = refl; stamped = refl; writer = refl; bytes = refl; primary = refl }) (λ y. record {
      replica = broken-says g p b (replica_at w c b) (ready-at g w p (node_of w c) b h y);
      broke = broke-says g w p c b e h y (a p);
      lower = tt;
      downs = λ d. each-nil (DownSays g p d);
      ups = sent-each (UpSays g p) c ms (u p);
      dials = λ i x e. absurd (none-some x e);
      unled = λ i x e. absurd (none-some x e);
    })

failing-read-keeps : (g : Givens) (w : World) (c b : ℕ) (e : Result Event RequestRefusal) → Facts g w → ((p : Past) → Allowed g p b e) → IfSome (failing_read w c b e) (Keeps g w)
failing-read-keeps g w c b (Err r) h a = tt
failing-read-keeps g w c b (Ok e) h a = breaking-keeps g w c b (replica_event.Other e) _ h a (λ p. each-one (UpSays g p c) _ tt)

read-allowed : (g : Givens) (p : Past) (b : ℕ) (r : ReadOp) → Allowed g p b (read_event r)
unfolding read_event
read-allowed g p b r = if-each (Allowed {E = RequestRefusal} g p b) (is_in_pool r.block) (Ok (event.Read r.block.stamp r.offset r.len)) (Err refusal.Pool) (λ _. tt) (λ _. tt)

read-keeps : (g : Givens) (w : World) (c : ℕ) (r : ReadOp) (fails : Bool) → Facts g w → IfSome (read_request w c r fails) (Keeps g w)
read-keeps g w c r true h = failing-read-keeps g w c r.block.block.0 (read_event r) h (λ p. read-allowed g p r.block.block.0 r)
read-keeps g w c r false h = read-change-keeps g w c r.block.block.0 (read_at r (replica_at w c r.block.block.0)) h

call-allowed : (g : Givens) (p : Past) (b : ℕ) (q : ServePhase) (s : ServingState) → IfSome (call_at q s) (λ e. Allows g p b (replica_event.Other e))
call-allowed g p b serve_phase.Sending s = tt
call-allowed g p b serve_phase.Awaiting s = tt
call-allowed g p b serve_phase.Over s = tt

serve-as-keeps : (g : Givens) (w : World) (c b : ℕ) (s : ServingState) (o : Option Event) (fails : Bool) → Facts g w → ((p : Past) → IfSome o (λ e. Allows g p b (replica_event.Other e))) → IfSome (serve_change w c b s o fails) (Keeps g w)
serve-as-keeps g w c b s None fails h a = tt
serve-as-keeps g w c b s (Some e) true h a = breaking-keeps g w c b (replica_event.Other e) [] h a (λ p. each-nil (UpSays g p c))
serve-as-keeps g w c b s (Some e) false h a = piece-keeps g w c b (piece_at s (replica_at w c b)).serving (piece_at s (replica_at w c b)).packet h

-- MEMBERS

-- what is sent on needs this at a mirror that sets up the member's stamp
abbrev SendsOn : Givens → World → FullMember → Next → Turn → Type 0
SendsOn g w m x t = (p : Past) → Later g g w.past p → (d : ℕ) → Sets p d (new_stamp m.fields) → (f : Bool) → (f ≡ true → t.effect.forwards ≡ true) → Each (DownSays g p d) (passed f x)

member-keeps : (g : Givens) (w : World) (c : ℕ) (m : FullMember) (x : Next) (t : Turn) (s : Step) (b : Option Break) → Facts g w → MemberSays w.past c m → s.member.conn ≡ m.state.conn
    → (s.effect.forwards ≡ true → t.effect.forwards ≡ true) → ((p : Past) → Later g g w.past p → ReplicaSays g p (block_of m.fields) s.replica)
    → ((p : Past) → Later g g w.past p → IfSome b (BreakSays g p (block_of m.fields))) → SendsOn g w m x t → Keeps g w (member_change w c m x s b)
member-keeps g w c m x t s b h says conn forwards replica broke on =
    let k = member_change w c m x s b in
    let p = past_after w k in
    node-keeps g w k h (record { office = refl; stamped = refl; writer = refl; bytes = refl; primary = refl }) (λ y.
    let z : MemberSays p c m = lower-later g g w.past p c (writes m) y says in
    record {
      replica = replica p y;
      broke = broke p y;
      lower = record { conn = ap (λ (q : ConnId). q.0) conn ∙ z.conn; sets = z.sets; mirror = z.mirror };
      downs = sent-if (DownSays g p) m.mirror (passed s.effect.forwards x) (some-weaker (λ d. Sets p d (new_stamp m.fields)) (λ d. Each (DownSays g p d) (passed s.effect.forwards x)) m.mirror (λ d q. on p y d q s.effect.forwards forwards) z.mirror);
      ups = sent-each (UpSays g p) c (sent_up m.fields s.effect.sends) (sent-up g p c m.fields s.effect.sends);
      dials = λ i x e. absurd (none-some x e);
      unled = λ i x e. absurd (none-some x e);
    })

after-says : (g : Givens) (p : Past) (b : ℕ) (r : FullReplica) (o : Option ReplicaEvent) → Ready g p b r → IfSome o (Allows g p b) → ReplicaSays g p b (replica_after r o)
after-says g p b r None s a = s.says
after-says g p b r (Some e) s a = row-says g p b r e s a

failing-turn-keeps : (g : Givens) (w : World) (c : ℕ) (m : FullMember) (x : Next) (t : Turn) (o : Option ReplicaEvent) → Facts g w → MemberSays w.past c m
    → ((p : Past) → Later g g w.past p → IfSome o (Allows g p (block_of m.fields))) → SendsOn g w m x t → IfSome (failing_turn w c m x t o) (Keeps g w)
failing-turn-keeps g w c m x t None h says a on = tt
failing-turn-keeps g w c m x t (Some e) h says a on =
    let r = replica_at w c (block_of m.fields) in
    let f = follows m.state t booked.Failed in
    member-keeps g w c m x t (faulted_step m.state r t) (broke_at w c (block_of m.fields) e) h says f.conn f.forwards
    (λ p y. broken-says g p (block_of m.fields) r (ready-at g w p (node_of w c) (block_of m.fields) h y)) (λ p y. broke-says g w p c (block_of m.fields) e h y (a p y)) on

turn-keeps : (g : Givens) (w : World) (c : ℕ) (m : FullMember) (x : Next) (t : Turn) (fails : Bool) → Facts g w → MemberSays w.past c m
    → ((p : Past) → Later g g w.past p → IfSome t.call (Allows g p (block_of m.fields))) → SendsOn g w m x t → IfSome (turn_change w c m x t fails) (Keeps g w)
turn-keeps g w c m x t true h says a on = failing-turn-keeps g w c m x t t.call h says a on
turn-keeps g w c m x t false h says a on =
    let r = replica_at w c (block_of m.fields) in
    let f = follows m.state t (outcome_of r t.call) in
    member-keeps g w c m x t (step m.state r t) (w.breaks (node_of w c) (block_of m.fields)) h says f.conn f.forwards
    (λ p y. after-says g p (block_of m.fields) r t.call (ready-at g w p (node_of w c) (block_of m.fields) h y) (a p y)) (λ p y. break-at g w p (node_of w c) (block_of m.fields) h y) on

-- a turn that sends nothing on
idle-keeps : (g : Givens) (w : World) (c : ℕ) (m : FullMember) (x : Next) (t : Turn) (fails : Bool) → Facts g w → MemberSays w.past c m → Idles t → IfSome (turn_change w c m x t fails) (Keeps g w)
idle-keeps g w c m x t fails h says i = turn-keeps g w c m x t fails h says (λ p y. i.call g p (block_of m.fields)) (λ p y d s f q. nothing p d f q)
  where
    nothing : (p : Past) (d : ℕ) (f : Bool) → (f ≡ true → t.effect.forwards ≡ true) → Each (DownSays g p d) (passed f x)
    nothing p d false q = each-nil (DownSays g p d)
    nothing p d true q = absurd (false≢true (sym i.quiet ∙ q refl))

-- a packet from above
packet-keeps : (g : Givens) (w : World) (c : ℕ) (m : FullMember) (q : Packet) (fails : Bool) → Facts g w → MemberSays w.past c m → PacketSays g w.past c q
    → IfSome (turn_change w c m (message (packet q)) (down_turn m.state (above.Packet q)) fails) (Keeps g w)
packet-keeps g w c m q fails h says s =
    turn-keeps g w c m (message (packet q)) (down_turn m.state (above.Packet q)) fails h says (λ p y. brings p y) (λ p y d k f _. sends p y d k f)
  where
    stamp-is : (p : Past) → Later g g w.past p → PacketSays g p c q → Sets p c (new_stamp m.fields) → (z : PacketSays g p c q) → z.stamp ≡ new_stamp m.fields
    stamp-is p y _ k z = sets-once p c z.stamp (new_stamp m.fields) z.sets k

    at : (p : Past) → Later g g w.past p → PacketSays g p c q
    at p y = down-later g g w.past p c (packet q) y s

    brings : (p : Past) → Later g g w.past p → Brings g p (block_of m.fields) m.state.conn q
    brings p y =
        let z = at p y in
        record {
          stamp = z.stamp;
          sets = subst (λ (n : ℕ). Sets p n z.stamp) (sym says.conn) z.sets;
          piece = λ e given. subst (λ (n : ℕ). IsPiece (p.written n) q) (one-session g w h.recorded z.block (block_of m.fields) z.stamp.0 z.session e z.given given) z.piece;
        }

    sends : (p : Past) → Later g g w.past p → (d : ℕ) → Sets p d (new_stamp m.fields) → (f : Bool) → Each (DownSays g p d) (passed f (message (packet q)))
    sends p y d k false = each-nil (DownSays g p d)
    sends p y d k true =
        let z = at p y in
        let e = sets-once p c z.stamp (new_stamp m.fields) z.sets (sets-later g g w.past p c (new_stamp m.fields) y says.sets) in
        each-one (DownSays g p d) (packet q) (record { stamp = z.stamp; sets = subst (λ (t : Stamp). Sets p d t) (sym e) k; block = z.block; session = z.session; given = z.given; piece = z.piece })

-- what stands next, and what it says
abbrev pub NextSays : Givens → Past → ℕ → Next → Type 0
NextSays g h c (message m) = DownSays g h c m
NextSays g h c the_end = Unit {0}

taken-keeps : (g : Givens) (w : World) (c : ℕ) (m : FullMember) (x : Next) (fails : Bool) → Facts g w → MemberSays w.past c m → NextSays g w.past c x
    → IfSome (turn_change w c m x (down_turn m.state (above_of x)) fails) (Keeps g w)
taken-keeps g w c m (message (packet q)) fails h says s = packet-keeps g w c m q fails h says s
taken-keeps g w c m (message (request o)) fails h says s = idle-keeps g w c m (message (request o)) (down_turn m.state above.Unreadable) fails h says (unreadable-idles m.state)
taken-keeps g w c m (message (ack a)) fails h says s = idle-keeps g w c m (message (ack a)) (down_turn m.state above.Unreadable) fails h says (unreadable-idles m.state)
taken-keeps g w c m (message (response r)) fails h says s = idle-keeps g w c m (message (response r)) (down_turn m.state above.Unreadable) fails h says (unreadable-idles m.state)
taken-keeps g w c m (message (read_status t)) fails h says s = idle-keeps g w c m (message (read_status t)) (down_turn m.state above.Unreadable) fails h says (unreadable-idles m.state)
taken-keeps g w c m (message (recovery_answer a)) fails h says s = idle-keeps g w c m (message (recovery_answer a)) (down_turn m.state above.Unreadable) fails h says (unreadable-idles m.state)
taken-keeps g w c m the_end fails h says s = idle-keeps g w c m the_end (down_turn m.state above.End) fails h says (end-idles m.state)

down-keeps : (g : Givens) (w : World) (c : ℕ) (m : FullMember) (x : Next) (fails : Bool) → Facts g w → MemberSays w.past c m → NextSays g w.past c x → IfSome (member_down w c m x fails) (Keeps g w)
down-keeps g w c m x fails h says s = when-each (Keeps g w) (takes_next m.state (pending_at w c m) x) _ (λ _. taken-keeps g w c m x fails h says s)

up-keeps : (g : Givens) (w : World) (c : ℕ) (m : FullMember) (x : Next) (fails : Bool) → Facts g w → MemberSays w.past c m → IfSome (member_up w c m x fails) (Keeps g w)
up-keeps g w c m x fails h says =
    let o = oldest_at (replica_at w c (block_of m.fields)) in
    when-each (Keeps g w) (hears m.state) _ (λ _. idle-keeps g w c m x (up_turn m.state o (below_of x)) fails h says (up-idles m.state o (below_of x)))

ready-as : (g : Givens) (w : World) (c : ℕ) (m : FullMember) (o : Option Turn) (fails : Bool) → Facts g w → MemberSays w.past c m → IfSome o Idles → IfSome (ready_change w c m o fails) (Keeps g w)
ready-as g w c m None fails h says i = tt
ready-as g w c m (Some t) fails h says i = idle-keeps g w c m the_end t fails h says i

ready-keeps : (g : Givens) (w : World) (c : ℕ) (m : FullMember) (fails : Bool) → Facts g w → MemberSays w.past c m → IfSome (member_ready w c m fails) (Keeps g w)
ready-keeps g w c m fails h says =
    let r = replica_at w c (block_of m.fields) in
    ready-as g w c m (ready_turn_at m.state r) fails h says (ready-idles m.state (oldest_at r) (is_written_by r.known.stream m.state.conn))

-- BLOCK RECOVERIES

-- what a replica answers to a recovery: a length within the session of the id
abbrev AnswerSays : Givens → Past → Stamp → Answer → Type 0
AnswerSays g p id (answer.Info state stamp n) = LiesIn g p id n
AnswerSays g p id _ = Unit {0}

abbrev ReplySays : Givens → Past → Stamp → RecoveryReply → Type 0
ReplySays g p id (reply.Informed state stamp n) = LiesIn g p id n
ReplySays g p id _ = Unit {0}

reply-says : (g : Givens) (p : Past) (id : Stamp) (a : Answer) → AnswerSays g p id a → ReplySays g p id (reply_to a)
reply-says g p id (answer.Info state stamp n) h = h
reply-says g p id answer.Done h = tt
reply-says g p id (answer.Visible n) h = tt
reply-says g p id (answer.Refused r) h = tt

-- the answer of an outcome
abbrev OutcomeSays : Givens → Past → Stamp → Outcome → Type 0
OutcomeSays g p id o = AnswerSays g p id (core.answer_of (core.reply o))

outcome-step : {A : Type 0} (g : Givens) (p : Past) (id : Stamp) (first : Result A Refusal) (next : A → Outcome) → ((x : A) → first ≡ Ok x → OutcomeSays g p id (next x)) → OutcomeSays g p id (first >>= next)
outcome-step g p id (Ok x) next onward = onward x refl
outcome-step g p id (Err e) next onward = tt

init-answers : (g : Givens) (p : Past) (b : ℕ) (r : FullReplica) (named id : Stamp) → Ready g p b r → IsRecovery g p b named id → AnswerSays g p id (row_answer r (replica_event.Other (event.Init named id)))
unfolding transition
init-answers g p b r named id s u =
    outcome-step g p id (present r.known) _ (λ i is. outcome-step g p id (begin_recovery i named id) _ (λ k e. told i k (present_is r.known i is).1 e))
  where
    told : (i k : ReplicaInfo) → r.known.info ≡ Some i → begin_recovery i named id ≡ Ok k → LiesIn g p id i.written
    told i k is e =
        let x = subst (λ (o : Option ReplicaInfo). IfSome o (Holds g p b r.bytes)) is s.says.info in
        let at = begin-stamp i k named id e in
        let f = front-length (p.written x.under.session) (p.written u.session) (u.fronts i.stamp.0 x.under.session x.under.given at.0 at.1) in
        let v = front-length r.bytes (p.written x.under.session) x.under.front in
        record { block = b; session = u.session; given = u.given; within = omega (arith, f, v, s.full.all, ap written_at is) }

update-answers : (g : Givens) (p : Past) (r : FullReplica) (id : Stamp) (n : ℕ) → AnswerSays g p id (row_answer r (replica_event.Other (event.Update id n)))
unfolding transition
update-answers g p r id n = outcome-step g p id (present r.known) _ (λ i _. outcome-step g p id (end_recovery i i.recovery id n) _ (λ k _. tt))

-- an event of a recovery, with its answer
record Recovering (g : Givens) (p : Past) (b : ℕ) (id : Stamp) (r : FullReplica) (e : Event) : Type 0 where
  pub allows : Allows g p b (replica_event.Other e)
  pub answers : AnswerSays g p id (row_answer r (replica_event.Other e))

init-recovers : (g : Givens) (p : Past) (b : ℕ) (r : FullReplica) (named id : Stamp) (t : Bool) → Ready g p b r → IsRecovery g p b named id
    → IfOk (if t then Err no_recovery else Ok (event.Init named id)) (Recovering g p b id r)
init-recovers g p b r named id true s u = tt
init-recovers g p b r named id false s u = record { allows = u; answers = init-answers g p b r named id s u }

step-recovers : (g : Givens) (p : Past) (r : FullReplica) (k : RecoveryKind) (q : RecoveryOp) → Ready g p q.block.block.0 r → IsRecovery g p q.block.block.0 q.block.stamp q.recovery
    → IfOk (step_event k q) (Recovering g p q.block.block.0 q.recovery r)
step-recovers g p r recovery_kind.Begin q s u = tt
step-recovers g p r recovery_kind.Init q s u = init-recovers g p q.block.block.0 r q.block.stamp q.recovery (q.recovery.0 == 0) s u
step-recovers g p r recovery_kind.Update q s u = record { allows = tt; answers = update-answers g p r q.recovery q.new_length }

event-recovers : (g : Givens) (p : Past) (r : FullReplica) (q : RecoveryOp) → Ready g p q.block.block.0 r → IsRecovery g p q.block.block.0 q.block.stamp q.recovery
    → IfOk (recovery_event q) (Recovering g p q.block.block.0 q.recovery r)
unfolding recovery_event
event-recovers g p r q s u =
    if-each (λ (e : Result Event RecoveryReply). IfOk e (Recovering g p q.block.block.0 q.recovery r)) (is_in_pool q.block) (step_event q.kind q) (Err (reply.Refused refusal.Pool)) (λ _. step-recovers g p r q.kind q s u) (λ _. tt)

record ServedSays (g : Givens) (p : Past) (b : ℕ) (id : Stamp) (s : Served) : Type 0 where
  pub replica : ReplicaSays g p b s.replica
  pub says : ReplySays g p id s.reply

served-says : (g : Givens) (p : Past) (b : ℕ) (id : Stamp) (r : FullReplica) (e : Result Event RecoveryReply) → Ready g p b r → IfOk e (Recovering g p b id r) → IfErr e (ReplySays g p id) → ServedSays g p b id (served_as r e)
served-says g p b id r (Err said) s a n = record { replica = s.says; says = n }
served-says g p b id r (Ok e) s a n = record { replica = row-says g p b r (replica_event.Other e) s a.allows; says = reply-says g p id (row_answer r (replica_event.Other e)) a.answers }

no-length : (g : Givens) (p : Past) (id : Stamp) (q : RecoveryOp) → IfErr (recovery_event q) (ReplySays g p id)
unfolding recovery_event
no-length g p id q = if-each (λ (e : Result Event RecoveryReply). IfErr e (ReplySays g p id)) (is_in_pool q.block) (step_event q.kind q) (Err (reply.Refused refusal.Pool)) (λ _. by-step q.kind) (λ _. tt)
  where
    by-init : (t : Bool) → IfErr (if t then Err no_recovery else Ok (event.Init q.block.stamp q.recovery)) (ReplySays g p id)
    by-init true = tt
    by-init false = tt

    by-step : (k : RecoveryKind) → IfErr (step_event k q) (ReplySays g p id)
    by-step recovery_kind.Begin = tt
    by-step recovery_kind.Init = by-init (q.recovery.0 == 0)
    by-step recovery_kind.Update = tt

-- the message with which it answers
answered-up : (g : Givens) (p : Past) (c : ℕ) (id : Stamp) (r : RecoveryReply) → Recovers p c id → ReplySays g p id r → UpSays g p c (recovery_answer (answer_of r))
unfolding answer_of
answered-up g p c id (reply.Informed state stamp n) f s = record { id = id; first = f; lies = s }
answered-up g p c id reply.Updated f s = tt
answered-up g p c id reply.NoOffice f s = tt
answered-up g p c id (reply.Refused r) f s = tt

recovery-change-keeps : (g : Givens) (w : World) (c : ℕ) (q : RecoveryOp) (s : Served) (b : Option Break) → Facts g w → RecoverySays g w.past c q
    → ((p : Past) → Later g g w.past p → ServedSays g p q.block.block.0 q.recovery s) → ((p : Past) → Later g g w.past p → IfSome b (BreakSays g p q.block.block.0)) → Keeps g w (recovery_change w c q s b)
recovery-change-keeps g w c q s b h says served broke =
    let k = recovery_change w c q s b in
    let p = past_after w k in
    node-keeps g w k h (record { office = refl; stamped = refl; writer = refl; bytes = refl; primary = refl }) (λ y.
    let z : RecoverySays g p c q = down-later g g w.past p c (request (op.Recovery q)) y says in
    let v = served p y in
    record {
      replica = v.replica;
      broke = broke p y;
      lower = tt;
      downs = λ d. each-nil (DownSays g p d);
      ups = sent-each (UpSays g p) c _ (each-one (UpSays g p c) (recovery_answer (answer_of s.reply)) (answered-up g p c q.recovery s.reply z.first v.says));
      dials = λ i x e. absurd (none-some x e);
      unled = λ i x e. absurd (none-some x e);
    })

failing-recovery-keeps : (g : Givens) (w : World) (c : ℕ) (q : RecoveryOp) (e : Result Event RecoveryReply) → Facts g w → RecoverySays g w.past c q
    → ((p : Past) → Later g g w.past p → IfOk e (Recovering g p q.block.block.0 q.recovery (replica_at w c q.block.block.0))) → IfSome (failing_recovery w c q e) (Keeps g w)
failing-recovery-keeps g w c q (Err said) h says a = tt
failing-recovery-keeps g w c q (Ok e) h says a =
    let b = q.block.block.0 in
    recovery-change-keeps g w c q (serve_faulted (replica_at w c b)) (broke_at w c b (replica_event.Other e)) h says
    (λ p y. record { replica = broken-says g p b (replica_at w c b) (ready-at g w p (node_of w c) b h y); says = tt }) (λ p y. broke-says g w p c b (replica_event.Other e) h y (a p y).allows)

recovery-keeps : (g : Givens) (w : World) (c : ℕ) (q : RecoveryOp) (fails : Bool) → Facts g w → RecoverySays g w.past c q → IfSome (recovery_request w c q fails) (Keeps g w)
recovery-keeps g w c q true h says =
    let r = replica_at w c q.block.block.0 in
    failing-recovery-keeps g w c q (recovery_event q) h says
    (λ p y. event-recovers g p r q (ready-at g w p (node_of w c) q.block.block.0 h y) (down-later g g w.past p c (request (op.Recovery q)) y says).recovery)
recovery-keeps g w c q false h says =
    let r = replica_at w c q.block.block.0 in
    recovery-change-keeps g w c q (serve r q) (w.breaks (node_of w c) q.block.block.0) h says
    (λ p y. let s = ready-at g w p (node_of w c) q.block.block.0 h y in
    served-says g p q.block.block.0 q.recovery r (recovery_event q) s (event-recovers g p r q s (down-later g g w.past p c (request (op.Recovery q)) y says).recovery) (no-length g p q.recovery q))
    (λ p y. break-at g w p (node_of w c) q.block.block.0 h y)

-- THE LOWER END

request-keeps : (g : Givens) (w : World) (c : ℕ) (o : Op) (answered fails : Bool) → Facts g w → DownSays g w.past c (request o) → IfSome (first_message w c (request o) answered fails) (Keeps g w)
request-keeps g w c (op.Write f) answered fails h s = write-keeps g w c f answered fails h s
request-keeps g w c (op.Read r) answered fails h s = read-keeps g w c r fails h
request-keeps g w c (op.Recovery q) answered fails h s = recovery-keeps g w c q fails h s
request-keeps g w c (op.Transfer r) answered fails h s = unless-keeps g w fails c h
request-keeps g w c (op.Checksum r) answered fails h s = unless-keeps g w fails c h

first-keeps : (g : Givens) (w : World) (c : ℕ) (m : Message) (answered fails : Bool) → Facts g w → DownSays g w.past c m → IfSome (first_message w c m answered fails) (Keeps g w)
first-keeps g w c (request o) answered fails h s = request-keeps g w c o answered fails h s
first-keeps g w c (packet p) answered fails h s = unless-keeps g w fails c h
first-keeps g w c (ack a) answered fails h s = unless-keeps g w fails c h
first-keeps g w c (response r) answered fails h s = unless-keeps g w fails c h
first-keeps g w c (read_status t) answered fails h s = unless-keeps g w fails c h
first-keeps g w c (recovery_answer a) answered fails h s = unless-keeps g w fails c h

next-op-keeps : (g : Givens) (w : World) (c : ℕ) (o : Op) (fails : Bool) → Facts g w → DownSays g w.past c (request o) → IfSome (next_recovery w c (message (request o)) fails) (Keeps g w)
next-op-keeps g w c (op.Write f) fails h s = unless-keeps g w fails c h
next-op-keeps g w c (op.Read r) fails h s = unless-keeps g w fails c h
next-op-keeps g w c (op.Recovery q) fails h s = recovery-keeps g w c q fails h s
next-op-keeps g w c (op.Transfer r) fails h s = unless-keeps g w fails c h
next-op-keeps g w c (op.Checksum r) fails h s = unless-keeps g w fails c h

next-keeps : (g : Givens) (w : World) (c : ℕ) (x : Next) (fails : Bool) → Facts g w → NextSays g w.past c x → IfSome (next_recovery w c x fails) (Keeps g w)
next-keeps g w c (message (request o)) fails h s = next-op-keeps g w c o fails h s
next-keeps g w c (message (packet p)) fails h s = unless-keeps g w fails c h
next-keeps g w c (message (ack a)) fails h s = unless-keeps g w fails c h
next-keeps g w c (message (response r)) fails h s = unless-keeps g w fails c h
next-keeps g w c (message (read_status t)) fails h s = unless-keeps g w fails c h
next-keeps g w c (message (recovery_answer a)) fails h s = unless-keeps g w fails c h
next-keeps g w c the_end fails h s = unless-keeps g w fails c h

pub lower-down-keeps : (l : Lower) (g : Givens) (w : World) (c : ℕ) (x : Next) (answered fails : Bool) → Facts g w → LowerSays w.past c l → NextSays g w.past c x
    → IfSome (lower_down l w c x answered fails) (Keeps g w)
lower-down-keeps idle g w c (message m) answered fails h l s = first-keeps g w c m answered fails h s
lower-down-keeps idle g w c the_end answered fails h l s = unless-keeps g w fails c h
lower-down-keeps (writes m) g w c x answered fails h l s = down-keeps g w c m x fails h l s
lower-down-keeps (serves b t) g w c x answered fails h l s = unless-keeps g w fails c h
lower-down-keeps recovers g w c x answered fails h l s = next-keeps g w c x fails h s
lower-down-keeps ended_below g w c x answered fails h l s = tt

pub lower-ready-keeps : (l : Lower) (g : Givens) (w : World) (c : ℕ) (fails : Bool) → Facts g w → LowerSays w.past c l → IfSome (lower_ready l w c fails) (Keeps g w)
lower-ready-keeps idle g w c fails h l = tt
lower-ready-keeps (writes m) g w c fails h l = ready-keeps g w c m fails h l
lower-ready-keeps (serves b t) g w c fails h l = serve-as-keeps g w c b t (next_call t) fails h (λ p. call-allowed g p b t.phase t)
lower-ready-keeps recovers g w c fails h l = tt
lower-ready-keeps ended_below g w c fails h l = tt

pub mirror-up-keeps : (l : Lower) (g : Givens) (w : World) (d : ℕ) (x : Next) (fails : Bool) → Facts g w → LowerSays w.past d l → IfSome (mirror_up l w d x fails) (Keeps g w)
mirror-up-keeps idle g w d x fails h l = tt
mirror-up-keeps (writes m) g w d x fails h l = when-each (Keeps g w) (is_alive w (w.dialled d).to) _ (λ _. up-keeps g w d m x fails h l)
mirror-up-keeps (serves b t) g w d x fails h l = tt
mirror-up-keeps recovers g w d x fails h l = tt
mirror-up-keeps ended_below g w d x fails h l = tt
