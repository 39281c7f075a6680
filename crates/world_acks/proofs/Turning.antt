-- What the turns of members book and send.
use Rattle.std.proofs.Common.{◌≡◌, ℕ, ℤ, zero, suc, ◌≤◌, ◌⊎◌, inl, inr, Bool, true, false, List, [], ◌∷◌, length, slice_get, Option, Some, None, IfSome, Ok, Err, refl, sym, ◌∙◌, ap, subst, arith, eqb-true}
use Rattle.std.specs.Prelude.{◌==◌, max, option_map}
use Rattle.std.specs.Ordering.{int_eq}
use Rattle.std.proofs.lemmas.Bool.{eqb-false, false≢true}
use Rattle.std.proofs.lemmas.Bool.Decides.{nat_tests}
use Rattle.std.proofs.lemmas.Option.{none-some, same_Some}
use Rattle.hd_base.specs.Results.{◌>>=◌}
use Rattle.hd_base.specs.declared.numbers.ConnId.{ConnId}
use Rattle.hd_base.specs.declared.numbers.Stamp.{Stamp}
use Rattle.hd_base.specs.declared.states.ReplicaState.{ReplicaState}
use Rattle.hd_base.specs.declared.states.ReplicaState.TheVariants as state
use Rattle.hd_base.specs.declared.states.Status.{Status}
use Rattle.hd_base.specs.declared.states.Status.TheVariants as status
use Rattle.ack_codec.specs.declared.acks.Ack.{Ack}
use Rattle.ack_codec.specs.declared.responses.Response.{Response}
use Rattle.op_headers.specs.declared.nodes.NodeRef.{NodeRef}
use Rattle.op_headers.specs.declared.ops.Op.TheVariants as op
use Rattle.op_headers.specs.declared.ops.ReadOp.{ReadOp}
use Rattle.op_headers.specs.Values.{WriteFields}
use Rattle.replica_core.specs.declared.ack_queue.PendingPacket.{PendingPacket}
use Rattle.replica_core.specs.declared.events.Answer.TheVariants as core_answer
use Rattle.replica_core.specs.declared.events.Event.TheVariants as event
use Rattle.replica_core.specs.declared.info.ReplicaInfo.{ReplicaInfo}
use Rattle.replica_core.specs.declared.records.ReplicaRecord.{ReplicaRecord}
use Rattle.replica_core.specs.declared.streams.Stream.{Stream}
use Rattle.replica_core.specs.Info.{state_of, state_under, is_writable, visible_of, state_after_last, advance_acked, close_stream}
use Rattle.replica_core.specs.Sound.{IsConsistent, IsWritable}
use Rattle.replica_core.specs.Transitions.{Outcome, Taken, transition, present, stream_by, oldest_of, acknowledge, done, answer_of, reply}
use Rattle.replica_core.specs.Views.{written_at, state_in}
use Rattle.replica_core.proofs.InfoLemmas.{present_is, stream_by_is, oldest_is}
use Rattle.replica_core.proofs.StepLemmas.{step_ok}
use Rattle.replica_model.specs.declared.events.ReplicaEvent.{ReplicaEvent}
use Rattle.replica_model.specs.declared.events.ReplicaEvent.TheVariants as replica_event
use Rattle.replica_model.specs.Rows.{FullReplica, IsFull, row}
use Rattle.member_core.specs.declared.effects.SetupAnswer.{SetupAnswer}
use Rattle.member_core.specs.declared.effects.SetupAnswer.TheVariants as answer
use Rattle.member_core.specs.declared.inputs.FromAbove.{FromAbove}
use Rattle.member_core.specs.declared.inputs.FromAbove.TheVariants as above
use Rattle.member_core.specs.declared.member.Mirror.{Mirror}
use Rattle.member_core.specs.declared.member.Mirror.TheVariants as mirror
use Rattle.member_core.specs.declared.turns.Booked.TheVariants as booked
use Rattle.member_core.specs.declared.turns.Turn.{Turn}
use Rattle.member_core.specs.Acks.{is_success, failures, begins_with_bad_sum, is_read, are_replies, with_own}
use Rattle.member_core.specs.Members.{down_turn, up_turn, up_at, setup_turn, answered_turn, accept_turn, fail_turn, stream_turn, ack_turn, pass_turn, failed_turn, good_turn, partial_turn, spoiled_turn, give_up_turn, named_bad, ready_turn, ready_at, quiet_turn, idle_turn, patient_turn, bad_turn}
use Rattle.member_core.specs.Requests.{setup_with, response_of, request_from}
use Rattle.member_core.specs.Steps.{booked_as, outcome_of, replica_after, oldest_at}
use Rattle.world_recoveries.specs.World.Connections.{Next, message, the_end}
use Rattle.world_recoveries.specs.World.Parts.{request, packet, ack, response, read_status, recovery_answer, FullMember, Break}
use Rattle.world_recoveries.specs.World.Worlds.{World}
use Rattle.world_recoveries.specs.World.Nodes.{below_of, node_of, node_on, replica_at, block_of, upward_message}
use Rattle.world_recoveries.proofs.WorldLaws.FactTables.{if-each, and-left}
use Rattle.world_recoveries.specs.WorldLaws.Stamping.{Givens}
use Rattle.world_recoveries.specs.WorldLaws.Carrying.{new_stamp, Sets, Holds, SetFor, ReplicaSays}
use Rattle.replica_model.specs.Found.{IsFront}
use Rattle.world_recoveries.proofs.WorldLaws.Fronts.{front-takes, front-length}
use Rattle.world_recoveries.proofs.WorldLaws.ByteLeaves.{Facts}
use Rattle.world_recoveries.proofs.WorldLaws.ByteRows.{sets-once}
use Rattle.world_recoveries.specs.WorldLaws.Joining.{joined_as, IsPlain, BreakReached, SetUps}
use Rattle.world_recoveries.specs.Recovering.{Recovering}
use Rattle.world_acks.specs.Acking.{PacketEnd, pending_end, Shown, Seat, Asked, AsksToRead, Seated, IsPipe, promised, SetUpFrom, Ends, AckedFrom, UpTells, Mirrors, MemberTells, PendingTells, Pends, Acked}
use Rattle.world_acks.specs.Closing.{FinalUnder, BrokeFinal, IsClosed, StandsClosed, AllClosed}
use Rattle.world_acks.specs.Waiting.{Requests}
use Rattle.world_acks.proofs.Requests.{first-once}
use Rattle.world_acks.proofs.Passing.{passes-none}
use Rattle.world_acks.proofs.Seats.{shown-less, told-none, Lasting, all-closed-on, seated-on, pipe-on, node-on}

-- WHAT IS KNOWN

pub record Known (g : Givens) (t : Ends) (w : World) : Type 0 where
  pub facts : Facts g w
  pub sets : SetUps g w
  pub requests : Requests w
  pub acked : Acked g t w
  pub recovering : Recovering g w

-- a later world in which a node's replica of a block is this one
pub record Then (g : Givens) (t : Ends) (w v : World) (n b : ℕ) (r : FullReplica) : Type 0 where
  pub on : Lasting g g t t w v
  pub facts : Facts g v
  pub recovering : Recovering g v
  pub at : v.replicas n b ≡ r
  pub breaks : v.breaks n b ≡ w.breaks n b
  pub lives : v.lives n ≡ w.lives n

-- what a replica shows under its stamp
pub shown-says : (g : Givens) (v : World) (b : ℕ) (r : FullReplica) (j : ReplicaInfo) (e m k : ℕ) → ReplicaSays g v.past b r → IsFull r → r.known.info ≡ Some j → g b j.stamp.0 ≡ Some e → visible_of j ≡ Some m → m ≤ j.written → k ≤ m
    → Shown r j.stamp.0 k (v.written e)
shown-says g v b r j e m k s f is given sees within le =
    let h : Holds g v.past b r.bytes j = subst (λ (o : Option ReplicaInfo). IfSome o (Holds g v.past b r.bytes)) is s.info in
    let same : h.under.session ≡ e = same_Some h.under.session e (sym h.under.given ∙ given) in
    let front = subst (λ (x : ℕ). IsFront r.bytes (v.written x)) same h.under.front in
    let long : length r.bytes ≡ j.written = f.all ∙ ap (λ (o : Option ReplicaInfo). written_at o) is in
    record {
      info = j;
      is = is;
      least = omega arith;
      visible = m;
      sees = sees;
      enough = le;
      bytes = front-takes k r.bytes (v.written e) front (omega (arith, le, within, long));
      within = omega (arith, le, within, long, front-length r.bytes (v.written e) front);
    }

-- what was taken from below
abbrev pub HeardTells : Givens → Ends → World → ℕ → Next → Type 0
HeardTells g t w d (message m) = UpTells g t w d m
HeardTells g t w d the_end = Unit {0}

-- A GOOD ACK

-- a book call that was taken
ok-of : (o : Outcome) → booked_as (answer_of (reply o)) ≡ booked.Taken → (x : Taken) × (o ≡ Ok x)
ok-of (Ok x) e = (x, refl)
ok-of (Err f) e = absurd (refused e)
  where
    refused : booked.Refused f ≡ booked.Taken → ⊥
    refused q = cc

-- what is acked is shown
record Shows (d : ReplicaRecord) (i : ReplicaInfo) (p : PendingPacket) : Type 0 where
  pub after : ReplicaInfo
  pub is : d.info ≡ Some after
  pub stamp : after.stamp ≡ i.stamp
  pub free : i.recovery ≡ None → after.recovery ≡ None
  pub visible : ℕ
  pub sees : visible_of after ≡ Some visible
  pub enough : IsConsistent after → p.end ≤ visible
  pub within : IsConsistent after → visible ≤ after.written
  pub final : p.last ≡ true → after.original ≡ state.Finalized

acknowledged : (c : ReplicaRecord) (i : ReplicaInfo) (p : PendingPacket) → i.original ≡ state.Rbw → Shows (acknowledge c i p true) i p
acknowledged c i p e =
    if-each (λ (d : ReplicaRecord). Shows d i p) p.last _ _
    (λ _. record {
      after = close_stream (advance_acked i p.end);
      is = refl;
      stamp = refl;
      free = λ _. refl;
      visible = i.written;
      sees = subst (λ (s : ReplicaState). visible_of (close_stream (record (advance_acked i p.end) { original = s })) ≡ Some i.written) (sym e) refl;
      enough = λ h. omega (arith, h.acked);
      within = λ h. omega arith;
      final = λ _. ap state_after_last e;
    })
    (λ q. record {
      after = advance_acked i p.end;
      is = refl;
      stamp = refl;
      free = λ e. e;
      visible = max i.acked p.end;
      sees = subst (λ (s : ReplicaState). visible_of (record (advance_acked i p.end) { original = s }) ≡ Some (max i.acked p.end)) (sym e) refl;
      enough = λ h. omega arith;
      within = λ h. omega (arith, h.acked);
      final = λ l. absurd (false≢true (sym q ∙ l));
    })

none-of : (o : Option Stamp) (s : ReplicaState) → is_writable (state_under o s) ≡ true → o ≡ None
none-of None s e = refl
none-of (Some id) s e = absurd (false≢true e)

rbw-of : (o : Option Stamp) (s : ReplicaState) → is_writable (state_under o s) ≡ true → (s ≡ state.Temporary → ⊥) → s ≡ state.Rbw
rbw-of (Some id) s e l = absurd (false≢true e)
rbw-of None state.Rbw e l = refl
rbw-of None state.Temporary e l = absurd (l refl)
rbw-of None state.Finalized e l = absurd (false≢true e)
rbw-of None state.Rwr e l = absurd (false≢true e)
rbw-of None state.Rur e l = absurd (false≢true e)

record GoodAck (r : FullReplica) (conn : ConnId) (seqno : ℤ) : Type 0 where
  pub entry : PendingPacket
  pub oldest : slice_get r.known.pending 0 ≡ Some entry
  pub info : ReplicaInfo
  pub was : r.known.info ≡ Some info
  pub free : info.recovery ≡ None
  pub stream : Stream
  pub writes : r.known.stream ≡ Some stream
  pub by : stream.conn.0 ≡ conn.0
  pub shows : Shows (row r (replica_event.Other (event.Ack conn seqno true))).known info entry

same-taken : (x y : Taken) (o : Outcome) → o ≡ Ok x → o ≡ Ok y → x.replica ≡ y.replica
same-taken x y o e f = cc

good-ack : (r : FullReplica) (conn : ConnId) (seqno : ℤ) → IsFull r → IfSome r.known.info IsPlain → outcome_of r (Some (replica_event.Other (event.Ack conn seqno true))) ≡ booked.Taken → GoodAck r conn seqno
unfolding transition
good-ack r conn seqno full plain taken = go (ok-of (transition r.known (event.Ack conn seqno true)) taken)
  where
    c : ReplicaRecord
    c = r.known

    final : (x : Taken) (h : ReplicaInfo) (s : Stream) (e : PendingPacket) → transition c (event.Ack conn seqno true) ≡ Ok x → present c ≡ Ok h → stream_by c.stream conn ≡ Ok s → oldest_of (slice_get c.pending 0) seqno ≡ Ok e
        → done (acknowledge c h e true) ≡ Ok x → GoodAck r conn seqno
    final x h s e whole there by old made =
        let is = (present_is c h there).1 in
        let writes = stream_by_is c.stream conn s by in
        let state : is_writable (state_of h) ≡ true = writable s h writes.0 is in
        record {
          entry = e;
          oldest = oldest_is (slice_get c.pending 0) seqno e old;
          info = h;
          was = is;
          free = none-of h.recovery h.original state;
          stream = s;
          writes = writes.0;
          by = writes.1;
          shows = subst (λ (d : ReplicaRecord). Shows d h e) (sym (ap after whole ∙ sym (same-taken (record { replica = acknowledge c h e true; answer = core_answer.Done }) x (done (acknowledge c h e true)) refl made)))
              (acknowledged c h e (rbw-of h.recovery h.original state (subst (λ (o : Option ReplicaInfo). IfSome o IsPlain) is plain).lasting));
        }
      where
        after : Outcome → ReplicaRecord
        after (Ok y) = y.replica
        after (Err f) = c

        writable : (s : Stream) (h : ReplicaInfo) → c.stream ≡ Some s → c.info ≡ Some h → is_writable (state_of h) ≡ true
        writable s h a b = same_Some (is_writable (state_of h)) true (subst (λ (o : Option ReplicaInfo). IsWritable (option_map state_of o)) b (subst (λ (o : Option Stream). IfSome o (λ _. IsWritable (state_in c))) a full.sound.writing))

    go : (x : Taken) × (transition c (event.Ack conn seqno true) ≡ Ok x) → GoodAck r conn seqno
    go (x, whole) = one (step_ok (present c) _ x whole)
      where
        three : (h : ReplicaInfo) (s : Stream) → present c ≡ Ok h → stream_by c.stream conn ≡ Ok s → (e : PendingPacket) × (oldest_of (slice_get c.pending 0) seqno ≡ Ok e) × (done (acknowledge c h e true) ≡ Ok x) → GoodAck r conn seqno
        three h s a b y = final x h s y.0 whole a b y.1 y.2

        two : (h : ReplicaInfo) → present c ≡ Ok h → (s : Stream) × (stream_by c.stream conn ≡ Ok s) × ((oldest_of (slice_get c.pending 0) seqno >>= (λ e. done (acknowledge c h e true))) ≡ Ok x) → GoodAck r conn seqno
        two h a y = three h y.0 a y.1 (step_ok (oldest_of (slice_get c.pending 0) seqno) _ x y.2)

        one : (h : ReplicaInfo) × (present c ≡ Ok h) × ((stream_by c.stream conn >>= (λ s. oldest_of (slice_get c.pending 0) seqno >>= (λ e. done (acknowledge c h e true)))) ≡ Ok x) → GoodAck r conn seqno
        one y = two y.0 y.1 (step_ok (stream_by c.stream conn) _ x y.2)

-- MEMBERS

-- a member of a node that runs in the life of its connection
pub record Acts (g : Givens) (t : Ends) (w : World) (c : ℕ) (m : FullMember) : Type 0 where
  pub known : Known g t w
  pub tells : MemberTells g w c m
  pub conn : m.state.conn.0 ≡ c
  pub alive : w.lives (node_of w c) ≡ (w.dialled c).to.life

abbrev At : World → ℕ → FullMember → FullReplica
At w c m = replica_at w c (block_of m.fields)

-- the stamp of the replica that a member's connection writes
pub written-stamp : (g : Givens) (t : Ends) (w : World) (c : ℕ) (m : FullMember) (i : ReplicaInfo) (s : Stream) → Acts g t w c m → (At w c m).known.info ≡ Some i → (At w c m).known.stream ≡ Some s → s.conn.0 ≡ c → i.stamp ≡ new_stamp m.fields
written-stamp g t w c m i s a is by conn =
    let says = a.known.facts.carried.replicas (node_of w c) (block_of m.fields) in
    let own : Sets w.past s.conn.0 i.stamp =
    subst (λ (o : Option ReplicaInfo). IfSome o (λ j. Sets w.past s.conn.0 j.stamp)) is (subst (λ (o : Option Stream). IfSome o (SetFor w.past (At w c m).known.info)) by says.stream) in
    sets-once w.past c i.stamp (new_stamp m.fields) (subst (λ (n : ℕ). Sets w.past n i.stamp) conn own) (record { fields = m.fields; first = a.tells.pipe.asked.first; is = refl })

-- a replica that isn't broken has no break
pub no-break : (g : Givens) (w : World) (n b : ℕ) (P : Break → Type 0) → SetUps g w → (w.replicas n b).known.is_broken ≡ false → IfSome (w.breaks n b) P
no-break g w n b P h e = go (w.breaks n b) (h.breaks n b)
  where
    go : (o : Option Break) → IfSome o (BreakReached g w.joined n b (w.replicas n b)) → IfSome o P
    go None x = tt
    go (Some k) x = absurd (false≢true (sym e ∙ x.broken))

-- what a member acks, by its number, and what it shows then; with the last packet it has closed
record Books (t : Ends) (v : World) (n session : ℕ) (m : FullMember) (e : PendingPacket) : Type 0 where
  pub named : t session e.seqno ≡ Some (pending_end e)
  pub closed : e.last ≡ true → IsClosed v (block_of m.fields) (new_stamp m.fields).0 n
  pub seat : Seat v (block_of m.fields) (new_stamp m.fields).0 session n e.end

abbrev Good : FullMember → PendingPacket → ReplicaEvent
Good m e = replica_event.Other (event.Ack m.state.conn e.seqno true)

books : (g : Givens) (t : Ends) (w v : World) (c : ℕ) (m : FullMember) (e : PendingPacket) → (a : Acts g t w c m) → slice_get (At w c m).known.pending 0 ≡ Some e
    → Then g t w v (node_of w c) (block_of m.fields) (row (At w c m) (Good m e)) → outcome_of (At w c m) (Some (Good m e)) ≡ booked.Taken → Books t v (node_of w c) a.tells.session m e
books g t w v c m e a old y taken =
    let n = node_of w c in
    let b = block_of m.fields in
    let r = At w c m in
    let q = row r (Good m e) in
    let x = good-ack r m.state.conn e.seqno (a.known.facts.full n b) (a.known.sets.plain n b) taken in
    let same : x.entry ≡ e = same_Some x.entry e (sym x.oldest ∙ old) in
    let stamp : x.info.stamp ≡ new_stamp m.fields = written-stamp g t w c m x.info x.stream a x.was x.writes (x.by ∙ a.conn) in
    let pend : PendingTells g t b x.info.stamp e = (subst (λ (o : Option ReplicaInfo). IfSome o (Pends g t b r.known)) x.was (a.known.acked.replicas n b)).each 0 e old in
    let session : pend.session ≡ a.tells.session = same_Some pend.session a.tells.session (sym pend.given ∙ ap (λ (z : Stamp). g b z.0) stamp ∙ a.tells.pipe.given) in
    let full : IsFull q = subst (λ (z : FullReplica). IsFull z) y.at (y.facts.full n b) in
    let says : ReplicaSays g v.past b q = subst (λ (z : FullReplica). ReplicaSays g v.past b z) y.at (y.facts.carried.replicas n b) in
    let k : Shows q.known x.info x.entry = x.shows in
    let after : k.after.stamp ≡ new_stamp m.fields = k.stamp ∙ stamp in
    let good : IsConsistent k.after = subst (λ (o : Option ReplicaInfo). IfSome o IsConsistent) k.is full.sound.info in
    let shown : Shown q k.after.stamp.0 x.entry.end (v.written a.tells.session) =
    shown-says g v b q k.after a.tells.session k.visible x.entry.end says full k.is (ap (λ (z : Stamp). g b z.0) after ∙ a.tells.pipe.given) k.sees (k.within good) (k.enough good) in
    record {
      named = ap (λ (z : ℕ). t z e.seqno) (sym session) ∙ pend.named;
      closed = λ l. record {
        replica = subst (λ (z : FullReplica). FinalUnder (new_stamp m.fields).0 z.known.info) (sym y.at)
            (record { info = k.after; is = k.is; original = k.final (ap (λ (z : PendingPacket). z.last) same ∙ l); under = ap (λ (z : Stamp). z.0) after });
        broke = subst (λ (o : Option Break). IfSome o (BrokeFinal (new_stamp m.fields).0)) (sym y.breaks) (no-break g w n b (BrokeFinal (new_stamp m.fields).0) a.known.sets
            (subst (λ (o : Option Stream). IfSome o (λ _. r.known.is_broken ≡ false)) x.writes (a.known.facts.full n b).sound.sound));
      };
      seat = record {
        life = (w.dialled c).to.life;
        joins = y.on.joined (joined_as (new_stamp m.fields).0 n (w.dialled c).to.life) a.tells.joins;
        born = omega (arith, y.lives, a.alive);
        shows = λ _ _ _ i le _. shown-less (v.replicas n b) (new_stamp m.fields).0 i e.end (v.written a.tells.session) le (subst (λ (z : FullReplica). Shown z (new_stamp m.fields).0 e.end (v.written a.tells.session)) (sym y.at)
            (subst (λ (z : PendingPacket). Shown q (new_stamp m.fields).0 z.end (v.written a.tells.session)) same
            (subst (λ (z : Stamp). Shown q z.0 x.entry.end (v.written a.tells.session)) after shown)));
        told = told-none g v b (new_stamp m.fields).0 n (w.dialled c).to.life e.end k.after y.recovering (ap (λ (z : FullReplica). z.known.info) y.at ∙ k.is) (k.free x.free)
            (omega (arith, ap (λ (z : Stamp). z.0) after)) (sym (y.lives ∙ a.alive));
        passes = passes-none g v b (new_stamp m.fields).0 n (w.dialled c).to.life k.after y.recovering (ap (λ (z : FullReplica). z.known.info) y.at ∙ k.is) (k.free x.free) (ap (λ (z : Stamp). z.0) after) (sym (y.lives ∙ a.alive));
      };
    }

-- THE MIRROR

pub same-asked : (w : World) (c : ℕ) (f k : WriteFields) → Asked w.past c f → Asked w.past c k → f ≡ k
same-asked w c f k x y = first-once w c f k x.first y.first

pub never-both : (w : World) (c : ℕ) (f : WriteFields) → Asked w.past c f → AsksToRead w.past c → ⊥
never-both w c f x y = apart f y.asked (same_Some _ _ (sym x.first ∙ y.first))
  where
    apart : (a : WriteFields) (d : ReadOp) → request (op.Write a) ≡ request (op.Read d) → ⊥
    apart a d e = cc

-- a connection to the mirror of a member
pub record FromMirror (w : World) (d : ℕ) (m : FullMember) : Type 0 where
  pub source : NodeRef
  pub first : NodeRef
  pub rest : List NodeRef
  pub targets : m.fields.targets ≡ first ∷ rest
  pub node : node_on first.xfer ≡ Some (node_of w d)
  pub asked : Asked w.past d (request_from source m.fields rest)

pub from-mirror : (w : World) (c d : ℕ) (m : FullMember) → Asked w.past c m.fields → Mirrors w.past c d → FromMirror w d m
from-mirror w c d m a x =
    let e = same-asked w c x.fields m.fields x.asked a in
    record {
      source = x.source;
      first = x.first;
      rest = x.rest;
      targets = ap (λ (f : WriteFields). f.targets) (sym e) ∙ x.targets;
      node = x.node;
      asked = subst (λ (f : WriteFields). Asked w.past d (request_from x.source f x.rest)) e x.mirror;
    }

join-seats : (v : World) (f : WriteFields) (source first : NodeRef) (rest : List NodeRef) (n d e k : ℕ) → f.targets ≡ first ∷ rest → node_on first.xfer ≡ Some d → Seat v (block_of f) (new_stamp f).0 e n k
    → Seated v (request_from source f rest) d e k → Seated v f n e k
join-seats v f source first rest n d e k ts at own h = record {
  here = own;
  below = λ i m t a b. go i m t (subst (λ (xs : List NodeRef). slice_get xs i ≡ Some t) ts a) b;
}
  where
    go : (i m : ℕ) (t : NodeRef) → slice_get (first ∷ rest) i ≡ Some t → node_on t.xfer ≡ Some m → Seat v (block_of f) (new_stamp f).0 e m k
    go zero m t a b = subst (λ (x : ℕ). Seat v (block_of f) (new_stamp f).0 e x k) (same_Some d m (sym at ∙ ap (λ (z : NodeRef). node_on z.xfer) (same_Some first t a) ∙ b)) h.here
    go (suc i) m t a b = h.below i m t a b

lone-seat : (v : World) (f : WriteFields) (n e k : ℕ) → f.targets ≡ [] → Seat v (block_of f) (new_stamp f).0 e n k → Seated v f n e k
lone-seat v f n e k ts own = record { here = own; below = λ i m t a b. absurd (none-some t (subst (λ (xs : List NodeRef). slice_get xs i ≡ Some t) ts a)) }

-- the same of nodes that stand closed
join-closed : (g : Givens) (v : World) (f : WriteFields) (source first : NodeRef) (rest : List NodeRef) (n d : ℕ) → f.targets ≡ first ∷ rest → node_on first.xfer ≡ Some d → StandsClosed g v (block_of f) (new_stamp f).0 n
    → AllClosed g v (request_from source f rest) d → AllClosed g v f n
join-closed g v f source first rest n d ts at own h = record {
  here = own;
  below = λ i m t a b. go i m t (subst (λ (xs : List NodeRef). slice_get xs i ≡ Some t) ts a) b;
}
  where
    go : (i m : ℕ) (t : NodeRef) → slice_get (first ∷ rest) i ≡ Some t → node_on t.xfer ≡ Some m → StandsClosed g v (block_of f) (new_stamp f).0 m
    go zero m t a b = subst (λ (x : ℕ). StandsClosed g v (block_of f) (new_stamp f).0 x) (same_Some d m (sym at ∙ ap (λ (z : NodeRef). node_on z.xfer) (same_Some first t a) ∙ b)) h.here
    go (suc i) m t a b = h.below i m t a b

pub lone-closed : (g : Givens) (v : World) (f : WriteFields) (n : ℕ) → f.targets ≡ [] → StandsClosed g v (block_of f) (new_stamp f).0 n → AllClosed g v f n
lone-closed g v f n ts own = record { here = own; below = λ i m t a b. absurd (none-some t (subst (λ (xs : List NodeRef). slice_get xs i ≡ Some t) ts a)) }

-- what is said of the mirror's connection, of the request that went there
below-seated : (g : Givens) (t : Ends) (w : World) (c d : ℕ) (m : FullMember) (f : WriteFields) (e k : ℕ) (a : Acts g t w c m) (x : FromMirror w d m) → IsPipe g w d f e → Seated w f (node_of w d) e k
    → (f ≡ request_from x.source m.fields x.rest) × (e ≡ a.tells.session) × Seated w (request_from x.source m.fields x.rest) (node_of w d) a.tells.session k
below-seated g t w c d m f e k a x p s =
    let same = same-asked w d f (request_from x.source m.fields x.rest) p.asked x.asked in
    let one : e ≡ a.tells.session = same_Some e a.tells.session (sym p.given ∙ ap (λ (y : WriteFields). g (block_of y) (new_stamp y).0) same ∙ a.tells.pipe.given) in
    (same, one, subst (λ (y : ℕ). Seated w (request_from x.source m.fields x.rest) (node_of w d) y k) one (subst (λ (y : WriteFields). Seated w y (node_of w d) e k) same s))

passes-setup : (g : Givens) (t : Ends) (w v : World) (c d : ℕ) (m : FullMember) → Acts g t w c m → FromMirror w d m → Lasting g g t t w v → SetUpFrom g w d → SetUpFrom g v c
passes-setup g t w v c d m a x o h =
    let y = below-seated g t w c d m h.fields h.session (promised h.fields) a x h.pipe h.seated in
    let low = subst (λ (f : WriteFields). Seated w (request_from x.source m.fields x.rest) (node_of w d) a.tells.session (promised f)) y.0 y.2 in
    let all = join-seats w m.fields x.source x.first x.rest (node_of w c) (node_of w d) a.tells.session (promised m.fields) x.targets x.node a.tells.seat low in
    record {
      fields = m.fields;
      session = a.tells.session;
      pipe = pipe-on g g t t w v c m.fields a.tells.session o.on a.tells.pipe;
      seated = subst (λ (n : ℕ). Seated v m.fields n a.tells.session (promised m.fields)) (node-on g g t t w v c o.on a.tells.pipe.known) (seated-on g g t t w v m.fields (node_of w c) a.tells.session (promised m.fields) o.on all);
      closed = λ s. subst (λ (n : ℕ). AllClosed g v m.fields n) (node-on g g t t w v c o.on a.tells.pipe.known) (all-closed-on g g t t w v m.fields (node_of w c) o
          (join-closed g w m.fields x.source x.first x.rest (node_of w c) (node_of w d) x.targets x.node (a.tells.closes s)
          (subst (λ (f : WriteFields). AllClosed g w f (node_of w d)) y.0 (h.closed (ap (λ (f : WriteFields). setup_with f.stage) y.0 ∙ s)))));
    }

acked-with : (g : Givens) (t : Ends) (w v : World) (c : ℕ) (m : FullMember) (e : PendingPacket) (a : Acts g t w c m) → Lasting g g t t w v → t a.tells.session e.seqno ≡ Some (pending_end e)
    → Seated v m.fields (node_of w c) a.tells.session e.end → (e.last ≡ true → AllClosed g v m.fields (node_of w c)) → AckedFrom g t v c e.seqno
acked-with g t w v c m e a o named s closed = record {
  fields = m.fields;
  session = a.tells.session;
  pipe = pipe-on g g t t w v c m.fields a.tells.session o.on a.tells.pipe;
  end = pending_end e;
  named = named;
  seated = subst (λ (n : ℕ). Seated v m.fields n a.tells.session e.end) (node-on g g t t w v c o.on a.tells.pipe.known) s;
  closed = λ l. subst (λ (n : ℕ). AllClosed g v m.fields n) (node-on g g t t w v c o.on a.tells.pipe.known) (closed l);
}

passes-ack : (g : Givens) (t : Ends) (w v : World) (c d : ℕ) (m : FullMember) (e : PendingPacket) (a : Acts g t w c m) → FromMirror w d m → Lasting g g t t w v → AckedFrom g t w d e.seqno → Books t v (node_of w c) a.tells.session m e
    → AckedFrom g t v c e.seqno
passes-ack g t w v c d m e a x o h k =
    let y = below-seated g t w c d m h.fields h.session h.end.at a x h.pipe h.seated in
    let one : h.end ≡ pending_end e = same_Some h.end (pending_end e) (sym h.named ∙ ap (λ (z : ℕ). t z e.seqno) y.1 ∙ k.named) in
    let low = subst (λ (z : PacketEnd). Seated w (request_from x.source m.fields x.rest) (node_of w d) a.tells.session z.at) one y.2 in
    acked-with g t w v c m e a o k.named (join-seats v m.fields x.source x.first x.rest (node_of w c) (node_of w d) a.tells.session e.end x.targets x.node k.seat
    (seated-on g g t t w v (request_from x.source m.fields x.rest) (node_of w d) a.tells.session e.end o.on low)) (λ l. all y.0 (ap (λ (z : PacketEnd). z.last) one ∙ l) l)
  where
    all : h.fields ≡ request_from x.source m.fields x.rest → h.end.last ≡ true → e.last ≡ true → AllClosed g v m.fields (node_of w c)
    all same last own =
        let low : AllClosed g v (request_from x.source m.fields x.rest) (node_of w d) =
        all-closed-on g g t t w v (request_from x.source m.fields x.rest) (node_of w d) o (subst (λ (f : WriteFields). AllClosed g w f (node_of w d)) same (h.closed last)) in
        join-closed g v m.fields x.source x.first x.rest (node_of w c) (node_of w d) x.targets x.node (record { has = inl (k.closed own); quiet = low.here.quiet }) low

lone-ack : (g : Givens) (t : Ends) (w v : World) (c : ℕ) (m : FullMember) (e : PendingPacket) (a : Acts g t w c m) → m.state.mirror ≡ mirror.Nobody → Lasting g g t t w v → Books t v (node_of w c) a.tells.session m e → AckedFrom g t v c e.seqno
lone-ack g t w v c m e a none o k =
    let ts = a.tells.alone none in
    acked-with g t w v c m e a o k.named (lone-seat v m.fields (node_of w c) a.tells.session e.end ts k.seat)
    (λ l. lone-closed g v m.fields (node_of w c) ts (record { has = inl (k.closed l); quiet = o.quiet (new_stamp m.fields).0 (a.tells.quiet none) }))

-- TURNS

-- a call of a member that streams
abbrev pub IsStreamCall : ReplicaEvent → Type 0
IsStreamCall (replica_event.Packet conn p) = Unit {0}
IsStreamCall (replica_event.Other (event.Ack conn seqno good)) = Unit {0}
IsStreamCall (replica_event.Other (event.Ended conn)) = Unit {0}
IsStreamCall _ = ⊥

pub record TurnTells (g : Givens) (t : Ends) (w : World) (c : ℕ) (m : FullMember) (x : Turn) : Type 0 where
  pub call : IfSome x.call IsStreamCall
  pub mirror : x.mirror ≡ mirror.Nobody → m.state.mirror ≡ mirror.Nobody
  pub sends : (v : World) → Then g t w v (node_of w c) (block_of m.fields) (replica_after (At w c m) x.call) → outcome_of (At w c m) x.call ≡ booked.Taken
      → IfSome x.effect.sends (λ u. UpTells g t v c (upward_message m.fields u))

not-nobody : (x : Mirror) (m : FullMember) → (x ≡ mirror.Nobody → ⊥) → x ≡ mirror.Nobody → m.state.mirror ≡ mirror.Nobody
not-nobody x m h e = absurd (h e)

open-not : mirror.Open ≡ mirror.Nobody → ⊥
open-not e = cc

ended-not : mirror.Ended ≡ mirror.Nobody → ⊥
ended-not e = cc

fail-tells : (g : Givens) (t : Ends) (w : World) (c : ℕ) (m : FullMember) (a : SetupAnswer) → (a ≡ answer.Success → ⊥) → TurnTells g t w c m (fail_turn m.state a)
unfolding response_of
fail-tells g t w c m a h = record { call = tt; mirror = not-nobody mirror.Ended m ended-not; sends = λ v _ _. go v a h }
  where
    go : (v : World) (x : SetupAnswer) → (x ≡ answer.Success → ⊥) → UpTells g t v c (response (response_of m.fields x))
    go v answer.Success k = absurd (k refl)
    go v answer.Unreached k = λ e. absurd (false≢true e)
    go v (answer.Below first) k = λ e. absurd (false≢true e)
    go v (answer.Refused q) k = λ e. absurd (false≢true e)

one-bad : (q : ℤ) → failures (status.Success ∷ status.Error ∷ []) ≡ 0 → ⊥
one-bad q e = absurd (omega (arith, e))

sum-bad : (q : ℤ) → failures (status.ErrorChecksum ∷ []) ≡ 0 → ⊥
sum-bad q e = absurd (omega (arith, e))

give-up-tells : (g : Givens) (t : Ends) (w : World) (c : ℕ) (m : FullMember) (e : PendingPacket) → TurnTells g t w c m (give_up_turn m.state e)
give-up-tells g t w c m e = record { call = tt; mirror = not-nobody mirror.Ended m ended-not; sends = λ v _ _ q. absurd (one-bad e.seqno q) }

bad-tells : (g : Givens) (t : Ends) (w : World) (c : ℕ) (m : FullMember) (q : ℤ) → TurnTells g t w c m (bad_turn m.state q)
bad-tells g t w c m q = record { call = tt; mirror = λ e. e; sends = λ v _ _ e. absurd (sum-bad q e) }

own-good : (rs : List Status) → failures (with_own rs) ≡ failures rs
own-good rs = refl

partial-tells : (g : Givens) (t : Ends) (w : World) (c : ℕ) (m : FullMember) (e : PendingPacket) (rs : List Status) → (failures rs == 0) ≡ false → TurnTells g t w c m (partial_turn m.state e (with_own rs))
partial-tells g t w c m e rs h = record { call = tt; mirror = λ q. q; sends = λ v _ _ q. absurd (eqb-false (failures rs) 0 h (sym (own-good rs) ∙ q)) }

failed-tells : (g : Givens) (t : Ends) (w : World) (c : ℕ) (m : FullMember) (e : PendingPacket) (rs : List Status) → (failures rs == 0) ≡ false → TurnTells g t w c m (failed_turn m.state e rs)
failed-tells g t w c m e rs h =
    if-each (TurnTells g t w c m) (begins_with_bad_sum rs) (spoiled_turn m.state) (partial_turn m.state e (with_own rs)) (λ _. record { call = tt; mirror = λ q. q; sends = λ v _ _. tt }) (λ _. partial-tells g t w c m e rs h)

pass-tells : (g : Givens) (t : Ends) (w : World) (c d : ℕ) (m : FullMember) (e : PendingPacket) (k : Ack) → Acts g t w c m → FromMirror w d m → slice_get (At w c m).known.pending 0 ≡ Some e → k.seqno ≡ e.seqno → UpTells g t w d (ack k)
    → TurnTells g t w c m (pass_turn m.state e k.replies)
pass-tells g t w c d m e k a x old same h =
    if-each (TurnTells g t w c m) (failures k.replies == 0) (good_turn m.state e (with_own k.replies)) (failed_turn m.state e k.replies)
    (λ q. record {
      call = tt;
      mirror = λ z. z;
      sends = λ v y taken _. passes-ack g t w v c d m e a x y.on (subst (λ (z : ℤ). AckedFrom g t w d z) same (h (eqb-true (failures k.replies) 0 q))) (books g t w v c m e a old y taken);
    })
    (λ q. failed-tells g t w c m e k.replies q)

int-same : (a b : ℤ) → int_eq a b ≡ true → a ≡ b
int-same a b e = grind (arith, nat_tests, e)

ack-tells : (g : Givens) (t : Ends) (w : World) (c d : ℕ) (m : FullMember) (e : PendingPacket) (x : Next) → Acts g t w c m → FromMirror w d m → slice_get (At w c m).known.pending 0 ≡ Some e → HeardTells g t w d x
    → TurnTells g t w c m (ack_turn m.state e (below_of x))
ack-tells g t w c d m e (message (ack k)) a x old h =
    if-each (TurnTells g t w c m) (is_read m.state.below e.seqno k) (pass_turn m.state e k.replies) (give_up_turn m.state e)
    (λ q. pass-tells g t w c d m e k a x old (int-same k.seqno e.seqno (and-left (int_eq k.seqno e.seqno) (are_replies m.state.below k.replies) q)) h) (λ _. give-up-tells g t w c m e)
ack-tells g t w c d m e (message (response r)) a x old h = give-up-tells g t w c m e
ack-tells g t w c d m e (message (request r)) a x old h = give-up-tells g t w c m e
ack-tells g t w c d m e (message (packet r)) a x old h = give-up-tells g t w c m e
ack-tells g t w c d m e (message (read_status r)) a x old h = give-up-tells g t w c m e
ack-tells g t w c d m e (message (recovery_answer r)) a x old h = give-up-tells g t w c m e
ack-tells g t w c d m e the_end a x old h = give-up-tells g t w c m e

named-not : (xs : List ℕ) → named_bad xs ≡ answer.Success → ⊥
named-not [] e = cc
named-not (x ∷ xs) e = cc

unreached-not : answer.Unreached ≡ answer.Success → ⊥
unreached-not e = cc

answered-tells : (g : Givens) (t : Ends) (w : World) (c d : ℕ) (m : FullMember) (r : Response) → Acts g t w c m → FromMirror w d m → UpTells g t w d (response r) → TurnTells g t w c m (answered_turn m.state r)
answered-tells g t w c d m r a x h =
    if-each (TurnTells g t w c m) (is_success r.status) (accept_turn m.state) (fail_turn m.state (named_bad r.first_bad))
    (λ q. record { call = tt; mirror = not-nobody mirror.Open m open-not; sends = λ v y _ _. inl (go v y.on (h q)) })
    (λ _. fail-tells g t w c m (named_bad r.first_bad) (named-not r.first_bad))
  where
    go : (v : World) → Lasting g g t t w v → SetUpFrom g w d ⊎ AsksToRead w.past d → SetUpFrom g v c
    go v o (inl y) = passes-setup g t w v c d m a x o y
    go v o (inr y) = absurd (never-both w d (request_from x.source m.fields x.rest) x.asked y)

setup-tells : (g : Givens) (t : Ends) (w : World) (c d : ℕ) (m : FullMember) (x : Next) → Acts g t w c m → FromMirror w d m → HeardTells g t w d x → TurnTells g t w c m (setup_turn m.state (below_of x))
setup-tells g t w c d m (message (response r)) a y h = answered-tells g t w c d m r a y h
setup-tells g t w c d m (message (ack k)) a y h = fail-tells g t w c m answer.Unreached unreached-not
setup-tells g t w c d m (message (request r)) a y h = fail-tells g t w c m answer.Unreached unreached-not
setup-tells g t w c d m (message (packet r)) a y h = fail-tells g t w c m answer.Unreached unreached-not
setup-tells g t w c d m (message (read_status r)) a y h = fail-tells g t w c m answer.Unreached unreached-not
setup-tells g t w c d m (message (recovery_answer r)) a y h = fail-tells g t w c m answer.Unreached unreached-not
setup-tells g t w c d m the_end a y h = fail-tells g t w c m answer.Unreached unreached-not

stream-tells : (g : Givens) (t : Ends) (w : World) (c d : ℕ) (m : FullMember) (o : Option PendingPacket) (x : Next) → Acts g t w c m → FromMirror w d m → oldest_at (At w c m) ≡ o → HeardTells g t w d x
    → TurnTells g t w c m (stream_turn m.state o (below_of x))
stream-tells g t w c d m None x a y old h = record { call = tt; mirror = not-nobody mirror.Ended m ended-not; sends = λ v _ _. tt }
stream-tells g t w c d m (Some e) x a y old h = ack-tells g t w c d m e x a y old h

up-at-tells : (q : Mirror) (g : Givens) (t : Ends) (w : World) (c d : ℕ) (m : FullMember) (o : Option PendingPacket) (x : Next) → m.state.mirror ≡ q → Acts g t w c m → FromMirror w d m → oldest_at (At w c m) ≡ o → HeardTells g t w d x
    → TurnTells g t w c m (up_at q m.state o (below_of x))
up-at-tells mirror.Asked g t w c d m o x e a y old h = setup-tells g t w c d m x a y h
up-at-tells mirror.Open g t w c d m o x e a y old h = stream-tells g t w c d m o x a y old h
up-at-tells mirror.Nobody g t w c d m o x e a y old h = record { call = tt; mirror = λ z. z; sends = λ v _ _. tt }
up-at-tells mirror.Unreachable g t w c d m o x e a y old h = record { call = tt; mirror = λ z. z; sends = λ v _ _. tt }
up-at-tells mirror.Ended g t w c d m o x e a y old h = record { call = tt; mirror = λ z. z; sends = λ v _ _. tt }

pub up-tells : (g : Givens) (t : Ends) (w : World) (c d : ℕ) (m : FullMember) (x : Next) → Acts g t w c m → FromMirror w d m → HeardTells g t w d x
    → TurnTells g t w c m (up_turn m.state (oldest_at (At w c m)) (below_of x))
up-tells g t w c d m x a y h = up-at-tells m.state.mirror g t w c d m (oldest_at (At w c m)) x refl a y refl h

-- READY

idle-tells : (g : Givens) (t : Ends) (w : World) (c : ℕ) (m : FullMember) (writes : Bool) → IfSome (idle_turn m.state writes) (TurnTells g t w c m)
idle-tells g t w c m true = tt
idle-tells g t w c m false = record { call = tt; mirror = λ z. z; sends = λ v _ _. tt }

quiet-tells : (g : Givens) (t : Ends) (w : World) (c : ℕ) (m : FullMember) (bad : Option ℤ) (writes : Bool) → IfSome (quiet_turn m.state bad writes) (TurnTells g t w c m)
quiet-tells g t w c m (Some q) writes = bad-tells g t w c m q
quiet-tells g t w c m None writes = idle-tells g t w c m writes

patient-tells : (g : Givens) (t : Ends) (w : World) (c : ℕ) (m : FullMember) (bad : Option ℤ) → IfSome (patient_turn m.state bad) (TurnTells g t w c m)
patient-tells g t w c m (Some q) = bad-tells g t w c m q
patient-tells g t w c m None = tt

ready-at-tells : (q : Mirror) (g : Givens) (t : Ends) (w : World) (c : ℕ) (m : FullMember) (o : Option PendingPacket) (writes : Bool) → m.state.mirror ≡ q → Acts g t w c m → oldest_at (At w c m) ≡ o
    → IfSome (ready_at q m.state o writes) (TurnTells g t w c m)
ready-at-tells mirror.Asked g t w c m o writes e a old = tt
ready-at-tells mirror.Unreachable g t w c m o writes e a old = fail-tells g t w c m answer.Unreached unreached-not
ready-at-tells mirror.Nobody g t w c m (Some p) writes e a old = record { call = tt; mirror = λ z. z; sends = λ v y taken _. lone-ack g t w v c m p a e y.on (books g t w v c m p a old y taken) }
ready-at-tells mirror.Nobody g t w c m None writes e a old = quiet-tells g t w c m m.state.bad writes
ready-at-tells mirror.Open g t w c m (Some p) writes e a old = tt
ready-at-tells mirror.Open g t w c m None writes e a old = patient-tells g t w c m m.state.bad
ready-at-tells mirror.Ended g t w c m (Some p) writes e a old = give-up-tells g t w c m p
ready-at-tells mirror.Ended g t w c m None writes e a old = quiet-tells g t w c m m.state.bad writes

pub ready-tells : (g : Givens) (t : Ends) (w : World) (c : ℕ) (m : FullMember) (writes : Bool) → Acts g t w c m → IfSome (ready_turn m.state (oldest_at (At w c m)) writes) (TurnTells g t w c m)
ready-tells g t w c m writes a =
    if-each (λ (o : Option Turn). IfSome o (TurnTells g t w c m)) m.state.responds (ready_at m.state.mirror m.state (oldest_at (At w c m)) writes) None
    (λ _. ready-at-tells m.state.mirror g t w c m (oldest_at (At w c m)) writes refl a refl) (λ _. tt)

-- FROM ABOVE

pub down-tells : (g : Givens) (t : Ends) (w : World) (c : ℕ) (m : FullMember) (x : FromAbove) → TurnTells g t w c m (down_turn m.state x)
down-tells g t w c m (above.Packet p) = record { call = tt; mirror = λ z. z; sends = λ v _ _. tt }
down-tells g t w c m above.Unreadable = record { call = tt; mirror = λ z. z; sends = λ v _ _. tt }
down-tells g t w c m above.End = record { call = tt; mirror = λ z. z; sends = λ v _ _. tt }
