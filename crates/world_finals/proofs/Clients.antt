-- What writers and readers make of sessions at their end.
use Rattle.std.proofs.Common.{◌≡◌, ℕ, zero, suc, ◌<◌, ◌+◌, ◌⊎◌, inl, inr, Bool, true, false, List, [], ◌∷◌, length, slice_get, Option, Some, None, IfSome, Result, Ok, Err, refl, sym, ◌∙◌, ap, subst, eqb-true, ◌≤◌, arith}
use Rattle.std.specs.Prelude.{◌==◌, ◌&&◌, ◌++◌, is_none, not}
use Rattle.std.proofs.lemmas.Bool.{false≢true}
use Rattle.std.proofs.lemmas.Option.{none-some, same_Some}
use Rattle.hd_base.specs.declared.numbers.BlockId.{BlockId}
use Rattle.hd_base.specs.declared.numbers.NodeId.{NodeId}
use Rattle.hd_base.specs.declared.numbers.Stamp.{Stamp}
use Rattle.hd_base.specs.SumRules.{Rule}
use Rattle.name_core.specs.Offices.{OfficeState}
use Rattle.op_headers.specs.declared.ops.Op.{Op}
use Rattle.op_headers.specs.declared.ops.ReadOp.{ReadOp}
use Rattle.packet_codec.specs.declared.packets.Packet.{Packet}
use Rattle.packet_stream.specs.Streams.{StreamState, packet_end, written_in}
use Rattle.replica_model.specs.Rows.{FullReplica}
use Rattle.member_core.specs.declared.requests.SetupKind.{SetupKind}
use Rattle.member_core.specs.declared.requests.SetupKind.TheVariants as kind
use Rattle.member_core.specs.Requests.{setup_with}
use Rattle.world.specs.ReadCore.Readings.{ReadTaken, take_from}
use Rattle.world.specs.ReadCore.ReadTurn.{ReadTurn}
use Rattle.world.specs.ReadCore.ReadTurn.TheVariants as turn
use Rattle.writer_core.specs.declared.actions.Action.{Action}
use Rattle.writer_core.specs.declared.actions.Action.TheVariants as action
use Rattle.writer_core.specs.declared.commands.Command.{Command}
use Rattle.writer_core.specs.declared.commands.Command.TheVariants as command
use Rattle.writer_core.specs.declared.phases.Phase.{Phase}
use Rattle.writer_core.specs.declared.phases.Phase.TheVariants as phase
use Rattle.writer_core.specs.declared.phases.Setup.{Setup}
use Rattle.writer_core.specs.declared.phases.Setup.TheVariants as setup
use Rattle.writer_core.specs.declared.phases.Waiting.{Waiting}
use Rattle.writer_core.specs.declared.records.WriterRecord.{WriterRecord}
use Rattle.writer_core.specs.Requests.{min_length, request_for}
use Rattle.writer_core.specs.Transitions.{given_as, given, granted, dialled_in, dialled, own_step, dial_step, dial_step_as, open_step, completed_step}
use Rattle.writer_core.specs.Transitions as writer
use Rattle.writer_core.specs.declared.commands.CommandFault.{CommandFault}
use Rattle.writer_core.specs.declared.intake.Intake.{Intake}
use Rattle.writer_core.specs.Commands.{admitted}
use Rattle.world.specs.declared.events.TakenCommand.{TakenCommand}
use Rattle.world.specs.Parts.{Message, request, packet, Told, Writing, Reader, no_reader, reads, has_read, Primary, Break}
use Rattle.world.specs.Worlds.{World, Dial, Stamped, Change, put, past_after, latest_with, apply}
use Rattle.world.specs.Connections.{Next, is_conn, sent_on}
use Rattle.world.specs.Clients.{command_bytes, dialled_change, dialling, did, from_node_of, is_empty, is_formed, own_reader, own_reader_as, own_writer, reader_dials, reader_turn, reader_up, reader_up_as, rest_in, ruled, takes_command, writer_change, writer_hears, writer_step, writer_up}
use Rattle.world_laws.proofs.FactTables.{if-each, when-each, and-right, some-weaker}
use Rattle.world_laws.specs.Stamping.{Givens, known_heard, heard}
use Rattle.world_laws.proofs.StampWalking.{none-is}
use Rattle.world_laws.proofs.StampGivens.{put-here}
use Rattle.world_laws.specs.Carrying.{new_stamp, ConnSays, StreamOf, Streams, kind_of, AsksFor, Asks, WriterSays, Carried}
use Rattle.world_laws.proofs.ByteLeaves.{Facts}
use Rattle.world_laws.proofs.ByteWriting.{of-latest, Requested, requested}
use Rattle.world_recoveries.specs.Recovering.{HasId}
use Rattle.world_finals.specs.Finishing.{Ids, writes_no_more, EndsAt, SessionBegins, least_asked, WriteEnds, LastEnds, DownEnds, ReplicaEnds, BreakEnds, SetsNoId, has_packets, WriterEnds, AcksFrom, Finals}
use Rattle.world_finals.proofs.Writers.{Follows, follows-same, follows-then, hears-follows, dialled-follows, SendsEnd, OwnEnds, opened-ends, completed-ends, own-step-ends, command-ends, taken-packets}
use Rattle.world_finals.proofs.Frame.{Ends, replica-stays, break-stays, begins-stays, begins-more, sets-grow, leaves, acks-kept, latest-stays, grown, News, stays-so}
use Rattle.world_recoveries.specs.Naming.{IsBefore, IsPast}

-- WHAT A CLIENT BRINGS

pub record Brings (f : Ids) (g : Givens) (w : World) (k : Change) : Type 0 where
  pub ends : Ends w k
  pub news : Carried g (apply w k) → News f g w k

-- what is left alone: the office, the nodes and the primaries
pub record Apart (w : World) (k : Change) : Type 0 where
  pub office : k.office ≡ w.office
  pub replica : k.replica ≡ w.replicas k.node k.block
  pub broke : k.broke ≡ w.breaks k.node k.block
  pub primary : k.primary ≡ w.primaries k.primary_at

pub apart-news : (f : Ids) (g : Givens) (w : World) (k : Change) → Finals f g w → Facts g w → Ends w k → Apart w k → ((c j : ℕ) (m : Message) → slice_get (k.downs c) j ≡ Some m → DownEnds f g (apply w k) c m)
    → ((j : ℕ) (d : Dial) → slice_get k.dials j ≡ Some d → DownEnds f g (apply w k) (w.next_conn + j) d.request) → WriterEnds (heard k.writer) → SetsNoId f (heard k.writer).phase → AcksFrom f g w k.writer_at (w.latest k.writer_at) (heard k.writer) → News f g w k
apart-news f g w k h a e x downs dials ends stamp acks =
    let s = stays-so f g w k h a e in
    let v = apply w k in
    let o = leaves f g w k h s x.office x.primary in
    record {
      replica = subst (λ (r : FullReplica). ReplicaEnds f g v k.block r) (sym x.replica) (replica-stays f g w f g v k.block (w.replicas k.node k.block) s (h.replicas k.node k.block));
      broke = subst (λ (o : Option Break). IfSome o (BreakEnds f g v k.block)) (sym x.broke)
          (some-weaker (BreakEnds f g w k.block) (BreakEnds f g v k.block) (w.breaks k.node k.block) (λ y z. break-stays f g w f g v k.block y s z) (h.breaks k.node k.block));
      downs = downs;
      dials = dials;
      writer = ends;
      stamp = stamp;
      primary = λ id y. h.primaries k.primary_at id (subst (λ (z : Primary). HasId z id) x.primary y);
      below = λ t y. subst (λ (o : OfficeState). t < o.next.0) (sym x.office) (h.below t y);
      earlier = h.earlier;
      sends = o.sends;
      entries = o.entries;
      sessions = o.sessions;
      acks = acks-kept f g w f g k h s (latest-stays w k e.stamped) acks;
    }

-- a writer that goes on has acked no less
follows-acks : (f : Ids) (g : Givens) (w : World) (b n : ℕ) (x y : WriterRecord) → Follows x y → AcksFrom f g w b n x → AcksFrom f g w b n y
follows-acks f g w b n x y k h = record {
  begins = λ q. let u = k.acks q in let v = h.begins u.0 in (v.0, begins-more f g w b n x.stream.acked y.stream.acked u.1 v.1);
  first = λ t q. h.first t (k.creates t q);
}

-- a writer that goes on, and sends nothing
goes-on : (f : Ids) (g : Givens) (w : World) (k : Change) → Finals f g w → Facts g w → Apart w k → k.stamped ≡ None → ((k.bytes ≡ []) ⊎ ((k.session ≡ w.latest k.writer_at) × (writes_no_more (heard (w.writers k.writer_at)).phase ≡ true → k.bytes ≡ [])))
    → ((c : ℕ) → k.downs c ≡ []) → k.dials ≡ [] → Follows (heard (w.writers k.writer_at)) (heard k.writer) → Brings f g w k
goes-on f g w k h a x s b d ds y =
    let e : Ends w k = record { stamped = s; shuts = y.shuts (h.writers k.writer_at); bytes = b } in
    record {
      ends = e;
      news = λ _. apart-news f g w k h a e x (λ c j m q. absurd (none-some m (sym (ap (λ (ms : List Message). slice_get ms j) (d c)) ∙ q)))
          (λ j z q. absurd (none-some z (sym (ap (λ (zs : List Dial). slice_get zs j) ds) ∙ q))) (y.ends (h.writers k.writer_at)) (y.stamps f (h.stamps k.writer_at)) (follows-acks f g w k.writer_at (w.latest k.writer_at) (heard (w.writers k.writer_at)) (heard k.writer) y (h.acks k.writer_at));
    }

-- the writer that has heard, or one that goes on from it
abbrev pub On : World → ℕ → WriterRecord → Type 0
On w b x = Follows (heard (w.writers b)) x

on-told : (w : World) (b : ℕ) (o : Option Told) → (w.writers b).told ≡ o → On w b (known_heard (w.writers b).known o)
on-told w b o e = subst (λ (t : Option Told). Follows (heard (w.writers b)) (known_heard (w.writers b).known t)) e (follows-same (heard (w.writers b)))

writer-brings : (f : Ids) (g : Givens) (w : World) (b : ℕ) (x : WriterRecord) → Finals f g w → Facts g w → On w b x → Brings f g w (writer_change w b x)
writer-brings f g w b x h a y = goes-on f g w (writer_change w b x) h a (record { office = refl; replica = refl; broke = refl; primary = refl }) refl (inl refl) (λ _. refl) refl y

-- WHAT STANDS AFTER THE CHANGE

after-says : (g : Givens) (w : World) (k : Change) → Carried g (apply w k) → WriterSays g (past_after w k) k.writer_at (latest_with w.latest k.stamped k.writer_at) k.writer
unfolding apply
after-says g w k c = subst (λ (x : Writing). WriterSays g (past_after w k) k.writer_at (latest_with w.latest k.stamped k.writer_at) x) (put-here w.writers k.writer_at k.writer) (c.writers k.writer_at)

-- what is at its end after the change: the latest session of the writer's block
ends-after : (g : Givens) (w : World) (k : Change) (b t n : ℕ) → Facts g w → Carried g (apply w k) → k.writer_at ≡ b → k.stamped ≡ None → g b t ≡ Some (w.latest b) → writes_no_more (heard k.writer).phase ≡ true
    → ((v : List ℕ) → Streams v (heard k.writer).stream (heard k.writer).phase → StreamOf v (heard k.writer).stream) → n ≡ written_in (heard k.writer).stream → EndsAt g (apply w k) b t n
unfolding apply
ends-after g w k b t n a c at s q more streams e =
    let says : WriterSays g (past_after w k) b (latest_with w.latest k.stamped b) k.writer = subst (λ (d : ℕ). WriterSays g (past_after w k) d (latest_with w.latest k.stamped d) k.writer) at (after-says g w k c) in
    let same : latest_with w.latest k.stamped b ≡ w.latest b = ap (λ (o : Option Stamped). latest_with w.latest o b) s in
    let own : says.own ≡ (past_after w k).written (w.latest b) = subst (λ (l : ℕ). g b l ≡ Some l → says.own ≡ (past_after w k).written l) same says.are (of-latest g w a.recorded b t (w.latest b) q) in
    record {
      session = w.latest b;
      given = q;
      shut = record { is = inr (subst (λ (d : ℕ). writes_no_more (heard (put w.writers k.writer_at k.writer d)).phase ≡ true) at (ap (λ (x : Writing). writes_no_more (heard x).phase) (put-here w.writers k.writer_at k.writer) ∙ more)) };
      length = e ∙ sym (streams says.own says.streams).carries.whole ∙ ap (λ (v : List ℕ). length v) own;
    }

-- SENDING

sent-at : (o : Option ℕ) (ms : List Message) (c j : ℕ) (m : Message) → slice_get (sent_on o ms c) j ≡ Some m → (o ≡ Some c) × (slice_get ms j ≡ Some m)
sent-at None ms c j m e = absurd (none-some m e)
sent-at (Some d) ms c j m e =
    if-each (λ (xs : List Message). slice_get xs j ≡ Some m → (Some d ≡ Some c) × (slice_get ms j ≡ Some m)) (c == d) ms []
    (λ t q. (ap (λ (x : ℕ). Some x) (sym (eqb-true c d t)), q)) (λ _ q. absurd (none-some m q)) e

one-message : (x m : Message) (j : ℕ) → slice_get (x ∷ []) j ≡ Some m → x ≡ m
one-message x m zero e = same_Some x m e
one-message x m (suc j) e = absurd (none-some m e)

closing-streams : (p : Phase) (v : List ℕ) (s : StreamState) → p ≡ phase.Closing → Streams v s p → StreamOf v s
closing-streams p v s e h = subst (λ (q : Phase). Streams v s q) e h

send-brings : (f : Ids) (g : Givens) (w : World) (b : ℕ) (p : Packet) (x : WriterRecord) → Finals f g w → Facts g w → On w b x
    → (p.last ≡ true → (writes_no_more x.phase ≡ true) × (packet_end p ≡ written_in x.stream) × (x.phase ≡ phase.Closing)) → Brings f g w (record (writer_change w b x) { downs = sent_on (w.writers b).conn (packet p ∷ []) })
send-brings f g w b p x h a y l = record {
  ends = e;
  news = λ c. apart-news f g w k h a e (record { office = refl; replica = refl; broke = refl; primary = refl }) (λ d j m q. sent c d j m (sent-at (w.writers b).conn (packet p ∷ []) d j m q))
      (λ j z q. absurd (none-some z q)) (y.ends (h.writers b)) (y.stamps f (h.stamps b)) (follows-acks f g w b (w.latest b) (heard (w.writers b)) _ y (h.acks b));
}
  where
    k : Change
    k = record (writer_change w b x) { downs = sent_on (w.writers b).conn (packet p ∷ []) }

    e : Ends w k
    e = record { stamped = refl; shuts = y.shuts (h.writers b); bytes = inl refl }

    last : Carried g (apply w k) → (d : ℕ) → (w.writers b).conn ≡ Some d → p.last ≡ true → LastEnds g (apply w k) d p
    last c d o q =
        let s : ConnSays g w.past b (w.latest b) d = subst (λ (z : Option ℕ). IfSome z (ConnSays g w.past b (w.latest b))) o (a.carried.writers b).conn in
        let m = l q in
        record {
          stamp = s.stamp;
          sets = sets-grow w.past (apply w k).past d s.stamp (grown w k) s.sets;
          block = b;
          ends = ends-after g w k b s.stamp.0 (packet_end p) a c refl refl s.given m.0 (λ v z. closing-streams x.phase v x.stream m.2 z) m.1;
        }

    sent : Carried g (apply w k) → (d j : ℕ) (m : Message) → ((w.writers b).conn ≡ Some d) × (slice_get (packet p ∷ []) j ≡ Some m) → DownEnds f g (apply w k) d m
    sent c d j m q = subst (λ (z : Message). DownEnds f g (apply w k) d z) (one-message (packet p) m j q.1) (λ z. last c d q.0 z)

-- what a step brings, whose writer goes on so
did-brings : (f : Ids) (g : Givens) (w : World) (b : ℕ) (waits : Option Waiting) (t : Action) (x : WriterRecord) (bytes : List ℕ) → Finals f g w → Facts g w → On w b x
    → (t ≡ action.Took → writes_no_more (heard (w.writers b)).phase ≡ true → bytes ≡ []) → ((p : Packet) → t ≡ action.Send p → p.last ≡ true → (writes_no_more x.phase ≡ true) × (packet_end p ≡ written_in x.stream) × (x.phase ≡ phase.Closing))
    → IfSome (did w b waits t x bytes) (Brings f g w)
did-brings f g w b waits action.Wait x bytes h a y n l = tt
did-brings f g w b waits action.Took x bytes h a y n l =
    goes-on f g w (record (writer_change w b x) { session = w.latest b; bytes = bytes }) h a (record { office = refl; replica = refl; broke = refl; primary = refl }) refl (inr (refl, n refl)) (λ _. refl) refl y
did-brings f g w b waits (action.Ask c) x bytes h a y n l = tt
did-brings f g w b waits (action.Dial to r) x bytes h a y n l = tt
did-brings f g w b waits (action.Send p) x bytes h a y n l = send-brings f g w b p x h a y (l p refl)
did-brings f g w b waits (action.Answered m r) x bytes h a y n l = goes-on f g w _ h a (record { office = refl; replica = refl; broke = refl; primary = refl }) refl (inl refl) (λ _. refl) refl y
did-brings f g w b waits action.Memory x bytes h a y n l = tt

sends-of : (x : WriterRecord) (t : Action) (y : WriterRecord) → SendsEnd x t y → (p : Packet) → t ≡ action.Send p → p.last ≡ true → (writes_no_more y.phase ≡ true) × (packet_end p ≡ written_in y.stream) × (y.phase ≡ phase.Closing)
sends-of x t y s p e = subst (λ (z : Action). SendsEnd x z y) e s

-- a step without a command
step-brings : (f : Ids) (g : Givens) (w : World) (b : ℕ) (waits : Option Waiting) (x : WriterRecord) (s : writer.Step) → Finals f g w → Facts g w → On w b x → OwnEnds x s.action s.writer → IfSome (did w b waits s.action s.writer []) (Brings f g w)
step-brings f g w b waits x s h a y o =
    did-brings f g w b waits s.action s.writer [] h a (follows-then (heard (w.writers b)) x s.writer y o.follows) (λ _ _. refl) (sends-of x s.action s.writer (o.sends (y.ends (h.writers b))))

-- DIALS

dialled-is : (x : WriterRecord) (s : Setup) (t : Stamp) → x.phase ≡ phase.Stamped s t → dialled x true ≡ record x { phase = phase.Requested s t }
unfolding dialled
dialled-is x s t e = ap (λ (p : Phase). dialled_in x p true) e

close-kind : (s : Setup) → kind_of s ≡ kind.CloseRecovery → s ≡ setup.CloseRecovery
close-kind setup.CloseRecovery e = refl
close-kind setup.Create e = absurd (cc)
close-kind setup.Append e = absurd (cc)
close-kind setup.AppendRecovery e = absurd (cc)
close-kind setup.StreamRecovery e = absurd (cc)

dialled-brings : (f : Ids) (g : Givens) (w : World) (b : ℕ) (x : WriterRecord) (s : Setup) (t : Stamp) (to : NodeId) (n : ℕ) (ts : List NodeId) (answered : Bool) → Finals f g w → Facts g w → IsPast (g b) (heard (w.writers b)).committed.0 → heard (w.writers b) ≡ x → x.phase ≡ phase.Stamped s t
    → Brings f g w (dialled_change w b x to (request_for x.block x.committed x.stream s t n ts) answered)
dialled-brings f g w b x s t to n ts false h a past e q = writer-brings f g w b (dialled x false) h a (subst (λ (z : WriterRecord). Follows z (dialled x false)) (sym e) (dialled-follows x false))
dialled-brings f g w b x s t to n ts true h a past e q = record {
  ends = ends;
  news = λ c. apart-news f g w k h a ends (record { office = refl; replica = refl; broke = refl; primary = refl }) (λ d j m z. absurd (none-some m z)) (λ j d z. dial c j d z) (y.ends (h.writers b)) (y.stamps f (h.stamps b)) (follows-acks f g w b (w.latest b) (heard (w.writers b)) _ y (h.acks b));
}
  where
    o : Op
    o = request_for x.block x.committed x.stream s t n ts

    k : Change
    k = dialled_change w b x to (request_for x.block x.committed x.stream s t n ts) true

    y : Follows (heard (w.writers b)) (dialled x true)
    y = subst (λ (z : WriterRecord). Follows z (dialled x true)) (sym e) (dialled-follows x true)

    ends : Ends w k
    ends = record { stamped = refl; shuts = y.shuts (h.writers b); bytes = inl refl }

    asks : AsksFor (g b) w.past (w.latest b) x.committed x.stream s t
    asks = subst (λ (p : Phase). Asks (g b) w.past (w.latest b) x.committed x.stream p) q (subst (λ (z : WriterRecord). Asks (g b) w.past (w.latest b) z.committed z.stream z.phase) e (a.carried.writers b).asks)

    r : Requested x.block x.committed x.stream s t (request_for x.block x.committed x.stream s t n ts)
    r = requested x.block x.committed x.stream s t n ts

    new : new_stamp r.fields ≡ t
    new = r.new asks.created

    no_id : f t.0 ≡ false
    no_id = subst (λ (p : Phase). SetsNoId f p) (ap (λ (z : WriterRecord). z.phase) e ∙ q) (h.stamps b)

    at : r.fields.block.block.0 ≡ b
    at = ap (λ (z : BlockId). z.0) (r.block ∙ ap (λ (z : WriterRecord). z.block) (sym e) ∙ a.recorded.writers b)

    close : Carried g (apply w k) → s ≡ setup.CloseRecovery → EndsAt g (apply w k) b t.0 (min_length s x.stream)
    close c z =
        let is : dialled x true ≡ record x { phase = phase.Requested setup.CloseRecovery t } = dialled-is x setup.CloseRecovery t (q ∙ ap (λ (u : Setup). phase.Stamped u t) z) in
        ends-after g w k b t.0 (min_length s x.stream) a c refl refl asks.given (ap (λ (u : WriterRecord). writes_no_more u.phase) is)
        (λ v u. subst (λ (i : WriterRecord). Streams v i.stream i.phase → StreamOf v i.stream) (sym is) (λ j. j) u)
        (ap (λ (u : Setup). min_length u x.stream) z ∙ sym (ap (λ (u : WriterRecord). written_in u.stream) is))

    acks : AcksFrom f g w b (w.latest b) x
    acks = subst (λ (z : WriterRecord). AcksFrom f g w b (w.latest b) z) e (h.acks b)

    own : g b (w.latest b) ≡ Some (w.latest b)
    own = (acks.begins (ap has_packets q)).0

    -- all that is written in the latest session
    whole : SessionBegins f g w b (w.latest b) (written_in x.stream)
    whole =
        let says = a.carried.writers b in
        let u : StreamOf says.own x.stream = subst (λ (p : Phase). Streams says.own x.stream p) q (subst (λ (z : WriterRecord). Streams says.own z.stream z.phase) e says.streams) in
        subst (λ (m : ℕ). SessionBegins f g w b (w.latest b) m) (sym (sym u.carries.whole ∙ ap (λ (v : List ℕ). length v) (says.are own))) (h.sessions b (w.latest b) own)

    opens : (z : Setup) → x.phase ≡ phase.Stamped z t → SessionBegins f g w b (w.latest b) (least_asked (Some (kind_of z)) (min_length z x.stream))
    opens setup.Create u = acks.first t u
    opens setup.Append u = whole
    opens setup.AppendRecovery u = whole
    opens setup.StreamRecovery u = (acks.begins (ap has_packets u)).1
    opens setup.CloseRecovery u = whole

    write : Carried g (apply w k) → WriteEnds f g (apply w k) r.fields
    write c = record {
      no_id = ap (λ (u : Stamp). f u.0) new ∙ no_id;
      session = w.latest b;
      given = ap (λ (u : ℕ). g u (new_stamp r.fields).0) at ∙ ap (λ (u : Stamp). g b u.0) new ∙ asks.given;
      past = record {
        each = λ v i j z lt.
            let low : v ≤ (heard (w.writers b)).committed.0 = past.each v i (subst (λ (u : ℕ). g u i ≡ Some i) at j) (subst (λ (u : ℕ). IsBefore (g u) v i) at z) in
            omega (arith, low, ap (λ (u : WriterRecord). u.committed.0) e, ap (λ (u : Stamp). u.0) r.named);
      };
      closes = λ z.
          let m = close c (close-kind s (same_Some (kind_of s) kind.CloseRecovery (sym r.kind_is ∙ z))) in
          subst (λ (u : ℕ). EndsAt g (apply w k) u (new_stamp r.fields).0 r.fields.min) (sym at)
          (subst (λ (u : Stamp). EndsAt g (apply w k) b u.0 r.fields.min) (sym new) (subst (λ (u : ℕ). EndsAt g (apply w k) b t.0 u) (sym r.least) m));
      own = subst (λ (d : ℕ). g d (w.latest b) ≡ Some (w.latest b)) (sym at) own;
      opens = subst (λ (d : ℕ). SessionBegins f g (apply w k) d (w.latest b) (least_asked (setup_with r.fields.stage) r.fields.min)) (sym at)
          (subst (λ (i : Option SetupKind). SessionBegins f g (apply w k) b (w.latest b) (least_asked i r.fields.min)) (sym r.kind_is)
          (subst (λ (m : ℕ). SessionBegins f g (apply w k) b (w.latest b) (least_asked (Some (kind_of s)) m)) (sym r.least)
          (begins-stays f g w f g (apply w k) b (w.latest b) (least_asked (Some (kind_of s)) (min_length s x.stream)) (stays-so f g w k h a ends) own (opens s q))));
    }

    dial : Carried g (apply w k) → (j : ℕ) (d : Dial) → slice_get k.dials j ≡ Some d → DownEnds f g (apply w k) (w.next_conn + j) d.request
    dial c zero d z = subst (λ (u : Dial). DownEnds f g (apply w k) (w.next_conn + 0) u.request) (same_Some _ d z) (subst (λ (u : Op). DownEnds f g (apply w k) (w.next_conn + 0) (request u)) (sym r.is) (write c))
    dial c (suc j) d z = absurd (none-some d z)

dialling-brings : (f : Ids) (g : Givens) (w : World) (b : ℕ) (x : WriterRecord) (s : Setup) (t : Stamp) (ms : List NodeId) (answered : Bool) → Finals f g w → Facts g w → IsPast (g b) (heard (w.writers b)).committed.0 → heard (w.writers b) ≡ x → x.phase ≡ phase.Stamped s t
    → Brings f g w (dialling w b x (dial_step_as x s t ms).action answered)
dialling-brings f g w b x s t [] answered h a past e q = writer-brings f g w b x h a (subst (λ (z : WriterRecord). Follows (heard (w.writers b)) z) e (follows-same (heard (w.writers b))))
dialling-brings f g w b x s t (m ∷ ms) answered h a past e q = dialled-brings f g w b x s t m (length x.members) ms (answered && w.running m.0) h a past e q

-- THE WRITER'S STEP

rest-brings : (p : Phase) (f : Ids) (g : Givens) (w : World) (b : ℕ) (x : WriterRecord) (answered : Bool) → Finals f g w → Facts g w → IsPast (g b) (heard (w.writers b)).committed.0 → heard (w.writers b) ≡ x → x.phase ≡ p → On w b x → IfSome (rest_in p w b x answered) (Brings f g w)
rest-brings phase.Closed f g w b x answered h a past e q y = writer-brings f g w b x h a y
rest-brings (phase.Wanted s) f g w b x answered h a past e q y = writer-brings f g w b x h a y
rest-brings (phase.Stamped s t) f g w b x answered h a past e q y = dialling-brings f g w b x s t x.members answered h a past e q
rest-brings (phase.Requested s t) f g w b x answered h a past e q y = writer-brings f g w b x h a y
rest-brings (phase.Accepted s t) f g w b x answered h a past e q y = writer-brings f g w b x h a y
rest-brings phase.Opened f g w b x answered h a past e q y = step-brings f g w b x.waiting x (open_step x) h a y (opened-ends x q)
rest-brings (phase.Streaming sent) f g w b x answered h a past e q y = writer-brings f g w b x h a y
rest-brings phase.Closing f g w b x answered h a past e q y = writer-brings f g w b x h a y
rest-brings phase.Finished f g w b x answered h a past e q y = writer-brings f g w b x h a y
rest-brings phase.Completed f g w b x answered h a past e q y = step-brings f g w b x.waiting x (completed_step x) h a y (completed-ends x q)
rest-brings (phase.Failed d) f g w b x answered h a past e q y = writer-brings f g w b x h a y

-- a create brings the rule of the block's sums, to a writer that has sent nothing
ruled-ends : (x : WriterRecord) (c : Command) (r : Rule) → WriterEnds x → WriterEnds (ruled x c r)
ruled-ends x (command.Create ms) r h = record { shut = h.shut; closing = h.closing; closed = h.closed; last = λ _ i p q _. absurd (none-some p q) }
ruled-ends x (command.Append ms) r h = h
ruled-ends x (command.Write v) r h = h
ruled-ends x (command.Fill n) r h = h
ruled-ends x command.Hflush r h = h
ruled-ends x command.Hsync r h = h
ruled-ends x command.Close r h = h

-- a writer that took a command, by the rule that this brings
ruled-follows : (x : WriterRecord) (c : Command) (r : Rule) (y : WriterRecord) → Follows (ruled x c r) y → ((ms : List NodeId) → c ≡ command.Create ms → has_packets y.phase ≡ false) → Follows x y
ruled-follows x (command.Create ms) r y k n = record {
  ends = λ h. k.ends (ruled-ends x (command.Create ms) r h);
  shuts = λ h e. k.shuts (ruled-ends x (command.Create ms) r h) e;
  stamps = k.stamps;
  acks = λ q. absurd (false≢true (sym (n ms refl) ∙ q));
  creates = λ t q. absurd (false≢true (sym (n ms refl) ∙ ap has_packets q));
}
ruled-follows x (command.Append ms) r y k n = k
ruled-follows x (command.Write v) r y k n = k
ruled-follows x (command.Fill m) r y k n = k
ruled-follows x command.Hflush r y k n = k
ruled-follows x command.Hsync r y k n = k
ruled-follows x command.Close r y k n = k

-- the same intake, queue and phase
ruled-phase : (x : WriterRecord) (c : Command) (r : Rule) → ((ruled x c r).phase ≡ x.phase) × ((ruled x c r).queue ≡ x.queue) × ((ruled x c r).intake ≡ x.intake)
ruled-phase x (command.Create ms) r = (refl, refl, refl)
ruled-phase x (command.Append ms) r = (refl, refl, refl)
ruled-phase x (command.Write v) r = (refl, refl, refl)
ruled-phase x (command.Fill n) r = (refl, refl, refl)
ruled-phase x command.Hflush r = (refl, refl, refl)
ruled-phase x command.Hsync r = (refl, refl, refl)
ruled-phase x command.Close r = (refl, refl, refl)

given-test : (x y : WriterRecord) (c : Command) (r : Result Intake CommandFault) → y.queue ≡ x.queue → not (is_empty (given_as x c r).queue) ≡ true → not (is_empty (given_as y c r).queue) ≡ true
given-test x y c (Ok i) e t = subst (λ (q : List Command). not (is_empty (q ++ c ∷ [])) ≡ true) (sym e) t
given-test x y c (Err d) e t = subst (λ (q : List Command). not (is_empty q) ≡ true) (sym e) t

same-given : (x y : WriterRecord) (c : Command) → y.queue ≡ x.queue → y.intake ≡ x.intake → not (is_empty (given x c).queue) ≡ true → not (is_empty (given y c).queue) ≡ true
same-given x y c e i t = subst (λ (z : Intake). not (is_empty (given_as y c (admitted z c)).queue) ≡ true) (sym i) (given-test x y c (admitted x.intake c) e t)

command-brings : (f : Ids) (g : Givens) (w : World) (b : ℕ) (x : WriterRecord) (t : TakenCommand) → Finals f g w → Facts g w → heard (w.writers b) ≡ x → IfSome (takes_command w b x t) (Brings f g w)
command-brings f g w b x t h a e =
    let y = ruled x t.command t.rule in
    let z = given y t.command in
    let s = own_step z in
    let same = ruled-phase x t.command t.rule in
    let queue : y.queue ≡ [] = same.1 ∙ ap (λ (u : WriterRecord). u.queue) (sym e) ∙ (a.carried.writers b).queue in
    when-each (Brings f g w) (is_formed t.command t.rule && not (is_empty (given x t.command).queue)) _ (λ q.
    when-each (Brings f g w) (is_empty s.writer.queue) _ (λ u.
    let there = same-given x y t.command same.1 same.2 (and-right (is_formed t.command t.rule) (not (is_empty (given x t.command).queue)) q) in
    let ends : WriterEnds y = ruled-ends x t.command t.rule (subst (λ (v : WriterRecord). WriterEnds v) e (h.writers b)) in
    let k = command-ends y t.command queue ends there u in
    did-brings f g w b y.waiting s.action s.writer (command_bytes y t.command) h a (subst (λ (v : WriterRecord). Follows v s.writer) (sym e) (ruled-follows x t.command t.rule s.writer k.follows (taken-packets y t.command queue there u)))
    (λ m n. k.bytes_none ends (ap writes_no_more same.0 ∙ ap (λ (v : WriterRecord). writes_no_more v.phase) (sym e) ∙ n) m) (λ p m. absurd (k.sends p m))))

writer-step-brings : (f : Ids) (g : Givens) (w : World) (b : ℕ) (o : Option Told) (takes : Option TakenCommand) (answered : Bool) → Finals f g w → Facts g w → IsPast (g b) (heard (w.writers b)).committed.0 → (w.writers b).told ≡ o → IfSome (writer_step w b (w.writers b).known o takes answered) (Brings f g w)
writer-step-brings f g w b (Some told) None answered h a past e =
    let x = granted (w.writers b).known told in
    rest-brings x.phase f g w b x answered h a past (ap (λ (o : Option Told). known_heard (w.writers b).known o) e) refl (on-told w b (Some told) e)
writer-step-brings f g w b (Some told) (Some t) answered h a past e = tt
writer-step-brings f g w b None None answered h a past e =
    let x = (w.writers b).known in
    let same : heard (w.writers b) ≡ x = ap (λ (o : Option Told). known_heard (w.writers b).known o) e in
    step-brings f g w b x.waiting x (own_step x) h a (on-told w b None e) (own-step-ends x (ap (λ (u : WriterRecord). u.queue) (sym same) ∙ (a.carried.writers b).queue))
writer-step-brings f g w b None (Some t) answered h a past e = command-brings f g w b (w.writers b).known t h a (ap (λ (o : Option Told). known_heard (w.writers b).known o) e)

pub own-writer-brings : (f : Ids) (g : Givens) (w : World) (b : ℕ) (takes : Option TakenCommand) (answered : Bool) → Finals f g w → Facts g w → IsPast (g b) (heard (w.writers b)).committed.0 → IfSome (own_writer w b takes answered) (Brings f g w)
own-writer-brings f g w b takes answered h a past = writer-step-brings f g w b (w.writers b).told takes answered h a past refl

pub writer-up-brings : (f : Ids) (g : Givens) (w : World) (b c : ℕ) (x : Next) → Finals f g w → Facts g w → IfSome (writer_up w b c x) (Brings f g w)
writer-up-brings f g w b c x h a =
    let y = (w.writers b).known in
    when-each (Brings f g w) (is_conn (w.writers b).conn c && is_none (w.writers b).told) _ (λ e.
    writer-brings f g w b (writer_hears y x) h a
    (follows-then (heard (w.writers b)) y (writer_hears y x) (on-told w b None (none-is (w.writers b).told (and-right (is_conn (w.writers b).conn c) (is_none (w.writers b).told) e))) (hears-follows y x)))

-- READERS

-- a change that leaves the writers
pub still-brings : (f : Ids) (g : Givens) (w : World) (k : Change) → Finals f g w → Facts g w → Apart w k → k.stamped ≡ None → k.bytes ≡ [] → k.writer ≡ w.writers k.writer_at → ((c j : ℕ) (m : Message) → slice_get (k.downs c) j ≡ Some m → DownEnds f g (apply w k) c m)
    → ((j : ℕ) (d : Dial) → slice_get k.dials j ≡ Some d → DownEnds f g (apply w k) (w.next_conn + j) d.request) → Brings f g w k
still-brings f g w k h a x s b q downs dials =
    let e : Ends w k = record { stamped = s; shuts = λ z. ap (λ (u : Writing). writes_no_more (heard u).phase) q ∙ z; bytes = inl b } in
    record {
      ends = e;
      news = λ _. apart-news f g w k h a e x downs dials (subst (λ (u : Writing). WriterEnds (heard u)) (sym q) (h.writers k.writer_at)) (subst (λ (u : Writing). SetsNoId f (heard u).phase) (sym q) (h.stamps k.writer_at))
          (subst (λ (u : Writing). AcksFrom f g w k.writer_at (w.latest k.writer_at) (heard u)) (sym q) (h.acks k.writer_at));
    }

reader-dials-brings : (f : Ids) (g : Givens) (w : World) (i n : ℕ) (r : ReadOp) (answered : Bool) → Finals f g w → Facts g w → Brings f g w (reader_dials w i n r answered)
reader-dials-brings f g w i n r true h a =
    still-brings f g w (reader_dials w i n r true) h a (record { office = refl; replica = refl; broke = refl; primary = refl }) refl refl refl (λ c j m e. absurd (none-some m e)) one
  where
    one : (j : ℕ) (d : Dial) → slice_get (reader_dials w i n r true).dials j ≡ Some d → DownEnds f g (apply w (reader_dials w i n r true)) (w.next_conn + j) d.request
    one zero d e = subst (λ (u : Dial). DownEnds f g (apply w (reader_dials w i n r true)) (w.next_conn + 0) u.request) (same_Some _ d e) tt
    one (suc j) d e = absurd (none-some d e)
reader-dials-brings f g w i n r false h a =
    still-brings f g w (reader_dials w i n r false) h a (record { office = refl; replica = refl; broke = refl; primary = refl }) refl refl refl (λ c j m e. absurd (none-some m e)) (λ j d e. absurd (none-some d e))

own-reader-as : (x : Reader) (f : Ids) (g : Givens) (w : World) (i n : ℕ) (r : ReadOp) (answered : Bool) → Finals f g w → Facts g w → IfSome (own_reader_as x w i n r answered) (Brings f g w)
own-reader-as no_reader f g w i n r answered h a = reader-dials-brings f g w i n r _ h a
own-reader-as (reads c s) f g w i n r answered h a = tt
own-reader-as (has_read b) f g w i n r answered h a = tt

pub own-reader-brings : (f : Ids) (g : Givens) (w : World) (i n : ℕ) (r : ReadOp) (answered : Bool) → Finals f g w → Facts g w → IfSome (own_reader w i n r answered) (Brings f g w)
own-reader-brings f g w i n r answered h a = own-reader-as (w.readers i) f g w i n r answered h a

reader-turn-brings : (f : Ids) (g : Givens) (w : World) (i c : ℕ) (t : ReadTaken) (d : ReadTurn) → Finals f g w → Facts g w → Brings f g w (reader_turn w i c t d)
reader-turn-brings f g w i c t turn.Goes h a = still-brings f g w (reader_turn w i c t turn.Goes) h a (record { office = refl; replica = refl; broke = refl; primary = refl }) refl refl refl (λ c j m e. absurd (none-some m e)) (λ j d e. absurd (none-some d e))
reader-turn-brings f g w i c t turn.Verified h a =
    still-brings f g w (reader_turn w i c t turn.Verified) h a (record { office = refl; replica = refl; broke = refl; primary = refl }) refl refl refl
    (λ d j m e. let s = sent-at (Some c) _ d j m e in subst (λ (u : Message). DownEnds f g (apply w (reader_turn w i c t turn.Verified)) d u) (one-message _ m j s.1) tt) (λ j d e. absurd (none-some d e))
reader-turn-brings f g w i c t (turn.Fails q) h a = still-brings f g w (reader_turn w i c t (turn.Fails q)) h a (record { office = refl; replica = refl; broke = refl; primary = refl }) refl refl refl (λ c j m e. absurd (none-some m e)) (λ j d e. absurd (none-some d e))

reader-up-as : (r : Reader) (f : Ids) (g : Givens) (w : World) (i c : ℕ) (x : Next) → Finals f g w → Facts g w → IfSome (reader_up_as r w i c x) (Brings f g w)
reader-up-as no_reader f g w i c x h a = tt
reader-up-as (reads d s) f g w i c x h a = when-each (Brings f g w) (d == c) _ (λ _. reader-turn-brings f g w i c (take_from s (from_node_of x)) (take_from s (from_node_of x)).does h a)
reader-up-as (has_read b) f g w i c x h a = tt

pub reader-up-brings : (f : Ids) (g : Givens) (w : World) (i c : ℕ) (x : Next) → Finals f g w → Facts g w → IfSome (reader_up w i c x) (Brings f g w)
reader-up-brings f g w i c x h a = reader-up-as (w.readers i) f g w i c x h a
