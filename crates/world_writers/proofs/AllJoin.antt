-- Nodes accept the setup of a stamp once, after every list of events.
use Rattle.std.proofs.Common.{inl, inr, ◌≡◌, ℕ, zero, suc, ◌<◌, ◌≤◌, ◌+◌, ◌++◌, length, slice_get, Bool, true, false, List, [], ◌∷◌, Option, Some, None, IfSome, Result, Ok, Err, refl, sym, ◌∙◌, ap, subst, arith, eqb-true}
use Rattle.std.specs.Prelude.{if◌then◌else◌, ◌==◌, ◌&&◌, ◌-◌, ◌^◌, not, map, min, nat_le, nat_lt, is_none}
use Rattle.hd_base.specs.declared.numbers.BlockId.{BlockId}
use Rattle.hd_base.specs.declared.numbers.NodeId.{NodeId}
use Rattle.hd_base.specs.declared.numbers.Stamp.{Stamp}
use Rattle.hd_base.specs.declared.pipeline.TheConstants.{MAX_MEMBERS}
use Rattle.hd_base.specs.declared.roads.TheConstants.{FIRST_PORT, MAX_NODES}
use Rattle.hd_base.specs.declared.sum_rule.TheConstants.{MIN_CHUNK_SIZE, MAX_CHUNK_SIZE}
use Rattle.hd_base.specs.SumRules.{Rule}
use Rattle.name_core.specs.declared.calls.Begun.{Begun}
use Rattle.name_core.specs.declared.calls.OfficeAnswer.{OfficeAnswer}
use Rattle.name_core.specs.declared.calls.OfficeAnswer.TheVariants as office
use Rattle.name_core.specs.declared.faults.OfficeFault.{OfficeFault}
use Rattle.name_core.specs.declared.faults.OfficeFault.TheVariants as fault
use Rattle.name_core.specs.Offices.{OfficeState, office_case}
use Rattle.name_core.specs.Steps as office_step
use Rattle.name_core.proofs.CaseLemmas.{each_case}
use Rattle.node_refs.specs.NodeRefs.{ref_of, port_of}
use Rattle.name_core.specs.declared.calls.OfficeCall.{OfficeCall}
use Rattle.name_core.specs.declared.calls.OfficeCall.TheVariants as call
use Rattle.op_headers.specs.declared.nodes.NodeRef.{NodeRef}
use Rattle.op_headers.specs.declared.ops.Op.{Op}
use Rattle.op_headers.specs.declared.ops.Op.TheVariants as op
use Rattle.op_headers.specs.declared.ops.ReadOp.{ReadOp}
use Rattle.op_headers.specs.declared.ops.RecoveryOp.{RecoveryOp}
use Rattle.op_headers.specs.Values.{WriteFields}
use Rattle.world.specs.ReadCore.ReadTurn.{ReadTurn}
use Rattle.world.specs.ReadCore.ReadTurn.TheVariants as read_turn
use Rattle.world.specs.ReadCore.Readings.{ReadTaken, take_from}
use Rattle.recovery_core.specs.declared.standings.Standing.{Standing}
use Rattle.recovery_core.specs.Primaries.{PrimaryState}
use Rattle.recovery_core.specs.declared.primary.OwnStep.{OwnStep}
use Rattle.recovery_core.specs.declared.primary.OwnStep.TheVariants as lead
use Rattle.recovery_core.specs.Primaries as primary
use Rattle.writer_core.specs.declared.actions.Action.{Action}
use Rattle.writer_core.specs.declared.actions.Action.TheVariants as action
use Rattle.writer_core.specs.declared.actions.ClientAnswer.{ClientAnswer}
use Rattle.writer_core.specs.declared.commands.Command.{Command}
use Rattle.writer_core.specs.declared.commands.Command.TheVariants as command
use Rattle.writer_core.specs.declared.commands.CommandFault.{CommandFault}
use Rattle.writer_core.specs.declared.intake.Intake.{Intake}
use Rattle.writer_core.specs.declared.phases.Setup.{Setup}
use Rattle.writer_core.specs.declared.phases.Setup.TheVariants as setup
use Rattle.writer_core.specs.Commands.{admitted}
use Rattle.writer_core.specs.Requests.{request_for}
use Rattle.writer_core.specs.declared.phases.Phase.{Phase}
use Rattle.writer_core.specs.declared.phases.Phase.TheVariants as phase
use Rattle.writer_core.specs.declared.phases.Waiting.{Waiting}
use Rattle.writer_core.specs.declared.records.WriterRecord.{WriterRecord}
use Rattle.writer_core.specs.Transitions.{given, given_as, own_step, dial_step_as, open_step, completed_step, granted, dialled, asks, refused, phase_committed}
use Rattle.world.specs.declared.events.Caller.{Caller}
use Rattle.world.specs.declared.events.Caller.TheVariants as caller
use Rattle.world.specs.declared.events.Delivery.{Delivery}
use Rattle.world.specs.declared.events.Delivery.TheVariants as delivery
use Rattle.world.specs.declared.events.Direction.{Direction}
use Rattle.world.specs.declared.events.Direction.TheVariants as direction
use Rattle.world.specs.declared.events.Event.{Event}
use Rattle.world.specs.declared.events.Event.TheVariants as event
use Rattle.world.specs.declared.events.OwnStep as step
use Rattle.world.specs.declared.events.OwnStep.TheVariants as own
use Rattle.world.specs.declared.events.TakenCommand.{TakenCommand}
use Rattle.world.specs.Parts.{request, packet, ack, response, read_status, recovery_answer, Place, idle, Upper, by_writer, by_member, by_reader, by_primary, Told, Writing, Reader, no_reader, reads, has_read, Leading, Primary, no_primary, was_told, leads, has_led}
use Rattle.world.specs.Worlds.{World, Dial, Change, Stamped, put, sessions_with, latest_with, start}
use Rattle.world.specs.Connections.{Next, message, the_end, next_down, next_up, down_taken, up_taken, place_of, is_served, is_conn, is_alive, sent_on}
use Rattle.world.specs.Nodes.{node_on, block_of, lower_down, lower_ready, mirror_up}
use Rattle.world.specs.Clients.{are_distinct, are_members, writer_change, did, reached_answer, dialled_change, dialling, rest_in, is_empty, is_formed, ruled, command_bytes, takes_command, writer_step, writer_hears, writer_up, reader_dials, own_reader_as, own_reader, from_node_of, reader_turn, reader_up_as, reader_up}
use Rattle.world.specs.Primaries.{primary_dials, dials_answered, begins_with, begins_as, begins_at, own_recover, leads_step, commits_step, leads_told, own_primary_as, own_primary, listens, hears_change, primary_up_as, primary_up, asks_writer, asks_primary, writer_asks, primary_commits, primary_asks, office_event, stamped_by}
use Rattle.world.specs.Restarts.{restart}
use Rattle.world.specs.Events.{changed, own_change, down_as, down_event, ready_event, unless_fails, upper_up, up_as, up_event, fault_event, lost, stop, where_so, outcome, after_event, happens, run}
use Rattle.world_laws.proofs.FactTables.{if-each, when-each, and-left, and-right, put-each, some-weaker}
use Rattle.world_laws.proofs.OfficeSteps.{AsksAs, Asking, own-step-asking, block_in, asks-block, IsPrimarys}
use Rattle.world_laws.proofs.StampRecording.{Quietly, given-sessions, none-heard, gives, given-each, others-given, others-latest}
use Rattle.world_laws.proofs.Sessions.{refused-stamp}
use Rattle.world_laws.proofs.StampGivens.{put-here}
use Rattle.world_laws.proofs.AllRecorded.{aside-quietly, own-quietly, upper-quietly, start-recorded}
use Rattle.world_acks.proofs.Granting.{latest-by}
use Rattle.name_core.specs.Offices.{answer_to}
use Rattle.world_acks.proofs.Granting.{given-mono}
use Rattle.world_writers.specs.Moving.{Makes, Reaches}
use Rattle.world_writers.proofs.AllMove.{all-move, all-reached}
use Rattle.world_writers.proofs.Lifting.{Lifts, Begun as Goes, begun-by, session-by, late-with, Lifted, step-lifted, writer-up-lifted, asides-lifted}
use Rattle.writer_core.specs.Requests.{min_length}
use Rattle.world_acks.specs.Acking.{promised}
use Rattle.world_writers.proofs.Stepping.{Ready, ready-of}
use Rattle.world_writers.proofs.Giving.{Sets, quiet-sets, settles-by}
use Rattle.world_laws.proofs.StampGranting.{granted-create, granted-append, granted-again, granted-commit, granted-complete}
use Rattle.world_laws.proofs.ByteLeaves.{Facts}
use Rattle.world_laws.proofs.ByteWriting.{Requested, requested}
use Rattle.world_laws.specs.Carrying.{new_stamp, AsksFor, Asks}
use Rattle.world_laws.specs.Joining.{SetUps}
use Rattle.world_laws.proofs.SessionAsides.{Aside, lower-down-aside, lower-ready-aside, mirror-up-aside, own-reader-aside, reader-up-aside, own-recover-aside, own-primary-aside, primary-up-aside}
use Rattle.world_laws.specs.Stamping.{Givens, none_given, given_in, given_with, Fits, known_heard, heard}
use Rattle.world_laws.proofs.AllRecorded.{Reached, reached-next}
use Rattle.world_laws.proofs.StampWalking.{none-is}
use Rattle.world_laws.proofs.AllCarried.{at-start}
use Rattle.world_acks.specs.Acking.{Ends}
use Rattle.world_acks.proofs.Turning.{Known}
use Rattle.world_acks.proofs.Ends.{NextTells}
use Rattle.world_acks.proofs.AllAcked.{down-known, up-known, when-two, next-tells, outcome-facts}
use Rattle.std.proofs.lemmas.Bool.{eqb-false, false≢true}
use Rattle.std.proofs.lemmas.Bool.Decides.{nat_tests}
use Rattle.std.proofs.lemmas.Option.{none-some, same_Some}
use Rattle.world_writers.specs.Taking.{IsUnasked, Joins, AllJoin}
use Rattle.world_writers.proofs.AllPiped.{request-targets}
use Rattle.world_writers.proofs.AllShow.{at-end}
use Rattle.world_writers.proofs.Standing.{dialled-is}
use Rattle.world_writers.proofs.Trailing.{CommandFits, QueueFits, is_stamped, Trails, itself-trails, open-trails, completed-trails, own-step-trails, unanswered-trails, hears-trails}
use Rattle.world_writers.proofs.Taking.{Begins as WriterBegins, of_writer, Takes, quiet-takes, FirstOf, lower-down-takes, lower-ready-takes, mirror-up-takes}
use Rattle.world_writers.proofs.Meeting.{Then, joins-apply}

-- WRITERS

-- a writer after another, which had this stamp before where it has one that isn't dialled
then-of : (w : World) (k : Change) (x : WriterRecord) → Joins w → heard (w.writers k.writer_at) ≡ x → QueueFits x.queue → Trails x (heard k.writer) → Then w k
then-of w k x h e q t = record {
  stamped = λ s v p.
      h.stamped k.writer_at s v (ap (λ (z : WriterRecord). z.phase) e ∙ sym (t.stamped (ap is_stamped p)) ∙ p);
  members = t.members (subst (λ (z : WriterRecord). are_distinct z.members ≡ true) e (h.members k.writer_at)) q;
}

same-then : (w : World) (k : Change) → Joins w → k.writer ≡ w.writers k.writer_at → Then w k
same-then w k h e = record {
  stamped = λ s v p. h.stamped k.writer_at s v (ap (λ (z : Writing). (heard z).phase) (sym e) ∙ p);
  members = subst (λ (z : Writing). are_distinct (heard z).members ≡ true) (sym e) (h.members k.writer_at);
}

-- what a change makes of requests and writers
record Joined (w : World) (k : Change) : Type 0 where
  pub takes : Takes w k
  pub after : Then w k

empty-fits : (cs : List Command) → cs ≡ [] → QueueFits cs
empty-fits cs e = record { each = λ i c q. absurd (none-some c (sym (ap (λ (xs : List Command). slice_get xs i) e) ∙ q)) }

-- the writer of a block, which has taken this
record At (w : World) (b : ℕ) (x : WriterRecord) : Type 0 where
  pub is : heard (w.writers b) ≡ x
  pub queue : x.queue ≡ []

turn-joined : (w : World) (b : ℕ) (x y : WriterRecord) (k : Change) → Joins w → At w b x → QueueFits x.queue → Trails x y → k.writer_at ≡ b → heard k.writer ≡ y → k.dials ≡ [] → k.joined ≡ [] → (k.lower ≡ idle → w.lowers k.lower_at ≡ idle) → Joined w k
turn-joined w b x y k h a q t at is d j l = record {
  takes = quiet-takes w k d j l;
  after = then-of w k x h (ap (λ (i : ℕ). heard (w.writers i)) at ∙ a.is) q (subst (λ (z : WriterRecord). Trails x z) (sym is) t);
}

change-joined : (w : World) (b : ℕ) (x y : WriterRecord) → Joins w → At w b x → Trails x y → Joined w (writer_change w b y)
change-joined w b x y h a t = turn-joined w b x y (writer_change w b y) h a (empty-fits x.queue a.queue) t refl refl refl refl (λ e. e)

did-joined : (w : World) (b : ℕ) (waits : Option Waiting) (a : Action) (x y : WriterRecord) (bytes : List ℕ) → Joins w → At w b x → QueueFits x.queue → Trails x y → IfSome (did w b waits a y bytes) (Joined w)
did-joined w b waits action.Wait x y bytes h at q t = tt
did-joined w b waits action.Took x y bytes h at q t = turn-joined w b x y (record (writer_change w b y) { session = w.latest b; bytes = bytes }) h at q t refl refl refl refl (λ e. e)
did-joined w b waits (action.Ask c) x y bytes h at q t = tt
did-joined w b waits (action.Dial to r) x y bytes h at q t = tt
did-joined w b waits (action.Send p) x y bytes h at q t = turn-joined w b x y (record (writer_change w b y) { downs = sent_on (w.writers b).conn (packet p ∷ []) }) h at q t refl refl refl refl (λ e. e)
did-joined w b waits (action.Answered i c) x y bytes h at q t = turn-joined w b x y (answers i c) h at q t refl refl refl refl (λ e. e)
  where
    answers : ℕ → ClientAnswer → Change
    answers i c = record (writer_change w b y) { said = record { ordinal = i; answer = c } ∷ []; answered = reached_answer b waits c }
did-joined w b waits action.Memory x y bytes h at q t = tt

-- DIALS

-- the node of a port is the member whose port it is
member-node : (m : NodeId) (n bound : ℕ) → bound ≤ MAX_NODES → n < bound → node_on (port_of m) ≡ Some n → m.0 ≡ n
member-node m n bound le lt e = grind (arith, nat_tests, e, le, lt, min (FIRST_PORT + m.0) (2 ^ 32 - 1))

members-reach : (ms : List NodeId) (i n bound : ℕ) → bound ≤ MAX_NODES → n < bound → slice_get (map (λ (t : NodeRef). node_on t.xfer) (map ref_of ms)) i ≡ Some (Some n) → (m : NodeId) × (slice_get ms i ≡ Some m) × (m.0 ≡ n)
members-reach [] i n bound le lt e = absurd (none-some (Some n) e)
members-reach (m ∷ ms) zero n bound le lt e = (m, refl, member-node m n bound le lt (same_Some (node_on (port_of m)) (Some n) e))
members-reach (m ∷ ms) (suc i) n bound le lt e = members-reach ms i n bound le lt e

chain-reach : (m : NodeId) (ms : List NodeId) (i n bound : ℕ) → bound ≤ MAX_NODES → n < bound → slice_get (Some m.0 ∷ map (λ (t : NodeRef). node_on t.xfer) (map ref_of ms)) i ≡ Some (Some n) → (x : NodeId) × (slice_get (m ∷ ms) i ≡ Some x) × (x.0 ≡ n)
chain-reach m ms zero n bound le lt e = (m, refl, same_Some m.0 n (same_Some (Some m.0) (Some n) e))
chain-reach m ms (suc i) n bound le lt e = members-reach ms i n bound le lt e

same-request : (a b : WriteFields) → request (op.Write a) ≡ request (op.Write b) → a ≡ b
same-request a b e = cc

dialled-joined : (g : Givens) (w : World) (b : ℕ) (x : WriterRecord) (s : Setup) (stamp : Stamp) (m : NodeId) (ms : List NodeId) → w.nodes ≤ MAX_NODES → Facts g w → Ready w → Joins w → At w b x → x.phase ≡ phase.Stamped s stamp → x.members ≡ m ∷ ms
    → Joined w (dialled_change w b x m (request_for x.block x.committed x.stream s stamp (length x.members) ms) true)
dialled-joined g w b x s stamp m ms le f rd h a e mem = record {
  takes = record {
    lower = λ z. z;
    dials = λ j d q i z. (first j d i, of_writer (asks d q j i z));
    alone = λ j d i c. refl;
    joined = λ y j. absurd (none-some y j.there);
  };
  after = record {
    stamped = λ v t p. absurd (false≢true (sym (ap is_stamped then-phase) ∙ ap is_stamped p));
    members = subst (λ (z : WriterRecord). are_distinct z.members ≡ true) (sym (dialled-is x s stamp e)) distinct;
  };
}
  where
    o : Op
    o = request_for x.block x.committed x.stream s stamp (length x.members) ms

    k : Change
    k = dialled_change w b x m o true

    r : Requested x.block x.committed x.stream s stamp o
    r = requested x.block x.committed x.stream s stamp (length x.members) ms

    distinct : are_distinct x.members ≡ true
    distinct = subst (λ (z : WriterRecord). are_distinct z.members ≡ true) a.is (h.members b)

    then-phase : (dialled x true).phase ≡ phase.Requested s stamp
    then-phase = ap (λ (z : WriterRecord). z.phase) (dialled-is x s stamp e)

    created : s ≡ setup.Create → x.committed ≡ stamp
    created =
        let y : AsksFor (g b) w.past (w.latest b) x.committed x.stream s stamp = subst (λ (p : Phase). Asks (g b) w.past (w.latest b) x.committed x.stream p) e
        (subst (λ (z : WriterRecord). Asks (g b) w.past (w.latest b) z.committed z.stream z.phase) a.is (f.carried.writers b).asks) in y.created

    covers : (q : WriteFields) → r.fields ≡ q → (heard (w.writers b)).stream.acked ≤ promised q
    covers q same =
        subst (λ (y : WriteFields). (heard (w.writers b)).stream.acked ≤ promised y) same
        (rd.covers b s stamp r.fields (ap (λ (y : WriterRecord). y.phase) a.is ∙ e) r.kind_is (r.least ∙ ap (λ (z : WriterRecord). min_length s z.stream) (sym a.is)))

    only : Dial
    only = record { dialled = record { upper = by_writer b; from = None; to = place_of w m.0 }; request = request o }

    first : (j : ℕ) (d : Dial) → slice_get (only ∷ []) j ≡ Some d → j ≡ 0
    first zero d i = refl
    first (suc j) d i = absurd (none-some d i)

    is-only : (j : ℕ) (d : Dial) → slice_get (only ∷ []) j ≡ Some d → only ≡ d
    is-only zero d i = same_Some only d i
    is-only (suc j) d i = absurd (none-some d i)

    asks : (d : Dial) (q : WriteFields) (j : ℕ) → slice_get (only ∷ []) j ≡ Some d → d.request ≡ request (op.Write q) → WriterBegins w k d q
    asks d q j i z =
        let here = is-only j d i in
        let same : r.fields ≡ q = same-request r.fields q (sym (ap (λ (v : Op). request v) r.is) ∙ ap (λ (y : Dial). y.request) here ∙ z) in
        let targets : q.targets ≡ map ref_of ms = ap (λ (y : WriteFields). y.targets) (sym same) ∙ request-targets x.block x.committed x.stream s stamp (length x.members) ms r.fields r.is in
        record {
          setup_is = s;
          stamp = stamp;
          phase_is = ap (λ (y : WriterRecord). y.phase) a.is ∙ e;
          is = ap new_stamp (sym same) ∙ r.new created;
          covers = covers q same;
          block = ap block_of (sym same) ∙ ap (λ (i : BlockId). i.0) (r.block ∙ ap (λ (z : WriterRecord). z.block) (sym a.is) ∙ f.recorded.writers b);
          members = m ∷ ms;
          distinct = subst (λ (ys : List NodeId). are_distinct ys ≡ true) mem distinct;
          reaches = λ v n lt y. chain-reach m ms v n w.nodes le lt
              (subst (λ (ts : List NodeRef). slice_get (Some m.0 ∷ map (λ (t : NodeRef). node_on t.xfer) ts) v ≡ Some (Some n)) targets
              (subst (λ (y : Dial). slice_get (Some y.dialled.to.node ∷ map (λ (t : NodeRef). node_on t.xfer) q.targets) v ≡ Some (Some n)) (sym here) y));
          dialled_now = ap is_stamped then-phase;
        }

dials-joined : (g : Givens) (w : World) (b : ℕ) (x : WriterRecord) (s : Setup) (stamp : Stamp) (m : NodeId) (ms : List NodeId) (answered : Bool) → w.nodes ≤ MAX_NODES → Facts g w → Ready w → Joins w → At w b x → x.phase ≡ phase.Stamped s stamp → x.members ≡ m ∷ ms
    → Joined w (dialled_change w b x m (request_for x.block x.committed x.stream s stamp (length x.members) ms) answered)
dials-joined g w b x s stamp m ms true le f rd h a e mem = dialled-joined g w b x s stamp m ms le f rd h a e mem
dials-joined g w b x s stamp m ms false le f rd h a e mem = change-joined w b x (dialled x false) h a (unanswered-trails x)

dialling-joined : (g : Givens) (w : World) (b : ℕ) (x : WriterRecord) (s : Setup) (stamp : Stamp) (ms : List NodeId) (answered : Bool) → w.nodes ≤ MAX_NODES → Facts g w → Ready w → Joins w → At w b x → x.phase ≡ phase.Stamped s stamp → x.members ≡ ms
    → Joined w (dialling w b x (dial_step_as x s stamp ms).action answered)
dialling-joined g w b x s stamp [] answered le f rd h a e mem = change-joined w b x x h a (itself-trails x)
dialling-joined g w b x s stamp (m ∷ ms) answered le f rd h a e mem = dials-joined g w b x s stamp m ms (answered && w.running m.0) le f rd h a e mem

-- OWN STEPS

rest-joined : (p : Phase) (g : Givens) (w : World) (b : ℕ) (x : WriterRecord) (answered : Bool) → x.phase ≡ p → w.nodes ≤ MAX_NODES → Facts g w → Ready w → Joins w → At w b x → IfSome (rest_in p w b x answered) (Joined w)
rest-joined phase.Closed g w b x answered e le f rd h a = change-joined w b x x h a (itself-trails x)
rest-joined (phase.Wanted s) g w b x answered e le f rd h a = change-joined w b x x h a (itself-trails x)
rest-joined (phase.Stamped s stamp) g w b x answered e le f rd h a = dialling-joined g w b x s stamp x.members answered le f rd h a e refl
rest-joined (phase.Requested s stamp) g w b x answered e le f rd h a = change-joined w b x x h a (itself-trails x)
rest-joined (phase.Accepted s stamp) g w b x answered e le f rd h a = change-joined w b x x h a (itself-trails x)
rest-joined phase.Opened g w b x answered e le f rd h a = did-joined w b x.waiting (open_step x).action x (open_step x).writer [] h a (empty-fits x.queue a.queue) (open-trails x)
rest-joined (phase.Streaming sent) g w b x answered e le f rd h a = change-joined w b x x h a (itself-trails x)
rest-joined phase.Closing g w b x answered e le f rd h a = change-joined w b x x h a (itself-trails x)
rest-joined phase.Finished g w b x answered e le f rd h a = change-joined w b x x h a (itself-trails x)
rest-joined phase.Completed g w b x answered e le f rd h a = did-joined w b x.waiting (completed_step x).action x (completed_step x).writer [] h a (empty-fits x.queue a.queue) (completed-trails x)
rest-joined (phase.Failed e) g w b x answered q le f rd h a = change-joined w b x x h a (itself-trails x)

command-fits : (c : Command) (r : Rule) → is_formed c r ≡ true → CommandFits c
command-fits (command.Create ms) r e = and-right (nat_le (length ms) MAX_MEMBERS) (are_distinct ms) (and-left (are_members ms) (nat_le MIN_CHUNK_SIZE r.chunk) (and-left (are_members ms && nat_le MIN_CHUNK_SIZE r.chunk) (nat_le r.chunk MAX_CHUNK_SIZE) e))
command-fits (command.Append ms) r e = and-right (nat_le (length ms) MAX_MEMBERS) (are_distinct ms) e
command-fits (command.Write bytes) r e = tt
command-fits (command.Fill count) r e = tt
command-fits command.Hflush r e = tt
command-fits command.Hsync r e = tt
command-fits command.Close r e = tt

-- the command that was given is the one in the queue
given-queue : (x : WriterRecord) (c : Command) (a : Result Intake CommandFault) → CommandFits c → x.queue ≡ [] → QueueFits (given_as x c a).queue
given-queue x c (Ok i) f e = record { each = λ j d q. one j d (subst (λ (xs : List Command). slice_get (xs ++ c ∷ []) j ≡ Some d) e q) }
  where
    one : (j : ℕ) (d : Command) → slice_get (c ∷ []) j ≡ Some d → CommandFits d
    one zero d q = subst (λ (z : Command). CommandFits z) (same_Some c d q) f
    one (suc j) d q = absurd (none-some d q)
given-queue x c (Err z) f e = empty-fits x.queue e

record Ruled (x y : WriterRecord) : Type 0 where
  pub phase_is : y.phase ≡ x.phase
  pub members : y.members ≡ x.members
  pub queue : y.queue ≡ x.queue

ruled-is : (x : WriterRecord) (c : Command) (r : Rule) → Ruled x (ruled x c r)
ruled-is x (command.Create members) r = record { phase_is = refl; members = refl; queue = refl }
ruled-is x (command.Append members) r = record { phase_is = refl; members = refl; queue = refl }
ruled-is x (command.Write bytes) r = record { phase_is = refl; members = refl; queue = refl }
ruled-is x (command.Fill count) r = record { phase_is = refl; members = refl; queue = refl }
ruled-is x command.Hflush r = record { phase_is = refl; members = refl; queue = refl }
ruled-is x command.Hsync r = record { phase_is = refl; members = refl; queue = refl }
ruled-is x command.Close r = record { phase_is = refl; members = refl; queue = refl }

given-is : (x : WriterRecord) (c : Command) (a : Result Intake CommandFault) → ((given_as x c a).phase ≡ x.phase) × ((given_as x c a).members ≡ x.members)
given-is x c (Ok i) = (refl, refl)
given-is x c (Err e) = (refl, refl)

-- a command that was given and taken at once
taken-trails : (x : WriterRecord) (c : Command) (r : Rule) → CommandFits c → x.queue ≡ [] → Trails x (own_step (given (ruled x c r) c)).writer
taken-trails x c r f e =
    let y = ruled x c r in
    let v = ruled-is x c r in
    let z = given y c in
    let i = given-is y c (admitted y.intake c) in
    let t = own-step-trails z in
    record {
      stamped = λ p. t.stamped p ∙ i.0 ∙ v.phase_is;
      members = λ d _. t.members (ap are_distinct (i.1 ∙ v.members) ∙ d) (given-queue y c (admitted y.intake c) f (v.queue ∙ e));
    }

command-joined : (w : World) (b : ℕ) (x : WriterRecord) (k : TakenCommand) → Joins w → At w b x → IfSome (takes_command w b x k) (Joined w)
command-joined w b x k h a =
    let y = ruled x k.command k.rule in
    let s = own_step (given y k.command) in
    let full = not (is_empty (given x k.command).queue) in
    when-each (Joined w) (is_formed k.command k.rule && full) _ (λ e. when-each (Joined w) (is_empty s.writer.queue) _
    (λ _. did-joined w b y.waiting s.action x s.writer (command_bytes y k.command) h a (empty-fits x.queue a.queue)
    (taken-trails x k.command k.rule (command-fits k.command k.rule (and-left (is_formed k.command k.rule) full e)) a.queue)))

at-told : (g : Givens) (w : World) (b : ℕ) (o : Option Told) → Facts g w → (w.writers b).told ≡ o → At w b (known_heard (w.writers b).known o)
at-told g w b o f e =
    let is = ap (λ (z : Option Told). known_heard (w.writers b).known z) e in
    record { is = is; queue = subst (λ (x : WriterRecord). x.queue ≡ []) is (f.carried.writers b).queue }

step-joined : (g : Givens) (w : World) (b : ℕ) (o : Option Told) (takes : Option TakenCommand) (answered : Bool) → w.nodes ≤ MAX_NODES → Facts g w → Ready w → Joins w → (w.writers b).told ≡ o → IfSome (writer_step w b (w.writers b).known o takes answered) (Joined w)
step-joined g w b (Some told) None answered le f rd h e = let x = granted (w.writers b).known told in rest-joined x.phase g w b x answered refl le f rd h (at-told g w b (Some told) f e)
step-joined g w b (Some told) (Some k) answered le f rd h e = tt
step-joined g w b None None answered le f rd h e =
    let x = (w.writers b).known in
    let a = at-told g w b None f e in
    did-joined w b x.waiting (own_step x).action x (own_step x).writer [] h a (empty-fits x.queue a.queue) (own-step-trails x)
step-joined g w b None (Some k) answered le f rd h e = command-joined w b (w.writers b).known k h (at-told g w b None f e)

writer-up-joined : (g : Givens) (w : World) (b c : ℕ) (x : Next) → Facts g w → Joins w → IfSome (writer_up w b c x) (Joined w)
writer-up-joined g w b c x f h =
    let y = (w.writers b).known in
    when-each (Joined w) (is_conn (w.writers b).conn c && is_none (w.writers b).told) _
    (λ e. change-joined w b y (writer_hears y x) h (at-told g w b None f (none-is (w.writers b).told (and-right (is_conn (w.writers b).conn c) (is_none (w.writers b).told) e))) (hears-trails y x))

-- A LOWER END, A READER, A PRIMARY

asides-joined : (w : World) (o : Option Change) → Joins w → IfSome o (Aside w) → IfSome o (Takes w) → IfSome o (Joined w)
asides-joined w None h a t = tt
asides-joined w (Some k) h a t = record { takes = t; after = same-then w k h a.writer }

read-apart : (r : ReadOp) (f : WriteFields) → request (op.Read r) ≡ request (op.Write f) → ⊥
read-apart r f e = cc

reader-dials-takes : (w : World) (i n : ℕ) (r : ReadOp) (answered : Bool) → Takes w (reader_dials w i n r answered)
reader-dials-takes w i n r true = record {
  lower = λ z. z;
  dials = λ j d f e q. absurd (only j d f e q);
  alone = λ j d e c. refl;
  joined = λ y j. absurd (none-some y j.there);
}
  where
    one : Dial
    one = record { dialled = record { upper = by_reader i; from = None; to = place_of w n }; request = request (op.Read r) }

    only : (j : ℕ) (d : Dial) (f : WriteFields) → slice_get (one ∷ []) j ≡ Some d → d.request ≡ request (op.Write f) → ⊥
    only zero d f e q = read-apart r f (ap (λ (x : Dial). x.request) (same_Some one d e) ∙ q)
    only (suc j) d f e q = none-some d e
reader-dials-takes w i n r false = quiet-takes w (reader_dials w i n r false) refl refl (λ z. z)

own-reader-takes : (x : Reader) (w : World) (i n : ℕ) (r : ReadOp) (answered : Bool) → IfSome (own_reader_as x w i n r answered) (Takes w)
own-reader-takes no_reader w i n r answered = reader-dials-takes w i n r (answered && w.running n)
own-reader-takes (reads c s) w i n r answered = tt
own-reader-takes (has_read o) w i n r answered = tt

reader-turn-takes : (w : World) (i c : ℕ) (t : ReadTaken) (turn : ReadTurn) → Takes w (reader_turn w i c t turn)
reader-turn-takes w i c t read_turn.Goes = quiet-takes w _ refl refl (λ z. z)
reader-turn-takes w i c t read_turn.Verified = quiet-takes w _ refl refl (λ z. z)
reader-turn-takes w i c t (read_turn.Fails f) = quiet-takes w _ refl refl (λ z. z)

reader-up-takes : (r : Reader) (w : World) (i c : ℕ) (x : Next) → IfSome (reader_up_as r w i c x) (Takes w)
reader-up-takes no_reader w i c x = tt
reader-up-takes (reads d s) w i c x = when-each (Takes w) (d == c) _ (λ _. reader-turn-takes w i c (take_from s (from_node_of x)) (take_from s (from_node_of x)).does)
reader-up-takes (has_read o) w i c x = tt

recovery-apart : (q : RecoveryOp) (f : WriteFields) → request (op.Recovery q) ≡ request (op.Write f) → ⊥
recovery-apart q f e = cc

primary-dial : (w : World) (i : ℕ) (from : Place) (q : RecoveryOp) (place : ℕ) (ns : List NodeId) (bs : List Bool) (j : ℕ) (d : Dial) → slice_get (primary_dials w i from (request (op.Recovery q)) place ns bs) j ≡ Some d → d.request ≡ request (op.Recovery q)
primary-dial w i from q place [] bs j d e = absurd (none-some d e)
primary-dial w i from q place (n ∷ ns) [] j d e = absurd (none-some d e)
primary-dial w i from q place (n ∷ ns) (true ∷ bs) zero d e = sym (ap (λ (x : Dial). x.request) (same_Some _ d e))
primary-dial w i from q place (n ∷ ns) (true ∷ bs) (suc j) d e = primary-dial w i from q (place + 1) ns bs j d e
primary-dial w i from q place (n ∷ ns) (false ∷ bs) j d e = primary-dial w i from q (place + 1) ns bs j d e

begins-takes : (w : World) (i : ℕ) (at : Place) (b : BlockId) (begun : Begun) (ms : List NodeId) (bs : List Bool) → Takes w (begins_with w i at b begun ms bs)
begins-takes w i at b begun ms bs = record {
  lower = λ z. z;
  dials = λ j d f e q. absurd (recovery-apart _ f (sym (primary-dial w i at _ 0 ms bs j d e) ∙ q));
  alone = λ j d e c. refl;
  joined = λ y j. absurd (none-some y j.there);
}

begins-as-takes : (t : Told) (w : World) (i : ℕ) (at : Place) (b : BlockId) (ms : List NodeId) (bs : List Bool) → IfSome (begins_as t w i at b ms bs) (Takes w)
begins-as-takes (Ok (office.Begun begun)) w i at b ms bs = begins-takes w i at b begun ms (dials_answered w ms bs)
begins-as-takes (Ok (office.Stamp s)) w i at b ms bs = tt
begins-as-takes (Ok (office.Reopened r)) w i at b ms bs = tt
begins-as-takes (Ok office.Nothing) w i at b ms bs = tt
begins-as-takes (Err e) w i at b ms bs = quiet-takes w _ refl refl (λ z. z)

begins-at-takes : (p : Primary) (w : World) (i n : ℕ) (b : BlockId) (ms : List NodeId) (bs : List Bool) → IfSome (begins_at p w i n b ms bs) (Takes w)
begins-at-takes no_primary w i n b ms bs = tt
begins-at-takes (was_told asked told) w i n b ms bs = when-each (Takes w) (asked.0 == b.0 && w.running n && are_members ms) _ (λ _. begins-as-takes told w i (place_of w n) b ms bs)
begins-at-takes (leads l) w i n b ms bs = tt
begins-at-takes (has_led r) w i n b ms bs = tt

leads-takes : (s : OwnStep) (w : World) (i : ℕ) (l : Leading) (p : PrimaryState) → IfSome (leads_step s w i l p) (Takes w)
leads-takes lead.Waits w i l p = tt
leads-takes (lead.Updates c) w i l p = quiet-takes w _ refl refl (λ z. z)
leads-takes (lead.Commits c) w i l p = tt
leads-takes (lead.Ends r) w i l p = quiet-takes w _ refl refl (λ z. z)

commits-takes : (s : OwnStep) (w : World) (i : ℕ) (l : Leading) (t : Told) → IfSome (commits_step s w i l t) (Takes w)
commits-takes lead.Waits w i l t = tt
commits-takes (lead.Updates c) w i l t = tt
commits-takes (lead.Commits c) w i l t = quiet-takes w _ refl refl (λ z. z)
commits-takes (lead.Ends r) w i l t = tt

leads-told-takes : (o : Option Told) (w : World) (i : ℕ) (l : Leading) → IfSome (leads_told o w i l) (Takes w)
leads-told-takes None w i l = leads-takes (primary.own_step l.state).does w i l (primary.own_step l.state).primary
leads-told-takes (Some t) w i l = commits-takes (primary.own_step l.state).does w i l t

own-primary-takes : (p : Primary) (w : World) (i : ℕ) → IfSome (own_primary_as p w i) (Takes w)
own-primary-takes no_primary w i = tt
own-primary-takes (was_told b t) w i = tt
own-primary-takes (leads l) w i = when-each (Takes w) (is_alive w l.at) _ (λ _. leads-told-takes l.told w i l)
own-primary-takes (has_led r) w i = tt

hears-takes : (w : World) (i : ℕ) (l : Leading) (place c : ℕ) (x : Next) (o : Option Standing) → IfSome (hears_change w i l place c x o) (Takes w)
hears-takes w i l place c x None = tt
hears-takes w i l place c x (Some s) = when-each (Takes w) (listens l.state.phase s) _ (λ _. quiet-takes w _ refl refl (λ z. z))

primary-up-takes : (p : Primary) (w : World) (i place c : ℕ) (x : Next) → IfSome (primary_up_as p w i place c x) (Takes w)
primary-up-takes no_primary w i place c x = tt
primary-up-takes (was_told b t) w i place c x = tt
primary-up-takes (leads l) w i place c x = when-each (Takes w) (is_alive w l.at && is_none l.told) _ (λ _. hears-takes w i l place c x (slice_get l.state.standings place))
primary-up-takes (has_led r) w i place c x = tt

-- THE OFFICE

refused-members : (x : WriterRecord) (e : OfficeFault) → (refused x e).members ≡ x.members
refused-members x fault.Memory = refl
refused-members x (fault.LeaseLost recovery) = refl
refused-members x fault.Known = refl
refused-members x fault.Unknown = refl
refused-members x fault.NotOpen = refl
refused-members x fault.NotClosed = refl
refused-members x (fault.OldStamp committed) = refl
refused-members x (fault.OldRecovery latest) = refl
refused-members x (fault.TooLong bytes) = refl

refused-phase : (x : WriterRecord) (e : OfficeFault) → is_stamped x.phase ≡ false → is_stamped (refused x e).phase ≡ false
refused-phase x fault.Memory h = h
refused-phase x (fault.LeaseLost recovery) h = refl
refused-phase x fault.Known h = refl
refused-phase x fault.Unknown h = refl
refused-phase x fault.NotOpen h = refl
refused-phase x fault.NotClosed h = refl
refused-phase x (fault.OldStamp committed) h = refl
refused-phase x (fault.OldRecovery latest) h = refl
refused-phase x (fault.TooLong bytes) h = refl

asks-unstamped : (x : WriterRecord) (c : OfficeCall) → AsksAs x c → is_stamped x.phase ≡ false
asks-unstamped x (call.Create b ms) a = ap is_stamped a.at
asks-unstamped x (call.Append b) a = ap is_stamped a.at
asks-unstamped x (call.NewStamp b) a = ap is_stamped a.at
asks-unstamped x (call.Commit b t ms) a = ap is_stamped a.at
asks-unstamped x (call.Complete b t n) a = ap is_stamped a.at
asks-unstamped x (call.BeginRecovery b) a = absurd a
asks-unstamped x (call.CommitSync b id n ms) a = absurd a

-- what a writer makes of an answer: only a stamp that was given now isn't dialled, and its members stay
record Hears (next : Stamp) (x y : WriterRecord) : Type 0 where
  pub stamped : (s : Setup) (t : Stamp) → y.phase ≡ phase.Stamped s t → t ≡ next
  pub members : y.members ≡ x.members

plain-hears : (next : Stamp) (x y : WriterRecord) → is_stamped y.phase ≡ false → y.members ≡ x.members → Hears next x y
plain-hears next x y e m = record { stamped = λ s t q. absurd (false≢true (sym e ∙ ap is_stamped q)); members = m }

new-hears : (next : Stamp) (x y : WriterRecord) (way : Setup) → y.phase ≡ phase.Stamped way next → y.members ≡ x.members → Hears next x y
new-hears next x y way e m = record { stamped = λ s t q. same s t (sym q ∙ e); members = m }
  where
    same : (s : Setup) (t : Stamp) → phase.Stamped s t ≡ phase.Stamped way next → t ≡ next
    same s t p = cc

refused-hears : (next : Stamp) (x : WriterRecord) (e : OfficeFault) → is_stamped x.phase ≡ false → Hears next x (granted x (Err e))
unfolding granted
refused-hears next x e h =
    if-each (λ (y : WriterRecord). Hears next x y) (asks x.phase) (refused x e) x (λ _. plain-hears next x (refused x e) (refused-phase x e h) (refused-members x e)) (λ _. plain-hears next x x h refl)

committed-unstamped : (way : Setup) → is_stamped (phase_committed way) ≡ false
committed-unstamped setup.Create = refl
committed-unstamped setup.Append = refl
committed-unstamped setup.AppendRecovery = refl
committed-unstamped setup.StreamRecovery = refl
committed-unstamped setup.CloseRecovery = refl

abbrev HearsBy : World → OfficeCall → office_step.Step OfficeState OfficeAnswer → Type 0
HearsBy w c s = (x : WriterRecord) → AsksAs x c → Hears w.office.next x (granted x (office_step.reply s))

hears-by : (w : World) (c : OfficeCall) → HearsBy w c (office_case w.office c)
hears-by w c = each_case w.office (HearsBy w) (record {
  refused = λ d e. λ x a. refused-hears w.office.next x e (asks-unstamped x d a);
  created = λ block members none. λ x a. subst (λ (y : WriterRecord). Hears w.office.next x y) (sym (granted-create x w.office.next a.at)) (new-hears w.office.next x _ setup.Create refl refl);
  appended = λ block r is shut short. λ x a.
      subst (λ (y : WriterRecord). Hears w.office.next x y) (sym (granted-append x (record { committed = r.committed; length = r.length; new = w.office.next }) a.at short)) (new-hears w.office.next x _ setup.Append refl refl);
  stamped = λ block r is writers. λ x a. subst (λ (y : WriterRecord). Hears w.office.next x y) (sym (granted-again x w.office.next a.way a.at a.again)) (new-hears w.office.next x _ a.way refl refl);
  committed = λ block stamp members r is writers new. λ x a. subst (λ (y : WriterRecord). Hears w.office.next x y) (sym (granted-commit x stamp a.way a.at a.later)) (plain-hears w.office.next x _ (committed-unstamped a.way) refl);
  completed = λ block stamp bytes r is writers new. λ x a. subst (λ (y : WriterRecord). Hears w.office.next x y) (sym (granted-complete x a.at)) (plain-hears w.office.next x _ refl refl);
  begun = λ block r is is_open. λ x a. absurd a;
  synced = λ block id bytes members r is is_open latest. λ x a. absurd a;
}) c

-- nothing was asked under the next stamp
next-unasked : (g : Givens) (w : World) → Facts g w → SetUps g w → IsUnasked w.past w.office.next
next-unasked g w f s = record {
  asked = λ c q a e.
      let says = f.carried.downs c 0 (request (op.Write q)) a.first in
      absurd (omega (arith, f.recorded.below q.block.block.0 (new_stamp q).0 says.session says.given, ap (λ (z : Stamp). z.0) e));
  joined = λ n l j. let i = s.given w.office.next.0 n l j in absurd (omega (arith, f.recorded.below i.block w.office.next.0 i.session i.is));
}

asks-joined : (a : Action) (g : Givens) (w : World) (b : ℕ) → Facts g w → SetUps g w → Joins w → (w.writers b).told ≡ None → (own_step (w.writers b).known).action ≡ a → IfSome (writer_asks a w b) (Joined w)
asks-joined action.Wait g w b f s h e q = tt
asks-joined action.Took g w b f s h e q = tt
asks-joined (action.Dial to r) g w b f s h e q = tt
asks-joined (action.Send p) g w b f s h e q = tt
asks-joined (action.Answered n c) g w b f s h e q = tt
asks-joined action.Memory g w b f s h e q = tt
asks-joined (action.Ask c) g w b f s h e q =
    let x = (w.writers b).known in
    let k = asks_writer w b c in
    let y = hears-by w c x (subst (λ (z : Action). Asking x z) q (own-step-asking x)) in
    record {
      takes = quiet-takes w k refl refl (λ z. z);
      after = record {
        stamped = λ v t p. subst (λ (z : Stamp). IsUnasked w.past z) (sym (y.stamped v t p)) (next-unasked g w f s);
        members = ap are_distinct y.members ∙ subst (λ (z : WriterRecord). are_distinct z.members ≡ true) (at-told g w b None f e).is (h.members b);
      };
    }

primary-joined : (w : World) (i : ℕ) (c : OfficeCall) (p : Told → Primary) → Joins w → Joined w (asks_primary w i c p)
primary-joined w i c p h = record { takes = quiet-takes w (asks_primary w i c p) refl refl (λ z. z); after = same-then w (asks_primary w i c p) h refl }

commits-joined : (s : OwnStep) (w : World) (i : ℕ) (l : Leading) → Joins w → IfSome (primary_commits s w i l) (Joined w)
commits-joined lead.Waits w i l h = tt
commits-joined (lead.Updates c) w i l h = tt
commits-joined (lead.Commits c) w i l h = primary-joined w i (primary.sync_call l.state c) (λ told. leads (record l { told = Some told })) h
commits-joined (lead.Ends r) w i l h = tt

primary-asks-joined : (p : Primary) (w : World) (i : ℕ) (b : BlockId) → Joins w → IfSome (primary_asks p w i b) (Joined w)
primary-asks-joined no_primary w i b h = primary-joined w i (call.BeginRecovery b) (was_told b) h
primary-asks-joined (was_told c told) w i b h = tt
primary-asks-joined (leads l) w i b h = when-each (Joined w) (is_alive w l.at && is_none l.told) _ (λ _. commits-joined (primary.own_step l.state).does w i l h)
primary-asks-joined (has_led r) w i b h = tt

office-joined : (g : Givens) (w : World) (c : Caller) → Facts g w → SetUps g w → Joins w → IfSome (office_event w c) (Joined w)
office-joined g w (caller.Writer b) f s h = when-each (Joined w) (is_none (w.writers b.0).told) _ (λ e. asks-joined (own_step (w.writers b.0).known).action g w b.0 f s h (none-is (w.writers b.0).told e) refl)
office-joined g w (caller.Primary i b) f s h = primary-asks-joined (w.primaries i) w i b h

new-session : (f : ℕ → ℕ) (s : Option Stamped) → IfSome s (λ z. sessions_with f s z.stamp ≡ z.session)
new-session f None = tt
new-session f (Some z) = put-here f z.stamp z.session

-- a stamp that is given is of no earlier session than those that were given before
ordered-with : (f : Givens) (s : Option Stamped) (n : ℕ) → IfSome s (λ z. z.stamp ≡ n) → ((b t e : ℕ) → f b t ≡ Some e → t < n) → ((b t u e d : ℕ) → f b t ≡ Some e → f b u ≡ Some d → t ≤ u → e ≤ d)
    → IfSome s (λ z. (t e : ℕ) → f z.block t ≡ Some e → e ≤ z.session) → (b t u e d : ℕ) → given_with f s b t ≡ Some e → given_with f s b u ≡ Some d → t ≤ u → e ≤ d
ordered-with f None n new under order top = order
ordered-with f (Some z) n new under order top = λ b t u e d x y le. given-each (λ (i v o : ℕ). (u d : ℕ) → given_with f (Some z) i u ≡ Some d → v ≤ u → o ≤ d) f (Some z)
    (λ u d y le. given-each (λ (i v o : ℕ). z.stamp ≤ v → z.session ≤ o) f (Some z) (λ _. omega arith) (λ i v o q w. absurd (omega (arith, w, new, under i v o q))) z.block u d y le)
    (λ i v o q u d y le. given-each (λ (j a c : ℕ). j ≡ i → v ≤ a → o ≤ c) f (Some z) (λ same _. top v o (subst (λ (j : ℕ). f j v ≡ Some o) (sym same) q)) (λ j a c w same lt. order i v a o c q (subst (λ (l : ℕ). f l a ≡ Some c) same w) lt) i u d y refl le)
    b t e x u d y le

-- the session of a stamp that a writer is given
abbrev NewSessionBy : (w : World) → Joins w → OfficeCall → office_step.Step OfficeState OfficeAnswer → Type 0
NewSessionBy w h c s = (x : WriterRecord) → AsksAs x c →
    IfSome (stamped_by w c (office_step.reply s)) (λ z. ((t e : ℕ) → h.setups z.block t ≡ Some e → e ≤ z.session) × (z.session ≤ latest_with w.latest (stamped_by w c (office_step.reply s)) z.block))

session-new : (w : World) (h : Joins w) (c : OfficeCall) → NewSessionBy w h c (office_case w.office c)
session-new w h c = each_case w.office (NewSessionBy w h) (record {
  refused = λ d e. λ x a. subst (λ (o : Option Stamped). IfSome o (λ z. ((t e : ℕ) → h.setups z.block t ≡ Some e → e ≤ z.session) × (z.session ≤ latest_with w.latest o z.block))) (sym (refused-stamp w d e)) tt;
  created = λ block members none. λ x a. (λ t e q. omega (arith, h.early block.0 t e q), omega (arith, put-here w.latest block.0 w.office.next.0));
  appended = λ block r is shut short. λ x a. (λ t e q. omega (arith, h.early block.0 t e q), omega (arith, put-here w.latest block.0 w.office.next.0));
  stamped = λ block r is writers. λ x a. (λ t e q. h.within block.0 t e q, omega (arith, put-here w.latest block.0 (w.latest block.0)));
  committed = λ block stamp members r is writers new. λ x a. tt;
  completed = λ block stamp bytes r is writers new. λ x a. tt;
  begun = λ block r is is_open. λ x a. absurd a;
  synced = λ block id bytes members r is is_open latest. λ x a. absurd a;
}) c

-- the stamp that a writer is given, if it is
writer-sets : (g : Givens) (w : World) (b : ℕ) (c : OfficeCall) → Facts g w → (h : Joins w) → (w.writers b).told ≡ None → AsksAs (w.writers b).known c → Sets w (asks_writer w b c) h.setups
writer-sets g w b c f h none a = record {
  setups = given_with h.setups s;
  keeps = λ d t e q. given-mono h.setups s w.office.next.0 d t e (some-weaker _ (λ z. z.stamp ≡ w.office.next.0) s (λ z v. v.0) (gives w c).fresh) (h.under d t e q) q;
  lifts = λ d. up d (d == b) refl;
  sessions = given-each (λ d t e. sessions_with w.session_of s t ≡ e) h.setups s (new-session w.session_of s)
      (λ d t e q. given-sessions w.session_of s w.office.next.0 (block_in c).0 k.office.next.0 (gives w c).fresh t (h.under d t e q) ∙ h.sessions d t e q);
  early = given-each (λ d t e. e < k.office.next.0) h.setups s early-new (λ d t e q. omega (arith, h.early d t e q, (gives w c).rises));
  late = λ d. later d;
  within = given-each (λ d t e. e ≤ latest_with w.latest s d) h.setups s (some-weaker _ (λ z. z.session ≤ latest_with w.latest s z.block) s (λ z v. v.1) news)
      (λ d t e q. old-within d t e q (up d (d == b) refl));
  order = ordered-with h.setups s w.office.next.0 (some-weaker _ (λ z. z.stamp ≡ w.office.next.0) s (λ z v. v.0) (gives w c).fresh) h.under h.order (some-weaker _ (λ z. (t e : ℕ) → h.setups z.block t ≡ Some e → e ≤ z.session) s (λ z v. v.0) news);
  answers = tt;
  fits = λ d. at d (d == b) refl;
  under = given-each (λ d t e. t < k.office.next.0) h.setups s (some-weaker _ (λ z. z.stamp < k.office.next.0) s (λ z v. v.2) (gives w c).fresh) (λ d t e q. omega (arith, h.under d t e q, (gives w c).rises));
}
  where
    k : Change
    k = asks_writer w b c

    s : Option Stamped
    s = k.stamped

    is : heard (w.writers b) ≡ (w.writers b).known
    is = none-heard (w.writers b) none

    block : (w.writers b).known.block ≡ record { 0 = b }
    block = subst (λ (x : WriterRecord). x.block ≡ record { 0 = b }) is (f.recorded.writers b)

    own : Fits (given_with h.setups s b) (latest_with w.latest s b) None (granted (w.writers b).known (answer_to w.office c))
    own = settles-by w b h.setups c (w.writers b).known a block (subst (λ (x : WriterRecord). Fits (h.setups b) (w.latest b) None x) is (h.fits b)) (record { below = λ t e q. h.under b t e q })

    news : IfSome s (λ z. ((t e : ℕ) → h.setups z.block t ≡ Some e → e ≤ z.session) × (z.session ≤ latest_with w.latest s z.block))
    news = session-new w h c (w.writers b).known a

    old-within : (d t e : ℕ) → h.setups d t ≡ Some e → Goes w d s (heard (w.writers d)) (heard (put w.writers b k.writer d)) → e ≤ latest_with w.latest s d
    old-within d t e q (inl x) = omega (arith, h.within d t e q, x.0)
    old-within d t e q (inr x) = omega (arith, h.early d t e q, x)

    at-block : (block_in c).0 ≡ b
    at-block = ap (λ (q : BlockId). q.0) (asks-block (w.writers b).known c a ∙ block)

    sessions : IfSome s (λ z. (z.session < k.office.next.0) × (z.latest < k.office.next.0))
    sessions = session-by w c (w.writers b).known a h.late

    -- a session that begins has the name of the stamp that is given
    early-new : IfSome s (λ z. z.session < k.office.next.0)
    early-new = some-weaker _ (λ z. z.session < k.office.next.0) s (λ z v. v.0) sessions

    later : (d : ℕ) → latest_with w.latest s d < k.office.next.0
    later d = late-with w.latest s k.office.next.0 (λ i. omega (arith, h.late i, (gives w c).rises)) (some-weaker _ (λ z. z.latest < k.office.next.0) s (λ z v. v.1) sessions) d

    up : (d : ℕ) (t : Bool) → (d == b) ≡ t → Goes w d s (heard (w.writers d)) (heard (if t then k.writer else w.writers d))
    up d true e = subst (λ (i : ℕ). Goes w i s (heard (w.writers i)) (heard k.writer)) (sym (eqb-true d b e))
        (subst (λ (x : WriterRecord). Goes w b s x (heard k.writer)) (sym is) (begun-by w b c (w.writers b).known a block))
    up d false e = inl (others-latest w.latest s (block_in c).0 d w.office.next.0 k.office.next.0 (gives w c).fresh (λ q. eqb-false d b e (q ∙ at-block)), omega arith)

    at : (d : ℕ) (t : Bool) → (d == b) ≡ t → Fits (given_with h.setups s d) (latest_with w.latest s d) None (heard (if t then k.writer else w.writers d))
    at d true e = subst (λ (i : ℕ). Fits (given_with h.setups s i) (latest_with w.latest s i) None (heard k.writer)) (sym (eqb-true d b e)) own
    at d false e =
        let apart : d ≡ (block_in c).0 → ⊥ = λ q. eqb-false d b e (q ∙ at-block) in
        subst (λ (z : ℕ → Option ℕ). Fits z (latest_with w.latest s d) None (heard (w.writers d))) (sym (others-given h.setups s (block_in c).0 d w.office.next.0 k.office.next.0 (gives w c).fresh apart))
        (subst (λ (z : ℕ). Fits (h.setups d) z None (heard (w.writers d))) (sym (others-latest w.latest s (block_in c).0 d w.office.next.0 k.office.next.0 (gives w c).fresh apart)) (h.fits d))

primary-sets : (w : World) (i : ℕ) (c : OfficeCall) (p : Told → Primary) → IsPrimarys c → (h : Joins w) → Sets w (asks_primary w i c p) h.setups
primary-sets w i c p a h = record {
  setups = h.setups;
  keeps = λ b t e q. q;
  lifts = λ b. inl (latest-by w c a b, put-each (λ (d : ℕ) (y : Writing). Lifts (heard (w.writers d)) (heard y)) w.writers 0 (w.writers 0) (omega arith) (λ d. omega arith) b);
  sessions = λ b t e q.
      given-sessions w.session_of (asks_primary w i c p).stamped w.office.next.0 (block_in c).0 (asks_primary w i c p).office.next.0 (gives w c).fresh t (h.under b t e q) ∙ h.sessions b t e q;
  early = λ b t e q. omega (arith, h.early b t e q, (gives w c).rises);
  late = λ b. omega (arith, h.late b, latest-by w c a b, (gives w c).rises);
  within = λ b t e q. omega (arith, h.within b t e q, latest-by w c a b);
  order = h.order;
  answers = tt;
  fits = λ b. subst (λ (l : ℕ). Fits (h.setups b) l None (heard (put w.writers 0 (w.writers 0) b))) (sym (latest-by w c a b))
      (put-each (λ (d : ℕ) (y : Writing). Fits (h.setups d) (w.latest d) None (heard y)) w.writers 0 (w.writers 0) (h.fits 0) h.fits b);
  under = λ b t e q. omega (arith, h.under b t e q, (gives w c).rises);
}

asks-sets : (a : Action) (g : Givens) (w : World) (b : ℕ) → Facts g w → (h : Joins w) → (w.writers b).told ≡ None → (own_step (w.writers b).known).action ≡ a → IfSome (writer_asks a w b) (λ k. Sets w k h.setups)
asks-sets action.Wait g w b f h e q = tt
asks-sets action.Took g w b f h e q = tt
asks-sets (action.Dial to r) g w b f h e q = tt
asks-sets (action.Send p) g w b f h e q = tt
asks-sets (action.Answered n c) g w b f h e q = tt
asks-sets action.Memory g w b f h e q = tt
asks-sets (action.Ask c) g w b f h e q = writer-sets g w b c f h e (subst (λ (z : Action). Asking (w.writers b).known z) q (own-step-asking (w.writers b).known))

commits-sets : (s : OwnStep) (w : World) (i : ℕ) (l : Leading) → (h : Joins w) → IfSome (primary_commits s w i l) (λ k. Sets w k h.setups)
commits-sets lead.Waits w i l h = tt
commits-sets (lead.Updates c) w i l h = tt
commits-sets (lead.Commits c) w i l h = primary-sets w i (primary.sync_call l.state c) (λ told. leads (record l { told = Some told })) tt h
commits-sets (lead.Ends r) w i l h = tt

primary-asks-sets : (p : Primary) (w : World) (i : ℕ) (b : BlockId) → (h : Joins w) → IfSome (primary_asks p w i b) (λ k. Sets w k h.setups)
primary-asks-sets no_primary w i b h = primary-sets w i (call.BeginRecovery b) (was_told b) tt h
primary-asks-sets (was_told c told) w i b h = tt
primary-asks-sets (leads l) w i b h = when-each (λ k. Sets w k h.setups) (is_alive w l.at && is_none l.told) _ (λ _. commits-sets (primary.own_step l.state).does w i l h)
primary-asks-sets (has_led r) w i b h = tt

office-sets : (g : Givens) (w : World) (c : Caller) → Facts g w → (h : Joins w) → IfSome (office_event w c) (λ k. Sets w k h.setups)
office-sets g w (caller.Writer b) f h = when-each (λ k. Sets w k h.setups) (is_none (w.writers b.0).told) _ (λ e. asks-sets (own_step (w.writers b.0).known).action g w b.0 f h (none-is (w.writers b.0).told e) refl)
office-sets g w (caller.Primary i b) f h = primary-asks-sets (w.primaries i) w i b h

-- EVENTS

changed-joins : (g l : Givens) (w : World) (o : Option Change) → Facts g w → (h : Joins w) → IfSome (changed w o) (Facts l) → IfSome o (Joined w) → IfSome o (Quietly w) → IfSome o (Lifted w) → IfSome (changed w o) Joins
changed-joins g l w None f h n j q d = tt
changed-joins g l w (Some k) f h n j q d = joins-apply g l w k h j.takes j.after (quiet-sets w k h q d) f n

office-joins : (g l : Givens) (w : World) (o : Option Change) → Facts g w → (h : Joins w) → IfSome (changed w o) (Facts l) → IfSome o (Joined w) → IfSome o (λ k. Sets w k h.setups) → IfSome (changed w o) Joins
office-joins g l w None f h n j q = tt
office-joins g l w (Some k) f h n j q = joins-apply g l w k h j.takes j.after q f n

down-taken-joins : (w : World) (c : ℕ) (x : Next) → Joins w → Joins (down_taken w c x)
unfolding down_taken
down-taken-joins w c x h = record { few = h.few; begun = h.begun; once = h.once; unmet = h.unmet; stamped = h.stamped; members = h.members; setups = h.setups; fits = h.fits; under = h.under; sessions = h.sessions; early = h.early; late = h.late; within = h.within; order = h.order; answered = h.answered; acked = h.acked; cover = h.cover; given = h.given; reach = h.reach; single = h.single }

up-taken-joins : (w : World) (c : ℕ) (x : Next) → Joins w → Joins (up_taken w c x)
unfolding up_taken
up-taken-joins w c x h = record { few = h.few; begun = h.begun; once = h.once; unmet = h.unmet; stamped = h.stamped; members = h.members; setups = h.setups; fits = h.fits; under = h.under; sessions = h.sessions; early = h.early; late = h.late; within = h.within; order = h.order; answered = h.answered; acked = h.acked; cover = h.cover; given = h.given; reach = h.reach; single = h.single }

first-op : (g : Givens) (t : Ends) (w : World) (c : ℕ) (o : Op) → NextTells g t w c (message (request o)) → FirstOf w c (message (request o))
first-op g t w c (op.Write f) h = record { first = h.0.first }
first-op g t w c (op.Read r) h = tt
first-op g t w c (op.Recovery r) h = tt
first-op g t w c (op.Transfer r) h = tt
first-op g t w c (op.Checksum r) h = tt

first-of : (g : Givens) (t : Ends) (w : World) (c : ℕ) (x : Next) → NextTells g t w c x → FirstOf w c x
first-of g t w c (message (request o)) h = first-op g t w c o h
first-of g t w c (message (packet p)) h = tt
first-of g t w c (message (ack a)) h = tt
first-of g t w c (message (response r)) h = tt
first-of g t w c (message (read_status s)) h = tt
first-of g t w c (message (recovery_answer a)) h = tt
first-of g t w c the_end h = tt

lower-takes : (w : World) (c : ℕ) (x : Next) (answered fails : Bool) → FirstOf w c x → IfSome (lower_down (w.lowers c) (down_taken w c x) c x answered fails) (Takes (down_taken w c x))
unfolding down_taken
lower-takes w c x answered fails h = lower-down-takes (w.lowers c) (down_taken w c x) c x answered fails refl (first-there x h)
  where
    first-request : (o : Op) → FirstOf w c (message (request o)) → FirstOf (down_taken w c x) c (message (request o))
    first-request (op.Write f) k = k
    first-request (op.Read r) k = tt
    first-request (op.Recovery r) k = tt
    first-request (op.Transfer r) k = tt
    first-request (op.Checksum r) k = tt

    first-there : (y : Next) → FirstOf w c y → FirstOf (down_taken w c x) c y
    first-there (message (request o)) k = first-request o k
    first-there (message (packet p)) k = tt
    first-there (message (ack a)) k = tt
    first-there (message (response r)) k = tt
    first-there (message (read_status s)) k = tt
    first-there (message (recovery_answer a)) k = tt
    first-there the_end k = tt

down-as-joins : (g l : Givens) (t : Ends) (w : World) (c : ℕ) (answered fails : Bool) (o : Option Next) → Known g t w → Joins w → next_down w c ≡ o → IfSome (down_as w c answered fails o) (Facts l) → IfSome (down_as w c answered fails o) Joins
down-as-joins g l t w c answered fails None k h e n = tt
down-as-joins g l t w c answered fails (Some x) k h e n =
    let v = down_taken w c x in
    let j = down-taken-joins w c x h in
    let o = lower_down (w.lowers c) v c x answered fails in
    changed-joins g l v o (down-known g t w c x k).facts j n (asides-joined v o j (lower-down-aside (w.lowers c) v c x answered fails) (lower-takes w c x answered fails (first-of g t w c x (next-tells g t w c x k e))))
    (aside-quietly v o (lower-down-aside (w.lowers c) v c x answered fails)) (asides-lifted v o (lower-down-aside (w.lowers c) v c x answered fails))

down-joins : (g l : Givens) (t : Ends) (w : World) (c : ℕ) (answered fails : Bool) → Known g t w → Joins w → IfSome (down_event w c answered fails) (Facts l) → IfSome (down_event w c answered fails) Joins
down-joins g l t w c answered fails k h n = when-two (Facts l) Joins (is_served w c) _ n (λ _ q. down-as-joins g l t w c answered fails (next_down w c) k h refl q)

ready-joins : (g l : Givens) (t : Ends) (w : World) (c : ℕ) (fails : Bool) → Known g t w → Joins w → IfSome (ready_event w c fails) (Facts l) → IfSome (ready_event w c fails) Joins
ready-joins g l t w c fails k h n =
    let o = lower_ready (w.lowers c) w c fails in
    when-two (Facts l) Joins (is_served w c) _ n (λ _ q. changed-joins g l w o k.facts h q (asides-joined w o h (lower-ready-aside (w.lowers c) w c fails) (lower-ready-takes (w.lowers c) w c fails)) (aside-quietly w o (lower-ready-aside (w.lowers c) w c fails)) (asides-lifted w o (lower-ready-aside (w.lowers c) w c fails)))

unless-joined : (w : World) (fails : Bool) (o : Option Change) → IfSome o (Joined w) → IfSome (unless_fails fails o) (Joined w)
unless-joined w true o h = tt
unless-joined w false o h = h

upper-joined : (u : Upper) (g : Givens) (w : World) (c : ℕ) (x : Next) (fails : Bool) → Facts g w → Joins w → IfSome (upper_up u w c x fails) (Joined w)
upper-joined (by_writer b) g w c x fails f h = unless-joined w fails (writer_up w b c x) (writer-up-joined g w b c x f h)
upper-joined (by_member d) g w c x fails f h = asides-joined w (mirror_up (w.lowers d) w d x fails) h (mirror-up-aside (w.lowers d) w d x fails) (mirror-up-takes (w.lowers d) w d x fails)
upper-joined (by_reader i) g w c x fails f h = unless-joined w fails (reader_up w i c x) (asides-joined w (reader_up w i c x) h (reader-up-aside w i c x) (reader-up-takes (w.readers i) w i c x))
upper-joined (by_primary i p) g w c x fails f h = unless-joined w fails (primary_up w i p c x) (asides-joined w (primary_up w i p c x) h (primary-up-aside w i p c x) (primary-up-takes (w.primaries i) w i p c x))

unless-lifted : (w : World) (fails : Bool) (o : Option Change) → IfSome o (Lifted w) → IfSome (unless_fails fails o) (Lifted w)
unless-lifted w true o h = tt
unless-lifted w false o h = h

upper-lifted : (u : Upper) (w : World) (c : ℕ) (x : Next) (fails : Bool) → IfSome (upper_up u w c x fails) (Lifted w)
upper-lifted (by_writer b) w c x fails = unless-lifted w fails (writer_up w b c x) (writer-up-lifted w b c x)
upper-lifted (by_member d) w c x fails = asides-lifted w (mirror_up (w.lowers d) w d x fails) (mirror-up-aside (w.lowers d) w d x fails)
upper-lifted (by_reader i) w c x fails = unless-lifted w fails (reader_up w i c x) (asides-lifted w (reader_up w i c x) (reader-up-aside w i c x))
upper-lifted (by_primary i p) w c x fails = unless-lifted w fails (primary_up w i p c x) (asides-lifted w (primary_up w i p c x) (primary-up-aside w i p c x))

-- what is known of writers after every list of events
record Moving (w : World) : Type 0 where
  pub makes : (b : ℕ) → Makes b (heard (w.writers b))
  pub reaches : (b : ℕ) → Reaches (heard (w.writers b))
  pub ready : Ready w

moving-at : (w : World) → Reached w → Moving w
moving-at w r = subst (λ (v : World). Moving v) r.is (record {
  makes = all-move r.nodes r.events;
  reaches = all-reached r.nodes r.events;
  ready = let x = at-end r.nodes r.events in ready-of (given_in none_given (start r.nodes) r.events) x.ends (run (start r.nodes) r.events) x.known x.stands;
})

own-lifted : (g : Givens) (w : World) (s : step.OwnStep) → Facts g w → Moving w → IfSome (own_change w s) (Lifted w)
own-lifted g w (own.Writer b takes answered) f m = step-lifted w b.0 (w.writers b.0).told takes answered (m.reaches b.0) (m.makes b.0) (f.carried.writers b.0).queue refl
own-lifted g w (own.Reader i n r answered) f m = asides-lifted w (own_reader w i n.0 r answered) (own-reader-aside w i n.0 r answered)
own-lifted g w (own.Recover i n b members answers) f m = asides-lifted w (own_recover w i n.0 b members answers) (own-recover-aside w i n.0 b members answers)
own-lifted g w (own.Primary i) f m = asides-lifted w (own_primary w i) (own-primary-aside w i)

up-as-joins : (g l : Givens) (t : Ends) (w : World) (c : ℕ) (fails : Bool) (o : Option Next) → Known g t w → Joins w → IfSome (up_as w c fails o) (Facts l) → IfSome (up_as w c fails o) Joins
up-as-joins g l t w c fails None k h n = tt
up-as-joins g l t w c fails (Some x) k h n =
    let v = up_taken w c x in
    let f = (up-known g t w c x k).facts in
    let j = up-taken-joins w c x h in
    changed-joins g l v (upper_up (w.dialled c).upper v c x fails) f j n (upper-joined (w.dialled c).upper g v c x fails f j) (upper-quietly (w.dialled c).upper v c x fails) (upper-lifted (w.dialled c).upper v c x fails)

up-joins : (g l : Givens) (t : Ends) (w : World) (c : ℕ) (fails : Bool) → Known g t w → Joins w → IfSome (up_event w c fails) (Facts l) → IfSome (up_event w c fails) Joins
up-joins g l t w c fails k h n = when-two (Facts l) Joins (nat_lt c w.next_conn) _ n (λ _ q. up-as-joins g l t w c fails (next_up w c) k h q)

fault-joins : (g l : Givens) (t : Ends) (w : World) (d : Delivery) → Known g t w → Joins w → IfSome (fault_event w d) (Facts l) → IfSome (fault_event w d) Joins
fault-joins g l t w (delivery.Down c) k h n = down-joins g l t w c.0 false true k h n
fault-joins g l t w (delivery.Ready c) k h n = ready-joins g l t w c.0 true k h n
fault-joins g l t w (delivery.Up c) k h n = up-joins g l t w c.0 true k h n

own-joined : (g : Givens) (w : World) (s : step.OwnStep) → Facts g w → Ready w → Joins w → IfSome (own_change w s) (Joined w)
own-joined g w (own.Writer b takes answered) f rd h = step-joined g w b.0 (w.writers b.0).told takes answered h.few f rd h refl
own-joined g w (own.Reader i n r answered) f rd h = asides-joined w (own_reader w i n.0 r answered) h (own-reader-aside w i n.0 r answered) (own-reader-takes (w.readers i) w i n.0 r answered)
own-joined g w (own.Recover i n b members answers) f rd h = asides-joined w (own_recover w i n.0 b members answers) h (own-recover-aside w i n.0 b members answers) (begins-at-takes (w.primaries i) w i n.0 b members answers)
own-joined g w (own.Primary i) f rd h = asides-joined w (own_primary w i) h (own-primary-aside w i) (own-primary-takes (w.primaries i) w i)

where-joins : (test : Bool) (v : World) → Joins v → IfSome (where_so test v) Joins
where-joins true v h = h
where-joins false v h = tt

lost-joins : (w : World) (c : ℕ) (way : Direction) (more : ℕ) → Joins w → Joins (lost w c way more)
lost-joins w c direction.Down more h = record { few = h.few; begun = h.begun; once = h.once; unmet = h.unmet; stamped = h.stamped; members = h.members; setups = h.setups; fits = h.fits; under = h.under; sessions = h.sessions; early = h.early; late = h.late; within = h.within; order = h.order; answered = h.answered; acked = h.acked; cover = h.cover; given = h.given; reach = h.reach; single = h.single }
lost-joins w c direction.Up more h = record { few = h.few; begun = h.begun; once = h.once; unmet = h.unmet; stamped = h.stamped; members = h.members; setups = h.setups; fits = h.fits; under = h.under; sessions = h.sessions; early = h.early; late = h.late; within = h.within; order = h.order; answered = h.answered; acked = h.acked; cover = h.cover; given = h.given; reach = h.reach; single = h.single }

outcome-joins : (g l : Givens) (t : Ends) (w : World) (e : Event) → Known g t w → Moving w → Joins w → IfSome (outcome w e) (Facts l) → IfSome (outcome w e) Joins
unfolding outcome restart
outcome-joins g l t w (event.Own s) k m h n = changed-joins g l w (own_change w s) k.facts h n (own-joined g w s k.facts m.ready h) (own-quietly w s) (own-lifted g w s k.facts m)
outcome-joins g l t w (event.Office c) k m h n = office-joins g l w (office_event w c) k.facts h n (office-joined g w c k.facts k.sets h) (office-sets g w c k.facts h)
outcome-joins g l t w (event.Down c answered) k m h n = down-joins g l t w c.0 answered false k h n
outcome-joins g l t w (event.Ready c) k m h n = ready-joins g l t w c.0 false k h n
outcome-joins g l t w (event.Up c) k m h n = up-joins g l t w c.0 false k h n
outcome-joins g l t w (event.Lost c way more) k m h n = where-joins (nat_lt c.0 w.next_conn) (lost w c.0 way more) (lost-joins w c.0 way more h)
outcome-joins g l t w (event.Fault d) k m h n = fault-joins g l t w d k h n
outcome-joins g l t w (event.Stop n) k m h q = where-joins (w.running n.0) (stop w n.0) (record { few = h.few; begun = h.begun; once = h.once; unmet = h.unmet; stamped = h.stamped; members = h.members; setups = h.setups; fits = h.fits; under = h.under; sessions = h.sessions; early = h.early; late = h.late; within = h.within; order = h.order; answered = h.answered; acked = h.acked; cover = h.cover; given = h.given; reach = h.reach; single = h.single })
outcome-joins g l t w (event.Restart n list) k m h q =
    where-joins (nat_lt n.0 w.nodes && not (w.running n.0)) (restart w n.0 list) (record { few = h.few; begun = h.begun; once = h.once; unmet = h.unmet; stamped = h.stamped; members = h.members; setups = h.setups; fits = h.fits; under = h.under; sessions = h.sessions; early = h.early; late = h.late; within = h.within; order = h.order; answered = h.answered; acked = h.acked; cover = h.cover; given = h.given; reach = h.reach; single = h.single })

after-joins : (w : World) (e : Event) (o : Option World) → Joins w → IfSome o Joins → Joins (after_event w e o)
after-joins w e None h k = h
after-joins w e (Some v) h k = record { few = k.few; begun = k.begun; once = k.once; unmet = k.unmet; stamped = k.stamped; members = k.members; setups = k.setups; fits = k.fits; under = k.under; sessions = k.sessions; early = k.early; late = k.late; within = k.within; order = k.order; answered = k.answered; acked = k.acked; cover = k.cover; given = k.given; reach = k.reach; single = k.single }

happens-joins : (g l : Givens) (t : Ends) (w : World) (e : Event) → Known g t w → Moving w → Facts l (happens w e) → Joins w → Joins (happens w e)
unfolding happens
happens-joins g l t w e k m n h = after-joins w e (outcome w e) h (outcome-joins g l t w e k m h (outcome-facts l w e (outcome w e) n))

-- what is known of a world that some events lead to
record Seen (w : World) : Type 0 where
  pub givens : Givens
  pub ends : Ends
  pub known : Known givens ends w

seen : (w : World) → Reached w → Seen w
seen w r =
    let x = at-end r.nodes r.events in
    subst (λ (v : World). Seen v) r.is (record { givens = given_in none_given (start r.nodes) r.events; ends = x.ends; known = x.known })

run-joins : (w : World) (events : List Event) → Reached w → Joins w → Joins (run w events)
run-joins w [] r h = h
run-joins w (e ∷ events) r h =
    let k = seen w r in
    let n = reached-next w e r in
    let v = seen (happens w e) n in
    run-joins (happens w e) events n (happens-joins k.givens v.givens k.ends w e k.known (moving-at w r) v.known.facts h)

-- 0 stands for the stamp of a block that no writer has created
first_setups : Givens
first_setups b t = if t == 0 then Some 0 else None

first-is : (t e : ℕ) → (if t == 0 then Some 0 else None) ≡ Some e → t ≡ 0
first-is t e = if-each (λ (o : Option ℕ). o ≡ Some e → t ≡ 0) (t == 0) (Some 0) None (λ q _. eqb-true t 0 q) (λ _ q. absurd (none-some e q))

first-zero : (t e : ℕ) → (if t == 0 then Some 0 else None) ≡ Some e → e ≡ 0
first-zero t e = if-each (λ (o : Option ℕ). o ≡ Some e → e ≡ 0) (t == 0) (Some 0) None (λ _ q. sym (same_Some 0 e q)) (λ _ q. absurd (none-some e q))

start-joins : (nodes : ℕ) → nodes ≤ MAX_NODES → Joins (start nodes)
unfolding start first_setups
start-joins nodes le = record {
  few = le;
  begun = λ c lt. absurd (omega (arith, lt));
  once = λ c d f k x y e. absurd (none-some _ x.asked.first);
  unmet = λ c f x. absurd (none-some _ x.asked.first);
  stamped = λ b s t e. absurd (apart e);
  members = λ b. refl;
  setups = first_setups;
  fits = λ b. record { is = refl };
  under = λ b t e x. omega (arith, first-is t e x, (start-recorded nodes).first);
  sessions = λ b t e x. sym (first-zero t e x);
  early = λ b t e x. omega (arith, first-zero t e x, (start-recorded nodes).first);
  late = λ b. (start-recorded nodes).first;
  within = λ b t e x. omega (arith, first-zero t e x);
  order = λ b t u e d x y lt. omega (arith, first-zero t e x);
  answered = λ a x. absurd (none-some a x.there);
  acked = λ a x. absurd (none-some a x.there);
  cover = λ a c e f x. absurd (none-some a x.there);
  given = λ c f x. absurd (none-some _ x.first);
  reach = λ c d b f k o x y. absurd (none-some _ x.first);
  single = λ s n l k lt x y. absurd (none-some _ x.there);
}
  where
    apart : {s : Setup} {t : Stamp} → phase.Closed ≡ phase.Stamped s t → ⊥
    apart e = cc

pub all-join : AllJoin
all-join nodes events le = run-joins (start nodes) events (at-start nodes) (start-joins nodes le)
