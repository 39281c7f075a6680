-- Writers know their pipelines, after every list of events.
use Rattle.std.proofs.Common.{◌≡◌, ℕ, ◌<◌, ◌+◌, ◌-◌, Bool, true, false, List, [], ◌∷◌, ◌++◌, Option, Some, None, IfSome, refl, sym, ◌∙◌, ap, subst, arith}
use Rattle.std.specs.Prelude.{◌&&◌, not, nat_lt, nat_le, is_none, map, length, slice_get, unwrap_or, option_map, if◌then◌else◌}
use Rattle.hd_base.specs.declared.numbers.BlockId.{BlockId}
use Rattle.hd_base.specs.declared.numbers.NodeId.{NodeId}
use Rattle.name_core.specs.declared.calls.OfficeCall.TheVariants as call
use Rattle.name_core.specs.Offices.{office_case}
use Rattle.name_core.specs.Steps.{reply}
use Rattle.op_headers.specs.declared.ops.Op.{Op}
use Rattle.recovery_core.specs.declared.primary.OwnStep.{OwnStep}
use Rattle.recovery_core.specs.declared.primary.OwnStep.TheVariants as lead
use Rattle.recovery_core.specs.Primaries as primary
use Rattle.writer_core.specs.declared.actions.Action.{Action}
use Rattle.writer_core.specs.declared.actions.Action.TheVariants as action
use Rattle.writer_core.specs.declared.phases.Phase.{Phase}
use Rattle.writer_core.specs.declared.phases.Phase.TheVariants as phase
use Rattle.writer_core.specs.declared.phases.Waiting.{Waiting}
use Rattle.writer_core.specs.declared.records.WriterRecord.{WriterRecord}
use Rattle.writer_core.specs.Transitions.{given, own_step, open_step, completed_step, granted, dialled}
use Rattle.world.specs.declared.events.Caller.{Caller}
use Rattle.world.specs.declared.events.Caller.TheVariants as caller
use Rattle.world.specs.declared.events.Delivery.{Delivery}
use Rattle.world.specs.declared.events.Delivery.TheVariants as delivery
use Rattle.world.specs.declared.events.Direction.{Direction}
use Rattle.world.specs.declared.events.Direction.TheVariants as direction
use Rattle.world.specs.declared.events.Event.{Event}
use Rattle.world.specs.declared.events.Event.TheVariants as event
use Rattle.world.specs.declared.events.OwnStep as step
use Rattle.world.specs.declared.events.OwnStep.TheVariants as own
use Rattle.world.specs.declared.events.TakenCommand.{TakenCommand}
use Rattle.world.specs.Parts.{Upper, by_writer, by_member, by_reader, by_primary, Told, Writing, Leading, Primary, no_primary, was_told, leads, has_led}
use Rattle.world.specs.Worlds.{World, Change, apply, start}
use Rattle.world.specs.Connections.{Next, next_down, next_up, down_taken, up_taken, is_served, is_conn, is_alive}
use Rattle.world.specs.Nodes.{lower_down, lower_ready, mirror_up}
use Rattle.world.specs.Clients.{writer_change, did, dialled_change, dialling, rest_in, is_empty, is_formed, ruled, command_bytes, takes_command, writer_step, own_writer, writer_hears, writer_up, own_reader, reader_up}
use Rattle.world.specs.Primaries.{asks_writer, asks_primary, writer_asks, primary_commits, primary_asks, office_event, own_recover, own_primary, primary_up}
use Rattle.world.specs.Restarts.{restart}
use Rattle.world.specs.Events.{changed, own_change, down_as, down_event, ready_event, unless_fails, upper_up, up_as, up_event, fault_event, lost, stop, where_so, outcome, after_event, happens, run}
use Rattle.world_laws.proofs.FactTables.{put-each, when-each, some-weaker, and-right}
use Rattle.world_laws.proofs.SessionAsides.{Aside, lower-down-aside, lower-ready-aside, mirror-up-aside, own-reader-aside, reader-up-aside, own-recover-aside, own-primary-aside, primary-up-aside}
use Rattle.world_laws.specs.Stamping.{known_heard, heard}
use Rattle.world_laws.proofs.AllRecorded.{Reached, reached-next}
use Rattle.world_laws.proofs.StampWalking.{none-is}
use Rattle.world_laws.proofs.AllCarried.{at-start, all-carried}
use Rattle.world_laws.specs.Stamping.{Givens, none_given, given_in}
use Rattle.world_laws.proofs.AllRecorded.{all-recorded}
use Rattle.world_laws.specs.Growing.{Begins, Grows}
use Rattle.world_laws.proofs.GrowthLaws.{apply-grows}
use Rattle.world_laws.proofs.FactTables.{if-each}
use Rattle.std.proofs.lemmas.Bool.Decides.{nat_tests}
use Rattle.std.proofs.lemmas.Bool.{false≢true}
use Rattle.std.proofs.lemmas.Option.{none-some}
use Rattle.hd_base.specs.declared.numbers.Stamp.{Stamp}
use Rattle.node_refs.specs.NodeRefs.{ref_of}
use Rattle.op_headers.specs.declared.ops.Op.TheVariants as op
use Rattle.op_headers.specs.Values.{WriteFields}
use Rattle.packet_stream.specs.Streams.{StreamState}
use Rattle.writer_core.specs.declared.phases.Setup.{Setup}
use Rattle.writer_core.specs.declared.phases.Setup.TheVariants as setup
use Rattle.writer_core.specs.Requests.{request_for}
use Rattle.writer_core.specs.Transitions.{dial_step_as, is_connected}
use Rattle.world.specs.Parts.{Message, request, Dialled}
use Rattle.world.specs.Worlds.{Past, Dial, past_after}
use Rattle.world.specs.Clients.{writing_as, reached_answer}
use Rattle.world.specs.Connections.{sent_on}
use Rattle.world.specs.Parts.{packet}
use Rattle.writer_core.specs.declared.actions.ClientAnswer.{ClientAnswer}
use Rattle.world_laws.specs.Carrying.{AsksFor, Asks}
use Rattle.world_laws.proofs.ByteLeaves.{Facts}
use Rattle.world_laws.proofs.AllCarried.{reached-facts}
use Rattle.world_laws.proofs.ByteAsking.{first-dial}
use Rattle.world_laws.proofs.ByteWriting.{Requested, requested}
use Rattle.world_writers.specs.Piping.{setup_stamp, Creates, IsPipeline, Piped, PipedOf, AllPiped}
use Rattle.world_writers.proofs.Links.{LinksTo, Links, links-then, own-step-links, open-links, opened-runs, completed-links, given-links, ruled-links, hears-links, unanswered-links, dialled-is, granted-links}

-- LATER PASTS

first-more : (xs ys : List Message) (m : Message) → slice_get xs 0 ≡ Some m → slice_get (xs ++ ys) 0 ≡ Some m
first-more [] ys m e = absurd (none-some m e)
first-more (x ∷ xs) ys m e = e

begins-first : (xs ys : List Message) (m : Message) → Begins xs ys → slice_get xs 0 ≡ Some m → slice_get ys 0 ≡ Some m
begins-first xs ys m b e = subst (λ (zs : List Message). slice_get zs 0 ≡ Some m) b.joins (first-more xs b.rest m e)

pipeline-later : (h k : Past) (b : ℕ) (s : Stamp) (ms : List NodeId) (c : ℕ) → Grows h k → IsPipeline h b s ms c → IsPipeline k b s ms c
pipeline-later h k b s ms c g p = record {
  known = omega (arith, p.known, g.conns);
  fields = p.fields;
  asked = begins-first (h.downs c) (k.downs c) (request (op.Write p.fields)) (g.downs c) p.asked;
  block_is = p.block_is;
  stamp_is = p.stamp_is;
  first = p.first;
  others = p.others;
  are = p.are;
  node = ap (λ (d : Dialled). d.to.node) (g.dialled c p.known) ∙ p.node;
  upper = ap (λ (d : Dialled). d.upper) (g.dialled c p.known) ∙ p.upper;
  targets = p.targets;
}

piped-later : (h k : Past) (b : ℕ) (x : WriterRecord) (conn : Option ℕ) → Grows h k → Piped h b x conn → Piped k b x conn
piped-later h k b x conn g p = record { at = p.at; is = p.is; pipeline = pipeline-later h k b (setup_stamp x.phase x.committed) x.members p.at g p.pipeline; creates = p.creates }

piped-to : (h : Past) (b : ℕ) (x y : WriterRecord) (conn : Option ℕ) → LinksTo x y → Piped h b x conn → Piped h b y conn
piped-to h b x y conn l p = record {
  at = p.at;
  is = p.is;
  pipeline = subst (λ (s : Stamp). IsPipeline h b s y.members p.at) (sym (l.stamp p.creates)) (subst (λ (ms : List NodeId). IsPipeline h b (setup_stamp x.phase x.committed) ms p.at) (sym l.members) p.pipeline);
  creates = l.creates p.creates;
}

-- WRITERS

record Piping (w : World) : Type 0 where
  pub each : (b : ℕ) → PipedOf w b

-- the writer of a change
record Linked (w : World) (k : Change) : Type 0 where
  pub is : is_connected (heard k.writer).phase ≡ true → Piped (past_after w k) k.writer_at (heard k.writer) k.writer.conn

abbrev Before : World → ℕ → WriterRecord → Type 0
Before w b x = is_connected x.phase ≡ true → Piped w.past b x (w.writers b).conn

grows-after : (w : World) (k : Change) → Grows w.past (past_after w k)
unfolding apply
grows-after w k = apply-grows w k

turned : (w : World) (k : Change) (b : ℕ) (x y : WriterRecord) → Links x y → Before w b x → is_connected y.phase ≡ true → Piped (past_after w k) b y (if is_connected y.phase then (w.writers b).conn else None)
turned w k b x y l h e =
    let to = l e in
    let p = piped-later w.past (past_after w k) b y (w.writers b).conn (grows-after w k) (piped-to w.past b x y (w.writers b).conn to (h to.connected)) in
    record { at = p.at; is = subst (λ (q : Bool). (if q then (w.writers b).conn else None) ≡ Some p.at) (sym e) p.is; pipeline = p.pipeline; creates = p.creates }

-- the writer of a block comes into a state
record IsTurn (w : World) (b : ℕ) (y : WriterRecord) (k : Change) : Type 0 where
  pub at : k.writer_at ≡ b
  pub writer : k.writer ≡ writing_as y (w.writers b).conn

turn-linked : (w : World) (b : ℕ) (x y : WriterRecord) (k : Change) → IsTurn w b y k → Links x y → Before w b x → Linked w k
turn-linked w b x y k i l h = record {
  is = subst (λ (z : Writing). is_connected (heard z).phase ≡ true → Piped (past_after w k) k.writer_at (heard z) z.conn) (sym i.writer)
      (subst (λ (n : ℕ). is_connected y.phase ≡ true → Piped (past_after w k) n y (if is_connected y.phase then (w.writers b).conn else None)) (sym i.at) (λ e. turned w k b x y l h e));
}

did-linked : (w : World) (b : ℕ) (waits : Option Waiting) (a : Action) (x y : WriterRecord) (bytes : List ℕ) → Links x y → Before w b x → IfSome (did w b waits a y bytes) (Linked w)
did-linked w b waits action.Wait x y bytes l h = tt
did-linked w b waits action.Took x y bytes l h =
    let k : Change = record (writer_change w b y) { session = w.latest b; bytes = bytes } in
    turn-linked w b x y k (record { at = refl; writer = refl }) l h
did-linked w b waits (action.Ask c) x y bytes l h = tt
did-linked w b waits (action.Dial to r) x y bytes l h = tt
did-linked w b waits (action.Send p) x y bytes l h =
    let k : Change = record (writer_change w b y) { downs = sent_on (w.writers b).conn (packet p ∷ []) } in
    turn-linked w b x y k (record { at = refl; writer = refl }) l h
did-linked w b waits (action.Answered i c) x y bytes l h = turn-linked w b x y (answers i c) (record { at = refl; writer = refl }) l h
  where
    answers : ℕ → ClientAnswer → Change
    answers i c = record (writer_change w b y) { said = record { ordinal = i; answer = c } ∷ []; answered = reached_answer b waits c }
did-linked w b waits action.Memory x y bytes l h = tt

change-linked : (w : World) (b : ℕ) (x y : WriterRecord) → Links x y → Before w b x → Linked w (writer_change w b y)
change-linked w b x y l h = turn-linked w b x y (writer_change w b y) (record { at = refl; writer = refl }) l h

stays-linked : (w : World) (b : ℕ) (x : WriterRecord) → Before w b x → Linked w (writer_change w b x)
stays-linked w b x h = change-linked w b x x (λ e. record { connected = e; members = refl; stamp = λ _. refl; creates = λ c. c }) h

-- DIALS

same-write : (a d : WriteFields) → op.Write a ≡ op.Write d → a ≡ d
same-write a d e = cc

pub request-targets : (b : BlockId) (c : Stamp) (s : StreamState) (way : Setup) (stamp : Stamp) (n : ℕ) (ts : List NodeId) (f : WriteFields) → request_for b c s way stamp n ts ≡ op.Write f → f.targets ≡ map ref_of ts
unfolding request_for
request-targets b c s way stamp n ts f e = sym (ap (λ (d : WriteFields). d.targets) (same-write _ f e))

zero-sub : (n : ℕ) → 0 ≡ n - n
zero-sub n = omega arith

self-below : (n : ℕ) → nat_le n n ≡ false → ⊥
self-below n e = grind (arith, nat_tests, e)

new-dialled : (w : World) (k : Change) (d : Dial) → k.dials ≡ d ∷ [] → (past_after w k).dialled w.next_conn ≡ d.dialled
new-dialled w k d e =
    let n = w.next_conn in
    subst (λ (ds : List Dial). unwrap_or (option_map (λ (z : Dial). z.dialled) (if nat_le n n then slice_get ds (n - n) else None)) (w.dialled n) ≡ d.dialled) (sym e)
    (if-each (λ (o : Option Dial). unwrap_or (option_map (λ (z : Dial). z.dialled) o) (w.dialled n) ≡ d.dialled) (nat_le n n) (slice_get (d ∷ []) (n - n)) None
    (λ _. subst (λ (j : ℕ). unwrap_or (option_map (λ (z : Dial). z.dialled) (slice_get (d ∷ []) j)) (w.dialled n) ≡ d.dialled) (zero-sub n) refl) (λ f. absurd (self-below n f)))

-- what is known of a world that some events lead to
record Known (w : World) : Type 0 where
  pub givens : Givens
  pub facts : Facts givens w

known-at : (w : World) → Reached w → Known w
known-at w r =
    subst (λ (v : World). Known v) r.is (record {
      givens = given_in none_given (start r.nodes) r.events;
      facts = reached-facts (given_in none_given (start r.nodes) r.events) (run (start r.nodes) r.events) (record { nodes = r.nodes; events = r.events; is = refl }) (all-recorded r.nodes r.events) (all-carried r.nodes r.events);
    })

begun-creates : (s : Setup) (t c : Stamp) → (s ≡ setup.Create → c ≡ t) → Creates (phase.Requested s t) c
begun-creates setup.Create t c h = h refl
begun-creates setup.Append t c h = tt
begun-creates setup.AppendRecovery t c h = tt
begun-creates setup.StreamRecovery t c h = tt
begun-creates setup.CloseRecovery t c h = tt

dialled-linked : (w : World) (b : ℕ) (x : WriterRecord) (s : Setup) (stamp : Stamp) (m : NodeId) (ms : List NodeId) → Known w → heard (w.writers b) ≡ x → x.phase ≡ phase.Stamped s stamp → x.members ≡ m ∷ ms
    → Linked w (dialled_change w b x m (request_for x.block x.committed x.stream s stamp (length x.members) ms) true)
dialled-linked w b x s stamp m ms h q e mem = record {
  is = λ _. subst (λ (y : WriterRecord). Piped (past_after w k) b y (Some w.next_conn)) (sym (dialled-is x s stamp e)) (record {
    at = w.next_conn;
    is = refl;
    pipeline = record {
      known = known;
      fields = r.fields;
      asked = first;
      block_is = ap (λ (i : BlockId). i.0) (r.block ∙ block);
      stamp_is = r.new created;
      first = m;
      others = ms;
      are = mem;
      node = ap (λ (d : Dialled). d.to.node) (new-dialled w k _ refl);
      upper = ap (λ (d : Dialled). d.upper) (new-dialled w k _ refl);
      targets = request-targets x.block x.committed x.stream s stamp (length x.members) ms r.fields r.is;
    };
    creates = begun-creates s stamp x.committed created;
  });
}
  where
    o : Op
    o = request_for x.block x.committed x.stream s stamp (length x.members) ms

    k : Change
    k = dialled_change w b x m o true

    r : Requested x.block x.committed x.stream s stamp o
    r = requested x.block x.committed x.stream s stamp (length x.members) ms

    known : w.next_conn < w.next_conn + 1
    known = omega arith

    plus : w.next_conn + 0 ≡ w.next_conn
    plus = omega arith

    first : slice_get ((past_after w k).downs w.next_conn) 0 ≡ Some (request (op.Write r.fields))
    first = subst (λ (c : ℕ). slice_get ((past_after w k).downs c) 0 ≡ Some (request o)) plus (first-dial h.givens w k 0 _ h.facts (λ _. refl) refl) ∙ ap (λ (z : Op). Some (request z)) r.is

    block : x.block ≡ record { 0 = b }
    block = subst (λ (z : WriterRecord). z.block ≡ record { 0 = b }) q (h.facts.recorded.writers b)

    asks : Asks (h.givens b) w.past (w.latest b) x.committed x.stream x.phase
    asks = subst (λ (z : WriterRecord). Asks (h.givens b) w.past (w.latest b) z.committed z.stream z.phase) q (h.facts.carried.writers b).asks

    asked : AsksFor (h.givens b) w.past (w.latest b) x.committed x.stream s stamp
    asked = subst (λ (p : Phase). Asks (h.givens b) w.past (w.latest b) x.committed x.stream p) e asks

    created : s ≡ setup.Create → x.committed ≡ stamp
    created = asked.created

dials-linked : (w : World) (b : ℕ) (x : WriterRecord) (s : Setup) (stamp : Stamp) (m : NodeId) (ms : List NodeId) (answered : Bool) → Known w → heard (w.writers b) ≡ x → x.phase ≡ phase.Stamped s stamp → x.members ≡ m ∷ ms → Before w b x
    → Linked w (dialled_change w b x m (request_for x.block x.committed x.stream s stamp (length x.members) ms) answered)
dials-linked w b x s stamp m ms true h q e mem p = dialled-linked w b x s stamp m ms h q e mem
dials-linked w b x s stamp m ms false h q e mem p = change-linked w b x (dialled x false) (unanswered-links x) p

dialling-linked : (w : World) (b : ℕ) (x : WriterRecord) (s : Setup) (stamp : Stamp) (ms : List NodeId) (answered : Bool) → Known w → heard (w.writers b) ≡ x → x.phase ≡ phase.Stamped s stamp → x.members ≡ ms → Before w b x
    → Linked w (dialling w b x (dial_step_as x s stamp ms).action answered)
dialling-linked w b x s stamp [] answered h q e mem p = stays-linked w b x p
dialling-linked w b x s stamp (m ∷ ms) answered h q e mem p = dials-linked w b x s stamp m ms (answered && w.running m.0) h q e mem p

-- OWN STEPS

rest-linked : (p : Phase) (w : World) (b : ℕ) (x : WriterRecord) (answered : Bool) → x.phase ≡ p → Known w → heard (w.writers b) ≡ x → Before w b x → IfSome (rest_in p w b x answered) (Linked w)
rest-linked phase.Closed w b x answered e h q p = stays-linked w b x p
rest-linked (phase.Wanted s) w b x answered e h q p = stays-linked w b x p
rest-linked (phase.Stamped s stamp) w b x answered e h q p = dialling-linked w b x s stamp x.members answered h q e refl p
rest-linked (phase.Requested s stamp) w b x answered e h q p = stays-linked w b x p
rest-linked (phase.Accepted s stamp) w b x answered e h q p = stays-linked w b x p
rest-linked phase.Opened w b x answered e h q p = did-linked w b x.waiting (open_step x).action x (open_step x).writer [] (open-links x (opened-runs x e)) p
rest-linked (phase.Streaming sent) w b x answered e h q p = stays-linked w b x p
rest-linked phase.Closing w b x answered e h q p = stays-linked w b x p
rest-linked phase.Finished w b x answered e h q p = stays-linked w b x p
rest-linked phase.Completed w b x answered e h q p = did-linked w b x.waiting (completed_step x).action x (completed_step x).writer [] (completed-links x) p
rest-linked (phase.Failed f) w b x answered e h q p = stays-linked w b x p

command-linked : (w : World) (b : ℕ) (x : WriterRecord) (k : TakenCommand) → Before w b x → IfSome (takes_command w b x k) (Linked w)
command-linked w b x k p =
    let y = ruled x k.command k.rule in
    let z = given y k.command in
    let s = own_step z in
    when-each (Linked w) (is_formed k.command k.rule && not (is_empty (given x k.command).queue)) _ (λ _. when-each (Linked w) (is_empty s.writer.queue) _
    (λ _. did-linked w b y.waiting s.action x s.writer (command_bytes y k.command)
    (links-then x y s.writer (ruled-links x k.command k.rule) (links-then y z s.writer (given-links y k.command) (own-step-links z))) p))

-- the writer that has heard this
told-before : (w : World) (b : ℕ) (o : Option Told) → Piping w → (w.writers b).told ≡ o → Before w b (known_heard (w.writers b).known o)
told-before w b o h e = subst (λ (z : Option Told). Before w b (known_heard (w.writers b).known z)) e (h.each b)

step-linked : (w : World) (b : ℕ) (o : Option Told) (takes : Option TakenCommand) (answered : Bool) → Reached w → Piping w → (w.writers b).told ≡ o → IfSome (writer_step w b (w.writers b).known o takes answered) (Linked w)
step-linked w b (Some told) None answered r h e =
    let x = granted (w.writers b).known told in
    rest-linked x.phase w b x answered refl (known-at w r) (ap (λ (o : Option Told). known_heard (w.writers b).known o) e) (told-before w b (Some told) h e)
step-linked w b (Some told) (Some k) answered r h e = tt
step-linked w b None None answered r h e =
    let x = (w.writers b).known in did-linked w b x.waiting (own_step x).action x (own_step x).writer [] (own-step-links x) (told-before w b None h e)
step-linked w b None (Some k) answered r h e = command-linked w b (w.writers b).known k (told-before w b None h e)

writer-up-linked : (w : World) (b c : ℕ) (x : Next) → Piping w → IfSome (writer_up w b c x) (Linked w)
writer-up-linked w b c x h =
    let y = (w.writers b).known in
    when-each (Linked w) (is_conn (w.writers b).conn c && is_none (w.writers b).told) _
    (λ e. change-linked w b y (writer_hears y x) (hears-links y x) (told-before w b None h (none-is (w.writers b).told (and-right (is_conn (w.writers b).conn c) (is_none (w.writers b).told) e))))

same-linked : (w : World) (k : Change) → Piping w → k.writer ≡ w.writers k.writer_at → Linked w k
same-linked w k h e = record {
  is = subst (λ (z : Writing). is_connected (heard z).phase ≡ true → Piped (past_after w k) k.writer_at (heard z) z.conn) (sym e)
      (λ c. piped-later w.past (past_after w k) k.writer_at (heard (w.writers k.writer_at)) (w.writers k.writer_at).conn (grows-after w k) (h.each k.writer_at c));
}

asides-linked : (w : World) (o : Option Change) → Piping w → IfSome o (Aside w) → IfSome o (Linked w)
asides-linked w o h a = some-weaker (Aside w) (Linked w) o (λ k z. same-linked w k h z.writer) a

-- THE OFFICE

asks-linked : (a : Action) (w : World) (b : ℕ) → Piping w → (w.writers b).told ≡ None → IfSome (writer_asks a w b) (Linked w)
asks-linked action.Wait w b h e = tt
asks-linked action.Took w b h e = tt
asks-linked (action.Ask c) w b h e = record {
  is = λ z.
      let x = (w.writers b).known in
      let k = asks_writer w b c in
      let l = granted-links x (reply (office_case w.office c)) z in
      piped-later w.past (past_after w k) b (heard k.writer) (w.writers b).conn (grows-after w k) (piped-to w.past b x (heard k.writer) (w.writers b).conn l (told-before w b None h e l.connected));
}
asks-linked (action.Dial to r) w b h e = tt
asks-linked (action.Send p) w b h e = tt
asks-linked (action.Answered n a) w b h e = tt
asks-linked action.Memory w b h e = tt

commits-linked : (s : OwnStep) (w : World) (i : ℕ) (l : Leading) → Piping w → IfSome (primary_commits s w i l) (Linked w)
commits-linked lead.Waits w i l h = tt
commits-linked (lead.Updates c) w i l h = tt
commits-linked (lead.Commits c) w i l h = same-linked w (asks_primary w i (primary.sync_call l.state c) (λ told. leads (record l { told = Some told }))) h refl
commits-linked (lead.Ends r) w i l h = tt

primary-linked : (p : Primary) (w : World) (i : ℕ) (b : BlockId) → Piping w → IfSome (primary_asks p w i b) (Linked w)
primary-linked no_primary w i b h = same-linked w (asks_primary w i (call.BeginRecovery b) (was_told b)) h refl
primary-linked (was_told c told) w i b h = tt
primary-linked (leads l) w i b h = when-each (Linked w) (is_alive w l.at && is_none l.told) _ (λ _. commits-linked (primary.own_step l.state).does w i l h)
primary-linked (has_led r) w i b h = tt

office-linked : (w : World) (c : Caller) → Piping w → IfSome (office_event w c) (Linked w)
office-linked w (caller.Writer b) h = when-each (Linked w) (is_none (w.writers b.0).told) _ (λ e. asks-linked (own_step (w.writers b.0).known).action w b.0 h (none-is (w.writers b.0).told e))
office-linked w (caller.Primary i b) h = primary-linked (w.primaries i) w i b h

-- EVENTS

changed-piping : (w : World) (o : Option Change) → Piping w → IfSome o (Linked w) → IfSome (changed w o) Piping
unfolding apply
changed-piping w None h m = tt
changed-piping w (Some k) h m = record {
  each = put-each (λ (b : ℕ) (z : Writing). is_connected (heard z).phase ≡ true → Piped (past_after w k) b (heard z) z.conn) w.writers k.writer_at k.writer m.is
      (λ b e. piped-later w.past (past_after w k) b (heard (w.writers b)) (w.writers b).conn (apply-grows w k) (h.each b e));
}

unless-linked : (w : World) (fails : Bool) (o : Option Change) → IfSome o (Linked w) → IfSome (unless_fails fails o) (Linked w)
unless-linked w true o h = tt
unless-linked w false o h = h

upper-linked : (u : Upper) (w : World) (c : ℕ) (x : Next) (fails : Bool) → Piping w → IfSome (upper_up u w c x fails) (Linked w)
upper-linked (by_writer b) w c x fails h = unless-linked w fails (writer_up w b c x) (writer-up-linked w b c x h)
upper-linked (by_member d) w c x fails h = asides-linked w (mirror_up (w.lowers d) w d x fails) h (mirror-up-aside (w.lowers d) w d x fails)
upper-linked (by_reader i) w c x fails h = unless-linked w fails (reader_up w i c x) (asides-linked w (reader_up w i c x) h (reader-up-aside w i c x))
upper-linked (by_primary i p) w c x fails h = unless-linked w fails (primary_up w i p c x) (asides-linked w (primary_up w i p c x) h (primary-up-aside w i p c x))

down-taken-piping : (w : World) (c : ℕ) (x : Next) → Piping w → Piping (down_taken w c x)
unfolding down_taken
down-taken-piping w c x h = record { each = h.each }

up-taken-piping : (w : World) (c : ℕ) (x : Next) → Piping w → Piping (up_taken w c x)
unfolding up_taken
up-taken-piping w c x h = record { each = h.each }

down-as-piping : (w : World) (c : ℕ) (answered fails : Bool) (o : Option Next) → Piping w → IfSome (down_as w c answered fails o) Piping
down-as-piping w c answered fails None h = tt
down-as-piping w c answered fails (Some x) h =
    let v = down_taken w c x in
    let k = lower_down (w.lowers c) v c x answered fails in
    changed-piping v k (down-taken-piping w c x h) (asides-linked v k (down-taken-piping w c x h) (lower-down-aside (w.lowers c) v c x answered fails))

down-piping : (w : World) (c : ℕ) (answered fails : Bool) → Piping w → IfSome (down_event w c answered fails) Piping
down-piping w c answered fails h = when-each Piping (is_served w c) _ (λ _. down-as-piping w c answered fails (next_down w c) h)

ready-piping : (w : World) (c : ℕ) (fails : Bool) → Piping w → IfSome (ready_event w c fails) Piping
ready-piping w c fails h =
    let k = lower_ready (w.lowers c) w c fails in
    when-each Piping (is_served w c) _ (λ _. changed-piping w k h (asides-linked w k h (lower-ready-aside (w.lowers c) w c fails)))

up-as-piping : (w : World) (c : ℕ) (fails : Bool) (o : Option Next) → Piping w → IfSome (up_as w c fails o) Piping
up-as-piping w c fails None h = tt
up-as-piping w c fails (Some x) h =
    let v = up_taken w c x in
    changed-piping v (upper_up (w.dialled c).upper v c x fails) (up-taken-piping w c x h) (upper-linked (w.dialled c).upper v c x fails (up-taken-piping w c x h))

up-piping : (w : World) (c : ℕ) (fails : Bool) → Piping w → IfSome (up_event w c fails) Piping
up-piping w c fails h = when-each Piping (nat_lt c w.next_conn) _ (λ _. up-as-piping w c fails (next_up w c) h)

fault-piping : (w : World) (d : Delivery) → Piping w → IfSome (fault_event w d) Piping
fault-piping w (delivery.Down c) h = down-piping w c.0 false true h
fault-piping w (delivery.Ready c) h = ready-piping w c.0 true h
fault-piping w (delivery.Up c) h = up-piping w c.0 true h

own-piping : (w : World) (s : step.OwnStep) → Reached w → Piping w → IfSome (changed w (own_change w s)) Piping
own-piping w (own.Writer b takes answered) r h = changed-piping w (own_writer w b.0 takes answered) h (step-linked w b.0 (w.writers b.0).told takes answered r h refl)
own-piping w (own.Reader i n x answered) r h = changed-piping w (own_reader w i n.0 x answered) h (asides-linked w (own_reader w i n.0 x answered) h (own-reader-aside w i n.0 x answered))
own-piping w (own.Recover i n b members answers) r h = changed-piping w (own_recover w i n.0 b members answers) h (asides-linked w (own_recover w i n.0 b members answers) h (own-recover-aside w i n.0 b members answers))
own-piping w (own.Primary i) r h = changed-piping w (own_primary w i) h (asides-linked w (own_primary w i) h (own-primary-aside w i))

where-piping : (test : Bool) (v : World) → Piping v → IfSome (where_so test v) Piping
where-piping true v h = h
where-piping false v h = tt

lost-piping : (w : World) (c : ℕ) (way : Direction) (more : ℕ) → Piping w → Piping (lost w c way more)
lost-piping w c direction.Down more h = record { each = h.each }
lost-piping w c direction.Up more h = record { each = h.each }

outcome-piping : (w : World) (e : Event) → Reached w → Piping w → IfSome (outcome w e) Piping
unfolding outcome restart
outcome-piping w (event.Own s) r h = own-piping w s r h
outcome-piping w (event.Office c) r h = changed-piping w (office_event w c) h (office-linked w c h)
outcome-piping w (event.Down c answered) r h = down-piping w c.0 answered false h
outcome-piping w (event.Ready c) r h = ready-piping w c.0 false h
outcome-piping w (event.Up c) r h = up-piping w c.0 false h
outcome-piping w (event.Lost c way more) r h = where-piping (nat_lt c.0 w.next_conn) (lost w c.0 way more) (lost-piping w c.0 way more h)
outcome-piping w (event.Fault d) r h = fault-piping w d h
outcome-piping w (event.Stop n) r h = where-piping (w.running n.0) (stop w n.0) (record { each = h.each })
outcome-piping w (event.Restart n list) r h = where-piping (nat_lt n.0 w.nodes && not (w.running n.0)) (restart w n.0 list) (record { each = h.each })

after-piping : (w : World) (e : Event) (o : Option World) → Piping w → IfSome o Piping → Piping (after_event w e o)
after-piping w e None h k = h
after-piping w e (Some v) h k = record { each = k.each }

happens-piping : (w : World) (e : Event) → Reached w → Piping w → Piping (happens w e)
unfolding happens
happens-piping w e r h = after-piping w e (outcome w e) h (outcome-piping w e r h)

run-piping : (w : World) (events : List Event) → Reached w → Piping w → Piping (run w events)
run-piping w [] r h = h
run-piping w (e ∷ events) r h = run-piping (happens w e) events (reached-next w e r) (happens-piping w e r h)

start-piping : (nodes : ℕ) → Piping (start nodes)
unfolding start
start-piping nodes = record { each = λ b e. absurd (false≢true e) }

pub all-piped : AllPiped
all-piped nodes events b = (run-piping (start nodes) events (at-start nodes) (start-piping nodes)).each b
