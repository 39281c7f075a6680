-- What writers' own steps make of what members show.
use Rattle.std.proofs.Common.{◌≡◌, ℕ, ◌<◌, ◌≤◌, ◌+◌, Bool, true, false, List, [], ◌∷◌, length, slice_get, Option, Some, None, IfSome, Result, Ok, Err, refl, sym, ◌∙◌, ap, subst, arith}
use Rattle.std.specs.Prelude.{◌&&◌, not}
use Rattle.hd_base.specs.declared.numbers.NodeId.{NodeId}
use Rattle.hd_base.specs.declared.numbers.Stamp.{Stamp}
use Rattle.hd_base.specs.SumRules.{Rule}
use Rattle.packet_codec.specs.declared.packets.Packet.{Packet}
use Rattle.name_core.specs.declared.records.BlockRecord.{BlockRecord}
use Rattle.name_core.specs.Offices.{record_of}
use Rattle.op_headers.specs.declared.ops.Op.{Op}
use Rattle.op_headers.specs.declared.ops.Op.TheVariants as op
use Rattle.op_headers.specs.Values.{WriteFields}
use Rattle.packet_stream.specs.Streams.{StreamState, written_in}
use Rattle.member_core.specs.declared.requests.SetupKind.{SetupKind}
use Rattle.member_core.specs.Requests.{setup_with}
use Rattle.writer_core.specs.declared.actions.Action.{Action}
use Rattle.writer_core.specs.declared.actions.Action.TheVariants as action
use Rattle.writer_core.specs.declared.actions.ClientAnswer.{ClientAnswer}
use Rattle.writer_core.specs.declared.actions.ClientAnswer.TheVariants as answer
use Rattle.writer_core.specs.declared.commands.Command.{Command}
use Rattle.writer_core.specs.declared.commands.Command.TheVariants as command
use Rattle.writer_core.specs.declared.commands.CommandFault.{CommandFault}
use Rattle.writer_core.specs.declared.intake.Intake.{Intake}
use Rattle.writer_core.specs.declared.phases.Phase.{Phase}
use Rattle.writer_core.specs.declared.phases.Phase.TheVariants as phase
use Rattle.writer_core.specs.declared.phases.Setup.{Setup}
use Rattle.writer_core.specs.declared.phases.Setup.TheVariants as setup
use Rattle.writer_core.specs.declared.phases.Waiting.{Waiting}
use Rattle.writer_core.specs.declared.records.WriterRecord.{WriterRecord}
use Rattle.writer_core.specs.Requests.{min_length, request_for}
use Rattle.writer_core.specs.Commands.{admitted}
use Rattle.writer_core.specs.Transitions.{Step, ordinal, given, given_as, own_step, step_in, dial_step_as, open_step, completed_step, granted, dialled, is_connected}
use Rattle.world.specs.declared.events.TakenCommand.{TakenCommand}
use Rattle.world.specs.Parts.{request, Told, Reaching}
use Rattle.world.specs.Worlds.{World, Change, past_after, apply}
use Rattle.world.specs.Clients.{reached_by, reached_answer, writer_change, did, dialled_change, dialling, rest_in, is_empty, is_formed, ruled, command_bytes, takes_command, writer_step, own_writer}
use Rattle.world.specs.Connections.{sent_on}
use Rattle.world.specs.Parts.{packet}
use Rattle.world_laws.proofs.FactTables.{when-each, and-right}
use Rattle.world_laws.specs.Stamping.{Givens, InPhase, Fits, HeldOf, known_heard, heard}
use Rattle.world_laws.specs.Carrying.{StreamOf, Streams, kind_of}
use Rattle.world_laws.proofs.ByteAsking.{first-dial}
use Rattle.world_laws.proofs.ByteWriting.{Requested, requested}
use Rattle.world_acks.specs.Acking.{Ends, least_of, promised, reach_in, reach_wanted, reach_of, Numbers}
use Rattle.world_acks.proofs.Turning.{Known}
use Rattle.std.proofs.lemmas.Bool.{false≢true}
use Rattle.std.proofs.lemmas.Option.{none-some}
use Rattle.world_writers.specs.Showing.{Asking, asking_in, Starts}
use Rattle.world_writers.specs.Moving.{Reaches}
use Rattle.world_writers.specs.Piping as piping
use Rattle.world_writers.specs.Piping.{setup_stamp}
use Rattle.world_writers.specs.Settling.{MembersSit, AnswerSits}
use Rattle.world_writers.proofs.Reaching.{answers_in, own-step-says}
use Rattle.world_writers.proofs.Keeping.{is_released, keeps-then, ruled-keeps, own-step-keeps, open-keeps, completed-keeps, given-keeps, unanswered-keeps}
use Rattle.world_writers.proofs.Standing.{stand-at, steps-turns, turns-then, ruled-turns, own-step-steps, open-steps, completed-steps, given-steps, unanswered-steps, dialled-is}
use Rattle.world_writers.proofs.Piped.{Piped, Writers, sit-as, conn-sits, Stands, stands-turns, apply-longer, Standing, Stood, turn-stood}

-- THE STREAM OF A SESSION

pub sets-reach : (s : Setup) → 1 ≤ reach_in s
sets-reach setup.Create = omega arith
sets-reach setup.Append = omega arith
sets-reach setup.AppendRecovery = omega arith
sets-reach setup.StreamRecovery = omega arith
sets-reach setup.CloseRecovery = omega arith

wanted-stream : (s : Setup) → 1 ≤ reach_wanted s → (v : List ℕ) (x : StreamState) → Streams v x (phase.Wanted s) → StreamOf v x
wanted-stream setup.Create r v x h = absurd (omega (arith, r))
wanted-stream setup.Append r v x h = absurd (omega (arith, r))
wanted-stream setup.AppendRecovery r v x h = h
wanted-stream setup.StreamRecovery r v x h = h
wanted-stream setup.CloseRecovery r v x h = h

in-stream : (p : Phase) → 1 ≤ reach_of p → (v : List ℕ) (x : StreamState) → Streams v x p → StreamOf v x
in-stream phase.Closed r v x h = absurd (omega (arith, r))
in-stream (phase.Wanted s) r v x h = wanted-stream s r v x h
in-stream (phase.Stamped s t) r v x h = h
in-stream (phase.Requested s t) r v x h = h
in-stream (phase.Accepted s t) r v x h = h
in-stream phase.Opened r v x h = h
in-stream (phase.Streaming sent) r v x h = h
in-stream phase.Closing r v x h = h
in-stream phase.Finished r v x h = h
in-stream phase.Completed r v x h = h
in-stream (phase.Failed f) r v x h = absurd (omega (arith, r))

-- in its session a writer's stream is of the bytes that are written
pub stream-of : (g : Givens) (t : Ends) (w : World) (b : ℕ) (x : WriterRecord) → Known g t w → heard (w.writers b) ≡ x → 1 ≤ reach_of x.phase → StreamOf (w.written (w.latest b)) x.stream
stream-of g t w b x h q r =
    let says = h.facts.carried.writers b in
    let n = subst (λ (z : WriterRecord). Numbers (g b) t (w.latest b) z) q (h.acked.writers b) in
    let s = subst (λ (z : WriterRecord). Streams says.own z.stream z.phase) q says.streams in
    subst (λ (v : List ℕ). StreamOf v x.stream) (says.are (n.known r)) (in-stream x.phase r says.own x.stream s)

-- WHAT IS ANSWERED

-- the members that an action names in an answer have seats of the answered bytes
abbrev pub SitFor : Givens → World → ℕ → Action → Type 0
SitFor g w b a = (i n : ℕ) (s : Stamp) (ms : List NodeId) → a ≡ action.Answered i (answer.Reached n s ms) → (by : Reaching) → AnswerSits g w (record { block = b; command = by; length = n; stamp = s.0; members = ms })

-- an answer that names no members
silent-sit : (g : Givens) (w : World) (b : ℕ) (x : Stamp) (i : ℕ) → SitFor g w b (action.Answered i (answer.Granted x))
silent-sit g w b x i = λ j n s ms e. absurd (cc)

answered-sit : (g : Givens) (w : World) (b i : ℕ) (waits : Option Waiting) (c : ClientAnswer) → SitFor g w b (action.Answered i c) → IfSome (reached_answer b waits c) (AnswerSits g w)
answered-sit g w b i waits (answer.Reached n s ms) h = h i n s ms refl (reached_by waits)
answered-sit g w b i waits (answer.Granted s) h = tt
answered-sit g w b i waits (answer.Abandoned m) h = tt
answered-sit g w b i waits (answer.AllBad m) h = tt
answered-sit g w b i waits (answer.Lost r) h = tt
answered-sit g w b i waits (answer.Refused e) h = tt

-- a writer that answers with a length is in its latest session
pub answers-latest : (f : ℕ → Option ℕ) (l : ℕ) (r : Option Stamp) (c : Stamp) (waits : Option Waiting) (ps : List Packet) (p : Phase) → answers_in p ≡ true → InPhase f l r c waits ps p → f c.0 ≡ Some l
answers-latest f l r c waits ps (phase.Streaming sent) a h = h.0.session.is
answers-latest f l r c waits ps phase.Completed a h = h.session.is
answers-latest f l r c waits ps phase.Closed a h = absurd (false≢true a)
answers-latest f l r c waits ps (phase.Wanted s) a h = absurd (false≢true a)
answers-latest f l r c waits ps (phase.Stamped s t) a h = absurd (false≢true a)
answers-latest f l r c waits ps (phase.Requested s t) a h = absurd (false≢true a)
answers-latest f l r c waits ps (phase.Accepted s t) a h = absurd (false≢true a)
answers-latest f l r c waits ps phase.Opened a h = absurd (false≢true a)
answers-latest f l r c waits ps phase.Closing a h = absurd (false≢true a)
answers-latest f l r c waits ps phase.Finished a h = absurd (false≢true a)
answers-latest f l r c waits ps (phase.Failed e) a h = absurd (false≢true a)

answers-reach : (p : Phase) → answers_in p ≡ true → 1 ≤ reach_of p
answers-reach (phase.Streaming sent) a = omega arith
answers-reach phase.Completed a = omega arith
answers-reach phase.Closed a = absurd (false≢true a)
answers-reach (phase.Wanted s) a = absurd (false≢true a)
answers-reach (phase.Stamped s t) a = absurd (false≢true a)
answers-reach (phase.Requested s t) a = absurd (false≢true a)
answers-reach (phase.Accepted s t) a = absurd (false≢true a)
answers-reach phase.Opened a = absurd (false≢true a)
answers-reach phase.Closing a = absurd (false≢true a)
answers-reach phase.Finished a = absurd (false≢true a)
answers-reach (phase.Failed e) a = absurd (false≢true a)

-- what a writer in its session holds fits its block, which is known
pub in-session : (g : Givens) (t : Ends) (w : World) (b : ℕ) (x : WriterRecord) → Known g t w → heard (w.writers b) ≡ x → 1 ≤ reach_of x.phase → (r : Option Stamp) × Fits (g b) (w.latest b) r x
in-session g t w b x h q reach = go (record_of w.office (record { 0 = b })) (subst (λ (z : WriterRecord). HeldOf (g b) (w.latest b) (record_of w.office (record { 0 = b })) z) q (h.facts.recorded.blocks b))
  where
    known : g b (w.latest b) ≡ Some (w.latest b)
    known = (subst (λ (z : WriterRecord). Numbers (g b) t (w.latest b) z) q (h.acked.writers b)).known reach

    go : (o : Option BlockRecord) → HeldOf (g b) (w.latest b) o x → (r : Option Stamp) × Fits (g b) (w.latest b) r x
    go None e = absurd (none-some (w.latest b) (sym (e.1 (w.latest b)) ∙ known))
    go (Some r) e = (r.recovery, e.writer.fits)

-- the members of a writer that answers with a length
members-sit : (g : Givens) (t : Ends) (w : World) (b : ℕ) (x : WriterRecord) → Writers w → heard (w.writers b) ≡ x → Stands w b (w.latest b) x (w.writers b).conn → answers_in x.phase ≡ true → MembersSit w b x.committed x.members (w.latest b) x.stream.acked
members-sit g t w b x h q st a = go x.phase refl a
  where
    conn-sit : (sent : ℕ) → x.phase ≡ phase.Streaming sent → MembersSit w b x.committed x.members (w.latest b) x.stream.acked
    conn-sit sent e =
        let piped = subst (λ (z : WriterRecord). is_connected z.phase ≡ true → piping.Piped w.past b z (w.writers b).conn) q (h.pipes b) in
        let p = piped (ap is_connected e) in
        let s = subst (λ (o : Option ℕ). IfSome o (Piped w (w.latest b) (asking_in x.phase) x.stream.acked)) p.is st.piped in
        sit-as w b (setup_stamp x.phase x.committed) x.committed x.members x.members (w.latest b) x.stream.acked x.stream.acked (sym (ap (λ (z : Phase). setup_stamp z x.committed) e)) refl (omega arith)
        (conn-sits w b x p.at p.pipeline (subst (λ (i : Asking). Piped w (w.latest b) i x.stream.acked p.at) (ap asking_in e) s))

    go : (p : Phase) → x.phase ≡ p → answers_in p ≡ true → MembersSit w b x.committed x.members (w.latest b) x.stream.acked
    go (phase.Streaming sent) e k = conn-sit sent e
    go phase.Completed e k =
        sit-as w b (setup_stamp x.phase x.committed) x.committed x.members x.members (w.latest b) x.stream.acked x.stream.acked (sym (ap (λ (z : Phase). setup_stamp z x.committed) e)) refl (omega arith) (st.released (ap is_released e))
    go phase.Closed e k = absurd (false≢true k)
    go (phase.Wanted s) e k = absurd (false≢true k)
    go (phase.Stamped s t) e k = absurd (false≢true k)
    go (phase.Requested s t) e k = absurd (false≢true k)
    go (phase.Accepted s t) e k = absurd (false≢true k)
    go phase.Opened e k = absurd (false≢true k)
    go phase.Closing e k = absurd (false≢true k)
    go phase.Finished e k = absurd (false≢true k)
    go (phase.Failed f) e k = absurd (false≢true k)

own-sit : (g : Givens) (t : Ends) (w : World) (b : ℕ) (x : WriterRecord) → Known g t w → Writers w → heard (w.writers b) ≡ x → Stands w b (w.latest b) x (w.writers b).conn → SitFor g w b (own_step x).action
own-sit g t w b x h v q st = λ i n s ms e by.
    let a = (own-step-says x i n s ms e).reaches in
    let r = subst (λ (z : WriterRecord). Reaches z) q (v.reaches b) i n s ms e in
    let fits = in-session g t w b x h q (answers-reach x.phase a) in
    record {
      session = w.latest b;
      given = ap (λ (c : Stamp). g b c.0) r.committed ∙ answers-latest (g b) (w.latest b) fits.0 x.committed x.waiting x.stream.unacked x.phase a fits.1;
      within = omega (arith, r.acked, st.within);
      sit = sit-as w b x.committed s x.members ms (w.latest b) n x.stream.acked r.committed r.pipeline r.acked (members-sit g t w b x v q st a);
    }

-- WHAT WAS DONE

pub did-stood : (g : Givens) (t : Ends) (w : World) (b : ℕ) (waits : Option Waiting) (a : Action) (y : WriterRecord) (bytes : List ℕ) → Stands w b (w.latest b) y (w.writers b).conn → SitFor g w b a → IfSome (did w b waits a y bytes) (Stood g g t w)
did-stood g t w b waits action.Wait y bytes h q = tt
did-stood g t w b waits (action.Ask c) y bytes h q = tt
did-stood g t w b waits (action.Dial to r) y bytes h q = tt
did-stood g t w b waits action.Memory y bytes h q = tt
did-stood g t w b waits action.Took y bytes h q =
    let k : Change = record (writer_change w b y) { session = w.latest b; bytes = bytes } in
    turn-stood g t w b y k (record { at = refl; stamped = refl; writer = refl }) tt h
did-stood g t w b waits (action.Send p) y bytes h q =
    let k : Change = record (writer_change w b y) { downs = sent_on (w.writers b).conn (packet p ∷ []) } in
    turn-stood g t w b y k (record { at = refl; stamped = refl; writer = refl }) tt h
did-stood g t w b waits (action.Answered i c) y bytes h q = turn-stood g t w b y (answers i c) (record { at = refl; stamped = refl; writer = refl }) (answered-sit g w b i waits c q) h
  where
    answers : ℕ → ClientAnswer → Change
    answers i c = record (writer_change w b y) { said = record { ordinal = i; answer = c } ∷ []; answered = reached_answer b waits c }

pub stays-stood : (g : Givens) (t : Ends) (w : World) (b : ℕ) (y : WriterRecord) → Stands w b (w.latest b) y (w.writers b).conn → Stood g g t w (writer_change w b y)
stays-stood g t w b y h = turn-stood g t w b y (writer_change w b y) (record { at = refl; stamped = refl; writer = refl }) tt h

-- DIALS

-- what a request asks for is no less than what is acked
asks-enough : (way : Setup) (s : StreamState) (f : WriteFields) → setup_with f.stage ≡ Some (kind_of way) → f.min ≡ min_length way s → s.acked ≤ written_in s → (way ≡ setup.Create → s.acked ≡ 0) → s.acked ≤ promised f
asks-enough setup.Create s f k m le z = subst (λ (o : Option SetupKind). s.acked ≤ least_of o f.min) (sym k) (omega (arith, z refl))
asks-enough setup.Append s f k m le z = subst (λ (o : Option SetupKind). s.acked ≤ least_of o f.min) (sym k) (subst (λ (n : ℕ). s.acked ≤ n) (sym m) le)
asks-enough setup.AppendRecovery s f k m le z = subst (λ (o : Option SetupKind). s.acked ≤ least_of o f.min) (sym k) (subst (λ (n : ℕ). s.acked ≤ n) (sym m) le)
asks-enough setup.StreamRecovery s f k m le z = subst (λ (o : Option SetupKind). s.acked ≤ least_of o f.min) (sym k) (omega (arith, m))
asks-enough setup.CloseRecovery s f k m le z = subst (λ (o : Option SetupKind). s.acked ≤ least_of o f.min) (sym k) (subst (λ (n : ℕ). s.acked ≤ n) (sym m) le)

-- the first member was dialled, and answered
dialled-stood : (g : Givens) (t : Ends) (w : World) (b : ℕ) (x : WriterRecord) (s : Setup) (stamp : Stamp) (to : NodeId) (r : Op) → Known g t w → heard (w.writers b) ≡ x → x.phase ≡ phase.Stamped s stamp
    → Requested x.block x.committed x.stream s stamp r → Stands w b (w.latest b) x (w.writers b).conn → Stood g g t w (dialled_change w b x to r true)
unfolding apply
dialled-stood g t w b x s stamp to r h q e a st = record {
  others = λ d _. refl;
  own = λ u o f. subst (λ (y : WriterRecord). Stands (apply w k) b (w.latest b) y (Some w.next_conn)) (sym (dialled-is x s stamp e)) (record {
    within = omega (arith, st.within, apply-longer w k (w.latest b));
    starts = tt;
    piped = record { fields = a.fields; known = known; asked = record { first = first }; shows = enough };
    released = λ r. absurd (false≢true r);
  });
  answers = tt;
}
  where
    k : Change
    k = dialled_change w b x to r true

    known : w.next_conn < w.next_conn + 1
    known = omega arith

    plus : w.next_conn + 0 ≡ w.next_conn
    plus = omega arith

    first : slice_get ((past_after w k).downs w.next_conn) 0 ≡ Some (request (op.Write a.fields))
    first = subst (λ (c : ℕ). slice_get ((past_after w k).downs c) 0 ≡ Some (request r)) plus (first-dial g w k 0 _ h.facts (λ _. refl) refl) ∙ ap (λ (z : Op). Some (request z)) a.is

    whole : length (w.written (w.latest b)) ≡ written_in x.stream
    whole = (stream-of g t w b x h q (subst (λ (p : Phase). 1 ≤ reach_of p) (sym e) (sets-reach s))).carries.whole

    begins : s ≡ setup.Create → x.stream.acked ≡ 0
    begins z = subst (λ (way : Setup). Starts (phase.Stamped way stamp) x.stream.acked) z (subst (λ (p : Phase). Starts p x.stream.acked) e st.starts)

    enough : x.stream.acked ≤ promised a.fields
    enough = asks-enough s x.stream a.fields a.kind_is a.least (subst (λ (n : ℕ). x.stream.acked ≤ n) whole st.within) begins

-- a request that a writer is to dial asks for no fewer bytes than are acked at it
pub record Ready (w : World) : Type 0 where
  pub covers : (b : ℕ) (s : Setup) (stamp : Stamp) (f : WriteFields) → (heard (w.writers b)).phase ≡ phase.Stamped s stamp → setup_with f.stage ≡ Some (kind_of s) → f.min ≡ min_length s (heard (w.writers b)).stream
      → (heard (w.writers b)).stream.acked ≤ promised f

pub ready-of : (g : Givens) (t : Ends) (w : World) → Known g t w → Standing g w → Ready w
ready-of g t w h st = record {
  covers = λ b s stamp f e k m.
      let x = heard (w.writers b) in
      let y = st.each b in
      let whole : length (w.written (w.latest b)) ≡ written_in x.stream = (stream-of g t w b x h refl (subst (λ (p : Phase). 1 ≤ reach_of p) (sym e) (sets-reach s))).carries.whole in
      asks-enough s x.stream f k m (subst (λ (n : ℕ). x.stream.acked ≤ n) whole y.within)
      (λ z. subst (λ (way : Setup). Starts (phase.Stamped way stamp) x.stream.acked) z (subst (λ (p : Phase). Starts p x.stream.acked) e y.starts));
}

dials-stood : (g : Givens) (t : Ends) (w : World) (b : ℕ) (x : WriterRecord) (s : Setup) (stamp : Stamp) (to : NodeId) (r : Op) (answered : Bool) → Known g t w → heard (w.writers b) ≡ x → x.phase ≡ phase.Stamped s stamp
    → Requested x.block x.committed x.stream s stamp r → Stands w b (w.latest b) x (w.writers b).conn → Stood g g t w (dialled_change w b x to r answered)
dials-stood g t w b x s stamp to r true h q e a st = dialled-stood g t w b x s stamp to r h q e a st
dials-stood g t w b x s stamp to r false h q e a st =
    stays-stood g t w b (dialled x false) (stands-turns w b (w.latest b) x (dialled x false) (w.writers b).conn (steps-turns x (dialled x false) (unanswered-steps x)) (unanswered-keeps x) st)

dialling-stood : (g : Givens) (t : Ends) (w : World) (b : ℕ) (x : WriterRecord) (s : Setup) (stamp : Stamp) (ms : List NodeId) (answered : Bool) → Known g t w → heard (w.writers b) ≡ x → x.phase ≡ phase.Stamped s stamp
    → Stands w b (w.latest b) x (w.writers b).conn → Stood g g t w (dialling w b x (dial_step_as x s stamp ms).action answered)
dialling-stood g t w b x s stamp [] answered h q e st = stays-stood g t w b x st
dialling-stood g t w b x s stamp (m ∷ ms) answered h q e st =
    dials-stood g t w b x s stamp m (request_for x.block x.committed x.stream s stamp (length x.members) ms) (answered && w.running m.0) h q e (requested x.block x.committed x.stream s stamp (length x.members) ms) st

-- OWN STEPS

completed-own : (x : WriterRecord) → x.phase ≡ phase.Completed → own_step x ≡ completed_step x
unfolding own_step
completed-own x e = ap (λ (p : Phase). step_in x p) e

rest-stood : (p : Phase) (g : Givens) (t : Ends) (w : World) (b : ℕ) (x : WriterRecord) (answered : Bool) → x.phase ≡ p → Known g t w → Writers w → heard (w.writers b) ≡ x → Stands w b (w.latest b) x (w.writers b).conn
    → IfSome (rest_in p w b x answered) (Stood g g t w)
rest-stood phase.Closed g t w b x answered e h v q st = stays-stood g t w b x st
rest-stood (phase.Wanted s) g t w b x answered e h v q st = stays-stood g t w b x st
rest-stood (phase.Stamped s stamp) g t w b x answered e h v q st = dialling-stood g t w b x s stamp x.members answered h q e st
rest-stood (phase.Requested s stamp) g t w b x answered e h v q st = stays-stood g t w b x st
rest-stood (phase.Accepted s stamp) g t w b x answered e h v q st = stays-stood g t w b x st
rest-stood phase.Opened g t w b x answered e h v q st =
    let y = (open_step x).writer in
    did-stood g t w b x.waiting (open_step x).action y [] (stands-turns w b (w.latest b) x y (w.writers b).conn (steps-turns x y (open-steps x (stand-at x phase.Opened e))) (open-keeps x) st) (silent-sit g w b x.committed (ordinal x))
rest-stood (phase.Streaming sent) g t w b x answered e h v q st = stays-stood g t w b x st
rest-stood phase.Closing g t w b x answered e h v q st = stays-stood g t w b x st
rest-stood phase.Finished g t w b x answered e h v q st = stays-stood g t w b x st
rest-stood phase.Completed g t w b x answered e h v q st =
    let y = (completed_step x).writer in
    did-stood g t w b x.waiting (completed_step x).action y [] (stands-turns w b (w.latest b) x y (w.writers b).conn (steps-turns x y (completed-steps x)) (completed-keeps x) st)
    (subst (λ (z : Step). SitFor g w b z.action) (completed-own x e) (own-sit g t w b x h v q st))
rest-stood (phase.Failed f) g t w b x answered e h v q st = stays-stood g t w b x st

-- a command that was taken isn't in the queue, so nothing was answered with a length
pub queue-grows : (x : WriterRecord) (c : Command) (r : Rule) → (given (ruled x c r) c).queue ≡ (given x c).queue
queue-grows x (command.Create members) r = go (admitted x.intake (command.Create members))
  where
    go : (a : Result Intake CommandFault) → (given_as (ruled x (command.Create members) r) (command.Create members) a).queue ≡ (given_as x (command.Create members) a).queue
    go (Ok i) = refl
    go (Err e) = refl
queue-grows x (command.Append members) r = refl
queue-grows x (command.Write bytes) r = refl
queue-grows x (command.Fill count) r = refl
queue-grows x command.Hflush r = refl
queue-grows x command.Hsync r = refl
queue-grows x command.Close r = refl

not-both : (b : Bool) → b ≡ true → not b ≡ true → ⊥
not-both true e f = false≢true f
not-both false e f = false≢true e

taken-sit : (g : Givens) (w : World) (b : ℕ) (x : WriterRecord) (k : TakenCommand) → not (is_empty (given x k.command).queue) ≡ true → is_empty (own_step (given (ruled x k.command k.rule) k.command)).writer.queue ≡ true
    → SitFor g w b (own_step (given (ruled x k.command k.rule) k.command)).action
taken-sit g w b x k full taken = λ i n s ms e by.
    let z = given (ruled x k.command k.rule) k.command in
    let same = (own-step-says z i n s ms e).queue ∙ queue-grows x k.command k.rule in
    absurd (not-both (is_empty (given x k.command).queue) (sym (ap is_empty same) ∙ taken) full)

command-stood : (g : Givens) (t : Ends) (w : World) (b : ℕ) (x : WriterRecord) (k : TakenCommand) → Stands w b (w.latest b) x (w.writers b).conn → IfSome (takes_command w b x k) (Stood g g t w)
command-stood g t w b x k st =
    let y = ruled x k.command k.rule in
    let z = given y k.command in
    let s = own_step z in
    let full = not (is_empty (given x k.command).queue) in
    when-each (Stood g g t w) (is_formed k.command k.rule && full) _
    (λ e. when-each (Stood g g t w) (is_empty s.writer.queue) _
    (λ q. did-stood g t w b y.waiting s.action s.writer (command_bytes y k.command) (stands-turns w b (w.latest b) x s.writer (w.writers b).conn
    (turns-then x y s.writer (ruled-turns x k.command k.rule) (turns-then y z s.writer (steps-turns y z (given-steps y k.command)) (steps-turns z s.writer (own-step-steps z))))
    (keeps-then x y s.writer (ruled-keeps x k.command k.rule) (keeps-then y z s.writer (given-keeps y k.command) (own-step-keeps z))) st)
    (taken-sit g w b x k (and-right (is_formed k.command k.rule) full e) q)))

-- the writer that has heard this
pub stands-told : (g : Givens) (w : World) (b : ℕ) (o : Option Told) → Standing g w → (w.writers b).told ≡ o → Stands w b (w.latest b) (known_heard (w.writers b).known o) (w.writers b).conn
stands-told g w b o h e = subst (λ (z : Option Told). Stands w b (w.latest b) (known_heard (w.writers b).known z) (w.writers b).conn) e (h.each b)

step-stood : (g : Givens) (t : Ends) (w : World) (b : ℕ) (o : Option Told) (takes : Option TakenCommand) (answered : Bool) → Known g t w → Writers w → Standing g w → (w.writers b).told ≡ o
    → IfSome (writer_step w b (w.writers b).known o takes answered) (Stood g g t w)
step-stood g t w b (Some told) None answered h v s e =
    let x = granted (w.writers b).known told in
    rest-stood x.phase g t w b x answered refl h v (ap (λ (o : Option Told). known_heard (w.writers b).known o) e) (stands-told g w b (Some told) s e)
step-stood g t w b (Some told) (Some k) answered h v s e = tt
step-stood g t w b None None answered h v s e =
    let x = (w.writers b).known in
    let y = (own_step x).writer in
    let st = stands-told g w b None s e in
    did-stood g t w b x.waiting (own_step x).action y [] (stands-turns w b (w.latest b) x y (w.writers b).conn (steps-turns x y (own-step-steps x)) (own-step-keeps x) st)
    (own-sit g t w b x h v (ap (λ (o : Option Told). known_heard (w.writers b).known o) e) st)
step-stood g t w b None (Some k) answered h v s e = command-stood g t w b (w.writers b).known k (stands-told g w b None s e)

pub own-writer-stood : (g : Givens) (t : Ends) (w : World) (b : ℕ) (takes : Option TakenCommand) (answered : Bool) → Known g t w → Writers w → Standing g w → IfSome (own_writer w b takes answered) (Stood g g t w)
own-writer-stood g t w b takes answered h v s = step-stood g t w b (w.writers b).told takes answered h v s refl
