-- The steps of writers, as waits for the packet of an hsync see them.
use Rattle.std.proofs.Common.{◌≡◌, ℕ, ◌⊎◌, inl, inr, Bool, true, false, List, [], ◌∷◌, ◌++◌, length, Option, Some, None, IfSome, Result, Ok, Err, refl, sym, ap, subst, ◌∙◌, arith}
use Rattle.std.specs.Prelude.{◌&&◌, is_none, not}
use Rattle.std.proofs.lemmas.Bool.{false≢true}
use Rattle.std.proofs.lemmas.Option.{none-some}
use Rattle.hd_base.specs.declared.numbers.BlockId.{BlockId}
use Rattle.hd_base.specs.declared.numbers.NodeId.{NodeId}
use Rattle.hd_base.specs.declared.numbers.Stamp.{Stamp}
use Rattle.hd_base.specs.SumRules.{Rule}
use Rattle.ack_codec.specs.declared.acks.Ack.{Ack}
use Rattle.op_headers.specs.declared.ops.Op.{Op}
use Rattle.op_headers.specs.declared.ops.Op.TheVariants as op
use Rattle.op_headers.specs.Values.{WriteFields}
use Rattle.packet_codec.specs.declared.packets.Packet.{Packet}
use Rattle.packet_stream.specs.Streams.{begun}
use Rattle.writer_core.specs.declared.actions.Action.{Action}
use Rattle.writer_core.specs.declared.actions.Action.TheVariants as action
use Rattle.writer_core.specs.declared.actions.ClientAnswer.{ClientAnswer}
use Rattle.writer_core.specs.declared.actions.ClientAnswer.TheVariants as answer
use Rattle.writer_core.specs.declared.commands.Command.{Command}
use Rattle.writer_core.specs.declared.commands.Command.TheVariants as command
use Rattle.writer_core.specs.declared.commands.CommandFault.{CommandFault}
use Rattle.writer_core.specs.declared.intake.Intake.{Intake}
use Rattle.writer_core.specs.declared.phases.Phase.{Phase}
use Rattle.writer_core.specs.declared.phases.Phase.TheVariants as phase
use Rattle.writer_core.specs.declared.phases.Setup.{Setup}
use Rattle.writer_core.specs.declared.phases.Waiting.{Waiting}
use Rattle.writer_core.specs.declared.phases.Waiting.TheVariants as waiting
use Rattle.writer_core.specs.declared.records.WriterRecord.{WriterRecord}
use Rattle.writer_core.specs.Commands.{admitted}
use Rattle.writer_core.specs.Requests.{request_for}
use Rattle.writer_core.specs.Sound.{Sound}
use Rattle.writer_core.specs.Transitions.{given, given_as, own_step, open_step, completed_step, dial_step_as, granted, dialled, acked, ended, setup_answered}
use Rattle.writer_core.proofs.SoundLemmas.{given_sound}
use Rattle.world.specs.declared.events.TakenCommand.{TakenCommand}
use Rattle.world.specs.Parts.{request, packet, ack, response, read_status, recovery_answer, Told, by_hflush, by_hsync, by_close, Answered}
use Rattle.world.specs.Worlds.{World, Change, apply}
use Rattle.world.specs.Connections.{Next, message, the_end, is_conn, sent_on}
use Rattle.world.specs.Clients.{reached_by, reached_answer, writer_change, did, dialled_change, dialling, rest_in, is_empty, is_formed, ruled, command_bytes, takes_command, writer_step, own_writer, named_member, writer_hears, writer_up}
use Rattle.world_laws.proofs.FactTables.{when-each, some-weaker, and-left, and-right}
use Rattle.world_laws.proofs.ByteFrame.{Each, each-one}
use Rattle.world_laws.proofs.ByteLeaves.{sent-if}
use Rattle.world_laws.proofs.ByteWriting.{Requested, requested}
use Rattle.world_laws.proofs.StampWalking.{none-is}
use Rattle.world_laws.specs.Stamping.{Givens, known_heard, heard}
use Rattle.world_laws.specs.Carrying.{ConnSays}
use Rattle.world_finals.specs.Finishing.{WriterEnds, is_closing}
use Rattle.world_acks.specs.Acking.{Ends, reach_of, Numbers}
use Rattle.world_acks.proofs.Moves.{hears-follows, IsUnsent, own-step-out}
use Rattle.world_writers.proofs.Hearing.{conn-is}
use Rattle.world_writers.proofs.Reaching.{own-step-says}
use Rattle.world_writers.proofs.Stepping.{queue-grows}
use Rattle.world_syncs.specs.Histories.{Histories}
use Rattle.world_syncs.proofs.Turning.{HeardSyncs, UpSyncs}
use Rattle.world_syncs.proofs.Writers.{WaitedOf, given-waited, WaitsSync, KeepsWait, keeps-itself, AcksWait, GoesWait, given-goes, open-wait, completed-wait, own-step-wait, ended-wait, setup-wait, acked-wait, missed-wait, oldest-asked, asked_stamp}
use Rattle.world_syncs.proofs.Waiting.{WriterWaits, NoneSent, AnswerSyncs, answer-on}
use Rattle.world_syncs.proofs.Changes.{NewDown, NewDial}
use Rattle.world_syncs.proofs.Stepping.{Around, Leads, NoPacket, NoFields, Just, IsOwn, own-leads, keeps-own, keeps-unsent, not-asked, asked-reach, resends-own, forms-own}
use Rattle.world_syncs.proofs.Acking.{acks-own}
use Rattle.world_syncs.proofs.Answering.{answer-syncs, Asks, dial-leads, none-sent}

-- A WRITER THAT GOES ON

-- what an answer says
abbrev Sits : Histories → World → ℕ → Option Waiting → ClientAnswer → Type 0
Sits h w b waits c = IfSome (reached_answer b waits c) (λ (r : Answered). r.command ≡ by_hsync → AnswerSyncs h w r)

waits-at : (g : Givens) (t : Ends) (h : Histories) (w : World) (b : ℕ) (x : WriterRecord) → Around g t h w → heard (w.writers b) ≡ x → WriterWaits g h w b (w.latest b) x
waits-at g t h w b x a e = subst (λ (z : WriterRecord). WriterWaits g h w b (w.latest b) z) e (a.waits.writers b)

none-at : (g : Givens) (t : Ends) (h : Histories) (w : World) (b : ℕ) (x : WriterRecord) → Around g t h w → heard (w.writers b) ≡ x → NoneSent w x
none-at g t h w b x a e = subst (λ (z : WriterRecord). NoneSent w z) e (a.waits.unsent b)

-- a change of a writer by which nothing is sent
quiet-own : (g : Givens) (t : Ends) (h : Histories) (w : World) (b : ℕ) (x y : WriterRecord) (k : Change) → Around g t h w → heard (w.writers b) ≡ x → KeepsWait x y → IsOwn g w b y k NoPacket NoFields → IfSome k.answered (λ (r : Answered). r.command ≡ by_hsync → AnswerSyncs h w r) → Leads g g t h h w k
unfolding apply
quiet-own g t h w b x y k a e keeps own sits =
    own-leads g t h h w b y k NoPacket NoFields a own (λ fr. keeps-own g t h h w (apply w k) b x y fr keeps.same (waits-at g t h w b x a e)) (λ fr. keeps-unsent g t h h w (apply w k) x y fr keeps.asked (none-at g t h w b x a e))
    (λ later r q c. answer-on h h w (apply w k) r later refl (at r q c))
  where
    at : (r : Answered) → k.answered ≡ Some r → r.command ≡ by_hsync → AnswerSyncs h w r
    at r q = subst (λ (o : Option Answered). IfSome o (λ (z : Answered). z.command ≡ by_hsync → AnswerSyncs h w z)) q sits

stays-leads : (g : Givens) (t : Ends) (h : Histories) (w : World) (b : ℕ) (x y : WriterRecord) → Around g t h w → heard (w.writers b) ≡ x → KeepsWait x y → Leads g g t h h w (writer_change w b y)
stays-leads g t h w b x y a e k = quiet-own g t h w b x y (writer_change w b y) a e k (record { at = refl; heard_is = refl; stamped = refl; joined = refl; sent = none-sent w (writer_change w b y) (λ _. refl) refl; packets = λ p s new. absurd new; fields = λ f new. absurd new }) tt

-- a packet goes down the writer's connection
abbrev Sending : World → ℕ → Packet → WriterRecord → Change
Sending w b p y = record (writer_change w b y) { downs = sent_on (w.writers b).conn (packet p ∷ []) }

sends-own : (g : Givens) (t : Ends) (h : Histories) (w : World) (b : ℕ) (p : Packet) (y : WriterRecord) → Around g t h w → IsOwn g w b y (Sending w b p y) (Just g w b p) NoFields
sends-own g t h w b p y a = record {
  at = refl;
  heard_is = refl;
  stamped = refl;
  joined = refl;
  sent = record {
    downs = sent-if (NewDown w.past (Just g w b p)) (w.writers b).conn (packet p ∷ [])
        (some-weaker (ConnSays g w.past b (w.latest b)) (λ c. Each (NewDown w.past (Just g w b p) c) (packet p ∷ [])) (w.writers b).conn
        (λ c says. each-one (NewDown w.past (Just g w b p) c) (packet p) (inr (says.stamp, says.sets, (refl, says.given)))) (a.known.facts.carried.writers b).conn);
    dials = λ i d z. absurd (none-some d z);
  };
  packets = λ d s new. new.1;
  fields = λ f new. absurd new;
}

did-leads : (g : Givens) (t : Ends) (h : Histories) (w : World) (b : ℕ) (waits : Option Waiting) (x : WriterRecord) (c : Action) (y : WriterRecord) (bytes : List ℕ) → Around g t h w → heard (w.writers b) ≡ x → GoesWait x c y → ((i : ℕ) (r : ClientAnswer) → c ≡ action.Answered i r → Sits h w b waits r)
    → IfSome (did w b waits c y bytes) (Leads g g t h h w)
did-leads g t h w b waits x action.Wait y bytes a e k sits = tt
did-leads g t h w b waits x (action.Ask q) y bytes a e k sits = tt
did-leads g t h w b waits x (action.Dial to r) y bytes a e k sits = tt
did-leads g t h w b waits x action.Memory y bytes a e k sits = tt
did-leads g t h w b waits x action.Took y bytes a e k sits =
    let c : Change = record (writer_change w b y) { session = w.latest b; bytes = bytes } in
    quiet-own g t h w b x y c a e k (record { at = refl; heard_is = refl; stamped = refl; joined = refl; sent = none-sent w c (λ _. refl) refl; packets = λ p s new. absurd new; fields = λ f new. absurd new }) tt
did-leads g t h w b waits x (action.Send p) y bytes a e (inl k) sits =
    own-leads g t h h w b y (Sending w b p y) (Just g w b p) NoFields a (sends-own g t h w b p y a) (λ fr. resends-own g t h h w (apply w (Sending w b p y)) b x y p fr k (waits-at g t h w b x a e)) (λ fr. not-asked (apply w (Sending w b p y)) y k.asked) (λ later r q. absurd (none-some r q))
did-leads g t h w b waits x (action.Send p) y bytes a e (inr k) sits =
    own-leads g t h h w b y (Sending w b p y) (Just g w b p) NoFields a (sends-own g t h w b p y a)
    (λ fr. forms-own g t h h w (apply w (Sending w b p y)) b x y p fr (subst (λ (z : WriterRecord). Numbers (g b) t (w.latest b) z) e (a.known.acked.writers b)) k (waits-at g t h w b x a e)) (λ fr. not-asked (apply w (Sending w b p y)) y k.asked) (λ later r q. absurd (none-some r q))
did-leads g t h w b waits x (action.Answered i r) y bytes a e k sits =
    let c : Change = record (writer_change w b y) { said = record { ordinal = i; answer = r } ∷ []; answered = reached_answer b waits r } in
    quiet-own g t h w b x y c a e k (record { at = refl; heard_is = refl; stamped = refl; joined = refl; sent = none-sent w c (λ _. refl) refl; packets = λ p s new. absurd new; fields = λ f new. absurd new }) (sits i r refl)

-- ANSWERS

flush-apart : by_hflush ≡ by_hsync → ⊥
flush-apart e = cc

close-apart : by_close ≡ by_hsync → ⊥
close-apart e = cc

-- the command of an answer to an hsync
sync-of : (x : WriterRecord) (o : Option Waiting) → x.waiting ≡ o → reached_by o ≡ by_hsync → WaitsSync x
sync-of x None e q = absurd (close-apart q)
sync-of x (Some waiting.Opening) e q = absurd (close-apart q)
sync-of x (Some (waiting.Flush n)) e q = absurd (flush-apart q)
sync-of x (Some (waiting.Sync n p)) e q = record { least = n; packet = p; is = e }
sync-of x (Some waiting.Close) e q = absurd (close-apart q)

own-sits : (g : Givens) (t : Ends) (h : Histories) (w : World) (b : ℕ) (x : WriterRecord) → Around g t h w → heard (w.writers b) ≡ x → (i : ℕ) (r : ClientAnswer) → (own_step x).action ≡ action.Answered i r → Sits h w b x.waiting r
own-sits g t h w b x a e i (answer.Reached n s ms) said = λ c. answer-syncs g t h w b i n x s ms a e (sync-of x x.waiting refl c) said
own-sits g t h w b x a e i _ said = tt

-- A STEP WITH THE OFFICE'S ANSWER

open-sits : (h : Histories) (w : World) (b : ℕ) (x : WriterRecord) (i : ℕ) (r : ClientAnswer) → (open_step x).action ≡ action.Answered i r → Sits h w b x.waiting r
open-sits h w b x i (answer.Reached n s ms) said = absurd (apart said)
  where
    apart : (open_step x).action ≡ action.Answered i (answer.Reached n s ms) → ⊥
    apart z = cc
open-sits h w b x i _ said = tt

closed-sits : (h : Histories) (w : World) (b : ℕ) (x : WriterRecord) → x.waiting ≡ Some waiting.Close → (i : ℕ) (r : ClientAnswer) → Sits h w b x.waiting r
closed-sits h w b x e i (answer.Reached n s ms) = λ c. absurd (close-apart (ap reached_by (sym e) ∙ c))
closed-sits h w b x e i _ = tt

dialled-leads : (g : Givens) (t : Ends) (h : Histories) (w : World) (b : ℕ) (x : WriterRecord) (way : Setup) (u : Stamp) (to : NodeId) (others : List NodeId) (n : ℕ) (answered : Bool) → Around g t h w → heard (w.writers b) ≡ x → x.phase ≡ phase.Stamped way u
    → Leads g g t h h w (dialled_change w b x to (request_for x.block x.committed x.stream way u n others) answered)
dialled-leads g t h w b x way u to others n false a e p = stays-leads g t h w b x (dialled x false) a e (missed-wait x)
dialled-leads g t h w b x way u to others n true a e p = dial-leads g t h w b x way u to o a e p fields dial
  where
    o : Op
    o = request_for x.block x.committed x.stream way u n others

    r : Requested x.block x.committed x.stream way u o
    r = requested x.block x.committed x.stream way u n others

    block : x.block ≡ record { 0 = b }
    block = subst (λ (z : WriterRecord). z.block ≡ record { 0 = b }) e (a.known.facts.recorded.writers b)

    same-write : (c d : WriteFields) → op.Write c ≡ op.Write d → c ≡ d
    same-write c d q = cc

    fields : (f : WriteFields) → o ≡ op.Write f → Asks b x.committed way f
    fields f q = subst (λ (y : WriteFields). Asks b x.committed way y) (same-write r.fields f (sym r.is ∙ q)) (ap (λ (y : BlockId). y.0) (r.block ∙ block), r.kind_is, r.named)

    dial : (f : Op) → o ≡ f → NewDial w.past (Asks b x.committed way) (request f)
    dial f q = subst (λ (y : Op). NewDial w.past (Asks b x.committed way) (request y)) (sym r.is ∙ q) (inr (fields r.fields r.is))

dialling-leads : (g : Givens) (t : Ends) (h : Histories) (w : World) (b : ℕ) (x : WriterRecord) (way : Setup) (u : Stamp) (ms : List NodeId) (answered : Bool) → Around g t h w → heard (w.writers b) ≡ x → x.phase ≡ phase.Stamped way u → Leads g g t h h w (dialling w b x (dial_step_as x way u ms).action answered)
dialling-leads g t h w b x way u [] answered a e p = stays-leads g t h w b x x a e (keeps-itself x)
dialling-leads g t h w b x way u (m ∷ ms) answered a e p = dialled-leads g t h w b x way u m ms (length x.members) (answered && w.running m.0) a e p

rest-leads : (p : Phase) (g : Givens) (t : Ends) (h : Histories) (w : World) (b : ℕ) (x : WriterRecord) (answered : Bool) → x.phase ≡ p → Around g t h w → heard (w.writers b) ≡ x → IfSome (rest_in p w b x answered) (Leads g g t h h w)
rest-leads phase.Closed g t h w b x answered p a e = stays-leads g t h w b x x a e (keeps-itself x)
rest-leads (phase.Wanted s) g t h w b x answered p a e = stays-leads g t h w b x x a e (keeps-itself x)
rest-leads (phase.Stamped s u) g t h w b x answered p a e = dialling-leads g t h w b x s u x.members answered a e p
rest-leads (phase.Requested s u) g t h w b x answered p a e = stays-leads g t h w b x x a e (keeps-itself x)
rest-leads (phase.Accepted s u) g t h w b x answered p a e = stays-leads g t h w b x x a e (keeps-itself x)
rest-leads phase.Opened g t h w b x answered p a e = did-leads g t h w b x.waiting x (open_step x).action (open_step x).writer [] a e (open-wait x) (open-sits h w b x)
rest-leads (phase.Streaming n) g t h w b x answered p a e = stays-leads g t h w b x x a e (keeps-itself x)
rest-leads phase.Closing g t h w b x answered p a e = stays-leads g t h w b x x a e (keeps-itself x)
rest-leads phase.Finished g t h w b x answered p a e = stays-leads g t h w b x x a e (keeps-itself x)
rest-leads phase.Completed g t h w b x answered p a e =
    did-leads g t h w b x.waiting x (completed_step x).action (completed_step x).writer [] a e (completed-wait x) (λ i r q. closed-sits h w b x ((subst WriterEnds e (a.ends b)).closing (ap is_closing p)) i r)
rest-leads (phase.Failed f) g t h w b x answered p a e = stays-leads g t h w b x x a e (keeps-itself x)

-- COMMANDS

-- what a command that is given leaves
record GivenAs (x z : WriterRecord) : Type 0 where
  waiting : z.waiting ≡ x.waiting
  phase : z.phase ≡ x.phase
  stream : z.stream ≡ x.stream
  members : z.members ≡ x.members
  committed : z.committed ≡ x.committed

given-as : (x : WriterRecord) (c : Command) → GivenAs x (given x c)
given-as x c = go (admitted x.intake c)
  where
    go : (r : Result Intake CommandFault) → GivenAs x (given_as x c r)
    go (Ok i) = record { waiting = refl; phase = refl; stream = refl; members = refl; committed = refl }
    go (Err f) = record { waiting = refl; phase = refl; stream = refl; members = refl; committed = refl }

sound-of : (g : Givens) (t : Ends) (h : Histories) (w : World) (b : ℕ) (x : WriterRecord) → Around g t h w → heard (w.writers b) ≡ x → Sound x
sound-of g t h w b x a e = subst (λ (z : WriterRecord). Sound z) e (a.known.facts.carried.writers b).sound

waited-of : (g : Givens) (t : Ends) (h : Histories) (w : World) (b : ℕ) (x : WriterRecord) → Around g t h w → heard (w.writers b) ≡ x → WaitedOf x
waited-of g t h w b x a e = subst (λ (z : WriterRecord). WaitedOf z) e (a.waited b)

not-both : (b : Bool) → b ≡ true → not b ≡ true → ⊥
not-both true e f = false≢true f
not-both false e f = false≢true e

-- a step that takes a command answers none of a length
taken-sits : (h : Histories) (w : World) (b : ℕ) (x : WriterRecord) (c : Command) (r : Rule) (o : Option Waiting) → not (is_empty (given x c).queue) ≡ true → is_empty (own_step (given (ruled x c r) c)).writer.queue ≡ true
    → (i : ℕ) (q : ClientAnswer) → (own_step (given (ruled x c r) c)).action ≡ action.Answered i q → Sits h w b o q
taken-sits h w b x c r o full taken i (answer.Reached n s ms) said =
    let z = given (ruled x c r) c in
    let same = (own-step-says z i n s ms said).queue ∙ queue-grows x c r in
    absurd (not-both (is_empty (given x c).queue) (sym (ap is_empty same) ∙ taken) full)
taken-sits h w b x c r o full taken i _ said = tt

-- a writer that is outside of its session
out-leads : (g : Givens) (t : Ends) (h : Histories) (w : World) (b : ℕ) (waits : Option Waiting) (c : Action) (y : WriterRecord) (bytes : List ℕ) → Around g t h w → reach_of y.phase ≡ 0 → IsUnsent c → ((i : ℕ) (r : ClientAnswer) → c ≡ action.Answered i r → Sits h w b waits r) → IfSome (did w b waits c y bytes) (Leads g g t h h w)
unfolding apply
out-leads g t h w b waits c y bytes a out unsent sits = go c unsent sits
  where
    quiet : (k : Change) → IsOwn g w b y k NoPacket NoFields → IfSome k.answered (λ (r : Answered). r.command ≡ by_hsync → AnswerSyncs h w r) → Leads g g t h h w k
    quiet k own said =
        own-leads g t h h w b y k NoPacket NoFields a own (λ fr n q e r. absurd (omega (arith, r, out))) (λ fr u q. absurd (omega (arith, asked-reach y.phase u q, out)))
        (λ later r q d. answer-on h h w (apply w k) r later refl ((subst (λ (o : Option Answered). IfSome o (λ (z : Answered). z.command ≡ by_hsync → AnswerSyncs h w z)) q said) d))

    go : (d : Action) → IsUnsent d → ((i : ℕ) (r : ClientAnswer) → d ≡ action.Answered i r → Sits h w b waits r) → IfSome (did w b waits d y bytes) (Leads g g t h h w)
    go action.Wait u s = tt
    go (action.Ask q) u s = tt
    go (action.Dial to r) u s = tt
    go action.Memory u s = tt
    go (action.Send p) u s = absurd u
    go action.Took u s =
        let k : Change = record (writer_change w b y) { session = w.latest b; bytes = bytes } in
        quiet k (record { at = refl; heard_is = refl; stamped = refl; joined = refl; sent = none-sent w k (λ _. refl) refl; packets = λ p m new. absurd new; fields = λ f new. absurd new }) tt
    go (action.Answered i r) u s =
        let k : Change = record (writer_change w b y) { said = record { ordinal = i; answer = r } ∷ []; answered = reached_answer b waits r } in
        quiet k (record { at = refl; heard_is = refl; stamped = refl; joined = refl; sent = none-sent w k (λ _. refl) refl; packets = λ p m new. absurd new; fields = λ f new. absurd new }) (s i r refl)

-- a command that is given stands behind those that were there
given-queue : (x : WriterRecord) (c : Command) → x.queue ≡ [] → not (is_empty (given x c).queue) ≡ true → (given x c).queue ≡ c ∷ []
given-queue x c e = go (admitted x.intake c)
  where
    go : (r : Result Intake CommandFault) → not (is_empty (given_as x c r).queue) ≡ true → (given_as x c r).queue ≡ c ∷ []
    go (Ok i) t = ap (λ (q : List Command). q ++ c ∷ []) e
    go (Err f) t = absurd (false≢true (subst (λ (q : List Command). not (is_empty q) ≡ true) e t))

empty-is : (q : List Command) → is_empty q ≡ true → q ≡ []
empty-is [] e = refl
empty-is (c ∷ q) e = absurd (false≢true e)

taken-leads : (g : Givens) (t : Ends) (h : Histories) (w : World) (b : ℕ) (x : WriterRecord) (c : Command) (r : Rule) (bytes : List ℕ) → Around g t h w → heard (w.writers b) ≡ x → ruled x c r ≡ x → not (is_empty (given x c).queue) ≡ true → is_empty (own_step (given x c)).writer.queue ≡ true
    → IfSome (did w b x.waiting (own_step (given x c)).action (own_step (given x c)).writer bytes) (Leads g g t h h w)
taken-leads g t h w b x c r bytes a e same full taken =
    let z = given x c in
    let s = given-as x c in
    did-leads g t h w b x.waiting x (own_step z).action (own_step z).writer bytes a e
    (given-goes x z (own_step z).action (own_step z).writer s.waiting s.phase s.stream s.members s.committed (own-step-wait z (given_sound x c (sound-of g t h w b x a e)) (given-waited x c (waited-of g t h w b x a e))))
    (λ i q said. taken-sits h w b x c r x.waiting full (subst (λ (y : WriterRecord). is_empty (own_step (given y c)).writer.queue ≡ true) (sym same) taken) i q (ap (λ (y : WriterRecord). (own_step (given y c)).action) same ∙ said))

command-as : (g : Givens) (t : Ends) (h : Histories) (w : World) (b : ℕ) (x : WriterRecord) (c : Command) (r : Rule) → Around g t h w → heard (w.writers b) ≡ x → x.queue ≡ [] → not (is_empty (given x c).queue) ≡ true → is_empty (own_step (given (ruled x c r) c)).writer.queue ≡ true
    → IfSome (did w b (ruled x c r).waiting (own_step (given (ruled x c r) c)).action (own_step (given (ruled x c r) c)).writer (command_bytes (ruled x c r) c)) (Leads g g t h h w)
command-as g t h w b x (command.Create ms) r a e q u v =
    let y : WriterRecord = record x { stream = begun r 0 } in
    let c = command.Create ms in
    let z = given y c in
    let s = own_step z in
    let o = own-step-out z ms (given-queue y c q (subst (λ (qs : List Command). not (is_empty qs) ≡ true) (sym (queue-grows x c r)) u)) (empty-is s.writer.queue v) in
    out-leads g t h w b y.waiting s.action s.writer [] a o.0 o.1 (taken-sits h w b x c r y.waiting u v)
command-as g t h w b x (command.Append ms) r a e q u v = taken-leads g t h w b x (command.Append ms) r (command_bytes x (command.Append ms)) a e refl u v
command-as g t h w b x (command.Write bytes) r a e q u v = taken-leads g t h w b x (command.Write bytes) r (command_bytes x (command.Write bytes)) a e refl u v
command-as g t h w b x (command.Fill k) r a e q u v = taken-leads g t h w b x (command.Fill k) r (command_bytes x (command.Fill k)) a e refl u v
command-as g t h w b x command.Hflush r a e q u v = taken-leads g t h w b x command.Hflush r (command_bytes x command.Hflush) a e refl u v
command-as g t h w b x command.Hsync r a e q u v = taken-leads g t h w b x command.Hsync r (command_bytes x command.Hsync) a e refl u v
command-as g t h w b x command.Close r a e q u v = taken-leads g t h w b x command.Close r (command_bytes x command.Close) a e refl u v

command-leads : (g : Givens) (t : Ends) (h : Histories) (w : World) (b : ℕ) (x : WriterRecord) (k : TakenCommand) → Around g t h w → heard (w.writers b) ≡ x → IfSome (takes_command w b x k) (Leads g g t h h w)
command-leads g t h w b x k a e =
    let formed = is_formed k.command k.rule in
    let there = not (is_empty (given x k.command).queue) in
    let s = own_step (given (ruled x k.command k.rule) k.command) in
    let none : x.queue ≡ [] = subst (λ (z : WriterRecord). z.queue ≡ []) e (a.known.facts.carried.writers b).queue in
    when-each (Leads g g t h h w) (formed && there) _ (λ q. when-each (Leads g g t h h w) (is_empty s.writer.queue) _ (λ u. command-as g t h w b x k.command k.rule a e none (and-right formed there q) u))

-- A STEP

step-leads : (g : Givens) (t : Ends) (h : Histories) (w : World) (b : ℕ) (o : Option Told) (takes : Option TakenCommand) (answered : Bool) → Around g t h w → (w.writers b).told ≡ o → IfSome (writer_step w b (w.writers b).known o takes answered) (Leads g g t h h w)
step-leads g t h w b (Some told) None answered a e =
    let x = granted (w.writers b).known told in
    rest-leads x.phase g t h w b x answered refl a (ap (λ (o : Option Told). known_heard (w.writers b).known o) e)
step-leads g t h w b (Some told) (Some k) answered a e = tt
step-leads g t h w b None None answered a e =
    let x = (w.writers b).known in
    let is = ap (λ (o : Option Told). known_heard (w.writers b).known o) e in
    did-leads g t h w b x.waiting x (own_step x).action (own_step x).writer [] a is (own-step-wait x (sound-of g t h w b x a is) (waited-of g t h w b x a is)) (own-sits g t h w b x a is)
step-leads g t h w b None (Some k) answered a e = command-leads g t h w b (w.writers b).known k a (ap (λ (o : Option Told). known_heard (w.writers b).known o) e)

pub own-writer-leads : (g : Givens) (t : Ends) (h : Histories) (w : World) (b : ℕ) (takes : Option TakenCommand) (answered : Bool) → Around g t h w → IfSome (own_writer w b takes answered) (Leads g g t h h w)
own-writer-leads g t h w b takes answered a = step-leads g t h w b (w.writers b).told takes answered a refl

-- WHAT A WRITER HEARS

-- an ack leaves what waits, or is a good one of the oldest packet
ack-leads : (g : Givens) (t : Ends) (h : Histories) (w : World) (b c : ℕ) (x : WriterRecord) (k : Ack) → Around g t h w → heard (w.writers b) ≡ x → (w.writers b).conn ≡ Some c → UpSyncs h w c (ack k) → Leads g g t h h w (writer_change w b (acked x k))
unfolding apply
ack-leads g t h w b c x k a e conn up = go (acked-wait x k)
  where
    y : WriterRecord
    y = acked x k

    go : KeepsWait x y ⊎ AcksWait x y k → Leads g g t h h w (writer_change w b y)
    go (inl z) = stays-leads g t h w b x y a e z
    go (inr z) =
        own-leads g t h h w b y (writer_change w b y) NoPacket NoFields a (record { at = refl; heard_is = refl; stamped = refl; joined = refl; sent = none-sent w (writer_change w b y) (λ _. refl) refl; packets = λ p s new. absurd new; fields = λ f new. absurd new })
        (λ fr. acks-own g t h h w (apply w (writer_change w b y)) b c x y k a fr e conn up z (hears-follows x (message (ack k))).continues.reach (waits-at g t h w b x a e))
        (λ fr. keeps-unsent g t h h w (apply w (writer_change w b y)) x y fr (λ u q. oldest-asked x u (ap (λ (r : WriterRecord). asked_stamp r.phase) (sym z.is) ∙ q)) (none-at g t h w b x a e))
        (λ later r q. absurd (none-some r q))

hears-leads : (g : Givens) (t : Ends) (h : Histories) (w : World) (b c : ℕ) (x : WriterRecord) (m : Next) → Around g t h w → heard (w.writers b) ≡ x → (w.writers b).conn ≡ Some c → HeardSyncs h w c m → Leads g g t h h w (writer_change w b (writer_hears x m))
hears-leads g t h w b c x (message (response r)) a e conn n = stays-leads g t h w b x (setup_answered x r (named_member x.members r.first_bad)) a e (setup-wait x r (named_member x.members r.first_bad))
hears-leads g t h w b c x (message (ack k)) a e conn n = ack-leads g t h w b c x k a e conn n
hears-leads g t h w b c x (message (request o)) a e conn n = stays-leads g t h w b x (ended x) a e (ended-wait x)
hears-leads g t h w b c x (message (packet p)) a e conn n = stays-leads g t h w b x (ended x) a e (ended-wait x)
hears-leads g t h w b c x (message (read_status s)) a e conn n = stays-leads g t h w b x (ended x) a e (ended-wait x)
hears-leads g t h w b c x (message (recovery_answer s)) a e conn n = stays-leads g t h w b x (ended x) a e (ended-wait x)
hears-leads g t h w b c x the_end a e conn n = stays-leads g t h w b x (ended x) a e (ended-wait x)

pub writer-up-leads : (g : Givens) (t : Ends) (h : Histories) (w : World) (b c : ℕ) (m : Next) → Around g t h w → HeardSyncs h w c m → IfSome (writer_up w b c m) (Leads g g t h h w)
writer-up-leads g t h w b c m a n =
    when-each (Leads g g t h h w) (is_conn (w.writers b).conn c && is_none (w.writers b).told) _ (λ e.
    let conn = conn-is (w.writers b).conn c (and-left (is_conn (w.writers b).conn c) (is_none (w.writers b).told) e) in
    let none = none-is (w.writers b).told (and-right (is_conn (w.writers b).conn c) (is_none (w.writers b).told) e) in
    hears-leads g t h w b c (w.writers b).known m a (ap (λ (o : Option Told). known_heard (w.writers b).known o) none) conn n)
