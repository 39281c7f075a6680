-- What commands, readers, primaries and the office make of what answers and acks say.
use Rattle.std.proofs.Common.{◌≡◌, ℕ, zero, suc, ◌+◌, Bool, true, false, List, [], ◌∷◌, ◌++◌, slice_get, Option, Some, None, IfSome, Result, Ok, Err, refl, sym, ap, subst, ◌∙◌}
use Rattle.std.specs.Prelude.{◌==◌, ◌&&◌, not, is_none, zip}
use Rattle.std.proofs.lemmas.Bool.{false≢true}
use Rattle.std.proofs.lemmas.Option.{none-some, same_Some}
use Rattle.hd_base.specs.declared.numbers.BlockId.{BlockId}
use Rattle.hd_base.specs.declared.numbers.NodeId.{NodeId}
use Rattle.hd_base.specs.SumRules.{Rule}
use Rattle.op_headers.specs.declared.ops.Op.TheVariants as op
use Rattle.op_headers.specs.declared.ops.ReadOp.{ReadOp}
use Rattle.world_recoveries.specs.PacketStream.Streams.{begun}
use Rattle.name_core.specs.declared.calls.OfficeAnswer.TheVariants as office
use Rattle.world_recoveries.specs.ReadCore.ReadTurn.{ReadTurn}
use Rattle.world_recoveries.specs.ReadCore.ReadTurn.TheVariants as turn
use Rattle.world_recoveries.specs.ReadCore.Readings.{ReadTaken, take_from}
use Rattle.world_recoveries.specs.RecoveryCore.OwnStep.{OwnStep}
use Rattle.world_recoveries.specs.RecoveryCore.OwnStep.TheVariants as own
use Rattle.world_recoveries.specs.RecoveryCore.Standing.{Standing}
use Rattle.world_recoveries.specs.RecoveryCore.Primaries.{PrimaryState, is_among, sync_call}
use Rattle.world_recoveries.specs.RecoveryCore.Primaries as primary
use Rattle.writer_core.specs.declared.commands.Command.{Command}
use Rattle.writer_core.specs.declared.commands.Command.TheVariants as command
use Rattle.writer_core.specs.declared.commands.CommandFault.{CommandFault}
use Rattle.writer_core.specs.declared.intake.Intake.{Intake}
use Rattle.writer_core.specs.declared.records.WriterRecord.{WriterRecord}
use Rattle.writer_core.specs.Commands.{admitted}
use Rattle.writer_core.specs.Transitions.{given, given_as, own_step, granted}
use Rattle.world_recoveries.specs.World.TakenCommand.{TakenCommand}
use Rattle.world_recoveries.specs.World.Parts.{Message, request, Place, Upper, by_primary, Told, Reader, no_reader, reads, has_read, Leading, Primary, no_primary, was_told, leads, has_led}
use Rattle.world_recoveries.specs.World.Worlds.{World, Dial, Change, past_after, apply}
use Rattle.world_recoveries.specs.World.Connections.{Next, is_conn, is_alive, place_of}
use Rattle.world_recoveries.specs.World.Clients.{did, is_empty, is_formed, ruled, command_bytes, takes_command, writer_step, own_writer, writer_hears, writer_up, reader_dials, own_reader_as, own_reader, from_node_of, reader_turn, reader_up_as, reader_up, are_members}
use Rattle.world_recoveries.specs.World.Primaries.{updates_change, primary_dials, begins_with, begins_as, begins_at, own_recover, dials_answered, updates_on, leads_step, commits_step, leads_told, own_primary_as, own_primary, hears_change, listens, primary_up_as, primary_up}
use Rattle.world_recoveries.proofs.WorldLaws.FactTables.{if-each, when-each, and-right}
use Rattle.world_recoveries.specs.WorldLaws.Stamping.{Givens, known_heard}
use Rattle.world_recoveries.proofs.WorldLaws.StampWalking.{none-is}
use Rattle.world_recoveries.proofs.WorldLaws.ByteAsking.{only-one}
use Rattle.world_recoveries.proofs.WorldLaws.ByteFrame.{Each, each-nil, each-one}
use Rattle.world_recoveries.proofs.WorldLaws.ByteLeaves.{sent-if}
use Rattle.world_acks.specs.Acking.{Ends, DownTells, UpperTells, Numbers}
use Rattle.world_acks.specs.Waiting.{Unasked}
use Rattle.world_acks.proofs.Requests.{Requesting, follows-unasked, still-requests, other-requests}
use Rattle.world_acks.proofs.Turning.{Known}
use Rattle.world_acks.proofs.Lowers.{still-numbers}
use Rattle.world_acks.proofs.Moves.{follows-numbers, own-step-goes, hears-follows, own-step-out}
use Rattle.world_acks.proofs.Clients.{Leads, IsClient, none-dials, none-downs, client-leads, asked-first, stays-leads, did-leads, rest-leads, taken-leads, out-leads}
use Rattle.op_headers.specs.Values.{WriteFields}
use Rattle.op_headers.specs.declared.ops.RecoveryOp.{RecoveryOp}

-- COMMANDS

-- a command that is given stands behind those that were there
given-queue : (x : WriterRecord) (c : Command) → x.queue ≡ [] → not (is_empty (given x c).queue) ≡ true → (given x c).queue ≡ c ∷ []
given-queue x c e = go (admitted x.intake c)
  where
    go : (r : Result Intake CommandFault) → not (is_empty (given_as x c r).queue) ≡ true → (given_as x c r).queue ≡ c ∷ []
    go (Ok i) t = ap (λ (q : List Command). q ++ c ∷ []) e
    go (Err f) t = absurd (false≢true (subst (λ (q : List Command). not (is_empty q) ≡ true) e t))

empty-is : (q : List Command) → is_empty q ≡ true → q ≡ []
empty-is [] e = refl
empty-is (c ∷ q) e = absurd (false≢true e)

same-test-as : (x y : WriterRecord) (c : Command) (r : Result Intake CommandFault) → y.queue ≡ x.queue → not (is_empty (given_as x c r).queue) ≡ true → not (is_empty (given_as y c r).queue) ≡ true
same-test-as x y c (Ok i) e t = subst (λ (q : List Command). not (is_empty (q ++ c ∷ [])) ≡ true) (sym e) t
same-test-as x y c (Err d) e t = subst (λ (q : List Command). not (is_empty q) ≡ true) (sym e) t

command-as : (g : Givens) (t : Ends) (w : World) (b : ℕ) (x : WriterRecord) (c : Command) (r : Rule) → Known g t w → Numbers (g b) t (w.latest b) x → Unasked w.past x.phase → x.queue ≡ [] → not (is_empty (given x c).queue) ≡ true
    → is_empty (own_step (given (ruled x c r) c)).writer.queue ≡ true
    → IfSome (did w b (ruled x c r).waiting (own_step (given (ruled x c r) c)).action (own_step (given (ruled x c r) c)).writer (command_bytes (ruled x c r) c)) (Leads g g t w)
command-as g t w b x (command.Create ms) r h n a e u v =
    let y : WriterRecord = record x { stream = begun r 0 } in
    let z = given y (command.Create ms) in
    let q = given-queue y (command.Create ms) e (same-test-as x y (command.Create ms) (admitted x.intake (command.Create ms)) refl u) in
    let o = own-step-out z ms q (empty-is (own_step z).writer.queue v) in
    out-leads g t w b y.waiting (own_step z).action (own_step z).writer [] h o.0 o.1
command-as g t w b x (command.Append ms) r h n a e u v = taken-leads g t w b x (command.Append ms) x.waiting (command_bytes x (command.Append ms)) h n a
command-as g t w b x (command.Write bytes) r h n a e u v = taken-leads g t w b x (command.Write bytes) x.waiting (command_bytes x (command.Write bytes)) h n a
command-as g t w b x (command.Fill k) r h n a e u v = taken-leads g t w b x (command.Fill k) x.waiting (command_bytes x (command.Fill k)) h n a
command-as g t w b x command.Hflush r h n a e u v = taken-leads g t w b x command.Hflush x.waiting (command_bytes x command.Hflush) h n a
command-as g t w b x command.Hsync r h n a e u v = taken-leads g t w b x command.Hsync x.waiting (command_bytes x command.Hsync) h n a
command-as g t w b x command.Close r h n a e u v = taken-leads g t w b x command.Close x.waiting (command_bytes x command.Close) h n a

command-leads : (g : Givens) (t : Ends) (w : World) (b : ℕ) (x : WriterRecord) (k : TakenCommand) → Known g t w → Numbers (g b) t (w.latest b) x → Unasked w.past x.phase → x.queue ≡ [] → IfSome (takes_command w b x k) (Leads g g t w)
command-leads g t w b x k h n a e =
    let formed = is_formed k.command k.rule in
    let there = not (is_empty (given x k.command).queue) in
    let s = own_step (given (ruled x k.command k.rule) k.command) in
    when-each (Leads g g t w) (formed && there) _ (λ q. when-each (Leads g g t w) (is_empty s.writer.queue) _ (λ u. command-as g t w b x k.command k.rule h n a e (and-right formed there q) u))

-- the writer that has heard this
heard-numbers : (g : Givens) (t : Ends) (w : World) (b : ℕ) (o : Option Told) → Known g t w → (w.writers b).told ≡ o → Numbers (g b) t (w.latest b) (known_heard (w.writers b).known o)
heard-numbers g t w b o h e = subst (λ (q : Option Told). Numbers (g b) t (w.latest b) (known_heard (w.writers b).known q)) e (h.acked.writers b)

heard-unasked : (g : Givens) (t : Ends) (w : World) (b : ℕ) (o : Option Told) → Known g t w → (w.writers b).told ≡ o → Unasked w.past (known_heard (w.writers b).known o).phase
heard-unasked g t w b o h e = subst (λ (q : Option Told). Unasked w.past (known_heard (w.writers b).known q).phase) e (h.requests.unasked b)

heard-queue : (g : Givens) (t : Ends) (w : World) (b : ℕ) (o : Option Told) → Known g t w → (w.writers b).told ≡ o → (known_heard (w.writers b).known o).queue ≡ []
heard-queue g t w b o h e = subst (λ (q : Option Told). (known_heard (w.writers b).known q).queue ≡ []) e (h.facts.carried.writers b).queue

step-leads : (g : Givens) (t : Ends) (w : World) (b : ℕ) (o : Option Told) (takes : Option TakenCommand) (answered : Bool) → Known g t w → (w.writers b).told ≡ o → IfSome (writer_step w b (w.writers b).known o takes answered) (Leads g g t w)
step-leads g t w b (Some told) None answered h e = let x = granted (w.writers b).known told in rest-leads x.phase g t w b x answered refl (ap (λ (q : Option Told). known_heard (w.writers b).known q) e) h (heard-numbers g t w b (Some told) h e)
step-leads g t w b (Some told) (Some k) answered h e = tt
step-leads g t w b None None answered h e =
    let x = (w.writers b).known in did-leads g t w b x.waiting x (own_step x).action (own_step x).writer [] h (heard-numbers g t w b None h e) (heard-unasked g t w b None h e) (own-step-goes x)
step-leads g t w b None (Some k) answered h e = command-leads g t w b (w.writers b).known k h (heard-numbers g t w b None h e) (heard-unasked g t w b None h e) (heard-queue g t w b None h e)

pub own-writer-leads : (g : Givens) (t : Ends) (w : World) (b : ℕ) (takes : Option TakenCommand) (answered : Bool) → Known g t w → IfSome (own_writer w b takes answered) (Leads g g t w)
own-writer-leads g t w b takes answered h = step-leads g t w b (w.writers b).told takes answered h refl

pub writer-up-leads : (g : Givens) (t : Ends) (w : World) (b c : ℕ) (x : Next) → Known g t w → IfSome (writer_up w b c x) (Leads g g t w)
writer-up-leads g t w b c x h =
    let y = (w.writers b).known in
    when-each (Leads g g t w) (is_conn (w.writers b).conn c && is_none (w.writers b).told) _ (λ e.
    let none = none-is (w.writers b).told (and-right (is_conn (w.writers b).conn c) (is_none (w.writers b).told) e) in
    stays-leads g t w b (writer_hears y x) h (follows-numbers (g b) t (w.latest b) y (writer_hears y x) (hears-follows y x).continues (heard-numbers g t w b None h none))
    (follows-unasked w.past y (writer_hears y x) (hears-follows y x) (heard-unasked g t w b None h none)))

-- READERS AND PRIMARIES

-- a change that leaves the writers too
beside-leads : (g : Givens) (t : Ends) (w : World) (k : Change) → Known g t w → IsClient w k → k.office ≡ w.office → k.stamped ≡ None → k.writer ≡ w.writers k.writer_at → Requesting w k
    → ((v : World) (d : ℕ) → Each (DownTells g t v d) (k.downs d)) → ((i : ℕ) (d : Dial) → slice_get k.dials i ≡ Some d → DownTells g t (apply w k) (w.next_conn + i) d.request × UpperTells (past_after w k) (w.next_conn + i) d.dialled.upper) → Leads g g t w k
beside-leads g t w k h a o s q r downs dials = client-leads g t w k h a r o (λ _. downs (apply w k)) dials (still-numbers g t w k h.acked s q)

-- one that neither sends nor dials
quiet-leads : (g : Givens) (t : Ends) (w : World) (k : Change) → Known g t w → IsClient w k → k.office ≡ w.office → k.stamped ≡ None → k.writer ≡ w.writers k.writer_at → ((d : ℕ) → k.downs d ≡ []) → k.dials ≡ [] → Leads g g t w k
quiet-leads g t w k h a o s q d e = beside-leads g t w k h a o s q (still-requests w k h.requests q e (λ z. sym a.lower ∙ z)) (λ v. none-downs g t v k d) (none-dials g t w k e)

read-apart : (r : ReadOp) (f : WriteFields) → request (op.Read r) ≡ request (op.Write f) → ⊥
read-apart r f e = cc

recovery-apart : (r : RecoveryOp) (f : WriteFields) → request (op.Recovery r) ≡ request (op.Write f) → ⊥
recovery-apart r f e = cc

reader-dials-leads : (g : Givens) (t : Ends) (w : World) (i n : ℕ) (r : ReadOp) (answered : Bool) → Known g t w → Leads g g t w (reader_dials w i n r answered)
reader-dials-leads g t w i n r false h = quiet-leads g t w (reader_dials w i n r false) h (record { replica = refl; lower = refl; joined = refl; ups = λ _. refl }) refl refl refl (λ _. refl) refl
reader-dials-leads g t w i n r true h =
    let k = reader_dials w i n r true in
    beside-leads g t w k h (record { replica = refl; lower = refl; joined = refl; ups = λ _. refl }) refl refl refl
    (other-requests w k h.requests refl refl (λ _. refl) (λ j d f e z. read-apart r f (sym (only-one (λ m y. y.request ≡ request (op.Read r)) _ k.dials refl refl j d e) ∙ z)))
    (λ v. none-downs g t v k (λ _. refl))
    (λ j d e. (asked-first g t w k j d (op.Read r) h.facts (λ _. refl) e (only-one (λ m z. z.request ≡ request (op.Read r)) _ k.dials refl refl j d e), only-one (λ m z. UpperTells (past_after w k) (w.next_conn + m) z.dialled.upper) _ k.dials refl tt j d e))

own-reader-as : (x : Reader) (g : Givens) (t : Ends) (w : World) (i n : ℕ) (r : ReadOp) (answered : Bool) → Known g t w → IfSome (own_reader_as x w i n r answered) (Leads g g t w)
own-reader-as no_reader g t w i n r answered h = reader-dials-leads g t w i n r (answered && w.running n) h
own-reader-as (reads c s) g t w i n r answered h = tt
own-reader-as (has_read b) g t w i n r answered h = tt

pub own-reader-leads : (g : Givens) (t : Ends) (w : World) (i n : ℕ) (r : ReadOp) (answered : Bool) → Known g t w → IfSome (own_reader w i n r answered) (Leads g g t w)
own-reader-leads g t w i n r answered h = own-reader-as (w.readers i) g t w i n r answered h

reader-turn-leads : (g : Givens) (t : Ends) (w : World) (i c : ℕ) (x : ReadTaken) (d : ReadTurn) → Known g t w → Leads g g t w (reader_turn w i c x d)
reader-turn-leads g t w i c x turn.Goes h = quiet-leads g t w (reader_turn w i c x turn.Goes) h (record { replica = refl; lower = refl; joined = refl; ups = λ _. refl }) refl refl refl (λ _. refl) refl
reader-turn-leads g t w i c x turn.Verified h =
    beside-leads g t w (reader_turn w i c x turn.Verified) h (record { replica = refl; lower = refl; joined = refl; ups = λ _. refl }) refl refl refl (still-requests w (reader_turn w i c x turn.Verified) h.requests refl refl (λ e. e)) (λ v. sent-if (DownTells g t v) (Some c) _ (each-one (DownTells g t v c) _ tt)) (none-dials g t w (reader_turn w i c x turn.Verified) refl)
reader-turn-leads g t w i c x (turn.Fails f) h = quiet-leads g t w (reader_turn w i c x (turn.Fails f)) h (record { replica = refl; lower = refl; joined = refl; ups = λ _. refl }) refl refl refl (λ _. refl) refl

reader-up-as : (r : Reader) (g : Givens) (t : Ends) (w : World) (i c : ℕ) (x : Next) → Known g t w → IfSome (reader_up_as r w i c x) (Leads g g t w)
reader-up-as no_reader g t w i c x h = tt
reader-up-as (reads d s) g t w i c x h = when-each (Leads g g t w) (d == c) _ (λ _. reader-turn-leads g t w i c (take_from s (from_node_of x)) (take_from s (from_node_of x)).does h)
reader-up-as (has_read b) g t w i c x h = tt

pub reader-up-leads : (g : Givens) (t : Ends) (w : World) (i c : ℕ) (x : Next) → Known g t w → IfSome (reader_up w i c x) (Leads g g t w)
reader-up-leads g t w i c x h = reader-up-as (w.readers i) g t w i c x h

-- the dials of a primary
record IsLed (first : Message) (d : Dial) : Type 0 where
  pub request_is : d.request ≡ first
  pub index : ℕ
  pub place : ℕ
  pub upper : d.dialled.upper ≡ by_primary index place

led-dials : (w : World) (i : ℕ) (at : Place) (first : Message) (place : ℕ) (ns : List NodeId) (answers : List Bool) (j : ℕ) (d : Dial) → slice_get (primary_dials w i at first place ns answers) j ≡ Some d → IsLed first d
led-dials w i at first place [] [] j d e = absurd (none-some d e)
led-dials w i at first place [] (a ∷ answers) j d e = absurd (none-some d e)
led-dials w i at first place (n ∷ ns) [] j d e = absurd (none-some d e)
led-dials w i at first place (n ∷ ns) (true ∷ answers) zero d e = subst (λ (x : Dial). IsLed first x) (same_Some _ d e) (record { request_is = refl; index = i; place = place; upper = refl })
led-dials w i at first place (n ∷ ns) (true ∷ answers) (suc j) d e = led-dials w i at first (place + 1) ns answers j d e
led-dials w i at first place (n ∷ ns) (false ∷ answers) j d e = led-dials w i at first (place + 1) ns answers j d e

begins-leads : (g : Givens) (t : Ends) (w : World) (i : ℕ) (at : Place) (b : BlockId) (told : Told) (members : List NodeId) (answers : List Bool) → Known g t w → IfSome (begins_as told w i at b members answers) (Leads g g t w)
begins-leads g t w i at b (Ok (office.Stamp s)) members answers h = tt
begins-leads g t w i at b (Ok (office.Reopened r)) members answers h = tt
begins-leads g t w i at b (Ok office.Nothing) members answers h = tt
begins-leads g t w i at b (Err f) members answers h = quiet-leads g t w _ h (record { replica = refl; lower = refl; joined = refl; ups = λ _. refl }) refl refl refl (λ _. refl) refl
begins-leads g t w i at b (Ok (office.Begun begun)) members answers h =
    let k = begins_with w i at b begun members (dials_answered w members answers) in
    beside-leads g t w k h (record { replica = refl; lower = refl; joined = refl; ups = λ _. refl }) refl refl refl
    (other-requests w k h.requests refl refl (λ _. refl) (λ j d f e z. let x = led-dials w i at _ 0 members (dials_answered w members answers) j d e in recovery-apart _ f (sym x.request_is ∙ z)))
    (λ v. none-downs g t v k (λ _. refl))
    (λ j d e. let x = led-dials w i at _ 0 members (dials_answered w members answers) j d e in
    (subst (λ (m : Message). DownTells g t (apply w k) (w.next_conn + j) m) (sym x.request_is) tt, subst (λ (u : Upper). UpperTells (past_after w k) (w.next_conn + j) u) (sym x.upper) tt))

begins-at-leads : (p : Primary) (g : Givens) (t : Ends) (w : World) (i n : ℕ) (b : BlockId) (members : List NodeId) (answers : List Bool) → Known g t w → IfSome (begins_at p w i n b members answers) (Leads g g t w)
begins-at-leads no_primary g t w i n b members answers h = tt
begins-at-leads (was_told asked told) g t w i n b members answers h = when-each (Leads g g t w) (asked.0 == b.0 && w.running n && are_members members) _ (λ _. begins-leads g t w i (place_of w n) b told members answers h)
begins-at-leads (leads l) g t w i n b members answers h = tt
begins-at-leads (has_led r) g t w i n b members answers h = tt

pub own-recover-leads : (g : Givens) (t : Ends) (w : World) (i n : ℕ) (b : BlockId) (members : List NodeId) (answers : List Bool) → Known g t w → IfSome (own_recover w i n b members answers) (Leads g g t w)
own-recover-leads g t w i n b members answers h = begins-at-leads (w.primaries i) g t w i n b members answers h

updates-down : (g : Givens) (t : Ends) (v : World) (m : Message) → ((d : ℕ) → DownTells g t v d m) → (chosen : List NodeId) (xs : List (NodeId × Option ℕ)) (d : ℕ) → Each (DownTells g t v d) (updates_on m chosen xs d)
updates-down g t v m h chosen [] d = each-nil (DownTells g t v d)
updates-down g t v m h chosen (x ∷ xs) d =
    if-each (λ (ms : List Message). Each (DownTells g t v d) ms) (is_among chosen x.0 && is_conn x.1 d) _ _ (λ _. each-one (DownTells g t v d) m (h d)) (λ _. updates-down g t v m h chosen xs d)

leads-step-leads : (s : OwnStep) (g : Givens) (t : Ends) (w : World) (i : ℕ) (l : Leading) (p : PrimaryState) → Known g t w → IfSome (leads_step s w i l p) (Leads g g t w)
leads-step-leads own.Waits g t w i l p h = tt
leads-step-leads (own.Commits c) g t w i l p h = tt
leads-step-leads (own.Ends r) g t w i l p h = quiet-leads g t w _ h (record { replica = refl; lower = refl; joined = refl; ups = λ _. refl }) refl refl refl (λ _. refl) refl
leads-step-leads (own.Updates c) g t w i l p h =
    let k = updates_change w i l p c in
    beside-leads g t w k h (record { replica = refl; lower = refl; joined = refl; ups = λ _. refl }) refl refl refl (still-requests w k h.requests refl refl (λ e. e)) (λ v d. updates-down g t v _ (λ _. tt) c.members (zip l.state.members l.conns) d) (none-dials g t w k refl)

commits-leads : (s : OwnStep) (g : Givens) (t : Ends) (w : World) (i : ℕ) (l : Leading) (told : Told) → Known g t w → IfSome (commits_step s w i l told) (Leads g g t w)
commits-leads own.Waits g t w i l told h = tt
commits-leads (own.Updates c) g t w i l told h = tt
commits-leads (own.Commits c) g t w i l told h = quiet-leads g t w _ h (record { replica = refl; lower = refl; joined = refl; ups = λ _. refl }) refl refl refl (λ _. refl) refl
commits-leads (own.Ends r) g t w i l told h = tt

leads-told-leads : (o : Option Told) (g : Givens) (t : Ends) (w : World) (i : ℕ) (l : Leading) → Known g t w → IfSome (leads_told o w i l) (Leads g g t w)
leads-told-leads None g t w i l h = leads-step-leads (primary.own_step l.state).does g t w i l (primary.own_step l.state).primary h
leads-told-leads (Some told) g t w i l h = commits-leads (primary.own_step l.state).does g t w i l told h

own-primary-as : (p : Primary) (g : Givens) (t : Ends) (w : World) (i : ℕ) → Known g t w → IfSome (own_primary_as p w i) (Leads g g t w)
own-primary-as no_primary g t w i h = tt
own-primary-as (was_told b told) g t w i h = tt
own-primary-as (leads l) g t w i h = when-each (Leads g g t w) (is_alive w l.at) _ (λ _. leads-told-leads l.told g t w i l h)
own-primary-as (has_led r) g t w i h = tt

pub own-primary-leads : (g : Givens) (t : Ends) (w : World) (i : ℕ) → Known g t w → IfSome (own_primary w i) (Leads g g t w)
own-primary-leads g t w i h = own-primary-as (w.primaries i) g t w i h

hears-leads : (g : Givens) (t : Ends) (w : World) (i : ℕ) (l : Leading) (place c : ℕ) (x : Next) (o : Option Standing) → Known g t w → IfSome (hears_change w i l place c x o) (Leads g g t w)
hears-leads g t w i l place c x None h = tt
hears-leads g t w i l place c x (Some s) h =
    when-each (Leads g g t w) (listens l.state.phase s) _ (λ _. quiet-leads g t w _ h (record { replica = refl; lower = refl; joined = refl; ups = λ _. refl }) refl refl refl (λ _. refl) refl)

primary-up-as : (p : Primary) (g : Givens) (t : Ends) (w : World) (i place c : ℕ) (x : Next) → Known g t w → IfSome (primary_up_as p w i place c x) (Leads g g t w)
primary-up-as no_primary g t w i place c x h = tt
primary-up-as (was_told b told) g t w i place c x h = tt
primary-up-as (leads l) g t w i place c x h = when-each (Leads g g t w) (is_alive w l.at && is_none l.told) _ (λ _. hears-leads g t w i l place c x (slice_get l.state.standings place) h)
primary-up-as (has_led r) g t w i place c x h = tt

pub primary-up-leads : (g : Givens) (t : Ends) (w : World) (i place c : ℕ) (x : Next) → Known g t w → IfSome (primary_up w i place c x) (Leads g g t w)
primary-up-leads g t w i place c x h = primary-up-as (w.primaries i) g t w i place c x h
