-- A writer's own step, in which it asks nothing of the office.
use Rattle.std.proofs.Common.{◌≡◌, ◌≢◌, ℕ, ◌<◌, ◌≤◌, ◌+◌, ◌*◌, Bool, true, false, List, [], ◌∷◌, ◌++◌, Option, Some, None, IfSome, Result, Ok, Err, refl, sym, ap, ◌∙◌, subst, arith}
use Rattle.std.specs.Prelude.{◌&&◌, sum_by, nat_le, not, length, if◌then◌else◌}
use Rattle.std.proofs.lemmas.Bool.Decides.{nat_tests}
use Rattle.std.proofs.lemmas.List.Sums.{sum_by-cons, sum_by-append}
use Rattle.hd_base.specs.SumRules.{Rule, IsChunkSize}
use Rattle.hd_base.specs.declared.sum_rule.TheConstants.{MIN_CHUNK_SIZE, MAX_CHUNK_SIZE}
use Rattle.packet_codec.specs.declared.packets.Packet.{Packet}
use Rattle.packet_stream.specs.Streams.{StreamState, IsStream, written_in, begun}
use Rattle.packet_stream.proofs.StreamLemmas.{begun_written, begun_is}
use Rattle.writer_core.specs.declared.actions.Action.{Action}
use Rattle.writer_core.specs.declared.actions.Action.TheVariants as action
use Rattle.writer_core.specs.declared.commands.Command.{Command}
use Rattle.writer_core.specs.declared.commands.Command.TheVariants as command
use Rattle.writer_core.specs.declared.commands.CommandFault.{CommandFault}
use Rattle.writer_core.specs.declared.intake.Intake.{Intake}
use Rattle.writer_core.specs.declared.phases.Phase.{Phase}
use Rattle.writer_core.specs.declared.phases.Phase.TheVariants as phase
use Rattle.writer_core.specs.declared.phases.Waiting.{Waiting}
use Rattle.writer_core.specs.declared.records.WriterRecord.{WriterRecord}
use Rattle.writer_core.specs.Commands.{admitted}
use Rattle.writer_core.specs.Transitions.{given, given_as, own_step}
use Rattle.world.specs.declared.events.TakenCommand.{TakenCommand}
use Rattle.world.specs.Parts.{Message, packet, Told, Writing}
use Rattle.world.specs.Worlds.{World, Change, apply}
use Rattle.world.specs.Connections.{sent_on}
use Rattle.world.specs.Clients.{writer_change, reached_answer, are_members, did, did_step, ruled, is_formed, is_empty, takes_step, takes_given, takes_command, command_bytes, writer_step, own_writer}
use Rattle.world_settling.specs.Traffic.{sum_to, hops, down_weight, down_way, up_way, sides, lower_weight, entries, traffic}
use Rattle.world_settling.specs.Measure.{Pays, cost, per_packet, phase_weight, last_weight, unformed, command_weight, given_weight, writer_weight, LowersBoth}
use Rattle.world_settling.proofs.Sums.{sum-le}
use Rattle.world_settling.proofs.Frame.{Eases, HasFirst, entries-each, downs-sent, ups-quiet, sides-same, put-here, put-other}
use Rattle.world_settling.proofs.WriterSteps.{steps-pay}
use Rattle.world_settling.proofs.Outer.{Quiet, quiet-keeps, lower-stays, conns-stay, when-each}

and-left : (a b : Bool) → (a && b) ≡ true → a ≡ true
and-left true b e = refl
and-left false b e = cc

and-right : (a b : Bool) → (a && b) ≡ true → b ≡ true
and-right true b e = e
and-right false b e = cc

-- WHAT IS SENT

-- a connection of a writer: something was sent down there, and few members stand below
pub record IsWriters (w : World) (d : ℕ) : Type 0 where
  pub first : HasFirst (w.downs d)
  pub few : hops w d ≤ 17

-- with a packet more down this connection
abbrev sending : World → ℕ → WriterRecord → ℕ → Packet → Change
sending w b x d p = record (writer_change w b x) { downs = sent_on (Some d) (packet p ∷ []) }

sends-weight : (w : World) (b : ℕ) (x : WriterRecord) (d : ℕ) (p : Packet) → IsWriters w d → traffic (apply w (sending w b x d p)) ≤ traffic w + 102
unfolding traffic
sends-weight w b x d p c =
    let k : Change = sending w b x d p in
    let eases : (e : ℕ) → Eases w k e = λ e. omega arith in
    let lowers = sum-le (λ e. lower_weight (w.lowers e)) (λ e. lower_weight ((apply w k).lowers e)) w.next_conn (λ e lt. rw (lower-stays w k e refl) (omega arith)) in
    let held = sum-le (entries w) (entries (apply w k)) w.next_conn (λ e lt. rw (lower-stays w k e refl) (entries-each w k e (w.lowers e) lt (eases e))) in
    let downs = downs-sent w k d (packet p ∷ []) (λ e. refl) c.first in
    let one : sum_by (down_weight (hops w d)) (packet p ∷ []) ≡ 6 * hops w d + 0 = sum_by-cons (down_weight (hops w d)) (packet p) [] in
    let ups = ups-quiet w k (λ e. refl) in
    let ends = sides-same w k in
    let v : World = apply w k in
    let n = conns-stay w k refl in
    omega (arith, downs, one, c.few, ups, ends, lowers, held, ap (sum_to (down_way v)) n, ap (sum_to (up_way v)) n, ap (sum_to (sides v)) n, ap (sum_to (λ e. lower_weight (v.lowers e))) n, ap (sum_to (entries v)) n)

-- WHAT A STEP DOES

-- the writer of a change, and the others
pub writer-put : (w : World) (k : Change) → ((apply w k).writers k.writer_at) ≡ k.writer
unfolding apply
writer-put w k = put-here w.writers k.writer_at k.writer

pub writers-else : (w : World) (k : Change) (a : ℕ) → a ≢ k.writer_at → (apply w k).writers a ≡ w.writers a
unfolding apply
writers-else w k a other = put-other w.writers k.writer_at a k.writer other

-- a change by which the writer comes into this state, and no more than this is to be delivered
pub does-both : (w : World) (b : ℕ) (x : WriterRecord) (k : Change) (more given : ℕ) → k.writer_at ≡ b → k.writer.known ≡ x → traffic (apply w k) ≤ traffic w + more → writer_weight x + more + 1 ≤ writer_weight (w.writers b).known + given
    → LowersBoth w (apply w k) b given
does-both w b x k more given at is sent pays =
    let known : ((apply w k).writers b).known ≡ x = subst (λ (n : ℕ). ((apply w k).writers n).known ≡ k.writer.known) at (ap (λ (z : Writing). z.known) (writer-put w k)) ∙ is in
    record {
      is = omega (arith, sent, pays, ap writer_weight known);
      others = λ a other. writers-else w k a (λ e. other (e ∙ at));
    }

pub quiet-both : (w : World) (b : ℕ) (x : WriterRecord) (k : Change) (given : ℕ) → k.writer_at ≡ b → k.writer.known ≡ x → Quiet w k → writer_weight x + 1 ≤ writer_weight (w.writers b).known + given → LowersBoth w (apply w k) b given
quiet-both w b x k given at is quiet pays = does-both w b x k 0 given at is (omega (arith, quiet-keeps w k quiet)) (omega (arith, pays))

pub did-both : (w : World) (b given : ℕ) (waits : Option Waiting) (a : Action) (x : WriterRecord) (bytes : List ℕ) → IfSome (w.writers b).conn (IsWriters w) → writer_weight x + cost a ≤ writer_weight (w.writers b).known + given
    → IfSome (did w b waits a x bytes) (λ k. LowersBoth w (apply w k) b given)
did-both w b given waits action.Took x bytes c pays =
    quiet-both w b x (record (writer_change w b x) { session = w.latest b; bytes = bytes }) given refl refl (record { dials = refl; downs = λ d. refl; ups = λ d. refl; lower = refl; replica = refl }) pays
did-both w b given waits (action.Send p) x bytes c pays = sent (w.writers b).conn refl c where
  sent : (o : Option ℕ) → (w.writers b).conn ≡ o → IfSome o (IsWriters w) → LowersBoth w (apply w (record (writer_change w b x) { downs = sent_on (w.writers b).conn (packet p ∷ []) })) b given
  sent None is c =
      quiet-both w b x (record (writer_change w b x) { downs = sent_on (w.writers b).conn (packet p ∷ []) }) given refl refl
      (record { dials = refl; downs = λ d. ap (λ (o : Option ℕ). sent_on o (packet p ∷ []) d) is; ups = λ d. refl; lower = refl; replica = refl }) (omega (arith, pays))
  sent (Some d) is c =
      does-both w b x (record (writer_change w b x) { downs = sent_on (w.writers b).conn (packet p ∷ []) }) 102 given refl refl
      (subst (λ (o : Option ℕ). traffic (apply w (record (writer_change w b x) { downs = sent_on o (packet p ∷ []) })) ≤ traffic w + 102) (sym is) (sends-weight w b x d p c)) (omega (arith, pays))
did-both w b given waits (action.Answered n a) x bytes c pays =
    quiet-both w b x (record (writer_change w b x) { said = record { ordinal = n; answer = a } ∷ []; answered = reached_answer b waits a }) given refl refl
    (record { dials = refl; downs = λ d. refl; ups = λ d. refl; lower = refl; replica = refl }) pays
did-both w b given waits action.Wait x bytes c pays = tt
did-both w b given waits (action.Ask call) x bytes c pays = tt
did-both w b given waits (action.Dial to op) x bytes c pays = tt
did-both w b given waits action.Memory x bytes c pays = tt

-- COMMANDS

given-weight : (x : WriterRecord) (c : Command) → writer_weight (given x c) ≤ writer_weight x + command_weight c
given-weight x c = by (admitted x.intake c) where
  by : (o : Result Intake CommandFault) → writer_weight (given_as x c o) ≤ writer_weight x + command_weight c
  by (Ok i) = omega (arith, sum_by-append command_weight x.queue (c ∷ []), sum_by-cons command_weight c [])
  by (Err e) = omega arith

fewer-unsent : (p : Phase) (n : ℕ) → phase_weight p 0 ≤ phase_weight p n
fewer-unsent (phase.Streaming sent) n = omega arith
fewer-unsent phase.Closed n = omega arith
fewer-unsent (phase.Wanted s) n = omega arith
fewer-unsent (phase.Stamped s stamp) n = omega arith
fewer-unsent (phase.Requested s stamp) n = omega arith
fewer-unsent (phase.Accepted s stamp) n = omega arith
fewer-unsent phase.Opened n = omega arith
fewer-unsent phase.Closing n = omega arith
fewer-unsent phase.Finished n = omega arith
fewer-unsent phase.Completed n = omega arith
fewer-unsent (phase.Failed f) n = omega arith

ruled-weight : (x : WriterRecord) (c : Command) (r : Rule) → writer_weight (ruled x c r) ≤ writer_weight x
ruled-weight x (command.Create members) r = omega (arith, fewer-unsent x.phase (length x.stream.unacked), begun_written r 0)
ruled-weight x (command.Append members) r = omega arith
ruled-weight x (command.Write bytes) r = omega arith
ruled-weight x (command.Fill count) r = omega arith
ruled-weight x command.Hflush r = omega arith
ruled-weight x command.Hsync r = omega arith
ruled-weight x command.Close r = omega arith

given-stream : (x : WriterRecord) (c : Command) → (given x c).stream ≡ x.stream
given-stream x c = by (admitted x.intake c) where
  by : (o : Result Intake CommandFault) → (given_as x c o).stream ≡ x.stream
  by (Ok i) = refl
  by (Err e) = refl

ruled-is : (x : WriterRecord) (c : Command) (r : Rule) → is_formed c r ≡ true → IsStream x.stream → IsStream (ruled x c r).stream
ruled-is x (command.Create members) r formed s =
    let most = and-right (are_members members && nat_le MIN_CHUNK_SIZE r.chunk) (nat_le r.chunk MAX_CHUNK_SIZE) formed in
    let least = and-right (are_members members) (nat_le MIN_CHUNK_SIZE r.chunk) (and-left (are_members members && nat_le MIN_CHUNK_SIZE r.chunk) (nat_le r.chunk MAX_CHUNK_SIZE) formed) in
    begun_is r 0 (record { least = grind (arith, nat_tests, least); greatest = grind (arith, nat_tests, most) }) (omega arith)
ruled-is x (command.Append members) r formed s = s
ruled-is x (command.Write bytes) r formed s = s
ruled-is x (command.Fill count) r formed s = s
ruled-is x command.Hflush r formed s = s
ruled-is x command.Hsync r formed s = s
ruled-is x command.Close r formed s = s

-- THE STEP

takes-both : (w : World) (b : ℕ) (t : TakenCommand) → IsStream (w.writers b).known.stream → IfSome (w.writers b).conn (IsWriters w)
    → IfSome (takes_command w b (w.writers b).known t) (λ k. LowersBoth w (apply w k) b (command_weight t.command))
takes-both w b t s c =
    let x : WriterRecord = (w.writers b).known in
    let y : WriterRecord = ruled x t.command t.rule in
    let z : WriterRecord = given y t.command in
    when-each (λ k. LowersBoth w (apply w k) b (command_weight t.command)) (is_formed t.command t.rule && not (is_empty (given x t.command).queue)) (takes_given w b y t.command)
    (λ e.
    let formed = and-left (is_formed t.command t.rule) (not (is_empty (given x t.command).queue)) e in
    let fine : IsStream z.stream = subst IsStream (sym (given-stream y t.command)) (ruled-is x t.command t.rule formed s) in
    let pays = (steps-pay z fine).is in
    when-each (λ k. LowersBoth w (apply w k) b (command_weight t.command)) (is_empty (own_step z).writer.queue) (did_step w b y.waiting (own_step z) (command_bytes y t.command))
    (λ f. did-both w b (command_weight t.command) y.waiting (own_step z).action (own_step z).writer (command_bytes y t.command) c
    (omega (arith, pays, given-weight y t.command, ruled-weight x t.command t.rule))))

steps-both : (w : World) (b : ℕ) (takes : Option TakenCommand) (answered : Bool) (told : Option Told) → told ≡ None → IsStream (w.writers b).known.stream → IfSome (w.writers b).conn (IsWriters w)
    → IfSome (writer_step w b (w.writers b).known told takes answered) (λ k. LowersBoth w (apply w k) b (given_weight takes))
steps-both w b None answered None is s c = did-both w b 0 (w.writers b).known.waiting (own_step (w.writers b).known).action (own_step (w.writers b).known).writer [] c (omega (arith, (steps-pay (w.writers b).known s).is))
steps-both w b (Some t) answered None is s c = takes-both w b t s c
steps-both w b takes answered (Some told) is s c = cc

-- An own step of a writer for which no answer of the office waits, and below whose connection few members stand.
pub own-both : (w : World) (b : ℕ) (takes : Option TakenCommand) (answered : Bool) → (w.writers b).told ≡ None → IsStream (w.writers b).known.stream → IfSome (w.writers b).conn (IsWriters w)
    → IfSome (own_writer w b takes answered) (λ k. LowersBoth w (apply w k) b (given_weight takes))
own-both w b takes answered is s c = steps-both w b takes answered (w.writers b).told is s c
