-- What writers and readers leave of ends that were taken.
use Rattle.std.proofs.Common.{◌≡◌, ℕ, Bool, true, false, List, [], ◌∷◌, Option, Some, None, IfSome, refl, ap, ◌∙◌, subst}
use Rattle.std.specs.Prelude.{◌==◌, ◌&&◌, not, is_none, if◌then◌else◌}
use Rattle.hd_base.specs.declared.numbers.NodeId.{NodeId}
use Rattle.hd_base.specs.declared.numbers.Stamp.{Stamp}
use Rattle.op_headers.specs.declared.ops.Op.{Op}
use Rattle.op_headers.specs.declared.ops.ReadOp.{ReadOp}
use Rattle.world_laws.specs.WriterCore.Action.{Action}
use Rattle.world_laws.specs.WriterCore.Action.TheVariants as action
use Rattle.world_laws.specs.WriterCore.Phase.{Phase}
use Rattle.world_laws.specs.WriterCore.Phase.TheVariants as phase
use Rattle.world_laws.specs.WriterCore.Setup.{Setup}
use Rattle.world_laws.specs.WriterCore.Waiting.{Waiting}
use Rattle.world_laws.specs.WriterCore.WriterRecord.{WriterRecord}
use Rattle.world_laws.specs.WriterCore.Commands.{admitted}
use Rattle.world_laws.specs.WriterCore.Requests.{request_for}
use Rattle.world_laws.specs.WriterCore.Transitions.{given, own_step, dial_step_as, open_step, completed_step, granted, dialled, is_connected}
use Rattle.world_laws.specs.WriterCore.Transitions as writer
use Rattle.world_laws.specs.ReadCore.ReadTurn.{ReadTurn}
use Rattle.world_laws.specs.ReadCore.ReadTurn.TheVariants as turn
use Rattle.world_laws.specs.ReadCore.Readings.{ReadTaken, take_from}
use Rattle.world_laws.specs.World.TakenCommand.{TakenCommand}
use Rattle.world_laws.specs.World.Parts.{Message, packet, ack, response, request, read_status, recovery_answer, Marks, Told, Reader, no_reader, reads, has_read}
use Rattle.world_laws.specs.World.Worlds.{World}
use Rattle.world_laws.specs.World.Connections.{Next, message, the_end, is_conn}
use Rattle.world_laws.specs.World.Clients.{writing_as, did, dialled_change, dialling, rest_in, is_empty, is_formed, ruled, command_bytes, takes_step, takes_command, writer_step, own_writer, writer_hears, writer_up, named_member, reader_dials, own_reader_as, own_reader, from_node_of, reader_turn, reader_up_as, reader_up}
use Rattle.world_laws.proofs.FactTables.{when-each}
use Rattle.world_orders.specs.Orders.{has_members}
use Rattle.world_orders.proofs.Clients.{clash, alike-then, given-alike, ruled-alike}
use Rattle.world_orders.proofs.Writing.{Follows, own-follows, granted-follows, ended-follows, acked-follows, answered-keeps, ended-gone, dialled-gone, dialled-asks, dialled-keeps}
use Rattle.world_orders.proofs.OpenFrame.{IsOpenConn, IsOpenWriter, Beside, WriterOpens}

-- A writer's next state is right for the connection that it keeps.
abbrev pub NextOpens : World → ℕ → WriterRecord → Type 0
NextOpens v b y = (c : ℕ) → (v.writers b).conn ≡ Some c → is_connected y.phase ≡ true → IsOpenConn (v.up_marks c).over y

by-gone : (v : World) (b : ℕ) (y : WriterRecord) → is_connected y.phase ≡ false → NextOpens v b y
by-gone v b y g = λ c on e. absurd (clash (is_connected y.phase) g e)

-- it keeps its members
by-members : (v : World) (b : ℕ) (y : WriterRecord) → IsOpenWriter v.up_marks (v.writers b) → (is_connected y.phase ≡ true → y.members ≡ (v.writers b).known.members) → NextOpens v b y
by-members v b y h keeps = λ c on e.
    let was : IsOpenConn (v.up_marks c).over (v.writers b).known = subst (λ (o : Option ℕ). IfSome o (λ n. IsOpenConn (v.up_marks n).over (v.writers b).known)) on h in
    record { open_is = was.open_is; connected = e; members = ap has_members (keeps e) ∙ was.members }

by-follows : (v : World) (b : ℕ) (y : WriterRecord) → IsOpenWriter v.up_marks (v.writers b) → Follows (v.writers b).known y → NextOpens v b y
by-follows v b y h f = by-members v b y h (λ e. f.keeps e)

-- THE CHANGE OF A WRITER

next-writer : (v : World) (b : ℕ) (y : WriterRecord) → NextOpens v b y → IsOpenWriter v.up_marks (writing_as y (v.writers b).conn)
next-writer v b y next = go (is_connected y.phase) refl (v.writers b).conn refl
  where
    go : (connected : Bool) → is_connected y.phase ≡ connected → (o : Option ℕ) → (v.writers b).conn ≡ o → IfSome (if connected then o else None) (λ c. IsOpenConn (v.up_marks c).over y)
    go false e o on = tt
    go true e None on = tt
    go true e (Some c) on = next c on e

did-opens : (v : World) (b : ℕ) (waits : Option Waiting) (a : Action) (y : WriterRecord) (bytes : List ℕ) → NextOpens v b y → IfSome (did v b waits a y bytes) (WriterOpens v b)
did-opens v b waits action.Wait y bytes next = tt
did-opens v b waits action.Took y bytes next = record { at_is = refl; lower_same = refl; writer = next-writer v b y next }
did-opens v b waits (action.Ask c) y bytes next = tt
did-opens v b waits (action.Dial to r) y bytes next = tt
did-opens v b waits (action.Send q) y bytes next = record { at_is = refl; lower_same = refl; writer = next-writer v b y next }
did-opens v b waits (action.Answered n a) y bytes next = record { at_is = refl; lower_same = refl; writer = next-writer v b y next }
did-opens v b waits action.Memory y bytes next = tt

-- DIALS

-- a new connection has no end that was taken
dialled-opens : (v : World) (b : ℕ) (x : WriterRecord) (to : NodeId) (r : Op) (s : Setup) (stamp : Stamp) (answered : Bool) → x.phase ≡ phase.Stamped s stamp → has_members x.members ≡ true
    → (v.up_marks v.next_conn).over ≡ false → WriterOpens v b (dialled_change v b x to r answered)
dialled-opens v b x to r s stamp true e some fresh = record {
  at_is = refl;
  lower_same = refl;
  writer = record { open_is = fresh; connected = ap is_connected (dialled-asks x s stamp e); members = ap has_members (dialled-keeps x) ∙ some };
}
dialled-opens v b x to r s stamp false e some fresh = record {
  at_is = refl;
  lower_same = refl;
  writer = next-writer v b (dialled x false) (by-gone v b (dialled x false) (dialled-gone x s stamp e some));
}

dialling-opens : (v : World) (b : ℕ) (x : WriterRecord) (s : Setup) (stamp : Stamp) (members : List NodeId) (answered : Bool) → x.phase ≡ phase.Stamped s stamp → x.members ≡ members
    → (v.up_marks v.next_conn).over ≡ false → WriterOpens v b (dialling v b x (dial_step_as x s stamp members).action answered)
unfolding request_for
dialling-opens v b x s stamp [] answered e m fresh = record { at_is = refl; lower_same = refl; writer = next-writer v b x (by-gone v b x (ap is_connected e)) }
dialling-opens v b x s stamp (n ∷ ns) answered e m fresh = dialled-opens v b x n _ s stamp (answered && v.running n.0) e (ap has_members m) fresh

-- OWN STEPS

-- a step that changes nothing else
alone : (v : World) (b : ℕ) (x : WriterRecord) → IsOpenWriter v.up_marks (v.writers b) → Follows (v.writers b).known x → IsOpenWriter v.up_marks (writing_as x (v.writers b).conn)
alone v b x h f = next-writer v b x (by-follows v b x h f)

rest-opens : (q : Phase) (v : World) (b : ℕ) (x : WriterRecord) (answered : Bool) → x.phase ≡ q → Follows (v.writers b).known x → IsOpenWriter v.up_marks (v.writers b)
    → (v.up_marks v.next_conn).over ≡ false → IfSome (rest_in q v b x answered) (WriterOpens v b)
rest-opens phase.Closed v b x answered e f h fresh = record { at_is = refl; lower_same = refl; writer = alone v b x h f }
rest-opens (phase.Wanted s) v b x answered e f h fresh = record { at_is = refl; lower_same = refl; writer = alone v b x h f }
rest-opens (phase.Stamped s stamp) v b x answered e f h fresh = dialling-opens v b x s stamp x.members answered e refl fresh
rest-opens (phase.Requested s stamp) v b x answered e f h fresh = record { at_is = refl; lower_same = refl; writer = alone v b x h f }
rest-opens (phase.Accepted s stamp) v b x answered e f h fresh = record { at_is = refl; lower_same = refl; writer = alone v b x h f }
rest-opens phase.Opened v b x answered e f h fresh =
    did-opens v b x.waiting (open_step x).action (open_step x).writer [] (by-members v b (open_step x).writer h (λ _. f.keeps (ap is_connected e)))
rest-opens (phase.Streaming sent) v b x answered e f h fresh = record { at_is = refl; lower_same = refl; writer = alone v b x h f }
rest-opens phase.Closing v b x answered e f h fresh = record { at_is = refl; lower_same = refl; writer = alone v b x h f }
rest-opens phase.Finished v b x answered e f h fresh = record { at_is = refl; lower_same = refl; writer = alone v b x h f }
rest-opens phase.Completed v b x answered e f h fresh =
    did-opens v b x.waiting (completed_step x).action (completed_step x).writer [] (by-gone v b (completed_step x).writer refl)
rest-opens (phase.Failed g) v b x answered e f h fresh = record { at_is = refl; lower_same = refl; writer = alone v b x h f }

takes-opens : (v : World) (b : ℕ) (waits : Option Waiting) (s : writer.Step) (bytes : List ℕ) → NextOpens v b s.writer → IfSome (takes_step v b waits s bytes) (WriterOpens v b)
takes-opens v b waits s bytes next = when-each (WriterOpens v b) (is_empty s.writer.queue) _ (λ _. did-opens v b waits s.action s.writer bytes next)

command-opens : (v : World) (b : ℕ) (t : TakenCommand) → IsOpenWriter v.up_marks (v.writers b) → IfSome (takes_command v b (v.writers b).known t) (WriterOpens v b)
command-opens v b t h =
    let x = (v.writers b).known in
    let y = ruled x t.command t.rule in
    when-each (WriterOpens v b) (is_formed t.command t.rule && not (is_empty (given x t.command).queue)) _
    (λ _. takes-opens v b y.waiting (own_step (given y t.command)) (command_bytes y t.command)
    (by-follows v b _ h (alike-then x y _ (ruled-alike x t.command t.rule) (alike-then y (given y t.command) _ (given-alike y t.command (admitted y.intake t.command)) (own-follows (given y t.command))))))

step-opens : (v : World) (b : ℕ) (told : Option Told) (takes : Option TakenCommand) (answered : Bool) → IsOpenWriter v.up_marks (v.writers b) → (v.up_marks v.next_conn).over ≡ false
    → IfSome (writer_step v b (v.writers b).known told takes answered) (WriterOpens v b)
step-opens v b (Some told) None answered h fresh =
    rest-opens (granted (v.writers b).known told).phase v b (granted (v.writers b).known told) answered refl (granted-follows (v.writers b).known told) h fresh
step-opens v b (Some told) (Some t) answered h fresh = tt
step-opens v b None None answered h fresh =
    did-opens v b (v.writers b).known.waiting (own_step (v.writers b).known).action (own_step (v.writers b).known).writer [] (by-follows v b _ h (own-follows (v.writers b).known))
step-opens v b None (Some t) answered h fresh = command-opens v b t h

pub own-writer-opens : (v : World) (b : ℕ) (takes : Option TakenCommand) (answered : Bool) → IsOpenWriter v.up_marks (v.writers b) → (v.up_marks v.next_conn).over ≡ false
    → IfSome (own_writer v b takes answered) (WriterOpens v b)
own-writer-opens v b takes answered h fresh = step-opens v b (v.writers b).told takes answered h fresh

-- WHAT A WRITER TAKES

-- a message leaves the members of a writer that is still connected
hears-keeps : (x : WriterRecord) (m : Message) → is_connected (writer_hears x (message m)).phase ≡ true → (writer_hears x (message m)).members ≡ x.members
hears-keeps x (response r) e = answered-keeps x r (named_member x.members r.first_bad) e
hears-keeps x (ack a) e = (acked-follows x a).keeps e
hears-keeps x (request r) e = (ended-follows x).keeps e
hears-keeps x (packet q) e = (ended-follows x).keeps e
hears-keeps x (read_status s) e = (ended-follows x).keeps e
hears-keeps x (recovery_answer a) e = (ended-follows x).keeps e

-- Once it has taken the end, it has no connection; a message leaves it open.
hears-opens : (v : World) (marks : ℕ → Marks) (b : ℕ) (x : Next) → IsOpenWriter marks (v.writers b) → ((y : Message) → x ≡ message y → IsOpenWriter v.up_marks (v.writers b))
    → NextOpens v b (writer_hears (v.writers b).known x)
hears-opens v marks b (message y) h k = by-members v b _ (k y refl) (λ e. hears-keeps (v.writers b).known y e)
hears-opens v marks b the_end h k = λ c on e.
    let was : IsOpenConn (marks c).over (v.writers b).known = subst (λ (o : Option ℕ). IfSome o (λ n. IsOpenConn (marks n).over (v.writers b).known)) on h in
    absurd (clash _ (ended-gone (v.writers b).known was.connected was.members) e)

pub writer-up-opens : (v : World) (marks : ℕ → Marks) (b c : ℕ) (x : Next) → IsOpenWriter marks (v.writers b) → ((y : Message) → x ≡ message y → IsOpenWriter v.up_marks (v.writers b))
    → IfSome (writer_up v b c x) (WriterOpens v b)
writer-up-opens v marks b c x h k = when-each (WriterOpens v b) (is_conn (v.writers b).conn c && is_none (v.writers b).told) _ (λ _. record {
  at_is = refl;
  lower_same = refl;
  writer = next-writer v b _ (hears-opens v marks b x h k);
})

-- READERS

reader-dials-beside : (v : World) (i n : ℕ) (r : ReadOp) (answered : Bool) → Beside v (reader_dials v i n r answered)
reader-dials-beside v i n r true = record { lower_same = refl; writer_same = refl }
reader-dials-beside v i n r false = record { lower_same = refl; writer_same = refl }

own-reader-as-beside : (x : Reader) (v : World) (i n : ℕ) (r : ReadOp) (answered : Bool) → IfSome (own_reader_as x v i n r answered) (Beside v)
own-reader-as-beside no_reader v i n r answered = reader-dials-beside v i n r (answered && v.running n)
own-reader-as-beside (reads c s) v i n r answered = tt
own-reader-as-beside (has_read b) v i n r answered = tt

pub own-reader-beside : (v : World) (i n : ℕ) (r : ReadOp) (answered : Bool) → IfSome (own_reader v i n r answered) (Beside v)
own-reader-beside v i n r answered = own-reader-as-beside (v.readers i) v i n r answered

reader-turn-beside : (v : World) (i c : ℕ) (t : ReadTaken) (d : ReadTurn) → Beside v (reader_turn v i c t d)
reader-turn-beside v i c t turn.Goes = record { lower_same = refl; writer_same = refl }
reader-turn-beside v i c t turn.Verified = record { lower_same = refl; writer_same = refl }
reader-turn-beside v i c t (turn.Fails f) = record { lower_same = refl; writer_same = refl }

reader-up-as-beside : (r : Reader) (v : World) (i c : ℕ) (x : Next) → IfSome (reader_up_as r v i c x) (Beside v)
reader-up-as-beside no_reader v i c x = tt
reader-up-as-beside (reads d s) v i c x = when-each (Beside v) (d == c) _ (λ _. reader-turn-beside v i c (take_from s (from_node_of x)) (take_from s (from_node_of x)).does)
reader-up-as-beside (has_read b) v i c x = tt

pub reader-up-beside : (v : World) (i c : ℕ) (x : Next) → IfSome (reader_up v i c x) (Beside v)
reader-up-beside v i c x = reader-up-as-beside (v.readers i) v i c x
