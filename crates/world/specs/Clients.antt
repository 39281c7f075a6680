-- Writers and readers: their own steps, and what they take from their connections.
use Rattle.std.specs.Prelude.{ℕ, ◌==◌, ◌&&◌, nat_le, not, is_none, if◌then◌else◌, Bool, true, false, List, [], ◌∷◌, length, find, Option, Some, None, Ok, Err}
use Rattle.std.specs.List.{list_any}
use Rattle.std.specs.Cmp.Lexicographic.{pointwise}
use Rattle.member_core.specs.HdBase.NodeId.{NodeId}
use Rattle.member_core.specs.HdBase.TheConstants.{MAX_MEMBERS}
use Rattle.member_core.specs.HdBase.SumRuleTheConstants.{MIN_CHUNK_SIZE, MAX_CHUNK_SIZE}
use Rattle.member_core.specs.HdBase.Status.TheVariants as status
use Rattle.member_core.specs.HdBase.SumRules.{Rule}
use Rattle.member_core.specs.OpHeaders.Op.{Op}
use Rattle.member_core.specs.OpHeaders.Op.TheVariants as op
use Rattle.member_core.specs.OpHeaders.ReadOp.{ReadOp}
use Rattle.node_refs.specs.NodeRefs.{ref_of}
use Rattle.packet_stream.specs.Streams.{begun, fill_bytes, written_in}
use Rattle.member_core.specs.Requests.{first_address}
use Rattle.writer_core.specs.declared.actions.Action.{Action}
use Rattle.writer_core.specs.declared.actions.Action.TheVariants as action
use Rattle.writer_core.specs.declared.actions.ClientAnswer.{ClientAnswer}
use Rattle.writer_core.specs.declared.actions.ClientAnswer.TheVariants as answer
use Rattle.writer_core.specs.declared.commands.Command.{Command}
use Rattle.writer_core.specs.declared.commands.Command.TheVariants as command
use Rattle.writer_core.specs.declared.phases.Phase.{Phase}
use Rattle.writer_core.specs.declared.phases.Phase.TheVariants as phase
use Rattle.writer_core.specs.declared.phases.Waiting.{Waiting}
use Rattle.writer_core.specs.declared.phases.Waiting.TheVariants as waiting
use Rattle.writer_core.specs.declared.records.WriterRecord.{WriterRecord}
use Rattle.writer_core.specs.Transitions.{given, own_step, dial_step, open_step, completed_step, granted, dialled, setup_answered, acked, ended, is_connected}
use Rattle.writer_core.specs.Transitions as writer
use Rattle.read_core.specs.declared.reading.FromNode.{FromNode}
use Rattle.read_core.specs.declared.reading.FromNode.TheVariants as from_node
use Rattle.read_core.specs.declared.reading.ReadFault.TheVariants as read_fault
use Rattle.read_core.specs.declared.reading.ReadTurn.{ReadTurn}
use Rattle.read_core.specs.declared.reading.ReadTurn.TheVariants as turn
use Rattle.read_core.specs.Readings.{ReadTaken, asked, take_from}
use Rattle.world.specs.declared.events.TakenCommand.{TakenCommand}
use Rattle.world.specs.Parts.{request, packet, ack, response, read_status, by_writer, by_reader, Told, Writing, Reader, no_reader, reads, has_read, Reaching, by_hflush, by_hsync, by_close, Answered}
use Rattle.world.specs.Worlds.{World, Change, still}
use Rattle.world.specs.Connections.{Next, message, the_end, place_of, sent_on, is_conn}

-- WRITERS

-- a writer in this state, with the connection that it had where it still has one
abbrev pub writing_as : WriterRecord → Option ℕ → Writing
writing_as x conn = record { known = x; conn = if is_connected x.phase then conn else None; told = None }

-- which connection a writer shuts that comes into this phase
abbrev pub given_up : Phase → Option ℕ → ℕ → Bool
given_up p conn = if is_connected p then (λ _. false) else is_conn conn

-- the writer of a block comes into this state
abbrev pub writer_change : World → ℕ → WriterRecord → Change
writer_change w b x = record (still w) {
  writer_at = b;
  writer = writing_as x (w.writers b).conn;
  shuts = given_up x.phase (w.writers b).conn;
}

-- the command that waits is the one of an answer with a length
abbrev pub reached_by : Option Waiting → Reaching
reached_by (Some (waiting.Flush n)) = by_hflush
reached_by (Some (waiting.Sync n p)) = by_hsync
reached_by _ = by_close

-- an answer that tells a length
abbrev pub reached_answer : ℕ → Option Waiting → ClientAnswer → Option Answered
reached_answer b waits (answer.Reached n stamp members) =
    Some (record { block = b; command = reached_by waits; length = n; stamp = stamp.0; members = members })
reached_answer b waits _ = None

-- What a writer has done in its own step: it took a command, with these bytes, sent a packet, or answered. A step that waits or asks is none.
abbrev pub did : World → ℕ → Option Waiting → Action → WriterRecord → List ℕ → Option Change
did w b waits action.Took x bytes = Some (record (writer_change w b x) { session = w.latest b; bytes = bytes })
did w b waits (action.Send p) x bytes =
    Some (record (writer_change w b x) { downs = sent_on (w.writers b).conn (packet p ∷ []) })
did w b waits (action.Answered n a) x bytes =
    Some (record (writer_change w b x) {
      said = record { ordinal = n; answer = a } ∷ [];
      answered = reached_answer b waits a;
    })
did w b waits _ x bytes = None

abbrev pub did_step : World → ℕ → Option Waiting → writer.Step → List ℕ → Option Change
did_step w b waits s bytes = did w b waits s.action s.writer bytes

-- the first member was dialled: answered, the request goes down on the new connection
abbrev pub dialled_change : World → ℕ → WriterRecord → NodeId → Op → Bool → Change
dialled_change w b x to r true = record (still w) {
  writer_at = b;
  writer = record { known = dialled x true; conn = Some w.next_conn; told = None };
  dials = record {
    dialled = record { upper = by_writer b; from = None; to = place_of w to.0 };
    request = request r;
  } ∷ [];
}
dialled_change w b x to r false = writer_change w b (dialled x false)

abbrev pub dialling : World → ℕ → WriterRecord → Action → Bool → Change
dialling w b x (action.Dial to r) answered = dialled_change w b x to r (answered && w.running to.0)
dialling w b x _ answered = writer_change w b x

-- The rest of the step in which a writer asked the office, once it has the answer: it dials, or answers its command, or goes no further.
abbrev pub rest_in : Phase → World → ℕ → WriterRecord → Bool → Option Change
rest_in (phase.Stamped s stamp) w b x answered = Some (dialling w b x (dial_step x s stamp).action answered)
rest_in phase.Opened w b x answered = did_step w b x.waiting (open_step x) []
rest_in phase.Completed w b x answered = did_step w b x.waiting (completed_step x) []
rest_in _ w b x answered = Some (writer_change w b x)

abbrev pub rest_change : World → ℕ → WriterRecord → Bool → Option Change
rest_change w b x answered = rest_in x.phase w b x answered

-- COMMANDS

-- some nodes are at most so many, and none stands twice
abbrev pub are_distinct : List NodeId → Bool
are_distinct [] = true
are_distinct (n ∷ ns) = not (list_any (λ m. m.0 == n.0) ns) && are_distinct ns

abbrev pub are_members : List NodeId → Bool
are_members nodes = nat_le (length nodes) MAX_MEMBERS && are_distinct nodes

-- what a command's type keeps: members that are at most 16 and distinct, and a rule with a chunk size
abbrev pub is_formed : Command → Rule → Bool
is_formed (command.Create members) rule = are_members members && nat_le MIN_CHUNK_SIZE rule.chunk &&
    nat_le rule.chunk MAX_CHUNK_SIZE
is_formed (command.Append members) rule = are_members members
is_formed _ rule = true

-- a create brings the rule of the block's sums
abbrev pub ruled : WriterRecord → Command → Rule → WriterRecord
ruled x (command.Create members) rule = record x { stream = begun rule 0 }
ruled x _ rule = x

-- the bytes that a command writes
abbrev pub command_bytes : WriterRecord → Command → List ℕ
command_bytes x (command.Write bytes) = bytes
command_bytes x (command.Fill count) = fill_bytes x.block (written_in x.stream) count
command_bytes x _ = []

abbrev pub is_empty : List Command → Bool
is_empty [] = true
is_empty _ = false

-- The command is given and taken at once: the step is that one only where the command doesn't stay in the queue.
abbrev pub takes_step : World → ℕ → Option Waiting → writer.Step → List ℕ → Option Change
takes_step w b waits s bytes = if is_empty s.writer.queue then did_step w b waits s bytes else None

abbrev pub takes_given : World → ℕ → WriterRecord → Command → Option Change
takes_given w b x c = takes_step w b x.waiting (own_step (given x c)) (command_bytes x c)

-- A writer takes a command that is formed as commands are and fits those before it.
abbrev pub takes_command : World → ℕ → WriterRecord → TakenCommand → Option Change
takes_command w b x t =
    if is_formed t.command t.rule && not (is_empty (given x t.command).queue)
    then takes_given w b (ruled x t.command t.rule) t.command else None

-- A writer that has an answer of the office goes on with its step, and takes no command in it.
abbrev pub writer_step : World → ℕ → WriterRecord → Option Told → Option TakenCommand → Bool → Option Change
writer_step w b x (Some told) None answered = rest_change w b (granted x told) answered
writer_step w b x (Some told) (Some t) answered = None
writer_step w b x None None answered = did_step w b x.waiting (own_step x) []
writer_step w b x None (Some t) answered = takes_command w b x t

abbrev pub own_writer : World → ℕ → Option TakenCommand → Bool → Option Change
own_writer w b takes answered = writer_step w b (w.writers b).known (w.writers b).told takes answered

-- WHAT A WRITER TAKES

-- the member whose address this text is
abbrev pub named_member : List NodeId → List ℕ → Option NodeId
named_member members text = find (λ m. pointwise ◌==◌ (first_address (ref_of m ∷ [])) text) members

-- a writer after it took this: what is neither answer nor ack counts as an end
abbrev pub writer_hears : WriterRecord → Next → WriterRecord
writer_hears x (message (response r)) = setup_answered x r (named_member x.members r.first_bad)
writer_hears x (message (ack a)) = acked x a
writer_hears x (message m) = ended x
writer_hears x the_end = ended x

-- A writer takes only from the connection that it has, and nothing while an answer of the office waits for it.
abbrev pub writer_up : World → ℕ → ℕ → Next → Option Change
writer_up w b c x =
    if is_conn (w.writers b).conn c && is_none (w.writers b).told
    then Some (writer_change w b (writer_hears (w.writers b).known x)) else None

-- READERS

abbrev pub reader_change : World → ℕ → Reader → Change
reader_change w i r = record (still w) { reader_at = i; reader = r }

-- a new reader dials a node, answered or not
abbrev pub reader_dials : World → ℕ → ℕ → ReadOp → Bool → Change
reader_dials w i n r true = record (reader_change w i (reads w.next_conn (asked r))) {
  dials = record {
    dialled = record { upper = by_reader i; from = None; to = place_of w n };
    request = request (op.Read r);
  } ∷ [];
}
reader_dials w i n r false = reader_change w i (has_read (Err read_fault.Ended))

abbrev pub own_reader_as : Reader → World → ℕ → ℕ → ReadOp → Bool → Option Change
own_reader_as no_reader w i n r answered = Some (reader_dials w i n r (answered && w.running n))
own_reader_as _ w i n r answered = None

abbrev pub own_reader : World → ℕ → ℕ → ReadOp → Bool → Option Change
own_reader w i n r answered = own_reader_as (w.readers i) w i n r answered

abbrev pub from_node_of : Next → FromNode
from_node_of (message (response r)) = from_node.Response r
from_node_of (message (packet p)) = from_node.Packet p
from_node_of (message m) = from_node.Unreadable
from_node_of the_end = from_node.End

-- A reader that has its result shuts, after it has answered that it has verified all, where it has.
abbrev pub reader_turn : World → ℕ → ℕ → ReadTaken → ReadTurn → Change
reader_turn w i c t turn.Goes = reader_change w i (reads c t.reading)
reader_turn w i c t turn.Verified = record (reader_change w i (has_read (Ok t.reading.bytes))) {
  downs = sent_on (Some c) (read_status status.ChecksumOk ∷ []);
  shuts = is_conn (Some c);
}
reader_turn w i c t (turn.Fails f) = record (reader_change w i (has_read (Err f))) { shuts = is_conn (Some c) }

abbrev pub reader_takes : World → ℕ → ℕ → ReadTaken → Change
reader_takes w i c t = reader_turn w i c t t.does

abbrev pub reader_up_as : Reader → World → ℕ → ℕ → Next → Option Change
reader_up_as (reads d s) w i c x = if d == c then Some (reader_takes w i c (take_from s (from_node_of x))) else None
reader_up_as _ w i c x = None

abbrev pub reader_up : World → ℕ → ℕ → Next → Option Change
reader_up w i c x = reader_up_as (w.readers i) w i c x
