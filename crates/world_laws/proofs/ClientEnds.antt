-- What writers and readers leave in range.
use Rattle.std.proofs.Common.{◌≡◌, ℕ, ◌<◌, ◌≤◌, ◌+◌, Bool, true, false, List, [], Option, Some, None, IfSome, Ok, Err, refl, arith}
use Rattle.std.specs.Prelude.{◌==◌, ◌&&◌, not, is_none, if◌then◌else◌}
use Rattle.hd_base.specs.declared.numbers.NodeId.{NodeId}
use Rattle.world.specs.OpHeaders.Op.{Op}
use Rattle.world.specs.OpHeaders.ReadOp.{ReadOp}
use Rattle.world.specs.WriterCore.Action.{Action}
use Rattle.world.specs.WriterCore.Action.TheVariants as action
use Rattle.world.specs.WriterCore.Phase.{Phase}
use Rattle.world.specs.WriterCore.Phase.TheVariants as phase
use Rattle.world.specs.WriterCore.Waiting.{Waiting}
use Rattle.world.specs.WriterCore.WriterRecord.{WriterRecord}
use Rattle.world.specs.WriterCore.Transitions.{given, own_step, dial_step, open_step, completed_step, granted, dialled, is_connected}
use Rattle.world.specs.WriterCore.Transitions as writer
use Rattle.world.specs.ReadCore.ReadTurn.{ReadTurn}
use Rattle.world.specs.ReadCore.ReadTurn.TheVariants as turn
use Rattle.world.specs.ReadCore.Readings.{ReadTaken, take_from}
use Rattle.world.specs.declared.events.TakenCommand.{TakenCommand}
use Rattle.world.specs.Parts.{Told, Reader, no_reader, reads, has_read}
use Rattle.world.specs.Worlds.{World, Dial}
use Rattle.world.specs.Connections.{Next, is_conn}
use Rattle.world.specs.Clients.{writer_change, did, dialled_change, dialling, rest_in, is_empty, is_formed, ruled, command_bytes, takes_step, takes_command, writer_step, own_writer, writer_hears, writer_up, reader_change, reader_dials, own_reader_as, own_reader, from_node_of, reader_turn, reader_up_as, reader_up}
use Rattle.world_laws.specs.Placing.{IsConn, IsDialled, IsReader, Placed}
use Rattle.world_laws.proofs.FactTables.{when-each, and-right}
use Rattle.world_laws.proofs.PlaceConns.{conn-out, sent-out, no-conn, one-conn}
use Rattle.world_laws.proofs.PlaceFitting.{conn-later, Fits}
use Rattle.world_laws.proofs.PlaceLeaves.{rest, no-dial, first-idle}
use Rattle.world_laws.proofs.PlaceSetups.{one-dial}

-- WRITERS

conn-kept : (conns : ℕ) (b : Bool) (o : Option ℕ) → IsConn conns o → IsConn conns (if b then o else None)
conn-kept conns true o h = h
conn-kept conns false o h = no-conn conns

given-up-out : (conns : ℕ) (b : Bool) (o : Option ℕ) → IsConn conns o → (d : ℕ) → conns ≤ d → (if b then (λ (c : ℕ). false) else is_conn o) d ≡ false
given-up-out conns true o h d le = refl
given-up-out conns false o h d le = conn-out conns d o h le

writer-fits : (w : World) (b : ℕ) (x : WriterRecord) → Placed w → Fits w (writer_change w b x)
writer-fits w b x h =
    let r = rest w (w.next_conn + 0) (omega arith) h in
    record {
      dials = no-dial (λ d. IsDialled w.nodes (w.next_conn + 0) d.dialled);
      downs = λ d e. refl;
      ups = λ d e. refl;
      shuts = given-up-out w.next_conn (is_connected x.phase) (w.writers b).conn (h.writers b);
      lower_at = first-idle w h;
      lower = r.lower;
      writer = conn-later w.next_conn (w.next_conn + 0) _ (omega arith) (conn-kept w.next_conn (is_connected x.phase) (w.writers b).conn (h.writers b));
      reader = r.reader;
      primary = r.primary;
    }

did-fits : (w : World) (b : ℕ) (waits : Option Waiting) (a : Action) (x : WriterRecord) (bytes : List ℕ) → Placed w → IfSome (did w b waits a x bytes) (Fits w)
did-fits w b waits action.Wait x bytes h = tt
did-fits w b waits action.Took x bytes h =
    let k = writer-fits w b x h in
    record { dials = k.dials; downs = k.downs; ups = k.ups; shuts = k.shuts; lower_at = k.lower_at; lower = k.lower; writer = k.writer; reader = k.reader; primary = k.primary }
did-fits w b waits (action.Ask c) x bytes h = tt
did-fits w b waits (action.Dial to r) x bytes h = tt
did-fits w b waits (action.Send p) x bytes h =
    let k = writer-fits w b x h in
    record {
      dials = k.dials;
      downs = λ d e. sent-out w.next_conn d (w.writers b).conn _ (h.writers b) e;
      ups = k.ups;
      shuts = k.shuts;
      lower_at = k.lower_at;
      lower = k.lower;
      writer = k.writer;
      reader = k.reader;
      primary = k.primary;
    }
did-fits w b waits (action.Answered n a) x bytes h =
    let k = writer-fits w b x h in
    record { dials = k.dials; downs = k.downs; ups = k.ups; shuts = k.shuts; lower_at = k.lower_at; lower = k.lower; writer = k.writer; reader = k.reader; primary = k.primary }
did-fits w b waits action.Memory x bytes h = tt

dialled-fits : (w : World) (b : ℕ) (x : WriterRecord) (to : NodeId) (r : Op) (answered : Bool) → (answered ≡ true → w.running to.0 ≡ true) → Placed w
    → Fits w (dialled_change w b x to r answered)
dialled-fits w b x to r true runs h =
    let k = rest w (w.next_conn + 1) (omega arith) h in
    record {
      dials = λ i d e. one-dial (λ (y : Dial). IsDialled w.nodes (w.next_conn + 1) y.dialled) _ i d (record { to = h.runs to.0 (runs refl); from = tt; upper = tt }) e;
      downs = λ d e. refl;
      ups = λ d e. refl;
      shuts = λ d e. refl;
      lower_at = first-idle w h;
      lower = k.lower;
      writer = one-conn (w.next_conn + 1) w.next_conn (omega arith);
      reader = k.reader;
      primary = k.primary;
    }
dialled-fits w b x to r false runs h = writer-fits w b (dialled x false) h

dialling-fits : (w : World) (b : ℕ) (x : WriterRecord) (a : Action) (answered : Bool) → Placed w → Fits w (dialling w b x a answered)
dialling-fits w b x action.Wait answered h = writer-fits w b x h
dialling-fits w b x action.Took answered h = writer-fits w b x h
dialling-fits w b x (action.Ask c) answered h = writer-fits w b x h
dialling-fits w b x (action.Dial to r) answered h =
    dialled-fits w b x to r (answered && w.running to.0) (λ e. and-right answered (w.running to.0) e) h
dialling-fits w b x (action.Send p) answered h = writer-fits w b x h
dialling-fits w b x (action.Answered n a) answered h = writer-fits w b x h
dialling-fits w b x action.Memory answered h = writer-fits w b x h

rest-fits : (p : Phase) (w : World) (b : ℕ) (x : WriterRecord) (answered : Bool) → Placed w → IfSome (rest_in p w b x answered) (Fits w)
rest-fits phase.Closed w b x answered h = writer-fits w b x h
rest-fits (phase.Wanted s) w b x answered h = writer-fits w b x h
rest-fits (phase.Stamped s stamp) w b x answered h = dialling-fits w b x (dial_step x s stamp).action answered h
rest-fits (phase.Requested s stamp) w b x answered h = writer-fits w b x h
rest-fits (phase.Accepted s stamp) w b x answered h = writer-fits w b x h
rest-fits phase.Opened w b x answered h = did-fits w b x.waiting (open_step x).action (open_step x).writer [] h
rest-fits (phase.Streaming sent) w b x answered h = writer-fits w b x h
rest-fits phase.Closing w b x answered h = writer-fits w b x h
rest-fits phase.Finished w b x answered h = writer-fits w b x h
rest-fits phase.Completed w b x answered h = did-fits w b x.waiting (completed_step x).action (completed_step x).writer [] h
rest-fits (phase.Failed f) w b x answered h = writer-fits w b x h

takes-fits : (w : World) (b : ℕ) (waits : Option Waiting) (s : writer.Step) (bytes : List ℕ) → Placed w → IfSome (takes_step w b waits s bytes) (Fits w)
takes-fits w b waits s bytes h = when-each (Fits w) (is_empty s.writer.queue) _ (λ _. did-fits w b waits s.action s.writer bytes h)

command-fits : (w : World) (b : ℕ) (x : WriterRecord) (t : TakenCommand) → Placed w → IfSome (takes_command w b x t) (Fits w)
command-fits w b x t h =
    let y = ruled x t.command t.rule in
    when-each (Fits w) (is_formed t.command t.rule && not (is_empty (given x t.command).queue)) _
    (λ _. takes-fits w b y.waiting (own_step (given y t.command)) (command_bytes y t.command) h)

step-fits : (w : World) (b : ℕ) (x : WriterRecord) (told : Option Told) (takes : Option TakenCommand) (answered : Bool) → Placed w
    → IfSome (writer_step w b x told takes answered) (Fits w)
step-fits w b x (Some told) None answered h = rest-fits (granted x told).phase w b (granted x told) answered h
step-fits w b x (Some told) (Some t) answered h = tt
step-fits w b x None None answered h = did-fits w b x.waiting (own_step x).action (own_step x).writer [] h
step-fits w b x None (Some t) answered h = command-fits w b x t h

pub own-writer-fits : (w : World) (b : ℕ) (takes : Option TakenCommand) (answered : Bool) → Placed w → IfSome (own_writer w b takes answered) (Fits w)
own-writer-fits w b takes answered h = step-fits w b (w.writers b).known (w.writers b).told takes answered h

pub writer-up-fits : (w : World) (b c : ℕ) (x : Next) → Placed w → IfSome (writer_up w b c x) (Fits w)
writer-up-fits w b c x h =
    when-each (Fits w) (is_conn (w.writers b).conn c && is_none (w.writers b).told) _ (λ _. writer-fits w b (writer_hears (w.writers b).known x) h)

-- READERS

reader-fits : (w : World) (i : ℕ) (r : Reader) → IsReader (w.next_conn + 0) r → Placed w → Fits w (reader_change w i r)
reader-fits w i r p h =
    let k = rest w (w.next_conn + 0) (omega arith) h in
    record {
      dials = no-dial (λ d. IsDialled w.nodes (w.next_conn + 0) d.dialled);
      downs = λ d e. refl;
      ups = λ d e. refl;
      shuts = λ d e. refl;
      lower_at = first-idle w h;
      lower = k.lower;
      writer = k.writer;
      reader = p;
      primary = k.primary;
    }

reader-dials-fits : (w : World) (i n : ℕ) (r : ReadOp) (answered : Bool) → (answered ≡ true → w.running n ≡ true) → Placed w → Fits w (reader_dials w i n r answered)
reader-dials-fits w i n r true runs h =
    let k = rest w (w.next_conn + 1) (omega arith) h in
    record {
      dials = λ j d e. one-dial (λ (y : Dial). IsDialled w.nodes (w.next_conn + 1) y.dialled) _ j d (record { to = h.runs n (runs refl); from = tt; upper = tt }) e;
      downs = λ d e. refl;
      ups = λ d e. refl;
      shuts = λ d e. refl;
      lower_at = first-idle w h;
      lower = k.lower;
      writer = k.writer;
      reader = omega arith;
      primary = k.primary;
    }
reader-dials-fits w i n r false runs h = reader-fits w i _ tt h

own-reader-as : (x : Reader) (w : World) (i n : ℕ) (r : ReadOp) (answered : Bool) → Placed w → IfSome (own_reader_as x w i n r answered) (Fits w)
own-reader-as no_reader w i n r answered h = reader-dials-fits w i n r (answered && w.running n) (λ e. and-right answered (w.running n) e) h
own-reader-as (reads c s) w i n r answered h = tt
own-reader-as (has_read b) w i n r answered h = tt

pub own-reader-fits : (w : World) (i n : ℕ) (r : ReadOp) (answered : Bool) → Placed w → IfSome (own_reader w i n r answered) (Fits w)
own-reader-fits w i n r answered h = own-reader-as (w.readers i) w i n r answered h

reader-turn-fits : (w : World) (i c : ℕ) (t : ReadTaken) (d : ReadTurn) → c < w.next_conn → Placed w → Fits w (reader_turn w i c t d)
reader-turn-fits w i c t turn.Goes lt h = reader-fits w i (reads c t.reading) (omega (arith, lt)) h
reader-turn-fits w i c t turn.Verified lt h =
    let k = reader-fits w i (has_read (Ok t.reading.bytes)) tt h in
    record {
      dials = k.dials;
      downs = λ d e. sent-out w.next_conn d (Some c) _ (one-conn w.next_conn c lt) e;
      ups = k.ups;
      shuts = λ d e. conn-out w.next_conn d (Some c) (one-conn w.next_conn c lt) e;
      lower_at = k.lower_at;
      lower = k.lower;
      writer = k.writer;
      reader = k.reader;
      primary = k.primary;
    }
reader-turn-fits w i c t (turn.Fails f) lt h =
    let k = reader-fits w i (has_read (Err f)) tt h in
    record {
      dials = k.dials;
      downs = k.downs;
      ups = k.ups;
      shuts = λ d e. conn-out w.next_conn d (Some c) (one-conn w.next_conn c lt) e;
      lower_at = k.lower_at;
      lower = k.lower;
      writer = k.writer;
      reader = k.reader;
      primary = k.primary;
    }

reader-up-as : (r : Reader) (w : World) (i c : ℕ) (x : Next) → c < w.next_conn → Placed w → IfSome (reader_up_as r w i c x) (Fits w)
reader-up-as no_reader w i c x lt h = tt
reader-up-as (reads d s) w i c x lt h =
    when-each (Fits w) (d == c) _ (λ _. reader-turn-fits w i c (take_from s (from_node_of x)) (take_from s (from_node_of x)).does lt h)
reader-up-as (has_read b) w i c x lt h = tt

pub reader-up-fits : (w : World) (i c : ℕ) (x : Next) → c < w.next_conn → Placed w → IfSome (reader_up w i c x) (Fits w)
reader-up-fits w i c x lt h = reader-up-as (w.readers i) w i c x lt h
