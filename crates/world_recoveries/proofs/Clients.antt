-- Writers and readers send nothing of a recovery.
use Rattle.std.proofs.Common.{Bool, true, false, List, [], ◌∷◌, Option, Some, None, IfSome, refl, sym, ◌∙◌, ap, subst, length, slice_get}
use Rattle.std.specs.Prelude.{is_none, not, ℕ, ◌≡◌, ◌&&◌, ◌==◌}
use Rattle.hd_base.specs.declared.numbers.NodeId.{NodeId}
use Rattle.hd_base.specs.declared.numbers.Stamp.{Stamp}
use Rattle.op_headers.specs.declared.ops.Op.{Op}
use Rattle.op_headers.specs.declared.ops.Op.TheVariants as op
use Rattle.op_headers.specs.declared.ops.ReadOp.{ReadOp}
use Rattle.op_headers.specs.declared.ops.RecoveryOp.{RecoveryOp}
use Rattle.world_laws.specs.ReadCore.Readings.{ReadTaken, take_from}
use Rattle.world_laws.specs.ReadCore.ReadTurn.{ReadTurn}
use Rattle.world_laws.specs.ReadCore.ReadTurn.TheVariants as turn
use Rattle.world_laws.specs.WriterCore.Action.{Action}
use Rattle.world_laws.specs.WriterCore.Action.TheVariants as action
use Rattle.world_laws.specs.WriterCore.Phase.{Phase}
use Rattle.world_laws.specs.WriterCore.Phase.TheVariants as phase
use Rattle.world_laws.specs.WriterCore.Setup.{Setup}
use Rattle.world_laws.specs.WriterCore.Waiting.{Waiting}
use Rattle.world_laws.specs.WriterCore.WriterRecord.{WriterRecord}
use Rattle.world_laws.specs.WriterCore.Requests.{request_for}
use Rattle.world_laws.specs.WriterCore.Transitions.{given, granted, dialled, own_step, dial_step, dial_step_as, open_step, completed_step}
use Rattle.world_laws.specs.WriterCore.Transitions as writer
use Rattle.world_laws.specs.World.TakenCommand.{TakenCommand}
use Rattle.world_laws.specs.ReplicaModel.Rows.{FullReplica}
use Rattle.world_laws.specs.World.Parts.{Message, request, packet, by_writer, by_reader, by_primary, Told, Updated, Reader, no_reader, reads, has_read}
use Rattle.world_laws.specs.World.Worlds.{World, Dial, Change}
use Rattle.world_laws.specs.World.Connections.{Next, is_conn}
use Rattle.world_laws.specs.World.Clients.{command_bytes, dialled_change, dialling, did, from_node_of, is_empty, is_formed, own_reader, own_reader_as, own_writer, reader_dials, reader_turn, reader_up, reader_up_as, rest_in, ruled, takes_command, takes_step, writer_change, writer_hears, writer_step, writer_up}
use Rattle.world_laws.specs.World.Primaries.{asks_writer, writer_asks, writer_asks_office}
use Rattle.world_laws.proofs.FactTables.{when-each}
use Rattle.world_laws.proofs.ByteFrame.{Each, each-nil, each-one}
use Rattle.std.proofs.lemmas.Option.{none-some}
use Rattle.world_recoveries.proofs.Holding.{as_before}
use Rattle.world_recoveries.proofs.Quiet.{Untold, OfSetup, QuietDial, Quiet, each-sent}

-- a change that sends and dials nothing, and leaves replicas and primaries
pub still-quiet : (w : World) (k : Change) → ((c : ℕ) → k.ups c ≡ []) → ((c : ℕ) → k.downs c ≡ []) → k.dials ≡ [] → k.primary ≡ w.primaries k.primary_at → k.replica ≡ w.replicas k.node k.block → k.updated ≡ [] → Quiet w k
still-quiet w k u d s p r e = record {
  ups = λ c. subst (λ (ms : List Message). Each Untold ms) (sym (u c)) (each-nil Untold);
  downs = λ c. subst (λ (ms : List Message). Each (OfSetup w.past c) ms) (sym (d c)) (each-nil (OfSetup w.past c));
  dials = subst (λ (ds : List Dial). Each (QuietDial w) ds) (sym s) (each-nil (QuietDial w));
  primary = p;
  books = as_before (ap (λ (x : FullReplica). x.known) r);
  updated = λ y h. absurd (none-some y (sym (ap (λ (ys : List Updated). slice_get ys h.place) e) ∙ h.there));
}

-- WRITERS

writer-quiet : (w : World) (b : ℕ) (x : WriterRecord) → Quiet w (writer_change w b x)
writer-quiet w b x = still-quiet w (writer_change w b x) (λ _. refl) (λ _. refl) refl refl refl refl

did-quiet : (w : World) (b : ℕ) (waits : Option Waiting) (a : Action) (x : WriterRecord) (bytes : List ℕ) → IfSome (did w b waits a x bytes) (Quiet w)
did-quiet w b waits action.Wait x bytes = tt
did-quiet w b waits action.Took x bytes = still-quiet w _ (λ _. refl) (λ _. refl) refl refl refl refl
did-quiet w b waits (action.Ask c) x bytes = tt
did-quiet w b waits (action.Dial to r) x bytes = tt
did-quiet w b waits (action.Send p) x bytes = record {
  ups = λ c. each-nil Untold;
  downs = each-sent (λ c m. OfSetup w.past c m) (w.writers b).conn (packet p ∷ []) (λ c. each-one (OfSetup w.past c) (packet p) tt);
  dials = each-nil (QuietDial w);
  primary = refl;
  books = as_before refl;
  updated = λ y h. absurd (none-some y h.there);
}
did-quiet w b waits (action.Answered n a) x bytes = still-quiet w _ (λ _. refl) (λ _. refl) refl refl refl refl
did-quiet w b waits action.Memory x bytes = tt

-- a request of a recovery isn't dialled
abbrev Silent : Op → Type 0
Silent o = (q : RecoveryOp) → request o ≡ request (op.Recovery q) → ⊥

dialled-quiet : (w : World) (b : ℕ) (x : WriterRecord) (to : NodeId) (r : Op) (answered : Bool) → Silent r → Quiet w (dialled_change w b x to r answered)
dialled-quiet w b x to r true s = record {
  ups = λ c. each-nil Untold;
  downs = λ c. each-nil (OfSetup w.past c);
  dials = each-one (QuietDial w) _ (record { life = refl; silent = s; unled = λ i place e. differ i place e });
  primary = refl;
  books = as_before refl;
  updated = λ y h. absurd (none-some y h.there);
}
  where
    differ : (i place : ℕ) → by_writer b ≡ by_primary i place → ⊥
    differ i place e = cc
dialled-quiet w b x to r false s = writer-quiet w b (dialled x false)

write-silent : (w : WriterRecord) (s : Setup) (t : Stamp) (n : ℕ) (ms : List NodeId) → Silent (request_for w.block w.committed w.stream s t n ms)
unfolding request_for
write-silent w s t n ms q e = absurd (cc)

dialling-quiet : (w : World) (b : ℕ) (x : WriterRecord) (s : Setup) (t : Stamp) (ms : List NodeId) (answered : Bool) → Quiet w (dialling w b x (dial_step_as x s t ms).action answered)
dialling-quiet w b x s t [] answered = writer-quiet w b x
dialling-quiet w b x s t (m ∷ ms) answered = dialled-quiet w b x m (request_for x.block x.committed x.stream s t (length x.members) ms) (answered && w.running m.0) (write-silent x s t (length x.members) ms)

rest-quiet : (p : Phase) (w : World) (b : ℕ) (x : WriterRecord) (answered : Bool) → IfSome (rest_in p w b x answered) (Quiet w)
rest-quiet phase.Closed w b x answered = writer-quiet w b x
rest-quiet (phase.Wanted s) w b x answered = writer-quiet w b x
rest-quiet (phase.Stamped s t) w b x answered = dialling-quiet w b x s t x.members answered
rest-quiet (phase.Requested s t) w b x answered = writer-quiet w b x
rest-quiet (phase.Accepted s t) w b x answered = writer-quiet w b x
rest-quiet phase.Opened w b x answered = did-quiet w b x.waiting (open_step x).action (open_step x).writer []
rest-quiet (phase.Streaming sent) w b x answered = writer-quiet w b x
rest-quiet phase.Closing w b x answered = writer-quiet w b x
rest-quiet phase.Finished w b x answered = writer-quiet w b x
rest-quiet phase.Completed w b x answered = did-quiet w b x.waiting (completed_step x).action (completed_step x).writer []
rest-quiet (phase.Failed f) w b x answered = writer-quiet w b x

takes-quiet : (w : World) (b : ℕ) (waits : Option Waiting) (s : writer.Step) (bytes : List ℕ) → IfSome (takes_step w b waits s bytes) (Quiet w)
takes-quiet w b waits s bytes = when-each (Quiet w) (is_empty s.writer.queue) _ (λ _. did-quiet w b waits s.action s.writer bytes)

command-quiet : (w : World) (b : ℕ) (x : WriterRecord) (t : TakenCommand) → IfSome (takes_command w b x t) (Quiet w)
command-quiet w b x t =
    let y = ruled x t.command t.rule in
    when-each (Quiet w) (is_formed t.command t.rule && not (is_empty (given x t.command).queue)) _
    (λ _. takes-quiet w b y.waiting (own_step (given y t.command)) (command_bytes y t.command))

step-quiet : (w : World) (b : ℕ) (x : WriterRecord) (told : Option Told) (takes : Option TakenCommand) (answered : Bool) → IfSome (writer_step w b x told takes answered) (Quiet w)
step-quiet w b x (Some told) None answered = rest-quiet (granted x told).phase w b (granted x told) answered
step-quiet w b x (Some told) (Some t) answered = tt
step-quiet w b x None None answered = did-quiet w b x.waiting (own_step x).action (own_step x).writer []
step-quiet w b x None (Some t) answered = command-quiet w b x t

pub own-writer-quiet : (w : World) (b : ℕ) (takes : Option TakenCommand) (answered : Bool) → IfSome (own_writer w b takes answered) (Quiet w)
own-writer-quiet w b takes answered = step-quiet w b (w.writers b).known (w.writers b).told takes answered

pub writer-up-quiet : (w : World) (b c : ℕ) (x : Next) → IfSome (writer_up w b c x) (Quiet w)
writer-up-quiet w b c x =
    when-each (Quiet w) (is_conn (w.writers b).conn c && is_none (w.writers b).told) _ (λ _. writer-quiet w b (writer_hears (w.writers b).known x))

-- a writer that asks the office
asks-quiet : (a : Action) (w : World) (b : ℕ) → IfSome (writer_asks a w b) (Quiet w)
asks-quiet action.Wait w b = tt
asks-quiet action.Took w b = tt
asks-quiet (action.Ask c) w b = still-quiet w (asks_writer w b c) (λ _. refl) (λ _. refl) refl refl refl refl
asks-quiet (action.Dial to r) w b = tt
asks-quiet (action.Send p) w b = tt
asks-quiet (action.Answered n a) w b = tt
asks-quiet action.Memory w b = tt

pub writer-asks-quiet : (w : World) (b : ℕ) → IfSome (writer_asks_office w b) (Quiet w)
writer-asks-quiet w b = when-each (Quiet w) (is_none (w.writers b).told) _ (λ _. asks-quiet (own_step (w.writers b).known).action w b)

-- READERS

reader-dials-quiet : (w : World) (i n : ℕ) (r : ReadOp) (answered : Bool) → Quiet w (reader_dials w i n r answered)
reader-dials-quiet w i n r true = record {
  ups = λ c. each-nil Untold;
  downs = λ c. each-nil (OfSetup w.past c);
  dials = each-one (QuietDial w) _ (record { life = refl; silent = λ q e. silent q e; unled = λ j place e. differ j place e });
  primary = refl;
  books = as_before refl;
  updated = λ y h. absurd (none-some y h.there);
}
  where
    silent : (q : RecoveryOp) → request (op.Read r) ≡ request (op.Recovery q) → ⊥
    silent q e = cc

    differ : (j place : ℕ) → by_reader i ≡ by_primary j place → ⊥
    differ j place e = cc
reader-dials-quiet w i n r false = still-quiet w _ (λ _. refl) (λ _. refl) refl refl refl refl

own-reader-as : (x : Reader) (w : World) (i n : ℕ) (r : ReadOp) (answered : Bool) → IfSome (own_reader_as x w i n r answered) (Quiet w)
own-reader-as no_reader w i n r answered = reader-dials-quiet w i n r _
own-reader-as (reads c s) w i n r answered = tt
own-reader-as (has_read b) w i n r answered = tt

pub own-reader-quiet : (w : World) (i n : ℕ) (r : ReadOp) (answered : Bool) → IfSome (own_reader w i n r answered) (Quiet w)
own-reader-quiet w i n r answered = own-reader-as (w.readers i) w i n r answered

reader-turn-quiet : (w : World) (i c : ℕ) (t : ReadTaken) (d : ReadTurn) → Quiet w (reader_turn w i c t d)
reader-turn-quiet w i c t turn.Goes = still-quiet w _ (λ _. refl) (λ _. refl) refl refl refl refl
reader-turn-quiet w i c t turn.Verified = record {
  ups = λ d. each-nil Untold;
  downs = each-sent (λ d m. OfSetup w.past d m) (Some c) _ (λ d. each-one (OfSetup w.past d) _ tt);
  dials = each-nil (QuietDial w);
  primary = refl;
  books = as_before refl;
  updated = λ y h. absurd (none-some y h.there);
}
reader-turn-quiet w i c t (turn.Fails f) = still-quiet w _ (λ _. refl) (λ _. refl) refl refl refl refl

reader-up-as : (r : Reader) (w : World) (i c : ℕ) (x : Next) → IfSome (reader_up_as r w i c x) (Quiet w)
reader-up-as no_reader w i c x = tt
reader-up-as (reads d s) w i c x = when-each (Quiet w) (d == c) _ (λ _. reader-turn-quiet w i c (take_from s (from_node_of x)) (take_from s (from_node_of x)).does)
reader-up-as (has_read b) w i c x = tt

pub reader-up-quiet : (w : World) (i c : ℕ) (x : Next) → IfSome (reader_up w i c x) (Quiet w)
reader-up-quiet w i c x = reader-up-as (w.readers i) w i c x
