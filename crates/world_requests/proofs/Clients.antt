-- What writers and readers send.
use Rattle.std.proofs.Common.{◌≡◌, ℕ, ◌≤◌, zero, suc, Bool, true, false, List, [], ◌∷◌, map, slice_get, Option, Some, None, IfSome, refl, sym, subst, arith}
use Rattle.std.specs.Prelude.{◌==◌, ◌&&◌, not, is_none}
use Rattle.std.proofs.lemmas.Option.{none-some, same_Some}
use Rattle.hd_base.specs.declared.numbers.BlockId.{BlockId}
use Rattle.hd_base.specs.declared.numbers.NodeId.{NodeId}
use Rattle.hd_base.specs.declared.numbers.Stamp.{Stamp}
use Rattle.hd_base.specs.declared.roads.TheConstants.{FIRST_PORT}
use Rattle.op_headers.specs.declared.nodes.NodeRef.{NodeRef}
use Rattle.op_headers.specs.declared.ops.Op.{Op}
use Rattle.op_headers.specs.declared.ops.ReadOp.{ReadOp}
use Rattle.world_laws.specs.NodeRefs.NodeRefs.{port_of, ref_of}
use Rattle.world_laws.specs.PacketStream.Streams.{StreamState}
use Rattle.world_laws.specs.WriterCore.Action.{Action}
use Rattle.world_laws.specs.WriterCore.Action.TheVariants as action
use Rattle.world_laws.specs.WriterCore.Command.{Command}
use Rattle.world_laws.specs.WriterCore.Phase.{Phase}
use Rattle.world_laws.specs.WriterCore.Phase.TheVariants as phase
use Rattle.world_laws.specs.WriterCore.Setup.{Setup}
use Rattle.world_laws.specs.WriterCore.Waiting.{Waiting}
use Rattle.world_laws.specs.WriterCore.WriterRecord.{WriterRecord}
use Rattle.world_laws.specs.WriterCore.Requests.{request_for}
use Rattle.world_laws.specs.WriterCore.Transitions.{Step, given, own_step, dial_step_as, open_step, completed_step, dialled}
use Rattle.world_laws.specs.ReadCore.ReadTurn.{ReadTurn}
use Rattle.world_laws.specs.ReadCore.ReadTurn.TheVariants as turn
use Rattle.world_laws.specs.ReadCore.Readings.{ReadTaken, take_from}
use Rattle.world_laws.specs.World.TakenCommand.{TakenCommand}
use Rattle.world_laws.specs.World.Parts.{request, packet, Told, Reader, no_reader, reads, has_read}
use Rattle.world_laws.specs.World.Worlds.{World}
use Rattle.world_laws.specs.World.Connections.{Next, is_conn}
use Rattle.world_laws.specs.World.Clients.{writer_change, did, did_step, dialled_change, dialling, rest_in, is_formed, ruled, command_bytes, is_empty, takes_given, takes_command, writer_step, own_writer, writer_hears, writer_up, reader_change, reader_dials, own_reader_as, own_reader, from_node_of, reader_turn, reader_up_as, reader_up}
use Rattle.world_laws.specs.Stamping.{known_heard, heard}
use Rattle.world_laws.proofs.ByteFrame.{each-nil, each-one}
use Rattle.world_laws.proofs.FactTables.{when-each}
use Rattle.world_requests.proofs.Frame.{Asking, to_write, to_read, MessageIs, DialIs, Brings, sent-asked, quiet}

-- a node's port is at least the first one
port-from : (n : NodeId) → FIRST_PORT ≤ port_of n
port-from n = grind arith

ports-from : (ns : List NodeId) (k : ℕ) (t : NodeRef) → slice_get (map ref_of ns) k ≡ Some t → FIRST_PORT ≤ t.xfer
ports-from [] k t e = absurd (none-some t e)
ports-from (n ∷ ns) zero t e = subst (λ (r : NodeRef). FIRST_PORT ≤ r.xfer) (same_Some (ref_of n) t e) (port-from n)
ports-from (n ∷ ns) (suc k) t e = ports-from ns k t e

module _ (Of : Asking → ℕ → Type 0) where
  -- the request of a writer
  request-asked : (block : BlockId) (committed : Stamp) (s : StreamState) (k : Setup) (stamp : Stamp) (members : ℕ) (ns : List NodeId) → Of to_write block.0 → MessageIs Of (request (request_for block committed s k stamp members ns))
  unfolding request_for
  request-asked block committed s k stamp members ns h = record { block = h; ports = ports-from ns }

  module _ (w : World) where
    writer-brings : (b : ℕ) (x : WriterRecord) → Brings Of w (writer_change w b x)
    writer-brings b x = quiet Of w (writer_change w b x) refl (λ _. refl) (λ _. refl) (λ h. h 0)

    did-brings : (b : ℕ) (waits : Option Waiting) (a : Action) (x : WriterRecord) (bytes : List ℕ) → IfSome (did w b waits a x bytes) (Brings Of w)
    did-brings b waits action.Took x bytes = quiet Of w _ refl (λ _. refl) (λ _. refl) (λ h. h 0)
    did-brings b waits (action.Send p) x bytes = record {
      dials = each-nil (DialIs Of);
      downs = sent-asked Of (w.writers b).conn (packet p ∷ []) (each-one (MessageIs Of) (packet p) tt);
      ups = λ c. each-nil (MessageIs Of);
      primary = λ h. h 0;
    }
    did-brings b waits (action.Answered k said) x bytes = quiet Of w _ refl (λ _. refl) (λ _. refl) (λ h. h 0)
    did-brings b waits action.Wait x bytes = tt
    did-brings b waits (action.Ask c) x bytes = tt
    did-brings b waits (action.Dial to r) x bytes = tt
    did-brings b waits action.Memory x bytes = tt

    did-step-brings : (b : ℕ) (waits : Option Waiting) (s : Step) (bytes : List ℕ) → IfSome (did_step w b waits s bytes) (Brings Of w)
    did-step-brings b waits s bytes = did-brings b waits s.action s.writer bytes

    dialled-brings : (b : ℕ) (x : WriterRecord) (to : NodeId) (r : Op) (answered : Bool) → MessageIs Of (request r) → Brings Of w (dialled_change w b x to r answered)
    dialled-brings b x to r true q = record {
      dials = each-one (DialIs Of) _ q;
      downs = λ c. each-nil (MessageIs Of);
      ups = λ c. each-nil (MessageIs Of);
      primary = λ h. h 0;
    }
    dialled-brings b x to r false q = writer-brings b (dialled x false)

    dialling-brings : (b : ℕ) (x : WriterRecord) (s : Setup) (stamp : Stamp) (ns : List NodeId) (answered : Bool) → Of to_write x.block.0 → Brings Of w (dialling w b x (dial_step_as x s stamp ns).action answered)
    dialling-brings b x s stamp [] answered h = writer-brings b x
    dialling-brings b x s stamp (n ∷ ns) answered h = dialled-brings b x n _ (answered && w.running n.0) (request-asked x.block x.committed x.stream s stamp _ ns h)

    rest-brings : (b : ℕ) (p : Phase) (x : WriterRecord) (answered : Bool) → Of to_write x.block.0 → IfSome (rest_in p w b x answered) (Brings Of w)
    rest-brings b (phase.Stamped s stamp) x answered h = dialling-brings b x s stamp x.members answered h
    rest-brings b phase.Opened x answered h = did-step-brings b x.waiting (open_step x) []
    rest-brings b phase.Completed x answered h = did-step-brings b x.waiting (completed_step x) []
    rest-brings b phase.Closed x answered h = writer-brings b x
    rest-brings b (phase.Wanted s) x answered h = writer-brings b x
    rest-brings b (phase.Requested s stamp) x answered h = writer-brings b x
    rest-brings b (phase.Accepted s stamp) x answered h = writer-brings b x
    rest-brings b (phase.Streaming n) x answered h = writer-brings b x
    rest-brings b phase.Closing x answered h = writer-brings b x
    rest-brings b phase.Finished x answered h = writer-brings b x
    rest-brings b (phase.Failed d) x answered h = writer-brings b x

    given-brings : (b : ℕ) (x : WriterRecord) (c : Command) → IfSome (takes_given w b x c) (Brings Of w)
    given-brings b x c = when-each (Brings Of w) (is_empty (own_step (given x c)).writer.queue) _ (λ _. did-step-brings b x.waiting (own_step (given x c)) (command_bytes x c))

    command-brings : (b : ℕ) (x : WriterRecord) (t : TakenCommand) → IfSome (takes_command w b x t) (Brings Of w)
    command-brings b x t = when-each (Brings Of w) (is_formed t.command t.rule && not (is_empty (given x t.command).queue)) _ (λ _. given-brings b (ruled x t.command t.rule) t.command)

    writer-step-brings : (b : ℕ) (x : WriterRecord) (told : Option Told) (takes : Option TakenCommand) (answered : Bool) → Of to_write (known_heard x told).block.0 → IfSome (writer_step w b x told takes answered) (Brings Of w)
    writer-step-brings b x (Some t) None answered h = rest-brings b (known_heard x (Some t)).phase (known_heard x (Some t)) answered h
    writer-step-brings b x (Some t) (Some c) answered h = tt
    writer-step-brings b x None None answered h = did-step-brings b x.waiting (own_step x) []
    writer-step-brings b x None (Some t) answered h = command-brings b x t

    pub own-writer-brings : (b : ℕ) (takes : Option TakenCommand) (answered : Bool) → (heard (w.writers b)).block ≡ record { 0 = b } → Of to_write b → IfSome (own_writer w b takes answered) (Brings Of w)
    own-writer-brings b takes answered is h = writer-step-brings b (w.writers b).known (w.writers b).told takes answered (subst (λ (z : BlockId). Of to_write z.0) (sym is) h)

    pub writer-up-brings : (b c : ℕ) (n : Next) → IfSome (writer_up w b c n) (Brings Of w)
    writer-up-brings b c n = when-each (Brings Of w) (is_conn (w.writers b).conn c && is_none (w.writers b).told) _ (λ _. writer-brings b (writer_hears (w.writers b).known n))

    -- READERS

    reader-brings : (i : ℕ) (r : Reader) → Brings Of w (reader_change w i r)
    reader-brings i r = quiet Of w (reader_change w i r) refl (λ _. refl) (λ _. refl) (λ h. h 0)

    reader-dials-brings : (i n : ℕ) (r : ReadOp) (answered : Bool) → Of to_read r.block.block.0 → Brings Of w (reader_dials w i n r answered)
    reader-dials-brings i n r true h = record { dials = each-one (DialIs Of) _ h; downs = λ c. each-nil (MessageIs Of); ups = λ c. each-nil (MessageIs Of); primary = λ h. h 0 }
    reader-dials-brings i n r false h = reader-brings i _

    own-reader-as-brings : (x : Reader) (i n : ℕ) (r : ReadOp) (answered : Bool) → Of to_read r.block.block.0 → IfSome (own_reader_as x w i n r answered) (Brings Of w)
    own-reader-as-brings no_reader i n r answered h = reader-dials-brings i n r (answered && w.running n) h
    own-reader-as-brings (reads c s) i n r answered h = tt
    own-reader-as-brings (has_read x) i n r answered h = tt

    pub own-reader-brings : (i n : ℕ) (r : ReadOp) (answered : Bool) → Of to_read r.block.block.0 → IfSome (own_reader w i n r answered) (Brings Of w)
    own-reader-brings i n r answered h = own-reader-as-brings (w.readers i) i n r answered h

    reader-turn-brings : (i c : ℕ) (t : ReadTaken) (x : ReadTurn) → Brings Of w (reader_turn w i c t x)
    reader-turn-brings i c t turn.Goes = reader-brings i _
    reader-turn-brings i c t turn.Verified = record { dials = each-nil (DialIs Of); downs = sent-asked Of (Some c) _ (each-one (MessageIs Of) _ tt); ups = λ d. each-nil (MessageIs Of); primary = λ h. h 0 }
    reader-turn-brings i c t (turn.Fails f) = quiet Of w _ refl (λ _. refl) (λ _. refl) (λ h. h 0)

    reader-up-as-brings : (x : Reader) (i c : ℕ) (n : Next) → IfSome (reader_up_as x w i c n) (Brings Of w)
    reader-up-as-brings no_reader i c n = tt
    reader-up-as-brings (reads d s) i c n = when-each (Brings Of w) (d == c) _ (λ _. reader-turn-brings i c (take_from s (from_node_of n)) _)
    reader-up-as-brings (has_read x) i c n = tt

    pub reader-up-brings : (i c : ℕ) (n : Next) → IfSome (reader_up w i c n) (Brings Of w)
    reader-up-brings i c n = reader-up-as-brings (w.readers i) i c n
