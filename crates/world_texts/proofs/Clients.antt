-- What writers and readers bring.
use Rattle.std.proofs.Common.{◌≡◌, ℕ, ◌+◌, ◌<◌, ◌≤◌, ◌^◌, inl, inr, Bool, true, false, List, [], ◌∷◌, length, Option, Some, None, IfSome, Result, Ok, Err, refl, sym, ◌∙◌, subst, arith}
use Rattle.std.specs.Prelude.{◌==◌, ◌&&◌, not, nat_le, is_none}
use Rattle.std.proofs.lemmas.Bool.{false≢true}
use Rattle.std.proofs.lemmas.Bool.Decides.{nat_tests}
use Rattle.hd_base.specs.declared.numbers.BlockId.{BlockId}
use Rattle.hd_base.specs.declared.numbers.NodeId.{NodeId}
use Rattle.hd_base.specs.declared.numbers.Stamp.{Stamp}
use Rattle.hd_base.specs.declared.pipeline.TheConstants.{MAX_MEMBERS}
use Rattle.hd_base.specs.declared.sum_rule.TheConstants.{MIN_CHUNK_SIZE, MAX_CHUNK_SIZE}
use Rattle.hd_base.specs.SumRules.{Rule, IsChunkSize}
use Rattle.op_headers.specs.declared.ops.Op.{Op}
use Rattle.op_headers.specs.declared.ops.Op.TheVariants as op
use Rattle.op_headers.specs.declared.ops.ReadOp.{ReadOp}
use Rattle.world_laws.specs.PacketStream.Streams.{begun, written_in}
use Rattle.world_laws.proofs.PacketStream.StreamLemmas.{begun_is, begun_written, fill_length}
use Rattle.world_laws.specs.WriterCore.Action.{Action}
use Rattle.world_laws.specs.WriterCore.Action.TheVariants as action
use Rattle.world_laws.specs.WriterCore.Command.{Command}
use Rattle.world_laws.specs.WriterCore.Command.TheVariants as command
use Rattle.world_laws.specs.WriterCore.Phase.{Phase}
use Rattle.world_laws.specs.WriterCore.Phase.TheVariants as phase
use Rattle.world_laws.specs.WriterCore.Setup.{Setup}
use Rattle.world_laws.specs.WriterCore.Waiting.{Waiting}
use Rattle.world_laws.specs.WriterCore.WriterRecord.{WriterRecord}
use Rattle.world_laws.specs.WriterCore.Commands.{command_length, admitted}
use Rattle.world_laws.specs.WriterCore.CommandFault.{CommandFault}
use Rattle.world_laws.specs.WriterCore.Intake.{Intake}
use Rattle.world_laws.specs.WriterCore.Sound.{Sound}
use Rattle.world_laws.specs.WriterCore.Transitions.{Step, given_as, given, own_step, dial_step_as, open_step, completed_step, dialled}
use Rattle.world_laws.proofs.WriterCore.SoundLemmas.{given_sound}
use Rattle.world_laws.specs.ReadCore.ReadTurn.{ReadTurn}
use Rattle.world_laws.specs.ReadCore.ReadTurn.TheVariants as turn
use Rattle.world_laws.specs.ReadCore.Readings.{ReadTaken, take_from}
use Rattle.world_laws.specs.World.TakenCommand.{TakenCommand}
use Rattle.world_laws.specs.World.Parts.{request, packet, ack, response, read_status, recovery_answer, Told, Reader, no_reader, reads, has_read}
use Rattle.world_laws.specs.World.Worlds.{World, Dial}
use Rattle.world_laws.specs.World.Connections.{Next, message, the_end, is_conn}
use Rattle.world_laws.specs.World.Clients.{writer_change, did, did_step, dialled_change, dialling, rest_in, are_distinct, are_members, is_formed, ruled, command_bytes, is_empty, takes_given, takes_command, writer_step, own_writer, named_member, writer_hears, writer_up, reader_change, reader_dials, own_reader_as, own_reader, from_node_of, reader_turn, reader_up_as, reader_up}
use Rattle.world_laws.specs.Stamping.{known_heard, heard}
use Rattle.world_laws.proofs.ByteFrame.{Each, each-nil, each-one}
use Rattle.world_laws.proofs.FactTables.{when-each, and-left, and-right}
use Rattle.world_texts.specs.Texts.{CanBeAsked}
use Rattle.world_texts.proofs.Spelling.{OpValuesFit, MessageFits}
use Rattle.world_texts.proofs.Frame.{UnackedFits, SetupStampFits, RecordFits, Formed, Brings, given_to, less-fits, kept-writer}
use Rattle.world_texts.proofs.Nodes.{sent-fits}
use Rattle.world_texts.proofs.Writers.{CommandFits, ActionFits, StepFits, own-step-fits, open-fits, completed-fits, given-fits, given-queue, IsWriteFits, request-fits, ended-fits, acked-fits, setup-answered-fits, dialled-fits}

-- WRITERS

-- what is known of a writer that acts
pub record Acts (b : ℕ) (x : WriterRecord) : Type 0 where
  pub fits : RecordFits 0 x
  pub sound : Sound x
  pub block : x.block ≡ record { 0 = b }
  pub queue : x.queue ≡ []

write-values : (r : Op) → IsWriteFits r → OpValuesFit r
write-values (op.Write f) h = h
write-values (op.Read r) h = absurd h
write-values (op.Transfer r) h = absurd h
write-values (op.Checksum r) h = absurd h
write-values (op.Recovery r) h = absurd h

-- a command that is formed names few members
members-few : (ns : List NodeId) → are_members ns ≡ true → length ns ≤ 16
members-few ns e = let few : nat_le (length ns) MAX_MEMBERS ≡ true = and-left (nat_le (length ns) MAX_MEMBERS) (are_distinct ns) e in grind (arith, nat_tests, few)

formed-command : (c : Command) (rule : Rule) → is_formed c rule ≡ true → CommandFits c
formed-command (command.Create ns) rule e =
    members-few ns (and-left (are_members ns) (nat_le MIN_CHUNK_SIZE rule.chunk) (and-left (are_members ns && nat_le MIN_CHUNK_SIZE rule.chunk) (nat_le rule.chunk MAX_CHUNK_SIZE) e))
formed-command (command.Append ns) rule e = members-few ns e
formed-command (command.Write bytes) rule e = tt
formed-command (command.Fill n) rule e = tt
formed-command command.Hflush rule e = tt
formed-command command.Hsync rule e = tt
formed-command command.Close rule e = tt

-- A create brings a rule, under which nothing is written yet.

size-formed : (n : ℕ) (t : Bool) → (t && nat_le MIN_CHUNK_SIZE n && nat_le n MAX_CHUNK_SIZE) ≡ true → IsChunkSize n
size-formed n t e =
    let a : nat_le MIN_CHUNK_SIZE n ≡ true = and-right t (nat_le MIN_CHUNK_SIZE n) (and-left (t && nat_le MIN_CHUNK_SIZE n) (nat_le n MAX_CHUNK_SIZE) e) in
    let b : nat_le n MAX_CHUNK_SIZE ≡ true = and-right (t && nat_le MIN_CHUNK_SIZE n) (nat_le n MAX_CHUNK_SIZE) e in
    record { least = grind (arith, nat_tests, a); greatest = grind (arith, nat_tests, b) }

created-sound : (x : WriterRecord) (rule : Rule) → IsChunkSize rule.chunk → Sound x → Sound (record x { stream = begun rule 0 })
created-sound x rule c s = record {
  stream = begun_is rule 0 c (omega arith);
  commands = s.commands;
  few = s.few;
  queued = s.queued;
  bytes = s.bytes;
  written = omega (arith, begun_written rule 0, s.queued);
  counted = s.counted;
  numbers = omega (arith, s.counted);
}

ruled-sound : (x : WriterRecord) (c : Command) (rule : Rule) → is_formed c rule ≡ true → Sound x → Sound (ruled x c rule)
ruled-sound x (command.Create ns) rule e s = created-sound x rule (size-formed rule.chunk _ e) s
ruled-sound x (command.Append ns) rule e s = s
ruled-sound x (command.Write bytes) rule e s = s
ruled-sound x (command.Fill n) rule e s = s
ruled-sound x command.Hflush rule e s = s
ruled-sound x command.Hsync rule e s = s
ruled-sound x command.Close rule e s = s

ruled-fits : (m : ℕ) (x : WriterRecord) (c : Command) (rule : Rule) → RecordFits m x → RecordFits m (ruled x c rule)
ruled-fits m x (command.Create ns) rule f = record { few = f.few; acked = omega arith; packets = each-nil UnackedFits; committed = f.committed; setup = f.setup; intake = f.intake }
ruled-fits m x (command.Append ns) rule f = f
ruled-fits m x (command.Write bytes) rule f = f
ruled-fits m x (command.Fill n) rule f = f
ruled-fits m x command.Hflush rule f = f
ruled-fits m x command.Hsync rule f = f
ruled-fits m x command.Close rule f = f

ruled-queue : (x : WriterRecord) (c : Command) (rule : Rule) → (ruled x c rule).queue ≡ x.queue
ruled-queue x (command.Create ns) rule = refl
ruled-queue x (command.Append ns) rule = refl
ruled-queue x (command.Write bytes) rule = refl
ruled-queue x (command.Fill n) rule = refl
ruled-queue x command.Hflush rule = refl
ruled-queue x command.Hsync rule = refl
ruled-queue x command.Close rule = refl

-- a command that is given is given under its rule, too
ruled-given : (x : WriterRecord) (c : Command) (rule : Rule) → not (is_empty (given x c).queue) ≡ true → not (is_empty (given (ruled x c rule) c).queue) ≡ true
ruled-given x (command.Create ns) rule t = go (admitted x.intake (command.Create ns)) t
  where
    go : (r : Result Intake CommandFault) → not (is_empty (given_as x (command.Create ns) r).queue) ≡ true → not (is_empty (given_as (record x { stream = begun rule 0 }) (command.Create ns) r).queue) ≡ true
    go (Ok i) u = u
    go (Err e) u = u
ruled-given x (command.Append ns) rule t = t
ruled-given x (command.Write bytes) rule t = t
ruled-given x (command.Fill n) rule t = t
ruled-given x command.Hflush rule t = t
ruled-given x command.Hsync rule t = t
ruled-given x command.Close rule t = t

pub none-told : (o : Option Told) → is_none o ≡ true → o ≡ None
none-told None e = refl
none-told (Some t) e = absurd (false≢true e)

bytes-few : (x : WriterRecord) (c : Command) → length (command_bytes x c) ≡ command_length c
bytes-few x (command.Create ns) = refl
bytes-few x (command.Append ns) = refl
bytes-few x (command.Write bytes) = refl
bytes-few x (command.Fill n) = fill_length x.block (written_in x.stream) n
bytes-few x command.Hflush = refl
bytes-few x command.Hsync = refl
bytes-few x command.Close = refl

no-queue : (x : WriterRecord) → x.queue ≡ [] → Each CommandFits x.queue
no-queue x e = subst (Each CommandFits) (sym e) (each-nil CommandFits)

module _ (w : World) (h : Formed w) where
  writer-brings : (b : ℕ) (x : WriterRecord) → RecordFits (given_to w b + 0) x → Brings w (writer_change w b x)
  writer-brings b x f = record {
    dials = each-nil (λ (d : Dial). MessageFits d.request);
    downs = λ c. each-nil MessageFits;
    ups = λ c. each-nil MessageFits;
    lower = h.lowers 0;
    replica = h.replicas 0 0;
    writer = f;
    spends = inl refl;
    primary = h.primaries 0;
  }

  did-brings : (b : ℕ) (waits : Option Waiting) (a : Action) (x : WriterRecord) (bytes : List ℕ) → ActionFits a → RecordFits (given_to w b + length bytes) x → IfSome (did w b waits a x bytes) (Brings w)
  did-brings b waits action.Took x bytes a f = record {
    dials = each-nil (λ (d : Dial). MessageFits d.request);
    downs = λ c. each-nil MessageFits;
    ups = λ c. each-nil MessageFits;
    lower = h.lowers 0;
    replica = h.replicas 0 0;
    writer = f;
    spends = inr refl;
    primary = h.primaries 0;
  }
  did-brings b waits (action.Send p) x bytes a f = record {
    dials = each-nil (λ (d : Dial). MessageFits d.request);
    downs = sent-fits (w.writers b).conn (packet p ∷ []) (each-one MessageFits (packet p) a);
    ups = λ c. each-nil MessageFits;
    lower = h.lowers 0;
    replica = h.replicas 0 0;
    writer = less-fits (given_to w b + 0) (given_to w b + length bytes) x (omega arith) f;
    spends = inl refl;
    primary = h.primaries 0;
  }
  did-brings b waits (action.Answered k said) x bytes a f = record {
    dials = each-nil (λ (d : Dial). MessageFits d.request);
    downs = λ c. each-nil MessageFits;
    ups = λ c. each-nil MessageFits;
    lower = h.lowers 0;
    replica = h.replicas 0 0;
    writer = less-fits (given_to w b + 0) (given_to w b + length bytes) x (omega arith) f;
    spends = inl refl;
    primary = h.primaries 0;
  }
  did-brings b waits action.Wait x bytes a f = tt
  did-brings b waits (action.Ask c) x bytes a f = tt
  did-brings b waits (action.Dial to r) x bytes a f = tt
  did-brings b waits action.Memory x bytes a f = tt

  did-step-brings : (b : ℕ) (waits : Option Waiting) (s : Step) (bytes : List ℕ) → StepFits (given_to w b + length bytes) s → IfSome (did_step w b waits s bytes) (Brings w)
  did-step-brings b waits s bytes f = did-brings b waits s.action s.writer bytes f.action f.writer

  dialled-brings : (b : ℕ) (x : WriterRecord) (to : NodeId) (r : Op) (answered : Bool) → IsWriteFits r → RecordFits (given_to w b + 0) x → Brings w (dialled_change w b x to r answered)
  dialled-brings b x to r true q f = record {
    dials = each-one (λ (d : Dial). MessageFits d.request) _ (write-values r q);
    downs = λ c. each-nil MessageFits;
    ups = λ c. each-nil MessageFits;
    lower = h.lowers 0;
    replica = h.replicas 0 0;
    writer = dialled-fits (given_to w b + 0) x true f;
    spends = inl refl;
    primary = h.primaries 0;
  }
  dialled-brings b x to r false q f = writer-brings b (dialled x false) (dialled-fits (given_to w b + 0) x false f)

  dialling-brings : (b : ℕ) (x : WriterRecord) (s : Setup) (stamp : Stamp) (ns : List NodeId) (answered : Bool) → x.members ≡ ns → b < 2 ^ 64 → stamp.0 < 2 ^ 64 → Acts b x → RecordFits (given_to w b + 0) x
      → Brings w (dialling w b x (dial_step_as x s stamp ns).action answered)
  dialling-brings b x s stamp [] answered e lt t a f = writer-brings b x f
  dialling-brings b x s stamp (n ∷ ns) answered e lt t a f =
      let few : length (n ∷ ns) ≤ 16 = subst (λ (ms : List NodeId). length ms ≤ 16) e a.fits.few in
      let block : x.block.0 < 2 ^ 64 = subst (λ (z : BlockId). z.0 < 2 ^ 64) (sym a.block) lt in
      dialled-brings b x n _ (answered && w.running n.0)
      (request-fits x.block x.committed x.stream s stamp (length x.members) ns block a.fits.committed a.sound.stream a.fits.acked t a.fits.few (omega (arith, few))) f

  rest-brings : (b : ℕ) (p : Phase) (x : WriterRecord) (answered : Bool) → x.phase ≡ p → b < 2 ^ 64 → Acts b x → RecordFits (given_to w b + 0) x → IfSome (rest_in p w b x answered) (Brings w)
  rest-brings b (phase.Stamped s stamp) x answered e lt a f = dialling-brings b x s stamp x.members answered refl lt (subst SetupStampFits e a.fits.setup) a f
  rest-brings b phase.Opened x answered e lt a f = did-step-brings b x.waiting (open_step x) [] (open-fits (given_to w b + 0) x f)
  rest-brings b phase.Completed x answered e lt a f = did-step-brings b x.waiting (completed_step x) [] (completed-fits (given_to w b + 0) x f)
  rest-brings b phase.Closed x answered e lt a f = writer-brings b x f
  rest-brings b (phase.Wanted s) x answered e lt a f = writer-brings b x f
  rest-brings b (phase.Requested s stamp) x answered e lt a f = writer-brings b x f
  rest-brings b (phase.Accepted s stamp) x answered e lt a f = writer-brings b x f
  rest-brings b (phase.Streaming n) x answered e lt a f = writer-brings b x f
  rest-brings b phase.Closing x answered e lt a f = writer-brings b x f
  rest-brings b phase.Finished x answered e lt a f = writer-brings b x f
  rest-brings b (phase.Failed d) x answered e lt a f = writer-brings b x f

  -- commands

  step-brings : (b : ℕ) (x : WriterRecord) → Acts b x → RecordFits (given_to w b + 0) x → IfSome (did_step w b x.waiting (own_step x) []) (Brings w)
  step-brings b x a f = did-step-brings b x.waiting (own_step x) [] (own-step-fits (given_to w b + 0) x a.sound (no-queue x a.queue) f)

  given-brings : (b : ℕ) (x : WriterRecord) (c : Command) → Sound x → x.queue ≡ [] → CommandFits c → not (is_empty (given x c).queue) ≡ true → RecordFits (given_to w b + 0) x → IfSome (takes_given w b x c) (Brings w)
  given-brings b x c s e k t f =
      let n : RecordFits (given_to w b + length (command_bytes x c)) (given x c) = less-fits _ ((given_to w b + 0) + command_length c) (given x c) (omega (arith, bytes-few x c)) (given-fits (given_to w b + 0) x c t e f) in
      when-each (Brings w) (is_empty (own_step (given x c)).writer.queue) _
      (λ _. did-step-brings b x.waiting (own_step (given x c)) (command_bytes x c) (own-step-fits (given_to w b + length (command_bytes x c)) (given x c) (given_sound x c s) (given-queue x c (no-queue x e) k) n))

  command-brings : (b : ℕ) (x : WriterRecord) (t : TakenCommand) → Acts b x → RecordFits (given_to w b + 0) x → IfSome (takes_command w b x t) (Brings w)
  command-brings b x t a f =
      let formed = is_formed t.command t.rule in
      let there = not (is_empty (given x t.command).queue) in
      when-each (Brings w) (formed && there) _ (λ e.
      let is = and-left formed there e in
      given-brings b (ruled x t.command t.rule) t.command (ruled-sound x t.command t.rule is a.sound) (ruled-queue x t.command t.rule ∙ a.queue) (formed-command t.command t.rule is)
      (ruled-given x t.command t.rule (and-right formed there e)) (ruled-fits (given_to w b + 0) x t.command t.rule f))

  writer-step-brings : (b : ℕ) (x : WriterRecord) (told : Option Told) (takes : Option TakenCommand) (answered : Bool) → b < 2 ^ 64 → Acts b (known_heard x told) → RecordFits (given_to w b + 0) (known_heard x told)
      → IfSome (writer_step w b x told takes answered) (Brings w)
  writer-step-brings b x (Some t) None answered lt a f = rest-brings b (known_heard x (Some t)).phase (known_heard x (Some t)) answered refl lt a f
  writer-step-brings b x (Some t) (Some c) answered lt a f = tt
  writer-step-brings b x None None answered lt a f = step-brings b x a f
  writer-step-brings b x None (Some t) answered lt a f = command-brings b x t a f

  pub own-writer-brings : (b : ℕ) (takes : Option TakenCommand) (answered : Bool) → b < 2 ^ 64 → Acts b (heard (w.writers b)) → IfSome (own_writer w b takes answered) (Brings w)
  own-writer-brings b takes answered lt a = writer-step-brings b (w.writers b).known (w.writers b).told takes answered lt a (kept-writer w h b)

  -- WHAT A WRITER TAKES

  hears-fits : (m : ℕ) (x : WriterRecord) (n : Next) → RecordFits m x → RecordFits m (writer_hears x n)
  hears-fits m x (message (response r)) f = setup-answered-fits m x r (named_member x.members r.first_bad) f
  hears-fits m x (message (ack a)) f = acked-fits m x a f
  hears-fits m x (message (request r)) f = ended-fits m x f
  hears-fits m x (message (packet p)) f = ended-fits m x f
  hears-fits m x (message (read_status s)) f = ended-fits m x f
  hears-fits m x (message (recovery_answer a)) f = ended-fits m x f
  hears-fits m x the_end f = ended-fits m x f

  pub writer-up-brings : (b c : ℕ) (n : Next) → IfSome (writer_up w b c n) (Brings w)
  writer-up-brings b c n = when-each (Brings w) (is_conn (w.writers b).conn c && is_none (w.writers b).told) _ (λ e.
      let none : (w.writers b).told ≡ None = none-told (w.writers b).told (and-right (is_conn (w.writers b).conn c) (is_none (w.writers b).told) e) in
      let same : RecordFits (given_to w b + 0) (w.writers b).known = subst (λ (o : Option Told). RecordFits (given_to w b + 0) (known_heard (w.writers b).known o)) none (kept-writer w h b) in
      writer-brings b (writer_hears (w.writers b).known n) (hears-fits (given_to w b + 0) (w.writers b).known n same))

  -- READERS

  reader-brings : (i : ℕ) (r : Reader) → Brings w (reader_change w i r)
  reader-brings i r = record {
    dials = each-nil (λ (d : Dial). MessageFits d.request);
    downs = λ c. each-nil MessageFits;
    ups = λ c. each-nil MessageFits;
    lower = h.lowers 0;
    replica = h.replicas 0 0;
    writer = kept-writer w h 0;
    spends = inl refl;
    primary = h.primaries 0;
  }

  reader-dials-brings : (i n : ℕ) (r : ReadOp) (answered : Bool) → CanBeAsked r → Brings w (reader_dials w i n r answered)
  reader-dials-brings i n r true a = let k = reader-brings i no_reader in
      record { dials = each-one (λ (d : Dial). MessageFits d.request) _ a; downs = k.downs; ups = k.ups; lower = k.lower; replica = k.replica; writer = k.writer; spends = k.spends; primary = k.primary }
  reader-dials-brings i n r false a = reader-brings i _

  own-reader-as-brings : (x : Reader) (i n : ℕ) (r : ReadOp) (answered : Bool) → CanBeAsked r → IfSome (own_reader_as x w i n r answered) (Brings w)
  own-reader-as-brings no_reader i n r answered a = reader-dials-brings i n r (answered && w.running n) a
  own-reader-as-brings (reads c s) i n r answered a = tt
  own-reader-as-brings (has_read x) i n r answered a = tt

  pub own-reader-brings : (i n : ℕ) (r : ReadOp) (answered : Bool) → CanBeAsked r → IfSome (own_reader w i n r answered) (Brings w)
  own-reader-brings i n r answered a = own-reader-as-brings (w.readers i) i n r answered a

  reader-turn-brings : (i c : ℕ) (t : ReadTaken) (x : ReadTurn) → Brings w (reader_turn w i c t x)
  reader-turn-brings i c t turn.Goes = reader-brings i _
  reader-turn-brings i c t turn.Verified = let k = reader-brings i no_reader in
      record { dials = k.dials; downs = sent-fits (Some c) _ (each-one MessageFits _ (tt, omega arith)); ups = k.ups; lower = k.lower; replica = k.replica; writer = k.writer; spends = k.spends; primary = k.primary }
  reader-turn-brings i c t (turn.Fails f) = let k = reader-brings i no_reader in
      record { dials = k.dials; downs = k.downs; ups = k.ups; lower = k.lower; replica = k.replica; writer = k.writer; spends = k.spends; primary = k.primary }

  reader-up-as-brings : (x : Reader) (i c : ℕ) (n : Next) → IfSome (reader_up_as x w i c n) (Brings w)
  reader-up-as-brings no_reader i c n = tt
  reader-up-as-brings (reads d s) i c n = when-each (Brings w) (d == c) _ (λ _. reader-turn-brings i c (take_from s (from_node_of n)) _)
  reader-up-as-brings (has_read x) i c n = tt

  pub reader-up-brings : (i c : ℕ) (n : Next) → IfSome (reader_up w i c n) (Brings w)
  reader-up-brings i c n = reader-up-as-brings (w.readers i) i c n
