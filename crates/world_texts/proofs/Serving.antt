-- What reads that are served and members of recoveries bring, and each lower end.
use Rattle.std.proofs.Common.{ℕ, ◌-◌, ◌*◌, ◌/◌, ◌≤◌, Bool, true, false, List, [], ◌∷◌, length, drop, inl, Option, Some, None, IfSome, Result, Ok, Err, refl, arith}
use Rattle.std.specs.Prelude.{◌==◌, if◌then◌else◌, max, option_map, IfOk}
use Rattle.std.proofs.Math.Nat.{min-le_right}
use Rattle.std.proofs.lemmas.List.{length-take}
use Rattle.hd_base.specs.declared.states.Status.TheVariants as status
use Rattle.hd_base.specs.SumRules.{Rule, IsChunkSize}
use Rattle.op_headers.specs.declared.ops.Op.TheVariants as op
use Rattle.op_headers.specs.declared.ops.ReadOp.{ReadOp}
use Rattle.op_headers.specs.declared.ops.RecoveryKind.{RecoveryKind}
use Rattle.op_headers.specs.declared.ops.RecoveryKind.TheVariants as kind
use Rattle.op_headers.specs.declared.ops.RecoveryOp.{RecoveryOp}
use Rattle.op_headers.specs.Formats.{block_format, base_format, client_format, read_format}
use Rattle.replica_core.specs.declared.events.Answer.{Answer}
use Rattle.replica_core.specs.declared.events.Answer.TheVariants as answer
use Rattle.replica_core.specs.declared.events.Event.{Event}
use Rattle.replica_core.specs.declared.events.Event.TheVariants as event
use Rattle.replica_core.specs.declared.info.ReplicaInfo.{ReplicaInfo}
use Rattle.replica_core.specs.Views.{rule_in}
use Rattle.world_laws.specs.ReplicaModel.ReplicaEvent.{ReplicaEvent}
use Rattle.world_laws.specs.ReplicaModel.ReplicaEvent.TheVariants as replica_event
use Rattle.world_laws.specs.ReplicaModel.Rows.{FullReplica, IsFull, IsOther, row_answer}
use Rattle.world_laws.specs.RequestRefusals.RequestRefusal.{RequestRefusal}
use Rattle.world_laws.specs.RequestRefusals.RequestRefusal.TheVariants as refusal
use Rattle.world_laws.specs.RequestRefusals.Pools.{is_in_pool}
use Rattle.world_laws.specs.ReadCore.ServePhase.{ServePhase}
use Rattle.world_laws.specs.ReadCore.ServePhase.TheVariants as phase
use Rattle.world_laws.specs.ReadCore.Servings.{ServingState, most_bytes, read_event, begun, piece_len, sent_before, piece_event, next_call, packet_of, piece_of, gone_on, sent_in, sent, accepting, refusing, begun_as, begun_at, read_at, faulted_read, piece_as}
use Rattle.world_laws.specs.RecoveryCore.RecoveryReply.{RecoveryReply}
use Rattle.world_laws.specs.RecoveryCore.RecoveryReply.TheVariants as reply
use Rattle.world_laws.specs.RecoveryCore.Members.{Served, step_event, recovery_event, reply_to, answer_of, served_as, serve, serve_faulted}
use Rattle.world_laws.specs.World.Parts.{Message, request, packet, ack, response, read_status, recovery_answer, Lower, idle, writes, serves, recovers, ended_below, Break}
use Rattle.world_laws.specs.World.Worlds.{World, Dial, still}
use Rattle.world_laws.specs.World.Connections.{Next, message, the_end, is_alive, sent_on}
use Rattle.world_laws.specs.World.Nodes.{node_of, replica_at, closing, unless_failing, breaking, read_change, failing_read, read_request, serve_change, recovery_change, failing_recovery, recovery_request, first_message, next_recovery, lower_down, lower_ready, mirror_up}
use Rattle.world_laws.specs.World.Nodes as nodes
use Rattle.world_laws.proofs.ByteFrame.{Each, each-nil, each-one}
use Rattle.world_laws.proofs.FactTables.{if-each, when-each}
use Rattle.world_laws.proofs.Lawful.{recovery-other}
use Rattle.world_texts.specs.Texts.{CanBeAsked}
use Rattle.world_texts.proofs.Spelling.{ResponseFits, PacketFits, RecoveryFits, AnswerFits, MessageFits}
use Rattle.world_texts.proofs.Sums.{kind-few, SumsFit, sums-fit, most-few, cast-fits}
use Rattle.world_texts.proofs.Frame.{LowerFits, ReplicaFits, Formed, Brings, kept-writer}
use Rattle.world_texts.proofs.Rows.{row-fits, broken-fits}
use Rattle.world_texts.proofs.Refusals.{IsNumber, RequestRefusalFits, EventNumbers, AnswerNumbers, refusal-few}
use Rattle.world_texts.proofs.Turns.{plain-fits}
use Rattle.world_texts.proofs.Nodes.{Holding, NextFits, At, here, answer-of-row, sent-fits, closing-brings, unless-brings, member-down-brings, member-up-brings, member-ready-brings, write-brings}

-- READS

-- the numbers of a read that can be asked for
record ReadNumbers (r : ReadOp) : Type 0 where
  stamp : IsNumber r.block.stamp.0
  offset : IsNumber r.offset

read-numbers : (r : ReadOp) → CanBeAsked r → ReadNumbers r
unfolding read_format client_format base_format block_format
read-numbers r h = record { stamp = h.fits.rows.0.rows.0.rows.0.rows.1.0.small; offset = h.fits.rows.1.0.small }

-- a read that is served, or why it is refused
abbrev ReadFits : Result ServingState RequestRefusal → Type 0
ReadFits (Ok s) = IsChunkSize s.rule.chunk × IsNumber s.from
ReadFits (Err r) = RequestRefusalFits r

begun-fits : (r : ReadOp) (rule : Rule) (visible : ℕ) → IsChunkSize rule.chunk → ReadNumbers r → ReadFits (Ok (begun r rule visible))
unfolding begun
begun-fits r rule visible c n = (c, omega (arith, n.offset))

as-fits : (r : ReadOp) (rule : Option Rule) (a : Answer) → IfSome rule (λ (x : Rule). IsChunkSize x.chunk) → ReadNumbers r → AnswerNumbers a → ReadFits (begun_as r rule a)
as-fits r (Some rule) (answer.Visible visible) c n h = begun-fits r rule visible c n
as-fits r (Some rule) (answer.Refused e) c n h = h
as-fits r (Some rule) answer.Done c n h = tt
as-fits r (Some rule) (answer.Info s stamp k) c n h = tt
as-fits r None (answer.Visible visible) c n h = tt
as-fits r None (answer.Refused e) c n h = h
as-fits r None answer.Done c n h = tt
as-fits r None (answer.Info s stamp k) c n h = tt

rule-fits : (r : FullReplica) → IsFull r → IfSome (rule_in r.known) (λ (x : Rule). IsChunkSize x.chunk)
rule-fits r f = go r.known.info f.rule
  where
    go : (o : Option ReplicaInfo) → IfSome o (λ (i : ReplicaInfo). IsChunkSize i.sums.chunk) → IfSome (option_map (λ (i : ReplicaInfo). i.sums) o) (λ (x : Rule). IsChunkSize x.chunk)
    go None h = tt
    go (Some i) h = h

read-at-fits : (op : ReadOp) (r : FullReplica) → CanBeAsked op → At r → ReadFits (read_at op r)
unfolding read_event
read-at-fits op r a h = go (is_in_pool op.block)
  where
    go : (b : Bool) → ReadFits (begun_at op r (if b then Ok (event.Read op.block.stamp op.offset op.len) else Err refusal.Pool))
    go true = as-fits op (rule_in r.known) _ (rule-fits r h.full) (read-numbers op a) (answer-of-row r (event.Read op.block.stamp op.offset op.len) h (read-numbers op a).stamp)
    go false = tt

accepting-fits : (s : ServingState) → ReadFits (Ok s) → ResponseFits (accepting s)
accepting-fits s h = record {
  listed = tt;
  low = omega arith;
  no_link = λ some. refl;
  kind = kind-few s.rule.kind;
  widths = (omega (arith, h.0.greatest), h.1);
  few = omega arith;
}

refusing-fits : (r : RequestRefusal) → RequestRefusalFits r → ResponseFits (refusing r)
refusing-fits r h = plain-fits status.Error [] _ tt (omega arith) (omega (arith, refusal-few r h))

-- the next packet
body-few : (s : ServingState) (body : List ℕ) → IsChunkSize s.rule.chunk → length body ≤ piece_len s → length body ≤ 65536
unfolding piece_len most_bytes
body-few s body c h = omega (arith, h, min-le_right (s.end - s.at) (s.rule.chunk * max 1 (64512 / s.rule.chunk)), most-few s.rule.chunk c.greatest)

piece-fits : (s : ServingState) (body : List ℕ) → IsChunkSize s.rule.chunk → length body ≤ piece_len s → PacketFits (packet_of s body)
unfolding packet_of
piece-fits s body c h =
    let sums : SumsFit _ body = sums-fit s.rule.kind s.rule.chunk s.rule.chunk body in
    record {
      offset = cast-fits s.at;
      seqno = cast-fits (sent_before s);
      whole = sums.whole;
      within = omega (arith, sums.few, body-few s body c h);
    }

taken-few : (s : ServingState) (r : FullReplica) → length (piece_of r s) ≤ piece_len s
taken-few s r = omega (arith, length-take (piece_len s) (drop s.at r.bytes))

gone-fits : (p : ServePhase) (s : ServingState) → IsChunkSize s.rule.chunk → IsChunkSize (sent_in p s).rule.chunk
unfolding gone_on
gone-fits phase.Sending s c = c
gone-fits phase.Awaiting s c = c
gone-fits phase.Over s c = c

-- RECOVERIES

abbrev ReplyFits : RecoveryReply → Type 0
ReplyFits (reply.Informed s stamp n) = IsNumber stamp.0 × IsNumber n
ReplyFits (reply.Refused r) = RequestRefusalFits r
ReplyFits _ = Unit {0}

reply-spelled : (r : RecoveryReply) → ReplyFits r → AnswerFits (answer_of r)
unfolding answer_of
reply-spelled (reply.Informed s stamp n) h = record { listed = tt; low = omega arith; info = h; few = omega arith }
reply-spelled reply.Updated h = record { listed = tt; low = omega arith; info = tt; few = omega arith }
reply-spelled reply.NoOffice h = record { listed = tt; low = omega arith; info = tt; few = omega arith }
reply-spelled (reply.Refused r) h = record { listed = tt; low = omega arith; info = tt; few = omega (arith, refusal-few r h) }

to-fits : (a : Answer) → AnswerNumbers a → ReplyFits (reply_to a)
to-fits (answer.Info s stamp n) h = h
to-fits (answer.Refused r) h = h
to-fits answer.Done h = tt
to-fits (answer.Visible n) h = tt

-- what a step comes to
abbrev StepFits : Result Event RecoveryReply → Type 0
StepFits (Ok e) = EventNumbers e
StepFits (Err r) = ReplyFits r

step-fits : (k : RecoveryKind) (r : RecoveryOp) → RecoveryFits r → StepFits (step_event k r)
step-fits kind.Begin r h = tt
step-fits kind.Init r h = if-each StepFits (r.recovery.0 == 0) _ (Ok (event.Init r.block.stamp r.recovery)) (λ _. (omega arith, omega arith, omega arith)) (λ _. (h.stamp, h.recovery))
step-fits kind.Update r h = h.length_fits

recovery-fits : (r : RecoveryOp) → RecoveryFits r → StepFits (recovery_event r)
unfolding recovery_event
recovery-fits r h = if-each StepFits (is_in_pool r.block) (step_event r.kind r) (Err (reply.Refused refusal.Pool)) (λ _. step-fits r.kind r h) (λ _. tt)

record ServedFits (s : Served) : Type 0 where
  replica : ReplicaFits s.replica
  reply : ReplyFits s.reply

module _ (w : World) (h : Formed w) (q : Holding w) where
  -- READS

  breaking-brings : (c b : ℕ) (r : FullReplica) (e : ReplicaEvent) (ms : List Message) → ReplicaFits r → Each MessageFits ms → Brings w (breaking w c b r e ms)
  breaking-brings c b r e ms f m = record {
    dials = each-nil (λ (d : Dial). MessageFits d.request);
    downs = λ d. each-nil MessageFits;
    ups = sent-fits (Some c) ms m;
    lower = tt;
    replica = f;
    writer = kept-writer w h 0;
    spends = inl refl;
    primary = h.primaries 0;
  }

  broken-at : (n b : ℕ) → ReplicaFits (faulted_read (w.replicas n b)).0
  broken-at n b = broken-fits (w.replicas n b) (h.replicas n b)

  serving-brings : (c b : ℕ) (s : ServingState) (m : Message) → IsChunkSize s.rule.chunk → MessageFits m → Brings w (record (still w) { lower_at = c; lower = serves b s; ups = sent_on (Some c) (m ∷ []) })
  serving-brings c b s m f k = record {
    dials = each-nil (λ (d : Dial). MessageFits d.request);
    downs = λ d. each-nil MessageFits;
    ups = sent-fits (Some c) (m ∷ []) (each-one MessageFits m k);
    lower = f;
    replica = h.replicas 0 0;
    writer = kept-writer w h 0;
    spends = inl refl;
    primary = h.primaries 0;
  }

  answering-brings : (c : ℕ) (m : Message) → MessageFits m → Brings w (record (closing w c) { ups = sent_on (Some c) (m ∷ []) })
  answering-brings c m k = record {
    dials = each-nil (λ (d : Dial). MessageFits d.request);
    downs = λ d. each-nil MessageFits;
    ups = sent-fits (Some c) (m ∷ []) (each-one MessageFits m k);
    lower = tt;
    replica = h.replicas 0 0;
    writer = kept-writer w h 0;
    spends = inl refl;
    primary = h.primaries 0;
  }

  read-brings : (c b : ℕ) (o : Result ServingState RequestRefusal) → ReadFits o → Brings w (read_change w c b o)
  read-brings c b (Ok s) f = serving-brings c b s (response (accepting s)) f.0 (accepting-fits s f)
  read-brings c b (Err r) f = answering-brings c (response (refusing r)) (refusing-fits r f)

  failing-read-brings : (c b : ℕ) (e : Result Event RequestRefusal) → IfSome (failing_read w c b e) (Brings w)
  failing-read-brings c b (Err r) = tt
  failing-read-brings c b (Ok e) =
      breaking-brings c b _ (replica_event.Other e) (response (refusing refusal.File) ∷ []) (broken-at (node_of w c) b) (each-one MessageFits (response (refusing refusal.File)) (refusing-fits refusal.File tt))

  read-request-brings : (c : ℕ) (r : ReadOp) (fails : Bool) → CanBeAsked r → IfSome (read_request w c r fails) (Brings w)
  read-request-brings c r true a = failing-read-brings c r.block.block.0 (read_event r)
  read-request-brings c r false a = read-brings c r.block.block.0 (read_at r (replica_at w c r.block.block.0)) (read-at-fits r _ a (here w h q (node_of w c) r.block.block.0))

  pieces-bring : (c b : ℕ) (s : ServingState) (r : FullReplica) (a : Answer) → IsChunkSize s.rule.chunk → Brings w (nodes.piece_change w c b (piece_as s r a))
  pieces-bring c b s r (answer.Visible n) f = serving-brings c b (sent s) (packet (packet_of s (piece_of r s))) (gone-fits s.phase s f) (piece-fits s (piece_of r s) f (taken-few s r))
  pieces-bring c b s r (answer.Refused e) f = closing-brings w h q c
  pieces-bring c b s r answer.Done f = closing-brings w h q c
  pieces-bring c b s r (answer.Info x stamp n) f = closing-brings w h q c

  serve-brings : (c b : ℕ) (s : ServingState) (o : Option Event) (fails : Bool) → IsChunkSize s.rule.chunk → IfSome (serve_change w c b s o fails) (Brings w)
  serve-brings c b s None fails f = tt
  serve-brings c b s (Some e) true f = breaking-brings c b _ (replica_event.Other e) [] (broken-at (node_of w c) b) (each-nil MessageFits)
  serve-brings c b s (Some e) false f = pieces-bring c b s (replica_at w c b) (row_answer (replica_at w c b) (replica_event.Other (piece_event s))) f

  -- RECOVERIES

  recovery-brings : (c : ℕ) (r : RecoveryOp) (s : Served) (b : Option Break) → ServedFits s → Brings w (recovery_change w c r s b)
  recovery-brings c r s b f = record {
    dials = each-nil (λ (d : Dial). MessageFits d.request);
    downs = λ d. each-nil MessageFits;
    ups = sent-fits (Some c) (recovery_answer (answer_of s.reply) ∷ []) (each-one MessageFits (recovery_answer (answer_of s.reply)) (reply-spelled s.reply f.reply));
    lower = tt;
    replica = f.replica;
    writer = kept-writer w h 0;
    spends = inl refl;
    primary = h.primaries 0;
  }

  served-fits : (r : FullReplica) (o : RecoveryOp) → At r → RecoveryFits o → ServedFits (serve r o)
  served-fits r o a f = go (recovery_event o) (recovery-fits o f) (recovery-other o)
    where
      go : (e : Result Event RecoveryReply) → StepFits e → IfOk e IsOther → ServedFits (served_as r e)
      go (Err said) s k = record { replica = a.fits; reply = s }
      go (Ok e) s k = record { replica = row-fits r (replica_event.Other e) a.fits k; reply = to-fits (row_answer r (replica_event.Other e)) (answer-of-row r e a s) }

  failing-recovery-brings : (c : ℕ) (r : RecoveryOp) (e : Result Event RecoveryReply) → IfSome (failing_recovery w c r e) (Brings w)
  failing-recovery-brings c r (Err said) = tt
  failing-recovery-brings c r (Ok e) =
      recovery-brings c r (serve_faulted (replica_at w c r.block.block.0)) _ (record { replica = broken-fits _ (h.replicas (node_of w c) r.block.block.0); reply = tt })

  recovery-request-brings : (c : ℕ) (r : RecoveryOp) (fails : Bool) → RecoveryFits r → IfSome (recovery_request w c r fails) (Brings w)
  recovery-request-brings c r true f = failing-recovery-brings c r (recovery_event r)
  recovery-request-brings c r false f = recovery-brings c r (serve (replica_at w c r.block.block.0) r) _ (served-fits (replica_at w c r.block.block.0) r (here w h q (node_of w c) r.block.block.0) f)

  -- THE LOWER END

  first-brings : (c : ℕ) (m : Message) (answered fails : Bool) → MessageFits m → IfSome (first_message w c m answered fails) (Brings w)
  first-brings c (request (op.Write f)) answered fails k = write-brings w h q c f answered fails k
  first-brings c (request (op.Read r)) answered fails k = read-request-brings c r fails k
  first-brings c (request (op.Recovery r)) answered fails k = recovery-request-brings c r fails k
  first-brings c (request (op.Transfer r)) answered fails k = unless-brings w h q c fails
  first-brings c (request (op.Checksum r)) answered fails k = unless-brings w h q c fails
  first-brings c (packet p) answered fails k = unless-brings w h q c fails
  first-brings c (ack a) answered fails k = unless-brings w h q c fails
  first-brings c (response r) answered fails k = unless-brings w h q c fails
  first-brings c (read_status s) answered fails k = unless-brings w h q c fails
  first-brings c (recovery_answer a) answered fails k = unless-brings w h q c fails

  next-brings : (c : ℕ) (x : Next) (fails : Bool) → NextFits x → IfSome (next_recovery w c x fails) (Brings w)
  next-brings c (message (request (op.Recovery r))) fails k = recovery-request-brings c r fails k
  next-brings c (message (request (op.Write f))) fails k = unless-brings w h q c fails
  next-brings c (message (request (op.Read r))) fails k = unless-brings w h q c fails
  next-brings c (message (request (op.Transfer r))) fails k = unless-brings w h q c fails
  next-brings c (message (request (op.Checksum r))) fails k = unless-brings w h q c fails
  next-brings c (message (packet p)) fails k = unless-brings w h q c fails
  next-brings c (message (ack a)) fails k = unless-brings w h q c fails
  next-brings c (message (response r)) fails k = unless-brings w h q c fails
  next-brings c (message (read_status s)) fails k = unless-brings w h q c fails
  next-brings c (message (recovery_answer a)) fails k = unless-brings w h q c fails
  next-brings c the_end fails k = unless-brings w h q c fails

  pub lower-down-brings : (l : Lower) (c : ℕ) (x : Next) (answered fails : Bool) → LowerFits l → NextFits x → IfSome (lower_down l w c x answered fails) (Brings w)
  lower-down-brings idle c (message m) answered fails f k = first-brings c m answered fails k
  lower-down-brings idle c the_end answered fails f k = unless-brings w h q c fails
  lower-down-brings (writes m) c x answered fails f k = member-down-brings w h q c m x fails f k
  lower-down-brings (serves b s) c x answered fails f k = unless-brings w h q c fails
  lower-down-brings recovers c x answered fails f k = next-brings c x fails k
  lower-down-brings ended_below c x answered fails f k = tt

  pub lower-ready-brings : (l : Lower) (c : ℕ) (fails : Bool) → LowerFits l → IfSome (lower_ready l w c fails) (Brings w)
  lower-ready-brings idle c fails f = tt
  lower-ready-brings (writes m) c fails f = member-ready-brings w h q c m fails f
  lower-ready-brings (serves b s) c fails f = serve-brings c b s (next_call s) fails f
  lower-ready-brings recovers c fails f = tt
  lower-ready-brings ended_below c fails f = tt

  pub mirror-up-brings : (l : Lower) (d : ℕ) (x : Next) (fails : Bool) → LowerFits l → NextFits x → IfSome (mirror_up l w d x fails) (Brings w)
  mirror-up-brings idle d x fails f k = tt
  mirror-up-brings (writes m) d x fails f k = when-each (Brings w) (is_alive w (w.dialled d).to) _ (λ _. member-up-brings w h q d m x fails f k)
  mirror-up-brings (serves b s) d x fails f k = tt
  mirror-up-brings recovers d x fails f k = tt
  mirror-up-brings ended_below d x fails f k = tt
