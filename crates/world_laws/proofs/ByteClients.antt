-- Own steps of writers and readers, and what they take.
use Rattle.std.proofs.Common.{◌≡◌, ℕ, ◌+◌, ◌⊎◌, inl, inr, Bool, true, false, List, [], ◌∷◌, ◌++◌, length, slice_get, Option, Some, None, IfSome, Result, Ok, Err, refl, sym, ◌∙◌, ap, subst, arith}
use Rattle.std.specs.Prelude.{◌==◌, ◌&&◌, not, nat_le, is_none}
use Rattle.world.specs.PacketCodec.Packet.{Packet}
use Rattle.world.specs.WriterCore.DuePacket.{DuePacket}
use Rattle.world.specs.WriterCore.DuePacket.TheVariants as due
use Rattle.world.specs.ReplicaModel.Rows.{FullReplica}
use Rattle.world.specs.Parts.{Break, Lower}
use Rattle.std.proofs.lemmas.Bool.{false≢true}
use Rattle.std.proofs.lemmas.Bool.Decides.{nat_tests}
use Rattle.std.proofs.lemmas.Option.{none-some, same_Some}
use Rattle.hd_base.specs.SumRules.{Rule, IsChunkSize}
use Rattle.hd_base.specs.declared.sum_rule.TheConstants.{MIN_CHUNK_SIZE, MAX_CHUNK_SIZE}
use Rattle.hd_base.specs.declared.numbers.NodeId.{NodeId}
use Rattle.hd_base.specs.declared.numbers.Stamp.{Stamp}
use Rattle.name_core.specs.declared.records.BlockRecord.{BlockRecord}
use Rattle.name_core.specs.Offices.{record_of}
use Rattle.world.specs.OpHeaders.Op.{Op}
use Rattle.world.specs.OpHeaders.Op.TheVariants as op
use Rattle.world.specs.OpHeaders.ReadOp.{ReadOp}
use Rattle.world.specs.PacketStream.Streams.{begun}
use Rattle.world.proofs.PacketStream.StreamLemmas.{begun_is, begun_written}
use Rattle.world.specs.ReadCore.ReadTurn.{ReadTurn}
use Rattle.world.specs.ReadCore.ReadTurn.TheVariants as turn
use Rattle.world.specs.ReadCore.Readings.{ReadTaken, take_from}
use Rattle.world.specs.WriterCore.Action.TheVariants as action
use Rattle.world.specs.WriterCore.Command.{Command}
use Rattle.world.specs.WriterCore.Command.TheVariants as command
use Rattle.world.specs.WriterCore.CommandFault.{CommandFault}
use Rattle.world.specs.WriterCore.Intake.{Intake}
use Rattle.world.specs.WriterCore.Failure.{Failure}
use Rattle.world.specs.WriterCore.Phase.{Phase}
use Rattle.world.specs.WriterCore.Phase.TheVariants as phase
use Rattle.world.specs.WriterCore.Setup.{Setup}
use Rattle.world.specs.WriterCore.Setup.TheVariants as setup
use Rattle.world.specs.WriterCore.Waiting.{Waiting}
use Rattle.world.specs.WriterCore.WriterRecord.{WriterRecord}
use Rattle.world.specs.WriterCore.Commands.{admitted}
use Rattle.world.specs.WriterCore.Requests.{request_for}
use Rattle.world.specs.WriterCore.Sound.{Sound}
use Rattle.world.specs.WriterCore.Transitions.{given_as, given, own_step, dial_step, dial_step_as, open_step, completed_step, free_step_as, take_first, failed_first, failed_command, failed_step_as, accepted_step, step_in, granted, dialled_in, dialled, is_connected, form_step, reach_step_as, reached_length, due_step, due_now, stream_step_as}
use Rattle.world.specs.WriterCore.Transitions as writer
use Rattle.world.proofs.WriterCore.SoundLemmas.{answered as answered_sound, own_step_sound, dialled_sound, setup_sound, acked_sound, ended_sound, given_sound}
use Rattle.world.specs.declared.events.TakenCommand.{TakenCommand}
use Rattle.world.specs.Parts.{Message, request, packet, ack, response, read_status, recovery_answer, by_writer, by_reader, by_primary, Told, Reader, no_reader, reads, has_read}
use Rattle.world.specs.Worlds.{Past, World, Dial, Change, past_after}
use Rattle.world.specs.Connections.{Next, message, the_end, is_conn}
use Rattle.world.specs.Clients.{did, dialled_change, dialling, rest_in, is_empty, is_formed, ruled, command_bytes, takes_command, writer_step, own_writer, named_member, writer_hears, writer_up, reader_dials, own_reader_as, own_reader, from_node_of, reader_turn, reader_up_as, reader_up}
use Rattle.world_laws.proofs.FactTables.{when-each, and-left, and-right}
use Rattle.world_laws.proofs.WriterSteps.{given-same}
use Rattle.world_laws.specs.Stamping.{Givens, known_heard, heard, IsOfLatest, Waits, InPhase, Fits, HeldOf}
use Rattle.world_laws.proofs.StampMoves.{given-fits}
use Rattle.world_laws.specs.Carrying.{Sets, DownSays, UpSays, ReplicaSays, BreakSays, LowerSays, AsksFor, Asks, Streams}
use Rattle.world_laws.proofs.ByteLater.{Later, lower-later}
use Rattle.world_laws.proofs.ByteFrame.{Each, each-nil, each-one, asks-later}
use Rattle.world_laws.proofs.ByteLeaves.{Facts, self-later, Beside, node-keeps, ready-at, break-at, sent-each}
use Rattle.world_laws.proofs.ByteAsking.{Keeps, only-one, first-dial}
use Rattle.world_laws.proofs.ByteStreaming.{Good, Makes, Heads, own-step-makes, open-good, completed-good, writer-hears, dialled-hears}
use Rattle.world_laws.proofs.ByteQueues.{own-step-empty}
use Rattle.world_laws.proofs.ByteWriting.{IsWhole, nothing, own_of, client-keeps, WriterAfter, own-stays, writer-change-keeps, did-keeps, requested, request-says}

-- THE WRITER AS IT STANDS

-- what is true of a writer that is the one that has heard
record IsHeard (g : Givens) (w : World) (b : ℕ) (h : Facts g w) (x : WriterRecord) : Type 0 where
  pub after : WriterAfter g w b (own_of g w h b) x
  pub block : x.block ≡ record { 0 = b }
  pub held : HeldOf (g b) (w.latest b) (record_of w.office (record { 0 = b })) x

heard-good : (g : Givens) (w : World) (b : ℕ) (h : Facts g w) (p : Past) → Later g g w.past p → Good (g b) p (w.latest b) (own_of g w h b) (heard (w.writers b))
heard-good g w b h p y =
    let x = heard (w.writers b) in
    record { streams = (h.carried.writers b).streams; asks = asks-later g g w.past p b (w.latest b) x.committed x.stream x.phase y (h.carried.writers b).asks }

is-heard : (g : Givens) (w : World) (b : ℕ) (h : Facts g w) (o : Option Told) → (w.writers b).told ≡ o → IsHeard g w b h (known_heard (w.writers b).known o)
is-heard g w b h o e = subst (λ (t : Option Told). IsHeard g w b h (known_heard (w.writers b).known t)) e (record {
  after = record { sound = (h.carried.writers b).sound; queue = (h.carried.writers b).queue; good = λ p y. heard-good g w b h p y };
  block = h.recorded.writers b;
  held = h.recorded.blocks b;
})

-- DIALS

dialled-linked : (x : WriterRecord) (way : Setup) (stamp : Stamp) → x.phase ≡ phase.Stamped way stamp → is_connected (dialled x true).phase ≡ true
unfolding dialled
dialled-linked x way stamp e = subst (λ (p : Phase). is_connected (dialled_in x p true).phase ≡ true) (sym e) refl

dialled-keeps : (g : Givens) (w : World) (b : ℕ) (x : WriterRecord) (way : Setup) (stamp : Stamp) (to : NodeId) (n : ℕ) (ts : List NodeId) (answered : Bool) (h : Facts g w) → IsHeard g w b h x
    → x.phase ≡ phase.Stamped way stamp → Keeps g w (dialled_change w b x to (request_for x.block x.committed x.stream way stamp n ts) answered)
dialled-keeps g w b x way stamp to n ts false h i e =
    writer-change-keeps g w b (dialled x false) h (record {
      sound = dialled_sound x false i.after.sound;
      queue = (dialled-hears (g b) w.past (w.latest b) (own_of g w h b) x false (i.after.good w.past (self-later g w h.recorded))).queue ∙ i.after.queue;
      good = λ p y. (dialled-hears (g b) p (w.latest b) (own_of g w h b) x false (i.after.good p y)).good;
    })
dialled-keeps g w b x way stamp to n ts true h i e =
    let o = request_for x.block x.committed x.stream way stamp n ts in
    let k = dialled_change w b x to o true in
    let p = past_after w k in
    client-keeps g w k h (record { office = refl; stamped = refl; primary = refl; replica = refl; broke = refl; lower = refl; ups = λ _. refl }) (nothing refl) (λ y.
    let r = requested x.block x.committed x.stream way stamp n ts in
    let z = i.after.good p y in
    let a : AsksFor (g b) p (w.latest b) x.committed x.stream way stamp = subst (λ (q : Phase). Asks (g b) p (w.latest b) x.committed x.stream q) e z.asks in
    let first : slice_get (p.downs (w.next_conn + 0)) 0 ≡ Some (request (op.Write r.fields)) = first-dial g w k 0 _ h (λ _. refl) refl ∙ ap (λ (q : Op). Some (request q)) r.is in
    let says = request-says g p b (w.latest b) (w.next_conn + 0) x way stamp r.fields o r refl i.block a first in
    let u = dialled-hears (g b) p (w.latest b) (own_of g w h b) x true z in
    record {
      downs = λ d. each-nil (DownSays g p d);
      dials = only-one (λ j d. DownSays g p (w.next_conn + j) d.request) _ k.dials refl (subst (λ (q : Op). DownSays g p (w.next_conn + 0) (request q)) (sym r.is) says);
      unled = only-one (λ j d. (m place : ℕ) → d.dialled.upper ≡ by_primary m place → ⊥) _ k.dials refl (λ m place q. apart m place q);
      writer = record {
        conn = record {
          stamp = stamp;
          sets = subst (λ (c : ℕ). Sets p c stamp) plus (record { fields = r.fields; first = first; is = r.new a.created });
          given = a.given;
        };
        linked = λ c q. dialled-linked x way stamp e;
        sound = dialled_sound x true i.after.sound;
        queue = u.queue ∙ i.after.queue;
        own = own_of g w h b;
        are = own-stays g w k b h refl;
        streams = u.good.streams;
        asks = u.good.asks;
      };
    })
  where
    plus : w.next_conn + 0 ≡ w.next_conn
    plus = omega arith

    apart : (m place : ℕ) → by_writer b ≡ by_primary m place → ⊥
    apart m place q = cc

dialling-keeps : (g : Givens) (w : World) (b : ℕ) (x : WriterRecord) (way : Setup) (stamp : Stamp) (ms : List NodeId) (answered : Bool) (h : Facts g w) → IsHeard g w b h x → x.phase ≡ phase.Stamped way stamp
    → Keeps g w (dialling w b x (dial_step_as x way stamp ms).action answered)
dialling-keeps g w b x way stamp [] answered h i e = writer-change-keeps g w b x h i.after
dialling-keeps g w b x way stamp (m ∷ ms) answered h i e = dialled-keeps g w b x way stamp m (length x.members) ms (answered && w.running m.0) h i e

-- THE REST OF A STEP

stream-at : (g : Givens) (w : World) (b : ℕ) (h : Facts g w) (x : WriterRecord) (p : Phase) → IsHeard g w b h x → x.phase ≡ p → (q : Past) → Later g g w.past q → Streams (own_of g w h b) x.stream p
stream-at g w b h x p i e q y = subst (λ (r : Phase). Streams (own_of g w h b) x.stream r) e (i.after.good q y).streams

rest-keeps : (p : Phase) (g : Givens) (w : World) (b : ℕ) (x : WriterRecord) (answered : Bool) (h : Facts g w) → IsHeard g w b h x → x.phase ≡ p → IfSome (rest_in p w b x answered) (Keeps g w)
rest-keeps phase.Closed g w b x answered h i e = writer-change-keeps g w b x h i.after
rest-keeps (phase.Wanted way) g w b x answered h i e = writer-change-keeps g w b x h i.after
rest-keeps (phase.Stamped way stamp) g w b x answered h i e = dialling-keeps g w b x way stamp x.members answered h i e
rest-keeps (phase.Requested way stamp) g w b x answered h i e = writer-change-keeps g w b x h i.after
rest-keeps (phase.Accepted way stamp) g w b x answered h i e = writer-change-keeps g w b x h i.after
rest-keeps phase.Opened g w b x answered h i e =
    did-keeps g w b x.waiting (open_step x).action (open_step x).writer [] h (record {
      sound = answered_sound x (phase.Streaming 0) i.after.sound;
      queue = i.after.queue;
      makes = λ p y. open-good (g b) p (w.latest b) (own_of g w h b) x (stream-at g w b h x phase.Opened i e p y);
      spends = λ _. inl refl;
    })
rest-keeps (phase.Streaming sent) g w b x answered h i e = writer-change-keeps g w b x h i.after
rest-keeps phase.Closing g w b x answered h i e = writer-change-keeps g w b x h i.after
rest-keeps phase.Finished g w b x answered h i e = writer-change-keeps g w b x h i.after
rest-keeps phase.Completed g w b x answered h i e =
    did-keeps g w b x.waiting (completed_step x).action (completed_step x).writer [] h (record {
      sound = answered_sound x phase.Closed i.after.sound;
      queue = i.after.queue;
      makes = λ p y. completed-good (g b) p (w.latest b) (own_of g w h b) x;
      spends = λ _. inl refl;
    })
rest-keeps (phase.Failed f) g w b x answered h i e = writer-change-keeps g w b x h i.after

-- OWN STEPS

no-heads : (x : WriterRecord) → x.queue ≡ [] → Heads x []
no-heads x e = record { is = λ c q. absurd (none-some c (sym (ap (λ (cs : List Command). slice_get cs 0) e) ∙ q)) }

own-keeps : (g : Givens) (w : World) (b : ℕ) (x : WriterRecord) (h : Facts g w) → IsHeard g w b h x → IfSome (did w b x.waiting (own_step x).action (own_step x).writer []) (Keeps g w)
own-keeps g w b x h i =
    did-keeps g w b x.waiting (own_step x).action (own_step x).writer [] h (record {
      sound = own_step_sound x i.after.sound;
      queue = own-step-empty x i.after.queue;
      makes = λ p y. own-step-makes (g b) p (w.latest b) (own_of g w h b) [] x i.after.sound (i.after.good p y) (no-heads x i.after.queue);
      spends = λ _. inl refl;
    })

-- WHICH COMMANDS BRING BYTES

-- the block has them, or there are none
abbrev Rooted : (ℕ → Option ℕ) → ℕ → Stamp → List ℕ → Type 0
Rooted f l h bytes = (bytes ≡ []) ⊎ IsOfLatest f l h

free-waits : (x : WriterRecord) (o : Option Waiting) → (free_step_as x o).action ≡ action.Took → Waits o → ⊥
free-waits x None e k = false≢true k.is
free-waits x (Some w) e k = cc

failed-rooted : (f : ℕ → Option ℕ) (l : ℕ) (x : WriterRecord) (bytes : List ℕ) (d : Failure) (c : Command) → bytes ≡ command_bytes x c → (failed_command x d c).action ≡ action.Took → Rooted f l x.committed bytes
failed-rooted f l x bytes d (command.Append members) b e = inl b
failed-rooted f l x bytes d (command.Create members) b e = absurd (cc)
failed-rooted f l x bytes d (command.Write v) b e = absurd (cc)
failed-rooted f l x bytes d (command.Fill n) b e = absurd (cc)
failed-rooted f l x bytes d command.Hflush b e = absurd (cc)
failed-rooted f l x bytes d command.Hsync b e = absurd (cc)
failed-rooted f l x bytes d command.Close b e = absurd (cc)

failed-first-rooted : (f : ℕ → Option ℕ) (l : ℕ) (x : WriterRecord) (bytes : List ℕ) (d : Failure) (o : Option Command) → Heads x bytes → slice_get x.queue 0 ≡ o → (failed_first x d o).action ≡ action.Took → Rooted f l x.committed bytes
failed-first-rooted f l x bytes d None b q e = absurd (cc)
failed-first-rooted f l x bytes d (Some c) b q e = failed-rooted f l x bytes d c (b.is c q) e

failed-step-rooted : (f : ℕ → Option ℕ) (l : ℕ) (x : WriterRecord) (bytes : List ℕ) (d : Failure) (o : Option Waiting) → Heads x bytes → (failed_step_as x d o).action ≡ action.Took → Rooted f l x.committed bytes
failed-step-rooted f l x bytes d None b e = failed-first-rooted f l x bytes d (slice_get x.queue 0) b refl e
failed-step-rooted f l x bytes d (Some w) b e = absurd (cc)

dial-asks : (x : WriterRecord) (s : Setup) (t : Stamp) (ms : List NodeId) → (dial_step_as x s t ms).action ≡ action.Took → ⊥
dial-asks x s t [] e = cc
dial-asks x s t (m ∷ ms) e = cc

accepted-asks : (x : WriterRecord) (s : Setup) (t : Stamp) → (accepted_step x s t).action ≡ action.Took → ⊥
accepted-asks x setup.Create t e = cc
accepted-asks x setup.Append t e = cc
accepted-asks x setup.AppendRecovery t e = cc
accepted-asks x setup.StreamRecovery t e = cc
accepted-asks x setup.CloseRecovery t e = cc

requested-rooted : (f : ℕ → Option ℕ) (l : ℕ) (r : Option Stamp) (x : WriterRecord) (s : Setup) (t : Stamp) → InPhase f l r x.committed x.waiting x.stream.unacked (phase.Requested s t) → (free_step_as x x.waiting).action ≡ action.Took → IsOfLatest f l x.committed
requested-rooted f l r x setup.Create t k e = record { is = ap (λ (u : Stamp). f u.0) k.1.0.is ∙ k.0.session.is }
requested-rooted f l r x setup.Append t k e = absurd (free-waits x x.waiting e k.1.0)
requested-rooted f l r x setup.AppendRecovery t k e = absurd (free-waits x x.waiting e k.1.0)
requested-rooted f l r x setup.StreamRecovery t k e = k.1.0
requested-rooted f l r x setup.CloseRecovery t k e = k.1

-- A command with bytes is taken only where the stamp known as committed is of the latest session.
took-in : (f : ℕ → Option ℕ) (l : ℕ) (r : Option Stamp) (x : WriterRecord) (bytes : List ℕ) (p : Phase) → InPhase f l r x.committed x.waiting x.stream.unacked p → Heads x bytes → (step_in x p).action ≡ action.Took → Rooted f l x.committed bytes
took-in f l r x bytes phase.Closed k b e = inr k
took-in f l r x bytes (phase.Wanted s) k b e = absurd (cc)
took-in f l r x bytes (phase.Stamped s t) k b e = absurd (dial-asks x s t x.members e)
took-in f l r x bytes (phase.Requested s t) k b e = inr (requested-rooted f l r x s t k e)
took-in f l r x bytes (phase.Accepted s t) k b e = absurd (accepted-asks x s t e)
took-in f l r x bytes phase.Opened k b e = absurd (cc)
took-in f l r x bytes (phase.Streaming sent) k b e = inr k.0.session
took-in f l r x bytes phase.Closing k b e = inr k.session
took-in f l r x bytes phase.Finished k b e = absurd (cc)
took-in f l r x bytes phase.Completed k b e = absurd (cc)
took-in f l r x bytes (phase.Failed d) k b e = failed-step-rooted f l x bytes d x.waiting b e

took-rooted : (f : ℕ → Option ℕ) (l : ℕ) (r : Option Stamp) (x : WriterRecord) (bytes : List ℕ) → Fits f l r x → Heads x bytes → (own_step x).action ≡ action.Took → Rooted f l x.committed bytes
unfolding own_step
took-rooted f l r x bytes k b e = took-in f l r x bytes x.phase k b e

-- the block whose committed stamp is of its latest session
rooted-whole : (g : Givens) (w : World) (b : ℕ) (x z : WriterRecord) (bytes : List ℕ) (o : Option BlockRecord) → record_of w.office (record { 0 = b }) ≡ o → HeldOf (g b) (w.latest b) o x → z.committed ≡ x.committed
    → ((r : Option Stamp) → Fits (g b) (w.latest b) r x → Rooted (g b) (w.latest b) z.committed bytes) → (bytes ≡ []) ⊎ IsWhole g w b
rooted-whole g w b x z bytes None q h c k =
    inr (record { all = λ u e i. absurd (none-some e (sym (h.1 u) ∙ i)); entry = subst (λ (o : Option BlockRecord). IfSome o (λ r. (e : ℕ) → g b r.committed.0 ≡ Some e → e ≡ w.latest b)) (sym q) tt })
rooted-whole g w b x z bytes (Some r) q h c k = go (k r.recovery h.writer.fits)
  where
    whole : IsOfLatest (g b) (w.latest b) z.committed → IsWhole g w b
    whole i =
        let root : h.base ≡ w.latest b = h.writer.rooted (subst (λ (t : Stamp). IsOfLatest (g b) (w.latest b) t) c i) in
        record {
          all = λ u e j le. h.office.whole root u e j le;
          entry = subst (λ (o : Option BlockRecord). IfSome o (λ y. (e : ℕ) → g b y.committed.0 ≡ Some e → e ≡ w.latest b)) (sym q) (λ e j. same_Some e h.base (sym j ∙ h.office.committed) ∙ root);
        }

    go : Rooted (g b) (w.latest b) z.committed bytes → (bytes ≡ []) ⊎ IsWhole g w b
    go (inl e) = inl e
    go (inr i) = inr (whole i)

-- COMMANDS

-- a command that was given stands alone in the queue, and nothing else is changed
record IsGiven (x z : WriterRecord) (c : Command) : Type 0 where
  pub queue : z.queue ≡ c ∷ []
  pub good : (f : ℕ → Option ℕ) (h : Past) (l : ℕ) (v : List ℕ) → Good f h l v x → Good f h l v z
  pub bytes : command_bytes z c ≡ command_bytes x c

same-bytes : (x : WriterRecord) (i : Intake) (q : List Command) (c : Command) → command_bytes (record x { intake = i; queue = q }) c ≡ command_bytes x c
same-bytes x i q (command.Create members) = refl
same-bytes x i q (command.Append members) = refl
same-bytes x i q (command.Write b) = refl
same-bytes x i q (command.Fill n) = refl
same-bytes x i q command.Hflush = refl
same-bytes x i q command.Hsync = refl
same-bytes x i q command.Close = refl

given-as-is : (x : WriterRecord) (c : Command) (r : Result Intake CommandFault) → x.queue ≡ [] → not (is_empty (given_as x c r).queue) ≡ true → IsGiven x (given_as x c r) c
given-as-is x c (Ok i) e t = record {
  queue = ap (λ (q : List Command). q ++ c ∷ []) e;
  good = λ f h l v k. record { streams = k.streams; asks = k.asks };
  bytes = same-bytes x i (x.queue ++ c ∷ []) c;
}
given-as-is x c (Err d) e t = absurd (false≢true (sym (ap (λ (q : List Command). not (is_empty q)) e) ∙ t))

given-is : (x : WriterRecord) (c : Command) → x.queue ≡ [] → not (is_empty (given x c).queue) ≡ true → IsGiven x (given x c) c
given-is x c e t = given-as-is x c (admitted x.intake c) e t

empty-is : (q : List Command) → is_empty q ≡ true → q ≡ []
empty-is [] e = refl
empty-is (c ∷ q) e = absurd (false≢true e)

only-head : (z : WriterRecord) (c d : Command) → z.queue ≡ c ∷ [] → slice_get z.queue 0 ≡ Some d → c ≡ d
only-head z c d e q = same_Some c d (sym (ap (λ (cs : List Command). slice_get cs 0) e) ∙ q)

-- a command that is given and taken, but a create, which brings its own rule
taken-keeps : (g : Givens) (w : World) (b : ℕ) (x : WriterRecord) (c : Command) (h : Facts g w) → IsHeard g w b h x → not (is_empty (given x c).queue) ≡ true
    → is_empty (own_step (given x c)).writer.queue ≡ true → IfSome (did w b x.waiting (own_step (given x c)).action (own_step (given x c)).writer (command_bytes x c)) (Keeps g w)
taken-keeps g w b x c h i t u =
    let z = given x c in
    let k = given-is x c i.after.queue t in
    let heads : Heads z (command_bytes x c) = record { is = λ d q. sym k.bytes ∙ ap (λ (e : Command). command_bytes z e) (only-head z c d k.queue q) } in
    let n = given_sound x c i.after.sound in
    did-keeps g w b x.waiting (own_step z).action (own_step z).writer (command_bytes x c) h (record {
      sound = own_step_sound z n;
      queue = empty-is (own_step z).writer.queue u;
      makes = λ p y. own-step-makes (g b) p (w.latest b) (own_of g w h b) (command_bytes x c) z n (k.good (g b) p (w.latest b) (own_of g w h b) (i.after.good p y)) heads;
      spends = λ e. rooted-whole g w b x z (command_bytes x c) (record_of w.office (record { 0 = b })) refl i.held (given-same x c).committed
          (λ r f. took-rooted (g b) (w.latest b) r z (command_bytes x c) (given-fits (g b) (w.latest b) r x c f) heads e);
    })

-- A create that is taken: a pipeline is wanted, or the writer has failed.
abbrev Begins : Past → ℕ → (ℕ → Option ℕ) → writer.Step → Type 0
Begins h l f s = is_empty s.writer.queue ≡ true → (v : List ℕ) → Makes f h l v [] s.action s.writer

not-taken : (q : List Command) (c : Command) → q ≡ c ∷ [] → is_empty q ≡ true → ⊥
not-taken q c e t = false≢true (sym (ap is_empty e) ∙ t)

first-begins : (h : Past) (l : ℕ) (f : ℕ → Option ℕ) (z : WriterRecord) (ms : List NodeId) (o : Option Command) → z.queue ≡ command.Create ms ∷ [] → slice_get z.queue 0 ≡ o → Begins h l f (take_first z o)
first-begins h l f z ms None e q t v = absurd (not-taken z.queue (command.Create ms) e t)
first-begins h l f z ms (Some c) e q t v =
    subst (λ (d : Command). Makes f h l v [] (take_first z (Some d)).action (take_first z (Some d)).writer) (only-head z (command.Create ms) c e q) (record { streams = tt; asks = tt })

free-begins : (h : Past) (l : ℕ) (f : ℕ → Option ℕ) (z : WriterRecord) (ms : List NodeId) (o : Option Waiting) → z.queue ≡ command.Create ms ∷ [] → Begins h l f (free_step_as z o)
free-begins h l f z ms None e = first-begins h l f z ms (slice_get z.queue 0) e refl
free-begins h l f z ms (Some w) e = λ t v. absurd (not-taken z.queue (command.Create ms) e t)

failed-begins : (h : Past) (l : ℕ) (f : ℕ → Option ℕ) (z : WriterRecord) (ms : List NodeId) (d : Failure) (o : Option Waiting) → z.queue ≡ command.Create ms ∷ [] → z.phase ≡ phase.Failed d → Begins h l f (failed_step_as z d o)
failed-begins h l f z ms d (Some w) e q = λ t v. absurd (not-taken z.queue (command.Create ms) e t)
failed-begins h l f z ms d None e q = first (slice_get z.queue 0) refl
  where
    failed : (v : List ℕ) → Good f h l v (failed_command z d (command.Create ms)).writer
    failed v = record { streams = subst (λ (p : Phase). Streams v z.stream p) (sym q) tt; asks = subst (λ (p : Phase). Asks f h l z.committed z.stream p) (sym q) tt }

    first : (o : Option Command) → slice_get z.queue 0 ≡ o → Begins h l f (failed_first z d o)
    first None i t v = absurd (not-taken z.queue (command.Create ms) e t)
    first (Some c) i t v =
        subst (λ (a : Command). Makes f h l v [] (failed_command z d a).action (failed_command z d a).writer) (only-head z (command.Create ms) c e i) (failed v)

dial-begins : (h : Past) (l : ℕ) (f : ℕ → Option ℕ) (z : WriterRecord) (c : Command) (s : Setup) (t : Stamp) (ms : List NodeId) → z.queue ≡ c ∷ [] → Begins h l f (dial_step_as z s t ms)
dial-begins h l f z c s t [] e = λ u v. absurd (not-taken z.queue c e u)
dial-begins h l f z c s t (m ∷ ms) e = λ u v. absurd (not-taken z.queue c e u)

accepted-begins : (h : Past) (l : ℕ) (f : ℕ → Option ℕ) (z : WriterRecord) (c : Command) (s : Setup) (t : Stamp) → z.queue ≡ c ∷ [] → Begins h l f (accepted_step z s t)
accepted-begins h l f z c setup.Create t e = λ u v. absurd (not-taken z.queue c e u)
accepted-begins h l f z c setup.Append t e = λ u v. absurd (not-taken z.queue c e u)
accepted-begins h l f z c setup.AppendRecovery t e = λ u v. absurd (not-taken z.queue c e u)
accepted-begins h l f z c setup.StreamRecovery t e = λ u v. absurd (not-taken z.queue c e u)
accepted-begins h l f z c setup.CloseRecovery t e = λ u v. absurd (not-taken z.queue c e u)

form-begins : (h : Past) (l : ℕ) (f : ℕ → Option ℕ) (z : WriterRecord) (c : Command) (d : DuePacket) → z.queue ≡ c ∷ [] → Begins h l f (form_step z d)
form-begins h l f z c (due.Data end s) e = λ u v. absurd (not-taken z.queue c e u)
form-begins h l f z c due.Sync e = λ u v. absurd (not-taken z.queue c e u)
form-begins h l f z c due.Last e = λ u v. absurd (not-taken z.queue c e u)

reach-begins : (h : Past) (l : ℕ) (f : ℕ → Option ℕ) (z : WriterRecord) (ms : List NodeId) (o : Option ℕ) → z.queue ≡ command.Create ms ∷ [] → Begins h l f (reach_step_as z o)
reach-begins h l f z ms None e = free-begins h l f z ms z.waiting e
reach-begins h l f z ms (Some n) e = λ u v. absurd (not-taken z.queue (command.Create ms) e u)

due-begins : (h : Past) (l : ℕ) (f : ℕ → Option ℕ) (z : WriterRecord) (ms : List NodeId) (o : Option DuePacket) → z.queue ≡ command.Create ms ∷ [] → Begins h l f (due_step z o)
due-begins h l f z ms None e = reach-begins h l f z ms (reached_length z.waiting z.stream) e
due-begins h l f z ms (Some d) e = form-begins h l f z (command.Create ms) d e

stream-begins : (h : Past) (l : ℕ) (f : ℕ → Option ℕ) (z : WriterRecord) (ms : List NodeId) (sent : ℕ) (o : Option Packet) → z.queue ≡ command.Create ms ∷ [] → Begins h l f (stream_step_as z sent o)
stream-begins h l f z ms sent None e = due-begins h l f z ms (due_now z) e
stream-begins h l f z ms sent (Some p) e = λ u v. absurd (not-taken z.queue (command.Create ms) e u)

step-begins : (h : Past) (l : ℕ) (f : ℕ → Option ℕ) (z : WriterRecord) (ms : List NodeId) (p : Phase) → z.phase ≡ p → z.queue ≡ command.Create ms ∷ [] → Begins h l f (step_in z p)
step-begins h l f z ms phase.Closed q e = free-begins h l f z ms z.waiting e
step-begins h l f z ms (phase.Wanted s) q e = λ u v. absurd (not-taken z.queue (command.Create ms) e u)
step-begins h l f z ms (phase.Stamped s t) q e = dial-begins h l f z (command.Create ms) s t z.members e
step-begins h l f z ms (phase.Requested s t) q e = free-begins h l f z ms z.waiting e
step-begins h l f z ms (phase.Accepted s t) q e = accepted-begins h l f z (command.Create ms) s t e
step-begins h l f z ms phase.Opened q e = λ u v. absurd (not-taken z.queue (command.Create ms) e u)
step-begins h l f z ms (phase.Streaming sent) q e = stream-begins h l f z ms sent (slice_get z.stream.unacked sent) e
step-begins h l f z ms phase.Closing q e = free-begins h l f z ms z.waiting e
step-begins h l f z ms phase.Finished q e = λ u v. absurd (not-taken z.queue (command.Create ms) e u)
step-begins h l f z ms phase.Completed q e = λ u v. absurd (not-taken z.queue (command.Create ms) e u)
step-begins h l f z ms (phase.Failed d) q e = failed-begins h l f z ms d z.waiting e q

own-step-begins : (h : Past) (l : ℕ) (f : ℕ → Option ℕ) (z : WriterRecord) (ms : List NodeId) → z.queue ≡ command.Create ms ∷ [] → Begins h l f (own_step z)
unfolding own_step
own-step-begins h l f z ms e = step-begins h l f z ms z.phase refl e

begun-sound : (x : WriterRecord) (r : Rule) → IsChunkSize r.chunk → Sound x → Sound (record x { stream = begun r 0 })
begun-sound x r k h = record {
  stream = begun_is r 0 k (omega arith);
  commands = h.commands;
  few = h.few;
  queued = h.queued;
  bytes = h.bytes;
  written = omega (arith, begun_written r 0, h.queued);
  counted = h.counted;
  numbers = omega (arith, h.counted);
}

-- a create that is given and taken
create-keeps : (g : Givens) (w : World) (b : ℕ) (x : WriterRecord) (ms : List NodeId) (r : Rule) (h : Facts g w) → IsHeard g w b h x → IsChunkSize r.chunk
    → not (is_empty (given (record x { stream = begun r 0 }) (command.Create ms)).queue) ≡ true → is_empty (own_step (given (record x { stream = begun r 0 }) (command.Create ms))).writer.queue ≡ true
    → IfSome (did w b x.waiting (own_step (given (record x { stream = begun r 0 }) (command.Create ms))).action (own_step (given (record x { stream = begun r 0 }) (command.Create ms))).writer []) (Keeps g w)
create-keeps g w b x ms r h i s t u =
    let y : WriterRecord = record x { stream = begun r 0 } in
    let z = given y (command.Create ms) in
    let k = given-is y (command.Create ms) i.after.queue t in
    did-keeps g w b x.waiting (own_step z).action (own_step z).writer [] h (record {
      sound = own_step_sound z (given_sound y (command.Create ms) (begun-sound x r s i.after.sound));
      queue = empty-is (own_step z).writer.queue u;
      makes = λ p q. own-step-begins p (w.latest b) (g b) z ms k.queue u (own_of g w h b);
      spends = λ _. inl refl;
    })

chunk-size : (n : ℕ) (t : Bool) → (t && nat_le MIN_CHUNK_SIZE n && nat_le n MAX_CHUNK_SIZE) ≡ true → IsChunkSize n
chunk-size n t e =
    let a : nat_le MIN_CHUNK_SIZE n ≡ true = and-right t (nat_le MIN_CHUNK_SIZE n) (and-left (t && nat_le MIN_CHUNK_SIZE n) (nat_le n MAX_CHUNK_SIZE) e) in
    let b : nat_le n MAX_CHUNK_SIZE ≡ true = and-right (t && nat_le MIN_CHUNK_SIZE n) (nat_le n MAX_CHUNK_SIZE) e in
    record { least = grind (arith, nat_tests, a); greatest = grind (arith, nat_tests, b) }

same-test-as : (x y : WriterRecord) (c : Command) (r : Result Intake CommandFault) → y.queue ≡ x.queue → not (is_empty (given_as x c r).queue) ≡ true → not (is_empty (given_as y c r).queue) ≡ true
same-test-as x y c (Ok i) e t = subst (λ (q : List Command). not (is_empty (q ++ c ∷ [])) ≡ true) (sym e) t
same-test-as x y c (Err d) e t = subst (λ (q : List Command). not (is_empty q) ≡ true) (sym e) t

same-test : (x : WriterRecord) (ms : List NodeId) (r : Rule) → not (is_empty (given x (command.Create ms)).queue) ≡ true → not (is_empty (given (record x { stream = begun r 0 }) (command.Create ms)).queue) ≡ true
same-test x ms r t = same-test-as x (record x { stream = begun r 0 }) (command.Create ms) (admitted x.intake (command.Create ms)) refl t

command-as : (g : Givens) (w : World) (b : ℕ) (x : WriterRecord) (c : Command) (r : Rule) (h : Facts g w) → IsHeard g w b h x → is_formed c r ≡ true → not (is_empty (given x c).queue) ≡ true
    → is_empty (own_step (given (ruled x c r) c)).writer.queue ≡ true
    → IfSome (did w b (ruled x c r).waiting (own_step (given (ruled x c r) c)).action (own_step (given (ruled x c r) c)).writer (command_bytes (ruled x c r) c)) (Keeps g w)
command-as g w b x (command.Create ms) r h i f t u = create-keeps g w b x ms r h i (chunk-size r.chunk _ f) (same-test x ms r t) u
command-as g w b x (command.Append ms) r h i f t u = taken-keeps g w b x (command.Append ms) h i t u
command-as g w b x (command.Write v) r h i f t u = taken-keeps g w b x (command.Write v) h i t u
command-as g w b x (command.Fill n) r h i f t u = taken-keeps g w b x (command.Fill n) h i t u
command-as g w b x command.Hflush r h i f t u = taken-keeps g w b x command.Hflush h i t u
command-as g w b x command.Hsync r h i f t u = taken-keeps g w b x command.Hsync h i t u
command-as g w b x command.Close r h i f t u = taken-keeps g w b x command.Close h i t u

command-keeps : (g : Givens) (w : World) (b : ℕ) (x : WriterRecord) (t : TakenCommand) (h : Facts g w) → IsHeard g w b h x → IfSome (takes_command w b x t) (Keeps g w)
command-keeps g w b x t h i =
    let formed = is_formed t.command t.rule in
    let there = not (is_empty (given x t.command).queue) in
    let s = own_step (given (ruled x t.command t.rule) t.command) in
    when-each (Keeps g w) (formed && there) _ (λ e.
    when-each (Keeps g w) (is_empty s.writer.queue) _ (λ u. command-as g w b x t.command t.rule h i (and-left formed there e) (and-right formed there e) u))

step-keeps : (g : Givens) (w : World) (b : ℕ) (o : Option Told) (takes : Option TakenCommand) (answered : Bool) (h : Facts g w) → (w.writers b).told ≡ o
    → IfSome (writer_step w b (w.writers b).known o takes answered) (Keeps g w)
step-keeps g w b (Some told) None answered h e = let x = granted (w.writers b).known told in rest-keeps x.phase g w b x answered h (is-heard g w b h (Some told) e) refl
step-keeps g w b (Some told) (Some t) answered h e = tt
step-keeps g w b None None answered h e = own-keeps g w b (w.writers b).known h (is-heard g w b h None e)
step-keeps g w b None (Some t) answered h e = command-keeps g w b (w.writers b).known t h (is-heard g w b h None e)

pub own-writer-keeps : (g : Givens) (w : World) (b : ℕ) (takes : Option TakenCommand) (answered : Bool) → Facts g w → IfSome (own_writer w b takes answered) (Keeps g w)
own-writer-keeps g w b takes answered h = step-keeps g w b (w.writers b).told takes answered h refl

-- WHAT A WRITER TAKES

hears-sound : (x : WriterRecord) (n : Next) → Sound x → Sound (writer_hears x n)
hears-sound x (message (request q)) h = ended_sound x h
hears-sound x (message (packet p)) h = ended_sound x h
hears-sound x (message (ack a)) h = acked_sound x a h
hears-sound x (message (response r)) h = setup_sound x r (named_member x.members r.first_bad) h
hears-sound x (message (read_status s)) h = ended_sound x h
hears-sound x (message (recovery_answer a)) h = ended_sound x h
hears-sound x the_end h = ended_sound x h

none-is : {A : Type 0} (o : Option A) → is_none o ≡ true → o ≡ None
none-is None e = refl
none-is (Some x) e = cc

pub writer-up-keeps : (g : Givens) (w : World) (b c : ℕ) (x : Next) → Facts g w → IfSome (writer_up w b c x) (Keeps g w)
writer-up-keeps g w b c n h =
    let x = (w.writers b).known in
    when-each (Keeps g w) (is_conn (w.writers b).conn c && is_none (w.writers b).told) _ (λ e.
    let i = is-heard g w b h None (none-is (w.writers b).told (and-right (is_conn (w.writers b).conn c) (is_none (w.writers b).told) e)) in
    writer-change-keeps g w b (writer_hears x n) h (record {
      sound = hears-sound x n i.after.sound;
      queue = (writer-hears (g b) w.past (w.latest b) (own_of g w h b) x n (i.after.good w.past (self-later g w h.recorded))).queue ∙ i.after.queue;
      good = λ p y. (writer-hears (g b) p (w.latest b) (own_of g w h b) x n (i.after.good p y)).good;
    }))

-- READERS

-- a change of a reader: what it sends and asks needs nothing
reader-keeps : (g : Givens) (w : World) (k : Change) → Facts g w → Beside w k → k.replica ≡ w.replicas k.node k.block → k.broke ≡ w.breaks k.node k.block → k.lower ≡ w.lowers k.lower_at
    → ((p : Past) (c : ℕ) → Each (DownSays g p c) (k.downs c)) → ((c : ℕ) → k.ups c ≡ []) → ((p : Past) (i : ℕ) (d : Dial) → slice_get k.dials i ≡ Some d → DownSays g p (w.next_conn + i) d.request)
    → ((i : ℕ) (d : Dial) → slice_get k.dials i ≡ Some d → (j place : ℕ) → d.dialled.upper ≡ by_primary j place → ⊥) → Keeps g w k
reader-keeps g w k h a r b l d u s t =
    let p = past_after w k in
    node-keeps g w k h a (λ y. record {
      replica = subst (λ (x : FullReplica). ReplicaSays g p k.block x) (sym r) (ready-at g w p k.node k.block h y).says;
      broke = subst (λ (o : Option Break). IfSome o (BreakSays g p k.block)) (sym b) (break-at g w p k.node k.block h y);
      lower = subst (λ (x : Lower). LowerSays p k.lower_at x) (sym l) (lower-later g g w.past p k.lower_at (w.lowers k.lower_at) y (h.carried.lowers k.lower_at));
      downs = d p;
      ups = λ c. subst (λ (ms : List Message). Each (UpSays g p c) ms) (sym (u c)) (each-nil (UpSays g p c));
      dials = s p;
      unled = t;
    })

no-downs : (g : Givens) (p : Past) (c : ℕ) → Each (DownSays g p c) []
no-downs g p c = each-nil (DownSays g p c)

dials-keeps : (g : Givens) (w : World) (i n : ℕ) (r : ReadOp) (answered : Bool) → Facts g w → Keeps g w (reader_dials w i n r answered)
dials-keeps g w i n r true h =
    let k = reader_dials w i n r true in
    reader-keeps g w k h (record { office = refl; stamped = refl; writer = refl; bytes = refl; primary = refl }) refl refl refl (λ p c. no-downs g p c) (λ _. refl)
    (λ p. only-one (λ j d. DownSays g p (w.next_conn + j) d.request) _ k.dials refl tt) (only-one (λ j d. (m place : ℕ) → d.dialled.upper ≡ by_primary m place → ⊥) _ k.dials refl (λ m place q. apart m place q))
  where
    apart : (m place : ℕ) → by_reader i ≡ by_primary m place → ⊥
    apart m place q = cc
dials-keeps g w i n r false h =
    reader-keeps g w (reader_dials w i n r false) h (record { office = refl; stamped = refl; writer = refl; bytes = refl; primary = refl }) refl refl refl (λ p c. no-downs g p c) (λ _. refl)
    (λ p j d e. absurd (none-some d e)) (λ j d e. absurd (none-some d e))

own-reader-as-keeps : (x : Reader) (g : Givens) (w : World) (i n : ℕ) (r : ReadOp) (answered : Bool) → Facts g w → IfSome (own_reader_as x w i n r answered) (Keeps g w)
own-reader-as-keeps no_reader g w i n r answered h = dials-keeps g w i n r (answered && w.running n) h
own-reader-as-keeps (reads c s) g w i n r answered h = tt
own-reader-as-keeps (has_read b) g w i n r answered h = tt

pub own-reader-keeps : (g : Givens) (w : World) (i n : ℕ) (r : ReadOp) (answered : Bool) → Facts g w → IfSome (own_reader w i n r answered) (Keeps g w)
own-reader-keeps g w i n r answered h = own-reader-as-keeps (w.readers i) g w i n r answered h

turn-keeps : (g : Givens) (w : World) (i c : ℕ) (t : ReadTaken) (d : ReadTurn) → Facts g w → Keeps g w (reader_turn w i c t d)
turn-keeps g w i c t turn.Goes h =
    reader-keeps g w (reader_turn w i c t turn.Goes) h (record { office = refl; stamped = refl; writer = refl; bytes = refl; primary = refl }) refl refl refl (λ p c. no-downs g p c) (λ _. refl) (λ p j d e. absurd (none-some d e)) (λ j d e. absurd (none-some d e))
turn-keeps g w i c t turn.Verified h =
    reader-keeps g w (reader_turn w i c t turn.Verified) h (record { office = refl; stamped = refl; writer = refl; bytes = refl; primary = refl }) refl refl refl
    (λ p. sent-each (DownSays g p) c _ (each-one (DownSays g p c) _ tt)) (λ _. refl) (λ p j d e. absurd (none-some d e)) (λ j d e. absurd (none-some d e))
turn-keeps g w i c t (turn.Fails f) h =
    reader-keeps g w (reader_turn w i c t (turn.Fails f)) h (record { office = refl; stamped = refl; writer = refl; bytes = refl; primary = refl }) refl refl refl (λ p c. no-downs g p c) (λ _. refl) (λ p j d e. absurd (none-some d e)) (λ j d e. absurd (none-some d e))

reader-up-as-keeps : (x : Reader) (g : Givens) (w : World) (i c : ℕ) (n : Next) → Facts g w → IfSome (reader_up_as x w i c n) (Keeps g w)
reader-up-as-keeps no_reader g w i c n h = tt
reader-up-as-keeps (reads d s) g w i c n h = when-each (Keeps g w) (d == c) _ (λ _. turn-keeps g w i c (take_from s (from_node_of n)) (take_from s (from_node_of n)).does h)
reader-up-as-keeps (has_read b) g w i c n h = tt

pub reader-up-keeps : (g : Givens) (w : World) (i c : ℕ) (n : Next) → Facts g w → IfSome (reader_up w i c n) (Keeps g w)
reader-up-keeps g w i c n h = reader-up-as-keeps (w.readers i) g w i c n h
