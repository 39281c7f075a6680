-- What a writer does by itself, and what it takes, with the bytes that its session has.
use Rattle.std.proofs.Common.{◌≡◌, ℕ, zero, suc, ◌<◌, ◌≤◌, Bool, true, false, List, [], ◌∷◌, ◌++◌, length, drop, Option, Some, None, refl, sym, ◌∙◌, ap, subst, arith, append-nil}
use Rattle.std.specs.Prelude.{slice_get}
use Rattle.std.proofs.lemmas.Option.{none-some, same_Some}
use Rattle.hd_base.specs.declared.numbers.NodeId.{NodeId}
use Rattle.hd_base.specs.declared.numbers.Stamp.{Stamp}
use Rattle.world.specs.AckCodec.Ack.{Ack}
use Rattle.world.specs.AckCodec.Response.{Response}
use Rattle.world.specs.PacketCodec.Packet.{Packet}
use Rattle.world.specs.PacketStream.Carried.{IsPiece}
use Rattle.world.specs.PacketStream.Streams.{StreamState, IsStream, written_in, with_bytes, next_packet, formed, sync_packet, sync_formed, last_packet, last_formed, acked_packet, oldest_acked, oldest_is_last, oldest_seqno}
use Rattle.world.proofs.PacketStream.CarryLemmas.{wrote_carries, formed_carries, next_is_piece, acked_carries}
use Rattle.world.specs.WriterCore.Action.{Action}
use Rattle.world.specs.WriterCore.Action.TheVariants as action
use Rattle.world.specs.WriterCore.Command.{Command}
use Rattle.world.specs.WriterCore.Command.TheVariants as command
use Rattle.world.specs.WriterCore.DuePacket.{DuePacket}
use Rattle.world.specs.WriterCore.DuePacket.TheVariants as due
use Rattle.world.specs.WriterCore.Failure.{Failure}
use Rattle.world.specs.WriterCore.Phase.{Phase}
use Rattle.world.specs.WriterCore.Phase.TheVariants as phase
use Rattle.world.specs.WriterCore.Remedy.{Remedy}
use Rattle.world.specs.WriterCore.Remedy.TheVariants as remedy
use Rattle.world.specs.WriterCore.Setup.{Setup}
use Rattle.world.specs.WriterCore.Setup.TheVariants as setup
use Rattle.world.specs.WriterCore.Verdict.{Verdict}
use Rattle.world.specs.WriterCore.Verdict.TheVariants as verdict
use Rattle.world.specs.WriterCore.Waiting.{Waiting}
use Rattle.world.specs.WriterCore.WriterRecord.{WriterRecord}
use Rattle.world.specs.WriterCore.Phases.{remedy_after, remedy_in, remedy_at_ack, is_success, ack_verdict, bad_place, without}
use Rattle.world.specs.WriterCore.Sound.{Sound}
use Rattle.world.specs.WriterCore.Transitions.{taken_as, take_first, free_step_as, failed_command, failed_first, failed_step_as, dial_step_as, open_step, completed_step, accepted_step, due_now, form_step, reached_length, reach_step_as, due_step, stream_step_as, step_in, own_step, dropped, fail_for, fail_named, fail_at, ended_as, ended, phase_acked, acked_as, acked_in, acked, setup_answered_in, setup_answered, dialled_in, dialled}
use Rattle.world.specs.WriterCore.Transitions as writer
use Rattle.world.proofs.WriterCore.DueLemmas.{IsDueNow, due_now_is}
use Rattle.world.specs.Worlds.{Past}
use Rattle.world.specs.Connections.{Next, message, the_end}
use Rattle.world.specs.Parts.{request, packet, ack, response, read_status, recovery_answer}
use Rattle.world.specs.Clients.{command_bytes, named_member, writer_hears}
use Rattle.world_laws.specs.Carrying.{StreamOf, Streams, Asks}
use Rattle.world_laws.proofs.Fronts.{front-more, piece-front}

-- A writer streams these bytes, as far as it streams, and asks for what may pass.
pub record Good (f : ℕ → Option ℕ) (h : Past) (l : ℕ) (v : List ℕ) (x : WriterRecord) : Type 0 where
  pub streams : Streams v x.stream x.phase
  pub asks : Asks f h l x.committed x.stream x.phase

-- STREAMS

pub streams-map : (v w : List ℕ) (s t : StreamState) (p : Phase) → (StreamOf v s → StreamOf w t) → Streams v s p → Streams w t p
streams-map v w s t phase.Closed k x = tt
streams-map v w s t (phase.Wanted setup.Create) k x = tt
streams-map v w s t (phase.Wanted setup.Append) k x = tt
streams-map v w s t (phase.Wanted setup.AppendRecovery) k x = k x
streams-map v w s t (phase.Wanted setup.StreamRecovery) k x = k x
streams-map v w s t (phase.Wanted setup.CloseRecovery) k x = k x
streams-map v w s t (phase.Stamped way stamp) k x = k x
streams-map v w s t (phase.Requested way stamp) k x = k x
streams-map v w s t (phase.Accepted way stamp) k x = k x
streams-map v w s t phase.Opened k x = k x
streams-map v w s t (phase.Streaming sent) k x = k x
streams-map v w s t phase.Closing k x = k x
streams-map v w s t phase.Finished k x = k x
streams-map v w s t phase.Completed k x = k x
streams-map v w s t (phase.Failed e) k x = tt

wrote-stream : (v bytes : List ℕ) (s : StreamState) → StreamOf v s → StreamOf (v ++ bytes) (with_bytes s bytes)
wrote-stream v bytes s h = record { carries = wrote_carries s v bytes h.carries; pieces = λ i p e. piece-front v (v ++ bytes) p (front-more v bytes) (h.pieces i p e) }

more-stream : (v bytes : List ℕ) (s : StreamState) → bytes ≡ [] → StreamOf v s → StreamOf (v ++ bytes) s
more-stream v bytes s e h = subst (λ (w : List ℕ). StreamOf w s) (sym (ap (λ (x : List ℕ). v ++ x) e ∙ append-nil v)) h

pieces-push : (v : List ℕ) (xs : List Packet) (q : Packet) → ((i : ℕ) (p : Packet) → slice_get xs i ≡ Some p → IsPiece v p) → IsPiece v q
    → (i : ℕ) (p : Packet) → slice_get (xs ++ q ∷ []) i ≡ Some p → IsPiece v p
pieces-push v [] q h k zero p e = subst (IsPiece v) (same_Some q p e) k
pieces-push v [] q h k (suc i) p e = absurd (none-some p e)
pieces-push v (x ∷ xs) q h k zero p e = h zero p e
pieces-push v (x ∷ xs) q h k (suc i) p e = pieces-push v xs q (λ j r u. h (suc j) r u) k i p e

pieces-drop : (v : List ℕ) (xs : List Packet) → ((i : ℕ) (p : Packet) → slice_get xs i ≡ Some p → IsPiece v p) → (i : ℕ) (p : Packet) → slice_get (drop 1 xs) i ≡ Some p → IsPiece v p
pieces-drop v [] h i p e = h i p e
pieces-drop v (x ∷ xs) h i p e = h (suc i) p e

acked-pieces : (v : List ℕ) (s : StreamState) (o : Option Packet) → ((i : ℕ) (p : Packet) → slice_get s.unacked i ≡ Some p → IsPiece v p)
    → (i : ℕ) (p : Packet) → slice_get (acked_packet s o).unacked i ≡ Some p → IsPiece v p
acked-pieces v s None h i p e = h i p e
acked-pieces v s (Some q) h i p e = pieces-drop v s.unacked h i p e

acked-stream : (v : List ℕ) (s : StreamState) → StreamOf v s → StreamOf v (oldest_acked s)
acked-stream v s h = record { carries = acked_carries s v h.carries; pieces = acked-pieces v s (slice_get s.unacked 0) h.pieces }

formed-stream : (v : List ℕ) (s : StreamState) (end : ℕ) (sync : Bool) → IsStream s → s.sent < end → end ≤ written_in s → StreamOf v s → StreamOf v (formed s end sync)
formed-stream v s end sync i past within h = record {
  carries = formed_carries s v end sync i past within h.carries;
  pieces = pieces-push v s.unacked (next_packet s end sync) h.pieces (next_is_piece s v end sync i past within h.carries);
}

sync-piece : (v : List ℕ) (s : StreamState) → IsStream s → StreamOf v s → IsPiece v (sync_packet s)
sync-piece v s i h = record { bytes = refl; within = omega (arith, i.sent, h.carries.whole) }

last-piece : (v : List ℕ) (s : StreamState) (sync : Bool) → StreamOf v s → IsPiece v (last_packet s sync)
last-piece v s sync h = record { bytes = refl; within = omega (arith, h.carries.whole) }

sync-stream : (v : List ℕ) (s : StreamState) → IsStream s → StreamOf v s → StreamOf v (sync_formed s)
sync-stream v s i h = record { carries = record { whole = h.carries.whole; kept = h.carries.kept }; pieces = pieces-push v s.unacked (sync_packet s) h.pieces (sync-piece v s i h) }

last-stream : (v : List ℕ) (s : StreamState) (sync : Bool) → StreamOf v s → StreamOf v (last_formed s sync)
last-stream v s sync h = record { carries = record { whole = h.carries.whole; kept = h.carries.kept }; pieces = pieces-push v s.unacked (last_packet s sync) h.pieces (last-piece v s sync h) }

-- OWN STEPS

-- what a step makes, where these bytes come with a command
abbrev pub Makes : (ℕ → Option ℕ) → Past → ℕ → List ℕ → List ℕ → Action → WriterRecord → Type 0
Makes f h l v bytes action.Took x = Good f h l (v ++ bytes) x
Makes f h l v bytes (action.Send p) x = IsPiece v p × Good f h l v x
Makes f h l v bytes _ x = Good f h l v x

abbrev pub MakesStep : (ℕ → Option ℕ) → Past → ℕ → List ℕ → List ℕ → writer.Step → Type 0
MakesStep f h l v bytes s = Makes f h l v bytes s.action s.writer

-- the bytes are those of the command that is taken
pub record Heads (x : WriterRecord) (bytes : List ℕ) : Type 0 where
  pub is : (c : Command) → slice_get x.queue 0 ≡ Some c → bytes ≡ command_bytes x c

-- a phase in which nothing is asked for
abbrev Calm : Phase → Type 0
Calm (phase.Stamped way stamp) = ⊥
Calm _ = Unit {0}

calm-asks : (f : ℕ → Option ℕ) (h : Past) (l : ℕ) (c : Stamp) (s : StreamState) (p : Phase) → Calm p → Asks f h l c s p
calm-asks f h l c s phase.Closed k = tt
calm-asks f h l c s (phase.Wanted way) k = tt
calm-asks f h l c s (phase.Stamped way stamp) k = absurd k
calm-asks f h l c s (phase.Requested way stamp) k = tt
calm-asks f h l c s (phase.Accepted way stamp) k = tt
calm-asks f h l c s phase.Opened k = tt
calm-asks f h l c s (phase.Streaming sent) k = tt
calm-asks f h l c s phase.Closing k = tt
calm-asks f h l c s phase.Finished k = tt
calm-asks f h l c s phase.Completed k = tt
calm-asks f h l c s (phase.Failed e) k = tt

-- a writer in such a phase, with more bytes
calm-good : (f : ℕ → Option ℕ) (h : Past) (l : ℕ) (v w : List ℕ) (x y : WriterRecord) → y.phase ≡ x.phase → Calm x.phase → (StreamOf v x.stream → StreamOf w y.stream) → Streams v x.stream x.phase → Good f h l w y
calm-good f h l v w x y e k m s = record {
  streams = subst (λ (p : Phase). Streams w y.stream p) (sym e) (streams-map v w x.stream y.stream x.phase m s);
  asks = subst (λ (p : Phase). Asks f h l y.committed y.stream p) (sym e) (calm-asks f h l y.committed y.stream x.phase k);
}

taken-good : (f : ℕ → Option ℕ) (h : Past) (l : ℕ) (v bytes : List ℕ) (x : WriterRecord) (c : Command) → Calm x.phase → Streams v x.stream x.phase → bytes ≡ command_bytes x c → Good f h l (v ++ bytes) (taken_as x c)
taken-good f h l v bytes x (command.Create members) k s e = record { streams = tt; asks = tt }
taken-good f h l v bytes x (command.Append members) k s e = record { streams = tt; asks = tt }
taken-good f h l v bytes x (command.Write b) k s e =
    subst (λ (w : List ℕ). Good f h l (v ++ w) (taken_as x (command.Write b))) (sym e) (calm-good f h l v (v ++ b) x (taken_as x (command.Write b)) refl k (wrote-stream v b x.stream) s)
taken-good f h l v bytes x (command.Fill n) k s e =
    subst (λ (w : List ℕ). Good f h l (v ++ w) (taken_as x (command.Fill n))) (sym e) (calm-good f h l v (v ++ command_bytes x (command.Fill n)) x (taken_as x (command.Fill n)) refl k (wrote-stream v (command_bytes x (command.Fill n)) x.stream) s)
taken-good f h l v bytes x command.Hflush k s e = calm-good f h l v (v ++ bytes) x (taken_as x command.Hflush) refl k (more-stream v bytes x.stream e) s
taken-good f h l v bytes x command.Hsync k s e = calm-good f h l v (v ++ bytes) x (taken_as x command.Hsync) refl k (more-stream v bytes x.stream e) s
taken-good f h l v bytes x command.Close k s e = calm-good f h l v (v ++ bytes) x (taken_as x command.Close) refl k (more-stream v bytes x.stream e) s

stay-good : (f : ℕ → Option ℕ) (h : Past) (l : ℕ) (v : List ℕ) (x : WriterRecord) → Calm x.phase → Streams v x.stream x.phase → Good f h l v x
stay-good f h l v x k s = calm-good f h l v v x x refl k (λ y. y) s

first-makes : (f : ℕ → Option ℕ) (h : Past) (l : ℕ) (v bytes : List ℕ) (x : WriterRecord) (o : Option Command) → Calm x.phase → Streams v x.stream x.phase → Heads x bytes → slice_get x.queue 0 ≡ o
    → MakesStep f h l v bytes (take_first x o)
first-makes f h l v bytes x None k s b e = stay-good f h l v x k s
first-makes f h l v bytes x (Some c) k s b e = taken-good f h l v bytes x c k s (b.is c e)

free-makes : (f : ℕ → Option ℕ) (h : Past) (l : ℕ) (v bytes : List ℕ) (x : WriterRecord) (o : Option Waiting) → Calm x.phase → Streams v x.stream x.phase → Heads x bytes → MakesStep f h l v bytes (free_step_as x o)
free-makes f h l v bytes x None k s b = first-makes f h l v bytes x (slice_get x.queue 0) k s b refl
free-makes f h l v bytes x (Some w) k s b = stay-good f h l v x k s

-- a writer that failed needs nothing
failed-good : (f : ℕ → Option ℕ) (h : Past) (l : ℕ) (v : List ℕ) (x : WriterRecord) (e : Failure) → x.phase ≡ phase.Failed e → Good f h l v x
failed-good f h l v x e t = record { streams = subst (λ (p : Phase). Streams v x.stream p) (sym t) tt; asks = subst (λ (p : Phase). Asks f h l x.committed x.stream p) (sym t) tt }

failed-command-makes : (f : ℕ → Option ℕ) (h : Past) (l : ℕ) (v bytes : List ℕ) (x : WriterRecord) (e : Failure) (c : Command) → x.phase ≡ phase.Failed e → MakesStep f h l v bytes (failed_command x e c)
failed-command-makes f h l v bytes x e (command.Create members) t = failed-good f h l v (failed_command x e (command.Create members)).writer e t
failed-command-makes f h l v bytes x e (command.Append members) t = record { streams = tt; asks = tt }
failed-command-makes f h l v bytes x e (command.Write b) t = failed-good f h l v (failed_command x e (command.Write b)).writer e t
failed-command-makes f h l v bytes x e (command.Fill n) t = failed-good f h l v (failed_command x e (command.Fill n)).writer e t
failed-command-makes f h l v bytes x e command.Hflush t = failed-good f h l v (failed_command x e command.Hflush).writer e t
failed-command-makes f h l v bytes x e command.Hsync t = failed-good f h l v (failed_command x e command.Hsync).writer e t
failed-command-makes f h l v bytes x e command.Close t = failed-good f h l v (failed_command x e command.Close).writer e t

failed-first-makes : (f : ℕ → Option ℕ) (h : Past) (l : ℕ) (v bytes : List ℕ) (x : WriterRecord) (e : Failure) (o : Option Command) → x.phase ≡ phase.Failed e → MakesStep f h l v bytes (failed_first x e o)
failed-first-makes f h l v bytes x e None t = failed-good f h l v x e t
failed-first-makes f h l v bytes x e (Some c) t = failed-command-makes f h l v bytes x e c t

failed-makes : (f : ℕ → Option ℕ) (h : Past) (l : ℕ) (v bytes : List ℕ) (x : WriterRecord) (e : Failure) (o : Option Waiting) → x.phase ≡ phase.Failed e → MakesStep f h l v bytes (failed_step_as x e o)
failed-makes f h l v bytes x e None t = failed-first-makes f h l v bytes x e (slice_get x.queue 0) t
failed-makes f h l v bytes x e (Some w) t = failed-good f h l v (record x { waiting = None }) e t

form-makes : (f : ℕ → Option ℕ) (h : Past) (l : ℕ) (v bytes : List ℕ) (x : WriterRecord) (d : DuePacket) → Sound x → IsDueNow x d → StreamOf v x.stream → MakesStep f h l v bytes (form_step x d)
form-makes f h l v bytes x (due.Data end s) n i k =
    (next_is_piece x.stream v end s n.stream i.fits.0 i.fits.1 k.carries, record { streams = formed-stream v x.stream end s n.stream i.fits.0 i.fits.1 k; asks = tt })
form-makes f h l v bytes x due.Sync n i k = (sync-piece v x.stream n.stream k, record { streams = sync-stream v x.stream n.stream k; asks = tt })
form-makes f h l v bytes x due.Last n i k = (last-piece v x.stream x.had_sync k, record { streams = last-stream v x.stream x.had_sync k; asks = tt })

streaming-good : (f : ℕ → Option ℕ) (h : Past) (l : ℕ) (v : List ℕ) (x : WriterRecord) (sent : ℕ) → x.phase ≡ phase.Streaming sent → StreamOf v x.stream → Good f h l v x
streaming-good f h l v x sent e k = record { streams = subst (λ (p : Phase). Streams v x.stream p) (sym e) k; asks = subst (λ (p : Phase). Asks f h l x.committed x.stream p) (sym e) tt }

reach-makes : (f : ℕ → Option ℕ) (h : Past) (l : ℕ) (v bytes : List ℕ) (x : WriterRecord) (sent : ℕ) (o : Option ℕ) → x.phase ≡ phase.Streaming sent → StreamOf v x.stream → Heads x bytes → MakesStep f h l v bytes (reach_step_as x o)
reach-makes f h l v bytes x sent None e k b = free-makes f h l v bytes x x.waiting (subst Calm (sym e) tt) (subst (λ (p : Phase). Streams v x.stream p) (sym e) k) b
reach-makes f h l v bytes x sent (Some n) e k b = streaming-good f h l v (record x { waiting = None }) sent e k

due-makes : (f : ℕ → Option ℕ) (h : Past) (l : ℕ) (v bytes : List ℕ) (x : WriterRecord) (sent : ℕ) (o : Option DuePacket) → x.phase ≡ phase.Streaming sent → Sound x → due_now x ≡ o → StreamOf v x.stream → Heads x bytes
    → MakesStep f h l v bytes (due_step x o)
due-makes f h l v bytes x sent None e n q k b = reach-makes f h l v bytes x sent (reached_length x.waiting x.stream) e k b
due-makes f h l v bytes x sent (Some d) e n q k b = form-makes f h l v bytes x d n (due_now_is x d n.stream q) k

stream-makes : (f : ℕ → Option ℕ) (h : Past) (l : ℕ) (v bytes : List ℕ) (x : WriterRecord) (sent : ℕ) (o : Option Packet) → x.phase ≡ phase.Streaming sent → Sound x → slice_get x.stream.unacked sent ≡ o → StreamOf v x.stream → Heads x bytes
    → MakesStep f h l v bytes (stream_step_as x sent o)
stream-makes f h l v bytes x sent None e n q k b = due-makes f h l v bytes x sent (due_now x) e n refl k b
stream-makes f h l v bytes x sent (Some p) e n q k b = (k.pieces sent p q, record { streams = k; asks = tt })

dial-makes : (f : ℕ → Option ℕ) (h : Past) (l : ℕ) (v bytes : List ℕ) (x : WriterRecord) (s : Setup) (t : Stamp) (ms : List NodeId) → Good f h l v x → MakesStep f h l v bytes (dial_step_as x s t ms)
dial-makes f h l v bytes x s t [] k = k
dial-makes f h l v bytes x s t (m ∷ ms) k = k

accepted-makes : (f : ℕ → Option ℕ) (h : Past) (l : ℕ) (v bytes : List ℕ) (x : WriterRecord) (s : Setup) (t : Stamp) → StreamOf v x.stream → Good f h l v x → MakesStep f h l v bytes (accepted_step x s t)
accepted-makes f h l v bytes x setup.Create t k y = record { streams = k; asks = tt }
accepted-makes f h l v bytes x setup.Append t k y = y
accepted-makes f h l v bytes x setup.AppendRecovery t k y = y
accepted-makes f h l v bytes x setup.StreamRecovery t k y = y
accepted-makes f h l v bytes x setup.CloseRecovery t k y = y

pub open-good : (f : ℕ → Option ℕ) (h : Past) (l : ℕ) (v : List ℕ) (x : WriterRecord) → StreamOf v x.stream → Good f h l v (open_step x).writer
open-good f h l v x k = record { streams = k; asks = tt }

pub completed-good : (f : ℕ → Option ℕ) (h : Past) (l : ℕ) (v : List ℕ) (x : WriterRecord) → Good f h l v (completed_step x).writer
completed-good f h l v x = record { streams = tt; asks = tt }

step-makes : (f : ℕ → Option ℕ) (h : Past) (l : ℕ) (v bytes : List ℕ) (x : WriterRecord) (p : Phase) → x.phase ≡ p → Sound x → Good f h l v x → Streams v x.stream p → Heads x bytes → MakesStep f h l v bytes (step_in x p)
step-makes f h l v bytes x phase.Closed e n y k b = free-makes f h l v bytes x x.waiting (subst Calm (sym e) tt) y.streams b
step-makes f h l v bytes x (phase.Wanted s) e n y k b = y
step-makes f h l v bytes x (phase.Stamped s t) e n y k b = dial-makes f h l v bytes x s t x.members y
step-makes f h l v bytes x (phase.Requested s t) e n y k b = free-makes f h l v bytes x x.waiting (subst Calm (sym e) tt) y.streams b
step-makes f h l v bytes x (phase.Accepted s t) e n y k b = accepted-makes f h l v bytes x s t k y
step-makes f h l v bytes x phase.Opened e n y k b = open-good f h l v x k
step-makes f h l v bytes x (phase.Streaming sent) e n y k b = stream-makes f h l v bytes x sent (slice_get x.stream.unacked sent) e n refl k b
step-makes f h l v bytes x phase.Closing e n y k b = free-makes f h l v bytes x x.waiting (subst Calm (sym e) tt) y.streams b
step-makes f h l v bytes x phase.Finished e n y k b = y
step-makes f h l v bytes x phase.Completed e n y k b = completed-good f h l v x
step-makes f h l v bytes x (phase.Failed d) e n y k b = failed-makes f h l v bytes x d x.waiting e

pub own-step-makes : (f : ℕ → Option ℕ) (h : Past) (l : ℕ) (v bytes : List ℕ) (x : WriterRecord) → Sound x → Good f h l v x → Heads x bytes → MakesStep f h l v bytes (own_step x)
unfolding own_step
own-step-makes f h l v bytes x n y b = step-makes f h l v bytes x x.phase refl n y y.streams b

-- WHAT IT TAKES

-- a writer after it took something: it streams as it may, and its queue stays
pub record Hears (f : ℕ → Option ℕ) (h : Past) (l : ℕ) (v : List ℕ) (x y : WriterRecord) : Type 0 where
  pub good : Good f h l v y
  pub queue : y.queue ≡ x.queue

same-hears : (f : ℕ → Option ℕ) (h : Past) (l : ℕ) (v : List ℕ) (x : WriterRecord) → Good f h l v x → Hears f h l v x x
same-hears f h l v x k = record { good = k; queue = refl }

wanted-streams : (v : List ℕ) (s : StreamState) (way : Setup) → StreamOf v s → Streams v s (phase.Wanted way)
wanted-streams v s setup.Create k = tt
wanted-streams v s setup.Append k = tt
wanted-streams v s setup.AppendRecovery k = k
wanted-streams v s setup.StreamRecovery k = k
wanted-streams v s setup.CloseRecovery k = k

dropped-hears : (f : ℕ → Option ℕ) (h : Past) (l : ℕ) (v : List ℕ) (x : WriterRecord) (s : Setup) (bad : NodeId) (ms : List NodeId) → StreamOf v x.stream → Hears f h l v x (dropped x s bad ms)
dropped-hears f h l v x s bad [] k = record { good = record { streams = tt; asks = tt }; queue = refl }
dropped-hears f h l v x s bad (m ∷ ms) k = record { good = record { streams = wanted-streams v x.stream s k; asks = tt }; queue = refl }

for-hears : (f : ℕ → Option ℕ) (h : Past) (l : ℕ) (v : List ℕ) (x : WriterRecord) (d : Remedy) (bad : NodeId) → StreamOf v x.stream → Hears f h l v x (fail_for x d bad)
for-hears f h l v x remedy.Abandon bad k = record { good = record { streams = tt; asks = tt }; queue = refl }
for-hears f h l v x (remedy.Recover s) bad k = dropped-hears f h l v x s bad (without x.members bad) k

named-hears : (f : ℕ → Option ℕ) (h : Past) (l : ℕ) (v : List ℕ) (x : WriterRecord) (d : Remedy) (o : Option NodeId) → Good f h l v x → StreamOf v x.stream → Hears f h l v x (fail_named x d o)
named-hears f h l v x d None y k = same-hears f h l v x y
named-hears f h l v x d (Some bad) y k = for-hears f h l v x d bad k

fail-hears : (f : ℕ → Option ℕ) (h : Past) (l : ℕ) (v : List ℕ) (x : WriterRecord) (d : Remedy) (place : ℕ) → Good f h l v x → StreamOf v x.stream → Hears f h l v x (fail_at x d place)
fail-hears f h l v x d place y k = named-hears f h l v x d (slice_get x.members place) y k

-- a writer with a connection streams
remedied : (v : List ℕ) (s : StreamState) (p : Phase) (d : Remedy) → remedy_in p ≡ Some d → Streams v s p → StreamOf v s
remedied v s phase.Closed d e k = absurd (none-some d e)
remedied v s (phase.Wanted way) d e k = absurd (none-some d e)
remedied v s (phase.Stamped way t) d e k = absurd (none-some d e)
remedied v s (phase.Requested way t) d e k = k
remedied v s (phase.Accepted way t) d e k = k
remedied v s phase.Opened d e k = k
remedied v s (phase.Streaming sent) d e k = k
remedied v s phase.Closing d e k = k
remedied v s phase.Finished d e k = absurd (none-some d e)
remedied v s phase.Completed d e k = absurd (none-some d e)
remedied v s (phase.Failed c) d e k = absurd (none-some d e)

ended-hears : (f : ℕ → Option ℕ) (h : Past) (l : ℕ) (v : List ℕ) (x : WriterRecord) (o : Option Remedy) → Good f h l v x → remedy_in x.phase ≡ o → Hears f h l v x (ended_as x o)
ended-hears f h l v x None y e = same-hears f h l v x y
ended-hears f h l v x (Some d) y e = fail-hears f h l v x d 0 y (remedied v x.stream x.phase d e y.streams)

end-hears : (f : ℕ → Option ℕ) (h : Past) (l : ℕ) (v : List ℕ) (x : WriterRecord) → Good f h l v x → Hears f h l v x (ended x)
unfolding ended
end-hears f h l v x y = ended-hears f h l v x (remedy_in x.phase) y refl

-- the same in the phases in which an ack is heard
at-ack : (p : Phase) (d : Remedy) → remedy_at_ack p ≡ Some d → remedy_in p ≡ Some d
at-ack (phase.Requested way t) d e = absurd (none-some d e)
at-ack phase.Closed d e = e
at-ack (phase.Wanted way) d e = e
at-ack (phase.Stamped way t) d e = e
at-ack (phase.Accepted way t) d e = e
at-ack phase.Opened d e = e
at-ack (phase.Streaming sent) d e = e
at-ack phase.Closing d e = e
at-ack phase.Finished d e = e
at-ack phase.Completed d e = e
at-ack (phase.Failed c) d e = e

acked-good : (f : ℕ → Option ℕ) (h : Past) (l : ℕ) (v : List ℕ) (x : WriterRecord) (b : Bool) (p : Phase) (d : Remedy) → remedy_in p ≡ Some d → StreamOf v x.stream
    → Good f h l v (record x { stream = oldest_acked x.stream; phase = phase_acked b p })
acked-good f h l v x true p d e k = record { streams = acked-stream v x.stream k; asks = tt }
acked-good f h l v x false phase.Closed d e k = absurd (none-some d e)
acked-good f h l v x false (phase.Wanted way) d e k = absurd (none-some d e)
acked-good f h l v x false (phase.Stamped way t) d e k = absurd (none-some d e)
acked-good f h l v x false (phase.Requested way t) d e k = record { streams = acked-stream v x.stream k; asks = tt }
acked-good f h l v x false (phase.Accepted way t) d e k = record { streams = acked-stream v x.stream k; asks = tt }
acked-good f h l v x false phase.Opened d e k = record { streams = acked-stream v x.stream k; asks = tt }
acked-good f h l v x false (phase.Streaming sent) d e k = record { streams = acked-stream v x.stream k; asks = tt }
acked-good f h l v x false phase.Closing d e k = record { streams = acked-stream v x.stream k; asks = tt }
acked-good f h l v x false phase.Finished d e k = absurd (none-some d e)
acked-good f h l v x false phase.Completed d e k = absurd (none-some d e)
acked-good f h l v x false (phase.Failed c) d e k = absurd (none-some d e)

verdict-hears : (f : ℕ → Option ℕ) (h : Past) (l : ℕ) (v : List ℕ) (x : WriterRecord) (d : Remedy) (t : Verdict) → Good f h l v x → remedy_in x.phase ≡ Some d → Hears f h l v x (acked_as x d t)
verdict-hears f h l v x d verdict.Good y e = record { good = acked-good f h l v x (oldest_is_last x.stream) x.phase d e (remedied v x.stream x.phase d e y.streams); queue = refl }
verdict-hears f h l v x d (verdict.Bad place) y e = fail-hears f h l v x d place y (remedied v x.stream x.phase d e y.streams)

acked-in-hears : (f : ℕ → Option ℕ) (h : Past) (l : ℕ) (v : List ℕ) (x : WriterRecord) (a : Ack) (o : Option Remedy) → Good f h l v x → remedy_at_ack x.phase ≡ o → Hears f h l v x (acked_in x a o)
acked-in-hears f h l v x a None y e = same-hears f h l v x y
acked-in-hears f h l v x a (Some d) y e = verdict-hears f h l v x d (ack_verdict (oldest_seqno x.stream) (length x.members) a) y (at-ack x.phase d e)

acked-hears : (f : ℕ → Option ℕ) (h : Past) (l : ℕ) (v : List ℕ) (x : WriterRecord) (a : Ack) → Good f h l v x → Hears f h l v x (acked x a)
unfolding acked
acked-hears f h l v x a y = acked-in-hears f h l v x a (remedy_at_ack x.phase) y refl

setup-in-hears : (f : ℕ → Option ℕ) (h : Past) (l : ℕ) (v : List ℕ) (x : WriterRecord) (p : Phase) (good : Bool) (bad : Option NodeId) → Good f h l v x → Streams v x.stream p → Hears f h l v x (setup_answered_in x p good bad)
setup-in-hears f h l v x (phase.Requested way t) true bad y k = record { good = record { streams = k; asks = tt }; queue = refl }
setup-in-hears f h l v x (phase.Requested way t) false bad y k = fail-hears f h l v x (remedy_after way) (bad_place x.members bad) y k
setup-in-hears f h l v x phase.Closed good bad y k = same-hears f h l v x y
setup-in-hears f h l v x (phase.Wanted way) good bad y k = same-hears f h l v x y
setup-in-hears f h l v x (phase.Stamped way t) good bad y k = same-hears f h l v x y
setup-in-hears f h l v x (phase.Accepted way t) good bad y k = same-hears f h l v x y
setup-in-hears f h l v x phase.Opened good bad y k = same-hears f h l v x y
setup-in-hears f h l v x (phase.Streaming sent) good bad y k = same-hears f h l v x y
setup-in-hears f h l v x phase.Closing good bad y k = same-hears f h l v x y
setup-in-hears f h l v x phase.Finished good bad y k = same-hears f h l v x y
setup-in-hears f h l v x phase.Completed good bad y k = same-hears f h l v x y
setup-in-hears f h l v x (phase.Failed c) good bad y k = same-hears f h l v x y

setup-hears : (f : ℕ → Option ℕ) (h : Past) (l : ℕ) (v : List ℕ) (x : WriterRecord) (a : Response) (bad : Option NodeId) → Good f h l v x → Hears f h l v x (setup_answered x a bad)
unfolding setup_answered
setup-hears f h l v x a bad y = setup-in-hears f h l v x x.phase (is_success a.status) bad y y.streams

pub writer-hears : (f : ℕ → Option ℕ) (h : Past) (l : ℕ) (v : List ℕ) (x : WriterRecord) (n : Next) → Good f h l v x → Hears f h l v x (writer_hears x n)
writer-hears f h l v x (message (request q)) y = end-hears f h l v x y
writer-hears f h l v x (message (packet p)) y = end-hears f h l v x y
writer-hears f h l v x (message (ack a)) y = acked-hears f h l v x a y
writer-hears f h l v x (message (response a)) y = setup-hears f h l v x a (named_member x.members a.first_bad) y
writer-hears f h l v x (message (read_status s)) y = end-hears f h l v x y
writer-hears f h l v x (message (recovery_answer a)) y = end-hears f h l v x y
writer-hears f h l v x the_end y = end-hears f h l v x y

dialled-in-hears : (f : ℕ → Option ℕ) (h : Past) (l : ℕ) (v : List ℕ) (x : WriterRecord) (p : Phase) (answered : Bool) → Good f h l v x → Streams v x.stream p → Hears f h l v x (dialled_in x p answered)
dialled-in-hears f h l v x (phase.Stamped way t) true y k = record { good = record { streams = k; asks = tt }; queue = refl }
dialled-in-hears f h l v x (phase.Stamped way t) false y k = fail-hears f h l v x (remedy_after way) 0 y k
dialled-in-hears f h l v x phase.Closed answered y k = same-hears f h l v x y
dialled-in-hears f h l v x (phase.Wanted way) answered y k = same-hears f h l v x y
dialled-in-hears f h l v x (phase.Requested way t) answered y k = same-hears f h l v x y
dialled-in-hears f h l v x (phase.Accepted way t) answered y k = same-hears f h l v x y
dialled-in-hears f h l v x phase.Opened answered y k = same-hears f h l v x y
dialled-in-hears f h l v x (phase.Streaming sent) answered y k = same-hears f h l v x y
dialled-in-hears f h l v x phase.Closing answered y k = same-hears f h l v x y
dialled-in-hears f h l v x phase.Finished answered y k = same-hears f h l v x y
dialled-in-hears f h l v x phase.Completed answered y k = same-hears f h l v x y
dialled-in-hears f h l v x (phase.Failed c) answered y k = same-hears f h l v x y

pub dialled-hears : (f : ℕ → Option ℕ) (h : Past) (l : ℕ) (v : List ℕ) (x : WriterRecord) (answered : Bool) → Good f h l v x → Hears f h l v x (dialled x answered)
unfolding dialled
dialled-hears f h l v x answered y = dialled-in-hears f h l v x x.phase answered y y.streams
