-- What lower ends that take, or act, leave of ends that were taken.
use Rattle.std.proofs.Common.{◌≡◌, ℕ, Bool, true, false, Option, Some, None, IfSome, Result, Ok, Err, refl}
use Rattle.op_headers.specs.declared.ops.Op.TheVariants as op
use Rattle.op_headers.specs.declared.ops.ReadOp.{ReadOp}
use Rattle.op_headers.specs.declared.ops.RecoveryOp.{RecoveryOp}
use Rattle.op_headers.specs.Values.{WriteFields}
use Rattle.world_laws.specs.PacketCodec.Packet.{Packet}
use Rattle.replica_core.specs.declared.events.Event.{Event}
use Rattle.replica_core.specs.Views.{rule_in}
use Rattle.world_laws.specs.ReplicaModel.ReplicaEvent.{ReplicaEvent}
use Rattle.world_laws.specs.ReplicaModel.Rows.{FullReplica}
use Rattle.world_laws.specs.RequestRefusals.RequestRefusal.{RequestRefusal}
use Rattle.world_laws.specs.MemberCore.Mirror.{Mirror}
use Rattle.world_laws.specs.MemberCore.Mirror.TheVariants as mirror
use Rattle.world_laws.specs.MemberCore.Booked.{Booked}
use Rattle.world_laws.specs.MemberCore.Booked.TheVariants as booked
use Rattle.world_laws.specs.MemberCore.Turn.{Turn}
use Rattle.world_laws.specs.MemberCore.Members.{MemberState, is_heard, hears, settled, down_turn, up_turn}
use Rattle.world_laws.specs.MemberCore.Requests.{request_event}
use Rattle.world_laws.specs.MemberCore.Steps.{Step, Setup, step, faulted_step, outcome_of, oldest_at, ready_turn_at, request_step, faulted_request}
use Rattle.world_laws.specs.ReadCore.Servings.{ServingState, read_at, read_event, next_call, piece_at}
use Rattle.world_laws.specs.RecoveryCore.RecoveryReply.{RecoveryReply}
use Rattle.world_laws.specs.RecoveryCore.Members.{Served, recovery_event, serve, serve_faulted}
use Rattle.world_laws.specs.World.Parts.{Message, request, packet, ack, response, read_status, recovery_answer, FullMember, Lower, idle, writes, serves, recovers, ended_below, Break, Marks}
use Rattle.world_laws.specs.World.Worlds.{World, Change}
use Rattle.world_laws.specs.World.Connections.{Next, message, the_end, is_alive}
use Rattle.world_laws.specs.World.Nodes.{replica_at, block_of, closing, unless_failing, above_of, below_of, member_change, failing_turn, turn_change, takes_next, pending_at, member_up, ready_change, is_asked, mirror_conn, lower_of, setup_change, failing_write, write_request, read_change, failing_read, read_request, piece_as, serve_change, recovery_change, failing_recovery, recovery_request, first_message, next_recovery, lower_down, lower_ready, mirror_up}
use Rattle.world_laws.proofs.FactTables.{some-weaker, when-each}
use Rattle.world_orders.specs.Open.{IsOpenBelow}
use Rattle.world_orders.proofs.Turns.{settled-still, down-keeps, ready-keeps, HearsOn, settled-on, settled-receives, end-closes, up-up}
use Rattle.world_orders.proofs.OpenFrame.{IsOpenMirror, LowerOpens}

-- the lower end is neither a member nor idle
abbrev is_ended : Lower → Bool
is_ended ended_below = true
is_ended other = false

abbrev answers : Lower → Bool
answers (serves b s) = true
answers recovers = true
answers other = false

ended-lower : (l : Lower) (over : Bool) → is_ended l ≡ true → IsOpenBelow l over
ended-lower ended_below over e = tt
ended-lower idle over e = cc
ended-lower (writes m) over e = cc
ended-lower (serves b s) over e = cc
ended-lower recovers over e = cc

ended-mirror : (marks : ℕ → Marks) (l : Lower) → is_ended l ≡ true → IsOpenMirror marks l
ended-mirror marks ended_below e = tt
ended-mirror marks idle e = tt
ended-mirror marks (writes m) e = cc
ended-mirror marks (serves b s) e = tt
ended-mirror marks recovers e = tt

answers-lower : (l : Lower) (over : Bool) → answers l ≡ true → over ≡ false → IsOpenBelow l over
answers-lower ended_below over e h = tt
answers-lower idle over e h = h
answers-lower (writes m) over e h = cc
answers-lower (serves b s) over e h = h
answers-lower recovers over e h = h

answers-mirror : (marks : ℕ → Marks) (l : Lower) → answers l ≡ true → IsOpenMirror marks l
answers-mirror marks ended_below e = tt
answers-mirror marks idle e = tt
answers-mirror marks (writes m) e = cc
answers-mirror marks (serves b s) e = tt
answers-mirror marks recovers e = tt

all-some : {A : Type 0} (P : A → Type 0) (o : Option A) → ((x : A) → P x) → IfSome o P
all-some P None f = tt
all-some P (Some x) f = f x

module _ (v : World) (c : ℕ) where
  -- THE END ENDS, OR ANSWERS

  gone : (k : Change) → k.lower_at ≡ c → is_ended k.lower ≡ true → k.writer ≡ v.writers k.writer_at → LowerOpens v c k
  gone k at e same = record { at_is = at; lower = ended-lower k.lower _ e; mirror = ended-mirror v.up_marks k.lower e; writer_same = same }

  answering : (k : Change) → k.lower_at ≡ c → answers k.lower ≡ true → k.writer ≡ v.writers k.writer_at → (v.down_marks c).over ≡ false → LowerOpens v c k
  answering k at e same h = record { at_is = at; lower = answers-lower k.lower _ e h; mirror = answers-mirror v.up_marks k.lower e; writer_same = same }

  unless-opens : (fails : Bool) → IfSome (unless_failing fails (closing v c)) (LowerOpens v c)
  unless-opens true = tt
  unless-opens false = gone _ refl refl refl

  -- READS

  read-opens : (b : ℕ) (s : Result ServingState RequestRefusal) → (v.down_marks c).over ≡ false → LowerOpens v c (read_change v c b s)
  read-opens b (Ok s) h = answering _ refl refl refl h
  read-opens b (Err r) h = gone _ refl refl refl

  failing-read-opens : (b : ℕ) (e : Result Event RequestRefusal) → IfSome (failing_read v c b e) (LowerOpens v c)
  failing-read-opens b (Err r) = tt
  failing-read-opens b (Ok e) = gone _ refl refl refl

  read-request-opens : (r : ReadOp) (fails : Bool) → (v.down_marks c).over ≡ false → IfSome (read_request v c r fails) (LowerOpens v c)
  read-request-opens r true h = failing-read-opens r.block.block.0 (read_event r)
  read-request-opens r false h = read-opens r.block.block.0 (read_at r (replica_at v c r.block.block.0)) h

  piece-opens : (b : ℕ) (s : ServingState) (o : Option Packet) → (v.down_marks c).over ≡ false → LowerOpens v c (piece_as v c b s o)
  piece-opens b s None h = gone _ refl refl refl
  piece-opens b s (Some q) h = answering _ refl refl refl h

  serve-opens : (b : ℕ) (s : ServingState) (o : Option Event) (fails : Bool) → (v.down_marks c).over ≡ false → IfSome (serve_change v c b s o fails) (LowerOpens v c)
  serve-opens b s None fails h = tt
  serve-opens b s (Some e) true h = gone _ refl refl refl
  serve-opens b s (Some e) false h = piece-opens b (piece_at s (replica_at v c b)).serving (piece_at s (replica_at v c b)).packet h

  -- BLOCK RECOVERIES

  recovery-opens : (r : RecoveryOp) (s : Served) (b : Option Break) → (v.down_marks c).over ≡ false → LowerOpens v c (recovery_change v c r s b)
  recovery-opens r s b h = answering _ refl refl refl h

  failing-recovery-opens : (r : RecoveryOp) (e : Result Event RecoveryReply) → (v.down_marks c).over ≡ false → IfSome (failing_recovery v c r e) (LowerOpens v c)
  failing-recovery-opens r (Err said) h = tt
  failing-recovery-opens r (Ok e) h = recovery-opens r (serve_faulted (replica_at v c r.block.block.0)) _ h

  recovery-request-opens : (r : RecoveryOp) (fails : Bool) → (v.down_marks c).over ≡ false → IfSome (recovery_request v c r fails) (LowerOpens v c)
  recovery-request-opens r true h = failing-recovery-opens r (recovery_event r) h
  recovery-request-opens r false h = recovery-opens r (serve (replica_at v c r.block.block.0) r) _ h

  next-opens : (x : Next) (fails : Bool) → ((y : Message) → x ≡ message y → (v.down_marks c).over ≡ false) → IfSome (next_recovery v c x fails) (LowerOpens v c)
  next-opens (message (request (op.Recovery r))) fails h = recovery-request-opens r fails (h _ refl)
  next-opens (message (request (op.Write r))) fails h = unless-opens fails
  next-opens (message (request (op.Read r))) fails h = unless-opens fails
  next-opens (message (request (op.Transfer r))) fails h = unless-opens fails
  next-opens (message (request (op.Checksum r))) fails h = unless-opens fails
  next-opens (message (packet q)) fails h = unless-opens fails
  next-opens (message (ack a)) fails h = unless-opens fails
  next-opens (message (response r)) fails h = unless-opens fails
  next-opens (message (read_status s)) fails h = unless-opens fails
  next-opens (message (recovery_answer a)) fails h = unless-opens fails
  next-opens the_end fails h = unless-opens fails

  -- MEMBERS

  record StepOpens (m : FullMember) (n : MemberState) : Type 0 where
    below : n.receives ≡ true → (v.down_marks c).over ≡ false
    mirror : IfSome m.mirror (λ d. hears n ≡ true → (v.up_marks d).over ≡ false)

  member-opens : (m : FullMember) (x : Next) (s : Step) (b : Option Break) → StepOpens m s.member → LowerOpens v c (member_change v c m x s b)
  member-opens m x s b o = record { at_is = refl; lower = o.below; mirror = o.mirror; writer_same = refl }

  turn-opens : (m : FullMember) (x : Next) (t : Turn) (fails : Bool) → ((b : Booked) → StepOpens m (settled m.state t b).0) → IfSome (turn_change v c m x t fails) (LowerOpens v c)
  turn-opens m x t true o = failing t.call
    where
      failing : (e : Option ReplicaEvent) → IfSome (failing_turn v c m x t e) (LowerOpens v c)
      failing None = tt
      failing (Some e) = member-opens m x (faulted_step m.state (replica_at v c (block_of m.fields)) t) _ (o booked.Failed)
  turn-opens m x t false o = member-opens m x (step m.state (replica_at v c (block_of m.fields)) t) _ (o (outcome_of (replica_at v c (block_of m.fields)) t.call))

  -- who hears its mirror afterwards heard it before
  heard-opens : (m : FullMember) (n : MemberState) → (hears n ≡ true → hears m.state ≡ true) → IsOpenMirror v.up_marks (writes m) → IfSome m.mirror (λ d. hears n ≡ true → (v.up_marks d).over ≡ false)
  heard-opens m n f h = some-weaker (λ (d : ℕ). hears m.state ≡ true → (v.up_marks d).over ≡ false) (λ (d : ℕ). hears n ≡ true → (v.up_marks d).over ≡ false) m.mirror (λ d g e. g (f e)) h

  down-opens : (m : FullMember) (x : Next) (b : Booked) → ((y : Message) → x ≡ message y → m.state.receives ≡ true → (v.down_marks c).over ≡ false) → IsOpenMirror v.up_marks (writes m)
      → StepOpens m (settled m.state (down_turn m.state (above_of x)) b).0
  down-opens m (message y) b h k = record {
    below = λ e. h y refl (settled-receives m.state (down_turn m.state (above_of (message y))) b e);
    mirror = heard-opens m (settled m.state (down_turn m.state (above_of (message y))) b).0 (λ e. (settled-still m.state (down_turn m.state (above_of (message y))) b (down-keeps m.state (above_of (message y)))).heard e) k;
  }
  down-opens m the_end b h k = record {
    below = λ e. absurd (end-closes m.state b e);
    mirror = heard-opens m (settled m.state (down_turn m.state (above_of the_end)) b).0 (λ e. (settled-still m.state (down_turn m.state (above_of the_end)) b (down-keeps m.state (above_of the_end))).heard e) k;
  }

  ready-opens : (m : FullMember) (o : Option Turn) (fails : Bool) → (m.state.receives ≡ true → (v.down_marks c).over ≡ false) → IsOpenMirror v.up_marks (writes m)
      → IfSome o (λ t. is_heard t.mirror ≡ true → t.mirror ≡ m.state.mirror) → IfSome (ready_change v c m o fails) (LowerOpens v c)
  ready-opens m None fails h k keeps = tt
  ready-opens m (Some t) fails h k keeps = turn-opens m the_end t fails (λ b. record {
    below = λ e. h (settled-receives m.state t b e);
    mirror = heard-opens m (settled m.state t b).0 (λ e. (settled-still m.state t b keeps).heard e) k;
  })

  -- A NEW MEMBER

  new-below : (o : Option MemberState) (fields : WriteFields) → (v.down_marks c).over ≡ false → IsOpenBelow (lower_of o fields v.next_conn) (v.down_marks c).over
  new-below None fields h = tt
  new-below (Some m) fields h = λ e. h

  new-mirror : (o : Option MemberState) (fields : WriteFields) → (v.up_marks v.next_conn).over ≡ false → IsOpenMirror v.up_marks (lower_of o fields v.next_conn)
  new-mirror None fields h = tt
  new-mirror (Some m) fields h = go m.mirror
    where
      go : (q : Mirror) → IfSome (mirror_conn q v.next_conn) (λ d. hears m ≡ true → (v.up_marks d).over ≡ false)
      go mirror.Asked = λ e. h
      go mirror.Nobody = tt
      go mirror.Unreachable = tt
      go mirror.Open = tt
      go mirror.Ended = tt

  setup-opens : (fields : WriteFields) (s : Setup) (b : Option Break) → (v.down_marks c).over ≡ false → (v.up_marks v.next_conn).over ≡ false → LowerOpens v c (setup_change v c fields s b)
  setup-opens fields s b h k = record { at_is = refl; lower = new-below s.member fields h; mirror = new-mirror s.member fields k; writer_same = refl }

  failing-write-opens : (fields : WriteFields) (e : Result Event RequestRefusal) → (v.down_marks c).over ≡ false → (v.up_marks v.next_conn).over ≡ false → IfSome (failing_write v c fields e) (LowerOpens v c)
  failing-write-opens fields (Err refused) h k = tt
  failing-write-opens fields (Ok e) h k = setup-opens fields (faulted_request (replica_at v c (block_of fields))) _ h k

  write-opens : (fields : WriteFields) (answered fails : Bool) → (v.down_marks c).over ≡ false → (v.up_marks v.next_conn).over ≡ false → IfSome (write_request v c fields answered fails) (LowerOpens v c)
  write-opens fields answered true h k = failing-write-opens fields (request_event (record { 0 = c }) fields (rule_in (replica_at v c (block_of fields)).known)) h k
  write-opens fields answered false h k = setup-opens fields (request_step (record { 0 = c }) fields (is_asked v c fields answered) (replica_at v c (block_of fields))) _ h k

  first-opens : (x : Message) (answered fails : Bool) → (v.down_marks c).over ≡ false → (v.up_marks v.next_conn).over ≡ false → IfSome (first_message v c x answered fails) (LowerOpens v c)
  first-opens (request (op.Write fields)) answered fails h k = write-opens fields answered fails h k
  first-opens (request (op.Read r)) answered fails h k = read-request-opens r fails h
  first-opens (request (op.Recovery r)) answered fails h k = recovery-request-opens r fails h
  first-opens (request (op.Transfer r)) answered fails h k = unless-opens fails
  first-opens (request (op.Checksum r)) answered fails h k = unless-opens fails
  first-opens (packet q) answered fails h k = unless-opens fails
  first-opens (ack a) answered fails h k = unless-opens fails
  first-opens (response r) answered fails h k = unless-opens fails
  first-opens (read_status s) answered fails h k = unless-opens fails
  first-opens (recovery_answer a) answered fails h k = unless-opens fails

  -- THE LOWER END TAKES, OR ACTS

  pub lower-down-opens : (l : Lower) (x : Next) (answered fails : Bool) → ((y : Message) → x ≡ message y → IsOpenBelow l (v.down_marks c).over) → IsOpenMirror v.up_marks l
      → (v.up_marks v.next_conn).over ≡ false → IfSome (lower_down l v c x answered fails) (LowerOpens v c)
  lower-down-opens idle (message y) answered fails h k fresh = first-opens y answered fails (h y refl) fresh
  lower-down-opens idle the_end answered fails h k fresh = unless-opens fails
  lower-down-opens (writes m) x answered fails h k fresh =
      when-each (LowerOpens v c) (takes_next m.state (pending_at v c m) x) _ (λ _. turn-opens m x (down_turn m.state (above_of x)) fails (λ b. down-opens m x b h k))
  lower-down-opens (serves b s) x answered fails h k fresh = unless-opens fails
  lower-down-opens recovers x answered fails h k fresh = next-opens x fails h
  lower-down-opens ended_below x answered fails h k fresh = tt

  pub lower-ready-opens : (l : Lower) (fails : Bool) → IsOpenBelow l (v.down_marks c).over → IsOpenMirror v.up_marks l → IfSome (lower_ready l v c fails) (LowerOpens v c)
  lower-ready-opens idle fails h k = tt
  lower-ready-opens (writes m) fails h k =
      let r : FullReplica = replica_at v c (block_of m.fields) in
      ready-opens m (ready_turn_at m.state r) fails h k (ready-keeps m.state _ _)
  lower-ready-opens (serves b s) fails h k = serve-opens b s (next_call s) fails h
  lower-ready-opens recovers fails h k = tt
  lower-ready-opens ended_below fails h k = tt

  -- A MEMBER TAKES FROM ITS MIRROR

  taken-opens : (m : FullMember) (x : Next) (n : MemberState) → HearsOn (below_of x) n → hears m.state ≡ true → ((y : Message) → x ≡ message y → IsOpenMirror v.up_marks (writes m))
      → IfSome m.mirror (λ d. hears n ≡ true → (v.up_marks d).over ≡ false)
  taken-opens m (message y) n o heard k = heard-opens m n (λ e. heard) (k y refl)
  taken-opens m the_end n o heard k = all-some (λ (d : ℕ). hears n ≡ true → (v.up_marks d).over ≡ false) m.mirror (λ d e. absurd (o.not_end e refl))

  up-opens : (m : FullMember) (x : Next) (fails : Bool) → (m.state.receives ≡ true → (v.down_marks c).over ≡ false) → ((y : Message) → x ≡ message y → IsOpenMirror v.up_marks (writes m))
      → IfSome (member_up v c m x fails) (LowerOpens v c)
  up-opens m x fails h k = when-each (LowerOpens v c) (hears m.state) _ (λ heard. turn-opens m x turn fails (λ b. record {
    below = λ e. h (settled-receives m.state turn b e);
    mirror = taken-opens m x (settled m.state turn b).0 (settled-on m.state turn b (below_of x) (up-up m.state _ (below_of x) heard)) heard k;
  }))
    where
      turn : Turn
      turn = up_turn m.state (oldest_at (replica_at v c (block_of m.fields))) (below_of x)

  pub mirror-up-opens : (l : Lower) (x : Next) (fails : Bool) → IsOpenBelow l (v.down_marks c).over → ((y : Message) → x ≡ message y → IsOpenMirror v.up_marks l)
      → IfSome (mirror_up l v c x fails) (LowerOpens v c)
  mirror-up-opens idle x fails h k = tt
  mirror-up-opens (writes m) x fails h k = when-each (LowerOpens v c) (is_alive v (v.dialled c).to) _ (λ _. up-opens m x fails h k)
  mirror-up-opens (serves b s) x fails h k = tt
  mirror-up-opens recovers x fails h k = tt
  mirror-up-opens ended_below x fails h k = tt
