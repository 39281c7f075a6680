-- An event of a lower end changes no other one.
use Rattle.std.proofs.Common.{◌≡◌, ◌<◌, ◌≤◌, ◌∷◌, ℕ, Bool, true, false, List, [], Option, Some, None, IfSome, inl, inr, Result, Ok, Err, refl, ap, ◌∙◌, arith}
use Rattle.std.proofs.lemmas.Bool.{cases_lt}
use Rattle.hd_base.specs.declared.numbers.ConnId.{ConnId}
use Rattle.packet_codec.specs.declared.packets.Packet.{Packet}
use Rattle.op_headers.specs.declared.ops.Op.TheVariants as op
use Rattle.op_headers.specs.declared.ops.ReadOp.{ReadOp}
use Rattle.op_headers.specs.declared.ops.RecoveryOp.{RecoveryOp}
use Rattle.op_headers.specs.Values.{WriteFields}
use Rattle.replica_core.specs.declared.events.Event.{Event}
use Rattle.replica_core.specs.Views.{rule_in}
use Rattle.replica_model.specs.declared.events.ReplicaEvent.{ReplicaEvent}
use Rattle.replica_model.specs.declared.events.ReplicaEvent.TheVariants as replica_event
use Rattle.replica_model.specs.Rows.{FullReplica}
use Rattle.request_refusals.specs.declared.refusals.RequestRefusal.{RequestRefusal}
use Rattle.world.specs.MemberCore.Turn.{Turn}
use Rattle.world.specs.MemberCore.Members.{down_turn}
use Rattle.world.specs.MemberCore.Requests.{request_event}
use Rattle.world.specs.MemberCore.Steps.{Step, Setup, step, faulted_step, ready_turn_at, request_step, faulted_request}
use Rattle.world.specs.ReadCore.Servings.{ServingState, refusing, faulted_read, faulted_piece, next_call, piece_at, read_at, read_event}
use Rattle.recovery_core.specs.declared.members.RecoveryReply.{RecoveryReply}
use Rattle.recovery_core.specs.Members.{Served, recovery_event, serve, serve_faulted}
use Rattle.world.specs.declared.events.Event as happening
use Rattle.world.specs.declared.events.Event.TheVariants as event
use Rattle.world.specs.Parts.{Message, request, packet, ack, response, read_status, recovery_answer, Dialled, FullMember, Lower, idle, writes, serves, recovers, ended_below, Break}
use Rattle.world.specs.Worlds.{World, Change, apply}
use Rattle.world.specs.Connections.{Next, message, the_end, next_down, down_taken, is_served}
use Rattle.world.specs.Nodes.{replica_at, node_of, block_of, broke_at, is_asked, closing, unless_failing, above_of, member_change, failing_turn, turn_change, takes_next, pending_at, member_down, ready_change, setup_change, failing_write, write_request, breaking, read_change, failing_read, read_request, piece_as, serve_change, recovery_change, failing_recovery, recovery_request, first_message, next_recovery, lower_down, lower_ready}
use Rattle.world.specs.Events.{changed, outcome, after_event, happens, down_as}
use Rattle.play_model.proofs.WorldLaws.FactTables.{when-each}
use Rattle.play_model.proofs.WorldLaws.GrowthLaws.{apply-grows}
use Rattle.play_nodes.specs.Showing.{is_pipeline}
use Rattle.play_nodes.proofs.PipelineDials.{OfPipelines, members_dial, fresh_dial}
use Rattle.play_primaries.proofs.WorldSettling.Members.{lower-other}
use Rattle.play_recoveries.specs.Keeping.{KeepsServed}
use Rattle.play_recoveries.proofs.KeepLaws.{none_between}

-- CHANGES

-- It changes no lower end but this one, and what it dials is of pipelines.
pub record IsThere (c : ℕ) (k : Change) : Type 0 where
  pub dials : OfPipelines k.dials
  pub here : k.lower_at ≡ c

module _ (w : World) (c : ℕ) where
  abbrev IfThere : Option Change → Type 0
  IfThere o = IfSome o (IsThere c)

  closing_of : IsThere c (closing w c)
  closing_of = record { dials = tt; here = refl }

  unless_of : (fails : Bool) → IfThere (unless_failing fails (closing w c))
  unless_of true = tt
  unless_of false = closing_of

  -- MEMBERS

  member_of : (m : FullMember) (x : Next) (s : Step) (b : Option Break) → IsThere c (member_change w c m x s b)
  member_of m x s b = record { dials = tt; here = refl }

  failing_of : (m : FullMember) (x : Next) (t : Turn) (o : Option ReplicaEvent) → IfThere (failing_turn w c m x t o)
  failing_of m x t None = tt
  failing_of m x t (Some e) = member_of m x (faulted_step m.state (replica_at w c (block_of m.fields)) t) (broke_at w c (block_of m.fields) e)

  turn_of : (m : FullMember) (x : Next) (t : Turn) (fails : Bool) → IfThere (turn_change w c m x t fails)
  turn_of m x t true = failing_of m x t t.call
  turn_of m x t false = member_of m x (step m.state (replica_at w c (block_of m.fields)) t) (w.breaks (node_of w c) (block_of m.fields))

  member_down_of : (m : FullMember) (x : Next) (fails : Bool) → IfThere (member_down w c m x fails)
  member_down_of m x fails = when-each (IsThere c) (takes_next m.state (pending_at w c m) x) _ (λ _. turn_of m x (down_turn m.state (above_of x)) fails)

  ready_of : (m : FullMember) (o : Option Turn) (fails : Bool) → IfThere (ready_change w c m o fails)
  ready_of m None fails = tt
  ready_of m (Some t) fails = turn_of m the_end t fails

  -- WRITE REQUESTS

  setup_of : (f : WriteFields) (s : Setup) (b : Option Break) → IsThere c (setup_change w c f s b)
  setup_of f s b = record { dials = members_dial s.member w c f; here = refl }

  failing_write_of : (f : WriteFields) (e : Result Event RequestRefusal) → IfThere (failing_write w c f e)
  failing_write_of f (Err e) = tt
  failing_write_of f (Ok e) = setup_of f (faulted_request (replica_at w c (block_of f))) (broke_at w c (block_of f) (replica_event.Other e))

  write_of : (f : WriteFields) (answered fails : Bool) → IfThere (write_request w c f answered fails)
  write_of f answered true = failing_write_of f (request_event (record { 0 = c }) f (rule_in (replica_at w c (block_of f)).known))
  write_of f answered false =
      setup_of f (request_step (record { 0 = c }) f (is_asked w c f answered) (replica_at w c (block_of f))) (w.breaks (node_of w c) (block_of f))

  -- READS

  breaking_of : (b : ℕ) (r : FullReplica) (e : ReplicaEvent) (ms : List Message) → IsThere c (breaking w c b r e ms)
  breaking_of b r e ms = record { dials = tt; here = refl }

  read_of : (b : ℕ) (o : Result ServingState RequestRefusal) → IsThere c (read_change w c b o)
  read_of b (Ok s) = record { dials = tt; here = refl }
  read_of b (Err r) = record { dials = tt; here = refl }

  failing_read_of : (b : ℕ) (e : Result Event RequestRefusal) → IfThere (failing_read w c b e)
  failing_read_of b (Err r) = tt
  failing_read_of b (Ok e) = let x = faulted_read (replica_at w c b) in breaking_of b x.0 (replica_event.Other e) (response (refusing x.1) ∷ [])

  read_request_of : (r : ReadOp) (fails : Bool) → IfThere (read_request w c r fails)
  read_request_of r true = failing_read_of r.block.block.0 (read_event r)
  read_request_of r false = read_of r.block.block.0 (read_at r (replica_at w c r.block.block.0))

  piece_of : (b : ℕ) (s : ServingState) (o : Option Packet) → IsThere c (piece_as w c b s o)
  piece_of b s None = closing_of
  piece_of b s (Some q) = record { dials = tt; here = refl }

  serve_of : (b : ℕ) (s : ServingState) (o : Option Event) (fails : Bool) → IfThere (serve_change w c b s o fails)
  serve_of b s None fails = tt
  serve_of b s (Some e) true = breaking_of b (faulted_piece s (replica_at w c b)).0 (replica_event.Other e) []
  serve_of b s (Some e) false = piece_of b (piece_at s (replica_at w c b)).serving (piece_at s (replica_at w c b)).packet

  -- RECOVERIES

  recovery_of : (r : RecoveryOp) (s : Served) (b : Option Break) → IsThere c (recovery_change w c r s b)
  recovery_of r s b = record { dials = tt; here = refl }

  failing_recovery_of : (r : RecoveryOp) (e : Result Event RecoveryReply) → IfThere (failing_recovery w c r e)
  failing_recovery_of r (Err said) = tt
  failing_recovery_of r (Ok e) = recovery_of r (serve_faulted (replica_at w c r.block.block.0)) (broke_at w c r.block.block.0 (replica_event.Other e))

  recovery_request_of : (r : RecoveryOp) (fails : Bool) → IfThere (recovery_request w c r fails)
  recovery_request_of r true = failing_recovery_of r (recovery_event r)
  recovery_request_of r false = recovery_of r (serve (replica_at w c r.block.block.0) r) (w.breaks (node_of w c) r.block.block.0)

  -- THE LOWER END

  first_of : (m : Message) (answered fails : Bool) → IfThere (first_message w c m answered fails)
  first_of (request (op.Write f)) answered fails = write_of f answered fails
  first_of (request (op.Read r)) answered fails = read_request_of r fails
  first_of (request (op.Recovery r)) answered fails = recovery_request_of r fails
  first_of (request (op.Transfer r)) answered fails = unless_of fails
  first_of (request (op.Checksum r)) answered fails = unless_of fails
  first_of (packet q) answered fails = unless_of fails
  first_of (ack a) answered fails = unless_of fails
  first_of (response r) answered fails = unless_of fails
  first_of (read_status s) answered fails = unless_of fails
  first_of (recovery_answer a) answered fails = unless_of fails

  next_of : (x : Next) (fails : Bool) → IfThere (next_recovery w c x fails)
  next_of (message (request (op.Recovery r))) fails = recovery_request_of r fails
  next_of (message (request (op.Write f))) fails = unless_of fails
  next_of (message (request (op.Read r))) fails = unless_of fails
  next_of (message (request (op.Transfer r))) fails = unless_of fails
  next_of (message (request (op.Checksum r))) fails = unless_of fails
  next_of (message (packet q)) fails = unless_of fails
  next_of (message (ack a)) fails = unless_of fails
  next_of (message (response r)) fails = unless_of fails
  next_of (message (read_status s)) fails = unless_of fails
  next_of (message (recovery_answer a)) fails = unless_of fails
  next_of the_end fails = unless_of fails

  pub down_of : (l : Lower) (x : Next) (answered fails : Bool) → IfThere (lower_down l w c x answered fails)
  down_of idle (message m) answered fails = first_of m answered fails
  down_of idle the_end answered fails = unless_of fails
  down_of (writes m) x answered fails = member_down_of m x fails
  down_of (serves b s) x answered fails = unless_of fails
  down_of recovers x answered fails = next_of x fails
  down_of ended_below x answered fails = tt

  pub lower_ready_of : (l : Lower) (fails : Bool) → IfThere (lower_ready l w c fails)
  lower_ready_of idle fails = tt
  lower_ready_of (writes m) fails = ready_of m (ready_turn_at m.state (replica_at w c (block_of m.fields))) fails
  lower_ready_of (serves b s) fails = serve_of b s (next_call s) fails
  lower_ready_of recovers fails = tt
  lower_ready_of ended_below fails = tt

-- AFTER EVENTS

-- Who dialled each connection stays, and which nodes run, and so do all lower ends but one; what is dialled is of pipelines.
pub record ThereAlone (w v : World) (c : ℕ) : Type 0 where
  pub served : KeepsServed w v
  pub fresh : (d : ℕ) → w.next_conn ≤ d → d < v.next_conn → is_pipeline (v.dialled d).upper ≡ true
  pub lowers : (d : ℕ) → (d ≡ c → ⊥) → v.lowers d ≡ w.lowers d

still_alone : (w : World) (c : ℕ) → ThereAlone w w c
still_alone w c = record {
  served = record { grows = omega arith; dialled = λ d before. refl; running = λ n. refl; lives = λ n. refl };
  fresh = λ d le lt. absurd (none_between w.next_conn w.next_conn d refl le lt);
  lowers = λ d apart. refl;
}

no_less : (a b c : ℕ) → a ≤ b → b ≤ c → a ≤ c
no_less a b c h k = omega arith

before_then : (a b c : ℕ) → a < b → b ≤ c → a < c
before_then a b c h k = omega arith

fresh_then : (w u v : World) (c : ℕ) → ThereAlone w u c → ThereAlone u v c → (d : ℕ) → w.next_conn ≤ d → d < v.next_conn → is_pipeline (v.dialled d).upper ≡ true
fresh_then w u v c h k d le lt = elim (cases_lt d u.next_conn) [
  | inl before ↦ ap (λ (x : Dialled). is_pipeline x.upper) (k.served.dialled d before) ∙ h.fresh d le before
  | inr from ↦ k.fresh d from lt
]

alone_then : (w u v : World) (c : ℕ) → ThereAlone w u c → ThereAlone u v c → ThereAlone w v c
alone_then w u v c h k = record {
  served = record {
    grows = no_less w.next_conn u.next_conn v.next_conn h.served.grows k.served.grows;
    dialled = λ d before. k.served.dialled d (before_then d w.next_conn u.next_conn before h.served.grows) ∙ h.served.dialled d before;
    running = λ n. k.served.running n ∙ h.served.running n;
    lives = λ n. k.served.lives n ∙ h.served.lives n;
  };
  fresh = fresh_then w u v c h k;
  lowers = λ d apart. k.lowers d apart ∙ h.lowers d apart;
}

named_alone : (w v : World) (c : ℕ) (x : happening.Event) → ThereAlone w v c → ThereAlone w (record v { last = Some x }) c
named_alone w v c x h = record {
  served = record { grows = h.served.grows; dialled = h.served.dialled; running = h.served.running; lives = h.served.lives };
  fresh = h.fresh;
  lowers = h.lowers;
}

change_alone : (w : World) (c : ℕ) (k : Change) → IsThere c k → ThereAlone w (apply w k) c
unfolding apply
change_alone w c k h = record {
  served = record { grows = omega arith; dialled = λ d old. (apply-grows w k).dialled d old; running = λ n. refl; lives = λ n. refl };
  fresh = λ d le lt. fresh_dial w k d h.dials le lt;
  lowers = λ d apart. lower-other w k d (λ same. apart (same ∙ h.here));
}

down_taken_alone : (w : World) (c : ℕ) (x : Next) → ThereAlone w (down_taken w c x) c
unfolding down_taken
down_taken_alone w c x = record {
  served = record { grows = omega arith; dialled = λ d before. refl; running = λ n. refl; lives = λ n. refl };
  fresh = λ d le lt. absurd (none_between w.next_conn w.next_conn d refl le lt);
  lowers = λ d apart. refl;
}

changed_alone : (w u : World) (c : ℕ) (o : Option Change) → ThereAlone w u c → IfSome o (IsThere c) → IfSome (changed u o) (λ v. ThereAlone w v c)
changed_alone w u c None h k = tt
changed_alone w u c (Some x) h k = alone_then w u (apply u x) c h (change_alone u c x k)

after_alone : (w : World) (c : ℕ) (x : happening.Event) (o : Option World) → IfSome o (λ v. ThereAlone w v c) → ThereAlone w (after_event w x o) c
after_alone w c x None h = still_alone w c
after_alone w c x (Some v) h = named_alone w v c x h

down_next : (w : World) (c : ℕ) (answered : Bool) (o : Option Next) → IfSome (down_as w c answered false o) (λ v. ThereAlone w v c)
down_next w c answered None = tt
down_next w c answered (Some x) =
    changed_alone w (down_taken w c x) c (lower_down (w.lowers c) (down_taken w c x) c x answered false) (down_taken_alone w c x)
    (down_of (down_taken w c x) c (w.lowers c) x answered false)

-- What a lower end takes.
pub down_alone : (w : World) (conn : ConnId) (answered : Bool) → ThereAlone w (happens w (event.Down conn answered)) conn.0
unfolding happens outcome
down_alone w conn answered =
    after_alone w conn.0 (event.Down conn answered) (outcome w (event.Down conn answered))
    (when-each (λ v. ThereAlone w v conn.0) (is_served w conn.0) (down_as w conn.0 answered false (next_down w conn.0)) (λ _. down_next w conn.0 answered (next_down w conn.0)))

-- What it does without a message.
pub ready_alone : (w : World) (conn : ConnId) → ThereAlone w (happens w (event.Ready conn)) conn.0
unfolding happens outcome
ready_alone w conn =
    after_alone w conn.0 (event.Ready conn) (outcome w (event.Ready conn))
    (when-each (λ v. ThereAlone w v conn.0) (is_served w conn.0) (changed w (lower_ready (w.lowers conn.0) w conn.0 false))
    (λ _. changed_alone w w conn.0 (lower_ready (w.lowers conn.0) w conn.0 false) (still_alone w conn.0) (lower_ready_of w conn.0 (w.lowers conn.0) false)))
