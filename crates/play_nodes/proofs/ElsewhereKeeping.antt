-- The events of the nodes keep readers, primaries, and connections that are none of a pipeline.
use Rattle.std.proofs.Common.{◌≡◌, ◌<◌, ◌≤◌, ◌∷◌, ◌++◌, ℕ, Bool, true, false, if◌then◌else◌, List, [], Option, Some, None, IfSome, inl, inr, Result, Ok, Err, refl, sym, ap, ◌∙◌, subst, arith, eqb-true}
use Rattle.std.specs.Prelude.{◌==◌, ◌||◌, ◌-◌, nat_le, nat_lt, option_map, slice_get}
use Rattle.std.proofs.lemmas.Bool.{cases_lt}
use Rattle.std.proofs.lemmas.Bool.Decides.{nat_tests}
use Rattle.std.proofs.lemmas.List.{append-nil}
use Rattle.hd_base.specs.declared.numbers.ConnId.{ConnId}
use Rattle.packet_codec.specs.declared.packets.Packet.{Packet}
use Rattle.op_headers.specs.declared.ops.Op.TheVariants as op
use Rattle.op_headers.specs.declared.ops.ReadOp.{ReadOp}
use Rattle.op_headers.specs.declared.ops.RecoveryOp.{RecoveryOp}
use Rattle.op_headers.specs.Values.{WriteFields}
use Rattle.replica_core.specs.declared.events.Event.{Event}
use Rattle.replica_core.specs.Views.{rule_in}
use Rattle.member_events.specs.ReplicaModel.ReplicaEvent.{ReplicaEvent}
use Rattle.member_events.specs.ReplicaModel.ReplicaEvent.TheVariants as replica_event
use Rattle.member_events.specs.ReplicaModel.Rows.{FullReplica}
use Rattle.member_events.specs.RequestRefusals.RequestRefusal.{RequestRefusal}
use Rattle.member_events.specs.MemberCore.Shuts.{Shuts}
use Rattle.member_events.specs.MemberCore.Shuts.TheVariants as shuts
use Rattle.member_events.specs.MemberCore.Turn.{Turn}
use Rattle.member_events.specs.MemberCore.Members.{MemberState, down_turn, up_turn, hears}
use Rattle.member_events.specs.MemberCore.Requests.{request_event}
use Rattle.member_events.specs.MemberCore.Steps.{Step, Setup, step, faulted_step, oldest_at, ready_turn_at, request_step, faulted_request}
use Rattle.play_model.specs.ReadCore.Servings.{ServingState, accepting, refusing, faulted_read, faulted_piece, next_call, piece_at, read_at, read_event}
use Rattle.play_model.specs.RecoveryCore.RecoveryReply.{RecoveryReply}
use Rattle.play_model.specs.RecoveryCore.Members.{Served, answer_of, recovery_event, serve, serve_faulted}
use Rattle.play_model.specs.World.Delivery.TheVariants as delivery
use Rattle.play_model.specs.World.Event as happening
use Rattle.play_model.specs.World.Event.TheVariants as event
use Rattle.play_model.specs.World.Parts.{Message, request, packet, ack, response, read_status, recovery_answer, Upper, by_member, Dialled, FullMember, Lower, idle, writes, serves, recovers, ended_below, Break, Marks}
use Rattle.play_model.specs.World.Worlds.{World, Change, Dial, apply, dial_at, listed, shut_marks, downs_with, ups_with}
use Rattle.play_model.specs.World.Connections.{Next, message, the_end, next_down, next_up, down_taken, up_taken, is_served, is_alive, sent_on, is_conn, marks_taken}
use Rattle.play_model.specs.World.Nodes.{replica_at, node_of, block_of, broke_at, is_asked, passed, sent_up, below_of, closing, unless_failing, above_of, shut_by, member_change, failing_turn, turn_change, takes_next, pending_at, member_down, member_up, ready_change, setup_change, failing_write, write_request, breaking, read_change, failing_read, read_request, piece_as, serve_change, recovery_change, failing_recovery, recovery_request, first_message, next_recovery, lower_down, lower_ready, mirror_up}
use Rattle.play_model.specs.World.Events.{changed, outcome, after_event, happens, upper_up, up_as, down_as}
use Rattle.play_model.proofs.WorldLaws.FactTables.{if-each, when-each}
use Rattle.play_model.proofs.WorldLaws.GrowthLaws.{apply-grows}
use Rattle.play_model.proofs.WorldLaws.StampGivens.{put-there}
use Rattle.world_orders.specs.Orders.{Ordered, IsMirror, MirrorIs}
use Rattle.play_nodes.specs.Elsewhere.{SameConn, KeepsElsewhere}
use Rattle.play_nodes.specs.Showing.{is_pipeline, IsOfPipeline}
use Rattle.play_nodes.proofs.PipelineDials.{OfPipelines, members_dial, fresh_dial}
use Rattle.play_nodes.proofs.ReadyNodes.{served_within}
use Rattle.play_nodes.proofs.TakeNodes.{writes_pipeline}
use Rattle.play_nodes.proofs.WriterFrames.{put_same}

true_false : (b : Bool) → b ≡ true → b ≡ false → ⊥
true_false b x y = cc

-- CHANGES

-- A change leaves readers, primaries and these connections as they are, and what it dials is of pipelines.
pub record IsApart (w : World) (p : ℕ → Type 0) (k : Change) : Type 0 where
  pub dials : OfPipelines k.dials
  pub reader : k.reader ≡ w.readers k.reader_at
  pub primary : k.primary ≡ w.primaries k.primary_at
  pub lower : (e : ℕ) → p e → e ≡ k.lower_at → k.lower ≡ w.lowers k.lower_at
  pub downs : (e : ℕ) → p e → k.downs e ≡ []
  pub ups : (e : ℕ) → p e → k.ups e ≡ []
  pub shuts : (e : ℕ) → p e → k.shuts e ≡ false

-- An event leaves them so, and starts and stops no node.
pub record StepKeeps (w v : World) (p : ℕ → Type 0) : Type 0 where
  pub readers : (n : ℕ) → v.readers n ≡ w.readers n
  pub primaries : (n : ℕ) → v.primaries n ≡ w.primaries n
  pub running : (n : ℕ) → v.running n ≡ w.running n
  pub lives : (n : ℕ) → v.lives n ≡ w.lives n
  pub grows : w.next_conn ≤ v.next_conn
  pub dialled : (c : ℕ) → c < w.next_conn → v.dialled c ≡ w.dialled c
  pub fresh : (c : ℕ) → w.next_conn ≤ c → c < v.next_conn → is_pipeline (v.dialled c).upper ≡ true
  pub conn : (e : ℕ) → p e → SameConn w v e

still_same : (w : World) (e : ℕ) → SameConn w w e
still_same w e = record { lower = refl; downs = refl; ups = refl; down_marks = refl; up_marks = refl }

same_then : (w u v : World) (e : ℕ) → SameConn w u e → SameConn u v e → SameConn w v e
same_then w u v e h k = record {
  lower = k.lower ∙ h.lower;
  downs = k.downs ∙ h.downs;
  ups = k.ups ∙ h.ups;
  down_marks = k.down_marks ∙ h.down_marks;
  up_marks = k.up_marks ∙ h.up_marks;
}

same_named : (w v : World) (e : ℕ) (x : happening.Event) → SameConn w v e → SameConn w (record v { last = Some x }) e
same_named w v e x h = record { lower = h.lower; downs = h.downs; ups = h.ups; down_marks = h.down_marks; up_marks = h.up_marks }

none_between : {P : Type 0} (n c : ℕ) → n ≤ c → c < n → P
none_between n c le lt = absurd (clash le lt)
  where
    clash : n ≤ c → c < n → ⊥
    clash le lt = omega (arith, le, lt)

pub still_kept : (w : World) (p : ℕ → Type 0) → StepKeeps w w p
still_kept w p = record {
  readers = λ n. refl;
  primaries = λ n. refl;
  running = λ n. refl;
  lives = λ n. refl;
  grows = omega arith;
  dialled = λ c before. refl;
  fresh = λ c le lt. none_between w.next_conn c le lt;
  conn = λ e at. still_same w e;
}

no_less : (a b c : ℕ) → a ≤ b → b ≤ c → a ≤ c
no_less a b c h k = omega arith

pub later : (a b c : ℕ) → a < b → b ≤ c → a < c
later a b c h k = omega arith

fresh_then : (w u v : World) (p : ℕ → Type 0) → StepKeeps w u p → StepKeeps u v p → (c : ℕ) → w.next_conn ≤ c → c < v.next_conn → is_pipeline (v.dialled c).upper ≡ true
fresh_then w u v p h k c le lt = elim (cases_lt c u.next_conn) [
  | inl before ↦ ap (λ (d : Dialled). is_pipeline d.upper) (k.dialled c before) ∙ h.fresh c le before
  | inr from ↦ k.fresh c from lt
]

pub kept_then : (w u v : World) (p : ℕ → Type 0) → StepKeeps w u p → StepKeeps u v p → StepKeeps w v p
kept_then w u v p h k = record {
  readers = λ n. k.readers n ∙ h.readers n;
  primaries = λ n. k.primaries n ∙ h.primaries n;
  running = λ n. k.running n ∙ h.running n;
  lives = λ n. k.lives n ∙ h.lives n;
  grows = no_less w.next_conn u.next_conn v.next_conn h.grows k.grows;
  dialled = λ c before. k.dialled c (later c w.next_conn u.next_conn before h.grows) ∙ h.dialled c before;
  fresh = fresh_then w u v p h k;
  conn = λ e at. same_then w u v e (h.conn e at) (k.conn e at);
}

named : (w v : World) (p : ℕ → Type 0) (x : happening.Event) → StepKeeps w v p → StepKeeps w (record v { last = Some x }) p
named w v p x h = record {
  readers = h.readers;
  primaries = h.primaries;
  running = h.running;
  lives = h.lives;
  grows = h.grows;
  dialled = h.dialled;
  fresh = h.fresh;
  conn = λ e at. same_named w v e x (h.conn e at);
}

-- no connection that was there is new
old_dial : (next e : ℕ) (dials : List Dial) → e < next → dial_at next dials e ≡ None
old_dial next e dials before = if-each (λ (o : Option Dial). o ≡ None) (nat_le next e) (slice_get dials (e - next)) None (λ past. absurd (never past)) (λ _. refl)
  where
    never : nat_le next e ≡ true → ⊥
    never past = true_false (nat_le next e) past (grind (arith, nat_tests, before))

more_downs : (xs ys : List Message) (o : Option Dial) → ys ≡ [] → o ≡ None → (xs ++ ys) ++ listed (option_map (λ (d : Dial). d.request) o) ≡ xs
more_downs xs ys o none old = (λ j. (xs ++ none j) ++ listed (option_map (λ (d : Dial). d.request) (old j))) ∙ (append-nil (xs ++ []) ∙ append-nil xs)

same_marks : (b : Bool) (sent : List Message) (k : Marks) → b ≡ false → (if b then shut_marks sent k else k) ≡ k
same_marks true sent k h = cc
same_marks false sent k h = refl

conn_kept : (w : World) (p : ℕ → Type 0) (k : Change) (e : ℕ) → e < w.next_conn → p e → IsApart w p k → SameConn w (apply w k) e
unfolding apply
conn_kept w p k e before at h = record {
  lower = if-each (λ (l : Lower). l ≡ w.lowers e) (e == k.lower_at) k.lower (w.lowers e)
      (λ q. let same : e ≡ k.lower_at = eqb-true e k.lower_at q in h.lower e at same ∙ ap w.lowers (sym same)) (λ _. refl);
  downs = more_downs (w.downs e) (k.downs e) (dial_at w.next_conn k.dials e) (h.downs e at) (old_dial w.next_conn e k.dials before);
  ups = ap (λ (ms : List Message). w.ups e ++ ms) (h.ups e at) ∙ append-nil (w.ups e);
  down_marks = same_marks (k.shuts e) (downs_with w k e) (w.down_marks e) (h.shuts e at);
  up_marks = same_marks (k.shuts e) (ups_with w k e) (w.up_marks e) (h.shuts e at);
}

change_kept : (w : World) (p : ℕ → Type 0) (k : Change) → ((e : ℕ) → p e → e < w.next_conn) → IsApart w p k → StepKeeps w (apply w k) p
unfolding apply
change_kept w p k before h = record {
  readers = λ n. put_same w.readers k.reader_at k.reader n h.reader;
  primaries = λ n. put_same w.primaries k.primary_at k.primary n h.primary;
  running = λ n. refl;
  lives = λ n. refl;
  grows = omega arith;
  dialled = λ c old. (apply-grows w k).dialled c old;
  fresh = λ c le lt. fresh_dial w k c h.dials le lt;
  conn = λ e at. conn_kept w p k e (before e at) at h;
}

-- WHAT IS SENT AND SHUT ELSEWHERE

-- another connection, if there is one
abbrev pub IsOther : ℕ → Option ℕ → Type 0
IsOther e conn = IfSome conn (λ d. e ≡ d → ⊥)

-- so it is for each of these
abbrev pub AreOther : (ℕ → Type 0) → Option ℕ → Type 0
AreOther p conn = (e : ℕ) → p e → IsOther e conn

not_same : (a b : ℕ) → (a ≡ b → ⊥) → (a == b) ≡ false
not_same a b apart = by (a == b) refl
  where
    by : (q : Bool) → (a == b) ≡ q → q ≡ false
    by true q = absurd (apart (eqb-true a b q))
    by false q = refl

pub sent_else : (e : ℕ) (conn : Option ℕ) (ms : List Message) → IsOther e conn → sent_on conn ms e ≡ []
sent_else e None ms apart = refl
sent_else e (Some d) ms apart = ap (λ (q : Bool). if q then ms else []) (not_same e d apart)

pub not_conn : (e : ℕ) (conn : Option ℕ) → IsOther e conn → is_conn conn e ≡ false
not_conn e None apart = refl
not_conn e (Some d) apart = not_same e d apart

neither : (a b : Bool) → a ≡ false → b ≡ false → (a || b) ≡ false
neither true b x y = cc
neither false b x y = y

not_shut : (e c : ℕ) (mirror : Option ℕ) (s : Shuts) → (e ≡ c → ⊥) → IsOther e mirror → shut_by s c mirror e ≡ false
not_shut e c mirror shuts.Nothing apart other = refl
not_shut e c mirror shuts.Mirror apart other = not_conn e mirror other
not_shut e c mirror shuts.Both apart other = neither (is_conn (Some c) e) (is_conn mirror e) (not_same e c apart) (not_conn e mirror other)

-- WHAT THE LOWER ENDS CHANGE

-- The connection to a member's mirror, if it has one, is another one.
abbrev MirrorIsOther : (ℕ → Type 0) → Lower → Type 0
MirrorIsOther p (writes m) = AreOther p m.mirror
MirrorIsOther p other = Unit {0}

module _ (w : World) (p : ℕ → Type 0) (c : ℕ) (apart : (e : ℕ) → p e → e ≡ c → ⊥) where
  abbrev IfApart : Option Change → Type 0
  IfApart o = IfSome o (IsApart w p)

  closing_of : IsApart w p (closing w c)
  closing_of = record { dials = tt; reader = refl; primary = refl; lower = λ e at same. absurd (apart e at same); downs = λ e at. refl; ups = λ e at. refl; shuts = λ e at. not_same e c (apart e at) }

  unless_of : (fails : Bool) → IfApart (unless_failing fails (closing w c))
  unless_of true = tt
  unless_of false = closing_of

  -- MEMBERS

  member_of : (m : FullMember) (x : Next) (s : Step) (b : Option Break) → AreOther p m.mirror → IsApart w p (member_change w c m x s b)
  member_of m x s b other = record {
    dials = tt;
    reader = refl;
    primary = refl;
    lower = λ e at same. absurd (apart e at same);
    downs = λ e at. sent_else e m.mirror (passed s.effect.forwards x) (other e at);
    ups = λ e at. sent_else e (Some c) (sent_up m.fields s.effect.sends) (apart e at);
    shuts = λ e at. not_shut e c m.mirror s.effect.shuts (apart e at) (other e at);
  }

  failing_of : (m : FullMember) (x : Next) (t : Turn) (o : Option ReplicaEvent) → AreOther p m.mirror → IfApart (failing_turn w c m x t o)
  failing_of m x t None other = tt
  failing_of m x t (Some e) other = member_of m x (faulted_step m.state (replica_at w c (block_of m.fields)) t) (broke_at w c (block_of m.fields) e) other

  turn_of : (m : FullMember) (x : Next) (t : Turn) (fails : Bool) → AreOther p m.mirror → IfApart (turn_change w c m x t fails)
  turn_of m x t true other = failing_of m x t t.call other
  turn_of m x t false other = member_of m x (step m.state (replica_at w c (block_of m.fields)) t) (w.breaks (node_of w c) (block_of m.fields)) other

  member_down_of : (m : FullMember) (x : Next) (fails : Bool) → AreOther p m.mirror → IfApart (member_down w c m x fails)
  member_down_of m x fails other = when-each (IsApart w p) (takes_next m.state (pending_at w c m) x) _ (λ _. turn_of m x (down_turn m.state (above_of x)) fails other)

  member_up_of : (m : FullMember) (x : Next) (fails : Bool) → AreOther p m.mirror → IfApart (member_up w c m x fails)
  member_up_of m x fails other = when-each (IsApart w p) (hears m.state) _ (λ _. turn_of m x (up_turn m.state (oldest_at (replica_at w c (block_of m.fields))) (below_of x)) fails other)

  ready_of : (m : FullMember) (o : Option Turn) (fails : Bool) → AreOther p m.mirror → IfApart (ready_change w c m o fails)
  ready_of m None fails other = tt
  ready_of m (Some t) fails other = turn_of m the_end t fails other

  -- WRITE REQUESTS

  setup_of : (f : WriteFields) (s : Setup) (b : Option Break) → IsApart w p (setup_change w c f s b)
  setup_of f s b = record {
    dials = members_dial s.member w c f;
    reader = refl;
    primary = refl;
    lower = λ e at same. absurd (apart e at same);
    downs = λ e at. refl;
    ups = λ e at. sent_else e (Some c) (sent_up f s.effect.sends) (apart e at);
    shuts = λ e at. not_shut e c None s.effect.shuts (apart e at) tt;
  }

  failing_write_of : (f : WriteFields) (e : Result Event RequestRefusal) → IfApart (failing_write w c f e)
  failing_write_of f (Err e) = tt
  failing_write_of f (Ok e) = setup_of f (faulted_request (replica_at w c (block_of f))) (broke_at w c (block_of f) (replica_event.Other e))

  write_of : (f : WriteFields) (answered fails : Bool) → IfApart (write_request w c f answered fails)
  write_of f answered true = failing_write_of f (request_event (record { 0 = c }) f (rule_in (replica_at w c (block_of f)).known))
  write_of f answered false =
      setup_of f (request_step (record { 0 = c }) f (is_asked w c f answered) (replica_at w c (block_of f))) (w.breaks (node_of w c) (block_of f))

  -- READS

  breaking_of : (b : ℕ) (r : FullReplica) (e : ReplicaEvent) (ms : List Message) → IsApart w p (breaking w c b r e ms)
  breaking_of b r e ms = record { dials = tt; reader = refl; primary = refl; lower = λ e at same. absurd (apart e at same); downs = λ e at. refl; ups = λ e at. sent_else e (Some c) ms (apart e at); shuts = λ e at. not_same e c (apart e at) }

  read_of : (b : ℕ) (o : Result ServingState RequestRefusal) → IsApart w p (read_change w c b o)
  read_of b (Ok s) = record { dials = tt; reader = refl; primary = refl; lower = λ e at same. absurd (apart e at same); downs = λ e at. refl; ups = λ e at. sent_else e (Some c) (response (accepting s) ∷ []) (apart e at); shuts = λ e at. refl }
  read_of b (Err r) = record { dials = tt; reader = refl; primary = refl; lower = λ e at same. absurd (apart e at same); downs = λ e at. refl; ups = λ e at. sent_else e (Some c) (response (refusing r) ∷ []) (apart e at); shuts = λ e at. not_same e c (apart e at) }

  failing_read_of : (b : ℕ) (e : Result Event RequestRefusal) → IfApart (failing_read w c b e)
  failing_read_of b (Err r) = tt
  failing_read_of b (Ok e) = let x = faulted_read (replica_at w c b) in breaking_of b x.0 (replica_event.Other e) (response (refusing x.1) ∷ [])

  read_request_of : (r : ReadOp) (fails : Bool) → IfApart (read_request w c r fails)
  read_request_of r true = failing_read_of r.block.block.0 (read_event r)
  read_request_of r false = read_of r.block.block.0 (read_at r (replica_at w c r.block.block.0))

  piece_of : (b : ℕ) (s : ServingState) (o : Option Packet) → IsApart w p (piece_as w c b s o)
  piece_of b s None = closing_of
  piece_of b s (Some q) = record { dials = tt; reader = refl; primary = refl; lower = λ e at same. absurd (apart e at same); downs = λ e at. refl; ups = λ e at. sent_else e (Some c) (packet q ∷ []) (apart e at); shuts = λ e at. refl }

  serve_of : (b : ℕ) (s : ServingState) (o : Option Event) (fails : Bool) → IfApart (serve_change w c b s o fails)
  serve_of b s None fails = tt
  serve_of b s (Some e) true = breaking_of b (faulted_piece s (replica_at w c b)).0 (replica_event.Other e) []
  serve_of b s (Some e) false = piece_of b (piece_at s (replica_at w c b)).serving (piece_at s (replica_at w c b)).packet

  -- RECOVERIES

  recovery_of : (r : RecoveryOp) (s : Served) (b : Option Break) → IsApart w p (recovery_change w c r s b)
  recovery_of r s b = record { dials = tt; reader = refl; primary = refl; lower = λ e at same. absurd (apart e at same); downs = λ e at. refl; ups = λ e at. sent_else e (Some c) (recovery_answer (answer_of s.reply) ∷ []) (apart e at); shuts = λ e at. refl }

  failing_recovery_of : (r : RecoveryOp) (e : Result Event RecoveryReply) → IfApart (failing_recovery w c r e)
  failing_recovery_of r (Err said) = tt
  failing_recovery_of r (Ok e) = recovery_of r (serve_faulted (replica_at w c r.block.block.0)) (broke_at w c r.block.block.0 (replica_event.Other e))

  recovery_request_of : (r : RecoveryOp) (fails : Bool) → IfApart (recovery_request w c r fails)
  recovery_request_of r true = failing_recovery_of r (recovery_event r)
  recovery_request_of r false = recovery_of r (serve (replica_at w c r.block.block.0) r) (w.breaks (node_of w c) r.block.block.0)

  -- THE LOWER END

  first_of : (m : Message) (answered fails : Bool) → IfApart (first_message w c m answered fails)
  first_of (request (op.Write f)) answered fails = write_of f answered fails
  first_of (request (op.Read r)) answered fails = read_request_of r fails
  first_of (request (op.Recovery r)) answered fails = recovery_request_of r fails
  first_of (request (op.Transfer r)) answered fails = unless_of fails
  first_of (request (op.Checksum r)) answered fails = unless_of fails
  first_of (packet q) answered fails = unless_of fails
  first_of (ack a) answered fails = unless_of fails
  first_of (response r) answered fails = unless_of fails
  first_of (read_status s) answered fails = unless_of fails
  first_of (recovery_answer a) answered fails = unless_of fails

  next_of : (x : Next) (fails : Bool) → IfApart (next_recovery w c x fails)
  next_of (message (request (op.Recovery r))) fails = recovery_request_of r fails
  next_of (message (request (op.Write f))) fails = unless_of fails
  next_of (message (request (op.Read r))) fails = unless_of fails
  next_of (message (request (op.Transfer r))) fails = unless_of fails
  next_of (message (request (op.Checksum r))) fails = unless_of fails
  next_of (message (packet q)) fails = unless_of fails
  next_of (message (ack a)) fails = unless_of fails
  next_of (message (response r)) fails = unless_of fails
  next_of (message (read_status s)) fails = unless_of fails
  next_of (message (recovery_answer a)) fails = unless_of fails
  next_of the_end fails = unless_of fails

  down_of : (l : Lower) (x : Next) (answered fails : Bool) → MirrorIsOther p l → IfApart (lower_down l w c x answered fails)
  down_of idle (message m) answered fails other = first_of m answered fails
  down_of idle the_end answered fails other = unless_of fails
  down_of (writes m) x answered fails other = member_down_of m x fails other
  down_of (serves b s) x answered fails other = unless_of fails
  down_of recovers x answered fails other = next_of x fails
  down_of ended_below x answered fails other = tt

  lower_ready_of : (l : Lower) (fails : Bool) → MirrorIsOther p l → IfApart (lower_ready l w c fails)
  lower_ready_of idle fails other = tt
  lower_ready_of (writes m) fails other = ready_of m (ready_turn_at m.state (replica_at w c (block_of m.fields))) fails other
  lower_ready_of (serves b s) fails other = serve_of b s (next_call s) fails
  lower_ready_of recovers fails other = tt
  lower_ready_of ended_below fails other = tt

  mirror_of : (l : Lower) (x : Next) (fails : Bool) → MirrorIsOther p l → IfApart (mirror_up l w c x fails)
  mirror_of idle x fails other = tt
  mirror_of (writes m) x fails other = when-each (IsApart w p) (is_alive w (w.dialled c).to) _ (λ _. member_up_of m x fails other)
  mirror_of (serves b s) x fails other = tt
  mirror_of recovers x fails other = tt
  mirror_of ended_below x fails other = tt

-- AFTER EVENTS

pub changed_kept : (w u : World) (p : ℕ → Type 0) (o : Option Change) → ((e : ℕ) → p e → e < u.next_conn) → StepKeeps w u p → IfSome o (IsApart u p) → IfSome (changed u o) (λ v. StepKeeps w v p)
changed_kept w u p None before h k = tt
changed_kept w u p (Some x) before h k = kept_then w u (apply u x) p h (change_kept u p x before k)

pub after_kept : (w : World) (p : ℕ → Type 0) (x : happening.Event) (o : Option World) → IfSome o (λ v. StepKeeps w v p) → StepKeeps w (after_event w x o) p
after_kept w p x None h = still_kept w p
after_kept w p x (Some v) h = named w v p x h

down_taken_kept : (w : World) (p : ℕ → Type 0) (c : ℕ) (x : Next) → ((e : ℕ) → p e → e ≡ c → ⊥) → StepKeeps w (down_taken w c x) p
unfolding down_taken
down_taken_kept w p c x apart = record {
  readers = λ n. refl;
  primaries = λ n. refl;
  running = λ n. refl;
  lives = λ n. refl;
  grows = omega arith;
  dialled = λ d before. refl;
  fresh = λ d le lt. none_between w.next_conn d le lt;
  conn = λ e at. record { lower = refl; downs = refl; ups = refl; down_marks = put-there w.down_marks c (marks_taken (w.down_marks c) x) e (apart e at); up_marks = refl };
}

pub up_taken_kept : (w : World) (p : ℕ → Type 0) (c : ℕ) (x : Next) → ((e : ℕ) → p e → e ≡ c → ⊥) → StepKeeps w (up_taken w c x) p
unfolding up_taken
up_taken_kept w p c x apart = record {
  readers = λ n. refl;
  primaries = λ n. refl;
  running = λ n. refl;
  lives = λ n. refl;
  grows = omega arith;
  dialled = λ d before. refl;
  fresh = λ d le lt. none_between w.next_conn d le lt;
  conn = λ e at. record { lower = refl; downs = refl; ups = refl; down_marks = refl; up_marks = put-there w.up_marks c (marks_taken (w.up_marks c) x) e (apart e at) };
}

within_down : (w : World) (e c : ℕ) (x : Next) → e < w.next_conn → e < (down_taken w c x).next_conn
unfolding down_taken
within_down w e c x before = before

pub within_up : (w : World) (e c : ℕ) (x : Next) → e < w.next_conn → e < (up_taken w c x).next_conn
unfolding up_taken
within_up w e c x before = before

-- The connections that are none of a pipeline.
abbrev pub IsElse : World → ℕ → Type 0
IsElse w e = (e < w.next_conn) × (is_pipeline (w.dialled e).upper ≡ false)

module _ (w : World) (ordered : Ordered w) where
  -- a connection of a pipeline is another one
  pub other_conn : (c : ℕ) → is_pipeline (w.dialled c).upper ≡ true → (e : ℕ) → IsElse w e → e ≡ c → ⊥
  other_conn c of e at same = true_false (is_pipeline (w.dialled c).upper) of (ap (λ (n : ℕ). is_pipeline (w.dialled n).upper) (sym same) ∙ at.1)

  mirror_so : (c : ℕ) (state : MemberState) (mirror : Option ℕ) → IfSome mirror (λ d. IsMirror (w.dialled d) (w.up_marks d).taken c d state) → AreOther (IsElse w) mirror
  mirror_so c state None h e at = tt
  mirror_so c state (Some d) h e at = other_conn d (ap is_pipeline h.upper) e at

  mirror_by : (c : ℕ) (l : Lower) → MirrorIs w.dialled w.up_marks c l → MirrorIsOther (IsElse w) l
  mirror_by c (writes m) h = mirror_so c m.state m.mirror h
  mirror_by c idle h = tt
  mirror_by c (serves b s) h = tt
  mirror_by c recovers h = tt
  mirror_by c ended_below h = tt

  -- DOWN

  down_next : (c : ℕ) (answered fails : Bool) (o : Option Next) → is_pipeline (w.dialled c).upper ≡ true → IfSome (down_as w c answered fails o) (λ v. StepKeeps w v (IsElse w))
  down_next c answered fails None of = tt
  down_next c answered fails (Some x) of =
      changed_kept w (down_taken w c x) (IsElse w) (lower_down (w.lowers c) (down_taken w c x) c x answered fails) (λ e at. within_down w e c x at.0) (down_taken_kept w (IsElse w) c x (other_conn c of))
      (down_of (down_taken w c x) (IsElse w) c (other_conn c of) (w.lowers c) x answered fails (mirror_by c (w.lowers c) (ordered.mirrors c)))

  down_kept : (conn : ConnId) (answered : Bool) → IsOfPipeline w conn.0 → StepKeeps w (happens w (event.Down conn answered)) (IsElse w)
  unfolding happens outcome
  down_kept conn answered of =
      after_kept w (IsElse w) (event.Down conn answered) (outcome w (event.Down conn answered))
      (when-each (λ v. StepKeeps w v (IsElse w)) (is_served w conn.0) (down_as w conn.0 answered false (next_down w conn.0))
      (λ served. down_next conn.0 answered false (next_down w conn.0) (of (served_within w conn.0 served))))

  -- the same where a call on files fails
  fault_kept : (conn : ConnId) → IsOfPipeline w conn.0 → StepKeeps w (happens w (event.Fault (delivery.Down conn))) (IsElse w)
  unfolding happens outcome
  fault_kept conn of =
      after_kept w (IsElse w) (event.Fault (delivery.Down conn)) (outcome w (event.Fault (delivery.Down conn)))
      (when-each (λ v. StepKeeps w v (IsElse w)) (is_served w conn.0) (down_as w conn.0 false true (next_down w conn.0))
      (λ served. down_next conn.0 false true (next_down w conn.0) (of (served_within w conn.0 served))))

  -- WITHOUT A MESSAGE

  ready_kept : (conn : ConnId) → IsOfPipeline w conn.0 → StepKeeps w (happens w (event.Ready conn)) (IsElse w)
  unfolding happens outcome
  ready_kept conn of =
      after_kept w (IsElse w) (event.Ready conn) (outcome w (event.Ready conn))
      (when-each (λ v. StepKeeps w v (IsElse w)) (is_served w conn.0) (changed w (lower_ready (w.lowers conn.0) w conn.0 false))
      (λ served. changed_kept w w (IsElse w) (lower_ready (w.lowers conn.0) w conn.0 false) (λ e at. at.0) (still_kept w (IsElse w))
      (lower_ready_of w (IsElse w) conn.0 (other_conn conn.0 (of (served_within w conn.0 served))) (w.lowers conn.0) false (mirror_by conn.0 (w.lowers conn.0) (ordered.mirrors conn.0)))))

  -- FROM A MIRROR

  -- a member stands on a connection of a pipeline
  mirror_else : (w1 : World) (d : ℕ) (l : Lower) (x : Next) → l ≡ w.lowers d → MirrorIsOther (IsElse w) l → IfSome (mirror_up l w1 d x false) (IsApart w1 (IsElse w))
  mirror_else w1 d (writes m) x is other = mirror_of w1 (IsElse w) d (other_conn d (writes_pipeline w d m ordered (sym is))) (writes m) x false other
  mirror_else w1 d idle x is other = tt
  mirror_else w1 d (serves b s) x is other = tt
  mirror_else w1 d recovers x is other = tt
  mirror_else w1 d ended_below x is other = tt

  up_so : (c d : ℕ) (u : Upper) (x : Next) → u ≡ by_member d → ((e : ℕ) → IsElse w e → e ≡ c → ⊥) → IfSome (changed (up_taken w c x) (upper_up u (up_taken w c x) c x false)) (λ v. StepKeeps w v (IsElse w))
  unfolding up_taken
  up_so c d u x is apart =
      subst (λ (z : Upper). IfSome (changed (up_taken w c x) (upper_up z (up_taken w c x) c x false)) (λ v. StepKeeps w v (IsElse w))) (sym is)
      (changed_kept w (up_taken w c x) (IsElse w) (mirror_up (w.lowers d) (up_taken w c x) d x false) (λ e at. within_up w e c x at.0) (up_taken_kept w (IsElse w) c x apart)
      (mirror_else (up_taken w c x) d (w.lowers d) x refl (mirror_by d (w.lowers d) (ordered.mirrors d))))

  up_next : (c d : ℕ) (o : Option Next) → (w.dialled c).upper ≡ by_member d → IfSome (up_as w c false o) (λ v. StepKeeps w v (IsElse w))
  up_next c d None is = tt
  up_next c d (Some x) is = up_so c d (w.dialled c).upper x is (other_conn c (ap is_pipeline is))

  up_kept : (conn : ConnId) (d : ℕ) → (w.dialled conn.0).upper ≡ by_member d → StepKeeps w (happens w (event.Up conn)) (IsElse w)
  unfolding happens outcome
  up_kept conn d is =
      after_kept w (IsElse w) (event.Up conn) (outcome w (event.Up conn))
      (when-each (λ v. StepKeeps w v (IsElse w)) (nat_lt conn.0 w.next_conn) (up_as w conn.0 false (next_up w conn.0)) (λ _. up_next conn.0 d (next_up w conn.0) is))

pub all_kept : (w v : World) → StepKeeps w v (IsElse w) → KeepsElsewhere w v
all_kept w v h = record {
  readers = h.readers;
  primaries = h.primaries;
  running = h.running;
  lives = h.lives;
  grows = h.grows;
  dialled = h.dialled;
  fresh = h.fresh;
  conns = λ c within away. h.conn c (within, away);
}

pub down_leaves : (w : World) (conn : ConnId) (answered : Bool) → Ordered w → IsOfPipeline w conn.0 → KeepsElsewhere w (happens w (event.Down conn answered))
down_leaves w conn answered ordered of = all_kept w (happens w (event.Down conn answered)) (down_kept w ordered conn answered of)

pub fault_leaves : (w : World) (conn : ConnId) → Ordered w → IsOfPipeline w conn.0 → KeepsElsewhere w (happens w (event.Fault (delivery.Down conn)))
fault_leaves w conn ordered of = all_kept w (happens w (event.Fault (delivery.Down conn))) (fault_kept w ordered conn of)

pub ready_leaves : (w : World) (conn : ConnId) → Ordered w → IsOfPipeline w conn.0 → KeepsElsewhere w (happens w (event.Ready conn))
ready_leaves w conn ordered of = all_kept w (happens w (event.Ready conn)) (ready_kept w ordered conn of)

pub mirror_leaves : (w : World) (conn : ConnId) (d : ℕ) → Ordered w → (w.dialled conn.0).upper ≡ by_member d → KeepsElsewhere w (happens w (event.Up conn))
mirror_leaves w conn d ordered is = all_kept w (happens w (event.Up conn)) (up_kept w ordered conn d is)
