-- What lower ends leave of connections on which nothing behind the request was sent down.
use Rattle.std.proofs.Common.{◌≡◌, ℕ, ◌<◌, ◌≤◌, ◌⊎◌, inl, inr, ◌/◌, Bool, true, false, List, [], ◌∷◌, ◌++◌, length, Option, Some, None, IfSome, Result, Ok, Err, append-nil, refl, sym, ◌∙◌, ap, subst, arith, eqb-true}
use Rattle.std.specs.Prelude.{◌==◌, nat_le, if◌then◌else◌}
use Rattle.std.proofs.lemmas.Bool.{false≢true}
use Rattle.hd_base.specs.Results.{◌>>=◌}
use Rattle.hd_base.specs.declared.numbers.ConnId.{ConnId}
use Rattle.hd_base.specs.SumRules.{Rule}
use Rattle.packet_codec.specs.declared.packets.Packet.{Packet}
use Rattle.op_headers.specs.declared.ops.Op.TheVariants as op
use Rattle.op_headers.specs.declared.ops.ReadOp.{ReadOp}
use Rattle.op_headers.specs.declared.ops.RecoveryKind.{RecoveryKind}
use Rattle.op_headers.specs.declared.ops.RecoveryKind.TheVariants as recovery_kind
use Rattle.op_headers.specs.declared.ops.RecoveryOp.{RecoveryOp}
use Rattle.op_headers.specs.Values.{WriteFields}
use Rattle.replica_core.specs.declared.events.Event.{Event}
use Rattle.replica_core.specs.declared.events.Event.TheVariants as event
use Rattle.replica_core.specs.Views.{rule_in}
use Rattle.replica_model.specs.declared.events.ReplicaEvent.{ReplicaEvent}
use Rattle.replica_model.specs.declared.events.ReplicaEvent.TheVariants as replica_event
use Rattle.replica_model.specs.Rows.{FullReplica, row, row_answer, bad_under}
use Rattle.request_refusals.specs.declared.refusals.RequestRefusal.{RequestRefusal}
use Rattle.request_refusals.specs.declared.refusals.RequestRefusal.TheVariants as refusal
use Rattle.request_refusals.specs.Pools.{is_in_pool}
use Rattle.member_core.specs.declared.effects.Upward.{Upward}
use Rattle.member_core.specs.declared.inputs.FromAbove.TheVariants as above
use Rattle.member_core.specs.declared.member.Mirror.{Mirror}
use Rattle.member_core.specs.declared.member.Mirror.TheVariants as mirror
use Rattle.member_core.specs.declared.requests.SetupKind.{SetupKind}
use Rattle.member_core.specs.declared.requests.SetupKind.TheVariants as kind
use Rattle.member_core.specs.declared.requests.TheConstants.{MAX_BELOW}
use Rattle.member_core.specs.declared.turns.Booked.TheVariants as booked
use Rattle.member_core.specs.declared.turns.Turn.{Turn}
use Rattle.member_core.specs.Members.{MemberState, is_waiting, down_turn, up_turn, hears, set_up, set_up_at, mirror_for}
use Rattle.member_core.specs.Requests.{check, request_event, setup_event, setup_with, named_setup, named_rule, rule_for}
use Rattle.member_core.specs.Steps.{Step, Setup, step, faulted_step, outcome_of, oldest_at, ready_turn_at, request_step, request_at, booked_request, refused_by, faulted_request}
use Rattle.world.specs.ReadCore.Servings.{ServingState, accepting, refusing, faulted_read, faulted_piece, next_call, piece_at, read_at, read_event}
use Rattle.recovery_core.specs.declared.members.RecoveryReply.{RecoveryReply}
use Rattle.recovery_core.specs.declared.members.RecoveryReply.TheVariants as reply
use Rattle.recovery_core.specs.Members.{Served, no_recovery, step_event, recovery_event, answer_of, served_as, serve, serve_faulted}
use Rattle.world.specs.Parts.{Message, request, packet, ack, response, read_status, recovery_answer, by_writer, by_member, FullMember, Lower, idle, writes, serves, recovers, ended_below, Break}
use Rattle.world.specs.Worlds.{World}
use Rattle.world.specs.Connections.{Next, message, the_end, sent_on, is_alive}
use Rattle.world.specs.Nodes.{replica_at, node_of, block_of, is_asked, above_of, below_of, closing, unless_failing, sent_up, passed, member_change, failing_turn, turn_change, takes_next, pending_at, member_down, member_up, ready_change, lower_of, setup_change, failing_write, write_request, breaking, read_change, failing_read, read_request, piece_as, serve_change, recovery_change, failing_recovery, recovery_request, first_message, next_recovery, lower_down, lower_ready, mirror_up}
use Rattle.play_model.proofs.WorldLaws.FactTables.{when-each}
use Rattle.world_orders.specs.Orders.{purpose_of, pipeline, reading, recovering, IsBelow, is_empty}
use Rattle.world_settling.specs.Traffic.{entries_by}
use Rattle.world_settling.proofs.Chains.{settled-conn}
use Rattle.world_settling.proofs.Rows.{IsPacket, other-calm, packet-others}
use Rattle.play_laws.proofs.Hushing.{KeepsNone, IsAt, IsPipe, Silent, Uppers, Mute, ends, says}
use Rattle.play_laws.proofs.Turns.{Kind, says_nothing, kind-hushes, fault-held, fault-bad, up-kind, ready-kind}

by-apart : (b d : ℕ) → by_writer b ≡ by_member d → ⊥
by-apart b d e = cc

sent-one : (f : WriteFields) (o : Option Upward) → length (sent_up f o) ≤ 1
sent-one f None = omega arith
sent-one f (Some a) = omega arith

none-sent : (ms : List Message) → is_empty ms ≡ true → ms ≡ []
none-sent [] e = refl
none-sent (m ∷ ms) e = absurd (false≢true e)

read-apart : reading ≡ pipeline → ⊥
read-apart e = cc

recover-apart : recovering ≡ pipeline → ⊥
recover-apart e = cc

-- WHICH EVENTS ARE NO PACKETS

abbrev NoPacket : Result Event RequestRefusal → Type 0
NoPacket (Ok e) = IsPacket e ≡ false
NoPacket (Err r) = Unit {0}

check-none : (b : Bool) (x : RequestRefusal) (o : Result Event RequestRefusal) → NoPacket o → NoPacket (check b x o)
check-none true x o h = h
check-none false x o h = tt

bind-none : {A : Type 0} (o : Result A RequestRefusal) (f : A → Result Event RequestRefusal) → ((x : A) → NoPacket (f x)) → NoPacket (o >>= f)
bind-none (Ok x) f h = h x
bind-none (Err e) f h = tt

event-none : (conn : ConnId) (f : WriteFields) (sums : Rule) (k : SetupKind) → IsPacket (setup_event conn f sums k) ≡ false
event-none conn f sums kind.Create = refl
event-none conn f sums kind.Append = refl
event-none conn f sums kind.AppendRecovery = refl
event-none conn f sums kind.StreamRecovery = refl
event-none conn f sums kind.CloseRecovery = refl

request-none : (conn : ConnId) (f : WriteFields) (held : Option Rule) → NoPacket (request_event conn f held)
unfolding request_event
request-none conn f held =
    check-none (is_in_pool f.block) refusal.Pool
    (named_setup f.stage (setup_with f.stage) >>= (λ k. named_rule f (rule_for f held) >>= (λ sums. check (nat_le (length f.targets) MAX_BELOW) (refusal.TooMany (length f.targets)) (Ok (setup_event conn f sums k)))))
    (bind-none (named_setup f.stage (setup_with f.stage)) (λ k. named_rule f (rule_for f held) >>= (λ sums. check (nat_le (length f.targets) MAX_BELOW) (refusal.TooMany (length f.targets)) (Ok (setup_event conn f sums k))))
    (λ k. bind-none (named_rule f (rule_for f held)) (λ sums. check (nat_le (length f.targets) MAX_BELOW) (refusal.TooMany (length f.targets)) (Ok (setup_event conn f sums k)))
    (λ sums. check-none (nat_le (length f.targets) MAX_BELOW) (refusal.TooMany (length f.targets)) (Ok (setup_event conn f sums k)) (event-none conn f sums k))))

served-held : (i : ℕ) (r : FullReplica) (x : RecoveryOp) → entries_by i (serve r x).replica.known ≤ entries_by i r.known
unfolding recovery_event
served-held i r x = at (is_in_pool x.block)
  where
    by-init : (t : Bool) → entries_by i (served_as r (if t then Err no_recovery else Ok (event.Init x.block.stamp x.recovery))).replica.known ≤ entries_by i r.known
    by-init true = omega arith
    by-init false = other-calm i r.known (event.Init x.block.stamp x.recovery) refl

    by-kind : (k : RecoveryKind) → entries_by i (served_as r (step_event k x)).replica.known ≤ entries_by i r.known
    by-kind recovery_kind.Begin = omega arith
    by-kind recovery_kind.Init = by-init (x.recovery.0 == 0)
    by-kind recovery_kind.Update = other-calm i r.known (event.Update x.recovery x.new_length) refl

    at : (t : Bool) → entries_by i (served_as r (if t then step_event x.kind x else Err (reply.Refused refusal.Pool))).replica.known ≤ entries_by i r.known
    at true = by-kind x.kind
    at false = omega arith

-- REQUESTS AT A REPLICA

abbrev IsNew : ℕ → MemberState → Type 0
IsNew d m = (m.bad ≡ None) × (m.conn.0 ≡ d)

-- a request makes nothing pending, and its member keeps no packet
record Sets (d : ℕ) (r : FullReplica) (s : Setup) : Type 0 where
  held : (i : ℕ) → entries_by i s.replica.known ≤ entries_by i r.known
  member : IfSome s.member (IsNew d)

set-up-new : (d : ℕ) (f : WriteFields) (asked : Bool) → IsNew d (set_up (record { 0 = d }) f asked).0
unfolding set_up
set-up-new d f asked = at (mirror_for (length f.targets) asked)
  where
    at : (z : Mirror) → IsNew d (set_up_at z f (record { 0 = d })).0
    at mirror.Nobody = (refl, refl)
    at mirror.Asked = (refl, refl)
    at mirror.Unreachable = (refl, refl)
    at mirror.Open = (refl, refl)
    at mirror.Ended = (refl, refl)

booked-sets : (d : ℕ) (f : WriteFields) (asked : Bool) (r x : FullReplica) (o : Option RequestRefusal) → ((i : ℕ) → entries_by i x.known ≤ entries_by i r.known) → Sets d r (booked_request (record { 0 = d }) f asked x o)
booked-sets d f asked r x None h = record { held = h; member = set-up-new d f asked }
booked-sets d f asked r x (Some e) h = record { held = h; member = tt }

request-at-sets : (d : ℕ) (f : WriteFields) (asked : Bool) (r : FullReplica) (o : Result Event RequestRefusal) → NoPacket o → Sets d r (request_at (record { 0 = d }) f asked r o)
request-at-sets d f asked r (Err e) n = record { held = λ i. omega arith; member = tt }
request-at-sets d f asked r (Ok e) n = booked-sets d f asked r (row r (replica_event.Other e)) (refused_by (row_answer r (replica_event.Other e))) (λ i. other-calm i r.known e n)

request-sets : (d : ℕ) (f : WriteFields) (asked : Bool) (r : FullReplica) → Sets d r (request_step (record { 0 = d }) f asked r)
request-sets d f asked r = request-at-sets d f asked r (request_event (record { 0 = d }) f (rule_in r.known)) (request-none (record { 0 = d }) f (rule_in r.known))

faulted-sets : (d : ℕ) (r : FullReplica) → Sets d r (faulted_request r)
faulted-sets d r = record { held = λ i. other-calm i r.known event.FileFault refl; member = tt }

module _ (w : World) (c : ℕ) (s : Silent w c) (u : Uppers w) where
  -- MEMBERS

  -- a connection that a member dialled is no writer's
  mirror-mute : (d : ℕ) (m : FullMember) (ms : List Message) (b : ℕ) (o : Option ℕ) → w.lowers d ≡ writes m → m.mirror ≡ o → (w.dialled c).upper ≡ by_writer b → sent_on o ms c ≡ []
  mirror-mute d m ms b None l e up = refl
  mirror-mute d m ms b (Some g) l e up = go (c == g) refl
    where
      go : (t : Bool) → (c == g) ≡ t → (if t then ms else []) ≡ []
      go true q = absurd (by-apart b d (sym up ∙ ap (λ (i : ℕ). (w.dialled i).upper) (eqb-true c g q) ∙ u.mirrors d g m l e))
      go false q = refl

  -- what is known of a member's step
  record Stepped (d : ℕ) (m : FullMember) (x : Step) : Type 0 where
    conn : x.member.conn ≡ m.state.conn
    held : entries_by c x.replica.known ≤ entries_by c (replica_at w d (block_of m.fields)).known
    bad : c ≡ d → x.member.bad ≡ None
    sends : c ≡ d → (x.effect.sends ≡ None) ⊎ (is_waiting m.state.mirror ≡ true)

  -- what is known of a member
  record Here (d : ℕ) (m : FullMember) : Type 0 where
    known : d < w.next_conn
    lower : w.lowers d ≡ writes m
    conn : m.state.conn.0 ≡ d
    waits : is_waiting m.state.mirror ≡ true → w.ups d ≡ []

  member-few : (d : ℕ) (m : FullMember) (x : Step) → Here d m → Stepped d m x → c ≡ d → IsPipe w c → length (w.ups c ++ sent_up m.fields x.effect.sends) ≤ 1
  member-few d m x h y e p = go (y.sends e)
    where
      lt : c < w.next_conn
      lt = omega (arith, e, h.known)

      go : (x.effect.sends ≡ None) ⊎ (is_waiting m.state.mirror ≡ true) → length (w.ups c ++ sent_up m.fields x.effect.sends) ≤ 1
      go (inl n) = subst (λ (o : Option Upward). length (w.ups c ++ sent_up m.fields o) ≤ 1) (sym n) (nothing-more lt)
        where
          nothing-more : c < w.next_conn → length (w.ups c ++ []) ≤ 1
          nothing-more l = rw (append-nil (w.ups c)) (s.few l p)
      go (inr q) = subst (λ (ms : List Message). length (ms ++ sent_up m.fields x.effect.sends) ≤ 1) (sym (ap w.ups e ∙ h.waits q)) (sent-one m.fields x.effect.sends)

  member-mute : (d : ℕ) (m : FullMember) (n : Next) (x : Step) (b : Option Break) → Here d m → Stepped d m x → Mute w c (member_change w d m n x b)
  member-mute d m n x b h y = record {
    hush = says w c s (member_change w d m n x b) (sent_up m.fields x.effect.sends) h.known refl (ap (λ (i : ConnId). i.0) y.conn ∙ h.conn) y.held y.bad (member-few d m x h y);
    downs = λ a up. mirror-mute d m (passed x.effect.forwards n) a m.mirror h.lower refl up;
  }

  bad-here : (d : ℕ) (m : FullMember) → Here d m → c ≡ d → m.state.bad ≡ None
  bad-here d m h e = subst KeepsNone (ap w.lowers e ∙ h.lower) s.bad

  faulted-stepped : (d : ℕ) (m : FullMember) (t : Turn) → Here d m → Stepped d m (faulted_step m.state (replica_at w d (block_of m.fields)) t)
  faulted-stepped d m t h = record {
    conn = settled-conn m.state t booked.Failed;
    held = fault-held c m.state (replica_at w d (block_of m.fields)) t;
    bad = λ e. fault-bad m.state (replica_at w d (block_of m.fields)) t ∙ bad-here d m h e;
    sends = λ e. inl refl;
  }

  kind-stepped : (d : ℕ) (m : FullMember) (t : Turn) → Here d m → Kind m.state t → Stepped d m (step m.state (replica_at w d (block_of m.fields)) t)
  kind-stepped d m t h k =
      let y = kind-hushes c m.state (replica_at w d (block_of m.fields)) t k in
      record {
        conn = settled-conn m.state t (outcome_of (replica_at w d (block_of m.fields)) t.call);
        held = y.held c;
        bad = λ e. y.bad ∙ bad-here d m h e;
        sends = λ e. y.sends (h.conn ∙ sym e) (s.held (node_of w d) (block_of m.fields)) (bad-here d m h e);
      }

  failing-mute : (d : ℕ) (m : FullMember) (n : Next) (t : Turn) (o : Option ReplicaEvent) → Here d m → IfSome (failing_turn w d m n t o) (Mute w c)
  failing-mute d m n t None h = tt
  failing-mute d m n t (Some e) h = member-mute d m n (faulted_step m.state (replica_at w d (block_of m.fields)) t) _ h (faulted-stepped d m t h)

  turn-mute : (d : ℕ) (m : FullMember) (n : Next) (t : Turn) (fails : Bool) → Here d m → Kind m.state t → IfSome (turn_change w d m n t fails) (Mute w c)
  turn-mute d m n t true h k = failing-mute d m n t t.call h
  turn-mute d m n t false h k = member-mute d m n (step m.state (replica_at w d (block_of m.fields)) t) _ h (kind-stepped d m t h k)

  -- a packet is of another connection
  packet-stepped : (d : ℕ) (m : FullMember) (p : Packet) → Here d m → (c ≡ d → ⊥) → Stepped d m (step m.state (replica_at w d (block_of m.fields)) (down_turn m.state (above.Packet p)))
  packet-stepped d m p h ne =
      let r : FullReplica = replica_at w d (block_of m.fields) in
      record {
        conn = settled-conn m.state (down_turn m.state (above.Packet p)) (outcome_of r (down_turn m.state (above.Packet p)).call);
        held = packet-others c r.known m.state.conn p.seqno p.offset (length p.body) (length p.sums / 4) p.last p.sync (bad_under (rule_in r.known) p) (λ e. ne (e ∙ h.conn));
        bad = λ e. absurd (ne e);
        sends = λ e. absurd (ne e);
      }

  packet-mute : (d : ℕ) (m : FullMember) (n : Next) (p : Packet) (fails : Bool) → Here d m → (c ≡ d → ⊥) → IfSome (turn_change w d m n (down_turn m.state (above.Packet p)) fails) (Mute w c)
  packet-mute d m n p true h ne = failing-mute d m n (down_turn m.state (above.Packet p)) (down_turn m.state (above.Packet p)).call h
  packet-mute d m n p false h ne = member-mute d m n (step m.state (replica_at w d (block_of m.fields)) (down_turn m.state (above.Packet p))) _ h (packet-stepped d m p h ne)

  down-as-mute : (d : ℕ) (m : FullMember) (n : Next) (fails : Bool) → Here d m → ((y : Message) → n ≡ message y → c ≡ d → ⊥) → IfSome (turn_change w d m n (down_turn m.state (above_of n)) fails) (Mute w c)
  down-as-mute d m (message (packet p)) fails h late = packet-mute d m (message (packet p)) p fails h (late (packet p) refl)
  down-as-mute d m (message (request r)) fails h late = turn-mute d m (message (request r)) (down_turn m.state above.Unreadable) fails h (says_nothing refl tt)
  down-as-mute d m (message (ack a)) fails h late = turn-mute d m (message (ack a)) (down_turn m.state above.Unreadable) fails h (says_nothing refl tt)
  down-as-mute d m (message (response r)) fails h late = turn-mute d m (message (response r)) (down_turn m.state above.Unreadable) fails h (says_nothing refl tt)
  down-as-mute d m (message (read_status r)) fails h late = turn-mute d m (message (read_status r)) (down_turn m.state above.Unreadable) fails h (says_nothing refl tt)
  down-as-mute d m (message (recovery_answer a)) fails h late = turn-mute d m (message (recovery_answer a)) (down_turn m.state above.Unreadable) fails h (says_nothing refl tt)
  down-as-mute d m the_end fails h late = turn-mute d m the_end (down_turn m.state above.End) fails h (says_nothing refl refl)

  member-down-mute : (d : ℕ) (m : FullMember) (n : Next) (fails : Bool) → Here d m → ((y : Message) → n ≡ message y → c ≡ d → ⊥) → IfSome (member_down w d m n fails) (Mute w c)
  member-down-mute d m n fails h late = when-each (Mute w c) (takes_next m.state (pending_at w d m) n) _ (λ _. down-as-mute d m n fails h late)

  member-up-mute : (d : ℕ) (m : FullMember) (n : Next) (fails : Bool) → Here d m → IfSome (member_up w d m n fails) (Mute w c)
  member-up-mute d m n fails h = when-each (Mute w c) (hears m.state) _
      (λ _. turn-mute d m n (up_turn m.state (oldest_at (replica_at w d (block_of m.fields))) (below_of n)) fails h (up-kind m.state (oldest_at (replica_at w d (block_of m.fields))) (below_of n)))

  ready-mute : (d : ℕ) (m : FullMember) (o : Option Turn) (fails : Bool) → Here d m → IfSome o (Kind m.state) → IfSome (ready_change w d m o fails) (Mute w c)
  ready-mute d m None fails h k = tt
  ready-mute d m (Some t) fails h k = turn-mute d m the_end t fails h k

  -- OTHER LOWER ENDS

  -- a lower end that has ended, or does so
  closing-mute : (d : ℕ) → Mute w c (closing w d)
  closing-mute d = record { hush = ends w c s (closing w d) tt (omega arith) tt refl; downs = λ b up. refl }

  unless-mute : (d : ℕ) (fails : Bool) → IfSome (unless_failing fails (closing w d)) (Mute w c)
  unless-mute d true = tt
  unless-mute d false = closing-mute d

  -- nothing came up on a pipeline's connection before
  abbrev Room : ℕ → Type 0
  Room d = c ≡ d → IsPipe w c → w.ups c ≡ []

  room-few : (d : ℕ) (ms : List Message) → length ms ≤ 1 → Room d → c ≡ d → IsPipe w c → length (w.ups c ++ ms) ≤ 1
  room-few d ms l q e p = subst (λ (ns : List Message). length (ns ++ ms) ≤ 1) (sym (q e p)) l

  -- WRITE REQUESTS

  lower-at : (d : ℕ) (f : WriteFields) (o : Option MemberState) → IfSome o (IsNew d) → IsAt d (lower_of o f w.next_conn)
  lower-at d f None h = tt
  lower-at d f (Some m) h = h.1

  lower-none : (d : ℕ) (f : WriteFields) (o : Option MemberState) → IfSome o (IsNew d) → KeepsNone (lower_of o f w.next_conn)
  lower-none d f None h = tt
  lower-none d f (Some m) h = h.0

  setup-mute : (d : ℕ) (f : WriteFields) (x : Setup) (b : Option Break) → d < w.next_conn → Room d → Sets d (replica_at w d (block_of f)) x → Mute w c (setup_change w d f x b)
  setup-mute d f x b lt q h = record {
    hush = says w c s (setup_change w d f x b) (sent_up f x.effect.sends) lt refl (lower-at d f x.member h.member) (h.held c) (λ _. lower-none d f x.member h.member) (room-few d (sent_up f x.effect.sends) (sent-one f x.effect.sends) q);
    downs = λ a up. refl;
  }

  failing-write-mute : (d : ℕ) (f : WriteFields) (e : Result Event RequestRefusal) → d < w.next_conn → Room d → IfSome (failing_write w d f e) (Mute w c)
  failing-write-mute d f (Err e) lt q = tt
  failing-write-mute d f (Ok e) lt q = setup-mute d f (faulted_request (replica_at w d (block_of f))) _ lt q (faulted-sets d (replica_at w d (block_of f)))

  write-mute : (d : ℕ) (f : WriteFields) (answered fails : Bool) → d < w.next_conn → Room d → IfSome (write_request w d f answered fails) (Mute w c)
  write-mute d f answered true lt q = failing-write-mute d f (request_event (record { 0 = d }) f (rule_in (replica_at w d (block_of f)).known)) lt q
  write-mute d f answered false lt q =
      setup-mute d f (request_step (record { 0 = d }) f (is_asked w d f answered) (replica_at w d (block_of f))) _ lt q (request-sets d f (is_asked w d f answered) (replica_at w d (block_of f)))

  -- READS

  breaking-mute : (d b : ℕ) (r : FullReplica) (e : ReplicaEvent) (ms : List Message) → length ms ≤ 1 → d < w.next_conn → Room d → entries_by c r.known ≤ entries_by c (replica_at w d b).known → Mute w c (breaking w d b r e ms)
  breaking-mute d b r e ms l lt q h = record { hush = says w c s (breaking w d b r e ms) ms lt refl tt h (λ _. tt) (room-few d ms l q); downs = λ a up. refl }

  read-mute : (d b : ℕ) (o : Result ServingState RequestRefusal) → d < w.next_conn → Room d → Mute w c (read_change w d b o)
  read-mute d b (Ok x) lt q = record {
    hush = says w c s (read_change w d b (Ok x)) (response (accepting x) ∷ []) lt refl tt (omega arith) (λ _. tt) (room-few d (response (accepting x) ∷ []) (omega arith) q);
    downs = λ a up. refl;
  }
  read-mute d b (Err r) lt q = record {
    hush = says w c s (read_change w d b (Err r)) (response (refusing r) ∷ []) lt refl tt (omega arith) (λ _. tt) (room-few d (response (refusing r) ∷ []) (omega arith) q);
    downs = λ a up. refl;
  }

  failing-read-mute : (d b : ℕ) (e : Result Event RequestRefusal) → d < w.next_conn → Room d → IfSome (failing_read w d b e) (Mute w c)
  failing-read-mute d b (Err r) lt q = tt
  failing-read-mute d b (Ok e) lt q =
      let x = faulted_read (replica_at w d b) in
      breaking-mute d b x.0 (replica_event.Other e) (response (refusing x.1) ∷ []) (omega arith) lt q (other-calm c (replica_at w d b).known event.FileFault refl)

  read-request-mute : (d : ℕ) (r : ReadOp) (fails : Bool) → d < w.next_conn → Room d → IfSome (read_request w d r fails) (Mute w c)
  read-request-mute d r true lt q = failing-read-mute d r.block.block.0 (read_event r) lt q
  read-request-mute d r false lt q = read-mute d r.block.block.0 (read_at r (replica_at w d r.block.block.0)) lt q

  piece-mute : (d b : ℕ) (x : ServingState) (o : Option Packet) → d < w.next_conn → Room d → Mute w c (piece_as w d b x o)
  piece-mute d b x None lt q = closing-mute d
  piece-mute d b x (Some p) lt q = record {
    hush = says w c s (piece_as w d b x (Some p)) (packet p ∷ []) lt refl tt (omega arith) (λ _. tt) (room-few d (packet p ∷ []) (omega arith) q);
    downs = λ a up. refl;
  }

  serve-mute : (d b : ℕ) (x : ServingState) (o : Option Event) (fails : Bool) → d < w.next_conn → Room d → IfSome (serve_change w d b x o fails) (Mute w c)
  serve-mute d b x None fails lt q = tt
  serve-mute d b x (Some e) true lt q =
      breaking-mute d b (faulted_piece x (replica_at w d b)).0 (replica_event.Other e) [] (omega arith) lt q (other-calm c (replica_at w d b).known event.FileFault refl)
  serve-mute d b x (Some e) false lt q = piece-mute d b (piece_at x (replica_at w d b)).serving (piece_at x (replica_at w d b)).packet lt q

  -- RECOVERIES

  recovery-mute : (d : ℕ) (r : RecoveryOp) (x : Served) (b : Option Break) → d < w.next_conn → Room d → entries_by c x.replica.known ≤ entries_by c (replica_at w d r.block.block.0).known → Mute w c (recovery_change w d r x b)
  recovery-mute d r x b lt q h = record {
    hush = says w c s (recovery_change w d r x b) (recovery_answer (answer_of x.reply) ∷ []) lt refl tt h (λ _. tt) (room-few d (recovery_answer (answer_of x.reply) ∷ []) (omega arith) q);
    downs = λ a up. refl;
  }

  failing-recovery-mute : (d : ℕ) (r : RecoveryOp) (e : Result Event RecoveryReply) → d < w.next_conn → Room d → IfSome (failing_recovery w d r e) (Mute w c)
  failing-recovery-mute d r (Err said) lt q = tt
  failing-recovery-mute d r (Ok e) lt q = recovery-mute d r (serve_faulted (replica_at w d r.block.block.0)) _ lt q (other-calm c (replica_at w d r.block.block.0).known event.FileFault refl)

  recovery-request-mute : (d : ℕ) (r : RecoveryOp) (fails : Bool) → d < w.next_conn → Room d → IfSome (recovery_request w d r fails) (Mute w c)
  recovery-request-mute d r true lt q = failing-recovery-mute d r (recovery_event r) lt q
  recovery-request-mute d r false lt q = recovery-mute d r (serve (replica_at w d r.block.block.0) r) _ lt q (served-held c (replica_at w d r.block.block.0) r)

  -- THE LOWER END

  first-mute : (d : ℕ) (m : Message) (answered fails : Bool) → d < w.next_conn → Room d → IfSome (first_message w d m answered fails) (Mute w c)
  first-mute d (request (op.Write f)) answered fails lt q = write-mute d f answered fails lt q
  first-mute d (request (op.Read r)) answered fails lt q = read-request-mute d r fails lt q
  first-mute d (request (op.Recovery r)) answered fails lt q = recovery-request-mute d r fails lt q
  first-mute d (request (op.Transfer r)) answered fails lt q = unless-mute d fails
  first-mute d (request (op.Checksum r)) answered fails lt q = unless-mute d fails
  first-mute d (packet p) answered fails lt q = unless-mute d fails
  first-mute d (ack a) answered fails lt q = unless-mute d fails
  first-mute d (response r) answered fails lt q = unless-mute d fails
  first-mute d (read_status r) answered fails lt q = unless-mute d fails
  first-mute d (recovery_answer a) answered fails lt q = unless-mute d fails

  next-mute : (d : ℕ) (n : Next) (fails : Bool) → d < w.next_conn → Room d → IfSome (next_recovery w d n fails) (Mute w c)
  next-mute d (message (request (op.Recovery r))) fails lt q = recovery-request-mute d r fails lt q
  next-mute d (message (request (op.Write f))) fails lt q = unless-mute d fails
  next-mute d (message (request (op.Read r))) fails lt q = unless-mute d fails
  next-mute d (message (request (op.Transfer r))) fails lt q = unless-mute d fails
  next-mute d (message (request (op.Checksum r))) fails lt q = unless-mute d fails
  next-mute d (message (packet p)) fails lt q = unless-mute d fails
  next-mute d (message (ack a)) fails lt q = unless-mute d fails
  next-mute d (message (response r)) fails lt q = unless-mute d fails
  next-mute d (message (read_status r)) fails lt q = unless-mute d fails
  next-mute d (message (recovery_answer a)) fails lt q = unless-mute d fails
  next-mute d the_end fails lt q = unless-mute d fails

  room-ups : (d : ℕ) → w.ups d ≡ [] → Room d
  room-ups d n e p = ap w.ups e ∙ n

  here-of : (d taken : ℕ) (m : FullMember) → d < w.next_conn → w.lowers d ≡ writes m → IsAt d (writes m) → IsBelow (w.dialled d).upper taken (w.ups d) (writes m) → Here d m
  here-of d taken m lt e a q = record { known = lt; lower = e; conn = a; waits = λ x. none-sent (w.ups d) (q.answered ∙ x) }

  pub lower-down-mute : (l : Lower) (d taken : ℕ) (n : Next) (answered fails : Bool) → d < w.next_conn → w.lowers d ≡ l → IsAt d l → IsBelow (w.dialled d).upper taken (w.ups d) l
      → ((m : FullMember) (y : Message) → l ≡ writes m → n ≡ message y → c ≡ d → ⊥) → IfSome (lower_down l w d n answered fails) (Mute w c)
  lower-down-mute idle d taken (message m) answered fails lt e a q late = first-mute d m answered fails lt (room-ups d q.1)
  lower-down-mute idle d taken the_end answered fails lt e a q late = unless-mute d fails
  lower-down-mute (writes m) d taken n answered fails lt e a q late = member-down-mute d m n fails (here-of d taken m lt e a q) (λ y. late m y refl)
  lower-down-mute (serves b x) d taken n answered fails lt e a q late = unless-mute d fails
  lower-down-mute recovers d taken n answered fails lt e a q late = next-mute d n fails lt (λ i p. absurd (recover-apart (sym q ∙ ap (λ (j : ℕ). purpose_of (w.dialled j).upper) (sym i) ∙ p)))
  lower-down-mute ended_below d taken n answered fails lt e a q late = tt

  pub lower-ready-mute : (l : Lower) (d taken : ℕ) (fails : Bool) → d < w.next_conn → w.lowers d ≡ l → IsAt d l → IsBelow (w.dialled d).upper taken (w.ups d) l → IfSome (lower_ready l w d fails) (Mute w c)
  lower-ready-mute idle d taken fails lt e a q = tt
  lower-ready-mute (writes m) d taken fails lt e a q = ready-mute d m (ready_turn_at m.state (replica_at w d (block_of m.fields))) fails (here-of d taken m lt e a q) (ready-kind m.state (replica_at w d (block_of m.fields)))
  lower-ready-mute (serves b x) d taken fails lt e a q =
      serve-mute d b x (next_call x) fails lt (λ i p. absurd (read-apart (sym q.0 ∙ ap (λ (j : ℕ). purpose_of (w.dialled j).upper) (sym i) ∙ p)))
  lower-ready-mute recovers d taken fails lt e a q = tt
  lower-ready-mute ended_below d taken fails lt e a q = tt

  pub mirror-up-mute : (l : Lower) (d taken : ℕ) (n : Next) (fails : Bool) → d < w.next_conn → w.lowers d ≡ l → IsAt d l → IsBelow (w.dialled d).upper taken (w.ups d) l → IfSome (mirror_up l w d n fails) (Mute w c)
  mirror-up-mute idle d taken n fails lt e a q = tt
  mirror-up-mute (writes m) d taken n fails lt e a q = when-each (Mute w c) (is_alive w (w.dialled d).to) _ (λ _. member-up-mute d m n fails (here-of d taken m lt e a q))
  mirror-up-mute (serves b x) d taken n fails lt e a q = tt
  mirror-up-mute recovers d taken n fails lt e a q = tt
  mirror-up-mute ended_below d taken n fails lt e a q = tt
