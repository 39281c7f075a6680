-- What the lower ends of connections bring.
use Rattle.std.proofs.Common.{◌≡◌, ℕ, ◌+◌, ◌-◌, ◌<◌, ◌≤◌, ◌^◌, Bool, true, false, List, [], ◌∷◌, length, slice_get, inl, Option, Some, None, IfSome, Result, Ok, Err, refl, ap, subst, arith}
use Rattle.std.specs.Prelude.{◌==◌, nat_le, if◌then◌else◌, IfOk}
use Rattle.std.proofs.lemmas.Bool.Decides.{nat_tests}
use Rattle.std.proofs.Math.Nat.{min-le_right}
use Rattle.uuid.proofs.TextLemmas.{by_index_length}
use Rattle.hd_base.specs.declared.numbers.ConnId.{ConnId}
use Rattle.hd_base.specs.declared.numbers.NodeId.{NodeId}
use Rattle.hd_base.specs.declared.roads.TheConstants.{FIRST_PORT}
use Rattle.hd_base.specs.Results.{◌>>=◌}
use Rattle.hd_base.specs.SumRules.{Rule}
use Rattle.op_headers.specs.declared.nodes.NodeRef.{NodeRef}
use Rattle.op_headers.specs.Values.{WriteFields}
use Rattle.world_laws.specs.NodeRefs.NodeRefs.{uuid_of, port_of, ref_of}
use Rattle.replica_core.specs.declared.ack_queue.PendingPacket.{PendingPacket}
use Rattle.replica_core.specs.declared.events.Answer.{Answer}
use Rattle.replica_core.specs.declared.events.Answer.TheVariants as answer
use Rattle.replica_core.specs.declared.events.Event.{Event}
use Rattle.replica_core.specs.Views.{rule_in}
use Rattle.world_laws.specs.ReplicaModel.ReplicaEvent.{ReplicaEvent}
use Rattle.world_laws.specs.ReplicaModel.ReplicaEvent.TheVariants as replica_event
use Rattle.world_laws.specs.ReplicaModel.Rows.{FullReplica, IsFull, IsOther, row, row_answer}
use Rattle.world_laws.specs.RequestRefusals.RequestRefusal.{RequestRefusal}
use Rattle.world_laws.specs.RequestRefusals.RequestRefusal.TheVariants as refusal
use Rattle.world_laws.specs.RequestRefusals.Pools.{is_in_pool}
use Rattle.world_laws.specs.MemberCore.Upward.{Upward}
use Rattle.world_laws.specs.MemberCore.SetupAnswer.TheVariants as setup_answer
use Rattle.world_laws.specs.MemberCore.Mirror.{Mirror}
use Rattle.world_laws.specs.MemberCore.Mirror.TheVariants as mirror
use Rattle.world_laws.specs.MemberCore.SetupKind.{SetupKind}
use Rattle.world_laws.specs.MemberCore.SetupKind.TheVariants as setup
use Rattle.world_laws.specs.MemberCore.TheConstants.{MAX_BELOW, MAX_PORT}
use Rattle.world_laws.specs.MemberCore.Booked.TheVariants as booked
use Rattle.world_laws.specs.MemberCore.Turn.{Turn}
use Rattle.world_laws.specs.MemberCore.Members.{MemberState, set_up, set_up_at, mirror_for, down_turn, hears}
use Rattle.world_laws.specs.MemberCore.Requests.{setup_with, rule_for, named_setup, named_rule, setup_event, request_event, request_from, request_to, mirror_request}
use Rattle.world_laws.specs.MemberCore.Steps.{Step, Setup, step, faulted_step, outcome_of, oldest_at, ready_turn_at, replica_after, refused_by, refused_request, booked_request, request_at, request_step, faulted_request}
use Rattle.world_laws.specs.World.Parts.{Message, request, packet, ack, response, read_status, recovery_answer, FullMember, Break}
use Rattle.world_laws.specs.World.Worlds.{World, Dial}
use Rattle.world_laws.specs.World.Connections.{Next, message, the_end, sent_on}
use Rattle.world_laws.specs.World.Nodes.{replica_at, node_of, block_of, closing, unless_failing, above_of, below_of, sent_up, passed, member_change, failing_turn, turn_change, takes_next, pending_at, member_down, member_up, ready_change, member_ready, is_asked, mirror_dial, mirror_node, dials_of, member_dials, lower_of, setup_change, failing_write, write_request}
use Rattle.world_laws.proofs.ByteFrame.{Each, each-nil, each-one}
use Rattle.world_laws.proofs.FactTables.{if-each, when-each}
use Rattle.world_laws.proofs.Lawful.{request-other}
use Rattle.world_texts.proofs.Spelling.{NodeFits, NodesFit, WriteFits, MessageFits}
use Rattle.world_texts.proofs.Frame.{StateFits, MemberFits, LowerFits, PendingFits, ReplicaFits, Formed, Brings, kept-writer}
use Rattle.world_texts.proofs.Rows.{CallFits, row-fits, broken-fits}
use Rattle.world_texts.proofs.Refusals.{RequestRefusalFits, InfoNumbers, EventNumbers, AnswerNumbers, answer-numbers}
use Rattle.world_texts.proofs.Turns.{UpFits, TurnFits, AboveFits, BelowFits, down-turn-fits, up-turn-fits, ready-turn-fits, settled-fits, answer-fits}

-- WHAT REPLICAS HOLD

-- The numbers of replicas fit, and they have the bytes that they have written.
pub record Holding (w : World) : Type 0 where
  pub infos : (n b : ℕ) → IfSome (w.replicas n b).known.info InfoNumbers
  pub full : (n b : ℕ) → IsFull (w.replicas n b)

-- WHAT IS TAKEN AND SENT

abbrev pub NextFits : Next → Type 0
NextFits (message m) = MessageFits m
NextFits the_end = Unit {0}

pub sent-fits : (o : Option ℕ) (ms : List Message) → Each MessageFits ms → (c : ℕ) → Each MessageFits (sent_on o ms c)
sent-fits None ms h c = each-nil MessageFits
sent-fits (Some d) ms h c = if-each (Each MessageFits) (c == d) ms [] (λ _. h) (λ _. each-nil MessageFits)

passed-fits : (b : Bool) (x : Next) → NextFits x → Each MessageFits (passed b x)
passed-fits true (message m) h = each-one MessageFits m h
passed-fits true the_end h = each-nil MessageFits
passed-fits false (message m) h = each-nil MessageFits
passed-fits false the_end h = each-nil MessageFits

up-sent : (f : WriteFields) (o : Option Upward) → UpFits f o → Each MessageFits (sent_up f o)
up-sent f None h = each-nil MessageFits
up-sent f (Some u) h = each-one MessageFits _ h

above-fits : (x : Next) → NextFits x → AboveFits (above_of x)
above-fits (message (packet p)) h = h
above-fits (message (request r)) h = tt
above-fits (message (ack a)) h = tt
above-fits (message (response r)) h = tt
above-fits (message (read_status s)) h = tt
above-fits (message (recovery_answer a)) h = tt
above-fits the_end h = tt

below-fits : (x : Next) → NextFits x → BelowFits (below_of x)
below-fits (message (response r)) h = h
below-fits (message (ack a)) h = h
below-fits (message (packet p)) h = tt
below-fits (message (request r)) h = tt
below-fits (message (read_status s)) h = tt
below-fits (message (recovery_answer a)) h = tt
below-fits the_end h = tt

oldest-fits : (r : FullReplica) → ReplicaFits r → IfSome (oldest_at r) PendingFits
oldest-fits r h = go (slice_get r.known.pending 0) refl
  where
    go : (o : Option PendingPacket) → slice_get r.known.pending 0 ≡ o → IfSome o PendingFits
    go None e = tt
    go (Some x) e = h.pending.at 0 x e

after-fits : (r : FullReplica) (o : Option ReplicaEvent) → ReplicaFits r → IfSome o CallFits → ReplicaFits (replica_after r o)
after-fits r None h f = h
after-fits r (Some e) h f = row-fits r e h f

-- NODES

uuid-length : (n : NodeId) → length (uuid_of n) ≡ 36
uuid-length n = by_index_length 36 _

port-fits : (n : NodeId) → port_of n < 2 ^ 32
port-fits n = omega (arith, min-le_right (FIRST_PORT + n.0) (2 ^ 32 - 1))

pub ref-fits : (n : NodeId) → NodeFits (ref_of n)
ref-fits n = record {
  texts = omega (arith, uuid-length n);
  xfer = port-fits n;
  info = omega arith;
  ipc = omega arith;
}

-- the request to the mirror
from-fits : (source : NodeId) (f : WriteFields) (mirror : NodeRef) (rest : List NodeRef) → f.targets ≡ mirror ∷ rest → WriteFits f → WriteFits (request_from (ref_of source) f rest)
from-fits source f mirror rest e h = record {
  pool = h.pool;
  client = h.client;
  targets = (subst NodesFit e h.targets).1;
  few = omega (arith, h.few, ap length e);
  source = ref-fits source;
  block = h.block;
  stamp = h.stamp;
  bytes = h.bytes;
  numbers = record { stage = h.numbers.stage; pipeline = h.numbers.pipeline; min = h.numbers.min; max = h.numbers.max; latest = h.numbers.latest; kind = h.numbers.kind; chunk = h.numbers.chunk };
}

to-fits : (source : NodeId) (f : WriteFields) (ns : List NodeRef) → f.targets ≡ ns → WriteFits f → IfSome (request_to (ref_of source) f ns) WriteFits
to-fits source f [] e h = tt
to-fits source f (n ∷ ns) e h = if-each (λ (o : Option WriteFields). IfSome o WriteFits) (nat_le n.xfer MAX_PORT) _ _ (λ _. from-fits source f n ns e h) (λ _. tt)

mirror-fits : (source : NodeId) (f : WriteFields) → WriteFits f → IfSome (mirror_request (ref_of source) f) WriteFits
unfolding mirror_request
mirror-fits source f h = to-fits source f f.targets refl h

-- REQUESTS

-- A request that isn't refused before has few targets and an event whose numbers fit; else its refusal fits.
record EventOf (f : WriteFields) (e : Event) : Type 0 where
  numbers : EventNumbers e
  few : length f.targets ≤ 15

setup-numbers : (conn : ConnId) (f : WriteFields) (r : Rule) (s : SetupKind) → WriteFits f → EventNumbers (setup_event conn f r s)
setup-numbers conn f r setup.Create h = tt
setup-numbers conn f r setup.Append h = (h.stamp, h.numbers.latest, h.numbers.min)
setup-numbers conn f r setup.AppendRecovery h = (h.stamp, h.numbers.latest, h.numbers.min)
setup-numbers conn f r setup.StreamRecovery h = (h.stamp, h.numbers.latest, h.numbers.min, h.numbers.max)
setup-numbers conn f r setup.CloseRecovery h = (h.stamp, h.numbers.latest, h.numbers.min)

-- what a request comes to
abbrev Comes : WriteFields → Result Event RequestRefusal → Type 0
Comes f (Ok e) = EventOf f e
Comes f (Err r) = RequestRefusalFits r

checked : (f : WriteFields) (b : Bool) (e : RequestRefusal) (r : Result Event RequestRefusal) → RequestRefusalFits e → (b ≡ true → Comes f r) → Comes f (if b then r else Err e)
checked f true e r a h = h refl
checked f false e r a h = a

few-comes : (conn : ConnId) (f : WriteFields) (s : SetupKind) (o : Option Rule) → WriteFits f
    → Comes f (named_rule f o >>= (λ sums. if nat_le (length f.targets) MAX_BELOW then Ok (setup_event conn f sums s) else Err (refusal.TooMany (length f.targets))))
few-comes conn f s None h = (omega (arith, h.numbers.kind), omega (arith, h.numbers.chunk))
few-comes conn f s (Some r) h =
    checked f (nat_le (length f.targets) MAX_BELOW) (refusal.TooMany (length f.targets)) (Ok (setup_event conn f r s)) (omega (arith, h.few)) (λ e. record { numbers = setup-numbers conn f r s h; few = grind (arith, nat_tests, e) })

named-comes : (conn : ConnId) (f : WriteFields) (held : Option Rule) (s : Option SetupKind) → WriteFits f
    → Comes f (named_setup f.stage s >>= (λ kind. named_rule f (rule_for f held) >>= (λ sums.
    if nat_le (length f.targets) MAX_BELOW then Ok (setup_event conn f sums kind) else Err (refusal.TooMany (length f.targets)))))
named-comes conn f held None h = omega (arith, h.numbers.stage)
named-comes conn f held (Some s) h = few-comes conn f s (rule_for f held) h

request-comes : (conn : ConnId) (f : WriteFields) (held : Option Rule) → WriteFits f → Comes f (request_event conn f held)
unfolding request_event
request-comes conn f held h = checked f (is_in_pool f.block) refusal.Pool _ tt (λ _. named-comes conn f held (setup_with f.stage) h)

-- a setup that fits: its member, its replica, and what it says
record SetupFits (f : WriteFields) (s : Setup) : Type 0 where
  member : IfSome s.member StateFits
  replica : ReplicaFits s.replica
  sends : UpFits f s.effect.sends

abbrev SetFits : WriteFields → MemberState → Option Upward → Type 0
SetFits f m o = StateFits m × UpFits f o

set-fits : (q : Mirror) (f : WriteFields) (conn : ConnId) → WriteFits f → length f.targets ≤ 15 → SetFits f (set_up_at q f conn).0 (set_up_at q f conn).1.sends
set-fits mirror.Nobody f conn h few = (record { below = few; bad = tt }, answer-fits f setup_answer.Success h tt)
set-fits mirror.Asked f conn h few = (record { below = few; bad = tt }, tt)
set-fits mirror.Unreachable f conn h few = (record { below = few; bad = tt }, tt)
set-fits mirror.Open f conn h few = (record { below = few; bad = tt }, tt)
set-fits mirror.Ended f conn h few = (record { below = few; bad = tt }, tt)

refused-setup : (f : WriteFields) (r : FullReplica) (e : RequestRefusal) → WriteFits f → ReplicaFits r → RequestRefusalFits e → SetupFits f (refused_request r e)
refused-setup f r e h g k = record { member = tt; replica = g; sends = answer-fits f (setup_answer.Refused e) h k }

taken-setup : (f : WriteFields) (conn : ConnId) (asked : Bool) (r : FullReplica) → WriteFits f → length f.targets ≤ 15 → ReplicaFits r → SetupFits f (booked_request conn f asked r None)
unfolding set_up
taken-setup f conn asked r h few g = let x = set-fits (mirror_for (length f.targets) asked) f conn h few in record { member = x.0; replica = g; sends = x.1 }

booked-setup : (f : WriteFields) (conn : ConnId) (asked : Bool) (r : FullReplica) (a : Answer) → WriteFits f → length f.targets ≤ 15 → ReplicaFits r → AnswerNumbers a → SetupFits f (booked_request conn f asked r (refused_by a))
booked-setup f conn asked r (answer.Refused e) h few g k = refused-setup f r (refusal.Core e) h g k
booked-setup f conn asked r answer.Done h few g k = taken-setup f conn asked r h few g
booked-setup f conn asked r (answer.Info s stamp n) h few g k = taken-setup f conn asked r h few g
booked-setup f conn asked r (answer.Visible n) h few g k = taken-setup f conn asked r h few g

-- the numbers of a replica, and that it fits
pub record At (r : FullReplica) : Type 0 where
  pub numbers : IfSome r.known.info InfoNumbers
  pub fits : ReplicaFits r
  pub full : IsFull r

pub answer-of-row : (r : FullReplica) (e : Event) → At r → EventNumbers e → AnswerNumbers (row_answer r (replica_event.Other e))
answer-of-row r e h n = answer-numbers r.known e h.numbers n

event-setup : (f : WriteFields) (conn : ConnId) (asked : Bool) (r : FullReplica) (e : Result Event RequestRefusal) → WriteFits f → At r → Comes f e → IfOk e IsOther → SetupFits f (request_at conn f asked r e)
event-setup f conn asked r (Err e) h g k o = refused-setup f r e h g.fits k
event-setup f conn asked r (Ok e) h g k o =
    booked-setup f conn asked (row r (replica_event.Other e)) (row_answer r (replica_event.Other e)) h k.few (row-fits r (replica_event.Other e) g.fits o) (answer-of-row r e g k.numbers)

request-setup : (f : WriteFields) (conn : ConnId) (asked : Bool) (r : FullReplica) → WriteFits f → At r → SetupFits f (request_step conn f asked r)
request-setup f conn asked r h g = event-setup f conn asked r (request_event conn f (rule_in r.known)) h g (request-comes conn f (rule_in r.known) h) (request-other conn f (rule_in r.known))

module _ (w : World) (h : Formed w) (q : Holding w) where
  pub here : (n b : ℕ) → At (w.replicas n b)
  here n b = record { numbers = q.infos n b; fits = h.replicas n b; full = q.full n b }

  pub closing-brings : (c : ℕ) → Brings w (closing w c)
  closing-brings c = record {
    dials = each-nil (λ (d : Dial). MessageFits d.request);
    downs = λ d. each-nil MessageFits;
    ups = λ d. each-nil MessageFits;
    lower = tt;
    replica = h.replicas 0 0;
    writer = kept-writer w h 0;
    spends = inl refl;
    primary = h.primaries 0;
  }

  pub unless-brings : (c : ℕ) (fails : Bool) → IfSome (unless_failing fails (closing w c)) (Brings w)
  unless-brings c true = tt
  unless-brings c false = closing-brings c

  -- MEMBERS

  member-brings : (c : ℕ) (m : FullMember) (x : Next) (s : Step) (b : Option Break) → MemberFits m → NextFits x → ReplicaFits s.replica → StateFits s.member → UpFits m.fields s.effect.sends → Brings w (member_change w c m x s b)
  member-brings c m x s b f n r t u = record {
    dials = each-nil (λ (d : Dial). MessageFits d.request);
    downs = sent-fits m.mirror (passed s.effect.forwards x) (passed-fits s.effect.forwards x n);
    ups = sent-fits (Some c) (sent_up m.fields s.effect.sends) (up-sent m.fields s.effect.sends u);
    lower = record { fields = f.fields; state = t };
    replica = r;
    writer = kept-writer w h 0;
    spends = inl refl;
    primary = h.primaries 0;
  }

  failing-brings : (c : ℕ) (m : FullMember) (x : Next) (t : Turn) (o : Option ReplicaEvent) → MemberFits m → NextFits x → TurnFits m.fields t → IfSome (failing_turn w c m x t o) (Brings w)
  failing-brings c m x t None f n u = tt
  failing-brings c m x t (Some e) f n u =
      let s = settled-fits m.fields f.fields m.state t booked.Failed f.state u in
      member-brings c m x (faulted_step m.state (replica_at w c (block_of m.fields)) t) _ f n (broken-fits _ (h.replicas (node_of w c) (block_of m.fields))) s.state s.sends

  turn-brings : (c : ℕ) (m : FullMember) (x : Next) (t : Turn) (fails : Bool) → MemberFits m → NextFits x → TurnFits m.fields t → IfSome (turn_change w c m x t fails) (Brings w)
  turn-brings c m x t true f n u = failing-brings c m x t t.call f n u
  turn-brings c m x t false f n u =
      let r : FullReplica = replica_at w c (block_of m.fields) in
      let s = settled-fits m.fields f.fields m.state t (outcome_of r t.call) f.state u in
      member-brings c m x (step m.state r t) _ f n (after-fits r t.call (h.replicas (node_of w c) (block_of m.fields)) u.call) s.state s.sends

  pub member-down-brings : (c : ℕ) (m : FullMember) (x : Next) (fails : Bool) → MemberFits m → NextFits x → IfSome (member_down w c m x fails) (Brings w)
  member-down-brings c m x fails f n = when-each (Brings w) (takes_next m.state (pending_at w c m) x) _
      (λ _. turn-brings c m x (down_turn m.state (above_of x)) fails f n (down-turn-fits m.fields f.fields m.state (above_of x) (above-fits x n)))

  pub member-up-brings : (c : ℕ) (m : FullMember) (x : Next) (fails : Bool) → MemberFits m → NextFits x → IfSome (member_up w c m x fails) (Brings w)
  member-up-brings c m x fails f n = when-each (Brings w) (hears m.state) _
      (λ _. turn-brings c m x _ fails f n (up-turn-fits m.fields f.fields m.state _ (below_of x) f.state (oldest-fits _ (h.replicas (node_of w c) (block_of m.fields))) (below-fits x n)))

  ready-brings : (c : ℕ) (m : FullMember) (o : Option Turn) (fails : Bool) → MemberFits m → IfSome o (TurnFits m.fields) → IfSome (ready_change w c m o fails) (Brings w)
  ready-brings c m None fails f u = tt
  ready-brings c m (Some t) fails f u = turn-brings c m the_end t fails f tt u

  pub member-ready-brings : (c : ℕ) (m : FullMember) (fails : Bool) → MemberFits m → IfSome (member_ready w c m fails) (Brings w)
  member-ready-brings c m fails f =
      let r : FullReplica = replica_at w c (block_of m.fields) in
      ready-brings c m (ready_turn_at m.state r) fails f (ready-turn-fits m.fields f.fields m.state _ _ f.state (oldest-fits r (h.replicas (node_of w c) (block_of m.fields))))

  -- WRITE REQUESTS

  mirror-dial-fits : (c : ℕ) (g : Option WriteFields) (n : Option ℕ) → IfSome g WriteFits → Each (λ (d : Dial). MessageFits d.request) (mirror_dial w c g n)
  mirror-dial-fits c (Some f) (Some n) g = each-one (λ (d : Dial). MessageFits d.request) _ g
  mirror-dial-fits c (Some f) None g = each-nil (λ (d : Dial). MessageFits d.request)
  mirror-dial-fits c None n g = each-nil (λ (d : Dial). MessageFits d.request)

  dials-fit : (c : ℕ) (f : WriteFields) (z : Mirror) → WriteFits f → Each (λ (d : Dial). MessageFits d.request) (dials_of z w c f)
  dials-fit c f mirror.Asked g = mirror-dial-fits c (mirror_request (ref_of (record { 0 = node_of w c })) f) (mirror_node f.targets) (mirror-fits (record { 0 = node_of w c }) f g)
  dials-fit c f mirror.Nobody g = each-nil (λ (d : Dial). MessageFits d.request)
  dials-fit c f mirror.Unreachable g = each-nil (λ (d : Dial). MessageFits d.request)
  dials-fit c f mirror.Open g = each-nil (λ (d : Dial). MessageFits d.request)
  dials-fit c f mirror.Ended g = each-nil (λ (d : Dial). MessageFits d.request)

  member-dials-fit : (c : ℕ) (f : WriteFields) (o : Option MemberState) → WriteFits f → Each (λ (d : Dial). MessageFits d.request) (member_dials o w c f)
  member-dials-fit c f None g = each-nil (λ (d : Dial). MessageFits d.request)
  member-dials-fit c f (Some m) g = dials-fit c f m.mirror g

  lower-of-fits : (o : Option MemberState) (f : WriteFields) (next : ℕ) → WriteFits f → IfSome o StateFits → LowerFits (lower_of o f next)
  lower-of-fits None f next g s = tt
  lower-of-fits (Some m) f next g s = record { fields = g; state = s }

  setup-brings : (c : ℕ) (f : WriteFields) (s : Setup) (b : Option Break) → WriteFits f → SetupFits f s → Brings w (setup_change w c f s b)
  setup-brings c f s b g k = record {
    dials = member-dials-fit c f s.member g;
    downs = λ d. each-nil MessageFits;
    ups = sent-fits (Some c) (sent_up f s.effect.sends) (up-sent f s.effect.sends k.sends);
    lower = lower-of-fits s.member f w.next_conn g k.member;
    replica = k.replica;
    writer = kept-writer w h 0;
    spends = inl refl;
    primary = h.primaries 0;
  }

  failing-write-brings : (c : ℕ) (f : WriteFields) (e : Result Event RequestRefusal) → WriteFits f → IfSome (failing_write w c f e) (Brings w)
  failing-write-brings c f (Err e) g = tt
  failing-write-brings c f (Ok e) g =
      setup-brings c f (faulted_request (replica_at w c (block_of f))) _ g (refused-setup f _ refusal.File g (broken-fits _ (h.replicas (node_of w c) (block_of f))) tt)

  pub write-brings : (c : ℕ) (f : WriteFields) (answered fails : Bool) → WriteFits f → IfSome (write_request w c f answered fails) (Brings w)
  write-brings c f answered true g = failing-write-brings c f (request_event (record { 0 = c }) f (rule_in (replica_at w c (block_of f)).known)) g
  write-brings c f answered false g = setup-brings c f _ _ g (request-setup f (record { 0 = c }) (is_asked w c f answered) (replica_at w c (block_of f)) g (here (node_of w c) (block_of f)))
