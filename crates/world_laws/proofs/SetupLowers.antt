-- What lower ends make of the setups that their nodes accepted.
use Rattle.std.proofs.Common.{◌≡◌, ℕ, Bool, true, false, List, [], ◌∷◌, ◌++◌, length, take, Option, Some, None, IfSome, Result, Ok, Err, IfOk, refl, sym, ◌∙◌, ap, subst}
use Rattle.std.specs.Prelude.{◌==◌, nat_le, option_map, if◌then◌else◌}
use Rattle.std.proofs.lemmas.Bool.{false≢true}
use Rattle.std.proofs.lemmas.Option.{none-some}
use Rattle.hd_base.specs.Results.{◌>>=◌}
use Rattle.hd_base.specs.SumRules.{Rule}
use Rattle.hd_base.specs.declared.numbers.ConnId.{ConnId}
use Rattle.hd_base.specs.declared.numbers.Stamp.{Stamp}
use Rattle.world.specs.OpHeaders.Op.{Op}
use Rattle.world.specs.OpHeaders.Op.TheVariants as op
use Rattle.world.specs.OpHeaders.ReadOp.{ReadOp}
use Rattle.world.specs.OpHeaders.RecoveryKind.{RecoveryKind}
use Rattle.world.specs.OpHeaders.RecoveryKind.TheVariants as recovery_kind
use Rattle.world.specs.OpHeaders.RecoveryOp.{RecoveryOp}
use Rattle.world.specs.OpHeaders.Values.{WriteFields}
use Rattle.world.specs.PacketCodec.Packet.{Packet}
use Rattle.replica_core.specs.declared.events.Event.{Event}
use Rattle.replica_core.specs.declared.events.Event.TheVariants as event
use Rattle.replica_core.specs.declared.info.ReplicaInfo.{ReplicaInfo}
use Rattle.replica_core.specs.declared.records.ReplicaRecord.{ReplicaRecord}
use Rattle.replica_core.specs.Transitions.{Outcome, record_after, state_after, transition, is_written_by}
use Rattle.replica_core.specs.Transitions as core
use Rattle.replica_core.specs.Views.{rule_in, written_in, stamp_in}
use Rattle.world.specs.ReplicaModel.ReplicaEvent.{ReplicaEvent}
use Rattle.world.specs.ReplicaModel.ReplicaEvent.TheVariants as replica_event
use Rattle.world.specs.ReplicaModel.Rows.{FullReplica, row, broken, event_at}
use Rattle.world.specs.RequestRefusals.RequestRefusal.{RequestRefusal}
use Rattle.world.specs.RequestRefusals.RequestRefusal.TheVariants as refusal
use Rattle.world.specs.RequestRefusals.Pools.{is_in_pool}
use Rattle.world.specs.MemberCore.FromAbove.{FromAbove}
use Rattle.world.specs.MemberCore.FromAbove.TheVariants as above
use Rattle.world.specs.MemberCore.SetupKind.{SetupKind}
use Rattle.world.specs.MemberCore.SetupKind.TheVariants as kind
use Rattle.world.specs.MemberCore.TheConstants.{MAX_BELOW}
use Rattle.world.specs.MemberCore.Turn.{Turn}
use Rattle.world.specs.MemberCore.Members.{MemberState, down_turn, up_turn, hears}
use Rattle.world.specs.MemberCore.Requests.{setup_with, rule_for, named_setup, named_rule, setup_event, request_event}
use Rattle.world.specs.MemberCore.Steps.{Step, Setup, step, faulted_step, replica_after, request_at, booked_request, refused_by, faulted_request, oldest_at, ready_turn_at}
use Rattle.world.specs.ReadCore.Servings.{ServingState, read_at, read_event, next_call, call_at, piece_at}
use Rattle.world.specs.ReadCore.ServePhase.{ServePhase}
use Rattle.world.specs.ReadCore.ServePhase.TheVariants as serve_phase
use Rattle.world_laws.proofs.SetupTelling.{Tells}
use Rattle.world_laws.proofs.SetupUntouching.{Untouched}
use Rattle.world.specs.RecoveryCore.RecoveryReply.{RecoveryReply}
use Rattle.world.specs.RecoveryCore.Members.{no_recovery, step_event, recovery_event, served_as, serve_faulted}
use Rattle.world.specs.Parts.{Message, request, packet, ack, response, read_status, recovery_answer, FullMember, Lower, idle, writes, serves, recovers, ended_below}
use Rattle.world.specs.Worlds.{World, Change}
use Rattle.world.specs.Connections.{Next, message, the_end, is_alive}
use Rattle.world.specs.Nodes.{node_of, replica_at, block_of, first_break, joined_at, broke_at, closing, unless_failing, above_of, below_of, member_change, failing_turn, turn_change, pending_at, takes_next, member_down, member_up, ready_change, member_ready, is_asked, setup_change, failing_write, write_request, breaking, read_change, failing_read, read_request, piece_as, serve_change, recovery_change, failing_recovery, recovery_request, first_message, next_recovery, lower_down, lower_ready, mirror_up}
use Rattle.world_laws.proofs.FactTables.{if-each, when-each}
use Rattle.world_laws.specs.Stamping.{none_given}
use Rattle.world_laws.proofs.ByteRows.{Allows}
use Rattle.world_laws.proofs.ByteTurns.{Idles, up-idles, ready-idles}
use Rattle.world_laws.specs.Joining.{joined_as, IsPlain}
use Rattle.world_laws.proofs.SetupRising.{Goes, goes-same, event-goes, OpenFrom, open-same, IsNoSetup, event-open, event-broken, TakenOr, IsSetup, event-taken, lasting-of, lasting-setup}
use Rattle.world_laws.proofs.SetupNodes.{quiet, taken, same_break, first_one, NodeJoins}

-- REPLICAS

-- all replicas are plain
abbrev pub Plain : World → Type 0
Plain w = (n b : ℕ) → IfSome (w.replicas n b).known.info IsPlain

-- the replica before a change
abbrev before : World → Change → FullReplica
before w k = w.replicas k.node k.block

-- an event that sets nothing up
abbrev SetsNothing : ReplicaEvent → Type 0
SetsNothing (replica_event.Packet conn p) = Unit {0}
SetsNothing (replica_event.Other e) = IsNoSetup e

nothing-at : (r : FullReplica) (e : ReplicaEvent) → SetsNothing e → IsNoSetup (event_at r e)
nothing-at r (replica_event.Packet conn p) h = tt
nothing-at r (replica_event.Other e) h = h

row-goes : (r : FullReplica) (e : ReplicaEvent) → SetsNothing e → IfSome r.known.info IsPlain → Goes r.known.info (row r e).known.info
row-goes r e h p = event-goes r.known (event_at r e) (lasting-of (event_at r e) (nothing-at r e h)) p

-- a record that stays as it was
same-node : (w : World) (k : Change) → Plain w → k.replica.known ≡ (before w k).known → k.joined ≡ [] → k.broke ≡ w.breaks k.node k.block → Tells w k → NodeJoins w k
same-node w k h e j b t =
    let o = (before w k).known.info in
    record {
      tells = t;
      goes = subst (λ (c : ReplicaRecord). Goes o c.info) (sym e) (goes-same o (h k.node k.block));
      broken = λ d. ap (λ (c : ReplicaRecord). c.is_broken) e ∙ d;
      joins = quiet j (subst (λ (c : ReplicaRecord). OpenFrom o c.info) (sym e) (open-same o)) (λ d. sym (ap (λ (c : ReplicaRecord). c.is_broken) e) ∙ d);
      breaks = same_break b;
    }

-- what was whole before it is so
whole-before : (c d : Bool) → (c ≡ true → d ≡ true) → d ≡ false → c ≡ false
whole-before false d h e = refl
whole-before true d h e = absurd (false≢true (sym e ∙ h refl))

row-node : (w : World) (k : Change) (e : ReplicaEvent) → Plain w → SetsNothing e → k.replica ≡ row (before w k) e → k.joined ≡ [] → k.broke ≡ w.breaks k.node k.block → Tells w k → NodeJoins w k
row-node w k e h s q j b a =
    let r = before w k in
    let keep : r.known.is_broken ≡ true → k.replica.known.is_broken ≡ true = λ t. ap (λ (x : FullReplica). x.known.is_broken) q ∙ event-broken r.known (event_at r e) t in
    record {
      tells = a;
      goes = subst (λ (x : FullReplica). Goes r.known.info x.known.info) (sym q) (row-goes r e s (h k.node k.block));
      broken = keep;
      joins = quiet j (subst (λ (x : FullReplica). OpenFrom r.known.info x.known.info) (sym q) (event-open r.known (event_at r e) (nothing-at r e s) (h k.node k.block))) (whole-before r.known.is_broken k.replica.known.is_broken keep);
      breaks = same_break b;
    }

-- a replica that breaks in an event
broken-node : (w : World) (c b : ℕ) (k : Change) (e : ReplicaEvent) → Plain w → k.node ≡ node_of w c → k.block ≡ b → k.replica ≡ broken (w.replicas (node_of w c) b) → k.joined ≡ [] → k.broke ≡ broke_at w c b e → Tells w k
    → Goes (w.replicas (node_of w c) b).known.info (row (w.replicas (node_of w c) b) e).known.info → NodeJoins w k
unfolding transition
broken-node w c b k e h n m q j s a r =
    let o = w.replicas (node_of w c) b in
    let is : before w k ≡ o = ap (λ (x : ℕ). w.replicas x k.block) n ∙ ap (λ (y : ℕ). w.replicas (node_of w c) y) m in
    let now : k.replica.known.is_broken ≡ true = ap (λ (x : FullReplica). x.known.is_broken) q in
    record {
      tells = a;
      goes = subst (λ (x : FullReplica). Goes x.known.info k.replica.known.info) (sym is) (subst (λ (x : FullReplica). Goes o.known.info x.known.info) (sym q) (goes-same o.known.info (h (node_of w c) b)));
      broken = λ _. now;
      joins = quiet j (subst (λ (x : FullReplica). OpenFrom x.known.info k.replica.known.info) (sym is) (subst (λ (x : FullReplica). OpenFrom o.known.info x.known.info) (sym q) (open-same o.known.info))) (λ t. absurd (false≢true (sym t ∙ now)));
      breaks = first_one e (s ∙ place) j now (subst (λ (x : FullReplica). Goes x.known.info (row x e).known.info) (sym is) r);
    }
  where
    place : broke_at w c b e ≡ first_break (w.breaks k.node k.block) (w.replicas k.node k.block) e
    place = ap (λ (x : ℕ). first_break (w.breaks x b) (w.replicas x b) e) (sym n) ∙ ap (λ (y : ℕ). first_break (w.breaks k.node y) (w.replicas k.node y) e) (sym m)

-- MEMBERS

-- what a turn may book whatever was given sets nothing up
allowed-nothing : (w : World) (b : ℕ) (e : ReplicaEvent) → Allows none_given w.past b e → SetsNothing e
allowed-nothing w b (replica_event.Packet conn p) a = tt
allowed-nothing w b (replica_event.Other (event.Create conn t r)) a = absurd (none-some _ a.1.given)
allowed-nothing w b (replica_event.Other (event.Temporary conn t r)) a = a
allowed-nothing w b (replica_event.Other (event.Append conn named new n)) a = absurd (none-some _ a.given)
allowed-nothing w b (replica_event.Other (event.AppendRecovery conn named new n)) a = absurd (none-some _ a.given)
allowed-nothing w b (replica_event.Other (event.StreamRecovery conn named new low high)) a = absurd (none-some _ a.given)
allowed-nothing w b (replica_event.Other (event.CloseRecovery named new n)) a = absurd (none-some _ a.1.given)
allowed-nothing w b (replica_event.Other (event.Packet conn seqno offset n sums last sync bad)) a = tt
allowed-nothing w b (replica_event.Other (event.Ack conn seqno good)) a = tt
allowed-nothing w b (replica_event.Other (event.Ended conn)) a = tt
allowed-nothing w b (replica_event.Other (event.Init named id)) a = tt
allowed-nothing w b (replica_event.Other (event.Update id n)) a = tt
allowed-nothing w b (replica_event.Other (event.Read named offset n)) a = tt
allowed-nothing w b (replica_event.Other (event.Give named offset n)) a = tt
allowed-nothing w b (replica_event.Other event.FileFault) a = tt

-- the call of a turn
abbrev Nothing : Option ReplicaEvent → Type 0
Nothing o = IfSome o SetsNothing

idles-nothing : (w : World) (t : Turn) → Idles t → Nothing t.call
idles-nothing w t i = go t.call (i.call none_given w.past 0)
  where
    go : (o : Option ReplicaEvent) → IfSome o (Allows none_given w.past 0) → Nothing o
    go None h = tt
    go (Some e) h = allowed-nothing w 0 e h

member-as : (w : World) (c : ℕ) (m : FullMember) (x : Next) (s : Step) (o : Option ReplicaEvent) → Plain w → Nothing o → s.replica ≡ replica_after (replica_at w c (block_of m.fields)) o
    → NodeJoins w (member_change w c m x s (w.breaks (node_of w c) (block_of m.fields)))
member-as w c m x s None h n e = same-node w (member_change w c m x s (w.breaks (node_of w c) (block_of m.fields))) h (ap (λ (r : FullReplica). r.known) e) refl refl tt
member-as w c m x s (Some q) h n e = row-node w (member_change w c m x s (w.breaks (node_of w c) (block_of m.fields))) q h n e refl refl tt

failing-turn-joins : (w : World) (c : ℕ) (m : FullMember) (x : Next) (t : Turn) (o : Option ReplicaEvent) → Plain w → Nothing o → IfSome (failing_turn w c m x t o) (NodeJoins w)
failing-turn-joins w c m x t None h n = tt
failing-turn-joins w c m x t (Some e) h n =
    let b = block_of m.fields in
    let r = replica_at w c b in
    broken-node w c b (member_change w c m x (faulted_step m.state r t) (broke_at w c b e)) e h refl refl refl refl refl tt (row-goes r e n (h (node_of w c) b))

turn-joins : (w : World) (c : ℕ) (m : FullMember) (x : Next) (t : Turn) (fails : Bool) → Plain w → Nothing t.call → IfSome (turn_change w c m x t fails) (NodeJoins w)
turn-joins w c m x t true h n = failing-turn-joins w c m x t t.call h n
turn-joins w c m x t false h n = member-as w c m x (step m.state (replica_at w c (block_of m.fields)) t) t.call h n refl

down-nothing : (w : World) (m : MemberState) (x : FromAbove) → Nothing (down_turn m x).call
down-nothing w m (above.Packet p) = tt
down-nothing w m above.Unreadable = tt
down-nothing w m above.End = tt

down-joins : (w : World) (c : ℕ) (m : FullMember) (x : Next) (fails : Bool) → Plain w → IfSome (member_down w c m x fails) (NodeJoins w)
down-joins w c m x fails h = when-each (NodeJoins w) (takes_next m.state (pending_at w c m) x) _ (λ _. turn-joins w c m x (down_turn m.state (above_of x)) fails h (down-nothing w m.state (above_of x)))

up-joins : (w : World) (c : ℕ) (m : FullMember) (x : Next) (fails : Bool) → Plain w → IfSome (member_up w c m x fails) (NodeJoins w)
up-joins w c m x fails h =
    let o = oldest_at (replica_at w c (block_of m.fields)) in
    when-each (NodeJoins w) (hears m.state) _ (λ _. turn-joins w c m x (up_turn m.state o (below_of x)) fails h (idles-nothing w (up_turn m.state o (below_of x)) (up-idles m.state o (below_of x))))

ready-as : (w : World) (c : ℕ) (m : FullMember) (o : Option Turn) (fails : Bool) → Plain w → IfSome o Idles → IfSome (ready_change w c m o fails) (NodeJoins w)
ready-as w c m None fails h i = tt
ready-as w c m (Some t) fails h i = turn-joins w c m the_end t fails h (idles-nothing w t i)

ready-joins : (w : World) (c : ℕ) (m : FullMember) (fails : Bool) → Plain w → IfSome (member_ready w c m fails) (NodeJoins w)
ready-joins w c m fails h =
    let r = replica_at w c (block_of m.fields) in ready-as w c m (ready_turn_at m.state r) fails h (ready-idles m.state (oldest_at r) (is_written_by r.known.stream m.state.conn))

-- WRITE REQUESTS

setup-is : (conn : ConnId) (f : WriteFields) (r : Rule) (s : SetupKind) → IsSetup (setup_event conn f r s)
setup-is conn f r kind.Create = tt
setup-is conn f r kind.Append = tt
setup-is conn f r kind.AppendRecovery = tt
setup-is conn f r kind.StreamRecovery = tt
setup-is conn f r kind.CloseRecovery = tt

checked : (b : Bool) (e : RequestRefusal) (r : Result Event RequestRefusal) → IfOk r IsSetup → IfOk (if b then r else Err e) IsSetup
checked true e r h = h
checked false e r h = tt

few-setup : (conn : ConnId) (f : WriteFields) (s : SetupKind) (o : Option Rule)
    → IfOk (named_rule f o >>= (λ sums. if nat_le (length f.targets) MAX_BELOW then Ok (setup_event conn f sums s) else Err (refusal.TooMany (length f.targets)))) IsSetup
few-setup conn f s None = tt
few-setup conn f s (Some r) = checked (nat_le (length f.targets) MAX_BELOW) _ (Ok (setup_event conn f r s)) (setup-is conn f r s)

named-setup : (conn : ConnId) (f : WriteFields) (held : Option Rule) (o : Option SetupKind)
    → IfOk (named_setup f.stage o >>= (λ kind. named_rule f (rule_for f held) >>= (λ sums. if nat_le (length f.targets) MAX_BELOW then Ok (setup_event conn f sums kind) else Err (refusal.TooMany (length f.targets))))) IsSetup
named-setup conn f held None = tt
named-setup conn f held (Some s) = few-setup conn f s (rule_for f held)

request-setup : (conn : ConnId) (f : WriteFields) (held : Option Rule) → IfOk (request_event conn f held) IsSetup
unfolding request_event
request-setup conn f held = checked (is_in_pool f.block) refusal.Pool _ (named-setup conn f held (setup_with f.stage))

-- the replica after an outcome
abbrev after : FullReplica → Outcome → FullReplica
after r o = record { known = record_after r.known o; bytes = take (written_in (record_after r.known o)) (r.bytes ++ []) }

abbrev Asks : World → ℕ → WriteFields → Setup → Change
Asks w c f s = setup_change w c f s (w.breaks (node_of w c) (block_of f))

taken-joins : (w : World) (c : ℕ) (f : WriteFields) (asked : Bool) (o : Outcome) → Plain w → w.lives (node_of w c) ≡ (w.dialled c).to.life
    → Goes (replica_at w c (block_of f)).known.info (record_after (replica_at w c (block_of f)).known o).info → ((replica_at w c (block_of f)).known.is_broken ≡ true → (record_after (replica_at w c (block_of f)).known o).is_broken ≡ true)
    → TakenOr (replica_at w c (block_of f)).known o → NodeJoins w (Asks w c f (booked_request (record { 0 = c }) f asked (after (replica_at w c (block_of f)) o) (refused_by (core.answer_of (core.reply o)))))
taken-joins w c f asked (Err x) h alive g b t = same-node w (Asks w c f (booked_request (record { 0 = c }) f asked (after (replica_at w c (block_of f)) (Err x)) (Some (refusal.Core x)))) h refl refl refl tt
taken-joins w c f asked (Ok q) h alive g b t = subst (λ (a : Option RequestRefusal). NodeJoins w (Asks w c f (booked_request (record { 0 = c }) f asked (after (replica_at w c (block_of f)) (Ok q)) a))) (sym (ap refused_by t.1)) (record {
  tells = tt;
  goes = g;
  broken = b;
  joins = taken t.0.info t.0.is t.0.whole (joined t.0.info t.0.is) refl;
  breaks = same_break refl;
})
  where
    joined : (i : ReplicaInfo) → q.replica.info ≡ Some i → joined_at (w.dialled c).to (stamp_in q.replica) ≡ joined_as i.stamp.0 (node_of w c) (w.lives (node_of w c)) ∷ []
    joined i e =
        ap (λ (o : Option ReplicaInfo). joined_at (w.dialled c).to (option_map (λ (h : ReplicaInfo). h.stamp) o)) e
        ∙ ap (λ (l : ℕ). joined_as i.stamp.0 (node_of w c) l ∷ []) (sym alive)

requested-joins : (w : World) (c : ℕ) (f : WriteFields) (asked : Bool) (e : Result Event RequestRefusal) → Plain w → w.lives (node_of w c) ≡ (w.dialled c).to.life → IfOk e IsSetup
    → NodeJoins w (Asks w c f (request_at (record { 0 = c }) f asked (replica_at w c (block_of f)) e))
requested-joins w c f asked (Err x) h alive s = same-node w (Asks w c f (request_at (record { 0 = c }) f asked (replica_at w c (block_of f)) (Err x))) h refl refl refl tt
requested-joins w c f asked (Ok e) h alive s =
    let r = replica_at w c (block_of f) in
    taken-joins w c f asked (transition r.known e) h alive (event-goes r.known e (lasting-setup e s) (h (node_of w c) (block_of f))) (λ t. event-broken r.known e t) (event-taken r.known e s)

failing-write-joins : (w : World) (c : ℕ) (f : WriteFields) (e : Result Event RequestRefusal) → Plain w → IfOk e IsSetup → IfSome (failing_write w c f e) (NodeJoins w)
failing-write-joins w c f (Err x) h s = tt
failing-write-joins w c f (Ok e) h s =
    let b = block_of f in
    let r = replica_at w c b in
    broken-node w c b (setup_change w c f (faulted_request r) (broke_at w c b (replica_event.Other e))) (replica_event.Other e) h refl refl refl refl refl tt (event-goes r.known e (lasting-setup e s) (h (node_of w c) b))

write-joins : (w : World) (c : ℕ) (f : WriteFields) (answered fails : Bool) → Plain w → w.lives (node_of w c) ≡ (w.dialled c).to.life → IfSome (write_request w c f answered fails) (NodeJoins w)
write-joins w c f answered true h alive =
    let held = rule_in (replica_at w c (block_of f)).known in failing-write-joins w c f (request_event (record { 0 = c }) f held) h (request-setup (record { 0 = c }) f held)
write-joins w c f answered false h alive =
    let r = replica_at w c (block_of f) in
    requested-joins w c f (is_asked w c f answered) (request_event (record { 0 = c }) f (rule_in r.known)) h alive (request-setup (record { 0 = c }) f (rule_in r.known))

-- READS AND RECOVERIES

closing-joins : (w : World) (c : ℕ) → Plain w → NodeJoins w (closing w c)
closing-joins w c h = same-node w (closing w c) h refl refl refl tt

unless-joins : (w : World) (fails : Bool) (c : ℕ) → Plain w → IfSome (unless_failing fails (closing w c)) (NodeJoins w)
unless-joins w true c h = tt
unless-joins w false c h = closing-joins w c h

read-change-joins : (w : World) (c b : ℕ) (s : Result ServingState RequestRefusal) → Plain w → NodeJoins w (read_change w c b s)
read-change-joins w c b (Ok s) h = same-node w (read_change w c b (Ok s)) h refl refl refl tt
read-change-joins w c b (Err r) h = same-node w (read_change w c b (Err r)) h refl refl refl tt

piece-joins : (w : World) (c b : ℕ) (s : ServingState) (o : Option Packet) → Plain w → NodeJoins w (piece_as w c b s o)
piece-joins w c b s None h = closing-joins w c h
piece-joins w c b s (Some p) h = same-node w (piece_as w c b s (Some p)) h refl refl refl tt

-- an event that leaves a record's info
breaking-joins : (w : World) (c b : ℕ) (e : Event) (ms : List Message) → Plain w → IsNoSetup e → NodeJoins w (breaking w c b (broken (replica_at w c b)) (replica_event.Other e) ms)
breaking-joins w c b e ms h n =
    broken-node w c b (breaking w c b (broken (replica_at w c b)) (replica_event.Other e) ms) (replica_event.Other e) h refl refl refl refl refl tt (row-goes (replica_at w c b) (replica_event.Other e) n (h (node_of w c) b))

failing-read-joins : (w : World) (c b : ℕ) (e : Result Event RequestRefusal) → Plain w → IfOk e IsNoSetup → IfSome (failing_read w c b e) (NodeJoins w)
failing-read-joins w c b (Err r) h n = tt
failing-read-joins w c b (Ok e) h n = breaking-joins w c b e _ h n

read-nothing : (r : ReadOp) → IfOk (read_event r) IsNoSetup
unfolding read_event
read-nothing r = if-each (λ (e : Result Event RequestRefusal). IfOk e IsNoSetup) (is_in_pool r.block) (Ok (event.Read r.block.stamp r.offset r.len)) (Err refusal.Pool) (λ _. tt) (λ _. tt)

read-joins : (w : World) (c : ℕ) (r : ReadOp) (fails : Bool) → Plain w → IfSome (read_request w c r fails) (NodeJoins w)
read-joins w c r true h = failing-read-joins w c r.block.block.0 (read_event r) h (read-nothing r)
read-joins w c r false h = read-change-joins w c r.block.block.0 (read_at r (replica_at w c r.block.block.0)) h

serve-joins : (w : World) (c b : ℕ) (s : ServingState) (o : Option Event) (fails : Bool) → Plain w → IfSome o IsNoSetup → IfSome (serve_change w c b s o fails) (NodeJoins w)
serve-joins w c b s None fails h n = tt
serve-joins w c b s (Some e) true h n = breaking-joins w c b e [] h n
serve-joins w c b s (Some e) false h n = piece-joins w c b (piece_at s (replica_at w c b)).serving (piece_at s (replica_at w c b)).packet h

served-joins : (w : World) (c : ℕ) (q : RecoveryOp) (e : Result Event RecoveryReply) → Plain w → IfOk e IsNoSetup → NodeJoins w (recovery_change w c q (served_as (replica_at w c q.block.block.0) e) (w.breaks (node_of w c) q.block.block.0))
served-joins w c q (Err said) h n = same-node w (recovery_change w c q (served_as (replica_at w c q.block.block.0) (Err said)) (w.breaks (node_of w c) q.block.block.0)) h refl refl refl tt
served-joins w c q (Ok e) h n = row-node w (recovery_change w c q (served_as (replica_at w c q.block.block.0) (Ok e)) (w.breaks (node_of w c) q.block.block.0)) (replica_event.Other e) h n refl refl refl tt

failing-recovery-joins : (w : World) (c : ℕ) (q : RecoveryOp) (e : Result Event RecoveryReply) → Plain w → IfOk e IsNoSetup → IfSome (failing_recovery w c q e) (NodeJoins w)
failing-recovery-joins w c q (Err said) h n = tt
failing-recovery-joins w c q (Ok e) h n =
    let b = q.block.block.0 in
    broken-node w c b (recovery_change w c q (serve_faulted (replica_at w c b)) (broke_at w c b (replica_event.Other e))) (replica_event.Other e) h refl refl refl refl refl tt (row-goes (replica_at w c b) (replica_event.Other e) n (h (node_of w c) b))

init-nothing : (t : Bool) (named id : Stamp) → IfOk (if t then Err no_recovery else Ok (event.Init named id)) IsNoSetup
init-nothing true named id = tt
init-nothing false named id = tt

step-nothing : (k : RecoveryKind) (q : RecoveryOp) → IfOk (step_event k q) IsNoSetup
step-nothing recovery_kind.Begin q = tt
step-nothing recovery_kind.Init q = init-nothing (q.recovery.0 == 0) q.block.stamp q.recovery
step-nothing recovery_kind.Update q = tt

recovery-nothing : (q : RecoveryOp) → IfOk (recovery_event q) IsNoSetup
unfolding recovery_event
recovery-nothing q = if-each (λ (e : Result Event RecoveryReply). IfOk e IsNoSetup) (is_in_pool q.block) (step_event q.kind q) _ (λ _. step-nothing q.kind q) (λ _. tt)

recovery-joins : (w : World) (c : ℕ) (q : RecoveryOp) (fails : Bool) → Plain w → IfSome (recovery_request w c q fails) (NodeJoins w)
recovery-joins w c q true h = failing-recovery-joins w c q (recovery_event q) h (recovery-nothing q)
recovery-joins w c q false h = served-joins w c q (recovery_event q) h (recovery-nothing q)

-- THE LOWER END

request-joins : (w : World) (c : ℕ) (o : Op) (answered fails : Bool) → Plain w → w.lives (node_of w c) ≡ (w.dialled c).to.life → IfSome (first_message w c (request o) answered fails) (NodeJoins w)
request-joins w c (op.Write f) answered fails h alive = write-joins w c f answered fails h alive
request-joins w c (op.Read r) answered fails h alive = read-joins w c r fails h
request-joins w c (op.Recovery q) answered fails h alive = recovery-joins w c q fails h
request-joins w c (op.Transfer r) answered fails h alive = unless-joins w fails c h
request-joins w c (op.Checksum r) answered fails h alive = unless-joins w fails c h

first-joins : (w : World) (c : ℕ) (m : Message) (answered fails : Bool) → Plain w → w.lives (node_of w c) ≡ (w.dialled c).to.life → IfSome (first_message w c m answered fails) (NodeJoins w)
first-joins w c (request o) answered fails h alive = request-joins w c o answered fails h alive
first-joins w c (packet p) answered fails h alive = unless-joins w fails c h
first-joins w c (ack a) answered fails h alive = unless-joins w fails c h
first-joins w c (response r) answered fails h alive = unless-joins w fails c h
first-joins w c (read_status t) answered fails h alive = unless-joins w fails c h
first-joins w c (recovery_answer a) answered fails h alive = unless-joins w fails c h

next-op-joins : (w : World) (c : ℕ) (o : Op) (fails : Bool) → Plain w → IfSome (next_recovery w c (message (request o)) fails) (NodeJoins w)
next-op-joins w c (op.Write f) fails h = unless-joins w fails c h
next-op-joins w c (op.Read r) fails h = unless-joins w fails c h
next-op-joins w c (op.Recovery q) fails h = recovery-joins w c q fails h
next-op-joins w c (op.Transfer r) fails h = unless-joins w fails c h
next-op-joins w c (op.Checksum r) fails h = unless-joins w fails c h

next-joins : (w : World) (c : ℕ) (x : Next) (fails : Bool) → Plain w → IfSome (next_recovery w c x fails) (NodeJoins w)
next-joins w c (message (request o)) fails h = next-op-joins w c o fails h
next-joins w c (message (packet p)) fails h = unless-joins w fails c h
next-joins w c (message (ack a)) fails h = unless-joins w fails c h
next-joins w c (message (response r)) fails h = unless-joins w fails c h
next-joins w c (message (read_status t)) fails h = unless-joins w fails c h
next-joins w c (message (recovery_answer a)) fails h = unless-joins w fails c h
next-joins w c the_end fails h = unless-joins w fails c h

pub lower-down-joins : (l : Lower) (w : World) (c : ℕ) (x : Next) (answered fails : Bool) → Plain w → w.lives (node_of w c) ≡ (w.dialled c).to.life → IfSome (lower_down l w c x answered fails) (NodeJoins w)
lower-down-joins idle w c (message m) answered fails h alive = first-joins w c m answered fails h alive
lower-down-joins idle w c the_end answered fails h alive = unless-joins w fails c h
lower-down-joins (writes m) w c x answered fails h alive = down-joins w c m x fails h
lower-down-joins (serves b t) w c x answered fails h alive = unless-joins w fails c h
lower-down-joins recovers w c x answered fails h alive = next-joins w c x fails h
lower-down-joins ended_below w c x answered fails h alive = tt

serving-nothing : (q : ServePhase) (s : ServingState) → IfSome (call_at q s) IsNoSetup
serving-nothing serve_phase.Sending s = tt
serving-nothing serve_phase.Awaiting s = tt
serving-nothing serve_phase.Over s = tt

pub lower-ready-joins : (l : Lower) (w : World) (c : ℕ) (fails : Bool) → Plain w → IfSome (lower_ready l w c fails) (NodeJoins w)
lower-ready-joins idle w c fails h = tt
lower-ready-joins (writes m) w c fails h = ready-joins w c m fails h
lower-ready-joins (serves b t) w c fails h = serve-joins w c b t (next_call t) fails h (serving-nothing t.phase t)
lower-ready-joins recovers w c fails h = tt
lower-ready-joins ended_below w c fails h = tt

pub mirror-up-joins : (l : Lower) (w : World) (d : ℕ) (x : Next) (fails : Bool) → Plain w → IfSome (mirror_up l w d x fails) (NodeJoins w)
mirror-up-joins idle w d x fails h = tt
mirror-up-joins (writes m) w d x fails h = when-each (NodeJoins w) (is_alive w (w.dialled d).to) _ (λ _. up-joins w d m x fails h)
mirror-up-joins (serves b t) w d x fails h = tt
mirror-up-joins recovers w d x fails h = tt
mirror-up-joins ended_below w d x fails h = tt

-- a change that touches no replica
pub untouched-joins : (w : World) (k : Change) → Plain w → Untouched w k → NodeJoins w k
untouched-joins w k h u = same-node w k h (ap (λ (r : FullReplica). r.known) u.replica) u.joined u.broke u.tells
