-- What a write request makes of what answers and acks say.
use Rattle.std.proofs.Common.{◌≡◌, ℕ, zero, suc, ◌<◌, ◌≤◌, ◌+◌, ◌-◌, ◌⊎◌, inl, inr, Bool, true, false, List, [], ◌∷◌, ◌++◌, length, take, slice_get, Option, Some, None, IfSome, Result, Ok, Err, IfOk, refl, sym, ◌∙◌, ap, subst, arith, eqb-true}
use Rattle.std.specs.Prelude.{◌==◌, not, is_none, nat_le, option_map, unwrap_or, if◌then◌else◌}
use Rattle.std.proofs.lemmas.Bool.{false≢true}
use Rattle.std.proofs.lemmas.Bool.Decides.{nat_tests}
use Rattle.std.proofs.lemmas.Option.{none-some, same_Some}
use Rattle.hd_base.specs.Results.{◌>>=◌}
use Rattle.hd_base.specs.SumRules.{Rule}
use Rattle.hd_base.specs.declared.numbers.ConnId.{ConnId}
use Rattle.hd_base.specs.declared.numbers.Stamp.{Stamp}
use Rattle.hd_base.specs.declared.states.ReplicaState.{ReplicaState}
use Rattle.hd_base.specs.declared.states.ReplicaState.TheVariants as state
use Rattle.op_headers.specs.declared.nodes.NodeRef.{NodeRef}
use Rattle.op_headers.specs.declared.ops.Op.TheVariants as op
use Rattle.op_headers.specs.Values.{WriteFields}
use Rattle.world_recoveries.specs.NodeRefs.NodeRefs.{ref_of}
use Rattle.replica_core.specs.declared.events.Answer.TheVariants as core_answer
use Rattle.replica_core.specs.declared.events.Event.{Event}
use Rattle.replica_core.specs.declared.events.Event.TheVariants as event
use Rattle.replica_core.specs.declared.info.ReplicaInfo.{ReplicaInfo}
use Rattle.replica_core.specs.declared.records.ReplicaRecord.{ReplicaRecord}
use Rattle.replica_core.specs.declared.refusals.Refusal.{Refusal}
use Rattle.replica_core.specs.Info.{settled_at, visible_of, reopen, recover_setup, recover_stream}
use Rattle.replica_core.specs.Transitions.{Outcome, transition, record_after, state_after, present, with_writer, set_writer, new_transition, done, Taken}
use Rattle.replica_core.specs.Transitions as core
use Rattle.replica_core.specs.Views.{rule_in, written_in, stamp_in}
use Rattle.replica_core.proofs.InfoLemmas.{reopen_is, recover_setup_is, recover_stream_is, present_is}
use Rattle.replica_model.specs.declared.events.ReplicaEvent.TheVariants as replica_event
use Rattle.replica_model.specs.Rows.{FullReplica, row, broken}
use Rattle.request_refusals.specs.declared.refusals.RequestRefusal.{RequestRefusal}
use Rattle.request_refusals.specs.declared.refusals.RequestRefusal.TheVariants as refusal
use Rattle.request_refusals.specs.Pools.{is_in_pool}
use Rattle.member_core.specs.declared.effects.Effect.{Effect}
use Rattle.member_core.specs.declared.effects.SetupAnswer.TheVariants as answer
use Rattle.member_core.specs.declared.effects.Upward.{Upward}
use Rattle.member_core.specs.declared.effects.Upward.TheVariants as upward
use Rattle.member_core.specs.declared.member.Mirror.{Mirror}
use Rattle.member_core.specs.declared.member.Mirror.TheVariants as mirror
use Rattle.member_core.specs.declared.requests.SetupKind.{SetupKind}
use Rattle.member_core.specs.declared.requests.SetupKind.TheVariants as kind
use Rattle.member_core.specs.declared.requests.TheConstants.{MAX_BELOW, MAX_PORT}
use Rattle.member_core.specs.Members.{MemberState, set_up, set_up_at}
use Rattle.member_core.specs.Requests.{setup_with, rule_for, named_setup, named_rule, setup_event, request_event, request_from, request_to, mirror_request, response_of}
use Rattle.member_core.specs.Steps.{Setup, request_at, refused_request, booked_request, refused_by, faulted_request}
use Rattle.world_recoveries.specs.World.Parts.{Message, request, response, Dialled, by_member, idle, ended_below, Break, Joined}
use Rattle.world_recoveries.specs.World.Worlds.{World, Dial, Change, dial_at, past_after, apply}
use Rattle.world_recoveries.specs.World.Nodes.{node_of, node_on, replica_at, block_of, broke_at, joined_at, sent_up, mirror_node, is_asked, mirror_dial, dials_of, setup_change, failing_write, write_request}
use Rattle.world_recoveries.specs.World.Safe.{Has}
use Rattle.world_recoveries.proofs.WorldLaws.FactTables.{if-each}
use Rattle.world_recoveries.specs.WorldLaws.Stamping.{Givens}
use Rattle.world_recoveries.specs.WorldLaws.Carrying.{stamp_set, new_stamp, WriteSays}
use Rattle.world_recoveries.proofs.WorldLaws.ByteAsking.{first-dial}
use Rattle.world_recoveries.proofs.WorldLaws.ByteFrame.{Each, each-nil, each-one}
use Rattle.world_recoveries.proofs.WorldLaws.ByteLeaves.{Facts, sent-each}
use Rattle.world_recoveries.specs.WorldLaws.Joining.{joined_as}
use Rattle.world_recoveries.proofs.WorldLaws.SetupRising.{event-goes, event-broken}
use Rattle.world_recoveries.specs.Recovering.{Recovering}
use Rattle.world_acks.specs.Acking.{Shown, Seat, Asked, IsPipe, least_of, promised, JoinSeat, Ends, UpTells, DownTells, UpperTells, Pends}
use Rattle.world_acks.proofs.Shows.{stream-open}
use Rattle.world_acks.specs.Closing.{FinalUnder, BrokeFinal, StandsClosed}
use Rattle.world_acks.specs.Waiting.{Waits, IsQuiet}
use Rattle.world_acks.proofs.Requests.{NewRequest, of_member, Requesting, still-requests, quiet-taken, lower-there}
use Rattle.world_acks.proofs.Passing.{StampSteps, stamps-setup, passes-none}
use Rattle.world_acks.proofs.Seats.{has-right, has-one, shown-less, told-none, Steps, steps-row, steps-same}
use Rattle.world_acks.proofs.Turning.{Known, shown-says, no-break, lone-closed}
use Rattle.world_acks.proofs.Lowers.{Leaf, still-numbers, aside-begun, after-at, after-breaks, writes-busy, same-pends, row-pends, row-steps}

-- THE EVENT

-- the event of a request
pub record IsRequest (conn : ConnId) (f : WriteFields) (e : Event) : Type 0 where
  pub kind_of : SetupKind
  pub sums : Rule
  pub stage : setup_with f.stage ≡ Some kind_of
  pub is : e ≡ setup_event conn f sums kind_of

checked : (conn : ConnId) (f : WriteFields) (b : Bool) (e : RequestRefusal) (r : Result Event RequestRefusal) → IfOk r (IsRequest conn f) → IfOk (if b then r else Err e) (IsRequest conn f)
checked conn f true e r h = h
checked conn f false e r h = tt

few-request : (conn : ConnId) (f : WriteFields) (s : SetupKind) (o : Option Rule) → setup_with f.stage ≡ Some s
    → IfOk (named_rule f o >>= (λ sums. if nat_le (length f.targets) MAX_BELOW then Ok (setup_event conn f sums s) else Err (refusal.TooMany (length f.targets)))) (IsRequest conn f)
few-request conn f s None q = tt
few-request conn f s (Some r) q = checked conn f (nat_le (length f.targets) MAX_BELOW) _ (Ok (setup_event conn f r s)) (record { kind_of = s; sums = r; stage = q; is = refl })

named-request : (conn : ConnId) (f : WriteFields) (held : Option Rule) (o : Option SetupKind) → setup_with f.stage ≡ o
    → IfOk (named_setup f.stage o >>= (λ kind. named_rule f (rule_for f held) >>= (λ sums. if nat_le (length f.targets) MAX_BELOW then Ok (setup_event conn f sums kind) else Err (refusal.TooMany (length f.targets))))) (IsRequest conn f)
named-request conn f held None q = tt
named-request conn f held (Some s) q = few-request conn f s (rule_for f held) q

pub request-is : (conn : ConnId) (f : WriteFields) (held : Option Rule) → IfOk (request_event conn f held) (IsRequest conn f)
unfolding request_event
request-is conn f held = checked conn f (is_in_pool f.block) refusal.Pool _ (named-request conn f held (setup_with f.stage) refl)

-- WHAT IT LEAVES

-- a replica under this stamp that shows at least so many bytes
pub record Set (s : SetupKind) (c : ReplicaRecord) (stamp : Stamp) (n : ℕ) : Type 0 where
  pub info : ReplicaInfo
  pub is : c.info ≡ Some info
  pub under : info.stamp ≡ stamp
  pub visible : ℕ
  pub sees : visible_of info ≡ Some visible
  pub enough : n ≤ visible
  pub within : visible ≤ info.written
  pub final : s ≡ kind.CloseRecovery → info.original ≡ state.Finalized
  pub free : info.recovery ≡ None

-- a setup that was taken, at a replica that wasn't broken
pub record WasSet (s : SetupKind) (stamp : Stamp) (n : ℕ) (t : Taken) (broken : Bool) : Type 0 where
  pub set : Set s t.replica stamp n
  pub done : t.answer ≡ core_answer.Done
  pub sound : broken ≡ false

abbrev pub SetOr : SetupKind → Stamp → ℕ → Bool → Outcome → Type 0
SetOr s stamp n broken (Ok t) = WasSet s stamp n t broken
SetOr s stamp n broken (Err e) = Unit {0}

not-true : (b : Bool) → not b ≡ true → b ≡ false
not-true true e = absurd (false≢true e)
not-true false e = refl

there-set : (s : SetupKind) (stamp : Stamp) (n : ℕ) (c : ReplicaRecord) (next : ReplicaInfo → Outcome) → (c.is_broken ≡ false → (i : ReplicaInfo) → SetOr s stamp n c.is_broken (next i)) → SetOr s stamp n c.is_broken (present c >>= next)
there-set s stamp n c next onward = go (present c) refl
  where
    go : (r : Result ReplicaInfo Refusal) → present c ≡ r → SetOr s stamp n c.is_broken (r >>= next)
    go (Ok i) e = onward (present_is c i e).0 i
    go (Err x) e = tt

abbrev IsClose : SetupKind → ReplicaState → Type 0
IsClose s at = s ≡ kind.CloseRecovery → at ≡ state.Finalized

-- settled at such a length
settled-set : (s : SetupKind) (c : ReplicaRecord) (writer : Option ConnId) (at : ReplicaState) (t : Stamp) (r : Rule) (k n : ℕ) → visible_of (settled_at at t r k) ≡ Some k → n ≤ k → IsClose s at → Set s (set_writer c (settled_at at t r k) writer) t n
settled-set s c writer at t r k n sees le final = record { info = settled_at at t r k; is = refl; under = refl; visible = k; sees = sees; enough = le; within = omega arith; final = final; free = refl }

writer-set : (s : SetupKind) (c : ReplicaRecord) (writer : Option ConnId) (next : Result ReplicaInfo Refusal) (at : ReplicaState) (t : Stamp) (n : ℕ) → c.is_broken ≡ false → IsClose s at → ((r : Rule) (k : ℕ) → visible_of (settled_at at t r k) ≡ Some k)
    → ((j : ReplicaInfo) → next ≡ Ok j → (r : Rule) × (k : ℕ) × (j ≡ settled_at at t r k) × (n ≤ k)) → SetOr s t n c.is_broken (with_writer c writer next)
writer-set s c writer next at t n sound final sees h = go next refl
  where
    go : (r : Result ReplicaInfo Refusal) → next ≡ r → SetOr s t n c.is_broken (with_writer c writer r)
    go (Err x) e = tt
    go (Ok j) e =
        let x = h j e in
        record { set = subst (λ (i : ReplicaInfo). Set s (set_writer c i writer) t n) (sym x.2) (settled-set s c writer at t x.0 x.1 n (sees x.0 x.1) x.3 final); done = refl; sound = sound }

create-isnt : IsClose kind.Create state.Rbw
create-isnt e = cc

append-isnt : IsClose kind.Append state.Rbw
append-isnt e = cc

again-isnt : IsClose kind.AppendRecovery state.Rbw
again-isnt e = cc

stream-isnt : IsClose kind.StreamRecovery state.Rbw
stream-isnt e = cc

new-set : (c : ReplicaRecord) (conn : ConnId) (t : Stamp) (r : Rule) → SetOr kind.Create t 0 c.is_broken (new_transition c state.Rbw conn t r)
new-set c conn t r =
    if-each (λ (o : Outcome). SetOr kind.Create t 0 c.is_broken o) (not c.is_broken) _ _
    (λ e. if-each (λ (o : Outcome). SetOr kind.Create t 0 c.is_broken o) (is_none c.info) _ _
    (λ _. record { set = settled-set kind.Create c (Some conn) state.Rbw t r 0 0 refl (omega arith) create-isnt; done = refl; sound = not-true c.is_broken e }) (λ _. tt)) (λ _. tt)

setup-set : (c : ReplicaRecord) (conn : ConnId) (f : WriteFields) (r : Rule) (s : SetupKind) → SetOr s (stamp_set (Some s) f.block.stamp f.latest) (least_of (Some s) f.min) c.is_broken (transition c (setup_event conn f r s))
unfolding transition
setup-set c conn f r kind.Create = new-set c conn f.block.stamp r
setup-set c conn f r kind.Append =
    there-set kind.Append f.latest f.min c _ (λ b i. writer-set kind.Append c (Some conn) (reopen i f.block.stamp f.latest f.min) state.Rbw f.latest f.min b append-isnt (λ x k. refl)
    (λ j e. (i.sums, f.min, (reopen_is i j f.block.stamp f.latest f.min e).0, omega arith)))
setup-set c conn f r kind.AppendRecovery =
    there-set kind.AppendRecovery f.latest f.min c _ (λ b i. writer-set kind.AppendRecovery c (Some conn) (recover_setup i f.block.stamp f.latest f.min state.Rbw) state.Rbw f.latest f.min b again-isnt (λ x k. refl)
    (λ j e. (i.sums, f.min, (recover_setup_is i j f.block.stamp f.latest f.min state.Rbw e).0, omega arith)))
setup-set c conn f r kind.StreamRecovery =
    there-set kind.StreamRecovery f.latest f.min c _ (λ b i. writer-set kind.StreamRecovery c (Some conn) (recover_stream i f.block.stamp f.latest f.min f.max) state.Rbw f.latest f.min b stream-isnt (λ x k. refl)
    (λ j e. (i.sums, i.acked, recover_stream_is i j f.block.stamp f.latest f.min f.max e, (stream-open i j f.block.stamp f.latest f.min f.max e).1)))
setup-set c conn f r kind.CloseRecovery =
    there-set kind.CloseRecovery f.latest f.min c _ (λ b i. writer-set kind.CloseRecovery c None (recover_setup i f.block.stamp f.latest f.min state.Finalized) state.Finalized f.latest f.min b (λ _. refl) (λ x k. refl)
    (λ j e. (i.sums, f.min, (recover_setup_is i j f.block.stamp f.latest f.min state.Finalized e).0, omega arith)))

pub request-set : (c : ReplicaRecord) (conn : ConnId) (f : WriteFields) (e : Event) → (q : IsRequest conn f e) → SetOr q.kind_of (new_stamp f) (promised f) c.is_broken (transition c e)
request-set c conn f e q =
    subst (λ (x : Event). SetOr q.kind_of (new_stamp f) (promised f) c.is_broken (transition c x)) (sym q.is)
    (subst (λ (o : Option SetupKind). SetOr q.kind_of (stamp_set o f.block.stamp f.latest) (least_of o f.min) c.is_broken (transition c (setup_event conn f q.sums q.kind_of))) (sym q.stage) (setup-set c conn f q.sums q.kind_of))

-- REPLICAS

goes-steps : (g : Givens) (t : Ends) (w : World) (k : Change) (conn : ConnId) (f : WriteFields) (r : Rule) (s : SetupKind) → Known g t w → k.replica ≡ row (w.replicas k.node k.block) (replica_event.Other (setup_event conn f r s)) → StampSteps w k → Steps w k
goes-steps g t w k conn f r kind.Create h q st = let o = (w.replicas k.node k.block).known in steps-row w k (replica_event.Other (setup_event conn f r kind.Create)) (λ b. ap (λ (x : FullReplica). x.known.is_broken) q ∙ event-broken o (setup_event conn f r kind.Create) b) q tt (event-goes o (setup_event conn f r kind.Create) tt (h.sets.plain k.node k.block)) st
goes-steps g t w k conn f r kind.Append h q st = let o = (w.replicas k.node k.block).known in steps-row w k (replica_event.Other (setup_event conn f r kind.Append)) (λ b. ap (λ (x : FullReplica). x.known.is_broken) q ∙ event-broken o (setup_event conn f r kind.Append) b) q tt (event-goes o (setup_event conn f r kind.Append) tt (h.sets.plain k.node k.block)) st
goes-steps g t w k conn f r kind.AppendRecovery h q st = let o = (w.replicas k.node k.block).known in steps-row w k (replica_event.Other (setup_event conn f r kind.AppendRecovery)) (λ b. ap (λ (x : FullReplica). x.known.is_broken) q ∙ event-broken o (setup_event conn f r kind.AppendRecovery) b) q tt (event-goes o (setup_event conn f r kind.AppendRecovery) tt (h.sets.plain k.node k.block)) st
goes-steps g t w k conn f r kind.StreamRecovery h q st = let o = (w.replicas k.node k.block).known in steps-row w k (replica_event.Other (setup_event conn f r kind.StreamRecovery)) (λ b. ap (λ (x : FullReplica). x.known.is_broken) q ∙ event-broken o (setup_event conn f r kind.StreamRecovery) b) q tt (event-goes o (setup_event conn f r kind.StreamRecovery) tt (h.sets.plain k.node k.block)) st
goes-steps g t w k conn f r kind.CloseRecovery h q st = let o = (w.replicas k.node k.block).known in steps-row w k (replica_event.Other (setup_event conn f r kind.CloseRecovery)) (λ b. ap (λ (x : FullReplica). x.known.is_broken) q ∙ event-broken o (setup_event conn f r kind.CloseRecovery) b) q tt (event-goes o (setup_event conn f r kind.CloseRecovery) tt (h.sets.plain k.node k.block)) st

goes-pends : (g : Givens) (t : Ends) (w : World) (k : Change) (conn : ConnId) (f : WriteFields) (r : Rule) (s : SetupKind) → Known g t w → k.replica ≡ row (w.replicas k.node k.block) (replica_event.Other (setup_event conn f r s))
    → IfSome k.replica.known.info (Pends g t k.block k.replica.known)
goes-pends g t w k conn f r kind.Create h q = row-pends g t w k (replica_event.Other (setup_event conn f r kind.Create)) h q tt
goes-pends g t w k conn f r kind.Append h q = row-pends g t w k (replica_event.Other (setup_event conn f r kind.Append)) h q tt
goes-pends g t w k conn f r kind.AppendRecovery h q = row-pends g t w k (replica_event.Other (setup_event conn f r kind.AppendRecovery)) h q tt
goes-pends g t w k conn f r kind.StreamRecovery h q = row-pends g t w k (replica_event.Other (setup_event conn f r kind.StreamRecovery)) h q tt
goes-pends g t w k conn f r kind.CloseRecovery h q = row-pends g t w k (replica_event.Other (setup_event conn f r kind.CloseRecovery)) h q tt

request-steps : (g : Givens) (t : Ends) (w : World) (k : Change) (c : ℕ) (conn : ConnId) (f : WriteFields) (e : Event) → Known g t w → IsRequest conn f e → k.replica ≡ row (w.replicas k.node k.block) (replica_event.Other e)
    → slice_get (w.downs c) 0 ≡ Some (request (op.Write f)) → block_of f ≡ k.block → Steps w k
request-steps g t w k c conn f e h q r asked block =
    let is = r ∙ ap (λ (x : Event). row (w.replicas k.node k.block) (replica_event.Other x)) q.is in
    goes-steps g t w k conn f q.sums q.kind_of h is (stamps-setup w k c conn f q.sums q.kind_of asked block q.stage (ap (λ (x : FullReplica). x.known) is))

request-pends : (g : Givens) (t : Ends) (w : World) (k : Change) (conn : ConnId) (f : WriteFields) (e : Event) → Known g t w → IsRequest conn f e → k.replica ≡ row (w.replicas k.node k.block) (replica_event.Other e)
    → IfSome k.replica.known.info (Pends g t k.block k.replica.known)
request-pends g t w k conn f e h q r = goes-pends g t w k conn f q.sums q.kind_of h (r ∙ ap (λ (x : Event). row (w.replicas k.node k.block) (replica_event.Other x)) q.is)

-- REFUSED

pub ended-busy : ended_below ≡ idle → ⊥
ended-busy e = cc

abbrev Made : World → ℕ → WriteFields → Setup → Option Break → Change
Made w c f s b = setup_change w c f s b

refused-leaf : (g : Givens) (t : Ends) (w : World) (c : ℕ) (f : WriteFields) (r : FullReplica) (q : RequestRefusal) (b : Option Break) → Known g t w → Steps w (Made w c f (refused_request r q) b)
    → IfSome r.known.info (Pends g t (block_of f) r.known) → Leaf g t w (Made w c f (refused_request r q) b)
unfolding response_of
refused-leaf g t w c f r q b h steps pends =
    let k = Made w c f (refused_request r q) b in
    let v = apply w k in
    record {
      steps = steps;
      requests = still-requests w k h.requests refl refl (λ e. absurd (ended-busy e));
      news = λ on facts recovers. record {
        ups = sent-each (UpTells g t v) c _ (each-one (UpTells g t v c) (response (response_of f (answer.Refused q))) (λ e. absurd (false≢true e)));
        downs = λ d. each-nil (DownTells g t v d);
        dials = λ i d e. absurd (none-some d e);
        uppers = λ i d e. absurd (none-some d e);
        lower = tt;
        replica = pends;
        joined = λ p n l j. absurd (none-some _ j.there);
        writers = still-numbers g t w k h.acked refl refl;
        begun = aside-begun g t w k h.acked refl;
      };
    }

-- A NEW MEMBER

record IsNewMember (f : WriteFields) (asked : Bool) (x : MemberState × Effect) : Type 0 where
  pub asks : x.0.mirror ≡ mirror.Asked → asked ≡ true
  pub alone : x.0.mirror ≡ mirror.Nobody → f.targets ≡ []
  pub sends : (x.1.sends ≡ None) ⊎ ((x.1.sends ≡ Some (upward.Answer answer.Success)) × (f.targets ≡ []))

none-length : (xs : List NodeRef) → (length xs == 0) ≡ true → xs ≡ []
none-length [] e = refl
none-length (x ∷ xs) e = absurd (never (length xs) e)
  where
    never : (n : ℕ) → (suc n == 0) ≡ true → ⊥
    never n q = absurd (omega (arith, eqb-true (suc n) 0 q))

new-as : (f : WriteFields) (conn : ConnId) (asked none : Bool) → (none ≡ true → f.targets ≡ []) → IsNewMember f asked (set_up_at (if none then mirror.Nobody else (if asked then mirror.Asked else mirror.Unreachable)) f conn)
new-as f conn asked true h = record { asks = λ e. absurd (never e); alone = λ _. h refl; sends = inr (refl, h refl) }
  where
    never : mirror.Nobody ≡ mirror.Asked → ⊥
    never e = cc
new-as f conn true false h = record { asks = λ _. refl; alone = λ e. absurd (never e); sends = inl refl }
  where
    never : mirror.Asked ≡ mirror.Nobody → ⊥
    never e = cc
new-as f conn false false h = record { asks = λ e. absurd (never e); alone = λ e. absurd (other e); sends = inl refl }
  where
    never : mirror.Unreachable ≡ mirror.Asked → ⊥
    never e = cc

    other : mirror.Unreachable ≡ mirror.Nobody → ⊥
    other e = cc

new-member : (f : WriteFields) (conn : ConnId) (asked : Bool) → IsNewMember f asked (set_up conn f asked)
unfolding set_up
new-member f conn asked = new-as f conn asked (length f.targets == 0) (none-length f.targets)

-- THE DIAL

-- a dial of a mirror, with the first of the targets
pub record DialsMirror (w : World) (c : ℕ) (f : WriteFields) (d : Dial) : Type 0 where
  pub source : NodeRef
  pub first : NodeRef
  pub rest : List NodeRef
  pub targets : f.targets ≡ first ∷ rest
  pub request_is : d.request ≡ request (op.Write (request_from source f rest))
  pub upper : d.dialled.upper ≡ by_member c
  pub node : node_on first.xfer ≡ Some d.dialled.to.node

dial-is : (w : World) (c : ℕ) (f : WriteFields) (source : NodeRef) (ts : List NodeRef) (o : Option WriteFields) (n : Option ℕ) → f.targets ≡ ts → request_to source f ts ≡ o → mirror_node ts ≡ n → (i : ℕ) (d : Dial)
    → slice_get (mirror_dial w c o n) i ≡ Some d → DialsMirror w c f d
dial-is w c f source ts None n a b e i d q = absurd (none-some d q)
dial-is w c f source ts (Some k) None a b e i d q = absurd (none-some d q)
dial-is w c f source [] (Some k) (Some n) a b e i d q = absurd (none-some k b)
dial-is w c f source (t ∷ ts) (Some k) (Some n) a b e zero d q = subst (λ (x : Dial). DialsMirror w c f x) (same_Some _ d q) (record {
  source = source;
  first = t;
  rest = ts;
  targets = a;
  request_is = ap (λ (x : WriteFields). request (op.Write x)) (sym (go (nat_le t.xfer MAX_PORT) b));
  upper = refl;
  node = e;
})
  where
    go : (z : Bool) → (if z then Some (request_from source f ts) else None) ≡ Some k → request_from source f ts ≡ k
    go true r = same_Some (request_from source f ts) k r
    go false r = absurd (none-some k r)
dial-is w c f source (t ∷ ts) (Some k) (Some n) a b e (suc i) d q = absurd (none-some d q)

pub member-dial : (w : World) (c : ℕ) (f : WriteFields) (m : Mirror) (i : ℕ) (d : Dial) → slice_get (dials_of m w c f) i ≡ Some d → DialsMirror w c f d
unfolding mirror_request
member-dial w c f mirror.Asked i d e = dial-is w c f (ref_of (record { 0 = node_of w c })) f.targets _ _ refl refl refl i d e
member-dial w c f mirror.Nobody i d e = absurd (none-some d e)
member-dial w c f mirror.Unreachable i d e = absurd (none-some d e)
member-dial w c f mirror.Open i d e = absurd (none-some d e)
member-dial w c f mirror.Ended i d e = absurd (none-some d e)

one-dial : (w : World) (c : ℕ) (o : Option WriteFields) (n : Option ℕ) (i : ℕ) (d : Dial) → slice_get (mirror_dial w c o n) i ≡ Some d → i ≡ 0
one-dial w c None n i d e = absurd (none-some d e)
one-dial w c (Some f) None i d e = absurd (none-some d e)
one-dial w c (Some f) (Some n) zero d e = refl
one-dial w c (Some f) (Some n) (suc i) d e = absurd (none-some d e)

-- a member dials once
one-mirror : (w : World) (c : ℕ) (f : WriteFields) (m : Mirror) (i : ℕ) (d : Dial) → slice_get (dials_of m w c f) i ≡ Some d → i ≡ 0
one-mirror w c f mirror.Asked i d e = one-dial w c _ _ i d e
one-mirror w c f mirror.Nobody i d e = absurd (none-some d e)
one-mirror w c f mirror.Unreachable i d e = absurd (none-some d e)
one-mirror w c f mirror.Open i d e = absurd (none-some d e)
one-mirror w c f mirror.Ended i d e = absurd (none-some d e)

-- what a new connection is
pub dialled-new : (w : World) (k : Change) (i : ℕ) (d : Dial) → slice_get k.dials i ≡ Some d → (past_after w k).dialled (w.next_conn + i) ≡ d.dialled
dialled-new w k i d e = ap (λ (o : Option Dial). unwrap_or (option_map (λ (x : Dial). x.dialled) o) (w.dialled (w.next_conn + i))) at
  where
    at : dial_at w.next_conn k.dials (w.next_conn + i) ≡ Some d
    at = if-each (λ (o : Option Dial). o ≡ Some d) (nat_le w.next_conn (w.next_conn + i)) (slice_get k.dials (w.next_conn + i - w.next_conn)) None
        (λ _. subst (λ (j : ℕ). slice_get k.dials j ≡ Some d) (sub w.next_conn i) e) (λ f. absurd (low f))
      where
        sub : (a b : ℕ) → b ≡ a + b - a
        sub a b = omega arith

        low : nat_le w.next_conn (w.next_conn + i) ≡ false → ⊥
        low f = grind (arith, nat_tests, f)

mirror-tells : (g : Givens) (t : Ends) (w : World) (k : Change) (c : ℕ) (f : WriteFields) (i : ℕ) (d : Dial) → Facts g w → ((c : ℕ) → k.downs c ≡ []) → slice_get k.dials i ≡ Some d → Asked (past_after w k) c f → DialsMirror w c f d
    → DownTells g t (apply w k) (w.next_conn + i) d.request × UpperTells (past_after w k) (w.next_conn + i) d.dialled.upper
mirror-tells g t w k c f i d h none e a x = (
  subst (λ (m : Message). DownTells g t (apply w k) (w.next_conn + i) m) (sym x.request_is) tt,
  subst (λ u. UpperTells (past_after w k) (w.next_conn + i) u) (sym x.upper) (record {
    fields = f;
    asked = a;
    source = x.source;
    first = x.first;
    rest = x.rest;
    targets = x.targets;
    node = x.node ∙ ap (λ (y : Dialled). Some y.to.node) (sym (dialled-new w k i d e));
    mirror = record { first = first-dial g w k i d h none e ∙ ap (λ (m : Message). Some m) x.request_is };
  }),
)

-- TAKEN

-- the replica after an outcome
abbrev after : FullReplica → Outcome → FullReplica
after r o = record { known = record_after r.known o; bytes = take (written_in (record_after r.known o)) (r.bytes ++ []) }

abbrev Asks : World → ℕ → WriteFields → Setup → Change
Asks w c f s = setup_change w c f s (w.breaks (node_of w c) (block_of f))

-- a replica that was set up has a seat
new-seat : (g : Givens) (v : World) (b n life e k : ℕ) (stamp : Stamp) (r : FullReplica) → Facts g v → Recovering g v → v.replicas n b ≡ r → {s : SetupKind} → Set s r.known stamp k → g b stamp.0 ≡ Some e → Has v.joined (joined_as stamp.0 n life) → life ≡ v.lives n
    → Seat v b stamp.0 e n k
new-seat g v b n life e k stamp r facts recovers at x given joins alive = record {
  life = life;
  joins = joins;
  born = omega (arith, alive);
  told = told-none g v b stamp.0 n life k x.info recovers (ap (λ (q : FullReplica). q.known.info) at ∙ x.is) x.free (omega (arith, ap (λ (s : Stamp). s.0) x.under)) alive;
  passes = passes-none g v b stamp.0 n life x.info recovers (ap (λ (q : FullReplica). q.known.info) at ∙ x.is) x.free (ap (λ (s : Stamp). s.0) x.under) alive;
  shows = λ _ _ _ i le _. shown-less (v.replicas n b) stamp.0 i k (v.written e) le (subst (λ (s : Stamp). Shown (v.replicas n b) s.0 k (v.written e)) x.under
      (shown-says g v b (v.replicas n b) x.info e x.visible k (facts.carried.replicas n b) (facts.full n b) (ap (λ (q : FullReplica). q.known.info) at ∙ x.is) (ap (λ (s : Stamp). g b s.0) x.under ∙ given) x.sees x.within x.enough));
}

same-write : (x y : WriteFields) → request (op.Write x) ≡ request (op.Write y) → x ≡ y
same-write x y e = cc

closes-apart : kind.AppendRecovery ≡ kind.CloseRecovery → ⊥
closes-apart e = cc

taken-leaf : (g : Givens) (t : Ends) (w : World) (c : ℕ) (f : WriteFields) (asked : Bool) (r : FullReplica) → Known g t w → WriteSays g w.past c f → w.lowers c ≡ idle → c < w.next_conn → w.lives (node_of w c) ≡ (w.dialled c).to.life
    → (s : SetupKind) → setup_with f.stage ≡ Some s → Set s r.known (new_stamp f) (promised f) → (replica_at w c (block_of f)).known.is_broken ≡ false → Steps w (Asks w c f (booked_request (record { 0 = c }) f asked r None)) → IfSome r.known.info (Pends g t (block_of f) r.known) → Leaf g t w (Asks w c f (booked_request (record { 0 = c }) f asked r None))
unfolding apply response_of
taken-leaf g t w c f asked r h says low lt alive s stage x sound steps pends =
    let conn : ConnId = record { 0 = c } in
    let k = Asks w c f (booked_request conn f asked r None) in
    let v = apply w k in
    let n = node_of w c in
    let made = new-member f conn asked in
    record {
      steps = steps;
      requests = asks;
      news = λ on facts recovers.
          let pipe : IsPipe g v c f says.session = record { known = omega (arith, lt, on.conns); asked = record { first = on.first c (request (op.Write f)) says.first }; given = says.given } in
          let same : (v.dialled c) ≡ (w.dialled c) = on.dialled c lt in
          let joins : Has v.joined (joined_as (new_stamp f).0 n (w.dialled c).to.life) =
          has-right w.joined k.joined (joined_as (new_stamp f).0 n (w.dialled c).to.life) (subst (λ xs. Has xs (joined_as (new_stamp f).0 n (w.dialled c).to.life)) (sym (joined x)) (has-one (joined_as (new_stamp f).0 n (w.dialled c).to.life))) in
          let seat : Seat v (block_of f) (new_stamp f).0 says.session n (promised f) =
          new-seat g v (block_of f) n (w.dialled c).to.life says.session (promised f) (new_stamp f) r facts recovers (after-at w k) x says.given joins (sym alive) in
          let quiet : (k.dials ≡ []) ⊎ (setup_with f.stage ≡ Some kind.AppendRecovery → ⊥) → IsQuiet v (new_stamp f).0 =
          λ either. quiet-taken g g w k f h.requests asks h.facts facts waits (λ e. writes-busy _ (sym (lower-there w k c refl) ∙ e)) either in
          let closes : setup_with f.stage ≡ Some kind.CloseRecovery → StandsClosed g v (block_of f) (new_stamp f).0 (node_of v c) =
          λ e. subst (λ (y : Dialled). StandsClosed g v (block_of f) (new_stamp f).0 y.to.node) (sym same) (record {
            has = inl (record {
              replica = subst (λ (y : FullReplica). FinalUnder (new_stamp f).0 y.known.info) (sym (after-at w k))
                  (record { info = x.info; is = x.is; original = x.final (same_Some s kind.CloseRecovery (sym stage ∙ e)); under = ap (λ (y : Stamp). y.0) x.under });
              broke = subst (λ (o : Option Break). IfSome o (BrokeFinal (new_stamp f).0)) (sym (after-breaks w k)) (no-break g w n (block_of f) (BrokeFinal (new_stamp f).0) h.sets sound);
            });
            quiet = quiet (inr (λ z. closes-apart (same_Some _ _ (sym z ∙ e))));
          }) in
          let there : Seat v (block_of f) (new_stamp f).0 says.session (node_of v c) (promised f) = subst (λ (y : Dialled). Seat v (block_of f) (new_stamp f).0 says.session y.to.node (promised f)) (sym same) seat in
          record {
            ups = sent-each (UpTells g t v) c (sent_up f (set_up conn f asked).1.sends) (up v pipe there closes made.sends);
            downs = λ d. each-nil (DownTells g t v d);
            dials = λ i d e. (mirror-tells g t w k c f i d h.facts (λ _. refl) e pipe.asked (member-dial w c f (set_up conn f asked).0.mirror i d e)).0;
            uppers = λ i d e. (mirror-tells g t w k c f i d h.facts (λ _. refl) e pipe.asked (member-dial w c f (set_up conn f asked).0.mirror i d e)).1;
            lower = record {
              session = says.session;
              pipe = pipe;
              joins = subst (λ (y : Dialled). Has v.joined (joined_as (new_stamp f).0 y.to.node y.to.life)) (sym same) joins;
              seat = there;
              alone = made.alone;
              quiet = λ e. quiet (inl (ap (λ (m : Mirror). dials_of m w c f) e));
              closes = closes;
            };
            replica = pends;
            joined = λ p m l j.
                let here : Has (joined_as (new_stamp f).0 n (w.dialled c).to.life ∷ []) (joined_as p m l) = subst (λ xs. Has xs (joined_as p m l)) (joined x) j in
                (lives p m l here, join-here v pipe seat (ap (λ (y : Dialled). y.to) same) p m l here);
            writers = still-numbers g t w k h.acked refl refl;
            begun = aside-begun g t w k h.acked refl;
          };
    }
  where
    waits : Waits w c f
    waits = record { first = says.first; waits = low }

    change : Change
    change = Asks w c f (booked_request (record { 0 = c }) f asked r None)

    asks : Requesting w change
    asks = record {
      lower = λ e. absurd (writes-busy _ e);
      alone = λ i d e b. refl;
      each = λ i d q e z. (one-mirror w c f (set_up (record { 0 = c }) f asked).0.mirror i d e, mirror-asks (member-dial w c f (set_up (record { 0 = c }) f asked).0.mirror i d e) q z);
      own = h.requests.unasked 0;
    }
      where
        mirror-asks : {d : Dial} → DialsMirror w c f d → (q : WriteFields) → d.request ≡ request (op.Write q) → NewRequest w change q
        mirror-asks x q z =
            let same : q ≡ request_from x.source f x.rest = same-write q (request_from x.source f x.rest) (sym z ∙ x.request_is) in
            of_member f waits (writes-busy _) (ap new_stamp same) (ap (λ (y : WriteFields). y.stage) same)

    joined : (y : Set s r.known (new_stamp f) (promised f)) → joined_at (w.dialled c).to (stamp_in r.known) ≡ joined_as (new_stamp f).0 (node_of w c) (w.dialled c).to.life ∷ []
    joined y =
        ap (λ (o : Option ReplicaInfo). joined_at (w.dialled c).to (option_map (λ (i : ReplicaInfo). i.stamp) o)) y.is
        ∙ ap (λ (s : Stamp). joined_as s.0 (node_of w c) (w.dialled c).to.life ∷ []) y.under

    -- the setup that was accepted is that of the request
    join-here : (v : World) → IsPipe g v c f says.session → Seat v (block_of f) (new_stamp f).0 says.session (node_of w c) (promised f) → (v.dialled c).to ≡ (w.dialled c).to
        → (p m l : ℕ) → Has (joined_as (new_stamp f).0 (node_of w c) (w.dialled c).to.life ∷ []) (joined_as p m l) → JoinSeat g v p m l
    join-here v pipe seat same p m l j = at j.place j.there
      where
        at : (i : ℕ) → slice_get (joined_as (new_stamp f).0 (node_of w c) (w.dialled c).to.life ∷ []) i ≡ Some (joined_as p m l) → JoinSeat g v p m l
        at zero e =
            let y = same_Some (joined_as (new_stamp f).0 (node_of w c) (w.dialled c).to.life) (joined_as p m l) e in
            let stamp : (new_stamp f).0 ≡ p = ap (λ z. z.stamp) y in
            record {
              conn = c;
              fields = f;
              session = says.session;
              pipe = pipe;
              is = stamp;
              to = same ∙ ap (λ (z : Joined). record { node = z.node; life = z.life }) y;
              seat = subst (λ (q : ℕ). Seat v (block_of f) p says.session q (promised f)) (ap (λ z. z.node) y) (subst (λ (q : ℕ). Seat v (block_of f) q says.session (node_of w c) (promised f)) stamp seat);
            }
        at (suc i) e = absurd (none-some _ e)

    lives : (p m l : ℕ) → Has (joined_as (new_stamp f).0 (node_of w c) (w.dialled c).to.life ∷ []) (joined_as p m l) → l ≤ w.lives m
    lives p m l j = at j.place j.there
      where
        same : (s d q : ℕ) → joined_as s d q ≡ joined_as p m l → (d ≡ m) × (q ≡ l)
        same s d q e = (ap (λ z. z.node) e, ap (λ z. z.life) e)

        at : (i : ℕ) → slice_get (joined_as (new_stamp f).0 (node_of w c) (w.dialled c).to.life ∷ []) i ≡ Some (joined_as p m l) → l ≤ w.lives m
        at zero e = let y = same _ _ _ (same_Some _ _ e) in omega (arith, y.1, alive, ap (λ (z : ℕ). w.lives z) y.0)
        at (suc i) e = absurd (none-some _ e)

    up : (v : World) → IsPipe g v c f says.session → Seat v (block_of f) (new_stamp f).0 says.session (node_of v c) (promised f)
        → (setup_with f.stage ≡ Some kind.CloseRecovery → StandsClosed g v (block_of f) (new_stamp f).0 (node_of v c))
        → ((set_up (record { 0 = c }) f asked).1.sends ≡ None) ⊎ (((set_up (record { 0 = c }) f asked).1.sends ≡ Some (upward.Answer answer.Success)) × (f.targets ≡ [])) → Each (UpTells g t v c) (sent_up f (set_up (record { 0 = c }) f asked).1.sends)
    up v pipe seat closes (inl e) = subst (λ (o : Option Upward). Each (UpTells g t v c) (sent_up f o)) (sym e) (each-nil (UpTells g t v c))
    up v pipe seat closes (inr e) = subst (λ (o : Option Upward). Each (UpTells g t v c) (sent_up f o)) (sym e.0) (each-one (UpTells g t v c) (response (response_of f answer.Success)) (λ _. inl (record {
      fields = f;
      session = says.session;
      pipe = pipe;
      seated = record { here = seat; below = λ i m q a b. absurd (none-some q (subst (λ (xs : List NodeRef). slice_get xs i ≡ Some q) e.1 a)) };
      closed = λ s. lone-closed g v f (node_of v c) e.1 (closes s);
    })))

outcome-leaf : (g : Givens) (t : Ends) (w : World) (c : ℕ) (f : WriteFields) (asked : Bool) (o : Outcome) → Known g t w → WriteSays g w.past c f → w.lowers c ≡ idle → c < w.next_conn → w.lives (node_of w c) ≡ (w.dialled c).to.life
    → (s : SetupKind) → setup_with f.stage ≡ Some s → SetOr s (new_stamp f) (promised f) (replica_at w c (block_of f)).known.is_broken o
    → ((k : Change) → k.node ≡ node_of w c → k.block ≡ block_of f → k.replica ≡ after (replica_at w c (block_of f)) o → Steps w k) → IfSome (record_after (replica_at w c (block_of f)).known o).info (Pends g t (block_of f) (record_after (replica_at w c (block_of f)).known o))
    → Leaf g t w (Asks w c f (booked_request (record { 0 = c }) f asked (after (replica_at w c (block_of f)) o) (refused_by (core.answer_of (core.reply o)))))
outcome-leaf g t w c f asked (Err x) h says low lt alive s stage z steps pends =
    refused-leaf g t w c f (after (replica_at w c (block_of f)) (Err x)) (refusal.Core x) (w.breaks (node_of w c) (block_of f)) h (steps (Asks w c f (refused_request (after (replica_at w c (block_of f)) (Err x)) (refusal.Core x))) refl refl refl) pends
outcome-leaf g t w c f asked (Ok q) h says low lt alive s stage z steps pends =
    let r = after (replica_at w c (block_of f)) (Ok q) in
    subst (λ (a : Option RequestRefusal). Leaf g t w (Asks w c f (booked_request (record { 0 = c }) f asked r a))) (sym (ap refused_by z.done))
    (taken-leaf g t w c f asked r h says low lt alive s stage z.set z.sound (steps (Asks w c f (booked_request (record { 0 = c }) f asked r None)) refl refl refl) pends)

requested-leaf : (g : Givens) (t : Ends) (w : World) (c : ℕ) (f : WriteFields) (asked : Bool) (e : Result Event RequestRefusal) → Known g t w → WriteSays g w.past c f → w.lowers c ≡ idle → c < w.next_conn → w.lives (node_of w c) ≡ (w.dialled c).to.life
    → IfOk e (IsRequest (record { 0 = c }) f) → Leaf g t w (Asks w c f (request_at (record { 0 = c }) f asked (replica_at w c (block_of f)) e))
requested-leaf g t w c f asked (Err x) h says low lt alive q =
    let k = Asks w c f (refused_request (replica_at w c (block_of f)) x) in
    refused-leaf g t w c f (replica_at w c (block_of f)) x (w.breaks (node_of w c) (block_of f)) h (steps-same w k refl) (same-pends g t w k h refl)
requested-leaf g t w c f asked (Ok e) h says low lt alive q =
    let conn : ConnId = record { 0 = c } in
    let r = replica_at w c (block_of f) in
    outcome-leaf g t w c f asked (transition r.known e) h says low lt alive q.kind_of q.stage (request-set r.known conn f e q)
    (λ k n b z. request-steps g t w k c conn f e h q (z ∙ ap (λ (y : FullReplica). row y (replica_event.Other e)) (sym (ap (λ (x : ℕ). w.replicas x k.block) n ∙ ap (λ (y : ℕ). w.replicas (node_of w c) y) b))) says.first (sym b))
    (request-pends g t w (Asks w c f (refused_request (row r (replica_event.Other e)) refusal.Pool)) conn f e h q refl)

failing-leaf : (g : Givens) (t : Ends) (w : World) (c : ℕ) (f : WriteFields) (e : Result Event RequestRefusal) → Known g t w → IfSome (failing_write w c f e) (Leaf g t w)
failing-leaf g t w c f (Err x) h = tt
failing-leaf g t w c f (Ok e) h =
    let b = broke_at w c (block_of f) (replica_event.Other e) in
    let k = setup_change w c f (faulted_request (replica_at w c (block_of f))) b in
    refused-leaf g t w c f (broken (replica_at w c (block_of f))) refusal.File b h (row-steps g t w k (replica_event.Other event.FileFault) h refl tt tt) (row-pends g t w k (replica_event.Other event.FileFault) h refl tt)

pub write-leaf : (g : Givens) (t : Ends) (w : World) (c : ℕ) (f : WriteFields) (answered fails : Bool) → Known g t w → WriteSays g w.past c f → w.lowers c ≡ idle → c < w.next_conn → w.lives (node_of w c) ≡ (w.dialled c).to.life
    → IfSome (write_request w c f answered fails) (Leaf g t w)
write-leaf g t w c f answered true h says low lt alive = failing-leaf g t w c f (request_event (record { 0 = c }) f (rule_in (replica_at w c (block_of f)).known)) h
write-leaf g t w c f answered false h says low lt alive =
    let r = replica_at w c (block_of f) in
    requested-leaf g t w c f (is_asked w c f answered) (request_event (record { 0 = c }) f (rule_in r.known)) h says low lt alive (request-is (record { 0 = c }) f (rule_in r.known))
