-- What a replica makes of a request that it may take, and the member that takes it.
use Rattle.std.proofs.Common.{◌≡◌, ℕ, suc, ◌<◌, ◌≤◌, Bool, true, false, List, [], ◌∷◌, length, Option, Some, None, IfSome, Ok, refl, sym, ◌∙◌, ap, subst, arith, ◌⊎◌, inl, inr}
use Rattle.std.specs.Prelude.{◌==◌, not, nat_le, if◌then◌else◌, option_map}
use Rattle.std.proofs.lemmas.Bool.Decides.{nat_tests}
use Rattle.hd_base.specs.Results.{◌>>=◌}
use Rattle.hd_base.specs.SumRules.{Rule, kind_number}
use Rattle.hd_base.specs.declared.numbers.ConnId.{ConnId}
use Rattle.hd_base.specs.declared.states.ReplicaState.TheVariants as state
use Rattle.op_headers.specs.declared.nodes.NodeRef.{NodeRef}
use Rattle.op_headers.specs.Values.{WriteFields}
use Rattle.request_refusals.specs.declared.refusals.RequestRefusal.TheVariants as refusal
use Rattle.request_refusals.specs.Pools.{is_in_pool}
use Rattle.request_refusals.specs.Rules.{rule_with}
use Rattle.replica_core.specs.declared.events.Answer.TheVariants as answer
use Rattle.replica_core.specs.declared.events.Event.{Event}
use Rattle.replica_core.specs.declared.events.Event.TheVariants as core
use Rattle.replica_core.specs.declared.info.ReplicaInfo.{ReplicaInfo}
use Rattle.replica_core.specs.Info.{settled_at}
use Rattle.replica_core.specs.Transitions.{Outcome, record_after, reply, answer_of, set_writer, transition}
use Rattle.replica_core.specs.Views.{rule_in}
use Rattle.replica_model.specs.declared.events.ReplicaEvent.TheVariants as replica_event
use Rattle.replica_model.specs.Rows.{FullReplica, row}
use Rattle.member_core.specs.declared.effects.SetupAnswer.TheVariants as setup_answer
use Rattle.member_core.specs.declared.effects.Upward.TheVariants as upward
use Rattle.member_core.specs.declared.member.Mirror.TheVariants as mirror
use Rattle.member_core.specs.declared.requests.SetupKind.{SetupKind}
use Rattle.member_core.specs.declared.requests.SetupKind.TheVariants as kind
use Rattle.member_core.specs.declared.requests.TheConstants.{MAX_BELOW, MAX_PORT}
use Rattle.member_core.specs.Members.{no_effect, sending, mirror_for, new_member, set_up_at, set_up}
use Rattle.member_core.specs.Requests.{check, setup_with, rule_for, fitting, named_setup, named_rule, setup_event, request_event, is_close_setup, closes, request_from, request_to, mirror_request}
use Rattle.member_core.specs.Steps.{refused_by, taken_request, booked_request, request_at, request_step}
use Rattle.world_laws.specs.Carrying.{stamp_set, new_stamp}
use Rattle.play_scripts.specs.WorldAcks.Acking.{least_of, promised}
use Rattle.world_orders.proofs.Kept.{eqb-itself}
use Rattle.play_completeness.specs.Plain.{IsOwn}
use Rattle.play_completeness.specs.Links.{IsFinalWith, MayTake, IsRequest}
use Rattle.play_completeness.proofs.Next.{both}
use Rattle.play_completeness.proofs.Rows.{create-taken, append-taken}

le-so : (a b : ℕ) → a ≤ b → nat_le a b ≡ true
le-so a b le = grind (arith, nat_tests, le)

-- THE EVENT THAT A REQUEST IS

rule-none : (f : WriteFields) (rule : Rule) → rule_with f.kind f.chunk ≡ Some rule → rule_for f None ≡ Some rule
unfolding rule_for
rule-none f rule e = ap (fitting None) e

rule-same : (f : WriteFields) (rule : Rule) → rule_with f.kind f.chunk ≡ Some rule → rule_for f (Some rule) ≡ Some rule
unfolding rule_for
rule-same f rule e =
    ap (fitting (Some rule)) e
    ∙ ap (λ (b : Bool). if b then Some rule else None)
    (both (kind_number rule.kind == kind_number rule.kind) (rule.chunk == rule.chunk) (eqb-itself (kind_number rule.kind)) (eqb-itself rule.chunk))

request-is : (conn : ConnId) (f : WriteFields) (held : Option Rule) (rule : Rule) (k : SetupKind) → is_in_pool f.block ≡ true → setup_with f.stage ≡ Some k → rule_for f held ≡ Some rule → length f.targets ≤ MAX_BELOW
    → request_event conn f held ≡ Ok (setup_event conn f rule k)
unfolding request_event
request-is conn f held rule k pool setup sums few =
    ap (λ (b : Bool). check b refusal.Pool (named_setup f.stage (setup_with f.stage) >>= (λ s. named_rule f (rule_for f held) >>= (λ r. check (nat_le (length f.targets) MAX_BELOW) (refusal.TooMany (length f.targets)) (Ok (setup_event conn f r s)))))) pool
    ∙ (ap (λ (o : Option SetupKind). named_setup f.stage o >>= (λ s. named_rule f (rule_for f held) >>= (λ r. check (nat_le (length f.targets) MAX_BELOW) (refusal.TooMany (length f.targets)) (Ok (setup_event conn f r s))))) setup
    ∙ (ap (λ (o : Option Rule). named_rule f o >>= (λ r. check (nat_le (length f.targets) MAX_BELOW) (refusal.TooMany (length f.targets)) (Ok (setup_event conn f r k)))) sums
    ∙ ap (λ (b : Bool). check b (refusal.TooMany (length f.targets)) (Ok (setup_event conn f rule k))) (le-so (length f.targets) MAX_BELOW few)))

-- THE REPLICA

-- A replica takes a request: it is RBW then, under the request's stamp, with its rule and the least bytes that it asks
-- for.
pub record Opens (conn : ConnId) (f : WriteFields) (rule : Rule) (r : FullReplica) : Type 0 where
  pub event : Event
  pub is : request_event conn f (rule_in r.known) ≡ Ok event
  pub info : ReplicaInfo
  pub taken : transition r.known event ≡ Ok (record { replica = set_writer r.known info (Some conn); answer = answer.Done })
  pub rbw : info.original ≡ state.Rbw
  pub stamp_is : info.stamp ≡ new_stamp f
  pub rule_is : info.sums ≡ rule
  pub written_is : info.written ≡ promised f

pub opens : (conn : ConnId) (f : WriteFields) (rule : Rule) (r : FullReplica) → IsRequest f rule → MayTake (setup_with f.stage) f rule r → r.known.is_broken ≡ false → IfSome r.known.info IsOwn → Opens conn f rule r
opens conn f rule r q may whole own = go q.opens
  where
    creates : setup_with f.stage ≡ Some kind.Create → r.known.info ≡ None → Opens conn f rule r
    creates e none = record {
      event = core.Create conn f.block.stamp rule;
      is = ap (λ (o : Option ReplicaInfo). request_event conn f (option_map (λ (i : ReplicaInfo). i.sums) o)) none ∙ request-is conn f None rule kind.Create q.pool e (rule-none f rule q.rule_is) q.few;
      info = settled_at state.Rbw f.block.stamp rule 0;
      taken = create-taken r.known conn f.block.stamp rule whole none;
      rbw = refl;
      stamp_is = ap (λ (o : Option SetupKind). stamp_set o f.block.stamp f.latest) (sym e);
      rule_is = refl;
      written_is = ap (λ (o : Option SetupKind). least_of o f.min) (sym e);
    }

    appends : setup_with f.stage ≡ Some kind.Append → (f.block.stamp.0 < f.latest.0) × IsFinalWith f.block.stamp f.min rule r → Opens conn f rule r
    appends e x =
        let h : ReplicaInfo = x.1.info in
        let mine : IsOwn h = subst (λ (o : Option ReplicaInfo). IfSome o IsOwn) x.1.is own in
        let held : rule_in r.known ≡ Some rule = ap (λ (o : Option ReplicaInfo). option_map (λ (i : ReplicaInfo). i.sums) o) x.1.is ∙ ap (λ (z : Rule). Some z) x.1.rule_is in
        record {
          event = core.Append conn f.block.stamp f.latest f.min;
          is = ap (request_event conn f) held ∙ request-is conn f (Some rule) rule kind.Append q.pool e (rule-same f rule q.rule_is) q.few;
          info = settled_at state.Rbw f.latest h.sums f.min;
          taken = append-taken r.known h conn f.block.stamp f.latest f.min whole x.1.is x.1.final mine.free x.1.stamp_is x.0 x.1.written_is;
          rbw = refl;
          stamp_is = ap (λ (o : Option SetupKind). stamp_set o f.block.stamp f.latest) (sym e);
          rule_is = x.1.rule_is;
          written_is = ap (λ (o : Option SetupKind). least_of o f.min) (sym e);
        }

    go : (setup_with f.stage ≡ Some kind.Create) ⊎ (setup_with f.stage ≡ Some kind.Append) → Opens conn f rule r
    go (inl e) = creates e (subst (λ (o : Option SetupKind). MayTake o f rule r) e may)
    go (inr e) = appends e (subst (λ (o : Option SetupKind). MayTake o f rule r) e may)

-- THE STEP

abbrev pub opened_row : (conn : ConnId) (f : WriteFields) (rule : Rule) (r : FullReplica) → Opens conn f rule r → FullReplica
opened_row conn f rule r x = row r (replica_event.Other x.event)

pub opened-known : (conn : ConnId) (f : WriteFields) (rule : Rule) (r : FullReplica) (x : Opens conn f rule r) → (opened_row conn f rule r x).known ≡ set_writer r.known x.info (Some conn)
opened-known conn f rule r x = ap (record_after r.known) x.taken

pub request-taken : (conn : ConnId) (f : WriteFields) (rule : Rule) (asked : Bool) (r : FullReplica) (x : Opens conn f rule r) → request_step conn f asked r ≡ taken_request (opened_row conn f rule r x) (set_up conn f asked)
request-taken conn f rule asked r x =
    ap (request_at conn f asked r) x.is
    ∙ ap (λ (o : Outcome). booked_request conn f asked (opened_row conn f rule r x) (refused_by (answer_of (reply o)))) x.taken

-- THE MEMBER

-- a create and an append don't close
pub stays-open : (f : WriteFields) → (setup_with f.stage ≡ Some kind.Create) ⊎ (setup_with f.stage ≡ Some kind.Append) → closes f ≡ false
stays-open f (inl e) = ap is_close_setup e
stays-open f (inr e) = ap is_close_setup e

pub alone-set-up : (conn : ConnId) (f : WriteFields) (asked : Bool) → f.targets ≡ [] → closes f ≡ false → set_up conn f asked ≡ (new_member conn f mirror.Nobody true, sending (upward.Answer setup_answer.Success) false)
unfolding set_up
alone-set-up conn f asked none stays =
    ap (λ (ts : List NodeRef). set_up_at (mirror_for (length ts) asked) f conn) none
    ∙ ap (λ (b : Bool). (new_member conn f mirror.Nobody (not b), sending (upward.Answer setup_answer.Success) b)) stays

pub asked-set-up : (conn : ConnId) (f : WriteFields) (t : NodeRef) (rest : List NodeRef) → f.targets ≡ t ∷ rest → set_up conn f true ≡ (new_member conn f mirror.Asked true, no_effect)
unfolding set_up
asked-set-up conn f t rest some =
    ap (λ (ts : List NodeRef). set_up_at (mirror_for (length ts) true) f conn) some
    ∙ ap (λ (b : Bool). set_up_at (if b then mirror.Nobody else mirror.Asked) f conn) (not-zero (length rest))
  where
    not-zero : (n : ℕ) → (suc n == 0) ≡ false
    not-zero n = grind (arith, nat_tests)

-- the request that goes to its mirror
pub onward : (source : NodeRef) (f : WriteFields) (t : NodeRef) (rest : List NodeRef) → f.targets ≡ t ∷ rest → t.xfer ≤ MAX_PORT → mirror_request source f ≡ Some (request_from source f rest)
unfolding mirror_request
onward source f t rest some low =
    ap (request_to source f) some ∙ ap (λ (b : Bool). if b then Some (request_from source f rest) else None) (le-so t.xfer MAX_PORT low)
