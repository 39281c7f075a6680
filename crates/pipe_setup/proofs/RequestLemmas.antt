-- The event of a request that isn't refused is a setup, and it is refused so before the replica is asked.
use Rattle.std.proofs.Common.{◌≡◌, ◌≤◌, nat_le, Bool, true, false, Option, Some, None, Result, Ok, Err, length, refl, subst, arith}
use Rattle.std.proofs.lemmas.Bool.Decides.{nat_tests}
use Rattle.hd_base.specs.declared.numbers.ConnId.{ConnId}
use Rattle.hd_base.specs.SumRules.{Rule}
use Rattle.hd_base.specs.Results.{◌>>=◌}
use Rattle.hd_base.proofs.ResultLaws.{ok_value, err_value}
use Rattle.op_headers.specs.Values.{WriteFields}
use Rattle.replica_core.specs.declared.events.Event.{Event}
use Rattle.replica_files.specs.Events.{IsSetup}
use Rattle.member_core.specs.RequestRefusals.RequestRefusal.{RequestRefusal}
use Rattle.member_core.specs.RequestRefusals.RequestRefusal.TheVariants as refusal
use Rattle.member_core.specs.RequestRefusals.Pools.{is_in_pool}
use Rattle.member_core.specs.declared.requests.SetupKind.{SetupKind}
use Rattle.member_core.specs.declared.requests.SetupKind.TheVariants as setup
use Rattle.member_core.specs.declared.requests.TheConstants.{MAX_BELOW}
use Rattle.member_core.specs.Requests.{check, setup_with, rule_for, named_setup, named_rule, setup_event, request_event}
use Rattle.pipe_setup.specs.Refusals.{IsBefore}

setup_is : (conn : ConnId) (op : WriteFields) (sums : Rule) (kind : SetupKind) → IsSetup (setup_event conn op sums kind)
setup_is conn op sums setup.Create = tt
setup_is conn op sums setup.Append = tt
setup_is conn op sums setup.AppendRecovery = tt
setup_is conn op sums setup.StreamRecovery = tt
setup_is conn op sums setup.CloseRecovery = tt

-- the event by its tests
abbrev event_by : ConnId → WriteFields → Bool → Option SetupKind → Option Rule → Bool → Result Event RequestRefusal
event_by conn op pool kind sums few =
    check pool refusal.Pool
    (named_setup op.stage kind >>= (λ k.
    named_rule op sums >>= (λ s.
    check few (refusal.TooMany (length op.targets))
    (Ok (setup_event conn op s k)))))

taken_by : (conn : ConnId) (op : WriteFields) (pool : Bool) (kind : Option SetupKind) (sums : Option Rule) (few : Bool) (e : Event) → event_by conn op pool kind sums few ≡ Ok e → IsSetup e
taken_by conn op false kind sums few e is = cc
taken_by conn op true None sums few e is = cc
taken_by conn op true (Some k) None few e is = cc
taken_by conn op true (Some k) (Some s) false e is = cc
taken_by conn op true (Some k) (Some s) true e is = subst IsSetup (ok_value _ _ is) (setup_is conn op s k)

refused_by : (conn : ConnId) (op : WriteFields) (pool : Bool) (kind : Option SetupKind) (sums : Option Rule) (few : Bool) (r : RequestRefusal) → event_by conn op pool kind sums few ≡ Err r → IsBefore r
refused_by conn op false kind sums few r is = subst IsBefore (err_value _ _ is) tt
refused_by conn op true None sums few r is = subst IsBefore (err_value _ _ is) tt
refused_by conn op true (Some k) None few r is = subst IsBefore (err_value _ _ is) tt
refused_by conn op true (Some k) (Some s) false r is = subst IsBefore (err_value _ _ is) tt
refused_by conn op true (Some k) (Some s) true r is = cc

few_by : (conn : ConnId) (op : WriteFields) (pool : Bool) (kind : Option SetupKind) (sums : Option Rule) (few : Bool) (e : Event) → event_by conn op pool kind sums few ≡ Ok e → few ≡ true
few_by conn op false kind sums few e is = cc
few_by conn op true None sums few e is = cc
few_by conn op true (Some k) None few e is = cc
few_by conn op true (Some k) (Some s) false e is = cc
few_by conn op true (Some k) (Some s) true e is = refl

-- a request that isn't refused has at most so many targets
pub request_is_few : (conn : ConnId) (op : WriteFields) (held : Option Rule) (e : Event) → request_event conn op held ≡ Ok e → length op.targets ≤ MAX_BELOW
unfolding request_event
request_is_few conn op held e is =
    let few : nat_le (length op.targets) MAX_BELOW ≡ true = few_by conn op (is_in_pool op.block) (setup_with op.stage) (rule_for op held) (nat_le (length op.targets) MAX_BELOW) e is in
    grind (arith, nat_tests, few)

pub request_sets_up : (conn : ConnId) (op : WriteFields) (held : Option Rule) (e : Event) → request_event conn op held ≡ Ok e → IsSetup e
unfolding request_event
request_sets_up conn op held e is = taken_by conn op (is_in_pool op.block) (setup_with op.stage) (rule_for op held) (nat_le (length op.targets) MAX_BELOW) e is

pub request_is_refused : (conn : ConnId) (op : WriteFields) (held : Option Rule) (r : RequestRefusal) → request_event conn op held ≡ Err r → IsBefore r
unfolding request_event
request_is_refused conn op held r is = refused_by conn op (is_in_pool op.block) (setup_with op.stage) (rule_for op held) (nat_le (length op.targets) MAX_BELOW) r is
