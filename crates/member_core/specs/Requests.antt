-- The write request of a member: for what it is refused, the event of the replica that it is, the request that goes to the mirror, and the answers to both.
use Rattle.std.specs.Prelude.{ℕ, ◌==◌, ◌&&◌, nat_le, if◌then◌else◌, Bool, true, false, List, [], ◌∷◌, ◌++◌, length, decimal, Option, Some, None, Result, Ok, Err}
use Rattle.hd_base.specs.declared.numbers.ConnId.{ConnId}
use Rattle.hd_base.specs.declared.states.Status.TheVariants as status
use Rattle.hd_base.specs.SumRules.{Rule, kind_number}
use Rattle.hd_base.specs.Results.{◌>>=◌}
use Rattle.ack_codec.specs.declared.responses.Response.{Response}
use Rattle.op_headers.specs.declared.nodes.NodeRef.{NodeRef}
use Rattle.op_headers.specs.declared.stages.Stage.TheVariants as stage
use Rattle.op_headers.specs.Stages.{stage_number}
use Rattle.op_headers.specs.Values.{WriteFields}
use Rattle.replica_core.specs.declared.events.Event.{Event}
use Rattle.replica_core.specs.declared.events.Event.TheVariants as event
use Rattle.request_refusals.specs.declared.refusals.RequestRefusal.{RequestRefusal}
use Rattle.request_refusals.specs.declared.refusals.RequestRefusal.TheVariants as refusal
use Rattle.request_refusals.specs.Pools.{is_in_pool}
use Rattle.request_refusals.specs.Rules.{rule_with}
use Rattle.request_refusals.specs.Texts.{refusal_text}
use Rattle.member_core.specs.declared.requests.SetupKind.{SetupKind}
use Rattle.member_core.specs.declared.requests.SetupKind.TheVariants as setup
use Rattle.member_core.specs.declared.requests.TheConstants.{MAX_BELOW, MAX_PORT}
use Rattle.member_core.specs.declared.effects.SetupAnswer.{SetupAnswer}
use Rattle.member_core.specs.declared.effects.SetupAnswer.TheVariants as answer

-- a test, its refusal where it fails, and what follows where it holds
abbrev pub check : {X : Type 0} → Bool → RequestRefusal → Result X RequestRefusal → Result X RequestRefusal
check holds refused next = if holds then next else Err refused

-- the setup of a request with this stage, if it is one
abbrev pub setup_with : ℕ → Option SetupKind
setup_with number =
    if number == stage_number stage.PipelineSetupAppend then Some setup.Append
    else if number == stage_number stage.PipelineSetupAppendRecovery then Some setup.AppendRecovery
    else if number == stage_number stage.PipelineSetupStreamingRecovery then Some setup.StreamRecovery
    else if number == stage_number stage.PipelineCloseRecovery then Some setup.CloseRecovery
    else if number == stage_number stage.PipelineSetupCreate then Some setup.Create
    else None

-- this rule, where the replica has none or the same
abbrev pub unless_other : Option Rule → Rule → Option Rule
unless_other None rule = Some rule
unless_other (Some held) rule = if kind_number held.kind == kind_number rule.kind && held.chunk == rule.chunk
    then Some rule else None

abbrev pub fitting : Option Rule → Option Rule → Option Rule
fitting held None = None
fitting held (Some rule) = unless_other held rule

-- The rule of sums that a request asks for, where there is such a rule and the replica has no other.
unfoldable pub rule_for : WriteFields → Option Rule → Option Rule
rule_for op held = fitting held (rule_with op.kind op.chunk)

abbrev pub named_setup : ℕ → Option SetupKind → Result SetupKind RequestRefusal
named_setup stage None = Err (refusal.Stage stage)
named_setup stage (Some s) = Ok s

abbrev pub named_rule : WriteFields → Option Rule → Result Rule RequestRefusal
named_rule op None = Err (refusal.Checksum op.kind op.chunk)
named_rule op (Some rule) = Ok rule

-- the event that a setup is: the block's stamp is the named one, the latest one the new, and the least bytes received are the length
abbrev pub setup_event : ConnId → WriteFields → Rule → SetupKind → Event
setup_event conn op sums setup.Create = event.Create conn op.block.stamp sums
setup_event conn op sums setup.Append = event.Append conn op.block.stamp op.latest op.min
setup_event conn op sums setup.AppendRecovery = event.AppendRecovery conn op.block.stamp op.latest op.min
setup_event conn op sums setup.StreamRecovery = event.StreamRecovery conn op.block.stamp op.latest op.min op.max
setup_event conn op sums setup.CloseRecovery = event.CloseRecovery op.block.stamp op.latest op.min

-- The event that a write request is at a replica with this rule, or why it is refused before: for its pool, its stage, its sums, or too many members.
unfoldable pub request_event : ConnId → WriteFields → Option Rule → Result Event RequestRefusal
request_event conn op held =
    check (is_in_pool op.block) refusal.Pool
    (named_setup op.stage (setup_with op.stage) >>= (λ kind.
    named_rule op (rule_for op held) >>= (λ sums.
    check (nat_le (length op.targets) MAX_BELOW) (refusal.TooMany (length op.targets))
    (Ok (setup_event conn op sums kind)))))

-- a request that is of the recovery of a close
abbrev pub is_close_setup : Option SetupKind → Bool
is_close_setup (Some setup.CloseRecovery) = true
is_close_setup _ = false

abbrev pub closes : WriteFields → Bool
closes op = is_close_setup (setup_with op.stage)

-- the request that goes on: without the first member behind, from this one
abbrev pub request_from : NodeRef → WriteFields → List NodeRef → WriteFields
request_from source op rest = record op { targets = rest; source = Some source }

-- the request that goes to the mirror, where its port is one
abbrev pub request_to : NodeRef → WriteFields → List NodeRef → Option WriteFields
request_to source op [] = None
request_to source op (mirror ∷ rest) = if nat_le mirror.xfer MAX_PORT then Some (request_from source op rest) else None

unfoldable pub mirror_request : NodeRef → WriteFields → Option WriteFields
mirror_request source op = request_to source op op.targets

-- the address of the mirror, IP:PORT
abbrev pub first_address : List NodeRef → List ℕ
first_address [] = []
first_address (mirror ∷ rest) = (mirror.ip ++ 58 ∷ []) ++ decimal mirror.xfer

-- a response with this first bad member and this message
abbrev pub failing : List ℕ → List ℕ → Response
failing first_bad message = record { status = status.Error; first_bad = first_bad; sums_from = None; message = message }

-- the response that an answer to a request is
unfoldable pub response_of : WriteFields → SetupAnswer → Response
response_of op answer.Success = record { status = status.Success; first_bad = []; sums_from = None; message = [] }
response_of op answer.Unreached = failing (first_address op.targets) []
response_of op (answer.Below first_bad) = failing first_bad []
response_of op (answer.Refused r) = failing [] (refusal_text r)
