-- The primary of a block recovery: what it sends in each step of its own, and what it makes of each answer.
use Rattle.std.specs.Prelude.{ℕ, ◌==◌, if◌then◌else◌, Bool, true, false, List, [], ◌∷◌, map, zip, filter_map, slice_get, slice_set, Option, Some, None, Result, Ok, Err}
use Rattle.std.specs.List.{list_any}
use Rattle.hd_base.specs.declared.numbers.BlockId.{BlockId}
use Rattle.hd_base.specs.declared.numbers.NodeId.{NodeId}
use Rattle.hd_base.specs.declared.numbers.Stamp.{Stamp}
use Rattle.hd_base.specs.declared.states.ReplicaState.{ReplicaState}
use Rattle.hd_base.specs.declared.states.Status.{Status}
use Rattle.hd_base.specs.declared.states.Status.TheVariants as status
use Rattle.hd_base.specs.Blocks.{block_pool}
use Rattle.op_headers.specs.declared.ops.RecoveryOp.{RecoveryOp}
use Rattle.op_headers.specs.declared.ops.RecoveryKind.{RecoveryKind}
use Rattle.name_core.specs.declared.calls.Begun.{Begun}
use Rattle.name_core.specs.declared.calls.OfficeAnswer.{OfficeAnswer}
use Rattle.name_core.specs.declared.calls.OfficeCall.{OfficeCall}
use Rattle.name_core.specs.declared.calls.OfficeCall.TheVariants as call
use Rattle.name_core.specs.declared.choice.ChooseFault.{ChooseFault}
use Rattle.name_core.specs.declared.choice.ChooseFault.TheVariants as choose_fault
use Rattle.name_core.specs.declared.choice.Chosen.{Chosen}
use Rattle.name_core.specs.declared.faults.OfficeFault.{OfficeFault}
use Rattle.name_core.specs.declared.faults.OfficeFault.TheVariants as office_fault
use Rattle.name_core.specs.declared.infos.Info.{Info}
use Rattle.name_core.specs.Choice.{choice}
use Rattle.recovery_core.specs.declared.standings.Heard.{Heard}
use Rattle.recovery_core.specs.declared.standings.Heard.TheVariants as heard
use Rattle.recovery_core.specs.declared.standings.Standing.{Standing}
use Rattle.recovery_core.specs.declared.standings.Standing.TheVariants as standing
use Rattle.recovery_core.specs.declared.primary.OwnStep.{OwnStep}
use Rattle.recovery_core.specs.declared.primary.OwnStep.TheVariants as own
use Rattle.recovery_core.specs.declared.primary.Phase.{Phase}
use Rattle.recovery_core.specs.declared.primary.Phase.TheVariants as phase
use Rattle.recovery_core.specs.declared.primary.Recovered.{Recovered}
use Rattle.recovery_core.specs.declared.primary.Recovered.TheVariants as recovered

-- A primary that has begun: the block, the recovery's id with the committed stamp, how far it is, and how it stands with each of the members.
pub record PrimaryState : Type 0 where
  pub block : BlockId
  pub begun : Begun
  pub phase : Phase
  pub members : List NodeId
  pub standings : List Standing

-- ANSWERS

-- what a member told of its replica, if it did
abbrev pub told : Option (ReplicaState × Stamp × ℕ) → Standing
told None = standing.Out
told (Some (state, stamp, bytes)) = standing.Told state stamp bytes false

abbrev pub is_success : Status → Bool
is_success status.Success = true
is_success _ = false

-- the answer to an INIT: only SUCCESS with what the replica is counts
abbrev pub informed : Heard → Standing
informed (heard.Answer a) = if is_success a.status then told a.info else standing.Out
informed _ = standing.Out

-- what comes after the answer to an INIT: an end is remembered, and doesn't take the answer back
abbrev pub remembers_end : Heard → Bool → Bool
remembers_end (heard.Answer a) ended = ended
remembers_end _ ended = true

-- the answer to an UPDATE: only SUCCESS counts
abbrev pub updated : Heard → Standing
updated (heard.Answer a) = if is_success a.status then standing.Updated else standing.Out
updated _ = standing.Out

-- how it stands with a member after this
abbrev pub after_heard : Standing → Heard → Standing
after_heard standing.Asked h = informed h
after_heard (standing.Told state stamp bytes ended) h = standing.Told state stamp bytes (remembers_end h ended)
after_heard standing.Updating h = updated h
after_heard other h = other

-- the connection of a member is shut when its answer to the UPDATE was taken
abbrev pub shuts_after : Standing → Bool
shuts_after standing.Updating = true
shuts_after _ = false

-- an answer of this member is awaited
abbrev pub is_awaited : Standing → Bool
is_awaited standing.Asked = true
is_awaited standing.Updating = true
is_awaited _ = false

abbrev pub waits : List Standing → Bool
waits standings = list_any is_awaited standings

-- a primary that has heard this from the member at this place, how it stood with which is given
abbrev pub heard_as : PrimaryState → ℕ → Heard → Option Standing → PrimaryState
heard_as p at h None = p
heard_as p at h (Some s) = record p { standings = slice_set p.standings at (after_heard s h) }

abbrev pub heard_at : PrimaryState → ℕ → Heard → PrimaryState
heard_at p at h = heard_as p at h (slice_get p.standings at)

abbrev pub shuts_as : Option Standing → Bool
shuts_as None = false
shuts_as (Some s) = shuts_after s

-- the connection of the member at this place is shut once something was heard from it
abbrev pub shuts_at : PrimaryState → ℕ → Bool
shuts_at p at = shuts_as (slice_get p.standings at)

-- THE STEPS OF ITS OWN

-- how it stands with a member to which the INIT is sent, by whether the dial was answered
abbrev pub asked : Bool → Standing
asked true = standing.Asked
asked false = standing.Unreached

-- a primary that has sent each INIT
abbrev pub begun_with : BlockId → Begun → List NodeId → List Bool → PrimaryState
begun_with block begun members answered =
    record { block = block; begun = begun; phase = phase.Informing; members = members; standings = map asked answered }

-- what a member told
abbrev pub info_of : NodeId → Standing → Option Info
info_of node (standing.Told state stamp bytes ended) =
    Some (record { node = node; state = state; stamp = stamp; length = bytes })
info_of node _ = None

-- what the members told, in their order
abbrev pub infos : List NodeId → List Standing → List Info
infos members standings = filter_map (λ x. info_of x.0 x.1) (zip members standings)

-- a member that was updated
abbrev pub updated_node : NodeId → Standing → Option NodeId
updated_node node standing.Updated = Some node
updated_node node _ = None

-- the members that were updated, in their order
abbrev pub updated_members : List NodeId → List Standing → List NodeId
updated_members members standings = filter_map (λ x. updated_node x.0 x.1) (zip members standings)

-- it was updated
abbrev pub is_updated : Standing → Bool
is_updated standing.Updated = true
is_updated _ = false

-- one of the members was
abbrev pub updates_any : List NodeId → List Standing → Bool
updates_any members standings = list_any (λ x. is_updated x.1) (zip members standings)

-- the node is one of these
abbrev pub is_among : List NodeId → NodeId → Bool
is_among nodes node = list_any (λ other. other.0 == node.0) nodes

-- how it stands with a chosen member: its UPDATE is lost where it has ended
abbrev pub when_chosen : Standing → Standing
when_chosen (standing.Told state stamp bytes false) = standing.Updating
when_chosen _ = standing.Out

-- only a chosen member is sent the UPDATE; the connections of the others are shut
abbrev pub after_choice : List NodeId → NodeId → Standing → Standing
after_choice chosen node s = if is_among chosen node then when_chosen s else standing.Out

abbrev pub all_after_choice : List NodeId → List NodeId → List Standing → List Standing
all_after_choice chosen members standings = map (λ x. after_choice chosen x.0 x.1) (zip members standings)

-- a primary after a step of its own, and what it does in it
pub record OwnTaken : Type 0 where
  pub primary : PrimaryState
  pub does : OwnStep

abbrev pub taken : PrimaryState → OwnStep → OwnTaken
taken p does = record { primary = p; does = does }

-- the recovery ends so, and all connections are shut
abbrev pub over : PrimaryState → Recovered → OwnTaken
over p end = taken (record p { phase = phase.Over }) (own.Ends end)

abbrev pub unchosen : ChooseFault → Recovered
unchosen choose_fault.Nothing = recovered.Nothing
unchosen (choose_fault.Unequal a b) = recovered.Unequal a b

-- UPDATE is sent to the chosen members
abbrev pub choosing : PrimaryState → Result Chosen ChooseFault → OwnTaken
choosing p (Ok c) =
    taken (record p { phase = phase.Updating c.length; standings = all_after_choice c.members p.members p.standings })
    (own.Updates c)
choosing p (Err fault) = over p (unchosen fault)

-- the members that were updated are committed, if there are any
abbrev pub committing : PrimaryState → ℕ → List NodeId → OwnTaken
committing p bytes [] = over p recovered.NoneUpdated
committing p bytes (node ∷ nodes) =
    taken (record p { phase = phase.Over }) (own.Commits (record { length = bytes; members = node ∷ nodes }))

-- once every answer or end was taken: the choice among what was told, and then the commit
abbrev pub own_at : Phase → PrimaryState → OwnTaken
own_at phase.Informing p = choosing p (choice p.begun.committed (infos p.members p.standings))
own_at (phase.Updating bytes) p = committing p bytes (updated_members p.members p.standings)
own_at phase.Over p = taken p own.Waits

abbrev pub own_step : PrimaryState → OwnTaken
own_step p = if waits p.standings then taken p own.Waits else own_at p.phase p

-- a commit is asked for
abbrev pub is_commit : OwnStep → Bool
is_commit (own.Commits c) = true
is_commit other = false

-- in the next own step one is
abbrev pub commits : PrimaryState → Bool
commits p = is_commit (own_step p).does

-- WHAT IT SENDS AND ASKS

-- a request of this recovery
abbrev pub request_of : PrimaryState → RecoveryKind → ℕ → RecoveryOp
request_of p k bytes = record {
  kind = k;
  block = record { pool = block_pool; block = p.block; stamp = p.begun.committed; bytes = 0 };
  recovery = p.begun.id;
  new_length = bytes;
  targets = [];
}

-- the call on the office at the end
abbrev pub sync_call : PrimaryState → Chosen → OfficeCall
sync_call p c = call.CommitSync p.block p.begun.id c.length c.members

-- the office refused; its want of memory is the recovery's own
abbrev pub office_refused : OfficeFault → Recovered
office_refused office_fault.Memory = recovered.Memory
office_refused fault = recovered.OfficeRefused fault

-- how the recovery ends by the answer of the office
abbrev pub end_with : PrimaryState → Chosen → Result OfficeAnswer OfficeFault → Recovered
end_with p c (Ok answered) = recovered.Done p.begun.id c.length c.members
end_with p c (Err fault) = office_refused fault
