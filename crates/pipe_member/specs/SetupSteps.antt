-- The setup of a running member is the request's step at the replica.
use Rattle.std.specs.Prelude.{◌≡◌, ◌≢◌, Bool, true, false, Option, Some, None, Result, Ok, Err}
use Rattle.hd_base.specs.declared.files.Files as files
use Rattle.hd_base.specs.declared.links.LinkIn as link_in
use Rattle.hd_base.specs.declared.links.LinkOut as link_out
use Rattle.hd_base.specs.declared.numbers.ConnId.{ConnId}
use Rattle.hd_base.specs.declared.numbers.Receipt.{Receipt}
use Rattle.hd_base.specs.declared.roads.Roads as roads
use Rattle.op_headers.specs.Values.{WriteFields}
use Rattle.replica_core.specs.declared.events.Event.{Event}
use Rattle.replica_core.specs.Views.{rule_in}
use Rattle.pipe_setup.specs.ReplicaModel.Rows.{FullReplica}
use Rattle.pipe_setup.specs.ReplicaFiles.BookState.{BookState}
use Rattle.pipe_setup.specs.ReplicaFiles.Books.{replica_of}
use Rattle.pipe_setup.specs.RequestRefusals.RequestRefusal.{RequestRefusal}
use Rattle.pipe_setup.specs.MemberCore.Shuts.{Shuts}
use Rattle.pipe_setup.specs.MemberCore.Members.{MemberState, refused_setup}
use Rattle.pipe_setup.specs.MemberCore.Requests.{request_event}
use Rattle.pipe_setup.specs.MemberCore.Steps.{Setup, request_step, faulted_request}
use Rattle.pipe_setup.specs.declared.setups.Setup as local
use Rattle.pipe_setup.specs.declared.setups.Setup.TheVariants as setup
use Rattle.pipe_turns.specs.Acting.{texts_of}
use Rattle.pipe_member.specs.declared.member.Member.{Member}
use Rattle.pipe_member.specs.declared.stages.Stage.{Stage}
use Rattle.pipe_member.specs.declared.stages.Stage.TheVariants as stage
use Rattle.pipe_member.specs.declared.stepped.Stepped.{Stepped}
use Rattle.pipe_member.specs.declared.stepped.Stepped.TheVariants as stepped
use Rattle.pipe_member.specs.Steps.{stage_after}
use Rattle.pipe_member.specs.Setups.{SetsUpWith, GoesOnWith, Refuses}
use Rattle.pipe_member.specs.Stepping.{Tells}
use Rattle.pipe_member.specs.EventSteps.{HoldsMirror, IsOfHistory}

-- whether the dial of the mirror was answered
abbrev pub was_answered : {I O : Type 0} → local.Setup I O → Bool
was_answered (setup.Mirrored receipt end) = true
was_answered (setup.MirrorDown receipt answered) = answered
was_answered other = false

-- where a member is after a request's step
abbrev pub stage_of : Option MemberState → Shuts → Stage
stage_of None s = stage.Shut
stage_of (Some m) s = stage_after m s

-- the request's step, by how it ended
abbrev pub setup_by : Stepped → ConnId → WriteFields → Bool → FullReplica → Setup
setup_by (stepped.File receipt) conn op answered r = faulted_request r
setup_by other conn op answered r = request_step conn op answered r

-- The member and the replica are where the step leads, and its answer was sent, if it has one.
pub record IsSetup {F I O : Type 0} (o : link_out.Ghosts O) (s : Setup) (old new : Member I O) (book' : BookState F) :
    Type 0 where
  pub member : new.stage ≡ stage_of s.member s.effect.shuts
  pub replica : replica_of book' ≡ s.replica
  pub told : Tells o (texts_of old.op s.effect.sends) old.upstream.outward new.upstream.outward

-- What is asked of a setup: the member has no end to a mirror yet, its request is this event of the replica or refused before, and memory was found.
pub record IsNewRequest {F I O : Type 0} (event : Result Event RequestRefusal) (old : Member I O) (book : BookState F)
    (result : Stepped) : Type 0 where
  pub mirror : old.mirror ≡ None
  pub of_history : IsOfHistory book
  pub found_memory : result ≢ stepped.Memory
  pub event_is : request_event old.upstream.id old.op (rule_in book.replica) ≡ event

-- Each setup that found memory is the request's step, and the member holds an end only to a mirror of its rules.
abbrev pub SetupsAreSteps : (F R I O : Type 0) → files.Ghosts F → roads.Ghosts R I O → link_in.Ghosts I →
    link_out.Ghosts O → Type 0
SetupsAreSteps F R I O f r i o =
    (e : Event) (old new : Member I O) (book book' : BookState F) (roads roads' : R) (result : Stepped) →
    IsNewRequest (Ok e) old book result
    → (x : SetsUpWith f r i o e old new book book' roads roads' result)
    → IsSetup o (setup_by result old.upstream.id old.op (was_answered x.ended) (replica_of book)) old new book' ×
    HoldsMirror new.stage new.mirror

-- So is each request that is refused before the replica is asked.
abbrev pub RefusalsAreSteps : (F I O : Type 0) → link_out.Ghosts O → Type 0
RefusalsAreSteps F I O o = (why : RequestRefusal) (old new : Member I O) (book : BookState F) (result : Stepped) →
    IsNewRequest (Err why) old book result
    → Refuses o (texts_of old.op (refused_setup why).sends) old new result
    → IsSetup o (setup_by result old.upstream.id old.op false (replica_of book)) old new book ×
    HoldsMirror new.stage new.mirror

-- A new member's setup books its request and finds no memory for the dial, and a later call goes on with it, which finds
-- memory and leaves the book alone.
pub record GoesOnLater {F R I O : Type 0} (f : files.Ghosts F) (r : roads.Ghosts R I O) (i : link_in.Ghosts I)
    (o : link_out.Ghosts O) (e : Event) (old mid new : Member I O) (book book' : BookState F)
    (roads roads' later later' : R) (result : Stepped) : Type 0 where
  pub fresh : old.stage ≡ stage.New
  pub receipt : Receipt
  pub asked : MemberState
  pub unasked : MemberState
  pub booked : mid.stage ≡ stage.Booked receipt asked unasked
  pub first : SetsUpWith f r i o e old mid book book' roads roads' stepped.Memory
  pub goes_on : GoesOnWith r i o receipt asked unasked mid new later later' result

-- The two calls together are the request's step at the replica as it was before the first.
abbrev pub ResumptionsAreSteps : (F R I O : Type 0) → files.Ghosts F → roads.Ghosts R I O → link_in.Ghosts I →
    link_out.Ghosts O → Type 0
ResumptionsAreSteps F R I O f r i o =
    (e : Event) (old mid new : Member I O) (book book' : BookState F) (roads roads' later later' : R)
    (result : Stepped) →
    IsNewRequest (Ok e) old book result
    → (x : GoesOnLater f r i o e old mid new book book' roads roads' later later' result)
    → IsSetup o (setup_by result old.upstream.id old.op (was_answered x.goes_on.ended) (replica_of book)) old new
    book' × HoldsMirror new.stage new.mirror
