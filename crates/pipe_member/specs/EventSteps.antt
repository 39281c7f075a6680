-- An event of a running member is the step of its rules over the replica, for what it took.
use Rattle.std.specs.Prelude.{◌≡◌, ◌≢◌, Bool, true, false, length, Option, Some, None, option_map}
use Rattle.hd_base.specs.declared.ends.Conn.{Conn}
use Rattle.hd_base.specs.declared.files.Files as files
use Rattle.hd_base.specs.declared.links.LinkIn as link_in
use Rattle.hd_base.specs.declared.links.LinkOut as link_out
use Rattle.pipe_setup.specs.ReplicaFiles.BookState.{BookState}
use Rattle.pipe_setup.specs.ReplicaFiles.Books.{replica_of}
use Rattle.pipe_setup.specs.MemberCore.Turn.{Turn}
use Rattle.pipe_setup.specs.MemberCore.Members.{MemberState, has_mirror, hears, down_turn, up_turn}
use Rattle.pipe_setup.specs.MemberCore.Steps.{oldest_at, ready_turn_at}
use Rattle.pipe_member.specs.declared.member.Member.{Member}
use Rattle.pipe_member.specs.declared.stages.Looked.{Looked}
use Rattle.pipe_member.specs.declared.stages.Stage.{Stage}
use Rattle.pipe_member.specs.declared.stages.Stage.TheVariants as stage
use Rattle.pipe_member.specs.declared.stepped.Stepped.{Stepped}
use Rattle.pipe_member.specs.declared.stepped.Stepped.TheVariants as stepped
use Rattle.pipe_member.specs.Above.{due_above}
use Rattle.pipe_member.specs.Steps.{after_failure}
use Rattle.pipe_member.specs.Events.{Stays, LooksUp, LooksDown, GoesDown, GoesUp, IsReady}
use Rattle.pipe_member.specs.Stepping.{IsStep, step_by}

-- An open member that holds an end to a mirror has a mirror by its rules.
abbrev pub HoldsMirror : {I O : Type 0} → Stage → Option (Conn I O) → Type 0
HoldsMirror (stage.Open m) (Some end) = has_mirror m.mirror ≡ true
HoldsMirror other mirror = Unit {0}

-- The book's replica is the one that its history leads to.
abbrev pub IsOfHistory : {F : Type 0} → BookState F → Type 0
IsOfHistory book = book.replica ≡ (replica_of book).known

-- The step of a turn, where there is one.
abbrev pub StepsIf : {F I O : Type 0} → link_out.Ghosts O → MemberState → Option Turn → Member I O → Member I O →
    BookState F → BookState F → Stepped → Type 0
StepsIf o m None old new book book' result = Stays old new book book' result stepped.NotReady
StepsIf o m (Some t) old new book book' result = IsStep o t (step_by result m (replica_of book) t) old new book book'

-- The member looked for what stands next from above, and what may be taken of it leads to its step.
pub record DownIsStep {F I O : Type 0} (i : link_in.Ghosts I) (o : link_out.Ghosts O) (m : MemberState)
    (old new : Member I O) (book book' : BookState F) (result : Stepped) : Type 0 where
  pub seen : Member I O
  pub found : Looked
  pub answer : Stepped
  pub looks : LooksUp i o old seen found
  pub steps : StepsIf o m (option_map (down_turn m)
      (due_above m (length (replica_of book).known.pending) seen.above.next)) seen new book book' answer
  pub is : result ≡ after_failure found answer

-- The member looked for what stands next from its mirror, and that leads to its step.
pub record UpIsStep {F I O : Type 0} (i : link_in.Ghosts I) (o : link_out.Ghosts O) (m : MemberState)
    (old new : Member I O) (book book' : BookState F) (result : Stepped) : Type 0 where
  pub seen : Member I O
  pub found : Looked
  pub looks : LooksDown i o m old seen found
  pub steps : StepsIf o m (option_map (up_turn m (oldest_at (replica_of book))) seen.below.next) seen new book book'
      result

-- where it hears the mirror
abbrev pub UpIsStepIf : {F I O : Type 0} → link_in.Ghosts I → link_out.Ghosts O → Bool → MemberState → Member I O →
    Member I O → BookState F → BookState F → Stepped → Type 0
UpIsStepIf i o true m old new book book' result = UpIsStep i o m old new book book' result
UpIsStepIf i o false m old new book book' result = Stays old new book book' result stepped.NotReady

-- What is asked of an event: the member is open by these rules and holds an end only to a mirror of them, and memory was found.
pub record IsOpenEvent {F I O : Type 0} (m : MemberState) (old : Member I O) (book : BookState F) (result : Stepped) :
    Type 0 where
  pub open_by : old.stage ≡ stage.Open m
  pub holds : HoldsMirror old.stage old.mirror
  pub of_history : IsOfHistory book
  pub found_memory : result ≢ stepped.Memory

-- Each event that found memory is the step of the rules, and the member holds an end only to a mirror of them.
abbrev pub DownsAreSteps : (F I O : Type 0) → files.Ghosts F → link_in.Ghosts I → link_out.Ghosts O → Type 0
DownsAreSteps F I O f i o = (m : MemberState) (old new : Member I O) (book book' : BookState F) (result : Stepped) →
    IsOpenEvent m old book result
    → GoesDown f i o old.stage old new book book' result → DownIsStep i o m old new book book' result ×
    HoldsMirror new.stage new.mirror

abbrev pub ReadiesAreSteps : (F I O : Type 0) → files.Ghosts F → link_out.Ghosts O → Type 0
ReadiesAreSteps F I O f o = (m : MemberState) (old new : Member I O) (book book' : BookState F) (result : Stepped) →
    IsOpenEvent m old book result
    → IsReady f o old.stage old new book book' result →
    StepsIf o m (ready_turn_at m (replica_of book)) old new book book' result × HoldsMirror new.stage new.mirror

abbrev pub UpsAreSteps : (F I O : Type 0) → files.Ghosts F → link_in.Ghosts I → link_out.Ghosts O → Type 0
UpsAreSteps F I O f i o = (m : MemberState) (old new : Member I O) (book book' : BookState F) (result : Stepped) →
    IsOpenEvent m old book result
    → GoesUp f i o old.stage old new book book' result → UpIsStepIf i o (hears m) m old new book book' result ×
    HoldsMirror new.stage new.mirror
