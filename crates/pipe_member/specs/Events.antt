-- The events of a member.
use Rattle.std.specs.Prelude.{◌≡◌, Bool, true, false, length, slice_get, Option, Some, None, option_map}
use Rattle.hd_base.specs.declared.ends.Conn.{Conn}
use Rattle.hd_base.specs.declared.files.Files as files
use Rattle.hd_base.specs.declared.links.LinkIn as link_in
use Rattle.hd_base.specs.declared.links.LinkOut as link_out
use Rattle.pipe_setup.specs.ReplicaFiles.BookState.{BookState}
use Rattle.pipe_setup.specs.MemberCore.Turn.{Turn}
use Rattle.pipe_setup.specs.MemberCore.Members.{MemberState, down_turn, up_turn, ready_turn_by, hears}
use Rattle.pipe_turns.specs.Acting.{ShutsEnd, ShutsMirror}
use Rattle.pipe_member.specs.declared.member.Member.{Member}
use Rattle.pipe_member.specs.declared.stages.Looked.{Looked}
use Rattle.pipe_member.specs.declared.stages.Looked.TheVariants as looked
use Rattle.pipe_member.specs.declared.stages.Stage.{Stage}
use Rattle.pipe_member.specs.declared.stages.Stage.TheVariants as stage
use Rattle.pipe_member.specs.declared.stages.Took.{Took}
use Rattle.pipe_member.specs.declared.stages.Took.TheVariants as took
use Rattle.pipe_member.specs.declared.stepped.Stepped.{Stepped}
use Rattle.pipe_member.specs.declared.stepped.Stepped.TheVariants as stepped
use Rattle.pipe_member.specs.Above.{LooksAbove, due_above}
use Rattle.pipe_member.specs.Below.{LooksBelow}
use Rattle.pipe_member.specs.Steps.{is_failed, finds_no_memory, is_asked, after_failure, closed_step}
use Rattle.pipe_member.specs.Turns.{IsSameMember, Turns}

-- Nothing was done.
pub record Stays {F I O : Type 0} (old new : Member I O) (book book' : BookState F) (result is : Stepped) : Type 0 where
  pub answer : result ≡ is
  pub member_same : new ≡ old
  pub book_same : book' ≡ book

-- A turn of the member, where there is one.
abbrev pub TurnsIf : {F I O : Type 0} → files.Ghosts F → link_out.Ghosts O → MemberState → Option Turn → Took →
    Member I O → Member I O → BookState F → BookState F → Stepped → Type 0
TurnsIf f o m None t old new book book' result = Stays old new book book' result stepped.NotReady
TurnsIf f o m (Some turn) t old new book book' result = Turns f o m turn t old new book book' result

-- DOWN

-- The member takes what may be taken of what stands next from above.
abbrev pub TakesAbove : {F I O : Type 0} → files.Ghosts F → link_out.Ghosts O → MemberState → Member I O → Member I O →
    BookState F → BookState F → Stepped → Type 0
TakesAbove f o m old new book book' result =
    TurnsIf f o m (option_map (down_turn m) (due_above m (length book.replica.pending) old.above.next)) took.Above old
    new book book' result

-- The member looked for what stands next from above. Where the link failed, its end is shut.
pub record LooksUp {I O : Type 0} (i : link_in.Ghosts I) (o : link_out.Ghosts O) (old new : Member I O)
    (found : Looked) : Type 0 where
  pub inward : I
  pub looks : LooksAbove i old.above.next old.above new.above old.upstream.inward inward found
  pub shuts : ShutsEnd o (is_failed found) (record {
    id = old.upstream.id;
    lower = old.upstream.lower;
    inward = inward;
    outward = old.upstream.outward;
  }) new.upstream
  pub same : IsSameMember old new
  pub mirror : new.mirror ≡ old.mirror
  pub below : new.below ≡ old.below
  pub stage : new.stage ≡ old.stage

-- What follows once it looked. The end that stands next after a failed link is taken at once.
pub record TakesFound {F I O : Type 0} (f : files.Ghosts F) (o : link_out.Ghosts O) (m : MemberState) (found : Looked)
    (old new : Member I O) (book book' : BookState F) (result : Stepped) : Type 0 where
  pub answer : Stepped
  pub takes : TakesAbove f o m old new book book' answer
  pub is : result ≡ after_failure found answer

abbrev pub TakesDown : {F I O : Type 0} → files.Ghosts F → link_out.Ghosts O → MemberState → Bool → Looked →
    Member I O → Member I O → BookState F → BookState F → Stepped → Type 0
TakesDown f o m true found old new book book' result = Stays old new book book' result stepped.Memory
TakesDown f o m false found old new book book' result = TakesFound f o m found old new book book' result

-- An open member looks for what stands next from above, and takes it where it may.
pub record GoesDownBy {F I O : Type 0} (f : files.Ghosts F) (i : link_in.Ghosts I) (o : link_out.Ghosts O)
    (m : MemberState) (old new : Member I O) (book book' : BookState F) (result : Stepped) : Type 0 where
  pub seen : Member I O
  pub found : Looked
  pub looks : LooksUp i o old seen found
  pub takes : TakesDown f o m (finds_no_memory found) found seen new book book' result

abbrev pub GoesDown : {F I O : Type 0} → files.Ghosts F → link_in.Ghosts I → link_out.Ghosts O → Stage → Member I O →
    Member I O → BookState F → BookState F → Stepped → Type 0
GoesDown f i o (stage.Open m) old new book book' result = GoesDownBy f i o m old new book book' result
GoesDown f i o other old new book book' result = Stays old new book book' result (closed_step other)

-- READY

abbrev pub IsReady : {F I O : Type 0} → files.Ghosts F → link_out.Ghosts O → Stage → Member I O → Member I O →
    BookState F → BookState F → Stepped → Type 0
IsReady f o (stage.Open m) old new book book' result =
    TurnsIf f o m (ready_turn_by m book.replica) took.Nothing old new book book' result
IsReady f o other old new book book' result = Stays old new book book' result (closed_step other)

-- UP

-- The member takes what stands next from the mirror.
abbrev pub TakesBelow : {F I O : Type 0} → files.Ghosts F → link_out.Ghosts O → MemberState → Member I O → Member I O →
    BookState F → BookState F → Stepped → Type 0
TakesBelow f o m old new book book' result =
    TurnsIf f o m (option_map (up_turn m (slice_get book.replica.pending 0)) old.below.next) took.Below old new book
    book' result

-- The member looked for what stands next from its mirror. Where the link failed, its end is shut.
pub record LooksDown {I O : Type 0} (i : link_in.Ghosts I) (o : link_out.Ghosts O) (m : MemberState)
    (old new : Member I O) (found : Looked) : Type 0 where
  pub mirror : Option (Conn I O)
  pub looks : LooksBelow i (is_asked m.mirror) old.below.next old.below new.below old.mirror mirror found
  pub shuts : ShutsMirror o (is_failed found) mirror new.mirror
  pub same : IsSameMember old new
  pub upstream : new.upstream ≡ old.upstream
  pub above : new.above ≡ old.above
  pub stage : new.stage ≡ old.stage

-- An open member looks; any other stays.
abbrev pub LooksDownAt : {I O : Type 0} → link_in.Ghosts I → link_out.Ghosts O → Stage → Member I O → Member I O →
    Looked → Type 0
LooksDownAt i o (stage.Open m) old new found = LooksDown i o m old new found
LooksDownAt i o other old new found = (new ≡ old) × (found ≡ looked.Known)

abbrev pub TakesUp : {F I O : Type 0} → files.Ghosts F → link_out.Ghosts O → MemberState → Bool → Member I O →
    Member I O → BookState F → BookState F → Stepped → Type 0
TakesUp f o m true old new book book' result = Stays old new book book' result stepped.Memory
TakesUp f o m false old new book book' result = TakesBelow f o m old new book book' result

-- An open member that hears its mirror looks for what stands next there, and takes it.
pub record GoesUpBy {F I O : Type 0} (f : files.Ghosts F) (i : link_in.Ghosts I) (o : link_out.Ghosts O)
    (m : MemberState) (old new : Member I O) (book book' : BookState F) (result : Stepped) : Type 0 where
  pub seen : Member I O
  pub found : Looked
  pub looks : LooksDown i o m old seen found
  pub takes : TakesUp f o m (finds_no_memory found) seen new book book' result

abbrev pub GoesUpIf : {F I O : Type 0} → files.Ghosts F → link_in.Ghosts I → link_out.Ghosts O → MemberState → Bool →
    Member I O → Member I O → BookState F → BookState F → Stepped → Type 0
GoesUpIf f i o m true old new book book' result = GoesUpBy f i o m old new book book' result
GoesUpIf f i o m false old new book book' result = Stays old new book book' result stepped.NotReady

abbrev pub GoesUp : {F I O : Type 0} → files.Ghosts F → link_in.Ghosts I → link_out.Ghosts O → Stage → Member I O →
    Member I O → BookState F → BookState F → Stepped → Type 0
GoesUp f i o (stage.Open m) old new book book' result = GoesUpIf f i o m (hears m) old new book book' result
GoesUp f i o other old new book book' result = Stays old new book book' result (closed_step other)
