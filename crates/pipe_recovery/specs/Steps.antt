-- The steps of a setup.
use Rattle.std.specs.Prelude.{◌≡◌, not, ◌||◌, Bool, true, false, Option, Some, None, is_err}
use Rattle.hd_base.specs.declared.links.LinkIn as link_in
use Rattle.hd_base.specs.declared.links.LinkOut as link_out
use Rattle.hd_base.specs.declared.roads.Roads as roads
use Rattle.link_pieces.specs.Roads.{GivesUp}
use Rattle.name_core.specs.declared.desks.Desk as desk
use Rattle.writer_core.specs.declared.phases.Phase.{Phase}
use Rattle.writer_core.specs.declared.phases.Phase.TheVariants as phase
use Rattle.writer_core.specs.declared.phases.Setup.{Setup}
use Rattle.writer_core.specs.declared.phases.Setup.TheVariants as setup
use Rattle.writer_core.specs.declared.records.WriterRecord.{WriterRecord}
use Rattle.writer_core.specs.Transitions.{own_step, is_connected}
use Rattle.pipe_recovery.specs.declared.acting.Acted.{Acted}
use Rattle.pipe_recovery.specs.declared.acting.Acted.TheVariants as acted
use Rattle.pipe_recovery.specs.declared.hearing.Answer.{Answer}
use Rattle.pipe_recovery.specs.declared.hearing.Looked.{Looked}
use Rattle.pipe_recovery.specs.declared.hearing.Looked.TheVariants as looked
use Rattle.pipe_recovery.specs.declared.links.Link.{Link}
use Rattle.pipe_recovery.specs.declared.rebuilding.RebuildStep.{RebuildStep}
use Rattle.pipe_recovery.specs.declared.rebuilding.RebuildStep.TheVariants as step
use Rattle.pipe_recovery.specs.declared.rebuilding.Rebuilt.TheVariants as rebuilt
use Rattle.pipe_recovery.specs.Acting.{MovesOn}
use Rattle.pipe_recovery.specs.Asking.{Asks}
use Rattle.pipe_recovery.specs.Dialling.{Dials}
use Rattle.pipe_recovery.specs.Hearing.{told}
use Rattle.pipe_recovery.specs.Links.{LooksAt}
use Rattle.pipe_recovery.specs.Reports.{Reports}

-- WHERE A SETUP MAY BE

-- After a SUCCESS answer a setup goes on where a stamp is to be committed; the connection of a close's recovery is
-- shut then.
abbrev pub fits_accepted : Setup → Bool → Bool
fits_accepted setup.Create linked = false
fits_accepted setup.CloseRecovery linked = not linked
fits_accepted s linked = linked

-- A step may be done where the writer is here, and the setup has a connection or none.
abbrev pub fits_in : Phase → Bool → Bool
fits_in (phase.Wanted s) linked = not linked
fits_in (phase.Stamped s stamp) linked = true
fits_in (phase.Requested s stamp) linked = linked
fits_in (phase.Accepted s stamp) linked = fits_accepted s linked
fits_in other linked = false

-- the stamp was given: the end of a dial may be kept on which no request was sent
abbrev pub is_stamped : Phase → Bool
is_stamped (phase.Stamped s stamp) = true
is_stamped other = false

-- the writer has a connection, or is to be given one
abbrev pub keeps_link : Phase → Bool
keeps_link p = is_connected p || is_stamped p

-- A step that didn't end the setup, or for which there was no memory, is followed by another.
abbrev pub StillFits : {I O : Type 0} → Phase → Bool → RebuildStep I O → Type 0
StillFits p linked step.Moved = fits_in p linked ≡ true
StillFits p linked step.Waiting = fits_in p linked ≡ true
StillFits p linked (step.Ended rebuilt.Memory) = fits_in p linked ≡ true
StillFits p linked other = Unit {0}

-- THE ACTION OF A STEP

-- What is taken where something stands next, or the writer's own step.
abbrev pub TakesAs : {I O : Type 0} → Option Answer → WriterRecord → WriterRecord → Link I O → Link I O → Acted
    → Type 0
TakesAs (Some x) w w' old new result = (w' ≡ told w x)
    × (new ≡ record old { heard = record old.heard { next = None } }) × (result ≡ acted.Moved)
TakesAs None w w' old new result = (new ≡ old) × MovesOn (own_step w) w w' result

abbrev pub Takes : {I O : Type 0} → WriterRecord → WriterRecord → Link I O → Link I O → Acted → Type 0
Takes w w' old new result = TakesAs old.heard.next w w' old new result

-- What follows the look.
abbrev pub FollowsLook : {I O : Type 0} → Looked → WriterRecord → WriterRecord → Link I O → Link I O → Acted → Type 0
FollowsLook looked.Memory w w' old new result = (w' ≡ w) × (new ≡ old) × (result ≡ acted.Memory)
FollowsLook looked.Known w w' old new result = Takes w w' old new result

-- Where an answer is awaited what stands next is looked at and taken.
pub record WaitsOn {I O : Type 0} (i : link_in.Ghosts I) (w w' : WriterRecord) (old new : Link I O) (result : Acted)
    : Type 0 where
  pub found : Looked
  pub seen : Link I O
  pub looks : LooksAt i old seen found
  pub follows : FollowsLook found w w' seen new result

abbrev pub Waits : {I O : Type 0} → link_in.Ghosts I → WriterRecord → WriterRecord → Option (Link I O)
    → Option (Link I O) → Acted → Type 0
Waits i w w' None None result = MovesOn (own_step w) w w' result
Waits i w w' (Some old) (Some new) result = WaitsOn i w w' old new result
Waits i w w' old new result = ⊥

-- What follows the office's answer: where it gave a stamp, the dial.
abbrev pub GoesOn : {R I O : Type 0} → roads.Ghosts R I O → link_in.Ghosts I → link_out.Ghosts O → Bool → WriterRecord
    → WriterRecord → Option (Link I O) → Option (Link I O) → R → R → Acted → Acted → Type 0
GoesOn r i o true w w' link link' old new first result = Dials r i o (own_step w) w w' link link' old new result
GoesOn r i o false w w' link link' old new first result = (w' ≡ w) × (link' ≡ link) × (new ≡ old) × (result ≡ first)

-- The office is asked, and where it gives a stamp the first member is dialled.
pub record AsksAndDials {D R I O : Type 0} (d : desk.Ghosts D) (r : roads.Ghosts R I O) (i : link_in.Ghosts I)
    (o : link_out.Ghosts O) (w w' : WriterRecord) (link link' : Option (Link I O)) (office office' : D) (old new : R)
    (result : Acted) : Type 0 where
  pub first : Acted
  pub answered : WriterRecord
  pub asks : Asks d (own_step w) w answered office office' first
  pub goes_on : GoesOn r i o (is_stamped answered.phase) answered w' link link' old new first result

-- What stands next is told to the writer, where something does.
abbrev pub HearsNextAs : {I O : Type 0} → Option Answer → WriterRecord → WriterRecord → Link I O → Link I O
    → Option Acted → Type 0
HearsNextAs (Some x) w w' old new result = (w' ≡ told w x)
    × (new ≡ record old { heard = record old.heard { next = None } }) × (result ≡ Some acted.Moved)
HearsNextAs None w w' old new result = (w' ≡ w) × (new ≡ old) × (result ≡ None)

abbrev pub HearsNext : {I O : Type 0} → WriterRecord → WriterRecord → Link I O → Link I O → Option Acted → Type 0
HearsNext w w' old new result = HearsNextAs old.heard.next w w' old new result

abbrev pub HearsSeen : {I O : Type 0} → Looked → WriterRecord → WriterRecord → Link I O → Link I O → Option Acted
    → Type 0
HearsSeen looked.Memory w w' old new result = (w' ≡ w) × (new ≡ old) × (result ≡ Some acted.Memory)
HearsSeen looked.Known w w' old new result = HearsNext w w' old new result

-- It is looked at what stands next.
pub record HearsOn {I O : Type 0} (i : link_in.Ghosts I) (w w' : WriterRecord) (old new : Link I O)
    (result : Option Acted) : Type 0 where
  pub found : Looked
  pub seen : Link I O
  pub looks : LooksAt i old seen found
  pub hears : HearsSeen found w w' seen new result

-- It is, where the roads were asked to give it. A look might wait where they weren't.
abbrev pub HearsGiven : {I O : Type 0} → link_in.Ghosts I → Bool → WriterRecord → WriterRecord → Link I O → Link I O
    → Option Acted → Type 0
HearsGiven i true w w' old new result = HearsOn i w w' old new result
HearsGiven i false w w' old new result = (w' ≡ w) × (new ≡ old) × (result ≡ None)

-- The same, if there is a connection.
abbrev pub Hears : {I O : Type 0} → link_in.Ghosts I → WriterRecord → WriterRecord → Option (Link I O)
    → Option (Link I O) → Option Acted → Type 0
Hears i w w' None None result = (w' ≡ w) × (result ≡ None)
Hears i w w' (Some old) (Some new) result = HearsGiven i old.asked w w' old new result
Hears i w w' old new result = ⊥

-- Where nothing was heard the office is asked.
abbrev pub ElseAsks : {D R I O : Type 0} → desk.Ghosts D → roads.Ghosts R I O → link_in.Ghosts I → link_out.Ghosts O
    → Option Acted → WriterRecord → WriterRecord → Option (Link I O) → Option (Link I O) → D → D → R → R → Acted
    → Type 0
ElseAsks d r i o (Some x) w w' link link' office office' old new result = (w' ≡ w) × (link' ≡ link)
    × (office' ≡ office) × (new ≡ old) × (result ≡ x)
ElseAsks d r i o None w w' link link' office office' old new result =
    AsksAndDials d r i o w w' link link' office office' old new result

-- What stands next goes before the commit: the end of a connection is a setup that failed.
pub record HearsOrAsks {D R I O : Type 0} (d : desk.Ghosts D) (r : roads.Ghosts R I O) (i : link_in.Ghosts I)
    (o : link_out.Ghosts O) (w w' : WriterRecord) (link link' : Option (Link I O)) (office office' : D) (old new : R)
    (result : Acted) : Type 0 where
  pub heard : Option Acted
  pub after : WriterRecord
  pub held : Option (Link I O)
  pub hears : Hears i w after link held heard
  pub else_asks : ElseAsks d r i o heard after w' held link' office office' old new result

-- what isn't used stays
abbrev pub Leaves : {A : Type 0} → A → A → Type 0 → Type 0
Leaves old new does = (new ≡ old) × does

-- Nothing is done.
abbrev pub IsIdle : {I O : Type 0} → WriterRecord → WriterRecord → Option (Link I O) → Option (Link I O) → Acted
    → Type 0
IsIdle w w' link link' result = (w' ≡ w) × (link' ≡ link) × (result ≡ acted.Idle)

-- What a step does by where the writer is.
abbrev pub Acts : {D R I O : Type 0} → desk.Ghosts D → roads.Ghosts R I O → link_in.Ghosts I → link_out.Ghosts O
    → Phase → WriterRecord → WriterRecord → Option (Link I O) → Option (Link I O) → D → D → R → R → Acted → Type 0
Acts d r i o (phase.Wanted s) w w' link link' office office' old new result =
    AsksAndDials d r i o w w' link link' office office' old new result
Acts d r i o (phase.Accepted s stamp) w w' link link' office office' old new result =
    HearsOrAsks d r i o w w' link link' office office' old new result
Acts d r i o (phase.Stamped s stamp) w w' link link' office office' old new result =
    Leaves office office' (Dials r i o (own_step w) w w' link link' old new result)
Acts d r i o (phase.Requested s stamp) w w' link link' office office' old new result =
    Leaves office office' (Leaves old new (Waits i w w' link link' result))
Acts d r i o other w w' link link' office office' old new result =
    Leaves office office' (Leaves old new (IsIdle w w' link link' result))

-- A connection that the writer doesn't have is given up.
abbrev pub Settles : {R I O : Type 0} → roads.Ghosts R I O → link_in.Ghosts I → link_out.Ghosts O → Bool
    → Option (Link I O) → Option (Link I O) → R → R → Type 0
Settles r i o true link link' old new = (link' ≡ link) × (new ≡ old)
Settles r i o false None link' old new = (link' ≡ None) × (new ≡ old)
Settles r i o false (Some l) link' old new = (link' ≡ None) × GivesUp r i o l.end old new

-- whether the end that is given up is lost: there was no memory to bring it back
abbrev pub is_lost : {R I O : Type 0} → (r : roads.Ghosts R I O) → (i : link_in.Ghosts I) → (o : link_out.Ghosts O)
    → (keeps : Bool) → (link link' : Option (Link I O)) → (old new : R) → Settles r i o keeps link link' old new → Bool
is_lost r i o true link link' old new s = false
is_lost r i o false None link' old new s = false
is_lost r i o false (Some l) link' old new s = is_err s.1.result

-- The same, and it is told whether an end is lost.
pub record SettlesTold {R I O : Type 0} (r : roads.Ghosts R I O) (i : link_in.Ghosts I) (o : link_out.Ghosts O)
    (keeps : Bool) (link link' : Option (Link I O)) (old new : R) (lost : Bool) : Type 0 where
  pub settles : Settles r i o keeps link link' old new
  pub told : lost ≡ is_lost r i o keeps link link' old new settles

-- A step: its action, a connection that is given up, whether its end is lost, and how it ends.
pub record Steps {D R I O : Type 0} (d : desk.Ghosts D) (r : roads.Ghosts R I O) (i : link_in.Ghosts I)
    (o : link_out.Ghosts O) (w w' : WriterRecord) (link link' : Option (Link I O)) (office office' : D) (old new : R)
    (lost : Bool) (result : RebuildStep I O) : Type 0 where
  pub acted : Acted
  pub held : Option (Link I O)
  pub kept : Option (Link I O)
  pub middle : R
  pub acts : Acts d r i o w.phase w w' link held office office' old middle acted
  pub settles : SettlesTold r i o (keeps_link w'.phase) held kept middle new lost
  pub reports : Reports i acted w' kept link' result
