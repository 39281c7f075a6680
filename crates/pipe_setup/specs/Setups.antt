-- How the setup of a member ends, up to its answer.
use Rattle.std.specs.Prelude.{◌≡◌, ◌≢◌, ◌⊎◌, ℕ, Bool, true, false, [], Option, Some, None, Result, Ok, Err}
use Rattle.hd_base.specs.declared.ends.Conn.{Conn}
use Rattle.hd_base.specs.declared.numbers.ConnId.{ConnId}
use Rattle.hd_base.specs.declared.numbers.NodeId.{NodeId}
use Rattle.hd_base.specs.declared.numbers.Receipt.{Receipt}
use Rattle.hd_base.specs.declared.files.Files as files
use Rattle.hd_base.specs.declared.links.LinkIn as link_in
use Rattle.hd_base.specs.declared.links.LinkOut as link_out
use Rattle.hd_base.specs.declared.roads.Roads as roads
use Rattle.link_pieces.specs.Roads.{IsUnanswered}
use Rattle.op_headers.specs.Values.{WriteFields}
use Rattle.replica_core.specs.declared.events.Event.{Event}
use Rattle.replica_core.specs.Views.{rule_in}
use Rattle.member_core.specs.ReplicaModel.ReplicaEvent.TheVariants as replica_event
use Rattle.replica_files.specs.declared.book_state.BookState.{BookState}
use Rattle.replica_files.specs.declared.faults.BookFault.{BookFault}
use Rattle.replica_files.specs.declared.faults.BookFault.TheVariants as fault
use Rattle.replica_files.specs.Endings.{BookEnds}
use Rattle.member_core.specs.RequestRefusals.RequestRefusal.{RequestRefusal}
use Rattle.member_core.specs.Requests.{request_event}
use Rattle.pipe_setup.specs.Refusals.{refusal_of, IsUnbooked}
use Rattle.pipe_setup.specs.Requests.{first_port}
use Rattle.pipe_setup.specs.Reaching.{IsAskedBy, IsUnwritten, IsUnsent, Loses, FindsNoMemory}
use Rattle.pipe_setup.specs.declared.refusals.SetupRefusal.{SetupRefusal}
use Rattle.pipe_setup.specs.declared.refusals.SetupRefusal.TheVariants as refusal
use Rattle.pipe_setup.specs.declared.setups.Setup.{Setup}
use Rattle.pipe_setup.specs.declared.setups.Setup.TheVariants as setup

-- what the book answered to a refused request, if it was asked
abbrev pub refused_in : SetupRefusal → Option (Result Receipt BookFault)
refused_in (refusal.Core why receipt) = Some (Err (fault.Refused why receipt))
refused_in other = None

-- what the book answered, if it was asked
abbrev pub booked_in : {I O : Type 0} → Setup I O → Option (Result Receipt BookFault)
booked_in (setup.Last receipt) = Some (Ok receipt)
booked_in (setup.Mirrored receipt end) = Some (Ok receipt)
booked_in (setup.MirrorDown receipt answered) = Some (Ok receipt)
booked_in (setup.Refused why) = refused_in why
booked_in (setup.File receipt) = Some (Err (fault.File receipt))
booked_in (setup.Memory None) = Some (Err fault.Memory)
booked_in (setup.Memory (Some receipt)) = Some (Ok receipt)

-- The book was asked, and answered so.
abbrev pub EndsAs : {F : Type 0} → files.Ghosts F → BookState F → BookState F → Event →
    Option (Result Receipt BookFault) → Type 0
EndsAs f old new e None = ⊥
EndsAs f old new e (Some answer) = BookEnds f old new (replica_event.Other e) answer

-- The dial was answered, and the link that it gave failed and was brought back.
pub record IsLost {R I O : Type 0} (r : roads.Ghosts R I O) (i : link_in.Ghosts I) (o : link_out.Ghosts O) (port : ℕ)
    (old new : R) : Type 0 where
  pub middle : R
  pub end : Conn I O
  pub unsent : IsUnsent r i o port old middle end
  pub lost : Loses r i o end middle new (Ok tt)

-- The mirror can't be had: its dial was answered and the link failed, or no request can go on, or the dial wasn't answered.
abbrev pub IsDown : {R I O : Type 0} → roads.Ghosts R I O → link_in.Ghosts I → link_out.Ghosts O → NodeId →
    WriteFields → Bool → R → R → Type 0
IsDown r i o node w true old new = IsLost r i o (first_port w.targets) old new
IsDown r i o node w false old new = IsUnwritten node w old new ⊎ IsUnanswered r (first_port w.targets) old new

-- the request is of a member with a mirror
abbrev pub HasTarget : WriteFields → Type 0
HasTarget w = w.targets ≢ []

-- What goes on to the mirror once the request was booked, and else nothing.
abbrev pub GoesOn : {R I O : Type 0} → roads.Ghosts R I O → link_in.Ghosts I → link_out.Ghosts O → NodeId →
    WriteFields → R → R → Setup I O → Type 0
GoesOn r i o node w old new (setup.Last receipt) = (w.targets ≡ []) × (new ≡ old)
GoesOn r i o node w old new (setup.Mirrored receipt end) = HasTarget w × IsAskedBy r i o node w old new end
GoesOn r i o node w old new (setup.MirrorDown receipt answered) = HasTarget w × IsDown r i o node w answered old new
GoesOn r i o node w old new (setup.Memory (Some receipt)) = HasTarget w ×
    FindsNoMemory r i o (first_port w.targets) old new
GoesOn r i o node w old new other = new ≡ old

-- The request is this event of the replica: it is booked, and goes on.
pub record SetsUpBy {F R I O : Type 0} (f : files.Ghosts F) (r : roads.Ghosts R I O) (i : link_in.Ghosts I)
    (o : link_out.Ghosts O) (node : NodeId) (w : WriteFields) (e : Event) (book book' : BookState F) (old new : R)
    (result : Setup I O) : Type 0 where
  pub booked : EndsAs f book book' e (booked_in result)
  pub goes_on : GoesOn r i o node w old new result

abbrev pub SaysUnbooked : {I O : Type 0} → Setup I O → RequestRefusal → Type 0
SaysUnbooked (setup.Refused why) r = IsUnbooked why × (refusal_of why ≡ r)
SaysUnbooked other r = ⊥

-- The request is refused before the replica is asked.
pub record IsRefusedBefore {F R I O : Type 0} (book book' : BookState F) (old new : R) (result : Setup I O)
    (r : RequestRefusal) : Type 0 where
  pub says : SaysUnbooked result r
  pub book_same : book' ≡ book
  pub roads_same : new ≡ old

abbrev pub SetsUpAs : {F R I O : Type 0} → files.Ghosts F → roads.Ghosts R I O → link_in.Ghosts I → link_out.Ghosts O →
    NodeId → WriteFields → BookState F → BookState F → R → R → Setup I O → Result Event RequestRefusal → Type 0
SetsUpAs f r i o node w book book' old new result (Err refusal) = IsRefusedBefore book book' old new result refusal
SetsUpAs f r i o node w book book' old new result (Ok e) = SetsUpBy f r i o node w e book book' old new result

-- How a write request on a connection is set up, by the event that it is at the replica, or why it is refused before.
abbrev pub SetsUp : {F R I O : Type 0} → files.Ghosts F → roads.Ghosts R I O → link_in.Ghosts I → link_out.Ghosts O →
    ConnId → NodeId → WriteFields → BookState F → BookState F → R → R → Setup I O → Type 0
SetsUp f r i o conn node w book book' old new result =
    SetsUpAs f r i o node w book book' old new result (request_event conn w (rule_in book.replica))
