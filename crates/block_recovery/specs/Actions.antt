-- What a primary does with the connections to all members, in their order.
use Rattle.std.specs.Prelude.{◌≡◌, ◌||◌, ℕ, zero, suc, ◌<◌, ◌-◌, Bool, true, false, List, length, slice_get, slice_set}
use Rattle.std.specs.Prelude.{Option, Some, None, Result, Ok, Err}
use Rattle.std.specs.declared.alloc.AllocError.{AllocError}
use Rattle.hd_base.specs.declared.ends.Conn.{Conn}
use Rattle.hd_base.specs.declared.ends.RoadError.{RoadError}
use Rattle.hd_base.specs.declared.numbers.NodeId.{NodeId}
use Rattle.hd_base.specs.declared.links.LinkIn as link_in
use Rattle.hd_base.specs.declared.links.LinkOut as link_out
use Rattle.hd_base.specs.declared.roads.Roads as roads
use Rattle.link_pieces.specs.Roads.{KeepsRoads, GivesUp, BringsEnd}
use Rattle.recovery_core.specs.declared.standings.Standing.{Standing}
use Rattle.recovery_core.specs.Primaries.{is_among, is_awaited}
use Rattle.block_recovery.specs.declared.actions.Found.{Found}
use Rattle.block_recovery.specs.declared.actions.Found.TheVariants as found
use Rattle.block_recovery.specs.declared.hearing.Looked.{Looked}
use Rattle.block_recovery.specs.declared.hearing.Looked.TheVariants as looked
use Rattle.block_recovery.specs.declared.links.Link.{Link}
use Rattle.block_recovery.specs.declared.links.Seat.{Seat}
use Rattle.block_recovery.specs.declared.links.Seat.TheVariants as seat
use Rattle.block_recovery.specs.Dialling.{Dials}
use Rattle.block_recovery.specs.Links.{LooksAt, SendsOn}

-- An action was done at each place so far, in order.
abbrev pub Passes : {S : Type 0} → (ℕ → S → S → Type 0) → ℕ → S → S → Type 0
Passes {S} rel zero a b = b ≡ a
Passes {S} rel (suc k) a b = (m : S) × (Passes rel k a m × rel k m b)

-- The action changes the connection at this place alone.
pub record IsAt {L : Type 0} (rel : L → L → Type 0) (k : ℕ) (old new : List L) : Type 0 where
  pub before : L
  pub after : L
  pub stood : slice_get old k ≡ Some before
  pub stands : new ≡ slice_set old k after
  pub is : rel before after

-- The connections, by the members' places, and the roads.
pub record Held (R I O : Type 0) : Type 0 where
  pub links : List (Seat I O)
  pub road : R

-- DIALS

-- The member that stands there, if one does, is dialled.
abbrev pub DialsNode : {R I O : Type 0} → roads.Ghosts R I O → link_in.Ghosts I → link_out.Ghosts O → Option NodeId → R
    → R → Seat I O → Type 0
DialsNode r i o None old new after = (new ≡ old) × (after ≡ seat.Empty)
DialsNode r i o (Some node) old new after = Dials r i o node old new (Ok after)

-- The end of the dial is kept, or there was no memory for it.
abbrev pub DialsInto : {R I O : Type 0} → roads.Ghosts R I O → link_in.Ghosts I → link_out.Ghosts O → Option NodeId
    → Seat I O → Seat I O → R → R → Result (Unit {0}) AllocError → Type 0
DialsInto r i o at before after old new (Ok _) = DialsNode r i o at old new after
DialsInto r i o at before after old new (Err _) = (after ≡ before) × KeepsRoads r old new

-- The member at this place is dialled.
abbrev pub DialsAt : {R I O : Type 0} → roads.Ghosts R I O → link_in.Ghosts I → link_out.Ghosts O → List NodeId
    → Result (Unit {0}) AllocError → ℕ → Held R I O → Held R I O → Type 0
DialsAt r i o members result k a b =
    IsAt (λ before after. DialsInto r i o (slice_get members k) before after a.road b.road result) k a.links b.links

-- How the dials end: all members were dialled, or there was no memory for the next.
abbrev pub DialsEnd : {R I O : Type 0} → roads.Ghosts R I O → link_in.Ghosts I → link_out.Ghosts O → List NodeId → ℕ → ℕ
    → Held R I O → Held R I O → Result (Unit {0}) AllocError → Type 0
DialsEnd r i o members rest count a b (Ok _) = (b ≡ a) × (rest ≡ 0)
DialsEnd r i o members rest count a b (Err e) = DialsAt r i o members (Err e) count a b

-- The members were dialled in order, up to one for which there was no memory.
pub record DialsAll {R I O : Type 0} (r : roads.Ghosts R I O) (i : link_in.Ghosts I) (o : link_out.Ghosts O)
    (members : List NodeId) (links links' : List (Seat I O)) (old new : R) (result : Result (Unit {0}) AllocError)
    : Type 0 where
  pub count : ℕ
  pub middle : Held R I O
  pub passes : Passes (DialsAt r i o members (Ok tt)) count (record { links = links; road = old }) middle
  pub ends : DialsEnd r i o members (length links - count) count middle (record { links = links'; road = new }) result

-- SENDS

-- This text is sent on a connection, if it is due there and there is one.
abbrev pub SendsIf : {I O : Type 0} → link_out.Ghosts O → List ℕ → Bool → Seat I O → Seat I O
    → Result (Unit {0}) AllocError → Type 0
SendsIf o text true (seat.Open old) (seat.Open new) result = SendsOn o text old new result
SendsIf o text due old new result = (new ≡ old) × (result ≡ Ok tt)

-- the member that stands there, if one does, is a chosen one
abbrev pub is_due : List NodeId → Option NodeId → Bool
is_due chosen None = false
is_due chosen (Some node) = is_among chosen node

-- The member at this place is sent the text, where it is a chosen one.
abbrev pub SendsAt : {I O : Type 0} → link_out.Ghosts O → List ℕ → List NodeId → List NodeId
    → Result (Unit {0}) AllocError → ℕ → List (Seat I O) → List (Seat I O) → Type 0
SendsAt o text members chosen result k old new =
    IsAt (λ before after. SendsIf o text (is_due chosen (slice_get members k)) before after result) k old new

abbrev pub SendsEnd : {I O : Type 0} → link_out.Ghosts O → List ℕ → List NodeId → List NodeId → ℕ → ℕ
    → List (Seat I O) → List (Seat I O) → Result (Unit {0}) AllocError → Type 0
SendsEnd o text members chosen rest count old new (Ok _) = (new ≡ old) × (rest ≡ 0)
SendsEnd o text members chosen rest count old new (Err e) = SendsAt o text members chosen (Err e) count old new

-- The chosen members were sent the text in order, up to one for which there was no memory.
pub record SendsAll {I O : Type 0} (o : link_out.Ghosts O) (text : List ℕ) (members chosen : List NodeId)
    (old new : List (Seat I O)) (result : Result (Unit {0}) AllocError) : Type 0 where
  pub count : ℕ
  pub middle : List (Seat I O)
  pub passes : Passes (SendsAt o text members chosen (Ok tt)) count old middle
  pub ends : SendsEnd o text members chosen (length old - count) count middle new result

-- GIVING UP

abbrev pub keeps_as : Option Standing → Bool
keeps_as None = false
keeps_as (Some s) = is_awaited s

-- an answer of the member at this place is awaited
abbrev pub keeps_at : List Standing → ℕ → Bool
keeps_at standings k = keeps_as (slice_get standings k)

-- the place of an end that was to be brought back: empty where it is back, and else the end is lost
abbrev pub place_after : {I O : Type 0} → Result (Unit {0}) RoadError → Seat I O
place_after (Ok _) = seat.Empty
place_after (Err _) = seat.Lost

-- An end is brought back; where there is no memory for it the end is lost, and its place says so.
pub record BringsBack {R I O : Type 0} (r : roads.Ghosts R I O) (i : link_in.Ghosts I) (o : link_out.Ghosts O)
    (end : Conn I O) (place : Seat I O) (old new : R) : Type 0 where
  pub result : Result (Unit {0}) RoadError
  pub brings : BringsEnd r i o end old new result
  pub place_is : place ≡ place_after result

-- An end is shut, and then the same.
pub record GivesBack {R I O : Type 0} (r : roads.Ghosts R I O) (i : link_in.Ghosts I) (o : link_out.Ghosts O)
    (end : Conn I O) (place : Seat I O) (old new : R) : Type 0 where
  pub gives : GivesUp r i o end old new
  pub place_is : place ≡ place_after gives.result

-- A connection is kept, or given up, if there is one.
abbrev pub Settles : {R I O : Type 0} → roads.Ghosts R I O → link_in.Ghosts I → link_out.Ghosts O → Bool
    → Seat I O → Seat I O → R → R → Type 0
Settles r i o true link link' old new = (link' ≡ link) × (new ≡ old)
Settles r i o false seat.Empty link' old new = (link' ≡ seat.Empty) × (new ≡ old)
Settles r i o false seat.Lost link' old new = (link' ≡ seat.Lost) × (new ≡ old)
Settles r i o false (seat.Open l) link' old new = GivesBack r i o l.end link' old new

abbrev pub SettlesPlace : {R I O : Type 0} → roads.Ghosts R I O → link_in.Ghosts I → link_out.Ghosts O → Bool → ℕ
    → List (Seat I O) → List (Seat I O) → R → R → Type 0
SettlesPlace r i o keeps place links links' old new =
    IsAt (λ before after. Settles r i o keeps before after old new) place links links'

-- The connection to the member at this place is kept where an answer is awaited, and else given up.
abbrev pub SettlesAt : {R I O : Type 0} → roads.Ghosts R I O → link_in.Ghosts I → link_out.Ghosts O → List Standing
    → ℕ → Held R I O → Held R I O → Type 0
SettlesAt r i o standings k a b =
    IsAt (λ before after. Settles r i o (keeps_at standings k) before after a.road b.road) k a.links b.links

-- Each connection is.
abbrev pub SettlesAll : {R I O : Type 0} → roads.Ghosts R I O → link_in.Ghosts I → link_out.Ghosts O → List Standing
    → List (Seat I O) → List (Seat I O) → R → R → Type 0
SettlesAll r i o standings links links' old new = Passes (SettlesAt r i o standings) (length links)
    (record { links = links; road = old }) (record { links = links'; road = new })

-- LOOKS

-- A connection is looked at, where what stands next is awaited or was asked for.
abbrev pub PollsLink : {I O : Type 0} → link_in.Ghosts I → Bool → Link I O → Link I O → Looked → Type 0
PollsLink i true old new result = LooksAt i old new result
PollsLink i false old new result = (new ≡ old) × (result ≡ looked.Nothing)

abbrev pub Polls : {I O : Type 0} → link_in.Ghosts I → Bool → Seat I O → Seat I O → Looked → Type 0
Polls i awaited (seat.Open old) (seat.Open new) result = PollsLink i (awaited || old.asked) old new result
Polls i awaited seat.Empty seat.Empty result = result ≡ looked.Nothing
Polls i awaited seat.Lost seat.Lost result = result ≡ looked.Nothing
Polls i awaited old new result = ⊥

abbrev pub PollsAt : {I O : Type 0} → link_in.Ghosts I → Option Standing → Seat I O → Seat I O
    → Looked → Type 0
PollsAt i None old new result = (new ≡ old) × (result ≡ looked.Nothing)
PollsAt i (Some s) old new result = Polls i (is_awaited s) old new result

-- The connection to the member at this place is looked at.
abbrev pub PollsPlace : {I O : Type 0} → link_in.Ghosts I → List Standing → Looked → ℕ → List (Seat I O)
    → List (Seat I O) → Type 0
PollsPlace i standings result k old new =
    IsAt (λ before after. PollsAt i (slice_get standings k) before after result) k old new

-- How the looks end: the first that is there is taken, or nothing is at any.
abbrev pub PollsEnd : {I O : Type 0} → link_in.Ghosts I → List Standing → ℕ → ℕ → List (Seat I O)
    → List (Seat I O) → Found → Type 0
PollsEnd i standings rest count old new (found.Heard place h) = (place ≡ count)
    × PollsPlace i standings (looked.Heard h) count old new
PollsEnd i standings rest count old new found.Nothing = (new ≡ old) × (rest ≡ 0)
PollsEnd i standings rest count old new found.Memory = PollsPlace i standings looked.Memory count old new

pub record PollsAll {I O : Type 0} (i : link_in.Ghosts I) (standings : List Standing)
    (old new : List (Seat I O)) (result : Found) : Type 0 where
  pub count : ℕ
  pub middle : List (Seat I O)
  pub quiet : Passes (PollsPlace i standings looked.Nothing) count old middle
  pub ends : PollsEnd i standings (length old - count) count middle new result

-- What was heard is from a member of which the primary knows how it stands, and whose connection it has.
abbrev pub IsWithin : ℕ → ℕ → Found → Type 0
IsWithin standings links (found.Heard place h) = (place < standings) × (place < links)
IsWithin standings links other = Unit {0}
