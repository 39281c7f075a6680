-- What a primary takes from one of the members, and the world after it.
use Rattle.std.specs.Prelude.{◌≡◌, ℕ, Bool, true, false, slice_get, Some, None, Result, Ok, Err}
use Rattle.hd_base.specs.declared.links.LinkIn as link_in
use Rattle.hd_base.specs.declared.links.LinkOut as link_out
use Rattle.hd_base.specs.declared.numbers.ConnId.{ConnId}
use Rattle.hd_base.specs.declared.roads.Roads as roads
use Rattle.block_recovery.specs.declared.members.MemberHeard.{MemberHeard}
use Rattle.block_recovery.specs.declared.members.MemberHeard.TheVariants as member
use Rattle.block_recovery.specs.declared.primary.Primary as running
use Rattle.block_recovery.specs.Members.{TakesAt}
use Rattle.recovery_core.specs.declared.standings.Standing.{Standing}
use Rattle.recovery_core.specs.Primaries.{heard_at}
use Rattle.road_traffic.specs.Showing.{Net}
use Rattle.world.specs.declared.events.Event.TheVariants as event
use Rattle.world.specs.Parts.{Leading, recovery_answer}
use Rattle.world.specs.Worlds.{World}
use Rattle.world.specs.Connections.{Next, message, the_end, is_alive}
use Rattle.world.specs.Events.{happens}
use Rattle.world.specs.Primaries.{heard_of, listens}
use Rattle.world_primaries.specs.WorldNets.Drawn.{ComesUp}
use Rattle.world_primaries.specs.WorldOrders.Orders.{Ordered}
use Rattle.world_primaries.specs.Drawn.{Leads, HearsMember}
use Rattle.world_primaries.specs.Links.{AreDistinct}
use Rattle.client_events.specs.WorldTexts.Texts.{SpellsText, Written}
use Rattle.client_events.specs.Showing.{OthersStay}
use Rattle.primary_events.specs.declared.faults.PrimaryFault.{PrimaryFault}
use Rattle.primary_events.specs.declared.faults.PrimaryFault.TheVariants as fault
use Rattle.primary_events.specs.Faults.{IsRoadFault, IsCaused}
use Rattle.primary_events.specs.Showing.{PrimaryStands}

-- STEPS OF THE EVENT

-- What stands next on the connection to the member at a place was taken.
pub record TakesBy {R I O : Type 0} (r : roads.Ghosts R I O) (i : link_in.Ghosts I) (o : link_out.Ghosts O) (place : ℕ)
    (old new : running.Primary I O) (road road' : R) : Type 0 where
  pub core : new.core ≡ old.core
  pub block : new.block ≡ old.block
  pub members : new.members ≡ old.members
  pub takes : TakesAt r i o place old.links.items new.links.items road road' (Ok tt)

-- It was, or the exchange failed.
abbrev pub IsTaken : {R I O : Type 0} → roads.Ghosts R I O → link_in.Ghosts I → link_out.Ghosts O → ℕ →
    running.Primary I O → running.Primary I O → R → R → Result (Unit {0}) PrimaryFault → Type 0
IsTaken r i o place old new road road' (Ok _) = TakesBy r i o place old new road road'
IsTaken r i o place old new road road' (Err why) = IsRoadFault (r.faults road) (r.faults road') why

-- how the event ends where the end of the connection isn't lost
abbrev pub ends_by : MemberHeard → Result (Unit {0}) PrimaryFault
ends_by member.Taken = Ok tt
ends_by member.Nothing = Ok tt
ends_by member.LinkFailed = Err fault.LinkFailed
ends_by member.Memory = Err fault.Memory

-- an end is lost only where memory ran out
abbrev pub heard_as : MemberHeard → Bool → Result (Unit {0}) PrimaryFault
heard_as heard true = Err fault.Memory
heard_as heard false = ends_by heard

-- BEFORE THE EVENT

-- What comes to a primary: the answer of a member, spelled as it is written, or the end.
abbrev pub IsNextToPrimary : Next → Type 0
IsNextToPrimary (message (recovery_answer a)) = SpellsText (recovery_answer a)
IsNextToPrimary (message other) = ⊥
IsNextToPrimary the_end = Unit {0}

-- The primary hears the member at a place, to which it listens, over this connection. That it dialled it there, that no
-- other place has it (primaries_have_distinct_connections), that this comes next (messages_come_in_order), and that it
-- is spelled as it is written (messages_are_written), holds after all events.
pub record CanHear (w : World) (conn : ConnId) (number place : ℕ) (l : Leading) (x : Next) : Type 0 where
  pub comes : ComesUp w conn.0 x
  pub hears : HearsMember w conn.0 number place l
  pub conn_is : slice_get l.conns place ≡ Some (Some conn.0)
  pub distinct : AreDistinct l.conns
  pub fits : IsNextToPrimary x

-- A primary that listens to the member at a place can hear what stands next on the connection there, in a world as it is
-- after all events.
abbrev pub PrimariesCanHear : Type 0
PrimariesCanHear = (w : World) (conn : ConnId) (number place : ℕ) (l : Leading) (s : Standing) (x : Next) → Ordered w →
    Written w → Leads w number l None → slice_get l.state.standings place ≡ Some s → listens l.state.phase s ≡ true →
    slice_get l.conns place ≡ Some (Some conn.0) → ComesUp w conn.0 x
    → CanHear w conn number place l x

-- AFTER THE EVENT

-- The primary, which leads on as before and has heard this from the member at the place, and the roads show the world
-- after the event; the other ends stay.
pub record PrimaryLeft {R I O : Type 0} (r : roads.Ghosts R I O) (i : link_in.Ghosts I) (o : link_out.Ghosts O)
    (w : World) (net : Net) (v : World) (number conn place : ℕ) (l : Leading) (x : Next) (primary : running.Primary I O)
    (road : R) : Type 0 where
  pub made : Net
  pub leading : Leading
  pub leading_is : leading ≡ record l { state = heard_at l.state place (heard_of x) }
  pub alive : is_alive v leading.at ≡ true
  pub stands : PrimaryStands r i o v made number leading primary road
  pub others : OthersStay i o w net v made (Some conn)

-- How it ends; a fault has its cause.
abbrev pub HearEnds : {R I O : Type 0} → roads.Ghosts R I O → link_in.Ghosts I → link_out.Ghosts O → World → Net →
    World → ℕ → ℕ → ℕ → Leading → Next → running.Primary I O → R → R → Result (Unit {0}) PrimaryFault → Type 0
HearEnds r i o w net v number conn place l x primary road road' (Ok _) =
    PrimaryLeft r i o w net v number conn place l x primary road'
HearEnds r i o w net v number conn place l x primary road road' (Err why) = IsCaused r conn road road' why

abbrev pub HearShows : {R I O : Type 0} → roads.Ghosts R I O → link_in.Ghosts I → link_out.Ghosts O → ℕ →
    running.Primary I O → running.Primary I O → R → R → Result (Unit {0}) PrimaryFault → Type 0
HearShows r i o place old new road road' result =
    (w : World) (net : Net) (conn : ConnId) (number : ℕ) (l : Leading) (x : Next) →
    PrimaryStands r i o w net number l old road → CanHear w conn number place l x
    → HearEnds r i o w net (happens w (event.Up conn)) number conn.0 place l x new road road' result
