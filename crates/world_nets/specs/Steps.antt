-- What becomes of the roads' connections where the world changes and ends are exchanged.
use Rattle.std.specs.Prelude.{◌≡◌, ℕ, ◌<◌, Bool, true, false, List, [], Some}
use Rattle.road_traffic.specs.Showing.{Net, no_inbox, flushed_net, exchanged_net, exchanged_inbox, lost_net}
use Rattle.world.specs.declared.events.Event.{Event}
use Rattle.world.specs.Worlds.{World, Change, apply}
use Rattle.world.specs.Connections.{Next, message, the_end, next_on}
use Rattle.world.specs.Events.{outcome, happens}
use Rattle.world_nets.specs.Rows.{rows_of}
use Rattle.world_nets.specs.Nets.{IsNetOf, is_over, inbox_for}
use Rattle.world_nets.specs.Changes.{Flush, sent_in, sent_by, shut_by, AreApart, world_taken}
use Rattle.world_nets.specs.Ends.{IsElsewhere, flushed_all}

-- CHANGES

-- What a change of the world sends and shuts is what these ends flush, each of another connection.
pub record ChangesBy (w : World) (k : Change) (flushes : List Flush) : Type 0 where
  pub sends : (c : ℕ) (d : Bool) → sent_in w k c d ≡ sent_by flushes c d
  pub shuts : (c : ℕ) → k.shuts c ≡ shut_by flushes c
  pub apart : AreApart flushes

-- A change dials nothing, and sends and shuts what these ends flush.
pub record SendsBy (w : World) (k : Change) (flushes : List Flush) : Type 0 where
  pub none : k.dials ≡ []
  pub changes : ChangesBy w k flushes

-- Where ends flush what a change without dials sends, the connections become those of the world after it.
abbrev pub ChangesAreNets : Type 0
ChangesAreNets = (w : World) (net : Net) (k : Change) (flushes : List Flush) → IsNetOf w net → SendsBy w k flushes
    → IsNetOf (apply w k) (flushed_all net flushes)

-- An end that has nothing to flush changes nothing.
abbrev pub IdleFlushesAreNets : Type 0
IdleFlushesAreNets = (w : World) (net : Net) (conn : ℕ) (lower : Bool) → IsNetOf w net →
    IsNetOf w (flushed_net net conn lower false [])

-- To give an end up is to flush it with a shut.
abbrev pub LossesAreNets : Type 0
LossesAreNets = (w : World) (net : Net) (conn : ℕ) (lower : Bool) (messages : List (List ℕ)) →
    IsNetOf w (flushed_net net conn lower true messages)
    → IsNetOf w (lost_net net conn lower messages)

-- TAKES

-- An end that had nothing to flush was exchanged, and took what stands next.
abbrev pub taken_net : Net → ℕ → Bool → Net
taken_net net conn lower = exchanged_net net conn lower true false []

-- This is the end.
abbrev pub is_end : Next → Bool
is_end (message m) = false
is_end the_end = true

-- What an end takes: the connections then; what it holds; and whether it has taken the end, before and after.
pub record TakesNet (w : World) (net : Net) (conn : ℕ) (lower : Bool) (x : Next) : Type 0 where
  pub is_net : IsNetOf (world_taken w conn lower x) (taken_net net conn lower)
  pub holds : exchanged_inbox net conn lower true false [] no_inbox ≡ inbox_for x
  pub before : is_over w conn lower ≡ false
  pub after : is_over (world_taken w conn lower x) conn lower ≡ is_end x

-- An end that may still take takes what stands next in the world.
abbrev pub TakesAreNets : Type 0
TakesAreNets = (w : World) (net : Net) (conn : ℕ) (lower : Bool) (x : Next) → IsNetOf w net → conn < net.conns →
    (net.traffic conn lower).over ≡ false
    → next_on (rows_of w conn lower).sent (rows_of w conn lower).marks ≡ Some x → TakesNet w net conn lower x

-- WHOSE END WAS TAKEN

-- Whether the end of a direction was taken stays so in a change, and where another end takes.
pub record KeepOver (w : World) (c : ℕ) (d : Bool) : Type 0 where
  pub changed : (k : Change) → is_over (apply w k) c d ≡ is_over w c d
  pub taken : (conn : ℕ) (lower : Bool) (x : Next) → IsElsewhere conn lower c d →
      is_over (world_taken w conn lower x) c d ≡ is_over w c d

abbrev pub OverIsKept : Type 0
OverIsKept = (w : World) (c : ℕ) (d : Bool) → KeepOver w c d

-- EVENTS

-- The world after an event that makes it this one: its connections, and the ends that were taken.
pub record FollowsEvent (w v : World) (e : Event) : Type 0 where
  pub nets : (net : Net) → IsNetOf v net → IsNetOf (happens w e) net
  pub over : (c : ℕ) (d : Bool) → is_over (happens w e) c d ≡ is_over v c d

abbrev pub EventsFollow : Type 0
EventsFollow = (w v : World) (e : Event) → outcome w e ≡ Some v → FollowsEvent w v e
