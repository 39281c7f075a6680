-- No index of the world is out of range, and nothing stands where no connection was dialled.
use Rattle.world.specs.declared.events.Event.{Event}
use Rattle.world.specs.Events.{run}
use Rattle.std.specs.Prelude.{ℕ, ◌≡◌, ◌<◌, ◌≤◌, true, List, [], slice_get, Option, Some, IfSome}
use Rattle.world.specs.Parts.{Upper, by_member, Place, Dialled, new_marks, Lower, idle, writes, Reader, reads, Leading, Primary, leads}
use Rattle.world.specs.Worlds.{World, start}

-- a connection, where there is one, was dialled
pub record IsConn (conns : ℕ) (c : Option ℕ) : Type 0 where
  pub below : IfSome c (λ d. d < conns)

-- a member that dialled stands at the lower end of a connection that was dialled
abbrev pub IsUpper : ℕ → Upper → Type 0
IsUpper conns (by_member d) = d < conns
IsUpper conns _ = Unit {0}

-- a connection: its ends are at nodes of the world
pub record IsDialled (nodes conns : ℕ) (d : Dialled) : Type 0 where
  pub to : d.to.node < nodes
  pub from : IfSome d.from (λ (p : Place). p.node < nodes)
  pub upper : IsUpper conns d.upper

-- the mirror of a member was dialled
abbrev pub IsLower : ℕ → Lower → Type 0
IsLower conns (writes m) = IsConn conns m.mirror
IsLower conns _ = Unit {0}

abbrev pub IsReader : ℕ → Reader → Type 0
IsReader conns (reads c s) = c < conns
IsReader conns _ = Unit {0}

pub record IsLeading (nodes conns : ℕ) (l : Leading) : Type 0 where
  pub at : l.at.node < nodes
  pub conns_of : (i c : ℕ) → slice_get l.conns i ≡ Some (Some c) → c < conns

abbrev pub IsPrimary : ℕ → ℕ → Primary → Type 0
IsPrimary nodes conns (leads l) = IsLeading nodes conns l
IsPrimary nodes conns _ = Unit {0}

-- Nothing was sent or taken, and no lower end acts, on a connection that wasn't dialled.
pub record IsUndialled (w : World) (c : ℕ) : Type 0 where
  pub downs : w.downs c ≡ []
  pub ups : w.ups c ≡ []
  pub lower : w.lowers c ≡ idle
  pub down_marks : w.down_marks c ≡ new_marks
  pub up_marks : w.up_marks c ≡ new_marks

-- Every index of the world is in range.
pub record Placed (w : World) : Type 0 where
  pub runs : (n : ℕ) → w.running n ≡ true → n < w.nodes
  pub dialled : (c : ℕ) → c < w.next_conn → IsDialled w.nodes w.next_conn (w.dialled c)
  pub lowers : (c : ℕ) → IsLower w.next_conn (w.lowers c)
  pub writers : (b : ℕ) → IsConn w.next_conn (w.writers b).conn
  pub readers : (i : ℕ) → IsReader w.next_conn (w.readers i)
  pub primaries : (i : ℕ) → IsPrimary w.nodes w.next_conn (w.primaries i)
  pub undialled : (c : ℕ) → w.next_conn ≤ c → IsUndialled w c

-- AFTER EVERY LIST OF EVENTS

-- Nothing is sent, or taken, on a connection that wasn't dialled.
abbrev pub OnlyDialledCarry : Type 0
OnlyDialledCarry = (nodes : ℕ) (events : List Event) (c : ℕ) → (run (start nodes) events).next_conn ≤ c →
    IsUndialled (run (start nodes) events) c

-- Every index is in range after every list of events.
abbrev pub AllPlaced : Type 0
AllPlaced = (nodes : ℕ) (events : List Event) → Placed (run (start nodes) events)
