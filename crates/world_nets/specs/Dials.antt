-- A connection that was dialled, and the roads and ends that show it.
use Rattle.std.specs.Prelude.{◌≡◌, ℕ, ◌<◌, ◌+◌, true, false, Bool, List, [], ◌∷◌, ◌++◌}
use Rattle.hd_base.specs.Ends.{IsFresh, IsObservable}
use Rattle.hd_base.specs.declared.ends.Conn.{Conn}
use Rattle.hd_base.specs.declared.links.LinkIn as link_in
use Rattle.hd_base.specs.declared.links.LinkOut as link_out
use Rattle.road_traffic.specs.Showing.{Net, IsSane, EndIs, no_inbox, dialled_net, accepted_net}
use Rattle.world.specs.Parts.{Message}
use Rattle.world.specs.Worlds.{World, Change, Dial, apply}
use Rattle.world_nets.specs.Nets.{IsNetOf, IsEndOf}
use Rattle.world_nets.specs.Changes.{Flush}
use Rattle.world_nets.specs.Ends.{AreElsewhere, flushed_all}
use Rattle.world_nets.specs.Steps.{ChangesBy}

-- the upper end of a connection flushes its request
abbrev pub request_flush : ℕ → Message → Flush
request_flush conn text = record { conn = conn; lower = false; shut = false; messages = text ∷ [] }

-- All these are of connections before this one.
abbrev pub AreBefore : ℕ → List Flush → Type 0
AreBefore conn [] = Unit {0}
AreBefore conn (f ∷ fs) = (f.conn < conn) × AreBefore conn fs

-- these flushes, and that of the request on the next connection
abbrev pub flushes_with : World → List Flush → Dial → List Flush
flushes_with w flushes dial = flushes ++ request_flush w.next_conn dial.request ∷ []

-- A change dials once: the new connection has the next number, and the request is its first message down. What it
-- sends and shuts besides is what these ends flush.
pub record DialsBy (w : World) (k : Change) (dial : Dial) (flushes : List Flush) : Type 0 where
  pub once : k.dials ≡ dial ∷ []
  pub before : AreBefore w.next_conn flushes
  pub changes : ChangesBy w k (flushes_with w flushes dial)

-- A port was dialled, ends were flushed, and the dial was accepted, before that or after it.
abbrev pub made_net : Net → ℕ → List Flush → Net
made_net net port flushes = accepted_net (flushed_all (dialled_net net port) flushes) port

-- Where a port is dialled and the ends flush what a change sends, with the request, the connections become those of
-- the world after it.
abbrev pub DialsAreNets : Type 0
DialsAreNets = (w : World) (net : Net) (k : Change) (dial : Dial) (port : ℕ) (flushes : List Flush) → IsNetOf w net →
    DialsBy w k dial flushes
    → IsNetOf (apply w k) (made_net net port (flushes_with w flushes dial))

-- An end that was accepted on a connection.
pub record IsAccepted {I O : Type 0} (i : link_in.Ghosts I) (o : link_out.Ghosts O) (conn : ℕ)
    (at_end : Conn I O) : Type 0 where
  pub number : at_end.id.0 ≡ conn
  pub lower : at_end.lower ≡ true
  pub fresh : IsFresh i o at_end
  pub observable : IsObservable i o at_end

-- An end that was dialled, and has flushed all that it sent.
pub record HasFlushed {I O : Type 0} (i : link_in.Ghosts I) (o : link_out.Ghosts O) (net : Net) (conn : ℕ)
    (at_end : Conn I O) : Type 0 where
  pub number : at_end.id.0 ≡ conn
  pub upper : at_end.lower ≡ false
  pub is : EndIs i o net.traffic false [] no_inbox at_end

-- The two ends of a new connection, and each other end that wasn't flushed, are ends of the world.
pub record MakesEnds {I O : Type 0} (i : link_in.Ghosts I) (o : link_out.Ghosts O) (w v : World) (net made : Net)
    (flushes : List Flush) : Type 0 where
  pub upper : (e : Conn I O) → HasFlushed i o made w.next_conn e → IsEndOf i o v made w.next_conn false e
  pub lower : (e : Conn I O) → IsAccepted i o w.next_conn e → IsEndOf i o v made w.next_conn true e
  pub others : (c : ℕ) (d : Bool) (e : Conn I O) → AreElsewhere flushes c d → IsEndOf i o w net c d e →
      IsEndOf i o v made c d e

abbrev pub DialsMakeEnds : {I O : Type 0} → link_in.Ghosts I → link_out.Ghosts O → Type 0
DialsMakeEnds i o = (w : World) (net : Net) (k : Change) (dial : Dial) (port : ℕ) (flushes : List Flush) →
    IsNetOf w net → IsSane net
    → DialsBy w k dial flushes →
    MakesEnds i o w (apply w k) net (made_net net port (flushes_with w flushes dial)) flushes

-- Connections that are sane stay so past flushes, and past a dial.
pub record StaySane (net : Net) (flushes : List Flush) : Type 0 where
  pub flushed : AreBefore net.conns flushes → IsSane (flushed_all net flushes)
  pub made : (port : ℕ) → AreBefore (net.conns + 1) flushes → IsSane (made_net net port flushes)

abbrev pub NetsStaySane : Type 0
NetsStaySane = (net : Net) (flushes : List Flush) → IsSane net → StaySane net flushes
