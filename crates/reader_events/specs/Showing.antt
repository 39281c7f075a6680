-- A reading client and the roads show a world.
use Rattle.std.specs.Prelude.{◌≡◌, ℕ, false, None, Some}
use Rattle.hd_base.specs.declared.links.LinkIn as link_in
use Rattle.hd_base.specs.declared.links.LinkOut as link_out
use Rattle.hd_base.specs.declared.roads.Roads as roads
use Rattle.visible_read.specs.LinkMessages.Incomings.{nothing_received}
use Rattle.read_core.specs.Readings.{ReadingState}
use Rattle.road_traffic.specs.Showing.{Net}
use Rattle.visible_read.specs.Talking.{request_of}
use Rattle.visible_read.specs.declared.reading.Reading.{Reading}
use Rattle.world_settling.specs.World.Parts.{reads}
use Rattle.world_settling.specs.World.Worlds.{World}
use Rattle.world_settling.specs.WorldNets.Nets.{IsEndOf, is_over}
use Rattle.client_events.specs.MemberEvents.Showing.{ShowsWorld}
use Rattle.reader_events.specs.Orders.{has_answer}

-- A read whose request was sent is that of the reader with this number. Nothing was received on its connection that
-- wasn't taken, as long as the end wasn't.
pub record ReadingShows {I O : Type 0} (i : link_in.Ghosts I) (o : link_out.Ghosts O) (w : World) (net : Net)
    (line : ℕ) (reading : Reading I O) : Type 0 where
  pub state : ReadingState
  pub reader : w.readers line ≡ reads reading.end.id.0 state
  pub core : reading.talk.core ≡ Some state
  pub asked : request_of reading.talk ≡ None
  pub answered : reading.talk.answered ≡ has_answer state.phase
  pub end_is : IsEndOf i o w net reading.end.id.0 false reading.end
  pub received : is_over w reading.end.id.0 false ≡ false → reading.talk.incoming ≡ nothing_received

-- The same, and roads that show that world.
pub record ReaderStands {R I O : Type 0} (r : roads.Ghosts R I O) (i : link_in.Ghosts I) (o : link_out.Ghosts O)
    (w : World) (net : Net) (line : ℕ) (reading : Reading I O) (road : R) : Type 0 where
  pub roads_are : ShowsWorld r w net road
  pub shows : ReadingShows i o w net line reading
