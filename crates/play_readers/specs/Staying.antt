-- What an event that isn't a reading client's leaves of it.
use Rattle.std.specs.Prelude.{◌≡◌, ℕ, false}
use Rattle.hd_base.specs.declared.ends.Conn.{Conn}
use Rattle.hd_base.specs.declared.links.LinkIn as link_in
use Rattle.hd_base.specs.declared.links.LinkOut as link_out
use Rattle.reader_events.specs.ReadCore.Readings.{ReadingState}
use Rattle.road_traffic.specs.Showing.{Net}
use Rattle.play_model.specs.World.Parts.{reads}
use Rattle.play_model.specs.World.Worlds.{World}
use Rattle.world_standings.specs.WorldNets.Nets.{IsEndOf, is_over}
use Rattle.play_readers.specs.declared.clients.ReadClient.{ReadClient}
use Rattle.play_readers.specs.Clients.{ReadClientShows}

-- The reader of a line is as it was, and where it reads, the upper end of its connection is one of the second world,
-- from which no more was taken.
pub record KeepsReadClient {I O : Type 0} (i : link_in.Ghosts I) (o : link_out.Ghosts O) (w : World) (net : Net)
    (v : World) (made : Net) (line : ℕ) : Type 0 where
  pub reader : v.readers line ≡ w.readers line
  pub over : (c : ℕ) (s : ReadingState) → w.readers line ≡ reads c s → is_over v c false ≡ is_over w c false
  pub ends : (c : ℕ) (s : ReadingState) (e : Conn I O) → w.readers line ≡ reads c s → IsEndOf i o w net c false e
      → IsEndOf i o v made c false e

-- Each client that shows a world shows one that keeps it.
abbrev pub ReadClientsStay : {I O : Type 0} → link_in.Ghosts I → link_out.Ghosts O → Type 0
ReadClientsStay {I} {O} i o = (client : ReadClient I O) (w : World) (net : Net) (v : World) (made : Net) →
    ReadClientShows i o w net client → KeepsReadClient i o w net v made client.ask.reader
    → ReadClientShows i o v made client
