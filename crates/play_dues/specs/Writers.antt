-- Whether a writer takes what stands next on its connection, as its client and the roads tell.
use Rattle.std.specs.Prelude.{◌≡◌, ℕ, Bool, Option, Some, None, option_map}
use Rattle.hd_base.specs.declared.links.LinkIn as link_in
use Rattle.hd_base.specs.declared.links.LinkOut as link_out
use Rattle.hd_base.specs.declared.numbers.ConnId.{ConnId}
use Rattle.hd_base.specs.declared.roads.Roads as roads
use Rattle.road_traffic.specs.Showing.{Net}
use Rattle.world.specs.Parts.{by_writer}
use Rattle.world.specs.Worlds.{World}
use Rattle.play_clients.specs.WorldOrders.Open.{OpenEnds}
use Rattle.play_model.specs.declared.dues.Due.TheVariants as due
use Rattle.play_model.specs.Dues.{Queues, is_due}
use Rattle.play_clients.specs.MemberEvents.Showing.{ShowsWorld}
use Rattle.play_clients.specs.ClientEvents.Pipe.{Pipe}
use Rattle.play_clients.specs.ClientEvents.Pipe.TheVariants as pipe
use Rattle.play_clients.specs.declared.clients.Client.{Client}
use Rattle.play_clients.specs.Clients.{ClientShows}

-- the connection that a writer has
abbrev pub conn_of : {I O : Type 0} → Pipe I O → Option ℕ
conn_of pipe.Closed = None
conn_of (pipe.SettingUp setup) = option_map (λ l. l.end.id.0) setup.link
conn_of (pipe.Streaming end incoming) = Some end.id.0

-- Whether it is due that a writer takes what stands next on a connection that it dialled; the roads show what they
-- showed.
abbrev pub TellsWriter : {R I O : Type 0} → roads.Ghosts R I O → link_in.Ghosts I → link_out.Ghosts O → ConnId →
    Client I O → R → R → Bool → Type 0
TellsWriter r i o conn client road road' result =
    (w : World) (net : Net) (queues : Queues) → ShowsWorld r w net road → ClientShows i o w net client → OpenEnds w →
    (w.dialled conn.0).upper ≡ by_writer client.block.0
    → ShowsWorld r w net road' × (result ≡ is_due w queues (due.Up conn))
