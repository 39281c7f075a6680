-- What may happen at the lower ends of the connections that readers and primaries dialled, as these ends and the roads
-- tell.
use Rattle.std.specs.Prelude.{◌≡◌, ℕ, Bool, false, List}
use Rattle.hd_base.specs.declared.links.LinkIn as link_in
use Rattle.hd_base.specs.declared.links.LinkOut as link_out
use Rattle.hd_base.specs.declared.numbers.BlockId.{BlockId}
use Rattle.hd_base.specs.declared.roads.Roads as roads
use Rattle.road_traffic.specs.Showing.{Net}
use Rattle.world_requests.specs.World.Enabled.{can_down, can_ready}
use Rattle.world_requests.specs.World.Worlds.{World}
use Rattle.recovery_events.specs.WorldOrders.Open.{OpenEnds}
use Rattle.recovery_events.specs.MemberEvents.Showing.{ShowsWorld}
use Rattle.play_servers.specs.declared.recoveries.AnswerEnd.{AnswerEnd}
use Rattle.play_servers.specs.declared.recoveries.RecoveryServer.{RecoveryServer}
use Rattle.play_servers.specs.declared.servers.ReadServer.{ReadServer}
use Rattle.play_servers.specs.Recoveries as recoveries
use Rattle.play_servers.specs.Showing.{ServerShows}

-- Whether a lower end that a reader dialled takes what stands next; the roads show what they showed. Whoever may still
-- take hasn't taken the end, as after all events (takers_are_open).
abbrev pub TellsDown : {R I O : Type 0} → roads.Ghosts R I O → link_in.Ghosts I → link_out.Ghosts O → ReadServer I O →
    R → R → Bool → Type 0
TellsDown r i o server road road' result =
    (w : World) (net : Net) (blocks : List BlockId) → ShowsWorld r w net road →
    ServerShows i o w net server.conn.0 blocks server.end → OpenEnds w
    → ShowsWorld r w net road' × (result ≡ can_down w server.conn.0)

-- Whether it sends a packet next.
abbrev pub TellsReady : {I O : Type 0} → link_in.Ghosts I → link_out.Ghosts O → ReadServer I O → Bool → Type 0
TellsReady i o server result =
    (w : World) (net : Net) (blocks : List BlockId) → ServerShows i o w net server.conn.0 blocks server.end
    → result ≡ can_ready w server.conn.0

-- Whether a lower end that a primary dialled takes what stands next.
abbrev pub TellsRequest : {R I O : Type 0} → roads.Ghosts R I O → link_in.Ghosts I → link_out.Ghosts O →
    RecoveryServer I O → R → R → Bool → Type 0
TellsRequest r i o server road road' result =
    (w : World) (net : Net) (blocks : List BlockId) → ShowsWorld r w net road →
    recoveries.ServerShows i o w net server.conn.0 blocks server.end → OpenEnds w
    → ShowsWorld r w net road' × (result ≡ can_down w server.conn.0)

-- Such an end does nothing without a message.
abbrev pub AnswersWait : {I O : Type 0} → link_in.Ghosts I → link_out.Ghosts O → Type 0
AnswersWait {I} {O} i o =
    (w : World) (net : Net) (c : ℕ) (blocks : List BlockId) (e : AnswerEnd I O) →
    recoveries.ServerShows i o w net c blocks e
    → can_ready w c ≡ false
