-- What a primary's next own step is.
use Rattle.std.specs.Prelude.{◌≡◌, true, List, [], ◌∷◌}
use Rattle.hd_base.specs.declared.links.LinkIn as link_in
use Rattle.hd_base.specs.declared.links.LinkOut as link_out
use Rattle.road_traffic.specs.Showing.{Net}
use Rattle.primary_events.specs.World.Event.{Event}
use Rattle.primary_events.specs.World.Worlds.{World}
use Rattle.play_readers.specs.PlayModel.Recovery.{Recovery}
use Rattle.play_readers.specs.PlayModel.Recoveries.{all_answered, begins_so, goes_on, primary_asks, recovery_due, recovery_events}
use Rattle.play_primaries.specs.declared.clients.PrimaryClient.{PrimaryClient}
use Rattle.play_primaries.specs.declared.deeds.Deed.{Deed}
use Rattle.play_primaries.specs.declared.deeds.Deed.TheVariants as deed
use Rattle.play_primaries.specs.Clients.{PrimaryClientShows}

-- the events of a deed: to begin, and to commit, the office is asked first
abbrev pub deed_events : Recovery → Deed → List Event
deed_events r deed.Begins = primary_asks r ∷ (begins_so r (all_answered r.members) ∷ [])
deed_events r deed.Commits = primary_asks r ∷ (goes_on r ∷ [])
deed_events r deed.GoesOn = goes_on r ∷ []

-- Where the own step is due its events are those of the deed.
abbrev pub TellsDeed : {I O : Type 0} → link_in.Ghosts I → link_out.Ghosts O → PrimaryClient I O → Deed → Type 0
TellsDeed i o client result =
    (w : World) (net : Net) → PrimaryClientShows i o w net client → recovery_due w client.recovery ≡ true
    → deed_events client.recovery result ≡ recovery_events w client.recovery
