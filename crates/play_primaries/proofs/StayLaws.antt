-- A primary over an event that isn't its own.
use Rattle.std.proofs.Common.{◌≤◌, ℕ, slice_get, ◌∙◌, arith}
use Rattle.hd_base.specs.declared.links.LinkIn as link_in
use Rattle.hd_base.specs.declared.links.LinkOut as link_out
use Rattle.road_traffic.specs.Showing.{Net}
use Rattle.primary_events.specs.World.Parts.{Leading}
use Rattle.primary_events.specs.World.Worlds.{World}
use Rattle.primary_events.proofs.HearLaws.{ConnStays, place_stays}
use Rattle.play_readers.specs.PlayModel.Recovery.{Recovery}
use Rattle.play_primaries.specs.declared.clients.PrimaryState.{PrimaryState}
use Rattle.play_primaries.specs.declared.clients.PrimaryState.TheVariants as state
use Rattle.play_primaries.specs.Clients.{StateShows}
use Rattle.play_primaries.specs.Staying.{KeepsConn, KeepsPrimaryClient, PrimaryClientsStay}

module _ {I O : Type 0} (i : link_in.Ghosts I) (o : link_out.Ghosts O) where
  conn_stays : (w : World) (net : Net) (v : World) (made : Net) (c : ℕ) → KeepsConn i o w net v made c → ConnStays i o w net v made c
  conn_stays w net v made c k = record { over = k.over; ends = k.ends; shut = k.shut }

  past_on : (n a b : ℕ) → n ≤ a → a ≤ b → n ≤ b
  past_on n a b h k = omega (arith, h, k)

  pub state_stays : (st : PrimaryState I O) (w : World) (net : Net) (v : World) (made : Net) (r : Recovery) → StateShows i o w net r st → KeepsPrimaryClient i o w net v made r → StateShows i o v made r st
  state_stays state.New w net v made r h k = record { is = k.primary ∙ h.is; runs = λ may. k.runs may (h.runs may) }
  state_stays (state.HasLed led) w net v made r h k = k.primary ∙ h
  state_stays state.Stopped w net v made r h k = record {
    leading = h.leading;
    is = k.primary ∙ h.is;
    gone = k.gone h.leading h.is h.past h.gone;
    past = past_on h.leading.at.life (w.lives h.leading.at.node) (v.lives h.leading.at.node) h.past (k.lives h.leading.at.node);
  }
  state_stays (state.Leads p) w net v made r h k =
      let l : Leading = h.leading in
      let a = h.leads_so in
      let s = a.shows in
      record {
        leading = l;
        leads_so = record {
          shows = record {
            leads_so = k.primary ∙ s.leads_so;
            told = s.told;
            core = s.core;
            block = s.block;
            members = s.members;
            places = λ place.
                place_stays i o w v net made l.state.phase (slice_get l.state.standings place) (slice_get l.conns place) (slice_get p.links.items place)
                (λ c at. conn_stays w net v made c (k.conns l place c s.leads_so a.alive at)) (s.places place);
          };
          alive = k.alive l s.leads_so a.alive;
          at_node = a.at_node;
          under_way = a.under_way;
          block = a.block;
          members = a.members;
        };
      }

  pub primary_clients_kept : PrimaryClientsStay i o
  primary_clients_kept client w net v made h k = state_stays client.state w net v made client.recovery h k
