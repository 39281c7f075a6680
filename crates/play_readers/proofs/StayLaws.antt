-- A reading client over an event that isn't its own.
use Rattle.std.proofs.Common.{ℕ, sym, ◌∙◌}
use Rattle.hd_base.specs.declared.links.LinkIn as link_in
use Rattle.hd_base.specs.declared.links.LinkOut as link_out
use Rattle.road_traffic.specs.Showing.{Net}
use Rattle.play_model.specs.World.Worlds.{World}
use Rattle.play_readers.specs.declared.clients.ReadState.{ReadState}
use Rattle.play_readers.specs.declared.clients.ReadState.TheVariants as state
use Rattle.play_readers.specs.Clients.{StateShows}
use Rattle.play_readers.specs.Staying.{KeepsReadClient, ReadClientsStay}

module _ {I O : Type 0} (i : link_in.Ghosts I) (o : link_out.Ghosts O) where
  state_stays : (st : ReadState I O) (w : World) (net : Net) (v : World) (made : Net) (line : ℕ) → StateShows i o w net line st → KeepsReadClient i o w net v made line → StateShows i o v made line st
  state_stays state.Asks w net v made line h k = k.reader ∙ h
  state_stays (state.HasRead read) w net v made line h k = k.reader ∙ h
  state_stays (state.Reads reading) w net v made line h k = record {
    state = h.state;
    reader = k.reader ∙ h.reader;
    core = h.core;
    asked = h.asked;
    answered = h.answered;
    end_is = k.ends reading.end.id.0 h.state reading.end h.reader h.end_is;
    received = λ z. h.received (sym (k.over reading.end.id.0 h.state h.reader) ∙ z);
  }

  pub read_clients_kept : ReadClientsStay i o
  read_clients_kept client w net v made h k = state_stays client.state w net v made client.ask.reader h k
