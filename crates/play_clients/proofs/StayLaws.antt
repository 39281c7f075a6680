-- A client over an event that isn't its own.
use Rattle.std.proofs.Common.{ℕ, Option, Some, None, sym, ap, ◌∙◌, subst}
use Rattle.hd_base.specs.declared.links.LinkIn as link_in
use Rattle.hd_base.specs.declared.links.LinkOut as link_out
use Rattle.client_events.specs.PipeRecovery.Link.{Link}
use Rattle.road_traffic.specs.Showing.{Net}
use Rattle.world.specs.Parts.{Writing}
use Rattle.world.specs.Worlds.{World}
use Rattle.client_events.specs.declared.pipes.Pipe.{Pipe}
use Rattle.client_events.specs.declared.pipes.Pipe.TheVariants as pipe
use Rattle.client_events.specs.Showing.{LinkShows, PipeShows}
use Rattle.play_clients.specs.Staying.{KeepsClient, ClientsStay}

module _ {I O : Type 0} (i : link_in.Ghosts I) (o : link_out.Ghosts O) where
  link_stays : (w : World) (net : Net) (v : World) (made : Net) (b : ℕ) (link : Option (Link I O)) → KeepsClient i o w net v made b → LinkShows i o w net (w.writers b).conn link → LinkShows i o v made (w.writers b).conn link
  link_stays w net v made b None k h = h
  link_stays w net v made b (Some l) k h = record { conn_is = h.conn_is; end_is = k.ends l.end.id.0 l.end h.conn_is h.end_is; heard = h.heard }

  pipe_stays : (w : World) (net : Net) (v : World) (made : Net) (b : ℕ) (c : Pipe I O) → KeepsClient i o w net v made b → PipeShows i o w net (w.writers b).conn c → PipeShows i o v made (w.writers b).conn c
  pipe_stays w net v made b pipe.Closed k h = h
  pipe_stays w net v made b (pipe.SettingUp setup) k h = link_stays w net v made b setup.link k h
  pipe_stays w net v made b (pipe.Streaming end incoming) k h = record {
    conn_is = h.conn_is;
    end_is = k.ends end.id.0 end h.conn_is h.end_is;
    received = λ z. h.received (sym (k.over end.id.0 h.conn_is) ∙ z);
  }

  pub clients_kept : ClientsStay i o
  clients_kept client w net v made h k =
      let b : ℕ = client.block.0 in
      record {
        writer = ap (λ (x : Writing). x.known) k.writer ∙ h.writer;
        told = ap (λ (x : Writing). x.told) k.writer ∙ h.told;
        pipe_is = subst (λ (n : Option ℕ). PipeShows i o v made n client.pipe) (sym (ap (λ (x : Writing). x.conn) k.writer)) (pipe_stays w net v made b client.pipe k h.pipe_is);
        fits = h.fits;
        said = h.said ∙ sym k.said;
      }
