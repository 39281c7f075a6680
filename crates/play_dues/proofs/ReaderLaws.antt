-- The own steps that the clients of readers tell are those of the model.
use Rattle.std.proofs.Common.{◌≡◌, ℕ, zero, suc, Bool, List, [], ◌∷◌, ◌++◌, slice_get, Some, refl, sym, ap, ◌∙◌}
use Rattle.hd_base.specs.declared.links.LinkIn as link_in
use Rattle.hd_base.specs.declared.links.LinkOut as link_out
use Rattle.road_traffic.specs.Showing.{Net}
use Rattle.world.specs.Worlds.{World}
use Rattle.play_model.specs.declared.dues.Due.{Due}
use Rattle.play_model.specs.declared.dues.Due.TheVariants as due
use Rattle.play_model.specs.Dues.{Queues, is_unbegun, reader_dues, when}
use Rattle.play_reads.specs.PlayReaders.ReadClient.{ReadClient}
use Rattle.play_reads.specs.PlayReaders.ReadState.{ReadState}
use Rattle.play_reads.specs.PlayReaders.ReadState.TheVariants as state
use Rattle.play_reads.specs.PlayReaders.Clients.{is_new, StateShows, ReadClientShows}
use Rattle.play_reads.specs.PlayReaders.Asks.{asks_of}
use Rattle.play_dues.specs.Readers.{readers_listed}

module _ {I O : Type 0} (i : link_in.Ghosts I) (o : link_out.Ghosts O) (w : World) (net : Net) where
  pub new_so : (line : ℕ) (s : ReadState I O) → StateShows i o w net line s → is_new s ≡ is_unbegun (w.readers line)
  new_so line state.Asks h = ap is_unbegun (sym h)
  new_so line (state.Reads reading) h = ap is_unbegun (sym h.reader)
  new_so line (state.HasRead read) h = ap is_unbegun (sym h)

  -- The list of own steps is the model's.
  pub readers_listed_so : (queues : Queues) (cs : List (ReadClient I O)) → ((k : ℕ) (c : ReadClient I O) → slice_get cs k ≡ Some c → ReadClientShows i o w net c) → readers_listed cs ≡ reader_dues w queues (asks_of cs)
  readers_listed_so queues [] each = refl
  readers_listed_so queues (c ∷ cs) each =
      ap (λ (b : Bool). when b (due.Reader c.ask) ++ readers_listed cs) (new_so c.ask.reader c.state (each zero c refl))
      ∙ ap (λ (xs : List Due). when (is_unbegun (w.readers c.ask.reader)) (due.Reader c.ask) ++ xs) (readers_listed_so queues cs (λ k x found. each (suc k) x found))
