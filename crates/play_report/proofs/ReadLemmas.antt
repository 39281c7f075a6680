-- What was read, client by client.
use Rattle.std.proofs.Common.{zero, suc, ◌≡◌, ℕ, List, [], ◌∷◌, slice_get, Some, refl, sym, ap, ◌∙◌}
use Rattle.std.specs.Prelude.{map}
use Rattle.hd_base.specs.declared.links.LinkIn as link_in
use Rattle.hd_base.specs.declared.links.LinkOut as link_out
use Rattle.play_primaries.specs.PlayReaders.Clients.{StateShows, ReadClientShows}
use Rattle.play_primaries.specs.PlayReaders.ReadClient.{ReadClient}
use Rattle.play_primaries.specs.PlayReaders.ReadState.{ReadState}
use Rattle.play_primaries.specs.PlayReaders.ReadState.TheVariants as state
use Rattle.play_scripts.specs.Reads.{readers_of}
use Rattle.road_traffic.specs.Showing.{Net}
use Rattle.script_lang.specs.declared.report.ReadResult.{ReadResult}
use Rattle.script_lang.specs.declared.report.ReportLine.{ReportLine}
use Rattle.script_lang.specs.declared.report.ReportLine.TheVariants as line
use Rattle.world.specs.Worlds.{World}
use Rattle.play_report.specs.Reads.{read_told, read_line, state_told, client_read}

module _ {I O : Type 0} (i : link_in.Ghosts I) (o : link_out.Ghosts O) (w : World) (net : Net) where
  state_so : (n : ℕ) (s : ReadState I O) → StateShows i o w net n s → state_told s ≡ read_told (w.readers n)
  state_so n state.Asks h = ap read_told (sym h)
  state_so n (state.Reads reading) h = ap read_told (sym h.reader)
  state_so n (state.HasRead read) h = ap read_told (sym h)

  -- What clients came to is what the world tells of their readers.
  pub reads_are : (reads : List (ReadClient I O)) → ((k : ℕ) (c : ReadClient I O) → slice_get reads k ≡ Some c → ReadClientShows i o w net c)
      → map client_read reads ≡ map (read_line w) (readers_of (map (λ (c : ReadClient I O). c.ask) reads))
  reads_are [] shows = refl
  reads_are (c ∷ reads) shows =
      ap (λ (t : ReadResult). line.Read c.ask.reader t ∷ map client_read reads) (state_so c.ask.reader c.state (shows zero c refl)) ∙
      ap (λ (xs : List ReportLine). read_line w c.ask.reader ∷ xs) (reads_are reads (λ k d at. shows (suc k) d at))
