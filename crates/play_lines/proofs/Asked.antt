-- A reader joined a play.
use Rattle.std.proofs.Common.{◌≡◌, ℕ, ◌<◌, ◌+◌, List, [], ◌∷◌, ◌++◌, slice_get, Option, Some, option_map, sym, ap, ◌∙◌, subst}
use Rattle.std.proofs.lemmas.Option.{slice_get-map}
use Rattle.hd_base.specs.declared.files.Files as files
use Rattle.hd_base.specs.declared.links.LinkIn as link_in
use Rattle.hd_base.specs.declared.links.LinkOut as link_out
use Rattle.hd_base.specs.declared.roads.Roads as roads
use Rattle.play_model.specs.declared.asks.ReadAsk.{ReadAsk}
use Rattle.play_model.specs.States.{PlayState, asked}
use Rattle.play_opening.specs.PlayReaders.ReadClient.{ReadClient}
use Rattle.play_opening.specs.PlayReaders.Asks.{asks_of}
use Rattle.play_opening.specs.PlayReads.Places.{ReadersBelow}
use Rattle.play_opening.specs.Play.Events.{FilesTell}
use Rattle.play_opening.specs.Play.Standing.{AskFits, AsksFit, world_of}
use Rattle.play_lines.specs.declared.playing.Playing.{Playing}
use Rattle.play_lines.specs.Asking.{AsksArePlays}
use Rattle.play_lines.specs.Drawing.{blocks_in}
use Rattle.play_lines.specs.Lines.{AsksBelow}
use Rattle.play_lines.specs.Showing.{PlayIs}
use Rattle.play_lines.proofs.Places.{less_next, below_next, each_more}

-- ONE MORE

-- what the lines so far asked, with what the line of this number asks
pub asked_more : (number : ℕ) (p : PlayState) (ask : ReadAsk) → ask.reader ≡ number → AsksBelow number p → AsksBelow (number + 1) (asked p ask)
asked_more number p ask is h = record {
  reads = each_more (λ a. a.reader < number + 1) p.asks ask (λ k a at. less_next a.reader number (h.reads k a at)) (subst (λ (n : ℕ). n < number + 1) (sym is) (below_next number));
  recovers = λ k rec at. less_next rec.primary number (h.recovers k rec at);
}

module _ {F R I O : Type 0} (f : files.Ghosts F) (r : roads.Ghosts R I O) (i : link_in.Ghosts I) (o : link_out.Ghosts O) where
  -- the other readers' numbers are below this one
  readers_below : (p : PlayState) (road : R) (old : Playing F I O) (ask : ReadAsk) → PlayIs f r i o p road old → ((k : ℕ) (other : ReadAsk) → slice_get p.asks k ≡ Some other → other.reader < ask.reader) → ReadersBelow old.player.reads.clients.items ask.reader
  readers_below p road old ask is below k c at =
      below k c.ask
      (ap (λ (xs : List ReadAsk). slice_get xs k) (sym is.asks) ∙ (slice_get-map (λ (x : ReadClient I O). x.ask) old.player.reads.clients.items k ∙ ap (λ (y : Option (ReadClient I O)). option_map (λ (x : ReadClient I O). x.ask) y) at))

  pub ask_plays : AsksArePlays f r i o
  ask_plays old new ask p road h is tell fits below =
      let reads = h.joined.shows (world_of p.nodes old.player) is.stands.net old.player.nodes.blocks.items is.stands.shows.reads (readers_below p road old ask is below) in
      record {
        is = subst (λ (x : Playing F I O). PlayIs f r i o (asked p ask) road x) (sym h.same) (record {
          stands = record {
            net = is.stands.net;
            shows = record {
              nodes = is.stands.shows.nodes;
              reads = reads;
              recoveries = is.stands.shows.recoveries;
              clients = λ k c at. record { shows = (is.stands.shows.clients k c at).shows; queue = (is.stands.shows.clients k c at).queue };
              apart = is.stands.shows.apart;
              office = is.stands.shows.office;
              running = is.stands.shows.running;
              slots = is.stands.shows.slots;
            };
            few = is.stands.few;
            events = is.stands.events;
            clients = is.stands.clients;
            asks = subst (λ (xs : List ReadAsk). AsksFit p.nodes old.player.nodes.blocks.items xs) (sym h.joined.asks) (each_more (λ a. AskFits p.nodes old.player.nodes.blocks.items a) (asks_of old.player.reads.clients.items) ask is.stands.asks fits);
            recovers = is.stands.recovers;
            connected = is.stands.connected;
          };
          nodes_are = is.nodes_are;
          events = is.events;
          generator = is.generator;
          faults = is.faults;
          asks = h.joined.asks ∙ ap (λ (xs : List ReadAsk). xs ++ ask ∷ []) is.asks;
          told = each_more (λ a. FilesTell f) p.asks ask is.told tell;
          recovers = is.recovers;
          formed = is.formed;
          rules = is.rules;
          live = is.live;
        });
        blocks = ap (λ (x : Playing F I O). blocks_in x) h.same;
      }
