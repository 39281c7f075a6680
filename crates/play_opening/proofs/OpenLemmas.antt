-- A player that was opened shows the first world.
use Rattle.std.proofs.Common.{◌≡◌, ◌≤◌, ◌<◌, ℕ, false, List, [], map, length, slice_get, Option, Some, None, IfSome, refl, sym, ap, subst, ◌∙◌, arith}
use Rattle.std.specs.Prelude.{nat_lt}
use Rattle.hd_base.specs.SumRules.{default_rule}
use Rattle.hd_base.specs.declared.files.Files as files
use Rattle.hd_base.specs.declared.links.LinkIn as link_in
use Rattle.hd_base.specs.declared.links.LinkOut as link_out
use Rattle.hd_base.specs.declared.numbers.BlockId.{BlockId}
use Rattle.hd_base.specs.declared.roads.Roads as roads
use Rattle.hd_base.specs.declared.roads.TheConstants.{MAX_NODES}
use Rattle.hd_base.specs.declared.shelves.Shelf as shelves
use Rattle.name_core.specs.Books.{BookState, new_book}
use Rattle.road_traffic.specs.Showing.{Net}
use Rattle.writer_core.specs.declared.records.WriterRecord.{WriterRecord}
use Rattle.writer_core.specs.Commands.{is_unmade}
use Rattle.writer_core.specs.Transitions.{fresh}
use Rattle.play.specs.World.Event.{Event}
use Rattle.play.specs.World.TakenCommand.{TakenCommand}
use Rattle.play.specs.World.Worlds.{World, start}
use Rattle.play.specs.World.Events.{run}
use Rattle.play.specs.PlayLaws.Intakes.{intake_of}
use Rattle.play.specs.ClientEvents.Said.{Said}
use Rattle.play.specs.ClientEvents.Pipe.{Pipe}
use Rattle.play.specs.ClientEvents.Showing.{PipeShows, PipeFits}
use Rattle.play.specs.PlayClients.Client.{Client}
use Rattle.play.specs.PlayClients.Clients.{IsNew, ClientShows, known_of, said_as}
use Rattle.play.specs.PlayNodes.Showing.{NodesStand}
use Rattle.play.specs.NodeOpening.Shelves.{AreDistinct}
use Rattle.play.specs.NodeOpening.Listening.{opened_net}
use Rattle.play.specs.declared.player.Player.{Player}
use Rattle.play.specs.PlayReaders.ReadClient.{ReadClient}
use Rattle.play.specs.PlayPrimaries.PrimaryClient.{PrimaryClient}
use Rattle.play.specs.PlayReaders.Asks.{asks_of}
use Rattle.play.specs.PlayReads.Joining as no_reads
use Rattle.play.specs.PlayRecoveries.Joining as no_recoveries
use Rattle.play.specs.PlayRecoveries.Places.{recoveries_of}
use Rattle.play.specs.Showing.{AreApart, PlayerShows}
use Rattle.play.specs.PlayLaws.Commands.{CommandsFit}
use Rattle.play.specs.Standing.{ClientFits, EventsFit, world_of, PlayStands}
use Rattle.play_opening.specs.Opening.{IsNewClient, AreNewClients, IsOpenedPlay, no_commands}
use Rattle.play_opening.proofs.ClientLemmas.{block_here}

-- CLIENTS

-- nothing was dialled
none_below : (c : ℕ) → c < 0 → ⊥
none_below c h = omega (arith, h)

module _ {I O : Type 0} where
  new_fits : (block : BlockId) (c : Client I O) → IsNew c block → PipeFits (known_of c.block c.writer).phase c.pipe
  new_fits block c n =
      subst (λ (x : Option WriterRecord). PipeFits (known_of c.block x).phase c.pipe) (sym n.writer)
      (subst (λ (q : Pipe I O). PipeFits (fresh c.block default_rule).phase q) (sym n.pipe_is) refl)

  new_shows : (i : link_in.Ghosts I) (o : link_out.Ghosts O) (nodes : ℕ) (net : Net) (block : BlockId) (c : Client I O) → IsNew c block → ClientShows i o (start nodes) net c
  unfolding start
  new_shows i o nodes net block c n = record {
    writer = ap (λ (x : Option WriterRecord). known_of c.block x) (sym n.writer);
    told = refl;
    pipe_is = subst (λ (q : Pipe I O). PipeShows i o (start nodes) net None q) (sym n.pipe_is) refl;
    fits = new_fits block c n;
    said = ap (λ (ss : List Said). map said_as ss) n.said;
  }

  client_fits : (nodes : ℕ) (blocks : List BlockId) (w : World) (k : ℕ) (c : Client I O) → slice_get blocks k ≡ Some c.block → IsNewClient c.block c → ClientFits nodes blocks w c
  client_fits nodes blocks w k c at n = record {
    among = record { block = c.block; place = k; at_place = at; is = refl };
    width = n.width;
    queue = subst (λ (q : List TakenCommand). CommandsFit nodes (intake_of w c.block.0) q) (sym n.is_new.queue) tt;
    made = subst (λ (x : Option WriterRecord). IfSome x (λ y. is_unmade y.intake.stand ≡ false)) (sym n.is_new.writer) tt;
  }

-- THE FIRST WORLD

none_some : (c : ℕ) → None ≡ Some c → ⊥
none_some c h = cc

no_element : {A : Type 0} (a : A) → None ≡ Some a → ⊥
no_element a h = cc

not_connected : (nodes b c : ℕ) → ((start nodes).writers b).conn ≡ Some c → ⊥
unfolding start
not_connected nodes b c h = none_some c h

no_office : (nodes : ℕ) → new_book.office ≡ (start nodes).office
unfolding start
no_office nodes = refl

no_events : (nodes : ℕ) (blocks : List BlockId) → EventsFit (start nodes) nodes blocks []
no_events nodes blocks = record { widths = tt; names = tt; among = tt; whole = tt }

module _ {S D R I O : Type 0} (s : shelves.Ghosts S D) (d : files.Ghosts D) (r : roads.Ghosts R I O) (i : link_in.Ghosts I) (o : link_out.Ghosts O) where
  apart : (blocks : List BlockId) (p : Player D I O) → AreDistinct blocks → AreNewClients blocks p.clients.items → AreApart p
  apart blocks p distinct h = λ j k a b at at' same.
      distinct j k a.block b.block (block_here blocks p.clients.items h j a at) (block_here blocks p.clients.items h k b at') same

  player_shows : (blocks : List BlockId) (old new : List S) (nodes : ℕ) (net : Net) (p : Player D I O) (road : R) → nodes ≡ length old → AreDistinct blocks → IsOpenedPlay s d blocks old new p → no_reads.NoneShow i o p.reads → no_recoveries.NoneShow i o p.recoveries
      → NodesStand r i o (start nodes) net road p.nodes → PlayerShows r i o (start nodes) net no_commands road p
  unfolding start
  player_shows blocks old new nodes net p road count distinct h reads recoveries stand = record {
    nodes = stand;
    reads = reads (start nodes) net p.nodes.blocks.items (record { unbegun = λ reader. refl; undialled = λ c within by. absurd (none_below c within) });
    recoveries = recoveries (start nodes) net p.nodes.blocks.items (record { unbegun = λ primary. refl; undialled = λ c within by. absurd (none_below c within) });
    clients = λ k c at. record { shows = new_shows i o nodes net c.block c (h.clients.each k c at).is_new; queue = (h.clients.each k c at).is_new.queue };
    apart = apart blocks p distinct h.clients;
    office = ap (λ (b : BookState). b.office) h.office ∙ no_office nodes;
    running = λ n. h.running.tells n ∙ ap (λ (k : ℕ). nat_lt n k) (sym count);
    slots = h.running.slots ∙ sym count;
  }

  pub play_stands : (blocks : List BlockId) (old new : List S) (nodes : ℕ) (p : Player D I O) (road : R) → nodes ≤ MAX_NODES → nodes ≡ length old → AreDistinct blocks → IsOpenedPlay s d blocks old new p → no_reads.NoneShow i o p.reads → no_recoveries.NoneShow i o p.recoveries
      → NodesStand r i o (start nodes) (opened_net nodes) road p.nodes → PlayStands r i o nodes no_commands road p
  play_stands blocks old new nodes p road few count distinct h reads recoveries stand =
      let same : world_of nodes p ≡ start nodes = ap (λ (es : List Event). run (start nodes) es) h.events in
      record {
        net = opened_net nodes;
        shows = subst (λ (w : World). PlayerShows r i o w (opened_net nodes) no_commands road p) (sym same) (player_shows blocks old new nodes (opened_net nodes) p road count distinct h reads recoveries stand);
        few = few;
        events = subst (λ (es : List Event). EventsFit (start nodes) nodes p.nodes.blocks.items es) (sym h.events) (no_events nodes p.nodes.blocks.items);
        clients = λ k c at. client_fits nodes p.nodes.blocks.items (world_of nodes p) k c
            (ap (λ (bs : List BlockId). slice_get bs k) h.nodes.blocks_are ∙ block_here blocks p.clients.items h.clients k c at) (h.clients.each k c at);
        asks = λ k ask at. absurd (no_element ask (sym (ap (λ (xs : List (ReadClient I O)). slice_get (asks_of xs) k) h.reads.clients) ∙ at));
        recovers = λ k x at. absurd (no_element x (sym (ap (λ (xs : List (PrimaryClient I O)). slice_get (recoveries_of xs) k) h.recoveries.clients) ∙ at));
        connected = λ b c e. absurd (not_connected nodes b c (ap (λ (w : World). (w.writers b).conn) (sym same) ∙ e));
      }
