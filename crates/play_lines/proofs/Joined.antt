-- A primary joined a play.
use Rattle.std.proofs.Common.{◌≡◌, ℕ, true, ◌<◌, ◌+◌, List, [], ◌∷◌, ◌++◌, slice_get, Option, Some, option_map, sym, ap, ◌∙◌, subst}
use Rattle.std.proofs.lemmas.Option.{slice_get-map}
use Rattle.hd_base.specs.declared.files.Files as files
use Rattle.hd_base.specs.declared.links.LinkIn as link_in
use Rattle.hd_base.specs.declared.links.LinkOut as link_out
use Rattle.hd_base.specs.declared.roads.Roads as roads
use Rattle.world.specs.Clients.{are_members}
use Rattle.world.specs.Worlds.{World}
use Rattle.play_model.specs.declared.recoveries.Recovery.{Recovery}
use Rattle.play_model.specs.States.{PlayState, recovering}
use Rattle.play_opening.specs.PlayPrimaries.PrimaryClient.{PrimaryClient}
use Rattle.play_opening.specs.PlayRecoveries.Joining.{RunsIfItMay}
use Rattle.play_opening.specs.PlayRecoveries.Places.{recoveries_of, PrimariesBelow}
use Rattle.play_opening.specs.Play.Standing.{RecoveryFits, RecoveriesFit, world_of}
use Rattle.play_lines.specs.declared.playing.Playing.{Playing}
use Rattle.play_lines.specs.Drawing.{blocks_in}
use Rattle.play_lines.specs.Lines.{AsksBelow}
use Rattle.play_lines.specs.Recovering.{RecoversArePlays}
use Rattle.play_lines.specs.Showing.{PlayIs}
use Rattle.play_lines.proofs.Drawn.{world_same}
use Rattle.play_lines.proofs.Places.{less_next, below_next, each_more}

-- what the lines so far asked, with what the line of this number asks
pub recovered_more : (number : ℕ) (p : PlayState) (rec : Recovery) → rec.primary ≡ number → AsksBelow number p → AsksBelow (number + 1) (recovering p rec)
recovered_more number p rec is h = record {
  reads = λ k ask at. less_next ask.reader number (h.reads k ask at);
  recovers = each_more (λ x. x.primary < number + 1) p.recoveries rec (λ k x at. less_next x.primary number (h.recovers k x at)) (subst (λ (n : ℕ). n < number + 1) (sym is) (below_next number));
}

module _ {F R I O : Type 0} (f : files.Ghosts F) (r : roads.Ghosts R I O) (i : link_in.Ghosts I) (o : link_out.Ghosts O) where
  -- the other primaries' numbers are below this one
  primaries_below : (p : PlayState) (road : R) (old : Playing F I O) (rec : Recovery) → PlayIs f r i o p road old → ((k : ℕ) (other : Recovery) → slice_get p.recoveries k ≡ Some other → other.primary < rec.primary) → PrimariesBelow old.player.recoveries.clients.items rec.primary
  primaries_below p road old rec is below k c at =
      below k c.recovery
      (ap (λ (xs : List Recovery). slice_get xs k) (sym is.recovers) ∙ (slice_get-map (λ (x : PrimaryClient I O). x.recovery) old.player.recoveries.clients.items k ∙ ap (λ (y : Option (PrimaryClient I O)). option_map (λ (x : PrimaryClient I O). x.recovery) y) at))

  pub recover_plays : RecoversArePlays f r i o
  recover_plays old new rec p road h is can =
      let w : World = world_of p.nodes old.player in
      let runs : RunsIfItMay w rec = subst (λ (v : World). RunsIfItMay v rec) (world_same f r i o p road old is) can.runs in
      let recoveries = h.joined.shows w is.stands.net old.player.nodes.blocks.items is.stands.shows.recoveries (primaries_below p road old rec is can.above) runs in
      record {
        is = subst (λ (x : Playing F I O). PlayIs f r i o (recovering p rec) road x) (sym h.same) (record {
          stands = record {
            net = is.stands.net;
            shows = record {
              nodes = is.stands.shows.nodes;
              reads = is.stands.shows.reads;
              recoveries = recoveries;
              clients = λ k c at. record { shows = (is.stands.shows.clients k c at).shows; queue = (is.stands.shows.clients k c at).queue };
              apart = is.stands.shows.apart;
              office = is.stands.shows.office;
              running = is.stands.shows.running;
              slots = is.stands.shows.slots;
            };
            few = is.stands.few;
            events = is.stands.events;
            clients = is.stands.clients;
            asks = is.stands.asks;
            recovers = subst (λ (xs : List Recovery). RecoveriesFit p.nodes old.player.nodes.blocks.items xs) (sym h.joined.recovers) (each_more (λ x. RecoveryFits p.nodes old.player.nodes.blocks.items x) (recoveries_of old.player.recoveries.clients.items) rec is.stands.recovers can.fits);
            connected = is.stands.connected;
          };
          nodes_are = is.nodes_are;
          events = is.events;
          generator = is.generator;
          faults = is.faults;
          asks = is.asks;
          told = is.told;
          recovers = h.joined.recovers ∙ ap (λ (xs : List Recovery). xs ++ rec ∷ []) is.recovers;
          formed = each_more (λ x. are_members x.members ≡ true) p.recoveries rec is.formed can.formed;
          rules = is.rules;
          live = is.live;
        });
        blocks = ap (λ (x : Playing F I O). blocks_in x) h.same;
      }
