-- A rule that a client was given.
use Rattle.std.proofs.Common.{◌≡◌, inl, inr, ℕ, List, slice_get, slice_set, Option, Some, None, refl, sym, ap, ◌∙◌, subst}
use Rattle.std.proofs.lemmas.Option.{same_Some}
use Rattle.hd_base.specs.declared.files.Files as files
use Rattle.hd_base.specs.declared.links.LinkIn as link_in
use Rattle.hd_base.specs.declared.links.LinkOut as link_out
use Rattle.hd_base.specs.declared.numbers.BlockId.{BlockId}
use Rattle.hd_base.specs.declared.roads.Roads as roads
use Rattle.hd_base.specs.SumRules.{Rule}
use Rattle.road_traffic.specs.Showing.{Net}
use Rattle.world.specs.Worlds.{World, put}
use Rattle.play_model.proofs.WorldLaws.StampGivens.{put-here, put-there}
use Rattle.play_model.specs.States.{PlayState, ruled}
use Rattle.play_opening.specs.PlayClients.Client.{Client}
use Rattle.play_opening.specs.PlayClients.Clients.{ClientShows}
use Rattle.play_scripts.proofs.PlayNodes.Tables.{SetOr, set_or}
use Rattle.play_opening.specs.PlayClients.Blocks.{blocks_of}
use Rattle.play_opening.specs.PlayDues.Places.{client_place}
use Rattle.play_opening.specs.Play.Showing.{IsClient, AreApart}
use Rattle.play_opening.specs.Play.Standing.{ClientFits, world_of}
use Rattle.play_opening.proofs.PlayProofs.Dispatch.{client_at}
use Rattle.play_lines.specs.declared.playing.Playing.{Playing}
use Rattle.play_lines.specs.Drawing.{IsLeft}
use Rattle.play_lines.specs.Ruling.{IsRuled, RulesAt, Rules, RulesArePlays}
use Rattle.play_lines.specs.Showing.{PlayIs}
use Rattle.play_lines.proofs.Places.{set_numbers, moved}

module _ {F R I O : Type 0} (f : files.Ghosts F) (r : roads.Ghosts R I O) (i : link_in.Ghosts I) (o : link_out.Ghosts O) (old new : Playing F I O) (block : BlockId) (rule : Rule) (place : ℕ) (p : PlayState) (road : R) (h : IsRuled block rule place old new) (is : PlayIs f r i o p road old) where
  -- the world of the play, and the rules
  abbrev here : World
  here = world_of p.nodes old.player

  abbrev rules' : ℕ → Rule
  rules' = put p.rules block.0 rule

  number : h.was.block.0 ≡ block.0
  number = ap (λ (b : BlockId). b.0) h.block_is

  -- A client of the play with the rule: it was there.
  record Was (k : ℕ) (a : Client I O) : Type 0 where
    was : Client I O
    at : slice_get old.player.clients.items k ≡ Some was
    like : a ≡ record was { rule = a.rule }
    rule_is : a.rule ≡ rules' was.block.0

  was_there : (k : ℕ) (a : Client I O) → slice_get new.player.clients.items k ≡ Some a → Was k a
  was_there k a at = by (set_or old.player.clients.items place h.now k a (sym (ap (λ (xs : List (Client I O)). slice_get xs k) h.set) ∙ at))
    where
      by : SetOr old.player.clients.items place h.now k a → Was k a
      by (inl x) =
          let is_now : a ≡ record h.was { rule = rule } = x.1 ∙ h.ruled_so in
          record {
            was = h.was;
            at = ap (λ (n : ℕ). slice_get old.player.clients.items n) x.0 ∙ h.at;
            like = subst (λ (y : Client I O). y ≡ record h.was { rule = y.rule }) (sym is_now) refl;
            rule_is = ap (λ (y : Client I O). y.rule) is_now ∙ (sym (put-here p.rules block.0 rule) ∙ ap rules' (sym number));
          }
      by (inr x) = record {
        was = a;
        at = x.1;
        like = refl;
        rule_is = is.rules k a x.1 ∙ sym (put-there p.rules block.0 rule a.block.0 (λ same. x.0 (is.stands.shows.apart k place a h.was x.1 h.at (same ∙ sym number))));
      }

  shows_as : (w : World) (net : Net) (a was : Client I O) → a ≡ record was { rule = a.rule } → ClientShows i o w net was → ClientShows i o w net a
  shows_as w net a was like s = subst (λ (y : Client I O). ClientShows i o w net y) (sym like) (record { writer = s.writer; told = s.told; pipe_is = s.pipe_is; fits = s.fits; said = s.said })

  client_shows : (k : ℕ) (a : Client I O) → slice_get new.player.clients.items k ≡ Some a → IsClient i o here is.stands.net p.queues a
  client_shows k a at =
      let z : Was k a = was_there k a at in
      let s = is.stands.shows.clients k z.was z.at in
      record {
        shows = shows_as here is.stands.net a z.was z.like s.shows;
        queue = ap (λ (y : Client I O). y.queue.items) z.like ∙ (s.queue ∙ ap (λ (y : Client I O). p.queues y.block.0) (sym z.like));
      }

  client_fits : (k : ℕ) (a : Client I O) → slice_get new.player.clients.items k ≡ Some a → ClientFits p.nodes old.player.nodes.blocks.items here a
  client_fits k a at =
      let z : Was k a = was_there k a at in
      let s = is.stands.clients k z.was z.at in
      subst (λ (y : Client I O). ClientFits p.nodes old.player.nodes.blocks.items here y) (sym z.like) (record { among = s.among; width = s.width; queue = s.queue; made = s.made })

  apart : AreApart (record old.player { clients = new.player.clients })
  apart j k a b at_j at_k same =
      let x : Was j a = was_there j a at_j in
      let y : Was k b = was_there k b at_k in
      is.stands.shows.apart j k x.was y.was x.at y.at (ap (λ (z : Client I O). z.block.0) (sym x.like) ∙ (same ∙ ap (λ (z : Client I O). z.block.0) y.like))

  rules : (k : ℕ) (a : Client I O) → slice_get new.player.clients.items k ≡ Some a → a.rule ≡ rules' a.block.0
  rules k a at =
      let z : Was k a = was_there k a at in
      z.rule_is ∙ ap (λ (y : Client I O). rules' y.block.0) (sym z.like)

  same_blocks : blocks_of new.player.clients.items ≡ blocks_of old.player.clients.items
  same_blocks = ap (λ (xs : List (Client I O)). blocks_of xs) h.set ∙ set_numbers old.player.clients.items place h.was h.now h.at (ap (λ (y : Client I O). y.block.0) h.ruled_so)

  rule_play : IsLeft f r i o (ruled p block.0 rule) old new road
  rule_play = record {
    is = subst (λ (x : Playing F I O). PlayIs f r i o (ruled p block.0 rule) road x) (sym h.same) (record {
      stands = record {
        net = is.stands.net;
        shows = record { nodes = is.stands.shows.nodes; reads = is.stands.shows.reads; recoveries = is.stands.shows.recoveries; clients = client_shows; apart = apart; office = is.stands.shows.office; running = is.stands.shows.running; slots = is.stands.shows.slots };
        few = is.stands.few;
        events = is.stands.events;
        clients = client_fits;
        asks = is.stands.asks;
        recovers = is.stands.recovers;
        connected = λ b n e. moved new.player.clients.items old.player.clients.items b same_blocks (is.stands.connected b n e);
      };
      nodes_are = is.nodes_are;
      events = is.events;
      generator = is.generator;
      faults = is.faults;
      asks = is.asks;
      told = is.told;
      recovers = is.recovers;
      formed = is.formed;
      rules = rules;
      live = is.live;
    });
    blocks = same_blocks;
  }

pub rules_plays : {F R I O : Type 0} (f : files.Ghosts F) (r : roads.Ghosts R I O) (i : link_in.Ghosts I) (o : link_out.Ghosts O) → RulesArePlays f r i o
rules_plays f r i o old new block rule place p road h is = rule_play f r i o old new block rule place p road h is

pub rule_so : {F I O : Type 0} (block : BlockId) (rule : Rule) (place : ℕ) (old new : Playing F I O) (was now : Client I O) → client_place old.player.clients.items block.0 ≡ Some place → slice_get old.player.clients.items place ≡ Some was
    → new ≡ record old { player = record old.player { clients = new.player.clients } } → new.player.clients.items ≡ slice_set old.player.clients.items place now → now ≡ record was { rule = rule } → Rules block rule old new
rule_so {F} {I} {O} block rule place old new was now there at same set ruled =
    let k = client_at old.player.clients.items block place there in
    subst (λ (x : Option ℕ). RulesAt block rule x old new) (sym there)
    (record { was = was; now = now; at = at; block_is = ap (λ (x : Client I O). x.block) (same_Some was k.client (sym at ∙ k.found)) ∙ k.block; same = same; set = set; ruled_so = ruled })

pub rule_none : {F I O : Type 0} (block : BlockId) (rule : Rule) (old : Playing F I O) → client_place old.player.clients.items block.0 ≡ None → Rules block rule old old
rule_none block rule old none = subst (λ (x : Option ℕ). RulesAt block rule x old old) (sym none) refl
