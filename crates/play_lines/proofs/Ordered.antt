-- A command that a client was given.
use Rattle.std.proofs.Common.{◌≡◌, inl, inr, ℕ, ◌<◌, ◌^◌, Bool, true, false, List, [], ◌∷◌, ◌++◌, slice_get, slice_set, Option, Some, None, IfSome, Result, Ok, Err, refl, sym, ap, ◌∙◌, subst, eqb-true, eq-eqb}
use Rattle.std.specs.Prelude.{◌==◌, if◌then◌else◌, OnOk, IfErr}
use Rattle.std.proofs.lemmas.Option.{same_Some}
use Rattle.hd_base.specs.declared.files.Files as files
use Rattle.hd_base.specs.declared.links.LinkIn as link_in
use Rattle.hd_base.specs.declared.links.LinkOut as link_out
use Rattle.hd_base.specs.declared.numbers.BlockId.{BlockId}
use Rattle.hd_base.specs.declared.roads.Roads as roads
use Rattle.hd_base.specs.SumRules.{Rule}
use Rattle.road_traffic.specs.Showing.{Net}
use Rattle.writer_core.specs.declared.commands.Command.{Command}
use Rattle.writer_core.specs.declared.intake.Intake.{Intake}
use Rattle.writer_core.specs.Commands.{intake_after, is_unmade}
use Rattle.world.specs.declared.events.Event.{Event}
use Rattle.world.specs.declared.events.TakenCommand.{TakenCommand}
use Rattle.world.specs.Worlds.{World, start, add}
use Rattle.world.specs.Events.{run}
use Rattle.play_scripts.specs.WorldRequests.Requests.{IsAmong}
use Rattle.play_model.specs.Dues.{Queues}
use Rattle.play_model.specs.States.{PlayState, ordered}
use Rattle.play_scripts.specs.PlayLaws.Intakes.{intake_of}
use Rattle.play_opening.specs.PlayClients.Client.{Client}
use Rattle.play_opening.specs.PlayClients.Clients.{ClientShows}
use Rattle.play_scripts.proofs.PlayNodes.Tables.{SetOr, set_or}
use Rattle.play_opening.specs.PlayClients.Blocks.{blocks_of}
use Rattle.play_opening.specs.PlayDues.Showing.{HasClient}
use Rattle.play_opening.specs.Play.Showing.{IsClient, AreApart}
use Rattle.play_scripts.specs.PlayLaws.Commands.{CommandFits, CommandsFit, given_with}
use Rattle.play_opening.specs.Play.Standing.{ClientFits, world_of}
use Rattle.play_lines.specs.declared.playing.Playing.{Playing}
use Rattle.play_lines.specs.Drawing.{IsLeft}
use Rattle.play_opening.specs.Play.PlayFault.{PlayFault}
use Rattle.play_opening.specs.Play.PlayFault.TheVariants as fault
use Rattle.play_opening.proofs.PlayProofs.Dispatch.{client_at}
use Rattle.play_opening.specs.PlayDues.Places.{client_place}
use Rattle.play_lines.specs.Ordering.{IsOrdered, OrdersAt, Orders, OrdersArePlays}
use Rattle.play_lines.specs.Showing.{PlayIs, given_in}
use Rattle.play_lines.proofs.Places.{set_numbers, moved}

-- QUEUES

fit_more : (nodes : ℕ) (i : Intake) (queue : List TakenCommand) (t : TakenCommand) → CommandsFit nodes i queue → CommandFits nodes (given_with i queue) t → CommandsFit nodes i (queue ++ t ∷ [])
fit_more nodes i [] t h k = (k, tt)
fit_more nodes i (x ∷ queue) t h k = (h.0, fit_more nodes (intake_after i x.command) queue t h.1 k)

-- the queue of the block has more, and the others are as they were
pub add_at : (queues : Queues) (b : ℕ) (more : List TakenCommand) (j : ℕ) → j ≡ b → add queues b more j ≡ queues j ++ more
add_at queues b more j same = ap (λ (q : Bool). if q then queues j ++ more else queues j) (eq-eqb j b same)

pub add_other : (queues : Queues) (b : ℕ) (more : List TakenCommand) (j : ℕ) → (j ≡ b → ⊥) → add queues b more j ≡ queues j
add_other queues b more j other = go (j == b) refl
  where
    go : (q : Bool) → (j == b) ≡ q → add queues b more j ≡ queues j
    go true e = absurd (other (eqb-true j b e))
    go false e = ap (λ (q : Bool). if q then queues j ++ more else queues j) e

module _ {F R I O : Type 0} (f : files.Ghosts F) (r : roads.Ghosts R I O) (i : link_in.Ghosts I) (o : link_out.Ghosts O) (old new : Playing F I O) (block : BlockId) (c : Command) (place : ℕ) (p : PlayState) (road : R) (h : IsOrdered block c place old new) (is : PlayIs f r i o p road old) (fits : CommandFits p.nodes (given_in p block.0) (record { command = c; rule = p.rules block.0 })) where
  -- the world of the play, and the command
  abbrev here : World
  here = world_of p.nodes old.player

  abbrev taken : TakenCommand
  taken = record { command = c; rule = p.rules block.0 }

  abbrev queues' : Queues
  queues' = add p.queues block.0 (taken ∷ [])

  number : h.was.block.0 ≡ block.0
  number = ap (λ (b : BlockId). b.0) h.block_is

  rule_is : h.was.rule ≡ p.rules block.0
  rule_is = is.rules place h.was h.at ∙ ap p.rules number

  -- A client of the play with the command: it was there with its queue.
  record Was (k : ℕ) (a : Client I O) : Type 0 where
    was : Client I O
    at : slice_get old.player.clients.items k ≡ Some was
    like : a ≡ record was { queue = a.queue }
    queue : a.queue.items ≡ queues' was.block.0
    fit : CommandsFit p.nodes (intake_of here was.block.0) a.queue.items

  given_here : given_in p block.0 ≡ given_with (intake_of here block.0) h.was.queue.items
  given_here =
      ap (λ (es : List Event). given_with (intake_of (run (start p.nodes) es) block.0) (p.queues block.0)) is.events ∙
      ap (λ (q : List TakenCommand). given_with (intake_of here block.0) q) (ap p.queues (sym number) ∙ sym (is.stands.shows.clients place h.was h.at).queue)

  now_fits : CommandsFit p.nodes (intake_of here h.was.block.0) h.now.queue.items
  now_fits =
      let queue : h.now.queue.items ≡ h.was.queue.items ++ taken ∷ [] = h.queue ∙ ap (λ (x : Rule). h.was.queue.items ++ record { command = c; rule = x } ∷ []) rule_is in
      let fit : CommandFits p.nodes (given_with (intake_of here h.was.block.0) h.was.queue.items) taken = subst (λ (n : ℕ). CommandFits p.nodes (given_with (intake_of here n) h.was.queue.items) taken) (sym number) (subst (λ (j : Intake). CommandFits p.nodes j taken) given_here fits) in
      subst (λ (q : List TakenCommand). CommandsFit p.nodes (intake_of here h.was.block.0) q) (sym queue)
      (fit_more p.nodes (intake_of here h.was.block.0) h.was.queue.items taken (is.stands.clients place h.was h.at).queue fit)

  now_queue : h.now.queue.items ≡ queues' h.was.block.0
  now_queue =
      h.queue ∙ (ap (λ (x : Rule). h.was.queue.items ++ record { command = c; rule = x } ∷ []) rule_is ∙
      (ap (λ (q : List TakenCommand). q ++ taken ∷ []) (is.stands.shows.clients place h.was h.at).queue ∙ sym (add_at p.queues block.0 (taken ∷ []) h.was.block.0 number)))

  was_there : (k : ℕ) (a : Client I O) → slice_get new.player.clients.items k ≡ Some a → Was k a
  was_there k a at = by (set_or old.player.clients.items place h.now k a (sym (ap (λ (xs : List (Client I O)). slice_get xs k) h.set) ∙ at))
    where
      by : SetOr old.player.clients.items place h.now k a → Was k a
      by (inl x) = record {
        was = h.was;
        at = ap (λ (n : ℕ). slice_get old.player.clients.items n) x.0 ∙ h.at;
        like = subst (λ (y : Client I O). y ≡ record h.was { queue = y.queue }) (sym x.1) h.rest;
        queue = ap (λ (y : Client I O). y.queue.items) x.1 ∙ now_queue;
        fit = subst (λ (y : Client I O). CommandsFit p.nodes (intake_of here h.was.block.0) y.queue.items) (sym x.1) now_fits;
      }
      by (inr x) = record {
        was = a;
        at = x.1;
        like = refl;
        queue = (is.stands.shows.clients k a x.1).queue ∙ sym (add_other p.queues block.0 (taken ∷ []) a.block.0 (λ same. x.0 (is.stands.shows.apart k place a h.was x.1 h.at (same ∙ sym number))));
        fit = (is.stands.clients k a x.1).queue;
      }

  shows_as : (w : World) (net : Net) (a was : Client I O) → a ≡ record was { queue = a.queue } → ClientShows i o w net was → ClientShows i o w net a
  shows_as w net a was like s = subst (λ (y : Client I O). ClientShows i o w net y) (sym like) (record { writer = s.writer; told = s.told; pipe_is = s.pipe_is; fits = s.fits; said = s.said })

  client_shows : (k : ℕ) (a : Client I O) → slice_get new.player.clients.items k ≡ Some a → IsClient i o here is.stands.net queues' a
  client_shows k a at =
      let z : Was k a = was_there k a at in
      record {
        shows = shows_as here is.stands.net a z.was z.like (is.stands.shows.clients k z.was z.at).shows;
        queue = z.queue ∙ ap (λ (y : Client I O). queues' y.block.0) (sym z.like);
      }

  client_fits : (k : ℕ) (a : Client I O) → slice_get new.player.clients.items k ≡ Some a → ClientFits p.nodes old.player.nodes.blocks.items here a
  client_fits k a at =
      let z : Was k a = was_there k a at in
      let s = is.stands.clients k z.was z.at in
      let same : z.was.block.0 ≡ a.block.0 = ap (λ (y : Client I O). y.block.0) (sym z.like) in
      record {
        among = subst (λ (n : ℕ). IsAmong old.player.nodes.blocks.items n) same s.among;
        width = subst (λ (n : ℕ). n < 2 ^ 64) same s.width;
        queue = subst (λ (n : ℕ). CommandsFit p.nodes (intake_of here n) a.queue.items) same z.fit;
        made = subst (λ (y : Client I O). IfSome y.writer (λ x. is_unmade x.intake.stand ≡ false)) (sym z.like) s.made;
      }

  apart : AreApart (record old.player { clients = new.player.clients })
  apart j k a b at_j at_k same =
      let x : Was j a = was_there j a at_j in
      let y : Was k b = was_there k b at_k in
      is.stands.shows.apart j k x.was y.was x.at y.at (ap (λ (z : Client I O). z.block.0) (sym x.like) ∙ (same ∙ ap (λ (z : Client I O). z.block.0) y.like))

  rules : (k : ℕ) (a : Client I O) → slice_get new.player.clients.items k ≡ Some a → a.rule ≡ p.rules a.block.0
  rules k a at =
      let z : Was k a = was_there k a at in
      ap (λ (y : Client I O). y.rule) z.like ∙ (is.rules k z.was z.at ∙ ap (λ (y : Client I O). p.rules y.block.0) (sym z.like))

  same_blocks : blocks_of new.player.clients.items ≡ blocks_of old.player.clients.items
  same_blocks = ap (λ (xs : List (Client I O)). blocks_of xs) h.set ∙ set_numbers old.player.clients.items place h.was h.now h.at (ap (λ (y : Client I O). y.block.0) h.rest)

  still_has : (b : ℕ) → HasClient old.player.clients.items b → HasClient new.player.clients.items b
  still_has b k = moved new.player.clients.items old.player.clients.items b same_blocks k

  order_play : IsLeft f r i o (ordered p block.0 c) old new road
  order_play = record {
    is = subst (λ (x : Playing F I O). PlayIs f r i o (ordered p block.0 c) road x) (sym h.same) (record {
      stands = record {
        net = is.stands.net;
        shows = record { nodes = is.stands.shows.nodes; reads = is.stands.shows.reads; recoveries = is.stands.shows.recoveries; clients = client_shows; apart = apart; office = is.stands.shows.office; running = is.stands.shows.running; slots = is.stands.shows.slots };
        few = is.stands.few;
        events = is.stands.events;
        clients = client_fits;
        asks = is.stands.asks;
        recovers = is.stands.recovers;
        connected = λ b n e. still_has b (is.stands.connected b n e);
      };
      nodes_are = is.nodes_are;
      events = is.events;
      generator = is.generator;
      faults = is.faults;
      asks = is.asks;
      told = is.told;
      recovers = is.recovers;
      formed = is.formed;
      rules = rules;
      live = is.live;
    });
    blocks = same_blocks;
  }

pub orders_plays : {F R I O : Type 0} (f : files.Ghosts F) (r : roads.Ghosts R I O) (i : link_in.Ghosts I) (o : link_out.Ghosts O) → OrdersArePlays f r i o
orders_plays f r i o old new block c place p road h is fits = order_play f r i o old new block c place p road h is fits

-- A client was given the command, or memory ran out.
order_ends : {F I O : Type 0} (block : BlockId) (c : Command) (place : ℕ) (old new : Playing F I O) (was seen now : Client I O) (result : Result (Unit {0}) PlayFault) → slice_get old.player.clients.items place ≡ Some was → slice_get old.player.clients.items place ≡ Some seen → was.block ≡ block
    → new ≡ record old { player = record old.player { clients = new.player.clients } } → new.player.clients.items ≡ slice_set old.player.clients.items place now → now ≡ record was { queue = now.queue } → OnOk result (now.queue.items ≡ was.queue.items ++ record { command = c; rule = seen.rule } ∷ []) → IfErr result (λ why. why ≡ fault.Memory)
    → OrdersAt block c (Some place) old new result
order_ends {F} {I} {O} block c place old new was seen now (Ok u) at at_seen of same set rest ok err = record {
  was = was;
  now = now;
  at = at;
  block_is = of;
  same = same;
  set = set;
  rest = rest;
  queue = ok ∙ ap (λ (x : Client I O). was.queue.items ++ record { command = c; rule = x.rule } ∷ []) (same_Some seen was (sym at_seen ∙ at));
}
order_ends block c place old new was seen now (Err why) at at_seen of same set rest ok err = err

pub order_so : {F I O : Type 0} (block : BlockId) (c : Command) (place : ℕ) (old new : Playing F I O) (was seen now : Client I O) (result : Result (Unit {0}) PlayFault) → client_place old.player.clients.items block.0 ≡ Some place → slice_get old.player.clients.items place ≡ Some was → slice_get old.player.clients.items place ≡ Some seen
    → new ≡ record old { player = record old.player { clients = new.player.clients } } → new.player.clients.items ≡ slice_set old.player.clients.items place now → now ≡ record was { queue = now.queue } → OnOk result (now.queue.items ≡ was.queue.items ++ record { command = c; rule = seen.rule } ∷ []) → IfErr result (λ why. why ≡ fault.Memory)
    → Orders block c old new result
order_so {F} {I} {O} block c place old new was seen now result there at at_seen same set rest ok err =
    let k = client_at old.player.clients.items block place there in
    subst (λ (x : Option ℕ). OrdersAt block c x old new result) (sym there)
    (order_ends block c place old new was seen now result at at_seen (ap (λ (x : Client I O). x.block) (same_Some was k.client (sym at ∙ k.found)) ∙ k.block) same set rest ok err)

pub order_none : {F I O : Type 0} (block : BlockId) (c : Command) (old : Playing F I O) → client_place old.player.clients.items block.0 ≡ None → Orders block c old old (Ok tt)
order_none block c old none = subst (λ (x : Option ℕ). OrdersAt block c x old old (Ok tt)) (sym none) (refl, refl)
