-- A line that stops a node.
use Rattle.std.proofs.Common.{◌≡◌, ℕ, ◌<◌, ◌≤◌, Bool, true, false, List, [], ◌∷◌, ◌++◌, map, slice_get, Some, Result, Ok, Err, refl, sym, ap, ◌∙◌, subst, arith}
use Rattle.std.specs.Prelude.{◌==◌, ◌&&◌, not, nat_lt, is_none, if◌then◌else◌}
use Rattle.hd_base.specs.declared.files.Files as files
use Rattle.hd_base.specs.declared.links.LinkIn as link_in
use Rattle.hd_base.specs.declared.links.LinkOut as link_out
use Rattle.hd_base.specs.declared.numbers.NodeId.{NodeId}
use Rattle.hd_base.specs.declared.roads.Roads as roads
use Rattle.hd_base.specs.declared.roads.TheConstants.{MAX_NODES}
use Rattle.world.specs.declared.events.Event.{Event}
use Rattle.world.specs.declared.events.Event.TheVariants as event
use Rattle.world.specs.Connections.{is_of_node, stopped_marks}
use Rattle.world.specs.Enabled.{leads_from, listens_at}
use Rattle.world.specs.Parts.{Upper, by_writer, by_member, by_reader, by_primary, Writing, Primary, no_primary, was_told, leads, has_led}
use Rattle.world.specs.Clients.{are_members}
use Rattle.world.specs.Worlds.{World, start}
use Rattle.world.specs.Events.{stop, happens, run}
use Rattle.play_opening.proofs.WorldStops.StopLemmas.{stop_is}
use Rattle.play_model.specs.Dues.{is_open}
use Rattle.play_model.specs.Lines as lines
use Rattle.play_model.specs.Lines.{stop_at}
use Rattle.play_model.specs.declared.recoveries.Recovery.{Recovery}
use Rattle.play_model.specs.Recoveries.{stopped_at}
use Rattle.play_model.specs.States as states
use Rattle.play_model.specs.States.{PlayState}
use Rattle.play_opening.specs.PlayClients.Client.{Client}
use Rattle.play_opening.specs.PlayDues.LiveConns.{LiveConns}
use Rattle.play_opening.specs.PlayDues.Live.{Covers}
use Rattle.play_opening.specs.PlayClients.Blocks.{blocks_of}
use Rattle.play_opening.specs.PlayDues.Spent.{is_given_up, is_spent}
use Rattle.play_scripts.specs.PlayLaws.Intakes.{intake_of}
use Rattle.play_scripts.specs.PlayNodes.Showing.{runs_in, has_events}
use Rattle.play_opening.specs.Play.PlayFault.{PlayFault}
use Rattle.play_opening.specs.Play.Laws.{Laws}
use Rattle.play_scripts.specs.PlayLaws.Commands.{given_with}
use Rattle.play_opening.specs.Play.Standing.{world_of}
use Rattle.play_opening.specs.Play.Stopping as player
use Rattle.play_opening.specs.Play.Stopping.{HasStopped}
use Rattle.play_lines.specs.declared.playing.Playing.{Playing}
use Rattle.play_lines.specs.Drawing.{IsCaused, IsDrawn}
use Rattle.play_lines.specs.Showing.{FaultsShow, PlayIs, IsPlaying}
use Rattle.play_lines.specs.Stopping.{StopShows}
use Rattle.play_lines.proofs.Drawn.{world_same}
use Rattle.play_lines.proofs.SpentLemmas.{both, silent}
use Rattle.play_lines.proofs.Places.{each_stopped, stopped_members}

-- WHAT IS SPENT

-- the world in which a node stops
abbrev stopped : World → NodeId → World
stopped w n = record (stop w n.0) { last = Some (event.Stop n) }

none_events : (a o : Bool) → not ((a && false) && o) ≡ true
none_events true o = refl
none_events false o = refl

fewer : (b r l a o : Bool) → not ((a && (r && l)) && o) ≡ true → not ((a && ((if b then false else r) && l)) && o) ≡ true
fewer true r l a o h = none_events a o
fewer false r l a o h = h

no_events : (w : World) (n : NodeId) (c : ℕ) → not (has_events w c) ≡ true → not (has_events (stopped w n) c) ≡ true
no_events w n c h = fewer ((w.dialled c).to.node == n.0) (w.running (w.dialled c).to.node) (w.lives (w.dialled c).to.node == (w.dialled c).to.life) (nat_lt c w.next_conn) (is_open (w.lowers c)) h

-- a primary that takes nothing from a connection takes nothing from it then
fewer_led : (b r l x y : Bool) → not (((r && l) && x) && y) ≡ true → not ((((if b then false else r) && l) && x) && y) ≡ true
fewer_led true r l x y h = refl
fewer_led false r l x y h = h

led_over : (w : World) (n : NodeId) (place : ℕ) (p : Primary) → not (leads_from p w place) ≡ true → not (leads_from p (stopped w n) place) ≡ true
led_over w n place (leads l) h = fewer_led (l.at.node == n.0) (w.running l.at.node) (w.lives l.at.node == l.at.life) (is_none l.told) (listens_at l.state.phase (slice_get l.state.standings place)) h
led_over w n place no_primary h = refl
led_over w n place (was_told b told) h = refl
led_over w n place (has_led result) h = refl

over_stops : (w : World) (n : NodeId) (c : ℕ) → (w.up_marks c).over ≡ true → ((stopped w n).up_marks c).over ≡ true
over_stops w n c e = by (is_of_node w n.0 c)
  where
    by : (t : Bool) → (if t then stopped_marks (w.up_marks c) else w.up_marks c).over ≡ true
    by true = e
    by false = e

given_up : (w : World) (n : NodeId) (c : ℕ) (u : Upper) → is_given_up w c u ≡ true → is_given_up (stopped w n) c u ≡ true
given_up w n c (by_writer b) h = h
given_up w n c (by_member d) h = no_events w n d h
given_up w n c (by_reader k) h = h
given_up w n c (by_primary k place) h =
    silent (leads_from (w.primaries k) w place) (leads_from (w.primaries k) (stopped w n) place) (w.up_marks c).over ((stopped w n).up_marks c).over (led_over w n place (w.primaries k)) (over_stops w n c) h

spent_stops : (w : World) (n : NodeId) (c : ℕ) → is_spent w c ≡ true → is_spent (stopped w n) c ≡ true
spent_stops w n c h =
    both (not (has_events w c)) (is_given_up w c (w.dialled c).upper) (not (has_events (stopped w n) c)) (is_given_up (stopped w n) c (w.dialled c).upper) (no_events w n c) (given_up w n c (w.dialled c).upper) h

-- What covered a world covers the one in which a node stops.
covers_stop : (w : World) (n : NodeId) (live : LiveConns) → w.running n.0 ≡ true → Covers w live → Covers (happens w (event.Stop n)) live
covers_stop w n live runs h =
    subst (λ (v : World). Covers v live) (sym (stop_is w n runs)) (record { within = h.within; has = h.has; listed = h.listed; rest = λ c below out. spent_stops w n c (h.rest c below out) })

writer_stays : (w : World) (n : NodeId) (b : ℕ) → w.running n.0 ≡ true → (happens w (event.Stop n)).writers b ≡ w.writers b
writer_stays w n b runs = ap (λ (v : World). v.writers b) (stop_is w n runs)

-- THE LINE

stop_so : (p : PlayState) (n : NodeId) → (states.world_of p).running n.0 ≡ true → stop_at p n ≡ lines.stopped p n
stop_so p n e = ap (λ (b : Bool). if b then lines.stopped p n else p) e

stop_not : (p : PlayState) (n : NodeId) → (states.world_of p).running n.0 ≡ false → stop_at p n ≡ p
stop_not p n e = ap (λ (b : Bool). if b then lines.stopped p n else p) e

module _ {F R I O : Type 0} (f : files.Ghosts F) (r : roads.Ghosts R I O) (i : link_in.Ghosts I) (o : link_out.Ghosts O) (L : Laws) (node : NodeId) (old : Playing F I O) (road : R) where
  -- whether the node runs in the model, as the player tells
  running_told : (p : PlayState) → PlayIs f r i o p road old → (states.world_of p).running node.0 ≡ runs_in old.player.running.items node.0
  running_told p h = ap (λ (w : World). w.running node.0) (world_same f r i o p road old h) ∙ sym (h.stands.shows.running node.0)

  pub nothing_stops : runs_in old.player.running.items node.0 ≡ false → StopShows f r i o node old old road road (Ok tt)
  nothing_stops off = λ p h.
      subst (λ (q : PlayState). IsDrawn f r i o p q old old road) (sym (stop_not p node (running_told p h ∙ off))) (record { is = h; blocks = refl; given = λ b k. refl })

  less : (n m k : ℕ) → n < m → m ≤ k → n < k
  less n m k h g = omega (arith, h, g)

  pub in_range : runs_in old.player.running.items node.0 ≡ true → IsPlaying f r i o road old → node.0 < MAX_NODES
  in_range on playing =
      less node.0 playing.p.nodes MAX_NODES ((L.only playing.p.nodes old.player.events.items).within node.0 (sym (playing.is.stands.shows.running node.0) ∙ on)) playing.is.stands.few

  module _ (on : runs_in old.player.running.items node.0 ≡ true) (new : Playing F I O) (road' : R) (rest : new ≡ record old { player = new.player }) where
    stop_play : (p : PlayState) → (h : PlayIs f r i o p road old) → HasStopped r i o p.nodes p.queues node old.player new.player road' → IsDrawn f r i o p (lines.stopped p node) old new road'
    stop_play p h has =
        let w : World = states.world_of p in
        let v : World = happens w (event.Stop node) in
        let q : PlayState = lines.stopped p node in
        let runs : w.running node.0 ≡ true = running_told p h ∙ on in
        let joined : states.world_of q ≡ v = L.joined (start p.nodes) p.events (event.Stop node ∷ []) in
        let events : q.events ≡ new.player.events.items = ap (λ (es : List Event). es ++ event.Stop node ∷ []) h.events ∙ sym has.events in
        let world_is : world_of p.nodes new.player ≡ v = ap (λ (es : List Event). run (start p.nodes) es) (sym events) ∙ joined in
        let clients : new.player.clients.items ≡ old.player.clients.items = ap (λ c. c.items) has.clients in
        record {
          is = record {
            stands = has.stands;
            nodes_are = h.nodes_are ∙ ap (λ (x : Playing F I O). x.nodes) (sym rest);
            events = events;
            generator = ap (λ (x : Playing F I O). x.generator) rest ∙ h.generator;
            faults = subst (λ (numbers : List ℕ). FaultsShow f p.nodes p.faults numbers) (ap (λ (x : Playing F I O). x.faults.items) (sym rest)) h.faults;
            asks = has.asks ∙ h.asks;
            told = h.told;
            recovers = has.recovers ∙ ap (λ (rs : List Recovery). map (stopped_at node) rs) h.recovers;
            formed = each_stopped (λ x. are_members x.members ≡ true) node (λ x formed. ap are_members (stopped_members node x) ∙ formed) p.recoveries h.formed;
            rules = λ k c at. h.rules k c (sym (ap (λ (xs : List (Client I O)). slice_get xs k) clients) ∙ at);
            live = subst (λ (l : LiveConns). Covers (world_of p.nodes new.player) l) (ap (λ (x : Playing F I O). x.live) (sym rest))
                (subst (λ (u : World). Covers u old.live) (sym world_is) (covers_stop w node old.live runs (subst (λ (u : World). Covers u old.live) (sym (world_same f r i o p road old h)) h.live)));
          };
          blocks = ap (λ (xs : List (Client I O)). blocks_of xs) clients;
          given = λ b k. ap (λ (u : World). given_with (intake_of u b) (p.queues b)) joined ∙ ap (λ (x : Writing). given_with x.known.intake (p.queues b)) (writer_stays w node b runs);
        }

    pub was_stopped : (result : Result (Unit {0}) PlayFault) → player.StopShows r i o node old.player new.player road road' result → StopShows f r i o node old new road road' result
    was_stopped (Ok u) shows = λ p h.
        let runs : (states.world_of p).running node.0 ≡ true = running_told p h ∙ on in
        subst (λ (q : PlayState). IsDrawn f r i o p q old new road') (sym (stop_so p node runs)) (stop_play p h (shows p.nodes p.queues h.stands (sym (h.stands.shows.running node.0) ∙ on)))
    was_stopped (Err why) shows = λ p h. subst (λ (x : PlayFault). IsCaused f r new road road' x) (sym (shows p.nodes p.queues h.stands (sym (h.stands.shows.running node.0) ∙ on))) tt
