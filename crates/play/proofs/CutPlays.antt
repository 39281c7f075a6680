-- A play of which a connection was cut.
use Rattle.std.proofs.Common.{◌≡◌, ℕ, ◌<◌, ◌≤◌, true, false, List, [], ◌∷◌, ◌++◌, length, Result, Ok, Err, refl, sym, ap, ◌∙◌, subst, arith}
use Rattle.std.proofs.lemmas.List.{append_assoc}
use Rattle.hd_base.specs.declared.files.Files as files
use Rattle.hd_base.specs.declared.links.LinkIn as link_in
use Rattle.hd_base.specs.declared.links.LinkOut as link_out
use Rattle.hd_base.specs.declared.numbers.ConnId.{ConnId}
use Rattle.hd_base.specs.declared.roads.Roads as roads
use Rattle.road_traffic.specs.Showing.{Net}
use Rattle.world.specs.declared.events.Direction.TheVariants as direction
use Rattle.world.specs.declared.events.Event.{Event}
use Rattle.world.specs.declared.events.Event.TheVariants as event
use Rattle.world.specs.Parts.{Writing}
use Rattle.world.specs.Worlds.{World, start}
use Rattle.world.specs.Events.{run}
use Rattle.node_stops.specs.WorldCuts.Cutting.{cut_net, cut_world, IsCut, CutsRoads, CutsNet, CutsShow, CutsAreLosses, EndsStayInCuts, RoadsCut}
use Rattle.node_stops.proofs.WorldCuts.CutLemmas.{over_cut}
use Rattle.play_model.specs.Dues.{Queues}
use Rattle.play_laws.specs.Nodes.{SameNodes}
use Rattle.play_dues.specs.PlayClients.Client.{Client}
use Rattle.play_dues.specs.PlayClients.Staying.{ClientsStay}
use Rattle.node_stops.specs.PlayNodes.Frames.{KeepsNodes, KeepsWriters, EndsStay, NodesStay}
use Rattle.node_stops.specs.PlayNodes.Showing.{NodesLeft}
use Rattle.node_stops.proofs.PlayNodes.NodeFrames.{pipelines_stay}
use Rattle.play.specs.declared.faults.PlayFault.{PlayFault}
use Rattle.play.specs.declared.player.Player.{Player}
use Rattle.play.specs.Cutting.{losses, HasCut, CutShows}
use Rattle.play.specs.Events.{IsKept, Keeps}
use Rattle.play.specs.Laws.{Laws, PipelinesLeave}
use Rattle.play.specs.Showing.{PlayerShows}
use Rattle.play_laws.specs.Commands.{CommandsFit}
use Rattle.play.specs.Standing.{ClientFits, EventsFit, world_of, PlayStands}
use Rattle.play.proofs.Lawful.{fits_more}
use Rattle.play.proofs.NodeSteps.{same_left}

-- THE WORLD

nodes_kept : (w v : World) (c down up : ℕ) → IsCut w v c down up → KeepsNodes w v
nodes_kept w v c down up cut = record {
  nodes = ap (λ (k : World). k.nodes) cut.is;
  grows = subst (λ (k : World). w.next_conn ≤ k.next_conn) (sym cut.is) (omega arith);
  dialled = λ d within. ap (λ (k : World). k.dialled d) cut.is;
  running = λ n. ap (λ (k : World). k.running n) cut.is;
  lives = λ n. ap (λ (k : World). k.lives n) cut.is;
  lowers = λ d. ap (λ (k : World). k.lowers d) cut.is;
  replicas = λ n b. ap (λ (k : World). k.replicas n b) cut.is;
  over = λ a d by. over_cut w v c down up d false cut;
}

nodes_same : (w v : World) (c down up : ℕ) → IsCut w v c down up → SameNodes w v
nodes_same w v c down up cut = record {
  nodes = ap (λ (k : World). k.nodes) cut.is;
  running = λ n. ap (λ (k : World). k.running n) cut.is;
  lives = λ n. ap (λ (k : World). k.lives n) cut.is;
}

writers_kept : (w v : World) (c down up : ℕ) → IsCut w v c down up → KeepsWriters w v
writers_kept w v c down up cut = record {
  office = ap (λ (k : World). k.office) cut.is;
  writers = λ b. ap (λ (k : World). k.writers b) cut.is;
  said = λ b. ap (λ (k : World). k.said b) cut.is;
  over = λ b d by. over_cut w v c down up d false cut;
}

module _ {F R I O : Type 0} (f : files.Ghosts F) (r : roads.Ghosts R I O) (i : link_in.Ghosts I) (o : link_out.Ghosts O) (L : Laws) (shown : CutsShow R I O r) (are : CutsAreLosses) (ends : EndsStayInCuts i o) (nodes_stay : NodesStay {F = F} f i o) (clients_stay : ClientsStay i o) (K : PipelinesLeave i o) where
  module _ (nodes : ℕ) (queues : Queues) (conn : ConnId) (down up : ℕ) (old : Player F I O) (road road' : R) (s : PlayStands r i o nodes queues road old) (cuts : CutsRoads r conn.0 down up road road') (within : conn.0 < length old.nodes.connections.items) where
    abbrev here : World
    here = world_of nodes old

    abbrev there : World
    there = cut_world here conn down up

    abbrev made : Net
    made = cut_net s.net conn.0 down up

    dialled : conn.0 < here.next_conn
    dialled = subst (λ (k : ℕ). conn.0 < k) s.shows.nodes.nodes_are.count within

    net_so : CutsNet here there s.net conn.0 down up
    net_so = are here s.net conn down up dialled

    road_so : RoadsCut r made road'
    road_so =
        let n = s.shows.nodes.roads_are in
        shown s.net conn.0 down up road road' cuts n.sane n.shows (subst (λ (k : ℕ). conn.0 < k) (sym n.is_net.conns) dialled)

    stay : EndsStay i o here s.net there made
    stay = record {
      lowers = λ d e h. ends here there s.net conn.0 down up d true e net_so.is h;
      uppers = λ c d e by h. ends here there s.net conn.0 down up d false e net_so.is h;
    }

    left : NodesLeft r i o here s.net there road' old.nodes
    left = record {
      made = made;
      stands = record {
        roads_are = record { is_net = net_so.net_is s.shows.nodes.roads_are.is_net; sane = road_so.sane; shows = road_so.shows };
        nodes_are = nodes_stay here s.net there made old.nodes (record { nodes_are = s.shows.nodes.nodes_are; ordered = L.ordered nodes old.events.items; keeps = nodes_kept here there conn.0 down up net_so.is; ends = stay })
            (ap (λ (k : World). k.next_conn) net_so.is.is);
      };
      writers = λ b d e by h. ends here there s.net conn.0 down up d false e net_so.is h;
      elsewhere = λ d lower e away h. ends here there s.net conn.0 down up d lower e net_so.is h;
      pipelines = pipelines_stay here there (λ d before. ap (λ (k : World). k.dialled d) net_so.is.is) (ap (λ (k : World). k.next_conn) net_so.is.is);
    }

    shows_there : PlayerShows r i o there made queues road' old
    unfolding left
    shows_there = same_left f r i o here there s.net queues old old.nodes (event.Lost conn direction.Up up) road road' clients_stay K s.shows (L.ordered nodes old.events.items) (writers_kept here there conn.0 down up net_so.is) (nodes_same here there conn.0 down up net_so.is) refl left
        (K.cut_reads here s.net conn down up (L.ordered nodes old.events.items) dialled) (K.cut_recoveries here s.net conn down up old.nodes.blocks.items old.recoveries s.shows.recoveries (L.ordered nodes old.events.items) dialled)

    module _ (new : Player F I O) (same : new ≡ record old { events = new.events }) (more : new.events.items ≡ old.events.items ++ losses conn down up) where
      world_is : world_of nodes new ≡ there
      world_is = ap (λ (es : List Event). run (start nodes) es) more ∙ L.joined (start nodes) old.events.items (losses conn down up)

      writer_is : (b : ℕ) → there.writers b ≡ here.writers b
      writer_is b = ap (λ (k : World). k.writers b) net_so.is.is

      fits_there : (c : Client I O) → ClientFits nodes old.nodes.blocks.items here c → ClientFits nodes old.nodes.blocks.items there c
      fits_there c h = record {
        among = h.among;
        width = h.width;
        queue = subst (λ (x : Writing). CommandsFit nodes x.known.intake c.queue.items) (sym (writer_is c.block.0)) h.queue;
        made = h.made;
      }

      stands_there : PlayStands r i o nodes queues road' (record old { events = new.events })
      stands_there = record {
        net = made;
        shows = subst (λ (v : World). PlayerShows r i o v made queues road' (record old { events = new.events })) (sym world_is)
            (record { nodes = shows_there.nodes; reads = shows_there.reads; recoveries = shows_there.recoveries; clients = shows_there.clients; apart = shows_there.apart; office = shows_there.office; running = shows_there.running; slots = shows_there.slots });
        few = s.few;
        events = subst (λ (es : List Event). EventsFit (start nodes) nodes old.nodes.blocks.items es) (sym more)
            (fits_more nodes old.nodes.blocks.items old.events.items (losses conn down up) s.events
            (record { widths = (tt, (tt, tt)); names = (tt, (tt, tt)); among = (tt, (tt, tt)); whole = (tt, (tt, tt)) }));
        clients = λ k c at. subst (λ (v : World). ClientFits nodes old.nodes.blocks.items v c) (sym world_is) (fits_there c (s.clients k c at));
        asks = s.asks;
        recovers = s.recovers;
        connected = λ b c has. s.connected b c (sym (ap (λ (x : Writing). x.conn) (writer_is b)) ∙ (sym (ap (λ (v : World). (v.writers b).conn) world_is) ∙ has));
      }

      pub has_cut : HasCut r i o nodes queues conn down up old new road'
      has_cut = record {
        stands = subst (λ (p : Player F I O). PlayStands r i o nodes queues road' p) (sym same) stands_there;
        same = same;
        events = more;
      }

  -- both losses were kept, or memory ran out
  kept_two : (conn : ConnId) (down up : ℕ) (old mid new : Player F I O) → IsKept old mid (event.Lost conn direction.Down down) → IsKept mid new (event.Lost conn direction.Up up) → (new ≡ record old { events = new.events }) × (new.events.items ≡ old.events.items ++ losses conn down up)
  kept_two conn down up old mid new k l = (
    l.same ∙ ap (λ (p : Player F I O). record p { events = new.events }) k.same,
    l.events ∙ (ap (λ (es : List Event). es ++ event.Lost conn direction.Up up ∷ []) k.events ∙ append_assoc old.events.items (event.Lost conn direction.Down down ∷ []) (event.Lost conn direction.Up up ∷ [])),
  )

  pub cut_shows : (conn : ConnId) (down up : ℕ) (old mid new : Player F I O) (road road' : R) (result : Result (Unit {0}) PlayFault) → conn.0 < length old.nodes.connections.items → CutsRoads r conn.0 down up road road' → IsKept old mid (event.Lost conn direction.Down down) → Keeps mid new (event.Lost conn direction.Up up) result
      → CutShows r i o conn down up old new road road' result
  cut_shows conn down up old mid new road road' (Ok u) within cuts first second nodes queues s =
      let k = kept_two conn down up old mid new first second in
      has_cut nodes queues conn down up old road road' s cuts within new k.0 k.1
  cut_shows conn down up old mid new road road' (Err why) within cuts first second nodes queues s = second
