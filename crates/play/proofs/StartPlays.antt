-- A play of which a node has started again.
use Rattle.std.proofs.Common.{◌≡◌, ◌<◌, ℕ, Bool, true, false, length, List, [], ◌∷◌, ◌++◌, Result, Ok, Err, inr, refl, sym, ap, ◌∙◌, subst}
use Rattle.hd_base.specs.declared.files.Files as files
use Rattle.hd_base.specs.declared.links.LinkIn as link_in
use Rattle.hd_base.specs.declared.links.LinkOut as link_out
use Rattle.hd_base.specs.declared.numbers.BlockId.{BlockId}
use Rattle.hd_base.specs.declared.numbers.NodeId.{NodeId}
use Rattle.hd_base.specs.declared.roads.Roads as roads
use Rattle.hd_base.specs.declared.shelves.Shelf as shelves
use Rattle.world.specs.declared.events.Event.{Event}
use Rattle.world.specs.declared.events.Event.TheVariants as event
use Rattle.world.specs.Parts.{Writing}
use Rattle.world.specs.Worlds.{World, put, start}
use Rattle.world.specs.Events.{happens, run}
use Rattle.node_starts.specs.WorldBreaks.Breaks.{WholeAfterRefusedWrites}
use Rattle.play_model.specs.Dues.{Queues}
use Rattle.play_dues.specs.PlayClients.Client.{Client}
use Rattle.play_dues.specs.PlayClients.Staying.{ClientsStay}
use Rattle.node_stops.specs.PlayNodes.Nodes.{Nodes}
use Rattle.node_stops.specs.PlayNodes.Frames.{KeepsWriters}
use Rattle.node_stops.specs.PlayNodes.Showing.{NodesLeft}
use Rattle.node_starts.specs.declared.faults.StartFault.{StartFault}
use Rattle.node_starts.specs.declared.faults.StartFault.TheVariants as start_fault
use Rattle.node_starts.specs.Faults.{HasStartCause}
use Rattle.node_starts.specs.Books.{NodeTells}
use Rattle.node_starts.specs.Lives.{DialsAreLived}
use Rattle.node_starts.specs.Starting as node
use Rattle.node_starts.proofs.StartLemmas.{start_is}
use Rattle.play_dues.specs.PlayReads.Keeping.{StartsKeepReads}
use Rattle.play_dues.specs.PlayReaders.Asks.{asks_of}
use Rattle.play_dues.specs.PlayReads.Showing.{ReadsShow}
use Rattle.play_dues.specs.PlayRecoveries.Keeping.{StartsKeepRecoveries}
use Rattle.play_dues.specs.PlayRecoveries.Places.{recoveries_of}
use Rattle.play_dues.specs.PlayRecoveries.Showing.{RecoveriesShow}
use Rattle.play.proofs.OthersLaws.{recovering_elsewhere}
use Rattle.play.specs.declared.faults.PlayFault.{PlayFault}
use Rattle.play.specs.declared.player.Player.{Player}
use Rattle.play.specs.Events.{IsKept, Keeps}
use Rattle.play.specs.Faults.{of_start}
use Rattle.play.specs.Laws.{Laws}
use Rattle.play.specs.Running.{IsStarted}
use Rattle.play.specs.Showing.{PlayerShows}
use Rattle.play_laws.specs.Commands.{CommandsFit}
use Rattle.play.specs.Standing.{AsksFit, RecoveriesFit, ClientFits, EventsFit, world_of, PlayStands}
use Rattle.play.specs.Starting.{HasStarted, StartShows, IsStartCause}
use Rattle.play.proofs.Lawful.{fits_more}
use Rattle.play.proofs.NodeSteps.{writing_of, clients_left}

-- THE WORLD

writers_kept : (w : World) (n : NodeId) → n.0 < w.nodes → w.running n.0 ≡ false → KeepsWriters w (happens w (event.Restart n []))
writers_kept w n within off =
    subst (λ (v : World). KeepsWriters w v) (sym (start_is w n [] within off)) (record { office = refl; writers = λ b. refl; said = λ b. refl; over = λ b c by. refl })

running_put : (w : World) (n : NodeId) → n.0 < w.nodes → w.running n.0 ≡ false → (m : ℕ) → (happens w (event.Restart n [])).running m ≡ put w.running n.0 true m
running_put w n within off m = ap (λ (v : World). v.running m) (start_is w n [] within off)

module _ {S F R I O : Type 0} (s : shelves.Ghosts S F) (f : files.Ghosts F) (r : roads.Ghosts R I O) (i : link_in.Ghosts I) (o : link_out.Ghosts O) (L : Laws) (whole : WholeAfterRefusedWrites) (lived : DialsAreLived) (clients_stay : ClientsStay i o) (reads_stay : StartsKeepReads i o) (recoveries_stay : StartsKeepRecoveries i o) where
  module _ (nodes : ℕ) (queues : Queues) (n : NodeId) (shelf : S) (old mid new : Player F I O) (n' : Nodes F I O) (road road' : R) (st : PlayStands r i o nodes queues road old) (below : n.0 < nodes) (off : (world_of nodes old).running n.0 ≡ false) (tells : NodeTells s f n shelf old.nodes) (shows : node.StartShows s f r i o n shelf old.nodes n' road road') (blocks : n'.blocks.items ≡ old.nodes.blocks.items)
      (started : IsStarted (record old { nodes = n' }) mid n) (kept : IsKept mid new (event.Restart n [])) where
    abbrev here : World
    here = world_of nodes old

    abbrev there : World
    there = happens here (event.Restart n [])

    nodes_are : here.nodes ≡ nodes
    nodes_are = (L.only nodes old.events.items).nodes_are

    within : n.0 < here.nodes
    within = subst (λ (k : ℕ). n.0 < k) (sym nodes_are) below

    left : NodesLeft r i o here st.net there road' n'
    left = shows here st.net st.shows.nodes (record { is_node = within; stands_still = off; lived = lived nodes old.events.items }) (whole nodes old.events.items st.events.whole) tells

    same : new ≡ record old { nodes = n'; running = mid.running; events = new.events }
    same = kept.same ∙ ap (λ (p : Player F I O). record p { events = new.events }) started.same

    more : new.events.items ≡ old.events.items ++ event.Restart n [] ∷ []
    more = kept.events ∙ ap (λ (p : Player F I O). p.events.items ++ event.Restart n [] ∷ []) started.same

    world_is : world_of nodes new ≡ there
    world_is = ap (λ (es : List Event). run (start nodes) es) more ∙ L.joined (start nodes) old.events.items (event.Restart n [] ∷ [])

    slot : n.0 < length old.running.items
    slot = subst (λ (k : ℕ). n.0 < k) (sym st.shows.slots) within

    abbrev after : Player F I O
    after = record old { nodes = n'; running = mid.running; events = new.events }

    shows_there : PlayerShows r i o there left.made queues road' after
    shows_there = record {
      nodes = left.stands;
      reads = subst (λ (bs : List BlockId). ReadsShow i o there left.made bs old.reads) (sym blocks)
          (reads_stay here st.net left.made n [] old.nodes.blocks.items old.reads st.shows.reads (record { ordered = L.ordered nodes old.events.items; is_node = within; stands_still = off; lived = lived nodes old.events.items }) left.elsewhere);
      recoveries = subst (λ (bs : List BlockId). RecoveriesShow i o there left.made bs old.recoveries) (sym blocks)
          (recoveries_stay here st.net left.made n [] old.nodes.blocks.items old.recoveries st.shows.recoveries (record { ordered = L.ordered nodes old.events.items; is_node = within; stands_still = off; lived = lived nodes old.events.items })
          (λ d lower e of h. left.elsewhere d lower e (recovering_elsewhere (here.dialled d).upper of) h));
      clients = clients_left f r i o here there st.net left.made queues old clients_stay st.shows.clients (L.ordered nodes old.events.items) (writing_of here there (writers_kept here n within off)) left.writers;
      apart = st.shows.apart;
      office = st.shows.office ∙ sym (writers_kept here n within off).office;
      slots = started.slots ∙ (st.shows.slots ∙ sym (ap (λ (v : World). v.nodes) (start_is here n [] within off)));
      running = λ m. started.running slot m ∙ (ap (λ (b : Bool). put (λ _. b) n.0 true m) (st.shows.running m) ∙ sym (running_put here n within off m));
    }

    writer_is : (b : ℕ) → there.writers b ≡ here.writers b
    writer_is b = (writers_kept here n within off).writers b

    fits_there : (c : Client I O) → ClientFits nodes old.nodes.blocks.items here c → ClientFits nodes n'.blocks.items there c
    fits_there c h = subst (λ (bs : List BlockId). ClientFits nodes bs there c) (sym blocks) (record {
      among = h.among;
      width = h.width;
      queue = subst (λ (x : Writing). CommandsFit nodes x.known.intake c.queue.items) (sym (writer_is c.block.0)) h.queue;
      made = h.made;
    })

    stands_there : PlayStands r i o nodes queues road' after
    stands_there = record {
      net = left.made;
      shows = subst (λ (v : World). PlayerShows r i o v left.made queues road' after) (sym world_is) shows_there;
      few = st.few;
      events = subst (λ (bs : List BlockId). EventsFit (start nodes) nodes bs new.events.items) (sym blocks)
          (subst (λ (es : List Event). EventsFit (start nodes) nodes old.nodes.blocks.items es) (sym more)
          (fits_more nodes old.nodes.blocks.items old.events.items (event.Restart n [] ∷ []) st.events (record { widths = (tt, tt); names = (tt, tt); among = (tt, tt); whole = (tt, tt) })));
      clients = λ k c at. subst (λ (v : World). ClientFits nodes n'.blocks.items v c) (sym world_is) (fits_there c (st.clients k c at));
      asks = subst (λ (bs : List BlockId). AsksFit nodes bs (asks_of old.reads.clients.items)) (sym blocks) st.asks;
      recovers = subst (λ (bs : List BlockId). RecoveriesFit nodes bs (recoveries_of old.recoveries.clients.items)) (sym blocks) st.recovers;
      connected = λ b c has. st.connected b c (sym (ap (λ (x : Writing). x.conn) (writer_is b)) ∙ (sym (ap (λ (v : World). (v.writers b).conn) world_is) ∙ has));
    }

    has_started : HasStarted r i o nodes queues n old new road'
    has_started = record {
      stands = subst (λ (p : Player F I O). PlayStands r i o nodes queues road' p) (sym same) stands_there;
      clients = ap (λ (p : Player F I O). p.clients) same;
      asks = ap (λ (p : Player F I O). asks_of p.reads.clients.items) same;
      recovers = ap (λ (p : Player F I O). recoveries_of p.recoveries.clients.items) same;
      events = more;
    }

  pub start_shows : (n : NodeId) (shelf : S) (old mid new : Player F I O) (n' : Nodes F I O) (road road' : R) (result : Result (Unit {0}) PlayFault) → node.StartShows s f r i o n shelf old.nodes n' road road' → n'.blocks.items ≡ old.nodes.blocks.items → IsStarted (record old { nodes = n' }) mid n
      → Keeps mid new (event.Restart n []) result → StartShows s f r i o n shelf old new road road' result
  start_shows n shelf old mid new n' road road' (Ok u) shows blocks started kept nodes queues st below off tells = has_started nodes queues n shelf old mid new n' road road' st below off tells shows blocks started kept
  start_shows n shelf old mid new n' road road' (Err why) shows blocks started kept nodes queues st below off tells = tt

  pub start_caused : (n : NodeId) (shelf shelf' : S) (road road' : R) (why : StartFault) → HasStartCause s r shelf shelf' road road' why → IsStartCause s r n shelf shelf' road road' (of_start n why)
  start_caused n shelf shelf' road road' start_fault.RoadsFailed c = inr c
  start_caused n shelf shelf' road road' start_fault.ShelfFailed c = (refl, c)
  start_caused n shelf shelf' road road' start_fault.Memory c = tt
