-- A play of which a node has stopped.
use Rattle.std.proofs.Common.{◌≡◌, ◌<◌, ◌≤◌, ℕ, zero, suc, Bool, true, false, List, [], ◌∷◌, ◌++◌, map, Some, Result, Ok, Err, refl, sym, ap, ◌∙◌, subst, arith}
use Rattle.std.specs.Prelude.{◌==◌, if◌then◌else◌}
use Rattle.hd_base.specs.declared.files.Files as files
use Rattle.hd_base.specs.declared.links.LinkIn as link_in
use Rattle.hd_base.specs.declared.links.LinkOut as link_out
use Rattle.hd_base.specs.declared.numbers.BlockId.{BlockId}
use Rattle.hd_base.specs.declared.numbers.NodeId.{NodeId}
use Rattle.hd_base.specs.declared.roads.Roads as roads
use Rattle.world.specs.declared.events.Event.{Event}
use Rattle.world.specs.declared.events.Event.TheVariants as event
use Rattle.world.specs.Parts.{Dialled, Marks, Writing, by_writer}
use Rattle.world.specs.Connections.{is_of_node, stopped_marks}
use Rattle.world.specs.Worlds.{World, put, start}
use Rattle.world.specs.Events.{stop, happens, run}
use Rattle.node_stops.specs.WorldStops.Origins.{DialsHaveOrigins}
use Rattle.node_stops.proofs.WorldStops.StopLemmas.{stop_is}
use Rattle.play_model.specs.Dues.{Queues}
use Rattle.play_dues.specs.PlayClients.Client.{Client}
use Rattle.play_dues.specs.PlayClients.Staying.{ClientsStay}
use Rattle.node_stops.specs.PlayNodes.Nodes.{Nodes}
use Rattle.node_stops.specs.PlayNodes.Frames.{KeepsWriters}
use Rattle.node_stops.specs.PlayNodes.Places.{KeepsSizes}
use Rattle.node_stops.specs.PlayNodes.Showing.{NodesLeft, WritersStay}
use Rattle.node_stops.specs.Stopping as node
use Rattle.play_model.specs.declared.asks.ReadAsk.{ReadAsk}
use Rattle.play_dues.specs.PlayReads.Reads.{Reads}
use Rattle.play_dues.specs.PlayReads.Left.{ReadsLeft}
use Rattle.play_dues.specs.PlayReaders.Asks.{asks_of}
use Rattle.play_dues.specs.PlayReads.Showing.{ReadsShow}
use Rattle.play_dues.specs.PlayReads.Keeping.{ReadsStay, KeepsReads}
use Rattle.play_dues.specs.PlayReads.Stopping as reads
use Rattle.play_model.specs.declared.recoveries.Recovery.{Recovery}
use Rattle.play_model.specs.Recoveries.{stopped_at}
use Rattle.play_dues.specs.PlayRecoveries.Recoveries.{Recoveries}
use Rattle.play_dues.specs.PlayRecoveries.Keeping.{RecoveringEndsStay}
use Rattle.play_dues.specs.PlayRecoveries.Places.{recoveries_of}
use Rattle.play_dues.specs.PlayRecoveries.Showing.{RecoveriesShow}
use Rattle.play_dues.specs.PlayRecoveries.Stopping as recoveries
use Rattle.play_laws.specs.WorldOrders.Orders.{Ordered, purpose_of}
use Rattle.play.specs.declared.faults.PlayFault.{PlayFault}
use Rattle.play.specs.declared.player.Player.{Player}
use Rattle.play.specs.Events.{IsKept, Keeps}
use Rattle.play.specs.Laws.{Laws}
use Rattle.play.specs.Running.{IsStopped}
use Rattle.play.specs.Showing.{PlayerShows}
use Rattle.play_laws.specs.Commands.{CommandsFit}
use Rattle.play.specs.Standing.{AsksFit, RecoveryFits, RecoveriesFit, ClientFits, EventsFit, world_of, PlayStands}
use Rattle.play.specs.Stopping.{HasStopped, StopShows}
use Rattle.play.proofs.OthersLaws.{recovering_elsewhere}
use Rattle.play.proofs.Lawful.{fits_more}
use Rattle.play.proofs.NodeSteps.{writing_of, clients_left}

-- THE WORLD

over_stopped : (b : Bool) (k : Marks) → (if b then stopped_marks k else k).over ≡ k.over
over_stopped true k = refl
over_stopped false k = refl

stopped_writers : (w : World) (n : NodeId) → KeepsWriters w (record (stop w n.0) { last = Some (event.Stop n) })
stopped_writers w n = record {
  office = refl;
  writers = λ b. refl;
  said = λ b. refl;
  over = λ b c by. over_stopped (is_of_node w n.0 c) (w.up_marks c);
}

writers_kept : (w : World) (n : NodeId) → w.running n.0 ≡ true → KeepsWriters w (happens w (event.Stop n))
writers_kept w n runs = subst (λ (v : World). KeepsWriters w v) (sym (stop_is w n runs)) (stopped_writers w n)

running_put : (w : World) (n : NodeId) → w.running n.0 ≡ true → (m : ℕ) → (happens w (event.Stop n)).running m ≡ put w.running n.0 false m
running_put w n runs m = ap (λ (v : World). v.running m) (stop_is w n runs)

-- WHAT PRIMARIES ARE TO RECOVER

stopped_fits : (nodes : ℕ) (blocks : List BlockId) (n : NodeId) (r : Recovery) → RecoveryFits nodes blocks r → RecoveryFits nodes blocks (stopped_at n r)
stopped_fits nodes blocks n r h = by (r.node.0 == n.0)
  where
    by : (b : Bool) → RecoveryFits nodes blocks (if b then record r { may_begin = false } else r)
    by true = record { among = h.among; width = h.width; node = h.node }
    by false = h

some_of : (a b : Recovery) → Some a ≡ Some b → a ≡ b
some_of a b e = cc

stopped_fit : (nodes : ℕ) (blocks : List BlockId) (n : NodeId) (rs : List Recovery) → RecoveriesFit nodes blocks rs → RecoveriesFit nodes blocks (map (stopped_at n) rs)
stopped_fit nodes blocks n [] fit k r at = cc
stopped_fit nodes blocks n (x ∷ rs) fit zero r at = subst (λ (y : Recovery). RecoveryFits nodes blocks y) (some_of (stopped_at n x) r at) (stopped_fits nodes blocks n x (fit 0 x refl))
stopped_fit nodes blocks n (x ∷ rs) fit (suc k) r at = stopped_fit nodes blocks n rs (λ j y at_y. fit (suc j) y at_y) k r at

none_between : (a b : ℕ) → a ≤ b → b < a → ⊥
none_between a b h k = omega (arith, h, k)

module _ {F R I O : Type 0} (f : files.Ghosts F) (r : roads.Ghosts R I O) (i : link_in.Ghosts I) (o : link_out.Ghosts O) (L : Laws) (origins : DialsHaveOrigins) (clients_stay : ClientsStay i o) (reads_stay : ReadsStay i o) where
  module _ (nodes : ℕ) (queues : Queues) (n : NodeId) (old mid new : Player F I O) (n' : Nodes F I O) (reads' : Reads I O) (recoveries' : Recoveries I O) (road first second road' : R) (s : PlayStands r i o nodes queues road old) (runs : (world_of nodes old).running n.0 ≡ true) (shows : node.StopShows r i o n old.nodes n' road first (Ok tt)) (sizes : KeepsSizes old.nodes n') (read_shows : reads.StopShows r i o n n' old.reads reads' first second) (recovery_shows : recoveries.StopShows r i o n n' old.recoveries recoveries' second road') (stopped : IsStopped (record old { nodes = n'; reads = reads'; recoveries = recoveries' }) mid n) (kept : IsKept mid new (event.Stop n)) where
    abbrev here : World
    here = world_of nodes old

    abbrev there : World
    there = happens here (event.Stop n)

    left : NodesLeft r i o here s.net there first n'
    left = shows here s.net s.shows.nodes (record { runs = runs; placed = L.placed nodes old.events.items; ordered = L.ordered nodes old.events.items; from = origins nodes old.events.items })

    ordered_there : Ordered there
    ordered_there = subst Ordered (L.joined (start nodes) old.events.items (event.Stop n ∷ [])) (L.ordered nodes (old.events.items ++ event.Stop n ∷ []))

    read_left : ReadsLeft r i o there left.made there second n' old.reads reads'
    read_left = read_shows here s.net left.made (record {
      runs = runs;
      in_order = record { before = L.ordered nodes old.events.items; after = ordered_there; placed = L.placed nodes old.events.items };
      reads_are = subst (λ (bs : List BlockId). ReadsShow i o here s.net bs old.reads) (sym sizes.blocks) s.shows.reads;
      stands = left.stands;
      elsewhere = left.elsewhere;
    })

    dialled_is : (d : ℕ) → there.dialled d ≡ here.dialled d
    dialled_is d = ap (λ (v : World). v.dialled d) (stop_is here n runs)

    -- the ends of primaries stay until then
    primaries_so : RecoveringEndsStay i o here s.net there read_left.made
    primaries_so d lower e of h = read_left.primaries d lower e (ap (λ (x : Dialled). purpose_of x.upper) (dialled_is d) ∙ of) (left.elsewhere d lower e (recovering_elsewhere (here.dialled d).upper of) h)

    ended : recoveries.HasEnded r i o there read_left.made n n' old.recoveries recoveries' road'
    ended = recovery_shows here s.net read_left.made (record {
      runs = runs;
      in_order = record { before = L.ordered nodes old.events.items; after = ordered_there; placed = L.placed nodes old.events.items };
      recoveries_are = subst (λ (bs : List BlockId). RecoveriesShow i o here s.net bs old.recoveries) (sym sizes.blocks) s.shows.recoveries;
      stands = read_left.stands.nodes;
      ends = primaries_so;
    })

    -- the reads show the world as before
    reads_kept : KeepsReads i o there read_left.made there ended.left
    reads_kept = record {
      ordered = ordered_there;
      readers = record { readers = λ l. refl; over = λ l c by. refl };
      servers = record { served = record { grows = omega arith; dialled = λ d before. refl; running = λ m. refl; lives = λ m. refl }; fresh = λ d from before of. none_between there.next_conn d from before; lowers = λ d before of. refl };
      ends = ended.readers;
    }

    writers : WritersStay i o here s.net there ended.left
    writers b d e by h =
        let there_by : (there.dialled d).upper ≡ by_writer b = ap (λ (x : Dialled). x.upper) (dialled_is d) ∙ by in
        ended.writers b d e there_by (read_left.writers b d e there_by (left.writers b d e by h))

    same : new ≡ record old { nodes = n'; reads = reads'; recoveries = recoveries'; running = mid.running; events = new.events }
    same = kept.same ∙ ap (λ (p : Player F I O). record p { events = new.events }) stopped.same

    more : new.events.items ≡ old.events.items ++ event.Stop n ∷ []
    more = kept.events ∙ ap (λ (p : Player F I O). p.events.items ++ event.Stop n ∷ []) stopped.same

    world_is : world_of nodes new ≡ there
    world_is = ap (λ (es : List Event). run (start nodes) es) more ∙ L.joined (start nodes) old.events.items (event.Stop n ∷ [])

    abbrev after : Player F I O
    after = record old { nodes = n'; reads = reads'; recoveries = recoveries'; running = mid.running; events = new.events }

    shows_there : PlayerShows r i o there ended.left queues road' after
    shows_there = record {
      nodes = ended.stands.nodes;
      reads = reads_stay there read_left.made there ended.left n'.blocks.items reads' read_left.stands.reads_are reads_kept;
      recoveries = ended.stands.recoveries_are;
      clients = clients_left f r i o here there s.net ended.left queues old clients_stay s.shows.clients (L.ordered nodes old.events.items) (writing_of here there (writers_kept here n runs)) writers;
      apart = s.shows.apart;
      office = s.shows.office ∙ sym (writers_kept here n runs).office;
      slots = stopped.slots ∙ (s.shows.slots ∙ sym (ap (λ (v : World). v.nodes) (stop_is here n runs)));
      running = λ m. stopped.running m ∙ (ap (λ (b : Bool). put (λ _. b) n.0 false m) (s.shows.running m) ∙ sym (running_put here n runs m));
    }

    writer_is : (b : ℕ) → there.writers b ≡ here.writers b
    writer_is b = (writers_kept here n runs).writers b

    blocks_are : n'.blocks.items ≡ old.nodes.blocks.items
    blocks_are = sizes.blocks

    fits_there : (c : Client I O) → ClientFits nodes old.nodes.blocks.items here c → ClientFits nodes n'.blocks.items there c
    fits_there c h = subst (λ (bs : List BlockId). ClientFits nodes bs there c) (sym blocks_are) (record {
      among = h.among;
      width = h.width;
      queue = subst (λ (x : Writing). CommandsFit nodes x.known.intake c.queue.items) (sym (writer_is c.block.0)) h.queue;
      made = h.made;
    })

    stands_there : PlayStands r i o nodes queues road' after
    stands_there = record {
      net = ended.left;
      shows = subst (λ (v : World). PlayerShows r i o v ended.left queues road' after) (sym world_is) shows_there;
      few = s.few;
      events = subst (λ (bs : List BlockId). EventsFit (start nodes) nodes bs new.events.items) (sym blocks_are)
          (subst (λ (es : List Event). EventsFit (start nodes) nodes old.nodes.blocks.items es) (sym more)
          (fits_more nodes old.nodes.blocks.items old.events.items (event.Stop n ∷ []) s.events (record { widths = (tt, tt); names = (tt, tt); among = (tt, tt); whole = (tt, tt) })));
      clients = λ k c at. subst (λ (v : World). ClientFits nodes n'.blocks.items v c) (sym world_is) (fits_there c (s.clients k c at));
      asks = subst (λ (bs : List BlockId). AsksFit nodes bs (asks_of reads'.clients.items)) (sym blocks_are) (subst (λ (xs : List ReadAsk). AsksFit nodes old.nodes.blocks.items xs) (sym read_left.asks) s.asks);
      recovers = subst (λ (bs : List BlockId). RecoveriesFit nodes bs (recoveries_of recoveries'.clients.items)) (sym blocks_are) (subst (λ (xs : List Recovery). RecoveriesFit nodes old.nodes.blocks.items xs) (sym ended.recovers) (stopped_fit nodes old.nodes.blocks.items n (recoveries_of old.recoveries.clients.items) s.recovers));
      connected = λ b c has. s.connected b c (sym (ap (λ (x : Writing). x.conn) (writer_is b)) ∙ (sym (ap (λ (v : World). (v.writers b).conn) world_is) ∙ has));
    }

    pub has_stopped : HasStopped r i o nodes queues n old new road'
    has_stopped = record {
      stands = subst (λ (p : Player F I O). PlayStands r i o nodes queues road' p) (sym same) stands_there;
      clients = ap (λ (p : Player F I O). p.clients) same;
      asks = ap (λ (p : Player F I O). asks_of p.reads.clients.items) same ∙ read_left.asks;
      recovers = ap (λ (p : Player F I O). recoveries_of p.recoveries.clients.items) same ∙ ended.recovers;
      events = more;
    }

  pub stop_shows : (n : NodeId) (old mid new : Player F I O) (n' : Nodes F I O) (reads' : Reads I O) (recoveries' : Recoveries I O) (road first second road' : R) (result : Result (Unit {0}) PlayFault) → node.StopShows r i o n old.nodes n' road first (Ok tt) → KeepsSizes old.nodes n' → reads.StopShows r i o n n' old.reads reads' first second → recoveries.StopShows r i o n n' old.recoveries recoveries' second road'
      → IsStopped (record old { nodes = n'; reads = reads'; recoveries = recoveries' }) mid n → Keeps mid new (event.Stop n) result → StopShows r i o n old new road road' result
  stop_shows n old mid new n' reads' recoveries' road first second road' (Ok u) shows sizes read_shows recovery_shows stopped kept nodes queues s runs = has_stopped nodes queues n old mid new n' reads' recoveries' road first second road' s runs shows sizes read_shows recovery_shows stopped kept
  stop_shows n old mid new n' reads' recoveries' road first second road' (Err why) shows sizes read_shows recovery_shows stopped kept nodes queues s runs = kept
