-- An event of the nodes, and what it leaves of the clients and the office.
use Rattle.std.proofs.Common.{◌≡◌, ◌⊎◌, inl, inr, refl, ℕ, Bool, true, false, [], ◌∷◌, ◌++◌, slice_get, Option, Some, None, IfSome, Result, Ok, Err, sym, ap, ◌∙◌, subst}
use Rattle.hd_base.specs.declared.files.Files as files
use Rattle.hd_base.specs.declared.links.LinkIn as link_in
use Rattle.hd_base.specs.declared.links.LinkOut as link_out
use Rattle.hd_base.specs.declared.numbers.ConnId.{ConnId}
use Rattle.hd_base.specs.declared.numbers.NodeId.{NodeId}
use Rattle.hd_base.specs.Faults.{FaultsIncreased}
use Rattle.hd_base.specs.declared.roads.Roads as roads
use Rattle.road_traffic.specs.Showing.{Net}
use Rattle.world.specs.declared.events.Delivery.TheVariants as delivery
use Rattle.world.specs.declared.events.Event.{Event}
use Rattle.world.specs.declared.events.Event.TheVariants as event
use Rattle.world.specs.Parts.{Dialled, Marks, Writing, by_writer}
use Rattle.world.specs.Worlds.{World}
use Rattle.world.specs.Nodes.{node_of}
use Rattle.world.specs.Events.{happens}
use Rattle.node_stops.specs.WorldNets.Nets.{is_over}
use Rattle.play_laws.specs.WorldOrders.Orders.{Ordered, IsWriterConn}
use Rattle.play_model.specs.Dues.{Queues}
use Rattle.play_dues.specs.PlayClients.Client.{Client}
use Rattle.play_dues.specs.PlayClients.Staying.{KeepsClient, ClientsStay}
use Rattle.node_stops.specs.PlayNodes.NodesFault.{NodesFault}
use Rattle.node_stops.specs.PlayNodes.NodesFault.TheVariants as nodes_fault
use Rattle.node_stops.specs.PlayNodes.Nodes.{Nodes}
use Rattle.play_laws.specs.Nodes.{SameNodes, RunningStays}
use Rattle.node_stops.specs.PlayNodes.Beginning as beginning
use Rattle.node_stops.specs.PlayNodes.Events as nodes
use Rattle.node_stops.specs.PlayNodes.Refusing as refusing
use Rattle.node_stops.specs.PlayNodes.Frames.{KeepsWriters, DownKeeps, FaultKeeps, ReadyKeeps, MirrorKeeps}
use Rattle.node_stops.specs.PlayNodes.Showing.{is_pipeline, runs_in, TellsRunning, NodesLeft, WritersStay, ElsewhereStays}
use Rattle.play_dues.specs.PlayReaders.Asks.{asks_of}
use Rattle.play_dues.specs.PlayReads.Keeping.{KeepsReads}
use Rattle.play_dues.specs.PlayRecoveries.Places.{recoveries_of}
use Rattle.play_dues.specs.PlayRecoveries.Showing.{RecoveriesShow}
use Rattle.play.specs.declared.faults.PlayFault.{PlayFault}
use Rattle.play.specs.declared.faults.PlayFault.TheVariants as fault
use Rattle.play.specs.declared.player.Player.{Player}
use Rattle.play.specs.Faults.{of_nodes}
use Rattle.play.specs.Running.{is_running}
use Rattle.play.specs.Laws.{PipelinesLeave}
use Rattle.play.specs.Showing.{IsClient, PlayerShows}
use Rattle.play.proofs.OthersLaws.{KeepsShown, reads_left, recoveries_left}
use Rattle.hd_base.specs.RoadFaults.{RoadsFailed}
use Rattle.play.specs.Events.{FilesTell, IsKept, Keeps, KeepsDown, down_event, DownLeft, IsCaused, writer_at, blocks_of, KeepsPlaces, Begins, BeginShows, ReadyShows, DownShows, MirrorShows}

pub dialled_there : (dialled : ℕ → Dialled) (marks : ℕ → Marks) (b c : ℕ) (x : Writing) (n : Option ℕ) → n ≡ Some c → IfSome n (λ c. IsWriterConn (dialled c) (marks c).taken b x.known) → (dialled c).upper ≡ by_writer b
dialled_there dialled marks b c x None is h = cc
dialled_there dialled marks b c x (Some d) is h = subst (λ (m : ℕ). (dialled m).upper ≡ by_writer b) (some_is d c is) h.upper
  where
    some_is : (a b : ℕ) → Some a ≡ Some b → a ≡ b
    some_is a b e = cc

-- The writers are as they were, and so are their answers, and which ends they took.
pub record KeepsWriting (w v : World) : Type 0 where
  pub writers : (b : ℕ) → v.writers b ≡ w.writers b
  pub said : (b : ℕ) → v.said b ≡ w.said b
  pub over : (b c : ℕ) → (w.dialled c).upper ≡ by_writer b → is_over v c false ≡ is_over w c false

-- So it is where the office is as it was, too.
pub writing_of : (w v : World) → KeepsWriters w v → KeepsWriting w v
writing_of w v k = record { writers = k.writers; said = k.said; over = k.over }

true_false : true ≡ false → ⊥
true_false e = cc

module _ {F R I O : Type 0} (f : files.Ghosts F) (r : roads.Ghosts R I O) (i : link_in.Ghosts I) (o : link_out.Ghosts O) where
  keeps_client : (w v : World) (net made : Net) → Ordered w → KeepsWriting w v → WritersStay i o w net v made → (b : ℕ) → KeepsClient i o w net v made b
  keeps_client w v net made ordered k stay b = record {
    writer = k.writers b;
    said = k.said b;
    over = λ c is. k.over b c (dialled_there w.dialled w.up_marks b c (w.writers b) (w.writers b).conn is (ordered.writers_are b));
    ends = λ c e is h. stay b c e (dialled_there w.dialled w.up_marks b c (w.writers b) (w.writers b).conn is (ordered.writers_are b)) h;
  }

  -- What is left of a player by an event of the nodes.
  record Left (v : World) (queues : Queues) (actor : Option ℕ) (old new : Player F I O) (e : Event) (road : R) : Type 0 where
    made : Net
    shows : PlayerShows r i o v made queues road new
    events : new.events.items ≡ old.events.items ++ e ∷ []
    places : KeepsPlaces actor old new

  -- an event of the nodes leaves the clients
  keeps_places : (actor : Option ℕ) (old : Player F I O) (n' : Nodes F I O) (new : Player F I O) (e : Event) → n'.blocks.items ≡ old.nodes.blocks.items → IsKept (record old { nodes = n' }) new e → KeepsPlaces actor old new
  keeps_places actor old n' new e blocks kept = record {
    blocks = ap (λ (p : Player F I O). p.nodes.blocks.items) kept.same ∙ blocks;
    order = ap (λ (p : Player F I O). blocks_of p.clients.items) kept.same;
    asks = ap (λ (p : Player F I O). asks_of p.reads.clients.items) kept.same;
    recovers = ap (λ (p : Player F I O). recoveries_of p.recoveries.clients.items) kept.same;
    each = λ k c at. record { was = c; at = sym (ap (λ (p : Player F I O). slice_get p.clients.items k) kept.same) ∙ at; block = refl; rule = refl; same = λ other. refl };
  }

  -- clients that show a world show it after an event that leaves the writers
  pub clients_left : (w v : World) (net made : Net) (queues : Queues) (old : Player F I O) → ClientsStay i o → ((k : ℕ) (c : Client I O) → slice_get old.clients.items k ≡ Some c → IsClient i o w net queues c) → Ordered w → KeepsWriting w v → WritersStay i o w net v made
      → (k : ℕ) (c : Client I O) → slice_get old.clients.items k ≡ Some c → IsClient i o v made queues c
  clients_left w v net made queues old stay were ordered k writers = λ j c at. record {
    shows = stay c w net v made (were j c at).shows (keeps_client w v net made ordered k writers c.block.0);
    queue = (were j c at).queue;
  }

  pub same_left : (w v : World) (net : Net) (queues : Queues) (old : Player F I O) (n' : Nodes F I O) (e : Event) (road road' : R) → ClientsStay i o → PipelinesLeave i o → PlayerShows r i o w net queues road old → Ordered w → KeepsWriters w v → SameNodes w v → n'.blocks.items ≡ old.nodes.blocks.items → (left : NodesLeft r i o w net v road' n') → KeepsReads i o w net v left.made → RecoveriesShow i o v left.made n'.blocks.items old.recoveries
      → PlayerShows r i o v left.made queues road' (record old { nodes = n' })
  same_left w v net queues old n' e road road' stay K p ordered k runs blocks left kept recovered = record {
    nodes = left.stands;
    reads = reads_left i o w v net left.made old.nodes.blocks.items n'.blocks.items old.reads K.reads_stay blocks p.reads kept;
    recoveries = recovered;
    clients = clients_left w v net left.made queues old stay p.clients ordered (writing_of w v k) left.writers;
    apart = p.apart;
    office = p.office ∙ sym k.office;
    running = λ n. p.running n ∙ sym (runs.running n);
    slots = p.slots ∙ sym runs.nodes;
  }

  left_of : (w v : World) (net : Net) (queues : Queues) (actor : Option ℕ) (old : Player F I O) (n' : Nodes F I O) (new : Player F I O) (e : Event) (road road' : R) → n'.blocks.items ≡ old.nodes.blocks.items → ClientsStay i o → PipelinesLeave i o → PlayerShows r i o w net queues road old → Ordered w → KeepsWriters w v → SameNodes w v → ((made : Net) → ElsewhereStays i o w net v made → KeepsShown i o w net v made) → NodesLeft r i o w net v road' n' → IsKept (record old { nodes = n' }) new e
      → Left v queues actor old new e road'
  left_of w v net queues actor old n' new e road road' blocks stay K p ordered k runs keeps left kept =
      let kept_so : KeepsShown i o w net v left.made = keeps left.made left.elsewhere in
      let q : PlayerShows r i o v left.made queues road' (record old { nodes = n' }) =
      same_left w v net queues old n' e road road' stay K p ordered k runs blocks left kept_so.reads (recoveries_left i o w v net left.made old.nodes.blocks.items n'.blocks.items old.recoveries K.recoveries_stay blocks p.recoveries kept_so.recoveries) in
      record {
        made = left.made;
        shows = subst (λ (x : Player F I O). PlayerShows r i o v left.made queues road' x) (sym kept.same) (record { nodes = q.nodes; reads = q.reads; recoveries = q.recoveries; clients = q.clients; apart = q.apart; office = q.office; running = q.running; slots = q.slots });
        events = kept.events;
        places = keeps_places actor old n' new e blocks kept;
      }

  caused : (old new : Player F I O) (road road' : R) (why : NodesFault) → nodes.IsCaused f r old.nodes new.nodes road road' why → IsCaused f r old new road road' (of_nodes why)
  caused old new road road' nodes_fault.LinkFailed h = inl h
  caused old new road road' nodes_fault.RoadsFailed h = inr h
  caused old new road road' (nodes_fault.FilesFailed node) h = h
  caused old new road road' nodes_fault.Memory h = tt

  pub out_of_memory : (old new : Player F I O) (road road' : R) (why : PlayFault) → why ≡ fault.Memory → IsCaused f r old new road road' why
  out_of_memory old new road road' why is = subst (λ (x : PlayFault). IsCaused f r old new road road' x) (sym is) tt

  pub ready_left : (conn : ConnId) (old : Player F I O) (n' : Nodes F I O) (new : Player F I O) (road road' : R) (result : Result (Unit {0}) PlayFault) → n'.blocks.items ≡ old.nodes.blocks.items → ClientsStay i o → PipelinesLeave i o → ReadyKeeps → RunningStays → nodes.ReadyShows f r i o conn old.nodes n' road road' (Ok tt) → Keeps (record old { nodes = n' }) new (event.Ready conn) result
      → ReadyShows f r i o conn old new road road' result
  ready_left conn old n' new road road' (Ok u) blocks stay K keeps runs shows kept = λ w net queues p piped lawful is.
      let l : Left (happens w (event.Ready conn)) queues None old new (event.Ready conn) road' =
      left_of w (happens w (event.Ready conn)) net queues None old n' new (event.Ready conn) road road' blocks stay K p lawful.ordered (keeps w conn) (runs w (event.Ready conn) tt)
      (λ made stays. record { reads = K.ready_reads w net made conn lawful.ordered piped stays; recoveries = K.ready_recoveries w net made conn lawful.ordered piped stays }) (shows w net queues p.nodes (λ within. piped) lawful is) kept in
      record { made = l.made; shows = l.shows; events = l.events; places = l.places }
  ready_left conn old n' new road road' (Err why) blocks stay K keeps runs shows kept = λ w net queues p piped lawful is. out_of_memory old new road road' why kept

  pub ready_failed : (conn : ConnId) (old new : Player F I O) (road road' : R) (why : NodesFault) → nodes.ReadyShows f r i o conn old.nodes new.nodes road road' (Err why)
      → ReadyShows f r i o conn old new road road' (Err (of_nodes why))
  ready_failed conn old new road road' why shows = λ w net queues p piped lawful is. caused old new road road' why (shows w net queues p.nodes (λ within. piped) lawful is)

  pub down_left : (conn : ConnId) (old : Player F I O) (n' : Nodes F I O) (new : Player F I O) (road road' : R) (grew : Bool) (result : Result Bool PlayFault) → n'.blocks.items ≡ old.nodes.blocks.items → ClientsStay i o → PipelinesLeave i o → DownKeeps → RunningStays → nodes.DownShows f r i o conn old.nodes n' road road' (Ok grew) → KeepsDown (record old { nodes = n' }) new conn false grew result
      → DownShows f r i o conn false old new road road' result
  down_left conn old n' new road road' grew (Ok told) blocks stay K keeps runs shows kept = λ w net queues p piped lawful is busy tells.
      let d = shows w net queues true p.nodes (λ within. piped) lawful is busy in
      let l : Left (happens w (event.Down conn true)) queues None old new (event.Down conn true) road' =
      left_of w (happens w (event.Down conn true)) net queues None old n' new (event.Down conn true) road road' blocks stay K p lawful.ordered (keeps w conn true) (runs w (event.Down conn true) tt)
      (λ made stays. record { reads = K.down_reads w net made conn true lawful.ordered piped stays; recoveries = K.down_recoveries w net made conn true lawful.ordered piped stays }) d.is_left kept.0 in
      record { is_left = record { made = l.made; shows = l.shows; events = l.events; places = l.places }; grown = kept.1 ∙ d.grown }
  down_left conn old n' new road road' grew (Err why) blocks stay K keeps runs shows kept = λ w net queues p piped lawful is busy tells. out_of_memory old new road road' why kept

  pub down_failed : (conn : ConnId) (old new : Player F I O) (road road' : R) (why : NodesFault) → nodes.DownShows f r i o conn old.nodes new.nodes road road' (Err why)
      → DownShows f r i o conn false old new road road' (Err (of_nodes why))
  down_failed conn old new road road' why shows = λ w net queues p piped lawful is busy tells. caused old new road road' why (shows w net queues true p.nodes (λ within. piped) lawful is busy)

  -- WHERE WRITES ARE REFUSED

  -- a node's files are told where all are
  told_there : FilesTell f → (n : Nodes F I O) (node : ℕ) → refusing.AreTold f n node
  told_there tells n node = λ place book at. tells book.drawer

  -- one was, or none was
  refused_or : (conn : ConnId) (old : Player F I O) (n' : Nodes F I O) (new : Player F I O) (w : World) (net : Net) (queues : Queues) (road road' : R) (refused : Bool) → n'.blocks.items ≡ old.nodes.blocks.items → ClientsStay i o → PipelinesLeave i o → DownKeeps → FaultKeeps → RunningStays → PlayerShows r i o w net queues road old
      → is_pipeline (w.dialled conn.0).upper ≡ true → Ordered w → FilesTell f → refusing.RefusingEnds f r i o w net conn true old.nodes n' road road' (Ok refused) → IsKept (record old { nodes = n' }) new (down_event conn refused)
      → DownLeft r i o w queues conn true refused old new road'
  refused_or conn old n' new w net queues road road' true blocks stay K keeps fails runs p piped ordered tells k kept =
      let e : Event = event.Fault (delivery.Down conn) in
      let l : Left (happens w e) queues None old new e road' =
      left_of w (happens w e) net queues None old n' new e road road' blocks stay K p ordered (fails w conn) (runs w e tt)
      (λ made stays. record { reads = K.fault_reads w net made conn ordered piped stays; recoveries = K.fault_recoveries w net made conn ordered piped stays }) k.is_left kept in
      record { is_left = record { made = l.made; shows = l.shows; events = l.events; places = l.places }; grown = sym (k.grown (told_there tells old.nodes (node_of w conn.0))) }
  refused_or conn old n' new w net queues road road' false blocks stay K keeps fails runs p piped ordered tells k kept =
      let e : Event = event.Down conn true in
      let l : Left (happens w e) queues None old new e road' =
      left_of w (happens w e) net queues None old n' new e road road' blocks stay K p ordered (keeps w conn true) (runs w e tt)
      (λ made stays. record { reads = K.down_reads w net made conn true ordered piped stays; recoveries = K.down_recoveries w net made conn true ordered piped stays }) k.is_left kept in
      record { is_left = record { made = l.made; shows = l.shows; events = l.events; places = l.places }; grown = sym (k.still (told_there tells old.nodes (node_of w conn.0))) }

  pub refused_left : (conn : ConnId) (old : Player F I O) (n' : Nodes F I O) (new : Player F I O) (road road' : R) (refused : Bool) (result : Result Bool PlayFault) → n'.blocks.items ≡ old.nodes.blocks.items → ClientsStay i o → PipelinesLeave i o → DownKeeps → FaultKeeps → RunningStays → refusing.RefusingShows f r i o conn old.nodes n' road road' (Ok refused) → KeepsDown (record old { nodes = n' }) new conn refused refused result
      → DownShows f r i o conn true old new road road' result
  refused_left conn old n' new road road' refused (Ok told) blocks stay K keeps fails runs shows kept = λ w net queues p piped lawful is busy tells.
      subst (λ (b : Bool). DownLeft r i o w queues conn true b old new road') (sym kept.1)
      (refused_or conn old n' new w net queues road road' refused blocks stay K keeps fails runs p piped lawful.ordered (tells refl) (shows w net queues true p.nodes (λ within. piped) lawful is busy) kept.0)
  refused_left conn old n' new road road' refused (Err why) blocks stay K keeps fails runs shows kept = λ w net queues p piped lawful is busy tells. out_of_memory old new road road' why kept

  pub refusing_failed : (conn : ConnId) (old new : Player F I O) (road road' : R) (why : NodesFault) → refusing.RefusingShows f r i o conn old.nodes new.nodes road road' (Err why)
      → DownShows f r i o conn true old new road road' (Err (of_nodes why))
  refusing_failed conn old new road road' why shows = λ w net queues p piped lawful is busy tells. caused old new road road' why (shows w net queues true p.nodes (λ within. piped) lawful is busy)

  pub mirror_left : (conn : ConnId) (old : Player F I O) (n' : Nodes F I O) (new : Player F I O) (road road' : R) (result : Result (Unit {0}) PlayFault) → n'.blocks.items ≡ old.nodes.blocks.items → ClientsStay i o → PipelinesLeave i o → MirrorKeeps → RunningStays → nodes.UpShows f r i o conn old.nodes n' road road' (Ok tt) → Keeps (record old { nodes = n' }) new (event.Up conn) result
      → MirrorShows f r i o conn old new road road' result
  mirror_left conn old n' new road road' (Ok u) blocks stay K keeps runs shows kept = λ w net queues d p lawful is above.
      let l : Left (happens w (event.Up conn)) queues (writer_at (w.dialled conn.0).upper) old new (event.Up conn) road' =
      left_of w (happens w (event.Up conn)) net queues (writer_at (w.dialled conn.0).upper) old n' new (event.Up conn) road road' blocks stay K p lawful.ordered (keeps w conn d above) (runs w (event.Up conn) tt)
      (λ made stays. record { reads = K.mirror_reads w net made conn d lawful.ordered above stays; recoveries = K.mirror_recoveries w net made conn d lawful.ordered above stays }) (shows w net queues d p.nodes lawful is above) kept in
      record { made = l.made; shows = l.shows; events = l.events; places = l.places }
  mirror_left conn old n' new road road' (Err why) blocks stay K keeps runs shows kept = λ w net queues d p lawful is above. out_of_memory old new road road' why kept

  pub mirror_failed : (conn : ConnId) (old new : Player F I O) (road road' : R) (why : NodesFault) → nodes.UpShows f r i o conn old.nodes new.nodes road road' (Err why)
      → MirrorShows f r i o conn old new road road' (Err (of_nodes why))
  mirror_failed conn old new road road' why shows = λ w net queues d p lawful is above. caused old new road road' why (shows w net queues d p.nodes lawful is above)

  begun_so : (conn : ConnId) (old : Player F I O) (n' : Nodes F I O) (w : World) (net : Net) (queues : Queues) (road road' : R) (unanswered : Option NodeId) → TellsRunning w old.running.items → is_running (record old { nodes = n' }) unanswered ≡ false → beginning.BeginEnds f r i o w net conn old.nodes n' road road' (Ok unanswered)
      → NodesLeft r i o w net (happens w (event.Down conn true)) road' n'
  begun_so conn old n' w net queues road road' None tells quiet ends = ends
  begun_so conn old n' w net queues road road' (Some node) tells quiet ends = ends.left true (sym (tells node.0) ∙ quiet)

  pub begin_left : (conn : ConnId) (old : Player F I O) (n' : Nodes F I O) (new : Player F I O) (road road' : R) (unanswered : Option NodeId) (result : Result (Unit {0}) PlayFault) → n'.blocks.items ≡ old.nodes.blocks.items → ClientsStay i o → PipelinesLeave i o → DownKeeps → RunningStays → beginning.BeginShows f r i o conn old.nodes n' road road' (Ok unanswered)
      → Begins (record old { nodes = n' }) new conn unanswered result → BeginShows f r i o conn old new road road' result
  begin_left conn old n' new road road' unanswered (Ok u) blocks stay K keeps runs shows kept = λ w net queues p piped can is idle_is.
      let l : Left (happens w (event.Down conn true)) queues None old new (event.Down conn true) road' =
      left_of w (happens w (event.Down conn true)) net queues None old n' new (event.Down conn true) road road' blocks stay K p (can.lawful true).ordered (keeps w conn true) (runs w (event.Down conn true) tt)
      (λ made stays. record { reads = K.down_reads w net made conn true (can.lawful true).ordered piped stays; recoveries = K.down_recoveries w net made conn true (can.lawful true).ordered piped stays })
      (begun_so conn old n' w net queues road road' unanswered p.running kept.0 (shows w net queues p.nodes (λ within. piped) can.lawful can.fit is idle_is)) kept.1 in
      record { made = l.made; shows = l.shows; events = l.events; places = l.places }
  begin_left conn old n' new road road' unanswered (Err fault.Memory) blocks stay K keeps runs shows kept = λ w net queues p piped can is idle_is. tt
  begin_left conn old n' new road road' unanswered (Err (fault.ShelfFault node)) blocks stay K keeps runs shows kept = absurd kept
  begin_left conn old n' new road road' unanswered (Err fault.RoadFault) blocks stay K keeps runs shows kept = λ w net queues p piped can is idle_is. by w net p.running unanswered kept (shows w net queues p.nodes (λ within. piped) can.lawful can.fit is idle_is)
    where
      rose : (w : World) (node : NodeId) → TellsRunning w old.running.items → runs_in old.running.items node.0 ≡ true → (w.running node.0 ≡ false) ⊎ FaultsIncreased (r.faults road) (r.faults road') → RoadsFailed r road road'
      rose w node tells on (inl off) = absurd (true_false (sym on ∙ (tells node.0 ∙ off)))
      rose w node tells on (inr z) = inr z

      by : (w : World) (net : Net) → TellsRunning w old.running.items → (x : Option NodeId) → is_running (record old { nodes = n' }) x ≡ true → beginning.BeginEnds f r i o w net conn old.nodes n' road road' (Ok x) → RoadsFailed r road road'
      by w net tells None on ends = absurd (true_false (sym on))
      by w net tells (Some node) on ends = rose w node tells on ends.unanswered.cause

  pub begin_failed : (conn : ConnId) (old new : Player F I O) (road road' : R) (why : NodesFault) → beginning.BeginShows f r i o conn old.nodes new.nodes road road' (Err why)
      → BeginShows f r i o conn old new road road' (Err (of_nodes why))
  begin_failed conn old new road road' why shows = λ w net queues p piped can is idle_is. caused old new road road' why (shows w net queues p.nodes (λ within. piped) can.lawful can.fit is idle_is)
