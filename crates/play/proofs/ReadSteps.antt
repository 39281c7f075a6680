-- An event of the reads, and what it leaves of the clients and the office.
use Rattle.std.proofs.Common.{◌≡◌, inl, inr, refl, ℕ, true, false, [], ◌∷◌, ◌++◌, slice_get, Option, Some, None, Result, Ok, Err, sym, ap, ◌∙◌, subst}
use Rattle.std.specs.Prelude.{IsSome}
use Rattle.std.proofs.lemmas.Bool.{false≢true}
use Rattle.hd_base.specs.declared.files.Files as files
use Rattle.hd_base.specs.declared.links.LinkIn as link_in
use Rattle.hd_base.specs.declared.links.LinkOut as link_out
use Rattle.hd_base.specs.declared.numbers.ConnId.{ConnId}
use Rattle.hd_base.specs.declared.roads.Roads as roads
use Rattle.road_traffic.specs.Showing.{Net}
use Rattle.world.specs.declared.events.Event.{Event}
use Rattle.world.specs.declared.events.Event.TheVariants as event
use Rattle.world.specs.Parts.{Upper, by_writer, by_reader, by_member, by_primary}
use Rattle.world.specs.Worlds.{World}
use Rattle.world.specs.Events.{happens}
use Rattle.play_laws.specs.WorldOrders.Orders.{Ordered, purpose_of, reading}
use Rattle.play_model.specs.Asks.{asking_node, request_of}
use Rattle.play_model.specs.Dues.{Queues}
use Rattle.play_laws.specs.Nodes.{SameNodes}
use Rattle.play_dues.specs.PlayClients.Staying.{ClientsStay}
use Rattle.node_stops.specs.PlayNodes.Nodes.{Nodes}
use Rattle.node_stops.specs.PlayNodes.Frames.{KeepsWriters}
use Rattle.node_stops.specs.PlayNodes.Places.{KeepsSizes}
use Rattle.node_stops.proofs.PlayNodes.PlaceLaws.{same_some}
use Rattle.play_dues.specs.PlayReaders.ReadClient.{ReadClient}
use Rattle.play_dues.specs.PlayReaders.Frames.{KeepsOthers, TakesNothing, TakesThere}
use Rattle.play_dues.specs.PlayReads.ReadsFault.{ReadsFault}
use Rattle.play_dues.specs.PlayReads.ReadsFault.TheVariants as reads_fault
use Rattle.play_dues.specs.PlayReads.Reads.{Reads}
use Rattle.play_dues.specs.PlayReads.Faults as reads_faults
use Rattle.play_dues.specs.PlayReads.Hearing as hearing
use Rattle.play_dues.specs.PlayReads.Left.{ReadsLeft}
use Rattle.play_dues.specs.PlayReads.Owning as owning
use Rattle.play_dues.specs.PlayReaders.Asks.{asks_of}
use Rattle.play_dues.specs.PlayReads.Serving as serving
use Rattle.play_dues.specs.PlayRecoveries.Keeping.{RecoveringEndsStay, KeepsRecoveries}
use Rattle.play_dues.specs.PlayRecoveries.Places.{recoveries_of}
use Rattle.play_dues.specs.PlayReads.Showing.{Stand}
use Rattle.play.specs.declared.faults.PlayFault.{PlayFault}
use Rattle.play.specs.declared.player.Player.{Player}
use Rattle.play.specs.Events.{FilesTell, IsKept, Keeps, IsCaused, writer_at, blocks_of, KeepsPlaces}
use Rattle.play.specs.Faults.{of_reads}
use Rattle.play.specs.Laws.{Laws, ReadsLeave}
use Rattle.play.specs.Reading.{AskShows, ReaderShows, TakeShows, SendShows}
use Rattle.play.specs.Showing.{PlayerShows, PlayerStands}
use Rattle.play.proofs.NodeSteps.{writing_of, clients_left, out_of_memory}
use Rattle.play.proofs.OthersLaws.{recoveries_left}

-- WRITERS

reader_writer : (u : Upper) (line b : ℕ) → u ≡ by_reader line → u ≡ by_writer b → ⊥
reader_writer u line b reads writes = cc

keeps_asked : (w v : World) (line : ℕ) → KeepsOthers w v line → TakesNothing w v → KeepsWriters w v
keeps_asked w v line k takes = record { office = k.office; writers = k.writers; said = k.said; over = λ b c by. takes c false }

keeps_heard : (w v : World) (conn line : ℕ) → (w.dialled conn).upper ≡ by_reader line → KeepsOthers w v line → TakesThere w v conn → KeepsWriters w v
keeps_heard w v conn line upper k takes = record {
  office = k.office;
  writers = k.writers;
  said = k.said;
  over = λ b c by. takes c false (λ same. absurd (reader_writer (w.dialled c).upper line b (subst (λ (x : ℕ). (w.dialled x).upper ≡ by_reader line) same upper) by));
}

-- who dialled a connection of a read
pub reader_above : (u : Upper) → purpose_of u ≡ reading → (line : ℕ) × (u ≡ by_reader line)
reader_above (by_writer b) is = cc
reader_above (by_member d) is = cc
reader_above (by_reader line) is = (line, refl)
reader_above (by_primary n place) is = cc

module _ {F R I O : Type 0} (f : files.Ghosts F) (r : roads.Ghosts R I O) (i : link_in.Ghosts I) (o : link_out.Ghosts O) where
  -- reads and nodes stand on the roads
  pub reads_stand : (road : R) (p : Player F I O) → PlayerStands r i o road p → Stand r i o road p.nodes p.reads
  reads_stand road p s = record { w = s.w; net = s.net; stands = record { nodes = s.shows.nodes; reads_are = s.shows.reads } }

  -- FAULTS

  caused : (old new : Player F I O) (road road' : R) (why : ReadsFault) → FilesTell f → reads_faults.IsCaused f r old.nodes new.nodes road road' why → IsCaused f r old new road road' (of_reads why)
  caused old new road road' reads_fault.LinkFailed tell h = inl h
  caused old new road road' reads_fault.RoadsFailed tell h = inr h
  caused old new road road' (reads_fault.FilesFailed node) tell h = h
  caused old new road road' (reads_fault.BytesMissing node) tell h = absurd (false≢true (subst IsSome h.untold (tell h.book.drawer)))
  caused old new road road' reads_fault.Memory tell h = tt

  -- WHAT IS LEFT

  -- What is left of a player by an event of the reads.
  record Left (v : World) (queues : Queues) (actor : Option ℕ) (old new : Player F I O) (e : Event) (road : R) : Type 0 where
    made : Net
    shows : PlayerShows r i o v made queues road new
    events : new.events.items ≡ old.events.items ++ e ∷ []
    places : KeepsPlaces actor old new

  left_of : (w v : World) (net : Net) (queues : Queues) (actor : Option ℕ) (old new : Player F I O) (n' : Nodes F I O) (reads' : Reads I O) (e : Event) (road road' : R) → ClientsStay i o → ReadsLeave i o → PlayerShows r i o w net queues road old → Ordered w → KeepsWriters w v → SameNodes w v → ((made : Net) → RecoveringEndsStay i o w net v made → KeepsRecoveries i o w net v made) → n'.blocks.items ≡ old.nodes.blocks.items
      → ReadsLeft r i o w net v road' n' old.reads reads' → IsKept (record old { nodes = n'; reads = reads' }) new e → Left v queues actor old new e road'
  left_of w v net queues actor old new n' reads' e road road' stay Q p ordered k runs keeps blocks left kept = record {
    made = left.made;
    shows = subst (λ (x : Player F I O). PlayerShows r i o v left.made queues road' x) (sym kept.same) (record {
      nodes = left.stands.nodes;
      reads = left.stands.reads_are;
      recoveries = recoveries_left i o w v net left.made old.nodes.blocks.items n'.blocks.items old.recoveries Q.stay blocks p.recoveries (keeps left.made left.primaries);
      clients = clients_left f r i o w v net left.made queues old stay p.clients ordered (writing_of w v k) left.writers;
      apart = p.apart;
      office = p.office ∙ sym k.office;
      running = λ n. p.running n ∙ sym (runs.running n);
      slots = p.slots ∙ sym runs.nodes;
    });
    events = kept.events;
    places = record {
      blocks = ap (λ (x : Player F I O). x.nodes.blocks.items) kept.same ∙ blocks;
      order = ap (λ (x : Player F I O). blocks_of x.clients.items) kept.same;
      asks = ap (λ (x : Player F I O). asks_of x.reads.clients.items) kept.same ∙ left.asks;
      recovers = ap (λ (x : Player F I O). recoveries_of x.recoveries.clients.items) kept.same;
      each = λ m c at. record { was = c; at = sym (ap (λ (x : Player F I O). slice_get x.clients.items m) kept.same) ∙ at; block = refl; rule = refl; same = λ other. refl };
    };
  }

  module _ (L : Laws) (stay : ClientsStay i o) (Q : ReadsLeave i o) where
    -- A READER ASKS

    pub ask_left : (place : ℕ) (old new : Player F I O) (n' : Nodes F I O) (reads' : Reads I O) (a : ReadClient I O) (road road' : R) (result : Result (Unit {0}) PlayFault) → slice_get old.reads.clients.items place ≡ Some a → KeepsSizes old.nodes n' → owning.OwnShows f r i o place old.nodes n' old.reads reads' road road' (Ok tt)
        → Keeps (record old { nodes = n'; reads = reads' }) new (asking_node a.ask true) result → AskShows f r i o place old new road road' result
    ask_left place old new n' reads' a road road' (Ok u) at sizes shows kept = λ w net queues c p tell at_c lawful can.
        let v : World = happens w (asking_node c.ask true) in
        let k = L.asking_others w c.ask.reader c.ask.node (request_of c.ask) true in
        let kept' : IsKept (record old { nodes = n'; reads = reads' }) new (asking_node c.ask true) = subst (λ (x : ReadClient I O). IsKept (record old { nodes = n'; reads = reads' }) new (asking_node x.ask true)) (same_some a c (sym at ∙ at_c)) kept in
        let l : Left v queues None old new (asking_node c.ask true) road' =
        left_of w v net queues None old new n' reads' (asking_node c.ask true) road road' stay Q p lawful.ordered (keeps_asked w v c.ask.reader k.0 k.1) (L.running w (asking_node c.ask true) tt) (λ made ends. Q.asking w net made c.ask lawful.ordered ends) sizes.blocks
        (shows w net c (record { nodes = p.nodes; reads_are = p.reads }) lawful at_c can) kept' in
        record { made = l.made; shows = l.shows; events = l.events; places = l.places }
    ask_left place old new n' reads' a road road' (Err why) at sizes shows kept = λ w net queues c p tell at_c lawful can. out_of_memory f r i o old new road road' why kept

    pub ask_failed : (place : ℕ) (old new : Player F I O) (road road' : R) (why : ReadsFault) → owning.OwnShows f r i o place old.nodes new.nodes old.reads new.reads road road' (Err why)
        → AskShows f r i o place old new road road' (Err (of_reads why))
    ask_failed place old new road road' why shows = λ w net queues c p tell at_c lawful can. caused old new road road' why tell (shows w net c (record { nodes = p.nodes; reads_are = p.reads }) lawful at_c can)

    -- A READER HEARS

    pub hear_left : (conn : ConnId) (old new : Player F I O) (reads' : Reads I O) (road road' : R) (result : Result (Unit {0}) PlayFault) → hearing.HearShows f r i o conn old.nodes old.reads reads' road road' (Ok tt)
        → Keeps (record old { reads = reads' }) new (event.Up conn) result → ReaderShows f r i o conn old new road road' result
    hear_left conn old new reads' road road' (Ok u) shows kept = λ w net queues p tell of lawful is.
        let v : World = happens w (event.Up conn) in
        let line = reader_above (w.dialled conn.0).upper of in
        let k = L.hearing_others w conn line.0 line.1 in
        let l : Left v queues None old new (event.Up conn) road' =
        left_of w v net queues None old new old.nodes reads' (event.Up conn) road road' stay Q p lawful.ordered (keeps_heard w v conn.0 line.0 line.1 k.0 k.1) (L.running w (event.Up conn) tt) (λ made ends. Q.reading w net made conn lawful.ordered of ends) refl
        (shows w net queues (record { nodes = p.nodes; reads_are = p.reads }) lawful is of) kept in
        record { made = l.made; shows = l.shows; events = l.events; places = subst (λ (x : Option ℕ). KeepsPlaces x old new) (sym (ap writer_at line.1)) l.places }
    hear_left conn old new reads' road road' (Err why) shows kept = λ w net queues p tell of lawful is. out_of_memory f r i o old new road road' why kept

    pub hear_failed : (conn : ConnId) (old new : Player F I O) (road road' : R) (why : ReadsFault) → new.nodes ≡ old.nodes → hearing.HearShows f r i o conn old.nodes old.reads new.reads road road' (Err why)
        → ReaderShows f r i o conn old new road road' (Err (of_reads why))
    hear_failed conn old new road road' why same shows = λ w net queues p tell of lawful is.
        caused old new road road' why tell (subst (λ (n : Nodes F I O). reads_faults.IsCaused f r old.nodes n road road' why) (sym same) (shows w net queues (record { nodes = p.nodes; reads_are = p.reads }) lawful is of))

    -- A LOWER END TAKES

    pub take_left : (conn : ConnId) (old new : Player F I O) (n' : Nodes F I O) (reads' : Reads I O) (road road' : R) (result : Result (Unit {0}) PlayFault) → KeepsSizes old.nodes n' → serving.DownShows f r i o conn old.nodes n' old.reads reads' road road' (Ok tt)
        → Keeps (record old { nodes = n'; reads = reads' }) new (event.Down conn true) result → TakeShows f r i o conn old new road road' result
    take_left conn old new n' reads' road road' (Ok u) sizes shows kept = λ w net queues p tell of can is.
        let v : World = happens w (event.Down conn true) in
        let l : Left v queues None old new (event.Down conn true) road' =
        left_of w v net queues None old new n' reads' (event.Down conn true) road road' stay Q p can.order.before (L.down_keeps w conn true) (L.running w (event.Down conn true) tt) (λ made ends. Q.serving w net made conn true can.order.before of ends) sizes.blocks
        (shows w net queues (record { nodes = p.nodes; reads_are = p.reads }) can.order can.lawful can.among is of) kept in
        record { made = l.made; shows = l.shows; events = l.events; places = l.places }
    take_left conn old new n' reads' road road' (Err why) sizes shows kept = λ w net queues p tell of can is. out_of_memory f r i o old new road road' why kept

    pub take_failed : (conn : ConnId) (old new : Player F I O) (road road' : R) (why : ReadsFault) → serving.DownShows f r i o conn old.nodes new.nodes old.reads new.reads road road' (Err why)
        → TakeShows f r i o conn old new road road' (Err (of_reads why))
    take_failed conn old new road road' why shows = λ w net queues p tell of can is. caused old new road road' why tell (shows w net queues (record { nodes = p.nodes; reads_are = p.reads }) can.order can.lawful can.among is of)

    -- IT SENDS

    pub send_left : (conn : ConnId) (old new : Player F I O) (n' : Nodes F I O) (reads' : Reads I O) (road road' : R) (result : Result (Unit {0}) PlayFault) → KeepsSizes old.nodes n' → serving.ReadyShows f r i o conn old.nodes n' old.reads reads' road road' (Ok tt)
        → Keeps (record old { nodes = n'; reads = reads' }) new (event.Ready conn) result → SendShows f r i o conn old new road road' result
    send_left conn old new n' reads' road road' (Ok u) sizes shows kept = λ w net queues p tell of order is.
        let v : World = happens w (event.Ready conn) in
        let l : Left v queues None old new (event.Ready conn) road' =
        left_of w v net queues None old new n' reads' (event.Ready conn) road road' stay Q p order.before (L.ready_keeps w conn) (L.running w (event.Ready conn) tt) (λ made ends. Q.sending w net made conn order.before of ends) sizes.blocks
        (shows w net queues (record { nodes = p.nodes; reads_are = p.reads }) order (λ place book at. tell book.drawer) is of) kept in
        record { made = l.made; shows = l.shows; events = l.events; places = l.places }
    send_left conn old new n' reads' road road' (Err why) sizes shows kept = λ w net queues p tell of order is. out_of_memory f r i o old new road road' why kept

    pub send_failed : (conn : ConnId) (old new : Player F I O) (road road' : R) (why : ReadsFault) → serving.ReadyShows f r i o conn old.nodes new.nodes old.reads new.reads road road' (Err why)
        → SendShows f r i o conn old new road road' (Err (of_reads why))
    send_failed conn old new road road' why shows = λ w net queues p tell of order is. caused old new road road' why tell (shows w net queues (record { nodes = p.nodes; reads_are = p.reads }) order (λ place book at. tell book.drawer) is of)
