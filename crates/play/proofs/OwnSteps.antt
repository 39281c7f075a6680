-- The own step of a writer, and what it leaves of the nodes and the other clients.
use Rattle.std.proofs.Common.{◌≡◌, ◌≢◌, ◌⊎◌, inl, inr, ℕ, Bool, true, false, List, [], ◌∷◌, ◌++◌, length, slice_get, slice_set, Option, Some, None, IfSome, Result, Ok, Err, refl, sym, ap, ◌∙◌, subst, append_assoc, ◌<◌, ◌+◌, arith}
use Rattle.hd_base.specs.declared.links.LinkIn as link_in
use Rattle.hd_base.specs.declared.links.LinkOut as link_out
use Rattle.hd_base.specs.Faults.{FaultsIncreased}
use Rattle.hd_base.specs.declared.numbers.BlockId.{BlockId}
use Rattle.hd_base.specs.declared.numbers.NodeId.{NodeId}
use Rattle.world.specs.declared.events.Event.{Event}
use Rattle.play_dues.specs.PlayClients.Owned.{Owned}
use Rattle.play_dues.specs.PlayClients.Events.{owned_events}
use Rattle.play_dues.specs.ClientEvents.Events.{own_event}
use Rattle.play.specs.declared.faults.PlayFault.{PlayFault}
use Rattle.play.specs.declared.faults.PlayFault.TheVariants as fault
use Rattle.play.specs.declared.player.Player.{Player}
use Rattle.play.specs.Events.{Keeps}
use Rattle.play.specs.Owning.{question, HasMore, IsDialled, IsOwned, OwnShows}
use Rattle.hd_base.specs.declared.files.Files as files
use Rattle.hd_base.specs.declared.numbers.ConnId.{ConnId}
use Rattle.hd_base.specs.declared.roads.Roads as roads
use Rattle.name_core.specs.declared.desks.Desk as desks
use Rattle.name_core.specs.Offices.{OfficeState}
use Rattle.road_traffic.specs.Showing.{Net}
use Rattle.world.specs.Worlds.{World, put}
use Rattle.world.specs.Events.{run}
use Rattle.play_model.proofs.WorldLaws.StampGivens.{put-there}
use Rattle.node_stops.specs.WorldNets.Nets.{IsEndOf}
use Rattle.play_laws.specs.WorldOrders.Orders.{Ordered}
use Rattle.play_model.specs.declared.dues.Due.TheVariants as due
use Rattle.play_model.specs.Dues.{Queues, is_due, queues_after, queue_left, action_of}
use Rattle.play_dues.specs.PlayClients.Client.{Client}
use Rattle.play_dues.specs.PlayClients.First.{First}
use Rattle.play_dues.specs.PlayClients.Clients.{ClientStands}
use Rattle.play_dues.specs.PlayClients.Events as clients
use Rattle.play_dues.specs.PlayClients.Events.{CanOwn, FirstShows}
use Rattle.play_dues.specs.PlayClients.Others.{KeepsOthers, TakesNothing, OwnStepsKeep}
use Rattle.play_dues.specs.PlayClients.Staying.{ClientsStay}
use Rattle.node_stops.specs.PlayNodes.Nodes.{Nodes}
use Rattle.node_stops.specs.PlayNodes.Frames.{IsKept, DialShows, IsFirst, WriterKeeps, NodesStay, NodesEndsStay, OwnKeeps}
use Rattle.node_stops.specs.PlayNodes.Showing.{runs_in, TellsRunning, NodesShow}
use Rattle.play_dues.specs.ClientEvents.Showing.{OthersStay}
use Rattle.play_dues.specs.PlayReads.Reads.{Reads}
use Rattle.play_dues.specs.PlayReads.Keeping.{KeepsReads}
use Rattle.play_dues.specs.PlayRecoveries.Keeping.{KeepsRecoveries}
use Rattle.play_dues.specs.PlayReaders.Asks.{asks_of}
use Rattle.play_dues.specs.PlayReads.Showing.{ReadsShow}
use Rattle.play_dues.specs.PlayRecoveries.Recoveries.{Recoveries}
use Rattle.play_dues.specs.PlayRecoveries.Places.{recoveries_of}
use Rattle.play_dues.specs.PlayRecoveries.Showing.{RecoveriesShow}
use Rattle.play.specs.Laws.{PipelinesLeave}
use Rattle.play.specs.Showing.{PlayerShows}
use Rattle.play.proofs.OthersLaws.{reads_left, recoveries_left}
use Rattle.play.specs.Running.{is_running}
use Rattle.hd_base.specs.RoadFaults.{RoadsFailed}
use Rattle.play.specs.Events.{PlayerLeft, IsCaused, blocks_of, KeepsPlaces}
use Rattle.play.proofs.HearSteps.{IsReplaced, kept_places, keeps_other, clients_after, still_apart, same_client, client_caused}
use Rattle.play.specs.Faults.{of_client}
use Rattle.play_dues.specs.ClientEvents.ClientFault.{ClientFault}

module _ {F I O : Type 0} (i : link_in.Ghosts I) (o : link_out.Ghosts O) where
  -- memory ran out while what was left was kept
  pub out_of_room : (old new : Player F I O) (block : BlockId) (left : Owned I O) (why : PlayFault) → why ≡ fault.Memory → IsOwned i o old new block left (Err why)
  out_of_room old new block left fault.Memory is = tt
  out_of_room old new block left fault.RoadFault is = cc
  out_of_room old new block left (fault.ShelfFault node) is = cc

  pub owned_so : (old middle asked new : Player F I O) (block : BlockId) (left : Owned I O) (result : Result (Unit {0}) PlayFault) → is_running old left.unreached ≡ false → IsDialled i o old middle block left.first (Ok tt) → HasMore middle asked (question block left.asked) → Keeps asked new (own_event block left.took true) result → IsOwned i o old new block left result
  owned_so old middle asked new block left (Ok u) quiet dialled more kept = record {
    middle = middle;
    dialled = dialled;
    more = record {
      same = kept.same ∙ ap (λ (p : Player F I O). record p { events = new.events }) more.same;
      events = kept.events ∙ (ap (λ (es : List Event). es ++ own_event block left.took true ∷ []) more.events ∙ append_assoc middle.events.items (question block left.asked) (own_event block left.took true ∷ []));
    };
    quiet = quiet;
  }
  owned_so old middle asked new block left (Err why) quiet dialled more kept = out_of_room old new block left why kept

pub same_block : {I O : Type 0} (a b : Client I O) → Some a ≡ Some b → a.block ≡ b.block
same_block {I} {O} a b e = ap (λ (x : Client I O). x.block) (some_is a b e)
  where
    some_is : {A : Type 0} (a b : A) → Some a ≡ Some b → a ≡ b
    some_is a b e = cc

-- ONE MEMBER OF A TABLE

put_other : {A : Type 0} (t : ℕ → A) (k : ℕ) (x : A) (b : ℕ) → b ≢ k → put t k x b ≡ t b
put_other t k x b apart = put-there t k x b apart

queues_other : (w : World) (queues : Queues) (block : BlockId) (b : ℕ) → b ≢ block.0 → queues_after w queues (due.Own block) b ≡ queues b
queues_other w queues block b apart = put_other queues block.0 (queue_left (action_of w block) (queues block.0)) b apart

module _ {F R I O D : Type 0} (f : files.Ghosts F) (r : roads.Ghosts R I O) (i : link_in.Ghosts I) (o : link_out.Ghosts O) (d : desks.Ghosts D) where
  -- What was dialled changes only the nodes.
  record OnlyNodes (mid middle : Player F I O) : Type 0 where
    blocks : middle.nodes.blocks.items ≡ mid.nodes.blocks.items
    reads : middle.reads ≡ mid.reads
    recoveries : middle.recoveries ≡ mid.recoveries
    clients : middle.clients.items ≡ mid.clients.items
    office : middle.office.office ≡ mid.office.office
    events : middle.events.items ≡ mid.events.items
    running : middle.running.items ≡ mid.running.items

  only_nodes : (mid middle : Player F I O) (block : BlockId) (first : Option (First I O)) → IsDialled i o mid middle block first (Ok tt) → OnlyNodes mid middle
  only_nodes mid middle block None h = record { blocks = ap (λ (p : Player F I O). p.nodes.blocks.items) h.0; reads = ap (λ (p : Player F I O). p.reads) h.0; recoveries = ap (λ (p : Player F I O). p.recoveries) h.0; clients = ap (λ (p : Player F I O). p.clients.items) h.0; office = ap (λ (p : Player F I O). p.office.office) h.0; events = ap (λ (p : Player F I O). p.events.items) h.0; running = ap (λ (p : Player F I O). p.running.items) h.0 }
  only_nodes mid middle block (Some first) h = record { blocks = h.sizes.blocks; reads = ap (λ (p : Player F I O). p.reads) h.same; recoveries = ap (λ (p : Player F I O). p.recoveries) h.same; clients = ap (λ (p : Player F I O). p.clients.items) h.same; office = ap (λ (p : Player F I O). p.office.office) h.same; events = ap (λ (p : Player F I O). p.events.items) h.same; running = ap (λ (p : Player F I O). p.running.items) h.same }

  -- what was dialled and kept leaves the places
  own_places : (old mid middle new : Player F I O) (es : List Event) (actor : Option ℕ) → HasMore middle new es → OnlyNodes mid middle → KeepsPlaces actor old mid → KeepsPlaces actor old new
  own_places old mid middle new es actor more same h = record {
    blocks = ap (λ (p : Player F I O). p.nodes.blocks.items) more.same ∙ (same.blocks ∙ h.blocks);
    order = ap (λ (p : Player F I O). blocks_of p.clients.items) more.same ∙ (ap (λ (xs : List (Client I O)). blocks_of xs) same.clients ∙ h.order);
    asks = ap (λ (p : Player F I O). asks_of p.reads.clients.items) more.same ∙ (ap (λ (x : Reads I O). asks_of x.clients.items) same.reads ∙ h.asks);
    recovers = ap (λ (p : Player F I O). recoveries_of p.recoveries.clients.items) more.same ∙ (ap (λ (x : Recoveries I O). recoveries_of x.clients.items) same.recoveries ∙ h.recovers);
    each = λ k c at. h.each k c (sym (ap (λ (p : Player F I O). slice_get p.clients.items k) more.same ∙ ap (λ (xs : List (Client I O)). slice_get xs k) same.clients) ∙ at);
  }

  less_more : (n m : ℕ) → m ≡ n + 1 → n < m
  less_more n m e = omega (arith, e)

  -- the nodes after it
  nodes_after : (w v : World) (net made : Net) (mid middle : Player F I O) (block : BlockId) (next : ConnId) (first : Option (First I O)) → next.0 ≡ w.next_conn → IsDialled i o mid middle block first (Ok tt) → NodesStay f i o → IsKept i o w net v made mid.nodes → WriterKeeps w v block.0
      → IfSome first (FirstShows i o v made block.0 next) → (first ≡ None → v.next_conn ≡ w.next_conn) → IfSome first (λ x. v.next_conn ≡ w.next_conn + 1) → NodesShow i o v made middle.nodes
  nodes_after w v net made mid middle block next None at h stay kept keeps shows none more =
      subst (λ (n : Nodes F I O). NodesShow i o v made n) (sym (ap (λ (p : Player F I O). p.nodes) h.0)) (stay w net v made mid.nodes kept (none refl))
  nodes_after w v net made mid middle block next (Some first) at h stay kept keeps shows none more =
      h.dialled w net v made kept more (dial_shows (sym at) shows)
    where
      dial_shows : w.next_conn ≡ next.0 → FirstShows i o v made block.0 next first → DialShows i o v made block first.node w.next_conn first.end
      dial_shows same x =
          let is_first : IsFirst v block.0 w.next_conn = keeps.dials (less_more w.next_conn v.next_conn more) in
          record {
            end_is = subst (λ (n : ℕ). IsEndOf i o v made n true first.end) (sym same) x.end_is;
            upper = is_first.upper;
            node_is = ap (λ (n : ℕ). (v.dialled n).to.node) same ∙ x.node;
            served = is_first.served;
            idle_is = ap (λ (n : ℕ). v.lowers n) same ∙ x.idle_is;
          }

  -- a player that was dialled and kept its events
  pub own_as : (place : ℕ) (old mid new : Player F I O) (c c' : Client I O) (w : World) (net : Net) (queues : Queues) (road road' : R) (desk desk' : D) (next : ConnId) (left : Owned I O) → d.office desk ≡ Some old.office.office → d.office desk' ≡ Some mid.office.office → mid.nodes ≡ old.nodes → mid.reads ≡ old.reads → mid.recoveries ≡ old.recoveries → mid.running.items ≡ old.running.items
      → mid.clients.items ≡ slice_set old.clients.items place c' → mid.events.items ≡ old.events.items → next.0 ≡ w.next_conn → ClientsStay i o → PipelinesLeave i o → NodesStay f i o → NodesEndsStay i o → OwnStepsKeep → OwnKeeps → slice_get old.clients.items place ≡ Some c
      → clients.OwnShows d r i o next c c' desk desk' road road' (Ok left) → IsOwned i o mid new c.block left (Ok tt) → PlayerShows r i o w net queues road old → Ordered w → is_due w queues (due.Own c.block) ≡ true → CanOwn w c next
      → PlayerLeft r i o w queues (due.Own c.block) old new road'
  own_as place old mid new c c' w net queues road road' desk desk' next left office_old office_mid nodes reads recovers running set events at_next stay K nodes_stay ends_stay steps_keep own_keeps at shows owned p ordered is can =
      let stands : ClientStands d r i o w net c desk road = record { roads_are = p.nodes.roads_are; client_is = (p.clients place c at).shows; office_is = office_old ∙ ap (λ (x : OfficeState). Some x) p.office } in
      let done : clients.OwnDone d r i o w net queues next c c' desk' road road' left = shows w net queues stands (p.clients place c at).queue is can in
      let l : clients.OwnLeft d r i o w net queues next c c' desk' road' left true = done.shows true (reaches_so w mid left.unreached (λ n. ap (λ (xs : List Bool). runs_in xs n) running ∙ p.running n) owned.quiet) in
      let v : World = run w (owned_events c.block left true) in
      let k : KeepsOthers w v c.block.0 × TakesNothing w v = subst (λ (es : List Event). KeepsOthers w (run w es) c.block.0 × TakesNothing w (run w es)) l.events (steps_keep w queues c.block) in
      let n : WriterKeeps w v c.block.0 = subst (λ (es : List Event). WriterKeeps w (run w es) c.block.0) l.events (own_keeps w queues c.block) in
      let kept : IsKept i o w net v l.made mid.nodes = subst (λ (x : Nodes F I O). IsKept i o w net v l.made x) (sym nodes) (record { nodes_are = p.nodes.nodes_are; ordered = ordered; keeps = n.keeps; ends = ends_stay w net v l.made c.block.0 ordered l.shows.others }) in
      let same : OnlyNodes mid owned.middle = only_nodes mid owned.middle c.block left.first owned.dialled in
      let read_same : owned.middle.reads ≡ old.reads = same.reads ∙ reads in
      let recovers_same : owned.middle.recoveries ≡ old.recoveries = same.recoveries ∙ recovers in
      let keeps : KeepsReads i o w net v l.made = subst (λ (es : List Event). OthersStay i o w net (run w es) l.made (w.writers c.block.0).conn → KeepsReads i o w net (run w es) l.made) l.events (K.own_reads w net l.made queues c.block ordered) l.shows.others in
      let keeps_too : KeepsRecoveries i o w net v l.made = subst (λ (es : List Event). OthersStay i o w net (run w es) l.made (w.writers c.block.0).conn → KeepsRecoveries i o w net (run w es) l.made) l.events (K.own_recoveries w net l.made queues c.block ordered) l.shows.others in
      let h : IsReplaced f r i o d old mid place c c' = record { nodes = nodes; reads = reads; recoveries = recovers; clients = set; block = l.shows.block; rule = l.shows.rule } in
      let q : PlayerShows r i o v l.made (queues_after w queues (due.Own c.block)) road' (record owned.middle { events = new.events }) = record {
        nodes = record {
          roads_are = l.shows.stands.roads_are;
          nodes_are = nodes_after w v net l.made mid owned.middle c.block next left.first at_next owned.dialled nodes_stay kept n l.first l.none l.more;
        };
        reads = subst (λ (x : Reads I O). ReadsShow i o v l.made owned.middle.nodes.blocks.items x) (sym read_same)
            (reads_left i o w v net l.made old.nodes.blocks.items owned.middle.nodes.blocks.items old.reads K.reads_stay (same.blocks ∙ ap (λ (x : Nodes F I O). x.blocks.items) nodes) p.reads keeps);
        recoveries = subst (λ (x : Recoveries I O). RecoveriesShow i o v l.made owned.middle.nodes.blocks.items x) (sym recovers_same)
            (recoveries_left i o w v net l.made old.nodes.blocks.items owned.middle.nodes.blocks.items old.recoveries K.recoveries_stay (same.blocks ∙ ap (λ (x : Nodes F I O). x.blocks.items) nodes) p.recoveries keeps_too);
        clients = λ j a at_j. clients_after f r i o d w v net l.made queues (queues_after w queues (due.Own c.block)) place old mid c c' stay (λ a apart. keeps_other f r i o d w v net l.made a c.block.0 ordered apart k.0 (λ e of. k.1 e false) l.shows.others) (queues_other w queues c.block) p.clients p.apart at h
            (record { shows = l.shows.stands.client_is; queue = l.queue ∙ ap (λ (x : BlockId). queues_after w queues (due.Own c.block) x.0) (sym l.shows.block) }) j a (sym (ap (λ (xs : List (Client I O)). slice_get xs j) same.clients) ∙ at_j);
        apart = λ j m a b at_j at_m. still_apart f r i o d old mid place c c' h at p.apart j m a b (sym (ap (λ (xs : List (Client I O)). slice_get xs j) same.clients) ∙ at_j) (sym (ap (λ (xs : List (Client I O)). slice_get xs m) same.clients) ∙ at_m);
        office = same.office ∙ some_same mid.office.office v.office (sym office_mid ∙ l.shows.stands.office_is);
        running = λ m. ap (λ (xs : List Bool). runs_in xs m) (same.running ∙ running) ∙ (p.running m ∙ sym (n.keeps.running m));
        slots = ap (λ (xs : List Bool). length xs) (same.running ∙ running) ∙ (p.slots ∙ sym n.keeps.nodes);
      } in
      record {
        made = l.made;
        shows = subst (λ (es : List Event). PlayerShows r i o (run w es) l.made (queues_after w queues (due.Own c.block)) road' new) (sym l.events) (subst (λ (x : Player F I O). PlayerShows r i o v l.made (queues_after w queues (due.Own c.block)) road' x) (sym owned.more.same) q);
        events = owned.more.events ∙ (ap (λ (es : List Event). es ++ owned_events c.block left true) (same.events ∙ events) ∙ ap (λ (es : List Event). old.events.items ++ es) (sym l.events));
        places = own_places old mid owned.middle new (owned_events c.block left true) (Some c.block.0) owned.more same (kept_places f r i o d old mid place c c' h at);
      }
    where
      some_same : (a b : OfficeState) → Some a ≡ Some b → a ≡ b
      some_same a b e = cc

      -- a dial that wasn't answered was one to a node that doesn't run
      reaches_so : (w : World) (m : Player F I O) (x : Option NodeId) → TellsRunning w m.running.items → is_running m x ≡ false → clients.Reaches w x true
      reaches_so w m None tells quiet = refl
      reaches_so w m (Some node) tells quiet = sym (tells node.0) ∙ quiet

  next_of : (next : ConnId) (n m : ℕ) → next.0 ≡ n → n ≡ m → record { 0 = m } ≡ next
  next_of next n m at count = sym (ap (λ (k : ℕ). record { 0 = k }) (at ∙ count))

  -- what a client's own step shows, for the client at the place
  shows_at : (place : ℕ) (old : Player F I O) (c : Client I O) (next : ConnId) (w : World) (queues : Queues) (End : BlockId → Type 0) → next.0 ≡ w.next_conn → slice_get old.clients.items place ≡ Some c
      → (Ordered w → is_due w queues (due.Own c.block) ≡ true → CanOwn w c next → End c.block) → (a : Client I O) → slice_get old.clients.items place ≡ Some a → Ordered w → is_due w queues (due.Own a.block) ≡ true → CanOwn w a (record { 0 = w.next_conn }) → End a.block
  shows_at place old c next w queues End at_next at does a at_a =
      subst (λ (y : Client I O). Ordered w → is_due w queues (due.Own y.block) ≡ true → CanOwn w y (record { 0 = w.next_conn }) → End y.block) (same_client f r i o d c a (sym at ∙ at_a))
      (λ ordered is can. does ordered is (subst (λ (n : ConnId). CanOwn w c n) (next_of next w.next_conn w.next_conn at_next refl) can))

  pub own_left : (place : ℕ) (old mid new : Player F I O) (c c' : Client I O) (road road' : R) (desk desk' : D) (next : ConnId) (block : BlockId) (left : Owned I O) (result : Result (Unit {0}) PlayFault) → d.office desk ≡ Some old.office.office → d.office desk' ≡ Some mid.office.office → mid.nodes ≡ old.nodes → mid.reads ≡ old.reads → mid.recoveries ≡ old.recoveries → mid.running.items ≡ old.running.items
      → mid.clients.items ≡ slice_set old.clients.items place c' → mid.events.items ≡ old.events.items → next.0 ≡ length old.nodes.connections.items → ClientsStay i o → PipelinesLeave i o → NodesStay f i o → NodesEndsStay i o → OwnStepsKeep → OwnKeeps → slice_get old.clients.items place ≡ Some c
      → block ≡ c.block → clients.OwnShows d r i o next c c' desk desk' road road' (Ok left) → IsOwned i o mid new block left result → OwnShows f r i o place old new road road' result
  own_left place old mid new c c' road road' desk desk' next block left (Ok u) office_old office_mid nodes reads recovers running set events at_next stay K nodes_stay ends_stay steps_keep own_keeps at of shows owned = λ w net queues a p at_a.
      let next_is : next.0 ≡ w.next_conn = at_next ∙ p.nodes.nodes_are.count in
      shows_at place old c next w queues (λ (b : BlockId). PlayerLeft r i o w queues (due.Own b) old new road') next_is at
      (λ ordered is can. own_as place old mid new c c' w net queues road road' desk desk' next left office_old office_mid nodes reads recovers running set events next_is stay K nodes_stay ends_stay steps_keep own_keeps at shows (subst (λ (b : BlockId). IsOwned i o mid new b left (Ok tt)) of owned) p ordered is can) a at_a
  own_left place old mid new c c' road road' desk desk' next block left (Err why) office_old office_mid nodes reads recovers running set events at_next stay K nodes_stay ends_stay steps_keep own_keeps at of shows owned = λ w net queues a p at_a.
      shows_at place old c next w queues (λ (b : BlockId). IsCaused f r old new road road' why) (at_next ∙ p.nodes.nodes_are.count) at
      (λ ordered is can. by w p.running why owned
      (shows w net queues (record { roads_are = p.nodes.roads_are; client_is = (p.clients place c at).shows; office_is = office_old ∙ ap (λ (x : OfficeState). Some x) p.office }) (p.clients place c at).queue is can).cause) a at_a
    where
      true_false : true ≡ false → ⊥
      true_false e = cc

      rose : (w : World) → TellsRunning w old.running.items → (x : Option NodeId) → is_running mid x ≡ true → IfSome x (λ node. (w.running node.0 ≡ false) ⊎ FaultsIncreased (r.faults road) (r.faults road')) → RoadsFailed r road road'
      rose w tells None on cause = absurd (true_false (sym on))
      rose w tells (Some node) on cause = rises cause
        where
          rises : (w.running node.0 ≡ false) ⊎ FaultsIncreased (r.faults road) (r.faults road') → RoadsFailed r road road'
          rises (inl off) = absurd (true_false (sym on ∙ (ap (λ (xs : List Bool). runs_in xs node.0) running ∙ (tells node.0 ∙ off))))
          rises (inr z) = inr z

      by : (w : World) → TellsRunning w old.running.items → (why : PlayFault) → IsOwned i o mid new block left (Err why) → IfSome left.unreached (λ node. (w.running node.0 ≡ false) ⊎ FaultsIncreased (r.faults road) (r.faults road')) → IsCaused f r old new road road' why
      by w tells fault.Memory h cause = tt
      by w tells fault.RoadFault h cause = rose w tells left.unreached h cause
      by w tells (fault.ShelfFault node) h cause = absurd h

  pub own_failed : (place : ℕ) (old new : Player F I O) (c c' : Client I O) (road road' : R) (desk desk' : D) (next : ConnId) (why : ClientFault) → d.office desk ≡ Some old.office.office → next.0 ≡ length old.nodes.connections.items → slice_get old.clients.items place ≡ Some c
      → clients.OwnShows d r i o next c c' desk desk' road road' (Err why) → OwnShows f r i o place old new road road' (Err (of_client why))
  own_failed place old new c c' road road' desk desk' next why office_old at_next at shows = λ w net queues a p at_a.
      shows_at place old c next w queues (λ (b : BlockId). IsCaused f r old new road road' (of_client why)) (at_next ∙ p.nodes.nodes_are.count) at
      (λ ordered is can. client_caused f r i o d old new road road' why
      (shows w net queues (record { roads_are = p.nodes.roads_are; client_is = (p.clients place c at).shows; office_is = office_old ∙ ap (λ (x : OfficeState). Some x) p.office }) (p.clients place c at).queue is can)) a at_a
