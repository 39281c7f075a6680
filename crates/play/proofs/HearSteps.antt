-- What a writer hears, and what it leaves of the nodes and the other clients.
use Rattle.std.proofs.Common.{length, ◌≡◌, ◌≢◌, inl, inr, ℕ, zero, suc, Bool, true, false, List, [], ◌∷◌, ◌++◌, slice_get, slice_set, Option, Some, None, IfSome, Result, Ok, Err, refl, sym, ap, ◌∙◌, subst}
use Rattle.hd_base.specs.declared.files.Files as files
use Rattle.hd_base.specs.declared.links.LinkIn as link_in
use Rattle.hd_base.specs.declared.links.LinkOut as link_out
use Rattle.std.proofs.lemmas.Option.{same_Some}
use Rattle.hd_base.specs.declared.numbers.BlockId.{BlockId}
use Rattle.hd_base.specs.declared.numbers.ConnId.{ConnId}
use Rattle.hd_base.specs.declared.roads.Roads as roads
use Rattle.name_core.specs.declared.desks.Desk as desks
use Rattle.name_core.specs.Offices.{OfficeState}
use Rattle.play_dues.specs.PipeRecovery.Link.{Link}
use Rattle.play_dues.specs.PipeRecovery.Dialling.{LinkIsKnown}
use Rattle.road_traffic.specs.Showing.{Net, RoadsShow}
use Rattle.world.specs.declared.events.Event.{Event}
use Rattle.world.specs.declared.events.Event.TheVariants as event
use Rattle.world.specs.Parts.{by_writer}
use Rattle.world.specs.Worlds.{World}
use Rattle.world.specs.Events.{happens}
use Rattle.node_stops.specs.WorldNets.Ends.{IsElsewhere}
use Rattle.node_stops.specs.WorldNets.Nets.{is_over}
use Rattle.play_laws.specs.WorldOrders.Orders.{Ordered}
use Rattle.play_model.specs.declared.dues.Due.TheVariants as due
use Rattle.play_model.specs.Dues.{Queues, is_due}
use Rattle.play_dues.specs.ClientEvents.ClientFault.{ClientFault}
use Rattle.play_dues.specs.ClientEvents.ClientFault.TheVariants as client_fault
use Rattle.play_dues.specs.ClientEvents.Pipe.{Pipe}
use Rattle.play_dues.specs.ClientEvents.Pipe.TheVariants as pipe
use Rattle.play_dues.specs.ClientEvents.Showing.{LinkShows, PipeShows, PipeIsKnown, OthersStay}
use Rattle.play_dues.specs.PlayClients.Client.{Client}
use Rattle.play_dues.specs.PlayClients.Clients.{ClientStands}
use Rattle.play_dues.specs.PlayClients.Events as clients
use Rattle.play_dues.specs.PlayClients.Others.{KeepsOthers, TakesThere, HearingKeeps}
use Rattle.play_dues.specs.PlayClients.Staying.{KeepsClient, ClientsStay}
use Rattle.node_stops.specs.PlayNodes.Nodes.{Nodes}
use Rattle.node_stops.specs.PlayNodes.Showing.{runs_in, NodesShow}
use Rattle.node_stops.specs.PlayNodes.Frames.{HearKeeps, HeardKeeps, NodesStay, NodesEndsStay}
use Rattle.node_stops.proofs.PlayNodes.MemberNodes.{known}
use Rattle.node_stops.proofs.PlayNodes.Tables.{SetOr, set_or}
use Rattle.play.specs.declared.faults.PlayFault.{PlayFault}
use Rattle.play.specs.declared.player.Player.{Player}
use Rattle.play_dues.specs.PlayReads.Reads.{Reads}
use Rattle.play_dues.specs.PlayReaders.Asks.{asks_of}
use Rattle.play_dues.specs.PlayReads.Showing.{ReadsShow}
use Rattle.play_dues.specs.PlayRecoveries.Recoveries.{Recoveries}
use Rattle.play_dues.specs.PlayRecoveries.Places.{recoveries_of}
use Rattle.play_dues.specs.PlayRecoveries.Showing.{RecoveriesShow}
use Rattle.play.specs.Faults.{of_client}
use Rattle.play.specs.Laws.{PipelinesLeave}
use Rattle.play.specs.Showing.{IsClient, AreApart, PlayerShows, PlayerStands}
use Rattle.play.specs.Events.{IsKept, Keeps, IsCaused, writer_at, StaysAt, blocks_of, KeepsPlaces, PlayerLeft, HeardShows}
use Rattle.play.proofs.NodeSteps.{dialled_there, out_of_memory}
use Rattle.play.proofs.OthersLaws.{reads_left, recoveries_left}

writer_same : (a b : ℕ) → by_writer a ≡ by_writer b → a ≡ b
writer_same a b e = cc

-- another client of the same block leaves the blocks
set_blocks : {I O : Type 0} (xs : List (Client I O)) (k : ℕ) (c c' : Client I O) → slice_get xs k ≡ Some c → c'.block ≡ c.block → blocks_of (slice_set xs k c') ≡ blocks_of xs
set_blocks [] k c c' at e = refl
set_blocks {I} {O} (x ∷ xs) zero c c' at e = ap (λ (b : BlockId). b ∷ blocks_of xs) (e ∙ sym (ap (λ (y : Client I O). y.block) (same_Some x c at)))
set_blocks (x ∷ xs) (suc k) c c' at e = ap (λ (bs : List BlockId). x.block ∷ bs) (set_blocks xs k c c' at e)

module _ {R I O : Type 0} (r : roads.Ghosts R I O) (i : link_in.Ghosts I) (o : link_out.Ghosts O) where
  -- THE ROADS KNOW A CLIENT'S CONNECTION

  link_known : (w : World) (net : Net) (road : R) (n : Option ℕ) (link : Option (Link I O)) → RoadsShow r net road → LinkShows i o w net n link → LinkIsKnown (r.plain road) link
  link_known w net road n None shows h = tt
  link_known w net road n (Some l) shows h = known r i o road net (r.plain road) l.end.id.0 l.end.id.0 shows refl h.end_is.within refl

  pipe_known : (w : World) (net : Net) (road : R) (n : Option ℕ) (p : Pipe I O) → RoadsShow r net road → PipeShows i o w net n p → PipeIsKnown (r.plain road) p
  pipe_known w net road n pipe.Closed shows h = tt
  pipe_known w net road n (pipe.SettingUp setup) shows h = link_known w net road n setup.link shows h
  pipe_known w net road n (pipe.Streaming end incoming) shows h = known r i o road net (r.plain road) end.id.0 end.id.0 shows refl h.end_is.within refl

  pub client_known : {F : Type 0} (road : R) (p : Player F I O) (place : ℕ) (c : Client I O) → PlayerStands r i o road p → slice_get p.clients.items place ≡ Some c → PipeIsKnown (r.plain road) c.pipe
  client_known road p place c s at = pipe_known s.w s.net road (s.w.writers c.block.0).conn c.pipe s.shows.nodes.roads_are.shows (s.shows.clients place c at).shows.pipe_is

module _ {F R I O D : Type 0} (f : files.Ghosts F) (r : roads.Ghosts R I O) (i : link_in.Ghosts I) (o : link_out.Ghosts O) (d : desks.Ghosts D) where
  -- the connection of a writer was dialled by it
  dialled_by : (w : World) → Ordered w → (b c : ℕ) → (w.writers b).conn ≡ Some c → (w.dialled c).upper ≡ by_writer b
  dialled_by w ordered b c is = dialled_there w.dialled w.up_marks b c (w.writers b) (w.writers b).conn is (ordered.writers_are b)

  -- the connections of two writers are two
  apart_conns : (w : World) → Ordered w → (a b c e : ℕ) → a ≢ b → (w.dialled c).upper ≡ by_writer b → (w.writers a).conn ≡ Some e → c ≡ e → ⊥
  apart_conns w ordered a b c e apart upper is same = apart (writer_same a b (sym (dialled_by w ordered a e is) ∙ subst (λ (x : ℕ). (w.dialled x).upper ≡ by_writer b) same upper))

  elsewhere : (w : World) → Ordered w → (a b e : ℕ) → a ≢ b → (w.writers a).conn ≡ Some e → IfSome (w.writers b).conn (λ c. IsElsewhere c false e false)
  elsewhere w ordered a b e apart is = each (w.writers b).conn refl
    where
      each : (n : Option ℕ) → (w.writers b).conn ≡ n → IfSome n (λ c. IsElsewhere c false e false)
      each None of = tt
      each (Some c) of = λ same. absurd (apart_conns w ordered a b c e apart (dialled_by w ordered b c of) is same)

  pub keeps_other : (w v : World) (net made : Net) (a b : ℕ) → Ordered w → a ≢ b → KeepsOthers w v b → ((c : ℕ) → (w.writers a).conn ≡ Some c → is_over v c false ≡ is_over w c false) → OthersStay i o w net v made (w.writers b).conn → KeepsClient i o w net v made a
  keeps_other w v net made a b ordered apart k over others = record {
    writer = k.writers a apart;
    said = k.said a apart;
    over = over;
    ends = λ c e is h. others c false e (elsewhere w ordered a b c apart is) h;
  }

  -- A client stands at the place of another one, for the same block.
  pub record IsReplaced (old mid : Player F I O) (place : ℕ) (c c' : Client I O) : Type 0 where
    pub nodes : mid.nodes ≡ old.nodes
    pub reads : mid.reads ≡ old.reads
    pub recoveries : mid.recoveries ≡ old.recoveries
    pub clients : mid.clients.items ≡ slice_set old.clients.items place c'
    pub block : c'.block ≡ c.block
    pub rule : c'.rule ≡ c.rule

  -- the client that stood there before, of the same block
  record WasThere (old : Player F I O) (k : ℕ) (a : Client I O) : Type 0 where
    was : Client I O
    at : slice_get old.clients.items k ≡ Some was
    same : was.block.0 ≡ a.block.0

  was_there : (old mid : Player F I O) (place : ℕ) (c c' : Client I O) → IsReplaced old mid place c c' → slice_get old.clients.items place ≡ Some c → (k : ℕ) (a : Client I O) → slice_get mid.clients.items k ≡ Some a → WasThere old k a
  was_there old mid place c c' h at k a is = by (set_or old.clients.items place c' k a (sym (ap (λ (xs : List (Client I O)). slice_get xs k) h.clients) ∙ is))
    where
      by : SetOr old.clients.items place c' k a → WasThere old k a
      by (inl x) = record { was = c; at = ap (λ (n : ℕ). slice_get old.clients.items n) x.0 ∙ at; same = sym (ap (λ (y : Client I O). y.block.0) x.1 ∙ ap (λ (q : _). q.0) h.block) }
      by (inr x) = record { was = a; at = x.1; same = refl }

  pub still_apart : (old mid : Player F I O) (place : ℕ) (c c' : Client I O) → IsReplaced old mid place c c' → slice_get old.clients.items place ≡ Some c → AreApart old → AreApart mid
  still_apart old mid place c c' h at apart j k a b at_j at_k same =
      let x : WasThere old j a = was_there old mid place c c' h at j a at_j in
      let y : WasThere old k b = was_there old mid place c c' h at k b at_k in
      apart j k x.was y.was x.at y.at (x.same ∙ (same ∙ sym y.same))

  -- the clients after an event of the one at a place
  pub clients_after : (w v : World) (net made : Net) (queues queues' : Queues) (place : ℕ) (old mid : Player F I O) (c c' : Client I O) → ClientsStay i o → ((a : ℕ) → a ≢ c.block.0 → KeepsClient i o w net v made a) → ((b : ℕ) → b ≢ c.block.0 → queues' b ≡ queues b)
      → ((k : ℕ) (a : Client I O) → slice_get old.clients.items k ≡ Some a → IsClient i o w net queues a) → AreApart old → slice_get old.clients.items place ≡ Some c → IsReplaced old mid place c c' → IsClient i o v made queues' c'
      → (k : ℕ) (a : Client I O) → slice_get mid.clients.items k ≡ Some a → IsClient i o v made queues' a
  clients_after w v net made queues queues' place old mid c c' stay others queues_stay were apart at h here k a is =
      by (set_or old.clients.items place c' k a (sym (ap (λ (xs : List (Client I O)). slice_get xs k) h.clients) ∙ is))
    where
      by : SetOr old.clients.items place c' k a → IsClient i o v made queues' a
      by (inl x) = subst (λ (y : Client I O). IsClient i o v made queues' y) (sym x.1) here
      by (inr x) =
          let was : IsClient i o w net queues a = were k a x.1 in
          let blocks : a.block.0 ≢ c.block.0 = λ same. x.0 (apart k place a c x.1 at same) in
          record {
            shows = stay a w net v made was.shows (others a.block.0 blocks);
            queue = was.queue ∙ sym (queues_stay a.block.0 blocks);
          }

  -- the client that stood there before, the same one unless it is the one that acted
  stays_at : (old mid : Player F I O) (place : ℕ) (c c' : Client I O) → IsReplaced old mid place c c' → slice_get old.clients.items place ≡ Some c → (k : ℕ) (a : Client I O) → slice_get mid.clients.items k ≡ Some a → StaysAt old.clients.items (Some c.block.0) k a
  stays_at old mid place c c' h at k a is = by (set_or old.clients.items place c' k a (sym (ap (λ (xs : List (Client I O)). slice_get xs k) h.clients) ∙ is))
    where
      by : SetOr old.clients.items place c' k a → StaysAt old.clients.items (Some c.block.0) k a
      by (inl x) = record { was = c; at = ap (λ (n : ℕ). slice_get old.clients.items n) x.0 ∙ at; block = ap (λ (y : Client I O). y.block) x.1 ∙ h.block; rule = ap (λ (y : Client I O). y.rule) x.1 ∙ h.rule; same = λ other. absurd (other refl) }
      by (inr x) = record { was = a; at = x.1; block = refl; rule = refl; same = λ other. refl }

  -- what was kept leaves the places
  same_places : (actor : Option ℕ) (old mid new : Player F I O) (e : Event) → IsKept mid new e → KeepsPlaces actor old mid → KeepsPlaces actor old new
  same_places actor old mid new e kept h = record {
    blocks = ap (λ (p : Player F I O). p.nodes.blocks.items) kept.same ∙ h.blocks;
    order = ap (λ (p : Player F I O). blocks_of p.clients.items) kept.same ∙ h.order;
    asks = ap (λ (p : Player F I O). asks_of p.reads.clients.items) kept.same ∙ h.asks;
    recovers = ap (λ (p : Player F I O). recoveries_of p.recoveries.clients.items) kept.same ∙ h.recovers;
    each = λ k c at. h.each k c (sym (ap (λ (p : Player F I O). slice_get p.clients.items k) kept.same) ∙ at);
  }

  pub kept_places : (old mid : Player F I O) (place : ℕ) (c c' : Client I O) → IsReplaced old mid place c c' → slice_get old.clients.items place ≡ Some c → KeepsPlaces (Some c.block.0) old mid
  kept_places old mid place c c' h at = record {
    blocks = ap (λ (n : Nodes F I O). n.blocks.items) h.nodes;
    order = ap (λ (xs : List (Client I O)). blocks_of xs) h.clients ∙ set_blocks old.clients.items place c c' at h.block;
    asks = ap (λ (x : Reads I O). asks_of x.clients.items) h.reads;
    recovers = ap (λ (x : Recoveries I O). recoveries_of x.clients.items) h.recoveries;
    each = stays_at old mid place c c' h at;
  }

  pub heard_shows : (conn : ConnId) (place : ℕ) (old mid : Player F I O) (c c' : Client I O) (w : World) (net : Net) (queues : Queues) (road road' : R) (desk : D) → d.office desk ≡ Some mid.office.office
      → ClientsStay i o → PipelinesLeave i o → NodesStay f i o → NodesEndsStay i o → HearingKeeps → HeardKeeps → PlayerShows r i o w net queues road old → mid.running.items ≡ old.running.items → slice_get old.clients.items place ≡ Some c → IsReplaced old mid place c c' → Ordered w → (w.dialled conn.0).upper ≡ by_writer c.block.0
      → (left : clients.HearLeft d r i o w net (happens w (event.Up conn)) c c' desk road') → PlayerShows r i o (happens w (event.Up conn)) left.made queues road' mid
  heard_shows conn place old mid c c' w net queues road road' desk office_at stay K nodes_stay ends_stay hearing heard p running at h ordered upper left =
      let v : World = happens w (event.Up conn) in
      let k : KeepsOthers w v c.block.0 × TakesThere w v conn.0 = hearing w conn c.block.0 upper in
      let n : HearKeeps w v = heard w conn c.block.0 upper in
      record {
        nodes = record {
          roads_are = left.left.stands.roads_are;
          nodes_are = subst (λ (x : Nodes F I O). NodesShow i o v left.made x) (sym h.nodes) (nodes_stay w net v left.made old.nodes (record { nodes_are = p.nodes.nodes_are; ordered = ordered; keeps = n.keeps; ends = ends_stay w net v left.made c.block.0 ordered left.left.others }) n.conns);
        };
        reads = subst (λ (x : Reads I O). ReadsShow i o v left.made mid.nodes.blocks.items x) (sym h.reads)
            (reads_left i o w v net left.made old.nodes.blocks.items mid.nodes.blocks.items old.reads K.reads_stay (ap (λ (x : Nodes F I O). x.blocks.items) h.nodes) p.reads (K.heard_reads w net left.made conn c.block.0 ordered upper left.left.others));
        recoveries = subst (λ (x : Recoveries I O). RecoveriesShow i o v left.made mid.nodes.blocks.items x) (sym h.recoveries)
            (recoveries_left i o w v net left.made old.nodes.blocks.items mid.nodes.blocks.items old.recoveries K.recoveries_stay (ap (λ (x : Nodes F I O). x.blocks.items) h.nodes) p.recoveries (K.heard_recoveries w net left.made conn c.block.0 ordered upper left.left.others));
        clients = clients_after w v net left.made queues queues place old mid c c' stay (λ a apart. keeps_other w v net left.made a c.block.0 ordered apart k.0 (λ e is. k.1 e (λ same. apart_conns w ordered a c.block.0 conn.0 e apart upper is (sym same))) left.left.others) (λ b z. refl) p.clients p.apart at h (record {
          shows = left.left.stands.client_is;
          queue = left.queue ∙ ((p.clients place c at).queue ∙ ap (λ (q : _). queues q.0) (sym h.block));
        });
        apart = still_apart old mid place c c' h at p.apart;
        office = some_same mid.office.office v.office (sym office_at ∙ left.left.stands.office_is);
        running = λ m. ap (λ (xs : List Bool). runs_in xs m) running ∙ (p.running m ∙ sym (n.keeps.running m));
        slots = ap (λ (xs : List Bool). length xs) running ∙ (p.slots ∙ sym n.keeps.nodes);
      }
    where
      some_same : (a b : OfficeState) → Some a ≡ Some b → a ≡ b
      some_same a b e = cc

  pub client_caused : (old new : Player F I O) (road road' : R) (why : ClientFault) → clients.IsCaused r road road' why → IsCaused f r old new road road' (of_client why)
  client_caused old new road road' client_fault.LinkFailed h = inl h
  client_caused old new road road' client_fault.RoadsFailed h = inr h
  client_caused old new road road' client_fault.Memory h = tt

  pub same_client : (a b : Client I O) → Some a ≡ Some b → a ≡ b
  same_client a b e = cc

  heard_as : (conn : ConnId) (place : ℕ) (old mid new : Player F I O) (c c' : Client I O) (w : World) (net : Net) (queues : Queues) (road road' : R) (desk desk' : D) → d.office desk ≡ Some old.office.office → d.office desk' ≡ Some mid.office.office → clients.HearKeepsOffice d r i o c desk desk' road → mid.nodes ≡ old.nodes → mid.reads ≡ old.reads → mid.recoveries ≡ old.recoveries → mid.running.items ≡ old.running.items
      → mid.clients.items ≡ slice_set old.clients.items place c' → mid.events.items ≡ old.events.items → ClientsStay i o → PipelinesLeave i o → NodesStay f i o → NodesEndsStay i o → HearingKeeps → HeardKeeps → slice_get old.clients.items place ≡ Some c → clients.HearShows d r i o c c' desk road road' (Ok tt)
      → IsKept mid new (event.Up conn) → PlayerShows r i o w net queues road old → clients.HearIsLawful w c.block.0 → is_due w queues (due.Up conn) ≡ true → (w.dialled conn.0).upper ≡ by_writer c.block.0 → clients.AcceptedIsQuiet w c.block.0
      → PlayerLeft r i o w queues (due.Up conn) old new road'
  heard_as conn place old mid new c c' w net queues road road' desk desk' office_old office_mid same nodes reads recovers running set events stay K nodes_stay ends_stay hearing heard at shows kept p lawful is upper quiet =
      let stands : ClientStands d r i o w net c desk road = record { roads_are = p.nodes.roads_are; client_is = (p.clients place c at).shows; office_is = office_old ∙ ap (λ (x : OfficeState). Some x) p.office } in
      let left : clients.HearLeft d r i o w net (happens w (event.Up conn)) c c' desk road' = shows w net queues conn stands lawful is upper quiet in
      let now : d.office desk ≡ Some mid.office.office = sym (ap (λ (x : D). d.office x) (same w net queues conn stands lawful is upper quiet)) ∙ office_mid in
      let q : PlayerShows r i o (happens w (event.Up conn)) left.made queues road' mid =
      heard_shows conn place old mid c c' w net queues road road' desk now stay K nodes_stay ends_stay hearing heard p running at (record { nodes = nodes; reads = reads; recoveries = recovers; clients = set; block = left.left.block; rule = left.left.rule }) lawful.ordered upper left in
      record {
        made = left.made;
        shows = subst (λ (x : Player F I O). PlayerShows r i o (happens w (event.Up conn)) left.made queues road' x) (sym kept.same) (record { nodes = q.nodes; reads = q.reads; recoveries = q.recoveries; clients = q.clients; apart = q.apart; office = q.office; running = q.running; slots = q.slots });
        events = kept.events ∙ ap (λ (es : List Event). es ++ event.Up conn ∷ []) events;
        places = subst (λ (u : Option ℕ). KeepsPlaces u old new) (sym (ap writer_at upper)) (same_places (Some c.block.0) old mid new (event.Up conn) kept (kept_places old mid place c c' (record { nodes = nodes; reads = reads; recoveries = recovers; clients = set; block = left.left.block; rule = left.left.rule }) at));
      }

  pub heard_left : (conn : ConnId) (place : ℕ) (old mid new : Player F I O) (c c' : Client I O) (road road' : R) (desk desk' : D) (result : Result (Unit {0}) PlayFault) → d.office desk ≡ Some old.office.office → d.office desk' ≡ Some mid.office.office → clients.HearKeepsOffice d r i o c desk desk' road → mid.nodes ≡ old.nodes → mid.reads ≡ old.reads → mid.recoveries ≡ old.recoveries → mid.running.items ≡ old.running.items
      → mid.clients.items ≡ slice_set old.clients.items place c' → mid.events.items ≡ old.events.items → ClientsStay i o → PipelinesLeave i o → NodesStay f i o → NodesEndsStay i o → HearingKeeps → HeardKeeps → slice_get old.clients.items place ≡ Some c → clients.HearShows d r i o c c' desk road road' (Ok tt)
      → Keeps mid new (event.Up conn) result → HeardShows f r i o conn place old new road road' result
  heard_left conn place old mid new c c' road road' desk desk' (Ok u) office_old office_mid same nodes reads recovers running set events stay K nodes_stay ends_stay hearing heard at shows kept = λ w net queues a p at_a.
      subst (λ (y : Client I O). clients.HearIsLawful w y.block.0 → is_due w queues (due.Up conn) ≡ true → (w.dialled conn.0).upper ≡ by_writer y.block.0 → clients.AcceptedIsQuiet w y.block.0 → PlayerLeft r i o w queues (due.Up conn) old new road')
      (same_client c a (sym at ∙ at_a))
      (λ lawful is upper quiet. heard_as conn place old mid new c c' w net queues road road' desk desk' office_old office_mid same nodes reads recovers running set events stay K nodes_stay ends_stay hearing heard at shows kept p lawful is upper quiet)
  heard_left conn place old mid new c c' road road' desk desk' (Err why) office_old office_mid same nodes reads recovers running set events stay K nodes_stay ends_stay hearing heard at shows kept = λ w net queues a p at_a lawful is upper quiet. out_of_memory f r i o old new road road' why kept

  pub heard_failed : (conn : ConnId) (place : ℕ) (old new : Player F I O) (c c' : Client I O) (road road' : R) (desk : D) (why : ClientFault) → d.office desk ≡ Some old.office.office → slice_get old.clients.items place ≡ Some c → clients.HearShows d r i o c c' desk road road' (Err why)
      → HeardShows f r i o conn place old new road road' (Err (of_client why))
  heard_failed conn place old new c c' road road' desk why office_old at shows = λ w net queues a p at_a.
      subst (λ (y : Client I O). clients.HearIsLawful w y.block.0 → is_due w queues (due.Up conn) ≡ true → (w.dialled conn.0).upper ≡ by_writer y.block.0 → clients.AcceptedIsQuiet w y.block.0 → IsCaused f r old new road road' (of_client why))
      (same_client c a (sym at ∙ at_a))
      (λ lawful is upper quiet. client_caused old new road road' why
      (shows w net queues conn (record { roads_are = p.nodes.roads_are; client_is = (p.clients place c at).shows; office_is = office_old ∙ ap (λ (x : OfficeState). Some x) p.office }) lawful is upper quiet))
