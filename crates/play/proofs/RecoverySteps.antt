-- An event of the recoveries, and what it leaves of the clients and the reads.
use Rattle.std.proofs.Common.{◌≡◌, inl, inr, refl, ℕ, Bool, true, false, List, [], ◌∷◌, ◌++◌, slice_get, Option, Some, None, Result, Ok, Err, sym, ap, ◌∙◌, subst}
use Rattle.hd_base.specs.declared.files.Files as files
use Rattle.hd_base.specs.declared.links.LinkIn as link_in
use Rattle.hd_base.specs.declared.links.LinkOut as link_out
use Rattle.hd_base.specs.declared.numbers.ConnId.{ConnId}
use Rattle.hd_base.specs.declared.roads.Roads as roads
use Rattle.name_core.specs.declared.desks.Desk as desks
use Rattle.name_core.specs.declared.book.OfficeBook.{OfficeBook}
use Rattle.name_core.specs.Offices.{OfficeState}
use Rattle.road_traffic.specs.Showing.{Net}
use Rattle.world.specs.declared.events.Event.{Event}
use Rattle.world.specs.declared.events.Event.TheVariants as event
use Rattle.world.specs.Parts.{Upper, by_writer, by_reader, by_member, by_primary}
use Rattle.world.specs.Worlds.{World}
use Rattle.world.specs.Events.{happens, run}
use Rattle.play_laws.specs.WorldOrders.Orders.{Ordered, purpose_of, recovering}
use Rattle.play_model.specs.declared.recoveries.Recovery.{Recovery}
use Rattle.play_model.specs.Dues.{Queues}
use Rattle.play_model.specs.Recoveries.{recovery_events}
use Rattle.play_laws.specs.Nodes.{SameNodes}
use Rattle.play_dues.specs.PlayClients.Staying.{ClientsStay}
use Rattle.node_stops.specs.PlayNodes.Nodes.{Nodes}
use Rattle.node_stops.specs.PlayNodes.Places.{KeepsSizes}
use Rattle.node_stops.specs.PlayNodes.Showing.{TellsRunning}
use Rattle.node_stops.proofs.PlayNodes.PlaceLaws.{same_some}
use Rattle.play_dues.specs.PlayReaders.Asks.{asks_of}
use Rattle.play_dues.specs.PlayReads.Keeping.{ReadingEndsStay, KeepsReads, ReadsStay}
use Rattle.play_dues.specs.PlayPrimaries.PrimaryClient.{PrimaryClient}
use Rattle.play_dues.specs.PlayPrimaries.Deed.{Deed}
use Rattle.play_dues.specs.PlayPrimaries.Deeds.{deed_events, TellsDeed}
use Rattle.play_dues.specs.PlayPrimaries.Frames as primaries
use Rattle.play_dues.specs.PlayRecoveries.RecoveriesFault.{RecoveriesFault}
use Rattle.play_dues.specs.PlayRecoveries.RecoveriesFault.TheVariants as recoveries_fault
use Rattle.play_dues.specs.PlayRecoveries.Recoveries.{Recoveries}
use Rattle.play_dues.specs.PlayRecoveries.Faults as recoveries_faults
use Rattle.play_dues.specs.PlayRecoveries.Hearing as hearing
use Rattle.play_dues.specs.PlayRecoveries.Left.{RecoveriesLeft}
use Rattle.play_dues.specs.PlayRecoveries.Owning as owning
use Rattle.play_dues.specs.PlayRecoveries.Places.{recoveries_of}
use Rattle.play_dues.specs.PlayRecoveries.Serving as serving
use Rattle.play_dues.specs.PlayRecoveries.Showing.{Stand}
use Rattle.play.specs.declared.faults.PlayFault.{PlayFault}
use Rattle.play.specs.declared.player.Player.{Player}
use Rattle.play.specs.Events.{IsKept, Keeps, IsCaused, writer_at, blocks_of, KeepsPlaces}
use Rattle.play.specs.Faults.{of_recoveries}
use Rattle.play.specs.Laws.{Laws, RecoveriesLeave}
use Rattle.play.specs.Owning.{HasMore}
use Rattle.play.specs.Recovering.{KeepsDeed, LeadShows, PrimaryShows, AnswerShows}
use Rattle.play.specs.Showing.{PlayerShows, PlayerStands}
use Rattle.play.proofs.NodeSteps.{KeepsWriting, writing_of, clients_left, out_of_memory}
use Rattle.play.proofs.OthersLaws.{reads_left}
use Rattle.play.proofs.RecoveryEvents.{recovery_kept}

-- WRITERS

primary_writer : (u : Upper) (n place b : ℕ) → u ≡ by_primary n place → u ≡ by_writer b → ⊥
primary_writer u n place b leads writes = cc

keeps_told : (w v : World) (conn n place : ℕ) → (w.dialled conn).upper ≡ by_primary n place → primaries.HearKeepsOthers w v n conn → KeepsWriting w v
keeps_told w v conn n place upper k = record {
  writers = k.others.writers;
  said = k.others.said;
  over = λ b c by. k.takes c false (λ same. absurd (primary_writer (w.dialled c).upper n place b (subst (λ (x : ℕ). (w.dialled x).upper ≡ by_primary n place) same upper) by));
}

-- who dialled a connection of a recovery
record LedBy (u : Upper) : Type 0 where
  primary : ℕ
  place : ℕ
  is : u ≡ by_primary primary place

primary_above : (u : Upper) → purpose_of u ≡ recovering → LedBy u
primary_above (by_writer b) of = cc
primary_above (by_member d) of = cc
primary_above (by_reader line) of = cc
primary_above (by_primary n place) of = record { primary = n; place = place; is = refl }

pub same_recovery : {I O : Type 0} (a b : PrimaryClient I O) → Some a ≡ Some b → a.recovery ≡ b.recovery
same_recovery {I} {O} a b e = ap (λ (x : PrimaryClient I O). x.recovery) (same_some a b e)

told_running : (w : World) (running runs : List Bool) → running ≡ runs → TellsRunning w runs → TellsRunning w running
told_running w running runs same tells = subst (λ (xs : List Bool). TellsRunning w xs) (sym same) tells

some_same : (a b : OfficeState) → Some a ≡ Some b → a ≡ b
some_same a b e = cc

module _ {F R I O : Type 0} (f : files.Ghosts F) (r : roads.Ghosts R I O) (i : link_in.Ghosts I) (o : link_out.Ghosts O) where
  -- recoveries and nodes stand on the roads
  pub recoveries_stand : (road : R) (p : Player F I O) → PlayerStands r i o road p → Stand r i o road p.nodes p.recoveries
  recoveries_stand road p s = record { w = s.w; net = s.net; stands = record { nodes = s.shows.nodes; recoveries_are = s.shows.recoveries } }

  -- FAULTS

  caused : (old new : Player F I O) (road road' : R) (why : RecoveriesFault) → recoveries_faults.IsCaused f r old.nodes new.nodes road road' why → IsCaused f r old new road road' (of_recoveries why)
  caused old new road road' recoveries_fault.LinkFailed h = inl h
  caused old new road road' recoveries_fault.RoadsFailed h = inr h
  caused old new road road' (recoveries_fault.FilesFailed node) h = h
  caused old new road road' recoveries_fault.Memory h = tt

  -- WHAT IS LEFT

  -- What is left of a player by an event of the recoveries.
  record Left (v : World) (queues : Queues) (actor : Option ℕ) (old new : Player F I O) (es : List Event) (road : R) : Type 0 where
    made : Net
    shows : PlayerShows r i o v made queues road new
    events : new.events.items ≡ old.events.items ++ es
    places : KeepsPlaces actor old new

  left_of : (w v : World) (net : Net) (queues : Queues) (actor : Option ℕ) (old new : Player F I O) (n' : Nodes F I O) (recoveries' : Recoveries I O) (office' : OfficeBook) (es : List Event) (road road' : R) → ClientsStay i o → ReadsStay i o → PlayerShows r i o w net queues road old → Ordered w → KeepsWriting w v → SameNodes w v
      → ((made : Net) → ReadingEndsStay i o w net v made → KeepsReads i o w net v made) → office'.office ≡ v.office → n'.blocks.items ≡ old.nodes.blocks.items
      → RecoveriesLeft r i o w net v road' n' old.recoveries recoveries' → HasMore (record old { nodes = n'; recoveries = recoveries'; office = office' }) new es → Left v queues actor old new es road'
  left_of w v net queues actor old new n' recoveries' office' es road road' stay reads_stay p ordered k runs keeps office_is blocks left kept = record {
    made = left.made;
    shows = subst (λ (x : Player F I O). PlayerShows r i o v left.made queues road' x) (sym kept.same) (record {
      nodes = left.stands.nodes;
      reads = reads_left i o w v net left.made old.nodes.blocks.items n'.blocks.items old.reads reads_stay blocks p.reads (keeps left.made left.readers);
      recoveries = left.stands.recoveries_are;
      clients = clients_left f r i o w v net left.made queues old stay p.clients ordered k left.writers;
      apart = p.apart;
      office = office_is;
      running = λ n. p.running n ∙ sym (runs.running n);
      slots = p.slots ∙ sym runs.nodes;
    });
    events = kept.events;
    places = record {
      blocks = ap (λ (x : Player F I O). x.nodes.blocks.items) kept.same ∙ blocks;
      order = ap (λ (x : Player F I O). blocks_of x.clients.items) kept.same;
      asks = ap (λ (x : Player F I O). asks_of x.reads.clients.items) kept.same;
      recovers = ap (λ (x : Player F I O). recoveries_of x.recoveries.clients.items) kept.same ∙ left.recovers;
      each = λ m c at. record { was = c; at = sym (ap (λ (x : Player F I O). slice_get x.clients.items m) kept.same) ∙ at; block = refl; rule = refl; same = λ other. refl };
    };
  }

  -- one event was kept
  one_kept : (old new : Player F I O) (e : Event) → IsKept old new e → HasMore old new (e ∷ [])
  one_kept old new e kept = record { same = kept.same; events = kept.events }

  module _ (L : Laws) (stay : ClientsStay i o) (Q : RecoveriesLeave i o) where
    -- AN OWN STEP

    module _ (d : desks.Ghosts OfficeBook) where
      pub lead_left : (place : ℕ) (old new : Player F I O) (n' : Nodes F I O) (recoveries' : Recoveries I O) (office' : OfficeBook) (a : PrimaryClient I O) (rec : Recovery) (deed : Deed) (running : List Bool) (road road' : R) (result : Result (Unit {0}) PlayFault) → d.office old.office ≡ Some old.office.office → d.office office' ≡ Some office'.office → slice_get old.recoveries.clients.items place ≡ Some a → rec ≡ a.recovery → running ≡ old.running.items → KeepsSizes old.nodes n'
          → owning.OwnShows d f r i o running place old.nodes n' old.recoveries recoveries' old.office office' road road' (Ok tt) → TellsDeed i o a deed → KeepsDeed rec deed (record old { nodes = n'; recoveries = recoveries'; office = office' }) new result → LeadShows f r i o place old new road road' result
      lead_left place old new n' recoveries' office' a rec deed running road road' (Ok u) was now_is at rec_is run_is sizes shows tells kept = λ w net queues c p at_c lawful is.
          let v : World = run w (recovery_events w c.recovery) in
          let same : a ≡ c = same_some a c (sym at ∙ at_c) in
          let k = recovery_kept L.leading_others L.leading_nodes w c.recovery in
          let done : owning.OwnLeft d r i o w net v office' road' n' old.recoveries recoveries' = shows w net c (record { nodes = p.nodes; recoveries_are = p.recoveries }) at_c lawful is (told_running w running old.running.items run_is p.running) (was ∙ ap (λ (x : OfficeState). Some x) p.office) in
          let did : deed_events c.recovery deed ≡ recovery_events w c.recovery = subst (λ (x : PrimaryClient I O). TellsDeed i o x deed) same tells w net (p.recoveries.clients.each place c at_c) is in
          let more : HasMore (record old { nodes = n'; recoveries = recoveries'; office = office' }) new (recovery_events w c.recovery) =
          subst (λ (es : List Event). HasMore (record old { nodes = n'; recoveries = recoveries'; office = office' }) new es) did (subst (λ (x : Recovery). HasMore (record old { nodes = n'; recoveries = recoveries'; office = office' }) new (deed_events x deed)) (rec_is ∙ ap (λ (x : PrimaryClient I O). x.recovery) same) kept) in
          let l : Left v queues None old new (recovery_events w c.recovery) road' =
          left_of w v net queues None old new n' recoveries' office' (recovery_events w c.recovery) road road' stay Q.stay p lawful.primary.ordered (record { writers = k.others.writers; said = k.others.said; over = λ b conn by. k.takes conn false })
          (record { nodes = k.nodes.nodes; running = k.nodes.running; lives = k.nodes.lives }) (λ made ends. Q.leading w net made c.recovery lawful.primary.ordered ends) (some_same office'.office v.office (sym now_is ∙ done.office_is)) sizes.blocks done.left more in
          record { made = l.made; shows = l.shows; events = l.events; places = l.places }
      lead_left place old new n' recoveries' office' a rec deed running road road' (Err why) was now_is at rec_is run_is sizes shows tells kept = λ w net queues c p at_c lawful is. out_of_memory f r i o old new road road' why kept

      pub lead_failed : (place : ℕ) (old new : Player F I O) (office' : OfficeBook) (running : List Bool) (road road' : R) (why : RecoveriesFault) → d.office old.office ≡ Some old.office.office → running ≡ old.running.items → owning.OwnShows d f r i o running place old.nodes new.nodes old.recoveries new.recoveries old.office office' road road' (Err why)
          → LeadShows f r i o place old new road road' (Err (of_recoveries why))
      lead_failed place old new office' running road road' why was run_is shows = λ w net queues c p at_c lawful is.
          caused old new road road' why (shows w net c (record { nodes = p.nodes; recoveries_are = p.recoveries }) at_c lawful is (told_running w running old.running.items run_is p.running) (was ∙ ap (λ (x : OfficeState). Some x) p.office))

    -- A PRIMARY HEARS

    pub told_left : (conn : ConnId) (old new : Player F I O) (recoveries' : Recoveries I O) (road road' : R) (result : Result (Unit {0}) PlayFault) → hearing.HearShows f r i o conn old.nodes old.recoveries recoveries' road road' (Ok tt)
        → Keeps (record old { recoveries = recoveries' }) new (event.Up conn) result → PrimaryShows f r i o conn old new road road' result
    told_left conn old new recoveries' road road' (Ok u) shows kept = λ w net queues p of lawful is.
        let v : World = happens w (event.Up conn) in
        let x = primary_above (w.dialled conn.0).upper of in
        let k = L.told_others w conn x.primary x.place x.is in
        let l : Left v queues None old new (event.Up conn ∷ []) road' =
        left_of w v net queues None old new old.nodes recoveries' old.office (event.Up conn ∷ []) road road' stay Q.stay p lawful.ordered (keeps_told w v conn.0 x.primary x.place x.is k) (L.running w (event.Up conn) tt) (λ made ends. Q.answers w net made conn lawful.ordered of ends) (p.office ∙ sym k.office) refl
        (shows w net queues (record { nodes = p.nodes; recoveries_are = p.recoveries }) lawful is of) (one_kept (record old { recoveries = recoveries' }) new (event.Up conn) kept) in
        record { made = l.made; shows = l.shows; events = l.events; places = subst (λ (y : Option ℕ). KeepsPlaces y old new) (sym (ap writer_at x.is)) l.places }
    told_left conn old new recoveries' road road' (Err why) shows kept = λ w net queues p of lawful is. out_of_memory f r i o old new road road' why kept

    pub told_failed : (conn : ConnId) (old new : Player F I O) (road road' : R) (why : RecoveriesFault) → new.nodes ≡ old.nodes → hearing.HearShows f r i o conn old.nodes old.recoveries new.recoveries road road' (Err why)
        → PrimaryShows f r i o conn old new road road' (Err (of_recoveries why))
    told_failed conn old new road road' why same shows = λ w net queues p of lawful is.
        caused old new road road' why (subst (λ (n : Nodes F I O). recoveries_faults.IsCaused f r old.nodes n road road' why) (sym same) (shows w net queues (record { nodes = p.nodes; recoveries_are = p.recoveries }) lawful is of))

    -- A LOWER END ANSWERS

    pub answer_left : (conn : ConnId) (old new : Player F I O) (n' : Nodes F I O) (recoveries' : Recoveries I O) (road road' : R) (result : Result (Unit {0}) PlayFault) → KeepsSizes old.nodes n' → serving.DownShows f r i o conn old.nodes n' old.recoveries recoveries' road road' (Ok tt)
        → Keeps (record old { nodes = n'; recoveries = recoveries' }) new (event.Down conn true) result → AnswerShows f r i o conn old new road road' result
    answer_left conn old new n' recoveries' road road' (Ok u) sizes shows kept = λ w net queues p of can is.
        let v : World = happens w (event.Down conn true) in
        let k = L.down_keeps w conn true in
        let l : Left v queues None old new (event.Down conn true ∷ []) road' =
        left_of w v net queues None old new n' recoveries' old.office (event.Down conn true ∷ []) road road' stay Q.stay p can.order.before (writing_of w v k) (L.running w (event.Down conn true) tt) (λ made ends. Q.answering w net made conn true can.order.before of ends) (p.office ∙ sym k.office) sizes.blocks
        (shows w net queues (record { nodes = p.nodes; recoveries_are = p.recoveries }) can.order can.lawful can.among is of) (one_kept (record old { nodes = n'; recoveries = recoveries' }) new (event.Down conn true) kept) in
        record { made = l.made; shows = l.shows; events = l.events; places = l.places }
    answer_left conn old new n' recoveries' road road' (Err why) sizes shows kept = λ w net queues p of can is. out_of_memory f r i o old new road road' why kept

    pub answer_failed : (conn : ConnId) (old new : Player F I O) (road road' : R) (why : RecoveriesFault) → serving.DownShows f r i o conn old.nodes new.nodes old.recoveries new.recoveries road road' (Err why)
        → AnswerShows f r i o conn old new road road' (Err (of_recoveries why))
    answer_failed conn old new road road' why shows = λ w net queues p of can is. caused old new road road' why (shows w net queues (record { nodes = p.nodes; recoveries_are = p.recoveries }) can.order can.lawful can.among is of)
