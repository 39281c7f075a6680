-- The events of writers, members and readers keep what the recoveries show.
use Rattle.std.proofs.Common.{◌≡◌, ◌<◌, ◌≤◌, ◌+◌, ◌∷◌, [], ℕ, Bool, true, false, List, Option, Some, None, IfSome, refl, ap, ◌∙◌, subst, arith}
use Rattle.hd_base.specs.declared.links.LinkIn as link_in
use Rattle.hd_base.specs.declared.links.LinkOut as link_out
use Rattle.road_traffic.specs.Showing.{Net}
use Rattle.world.specs.declared.events.Event.{Event}
use Rattle.world.specs.declared.events.Delivery.TheVariants as delivery
use Rattle.world.specs.declared.events.Event.TheVariants as event
use Rattle.world.specs.Events.{run}
use Rattle.world.specs.Parts.{Upper, by_writer, by_member, by_reader, by_primary}
use Rattle.world.specs.Worlds.{World}
use Rattle.play_servers.specs.WorldNets.Ends.{IsElsewhere}
use Rattle.play_nodes.specs.WorldOrders.Orders.{Ordered, IsWriterConn, purpose_of, reading, recovering}
use Rattle.play_primaries.specs.ClientEvents.Showing.{OthersStay}
use Rattle.play_model.specs.declared.dues.Due.TheVariants as due
use Rattle.play_model.specs.Asks.{asking_node, request_of}
use Rattle.play_model.specs.Dues.{due_events}
use Rattle.play_nodes.specs.Elsewhere.{KeepsElsewhere, DownLeaves, FaultLeaves, ReadyLeaves, MirrorLeaves, OwnLeaves, HeardLeaves}
use Rattle.play_nodes.specs.Showing.{is_pipeline, ElsewhereStays}
use Rattle.play_primaries.specs.PlayReaders.Frames as readers
use Rattle.play_primaries.specs.Frames as primaries
use Rattle.play_recoveries.specs.Keeping.{KeepsPrimaries, KeepsServers, RecoveringEndsStay}
use Rattle.play_recoveries.specs.Others.{OwnStepsKeepRecoveries, HearingKeepsRecoveries, DownKeepsRecoveries, FaultKeepsRecoveries, ReadyKeepsRecoveries, MirrorKeepsRecoveries, AskingKeepsRecoveries, ReadingKeepsRecoveries, ServingKeepsRecoveries, SendingKeepsRecoveries}
use Rattle.play_recoveries.proofs.ClientLaws.{no_writer_recovers, no_read_recovers}
use Rattle.play_recoveries.proofs.FrameLaws.{recoveries_elsewhere}
use Rattle.play_recoveries.proofs.KeepLaws.{none_between}
use Rattle.play_recoveries.proofs.ShutLaws.{run_first, run_shut}
use Rattle.play_recoveries.proofs.ThereLaws.{ThereAlone, down_alone, ready_alone}

-- PURPOSES

recovers_no_pipeline : (u : Upper) → is_pipeline u ≡ true → purpose_of u ≡ recovering → ⊥
recovers_no_pipeline (by_writer b) is e = cc
recovers_no_pipeline (by_member d) is e = cc
recovers_no_pipeline (by_reader line) is e = cc
recovers_no_pipeline (by_primary p place) is e = cc

reader_of : (u : Upper) → purpose_of u ≡ reading → (line : ℕ) × (u ≡ by_reader line)
reader_of (by_reader line) e = (line, refl)
reader_of (by_writer b) e = cc
reader_of (by_member d) e = cc
reader_of (by_primary p place) e = cc

-- WHAT IS KEPT

keeps_primaries : (w : World) (events : List Event) → primaries.KeepsPrimaries w (run w events) → KeepsPrimaries w (run w events)
keeps_primaries w events h = record { primaries = h.primaries; over = h.over; shut = λ c is. run_shut w events c is }

-- What is elsewhere is what servers show.
elsewhere_servers : (w : World) (events : List Event) → KeepsElsewhere w (run w events) → KeepsServers w (run w events)
elsewhere_servers w events k = record {
  served = record { grows = k.grows; dialled = k.dialled; running = k.running; lives = k.lives };
  fresh = λ d le lt e. recovers_no_pipeline ((run w events).dialled d).upper (k.fresh d le lt) e;
  lowers = λ d before e. (k.conns d before (recoveries_elsewhere (w.dialled d).upper e)).lower;
  first = λ d before. run_first w events d;
}

-- So is what nodes have, where no primary dials.
node_servers : (w : World) (events : List Event) → readers.KeepsNodes w (run w events) → ((d : ℕ) → w.next_conn ≤ d → d < (run w events).next_conn → purpose_of ((run w events).dialled d).upper ≡ recovering → ⊥) → KeepsServers w (run w events)
node_servers w events k fresh = record {
  served = record { grows = k.grows; dialled = k.dialled; running = k.running; lives = k.lives };
  fresh = fresh;
  lowers = λ d before e. k.lowers d;
  first = λ d before. run_first w events d;
}

-- So is what stays where the lower end of a connection acts that a reader dialled.
alone_servers : (w : World) (events : List Event) (c : ℕ) → purpose_of (w.dialled c).upper ≡ reading → ThereAlone w (run w events) c → KeepsServers w (run w events)
alone_servers w events c is k = record {
  served = k.served;
  fresh = λ d le lt e. recovers_no_pipeline ((run w events).dialled d).upper (k.fresh d le lt) e;
  lowers = λ d before e. k.lowers d (λ same. no_read_recovers (w.dialled d).upper (ap (λ (n : ℕ). purpose_of (w.dialled n).upper) same ∙ is) e);
  first = λ d before. run_first w events d;
}

-- WRITERS

writer_dialled : (w : World) (b c : ℕ) → Ordered w → (w.writers b).conn ≡ Some c → (w.dialled c).upper ≡ by_writer b
writer_dialled w b c ordered is =
    let at : IsWriterConn (w.dialled c) (w.up_marks c).taken b (w.writers b).known =
    subst (λ (n : Option ℕ). IfSome n (λ q. IsWriterConn (w.dialled q) (w.up_marks q).taken b (w.writers b).known)) is (ordered.writers_are b) in
    at.upper

-- No primary dialled the connection of a writer.
away : (w : World) (b d : ℕ) (lower : Bool) → Ordered w → purpose_of (w.dialled d).upper ≡ recovering → IfSome (w.writers b).conn (λ c. IsElsewhere c false d lower)
away w b d lower ordered e = each (w.writers b).conn refl
  where
    each : (n : Option ℕ) → (w.writers b).conn ≡ n → IfSome n (λ c. IsElsewhere c false d lower)
    each None of = tt
    each (Some c) of = λ same. absurd (no_writer_recovers b (w.dialled c).upper (writer_dialled w b c ordered of) (ap (λ (n : ℕ). purpose_of (w.dialled n).upper) same ∙ e))

-- READERS

only_new : (d a b : ℕ) → a ≤ d → d < b → b ≤ a + 1 → d ≡ a
only_new d a b h k l = omega (arith, h, k, l)

-- the reader dialled what is new
asks_fresh : (w v : World) (line : ℕ) → readers.AskKeepsNodes w v line → (d : ℕ) → w.next_conn ≤ d → d < v.next_conn → purpose_of (v.dialled d).upper ≡ recovering → ⊥
asks_fresh w v line k d le lt e =
    let same : d ≡ w.next_conn = only_new d w.next_conn v.next_conn le lt k.once in
    no_read_recovers (v.dialled w.next_conn).upper (ap purpose_of (k.dials (subst (λ (n : ℕ). n < v.next_conn) same lt)).upper) (subst (λ (n : ℕ). purpose_of (v.dialled n).upper ≡ recovering) same e)

module _ {I O : Type 0} (i : link_in.Ghosts I) (o : link_out.Ghosts O) where
  writer_ends : (w : World) (net : Net) (v : World) (made : Net) (b : ℕ) → Ordered w → OthersStay i o w net v made (w.writers b).conn → RecoveringEndsStay i o w net v made
  writer_ends w net v made b ordered others = λ d lower e is h. others d lower e (away w b d lower ordered is) h

  pub own_steps_kept : OwnLeaves → primaries.WritingKeepsPrimaries → OwnStepsKeepRecoveries i o
  own_steps_kept leaves acts w net made queues block ordered others =
      let events : List Event = due_events w queues (due.Own block) in
      record {
        ordered = ordered;
        primaries = keeps_primaries w events (acts w queues block);
        servers = elsewhere_servers w events (leaves w queues block ordered);
        ends = writer_ends w net (run w events) made block.0 ordered others;
      }

  pub hearing_kept : HeardLeaves → primaries.AcksKeepPrimaries → HearingKeepsRecoveries i o
  hearing_kept leaves hears w net made conn b ordered upper others =
      let events : List Event = event.Up conn ∷ [] in
      record {
        ordered = ordered;
        primaries = keeps_primaries w events (hears w conn b upper);
        servers = elsewhere_servers w events (leaves w conn b ordered upper);
        ends = writer_ends w net (run w events) made b ordered others;
      }

  -- MEMBERS

  elsewhere_ends : (w : World) (net : Net) (v : World) (made : Net) → ElsewhereStays i o w net v made → RecoveringEndsStay i o w net v made
  elsewhere_ends w net v made stays = λ d lower e is h. stays d lower e (recoveries_elsewhere (w.dialled d).upper is) h

  pub downs_kept : DownLeaves → primaries.DownKeepsPrimaries → DownKeepsRecoveries i o
  downs_kept leaves keeps w net made conn answered ordered is stays =
      let events : List Event = event.Down conn answered ∷ [] in
      record {
        ordered = ordered;
        primaries = keeps_primaries w events (keeps w conn answered);
        servers = elsewhere_servers w events (leaves w conn answered ordered (λ within. is));
        ends = elsewhere_ends w net (run w events) made stays;
      }

  pub faults_kept : FaultLeaves → primaries.FaultKeepsPrimaries → FaultKeepsRecoveries i o
  faults_kept leaves keeps w net made conn ordered is stays =
      let events : List Event = event.Fault (delivery.Down conn) ∷ [] in
      record {
        ordered = ordered;
        primaries = keeps_primaries w events (keeps w conn);
        servers = elsewhere_servers w events (leaves w conn ordered (λ within. is));
        ends = elsewhere_ends w net (run w events) made stays;
      }

  pub readies_kept : ReadyLeaves → primaries.ReadyKeepsPrimaries → ReadyKeepsRecoveries i o
  readies_kept leaves keeps w net made conn ordered is stays =
      let events : List Event = event.Ready conn ∷ [] in
      record {
        ordered = ordered;
        primaries = keeps_primaries w events (keeps w conn);
        servers = elsewhere_servers w events (leaves w conn ordered (λ within. is));
        ends = elsewhere_ends w net (run w events) made stays;
      }

  pub mirrors_kept : MirrorLeaves → primaries.MirrorKeepsPrimaries → MirrorKeepsRecoveries i o
  mirrors_kept leaves keeps w net made conn d ordered upper stays =
      let events : List Event = event.Up conn ∷ [] in
      record {
        ordered = ordered;
        primaries = keeps_primaries w events (keeps w conn d upper);
        servers = elsewhere_servers w events (leaves w conn d ordered upper);
        ends = elsewhere_ends w net (run w events) made stays;
      }

  -- READERS

  pub asking_kept : readers.AskingKeepsNodes → primaries.AskingKeepsPrimaries → AskingKeepsRecoveries i o
  asking_kept nodes keeps w net made ask ordered ends =
      let events : List Event = asking_node ask true ∷ [] in
      let k = nodes w ask.reader ask.node (request_of ask) true in
      record {
        ordered = ordered;
        primaries = keeps_primaries w events (keeps w ask.reader ask.node (request_of ask) true);
        servers = node_servers w events k.keeps (asks_fresh w (run w events) ask.reader k);
        ends = ends;
      }

  pub reading_kept : readers.HearingKeepsNodes → primaries.PiecesKeepPrimaries → ReadingKeepsRecoveries i o
  reading_kept nodes keeps w net made conn ordered is ends =
      let events : List Event = event.Up conn ∷ [] in
      let line = reader_of (w.dialled conn.0).upper is in
      let k = nodes w conn line.0 line.1 in
      record {
        ordered = ordered;
        primaries = keeps_primaries w events (keeps w conn line.0 line.1);
        servers = node_servers w events k.keeps (λ d le lt e. none_between w.next_conn (run w events).next_conn d k.conns le lt);
        ends = ends;
      }

  pub serving_kept : primaries.DownKeepsPrimaries → ServingKeepsRecoveries i o
  serving_kept keeps w net made conn answered ordered is ends =
      let events : List Event = event.Down conn answered ∷ [] in
      record {
        ordered = ordered;
        primaries = keeps_primaries w events (keeps w conn answered);
        servers = alone_servers w events conn.0 is (down_alone w conn answered);
        ends = ends;
      }

  pub sending_kept : primaries.ReadyKeepsPrimaries → SendingKeepsRecoveries i o
  sending_kept keeps w net made conn ordered is ends =
      let events : List Event = event.Ready conn ∷ [] in
      record {
        ordered = ordered;
        primaries = keeps_primaries w events (keeps w conn);
        servers = alone_servers w events conn.0 is (ready_alone w conn);
        ends = ends;
      }
