-- The events of writers and members, and cuts, keep what the reads show.
use Rattle.std.proofs.Common.{◌≡◌, ◌≤◌, ℕ, Bool, true, false, Option, Some, None, IfSome, refl, sym, ap, ◌∙◌, subst, arith}
use Rattle.hd_base.specs.declared.links.LinkIn as link_in
use Rattle.hd_base.specs.declared.links.LinkOut as link_out
use Rattle.road_traffic.specs.Showing.{Net}
use Rattle.world.specs.declared.events.Delivery.TheVariants as delivery
use Rattle.world.specs.declared.events.Event.TheVariants as event
use Rattle.world.specs.Events.{happens, run}
use Rattle.world.specs.Parts.{Upper, by_writer, by_member, by_reader, by_primary}
use Rattle.world.specs.Worlds.{World}
use Rattle.play_primaries.specs.WorldCuts.Cutting.{cut_world, IsCut, CutsAreLosses, EndsStayInCuts}
use Rattle.play_primaries.proofs.WorldCuts.CutLemmas.{over_cut}
use Rattle.play_servers.specs.WorldNets.Ends.{IsElsewhere}
use Rattle.play_nodes.specs.WorldOrders.Orders.{Ordered, IsWriterConn, purpose_of, reading}
use Rattle.play_primaries.specs.ClientEvents.Showing.{OthersStay}
use Rattle.play_nodes.specs.PlayModel.Due.TheVariants as due
use Rattle.play_nodes.specs.PlayModel.Dues.{due_events}
use Rattle.play_nodes.specs.Elsewhere.{KeepsElsewhere, DownLeaves, FaultLeaves, ReadyLeaves, MirrorLeaves, OwnLeaves, HeardLeaves}
use Rattle.play_nodes.specs.Showing.{is_pipeline, ElsewhereStays}
use Rattle.play_primaries.specs.PlayReaders.Frames.{OwnStepsKeepReaders, HearingKeepsReaders, DownKeepsReaders, FaultKeepsReaders, ReadyKeepsReaders, MirrorKeepsReaders}
use Rattle.play_reads.specs.Keeping.{KeepsServers, ReadingEndsStay, OwnStepsKeepReads, HearingKeepsReads, DownKeepsReads, FaultKeepsReads, ReadyKeepsReads, MirrorKeepsReads, CutsKeepReads}
use Rattle.play_reads.proofs.ClientLaws.{no_writer_reads}
use Rattle.play_reads.proofs.KeepLaws.{none_between}

-- PURPOSES

pub reads_no_pipeline : (u : Upper) → is_pipeline u ≡ true → purpose_of u ≡ reading → ⊥
reads_no_pipeline (by_writer b) is e = cc
reads_no_pipeline (by_member d) is e = cc
reads_no_pipeline (by_reader line) is e = cc
reads_no_pipeline (by_primary p place) is e = cc

pub reads_elsewhere : (u : Upper) → purpose_of u ≡ reading → is_pipeline u ≡ false
reads_elsewhere (by_writer b) e = cc
reads_elsewhere (by_member d) e = cc
reads_elsewhere (by_reader line) e = refl
reads_elsewhere (by_primary p place) e = refl

-- WRITERS

writer_dialled : (w : World) (b c : ℕ) → Ordered w → (w.writers b).conn ≡ Some c → (w.dialled c).upper ≡ by_writer b
writer_dialled w b c ordered is =
    let at : IsWriterConn (w.dialled c) (w.up_marks c).taken b (w.writers b).known =
    subst (λ (n : Option ℕ). IfSome n (λ q. IsWriterConn (w.dialled q) (w.up_marks q).taken b (w.writers b).known)) is (ordered.writers_are b) in
    at.upper

-- No reader dialled the connection of a writer.
away : (w : World) (b d : ℕ) (lower : Bool) → Ordered w → purpose_of (w.dialled d).upper ≡ reading → IfSome (w.writers b).conn (λ c. IsElsewhere c false d lower)
away w b d lower ordered e = each (w.writers b).conn refl
  where
    each : (n : Option ℕ) → (w.writers b).conn ≡ n → IfSome n (λ c. IsElsewhere c false d lower)
    each None of = tt
    each (Some c) of = λ same. absurd (no_writer_reads b (w.dialled c).upper (writer_dialled w b c ordered of) (ap (λ (n : ℕ). purpose_of (w.dialled n).upper) same ∙ e))

-- What is elsewhere is what servers show.
elsewhere_servers : (w v : World) → KeepsElsewhere w v → KeepsServers w v
elsewhere_servers w v k = record {
  served = record { grows = k.grows; dialled = k.dialled; running = k.running; lives = k.lives };
  fresh = λ d le lt e. reads_no_pipeline (v.dialled d).upper (k.fresh d le lt) e;
  lowers = λ d before e. (k.conns d before (reads_elsewhere (w.dialled d).upper e)).lower;
}

module _ {I O : Type 0} (i : link_in.Ghosts I) (o : link_out.Ghosts O) where
  writer_ends : (w : World) (net : Net) (v : World) (made : Net) (b : ℕ) → Ordered w → OthersStay i o w net v made (w.writers b).conn → ReadingEndsStay i o w net v made
  writer_ends w net v made b ordered others = λ d lower e is h. others d lower e (away w b d lower ordered is) h

  pub own_steps_kept : OwnLeaves → OwnStepsKeepReaders → OwnStepsKeepReads i o
  own_steps_kept leaves readers w net made queues block ordered others = record {
    ordered = ordered;
    readers = readers w queues block;
    servers = elsewhere_servers w (run w (due_events w queues (due.Own block))) (leaves w queues block ordered);
    ends = writer_ends w net (run w (due_events w queues (due.Own block))) made block.0 ordered others;
  }

  pub hearing_kept : HeardLeaves → HearingKeepsReaders → HearingKeepsReads i o
  hearing_kept leaves readers w net made conn b ordered upper others = record {
    ordered = ordered;
    readers = readers w conn b upper;
    servers = elsewhere_servers w (happens w (event.Up conn)) (leaves w conn b ordered upper);
    ends = writer_ends w net (happens w (event.Up conn)) made b ordered others;
  }

  elsewhere_ends : (w : World) (net : Net) (v : World) (made : Net) → ElsewhereStays i o w net v made → ReadingEndsStay i o w net v made
  elsewhere_ends w net v made stays = λ d lower e is h. stays d lower e (reads_elsewhere (w.dialled d).upper is) h

  pub downs_kept : DownLeaves → DownKeepsReaders → DownKeepsReads i o
  downs_kept leaves readers w net made conn answered ordered is stays = record {
    ordered = ordered;
    readers = readers w conn answered;
    servers = elsewhere_servers w (happens w (event.Down conn answered)) (leaves w conn answered ordered (λ within. is));
    ends = elsewhere_ends w net (happens w (event.Down conn answered)) made stays;
  }

  pub faults_kept : FaultLeaves → FaultKeepsReaders → FaultKeepsReads i o
  faults_kept leaves readers w net made conn ordered is stays = record {
    ordered = ordered;
    readers = readers w conn;
    servers = elsewhere_servers w (happens w (event.Fault (delivery.Down conn))) (leaves w conn ordered (λ within. is));
    ends = elsewhere_ends w net (happens w (event.Fault (delivery.Down conn))) made stays;
  }

  pub readies_kept : ReadyLeaves → ReadyKeepsReaders → ReadyKeepsReads i o
  readies_kept leaves readers w net made conn ordered is stays = record {
    ordered = ordered;
    readers = readers w conn;
    servers = elsewhere_servers w (happens w (event.Ready conn)) (leaves w conn ordered (λ within. is));
    ends = elsewhere_ends w net (happens w (event.Ready conn)) made stays;
  }

  pub mirrors_kept : MirrorLeaves → MirrorKeepsReaders → MirrorKeepsReads i o
  mirrors_kept leaves readers w net made conn d ordered upper stays = record {
    ordered = ordered;
    readers = readers w conn d upper;
    servers = elsewhere_servers w (happens w (event.Up conn)) (leaves w conn d ordered upper);
    ends = elsewhere_ends w net (happens w (event.Up conn)) made stays;
  }

  -- CUTS

  pub cuts_kept : CutsAreLosses → EndsStayInCuts i o → CutsKeepReads i o
  cuts_kept losses stay w net conn down up ordered within =
      let cut : IsCut w (cut_world w conn down up) conn.0 down up = (losses w net conn down up within).is in
      let v : World = cut_world w conn down up in
      record {
        ordered = ordered;
        readers = record {
          readers = λ line. ap (λ (u : World). u.readers line) cut.is;
          over = λ line c is. over_cut w v conn.0 down up c false cut;
        };
        servers = record {
          served = record {
            grows = subst (λ (u : World). w.next_conn ≤ u.next_conn) (sym cut.is) (omega arith);
            dialled = λ d z. ap (λ (u : World). u.dialled d) cut.is;
            running = λ n. ap (λ (u : World). u.running n) cut.is;
            lives = λ n. ap (λ (u : World). u.lives n) cut.is;
          };
          fresh = λ d le lt e. none_between w.next_conn v.next_conn d (ap (λ (u : World). u.next_conn) cut.is) le lt;
          lowers = λ d before z. ap (λ (u : World). u.lowers d) cut.is;
        };
        ends = λ d lower e is h. stay w v net conn.0 down up d lower e cut h;
      }
