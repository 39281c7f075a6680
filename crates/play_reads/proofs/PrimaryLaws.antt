-- The events of primaries, and of the lower ends that they dialled, keep what the reads show.
use Rattle.std.proofs.Common.{◌≡◌, ℕ, false, List, refl, sym, ap, ◌∙◌, subst}
use Rattle.hd_base.specs.declared.links.LinkIn as link_in
use Rattle.hd_base.specs.declared.links.LinkOut as link_out
use Rattle.world.specs.declared.events.Event.{Event}
use Rattle.world.specs.declared.events.Event.TheVariants as event
use Rattle.world.specs.Events.{happens, run}
use Rattle.world.specs.Parts.{Upper, by_writer, by_member, by_reader, by_primary, Primary, no_primary, was_told, leads, has_led}
use Rattle.world.specs.Worlds.{World}
use Rattle.play_nodes.specs.WorldOrders.Orders.{purpose_of, recovering}
use Rattle.play_nodes.specs.PlayModel.Recovery.{Recovery}
use Rattle.play_nodes.specs.PlayModel.Recoveries.{all_answered, primary_events}
use Rattle.play_primaries.specs.PlayReaders.Frames.{KeepsReaders, DownKeepsReaders, TakesNothing}
use Rattle.play_primaries.specs.Frames.{KeepsOthers, OwnStepsKeepOthers, HearingKeepsOthers, OwnKeepsNodes, OwnStepsKeepNodes, HearingKeepsNodes}
use Rattle.play_primaries.specs.Owning.{own_events, step_events}
use Rattle.play_reads.specs.Keeping.{KeepsServers, LeadingKeepsReads, AnswersKeepReads, AnsweringKeepsReads}
use Rattle.play_reads.proofs.ClientLaws.{no_recovery_reads}
use Rattle.play_reads.proofs.FrameLaws.{reads_no_pipeline}
use Rattle.play_reads.proofs.KeepLaws.{none_between}
use Rattle.play_reads.proofs.ThereLaws.{down_alone}

-- WHO DIALLED

-- a primary did
record IsLed (u : Upper) : Type 0 where
  primary : ℕ
  place : ℕ
  is : u ≡ by_primary primary place

led_by : (u : Upper) → purpose_of u ≡ recovering → IsLed u
led_by (by_writer b) of = cc
led_by (by_member d) of = cc
led_by (by_reader line) of = cc
led_by (by_primary n place) of = record { primary = n; place = place; is = refl }

-- AN OWN STEP

-- all nodes that run answer its dials
same_events : (p : Primary) (r : Recovery) → step_events p r (all_answered r.members) ≡ primary_events p r
same_events no_primary r = refl
same_events (was_told asked told) r = refl
same_events (leads l) r = refl
same_events (has_led e) r = refl

led_readers : (w v : World) (number : ℕ) → KeepsOthers w v number → TakesNothing w v → KeepsReaders w v
led_readers w v number k takes = record { readers = k.readers; over = λ line c by. takes c false }

led_servers : (w v : World) (number : ℕ) → OwnKeepsNodes w v number → KeepsServers w v
led_servers w v number k = record {
  served = record { grows = k.keeps.grows; dialled = k.keeps.dialled; running = k.keeps.running; lives = k.keeps.lives };
  fresh = λ d le lt e. no_recovery_reads (v.dialled d).upper (ap purpose_of (k.dials d le lt).upper) e;
  lowers = λ d before e. k.keeps.lowers d;
}

module _ {I O : Type 0} (i : link_in.Ghosts I) (o : link_out.Ghosts O) where
  pub leading_kept : OwnStepsKeepOthers → OwnStepsKeepNodes → LeadingKeepsReads i o
  leading_kept others nodes w net made r ordered ends =
      let events : List Event = own_events w r (all_answered r.members) in
      let same = same_events (w.primaries r.primary) r in
      let k = others w r (all_answered r.members) in
      record {
        ordered = ordered;
        readers = subst (λ (es : List Event). KeepsReaders w (run w es)) same (led_readers w (run w events) r.primary k.0 k.1);
        servers = subst (λ (es : List Event). KeepsServers w (run w es)) same (led_servers w (run w events) r.primary (nodes w r (all_answered r.members)));
        ends = ends;
      }

  -- WHAT IT TAKES

  pub answers_kept : HearingKeepsOthers → HearingKeepsNodes → AnswersKeepReads i o
  answers_kept others nodes w net made conn ordered of ends =
      let v : World = happens w (event.Up conn) in
      let x = led_by (w.dialled conn.0).upper of in
      let k = others w conn x.primary x.place x.is in
      let n = nodes w conn x.primary x.place x.is in
      record {
        ordered = ordered;
        readers = record {
          readers = k.others.readers;
          over = λ line c by. k.takes c false (λ same. absurd (no_recovery_reads (w.dialled c).upper (ap (λ (m : ℕ). purpose_of (w.dialled m).upper) (sym same) ∙ of) (ap purpose_of by)));
        };
        servers = record {
          served = record { grows = n.keeps.grows; dialled = n.keeps.dialled; running = n.keeps.running; lives = n.keeps.lives };
          fresh = λ d le lt e. none_between w.next_conn v.next_conn d n.conns le lt;
          lowers = λ d before e. n.keeps.lowers d;
        };
        ends = ends;
      }

  -- WHAT A LOWER END TAKES

  pub answering_kept : DownKeepsReaders → AnsweringKeepsReads i o
  answering_kept keeps w net made conn answered ordered of ends =
      let v : World = happens w (event.Down conn answered) in
      let k = down_alone w conn answered in
      record {
        ordered = ordered;
        readers = keeps w conn answered;
        servers = record {
          served = k.served;
          fresh = λ d le lt e. reads_no_pipeline (v.dialled d).upper (k.fresh d le lt) e;
          lowers = λ d before e. k.lowers d (λ same. no_recovery_reads (w.dialled d).upper (ap (λ (m : ℕ). purpose_of (w.dialled m).upper) same ∙ of) e);
        };
        ends = ends;
      }
