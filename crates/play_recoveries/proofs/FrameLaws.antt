-- Which connections primaries dialled, and cuts, which keep what the recoveries show.
use Rattle.std.proofs.Common.{◌≡◌, false, [], ◌∷◌, refl, ap}
use Rattle.hd_base.specs.declared.links.LinkIn as link_in
use Rattle.hd_base.specs.declared.links.LinkOut as link_out
use Rattle.world.specs.declared.events.Direction.TheVariants as direction
use Rattle.world.specs.declared.events.Event.TheVariants as event
use Rattle.world.specs.Parts.{Upper, by_writer, by_member, by_reader, by_primary}
use Rattle.world.specs.Worlds.{World}
use Rattle.play_primaries.specs.WorldCuts.Cutting.{cut_world, cut_net, IsCut, CutsAreLosses, EndsStayInCuts}
use Rattle.play_primaries.proofs.WorldCuts.CutLemmas.{over_cut}
use Rattle.play_nodes.specs.WorldOrders.Orders.{purpose_of, recovering}
use Rattle.play_nodes.specs.Showing.{is_pipeline}
use Rattle.play_primaries.specs.Staying.{PrimaryClientsStay}
use Rattle.play_recoveries.specs.Keeping.{CutsKeepRecoveries}
use Rattle.play_recoveries.proofs.KeepLaws.{no_more, none_between, recoveries_kept}
use Rattle.play_recoveries.proofs.ShutLaws.{run_first, run_shut}

-- PURPOSES

pub recoveries_elsewhere : (u : Upper) → purpose_of u ≡ recovering → is_pipeline u ≡ false
recoveries_elsewhere (by_writer b) e = cc
recoveries_elsewhere (by_member d) e = cc
recoveries_elsewhere (by_reader line) e = cc
recoveries_elsewhere (by_primary p place) e = refl

-- CUTS

pub cuts_kept : {I O : Type 0} (i : link_in.Ghosts I) (o : link_out.Ghosts O) → PrimaryClientsStay i o → CutsAreLosses → EndsStayInCuts i o → CutsKeepRecoveries i o
cuts_kept i o stay losses ends_stay w net conn down up blocks p h ordered within =
    let v : World = cut_world w conn down up in
    let cut : IsCut w v conn.0 down up = (losses w net conn down up within).is in
    let events = event.Lost conn direction.Down down ∷ (event.Lost conn direction.Up up ∷ []) in
    recoveries_kept i o stay w net v (cut_net net conn.0 down up) blocks p h (record {
      ordered = ordered;
      primaries = record {
        primaries = λ k. ap (λ (u : World). u.primaries k) cut.is;
        over = λ k place c by. over_cut w v conn.0 down up c false cut;
        shut = λ c is. run_shut w events c is;
      };
      servers = record {
        served = record {
          grows = no_more w.next_conn v.next_conn (ap (λ (u : World). u.next_conn) cut.is);
          dialled = λ d z. ap (λ (u : World). u.dialled d) cut.is;
          running = λ n. ap (λ (u : World). u.running n) cut.is;
          lives = λ n. ap (λ (u : World). u.lives n) cut.is;
        };
        fresh = λ d le lt e. none_between w.next_conn v.next_conn d (ap (λ (u : World). u.next_conn) cut.is) le lt;
        lowers = λ d before z. ap (λ (u : World). u.lowers d) cut.is;
        first = λ d before. run_first w events d;
      };
      ends = λ d lower e is x. ends_stay w v net conn.0 down up d lower e cut x;
    })
