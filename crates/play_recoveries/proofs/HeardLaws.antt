-- What a primary hears, as the clauses say it.
use Rattle.std.proofs.Common.{◌≡◌, ◌<◌, Bool, true, false, slice_get, slice_set, Some, None, Ok, Err, sym, ap, ◌∙◌}
use Rattle.std.specs.Prelude.{◌&&◌, is_some, nat_lt}
use Rattle.hd_base.specs.declared.files.Files as files
use Rattle.hd_base.specs.declared.links.LinkIn as link_in
use Rattle.hd_base.specs.declared.links.LinkOut as link_out
use Rattle.hd_base.specs.declared.numbers.ConnId.{ConnId}
use Rattle.hd_base.specs.declared.roads.Roads as roads
use Rattle.road_traffic.specs.Showing.{Net}
use Rattle.world.specs.Connections.{next_up}
use Rattle.world.specs.Enabled.{takes_above}
use Rattle.world.specs.Parts.{by_primary}
use Rattle.world.specs.Worlds.{World}
use Rattle.play_model.proofs.WorldLaws.FactTables.{and-left}
use Rattle.play_primaries.specs.PrimaryEvents.PrimaryFault.{PrimaryFault}
use Rattle.play_model.specs.declared.dues.Due.TheVariants as due
use Rattle.play_model.specs.Dues.{Queues, is_due}
use Rattle.play_nodes.specs.declared.nodes.Nodes.{Nodes}
use Rattle.play_nodes.specs.Frames.{NodesStay}
use Rattle.play_nodes.proofs.PlaceLaws.{same_some}
use Rattle.play_primaries.specs.declared.clients.PrimaryClient.{PrimaryClient}
use Rattle.play_primaries.specs.Frames as primaries
use Rattle.play_primaries.specs.Hearing as hearing
use Rattle.play_primaries.specs.Staying.{PrimaryClientsStay}
use Rattle.play_recoveries.specs.declared.dues.Leader.{Leader}
use Rattle.play_recoveries.specs.declared.recoveries.Recoveries.{Recoveries}
use Rattle.play_recoveries.specs.Dues.{IsClientOf, TellsClient}
use Rattle.play_recoveries.specs.Faults.{of_primary}
use Rattle.play_recoveries.specs.Hearing.{HearShows}
use Rattle.play_recoveries.specs.Showing.{HasSeats, RecoveriesStand}
use Rattle.play_recoveries.proofs.DueLaws.{none_up}
use Rattle.play_recoveries.proofs.HearLaws.{up_can, primary_caused, heard_recoveries, heard_stands}
use Rattle.play_recoveries.proofs.KeepLaws.{before_so}

within_so : (w : World) (queues : Queues) (conn : ConnId) → is_due w queues (due.Up conn) ≡ true → conn.0 < w.next_conn
within_so w queues conn e =
    before_so conn.0 w.next_conn (and-left (nat_lt conn.0 w.next_conn) (is_some (next_up w conn.0)) (and-left (nat_lt conn.0 w.next_conn && is_some (next_up w conn.0)) (takes_above (w.dialled conn.0).upper w conn.0) (up_can w queues conn e)))

false_true : (b : Bool) → false ≡ b → b ≡ true → ⊥
false_true b x y = cc

module _ {F R I O : Type 0} (f : files.Ghosts F) (r : roads.Ghosts R I O) (i : link_in.Ghosts I) (o : link_out.Ghosts O) where
  pub hear_none : (conn : ConnId) (n : Nodes F I O) (p : Recoveries I O) (road : R) → TellsClient i o conn n p None → HearShows f r i o conn n p p road road (Ok tt)
  hear_none conn n p road told = λ w net queues h lawful is purpose.
      absurd (false_true (is_due w queues (due.Up conn)) (none_up r i o conn n p road told w net queues h lawful.placed (within_so w queues conn is) purpose).1 is)

  module _ (conn : ConnId) (n : Nodes F I O) (old : Recoveries I O) (l : Leader) (c : PrimaryClient I O) (told : TellsClient i o conn n old (Some l)) (at : slice_get old.clients.items l.client ≡ Some c) where
    dialled_so : (w : World) (net : Net) (queues : Queues) (road : R) → RecoveriesStand r i o w net road n old → is_due w queues (due.Up conn) ≡ true → (w.dialled conn.0).upper ≡ by_primary c.recovery.primary l.place
    dialled_so w net queues road h is =
        let client : IsClientOf w conn.0 old.clients.items l = told w net h.nodes.nodes_are h.recoveries_are (within_so w queues conn is) in
        client.dialled ∙ ap (λ (x : PrimaryClient I O). by_primary x.recovery.primary l.place) (same_some client.client c (sym client.at ∙ at))

    pub hear_left : (new : Recoveries I O) (c' : PrimaryClient I O) (road road' : R) → PrimaryClientsStay i o → NodesStay f i o → primaries.HearingKeepsNodes → primaries.HearingKeepsOthers → new.clients.items ≡ slice_set old.clients.items l.client c' → new.servers ≡ old.servers → HasSeats c'.state
        → hearing.HearShows r i o l.place c c' road road' (Ok tt) → HearShows f r i o conn n old new road road' (Ok tt)
    hear_left new c' road road' stay nodes_stay nodes keeps set same seats shows = λ w net queues h lawful is purpose.
        let upper = dialled_so w net queues road h is in
        heard_recoveries f r i o w net conn l.place l.client n old new c c' road road' stay nodes_stay nodes keeps h lawful.ordered at upper set same seats
        (shows w net conn (heard_stands f r i o w net n old road l.client c h at) lawful (up_can w queues conn is) upper)

    pub hear_failed : (new : Recoveries I O) (c' : PrimaryClient I O) (road road' : R) (why : PrimaryFault) → hearing.HearShows r i o l.place c c' road road' (Err why) → HearShows f r i o conn n old new road road' (Err (of_primary why))
    hear_failed new c' road road' why shows = λ w net queues h lawful is purpose.
        primary_caused f r n n road road' conn.0 why
        (shows w net conn (heard_stands f r i o w net n old road l.client c h at) lawful (up_can w queues conn is) (dialled_so w net queues road h is))
