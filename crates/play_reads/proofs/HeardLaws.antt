-- What a reader hears, as the clauses say it.
use Rattle.std.proofs.Common.{◌≡◌, ◌<◌, ℕ, Bool, true, false, slice_get, slice_set, Some, None, Ok, Err, sym, ap, ◌∙◌}
use Rattle.std.specs.Prelude.{◌&&◌, is_some, nat_lt}
use Rattle.hd_base.specs.declared.files.Files as files
use Rattle.hd_base.specs.declared.links.LinkIn as link_in
use Rattle.hd_base.specs.declared.links.LinkOut as link_out
use Rattle.hd_base.specs.declared.numbers.ConnId.{ConnId}
use Rattle.hd_base.specs.declared.roads.Roads as roads
use Rattle.road_traffic.specs.Showing.{Net}
use Rattle.world.specs.Connections.{next_up}
use Rattle.world.specs.Enabled.{takes_above}
use Rattle.world.specs.Parts.{by_reader}
use Rattle.world.specs.Worlds.{World}
use Rattle.play_nodes.proofs.WorldLaws.FactTables.{and-left}
use Rattle.play_nodes.specs.PlayModel.Due.TheVariants as due
use Rattle.play_nodes.specs.PlayModel.Dues.{Queues, is_due}
use Rattle.play_primaries.specs.ReaderEvents.ReaderFault.{ReaderFault}
use Rattle.play_nodes.specs.declared.nodes.Nodes.{Nodes}
use Rattle.play_nodes.specs.Frames.{NodesStay}
use Rattle.play_primaries.specs.PlayReaders.ReadClient.{ReadClient}
use Rattle.play_primaries.specs.PlayReaders.Frames as readers
use Rattle.play_primaries.specs.PlayReaders.Hearing as hearing
use Rattle.play_primaries.specs.PlayReaders.Staying.{ReadClientsStay}
use Rattle.play_nodes.proofs.PlaceLaws.{same_some}
use Rattle.play_reads.specs.declared.reads.Reads.{Reads}
use Rattle.play_reads.specs.Dues.{IsClientOf, TellsClient}
use Rattle.play_reads.specs.Faults.{of_reader}
use Rattle.play_reads.specs.Hearing.{HearShows}
use Rattle.play_reads.specs.Showing.{ReadsStand}
use Rattle.play_reads.proofs.DueLaws.{none_up}
use Rattle.play_reads.proofs.HearLaws.{up_can, reader_caused, heard_reads, heard_stands}
use Rattle.play_reads.proofs.KeepLaws.{before_so}

within_so : (w : World) (queues : Queues) (conn : ConnId) → is_due w queues (due.Up conn) ≡ true → conn.0 < w.next_conn
within_so w queues conn e =
    before_so conn.0 w.next_conn (and-left (nat_lt conn.0 w.next_conn) (is_some (next_up w conn.0)) (and-left (nat_lt conn.0 w.next_conn && is_some (next_up w conn.0)) (takes_above (w.dialled conn.0).upper w conn.0) (up_can w queues conn e)))

false_true : (b : Bool) → false ≡ b → b ≡ true → ⊥
false_true b x y = cc

module _ {F R I O : Type 0} (f : files.Ghosts F) (r : roads.Ghosts R I O) (i : link_in.Ghosts I) (o : link_out.Ghosts O) where
  pub hear_none : (conn : ConnId) (n : Nodes F I O) (p : Reads I O) (road : R) → TellsClient i o conn n p None → HearShows f r i o conn n p p road road (Ok tt)
  hear_none conn n p road told = λ w net queues h lawful is purpose.
      absurd (false_true (is_due w queues (due.Up conn)) (none_up r i o conn n p road told w net queues h lawful.in_order (within_so w queues conn is) purpose).1 is)

  module _ (conn : ConnId) (n : Nodes F I O) (old : Reads I O) (place : ℕ) (c : ReadClient I O) (told : TellsClient i o conn n old (Some place)) (at : slice_get old.clients.items place ≡ Some c) where
    dialled_so : (w : World) (net : Net) (queues : Queues) (road : R) → ReadsStand r i o w net road n old → is_due w queues (due.Up conn) ≡ true → (w.dialled conn.0).upper ≡ by_reader c.ask.reader
    dialled_so w net queues road h is =
        let client : IsClientOf w conn.0 old.clients.items place = told w net h.nodes.nodes_are h.reads_are (within_so w queues conn is) in
        client.dialled ∙ ap (λ (x : ReadClient I O). by_reader x.ask.reader) (same_some client.client c (sym client.at ∙ at))

    pub hear_left : (new : Reads I O) (c' : ReadClient I O) (road road' : R) → ReadClientsStay i o → NodesStay f i o → readers.HearingKeepsNodes → readers.HearingKeepsOthers → new.clients.items ≡ slice_set old.clients.items place c' → new.servers ≡ old.servers
        → hearing.HearShows r i o c c' road road' (Ok tt) → HearShows f r i o conn n old new road road' (Ok tt)
    hear_left new c' road road' stay nodes_stay nodes keeps set same shows = λ w net queues h lawful is purpose.
        let upper = dialled_so w net queues road h is in
        heard_reads f r i o w net conn place n old new c c' road road' stay nodes_stay nodes keeps h lawful.ordered at upper set same
        (shows w net conn (heard_stands f r i o w net n old road place c h at) (record { in_order = lawful.in_order; written = lawful.written }) (up_can w queues conn is) upper)

    pub hear_failed : (new : Reads I O) (c' : ReadClient I O) (road road' : R) (why : ReaderFault) → hearing.HearShows r i o c c' road road' (Err why) → HearShows f r i o conn n old new road road' (Err (of_reader why))
    hear_failed new c' road road' why shows = λ w net queues h lawful is purpose.
        reader_caused f r n n road road' conn.0 why
        (shows w net conn (heard_stands f r i o w net n old road place c h at) (record { in_order = lawful.in_order; written = lawful.written }) (up_can w queues conn is) (dialled_so w net queues road h is))
