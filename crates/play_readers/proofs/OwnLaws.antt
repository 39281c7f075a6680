-- The own step of a reading client, and the world after it.
use Rattle.std.proofs.Common.{◌≡◌, ℕ, true, false, Some, None, Ok, Err, refl, sym, ap, ◌∙◌}
use Rattle.hd_base.specs.declared.ends.Conn.{Conn}
use Rattle.hd_base.specs.declared.links.LinkIn as link_in
use Rattle.hd_base.specs.declared.links.LinkOut as link_out
use Rattle.hd_base.specs.declared.numbers.ConnId.{ConnId}
use Rattle.hd_base.specs.declared.roads.Roads as roads
use Rattle.reader_events.specs.ReadCore.ReadFault.TheVariants as read_fault
use Rattle.road_traffic.specs.Showing.{Net}
use Rattle.reader_events.specs.VisibleRead.Reading.{Reading}
use Rattle.play_model.specs.World.Events.{happens}
use Rattle.play_model.specs.World.Parts.{no_reader, reads}
use Rattle.play_model.specs.World.Worlds.{World}
use Rattle.reader_events.specs.declared.asking.Asked.TheVariants as left_by
use Rattle.reader_events.specs.declared.faults.ReaderFault.{ReaderFault}
use Rattle.reader_events.specs.Asking.{AskShows, NodeAsked, NodeSilent}
use Rattle.play_readers.specs.declared.clients.ReadClient.{ReadClient}
use Rattle.play_readers.specs.declared.clients.ReadState.{ReadState}
use Rattle.play_readers.specs.declared.clients.ReadState.TheVariants as state
use Rattle.play_model.specs.Asks.{request_of, asking_node}
use Rattle.play_readers.specs.Clients.{is_new, StateShows}
use Rattle.play_readers.specs.Owning.{OwnShows}

module _ {R I O : Type 0} (r : roads.Ghosts R I O) (i : link_in.Ghosts I) (o : link_out.Ghosts O) where
  -- The node was asked.
  pub own_reached : (old : ReadClient I O) (reading : Reading I O) (lower : Conn I O) (road road' : R) → AskShows r i o (request_of old.ask) old.ask.node road road' (Ok (left_by.Reading reading lower))
      → OwnShows r i o old (record { ask = old.ask; state = state.Reads reading }) road road' (Ok (Some lower))
  own_reached old reading lower road road' h = λ w net stands can.
      let k : NodeAsked r i o w net (happens w (asking_node old.ask true)) old.ask.reader old.ask.node reading lower road' = h w net old.ask.reader stands.roads_are can in
      record {
        made = k.made;
        stands = record { roads_are = k.stands.roads_are; client_is = k.stands.shows };
        ask = refl;
        conn_is = ap (λ (n : ℕ). let c : ConnId = record { 0 = n } in Some c) k.conn_is;
        end_is = k.end_is;
        lower_same = k.lower_same;
        upper = k.upper;
        node_is = k.node_is;
        last = k.last;
        others = k.others;
      }

  -- Nobody listens at its port.
  pub own_unreached : (old : ReadClient I O) (road road' : R) → AskShows r i o (request_of old.ask) old.ask.node road road' (Ok left_by.Unanswered)
      → OwnShows r i o old (record { ask = old.ask; state = state.HasRead (Err read_fault.Ended) }) road road' (Ok None)
  own_unreached old road road' h = λ w net stands can answered.
      let k : NodeSilent r i o w net (happens w (asking_node old.ask answered)) old.ask.reader old.ask.node road' = h w net old.ask.reader stands.roads_are can answered in
      record {
        stopped = k.stopped;
        stands = record { roads_are = k.roads_are; client_is = k.reader };
        ended = refl;
        last = k.last;
        others = k.others;
      }

  pub own_failed : (old new : ReadClient I O) (road road' : R) (why : ReaderFault) → AskShows r i o (request_of old.ask) old.ask.node road road' (Err why) → OwnShows r i o old new road road' (Err why)
  own_failed old new road road' why h = λ w net stands can. h w net old.ask.reader stands.roads_are can

  asked_before : (st : ReadState I O) (w : World) (net : Net) (line : ℕ) → is_new st ≡ false → StateShows i o w net line st → w.readers line ≡ no_reader → ⊥
  asked_before state.Asks w net line old h is = cc
  asked_before (state.Reads reading) w net line old h is = let e : reads reading.end.id.0 h.state ≡ no_reader = sym h.reader ∙ is in cc
  asked_before (state.HasRead read) w net line old h is = cc

  -- The client has asked already.
  pub own_idle : (old new : ReadClient I O) (road road' : R) → is_new old.state ≡ false → OwnShows r i o old new road road' (Ok None)
  own_idle old new road road' asked = λ w net stands can answered. absurd (asked_before old.state w net old.ask.reader asked stands.client_is can.new)
