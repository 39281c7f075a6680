-- What a reading client hears, and the world after it.
use Rattle.std.proofs.Common.{◌≡◌, ℕ, true, false, Option, Some, None, is_some, Result, Ok, Err, refl, sym, ap, ◌∙◌, subst, eqb-true}
use Rattle.std.specs.Prelude.{◌&&◌, ◌==◌, nat_lt}
use Rattle.hd_base.specs.declared.links.LinkIn as link_in
use Rattle.hd_base.specs.declared.links.LinkOut as link_out
use Rattle.hd_base.specs.declared.numbers.ConnId.{ConnId}
use Rattle.hd_base.specs.declared.roads.Roads as roads
use Rattle.road_traffic.specs.Showing.{Net}
use Rattle.reader_events.specs.VisibleRead.Reading.{Reading}
use Rattle.play_model.specs.World.Event.TheVariants as event
use Rattle.play_model.specs.World.Connections.{Next, next_up}
use Rattle.play_model.specs.World.Enabled.{can_up, reads_from, takes_above}
use Rattle.play_model.specs.World.Events.{happens}
use Rattle.play_model.specs.World.Parts.{Upper, by_reader, Reader}
use Rattle.play_model.specs.World.Worlds.{World}
use Rattle.play_model.proofs.WorldLaws.FactTables.{and-left, and-right}
use Rattle.world_standings.specs.WorldNets.Drawn.{ComesUp}
use Rattle.reader_events.specs.declared.faults.ReaderFault.{ReaderFault}
use Rattle.reader_events.specs.declared.hearing.Heard.{Heard}
use Rattle.reader_events.specs.declared.hearing.Heard.TheVariants as heard
use Rattle.reader_events.specs.Faults.{IsCaused}
use Rattle.reader_events.specs.Hearing as hearing
use Rattle.reader_events.proofs.CanHearLaws.{can_hear}
use Rattle.play_model.specs.declared.asks.ReadAsk.{ReadAsk}
use Rattle.play_readers.specs.declared.clients.ReadClient.{ReadClient}
use Rattle.play_readers.specs.declared.clients.ReadState.{ReadState}
use Rattle.play_readers.specs.declared.clients.ReadState.TheVariants as state
use Rattle.play_readers.specs.Clients.{ReadClientStands, StateShows}
use Rattle.play_readers.specs.Hearing.{state_left, StateHears, HearIsLawful, HearLeft, HearShows}

some_next : (o : Option Next) → is_some o ≡ true → (x : Next) × (o ≡ Some x)
some_next None h = cc
some_next (Some x) h = (x, refl)

-- the reader reads over a connection from which it may take
reads_there : (w : World) (line c : ℕ) → can_up w c ≡ true → (w.dialled c).upper ≡ by_reader line → reads_from (w.readers line) c ≡ true
reads_there w line c can upper =
    sym (ap (λ (u : Upper). takes_above u w c) upper) ∙ and-right (nat_lt c w.next_conn && is_some (next_up w c)) (takes_above (w.dialled c).upper w c) can

module _ {R I O : Type 0} (r : roads.Ghosts R I O) (i : link_in.Ghosts I) (o : link_out.Ghosts O) where
  -- How the event ends that leaves this of a client with this line, unless it has failed.
  abbrev EndsWith : World → Net → ConnId → ReadAsk → ReadState I O → R → R → Result (ReadState I O) ReaderFault → Type 0
  EndsWith w net conn ask st road road' (Ok left) =
      HearLeft r i o w net (happens w (event.Up conn)) conn (record { ask = ask; state = st }) (record { ask = ask; state = left }) road'
  EndsWith w net conn ask st road road' (Err why) = IsCaused r conn.0 road road' why

  module _ (w : World) (net : Net) (ask : ReadAsk) (road road' : R) where
    left_ends : (conn : ConnId) (st : ReadState I O) (left : Result (Heard I O) ReaderFault) → hearing.HearEnds r i o w net (happens w (event.Up conn)) ask.reader conn.0 road road' left → EndsWith w net conn ask st road road' (state_left left)
    left_ends conn st (Ok (heard.Reading reading)) k = record { made = k.made; stands = record { roads_are = k.roads_are; client_is = k.left_is }; ask = refl; others = k.others }
    left_ends conn st (Ok (heard.Read read)) k = record { made = k.made; stands = record { roads_are = k.roads_are; client_is = k.left_is }; ask = refl; others = k.others }
    left_ends conn st (Err why) k = k

    -- on the connection of the read
    hears_here : (reading : Reading I O) (result : Result (ReadState I O) ReaderFault) → StateHears r i o (state.Reads reading) road road' result → ReadClientStands r i o w net (record { ask = ask; state = state.Reads reading }) road → HearIsLawful w
        → can_up w reading.end.id.0 ≡ true → EndsWith w net reading.end.id ask (state.Reads reading) road road' result
    hears_here reading result h stands law can =
        let c : ℕ = reading.end.id.0 in
        let before : (nat_lt c w.next_conn && is_some (next_up w c)) ≡ true = and-left (nat_lt c w.next_conn && is_some (next_up w c)) (takes_above (w.dialled c).upper w c) can in
        let x = some_next (next_up w c) (and-right (nat_lt c w.next_conn) (is_some (next_up w c)) before) in
        let comes : ComesUp w c x.0 = record { known = and-left (nat_lt c w.next_conn) (is_some (next_up w c)) before; next = x.1 } in
        subst (λ (z : Result (ReadState I O) ReaderFault). EndsWith w net reading.end.id ask (state.Reads reading) road road' z) (sym h.is)
        (left_ends reading.end.id (state.Reads reading) h.left
        (h.shows w net ask.reader x.0 (record { roads_are = stands.roads_are; shows = stands.client_is })
        (can_hear w reading.end.id ask.reader stands.client_is.state x.0 law.in_order law.written comes stands.client_is.reader)))

    -- over the connection over which it may take, the reader reads
    same_conn : (reading : Reading I O) (conn : ConnId) → StateShows i o w net ask.reader (state.Reads reading) → reads_from (w.readers ask.reader) conn.0 ≡ true → reading.end.id ≡ conn
    same_conn reading conn h there =
        let same : (reading.end.id.0 == conn.0) ≡ true = sym (ap (λ (x : Reader). reads_from x conn.0) h.reader) ∙ there in
        ap (λ (n : ℕ). let c : ConnId = record { 0 = n } in c) (eqb-true reading.end.id.0 conn.0 same)

    pub hears_so : (st : ReadState I O) (result : Result (ReadState I O) ReaderFault) (conn : ConnId) → StateHears r i o st road road' result → ReadClientStands r i o w net (record { ask = ask; state = st }) road → HearIsLawful w
        → can_up w conn.0 ≡ true → (w.dialled conn.0).upper ≡ by_reader ask.reader → EndsWith w net conn ask st road road' result
    hears_so state.Asks result conn h stands law can upper =
        let e : false ≡ true = sym (ap (λ (x : Reader). reads_from x conn.0) stands.client_is) ∙ reads_there w ask.reader conn.0 can upper in cc
    hears_so (state.HasRead read) result conn h stands law can upper =
        let e : false ≡ true = sym (ap (λ (x : Reader). reads_from x conn.0) stands.client_is) ∙ reads_there w ask.reader conn.0 can upper in cc
    hears_so (state.Reads reading) result conn h stands law can upper =
        let same : reading.end.id ≡ conn = same_conn reading conn stands.client_is (reads_there w ask.reader conn.0 can upper) in
        subst (λ (n : ConnId). EndsWith w net n ask (state.Reads reading) road road' result) same
        (hears_here reading result h stands law (subst (λ (n : ConnId). can_up w n.0 ≡ true) (sym same) can))

  -- What stood next was taken.
  pub hear_left : (old : ReadClient I O) (left : ReadState I O) (road road' : R) → StateHears r i o old.state road road' (Ok left) → HearShows r i o old (record { ask = old.ask; state = left }) road road' (Ok tt)
  hear_left old left road road' h = λ w net conn stands law can upper. hears_so w net old.ask road road' old.state (Ok left) conn h stands law can upper

  -- It wasn't.
  pub hear_failed : (old new : ReadClient I O) (road road' : R) (why : ReaderFault) (result : Result (Unit {0}) ReaderFault) → StateHears r i o old.state road road' (Err why) → result ≡ Err why → HearShows r i o old new road road' result
  hear_failed old new road road' why result h is =
      subst (λ (z : Result (Unit {0}) ReaderFault). HearShows r i o old new road road' z) (sym is)
      (λ w net conn stands law can upper. hears_so w net old.ask road road' old.state (Err why) conn h stands law can upper)
