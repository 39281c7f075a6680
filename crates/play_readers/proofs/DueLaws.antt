-- What a reading client tells of the world that it shows.
use Rattle.std.proofs.Common.{◌≡◌, ◌<◌, ◌≤◌, ◌⊎◌, inl, inr, ℕ, Bool, true, false, Option, is_some, refl, sym, ap, ◌∙◌, subst, eqb-true, lt-ltb}
use Rattle.std.specs.Prelude.{◌&&◌, ◌==◌, nat_lt}
use Rattle.hd_base.specs.Channels.{Plain}
use Rattle.hd_base.specs.Ends.{IsKnown}
use Rattle.hd_base.specs.declared.ends.Standing.{Standing}
use Rattle.hd_base.specs.declared.ends.Standing.TheVariants as standing
use Rattle.hd_base.specs.declared.links.LinkIn as link_in
use Rattle.hd_base.specs.declared.links.LinkOut as link_out
use Rattle.hd_base.specs.declared.numbers.ConnId.{ConnId}
use Rattle.hd_base.specs.declared.roads.Roads as roads
use Rattle.road_traffic.specs.Showing.{Net, RoadsShow, ShowsStanding}
use Rattle.reader_events.specs.VisibleRead.Reading.{Reading}
use Rattle.play_model.specs.World.Connections.{next_up}
use Rattle.play_model.specs.World.Enabled.{reads_from, takes_above}
use Rattle.play_model.specs.World.Parts.{Upper, Reader, no_reader, reads, has_read}
use Rattle.play_model.specs.World.Worlds.{World}
use Rattle.world_standings.specs.WorldNets.Rows.{rows_of}
use Rattle.reader_events.specs.MemberEvents.Roads.{RoadsPass}
use Rattle.reader_events.specs.MemberEvents.Showing.{ShowsWorld}
use Rattle.reader_events.specs.Orders.{ReadersTakeInOrder}
use Rattle.play_model.specs.declared.asks.ReadAsk.{ReadAsk}
use Rattle.play_model.specs.Dues.{is_unbegun}
use Rattle.play_model.proofs.AskLemmas.{asks_enabled}
use Rattle.play_readers.specs.declared.clients.ReadClient.{ReadClient}
use Rattle.play_readers.specs.declared.clients.ReadState.{ReadState}
use Rattle.play_readers.specs.declared.clients.ReadState.TheVariants as state
use Rattle.play_readers.specs.Clients.{is_new, conn_of, reads_over, StateShows}
use Rattle.play_readers.specs.Dues.{conn_read, TellsStep, TellsBegins, TellsConn, TellsReader}
use Rattle.world_standings.specs.Standings.{stands}
use Rattle.world_standings.proofs.StandingLaws.{row_stands}

-- OWN STEPS

module _ {I O : Type 0} (i : link_in.Ghosts I) (o : link_out.Ghosts O) where
  shows_new : (st : ReadState I O) (w : World) (net : Net) (line : ℕ) → StateShows i o w net line st → is_new st ≡ is_unbegun (w.readers line)
  shows_new state.Asks w net line h = sym (ap is_unbegun h)
  shows_new (state.Reads reading) w net line h = sym (ap is_unbegun h.reader)
  shows_new (state.HasRead read) w net line h = sym (ap is_unbegun h)

  pub step_tells : (c : ReadClient I O) (result : Bool) → result ≡ is_new c.state → TellsStep i o c result
  step_tells c result is = λ w net answered h.
      is ∙ (shows_new c.state w net c.ask.reader h ∙ sym (asks_enabled w c.ask answered))

  pub begins_tells : (c : ReadClient I O) (result : Bool) → result ≡ is_new c.state → TellsBegins i o c result
  begins_tells c result is = λ w net queues h. is ∙ shows_new c.state w net c.ask.reader h

  conn_as : (st : ReadState I O) (ask : ReadAsk) → TellsConn i o (record { ask = ask; state = st }) (conn_of st)
  conn_as state.Asks ask = λ w net h. sym (ap conn_read h)
  conn_as (state.Reads reading) ask = λ w net h. sym (ap conn_read h.reader)
  conn_as (state.HasRead read) ask = λ w net h. sym (ap conn_read h)

  pub conn_tells : (c : ReadClient I O) (result : Option ConnId) → result ≡ conn_of c.state → TellsConn i o c result
  conn_tells c result is = subst (λ (x : Option ConnId). TellsConn i o c x) (sym is) (conn_as c.state c.ask)

  -- a client that doesn't ask
  pub old_state : (st : ReadState I O) → (st ≡ state.Asks → ⊥) → false ≡ is_new st
  old_state state.Asks never = absurd (never refl)
  old_state (state.Reads reading) never = refl
  old_state (state.HasRead read) never = refl

-- WHAT STANDS NEXT

-- where nothing stands next
pub nothing_so : (b : Bool) (s : Standing) → s ≡ standing.Nothing → false ≡ (b && stands s)
nothing_so true s h = sym (ap stands h)
nothing_so false s h = refl

-- where something does
pub something_so : (b x : Bool) (s : Standing) → stands s ≡ true → x ≡ b → x ≡ (b && stands s)
something_so true x s h is = is ∙ sym h
something_so false x s h is = is

-- where a piece stands next, or the end
pub stands_so : (s : Standing) → (s ≡ standing.Piece) ⊎ (s ≡ standing.End) → stands s ≡ true
stands_so s (inl h) = ap stands h
stands_so s (inr h) = ap stands h

-- what is due of a reader that has this connection, or hasn't
due_so : (within next stands has : Bool) → (has ≡ true → within ≡ true) → (has ≡ true → stands ≡ next) → (has && stands) ≡ ((within && next) && has)
due_so true true stands true p q = q refl
due_so true false stands true p q = q refl
due_so false next stands true p q = absurd (never (p refl))
  where
    never : false ≡ true → ⊥
    never e = cc
due_so true true stands false p q = refl
due_so true false stands false p q = refl
due_so false next stands false p q = refl

none_due : (b : Bool) → false ≡ (b && false)
none_due true = refl
none_due false = refl

module _ {R I O : Type 0} (r : roads.Ghosts R I O) (i : link_in.Ghosts I) (o : link_out.Ghosts O) where
  -- Roads that were asked what stands next know what they knew.
  pub asked_pass : (road road' : R) → r.plain road' ≡ r.plain road → r.faults road ≤ r.faults road' → RoadsPass r road road'
  asked_pass road road' is less = record { knows = λ c h. subst (λ (p : Option Plain). IsKnown p c) (sym is) h; never_falls = less }

  module _ (w : World) (net : Net) (line c : ℕ) (road road' : R) (s : Standing) (shows : ShowsWorld r w net road) (order : ReadersTakeInOrder w) (tells : ShowsStanding r net c false road' s) where
    abbrev before : Bool
    before = nat_lt c w.next_conn && is_some (next_up w c)

    -- something stands next on the connection of a reader that reads
    next_stands : (reading : Reading I O) → StateShows i o w net line (state.Reads reading) → c ≡ reading.end.id.0 → stands s ≡ is_some (next_up w c)
    next_stands reading h is =
        let taking : (net.traffic c false).over ≡ false = subst (λ (n : ℕ). (net.traffic n false).over ≡ false) (sym is) h.end_is.taking in
        ap stands (tells.is taking)
        ∙ row_stands (rows_of w c false) (net.traffic c false) (shows.is_net.rows_are c false) (shows.sane.fits c false) taking (order.goes_on line c h.state (h.reader ∙ ap (λ (n : ℕ). reads n h.state) (sym is))).open_is

    within : (reading : Reading I O) → StateShows i o w net line (state.Reads reading) → c ≡ reading.end.id.0 → nat_lt c w.next_conn ≡ true
    within reading h is = lt-ltb c w.next_conn (subst (λ (n : ℕ). n < w.next_conn) (sym is) (subst (λ (n : ℕ). reading.end.id.0 < n) shows.is_net.conns h.end_is.within))

    pub state_due : (st : ReadState I O) → StateShows i o w net line st → (reads_over st c && stands s) ≡ (before && reads_from (w.readers line) c)
    state_due state.Asks h = none_due before ∙ sym (ap (λ (x : Reader). before && reads_from x c) h)
    state_due (state.HasRead read) h = none_due before ∙ sym (ap (λ (x : Reader). before && reads_from x c) h)
    state_due (state.Reads reading) h =
        due_so (nat_lt c w.next_conn) (is_some (next_up w c)) (stands s) (reading.end.id.0 == c) (λ e. within reading h (sym (eqb-true reading.end.id.0 c e))) (λ e. next_stands reading h (sym (eqb-true reading.end.id.0 c e)))
        ∙ sym (ap (λ (x : Reader). before && reads_from x c) h.reader)

  pub reader_tells : (client : ReadClient I O) (conn : ConnId) (road road' : R) (s : Standing) (result : Bool) → ((net : Net) → RoadsShow r net road → ShowsStanding r net conn.0 false road' s)
      → result ≡ (reads_over client.state conn.0 && stands s) → TellsReader r i o conn client road road' result
  reader_tells client conn road road' s result tells told = λ w net h order upper.
      let c : ℕ = conn.0 in
      let shown : ShowsStanding r net c false road' s = tells net h.roads_are.shows in (
        record { roads_are = record { is_net = h.roads_are.is_net; sane = h.roads_are.sane; shows = shown.road_shows }; client_is = h.client_is },
        told ∙ (state_due w net client.ask.reader c road road' s h.roads_are order shown client.state h.client_is
            ∙ sym (ap (λ (u : Upper). (nat_lt c w.next_conn && is_some (next_up w c)) && takes_above u w c) upper)),
      )
