-- A primary's own step that sends the UPDATE, and the world after it.
use Rattle.std.proofs.Common.{◌≡◌, ℕ, zero, suc, ◌+◌, ◌<◌, ◌≤◌, Bool, true, false, List, [], ◌∷◌, ◌++◌, length, slice_get, if◌then◌else◌, Option, Some, None, Result, Ok, Err, ◌⊎◌, inl, inr, refl, sym, ap, ◌∙◌, subst, arith}
use Rattle.std.specs.Prelude.{map, not, ◌-◌}
use Rattle.std.specs.List.{list_any}
use Rattle.hd_base.specs.Ends.{has_failed}
use Rattle.hd_base.specs.Faults.{FaultsIncreased}
use Rattle.hd_base.specs.declared.links.LinkIn as link_in
use Rattle.hd_base.specs.declared.links.LinkOut as link_out
use Rattle.hd_base.specs.declared.numbers.ConnId.{ConnId}
use Rattle.hd_base.specs.declared.numbers.NodeId.{NodeId}
use Rattle.hd_base.specs.declared.roads.Roads as roads
use Rattle.hd_base.specs.declared.roads.TheConstants.{FIRST_PORT}
use Rattle.block_recovery.specs.declared.links.Link.{Link}
use Rattle.block_recovery.specs.declared.links.Seat.{Seat}
use Rattle.block_recovery.specs.declared.links.Seat.TheVariants as seat
use Rattle.block_recovery.specs.declared.primary.Primary as running
use Rattle.block_recovery.specs.declared.primary.PrimaryStep.{PrimaryStep}
use Rattle.block_recovery.specs.Actions.{Held, SendsIf, SettlesAll, keeps_as, keeps_at, is_due}
use Rattle.block_recovery.specs.Dialling.{is_lost, conn_of}
use Rattle.block_recovery.specs.Requests.{SendsRequest}
use Rattle.name_core.specs.declared.choice.Chosen.{Chosen}
use Rattle.name_core.specs.declared.desks.Desk as desks
use Rattle.op_headers.specs.declared.ops.Op.TheVariants as op
use Rattle.op_headers.specs.declared.ops.RecoveryKind.TheVariants as kind
use Rattle.op_headers.specs.Requests.{IsEncodable}
use Rattle.recovery_core.specs.declared.primary.OwnStep.TheVariants as own
use Rattle.recovery_core.specs.declared.primary.Phase.{Phase}
use Rattle.recovery_core.specs.declared.primary.Phase.TheVariants as phase
use Rattle.recovery_core.specs.declared.standings.Standing.{Standing}
use Rattle.recovery_core.specs.Primaries.{PrimaryState, own_step, is_awaited, after_choice, request_of}
use Rattle.road_traffic.specs.Showing.{Net}
use Rattle.world.specs.declared.events.Event.{Event}
use Rattle.world.specs.declared.events.Event.TheVariants as event
use Rattle.world.specs.declared.events.OwnStep.TheVariants as own_event
use Rattle.world.specs.Parts.{Message, Leading}
use Rattle.world.specs.Worlds.{World, Change, apply}
use Rattle.world.specs.Events.{outcome, happens}
use Rattle.world.specs.Primaries.{is_among_conns, listens, updates_change}
use Rattle.world_primaries.specs.WorldNets.Rows.{Row, rows_of, text_of, flushes_row}
use Rattle.world_primaries.specs.WorldNets.Nets.{IsRow, IsNetOf, held_by, is_over}
use Rattle.world_primaries.proofs.WorldNets.EndLemmas.{same-end}
use Rattle.world_primaries.proofs.WorldNets.StepLemmas.{next-conn, runs-on, none-over, changed-over, followed}
use Rattle.world_primaries.specs.Links.{update_of}
use Rattle.client_events.proofs.MemberEvents.CauseLaws.{out_failed}
use Rattle.client_events.proofs.MemberEvents.EndLaws.{HeldAt, end_from}
use Rattle.client_events.proofs.MemberEvents.StepLaws.{last_of}
use Rattle.client_events.proofs.MemberEvents.WorldLaws.{happened}
use Rattle.primary_events.specs.declared.faults.PrimaryFault.{PrimaryFault}
use Rattle.primary_events.specs.declared.faults.PrimaryFault.TheVariants as fault
use Rattle.primary_events.specs.Leading.{CanLead, SpellConns, stepped, UpdateSent, LeadUpdates}
use Rattle.primary_events.specs.Showing.{LinkShows, SeatShows, stands_in, MemberShows, PlaceShows, PrimaryShows, PrimaryStands}
use Rattle.primary_events.specs.Updating.{is_risen, HasRisen, ExchangesWhole, RetiresFailed, Flushes}
use Rattle.primary_events.proofs.FlushLaws as flush
use Rattle.primary_events.proofs.FlushLaws.{KeptAt, WaitsAt, Flushing, GivingUp, Stand, gives, loses, rises, settled, Exchanging, exchanged}
use Rattle.primary_events.proofs.GivingUpLaws.{at_among, among_at, any_lost}
use Rattle.primary_events.proofs.HearLaws.{alive_after, primary_put}
use Rattle.primary_events.proofs.PlaceLemmas.{within}
use Rattle.primary_events.proofs.RisenLaws.{risen_link, risen_among, failed_link, works_at, all_risen, brought_failed}
use Rattle.primary_events.proofs.SendLaws.{AllSent, SentAt, all_sent, unsent_at, sent_at, none_some}
use Rattle.primary_events.proofs.ShutLemmas.{event_shuts}
use Rattle.primary_events.proofs.UpdateLemmas.{HasChosen, has_chosen, after_at, after_none, after_fits, updates_at, done_at, row_at, row_else, update_encodable}

true_false : true ≡ false → ⊥
true_false h = cc

-- PLACES

pub within_some : {A : Type 0} (xs : List A) (j : ℕ) → j < length xs → (a : A) × (slice_get xs j ≡ Some a)
within_some [] j h = absurd (omega (arith, h))
within_some (x ∷ xs) zero h = (x, refl)
within_some (x ∷ xs) (suc j) h = within_some xs j (omega (arith, h))

module _ {I O : Type 0} (i : link_in.Ghosts I) (o : link_out.Ghosts O) (w : World) (net : Net) where
  -- The connection to a member, and how it stands with the member.
  record OpenAt (a : Option Standing) (z : Option (Seat I O)) (c : ℕ) : Type 0 where
    standing : Standing
    stands_is : a ≡ Some standing
    link : Link I O
    link_is : z ≡ Some (seat.Open link)
    shows : LinkShows i o w net c link

  open_by : (s : Standing) (x : Seat I O) (c : ℕ) → SeatShows i o w net true (Some c) x → OpenAt (Some s) (Some x) c
  open_by s (seat.Open l) c h = record { standing = s; stands_is = refl; link = l; link_is = refl; shows = h }
  open_by s seat.Empty c h = absurd h
  open_by s seat.Lost c h = absurd h

  open_in : (p : Phase) → p ≡ phase.Informing → (a : Option Standing) (z : Option (Seat I O)) (c : ℕ) → PlaceShows i o w net p a (Some (Some c)) z → OpenAt a z c
  open_in p e (Some s) (Some x) c h = open_by s x c (subst (λ (q : Phase). SeatShows i o w net (listens q s) (Some c) x) e h.seat_is)
  open_in p e (Some s) None c h = absurd h
  open_in p e None z c h = absurd h

  none_by : (q : Bool) (x : Seat I O) → SeatShows i o w net q None x → x ≡ seat.Empty
  none_by true x h = h
  none_by false x h = h

  bare_in : (p : Phase) (a : Option Standing) (z : Option (Seat I O)) → PlaceShows i o w net p a (Some None) z → (s : Standing) × ((a ≡ Some s) × (z ≡ Some seat.Empty))
  bare_in p (Some s) (Some x) h = (s, (refl, ap Some (none_by (listens p s) x h.seat_is)))
  bare_in p (Some s) None h = absurd h
  bare_in p None z h = absurd h

  none_in : (p : Phase) (a : Option Standing) (z : Option (Seat I O)) → PlaceShows i o w net p a None z → (a ≡ None) × (z ≡ None)
  none_in p None None h = (refl, refl)
  none_in p None (Some x) h = absurd h
  none_in p (Some s) z h = absurd h

  -- a link has a connection
  conn_by : (q : Bool) (b : Option ℕ) (l : Link I O) → SeatShows i o w net q b (seat.Open l) → (c : ℕ) × ((b ≡ Some c) × (q ≡ true))
  conn_by true (Some c) l h = (c, (refl, refl))
  conn_by true None l h = absurd (not_empty l h) where
    not_empty : (l : Link I O) → ◌≡◌ {A = Seat I O} (seat.Open l) seat.Empty → ⊥
    not_empty l h = cc
  conn_by false (Some c) l h = absurd (not_empty l h.0) where
    not_empty : (l : Link I O) → ◌≡◌ {A = Seat I O} (seat.Open l) seat.Empty → ⊥
    not_empty l h = cc
  conn_by false None l h = absurd (not_empty l h) where
    not_empty : (l : Link I O) → ◌≡◌ {A = Seat I O} (seat.Open l) seat.Empty → ⊥
    not_empty l h = cc

  conn_in : (p : Phase) (a : Option Standing) (b : Option (Option ℕ)) (l : Link I O) → PlaceShows i o w net p a b (Some (seat.Open l)) → (c : ℕ) × (b ≡ Some (Some c))
  conn_in p (Some s) (Some conn) l h = let t = conn_by (listens p s) conn l h.seat_is in (t.0, ap Some t.1.0)
  conn_in p (Some s) None l h = absurd h
  conn_in p None b l h = by b h where
    by : (b : Option (Option ℕ)) → PlaceShows i o w net p None b (Some (seat.Open l)) → (c : ℕ) × (b ≡ Some (Some c))
    by None h = absurd h
    by (Some conn) h = absurd h

pub office_put : (w : World) (k : Change) → (apply w k).office ≡ k.office
unfolding apply
office_put w k = refl

pub office_after_event : (w : World) (k : Change) (e : Event) → outcome w e ≡ Some (apply w k) → (happens w e).office ≡ k.office
office_after_event w k e out = ap (λ (u : World). u.office) (happened w (apply w k) e out) ∙ office_put w k

-- an end of which messages were flushed
sent_of : (s : Bool) (ms : List Message) (row : Row) → (flushes_row false s ms true row).sent ≡ row.sent ++ ms
sent_of true ms row = refl
sent_of false ms row = refl

module _ {D R I O : Type 0} (d : desks.Ghosts D) (r : roads.Ghosts R I O) (i : link_in.Ghosts I) (o : link_out.Ghosts O) where
  abbrev P : Type 0
  P = running.Primary I O

  module _ (w : World) (net : Net) (number : ℕ) (l : Leading) (c : Chosen) (old : P) (road : R) (stands : PrimaryStands r i o w net number l old road) (can : CanLead w number l) (does : (own_step l.state).does ≡ own.Updates c)
      (out : outcome w (event.Own (own_event.Primary number)) ≡ Some (apply w (updates_change w number l (own_step l.state).primary c))) (spelled : SpellConns (stepped w number) l.conns) (count : length old.links.items ≡ length old.members) where
    abbrev p : PrimaryState
    p = (own_step l.state).primary

    abbrev e : Event
    e = event.Own (own_event.Primary number)

    abbrev k : Change
    k = updates_change w number l p c

    abbrev v : World
    v = stepped w number

    abbrev update : Message
    update = update_of l.state c

    abbrev due : ℕ → Bool
    due j = is_due c.members (slice_get l.state.members j)

    abbrev sends_at : ℕ → List Message
    sends_at j = if due j then update ∷ [] else []

    abbrev shuts_at : ℕ → Bool
    shuts_at j = not (keeps_at p.standings j)

    chosen : HasChosen l.state c p
    chosen = has_chosen l.state c does

    s : PrimaryShows i o w net number l old
    s = stands.shows

    -- THE MEMBERS

    record MemberAt (j x : ℕ) : Type 0 where
      standing : Standing
      stands_is : slice_get l.state.standings j ≡ Some standing
      node : NodeId
      member_is : slice_get l.state.members j ≡ Some node
      link : Link I O
      link_is : slice_get old.links.items j ≡ Some (seat.Open link)
      shows : LinkShows i o w net x link

    member_at : (j x : ℕ) → slice_get l.conns j ≡ Some (Some x) → MemberAt j x
    member_at j x at =
        let t = open_in i o w net l.state.phase chosen.informed (slice_get l.state.standings j) (slice_get old.links.items j) x (subst (λ (b : Option (Option ℕ)). PlaceShows i o w net l.state.phase (slice_get l.state.standings j) b (slice_get old.links.items j)) at (s.places j)) in
        let lt : j < length old.links.items = within old.links.items j (seat.Open t.link) t.link_is in
        let m = within_some l.state.members j (omega (arith, lt, count, ap (λ (ms : List NodeId). length ms) s.members)) in
        record { standing = t.standing; stands_is = t.stands_is; node = m.0; member_is = m.1; link = t.link; link_is = t.link_is; shows = t.shows }

    after_is : (j : ℕ) (node : NodeId) (q : Standing) → slice_get l.state.members j ≡ Some node → slice_get l.state.standings j ≡ Some q → slice_get p.standings j ≡ Some (after_choice c.members node q)
    after_is j node q at_m at_s = ap (λ (z : PrimaryState). slice_get z.standings j) chosen.is ∙ after_at c.members l.state.members l.state.standings j node q at_m at_s

    downs_at : (j x : ℕ) → slice_get l.conns j ≡ Some (Some x) → k.downs x ≡ sends_at j
    downs_at j x at =
        let m = member_at j x at in
        updates_at update c.members l.state.members l.conns j x m.node can.distinct m.member_is at
        ∙ sym (ap (λ (n : Option NodeId). if is_due c.members n then update ∷ [] else []) m.member_is)

    shut_at : (j x : ℕ) → slice_get l.conns j ≡ Some (Some x) → k.shuts x ≡ shuts_at j
    shut_at j x at =
        let m = member_at j x at in
        let a = after_is j m.node m.standing m.member_is m.stands_is in
        done_at p.standings l.conns j x (after_choice c.members m.node m.standing) can.distinct a at ∙ sym (ap (λ (z : Option Standing). not (keeps_as z)) a)

    row_is : (j x : ℕ) (q : Bool) → slice_get l.conns j ≡ Some (Some x) → rows_of (apply w k) x q ≡ flushes_row false (shuts_at j) (sends_at j) q (rows_of w x q)
    row_is j x q at = row_at w number l p c x q (shuts_at j) (sends_at j) (downs_at j x at) (shut_at j x at)

    -- WHAT IS SPELLED

    spelled_due : (j x : ℕ) → slice_get l.conns j ≡ Some (Some x) → due j ≡ true → IsEncodable (op.Recovery (request_of l.state kind.Update c.length))
    spelled_due j x at on =
        let sent : v.downs x ≡ w.downs x ++ update ∷ [] =
        ap (λ (u : World). u.downs x) (happened w (apply w k) e out)
        ∙ (ap (λ (row : Row). row.sent) (row_at w number l p c x true (shuts_at j) (update ∷ []) (downs_at j x at ∙ ap (λ (q : Bool). if q then update ∷ [] else []) on) (shut_at j x at))
        ∙ sent_of (shuts_at j) (update ∷ []) (rows_of w x true)) in
        update_encodable l.state c.length (spelled j x at (length (w.downs x)) update (ap (λ (ms : List Message). slice_get ms (length (w.downs x))) sent ∙ last_of (w.downs x) update))

    -- WHAT IS SENT

    module _ (held : List (Seat I O)) (sent : AllSent o (text_of update) l.state.members c.members old.links.items held) where
      seat_by : (x : ℕ) (y : Link I O) → LinkShows i o w net x y → (j : ℕ) (q : Bool) (z : Seat I O) → slice_get held j ≡ Some z → SendsIf o (text_of update) q (seat.Open y) z (Ok tt)
          → (y' : Link I O) × ((slice_get held j ≡ Some (seat.Open y')) × SentAt i o w net (map text_of (if q then update ∷ [] else [])) x y y')
      seat_by x y shows j true (seat.Open y') is h = (y', (is, sent_at i o w net x y shows (text_of update) y' h))
      seat_by x y shows j true seat.Empty is h = absurd (flush.lost_open y (ap Some (sym h.0)))
      seat_by x y shows j true seat.Lost is h = absurd (unlike y h.0) where
        unlike : (y : Link I O) → ◌≡◌ {A = Seat I O} seat.Lost (seat.Open y) → ⊥
        unlike y q = cc
      seat_by x y shows j false z is h = (y, (is ∙ ap Some h.0, unsent_at i o w net x y shows))

      seats : (j x : ℕ) → slice_get l.conns j ≡ Some (Some x) → (y : Link I O) × ((y' : Link I O) × ((slice_get held j ≡ Some (seat.Open y')) × SentAt i o w net (map text_of (sends_at j)) x y y'))
      seats j x at =
          let m = member_at j x at in
          let t = sent.each j (seat.Open m.link) m.link_is in
          (m.link, seat_by x m.link m.shows j (due j) t.0 t.1.0 t.1.1)

      empty_by : (q : Bool) (z : Seat I O) → SendsIf o (text_of update) q seat.Empty z (Ok tt) → z ≡ seat.Empty
      empty_by true z h = h.0
      empty_by false z h = h.0

      bare_at : (j : ℕ) → slice_get l.conns j ≡ Some None → slice_get held j ≡ Some seat.Empty
      bare_at j at =
          let b = bare_in i o w net l.state.phase (slice_get l.state.standings j) (slice_get old.links.items j) (subst (λ (z : Option (Option ℕ)). PlaceShows i o w net l.state.phase (slice_get l.state.standings j) z (slice_get old.links.items j)) at (s.places j)) in
          let t = sent.each j seat.Empty b.1.1 in
          t.1.0 ∙ ap Some (empty_by (due j) t.0 t.1.1)

      none_at : (j : ℕ) → slice_get l.conns j ≡ None → slice_get held j ≡ None
      none_at j at = sent.none j (none_in i o w net l.state.phase (slice_get l.state.standings j) (slice_get old.links.items j) (subst (λ (z : Option (Option ℕ)). PlaceShows i o w net l.state.phase (slice_get l.state.standings j) z (slice_get old.links.items j)) at (s.places j))).1

      same_link : (y z : Link I O) → ◌≡◌ {A = Option (Seat I O)} (Some (seat.Open y)) (Some (seat.Open z)) → y ≡ z
      same_link y z h = cc

      waits_at : (j x : ℕ) (y : Link I O) → slice_get l.conns j ≡ Some (Some x) → slice_get held j ≡ Some (seat.Open y) → WaitsAt r i o w net l.conns sends_at shuts_at held net j x y (slice_get held j)
      waits_at j x y at is =
          let t = seats j x at in
          record {
            is = is;
            held = subst (λ (z : Link I O). z.failed ≡ false → HeldAt i o net false (map text_of (sends_at j)) (held_by (is_over w x false)) x false z.end) (same_link t.1.0 y (sym t.1.1.0 ∙ is)) t.1.1.1.held;
          }

      started : Flushing r i o w net l.conns sends_at shuts_at held (λ j. false) (record { links = held; road = road })
      started = record {
        made = net;
        rows = rows_of w;
        roads_at = record { sane = stands.roads_are.sane; shows = stands.roads_are.shows };
        conns_are = refl;
        listens_are = refl;
        waiting_are = refl;
        are = stands.roads_are.is_net.rows_are;
        early = λ x q none. refl;
        late = λ j x q on at. absurd (true_false (sym on));
        waits = λ j x y off at is. waits_at j x y at is;
        given = λ j x on shut at. absurd (true_false (sym on));
        kept = λ j x y on keeps at is. absurd (true_false (sym on));
        bare = bare_at;
        none = none_at;
        others = λ n q x none is. is;
      }

      -- ONCE CONNECTIONS WERE GIVEN UP

      module _ (middle : P) (passed : R) (settles : SettlesAll r i o p.standings held middle.links.items road passed) (same_count : length middle.links.items ≡ length old.links.items) where
        abbrev at_middle : Held R I O
        at_middle = record { links = middle.links.items; road = passed }

        stood : Stand r i o w net l.conns sends_at shuts_at held can.distinct (length held) at_middle
        stood = settled r i o w net l.conns sends_at shuts_at held can.distinct p.standings (λ j. refl) seats middle.links.items road passed started settles

        module _ (g : GivingUp r i o w net l.conns sends_at shuts_at held can.distinct (length held) at_middle) where
          done_is : (j x : ℕ) → slice_get l.conns j ≡ Some (Some x) → g.done j ≡ shuts_at j
          done_is j x at = let t = seats j x at in g.before j x (within held j (seat.Open t.1.0) t.1.1.0) at

          -- A LINK THAT FAILED

          failed_conn : (j : ℕ) (y : Link I O) → slice_get middle.links.items j ≡ Some (seat.Open y) → (q : Option (Option ℕ)) → slice_get l.conns j ≡ q → (x : ℕ) × (slice_get l.conns j ≡ Some (Some x))
          failed_conn j y is (Some (Some x)) at = (x, at)
          failed_conn j y is (Some None) at = absurd (flush.lost_open y (sym is ∙ g.state.bare j at))
          failed_conn j y is None at = absurd (none_some (slice_get middle.links.items j) (seat.Open y) (g.state.none j at) is)

          -- the connection of a link that failed, whose count has risen
          record FailedAt (y : Link I O) : Type 0 where
            conn : ℕ
            place : ℕ
            conn_is : slice_get l.conns place ≡ Some (Some conn)
            id : y.end.id.0 ≡ conn
            failed : has_failed i o y.end ≡ true

          failed_by : (j x : ℕ) (y : Link I O) → slice_get l.conns j ≡ Some (Some x) → slice_get middle.links.items j ≡ Some (seat.Open y) → y.failed ≡ true → (q : Bool) → g.done j ≡ q → FailedAt y
          failed_by j x y at is fails true on = absurd (flush.lost_open y (sym is ∙ g.state.given j x on (sym (done_is j x at) ∙ on) at))
          failed_by j x y at is fails false off =
              let t = seats j x at in
              let one : t.1.0 ≡ y = same_link t.1.0 y (sym (g.state.waits j x t.1.0 off at t.1.1.0).is ∙ is) in
              let rose = t.1.1.1.rose (ap (λ (z : Link I O). z.failed) one ∙ fails) in
              subst FailedAt one (record { conn = x; place = j; conn_is = at; id = t.1.1.1.id; failed = out_failed i o rose.0 t.1.0.end rose.1 })

          failed_at : (j : ℕ) (y : Link I O) → slice_get middle.links.items j ≡ Some (seat.Open y) → y.failed ≡ true → FailedAt y
          failed_at j y is fails = let q = failed_conn j y is (slice_get l.conns j) refl in failed_by j q.0 y q.1 is fails (g.done j) refl

          retired_risen : (new : P) (road' : R) → RetiresFailed r i o middle new passed road' → HasRisen r l.conns road'
          retired_risen new road' x =
              let f = failed_link middle.links.items x.fails in
              let a = failed_at f.place f.link f.stands f.fails in
              by f.link a (brought_failed r i o f.place f.link a.failed middle.links.items new.links.items passed road' x.brings.brings f.stands) f.place
            where
              by : (y : Link I O) (a : FailedAt y) → (r.risen road' y.end.id.0 ≡ true) ⊎ (slice_get new.links.items (failed_link middle.links.items x.fails).place ≡ Some seat.Lost) → (j : ℕ) → HasRisen r l.conns road'
              by y a (inl h) j = record { place = a.place; conn = a.conn; stands = a.conn_is; rose = subst (λ (n : ℕ). r.risen road' n ≡ true) a.id h }
              by y a (inr h) j = absurd (true_false (sym (any_lost new.links.items (failed_link middle.links.items x.fails).place h) ∙ x.brings.none_lost))

          -- ALL WORK

          module _ (new : P) (road' : R) (conns : List (Option ConnId)) (x : ExchangesWhole r i o conns middle new passed road') (core : middle.core ≡ Some p) (block : new.block ≡ old.block) (members : new.members ≡ old.members)
              (office office' : D) (at : d.office office ≡ Some w.office) (still : office' ≡ office) where
            kept_works : (j n : ℕ) (y : Link I O) → slice_get l.conns j ≡ Some (Some n) → slice_get held j ≡ Some (seat.Open y) → shuts_at j ≡ false → y.failed ≡ false
            kept_works j n y at_j is keeps = works_at middle.links.items j y x.work (g.state.waits j n y (done_is j n at_j ∙ keeps) at_j is).is

            last : Exchanging r i o w net l.conns sends_at shuts_at held can.distinct x.exchanges.count (record { links = new.links.items; road = road' })
            last = exchanged r i o w net l.conns sends_at shuts_at held can.distinct
                (λ j n at_j. let t = seats j n at_j in (t.1.0, (t.1.1.0, kept_works j n t.1.0 at_j t.1.1.0)))
                middle.links.items new.links.items passed road'
                (record { done = g.done; state = g.state; before = λ j n lt at_j. absurd (omega (arith, lt)); behind = λ j n le at_j. done_is j n at_j })
                x.exchanges

            few : (j a b n : ℕ) → j < a → b ≡ a → b - n ≡ 0 → j < n
            few j a b n lt same none = omega (arith, lt, same, none)

            all_done : (j n : ℕ) → slice_get l.conns j ≡ Some (Some n) → last.done j ≡ true
            all_done j n at_j =
                let m = member_at j n at_j in
                last.before j n (few j (length old.links.items) (length middle.links.items) x.exchanges.count (within old.links.items j (seat.Open m.link) m.link_is) same_count x.exchanges.ends.1) at_j

            abbrev f : Flushing r i o w net l.conns sends_at shuts_at held last.done (record { links = new.links.items; road = road' })
            f = last.state

            -- THE ROADS

            rows_by : (n : ℕ) (q b : Bool) → is_among_conns l.conns n ≡ b → IsRow (rows_of (apply w k) n q) (f.made.traffic n q)
            rows_by n q true among =
                let a = among_at l.conns n among in
                subst (λ (row : Row). IsRow row (f.made.traffic n q)) (f.late a.place n q (all_done a.place n a.is) a.is ∙ sym (row_is a.place n q a.is)) (f.are n q)
            rows_by n q false among =
                subst (λ (row : Row). IsRow row (f.made.traffic n q)) (f.early n q (λ j on at_j. true_false (sym (at_among l.conns j n at_j) ∙ among)) ∙ sym (row_else w number l p c n q among)) (f.are n q)

            made_net : IsNetOf (apply w k) f.made
            made_net = record {
              conns = f.conns_are ∙ (stands.roads_are.is_net.conns ∙ omega (arith, next-conn w k 0 refl));
              listens = λ node. ap (λ t. t (FIRST_PORT + node)) f.listens_are ∙ (stands.roads_are.is_net.listens node ∙ sym (runs-on w k node));
              waiting = λ port. ap (λ t. t port) f.waiting_are ∙ stands.roads_are.is_net.waiting port;
              rows_are = λ n q. rows_by n q (is_among_conns l.conns n) refl;
              none_over = none-over w k stands.roads_are.is_net.none_over 0 refl;
            }

            over_same : (n : ℕ) (q : Bool) → is_over v n q ≡ is_over w n q
            over_same n q = (followed w (apply w k) e out).over n q ∙ changed-over w k n q

            -- THE PRIMARY

            abbrev ShowsAt : ℕ → Option (Option ℕ) → Type 0
            ShowsAt j conn = PlaceShows i o v f.made p.phase (slice_get p.standings j) conn (slice_get new.links.items j)

            phase_is : p.phase ≡ phase.Updating c.length
            phase_is = ap (λ (z : PrimaryState). z.phase) chosen.is

            fits : (q : Standing) (node : NodeId) → stands_in p.phase (after_choice c.members node q) ≡ true
            fits q node = subst (λ (z : Phase). stands_in z (after_choice c.members node q) ≡ true) (sym phase_is) (after_fits c.length c.members node q)

            hears_is : (q : Standing) → listens p.phase q ≡ is_awaited q
            hears_is q = ap (λ (z : Phase). listens z q) phase_is

            place_by : (j : ℕ) (a : Option Standing) (conn : Option ℕ) (z : Option (Seat I O)) (q : Standing) (y : Seat I O) → a ≡ Some q → z ≡ Some y → MemberShows i o v f.made p.phase q conn y → PlaceShows i o v f.made p.phase a (Some conn) z
            place_by j a conn z q y is_a is_z h =
                subst (λ t. PlaceShows i o v f.made p.phase t (Some conn) z) (sym is_a) (subst (λ t. PlaceShows i o v f.made p.phase (Some q) (Some conn) t) (sym is_z) h)

            module _ (j n : ℕ) (at_j : slice_get l.conns j ≡ Some (Some n)) where
              m : MemberAt j n
              m = member_at j n at_j

              abbrev after : Standing
              after = after_choice c.members m.node m.standing

              now_is : slice_get p.standings j ≡ Some (after_choice c.members m.node m.standing)
              now_is = after_is j m.node m.standing m.member_is m.stands_is

              shuts_is : shuts_at j ≡ not (is_awaited after)
              shuts_is = ap (λ (z : Option Standing). not (keeps_as z)) now_is

              kept_shows : is_awaited after ≡ true → KeptAt r i o w net l.conns sends_at shuts_at held f.made n (seats j n at_j).1.0 (slice_get new.links.items j) → ShowsAt j (Some (Some n))
              unfolding m seats
              kept_shows on t =
                  let y = seats j n at_j in
                  place_by j (slice_get p.standings j) (Some n) (slice_get new.links.items j) after (seat.Open t.link) now_is t.is (record {
                    fits = fits m.standing m.node;
                    seat_is = subst (λ (b : Bool). SeatShows i o v f.made b (Some n) (seat.Open t.link)) (sym (hears_is after ∙ on)) (record {
                      end_is = end_from i o v f.made n false (is_over w n false) t.link.end (over_same n false) t.held;
                      received = λ z. t.incoming ∙ (y.1.1.1.incoming ∙ m.shows.received (sym (over_same n false) ∙ z));
                      over = t.over_is ∙ (y.1.1.1.over ∙ (m.shows.over ∙ sym (over_same n false)));
                      works = t.failed ∙ kept_works j n y.1.0 at_j y.1.1.0 (shuts_is ∙ ap not on);
                    });
                  })

              given_shows : is_awaited after ≡ false → slice_get new.links.items j ≡ Some seat.Empty → ShowsAt j (Some (Some n))
              given_shows off none =
                  place_by j (slice_get p.standings j) (Some n) (slice_get new.links.items j) after seat.Empty now_is none (record {
                    fits = fits m.standing m.node;
                    seat_is = subst (λ (b : Bool). SeatShows i o v f.made b (Some n) seat.Empty) (sym (hears_is after ∙ off)) (refl, event_shuts w w n k e out (shut_at j n at_j ∙ (shuts_is ∙ ap not off)));
                  })

              open_shows : (b : Bool) → is_awaited after ≡ b → ShowsAt j (Some (Some n))
              open_shows true on = kept_shows on (f.kept j n (seats j n at_j).1.0 (all_done j n at_j) (shuts_is ∙ ap not on) at_j (seats j n at_j).1.1.0)
              open_shows false off = given_shows off (f.given j n (all_done j n at_j) (shuts_is ∙ ap not off) at_j)

              shown : ShowsAt j (Some (Some n))
              shown = open_shows (is_awaited after) refl

            bare_seat : (b : Bool) → SeatShows i o v f.made b None seat.Empty
            bare_seat true = refl
            bare_seat false = refl

            bare_shows : (j : ℕ) → slice_get l.conns j ≡ Some None → ShowsAt j (Some None)
            bare_shows j at_j =
                let b = bare_in i o w net l.state.phase (slice_get l.state.standings j) (slice_get old.links.items j) (subst (λ (z : Option (Option ℕ)). PlaceShows i o w net l.state.phase (slice_get l.state.standings j) z (slice_get old.links.items j)) at_j (s.places j)) in
                let lt : j < length old.links.items = within old.links.items j seat.Empty b.1.1 in
                let t = within_some l.state.members j (omega (arith, lt, count, ap (λ (ms : List NodeId). length ms) s.members)) in
                let a = after_is j t.0 b.0 t.1 b.1.0 in
                place_by j (slice_get p.standings j) None (slice_get new.links.items j) (after_choice c.members t.0 b.0) seat.Empty a (f.bare j at_j) (record { fits = fits b.0 t.0; seat_is = bare_seat (listens p.phase (after_choice c.members t.0 b.0)) })

            none_shows : (j : ℕ) → slice_get l.conns j ≡ None → ShowsAt j None
            none_shows j at_j =
                let t = none_in i o w net l.state.phase (slice_get l.state.standings j) (slice_get old.links.items j) (subst (λ (z : Option (Option ℕ)). PlaceShows i o w net l.state.phase (slice_get l.state.standings j) z (slice_get old.links.items j)) at_j (s.places j)) in
                let a : slice_get p.standings j ≡ None = ap (λ (z : PrimaryState). slice_get z.standings j) chosen.is ∙ after_none c.members l.state.members l.state.standings j t.0 in
                subst (λ z. PlaceShows i o v f.made p.phase z None (slice_get new.links.items j)) (sym a) (subst (λ z. PlaceShows i o v f.made p.phase None None z) (sym (f.none j at_j)) tt)

            place_shows : (j : ℕ) (q : Option (Option ℕ)) → slice_get l.conns j ≡ q → ShowsAt j q
            place_shows j (Some (Some n)) at_j = shown j n at_j
            place_shows j (Some None) at_j = bare_shows j at_j
            place_shows j None at_j = none_shows j at_j

            update_sent : UpdateSent d r i o w net v number l new office' road'
            update_sent = record {
              made = f.made;
              leading = record l { state = p };
              leading_is = refl;
              alive = alive_after w k e l.at out ∙ can.leads_so.alive;
              stands = record {
                roads_are = record { is_net = (followed w (apply w k) e out).nets f.made made_net; sane = f.roads_at.sane; shows = f.roads_at.shows };
                shows = record {
                  leads_so = ap (λ (u : World). u.primaries number) (happened w (apply w k) e out) ∙ primary_put w k;
                  told = s.told;
                  core = x.core ∙ core;
                  block = block ∙ (s.block ∙ sym (ap (λ (z : PrimaryState). z.block) chosen.is));
                  members = members ∙ (s.members ∙ sym (ap (λ (z : PrimaryState). z.members) chosen.is));
                  places = λ j. place_shows j (slice_get l.conns j) refl;
                };
              };
              office_is = ap d.office still ∙ (at ∙ ap Some (sym (office_after_event w k e out)));
              others = λ n q y none is. same-end r i o w v f.made n q y (over_same n q) (f.others n q y none is);
            }

    -- HOW IT ENDS

    -- the UPDATE is sent, where it may be written; where it may not be it goes to nobody
    pub same_request : (core' : PrimaryState) → core' ≡ p → request_of core' kind.Update c.length ≡ request_of l.state kind.Update c.length
    same_request core' is = ap (λ (z : PrimaryState). request_of z kind.Update c.length) (is ∙ chosen.is)

    unsent_by : (j : ℕ) (q : Bool) → due j ≡ q → (x : Seat I O) → slice_get old.links.items j ≡ Some x → (IsEncodable (op.Recovery (request_of l.state kind.Update c.length)) → ⊥) → SendsIf o (text_of update) q x x (Ok tt)
    unsent_by j false on x at none = (refl, refl)
    unsent_by j true on seat.Empty at none = (refl, refl)
    unsent_by j true on seat.Lost at none = (refl, refl)
    unsent_by j true on (seat.Open y) at none =
        let n = conn_in i o w net l.state.phase (slice_get l.state.standings j) (slice_get l.conns j) y (subst (λ (z : Option (Seat I O)). PlaceShows i o w net l.state.phase (slice_get l.state.standings j) (slice_get l.conns j) z) at (s.places j)) in
        absurd (none (spelled_due j n.0 n.1 on))

    pub request_sent : (held : List (Seat I O)) → SendsRequest o (op.Recovery (request_of l.state kind.Update c.length)) l.state.members c.members old.links.items held (Ok tt) → AllSent o (text_of update) l.state.members c.members old.links.items held
    request_sent held (inl x) = all_sent o (text_of update) l.state.members c.members old.links.items held x
    request_sent held (inr x) = record {
      each = λ j y at. (y, (ap (λ (xs : List (Seat I O)). slice_get xs j) x.1 ∙ at, unsent_by j (due j) refl y at x.0));
      none = λ j at. ap (λ (xs : List (Seat I O)). slice_get xs j) x.1 ∙ at;
    }

    -- the connection of a link
    link_conn : (j : ℕ) (y : Link I O) → slice_get old.links.items j ≡ Some (seat.Open y) → (n : ℕ) × ((slice_get l.conns j ≡ Some (Some n)) × (y.end.id.0 ≡ n))
    link_conn j y at =
        let n = conn_in i o w net l.state.phase (slice_get l.state.standings j) (slice_get l.conns j) y (subst (λ (z : Option (Seat I O)). PlaceShows i o w net l.state.phase (slice_get l.state.standings j) (slice_get l.conns j) z) at (s.places j)) in
        let m = member_at j n.0 n.1 in
        (n.0, (n.1, ap (λ (z : Link I O). z.end.id.0) (one m.link y (sym m.link_is ∙ at)) ∙ m.shows.end_is.id))
      where
        one : (a b : Link I O) → ◌≡◌ {A = Option (Seat I O)} (Some (seat.Open a)) (Some (seat.Open b)) → b ≡ a
        one a b h = cc

    module _ (middle new : P) (passed road' : R) (office office' : D) (conns : List (Option ConnId)) (conns_are : conns ≡ map conn_of old.links.items) (core : middle.core ≡ Some p) (block : new.block ≡ old.block) (members : new.members ≡ old.members) (same_count : length middle.links.items ≡ length old.links.items)
        (at : d.office office ≡ Some w.office) (still : office' ≡ office) (falls : r.faults road ≤ r.faults passed) (held : List (Seat I O)) (sent : AllSent o (text_of update) l.state.members c.members old.links.items held) (settles : SettlesAll r i o p.standings held middle.links.items road passed)
        (none_lost : list_any (λ x. is_lost (Some x)) middle.links.items ≡ false) where
      stands_so : Stand r i o w net l.conns sends_at shuts_at held can.distinct (length held) (record { links = middle.links.items; road = passed })
      stands_so = stood held sent middle passed settles same_count

      found_risen : (road2 : R) → HasRisen r l.conns road2 → list_any (is_risen (r.risen road2)) conns ≡ true
      found_risen road2 h =
          let m = member_at h.place h.conn h.stands in
          ap (list_any (is_risen (r.risen road2))) conns_are ∙ risen_among (r.risen road2) old.links.items h.place m.link m.link_is (ap (r.risen road2) m.shows.end_is.id ∙ h.rose)

      whole_by : Stand r i o w net l.conns sends_at shuts_at held can.distinct (length held) (record { links = middle.links.items; road = passed }) → ExchangesWhole r i o conns middle new passed road' → UpdateSent d r i o w net v number l new office' road'
      whole_by (gives g) x = update_sent held sent middle passed settles same_count g new road' conns x core block members office office' at still
      whole_by (loses z) x = absurd (true_false (sym (any_lost middle.links.items z.place z.is) ∙ none_lost))
      whole_by (rises h) x = absurd (true_false (sym (found_risen passed h) ∙ x.none_risen))

      retired_by : Stand r i o w net l.conns sends_at shuts_at held can.distinct (length held) (record { links = middle.links.items; road = passed }) → RetiresFailed r i o middle new passed road' → HasRisen r l.conns road'
      retired_by (gives g) x = retired_risen held sent middle passed settles same_count g new road' x
      retired_by (loses z) x = absurd (true_false (sym (any_lost middle.links.items z.place z.is) ∙ none_lost))
      retired_by (rises h) x = record { place = h.place; conn = h.conn; stands = h.stands; rose = all_risen r i o middle.links.items new.links.items passed road' h.conn x.brings.brings h.rose }

      rises_from : (a b n : ℕ) → a ≤ b → FaultsIncreased b n → FaultsIncreased a n
      rises_from a b n h q = omega arith

      -- The UPDATE was sent, or it failed.
      pub moved_ends : (result : Result PrimaryStep PrimaryFault) → Flushes r i o conns middle new passed road' result → LeadUpdates d r i o w net v number l new office' road road' result
      moved_ends (Ok q) x = subst (λ (z : PrimaryStep). LeadUpdates d r i o w net v number l new office' road road' (Ok z)) (sym x.0) (whole_by stands_so x.1)
      moved_ends (Err fault.LinkFailed) (inl x) = retired_by stands_so x
      moved_ends (Err fault.LinkFailed) (inr any) =
          let a = risen_link (r.risen road') old.links.items (sym (ap (list_any (is_risen (r.risen road'))) conns_are) ∙ any) in
          let n = link_conn a.place a.link a.stands in
          record { place = a.place; conn = n.0; stands = n.1.0; rose = subst (λ (z : ℕ). r.risen road' z ≡ true) n.1.1 a.rose }
      moved_ends (Err fault.RoadsFailed) x = rises_from (r.faults road) (r.faults passed) (r.faults road') falls x
      moved_ends (Err fault.Memory) x = tt
