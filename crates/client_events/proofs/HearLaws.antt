-- A writer that hears an ack, or the end, and the world after it.
use Rattle.std.proofs.Common.{◌≡◌, ℕ, not, Bool, true, false, [], Option, Some, Result, Ok, Err, refl, sym, ap, ◌∙◌, subst}
use Rattle.hd_base.specs.Links.{Inbox}
use Rattle.hd_base.specs.declared.ends.Conn.{Conn}
use Rattle.hd_base.specs.declared.links.LinkIn as link_in
use Rattle.hd_base.specs.declared.links.LinkOut as link_out
use Rattle.hd_base.specs.declared.numbers.ConnId.{ConnId}
use Rattle.hd_base.specs.declared.roads.Roads as roads
use Rattle.ack_codec.specs.AckTexts.{ack_text}
use Rattle.pipe_recovery.specs.FrameFeed.Kinds.{acks}
use Rattle.pipe_recovery.specs.FrameFeed.KindLaws.{acks_sound}
use Rattle.pipe_recovery.specs.LinkMessages.Incomings.{IncomingState, nothing_received, NextEnds}
use Rattle.link_pieces.specs.Roads.{ExchangesEnd, names}
use Rattle.name_core.specs.Offices.{OfficeState}
use Rattle.member_events.specs.PipeMember.Looked.TheVariants as looked
use Rattle.road_traffic.specs.Showing.{Net}
use Rattle.road_traffic.specs.Laws.{Took}
use Rattle.road_traffic.proofs.TrafficLemmas.{same-itself}
use Rattle.member_events.specs.World.Event.TheVariants as event
use Rattle.member_events.specs.World.Parts.{ack, Writing}
use Rattle.member_events.specs.World.Worlds.{World, Change, apply}
use Rattle.member_events.specs.World.Connections.{Next, message, the_end, up_taken, is_conn}
use Rattle.member_events.specs.World.Clients.{writing_as, writer_hears}
use Rattle.member_events.specs.World.Events.{happens}
use Rattle.member_events.specs.WorldNets.Nets.{held_by, inbox_for, is_over}
use Rattle.member_events.specs.WorldNets.Drawn.{HearsPipe, hears_as}
use Rattle.member_events.specs.WorldNets.Steps.{SendsBy, taken_net, is_end}
use Rattle.member_events.specs.WorldNets.Flushing.{upper_flushes}
use Rattle.member_events.proofs.WorldNets.DrawnLemmas.{up-makes}
use Rattle.member_events.proofs.WorldNets.EndLemmas.{stays}
use Rattle.member_events.proofs.WorldNets.FlushingLemmas.{writer-sends}
use Rattle.member_events.proofs.WorldNets.StepLemmas.{taken-net, taken-over}
use Rattle.writer_core.specs.declared.records.WriterRecord.{WriterRecord}
use Rattle.writer_core.specs.Transitions.{is_connected}
use Rattle.member_events.proofs.CauseLaws.{in_failed, one_risen}
use Rattle.member_events.proofs.DownEvents.{held_took}
use Rattle.member_events.proofs.EndLaws.{HeldAt, RoadsAt, end_held, end_passes}
use Rattle.member_events.proofs.LostLaws.{found_failed}
use Rattle.member_events.proofs.TakeLaws.{message_came, end_came}
use Rattle.member_events.proofs.WorldLaws.{at_put}
use Rattle.client_events.specs.declared.faults.ClientFault.{ClientFault}
use Rattle.client_events.specs.declared.faults.ClientFault.TheVariants as fault
use Rattle.client_events.specs.declared.pipes.Pipe.{Pipe}
use Rattle.client_events.specs.declared.pipes.Pipe.TheVariants as pipe
use Rattle.client_events.specs.Events.{IsAckNext, CanHear, HearShows}
use Rattle.client_events.specs.Faults.{HasRisen, IsCaused}
use Rattle.client_events.specs.Hearing.{told_of, Hears}
use Rattle.client_events.specs.Showing.{ClientStands, ClientLeft}
use Rattle.client_events.specs.Steps.{IsLost, IsSettled}
use Rattle.client_events.proofs.SettleLaws.{HasActed, settled_left, settled_caused}

-- WHAT CAME

-- What a writer was told is what stood next, and what is left on its end.
record CameTo {I : Type 0} (i : link_in.Ghosts I) (x : Next) (known known' : WriterRecord) (new : IncomingState) (half' : I) : Type 0 where
  writer : known' ≡ writer_hears known x
  holds : i.held half' ≡ Some (held_by (is_end x))
  received : is_end x ≡ false → new ≡ nothing_received

true_false : true ≡ false → ⊥
true_false h = cc

came_to : {I : Type 0} (i : link_in.Ghosts I) (x : Next) (known known' : WriterRecord) (old new : IncomingState) (half half' : I) → IsAckNext x → i.held half ≡ Some (inbox_for x) → old ≡ nothing_received → Hears i known known' old new half half' looked.Known → CameTo i x known known' new half'
came_to i (message (ack a)) known known' old new half half' spelled held none h =
    let k = message_came acks i acks_sound a (ack_text a) new half half' h.came spelled held (subst (λ (s : IncomingState). NextEnds acks i s new half half' h.came) none h.comes) (sym h.is) in
    record { writer = h.writer ∙ ap (told_of known) k.is; holds = k.holds; received = λ z. k.received }
came_to i (message other) known known' old new half half' spelled held none h = absurd spelled
came_to i the_end known known' old new half half' spelled held none h =
    let k = end_came acks i new half half' h.came held (subst (λ (s : IncomingState). NextEnds acks i s new half half' h.came) none h.comes) (sym h.is) in
    record { writer = h.writer ∙ ap (told_of known) k.is; holds = k.holds; received = λ z. absurd (true_false z) }

-- THE WORLD

-- A world in which something was taken has the same writers and office.
pub record TakenClients (w : World) (c : ℕ) (x : Next) : Type 0 where
  pub writers : (up_taken w c x).writers ≡ w.writers
  pub office : (up_taken w c x).office ≡ w.office

pub taken_clients : (w : World) (c : ℕ) (x : Next) → TakenClients w c x
unfolding up_taken
taken_clients w c x = record { writers = refl; office = refl }

-- What a change makes of the writer and the office.
pub record AfterChange (w : World) (k : Change) : Type 0 where
  pub writer : (apply w k).writers k.writer_at ≡ k.writer
  pub office : (apply w k).office ≡ k.office

pub after_change : (w : World) (k : Change) → AfterChange w k
unfolding apply
after_change w k = record { writer = at_put w.writers k.writer_at k.writer; office = refl }

module _ {R I O : Type 0} (r : roads.Ghosts R I O) (i : link_in.Ghosts I) (o : link_out.Ghosts O) where
  hear_left : (old held : Conn I O) (incoming received : IncomingState) (known known' : WriterRecord) (half' : I) (left : Pipe I O) (road middle road' : R)
      → ExchangesEnd r i o (names (Some old.id) old.id) old held road middle (Ok tt) → Hears i known known' incoming received held.inward half' looked.Known
      → IsSettled r i o (is_connected known'.phase) (record held { inward = half' }) received middle road' (Ok left)
      → (w : World) (net : Net) (b : ℕ) (office : OfficeState) (x : Next) → ClientStands r i o w net b office known (pipe.Streaming old incoming) road → CanHear w old.id b x
      → ClientLeft r i o w net (happens w (event.Up old.id)) b office known' left road'
  hear_left old held incoming received known known' half' left road middle road' ex hears settled w net b office x stands can =
      let c : ℕ = old.id.0 in
      let w1 : World = up_taken w c x in
      let v : World = happens w (event.Up old.id) in
      let s = stands.pipe_is in
      let at : RoadsAt r net road = record { sane = stands.roads_are.sane; shows = stands.roads_are.shows } in
      let takes = taken-net w net c false x stands.roads_are.is_net s.end_is.within s.end_is.taking can.comes.next in
      let n1 : Net = taken_net net c false in
      let p = end_passes r i o net true false [] (held_by (is_over w c false)) c false road middle old held at (end_held i o w net c false old s.end_is) (λ z. ap held_by takes.before)
      (subst (λ (q : Bool). ExchangesEnd r i o q old held road middle (Ok tt)) (same-itself c) ex) in
      let h1 : HeldAt i o n1 false [] (inbox_for x) c false held = subst (λ (z : Inbox). HeldAt i o n1 false [] z c false held) takes.holds p.held in
      let came = came_to i x known known' incoming received held.inward half' can.acks h1.is.held (s.received takes.before) hears in
      let new : Conn I O = record held { inward = half' } in
      let took : Took i (held_by (is_end x)) held new = record { id = refl; lower = refl; outward = refl; shut = hears.comes.shut; holds = came.holds } in
      let h2 : HeldAt i o n1 false [] (held_by (is_end x)) c false new = held_took i o n1 false [] (inbox_for x) (held_by (is_end x)) c false held new took h1 in
      let heard : HearsPipe w c b = record { upper = can.upper; conn = ap (λ (n : Option ℕ). is_conn n c) s.conn_is ∙ same-itself c; told = stands.told } in
      let t = taken_clients w c x in
      let y : WriterRecord = writer_hears (w1.writers b).known x in
      let k : Change = hears_as w1 b x in
      let is_y : known' ≡ y = came.writer ∙ ap (λ (z : WriterRecord). writer_hears z x) (stands.writer ∙ sym (ap (λ (f : ℕ → Writing). (f b).known) t.writers)) in
      let conn1 : (w1.writers b).conn ≡ Some c = ap (λ (f : ℕ → Writing). (f b).conn) t.writers ∙ s.conn_is in
      let after = after_change w1 k in
      let acted : HasActed i o w w1 net n1 (event.Up old.id) b c office k y [] (is_end x) new received = record {
        out = (up-makes w old.id x can.comes).writer b heard;
        conn = s.conn_is;
        sends = subst (λ (n : Option ℕ). SendsBy w1 k (upper_flushes n (not (is_connected y.phase)) [])) conn1 (writer-sends w1 b y).moves;
        writer = after.writer ∙ ap (writing_as y) conn1;
        office_is = stands.office_is ∙ (sym t.office ∙ sym after.office);
        is_net = takes.is_net;
        held = h2;
        over_is = takes.after;
        received = came.received;
        others = λ d l e none z. (stays r i o w w1 net c false d l e none (taken-over w d l c false x none) z).exchanged true false [];
      } in
      subst (λ (z : WriterRecord). ClientLeft r i o w net v b office z left road') (sym is_y)
      (settled_left r i o w w1 net n1 (event.Up old.id) b c office k y [] (is_end x) new received left middle road' acted p.roads_at
      (subst (λ (z : WriterRecord). IsSettled r i o (is_connected z.phase) new received middle road' (Ok left)) is_y settled))

  -- WHAT IT LEAVES, OR WHY IT FAILED

  unheard : (known known' : WriterRecord) (old : Conn I O) (incoming : IncomingState) (why : ClientFault) (road road' : R) → ((conn : Option ℕ) → conn ≡ Some old.id.0 → IsCaused r conn road road' why) → HearShows r i o known known' old incoming road road' (Err why)
  unheard known known' old incoming why road road' caused = λ w net b office x stands can. caused (w.writers b).conn stands.pipe_is.conn_is

  lost_caused : (old held : Conn I O) (incoming received : IncomingState) (known known' : WriterRecord) (half' : I) (why : ClientFault) (road middle road' : R) → held.id ≡ old.id → Hears i known known' incoming received held.inward half' looked.Failed
      → IsLost r i o (record held { inward = half' }) middle road' why → (conn : Option ℕ) → conn ≡ Some old.id.0 → IsCaused r conn road road' why
  lost_caused old held incoming received known known' half' fault.LinkFailed road middle road' same h lost conn at =
      let new : Conn I O = record held { inward = half' } in
      let failed = in_failed i o (i.faults held.inward) new (found_failed i acks incoming received held.inward half' h.came (sym h.is) h.comes.comes) in
      let risen : r.risen road' held.id.0 ≡ true = one_risen r i o new middle road' lost failed in
      subst (λ (n : Option ℕ). HasRisen (r.risen road') n) (sym at) (subst (λ (n : ConnId). r.risen road' n.0 ≡ true) same risen)
  lost_caused old held incoming received known known' half' fault.Memory road middle road' same h lost conn at = tt
  lost_caused old held incoming received known known' half' fault.RoadsFailed road middle road' same h lost conn at = absurd lost

  -- The link failed.
  pub hear_lost : (old held : Conn I O) (incoming received : IncomingState) (known known' : WriterRecord) (half' : I) (why : ClientFault) (road middle road' : R) → held.id ≡ old.id → Hears i known known' incoming received held.inward half' looked.Failed
      → IsLost r i o (record held { inward = half' }) middle road' why → HearShows r i o known known' old incoming road road' (Err why)
  hear_lost old held incoming received known known' half' why road middle road' same h lost =
      unheard known known' old incoming why road road' (lost_caused old held incoming received known known' half' why road middle road' same h lost)

  -- What stood next was taken.
  pub hear_shows : (old held : Conn I O) (incoming received : IncomingState) (known known' : WriterRecord) (half' : I) (result : Result (Pipe I O) ClientFault) (road middle road' : R)
      → ExchangesEnd r i o (names (Some old.id) old.id) old held road middle (Ok tt) → Hears i known known' incoming received held.inward half' looked.Known
      → IsSettled r i o (is_connected known'.phase) (record held { inward = half' }) received middle road' result → HearShows r i o known known' old incoming road road' result
  hear_shows old held incoming received known known' half' (Ok left) road middle road' ex hears settled = hear_left old held incoming received known known' half' left road middle road' ex hears settled
  hear_shows old held incoming received known known' half' (Err why) road middle road' ex hears settled =
      unheard known known' old incoming why road road' (λ conn at. settled_caused r i o conn (is_connected known'.phase) (record held { inward = half' }) received road middle road' why ex.cause.never_falls settled)
