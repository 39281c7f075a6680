-- A writer's end that is kept or given back, and the world after the event.
use Rattle.std.proofs.Common.{◌≡◌, ◌≤◌, ℕ, not, Bool, true, false, if◌then◌else◌, List, map, Option, Some, None, IfSome, Ok, Err, refl, sym, ap, ◌∙◌, subst}
use Rattle.hd_base.specs.declared.ends.Conn.{Conn}
use Rattle.hd_base.specs.declared.links.LinkIn as link_in
use Rattle.hd_base.specs.declared.links.LinkOut as link_out
use Rattle.hd_base.specs.declared.numbers.ConnId.{ConnId}
use Rattle.hd_base.specs.declared.roads.Roads as roads
use Rattle.pipe_recovery.specs.LinkMessages.Incomings.{IncomingState, nothing_received}
use Rattle.link_pieces.specs.Roads.{ExchangesEnd}
use Rattle.name_core.specs.Offices.{OfficeState}
use Rattle.road_traffic.specs.Showing.{Net, exchanged_net, lost_net}
use Rattle.road_traffic.proofs.CallLemmas.{shut-shows}
use Rattle.member_events.specs.World.Event.{Event}
use Rattle.member_events.specs.World.Parts.{Message, Writing}
use Rattle.member_events.specs.World.Worlds.{World, Change, apply}
use Rattle.member_events.specs.World.Clients.{writing_as}
use Rattle.member_events.specs.World.Events.{outcome, happens}
use Rattle.member_events.specs.WorldNets.Rows.{text_of}
use Rattle.member_events.specs.WorldNets.Nets.{IsNetOf, IsEndOf, held_by, is_over}
use Rattle.member_events.specs.WorldNets.Ends.{IsElsewhere}
use Rattle.member_events.specs.WorldNets.Steps.{SendsBy}
use Rattle.member_events.specs.WorldNets.Flushing.{upper_flushes}
use Rattle.member_events.proofs.WorldNets.StepLemmas.{changed-net, changed-over, lost-net, followed}
use Rattle.member_events.proofs.WorldNets.EndLemmas.{stays}
use Rattle.writer_core.specs.declared.records.WriterRecord.{WriterRecord}
use Rattle.writer_core.specs.Transitions.{is_connected}
use Rattle.member_events.proofs.EndLaws.{HeldAt, RoadsAt, end_from, end_passes, end_brought}
use Rattle.member_events.proofs.FaultEvents.{rises_from}
use Rattle.member_events.proofs.MemberLaws.{never}
use Rattle.member_events.proofs.WorldLaws.{happened}
use Rattle.client_events.specs.declared.faults.ClientFault.{ClientFault}
use Rattle.client_events.specs.declared.faults.ClientFault.TheVariants as fault
use Rattle.client_events.specs.declared.pipes.Pipe.{Pipe}
use Rattle.client_events.specs.declared.pipes.Pipe.TheVariants as pipe
use Rattle.client_events.specs.Faults.{IsRoadFault, IsCaused}
use Rattle.client_events.specs.Showing.{OthersStay, StreamShows, ClientLeft}
use Rattle.client_events.specs.Steps.{GivesBack, IsSettled}

-- CAUSES

module _ {R I O : Type 0} (r : roads.Ghosts R I O) (i : link_in.Ghosts I) (o : link_out.Ghosts O) where
  pub road_caused : (conn : Option ℕ) (first road road' : R) (why : ClientFault) → r.faults first ≤ r.faults road → IsRoadFault (r.faults road) (r.faults road') why → IsCaused r conn first road' why
  road_caused conn first road road' fault.RoadsFailed h k = rises_from (r.faults first) (r.faults road) (r.faults road') h k
  road_caused conn first road road' fault.Memory h k = tt
  road_caused conn first road road' fault.LinkFailed h k = absurd k

  pub settled_caused : (conn : Option ℕ) (on : Bool) (at_end : Conn I O) (incoming : IncomingState) (first road road' : R) (why : ClientFault) → r.faults first ≤ r.faults road → IsSettled r i o on at_end incoming road road' (Err why) → IsCaused r conn first road' why
  settled_caused conn true at_end incoming first road road' why h s = road_caused conn first road road' why h s
  settled_caused conn false at_end incoming first road road' why h s = subst (λ (x : ClientFault). IsCaused r conn first road' x) (sym s) tt

-- THE WORLD AFTER

-- What an event of a writer has made of the world, and of its end, before the end is kept or given back.
pub record HasActed {I O : Type 0} (i : link_in.Ghosts I) (o : link_out.Ghosts O) (w w1 : World) (first net : Net) (e : Event) (b c : ℕ) (office : OfficeState) (k : Change) (x : WriterRecord) (ms : List Message) (over : Bool) (at_end : Conn I O) (incoming : IncomingState) : Type 0 where
  pub out : outcome w e ≡ Some (apply w1 k)
  pub conn : (w.writers b).conn ≡ Some c
  pub sends : SendsBy w1 k (upper_flushes (Some c) (not (is_connected x.phase)) ms)
  pub writer : (apply w1 k).writers b ≡ writing_as x (Some c)
  pub office_is : office ≡ (apply w1 k).office
  pub is_net : IsNetOf w1 net
  pub held : HeldAt i o net false (map text_of ms) (held_by over) c false at_end
  pub over_is : is_over w1 c false ≡ over
  pub received : over ≡ false → incoming ≡ nothing_received
  pub others : OthersStay i o w first w1 net (Some c)

module _ {R I O : Type 0} (r : roads.Ghosts R I O) (i : link_in.Ghosts I) (o : link_out.Ghosts O) where
  pub away_from : (conn : Option ℕ) (c d : ℕ) (lower : Bool) → conn ≡ Some c → IfSome conn (λ n. IsElsewhere n false d lower) → IsElsewhere c false d lower
  away_from conn c d lower is none = subst (λ (n : Option ℕ). IfSome n (λ z. IsElsewhere z false d lower)) is none

  kept_left : (w w1 : World) (first net : Net) (e : Event) (b c : ℕ) (office : OfficeState) (k : Change) (x : WriterRecord) (ms : List Message) (over : Bool) (at_end new : Conn I O) (incoming received : IncomingState) (road road' : R)
      → HasActed i o w w1 first net e b c office k x ms over at_end incoming → is_connected x.phase ≡ true → RoadsAt r net road → ExchangesEnd r i o false at_end new road road' (Ok tt) → received ≡ incoming
      → ClientLeft r i o w first (happens w e) b office x (pipe.Streaming new received) road'
  kept_left w w1 first net e b c office k x ms over at_end new incoming received road road' h on at ex left =
      let v : World = happens w e in
      let f = followed w (apply w1 k) e h.out in
      let made : Net = exchanged_net net c false false false (map text_of ms) in
      let n : IsNetOf (apply w1 k) made = changed-net w1 net k (upper_flushes (Some c) false ms) h.is_net (subst (λ (s : Bool). SendsBy w1 k (upper_flushes (Some c) (not s) ms)) on h.sends) in
      let p = end_passes r i o net false false (map text_of ms) (held_by over) c false road road' at_end new at h.held (λ z. never z) ex in
      let same : (d : ℕ) (l : Bool) → is_over v d l ≡ is_over w1 d l = λ d l. f.over d l ∙ changed-over w1 k d l in
      let own : v.writers b ≡ writing_as x (Some c) = ap (λ (u : World). u.writers b) (happened w (apply w1 k) e h.out) ∙ h.writer in
      let shows : StreamShows i o v made (v.writers b).conn new received = record {
        conn_is = ap (λ (y : Writing). y.conn) own ∙ (ap (λ (q : Bool). if q then Some c else None) on ∙ ap Some (sym p.held.id));
        end_is = subst (λ (m : ℕ). IsEndOf i o v made m false new) (sym p.held.id) (end_from i o v made c false over new (same c false ∙ h.over_is) p.held);
        received = λ z. left ∙ h.received (sym (same c false ∙ h.over_is) ∙ (ap (λ (m : ℕ). is_over v m false) (sym p.held.id) ∙ z));
      } in
      record {
        made = made;
        stands = record {
          roads_are = record { is_net = f.nets made n; sane = p.roads_at.sane; shows = p.roads_at.shows };
          writer = sym (ap (λ (y : Writing). y.known) own);
          told = ap (λ (y : Writing). y.told) own;
          pipe_is = shows;
          office_is = h.office_is ∙ sym (ap (λ (u : World). u.office) (happened w (apply w1 k) e h.out));
        };
        others = λ d l y none z.
            (stays r i o w1 v net c false d l y (away_from (w.writers b).conn c d l h.conn none) (same d l) (h.others d l y (away_from (w.writers b).conn c d l h.conn none) z)).exchanged false false (map text_of ms);
      }

  pub given_left : (w w1 : World) (first net : Net) (e : Event) (b c : ℕ) (office : OfficeState) (k : Change) (x : WriterRecord) (ms : List Message) (over : Bool) (at_end : Conn I O) (incoming : IncomingState) (road road' : R)
      → HasActed i o w w1 first net e b c office k x ms over at_end incoming → is_connected x.phase ≡ false → RoadsAt r net road → GivesBack r i o at_end road road'
      → ClientLeft r i o w first (happens w e) b office x pipe.Closed road'
  given_left w w1 first net e b c office k x ms over at_end incoming road road' h off at g =
      let v : World = happens w e in
      let f = followed w (apply w1 k) e h.out in
      let made : Net = lost_net net c false (map text_of ms) in
      let n : IsNetOf (apply w1 k) made = lost-net (apply w1 k) net c false (map text_of ms) (changed-net w1 net k (upper_flushes (Some c) true ms) h.is_net (subst (λ (s : Bool). SendsBy w1 k (upper_flushes (Some c) (not s) ms)) off h.sends)) in
      let p = end_brought r i o net true (map text_of ms) (held_by over) c false road road' g.shut at (ap (λ (y : ConnId). y.0) g.kept.id ∙ h.held.id) (g.kept.lower ∙ h.held.side) h.held.within
      (shut-shows i o net.traffic false (map text_of ms) (held_by over) at_end g.shut g.kept g.half h.held.is) g.brings in
      let same : (d : ℕ) (l : Bool) → is_over v d l ≡ is_over w1 d l = λ d l. f.over d l ∙ changed-over w1 k d l in
      let own : v.writers b ≡ writing_as x (Some c) = ap (λ (u : World). u.writers b) (happened w (apply w1 k) e h.out) ∙ h.writer in
      record {
        made = made;
        stands = record {
          roads_are = record { is_net = f.nets made n; sane = p.sane; shows = p.shows };
          writer = sym (ap (λ (y : Writing). y.known) own);
          told = ap (λ (y : Writing). y.told) own;
          pipe_is = ap (λ (y : Writing). y.conn) own ∙ ap (λ (q : Bool). if q then Some c else None) off;
          office_is = h.office_is ∙ sym (ap (λ (u : World). u.office) (happened w (apply w1 k) e h.out));
        };
        others = λ d l y none z.
            (stays r i o w1 v net c false d l y (away_from (w.writers b).conn c d l h.conn none) (same d l) (h.others d l y (away_from (w.writers b).conn c d l h.conn none) z)).lost (map text_of ms);
      }

  settle_by : (on : Bool) (w w1 : World) (first net : Net) (e : Event) (b c : ℕ) (office : OfficeState) (k : Change) (x : WriterRecord) (ms : List Message) (over : Bool) (at_end : Conn I O) (incoming : IncomingState) (left : Pipe I O) (road road' : R)
      → HasActed i o w w1 first net e b c office k x ms over at_end incoming → is_connected x.phase ≡ on → RoadsAt r net road → IsSettled r i o on at_end incoming road road' (Ok left)
      → ClientLeft r i o w first (happens w e) b office x left road'
  settle_by true w w1 first net e b c office k x ms over at_end incoming (pipe.Streaming new received) road road' h on at s = kept_left w w1 first net e b c office k x ms over at_end new incoming received road road' h on at s.0 s.1
  settle_by true w w1 first net e b c office k x ms over at_end incoming pipe.Closed road road' h on at s = absurd s
  settle_by true w w1 first net e b c office k x ms over at_end incoming (pipe.SettingUp setup) road road' h on at s = absurd s
  settle_by false w w1 first net e b c office k x ms over at_end incoming pipe.Closed road road' h on at s = given_left w w1 first net e b c office k x ms over at_end incoming road road' h on at s
  settle_by false w w1 first net e b c office k x ms over at_end incoming (pipe.Streaming new received) road road' h on at s = absurd s
  settle_by false w w1 first net e b c office k x ms over at_end incoming (pipe.SettingUp setup) road road' h on at s = absurd s

  -- An end that was kept or given back, and the world after the event.
  pub settled_left : (w w1 : World) (first net : Net) (e : Event) (b c : ℕ) (office : OfficeState) (k : Change) (x : WriterRecord) (ms : List Message) (over : Bool) (at_end : Conn I O) (incoming : IncomingState) (left : Pipe I O) (road road' : R)
      → HasActed i o w w1 first net e b c office k x ms over at_end incoming → RoadsAt r net road → IsSettled r i o (is_connected x.phase) at_end incoming road road' (Ok left)
      → ClientLeft r i o w first (happens w e) b office x left road'
  settled_left w w1 first net e b c office k x ms over at_end incoming left road road' h at s = settle_by (is_connected x.phase) w w1 first net e b c office k x ms over at_end incoming left road road' h refl at s
