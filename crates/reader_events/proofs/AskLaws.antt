-- A new reader that asked a node, or didn't reach it, and the world after it.
use Rattle.std.proofs.Common.{◌≡◌, ◌≤◌, ◌<◌, ◌+◌, ◌-◌, ◌&&◌, ℕ, Bool, true, false, if◌then◌else◌, List, [], ◌∷◌, ◌++◌, slice_get, Option, Some, None, IfSome, Result, Ok, Err, inl, inr, refl, sym, ap, ◌∙◌, subst, arith, eqb-true}
use Rattle.std.specs.Prelude.{◌==◌, cond, min, nat_le, IsErrOf}
use Rattle.std.proofs.lemmas.Bool.Decides.{nat_tests}
use Rattle.std.proofs.lemmas.Option.{same_Some}
use Rattle.hd_base.specs.Channels.{Plain}
use Rattle.hd_base.specs.Ends.{IsObservable}
use Rattle.hd_base.specs.declared.ends.Conn.{Conn}
use Rattle.hd_base.specs.declared.ends.RoadError.TheVariants as error
use Rattle.hd_base.specs.declared.links.LinkIn as link_in
use Rattle.hd_base.specs.declared.links.LinkOut as link_out
use Rattle.hd_base.specs.declared.numbers.NodeId.{NodeId}
use Rattle.hd_base.specs.declared.roads.Roads as roads
use Rattle.hd_base.specs.declared.roads.TheConstants.{FIRST_PORT}
use Rattle.link_pieces.specs.Roads.{KeepsInward, IsDialled}
use Rattle.world_settling.specs.MemberCore.TheConstants.{MAX_PORT}
use Rattle.op_headers.specs.declared.ops.Op.TheVariants as op
use Rattle.op_headers.specs.declared.ops.ReadOp.{ReadOp}
use Rattle.visible_read.specs.PipeTurns.Acting.{with_half}
use Rattle.read_core.specs.Readings.{asked}
use Rattle.road_traffic.proofs.CallLemmas.{sent-shows, dialled-shows}
use Rattle.road_traffic.proofs.ShowingLemmas.{roads-accepted, roads-same}
use Rattle.road_traffic.proofs.TrafficLemmas.{same-itself}
use Rattle.road_traffic.specs.Showing.{Net, IsSane, no_inbox, exchanged_net, dialled_net, accepted_net}
use Rattle.road_traffic.specs.Traffic.{Traffic}
use Rattle.visible_read.specs.declared.reading.Reading.{Reading}
use Rattle.visible_read.specs.declared.talking.Talk.{Talk}
use Rattle.visible_read.specs.Talking.{request_of}
use Rattle.world_settling.specs.World.Event.{Event}
use Rattle.world_settling.specs.World.Parts.{Dialled, request, by_reader, reads}
use Rattle.world_settling.specs.World.Worlds.{World, Change, Dial, put, apply}
use Rattle.world_settling.specs.World.Connections.{place_of}
use Rattle.world_settling.specs.World.Clients.{reader_dials}
use Rattle.world_settling.specs.World.Events.{outcome, happens}
use Rattle.world_settling.specs.WorldNets.Nets.{IsEndOf, held_by, is_over}
use Rattle.world_settling.specs.WorldNets.Rows.{text_of}
use Rattle.world_settling.specs.WorldNets.Dials.{DialsBy, IsAccepted, flushes_with, made_net}
use Rattle.world_settling.proofs.WorldNets.DialLemmas.{dialled-net, sane-stays, ends-made}
use Rattle.world_settling.proofs.WorldNets.EndLemmas.{same-end}
use Rattle.world_settling.proofs.WorldNets.StepLemmas.{changed-net, changed-over, next-conn, followed}
use Rattle.client_events.proofs.MemberEvents.EndLaws.{HeldAt, RoadsAt, Passed, end_from, end_passes}
use Rattle.client_events.proofs.MemberEvents.FaultEvents.{rises_from}
use Rattle.client_events.proofs.MemberEvents.MemberLaws.{never}
use Rattle.client_events.proofs.MemberEvents.WorldLaws.{happened}
use Rattle.client_events.specs.MemberEvents.Joining.{AcceptsDial}
use Rattle.client_events.specs.MemberEvents.Showing.{ShowsWorld}
use Rattle.reader_events.specs.declared.asking.Asked.{Asked}
use Rattle.reader_events.specs.declared.asking.Asked.TheVariants as left_by
use Rattle.reader_events.specs.declared.faults.ReaderFault.{ReaderFault}
use Rattle.reader_events.specs.declared.faults.ReaderFault.TheVariants as fault
use Rattle.reader_events.specs.Asking.{node_port, FlushesBy, Accepts, AsksNobody, no_memory, unsent, unflushed, IsAsked, CanAsk, NodeAsked, NodeSilent, AskEnds, AskShows}
use Rattle.reader_events.specs.Faults.{IsRoadFault, IsCaused}
use Rattle.reader_events.specs.Making.{asks_event, reader_dial}
use Rattle.reader_events.proofs.AskSteps.{HasAsked, has_asked, unsent_caused}
use Rattle.reader_events.proofs.HearLaws.{reader_put}
use Rattle.reader_events.proofs.MakeLaws.{asks-makes, dial-sends, unanswered-sends}

-- NUMBERS

least_port : (n : ℕ) → n ≤ MAX_PORT → min n MAX_PORT ≡ n
least_port n few = omega arith

at_end_of : (c n : ℕ) → c ≡ n → c < n + 1
at_end_of c n h = omega arith

from_end : (c n : ℕ) → c ≡ n → n ≤ c
from_end c n h = omega arith

self_le : (n : ℕ) → nat_le n n ≡ true
self_le n = grind (arith, nat_tests)

self_minus : (n : ℕ) → n - n ≡ 0
self_minus n = omega arith

and_false : (b : Bool) → (b && false) ≡ false
and_false true = refl
and_false false = refl

first_waits : (port : ℕ) (l : List ℕ) (n : ℕ) → l ≡ [] → slice_get (cond (port == port) (l ++ n ∷ []) l) 0 ≡ Some n
first_waits port l n none = ap (λ (b : Bool). slice_get (cond b (l ++ n ∷ []) l) 0) (same-itself port) ∙ ap (λ (x : List ℕ). slice_get (x ++ n ∷ []) 0) none

none_first : (l : List ℕ) (n : ℕ) → l ≡ [] → slice_get l 0 ≡ Some n → ⊥
none_first [] n is h = cc
none_first (x ∷ xs) n is h = cc

-- THE WORLD

put_own : {A : Type 0} (f : ℕ → A) (n j : ℕ) → put f n (f n) j ≡ f j
put_own f n j = by_test (j == n) refl
  where
    by_test : (q : Bool) → (j == n) ≡ q → (if q then f n else f j) ≡ f j
    by_test true e = ap f (sym (eqb-true j n e))
    by_test false e = refl

dialled_lowers : (w : World) (line : ℕ) (node : NodeId) (read : ReadOp) (n : ℕ) → (apply w (reader_dials w line node.0 read true)).lowers n ≡ w.lowers n
unfolding apply
dialled_lowers w line node read n = put_own w.lowers 0 n

-- the connection that was dialled
dialled_new : (w : World) (line : ℕ) (node : NodeId) (read : ReadOp) → (apply w (reader_dials w line node.0 read true)).dialled w.next_conn ≡ record { upper = by_reader line; from = None; to = place_of w node.0 }
unfolding apply
dialled_new w line node read = rw (self_le w.next_conn, self_minus w.next_conn) refl

sane_dialled : (net : Net) (port : ℕ) → IsSane net → IsSane (dialled_net net port)
sane_dialled net port s = record { fits = s.fits; fresh = λ c d h. s.fresh c d (omega (arith, h)) }

true_false : true ≡ false → ⊥
true_false h = cc

module _ {R I O : Type 0} (r : roads.Ghosts R I O) (i : link_in.Ghosts I) (o : link_out.Ghosts O) where
  module _ (w : World) (net : Net) (line : ℕ) (node : NodeId) (read : ReadOp) (road : R) (shows : ShowsWorld r w net road) (can : CanAsk w line node) where
    abbrev port : ℕ
    port = node_port node

    roads_here : RoadsAt r net road
    roads_here = record { sane = shows.sane; shows = shows.shows }

    last : w.next_conn ≡ net.conns
    last = sym shows.is_net.conns

    -- the node runs just where its port is listened on
    listens_as : (b : Bool) → IfSome (r.plain road) (λ p. p.listening port ≡ b) → w.running node.0 ≡ b
    listens_as b h =
        let there : shows.shows.plain.listening port ≡ b = subst (λ (y : Option Plain). IfSome y (λ p. p.listening port ≡ b)) shows.shows.is h in
        sym (shows.is_net.listens node.0) ∙ (ap net.listens (sym (least_port (FIRST_PORT + node.0) can.has_port)) ∙ (sym (shows.shows.holds.listening port) ∙ there))

    -- WHERE THE NODE DOESN'T RUN

    silent_left : (road' : R) → IfSome (r.plain road) (λ p. p.listening port ≡ false) → r.plain road' ≡ r.plain road → r.carried road' ≡ r.carried road → (answered : Bool) → NodeSilent r i o w net (happens w (asks_event line node read answered)) line node road'
    silent_left road' off plain carried answered =
        let k : Change = reader_dials w line node.0 read false in
        let e : Event = asks_event line node read answered in
        let stopped : w.running node.0 ≡ false = listens_as false off in
        let out : outcome w e ≡ Some (apply w k) = asks-makes w line node read answered can.new ∙ ap (λ (b : Bool). Some (apply w (reader_dials w line node.0 read b))) (ap (λ (b : Bool). answered && b) stopped ∙ and_false answered) in
        let f = followed w (apply w k) e out in
        let is_v = happened w (apply w k) e out in
        record {
          stopped = stopped;
          roads_are = record { is_net = f.nets net (changed-net w net k [] shows.is_net (unanswered-sends w line node read)); sane = shows.sane; shows = roads-same r i o net road road' shows.shows plain carried };
          reader = ap (λ (u : World). u.readers line) is_v ∙ reader_put w k;
          last = ap (λ (u : World). u.next_conn) is_v ∙ omega (arith, next-conn w k 0 refl);
          others = λ d l at_d none h. same-end r i o w (happens w e) net d l at_d (f.over d l ∙ changed-over w k d l) h;
        }

    -- WHERE IT WAS ASKED

    module _ (fresh : Conn I O) (middle : R) (dials : IsDialled r i o port road middle fresh) (on : IfSome (r.plain road) (λ p. p.listening port ≡ true)) where
      abbrev e : Event
      e = asks_event line node read true

      abbrev v : World
      v = happens w e

      abbrev k : Change
      k = reader_dials w line node.0 read true

      abbrev dial : Dial
      dial = reader_dial w line node read

      abbrev text : List ℕ
      text = text_of (request (op.Read read))

      by : DialsBy w k dial []
      by = dial-sends w line node read

      out : outcome w e ≡ Some (apply w k)
      out = asks-makes w line node read true can.new ∙ ap (λ (b : Bool). Some (apply w (reader_dials w line node.0 read b))) (listens_as true on)

      abbrev dialled_at : Net
      dialled_at = dialled_net net port

      number : fresh.id.0 ≡ w.next_conn
      number = (dialled-shows r i o port road middle fresh dials net roads_here.sane roads_here.shows).number ∙ sym last

      -- WHY IT FAILS

      later_caused : (first road' : R) (why : ReaderFault) → r.faults road ≤ r.faults first → IsRoadFault (r.faults first) (r.faults road') why → IsCaused r w.next_conn road road' why
      later_caused first road' fault.RoadsFailed less h = rises_from (r.faults road) (r.faults first) (r.faults road') less h
      later_caused first road' fault.Memory less h = tt
      later_caused first road' fault.LinkFailed less h = absurd h

      from_middle : (first road' : R) (why : ReaderFault) → r.faults road ≤ r.faults first → IsCaused r w.next_conn first road' why → IsCaused r w.next_conn road road' why
      from_middle first road' fault.RoadsFailed less h = rises_from (r.faults road) (r.faults first) (r.faults road') less h
      from_middle first road' fault.Memory less h = tt
      from_middle first road' fault.LinkFailed less h = h

      nobody_caused : (road' : R) (why : ReaderFault) → AsksNobody r i o read fresh middle road' why → IsCaused r w.next_conn road road' why
      nobody_caused road' why (no_memory m) = subst (IsCaused r w.next_conn road road') (sym m) tt
      nobody_caused road' why (unsent u) =
          from_middle middle road' why dials.never_falls (subst (λ (n : ℕ). IsCaused r n middle road' why) number (unsent_caused r i o read fresh u.fresh middle road' why u.begun u.fails))
      nobody_caused road' why (unflushed u) = later_caused middle road' why dials.never_falls u

      -- THE REQUEST WAS SENT, AND THE END EXCHANGED

      module _ (sent flushed : Reading I O) (later : R) (has : HasAsked o read fresh sent) (flushes : FlushesBy r i o sent flushed middle later) where
        held : HeldAt i o dialled_at false (text ∷ []) no_inbox w.next_conn false sent.end
        held =
            let shown = dialled-shows r i o port road middle fresh dials net roads_here.sane roads_here.shows in
            let mid : Conn I O = with_half fresh has.half in
            let same : KeepsInward fresh mid = record { id = refl; lower = refl; inward = refl } in
            subst (λ (x : Conn I O). HeldAt i o dialled_at false (text ∷ []) no_inbox w.next_conn false x) (sym has.end_is) (record {
              id = number;
              side = shown.upper;
              within = at_end_of w.next_conn net.conns last;
              is = sent-shows i o net.traffic [] no_inbox text fresh mid same has.piece shown.both.end_is;
              taking = ap (λ (t : Traffic). t.over) (roads_here.sane.fresh w.next_conn false (from_end w.next_conn net.conns last));
            })

        passed : Passed r i o dialled_at false false (text ∷ []) no_inbox w.next_conn false later flushed.end
        passed =
            let shown = dialled-shows r i o port road middle fresh dials net roads_here.sane roads_here.shows in
            let at : RoadsAt r dialled_at middle = record { sane = sane_dialled net port roads_here.sane; shows = shown.both.road_shows } in
            end_passes r i o dialled_at false false (text ∷ []) no_inbox w.next_conn false middle later sent.end flushed.end at held (λ z. never z) flushes.exchanged

        waits : slice_get (passed.roads_at.shows.plain.waiting port) 0 ≡ Some net.conns
        waits = ap (λ (l : List ℕ). slice_get l 0) (passed.roads_at.shows.holds.waiting port) ∙ first_waits port (net.waiting port) net.conns (shows.is_net.waiting port)

        pub dial_waits : IfSome (r.plain later) (λ p. p.waiting port ≡ []) → ⊥
        dial_waits empty =
            let nobody : passed.roads_at.shows.plain.waiting port ≡ [] = subst (λ (y : Option Plain). IfSome y (λ p. p.waiting port ≡ [])) passed.roads_at.shows.is empty in
            none_first (passed.roads_at.shows.plain.waiting port) net.conns nobody waits

        pub asked_left : (lower : Conn I O) (road' : R) → AcceptsDial r i o port later road' lower → NodeAsked r i o w net v line node flushed lower road'
        asked_left lower road' acc =
            let n : ℕ = w.next_conn in
            let f = followed w (apply w k) e out in
            let is_v = happened w (apply w k) e out in
            let p = passed in
            let all : Net = exchanged_net dialled_at n false false false (text ∷ []) in
            let made : Net = made_net net port (flushes_with w [] dial) in
            let ends = ends-made r i o w net k dial port [] shows.is_net roads_here.sane by in
            let waiting : slice_get (p.roads_at.shows.plain.waiting port) 0 ≡ Some lower.id.0 = subst (λ (q : Option Plain). IfSome q (λ z. slice_get (z.waiting port) 0 ≡ Some lower.id.0)) p.roads_at.shows.is acc.number in
            let accepted : IsAccepted i o n lower = record {
              number = same_Some lower.id.0 net.conns (sym waiting ∙ waits) ∙ sym last;
              lower = acc.lower;
              fresh = acc.fresh;
              observable = subst (λ (q : Option Plain). IfSome q (λ _. IsObservable i o lower)) p.roads_at.shows.is acc.observable;
            } in
            let over : is_over v n false ≡ false = f.over n false ∙ (changed-over w k n false ∙ shows.is_net.none_over n false (from_end n n refl)) in
            let held_now : HeldAt i o (accepted_net all port) false [] (held_by false) n false flushed.end = record { id = p.held.id; side = p.held.side; within = p.held.within; is = p.held.is; taking = p.held.taking } in
            let end_now : IsEndOf i o v made n false flushed.end = end_from i o v made n false false flushed.end over held_now in
            let own : v.readers line ≡ reads n (asked read) = ap (λ (u : World). u.readers line) is_v ∙ reader_put w k in
            let at_new : (v.dialled n) ≡ record { upper = by_reader line; from = None; to = place_of w node.0 } = ap (λ (u : World). u.dialled n) is_v ∙ dialled_new w line node read in
            record {
              made = made;
              stands = record {
                roads_are = record {
                  is_net = f.nets made (dialled-net w net k dial port [] shows.is_net by);
                  sane = (sane-stays net (flushes_with w [] dial) roads_here.sane).made port (at_end_of n net.conns last, tt);
                  shows = roads-accepted r i o all later road' port p.roads_at.shows acc.plain acc.carried;
                };
                shows = record {
                  state = asked read;
                  reader = own ∙ ap (λ (m : ℕ). reads m (asked read)) (sym p.held.id);
                  core = ap (λ (y : Talk). y.core) flushes.talk ∙ has.core;
                  asked = ap request_of flushes.talk ∙ has.none;
                  answered = ap (λ (y : Talk). y.answered) flushes.talk ∙ has.unanswered;
                  end_is = subst (λ (m : ℕ). IsEndOf i o v made m false flushed.end) (sym p.held.id) end_now;
                  received = λ z. ap (λ (y : Talk). y.incoming) flushes.talk ∙ has.nothing;
                };
              };
              conn_is = p.held.id;
              end_is = same-end r i o (apply w k) v made n true lower (f.over n true) (ends.lower lower accepted);
              lower_same = ap (λ (u : World). u.lowers n) is_v ∙ dialled_lowers w line node read n;
              upper = ap (λ (q : Dialled). q.upper) at_new;
              node_is = ap (λ (q : Dialled). q.to.node) at_new;
              last = ap (λ (u : World). u.next_conn) is_v ∙ next-conn w k 1 refl;
              others = λ d l at_d none h. same-end r i o (apply w k) v made d l at_d (f.over d l) (ends.others d l at_d tt h);
            }

      -- HOW IT ENDS

      not_accepted : (sent flushed : Reading I O) (later road' : R) (why : ReaderFault) → HasAsked o read fresh sent → FlushesBy r i o sent flushed middle later → Accepts r i o port flushed later road' (Err why) → IsCaused r w.next_conn road road' why
      not_accepted sent flushed later road' fault.RoadsFailed has flushes (inl none) = absurd (dial_waits sent flushed later has flushes none)
      not_accepted sent flushed later road' fault.RoadsFailed has flushes (inr rose) =
          rises_from (r.faults road) (r.faults middle) (r.faults road') dials.never_falls (rises_from (r.faults middle) (r.faults later) (r.faults road') flushes.exchanged.cause.never_falls rose)
      not_accepted sent flushed later road' fault.Memory has flushes a = tt
      not_accepted sent flushed later road' fault.LinkFailed has flushes a = absurd a

      -- the exchange began where the request was sent, which did nothing on the roads
      flushed_at : (first second : R) (sent flushed : Reading I O) → first ≡ middle → FlushesBy r i o sent flushed first second → FlushesBy r i o sent flushed middle second
      flushed_at first second sent flushed same h = subst (λ (y : R). FlushesBy r i o sent flushed y second) same h

      pub asked_ends : (road' : R) (result : Result (Asked I O) ReaderFault) → IsAsked r i o port read fresh middle road' result → AskEnds r i o w net line read node road road' result
      asked_ends road' (Err why) (inl n) = nobody_caused road' why n
      asked_ends road' (Err why) (inr a) =
          not_accepted a.sent a.flushed a.second road' why (has_asked r i o read fresh a.sends.fresh a.sent middle a.first a.sends.begun a.sends.sends) (flushed_at a.first a.second a.sent a.flushed a.sends.sends.same a.flushes) a.accepts
      asked_ends road' (Ok left) a =
          let has = has_asked r i o read fresh a.sends.fresh a.sent middle a.first a.sends.begun a.sends.sends in
          let k = asked_left a.sent a.flushed a.second has (flushed_at a.first a.second a.sent a.flushed a.sends.sends.same a.flushes) a.accepts.lower road' a.accepts.accepts in
          subst (λ (z : Asked I O). AskEnds r i o w net line read node road road' (Ok z)) (sym a.accepts.is) k

  -- where a dial was answered somebody listens
  answered_on : (plain : Option Plain) (at : ℕ) (fresh : Conn I O) → IfSome plain (λ p. p.listening at ≡ false → IsErrOf {T = Conn I O} (Ok fresh) error.NotListening) → IfSome plain (λ p. p.listening at ≡ true)
  answered_on None at fresh h = tt
  answered_on (Some p) at fresh h = by_test (p.listening at) h
    where
      by_test : (b : Bool) → (b ≡ false → IsErrOf {T = Conn I O} (Ok fresh) error.NotListening) → b ≡ true
      by_test true k = refl
      by_test false k = let e = k refl in cc

  -- The node was asked, or wasn't reached on the way.
  pub ask_shows : (at : ℕ) (node : NodeId) (read : ReadOp) (road middle road' : R) (fresh : Conn I O) (result : Result (Asked I O) ReaderFault) → at ≡ node_port node → IsDialled r i o at road middle fresh
      → IfSome (r.plain road) (λ p. p.listening at ≡ false → IsErrOf {T = Conn I O} (Ok fresh) error.NotListening) → IsAsked r i o at read fresh middle road' result → AskShows r i o read node road road' result
  ask_shows at node read road middle road' fresh result is dials on h = λ w net line shows can.
      asked_ends w net line node read road shows can fresh middle (subst (λ (n : ℕ). IsDialled r i o n road middle fresh) is dials)
      (subst (λ (n : ℕ). IfSome (r.plain road) (λ p. p.listening n ≡ true)) is (answered_on (r.plain road) at fresh on)) road' result
      (subst (λ (n : ℕ). IsAsked r i o n read fresh middle road' result) is h)

  -- Nobody listens at its port.
  pub silent_shows : (at : ℕ) (node : NodeId) (read : ReadOp) (road road' : R) → at ≡ node_port node → IfSome (r.plain road) (λ p. p.listening at ≡ false) → r.plain road' ≡ r.plain road → r.carried road' ≡ r.carried road → AskShows r i o read node road road' (Ok left_by.Unanswered)
  silent_shows at node read road road' is off plain carried = λ w net line shows can answered.
      silent_left w net line node read road shows can road' (subst (λ (n : ℕ). IfSome (r.plain road) (λ p. p.listening n ≡ false)) is off) plain carried answered
