-- The world after a writer heard the answer to its request, or the end.
use Rattle.std.proofs.Common.{◌≡◌, ◌≢◌, inl, inr, ◌⊎◌, ℕ, not, Bool, true, false, if◌then◌else◌, [], is_err, option_map, Option, Some, None, Result, Ok, Err, refl, sym, ap, ◌∙◌, subst}
use Rattle.std.proofs.lemmas.Option.{same_Some}
use Rattle.hd_base.specs.Ends.{has_failed}
use Rattle.hd_base.specs.Faults.{FaultsIncreased}
use Rattle.hd_base.specs.Links.{Inbox}
use Rattle.hd_base.specs.declared.ends.Conn.{Conn}
use Rattle.hd_base.specs.declared.ends.RoadError.{RoadError}
use Rattle.hd_base.specs.declared.links.LinkIn as link_in
use Rattle.hd_base.specs.declared.links.LinkOut as link_out
use Rattle.hd_base.specs.declared.numbers.ConnId.{ConnId}
use Rattle.hd_base.specs.declared.roads.Roads as roads
use Rattle.pipe_recovery.specs.LinkMessages.Incomings.{IncomingState, nothing_received}
use Rattle.link_pieces.specs.Roads.{ExchangesEnd, BringsEnd}
use Rattle.name_core.specs.declared.desks.Desk as desks
use Rattle.name_core.specs.Offices.{OfficeState}
use Rattle.pipe_recovery.specs.declared.acting.Acted.{Acted}
use Rattle.pipe_recovery.specs.declared.hearing.Answer.{Answer}
use Rattle.pipe_recovery.specs.declared.hearing.Looked.{Looked}
use Rattle.pipe_recovery.specs.declared.hearing.Looked.TheVariants as looked
use Rattle.pipe_recovery.specs.declared.links.Link.{Link}
use Rattle.pipe_recovery.specs.declared.rebuilding.Rebuild.{Rebuild}
use Rattle.pipe_recovery.specs.declared.rebuilding.RebuildStep.{RebuildStep}
use Rattle.pipe_recovery.specs.declared.rebuilding.RebuildStep.TheVariants as step
use Rattle.pipe_recovery.specs.declared.rebuilding.Rebuilt.TheVariants as rebuilt
use Rattle.pipe_recovery.specs.Acting.{has_own_step}
use Rattle.pipe_recovery.specs.Hearing.{HeardState, nothing_heard}
use Rattle.pipe_recovery.specs.Reports.{Streams, EndsAs, Reports, ReportsAt, moved_if, failed_as}
use Rattle.pipe_recovery.specs.Steps.{keeps_link, SettlesTold, TakesAs, FollowsLook, WaitsOn, Waits, HearsNextAs, HearsSeen, HearsOn, HearsGiven, Hears, ElseAsks, Leaves, Acts, Steps}
use Rattle.pipe_recovery.specs.Exchanging.{Exchanges, ExchangesLink}
use Rattle.pipe_recovery.specs.Links.{LooksAt}
use Rattle.road_traffic.specs.Laws.{Took}
use Rattle.road_traffic.specs.Showing.{Net}
use Rattle.road_traffic.proofs.TrafficLemmas.{same-itself}
use Rattle.member_events.specs.World.Event.{Event}
use Rattle.member_events.specs.World.Event.TheVariants as event
use Rattle.member_events.specs.World.Parts.{by_writer, Writing}
use Rattle.member_events.specs.World.Worlds.{World, Change, apply}
use Rattle.member_events.specs.World.Connections.{Next, message, the_end, up_taken, is_conn}
use Rattle.member_events.specs.World.Clients.{writing_as, writer_hears}
use Rattle.member_events.specs.World.Events.{happens}
use Rattle.member_events.specs.WorldNets.Drawn.{ComesUp, HearsPipe, hears_as}
use Rattle.member_events.specs.WorldNets.Nets.{IsEndOf, held_by, inbox_for, is_over}
use Rattle.member_events.specs.WorldNets.Steps.{SendsBy, is_end, taken_net}
use Rattle.member_events.specs.WorldNets.Flushing.{upper_flushes}
use Rattle.member_events.proofs.WorldNets.DrawnLemmas.{up-makes}
use Rattle.member_events.proofs.WorldNets.EndLemmas.{stays, same-end}
use Rattle.member_events.proofs.WorldNets.FlushingLemmas.{writer-sends}
use Rattle.member_events.proofs.WorldNets.StepLemmas.{changed-net, changed-over, followed, taken-net, taken-over}
use Rattle.writer_core.specs.declared.phases.Failure.{Failure}
use Rattle.writer_core.specs.declared.phases.Failure.TheVariants as failure
use Rattle.writer_core.specs.declared.phases.Phase.{Phase}
use Rattle.writer_core.specs.declared.phases.Phase.TheVariants as phase
use Rattle.writer_core.specs.declared.phases.Setup.TheVariants as setup
use Rattle.writer_core.specs.declared.records.WriterRecord.{WriterRecord}
use Rattle.writer_core.specs.Transitions.{is_connected}
use Rattle.member_events.proofs.CauseLaws.{in_failed, one_risen}
use Rattle.member_events.proofs.DownEvents.{held_took}
use Rattle.member_events.proofs.EndLaws.{HeldAt, RoadsAt, end_held, end_from, end_passes}
use Rattle.member_events.proofs.FaultEvents.{same_count}
use Rattle.member_events.proofs.WorldLaws.{happened}
use Rattle.client_events.specs.declared.faults.ClientFault.{ClientFault}
use Rattle.client_events.specs.declared.faults.ClientFault.TheVariants as fault
use Rattle.client_events.specs.declared.pipes.Pipe.{Pipe}
use Rattle.client_events.specs.declared.pipes.Pipe.TheVariants as pipe
use Rattle.client_events.specs.Answering.{IsWaiting, TakesLink, is_risen, piped}
use Rattle.client_events.specs.Events.{IsNextIn, CanHearAnswer, AnswerShows, AnswerKeepsOffice}
use Rattle.client_events.specs.Faults.{HasRisen, IsCaused}
use Rattle.client_events.specs.Showing.{awaits, PipeShows, LinkShows, LinkStands, ClientStands, ClientLeft}
use Rattle.client_events.specs.Steps.{GivesBack}
use Rattle.client_events.proofs.ActLaws.{unsent}
use Rattle.client_events.proofs.AnswerLaws.{IsDecided, AnsweredBy, FailedLink, end_leaves, heard_decides, answer_comes, true_false, answered, finds}
use Rattle.client_events.proofs.HearLaws.{taken_clients, after_change}
use Rattle.client_events.proofs.SettleLaws.{HasActed, given_left, away_from, road_caused}

-- AN END THAT STAYS

module _ {R I O : Type 0} (r : roads.Ghosts R I O) (i : link_in.Ghosts I) (o : link_out.Ghosts O) where
  -- An end on which nothing was sent is kept, and needs no exchange.
  pub quiet_left : (w w1 : World) (first net : Net) (e : Event) (b c : ℕ) (office : OfficeState) (k : Change) (x : WriterRecord) (over : Bool) (at_end : Conn I O) (incoming : IncomingState) (left : Pipe I O) (road : R)
      → HasActed i o w w1 first net e b c office k x [] over at_end incoming → is_connected x.phase ≡ true → RoadsAt r net road
      → ((v : World) → IsEndOf i o v net at_end.id.0 false at_end → (is_over v at_end.id.0 false ≡ false → incoming ≡ nothing_received) → PipeShows i o v net (Some at_end.id.0) left)
      → ClientLeft r i o w first (happens w e) b office x left road
  quiet_left w w1 first net e b c office k x over at_end incoming left road h on at shows =
      let v : World = happens w e in
      let f = followed w (apply w1 k) e h.out in
      let sends : SendsBy w1 k [] = unsent w1 k (Some c) (subst (λ (s : Bool). SendsBy w1 k (upper_flushes (Some c) (not s) [])) on h.sends) in
      let same : (d : ℕ) (l : Bool) → is_over v d l ≡ is_over w1 d l = λ d l. f.over d l ∙ changed-over w1 k d l in
      let own : v.writers b ≡ writing_as x (Some c) = ap (λ (u : World). u.writers b) (happened w (apply w1 k) e h.out) ∙ h.writer in
      let conn_is : (v.writers b).conn ≡ Some at_end.id.0 = ap (λ (y : Writing). y.conn) own ∙ (ap (λ (q : Bool). if q then Some c else None) on ∙ ap Some (sym h.held.id)) in
      let stays_end : IsEndOf i o v net at_end.id.0 false at_end = subst (λ (m : ℕ). IsEndOf i o v net m false at_end) (sym h.held.id) (end_from i o v net c false over at_end (same c false ∙ h.over_is) h.held) in
      let none : is_over v at_end.id.0 false ≡ false → incoming ≡ nothing_received = λ z. h.received (sym (same c false ∙ h.over_is) ∙ (ap (λ (m : ℕ). is_over v m false) (sym h.held.id) ∙ z)) in
      record {
        made = net;
        stands = record {
          roads_are = record { is_net = f.nets net (changed-net w1 net k [] h.is_net sends); sane = at.sane; shows = at.shows };
          writer = sym (ap (λ (y : Writing). y.known) own);
          told = ap (λ (y : Writing). y.told) own;
          pipe_is = subst (λ (n : Option ℕ). PipeShows i o v net n left) (sym conn_is) (shows v stays_end none);
          office_is = h.office_is ∙ sym (ap (λ (u : World). u.office) (happened w (apply w1 k) e h.out));
        };
        others = λ d l y none_of z. same-end r i o w1 v net d l y (same d l) (h.others d l y (away_from r i o (w.writers b).conn c d l h.conn none_of) z);
      }

  -- no connection is left, whether a setup goes on or not
  pub no_conn : (w : World) (net : Net) (v : World) (b : ℕ) (office : OfficeState) (x : WriterRecord) (left : Pipe I O) (road : R) → ((z : World) (made : Net) (conn : Option ℕ) → conn ≡ None → PipeShows i o z made conn left) → ClientLeft r i o w net v b office x pipe.Closed road → ClientLeft r i o w net v b office x left road
  no_conn w net v b office x left road shows h = record {
    made = h.made;
    stands = record {
      roads_are = h.stands.roads_are;
      writer = h.stands.writer;
      told = h.stands.told;
      pipe_is = shows v h.made (v.writers b).conn h.stands.pipe_is;
      office_is = h.stands.office_is;
    };
    others = h.others;
  }

  ok_of : (res : Result (Unit {0}) RoadError) → false ≡ is_err res → res ≡ Ok tt
  ok_of (Ok u) h = refl
  ok_of (Err why) h = cc

  -- an end that was given up and not lost was brought back
  pub given_back : (l : Link I O) (kept : Option (Link I O)) (road road' : R) → SettlesTold r i o false (Some l) kept road road' false → (kept ≡ None) × GivesBack r i o l.end road road'
  given_back l kept road road' s =
      let g = s.settles.1 in (
        s.settles.0,
        record {
          shut = g.shut;
          kept = g.kept;
          half = record { shut = g.is_shut; sent = g.sent; flushed = g.flushed; lost = g.lost };
          brings = subst (λ (res : Result (Unit {0}) RoadError). BringsEnd r i o g.shut road road' res) (ok_of g.result s.told) g.brings;
        },
      )

  -- WHAT IS LEFT OF THE SETUP

  pub setup_none : (left : Rebuild I O) → left.link ≡ None → (z : World) (made : Net) (conn : Option ℕ) → conn ≡ None → PipeShows i o z made conn (pipe.SettingUp left)
  setup_none left none z made conn h = subst (λ (n : Option (Link I O)). LinkShows i o z made conn n) (sym none) h

  pub piped_moved : (left : Rebuild I O) (q : Bool) → piped left (moved_if q) ≡ Ok (pipe.SettingUp left)
  piped_moved left true = refl
  piped_moved left false = refl

  pub piped_failed : (left : Rebuild I O) (f : Failure) → piped left (step.Ended (failed_as f)) ≡ Ok pipe.Closed
  piped_failed left (failure.Abandoned m) = refl
  piped_failed left (failure.AllBad m) = refl
  piped_failed left (failure.Lost recovery) = refl
  piped_failed left (failure.Refused why) = refl

  ok_pipe : (x y : Pipe I O) → ◌≡◌ {A = Result (Pipe I O) ClientFault} (Ok x) (Ok y) → x ≡ y
  ok_pipe x y h = cc

  pub piped_as : (left : Rebuild I O) (ends what : RebuildStep I O) (x y : Pipe I O) → ends ≡ what → piped left what ≡ Ok x → piped left ends ≡ Ok y → x ≡ y
  piped_as left ends what x y is a b = ok_pipe x y (sym a ∙ (ap (piped left) (sym is) ∙ b))

module _ {R I O : Type 0} (r : roads.Ghosts R I O) (i : link_in.Ghosts I) (o : link_out.Ghosts O) (w w1 : World) (first net : Net) (e : Event) (b c : ℕ) (office : OfficeState) (k : Change) (x : WriterRecord) (over : Bool) (held : Link I O)
    (acted : HasActed i o w w1 first net e b c office k x [] over held.end held.heard.received) (setup' : Rebuild I O) (ends : RebuildStep I O) (left : Pipe I O) (kept : Option (Link I O)) (road road' : R) (at : RoadsAt r net road)
    (is : piped setup' ends ≡ Ok left) where
  -- The pipeline stands, and its connection is handed over.
  streams_left : is_connected x.phase ≡ true → SettlesTold r i o true (Some held) kept road road' false → Streams kept setup'.link ends → ClientLeft r i o w first (happens w e) b office x left road'
  streams_left on s streams =
      let t : Streams (Some held) setup'.link ends = subst (λ (n : Option (Link I O)). Streams n setup'.link ends) s.settles.0 streams in
      let same : pipe.Streaming held.end held.heard.received ≡ left = piped_as r i o setup' ends (step.Ended (rebuilt.Streaming held.end held.heard.received)) (pipe.Streaming held.end held.heard.received) left t.1 refl is in
      subst (λ (y : R). ClientLeft r i o w first (happens w e) b office x left y) (sym s.settles.1)
      (subst (λ (y : Pipe I O). ClientLeft r i o w first (happens w e) b office x y road) same
      (quiet_left r i o w w1 first net e b c office k x over held.end held.heard.received (pipe.Streaming held.end held.heard.received) road acted on at
      (λ v end_is received. record { conn_is = refl; end_is = end_is; received = received })))

  -- The setup goes on with its connection.
  goes_left : is_connected x.phase ≡ true → held.heard ≡ nothing_heard → SettlesTold r i o true (Some held) kept road road' false → EndsAs kept setup'.link step.Moved ends → ClientLeft r i o w first (happens w e) b office x left road'
  goes_left on heard s m =
      let link : setup'.link ≡ Some held = m.0 ∙ s.settles.0 in
      let same : pipe.SettingUp setup' ≡ left = piped_as r i o setup' ends step.Moved (pipe.SettingUp setup') left m.1 refl is in
      subst (λ (y : R). ClientLeft r i o w first (happens w e) b office x left y) (sym s.settles.1)
      (subst (λ (y : Pipe I O). ClientLeft r i o w first (happens w e) b office x y road) same
      (quiet_left r i o w w1 first net e b c office k x over held.end held.heard.received (pipe.SettingUp setup') road acted on at
      (λ v end_is received. subst (λ (n : Option (Link I O)). LinkShows i o v net (Some held.end.id.0) n) (sym link) (record { conn_is = refl; end_is = end_is; heard = heard }))))

  -- The connection was given up, and the setup goes on without one, or has failed.
  gone_left : is_connected x.phase ≡ false → SettlesTold r i o false (Some held) kept road road' false → setup'.link ≡ kept → (what : Pipe I O) → (setup'.link ≡ None → (z : World) (made : Net) (conn : Option ℕ) → conn ≡ None → PipeShows i o z made conn what) → what ≡ left
      → ClientLeft r i o w first (happens w e) b office x left road'
  gone_left off s link what shows same =
      let g = given_back r i o held kept road road' s in
      subst (λ (y : Pipe I O). ClientLeft r i o w first (happens w e) b office x y road') same
      (no_conn r i o w first (happens w e) b office x what road' (shows (link ∙ g.0))
      (given_left r i o w w1 first net e b c office k x [] over held.end held.heard.received road road' acted off at g.1))

  setup_gone : is_connected x.phase ≡ false → SettlesTold r i o false (Some held) kept road road' false → (what : RebuildStep I O) → piped setup' what ≡ Ok (pipe.SettingUp setup') → EndsAs kept setup'.link what ends → ClientLeft r i o w first (happens w e) b office x left road'
  setup_gone off s what moves m = gone_left off s m.0 (pipe.SettingUp setup') (λ none z made conn h. setup_none r i o setup' none z made conn h) (piped_as r i o setup' ends what (pipe.SettingUp setup') left m.1 moves is)

  decided_left : (p : Phase) → x.phase ≡ p → IsDecided p → (keeps_link p ≡ true → held.heard ≡ nothing_heard) → SettlesTold r i o (keeps_link p) (Some held) kept road road' false → ReportsAt i p x kept setup'.link ends → ClientLeft r i o w first (happens w e) b office x left road'
  decided_left (phase.Accepted setup.Create stamp) at_p ok heard s m = streams_left (ap is_connected at_p) s m
  decided_left (phase.Accepted setup.Append stamp) at_p ok heard s m = goes_left (ap is_connected at_p) (heard refl) s m
  decided_left (phase.Accepted setup.AppendRecovery stamp) at_p ok heard s m = goes_left (ap is_connected at_p) (heard refl) s m
  decided_left (phase.Accepted setup.StreamRecovery stamp) at_p ok heard s m = goes_left (ap is_connected at_p) (heard refl) s m
  decided_left (phase.Accepted setup.CloseRecovery stamp) at_p ok heard s m = setup_gone (ap is_connected at_p) s step.Moved refl m
  decided_left (phase.Wanted u) at_p ok heard s m = setup_gone (ap is_connected at_p) s (moved_if (has_own_step x)) (piped_moved r i o setup' (has_own_step x)) m
  decided_left (phase.Failed f) at_p ok heard s m =
      gone_left (ap is_connected at_p) s m.0 pipe.Closed (λ none z made conn h. h) (piped_as r i o setup' ends (step.Ended (failed_as f)) pipe.Closed left m.1 (piped_failed r i o setup' f) is)
  decided_left other at_p ok heard s m = absurd ok

-- THE EVENT

-- A writer that keeps its connection hasn't heard the end.
still_open : {w : World} {conn : ConnId} {b : ℕ} (x : Next) (known known' : WriterRecord) → CanHearAnswer w conn b known x → known' ≡ writer_hears known x → keeps_link known'.phase ≡ true → is_end x ≡ false
still_open (message m) known known' can is on = refl
still_open the_end known known' can is on = absurd (true_false (sym on ∙ (ap (λ (z : WriterRecord). keeps_link z.phase) is ∙ end_leaves known can.waits can.members)))

module _ {R I O : Type 0} (r : roads.Ghosts R I O) (i : link_in.Ghosts I) (o : link_out.Ghosts O) where
  -- What the event has made of the world before the connection is settled.
  answer_acted : (w : World) (net : Net) (b : ℕ) (office : OfficeState) (x : Next) (l l' held : Link I O) (setup : Rebuild I O) (known known' : WriterRecord) (ended_so : Acted) (road : R) → ClientStands r i o w net b office known (pipe.SettingUp setup) road → LinkStands i o w net (w.writers b).conn l
      → ComesUp w l.end.id.0 x → (w.dialled l.end.id.0).upper ≡ by_writer b → HeldAt i o (taken_net net l.end.id.0 false) false [] (inbox_for x) l.end.id.0 false l'.end → AnsweredBy i x known known' l' held ended_so
      → HasActed i o w (up_taken w l.end.id.0 x) net (taken_net net l.end.id.0 false) (event.Up l.end.id) b l.end.id.0 office (hears_as (up_taken w l.end.id.0 x) b x) known' [] (is_end x) held.end held.heard.received
  answer_acted w net b office x l l' held setup known known' ended_so road stands s comes upper h1 a =
      let c : ℕ = l.end.id.0 in
      let w1 : World = up_taken w c x in
      let takes = taken-net w net c false x stands.roads_are.is_net s.end_is.within s.end_is.taking comes.next in
      let n1 : Net = taken_net net c false in
      let took : Took i (held_by (is_end x)) l'.end held.end = record { id = a.id; lower = a.lower; outward = a.outward; shut = a.shut; holds = a.holds } in
      let h2 : HeldAt i o n1 false [] (held_by (is_end x)) c false held.end = held_took i o n1 false [] (inbox_for x) (held_by (is_end x)) c false l'.end held.end took h1 in
      let heard : HearsPipe w c b = record { upper = upper; conn = ap (λ (n : Option ℕ). is_conn n c) s.conn_is ∙ same-itself c; told = stands.told } in
      let t = taken_clients w c x in
      let y : WriterRecord = writer_hears (w1.writers b).known x in
      let k : Change = hears_as w1 b x in
      let is_y : known' ≡ y = a.writer ∙ ap (λ (z : WriterRecord). writer_hears z x) (stands.writer ∙ sym (ap (λ (f : ℕ → Writing). (f b).known) t.writers)) in
      let conn1 : (w1.writers b).conn ≡ Some c = ap (λ (f : ℕ → Writing). (f b).conn) t.writers ∙ s.conn_is in
      let after = after_change w1 k in
      subst (λ (z : WriterRecord). HasActed i o w w1 net n1 (event.Up l.end.id) b c office k z [] (is_end x) held.end held.heard.received) (sym is_y) (record {
        out = (up-makes w l.end.id x comes).writer b heard;
        conn = s.conn_is;
        sends = subst (λ (n : Option ℕ). SendsBy w1 k (upper_flushes n (not (is_connected y.phase)) [])) conn1 (writer-sends w1 b y).moves;
        writer = after.writer ∙ ap (writing_as y) conn1;
        office_is = stands.office_is ∙ (sym t.office ∙ sym after.office);
        is_net = takes.is_net;
        held = h2;
        over_is = takes.after;
        received = λ z. ap (λ (q : HeardState). q.received) (a.heard z);
        others = λ d e_lower e none z. (stays r i o w w1 net c false d e_lower e none (taken-over w d e_lower c false x none) z).exchanged true false [];
      })

  -- A link that failed is one whose count had risen.
  failed_risen : (l' held : Link I O) (known known' : WriterRecord) (ended_so : Acted) (conn : ConnId) (kept : Option (Link I O)) (middle road' : R) → awaits known.phase ≡ true → known.members ≢ [] → l'.end.id ≡ conn → FailedLink i known known' l' held ended_so → SettlesTold r i o (keeps_link known'.phase) (Some held) kept middle road' false → r.risen road' conn.0 ≡ true
  failed_risen l' held known known' ended_so conn kept middle road' waits some same f s =
      let off : keeps_link known'.phase ≡ false = ap (λ (z : WriterRecord). keeps_link z.phase) f.writer ∙ end_leaves known waits some in
      let g = (given_back r i o held kept middle road' (subst (λ (q : Bool). SettlesTold r i o q (Some held) kept middle road' false) off s)).1 in
      let rose : has_failed i o g.shut ≡ true = in_failed i o (i.faults l'.end.inward) g.shut (subst (λ (z : I). FaultsIncreased (i.faults l'.end.inward) (i.faults z)) (sym g.kept.inward) f.rose) in
      subst (λ (n : ConnId). r.risen road' n.0 ≡ true) (g.kept.id ∙ (f.id ∙ same)) (one_risen r i o g.shut middle road' g.brings rose)

  -- What is left.
  by_heard : (w : World) (net : Net) (b : ℕ) (office : OfficeState) (x : Next) (l l' held : Link I O) (setup setup' : Rebuild I O) (ends : RebuildStep I O) (left : Pipe I O) (kept : Option (Link I O)) (known known' : WriterRecord) (ended_so : Acted) (road middle road' : R)
      → ClientStands r i o w net b office known (pipe.SettingUp setup) road → LinkStands i o w net (w.writers b).conn l → CanHearAnswer w l.end.id b known x → l'.end.id ≡ l.end.id → HeldAt i o (taken_net net l.end.id.0 false) false [] (inbox_for x) l.end.id.0 false l'.end
      → RoadsAt r (taken_net net l.end.id.0 false) middle → r.risen road' l.end.id.0 ≡ false → SettlesTold r i o (keeps_link known'.phase) (Some held) kept middle road' false → Reports i ended_so known' kept setup'.link ends → piped setup' ends ≡ Ok left
      → AnsweredBy i x known known' l' held ended_so ⊎ FailedLink i known known' l' held ended_so → ClientLeft r i o w net (happens w (event.Up l.end.id)) b office known' left road'
  by_heard w net b office x l l' held setup setup' ends left kept known known' ended_so road middle road' stands s can same h1 at risen settles reports is (inl a) =
      let acted = answer_acted w net b office x l l' held setup known known' ended_so road stands s can.comes can.upper h1 a in
      decided_left r i o w (up_taken w l.end.id.0 x) net (taken_net net l.end.id.0 false) (event.Up l.end.id) b l.end.id.0 office (hears_as (up_taken w l.end.id.0 x) b x) known' (is_end x) held acted setup' ends left kept middle road' at is
      known'.phase refl (subst (λ (z : WriterRecord). IsDecided z.phase) (sym a.writer) (heard_decides known x can.waits can.answers can.members)) (λ q. a.heard (still_open x known known' can a.writer q)) settles (subst (λ (z : Acted). Reports i z known' kept setup'.link ends) a.moved reports)
  by_heard w net b office x l l' held setup setup' ends left kept known known' ended_so road middle road' stands s can same h1 at risen settles reports is (inr f) =
      absurd (true_false (sym (failed_risen l' held known known' ended_so l.end.id kept middle road' can.waits can.members same f settles) ∙ risen))

  pub none_ok : (why : ClientFault) (left : Pipe I O) → Err why ≡ Ok left → ⊥
  none_ok why left h = cc

  -- What the end holds once it was exchanged.
  taken_held : (w : World) (net : Net) (b : ℕ) (office : OfficeState) (x : Next) (l l' : Link I O) (setup : Rebuild I O) (known : WriterRecord) (road middle : R) → ClientStands r i o w net b office known (pipe.SettingUp setup) road → LinkStands i o w net (w.writers b).conn l → ComesUp w l.end.id.0 x → Exchanges r i o (Some l.end.id) l l' road middle (Ok tt)
      → (HeldAt i o (taken_net net l.end.id.0 false) false [] (inbox_for x) l.end.id.0 false l'.end) × RoadsAt r (taken_net net l.end.id.0 false) middle
  taken_held w net b office x l l' setup known road middle stands s comes ex =
      let c : ℕ = l.end.id.0 in
      let takes = taken-net w net c false x stands.roads_are.is_net s.end_is.within s.end_is.taking comes.next in
      let p = end_passes r i o net true false [] (held_by (is_over w c false)) c false road middle l.end l'.end (record { sane = stands.roads_are.sane; shows = stands.roads_are.shows }) (end_held i o w net c false l.end s.end_is) (λ z. ap held_by takes.before)
      (subst (λ (q : Bool). ExchangesEnd r i o q l.end l'.end road middle (Ok tt)) (same-itself c) ex.end) in (
        subst (λ (z : Inbox). HeldAt i o (taken_net net c false) false [] z c false l'.end) takes.holds p.held,
        p.roads_at,
      )

  by_look : (found : Looked) (w : World) (net : Net) (b : ℕ) (office : OfficeState) (x : Next) (l l' seen held : Link I O) (setup setup' : Rebuild I O) (ends : RebuildStep I O) (left : Pipe I O) (kept : Option (Link I O)) (known known' : WriterRecord) (ended_so : Acted) (road middle road' : R)
      → ClientStands r i o w net b office known (pipe.SettingUp setup) road → LinkStands i o w net (w.writers b).conn l → CanHearAnswer w l.end.id b known x → Exchanges r i o (Some l.end.id) l l' road middle (Ok tt)
      → r.risen road' l.end.id.0 ≡ false → LooksAt i l' seen found → FollowsLook found known known' seen held ended_so → SettlesTold r i o (keeps_link known'.phase) (Some held) kept middle road' false → Reports i ended_so known' kept setup'.link ends → piped setup' ends ≡ Ok left
      → ClientLeft r i o w net (happens w (event.Up l.end.id)) b office known' left road'
  by_look looked.Memory w net b office x l l' seen held setup setup' ends left kept known known' ended_so road middle road' stands s can ex risen looks follows settles reports is =
      let m = subst (λ (z : Acted). Reports i z known' kept setup'.link ends) follows.2 reports in
      absurd (none_ok fault.Memory left (sym (ap (piped setup') m.1) ∙ is))
  by_look looked.Known w net b office x l l' seen held setup setup' ends left kept known known' ended_so road middle road' stands s can ex risen looks follows settles reports is =
      let h = taken_held w net b office x l l' setup known road middle stands s can.comes ex in
      by_heard w net b office x l l' held setup setup' ends left kept known known' ended_so road middle road' stands s can ex.end.kept.id h.0 h.1 risen settles reports is
      (answered i x known known' l' seen held ended_so (answer_comes known.phase x can.answers) h.0.is.held (ex.heard ∙ s.heard) looks follows)

  -- What was heard, as where an answer is awaited: the office isn't asked.
  record HeardSo {D : Type 0} (known known' : WriterRecord) (found : Looked) (seen new : Link I O) (held : Option (Link I O)) (desk desk' : D) (road road' : R) (ended_so : Acted) : Type 0 where
    pub follows : FollowsLook found known known' seen new ended_so
    pub held_is : held ≡ Some new
    pub desk_is : desk' ≡ desk
    pub road_is : road' ≡ road

  next_so : {D : Type 0} (d : desks.Ghosts D) (next : Option Answer) (known after known' : WriterRecord) (seen new : Link I O) (held : Option (Link I O)) (heard : Option Acted) (desk desk' : D) (road road' : R) (ended_so : Acted) → (next ≡ None → ⊥) → HearsNextAs next known after seen new heard
      → ElseAsks d r i o heard after known' (Some new) held desk desk' road road' ended_so → TakesAs next known known' seen new ended_so × ((held ≡ Some new) × ((desk' ≡ desk) × (road' ≡ road)))
  next_so d None known after known' seen new held heard desk desk' road road' ended_so some h e = absurd (some refl)
  next_so d (Some a) known after known' seen new held heard desk desk' road road' ended_so some h e =
      let k = subst (λ (n : Option Acted). ElseAsks d r i o n after known' (Some new) held desk desk' road road' ended_so) h.2 e in
      ((k.0 ∙ h.0, h.1, k.4), (k.1, (k.2, k.3)))

  seen_so : {D : Type 0} (d : desks.Ghosts D) (found : Looked) (known after known' : WriterRecord) (seen new : Link I O) (held : Option (Link I O)) (heard : Option Acted) (desk desk' : D) (road road' : R) (ended_so : Acted) → (found ≡ looked.Known → seen.heard.next ≡ None → ⊥) → HearsSeen found known after seen new heard
      → ElseAsks d r i o heard after known' (Some new) held desk desk' road road' ended_so → HeardSo known known' found seen new held desk desk' road road' ended_so
  seen_so d looked.Memory known after known' seen new held heard desk desk' road road' ended_so some h e =
      let k = subst (λ (n : Option Acted). ElseAsks d r i o n after known' (Some new) held desk desk' road road' ended_so) h.2 e in
      record { follows = (k.0 ∙ h.0, h.1, k.4); held_is = k.1; desk_is = k.2; road_is = k.3 }
  seen_so d looked.Known known after known' seen new held heard desk desk' road road' ended_so some h e =
      let k = next_so d seen.heard.next known after known' seen new held heard desk desk' road road' ended_so (some refl) h e in
      record { follows = k.0; held_is = k.1.0; desk_is = k.1.1.0; road_is = k.1.1.1 }

  -- A writer whose request was accepted takes the end where that stands next.
  hears_so : {D : Type 0} (d : desks.Ghosts D) (known after known' : WriterRecord) (l' : Link I O) (first held : Option (Link I O)) (heard : Option Acted) (desk desk' : D) (road road' : R) (ended_so : Acted) → i.held l'.end.inward ≡ Some (inbox_for the_end) → l'.heard ≡ nothing_heard → l'.asked ≡ true
      → Hears i known after (Some l') first heard → ElseAsks d r i o heard after known' first held desk desk' road road' ended_so → Leaves desk desk' (Leaves road road' (Waits i known known' (Some l') held ended_so))
  hears_so d known after known' l' None held heard desk desk' road road' ended_so holds none asked h e = absurd h
  hears_so d known after known' l' (Some new) held heard desk desk' road road' ended_so holds none asked h e =
      let on : HearsOn i known after l' new heard = subst (λ (q : Bool). HearsGiven i q known after l' new heard) asked h in
      let s = seen_so d on.found known after known' on.seen new held heard desk desk' road road' ended_so (λ f n. finds i l' on.seen holds none (subst (LooksAt i l' on.seen) f on.looks) n) on.hears e in
      let does : WaitsOn i known known' l' new ended_so = record { found = on.found; seen = on.seen; looks = on.looks; follows = s.follows } in
      (s.desk_is, (s.road_is, subst (λ (n : Option (Link I O)). Waits i known known' (Some l') n ended_so) (sym s.held_is) does))

  -- What a step does of a writer that waits on the connection of its setup.
  waits_acts : {D : Type 0} (d : desks.Ghosts D) (p : Phase) (x : Next) (known known' : WriterRecord) (l' : Link I O) (held : Option (Link I O)) (desk desk' : D) (road road' : R) (ended_so : Acted) → awaits p ≡ true → IsNextIn p x → i.held l'.end.inward ≡ Some (inbox_for x) → l'.heard ≡ nothing_heard → l'.asked ≡ true
      → Acts d r i o p known known' (Some l') held desk desk' road road' ended_so → Leaves desk desk' (Leaves road road' (Waits i known known' (Some l') held ended_so))
  waits_acts d (phase.Requested s stamp) x known known' l' held desk desk' road road' ended_so waits comes holds none asked h = h
  waits_acts d (phase.Accepted s stamp) (message m) known known' l' held desk desk' road road' ended_so waits comes holds none asked h = absurd comes
  waits_acts d (phase.Accepted s stamp) the_end known known' l' held desk desk' road road' ended_so waits comes holds none asked h =
      hears_so d known h.after known' l' h.held held h.heard desk desk' road road' ended_so holds none asked h.hears h.else_asks
  waits_acts d other x known known' l' held desk desk' road road' ended_so waits comes holds none asked h = absurd (true_false (sym waits))

  -- the same of one that waits for the answer to its request
  asked_acts : {D : Type 0} (d : desks.Ghosts D) (p : Phase) (known known' : WriterRecord) (link held : Option (Link I O)) (desk desk' : D) (road road' : R) (ended_so : Acted) → IsWaiting p → Acts d r i o p known known' link held desk desk' road road' ended_so → Leaves desk desk' (Leaves road road' (Waits i known known' link held ended_so))
  asked_acts d (phase.Requested s stamp) known known' link held desk desk' road road' ended_so waits h = h
  asked_acts d other known known' link held desk desk' road road' ended_so waits h = absurd waits

  step_acts : {D : Type 0} (d : desks.Ghosts D) (w : World) (net : Net) (b : ℕ) (office : OfficeState) (x : Next) (l l' : Link I O) (setup : Rebuild I O) (link' : Option (Link I O)) (lost : Bool) (ends : RebuildStep I O) (known known' : WriterRecord) (desk desk' : D) (road middle road' : R)
      → ClientStands r i o w net b office known (pipe.SettingUp setup) road → LinkStands i o w net (w.writers b).conn l → CanHearAnswer w l.end.id b known x → Exchanges r i o (Some l.end.id) l l' road middle (Ok tt) → (steps : Steps d r i o known known' (Some l') link' desk desk' middle road' lost ends)
      → Leaves desk desk' (Leaves middle steps.middle (Waits i known known' (Some l') steps.held steps.acted))
  step_acts d w net b office x l l' setup link' lost ends known known' desk desk' road middle road' stands s can ex steps =
      let h = taken_held w net b office x l l' setup known road middle stands s can.comes ex in
      waits_acts d known.phase x known known' l' steps.held desk desk' middle steps.middle steps.acted can.waits can.answers h.0.is.held (ex.heard ∙ s.heard) ex.asked steps.acts

  by_wait : (w : World) (net : Net) (b : ℕ) (office : OfficeState) (x : Next) (l l' : Link I O) (held : Option (Link I O)) (setup setup' : Rebuild I O) (ends : RebuildStep I O) (left : Pipe I O) (kept : Option (Link I O)) (known known' : WriterRecord) (ended_so : Acted) (road middle road' : R)
      → ClientStands r i o w net b office known (pipe.SettingUp setup) road → LinkStands i o w net (w.writers b).conn l → CanHearAnswer w l.end.id b known x → Exchanges r i o (Some l.end.id) l l' road middle (Ok tt)
      → r.risen road' l.end.id.0 ≡ false → Waits i known known' (Some l') held ended_so → SettlesTold r i o (keeps_link known'.phase) held kept middle road' false → Reports i ended_so known' kept setup'.link ends → piped setup' ends ≡ Ok left
      → ClientLeft r i o w net (happens w (event.Up l.end.id)) b office known' left road'
  by_wait w net b office x l l' None setup setup' ends left kept known known' ended_so road middle road' stands s can ex risen waits settles reports is = absurd waits
  by_wait w net b office x l l' (Some held) setup setup' ends left kept known known' ended_so road middle road' stands s can ex risen waits settles reports is =
      by_look waits.found w net b office x l l' waits.seen held setup setup' ends left kept known known' ended_so road middle road' stands s can ex risen waits.looks waits.follows settles reports is

  by_step : {D : Type 0} (d : desks.Ghosts D) (w : World) (net : Net) (b : ℕ) (office : OfficeState) (x : Next) (l l' : Link I O) (setup setup' : Rebuild I O) (ends : RebuildStep I O) (left : Pipe I O) (known known' : WriterRecord) (desk desk' : D) (road middle road' : R)
      → ClientStands r i o w net b office known (pipe.SettingUp setup) road → LinkStands i o w net (w.writers b).conn l → CanHearAnswer w l.end.id b known x → Exchanges r i o (Some l.end.id) l l' road middle (Ok tt)
      → r.risen road' l.end.id.0 ≡ false → Steps d r i o known known' (Some l') setup'.link desk desk' middle road' false ends → piped setup' ends ≡ Ok left
      → ClientLeft r i o w net (happens w (event.Up l.end.id)) b office known' left road'
  by_step d w net b office x l l' setup setup' ends left known known' desk desk' road middle road' stands s can ex risen steps is =
      let acts = step_acts d w net b office x l l' setup setup'.link false ends known known' desk desk' road middle road' stands s can ex steps in
      let settles : SettlesTold r i o (keeps_link known'.phase) steps.held steps.kept middle road' false = subst (λ (y : R). SettlesTold r i o (keeps_link known'.phase) steps.held steps.kept y road' false) acts.1.0 steps.settles in
      by_wait w net b office x l l' steps.held setup setup' ends left steps.kept known known' steps.acted road middle road' stands s can ex risen acts.1.1 settles steps.reports is

  conn_same : (a c : ConnId) → a.0 ≡ c.0 → a ≡ c
  conn_same a c e = λ j. record { 0 = e j }

  no_conn_some : (c : ℕ) → Some c ≡ None → ⊥
  no_conn_some c h = cc

  -- the links before and after the exchange
  by_links : {D : Type 0} (d : desks.Ghosts D) (w : World) (net : Net) (b : ℕ) (office : OfficeState) (conn : ConnId) (x : Next) (link middle_link : Option (Link I O)) (setup setup' : Rebuild I O) (ends : RebuildStep I O) (left : Pipe I O) (known known' : WriterRecord) (desk desk' : D) (road middle road' : R)
      → setup.link ≡ link → ClientStands r i o w net b office known (pipe.SettingUp setup) road → CanHearAnswer w conn b known x → ExchangesLink r i o (option_map (λ (l : Link I O). l.end.id) link) link middle_link road middle (Ok tt)
      → is_risen (r.risen road') (option_map (λ (l : Link I O). l.end.id) link) ≡ false → Steps d r i o known known' middle_link setup'.link desk desk' middle road' false ends → piped setup' ends ≡ Ok left
      → ClientLeft r i o w net (happens w (event.Up conn)) b office known' left road'
  by_links d w net b office conn x None middle_link setup setup' ends left known known' desk desk' road middle road' at stands can ex risen steps is =
      let none : (w.writers b).conn ≡ None = subst (λ (n : Option (Link I O)). LinkShows i o w net (w.writers b).conn n) at stands.pipe_is in
      absurd (no_conn_some conn.0 (sym can.conn_is ∙ none))
  by_links d w net b office conn x (Some l) None setup setup' ends left known known' desk desk' road middle road' at stands can ex risen steps is = absurd ex
  by_links d w net b office conn x (Some l) (Some l') setup setup' ends left known known' desk desk' road middle road' at stands can ex risen steps is =
      let s : LinkStands i o w net (w.writers b).conn l = subst (λ (n : Option (Link I O)). LinkShows i o w net (w.writers b).conn n) at stands.pipe_is in
      let same : l.end.id ≡ conn = conn_same l.end.id conn (same_Some l.end.id.0 conn.0 (sym s.conn_is ∙ can.conn_is)) in
      subst (λ (n : ConnId). ClientLeft r i o w net (happens w (event.Up n)) b office known' left road') same
      (by_step d w net b office x l l' setup setup' ends left known known' desk desk' road middle road' stands s (subst (λ (n : ConnId). CanHearAnswer w n b known x) (sym same) can) ex risen steps is)

  pub piped_err : (setup' : Rebuild I O) (ends : RebuildStep I O) (why : ClientFault) → piped setup' ends ≡ Err why → fault.Memory ≡ why
  piped_err setup' step.Moved why h = cc
  piped_err setup' step.Waiting why h = cc
  piped_err setup' (step.Ended (rebuilt.Streaming end incoming)) why h = cc
  piped_err setup' (step.Ended rebuilt.Memory) why h = let e : fault.Memory ≡ why = cc in e
  piped_err setup' (step.Ended other) why h = cc

  -- WHAT IT LEAVES, OR WHY IT FAILED

  pub answer_shows : {D : Type 0} (d : desks.Ghosts D) (setup taken setup' : Rebuild I O) (ends : RebuildStep I O) (result : Result (Pipe I O) ClientFault) (known known' : WriterRecord) (desk desk' : D) (road middle road' : R) → TakesLink r i o setup.link road middle (Ok taken)
      → Steps d r i o known known' taken.link setup'.link desk desk' middle road' setup'.lost ends → setup'.lost ≡ false → is_risen (r.risen road') (option_map (λ (l : Link I O). l.end.id) setup.link) ≡ false → piped setup' ends ≡ result → AnswerShows r i o known known' setup road road' result
  answer_shows d setup taken setup' ends (Ok left) known known' desk desk' road middle road' ex steps lost risen is = λ w net b office conn x stands can.
      by_links d w net b office conn x setup.link taken.link setup setup' ends left known known' desk desk' road middle road' refl stands can ex risen
      (subst (λ (q : Bool). Steps d r i o known known' taken.link setup'.link desk desk' middle road' q ends) lost steps) is
  answer_shows d setup taken setup' ends (Err why) known known' desk desk' road middle road' ex steps lost risen is = λ w net b office conn x stands can.
      subst (λ (z : ClientFault). IsCaused r (w.writers b).conn road road' z) (piped_err setup' ends why is) tt

  -- Memory ran out.
  pub answer_memory : (setup : Rebuild I O) (known known' : WriterRecord) (road road' : R) → AnswerShows r i o known known' setup road road' (Err fault.Memory)
  answer_memory setup known known' road road' = λ w net b office conn x stands can. tt

  pub risen_by : (link : Option (Link I O)) (w : World) (net : Net) (conn : Option ℕ) (risen : ℕ → Bool) → LinkShows i o w net conn link → is_risen risen (option_map (λ (l : Link I O). l.end.id) link) ≡ true → HasRisen risen conn
  risen_by None w net conn risen s h = absurd (true_false (sym h))
  risen_by (Some l) w net conn risen s h = subst (λ (n : Option ℕ). HasRisen risen n) (sym s.conn_is) h

  -- The link failed.
  pub answer_risen : (setup : Rebuild I O) (known known' : WriterRecord) (road road' : R) → is_risen (r.risen road') (option_map (λ (l : Link I O). l.end.id) setup.link) ≡ true → AnswerShows r i o known known' setup road road' (Err fault.LinkFailed)
  answer_risen setup known known' road road' h = λ w net b office conn x stands can. risen_by setup.link w net (w.writers b).conn (r.risen road') stands.pipe_is h

  -- The exchange failed.
  pub answer_untaken : (setup : Rebuild I O) (known known' : WriterRecord) (road road' : R) (why : ClientFault) → TakesLink r i o setup.link road road' (Err why) → AnswerShows r i o known known' setup road road' (Err why)
  answer_untaken setup known known' road road' why h = λ w net b office conn x stands can. road_caused r i o (w.writers b).conn road road road' why (same_count (r.faults road)) h

  -- THE OFFICE

  links_keep : {D : Type 0} (d : desks.Ghosts D) (w : World) (net : Net) (b : ℕ) (office : OfficeState) (conn : ConnId) (x : Next) (link middle_link link' : Option (Link I O)) (setup : Rebuild I O) (lost : Bool) (ends : RebuildStep I O) (known known' : WriterRecord) (desk desk' : D) (road middle road' : R)
      → setup.link ≡ link → ClientStands r i o w net b office known (pipe.SettingUp setup) road → CanHearAnswer w conn b known x → ExchangesLink r i o (option_map (λ (l : Link I O). l.end.id) link) link middle_link road middle (Ok tt) → Steps d r i o known known' middle_link link' desk desk' middle road' lost ends → desk' ≡ desk
  links_keep d w net b office conn x None middle_link link' setup lost ends known known' desk desk' road middle road' at stands can ex steps =
      let none : (w.writers b).conn ≡ None = subst (λ (n : Option (Link I O)). LinkShows i o w net (w.writers b).conn n) at stands.pipe_is in
      absurd (no_conn_some conn.0 (sym can.conn_is ∙ none))
  links_keep d w net b office conn x (Some l) None link' setup lost ends known known' desk desk' road middle road' at stands can ex steps = absurd ex
  links_keep d w net b office conn x (Some l) (Some l') link' setup lost ends known known' desk desk' road middle road' at stands can ex steps =
      let s : LinkStands i o w net (w.writers b).conn l = subst (λ (n : Option (Link I O)). LinkShows i o w net (w.writers b).conn n) at stands.pipe_is in
      let same : l.end.id ≡ conn = conn_same l.end.id conn (same_Some l.end.id.0 conn.0 (sym s.conn_is ∙ can.conn_is)) in
      (step_acts d w net b office x l l' setup link' lost ends known known' desk desk' road middle road' stands s (subst (λ (n : ConnId). CanHearAnswer w n b known x) (sym same) can) ex steps).0

  -- The office is as it was, where something stands next.
  pub answer_keeps : {D : Type 0} (d : desks.Ghosts D) (setup taken : Rebuild I O) (link' : Option (Link I O)) (lost : Bool) (ends : RebuildStep I O) (known known' : WriterRecord) (desk desk' : D) (road middle road' : R) → TakesLink r i o setup.link road middle (Ok taken)
      → Steps d r i o known known' taken.link link' desk desk' middle road' lost ends → AnswerKeepsOffice r i o known setup road desk desk'
  answer_keeps d setup taken link' lost ends known known' desk desk' road middle road' ex steps = λ w net b office conn x stands can.
      links_keep d w net b office conn x setup.link taken.link link' setup lost ends known known' desk desk' road middle road' refl stands can ex steps

  -- It is where an answer is awaited, whatever stands next.
  pub answer_office : {D : Type 0} (d : desks.Ghosts D) (known known' : WriterRecord) (link link' : Option (Link I O)) (desk desk' : D) (road road' : R) (lost : Bool) (ends : RebuildStep I O) → IsWaiting known.phase → Steps d r i o known known' link link' desk desk' road road' lost ends → desk' ≡ desk
  answer_office d known known' link link' desk desk' road road' lost ends waits steps = (asked_acts d known.phase known known' link steps.held desk desk' road steps.middle steps.acted waits steps.acts).0
