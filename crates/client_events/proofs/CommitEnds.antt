-- The world after the stamp of a writer was committed, or the office refused.
use Rattle.std.proofs.Common.{◌≡◌, inl, inr, ℕ, not, Bool, true, false, List, [], ◌∷◌, ◌++◌, is_some, option_map, Option, Some, None, IfSome, Result, Ok, Err, refl, sym, ap, ◌∙◌, subst}
use Rattle.hd_base.specs.Ends.{has_failed}
use Rattle.hd_base.specs.Faults.{FaultsIncreased}
use Rattle.hd_base.specs.declared.ends.Conn.{Conn}
use Rattle.hd_base.specs.declared.links.LinkIn as link_in
use Rattle.hd_base.specs.declared.links.LinkOut as link_out
use Rattle.hd_base.specs.declared.numbers.BlockId.{BlockId}
use Rattle.hd_base.specs.declared.numbers.ConnId.{ConnId}
use Rattle.hd_base.specs.declared.numbers.Stamp.{Stamp}
use Rattle.hd_base.specs.declared.roads.Roads as roads
use Rattle.pipe_recovery.specs.LinkMessages.Incomings.{nothing_received}
use Rattle.name_core.specs.declared.desks.Desk as desks
use Rattle.name_core.specs.Offices.{OfficeState}
use Rattle.pipe_recovery.specs.declared.acting.Acted.{Acted}
use Rattle.pipe_recovery.specs.declared.acting.Acted.TheVariants as acted
use Rattle.pipe_recovery.specs.declared.links.Link.{Link}
use Rattle.pipe_recovery.specs.declared.rebuilding.Rebuild.{Rebuild}
use Rattle.pipe_recovery.specs.declared.rebuilding.RebuildStep.{RebuildStep}
use Rattle.pipe_recovery.specs.declared.rebuilding.RebuildStep.TheVariants as step
use Rattle.pipe_recovery.specs.declared.rebuilding.Rebuilt.TheVariants as rebuilt
use Rattle.pipe_recovery.specs.Reports.{Streams, EndsAs, Reports, ReportsAt, failed_as}
use Rattle.pipe_recovery.specs.Steps.{fits_in, fits_accepted, keeps_link, Hears, ElseAsks, AsksAndDials, HearsOrAsks, SettlesTold, Steps}
use Rattle.road_traffic.specs.Showing.{Net}
use Rattle.member_events.specs.World.Caller.TheVariants as caller
use Rattle.member_events.specs.World.Event.{Event}
use Rattle.member_events.specs.World.Event.TheVariants as event
use Rattle.member_events.specs.World.Parts.{Writing}
use Rattle.member_events.specs.World.Parts as parts
use Rattle.member_events.specs.World.Worlds.{World, Change, apply}
use Rattle.member_events.specs.World.Clients.{writing_as, writer_change, reached_answer, did, rest_in}
use Rattle.member_events.specs.World.Events.{outcome, happens}
use Rattle.member_events.specs.WorldNets.Nets.{IsNetOf, held_by, is_over}
use Rattle.member_events.specs.WorldNets.Ends.{IsElsewhere}
use Rattle.member_events.specs.WorldNets.Steps.{SendsBy}
use Rattle.member_events.specs.WorldNets.Flushing.{upper_flushes}
use Rattle.member_events.proofs.WorldNets.EndLemmas.{same-end}
use Rattle.member_events.proofs.WorldNets.FlushingLemmas.{writer-sends}
use Rattle.member_events.proofs.WorldNets.StepLemmas.{changed-net, changed-over, followed}
use Rattle.writer_core.specs.declared.actions.ClientAnswer.TheVariants as answer
use Rattle.writer_core.specs.declared.phases.Failure.{Failure}
use Rattle.writer_core.specs.declared.phases.Phase.{Phase}
use Rattle.writer_core.specs.declared.phases.Phase.TheVariants as phase
use Rattle.writer_core.specs.declared.phases.Setup.{Setup}
use Rattle.writer_core.specs.declared.records.WriterRecord.{WriterRecord}
use Rattle.writer_core.specs.Transitions.{Step, step_in, own_step, open_step, ordinal, is_connected}
use Rattle.member_events.proofs.CauseLaws.{in_failed, one_risen}
use Rattle.member_events.proofs.DownEvents.{held_took}
use Rattle.member_events.proofs.EndLaws.{HeldAt, RoadsAt, end_held}
use Rattle.member_events.proofs.WorldLaws.{happened}
use Rattle.client_events.specs.declared.acting.Acted.{Acted as Left}
use Rattle.client_events.specs.declared.acting.Said.{Said}
use Rattle.client_events.specs.declared.faults.ClientFault.{ClientFault}
use Rattle.client_events.specs.declared.faults.ClientFault.TheVariants as fault
use Rattle.client_events.specs.declared.pipes.Pipe.{Pipe}
use Rattle.client_events.specs.declared.pipes.Pipe.TheVariants as pipe
use Rattle.client_events.specs.Acting.{said_by, said_in, AnswersIf}
use Rattle.client_events.specs.Answering.{is_risen, piped}
use Rattle.client_events.specs.Committing.{IsAccepted, is_opened, read_off, IsReadOff}
use Rattle.client_events.specs.Events.{own_event, asked_world, CanCommit, StepLeft, CommitShows}
use Rattle.client_events.specs.Showing.{StayShown, LinkShows, LinkStands, ClientStands, ClientLeft}
use Rattle.client_events.proofs.ActLaws.{done_to, if_none}
use Rattle.client_events.proofs.AnswerEnds.{quiet_left, given_back, piped_as, piped_failed, none_ok, risen_by}
use Rattle.client_events.proofs.AnswerLaws.{true_false}
use Rattle.client_events.proofs.CommitLaws.{AcceptedIn, accepted_in, commit_call, commit_step, IsCommitted, after_commit, commit_ended, HasNotHeard, HasEnded, HearsNothing, hears_nothing, HasAsked, asks_so, accepted_acts}
use Rattle.client_events.proofs.CompleteLaws.{moved_to, put_to, ok_said, office_asked}
use Rattle.client_events.proofs.SettleLaws.{HasActed, given_left}

-- THE REST OF THE STEP

-- The rest of a writer's step once the office has answered, in which nothing is sent.
pub record RestGoes (w : World) (b : ℕ) (y z : WriterRecord) (said : Option Said) (answered : Bool) : Type 0 where
  pub change : Change
  pub is : rest_in y.phase w b y answered ≡ Some change
  pub sends : SendsBy w change (upper_flushes (w.writers b).conn (not (is_connected z.phase)) [])
  pub writer : (apply w change).writers b ≡ writing_as z (w.writers b).conn
  pub office : (apply w change).office ≡ w.office
  pub said_is : (apply w change).said b ≡ w.said b ++ said_in said

pub rest_moves : (w : World) (b : ℕ) (y z : WriterRecord) (answered : Bool) → rest_in y.phase w b y answered ≡ Some (writer_change w b z) → RestGoes w b y z None answered
rest_moves w b y z answered is =
    let to = moved_to w b z in record {
      change = writer_change w b z;
      is = is;
      sends = (writer-sends w b z).moves;
      writer = to.writer;
      office = to.office;
      said_is = to.said;
    }

rest_stays : (w : World) (b : ℕ) (y z : WriterRecord) (said : Option Said) (answered : Bool) → rest_in y.phase w b y answered ≡ Some (writer_change w b y) → z ≡ y → said ≡ None → RestGoes w b y z said answered
rest_stays w b y z said answered is same quiet =
    subst (λ (x : WriterRecord). RestGoes w b y x said answered) (sym same) (subst (λ (x : Option Said). RestGoes w b y y x answered) (sym quiet) (rest_moves w b y y answered is))

opened_own : (y : WriterRecord) → y.phase ≡ phase.Opened → own_step y ≡ open_step y
unfolding own_step
opened_own y h = ap (step_in y) h

-- the change in which the create or append is answered
abbrev open_change : World → ℕ → WriterRecord → Change
open_change w b y = record (writer_change w b (open_step y).writer) {
  said = record { ordinal = ordinal y; answer = answer.Granted y.committed } ∷ [];
  answered = reached_answer b y.waiting (answer.Granted y.committed);
}

rest_opens : (w : World) (b : ℕ) (y : WriterRecord) (answered : Bool) → y.phase ≡ phase.Opened → RestGoes w b y (open_step y).writer (said_by (open_step y).action) answered
rest_opens w b y answered at =
    let s : Step = open_step y in
    let k : Change = open_change w b y in
    let done : did w b y.waiting s.action s.writer [] ≡ Some k = refl in
    let to = done_to w b y.waiting s.action s.writer [] k done in record {
      change = k;
      is = ap (λ (p : Phase). rest_in p w b y answered) at;
      sends = (writer-sends w b s.writer).does y.waiting s.action [] k done;
      writer = to.writer;
      office = to.office;
      said_is = to.said;
    }

rest_by : (w : World) (b : ℕ) (p : Phase) (y z : WriterRecord) (said : Option Said) (answered linked : Bool) → y.phase ≡ p → IsCommitted p linked → AnswersIf (is_opened p) y z (Ok said) → RestGoes w b y z said answered
rest_by w b phase.Opened y z said answered linked at ok c =
    let own = opened_own y at in
    subst (λ (x : WriterRecord). RestGoes w b y x said answered) (sym (c.0 ∙ ap (λ (s : Step). s.writer) own))
    (subst (λ (x : Option Said). RestGoes w b y (open_step y).writer x answered) (sym (c.1 ∙ ap (λ (s : Step). said_by s.action) own)) (rest_opens w b y answered at))
rest_by w b (phase.Streaming sent) y z said answered linked at ok c = rest_stays w b y z said answered (ap (λ (p : Phase). rest_in p w b y answered) at) c.0 (ok_said said None c.1)
rest_by w b phase.Finished y z said answered linked at ok c = rest_stays w b y z said answered (ap (λ (p : Phase). rest_in p w b y answered) at) c.0 (ok_said said None c.1)
rest_by w b (phase.Failed f) y z said answered linked at ok c = rest_stays w b y z said answered (ap (λ (p : Phase). rest_in p w b y answered) at) c.0 (ok_said said None c.1)
rest_by w b other y z said answered linked at ok c = absurd ok

-- the writer has a connection after it, or not
connected_by : (p : Phase) (y z : WriterRecord) (said : Option Said) (linked : Bool) → y.phase ≡ p → IsCommitted p linked → AnswersIf (is_opened p) y z (Ok said) → is_connected z.phase ≡ is_connected p
connected_by phase.Opened y z said linked at ok c = ap (λ (x : WriterRecord). is_connected x.phase) (c.0 ∙ ap (λ (s : Step). s.writer) (opened_own y at))
connected_by (phase.Streaming sent) y z said linked at ok c = ap (λ (x : WriterRecord). is_connected x.phase) c.0 ∙ ap is_connected at
connected_by phase.Finished y z said linked at ok c = ap (λ (x : WriterRecord). is_connected x.phase) c.0 ∙ ap is_connected at
connected_by (phase.Failed f) y z said linked at ok c = ap (λ (x : WriterRecord). is_connected x.phase) c.0 ∙ ap is_connected at
connected_by other y z said linked at ok c = absurd ok

-- THE WORLD AFTER IT

module _ {R I O : Type 0} (r : roads.Ghosts R I O) (i : link_in.Ghosts I) (o : link_out.Ghosts O) (w : World) (net : Net) (block : BlockId) (answered : Bool) (y z : WriterRecord) (said : Option Said) (rest : RestGoes w block.0 y z said answered)
    (out : outcome w (own_event block None answered) ≡ Some (apply w rest.change)) (is_net : IsNetOf w net) (road : R) (at : RoadsAt r net road) where
  abbrev pub the_event : Event
  the_event = own_event block None answered

  abbrev pub world_after : World
  world_after = happens w (own_event block None answered)

  commit_acted : (c : ℕ) (e : Conn I O) → (w.writers block.0).conn ≡ Some c → HeldAt i o net false [] (held_by false) c false e → is_over w c false ≡ false → HasActed i o w w net net the_event block.0 c world_after.office rest.change z [] false e nothing_received
  commit_acted c e conn held over = record {
    out = out;
    conn = conn;
    sends = subst (λ (n : Option ℕ). SendsBy w rest.change (upper_flushes n (not (is_connected z.phase)) [])) conn rest.sends;
    writer = rest.writer ∙ ap (writing_as z) conn;
    office_is = ap (λ (u : World). u.office) (happened w (apply w rest.change) the_event out);
    is_net = is_net;
    held = held;
    over_is = over;
    received = λ q. refl;
    others = λ d l x none q. q;
  }

  pub none_left : (w.writers block.0).conn ≡ None → ClientLeft r i o w net world_after block.0 world_after.office z pipe.Closed road
  none_left none =
      let v : World = world_after in
      let f = followed w (apply w rest.change) the_event out in
      let quiet : SendsBy w rest.change [] = subst (λ (n : Option ℕ). SendsBy w rest.change (upper_flushes n (not (is_connected z.phase)) [])) none rest.sends in
      let same : (d : ℕ) (l : Bool) → is_over v d l ≡ is_over w d l = λ d l. f.over d l ∙ changed-over w rest.change d l in
      let own : v.writers block.0 ≡ writing_as z (w.writers block.0).conn = ap (λ (u : World). u.writers block.0) (happened w (apply w rest.change) the_event out) ∙ rest.writer in
      record {
        made = net;
        stands = record {
          roads_are = record { is_net = f.nets net (changed-net w net rest.change [] is_net quiet); sane = at.sane; shows = at.shows };
          writer = sym (ap (λ (q : Writing). q.known) own);
          told = ap (λ (q : Writing). q.told) own;
          pipe_is = ap (λ (q : Writing). q.conn) own ∙ if_none (is_connected z.phase) (w.writers block.0).conn none;
          office_is = refl;
        };
        others = λ d l e none_of q. same-end r i o w v net d l e (same d l) q;
      }

  module _ (setup' : Rebuild I O) (ends : RebuildStep I O) (mid left : Pipe I O) (kept : Option (Link I O)) (road' : R) (is : piped setup' ends ≡ Ok mid) (read : left ≡ read_off mid) where
    streams_left : (held : Link I O) (c : ℕ) → HasActed i o w w net net the_event block.0 c world_after.office rest.change z [] false held.end nothing_received → is_connected z.phase ≡ true → SettlesTold r i o true (Some held) kept road road' false → Streams kept setup'.link ends
        → ClientLeft r i o w net world_after block.0 world_after.office z left road'
    streams_left held c acted on s streams =
        let t : Streams (Some held) setup'.link ends = subst (λ (n : Option (Link I O)). Streams n setup'.link ends) s.settles.0 streams in
        let same : pipe.Streaming held.end held.heard.received ≡ mid = piped_as r i o setup' ends (step.Ended (rebuilt.Streaming held.end held.heard.received)) (pipe.Streaming held.end held.heard.received) mid t.1 refl is in
        let left_is : left ≡ pipe.Streaming held.end nothing_received = read ∙ ap read_off (sym same) in
        subst (λ (q : R). ClientLeft r i o w net world_after block.0 world_after.office z left q) (sym s.settles.1)
        (subst (λ (q : Pipe I O). ClientLeft r i o w net world_after block.0 world_after.office z q road) (sym left_is)
        (quiet_left r i o w w net net the_event block.0 c world_after.office rest.change z false held.end nothing_received (pipe.Streaming held.end nothing_received) road acted on at
        (λ v end_is received. record { conn_is = refl; end_is = end_is; received = received })))

    closed_as : (what : RebuildStep I O) → piped setup' what ≡ Ok pipe.Closed → ends ≡ what → left ≡ pipe.Closed
    closed_as what closes same = read ∙ ap read_off (sym (piped_as r i o setup' ends what pipe.Closed mid same closes is))

    failed_left : (held : Link I O) (c : ℕ) (f : Failure) → HasActed i o w w net net the_event block.0 c world_after.office rest.change z [] false held.end nothing_received → is_connected z.phase ≡ false → SettlesTold r i o false (Some held) kept road road' false
        → EndsAs kept setup'.link (step.Ended (failed_as f)) ends → ClientLeft r i o w net world_after block.0 world_after.office z left road'
    failed_left held c f acted off s m =
        let g = given_back r i o held kept road road' s in
        subst (λ (q : Pipe I O). ClientLeft r i o w net world_after block.0 world_after.office z q road') (sym (closed_as (step.Ended (failed_as f)) (piped_failed r i o setup' f) m.1))
        (given_left r i o w w net net the_event block.0 c world_after.office rest.change z [] false held.end nothing_received road road' acted off at g.1)

    linked_left : (held : Link I O) (c : ℕ) (p : Phase) → HasActed i o w w net net the_event block.0 c world_after.office rest.change z [] false held.end nothing_received → IsCommitted p true → is_connected z.phase ≡ is_connected p
        → SettlesTold r i o (keeps_link p) (Some held) kept road road' false → ReportsAt i p y kept setup'.link ends → ClientLeft r i o w net world_after block.0 world_after.office z left road'
    linked_left held c phase.Opened acted ok on s m = streams_left held c acted on s m
    linked_left held c (phase.Streaming sent) acted ok on s m = streams_left held c acted on s m
    linked_left held c phase.Finished acted ok on s m = absurd (true_false ok)
    linked_left held c (phase.Failed f) acted ok on s m = failed_left held c f acted on s m
    linked_left held c other acted ok on s m = absurd ok

    alone_as : (what : RebuildStep I O) → (w.writers block.0).conn ≡ None → piped setup' what ≡ Ok pipe.Closed → road' ≡ road → ends ≡ what → ClientLeft r i o w net world_after block.0 world_after.office z left road'
    alone_as what none closes same_road same =
        subst (λ (q : R). ClientLeft r i o w net world_after block.0 world_after.office z left q) (sym same_road)
        (subst (λ (q : Pipe I O). ClientLeft r i o w net world_after block.0 world_after.office z q road) (sym (closed_as what closes same)) (none_left none))

    unlinked_left : (p : Phase) → (w.writers block.0).conn ≡ None → IsCommitted p false → SettlesTold r i o (keeps_link p) None kept road road' false → ReportsAt i p y kept setup'.link ends → ClientLeft r i o w net world_after block.0 world_after.office z left road'
    unlinked_left phase.Opened none ok s m = absurd (true_false (sym ok))
    unlinked_left (phase.Streaming sent) none ok s m = absurd (true_false (sym ok))
    unlinked_left phase.Finished none ok s m = alone_as (step.Ended rebuilt.Closed) none refl s.settles.1 m.1
    unlinked_left (phase.Failed f) none ok s m = alone_as (step.Ended (failed_as f)) none (piped_failed r i o setup' f) s.settles.1 m.1
    unlinked_left other none ok s m = absurd ok

-- BOTH EVENTS

module _ {R I O : Type 0} (r : roads.Ghosts R I O) (i : link_in.Ghosts I) (o : link_out.Ghosts O) where
  -- What the office was asked leaves roads and ends as they are.
  pub past_office : (w w1 : World) (net : Net) (v : World) (b : ℕ) (office : OfficeState) (x : WriterRecord) (left : Pipe I O) (road : R) → StayShown w w1 → (w1.writers b).conn ≡ (w.writers b).conn → ClientLeft r i o w1 net v b office x left road → ClientLeft r i o w net v b office x left road
  past_office w w1 net v b office x left road stay conn h = record {
    made = h.made;
    stands = h.stands;
    others = λ d l e none q. h.others d l e (subst (λ (n : Option ℕ). IfSome n (λ c. IsElsewhere c false d l)) (sym conn) none) (same-end r i o w w1 net d l e (stay.over d l) q);
  }

module _ {R I O D : Type 0} (r : roads.Ghosts R I O) (i : link_in.Ghosts I) (o : link_out.Ghosts O) (d : desks.Ghosts D) (w : World) (net : Net) (block : BlockId) (answered : Bool) (setup setup' : Rebuild I O) (ends : RebuildStep I O) (mid left : Pipe I O) (said : Option Said)
    (known y z : WriterRecord) (desk desk' : D) (road road' : R) (stands : ClientStands r i o w net block.0 w.office known (pipe.SettingUp setup) road) (can : CanCommit d w block.0 known desk) (is : piped setup' ends ≡ Ok mid) (read : left ≡ read_off mid)
    (says : AnswersIf (is_opened y.phase) y z (Ok said)) where
  abbrev asked_first : World
  asked_first = happens w (event.Office (caller.Writer block))

  -- the writer and its connection after both events, by those after the second one
  commit_by : (s : Setup) (stamp : Stamp) (linked : Bool) (held kept : Option (Link I O)) (middle : R) (does : Acted) → known.phase ≡ phase.Accepted s stamp → fits_accepted s linked ≡ true → HasAsked r i o d (commit_call known stamp) known y held kept desk desk' road middle does
      → ((rest : RestGoes asked_first block.0 y z said answered) → outcome asked_first (own_event block None answered) ≡ Some (apply asked_first rest.change) → IsNetOf asked_first net → StayShown w asked_first → (asked_first.writers block.0).conn ≡ (w.writers block.0).conn
      → IsCommitted y.phase linked → ClientLeft r i o asked_first net (asked_world w block answered) block.0 (asked_world w block answered).office z left road')
      → (d.office desk' ≡ Some (asked_world w block answered).office) × StepLeft r i o w net (asked_world w block answered) block.0 (asked_world w block answered).office z (record { pipe = left; said = said }) road'
  commit_by s stamp linked held kept middle does h fits a goes =
      let b : ℕ = block.0 in
      let w1 : World = asked_first in
      let v : World = asked_world w block answered in
      let own = commit_step known s stamp linked h fits in
      let asked = office_asked w block (commit_call known stamp) known answered stands.writer stands.told (ap (λ (q : Step). q.action) own) in
      let p = put_to d w.office (commit_call known stamp) known y desk desk' can.office a.puts in
      let ok : IsCommitted y.phase linked = subst (λ (x : WriterRecord). IsCommitted x.phase linked) (sym a.puts.writer) (after_commit known s stamp linked a.puts.answer h fits (sym a.puts.ends) a.fits) in
      let rest = rest_by w1 b y.phase y z said answered linked refl ok says in
      let out = asked.goes rest.change (subst (λ (x : WriterRecord). rest_in x.phase w1 b x answered ≡ Some rest.change) p.writer rest.is) in
      let conn : (w1.writers b).conn ≡ (w.writers b).conn = ap (λ (q : Writing). q.conn) asked.at.writer in
      let is_v = happened w1 (apply w1 rest.change) (own_event block None answered) out in (
        p.office ∙ ap Some (sym asked.at.office ∙ (sym rest.office ∙ sym (ap (λ (u : World). u.office) is_v))),
        record {
          shows = past_office r i o w w1 net v b v.office z left road' asked.stay conn (goes rest out (asked.stay.nets net stands.roads_are.is_net) asked.stay conn ok);
          said = ap (λ (u : World). u.said b) is_v ∙ (rest.said_is ∙ ap (λ (l : List parts.Said). l ++ said_in said) asked.at.said);
        },
      )

  roads_here : RoadsAt r net road
  roads_here = record { sane = stands.roads_are.sane; shows = stands.roads_are.shows }

  -- It asked, and had a connection.
  with_link : (s : Setup) (stamp : Stamp) (l held : Link I O) (heard : Option Acted) (after : WriterRecord) (acts kept : Option (Link I O)) (middle : R) (does : Acted) → LinkStands i o w net (w.writers block.0).conn l → is_over w l.end.id.0 false ≡ false
      → known.phase ≡ phase.Accepted s stamp → fits_accepted s true ≡ true → HasNotHeard i known after l held heard → HasAsked r i o d (commit_call known stamp) known y (Some held) acts desk desk' road middle does
      → SettlesTold r i o (keeps_link y.phase) acts kept middle road' false → Reports i does y kept setup'.link ends
      → (d.office desk' ≡ Some (asked_world w block answered).office) × StepLeft r i o w net (asked_world w block answered) block.0 (asked_world w block answered).office z (record { pipe = left; said = said }) road'
  with_link s stamp l held heard after acts kept middle does shows over h fits quiet a settles reports =
      commit_by s stamp true (Some held) acts middle does h fits a
      (λ rest out is_net stay conn ok.
      let c : ℕ = l.end.id.0 in
      let first : HeldAt i o net false [] (held_by false) c false l.end = subst (λ (q : Bool). HeldAt i o net false [] (held_by q) c false l.end) over (end_held i o w net c false l.end shows.end_is) in
      let now = held_took i o net false [] (held_by false) (held_by false) c false l.end held.end quiet.took first in
      let acted_so = commit_acted r i o asked_first net block answered y z said rest out is_net road roads_here c held.end (conn ∙ shows.conn_is) now (stay.over c false ∙ over) in
      let s1 : SettlesTold r i o (keeps_link y.phase) (Some held) kept middle road' false = subst (λ (n : Option (Link I O)). SettlesTold r i o (keeps_link y.phase) n kept middle road' false) a.link settles in
      let s2 : SettlesTold r i o (keeps_link y.phase) (Some held) kept road road' false = subst (λ (q : R). SettlesTold r i o (keeps_link y.phase) (Some held) kept q road' false) a.roads_same s1 in
      linked_left r i o asked_first net block answered y z said rest out is_net road roads_here setup' ends mid left kept road' is read held c y.phase acted_so ok
      (connected_by y.phase y z said true refl ok says) s2 (subst (λ (q : Acted). Reports i q y kept setup'.link ends) a.moved reports))

  -- It asked, and had none.
  without_link : (s : Setup) (stamp : Stamp) (acts kept : Option (Link I O)) (middle : R) (does : Acted) → (w.writers block.0).conn ≡ None → known.phase ≡ phase.Accepted s stamp → fits_accepted s false ≡ true → HasAsked r i o d (commit_call known stamp) known y None acts desk desk' road middle does
      → SettlesTold r i o (keeps_link y.phase) acts kept middle road' false → Reports i does y kept setup'.link ends
      → (d.office desk' ≡ Some (asked_world w block answered).office) × StepLeft r i o w net (asked_world w block answered) block.0 (asked_world w block answered).office z (record { pipe = left; said = said }) road'
  without_link s stamp acts kept middle does none h fits a settles reports =
      commit_by s stamp false None acts middle does h fits a
      (λ rest out is_net stay conn ok.
      let s1 : SettlesTold r i o (keeps_link y.phase) None kept middle road' false = subst (λ (n : Option (Link I O)). SettlesTold r i o (keeps_link y.phase) n kept middle road' false) a.link settles in
      let s2 : SettlesTold r i o (keeps_link y.phase) None kept road road' false = subst (λ (q : R). SettlesTold r i o (keeps_link y.phase) None kept q road' false) a.roads_same s1 in
      unlinked_left r i o asked_first net block answered y z said rest out is_net road roads_here setup' ends mid left kept road' is read y.phase (conn ∙ none) ok s2
      (subst (λ (q : Acted). Reports i q y kept setup'.link ends) a.moved reports))

  -- What is asked where nothing was heard.
  asks_after : (heard : Option Acted) (after : WriterRecord) (h0 acts : Option (Link I O)) (middle : R) (does : Acted) → heard ≡ None → after ≡ known → ElseAsks d r i o heard after y h0 acts desk desk' road middle does → AsksAndDials d r i o known y h0 acts desk desk' road middle does
  asks_after heard after h0 acts middle does none same e =
      subst (λ (x : WriterRecord). AsksAndDials d r i o x y h0 acts desk desk' road middle does) same
      (subst (λ (q : Option Acted). ElseAsks d r i o q after y h0 acts desk desk' road middle does) none e)

  never_memory : (kept : Option (Link I O)) (does : Acted) → Reports i does y kept setup'.link ends → does ≡ acted.Memory → ⊥
  never_memory kept does reports same =
      let m : EndsAs kept setup'.link (step.Ended rebuilt.Memory) ends = subst (λ (q : Acted). Reports i q y kept setup'.link ends) same reports in
      none_ok r i o fault.Memory mid (sym (ap (piped setup') m.1) ∙ is)

  -- A link that failed is one whose count had risen.
  ended_risen : (s : Setup) (stamp : Stamp) (l h0 : Link I O) (heard : Option Acted) (after : WriterRecord) (acts kept : Option (Link I O)) (middle : R) → known.phase ≡ phase.Accepted s stamp → fits_accepted s true ≡ true → HasEnded i known after l h0 heard → y ≡ after → acts ≡ Some h0
      → SettlesTold r i o (keeps_link y.phase) acts kept middle road' false → r.risen road' l.end.id.0 ≡ true
  ended_risen s stamp l h0 heard after acts kept middle h fits f same held settles =
      let off : keeps_link y.phase ≡ false = ap (λ (x : WriterRecord). keeps_link x.phase) (same ∙ f.told) ∙ commit_ended known s stamp h fits can.members in
      let s1 : SettlesTold r i o (keeps_link y.phase) (Some h0) kept middle road' false = subst (λ (n : Option (Link I O)). SettlesTold r i o (keeps_link y.phase) n kept middle road' false) held settles in
      let g = (given_back r i o h0 kept middle road' (subst (λ (q : Bool). SettlesTold r i o q (Some h0) kept middle road' false) off s1)).1 in
      let rose : has_failed i o g.shut ≡ true = in_failed i o (i.faults l.end.inward) g.shut (subst (λ (q : I). FaultsIncreased (i.faults l.end.inward) (i.faults q)) (sym g.kept.inward) f.rose) in
      subst (λ (n : ConnId). r.risen road' n.0 ≡ true) (g.kept.id ∙ f.id) (one_risen r i o g.shut middle road' g.brings rose)

  by_outcome : (s : Setup) (stamp : Stamp) (l h0 : Link I O) (heard : Option Acted) (after : WriterRecord) (acts kept : Option (Link I O)) (middle : R) (does : Acted) → LinkStands i o w net (w.writers block.0).conn l → is_over w l.end.id.0 false ≡ false
      → known.phase ≡ phase.Accepted s stamp → fits_accepted s true ≡ true → r.risen road' l.end.id.0 ≡ false → ElseAsks d r i o heard after y (Some h0) acts desk desk' road middle does
      → SettlesTold r i o (keeps_link y.phase) acts kept middle road' false → Reports i does y kept setup'.link ends → HearsNothing i known after l h0 heard
      → (d.office desk' ≡ Some (asked_world w block answered).office) × StepLeft r i o w net (asked_world w block answered) block.0 (asked_world w block answered).office z (record { pipe = left; said = said }) road'
  by_outcome s stamp l h0 heard after acts kept middle does shows over h fits risen e settles reports (inl q) =
      with_link s stamp l h0 heard after acts kept middle does shows over h fits q
      (asks_so r i o d s stamp true known y (Some h0) acts desk desk' road middle does h fits (never_memory kept does reports) (asks_after heard after (Some h0) acts middle does q.none q.same e)) settles reports
  by_outcome s stamp l h0 heard after acts kept middle does shows over h fits risen e settles reports (inr (inl memory)) =
      let e1 : ElseAsks d r i o (Some acted.Memory) after y (Some h0) acts desk desk' road middle does = subst (λ (q : Option Acted). ElseAsks d r i o q after y (Some h0) acts desk desk' road middle does) memory e in
      absurd (never_memory kept does reports e1.4)
  by_outcome s stamp l h0 heard after acts kept middle does shows over h fits risen e settles reports (inr (inr f)) =
      let e1 : ElseAsks d r i o (Some acted.Moved) after y (Some h0) acts desk desk' road middle does = subst (λ (q : Option Acted). ElseAsks d r i o q after y (Some h0) acts desk desk' road middle does) f.moved e in
      absurd (true_false (sym (ended_risen s stamp l h0 heard after acts kept middle h fits f e1.0 e1.1 settles) ∙ risen))

  by_none : (s : Setup) (stamp : Stamp) (h0 : Option (Link I O)) (heard : Option Acted) (after : WriterRecord) (acts kept : Option (Link I O)) (middle : R) (does : Acted) → (w.writers block.0).conn ≡ None → known.phase ≡ phase.Accepted s stamp → fits_accepted s false ≡ true
      → Hears i known after None h0 heard → ElseAsks d r i o heard after y h0 acts desk desk' road middle does → SettlesTold r i o (keeps_link y.phase) acts kept middle road' false → Reports i does y kept setup'.link ends
      → (d.office desk' ≡ Some (asked_world w block answered).office) × StepLeft r i o w net (asked_world w block answered) block.0 (asked_world w block answered).office z (record { pipe = left; said = said }) road'
  by_none s stamp None heard after acts kept middle does none h fits hears e settles reports =
      without_link s stamp acts kept middle does none h fits
      (asks_so r i o d s stamp false known y None acts desk desk' road middle does h fits (never_memory kept does reports) (asks_after heard after None acts middle does hears.1 hears.0 e)) settles reports
  by_none s stamp (Some h0) heard after acts kept middle does none h fits hears e settles reports = absurd hears

  by_some : (s : Setup) (stamp : Stamp) (l : Link I O) (h0 : Option (Link I O)) (heard : Option Acted) (after : WriterRecord) (acts kept : Option (Link I O)) (middle : R) (does : Acted) → LinkStands i o w net (w.writers block.0).conn l → known.phase ≡ phase.Accepted s stamp → fits_accepted s true ≡ true
      → r.risen road' l.end.id.0 ≡ false → Hears i known after (Some l) h0 heard → ElseAsks d r i o heard after y h0 acts desk desk' road middle does → SettlesTold r i o (keeps_link y.phase) acts kept middle road' false → Reports i does y kept setup'.link ends
      → (d.office desk' ≡ Some (asked_world w block answered).office) × StepLeft r i o w net (asked_world w block answered) block.0 (asked_world w block answered).office z (record { pipe = left; said = said }) road'
  by_some s stamp l None heard after acts kept middle does shows h fits risen hears e settles reports = absurd hears
  by_some s stamp l (Some h0) heard after acts kept middle does shows h fits risen hears e settles reports =
      let over : is_over w l.end.id.0 false ≡ false = subst (λ (n : Option ℕ). IfSome n (λ c. is_over w c false ≡ false)) shows.conn_is can.untaken in
      let inbox : i.held l.end.inward ≡ Some (held_by false) = shows.end_is.is.held ∙ ap (λ (q : Bool). Some (held_by q)) over in
      by_outcome s stamp l h0 heard after acts kept middle does shows over h fits risen e settles reports (hears_nothing i l.asked known after l h0 heard inbox shows.heard hears)

  commit_left : (link : Option (Link I O)) (s : Setup) (stamp : Stamp) (acts kept : Option (Link I O)) (middle : R) (does : Acted) → setup.link ≡ link → known.phase ≡ phase.Accepted s stamp → fits_accepted s (is_some link) ≡ true
      → is_risen (r.risen road') (option_map (λ (l : Link I O). l.end.id) link) ≡ false → HearsOrAsks d r i o known y link acts desk desk' road middle does → SettlesTold r i o (keeps_link y.phase) acts kept middle road' false → Reports i does y kept setup'.link ends
      → (d.office desk' ≡ Some (asked_world w block answered).office) × StepLeft r i o w net (asked_world w block answered) block.0 (asked_world w block answered).office z (record { pipe = left; said = said }) road'
  commit_left None s stamp acts kept middle does at h fits risen x settles reports =
      let none : (w.writers block.0).conn ≡ None = subst (λ (n : Option (Link I O)). LinkShows i o w net (w.writers block.0).conn n) at stands.pipe_is in
      by_none s stamp x.held x.heard x.after acts kept middle does none h fits x.hears x.else_asks settles reports
  commit_left (Some l) s stamp acts kept middle does at h fits risen x settles reports =
      let shows : LinkStands i o w net (w.writers block.0).conn l = subst (λ (n : Option (Link I O)). LinkShows i o w net (w.writers block.0).conn n) at stands.pipe_is in
      by_some s stamp l x.held x.heard x.after acts kept middle does shows h fits risen x.hears x.else_asks settles reports

-- WHAT IT LEAVES, OR WHY IT FAILED

module _ {R I O D : Type 0} (r : roads.Ghosts R I O) (i : link_in.Ghosts I) (o : link_out.Ghosts O) (d : desks.Ghosts D) (setup setup' : Rebuild I O) (known y z : WriterRecord) (desk desk' : D) (road road' : R) where
  pub commit_shows : (ends : RebuildStep I O) (mid left : Pipe I O) (said : Option Said) → IsAccepted known.phase → fits_in known.phase (is_some setup.link) ≡ true → Steps d r i o known y setup.link setup'.link desk desk' road road' setup'.lost ends → setup'.lost ≡ false
      → is_risen (r.risen road') (option_map (λ (l : Link I O). l.end.id) setup.link) ≡ false → piped setup' ends ≡ Ok mid → left ≡ read_off mid → AnswersIf (is_opened y.phase) y z (Ok said) → CommitShows d r i o known z setup desk desk' road road' (Ok (record { pipe = left; said = said }))
  commit_shows ends mid left said ok fits steps lost risen is read says = λ w net block answered stands can.
      let a : AcceptedIn known.phase = accepted_in known.phase ok in
      commit_left r i o d w net block answered setup setup' ends mid left said known y z desk desk' road road' stands can is read says setup.link a.setup a.stamp steps.held steps.kept steps.middle steps.acted refl a.is
      (subst (λ (p : Phase). fits_in p (is_some setup.link) ≡ true) a.is fits) risen (accepted_acts r i o d known.phase known y setup.link steps.held desk desk' road steps.middle steps.acted ok steps.acts)
      (subst (λ (q : Bool). SettlesTold r i o (keeps_link y.phase) steps.held steps.kept steps.middle road' q) lost steps.settles) steps.reports

  -- Memory ran out.
  pub commit_memory : (result : Result (Left I O) ClientFault) → result ≡ Err fault.Memory → CommitShows d r i o known z setup desk desk' road road' result
  commit_memory result is = subst (λ (x : Result (Left I O) ClientFault). CommitShows d r i o known z setup desk desk' road road' x) (sym is) (λ w net block answered stands can. tt)

  -- The link failed.
  pub commit_risen : is_risen (r.risen road') (option_map (λ (l : Link I O). l.end.id) setup.link) ≡ true → CommitShows d r i o known z setup desk desk' road road' (Err fault.LinkFailed)
  commit_risen h = λ w net block answered stands can. risen_by r i o setup.link w net (w.writers block.0).conn (r.risen road') stands.pipe_is h

pub read_off_failed : {I O : Type 0} (p : Pipe I O) (why : ClientFault) → IsReadOff p (Err why) → why ≡ fault.Memory
read_off_failed p why h = h
