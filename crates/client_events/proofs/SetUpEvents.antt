-- A writer that wants a pipeline: what its setup leaves, or why it failed.
use Rattle.std.proofs.Common.{◌≡◌, ◌≢◌, ◌≤◌, ◌+◌, inl, inr, ◌⊎◌, ℕ, Bool, true, false, if◌then◌else◌, List, [], ◌∷◌, ◌++◌, slice_get, is_some, Option, Some, None, IfSome, Result, Ok, Err, refl, sym, ap, ◌∙◌, subst, arith}
use Rattle.std.specs.Prelude.{◌||◌}
use Rattle.hd_base.specs.Ends.{has_failed}
use Rattle.hd_base.specs.Faults.{FaultsIncreased}
use Rattle.hd_base.specs.Links.{Inbox}
use Rattle.hd_base.specs.declared.ends.Conn.{Conn}
use Rattle.hd_base.specs.declared.links.LinkError.{LinkError}
use Rattle.hd_base.specs.declared.links.LinkIn as link_in
use Rattle.hd_base.specs.declared.links.LinkOut as link_out
use Rattle.hd_base.specs.declared.numbers.BlockId.{BlockId}
use Rattle.hd_base.specs.declared.numbers.ConnId.{ConnId}
use Rattle.hd_base.specs.declared.numbers.NodeId.{NodeId}
use Rattle.hd_base.specs.declared.numbers.Stamp.{Stamp}
use Rattle.hd_base.specs.declared.roads.Roads as roads
use Rattle.hd_base.specs.declared.roads.TheConstants.{FIRST_PORT}
use Rattle.ack_codec.specs.declared.responses.Response.{Response}
use Rattle.pipe_recovery.specs.FrameFeed.Kinds.{responses}
use Rattle.pipe_recovery.specs.LinkMessages.Next.{Next as Came}
use Rattle.pipe_recovery.specs.LinkMessages.Next.TheVariants as came
use Rattle.pipe_recovery.specs.LinkMessages.Incomings.{IncomingState, nothing_received, coming, IsOver, FindsNone, NextEnds}
use Rattle.link_pieces.specs.Pieces.{SendsNothing, SendsPiece, IsSending}
use Rattle.link_pieces.specs.Roads.{KeepsInward, IsDialled}
use Rattle.pipe_recovery.specs.MemberCore.TheConstants.{MAX_PORT}
use Rattle.name_core.specs.declared.desks.Desk as desks
use Rattle.op_headers.specs.declared.ops.Op.{Op}
use Rattle.op_headers.specs.Requests.{op_text}
use Rattle.pipe_recovery.specs.declared.acting.Acted.{Acted}
use Rattle.pipe_recovery.specs.declared.acting.Acted.TheVariants as acted
use Rattle.pipe_recovery.specs.declared.hearing.Answer.{Answer}
use Rattle.pipe_recovery.specs.declared.hearing.Answer.TheVariants as answer
use Rattle.pipe_recovery.specs.declared.hearing.Looked.{Looked}
use Rattle.pipe_recovery.specs.declared.hearing.Looked.TheVariants as looked
use Rattle.pipe_recovery.specs.declared.links.Link.{Link}
use Rattle.pipe_recovery.specs.declared.rebuilding.Rebuild.{Rebuild}
use Rattle.pipe_recovery.specs.declared.rebuilding.RebuildStep.{RebuildStep}
use Rattle.pipe_recovery.specs.declared.rebuilding.RebuildStep.TheVariants as step
use Rattle.pipe_recovery.specs.declared.rebuilding.Rebuilt.TheVariants as rebuilt
use Rattle.pipe_recovery.specs.Acting.{has_own_step}
use Rattle.pipe_recovery.specs.Dialling.{dial_port, asked_after}
use Rattle.pipe_recovery.specs.Exchanging.{Exchanges, ExchangesLink}
use Rattle.pipe_recovery.specs.Hearing.{HeardState, nothing_heard, answer_of, looked_of, Looks, Receives}
use Rattle.pipe_recovery.specs.Links.{LooksAt}
use Rattle.pipe_recovery.specs.Reports.{Sees, Awaits, AwaitsOn, EndsAs, Reports, ReportsAt, moved_if, failed_as}
use Rattle.pipe_recovery.specs.Steps.{StillFits, fits_in, is_stamped, keeps_link, AsksAndDials, Acts, SettlesTold, Steps}
use Rattle.road_traffic.proofs.CallLemmas.{dialled-shows}
use Rattle.road_traffic.specs.Laws.{Took}
use Rattle.road_traffic.specs.Showing.{Net, no_inbox}
use Rattle.member_events.specs.World.Worlds.{World}
use Rattle.writer_core.specs.declared.phases.Failure.{Failure}
use Rattle.writer_core.specs.declared.phases.Phase.{Phase}
use Rattle.writer_core.specs.declared.phases.Phase.TheVariants as phase
use Rattle.writer_core.specs.declared.phases.Setup.{Setup}
use Rattle.writer_core.specs.declared.records.WriterRecord.{WriterRecord}
use Rattle.writer_core.specs.Transitions.{stamp_call, dialled, has_command_due}
use Rattle.member_events.proofs.CauseLaws.{in_failed, one_risen}
use Rattle.member_events.proofs.EndLaws.{RoadsAt}
use Rattle.client_events.specs.declared.faults.ClientFault.{ClientFault}
use Rattle.client_events.specs.declared.faults.ClientFault.TheVariants as fault
use Rattle.client_events.specs.declared.pipes.Pipe.{Pipe}
use Rattle.client_events.specs.declared.pipes.Pipe.TheVariants as pipe
use Rattle.client_events.specs.declared.setting_up.SetUp.{SetUp}
use Rattle.client_events.specs.Answering.{piped}
use Rattle.client_events.specs.Faults.{IsCaused}
use Rattle.client_events.specs.SettingUp.{IsWanted, is_requested, is_unreached, first_port, undialled, Accepts, MeetsBy, Meets, GivesUpLink, CanSetUp, FirstUnreached, SetUpBy, SetUpEnds, SetUpShows, FitsSetUp}
use Rattle.client_events.proofs.PhaseLaws.{ended_unstamped}
use Rattle.client_events.proofs.FitLaws.{report_fits}
use Rattle.client_events.specs.Showing.{PipeFits, PipeShows, ClientStands}
use Rattle.client_events.proofs.AnswerEnds.{piped_as, piped_failed, none_ok, setup_none, piped_moved}
use Rattle.client_events.proofs.AnswerLaws.{true_false}
use Rattle.client_events.proofs.CommitLaws.{still_empty}
use Rattle.client_events.proofs.SettleLaws.{road_caused}
use Rattle.client_events.proofs.SetUpLaws.{WantedIn, wanted_in, IsGiven, after_stamp, KeepsQueue, keeps_queue, refusal_reached, asked_phase, first_request, unreached_phase, no_own_step, some_members, Undialled, Unreached, Asked, HasDialled, StampAsked, stamp_asked}
use Rattle.client_events.proofs.SetUpEnds.{first_is, not_requested, LeftOut, left_out_requested, DialledSo, GoneOn, goes_by, settle_none, reports_at, lost_risen, undialled_left, runs_if, unasked, unreached_left, FirstReached, dial_waits, first_left}
use Rattle.member_events.proofs.FaultEvents.{rises_from}

-- WHAT WAS LOOKED AT

front_nil : {A : Type 0} (xs ys : List A) → xs ++ ys ≡ [] → xs ≡ []
front_nil [] ys h = refl
front_nil (x ∷ xs) ys h = cc

quiet_received : (new : IncomingState) (held : Option Inbox) → IsOver responses false new held → coming new held ≡ Some no_inbox → new ≡ nothing_received
quiet_received new None over h = absurd (none_inbox h)
  where
    none_inbox : ◌≡◌ {A = Option Inbox} None (Some no_inbox) → ⊥
    none_inbox q = cc
quiet_received new (Some inbox) over h =
    let bytes : (new.rest ++ new.unpushed) ++ inbox.bytes ≡ [] = ap (λ (q : Inbox). q.bytes) (same_inbox _ _ h) in
    let rest = front_nil new.rest new.unpushed (front_nil (new.rest ++ new.unpushed) inbox.bytes bytes) in
    λ j. record { rest = rest j; unpushed = over.all j; refused = over.reads_on j }
  where
    same_inbox : (p q : Inbox) → Some p ≡ Some q → p ≡ q
    same_inbox p q e = cc

module _ {I O : Type 0} (i : link_in.Ghosts I) where
  -- Nothing came.
  record Quiet (found : Looked) (link held : Link I O) : Type 0 where
    known : found ≡ looked.Known
    took : Took i no_inbox link.end held.end
    heard : held.heard ≡ nothing_heard

  -- The link failed.
  record Broken (found : Looked) (link held : Link I O) : Type 0 where
    known : found ≡ looked.Known
    next : held.heard.next ≡ Some answer.Ended
    id : held.end.id ≡ link.end.id
    rose : FaultsIncreased (i.faults link.end.inward) (i.faults held.end.inward)

  abbrev HasLooked : Looked → Link I O → Link I O → Type 0
  HasLooked found link held = Quiet found link held ⊎ (Broken found link held ⊎ (found ≡ looked.Memory))

  looked_by : (found : Looked) (link held : Link I O) (c : Came Response) → i.held link.end.inward ≡ Some no_inbox → LooksAt i link held found → NextEnds responses i nothing_received held.heard.received link.end.inward held.end.inward c → FindsNone false c → held.heard.next ≡ answer_of c
      → found ≡ looked_of c → HasLooked found link held
  looked_by found link held (came.Message m) inbox looks ends none next is = absurd none
  looked_by found link held came.Unreadable inbox looks ends none next is = absurd none
  looked_by found link held came.End inbox looks ends none next is = absurd none
  looked_by found link held came.NotYet inbox looks ends none next is =
      let there : coming held.heard.received (i.held held.end.inward) ≡ Some no_inbox = ends.comes.1 ∙ ap (coming nothing_received) inbox in
      let received = quiet_received held.heard.received (i.held held.end.inward) ends.comes.0 there in
      inl (record {
        known = is;
        took = record {
          id = looks.kept.id;
          lower = looks.kept.lower;
          outward = looks.kept.outward;
          shut = ends.shut;
          holds = still_empty held.heard.received (i.held held.end.inward) ends.comes.0.empty there;
        };
        heard = λ j. record { received = received j; next = next j };
      })
  looked_by found link held came.Failed inbox looks ends none next is = inr (inl (record { known = is; next = next; id = looks.kept.id; rose = ends.comes.0 }))
  looked_by found link held came.Memory inbox looks ends none next is = inr (inr is)

  has_looked : (found : Looked) (link held : Link I O) → i.held link.end.inward ≡ Some no_inbox → link.heard ≡ nothing_heard → LooksAt i link held found → HasLooked found link held
  has_looked found link held inbox none looks =
      let x : Receives i nothing_heard held.heard link.end.inward held.end.inward found = subst (λ (q : HeardState). Looks i q.next q held.heard link.end.inward held.end.inward found) none looks.looks in
      looked_by found link held x.came inbox looks x.comes (x.comes.none refl false (ap (coming nothing_received) inbox)) x.stands x.is

  waiting_memory : ◌≡◌ {A = RebuildStep I O} step.Waiting (step.Ended rebuilt.Memory) → ⊥
  waiting_memory h = cc

  moved_memory : ◌≡◌ {A = RebuildStep I O} step.Moved (step.Ended rebuilt.Memory) → ⊥
  moved_memory h = cc

  waiting_moved : ◌≡◌ {A = RebuildStep I O} step.Waiting step.Moved → ⊥
  waiting_moved h = cc

  waits_quiet : (y : WriterRecord) (found : Looked) (link held : Link I O) → HasLooked found link held → Sees y held found step.Waiting → Quiet found link held
  waits_quiet y found link held (inl q) sees = q
  waits_quiet y found link held (inr (inl b)) sees =
      let t : Sees y held looked.Known step.Waiting = subst (λ (f : Looked). Sees y held f step.Waiting) b.known sees in
      absurd (waiting_moved (t ∙ ap (λ (n : Option Answer). moved_if (is_some n || has_own_step y)) b.next))
  waits_quiet y found link held (inr (inr m)) sees = absurd (waiting_memory (subst (λ (f : Looked). Sees y held f step.Waiting) m sees))

  moves_broken : (y : WriterRecord) (found : Looked) (link held : Link I O) → has_own_step y ≡ false → HasLooked found link held → Sees y held found step.Moved → Broken found link held
  moves_broken y found link held idle (inl q) sees =
      let t : Sees y held looked.Known step.Moved = subst (λ (f : Looked). Sees y held f step.Moved) q.known sees in
      absurd (waiting_moved (sym (t ∙ (ap (λ (s : HeardState). moved_if (is_some s.next || has_own_step y)) q.heard ∙ ap moved_if idle))))
  moves_broken y found link held idle (inr (inl b)) sees = b
  moves_broken y found link held idle (inr (inr m)) sees = absurd (moved_memory (subst (λ (f : Looked). Sees y held f step.Moved) m sees))

-- BOTH EVENTS

-- what followed an exchange
record MeetsLater (R I O : Type 0) : Type 0 where
  setup2 : Rebuild I O
  later : R
  last : R
  result : Result (SetUp I O) ClientFault

unlinked_by : {I O : Type 0} (s : Setup) (link : Option (Link I O)) → fits_in (phase.Wanted s) (is_some link) ≡ true → link ≡ None
unlinked_by s None fits = refl
unlinked_by s (Some l) fits = cc

module _ {R I O D : Type 0} (r : roads.Ghosts R I O) (i : link_in.Ghosts I) (o : link_out.Ghosts O) (d : desks.Ghosts D) (next : ConnId) (setup setup' : Rebuild I O) (known y : WriterRecord) (desk desk' : D) (road road' : R) (ends : RebuildStep I O) where
  -- The office answered, and the writer went on.
  record Begun (s : Setup) (held : Option (Link I O)) (middle : R) (does : Acted) : Type 0 where
    x : WriterRecord
    asks : StampAsked r i o d (stamp_call known s) known x desk desk'
    gone : GoneOn r i o d x y held road middle does

  never_by : (does : Acted) (kept : Option (Link I O)) → Reports i does y kept setup'.link ends → (ends ≡ step.Ended rebuilt.Memory → ⊥) → does ≡ acted.Memory → ⊥
  never_by does kept reports none same = let m : EndsAs kept setup'.link (step.Ended rebuilt.Memory) ends = subst (λ (q : Acted). Reports i q y kept setup'.link ends) same reports in none m.1

  begun : (s : Setup) (held : Option (Link I O)) (middle : R) (does : Acted) → known.phase ≡ phase.Wanted s → setup.link ≡ None → Acts d r i o known.phase known y setup.link held desk desk' road middle does → (does ≡ acted.Memory → ⊥) → Begun s held middle does
  begun s held middle does h none acts some =
      let at_none : Acts d r i o known.phase known y None held desk desk' road middle does = subst (λ (l : Option (Link I O)). Acts d r i o known.phase known y l held desk desk' road middle does) none acts in
      let g : AsksAndDials d r i o known y None held desk desk' road middle does = subst (λ (p : Phase). Acts d r i o p known y None held desk desk' road middle does) h at_none in
      let a = stamp_asked r i o d s known g.answered y held desk desk' road middle g.first does h some g.asks g.goes_on in
      let given : IsGiven g.answered.phase = subst (λ (q : WriterRecord). IsGiven q.phase) (sym a.puts.writer) (after_stamp known s a.puts.answer h (sym a.puts.ends) a.fits) in
      record { x = g.answered; asks = a; gone = goes_by r i o d g.answered.phase g.answered y held road middle g.first does refl given some g.goes_on }

  -- THE CONNECTION FITS

  unreached_unstamped : (p : Phase) → is_unreached p ≡ true → is_stamped p ≡ false
  unreached_unstamped (phase.Wanted s) h = refl
  unreached_unstamped (phase.Failed f) h = refl
  unreached_unstamped p h = cc

  asked_unstamped : (x after : WriterRecord) (s : Setup) (stamp : Stamp) (sending : Result ℕ LinkError) → x.phase ≡ phase.Stamped s stamp → after ≡ asked_after x sending → is_stamped after.phase ≡ false
  asked_unstamped x after s stamp (Ok n) h is = ap (λ (q : WriterRecord). is_stamped q.phase) (is ∙ asked_phase x s stamp h)
  asked_unstamped x after s stamp (Err e) h is = ap (λ (q : WriterRecord). is_stamped q.phase) is ∙ ended_unstamped (dialled x true) (ap (λ (q : WriterRecord). is_stamped q.phase) (asked_phase x s stamp h))

  dialled_unstamped : (x : WriterRecord) (k : (s : Setup) × ((stamp : Stamp) × ((first : NodeId) × ((others : List NodeId) × ((x.phase ≡ phase.Stamped s stamp) × (x.members ≡ first ∷ others)))))) (op : Op) (held : Option (Link I O)) (middle : R) (does : Acted)
      → HasDialled r i o d k.1.1.0 op x y held road middle does → is_stamped y.phase ≡ false
  dialled_unstamped x k op held middle does (inl u) =
      ap (λ (q : WriterRecord). is_stamped q.phase) u.writer ∙ unreached_unstamped (dialled x false).phase (unreached_phase x k.0 k.1.0 k.1.1.1.1.0 (some_members x k.1.1.0 k.1.1.1.0 k.1.1.1.1.1))
  dialled_unstamped x k op held middle does (inr a) = asked_unstamped x y k.0 k.1.0 a.sent.sending k.1.1.1.1.0 a.sent.writer

  gone_unstamped : (x : WriterRecord) (held : Option (Link I O)) (middle : R) (does : Acted) → GoneOn r i o d x y held road middle does → x.members ≢ [] → is_stamped y.phase ≡ false
  gone_unstamped x held middle does (inl (inl f, u)) some = ap (λ (q : WriterRecord). is_stamped q.phase) u.same ∙ ap is_stamped f.1
  gone_unstamped x held middle does (inl (inr n, u)) some = absurd (some n.1.1.1)
  gone_unstamped x held middle does (inr k) some = dialled_unstamped x (k.setup, (k.stamp, (k.first, (k.others, (k.phase_is, k.members))))) (first_request x k.setup k.stamp k.others) held middle does k.how

  step_unstamped : IsWanted known.phase → fits_in known.phase (is_some setup.link) ≡ true → Steps d r i o known y setup.link setup'.link desk desk' road road' setup'.lost ends → (ends ≡ step.Ended rebuilt.Memory → ⊥) → known.members ≢ [] → is_stamped y.phase ≡ false
  step_unstamped ok fits steps none some =
      let u : WantedIn known.phase = wanted_in known.phase ok in
      let unlinked = unlinked_by u.setup setup.link (subst (λ (p : Phase). fits_in p (is_some setup.link) ≡ true) u.is fits) in
      let g = begun u.setup steps.held steps.middle steps.acted u.is unlinked steps.acts (never_by steps.acted steps.kept steps.reports none) in
      let same : g.x.members ≡ known.members = ap (λ (q : WriterRecord). q.members) g.asks.puts.writer ∙ (keeps_queue known u.setup g.asks.puts.answer u.is).members in
      gone_unstamped g.x steps.held steps.middle steps.acted g.gone (λ e. some (sym same ∙ e))

  pub left_fits : (left : Pipe I O) → IsWanted known.phase → fits_in known.phase (is_some setup.link) ≡ true → Steps d r i o known y setup.link setup'.link desk desk' road road' setup'.lost ends → StillFits y.phase (is_some setup'.link) ends → piped setup' ends ≡ Ok left → FitsSetUp known y setup (Ok (undialled y.phase (slice_get known.members 0) left))
  left_fits left ok fits steps still is = λ some before.
      report_fits i steps.acted y steps.kept setup' ends left steps.reports is still (step_unstamped ok fits steps (λ e. none_ok r i o fault.Memory left (sym (ap (piped setup') e) ∙ is)) some)

  requested_unstamped : (p : Phase) → is_requested p ≡ true → is_stamped p ≡ false
  requested_unstamped (phase.Requested s stamp) h = refl
  requested_unstamped p h = cc

  exchanged_some : (old new : Option (Link I O)) (before later : R) → ExchangesLink r i o None old new before later (Ok tt) → is_some new ≡ is_some old
  exchanged_some None None before later h = refl
  exchanged_some (Some a) (Some b) before later h = refl
  exchanged_some None (Some b) before later h = absurd h
  exchanged_some (Some a) None before later h = absurd h

  pub met_fits : (port : ℕ) (last : R) (result : Result (SetUp I O) ClientFault) → is_requested y.phase ≡ true → StillFits y.phase (is_some setup'.link) ends → ends ≡ step.Waiting → Meets r i o port setup'.link road' last result → FitsSetUp known y setup result
  met_fits port last (Err why) on still is m = tt
  met_fits port last (Ok left) on still is m = λ some before.
      let fits : fits_in y.phase (is_some setup'.link) ≡ true = subst (λ (z : RebuildStep I O). StillFits y.phase (is_some setup'.link) z) is still in
      subst (λ (l : SetUp I O). PipeFits y.phase l.pipe) (sym m.accepts.is)
      (subst (λ (q : Bool). fits_in y.phase q ≡ true) (sym (exchanged_some setup'.link m.setup.link road' m.middle m.flushes)) fits, requested_unstamped y.phase on)

  module _ (w : World) (net : Net) (block : BlockId) (stands : ClientStands r i o w net block.0 w.office known (pipe.SettingUp setup) road) (can : CanSetUp d w block next known desk) (s : Setup) (wants : known.phase ≡ phase.Wanted s) (unlinked : setup.link ≡ None)
      (x : WriterRecord) (asks : StampAsked r i o d (stamp_call known s) known x desk desk') (held kept : Option (Link I O)) (middle : R) (does : Acted) (settles : SettlesTold r i o (keeps_link y.phase) held kept middle road' false)
      (reports : ReportsAt i y.phase y kept setup'.link ends) (not_risen : r.risen road' next.0 ≡ false) where
    here : RoadsAt r net road
    here = record { sane = stands.roads_are.sane; shows = stands.roads_are.shows }

    number : net.conns ≡ next.0
    number = stands.roads_are.is_net.conns ∙ sym can.next_is

    -- WHERE NO REQUEST WAS SENT

    failed_at : (f : Failure) (left : Pipe I O) → y.phase ≡ phase.Failed f → piped setup' ends ≡ Ok left → (z : World) (made : Net) (conn : Option ℕ) → conn ≡ None → PipeShows i o z made conn left
    failed_at f left h is z made conn none =
        let m : EndsAs kept setup'.link (step.Ended (failed_as f)) ends = subst (λ (p : Phase). ReportsAt i p y kept setup'.link ends) h reports in
        subst (λ (q : Pipe I O). PipeShows i o z made conn q) (piped_as r i o setup' ends (step.Ended (failed_as f)) pipe.Closed left m.1 (piped_failed r i o setup' f) is) none

    wanted_at : (u : Setup) (left : Pipe I O) → y.phase ≡ phase.Wanted u → kept ≡ None → piped setup' ends ≡ Ok left → (z : World) (made : Net) (conn : Option ℕ) → conn ≡ None → PipeShows i o z made conn left
    wanted_at u left h gone is z made conn none =
        let m : EndsAs kept setup'.link (moved_if (has_own_step y)) ends = subst (λ (p : Phase). ReportsAt i p y kept setup'.link ends) h reports in
        subst (λ (q : Pipe I O). PipeShows i o z made conn q) (piped_as r i o setup' ends (moved_if (has_own_step y)) (pipe.SettingUp setup') left m.1 (piped_moved r i o setup' (has_own_step y)) is)
        (setup_none r i o setup' (m.0 ∙ gone) z made conn none)

    stamped_at : (u : Setup) (stamp : Stamp) (left : Pipe I O) → y.phase ≡ phase.Stamped u stamp → kept ≡ None → piped setup' ends ≡ Ok left → (z : World) (made : Net) (conn : Option ℕ) → conn ≡ None → PipeShows i o z made conn left
    stamped_at u stamp left h gone is z made conn none =
        let m : EndsAs kept setup'.link (moved_if (has_own_step y)) ends = subst (λ (p : Phase). ReportsAt i p y kept setup'.link ends) h reports in
        subst (λ (q : Pipe I O). PipeShows i o z made conn q) (piped_as r i o setup' ends (moved_if (has_own_step y)) (pipe.SettingUp setup') left m.1 (piped_moved r i o setup' (has_own_step y)) is)
        (setup_none r i o setup' (m.0 ∙ gone) z made conn none)

    left_shown : (left : Pipe I O) → LeftOut x → y ≡ x → kept ≡ None → piped setup' ends ≡ Ok left → (z : World) (made : Net) (conn : Option ℕ) → conn ≡ None → PipeShows i o z made conn left
    left_shown left (inl f) same gone is = failed_at f.0 left (ap (λ (q : WriterRecord). q.phase) same ∙ f.1) is
    left_shown left (inr t) same gone is = stamped_at t.0 t.1.0 left (ap (λ (q : WriterRecord). q.phase) same ∙ t.1.1.0) gone is

    -- a member that wasn't reached leaves no connection either
    unreached_shown : (p : Phase) (left : Pipe I O) → y.phase ≡ p → is_unreached p ≡ true → kept ≡ None → piped setup' ends ≡ Ok left → (z : World) (made : Net) (conn : Option ℕ) → conn ≡ None → PipeShows i o z made conn left
    unreached_shown (phase.Wanted u) left h off gone is = wanted_at u left h gone is
    unreached_shown (phase.Failed f) left h off gone is = failed_at f left h is
    unreached_shown p left h off gone is = cc

    -- it isn't a member that wasn't reached
    left_reached : LeftOut x → is_unreached x.phase ≡ false
    left_reached (inl f) = ap is_unreached f.1 ∙ refusal_reached known s asks.puts.answer f.0 wants (sym asks.puts.ends) asks.fits (ap (λ (q : WriterRecord). q.phase) (sym asks.puts.writer) ∙ f.1)
    left_reached (inr t) = ap is_unreached t.1.1.0

    -- the first member before the events
    abbrev first_known : Option NodeId
    first_known = slice_get known.members 0

    undialled_ends : (left : Pipe I O) → LeftOut x → Undialled r i o d x y held road middle → piped setup' ends ≡ Ok left → SetUpEnds d r i o w net block next.0 known y desk' road road' (Ok (undialled y.phase first_known left))
    undialled_ends left out u is =
        let t = settle_none r i o d (keeps_link y.phase) held kept middle road' u.none settles in
        let reached : is_unreached y.phase ≡ false = ap (λ (q : WriterRecord). is_unreached q.phase) u.same ∙ left_reached out in
        let ends_so : SetUpBy d r i o w net block next.0 known x desk' road road left None None =
        undialled_left r i o d w net block setup known x desk desk' road stands next can s wants asks unlinked out left (left_shown left out u.same t.0 is) in
        let on_road : SetUpBy d r i o w net block next.0 known x desk' road road' left None None = subst (λ (q : R). SetUpBy d r i o w net block next.0 known x desk' road q left None None) (sym (t.1 ∙ u.roads_same)) ends_so in
        let of_writer : SetUpBy d r i o w net block next.0 known y desk' road road' left None None = subst (λ (q : WriterRecord). SetUpBy d r i o w net block next.0 known q desk' road road' left None None) (sym u.same) on_road in
        subst (λ (q : Bool). SetUpBy d r i o w net block next.0 known y desk' road road' left None (if q then first_known else None)) (sym reached) of_writer

    unreached_ends : (left : Pipe I O) (u : Setup) (stamp : Stamp) (first : NodeId) (others : List NodeId) → x.phase ≡ phase.Stamped u stamp → x.members ≡ first ∷ others → Unreached r i o d first (first_request x u stamp others) x y held road middle → piped setup' ends ≡ Ok left
        → SetUpEnds d r i o w net block next.0 known y desk' road road' (Ok (undialled y.phase first_known left))
    unreached_ends left u stamp first others h members un is =
        let t = settle_none r i o d (keeps_link y.phase) held kept middle road' un.none settles in
        let off : is_unreached y.phase ≡ true = ap (λ (q : WriterRecord). is_unreached q.phase) un.writer ∙ unreached_phase x u stamp h (some_members x first others members) in
        let kept_queue : KeepsQueue known x = subst (λ (q : WriterRecord). KeepsQueue known q) (sym asks.puts.writer) (keeps_queue known s asks.puts.answer wants) in
        let was_first : first_known ≡ Some first = ap (λ (ms : List NodeId). slice_get ms 0) (sym kept_queue.members ∙ members) in
        let named : (if is_unreached y.phase then first_known else None) ≡ Some first = ap (λ (q : Bool). if q then first_known else None) off ∙ was_first in
        let shown = unreached_shown y.phase left refl off t.0 is in
        let left_so : FirstUnreached d r i o w net block known y desk' road middle left first = record {
          first = was_first;
          cause = unasked r i o d w net block setup known x desk desk' road stands next can s wants asks unlinked u stamp first others h members y held middle un;
          is_left = unreached_left r i o d w net block setup known x desk desk' road stands next can s wants asks unlinked u stamp first others h members y held middle left un shown;
        } in
        subst (λ (q : Option NodeId). SetUpBy d r i o w net block next.0 known y desk' road road' left None q) (sym named)
        (subst (λ (q : R). FirstUnreached d r i o w net block known y desk' road q left first) (sym t.1) left_so)

    -- THE REQUEST THAT WAS SENT

    -- The first member was asked.
    record AskedNow : Type 0 where
      u : Setup
      stamp : Stamp
      first : NodeId
      others : List NodeId
      phase_is : x.phase ≡ phase.Stamped u stamp
      members : x.members ≡ first ∷ others
      port : ℕ
      port_is : dial_port first ≡ Some port
      listening : IfSome (r.plain road) (λ p. p.listening port ≡ true)
      fresh : Conn I O
      half : O
      link : Link I O
      dials : IsDialled r i o port road middle fresh
      held_is : held ≡ Some link
      heard : link.heard ≡ nothing_heard
      keeps : KeepsInward fresh link.end
      room : SendsNothing o fresh.outward half
      sent : SendsPiece o (op_text (first_request x u stamp others)) half link.end.outward
      writer : y ≡ dialled x true

    by_sending : (ds : DialledSo r i o d x y held road middle does) (k : Asked r i o d ds.first (first_request x ds.setup ds.stamp ds.others) x y held road middle does) (how : Result ℕ LinkError)
        → IsSending o (op_text (first_request x ds.setup ds.stamp ds.others)) k.sent.half k.link.end.outward how → y ≡ asked_after x how → AskedNow
    by_sending ds k (Ok n) sent writer = record {
      u = ds.setup;
      stamp = ds.stamp;
      first = ds.first;
      others = ds.others;
      phase_is = ds.phase_is;
      members = ds.members;
      port = k.port;
      port_is = k.port_is;
      listening = k.listening;
      fresh = k.fresh;
      half = k.sent.half;
      link = k.link;
      dials = k.dialled;
      held_is = k.held_is;
      heard = k.heard;
      keeps = k.sent.kept;
      room = k.sent.room;
      sent = sent;
      writer = writer;
    }
    by_sending ds k (Err why) sent writer =
        let t : SettlesTold r i o (keeps_link y.phase) (Some k.link) kept middle road' false = subst (λ (l : Option (Link I O)). SettlesTold r i o (keeps_link y.phase) l kept middle road' false) k.held_is settles in
        let rose = lost_risen r i o d net k.port x y k.fresh k.link k.sent.half (op_text (first_request x ds.setup ds.stamp ds.others)) why kept ds.setup ds.stamp road middle road' here k.dialled k.sent.kept sent writer ds.phase_is
        (some_members x ds.first ds.others ds.members) t in
        absurd (true_false (sym (subst (λ (n : ℕ). r.risen road' n ≡ true) number rose) ∙ not_risen))

    asked_so : (ds : DialledSo r i o d x y held road middle does) → Asked r i o d ds.first (first_request x ds.setup ds.stamp ds.others) x y held road middle does → AskedNow
    asked_so ds k = by_sending ds k k.sent.sending k.sent.sent k.sent.writer

    requested_at : (k : AskedNow) → y ≡ record x { phase = phase.Requested k.u k.stamp }
    requested_at k = k.writer ∙ asked_phase x k.u k.stamp k.phase_is

    by_how : (ds : DialledSo r i o d x y held road middle does) (left : Pipe I O) → is_requested y.phase ≡ false → piped setup' ends ≡ Ok left → HasDialled r i o d ds.first (first_request x ds.setup ds.stamp ds.others) x y held road middle does
        → SetUpEnds d r i o w net block next.0 known y desk' road road' (Ok (undialled y.phase first_known left))
    by_how ds left off is (inl un) = unreached_ends left ds.setup ds.stamp ds.first ds.others ds.phase_is ds.members un is
    by_how ds left off is (inr k) =
        let now = asked_so ds k in
        absurd (true_false (sym (ap (λ (q : WriterRecord). is_requested q.phase) (requested_at now)) ∙ off))

    -- Where no request was sent.
    not_sent : (left : Pipe I O) → is_requested y.phase ≡ false → piped setup' ends ≡ Ok left → GoneOn r i o d x y held road middle does → SetUpEnds d r i o w net block next.0 known y desk' road road' (Ok (undialled y.phase first_known left))
    not_sent left off is (inl g) = undialled_ends left g.0 g.1 is
    not_sent left off is (inr ds) = by_how ds left off is ds.how

    -- Where it was.
    was_sent : is_requested y.phase ≡ true → GoneOn r i o d x y held road middle does → AskedNow
    was_sent on (inl g) = absurd (true_false (sym on ∙ (ap (λ (q : WriterRecord). is_requested q.phase) g.1.same ∙ left_out_requested x g.0)))
    was_sent on (inr ds) = by_dialled ds.how
      where
        by_dialled : HasDialled r i o d ds.first (first_request x ds.setup ds.stamp ds.others) x y held road middle does → AskedNow
        by_dialled (inl un) =
            let off : is_unreached y.phase ≡ true = ap (λ (q : WriterRecord). is_unreached q.phase) un.writer ∙ unreached_phase x ds.setup ds.stamp ds.phase_is (some_members x ds.first ds.others ds.members) in
            absurd (true_false (sym on ∙ not_requested y.phase off))
        by_dialled (inr k) = asked_so ds k

    -- WHAT STANDS ON THE CONNECTION

    record Awaited (k : AskedNow) : Type 0 where
      seen : Link I O
      link_is : setup'.link ≡ Some seen
      roads_same : road' ≡ middle
      awaits : AwaitsOn i y k.link seen ends

    by_awaits : (k : AskedNow) (link' : Option (Link I O)) → setup'.link ≡ link' → road' ≡ middle → Awaits i y (Some k.link) link' ends → Awaited k
    by_awaits k None is same m = absurd m
    by_awaits k (Some seen) is same m = record { seen = seen; link_is = is; roads_same = same; awaits = m }

    awaited : (k : AskedNow) → Awaited k
    awaited k =
        let at_phase : y.phase ≡ phase.Requested k.u k.stamp = ap (λ (q : WriterRecord). q.phase) (requested_at k) in
        let t : SettlesTold r i o true (Some k.link) kept middle road' false =
        subst (λ (q : Bool). SettlesTold r i o q (Some k.link) kept middle road' false) (ap keeps_link at_phase) (subst (λ (l : Option (Link I O)). SettlesTold r i o (keeps_link y.phase) l kept middle road' false) k.held_is settles) in
        let m : Awaits i y kept setup'.link ends = subst (λ (p : Phase). ReportsAt i p y kept setup'.link ends) at_phase reports in
        by_awaits k setup'.link refl t.settles.1 (subst (λ (l : Option (Link I O)). Awaits i y l setup'.link ends) t.settles.0 m)

    inbox_of : (k : AskedNow) → i.held k.link.end.inward ≡ Some no_inbox
    inbox_of k = ap i.held k.keeps.inward ∙ (dialled-shows r i o k.port road middle k.fresh k.dials net here.sane here.shows).both.end_is.held

    looked_now : (k : AskedNow) (z : Awaited k) → HasLooked i z.awaits.found k.link z.seen
    looked_now k z = has_looked i z.awaits.found k.link z.seen (inbox_of k) k.heard z.awaits.looks

    idle_now : (k : AskedNow) → has_own_step y ≡ false
    idle_now k =
        let kept_queue : KeepsQueue known x = subst (λ (q : WriterRecord). KeepsQueue known q) (sym asks.puts.writer) (keeps_queue known s asks.puts.answer wants) in
        no_own_step y k.u k.stamp (ap (λ (q : WriterRecord). q.phase) (requested_at k)) (ap has_command_due (requested_at k) ∙ (kept_queue.due ∙ can.no_command))

    -- the number of the connection
    number_of : (k : AskedNow) → k.link.end.id.0 ≡ next.0
    number_of k = ap (λ (n : ConnId). n.0) k.keeps.id ∙ ((dialled-shows r i o k.port road middle k.fresh k.dials net here.sane here.shows).number ∙ number)

    -- The link failed before anything came.
    broken_ends : (k : AskedNow) (z : Awaited k) (last : R) (why : ClientFault) → ends ≡ step.Moved → GivesUpLink r i o (Some z.seen) road' last why → IsCaused r (Some next.0) road last why
    broken_ends k z last fault.LinkFailed is b =
        let sees : Sees y z.seen z.awaits.found step.Moved = subst (λ (q : RebuildStep I O). Sees y z.seen z.awaits.found q) is z.awaits.sees in
        let broke = moves_broken i y z.awaits.found k.link z.seen (idle_now k) (looked_now k z) sees in
        let rose : has_failed i o z.seen.end ≡ true = in_failed i o (i.faults k.link.end.inward) z.seen.end broke.rose in
        subst (λ (n : ℕ). r.risen last n ≡ true) (ap (λ (n : ConnId). n.0) broke.id ∙ number_of k) (one_risen r i o z.seen.end road' last b rose)
    broken_ends k z last fault.Memory is b = tt
    broken_ends k z last fault.RoadsFailed is b = absurd b

    -- THE DIAL THAT IS ACCEPTED

    reached_at : (k : AskedNow) (z : Awaited k) (new : Link I O) (later : R) → ends ≡ step.Waiting → Exchanges r i o None z.seen new road' later (Ok tt)
        → FirstReached r i o d w net block setup known x desk desk' road stands next can s wants asks unlinked k.u k.stamp k.first k.others k.phase_is k.members k.port k.fresh k.half k.link z.seen new middle later
    reached_at k z new later is ex =
        let sees : Sees y z.seen z.awaits.found step.Waiting = subst (λ (q : RebuildStep I O). Sees y z.seen z.awaits.found q) is z.awaits.sees in
        let quiet = waits_quiet i y z.awaits.found k.link z.seen (looked_now k z) sees in
        record {
          runs = runs_if r i o d w net block setup known x desk desk' road stands next can s wants asks unlinked k.u k.stamp k.first k.others k.phase_is k.members k.port k.port_is true k.listening;
          dials = k.dials;
          kept = k.keeps;
          room = k.room;
          sent = k.sent;
          took = quiet.took;
          heard = quiet.heard;
          exchanged = subst (λ (q : R). Exchanges r i o None z.seen new q later (Ok tt)) z.roads_same ex;
        }

    port_now : (k : AskedNow) → first_port y.members ≡ k.port
    port_now k =
        let kept_queue : KeepsQueue known x = subst (λ (q : WriterRecord). KeepsQueue known q) (sym asks.puts.writer) (keeps_queue known s asks.puts.answer wants) in
        let few : FIRST_PORT + k.first.0 ≤ MAX_PORT = subst (λ (ms : List NodeId). IfSome (slice_get ms 0) (λ n. FIRST_PORT + n.0 ≤ MAX_PORT)) (sym kept_queue.members ∙ k.members) can.has_port in
        first_is y.members k.first k.others k.port (ap (λ (q : WriterRecord). q.members) (requested_at k) ∙ k.members) few k.port_is

    before_dial : (k : AskedNow) (z : Awaited k) → r.faults road ≤ r.faults road'
    before_dial k z = subst (λ (q : R). r.faults road ≤ r.faults q) (sym z.roads_same) k.dials.never_falls

    accepts_ends : (k : AskedNow) (z : Awaited k) (setup2 : Rebuild I O) (new : Link I O) (later last : R) (result : Result (SetUp I O) ClientFault) → ends ≡ step.Waiting → setup2.link ≡ Some new → Exchanges r i o None z.seen new road' later (Ok tt)
        → Accepts r i o k.port setup2 later last result → SetUpEnds d r i o w net block next.0 known y desk' road last result
    accepts_ends k z setup2 new later last (Ok left) is link ex acc =
        let f = reached_at k z new later is ex in
        subst (λ (q : SetUp I O). SetUpEnds d r i o w net block next.0 known y desk' road last (Ok q)) (sym acc.is)
        (first_left r i o d w net block setup known x desk desk' road stands next can s wants asks unlinked k.u k.stamp k.first k.others k.phase_is k.members k.port k.fresh k.half k.link z.seen new middle later f y setup2 acc.at_end last k.writer link acc.accepts)
    accepts_ends k z setup2 new later last (Err fault.RoadsFailed) is link ex (inl none) =
        absurd (dial_waits r i o d w net block setup known x desk desk' road stands next can s wants asks unlinked k.u k.stamp k.first k.others k.phase_is k.members k.port k.fresh k.half k.link z.seen new middle later (reached_at k z new later is ex) none)
    accepts_ends k z setup2 new later last (Err fault.RoadsFailed) is link ex (inr rose) =
        rises_from (r.faults road) (r.faults later) (r.faults last) (through (r.faults road) (r.faults road') (r.faults later) (before_dial k z) ex.end.cause.never_falls) rose
      where
        through : (p q n : ℕ) → p ≤ q → q ≤ n → p ≤ n
        through p q n h1 h2 = omega arith
    accepts_ends k z setup2 new later last (Err fault.Memory) is link ex acc = tt
    accepts_ends k z setup2 new later last (Err fault.LinkFailed) is link ex acc = absurd acc

    by_exchange : (k : AskedNow) (z : Awaited k) (m : MeetsLater R I O) (link2 : Option (Link I O)) → m.setup2.link ≡ link2 → ends ≡ step.Waiting → ExchangesLink r i o None (Some z.seen) link2 road' m.later (Ok tt) → Accepts r i o k.port m.setup2 m.later m.last m.result
        → SetUpEnds d r i o w net block next.0 known y desk' road m.last m.result
    by_exchange k z m None at is ex acc = absurd ex
    by_exchange k z m (Some new) at is ex acc = accepts_ends k z m.setup2 new m.later m.last m.result is at ex acc

    meets_by : (k : AskedNow) (z : Awaited k) (last : R) (result : Result (SetUp I O) ClientFault) → ends ≡ step.Waiting → MeetsBy r i o k.port (Some z.seen) road' last result → SetUpEnds d r i o w net block next.0 known y desk' road last result
    meets_by k z last result is m = by_exchange k z (record { setup2 = m.setup; later = m.middle; last = last; result = result }) m.setup.link refl is m.flushes m.accepts

    meets_ends : (k : AskedNow) (z : Awaited k) (last : R) (result : Result (SetUp I O) ClientFault) → ends ≡ step.Waiting → Meets r i o k.port (Some z.seen) road' last result → SetUpEnds d r i o w net block next.0 known y desk' road last result
    meets_ends k z last (Ok left) is m = meets_by k z last (Ok left) is m
    meets_ends k z last (Err why) is (inl failed) = road_caused r i o (Some next.0) road road' last why (before_dial k z) failed
    meets_ends k z last (Err why) is (inr m) = meets_by k z last (Err why) is m

  -- WHAT IT LEAVES, OR WHY IT FAILED

  -- No request was sent.
  pub left_shows : (left : Pipe I O) → IsWanted known.phase → fits_in known.phase (is_some setup.link) ≡ true → Steps d r i o known y setup.link setup'.link desk desk' road road' setup'.lost ends → setup'.lost ≡ false → r.risen road' next.0 ≡ false → is_requested y.phase ≡ false
      → piped setup' ends ≡ Ok left → SetUpShows d r i o next known y setup desk desk' road road' (Ok (undialled y.phase (slice_get known.members 0) left))
  left_shows left ok fits steps lost risen off is = λ w net block stands can.
      let u : WantedIn known.phase = wanted_in known.phase ok in
      let unlinked = unlinked_by u.setup setup.link (subst (λ (p : Phase). fits_in p (is_some setup.link) ≡ true) u.is fits) in
      let no = never_by steps.acted steps.kept steps.reports (λ e. none_ok r i o fault.Memory left (sym (ap (piped setup') e) ∙ is)) in
      let g = begun u.setup steps.held steps.middle steps.acted u.is unlinked steps.acts no in
      let settles : SettlesTold r i o (keeps_link y.phase) steps.held steps.kept steps.middle road' false = subst (λ (q : Bool). SettlesTold r i o (keeps_link y.phase) steps.held steps.kept steps.middle road' q) lost steps.settles in
      not_sent w net block stands can u.setup u.is unlinked g.x g.asks steps.held steps.kept steps.middle steps.acted settles (reports_at r i o d steps.acted y steps.kept setup'.link ends no steps.reports) risen left off is g.gone

  -- Something came, though nothing was taken: the link failed.
  pub moved_shows : (last : R) (why : ClientFault) → IsWanted known.phase → fits_in known.phase (is_some setup.link) ≡ true → Steps d r i o known y setup.link setup'.link desk desk' road road' setup'.lost ends → setup'.lost ≡ false → r.risen road' next.0 ≡ false → is_requested y.phase ≡ true
      → ends ≡ step.Moved → GivesUpLink r i o setup'.link road' last why → SetUpShows d r i o next known y setup desk desk' road last (Err why)
  moved_shows last why ok fits steps lost risen on is gives = λ w net block stands can.
      let u : WantedIn known.phase = wanted_in known.phase ok in
      let unlinked = unlinked_by u.setup setup.link (subst (λ (p : Phase). fits_in p (is_some setup.link) ≡ true) u.is fits) in
      let no = never_by steps.acted steps.kept steps.reports (λ e. moved_memory i (sym is ∙ e)) in
      let g = begun u.setup steps.held steps.middle steps.acted u.is unlinked steps.acts no in
      let settles : SettlesTold r i o (keeps_link y.phase) steps.held steps.kept steps.middle road' false = subst (λ (q : Bool). SettlesTold r i o (keeps_link y.phase) steps.held steps.kept steps.middle road' q) lost steps.settles in
      let at = reports_at r i o d steps.acted y steps.kept setup'.link ends no steps.reports in
      let k = was_sent w net block stands can u.setup u.is unlinked g.x g.asks steps.held steps.kept steps.middle steps.acted settles at risen on g.gone in
      let z = awaited w net block stands can u.setup u.is unlinked g.x g.asks steps.held steps.kept steps.middle steps.acted settles at risen k in
      broken_ends w net block stands can u.setup u.is unlinked g.x g.asks steps.held steps.kept steps.middle steps.acted settles at risen k z last why is (subst (λ (l : Option (Link I O)). GivesUpLink r i o l road' last why) z.link_is gives)

  -- The dial was accepted, or wasn't.
  pub waiting_shows : (port : ℕ) (last : R) (result : Result (SetUp I O) ClientFault) → IsWanted known.phase → fits_in known.phase (is_some setup.link) ≡ true → Steps d r i o known y setup.link setup'.link desk desk' road road' setup'.lost ends → setup'.lost ≡ false → r.risen road' next.0 ≡ false
      → is_requested y.phase ≡ true → ends ≡ step.Waiting → port ≡ first_port y.members → Meets r i o port setup'.link road' last result → SetUpShows d r i o next known y setup desk desk' road last result
  waiting_shows port last result ok fits steps lost risen on is named meets = λ w net block stands can.
      let u : WantedIn known.phase = wanted_in known.phase ok in
      let unlinked = unlinked_by u.setup setup.link (subst (λ (p : Phase). fits_in p (is_some setup.link) ≡ true) u.is fits) in
      let no = never_by steps.acted steps.kept steps.reports (λ e. waiting_memory i (sym is ∙ e)) in
      let g = begun u.setup steps.held steps.middle steps.acted u.is unlinked steps.acts no in
      let settles : SettlesTold r i o (keeps_link y.phase) steps.held steps.kept steps.middle road' false = subst (λ (q : Bool). SettlesTold r i o (keeps_link y.phase) steps.held steps.kept steps.middle road' q) lost steps.settles in
      let at = reports_at r i o d steps.acted y steps.kept setup'.link ends no steps.reports in
      let k = was_sent w net block stands can u.setup u.is unlinked g.x g.asks steps.held steps.kept steps.middle steps.acted settles at risen on g.gone in
      let z = awaited w net block stands can u.setup u.is unlinked g.x g.asks steps.held steps.kept steps.middle steps.acted settles at risen k in
      let port_so = named ∙ port_now w net block stands can u.setup u.is unlinked g.x g.asks steps.held steps.kept steps.middle steps.acted settles at risen k in
      meets_ends w net block stands can u.setup u.is unlinked g.x g.asks steps.held steps.kept steps.middle steps.acted settles at risen k z last result is
      (subst (λ (l : Option (Link I O)). Meets r i o k.port l road' last result) z.link_is (subst (λ (n : ℕ). Meets r i o n setup'.link road' last result) port_so meets))

  pub set_up_memory : (last : R) (result : Result (SetUp I O) ClientFault) → result ≡ Err fault.Memory → SetUpShows d r i o next known y setup desk desk' road last result
  set_up_memory last result is = subst (λ (q : Result (SetUp I O) ClientFault). SetUpShows d r i o next known y setup desk desk' road last q) (sym is) (λ w net block stands can. tt)

  pub set_up_risen : r.risen road' next.0 ≡ true → SetUpShows d r i o next known y setup desk desk' road road' (Err fault.LinkFailed)
  set_up_risen h = λ w net block stands can. h
