-- The world after a writer that wants a pipeline was refused a stamp, or has asked its first member.
use Rattle.std.proofs.Common.{◌≡◌, ◌≢◌, ◌<◌, ◌≤◌, ◌+◌, ◌-◌, ◌==◌, inl, inr, ◌⊎◌, ℕ, Bool, true, false, if◌then◌else◌, List, [], ◌∷◌, ◌++◌, length, slice_get, is_err, Option, Some, None, IfSome, Result, Ok, Err, refl, sym, ap, ◌∙◌, subst, arith, eqb-true}
use Rattle.std.proofs.lemmas.Option.{same_Some}
use Rattle.std.proofs.lemmas.Bool.Decides.{nat_tests}
use Rattle.std.proofs.lemmas.List.{append-nil}
use Rattle.std.specs.Prelude.{cond, min, nat_le, ◌&&◌}
use Rattle.hd_base.specs.Channels.{Plain}
use Rattle.hd_base.specs.Ends.{IsObservable}
use Rattle.hd_base.specs.Faults.{FaultsIncreased}
use Rattle.hd_base.specs.declared.ends.Conn.{Conn}
use Rattle.hd_base.specs.declared.ends.RoadError.{RoadError}
use Rattle.hd_base.specs.declared.links.LinkError.{LinkError}
use Rattle.hd_base.specs.declared.links.LinkError.TheVariants as link_error
use Rattle.hd_base.specs.declared.links.LinkIn as link_in
use Rattle.hd_base.specs.declared.links.LinkOut as link_out
use Rattle.hd_base.specs.declared.numbers.BlockId.{BlockId}
use Rattle.hd_base.specs.declared.numbers.ConnId.{ConnId}
use Rattle.hd_base.specs.declared.numbers.NodeId.{NodeId}
use Rattle.hd_base.specs.declared.numbers.Stamp.{Stamp}
use Rattle.hd_base.specs.declared.roads.Roads as roads
use Rattle.hd_base.specs.declared.roads.TheConstants.{FIRST_PORT}
use Rattle.link_pieces.specs.Pieces.{SendsNothing, SendsPiece, IsSending}
use Rattle.link_pieces.specs.Roads.{KeepsInward, IsDialled, IsUnanswered, BringsEnd}
use Rattle.pipe_recovery.specs.MemberCore.TheConstants.{MAX_PORT}
use Rattle.name_core.specs.declared.desks.Desk as desks
use Rattle.name_core.specs.Offices.{answer_to}
use Rattle.op_headers.specs.declared.ops.Op.{Op}
use Rattle.op_headers.specs.Requests.{IsEncodable}
use Rattle.member_events.specs.PacketStream.Streams.{StreamState}
use Rattle.pipe_recovery.specs.declared.acting.Acted.{Acted}
use Rattle.pipe_recovery.specs.declared.acting.Acted.TheVariants as acted
use Rattle.pipe_recovery.specs.declared.links.Link.{Link}
use Rattle.pipe_recovery.specs.declared.rebuilding.Rebuild.{Rebuild}
use Rattle.pipe_recovery.specs.declared.rebuilding.RebuildStep.{RebuildStep}
use Rattle.pipe_recovery.specs.Dialling.{dial_port, HasNoWay, Dials}
use Rattle.pipe_recovery.specs.Exchanging.{Exchanges}
use Rattle.pipe_recovery.specs.Hearing.{nothing_heard}
use Rattle.pipe_recovery.specs.Reports.{Reports, ReportsAt}
use Rattle.pipe_recovery.specs.Steps.{is_stamped, keeps_link, GoesOn, SettlesTold}
use Rattle.road_traffic.proofs.CallLemmas.{sent-shows, quiet-shows, dialled-shows}
use Rattle.road_traffic.proofs.ShowingLemmas.{roads-accepted, roads-same}
use Rattle.road_traffic.proofs.TrafficLemmas.{same-itself}
use Rattle.road_traffic.specs.Laws.{Took}
use Rattle.road_traffic.specs.Showing.{Net, IsSane, EndIs, no_inbox, exchanged_net, dialled_net, accepted_net}
use Rattle.road_traffic.specs.Traffic.{Traffic}
use Rattle.member_events.specs.World.Caller.TheVariants as caller
use Rattle.member_events.specs.World.Event.{Event}
use Rattle.member_events.specs.World.Event.TheVariants as event
use Rattle.member_events.specs.World.Parts.{Message, request, Writing, Dialled, by_writer}
use Rattle.member_events.specs.World.Worlds.{World, Change, Dial, put, apply}
use Rattle.member_events.specs.World.Connections.{place_of}
use Rattle.member_events.specs.World.Clients.{writer_change, dialled_change, dialling, rest_in}
use Rattle.member_events.specs.World.Events.{outcome, happens}
use Rattle.member_events.specs.World.Primaries.{asks_writer}
use Rattle.member_events.specs.WorldNets.Nets.{IsNetOf, IsEndOf, held_by, is_over}
use Rattle.member_events.specs.WorldNets.Rows.{text_of}
use Rattle.member_events.specs.WorldNets.Dials.{DialsBy, IsAccepted, flushes_with, made_net}
use Rattle.member_events.specs.WorldNets.Flushing.{writer_dial}
use Rattle.member_events.proofs.WorldNets.DrawnLemmas.{asks-make}
use Rattle.member_events.proofs.WorldNets.DialLemmas.{dialled-net, sane-stays, ends-made}
use Rattle.member_events.proofs.WorldNets.EndLemmas.{same-end}
use Rattle.member_events.proofs.WorldNets.FlushingLemmas.{writer-sends}
use Rattle.member_events.proofs.WorldNets.StepLemmas.{changed-over, followed}
use Rattle.member_events.specs.WorldTexts.Texts.{SpellsText}
use Rattle.writer_core.specs.declared.actions.Action.TheVariants as action
use Rattle.writer_core.specs.declared.phases.Failure.{Failure}
use Rattle.writer_core.specs.declared.phases.Phase.{Phase}
use Rattle.writer_core.specs.declared.phases.Phase.TheVariants as phase
use Rattle.writer_core.specs.declared.phases.Setup.{Setup}
use Rattle.writer_core.specs.declared.records.WriterRecord.{WriterRecord}
use Rattle.writer_core.specs.Requests.{request_for}
use Rattle.writer_core.specs.Transitions.{Step, own_step, stamp_call, granted, dialled, ended}
use Rattle.member_events.proofs.CauseLaws.{out_failed, one_risen, still_risen}
use Rattle.member_events.proofs.DownEvents.{held_took}
use Rattle.member_events.proofs.EndLaws.{HeldAt, RoadsAt, Passed, end_from, end_passes}
use Rattle.member_events.proofs.JoinEnds.{spelled_few}
use Rattle.member_events.proofs.JoinWorld.{SentDown, sent_down}
use Rattle.member_events.proofs.MemberLaws.{never}
use Rattle.member_events.proofs.StepLaws.{last_of}
use Rattle.member_events.proofs.WorldLaws.{at_put, happened}
use Rattle.member_events.specs.Joining.{AcceptsDial}
use Rattle.client_events.specs.declared.pipes.Pipe.{Pipe}
use Rattle.client_events.specs.declared.pipes.Pipe.TheVariants as pipe
use Rattle.client_events.specs.Events.{own_event, asked_world}
use Rattle.client_events.specs.SettingUp.{is_requested, is_unreached, first_port, CanSetUp, SetUpLeft, FirstAsked, IsUnasked}
use Rattle.client_events.specs.Showing.{LinkShows, LinkStands, PipeShows, ClientStands}
use Rattle.client_events.proofs.ActLaws.{at_add}
use Rattle.client_events.proofs.AnswerEnds.{no_conn}
use Rattle.client_events.proofs.AnswerLaws.{end_leaves}
use Rattle.client_events.proofs.CommitEnds.{rest_moves, none_left, past_office}
use Rattle.client_events.proofs.CompleteLaws.{office_asked, OfficeAsked, put_to, PutTo}
use Rattle.client_events.proofs.SetUpLaws.{wanted_step, IsGiven, KeepsQueue, keeps_queue, dial_to, dial_none, asked_phase, first_request, Undialled, Unreached, HasDialled, dials_so, dials_none, StampAsked}

-- NUMBERS

at_end_of : (c n : ℕ) → c ≡ n → c < n + 1
at_end_of c n h = omega arith

from_end : (c n : ℕ) → c ≡ n → n ≤ c
from_end c n h = omega arith

first_waits : (port : ℕ) (l : List ℕ) (n : ℕ) → l ≡ [] → slice_get (cond (port == port) (l ++ n ∷ []) l) 0 ≡ Some n
first_waits port l n none = ap (λ (b : Bool). slice_get (cond b (l ++ n ∷ []) l) 0) (same-itself port) ∙ ap (λ (x : List ℕ). slice_get (x ++ n ∷ []) 0) none

none_first : (l : List ℕ) (n : ℕ) → l ≡ [] → slice_get l 0 ≡ Some n → ⊥
none_first [] n is h = cc
none_first (x ∷ xs) n is h = cc

-- the port that is dialled, and no other one
port_is : (first : NodeId) (port : ℕ) → dial_port first ≡ Some port → port ≡ FIRST_PORT + first.0
port_is first port h = by_test (nat_le (FIRST_PORT + first.0) 65535) h
  where
    by_test : (q : Bool) → (if q then Some (FIRST_PORT + first.0) else None) ≡ Some port → port ≡ FIRST_PORT + first.0
    by_test true e = sym (same_Some _ _ e)
    by_test false e = cc

has_port : (first : NodeId) → FIRST_PORT + first.0 ≤ MAX_PORT → dial_port first ≡ None → ⊥
has_port first few none =
    let test : nat_le (FIRST_PORT + first.0) 65535 ≡ true = grind (arith, nat_tests) in
    let some : Some (FIRST_PORT + first.0) ≡ None = subst (λ (q : Bool). (if q then Some (FIRST_PORT + first.0) else None) ≡ None) test none in cc

least_port : (n : ℕ) → n ≤ MAX_PORT → min n MAX_PORT ≡ n
least_port n few = omega arith

pub first_is : (members : List NodeId) (first : NodeId) (others : List NodeId) (port : ℕ) → members ≡ first ∷ others → FIRST_PORT + first.0 ≤ MAX_PORT → dial_port first ≡ Some port → first_port members ≡ port
first_is members first others port is few named = ap first_port is ∙ (least_port (FIRST_PORT + first.0) few ∙ sym (port_is first port named))

-- A request that is spelled as it is written may be written.
encodable_for : (block : BlockId) (committed : Stamp) (stream : StreamState) (kind : Setup) (stamp : Stamp) (n : ℕ) (targets : List NodeId) → SpellsText (request (request_for block committed stream kind stamp n targets)) → IsEncodable (request_for block committed stream kind stamp n targets)
unfolding request_for
encodable_for block committed stream kind stamp n targets h = record { within_limit = spelled_few _ h; step = tt }

-- WHERE THE WRITER IS

pub not_requested : (p : Phase) → is_unreached p ≡ true → is_requested p ≡ false
not_requested (phase.Wanted s) h = refl
not_requested (phase.Failed f) h = refl
not_requested (phase.Requested s stamp) h = cc
not_requested other h = refl

-- A writer that was refused a stamp, or that has no members.
abbrev pub LeftOut : WriterRecord → Type 0
LeftOut x = ((f : Failure) × (x.phase ≡ phase.Failed f)) ⊎ ((s : Setup) × ((stamp : Stamp) × ((x.phase ≡ phase.Stamped s stamp) × (x.members ≡ []))))

pub left_out_requested : (x : WriterRecord) → LeftOut x → is_requested x.phase ≡ false
left_out_requested x (inl f) = ap is_requested f.1
left_out_requested x (inr s) = ap is_requested s.1.1.0

module _ {R I O D : Type 0} (r : roads.Ghosts R I O) (i : link_in.Ghosts I) (o : link_out.Ghosts O) (d : desks.Ghosts D) where
  -- The first member was dialled.
  pub record DialledSo (x y : WriterRecord) (held : Option (Link I O)) (road road' : R) (does : Acted) : Type 0 where
    pub setup : Setup
    pub stamp : Stamp
    pub first : NodeId
    pub others : List NodeId
    pub phase_is : x.phase ≡ phase.Stamped setup stamp
    pub members : x.members ≡ first ∷ others
    pub how : HasDialled r i o d first (first_request x setup stamp others) x y held road road' does

  abbrev pub GoneOn : WriterRecord → WriterRecord → Option (Link I O) → R → R → Acted → Type 0
  GoneOn x y held road road' does = (LeftOut x × Undialled r i o d x y held road road') ⊎ DialledSo x y held road road' does

  by_members : (s : Setup) (stamp : Stamp) (members : List NodeId) (x y : WriterRecord) (held : Option (Link I O)) (road road' : R) (does : Acted) → x.phase ≡ phase.Stamped s stamp → x.members ≡ members → (does ≡ acted.Memory → ⊥)
      → Dials r i o (own_step x) x y None held road road' does → GoneOn x y held road road' does
  by_members s stamp [] x y held road road' does h is never k = inl (inr (s, (stamp, (h, is))), dials_none r i o d s stamp x y held road road' does h is never k)
  by_members s stamp (first ∷ others) x y held road road' does h is never k =
      inr (record { setup = s; stamp = stamp; first = first; others = others; phase_is = h; members = is; how = dials_so r i o d s stamp first others x y held road road' does h is never k })

  pub goes_by : (p : Phase) (x y : WriterRecord) (held : Option (Link I O)) (road road' : R) (first does : Acted) → x.phase ≡ p → IsGiven p → (does ≡ acted.Memory → ⊥) → GoesOn r i o (is_stamped p) x y None held road road' first does → GoneOn x y held road road' does
  goes_by (phase.Failed f) x y held road road' first does h ok never g = inl (inl (f, h), record { same = g.0; none = g.1; roads_same = g.2 })
  goes_by (phase.Stamped s stamp) x y held road road' first does h ok never g = by_members s stamp x.members x y held road road' does h refl never g
  goes_by other x y held road road' first does h ok never g = absurd ok

  -- where there is no connection to settle
  pub settle_none : (keeps : Bool) (held kept : Option (Link I O)) (road road' : R) → held ≡ None → SettlesTold r i o keeps held kept road road' false → (kept ≡ None) × (road' ≡ road)
  settle_none true held kept road road' none s = let t = subst (λ (l : Option (Link I O)). SettlesTold r i o true l kept road road' false) none s in (t.settles.0, t.settles.1)
  settle_none false held kept road road' none s = let t = subst (λ (l : Option (Link I O)). SettlesTold r i o false l kept road road' false) none s in (t.settles.0, t.settles.1)

  pub reports_at : (does : Acted) (y : WriterRecord) (kept link' : Option (Link I O)) (ends : RebuildStep I O) → (does ≡ acted.Memory → ⊥) → Reports i does y kept link' ends → ReportsAt i y.phase y kept link' ends
  reports_at acted.Moved y kept link' ends some h = h
  reports_at acted.Idle y kept link' ends some h = h
  reports_at acted.Memory y kept link' ends none h = absurd (none refl)

  -- A link that failed when the request was sent is one whose count had risen.
  pub lost_risen : (net : Net) (port : ℕ) (x y : WriterRecord) (fresh : Conn I O) (link : Link I O) (half : O) (text : List ℕ) (why : LinkError) (kept : Option (Link I O)) (s : Setup) (stamp : Stamp) (road middle road' : R) → RoadsAt r net road → IsDialled r i o port road middle fresh → KeepsInward fresh link.end
      → IsSending o text half link.end.outward (Err why) → y ≡ ended (dialled x true) → x.phase ≡ phase.Stamped s stamp → x.members ≢ [] → SettlesTold r i o (keeps_link y.phase) (Some link) kept middle road' false → r.risen road' net.conns ≡ true
  lost_risen net port x y fresh link half text link_error.Failed kept s stamp road middle road' at dials keeps sent is h some settles =
      let z : WriterRecord = record x { phase = phase.Requested s stamp } in
      let off : keeps_link y.phase ≡ false = ap (λ (q : WriterRecord). keeps_link q.phase) (is ∙ ap ended (asked_phase x s stamp h)) ∙ end_leaves z refl some in
      let t : SettlesTold r i o false (Some link) kept middle road' false = subst (λ (q : Bool). SettlesTold r i o q (Some link) kept middle road' false) off settles in
      let g = t.settles.1 in
      let brings : BringsEnd r i o g.shut middle road' (Ok tt) = subst (λ (q : Result (Unit {0}) RoadError). BringsEnd r i o g.shut middle road' q) (ok_result g.result t.told) g.brings in
      let rose : FaultsIncreased (o.faults half) (o.faults g.shut.outward) = still_risen (o.faults half) (o.faults link.end.outward) (o.faults g.shut.outward) sent.rose g.never_falls in
      let number : g.shut.id.0 ≡ net.conns = ap (λ (n : ConnId). n.0) (g.kept.id ∙ keeps.id) ∙ (dialled-shows r i o port road middle fresh dials net at.sane at.shows).number in
      subst (λ (n : ℕ). r.risen road' n ≡ true) number (one_risen r i o g.shut middle road' brings (out_failed i o (o.faults half) g.shut rose))
    where
      ok_result : (res : Result (Unit {0}) RoadError) → false ≡ is_err res → res ≡ Ok tt
      ok_result (Ok u) q = refl
      ok_result (Err e) q = cc
  lost_risen net port x y fresh link half text link_error.Memory kept s stamp road middle road' at dials keeps sent is h some settles = absurd sent

-- THE WORLD AFTER IT

sane_dialled : (net : Net) (port : ℕ) → IsSane net → IsSane (dialled_net net port)
sane_dialled net port s = record { fits = s.fits; fresh = λ c d h. s.fresh c d (omega (arith, h)) }

put_own : {A : Type 0} (f : ℕ → A) (n j : ℕ) → put f n (f n) j ≡ f j
put_own f n j = by_test (j == n) refl
  where
    by_test : (q : Bool) → (j == n) ≡ q → (if q then f n else f j) ≡ f j
    by_test true e = ap f (sym (eqb-true j n e))
    by_test false e = refl

asked_lowers : (w : World) (b : ℕ) (x : WriterRecord) (s : Setup) (n : ℕ) → (apply w (asks_writer w b (stamp_call x s))).lowers n ≡ w.lowers n
unfolding apply
asked_lowers w b x s n = put_own w.lowers 0 n

dialled_lowers : (w : World) (b : ℕ) (x : WriterRecord) (to : NodeId) (op : Op) (n : ℕ) → (apply w (dialled_change w b x to op true)).lowers n ≡ w.lowers n
unfolding apply
dialled_lowers w b x to op n = put_own w.lowers 0 n

-- the writer, the office and the answers once the first member was dialled
record DialledTo (w : World) (b : ℕ) (x : WriterRecord) (to : NodeId) (op : Op) : Type 0 where
  writer : (apply w (dialled_change w b x to op true)).writers b ≡ record { known = dialled x true; conn = Some w.next_conn; told = None }
  office : (apply w (dialled_change w b x to op true)).office ≡ w.office
  said : (apply w (dialled_change w b x to op true)).said b ≡ w.said b ++ []

dialled_to : (w : World) (b : ℕ) (x : WriterRecord) (to : NodeId) (op : Op) → DialledTo w b x to op
unfolding apply
dialled_to w b x to op = record {
  writer = at_put w.writers b (record { known = dialled x true; conn = Some w.next_conn; told = None });
  office = refl;
  said = at_add w.said b [];
}

-- the connection that was dialled
self_le : (n : ℕ) → nat_le n n ≡ true
self_le n = grind (arith, nat_tests)

self_minus : (n : ℕ) → n - n ≡ 0
self_minus n = omega arith

dialled_new : (w : World) (b : ℕ) (x : WriterRecord) (to : NodeId) (op : Op) → (apply w (dialled_change w b x to op true)).dialled w.next_conn ≡ record { upper = by_writer b; from = None; to = place_of w to.0 }
unfolding apply
dialled_new w b x to op = rw (self_le w.next_conn, self_minus w.next_conn) refl

dialled_members : (x : WriterRecord) (s : Setup) (stamp : Stamp) → x.phase ≡ phase.Stamped s stamp → (dialled x true).members ≡ x.members
dialled_members x s stamp h = ap (λ (y : WriterRecord). y.members) (asked_phase x s stamp h)

module _ {R I O D : Type 0} (r : roads.Ghosts R I O) (i : link_in.Ghosts I) (o : link_out.Ghosts O) (d : desks.Ghosts D) (w : World) (net : Net) (block : BlockId) (setup : Rebuild I O) (known x : WriterRecord) (desk desk' : D) (road : R)
    (stands : ClientStands r i o w net block.0 w.office known (pipe.SettingUp setup) road) (next : ConnId) (can : CanSetUp d w block next known desk) (first_setup : Setup) (wants : known.phase ≡ phase.Wanted first_setup)
    (a : StampAsked r i o d (stamp_call known first_setup) known x desk desk') (unlinked : setup.link ≡ None) where
  abbrev pub told_world : World
  told_world = happens w (event.Office (caller.Writer block))

  abbrev pub answered_world : World
  answered_world = asked_world w block true

  asked : (answered : Bool) → OfficeAsked w told_world block (stamp_call known first_setup) (granted known (answer_to w.office (stamp_call known first_setup))) answered
  asked answered = office_asked w block (stamp_call known first_setup) known answered stands.writer stands.told (ap (λ (q : Step). q.action) (wanted_step known first_setup wants))

  put_in : PutTo d w.office (stamp_call known first_setup) known x desk'
  put_in = put_to d w.office (stamp_call known first_setup) known x desk desk' can.office a.puts

  queue : KeepsQueue known x
  queue = subst (λ (q : WriterRecord). KeepsQueue known q) (sym a.puts.writer) (keeps_queue known first_setup a.puts.answer wants)

  same_conn : (told_world.writers block.0).conn ≡ (w.writers block.0).conn
  same_conn = ap (λ (q : Writing). q.conn) (asked true).at.writer

  none : (told_world.writers block.0).conn ≡ None
  none = same_conn ∙ subst (λ (l : Option (Link I O)). LinkShows i o w net (w.writers block.0).conn l) unlinked stands.pipe_is

  net_told : IsNetOf told_world net
  net_told = (asked true).stay.nets net stands.roads_are.is_net

  next_told : told_world.next_conn ≡ w.next_conn
  next_told = sym net_told.conns ∙ stands.roads_are.is_net.conns

  runs_told : (n : ℕ) → told_world.running n ≡ w.running n
  runs_told n = sym (net_told.listens n) ∙ stands.roads_are.is_net.listens n

  told_lowers : (n : ℕ) → told_world.lowers n ≡ w.lowers n
  told_lowers n =
      let e : Event = event.Office (caller.Writer block) in
      let k : Change = asks_writer w block.0 (stamp_call known first_setup) in
      let does : (own_step (w.writers block.0).known).action ≡ action.Ask (stamp_call known first_setup) = subst (λ (q : WriterRecord). (own_step q).action ≡ action.Ask (stamp_call known first_setup)) stands.writer (ap (λ (q : Step). q.action) (wanted_step known first_setup wants)) in
      ap (λ (u : World). u.lowers n) (happened w (apply w k) e (asks-make w block (stamp_call known first_setup) stands.told does)) ∙ asked_lowers w block.0 known first_setup n

  roads_here : RoadsAt r net road
  roads_here = record { sane = stands.roads_are.sane; shows = stands.roads_are.shows }

  goes : (answered : Bool) (k : Change) → rest_in x.phase told_world block.0 x answered ≡ Some k → outcome told_world (own_event block None answered) ≡ Some (apply told_world k)
  goes answered k is = (asked answered).goes k (subst (λ (q : WriterRecord). rest_in q.phase told_world block.0 q answered ≡ Some k) put_in.writer is)

  -- WHERE NO MEMBER IS DIALLED

  rest_same : LeftOut x → (answered : Bool) → rest_in x.phase told_world block.0 x answered ≡ Some (writer_change told_world block.0 x)
  rest_same (inl f) answered = ap (λ (p : Phase). rest_in p told_world block.0 x answered) f.1
  rest_same (inr s) answered =
      ap (λ (p : Phase). rest_in p told_world block.0 x answered) s.1.1.0 ∙ ap (λ (q : Step). Some (dialling told_world block.0 x q.action answered)) (dial_none x s.0 s.1.0 s.1.1.1)

  -- The writer comes into this state after the office's answer, and nothing is dialled.
  rest_left : (y : WriterRecord) (left : Pipe I O) (road' : R) → RoadsAt r net road' → ((z : World) (made : Net) (conn : Option ℕ) → conn ≡ None → PipeShows i o z made conn left) → (answered : Bool) → rest_in x.phase told_world block.0 x answered ≡ Some (writer_change told_world block.0 y)
      → SetUpLeft d r i o w net (asked_world w block answered) block.0 y desk' left road'
  rest_left y left road' at shows answered comes =
      let b : ℕ = block.0 in
      let v : World = asked_world w block answered in
      let rest = rest_moves told_world b x y answered comes in
      let goes_on = goes answered rest.change rest.is in
      let is_v = happened told_world (apply told_world rest.change) (own_event block None answered) goes_on in
      record {
        office = put_in.office ∙ ap Some (sym (asked answered).at.office ∙ (sym rest.office ∙ sym (ap (λ (u : World). u.office) is_v)));
        said = ap (λ (u : World). u.said b) is_v ∙ (rest.said_is ∙ (append-nil (told_world.said b) ∙ (asked answered).at.said));
        shows = past_office r i o w told_world net v b v.office y left road' (asked answered).stay same_conn
            (no_conn r i o told_world net v b v.office y left road' shows (none_left r i o told_world net block answered x y None rest goes_on net_told road' at none));
      }

  pub undialled_left : LeftOut x → (left : Pipe I O) → ((z : World) (made : Net) (conn : Option ℕ) → conn ≡ None → PipeShows i o z made conn left) → (answered : Bool) → SetUpLeft d r i o w net (asked_world w block answered) block.0 x desk' left road
  undialled_left out left shows answered = rest_left x left road roads_here shows answered (rest_same out answered)

  -- WHERE THE FIRST MEMBER IS DIALLED

  module _ (s : Setup) (stamp : Stamp) (first : NodeId) (others : List NodeId) (h : x.phase ≡ phase.Stamped s stamp) (members : x.members ≡ first ∷ others) where
    abbrev pub op : Op
    op = first_request x s stamp others

    abbrev pub on_text : List ℕ
    on_text = text_of (request op)

    abbrev pub dial_change : Change
    dial_change = dialled_change told_world block.0 x first op true

    abbrev pub dial : Dial
    dial = writer_dial told_world block.0 first op

    few : FIRST_PORT + first.0 ≤ MAX_PORT
    few = subst (λ (ms : List NodeId). IfSome (slice_get ms 0) (λ n. FIRST_PORT + n.0 ≤ MAX_PORT)) (sym queue.members ∙ members) can.has_port

    by : DialsBy told_world dial_change dial []
    by = (writer-sends told_world block.0 x).dials first op

    -- what the writer does once it has its stamp, as its dial is answered or isn't
    rest_dials : (answered q : Bool) → (answered && w.running first.0) ≡ q → rest_in x.phase told_world block.0 x answered ≡ Some (dialled_change told_world block.0 x first op q)
    rest_dials answered q is =
        ap (λ (p : Phase). rest_in p told_world block.0 x answered) h
        ∙ (ap (λ (k : Step). Some (dialling told_world block.0 x k.action answered)) (dial_to x s stamp first others members)
        ∙ ap (λ (b : Bool). Some (dialled_change told_world block.0 x first op b)) (ap (λ (b : Bool). answered && b) (runs_told first.0) ∙ is))

    out : w.running first.0 ≡ true → outcome told_world (own_event block None true) ≡ Some (apply told_world dial_change)
    out on = goes true dial_change (rest_dials true true on)

    spelled_first : w.running first.0 ≡ true → SpellsText (request op)
    spelled_first on =
        let v : World = answered_world in
        let sd : SentDown v told_world.next_conn (request op) = sent_down told_world told_world dial_change dial (own_event block None true) by.once (out on) in
        let downs : v.downs next.0 ≡ sd.earlier ++ request op ∷ [] = subst (λ (n : ℕ). v.downs n ≡ sd.earlier ++ request op ∷ []) (next_told ∙ sym can.next_is) sd.downs in
        can.spelled (length sd.earlier) (request op) (ap (λ (ms : List Message). slice_get ms (length sd.earlier)) downs ∙ last_of sd.earlier (request op))

    -- Somebody listens on a node's port where the node runs.
    pub runs_if : (port : ℕ) → dial_port first ≡ Some port → (b : Bool) → IfSome (r.plain road) (λ p. p.listening port ≡ b) → w.running first.0 ≡ b
    runs_if port is b heard =
        let shows = stands.roads_are.shows in
        let here : shows.plain.listening port ≡ b = subst (λ (y : Option Plain). IfSome y (λ p. p.listening port ≡ b)) shows.is heard in
        sym (shows.holds.listening port ∙ (ap net.listens (port_is first port is) ∙ stands.roads_are.is_net.listens first.0)) ∙ here

    -- There is a way to a node that runs.
    stopped_by : (b : Bool) → w.running first.0 ≡ b → HasNoWay first op → w.running first.0 ≡ false
    stopped_by false is no_way = is
    stopped_by true is (inl no_text) = absurd (no_text (encodable_for x.block x.committed x.stream s stamp (length x.members) others (spelled_first is)))
    stopped_by true is (inr no_port) = absurd (has_port first few no_port)

    -- A dial that wasn't answered is that of a node that doesn't run, or the roads' count rose.
    pub unasked : (y : WriterRecord) (held : Option (Link I O)) (middle : R) → Unreached r i o d first op x y held road middle → IsUnasked r w first road middle
    unasked y held middle u = by_cause u.cause
      where
        by_listening : (port : ℕ) → dial_port first ≡ Some port → IfSome (r.plain road) (λ p. p.listening port ≡ false) ⊎ FaultsIncreased (r.faults road) (r.faults middle) → IsUnasked r w first road middle
        by_listening port is (inl heard) = inl (runs_if port is false heard)
        by_listening port is (inr rose) = inr rose

        by_cause : HasNoWay first op ⊎ ((port : ℕ) × ((dial_port first ≡ Some port) × IsUnanswered r port road middle)) → IsUnasked r w first road middle
        by_cause (inl no_way) = inl (stopped_by (w.running first.0) refl no_way)
        by_cause (inr q) = by_listening q.0 q.1.0 q.1.1.cause

    -- What is left then, in each world in which the dial isn't answered.
    pub unreached_left : (y : WriterRecord) (held : Option (Link I O)) (middle : R) (left : Pipe I O) → Unreached r i o d first op x y held road middle → ((z : World) (made : Net) (conn : Option ℕ) → conn ≡ None → PipeShows i o z made conn left) → (answered : Bool) → (answered && w.running first.0) ≡ false
        → SetUpLeft d r i o w net (asked_world w block answered) block.0 y desk' left middle
    unreached_left y held middle left u shows answered off =
        let at : RoadsAt r net middle = record { sane = roads_here.sane; shows = roads-same r i o net road middle roads_here.shows u.kept.plain u.kept.carried } in
        subst (λ (z : WriterRecord). SetUpLeft d r i o w net (asked_world w block answered) block.0 z desk' left middle) (sym u.writer)
        (rest_left (dialled x false) left middle at shows answered (rest_dials answered false off))

    module _ (port : ℕ) (fresh : Conn I O) (half : O) (link held new : Link I O) (middle later : R) where
      -- The first member was asked, nothing came, and the end was exchanged.
      pub record FirstReached : Type 0 where
        pub runs : w.running first.0 ≡ true
        pub dials : IsDialled r i o port road middle fresh
        pub kept : KeepsInward fresh link.end
        pub room : SendsNothing o fresh.outward half
        pub sent : SendsPiece o on_text half link.end.outward
        pub took : Took i no_inbox link.end held.end
        pub heard : held.heard ≡ nothing_heard
        pub exchanged : Exchanges r i o None held new middle later (Ok tt)

      abbrev dialled_at : Net
      dialled_at = dialled_net net port

      last : told_world.next_conn ≡ net.conns
      last = sym net_told.conns

      first_held : FirstReached → HeldAt i o dialled_at false (on_text ∷ []) no_inbox told_world.next_conn false link.end
      first_held f =
          let shown = dialled-shows r i o port road middle fresh f.dials net roads_here.sane roads_here.shows in
          let mid : Conn I O = record fresh { outward = half } in
          let same : KeepsInward fresh mid = record { id = refl; lower = refl; inward = refl } in
          let kept : KeepsInward mid link.end = record { id = f.kept.id; lower = f.kept.lower; inward = f.kept.inward } in
          let quiet : EndIs i o net.traffic false [] no_inbox mid = quiet-shows i o net.traffic false [] no_inbox fresh mid same f.room shown.both.end_is in
          record {
            id = ap (λ (n : ConnId). n.0) f.kept.id ∙ (shown.number ∙ sym last);
            side = f.kept.lower ∙ shown.upper;
            within = at_end_of told_world.next_conn net.conns last;
            is = sent-shows i o net.traffic [] no_inbox on_text mid link.end kept f.sent quiet;
            taking = ap (λ (t : Traffic). t.over) (roads_here.sane.fresh told_world.next_conn false (from_end told_world.next_conn net.conns last));
          }

      passed : FirstReached → Passed r i o dialled_at false false (on_text ∷ []) no_inbox told_world.next_conn false later new.end
      passed f =
          let shown = dialled-shows r i o port road middle fresh f.dials net roads_here.sane roads_here.shows in
          let at : RoadsAt r dialled_at middle = record { sane = sane_dialled net port roads_here.sane; shows = shown.both.road_shows } in
          let now = held_took i o dialled_at false (on_text ∷ []) no_inbox no_inbox told_world.next_conn false link.end held.end f.took (first_held f) in
          end_passes r i o dialled_at false false (on_text ∷ []) no_inbox told_world.next_conn false middle later held.end new.end at now (λ z. never z) f.exchanged.end

      first_waiting : (f : FirstReached) → slice_get ((passed f).roads_at.shows.plain.waiting port) 0 ≡ Some net.conns
      first_waiting f = ap (λ (l : List ℕ). slice_get l 0) ((passed f).roads_at.shows.holds.waiting port) ∙ first_waits port (net.waiting port) net.conns (net_told.waiting port)

      pub dial_waits : FirstReached → IfSome (r.plain later) (λ p. p.waiting port ≡ []) → ⊥
      dial_waits f empty =
          let there = passed f in
          let nobody : there.roads_at.shows.plain.waiting port ≡ [] = subst (λ (y : Option Plain). IfSome y (λ p. p.waiting port ≡ [])) there.roads_at.shows.is empty in
          none_first (there.roads_at.shows.plain.waiting port) net.conns nobody (first_waiting f)

      -- The writer, its connection and the lower end of that show the world after the events.
      pub first_left : (f : FirstReached) (y : WriterRecord) (setup' : Rebuild I O) (at_end : Conn I O) (road' : R) → y ≡ dialled x true → setup'.link ≡ Some new → AcceptsDial r i o port later road' at_end
          → FirstAsked d r i o w net answered_world block.0 next.0 y desk' (pipe.SettingUp setup') road' at_end
      first_left f y setup' at_end road' is_y link_is acc =
          let b : ℕ = block.0 in
          let v : World = answered_world in
          let n : ℕ = told_world.next_conn in
          let e : Event = own_event block None true in
          let follows = followed told_world (apply told_world dial_change) e (out f.runs) in
          let is_v = happened told_world (apply told_world dial_change) e (out f.runs) in
          let to = dialled_to told_world b x first op in
          let own : v.writers b ≡ record { known = dialled x true; conn = Some n; told = None } = ap (λ (u : World). u.writers b) is_v ∙ to.writer in
          let p = passed f in
          let all : Net = exchanged_net dialled_at n false false false (on_text ∷ []) in
          let made : Net = made_net net port (flushes_with told_world [] dial) in
          let ends = ends-made r i o told_world net dial_change dial port [] net_told roads_here.sane by in
          let waiting : slice_get (p.roads_at.shows.plain.waiting port) 0 ≡ Some at_end.id.0 = subst (λ (q : Option Plain). IfSome q (λ z. slice_get (z.waiting port) 0 ≡ Some at_end.id.0)) p.roads_at.shows.is acc.number in
          let accepted : IsAccepted i o n at_end = record {
            number = same_Some at_end.id.0 net.conns (sym waiting ∙ first_waiting f) ∙ sym last;
            lower = acc.lower;
            fresh = acc.fresh;
            observable = subst (λ (q : Option Plain). IfSome q (λ _. IsObservable i o at_end)) p.roads_at.shows.is acc.observable;
          } in
          let over : is_over v n false ≡ false = follows.over n false ∙ (changed-over told_world dial_change n false ∙ net_told.none_over n false (from_end n n refl)) in
          let held_now : HeldAt i o (accepted_net all port) false [] (held_by false) n false new.end = record { id = p.held.id; side = p.held.side; within = p.held.within; is = p.held.is; taking = p.held.taking } in
          let end_now : IsEndOf i o v made n false new.end = end_from i o v made n false false new.end over held_now in
          let pipe_now : LinkStands i o v made (v.writers b).conn new = record {
            conn_is = ap (λ (q : Writing). q.conn) own ∙ ap Some (sym p.held.id);
            end_is = subst (λ (m : ℕ). IsEndOf i o v made m false new.end) (sym p.held.id) end_now;
            heard = f.exchanged.heard ∙ f.heard;
          } in
          let to_next : n ≡ next.0 = next_told ∙ sym can.next_is in
          record {
            is_left = record {
              office = put_in.office ∙ ap Some (sym (asked true).at.office ∙ (sym to.office ∙ sym (ap (λ (u : World). u.office) is_v)));
              said = ap (λ (u : World). u.said b) is_v ∙ (to.said ∙ (append-nil (told_world.said b) ∙ (asked true).at.said));
              shows = record {
                made = made;
                stands = record {
                  roads_are = record {
                    is_net = follows.nets made (dialled-net told_world net dial_change dial port [] net_told by);
                    sane = (sane-stays net (flushes_with told_world [] dial) roads_here.sane).made port (at_end_of n net.conns last, tt);
                    shows = roads-accepted r i o all later road' port p.roads_at.shows acc.plain acc.carried;
                  };
                  writer = is_y ∙ sym (ap (λ (q : Writing). q.known) own);
                  told = ap (λ (q : Writing). q.told) own;
                  pipe_is = subst (λ (l : Option (Link I O)). LinkShows i o v made (v.writers b).conn l) (sym link_is) pipe_now;
                  office_is = refl;
                };
                others = λ c l at_c none_of q.
                    same-end r i o (apply told_world dial_change) v made c l at_c (follows.over c l) (ends.others c l at_c tt (same-end r i o w told_world net c l at_c ((asked true).stay.over c l) q));
              };
            };
            end_is = subst (λ (m : ℕ). IsEndOf i o v made m true at_end) to_next (same-end r i o (apply told_world dial_change) v made n true at_end (follows.over n true) (ends.lower at_end accepted));
            lower_same = ap (λ (u : World). u.lowers next.0) is_v ∙ (dialled_lowers told_world b x first op next.0 ∙ told_lowers next.0);
            upper = ap (λ (m : ℕ). (v.dialled m).upper) (sym to_next) ∙ (ap (λ (u : World). (u.dialled n).upper) is_v ∙ ap (λ (q : Dialled). q.upper) (dialled_new told_world b x first op));
            member = first;
            first = ap (λ (q : WriterRecord). slice_get q.members 0) is_y ∙ ap (λ (ms : List NodeId). slice_get ms 0) (dialled_members x s stamp h ∙ members);
            node = ap (λ (m : ℕ). (v.dialled m).to.node) (sym to_next) ∙ (ap (λ (u : World). (u.dialled n).to.node) is_v ∙ ap (λ (q : Dialled). q.to.node) (dialled_new told_world b x first op));
          }
