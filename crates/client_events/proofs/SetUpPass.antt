-- Roads know the connections that they knew, and their count of faults never falls, whatever the setup of a pipeline does; and what it leaves is known.
use Rattle.std.proofs.Common.{◌≡◌, ◌<◌, ◌≤◌, ◌+◌, inl, inr, ℕ, Bool, true, false, List, Option, Some, None, IfSome, MatchOption, option_map, Ok, refl, sym, subst, arith}
use Rattle.hd_base.specs.Channels.{Plain, with_dial, with_accept}
use Rattle.hd_base.specs.Ends.{IsKnown}
use Rattle.hd_base.specs.declared.ends.Conn.{Conn}
use Rattle.hd_base.specs.declared.links.LinkIn as link_in
use Rattle.hd_base.specs.declared.links.LinkOut as link_out
use Rattle.hd_base.specs.declared.numbers.NodeId.{NodeId}
use Rattle.hd_base.specs.declared.roads.Roads as roads
use Rattle.link_pieces.specs.Roads.{IsDialled}
use Rattle.name_core.specs.declared.desks.Desk as desks
use Rattle.op_headers.specs.declared.ops.Op.{Op}
use Rattle.op_headers.specs.Requests.{op_text}
use Rattle.pipe_recovery.specs.declared.acting.Acted.{Acted}
use Rattle.pipe_recovery.specs.declared.acting.Acted.TheVariants as acted
use Rattle.pipe_recovery.specs.declared.dialling.Opened.{Opened}
use Rattle.pipe_recovery.specs.declared.dialling.Opened.TheVariants as opened
use Rattle.pipe_recovery.specs.declared.links.Link.{Link}
use Rattle.pipe_recovery.specs.declared.rebuilding.Rebuild.{Rebuild}
use Rattle.pipe_recovery.specs.declared.rebuilding.RebuildStep.{RebuildStep}
use Rattle.pipe_recovery.specs.Dialling.{LinkIsKnown, SendsTo, Sends, OpensAs, Opens, FollowsDial, ReachesPort, Reaches, no_memory, no_way, dials, DialsBy, Dials, Unreached}
use Rattle.pipe_recovery.specs.Steps.{is_stamped, keeps_link, GoesOn, AsksAndDials, Acts, Steps}
use Rattle.writer_core.specs.declared.actions.Action.{Action}
use Rattle.writer_core.specs.declared.actions.Action.TheVariants as action
use Rattle.writer_core.specs.declared.phases.Phase.{Phase}
use Rattle.writer_core.specs.declared.phases.Phase.TheVariants as phase
use Rattle.writer_core.specs.declared.records.WriterRecord.{WriterRecord}
use Rattle.writer_core.specs.Transitions as writer
use Rattle.member_events.specs.Roads.{RoadsPass}
use Rattle.member_events.proofs.PassLaws.{accept_knows}
use Rattle.member_events.proofs.SetupKnown.{pass_kept, pass_on}
use Rattle.client_events.specs.declared.pipes.Pipe.{Pipe}
use Rattle.client_events.specs.Answering.{piped}
use Rattle.client_events.specs.SettingUp.{IsWanted, undialled, SetUpIsKnown}
use Rattle.client_events.proofs.PassLaws.{LinkPasses, stays, passes_on, kept_id, settles_on, by_ends}

-- ROADS

pub first_known : {I O : Type 0} (p : Option Plain) (found : Option (Conn I O)) (e : Conn I O) → found ≡ Some e → IfSome found (λ c. IsKnown p c.id.0) → IsKnown p e.id.0
first_known {I} {O} p found e is h = subst (λ (o : Option (Conn I O)). IfSome o (λ c. IsKnown p c.id.0)) is h

one_more : (c n : ℕ) → c < n → c < n + 1
one_more c n h = omega (arith, h)

itself_less : (n : ℕ) → n < n + 1
itself_less n = omega arith

dialled_known : (p : Option Plain) (port c : ℕ) → IsKnown p c → IsKnown (option_map (λ q. with_dial q port) p) c
dialled_known None port c h = tt
dialled_known (Some p) port c h = one_more c p.dialled h

new_known : (p : Option Plain) (port c : ℕ) → IfSome p (λ q. c ≡ q.dialled) → IsKnown (option_map (λ q. with_dial q port) p) c
new_known None port c h = tt
new_known (Some p) port c h = subst (λ (n : ℕ). n < p.dialled + 1) (sym h) (itself_less p.dialled)

module _ {R I O : Type 0} (r : roads.Ghosts R I O) (i : link_in.Ghosts I) (o : link_out.Ghosts O) where
  pub pass_plain : (road road' : R) → r.plain road' ≡ r.plain road → r.faults road ≤ r.faults road' → RoadsPass r road road'
  pass_plain road road' is less = record { knows = λ c h. subst (λ (p : Option Plain). IsKnown p c) (sym is) h; never_falls = less }

  pub pass_accepted : (port : ℕ) (road road' : R) (found : Option (Conn I O)) → MatchOption found (r.plain road' ≡ r.plain road) (λ _. r.plain road' ≡ option_map (λ p. with_accept p port) (r.plain road)) → r.faults road ≤ r.faults road' → RoadsPass r road road'
  pass_accepted port road road' None is less = pass_plain road road' is less
  pass_accepted port road road' (Some e) is less = record { knows = λ c h. accept_knows r i o port c road road' is h; never_falls = less }

  pub link_stays : (link : Option (Link I O)) (road road' : R) → RoadsPass r road road' → LinkIsKnown (r.plain road) link → LinkIsKnown (r.plain road') link
  link_stays None road road' p h = tt
  link_stays (Some l) road road' p h = p.knows l.end.id.0 h

  pass_dialled : (port : ℕ) (road road' : R) (e : Conn I O) → IsDialled r i o port road road' e → RoadsPass r road road'
  pass_dialled port road road' e k = record {
    knows = λ c h. subst (λ (p : Option Plain). IsKnown p c) (sym k.plain) (dialled_known (r.plain road) port c h);
    never_falls = k.never_falls;
  }

  knows_new : (port : ℕ) (road road' : R) (e : Conn I O) → IsDialled r i o port road road' e → IsKnown (r.plain road') e.id.0
  knows_new port road road' e k = subst (λ (p : Option Plain). IsKnown p e.id.0) (sym k.plain) (new_known (r.plain road) port e.id.0 k.number)

  opens_so : (port : ℕ) (link' : Option (Link I O)) (road road' : R) (how : Opened) → OpensAs r i o port link' road road' how → LinkPasses r i o None link' road road'
  opens_so port link' road road' opened.Answered x = record {
    pass = pass_dialled port road road' x.end x.dialled;
    known = λ h. subst (λ (l : Option (Link I O)). LinkIsKnown (r.plain road') l) (sym x.is) (knows_new port road road' x.end x.dialled);
  }
  opens_so port link' road road' opened.Unanswered x = record { pass = pass_kept r i o road road' x.1.kept; known = λ h. subst (λ (l : Option (Link I O)). LinkIsKnown (r.plain road') l) (sym x.0) tt }
  opens_so port link' road road' opened.Memory x = record { pass = pass_kept r i o road road' x.1; known = λ h. subst (λ (l : Option (Link I O)). LinkIsKnown (r.plain road') l) (sym x.0) tt }

  opens : (port : ℕ) (link link' : Option (Link I O)) (road road' : R) (how : Opened) → Opens r i o port link link' road road' how → LinkPasses r i o link link' road road'
  opens port (Some l) link' road road' how x = stays r i o (Some l) link' road road' x.0 x.1
  opens port None link' road road' how x = opens_so port link' road road' how x

  sent_id : (text : List ℕ) (w w' : WriterRecord) (old new : Conn I O) (does : Acted) → SendsTo o text w w' old new does → new.id ≡ old.id
  sent_id text w w' old new does (inl k) = k.kept.id
  sent_id text w w' old new does (inr k) = k.kept.id

  sends_on : (text : List ℕ) (w w' : WriterRecord) (link link' : Option (Link I O)) (road : R) (does : Acted) → Sends o text w w' link link' does → LinkPasses r i o link link' road road
  sends_on text w w' None None road does s = stays r i o None None road road refl refl
  sends_on text w w' None (Some new) road does s = absurd s
  sends_on text w w' (Some old) None road does s = absurd s
  sends_on text w w' (Some old) (Some new) road does s = kept_id r i o old new road (sent_id text w w' old.end new.end does s.sends)

  dial_on : (text : List ℕ) (w w' : WriterRecord) (link link' : Option (Link I O)) (road : R) (how : Opened) (does : Acted) → FollowsDial o text w w' link link' how does → LinkPasses r i o link link' road road
  dial_on text w w' link link' road opened.Answered does f = sends_on text w w' link link' road does f
  dial_on text w w' link link' road opened.Unanswered does f = stays r i o link link' road road f.1 refl
  dial_on text w w' link link' road opened.Memory does f = stays r i o link link' road road f.1 refl

  unreached : (w w' : WriterRecord) (link link' : Option (Link I O)) (road road' : R) (why does : Acted) → Unreached w w' link link' road road' why does → LinkPasses r i o link link' road road'
  unreached w w' link link' road road' why does u = stays r i o link link' road road' u.link_same u.roads_same

  port_on : (port : ℕ) (text : List ℕ) (w w' : WriterRecord) (link link' : Option (Link I O)) (road road' : R) (does : Acted) → ReachesPort r i o port text w w' link link' road road' does → LinkPasses r i o link link' road road'
  port_on port text w w' link link' road road' does x = passes_on r i o link x.held link' road road' road' (opens port link x.held road road' x.opened x.opens) (dial_on text w w' x.held link' road' x.opened does x.follows)

  reaches_on : (to : NodeId) (op : Op) (w w' : WriterRecord) (link link' : Option (Link I O)) (road road' : R) (does : Acted) → Reaches r i o to op w w' link link' road road' does → LinkPasses r i o link link' road road'
  reaches_on to op w w' link link' road road' does (no_memory u) = unreached w w' link link' road road' acted.Memory does u
  reaches_on to op w w' link link' road road' does (no_way none u) = unreached (writer.dialled w false) w' link link' road road' acted.Moved does u
  reaches_on to op w w' link link' road road' does (dials n) = port_on n.port (op_text op) w w' link link' road road' does n.reaches

  dials_by : (a : Action) (w w' : WriterRecord) (link link' : Option (Link I O)) (road road' : R) (does : Acted) → DialsBy r i o a w w' link link' road road' does → LinkPasses r i o link link' road road'
  dials_by (action.Dial to op) w w' link link' road road' does h = reaches_on to op w w' link link' road road' does h
  dials_by action.Memory w w' link link' road road' does h = unreached w w' link link' road road' acted.Memory does h
  dials_by other w w' link link' road road' does h = unreached w w' link link' road road' acted.Idle does h

  dials_on : (s : writer.Step) (w w' : WriterRecord) (link link' : Option (Link I O)) (road road' : R) (does : Acted) → Dials r i o s w w' link link' road road' does → LinkPasses r i o link link' road road'
  dials_on s w w' link link' road road' does (inl u) = unreached w w' link link' road road' acted.Memory does u
  dials_on s w w' link link' road road' does (inr k) = dials_by s.action s.writer w' link link' road road' does k

  goes_on : (stamped : Bool) (w w' : WriterRecord) (link link' : Option (Link I O)) (road road' : R) (first does : Acted) → GoesOn r i o stamped w w' link link' road road' first does → LinkPasses r i o link link' road road'
  goes_on true w w' link link' road road' first does g = dials_on (writer.own_step w) w w' link link' road road' does g
  goes_on false w w' link link' road road' first does g = stays r i o link link' road road' g.1 g.2

module _ {R I O D : Type 0} (r : roads.Ghosts R I O) (i : link_in.Ghosts I) (o : link_out.Ghosts O) (d : desks.Ghosts D) where
  asks_on : (w w' : WriterRecord) (link link' : Option (Link I O)) (desk desk' : D) (road road' : R) (does : Acted) → AsksAndDials d r i o w w' link link' desk desk' road road' does → LinkPasses r i o link link' road road'
  asks_on w w' link link' desk desk' road road' does a = goes_on r i o (is_stamped a.answered.phase) a.answered w' link link' road road' a.first does a.goes_on

  acts_on : (p : Phase) (w w' : WriterRecord) (link link' : Option (Link I O)) (desk desk' : D) (road road' : R) (does : Acted) → IsWanted p → Acts d r i o p w w' link link' desk desk' road road' does → LinkPasses r i o link link' road road'
  acts_on (phase.Wanted s) w w' link link' desk desk' road road' does ok h = asks_on w w' link link' desk desk' road road' does h
  acts_on other w w' link link' desk desk' road road' does ok h = absurd ok

  -- What the first step of a setup makes of the roads.
  pub first_pass : (w w' : WriterRecord) (link link' : Option (Link I O)) (desk desk' : D) (road road' : R) (lost : Bool) (ends : RebuildStep I O) → IsWanted w.phase → Steps d r i o w w' link link' desk desk' road road' lost ends → RoadsPass r road road'
  first_pass w w' link link' desk desk' road road' lost ends ok s =
      pass_on r i o road s.middle road' (acts_on w.phase w w' link s.held desk desk' road s.middle s.acted ok s.acts).pass (settles_on r i o d (keeps_link w'.phase) s.held s.kept s.middle road' s.settles.settles).pass

  -- The connection is known where no request was sent.
  pub undialled_known : (w w' : WriterRecord) (link : Option (Link I O)) (setup' : Rebuild I O) (desk desk' : D) (road road' : R) (lost : Bool) (ends : RebuildStep I O) (left : Pipe I O) → IsWanted w.phase → Steps d r i o w w' link setup'.link desk desk' road road' lost ends → LinkIsKnown (r.plain road) link
      → LinkIsKnown (r.plain road') setup'.link → piped setup' ends ≡ Ok left → (p : Phase) (first : Option NodeId) → SetUpIsKnown (r.plain road') (undialled p first left)
  undialled_known w w' link setup' desk desk' road road' lost ends left ok s h k is p first =
      let held : LinkIsKnown (r.plain s.middle) s.held = (acts_on w.phase w w' link s.held desk desk' road s.middle s.acted ok s.acts).known h in
      (by_ends r i o d s.acted w' (r.plain road') s.kept setup' ends left ((settles_on r i o d (keeps_link w'.phase) s.held s.kept s.middle road' s.settles.settles).known held) k s.reports is, tt)
