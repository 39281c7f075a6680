-- A writer that wants a pipeline: what it asks of the office, and how its first member is dialled.
use Rattle.std.proofs.Common.{◌≡◌, ◌≢◌, ◌≤◌, inl, inr, ◌⊎◌, ℕ, not, Bool, true, false, if◌then◌else◌, List, [], ◌∷◌, length, slice_get, is_some, is_none, Option, Some, None, IfSome, IfOk, Ok, Err, refl, sym, ap, ◌∙◌, subst, arith}
use Rattle.std.proofs.lemmas.Bool.Decides.{nat_tests}
use Rattle.std.specs.Prelude.{◌&&◌, nat_le}
use Rattle.hd_base.specs.declared.ends.Conn.{Conn}
use Rattle.hd_base.specs.declared.links.LinkIn as link_in
use Rattle.hd_base.specs.declared.links.LinkOut as link_out
use Rattle.hd_base.specs.declared.numbers.NodeId.{NodeId}
use Rattle.hd_base.specs.declared.numbers.Stamp.{Stamp}
use Rattle.hd_base.specs.declared.roads.Roads as roads
use Rattle.link_pieces.specs.Roads.{KeepsRoads, IsDialled, IsUnanswered}
use Rattle.name_core.specs.declared.calls.OfficeAnswer.{OfficeAnswer}
use Rattle.name_core.specs.declared.calls.OfficeAnswer.TheVariants as granted_as
use Rattle.name_core.specs.declared.calls.OfficeCall.{OfficeCall}
use Rattle.name_core.specs.declared.calls.Reopened.{Reopened}
use Rattle.name_core.specs.declared.desks.Desk as desks
use Rattle.name_core.specs.declared.faults.OfficeFault.{OfficeFault}
use Rattle.name_core.specs.declared.faults.OfficeFault.TheVariants as office_fault
use Rattle.name_core.specs.declared.records.TheConstants.{MAX_APPEND_LENGTH}
use Rattle.name_core.specs.Desks.{FitsCall}
use Rattle.op_headers.specs.declared.ops.Op.{Op}
use Rattle.op_headers.specs.Requests.{op_text}
use Rattle.pipe_recovery.specs.declared.acting.Acted.{Acted}
use Rattle.pipe_recovery.specs.declared.acting.Acted.TheVariants as acted
use Rattle.pipe_recovery.specs.declared.dialling.Opened.{Opened}
use Rattle.pipe_recovery.specs.declared.dialling.Opened.TheVariants as opened
use Rattle.pipe_recovery.specs.declared.links.Link.{Link}
use Rattle.pipe_recovery.specs.Acting.{is_wait, has_own_step}
use Rattle.pipe_recovery.specs.Asking.{asked_as, IsPut, Asks}
use Rattle.pipe_recovery.specs.Dialling.{dial_port, IsSent, SendsTo, Sends, OpensAs, FollowsDial, HasNoWay, Reaches, no_memory, no_way, dials, DialsBy, Dials}
use Rattle.pipe_recovery.specs.Hearing.{nothing_heard}
use Rattle.pipe_recovery.specs.Steps.{is_stamped, GoesOn}
use Rattle.member_events.specs.World.Parts.{Told}
use Rattle.writer_core.specs.declared.actions.Action.TheVariants as action
use Rattle.writer_core.specs.declared.commands.Command.{Command}
use Rattle.writer_core.specs.declared.phases.Failure.{Failure}
use Rattle.writer_core.specs.declared.phases.Phase.{Phase}
use Rattle.writer_core.specs.declared.phases.Phase.TheVariants as phase
use Rattle.writer_core.specs.declared.phases.Remedy.{Remedy}
use Rattle.writer_core.specs.declared.phases.Remedy.TheVariants as remedy
use Rattle.writer_core.specs.declared.phases.Setup.{Setup}
use Rattle.writer_core.specs.declared.phases.Setup.TheVariants as setup
use Rattle.writer_core.specs.declared.phases.Waiting.{Waiting}
use Rattle.writer_core.specs.declared.records.WriterRecord.{WriterRecord}
use Rattle.writer_core.specs.Phases.{remedy_after, without}
use Rattle.writer_core.specs.Requests.{request_for}
use Rattle.writer_core.specs.Transitions.{Step, step, step_in, own_step, free_step_as, take_first, stamp_call, dial_step, dial_step_as, granted, granted_in, stamp_given, begin_session, refused, asks, dialled, dialled_in, dropped, fail_named, has_command_due}
use Rattle.client_events.specs.Completing.{put_as, Puts}
use Rattle.client_events.specs.SettingUp.{IsWanted, is_unreached}
use Rattle.client_events.proofs.AnswerLaws.{first_there}
use Rattle.client_events.proofs.CommitLaws.{asks_by, put_ok}
use Rattle.client_events.proofs.CompleteLaws.{no_memory as not_memory}

-- WHAT IT ASKS OF THE OFFICE

-- The phase of a writer that wants a pipeline.
pub record WantedIn (p : Phase) : Type 0 where
  pub setup : Setup
  pub is : p ≡ phase.Wanted setup

pub wanted_in : (p : Phase) → IsWanted p → WantedIn p
wanted_in (phase.Wanted s) ok = record { setup = s; is = refl }
wanted_in other ok = absurd ok

pub wanted_step : (x : WriterRecord) (s : Setup) → x.phase ≡ phase.Wanted s → own_step x ≡ step (action.Ask (stamp_call x s)) x
unfolding own_step
wanted_step x s h = ap (step_in x) h

-- where a writer may be that was given a stamp, or refused one
abbrev pub IsGiven : Phase → Type 0
IsGiven (phase.Stamped s stamp) = Unit {0}
IsGiven (phase.Failed f) = Unit {0}
IsGiven other = ⊥

short_enough : (n : ℕ) → n ≤ MAX_APPEND_LENGTH → nat_le n MAX_APPEND_LENGTH ≡ true
short_enough n h = grind (arith, nat_tests)

reopened_phase : (x : WriterRecord) (r : Reopened) → r.length ≤ MAX_APPEND_LENGTH → (stamp_given x setup.Append (granted_as.Reopened r)).phase ≡ phase.Stamped setup.Append r.new
reopened_phase x r few = ap (λ (q : Bool). (if q then record (begin_session x r.committed r.length) { phase = phase.Stamped setup.Append r.new } else x).phase) (short_enough r.length few)

given_stamp : (x : WriterRecord) (s : Setup) (a : OfficeAnswer) → FitsCall (stamp_call x s) a → IsGiven (stamp_given x s a).phase
given_stamp x setup.Create (granted_as.Stamp stamp) ok = tt
given_stamp x setup.Append (granted_as.Reopened r) ok = subst IsGiven (sym (reopened_phase x r ok)) tt
given_stamp x setup.AppendRecovery (granted_as.Stamp stamp) ok = tt
given_stamp x setup.StreamRecovery (granted_as.Stamp stamp) ok = tt
given_stamp x setup.CloseRecovery (granted_as.Stamp stamp) ok = tt
given_stamp x s other ok = absurd ok

given_refused : (x : WriterRecord) (e : OfficeFault) → (e ≡ office_fault.Memory → ⊥) → IsGiven (refused x e).phase
given_refused x office_fault.Memory never = absurd (never refl)
given_refused x (office_fault.LeaseLost recovery) never = tt
given_refused x other never = tt

pub after_stamp : (x : WriterRecord) (s : Setup) (told : Told) → x.phase ≡ phase.Wanted s → put_as told ≡ Ok tt → IfOk told (FitsCall (stamp_call x s)) → IsGiven (granted x told).phase
unfolding granted
after_stamp x s (Ok a) h put ok = subst (λ (p : Phase). IsGiven (granted_in x p a).phase) (sym h) (given_stamp x s a ok)
after_stamp x s (Err e) h put ok = subst (λ (q : Bool). IsGiven (if q then refused x e else x).phase) (sym (ap asks h)) (given_refused x e (λ is. not_memory e is put))

-- A refusal isn't a member that wasn't reached.
refused_reached : (x : WriterRecord) (e : OfficeFault) → (e ≡ office_fault.Memory → ⊥) → is_unreached (refused x e).phase ≡ false
refused_reached x office_fault.Memory never = absurd (never refl)
refused_reached x (office_fault.LeaseLost recovery) never = refl
refused_reached x other never = refl

-- the members stay, and no command is due that wasn't
pub record KeepsQueue (x y : WriterRecord) : Type 0 where
  pub members : y.members ≡ x.members
  pub due : has_command_due y ≡ has_command_due x

same_queue : (x : WriterRecord) → KeepsQueue x x
same_queue x = record { members = refl; due = refl }

if_queue : (q : Bool) (x y z : WriterRecord) → KeepsQueue x y → KeepsQueue x z → KeepsQueue x (if q then y else z)
if_queue true x y z a b = a
if_queue false x y z a b = b

given_queue : (x : WriterRecord) (s : Setup) (a : OfficeAnswer) → KeepsQueue x (stamp_given x s a)
given_queue x setup.Create (granted_as.Stamp stamp) = record { members = refl; due = refl }
given_queue x setup.Append (granted_as.Stamp stamp) = same_queue x
given_queue x setup.AppendRecovery (granted_as.Stamp stamp) = record { members = refl; due = refl }
given_queue x setup.StreamRecovery (granted_as.Stamp stamp) = record { members = refl; due = refl }
given_queue x setup.CloseRecovery (granted_as.Stamp stamp) = record { members = refl; due = refl }
given_queue x setup.Append (granted_as.Reopened r) = if_queue (nat_le r.length MAX_APPEND_LENGTH) x (record (begin_session x r.committed r.length) { phase = phase.Stamped setup.Append r.new }) x (record { members = refl; due = refl }) (same_queue x)
given_queue x setup.Create (granted_as.Reopened r) = same_queue x
given_queue x setup.AppendRecovery (granted_as.Reopened r) = same_queue x
given_queue x setup.StreamRecovery (granted_as.Reopened r) = same_queue x
given_queue x setup.CloseRecovery (granted_as.Reopened r) = same_queue x
given_queue x s other = same_queue x

refused_queue : (x : WriterRecord) (e : OfficeFault) → KeepsQueue x (refused x e)
refused_queue x office_fault.Memory = same_queue x
refused_queue x (office_fault.LeaseLost recovery) = record { members = refl; due = refl }
refused_queue x other = record { members = refl; due = refl }

pub keeps_queue : (x : WriterRecord) (s : Setup) (told : Told) → x.phase ≡ phase.Wanted s → KeepsQueue x (granted x told)
unfolding granted
keeps_queue x s (Ok a) h = subst (λ (p : Phase). KeepsQueue x (granted_in x p a)) (sym h) (given_queue x s a)
keeps_queue x s (Err e) h = if_queue (asks x.phase) x (refused x e) x (refused_queue x e) (same_queue x)

pub refusal_reached : (x : WriterRecord) (s : Setup) (told : Told) (f : Failure) → x.phase ≡ phase.Wanted s → put_as told ≡ Ok tt → IfOk told (FitsCall (stamp_call x s)) → (granted x told).phase ≡ phase.Failed f → is_unreached (phase.Failed f) ≡ false
unfolding granted
refusal_reached x s (Ok a) f h put ok failed = absurd (not_failed s a ok (sym (ap (λ (p : Phase). (granted_in x p a).phase) h) ∙ failed))
  where
    not_failed : (s : Setup) (a : OfficeAnswer) → FitsCall (stamp_call x s) a → (stamp_given x s a).phase ≡ phase.Failed f → ⊥
    not_failed setup.Create (granted_as.Stamp stamp) ok is = let k : phase.Stamped setup.Create stamp ≡ phase.Failed f = is in cc
    not_failed setup.Append (granted_as.Reopened r) ok is = let k : phase.Stamped setup.Append r.new ≡ phase.Failed f = sym (reopened_phase x r ok) ∙ is in cc
    not_failed setup.AppendRecovery (granted_as.Stamp stamp) ok is = let k : phase.Stamped setup.AppendRecovery stamp ≡ phase.Failed f = is in cc
    not_failed setup.StreamRecovery (granted_as.Stamp stamp) ok is = let k : phase.Stamped setup.StreamRecovery stamp ≡ phase.Failed f = is in cc
    not_failed setup.CloseRecovery (granted_as.Stamp stamp) ok is = let k : phase.Stamped setup.CloseRecovery stamp ≡ phase.Failed f = is in cc
    not_failed s other ok is = absurd ok
refusal_reached x s (Err e) f h put ok failed =
    let k : (refused x e).phase ≡ phase.Failed f = subst (λ (q : Bool). (if q then refused x e else x).phase ≡ phase.Failed f) (ap asks h) failed in
    ap is_unreached (sym k) ∙ refused_reached x e (λ is. not_memory e is put)

same_if : (q : Bool) (x : WriterRecord) → (if q then x else x) ≡ x
same_if true x = refl
same_if false x = refl

refused_memory : (x : WriterRecord) (told : Told) (first : Acted) → first ≡ asked_as told → first ≡ acted.Memory → granted x told ≡ x
unfolding granted
refused_memory x (Ok a) first e memory = cc
refused_memory x (Err office_fault.Memory) first e memory = same_if (asks x.phase) x
refused_memory x (Err other) first e memory = cc

-- THE DIAL

pub stamped_step : (x : WriterRecord) (s : Setup) (stamp : Stamp) → x.phase ≡ phase.Stamped s stamp → own_step x ≡ dial_step x s stamp
unfolding own_step
stamped_step x s stamp h = ap (step_in x) h

-- the request to the first member, with the others as targets
abbrev pub first_request : WriterRecord → Setup → Stamp → List NodeId → Op
first_request x s stamp others = request_for x.block x.committed x.stream s stamp (length x.members) others

pub dial_to : (x : WriterRecord) (s : Setup) (stamp : Stamp) (first : NodeId) (others : List NodeId) → x.members ≡ first ∷ others → dial_step x s stamp ≡ step (action.Dial first (first_request x s stamp others)) x
dial_to x s stamp first others h = ap (dial_step_as x s stamp) h

pub dial_none : (x : WriterRecord) (s : Setup) (stamp : Stamp) → x.members ≡ [] → dial_step x s stamp ≡ step action.Wait x
dial_none x s stamp h = ap (dial_step_as x s stamp) h

pub asked_phase : (x : WriterRecord) (s : Setup) (stamp : Stamp) → x.phase ≡ phase.Stamped s stamp → dialled x true ≡ record x { phase = phase.Requested s stamp }
unfolding dialled
asked_phase x s stamp h = ap (λ (p : Phase). dialled_in x p true) h

-- where a writer is whose first member wasn't reached
unreached_named : (x : WriterRecord) (r : Remedy) (o : Option NodeId) → (o ≡ None → ⊥) → is_unreached (fail_named x r o).phase ≡ true
unreached_named x r None never = absurd (never refl)
unreached_named x remedy.Abandon (Some bad) never = refl
unreached_named x (remedy.Recover s) (Some bad) never = go (without x.members bad)
  where
    go : (ms : List NodeId) → is_unreached (dropped x s bad ms).phase ≡ true
    go [] = refl
    go (m ∷ ms) = refl

pub unreached_phase : (x : WriterRecord) (s : Setup) (stamp : Stamp) → x.phase ≡ phase.Stamped s stamp → x.members ≢ [] → is_unreached (dialled x false).phase ≡ true
unfolding dialled
unreached_phase x s stamp h some =
    subst (λ (p : Phase). is_unreached (dialled_in x p false).phase ≡ true) (sym h) (unreached_named x (remedy_after s) (slice_get x.members 0) (first_there x.members some))

-- WHAT IS DUE THEN

by_first : (x : WriterRecord) (c : Option Command) → is_some c ≡ false → not (is_wait (take_first x c).action) ≡ false
by_first x None h = refl
by_first x (Some c) h = cc

by_waiting : (x : WriterRecord) (wt : Option Waiting) → (is_none wt && is_some (slice_get x.queue 0)) ≡ false → not (is_wait (free_step_as x wt).action) ≡ false
by_waiting x None h = by_first x (slice_get x.queue 0) h
by_waiting x (Some y) h = refl

pub no_own_step : (x : WriterRecord) (s : Setup) (stamp : Stamp) → x.phase ≡ phase.Requested s stamp → has_command_due x ≡ false → has_own_step x ≡ false
unfolding own_step
no_own_step x s stamp h due = subst (λ (p : Phase). not (is_wait (step_in x p).action) ≡ false) (sym h) (by_waiting x x.waiting due)

-- HOW IT ENDED

pub some_members : (x : WriterRecord) (first : NodeId) (others : List NodeId) → x.members ≡ first ∷ others → x.members ≢ []
some_members x first others h none = let e : first ∷ others ≡ [] = sym h ∙ none in cc

module _ {R I O D : Type 0} (r : roads.Ghosts R I O) (i : link_in.Ghosts I) (o : link_out.Ghosts O) (d : desks.Ghosts D) where
  -- No member was dialled.
  pub record Undialled (x y : WriterRecord) (held : Option (Link I O)) (road road' : R) : Type 0 where
    pub same : y ≡ x
    pub none : held ≡ None
    pub roads_same : road' ≡ road

  -- The dial of the first member wasn't answered, or there was no way to it.
  pub record Unreached (first : NodeId) (op : Op) (x y : WriterRecord) (held : Option (Link I O)) (road road' : R) : Type 0 where
    pub writer : y ≡ dialled x false
    pub none : held ≡ None
    pub kept : KeepsRoads r road road'
    pub cause : HasNoWay first op ⊎ ((port : ℕ) × ((dial_port first ≡ Some port) × IsUnanswered r port road road'))

  -- The first member was asked, or the link failed.
  pub record Asked (first : NodeId) (op : Op) (x y : WriterRecord) (held : Option (Link I O)) (road road' : R) (does : Acted) : Type 0 where
    pub port : ℕ
    pub port_is : dial_port first ≡ Some port
    pub listening : IfSome (r.plain road) (λ p. p.listening port ≡ true)
    pub fresh : Conn I O
    pub link : Link I O
    pub dialled : IsDialled r i o port road road' fresh
    pub held_is : held ≡ Some link
    pub heard : link.heard ≡ nothing_heard
    pub sent : IsSent o (op_text op) x y fresh link.end does

  -- What follows a dial, unless memory ran out.
  abbrev pub HasDialled : NodeId → Op → WriterRecord → WriterRecord → Option (Link I O) → R → R → Acted → Type 0
  HasDialled first op x y held road road' does = Unreached first op x y held road road' ⊎ Asked first op x y held road road' does

  sends_so : (first : NodeId) (op : Op) (port : ℕ) (fresh : Conn I O) (x y : WriterRecord) (held : Option (Link I O)) (road road' : R) (does : Acted) → dial_port first ≡ Some port → IfSome (r.plain road) (λ p. p.listening port ≡ true) → IsDialled r i o port road road' fresh → (does ≡ acted.Memory → ⊥)
      → Sends o (op_text op) x y (Some (record { end = fresh; heard = nothing_heard; asked = false })) held does → HasDialled first op x y held road road' does
  sends_so first op port fresh x y None road road' does is heard dialled never s = absurd s
  sends_so first op port fresh x y (Some link) road road' does is heard dialled never s = by_sends s.sends
    where
      by_sends : SendsTo o (op_text op) x y fresh link.end does → HasDialled first op x y (Some link) road road' does
      by_sends (inl k) = absurd (never k.is)
      by_sends (inr k) = inr (record { port = port; port_is = is; listening = heard; fresh = fresh; link = link; dialled = dialled; held_is = refl; heard = s.heard; sent = k })

  opens_so : (first : NodeId) (op : Op) (port : ℕ) (how : Opened) (x y : WriterRecord) (opened_link held : Option (Link I O)) (road road' : R) (does : Acted) → dial_port first ≡ Some port → (does ≡ acted.Memory → ⊥)
      → OpensAs r i o port opened_link road road' how → FollowsDial o (op_text op) x y opened_link held how does → HasDialled first op x y held road road' does
  opens_so first op port opened.Answered x y opened_link held road road' does is never opens follows =
      sends_so first op port opens.end x y held road road' does is opens.listening opens.dialled never (subst (λ (l : Option (Link I O)). Sends o (op_text op) x y l held does) opens.is follows)
  opens_so first op port opened.Unanswered x y opened_link held road road' does is never opens follows = inl (record { writer = follows.0; none = follows.1 ∙ opens.0; kept = opens.1.kept; cause = inr (port, (is, opens.1)) })
  opens_so first op port opened.Memory x y opened_link held road road' does is never opens follows = absurd (never follows.2)

  same_roads : (road road' : R) → road' ≡ road → KeepsRoads r road road'
  same_roads road road' same = record {
    plain = ap r.plain same;
    carried = ap r.carried same;
    risen = ap r.risen same;
    never_falls = subst (λ (y : R). r.faults road ≤ r.faults y) (sym same) (itself (r.faults road));
  }
    where
      itself : (n : ℕ) → n ≤ n
      itself n = omega arith

  reaches_so : (first : NodeId) (op : Op) (x y : WriterRecord) (held : Option (Link I O)) (road road' : R) (does : Acted) → (does ≡ acted.Memory → ⊥) → Reaches r i o first op x y None held road road' does → HasDialled first op x y held road road' does
  reaches_so first op x y held road road' does never (no_memory u) = absurd (never u.is)
  reaches_so first op x y held road road' does never (no_way none u) = inl (record { writer = u.writer; none = u.link_same; kept = same_roads road road' u.roads_same; cause = inl none })
  reaches_so first op x y held road road' does never (dials n) = opens_so first op n.port n.reaches.opened x y n.reaches.held held road road' does n.is never n.reaches.opens n.reaches.follows

  -- The dial of a writer that was given a stamp and has members.
  pub dials_so : (s : Setup) (stamp : Stamp) (first : NodeId) (others : List NodeId) (x y : WriterRecord) (held : Option (Link I O)) (road road' : R) (does : Acted) → x.phase ≡ phase.Stamped s stamp → x.members ≡ first ∷ others → (does ≡ acted.Memory → ⊥)
      → Dials r i o (own_step x) x y None held road road' does → HasDialled first (first_request x s stamp others) x y held road road' does
  dials_so s stamp first others x y held road road' does h some never (inl u) = absurd (never u.is)
  dials_so s stamp first others x y held road road' does h some never (inr k) =
      reaches_so first (first_request x s stamp others) x y held road road' does never
      (subst (λ (q : Step). DialsBy r i o q.action q.writer y None held road road' does) (stamped_step x s stamp h ∙ dial_to x s stamp first others some) k)

  -- That of one that has none.
  pub dials_none : (s : Setup) (stamp : Stamp) (x y : WriterRecord) (held : Option (Link I O)) (road road' : R) (does : Acted) → x.phase ≡ phase.Stamped s stamp → x.members ≡ [] → (does ≡ acted.Memory → ⊥)
      → Dials r i o (own_step x) x y None held road road' does → Undialled x y held road road'
  dials_none s stamp x y held road road' does h none never (inl u) = absurd (never u.is)
  dials_none s stamp x y held road road' does h none never (inr k) =
      let u = subst (λ (q : Step). DialsBy r i o q.action q.writer y None held road road' does) (stamped_step x s stamp h ∙ dial_none x s stamp none) k in
      record { same = u.writer; none = u.link_same; roads_same = u.roads_same }

  -- The office was asked for a stamp, and answered.
  pub record StampAsked (c : OfficeCall) (known x : WriterRecord) (desk desk' : D) : Type 0 where
    pub puts : Puts d c known x desk desk' (Ok tt)
    pub fits : IfOk puts.answer (FitsCall c)

  goes_without : (x y : WriterRecord) (held : Option (Link I O)) (road road' : R) (first does : Acted) → is_stamped x.phase ≡ false → GoesOn r i o (is_stamped x.phase) x y None held road road' first does → GoesOn r i o false x y None held road road' first does
  goes_without x y held road road' first does is g = subst (λ (q : Bool). GoesOn r i o q x y None held road road' first does) is g

  -- Where the office's answer found memory it was put to the office.
  pub stamp_asked : (s : Setup) (known x y : WriterRecord) (held : Option (Link I O)) (desk desk' : D) (road road' : R) (first does : Acted) → known.phase ≡ phase.Wanted s → (does ≡ acted.Memory → ⊥) → Asks d (own_step known) known x desk desk' first
      → GoesOn r i o (is_stamped x.phase) x y None held road road' first does → StampAsked (stamp_call known s) known x desk desk'
  stamp_asked s known x y held desk desk' road road' first does h never asked goes = by_asked (asks_by r i o d (stamp_call known s) known x desk desk' first (wanted_step known s h) asked)
    where
      wanting : x ≡ known → first ≡ acted.Memory → ⊥
      wanting same memory = let g = goes_without x y held road road' first does (ap (λ (z : WriterRecord). is_stamped z.phase) same ∙ ap is_stamped h) goes in never (g.3 ∙ memory)

      by_asked : ((x ≡ known) × (first ≡ acted.Memory)) ⊎ IsPut d (stamp_call known s) known x desk desk' first → StampAsked (stamp_call known s) known x desk desk'
      by_asked (inl u) = absurd (wanting u.0 u.1)
      by_asked (inr p) = record { puts = record { answer = p.answer; answers = p.answers; office = p.office; writer = p.writer; ends = put_ok p.answer first p.ends (λ e. wanting (p.writer ∙ refused_memory known p.answer first p.ends e) e) }; fits = p.fits }
