-- Roads know the connections that they knew, and their count of faults never falls, whatever a writer's event does with them; and the end that it leaves is known.
use Rattle.std.proofs.Common.{◌≡◌, ◌||◌, is_some, ◌≤◌, inl, inr, ◌⊎◌, Bool, true, false, Option, Some, None, IfOk, Result, Ok, Err, refl, sym, ap, ◌∙◌, subst}
use Rattle.hd_base.specs.Channels.{Plain}
use Rattle.hd_base.specs.Ends.{IsKnown, KeepsConnections}
use Rattle.hd_base.specs.declared.ends.Conn.{Conn}
use Rattle.hd_base.specs.declared.ends.RoadError.{RoadError}
use Rattle.hd_base.specs.declared.links.LinkIn as link_in
use Rattle.hd_base.specs.declared.links.LinkOut as link_out
use Rattle.hd_base.specs.declared.numbers.ConnId.{ConnId}
use Rattle.hd_base.specs.declared.numbers.Stamp.{Stamp}
use Rattle.hd_base.specs.declared.roads.Roads as roads
use Rattle.pipe_recovery.specs.LinkMessages.Incomings.{IncomingState}
use Rattle.link_pieces.specs.Roads.{names}
use Rattle.name_core.specs.declared.desks.Desk as desks
use Rattle.pipe_recovery.specs.declared.acting.Acted.{Acted}
use Rattle.pipe_recovery.specs.declared.acting.Acted.TheVariants as acted
use Rattle.pipe_recovery.specs.declared.hearing.Answer.{Answer}
use Rattle.pipe_recovery.specs.declared.hearing.Looked.{Looked}
use Rattle.pipe_recovery.specs.declared.hearing.Looked.TheVariants as looked
use Rattle.pipe_recovery.specs.declared.links.Link.{Link}
use Rattle.pipe_recovery.specs.declared.rebuilding.Rebuild.{Rebuild}
use Rattle.pipe_recovery.specs.declared.rebuilding.RebuildStep.{RebuildStep}
use Rattle.pipe_recovery.specs.declared.rebuilding.RebuildStep.TheVariants as step
use Rattle.pipe_recovery.specs.declared.rebuilding.Rebuilt.TheVariants as rebuilt
use Rattle.pipe_recovery.specs.Acting.{has_own_step}
use Rattle.pipe_recovery.specs.Asking.{IsPut}
use Rattle.pipe_recovery.specs.Dialling.{LinkIsKnown}
use Rattle.pipe_recovery.specs.Exchanging.{ExchangesLink, BringsLink}
use Rattle.pipe_recovery.specs.Reports.{Streams, Sees, Awaits, Reports, ReportsAccepted, ReportsAt, moved_if, failed_as}
use Rattle.pipe_recovery.specs.Steps.{fits_in, fits_accepted, is_stamped, keeps_link, TakesAs, FollowsLook, Waits, AsksAndDials, HearsNextAs, HearsSeen, HearsGiven, Hears, ElseAsks, HearsOrAsks, Acts, Settles, Steps}
use Rattle.writer_core.specs.declared.actions.Action.{Action}
use Rattle.writer_core.specs.declared.phases.Failure.{Failure}
use Rattle.writer_core.specs.declared.phases.Failure.TheVariants as failure
use Rattle.writer_core.specs.declared.phases.Phase.{Phase}
use Rattle.writer_core.specs.declared.phases.Phase.TheVariants as phase
use Rattle.writer_core.specs.declared.phases.Setup.{Setup}
use Rattle.writer_core.specs.declared.phases.Setup.TheVariants as setup
use Rattle.writer_core.specs.declared.records.WriterRecord.{WriterRecord}
use Rattle.member_events.specs.Roads.{RoadsPass}
use Rattle.member_events.proofs.KnownLaws.{known_on}
use Rattle.member_events.proofs.PassLaws.{pass_exchanged}
use Rattle.member_events.proofs.SetupKnown.{pass_same, pass_brought, pass_on}
use Rattle.client_events.specs.declared.faults.ClientFault.{ClientFault}
use Rattle.client_events.specs.declared.faults.ClientFault.TheVariants as fault
use Rattle.client_events.specs.declared.pipes.Pipe.{Pipe}
use Rattle.client_events.specs.declared.pipes.Pipe.TheVariants as pipe
use Rattle.client_events.specs.declared.sending.Sending.{Sending}
use Rattle.client_events.specs.declared.sending.Sending.TheVariants as sending
use Rattle.client_events.specs.Answering.{piped}
use Rattle.client_events.specs.Committing.{IsAccepted, read_off}
use Rattle.client_events.specs.Sending.{FollowsSending, IsFollowed}
use Rattle.client_events.specs.Showing.{awaits, PipeIsKnown}
use Rattle.client_events.specs.Steps.{IsSettled}
use Rattle.client_events.proofs.CommitLaws.{commit_call, commit_step, told_unstamped, asks_by, goes_not}

-- WHERE THE WRITER IS

-- Its request waits for its answer, or was answered.
abbrev pub IsAsked : Phase → Bool → Type 0
IsAsked (phase.Requested s stamp) linked = Unit {0}
IsAsked (phase.Accepted s stamp) linked = fits_accepted s linked ≡ true
IsAsked other linked = ⊥

pub waits_asked : (p : Phase) → awaits p ≡ true → IsAsked p true
waits_asked (phase.Requested s stamp) ok = tt
waits_asked (phase.Accepted s stamp) ok = ok
waits_asked other ok = cc

pub accepted_asked : (p : Phase) (linked : Bool) → IsAccepted p → fits_in p linked ≡ true → IsAsked p linked
accepted_asked (phase.Accepted s stamp) linked ok fits = fits
accepted_asked other linked ok fits = absurd ok

pub ok_known : {I O : Type 0} (p : Option Plain) (result : Result (Pipe I O) ClientFault) → ((left : Pipe I O) → result ≡ Ok left → PipeIsKnown p left) → IfOk result (PipeIsKnown p)
ok_known p (Ok left) k = k left refl
ok_known p (Err why) k = tt

-- ROADS

pub id_known : (p : Option Plain) (a b : ConnId) → b ≡ a → IsKnown p a.0 → IsKnown p b.0
id_known p a b is h = subst (λ (n : ConnId). IsKnown p n.0) (sym is) h

module _ {R I O : Type 0} (r : roads.Ghosts R I O) (i : link_in.Ghosts I) (o : link_out.Ghosts O) where
  pub pass_by : (road road' : R) → KeepsConnections (r.plain road) (r.plain road') → r.faults road ≤ r.faults road' → RoadsPass r road road'
  pass_by road road' keeps less = record { knows = λ c h. known_on (r.plain road) (r.plain road') c keeps h; never_falls = less }

  pub pass_link : (take : Option ConnId) (link link' : Option (Link I O)) (road road' : R) (result : Result (Unit {0}) RoadError) → ExchangesLink r i o take link link' road road' result → RoadsPass r road road'
  pass_link take None None road road' result x = pass_same r i o road road' x.0
  pass_link take None (Some l') road road' result x = absurd x
  pass_link take (Some l) None road road' result x = absurd x
  pass_link take (Some l) (Some l') road road' result x = pass_exchanged r i o (names take l.end.id) l.end l'.end road road' result x.end

  pub link_known : (take : Option ConnId) (link link' : Option (Link I O)) (road road' : R) (result : Result (Unit {0}) RoadError) → ExchangesLink r i o take link link' road road' result → LinkIsKnown (r.plain road) link → LinkIsKnown (r.plain road') link'
  link_known take None None road road' result x h = tt
  link_known take None (Some l') road road' result x h = absurd x
  link_known take (Some l) None road road' result x h = absurd x
  link_known take (Some l) (Some l') road road' result x h = id_known (r.plain road') l.end.id l'.end.id x.end.kept.id ((pass_exchanged r i o (names take l.end.id) l.end l'.end road road' result x.end).knows l.end.id.0 h)

  pub pass_retired : (link : Option (Link I O)) (road road' : R) (result : Result (Unit {0}) RoadError) → BringsLink r i o link road road' result → RoadsPass r road road'
  pass_retired None road road' result x = pass_same r i o road road' x.0
  pass_retired (Some l) road road' result x = pass_brought r i o l.end road road' result x

  -- A STREAM

  -- An end that is kept is known.
  pub settled_known : (on : Bool) (e : Conn I O) (incoming : IncomingState) (road road' : R) (result : Result (Pipe I O) ClientFault) → IsSettled r i o on e incoming road road' result → RoadsPass r road road' → IsKnown (r.plain road) e.id.0 → IfOk result (PipeIsKnown (r.plain road'))
  settled_known on e incoming road road' (Err why) s p h = tt
  settled_known true e incoming road road' (Ok (pipe.Streaming new received)) s p h = id_known (r.plain road') e.id new.id s.0.kept.id (p.knows e.id.0 h)
  settled_known true e incoming road road' (Ok pipe.Closed) s p h = tt
  settled_known true e incoming road road' (Ok (pipe.SettingUp setup)) s p h = absurd s
  settled_known false e incoming road road' (Ok pipe.Closed) s p h = tt
  settled_known false e incoming road road' (Ok (pipe.Streaming new received)) s p h = absurd s
  settled_known false e incoming road road' (Ok (pipe.SettingUp setup)) s p h = absurd s

  sent_known : (how : Sending) (on : Bool) (e : Conn I O) (incoming : IncomingState) (road road' : R) (result : Result (Pipe I O) ClientFault) → FollowsSending r i o how on e incoming road road' result → RoadsPass r road road' → IsKnown (r.plain road) e.id.0 → IfOk result (PipeIsKnown (r.plain road'))
  sent_known how on e incoming road road' (Err why) s p h = tt
  sent_known sending.Done on e incoming road road' (Ok left) s p h = settled_known on e incoming road road' (Ok left) s p h
  sent_known sending.Failed on e incoming road road' (Ok left) s p h = absurd s
  sent_known sending.Memory on e incoming road road' (Ok left) s p h = absurd s

  same_pipe : (known : Option Plain) (left other : Pipe I O) → ◌≡◌ {A = Result (Pipe I O) ClientFault} (Ok left) (Ok other) → PipeIsKnown known other → PipeIsKnown known left
  same_pipe known left other is h = let e : left ≡ other = cc in subst (PipeIsKnown known) (sym e) h

  -- What follows an action leaves a connection that is known.
  pub followed_known : (on : Bool) (does : Action) (connection left : Pipe I O) (road road' : R) → IsFollowed r i o on does connection road road' (Ok left) → RoadsPass r road road' → PipeIsKnown (r.plain road) connection → PipeIsKnown (r.plain road') left
  followed_known on does (pipe.Streaming e incoming) left road road' f p h = sent_known f.how on (record e { outward = f.half }) incoming road road' (Ok left) f.follows p h
  followed_known on does pipe.Closed left road road' f p h = same_pipe (r.plain road') left pipe.Closed f.0 tt
  followed_known on does (pipe.SettingUp setup) left road road' f p h =
      same_pipe (r.plain road') left (pipe.SettingUp setup) f.0 (subst (λ (y : R). LinkIsKnown (r.plain y) setup.link) (sym f.1) h)

  -- A STEP OF A SETUP

  -- What a step makes of a connection and the roads.
  pub record LinkPasses (link link' : Option (Link I O)) (road road' : R) : Type 0 where
    pub pass : RoadsPass r road road'
    pub known : LinkIsKnown (r.plain road) link → LinkIsKnown (r.plain road') link'

  pub stays : (link link' : Option (Link I O)) (road road' : R) → link' ≡ link → road' ≡ road → LinkPasses link link' road road'
  stays link link' road road' same is = record {
    pass = pass_same r i o road road' is;
    known = λ h. subst (λ (l : Option (Link I O)). LinkIsKnown (r.plain road') l) (sym same) (subst (λ (y : R). LinkIsKnown (r.plain y) link) (sym is) h);
  }

  pub passes_on : (a b c : Option (Link I O)) (road middle road' : R) → LinkPasses a b road middle → LinkPasses b c middle road' → LinkPasses a c road road'
  passes_on a b c road middle road' x y = record { pass = pass_on r i o road middle road' x.pass y.pass; known = λ h. y.known (x.known h) }

  pub kept_id : (link link' : Link I O) (road : R) → link'.end.id ≡ link.end.id → LinkPasses (Some link) (Some link') road road
  kept_id link link' road is = record { pass = pass_same r i o road road refl; known = λ h. id_known (r.plain road) link.end.id link'.end.id is h }

  -- what is taken of a connection that was looked at
  heard_next : (next : Option Answer) (w w' : WriterRecord) (old new : Link I O) (heard : Option Acted) → HearsNextAs next w w' old new heard → new.end.id ≡ old.end.id
  heard_next (Some x) w w' old new heard h = ap (λ (z : Link I O). z.end.id) h.1
  heard_next None w w' old new heard h = ap (λ (z : Link I O). z.end.id) h.1

  heard_seen : (found : Looked) (w w' : WriterRecord) (old new : Link I O) (heard : Option Acted) → HearsSeen found w w' old new heard → new.end.id ≡ old.end.id
  heard_seen looked.Memory w w' old new heard h = ap (λ (z : Link I O). z.end.id) h.1
  heard_seen looked.Known w w' old new heard h = heard_next old.heard.next w w' old new heard h

  heard_given : (asked : Bool) (w w' : WriterRecord) (old new : Link I O) (heard : Option Acted) → HearsGiven i asked w w' old new heard → new.end.id ≡ old.end.id
  heard_given true w w' old new heard h = heard_seen h.found w w' h.seen new heard h.hears ∙ h.looks.kept.id
  heard_given false w w' old new heard h = ap (λ (z : Link I O). z.end.id) h.1

  hears_on : (w w' : WriterRecord) (link link' : Option (Link I O)) (road : R) (heard : Option Acted) → Hears i w w' link link' heard → LinkPasses link link' road road
  hears_on w w' None None road heard h = stays None None road road refl refl
  hears_on w w' None (Some new) road heard h = absurd h
  hears_on w w' (Some old) None road heard h = absurd h
  hears_on w w' (Some old) (Some new) road heard h = kept_id old new road (heard_given old.asked w w' old new heard h)

  taken_id : (next : Option Answer) (w w' : WriterRecord) (old new : Link I O) (does : Acted) → TakesAs next w w' old new does → new.end.id ≡ old.end.id
  taken_id (Some x) w w' old new does t = ap (λ (z : Link I O). z.end.id) t.1
  taken_id None w w' old new does t = ap (λ (z : Link I O). z.end.id) t.0

  looked_id : (found : Looked) (w w' : WriterRecord) (old new : Link I O) (does : Acted) → FollowsLook found w w' old new does → new.end.id ≡ old.end.id
  looked_id looked.Memory w w' old new does f = ap (λ (z : Link I O). z.end.id) f.1
  looked_id looked.Known w w' old new does f = taken_id old.heard.next w w' old new does f

  waits_on : (w w' : WriterRecord) (link link' : Option (Link I O)) (road : R) (does : Acted) → Waits i w w' link link' does → LinkPasses link link' road road
  waits_on w w' None None road does h = stays None None road road refl refl
  waits_on w w' None (Some new) road does h = absurd h
  waits_on w w' (Some old) None road does h = absurd h
  waits_on w w' (Some old) (Some new) road does h = kept_id old new road (looked_id h.found w w' h.seen new does h.follows ∙ h.looks.kept.id)

  on_road : (link link' : Option (Link I O)) (road road' : R) → road' ≡ road → LinkPasses link link' road road → LinkPasses link link' road road'
  on_road link link' road road' is p = subst (λ (y : R). LinkPasses link link' road y) (sym is) p

module _ {R I O D : Type 0} (r : roads.Ghosts R I O) (i : link_in.Ghosts I) (o : link_out.Ghosts O) (d : desks.Ghosts D) where
  unstamped : (s : Setup) (stamp : Stamp) (linked : Bool) (w answered : WriterRecord) (desk desk' : D) (first : Acted) → w.phase ≡ phase.Accepted s stamp → fits_accepted s linked ≡ true → ((answered ≡ w) × (first ≡ acted.Memory)) ⊎ IsPut d (commit_call w stamp) w answered desk desk' first → is_stamped answered.phase ≡ false
  unstamped s stamp linked w answered desk desk' first h fits (inl u) = ap (λ (x : WriterRecord). is_stamped x.phase) u.0 ∙ ap is_stamped h
  unstamped s stamp linked w answered desk desk' first h fits (inr p) = ap (λ (x : WriterRecord). is_stamped x.phase) p.writer ∙ told_unstamped w s stamp linked p.answer h fits p.fits

  -- The office is asked to commit, and nothing is dialled.
  asks_on : (s : Setup) (stamp : Stamp) (linked : Bool) (w w' : WriterRecord) (link link' : Option (Link I O)) (desk desk' : D) (road road' : R) (does : Acted) → w.phase ≡ phase.Accepted s stamp → fits_accepted s linked ≡ true → AsksAndDials d r i o w w' link link' desk desk' road road' does
      → LinkPasses r i o link link' road road'
  asks_on s stamp linked w w' link link' desk desk' road road' does h fits a =
      let none = unstamped s stamp linked w a.answered desk desk' a.first h fits (asks_by r i o d (commit_call w stamp) w a.answered desk desk' a.first (commit_step w s stamp linked h fits) a.asks) in
      let g = goes_not r i o d a.answered w' link link' road road' a.first does none a.goes_on in
      stays r i o link link' road road' g.1 g.2

  -- a writer that heard nothing is as before
  unheard_next : (next : Option Answer) (w w' : WriterRecord) (old new : Link I O) → HearsNextAs next w w' old new None → w' ≡ w
  unheard_next (Some x) w w' old new h = absurd (let k : None ≡ Some acted.Moved = h.2 in cc)
  unheard_next None w w' old new h = h.0

  unheard_seen : (found : Looked) (w w' : WriterRecord) (old new : Link I O) → HearsSeen found w w' old new None → w' ≡ w
  unheard_seen looked.Memory w w' old new h = h.0
  unheard_seen looked.Known w w' old new h = unheard_next old.heard.next w w' old new h

  unheard_given : (asked : Bool) (w w' : WriterRecord) (old new : Link I O) → HearsGiven i asked w w' old new None → w' ≡ w
  unheard_given true w w' old new h = unheard_seen h.found w w' h.seen new h.hears
  unheard_given false w w' old new h = h.0

  unheard : (w w' : WriterRecord) (link held : Option (Link I O)) → Hears i w w' link held None → w' ≡ w
  unheard w w' None None h = h.0
  unheard w w' None (Some new) h = absurd h
  unheard w w' (Some old) None h = absurd h
  unheard w w' (Some old) (Some new) h = unheard_given old.asked w w' old new h

  else_on : (heard : Option Acted) (s : Setup) (stamp : Stamp) (linked : Bool) (w after w' : WriterRecord) (link held link' : Option (Link I O)) (desk desk' : D) (road road' : R) (does : Acted) → w.phase ≡ phase.Accepted s stamp → fits_accepted s linked ≡ true → Hears i w after link held heard
      → ElseAsks d r i o heard after w' held link' desk desk' road road' does → LinkPasses r i o held link' road road'
  else_on (Some x) s stamp linked w after w' link held link' desk desk' road road' does h fits hears e = stays r i o held link' road road' e.1 e.3
  else_on None s stamp linked w after w' link held link' desk desk' road road' does h fits hears e =
      asks_on s stamp linked after w' held link' desk desk' road road' does (ap (λ (x : WriterRecord). x.phase) (unheard w after link held hears) ∙ h) fits e

  accepted_on : (s : Setup) (stamp : Stamp) (linked : Bool) (w w' : WriterRecord) (link link' : Option (Link I O)) (desk desk' : D) (road road' : R) (does : Acted) → w.phase ≡ phase.Accepted s stamp → fits_accepted s linked ≡ true → HearsOrAsks d r i o w w' link link' desk desk' road road' does
      → LinkPasses r i o link link' road road'
  accepted_on s stamp linked w w' link link' desk desk' road road' does h fits x =
      passes_on r i o link x.held link' road road road' (hears_on r i o w x.after link x.held road x.heard x.hears) (else_on x.heard s stamp linked w x.after w' link x.held link' desk desk' road road' does h fits x.hears x.else_asks)

  acts_on : (p : Phase) (linked : Bool) (w w' : WriterRecord) (link link' : Option (Link I O)) (desk desk' : D) (road road' : R) (does : Acted) → w.phase ≡ p → IsAsked p linked → Acts d r i o p w w' link link' desk desk' road road' does → LinkPasses r i o link link' road road'
  acts_on (phase.Accepted s stamp) linked w w' link link' desk desk' road road' does at ok h = accepted_on s stamp linked w w' link link' desk desk' road road' does at ok h
  acts_on (phase.Requested s stamp) linked w w' link link' desk desk' road road' does at ok h = on_road r i o link link' road road' h.1.0 (waits_on r i o w w' link link' road does h.1.1)
  acts_on other linked w w' link link' desk desk' road road' does at ok h = absurd ok

  pub settles_on : (keeps : Bool) (link link' : Option (Link I O)) (road road' : R) → Settles r i o keeps link link' road road' → LinkPasses r i o link link' road road'
  settles_on true link link' road road' s = stays r i o link link' road road' s.0 s.1
  settles_on false None link' road road' s = stays r i o None link' road road' s.0 s.1
  settles_on false (Some l) link' road road' s = record {
    pass = pass_brought r i o s.1.shut road road' s.1.result s.1.brings;
    known = λ h. subst (λ (n : Option (Link I O)). LinkIsKnown (r.plain road') n) (sym s.0) tt;
  }

  -- What a step of a setup makes of the roads.
  pub step_pass : (linked : Bool) (w w' : WriterRecord) (link link' : Option (Link I O)) (desk desk' : D) (road road' : R) (lost : Bool) (ends : RebuildStep I O) → IsAsked w.phase linked → Steps d r i o w w' link link' desk desk' road road' lost ends → RoadsPass r road road'
  step_pass linked w w' link link' desk desk' road road' lost ends ok s =
      pass_on r i o road s.middle road' (acts_on w.phase linked w w' link s.held desk desk' road s.middle s.acted refl ok s.acts).pass (settles_on (keeps_link w'.phase) s.held s.kept s.middle road' s.settles.settles).pass

  -- HOW IT ENDS

  -- the connection that is handed over, or this one
  abbrev handed : RebuildStep I O → ConnId → ConnId
  handed (step.Ended (rebuilt.Streaming e incoming)) c = e.id
  handed other c = c

  abbrev stands_on : Conn I O → IncomingState → RebuildStep I O
  stands_on e incoming = step.Ended (rebuilt.Streaming e incoming)

  streams_known : (p : Option Plain) (kept link' : Option (Link I O)) (e : Conn I O) (incoming : IncomingState) → LinkIsKnown p kept → Streams kept link' (stands_on e incoming) → IsKnown p e.id.0
  streams_known p None link' e incoming h s = absurd s
  streams_known p (Some l) link' e incoming h s = id_known p l.end.id e.id (ap (λ (q : RebuildStep I O). handed q e.id) s.1) h

  not_failed : (f : Failure) (e : Conn I O) (incoming : IncomingState) → stands_on e incoming ≡ step.Ended (failed_as f) → ⊥
  not_failed (failure.Abandoned m) e incoming h = cc
  not_failed (failure.AllBad m) e incoming h = cc
  not_failed (failure.Lost recovery) e incoming h = cc
  not_failed (failure.Refused why) e incoming h = cc

  not_moved : (q : Bool) (e : Conn I O) (incoming : IncomingState) → stands_on e incoming ≡ moved_if q → ⊥
  not_moved true e incoming h = cc
  not_moved false e incoming h = cc

  not_seen : (w : WriterRecord) (l : Link I O) (found : Looked) (e : Conn I O) (incoming : IncomingState) → Sees w l found (stands_on e incoming) → ⊥
  not_seen w l looked.Memory e incoming h = cc
  not_seen w l looked.Known e incoming h = not_moved (is_some l.heard.next || has_own_step w) e incoming h

  accepted_known : (s : Setup) (p : Option Plain) (kept link' : Option (Link I O)) (e : Conn I O) (incoming : IncomingState) → LinkIsKnown p kept → ReportsAccepted s kept link' (stands_on e incoming) → IsKnown p e.id.0
  accepted_known setup.Create p kept link' e incoming h m = streams_known p kept link' e incoming h m
  accepted_known other p kept link' e incoming h m = absurd (not_moved true e incoming m.1)

  awaits_known : (w : WriterRecord) (p : Option Plain) (kept link' : Option (Link I O)) (e : Conn I O) (incoming : IncomingState) → Awaits i w kept link' (stands_on e incoming) → IsKnown p e.id.0
  awaits_known w p (Some old) (Some new) e incoming m = absurd (not_seen w new m.found e incoming m.sees)
  awaits_known w p (Some old) None e incoming m = absurd m
  awaits_known w p None link' e incoming m = absurd m

  at_known : (x : Phase) (w : WriterRecord) (p : Option Plain) (kept link' : Option (Link I O)) (e : Conn I O) (incoming : IncomingState) → LinkIsKnown p kept → ReportsAt i x w kept link' (stands_on e incoming) → IsKnown p e.id.0
  at_known (phase.Accepted s stamp) w p kept link' e incoming h m = accepted_known s p kept link' e incoming h m
  at_known phase.Opened w p kept link' e incoming h m = streams_known p kept link' e incoming h m
  at_known (phase.Streaming sent) w p kept link' e incoming h m = streams_known p kept link' e incoming h m
  at_known phase.Finished w p kept link' e incoming h m = absurd (let k : stands_on e incoming ≡ step.Ended rebuilt.Closed = m.1 in cc)
  at_known (phase.Failed f) w p kept link' e incoming h m = absurd (not_failed f e incoming m.1)
  at_known (phase.Requested s stamp) w p kept link' e incoming h m = awaits_known w p kept link' e incoming m
  at_known other w p kept link' e incoming h m = absurd (not_moved (has_own_step w) e incoming m.1)

  reports_known : (does : Acted) (w : WriterRecord) (p : Option Plain) (kept link' : Option (Link I O)) (e : Conn I O) (incoming : IncomingState) → LinkIsKnown p kept → Reports i does w kept link' (stands_on e incoming) → IsKnown p e.id.0
  reports_known acted.Memory w p kept link' e incoming h m = absurd (let k : stands_on e incoming ≡ step.Ended rebuilt.Memory = m.1 in cc)
  reports_known acted.Moved w p kept link' e incoming h m = at_known w.phase w p kept link' e incoming h m
  reports_known acted.Idle w p kept link' e incoming h m = at_known w.phase w p kept link' e incoming h m

  not_memory : (left : Pipe I O) → ◌≡◌ {A = Result (Pipe I O) ClientFault} (Err fault.Memory) (Ok left) → ⊥
  not_memory left h = cc

  pub by_ends : (does : Acted) (w : WriterRecord) (p : Option Plain) (kept : Option (Link I O)) (setup' : Rebuild I O) (ends : RebuildStep I O) (left : Pipe I O) → LinkIsKnown p kept → LinkIsKnown p setup'.link → Reports i does w kept setup'.link ends → piped setup' ends ≡ Ok left → PipeIsKnown p left
  by_ends does w p kept setup' step.Moved left h k m is = same_pipe r i o p left (pipe.SettingUp setup') (sym is) k
  by_ends does w p kept setup' step.Waiting left h k m is = same_pipe r i o p left (pipe.SettingUp setup') (sym is) k
  by_ends does w p kept setup' (step.Ended (rebuilt.Streaming e incoming)) left h k m is = same_pipe r i o p left (pipe.Streaming e incoming) (sym is) (reports_known does w p kept setup'.link e incoming h m)
  by_ends does w p kept setup' (step.Ended rebuilt.Memory) left h k m is = absurd (not_memory left is)
  by_ends does w p kept setup' (step.Ended other) left h k m is = same_pipe r i o p left pipe.Closed (sym is) tt

  -- The connection after a step of its setup is known.
  pub piped_known : (linked : Bool) (w w' : WriterRecord) (link : Option (Link I O)) (setup' : Rebuild I O) (desk desk' : D) (road road' : R) (lost : Bool) (ends : RebuildStep I O) (left : Pipe I O) → IsAsked w.phase linked → Steps d r i o w w' link setup'.link desk desk' road road' lost ends → LinkIsKnown (r.plain road) link → LinkIsKnown (r.plain road') setup'.link
      → piped setup' ends ≡ Ok left → PipeIsKnown (r.plain road') left
  piped_known linked w w' link setup' desk desk' road road' lost ends left ok s h k is =
      let held : LinkIsKnown (r.plain s.middle) s.held = (acts_on w.phase linked w w' link s.held desk desk' road s.middle s.acted refl ok s.acts).known h in
      by_ends s.acted w' (r.plain road') s.kept setup' ends left ((settles_on (keeps_link w'.phase) s.held s.kept s.middle road' s.settles.settles).known held) k s.reports is

pub read_known : {I O : Type 0} (p : Option Plain) (mid left : Pipe I O) → left ≡ read_off mid → PipeIsKnown p mid → PipeIsKnown p left
read_known p (pipe.Streaming e incoming) left is h = subst (PipeIsKnown p) (sym is) h
read_known p (pipe.SettingUp setup) left is h = subst (PipeIsKnown p) (sym is) h
read_known p pipe.Closed left is h = subst (PipeIsKnown p) (sym is) h
