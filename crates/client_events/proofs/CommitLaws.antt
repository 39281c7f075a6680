-- A writer whose request was answered, and what it hears and asks where its stamp is to be committed.
use Rattle.std.proofs.Common.{◌≡◌, ◌≢◌, inl, inr, ◌⊎◌, not, Bool, true, false, if◌then◌else◌, [], slice_get, Option, Some, None, IfOk, Ok, Err, refl, sym, ap, ◌∙◌, subst}
use Rattle.hd_base.specs.Faults.{FaultsIncreased}
use Rattle.hd_base.specs.Links.{Inbox, IsEmptyInbox}
use Rattle.hd_base.specs.declared.links.LinkIn as link_in
use Rattle.hd_base.specs.declared.links.LinkOut as link_out
use Rattle.hd_base.specs.declared.numbers.Stamp.{Stamp}
use Rattle.hd_base.specs.declared.roads.Roads as roads
use Rattle.ack_codec.specs.declared.responses.Response.{Response}
use Rattle.pipe_recovery.specs.FrameFeed.Kinds.{responses}
use Rattle.pipe_recovery.specs.LinkMessages.Next.{Next as Came}
use Rattle.pipe_recovery.specs.LinkMessages.Next.TheVariants as came
use Rattle.pipe_recovery.specs.LinkMessages.Incomings.{IncomingState, nothing_received, coming, FindsNone, NextEnds}
use Rattle.name_core.specs.declared.calls.OfficeAnswer.{OfficeAnswer}
use Rattle.name_core.specs.declared.calls.OfficeAnswer.TheVariants as granted_as
use Rattle.name_core.specs.declared.calls.OfficeCall.{OfficeCall}
use Rattle.name_core.specs.declared.calls.OfficeCall.TheVariants as call
use Rattle.name_core.specs.declared.desks.Desk as desks
use Rattle.name_core.specs.declared.faults.OfficeFault.{OfficeFault}
use Rattle.name_core.specs.declared.faults.OfficeFault.TheVariants as office_fault
use Rattle.name_core.specs.Desks.{FitsCall, IsNothingAnswer}
use Rattle.pipe_recovery.specs.declared.acting.Acted.{Acted}
use Rattle.pipe_recovery.specs.declared.acting.Acted.TheVariants as acted
use Rattle.pipe_recovery.specs.declared.hearing.Answer.{Answer}
use Rattle.pipe_recovery.specs.declared.hearing.Answer.TheVariants as answer
use Rattle.pipe_recovery.specs.declared.hearing.Looked.{Looked}
use Rattle.pipe_recovery.specs.declared.hearing.Looked.TheVariants as looked
use Rattle.pipe_recovery.specs.declared.links.Link.{Link}
use Rattle.pipe_recovery.specs.Asking.{asked_as, IsPut, AsksBy, Asks}
use Rattle.pipe_recovery.specs.Hearing.{HeardState, nothing_heard, answer_of, looked_of, Looks, Receives}
use Rattle.pipe_recovery.specs.Links.{LooksAt}
use Rattle.pipe_recovery.specs.Steps.{fits_accepted, is_stamped, keeps_link, HearsNextAs, HearsSeen, HearsGiven, GoesOn, AsksAndDials, HearsOrAsks, Acts}
use Rattle.road_traffic.specs.Laws.{Took}
use Rattle.member_events.specs.World.Parts.{Told}
use Rattle.member_events.specs.WorldNets.Nets.{held_by}
use Rattle.writer_core.specs.declared.actions.Action.TheVariants as action
use Rattle.writer_core.specs.declared.phases.Phase.{Phase}
use Rattle.writer_core.specs.declared.phases.Phase.TheVariants as phase
use Rattle.writer_core.specs.declared.phases.Setup.{Setup}
use Rattle.writer_core.specs.declared.phases.Setup.TheVariants as setup
use Rattle.writer_core.specs.declared.records.WriterRecord.{WriterRecord}
use Rattle.writer_core.specs.Phases.{remedy_after, remedy_in}
use Rattle.writer_core.specs.Transitions.{Step, step, step_in, own_step, granted, granted_in, commit_given, phase_committed, refused, asks, ended, ended_as}
use Rattle.client_events.specs.Committing.{IsAccepted}
use Rattle.client_events.specs.Completing.{put_as, Puts}
use Rattle.client_events.proofs.AnswerLaws.{fail_decided, first_there}
use Rattle.client_events.proofs.CompleteLaws.{no_memory}

-- WHERE THE WRITER IS

false_true : false ≡ true → ⊥
false_true h = cc

-- The phase of a writer whose request was answered.
pub record AcceptedIn (p : Phase) : Type 0 where
  pub setup : Setup
  pub stamp : Stamp
  pub is : p ≡ phase.Accepted setup stamp

pub accepted_in : (p : Phase) → IsAccepted p → AcceptedIn p
accepted_in (phase.Accepted s stamp) ok = record { setup = s; stamp = stamp; is = refl }
accepted_in other ok = absurd ok

-- the call that commits a writer's stamp
abbrev pub commit_call : WriterRecord → Stamp → OfficeCall
commit_call x stamp = call.Commit x.block stamp x.members

pub commit_step : (x : WriterRecord) (s : Setup) (stamp : Stamp) (linked : Bool) → x.phase ≡ phase.Accepted s stamp → fits_accepted s linked ≡ true → own_step x ≡ step (action.Ask (commit_call x stamp)) x
unfolding own_step
commit_step x setup.Create stamp linked h fits = absurd (false_true fits)
commit_step x other stamp linked h fits = ap (step_in x) h

-- where a writer may be whose stamp was committed, or refused, which has a connection or none
abbrev pub IsCommitted : Phase → Bool → Type 0
IsCommitted phase.Opened linked = linked ≡ true
IsCommitted (phase.Streaming sent) linked = linked ≡ true
IsCommitted phase.Finished linked = linked ≡ false
IsCommitted (phase.Failed f) linked = Unit {0}
IsCommitted other linked = ⊥

not_linked : (linked : Bool) → not linked ≡ true → linked ≡ false
not_linked true h = cc
not_linked false h = refl

committed_phase : (s : Setup) (linked : Bool) → fits_accepted s linked ≡ true → IsCommitted (phase_committed s) linked
committed_phase setup.Create linked h = absurd (false_true h)
committed_phase setup.Append linked h = h
committed_phase setup.AppendRecovery linked h = h
committed_phase setup.StreamRecovery linked h = h
committed_phase setup.CloseRecovery linked h = not_linked linked h

given_commit : (x : WriterRecord) (s : Setup) (stamp : Stamp) (linked : Bool) (a : OfficeAnswer) → fits_accepted s linked ≡ true → IsNothingAnswer a → IsCommitted (commit_given x s stamp a).phase linked
given_commit x setup.Create stamp linked a fits ok = absurd (false_true fits)
given_commit x setup.Append stamp linked granted_as.Nothing fits ok = fits
given_commit x setup.AppendRecovery stamp linked granted_as.Nothing fits ok = fits
given_commit x setup.StreamRecovery stamp linked granted_as.Nothing fits ok = fits
given_commit x setup.CloseRecovery stamp linked granted_as.Nothing fits ok = not_linked linked fits
given_commit x s stamp linked other fits ok = absurd ok

asks_commit : (s : Setup) (stamp : Stamp) (linked : Bool) → fits_accepted s linked ≡ true → asks (phase.Accepted s stamp) ≡ true
asks_commit setup.Create stamp linked fits = absurd (false_true fits)
asks_commit other stamp linked fits = refl

refused_commit : (x : WriterRecord) (e : OfficeFault) (linked : Bool) → (e ≡ office_fault.Memory → ⊥) → IsCommitted (refused x e).phase linked
refused_commit x office_fault.Memory linked never = absurd (never refl)
refused_commit x (office_fault.LeaseLost recovery) linked never = tt
refused_commit x other linked never = tt

pub after_commit : (x : WriterRecord) (s : Setup) (stamp : Stamp) (linked : Bool) (told : Told) → x.phase ≡ phase.Accepted s stamp → fits_accepted s linked ≡ true → put_as told ≡ Ok tt → IfOk told (FitsCall (commit_call x stamp)) → IsCommitted (granted x told).phase linked
unfolding granted
after_commit x s stamp linked (Ok a) h fits put ok = subst (λ (p : Phase). IsCommitted (granted_in x p a).phase linked) (sym h) (given_commit x s stamp linked a fits ok)
after_commit x s stamp linked (Err e) h fits put ok =
    subst (λ (q : Bool). IsCommitted (if q then refused x e else x).phase linked) (sym (ap asks h ∙ asks_commit s stamp linked fits)) (refused_commit x e linked (λ is. no_memory e is put))

not_stamped : (p : Phase) (linked : Bool) → IsCommitted p linked → is_stamped p ≡ false
not_stamped phase.Opened linked ok = refl
not_stamped (phase.Streaming sent) linked ok = refl
not_stamped phase.Finished linked ok = refl
not_stamped (phase.Failed f) linked ok = refl
not_stamped other linked ok = absurd ok

refused_unstamped : (x : WriterRecord) (e : OfficeFault) → is_stamped x.phase ≡ false → is_stamped (refused x e).phase ≡ false
refused_unstamped x office_fault.Memory h = h
refused_unstamped x (office_fault.LeaseLost recovery) h = refl
refused_unstamped x other h = refl

pub told_unstamped : (x : WriterRecord) (s : Setup) (stamp : Stamp) (linked : Bool) (told : Told) → x.phase ≡ phase.Accepted s stamp → fits_accepted s linked ≡ true → IfOk told (FitsCall (commit_call x stamp)) → is_stamped (granted x told).phase ≡ false
unfolding granted
told_unstamped x s stamp linked (Ok a) h fits ok =
    subst (λ (p : Phase). is_stamped (granted_in x p a).phase ≡ false) (sym h) (not_stamped (commit_given x s stamp a).phase linked (given_commit x s stamp linked a fits ok))
told_unstamped x s stamp linked (Err e) h fits ok =
    subst (λ (q : Bool). is_stamped (if q then refused x e else x).phase ≡ false) (sym (ap asks h ∙ asks_commit s stamp linked fits)) (refused_unstamped x e (ap is_stamped h))

-- a writer whose connection ends has none, whatever setup it was
ended_of : (x : WriterRecord) (s : Setup) (stamp : Stamp) → fits_accepted s true ≡ true → x.members ≢ [] → keeps_link (ended_as x (remedy_in (phase.Accepted s stamp))).phase ≡ false
ended_of x setup.CloseRecovery stamp fits some = absurd (false_true fits)
ended_of x other stamp fits some = (fail_decided x (remedy_after other) (slice_get x.members 0) (first_there x.members some)).1

pub commit_ended : (x : WriterRecord) (s : Setup) (stamp : Stamp) → x.phase ≡ phase.Accepted s stamp → fits_accepted s true ≡ true → x.members ≢ [] → keeps_link (ended x).phase ≡ false
unfolding ended
commit_ended x s stamp h fits some = subst (λ (p : Phase). keeps_link (ended_as x (remedy_in p)).phase ≡ false) (sym h) (ended_of x s stamp fits some)

-- WHAT IT HEARS

pub still_empty : (new : IncomingState) (held : Option Inbox) → IsEmptyInbox false held → coming new held ≡ Some (held_by false) → held ≡ Some (held_by false)
still_empty new None empty h = cc
still_empty new (Some inbox) empty h = empty

module _ {I O : Type 0} (i : link_in.Ghosts I) where
  -- Nothing stood next, and the end holds nothing.
  pub record HasNotHeard (known after : WriterRecord) (l held : Link I O) (heard : Option Acted) : Type 0 where
    pub same : after ≡ known
    pub none : heard ≡ None
    pub took : Took i (held_by false) l.end held.end

  -- The link failed, and the writer was told that its connection has ended.
  pub record HasEnded (known after : WriterRecord) (l held : Link I O) (heard : Option Acted) : Type 0 where
    pub told : after ≡ ended known
    pub moved : heard ≡ Some acted.Moved
    pub id : held.end.id ≡ l.end.id
    pub rose : FaultsIncreased (i.faults l.end.inward) (i.faults held.end.inward)

  -- Nothing was heard, or memory ran out, or the link failed.
  abbrev pub HearsNothing : WriterRecord → WriterRecord → Link I O → Link I O → Option Acted → Type 0
  HearsNothing known after l held heard = HasNotHeard known after l held heard ⊎ ((heard ≡ Some acted.Memory) ⊎ HasEnded known after l held heard)

  as_known : (found : Looked) (known after : WriterRecord) (seen held : Link I O) (heard : Option Acted) (next : Option Answer) → found ≡ looked.Known → seen.heard.next ≡ next → HearsSeen found known after seen held heard → HearsNextAs next known after seen held heard
  as_known found known after seen held heard next is stands h =
      let k : HearsNextAs seen.heard.next known after seen held heard = subst (λ (f : Looked). HearsSeen f known after seen held heard) is h in
      subst (λ (n : Option Answer). HearsNextAs n known after seen held heard) stands k

  by_came : (found : Looked) (known after : WriterRecord) (l seen held : Link I O) (heard : Option Acted) (r : Came Response) → i.held l.end.inward ≡ Some (held_by false) → LooksAt i l seen found → NextEnds responses i nothing_received seen.heard.received l.end.inward seen.end.inward r
      → FindsNone false r → seen.heard.next ≡ answer_of r → found ≡ looked_of r → HearsSeen found known after seen held heard → HearsNothing known after l held heard
  by_came found known after l seen held heard (came.Message m) inbox looks ends none stands is h = absurd none
  by_came found known after l seen held heard came.Unreadable inbox looks ends none stands is h = absurd none
  by_came found known after l seen held heard came.End inbox looks ends none stands is h = absurd none
  by_came found known after l seen held heard came.NotYet inbox looks ends none stands is h =
      let t = as_known found known after seen held heard None is stands h in
      let kept : Took i (held_by false) l.end seen.end = record {
        id = looks.kept.id;
        lower = looks.kept.lower;
        outward = looks.kept.outward;
        shut = ends.shut;
        holds = still_empty seen.heard.received (i.held seen.end.inward) ends.comes.0.empty (ends.comes.1 ∙ ap (coming nothing_received) inbox);
      } in
      inl (record { same = t.0; none = t.2; took = subst (λ (z : Link I O). Took i (held_by false) l.end z.end) (sym t.1) kept })
  by_came found known after l seen held heard came.Failed inbox looks ends none stands is h =
      let t = as_known found known after seen held heard (Some answer.Ended) is stands h in
      inr (inr (record {
        told = t.0;
        moved = t.2;
        id = ap (λ (z : Link I O). z.end.id) t.1 ∙ looks.kept.id;
        rose = subst (λ (z : Link I O). FaultsIncreased (i.faults l.end.inward) (i.faults z.end.inward)) (sym t.1) ends.comes.0;
      }))
  by_came found known after l seen held heard came.Memory inbox looks ends none stands is h =
      let t : HearsSeen looked.Memory known after seen held heard = subst (λ (f : Looked). HearsSeen f known after seen held heard) is h in inr (inl t.2)

  -- What a writer hears on a connection on which nothing stands next.
  pub hears_nothing : (asked : Bool) (known after : WriterRecord) (l held : Link I O) (heard : Option Acted) → i.held l.end.inward ≡ Some (held_by false) → l.heard ≡ nothing_heard → HearsGiven i asked known after l held heard → HearsNothing known after l held heard
  hears_nothing true known after l held heard inbox none h =
      let x : Receives i nothing_heard h.seen.heard l.end.inward h.seen.end.inward h.found = subst (λ (s : HeardState). Looks i s.next s h.seen.heard l.end.inward h.seen.end.inward h.found) none h.looks.looks in
      by_came h.found known after l h.seen held heard x.came inbox h.looks x.comes (x.comes.none refl false (ap (coming nothing_received) inbox)) x.stands x.is h.hears
  hears_nothing false known after l held heard inbox none h =
      let kept : Took i (held_by false) l.end l.end = record { id = refl; lower = refl; outward = refl; shut = refl; holds = inbox } in
      inl (record { same = h.0; none = h.2; took = subst (λ (z : Link I O). Took i (held_by false) l.end z.end) (sym h.1) kept })

-- WHAT IT ASKS

pub put_ok : (a : Told) (first : Acted) → first ≡ asked_as a → (first ≡ acted.Memory → ⊥) → Ok tt ≡ put_as a
put_ok (Ok x) first e never = refl
put_ok (Err office_fault.Memory) first e never = absurd (never e)
put_ok (Err other) first e never = refl

put_moved : (a : Told) (first : Acted) → first ≡ asked_as a → (first ≡ acted.Memory → ⊥) → first ≡ acted.Moved
put_moved (Ok x) first e never = e
put_moved (Err office_fault.Memory) first e never = absurd (never e)
put_moved (Err other) first e never = e

module _ {R I O D : Type 0} (r : roads.Ghosts R I O) (i : link_in.Ghosts I) (o : link_out.Ghosts O) (d : desks.Ghosts D) where
  -- The office was asked to commit, and answered.
  pub record HasAsked (c : OfficeCall) (known known' : WriterRecord) (held held' : Option (Link I O)) (desk desk' : D) (road road' : R) (does : Acted) : Type 0 where
    pub puts : Puts d c known known' desk desk' (Ok tt)
    pub fits : IfOk puts.answer (FitsCall c)
    pub link : held' ≡ held
    pub roads_same : road' ≡ road
    pub moved : does ≡ acted.Moved

  pub asks_by : (c : OfficeCall) (x answered : WriterRecord) (desk desk' : D) (first : Acted) → own_step x ≡ step (action.Ask c) x → Asks d (own_step x) x answered desk desk' first → ((answered ≡ x) × (first ≡ acted.Memory)) ⊎ IsPut d c x answered desk desk' first
  asks_by c x answered desk desk' first own (inl u) = inl (u.writer, u.is)
  asks_by c x answered desk desk' first own (inr p) = inr (subst (λ (s : Step). AsksBy d s.action s.writer answered desk desk' first) own p)

  pub goes_not : (answered known' : WriterRecord) (held held' : Option (Link I O)) (road road' : R) (first does : Acted) → is_stamped answered.phase ≡ false → GoesOn r i o (is_stamped answered.phase) answered known' held held' road road' first does → GoesOn r i o false answered known' held held' road road' first does
  goes_not answered known' held held' road road' first does is g = subst (λ (q : Bool). GoesOn r i o q answered known' held held' road road' first does) is g

  asked_as_put : (s : Setup) (stamp : Stamp) (linked : Bool) (known answered known' : WriterRecord) (held held' : Option (Link I O)) (desk desk' : D) (road road' : R) (first does : Acted) → known.phase ≡ phase.Accepted s stamp → fits_accepted s linked ≡ true → (does ≡ acted.Memory → ⊥)
      → GoesOn r i o (is_stamped answered.phase) answered known' held held' road road' first does → ((answered ≡ known) × (first ≡ acted.Memory)) ⊎ IsPut d (commit_call known stamp) known answered desk desk' first → HasAsked (commit_call known stamp) known known' held held' desk desk' road road' does
  asked_as_put s stamp linked known answered known' held held' desk desk' road road' first does h fits never goes (inl u) =
      let g = goes_not answered known' held held' road road' first does (ap (λ (x : WriterRecord). is_stamped x.phase) u.0 ∙ ap is_stamped h) goes in absurd (never (g.3 ∙ u.1))
  asked_as_put s stamp linked known answered known' held held' desk desk' road road' first does h fits never goes (inr p) =
      let g = goes_not answered known' held held' road road' first does (ap (λ (x : WriterRecord). is_stamped x.phase) p.writer ∙ told_unstamped known s stamp linked p.answer h fits p.fits) goes in
      let no : first ≡ acted.Memory → ⊥ = λ e. never (g.3 ∙ e) in record {
        puts = record { answer = p.answer; answers = p.answers; office = p.office; writer = g.0 ∙ p.writer; ends = put_ok p.answer first p.ends no };
        fits = p.fits;
        link = g.1;
        roads_same = g.2;
        moved = g.3 ∙ put_moved p.answer first p.ends no;
      }

  -- What is asked where nothing was heard.
  pub asks_so : (s : Setup) (stamp : Stamp) (linked : Bool) (known known' : WriterRecord) (held held' : Option (Link I O)) (desk desk' : D) (road road' : R) (does : Acted) → known.phase ≡ phase.Accepted s stamp → fits_accepted s linked ≡ true → (does ≡ acted.Memory → ⊥)
      → AsksAndDials d r i o known known' held held' desk desk' road road' does → HasAsked (commit_call known stamp) known known' held held' desk desk' road road' does
  asks_so s stamp linked known known' held held' desk desk' road road' does h fits never a =
      asked_as_put s stamp linked known a.answered known' held held' desk desk' road road' a.first does h fits never a.goes_on
      (asks_by (commit_call known stamp) known a.answered desk desk' a.first (commit_step known s stamp linked h fits) a.asks)

  pub accepted_acts : (p : Phase) (known known' : WriterRecord) (link held : Option (Link I O)) (desk desk' : D) (road road' : R) (does : Acted) → IsAccepted p → Acts d r i o p known known' link held desk desk' road road' does → HearsOrAsks d r i o known known' link held desk desk' road road' does
  accepted_acts (phase.Accepted s stamp) known known' link held desk desk' road road' does ok h = h
  accepted_acts other known known' link held desk desk' road road' does ok h = absurd ok
