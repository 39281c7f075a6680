-- A writer that hears the answer to its request, or the end, and the world after it.
use Rattle.std.proofs.Common.{◌≡◌, ◌≢◌, inl, inr, ◌⊎◌, ℕ, Bool, true, false, List, [], ◌∷◌, position, slice_get, Option, Some, None, refl, sym, ap, ◌∙◌, subst}
use Rattle.std.specs.Prelude.{◌==◌}
use Rattle.std.proofs.lemmas.List.Quantifiers.{position-Some}
use Rattle.std.proofs.lemmas.Option.{none-some, slice_get-get_or}
use Rattle.hd_base.specs.Faults.{FaultsIncreased}
use Rattle.hd_base.specs.declared.links.LinkIn as link_in
use Rattle.hd_base.specs.declared.numbers.NodeId.{NodeId}
use Rattle.ack_codec.specs.ResponseTexts.{response_text}
use Rattle.ack_codec.specs.declared.responses.Response.{Response}
use Rattle.pipe_recovery.specs.FrameFeed.Kinds.{responses}
use Rattle.pipe_recovery.specs.FrameFeed.KindLaws.{responses_sound}
use Rattle.pipe_recovery.specs.LinkMessages.Next.{Next as Came}
use Rattle.pipe_recovery.specs.LinkMessages.Next.TheVariants as came
use Rattle.pipe_recovery.specs.LinkMessages.Incomings.{IncomingState, nothing_received, NextEnds}
use Rattle.member_events.specs.PipeMember.Looked.TheVariants as member_looked
use Rattle.member_events.specs.PipeMember.Looks as member_looks
use Rattle.pipe_recovery.specs.declared.acting.Acted.{Acted}
use Rattle.pipe_recovery.specs.declared.acting.Acted.TheVariants as acted
use Rattle.pipe_recovery.specs.declared.hearing.Answer.{Answer}
use Rattle.pipe_recovery.specs.declared.hearing.Answer.TheVariants as answer
use Rattle.pipe_recovery.specs.declared.hearing.Looked.TheVariants as looked
use Rattle.pipe_recovery.specs.declared.links.Link.{Link}
use Rattle.pipe_recovery.specs.Hearing.{HeardState, nothing_heard, answer_of, looked_of, Receives, Looks, told}
use Rattle.pipe_recovery.specs.Links.{LooksAt}
use Rattle.pipe_recovery.specs.Naming.{is_address, named_member}
use Rattle.pipe_recovery.specs.Steps.{fits_accepted, keeps_link, TakesAs, Takes}
use Rattle.member_events.specs.World.Clients.{writer_hears}
use Rattle.member_events.specs.World.Clients as clients
use Rattle.member_events.specs.World.Parts.{response}
use Rattle.member_events.specs.World.Connections.{Next, message, the_end}
use Rattle.member_events.specs.WorldNets.Nets.{held_by, inbox_for}
use Rattle.member_events.specs.WorldNets.Steps.{is_end}
use Rattle.writer_core.specs.declared.phases.Phase.{Phase}
use Rattle.writer_core.specs.declared.phases.Phase.TheVariants as phase
use Rattle.writer_core.specs.declared.phases.Remedy.{Remedy}
use Rattle.writer_core.specs.declared.phases.Remedy.TheVariants as remedy
use Rattle.writer_core.specs.declared.phases.Setup.{Setup}
use Rattle.writer_core.specs.declared.phases.Setup.TheVariants as setup
use Rattle.writer_core.specs.declared.records.WriterRecord.{WriterRecord}
use Rattle.writer_core.specs.Phases.{remedy_after, remedy_accepted, remedy_in, is_success, bad_place, place_of, without}
use Rattle.writer_core.specs.Transitions.{dropped, fail_named, ended, ended_as, setup_answered, setup_answered_in}
use Rattle.member_events.proofs.TakeLaws.{message_came, end_came}
use Rattle.client_events.specs.Events.{IsAnswerNext, IsNextIn}
use Rattle.client_events.specs.Showing.{awaits}

-- WHERE THE WRITER IS THEN

-- a writer whose setup was answered, or failed
abbrev pub IsDecided : Phase → Type 0
IsDecided (phase.Accepted s stamp) = Unit {0}
IsDecided (phase.Wanted s) = Unit {0}
IsDecided (phase.Failed f) = Unit {0}
IsDecided other = ⊥

pub fail_decided : (x : WriterRecord) (r : Remedy) (o : Option NodeId) → (o ≡ None → ⊥) → IsDecided (fail_named x r o).phase × (keeps_link (fail_named x r o).phase ≡ false)
fail_decided x r None never = absurd (never refl)
fail_decided x remedy.Abandon (Some bad) never = (tt, refl)
fail_decided x (remedy.Recover s) (Some bad) never = go (without x.members bad)
  where
    go : (ms : List NodeId) → IsDecided (dropped x s bad ms).phase × (keeps_link (dropped x s bad ms).phase ≡ false)
    go [] = (tt, refl)
    go (m ∷ ms) = (tt, refl)

pub first_there : (members : List NodeId) → members ≢ [] → slice_get members 0 ≡ None → ⊥
first_there [] some none = some refl
first_there (n ∷ ns) some none = none-some n (sym none)

place_there : (members : List NodeId) (bad : Option NodeId) → members ≢ [] → slice_get members (bad_place members bad) ≡ None → ⊥
place_there members None some none = first_there members some none
place_there members (Some bad) some none = go (position (λ n. n.0 == bad.0) members) refl none
  where
    go : (o : Option ℕ) → position (λ n. n.0 == bad.0) members ≡ o → slice_get members (place_of o) ≡ None → ⊥
    go None is e = first_there members some e
    go (Some i) is e = none-some _ (sym e ∙ slice_get-get_or members i bad (position-Some (λ n. n.0 == bad.0) members i bad is).0)

-- what comes is an answer, or the end
pub answer_comes : (p : Phase) (x : Next) → IsNextIn p x → IsAnswerNext x
answer_comes (phase.Accepted s stamp) (message m) h = absurd h
answer_comes (phase.Accepted s stamp) the_end h = h
answer_comes p x h = h

answer_decides : (x : WriterRecord) (p : Phase) (r : Response) (good : Bool) (bad : Option NodeId) → awaits p ≡ true → IsNextIn p (message (response r)) → x.members ≢ [] → IsDecided (setup_answered_in x p good bad).phase
answer_decides x (phase.Requested s stamp) r true bad waits comes some = tt
answer_decides x (phase.Requested s stamp) r false bad waits comes some = (fail_decided x (remedy_after s) (slice_get x.members (bad_place x.members bad)) (place_there x.members bad some)).0
answer_decides x (phase.Accepted s stamp) r good bad waits comes some = absurd comes
answer_decides x other r good bad waits comes some = cc

accepted_decides : (x : WriterRecord) (s : Setup) → fits_accepted s true ≡ true → x.members ≢ [] → IsDecided (ended_as x (remedy_accepted s)).phase × (keeps_link (ended_as x (remedy_accepted s)).phase ≡ false)
accepted_decides x setup.Create fits some = cc
accepted_decides x setup.CloseRecovery fits some = cc
accepted_decides x s fits some = fail_decided x (remedy_after s) (slice_get x.members 0) (first_there x.members some)

end_decides : (x : WriterRecord) (p : Phase) → awaits p ≡ true → x.members ≢ [] → IsDecided (ended_as x (remedy_in p)).phase × (keeps_link (ended_as x (remedy_in p)).phase ≡ false)
end_decides x (phase.Requested s stamp) waits some = fail_decided x (remedy_after s) (slice_get x.members 0) (first_there x.members some)
end_decides x (phase.Accepted s stamp) waits some = accepted_decides x s waits some
end_decides x other waits some = cc

pub heard_decides : (x : WriterRecord) (n : Next) → awaits x.phase ≡ true → IsNextIn x.phase n → x.members ≢ [] → IsDecided (writer_hears x n).phase
unfolding setup_answered ended
heard_decides x (message (response r)) waits comes some = answer_decides x x.phase r (is_success r.status) (clients.named_member x.members r.first_bad) waits comes some
heard_decides x (message other) waits comes some = absurd (answer_comes x.phase (message other) comes)
heard_decides x the_end waits comes some = (end_decides x x.phase waits some).0

pub end_leaves : (x : WriterRecord) → awaits x.phase ≡ true → x.members ≢ [] → keeps_link (ended x).phase ≡ false
unfolding ended
end_leaves x waits some = (end_decides x x.phase waits some).1

-- WHAT CAME

-- What a writer was told is what stood next, and what is left on its connection.
pub record AnsweredBy {I O : Type 0} (i : link_in.Ghosts I) (x : Next) (known known' : WriterRecord) (l held : Link I O) (ended_so : Acted) : Type 0 where
  pub tells : Answer
  pub told_is : known' ≡ told known tells
  pub moved : ended_so ≡ acted.Moved
  pub writer : known' ≡ writer_hears known x
  pub id : held.end.id ≡ l.end.id
  pub lower : held.end.lower ≡ l.end.lower
  pub outward : held.end.outward ≡ l.end.outward
  pub shut : i.shut held.end.inward ≡ i.shut l.end.inward
  pub holds : i.held held.end.inward ≡ Some (held_by (is_end x))
  pub heard : is_end x ≡ false → held.heard ≡ nothing_heard

-- The link failed, and the writer was told that its connection has ended.
pub record FailedLink {I O : Type 0} (i : link_in.Ghosts I) (known known' : WriterRecord) (l held : Link I O) (ended_so : Acted) : Type 0 where
  pub tells : Answer
  pub told_is : known' ≡ told known tells
  pub moved : ended_so ≡ acted.Moved
  pub rose : FaultsIncreased (i.faults l.end.inward) (i.faults held.end.inward)
  pub writer : known' ≡ ended known
  pub id : held.end.id ≡ l.end.id

same_member : (members : List NodeId) (text : List ℕ) → named_member members text ≡ clients.named_member members text
unfolding is_address
same_member members text = refl

pub true_false : true ≡ false → ⊥
true_false h = cc

-- what was received, and nothing that was looked at
abbrev with_received : IncomingState → HeardState
with_received s = record { received = s; next = None }

-- where the end stands next it comes
found_none : {I : Type 0} (i : link_in.Ghosts I) (r : Came Response) (received : IncomingState) (half half' : I) → i.held half ≡ Some (inbox_for the_end) → NextEnds responses i nothing_received received half half' r → looked.Known ≡ looked_of r → answer_of r ≡ None → ⊥
found_none i (came.Message m) received half half' held ends known_so none = cc
found_none i came.Unreadable received half half' held ends known_so none = cc
found_none i came.End received half half' held ends known_so none = cc
found_none i came.Failed received half half' held ends known_so none = cc
found_none i came.NotYet received half half' held ends known_so none = let e : ◌≡◌ {A = Came Response} came.NotYet came.End = (end_came responses i received half half' came.NotYet held ends refl).is in cc
found_none i came.Memory received half half' held ends known_so none = cc

module _ {I O : Type 0} (i : link_in.Ghosts I) where
  takes_as : (known known' : WriterRecord) (seen held : Link I O) (a : Answer) (ended_so : Acted) → seen.heard.next ≡ Some a → Takes known known' seen held ended_so → TakesAs (Some a) known known' seen held ended_so
  takes_as known known' seen held a ended_so is t = subst (λ (n : Option Answer). TakesAs n known known' seen held ended_so) is t

  -- the half of what was taken
  from_taken : (x : Next) (known known' : WriterRecord) (l seen held : Link I O) (a : Answer) (ended_so : Acted) → LooksAt i l seen looked.Known → i.shut seen.end.inward ≡ i.shut l.end.inward → i.held seen.end.inward ≡ Some (held_by (is_end x))
      → TakesAs (Some a) known known' seen held ended_so → told known a ≡ writer_hears known x → (is_end x ≡ false → seen.heard.received ≡ nothing_received) → AnsweredBy i x known known' l held ended_so
  from_taken x known known' l seen held a ended_so looks shut holds t is none = record {
    tells = a;
    told_is = t.0;
    moved = t.2;
    writer = t.0 ∙ is;
    id = ap (λ (z : Link I O). z.end.id) t.1 ∙ looks.kept.id;
    lower = ap (λ (z : Link I O). z.end.lower) t.1 ∙ looks.kept.lower;
    outward = ap (λ (z : Link I O). z.end.outward) t.1 ∙ looks.kept.outward;
    shut = ap (λ (z : Link I O). i.shut z.end.inward) t.1 ∙ shut;
    holds = ap (λ (z : Link I O). i.held z.end.inward) t.1 ∙ holds;
    heard = λ e. ap (λ (z : Link I O). z.heard) t.1 ∙ ap with_received (none e);
  }

  given_by : (x : Next) (known known' : WriterRecord) (l seen held : Link I O) (ended_so : Acted) (r : Came Response) → IsAnswerNext x → i.held l.end.inward ≡ Some (inbox_for x) → LooksAt i l seen looked.Known
      → NextEnds responses i nothing_received seen.heard.received l.end.inward seen.end.inward r → seen.heard.next ≡ answer_of r → member_looks.looked_of r ≡ member_looked.Known → Takes known known' seen held ended_so → AnsweredBy i x known known' l held ended_so
  given_by (message (response m)) known known' l seen held ended_so r spelled inbox looks ends next fine t =
      let k = message_came responses i responses_sound m (response_text m) seen.heard.received l.end.inward seen.end.inward r spelled inbox ends fine in
      from_taken (message (response m)) known known' l seen held (answer.Given m) ended_so looks ends.shut k.holds (takes_as known known' seen held (answer.Given m) ended_so (next ∙ ap answer_of k.is) t)
      (ap (setup_answered known m) (same_member known.members m.first_bad)) (λ e. k.received)
  given_by (message other) known known' l seen held ended_so r spelled inbox looks ends next fine t = absurd spelled
  given_by the_end known known' l seen held ended_so r spelled inbox looks ends next fine t =
      let k = end_came responses i seen.heard.received l.end.inward seen.end.inward r inbox ends fine in
      from_taken the_end known known' l seen held answer.Ended ended_so looks ends.shut k.holds (takes_as known known' seen held answer.Ended ended_so (next ∙ ap answer_of k.is) t)
      refl (λ e. absurd (true_false e))

  answered_as : (x : Next) (known known' : WriterRecord) (l seen held : Link I O) (ended_so : Acted) (r : Came Response) → IsAnswerNext x → i.held l.end.inward ≡ Some (inbox_for x) → LooksAt i l seen looked.Known
      → NextEnds responses i nothing_received seen.heard.received l.end.inward seen.end.inward r → seen.heard.next ≡ answer_of r → looked.Known ≡ looked_of r → Takes known known' seen held ended_so → AnsweredBy i x known known' l held ended_so ⊎ FailedLink i known known' l held ended_so
  answered_as x known known' l seen held ended_so (came.Message m) spelled inbox looks ends next known_so t = inl (given_by x known known' l seen held ended_so (came.Message m) spelled inbox looks ends next refl t)
  answered_as x known known' l seen held ended_so came.Unreadable spelled inbox looks ends next known_so t = inl (given_by x known known' l seen held ended_so came.Unreadable spelled inbox looks ends next refl t)
  answered_as x known known' l seen held ended_so came.End spelled inbox looks ends next known_so t = inl (given_by x known known' l seen held ended_so came.End spelled inbox looks ends next refl t)
  answered_as x known known' l seen held ended_so came.NotYet spelled inbox looks ends next known_so t = inl (given_by x known known' l seen held ended_so came.NotYet spelled inbox looks ends next refl t)
  answered_as x known known' l seen held ended_so came.Failed spelled inbox looks ends next known_so t =
      let s = takes_as known known' seen held answer.Ended ended_so next t in
      inr (record {
        tells = answer.Ended;
        told_is = s.0;
        moved = s.2;
        rose = subst (λ (z : Link I O). FaultsIncreased (i.faults l.end.inward) (i.faults z.end.inward)) (sym s.1) ends.comes.0;
        writer = s.0;
        id = ap (λ (z : Link I O). z.end.id) s.1 ∙ looks.kept.id;
      })
  answered_as x known known' l seen held ended_so came.Memory spelled inbox looks ends next known_so t = cc

  -- What a look and a take make of the writer and its connection.
  pub answered : (x : Next) (known known' : WriterRecord) (l seen held : Link I O) (ended_so : Acted) → IsAnswerNext x → i.held l.end.inward ≡ Some (inbox_for x) → l.heard ≡ nothing_heard → LooksAt i l seen looked.Known → Takes known known' seen held ended_so
      → AnsweredBy i x known known' l held ended_so ⊎ FailedLink i known known' l held ended_so
  answered x known known' l seen held ended_so spelled inbox none looks t =
      let r : Receives i nothing_heard seen.heard l.end.inward seen.end.inward looked.Known = subst (λ (h : HeardState). Looks i h.next h seen.heard l.end.inward seen.end.inward looked.Known) none looks.looks in
      answered_as x known known' l seen held ended_so r.came spelled inbox looks r.comes r.stands r.is t

  -- Where the end stands next a look finds something.
  pub finds : (l seen : Link I O) → i.held l.end.inward ≡ Some (inbox_for the_end) → l.heard ≡ nothing_heard → LooksAt i l seen looked.Known → seen.heard.next ≡ None → ⊥
  finds l seen held none looks e =
      let r : Receives i nothing_heard seen.heard l.end.inward seen.end.inward looked.Known = subst (λ (h : HeardState). Looks i h.next h seen.heard l.end.inward seen.end.inward looked.Known) none looks.looks in
      found_none i r.came seen.heard.received l.end.inward seen.end.inward held r.comes r.is (sym r.stands ∙ e)
