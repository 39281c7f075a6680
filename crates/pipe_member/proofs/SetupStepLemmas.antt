-- The setup of a member as the step of its request.
use Rattle.std.proofs.Common.{◌≡◌, ◌≢◌, inl, inr, ◌==◌, ◌≤◌, ◌+◌, ◌-◌, ◌^◌, min, arith, ℕ, Bool, true, false, List, [], ◌∷◌, length, Option, Some, None, IsSome, IsOk, Ok, Err, refl, sym, ap, ◌∙◌, subst}
use Rattle.std.proofs.lemmas.Bool.Decides.{nat_tests}
use Rattle.hd_base.specs.Faults.{FaultsIncreased}
use Rattle.hd_base.specs.declared.ends.Conn.{Conn}
use Rattle.hd_base.specs.declared.files.Files as files
use Rattle.hd_base.specs.declared.links.LinkIn as link_in
use Rattle.hd_base.specs.declared.links.LinkOut as link_out
use Rattle.hd_base.specs.declared.numbers.ConnId.{ConnId}
use Rattle.hd_base.specs.declared.numbers.Receipt.{Receipt}
use Rattle.hd_base.specs.declared.roads.Roads as roads
use Rattle.link_pieces.specs.Pieces.{SendsNothing}
use Rattle.op_headers.specs.Values.{WriteFields}
use Rattle.op_headers.specs.declared.nodes.NodeRef.{NodeRef}
use Rattle.replica_core.specs.declared.events.Answer.{Answer}
use Rattle.replica_core.specs.declared.events.Answer.TheVariants as answer
use Rattle.replica_core.specs.declared.events.Event.{Event}
use Rattle.replica_core.specs.declared.records.ReplicaRecord.{ReplicaRecord}
use Rattle.replica_core.specs.declared.refusals.Refusal.{Refusal}
use Rattle.replica_core.specs.Transitions.{Outcome, transition, reply, answer_of}
use Rattle.replica_core.specs.Views.{rule_in}
use Rattle.pipe_setup.specs.ReplicaModel.ReplicaEvent.TheVariants as replica_event
use Rattle.pipe_setup.specs.ReplicaModel.Rows.{FullReplica, row, row_answer}
use Rattle.pipe_setup.specs.ReplicaFiles.BookState.{BookState}
use Rattle.pipe_setup.specs.ReplicaFiles.Books.{replica_of}
use Rattle.pipe_setup.specs.ReplicaFiles.Endings.{BookEnds}
use Rattle.pipe_setup.specs.ReplicaFiles.BookFault.TheVariants as fault
use Rattle.pipe_setup.proofs.ReplicaFiles.BookLemmas.{noted}
use Rattle.pipe_setup.proofs.ReplicaFiles.StepLemmas.{is_refused}
use Rattle.pipe_setup.specs.RequestRefusals.RequestRefusal.{RequestRefusal}
use Rattle.pipe_setup.specs.RequestRefusals.RequestRefusal.TheVariants as request
use Rattle.pipe_setup.specs.MemberCore.Effect.{Effect}
use Rattle.pipe_setup.specs.MemberCore.Shuts.{Shuts}
use Rattle.pipe_setup.specs.MemberCore.Shuts.TheVariants as shuts
use Rattle.pipe_setup.specs.MemberCore.Upward.{Upward}
use Rattle.pipe_setup.specs.MemberCore.Members.{MemberState, set_up, set_up_at, mirror_for, refused_setup}
use Rattle.pipe_setup.specs.MemberCore.Requests.{request_event}
use Rattle.pipe_setup.specs.MemberCore.Steps.{Setup, request_at, booked_request, refused_request, taken_request, request_step, refused_by}
use Rattle.pipe_setup.specs.declared.refusals.SetupRefusal.TheVariants as setup_refusal
use Rattle.pipe_setup.specs.declared.setups.Setup as local
use Rattle.pipe_setup.specs.declared.setups.Setup.TheVariants as setup
use Rattle.pipe_setup.specs.Setups.{SetsUpBy, HasTarget}
use Rattle.pipe_turns.specs.declared.turning.Done.{Done}
use Rattle.pipe_turns.specs.declared.turning.Done.TheVariants as done
use Rattle.pipe_turns.specs.Acting.{ShutsMirror, texts_of, shuts_up, with_half}
use Rattle.pipe_turns.specs.Turning.{SendsAlone}
use Rattle.pipe_member.specs.declared.member.Member.{Member}
use Rattle.pipe_member.specs.declared.stages.Stage.{Stage}
use Rattle.pipe_member.specs.declared.stages.Stage.TheVariants as stage
use Rattle.pipe_member.specs.declared.stepped.Stepped.{Stepped}
use Rattle.pipe_member.specs.declared.stepped.Stepped.TheVariants as stepped
use Rattle.pipe_member.specs.Refusing.{refused_in}
use Rattle.pipe_member.specs.Steps.{stage_after, stepped_of, loses_upstream}
use Rattle.pipe_member.specs.Setups.{opened, first_by, asked_if, Says, Opens, Waits, with_mirror, with_outward, FollowsSetup, RefusalEnds, IsShutBy, is_memory}
use Rattle.pipe_member.specs.Stepping.{HasSent, Tells}
use Rattle.pipe_member.specs.EventSteps.{HoldsMirror}
use Rattle.pipe_member.specs.SetupSteps.{was_answered, setup_by, IsSetup, IsNewRequest, SetupsAreSteps, RefusalsAreSteps}
use Rattle.pipe_member.proofs.SteppingLemmas.{told_end, alone_says, alone_fails, refused_alone, file_alone, mirror_alone}
use Rattle.pipe_member.proofs.RuledTurns.{Has}
use Rattle.pipe_member.proofs.EventStepLemmas.{holds_after, holds_open, shut_there}

-- ---- what the replica answers

pub unrefused_by : (r : FullReplica) (e : Event) (a : Answer) → a ≡ row_answer r (replica_event.Other e) → IsOk (transition r.known e) → refused_by a ≡ None
unrefused_by r e (answer.Refused x) is takes = absurd (never (transition r.known e) x takes (is_refused r.known e (answer.Refused x) x is refl))
  where
    never : (out : Outcome) (x : Refusal) → IsOk out → Err x ≡ reply out → ⊥
    never (Ok t) x is e = cc
    never (Err y) x is e = cc
unrefused_by r e other is takes = refl

pub refused_as : (r : FullReplica) (e : Event) (why : Refusal) → transition r.known e ≡ Err why → refused_by (row_answer r (replica_event.Other e)) ≡ Some (request.Core why)
refused_as r e why is = ap (λ (o : Outcome). refused_by (answer_of (reply o))) is

pub refused_none : (o : Outcome) → IsOk o → refused_in o ≡ None
refused_none (Ok t) is = refl
refused_none (Err y) is = cc

pub refused_some : (o : Outcome) (why : Refusal) → o ≡ Err why → refused_in o ≡ Some why
refused_some o why is = ap refused_in is

-- ---- the step

request_leads : (conn : ConnId) (op : WriteFields) (answered : Bool) (r : FullReplica) (e : Event) (why : Option RequestRefusal) → request_event conn op (rule_in r.known) ≡ Ok e
    → refused_by (row_answer r (replica_event.Other e)) ≡ why → request_step conn op answered r ≡ booked_request conn op answered (row r (replica_event.Other e)) why
request_leads conn op answered r e why is says = ap (request_at conn op answered r) is ∙ ap (booked_request conn op answered (row r (replica_event.Other e))) says

not_file : (d : Done) (s : Shuts) (conn : ConnId) (op : WriteFields) (answered : Bool) (r : FullReplica) → ((receipt : Receipt) → d ≢ done.File receipt) → setup_by (stepped_of d s) conn op answered r ≡ request_step conn op answered r
not_file (done.File receipt) s conn op answered r never = absurd (never receipt refl)
not_file (done.LinkFailed receipt) s conn op answered r never = refl
not_file done.Memory s conn op answered r never = refl
not_file (done.Taken receipt) shuts.Nothing conn op answered r never = refl
not_file (done.Taken receipt) shuts.Mirror conn op answered r never = refl
not_file (done.Taken receipt) shuts.Both conn op answered r never = refl
not_file (done.Refused why receipt) shuts.Nothing conn op answered r never = refl
not_file (done.Refused why receipt) shuts.Mirror conn op answered r never = refl
not_file (done.Refused why receipt) shuts.Both conn op answered r never = refl
not_file (done.MirrorFailed receipt) shuts.Nothing conn op answered r never = refl
not_file (done.MirrorFailed receipt) shuts.Mirror conn op answered r never = refl
not_file (done.MirrorFailed receipt) shuts.Both conn op answered r never = refl

-- ---- what is said

rises_from : (a b c : ℕ) → a ≤ b → FaultsIncreased b c → FaultsIncreased a c
rises_from a b c le rose = later a b (2 ^ 64 - 1) c le rose
  where
    later : (x y top z : ℕ) → x ≤ y → min (y + 1) top ≤ z → min (x + 1) top ≤ z
    later x y top z one two = omega arith

module _ {O : Type 0} (o : link_out.Ghosts O) where
  sent_before : (text : Option (List ℕ)) (old mid new : O) → o.sent mid ≡ o.sent old → o.faults old ≤ o.faults mid → Tells o text mid new → Tells o text old new
  sent_before text old mid new same le (inl sent) = inl (subst (λ (x : Option (List (List ℕ))). HasSent x (o.sent new) text) same sent)
  sent_before text old mid new same le (inr rose) = inr (rises_from _ _ _ le rose)

  says_tells : (text : Option (List ℕ)) (receipt : Receipt) (old new : O) (d : Done) → Says o text receipt old new d → Tells o text old new
  says_tells None receipt old new d h = inl (ap o.sent h.1)
  says_tells (Some text) receipt old new (done.Taken r) h = inl h.1.sent
  says_tells (Some text) receipt old new (done.LinkFailed r) h = inr h.1.rose
  says_tells (Some text) receipt old new (done.Refused why r) h = absurd h
  says_tells (Some text) receipt old new (done.File r) h = absurd h
  says_tells (Some text) receipt old new (done.MirrorFailed r) h = absurd h
  says_tells (Some text) receipt old new done.Memory h = absurd h

  says_no_fault : (text : Option (List ℕ)) (receipt r : Receipt) (old new : O) (d : Done) → Says o text receipt old new d → d ≢ done.File r
  says_no_fault None receipt r old new d h is = let e = sym h.0 ∙ is in cc
  says_no_fault (Some text) receipt r old new (done.File x) h is = absurd h
  says_no_fault (Some text) receipt r old new (done.Taken x) h is = cc
  says_no_fault (Some text) receipt r old new (done.LinkFailed x) h is = cc
  says_no_fault (Some text) receipt r old new (done.Refused why x) h is = cc
  says_no_fault (Some text) receipt r old new (done.MirrorFailed x) h is = cc
  says_no_fault (Some text) receipt r old new done.Memory h is = cc

module _ {I O : Type 0} (o : link_out.Ghosts O) where
  -- what a member that opens says
  opens_tell : (text : Option (List ℕ)) (receipt : Receipt) (st : Stage) (s : Shuts) (old new : Member I O) (half : O) (result : Stepped) → SendsNothing o old.upstream.outward half
      → Opens o text receipt st s (with_outward old half) new result → Tells o text old.upstream.outward new.upstream.outward
  opens_tell text receipt st s old new half result quiet x =
      told_end o text (loses_upstream x.done) old.upstream.outward x.upper new.upstream
      (told_end o text (shuts_up s) old.upstream.outward (with_half old.upstream x.half) x.upper (sent_before o text old.upstream.outward half x.half quiet.sent quiet.kept.never_falls (says_tells o text receipt half x.half x.done x.says)) x.shut)
      x.follows.upper

  no_mirror : (closes : Bool) (old new : Option (Conn I O)) (m : MemberState) → old ≡ None → ShutsMirror o closes old new → IsSome new → Has m.mirror
  no_mirror closes old new m none shut there = let k : IsSome {T = Conn I O} None = subst IsSome none (shut_there o closes old new shut there) in cc

-- a member with a target says nothing yet, and has a mirror
pub awaits : (conn : ConnId) (op : WriteFields) (answered : Bool) → HasTarget op → ((set_up conn op answered).1.sends ≡ None) × ((set_up conn op answered).1.shuts ≡ shuts.Nothing) × Has (set_up conn op answered).0.mirror
unfolding set_up
awaits conn op answered some = by_targets op.targets answered some
  where
    by_targets : (targets : List NodeRef) (answered : Bool) → targets ≢ []
        → ((set_up_at (mirror_for (length targets) answered) op conn).1.sends ≡ None) × ((set_up_at (mirror_for (length targets) answered) op conn).1.shuts ≡ shuts.Nothing) × Has (set_up_at (mirror_for (length targets) answered) op conn).0.mirror
    by_targets [] answered some = absurd (some refl)
    by_targets (t ∷ ts) true some = let apart : (length (t ∷ ts) == 0) ≡ false = grind (arith, nat_tests) in rw apart (refl, refl, refl)
    by_targets (t ∷ ts) false some = let apart : (length (t ∷ ts) == 0) ≡ false = grind (arith, nat_tests) in rw apart (refl, refl, refl)

-- ---- the setup

module _ {F I O : Type 0} (f : files.Ghosts F) (o : link_out.Ghosts O) (e : Event) (old new : Member I O) (half : O) (book book' : BookState F) (result : Stepped) where
  pub leads_to : (answered : Bool) (why : Option RequestRefusal) → IsNewRequest (Ok e) old book result → refused_by (row_answer (replica_of book) (replica_event.Other e)) ≡ why
      → request_step old.upstream.id old.op answered (replica_of book) ≡ booked_request old.upstream.id old.op answered (row (replica_of book) (replica_event.Other e)) why
  leads_to answered why asked says =
      request_leads old.upstream.id old.op answered (replica_of book) e why (subst (λ (c : ReplicaRecord). request_event old.upstream.id old.op (rule_in c) ≡ Ok e) asked.of_history asked.event_is) says

  -- how an opening ended that isn't a failed call on files
  opens_by : (text : Option (List ℕ)) (receipt : Receipt) (st : Stage) (s : Shuts) → Opens o text receipt st s (with_outward old half) new result
      → setup_by result old.upstream.id old.op false (replica_of book) ≡ request_step old.upstream.id old.op false (replica_of book)
  opens_by text receipt st s x =
      ap (λ (y : Stepped). setup_by y old.upstream.id old.op false (replica_of book)) x.follows.answer
      ∙ not_file x.done s old.upstream.id old.op false (replica_of book) (λ fault. says_no_fault o text receipt fault half x.half x.done x.says)

  last_leads : (receipt : Receipt) → IsNewRequest (Ok e) old book result → SendsNothing o old.upstream.outward half → BookEnds f book book' (replica_event.Other e) (Ok receipt)
      → FollowsSetup {I = I} o (opened old.upstream.id old.op (transition book.replica e)) (setup.Last receipt) (with_outward old half) new result
      → IsSetup o (setup_by result old.upstream.id old.op false (replica_of book)) old new book' × HoldsMirror new.stage new.mirror
  last_leads receipt asked quiet ends x =
      let u : MemberState × Effect = set_up old.upstream.id old.op false in
      let takes : IsOk (transition book.replica e) = subst (λ (c : ReplicaRecord). IsOk (transition c e)) (sym asked.of_history) ends.takes in
      let text = ap (λ (w : Option Refusal). texts_of old.op (first_by w u.1).sends) (refused_none (transition book.replica e) takes) in
      let s : Setup = taken_request (row (replica_of book) (replica_event.Other e)) u in
      let here : IsSetup o s old new book' = record {
        member = x.follows.stage;
        replica = noted book book' (replica_event.Other e) false receipt ends.noted;
        told = subst (λ (t : Option (List ℕ)). Tells o t old.upstream.outward new.upstream.outward) text (opens_tell o _ receipt _ _ old new half result quiet x);
      } in (
        subst (λ (y : Setup). IsSetup o y old new book') (sym (opens_by _ receipt _ _ x ∙ leads_to false None asked (unrefused_by (replica_of book) e _ refl ends.takes))) here,
        subst (λ (st : Stage). HoldsMirror st new.mirror) (sym x.follows.stage) (holds_after u.0 u.1.shuts new.mirror (no_mirror o _ old.mirror new.mirror u.0 asked.mirror x.follows.lower)),
      )

  refused_leads : (why : Refusal) (receipt : Receipt) → IsNewRequest (Ok e) old book result → SendsNothing o old.upstream.outward half → BookEnds f book book' (replica_event.Other e) (Err (fault.Refused why receipt))
      → Opens o (opened old.upstream.id old.op (transition book.replica e)).answer receipt stage.Shut shuts.Both (with_outward old half) new result
      → IsSetup o (setup_by result old.upstream.id old.op false (replica_of book)) old new book' × HoldsMirror new.stage new.mirror
  refused_leads why receipt asked quiet ends x =
      let refuses : transition book.replica e ≡ Err why = subst (λ (c : ReplicaRecord). transition c e ≡ Err why) (sym asked.of_history) ends.refused in
      let text = ap (λ (w : Option Refusal). texts_of old.op (first_by w (set_up old.upstream.id old.op false).1).sends) (refused_some (transition book.replica e) why refuses) in
      let s : Setup = refused_request (row (replica_of book) (replica_event.Other e)) (request.Core why) in
      let here : IsSetup o s old new book' = record {
        member = x.follows.stage;
        replica = noted book book' (replica_event.Other e) false receipt ends.noted;
        told = subst (λ (t : Option (List ℕ)). Tells o t old.upstream.outward new.upstream.outward) text (opens_tell o _ receipt _ _ old new half result quiet x);
      } in (
        subst (λ (y : Setup). IsSetup o y old new book') (sym (opens_by _ receipt _ _ x ∙ leads_to false (Some (request.Core why)) asked (refused_as (replica_of book) e why ends.refused))) here,
        subst (λ (st : Stage). HoldsMirror st new.mirror) (sym x.follows.stage) tt,
      )

  failed_leads : (receipt : Receipt) → SendsNothing o old.upstream.outward half → BookEnds f book book' (replica_event.Other e) (Err (fault.File receipt))
      → FollowsSetup {I = I} o (opened old.upstream.id old.op (transition book.replica e)) (setup.File receipt) (with_outward old half) new result
      → IsSetup o (setup_by result old.upstream.id old.op false (replica_of book)) old new book' × HoldsMirror new.stage new.mirror
  failed_leads receipt quiet ends x =
      let here : IsSetup o (setup_by (stepped.File receipt) old.upstream.id old.op false (replica_of book)) old new book' = record {
        member = x.says.follows.stage;
        replica = noted book book' (replica_event.Other e) true receipt ends.noted;
        told = opens_tell o _ receipt _ _ old new half x.answer quiet x.says;
      } in (
        subst (λ (y : Stepped). IsSetup o (setup_by y old.upstream.id old.op false (replica_of book)) old new book') (sym x.is) here,
        subst (λ (st : Stage). HoldsMirror st new.mirror) (sym x.says.follows.stage) tt,
      )

  pub waits_lead : (answered : Bool) (core : MemberState) (mid : Member I O) (receipt : Receipt) → IsNewRequest (Ok e) old book result → SendsNothing o old.upstream.outward half
      → BookEnds f book book' (replica_event.Other e) (Ok receipt) → HasTarget old.op → core ≡ (set_up old.upstream.id old.op answered).0 → mid.upstream ≡ with_half old.upstream half → Waits o receipt core mid new result
      → IsSetup o (setup_by result old.upstream.id old.op answered (replica_of book)) old new book' × HoldsMirror new.stage new.mirror
  waits_lead answered core mid receipt asked quiet ends some is same x =
      let u : MemberState × Effect = set_up old.upstream.id old.op answered in
      let w = awaits old.upstream.id old.op answered some in
      let stays : new.stage ≡ stage.Open u.0 = x.stage ∙ ap stage.Open is in
      let s : Setup = taken_request (row (replica_of book) (replica_event.Other e)) u in
      let here : IsSetup o s old new book' = record {
        member = stays ∙ sym (ap (stage_after u.0) w.1);
        replica = noted book book' (replica_event.Other e) false receipt ends.noted;
        told = subst (λ (y : Option Upward). Tells o (texts_of old.op y) old.upstream.outward new.upstream.outward) (sym w.0) (inl (ap (λ (end : Conn I O). o.sent end.outward) (x.upper ∙ same) ∙ quiet.sent));
      } in (
        subst (λ (y : Setup). IsSetup o y old new book') (sym (ap (λ (y : Stepped). setup_by y old.upstream.id old.op answered (replica_of book)) x.answer ∙ leads_to answered None asked (unrefused_by (replica_of book) e _ refl ends.takes))) here,
        subst (λ (st : Stage). HoldsMirror st new.mirror) (sym stays) (holds_open u.0 new.mirror (λ there. w.2)),
      )

core_if : (conn : ConnId) (op : WriteFields) (out : Outcome) (answered : Bool) → asked_if (opened conn op out) answered ≡ (set_up conn op answered).0
core_if conn op out true = refl
core_if conn op out false = refl

module _ {F R I O : Type 0} (f : files.Ghosts F) (r : roads.Ghosts R I O) (i : link_in.Ghosts I) (o : link_out.Ghosts O) where
  by_ended : (e : Event) (old new : Member I O) (half : O) (book book' : BookState F) (roads roads' : R) (result : Stepped) (ended : local.Setup I O) → IsNewRequest (Ok e) old book result → SendsNothing o old.upstream.outward half
      → SetsUpBy f r i o old.node old.op e book book' roads roads' ended → FollowsSetup o (opened old.upstream.id old.op (transition book.replica e)) ended (with_outward old half) new result
      → IsSetup o (setup_by result old.upstream.id old.op (was_answered ended) (replica_of book)) old new book' × HoldsMirror new.stage new.mirror
  by_ended e old new half book book' roads roads' result (setup.Last receipt) asked quiet sets x = last_leads f o e old new half book book' result receipt asked quiet sets.booked x
  by_ended e old new half book book' roads roads' result (setup.Mirrored receipt end) asked quiet sets x =
      waits_lead f o e old new half book book' result true _ (with_mirror (with_outward old half) end) receipt asked quiet sets.booked sets.goes_on.0 refl refl x
  by_ended e old new half book book' roads roads' result (setup.MirrorDown receipt answered) asked quiet sets x =
      waits_lead f o e old new half book book' result answered _ (with_outward old half) receipt asked quiet sets.booked sets.goes_on.0 (core_if old.upstream.id old.op (transition book.replica e) answered) refl x
  by_ended e old new half book book' roads roads' result (setup.Refused (setup_refusal.Core why receipt)) asked quiet sets x = refused_leads f o e old new half book book' result why receipt asked quiet sets.booked x
  by_ended e old new half book book' roads roads' result (setup.Refused (setup_refusal.Stage n)) asked quiet sets x = absurd sets.booked
  by_ended e old new half book book' roads roads' result (setup.Refused setup_refusal.Pool) asked quiet sets x = absurd sets.booked
  by_ended e old new half book book' roads roads' result (setup.Refused (setup_refusal.Checksum k c)) asked quiet sets x = absurd sets.booked
  by_ended e old new half book book' roads roads' result (setup.Refused (setup_refusal.TooMany n)) asked quiet sets x = absurd sets.booked
  by_ended e old new half book book' roads roads' result (setup.File receipt) asked quiet sets x = failed_leads f o e old new half book book' result receipt quiet sets.booked x
  by_ended e old new half book book' roads roads' result (setup.Memory None) asked quiet sets x = absurd (asked.found_memory x.1)
  by_ended e old new half book book' roads roads' result (setup.Memory (Some receipt)) asked quiet sets x = absurd (asked.found_memory x.1)

  pub setups_step : SetupsAreSteps F R I O f r i o
  setups_step e old new book book' roads roads' result asked x = by_ended e old new x.half book book' roads roads' result x.ended asked x.quiet x.sets_up x.follows

-- ---- a refusal before the replica is asked

module _ {O : Type 0} (o : link_out.Ghosts O) where
  alone_tells : (text : Option (List ℕ)) (d : Done) (old new : O) → d ≢ done.Memory → SendsAlone o text d old new → Tells o text old new
  alone_tells text (done.Taken r) old new never h = alone_says o text r old new h
  alone_tells text (done.LinkFailed r) old new never h = alone_fails o text r old new h
  alone_tells text (done.Refused why r) old new never h = absurd (refused_alone o text why r old new h)
  alone_tells text (done.File r) old new never h = absurd (file_alone o text r old new h)
  alone_tells text (done.MirrorFailed r) old new never h = absurd (mirror_alone o text r old new h)
  alone_tells text done.Memory old new never h = absurd (never refl)

  alone_no_fault : (text : Option (List ℕ)) (d : Done) (old new : O) (receipt : Receipt) → SendsAlone o text d old new → d ≢ done.File receipt
  alone_no_fault text d old new receipt h is = file_alone o text receipt old new (subst (λ (y : Done). SendsAlone o text y old new) is h)

module _ {F I O : Type 0} (o : link_out.Ghosts O) where
  refused_before : (why : RequestRefusal) (old new : Member I O) (book : BookState F) (result : Stepped) (d : Done) (half : O) → d ≢ done.Memory → IsNewRequest (Err why) old book result
      → SendsAlone o (texts_of old.op (refused_setup why).sends) d old.upstream.outward half → IsShutBy o d (with_outward old half) new result
      → IsSetup o (setup_by result old.upstream.id old.op false (replica_of book)) old new book × HoldsMirror new.stage new.mirror
  refused_before why old new book result d half never asked says x =
      let refuses = subst (λ (c : ReplicaRecord). request_event old.upstream.id old.op (rule_in c) ≡ Err why) asked.of_history asked.event_is in
      let by = ap (λ (y : Stepped). setup_by y old.upstream.id old.op false (replica_of book)) x.follows.answer
      ∙ (not_file d shuts.Both old.upstream.id old.op false (replica_of book) (λ receipt. alone_no_fault o _ d old.upstream.outward half receipt says) ∙ ap (request_at old.upstream.id old.op false (replica_of book)) refuses) in
      let here : IsSetup o (refused_request (replica_of book) why) old new book = record {
        member = x.follows.stage;
        replica = refl;
        told = told_end o _ (loses_upstream d) old.upstream.outward x.upper new.upstream
            (told_end o _ true old.upstream.outward (with_half old.upstream half) x.upper (alone_tells o _ d old.upstream.outward half never says) x.shut) x.follows.upper;
      } in
      (subst (λ (y : Setup). IsSetup o y old new book) (sym by) here, subst (λ (st : Stage). HoldsMirror st new.mirror) (sym x.follows.stage) tt)

  by_done : (why : RequestRefusal) (old new : Member I O) (book : BookState F) (result : Stepped) (d : Done) (half : O) → IsNewRequest (Err why) old book result
      → SendsAlone o (texts_of old.op (refused_setup why).sends) d old.upstream.outward half → RefusalEnds o (is_memory d) d (with_outward old half) new result
      → IsSetup o (setup_by result old.upstream.id old.op false (replica_of book)) old new book × HoldsMirror new.stage new.mirror
  by_done why old new book result done.Memory half asked says x = absurd (asked.found_memory x.1)
  by_done why old new book result (done.Taken r) half asked says x = refused_before why old new book result (done.Taken r) half (λ e. cc) asked says x
  by_done why old new book result (done.LinkFailed r) half asked says x = refused_before why old new book result (done.LinkFailed r) half (λ e. cc) asked says x
  by_done why old new book result (done.Refused y r) half asked says x = refused_before why old new book result (done.Refused y r) half (λ e. cc) asked says x
  by_done why old new book result (done.File r) half asked says x = refused_before why old new book result (done.File r) half (λ e. cc) asked says x
  by_done why old new book result (done.MirrorFailed r) half asked says x = refused_before why old new book result (done.MirrorFailed r) half (λ e. cc) asked says x

  pub refusals_step : RefusalsAreSteps F I O o
  refusals_step why old new book result asked x = by_done why old new book result x.done x.half asked x.says x.ends
