-- What a setup that was done has made of the member, and what its end has sent.
use Rattle.std.proofs.Common.{◌≡◌, ◌≢◌, inr, ℕ, Bool, true, false, List, [], length, Option, Some, None, IsOk, Ok, Err, refl, sym, ap, ◌∙◌, subst}
use Rattle.hd_base.specs.declared.ends.Conn.{Conn}
use Rattle.hd_base.specs.declared.files.Files as files
use Rattle.hd_base.specs.declared.links.LinkIn as link_in
use Rattle.hd_base.specs.declared.links.LinkOut as link_out
use Rattle.hd_base.specs.declared.numbers.ConnId.{ConnId}
use Rattle.hd_base.specs.declared.numbers.Receipt.{Receipt}
use Rattle.hd_base.specs.declared.roads.Roads as roads
use Rattle.link_pieces.specs.Pieces.{SendsNothing}
use Rattle.op_headers.specs.declared.nodes.NodeRef.{NodeRef}
use Rattle.op_headers.specs.Values.{WriteFields}
use Rattle.replica_core.specs.declared.events.Event.{Event}
use Rattle.replica_core.specs.declared.records.ReplicaRecord.{ReplicaRecord}
use Rattle.replica_core.specs.declared.refusals.Refusal.{Refusal}
use Rattle.replica_core.specs.Transitions.{transition}
use Rattle.replica_core.specs.Views.{rule_in}
use Rattle.pipe_member.specs.ReplicaModel.ReplicaEvent.TheVariants as replica_event
use Rattle.pipe_member.specs.ReplicaModel.Rows.{FullReplica, row}
use Rattle.pipe_member.specs.ReplicaFiles.BookState.{BookState}
use Rattle.pipe_member.specs.ReplicaFiles.BookFault.TheVariants as book_fault
use Rattle.pipe_member.specs.ReplicaFiles.Books.{replica_of}
use Rattle.pipe_member.specs.ReplicaFiles.Endings.{BookEnds}
use Rattle.pipe_member.specs.RequestRefusals.RequestRefusal.{RequestRefusal}
use Rattle.pipe_member.specs.RequestRefusals.RequestRefusal.TheVariants as request
use Rattle.pipe_member.specs.MemberCore.Effect.{Effect}
use Rattle.pipe_member.specs.MemberCore.Shuts.{Shuts}
use Rattle.pipe_member.specs.MemberCore.Shuts.TheVariants as shuts
use Rattle.pipe_member.specs.MemberCore.Upward.{Upward}
use Rattle.pipe_member.specs.MemberCore.Members.{MemberState, set_up, set_up_at, mirror_for, refused_setup}
use Rattle.pipe_member.specs.MemberCore.Requests.{request_event}
use Rattle.pipe_member.specs.MemberCore.Steps.{Setup, request_at, request_step, refused_request, taken_request}
use Rattle.pipe_member.specs.PipeSetup.SetupRefusal.TheVariants as refusal
use Rattle.pipe_member.specs.PipeSetup.Setup.TheVariants as setup
use Rattle.pipe_member.specs.PipeSetup.Setups.{HasTarget}
use Rattle.pipe_member.proofs.PipeSetup.ReachingLemmas.{quiet_then_sends}
use Rattle.pipe_member.specs.PipeTurns.Done.{Done}
use Rattle.pipe_member.specs.PipeTurns.Done.TheVariants as done
use Rattle.pipe_member.specs.PipeTurns.Acting.{ShutsEnd, texts_of, shuts_up, with_half}
use Rattle.pipe_member.specs.PipeTurns.Turning.{SendsAlone}
use Rattle.pipe_member.specs.declared.member.Member.{Member}
use Rattle.pipe_member.specs.declared.stages.Stage.{Stage}
use Rattle.pipe_member.specs.declared.stages.Stage.TheVariants as stage
use Rattle.pipe_member.specs.declared.stepped.Stepped.{Stepped}
use Rattle.pipe_member.specs.declared.stepped.Stepped.TheVariants as stepped
use Rattle.pipe_member.specs.Steps.{done_step, receipt_of, stepped_of, loses_upstream}
use Rattle.pipe_member.specs.Setups.{Says, Opens, Waits, Refuses, RefusalEnds, FollowsSetup, SetsUpWith, first_by, opened, with_outward, is_memory}
use Rattle.pipe_member.specs.SetupSteps.{was_answered, setup_by, stage_of, IsSetup, IsNewRequest}
use Rattle.pipe_member.specs.Turns.{IsSameMember}
use Rattle.pipe_member.proofs.SetupStepLemmas.{unrefused_by, refused_as, refused_none, refused_some, awaits, leads_to, setups_step, refusals_step}
use Rattle.world_texts.specs.WorldNets.Flushing.{shuts_above}
use Rattle.member_events.proofs.EventEndLemmas.{IsGood, good_done, above_nothing, below_nothing}
use Rattle.member_events.proofs.TurnEnds.{IsDone, IsFine, HasSaid, EndSends, above_same, ended_fine, alone}

-- A member whose setup was done: it is where this setup leads, and its end has sent what this sends.
pub record SetUpAs {F I O : Type 0} (o : link_out.Ghosts O) (s : Setup) (old new : Member I O) (book' : BookState F) (result : Stepped) : Type 0 where
  pub stage_is : new.stage ≡ stage_of s.member s.effect.shuts
  pub replica : replica_of book' ≡ s.replica
  pub upper : EndSends o (texts_of old.op s.effect.sends) (shuts_above s.effect.shuts) old.upstream new.upstream
  pub same : IsSameMember old new
  pub above : new.above ≡ old.above
  pub below : new.below ≡ old.below
  pub receipt : Option Receipt
  pub ended : result ≡ done_step s.effect.shuts receipt

-- THE STEP

pub setup_good : (result : Stepped) (conn : ConnId) (op : WriteFields) (answered : Bool) (r : FullReplica) → IsGood result → setup_by result conn op answered r ≡ request_step conn op answered r
setup_good (stepped.Moved receipt) conn op answered r good = refl
setup_good (stepped.Shut receipt) conn op answered r good = refl
setup_good stepped.NotReady conn op answered r good = refl
setup_good (stepped.LinkFailed receipt) conn op answered r good = refl
setup_good (stepped.File receipt) conn op answered r good = absurd good
setup_good stepped.Memory conn op answered r good = absurd good

not_memory : (result : Stepped) → IsGood result → result ≢ stepped.Memory
not_memory result good is = subst IsGood is good

-- the last member is set up the same way whatever is said of a dial
pub last_set_up : (conn : ConnId) (op : WriteFields) (answered : Bool) → op.targets ≡ [] → set_up conn op answered ≡ set_up conn op false
unfolding set_up
last_set_up conn op answered none =
    ap (λ (l : List NodeRef). set_up_at (mirror_for (length l) answered) op conn) none
    ∙ sym (ap (λ (l : List NodeRef). set_up_at (mirror_for (length l) false) op conn) none)

-- WHAT WAS SENT

module _ {O : Type 0} (o : link_out.Ghosts O) where
  says_fine : (text : Option (List ℕ)) (receipt : Receipt) (a b : O) (d : Done) (s : Shuts) → Says o text receipt a b d → IsDone (stepped_of d s) → IsFine d
  says_fine None receipt a b d s h k = subst IsFine (sym h.0) tt
  says_fine (Some text) receipt a b (done.Taken r) s h k = tt
  says_fine (Some text) receipt a b (done.LinkFailed r) s h k = k
  says_fine (Some text) receipt a b (done.Refused why r) s h k = absurd h
  says_fine (Some text) receipt a b (done.File r) s h k = absurd h
  says_fine (Some text) receipt a b (done.MirrorFailed r) s h k = absurd h
  says_fine (Some text) receipt a b done.Memory s h k = absurd h

  says_sent : (text : Option (List ℕ)) (receipt : Receipt) (a b c : O) (d : Done) → SendsNothing o a b → Says o text receipt b c d → IsFine d → HasSaid o text a c
  says_sent None receipt a b c d q h ok = inr (subst (λ (x : O). SendsNothing o a x) (sym h.1) q)
  says_sent (Some text) receipt a b c (done.Taken r) q h ok = quiet_then_sends o text a b c q h.1
  says_sent (Some text) receipt a b c (done.LinkFailed r) q h ok = absurd ok
  says_sent (Some text) receipt a b c (done.Refused why r) q h ok = absurd h
  says_sent (Some text) receipt a b c (done.File r) q h ok = absurd h
  says_sent (Some text) receipt a b c (done.MirrorFailed r) q h ok = absurd h
  says_sent (Some text) receipt a b c done.Memory q h ok = absurd h

fine_up : {I O : Type 0} (o : link_out.Ghosts O) (d : Done) (upper new : Conn I O) → IsFine d → ShutsEnd o (loses_upstream d) upper new → new ≡ upper
fine_up o (done.Taken r) upper new ok h = h
fine_up o (done.Refused why r) upper new ok h = h
fine_up o (done.LinkFailed r) upper new ok h = absurd ok
fine_up o (done.File r) upper new ok h = absurd ok
fine_up o (done.MirrorFailed r) upper new ok h = absurd ok
fine_up o done.Memory upper new ok h = absurd ok

module _ {I O : Type 0} (o : link_out.Ghosts O) where
  sent_up_end : (text : Option (List ℕ)) (s : Shuts) (old new : Member I O) (half : O) (upper : Conn I O) → HasSaid o text old.upstream.outward half → ShutsEnd o (shuts_up s) (with_half old.upstream half) upper → new.upstream ≡ upper
      → EndSends o text (shuts_above s) old.upstream new.upstream
  sent_up_end text s old new half upper says shut is = record {
    middle = with_half old.upstream half;
    keeps = record { id = refl; lower = refl; inward = refl };
    says = says;
    shuts = subst (λ (b : Bool). ShutsEnd o b (with_half old.upstream half) new.upstream) (above_same s) (subst (λ (z : Conn I O). ShutsEnd o (shuts_up s) (with_half old.upstream half) z) (sym is) shut);
  }

module _ {O : Type 0} (o : link_out.Ghosts O) where
  -- where the request is refused before the replica is asked
  refuses_fine : (text : Option (List ℕ)) (d : Done) (a b : O) → SendsAlone o text d a b → IsDone (stepped_of d shuts.Both) → IsFine d × HasSaid o text a b
  refuses_fine text (done.Taken r) a b h k = (tt, alone o text r a b h)
  refuses_fine None (done.Refused why r) a b h k = absurd h
  refuses_fine (Some text) (done.Refused why r) a b h k = absurd h
  refuses_fine text (done.LinkFailed r) a b h k = absurd k
  refuses_fine text (done.File r) a b h k = absurd k
  refuses_fine None (done.MirrorFailed r) a b h k = absurd h
  refuses_fine (Some text) (done.MirrorFailed r) a b h k = absurd h
  refuses_fine text done.Memory a b h k = absurd k

module _ {F I O : Type 0} (o : link_out.Ghosts O) where
  -- where it says something at once
  opens_as : (s : Setup) (text : Option (List ℕ)) (receipt : Receipt) (st : Stage) (sh : Shuts) (old new : Member I O) (half : O) (book' : BookState F) (result : Stepped) → SendsNothing o old.upstream.outward half
      → Opens o text receipt st sh (with_outward old half) new result → IsGood result → text ≡ texts_of old.op s.effect.sends → sh ≡ s.effect.shuts → new.stage ≡ stage_of s.member s.effect.shuts → replica_of book' ≡ s.replica → SetUpAs o s old new book' result
  opens_as s text receipt st sh old new half book' result quiet x good text_is shuts_is st_is replica =
      let over : IsDone (stepped_of x.done sh) = subst IsDone x.follows.answer (good_done x.done sh result x.follows.answer good) in
      let ok : IsFine x.done = says_fine o text receipt half x.half x.done sh x.says over in
      let upper : EndSends o text (shuts_above sh) old.upstream new.upstream =
      sent_up_end o text sh old new x.half x.upper (says_sent o text receipt old.upstream.outward half x.half x.done quiet x.says ok) x.shut (fine_up o x.done x.upper new.upstream ok x.follows.upper) in
      record {
        stage_is = st_is;
        replica = replica;
        upper = subst (λ (t : Option (List ℕ)). EndSends o t (shuts_above s.effect.shuts) old.upstream new.upstream) text_is (subst (λ (z : Shuts). EndSends o text (shuts_above z) old.upstream new.upstream) shuts_is upper);
        same = record { node = x.follows.same.node; op = x.follows.same.op };
        above = x.follows.above ∙ above_nothing x.done old.above ok;
        below = x.follows.below ∙ below_nothing x.done old.below ok;
        receipt = receipt_of x.done;
        ended = x.follows.answer ∙ (ended_fine x.done sh ok ∙ ap (λ (z : Shuts). done_step z (receipt_of x.done)) shuts_is);
      }

  -- where it waits for its mirror, or is to tell that there is none
  waits_as : (s : Setup) (receipt : Receipt) (core : MemberState) (mirror : Option (Conn I O)) (old new : Member I O) (half : O) (book' : BookState F) (result : Stepped) → SendsNothing o old.upstream.outward half
      → Waits o receipt core (record (with_outward old half) { mirror = mirror }) new result → s.effect.sends ≡ None → s.effect.shuts ≡ shuts.Nothing → new.stage ≡ stage_of s.member s.effect.shuts → replica_of book' ≡ s.replica → SetUpAs o s old new book' result
  waits_as s receipt core mirror old new half book' result quiet x none still st_is replica =
      let upper : EndSends o None (shuts_above shuts.Nothing) old.upstream new.upstream = sent_up_end o None shuts.Nothing old new half (with_half old.upstream half) (inr quiet) refl x.upper in
      record {
        stage_is = st_is;
        replica = replica;
        upper = subst (λ (z : Shuts). EndSends o (texts_of old.op s.effect.sends) (shuts_above z) old.upstream new.upstream) (sym still)
            (subst (λ (t : Option Upward). EndSends o (texts_of old.op t) (shuts_above shuts.Nothing) old.upstream new.upstream) (sym none) upper);
        same = record { node = x.same.node; op = x.same.op };
        above = x.above;
        below = x.below;
        receipt = Some receipt;
        ended = x.answer ∙ sym (ap (λ (z : Shuts). done_step z (Some receipt)) still);
      }

  refused_as_by : (s : Setup) (memory : Bool) (d : Done) (text : Option (List ℕ)) (old new : Member I O) (half : O) (book' : BookState F) (result : Stepped) → SendsAlone o text d old.upstream.outward half → RefusalEnds o memory d (with_outward old half) new result → IsGood result
      → text ≡ texts_of old.op s.effect.sends → shuts.Both ≡ s.effect.shuts → new.stage ≡ stage_of s.member s.effect.shuts → replica_of book' ≡ s.replica → SetUpAs o s old new book' result
  refused_as_by s true d text old new half book' result says x good text_is shuts_is st_is replica = absurd (not_memory result good x.1)
  refused_as_by s false d text old new half book' result says x good text_is shuts_is st_is replica =
      let over : IsDone (stepped_of d shuts.Both) = subst IsDone x.follows.answer (good_done d shuts.Both result x.follows.answer good) in
      let k = refuses_fine o text d old.upstream.outward half says over in
      let upper : EndSends o text (shuts_above shuts.Both) old.upstream new.upstream = sent_up_end o text shuts.Both old new half x.upper k.1 x.shut (fine_up o d x.upper new.upstream k.0 x.follows.upper) in
      record {
        stage_is = st_is;
        replica = replica;
        upper = subst (λ (t : Option (List ℕ)). EndSends o t (shuts_above s.effect.shuts) old.upstream new.upstream) text_is (subst (λ (z : Shuts). EndSends o text (shuts_above z) old.upstream new.upstream) shuts_is upper);
        same = record { node = x.follows.same.node; op = x.follows.same.op };
        above = x.follows.above ∙ above_nothing d old.above k.0;
        below = x.follows.below ∙ below_nothing d old.below k.0;
        receipt = receipt_of d;
        ended = x.follows.answer ∙ (ended_fine d shuts.Both k.0 ∙ ap (λ (z : Shuts). done_step z (receipt_of d)) shuts_is);
      }

-- THE CASES

-- The request was refused, whatever is said of a dial.
pub record HasRefused {F I O : Type 0} (o : link_out.Ghosts O) (old new : Member I O) (book book' : BookState F) (result : Stepped) : Type 0 where
  pub after : FullReplica
  pub why : RequestRefusal
  pub step_is : (answered : Bool) → request_step old.upstream.id old.op answered (replica_of book) ≡ refused_request after why
  pub ends : SetUpAs o (refused_request after why) old new book' result

-- The request was taken, with this said of a dial.
pub record HasTaken {F I O : Type 0} (o : link_out.Ghosts O) (answered : Bool) (old new : Member I O) (book book' : BookState F) (result : Stepped) : Type 0 where
  pub after : FullReplica
  pub step_is : (asked : Bool) → request_step old.upstream.id old.op asked (replica_of book) ≡ taken_request after (set_up old.upstream.id old.op asked)
  pub ends : SetUpAs o (taken_request after (set_up old.upstream.id old.op answered)) old new book' result

module _ {F R I O : Type 0} (f : files.Ghosts F) (r : roads.Ghosts R I O) (i : link_in.Ghosts I) (o : link_out.Ghosts O) where
  pub refused_before : (why : RequestRefusal) (old new : Member I O) (book : BookState F) (result : Stepped) → IsNewRequest (Err why) old book result → Refuses o (texts_of old.op (refused_setup why).sends) old new result → IsGood result → HasRefused o old new book book result
  refused_before why old new book result asked x good =
      let refuses : request_event old.upstream.id old.op (rule_in (replica_of book).known) ≡ Err why = subst (λ (c : ReplicaRecord). request_event old.upstream.id old.op (rule_in c) ≡ Err why) asked.of_history asked.event_is in
      let is : (answered : Bool) → request_step old.upstream.id old.op answered (replica_of book) ≡ refused_request (replica_of book) why = λ answered. ap (request_at old.upstream.id old.op answered (replica_of book)) refuses in
      let law = (refusals_step o why old new book result asked x).0 in
      let here : IsSetup o (refused_request (replica_of book) why) old new book = subst (λ (s : Setup). IsSetup o s old new book) (setup_good result old.upstream.id old.op false (replica_of book) good ∙ is false) law in
      record {
        after = replica_of book;
        why = why;
        step_is = is;
        ends = refused_as_by o (refused_request (replica_of book) why) (is_memory x.done) x.done (texts_of old.op (refused_setup why).sends) old new x.half book result x.says x.ends good refl refl here.member here.replica;
      }

  module _ (e : Event) (old new : Member I O) (book book' : BookState F) (road road' : R) (result : Stepped) (asked : IsNewRequest (Ok e) old book result) (good : IsGood result) where
    -- what the law of setups says
    law_is : (x : SetsUpWith f r i o e old new book book' road road' result) (answered : Bool) (s : Setup) → was_answered x.ended ≡ answered → request_step old.upstream.id old.op answered (replica_of book) ≡ s → IsSetup o s old new book'
    law_is x answered s said is =
        subst (λ (y : Setup). IsSetup o y old new book') (setup_good result old.upstream.id old.op (was_answered x.ended) (replica_of book) good ∙ (ap (λ (b : Bool). request_step old.upstream.id old.op b (replica_of book)) said ∙ is))
        (setups_step f r i o e old new book book' road road' result asked x).0

    taken_is : (answered : Bool) (receipt : Receipt) → BookEnds f book book' (replica_event.Other e) (Ok receipt) → request_step old.upstream.id old.op answered (replica_of book) ≡ taken_request (row (replica_of book) (replica_event.Other e)) (set_up old.upstream.id old.op answered)
    taken_is answered receipt ends = leads_to f o e old new old.upstream.outward book book' result answered None asked (unrefused_by (replica_of book) e _ refl ends.takes)

    pub last_is : (x : SetsUpWith f r i o e old new book book' road road' result) (receipt : Receipt) → x.ended ≡ setup.Last receipt → BookEnds f book book' (replica_event.Other e) (Ok receipt) → FollowsSetup o (opened old.upstream.id old.op (transition book.replica e)) (setup.Last receipt) (with_outward old x.half) new result
        → HasTaken o false old new book book' result
    last_is x receipt is ends y =
        let u : MemberState × Effect = set_up old.upstream.id old.op false in
        let after : FullReplica = row (replica_of book) (replica_event.Other e) in
        let law = law_is x false (taken_request after u) (ap was_answered is) (taken_is false receipt ends) in
        let takes : IsOk (transition book.replica e) = subst (λ (c : ReplicaRecord). IsOk (transition c e)) (sym asked.of_history) ends.takes in
        let text = ap (λ (w : Option Refusal). texts_of old.op (first_by w u.1).sends) (refused_none (transition book.replica e) takes) in
        record {
          after = after;
          step_is = λ a. taken_is a receipt ends;
          ends = opens_as o (taken_request after u) _ receipt _ u.1.shuts old new x.half book' result x.quiet y good text refl law.member law.replica;
        }

    pub core_is : (x : SetsUpWith f r i o e old new book book' road road' result) (why : Refusal) (receipt : Receipt) → x.ended ≡ setup.Refused (refusal.Core why receipt) → BookEnds f book book' (replica_event.Other e) (Err (book_fault.Refused why receipt))
        → Opens o (opened old.upstream.id old.op (transition book.replica e)).answer receipt stage.Shut shuts.Both (with_outward old x.half) new result → HasRefused o old new book book' result
    core_is x why receipt is ends y =
        let after : FullReplica = row (replica_of book) (replica_event.Other e) in
        let steps : (answered : Bool) → request_step old.upstream.id old.op answered (replica_of book) ≡ refused_request after (request.Core why) =
        λ answered. leads_to f o e old new old.upstream.outward book book' result answered (Some (request.Core why)) asked (refused_as (replica_of book) e why ends.refused) in
        let law = law_is x false (refused_request after (request.Core why)) (ap was_answered is) (steps false) in
        let refuses : transition book.replica e ≡ Err why = subst (λ (c : ReplicaRecord). transition c e ≡ Err why) (sym asked.of_history) ends.refused in
        let text = ap (λ (w : Option Refusal). texts_of old.op (first_by w (set_up old.upstream.id old.op false).1).sends) (refused_some (transition book.replica e) why refuses) in
        record {
          after = after;
          why = request.Core why;
          step_is = steps;
          ends = opens_as o (refused_request after (request.Core why)) _ receipt _ _ old new x.half book' result x.quiet y good text refl law.member law.replica;
        }

    pub waits_is : (x : SetsUpWith f r i o e old new book book' road road' result) (answered : Bool) (receipt : Receipt) (core : MemberState) (mirror : Option (Conn I O)) → was_answered x.ended ≡ answered → BookEnds f book book' (replica_event.Other e) (Ok receipt) → HasTarget old.op
        → Waits o receipt core (record (with_outward old x.half) { mirror = mirror }) new result → HasTaken o answered old new book book' result
    waits_is x answered receipt core mirror said ends some y =
        let u : MemberState × Effect = set_up old.upstream.id old.op answered in
        let after : FullReplica = row (replica_of book) (replica_event.Other e) in
        let law = law_is x answered (taken_request after u) said (taken_is answered receipt ends) in
        let w = awaits old.upstream.id old.op answered some in
        record {
          after = after;
          step_is = λ a. taken_is a receipt ends;
          ends = waits_as o (taken_request after u) receipt core mirror old new x.half book' result x.quiet y w.0 w.1 law.member law.replica;
        }
