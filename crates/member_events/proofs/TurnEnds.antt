-- What a turn that was done has sent on a member's two ends, and which it has shut.
use Rattle.std.proofs.Common.{◌≡◌, ◌≢◌, ◌⊎◌, inl, inr, ℕ, Bool, true, false, List, Option, Some, None, IsSome, refl, sym, ap, ◌∙◌, subst}
use Rattle.hd_base.specs.declared.ends.Conn.{Conn}
use Rattle.hd_base.specs.declared.numbers.ConnId.{ConnId}
use Rattle.hd_base.specs.declared.numbers.Receipt.{Receipt}
use Rattle.hd_base.specs.declared.files.Files as files
use Rattle.hd_base.specs.declared.links.LinkOut as link_out
use Rattle.link_pieces.specs.Pieces.{SendsNothing, SendsPiece}
use Rattle.link_pieces.specs.Roads.{KeepsInward}
use Rattle.pipe_member.specs.PacketCodec.Packet.{Packet}
use Rattle.op_headers.specs.Values.{WriteFields}
use Rattle.replica_core.specs.declared.events.Event.{Event}
use Rattle.replica_core.specs.declared.refusals.Refusal.{Refusal}
use Rattle.pipe_member.specs.ReplicaModel.ReplicaEvent.{ReplicaEvent}
use Rattle.pipe_member.specs.ReplicaModel.ReplicaEvent.TheVariants as replica_event
use Rattle.pipe_member.specs.ReplicaModel.Rows.{FullReplica}
use Rattle.pipe_member.specs.ReplicaFiles.BookState.{BookState}
use Rattle.pipe_member.specs.ReplicaFiles.Books.{replica_of}
use Rattle.pipe_member.specs.BlockReceiver.Taken.{Taken}
use Rattle.pipe_member.specs.BlockReceiver.Taken.TheVariants as taken
use Rattle.pipe_member.specs.PacketResponder.Sending.{Sending}
use Rattle.pipe_member.specs.PacketResponder.Sending.TheVariants as sending
use Rattle.pipe_member.specs.MemberCore.Effect.{Effect}
use Rattle.pipe_member.specs.MemberCore.Shuts.{Shuts}
use Rattle.pipe_member.specs.MemberCore.Shuts.TheVariants as shuts
use Rattle.pipe_member.specs.MemberCore.Upward.{Upward}
use Rattle.pipe_member.specs.MemberCore.Booked.{Booked}
use Rattle.pipe_member.specs.MemberCore.Booked.TheVariants as booked
use Rattle.pipe_member.specs.MemberCore.Turn.{Turn}
use Rattle.pipe_member.specs.MemberCore.Members.{MemberState, settled}
use Rattle.pipe_member.specs.MemberCore.Steps.{Step, step, with_replica}
use Rattle.pipe_member.specs.PipeTurns.Turning.{Performs, PerformsAlone, PassesEnd, SendsText, SendsAlone, packet_done, sending_done}
use Rattle.pipe_member.specs.PipeTurns.Acting.{ShutsEnd, ShutsMirror, booked_of, texts_of, shuts_up, shuts_below, with_half}
use Rattle.pipe_member.specs.PipeTurns.Done.{Done}
use Rattle.pipe_member.specs.PipeTurns.Done.TheVariants as done
use Rattle.pipe_member.specs.declared.member.Member.{Member}
use Rattle.pipe_member.specs.declared.stages.Took.{Took}
use Rattle.pipe_member.specs.declared.stepped.Stepped.{Stepped}
use Rattle.pipe_member.specs.declared.stepped.Stepped.TheVariants as stepped
use Rattle.pipe_member.specs.Below.{BelowState, below_after, stands_end}
use Rattle.pipe_member.specs.Steps.{stepped_of, done_step, receipt_of, loses_upstream, loses_mirror}
use Rattle.pipe_member.specs.Stepping.{passed_text, IsOfRules}
use Rattle.pipe_member.specs.Turns.{Turns}
use Rattle.pipe_member.proofs.SteppingLemmas.{silent, step_done, made, settled_as}
use Rattle.world_texts.specs.WorldNets.Flushing as flushing

-- the step was done, and no link from above and no call on files failed
abbrev pub IsDone : Stepped → Type 0
IsDone (stepped.Moved receipt) = Unit {0}
IsDone (stepped.Shut receipt) = Unit {0}
IsDone other = ⊥

abbrev pub IsFine : Done → Type 0
IsFine (done.Taken receipt) = Unit {0}
IsFine (done.Refused why receipt) = Unit {0}
IsFine other = ⊥

pub fine : (d : Done) (s : Shuts) → IsDone (stepped_of d s) → loses_mirror d ≡ false → IsFine d
fine (done.Taken r) s h k = tt
fine (done.Refused why r) s h k = tt
fine (done.LinkFailed r) s h k = h
fine (done.File r) s h k = h
fine done.Memory s h k = h
fine (done.MirrorFailed r) s h k = cc

-- WHAT WAS SENT

-- A half has sent the text, if there is one.
abbrev pub HasSaid : {O : Type 0} → link_out.Ghosts O → Option (List ℕ) → O → O → Type 0
HasSaid o None old new = (new ≡ old) ⊎ SendsNothing o old new
HasSaid o (Some text) old new = SendsPiece o text old new

-- An end has sent the text, if there is one, and was shut or not.
pub record EndSends {I O : Type 0} (o : link_out.Ghosts O) (text : Option (List ℕ)) (shut : Bool) (old new : Conn I O) : Type 0 where
  pub middle : Conn I O
  pub keeps : KeepsInward old middle
  pub says : HasSaid o text old.outward middle.outward
  pub shuts : ShutsEnd o shut middle new

abbrev pub MirrorSends : {I O : Type 0} → link_out.Ghosts O → Option (List ℕ) → Bool → Option (Conn I O) → Option (Conn I O) → Type 0
MirrorSends o text shut None None = Unit {0}
MirrorSends o text shut (Some old) (Some new) = EndSends o text shut old new
MirrorSends o text shut old new = ⊥

-- The same of the end to the mirror, if there is one, where nothing is shut.
abbrev pub MirrorSays : {I O : Type 0} → link_out.Ghosts O → Option (List ℕ) → Option (Conn I O) → Option (Conn I O) → Type 0
MirrorSays o text None None = Unit {0}
MirrorSays o text (Some old) (Some new) = KeepsInward old new × HasSaid o text old.outward new.outward
MirrorSays o text old new = ⊥

module _ {O : Type 0} (o : link_out.Ghosts O) where
  says_none : (op : WriteFields) (sends : Option Upward) (up sent : O) → sends ≡ None → sent ≡ up → HasSaid o (texts_of op sends) up sent
  says_none op sends up sent none same = rw none (inl same)

  says_nothing : (op : WriteFields) (sends : Option Upward) (up sent : O) → sends ≡ None → HasSaid o None up sent → HasSaid o (texts_of op sends) up sent
  says_nothing op sends up sent none h = rw none h

  pub alone : (text : Option (List ℕ)) (r : Option Receipt) (up sent : O) → SendsAlone o text (done.Taken r) up sent → HasSaid o text up sent
  alone None None up sent h = inl h
  alone (Some text) None up sent h = h
  alone None (Some r) up sent h = absurd h
  alone (Some text) (Some r) up sent h = absurd h

  refused_alone : (text : Option (List ℕ)) (why : Refusal) (r : Receipt) (up sent : O) → SendsAlone o text (done.Refused why r) up sent → ⊥
  refused_alone None why r up sent h = h
  refused_alone (Some text) why r up sent h = h

  text_done : (text : Option (List ℕ)) (r : Receipt) (up sent : O) → SendsText o text (sending.Done r) up sent → HasSaid o text up sent
  text_done None r up sent h = inl h.1
  text_done (Some text) r up sent h = h

  pub text_refused : (text : Option (List ℕ)) (why : Refusal) (r : Receipt) (up sent : O) → SendsText o text (sending.Refused why r) up sent → HasSaid o None up sent
  text_refused None why r up sent h = inl h.1
  text_refused (Some text) why r up sent h = inr h

module _ {I O : Type 0} (o : link_out.Ghosts O) where
  still : (mirror : Option (Conn I O)) → MirrorSays o None mirror mirror
  still None = tt
  still (Some end) = (record { id = refl; lower = refl; inward = refl }, inl refl)

  pub still_as : (below passed : Option (Conn I O)) → passed ≡ below → MirrorSays o None below passed
  still_as below passed same = subst (λ (x : Option (Conn I O)). MirrorSays o None below x) (sym same) (still below)

  goes_none : (call : Option ReplicaEvent) (forwards : Bool) (below passed : Option (Conn I O)) → forwards ≡ false → MirrorSays o None below passed → MirrorSays o (passed_text call forwards) below passed
  goes_none None forwards below passed off h = h
  goes_none (Some (replica_event.Packet conn p)) forwards below passed off h = rw off h
  goes_none (Some (replica_event.Other x)) forwards below passed off h = h

  pass_refused : (p : Packet) (why : Refusal) (r : Receipt) (below passed : Option (Conn I O)) → PassesEnd o p (taken.Refused why r) below passed → MirrorSays o None below passed
  pass_refused p why r None None h = tt
  pass_refused p why r None (Some new) h = absurd h
  pass_refused p why r (Some old) None h = absurd h
  pass_refused p why r (Some old) (Some new) h = (record { id = h.0; lower = h.1; inward = h.2 }, inr h.3)

  pass_on : (p : Packet) (conn : ConnId) (forwards : Bool) (r : Receipt) (below passed : Option (Conn I O)) → (IsSome below → forwards ≡ true)
      → PassesEnd o p (taken.Booked r) below passed → MirrorSays o (passed_text (Some (replica_event.Packet conn p)) forwards) below passed
  pass_on p conn forwards r None None on h = tt
  pass_on p conn forwards r None (Some new) on h = absurd h
  pass_on p conn forwards r (Some old) None on h = absurd h
  pass_on p conn forwards r (Some old) (Some new) on h = rw (on refl) (record { id = h.0; lower = h.1; inward = h.2 }, h.3)

-- What a turn has sent whose call and sending ended well.
record Says {I O : Type 0} (o : link_out.Ghosts O) (op : WriteFields) (m : MemberState) (t : Turn) (d : Done) (up sent : O) (below passed : Option (Conn I O)) : Type 0 where
  outcome : Booked
  known : booked_of d ≡ Some outcome
  up_says : HasSaid o (texts_of op (settled m t outcome).1.sends) up sent
  passes : MirrorSays o (passed_text t.call (settled m t outcome).1.forwards) below passed

module _ {F I O : Type 0} (f : files.Ghosts F) (o : link_out.Ghosts O) (op : WriteFields) (m : MemberState) where
  says_alone : (t : Turn) (d : Done) (book book' : BookState F) (up sent : O) (below passed : Option (Conn I O)) → t.call ≡ None → IsFine d
      → PerformsAlone o (texts_of op t.effect.sends) book book' up sent below passed d → Says o op m t d up sent below passed
  says_alone t (done.Taken r) book book' up sent below passed is ok p = record {
    outcome = booked.Taken;
    known = refl;
    up_says = alone o (texts_of op t.effect.sends) r up sent p.sends;
    passes = rw is (still_as o below passed p.below_same);
  }
  says_alone t (done.Refused why r) book book' up sent below passed is ok p = absurd (refused_alone o (texts_of op t.effect.sends) why r up sent p.sends)
  says_alone t (done.LinkFailed r) book book' up sent below passed is ok p = absurd ok
  says_alone t (done.File r) book book' up sent below passed is ok p = absurd ok
  says_alone t (done.MirrorFailed r) book book' up sent below passed is ok p = absurd ok
  says_alone t done.Memory book book' up sent below passed is ok p = absurd ok

  says_packet : (t : Turn) (conn : ConnId) (p : Packet) (x : Taken) (up sent : O) (below passed : Option (Conn I O)) → t.call ≡ Some (replica_event.Packet conn p) → IsFine (packet_done x)
      → t.effect.sends ≡ None → (IsSome below → t.effect.forwards ≡ true) → sent ≡ up → PassesEnd o p x below passed → Says o op m t (packet_done x) up sent below passed
  says_packet t conn p (taken.Booked r) up sent below passed is ok none on same pass = record {
    outcome = booked.Taken;
    known = refl;
    up_says = says_none o op t.effect.sends up sent none same;
    passes = rw is (pass_on o p conn t.effect.forwards r below passed on pass);
  }
  says_packet t conn p (taken.Refused why r) up sent below passed is ok none on same pass =
      let quiet = silent m t (booked.Refused why) (λ h. cc) in
      record {
        outcome = booked.Refused why;
        known = refl;
        up_says = says_none o op (settled m t (booked.Refused why)).1.sends up sent quiet.0 same;
        passes = goes_none o t.call (settled m t (booked.Refused why)).1.forwards below passed quiet.1 (pass_refused o p why r below passed pass);
      }
  says_packet t conn p (taken.MirrorFailed r) up sent below passed is ok none on same pass = absurd ok
  says_packet t conn p (taken.File r) up sent below passed is ok none on same pass = absurd ok
  says_packet t conn p taken.Memory up sent below passed is ok none on same pass = absurd ok

  says_event : (t : Turn) (x : Event) (s : Sending) (up sent : O) (below passed : Option (Conn I O)) → t.call ≡ Some (replica_event.Other x) → IsFine (sending_done s)
      → SendsText o (texts_of op t.effect.sends) s up sent → passed ≡ below → Says o op m t (sending_done s) up sent below passed
  says_event t x (sending.Done r) up sent below passed is ok says same = record {
    outcome = booked.Taken;
    known = refl;
    up_says = text_done o (texts_of op t.effect.sends) r up sent says;
    passes = rw is (still_as o below passed same);
  }
  says_event t x (sending.Refused why r) up sent below passed is ok says same =
      let quiet = silent m t (booked.Refused why) (λ h. cc) in
      record {
        outcome = booked.Refused why;
        known = refl;
        up_says = says_nothing o op (settled m t (booked.Refused why)).1.sends up sent quiet.0 (text_refused o (texts_of op t.effect.sends) why r up sent says);
        passes = goes_none o t.call (settled m t (booked.Refused why)).1.forwards below passed quiet.1 (still_as o below passed same);
      }
  says_event t x (sending.LinkFailed r) up sent below passed is ok says same = absurd ok
  says_event t x (sending.File r) up sent below passed is ok says same = absurd ok
  says_event t x sending.Memory up sent below passed is ok says same = absurd ok

  says : (t : Turn) (call : Option ReplicaEvent) (d : Done) (book book' : BookState F) (up sent : O) (below passed : Option (Conn I O)) → t.call ≡ call → IsFine d → IsOfRules call t.effect below
      → Performs f o call (texts_of op t.effect.sends) book book' up sent below passed d → Says o op m t d up sent below passed
  says t None d book book' up sent below passed is ok rules p = says_alone t d book book' up sent below passed is ok p
  says t (Some (replica_event.Packet conn x)) d book book' up sent below passed is ok rules p =
      subst (λ (y : Done). Says o op m t y up sent below passed) (sym p.is)
      (says_packet t conn x p.taken up sent below passed is (subst IsFine p.is ok) rules.0 rules.1 p.up_same p.passes)
  says t (Some (replica_event.Other x)) d book book' up sent below passed is ok rules p =
      subst (λ (y : Done). Says o op m t y up sent below passed) (sym p.is)
      (says_event t x p.sending up sent below passed is (subst IsFine p.is ok) p.sends p.below_same)

-- THE WHOLE TURN

-- What a member's two ends have sent in a step, and which of them it has shut.
pub record TurnSends {I O : Type 0} (o : link_out.Ghosts O) (t : Turn) (e : Effect) (old new : Member I O) (result : Stepped) : Type 0 where
  pub upper : EndSends o (texts_of old.op e.sends) (flushing.shuts_above e.shuts) old.upstream new.upstream
  pub lower : MirrorSends o (passed_text t.call e.forwards) (flushing.shuts_below e.shuts) old.mirror new.mirror
  pub receipt : Option Receipt
  pub ended : result ≡ done_step e.shuts receipt

pub above_same : (s : Shuts) → shuts_up s ≡ flushing.shuts_above s
above_same shuts.Nothing = refl
above_same shuts.Mirror = refl
above_same shuts.Both = refl

below_same : (s : Shuts) → shuts_below s ≡ flushing.shuts_below s
below_same shuts.Nothing = refl
below_same shuts.Mirror = refl
below_same shuts.Both = refl

keeps_up : (d : Done) → IsFine d → loses_upstream d ≡ false
keeps_up (done.Taken r) ok = refl
keeps_up (done.Refused why r) ok = refl
keeps_up (done.LinkFailed r) ok = absurd ok
keeps_up (done.File r) ok = refl
keeps_up (done.MirrorFailed r) ok = refl
keeps_up done.Memory ok = refl

step_fine : (d : Done) (m : MemberState) (r : FullReplica) (t : Turn) → IsFine d → step_done d m r t ≡ step m r t
step_fine (done.Taken receipt) m r t ok = refl
step_fine (done.Refused why receipt) m r t ok = refl
step_fine (done.LinkFailed receipt) m r t ok = refl
step_fine (done.File receipt) m r t ok = absurd ok
step_fine (done.MirrorFailed receipt) m r t ok = refl
step_fine done.Memory m r t ok = refl

-- a mirror's link that failed is told of by what stands next from it
not_lost : (d : Done) (took : Took) (old : BelowState) → stands_end (below_after took d old).next ≡ false → loses_mirror d ≡ false
not_lost (done.MirrorFailed r) took old h = cc
not_lost (done.Taken r) took old h = refl
not_lost (done.Refused why r) took old h = refl
not_lost (done.LinkFailed r) took old h = refl
not_lost (done.File r) took old h = refl
not_lost done.Memory took old h = refl

fine_mirror : (d : Done) → IsFine d → loses_mirror d ≡ false
fine_mirror (done.Taken r) ok = refl
fine_mirror (done.Refused why r) ok = refl
fine_mirror (done.LinkFailed r) ok = refl
fine_mirror (done.File r) ok = refl
fine_mirror (done.MirrorFailed r) ok = absurd ok
fine_mirror done.Memory ok = refl

pub ended_fine : (d : Done) (s : Shuts) → IsFine d → stepped_of d s ≡ done_step s (receipt_of d)
ended_fine (done.Taken r) s ok = refl
ended_fine (done.Refused why r) s ok = refl
ended_fine (done.LinkFailed r) s ok = absurd ok
ended_fine (done.File r) s ok = absurd ok
ended_fine (done.MirrorFailed r) s ok = absurd ok
ended_fine done.Memory s ok = absurd ok

fine_memory : (d : Done) → IsFine d → d ≢ done.Memory
fine_memory d ok is = subst IsFine is ok

module _ {I O : Type 0} (o : link_out.Ghosts O) where
  pub mirror_sends : (text : Option (List ℕ)) (shut : Bool) (old passed mid new : Option (Conn I O)) → MirrorSays o text old passed → ShutsMirror o shut passed mid → ShutsMirror o false mid new → MirrorSends o text shut old new
  mirror_sends text shut None None None None a b c = tt
  mirror_sends text shut None None None (Some new) a b c = absurd c
  mirror_sends text shut None None (Some mid) new a b c = absurd b
  mirror_sends text shut None (Some passed) mid new a b c = absurd a
  mirror_sends text shut (Some old) None mid new a b c = absurd a
  mirror_sends text shut (Some old) (Some passed) None new a b c = absurd b
  mirror_sends text shut (Some old) (Some passed) (Some mid) None a b c = absurd c
  mirror_sends text shut (Some old) (Some passed) (Some mid) (Some new) a b c = record {
    middle = passed;
    keeps = a.0;
    says = a.1;
    shuts = subst (λ (x : Conn I O). ShutsEnd o shut passed x) (sym c) b;
  }

module _ {F I O : Type 0} (f : files.Ghosts F) (o : link_out.Ghosts O) where
  -- A turn that was done without a failed link has sent what the step says.
  pub turn_fine : (m : MemberState) (t : Turn) (took : Took) (old new : Member I O) (book book' : BookState F) (result : Stepped) (turns : Turns f o m t took old new book book' result)
      → IsDone result → stands_end new.below.next ≡ false → IsFine turns.done
  turn_fine m t took old new book book' result turns ok lost =
      fine turns.done turns.shuts (subst IsDone turns.follows.answer ok)
      (not_lost turns.done took old.below (subst (λ (b : BelowState). stands_end b.next ≡ false) turns.follows.below lost))

  pub turn_sends : (m : MemberState) (t : Turn) (took : Took) (old new : Member I O) (book book' : BookState F) (result : Stepped) (turns : Turns f o m t took old new book book' result)
      → IsOfRules t.call t.effect old.mirror → IsFine turns.done → TurnSends o t (step m (replica_of book) t).effect old new result
  turn_sends m t took old new book book' result turns rules ok =
      let a = turns.acts in
      let d = turns.done in
      let x = made f o old.op m t.side t.call t.mirror t.effect d book book' old.upstream.outward a.sent old.mirror a.passed rules (fine_memory d ok) a.performed in
      let y = says f o old.op m t t.call d book book' old.upstream.outward a.sent old.mirror a.passed refl ok rules a.performed in
      let k = settled_as o m t turns.settled turns.shuts (with_half old.upstream a.sent) turns.upstream a.passed turns.mirror (booked_of d) y.outcome y.known a.followed in
      let same : x.outcome ≡ y.outcome = cc (x.known, y.known) in
      let leads : step m (replica_of book) t ≡ with_replica (replica_of book') (settled m t y.outcome) =
      sym (step_fine d m (replica_of book) t ok) ∙ (x.leads ∙ ap (λ (b : Booked). with_replica (replica_of book') (settled m t b)) same) in
      let upper : EndSends o (texts_of old.op (settled m t y.outcome).1.sends) (flushing.shuts_above (settled m t y.outcome).1.shuts) old.upstream new.upstream = record {
        middle = with_half old.upstream a.sent;
        keeps = record { id = refl; lower = refl; inward = refl };
        says = y.up_says;
        shuts = subst (λ (b : Bool). ShutsEnd o b (with_half old.upstream a.sent) new.upstream) (ap shuts_up k.1 ∙ above_same (settled m t y.outcome).1.shuts)
            (subst (λ (z : Conn I O). ShutsEnd o (shuts_up turns.shuts) (with_half old.upstream a.sent) z) (sym (subst (λ (b : Bool). ShutsEnd o b turns.upstream new.upstream) (keeps_up d ok) turns.follows.upper)) k.2);
      } in
      let lost : loses_mirror d ≡ false = fine_mirror d ok in
      let lower : MirrorSends o (passed_text t.call (settled m t y.outcome).1.forwards) (flushing.shuts_below (settled m t y.outcome).1.shuts) old.mirror new.mirror =
      mirror_sends o _ _ old.mirror a.passed turns.mirror new.mirror y.passes
      (subst (λ (b : Bool). ShutsMirror o b a.passed turns.mirror) (ap shuts_below k.1 ∙ below_same (settled m t y.outcome).1.shuts) k.3)
      (subst (λ (b : Bool). ShutsMirror o b turns.mirror new.mirror) lost turns.follows.lower) in
      subst (λ (s : Step). TurnSends o t s.effect old new result) (sym leads) (record {
        upper = upper;
        lower = lower;
        receipt = receipt_of d;
        ended = turns.follows.answer ∙ (ended_fine d turns.shuts ok ∙ ap (λ (s : Shuts). done_step s (receipt_of d)) k.1);
      })
