-- Each turn that found memory is the step of the member's rules.
use Rattle.std.proofs.Common.{◌≡◌, ◌≢◌, ◌⊎◌, inl, inr, ◌≤◌, ◌+◌, ◌^◌, ◌-◌, ℕ, ℤ, Bool, true, false, if◌then◌else◌, List, Option, Some, None, slice_get, negsuc, option_map, Result, Ok, Err, IsOk, IsSome, refl, sym, ap, ◌∙◌, subst, min, arith}
use Rattle.hd_base.specs.Faults.{FaultsIncreased}
use Rattle.hd_base.specs.Results.{◌>>=◌}
use Rattle.hd_base.specs.declared.ends.Conn.{Conn}
use Rattle.hd_base.specs.declared.numbers.ConnId.{ConnId}
use Rattle.hd_base.specs.declared.numbers.Receipt.{Receipt}
use Rattle.hd_base.specs.declared.files.Files as files
use Rattle.hd_base.specs.declared.links.LinkOut as link_out
use Rattle.link_pieces.specs.Pieces.{SendsNothing, SendsPiece, FailsToSend}
use Rattle.packet_codec.specs.declared.packets.Packet.{Packet}
use Rattle.packet_codec.specs.Packets.{packet_text}
use Rattle.op_headers.specs.Values.{WriteFields}
use Rattle.replica_core.specs.declared.ack_queue.PendingPacket.{PendingPacket}
use Rattle.replica_core.specs.declared.events.Event.{Event}
use Rattle.replica_core.specs.declared.events.Event.TheVariants as event
use Rattle.replica_core.specs.declared.records.ReplicaRecord.{ReplicaRecord}
use Rattle.replica_core.specs.declared.refusals.Refusal.{Refusal}
use Rattle.replica_core.specs.declared.refusals.Refusal.TheVariants as refusal
use Rattle.replica_core.specs.Transitions.{Outcome, transition, extent_transition, packet_transition, ack_transition, present, stream_by, oldest_of, done as taken_with, acknowledge, enqueue, extend, reply, answer_of}
use Rattle.replica_core.specs.declared.extents.PacketExtent.{PacketExtent}
use Rattle.replica_core.specs.Refusals.{check}
use Rattle.replica_core.specs.Info.{state_of, is_writable}
use Rattle.replica_core.specs.Extents.{stream_after, heartbeat_of, pending_of}
use Rattle.std.specs.Ordering.{int_eq}
use Rattle.pipe_setup.specs.ReplicaModel.ReplicaEvent.{ReplicaEvent}
use Rattle.pipe_setup.specs.ReplicaModel.ReplicaEvent.TheVariants as replica_event
use Rattle.pipe_setup.specs.ReplicaModel.Rows.{FullReplica, event_at, row, row_answer, broken}
use Rattle.pipe_setup.specs.ReplicaFiles.BookState.{BookState}
use Rattle.pipe_setup.specs.ReplicaFiles.BookFault.{BookFault}
use Rattle.pipe_setup.specs.ReplicaFiles.BookFault.TheVariants as fault
use Rattle.pipe_setup.specs.ReplicaFiles.Books.{IsBookOf, Takes, replica_of}
use Rattle.pipe_setup.specs.ReplicaFiles.Endings.{BookEnds}
use Rattle.pipe_setup.proofs.ReplicaFiles.BookLemmas.{noted}
use Rattle.pipe_turns.specs.BlockReceiver.Taken.{Taken}
use Rattle.pipe_turns.specs.BlockReceiver.Taken.TheVariants as taken
use Rattle.pipe_turns.specs.BlockReceiver.Packets as receiving
use Rattle.pipe_turns.specs.PacketResponder.Sending.{Sending}
use Rattle.pipe_turns.specs.PacketResponder.Sending.TheVariants as sending
use Rattle.pipe_turns.specs.PacketResponder.Sendings as responding
use Rattle.pipe_setup.specs.MemberCore.Effect.{Effect}
use Rattle.pipe_setup.specs.MemberCore.Shuts.{Shuts}
use Rattle.pipe_setup.specs.MemberCore.Shuts.TheVariants as shuts
use Rattle.pipe_setup.specs.MemberCore.Upward.{Upward}
use Rattle.pipe_setup.specs.MemberCore.Mirror.{Mirror}
use Rattle.pipe_setup.specs.MemberCore.Booked.{Booked}
use Rattle.pipe_setup.specs.MemberCore.Booked.TheVariants as booked
use Rattle.pipe_setup.specs.MemberCore.Side.{Side}
use Rattle.pipe_setup.specs.MemberCore.Turn.{Turn}
use Rattle.pipe_setup.specs.MemberCore.Members.{MemberState, settled, refused_turn, turn_of}
use Rattle.pipe_setup.specs.MemberCore.Steps.{Step, step, faulted_step, with_replica, booked_as, outcome_of, replica_after}
use Rattle.pipe_turns.specs.Turning.{CanBook, Performs, PerformsAlone, PerformsPacket, PerformsEvent, PassesEnd, SendsText, SendsAlone, packet_done, sending_done}
use Rattle.pipe_turns.specs.Acting.{Acts, FollowsAs, ShutsEnd, ShutsMirror, booked_of, texts_of, shuts_up, shuts_below, with_half}
use Rattle.pipe_turns.specs.declared.turning.Done.{Done}
use Rattle.pipe_turns.specs.declared.turning.Done.TheVariants as done
use Rattle.pipe_member.specs.declared.member.Member.{Member}
use Rattle.pipe_member.specs.declared.stages.Took.{Took}
use Rattle.pipe_member.specs.declared.stepped.Stepped.{Stepped}
use Rattle.pipe_member.specs.declared.stepped.Stepped.TheVariants as stepped
use Rattle.pipe_member.specs.Steps.{stepped_of, stage_after, loses_upstream, loses_mirror}
use Rattle.pipe_member.specs.Turns.{Turns}
use Rattle.pipe_member.specs.Stepping.{HasSent, Tells, TellsMirror, passed_text, IsOfRules, IsStep, step_by, TurnsAreSteps}

-- ---- an event that a replica takes isn't refused

-- what is taken is answered by no refusal
abbrev Plain : Outcome → Type 0
Plain (Ok x) = booked_as x.answer ≡ booked.Taken
Plain (Err e) = Unit {0}

binds : {A : Type 0} (r : Result A Refusal) (f : A → Outcome) → ((a : A) → Plain (f a)) → Plain (r >>= f)
binds (Ok a) f each = each a
binds (Err e) f each = tt

checks : (b : Bool) (e : Refusal) (o : Outcome) → Plain o → Plain (check b e o)
checks true e o h = h
checks false e o h = tt

chooses : (b : Bool) (x y : Outcome) → Plain x → Plain y → Plain (if b then x else y)
chooses true x y h k = h
chooses false x y h k = k

extents_plain : (c : ReplicaRecord) (conn : ConnId) (p : PacketExtent) → Plain (packet_transition c conn p)
unfolding extent_transition
extents_plain c conn p =
    binds (present c) (λ h. check (is_writable (state_of h)) refusal.NotWriter (stream_by c.stream conn >>= (λ s. extent_transition c h s p)))
    (λ h. checks (is_writable (state_of h)) refusal.NotWriter (stream_by c.stream conn >>= (λ s. extent_transition c h s p))
    (binds (stream_by c.stream conn) (λ s. extent_transition c h s p)
    (λ s. chooses (int_eq p.seqno (negsuc 0)) (heartbeat_of p >>= (λ e. taken_with (enqueue c e))) (stream_after s p >>= (λ t. pending_of h.sums p h.written >>= (λ e. taken_with (extend c h t e))))
    (binds (heartbeat_of p) (λ e. taken_with (enqueue c e)) (λ e. refl))
    (binds (stream_after s p) (λ t. pending_of h.sums p h.written >>= (λ e. taken_with (extend c h t e)))
    (λ t. binds (pending_of h.sums p h.written) (λ e. taken_with (extend c h t e)) (λ e. refl))))))

packet_plain : (c : ReplicaRecord) (conn : ConnId) (seqno offset : ℤ) (bytes sums : ℕ) (last sync : Bool) (bad : Option ℕ) → Plain (transition c (event.Packet conn seqno offset bytes sums last sync bad))
unfolding transition
packet_plain c conn seqno offset bytes sums last sync bad =
    extents_plain c conn (record { seqno = seqno; offset = offset; length = bytes; sums = sums; last = last; sync = sync; bad = bad })

ack_plain : (c : ReplicaRecord) (conn : ConnId) (seqno : ℤ) (good : Bool) → Plain (transition c (event.Ack conn seqno good))
unfolding transition
ack_plain c conn seqno good =
    binds (present c) (λ h. stream_by c.stream conn >>= (λ s. oldest_of (slice_get c.pending 0) seqno >>= (λ e. taken_with (acknowledge c h e good))))
    (λ h. binds (stream_by c.stream conn) (λ s. oldest_of (slice_get c.pending 0) seqno >>= (λ e. taken_with (acknowledge c h e good)))
    (λ s. binds (oldest_of (slice_get c.pending 0) seqno) (λ e. taken_with (acknowledge c h e good)) (λ e. refl)))

ended_plain : (c : ReplicaRecord) (conn : ConnId) → Plain (transition c (event.Ended conn))
unfolding transition
ended_plain c conn = refl

-- a turn books such an event
abbrev IsTurnEvent : ReplicaEvent → Type 0
IsTurnEvent (replica_event.Packet conn p) = Unit {0}
IsTurnEvent (replica_event.Other e) = responding.IsAnswering e

event_plain : (c : ReplicaRecord) (e : Event) → responding.IsAnswering e → Plain (transition c e)
event_plain c (event.Ack conn seqno good) h = ack_plain c conn seqno good
event_plain c (event.Ended conn) h = ended_plain c conn
event_plain c other h = absurd h

turn_plain : (r : FullReplica) (e : ReplicaEvent) → IsTurnEvent e → Plain (transition r.known (event_at r e))
turn_plain r (replica_event.Packet conn p) h = packet_plain r.known conn _ _ _ _ _ _ _
turn_plain r (replica_event.Other e) h = event_plain r.known e h

taken_by : (o : Outcome) → Plain o → IsOk o → booked_as (answer_of (reply o)) ≡ booked.Taken
taken_by (Ok x) plain is = plain
taken_by (Err e) plain is = cc

refused_by : (o : Outcome) (why : Refusal) → o ≡ Err why → booked_as (answer_of (reply o)) ≡ booked.Refused why
refused_by o why is = rw is refl

-- ---- a book's call

-- how the rules are told of what the book answered
abbrev told_of : Result Receipt BookFault → Option Booked
told_of (Ok receipt) = Some booked.Taken
told_of (Err (fault.Refused why receipt)) = Some (booked.Refused why)
told_of (Err (fault.File receipt)) = Some booked.Failed
told_of (Err fault.Memory) = None

-- The replica is the event's row, and was told so; or it is broken.
abbrev IsRow : FullReplica → FullReplica → ReplicaEvent → Option Booked → Type 0
IsRow r r' e None = Unit {0}
IsRow r r' e (Some booked.Failed) = r' ≡ broken r
IsRow r r' e (Some b) = (r' ≡ row r e) × (booked_as (row_answer r e) ≡ b)

module _ {F : Type 0} (f : files.Ghosts F) where
  is_row : (e : ReplicaEvent) (book book' : BookState F) (answered : Result Receipt BookFault) → IsTurnEvent e → BookEnds f book book' e answered
      → IsRow (replica_of book) (replica_of book') e (told_of answered)
  is_row e book book' (Ok receipt) is b = (noted book book' e false receipt b.noted, taken_by _ (turn_plain (replica_of book) e is) b.takes)
  is_row e book book' (Err (fault.Refused why receipt)) is b = (noted book book' e false receipt b.noted, refused_by _ why b.refused)
  is_row e book book' (Err (fault.File receipt)) is b = noted book book' e true receipt b.noted
  is_row e book book' (Err fault.Memory) is b = tt

-- ---- links

rises : (a b c : ℕ) → FaultsIncreased a b → b ≤ c → FaultsIncreased a c
rises a b c h k = later (min (a + 1) (2 ^ 64 - 1)) b c h k
  where
    later : (x y z : ℕ) → x ≤ y → y ≤ z → x ≤ z
    later x y z one two = omega arith

same_le : (n : ℕ) → n ≤ n
same_le n = omega arith

module _ {O : Type 0} (o : link_out.Ghosts O) where
  sent_same : (text : Option (List ℕ)) (old mid new : O) → HasSent (o.sent old) (o.sent mid) text → o.sent new ≡ o.sent mid → HasSent (o.sent old) (o.sent new) text
  sent_same None old mid new h same = same ∙ h
  sent_same (Some text) old mid new h same = same ∙ h

  -- What was told stays so while the half is shut, or not.
  tells_on : (text : Option (List ℕ)) (old mid new : O) → Tells o text old mid → o.sent new ≡ o.sent mid → o.faults mid ≤ o.faults new → Tells o text old new
  tells_on text old mid new (inl sent) same later = inl (sent_same text old mid new sent same)
  tells_on text old mid new (inr rose) same later = inr (rises _ _ _ rose later)

pub record Keeps {O : Type 0} (o : link_out.Ghosts O) (old new : O) : Type 0 where
  pub sent : o.sent new ≡ o.sent old
  pub later : o.faults old ≤ o.faults new

module _ {I O : Type 0} (o : link_out.Ghosts O) where
  shut_keeps : (closes : Bool) (old new : Conn I O) → ShutsEnd o closes old new → Keeps o old.outward new.outward
  shut_keeps true old new h = record { sent = h.half.sent; later = h.half.never_falls }
  shut_keeps false old new h = record { sent = ap (λ (end : Conn I O). o.sent end.outward) h; later = subst (λ (end : Conn I O). o.faults old.outward ≤ o.faults end.outward) (sym h) (same_le (o.faults old.outward)) }

  pub told_end : (text : Option (List ℕ)) (closes : Bool) (old : O) (mid new : Conn I O) → Tells o text old mid.outward → ShutsEnd o closes mid new → Tells o text old new.outward
  told_end text closes old mid new h shut = let k = shut_keeps closes mid new shut in tells_on o text old mid.outward new.outward h k.sent k.later

  told_mirror : (text : Option (List ℕ)) (closes : Bool) (old mid new : Option (Conn I O)) → TellsMirror o text old mid → ShutsMirror o closes mid new → TellsMirror o text old new
  told_mirror text closes None None None h shut = tt
  told_mirror text closes None None (Some new) h shut = absurd shut
  told_mirror text closes None (Some mid) new h shut = absurd h
  told_mirror text closes (Some old) None new h shut = absurd h
  told_mirror text closes (Some old) (Some mid) None h shut = absurd shut
  told_mirror text closes (Some old) (Some mid) (Some new) h shut = told_end text closes old.outward mid new h shut

  still_mirror : (mirror : Option (Conn I O)) → TellsMirror o None mirror mirror
  still_mirror None = tt
  still_mirror (Some end) = inl refl

-- ---- what is sent

-- nothing is sent after a call that the book didn't take
pub silent : (m : MemberState) (t : Turn) (b : Booked) → b ≢ booked.Taken → ((settled m t b).1.sends ≡ None) × ((settled m t b).1.forwards ≡ false)
silent m t booked.Taken never = absurd (never refl)
silent m t booked.Failed never = (refl, refl)
silent m t (booked.Refused why) never = refused_silent m t.call t why
  where
    bad_silent : (m : MemberState) (call : Option ReplicaEvent) (t : Turn) (chunk : ℕ) → t.call ≡ call → ((refused_turn m t (refusal.BadSum chunk)).1.sends ≡ None) × ((refused_turn m t (refusal.BadSum chunk)).1.forwards ≡ false)
    bad_silent m None t chunk is = rw is (refl, refl)
    bad_silent m (Some (replica_event.Packet conn p)) t chunk is = rw is (refl, refl)
    bad_silent m (Some (replica_event.Other e)) t chunk is = rw is (refl, refl)

    refused_silent : (m : MemberState) (call : Option ReplicaEvent) (t : Turn) (why : Refusal) → ((refused_turn m t why).1.sends ≡ None) × ((refused_turn m t why).1.forwards ≡ false)
    refused_silent m call t (refusal.BadSum chunk) = bad_silent m t.call t chunk refl
    refused_silent m call t why = (refl, refl)

-- the step of a turn whose call ended so
abbrev pub step_done : Done → MemberState → FullReplica → Turn → Step
step_done (done.File receipt) m r t = faulted_step m r t
step_done other m r t = step m r t

by_done : (d : Done) (s : Shuts) (m : MemberState) (r : FullReplica) (t : Turn) → step_by (stepped_of d s) m r t ≡ step_done d m r t
by_done (done.File receipt) s m r t = refl
by_done (done.LinkFailed receipt) s m r t = refl
by_done done.Memory s m r t = refl
by_done (done.Taken receipt) shuts.Nothing m r t = refl
by_done (done.Taken receipt) shuts.Mirror m r t = refl
by_done (done.Taken receipt) shuts.Both m r t = refl
by_done (done.Refused why receipt) shuts.Nothing m r t = refl
by_done (done.Refused why receipt) shuts.Mirror m r t = refl
by_done (done.Refused why receipt) shuts.Both m r t = refl
by_done (done.MirrorFailed receipt) shuts.Nothing m r t = refl
by_done (done.MirrorFailed receipt) shuts.Mirror m r t = refl
by_done (done.MirrorFailed receipt) shuts.Both m r t = refl

-- What a turn has made once its call and what is sent then ended so.
pub record Made {F I O : Type 0} (o : link_out.Ghosts O) (op : WriteFields) (m : MemberState) (t : Turn) (d : Done) (book book' : BookState F) (up sent : O) (below passed : Option (Conn I O)) : Type 0 where
  pub outcome : Booked
  pub known : booked_of d ≡ Some outcome
  pub leads : step_done d m (replica_of book) t ≡ with_replica (replica_of book') (settled m t outcome)
  pub told : Tells o (texts_of op (settled m t outcome).1.sends) up sent
  pub goes_on : TellsMirror o (passed_text t.call (settled m t outcome).1.forwards) below passed

-- by what the rules are told, the row is the step's replica
row_leads : (m : MemberState) (t : Turn) (call : ReplicaEvent) (r r' : FullReplica) (b : Booked) → t.call ≡ Some call → r' ≡ row r call → booked_as (row_answer r call) ≡ b
    → step m r t ≡ with_replica r' (settled m t b)
row_leads m t call r r' b is to says =
    ap (λ (c : Option ReplicaEvent). with_replica (replica_after r c) (settled m t (outcome_of r c))) is
    ∙ (ap (λ (x : Booked). with_replica (row r call) (settled m t x)) says ∙ ap (λ (x : FullReplica). with_replica x (settled m t b)) (sym to))

module _ {O : Type 0} (o : link_out.Ghosts O) where
  -- a half that said nothing
  says_none : (op : WriteFields) (sends : Option Upward) (up sent : O) → sends ≡ None → o.sent sent ≡ o.sent up → Tells o (texts_of op sends) up sent
  says_none op sends up sent none same = rw none (inl same)

  pub alone_says : (text : Option (List ℕ)) (r : Option Receipt) (up sent : O) → SendsAlone o text (done.Taken r) up sent → Tells o text up sent
  alone_says None None up sent h = inl (ap o.sent h)
  alone_says (Some text) None up sent h = inl h.sent
  alone_says None (Some r) up sent h = absurd h
  alone_says (Some text) (Some r) up sent h = absurd h

  pub alone_fails : (text : Option (List ℕ)) (r : Option Receipt) (up sent : O) → SendsAlone o text (done.LinkFailed r) up sent → Tells o text up sent
  alone_fails None None up sent h = absurd h
  alone_fails (Some text) None up sent h = inr h.rose
  alone_fails None (Some r) up sent h = absurd h
  alone_fails (Some text) (Some r) up sent h = absurd h

  pub refused_alone : (text : Option (List ℕ)) (why : Refusal) (r : Receipt) (up sent : O) → SendsAlone o text (done.Refused why r) up sent → ⊥
  refused_alone None why r up sent h = h
  refused_alone (Some text) why r up sent h = h

  pub file_alone : (text : Option (List ℕ)) (r : Receipt) (up sent : O) → SendsAlone o text (done.File r) up sent → ⊥
  file_alone None r up sent h = h
  file_alone (Some text) r up sent h = h

  pub mirror_alone : (text : Option (List ℕ)) (r : Receipt) (up sent : O) → SendsAlone o text (done.MirrorFailed r) up sent → ⊥
  mirror_alone None r up sent h = h
  mirror_alone (Some text) r up sent h = h

  text_done : (text : Option (List ℕ)) (r : Receipt) (up sent : O) → SendsText o text (sending.Done r) up sent → Tells o text up sent
  text_done None r up sent h = inl (ap o.sent h.1)
  text_done (Some text) r up sent h = inl h.sent

  text_lost : (text : Option (List ℕ)) (r : Receipt) (up sent : O) → SendsText o text (sending.LinkFailed r) up sent → Tells o text up sent
  text_lost None r up sent h = absurd h.0
  text_lost (Some text) r up sent h = inr h.rose

  text_refused : (text : Option (List ℕ)) (why : Refusal) (r : Receipt) (up sent : O) → SendsText o text (sending.Refused why r) up sent → o.sent sent ≡ o.sent up
  text_refused None why r up sent h = ap o.sent h.1
  text_refused (Some text) why r up sent h = h.sent

  text_file : (text : Option (List ℕ)) (r : Receipt) (up sent : O) → SendsText o text (sending.File r) up sent → o.sent sent ≡ o.sent up
  text_file None r up sent h = ap o.sent h.1
  text_file (Some text) r up sent h = h.sent

module _ {I O : Type 0} (o : link_out.Ghosts O) where
  goes_none : (call : Option ReplicaEvent) (forwards : Bool) (below passed : Option (Conn I O)) → forwards ≡ false → TellsMirror o None below passed → TellsMirror o (passed_text call forwards) below passed
  goes_none None forwards below passed off h = h
  goes_none (Some (replica_event.Packet conn p)) forwards below passed off h = rw off h
  goes_none (Some (replica_event.Other x)) forwards below passed off h = h

  pass_refused : (p : Packet) (why : Refusal) (r : Receipt) (below passed : Option (Conn I O)) → PassesEnd o p (taken.Refused why r) below passed → TellsMirror o None below passed
  pass_refused p why r None None h = tt
  pass_refused p why r None (Some new) h = absurd h
  pass_refused p why r (Some old) None h = absurd h
  pass_refused p why r (Some old) (Some new) h = inl h.3.sent

  pass_file : (p : Packet) (r : Receipt) (below passed : Option (Conn I O)) → PassesEnd o p (taken.File r) below passed → TellsMirror o None below passed
  pass_file p r None None h = tt
  pass_file p r None (Some new) h = absurd h
  pass_file p r (Some old) None h = absurd h
  pass_file p r (Some old) (Some new) h = inl h.3.sent

  pass_on : (p : Packet) (conn : ConnId) (forwards : Bool) (r : Receipt) (below passed : Option (Conn I O)) → (IsSome below → forwards ≡ true)
      → PassesEnd o p (taken.Booked r) below passed → TellsMirror o (passed_text (Some (replica_event.Packet conn p)) forwards) below passed
  pass_on p conn forwards r None None on h = tt
  pass_on p conn forwards r None (Some new) on h = absurd h
  pass_on p conn forwards r (Some old) None on h = absurd h
  pass_on p conn forwards r (Some old) (Some new) on h = rw (on refl) (inl h.3.sent)

  pass_lost : (p : Packet) (conn : ConnId) (forwards : Bool) (r : Receipt) (below passed : Option (Conn I O))
      → PassesEnd o p (taken.MirrorFailed r) below passed → TellsMirror o (passed_text (Some (replica_event.Packet conn p)) forwards) below passed
  pass_lost p conn forwards r None None h = tt
  pass_lost p conn forwards r None (Some new) h = absurd h
  pass_lost p conn forwards r (Some old) None h = absurd h
  pass_lost p conn forwards r (Some old) (Some new) h = inr h.3.rose

module _ {F I O : Type 0} (f : files.Ghosts F) (o : link_out.Ghosts O) (op : WriteFields) (m : MemberState) where
  -- NOTHING IS BOOKED

  made_alone : (at : Side) (mi : Mirror) (e : Effect) (d : Done) (book book' : BookState F) (up sent : O) (below passed : Option (Conn I O)) → d ≢ done.Memory
      → PerformsAlone o (texts_of op e.sends) book book' up sent below passed d → Made o op m (turn_of at None mi e) d book book' up sent below passed
  made_alone at mi e (done.Taken r) book book' up sent below passed never p = record {
    outcome = booked.Taken;
    known = refl;
    leads = ap (λ (b : BookState F). with_replica (replica_of b) (settled m (turn_of at None mi e) booked.Taken)) (sym p.book_same);
    told = alone_says o (texts_of op e.sends) r up sent p.sends;
    goes_on = rw p.below_same (still_mirror o below);
  }
  made_alone at mi e (done.LinkFailed r) book book' up sent below passed never p = record {
    outcome = booked.Taken;
    known = refl;
    leads = ap (λ (b : BookState F). with_replica (replica_of b) (settled m (turn_of at None mi e) booked.Taken)) (sym p.book_same);
    told = alone_fails o (texts_of op e.sends) r up sent p.sends;
    goes_on = rw p.below_same (still_mirror o below);
  }
  made_alone at mi e (done.Refused why r) book book' up sent below passed never p = absurd (refused_alone o (texts_of op e.sends) why r up sent p.sends)
  made_alone at mi e (done.File r) book book' up sent below passed never p = absurd (file_alone o (texts_of op e.sends) r up sent p.sends)
  made_alone at mi e (done.MirrorFailed r) book book' up sent below passed never p = absurd (mirror_alone o (texts_of op e.sends) r up sent p.sends)
  made_alone at mi e done.Memory book book' up sent below passed never p = absurd (never refl)

  -- A PACKET

  packet_made : (at : Side) (mi : Mirror) (e : Effect) (conn : ConnId) (p : Packet) (x : Taken) (book book' : BookState F) (up sent : O) (below passed : Option (Conn I O))
      → e.sends ≡ None → (IsSome below → e.forwards ≡ true) → packet_done x ≢ done.Memory → BookEnds f book book' (replica_event.Packet conn p) (receiving.booked_as x) → sent ≡ up → PassesEnd o p x below passed
      → Made o op m (turn_of at (Some (replica_event.Packet conn p)) mi e) (packet_done x) book book' up sent below passed
  packet_made at mi e conn p (taken.Booked r) book book' up sent below passed none on never b same pass =
      let c = is_row f (replica_event.Packet conn p) book book' (Ok r) tt b in
      record {
        outcome = booked.Taken;
        known = refl;
        leads = row_leads m (turn_of at (Some (replica_event.Packet conn p)) mi e) (replica_event.Packet conn p) (replica_of book) (replica_of book') booked.Taken refl c.0 c.1;
        told = says_none o op e.sends up sent none (ap o.sent same);
        goes_on = pass_on o p conn e.forwards r below passed on pass;
      }
  packet_made at mi e conn p (taken.MirrorFailed r) book book' up sent below passed none on never b same pass =
      let c = is_row f (replica_event.Packet conn p) book book' (Ok r) tt b in
      record {
        outcome = booked.Taken;
        known = refl;
        leads = row_leads m (turn_of at (Some (replica_event.Packet conn p)) mi e) (replica_event.Packet conn p) (replica_of book) (replica_of book') booked.Taken refl c.0 c.1;
        told = says_none o op e.sends up sent none (ap o.sent same);
        goes_on = pass_lost o p conn e.forwards r below passed pass;
      }
  packet_made at mi e conn p (taken.Refused why r) book book' up sent below passed none on never b same pass =
      let t : Turn = turn_of at (Some (replica_event.Packet conn p)) mi e in
      let c = is_row f (replica_event.Packet conn p) book book' (Err (fault.Refused why r)) tt b in
      let quiet = silent m t (booked.Refused why) (λ h. cc) in
      record {
        outcome = booked.Refused why;
        known = refl;
        leads = row_leads m t (replica_event.Packet conn p) (replica_of book) (replica_of book') (booked.Refused why) refl c.0 c.1;
        told = says_none o op (settled m t (booked.Refused why)).1.sends up sent quiet.0 (ap o.sent same);
        goes_on = goes_none o (Some (replica_event.Packet conn p)) (settled m t (booked.Refused why)).1.forwards below passed quiet.1 (pass_refused o p why r below passed pass);
      }
  packet_made at mi e conn p (taken.File r) book book' up sent below passed none on never b same pass =
      let t : Turn = turn_of at (Some (replica_event.Packet conn p)) mi e in
      record {
        outcome = booked.Failed;
        known = refl;
        leads = ap (λ (x : FullReplica). with_replica x (settled m t booked.Failed)) (sym (is_row f (replica_event.Packet conn p) book book' (Err (fault.File r)) tt b));
        told = inl (ap o.sent same);
        goes_on = goes_none o (Some (replica_event.Packet conn p)) false below passed refl (pass_file o p r below passed pass);
      }
  packet_made at mi e conn p taken.Memory book book' up sent below passed none on never b same pass = absurd (never refl)

  -- ANOTHER EVENT

  event_made : (at : Side) (mi : Mirror) (e : Effect) (x : Event) (s : Sending) (book book' : BookState F) (up sent : O) (below passed : Option (Conn I O))
      → responding.IsAnswering x → sending_done s ≢ done.Memory → BookEnds f book book' (replica_event.Other x) (responding.booked_in s) → SendsText o (texts_of op e.sends) s up sent → passed ≡ below
      → Made o op m (turn_of at (Some (replica_event.Other x)) mi e) (sending_done s) book book' up sent below passed
  event_made at mi e x (sending.Done r) book book' up sent below passed is never b says same =
      let c = is_row f (replica_event.Other x) book book' (Ok r) is b in
      record {
        outcome = booked.Taken;
        known = refl;
        leads = row_leads m (turn_of at (Some (replica_event.Other x)) mi e) (replica_event.Other x) (replica_of book) (replica_of book') booked.Taken refl c.0 c.1;
        told = text_done o (texts_of op e.sends) r up sent says;
        goes_on = rw same (still_mirror o below);
      }
  event_made at mi e x (sending.LinkFailed r) book book' up sent below passed is never b says same =
      let c = is_row f (replica_event.Other x) book book' (Ok r) is b in
      record {
        outcome = booked.Taken;
        known = refl;
        leads = row_leads m (turn_of at (Some (replica_event.Other x)) mi e) (replica_event.Other x) (replica_of book) (replica_of book') booked.Taken refl c.0 c.1;
        told = text_lost o (texts_of op e.sends) r up sent says;
        goes_on = rw same (still_mirror o below);
      }
  event_made at mi e x (sending.Refused why r) book book' up sent below passed is never b says same =
      let t : Turn = turn_of at (Some (replica_event.Other x)) mi e in
      let c = is_row f (replica_event.Other x) book book' (Err (fault.Refused why r)) is b in
      let quiet = silent m t (booked.Refused why) (λ h. cc) in
      record {
        outcome = booked.Refused why;
        known = refl;
        leads = row_leads m t (replica_event.Other x) (replica_of book) (replica_of book') (booked.Refused why) refl c.0 c.1;
        told = says_none o op (settled m t (booked.Refused why)).1.sends up sent quiet.0 (text_refused o (texts_of op e.sends) why r up sent says);
        goes_on = rw same (still_mirror o below);
      }
  event_made at mi e x (sending.File r) book book' up sent below passed is never b says same =
      let t : Turn = turn_of at (Some (replica_event.Other x)) mi e in
      record {
        outcome = booked.Failed;
        known = refl;
        leads = ap (λ (y : FullReplica). with_replica y (settled m t booked.Failed)) (sym (is_row f (replica_event.Other x) book book' (Err (fault.File r)) is b));
        told = inl (text_file o (texts_of op e.sends) r up sent says);
        goes_on = rw same (still_mirror o below);
      }
  event_made at mi e x sending.Memory book book' up sent below passed is never b says same = absurd (never refl)

  pub made : (at : Side) (call : Option ReplicaEvent) (mi : Mirror) (e : Effect) (d : Done) (book book' : BookState F) (up sent : O) (below passed : Option (Conn I O)) → IsOfRules call e below → d ≢ done.Memory
      → Performs f o call (texts_of op e.sends) book book' up sent below passed d → Made o op m (turn_of at call mi e) d book book' up sent below passed
  made at None mi e d book book' up sent below passed rules never p = made_alone at mi e d book book' up sent below passed never p
  made at (Some (replica_event.Packet conn x)) mi e d book book' up sent below passed rules never p =
      subst (λ (y : Done). Made o op m (turn_of at (Some (replica_event.Packet conn x)) mi e) y book book' up sent below passed) (sym p.is)
      (packet_made at mi e conn x p.taken book book' up sent below passed rules.0 rules.1 (λ h. never (p.is ∙ h)) p.booked p.up_same p.passes)
  made at (Some (replica_event.Other x)) mi e d book book' up sent below passed rules never p =
      subst (λ (y : Done). Made o op m (turn_of at (Some (replica_event.Other x)) mi e) y book book' up sent below passed) (sym p.is)
      (event_made at mi e x p.sending book book' up sent below passed rules (λ h. never (p.is ∙ h)) p.booked p.sends p.below_same)

-- ---- the whole turn

pub no_memory : (d : Done) (s : Shuts) → stepped_of d s ≢ stepped.Memory → d ≢ done.Memory
no_memory d s never is = never (ap (λ (x : Done). stepped_of x s) is)

-- what follows as the rules are told
abbrev pub IsSettled : {I O : Type 0} → link_out.Ghosts O → MemberState → Turn → MemberState → Shuts → Conn I O → Conn I O → Option (Conn I O) → Option (Conn I O) → Booked → Type 0
IsSettled o m t m' s up up' below below' b = (m' ≡ (settled m t b).0) × (s ≡ (settled m t b).1.shuts) × ShutsEnd o (shuts_up s) up up' × ShutsMirror o (shuts_below s) below below'

pub settled_as : {I O : Type 0} (o : link_out.Ghosts O) (m : MemberState) (t : Turn) (m' : MemberState) (s : Shuts) (up up' : Conn I O) (below below' : Option (Conn I O)) (known : Option Booked) (b : Booked)
    → known ≡ Some b → FollowsAs o t m m' up up' below below' s known → IsSettled o m t m' s up up' below below' b
settled_as o m t m' s up up' below below' known b is h = subst (λ (k : Option Booked). FollowsAs o t m m' up up' below below' s k) is h

pub turns_step : {F I O : Type 0} (f : files.Ghosts F) (o : link_out.Ghosts O) → TurnsAreSteps F I O f o
turns_step f o m t took old new book book' result rules never turns =
    let a = turns.acts in
    let d = turns.done in
    let s = turns.shuts in
    let is : result ≡ stepped_of d s = turns.follows.answer in
    let x = made f o old.op m t.side t.call t.mirror t.effect d book book' old.upstream.outward a.sent old.mirror a.passed rules (no_memory d s (λ h. never (is ∙ h))) a.performed in
    let k = settled_as o m t turns.settled s (with_half old.upstream a.sent) turns.upstream a.passed turns.mirror (booked_of d) x.outcome x.known a.followed in
    let st : Step = with_replica (replica_of book') (settled m t x.outcome) in
    let same : step_by result m (replica_of book) t ≡ st = ap (λ (y : Stepped). step_by y m (replica_of book) t) is ∙ (by_done d s m (replica_of book) t ∙ x.leads) in
    subst (λ (y : Step). IsStep o t y old new book book') (sym same) (record {
      member = turns.follows.stage ∙ (ap (λ (y : MemberState). stage_after y s) k.0 ∙ ap (stage_after (settled m t x.outcome).0) k.1);
      replica = refl;
      told = told_end o _ (loses_upstream d) old.upstream.outward turns.upstream new.upstream (told_end o _ (shuts_up s) old.upstream.outward (with_half old.upstream a.sent) turns.upstream x.told k.2) turns.follows.upper;
      passed = told_mirror o _ (loses_mirror d) old.mirror turns.mirror new.mirror (told_mirror o _ (shuts_below s) old.mirror a.passed turns.mirror x.goes_on k.3) turns.follows.lower;
    })
