-- How the events of an open member fail: which count rose.
use Rattle.std.proofs.Common.{◌≡◌, ◌≤◌, ℕ, Bool, true, false, List, Option, Some, None, refl, sym, ap, ◌∙◌, subst, arith}
use Rattle.hd_base.specs.Faults.{FaultsIncreased}
use Rattle.hd_base.specs.Ends.{has_failed}
use Rattle.hd_base.specs.declared.ends.Conn.{Conn}
use Rattle.hd_base.specs.declared.files.Files as files
use Rattle.hd_base.specs.declared.links.LinkIn as link_in
use Rattle.hd_base.specs.declared.links.LinkOut as link_out
use Rattle.hd_base.specs.declared.numbers.Receipt.{Receipt}
use Rattle.pipe_member.specs.PacketCodec.Packet.{Packet}
use Rattle.pipe_member.specs.FrameFeed.Kinds.{Kind, acks, responses, packets}
use Rattle.pipe_member.specs.LinkMessages.Next.{Next}
use Rattle.pipe_member.specs.LinkMessages.Next.TheVariants as came
use Rattle.pipe_member.specs.LinkMessages.Incomings.{IncomingState, Comes}
use Rattle.pipe_member.specs.ReplicaModel.ReplicaEvent.{ReplicaEvent}
use Rattle.pipe_member.specs.ReplicaModel.ReplicaEvent.TheVariants as replica_event
use Rattle.pipe_member.specs.ReplicaFiles.BookState.{BookState}
use Rattle.pipe_member.specs.BlockReceiver.Taken.{Taken}
use Rattle.pipe_member.specs.BlockReceiver.Taken.TheVariants as taken
use Rattle.pipe_member.specs.PacketResponder.Sending.{Sending}
use Rattle.pipe_member.specs.PacketResponder.Sending.TheVariants as sending
use Rattle.pipe_member.specs.MemberCore.Shuts.{Shuts}
use Rattle.pipe_member.specs.MemberCore.FromBelow.{FromBelow}
use Rattle.pipe_member.specs.MemberCore.Booked.{Booked}
use Rattle.pipe_member.specs.MemberCore.Turn.{Turn}
use Rattle.pipe_member.specs.MemberCore.Members.{MemberState}
use Rattle.pipe_member.specs.PipeTurns.Turning.{Performs, PassesEnd, SendsAlone, packet_done, sending_done}
use Rattle.pipe_member.specs.PipeTurns.Acting.{ShutsEnd, ShutsMirror, FollowsAs, booked_of, texts_of, with_half}
use Rattle.pipe_member.specs.PipeTurns.Done.{Done}
use Rattle.pipe_member.specs.PipeTurns.Done.TheVariants as done
use Rattle.pipe_member.specs.declared.member.Member.{Member}
use Rattle.pipe_member.specs.declared.stages.Looked.{Looked}
use Rattle.pipe_member.specs.declared.stages.Looked.TheVariants as looked
use Rattle.pipe_member.specs.declared.stages.Took.{Took}
use Rattle.pipe_member.specs.declared.stages.Took.TheVariants as took
use Rattle.pipe_member.specs.declared.stepped.Stepped.{Stepped}
use Rattle.pipe_member.specs.declared.stepped.Stepped.TheVariants as stepped
use Rattle.pipe_member.specs.Looks.{looked_of}
use Rattle.pipe_member.specs.Above.{AboveState, nothing_above, LooksAbove, ReceivesAbove}
use Rattle.pipe_member.specs.Below.{BelowState, below_after, stands_end, LooksBelow, LooksAt, ReceivesBelow}
use Rattle.pipe_member.specs.Events.{TurnsIf, TakesDown, TakesUp, LooksDown, GoesDownBy, GoesUpBy}
use Rattle.pipe_member.specs.Steps.{is_failed, is_asked, finds_no_memory, as_failure, loses_mirror}
use Rattle.pipe_member.specs.Turns.{Turns}
use Rattle.member_events.proofs.CauseLaws.{in_failed, out_failed, still_risen, turn_link, turn_file}

true_false : true ≡ false → ⊥
true_false h = cc

-- a turn in which the mirror's link didn't fail
not_lost : (d : Done) (receipt : Receipt) → loses_mirror d ≡ false → d ≡ done.MirrorFailed receipt → ⊥
not_lost d receipt kept is = true_false (sym (ap loses_mirror is) ∙ kept)

link_ready : (receipt : Option Receipt) → stepped.LinkFailed receipt ≡ stepped.NotReady → ⊥
link_ready receipt h = cc

link_memory : (receipt : Option Receipt) → stepped.LinkFailed receipt ≡ stepped.Memory → ⊥
link_memory receipt h = cc

file_ready : (receipt : Receipt) → stepped.File receipt ≡ stepped.NotReady → ⊥
file_ready receipt h = cc

file_memory : (receipt : Receipt) → stepped.File receipt ≡ stepped.Memory → ⊥
file_memory receipt h = cc

no_event : (s : Sending) (receipt : Receipt) → sending_done s ≡ done.MirrorFailed receipt → ⊥
no_event (sending.Done r) receipt h = cc
no_event (sending.LinkFailed r) receipt h = cc
no_event (sending.Refused why r) receipt h = cc
no_event (sending.File r) receipt h = cc
no_event sending.Memory receipt h = cc

no_alone : {O : Type 0} (o : link_out.Ghosts O) (text : Option (List ℕ)) (d : Done) (receipt : Receipt) (up sent : O) → d ≡ done.MirrorFailed receipt → SendsAlone o text d up sent → ⊥
no_alone o None d receipt up sent is h = subst (λ (x : Done). SendsAlone o None x up sent) is h
no_alone o (Some text) d receipt up sent is h = subst (λ (x : Done). SendsAlone o (Some text) x up sent) is h

-- AN END WHOSE COUNT ROSE

-- an outward half's count has risen, or an inward one's
abbrev pub MirrorFailed : {I O : Type 0} → link_in.Ghosts I → link_out.Ghosts O → Option (Conn I O) → Type 0
MirrorFailed i o None = ⊥
MirrorFailed i o (Some e) = has_failed i o e ≡ true

abbrev OutRose : {I O : Type 0} → link_out.Ghosts O → Option (Conn I O) → Type 0
OutRose o None = ⊥
OutRose o (Some e) = (before : ℕ) × FaultsIncreased before (o.faults e.outward)

same_less : (n : ℕ) → n ≤ n
same_less n = omega arith

module _ {I O : Type 0} (o : link_out.Ghosts O) where
  pub later_end : (closes : Bool) (old new : Conn I O) → ShutsEnd o closes old new → o.faults old.outward ≤ o.faults new.outward
  later_end true old new h = h.half.never_falls
  later_end false old new h = subst (λ (e : Conn I O). o.faults old.outward ≤ o.faults e.outward) (sym h) (same_less (o.faults old.outward))

  rose_on : (closes : Bool) (old new : Option (Conn I O)) → ShutsMirror o closes old new → OutRose o old → OutRose o new
  rose_on closes None new h k = absurd k
  rose_on closes (Some old) None h k = absurd h
  rose_on closes (Some old) (Some new) h k = (k.0, still_risen k.0 (o.faults old.outward) (o.faults new.outward) k.1 (later_end closes old new h))

  rose_followed : (t : Turn) (m m' : MemberState) (up up' : Conn I O) (below below' : Option (Conn I O)) (s : Shuts) (b : Option Booked) → FollowsAs o t m m' up up' below below' s b → OutRose o below → OutRose o below'
  rose_followed t m m' up up' below below' s None h k = subst (λ (x : Option (Conn I O)). OutRose o x) (sym h.2) k
  rose_followed t m m' up up' below below' s (Some b) h k = rose_on _ below below' h.3 k

  rose_failed : (i : link_in.Ghosts I) (e : Option (Conn I O)) → OutRose o e → MirrorFailed i o e
  rose_failed i None k = k
  rose_failed i (Some e) k = out_failed i o k.0 e k.1

  -- the packet didn't go to the mirror, whose link failed
  lost_packet : (p : Packet) (x : Taken) (receipt : Receipt) (below passed : Option (Conn I O)) → packet_done x ≡ done.MirrorFailed receipt → PassesEnd o p x below passed → OutRose o passed
  lost_packet p (taken.MirrorFailed r) receipt None None is h = absurd h
  lost_packet p (taken.MirrorFailed r) receipt None (Some new) is h = absurd h
  lost_packet p (taken.MirrorFailed r) receipt (Some old) None is h = absurd h
  lost_packet p (taken.MirrorFailed r) receipt (Some old) (Some new) is h = (o.faults old.outward, h.3.rose)
  lost_packet p (taken.Booked r) receipt below passed is h = absurd (not_lost (done.Taken (Some r)) receipt refl is)
  lost_packet p (taken.Refused why r) receipt below passed is h = absurd (not_lost (done.Refused why r) receipt refl is)
  lost_packet p (taken.File r) receipt below passed is h = absurd (not_lost (done.File r) receipt refl is)
  lost_packet p taken.Memory receipt below passed is h = absurd (not_lost done.Memory receipt refl is)

-- what stands next is the end only where the mirror's link failed in the turn
abbrev LosesMirror : Done → Type 0
LosesMirror d = (receipt : Receipt) × (d ≡ done.MirrorFailed receipt)

not_end : (b : BelowState) → b.next ≡ None → stands_end b.next ≡ true → ⊥
not_end b none h = let e : stands_end b.next ≡ false = ap stands_end none in cc

lost_done : (d : Done) (b : BelowState) → b.next ≡ None → stands_end (below_after took.Above d b).next ≡ true → LosesMirror d
lost_done (done.MirrorFailed r) b none h = (r, refl)
lost_done (done.Taken r) b none h = absurd (not_end b none h)
lost_done (done.Refused why r) b none h = absurd (not_end b none h)
lost_done (done.LinkFailed r) b none h = absurd (not_end b none h)
lost_done (done.File r) b none h = absurd (not_end b none h)
lost_done done.Memory b none h = absurd (not_end b none h)

-- what came where the link failed
pub found_failed : {M I : Type 0} (i : link_in.Ghosts I) (kind : Kind M) (old new : IncomingState) (half half' : I) (r : Next M) → looked_of r ≡ looked.Failed → Comes kind i old new half half' r → FaultsIncreased (i.faults half) (i.faults half')
found_failed i kind old new half half' came.Failed is c = c.0
found_failed i kind old new half half' (came.Message m) is c = cc
found_failed i kind old new half half' came.Unreadable is c = cc
found_failed i kind old new half half' came.End is c = cc
found_failed i kind old new half half' came.NotYet is c = cc
found_failed i kind old new half half' came.Memory is c = cc

module _ {F I O : Type 0} (f : files.Ghosts F) (i : link_in.Ghosts I) (o : link_out.Ghosts O) where
  performs_lost : (call : Option ReplicaEvent) (text : Option (List ℕ)) (book book' : BookState F) (up sent : O) (below passed : Option (Conn I O)) (d : Done) (receipt : Receipt) → d ≡ done.MirrorFailed receipt → Performs f o call text book book' up sent below passed d → OutRose o passed
  performs_lost None text book book' up sent below passed d receipt is p = absurd (no_alone o text d receipt up sent is p.sends)
  performs_lost (Some (replica_event.Packet conn x)) text book book' up sent below passed d receipt is p = lost_packet o x p.taken receipt below passed (sym p.is ∙ is) p.passes
  performs_lost (Some (replica_event.Other x)) text book book' up sent below passed d receipt is p = absurd (no_event p.sending receipt (sym p.is ∙ is))

  turn_lost : (m : MemberState) (t : Turn) (old new : Member I O) (book book' : BookState F) (ended : Stepped) → old.below.next ≡ None → stands_end new.below.next ≡ true → Turns f o m t took.Above old new book book' ended → MirrorFailed i o new.mirror
  turn_lost m t old new book book' ended none h turns =
      let a = turns.acts in
      let l = lost_done turns.done old.below none (subst (λ (b : BelowState). stands_end b.next ≡ true) turns.follows.below h) in
      rose_failed o i new.mirror (rose_on o _ turns.mirror new.mirror turns.follows.lower
      (rose_followed o t m turns.settled (with_half old.upstream a.sent) turns.upstream a.passed turns.mirror turns.shuts (booked_of turns.done) a.followed
      (performs_lost t.call (texts_of old.op t.effect.sends) book book' old.upstream.outward a.sent old.mirror a.passed turns.done l.0 l.1 a.performed)))

  stays_none : (old new : Member I O) → new ≡ old → old.below.next ≡ None → stands_end new.below.next ≡ true → ⊥
  stays_none old new same none h = not_end old.below none (subst (λ (x : Member I O). stands_end x.below.next ≡ true) same h)

  lost_if : (m : MemberState) (t : Option Turn) (old new : Member I O) (book book' : BookState F) (ended : Stepped) → old.below.next ≡ None → stands_end new.below.next ≡ true → TurnsIf f o m t took.Above old new book book' ended → MirrorFailed i o new.mirror
  lost_if m None old new book book' ended none h x = absurd (stays_none old new x.member_same none h)
  lost_if m (Some t) old new book book' ended none h x = turn_lost m t old new book book' ended none h x

  lost_found : (m : MemberState) (found : Looked) (seen new : Member I O) (book book' : BookState F) (ended : Stepped) → seen.below.next ≡ None → stands_end new.below.next ≡ true → TakesDown f o m (finds_no_memory found) found seen new book book' ended → MirrorFailed i o new.mirror
  lost_found m looked.Known seen new book book' ended none h x = lost_if m _ seen new book book' x.answer none h x.takes
  lost_found m looked.Failed seen new book book' ended none h x = lost_if m _ seen new book book' x.answer none h x.takes
  lost_found m looked.Memory seen new book book' ended none h x = absurd (stays_none seen new x.member_same none h)

  -- A member that knows its mirror's end after it has taken something from above has lost it.
  pub down_lost : (m : MemberState) (old new : Member I O) (book book' : BookState F) (ended : Stepped) → old.below.next ≡ None → stands_end new.below.next ≡ true → GoesDownBy f i o m old new book book' ended → MirrorFailed i o new.mirror
  down_lost m old new book book' ended none h g = lost_found m g.found g.seen new book book' ended (ap (λ (b : BelowState). b.next) g.looks.below ∙ none) h g.takes

  -- THE LINK FROM ABOVE

  end_inward : (closes : Bool) (old new : Conn I O) → ShutsEnd o closes old new → new.inward ≡ old.inward
  end_inward true old new h = h.inward
  end_inward false old new h = ap (λ (e : Conn I O). e.inward) h

  followed_inward : (t : Turn) (m m' : MemberState) (up up' : Conn I O) (below below' : Option (Conn I O)) (s : Shuts) (b : Option Booked) → FollowsAs o t m m' up up' below below' s b → up'.inward ≡ up.inward
  followed_inward t m m' up up' below below' s None h = ap (λ (e : Conn I O). e.inward) h.1
  followed_inward t m m' up up' below below' s (Some b) h = end_inward _ up up' h.2

  turn_inward : (m : MemberState) (t : Turn) (at : Took) (old new : Member I O) (book book' : BookState F) (ended : Stepped) → Turns f o m t at old new book book' ended → new.upstream.inward ≡ old.upstream.inward
  turn_inward m t at old new book book' ended turns =
      let a = turns.acts in
      end_inward _ turns.upstream new.upstream turns.follows.upper ∙ followed_inward t m turns.settled (with_half old.upstream a.sent) turns.upstream a.passed turns.mirror turns.shuts (booked_of turns.done) a.followed

  if_inward : (m : MemberState) (t : Option Turn) (at : Took) (old new : Member I O) (book book' : BookState F) (ended : Stepped) → TurnsIf f o m t at old new book book' ended → new.upstream.inward ≡ old.upstream.inward
  if_inward m None at old new book book' ended x = ap (λ (y : Member I O). y.upstream.inward) x.member_same
  if_inward m (Some t) at old new book book' ended x = turn_inward m t at old new book book' ended x

  link_if : (m : MemberState) (t : Option Turn) (at : Took) (old new : Member I O) (book book' : BookState F) (receipt : Option Receipt) → TurnsIf f o m t at old new book book' (stepped.LinkFailed receipt) → has_failed i o new.upstream ≡ true
  link_if m None at old new book book' receipt x = absurd (link_ready receipt x.answer)
  link_if m (Some t) at old new book book' receipt x = turn_link f o i m t at old new book book' receipt x

  file_if : (m : MemberState) (t : Option Turn) (at : Took) (old new : Member I O) (book book' : BookState F) (receipt : Receipt) → TurnsIf f o m t at old new book book' (stepped.File receipt) → FaultsIncreased (f.faults book.drawer) (f.faults book'.drawer)
  file_if m None at old new book book' receipt x = absurd (file_ready receipt x.answer)
  file_if m (Some t) at old new book book' receipt x = turn_file f o m t at old new book book' receipt x

  -- a link that failed when the member looked
  failed_above : (a : AboveState) (half half' : I) → ReceivesAbove i nothing_above a half half' looked.Failed → FaultsIncreased (i.faults half) (i.faults half')
  failed_above a half half' rc = found_failed i packets nothing_above.received a.received half half' rc.came (sym rc.is) rc.comes.comes

  file_kept : (s : Stepped) (receipt : Receipt) → as_failure s ≡ stepped.File receipt → s ≡ stepped.File receipt
  file_kept (stepped.File r) receipt h = h
  file_kept (stepped.Moved r) receipt h = cc
  file_kept (stepped.Shut r) receipt h = cc
  file_kept stepped.NotReady receipt h = cc
  file_kept (stepped.LinkFailed r) receipt h = cc
  file_kept stepped.Memory receipt h = cc

  link_found : (m : MemberState) (found : Looked) (half : I) (seen new : Member I O) (book book' : BookState F) (receipt : Option Receipt) → (found ≡ looked.Failed → FaultsIncreased (i.faults half) (i.faults seen.upstream.inward)) → TakesDown f o m (finds_no_memory found) found seen new book book' (stepped.LinkFailed receipt) → has_failed i o new.upstream ≡ true
  link_found m looked.Known half seen new book book' receipt failed x = link_if m _ took.Above seen new book book' receipt (subst (λ (y : Stepped). TurnsIf f o m _ took.Above seen new book book' y) (sym x.is) x.takes)
  link_found m looked.Failed half seen new book book' receipt failed x = in_failed i o (i.faults half) new.upstream (subst (λ (y : I). FaultsIncreased (i.faults half) (i.faults y)) (sym (if_inward m _ took.Above seen new book book' x.answer x.takes)) (failed refl))
  link_found m looked.Memory half seen new book book' receipt failed x = absurd (link_memory receipt x.answer)

  file_found : (m : MemberState) (found : Looked) (seen new : Member I O) (book book' : BookState F) (receipt : Receipt) → TakesDown f o m (finds_no_memory found) found seen new book book' (stepped.File receipt) → FaultsIncreased (f.faults book.drawer) (f.faults book'.drawer)
  file_found m looked.Known seen new book book' receipt x = file_if m _ took.Above seen new book book' receipt (subst (λ (y : Stepped). TurnsIf f o m _ took.Above seen new book book' y) (sym x.is) x.takes)
  file_found m looked.Failed seen new book book' receipt x = file_if m _ took.Above seen new book book' receipt (subst (λ (y : Stepped). TurnsIf f o m _ took.Above seen new book book' y) (file_kept x.answer receipt (sym x.is)) x.takes)
  file_found m looked.Memory seen new book book' receipt x = absurd (file_memory receipt x.answer)

  -- A member that took something from above, and its link from above failed, or a call on files.
  pub down_link : (m : MemberState) (old new : Member I O) (book book' : BookState F) (receipt : Option Receipt) → old.above ≡ nothing_above → GoesDownBy f i o m old new book book' (stepped.LinkFailed receipt) → has_failed i o new.upstream ≡ true
  down_link m old new book book' receipt none g =
      let rc : ReceivesAbove i nothing_above g.seen.above old.upstream.inward g.looks.inward g.found =
      subst (λ (a : AboveState). LooksAbove i a.next a g.seen.above old.upstream.inward g.looks.inward g.found) none g.looks.looks in
      link_found m g.found old.upstream.inward g.seen new book book' receipt
      (λ is. subst (λ (y : I). FaultsIncreased (i.faults old.upstream.inward) (i.faults y)) (sym (end_inward (is_failed g.found) _ g.seen.upstream g.looks.shuts))
      (failed_above g.seen.above old.upstream.inward g.looks.inward (subst (λ (x : Looked). ReceivesAbove i nothing_above g.seen.above old.upstream.inward g.looks.inward x) is rc))) g.takes

  -- Where a call on files failed after its link from above had failed, that counts.
  pub file_lost : (m : MemberState) (old new : Member I O) (book book' : BookState F) (receipt : Receipt) → old.above ≡ nothing_above → (g : GoesDownBy f i o m old new book book' (stepped.File receipt)) → g.found ≡ looked.Failed → has_failed i o new.upstream ≡ true
  file_lost m old new book book' receipt none g failed =
      let rc : ReceivesAbove i nothing_above g.seen.above old.upstream.inward g.looks.inward g.found =
      subst (λ (a : AboveState). LooksAbove i a.next a g.seen.above old.upstream.inward g.looks.inward g.found) none g.looks.looks in
      let rose : FaultsIncreased (i.faults old.upstream.inward) (i.faults g.seen.upstream.inward) =
      subst (λ (y : I). FaultsIncreased (i.faults old.upstream.inward) (i.faults y)) (sym (end_inward (is_failed g.found) _ g.seen.upstream g.looks.shuts))
      (failed_above g.seen.above old.upstream.inward g.looks.inward (subst (λ (x : Looked). ReceivesAbove i nothing_above g.seen.above old.upstream.inward g.looks.inward x) failed rc)) in
      let t = subst (λ (x : Looked). TakesDown f o m (finds_no_memory x) x g.seen new book book' (stepped.File receipt)) failed g.takes in
      in_failed i o (i.faults old.upstream.inward) new.upstream (subst (λ (y : I). FaultsIncreased (i.faults old.upstream.inward) (i.faults y)) (sym (if_inward m _ took.Above g.seen new book book' t.answer t.takes)) rose)

  pub down_file : (m : MemberState) (old new : Member I O) (book book' : BookState F) (receipt : Receipt) → GoesDownBy f i o m old new book book' (stepped.File receipt) → FaultsIncreased (f.faults book.drawer) (f.faults book'.drawer)
  down_file m old new book book' receipt g = file_found m g.found g.seen new book book' receipt g.takes

  -- FROM THE MIRROR

  taken_link : (m : MemberState) (out : Bool) (seen new : Member I O) (book book' : BookState F) (receipt : Option Receipt) → TakesUp f o m out seen new book book' (stepped.LinkFailed receipt) → has_failed i o new.upstream ≡ true
  taken_link m true seen new book book' receipt x = absurd (link_memory receipt x.answer)
  taken_link m false seen new book book' receipt x = link_if m _ took.Below seen new book book' receipt x

  taken_file : (m : MemberState) (out : Bool) (seen new : Member I O) (book book' : BookState F) (receipt : Receipt) → TakesUp f o m out seen new book book' (stepped.File receipt) → FaultsIncreased (f.faults book.drawer) (f.faults book'.drawer)
  taken_file m true seen new book book' receipt x = absurd (file_memory receipt x.answer)
  taken_file m false seen new book book' receipt x = file_if m _ took.Below seen new book book' receipt x

  pub up_link : (m : MemberState) (old new : Member I O) (book book' : BookState F) (receipt : Option Receipt) → GoesUpBy f i o m old new book book' (stepped.LinkFailed receipt) → has_failed i o new.upstream ≡ true
  up_link m old new book book' receipt g = taken_link m (finds_no_memory g.found) g.seen new book book' receipt g.takes

  pub up_file : (m : MemberState) (old new : Member I O) (book book' : BookState F) (receipt : Receipt) → GoesUpBy f i o m old new book book' (stepped.File receipt) → FaultsIncreased (f.faults book.drawer) (f.faults book'.drawer)
  up_file m old new book book' receipt g = taken_file m (finds_no_memory g.found) g.seen new book book' receipt g.takes

gone : looked.Failed ≡ looked.Known → ⊥
gone h = cc

-- a mirror whose link failed when the member looked
module _ {I O : Type 0} (i : link_in.Ghosts I) (o : link_out.Ghosts O) where
  received_failed : (awaits : Bool) (old b : BelowState) (half half' : I) → ReceivesBelow i awaits old b half half' looked.Failed → FaultsIncreased (i.faults half) (i.faults half')
  received_failed true old b half half' rc = found_failed i responses old.received b.received half half' rc.came (sym rc.is) rc.comes.comes
  received_failed false old b half half' rc = found_failed i acks old.received b.received half half' rc.came (sym rc.is) rc.comes.comes

  looks_failed : (awaits : Bool) (old b : BelowState) (mirror middle mirror' : Option (Conn I O)) → LooksAt i awaits old b mirror middle looked.Failed → ShutsMirror o true middle mirror' → MirrorFailed i o mirror'
  looks_failed awaits old b None None None h k = absurd (gone h.is)
  looks_failed awaits old b None None (Some n) h k = absurd k
  looks_failed awaits old b None (Some m) mirror' h k = absurd h
  looks_failed awaits old b (Some e) None mirror' h k = absurd h
  looks_failed awaits old b (Some e) (Some m) None h k = absurd k
  looks_failed awaits old b (Some e) (Some m) (Some n) h k =
      in_failed i o (i.faults e.inward) n (subst (λ (y : I). FaultsIncreased (i.faults e.inward) (i.faults y)) (sym k.inward) (received_failed awaits old b e.inward m.inward h.receives))

  -- A member whose mirror's link failed when it looked.
  pub look_lost : (m : MemberState) (old new : Member I O) → old.below.next ≡ None → LooksDown i o m old new looked.Failed → MirrorFailed i o new.mirror
  look_lost m old new none h = looks_failed (is_asked m.mirror) old.below new.below old.mirror h.mirror new.mirror (subst (λ (n : Option FromBelow). LooksBelow i (is_asked m.mirror) n old.below new.below old.mirror h.mirror looked.Failed) none h.looks) h.shuts
