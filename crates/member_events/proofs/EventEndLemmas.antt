-- What a step of a member that was done has been, and that one without a packet has lost no mirror.
use Rattle.std.proofs.Common.{◌≡◌, ◌≢◌, ◌<◌, ℕ, false, List, Option, Some, None, Ok, refl, sym, ap, ◌∙◌, subst, arith}
use Rattle.hd_base.specs.declared.ends.Conn.{Conn}
use Rattle.hd_base.specs.declared.files.Files as files
use Rattle.hd_base.specs.declared.links.LinkIn as link_in
use Rattle.hd_base.specs.declared.links.LinkOut as link_out
use Rattle.hd_base.specs.declared.roads.Roads as roads
use Rattle.replica_core.specs.declared.ack_queue.TheConstants.{MAX_PENDING}
use Rattle.pipe_member.specs.ReplicaModel.ReplicaEvent.{ReplicaEvent}
use Rattle.pipe_member.specs.ReplicaModel.ReplicaEvent.TheVariants as replica_event
use Rattle.pipe_member.specs.ReplicaModel.Rows.{FullReplica}
use Rattle.pipe_member.specs.ReplicaFiles.BookState.{BookState}
use Rattle.pipe_member.specs.PacketResponder.Sending.{Sending}
use Rattle.pipe_member.specs.PacketResponder.Sending.TheVariants as sending
use Rattle.pipe_member.specs.MemberCore.Shuts.{Shuts}
use Rattle.pipe_member.specs.MemberCore.Shuts.TheVariants as shuts
use Rattle.pipe_member.specs.MemberCore.Turn.{Turn}
use Rattle.pipe_member.specs.MemberCore.Members.{MemberState}
use Rattle.pipe_member.specs.MemberCore.Steps.{step}
use Rattle.pipe_member.specs.PipeTurns.Turning.{CanBook, Performs, SendsAlone, sending_done}
use Rattle.pipe_member.specs.PipeTurns.Done.{Done}
use Rattle.pipe_member.specs.PipeTurns.Done.TheVariants as done
use Rattle.pipe_member.specs.declared.member.Member.{Member}
use Rattle.pipe_member.specs.declared.stages.Looked.{Looked}
use Rattle.pipe_member.specs.declared.stages.Looked.TheVariants as looked
use Rattle.pipe_member.specs.declared.stages.Took.TheVariants as took
use Rattle.pipe_member.specs.declared.stepped.Stepped.{Stepped}
use Rattle.pipe_member.specs.declared.stepped.Stepped.TheVariants as stepped
use Rattle.pipe_member.specs.Above.{AboveState, above_after}
use Rattle.pipe_member.specs.Below.{BelowState, below_after}
use Rattle.pipe_member.specs.Steps.{stepped_of, loses_mirror, as_failure, after_failure}
use Rattle.pipe_member.specs.Stepping.{step_by}
use Rattle.member_events.specs.Steps.{IsPlaced}
use Rattle.member_events.proofs.TurnEnds.{IsDone, IsFine}

-- a step after which a member may be handed back
abbrev pub IsGood : Stepped → Type 0
IsGood (stepped.Moved receipt) = Unit {0}
IsGood (stepped.Shut receipt) = Unit {0}
IsGood stepped.NotReady = Unit {0}
IsGood other = ⊥

pub placed_good : {R I O : Type 0} (r : roads.Ghosts R I O) (i : link_in.Ghosts I) (o : link_out.Ghosts O) (ended : Stepped) (m : Member I O) (road road' : R) (left : Option (Member I O)) → IsPlaced r i o ended m road road' (Ok left) → IsGood ended
placed_good r i o (stepped.Moved receipt) m road road' left p = tt
placed_good r i o (stepped.Shut receipt) m road road' left p = tt
placed_good r i o stepped.NotReady m road road' left p = tt
placed_good r i o (stepped.LinkFailed receipt) m road road' left p = p
placed_good r i o (stepped.File receipt) m road road' left p = p
placed_good r i o stepped.Memory m road road' left p = p

good_of : (d : Done) (s : Shuts) → IsGood (stepped_of d s) → IsDone (stepped_of d s)
good_of (done.LinkFailed r) s h = h
good_of (done.File r) s h = h
good_of done.Memory s h = h
good_of (done.Taken r) shuts.Nothing h = tt
good_of (done.Taken r) shuts.Mirror h = tt
good_of (done.Taken r) shuts.Both h = tt
good_of (done.Refused why r) shuts.Nothing h = tt
good_of (done.Refused why r) shuts.Mirror h = tt
good_of (done.Refused why r) shuts.Both h = tt
good_of (done.MirrorFailed r) shuts.Nothing h = tt
good_of (done.MirrorFailed r) shuts.Mirror h = tt
good_of (done.MirrorFailed r) shuts.Both h = tt

-- a turn that ended well was done
pub good_done : (d : Done) (s : Shuts) (ended : Stepped) → ended ≡ stepped_of d s → IsGood ended → IsDone ended
good_done d s ended is h = subst IsDone (sym is) (good_of d s (subst IsGood is h))

pub done_memory : (ended : Stepped) → IsDone ended → ended ≢ stepped.Memory
done_memory ended h is = subst IsDone is h

pub done_step_by : (ended : Stepped) (m : MemberState) (r : FullReplica) (t : Turn) → IsDone ended → step_by ended m r t ≡ step m r t
done_step_by (stepped.Moved receipt) m r t h = refl
done_step_by (stepped.Shut receipt) m r t h = refl
done_step_by stepped.NotReady m r t h = refl
done_step_by (stepped.LinkFailed receipt) m r t h = refl
done_step_by (stepped.File receipt) m r t h = absurd h
done_step_by stepped.Memory m r t h = refl

pub failed_bad : (s : Stepped) → IsGood (as_failure s) → ⊥
failed_bad (stepped.Moved receipt) h = h
failed_bad (stepped.Shut receipt) h = h
failed_bad stepped.NotReady h = h
failed_bad (stepped.LinkFailed receipt) h = h
failed_bad (stepped.File receipt) h = h
failed_bad stepped.Memory h = h

-- what is handed back after an event found no failed link
pub good_known : (found : Looked) (s : Stepped) → IsGood (after_failure found s) → found ≢ looked.Failed
good_known looked.Known s h is = cc
good_known looked.Failed s h is = failed_bad s h
good_known looked.Memory s h is = cc

-- WHAT STANDS NEXT

pub above_nothing : (d : Done) (a : AboveState) → IsFine d → above_after took.Nothing d a ≡ a
above_nothing (done.Taken r) a ok = refl
above_nothing (done.Refused why r) a ok = refl
above_nothing (done.LinkFailed r) a ok = absurd ok
above_nothing (done.File r) a ok = refl
above_nothing (done.MirrorFailed r) a ok = refl
above_nothing done.Memory a ok = refl

pub above_below : (d : Done) (a : AboveState) → IsFine d → above_after took.Below d a ≡ a
above_below (done.Taken r) a ok = refl
above_below (done.Refused why r) a ok = refl
above_below (done.LinkFailed r) a ok = absurd ok
above_below (done.File r) a ok = refl
above_below (done.MirrorFailed r) a ok = refl
above_below done.Memory a ok = refl

pub above_above : (d : Done) (a : AboveState) → IsFine d → above_after took.Above d a ≡ record a { next = None }
above_above (done.Taken r) a ok = refl
above_above (done.Refused why r) a ok = refl
above_above (done.LinkFailed r) a ok = absurd ok
above_above (done.File r) a ok = absurd ok
above_above (done.MirrorFailed r) a ok = absurd ok
above_above done.Memory a ok = absurd ok

pub below_nothing : (d : Done) (b : BelowState) → IsFine d → below_after took.Nothing d b ≡ b
below_nothing (done.Taken r) b ok = refl
below_nothing (done.Refused why r) b ok = refl
below_nothing (done.LinkFailed r) b ok = refl
below_nothing (done.File r) b ok = refl
below_nothing (done.MirrorFailed r) b ok = absurd ok
below_nothing done.Memory b ok = refl

pub below_above : (d : Done) (b : BelowState) → IsFine d → below_after took.Above d b ≡ b
below_above (done.Taken r) b ok = refl
below_above (done.Refused why r) b ok = refl
below_above (done.LinkFailed r) b ok = refl
below_above (done.File r) b ok = refl
below_above (done.MirrorFailed r) b ok = absurd ok
below_above done.Memory b ok = refl

pub below_below : (d : Done) (b : BelowState) → IsFine d → below_after took.Below d b ≡ record b { next = None }
below_below (done.Taken r) b ok = refl
below_below (done.Refused why r) b ok = refl
below_below (done.LinkFailed r) b ok = absurd ok
below_below (done.File r) b ok = absurd ok
below_below (done.MirrorFailed r) b ok = absurd ok
below_below done.Memory b ok = absurd ok

-- NO PACKET

none_lost : (s : Sending) → loses_mirror (sending_done s) ≡ false
none_lost (sending.Done r) = refl
none_lost (sending.LinkFailed r) = refl
none_lost (sending.Refused why r) = refl
none_lost (sending.File r) = refl
none_lost sending.Memory = refl

alone_lost : {O : Type 0} (o : link_out.Ghosts O) (text : Option (List ℕ)) (d : Done) (up sent : O) → SendsAlone o text d up sent → loses_mirror d ≡ false
alone_lost o text (done.Taken r) up sent h = refl
alone_lost o text (done.LinkFailed r) up sent h = refl
alone_lost o text (done.Refused why r) up sent h = refl
alone_lost o text (done.File r) up sent h = refl
alone_lost o text done.Memory up sent h = refl
alone_lost o None (done.MirrorFailed r) up sent h = absurd h
alone_lost o (Some text) (done.MirrorFailed r) up sent h = absurd h

none_less : (n : ℕ) → n < n → ⊥
none_less n h = omega arith

-- A turn that books no packet loses no mirror.
pub quiet_lost : {F I O : Type 0} (f : files.Ghosts F) (o : link_out.Ghosts O) (call : Option ReplicaEvent) (text : Option (List ℕ)) (book book' : BookState F) (up sent : O) (below passed : Option (Conn I O)) (d : Done)
    → ((n : ℕ) → CanBook n call) → Performs f o call text book book' up sent below passed d → loses_mirror d ≡ false
quiet_lost f o None text book book' up sent below passed d can p = alone_lost o text d up sent p.sends
quiet_lost f o (Some (replica_event.Packet conn x)) text book book' up sent below passed d can p = absurd (none_less MAX_PENDING (can MAX_PENDING).0)
quiet_lost f o (Some (replica_event.Other x)) text book book' up sent below passed d can p = ap loses_mirror p.is ∙ none_lost p.sending
