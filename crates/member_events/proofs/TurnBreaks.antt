-- What a turn that ended by a failed call on files has sent on a member's two ends, which it has shut: nothing.
use Rattle.hd_base.specs.declared.ends.Conn.{Conn}
use Rattle.hd_base.specs.declared.files.Files as files
use Rattle.hd_base.specs.declared.links.LinkOut as link_out
use Rattle.hd_base.specs.declared.numbers.Receipt.{Receipt}
use Rattle.member_events.proofs.CauseLaws.{file_done, alone_file}
use Rattle.member_events.proofs.TurnEnds.{HasSaid, EndSends, MirrorSends, MirrorSays, still_as, mirror_sends}
use Rattle.pipe_member.specs.Below.{BelowState, below_after}
use Rattle.pipe_member.specs.BlockReceiver.Taken.TheVariants as taken
use Rattle.pipe_member.specs.BlockReceiver.Taken.{Taken}
use Rattle.pipe_member.specs.MemberCore.Booked.TheVariants as booked
use Rattle.pipe_member.specs.MemberCore.Members.{MemberState}
use Rattle.pipe_member.specs.MemberCore.Shuts.{Shuts}
use Rattle.pipe_member.specs.MemberCore.Turn.{Turn}
use Rattle.pipe_member.specs.PacketCodec.Packet.{Packet}
use Rattle.replica_core.specs.declared.refusals.Refusal.{Refusal}
use Rattle.pipe_member.specs.PacketResponder.Sending.TheVariants as sending
use Rattle.pipe_member.specs.PacketResponder.Sending.{Sending}
use Rattle.pipe_member.specs.PipeTurns.Acting.{ShutsEnd, ShutsMirror, FollowsAs, booked_of, texts_of, shuts_up, shuts_below, with_half}
use Rattle.pipe_member.specs.PipeTurns.Done.TheVariants as done
use Rattle.pipe_member.specs.PipeTurns.Done.{Done}
use Rattle.pipe_member.specs.PipeTurns.Turning.{Performs, PassesEnd, SendsText, packet_done, sending_done}
use Rattle.pipe_member.specs.ReplicaFiles.BookState.{BookState}
use Rattle.pipe_member.specs.ReplicaModel.ReplicaEvent.TheVariants as replica_event
use Rattle.pipe_member.specs.ReplicaModel.ReplicaEvent.{ReplicaEvent}
use Rattle.pipe_member.specs.Steps.{loses_upstream, loses_mirror}
use Rattle.pipe_member.specs.Turns.{Turns}
use Rattle.pipe_member.specs.declared.member.Member.{Member}
use Rattle.pipe_member.specs.declared.stages.Took.TheVariants as took
use Rattle.pipe_member.specs.declared.stepped.Stepped.TheVariants as stepped
use Rattle.std.proofs.Common.{◌≡◌, inl, inr, ℕ, true, false, List, Option, Some, None, refl, sym, ap, ◌∙◌, subst}

-- What it has said before it shut its ends.
record SaysNothing {I O : Type 0} (o : link_out.Ghosts O) (up sent : O) (below passed : Option (Conn I O)) : Type 0 where
  up_says : HasSaid o None up sent
  passes : MirrorSays o None below passed

-- What it has done to them.
pub record BreakSends {I O : Type 0} (o : link_out.Ghosts O) (old new : Member I O) : Type 0 where
  pub upper : EndSends o None true old.upstream new.upstream
  pub lower : MirrorSends o None true old.mirror new.mirror
  pub below : new.below ≡ old.below

-- a turn that ended otherwise
never_done : (r receipt : Receipt) → done.Taken (Some r) ≡ done.File receipt → ⊥
never_done r receipt h = cc

never_link : (r receipt : Receipt) → done.LinkFailed (Some r) ≡ done.File receipt → ⊥
never_link r receipt h = cc

never_mirror : (r receipt : Receipt) → done.MirrorFailed r ≡ done.File receipt → ⊥
never_mirror r receipt h = cc

never_refused : (why : Refusal) (r receipt : Receipt) → done.Refused why r ≡ done.File receipt → ⊥
never_refused why r receipt h = cc

never_memory : (receipt : Receipt) → done.Memory ≡ done.File receipt → ⊥
never_memory receipt h = cc

module _ {O : Type 0} (o : link_out.Ghosts O) where
  text_none : (text : Option (List ℕ)) (s : Sending) (receipt : Receipt) (up sent : O) → sending_done s ≡ done.File receipt → SendsText o text s up sent → HasSaid o None up sent
  text_none None (sending.File r) receipt up sent is h = inl h.1
  text_none (Some text) (sending.File r) receipt up sent is h = inr h
  text_none text (sending.Done r) receipt up sent is h = absurd (never_done r receipt is)
  text_none text (sending.LinkFailed r) receipt up sent is h = absurd (never_link r receipt is)
  text_none text (sending.Refused why r) receipt up sent is h = absurd (never_refused why r receipt is)
  text_none text sending.Memory receipt up sent is h = absurd (never_memory receipt is)

module _ {I O : Type 0} (o : link_out.Ghosts O) where
  passes_none : (p : Packet) (x : Taken) (receipt : Receipt) (below passed : Option (Conn I O)) → packet_done x ≡ done.File receipt → PassesEnd o p x below passed → MirrorSays o None below passed
  passes_none p (taken.File r) receipt None None is h = tt
  passes_none p (taken.File r) receipt None (Some new) is h = absurd h
  passes_none p (taken.File r) receipt (Some old) None is h = absurd h
  passes_none p (taken.File r) receipt (Some old) (Some new) is h = (record { id = h.0; lower = h.1; inward = h.2 }, inr h.3)
  passes_none p (taken.Booked r) receipt below passed is h = absurd (never_done r receipt is)
  passes_none p (taken.MirrorFailed r) receipt below passed is h = absurd (never_mirror r receipt is)
  passes_none p (taken.Refused why r) receipt below passed is h = absurd (never_refused why r receipt is)
  passes_none p taken.Memory receipt below passed is h = absurd (never_memory receipt is)

module _ {F I O : Type 0} (f : files.Ghosts F) (o : link_out.Ghosts O) where
  says_nothing : (call : Option ReplicaEvent) (text : Option (List ℕ)) (book book' : BookState F) (up sent : O) (below passed : Option (Conn I O)) (d : Done) (receipt : Receipt) → d ≡ done.File receipt
      → Performs f o call text book book' up sent below passed d → SaysNothing o up sent below passed
  says_nothing None text book book' up sent below passed d receipt is p = absurd (alone_file o text d receipt up sent is p.sends)
  says_nothing (Some (replica_event.Packet conn x)) text book book' up sent below passed d receipt is p = record {
    up_says = inl p.up_same;
    passes = passes_none o x p.taken receipt below passed (sym p.is ∙ is) p.passes;
  }
  says_nothing (Some (replica_event.Other x)) text book book' up sent below passed d receipt is p = record {
    up_says = text_none o text p.sending receipt up sent (sym p.is ∙ is) p.sends;
    passes = still_as o below passed p.below_same;
  }

  -- A turn that ended so has sent nothing, and shut both ends.
  pub turn_breaks : (m : MemberState) (t : Turn) (old new : Member I O) (book book' : BookState F) (receipt : Receipt) → Turns f o m t took.Above old new book book' (stepped.File receipt) → BreakSends o old new
  turn_breaks m t old new book book' receipt turns =
      let a = turns.acts in
      let up = old.upstream in
      let is : turns.done ≡ done.File receipt = file_done turns.done turns.shuts receipt (sym turns.follows.answer) in
      let says = says_nothing t.call (texts_of old.op t.effect.sends) book book' up.outward a.sent old.mirror a.passed turns.done receipt is a.performed in
      let k : FollowsAs o t m turns.settled (with_half up a.sent) turns.upstream a.passed turns.mirror turns.shuts (Some booked.Failed) =
      subst (λ (d : Done). FollowsAs o t m turns.settled (with_half up a.sent) turns.upstream a.passed turns.mirror turns.shuts (booked_of d)) is a.followed in
      let kept_up : new.upstream ≡ turns.upstream = subst (λ (d : Done). ShutsEnd o (loses_upstream d) turns.upstream new.upstream) is turns.follows.upper in
      let kept_down : ShutsMirror o false turns.mirror new.mirror = subst (λ (d : Done). ShutsMirror o (loses_mirror d) turns.mirror new.mirror) is turns.follows.lower in
      record {
        upper = record {
          middle = with_half up a.sent;
          keeps = record { id = refl; lower = refl; inward = refl };
          says = says.up_says;
          shuts = subst (λ (e : Conn I O). ShutsEnd o true (with_half up a.sent) e) (sym kept_up)
              (subst (λ (s : Shuts). ShutsEnd o (shuts_up s) (with_half up a.sent) turns.upstream) k.1 k.2);
        };
        lower = mirror_sends o None true old.mirror a.passed turns.mirror new.mirror says.passes
            (subst (λ (s : Shuts). ShutsMirror o (shuts_below s) a.passed turns.mirror) k.1 k.3) kept_down;
        below = turns.follows.below ∙ below_file turns.done old.below is;
      }
    where
      below_file : (d : Done) (b : BelowState) → d ≡ done.File receipt → below_after took.Above d b ≡ b
      below_file d b is = ap (λ (y : Done). below_after took.Above y b) is
