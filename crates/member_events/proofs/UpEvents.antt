-- A member that takes what stands next from its mirror.
use Rattle.std.proofs.Common.{◌≡◌, ◌<◌, ℕ, Bool, true, false, [], map, slice_get, Option, Some, None, IfSome, Result, Ok, Err, option_map, refl, sym, ap, ◌∙◌, subst}
use Rattle.std.specs.Prelude.{◌==◌}
use Rattle.hd_base.specs.Links.{Inbox}
use Rattle.hd_base.specs.declared.ends.Conn.{Conn}
use Rattle.hd_base.specs.declared.files.Files as files
use Rattle.hd_base.specs.declared.links.LinkIn as link_in
use Rattle.hd_base.specs.declared.links.LinkOut as link_out
use Rattle.hd_base.specs.declared.numbers.ConnId.{ConnId}
use Rattle.hd_base.specs.declared.numbers.NodeId.{NodeId}
use Rattle.hd_base.specs.declared.roads.Roads as roads
use Rattle.pipe_member.specs.AckCodec.ResponseTexts.{response_text}
use Rattle.pipe_member.specs.AckCodec.AckTexts.{ack_text}
use Rattle.pipe_member.specs.FrameFeed.Kinds.{acks, responses}
use Rattle.pipe_member.specs.FrameFeed.KindLaws.{acks_sound, responses_sound}
use Rattle.pipe_member.specs.LinkMessages.Incomings.{IncomingState, nothing_received, NextEnds}
use Rattle.link_pieces.specs.Roads.{names}
use Rattle.replica_core.specs.declared.ack_queue.PendingPacket.{PendingPacket}
use Rattle.replica_core.specs.declared.records.ReplicaRecord.{ReplicaRecord}
use Rattle.pipe_member.specs.ReplicaModel.Rows.{FullReplica}
use Rattle.pipe_member.specs.ReplicaFiles.BookState.{BookState}
use Rattle.pipe_member.specs.ReplicaFiles.Books.{replica_of}
use Rattle.pipe_member.specs.MemberCore.FromBelow.{FromBelow}
use Rattle.pipe_member.specs.MemberCore.Turn.{Turn}
use Rattle.pipe_member.specs.MemberCore.Members.{MemberState, up_turn}
use Rattle.pipe_member.specs.MemberCore.Steps.{Step, step, oldest_at}
use Rattle.pipe_member.specs.PipeTurns.Acting.{texts_of, ShutsMirror}
use Rattle.pipe_member.specs.declared.member.Member.{Member}
use Rattle.pipe_member.specs.declared.stages.Looked.{Looked}
use Rattle.pipe_member.specs.declared.stages.Looked.TheVariants as looked
use Rattle.pipe_member.specs.declared.stages.Stage.{Stage}
use Rattle.pipe_member.specs.declared.stages.Stage.TheVariants as stage
use Rattle.pipe_member.specs.declared.stages.Took.TheVariants as took
use Rattle.pipe_member.specs.declared.stepped.Stepped.{Stepped}
use Rattle.pipe_member.specs.Below.{BelowState, LooksBelow, LooksAt, ReceivesBelow, answer_of, ack_of}
use Rattle.pipe_member.specs.EventSteps.{HoldsMirror, IsOfHistory}
use Rattle.pipe_member.specs.Events.{TurnsIf, TakesBelow, TakesUp, LooksDown, LooksDownAt, GoesUp, GoesUpIf, GoesUpBy}
use Rattle.pipe_member.specs.Exchanges.{KeepsRest, ExchangesBoth}
use Rattle.pipe_member.specs.Stepping.{IsStep}
use Rattle.pipe_member.specs.Steps.{is_asked, is_failed, finds_no_memory}
use Rattle.pipe_member.specs.Turns.{IsSameMember, Turns}
use Rattle.pipe_member.proofs.EventStepLemmas.{ups_step}
use Rattle.pipe_member.proofs.RuledTurns.{IsQuiet, ups, up_ruled}
use Rattle.pipe_member.proofs.SteppingLemmas.{turns_step}
use Rattle.road_traffic.specs.Showing.{Net, exchanged_net}
use Rattle.road_traffic.specs.Laws.{Took}
use Rattle.road_traffic.proofs.TrafficLemmas.{same-itself}
use Rattle.world_texts.specs.World.Event.TheVariants as event
use Rattle.world_texts.specs.World.Parts.{ack, response, FullMember, Break}
use Rattle.world_texts.specs.World.Worlds.{World, apply, listed}
use Rattle.world_texts.specs.World.Connections.{Next, message, the_end, up_taken}
use Rattle.world_texts.specs.World.Nodes.{below_of, block_of, replica_at, member_change}
use Rattle.world_texts.specs.World.Events.{outcome, happens}
use Rattle.world_texts.specs.WorldNets.Rows.{text_of}
use Rattle.world_texts.specs.WorldNets.Nets.{IsEndOf, held_by, inbox_for, is_over}
use Rattle.world_texts.specs.WorldNets.Drawn.{break_at}
use Rattle.world_texts.specs.WorldNets.Steps.{taken_net, is_end}
use Rattle.world_texts.proofs.WorldNets.DrawnLemmas.{up-makes}
use Rattle.world_texts.proofs.WorldNets.EndLemmas.{exchanged-over}
use Rattle.world_texts.proofs.WorldNets.FlushingLemmas.{other-number}
use Rattle.world_texts.proofs.WorldNets.StepLemmas.{taken-net, taken-over, idle-net}
use Rattle.member_events.specs.declared.faults.MemberFault.{MemberFault}
use Rattle.member_events.specs.declared.faults.MemberFault.TheVariants as fault
use Rattle.member_events.specs.Events.{CanUp, IsMirrorNext, UpShows}
use Rattle.member_events.specs.Faults.{IsRoadFault}
use Rattle.member_events.specs.Showing.{IsNoneOf, OthersStay, NoneReceived, MemberStands, MemberLeft}
use Rattle.member_events.specs.Steps.{IsLost, IsPlaced}
use Rattle.member_events.proofs.FaultEvents.{lost_caused, exchange_caused, placed_caused, exchange_never, risen_below}
use Rattle.member_events.proofs.KnownLaws.{SameMirror, same_on, exchanged_same, look_same, up_same}
use Rattle.member_events.proofs.LostLaws.{look_lost, up_link, up_file}
use Rattle.member_events.proofs.TurnEnds.{IsDone, fine, turn_sends}
use Rattle.member_events.proofs.EndLaws.{HeldAt, MirrorAt, RoadsAt, mirror_net, both_pass, end_held}
use Rattle.member_events.proofs.NetLaws.{other_passed}
use Rattle.member_events.proofs.MemberLaws.{holds_like, never}
use Rattle.member_events.proofs.EventEndLemmas.{placed_good, good_done, done_memory, done_step_by, above_below, below_below, quiet_lost}
use Rattle.member_events.proofs.StepLaws.{sent_texts, passed_none, quiet_text, step_still}
use Rattle.member_events.proofs.TakeLaws.{message_came, end_came}
use Rattle.member_events.proofs.WorldLaws.{member_after, taken_same}
use Rattle.member_events.proofs.ReadyLaws.{IsReadyFor, HasTurned, AreTexts, HasTaken, placed_left}
use Rattle.member_events.proofs.ReadyEvents.{mirror_over, mirror_held, none_of, apart_of}
use Rattle.member_events.proofs.DownEvents.{held_took}

-- WHAT CAME

-- What was found from the mirror, and what is left there.
record CameUp {I : Type 0} (i : link_in.Ghosts I) (x : Next) (b : BelowState) (half' : I) : Type 0 where
  next : b.next ≡ Some (below_of x)
  holds : i.held half' ≡ Some (held_by (is_end x))
  received : is_end x ≡ false → b.received ≡ nothing_received

came_up : {I : Type 0} (i : link_in.Ghosts I) (awaits : Bool) (x : Next) (old b : BelowState) (half half' : I) → IsMirrorNext awaits x → i.held half ≡ Some (inbox_for x) → old.received ≡ nothing_received → ReceivesBelow i awaits old b half half' looked.Known → CameUp i x b half'
came_up i true (message (response m)) old b half half' spelled held none rc =
    let k = message_came responses i responses_sound m (response_text m) b.received half half' rc.came spelled held (subst (λ (s : IncomingState). NextEnds responses i s b.received half half' rc.came) none rc.comes) (sym rc.is) in
    record { next = rc.stands ∙ ap answer_of k.is; holds = k.holds; received = λ z. k.received }
came_up i true (message other) old b half half' spelled held none rc = absurd spelled
came_up i true the_end old b half half' spelled held none rc =
    let k = end_came responses i b.received half half' rc.came held (subst (λ (s : IncomingState). NextEnds responses i s b.received half half' rc.came) none rc.comes) (sym rc.is) in
    record { next = rc.stands ∙ ap answer_of k.is; holds = k.holds; received = λ z. cc }
came_up i false (message (ack m)) old b half half' spelled held none rc =
    let k = message_came acks i acks_sound m (ack_text m) b.received half half' rc.came spelled held (subst (λ (s : IncomingState). NextEnds acks i s b.received half half' rc.came) none rc.comes) (sym rc.is) in
    record { next = rc.stands ∙ ap ack_of k.is; holds = k.holds; received = λ z. k.received }
came_up i false (message other) old b half half' spelled held none rc = absurd spelled
came_up i false the_end old b half half' spelled held none rc =
    let k = end_came acks i b.received half half' rc.came held (subst (λ (s : IncomingState). NextEnds acks i s b.received half half' rc.came) none rc.comes) (sym rc.is) in
    record { next = rc.stands ∙ ap ack_of k.is; holds = k.holds; received = λ z. cc }

shut_kept : {I : Type 0} (i : link_in.Ghosts I) (awaits : Bool) (old b : BelowState) (half half' : I) → ReceivesBelow i awaits old b half half' looked.Known → i.shut half' ≡ i.shut half
shut_kept i true old b half half' rc = rc.comes.shut
shut_kept i false old b half half' rc = rc.comes.shut

-- What a member that has looked at its mirror has found, and what is left there.
record FoundUp {I O : Type 0} (i : link_in.Ghosts I) (o : link_out.Ghosts O) (net : Net) (d : ℕ) (x : Next) (b : BelowState) (mirror : Option (Conn I O)) : Type 0 where
  next : b.next ≡ Some (below_of x)
  received : is_end x ≡ false → b.received ≡ nothing_received
  holds : MirrorAt i o net false [] (held_by (is_end x)) (Some d) mirror

found_up : {I O : Type 0} (i : link_in.Ghosts I) (o : link_out.Ghosts O) (net : Net) (d : ℕ) (awaits : Bool) (x : Next) (old b : BelowState) (mirror middle mirror' : Option (Conn I O)) → IsMirrorNext awaits x → MirrorAt i o net false [] (inbox_for x) (Some d) mirror → old.received ≡ nothing_received
    → LooksAt i awaits old b mirror middle looked.Known → ShutsMirror o false middle mirror' → FoundUp i o net d x b mirror'
found_up i o net d awaits x old b None middle mirror' spelled at none looks same = absurd at
found_up i o net d awaits x old b (Some e) None mirror' spelled at none looks same = absurd looks
found_up i o net d awaits x old b (Some e) (Some m) None spelled at none looks same = absurd same
found_up {I = I} {O = O} i o net d awaits x old b (Some e) (Some m) (Some n) spelled at none looks same =
    let c = came_up i awaits x old b e.inward m.inward spelled at.is.held none looks.receives in
    let t : Took i (held_by (is_end x)) e m = record { id = looks.id; lower = looks.lower; outward = looks.outward; shut = shut_kept i awaits old b e.inward m.inward looks.receives; holds = c.holds } in
    record {
      next = c.next;
      received = c.received;
      holds = subst (λ (z : Conn I O). HeldAt i o net false [] (held_by (is_end x)) d false z) (sym same) (held_took i o net false [] (inbox_for x) (held_by (is_end x)) d false e m t at);
    }

-- THE NAMED END

all_named : {I O : Type 0} (i : link_in.Ghosts I) (o : link_out.Ghosts O) (net : Net) (inbox : Inbox) (id : ConnId) (e : Option (Conn I O)) → MirrorAt i o net false [] inbox (Some id.0) e → IfSome e (λ x. names (Some id) x.id ≡ true)
all_named i o net inbox id None k = tt
all_named i o net inbox id (Some e) k = ap (λ (n : ℕ). id.0 == n) k.id ∙ same-itself id.0

mirror_within : {I O : Type 0} (i : link_in.Ghosts I) (o : link_out.Ghosts O) (net : Net) (inbox : Inbox) (d : ℕ) (e : Option (Conn I O)) → MirrorAt i o net false [] inbox (Some d) e → (d < net.conns) × ((net.traffic d false).over ≡ false)
mirror_within i o net inbox d None k = absurd k
mirror_within i o net inbox d (Some e) k = (k.within, k.taking)

taken_turn : (m : MemberState) (oldest : Option PendingPacket) (next : Option FromBelow) (y : FromBelow) → next ≡ Some y → option_map (up_turn m oldest) next ≡ Some (up_turn m oldest y)
taken_turn m oldest next y is = ap (option_map (up_turn m oldest)) is

-- THE EVENT

-- A member that looks again finds what it found, and takes it.
record FoundAgain {F I O : Type 0} (f : files.Ghosts F) (o : link_out.Ghosts O) (m : MemberState) (was seen new : Member I O) (book book' : BookState F) (ended : Stepped) : Type 0 where
  same : IsSameMember was seen
  upstream : seen.upstream ≡ was.upstream
  mirror : seen.mirror ≡ was.mirror
  above : seen.above ≡ was.above
  below : seen.below ≡ was.below
  takes : TakesBelow f o m seen new book book' ended

stays_open : {I O : Type 0} (o : link_out.Ghosts O) (old new : Option (Conn I O)) → ShutsMirror o false old new → new ≡ old
stays_open o None None k = refl
stays_open o None (Some b) k = absurd k
stays_open o (Some a) None k = absurd k
stays_open o (Some a) (Some b) k = ap Some k

same_mirror : {I O : Type 0} (o : link_out.Ghosts O) (found : Looked) (old new : Option (Conn I O)) → found ≡ looked.Known → ShutsMirror o (is_failed found) old new → new ≡ old
same_mirror o found old new known h = stays_open o old new (subst (λ (x : Looked). ShutsMirror o (is_failed x) old new) known h)

again : {F I O : Type 0} (f : files.Ghosts F) (i : link_in.Ghosts I) (o : link_out.Ghosts O) (m : MemberState) (y : FromBelow) (was new : Member I O) (book book' : BookState F) (ended : Stepped) (g : GoesUpBy f i o m was new book book' ended) → was.below.next ≡ Some y → FoundAgain f o m was g.seen new book book' ended
again f i o m y was new book book' ended g is =
    let k = subst (λ (n : Option FromBelow). LooksBelow i (is_asked m.mirror) n was.below g.seen.below was.mirror g.looks.mirror g.found) is g.looks.looks in
    record {
      same = g.looks.same;
      upstream = g.looks.upstream;
      mirror = same_mirror o g.found g.looks.mirror g.seen.mirror k.2 g.looks.shuts ∙ k.1;
      above = g.looks.above;
      below = k.0;
      takes = subst (λ (x : Looked). TakesUp f o m (finds_no_memory x) g.seen new book book' ended) k.2 g.takes;
    }

module _ {F R I O : Type 0} (f : files.Ghosts F) (r : roads.Ghosts R I O) (i : link_in.Ghosts I) (o : link_out.Ghosts O) where
  up_out : (w : World) (c : ℕ) (mirror : ConnId) (full : FullMember) (x : Next) (was : FullReplica) → CanUp w c mirror full x → was ≡ replica_at (up_taken w mirror.0 x) c (block_of full.fields)
      → outcome w (event.Up mirror) ≡ Some (apply (up_taken w mirror.0 x) (member_change (up_taken w mirror.0 x) c full x (step full.state was (up_turn full.state (oldest_at was) (below_of x))) (break_at (up_taken w mirror.0 x) c full.fields)))
  up_out w c mirror full x was can same =
      let w1 = up_taken w mirror.0 x in
      subst (λ (y : FullReplica). outcome w (event.Up mirror) ≡ Some (apply w1 (member_change w1 c full x (step full.state y (up_turn full.state (oldest_at y) (below_of x))) (break_at w1 c full.fields)))) (sym same)
      ((up-makes w mirror x can.comes).member c full can.heard)

  other_taken : (w : World) (net : Net) (c : ℕ) (mirror : Option ℕ) (d : ℕ) (x : Next) (made : Net) → mirror ≡ Some d → made ≡ mirror_net (exchanged_net net c true false false []) true false [] (Some d) → OthersStay i o w net (up_taken w d x) made c mirror
  other_taken w net c mirror d x made is same a b z none k =
      let there : IsNoneOf c (Some d) a b = subst (λ (n : Option ℕ). IsNoneOf c n a b) is none in
      subst (λ (n : Net). IsEndOf i o (up_taken w d x) n a b z) (sym same)
      (other_passed r i o w (up_taken w d x) net c (Some d) false true false false [] [] a b z there (taken-over w a b d false x there.1) k)

  pub up_left : (mirror : ConnId) (old held look new : Member I O) (book book' : BookState F) (ended : Stepped) (left : Option (Member I O)) (road middle road' : R) → ExchangesBoth r i o (Some mirror) old held road middle (Ok tt) → LooksDownAt i o held.stage held look looked.Known → GoesUp f i o look.stage look new book book' ended → IsOfHistory book
      → IsPlaced r i o ended new middle road' (Ok left) → (w : World) (net : Net) (c : ℕ) (full : FullMember) (x : Next) → MemberStands r i o w net c full book old road → CanUp w c mirror full x → MemberLeft r i o w net (happens w (event.Up mirror)) c full book' road' left
  up_left mirror old held look new book book' ended left road middle road' ex looks goes history placed w net c full x stands can =
      let d = mirror.0 in
      let m : MemberState = full.state in
      let was : FullReplica = replica_of book in
      let w1 : World = up_taken w d x in
      let v : World = happens w (event.Up mirror) in
      let y : FromBelow = below_of x in
      let oldest : Option PendingPacket = oldest_at was in
      let t : Turn = up_turn m oldest y in
      let s : Step = step m was t in
      let at : RoadsAt r net road = record { sane = stands.roads_are.sane; shows = stands.roads_are.shows } in
      let up0 = end_held i o w net c true old.upstream stands.shows.upstream in
      let low0 : MirrorAt i o net false [] (held_by (is_over w d false)) (Some d) old.mirror = subst (λ (n : Option ℕ). MirrorAt i o net false [] (held_by (mirror_over w n)) n old.mirror) can.of_mirror (mirror_held i o w net full.mirror old.mirror stands.shows.mirror) in
      let n1 : Net = exchanged_net net c true false false [] in
      let in_net = mirror_within i o net (held_by (is_over w d false)) d old.mirror low0 in
      let takes = taken-net w n1 d false x (idle-net w net c true stands.roads_are.is_net) in_net.0 (exchanged-over net c true false false [] d false ∙ in_net.1) can.comes.next in
      let apart = apart_of c full.mirror stands.later in
      let named : names (Some mirror) old.upstream.id ≡ false = other-number d old.upstream.id.0 (λ z. apart (can.of_mirror ∙ ap Some (z ∙ stands.shows.upstream.id))) in
      let p = both_pass r i o (Some mirror) false true false false [] [] (held_by (is_over w c true)) (held_by (is_over w d false)) net c (Some d) road middle old held at up0 low0
      named (all_named i o net (held_by (is_over w d false)) mirror old.mirror low0) (λ z. never z) (λ z. ap held_by takes.before) ex in
      let n2 : Net = taken_net n1 d false in
      let up1 : HeldAt i o n2 false [] (held_by (is_over w c true)) c true held.upstream = p.upper in
      let low1 : MirrorAt i o n2 false [] (inbox_for x) (Some d) held.mirror = subst (λ (b : Inbox). MirrorAt i o n2 false [] b (Some d) held.mirror) takes.holds p.lower in
      let here : held.stage ≡ stage.Open m = ex.rest.stage ∙ stands.shows.stage_is in
      let lk : LooksDown i o m held look looked.Known = subst (λ (st : Stage). LooksDownAt i o st held look looked.Known) here looks in
      let none0 : held.below.received ≡ nothing_received = ap (λ (b : BelowState). b.received) ex.rest.below ∙ none_of w (Some d) old.below.received (subst (λ (n : Option ℕ). NoneReceived w n old.below.received) can.of_mirror stands.shows.below) takes.before in
      let at_look = subst (λ (n : Option FromBelow). LooksBelow i (is_asked m.mirror) n held.below look.below held.mirror lk.mirror looked.Known) (ap (λ (b : BelowState). b.next) ex.rest.below ∙ stands.shows.below_next) lk.looks in
      let fu = found_up i o n2 d (is_asked m.mirror) x held.below look.below held.mirror lk.mirror look.mirror can.answers low1 none0 at_look lk.shuts in
      let open_now : look.stage ≡ stage.Open m = lk.stage ∙ here in
      let g : GoesUpBy f i o m look new book book' ended = subst (λ (b : Bool). GoesUpIf f i o m b look new book book' ended) can.heard.hears (subst (λ (st : Stage). GoesUp f i o st look new book book' ended) open_now goes) in
      let fa = again f i o m y look new book book' ended g fu.next in
      let known : slice_get book.replica.pending 0 ≡ oldest = ap (λ (z : ReplicaRecord). slice_get z.pending 0) history in
      let turns : Turns f o m t took.Below g.seen new book book' ended =
      subst (λ (z : Option Turn). TurnsIf f o m z took.Below g.seen new book book' ended) (ap (λ (q : Option PendingPacket). option_map (up_turn m q) g.seen.below.next) known ∙ taken_turn m oldest g.seen.below.next y (ap (λ (b : BelowState). b.next) fa.below ∙ fu.next)) fa.takes in
      let good = placed_good r i o ended new middle road' left placed in
      let well = good_done turns.done turns.shuts ended turns.follows.answer good in
      let quiet : IsQuiet m t = ups m.mirror m oldest y in
      let ok = fine turns.done turns.shuts (subst IsDone turns.follows.answer well) (quiet_lost f o t.call (texts_of g.seen.op t.effect.sends) book book' g.seen.upstream.outward turns.acts.sent g.seen.mirror turns.acts.passed turns.done quiet.can turns.acts.performed) in
      let holds0 : HoldsMirror look.stage look.mirror = subst (λ (st : Stage). HoldsMirror st look.mirror) (sym (lk.stage ∙ ex.rest.stage)) (holds_like i o old.stage net n2 false [] (held_by (is_over w d false)) (held_by (is_end x)) (Some d) old.mirror look.mirror low0 fu.holds stands.shows.holds) in
      let law = ups_step f i o m look new book book' ended (record { open_by = open_now; holds = holds0; of_history = history; found_memory = done_memory ended well }) goes in
      let rules = (up_ruled m g.seen.mirror oldest y).rules in
      let turned : HasTurned f o full t took.Below g.seen new book book' ended = record {
        turns = turns;
        fine = ok;
        is_step = subst (λ (z : Step). IsStep o t z g.seen new book book') (done_step_by ended m was t well) (turns_step f o m t took.Below g.seen new book book' ended rules (done_memory ended well) turns);
        sends = turn_sends f o m t took.Below g.seen new book book' ended turns rules ok;
        holds = law.1;
      } in
      let same = taken_same w d false x c (block_of full.fields) in
      let broke : Option Break = break_at w1 c full.fields in
      let out = up_out w c mirror full x was can (stands.replica ∙ sym same.replica) in
      let after = member_after w w1 c full x s broke (event.Up mirror) out in
      let texts : AreTexts full x t s = record {
        up = sent_texts v c (w1.ups c) full.fields s.effect.sends can.spelled after.ups;
        down = ap (map text_of) (passed_none x s.effect.forwards (step_still m was t quiet.still)) ∙ sym (ap listed (quiet_text t.call s.effect.forwards quiet.can));
      } in
      let below = turns.follows.below ∙ below_below turns.done g.seen.below ok in
      let taken : HasTaken s (is_end x) new = record {
        above = λ z. turns.follows.above ∙ (above_below turns.done g.seen.above ok ∙ (fa.above ∙ (lk.above ∙ (ex.rest.above ∙ stands.shows.above))));
        below_next = ap (λ (b : BelowState). b.next) below;
        below = λ z. ap (λ (b : BelowState). b.received) below ∙ (ap (λ (b : BelowState). b.received) fa.below ∙ fu.received z);
      } in
      let ready : IsReadyFor i o w1 n2 c full (is_over w c true) (is_end x) g.seen book = record {
        node = ap (λ (z : NodeId). z.0) (fa.same.node ∙ (lk.same.node ∙ ex.rest.node)) ∙ (stands.shows.node ∙ sym same.node);
        op = fa.same.op ∙ (lk.same.op ∙ (ex.rest.op ∙ stands.shows.op));
        replica = stands.replica ∙ sym same.replica;
        upper = subst (λ (e : Conn I O). HeldAt i o n2 false [] (held_by (is_over w c true)) c true e) (sym (fa.upstream ∙ lk.upstream)) up1;
        lower = subst (λ (n : Option ℕ). MirrorAt i o n2 false [] (held_by (is_end x)) n g.seen.mirror) (sym can.of_mirror) (subst (λ (e : Option (Conn I O)). MirrorAt i o n2 false [] (held_by (is_end x)) (Some d) e) (sym fa.mirror) fu.holds);
        over_up = taken-over w c true d false x (λ z. refl);
        over_down = subst (λ (n : Option ℕ). IfSome n (λ k. is_over w1 k false ≡ is_end x)) (sym can.of_mirror) takes.after;
      } in
      placed_left r i o f w w1 net n2 (event.Up mirror) c full x t took.Below broke (is_over w c true) (is_end x) g.seen new book book' ended left middle road'
      out apart (other_taken w net c full.mirror d x n2 can.of_mirror refl) takes.is_net p.roads_at
      ready turned texts taken placed

  -- WHAT IT LEAVES, OR WHY IT FAILED

  -- the exchange failed
  up_unmade : (mirror : ConnId) (old : Member I O) (book : BookState F) (why : MemberFault) (road road' : R) → IsRoadFault (r.faults road) (r.faults road') why → UpShows f r i o mirror old book book road road' (Err why)
  up_unmade mirror old book why road road' fault = λ w net c full x stands can. exchange_caused f r i o c full.mirror book book road road' why fault

  pub up_failed : (mirror : ConnId) (old : Member I O) (book : BookState F) (result : Result (Option (Member I O)) MemberFault) (why : MemberFault) (road road' : R) → result ≡ Err why → IsRoadFault (r.faults road) (r.faults road') why → UpShows f r i o mirror old book book road road' result
  up_failed mirror old book result why road road' is fault = subst (λ (x : Result (Option (Member I O)) MemberFault). UpShows f r i o mirror old book book road road' x) (sym is) (up_unmade mirror old book why road road' fault)

  -- memory ran out
  pub up_memory : (mirror : ConnId) (old : Member I O) (book : BookState F) (road road' : R) → UpShows f r i o mirror old book book road road' (Err fault.Memory)
  up_memory mirror old book road road' = λ w net c full x stands can. tt

  looks_by : (old held look : Member I O) (book : BookState F) (found : Looked) (road : R) → KeepsRest old held → LooksDownAt i o held.stage held look found → (w : World) (net : Net) (c : ℕ) (full : FullMember) → MemberStands r i o w net c full book old road → LooksDown i o full.state held look found
  looks_by old held look book found road rest looks w net c full stands = subst (λ (st : Stage). LooksDownAt i o st held look found) (rest.stage ∙ stands.shows.stage_is) looks

  -- the mirror's link failed
  pub up_lost_shows : (mirror : ConnId) (old held look : Member I O) (book : BookState F) (why : MemberFault) (road middle road' : R) → ExchangesBoth r i o (Some mirror) old held road middle (Ok tt) → LooksDownAt i o held.stage held look looked.Failed → IsLost r i o look middle road' why
      → UpShows f r i o mirror old book book road road' (Err why)
  up_lost_shows mirror old held look book why road middle road' ex looks h = λ w net c full x stands can.
      let lk = looks_by old held look book looked.Failed road ex.rest looks w net c full stands in
      let failed = look_lost i o full.state held look (ap (λ (b : BelowState). b.next) ex.rest.below ∙ stands.shows.below_next) lk in
      let low0 = mirror_held i o w net full.mirror old.mirror stands.shows.mirror in
      let same : SameMirror old.mirror look.mirror = (same_on old held look (exchanged_same r i o (Some mirror) old held road middle ex) (look_same f i o held.stage held look looked.Failed looks)).lower in
      lost_caused f r i o c full.mirror book book road middle road' look why
      (λ b. risen_below r i o c full.mirror net false [] (held_by (mirror_over w full.mirror)) look old.mirror look.mirror middle road' low0 same refl failed b) h

  pub up_shows : (mirror : ConnId) (old held look new : Member I O) (book book' : BookState F) (ended : Stepped) (result : Result (Option (Member I O)) MemberFault) (road middle road' : R) → ExchangesBoth r i o (Some mirror) old held road middle (Ok tt) → LooksDownAt i o held.stage held look looked.Known → GoesUp f i o look.stage look new book book' ended → IsOfHistory book
      → IsPlaced r i o ended new middle road' result → UpShows f r i o mirror old book book' road road' result
  up_shows mirror old held look new book book' ended (Ok left) road middle road' ex looks goes history placed = up_left mirror old held look new book book' ended left road middle road' ex looks goes history placed
  up_shows mirror old held look new book book' ended (Err why) road middle road' ex looks goes history placed = λ w net c full x stands can.
      let lk = looks_by old held look book looked.Known road ex.rest looks w net c full stands in
      let g : GoesUpBy f i o full.state look new book book' ended = subst (λ (b : Bool). GoesUpIf f i o full.state b look new book book' ended) can.heard.hears
      (subst (λ (st : Stage). GoesUp f i o st look new book book' ended) (lk.stage ∙ (ex.rest.stage ∙ stands.shows.stage_is)) goes) in
      let same = same_on old look new (same_on old held look (exchanged_same r i o (Some mirror) old held road middle ex) (look_same f i o held.stage held look looked.Known looks)) (up_same f i o look.stage look new book book' ended goes) in
      placed_caused f r i o c full.mirror book book' road middle road' new ended why (exchange_never r i o (Some mirror) old held road middle ex) (ap (λ (y : ConnId). y.0) same.upper ∙ stands.shows.upstream.id)
      (λ receipt is. up_link f i o full.state look new book book' receipt (subst (λ (y : Stepped). GoesUpBy f i o full.state look new book book' y) is g))
      (λ receipt is. up_file f i o full.state look new book book' receipt (subst (λ (y : Stepped). GoesUpBy f i o full.state look new book book' y) is g))
      placed
