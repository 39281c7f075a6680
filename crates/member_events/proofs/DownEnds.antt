-- A member takes what stands next from above: what shows the world after the event, or after that in which a call on files
-- fails, or why neither is.
use Rattle.hd_base.specs.Ends.{has_failed}
use Rattle.hd_base.specs.declared.files.Files as files
use Rattle.hd_base.specs.declared.links.LinkIn as link_in
use Rattle.hd_base.specs.declared.links.LinkOut as link_out
use Rattle.hd_base.specs.declared.numbers.ConnId.{ConnId}
use Rattle.hd_base.specs.declared.numbers.NodeId.{NodeId}
use Rattle.hd_base.specs.declared.numbers.Receipt.{Receipt}
use Rattle.hd_base.specs.declared.roads.Roads as roads
use Rattle.member_events.proofs.BookCalls.{CallsDone, CallsBroken, performs_done, performs_broken}
use Rattle.member_events.proofs.CauseLaws.{file_done, upper_risen}
use Rattle.member_events.proofs.DownEvents.{FoundDown, down_turned, above_left, end_shuts}
use Rattle.member_events.proofs.EndLaws.{MirrorAt, end_sends, mirror_sends}
use Rattle.member_events.proofs.EventEndLemmas.{IsGood, placed_good, good_done, done_memory, done_step_by, above_above, below_above, failed_bad}
use Rattle.member_events.proofs.FaultEvents.{lost_caused, exchange_caused, placed_caused, exchange_never, risen_below, risen_above}
use Rattle.member_events.proofs.Growth.{ToldOf, packets_tell, ends_tell}
use Rattle.member_events.proofs.KnownLaws.{SameMirror, same_on, exchanged_same, down_same}
use Rattle.member_events.proofs.LostLaws.{down_lost, down_link, down_file, file_lost}
use Rattle.member_events.proofs.MemberLaws.{HasStepped, shut}
use Rattle.member_events.proofs.ReadyEvents.{mirror_over, mirror_held, none_of, apart_of}
use Rattle.member_events.proofs.ReadyLaws.{HasTurned, AreTexts, HasTaken, placed_left}
use Rattle.member_events.proofs.StepLaws.{sent_texts, down_texts, passed_none, settled_over}
use Rattle.member_events.proofs.TurnBreaks.{BreakSends, turn_breaks}
use Rattle.member_events.proofs.TurnEnds.{turn_fine, turn_sends}
use Rattle.member_events.proofs.WorldLaws.{member_after, taken_same}
use Rattle.member_events.specs.Events.{CanDown, DownShows, DownBroke, DownDone}
use Rattle.member_events.specs.Faults.{IsRoadFault, IsCaused, IsLinkCaused}
use Rattle.member_events.specs.Showing.{MemberStands}
use Rattle.member_events.specs.Steps.{IsLost, IsPlaced, BringsBroken, IsDowned, IsDownFault, IsLinkFault, EndsBroken}
use Rattle.member_events.specs.Texts.{IsPacketNext}
use Rattle.member_events.specs.declared.faults.MemberFault.TheVariants as fault
use Rattle.member_events.specs.declared.faults.MemberFault.{MemberFault}
use Rattle.member_events.specs.declared.steps.Downed.TheVariants as downed
use Rattle.member_events.specs.declared.steps.Downed.{Downed}
use Rattle.pipe_member.proofs.SteppingLemmas.{turns_step}
use Rattle.pipe_member.specs.Above.{nothing_above}
use Rattle.pipe_member.specs.Below.{BelowState, stands_end}
use Rattle.pipe_member.specs.Events.{TakesAbove, TakesDown, GoesDown, GoesDownBy}
use Rattle.pipe_member.specs.Exchanges.{KeepsRest, ExchangesBoth}
use Rattle.pipe_member.specs.MemberCore.Booked.TheVariants as booked
use Rattle.pipe_member.specs.MemberCore.Members.{MemberState, down_turn}
use Rattle.pipe_member.specs.MemberCore.Steps.{Step, step, replica_after, faulted_step}
use Rattle.pipe_member.specs.MemberCore.Turn.{Turn}
use Rattle.pipe_member.specs.PipeTurns.Acting.{texts_of}
use Rattle.pipe_member.specs.PipeTurns.Turning.{Performs}
use Rattle.pipe_member.specs.ReplicaFiles.BookState.{BookState}
use Rattle.pipe_member.specs.ReplicaFiles.Books.{replica_of, IsBookOf}
use Rattle.pipe_member.specs.ReplicaModel.ReplicaEvent.TheVariants as replica_event
use Rattle.pipe_member.specs.ReplicaModel.ReplicaEvent.{ReplicaEvent}
use Rattle.pipe_member.specs.ReplicaModel.Rows.{FullReplica}
use Rattle.pipe_member.specs.Stepping.{IsStep}
use Rattle.pipe_member.specs.Steps.{finds_no_memory}
use Rattle.pipe_member.specs.declared.member.Member.{Member}
use Rattle.pipe_member.specs.declared.stages.Looked.TheVariants as looked
use Rattle.pipe_member.specs.declared.stages.Looked.{Looked}
use Rattle.pipe_member.specs.declared.stages.Stage.{Stage}
use Rattle.pipe_member.specs.declared.stages.Took.TheVariants as took
use Rattle.pipe_member.specs.declared.stepped.Stepped.TheVariants as stepped
use Rattle.pipe_member.specs.declared.stepped.Stepped.{Stepped}
use Rattle.replica_core.specs.declared.events.Event.TheVariants as core_event
use Rattle.replica_model.specs.Rows.{IsFull}
use Rattle.road_traffic.specs.Showing.{Net}
use Rattle.std.proofs.Common.{◌≡◌, map, ℕ, Bool, true, false, List, [], length, Option, Some, None, Result, Ok, Err, refl, sym, ap, ◌∙◌, subst}
use Rattle.std.specs.Prelude.{nat_lt, if◌then◌else◌}
use Rattle.world_texts.proofs.WorldNets.DrawnLemmas.{down-makes}
use Rattle.world_texts.specs.World.Connections.{Next, message, the_end, down_taken}
use Rattle.world_texts.specs.World.Delivery.TheVariants as delivery
use Rattle.world_texts.specs.World.Event.TheVariants as event
use Rattle.world_texts.specs.World.Events.{outcome, happens, changed, down_as}
use Rattle.world_texts.specs.World.Nodes.{above_of, block_of, replica_at, member_change, pending_at, takes_next, passed, lower_down, failing_turn, broke_at}
use Rattle.world_texts.specs.World.Parts.{Message, packet, FullMember, writes, Break}
use Rattle.world_texts.specs.World.Worlds.{World, apply}
use Rattle.world_texts.specs.WorldNets.Drawn.{break_at, ComesDown}
use Rattle.world_texts.specs.WorldNets.Nets.{held_by}
use Rattle.world_texts.specs.WorldNets.Rows.{text_of}
use Rattle.world_texts.specs.WorldNets.Steps.{is_end}
use Rattle.world_writes.specs.Writes.{grows, has_grown, written_at}

-- WHAT IT FOUND

found_down : {F I O : Type 0} (f : files.Ghosts F) (o : link_out.Ghosts O) (m : MemberState) (found : Looked) (seen new : Member I O) (book book' : BookState F) (ended : Stepped) → TakesDown f o m (finds_no_memory found) found seen new book book' ended → IsGood ended → FoundDown f o m found seen new book book' ended
found_down f o m looked.Known seen new book book' ended t good = record { known = refl; takes = subst (λ (y : Stepped). TakesAbove f o m seen new book book' y) (sym t.is) t.takes }
found_down f o m looked.Failed seen new book book' ended t good = absurd (failed_bad t.answer (subst IsGood t.is good))
found_down f o m looked.Memory seen new book book' ended t good = absurd (subst IsGood t.answer good)

-- THE WORLD AFTER

down_out : (w : World) (conn : ConnId) (answered : Bool) (full : FullMember) (x : Next) (was : FullReplica) → ComesDown w conn.0 x → takes_next full.state (pending_at w conn.0 full) x ≡ true → w.lowers conn.0 ≡ writes full → was ≡ replica_at (down_taken w conn.0 x) conn.0 (block_of full.fields)
    → outcome w (event.Down conn answered) ≡ Some (apply (down_taken w conn.0 x) (member_change (down_taken w conn.0 x) conn.0 full x (step full.state was (down_turn full.state (above_of x))) (break_at (down_taken w conn.0 x) conn.0 full.fields)))
down_out w conn answered full x was comes takes lower same =
    let w1 = down_taken w conn.0 x in
    subst (λ (y : FullReplica). outcome w (event.Down conn answered) ≡ Some (apply w1 (member_change w1 conn.0 full x (step full.state y (down_turn full.state (above_of x))) (break_at w1 conn.0 full.fields)))) (sym same)
    ((down-makes w conn answered x comes).member full lower takes)

-- A call on files fails in it.
pub fault_made : (w : World) (conn : ConnId) (full : FullMember) (x : Next) (e : ReplicaEvent) → ComesDown w conn.0 x → takes_next full.state (pending_at w conn.0 full) x ≡ true → w.lowers conn.0 ≡ writes full → (down_turn full.state (above_of x)).call ≡ Some e
    → outcome w (event.Fault (delivery.Down conn)) ≡ Some (apply (down_taken w conn.0 x) (member_change (down_taken w conn.0 x) conn.0 full x
    (faulted_step full.state (replica_at (down_taken w conn.0 x) conn.0 (block_of full.fields)) (down_turn full.state (above_of x))) (broke_at (down_taken w conn.0 x) conn.0 (block_of full.fields) e)))
unfolding outcome down_taken
fault_made w conn full x e comes takes lower call =
    (λ j. if comes.served j then down_as w conn.0 false true (comes.next j) else None)
    ∙ ((λ j. changed (down_taken w conn.0 x) (lower_down (lower j) (down_taken w conn.0 x) conn.0 x false true))
    ∙ ((λ j. changed (down_taken w conn.0 x) (if takes j then failing_turn (down_taken w conn.0 x) conn.0 full x (down_turn full.state (above_of x)) (down_turn full.state (above_of x)).call else None))
    ∙ (λ j. changed (down_taken w conn.0 x) (failing_turn (down_taken w conn.0 x) conn.0 full x (down_turn full.state (above_of x)) (call j)))))

fault_out : (w : World) (conn : ConnId) (full : FullMember) (x : Next) (was : FullReplica) (e : ReplicaEvent) → ComesDown w conn.0 x → takes_next full.state (pending_at w conn.0 full) x ≡ true → w.lowers conn.0 ≡ writes full → (down_turn full.state (above_of x)).call ≡ Some e
    → was ≡ replica_at (down_taken w conn.0 x) conn.0 (block_of full.fields)
    → outcome w (event.Fault (delivery.Down conn)) ≡ Some (apply (down_taken w conn.0 x) (member_change (down_taken w conn.0 x) conn.0 full x (faulted_step full.state was (down_turn full.state (above_of x))) (broke_at (down_taken w conn.0 x) conn.0 (block_of full.fields) e)))
fault_out w conn full x was e comes takes lower call same =
    let w1 = down_taken w conn.0 x in
    subst (λ (y : FullReplica). outcome w (event.Fault (delivery.Down conn)) ≡ Some (apply w1 (member_change w1 conn.0 full x (faulted_step full.state y (down_turn full.state (above_of x))) (broke_at w1 conn.0 (block_of full.fields) e)))) (sym same)
    (fault_made w conn full x e comes takes lower call)

-- WHETHER THE REPLICA GROWS

-- the call on the book of what is taken
pub record CallOf (m : MemberState) (x : Next) : Type 0 where
  pub booked : ReplicaEvent
  pub is : (down_turn m (above_of x)).call ≡ Some booked
  pub tells : (r : FullReplica) → IsFull r → ToldOf r booked

pub call_of : (m : MemberState) (x : Next) → IsPacketNext x → CallOf m x
call_of m (message (packet p)) h = record { booked = replica_event.Packet m.conn p; is = refl; tells = λ r full. packets_tell r m.conn p full }
call_of m (message other) h = absurd h
call_of m the_end h = record { booked = replica_event.Other (core_event.Ended m.conn); is = refl; tells = λ r full. ends_tell r m.conn full }

grows_is : (w : World) (conn : ConnId) (full : FullMember) (x : Next) (was : FullReplica) → ComesDown w conn.0 x → takes_next full.state (pending_at w conn.0 full) x ≡ true → w.lowers conn.0 ≡ writes full → was ≡ replica_at w conn.0 (block_of full.fields)
    → grows w conn.0 ≡ nat_lt (length was.bytes) (length (step full.state was (down_turn full.state (above_of x))).replica.bytes)
unfolding grows
grows_is w conn full x was comes takes lower here =
    let c = conn.0 in
    let w1 : World = down_taken w c x in
    let v : World = happens w (event.Down conn true) in
    let b : ℕ = block_of full.fields in
    let s : Step = step full.state was (down_turn full.state (above_of x)) in
    let same = taken_same w c true x c b in
    let after = member_after w w1 c full x s (break_at w1 c full.fields) (event.Down conn true) (down_out w conn true full x was comes takes lower (here ∙ sym same.replica)) in
    ap (has_grown w v c) lower
    ∙ (ap (λ (r : FullReplica). nat_lt (length r.bytes) (written_at v c b)) (sym here)
    ∙ ap (λ (r : FullReplica). nat_lt (length was.bytes) (length r.bytes)) after.replica)

module _ {F R I O : Type 0} (f : files.Ghosts F) (r : roads.Ghosts R I O) (i : link_in.Ghosts I) (o : link_out.Ghosts O) where
  -- THE EVENT WAS DONE

  down_left : (old held new : Member I O) (book book' : BookState F) (ended : Stepped) (left : Option (Member I O)) (road middle road' : R) → ExchangesBoth r i o (Some old.upstream.id) old held road middle (Ok tt) → GoesDown f i o held.stage held new book book' ended → stands_end new.below.next ≡ false → IsBookOf f book
      → IsPlaced r i o ended new middle road' (Ok left) → (w : World) (net : Net) (conn : ConnId) (answered : Bool) (full : FullMember) (x : Next) → MemberStands r i o w net conn.0 full book old road → CanDown w conn answered full x → DownDone f r i o w net (happens w (event.Down conn answered)) conn.0 full book book' road' left
  down_left old held new book book' ended left road middle road' ex goes lost kept placed w net conn answered full x stands can =
      let c = conn.0 in
      let m : MemberState = full.state in
      let was : FullReplica = replica_of book in
      let w1 : World = down_taken w c x in
      let v : World = happens w (event.Down conn answered) in
      let t : Turn = down_turn m (above_of x) in
      let s : Step = step m was t in
      let over : Bool = mirror_over w full.mirror in
      let good = placed_good r i o ended new middle road' left placed in
      let d = down_turned f r i o old held new book book' ended road middle ex goes kept.known w net conn answered full x stands can (λ g. found_down f o m g.found g.seen new book book' ended g.takes good) in
      let well = good_done d.turns.done d.turns.shuts ended d.turns.follows.answer good in
      let ok = turn_fine f o m t took.Above d.seen new book book' ended d.turns well lost in
      let turned : HasTurned f o full t took.Above d.seen new book book' ended = record {
        turns = d.turns;
        fine = ok;
        is_step = subst (λ (z : Step). IsStep o t z d.seen new book book') (done_step_by ended m was t well) (turns_step f o m t took.Above d.seen new book book' ended d.rules (done_memory ended well) d.turns);
        sends = turn_sends f o m t took.Above d.seen new book book' ended d.turns d.rules ok;
        holds = d.holds (done_memory ended well);
      } in
      let broke : Option Break = break_at w1 c full.fields in
      let out = down_out w conn answered full x was can.comes can.takes stands.lower d.ready.replica in
      let after = member_after w w1 c full x s broke (event.Down conn answered) out in
      let texts : AreTexts full x t s = record {
        up = sent_texts v c (w1.ups c) full.fields s.effect.sends can.spelled after.ups;
        down = down_texts m x s.effect.forwards can.packets;
      } in
      let below : new.below ≡ old.below = d.turns.follows.below ∙ (below_above d.turns.done d.seen.below ok ∙ d.below) in
      let taken : HasTaken s over new = record {
        above = λ z. d.turns.follows.above ∙ (above_above d.turns.done d.seen.above ok ∙ above_left d.seen.above (is_end x) d.received (λ e. end_shuts m was x e z));
        below_next = ap (λ (b : BelowState). b.next) below ∙ stands.shows.below_next;
        below = λ z. ap (λ (b : BelowState). b.received) below ∙ none_of w full.mirror old.below.received stands.shows.below z;
      } in
      let call = call_of m x can.packets in
      let a = d.turns.acts in
      let k : CallsDone f call.booked book book' = performs_done f o (texts_of d.seen.op t.effect.sends) book book' d.seen.upstream.outward a.sent d.seen.mirror a.passed d.turns.done call.booked
      (subst (λ (e : Option ReplicaEvent). Performs f o e (texts_of d.seen.op t.effect.sends) book book' d.seen.upstream.outward a.sent d.seen.mirror a.passed d.turns.done) call.is a.performed) ok (call.tells was kept.held.full) in
      let grown = grows_is w conn full x was can.comes can.takes stands.lower stands.replica in
      record {
        is_left = placed_left r i o f w w1 net d.made (event.Down conn answered) c full x t took.Above broke (is_end x) over d.seen new book book' ended left middle road'
            out (apart_of c full.mirror stands.later) d.others d.is_net d.roads_at d.ready turned texts taken placed;
        told = record {
          calls = k.calls;
          log = k.log;
          writes = λ g. k.writes (sym (grown ∙ ap (λ (e : Option ReplicaEvent). nat_lt (length was.bytes) (length (replica_after was e).bytes)) call.is) ∙ g);
          is_grown = grown ∙ ap (λ (z : FullReplica). nat_lt (length was.bytes) (length z.bytes)) (sym turned.is_step.replica);
        };
      }

  -- A CALL ON FILES FAILED

  goes_by : (old held new : Member I O) (book book' : BookState F) (ended : Stepped) (road : R) → KeepsRest old held → GoesDown f i o held.stage held new book book' ended → (w : World) (net : Net) (c : ℕ) (full : FullMember) → MemberStands r i o w net c full book old road → GoesDownBy f i o full.state held new book book' ended
  goes_by old held new book book' ended road rest goes w net c full stands = subst (λ (st : Stage). GoesDown f i o st held new book book' ended) (rest.stage ∙ stands.shows.stage_is) goes

  -- the link from above hadn't failed when the member looked
  found_broken : (m : MemberState) (held new : Member I O) (book book' : BookState F) (receipt : Receipt) (middle road' : R) → held.above ≡ nothing_above → BringsBroken r i o new middle road' → (g : GoesDownBy f i o m held new book book' (stepped.File receipt))
      → FoundDown f o m g.found g.seen new book book' (stepped.File receipt)
  found_broken m held new book book' receipt middle road' none b g = by_found g.found g.takes (λ failed. file_lost f i o m held new book book' receipt none g failed)
    where
      risen_not : r.risen road' new.upstream.id.0 ≡ true → ⊥
      risen_not h = cc (h, b.unfailed)

      no_memory : stepped.File receipt ≡ stepped.Memory → ⊥
      no_memory h = cc

      by_found : (found : Looked) → TakesDown f o m (finds_no_memory found) found g.seen new book book' (stepped.File receipt) → (found ≡ looked.Failed → has_failed i o new.upstream ≡ true)
          → FoundDown f o m found g.seen new book book' (stepped.File receipt)
      by_found looked.Known t rose = record { known = refl; takes = subst (λ (y : Stepped). TakesAbove f o m g.seen new book book' y) (sym t.is) t.takes }
      by_found looked.Failed t rose = absurd (risen_not (upper_risen r i o new middle road' b.brought (rose refl)))
      by_found looked.Memory t rose = absurd (no_memory t.answer)

  down_broke : (old held new : Member I O) (book book' : BookState F) (receipt : Receipt) (road middle road' : R) → ExchangesBoth r i o (Some old.upstream.id) old held road middle (Ok tt) → GoesDown f i o held.stage held new book book' (stepped.File receipt) → IsBookOf f book → BringsBroken r i o new middle road'
      → (w : World) (net : Net) (conn : ConnId) (answered : Bool) (full : FullMember) (x : Next) → MemberStands r i o w net conn.0 full book old road → CanDown w conn answered full x → DownBroke f r i o w net (happens w (event.Fault (delivery.Down conn))) conn.0 full book book' road'
  down_broke old held new book book' receipt road middle road' ex goes kept b w net conn answered full x stands can =
      let c = conn.0 in
      let m : MemberState = full.state in
      let was : FullReplica = replica_of book in
      let w1 : World = down_taken w c x in
      let t : Turn = down_turn m (above_of x) in
      let s : Step = faulted_step m was t in
      let over : Bool = mirror_over w full.mirror in
      let d = down_turned f r i o old held new book book' (stepped.File receipt) road middle ex goes kept.known w net conn answered full x stands can
      (λ g. found_broken m held new book book' receipt middle road' (ex.rest.above ∙ stands.shows.above) b g) in
      let sends : BreakSends o d.seen new = turn_breaks f o m t d.seen new book book' receipt d.turns in
      let is_step : IsStep o t s d.seen new book book' = turns_step f o m t took.Above d.seen new book book' (stepped.File receipt) d.rules (λ e. cc) d.turns in
      let is = file_done d.turns.done d.turns.shuts receipt (sym d.turns.follows.answer) in
      let below : new.below ≡ old.below = sends.below ∙ d.below in
      let stepped_so : HasStepped i o w1 d.made c full x s (is_end x) over new book' = record {
        node = ap (λ (z : NodeId). z.0) d.turns.follows.same.node ∙ d.ready.node;
        op = d.turns.follows.same.op ∙ d.ready.op;
        stage_is = is_step.member;
        holds = d.holds (λ e. cc);
        replica = is_step.replica;
        upper = end_sends i o d.made (held_by (is_end x)) c true None true d.seen.upstream new.upstream sends.upper d.ready.upper;
        lower = subst (λ (ms : List (List ℕ)). MirrorAt i o d.made true ms (held_by over) full.mirror new.mirror) (sym (none_passed x))
            (mirror_sends i o d.made (held_by over) full.mirror None true d.seen.mirror new.mirror sends.lower d.ready.lower);
        over_up = d.ready.over_up;
        over_down = d.ready.over_down;
        above = λ e. cc;
        below_next = ap (λ (z : BelowState). z.next) below ∙ stands.shows.below_next;
        below = λ z. ap (λ (y : BelowState). y.received) below ∙ none_of w full.mirror old.below.received stands.shows.below z;
      } in
      let call = call_of m x can.packets in
      let a = d.turns.acts in
      let k : CallsBroken f call.booked book book' = performs_broken f o (texts_of d.seen.op t.effect.sends) book book' d.seen.upstream.outward a.sent d.seen.mirror a.passed d.turns.done call.booked receipt is
      (subst (λ (e : Option ReplicaEvent). Performs f o e (texts_of d.seen.op t.effect.sends) book book' d.seen.upstream.outward a.sent d.seen.mirror a.passed d.turns.done) call.is a.performed) (call.tells was kept.held.full) in
      let grown = grows_is w conn full x was can.comes can.takes stands.lower stands.replica in
      record {
        is_left = shut r i o w w1 net d.made (event.Fault (delivery.Down conn)) c full x s (broke_at w1 c (block_of full.fields) call.booked) (is_end x) over book' new middle road'
            (fault_out w conn full x was call.booked can.comes can.takes stands.lower call.is d.ready.replica) (apart_of c full.mirror stands.later) d.others d.is_net d.roads_at
            stepped_so (settled_over m t booked.Failed (λ e. cc)) b.brought;
        rose = down_file f i o full.state held new book book' receipt (goes_by old held new book book' (stepped.File receipt) road ex.rest goes w net c full stands);
        told = record {
          calls = k.calls;
          log = k.log;
          grown = λ h. grown ∙ (ap (λ (e : Option ReplicaEvent). nat_lt (length was.bytes) (length (replica_after was e).bytes)) call.is ∙ k.grown h);
        };
      }
    where
      none_passed : (x : Next) → map text_of (passed false x) ≡ []
      none_passed x = ap (λ (ms : List Message). map text_of ms) (passed_none x false refl)

  -- WHY IT FAILED

  -- no call on files is the cause
  as_links : (book book' : BookState F) (c : ℕ) (mirror : Option ℕ) (road road' : R) (why : MemberFault) → (why ≡ fault.FilesFailed → ⊥) → IsCaused f r c mirror book book' road road' why → IsLinkCaused r c mirror road road' why
  as_links book book' c mirror road road' fault.LinkFailed none h = h
  as_links book book' c mirror road road' fault.RoadsFailed none h = h
  as_links book book' c mirror road road' fault.FilesFailed none h = absurd (none refl)
  as_links book book' c mirror road road' fault.Memory none h = h

  no_road : (before now : ℕ) (why : MemberFault) → IsRoadFault before now why → why ≡ fault.FilesFailed → ⊥
  no_road before now why h is = subst (λ (y : MemberFault). IsRoadFault before now y) is h

  no_lost : (m : Member I O) (road road' : R) (why : MemberFault) → IsLost r i o m road road' why → why ≡ fault.FilesFailed → ⊥
  no_lost m road road' why h is = subst (λ (y : MemberFault). IsLost r i o m road road' y) is h

  no_memory_files : (why : MemberFault) → why ≡ fault.Memory → why ≡ fault.FilesFailed → ⊥
  no_memory_files why memory is = cc

  -- the exchange failed
  down_unmade : (old : Member I O) (book : BookState F) (why : MemberFault) (road road' : R) → IsRoadFault (r.faults road) (r.faults road') why → DownShows f r i o old book book road road' (Err why)
  down_unmade old book why road road' h = λ w net conn answered full x stands can.
      as_links book book conn.0 full.mirror road road' why (no_road (r.faults road) (r.faults road') why h) (exchange_caused f r i o conn.0 full.mirror book book road road' why h)

  pub down_failed : (old : Member I O) (book : BookState F) (result : Result (Downed I O) MemberFault) (why : MemberFault) (road road' : R) → result ≡ Err why → IsRoadFault (r.faults road) (r.faults road') why → DownShows f r i o old book book road road' result
  down_failed old book result why road road' is h = subst (λ (x : Result (Downed I O) MemberFault). DownShows f r i o old book book road road' x) (sym is) (down_unmade old book why road road' h)

  broken_fault : (new : Member I O) (c : ℕ) (mirror : Option ℕ) (road road' : R) (why : MemberFault) → new.upstream.id.0 ≡ c → IsLinkFault (r.risen road' new.upstream.id.0) why → IsLinkCaused r c mirror road road' why
  broken_fault new c mirror road road' fault.LinkFailed id h = risen_above (r.risen road') c mirror (subst (λ (n : ℕ). r.risen road' n ≡ true) id h)
  broken_fault new c mirror road road' fault.Memory id h = tt
  broken_fault new c mirror road road' fault.RoadsFailed id h = absurd h
  broken_fault new c mirror road road' fault.FilesFailed id h = absurd h

  -- why a step down failed
  fault_caused : (old held new : Member I O) (book book' : BookState F) (ended : Stepped) (why : MemberFault) (road middle road' : R) → ExchangesBoth r i o (Some old.upstream.id) old held road middle (Ok tt) → GoesDown f i o held.stage held new book book' ended
      → (w : World) (net : Net) (c : ℕ) (full : FullMember) → MemberStands r i o w net c full book old road → IsDownFault r i o ended new middle road' why → IsLinkCaused r c full.mirror road road' why
  fault_caused old held new book book' ended why road middle road' ex goes w net c full stands down = by_end ended g down
    where
      g : GoesDownBy f i o full.state held new book book' ended
      g = goes_by old held new book book' ended road ex.rest goes w net c full stands

      id : new.upstream.id.0 ≡ c
      id = ap (λ (y : ConnId). y.0) (same_on old held new (exchanged_same r i o (Some old.upstream.id) old held road middle ex) (down_same f i o held.stage held new book book' ended goes)).upper ∙ stands.shows.upstream.id

      placed : (ends : Stepped) → GoesDownBy f i o full.state held new book book' ends → IsPlaced r i o ends new middle road' (Err why) → (why ≡ fault.FilesFailed → ⊥) → IsLinkCaused r c full.mirror road road' why
      placed ends h p none = as_links book book' c full.mirror road road' why none (placed_caused f r i o c full.mirror book book' road middle road' new ends why (exchange_never r i o (Some old.upstream.id) old held road middle ex) id
          (λ receipt is. down_link f i o full.state held new book book' receipt (ex.rest.above ∙ stands.shows.above) (subst (λ (y : Stepped). GoesDownBy f i o full.state held new book book' y) is h))
          (λ receipt is. down_file f i o full.state held new book book' receipt (subst (λ (y : Stepped). GoesDownBy f i o full.state held new book book' y) is h)) p)

      by_end : (ends : Stepped) → GoesDownBy f i o full.state held new book book' ends → IsDownFault r i o ends new middle road' why → IsLinkCaused r c full.mirror road road' why
      by_end (stepped.File receipt) h p = broken_fault new c full.mirror road road' why id p
      by_end (stepped.LinkFailed receipt) h p = placed (stepped.LinkFailed receipt) h p (no_lost new middle road' why p)
      by_end stepped.Memory h p = placed stepped.Memory h p (no_memory_files why p)
      by_end (stepped.Shut receipt) h p = placed (stepped.Shut receipt) h p (no_memory_files why p)
      by_end (stepped.Moved receipt) h p = placed (stepped.Moved receipt) h p (no_road (r.faults middle) (r.faults road') why p)
      by_end stepped.NotReady h p = placed stepped.NotReady h p (no_road (r.faults middle) (r.faults road') why p)

  -- the mirror's link failed
  pub down_lost_shows : (old held new : Member I O) (book book' : BookState F) (ended : Stepped) (why : MemberFault) (road middle road' : R) → ExchangesBoth r i o (Some old.upstream.id) old held road middle (Ok tt) → GoesDown f i o held.stage held new book book' ended → stands_end new.below.next ≡ true → IsLost r i o new middle road' why
      → DownShows f r i o old book book' road road' (Err why)
  down_lost_shows old held new book book' ended why road middle road' ex goes lost h = λ w net conn answered full x stands can.
      let g = goes_by old held new book book' ended road ex.rest goes w net conn.0 full stands in
      let failed = down_lost f i o full.state held new book book' ended (ap (λ (b : BelowState). b.next) ex.rest.below ∙ stands.shows.below_next) lost g in
      let low0 = mirror_held i o w net full.mirror old.mirror stands.shows.mirror in
      let same : SameMirror old.mirror new.mirror = (same_on old held new (exchanged_same r i o (Some old.upstream.id) old held road middle ex) (down_same f i o held.stage held new book book' ended goes)).lower in
      as_links book book' conn.0 full.mirror road road' why (no_lost new middle road' why h) (lost_caused f r i o conn.0 full.mirror book book' road middle road' new why
      (λ b. risen_below r i o conn.0 full.mirror net false [] (held_by (mirror_over w full.mirror)) new old.mirror new.mirror middle road' low0 same refl failed b) h)

  -- it ended by a failed call on files
  broke_shows : (old held new : Member I O) (book book' : BookState F) (ended : Stepped) (road middle road' : R) → ExchangesBoth r i o (Some old.upstream.id) old held road middle (Ok tt) → GoesDown f i o held.stage held new book book' ended → IsBookOf f book
      → EndsBroken ended (BringsBroken r i o new middle road') → DownShows f r i o old book book' road road' (Ok downed.Broke)
  broke_shows old held new book book' (stepped.File receipt) road middle road' ex goes kept b = λ w net conn answered full x stands can. down_broke old held new book book' receipt road middle road' ex goes kept b w net conn answered full x stands can
  broke_shows old held new book book' (stepped.LinkFailed receipt) road middle road' ex goes kept b = absurd b
  broke_shows old held new book book' stepped.Memory road middle road' ex goes kept b = absurd b
  broke_shows old held new book book' (stepped.Shut receipt) road middle road' ex goes kept b = absurd b
  broke_shows old held new book book' (stepped.Moved receipt) road middle road' ex goes kept b = absurd b
  broke_shows old held new book book' stepped.NotReady road middle road' ex goes kept b = absurd b

  pub down_shows : (old held new : Member I O) (book book' : BookState F) (ended : Stepped) (result : Result (Downed I O) MemberFault) (road middle road' : R) → ExchangesBoth r i o (Some old.upstream.id) old held road middle (Ok tt) → GoesDown f i o held.stage held new book book' ended → stands_end new.below.next ≡ false → IsBookOf f book
      → IsDowned r i o ended new middle road' result → DownShows f r i o old book book' road road' result
  down_shows old held new book book' ended (Ok (downed.Done left)) road middle road' ex goes lost kept placed = λ w net conn answered full x stands can. down_left old held new book book' ended left road middle road' ex goes lost kept placed w net conn answered full x stands can
  down_shows old held new book book' ended (Ok downed.Broke) road middle road' ex goes lost kept placed = broke_shows old held new book book' ended road middle road' ex goes kept placed
  down_shows old held new book book' ended (Err why) road middle road' ex goes lost kept placed = λ w net conn answered full x stands can. fault_caused old held new book book' ended why road middle road' ex goes w net conn.0 full stands placed
