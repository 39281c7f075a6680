-- A member that takes what stands next from above: what it found, what its ends hold, and its turn.
use Rattle.hd_base.specs.Links.{Inbox}
use Rattle.hd_base.specs.declared.ends.Conn.{Conn}
use Rattle.hd_base.specs.declared.files.Files as files
use Rattle.hd_base.specs.declared.links.LinkIn as link_in
use Rattle.hd_base.specs.declared.links.LinkOut as link_out
use Rattle.hd_base.specs.declared.numbers.ConnId.{ConnId}
use Rattle.hd_base.specs.declared.numbers.NodeId.{NodeId}
use Rattle.hd_base.specs.declared.roads.Roads as roads
use Rattle.link_pieces.specs.Roads.{names}
use Rattle.member_events.proofs.EndLaws.{HeldAt, MirrorAt, RoadsAt, mirror_net, both_pass, end_held}
use Rattle.member_events.proofs.MemberLaws.{holds_like, kept_inbox, never}
use Rattle.member_events.proofs.NetLaws.{other_passed}
use Rattle.member_events.proofs.ReadyEvents.{mirror_over, mirror_held}
use Rattle.member_events.proofs.ReadyLaws.{IsReadyFor}
use Rattle.member_events.proofs.TakeLaws.{message_came, end_came}
use Rattle.member_events.proofs.WorldLaws.{taken_same}
use Rattle.member_events.specs.Events.{CanDown}
use Rattle.member_events.specs.Showing.{IsLater, MemberStands, OthersStay}
use Rattle.member_events.specs.Texts.{IsPacketNext}
use Rattle.pipe_member.proofs.EventStepLemmas.{downs_step}
use Rattle.pipe_member.proofs.RuledTurns.{down_ruled}
use Rattle.pipe_member.specs.Above.{AboveState, nothing_above, LooksAbove, ReceivesAbove, may_take, due_above, above_of as found_above}
use Rattle.pipe_member.specs.EventSteps.{HoldsMirror, IsOfHistory}
use Rattle.pipe_member.specs.Events.{TurnsIf, TakesAbove, GoesDown, GoesDownBy}
use Rattle.pipe_member.specs.Exchanges.{ExchangesBoth}
use Rattle.pipe_member.specs.FrameFeed.KindLaws.{packets_sound}
use Rattle.pipe_member.specs.FrameFeed.Kinds.{packets}
use Rattle.pipe_member.specs.LinkMessages.Incomings.{IncomingState, nothing_received}
use Rattle.pipe_member.specs.MemberCore.Booked.TheVariants as booked
use Rattle.pipe_member.specs.MemberCore.Booked.{Booked}
use Rattle.pipe_member.specs.MemberCore.FromAbove.TheVariants as above
use Rattle.pipe_member.specs.MemberCore.FromAbove.{FromAbove}
use Rattle.pipe_member.specs.MemberCore.Members.{MemberState, has_mirror, down_turn, settled, refused_turn}
use Rattle.pipe_member.specs.MemberCore.Shuts.TheVariants as shuts
use Rattle.pipe_member.specs.MemberCore.Steps.{step, outcome_of}
use Rattle.pipe_member.specs.MemberCore.Turn.{Turn}
use Rattle.pipe_member.specs.PacketCodec.Packets.{packet_text}
use Rattle.pipe_member.specs.PipeTurns.Acting.{ShutsEnd}
use Rattle.pipe_member.specs.ReplicaFiles.BookState.{BookState}
use Rattle.pipe_member.specs.ReplicaModel.Rows.{FullReplica}
use Rattle.pipe_member.specs.Stepping.{IsOfRules}
use Rattle.pipe_member.specs.Steps.{is_failed}
use Rattle.pipe_member.specs.Turns.{Turns}
use Rattle.pipe_member.specs.declared.member.Member.{Member}
use Rattle.pipe_member.specs.declared.stages.Looked.TheVariants as looked
use Rattle.pipe_member.specs.declared.stages.Looked.{Looked}
use Rattle.pipe_member.specs.declared.stages.Stage.TheVariants as stage
use Rattle.pipe_member.specs.declared.stages.Stage.{Stage}
use Rattle.pipe_member.specs.declared.stages.Took.TheVariants as took
use Rattle.pipe_member.specs.declared.stepped.Stepped.{Stepped}
use Rattle.pipe_member.specs.declared.stepped.Stepped.TheVariants as stepped
use Rattle.replica_core.specs.declared.records.ReplicaRecord.{ReplicaRecord}
use Rattle.replica_core.specs.declared.refusals.Refusal.TheVariants as refusal
use Rattle.replica_core.specs.declared.refusals.Refusal.{Refusal}
use Rattle.road_traffic.proofs.CallLemmas.{took-shows}
use Rattle.road_traffic.proofs.TrafficLemmas.{same-itself}
use Rattle.road_traffic.specs.Laws.{Took}
use Rattle.road_traffic.specs.Showing.{Net}
use Rattle.std.proofs.Common.{◌≡◌, ◌≢◌, ◌<◌, ℕ, Bool, true, false, List, [], length, Option, Some, None, IsSome, IfSome, Ok, option_map, refl, sym, ap, ◌∙◌, subst, arith}
use Rattle.world_texts.proofs.WorldNets.FlushingLemmas.{other-number}
use Rattle.world_texts.proofs.WorldNets.StepLemmas.{taken-net, taken-over, idle-net}
use Rattle.world_texts.specs.World.Connections.{Next, message, the_end, down_taken}
use Rattle.world_texts.specs.World.Nodes.{above_of, block_of, pending_at, takes_next}
use Rattle.world_texts.specs.World.Parts.{packet, FullMember}
use Rattle.world_texts.specs.World.Worlds.{World}
use Rattle.world_texts.specs.WorldNets.Nets.{IsNetOf, held_by, inbox_for, is_over}
use Rattle.world_texts.specs.WorldNets.Steps.{taken_net, is_end}

-- WHAT CAME

-- What was found from above, and what is left there.
record CameDown {I : Type 0} (i : link_in.Ghosts I) (x : Next) (a : AboveState) (half' : I) : Type 0 where
  next : a.next ≡ Some (above_of x)
  holds : i.held half' ≡ Some (held_by (is_end x))
  received : is_end x ≡ false → a.received ≡ nothing_received

came_down : {I : Type 0} (i : link_in.Ghosts I) (x : Next) (a : AboveState) (half half' : I) (found : Looked) → IsPacketNext x → i.held half ≡ Some (inbox_for x) → ReceivesAbove i nothing_above a half half' found → found ≡ looked.Known → CameDown i x a half'
came_down i (message (packet p)) a half half' found spelled held rc known =
    let k = message_came packets i packets_sound p (packet_text p) a.received half half' rc.came spelled held rc.comes (sym rc.is ∙ known) in
    record { next = rc.stands ∙ ap found_above k.is; holds = k.holds; received = λ z. k.received }
came_down i (message other) a half half' found spelled held rc known = absurd spelled
came_down i the_end a half half' found spelled held rc known =
    let k = end_came packets i a.received half half' rc.came held rc.comes (sym rc.is ∙ known) in
    record { next = rc.stands ∙ ap found_above k.is; holds = k.holds; received = λ z. cc }

pub held_took : {I O : Type 0} (i : link_in.Ghosts I) (o : link_out.Ghosts O) (net : Net) (shut : Bool) (extra : List (List ℕ)) (inbox left : Inbox) (c : ℕ) (lower : Bool) (old new : Conn I O) → Took i left old new → HeldAt i o net shut extra inbox c lower old → HeldAt i o net shut extra left c lower new
held_took i o net shut extra inbox left c lower old new t k = record {
  id = ap (λ (y : ConnId). y.0) t.id ∙ k.id;
  side = t.lower ∙ k.side;
  within = k.within;
  is = took-shows i o net.traffic shut extra inbox left old new t k.is;
  taking = k.taking;
}

not_failed : {I O : Type 0} (o : link_out.Ghosts O) (found : Looked) (old new : Conn I O) → found ≡ looked.Known → ShutsEnd o (is_failed found) old new → new ≡ old
not_failed o found old new known h = subst (λ (x : Looked). ShutsEnd o (is_failed x) old new) known h

-- WHAT IS TAKEN

may_is : (m : MemberState) (n : ℕ) (x : Next) → IsPacketNext x → takes_next m n x ≡ true → may_take m n (above_of x) ≡ true
may_is m n (message (packet p)) h k = k
may_is m n (message other) h k = absurd h
may_is m n the_end h k = k

due_is : (m : MemberState) (n : ℕ) (next : Option FromAbove) (y : FromAbove) → next ≡ Some y → may_take m n y ≡ true → option_map (down_turn m) (due_above m n next) ≡ Some (down_turn m y)
due_is m n next y is may = rw is (rw may refl)

pub held_has : {I O : Type 0} (m : MemberState) (end : Option (Conn I O)) → HoldsMirror (stage.Open m) end → IsSome end → has_mirror m.mirror ≡ true
held_has m None h there = cc
held_has m (Some end) h there = h

refused_end : (m : MemberState) (why : Refusal) → (refused_turn m (down_turn m above.End) why).1.shuts ≢ shuts.Nothing
refused_end m (refusal.BadSum chunk) e = cc
refused_end m why e = cc

settled_end : (m : MemberState) (b : Booked) → (settled m (down_turn m above.End) b).1.shuts ≢ shuts.Nothing
settled_end m booked.Taken e = cc
settled_end m booked.Failed e = cc
settled_end m (booked.Refused why) e = refused_end m why e

-- a member that has taken the end shuts
pub end_shuts : (m : MemberState) (was : FullReplica) (x : Next) → is_end x ≡ true → (step m was (down_turn m (above_of x))).effect.shuts ≢ shuts.Nothing
end_shuts m was (message y) h e = cc
end_shuts m was the_end h e = settled_end m (outcome_of was (down_turn m above.End).call) e

pub above_left : (a : AboveState) (over : Bool) → (over ≡ false → a.received ≡ nothing_received) → (over ≡ true → ⊥) → record a { next = None } ≡ nothing_above
above_left a false h k = ap (λ (s : IncomingState). record { received = s; next = None }) (h refl)
above_left a true h k = absurd (k refl)

-- THE NAMED END

number_apart : (c d : ℕ) → c < d → c ≡ d → ⊥
number_apart c d h e = omega arith

other_named : {I O : Type 0} (i : link_in.Ghosts I) (o : link_out.Ghosts O) (net : Net) (inbox : Inbox) (id : ConnId) (mirror : Option ℕ) (e : Option (Conn I O)) → IsLater id.0 mirror → MirrorAt i o net false [] inbox mirror e → IfSome e (λ x. names (Some id) x.id ≡ false)
other_named i o net inbox id None None h k = tt
other_named i o net inbox id None (Some e) h k = absurd k
other_named i o net inbox id (Some d) None h k = tt
other_named i o net inbox id (Some d) (Some e) h k = other-number id.0 e.id.0 (λ z. number_apart id.0 d h (z ∙ k.id))

mirror_idle : (w : World) (net : Net) (mirror : Option ℕ) → IsNetOf w net → IsNetOf w (mirror_net net false false [] mirror)
mirror_idle w net None is = is
mirror_idle w net (Some d) is = idle-net w net d false is

over_kept : (w : World) (c : ℕ) (x : Next) (mirror : Option ℕ) → IfSome mirror (λ d. is_over (down_taken w c x) d false ≡ mirror_over w mirror)
over_kept w c x None = tt
over_kept w c x (Some d) = taken-over w d false c true x (λ z. refl)

-- THE TURN

-- A member that looked from above has this turn, and its ends hold what is left in the world in which this was taken.
pub record DownTurned {F R I O : Type 0} (f : files.Ghosts F) (r : roads.Ghosts R I O) (i : link_in.Ghosts I) (o : link_out.Ghosts O) (w : World) (net : Net) (c : ℕ) (full : FullMember) (x : Next) (old new : Member I O) (book book' : BookState F) (ended : Stepped) (road : R) : Type 0 where
  pub seen : Member I O
  pub made : Net
  pub is_net : IsNetOf (down_taken w c x) made
  pub roads_at : RoadsAt r made road
  pub others : OthersStay i o w net (down_taken w c x) made c full.mirror
  pub ready : IsReadyFor i o (down_taken w c x) made c full (is_end x) (mirror_over w full.mirror) seen book
  pub received : is_end x ≡ false → seen.above.received ≡ nothing_received
  pub below : seen.below ≡ old.below
  pub turns : Turns f o full.state (down_turn full.state (above_of x)) took.Above seen new book book' ended
  pub rules : IsOfRules (down_turn full.state (above_of x)).call (down_turn full.state (above_of x)).effect seen.mirror
  pub holds : ended ≢ stepped.Memory → HoldsMirror new.stage new.mirror

-- what a member that looked from above has found
pub record FoundDown {F I O : Type 0} (f : files.Ghosts F) (o : link_out.Ghosts O) (m : MemberState) (found : Looked) (seen new : Member I O) (book book' : BookState F) (ended : Stepped) : Type 0 where
  pub known : found ≡ looked.Known
  pub takes : TakesAbove f o m seen new book book' ended

module _ {F R I O : Type 0} (f : files.Ghosts F) (r : roads.Ghosts R I O) (i : link_in.Ghosts I) (o : link_out.Ghosts O) where
  pub down_turned : (old held new : Member I O) (book book' : BookState F) (ended : Stepped) (road middle : R) → ExchangesBoth r i o (Some old.upstream.id) old held road middle (Ok tt) → GoesDown f i o held.stage held new book book' ended → IsOfHistory book
      → (w : World) (net : Net) (conn : ConnId) (answered : Bool) (full : FullMember) (x : Next) → MemberStands r i o w net conn.0 full book old road → CanDown w conn answered full x
      → ((g : GoesDownBy f i o full.state held new book book' ended) → FoundDown f o full.state g.found g.seen new book book' ended)
      → DownTurned f r i o w net conn.0 full x old new book book' ended middle
  down_turned old held new book book' ended road middle ex goes history w net conn answered full x stands can finds =
      let c = conn.0 in
      let m : MemberState = full.state in
      let w1 : World = down_taken w c x in
      let y : FromAbove = above_of x in
      let t : Turn = down_turn m y in
      let over : Bool = mirror_over w full.mirror in
      let at : RoadsAt r net road = record { sane = stands.roads_are.sane; shows = stands.roads_are.shows } in
      let up0 = end_held i o w net c true old.upstream stands.shows.upstream in
      let low0 = mirror_held i o w net full.mirror old.mirror stands.shows.mirror in
      let takes = taken-net w net c true x stands.roads_are.is_net stands.shows.upstream.within stands.shows.upstream.taking can.comes.next in
      let later : IsLater old.upstream.id.0 full.mirror = subst (λ (n : ℕ). IsLater n full.mirror) (sym stands.shows.upstream.id) stands.later in
      let p = both_pass r i o (Some old.upstream.id) true false false false [] [] (held_by (is_over w c true)) (held_by over) net c full.mirror road middle old held at up0 low0
      (same-itself old.upstream.id.0) (other_named i o net (held_by over) old.upstream.id full.mirror old.mirror later low0) (λ z. ap held_by takes.before) (λ z. never z) ex in
      let n1 : Net = taken_net net c true in
      let n2 : Net = mirror_net n1 false false [] full.mirror in
      let is_net : IsNetOf w1 n2 = mirror_idle w1 n1 full.mirror takes.is_net in
      let up1 : HeldAt i o n2 false [] (inbox_for x) c true held.upstream = subst (λ (b : Inbox). HeldAt i o n2 false [] b c true held.upstream) takes.holds p.upper in
      let low1 : MirrorAt i o n2 false [] (held_by over) full.mirror held.mirror = kept_inbox i o n1 false [] over full.mirror n2 held.mirror p.lower in
      let here : held.stage ≡ stage.Open m = ex.rest.stage ∙ stands.shows.stage_is in
      let g : GoesDownBy f i o m held new book book' ended = subst (λ (st : Stage). GoesDown f i o st held new book book' ended) here goes in
      let fd = finds g in
      let rc : ReceivesAbove i nothing_above g.seen.above held.upstream.inward g.looks.inward g.found =
      subst (λ (a : AboveState). LooksAbove i a.next a g.seen.above held.upstream.inward g.looks.inward g.found) (ex.rest.above ∙ stands.shows.above) g.looks.looks in
      let came = came_down i x g.seen.above held.upstream.inward g.looks.inward g.found can.packets up1.is.held rc fd.known in
      let open_end : g.seen.upstream ≡ record { id = held.upstream.id; lower = held.upstream.lower; inward = g.looks.inward; outward = held.upstream.outward } = not_failed o g.found _ g.seen.upstream fd.known g.looks.shuts in
      let taken_end : Took i (held_by (is_end x)) held.upstream g.seen.upstream = subst (λ (z : Conn I O). Took i (held_by (is_end x)) held.upstream z) (sym open_end) (record { id = refl; lower = refl; outward = refl; shut = rc.comes.shut; holds = came.holds }) in
      let up2 = held_took i o n2 false [] (inbox_for x) (held_by (is_end x)) c true held.upstream g.seen.upstream taken_end up1 in
      let pending : length book.replica.pending ≡ pending_at w c full = ap (λ (z : ReplicaRecord). length z.pending) (history ∙ ap (λ (z : FullReplica). z.known) stands.replica) in
      let may : may_take m (length book.replica.pending) y ≡ true = ap (λ (n : ℕ). may_take m n y) pending ∙ may_is m (pending_at w c full) x can.packets can.takes in
      let turns : Turns f o m t took.Above g.seen new book book' ended =
      subst (λ (z : Option Turn). TurnsIf f o m z took.Above g.seen new book book' ended) (due_is m (length book.replica.pending) g.seen.above.next y came.next may) fd.takes in
      let holds0 : HoldsMirror held.stage held.mirror = subst (λ (st : Stage). HoldsMirror st held.mirror) (sym ex.rest.stage) (holds_like i o old.stage net n2 false [] (held_by over) (held_by over) full.mirror old.mirror held.mirror low0 low1 stands.shows.holds) in
      let has : IsSome g.seen.mirror → has_mirror m.mirror ≡ true = held_has m g.seen.mirror (subst (λ (e : Option (Conn I O)). HoldsMirror (stage.Open m) e) (sym g.looks.mirror) (subst (λ (st : Stage). HoldsMirror st held.mirror) here holds0)) in
      let same = taken_same w c true x c (block_of full.fields) in
      record {
        seen = g.seen;
        made = n2;
        is_net = is_net;
        roads_at = p.roads_at;
        others = λ d b z none k. other_passed r i o w w1 net c full.mirror true false false false [] [] d b z none (taken-over w d b c true x none.0) k;
        ready = record {
          node = ap (λ (z : NodeId). z.0) (g.looks.same.node ∙ ex.rest.node) ∙ (stands.shows.node ∙ sym same.node);
          op = g.looks.same.op ∙ (ex.rest.op ∙ stands.shows.op);
          replica = stands.replica ∙ sym same.replica;
          upper = up2;
          lower = subst (λ (e : Option (Conn I O)). MirrorAt i o n2 false [] (held_by over) full.mirror e) (sym g.looks.mirror) low1;
          over_up = takes.after;
          over_down = over_kept w c x full.mirror;
        };
        received = came.received;
        below = g.looks.below ∙ ex.rest.below;
        turns = turns;
        rules = (down_ruled m g.seen.mirror y has).rules;
        holds = λ found. (downs_step f i o m held new book book' ended (record { open_by = here; holds = holds0; of_history = history; found_memory = found }) goes).1;
      }
