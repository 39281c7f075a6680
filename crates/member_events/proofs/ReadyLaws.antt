-- A member that has acted without a message, or has taken something, and what is left of it.
use Rattle.std.proofs.Common.{◌≡◌, ◌≢◌, ℕ, Bool, true, false, List, [], map, Option, Some, None, IfSome, Ok, refl, sym, ap, ◌∙◌, subst}
use Rattle.hd_base.specs.declared.files.Files as files
use Rattle.hd_base.specs.declared.links.LinkIn as link_in
use Rattle.hd_base.specs.declared.links.LinkOut as link_out
use Rattle.hd_base.specs.declared.numbers.NodeId.{NodeId}
use Rattle.hd_base.specs.declared.numbers.Receipt.{Receipt}
use Rattle.hd_base.specs.declared.roads.Roads as roads
use Rattle.pipe_member.specs.LinkMessages.Incomings.{nothing_received}
use Rattle.op_headers.specs.Values.{WriteFields}
use Rattle.pipe_member.specs.ReplicaModel.Rows.{FullReplica}
use Rattle.pipe_member.specs.ReplicaFiles.BookState.{BookState}
use Rattle.pipe_member.specs.ReplicaFiles.Books.{replica_of}
use Rattle.pipe_member.specs.MemberCore.Shuts.{Shuts}
use Rattle.pipe_member.specs.MemberCore.Shuts.TheVariants as shuts
use Rattle.pipe_member.specs.MemberCore.Turn.{Turn}
use Rattle.pipe_member.specs.MemberCore.Steps.{Step, step}
use Rattle.pipe_member.specs.PipeTurns.Acting.{texts_of}
use Rattle.pipe_member.specs.declared.member.Member.{Member}
use Rattle.pipe_member.specs.declared.stages.Took.{Took}
use Rattle.pipe_member.specs.declared.stepped.Stepped.{Stepped}
use Rattle.pipe_member.specs.Above.{nothing_above}
use Rattle.pipe_member.specs.EventSteps.{HoldsMirror}
use Rattle.pipe_member.specs.Stepping.{IsStep, passed_text}
use Rattle.pipe_member.specs.Steps.{done_step}
use Rattle.pipe_member.specs.Turns.{Turns}
use Rattle.road_traffic.specs.Showing.{Net}
use Rattle.world_texts.specs.World.Event.{Event}
use Rattle.world_texts.specs.World.Parts.{FullMember, Break}
use Rattle.world_texts.specs.World.Worlds.{World, apply, listed}
use Rattle.world_texts.specs.World.Connections.{Next}
use Rattle.world_texts.specs.World.Nodes.{node_of, block_of, replica_at, member_change, sent_up, passed}
use Rattle.world_texts.specs.World.Events.{outcome, happens}
use Rattle.world_texts.specs.WorldNets.Rows.{text_of}
use Rattle.world_texts.specs.WorldNets.Nets.{IsNetOf, held_by, is_over}
use Rattle.world_texts.specs.WorldNets.Flushing.{shuts_above, shuts_below}
use Rattle.member_events.specs.Steps.{IsPlaced}
use Rattle.member_events.specs.Showing.{OthersStay, MemberLeft}
use Rattle.member_events.proofs.TurnEnds.{IsFine, TurnSends}
use Rattle.member_events.proofs.EndLaws.{HeldAt, MirrorAt, RoadsAt, end_sends, mirror_sends}
use Rattle.member_events.proofs.StepLaws.{step_over, step_on}
use Rattle.member_events.proofs.MemberLaws.{HasStepped, moved, shut}

-- A running member before its turn, in a world in which it took this: what it is, and what its ends hold.
pub record IsReadyFor {F I O : Type 0} (i : link_in.Ghosts I) (o : link_out.Ghosts O) (w : World) (net : Net) (c : ℕ) (full : FullMember) (up down : Bool) (m : Member I O) (book : BookState F) : Type 0 where
  pub node : m.node.0 ≡ node_of w c
  pub op : m.op ≡ full.fields
  pub replica : replica_of book ≡ replica_at w c (block_of full.fields)
  pub upper : HeldAt i o net false [] (held_by up) c true m.upstream
  pub lower : MirrorAt i o net false [] (held_by down) full.mirror m.mirror
  pub over_up : is_over w c true ≡ up
  pub over_down : IfSome full.mirror (λ d. is_over w d false ≡ down)

-- What a turn of it has made.
pub record HasTurned {F I O : Type 0} (f : files.Ghosts F) (o : link_out.Ghosts O) (full : FullMember) (t : Turn) (at : Took) (old new : Member I O) (book book' : BookState F) (ended : Stepped) : Type 0 where
  pub turns : Turns f o full.state t at old new book book' ended
  pub fine : IsFine turns.done
  pub is_step : IsStep o t (step full.state (replica_of book) t) old new book book'
  pub sends : TurnSends o t (step full.state (replica_of book) t).effect old new ended
  pub holds : HoldsMirror new.stage new.mirror

-- What its step sends in the world is what its ends send.
pub record AreTexts (full : FullMember) (x : Next) (t : Turn) (s : Step) : Type 0 where
  pub up : map text_of (sent_up full.fields s.effect.sends) ≡ listed (texts_of full.fields s.effect.sends)
  pub down : map text_of (passed s.effect.forwards x) ≡ listed (passed_text t.call s.effect.forwards)

-- What it has received and not taken after its turn.
pub record HasTaken {I O : Type 0} (s : Step) (down : Bool) (m : Member I O) : Type 0 where
  pub above : s.effect.shuts ≡ shuts.Nothing → m.above ≡ nothing_above
  pub below_next : m.below.next ≡ None
  pub below : down ≡ false → m.below.received ≡ nothing_received

pub has_stepped : {F I O : Type 0} (f : files.Ghosts F) (i : link_in.Ghosts I) (o : link_out.Ghosts O) (w : World) (net : Net) (c : ℕ) (full : FullMember) (x : Next) (t : Turn) (at : Took) (up down : Bool) (old new : Member I O) (book book' : BookState F) (ended : Stepped)
    → IsReadyFor i o w net c full up down old book → HasTurned f o full t at old new book book' ended → AreTexts full x t (step full.state (replica_of book) t) → HasTaken (step full.state (replica_of book) t) down new
    → HasStepped i o w net c full x (step full.state (replica_of book) t) up down new book'
has_stepped f i o w net c full x t at up down old new book book' ended ready turned texts took =
    let s : Step = step full.state (replica_of book) t in
    let same = turned.turns.follows.same in
    let upper : HeldAt i o net (shuts_above s.effect.shuts) (listed (texts_of old.op s.effect.sends)) (held_by up) c true new.upstream =
    end_sends i o net (held_by up) c true (texts_of old.op s.effect.sends) (shuts_above s.effect.shuts) old.upstream new.upstream turned.sends.upper ready.upper in
    let lower : MirrorAt i o net (shuts_below s.effect.shuts) (listed (passed_text t.call s.effect.forwards)) (held_by down) full.mirror new.mirror =
    mirror_sends i o net (held_by down) full.mirror (passed_text t.call s.effect.forwards) (shuts_below s.effect.shuts) old.mirror new.mirror turned.sends.lower ready.lower in
    record {
      node = ap (λ (y : NodeId). y.0) same.node ∙ ready.node;
      op = same.op ∙ ready.op;
      stage_is = turned.is_step.member;
      holds = turned.holds;
      replica = turned.is_step.replica;
      upper = subst (λ (ms : List (List ℕ)). HeldAt i o net (shuts_above s.effect.shuts) ms (held_by up) c true new.upstream) (ap (λ (op : WriteFields). listed (texts_of op s.effect.sends)) ready.op ∙ sym texts.up) upper;
      lower = subst (λ (ms : List (List ℕ)). MirrorAt i o net (shuts_below s.effect.shuts) ms (held_by down) full.mirror new.mirror) (sym texts.down) lower;
      over_up = ready.over_up;
      over_down = ready.over_down;
      above = took.above;
      below_next = took.below_next;
      below = took.below;
    }

module _ {F R I O : Type 0} (r : roads.Ghosts R I O) (i : link_in.Ghosts I) (o : link_out.Ghosts O) where
  place_by : (w w1 : World) (first net : Net) (e : Event) (c : ℕ) (full : FullMember) (x : Next) (t : Turn) (was : FullReplica) (broke : Option Break) (up down : Bool) (book : BookState F) (m : Member I O) (left : Option (Member I O)) (road road' : R) (sh : Shuts) (receipt : Option Receipt)
      → outcome w e ≡ Some (apply w1 (member_change w1 c full x (step full.state was t) broke)) → full.mirror ≢ Some c → OthersStay i o w first w1 net c full.mirror → IsNetOf w1 net → RoadsAt r net road
      → HasStepped i o w1 net c full x (step full.state was t) up down m book → (step full.state was t).effect.shuts ≡ sh → IsPlaced r i o (done_step sh receipt) m road road' (Ok left) → MemberLeft r i o w first (happens w e) c full book road' left
  place_by w w1 first net e c full x t was broke up down book m (Some new) road road' shuts.Nothing receipt out apart others is_net at h is p =
      moved r i o w w1 first net e c full x (step full.state was t) broke up down book m new road road' out apart others is_net at h is (step_on full.state was t is) p
  place_by w w1 first net e c full x t was broke up down book m None road road' shuts.Nothing receipt out apart others is_net at h is p = absurd p
  place_by w w1 first net e c full x t was broke up down book m None road road' shuts.Mirror receipt out apart others is_net at h is p =
      shut r i o w w1 first net e c full x (step full.state was t) broke up down book m road road' out apart others is_net at h (step_over full.state was t (λ z. cc)) p
  place_by w w1 first net e c full x t was broke up down book m (Some new) road road' shuts.Mirror receipt out apart others is_net at h is p = absurd p
  place_by w w1 first net e c full x t was broke up down book m None road road' shuts.Both receipt out apart others is_net at h is p =
      shut r i o w w1 first net e c full x (step full.state was t) broke up down book m road road' out apart others is_net at h (step_over full.state was t (λ z. cc)) p
  place_by w w1 first net e c full x t was broke up down book m (Some new) road road' shuts.Both receipt out apart others is_net at h is p = absurd p

  -- What follows a turn that was done, and what is left.
  pub placed_left : (f : files.Ghosts F) (w w1 : World) (first net : Net) (e : Event) (c : ℕ) (full : FullMember) (x : Next) (t : Turn) (at_side : Took) (broke : Option Break) (up down : Bool) (old new : Member I O) (book book' : BookState F) (ended : Stepped) (left : Option (Member I O)) (road road' : R)
      → outcome w e ≡ Some (apply w1 (member_change w1 c full x (step full.state (replica_of book) t) broke)) → full.mirror ≢ Some c → OthersStay i o w first w1 net c full.mirror → IsNetOf w1 net → RoadsAt r net road
      → IsReadyFor i o w1 net c full up down old book → HasTurned f o full t at_side old new book book' ended → AreTexts full x t (step full.state (replica_of book) t) → HasTaken (step full.state (replica_of book) t) down new
      → IsPlaced r i o ended new road road' (Ok left) → MemberLeft r i o w first (happens w e) c full book' road' left
  placed_left f w w1 first net e c full x t at_side broke up down old new book book' ended left road road' out apart others is_net at ready turned texts took p =
      let h = has_stepped f i o w1 net c full x t at_side up down old new book book' ended ready turned texts took in
      place_by w w1 first net e c full x t (replica_of book) broke up down book' new left road road' (step full.state (replica_of book) t).effect.shuts turned.sends.receipt out apart others is_net at h refl
      (subst (λ (y : Stepped). IsPlaced r i o y new road road' (Ok left)) turned.sends.ended p)
