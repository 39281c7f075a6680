-- What an end that answers a primary has taken is what stood next for it.
use Rattle.std.proofs.Common.{◌≡◌, ℕ, Bool, true, false, [], Some, Ok, refl, sym, ap, subst}
use Rattle.hd_base.specs.Links.{Inbox}
use Rattle.hd_base.specs.declared.ends.Conn.{Conn}
use Rattle.hd_base.specs.declared.links.LinkIn as link_in
use Rattle.hd_base.specs.declared.links.LinkOut as link_out
use Rattle.hd_base.specs.declared.roads.Roads as roads
use Rattle.block_recovery.specs.FrameFeed.Kinds.{requests}
use Rattle.block_recovery.specs.FrameFeed.KindLaws.{requests_sound}
use Rattle.block_recovery.specs.LinkMessages.Next as link
use Rattle.block_recovery.specs.LinkMessages.Next.TheVariants as next
use Rattle.block_recovery.specs.LinkMessages.Incomings.{IncomingState, nothing_received, NextEnds}
use Rattle.link_pieces.specs.Roads.{names, ExchangesEnd}
use Rattle.op_headers.specs.declared.ops.Op.{Op}
use Rattle.op_headers.specs.declared.ops.Op.TheVariants as op
use Rattle.op_headers.specs.declared.ops.RecoveryOp.{RecoveryOp}
use Rattle.member_events.specs.PipeMember.Looked.TheVariants as looked
use Rattle.member_events.specs.PipeMember.Looks.{looked_of}
use Rattle.road_traffic.specs.Showing.{Net}
use Rattle.road_traffic.proofs.TrafficLemmas.{same-itself}
use Rattle.block_recovery.specs.declared.taking.RecoveryCame.{RecoveryCame}
use Rattle.block_recovery.specs.declared.taking.RecoveryCame.TheVariants as came
use Rattle.block_recovery.specs.Taking.{came_of, TakesRequest}
use Rattle.world_orders.specs.World.Parts.{request}
use Rattle.world_orders.specs.World.Worlds.{World}
use Rattle.world_orders.specs.World.Connections.{Next, message, the_end, down_taken}
use Rattle.member_events.specs.WorldNets.Drawn.{ComesDown}
use Rattle.member_events.specs.WorldNets.Nets.{IsNetOf, IsEndOf, held_by, inbox_for, is_over}
use Rattle.member_events.specs.WorldNets.Rows.{text_of}
use Rattle.member_events.specs.WorldNets.Steps.{taken_net, is_end}
use Rattle.member_events.proofs.WorldNets.StepLemmas.{taken-net}
use Rattle.member_events.specs.Showing.{ShowsWorld}
use Rattle.member_events.proofs.DownEvents.{held_took}
use Rattle.member_events.proofs.EndLaws.{HeldAt, RoadsAt, end_held, end_passes}
use Rattle.member_events.proofs.TakeLaws.{message_came, end_came}
use Rattle.recovery_events.specs.Answering.{with_outward}
use Rattle.recovery_events.specs.Drawn.{recovery_next, IsNoRequest}
use Rattle.recovery_events.specs.Events.{IsRequestNext}

-- WHAT CAME

-- what the end gives where this stands next
abbrev pub next_of : Next → link.Next Op
next_of (message (request r)) = next.Message r
next_of (message other) = next.Unreadable
next_of the_end = next.End

-- What the end gave, and what is left.
pub record CameNext {I : Type 0} (i : link_in.Ghosts I) (x : Next) (new : IncomingState) (half' : I) (n : link.Next Op) : Type 0 where
  pub is : n ≡ next_of x
  pub received : is_end x ≡ false → new ≡ nothing_received
  pub holds : i.held half' ≡ Some (held_by (is_end x))

pub came_next : {I : Type 0} (i : link_in.Ghosts I) (b : ℕ) (x : Next) (new : IncomingState) (half half' : I) (n : link.Next Op) → IsRequestNext b x → i.held half ≡ Some (inbox_for x) → NextEnds requests i nothing_received new half half' n → looked_of n ≡ looked.Known → CameNext i x new half' n
came_next i b (message (request q)) new half half' n spelled held ends known =
    let k = message_came requests i requests_sound q (text_of (request q)) new half half' n spelled.0 held ends known in
    record { is = k.is; received = λ z. k.received; holds = k.holds }
came_next i b (message other) new half half' n spelled held ends known = absurd spelled
came_next i b the_end new half half' n spelled held ends known =
    let k = end_came requests i new half half' n held ends known in
    record { is = k.is; received = λ z. cc; holds = k.holds }

-- BY WHAT THE MEMBER'S SIDE WAS TOLD

pub asked_came : (n : link.Next Op) (r : RecoveryOp) → came.Asked r ≡ came_of n → n ≡ next.Message (op.Recovery r)
asked_came (next.Message (op.Recovery q)) r h = let same : r ≡ q = cc in ap (λ (y : RecoveryOp). next.Message (op.Recovery y)) (sym same)
asked_came (next.Message (op.Write q)) r h = cc
asked_came (next.Message (op.Read q)) r h = cc
asked_came (next.Message (op.Transfer q)) r h = cc
asked_came (next.Message (op.Checksum q)) r h = cc
asked_came next.Unreadable r h = cc
asked_came next.End r h = cc
asked_came next.NotYet r h = cc
asked_came next.Failed r h = cc
asked_came next.Memory r h = cc

-- no request of a recovery, and no failure
abbrev IsOther : link.Next Op → Type 0
IsOther (next.Message (op.Recovery r)) = ⊥
IsOther next.Failed = ⊥
IsOther next.Memory = ⊥
IsOther other = Unit {0}

pub over_came : (n : link.Next Op) → came.Over ≡ came_of n → IsOther n
over_came (next.Message (op.Recovery q)) h = cc
over_came (next.Message (op.Write q)) h = tt
over_came (next.Message (op.Read q)) h = tt
over_came (next.Message (op.Transfer q)) h = tt
over_came (next.Message (op.Checksum q)) h = tt
over_came next.Unreadable h = tt
over_came next.End h = tt
over_came next.NotYet h = tt
over_came next.Failed h = cc
over_came next.Memory h = cc

pub other_known : (n : link.Next Op) → IsOther n → looked_of n ≡ looked.Known
other_known (next.Message m) h = refl
other_known next.Unreadable h = refl
other_known next.End h = refl
other_known next.NotYet h = refl
other_known next.Failed h = absurd h
other_known next.Memory h = absurd h

pub waits_came : (n : link.Next Op) → came.NotYet ≡ came_of n → n ≡ next.NotYet
waits_came (next.Message (op.Recovery q)) h = cc
waits_came (next.Message (op.Write q)) h = cc
waits_came (next.Message (op.Read q)) h = cc
waits_came (next.Message (op.Transfer q)) h = cc
waits_came (next.Message (op.Checksum q)) h = cc
waits_came next.Unreadable h = cc
waits_came next.End h = cc
waits_came next.NotYet h = refl
waits_came next.Failed h = cc
waits_came next.Memory h = cc

-- WHAT STOOD NEXT

pub asked_next : (b : ℕ) (x : Next) (r : RecoveryOp) → IsRequestNext b x → next.Message (op.Recovery r) ≡ next_of x → x ≡ recovery_next r
asked_next b (message (request q)) r spelled h = let same : op.Recovery r ≡ q = cc in ap (λ (y : Op). message (request y)) (sym same)
asked_next b (message other) r spelled h = absurd spelled
asked_next b the_end r spelled h = cc

pub other_next : (b : ℕ) (x : Next) (n : link.Next Op) → IsRequestNext b x → IsOther n → n ≡ next_of x → IsNoRequest x
other_next b (message (request (op.Recovery q))) n spelled h is = subst IsOther is h
other_next b (message (request (op.Write q))) n spelled h is = tt
other_next b (message (request (op.Read q))) n spelled h is = tt
other_next b (message (request (op.Transfer q))) n spelled h is = tt
other_next b (message (request (op.Checksum q))) n spelled h is = tt
other_next b (message other) n spelled h is = absurd spelled
other_next b the_end n spelled h is = tt

pub never_waits : (b : ℕ) (x : Next) → IsRequestNext b x → next.NotYet ≡ next_of x → ⊥
never_waits b (message (request q)) spelled h = cc
never_waits b (message other) spelled h = absurd spelled
never_waits b the_end spelled h = cc

-- THE END

module _ {R I O : Type 0} (r : roads.Ghosts R I O) (i : link_in.Ghosts I) (o : link_out.Ghosts O) where
  -- What an end has that was exchanged and took this.
  pub record HasDrawn (w : World) (net : Net) (c : ℕ) (x : Next) (road : R) (e : Conn I O) : Type 0 where
    pub is_net : IsNetOf (down_taken w c x) (taken_net net c true)
    pub at : RoadsAt r (taken_net net c true) road
    pub held : HeldAt i o (taken_net net c true) false [] (inbox_for x) c true e
    pub over : is_over (down_taken w c x) c true ≡ is_end x

  pub has_drawn : (w : World) (net : Net) (c : ℕ) (x : Next) (old new : Conn I O) (road road' : R) → ShowsWorld r w net road → IsEndOf i o w net c true old → ComesDown w c x → ExchangesEnd r i o (names (Some old.id) old.id) old new road road' (Ok tt) → HasDrawn w net c x road' new
  has_drawn w net c x old new road road' shows is comes ex =
      let takes = taken-net w net c true x shows.is_net is.within is.taking comes.next in
      let at : RoadsAt r net road = record { sane = shows.sane; shows = shows.shows } in
      let p = end_passes r i o net true false [] (held_by (is_over w c true)) c true road road' old new at (end_held i o w net c true old is) (λ z. ap held_by takes.before)
      (subst (λ (b : Bool). ExchangesEnd r i o b old new road road' (Ok tt)) (same-itself old.id.0) ex) in
      record {
        is_net = takes.is_net;
        at = p.roads_at;
        held = subst (λ (b : Inbox). HeldAt i o (taken_net net c true) false [] b c true new) takes.holds p.held;
        over = takes.after;
      }

  -- The end holds what is left once that was received, before it is shut or not.
  pub has_taken : (w : World) (net : Net) (c : ℕ) (x : Next) (old new : Conn I O) (incoming incoming' : IncomingState) (road : R) (q : RecoveryCame) (t : TakesRequest i o incoming incoming' old new q) → HasDrawn w net c x road old → CameNext i x incoming' new.inward t.next
      → HeldAt i o (taken_net net c true) false [] (held_by (is_end x)) c true (with_outward new old.outward)
  has_taken w net c x old new incoming incoming' road q t h k =
      held_took i o (taken_net net c true) false [] (inbox_for x) (held_by (is_end x)) c true old (with_outward new old.outward)
      (record { id = t.same.0; lower = t.same.1; outward = refl; shut = t.comes.shut; holds = k.holds }) h.held
