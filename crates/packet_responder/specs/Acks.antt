-- What a member is given from below, and the turn that it makes of it.
use Rattle.std.specs.Prelude.{◌≡◌, ℕ, ℤ, Bool, true, false, [], ◌∷◌, All, length, Option, Some, None}
use Rattle.hd_base.specs.Wire.{IsStatus}
use Rattle.hd_base.specs.declared.numbers.ConnId.{ConnId}
use Rattle.hd_base.specs.declared.files.Files as files
use Rattle.hd_base.specs.declared.links.LinkOut as link_out
use Rattle.hd_base.specs.declared.states.Status.TheVariants as status
use Rattle.member_core.specs.AckCodec.Ack.{Ack}
use Rattle.replica_core.specs.declared.ack_queue.PendingPacket.{PendingPacket}
use Rattle.replica_files.specs.declared.book_state.BookState.{BookState}
use Rattle.member_core.specs.declared.inputs.FromBelow.TheVariants as below
use Rattle.member_core.specs.declared.member.Mirror.TheVariants as mirror
use Rattle.member_core.specs.declared.turns.Turn.{Turn}
use Rattle.member_core.specs.Members.{MemberState, up_turn, ready_at, ack_turn, give_up_turn, good_turn, bad_turn}
use Rattle.packet_responder.specs.declared.acks.FromBelow.{FromBelow}
use Rattle.packet_responder.specs.declared.acks.FromBelow.TheVariants as given
use Rattle.packet_responder.specs.declared.turns.Passed.{Passed}
use Rattle.packet_responder.specs.declared.turns.Passed.TheVariants as passed
use Rattle.packet_responder.specs.Turns.{PassEnds}

-- An ack is of listed statuses.
abbrev pub IsListed : FromBelow → Type 0
IsListed (given.Ack a) = All IsStatus a.replies
IsListed other = Unit {0}

-- Only the last member acts without a mirror, and a wrong sum is told of once nothing is pending.
abbrev pub IsDue : ℕ → Option PendingPacket → FromBelow → Type 0
IsDue n oldest given.Ready = n ≡ 0
IsDue n oldest (given.Bad seqno) = oldest ≡ None
IsDue n oldest other = Unit {0}

-- a member that takes packets, with so many below it
abbrev pub streaming : ConnId → ℕ → MemberState
streaming conn n = record {
  conn = conn;
  below = n;
  closes = false;
  mirror = mirror.Open;
  bad = None;
  receives = true;
  responds = true;
}

-- the turn of a member at its oldest pending packet
abbrev pub pending_turn : MemberState → FromBelow → PendingPacket → Turn
pending_turn m (given.Ack a) e = ack_turn m e (below.Ack a)
pending_turn m given.Ended e = give_up_turn m e
pending_turn m given.Ready e = good_turn m e (status.Success ∷ [])
pending_turn m (given.Bad seqno) e = bad_turn m seqno

-- its turn where nothing is pending, if it has one
abbrev pub idle_turn : MemberState → FromBelow → Option Turn
idle_turn m (given.Bad seqno) = Some (bad_turn m seqno)
idle_turn m other = None

abbrev pub turn_at : MemberState → FromBelow → Option PendingPacket → Option Turn
turn_at m from (Some e) = Some (pending_turn m from e)
turn_at m from None = idle_turn m from

-- Nothing was booked or sent, and so many entries were seen.
pub record IsIdle {F O : Type 0} (book book' : BookState F) (up up' : O) (result : Passed) : Type 0 where
  pub idle : result ≡ passed.Idle (length book.history.entries.items)
  pub book_same : book' ≡ book
  pub up_same : up' ≡ up

-- How what comes from below is taken: by its turn, if there is one.
abbrev pub TakesAck : {F O : Type 0} → files.Ghosts F → link_out.Ghosts O → Option Turn → BookState F → BookState F →
    O → O → Passed → Type 0
TakesAck f o None book book' up up' result = IsIdle book book' up up' result
TakesAck f o (Some t) book book' up up' result = PassEnds f o t book book' up up' result

-- THE MEMBER'S RULES

-- What is taken from a mirror that may still answer, or what is due without one, is the turn of the member.
pub record FollowsMember (m : MemberState) : Type 0 where
  pub acks : m.mirror ≡ mirror.Open → (e : PendingPacket) (a : Ack) →
      up_turn m (Some e) (below.Ack a) ≡ pending_turn m (given.Ack a) e
  pub ends : m.mirror ≡ mirror.Open → (e : PendingPacket) → up_turn m (Some e) below.End ≡ pending_turn m given.Ended e
  pub unread : m.mirror ≡ mirror.Open → (e : PendingPacket) →
      up_turn m (Some e) below.Unreadable ≡ pending_turn m given.Ended e
  pub ended : (e : PendingPacket) (writes : Bool) →
      ready_at mirror.Ended m (Some e) writes ≡ Some (pending_turn m given.Ended e)
  pub last : (e : PendingPacket) (writes : Bool) →
      ready_at mirror.Nobody m (Some e) writes ≡ Some (pending_turn m given.Ready e)
  pub open_bad : (seqno : ℤ) (writes : Bool) → m.bad ≡ Some seqno →
      ready_at mirror.Open m None writes ≡ idle_turn m (given.Bad seqno)
  pub ended_bad : (seqno : ℤ) (writes : Bool) → m.bad ≡ Some seqno →
      ready_at mirror.Ended m None writes ≡ idle_turn m (given.Bad seqno)
  pub last_bad : (seqno : ℤ) (writes : Bool) → m.bad ≡ Some seqno →
      ready_at mirror.Nobody m None writes ≡ idle_turn m (given.Bad seqno)
