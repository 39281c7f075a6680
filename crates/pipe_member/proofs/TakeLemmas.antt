-- What stands next can be booked, and its turn is of listed statuses.
use Rattle.std.proofs.Common.{◌≡◌, ◌<◌, ℕ, Bool, true, false, ◌&&◌, not, nat_lt, if◌then◌else◌, List, Option, Some, None, ◌⊎◌, inl, inr, is_some, subst, sym, ap, arith, refl}
use Rattle.std.proofs.lemmas.Bool.Decides.{nat_tests}
use Rattle.hd_base.specs.declared.links.LinkIn as link_in
use Rattle.packet_codec.specs.declared.packets.Packet.{Packet}
use Rattle.packet_codec.specs.Packets.{SpellsPacket}
use Rattle.pipe_setup.specs.AckCodec.Ack.{Ack}
use Rattle.pipe_setup.specs.AckCodec.Response.{Response}
use Rattle.frame_feed.specs.declared.packet_frames.PacketFrame.{PacketFrame}
use Rattle.frame_feed.specs.Kinds.{packets, packet_frames, acks}
use Rattle.link_messages.specs.declared.incoming.Next.{Next}
use Rattle.link_messages.specs.declared.incoming.Next.TheVariants as came
use Rattle.link_messages.specs.Incomings.{IncomingState, Comes, Finds, FindsNone, IsNone, NextEnds}
use Rattle.replica_core.specs.declared.ack_queue.TheConstants.{MAX_PENDING}
use Rattle.pipe_setup.specs.MemberCore.FromAbove.{FromAbove}
use Rattle.pipe_setup.specs.MemberCore.FromAbove.TheVariants as from_above
use Rattle.pipe_setup.specs.MemberCore.FromBelow.TheVariants as from_below
use Rattle.pipe_setup.specs.MemberCore.Mirror.{Mirror}
use Rattle.pipe_setup.specs.MemberCore.Mirror.TheVariants as mirror
use Rattle.pipe_setup.specs.MemberCore.Members.{MemberState, takes_messages, is_waiting, down_turn, up_at, up_turn}
use Rattle.pipe_turns.specs.Turning.{CanBook, IsListed, IsSpelled}
use Rattle.pipe_member.specs.Above.{IsSpelledBy, above_of, without_text, text_of, may_take, due_above}
use Rattle.pipe_member.specs.Below.{IsListedNext, answer_of, ack_of}
use Rattle.pipe_member.specs.Steps.{is_asked}
use Rattle.pipe_member.proofs.SizeLemmas.{encodable}

abbrev framed : Packet → List ℕ → PacketFrame
framed p text = record { packet = p; text = text }

none_framed : (bytes : List ℕ) → IsNone packet_frames bytes → IsNone packets bytes
none_framed bytes none = λ m text more behind s parts. none (framed m text) text more behind (s, refl) parts

none_bare : (bytes : List ℕ) (A : Type 0) → A ⊎ IsNone packet_frames bytes → A ⊎ IsNone packets bytes
none_bare bytes A (inl there) = inl there
none_bare bytes A (inr none) = inr (none_framed bytes none)

finds_bare : (f : PacketFrame) (r : Next PacketFrame) → Finds f r → Finds f.packet (without_text r)
finds_bare f (came.Message n) h = ap PacketFrame.packet h
finds_bare f came.Unreadable h = h
finds_bare f came.End h = h
finds_bare f came.NotYet h = h
finds_bare f came.Failed h = h
finds_bare f came.Memory h = h

finds_none_bare : (ended : Bool) (r : Next PacketFrame) → FindsNone ended r → FindsNone ended (without_text r)
finds_none_bare true (came.Message n) h = h
finds_none_bare true came.Unreadable h = h
finds_none_bare true came.End h = h
finds_none_bare true came.NotYet h = h
finds_none_bare true came.Failed h = h
finds_none_bare true came.Memory h = h
finds_none_bare false (came.Message n) h = h
finds_none_bare false came.Unreadable h = h
finds_none_bare false came.End h = h
finds_none_bare false came.NotYet h = h
finds_none_bare false came.Failed h = h
finds_none_bare false came.Memory h = h

module _ {I : Type 0} (i : link_in.Ghosts I) where
  -- a packet that came is spelled by the bytes that came with it
  pub spelled_by : (old new : IncomingState) (half half' : I) (r : Next PacketFrame) → Comes packet_frames i old new half half' r → IsSpelledBy (above_of (without_text r)) (text_of r)
  spelled_by old new half half' (came.Message f) c = subst (SpellsPacket f.packet) (sym c.spelled.1) c.spelled.0
  spelled_by old new half half' came.Unreadable c = tt
  spelled_by old new half half' came.End c = tt
  spelled_by old new half half' came.NotYet c = tt
  spelled_by old new half half' came.Failed c = tt
  spelled_by old new half half' came.Memory c = tt

  comes_bare : (old new : IncomingState) (half half' : I) (r : Next PacketFrame) → Comes packet_frames i old new half half' r → Comes packets i old new half half' (without_text r)
  comes_bare old new half half' (came.Message f) c = record { text = c.text; spelled = c.spelled.0; listed = tt; front = c.front; reads_on = c.reads_on }
  comes_bare old new half half' came.Unreadable c = (record { fault = c.0.fault; kept = c.0.kept; cause = none_bare new.rest (old.refused ≡ Some c.0.fault) c.0.cause }, c.1)
  comes_bare old new half half' came.End c = (record { empty = c.0.empty; all = c.0.all; cut = c.0.cut; reads_on = c.0.reads_on }, c.1)
  comes_bare old new half half' came.NotYet c = (record { empty = c.0.empty; all = c.0.all; cut = c.0.cut; reads_on = c.0.reads_on }, c.1)
  comes_bare old new half half' came.Failed c = c
  comes_bare old new half half' came.Memory c = c

  -- What comes with its bytes comes.
  pub ends_bare : (old new : IncomingState) (half half' : I) (r : Next PacketFrame) → NextEnds packet_frames i old new half half' r → NextEnds packets i old new half half' (without_text r)
  ends_bare old new half half' r c = record {
    comes = comes_bare old new half half' r c.comes;
    finds = λ on m text behind ended s there. finds_bare (framed m text) r (c.finds on (framed m text) text behind ended (s, refl) there);
    none = λ on ended there. finds_none_bare ended r (c.none on ended there);
    shut = c.shut;
    never_falls = c.never_falls;
  }

  -- an ack that came is of listed statuses
  pub listed_ack : (old new : IncomingState) (half half' : I) (r : Next Ack) → Comes acks i old new half half' r → IsListedNext (ack_of r)
  listed_ack old new half half' (came.Message a) c = c.listed
  listed_ack old new half half' came.Unreadable c = tt
  listed_ack old new half half' came.End c = tt
  listed_ack old new half half' came.NotYet c = tt
  listed_ack old new half half' came.Failed c = tt
  listed_ack old new half half' came.Memory c = tt

pub listed_answer : (r : Next Response) → IsListedNext (answer_of r)
listed_answer (came.Message a) = tt
listed_answer came.Unreadable = tt
listed_answer came.End = tt
listed_answer came.NotYet = tt
listed_answer came.Failed = tt
listed_answer came.Memory = tt

-- ---- what may be taken from above

both : (a b : Bool) → (a && b) ≡ true → b ≡ true
both true b h = h
both false b h = cc

has_room : (m : MemberState) (pending : ℕ) → takes_messages m pending ≡ true → pending < MAX_PENDING
has_room m pending h = let test : nat_lt pending MAX_PENDING ≡ true = both (m.receives && not (is_waiting m.mirror)) (nat_lt pending MAX_PENDING) h in grind (arith, nat_tests, test)

taken_can : (m : MemberState) (pending : ℕ) (x : FromAbove) (text : List ℕ) → may_take m pending x ≡ true → IsSpelledBy (Some x) text → CanBook pending (down_turn m x).call
taken_can m pending (from_above.Packet p) text may h = (has_room m pending may, encodable p text h)
taken_can m pending from_above.Unreadable text may h = tt
taken_can m pending from_above.End text may h = tt

-- the packet of the turn is spelled so
pub down_spelled : (m : MemberState) (x : FromAbove) (text : List ℕ) → IsSpelledBy (Some x) text → IsSpelled (down_turn m x).call (Some text)
down_spelled m (from_above.Packet p) text h = h
down_spelled m from_above.Unreadable text h = tt
down_spelled m from_above.End text h = tt

pub down_listed : (m : MemberState) (x : FromAbove) → IsListed (down_turn m x).effect.sends
down_listed m (from_above.Packet p) = tt
down_listed m from_above.Unreadable = tt
down_listed m from_above.End = tt

due_if : (test : Bool) (x y : FromAbove) → (if test then Some x else None) ≡ Some y → (test ≡ true) × (x ≡ y)
due_if true x y is = (refl, cc)
due_if false x y is = cc

due_may : (m : MemberState) (pending : ℕ) (next : Option FromAbove) (x : FromAbove) → due_above m pending next ≡ Some x → may_take m pending x ≡ true
due_may m pending None x is = cc
due_may m pending (Some y) x is =
    let h : (may_take m pending y ≡ true) × (y ≡ x) = due_if (may_take m pending y) y x is in
    subst (λ (z : FromAbove). may_take m pending z ≡ true) h.1 h.0

pub down_can : (m : MemberState) (pending : ℕ) (next : Option FromAbove) (x : FromAbove) (text : List ℕ) → due_above m pending next ≡ Some x → IsSpelledBy (Some x) text → CanBook pending (down_turn m x).call
down_can m pending next x text is h = taken_can m pending x text (due_may m pending next x is) h

-- ---- what comes from the mirror

asks_at : (at : Mirror) (m : MemberState) → is_some (up_at at m None from_below.End).call ≡ is_asked at
asks_at mirror.Nobody m = refl
asks_at mirror.Asked m = refl
asks_at mirror.Unreachable m = refl
asks_at mirror.Open m = refl
asks_at mirror.Ended m = refl

pub asks : (m : MemberState) → is_some (up_turn m None from_below.End).call ≡ is_asked m.mirror
asks m = asks_at m.mirror m
